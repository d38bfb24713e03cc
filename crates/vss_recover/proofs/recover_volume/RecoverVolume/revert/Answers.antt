use Rattle.std.proofs.Common.{◌≡◌, sym, subst, arith}
use Rattle.std.specs.Prelude.{Err}
use Rattle.cow_volume.specs.StandsFor.{GroupValue}
use Rattle.cow_volume.specs.OneVolume.{IsOneReverted, IsOneRevert}
use Rattle.vss_recover.specs.declared.recover_revert.RecoverRevert.TheVariants.{Other}
use Rattle.vss_recover.specs.OverlayCalls.{count_in}
use Rattle.vss_recover.specs.Calls.{IsRevertStep}
use Rattle.vss_recover.specs.RecoverValue.{RecoverValue}
use Rattle.vss_recover.proofs.InParts.{value_of, settled_in_all, revert_fault_step}
use Rattle.vss_recover.proofs.Taken.{blocks_counted, reverted_step}
use Rattle.vss_recover.proofs.recover_volume.RecoverVolume.revert.Goals as goal

pub returns-in-Ok-clause-step : goal.returns-in-Ok-clause-step
returns-in-Ok-clause-step g c =
    let is = rw c.in-Ok.is at c.revert-reverted.ensures in
    let none : count_in c.args.set c.self.inside.overlay.records ≡ 0 = (let e = c.used_by-blocks.ensures in let l = c.if-blocks-gt0.false in omega arith) in
    let settled = settled_in_all c.self.inside.volume c.revert-reverted.new.self c.self.inside.overlay c.self.inside.window c.self.inside.claims.items c.self.inside.finals.items c.settle.new.self
    c.settle.ensures.settled in
    rw (← c.self.view_is)
    (λ h p stood point. reverted_step g.D.Device
    (value_of c.self.inside.volume c.self.inside.overlay c.self.inside.window c.self.inside.claims.items c.self.inside.finals.items) c.settle.new.self c.args.set c.self.invariant.fits
    c.slots-valid.ensures.valid none settled h p stood point
    (subst (λ (v : GroupValue _). IsOneReverted g.D.Device c.self.inside.volume v c.args.set) (sym c.settle.ensures.volume) is))

pub returns-then-blocks-gt0-clause-number : goal.returns-then-blocks-gt0-clause-number
returns-then-blocks-gt0-clause-number g c = rw (← c.self.view_is)
    (λ h stood among. blocks_counted g.D.Device.told
    (value_of c.self.inside.volume c.self.inside.overlay c.self.inside.window c.self.inside.claims.items c.self.inside.finals.items) h c.args.set stood c.self.invariant.fits
    c.slots-valid.ensures.valid among)

pub returns-in-Ok-clause-number : goal.returns-in-Ok-clause-number
returns-in-Ok-clause-number g c = rw (← c.self.view_is)
    (λ h stood among. blocks_counted g.D.Device.told
    (value_of c.self.inside.volume c.self.inside.overlay c.self.inside.window c.self.inside.claims.items c.self.inside.finals.items) h c.args.set stood c.self.invariant.fits
    c.slots-valid.ensures.valid among)

pub returns-in-Err-clause-number : goal.returns-in-Err-clause-number
returns-in-Err-clause-number g c = rw (← c.self.view_is)
    (λ h stood among. blocks_counted g.D.Device.told
    (value_of c.self.inside.volume c.self.inside.overlay c.self.inside.window c.self.inside.claims.items c.self.inside.finals.items) h c.args.set stood c.self.invariant.fits
    c.slots-valid.ensures.valid among)

pub returns-in-Err-clause-step : goal.returns-in-Err-clause-step
returns-in-Err-clause-step g c =
    let is = rw c.in-Err.is at c.revert-reverted.ensures in
    let none : count_in c.args.set c.self.inside.overlay.records ≡ 0 = (let e = c.used_by-blocks.ensures in let l = c.if-blocks-gt0.false in omega arith) in
    let settled = settled_in_all c.self.inside.volume c.revert-reverted.new.self c.self.inside.overlay c.self.inside.window c.self.inside.claims.items c.self.inside.finals.items c.settle.new.self
    c.settle.ensures.settled in
    subst (λ (v : RecoverValue _). IsRevertStep g.D.Device.told v c.settle.new.self c.args.set (Err (Other c.in-Err.fault))) c.self.view_is
    (revert_fault_step g.D.Device
    (value_of c.self.inside.volume c.self.inside.overlay c.self.inside.window c.self.inside.claims.items c.self.inside.finals.items) c.settle.new.self c.args.set c.in-Err.fault c.self.invariant.fits
    c.slots-valid.ensures.valid none settled
    (subst (λ (v : GroupValue _). IsOneRevert g.D.Device c.self.inside.volume v c.args.set (Err c.in-Err.fault))
    (sym c.settle.ensures.volume) is))
