use Rattle.std.proofs.Common.{refl, sym, subst, List, Some}
use Rattle.std.proofs.lemmas.Result.{err_from_is_err_and}
use Rattle.vss_recover.specs.declared.claim.Claim.{Claim}
use Rattle.vss_recover.specs.Steps.{AreWithin}
use Rattle.vss_recover.specs.Calls.{IsStep}
use Rattle.vss_recover.specs.Steps.Step.{Opened}
use Rattle.vss_recover.proofs.InParts.{value_of}
use Rattle.vss_recover.proofs.Taken.{opened_step}
use Rattle.vss_recover.proofs.recover_volume.RecoverVolume.pre_final.Goals as goal

pub returns-in_err-may_open-clause-opened : goal.returns-in_err-may_open-clause-opened
returns-in_err-may_open-clause-opened g c =
    let p = err_from_is_err_and c.from_residual.result c.from_residual.ensures.1 in
    rw (p.1, p.2) (c.in_err-may_open.ensures.cause c.args.claims.now, refl)

pub returns-clause-step : goal.returns-clause-step
returns-clause-step g c =
    let may = rw (← c.self.view_is) at c.in_ok-may_open.ensures.may in
    rw (← c.self.view_is)
    (subst (λ (cs : List Claim). IsStep g.D.Device.told (value_of c.self.inside.volume c.self.inside.overlay c.self.inside.window c.self.inside.claims.items c.self.inside.finals.items)
    (value_of c.self.inside.volume c.self.inside.overlay (Some c.args.set) cs c.self.inside.finals.items) (Opened c.args.set c.args.claims.now)) (sym c.take_claims.ensures.items)
    (opened_step g.D.Device.told
    (value_of c.self.inside.volume c.self.inside.overlay c.self.inside.window c.self.inside.claims.items c.self.inside.finals.items) c.args.set c.args.claims.now may.0.1 may.1 may.2
    (subst (λ n. AreWithin n c.args.claims.now) c.blocks-2.ensures (c.in_default.ensures.none refl)) (c.in_default-first_overlap.ensures.none refl)))
