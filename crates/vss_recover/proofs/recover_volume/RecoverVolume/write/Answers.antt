use Rattle.std.proofs.Common.{sym, subst}
use Rattle.block_data.specs.BlockBytes.{payload_bytes}
use Rattle.cow_volume.specs.StandsFor.{GroupValue}
use Rattle.cow_volume.specs.OneVolume.{IsOneWritten, IsOneUnwritten}
use Rattle.vss_recover.proofs.InParts.{value_of, settled_up_to_in_all}
use Rattle.vss_recover.proofs.Taken.{wrote_step, evicted_step}
use Rattle.vss_recover.proofs.recover_volume.RecoverVolume.write.Goals as goal

pub returns-in-Ok-clause-step : goal.returns-in-Ok-clause-step
returns-in-Ok-clause-step g c =
    rw (← c.self.view_is)
    (wrote_step g.D.Device
    (value_of c.self.inside.volume c.self.inside.overlay c.self.inside.window c.self.inside.claims.items c.self.inside.finals.items) c.settle_up_to.new.self
    (record { block = c.args.block; bytes = payload_bytes c.args.payload.now }) c.in-Ok.written.evicted_up_to
    (subst (λ (v : GroupValue _). IsOneWritten g.D.Device c.self.inside.volume v
    (record { block = c.args.block; bytes = payload_bytes c.args.payload.now }) c.in-Ok.written.evicted_up_to)
    (sym c.settle_up_to.ensures.volume) c.in-Ok.ensures.write)
    (settled_up_to_in_all c.self.inside.volume c.write.new.self c.self.inside.overlay c.self.inside.window c.self.inside.claims.items c.self.inside.finals.items c.settle_up_to.new.self
    c.in-Ok.written.evicted_up_to c.settle_up_to.ensures.settled))

pub returns-in-Err-clause-evicted : goal.returns-in-Err-clause-evicted
returns-in-Err-clause-evicted g c =
    rw (← c.self.view_is)
    (evicted_step g.D.Device
    (value_of c.self.inside.volume c.self.inside.overlay c.self.inside.window c.self.inside.claims.items c.self.inside.finals.items) c.settle_up_to-in-Err.new.self
    c.args.block c.in-Err.fault
    (subst (λ (v : GroupValue _). IsOneUnwritten g.D.Device c.self.inside.volume v c.args.block c.in-Err.fault)
    (sym c.settle_up_to-in-Err.ensures.volume) c.in-Err.ensures.write)
    (settled_up_to_in_all c.self.inside.volume c.write.new.self c.self.inside.overlay c.self.inside.window c.self.inside.claims.items c.self.inside.finals.items c.settle_up_to-in-Err.new.self
    c.in-Err.fault.evicted_up_to c.settle_up_to-in-Err.ensures.settled))
