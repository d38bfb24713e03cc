use Rattle.std.proofs.Common.{sym, eq-eqb, ne_eqb}
use Rattle.vss_play.proofs.NewDevices.{one_named, none_named}
use Rattle.vss_play.proofs.devices.names_volume.Goals as goal

pub returns-then-volume-start : goal.returns-then-volume-start
returns-then-volume-start c = sym
    (one_named c.args.scenario.now.volumes c.loop-volume.volume c.args.start c.volume.result c.volume.ensures
    (eq-eqb c.volume.result.name.start c.args.start c.if-volume-start.true))

pub loop-volume-preserved : goal.loop-volume-preserved
loop-volume-preserved c = none_named c.args.scenario.now.volumes c.loop-volume.volume c.args.start c.volume.result c.volume.ensures
    (ne_eqb c.volume.result.name.start c.args.start c.if-volume-start.false) c.loop-volume.invariant
