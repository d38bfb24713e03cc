use Rattle.std.proofs.Common.{◌∙◌, length, sym, arith}
use Rattle.vss_report.specs.Words.{volume_text}
use Rattle.vss_report.proofs.ReadReplies.{next_named}
use Rattle.vss_report.proofs.shapes.volume_named.Goals as goal

pub loop-volume-preserved : goal.loop-volume-preserved
loop-volume-preserved c =
    next_named (volume_text c.args.scenario.now) c.args.name.now c.volume_name.result.now c.loop-volume.volume (length c.args.scenario.now.volumes) _
    (omega (arith, c.loop-volume-test.true, c.volumes-volume-end.ensures.count)) c.volume_name.ensures.text (sym c.eq.ensures ∙ c.if-eq.false) c.loop-volume.invariant
