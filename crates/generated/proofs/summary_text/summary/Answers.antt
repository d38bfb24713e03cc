use Rattle.std.proofs.Common.{◌∙◌, ◌++◌, ap, arith, rules}
use Rattle.generated.specs.Contents.{volume_line, final_digest}
use Rattle.generated.proofs.Ranges.{next_volume, whole_summary}
use Rattle.generated.proofs.summary_text.summary.Goals as goal

pub loop-volume-preserved : goal.loop-volume-preserved
loop-volume-preserved c = record {
  written = next_volume (final_digest c.args.number) c.loop-volume.volume c.loop-volume.out.bytes c.add_volume.new.out.bytes _ c.loop-volume-test.true
      (c.in_ok-add_volume.ensures ∙ ap (λ d. c.loop-volume.out.bytes ++ volume_line c.loop-volume.volume d) c.final_digest-digest.ensures.digest) c.loop-volume.invariant.written;
  size = search rules;
}

pub returns : goal.returns
returns c =
    whole_summary c.args.number c.loop-volume.volume c.reserve.new.self.bytes c.add_head.new.out.bytes c.loop-volume.out.bytes (c.in_ok-reserve.ensures.bytes ∙ c.new-out.ensures) c.in_ok-add_head.ensures
    (omega (arith, c.loop-volume-test.false)) c.loop-volume.invariant.written
