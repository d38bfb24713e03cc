use Rattle.std.proofs.Common.{refl, sym, subst, ◌∙◌}
use Rattle.block_data.specs.BlockBytes.{payload_bytes}
use Rattle.scenario.specs.declared.line.Line.{Line as Does}
use Rattle.vss_world.specs.Changes.{IsWriteBy}
use Rattle.vss_world.proofs.ToldMarks.{looked}
use Rattle.vss_world.proofs.world.World.fail_line.Goals as goal

pub returns-in-Reads : goal.returns-in-Reads
returns-in-Reads g c =
    rw c.fail_look.ensures.told (rw c.fail_look.ensures.after (looked g.D.Device c.args.scenario.now c.args.self.now c.args.lane c.args.op c.in-Reads.volume _ c.requires.of
    (sym c.line.ensures ∙ c.in-Reads.is) refl c.requires.in_range (λ acts stands. refl)))

pub returns-in-Writes : goal.returns-in-Writes
returns-in-Writes g c = record {
  stepped = c.write.ensures.stepped c.args.op
      (subst (λ (l : Does). IsWriteBy l c.in-Writes.volume (record { block = c.in-Writes.block; bytes = payload_bytes c.in-Writes.payload })) (sym (sym c.line.ensures ∙ c.in-Writes.is)) (refl, refl));
  marked = λ needs acts stands allowed. c.write.ensures.marked refl;
  lasts = λ e. cc;
}

pub returns-in-ShowsImage : goal.returns-in-ShowsImage
returns-in-ShowsImage g c =
    rw c.fail_look-in-ShowsImage.ensures.told (rw c.fail_look-in-ShowsImage.ensures.after
    (looked g.D.Device c.args.scenario.now c.args.self.now c.args.lane c.args.op c.in-ShowsImage.volume _ c.requires.of
    (sym c.line.ensures ∙ c.in-ShowsImage.is) refl c.requires.in_range (λ acts stands. c.is_kept.ensures acts stands ∙ c.if-not-is_kept.false)))

pub returns-in-ShowsBlock : goal.returns-in-ShowsBlock
returns-in-ShowsBlock g c =
    rw c.fail_look-in-ShowsBlock.ensures.told (rw c.fail_look-in-ShowsBlock.ensures.after
    (looked g.D.Device c.args.scenario.now c.args.self.now c.args.lane c.args.op c.in-ShowsBlock.volume _ c.requires.of
    (sym c.line.ensures ∙ c.in-ShowsBlock.is) refl c.requires.in_range (λ acts stands. c.is_kept-in-ShowsBlock.ensures acts stands ∙ c.if-not-is_kept-2.false)))
