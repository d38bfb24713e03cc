use Rattle.std.proofs.Common.{ℕ, ◌+◌, ap, ◌∙◌}
use Rattle.writer_meta.specs.Metadata.{meta_of}
use Rattle.sessions.proofs.Knowing.{known_step}
use Rattle.sessions.proofs.sessions.Sessions.metas.Goals as goal

pub loop-writer-preserved : goal.loop-writer-preserved
loop-writer-preserved c = record {
  known = λ st kept.
      known_step c.args.scenario.now st c.loop-writer.writer _ _ _ c.knows.result (meta_of c.metadata.result.now) (c.knows.ensures c.args.scenario.now st kept c.requires) c.metadata.ensures
      (c.loop-writer.invariant.known st kept) c.in_ok-push_if.ensures.seen;
  count = c.in_ok-push_if.ensures.count ∙ ap (λ (n : ℕ). n + 1) c.loop-writer.invariant.count;
}
