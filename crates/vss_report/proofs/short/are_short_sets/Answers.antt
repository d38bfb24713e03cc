use Rattle.std.proofs.Common.{subst}
use Rattle.std.proofs.lemmas.List.{take_all}
use Rattle.std.proofs.lemmas.List.Elements.{All-more}
use Rattle.write_history.specs.declared.evicted.Evicted.{Evicted}
use Rattle.vss_report.specs.Legible.{IsShort, AreShortSets}
use Rattle.vss_report.proofs.short.are_short_sets.Goals as goal

pub loop-image-preserved : goal.loop-image-preserved
loop-image-preserved c =
    All-more (λ (e : Evicted). IsShort e.set) c.args.evicted.now c.loop-image.image-index _ c.loop-image-test.true c.loop-image.invariant (subst IsShort c.from.ensures c.is_short_number.ensures)

pub returns : goal.returns
returns c = subst AreShortSets (take_all c.loop-image.image-index c.args.evicted.now c.loop-image-test.false) c.loop-image.invariant
