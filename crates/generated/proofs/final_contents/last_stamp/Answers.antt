use Rattle.std.proofs.Common.{◌∙◌, ◌+◌, ap}
use Rattle.generated.proofs.Ranges.{next_found, found_is}
use Rattle.generated.proofs.final_contents.last_stamp.Goals as goal

pub loop-k-preserved : goal.loop-k-preserved
loop-k-preserved c =
    let i = c.loop-k.invariant in
    record {
      number = c.next.ensures.number ∙ i.number;
      lane = c.next.ensures.lane ∙ i.lane;
      drawn = c.next.ensures.drawn ∙ ap (λ d. d + 1) i.drawn;
      found = next_found c.args.number c.args.lane c.args.volume c.args.block c.loop-k._k c.loop-k.found c.later-found.result c.loop-k-test.true
          (found_is c.args.number c.args.lane c.loop-k._k c.loop-k.draws.number c.loop-k.draws.lane c.loop-k.draws.drawn c.next.result.volume c.next.result.block c.next.result.stamp c.args.volume c.args.block c.loop-k.found c.later-found.result
          i.number i.lane i.drawn c.next.ensures.volume c.next.ensures.block c.next.ensures.stamp c.later-found.ensures) ∙ i.found;
    }
