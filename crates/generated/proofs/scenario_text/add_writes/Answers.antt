use Rattle.std.proofs.Common.{◌∙◌, ◌+◌, ◌++◌, ap, arith}
use Rattle.generated.specs.ScenarioText.{drawn_text}
use Rattle.generated.proofs.Ranges.{next_piece, no_piece, draws_line}
use Rattle.generated.proofs.scenario_text.add_writes.Goals as goal

pub loop-k-preserved : goal.loop-k-preserved
loop-k-preserved c =
    let i = c.loop-k.invariant in
    let line = draws_line c.args.number c.args.lane c.loop-k._k c.loop-k.draws.number c.loop-k.draws.lane c.loop-k.draws.drawn c.next.result.volume c.next.result.block c.next.result.stamp
    i.number i.lane i.drawn c.next.ensures.volume c.next.ensures.block c.next.ensures.stamp in
    record {
      number = c.next.ensures.number ∙ i.number;
      lane = c.next.ensures.lane ∙ i.lane;
      drawn = c.next.ensures.drawn ∙ ap (λ d. d + 1) i.drawn;
      written = next_piece (drawn_text c.args.number c.args.lane) c.loop-k._k 200 c.loop-k.out.bytes c.add_write.new.out.bytes _ c.loop-k-test.true
          (c.in_ok-add_write.ensures ∙ ap (λ xs. c.loop-k.out.bytes ++ xs) line) i.written;
    }

pub returns : goal.returns
returns c = no_piece (drawn_text c.args.number c.args.lane) c.loop-k._k 200 c.loop-k.out.bytes _ (omega (arith, c.loop-k-test.false)) c.loop-k.invariant.written
