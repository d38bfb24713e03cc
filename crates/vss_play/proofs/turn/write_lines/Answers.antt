use Rattle.std.proofs.Common.{arith, ◌<◌, ◌≤◌, List, length, sym, subst}
use Rattle.std.specs.Prelude.{All}
use Rattle.write_history.specs.declared.evicted.Evicted.{Evicted}
use Rattle.vss_report.specs.ToldLines.{most_bytes}
use Rattle.vss_play.proofs.OneMove.{written_as}
use Rattle.vss_play.proofs.turn.write_lines.Goals as goal

pub returns : goal.returns
returns g c = written_as g.D.Device.told c.args.scenario.now c.args.world.now c.args.number c.args.line c.args.item c.args.outcome.now c.listed.result.now
    c.evicted.result.now c.rows.result.now c.args.lines.now.bytes c.move_lines.new.out.bytes c.move_lines.result
    c.listed.ensures.sets c.evicted.ensures.images c.rows.ensures.rows c.move_lines.ensures.ok
    (c.move_lines.ensures.succeeds
    (subst (λ (es : List Evicted). most_bytes (length es) ≤ c.args.lines.now.spare) (sym c.evicted.ensures.images) c.requires.room))
    c.move_lines.ensures.report c.move_lines.ensures.legible

pub move_lines-requires : goal.move_lines-requires
move_lines-requires g c =
    let n = c.requires.numbers in
    record {
      actor_is = n.actor_is;
      told_is = n.told_is;
      lost_are = n.lost_are;
      few_listed = let few = c.listed.ensures.few in omega arith;
      evicted_are = subst (λ (es : List Evicted). All (λ (e : Evicted). e.volume < length c.args.scenario.now.volumes) es) (sym c.evicted.ensures.images) n.evicted_are;
      few_evicted = c.evicted.ensures.few;
      rows_are = λ is. c.rows.ensures.many;
    }
