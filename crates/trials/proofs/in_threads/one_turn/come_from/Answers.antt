use Rattle.std.proofs.Common.{◌≡◌, ◌<◌, length, vec_len, subst, sym, rules}
use Rattle.std.proofs.lemmas.List.Elements.{All-set}
use Rattle.turn_cell.specs.Callers.{Calls}
use Rattle.trials.proofs.in_threads.one_turn.come_from.Goals as goal

pub come-requires : goal.come-requires
come-requires g c =
    let many : length c.args.callers.now.items ≡ vec_len c.args.callers.now = search rules in
    let within : c.args.seat < length c.args.callers.now.items = rw many c.requires.seat in
    subst (λ caller. Calls caller c.args.turn.now) (sym c.index_mut.ensures.value) (c.requires.own c.args.seat c.index_mut.result.now within)

pub returns-clause-own : goal.returns-clause-own
returns-clause-own g c = All-set (λ caller. Calls caller c.args.turn.now) c.args.callers.now.items c.args.seat c.come.new.caller c.come.ensures c.requires.own
