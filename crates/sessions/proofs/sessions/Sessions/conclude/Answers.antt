use Rattle.sessions.proofs.Words.{told_of, SessionMove, value_of}
use Rattle.std.proofs.Common.{sym, ◌∙◌, ap}
use Rattle.sessions.proofs.Concluding.{concluded_then, concluded_else}
use Rattle.sessions.proofs.sessions.Sessions.conclude.Goals as goal

pub returns-then-not-ends-clause-concludes : goal.returns-then-not-ends-clause-concludes
returns-then-not-ends-clause-concludes c = concluded_else c.args.self.now c.args.told c.args.effects c.of.result (sym c.ends.ensures ∙ c.if-not-ends.true)
    (c.of.ensures ∙ ap (told_of c.args.told c.args.effects.lost c.args.effects.lost_order) c.nothing_ends.ensures)

pub returns-clause-concludes : goal.returns-clause-concludes
returns-clause-concludes c = rw (← c.self.view_is)
    (concluded_then (value_of c.self.inside) c.end_so.new.self c.args.told c.args.effects c.current-current.result c.of-2.result (sym c.ends.ensures ∙ c.if-not-ends.false)
    (rw (← c.self.view_is) at c.end_so.ensures.ended) c.current-current.ensures (c.of-2.ensures ∙ ap (told_of c.args.told c.args.effects.lost c.args.effects.lost_order) c.ends_as-ended.ensures))

pub returns-then-not-ends-clause-told : goal.returns-then-not-ends-clause-told
returns-then-not-ends-clause-told c = ap (λ (m : SessionMove). m.outcome.told) c.of.ensures

pub returns-clause-told : goal.returns-clause-told
returns-clause-told c = ap (λ (m : SessionMove). m.outcome.told) c.of-2.ensures
