use Rattle.std.proofs.Common.{refl, ap, subst, sym, ◌∙◌, arith, Ok}
use Rattle.std.specs.Prelude.{Result, Err, IsErr, OnErr}
use Rattle.std.proofs.lemmas.Bool.Decides.{nat_tests}
use Rattle.turn_cell.proofs.Lists.{prefix_self, prefix_trans}
use Rattle.vss_play.proofs.Histories.{begins, moved, blocked_once, turns, left_finished, left_blocked, wanted}
use Rattle.vss_play.proofs.actor_loop.take_turns_as.Goals as goal

when_err : {T E P : Type 0} (r : Result T E) → P → OnErr r P
when_err (Ok x) p = tt
when_err (Err e) p = p

pub returns-in_err-take_one-clause-mine : goal.returns-in_err-take_one-clause-mine
returns-in_err-take_one-clause-mine g c = turns c.args.actor _ _ _ _ _ c.loop.invariant.3 c.take_one.ensures.mine refl

pub returns-then-blocked-eq-MOST_BLOCKED-clause-mine : goal.returns-then-blocked-eq-MOST_BLOCKED-clause-mine
returns-then-blocked-eq-MOST_BLOCKED-clause-mine g c = turns c.args.actor _ _ _ _ _ c.loop.invariant.3 c.take_one.ensures.mine refl

pub returns-in-Finished-clause-mine : goal.returns-in-Finished-clause-mine
returns-in-Finished-clause-mine g c = turns c.args.actor _ _ _ _ _ c.loop.invariant.3 c.take_one.ensures.mine refl

pub loop-init : goal.loop-init
loop-init g c = (tt, tt, prefix_self _, begins c.args.actor _, (refl, refl), c.requires, omega arith)

pub loop-preserved-in-Moved : goal.loop-preserved-in-Moved
loop-preserved-in-Moved g c =
    let i = c.loop.invariant in
    let same = c.take_one.ensures.same in (
      tt,
      tt,
      prefix_trans _ _ _ i.2 c.take_one.ensures.seen,
      moved c.args.actor _ _ _ _ _ i.3 c.take_one.ensures.mine refl,
      (same.0 ∙ i.4.0, same.1 ∙ i.4.1),
      same.0 ∙ i.5,
      omega arith,
    )

pub loop-preserved : goal.loop-preserved
loop-preserved g c =
    let i = c.loop.invariant in
    let same = c.take_one.ensures.same in
    let below = i.6 in
    let not = c.if-blocked-eq-MOST_BLOCKED.false in (
      tt,
      tt,
      prefix_trans _ _ _ i.2 c.take_one.ensures.seen,
      blocked_once c.args.actor _ _ _ _ _ i.3 c.take_one.ensures.mine refl (c.in_ok-take_one.was ∙ ap Ok c.in-Blocked.is),
      (same.0 ∙ i.4.0, same.1 ∙ i.4.1),
      same.0 ∙ i.5,
      grind (arith, nat_tests),
    )

pub returns-then-blocked-eq-MOST_BLOCKED-clause-left : goal.returns-then-blocked-eq-MOST_BLOCKED-clause-left
returns-then-blocked-eq-MOST_BLOCKED-clause-left g c =
    let is = c.if-blocked-eq-MOST_BLOCKED.true in
    left_blocked c.args.actor _ _ _ _ _ c.loop.invariant.3 c.take_one.ensures.mine (c.in_ok-take_one.was ∙ ap Ok c.in-Blocked.is) (grind (arith, nat_tests))

pub returns-in_err-take_one-clause-wanting : goal.returns-in_err-take_one-clause-wanting
returns-in_err-take_one-clause-wanting g c =
    when_err _ (wanted c.args.actor _ _ _ _ _ c.loop.invariant.3 c.take_one.ensures.mine (subst (λ r. IsErr r) (sym c.in_err-take_one.was) refl))

pub returns-in-Finished-clause-left : goal.returns-in-Finished-clause-left
returns-in-Finished-clause-left g c = left_finished c.args.actor _ _ _ _ _ c.loop.invariant.3 c.take_one.ensures.mine (c.in_ok-take_one.was ∙ ap Ok c.in-Finished.is)
