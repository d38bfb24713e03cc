use Rattle.std.proofs.Common.{[], ◌∷◌, ◌++◌, take, drop, true, false, subst, List}
use Rattle.std.specs.Prelude.{Ok}
use Rattle.write_history.specs.declared.actor.Actor.{Actor}
use Rattle.write_history.specs.declared.actor.Actor.TheVariants.{Idle}
use Rattle.orders.specs.Drawn.{IsFirstToGo}
use Rattle.orders.proofs.Goers.{then_true, then_asked}
use Rattle.orders.proofs.drawing.next_from.Goals as goal

pub returns-then-branch : goal.returns-then-branch
returns-then-branch g c =
    let ghosts = g.D.Device in
    let k = c.args.place in
    let actors = c.args.actors.now in
    let one = subst (λ b. IsFirstToGo ghosts c.args.play.now c.first_to_go.new.play c.split_at-parts.result.1.now (Ok b)) c.if-branch.true c.in_ok-first_to_go.ensures in
    let at = subst (λ (xs : List Actor). IsFirstToGo ghosts c.args.play.now c.first_to_go.new.play xs (Ok true)) c.split_at-parts.ensures.back one in
    then_true ghosts c.args.play.now c.first_to_go.new.play (drop k actors ++ take k actors) (Idle ∷ [])
    (then_true ghosts c.args.play.now c.first_to_go.new.play (drop k actors) (take k actors) at)

pub returns-then-branch-2 : goal.returns-then-branch-2
returns-then-branch-2 g c =
    let ghosts = g.D.Device in
    let k = c.args.place in
    let actors = c.args.actors.now in
    let none = subst (λ b. IsFirstToGo ghosts c.args.play.now c.first_to_go.new.play c.split_at-parts.result.1.now (Ok b)) c.if-branch.false c.in_ok-first_to_go.ensures in
    let none_at = subst (λ (xs : List Actor). IsFirstToGo ghosts c.args.play.now c.first_to_go.new.play xs (Ok false)) c.split_at-parts.ensures.back none in
    let one = subst (λ b. IsFirstToGo ghosts c.first_to_go.new.play c.first_to_go-2.new.play c.split_at-parts.result.0.now (Ok b)) c.if-branch-2.true c.in_ok-first_to_go-2.ensures in
    let at = subst (λ (xs : List Actor). IsFirstToGo ghosts c.first_to_go.new.play c.first_to_go-2.new.play xs (Ok true)) c.split_at-parts.ensures.front one in
    then_true ghosts c.args.play.now c.first_to_go-2.new.play (drop k actors ++ take k actors) (Idle ∷ [])
    (then_asked ghosts c.args.play.now c.first_to_go.new.play c.first_to_go-2.new.play (drop k actors) (take k actors) (Ok true) none_at at)

pub returns : goal.returns
returns g c =
    let ghosts = g.D.Device in
    let k = c.args.place in
    let actors = c.args.actors.now in
    let none = subst (λ b. IsFirstToGo ghosts c.args.play.now c.first_to_go.new.play c.split_at-parts.result.1.now (Ok b)) c.if-branch.false c.in_ok-first_to_go.ensures in
    let none_at = subst (λ (xs : List Actor). IsFirstToGo ghosts c.args.play.now c.first_to_go.new.play xs (Ok false)) c.split_at-parts.ensures.back none in
    let more = subst (λ b. IsFirstToGo ghosts c.first_to_go.new.play c.first_to_go-2.new.play c.split_at-parts.result.0.now (Ok b)) c.if-branch-2.false c.in_ok-first_to_go-2.ensures in
    let more_at = subst (λ (xs : List Actor). IsFirstToGo ghosts c.first_to_go.new.play c.first_to_go-2.new.play xs (Ok false)) c.split_at-parts.ensures.front more in
    then_asked ghosts c.args.play.now c.first_to_go-2.new.play c.first_to_go-3.new.play (drop k actors ++ take k actors) (Idle ∷ []) c.first_to_go-3.result
    (then_asked ghosts c.args.play.now c.first_to_go.new.play c.first_to_go-2.new.play (drop k actors) (take k actors) (Ok false) none_at more_at) c.first_to_go-3.ensures
