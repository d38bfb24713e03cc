use Rattle.std.proofs.Common.{◌≡◌, ◌<◌, ℕ, List, ◌++◌, length, take, ap, sym, ◌∙◌, rules, subst}
use Rattle.std.specs.List.{All}
use Rattle.std.proofs.Math.Seq.{take-append_seam}
use Rattle.std.specs.Prelude.{slice_get, slice_index_or}
use Rattle.write_history.specs.declared.actor.Actor.{Actor}
use Rattle.turn_cell.specs.Callers.{standing, seats, Calls}
use Rattle.turn_cell.specs.Steps.{newcomer}
use Rattle.turn_cell.specs.History.{Stands}
use Rattle.vss_play.specs.Acting.{HasActed}
use Rattle.vss_play.specs.Played.{Played, IsOnward}
use Rattle.vss_play.proofs.Histories.{led, played_after, all_of, played_in_threads}
use Rattle.vss_play.proofs.in_threads.play_all.Goals as goal

-- what is written back to the first places of a list
all_kept : {X : Type 0} (P : X → Type 0) (n : ℕ) (xs ys : List X) → length xs ≡ n → All P xs → All P (take n (xs ++ ys))
all_kept P n xs ys is h = subst (λ (l : List _). All P l) (sym (ap (λ k. take k (xs ++ ys)) (sym is) ∙ take-append_seam xs ys)) h

pub act_all-requires-clause-own : goal.act_all-requires-clause-own
act_all-requires-clause-own g c = λ κs lives.
    subst (λ (xs : List _). All (λ caller. Calls caller c.in_ok-turn.turn) xs) (sym c.as_mut_slice.ensures.value) (λ k d l. (c.in_ok-turn.ensures.callers.1 k d l).0)

pub close-played-requires-clause-own : goal.close-played-requires-clause-own
close-played-requires-clause-own g c =
    all_kept (λ caller. Calls caller c.in_ok-turn.turn) c.in_ok-turn.callers.len c.act_all.new.callers _ (search rules) c.act_all.ensures.own

pub returns-clause-played : goal.returns-clause-played
returns-clause-played g c =
    let start = c.in_ok-turn.ensures.turn.0 in
    let onward = (led g.D.Device _ c.close-played.ensures.history c.close-played.result c.close-played.ensures.leads).onward in
    played_after g.D.Device c.args.play c.close-played.result (subst (λ (p : Played _). IsOnward g.D.Device p c.close-played.result) start onward) c.play_in_turn.result c.play_in_turn.ensures

pub returns-clause-threads : goal.returns-clause-threads
returns-clause-threads g c =
    let seated : seats c.in_ok-turn.turn ≡ length c.in_ok-actors.actors.items = search rules in
    let same : length c.act_all.new.callers ≡ length c.as_mut_slice.result.now = search rules in
    let many : length c.as_mut_slice.result.now ≡ length c.in_ok-actors.actors.items = search rules in
    played_in_threads g.D.Device (λ caller. standing caller) _ c.args.play c.close-played.result c.in_ok-actors.actors.items c.as_mut_slice.result.now
    c.act_all.new.callers c.close-played.ensures.history (seats c.in_ok-turn.turn)
    c.lines-kept.ensures.kept c.in_ok-turn.ensures.turn.0 c.in_ok-actors.ensures.each seated same many c.close-played.ensures.leads c.close-played.ensures.numbered
    (subst (λ (xs : List _). (i : ℕ) (d : _) → i < length xs → standing (slice_index_or xs i d) ≡ newcomer i) (sym c.as_mut_slice.ensures.value) (λ i d l. (c.in_ok-turn.ensures.callers.1 i d l).1))
    (subst (λ (xs : List Actor). (i : ℕ) (d : _) → i < length c.as_mut_slice.result.now → HasActed (slice_get xs i) (standing (slice_index_or c.as_mut_slice.result.now i d)) (standing (slice_index_or c.act_all.new.callers i d))) c.as_slice.ensures.value c.act_all.ensures.acted)
    (all_of (λ caller. standing caller) (Stands c.close-played.ensures.history) c.in_ok-turn.callers.len c.act_all.new.callers _ (search rules) c.close-played.ensures.each)
    c.play_in_turn.result c.play_in_turn.ensures
