-- What a writer answers, by what the core tells or as one of the caller's own; and when time may pass idly.
use Rattle.std.proofs.Common.{◌≡◌, ◌≢◌, ◌<◌, ◌+◌, ◌==◌, ◌∙◌, ℕ, zero, suc, Bool, true, false, List, [], ◌∷◌, Option, Some, None, ap, arith, get_or, inl, inr}
use Rattle.std.proofs.Common.{subst, sym, refl}
use Rattle.std.proofs.lemmas.Bool.Decides.{nat_tests}
use Rattle.std.specs.List.{list_all, range_with_len}
use Rattle.std.specs.Prelude.{if◌then◌else◌, slice_get, slice_set, ◌⊎◌}
use Rattle.write_history.specs.declared.actor.Actor.TheVariants.{Writer, Idle}
use Rattle.write_history.specs.declared.move_item.Move.{Move}
use Rattle.diff_area.proofs.ByPlace.{get-set, get-set_other}
use Rattle.writer_calls.specs.declared.answer.Answer.{Answer}
use Rattle.writer_calls.specs.declared.standing.Standing.{Standing}
use Rattle.writer_calls.specs.declared.vss_writer.VssWriter.{Ghosts}
use Rattle.scenario.specs.Plan.{Plan}
use Rattle.vss_model.specs.Acts.{state, order_of_writer}
use Rattle.vss_model.specs.Trail.{Run, run, next_line, answer_event, script_event, event_of, event_enabled, may_move}
use Rattle.vss_model.specs.declared.event.Event.{Event}
use Rattle.vss_model.proofs.Appending.{state-run}
use Rattle.vss_world.specs.Stands.{WorldValue, IfStands}
use Rattle.vss_play.specs.Asking.{HoldsTo, IsGiven}
use Rattle.vss_play.specs.Running.{IsPlay, is_enabled_if, next_by, may_idle_in}
use Rattle.vss_play.specs.declared.given.Given.{Given}
use Rattle.vss_play.proofs.Areas.{below_or_at}
use Rattle.vss_play.proofs.Finishing.{next_is, at_lane, all_lanes}

-- ## Writers of the caller's own, one after another.

below : (k n : ℕ) → k < n + 1 → k ≢ n → k < n
below k n low apart = grind arith

-- the members at the next place became these
holds_next : {X Y : Type 0} (P Q : ℕ → X → X → Y → Y → Type 0) (n : ℕ) (xs xs' : List X) (ys ys' : List Y) (x' : X) (y' : Y)
    → ((k : ℕ) (x x' : X) (y y' : Y) → k < n → P k x x' y y' → Q k x x' y y') → HoldsTo P n xs xs' ys ys'
    → ((x : X) (y : Y) → slice_get xs' n ≡ Some x → slice_get ys' n ≡ Some y → Q n x x' y y')
    → HoldsTo Q (n + 1) xs (slice_set xs' n x') ys (slice_set ys' n y')
holds_next P Q n xs xs' ys ys' x' y' weaker h now = record {
  each = λ k a a' b b' low ga ga' gb gb'. elim (get-set xs' n k x' a' ga') [
    | inl p ↦ elim (get-set ys' n k y' b' gb') [
      | inl q ↦ (
          let this = now a b (h.same_xs n (omega arith) ∙ ap (slice_get xs) (sym p.0) ∙ ga) (h.same_ys n (omega arith) ∙ ap (slice_get ys) (sym p.0) ∙ gb) in
          subst (λ m. Q m a a' b b') (sym p.0) (subst (λ z. Q n a z b b') (sym p.1) (subst (λ z. Q n a x' b z) (sym q.1) this)))
      | inr q ↦ absurd (q.0 p.0)
    ]
    | inr p ↦ elim (get-set ys' n k y' b' gb') [
      | inl q ↦ absurd (p.0 q.0)
      | inr q ↦ (let less = below k n low p.0 in weaker k a a' b b' less (h.each k a a' b b' less ga p.1 gb q.1))
    ]
  ];
  same_xs = λ k up. get-set_other xs' n k x' (λ e. omega arith) ∙ h.same_xs k (omega arith);
  same_ys = λ k up. get-set_other ys' n k y' (λ e. omega arith) ∙ h.same_ys k (omega arith);
}

-- ## an order and its answer

got : {X : Type 0} (xs : List X) (n : ℕ) (d x : X) → slice_get xs n ≡ Some x → get_or xs n d ≡ x
got [] n d x e = cc
got (y ∷ xs) zero d x e = cc
got (y ∷ xs) (suc n) d x e = got xs n d x e

-- what the code gave to the writer at a place
pub given_here : {W : Type 0} (ghosts : Ghosts W) (n : ℕ) (polled standing : Option Standing) (gs : List Given) (ws : List W) (d x x' : Given) (e y y' : W) (result answer : Option Answer)
    → slice_get gs n ≡ Some x → slice_get ws n ≡ Some y → polled ≡ standing → result ≡ answer
    → IsGiven ghosts polled (get_or gs n d) x' (get_or ws n e) y' result → IsGiven ghosts standing x x' y y' answer
given_here ghosts n polled standing gs ws d x x' e y y' result answer gx gy p r h =
    subst (λ a. IsGiven ghosts standing x x' y y' a) r (subst (λ s. IsGiven ghosts s x x' y y' result) p
    (subst (λ v. IsGiven ghosts polled x x' v y' result) (got ws n e y gy) (subst (λ v. IsGiven ghosts polled v x' (get_or ws n e) y' result) (got gs n d x gx) h)))

module _ {W : Type 0} (ghosts : Ghosts W) (standing : ℕ → Option Standing) (n : ℕ) (gs gs' : List Given) (ws ws' : List W) (x' : Given) (y' : W)
    (h : HoldsTo (λ k x x' y y'. IsGiven ghosts (standing k) x x' y y' None) n gs gs' ws ws') where
  -- the next writer gave no answer
  pub none_next : ((x : Given) (y : W) → slice_get gs' n ≡ Some x → slice_get ws' n ≡ Some y → IsGiven ghosts (standing n) x x' y y' None)
      → HoldsTo (λ k x x' y y'. IsGiven ghosts (standing k) x x' y y' None) (n + 1) gs (slice_set gs' n x') ws (slice_set ws' n y')
  none_next now =
      holds_next (λ k x x' y y'. IsGiven ghosts (standing k) x x' y y' None) (λ k x x' y y'. IsGiven ghosts (standing k) x x' y y' None) n gs gs' ws ws' x' y'
      (λ k x z y w low g. g) h now

  other_than : (k : ℕ) → k < n → (k == n) ≡ false
  other_than k low = grind (arith, nat_tests)

  itself : (n == n) ≡ true
  itself = grind (arith, nat_tests)

  -- it gave this one
  pub some_next : (answer : Answer) → ((x : Given) (y : W) → slice_get gs' n ≡ Some x → slice_get ws' n ≡ Some y → IsGiven ghosts (standing n) x x' y y' (Some answer))
      → HoldsTo (λ k x x' y y'. IsGiven ghosts (standing k) x x' y y' (if k == n then Some answer else None)) (n + 1) gs (slice_set gs' n x') ws (slice_set ws' n y')
  some_next answer now =
      holds_next (λ k x x' y y'. IsGiven ghosts (standing k) x x' y y' None)
      (λ k x x' y y'. IsGiven ghosts (standing k) x x' y y' (if k == n then Some answer else None)) n gs gs' ws ws' x' y'
      (λ k x z y w low g. subst (λ (b : Bool). IsGiven ghosts (standing k) x z y w (if b then Some answer else None)) (sym (other_than k low)) g) h
      (λ x y gx gy. subst (λ (b : Bool). IsGiven ghosts (standing n) x x' y y' (if b then Some answer else None)) (sym itself) (now x y gx gy))

-- ## When time may pass idly, and what a writer answers, by what the core tells.

enabled_as : (s : Plan) (r : Run) (o : Option Event) → is_enabled_if s r.state o ≡ event_enabled s r o
enabled_as s r o = grind arith

all_same : (p q : ℕ → Bool) (xs : List ℕ) → ((x : ℕ) → p x ≡ q x) → list_all p xs ≡ list_all q xs
all_same p q xs h = grind arith

-- whether time may pass idly, in the state of the run
idle_in : (s : Plan) (r : Run) (cursors : List ℕ) → ((i : ℕ) → next_line s r i ≡ next_by s cursors i) → may_idle_in s cursors r.state ≡ may_move s r Idle
idle_in s r cursors next = grind (arith, all_same, enabled_as)

pub idle_is : {D : Type 0} (told : D → Option (List (List ℕ))) (s : Plan) (w : WorldValue D) (cursors lent : List ℕ) (trail : List Move) (text : List ℕ) (b d : Bool)
    → IsPlay told s w cursors trail text → lent ≡ cursors → IfStands told w s (λ st. b ≡ may_idle_in s lent st) → b ≡ d → may_move s (run s trail) Idle ≡ d
idle_is told s w cursors lent trail text b d kept same tested e = grind (arith, idle_in, next_is, state-run)

-- ## what a writer answers

-- the event of a writer is what the core and its script tell
pub answer_is : {D : Type 0} (told : D → Option (List (List ℕ))) (s : Plan) (w : WorldValue D) (cursors : List ℕ) (trail : List Move) (text : List ℕ) (v : ℕ) (a : Option Answer)
    → IsPlay told s w cursors trail text → IfStands told w s (λ st. answer_event v a ≡ script_event s st v (order_of_writer st v)) → event_of s (run s trail) (Writer v) ≡ answer_event v a
answer_is told s w cursors trail text v a kept tells = grind (arith, state-run)

-- a writer that answers nothing does not move
pub silent_stays : {D : Type 0} (told : D → Option (List (List ℕ))) (s : Plan) (w : WorldValue D) (cursors : List ℕ) (trail : List Move) (text : List ℕ) (v : ℕ) (a : Option Answer)
    → IsPlay told s w cursors trail text → IfStands told w s (λ st. answer_event v a ≡ script_event s st v (order_of_writer st v)) → a ≡ None → may_move s (run s trail) (Writer v) ≡ false
silent_stays told s w cursors trail text v a kept tells none =
    ap (event_enabled s (run s trail)) (answer_is told s w cursors trail text v a kept tells ∙ ap (answer_event v) none)

-- ## all so far

pub all_more : (p : ℕ → Bool) (k : ℕ) → list_all p (range_with_len 0 k) ≡ true → p k ≡ true → list_all p (range_with_len 0 (k + 1)) ≡ true
all_more p k h here = all_lanes p (k + 1) (λ i l. by_place i (below_or_at i k l))
  where
    by_place : (i : ℕ) → (i < k) ⊎ (i ≡ k) → p i ≡ true
    by_place i (inl m) = at_lane p k i m h
    by_place i (inr e) = subst (λ n. p n ≡ true) (sym e) here

pub one_not : (p : ℕ → Bool) (n k : ℕ) → k < n → p k ≡ false → list_all p (range_with_len 0 n) ≡ false
one_not p n k l e = by_value (list_all p (range_with_len 0 n)) refl
  where
    clash : (b : Bool) → b ≡ true → b ≡ false → ⊥
    clash true f g = cc
    clash false f g = cc

    by_value : (b : Bool) → list_all p (range_with_len 0 n) ≡ b → b ≡ false
    by_value true f = absurd (clash (p k) (at_lane p n k l f) e)
    by_value false f = refl
