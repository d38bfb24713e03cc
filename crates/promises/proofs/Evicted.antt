-- Exactly the kept images that a write takes are told as evicted.
use Rattle.std.proofs.Common.{◌≡◌, ◌∙◌, ℕ, ◌+◌, ◌==◌, ◌<◌, zero, suc, List, [], ◌∷◌, ◌++◌, ◌⊎◌, Option, Some, None, refl, Bool, true, false, ap, sym, inl, inr, filter, length, arith}
use Rattle.std.specs.Prelude.{◌&&◌, not, nat_lt, if◌then◌else◌}
use Rattle.promises.proofs.Words.{list_any, list_all, flat_map, list_any-append, lt-ltb, Fill, Stamp, payload_bytes, Evicted, Mark, Write, History, evicted_of}
use Rattle.promises.proofs.Words.{is_among, Op, Target, target_of, Plan, Event, Line, State, SetRow, is_complete, in_progress, has_image, is_kept_set}
use Rattle.promises.proofs.Words.{NumberedFrom, Act, enabled, happens, after, volumes_losing, evicted_for, evicted_at, evicted, true_not_false, orderly}
use Rattle.promises.proofs.Words.{running_incomplete, at, FewerIn, fewer_in_over, as_many_gone, stands, Fails, is_told, goes_before, are_in_order}
use Rattle.promises.proofs.Words.{TellsEvicted, after_enabled, and-false, and_from, true_from_ne_false, or_left, or_from, set_loses_image, cleared, with_room}
use Rattle.promises.proofs.Words.{put, write, number_is}
use Rattle.scenario.specs.declared.op.Op.TheVariants as op
use Rattle.promises.proofs.Members.{both_ways, beyond, still_less}
use Rattle.promises.proofs.Images.{volumes_put, volumes_room, roomy, wants_or_fails}
use Rattle.promises.proofs.Participants.{off}
use Rattle.std.proofs.lemmas.List.Folds.{list_all-append}

-- ## the volumes that lose an image

none_before : (n u v : ℕ) (hs ks : List History) → v < u → is_among v (volumes_losing n u hs ks) ≡ false
none_before n u v [] ks l = refl
none_before n u v (h ∷ hs) [] l = refl
none_before n u v (h ∷ hs) (k ∷ ks) l = grind (arith, still_less, or_from, beyond, none_before n (u + 1) v hs ks (still_less u v l))

among_losing : (n u k v : ℕ) (hs ks : List History) → length ks ≡ length hs → v ≡ u + k → is_among v (volumes_losing n u hs ks) ≡ (has_image n (at hs k) && not (has_image n (at ks k)))
among_losing n u zero v [] ks e f = refl
among_losing n u (suc k) v [] ks e f = refl
among_losing n u k v (h ∷ hs) [] e f = absurd cc
among_losing n u zero v (h ∷ hs) (k ∷ ks) e f = grind (arith, none_before, or_left)
among_losing n u (suc j) v (h ∷ hs) (k ∷ ks) e f = grind (arith, among_losing n (u + 1) j v hs ks (grind arith) (grind arith))

-- ## the sets that lose one

told_of : (m n v : ℕ) (vs : List ℕ) → is_told n v (evicted_of m vs) ≡ ((m == n) && is_among v vs)
told_of m n v [] = off (m == n)
told_of m n v (u ∷ vs) = grind (arith, told_of m n v vs)

module _ (n v : ℕ) (hs ks : List History) where
  abbrev told_row : SetRow → List Evicted
  told_row r = evicted_of r.number (volumes_losing r.number 0 hs ks)

  told_rows : (rows : List SetRow) → is_told n v (flat_map told_row (filter (λ r. is_complete r.result) rows))
      ≡ (list_any (λ (r : SetRow). (r.number == n) && is_complete r.result) rows && is_among v (volumes_losing n 0 hs ks))
  told_rows [] = refl
  told_rows (r ∷ rows) = grind (arith, and-false, list_any-append, told_of, number_is, told_rows rows)

-- ## in order

all_of_both : (test : Evicted → Bool) (xs ys : List Evicted) → list_all test xs ≡ true → list_all test ys ≡ true → list_all test (xs ++ ys) ≡ true
all_of_both test xs ys e f = list_all-append test xs ys ∙ and_from (list_all test xs) (list_all test ys) e f

-- images of one set, on volumes from u on
abbrev of_set : ℕ → ℕ → List History → List History → List Evicted
of_set m u hs ks = evicted_of m (volumes_losing m u hs ks)

after_volume : (m u w : ℕ) (hs ks : List History) → w < u → list_all (goes_before (record { set = m; volume = w })) (of_set m u hs ks) ≡ true
after_volume m u w [] ks l = refl
after_volume m u w (h ∷ hs) [] l = refl
after_volume m u w (h ∷ hs) (k ∷ ks) l = grind (arith, still_less, and_from, after_volume m (u + 1) w hs ks (still_less u w l))

-- a list in order behind images of one set
in_order_on : (m u : ℕ) (hs ks : List History) (es : List Evicted) → are_in_order es ≡ true → list_all (λ (f : Evicted). nat_lt m f.set) es ≡ true → are_in_order (of_set m u hs ks ++ es) ≡ true
in_order_on m u [] ks es e f = e
in_order_on m u (h ∷ hs) [] es e f = e
in_order_on m u (h ∷ hs) (k ∷ ks) es e f = by_loss (has_image m h && not (has_image m k)) (in_order_on m (u + 1) hs ks es e f) where
  later_sets : (fs : List Evicted) → list_all (λ (x : Evicted). nat_lt m x.set) fs ≡ true → list_all (goes_before (record { set = m; volume = u })) fs ≡ true
  later_sets [] g = refl
  later_sets (x ∷ fs) g = grind (arith, later_sets fs)

  by_loss : (b : Bool) → are_in_order (of_set m (u + 1) hs ks ++ es) ≡ true
      → are_in_order (evicted_of m (if b then u ∷ volumes_losing m (u + 1) hs ks else volumes_losing m (u + 1) hs ks) ++ es) ≡ true
  by_loss true ih =
      and_from (list_all (goes_before (record { set = m; volume = u })) (of_set m (u + 1) hs ks ++ es)) (are_in_order (of_set m (u + 1) hs ks ++ es))
      (all_of_both (goes_before (record { set = m; volume = u })) (of_set m (u + 1) hs ks) es (after_volume m (u + 1) u hs ks (omega arith)) (later_sets es f)) ih
  by_loss false ih = ih

of_later_set : (m k : ℕ) (vs : List ℕ) → m < k → list_all (λ (f : Evicted). nat_lt m f.set) (evicted_of k vs) ≡ true
of_later_set m k [] l = refl
of_later_set m k (v ∷ vs) l = and_from (nat_lt m k) (list_all (λ (f : Evicted). nat_lt m f.set) (evicted_of k vs)) (lt-ltb m k l) (of_later_set m k vs l)

module _ (hs ks : List History) where
  later_rows : (m k : ℕ) (rows : List SetRow) → NumberedFrom k rows → m < k
      → list_all (λ (f : Evicted). nat_lt m f.set) (flat_map (told_row 0 0 hs ks) (filter (λ r. is_complete r.result) rows)) ≡ true
  later_rows m k [] num l = refl
  later_rows m k (r ∷ rows) num l = grind (arith, all_of_both, of_later_set, later_rows m (k + 1) rows num.1 (grind arith))

  rows_in_order : (k : ℕ) (rows : List SetRow) → NumberedFrom k rows → are_in_order (flat_map (told_row 0 0 hs ks) (filter (λ r. is_complete r.result) rows)) ≡ true
  rows_in_order k [] num = refl
  rows_in_order k (r ∷ rows) num = grind (arith, later_rows, in_order_on, rows_in_order (k + 1) rows num.1)

-- ## a write

module _ (s : Plan) (st : State) (num : NumberedFrom 1 st.sets) (n v u : ℕ) (w : Write) (mark : Mark) where
  abbrev written_to : State
  written_to = put u w mark (with_room s u w.block st)

  abbrev fits : State
  fits = roomy s st num n v u w mark

  not_failed : is_kept_set st n ≡ true → Fails st written_to n → ⊥
  not_failed e f = true_not_false (is_kept_set st n) e (ap (is_kept_set st) (sym f.number) ∙ running_incomplete st.sets f.set num f.is)

  fewer : FewerIn fits.volumes written_to.volumes
  fewer =
      fewer_in_over fits.volumes (with_room s u w.block st).volumes written_to.volumes
      (volumes_room s st num n v (set_loses_image (in_progress st) st.volumes fits.volumes) fits) (volumes_put s st num n v u w mark (with_room s u w.block st))

  -- of a kept image nothing else is taken
  stands_on : is_kept_set st n ≡ true → stands st n v ≡ true → stands written_to n v ≡ stands fits n v
  stands_on e h = both_ways (stands written_to n v) (stands fits n v) ((fewer.each v).sets n) (λ g. true_from_ne_false (stands written_to n v) (gone g)) where
    gone : stands fits n v ≡ true → stands written_to n v ≡ false → ⊥
    gone g f = by_cases (wants_or_fails s st num n v u w mark (set_loses_image (in_progress st) st.volumes fits.volumes) (stands fits n v) refl h f) where
      by_cases : Fails st written_to n ⊎ (stands fits n v ≡ false) → ⊥
      by_cases (inl x) = not_failed e x
      by_cases (inr x) = true_not_false (stands fits n v) g x

  told_for : is_told n v (evicted_for s st u w.block) ≡ (is_kept_set st n && (stands st n v && not (stands written_to n v)))
  told_for =
      told_rows n v st.volumes fits.volumes st.sets
      ∙ ap (λ b. is_kept_set st n && b) (among_losing n 0 v v st.volumes fits.volumes (as_many_gone _ _ st.volumes) (omega arith))
      ∙ by_kept (is_kept_set st n) (stands st n v) refl refl where
        by_kept : (b c : Bool) → is_kept_set st n ≡ b → stands st n v ≡ c → (b && (c && not (stands fits n v))) ≡ (b && (c && not (stands written_to n v)))
        by_kept b c e f = grind (arith, stands_on)

told_if : (s : Plan) (st : State) (act : Act) (n v u : ℕ) (w : Write) (event : Event) → NumberedFrom 1 st.sets → act.event ≡ event
    → evicted s st event ≡ evicted_for s st u w.block → after s st act ≡ (write s u w act.mark st).1
    → is_told n v (evicted s st act.event) ≡ (is_kept_set st n && (stands st n v && not (stands (after s st act) n v)))
unfolding write
told_if s st act n v u w event num e f g = grind (arith, told_for)

happened : (s : Plan) (st : State) (act : Act) (event : Event) → act.event ≡ event → enabled s st act.event ≡ true → after s st act ≡ (happens s event act.mark st).1
happened s st act event e on = after_enabled s st act on ∙ ap (λ x. (happens s x act.mark st).1) e

told_by : (s : Plan) (st : State) (act : Act) (lane n v : ℕ) (o : Op) (t : Target) → NumberedFrom 1 st.sets → act.event ≡ Line lane o → target_of o ≡ Some t → enabled s st act.event ≡ true
    → is_told n v (evicted s st act.event) ≡ (is_kept_set st n && (stands st n v && not (stands (after s st act) n v)))
told_by s st act lane n v (op.WriteFill u b x) t num e f on = told_if s st act n v u (record { block = b; bytes = payload_bytes (Fill x) })
    (Line lane (op.WriteFill u b x)) num e refl (happened s st act (Line lane (op.WriteFill u b x)) e on)
told_by s st act lane n v (op.WriteStamp u b x) t num e f on = told_if s st act n v u (record { block = b; bytes = payload_bytes (Stamp x) })
    (Line lane (op.WriteStamp u b x)) num e refl (happened s st act (Line lane (op.WriteStamp u b x)) e on)
told_by s st act lane n v o t num e f on = absurd cc

ordered_at : (s : Plan) (st : State) (t : Option Target) → NumberedFrom 1 st.sets → are_in_order (evicted_at s st t) ≡ true
ordered_at s st None num = refl
ordered_at s st (Some t) num = rows_in_order st.volumes (cleared s t.volume t.block st).volumes 1 st.sets num

pub tells_evicted : (s : Plan) (so_far : List Act) (act : Act) → TellsEvicted s so_far act
tells_evicted s so_far act = grind (arith, orderly, told_by, ordered_at)
