-- The rows of sets: no volume is twice in one, no act loses one, and one that is over stays as it is.
use Rattle.std.proofs.Common.{◌≡◌, ◌∙◌, ℕ, ◌+◌, ◌==◌, ◌<◌, List, [], ◌∷◌, ◌++◌, Some, refl, Bool, true, false, ap, sym, subst, map, find, arith}
use Rattle.std.specs.Prelude.{◌||◌}
use Rattle.vss_model.specs.Changes.{Settles}
use Rattle.promises.proofs.Members.{still_less}
use Rattle.promises.proofs.Words.{list_any-append, SetOutcome, Mark, is_among, are_distinct, Plan, Event, State, SetRow, in_progress, row_changed}
use Rattle.promises.proofs.Words.{NumberedFrom, Act, after, state, orderly, row_running, VolumesAreDistinct, some_same, other_way, and_from, and_parts}
use Rattle.promises.proofs.Words.{or_parts, or-false, row_settled, with_volume, row_cut, Change, StartsSet, AddsVolume, IsCutAt, apply, IsAdd}
use Rattle.promises.proofs.Words.{Comes, by_changes, volumes_cut, by_acts, or_left, append_assoc, is_running, state-append, found_above, IsLaterRow}
use Rattle.promises.proofs.Words.{HasLaterRow, KeepsRows, append_nothing, with_cut, later, row_number}

-- ## No volume is twice in a set.

abbrev AllDistinct : List SetRow → Type 0
AllDistinct [] = Unit {0}
AllDistinct (r ∷ rows) = (are_distinct r.volumes ≡ true) × AllDistinct rows

distinct_map : (f : SetRow → SetRow) → ((r : SetRow) → (f r).volumes ≡ r.volumes) → (rows : List SetRow) → AllDistinct rows → AllDistinct (map f rows)
distinct_map f e [] h = tt
distinct_map f e (r ∷ rows) h = (ap are_distinct (e r) ∙ h.0, distinct_map f e rows h.1)

distinct_append : (rows : List SetRow) (r : SetRow) → AllDistinct rows → are_distinct r.volumes ≡ true → AllDistinct (rows ++ r ∷ [])
distinct_append [] r h e = (e, tt)
distinct_append (q ∷ rows) r h e = (h.0, distinct_append rows r h.1 e)

distinct_found : (n : ℕ) (rows : List SetRow) (r : SetRow) → AllDistinct rows → find (λ (q : SetRow). q.number == n) rows ≡ Some r → are_distinct r.volumes ≡ true
distinct_found n [] r h e = absurd cc
distinct_found n (q ∷ rows) r h e = grind (arith, some_same, distinct_found n rows r h.1)

-- ## a volume is added

among_other : (x v : ℕ) (xs : List ℕ) → (x == v) ≡ false → is_among x (xs ++ v ∷ []) ≡ is_among x xs
among_other x v xs e = list_any-append (λ (y : ℕ). y == x) xs (v ∷ []) ∙ ap (λ (b : Bool). is_among x xs || (b || false)) (other_way x v e) ∙ or-false (is_among x xs)

distinct_more : (v : ℕ) (xs : List ℕ) → is_among v xs ≡ false → are_distinct xs ≡ true → are_distinct (xs ++ v ∷ []) ≡ true
distinct_more v [] e f = refl
distinct_more v (x ∷ xs) e f = grind (arith, or_parts, and_parts, and_from, among_other, distinct_more v xs (grind arith) (grind arith))

none_changed : (k n : ℕ) (f : SetRow → SetRow) (rows : List SetRow) → NumberedFrom k rows → n < k → AllDistinct rows → AllDistinct (map (row_changed n f) rows)
none_changed k n f [] num l h = tt
none_changed k n f (r ∷ rows) num l h = grind (arith, still_less, none_changed (k + 1) n f rows num.1 (still_less k n l) h.1)

added : (k : ℕ) (rows : List SetRow) (r : SetRow) (v : ℕ) → NumberedFrom k rows → find (λ (q : SetRow). q.number == r.number) rows ≡ Some r
    → is_among v r.volumes ≡ false → AllDistinct rows → AllDistinct (map (row_changed r.number (with_volume v)) rows)
added k [] r v num e f h = tt
added k (q ∷ rows) r v num e f h = grind (arith, distinct_more, some_same, none_changed, added (k + 1) rows r v num.1)

-- ## every act

module _ (s : Plan) (st : State) (num : NumberedFrom 1 st.sets) (h : AllDistinct st.sets) where
  added_volume : (x : State) (n v : ℕ) → IsAdd st x n v → AllDistinct (map (row_changed n (with_volume v)) x.sets)
  added_volume x n v i = grind (arith, added, row_running)

  stays_distinct : (e : Event) (m : Mark) (c : Change) (x : State) → Comes s e m st x c → AllDistinct x.sets → AllDistinct (apply x c).sets
  stays_distinct e m (StartsSet r) x i d = distinct_append x.sets r d (ap (λ (q : SetRow). are_distinct q.volumes) i.row)
  stays_distinct e m (AddsVolume n v) x i d = added_volume x n v i
  stays_distinct e m (IsCutAt n now) x i d = distinct_map (row_cut n now) (volumes_cut n now) x.sets d
  stays_distinct e m (Settles o) x i d = distinct_map (row_settled o) (grind arith) x.sets d
  stays_distinct e m _ x i d = d

  pub distinct_after : (act : Act) → AllDistinct (after s st act).sets
  distinct_after act = by_changes (λ x. AllDistinct x.sets) s st act (stays_distinct act.event act.mark) h

pub volumes_are_distinct : (s : Plan) (so_far : List Act) → VolumesAreDistinct s so_far
volumes_are_distinct s so_far n r e = distinct_found n (state s so_far).sets r
    (by_acts (λ x. AllDistinct x.sets) s (λ past act h. distinct_after s (state s past) (orderly s past).numbered h act) tt so_far) e

-- ## The rows of sets go on: no act loses one, and one that is over stays as it is.

-- ## one row

pub same_row : (r : SetRow) → IsLaterRow r r
same_row r = record { number = refl; context = refl; volumes = λ v e. e; over = λ e. refl }

pub later_again : (r q p : SetRow) → IsLaterRow r q → IsLaterRow q p → IsLaterRow r p
later_again r q p h k = grind arith

row_with_cut : (now : ℕ) (r : SetRow) → is_running r.result ≡ true → IsLaterRow r (with_cut now r)
row_with_cut now r e = record { number = refl; context = refl; volumes = λ v f. f; over = λ f. absurd cc }

-- ## all rows

-- each row is there at a later time; new ones may have come behind them
abbrev pub GoOn : List SetRow → List SetRow → Type 0
GoOn [] qs = Unit {0}
GoOn (r ∷ rs) [] = ⊥
GoOn (r ∷ rs) (q ∷ qs) = IsLaterRow r q × GoOn rs qs

pub go_on_same : (rows : List SetRow) → GoOn rows rows
go_on_same [] = tt
go_on_same (r ∷ rows) = (same_row r, go_on_same rows)

pub go_on_again : (rs qs ps : List SetRow) → GoOn rs qs → GoOn qs ps → GoOn rs ps
go_on_again [] qs ps h k = tt
go_on_again (r ∷ rs) [] ps h k = absurd h
go_on_again (r ∷ rs) (q ∷ qs) [] h k = absurd k
go_on_again (r ∷ rs) (q ∷ qs) (p ∷ ps) h k = (later_again r q p h.0 k.0, go_on_again rs qs ps h.1 k.1)

go_on_settled : (p : SetOutcome) (rows : List SetRow) → GoOn rows (map (row_settled p) rows)
go_on_settled p [] = tt
go_on_settled p (r ∷ rows) = ((grind arith), go_on_settled p rows)

go_on_more : (rows : List SetRow) (r : SetRow) → GoOn rows (rows ++ r ∷ [])
go_on_more [] r = tt
go_on_more (q ∷ rows) r = (same_row q, go_on_more rows r)

pub go_on_found : (n : ℕ) (rs qs : List SetRow) (r : SetRow) (X : Type 0) → GoOn rs qs → find (λ (x : SetRow). x.number == n) rs ≡ Some r
    → ((q : SetRow) → find (λ (x : SetRow). x.number == n) qs ≡ Some q → IsLaterRow r q → X) → X
go_on_found n [] qs r X h e f = absurd cc
go_on_found n (x ∷ rs) [] r X h e f = absurd h
go_on_found n (x ∷ rs) (y ∷ qs) r X h e f = grind (arith, some_same, go_on_found n rs qs r X h.1)

-- ## a change of the set in progress

unchanged : (k n : ℕ) (f : SetRow → SetRow) (rows : List SetRow) → NumberedFrom k rows → n < k → GoOn rows (map (row_changed n f) rows)
unchanged k n f [] num l = tt
unchanged k n f (r ∷ rows) num l = grind (arith, still_less, same_row, unchanged (k + 1) n f rows num.1 (still_less k n l))

pub changed_in_progress : (k : ℕ) (f : SetRow → SetRow) (rows : List SetRow) (r : SetRow) → NumberedFrom k rows → find (λ (q : SetRow). is_running q.result) rows ≡ Some r
    → ((q : SetRow) → is_running q.result ≡ true → IsLaterRow q (f q)) → GoOn rows (map (row_changed r.number f) rows)
changed_in_progress k f [] r num e h = tt
changed_in_progress k f (q ∷ rows) r num e h = grind (arith, found_above, same_row, unchanged, some_same, changed_in_progress (k + 1) f rows r num.1)

-- ## every act

module _ (s : Plan) (st : State) (num : NumberedFrom 1 st.sets) where
  changed : (f : SetRow → SetRow) (x : State) (n : ℕ) (r : SetRow) → x.sets ≡ st.sets → n ≡ r.number → in_progress st ≡ Some r
      → ((q : SetRow) → is_running q.result ≡ true → IsLaterRow q (f q)) → GoOn st.sets (map (row_changed n f) x.sets)
  changed f x n r same number found later = grind (arith, changed_in_progress)

  goes_on : (e : Event) (m : Mark) (c : Change) (x : State) → Comes s e m st x c → GoOn st.sets x.sets → GoOn st.sets (apply x c).sets
  goes_on e m (StartsSet r) x i h = go_on_again st.sets x.sets _ h (go_on_more x.sets r)
  goes_on e m (AddsVolume n v) x i h = changed (with_volume v) x n i.row (ap (λ (y : State). y.sets) i.first) i.number i.found (grind (arith, list_any-append, or_left))
  goes_on e m (IsCutAt n now) x i h = changed (with_cut now) x n i.0.row (ap (λ (y : State). y.sets) i.1) i.0.number i.0.found (row_with_cut now)
  goes_on e m (Settles o) x i h = go_on_again st.sets x.sets _ h (go_on_settled o x.sets)
  goes_on e m _ x i h = h

  pub go_on_after : (act : Act) → GoOn st.sets (after s st act).sets
  go_on_after act = by_changes (λ x. GoOn st.sets x.sets) s st act (goes_on act.event act.mark) (go_on_same st.sets)

-- ## the row of a set

pub later_row : (rows : List SetRow) (st : State) (n : ℕ) (r : SetRow) → GoOn rows st.sets → find (λ (x : SetRow). x.number == n) rows ≡ Some r → HasLaterRow st r
later_row rows st n r g e =
    go_on_found n rows st.sets r (HasLaterRow st r) g e
    (λ q f h. record { row = q; is_row = ap (λ k. find (λ (x : SetRow). x.number == k) st.sets) (row_number n rows r e) ∙ f; later = h })

pub keeps_rows : (s : Plan) (so_far : List Act) (act : Act) → KeepsRows s so_far act
keeps_rows s so_far act n r e = later_row (state s so_far).sets (after s (state s so_far) act) n r (go_on_after s (state s so_far) (orderly s so_far).numbered act) e

-- over more acts
pub go_on_from : (s : Plan) (so_far rest : List Act) → GoOn (state s so_far).sets (state s (so_far ++ rest)).sets
go_on_from s so_far [] = subst (λ acts. GoOn (state s so_far).sets (state s acts).sets) (sym (append_nothing so_far)) (go_on_same (state s so_far).sets)
go_on_from s so_far (act ∷ rest) =
    let next : GoOn (state s so_far).sets (state s (so_far ++ act ∷ [])).sets =
    subst (λ (x : State). GoOn (state s so_far).sets x.sets) (sym (state-append s so_far act)) (go_on_after s (state s so_far) (orderly s so_far).numbered act) in
    go_on_again (state s so_far).sets (state s (so_far ++ act ∷ [])).sets (state s (so_far ++ act ∷ rest)).sets next
    (subst (λ acts. GoOn (state s (so_far ++ act ∷ [])).sets (state s acts).sets) (append_assoc so_far (act ∷ []) rest) (go_on_from s (so_far ++ act ∷ []) rest))
