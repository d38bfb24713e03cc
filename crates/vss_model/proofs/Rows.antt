-- The row of the set in progress: it is the row of its number, and it alone.
use Rattle.std.proofs.Common.{◌≡◌, ℕ, ◌+◌, ◌==◌, ◌<◌, ◌≤◌, List, [], ◌∷◌, ◌++◌, Option, Some, None, refl, Bool, true, false, map, ap, sym, ◌∙◌, subst, find, length, arith}
use Rattle.std.specs.Prelude.{option_map, ◌&&◌, ◌||◌, not, is_some, if◌then◌else◌}
use Rattle.vss_model.proofs.Terms.{list_any, and_left, and_right, or_left, or_parts, or_from, ne_eqb, eq-eqb, cond-true, cond-false, common_steps, SetOutcome}
use Rattle.vss_model.proofs.Terms.{SetRow, is_running, row_settled, Kind, Snapshot, Agenda, is_snapshot, ended_of, NumberedFrom}
use Rattle.vss_model.specs.State.{is_complete}
use Rattle.vss_model.proofs.ByEvent.{some_same}
use Rattle.vss_model.proofs.Orderly.{number-settled_if}

pub found_passes : {X : Type 0} (test : X → Bool) (xs : List X) (x : X) → find test xs ≡ Some x → test x ≡ true
found_passes test [] x e = absurd cc
found_passes test (y ∷ xs) x e = by_head (test y) refl e (found_passes test xs x) where
  by_head : (b : Bool) → test y ≡ b → (if b then Some y else find test xs) ≡ Some x → (find test xs ≡ Some x → test x ≡ true) → test x ≡ true
  by_head true f e ih = subst (λ z. test z ≡ true) (some_same y x e) f
  by_head false f e ih = ih e

pub running_found : (rows : List SetRow) (r : SetRow) → find (λ q. is_running q.result) rows ≡ Some r → is_running r.result ≡ true
running_found rows r e = found_passes (λ (q : SetRow). is_running q.result) rows r e

pub found_above : (m : ℕ) (rows : List SetRow) (r : SetRow) → NumberedFrom m rows → find (λ q. is_running q.result) rows ≡ Some r → m ≤ r.number
found_above m [] r h e = absurd cc
found_above m (q ∷ rows) r h e = by_head (is_running q.result) e (found_above (m + 1) rows r h.1) where
  by_head : (b : Bool) → (if b then Some q else find (λ x. is_running x.result) rows) ≡ Some r → (find (λ x. is_running x.result) rows ≡ Some r → m + 1 ≤ r.number) → m ≤ r.number
  by_head true e ih = subst (λ x. m ≤ x.number) (some_same q r e) (let g = h.0 in omega (arith, g))
  by_head false e ih = let g = ih e in omega (arith, g)

-- the row of its number is the row of the set in progress
pub row_running : (m : ℕ) (rows : List SetRow) (r : SetRow) → NumberedFrom m rows → find (λ q. is_running q.result) rows ≡ Some r → find (λ q. q.number == r.number) rows ≡ Some r
row_running m [] r h e = absurd cc
row_running m (q ∷ rows) r h e = by_head (is_running q.result) e (row_running (m + 1) rows r h.1) (found_above (m + 1) rows r h.1) where
  below : (a b c : ℕ) → a ≡ b → b + 1 ≤ c → (a == c) ≡ false
  below a b c e f = grind arith

  by_head : (b : Bool) → (if b then Some q else find (λ x. is_running x.result) rows) ≡ Some r → (find (λ x. is_running x.result) rows ≡ Some r → find (λ x. x.number == r.number) rows ≡ Some r)
      → (find (λ x. is_running x.result) rows ≡ Some r → m + 1 ≤ r.number) → (if q.number == r.number then Some q else find (λ x. x.number == r.number) rows) ≡ Some r
  by_head true e ih above =
      let same = some_same q r e in
      cond-true _ _ _ (subst (λ x. (q.number == x.number) ≡ true) same (eq-eqb q.number q.number refl)) ∙ ap (λ x. Some x) same
  by_head false e ih above = cond-false _ _ _ (below q.number m r.number h.0 (above e)) ∙ ih e

-- ## rows that settle

pub row_settles : (p : SetOutcome) (n : ℕ) (rows : List SetRow) → find (λ q. q.number == n) (map (row_settled p) rows) ≡ option_map (row_settled p) (find (λ q. q.number == n) rows)
row_settles p n [] = refl
row_settles p n (r ∷ rows) = let ih = row_settles p n rows in grind (arith, common_steps, number-settled_if)

pub result-settled : (b : Bool) (p : SetOutcome) (r : SetRow) → b ≡ true → (if b then record r { result = p } else r).result ≡ p
result-settled b p r e = grind arith

-- ## sets that are complete

-- set n is complete, in these rows
abbrev pub has_complete : List SetRow → ℕ → Bool
has_complete rows n = list_any (λ r. (r.number == n) && is_complete r.result) rows

pub apart : (a b : ℕ) → a < b → (a == b) ≡ false
apart a b l = ne_eqb a b (λ e. omega (arith, l, e))

pub apart_back : (a b : ℕ) → a < b → (b == a) ≡ false
apart_back a b l = ne_eqb b a (λ e. omega (arith, l, e))

pub none_below : (k n : ℕ) (rows : List SetRow) → NumberedFrom k rows → n < k → has_complete rows n ≡ false
none_below k n [] h l = refl
none_below k n (r ∷ rows) h l = let ih = none_below (k + 1) n rows h.1 (omega (arith, l)) in grind (arith, common_steps, or_from, and_left, apart_back)

-- a set whose row is not complete is not complete
row_not_complete : (k n : ℕ) (rows : List SetRow) (r : SetRow) → NumberedFrom k rows → find (λ q. q.number == n) rows ≡ Some r → is_complete r.result ≡ false → has_complete rows n ≡ false
row_not_complete k n [] r h e f = refl
row_not_complete k n (q ∷ rows) r h e f = by_head (q.number == n) refl e (row_not_complete (k + 1) n rows r h.1) where
  equal_below : (a b c : ℕ) → (a == b) ≡ true → a ≡ c → b < c + 1
  equal_below a b c e f = grind arith

  by_head : (b : Bool) → (q.number == n) ≡ b → (if b then Some q else find (λ x. x.number == n) rows) ≡ Some r → (find (λ x. x.number == n) rows ≡ Some r → is_complete r.result ≡ false → has_complete rows n ≡ false) → ((b && is_complete q.result) || has_complete rows n) ≡ false
  by_head true g e ih =
      or_from (is_complete q.result) (has_complete rows n) (subst (λ x. is_complete x.result ≡ false) (sym (some_same q r e)) f) (none_below (k + 1) n rows h.1 (equal_below q.number n k g h.0))
  by_head false g e ih = ih e f

pub running_incomplete : (rows : List SetRow) (r : SetRow) → NumberedFrom 1 rows → find (λ q. is_running q.result) rows ≡ Some r → has_complete rows r.number ≡ false
running_incomplete rows r h e = row_not_complete 1 r.number rows r h (row_running 1 rows r h e) (grind (arith, running_found rows r e))

-- no set completes where the outcome is another
pub incomplete_settled : (p : SetOutcome) (n : ℕ) (rows : List SetRow) → is_complete p ≡ false → has_complete rows n ≡ false → has_complete (map (row_settled p) rows) n ≡ false
incomplete_settled p n [] e h = h
incomplete_settled p n (r ∷ rows) e h =
    let parts = or_parts ((r.number == n) && is_complete r.result) (has_complete rows n) h in
    or_from (((row_settled p r).number == n) && is_complete (row_settled p r).result) (has_complete (map (row_settled p) rows) n) (grind (arith, parts.0))
    (incomplete_settled p n rows e parts.1)

-- rows that keep their numbers and results
pub incomplete_map : (f : SetRow → SetRow) → ((r : SetRow) → (f r).number ≡ r.number) → ((r : SetRow) → (f r).result ≡ r.result) → (n : ℕ) (rows : List SetRow) → has_complete rows n ≡ false → has_complete (map f rows) n ≡ false
incomplete_map f number result n [] h = h
incomplete_map f number result n (r ∷ rows) h =
    let parts = or_parts ((r.number == n) && is_complete r.result) (has_complete rows n) h in
    or_from (((f r).number == n) && is_complete (f r).result) (has_complete (map f rows) n)
    (ap (λ k. (k == n) && is_complete (f r).result) (number r) ∙ ap (λ o. (r.number == n) && is_complete o) (result r) ∙ parts.0) (incomplete_map f number result n rows parts.1)

pub incomplete_append : (rows : List SetRow) (r : SetRow) (n : ℕ) → is_complete r.result ≡ false → has_complete rows n ≡ false → has_complete (rows ++ r ∷ []) n ≡ false
incomplete_append rows r n e h = grind (arith, common_steps, or_from, and_right, or_parts)

-- a row that was found and is complete says so
pub complete_found : (k n : ℕ) (rows : List SetRow) (r : SetRow) → find (λ q. q.number == n) rows ≡ Some r → is_complete r.result ≡ true → has_complete rows n ≡ true
complete_found k n [] r e f = absurd cc
complete_found k n (q ∷ rows) r e f = by_head (q.number == n) e (complete_found k n rows r) where
  by_head : (b : Bool) → (if b then Some q else find (λ x. x.number == n) rows) ≡ Some r → (find (λ x. x.number == n) rows ≡ Some r → is_complete r.result ≡ true → has_complete rows n ≡ true) → ((b && is_complete q.result) || has_complete rows n) ≡ true
  by_head true e ih = or_left (is_complete q.result) (has_complete rows n) (subst (λ x. is_complete x.result ≡ true) (sym (some_same q r e)) f)
  by_head false e ih = ih e f

-- ## rows that are over

-- the row of set n, where it is over
abbrev pub is_over_row : ℕ → SetRow → Bool
is_over_row n q = (q.number == n) && not (is_running q.result)

-- all rows from a number on are of greater ones
pub none_later : (m n : ℕ) (rows : List SetRow) → NumberedFrom m rows → n < m → find (is_over_row n) rows ≡ None
none_later m n [] h l = refl
none_later m n (q ∷ rows) h l = let ih = none_later (m + 1) n rows h.1 (omega (arith, l)) in grind (arith, common_steps, cond-false, and_left, apart_back)

-- the set in progress is not over
pub none_over : (m : ℕ) (rows : List SetRow) (r : SetRow) → NumberedFrom m rows → find (λ q. is_running q.result) rows ≡ Some r → find (is_over_row r.number) rows ≡ None
none_over m [] r h e = refl
none_over m (q ∷ rows) r h e = by_head (is_running q.result) refl e (none_over (m + 1) rows r h.1) where
  by_head : (b : Bool) → is_running q.result ≡ b → (if b then Some q else find (λ x. is_running x.result) rows) ≡ Some r → (find (λ x. is_running x.result) rows ≡ Some r → find (is_over_row r.number) rows ≡ None)
      → (if is_over_row r.number q then Some q else find (is_over_row r.number) rows) ≡ None
  by_head true f e ih =
      let number = ap (λ (x : SetRow). x.number) (some_same q r e) in
      cond-false _ _ _ (and_right (q.number == r.number) (not (is_running q.result)) (ap not f)) ∙ none_later (m + 1) r.number rows h.1 (let g = h.0 in omega (arith, g, number))
  by_head false f e ih =
      let above = found_above (m + 1) rows r h.1 e in
      cond-false _ _ _ (and_left (q.number == r.number) (not (is_running q.result)) (apart q.number r.number (let g = h.0 in omega (arith, g, above)))) ∙ ih e

none_by : (rows : List SetRow) (o : Option SetRow) → NumberedFrom 1 rows → find (λ q. is_running q.result) rows ≡ o → ended_of o rows ≡ None
none_by rows None h e = refl
none_by rows (Some r) h e = none_over 1 rows r h e

-- where the rows stay as they are, no set ends
pub none_ends : (rows : List SetRow) → NumberedFrom 1 rows → ended_of (find (λ q. is_running q.result) rows) rows ≡ None
none_ends rows h = none_by rows (find (λ q. is_running q.result) rows) h refl

pub settled_running : (o : SetOutcome) (r : SetRow) → is_running r.result ≡ true → row_settled o r ≡ record r { result = o }
settled_running o r e = ap (λ (b : Bool). if b then record r { result = o } else r) e

-- a set in progress that ends is over, with its outcome
pub settled_row : (m : ℕ) (o : SetOutcome) → is_running o ≡ false → (rows : List SetRow) (r : SetRow) → NumberedFrom m rows → find (λ q. is_running q.result) rows ≡ Some r
    → find (is_over_row r.number) (map (row_settled o) rows) ≡ Some (record r { result = o })
settled_row m o over [] r h e = absurd cc
settled_row m o over (q ∷ rows) r h e = by_head (is_running q.result) refl e (settled_row (m + 1) o over rows r h.1) where
  own : is_over_row r.number (record r { result = o }) ≡ true
  own = ap (λ (b : Bool). b && not (is_running o)) (eq-eqb r.number r.number refl) ∙ ap not over

  by_head : (b : Bool) → is_running q.result ≡ b → (if b then Some q else find (λ x. is_running x.result) rows) ≡ Some r
      → (find (λ x. is_running x.result) rows ≡ Some r → find (is_over_row r.number) (map (row_settled o) rows) ≡ Some (record r { result = o }))
      → (if is_over_row r.number (row_settled o q) then Some (row_settled o q) else find (is_over_row r.number) (map (row_settled o) rows)) ≡ Some (record r { result = o })
  by_head true f e ih =
      let is : row_settled o q ≡ record r { result = o } = settled_running o q f ∙ ap (λ (x : SetRow). record x { result = o }) (some_same q r e) in
      ap (λ (x : SetRow). if is_over_row r.number x then Some x else find (is_over_row r.number) (map (row_settled o) rows)) is ∙ cond-true _ _ _ own
  by_head false f e ih =
      let above = found_above (m + 1) rows r h.1 e in
      let number = number-settled_if (is_running q.result) o q in
      cond-false _ _ _ (and_left ((row_settled o q).number == r.number) (not (is_running (row_settled o q).result)) (apart (row_settled o q).number r.number (let g = h.0 in omega (arith, g, above, number)))) ∙ ih e

-- ## other facts of rows

pub some_rows : (p : SetRow → Bool) (rows : List SetRow) (r : SetRow) → find p rows ≡ Some r → 0 < length rows
some_rows p rows r e = grind (arith, common_steps)

pub number-cut : (b : Bool) (now : ℕ) (r : SetRow) → (if b then record r { cut_at = Some now } else r).number ≡ r.number
number-cut b now r = grind arith

pub kind_is : (k : Kind) → is_snapshot k ≡ true → k ≡ Snapshot
kind_is k e = grind arith

pub none_runs : (a : Option Agenda) → is_some a ≡ false → a ≡ None
none_runs a e = grind arith
