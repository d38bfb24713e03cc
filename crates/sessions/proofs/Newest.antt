-- Lists of sets, numbered from 1 on, of which the newest alone may be in progress.
use Rattle.sessions.proofs.Words.{length-map, SetOutcome, SetRow, is_running, is_complete, row_changed, NumberedFrom, OverButNewest, row_settled, numbered-map, newest-map, cond_both}
use Rattle.sessions.proofs.Words.{none_head, none_tail}
use Rattle.sessions.proofs.Words.{numbered-settled, newest-settled, numbered-append, newest-append, newest_number, SetFacts, AreSets, bare, current_of, facts_of, is_complete_in, running_in}
use Rattle.sessions.proofs.Words.{running_changed, and_left, cond-false, cond-true, eq-eqb, eqb-true, ne_eqb, or_from, apart}
use Rattle.std.proofs.Common.{◌≡◌, ℕ, zero, suc, ◌+◌, ◌<◌, ◌==◌, List, [], ◌∷◌, ◌++◌, length, refl, ap, sym, ◌∙◌, arith, Bool, true, false, Option, Some, None, map, slice_get, slice_set}
use Rattle.std.specs.Prelude.{find, option_map, if◌then◌else◌, ◌&&◌, ◌||◌}

-- ## the newest alone changes

pub unchanged : (f : SetRow → SetRow) (r : SetRow) → is_running r.result ≡ false → running_changed f r ≡ r
unchanged f r e = cond-false (is_running r.result) _ _ e

-- where the newest alone may be in progress, the others stay as they are
pub changed_last : (f : SetRow → SetRow) (rows : List SetRow) (n : ℕ) (r : SetRow) → OverButNewest rows → slice_get rows n ≡ Some r → length rows ≡ suc n
    → map (running_changed f) rows ≡ slice_set rows n (running_changed f r)
changed_last f [] n r h e long = cc
changed_last f (q ∷ []) zero r h e long = let same : q ≡ r = cc in ap (λ (x : SetRow). running_changed f x ∷ []) same
changed_last f (q ∷ []) (suc n) r h e long = cc
changed_last f (q ∷ p ∷ rows) zero r h e long = absurd (omega (arith, long))
changed_last f (q ∷ p ∷ rows) (suc n) r h e long =
    let rest : length (p ∷ rows) ≡ suc n = cc in
    ap (λ (x : SetRow). x ∷ map (running_changed f) (p ∷ rows)) (unchanged f q h.0) ∙ ap (λ (xs : List SetRow). q ∷ xs) (changed_last f (p ∷ rows) n r h.1 e rest)

-- where none is in progress, all stay as they are
pub changed_none : (f : SetRow → SetRow) (rows : List SetRow) → running_in rows ≡ None → map (running_changed f) rows ≡ rows
changed_none f [] e = refl
changed_none f (r ∷ rows) e =
    ap (λ (x : SetRow). x ∷ map (running_changed f) rows) (unchanged f r (none_head (is_running r.result) r _ e))
    ∙ ap (λ (xs : List SetRow). r ∷ xs) (changed_none f rows (none_tail (is_running r.result) r _ e))

-- the set in progress is the last, if that is in progress
pub running_last : (rows : List SetRow) (n : ℕ) (r : SetRow) → OverButNewest rows → slice_get rows n ≡ Some r → length rows ≡ suc n → running_in rows ≡ running_in (r ∷ [])
running_last [] n r h e long = cc
running_last (q ∷ []) zero r h e long = let same : q ≡ r = cc in ap (λ (x : SetRow). running_in (x ∷ [])) same
running_last (q ∷ []) (suc n) r h e long = cc
running_last (q ∷ p ∷ rows) zero r h e long = absurd (omega (arith, long))
running_last (q ∷ p ∷ rows) (suc n) r h e long =
    let rest : length (p ∷ rows) ≡ suc n = cc in
    cond-false (is_running q.result) _ _ h.0 ∙ running_last (p ∷ rows) n r h.1 e rest

-- ## a change by number

pub record IsHead (q r : SetRow) : Type 0 where
  pub same : q ≡ r
  pub running : is_running q.result ≡ true

pub head_found : (b : Bool) (q r : SetRow) → is_running q.result ≡ b → (if b then Some q else None) ≡ Some r → IsHead q r
head_found b q r e f = grind arith

pub rest_found : (b : Bool) (q r : SetRow) (found : Option SetRow) → b ≡ false → (if b then Some q else found) ≡ Some r → found ≡ Some r
rest_found b q r found e f = grind arith

-- the set in progress is changed, whether it is found by its number or by being in progress
pub changed_by_number : (f : SetRow → SetRow) (m : ℕ) (rows : List SetRow) (r : SetRow) → NumberedFrom m rows → OverButNewest rows → running_in rows ≡ Some r
    → map (running_changed f) rows ≡ map (row_changed r.number f) rows
changed_by_number f m [] r n h e = cc
changed_by_number f m (q ∷ []) r n h e =
    let g = head_found (is_running q.result) q r refl e in
    let named : row_changed r.number f q ≡ f q = cond-true (q.number == r.number) _ _ (eq-eqb _ _ (ap (λ (x : SetRow). x.number) g.same)) in
    ap (λ (x : SetRow). x ∷ []) (cond-true (is_running q.result) _ _ g.running ∙ sym named)
changed_by_number f m (q ∷ p ∷ rows) r n h e =
    let rest = rest_found (is_running q.result) q r (running_in (p ∷ rows)) h.0 e in
    let number = newest_number (m + 1) (p ∷ rows) r n.1 h.1 rest in
    let less : q.number < r.number = let first = n.0 in omega (arith, first, number) in
    let named : row_changed r.number f q ≡ q = cond-false (q.number == r.number) _ _ (apart q.number r.number less) in
    ap (λ (x : SetRow). x ∷ map (running_changed f) (p ∷ rows)) (unchanged f q h.0 ∙ sym named)
    ∙ ap (λ (xs : List SetRow). row_changed r.number f q ∷ xs) (changed_by_number f (m + 1) (p ∷ rows) r n.1 h.1 rest)

-- ## what is kept

pub sets_changed : (f : SetRow → SetRow) (rows : List SetRow) → ((r : SetRow) → (f r).number ≡ r.number) → ((r : SetRow) → (f r).result ≡ r.result) → AreSets rows
    → AreSets (map (running_changed f) rows)
sets_changed f rows number result h = grind (arith, cond_both, numbered-map, newest-map)

pub sets_settled : (o : SetOutcome) (rows : List SetRow) → AreSets rows → AreSets (map (row_settled o) rows)
sets_settled o rows h = record { numbered = numbered-settled o 1 rows h.numbered; newest = newest-settled o rows h.newest }

pub sets_started : (rows : List SetRow) (r : SetRow) → AreSets rows → running_in rows ≡ None → r.number ≡ length rows + 1 → AreSets (rows ++ r ∷ [])
sets_started rows r h e n = record { numbered = numbered-append 1 rows r h.numbered n; newest = newest-append rows r e }

-- ## a set by its number

-- of rows numbered from m on, the one at place i has number m + i
pub found_at : (m : ℕ) (rows : List SetRow) (i n : ℕ) → NumberedFrom m rows → n ≡ m + i → find (λ (r : SetRow). r.number == n) rows ≡ slice_get rows i
found_at m [] zero n h e = refl
found_at m [] (suc i) n h e = refl
found_at m (r ∷ rows) zero n h e = cond-true (r.number == n) _ _ (let first = h.0 in eq-eqb _ _ (omega (arith, first, e)))
found_at m (r ∷ rows) (suc i) n h e = cond-false (r.number == n) _ _ (let first = h.0 in apart r.number n (omega (arith, first, e))) ∙ found_at (m + 1) rows i n h.1 (omega (arith, e))

pub none_at_zero : (m : ℕ) (rows : List SetRow) → NumberedFrom m rows → 0 < m → find (λ (r : SetRow). r.number == 0) rows ≡ None
none_at_zero m [] h l = refl
none_at_zero m (r ∷ rows) h l = cond-false (r.number == 0) _ _ (let first = h.0 in ne_eqb _ _ (λ e. omega (arith, first, l, e))) ∙ none_at_zero (m + 1) rows h.1 (omega (arith, l))

pub running_is : (b : Bool) (r : SetRow) → is_running r.result ≡ b → running_in (r ∷ []) ≡ (if b then Some r else None)
running_is b r e = ap (λ (t : Bool). if t then Some r else None) e

abbrev pub is_complete_told : Option SetFacts → Bool
is_complete_told None = false
is_complete_told (Some f) = f.complete

abbrev complete_of : Option SetRow → Bool
complete_of None = false
complete_of (Some r) = is_complete r.result

later_none : (m : ℕ) (rows : List SetRow) (n : ℕ) → NumberedFrom m rows → n < m → is_complete_in rows n ≡ false
later_none m [] n h l = refl
later_none m (r ∷ rows) n h l =
    or_from ((r.number == n) && is_complete r.result) (is_complete_in rows n) (and_left (r.number == n) _ (let first = h.0 in ne_eqb _ _ (λ e. omega (arith, first, l, e))))
    (later_none (m + 1) rows n h.1 (omega (arith, l)))

-- a set is complete where the one of its number is
complete_found : (m : ℕ) (rows : List SetRow) (n : ℕ) → NumberedFrom m rows → is_complete_in rows n ≡ complete_of (find (λ (r : SetRow). r.number == n) rows)
complete_found m [] n h = refl
complete_found m (r ∷ rows) n h = by_number (complete_found (m + 1) rows n h.1) (r.number == n) refl
  where
    or_none : (b c : Bool) → c ≡ false → (b || c) ≡ b
    or_none true c e = refl
    or_none false c e = e

    by_number : is_complete_in rows n ≡ complete_of (find (λ (q : SetRow). q.number == n) rows) → (b : Bool) → (r.number == n) ≡ b
        → ((b && is_complete r.result) || is_complete_in rows n) ≡ complete_of (if b then Some r else find (λ (q : SetRow). q.number == n) rows)
    by_number rest true e = or_none (is_complete r.result) (is_complete_in rows n) (later_none (m + 1) rows n h.1 (let first = h.0 in let same = eqb-true r.number n e in omega (arith, first, same)))
    by_number rest false e = rest

pub complete_by_facts : (rows : List SetRow) (n : ℕ) (o : Option SetFacts) → AreSets rows → o ≡ option_map facts_of (find (λ (r : SetRow). r.number == n) rows)
    → is_complete_in rows n ≡ is_complete_told o
complete_by_facts rows n o h e = grind (arith, complete_found)

-- ## rows without volumes

if_bare : (b : Bool) (f : SetRow → SetRow) (r : SetRow) → f (bare r) ≡ bare (f r) → (if b then f (bare r) else bare r) ≡ bare (if b then f r else r)
if_bare b f r e = grind arith

-- a change that does not look at the volumes
pub changed_bare : (f : SetRow → SetRow) → ((r : SetRow) → f (bare r) ≡ bare (f r)) → (rows : List SetRow) → map (running_changed f) (map bare rows) ≡ map bare (map (running_changed f) rows)
changed_bare f same [] = refl
changed_bare f same (r ∷ rows) =
    ap (λ (x : SetRow). x ∷ map (running_changed f) (map bare rows)) (if_bare (is_running r.result) f r (same r))
    ∙ ap (λ (xs : List SetRow). bare (running_changed f r) ∷ xs) (changed_bare f same rows)

pub settled_bare : (o : SetOutcome) (rows : List SetRow) → map (row_settled o) (map bare rows) ≡ map bare (map (row_settled o) rows)
settled_bare o = changed_bare (λ (r : SetRow). record r { result = o }) (λ r. refl)

found_bare : (p : SetRow → Bool) → ((r : SetRow) → p (bare r) ≡ p r) → (rows : List SetRow) → find p (map bare rows) ≡ option_map bare (find p rows)
found_bare p same [] = refl
found_bare p same (r ∷ rows) =
    ap (λ (b : Bool). if b then Some (bare r) else find p (map bare rows)) (same r)
    ∙ ap (λ (o : Option SetRow). if p r then Some (bare r) else o) (found_bare p same rows) ∙ by_test (p r) (find p rows)
  where
    by_test : (b : Bool) (o : Option SetRow) → (if b then Some (bare r) else option_map bare o) ≡ option_map bare (if b then Some r else o)
    by_test true o = refl
    by_test false o = refl

pub current_bare : (rows : List SetRow) → current_of (map bare rows) ≡ current_of rows
current_bare rows = grind (arith, found_bare)

pub facts_bare : (n : ℕ) (rows : List SetRow) → option_map facts_of (find (λ (r : SetRow). r.number == n) (map bare rows)) ≡ option_map facts_of (find (λ (r : SetRow). r.number == n) rows)
facts_bare n rows = grind (arith, found_bare)

pub complete_bare : (rows : List SetRow) (n : ℕ) → is_complete_in (map bare rows) n ≡ is_complete_in rows n
complete_bare [] n = refl
complete_bare (r ∷ rows) n = ap (λ (b : Bool). ((r.number == n) && is_complete r.result) || b) (complete_bare rows n)

pub length_bare : (rows : List SetRow) → length (map bare rows) ≡ length rows
length_bare rows = length-map rows bare

pub none_bare : (rows : List SetRow) → running_in rows ≡ None → running_in (map bare rows) ≡ None
none_bare rows e = found_bare (λ (r : SetRow). is_running r.result) (λ r. refl) rows ∙ ap (option_map bare) e

pub append_bare : (rows : List SetRow) (r : SetRow) → map bare (rows ++ r ∷ []) ≡ map bare rows ++ bare r ∷ []
append_bare [] r = refl
append_bare (q ∷ rows) r = ap (λ (xs : List SetRow). bare q ∷ xs) (append_bare rows r)

-- what happens to the volumes of a row is not seen
pub unseen_bare : (f : SetRow → SetRow) → ((r : SetRow) → bare (f r) ≡ bare r) → (n : ℕ) (rows : List SetRow) → map bare (map (row_changed n f) rows) ≡ map bare rows
unseen_bare f same n [] = refl
unseen_bare f same n (r ∷ rows) = ap (λ (x : SetRow). x ∷ map bare (map (row_changed n f) rows)) (cond_both (r.number == n) (f r) r (λ (q : SetRow). bare q ≡ bare r) (λ e. same r) (λ e. refl))
    ∙ ap (λ (xs : List SetRow). bare r ∷ xs) (unseen_bare f same n rows)
