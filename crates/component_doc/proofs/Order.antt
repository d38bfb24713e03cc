-- Pairs in order of writers and then of components: those before a component, and where one that is named goes.
use Rattle.std.proofs.Common.{◌≡◌, ◌∙◌, ℕ, zero, suc, ◌+◌, ◌<◌, length, drop, sym, ap, List, [], ◌∷◌, Bool, true, false, ◌&&◌, if◌then◌else◌, arith, refl, ◌≤◌}
use Rattle.std.proofs.Common.{◌++◌, true≢false, ◌||◌, ◌==◌, Option, Some, None, slice_get}
use Rattle.std.proofs.lemmas.Bool.{or_parts}
use Rattle.std.proofs.lemmas.Bool.Decides.{nat_tests}
use Rattle.std.proofs.lemmas.Grind.{common_steps}
use Rattle.std.proofs.lemmas.Option.{slice_get_past, none-some, same_Some}
use Rattle.std.specs.List.{list_all}
use Rattle.std.specs.Prelude.{⊤}
use Rattle.std.specs.Str.{bytes_eq}
use Rattle.writer_meta.specs.Metadata.{Meta, Part, full_name}
use Rattle.writer_meta.proofs.Laws.{and_left, and_right}
use Rattle.component_doc.specs.Over.{is_ascending, is_before_next, names_selectable, meta_at, is_selectable, is_selectable_of}
use Rattle.component_doc.specs.Selection.{Pair, comes_before, is_pair, has_pair, with_pair, Named, is_taker, found_from, found_of, HaveSame, choices_from}
use Rattle.component_doc.specs.declared.found.Found.{Found}

-- ## Pairs in order of writers and then of components.

pub both : (a b : Bool) → a ≡ true → b ≡ true → (a && b) ≡ true
both a b x y = rw (x, y) refl

trans : (p q r : Pair) → comes_before p q ≡ true → comes_before q r ≡ true → comes_before p r ≡ true
trans p q r first second = grind (arith, nat_tests)

-- what is not before a pair, and is not that pair, is behind it
total : (p q : Pair) → comes_before q p ≡ false → is_pair q.writer q.component p ≡ false → comes_before p q ≡ true
total p q not_before other = grind (arith, nat_tests)

behind-all : (q p : Pair) (ps : List Pair) → comes_before q p ≡ true → list_all (comes_before p) ps ≡ true → list_all (comes_before q) ps ≡ true
behind-all q p [] before all = refl
behind-all q p (r ∷ ps) before all = both _ _ (trans q p r before (and_left _ _ all)) (behind-all q p ps before (and_right (comes_before p r) _ all))

all-if : (P : Pair → Bool) (b : Bool) (xs ys : List Pair) → (b ≡ true → list_all P xs ≡ true) → (b ≡ false → list_all P ys ≡ true) → list_all P (if b then xs else ys) ≡ true
all-if x0 b xs ys one other = grind arith

ascending-if : (b : Bool) (xs ys : List Pair) → (b ≡ true → is_ascending xs ≡ true) → (b ≡ false → is_ascending ys ≡ true) → is_ascending (if b then xs else ys) ≡ true
ascending-if b xs ys one other = grind arith

-- what holds of the new pair and of all others holds of all
pub all-with_pair : (P : Pair → Bool) (q : Pair) (ps : List Pair) → P q ≡ true → list_all P ps ≡ true → list_all P (with_pair q ps) ≡ true
all-with_pair P q [] new all = both _ _ new refl
all-with_pair P q (p ∷ ps) new all = grind (arith, common_steps, both, all-if, and_left, and_right, all-with_pair P q ps new (and_right (P p) _ all))

-- a pair that is new goes to its place
pub ascending-with_pair : (q : Pair) (ps : List Pair) → has_pair ps q.writer q.component ≡ false → is_ascending ps ≡ true → is_ascending (with_pair q ps) ≡ true
ascending-with_pair q [] new up = refl
ascending-with_pair q (p ∷ ps) new up =
    let other = or_parts (is_pair q.writer q.component p) (has_pair ps q.writer q.component) new in
    let behind = and_left (list_all (comes_before p) ps) (is_ascending ps) up in let rest = and_right (list_all (comes_before p) ps) (is_ascending ps) up in
    grind (arith, common_steps, ascending-if, both, behind-all, all-with_pair, total, ascending-with_pair q ps other.1 rest)

-- ## neighbours

pub drop-further : {X : Type 0} (i : ℕ) (x : X) (xs : List X) → drop (suc i + 1) (x ∷ xs) ≡ drop (i + 1) xs
drop-further i x xs = let e : suc i + 1 ≡ suc (i + 1) = omega arith in ap (λ k. drop k (x ∷ xs)) e

and-none : (b : Bool) → (b && false) ≡ false
and-none b = grind arith

-- a list whose first pair comes before the second is as ascending as the rest
pub ascending-next : (p : Pair) (ps : List Pair) → is_before_next (p ∷ ps) ≡ true → is_ascending (p ∷ ps) ≡ is_ascending ps
ascending-next p ps next = grind (arith, both, behind-all, and_left, and-none)

pub not-ascending : (ps : List Pair) → is_before_next ps ≡ false → is_ascending ps ≡ false
not-ascending ps e = grind arith

-- one pair further
pub ascending-on : (ps : List Pair) (i : ℕ) → i < length ps → is_before_next (drop i ps) ≡ true → is_ascending (drop i ps) ≡ is_ascending (drop (i + 1) ps)
ascending-on [] i l next = absurd (omega arith)
ascending-on (p ∷ ps) zero l next = ascending-next p ps next
ascending-on (p ∷ ps) (suc i) l next = ascending-on ps i (omega arith) next ∙ ap is_ascending (sym (drop-further i p ps))

-- the last pair has no next one
pub last-before : (ps : List Pair) (i : ℕ) → i + 1 ≡ length ps → is_before_next (drop i ps) ≡ true
last-before [] i e = absurd (omega arith)
last-before (p ∷ []) zero e = refl
last-before (p ∷ q ∷ ps) zero e = absurd (omega arith)
last-before (p ∷ ps) (suc i) e = last-before ps i (omega arith)

-- ## Pairs that come before a component, and pairs that do not.

abbrev pub pair : ℕ → ℕ → Pair
pair w i = record { writer = w; component = i }

same-pair : (w i : ℕ) (p : Pair) → is_pair w i p ≡ true → p ≡ pair w i
same-pair w i p e = grind arith

-- ## before

-- the pair is before component i of writer w
pub record IsPassed (w i : ℕ) (p : Pair) : Type 0 where
  pub writer : p.writer ≤ w
  pub component : p.writer ≡ w → p.component < i

abbrev pub AllPassed : ℕ → ℕ → List Pair → Type 0
AllPassed w i [] = ⊤
AllPassed w i (p ∷ ps) = IsPassed w i p × AllPassed w i ps

not-this : (w i : ℕ) (p : Pair) → IsPassed w i p → is_pair w i p ≡ false
not-this w i p passed = grind (arith, nat_tests)

not-before : (w i : ℕ) (p : Pair) → IsPassed w i p → comes_before (pair w i) p ≡ false
not-before w i p passed = grind (arith, nat_tests)

pub has-none : (w i : ℕ) (ps : List Pair) → AllPassed w i ps → has_pair ps w i ≡ false
has-none w i [] all = refl
has-none w i (p ∷ ps) all = rw (not-this w i p all.0) (has-none w i ps all.1)

pub put-last : (w i : ℕ) (ps : List Pair) → AllPassed w i ps → with_pair (pair w i) ps ≡ ps ++ pair w i ∷ []
put-last w i [] all = refl
put-last w i (p ∷ ps) all = rw (not-before w i p all.0) (ap (λ qs. p ∷ qs) (put-last w i ps all.1))

pub passed-on : (w i : ℕ) (ps : List Pair) → AllPassed w i ps → AllPassed w (i + 1) ps
passed-on w i [] all = tt
passed-on w i (p ∷ ps) all = (record { writer = all.0.writer; component = λ e. omega (arith, all.0.component e) }, passed-on w i ps all.1)

pub passed-with : (w i : ℕ) (ps : List Pair) → AllPassed w i ps → AllPassed w (i + 1) (ps ++ pair w i ∷ [])
passed-with w i [] all = (record { writer = omega arith; component = λ _. omega arith }, tt)
passed-with w i (p ∷ ps) all = (record { writer = all.0.writer; component = λ e. omega (arith, all.0.component e) }, passed-with w i ps all.1)

pub passed-writer : (w i : ℕ) (ps : List Pair) → AllPassed w i ps → AllPassed (w + 1) 0 ps
passed-writer w i [] all = tt
passed-writer w i (p ∷ ps) all = (record { writer = omega (arith, all.0.writer); component = λ e. absurd (omega (arith, all.0.writer)) }, passed-writer w i ps all.1)

-- ## not before

-- the pair is component i of writer w, or behind it
pub record IsAhead (w i : ℕ) (p : Pair) : Type 0 where
  pub writer : w ≤ p.writer
  pub component : p.writer ≡ w → i ≤ p.component

abbrev pub AllAhead : ℕ → ℕ → List Pair → Type 0
AllAhead w i [] = ⊤
AllAhead w i (p ∷ ps) = IsAhead w i p × AllAhead w i ps

pub all-ahead : (ps : List Pair) → AllAhead 0 0 ps
all-ahead [] = tt
all-ahead (p ∷ ps) = (record { writer = omega arith; component = λ _. omega arith }, all-ahead ps)

pub ahead-next : (w i : ℕ) (ps : List Pair) → AllAhead w i ps → has_pair ps w i ≡ false → AllAhead w (i + 1) ps
ahead-next w i [] all none = tt
ahead-next w i (p ∷ ps) all none = let others = or_parts (is_pair w i p) (has_pair ps w i) none in grind (arith, common_steps, ahead-next w i ps all.1 others.1)

behind-one : (w i : ℕ) (p : Pair) → comes_before (pair w i) p ≡ true → IsAhead w (i + 1) p
behind-one w i p before = record { writer = grind (arith, nat_tests); component = λ e. grind (arith, nat_tests) }

behind-ahead : (w i : ℕ) (ps : List Pair) → list_all (comes_before (pair w i)) ps ≡ true → AllAhead w (i + 1) ps
behind-ahead w i [] all = tt
behind-ahead w i (p ∷ ps) all = (behind-one w i p (and_left _ _ all), behind-ahead w i ps (and_right (comes_before (pair w i) p) _ all))

not-behind : (w i : ℕ) (r : Pair) → IsAhead w i r → comes_before r (pair w i) ≡ true → ⊥
not-behind w i r ahead before = grind (arith, nat_tests)

behind-if : (r p : Pair) (w i : ℕ) (b among : Bool) → is_pair w i p ≡ b → comes_before r p ≡ true → (b || among) ≡ true
    → (among ≡ true → comes_before r (pair w i) ≡ true) → comes_before r (pair w i) ≡ true
behind-if r p w i b among is before has later = grind arith

member-behind : (r : Pair) (ps : List Pair) (w i : ℕ) → list_all (comes_before r) ps ≡ true → has_pair ps w i ≡ true → comes_before r (pair w i) ≡ true
member-behind r [] w i all has = absurd (true≢false (sym has))
member-behind r (p ∷ ps) w i all has = behind-if r p w i (is_pair w i p) (has_pair ps w i) refl (and_left _ _ all) has (member-behind r ps w i (and_right (comes_before r p) _ all))

-- the first pair that is left is this one, if it is among them
pub record IsFront (w i : ℕ) (rest : List Pair) : Type 0 where
  pub more : List Pair
  pub is : rest ≡ pair w i ∷ more
  pub ahead : AllAhead w (i + 1) more
  pub up : is_ascending more ≡ true

front-if : (w i : ℕ) (r : Pair) (ps : List Pair) (b : Bool) → is_pair w i r ≡ b → IsAhead w i r → is_ascending (r ∷ ps) ≡ true → (b || has_pair ps w i) ≡ true → IsFront w i (r ∷ ps)
front-if w i r ps true this ahead up has = grind (arith, common_steps, same-pair, and_left, behind-ahead, and_right)
front-if w i r ps false other ahead up has = absurd (not-behind w i r ahead (member-behind r ps w i (and_left _ _ up) has))

pub front : (w i : ℕ) (rest : List Pair) → AllAhead w i rest → is_ascending rest ≡ true → has_pair rest w i ≡ true → IsFront w i rest
front w i [] all up has = absurd (true≢false (sym has))
front w i (r ∷ ps) all up has = front-if w i r ps (is_pair w i r) refl all.0 up has

-- ## the next writer

ahead-writer : (w i : ℕ) (p : Pair) → IsAhead w i p → (p.writer ≡ w → ⊥) → IsAhead (w + 1) 0 p
ahead-writer w i p ahead other = record { writer = omega (arith, ahead.writer, other); component = λ _. omega arith }

-- none is of a writer that does not take part
pub absent-over : (w i : ℕ) (ps : List Pair) → AllAhead w i ps → is_taker (Named ps) w ≡ false → AllAhead (w + 1) 0 ps
absent-over w i [] all none = tt
absent-over w i (p ∷ ps) all none =
    let others = or_parts (p.writer == w) (is_taker (Named ps) w) none in grind (arith, common_steps, ahead-writer, absent-over w i ps all.1 others.1)

not-unknown : (ms : List (Option Meta)) (w : ℕ) (p : Pair) → slice_get ms w ≡ Some None → names_selectable ms p ≡ true → p.writer ≡ w → ⊥
not-unknown ms w p at names e = grind arith

-- none is of a writer that is not known
pub unknown-over : (ms : List (Option Meta)) (w i : ℕ) (ps : List Pair) → slice_get ms w ≡ Some None → list_all (names_selectable ms) ps ≡ true → AllAhead w i ps → AllAhead (w + 1) 0 ps
unknown-over ms w i [] at names all = tt
unknown-over ms w i (p ∷ ps) at names all = grind (arith, common_steps, ahead-writer, not-unknown, and_left, and_right, unknown-over ms w i ps)

not-past : (ms : List (Option Meta)) (w : ℕ) (m : Meta) (p : Pair) → slice_get ms w ≡ Some (Some m) → names_selectable ms p ≡ true → IsAhead w (length m.parts) p → p.writer ≡ w → ⊥
not-past ms w m p at names ahead e = grind (arith, slice_get_past)

-- none is behind a writer's last component
pub writer-over : (ms : List (Option Meta)) (w : ℕ) (m : Meta) (ps : List Pair) → slice_get ms w ≡ Some (Some m) → list_all (names_selectable ms) ps ≡ true
    → AllAhead w (length m.parts) ps → AllAhead (w + 1) 0 ps
writer-over ms w m [] at names all = tt
writer-over ms w m (p ∷ ps) at names all = grind (arith, common_steps, ahead-writer, not-past, and_left, and_right, writer-over ms w m ps)

-- none is behind the last writer
pub all-over : (ms : List (Option Meta)) (w i : ℕ) (ps : List Pair) → length ms ≤ w → list_all (names_selectable ms) ps ≡ true → AllAhead w i ps → ps ≡ []
all-over ms w i [] past names all = refl
all-over ms w i (p ∷ ps) past names all = grind (arith, common_steps, slice_get_past, and_left)

-- ## A component that is named is a selectable one, and goes to its place.

abbrev IsFoundAt : List Part → ℕ → Found → Type 0
IsFoundAt ps i f = (k : ℕ) × (f.component ≡ i + k) × (is_selectable (slice_get ps k) ≡ f.selectable)

found-here : (b : Bool) (p : Part) (ps : List Part) (i : ℕ) (f : Found) (rest : Option Found) → (rest ≡ Some f → IsFoundAt ps (i + 1) f)
    → (if b then Some (record { component = i; selectable = p.selectable }) else rest) ≡ Some f → IsFoundAt (p ∷ ps) i f
found-here true p ps i f rest later e = grind (arith, common_steps, same_Some)
found-here false p ps i f rest later e = let found = later e in (suc found.0, found.1 ∙ omega arith, found.2)

found-at : (name : List ℕ) (i : ℕ) (ps : List Part) (f : Found) → found_from name i ps ≡ Some f → IsFoundAt ps i f
found-at name i [] f e = absurd (none-some f e)
found-at name i (p ∷ ps) f e = found-here (bytes_eq (full_name p) name) p ps i f (found_from name (i + 1) ps) (found-at name (i + 1) ps f) e

-- what is found is as selectable as the component at its place
found-selectable : (name : List ℕ) (o : Option (Option Meta)) (f : Found) → found_of name o ≡ Some f → is_selectable_of f.component (meta_at o) ≡ f.selectable
found-selectable name o f e = grind (arith, none-some, found-at)

-- the pairs stay over these metadata
pub over-more : (ms : List (Option Meta)) (name : List ℕ) (q : Pair) (f : Found) (old : List Pair) → Some f ≡ found_of name (slice_get ms q.writer) → q.component ≡ f.component → f.selectable ≡ true
    → has_pair old q.writer q.component ≡ false → (list_all (names_selectable ms) old && is_ascending old) ≡ true
    → (list_all (names_selectable ms) (with_pair q old) && is_ascending (with_pair q old)) ≡ true
over-more ms name q f old found place selectable new over = grind (arith, found-selectable, both, all-with_pair, and_left, ascending-with_pair, and_right)

-- ## What is chosen of a writer is the same by any list that has the writer's pairs.

pub same-choices : (w : ℕ) (ps qs : List Pair) → HaveSame w ps qs → (parts : List Part) (i : ℕ) (cs : List Part) → choices_from (Named ps) parts w i cs ≡ choices_from (Named qs) parts w i cs
same-choices w ps qs same parts i cs = grind arith
