-- The metadata of one writer, as their format allows: the values that are written of choices, and the writers that take part.
use Rattle.std.proofs.Common.{◌≡◌, ◌≤◌, ℕ, zero, suc, List, [], ◌∷◌, length, map, true, Option, None, Some, slice_get, IsUtf8, arith, refl, subst, ◌∙◌, ◌+◌}
use Rattle.std.proofs.Common.{◌<◌, ◌==◌, ◌↔◌, append-nil, is_some, if◌then◌else◌, ◌++◌, drop, Bool, false, ◌&&◌, option_map, sym, ap, get_or, ◌||◌, nat_lt}
use Rattle.std.proofs.Common.{filter, cond}
use Rattle.std.proofs.lemmas.Bool.{and_from, eqb-true, false≢true}
use Rattle.std.proofs.lemmas.Bool.Decides.{nat_tests}
use Rattle.std.proofs.lemmas.Grind.{common_steps}
use Rattle.std.proofs.lemmas.List.{drop_all, length-map, drop_more}
use Rattle.std.proofs.lemmas.List.FromFn.{filter_of_map_range_with_len_more}
use Rattle.std.proofs.lemmas.Map.Views.{any-filter_same}
use Rattle.std.proofs.lemmas.Option.{none-some, same_Some}
use Rattle.std.proofs.lemmas.Str.{IsUtf8-append}
use Rattle.std.specs.List.{list_all, list_any, range_with_len}
use Rattle.std.specs.Prelude.{Result, IfOk}
use Rattle.serde_json.specs.View.{view, items_view}
use Rattle.serde_json.specs.declared.value.Value.{Value}
use Rattle.writer_meta.specs.Document.{IsAllowed, is_allowed_part}
use Rattle.writer_meta.specs.Metadata.{Part, Meta, part_of, joined, full_name, backslash, meta_of}
use Rattle.writer_meta.specs.declared.component.Component.{Component}
use Rattle.writer_meta.specs.declared.metadata.Metadata.{Metadata}
use Rattle.writer_meta.proofs.Laws.{and_left, and_right, IsUtf8-printable, IsUtf8-part_name, IsUtf8-part_path, with_items, with_items-one_more, with_items-none}
use Rattle.component_doc.specs.Document.{component_data, choice_data, choices_data}
use Rattle.component_doc.specs.Over.{has_few, all_have_few, metas_of, AreAllowed, IsKnownAllowed, IsOver, IsSelectedOver, meta_at}
use Rattle.component_doc.specs.Selection.{Selected, choices_of, chosen, chosen_from, known_from, is_taker, takers}
use Rattle.component_doc.specs.declared.choice.Choice.{Choice}
use Rattle.component_doc.proofs.Order.{both, drop-further}

-- ## Metadata that are as their format allows.

few-of : (m : Meta) → length m.parts ≤ 1024 → has_few (Some m) ≡ true
few-of m few = grind (arith, nat_tests)

-- each has few components
pub few-from_allowed : (ms : List (Option Meta)) → AreAllowed ms → all_have_few ms ≡ true
few-from_allowed [] all = refl
few-from_allowed (None ∷ ms) all = few-from_allowed ms all
few-from_allowed (Some m ∷ ms) all = and_from (has_few (Some m)) _ (few-of m all.0.few) (few-from_allowed ms all.1)

-- the components of one writer
pub part-at : (components : List Component) (i : ℕ) (c : Component) → slice_get components i ≡ Some c → list_all is_allowed_part (map part_of components) ≡ true → is_allowed_part (part_of c) ≡ true
part-at [] i c at all = absurd (none-some c at)
part-at (x ∷ components) zero c at all = subst (λ (y : Component). is_allowed_part (part_of y) ≡ true) (same_Some x c at) (and_left _ _ all)
part-at (x ∷ components) (suc i) c at all = part-at components i c at (and_right (is_allowed_part (part_of x)) _ all)

-- ## full names

IsUtf8-joined : (path name : List ℕ) → IsUtf8 path → IsUtf8 name → IsUtf8 (joined path name)
IsUtf8-joined [] name p n = n
IsUtf8-joined (c ∷ path) name p n = IsUtf8-append (c ∷ path) (backslash ∷ name) p (IsUtf8-append (backslash ∷ []) name (IsUtf8-printable (backslash ∷ []) refl) n)

pub IsUtf8-full_name : (part : Part) → is_allowed_part part ≡ true → IsUtf8 (full_name part)
IsUtf8-full_name part allowed = IsUtf8-joined part.path part.name (IsUtf8-part_path part.path part.name allowed) (IsUtf8-part_name part.path part.name allowed)

-- one writer that is known
pub few_known : (m : Meta) → IsAllowed m → has_few (Some m) ≡ true
few_known m allowed = few-of m allowed.few

-- ## The metadata of one writer, by its number.

pub map-at : {A B : Type 0} (f : A → B) (xs : List A) (i : ℕ) (x : A) → slice_get xs i ≡ Some x → slice_get (map f xs) i ≡ Some (f x)
map-at f [] i x e = absurd (none-some x e)
map-at f (y ∷ xs) zero x e = ap (λ z. Some (f z)) (same_Some y x e)
map-at f (y ∷ xs) (suc i) x e = map-at f xs i x e

-- what is borrowed of a writer
pub get-some : {R : Type 0} (xs : List (Option R)) (f : R → Metadata) (w : ℕ) (known : Option R) → slice_get xs w ≡ Some known
    → option_map (λ r. meta_of (f r)) known ≡ meta_at (slice_get (metas_of (map (option_map f) xs)) w)
get-some xs f w None at = sym (ap meta_at (map-at (option_map meta_of) (map (option_map f) xs) w None (map-at (option_map f) xs w None at)))
get-some xs f w (Some r) at = sym (ap meta_at (map-at (option_map meta_of) (map (option_map f) xs) w (Some (f r)) (map-at (option_map f) xs w (Some r) at)))

pub known-is : {R : Type 0} (r : Option R) (m : R) (f : R → Metadata) (x : Option Meta) → r ≡ Some m → option_map (λ k. meta_of (f k)) r ≡ x → Some (meta_of (f m)) ≡ x
known-is r m f x is e = sym (ap (option_map (λ k. meta_of (f k))) is) ∙ e

-- ## what holds of each writer

pub few-known : (ms : List (Option Meta)) (w : ℕ) → all_have_few ms ≡ true → has_few (meta_at (slice_get ms w)) ≡ true
few-known [] w all = refl
few-known (x ∷ ms) zero all = and_left (has_few x) _ all
few-known (x ∷ ms) (suc w) all = few-known ms w (and_right (has_few x) _ all)

pub few-components : (ms : List (Option Meta)) (w : ℕ) (m : Metadata) → Some (meta_of m) ≡ meta_at (slice_get ms w) → all_have_few ms ≡ true → length m.components ≤ 1024
few-components ms w m at all = grind (arith, common_steps, few-known ms w all)

pub allowed-known : (ms : List (Option Meta)) (w : ℕ) (m : Meta) → Some m ≡ meta_at (slice_get ms w) → AreAllowed ms → IsAllowed m
allowed-known [] w m at all = absurd (none-some m (sym at))
allowed-known (None ∷ ms) zero m at all = absurd (none-some m (sym at))
allowed-known (Some x ∷ ms) zero m at all = subst IsAllowed (sym (same_Some m x at)) all.0
allowed-known (None ∷ ms) (suc w) m at all = allowed-known ms w m at all
allowed-known (Some x ∷ ms) (suc w) m at all = allowed-known ms w m at all.1

-- all that are known are allowed, just where each is
pub each-allowed : (ms : List (Option Meta)) (w : ℕ) → AreAllowed ms → IsKnownAllowed (meta_at (slice_get ms w))
each-allowed [] w all = tt
each-allowed (None ∷ ms) zero all = tt
each-allowed (Some x ∷ ms) zero all = all.0
each-allowed (None ∷ ms) (suc w) all = each-allowed ms w all
each-allowed (Some x ∷ ms) (suc w) all = each-allowed ms w all.1

pub all-allowed : (ms : List (Option Meta)) → ((w : ℕ) → w < length ms → IsKnownAllowed (meta_at (slice_get ms w))) → AreAllowed ms
all-allowed [] each = tt
all-allowed (None ∷ ms) each = all-allowed ms (λ w low. each (suc w) (omega arith))
all-allowed (Some m ∷ ms) each = (each 0 (omega arith), all-allowed ms (λ w low. each (suc w) (omega arith)))

-- the test of one writer
pub known_allowed : {R E : Type 0} (r : Option R) (m : R) (f : R → Metadata) (x : Option Meta) (result : Result Bool E) → r ≡ Some m → option_map (λ k. meta_of (f k)) r ≡ x
    → IfOk result (λ a. (a ≡ true) ↔ IsAllowed (meta_of (f m))) → IfOk result (λ a. (a ≡ true) ↔ IsKnownAllowed x)
known_allowed r m f x result is at allowed = subst (λ (o : Option Meta). IfOk result (λ a. (a ≡ true) ↔ IsKnownAllowed o)) (known-is r m f x is at) allowed

pub none_allowed : {R : Type 0} (r : Option R) (f : R → Metadata) (x : Option Meta) → r ≡ None → option_map (λ k. meta_of (f k)) r ≡ x → (true ≡ true) ↔ IsKnownAllowed x
none_allowed r f x is at = grind arith

-- and of all: one is refused, one more is not, and none is left
pub one_refused : (ms : List (Option Meta)) (w : ℕ) (b : Bool) → (b ≡ true) ↔ IsKnownAllowed (meta_at (slice_get ms w)) → b ≡ false → (false ≡ true) ↔ AreAllowed ms
one_refused ms w b is refused = (λ e. absurd (false≢true e), λ all. absurd (false≢true (sym refused ∙ is.1 (each-allowed ms w all))))

pub allowed-on : (ms : List (Option Meta)) (k : ℕ) (b : Bool) → (b ≡ true) ↔ IsKnownAllowed (meta_at (slice_get ms k)) → b ≡ true → ((w : ℕ) → w < k → IsKnownAllowed (meta_at (slice_get ms w)))
    → (w : ℕ) → w < k + 1 → IsKnownAllowed (meta_at (slice_get ms w))
allowed-on ms k b is test before w low = grind arith

pub allowed-end : (ms : List (Option Meta)) (k : ℕ) → length ms ≤ k → ((w : ℕ) → w < k → IsKnownAllowed (meta_at (slice_get ms w))) → (true ≡ true) ↔ AreAllowed ms
allowed-end ms k past each = (λ e. all-allowed ms (λ w low. each w (omega arith)), λ all. refl)

-- ## a component by its full name

-- ## writer after writer

some-map : {A B : Type 0} (f : A → B) (o : Option A) → is_some o ≡ is_some (option_map f o)
some-map f o = grind arith

known-step : (a w : ℕ) (ms : List (Option Meta)) → w < length ms
    → (if is_some (meta_at (slice_get ms w)) then a ∷ [] else []) ++ known_from (a + 1) (drop (w + 1) ms) ≡ known_from a (drop w ms)
known-step a w [] l = absurd (omega arith)
known-step a zero (None ∷ ms) l = refl
known-step a zero (Some x ∷ ms) l = refl
known-step a (suc w) (x ∷ ms) l = ap (λ ys. (if is_some (meta_at (slice_get ms w)) then a ∷ [] else []) ++ known_from (a + 1) ys) (drop-further w x ms) ∙ known-step a w ms (omega arith)

pub known-on : {R : Type 0} (ms : List (Option Meta)) (w : ℕ) (ws new : List ℕ) (b : Bool) (f : R → Meta) (r : Option R) → w < length ms → new ≡ ws ++ (if b then w ∷ [] else []) → b ≡ is_some r
    → option_map f r ≡ meta_at (slice_get ms w) → ws ++ known_from w (drop w ms) ≡ known_from 0 ms → new ++ known_from (w + 1) (drop (w + 1) ms) ≡ known_from 0 ms
known-on ms w ws new b f r l is some at so_far = grind (arith, common_steps, some-map f r, known-step w w ms l)

pub known-end : (ms : List (Option Meta)) (w : ℕ) (ws : List ℕ) → length ms ≤ w → ws ++ known_from w (drop w ms) ≡ known_from 0 ms → ws ≡ known_from 0 ms
known-end ms w ws past so_far = sym (append-nil ws) ∙ ap (λ ys. ws ++ known_from w ys) (sym (drop_all w ms past)) ∙ so_far

chosen-step : (s : Selected) (a w : ℕ) (ms : List (Option Meta)) → w < length ms
    → choices_of s a (meta_at (slice_get ms w)) ++ chosen_from s (a + 1) (drop (w + 1) ms) ≡ chosen_from s a (drop w ms)
chosen-step s a w [] l = absurd (omega arith)
chosen-step s a zero (m ∷ ms) l = refl
chosen-step s a (suc w) (m ∷ ms) l = ap (λ ys. choices_of s a (meta_at (slice_get ms w)) ++ chosen_from s (a + 1) ys) (drop-further w m ms) ∙ chosen-step s a w ms (omega arith)

pub chosen-on : (s t : Selected) (ms : List (Option Meta)) (w : ℕ) (cs new : List Choice) (o : Option Meta) → t ≡ s → w < length ms → new ≡ cs ++ choices_of t w o → o ≡ meta_at (slice_get ms w)
    → cs ++ chosen_from s w (drop w ms) ≡ chosen s ms → new ++ chosen_from s (w + 1) (drop (w + 1) ms) ≡ chosen s ms
chosen-on s t ms w cs new o same l is at so_far = grind (arith, common_steps, chosen-step)

-- ## a selection over these metadata

pub over-both : (ms : List (Option Metadata)) (n : ℕ) (s : Selected) (b r : Bool) → r ≡ ((n == length ms) && b) → (b ≡ true) ↔ IsSelectedOver (metas_of ms) s
    → (r ≡ true) ↔ IsOver (metas_of ms) (record { writers = n; selected = s })
over-both ms n s b r e h = grind (arith, length-map, eqb-true, and_left, and_right, both)

-- ## The values that are written of choices.

-- a choice whose writer is known and has the component
pub choice-found : (o : Option Meta) (c : Choice) (m : Metadata) (component : Component) → Some (meta_of m) ≡ o → slice_get m.components c.component ≡ Some component
    → Some (component_data m.class c.explicit (full_name (part_of component)) c.writer) ≡ choice_data c o
choice-found o c m component known found = grind (arith, map-at)

-- ## in a row

pub value-more : (ms : List (Option Meta)) (choices : List Choice) (values : List Value) (i : ℕ) (d : Choice) (v : Value) → i < length choices
    → Some (view v) ≡ choice_data (get_or choices i d) (meta_at (slice_get ms (get_or choices i d).writer)) → with_items values (choices_data ms (drop i choices)) ≡ choices_data ms choices
    → with_items (values ++ v ∷ []) (choices_data ms (drop (i + 1) choices)) ≡ choices_data ms choices
value-more ms choices values i d v within seen so_far = grind (arith, drop_more, with_items-one_more)

pub value-none : (ms : List (Option Meta)) (choices : List Choice) (values : List Value) (i : ℕ) (d : Choice) → i < length choices
    → None ≡ choice_data (get_or choices i d) (meta_at (slice_get ms (get_or choices i d).writer)) → with_items values (choices_data ms (drop i choices)) ≡ choices_data ms choices
    → with_items values (choices_data ms (drop (i + 1) choices)) ≡ choices_data ms choices
value-none ms choices values i d within none so_far = grind (arith, drop_more)

pub value-all : (ms : List (Option Meta)) (choices : List Choice) (values : List Value) (i : ℕ) → length choices ≤ i
    → with_items values (choices_data ms (drop i choices)) ≡ choices_data ms choices → items_view values ≡ choices_data ms choices
value-all ms choices values i past so_far = grind (arith, with_items-none, drop_all)

-- ## The writers that take part, one writer more.

map-same : (xs : List ℕ) → map (λ x. x) xs ≡ xs
map-same xs = grind (arith, common_steps)

more : (s : Selected) (n : ℕ) → filter (is_taker s) (range_with_len 0 (n + 1)) ≡ filter (is_taker s) (range_with_len 0 n) ++ cond (is_taker s n) (n ∷ []) []
more s n =
    ap (filter (is_taker s)) (sym (map-same (range_with_len 0 (n + 1))))
    ∙ filter_of_map_range_with_len_more (is_taker s) (λ x. x) 0 n n (omega arith)
    ∙ ap (λ r. filter (is_taker s) r ++ cond (is_taker s n) (n ∷ []) []) (map-same (range_with_len 0 n))

pub taken : (s : Selected) (n : ℕ) (writers : List ℕ) → is_taker s n ≡ true → writers ≡ filter (is_taker s) (range_with_len 0 n)
    → writers ++ n ∷ [] ≡ filter (is_taker s) (range_with_len 0 (n + 1))
taken s n writers takes so_far = ap (λ r. r ++ n ∷ []) so_far ∙ sym (more s n ∙ ap (λ b. filter (is_taker s) (range_with_len 0 n) ++ cond b (n ∷ []) []) takes)

pub passed : (s : Selected) (n : ℕ) (writers : List ℕ) → is_taker s n ≡ false → writers ≡ filter (is_taker s) (range_with_len 0 n)
    → writers ≡ filter (is_taker s) (range_with_len 0 (n + 1))
passed s n writers takes so_far = grind (arith, common_steps, more)

-- ## one writer

range-step : (a n w : ℕ) (b : Bool) → (a == w) ≡ b → a ≤ w → (a + 1 ≤ w → list_any (λ x. x == w) (range_with_len (a + 1) n) ≡ nat_lt w (a + 1 + n))
    → (b || list_any (λ x. x == w) (range_with_len (a + 1) n)) ≡ nat_lt w (a + suc n)
range-step a n w b e l more = grind arith

-- a number is in a range below whose end it is
any-range : (a n w : ℕ) → a ≤ w → list_any (λ x. x == w) (range_with_len a n) ≡ nat_lt w (a + n)
any-range a zero w l = grind (arith, nat_tests)
any-range a (suc n) w l = range-step a n w (a == w) refl l (any-range (a + 1) n w)

swapped : (b c : Bool) → (b && c) ≡ (c && b)
swapped b c = grind arith

-- a writer takes part that is one of them, and is taken
pub takes-is : (n : ℕ) (s : Selected) (w : ℕ) → (nat_lt w n && is_taker s w) ≡ list_any (λ x. x == w) (takers n s)
takes-is n s w = grind (arith, common_steps, nat_tests, any-filter_same, eqb-true, any-range 0 n w (omega arith), swapped (is_taker s w) (nat_lt w n))
