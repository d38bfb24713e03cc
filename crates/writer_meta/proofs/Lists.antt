-- The lists of a JSON value, step by step: what is refused, what is found, and that past the numbers of a table nothing is.
use Rattle.std.proofs.Common.{◌≡◌, ◌↔◌, ◌∙◌, ℕ, Bool, true, false, true≢false, IsTrue, if◌then◌else◌, List, Option, Some, None, Result, IfErr, IsErrAnd, IsUtf8}
use Rattle.std.proofs.Common.{sym, arith, ◌+◌, ◌<◌, ◌≤◌, [], ◌∷◌, ◌++◌, length, get_or, drop, map, Ok, Err, IsOk, refl, ap, append-nil, ◌||◌, cond, nat_le}
use Rattle.std.proofs.Common.{string_bytes, codes, nat_eq}
use Rattle.std.proofs.lemmas.Bool.Decides.{nat_tests}
use Rattle.std.proofs.lemmas.Grind.{common_steps}
use Rattle.std.proofs.lemmas.List.{drop_more, drop_all, map-append}
use Rattle.std.proofs.lemmas.Slice.Eq.{bytes_eq-Decides}
use Rattle.std.proofs.lemmas.Str.{IsUtf8-from_is_utf8, is_utf8-from_IsUtf8}
use Rattle.std.specs.List.{list_any}
use Rattle.std.specs.Option.{option_or}
use Rattle.std.specs.Str.{is_utf8, bytes_eq}
use Rattle.serde_json.proofs.Views.{Entry}
use Rattle.serde_json.specs.Data.{Data, Members, no_members, member}
use Rattle.serde_json.specs.Find.{get_member}
use Rattle.serde_json.specs.Read.{read}
use Rattle.serde_json.specs.View.{view, items_view, members_view}
use Rattle.serde_json.specs.declared.value.Value.{Value}
use Rattle.vss_names.specs.ComponentType.{component_type_of_number}
use Rattle.vss_names.specs.Level.{level_of_number}
use Rattle.vss_names.specs.SourceKind.{source_kind_of_number}
use Rattle.vss_names.specs.Usage.{usage_of_number}
use Rattle.writer_meta.specs.Document.{then_on, value_of_text, part_in, parts_in, list_of_parts, distinct, count_of, unknown_in, double_after, PartRows}
use Rattle.writer_meta.specs.Document.{rows_in, is_known, component_members, rows_or, rows_with}
use Rattle.writer_meta.specs.Metadata.{Part, part_of, full_name}
use Rattle.writer_meta.specs.Refusal.{Refusal, refusal_of, IsRefused, Tells, HasTooMany}
use Rattle.writer_meta.specs.declared.component.Component.{Component}
use Rattle.writer_meta.specs.declared.meta_fault.MetaFault.{MetaFault}

-- ## A refusal that a part of a document has is the document's, where the parts before it have none.

IsRefused-then_on : {A B : Type 0} (refusal : Option Refusal) (said : Result A Refusal) (more : A → Result B Refusal) → IsRefused refusal said → IsRefused refusal (then_on said more)
IsRefused-then_on refusal said more h = grind arith

pub Tells-then_on : {A B : Type 0} (fault : MetaFault) (said : Result A Refusal) (more : A → Result B Refusal) → Tells fault said → Tells fault (then_on said more)
Tells-then_on fault said more h = IsRefused-then_on (refusal_of fault) said more h

-- the same where a call's error is handed on
pub Tells-handed_on : {T A : Type 0} (r : Result T MetaFault) (fault : MetaFault) (said : Result A Refusal) → IsErrAnd r (λ f. f ≡ fault) → Tells fault said → IfErr r (λ f. Tells f said)
Tells-handed_on r fault said is h = grind arith

none_if : {A : Type 0} (b : Bool) (found : Option A) → (b ≡ true → found ≡ None) → (if b then found else None) ≡ None
none_if b found h = grind arith

-- a text that is refused, and not for want of memory, has no value
pub no_value : {M : Type 0} (text : List ℕ) (memory : Bool) → memory ≡ false → (IsTrue memory ↔ M) → (¬ M → IsUtf8 text → read text ≡ None) → value_of_text text ≡ None
unfolding value_of_text
no_value text memory is test none =
    let other : ¬ _ = λ m. true≢false (sym (test.1 m) ∙ is) in
    none_if (is_utf8 text) (read text) (λ e. none other (IsUtf8-from_is_utf8 text e))

pub has_value : (text : List ℕ) (d : Data) → IsUtf8 text → read text ≡ Some d → value_of_text text ≡ Some d
unfolding value_of_text
has_value text d utf8 is = rw (is_utf8-from_IsUtf8 text utf8) is

-- ## The lists of a JSON value, step by step.

-- a text that is no identifier parses to none
pub none_parsed : {E : Type 0} (e : E) (found : Option (List ℕ)) → (IsOk {T = List ℕ} (Err e) ↔ ((u : List ℕ) × (found ≡ Some u))) → found ≡ None
none_parsed e found same = grind arith

pub count_of-items_view : (vs : List Value) → count_of (items_view vs) ≡ length vs
count_of-items_view [] = refl
count_of-items_view (v ∷ vs) = omega (arith, count_of-items_view vs)

within_limit : (values : List Value) → length values ≤ 1024 → nat_le (count_of (items_view values)) 1024 ≡ true
within_limit values few = rw (count_of-items_view values) (grind (arith, nat_tests))

past_limit : (values : List Value) → 1024 < length values → nat_le (count_of (items_view values)) 1024 ≡ false
past_limit values many = rw (count_of-items_view values) (grind (arith, nat_tests))

pub few : (values : List Value) → length values ≤ 1024 → list_of_parts (items_view values) ≡ then_on (parts_in (items_view values)) distinct
unfolding list_of_parts
few values within = rw (within_limit values within) refl

pub too_many : (values : List Value) → 1024 < length values → list_of_parts (items_view values) ≡ Err HasTooMany
unfolding list_of_parts
too_many values many = rw (past_limit values many) refl

-- these parts, and then the others
abbrev pub after : List Part → Result (List Part) Refusal → Result (List Part) Refusal
after parts more = then_on more (λ others. Ok (parts ++ others))

after_one_more : (parts : List Part) (part : Part) (more : Result (List Part) Refusal) → after parts (then_on more (λ others. Ok (part ∷ others))) ≡ after (parts ++ part ∷ []) more
after_one_more parts part more = grind (arith, common_steps)

-- one value more
pub after-more : (values : List Value) (i : ℕ) (v : Value) (parts : List Part) (part : Part) → i < length values → v ≡ get_or values i v → part_in (view v) ≡ Ok part
    → after parts (parts_in (items_view (drop i values))) ≡ after (parts ++ part ∷ []) (parts_in (items_view (drop (i + 1) values)))
unfolding parts_in
after-more values i v parts part within is read = grind (arith, drop_more, after_one_more)

-- a value that is no component
pub Tells-after : (fault : MetaFault) (values : List Value) (i : ℕ) (v : Value) (parts : List Part) → i < length values → v ≡ get_or values i v → Tells fault (part_in (view v))
    → Tells fault (after parts (parts_in (items_view (drop i values))))
unfolding parts_in
Tells-after fault values i v parts within is refused = grind (arith, drop_more, Tells-then_on)

-- the end
pub after-all : (values : List Value) (i : ℕ) (parts : List Part) → length values ≤ i → after parts (parts_in (items_view (drop i values))) ≡ Ok parts
unfolding parts_in
after-all values i parts past = rw (drop_all i values past) (ap Ok (append-nil parts))

-- ## unknown members

pub unknown-further : (known : List ℕ → Bool) (left more : List Entry) (e : Entry) → left ≡ e ∷ more → known (string_bytes e.0) ≡ true → unknown_in known (members_view left) ≡ unknown_in known (members_view more)
unfolding unknown_in
unknown-further known left more e step present = rw step (rw present refl)

-- ## full names

pub double-here : (so_far : List (List ℕ)) (components : List Component) (i : ℕ) (c : Component) (name : List ℕ) → i < length components → c ≡ get_or components i c
    → name ≡ full_name (part_of c) → list_any (λ n. bytes_eq n name) so_far ≡ true → double_after so_far (map part_of (drop i components)) ≡ Some name
unfolding double_after
double-here so_far components i c name within is named found =
    let here : drop i components ≡ c ∷ drop (i + 1) components = drop_more components i c within ∙ ap (λ w. w ∷ drop (i + 1) components) (sym is) in
    let had : list_any (λ n. bytes_eq n (full_name (part_of c))) so_far ≡ true = rw (← named) found in
    rw here (rw had (ap Some (sym named)))

pub double-further : (so_far : List (List ℕ)) (components : List Component) (i : ℕ) (c : Component) (name : List ℕ) → i < length components → c ≡ get_or components i c
    → name ≡ full_name (part_of c) → list_any (λ n. bytes_eq n name) so_far ≡ false
    → double_after so_far (map part_of (drop i components)) ≡ double_after (name ∷ so_far) (map part_of (drop (i + 1) components))
unfolding double_after
double-further so_far components i c name within is named new =
    let here : drop i components ≡ c ∷ drop (i + 1) components = drop_more components i c within ∙ ap (λ w. w ∷ drop (i + 1) components) (sym is) in
    let had : list_any (λ n. bytes_eq n (full_name (part_of c))) so_far ≡ false = rw (← named) new in
    rw here (rw had (ap (λ n. double_after (n ∷ so_far) (map part_of (drop (i + 1) components))) (sym named)))

pub double-none : (so_far : List (List ℕ)) (components : List Component) (i : ℕ) → length components ≤ i → double_after so_far (map part_of (drop i components)) ≡ None
unfolding double_after
double-none so_far components i past = rw (drop_all i components past) refl

-- a set with one name more
pub has-one_more : (same old new among : Bool) (x y : List ℕ) → new ≡ cond same true old → same ≡ bytes_eq x y → old ≡ among → new ≡ (bytes_eq x y || among)
has-one_more same old new among x y updated is had = grind arith

-- ## copies

pub copied_more : (components copies : List Component) (i : ℕ) (c copy : Component) → i < length components → c ≡ get_or components i c → part_of copy ≡ part_of c
    → map part_of copies ++ map part_of (drop i components) ≡ map part_of components
    → map part_of (copies ++ copy ∷ []) ++ map part_of (drop (i + 1) components) ≡ map part_of components
copied_more components copies i c copy within is same so_far = grind (arith, common_steps, drop_more, map-append)

pub copied_all : (components copies : List Component) (i : ℕ) → length components ≤ i
    → map part_of copies ++ map part_of (drop i components) ≡ map part_of components → map part_of copies ≡ map part_of components
copied_all components copies i past so_far = grind (arith, common_steps, drop_all)

-- ## The values of a component's members, one member after another.

abbrev rows_of : Option Data → Option Data → Option Data → Option Data → PartRows
rows_of kind path name selectable = record { kind = kind; path = path; name = name; selectable = selectable }

same_rows : {k l p q n m s t : Option Data} → k ≡ l → p ≡ q → n ≡ m → s ≡ t → rows_of k p n s ≡ rows_of l q m t
same_rows a b c d = cc

-- ## a member that no component has

turned : (a b : List ℕ) → bytes_eq a b ≡ false → bytes_eq b a ≡ false
turned a b apart = grind (arith, bytes_eq-Decides)

none_of : {a b c d : Bool} → a ≡ false → b ≡ false → c ≡ false → d ≡ false → (a || (b || (c || (d || false)))) ≡ false
none_of e f g h = rw (e, f, g, h) refl

pub not_known : (name : List ℕ) → bytes_eq name (codes "name") ≡ false → bytes_eq name (codes "path") ≡ false → bytes_eq name (codes "selectable") ≡ false → bytes_eq name (codes "type") ≡ false
    → is_known component_members name ≡ false
not_known name n p s t = none_of (turned name (codes "name") n) (turned name (codes "path") p) (turned name (codes "selectable") s) (turned name (codes "type") t)

-- ## all members

found_further : (found : Option Data) (k name : List ℕ) (d : Data) (ms : Members)
    → option_or (option_or found (get_member k (member name d no_members))) (get_member k ms) ≡ option_or found (get_member k (member name d ms))
found_further found k name d ms = grind arith

pub rows-further : (k p n s : Option Data) (left more : List Entry) (e : Entry) → left ≡ e ∷ more
    → rows_or (rows_with (rows_of k p n s) (string_bytes e.0) (view e.1)) (rows_in (members_view more)) ≡ rows_or (rows_of k p n s) (rows_in (members_view left))
rows-further k p n s left more e step =
    let f : (found : Option Data) (m : List ℕ) → _ = λ found m. found_further found m (string_bytes e.0) (view e.1) (members_view more) in
    rw step (same_rows (f k (codes "type")) (f p (codes "path")) (f n (codes "name")) (f s (codes "selectable")))

-- ## Past the numbers of a table nothing is found.

other : (k n : ℕ) → k < n → nat_eq k n ≡ false
other k n h = grind (arith, nat_tests)

pub no_level_past : (n : ℕ) → 4 < n → level_of_number n ≡ None
unfolding level_of_number
no_level_past n h = rw (other 1 n (omega arith), other 2 n (omega arith), other 3 n (omega arith)) refl

pub no_usage_past : (n : ℕ) → 4 < n → usage_of_number n ≡ None
unfolding usage_of_number
no_usage_past n h = rw (other 1 n (omega arith), other 2 n (omega arith), other 3 n (omega arith), other 4 n (omega arith)) refl

pub no_source_kind_past : (n : ℕ) → 4 < n → source_kind_of_number n ≡ None
unfolding source_kind_of_number
no_source_kind_past n h = rw (other 1 n (omega arith), other 2 n (omega arith), other 3 n (omega arith)) refl

pub no_component_type_past : (n : ℕ) → 4 < n → component_type_of_number n ≡ None
unfolding component_type_of_number
no_component_type_past n h = rw (other 1 n (omega arith), other 2 n (omega arith)) refl
