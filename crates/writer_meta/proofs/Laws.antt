-- What is written of metadata that the format allows says these metadata, step by step; and their texts are UTF-8.
use Rattle.std.proofs.Common.{◌≡◌, ◌∙◌, ℕ, zero, suc, ◌<◌, ◌≤◌, ◌^◌, ◌&&◌, List, [], ◌∷◌, length, get_or, Bool, true, false, Some, None, Ok, inl, nat_le, refl}
use Rattle.std.proofs.Common.{ap, arith, Result, IsOk, MatchResult, IsUtf8, ◌+◌, ◌++◌, drop, map}
use Rattle.std.proofs.lemmas.Bool.Decides.{nat_tests}
use Rattle.std.proofs.lemmas.Grind.{common_steps}
use Rattle.std.proofs.lemmas.List.{drop_more, drop_all}
use Rattle.std.proofs.lemmas.Str.{IsUtf8-from_ascii}
use Rattle.std.specs.Int.{to_be_bytes, bytes_high_first, byte_at, w128}
use Rattle.std.specs.List.{list_all}
use Rattle.std.specs.Str.{IsAscii}
use Rattle.serde_json.specs.Data.{depth, items_depth, Items, no_items, item}
use Rattle.serde_json.specs.View.{view, items_view}
use Rattle.serde_json.specs.Written.{has_float, items_have_float}
use Rattle.serde_json.specs.declared.value.Value.{Value}
use Rattle.uuid.proofs.OrderLemmas.{from_be_bytes-to_be_bytes_16}
use Rattle.uuid.proofs.RoundTrips.{parses_hyphenated}
use Rattle.uuid.specs.Text.{lower, parsed}
use Rattle.vss_names.proofs.LookUps.{component_type_of_number-number_of, level_of_number-number_of, source_kind_of_number-number_of, usage_of_number-number_of}
use Rattle.writer_meta.specs.Document.{IsAllowed, is_allowed_part, class_in, name_in, level_in, usage_in, source_in, freeze_timeout_in, components_in, kind_in}
use Rattle.writer_meta.specs.Document.{path_in, component_name_in, selectable_in, rows_of_part, part_in, parts_in, count_of, double_after, list_of_parts}
use Rattle.writer_meta.specs.Document.{unknown_in, rows_of_meta, meta_in}
use Rattle.writer_meta.specs.Metadata.{Part, Meta, part_of, class_text, part_data, parts_data, meta_data}
use Rattle.writer_meta.specs.Values.{is_writer_name, is_freeze_timeout, is_printable, is_component_name, is_path}
use Rattle.writer_meta.specs.declared.component.Component.{Component}

-- ## What is written of metadata that the format allows says these metadata; it has no float and little depth.

pub and_left : (a b : Bool) → (a && b) ≡ true → a ≡ true
and_left a b h = grind arith

pub and_right : (a b : Bool) → (a && b) ≡ true → b ≡ true
and_right a b h = grind arith

-- ## the class

byte_small : (i n : ℕ) → byte_at i n < 256
byte_small i n = grind arith

bytes_small : (k n j d : ℕ) → j < length (bytes_high_first k n) → get_or (bytes_high_first k n) j d < 256
bytes_small zero n j d h = absurd (omega arith)
bytes_small (suc k) n zero d h = byte_small k n
bytes_small (suc k) n (suc j) d h = bytes_small k n j d (omega arith)

class_parses : (class : ℕ) → Some (to_be_bytes w128 class) ≡ parsed (class_text class)
class_parses class = parses_hyphenated lower (to_be_bytes w128 class) (inl refl) refl (λ j d h. bytes_small 16 class j d h)

class_row : (m : Meta) → m.class < 2 ^ 128 → class_in (meta_data m) ≡ Ok m.class
unfolding class_in meta_data
class_row m fits = rw (← class_parses m.class) (ap Ok (from_be_bytes-to_be_bytes_16 m.class fits))

-- ## the other rows

name_row : (m : Meta) → is_writer_name m.name ≡ true → name_in (meta_data m) ≡ Ok m.name
unfolding name_in meta_data
name_row m allowed = rw allowed refl

level_row : (m : Meta) → level_in (meta_data m) ≡ Ok m.level
unfolding level_in meta_data
level_row m = rw (level_of_number-number_of m.level) refl

usage_row : (m : Meta) → usage_in (meta_data m) ≡ Ok m.usage
unfolding usage_in meta_data
usage_row m = rw (usage_of_number-number_of m.usage) refl

source_row : (m : Meta) → source_in (meta_data m) ≡ Ok m.source
unfolding source_in meta_data
source_row m = rw (source_kind_of_number-number_of m.source) refl

freeze_timeout_row : (m : Meta) → is_freeze_timeout m.freeze_timeout ≡ true → freeze_timeout_in (meta_data m) ≡ Ok m.freeze_timeout
unfolding freeze_timeout_in meta_data
freeze_timeout_row m allowed = rw allowed refl

components_row : (m : Meta) → components_in (meta_data m) ≡ Ok (parts_data m.parts)
unfolding components_in meta_data
components_row m = refl

-- ## components

part_in-part_data : (part : Part) → is_allowed_part part ≡ true → part_in (part_data part) ≡ Ok part
unfolding part_in part_data unknown_in rows_of_part kind_in path_in component_name_in selectable_in
part_in-part_data part allowed = grind (arith, and_left, and_right, component_type_of_number-number_of)

parts_in-parts_data : (parts : List Part) → list_all is_allowed_part parts ≡ true → parts_in (parts_data parts) ≡ Ok parts
unfolding parts_in
parts_in-parts_data [] allowed = refl
parts_in-parts_data (part ∷ parts) allowed =
    rw (part_in-part_data part (and_left _ _ allowed), parts_in-parts_data parts (and_right (is_allowed_part part) _ allowed)) refl

count_of-parts_data : (parts : List Part) → count_of (parts_data parts) ≡ length parts
count_of-parts_data [] = refl
count_of-parts_data (part ∷ parts) = omega (arith, count_of-parts_data parts)

few_parts : (parts : List Part) → length parts ≤ 1024 → nat_le (count_of (parts_data parts)) 1024 ≡ true
few_parts parts few = rw (count_of-parts_data parts) (grind (arith, nat_tests))

list_of_parts-parts_data : (parts : List Part) → length parts ≤ 1024 → list_all is_allowed_part parts ≡ true → double_after [] parts ≡ None → list_of_parts (parts_data parts) ≡ Ok parts
unfolding list_of_parts
list_of_parts-parts_data parts few allowed apart = rw (few_parts parts few, parts_in-parts_data parts allowed) (rw apart refl)

-- ## the whole

meta_in-rows : (m : Meta) → meta_in (meta_data m) ≡ rows_of_meta (meta_data m)
unfolding meta_in meta_data unknown_in
meta_in-rows m = refl

pub meta_in-meta_data : (m : Meta) → IsAllowed m → meta_in (meta_data m) ≡ Ok m
unfolding rows_of_meta
meta_in-meta_data m allowed =
    let class = class_row m allowed.class in
    let name = name_row m allowed.name in
    let freeze_timeout = freeze_timeout_row m allowed.freeze_timeout in
    let parts = list_of_parts-parts_data m.parts allowed.few allowed.parts allowed.distinct in
    meta_in-rows m ∙ rw (class, name, level_row m, usage_row m, source_row m, freeze_timeout, components_row m, parts) refl

-- ## neither floats nor depth

no_float : (parts : List Part) → items_have_float (parts_data parts) ≡ false
unfolding part_data
no_float [] = refl
no_float (part ∷ parts) = no_float parts

pub has_float-meta_data : (m : Meta) → has_float (meta_data m) ≡ false
unfolding meta_data
has_float-meta_data m = rw (no_float m.parts) refl

parts_depth : (parts : List Part) → items_depth (parts_data parts) ≤ 1
unfolding part_data
parts_depth [] = omega arith
parts_depth (part ∷ parts) = omega (arith, parts_depth parts)

pub depth-meta_data : (m : Meta) → depth (meta_data m) ≤ 127
unfolding meta_data
depth-meta_data m = omega (arith, parts_depth m.parts)

-- ## Texts that the format allows are UTF-8.

below : {byte : ℕ} → nat_le byte 126 ≡ true → byte < 128
below passes = grind (arith, nat_tests)

IsAscii-printable : (bytes : List ℕ) → list_all is_printable bytes ≡ true → IsAscii bytes
IsAscii-printable bytes printable i = grind (arith, common_steps, below, and_right, and_left)

pub IsUtf8-printable : (bytes : List ℕ) → list_all is_printable bytes ≡ true → IsUtf8 bytes
IsUtf8-printable bytes printable = IsUtf8-from_ascii bytes (IsAscii-printable bytes printable)

pub IsUtf8-writer_name : (name : List ℕ) → is_writer_name name ≡ true → IsUtf8 name
IsUtf8-writer_name name allowed = IsUtf8-printable name (and_right (_) (list_all is_printable name) allowed)

pub IsUtf8-component_name : (name : List ℕ) → is_component_name name ≡ true → IsUtf8 name
IsUtf8-component_name name allowed = IsUtf8-printable name (and_right _ (list_all is_printable name) (and_left _ _ allowed))

pub IsUtf8-path : (path : List ℕ) → is_path path ≡ true → IsUtf8 path
IsUtf8-path path allowed = IsUtf8-printable path (and_right _ (list_all is_printable path) (and_left _ _ (and_left _ _ (and_left _ _ allowed))))

-- a text that is UTF-8 is read as a string
pub IsOk_utf8 : {T E : Type 0} (r : Result T E) (P : T → Type 0) (Utf8 : Type 0) (Q : E → Type 0) → MatchResult r P (λ e. (¬ Utf8) × Q e) → Utf8 → IsOk r
IsOk_utf8 r x1 x2 x3 cases is = grind arith

pub IsUtf8-part_name : (path name : List ℕ) → (is_path path && is_component_name name) ≡ true → IsUtf8 name
IsUtf8-part_name path name allowed = IsUtf8-component_name name (and_right (is_path path) _ allowed)

pub IsUtf8-part_path : (path name : List ℕ) → (is_path path && is_component_name name) ≡ true → IsUtf8 path
IsUtf8-part_path path name allowed = IsUtf8-path path (and_left _ _ allowed)

-- ## The lists of the values that are written, step by step.

-- these values, and then the other items
abbrev pub with_items : List Value → Items → Items
with_items [] more = more
with_items (v ∷ vs) more = item (view v) (with_items vs more)

pub with_items-one_more : (vs : List Value) (v : Value) (more : Items) → with_items (vs ++ v ∷ []) more ≡ with_items vs (item (view v) more)
with_items-one_more [] v more = refl
with_items-one_more (w ∷ vs) v more = ap (item (view w)) (with_items-one_more vs v more)

pub with_items-none : (vs : List Value) → with_items vs no_items ≡ items_view vs
with_items-none [] = refl
with_items-none (v ∷ vs) = ap (item (view v)) (with_items-none vs)

pub written-more : (components : List Component) (values : List Value) (i : ℕ) (c : Component) (v : Value) → i < length components → c ≡ get_or components i c → view v ≡ part_data (part_of c)
    → with_items values (parts_data (map part_of (drop i components))) ≡ parts_data (map part_of components)
    → with_items (values ++ v ∷ []) (parts_data (map part_of (drop (i + 1) components))) ≡ parts_data (map part_of components)
written-more components values i c v within is seen so_far = grind (arith, drop_more, with_items-one_more)

pub written-all : (components : List Component) (values : List Value) (i : ℕ) → length components ≤ i
    → with_items values (parts_data (map part_of (drop i components))) ≡ parts_data (map part_of components) → items_view values ≡ parts_data (map part_of components)
written-all components values i past so_far = grind (arith, with_items-none, drop_all)

allowed_within : (components : List Component) (i : ℕ) (d : Component) → list_all is_allowed_part (map part_of components) ≡ true → i < length components → is_allowed_part (part_of (get_or components i d)) ≡ true
allowed_within [] i d allowed within = absurd (omega arith)
allowed_within (c ∷ components) zero d allowed within = and_left _ _ allowed
allowed_within (c ∷ components) (suc i) d allowed within = allowed_within components i d (and_right (is_allowed_part (part_of c)) _ allowed) (omega arith)

-- a component of an allowed list is allowed
pub allowed_at : (components : List Component) (i : ℕ) (c : Component) → list_all is_allowed_part (map part_of components) ≡ true → i < length components → c ≡ get_or components i c → is_allowed_part (part_of c) ≡ true
allowed_at components i c allowed within is = rw is (allowed_within components i c allowed within)
