-- When metadata are allowed, and that what a document says is.
use Rattle.std.proofs.Common.{◌≡◌, ◌↔◌, ◌<◌, ◌^◌, Bool, true, List, [], ◌∷◌, map, ap, refl, arith, ℕ, ◌+◌, ◌≤◌, length, Option, Some, None, Result, Ok, Err}
use Rattle.std.proofs.Common.{nat_le, if◌then◌else◌, subst}
use Rattle.std.proofs.lemmas.Bool.{and_from}
use Rattle.std.proofs.lemmas.Bool.Decides.{nat_tests}
use Rattle.std.proofs.lemmas.Grind.{common_steps}
use Rattle.std.specs.List.{list_all}
use Rattle.std.specs.Prelude.{◌&&◌, IfOk}
use Rattle.serde_json.specs.Data.{Data, null, boolean, number, string, array, object, Items, no_items, item, Members}
use Rattle.serde_json.specs.Find.{as_object}
use Rattle.writer_meta.specs.Document.{is_allowed_part, AreAllowedParts, IsAllowed, then_on, optional, name_in, freeze_timeout_in, path_in, component_name_in}
use Rattle.writer_meta.specs.Document.{kind_in, selectable_in, PartRows, rows_in, rows_of_part, part_of_members, part_in, parts_in, count_of, double_after}
use Rattle.writer_meta.specs.Document.{unless_double, unless_unknown, list_of_parts}
use Rattle.writer_meta.specs.Metadata.{Meta, part_of, Part}
use Rattle.writer_meta.specs.Refusal.{Refusal}
use Rattle.writer_meta.specs.Values.{is_writer_name, is_freeze_timeout, is_component_name, is_path, some_if, string_value, path_value}
use Rattle.writer_meta.specs.declared.component.Component.{Component}
use Rattle.writer_meta.specs.declared.field.Field.{Field}
use Rattle.writer_meta.specs.declared.field.Field.TheVariants as field

-- ## When metadata are allowed, from the tests that are made of them.

-- a test of each component is one of each part
pub all_parts : (components : List Component) → list_all is_allowed_part (map part_of components) ≡ list_all (λ (c : Component). is_allowed_part (part_of c)) components
all_parts [] = refl
all_parts (c ∷ components) = ap (λ (t : Bool). is_allowed_part (part_of c) && t) (all_parts components)

-- ## metadata

-- what the components' test answers is what the metadata's does
pub parts_if_ok : {E : Type 0} (m : Meta) (named timed : Bool) (result : Result Bool E) → m.class < 2 ^ 128 → named ≡ is_writer_name m.name → named ≡ true → timed ≡ is_freeze_timeout m.freeze_timeout
    → timed ≡ true
    → IfOk result (λ are. (are ≡ true) ↔ AreAllowedParts m.parts) → IfOk result (λ are. (are ≡ true) ↔ IsAllowed m)
parts_if_ok m named timed result narrow is_name name is_timed time parts = grind arith

-- ## What a document says is allowed.

same_value : {A : Type 0} (x y : A) → ◌≡◌ {A = Result A Refusal} (Ok x) (Ok y) → x ≡ y
same_value x y e = cc

some_if-passes : {A : Type 0} (passes : A → Bool) (b : Bool) (x y : A) → b ≡ passes x → some_if b x ≡ Some y → passes y ≡ true
some_if-passes passes b x y is e = grind arith

string_value-passes : (passes : List ℕ → Bool) (d : Data) (text : List ℕ) → string_value passes d ≡ Some text → passes text ≡ true
string_value-passes passes null text e = absurd (cc)
string_value-passes passes (boolean b) text e = absurd (cc)
string_value-passes passes (number n) text e = absurd (cc)
string_value-passes passes (string s) text e = some_if-passes passes (passes s) s text refl e
string_value-passes passes (array ds) text e = absurd (cc)
string_value-passes passes (object ms) text e = absurd (cc)

then_on-Ok : {A B : Type 0} (said : Result A Refusal) (more : A → Result B Refusal) (y : B) → then_on said more ≡ Ok y → (x : A) × (said ≡ Ok x) × (more x ≡ Ok y)
then_on-Ok said more y e = grind arith

optional-Ok : {A : Type 0} (default : A) (value : Data → Option A) (place : Field) (passes : A → Bool) (found : Option Data) (x : A) → passes default ≡ true
    → ((v : Data) (y : A) → value v ≡ Some y → passes y ≡ true) → optional default value place found ≡ Ok x → passes x ≡ true
optional-Ok default value place passes found x usual good e = grind arith

pub name_in-allowed : (d : Data) (name : List ℕ) → name_in d ≡ Ok name → is_writer_name name ≡ true
unfolding name_in
name_in-allowed d name e = grind arith

pub freeze_timeout_in-allowed : (d : Data) (ticks : ℕ) → freeze_timeout_in d ≡ Ok ticks → is_freeze_timeout ticks ≡ true
unfolding freeze_timeout_in
freeze_timeout_in-allowed d ticks e = grind arith

path_in-allowed : (found : Option Data) (path : List ℕ) → path_in found ≡ Ok path → is_path path ≡ true
unfolding path_in
path_in-allowed found path e = optional-Ok [] path_value field.Path is_path found path refl (string_value-passes is_path) e

component_name_in-allowed : (found : Option Data) (name : List ℕ) → component_name_in found ≡ Ok name → is_component_name name ≡ true
unfolding component_name_in
component_name_in-allowed found name e = grind arith

rows_of_part-allowed : (rows : PartRows) (part : Part) → rows_of_part rows ≡ Ok part → is_allowed_part part ≡ true
unfolding rows_of_part
rows_of_part-allowed rows part e =
    let kind = then_on-Ok (kind_in rows.kind) _ part e in
    let path = then_on-Ok (path_in rows.path) _ part kind.2 in
    let name = then_on-Ok (component_name_in rows.name) _ part path.2 in
    let selectable = then_on-Ok (selectable_in rows.selectable) _ part name.2 in
    subst (λ p. is_allowed_part p ≡ true) (same_value _ part selectable.2)
    (and_from _ _ (path_in-allowed rows.path path.0 path.1) (component_name_in-allowed rows.name name.0 name.1))

from_unless_unknown : {A : Type 0} (unknown : Option (List ℕ)) (said : Result A Refusal) (x : A) → unless_unknown unknown said ≡ Ok x → said ≡ Ok x
from_unless_unknown unknown said x e = grind arith

part_of_members-allowed : (members : Option Members) (part : Part) → part_of_members members ≡ Ok part → is_allowed_part part ≡ true
part_of_members-allowed None part e = absurd (cc)
part_of_members-allowed (Some ms) part e = rows_of_part-allowed (rows_in ms) part (from_unless_unknown _ _ part e)

part_in-allowed : (d : Data) (part : Part) → part_in d ≡ Ok part → is_allowed_part part ≡ true
unfolding part_in
part_in-allowed d part e = part_of_members-allowed (as_object d) part e

parts_in-allowed : (items : Items) (parts : List Part) → parts_in items ≡ Ok parts → (list_all is_allowed_part parts ≡ true) × (length parts ≡ count_of items)
unfolding parts_in
parts_in-allowed no_items parts e = grind (arith, common_steps, same_value)
parts_in-allowed (item d more) parts e =
    let part = then_on-Ok (part_in d) _ parts e in
    let others = then_on-Ok (parts_in more) _ parts part.2 in
    let rest = parts_in-allowed more others.0 others.1 in
    subst (λ ps. (list_all is_allowed_part ps ≡ true) × (length ps ≡ count_of more + 1)) (same_value (part.0 ∷ others.0) parts others.2)
    (and_from _ _ (part_in-allowed d part.0 part.1) rest.0, omega (arith, rest.1))

from_unless_double : (double : Option (List ℕ)) (parts found : List Part) → unless_double double parts ≡ Ok found → (double ≡ None) × (parts ≡ found)
from_unless_double double parts found e = grind arith

from_limit : {A : Type 0} (b : Bool) (said : Result A Refusal) (refusal : Refusal) (x : A) → (if b then said else Err refusal) ≡ Ok x → (b ≡ true) × (said ≡ Ok x)
from_limit b said refusal x e = grind arith

le_limit : (n : ℕ) → nat_le n 1024 ≡ true → n ≤ 1024
le_limit n passes = grind (arith, nat_tests)

-- the components of a document are few, allowed, and of different full names
pub list_of_parts-allowed : (items : Items) (parts : List Part) → list_of_parts items ≡ Ok parts
    → (length parts ≤ 1024) × (list_all is_allowed_part parts ≡ true) × (double_after [] parts ≡ None)
unfolding list_of_parts
list_of_parts-allowed items parts e =
    let limit = from_limit (nat_le (count_of items) 1024) _ _ parts e in
    let found = then_on-Ok (parts_in items) _ parts limit.1 in
    let apart = from_unless_double (double_after [] found.0) found.0 parts found.2 in
    let each = parts_in-allowed items found.0 found.1 in
    let within : count_of items ≤ 1024 = le_limit _ limit.0 in
    subst (λ ps. (length ps ≤ 1024) × (list_all is_allowed_part ps ≡ true) × (double_after [] ps ≡ None)) apart.1 (omega (arith, each.1), each.0, apart.0)
