-- The selection of a session: the components that the requestor named, or all of them; who takes part, and which
-- components the backup takes. (After the SDK's rules on selectability and logical paths: a component is chosen with
-- its descendants, and one that is not selectable and has no selectable ancestor comes with its writer.)
use Rattle.std.specs.Prelude.{◌≡◌, ℕ, ◌+◌, Bool, true, false, List, [], ◌∷◌, ◌++◌, filter, nat_lt, ◌==◌, ◌&&◌, ◌||◌, not, if◌then◌else◌, Option, Some, None, slice_get}
use Rattle.std.specs.List.{list_any, range_with_len}
use Rattle.std.specs.Str.{bytes_eq}
use Rattle.writer_meta.specs.Metadata.{Part, Meta, full_name, is_ancestor}
use Rattle.component_doc.specs.declared.above.Above.{Above}
use Rattle.component_doc.specs.declared.choice.Choice.{Choice}
use Rattle.component_doc.specs.declared.found.Found.{Found}
use Rattle.component_doc.specs.declared.pair.Pair.{Pair as NamedPair}

-- a component by its writer and its place in the writer's metadata
abbrev pub Pair : Type 0
Pair = NamedPair

-- the pairs that were named, in order of writers and then of components; or all components of these writers
pub data Selected : Type 0 where
  Named : List Pair → Selected
  AllOf : List ℕ → Selected

-- ## explicit components

abbrev pub is_pair : ℕ → ℕ → Pair → Bool
is_pair w i p = (p.writer == w) && (p.component == i)

abbrev pub has_pair : List Pair → ℕ → ℕ → Bool
has_pair ps w i = list_any (is_pair w i) ps

-- two lists have the same pairs of a writer
abbrev pub HaveSame : ℕ → List Pair → List Pair → Type 0
HaveSame w ps qs = (i : ℕ) → has_pair ps w i ≡ has_pair qs w i

abbrev pub comes_before : Pair → Pair → Bool
comes_before q p = nat_lt q.writer p.writer || ((q.writer == p.writer) && nat_lt q.component p.component)

-- a pair goes to its place in the order
abbrev pub with_pair : Pair → List Pair → List Pair
with_pair q [] = q ∷ []
with_pair q (p ∷ ps) = if comes_before q p then q ∷ p ∷ ps else p ∷ with_pair q ps

-- a component by its full name, with its place
abbrev pub found_from : List ℕ → ℕ → List Part → Option Found
found_from name i [] = None
found_from name i (p ∷ ps) = if bytes_eq (full_name p) name then Some (record { component = i; selectable = p.selectable }) else found_from name (i + 1) ps

abbrev pub found_in : List ℕ → List Part → Option Found
found_in name ps = found_from name 0 ps

-- of a writer, if its metadata are known
abbrev pub found_of : List ℕ → Option (Option Meta) → Option Found
found_of name None = None
found_of name (Some None) = None
found_of name (Some (Some m)) = found_in name m.parts

-- what it comes to that a component is named: there is none of that name, it is not selectable, it was named already;
-- or it is named now
pub data Naming : Type 0 where
  IsNotFound : Naming
  IsNotSelectable : Naming
  IsNamedAlready : Naming
  Names : List Pair → Naming

abbrev pub naming_if : Bool → Bool → Pair → List Pair → Naming
naming_if false named q ps = IsNotSelectable
naming_if true true q ps = IsNamedAlready
naming_if true false q ps = Names (with_pair q ps)

abbrev pub naming_found : ℕ → Option Found → List Pair → Naming
naming_found w None ps = IsNotFound
naming_found w (Some f) ps = naming_if f.selectable (has_pair ps w f.component) (record { writer = w; component = f.component }) ps

-- by the metadata of the writer, if it is known
abbrev pub naming_of : ℕ → List ℕ → Option (Option Meta) → List Pair → Naming
naming_of w name None ps = IsNotFound
naming_of w name (Some None) ps = IsNotFound
naming_of w name (Some (Some m)) ps = naming_found w (found_in name m.parts) ps

-- a component of writer w is named, by its full name
abbrev pub naming : List (Option Meta) → ℕ → List ℕ → List Pair → Naming
naming ms w name ps = naming_of w name (slice_get ms w) ps

-- ## who takes part

abbrev pub is_taker : Selected → ℕ → Bool
is_taker (Named ps) w = list_any (λ (p : Pair). p.writer == w) ps
is_taker (AllOf ws) w = list_any (λ x. x == w) ws

-- the writers whose metadata are known, from number w on
abbrev pub known_from : ℕ → List (Option Meta) → List ℕ
known_from w [] = []
known_from w (None ∷ ms) = known_from (w + 1) ms
known_from w (Some m ∷ ms) = w ∷ known_from (w + 1) ms

-- all components of all writers that are known
abbrev pub all_of : List (Option Meta) → Selected
all_of ms = AllOf (known_from 0 ms)

-- of n writers, those that take part
abbrev pub takers : ℕ → Selected → List ℕ
takers n s = filter (is_taker s) (range_with_len 0 n)

-- ## what is chosen

-- whether one of the components from place i on was named, and is an ancestor of the part
abbrev pub has_named_ancestor : List Pair → ℕ → Part → ℕ → List Part → Bool
has_named_ancestor ps w c i [] = false
has_named_ancestor ps w c i (a ∷ more) = (has_pair ps w i && is_ancestor a c) || has_named_ancestor ps w c (i + 1) more

abbrev pub has_selectable_ancestor : Part → List Part → Bool
has_selectable_ancestor c parts = list_any (λ (a : Part). a.selectable && is_ancestor a c) parts

-- what stands above the components of a path
abbrev pub IsAbove : List Pair → ℕ → List Part → Above → Type 0
IsAbove ps w parts above =
    (c : Part) → c.path ≡ above.path.now → (above.named ≡ has_named_ancestor ps w c 0 parts) × (above.selectable ≡ has_selectable_ancestor c parts)

-- by a selection of named components: named itself, a descendant of a named one, or not selectable and without a
-- selectable ancestor
abbrev pub is_chosen : List Pair → List Part → ℕ → ℕ → Part → Bool
is_chosen ps parts w i c =
    has_pair ps w i
    || has_named_ancestor ps w c 0 parts
    || (not c.selectable && not (has_selectable_ancestor c parts))

abbrev pub choice_if : Bool → ℕ → ℕ → Bool → List Choice
choice_if true w i explicit = record { writer = w; component = i; explicit = explicit } ∷ []
choice_if false w i explicit = []

-- of a writer's components, those from place i on
abbrev pub choices_from : Selected → List Part → ℕ → ℕ → List Part → List Choice
choices_from s parts w i [] = []
choices_from (Named ps) parts w i (c ∷ cs) = choice_if (is_chosen ps parts w i c) w i (has_pair ps w i) ++ choices_from (Named ps) parts w (i + 1) cs
choices_from (AllOf ws) parts w i (c ∷ cs) = choice_if true w i false ++ choices_from (AllOf ws) parts w (i + 1) cs

abbrev pub choices_of : Selected → ℕ → Option Meta → List Choice
choices_of s w None = []
choices_of s w (Some m) = if is_taker s w then choices_from s m.parts w 0 m.parts else []

-- of the writers from number w on
abbrev pub chosen_from : Selected → ℕ → List (Option Meta) → List Choice
chosen_from s w [] = []
chosen_from s w (m ∷ ms) = choices_of s w m ++ chosen_from s (w + 1) ms

-- the chosen components, in order of writers and then of components
abbrev pub chosen : Selected → List (Option Meta) → List Choice
chosen s ms = chosen_from s 0 ms
