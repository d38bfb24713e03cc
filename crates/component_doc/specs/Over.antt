-- What is held while a program runs, and what a selection and the metadata of its writers are to each other. (This project's own.)
use Rattle.std.specs.List.{list_all}
use Rattle.std.specs.Prelude.{ℕ, Bool, true, false, List, [], map, length, nat_le, Option, None, Some, option_map, ◌≡◌, ◌&&◌, ◌∷◌, IsTrue, slice_get, ⊤}
use Rattle.writer_meta.specs.Document.{IsAllowed}
use Rattle.writer_meta.specs.Metadata.{Meta, meta_of, Part}
use Rattle.writer_meta.specs.declared.metadata.Metadata.{Metadata}
use Rattle.component_doc.specs.Selection.{Pair, Selected, Named, AllOf, comes_before, known_from}
use Rattle.component_doc.specs.declared.taken.Taken.{Taken}
use Rattle.component_doc.specs.declared.taken.Taken.TheVariants as taken

-- ## What is held while a program runs: a list of metadata and a selection, as the definitions of the selection speak of
-- them. (This project's own.)

-- a selection: over how many writers it is, and what is selected
pub record Held : Type 0 where
  pub writers : ℕ
  pub selected : Selected

abbrev pub selected_of : Taken → Selected
selected_of (taken.Named pairs) = Named pairs.items
selected_of (taken.AllOf writers) = AllOf writers.items

-- the pairs that were named
abbrev pub pairs_of : Selected → List Pair
pairs_of (Named ps) = ps
pairs_of (AllOf ws) = []

-- whether components are named one by one
abbrev pub is_named : Selected → Bool
is_named (Named ps) = true
is_named (AllOf ws) = false

-- what the metadata of each writer say
abbrev pub metas_of : List (Option Metadata) → List (Option Meta)
metas_of ms = map (option_map meta_of) ms

-- a writer has at most 1,024 components
abbrev pub has_few : Option Meta → Bool
has_few None = true
has_few (Some m) = nat_le (length m.parts) 1024

abbrev pub all_have_few : List (Option Meta) → Bool
all_have_few ms = list_all has_few ms

-- ## What a selection and the metadata of its writers are to each other, and what each writer's metadata are. (This
-- project's own.)

-- the metadata that are known are as their format allows
abbrev pub AreAllowed : List (Option Meta) → Type 0
AreAllowed [] = ⊤
AreAllowed (None ∷ ms) = AreAllowed ms
AreAllowed (Some m ∷ ms) = IsAllowed m × AreAllowed ms

-- those of one writer are, where they are known
abbrev pub IsKnownAllowed : Option Meta → Type 0
IsKnownAllowed None = ⊤
IsKnownAllowed (Some m) = IsAllowed m

abbrev pub meta_at : Option (Option Meta) → Option Meta
meta_at None = None
meta_at (Some m) = m

abbrev pub is_selectable : Option Part → Bool
is_selectable None = false
is_selectable (Some part) = part.selectable

abbrev pub is_selectable_of : ℕ → Option Meta → Bool
is_selectable_of i None = false
is_selectable_of i (Some m) = is_selectable (slice_get m.parts i)

-- the pair names a selectable component
abbrev pub names_selectable : List (Option Meta) → Pair → Bool
names_selectable ms p = is_selectable_of p.component (meta_at (slice_get ms p.writer))

-- each pair comes before those behind it
abbrev pub is_ascending : List Pair → Bool
is_ascending [] = true
is_ascending (p ∷ ps) = list_all (comes_before p) ps && is_ascending ps

-- the first pair comes before the second, if there are two
abbrev pub is_before_next : List Pair → Bool
is_before_next [] = true
is_before_next (p ∷ []) = true
is_before_next (p ∷ q ∷ ps) = comes_before p q

-- each named pair is a selectable component, in order of writers and then of components; or the writers are those
-- that are known
abbrev pub IsSelectedOver : List (Option Meta) → Selected → Type 0
IsSelectedOver ms (Named ps) = IsTrue (list_all (names_selectable ms) ps && is_ascending ps)
IsSelectedOver ms (AllOf ws) = ws ≡ known_from 0 ms

-- the selection is one over these metadata
pub record IsOver (ms : List (Option Meta)) (h : Held) : Type 0 where
  pub writers : h.writers ≡ length ms
  pub selected : IsSelectedOver ms h.selected
