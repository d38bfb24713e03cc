-- What a contract sees of a store: the group of its volumes, their names, and the last set that was given; and for which whole copies it
-- stands, where its devices tell their blocks. (This project's own.)
use Rattle.std.specs.Prelude.{ℕ, ◌≡◌, true, List, Option, is_some, ◌≢◌, ◌<◌, ◌==◌, ◌&&◌, ◌⊎◌, false, length, Some, slice_get}
use Rattle.vss_names.specs.Names.{TextValue}
use Rattle.write_history.specs.History.{History}
use Rattle.cow_volume.specs.Ending.{AllTell}
use Rattle.cow_volume.specs.StandsFor.{GroupValue, StandsFor}
use Rattle.vss_catalog.specs.Entries.{are_names}
use Rattle.image_store.specs.Plain.{Plain, PlainStore, AllGiven, plains_of}
use Rattle.image_store.specs.Steps.{Step, IsAllowed, after}

pub record StoreValue (D : Type 0) : Type 0 where
  pub group : GroupValue D
  pub names : List TextValue
  pub last : ℕ

-- a group whose devices all tell their blocks has these whole copies
pub record HasPlains {D : Type 0} (told : D → Option (List (List ℕ))) (g : GroupValue D) (ps : List Plain) : Type 0 where
  pub hs : List History
  pub stands : StandsFor told g hs
  pub devices : AllTell told g.devices
  pub area : is_some (told g.area.device) ≡ true
  pub plains : ps ≡ plains_of g.area.volumes hs

-- the group keeps its volumes, and the whole copies that it has
pub record KeepsPlains {D : Type 0} (told : D → Option (List (List ℕ))) (old new : GroupValue D) : Type 0 where
  pub volumes : new.area.volumes ≡ old.area.volumes
  pub plains : (ps : List Plain) → HasPlains told old ps → HasPlains told new ps

-- the store stands for these whole copies, whose images are all of sets that were given
pub record StandsAs {D : Type 0} (told : D → Option (List (List ℕ))) (s : StoreValue D) (p : PlainStore) : Type 0 where
  pub group : HasPlains told s.group p.volumes
  pub last : p.last ≡ s.last
  pub given : AllGiven p.last p.volumes

-- a call took this step: it may be taken of all that the store stood for, and the store stands for what it leaves
abbrev pub IsStep : {D : Type 0} → (D → Option (List (List ℕ))) → StoreValue D → StoreValue D → Step → Type 0
IsStep told old new step = (p : PlainStore) → StandsAs told old p → IsAllowed p step × StandsAs told new (after p step)

-- it stands for what it stood for
abbrev pub StandsStill : {D : Type 0} → (D → Option (List (List ℕ))) → StoreValue D → StoreValue D → Type 0
StandsStill told old new = (p : PlainStore) → StandsAs told old p → StandsAs told new p

-- ## The names of a store's volumes, and which volume has a name. (This project's own.)

-- none of the first names is this one
abbrev pub AreOthers : List TextValue → List ℕ → ℕ → Type 0
AreOthers names name first = (v : ℕ) (n : TextValue) → v < first → slice_get names v ≡ Some n → n.bytes ≢ name

-- name v is the first that is this one
pub record IsNamed (names : List TextValue) (name : List ℕ) (v : ℕ) : Type 0 where
  pub text : TextValue
  pub at : slice_get names v ≡ Some text
  pub is : text.bytes ≡ name
  pub first : AreOthers names name v

-- no two are the same
abbrev pub AreApart : List TextValue → Type 0
AreApart names = (v : ℕ) (n : TextValue) → slice_get names v ≡ Some n → AreOthers names n.bytes v

-- why they are no names for these volumes: there is not one for each, one is none, or two are the same
abbrev pub AreNoNames : List ℕ → List TextValue → Type 0
AreNoNames volumes names = (((length names == length volumes) && are_names names) ≡ false) ⊎ (AreApart names → ⊥)
