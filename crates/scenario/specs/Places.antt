-- Where the volumes of a scenario are: which members of a list, one for each volume, are of a group, and which volume of its group
-- each is. (This project's own.)
use Rattle.std.specs.Prelude.{ℕ, ◌≡◌, ◌==◌, ◌&&◌, Bool, true, false, zero, suc, List, [], ◌∷◌, length, map, Some, slice_get}
use Rattle.scenario.specs.declared.place.Place.{Place}
use Rattle.scenario.specs.declared.volume_row.VolumeRow.{VolumeRow}
use Rattle.scenario.specs.Plan.{Plan}

-- ## members of a group

abbrev pub of_group_if : {X : Type 0} → Bool → X → List X → List X
of_group_if true x xs = x ∷ xs
of_group_if false x xs = xs

-- the members of a list, one for each volume, whose volumes are of group g
abbrev pub of_group : {X : Type 0} → ℕ → List VolumeRow → List X → List X
of_group g [] xs = []
of_group g (r ∷ rows) [] = []
of_group g (r ∷ rows) (x ∷ xs) = of_group_if (r.group == g) x (of_group g rows xs)

-- the blocks of the volumes of a group
abbrev pub blocks_in_group : ℕ → List VolumeRow → List ℕ
blocks_in_group g rows = of_group g rows (map (λ (r : VolumeRow). r.blocks) rows)

-- ## where a volume is

abbrev pub count_if : Bool → ℕ → ℕ
count_if true n = suc n
count_if false n = n

-- the number of volume v within group g: how many volumes before it are of the group
abbrev pub place_in : ℕ → List VolumeRow → ℕ → ℕ
place_in g [] v = 0
place_in g (r ∷ rows) zero = 0
place_in g (r ∷ rows) (suc v) = count_if (r.group == g) (place_in g rows v)

abbrev pub volume_after : Bool → (ℕ → ℕ) → ℕ → ℕ
volume_after true later zero = 0
volume_after true later (suc within) = suc (later within)
volume_after false later within = suc (later within)

-- which of these volumes is this volume of group g; how many they are where the group has no such volume
abbrev pub volume_in : ℕ → List VolumeRow → ℕ → ℕ
volume_in g [] within = 0
volume_in g (r ∷ rows) within = volume_after (r.group == g) (volume_in g rows) within

-- volume v of these is this volume of its group
pub record IsPlaceIn (rows : List VolumeRow) (v group within : ℕ) : Type 0 where
  pub row : VolumeRow
  pub is_row : slice_get rows v ≡ Some row
  pub group_is : group ≡ row.group
  pub within_is : within ≡ place_in row.group rows v

abbrev pub IsPlaceOf : Plan → ℕ → ℕ → ℕ → Type 0
IsPlaceOf s v group within = IsPlaceIn s.volumes v group within

-- the places of the first n of these volumes, in order
pub record ArePlaces (rows : List VolumeRow) (n : ℕ) (places : List Place) : Type 0 where
  pub number : length places ≡ n
  pub each : (v : ℕ) (p : Place) → slice_get places v ≡ Some p → IsPlaceIn rows v p.group p.volume

abbrev pub is_place : Place → Place → Bool
is_place p q = (q.group == p.group) && (q.volume == p.volume)
