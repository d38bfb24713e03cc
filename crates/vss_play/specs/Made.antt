-- Devices that were just made, one for each name; sorted by the groups of the scenario, each group's volumes' and then its area's; and
-- the groups that are opened over them. (This project's own.)
use Rattle.std.specs.List.{range_with_len}
use Rattle.std.specs.Prelude.{ℕ, suc, ◌≡◌, ◌≤◌, ◌==◌, Bool, drop, take, slice_get, Some, List, [], ◌∷◌, ◌++◌, length, map, All, IfSome, IsSome, IsTrue}
use Rattle.std.specs.Prelude.{replicate, if◌then◌else◌, Option, ◌<◌}
use Rattle.block_data.specs.BlockBytes.{zeros}
use Rattle.volume_device.specs.declared.device.Device.{Ghosts}
use Rattle.write_history.specs.History.{fresh}
use Rattle.cow_volume.specs.Calls.{LastsAt}
use Rattle.cow_volume.specs.StandsFor.{GroupValue, StandsFor}
use Rattle.scenario.specs.Places.{blocks_in_group}
use Rattle.scenario.specs.Plan.{Plan, GroupPlan}
use Rattle.scenario.specs.declared.volume_row.VolumeRow.{VolumeRow}
use Rattle.provider.specs.Groups.{AreSized, area_place, volume_place}

-- ## devices

-- zeros, where it tells its blocks
abbrev pub IsZero : {D : Type 0} → Ghosts D → D → Type 0
IsZero ghosts d = IfSome (ghosts.told d) (λ blocks. blocks ≡ replicate (ghosts.size d) zeros)

-- which it does where the maker says so; and no fault yet
pub record IsNewDevice {D : Type 0} (ghosts : Ghosts D) (tells : Bool) (d : D) : Type 0 where
  pub zero : IsZero ghosts d
  pub tell : IsTrue tells → IsSome (ghosts.told d)
  pub fresh : ghosts.count d ≡ 0

-- one for each of these numbers of blocks
pub record AreMade {D : Type 0} (ghosts : Ghosts D) (tells : Bool) (sizes : List ℕ) (ds : List D) : Type 0 where
  pub sizes_are : map ghosts.size ds ≡ sizes
  pub each : All (IsNewDevice ghosts tells) ds

-- one more was made, with so many blocks
pub record HasOneMore {D : Type 0} (ghosts : Ghosts D) (tells : Bool) (blocks : ℕ) (old new : List D) : Type 0 where
  pub device : D
  pub size_is : ghosts.size device ≡ blocks
  pub made : IsNewDevice ghosts tells device
  pub items : new ≡ old ++ device ∷ []

-- ## sorted by their groups

-- the group of each device, in the order in which they are made
abbrev pub groups_of_devices : Plan → List ℕ
groups_of_devices s = map (λ (r : VolumeRow). r.group) s.volumes ++ range_with_len 0 (length s.groups)

-- the members of a list whose groups are g
abbrev pub in_group : {X : Type 0} → ℕ → List ℕ → List X → List X
in_group g [] xs = []
in_group g (h ∷ hs) [] = []
in_group g (h ∷ hs) (x ∷ xs) = if h == g then x ∷ in_group g hs xs else in_group g hs xs

-- how far the devices are sorted: those before this place are in the list of their group, and the rest is to come
pub record IsSorting {D : Type 0} (groups : List ℕ) (devices : List D) (place : ℕ) (rest : List D) (number : ℕ) (sorted : List (List D)) : Type 0 where
  pub few : place ≤ length devices
  pub rest_is : rest ≡ drop place devices
  pub many : length sorted ≡ number
  pub each : (g : ℕ) (ds : List D) → slice_get sorted g ≡ Some ds → ds ≡ in_group g groups (take place devices)

-- ## groups

-- a group that was just opened over these devices, its area's the last, without images
pub record IsOpened {D : Type 0} (told : D → Option (List (List ℕ))) (blocks : List ℕ) (slots : ℕ) (devices : List D) (x : GroupValue D) : Type 0 where
  pub volumes : x.area.volumes ≡ blocks
  pub slots_are : length x.area.records ≡ slots
  pub many : length x.devices ≡ length blocks
  pub fresh_is : StandsFor told x (map (λ _. fresh) x.area.volumes)
  pub devices_are : x.devices ++ x.area.device ∷ [] ≡ devices

-- those of these groups of the scenario, from number g on
abbrev pub AreOpened : {D : Type 0} → (D → Option (List (List ℕ))) → List VolumeRow → List ℕ → List D → ℕ → List GroupPlan → List (GroupValue D) → Type 0
AreOpened told rows groups devices g [] [] = Unit {0}
AreOpened told rows groups devices g (p ∷ ps) (x ∷ xs) = IsOpened told (blocks_in_group g rows) p.slots (in_group g groups devices) x × AreOpened told rows groups devices (suc g) ps xs
AreOpened told rows groups devices g _ _ = ⊥

-- each of these lists has the devices of its group
abbrev pub AreSorted : {D : Type 0} → Plan → List (List D) → List D → Type 0
AreSorted {D = D} s sorted devices = (g : ℕ) (ds : List D) → slice_get sorted g ≡ Some ds → ds ≡ in_group g (groups_of_devices s) devices

-- what is still to be opened: the lists of the groups from this number on
pub record IsOpening {D : Type 0} (told : D → Option (List (List ℕ))) (s : Plan) (g : ℕ) (sorted rest : List (List D)) (groups : List (GroupValue D)) : Type 0 where
  pub few : g ≤ length sorted
  pub rest_is : rest ≡ drop g sorted
  pub opened : (devices : List D) → AreSorted s sorted devices → AreOpened told s.volumes (groups_of_devices s) devices 0 (take g s.groups) groups

-- ## What a run leaves of its devices: all that each of them tells lasts, and none has another size than was declared. (This project's own.)

-- what the devices of the first k volumes tell lasts, and what those of the areas of the first k groups do
abbrev pub FirstVolumesLasted : {D : Type 0} → Ghosts D → Plan → List D → ℕ → Type 0
FirstVolumesLasted ghosts s devices k = (v : ℕ) → v < k → LastsAt ghosts (volume_place s v) devices

abbrev pub FirstAreasLasted : {D : Type 0} → Ghosts D → Plan → List D → ℕ → Type 0
FirstAreasLasted ghosts s devices k = (g : ℕ) → g < k → LastsAt ghosts (area_place g s.volumes) devices

-- what the devices of all volumes and of all areas tell
pub record HaveLasted {D : Type 0} (ghosts : Ghosts D) (s : Plan) (devices : List D) : Type 0 where
  pub volumes : FirstVolumesLasted ghosts s devices (length s.volumes)
  pub areas : FirstAreasLasted ghosts s devices (length s.groups)

-- the devices of a run that has ended: each has the size that was declared, and all that it tells lasts
pub record AreLeft {D : Type 0} (ghosts : Ghosts D) (s : Plan) (devices : List D) : Type 0 where
  pub sizes : AreSized ghosts.size s devices
  pub lasted : HaveLasted ghosts s devices
