-- The groups of copy-on-write volumes of a scenario, the histories for which they stand, and their devices in the order in which they go back.
use Rattle.std.specs.Prelude.{ℕ, ◌≡◌, ◌<◌, List, length, map, Option, Some, None, slice_get, ◌≤◌, ◌+◌, Bool, zero, suc, [], ◌∷◌, ◌++◌, is_some, Result, Ok, Err}
use Rattle.diff_area.specs.Format.{blocks_for}
use Rattle.vss_model.specs.Words.{History, Plan, VolumeRow, blocks_in_group, fresh, history_in, of_group, point_in, Rose, copies, place_in, placed}
use Rattle.provider.specs.Words.{GroupValue, StandsFor, AllTell, AreStored, Area, Cause, Ghosts, IsKept, NoSuchBlock, Volume, told_in}

-- ## The groups of copy-on-write volumes of a scenario, and for which histories, one for each volume of the scenario, they stand
-- together. (This project's own.)

-- each group has a device for each of its volumes
abbrev pub AreWhole : {D : Type 0} → List (GroupValue D) → Type 0
AreWhole {D = D} groups = (g : ℕ) (x : GroupValue D) → slice_get groups g ≡ Some x → length x.devices ≡ length x.area.volumes

-- each device of a group has as many blocks as its volume, and that of its area what its slots need
pub record IsFit {D : Type 0} (size : D → ℕ) (x : GroupValue D) : Type 0 where
  pub devices : map size x.devices ≡ x.area.volumes
  pub area : size x.area.device ≡ blocks_for (length x.area.records)

abbrev pub AreFit : {D : Type 0} → (D → ℕ) → List (GroupValue D) → Type 0
AreFit {D = D} size groups = (g : ℕ) (x : GroupValue D) → slice_get groups g ≡ Some x → IsFit size x

-- each volume's group is there, and each group has the blocks of its volumes and a device for each of them
pub record HasGroups {D : Type 0} (s : Plan) (groups : List (GroupValue D)) : Type 0 where
  pub there : (v : ℕ) (r : VolumeRow) → slice_get s.volumes v ≡ Some r → r.group < length groups
  pub volumes : (g : ℕ) (x : GroupValue D) → slice_get groups g ≡ Some x → x.area.volumes ≡ blocks_in_group g s.volumes
  pub devices : AreWhole groups

-- ## what the groups stand for

-- the history of volume v
abbrev pub history_at : List History → ℕ → History
history_at hs v = history_in (slice_get hs v)

-- the point of a history that is shown: its present end, or that of the image of a set
abbrev pub IsPointOf : Option ℕ → History → ℕ → Type 0
IsPointOf None h p = p ≡ length h.writes
IsPointOf (Some set) h p = point_in set h.images ≡ Some p

-- group g of the scenario stands for the histories of its volumes
pub record IsGroup {D : Type 0} (told : D → Option (List (List ℕ))) (s : Plan) (g : ℕ) (x : GroupValue D) (hs : List History) : Type 0 where
  pub stands : StandsFor told x (of_group g s.volumes hs)
  pub volumes : x.area.volumes ≡ blocks_in_group g s.volumes
  pub slots : (v : ℕ) (r : VolumeRow) → slice_get s.volumes v ≡ Some r → r.group ≡ g → length x.area.records ≡ r.slots

-- the groups of the scenario stand for the histories of all its volumes
pub record AreGroups {D : Type 0} (told : D → Option (List (List ℕ))) (s : Plan) (groups : List (GroupValue D)) (hs : List History) : Type 0 where
  pub histories : length hs ≡ length s.volumes
  pub each : (g : ℕ) (x : GroupValue D) → slice_get groups g ≡ Some x → IsGroup told s g x hs

-- the groups of new volumes, with the scenario's blocks and slots: each stands for histories of zeros, without images
pub record AreFresh {D : Type 0} (told : D → Option (List (List ℕ))) (s : Plan) (groups : List (GroupValue D)) : Type 0 where
  pub volumes : (g : ℕ) (x : GroupValue D) → slice_get groups g ≡ Some x → x.area.volumes ≡ blocks_in_group g s.volumes
  pub slots : (g : ℕ) (x : GroupValue D) (v : ℕ) (r : VolumeRow) → slice_get groups g ≡ Some x → slice_get s.volumes v ≡ Some r → r.group ≡ g → length x.area.records ≡ r.slots
  pub stands : (g : ℕ) (x : GroupValue D) → slice_get groups g ≡ Some x → StandsFor told x (map (λ (n : ℕ). fresh) x.area.volumes)

-- whatever histories they stand for, this holds of them
abbrev pub IfStandFor : {D : Type 0} → (D → Option (List (List ℕ))) → Plan → List (GroupValue D) → (List History → Type 0) → Type 0
IfStandFor told s groups P = (hs : List History) → AreGroups told s groups hs → P hs

-- ## The devices of all groups, in the order in which they are given back: for each group those of its volumes in order, and then its
-- area's. Which volumes tell their blocks, what every call keeps, whose count of faults rose where a call failed, and what a sync
-- leaves. (This project's own.)

-- ## in order

abbrev pub devices_of : {D : Type 0} → List (GroupValue D) → List D
devices_of [] = []
devices_of (x ∷ xs) = x.devices ++ x.area.device ∷ devices_of xs

abbrev pub counts_of : {D : Type 0} → (D → ℕ) → List (GroupValue D) → List ℕ
counts_of count groups = map count (devices_of groups)

-- the place of the first device of group g
abbrev pub first_place : ℕ → List VolumeRow → ℕ
first_place zero rows = 0
first_place (suc g) rows = first_place g rows + length (blocks_in_group g rows) + 1

-- the place of the area's device of group g
abbrev pub area_place : ℕ → List VolumeRow → ℕ
area_place g rows = first_place g rows + length (blocks_in_group g rows)

-- the place of volume v's device, and of that of its area
abbrev pub volume_place_in : List VolumeRow → ℕ → Option VolumeRow → ℕ
volume_place_in rows v None = 0
volume_place_in rows v (Some r) = first_place r.group rows + place_in r.group rows v

abbrev pub volume_place : Plan → ℕ → ℕ
volume_place s v = volume_place_in s.volumes v (slice_get s.volumes v)

abbrev pub volumes_area_in : List VolumeRow → Option VolumeRow → ℕ
volumes_area_in rows None = 0
volumes_area_in rows (Some r) = area_place r.group rows

abbrev pub volumes_area : Plan → ℕ → ℕ
volumes_area s v = volumes_area_in s.volumes (slice_get s.volumes v)

-- ## which volumes tell

abbrev pub told_of : {D : Type 0} → (D → Option (List (List ℕ))) → Option D → Option (List (List ℕ))
told_of told None = None
told_of told (Some d) = told d

-- the device at a place of the list tells this
abbrev pub told_by : {D : Type 0} → (D → Option (List (List ℕ))) → List D → ℕ → Option (List (List ℕ))
told_by told devices place = told_of told (slice_get devices place)

-- what the device of volume v tells, where that of its area tells too
abbrev pub told_at : {D : Type 0} → (D → Option (List (List ℕ))) → Plan → List D → ℕ → Option (List (List ℕ))
told_at told s devices v = told_in (told_by told devices (volumes_area s v)) (told_by told devices (volume_place s v))

abbrev pub tells_from : {D : Type 0} → (D → Option (List (List ℕ))) → Plan → List D → ℕ → List VolumeRow → List Bool
tells_from told s devices v [] = []
tells_from told s devices v (r ∷ rows) = is_some (told_at told s devices v) ∷ tells_from told s devices (v + 1) rows

-- which volumes tell: one for each, in order
abbrev pub tells_of : {D : Type 0} → (D → Option (List (List ℕ))) → Plan → List D → List Bool
tells_of told s devices = tells_from told s devices 0 s.volumes

-- the device of each volume has as many blocks as the volume, and that of its area what the area's slots need
pub record AreSized {D : Type 0} (size : D → ℕ) (s : Plan) (devices : List D) : Type 0 where
  pub volumes : (v : ℕ) (r : VolumeRow) (d : D) → slice_get s.volumes v ≡ Some r → slice_get devices (volume_place s v) ≡ Some d → size d ≡ r.blocks
  pub areas : (v : ℕ) (r : VolumeRow) (d : D) → slice_get s.volumes v ≡ Some r → slice_get devices (volumes_area s v) ≡ Some d → size d ≡ blocks_for r.slots

-- ## what every call keeps

-- no count falls
abbrev pub AreLater : List ℕ → List ℕ → Type 0
AreLater [] [] = Unit {0}
AreLater (a ∷ xs) (b ∷ ys) = (a ≤ b) × AreLater xs ys
AreLater _ _ = ⊥

-- a group is another state of the same one
abbrev pub IsKeptGroup : {D : Type 0} → Ghosts D → GroupValue D → GroupValue D → Type 0
IsKeptGroup device x y = IsKept device x y

-- The groups are other states of the same ones: each keeps its volumes and slots, and of its devices the sizes, whether they tell
-- and whether they lend; no count falls.
pub record AreKept {D : Type 0} (device : Ghosts D) (old new : List (GroupValue D)) : Type 0 where
  pub number : length new ≡ length old
  pub each : (g : ℕ) (x y : GroupValue D) → slice_get old g ≡ Some x → slice_get new g ≡ Some y → IsKeptGroup device x y
  pub has : (s : Plan) → HasGroups s old → HasGroups s new
  pub tells : (s : Plan) → tells_of device.told s (devices_of new) ≡ tells_of device.told s (devices_of old)
  pub sizes : map device.size (devices_of new) ≡ map device.size (devices_of old)
  pub later : AreLater (counts_of device.count old) (counts_of device.count new)

-- the group of volume v was called; the others are as they were: their devices, records and images
pub record IsCallOn {D : Type 0} (device : Ghosts D) (s : Plan) (v : ℕ) (old new : List (GroupValue D)) : Type 0 where
  pub kept : AreKept device old new
  pub elsewhere : (r : VolumeRow) (g : ℕ) → slice_get s.volumes v ≡ Some r → (g ≡ r.group → ⊥) → slice_get new g ≡ slice_get old g

-- ## faults

-- the count at this place rose, and every other count is as it was
abbrev pub RoseAlone : ℕ → List ℕ → List ℕ → Type 0
RoseAlone zero (a ∷ xs) (b ∷ ys) = Rose a b × (ys ≡ xs)
RoseAlone (suc place) (a ∷ xs) (b ∷ ys) = (b ≡ a) × RoseAlone place xs ys
RoseAlone _ _ _ = ⊥

-- the count of the device that failed rose, and no other; no call on a volume of the scenario fails for want of its block
abbrev pub HasFailed : Plan → ℕ → Cause → List ℕ → List ℕ → Type 0
HasFailed s v NoSuchBlock old new = ⊥
HasFailed s v Volume old new = RoseAlone (volume_place s v) old new
HasFailed s v Area old new = RoseAlone (volumes_area s v) old new

-- where no device failed, each count is as it was; else that of the device that failed rose alone
abbrev pub HasCause : {D : Type 0} → (D → ℕ) → Plan → ℕ → Option Cause → List (GroupValue D) → List (GroupValue D) → Type 0
HasCause count s v None old new = counts_of count new ≡ counts_of count old
HasCause count s v (Some cause) old new = HasFailed s v cause (counts_of count old) (counts_of count new)

-- the fault of a call, where it failed
abbrev pub fault_of : {T E : Type 0} → Result T E → Option E
fault_of (Ok done) = None
fault_of (Err fault) = Some fault

-- ## brought to where it lasts

-- only the area's device of group g may have changed: the groups stand for what they stood for
pub record IsSynced {D : Type 0} (device : Ghosts D) (old new : List (GroupValue D)) (g : ℕ) : Type 0 where
  pub kept : AreKept device old new
  pub elsewhere : (k : ℕ) → (k ≡ g → ⊥) → slice_get new k ≡ slice_get old k
  pub devices : (x y : GroupValue D) → slice_get old g ≡ Some x → slice_get new g ≡ Some y → y.devices ≡ x.devices
  pub stands : (s : Plan) → IfStandFor device.told s old (AreGroups device.told s new)

-- on the area's device of group g stand the copies of the definitions, where all devices of its volumes tell, and they last
abbrev pub AreLasting : {D : Type 0} → Ghosts D → Plan → List (GroupValue D) → List (GroupValue D) → ℕ → Type 0
AreLasting {D = D} device s old new g = (x y : GroupValue D) → slice_get old g ≡ Some x → slice_get new g ≡ Some y
    → (device.lasting y.area.device ≡ device.told y.area.device)
    × IfStandFor device.told s new (λ hs. AllTell device.told x.devices → AreStored (device.told y.area.device) (copies (map (placed g) s.volumes) hs))

-- each count is as it was; or that of the area's device of group g rose
abbrev pub HasSyncCause : {D : Type 0} → (D → ℕ) → Plan → ℕ → Result Unit Cause → List (GroupValue D) → List (GroupValue D) → Type 0
HasSyncCause count s g (Ok done) old new = counts_of count new ≡ counts_of count old
HasSyncCause count s g (Err cause) old new = (cause ≡ Area) × RoseAlone (area_place g s.volumes) (counts_of count old) (counts_of count new)
