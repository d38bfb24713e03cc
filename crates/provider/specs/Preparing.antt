-- The set that is being prepared: its volumes in order of `add`, and its number once it is known. What each step of the provider
-- does with them. (The calls are those of the SDK's IVssHardwareSnapshotProvider; which refusal comes first is this project's own.)
use Rattle.std.specs.Prelude.{ℕ, ◌≡◌, ◌<◌, ◌≤◌, true, List, [], ◌∷◌, ◌++◌, length, All, nat_le, if◌then◌else◌, Option, Some, None, Result, Ok, Err, Vec, vec_capacity}
use Rattle.std.specs.declared.alloc.Global.{Global}
use Rattle.vss_model.specs.Words.{Commit, Flush, Group, History, Image, MaximumNumberOfSnapshotsReached, MaximumNumberOfVolumesReached, ObjectAlreadyExists, Plan, VssResult, change_at, cut, is_among}
use Rattle.vss_model.specs.Words.{most_images, most_volumes}
use Rattle.provider.specs.Words.{Cause, Ghosts, GroupValue, Volume}
use Rattle.provider.specs.Groups.{AreGroups, IfStandFor, history_at, devices_of, counts_of, volume_place, RoseAlone, AreKept}

-- what a contract sees of a provider
pub record ProviderValue (D : Type 0) : Type 0 where
  pub groups : List (GroupValue D)
  -- the number of the set that is being prepared; 0 until it is known
  pub set : ℕ
  -- its volumes, in order of `add`
  pub volumes : List ℕ

-- what a provider's fields keep: the set has room for its volumes, and the list for the devices
pub record IsProvider {D : Type 0} (groups : List (GroupValue D)) (volumes : Vec ℕ Global) (list : Vec D Global) : Type 0 where
  pub few_groups : length groups < 4294967296
  pub few : length volumes.items ≤ 64
  pub places : 64 ≤ vec_capacity volumes
  pub empty : list.items ≡ []
  pub room : length (devices_of groups) ≤ vec_capacity list

-- ## add

-- why a volume with so many images does not join these volumes: the first cause that stands
abbrev pub refusal : ℕ → List ℕ → ℕ → Option VssResult
refusal v volumes images =
    if is_among v volumes then Some ObjectAlreadyExists
    else if nat_le most_volumes (length volumes) then Some MaximumNumberOfVolumesReached
    else if nat_le most_images images then Some MaximumNumberOfSnapshotsReached
    else None

-- the volume joined the set, or nothing changed
abbrev pub HasJoined : {D : Type 0} → ProviderValue D → ProviderValue D → ℕ → Result Unit VssResult → Type 0
HasJoined old new v (Ok done) = new ≡ record old { volumes = old.volumes ++ v ∷ [] }
HasJoined old new v (Err why) = new ≡ old

-- ## steps

-- The groups stand for some histories for which the image of the set can be cut on volume v, which is one of the set's: it has room for
-- one more image, and its images are of lesser sets. A call asks for this, since no volume knows it by itself.
pub record CanCutOn {D : Type 0} (told : D → Option (List (List ℕ))) (s : Plan) (p : ProviderValue D) (v : ℕ) : Type 0 where
  pub histories : List History
  pub stand : AreGroups told s p.groups histories
  pub above_zero : 0 < p.set
  pub among : is_among v p.volumes ≡ true
  pub room : length (history_at histories v).images < 512
  pub newest : All (λ (i : Image). i.set < p.set) (history_at histories v).images

-- the image of a set was cut on volume v; the devices are as they were
pub record IsCutOn {D : Type 0} (device : Ghosts D) (s : Plan) (old new : List (GroupValue D)) (v set : ℕ) : Type 0 where
  pub kept : AreKept device old new
  pub devices : devices_of new ≡ devices_of old
  pub stands : IfStandFor device.told s old (λ hs. AreGroups device.told s new (change_at v (cut set) hs))

abbrev pub cut_on : Option ℕ → ℕ → List History → List History
cut_on None set hs = hs
cut_on (Some v) set hs = change_at v (cut set) hs

-- the histories after a step: the Commit step of a volume cuts the image of the set there
abbrev pub step_taken : Group → ℕ → Option ℕ → List History → List History
step_taken Commit set volume hs = cut_on volume set hs
step_taken _ set volume hs = hs

-- each count is as it was; or the device of the step's volume failed, in a flush
abbrev pub HasStepCause : {D : Type 0} → (D → ℕ) → Plan → Group → Option ℕ → Result Unit Cause → List (GroupValue D) → List (GroupValue D) → Type 0
HasStepCause count s group volume (Ok done) old new = counts_of count new ≡ counts_of count old
HasStepCause count s group volume (Err cause) old new = (group ≡ Flush) × (cause ≡ Volume) × (v : ℕ) × (volume ≡ Some v) × RoseAlone (volume_place s v) (counts_of count old) (counts_of count new)
