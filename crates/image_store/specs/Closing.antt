-- Why a store was closed and not all of it lasts: which device failed. (This project's own.)
use Rattle.std.specs.Prelude.{ℕ, ◌≡◌, List, map, Some, slice_get, slice_set}
use Rattle.vss_names.specs.Faults.{Rose}
use Rattle.cow_volume.specs.StandsFor.{GroupValue}
use Rattle.image_store.specs.StoreValue.{StoreValue}
use Rattle.cow_volume.specs.declared.cause.Cause.{Cause}
use Rattle.cow_volume.specs.declared.cause.Cause.TheVariants.{NoSuchBlock, Volume, Area}

-- one of these counts rose, and the others are as they were
pub record OneRose (old new : List ℕ) : Type 0 where
  pub place : ℕ
  pub before : ℕ
  pub now : ℕ
  pub at : slice_get old place ≡ Some before
  pub rose : Rose before now
  pub counts : new ≡ slice_set old place now

-- the area's device failed, or that of one volume; the others did not
abbrev pub IsCloseFault : {D : Type 0} → (D → ℕ) → GroupValue D → List D → D → Cause → Type 0
IsCloseFault count g devices area NoSuchBlock = ⊥
IsCloseFault count g devices area Volume = OneRose (map count g.devices) (map count devices) × (count area ≡ count g.area.device)
IsCloseFault count g devices area Area = (map count devices ≡ map count g.devices) × Rose (count g.area.device) (count area)

-- the store with these devices in place of its own, and its table and images as they were in memory
abbrev pub given_back : {D : Type 0} → StoreValue D → List D → D → StoreValue D
given_back s devices area = record {
  group = record { devices = devices; area = record { device = area; volumes = s.group.area.volumes; records = s.group.area.records }; images = s.group.images };
  names = s.names;
  last = s.last;
}
