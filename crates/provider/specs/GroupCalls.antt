-- What a call on one group of several comes to. (This project's own.)
use Rattle.std.specs.Prelude.{ℕ, ◌≡◌, ◌<◌, Bool, true, false, List, map, Option, Some, is_some, slice_get, Result, OnOk, IfOk, IfErr}
use Rattle.std.specs.List.{concat}
use Rattle.vss_model.specs.Words.{History, Write, contents, count_images, dropped}
use Rattle.provider.specs.Words.{AreaRose, Ghosts, GroupValue, ImageFault, IsChanged, IsQuiet, IsUnfailed, NoSuchImage, StandsFor, VolumeRose, blocks_at}
use Rattle.provider.specs.Words.{history_at, is_among, is_there, sets_at, sha256}
use Rattle.cow_volume.specs.declared.image_fault.ImageFault.TheVariants.{NoSuchBlock, Volume, Area}
use Rattle.provider.specs.Groups.{IsPointOf, IsKeptGroup}

-- ## images that go

-- the image of a set went from volume u, or did not stand and nothing changed
abbrev pub IsGroupDrop : {D : Type 0} → Ghosts D → GroupValue D → GroupValue D → ℕ → ℕ → Bool → Type 0
IsGroupDrop device old new u set false = (is_among set (sets_at old u) ≡ false) × (new ≡ old)
IsGroupDrop device old new u set true = (is_among set (sets_at old u) ≡ true)
    × IsChanged device old new u (dropped set)

-- the images of a set went from a group, of which so many stood; the devices are as they were
pub record IsWithout {D : Type 0} (device : Ghosts D) (old new : GroupValue D) (set stood : ℕ) : Type 0 where
  pub kept : IsKeptGroup device old new
  pub devices : new.devices ≡ old.devices
  pub area : new.area.device ≡ old.area.device
  pub stands : (hs : List History) → StandsFor device.told old hs → StandsFor device.told new (map (dropped set) hs)
  pub number : (hs : List History) → StandsFor device.told old hs → stood ≡ count_images set hs
  pub none : stood ≡ 0 → new ≡ old
  pub most : stood < 4294967296

-- ## what is shown

-- where the device of volume u and that of the area tell, this holds of its effective writes and the point that is shown
abbrev pub AtPoint : {D : Type 0} → (D → Option (List (List ℕ))) → GroupValue D → ℕ → Option ℕ → (List Write → ℕ → Type 0) → Type 0
AtPoint {D = D} told g u set P = (hs : List History) (d : D) (p : ℕ) → StandsFor told g hs → slice_get g.devices u ≡ Some d → is_some (told d) ≡ true → is_some (told g.area.device) ≡ true
    → IsPointOf set (history_at hs u) p → P (history_at hs u).writes p

-- the digest is that of all blocks there
abbrev pub IsDigestAt : {D : Type 0} → (D → Option (List (List ℕ))) → GroupValue D → ℕ → Option ℕ → List ℕ → Type 0
IsDigestAt told g u set digest = AtPoint told g u set (λ ws p. digest ≡ sha256 (concat (contents (blocks_at g u) ws p)))

-- only counts of devices of the group may have changed
abbrev pub IsQuietGroup : {D : Type 0} → Ghosts D → GroupValue D → GroupValue D → Type 0
IsQuietGroup device old new = IsQuiet device old new

-- which device failed, of a call on an image that stands
abbrev pub ImageRose : {D : Type 0} → (D → ℕ) → ℕ → GroupValue D → GroupValue D → ImageFault → Type 0
ImageRose count u old new NoSuchImage = ⊥
ImageRose count u old new NoSuchBlock = ⊥
ImageRose count u old new Volume = VolumeRose count u old new
ImageRose count u old new Area = AreaRose count old new

-- why there is no digest: just where no such image stands, and then nothing changed; or a device failed
abbrev pub HasDigestCause : {D : Type 0} → (D → ℕ) → ℕ → Option ℕ → GroupValue D → GroupValue D → ImageFault → Type 0
HasDigestCause count u set old new NoSuchImage = (is_there set (sets_at old u) ≡ false) × (new ≡ old)
HasDigestCause count u set old new NoSuchBlock = ⊥
HasDigestCause count u set old new Volume = (is_there set (sets_at old u) ≡ true) × VolumeRose count u old new
HasDigestCause count u set old new Area = (is_there set (sets_at old u) ≡ true) × AreaRose count old new

pub record IsGroupDigest {D : Type 0} (device : Ghosts D) (old new : GroupValue D) (u : ℕ) (set : Option ℕ) (result : Result (List ℕ) ImageFault) : Type 0 where
  pub digest : IfOk result (IsDigestAt device.told old u set)
  pub there : OnOk result (is_there set (sets_at old u) ≡ true)
  pub same : OnOk result (IsUnfailed device.count old new)
  pub cause : IfErr result (HasDigestCause device.count u set old new)
  pub quiet : IsQuietGroup device old new
