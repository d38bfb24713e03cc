-- A group in its parts: the devices of its volumes, its copies, and the map and the pool that find them. (This project's own.)
use Rattle.std.specs.Prelude.{ℕ, ◌≡◌, ◌<◌, Contains, Bool, ◌==◌, ◌&&◌, List, length, map, Option, Some, None, slice_get, nat_lt, if◌then◌else◌, ◌≤◌, true}
use Rattle.std.specs.Prelude.{false, IfSome, slice_set, option_map}
use Rattle.vss_names.specs.Faults.{Rose}
use Rattle.volume_device.specs.declared.device.Device.{Ghosts}
use Rattle.diff_map.specs.Copies.{copy_of, MapValue, IsMap, AreImages}
use Rattle.diff_map.specs.declared.copied.Copied.{Copied}
use Rattle.diff_area.specs.AreaValue.{AreaValue}
use Rattle.diff_area.specs.Format.{is_free}
use Rattle.diff_area.specs.declared.table_record.Record.{Record}
use Rattle.cow_volume.specs.Calls.{IsSameDevice, StillLasts, blocks_in, is_there}
use Rattle.cow_volume.specs.Changes.{IsInSlot, IsInVolume}
use Rattle.cow_volume.specs.StandsFor.{GroupValue}
use Rattle.cow_volume.specs.declared.image_fault.ImageFault.{ImageFault}
use Rattle.cow_volume.specs.declared.image_fault.ImageFault.TheVariants.{NoSuchImage, NoSuchBlock, Volume, Area}

-- ## The parts of a group that find its copies: a map for each volume, which notes a slot for each record of that volume, and a pool
-- in which the slots of the free records are free. So both say what the records say. (This project's own.)

-- what a contract sees of these parts: the area, and for each volume the sets of its images, the oldest first
pub record CopiesValue (D : Type 0) : Type 0 where
  pub area : AreaValue D
  pub images : List (List ℕ)

-- for what the map of volume v notes a slot with this record
abbrev pub copied_for : ℕ → Record → Option Copied
copied_for v r = if nat_lt 0 r.set && (r.volume == v) then Some (copy_of r.set r.block) else None

-- the map is that of volume v
pub record IsMapOf (volumes : List ℕ) (records : List Record) (v : ℕ) (m : MapValue) : Type 0 where
  pub blocks : slice_get volumes v ≡ Some m.blocks
  pub copies : m.copies ≡ map (copied_for v) records
  pub valid : IsMap m

abbrev pub images_of : List MapValue → List (List ℕ)
images_of maps = map (λ m. m.images) maps

pub record AreTied (volumes : List ℕ) (records : List Record) (maps : List MapValue) (pool : List Bool) : Type 0 where
  pub number : length maps ≡ length volumes
  pub each : (v : ℕ) (m : MapValue) → slice_get maps v ≡ Some m → IsMapOf volumes records v m
  pub pool_is : pool ≡ map is_free records

-- so the sets of each volume rise, and each record is of an image that its volume has
pub record AreOfImages (records : List Record) (images : List (List ℕ)) : Type 0 where
  pub sets : (v : ℕ) (sets : List ℕ) → slice_get images v ≡ Some sets → AreImages sets
  pub each : (slot : ℕ) (r : Record) → slice_get records slot ≡ Some r → 0 < r.set → (sets : List ℕ) → slice_get images r.volume ≡ Some sets → Contains sets r.set

-- ## A group in its parts: the devices of its volumes, one for each and each of as many blocks as its volume has, and its copies. And
-- what a call on one of the devices leaves of them. (This project's own.)

-- the group of these devices and copies
abbrev pub group_of : {D : Type 0} → List D → CopiesValue D → GroupValue D
group_of devices copies = record { devices = devices; area = copies.area; images = copies.images }

-- how many blocks the device of volume v has
abbrev pub size_at : {D : Type 0} → (D → ℕ) → List D → ℕ → ℕ
size_at size devices v = blocks_in (slice_get (map size devices) v)

-- how many blocks volume v has
abbrev pub blocks_on : {D : Type 0} → CopiesValue D → ℕ → ℕ
blocks_on copies v = blocks_in (slice_get copies.area.volumes v)

-- ## a call on one device

-- the device of volume v was called, and is in another state; its count rose where that failed, and else is as it was
pub record IsCalled {D : Type 0} (ghosts : Ghosts D) (v : ℕ) (old new : List D) (failed : Bool) : Type 0 where
  pub before : D
  pub after : D
  pub was : slice_get old v ≡ Some before
  pub devices : new ≡ slice_set old v after
  pub same : IsSameDevice ghosts before after
  pub rose : failed ≡ true → Rose (ghosts.count before) (ghosts.count after)
  pub unfailed : failed ≡ false → ghosts.count after ≡ ghosts.count before

-- block b was read, where that did not fail
pub record IsRead {D : Type 0} (ghosts : Ghosts D) (v b : ℕ) (bytes : List ℕ) (old new : List D) (failed : Bool) : Type 0 where
  pub call : IsCalled ghosts v old new failed
  pub told_is : ghosts.told call.after ≡ ghosts.told call.before
  pub still : StillLasts ghosts call.before call.after
  pub block : failed ≡ false → IfSome (ghosts.told call.before) (λ blocks. slice_get blocks b ≡ Some bytes)

-- block b was written, where that did not fail
pub record IsPut {D : Type 0} (ghosts : Ghosts D) (v b : ℕ) (bytes : List ℕ) (old new : List D) (failed : Bool) : Type 0 where
  pub call : IsCalled ghosts v old new failed
  pub written : failed ≡ false → ghosts.told call.after ≡ option_map (λ blocks. slice_set blocks b bytes) (ghosts.told call.before)
  pub kept : failed ≡ true → ghosts.told call.after ≡ ghosts.told call.before
  pub still : failed ≡ true → StillLasts ghosts call.before call.after

-- it was flushed, where that did not fail
pub record IsFlushed {D : Type 0} (ghosts : Ghosts D) (v : ℕ) (old new : List D) (failed : Bool) : Type 0 where
  pub call : IsCalled ghosts v old new failed
  pub told_is : ghosts.told call.after ≡ ghosts.told call.before
  pub still : StillLasts ghosts call.before call.after
  pub lasts : failed ≡ false → ghosts.lasting call.after ≡ ghosts.told call.after

-- ## what is lent

-- why no block is shown, of a volume of so many blocks that has images of these sets: the first cause that stands, none of which is a
-- device's
abbrev pub IsUnseen : List ℕ → ℕ → Option ℕ → ℕ → ImageFault → Type 0
IsUnseen sets blocks set b NoSuchImage = is_there set sets ≡ false
IsUnseen sets blocks set b NoSuchBlock = (is_there set sets ≡ true) × (blocks ≤ b)
IsUnseen sets blocks set b Volume = ⊥
IsUnseen sets blocks set b Area = ⊥

-- a block is lent just where the device that has it lends: the area's, where an image has a copy, or else the volume's
pub record IsLentBy {D : Type 0} (lending : D → Bool) (g : GroupValue D) (v : ℕ) (set : Option ℕ) (b : ℕ) (lent : Bool) : Type 0 where
  pub from_slot : (slot : ℕ) → IsInSlot g.area.records v set b slot → lent ≡ lending g.area.device
  pub from_volume : (d : D) → IsInVolume g.area.records v set b → slice_get g.devices v ≡ Some d → lent ≡ lending d
