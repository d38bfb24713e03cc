-- What the calls on the copies of a group leave, and which bytes of the slots a write changes. (This project's own.)
use Rattle.std.specs.Prelude.{ℕ, ◌==◌, not, List, [], ◌∷◌, ◌++◌, filter, nat_le, slice_get, slice_set, ◌≡◌, ◌⊎◌, true, false, length, Option, Some, Result, Ok}
use Rattle.std.specs.Prelude.{Err}
use Rattle.diff_map.specs.Copies.{newest}
use Rattle.diff_map.specs.Rules.{next_older}
use Rattle.diff_area.specs.AreaValue.{AreaValue}
use Rattle.diff_area.specs.Format.{place_of_slot, free}
use Rattle.diff_area.specs.declared.table_record.Record.{Record}
use Rattle.cow_volume.specs.Calls.{sets_in, sets_at}
use Rattle.cow_volume.specs.Changes.{noted, merged, cleared, gone_on, gone_to}
use Rattle.cow_volume.specs.StandsFor.{GroupValue, record_of}
use Rattle.cow_volume.specs.Room.{after, all_after, lacks_copy}
use Rattle.cow_volume.specs.Steps.{put}
use Rattle.cow_volume.specs.Parts.{CopiesValue}
use Rattle.cow_volume.specs.declared.cause.Cause.{Cause}

-- ## What the calls on the copies of a group leave: the records of the slots, and the images of each volume. Nothing else changes.
-- (This project's own.)

-- the area with other records
abbrev pub with_records : {D : Type 0} → List Record → AreaValue D → AreaValue D
with_records records area = record { device = area.device; volumes = area.volumes; records = records }

-- the sets of the images of volume v
abbrev pub images_on : {D : Type 0} → CopiesValue D → ℕ → List ℕ
images_on c v = sets_in (slice_get c.images v)

-- an image of a set is cut on volume v
abbrev pub after_cut : {D : Type 0} → CopiesValue D → ℕ → ℕ → CopiesValue D
after_cut c v set = record { area = c.area; images = slice_set c.images v (images_on c v ++ set ∷ []) }

-- a slot is noted for block b of the newest image of volume v
abbrev pub after_note : {D : Type 0} → CopiesValue D → ℕ → ℕ → ℕ → CopiesValue D
after_note c v b slot = record { area = with_records (noted slot (record_of v (newest (images_on c v)) b) c.area.records) c.area; images = c.images }

-- the image of a set goes from volume v, and its copies are handed down
abbrev pub after_merge : {D : Type 0} → CopiesValue D → ℕ → ℕ → CopiesValue D
after_merge c v set = record {
  area = with_records (merged v (next_older (images_on c v) set) set c.area.records) c.area;
  images = slice_set c.images v (filter (λ s. not (s == set)) (images_on c v));
}

-- the images of volume v that are newer than that of a set go, and all copies from that set on
abbrev pub after_clear : {D : Type 0} → CopiesValue D → ℕ → ℕ → CopiesValue D
after_clear c v set = record {
  area = with_records (cleared v set c.area.records) c.area;
  images = slice_set c.images v (filter (λ s. nat_le s set) (images_on c v));
}

-- the images up to a set go from volume v, with their copies
abbrev pub after_gone_on : {D : Type 0} → CopiesValue D → ℕ → ℕ → CopiesValue D
after_gone_on c v up_to = record {
  area = with_records (gone_on v up_to c.area.records) c.area;
  images = slice_set c.images v (after up_to (images_on c v));
}

-- the images up to a set go from all volumes, with their copies
abbrev pub after_gone : {D : Type 0} → CopiesValue D → ℕ → CopiesValue D
after_gone c up_to = record { area = with_records (gone_to up_to c.area.records) c.area; images = all_after up_to c.images }

-- ## Which bytes of the area's slots a write changes: a block is copied at its first write since the newest cut, and never again
-- before the next. (This project's own.)

-- the newest image of volume v lacked a copy of block b, and the bytes of one slot are written
pub record IsOneCopied {D : Type 0} (told : D → Option (List (List ℕ))) (old new : GroupValue D) (v b : ℕ) : Type 0 where
  pub lacks : lacks_copy old.area.records v (sets_at old v) b ≡ true
  pub slot : ℕ
  pub copy : List ℕ
  pub copied : told new.area.device ≡ put (place_of_slot (length old.area.records) slot) copy (told old.area.device)

-- no slot's bytes change, but those of one where the newest image lacked a copy
abbrev pub IsCopiedOnce : {D : Type 0} → (D → Option (List (List ℕ))) → GroupValue D → GroupValue D → ℕ → ℕ → Type 0
IsCopiedOnce told old new v b = (told new.area.device ≡ told old.area.device) ⊎ IsOneCopied told old new v b

-- ## a write that lacks no slot

-- the newest image lacked a copy, and the bytes of a slot that was free are written
pub record IsFreeSlotCopied {D : Type 0} (told : D → Option (List (List ℕ))) (old new : GroupValue D) (v b slot : ℕ) : Type 0 where
  pub lacks : lacks_copy old.area.records v (sets_at old v) b ≡ true
  pub was_free : slice_get old.area.records slot ≡ Some free
  pub copy : List ℕ
  pub copied : told new.area.device ≡ put (place_of_slot (length old.area.records) slot) copy (told old.area.device)

-- and that slot is noted for it
pub record IsCopyNoted {D : Type 0} (told : D → Option (List (List ℕ))) (old new : GroupValue D) (v b : ℕ) : Type 0 where
  pub slot : ℕ
  pub copy : IsFreeSlotCopied told old new v b slot
  pub records : new.area.records ≡ noted slot (record_of v (newest (sets_at old v)) b) old.area.records

-- none was lacking, and the area is as it was
pub record IsNoCopyMade {D : Type 0} (told : D → Option (List (List ℕ))) (old new : GroupValue D) (v b : ℕ) : Type 0 where
  pub has : lacks_copy old.area.records v (sets_at old v) b ≡ false
  pub slots : told new.area.device ≡ told old.area.device
  pub records : new.area.records ≡ old.area.records

-- a device failed: no record changed, and no slot but one that was free
pub record IsCopyBroken {D : Type 0} (told : D → Option (List (List ℕ))) (old new : GroupValue D) (v b : ℕ) : Type 0 where
  pub slots : (told new.area.device ≡ told old.area.device) ⊎ ((slot : ℕ) × IsFreeSlotCopied told old new v b slot)
  pub records : new.area.records ≡ old.area.records

-- what a write of block b to volume v made of the area
abbrev pub IsAreaPut : {D : Type 0} → (D → Option (List (List ℕ))) → GroupValue D → GroupValue D → ℕ → ℕ → Result Unit Cause → Type 0
IsAreaPut told old new v b (Ok done) = IsNoCopyMade told old new v b ⊎ IsCopyNoted told old new v b
IsAreaPut told old new v b (Err cause) = IsCopyBroken told old new v b
