-- What the second and the third pass of an update make of the copies: also of devices that tell nothing, as files. (This project's own.)
use Rattle.std.specs.Prelude.{ℕ, ◌≡◌, ◌≢◌, ◌<◌, ◌≤◌, ◌+◌, ◌-◌, ◌^◌, Bool, true, false, List, length, min, Option, Some, slice_get, Result, Ok, Err}
use Rattle.diff_area.specs.Format.{place_of_slot, free, used_in}
use Rattle.diff_area.specs.declared.table_record.Record.{Record}
use Rattle.cow_volume.specs.Calls.{sets_at}
use Rattle.cow_volume.specs.StandsFor.{GroupValue}
use Rattle.cow_volume.specs.Room.{gone_group, lacks_copy}
use Rattle.image_store.specs.declared.pass.Pass.{Pass}
use Rattle.image_store.specs.declared.pass.Pass.TheVariants.{Done, Evicted as Stopped}

-- ## what is kept

-- as many blocks, and those at these places are the same
pub record AreSameAt (P : ℕ → Type 0) (old new : List (List ℕ)) : Type 0 where
  pub number : length new ≡ length old
  pub same : (k : ℕ) → P k → slice_get new k ≡ slice_get old k

-- block k of an area's device is in use: it is none of a slot that is free by these records, so of the header, of the table, or of a copy
abbrev pub IsInUse : List Record → ℕ → Type 0
IsInUse records k = (slot : ℕ) → slice_get records slot ≡ Some free → k ≢ place_of_slot (length records) slot

-- the blocks of an area's device, where it tells them, are the same but for slots that were free
pub record KeepsSlots {D : Type 0} (told : D → Option (List (List ℕ))) (old new : GroupValue D) : Type 0 where
  pub blocks : (before : List (List ℕ)) → told old.area.device ≡ Some before → (now : List (List ℕ)) × (told new.area.device ≡ Some now) × AreSameAt (IsInUse old.area.records) before now

-- no copy is lost, and no image
pub record HasCopiesOf {D : Type 0} (old new : GroupValue D) : Type 0 where
  pub volumes : new.area.volumes ≡ old.area.volumes
  pub images : new.images ≡ old.images
  pub number : length new.area.records ≡ length old.area.records
  pub records : (slot : ℕ) (r : Record) → slice_get old.area.records slot ≡ Some r → r ≢ free → slice_get new.area.records slot ≡ Some r

-- and each slot that was used has what it had
pub record KeepsCopies {D : Type 0} (told : D → Option (List (List ℕ))) (old new : GroupValue D) : Type 0 where
  pub copies : HasCopiesOf old new
  pub slots : KeepsSlots told old new

-- nothing of the area changed
pub record IsAreaSame {D : Type 0} (told : D → Option (List (List ℕ))) (old new : GroupValue D) : Type 0 where
  pub volumes : new.area.volumes ≡ old.area.volumes
  pub images : new.images ≡ old.images
  pub records : new.area.records ≡ old.area.records
  pub slots : told new.area.device ≡ told old.area.device

-- ## what is copied

-- of the marked blocks of volume v, each from one to before another has a copy for the newest image
abbrev pub AreCopied : {D : Type 0} → GroupValue D → ℕ → List Bool → ℕ → ℕ → Type 0
AreCopied g v differs from to = (b : ℕ) → from ≤ b → b < to → slice_get differs b ≡ Some true → lacks_copy g.area.records v (sets_at g v) b ≡ false

-- so many slots more are used, and were counted; the count stands still at the greatest u32
pub record AreCounted {D : Type 0} (old new : GroupValue D) (before now : ℕ) : Type 0 where
  pub more : ℕ
  pub used : used_in new.area.records ≡ used_in old.area.records + more
  pub counted : now ≡ min (before + more) (2 ^ 32 - 1)

-- the marked blocks from one to before another are copied, and nothing else changed
pub record AreCopiedTo {D : Type 0} (told : D → Option (List (List ℕ))) (old new : GroupValue D) (v : ℕ) (differs : List Bool) (from to before now : ℕ) : Type 0 where
  pub kept : KeepsCopies told old new
  pub copied : AreCopied new v differs from to
  pub counts : AreCounted old new before now

-- it stopped at a marked block: those before it were copied, and then images went. Each that is marked before it has its copy still.
pub record IsStoppedAt {D : Type 0} (told : D → Option (List (List ℕ))) (old new : GroupValue D) (v : ℕ) (differs : List Bool) (from to before now at up_to : ℕ) : Type 0 where
  pub marked : slice_get differs at ≡ Some true
  pub within : (from ≤ at) × (at < to)
  pub full : GroupValue D
  pub copies : AreCopiedTo told old full v differs from at before now
  pub gone : new ≡ gone_group up_to full
  pub copied : AreCopied new v differs from at

-- the second pass, from one block to before another; a device may fail at each
abbrev pub IsCopiedAhead : {D E : Type 0} → (D → Option (List (List ℕ))) → GroupValue D → GroupValue D → ℕ → List Bool → ℕ → ℕ → ℕ → ℕ → Result Pass E → Type 0
IsCopiedAhead told old new v differs from to before now (Ok Done) = AreCopiedTo told old new v differs from to before now
IsCopiedAhead told old new v differs from to before now (Ok (Stopped at up_to)) = IsStoppedAt told old new v differs from to before now at up_to
IsCopiedAhead told old new v differs from to before now (Err failed) = (at : ℕ) × (at < to) × AreCopiedTo told old new v differs from at before now

-- the third pass, where all that it writes is copied: no image goes, and the area is as it was
abbrev pub IsAreaLeft : {D E : Type 0} → (D → Option (List (List ℕ))) → GroupValue D → GroupValue D → Result Pass E → Type 0
IsAreaLeft told old new (Ok Done) = IsAreaSame told old new
IsAreaLeft told old new (Ok (Stopped at up_to)) = ⊥
IsAreaLeft told old new (Err failed) = IsAreaSame told old new
