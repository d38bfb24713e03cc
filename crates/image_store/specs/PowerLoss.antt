-- What may be found of a store's devices after a loss of power, at a moment between two calls on them. A block that was written since its
-- device was last brought to where it lasts may be found as it was, as it is, or torn: nothing is known of it but its length. And what the
-- committed head opens with that. (This project's own.)
use Rattle.std.specs.Prelude.{ℕ, ◌≡◌, ◌≢◌, ◌<◌, true, All, IfSome, List, [], ◌∷◌, length, map, Option, Some, slice_get}
use Rattle.std.specs.List.{concat}
use Rattle.block_data.specs.declared.block_buf.TheConstants.{BLOCK}
use Rattle.volume_device.specs.InMemory.{AreBlocks}
use Rattle.diff_area.specs.Loading.{IsReadFrom}
use Rattle.diff_area.specs.Format.{place_of_slot, table_for, free, AreRecords}
use Rattle.diff_area.specs.declared.table_record.Record.{Record}
use Rattle.cow_volume.specs.Calls.{sets_at}
use Rattle.cow_volume.specs.StandsFor.{GroupValue}
use Rattle.cow_volume.specs.Room.{lacks_copy}
use Rattle.image_store.specs.Copying.{AreSameAt}
use Rattle.image_store.specs.Head.{said_of, IsKeptAs}
use Rattle.image_store.specs.Plain.{Plain, PlainStore, image_of, with_blocks}
use Rattle.image_store.specs.StoreValue.{StoreValue, StandsAs}

-- ## what an image is shown from

-- the newest image of volume v has no copy of block b, and shows the volume's own
abbrev pub IsShared : {D : Type 0} → GroupValue D → ℕ → ℕ → Type 0
IsShared g v b = lacks_copy g.area.records v (sets_at g v) b ≡ true

-- block k of the area's device is that of a slot that has a copy
pub record IsCopyPlace (records : List Record) (k : ℕ) : Type 0 where
  pub slot : ℕ
  pub row : Record
  pub at : slice_get records slot ≡ Some row
  pub used : row ≢ free
  pub place : k ≡ place_of_slot (length records) slot

-- ## between two commits

-- The store is as it was committed: it stands for these copies, and the table that is read of its area's device is that in memory.
pub record IsCommitted {D : Type 0} (told : D → Option (List (List ℕ))) (s : StoreValue D) (p : PlainStore) : Type 0 where
  pub stands : StandsAs told s p
  pub records : AreRecords s.group.area.volumes s.group.area.records
  pub size : ℕ
  pub whole : IfSome (told s.group.area.device) (AreBlocks size)
  pub table : IfSome (told s.group.area.device) (λ blocks. IsReadFrom (concat blocks) s.group.area.volumes s.group.area.records)

-- a device tells other blocks now, but the same at these places
pub record KeepsBlocks {D : Type 0} (told : D → Option (List (List ℕ))) (P : ℕ → Type 0) (old new : D) : Type 0 where
  pub blocks : (before : List (List ℕ)) → told old ≡ Some before → (now : List (List ℕ)) × (told new ≡ Some now) × AreSameAt P before now

-- Calls went on from what was committed, and each image is still found where it was: no slot that had a copy was written, and no block of a
-- volume that its newest image shared.
pub record IsUnderWay {D : Type 0} (told : D → Option (List (List ℕ))) (committed now : GroupValue D) : Type 0 where
  pub number : length now.area.records ≡ length committed.area.records
  pub slots : KeepsBlocks told (IsCopyPlace committed.area.records) committed.area.device now.area.device
  pub devices : length now.devices ≡ length committed.devices
  pub each : (v : ℕ) (d e : D) → slice_get committed.devices v ≡ Some d → slice_get now.devices v ≡ Some e → KeepsBlocks told (IsShared committed v) d e

-- what was committed and under way before is so still
abbrev pub IsStillUnderWay : {D : Type 0} → (D → Option (List (List ℕ))) → GroupValue D → GroupValue D → Type 0
IsStillUnderWay {D = D} told old new = (committed : GroupValue D) → IsUnderWay told committed old → IsUnderWay told committed new

-- ## what is found

-- whole blocks, as many as these and the same at these places; of the others nothing is known
pub record MayBeFound (P : ℕ → Type 0) (blocks found : List (List ℕ)) : Type 0 where
  pub known : AreSameAt P blocks found
  pub whole : All (λ block. length block ≡ BLOCK) found

-- Of each volume only those blocks are known that its newest image shared when the store was committed, and of the area only the slots that
-- had a copy then. The header and the table are those that were committed: they are kept with the head, and replaced with it at once.
pub record AreFound {D : Type 0} (told : D → Option (List (List ℕ))) (committed now : GroupValue D) (found : List (List (List ℕ))) (area : List (List ℕ)) : Type 0 where
  pub number : length found ≡ length now.devices
  pub each : (v : ℕ) (d : D) (blocks these : List (List ℕ)) → slice_get now.devices v ≡ Some d → told d ≡ Some blocks → slice_get found v ≡ Some these → MayBeFound (IsShared committed v) blocks these
  pub slots : (blocks : List (List ℕ)) → told now.area.device ≡ Some blocks → MayBeFound (IsCopyPlace committed.area.records) blocks area
  pub table : (blocks : List (List ℕ)) (k : ℕ) → told committed.area.device ≡ Some blocks → k < table_for (length committed.area.records) → slice_get area k ≡ slice_get blocks k

-- these volumes with the blocks that were found
abbrev pub found_in : List (List (List ℕ)) → List Plain → List Plain
found_in [] ps = []
found_in (blocks ∷ found) [] = []
found_in (blocks ∷ found) (p ∷ ps) = with_blocks blocks p ∷ found_in found ps

abbrev pub as_found : List (List (List ℕ)) → PlainStore → PlainStore
as_found found p = record { volumes = found_in found p.volumes; last = p.last }

-- ## the law

-- Whatever is found, the committed head opens it: each image is as it was, and each volume has the blocks that were found. Those are its
-- own but where its newest image had a copy.
pub record OpensAsCommitted {D : Type 0} (told : D → Option (List (List ℕ))) (s : StoreValue D) (p : PlainStore) (found : List (List (List ℕ))) (area : List (List ℕ)) : Type 0 where
  pub kept : (later : List D) (again : D) → map told later ≡ map Some found → told again ≡ Some area → IsKeptAs told later again (said_of s) (as_found found p)
  pub images : (set v : ℕ) → image_of (as_found found p) set v ≡ image_of p set v

abbrev pub WhatIsUnderWayIsFound : {D : Type 0} → (D → Option (List (List ℕ))) → Type 0
WhatIsUnderWayIsFound {D = D} told = (s : StoreValue D) (p : PlainStore) (now : GroupValue D) (found : List (List (List ℕ))) (area : List (List ℕ)) → IsCommitted told s p → IsUnderWay told s.group now
    → AreFound told s.group now found area → OpensAsCommitted told s p found area
