-- How a volume is brought to the blocks of another device, in three passes, also of a file that is captured while its writer stands still.
use Rattle.std.specs.Prelude.{◌≡◌, length, ℕ, ◌≢◌, ◌<◌, Bool, true, false, List, Option, Some, slice_get, map, Result, Ok, Err}
use Rattle.block_data.specs.declared.block_buf.TheConstants.{BLOCK}
use Rattle.block_data.specs.declared.payload.Payload.{Payload}
use Rattle.block_data.specs.declared.payload.Payload.TheVariants.{Fill, Stamp, Bytes}
use Rattle.write_history.specs.declared.evicted.Evicted.{Evicted}
use Rattle.cow_volume.specs.StandsFor.{GroupValue}
use Rattle.cow_volume.specs.Room.{images_going}
use Rattle.image_store.specs.Plain.{PlainStore, sets_on, Plain, volume_in, gone_on, with_blocks, on_volume}
use Rattle.image_store.specs.Steps.{IsAllowed, after, AreMixed}
use Rattle.image_store.specs.Steps.Step.{Gone, Updated, UpdatedInPart}
use Rattle.image_store.specs.StoreValue.{StoreValue, StandsAs, HasPlains}
use Rattle.image_store.specs.declared.pass.Pass.{Pass}
use Rattle.image_store.specs.declared.pass.Pass.TheVariants.{Done, Evicted as Stopped}

-- ## The payload of a piece: always the bytes of a whole block. (This project's own.)

abbrev pub IsBlock : Payload → Type 0
IsBlock (Fill byte) = ⊥
IsBlock (Stamp number) = ⊥
IsBlock (Bytes block) = length block ≡ BLOCK

-- ## How a file is captured while its writer stands still: what differs from the volume goes to a spool, which the volume takes
-- later. (This project's own.)

-- a device tells the marked ones of the wanted blocks
pub record Gives (told : Option (List (List ℕ))) (differs : List Bool) (wanted : List (List ℕ)) : Type 0 where
  pub source : List (List ℕ)
  pub told_is : told ≡ Some source
  pub marked : (b : ℕ) → slice_get differs b ≡ Some true → slice_get source b ≡ slice_get wanted b

-- of the blocks before `to`, each that is not marked is the wanted one in the volume, and each marked one is in the spool
pub record AreCaptured (differs : List Bool) (spool wanted blocks : List (List ℕ)) (to : ℕ) : Type 0 where
  pub rest : (b : ℕ) → b < to → slice_get differs b ≡ Some false → slice_get blocks b ≡ slice_get wanted b
  pub marked : (b : ℕ) → b < to → slice_get differs b ≡ Some true → slice_get spool b ≡ slice_get wanted b

-- the spool tells blocks with which they are
pub record HasCaptured (told : Option (List (List ℕ))) (differs : List Bool) (wanted blocks : List (List ℕ)) (to : ℕ) : Type 0 where
  pub spool : List (List ℕ)
  pub told_is : told ≡ Some spool
  pub captured : AreCaptured differs spool wanted blocks to

-- one block is captured, and its mark is answered; the spool keeps all others
pub record HasOneCaptured (told : Option (List (List ℕ))) (differs : Bool) (b : ℕ) (before wanted blocks : List (List ℕ)) : Type 0 where
  pub spool : List (List ℕ)
  pub told_is : told ≡ Some spool
  pub others : (i : ℕ) → i ≢ b → slice_get spool i ≡ slice_get before i
  pub rest : differs ≡ false → slice_get blocks b ≡ slice_get wanted b
  pub marked : differs ≡ true → slice_get spool b ≡ slice_get wanted b

-- ## How a volume is brought to the blocks of another device, in three passes. The first marks the blocks that differ, and changes nothing.
-- The second copies their old bytes into slots, and the volume is as it was. The third writes them. (This project's own: what is kept after
-- the second shows each image as it is, whenever the third is broken off.)

-- each block that is not marked is the wanted one, and so is each of the first `from`
pub record AreReady (differs : List Bool) (wanted blocks : List (List ℕ)) (from : ℕ) : Type 0 where
  pub marks : length differs ≡ length blocks
  pub as_many : length wanted ≡ length blocks
  pub rest : (b : ℕ) → slice_get differs b ≡ Some false → slice_get blocks b ≡ slice_get wanted b
  pub first : (b : ℕ) → b < from → slice_get blocks b ≡ slice_get wanted b

-- the marked blocks are just those that differ
pub record AreMarked (differs : List Bool) (wanted blocks : List (List ℕ)) : Type 0 where
  pub ready : AreReady differs wanted blocks 0
  pub differ : (b : ℕ) → slice_get differs b ≡ Some true → slice_get blocks b ≢ slice_get wanted b

-- images went up to a set for want of slots, and these were told, of a store that had these copies
pub record IsStopped {D : Type 0} (told : D → Option (List (List ℕ))) (new : StoreValue D) (p : PlainStore) (up_to : ℕ) (list : List Evicted) : Type 0 where
  pub some : 0 < up_to
  pub list_is : list ≡ images_going up_to (map sets_on p.volumes)
  pub stands : StandsAs told new (after p (Gone up_to))

-- the second pass over these copies: all old bytes are copied, or it stopped at a block for which images went, before the slot was used;
-- or a device failed. The volumes have what they had.
abbrev pub IsAhead : {D E : Type 0} → (D → Option (List (List ℕ))) → StoreValue D → PlainStore → List Evicted → Result Pass E → Type 0
IsAhead told new p list (Ok Done) = StandsAs told new p
IsAhead told new p list (Ok (Stopped at up_to)) = IsStopped told new p up_to list
IsAhead told new p list (Err failed) = StandsAs told new p

-- the third pass stopped at a block for which images went: the volume has these blocks, and the pass may go on from there
pub record IsOverwrittenTo {D : Type 0} (told : D → Option (List (List ℕ))) (new : StoreValue D) (p : PlainStore) (v : ℕ) (differs : List Bool) (wanted now : List (List ℕ)) (at up_to : ℕ)
    (list : List Evicted) : Type 0 where
  pub allowed : IsAllowed p (UpdatedInPart v wanted now)
  pub ready : AreReady differs wanted now at
  pub stopped : IsStopped told new (after p (UpdatedInPart v wanted now)) up_to list

-- the third pass, which was ready: the volume has the wanted blocks; or it stopped at a block for which images went (it does not where the
-- second pass is done, but no clause below says so); or a device failed, and the volume has some of the wanted blocks
abbrev pub IsOverwriting : {D E : Type 0} → (D → Option (List (List ℕ))) → StoreValue D → PlainStore → ℕ → List Bool → List (List ℕ) → List Evicted → Result Pass E → Type 0
IsOverwriting told new p v differs wanted list (Ok Done) = IsAllowed p (Updated v wanted) × StandsAs told new (after p (Updated v wanted))
IsOverwriting told new p v differs wanted list (Ok (Stopped at up_to)) = (now : List (List ℕ)) × IsOverwrittenTo told new p v differs wanted now at up_to list
IsOverwriting told new p v differs wanted list (Err failed) = (now : List (List ℕ)) × IsAllowed p (UpdatedInPart v wanted now) × StandsAs told new (after p (UpdatedInPart v wanted now))

-- ## The passes of an update over a group, against the whole copies that it has. (This project's own.)

-- images went up to a set for want of slots, and these were told
pub record IsGone {D : Type 0} (told : D → Option (List (List ℕ))) (new : GroupValue D) (ps : List Plain) (up_to : ℕ) (list : List Evicted) : Type 0 where
  pub some : 0 < up_to
  pub list_is : list ≡ images_going up_to (map sets_on ps)
  pub plains : HasPlains told new (map (gone_on up_to) ps)

-- the second pass
abbrev pub IsCopying : {D E : Type 0} → (D → Option (List (List ℕ))) → GroupValue D → List Plain → List Evicted → Result Pass E → Type 0
IsCopying told new ps list (Ok Done) = HasPlains told new ps
IsCopying told new ps list (Ok (Stopped at up_to)) = IsGone told new ps up_to list
IsCopying told new ps list (Err failed) = HasPlains told new ps

-- volume v has some of the wanted blocks
pub record HasSome {D : Type 0} (told : D → Option (List (List ℕ))) (new : GroupValue D) (ps : List Plain) (v : ℕ) (differs : List Bool) (wanted : List (List ℕ)) (at : ℕ) : Type 0 where
  pub now : List (List ℕ)
  pub mixed : AreMixed (volume_in ps v).blocks wanted now
  pub ready : AreReady differs wanted now at
  pub plains : HasPlains told new (on_volume v (with_blocks now) ps)

-- it stopped at a block for which images went
pub record HasSomeGone {D : Type 0} (told : D → Option (List (List ℕ))) (new : GroupValue D) (ps : List Plain) (v : ℕ) (differs : List Bool) (wanted : List (List ℕ)) (at up_to : ℕ)
    (list : List Evicted) : Type 0 where
  pub now : List (List ℕ)
  pub mixed : AreMixed (volume_in ps v).blocks wanted now
  pub ready : AreReady differs wanted now at
  pub went : IsGone told new (on_volume v (with_blocks now) ps) up_to list

-- a device failed
abbrev pub HasMixed : {D : Type 0} → (D → Option (List (List ℕ))) → GroupValue D → List Plain → ℕ → List (List ℕ) → Type 0
HasMixed told new ps v wanted = (now : List (List ℕ)) × AreMixed (volume_in ps v).blocks wanted now × HasPlains told new (on_volume v (with_blocks now) ps)

-- the third pass
abbrev pub IsWriting : {D E : Type 0} → (D → Option (List (List ℕ))) → GroupValue D → List Plain → ℕ → List Bool → List (List ℕ) → List Evicted → Result Pass E → Type 0
IsWriting told new ps v differs wanted list (Ok Done) = HasPlains told new (on_volume v (with_blocks wanted) ps)
IsWriting told new ps v differs wanted list (Ok (Stopped at up_to)) = HasSomeGone told new ps v differs wanted at up_to list
IsWriting told new ps v differs wanted list (Err failed) = HasMixed told new ps v wanted
