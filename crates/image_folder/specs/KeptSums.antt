-- The sums of the blocks of a folder's file (after Fletcher, IEEE Transactions on Communications 30, 1982): what its device keeps and gives.
use Rattle.std.specs.Int.{w32, from_le_bytes}
use Rattle.std.specs.Prelude.{ℕ, zero, suc, List, ◌+◌, ◌*◌, drop, take, Bool, ◌≡◌, ◌≢◌, ◌⊎◌, Some, IfSome, true, slice_get, slice_set, ◌≤◌, length, slice_range}
use Rattle.block_data.specs.declared.block_buf.TheConstants.{BLOCK}
use Rattle.image_folder.specs.declared.device.block_sum.BlockSum.{BlockSum}
use Rattle.image_folder.specs.declared.device.kept_sums.KeptSums.{KeptSums}
use Rattle.image_folder.specs.declared.device.loose.Loose.{Loose}
use Rattle.image_folder.specs.declared.device.store_device.StoreDevice.{StoreDevice}

-- ## The sum that is kept of a block, after Fletcher (IEEE Transactions on Communications 30, 1982): of its numbers of four bytes, the lowest byte
-- first, the sum, and the sum of the sums up to each. Neither is 2 ^ 64 or more.

-- the number at a place
unfoldable pub number_at : ℕ → List ℕ → ℕ
number_at n bytes = from_le_bytes w32 (take 4 (drop (4 * n) bytes))

-- the first numbers, so many, added up
unfoldable pub first_to : ℕ → List ℕ → ℕ
first_to zero bytes = 0
first_to (suc n) bytes = first_to n bytes + number_at n bytes

-- the sums up to each of them, added up
unfoldable pub second_to : ℕ → List ℕ → ℕ
second_to zero bytes = 0
second_to (suc n) bytes = second_to n bytes + first_to (suc n) bytes

-- the sum of the 4,096 numbers of a block
unfoldable pub sum_of : List ℕ → BlockSum
sum_of bytes = record { first = first_to 4096 bytes; second = second_to 4096 bytes }

-- ## What the device of a file of a folder keeps of the sums of its blocks. (This project's own.)

-- if a sum is kept of a block, it is this
pub record IsKept (sums : KeptSums) (index : ℕ) (sum : BlockSum) : Type 0 where
  pub kept : IfSome (slice_get sums.list.items index) (λ kept. kept ≡ sum)

-- a block of which no image has what is there, where such a block is read whatever its sum
pub record IsLoose (sums : KeptSums) (index : ℕ) : Type 0 where
  pub free : slice_get sums.free.items index ≡ Some true
  pub read : sums.loose ≢ Loose.Refused

-- a block with this sum is given: it is the one that is kept, or the block is loose
abbrev pub IsGiven : KeptSums → ℕ → BlockSum → Type 0
IsGiven sums index sum = IsKept sums index sum ⊎ IsLoose sums index

-- the sums, where these blocks are free, and so they are read
pub record IsWithFree (before : KeptSums) (free : List Bool) (loose : Loose) (after : KeptSums) : Type 0 where
  pub list : after.list ≡ before.list
  pub free_is : after.free.items ≡ free
  pub loose_is : after.loose ≡ loose

-- after a change of a block its sum is kept, and nothing else of the sums is another
pub record KeepsSum (before after : KeptSums) (index : ℕ) (sum : BlockSum) : Type 0 where
  pub list : after.list.items ≡ slice_set before.list.items index sum
  pub free : after.free ≡ before.free
  pub loose : after.loose ≡ before.loose

-- a loose block of a volume in transit was read: its sum is kept from then on
pub record IsAdopted (before after : KeptSums) (index : ℕ) (sum : BlockSum) : Type 0 where
  pub free : slice_get before.free.items index ≡ Some true
  pub transit : before.loose ≡ Loose.Kept
  pub kept : KeepsSum before after index sum

-- what a read of a block with this sum leaves: the sums as they were, but for such a block
abbrev pub IsAfterRead : KeptSums → KeptSums → ℕ → BlockSum → Type 0
IsAfterRead before after index sum = (after ≡ before) ⊎ IsAdopted before after index sum

-- ## What the device of a file of a folder gives of its blocks. (This project's own.)

-- the bytes of a block of the front, which the state's digest covers
pub record IsOfFront (device : StoreDevice) (index : ℕ) (bytes : List ℕ) : Type 0 where
  pub within : index * BLOCK + BLOCK ≤ length device.front.items
  pub same : bytes ≡ slice_range device.front.items (index * BLOCK) (index * BLOCK + BLOCK)

-- a block is given as these bytes: it is of the front, or they have the sum that is kept of it, or it is loose
abbrev pub Gives : StoreDevice → ℕ → List ℕ → Type 0
Gives device index bytes = IsOfFront device index bytes ⊎ IsGiven device.sums index (sum_of bytes)
