-- What is shown of a volume, or of its image of a set; and which blocks were written between the cuts of two sets. (This project's own.)
use Rattle.std.specs.List.{list_any}
use Rattle.std.specs.Prelude.{ℕ, ◌≡◌, ◌+◌, ◌*◌, ◌≤◌, true, false, List, ◌++◌, length, Option, Some, slice_get, Result, Ok, Err, ◌<◌, ◌==◌, ◌&&◌, ◌||◌, Bool}
use Rattle.std.specs.Prelude.{nat_le, nat_lt}
use Rattle.block_data.specs.declared.block_buf.TheConstants.{BLOCK}
use Rattle.io_edge.specs.Streams.{Took}
use Rattle.diff_area.specs.declared.table_record.Record.{Record}
use Rattle.cow_volume.specs.Calls.{is_among, sets_at}
use Rattle.cow_volume.specs.StandsFor.{GroupValue}
use Rattle.image_store.specs.FileBytes.{file_in, has_length, length_in}
use Rattle.image_store.specs.Plain.{Plain, volume_in, image_in}
use Rattle.image_store.specs.declared.show_fault.ShowFault.{ShowFault}
use Rattle.image_store.specs.declared.show_fault.ShowFault.TheVariants.{NoSuchImage, BadLength, Volume, Area, Sink}
use Rattle.image_store.specs.declared.which.Which.{Which}
use Rattle.image_store.specs.declared.which.Which.TheVariants.{Now, Of}

-- ## What is shown of a volume, or of its image of a set: the file that its blocks have, to the file's length. (This project's own.)

-- the blocks that are shown, where there are any
abbrev pub shown_in : List Plain → ℕ → Which → Option (List (List ℕ))
shown_in ps v Now = Some (volume_in ps v).blocks
shown_in ps v (Of set) = image_in set (volume_in ps v).images

-- the bytes are those of block b of what is shown, which has n blocks
pub record HasBlock (shown : Option (List (List ℕ))) (n b : ℕ) (bytes : List ℕ) : Type 0 where
  pub blocks : List (List ℕ)
  pub are : shown ≡ Some blocks
  pub many : length blocks ≡ n
  pub at : slice_get blocks b ≡ Some bytes

-- the file in what is shown, which has n blocks, has this length, with which it leaves room for itself
pub record HasLength (shown : Option (List (List ℕ))) (n len : ℕ) : Type 0 where
  pub blocks : List (List ℕ)
  pub are : shown ≡ Some blocks
  pub many : length blocks ≡ n
  pub length_is : len ≡ length_in blocks
  pub room : len + 8 ≤ BLOCK * length blocks

-- what is shown says this length, and has no room for it
abbrev pub HasNoLength : Option (List (List ℕ)) → ℕ → Type 0
HasNoLength shown n = (blocks : List (List ℕ)) → shown ≡ Some blocks → (has_length blocks ≡ false) × (n ≡ length_in blocks)

-- the sink took the file
pub record IsShown (shown : Option (List (List ℕ))) (before after : Option (List ℕ)) : Type 0 where
  pub blocks : List (List ℕ)
  pub are : shown ≡ Some blocks
  pub took : Took before (file_in blocks) after

-- it took a first part of it
pub record IsShownInPart (shown : Option (List (List ℕ))) (before after : Option (List ℕ)) : Type 0 where
  pub bytes : List ℕ
  pub took : Took before bytes after
  pub part : (blocks : List (List ℕ)) → shown ≡ Some blocks → (rest : List ℕ) × (bytes ++ rest ≡ file_in blocks)

-- the sink took the file, or a first part of it: the length comes first, so nothing where there is no image, or that is bad
abbrev pub IsShow : Option (List (List ℕ)) → Option (List ℕ) → Option (List ℕ) → Result Unit ShowFault → Type 0
IsShow shown before after (Ok done) = IsShown shown before after
IsShow shown before after (Err (BadLength found)) = (after ≡ before) × HasNoLength shown found
IsShow shown before after (Err NoSuchImage) = after ≡ before
IsShow shown before after (Err Volume) = IsShownInPart shown before after
IsShow shown before after (Err Area) = IsShownInPart shown before after
IsShow shown before after (Err Sink) = IsShownInPart shown before after

-- no image of the set stands there
abbrev pub IsUnseen : {D : Type 0} → GroupValue D → ℕ → Which → Type 0
IsUnseen g v Now = ⊥
IsUnseen g v (Of set) = is_among set (sets_at g v) ≡ false

-- one does, or the volume is shown as it is
abbrev pub IsSeen : {D : Type 0} → GroupValue D → ℕ → Which → Type 0
IsSeen g v Now = Unit {0}
IsSeen g v (Of set) = is_among set (sets_at g v) ≡ true

-- why it was not shown: where the sink failed, its count rose
abbrev pub HasShowCause : {D : Type 0} → GroupValue D → ℕ → Which → Type 0 → ShowFault → Type 0
HasShowCause g v which rose NoSuchImage = IsUnseen g v which
HasShowCause g v which rose (BadLength found) = IsSeen g v which
HasShowCause g v which rose Volume = IsSeen g v which
HasShowCause g v which rose Area = IsSeen g v which
HasShowCause g v which rose Sink = IsSeen g v which × rose

-- why a block was not read
abbrev pub HasReadCause : {D : Type 0} → GroupValue D → ℕ → Which → ShowFault → Type 0
HasReadCause g v which NoSuchImage = IsUnseen g v which
HasReadCause g v which (BadLength found) = ⊥
HasReadCause g v which Volume = IsSeen g v which
HasReadCause g v which Area = IsSeen g v which
HasReadCause g v which Sink = ⊥

-- the length that was found is bad
abbrev pub IfBad : Option (List (List ℕ)) → ShowFault → Type 0
IfBad shown NoSuchImage = Unit {0}
IfBad shown (BadLength found) = HasNoLength shown found
IfBad shown Volume = Unit {0}
IfBad shown Area = Unit {0}
IfBad shown Sink = Unit {0}

-- ## Which blocks of a volume were written between the cuts of two sets, by the records of the slots alone. (This project's own: a block has a
-- copy for an image if it was written after the image's cut and before the next.)

-- a set is one of those from one set on to before the other, in either order; or of those from one set on up to now
abbrev pub is_between : ℕ → Which → ℕ → Bool
is_between one Now set = nat_le one set
is_between one (Of other) set = (nat_le one set && nat_lt set other) || (nat_le other set && nat_lt set one)

-- the record is of a copy of block b of volume v for the image of such a set
abbrev pub is_written : ℕ → ℕ → Which → ℕ → Record → Bool
is_written v one other b r = ((r.volume == v) && is_between one other r.set) && (r.block == b)

-- the marked blocks are just those of which there are such copies
abbrev pub AreWritten : List Record → ℕ → ℕ → Which → List Bool → Type 0
AreWritten records v one other marks = (b : ℕ) → b < length marks → slice_get marks b ≡ Some (list_any (is_written v one other b) records)

-- each block that is not marked is the same in both
abbrev pub AreSameBut : List Bool → Option (List (List ℕ)) → Option (List (List ℕ)) → Type 0
AreSameBut marks one other = (b : ℕ) (xs ys : List (List ℕ)) → slice_get marks b ≡ Some false → one ≡ Some xs → other ≡ Some ys → slice_get xs b ≡ slice_get ys b
