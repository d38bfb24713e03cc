-- The bytes of blocks: runs, the bytes that a write puts into a block, its sectors, and its digest (SHA-256, FIPS 180-4). (The rest is this project's own.)
use Rattle.std.specs.Borrow.{Lends, MutBor, Fml, Array, u8}
use Rattle.std.specs.Int.{w64, to_le_bytes}
use Rattle.std.specs.List.{repeat}
use Rattle.std.specs.Prelude.{ℕ, List, replicate, ◌*◌, take, drop, ◌/◌, ◌++◌, length}
use Rattle.sha2.specs.Hashers.{Holds256}
use Rattle.sha2.specs.Sha256 as standard
use Rattle.block_data.specs.contracts.block_buf.BlockBuf.{the_row}
use Rattle.block_data.specs.declared.block_buf.TheConstants.{BLOCK}
use Rattle.block_data.specs.declared.block_view.TheConstants.{SECTOR}
use Rattle.block_data.specs.declared.hasher.Hasher.{Hasher}
use Rattle.block_data.specs.declared.payload.Payload.{Payload}
use Rattle.block_data.specs.declared.payload.Payload.TheVariants.{Fill, Stamp, Bytes}

-- ## Runs of equal bytes and of equal pieces, and the block of zeros that a volume is opened with. They are opaque:
-- a proof speaks of a run and its length, and never sees its members written out. (This project's own.)

-- so many bytes x
unfoldable pub run_of : ℕ → ℕ → List ℕ
run_of count x = replicate count x

-- so many times the same piece, one after another
unfoldable pub repeated : ℕ → List ℕ → List ℕ
repeated count piece = repeat count piece

-- a block of zeros
abbrev pub zeros : List ℕ
zeros = run_of BLOCK 0

-- ## A block is 32 sectors of 512 bytes, one after another. (This project's own.)

-- the bytes of sector i of a block: SECTOR bytes from SECTOR * i on
unfoldable pub sector : List ℕ → ℕ → List ℕ
sector block i = take SECTOR (drop (SECTOR * i) block)

-- ## The bytes that a write puts into a block: one byte in every place, one number as 8 bytes, lowest first, again
-- and again, or the bytes of a block. (This project's own.)

-- the bytes of a block after a write of this payload
abbrev pub payload_bytes : Payload → List ℕ
payload_bytes (Fill byte) = run_of BLOCK byte
payload_bytes (Stamp number) = repeated (BLOCK / 8) (to_le_bytes w64 number)
payload_bytes (Bytes block) = block

-- ## What a block that was lent to be written ends as. (This project's own.)

-- a list with these bytes written over its first ones; a slice keeps its length, so over all of them
abbrev pub overwritten : List ℕ → List ℕ → List ℕ
overwritten block bytes = take (length block) (bytes ++ drop (length bytes) block)

-- the block ends with the bytes that were left behind the loan
abbrev pub LendsBytes : MutBor (List ℕ) → MutBor (List ℕ) → Fml
LendsBytes block loan = Lends the_row (Array u8 0) block loan (overwritten block.now)

-- ## The digest of bytes: SHA-256 (FIPS 180-4), in the words of the crate sha2.

-- the 32 bytes of the SHA-256 of these bytes
abbrev pub sha256 : List ℕ → List ℕ
sha256 bytes = standard.sha256 bytes

-- ## What a hasher was given so far. The digest of parts that come one after another is that of the parts joined.
-- (This project's own.)

-- the parts that the hasher has taken, joined in order, are these bytes
unfoldable pub HasTaken : Hasher → List ℕ → Type 0
HasTaken hasher bytes = Holds256 hasher.state bytes
