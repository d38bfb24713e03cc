-- How a file of any length is kept in a volume of whole blocks: its bytes, zeros, and in the last eight bytes its length, the lowest byte
-- first. So the length is a part of what an image shows, and there is no list of lengths beside. (This project's own format.)
use Rattle.std.specs.Prelude.{ℕ, ◌+◌, ◌-◌, ◌*◌, ◌≤◌, Bool, List, ◌++◌, length, take, drop, map, nat_le, Option, Some, None, slice_get}
use Rattle.std.specs.List.{concat, range_with_len}
use Rattle.byteorder.specs.Endian.{little_bytes, little_number}
use Rattle.block_data.specs.BlockBytes.{run_of}
use Rattle.block_data.specs.declared.block_buf.TheConstants.{BLOCK}

-- the file has room in n blocks, of which a volume has at most 65,536
abbrev pub FitsIn : ℕ → List ℕ → Type 0
FitsIn n file = (length file + 8 ≤ BLOCK * n) × (n ≤ 65536)

unfoldable pub length_bytes : ℕ → List ℕ
length_bytes n = little_bytes 8 n

-- the bytes of n blocks that have the file
unfoldable pub padded : ℕ → List ℕ → List ℕ
padded n file = file ++ run_of (BLOCK * n - 8 - length file) 0 ++ length_bytes (length file)

-- block b of these bytes
abbrev pub block_in : List ℕ → ℕ → List ℕ
block_in bytes b = take BLOCK (drop (BLOCK * b) bytes)

-- the n blocks
abbrev pub blocks_of_file : ℕ → List ℕ → List (List ℕ)
blocks_of_file n file = map (block_in (padded n file)) (range_with_len 0 n)

-- ## back

-- the number in the last eight bytes of a block
abbrev pub number_in : Option (List ℕ) → ℕ
number_in None = 0
number_in (Some block) = little_number 8 (drop (BLOCK - 8) block)

-- the number in the last eight bytes of all
unfoldable pub length_in : List (List ℕ) → ℕ
length_in blocks = number_in (slice_get blocks (length blocks - 1))

-- it leaves room for itself
abbrev pub has_length : List (List ℕ) → Bool
has_length blocks = nat_le (length_in blocks + 8) (BLOCK * length blocks)

-- so many bytes from the first on
unfoldable pub file_in : List (List ℕ) → List ℕ
file_in blocks = take (length_in blocks) (concat blocks)
