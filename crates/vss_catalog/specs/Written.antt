-- The bytes of a catalog. All numbers have four bytes, the lowest first. (This project's own format; the order of bytes is that
-- of the crate byteorder, and the digest is SHA-256.)
use Rattle.std.specs.Prelude.{ℕ, ◌+◌, ◌*◌, List, ◌++◌, length, codes}
use Rattle.std.specs.List.{flat_map}
use Rattle.byteorder.specs.Endian.{little_bytes}
use Rattle.block_data.specs.BlockBytes.{sha256}
use Rattle.vss_catalog.specs.Entries.{EntryValue}

unfoldable pub number_bytes : ℕ → List ℕ
number_bytes n = little_bytes 4 n

-- the length of the name, the name, the number of blocks, the number of images, and their sets
unfoldable pub entry_bytes : EntryValue → List ℕ
entry_bytes e = number_bytes (length e.name) ++ e.name ++ number_bytes e.blocks ++ number_bytes (length e.images) ++ flat_map number_bytes e.images

-- how many bytes these are
abbrev pub size_of : EntryValue → ℕ
size_of e = 12 + length e.name + 4 * length e.images

-- all but the digest
unfoldable pub body_of : List EntryValue → List ℕ
body_of entries = codes "VSSCAT01" ++ number_bytes (length entries) ++ flat_map entry_bytes entries

-- a body, and its digest
unfoldable pub bytes_of : List EntryValue → List ℕ
bytes_of entries = body_of entries ++ sha256 (body_of entries)
