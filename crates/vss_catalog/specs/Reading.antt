-- What bytes say as a catalog, or why they are none. The digest comes first. Then the fields are read forwards: a field that is
-- cut off is told at its first byte, and else the first field that is not of the format; last, bytes that are left. `at` is
-- the place of the bytes `rest` among all. (This project's own format.)
use Rattle.std.specs.Fmt.{decimal}
use Rattle.std.specs.List.{starts_with}
use Rattle.std.specs.Prelude.{◌≡◌, ℕ, zero, suc, ◌+◌, ◌-◌, Bool, List, [], ◌∷◌, length, take, drop, codes, nat_le, nat_lt, nat_eq, ◌&&◌, if◌then◌else◌, is_ok}
use Rattle.std.specs.Prelude.{Result, Ok, Err, ◌++◌}
use Rattle.std.specs.Str.{bytes_eq}
use Rattle.byteorder.specs.Endian.{little_number}
use Rattle.vss_names.specs.Names.{is_name}
use Rattle.block_data.specs.BlockBytes.{sha256}
use Rattle.vss_catalog.specs.Entries.{EntryValue}
use Rattle.vss_catalog.specs.Written.{size_of}
use Rattle.vss_catalog.specs.declared.catalog_fault.CatalogFault.{CatalogFault}
use Rattle.vss_catalog.specs.declared.catalog_fault.CatalogFault.TheVariants.{Digest, Magic, Volumes, Short, Name, Blocks, Images, Order, Rest, OutOfMemory}

-- what follows a field that is of the format
infixl 10 ◌>>=◌
abbrev pub ◌>>=◌ : {A B : Type 0} → Result A CatalogFault → (A → Result B CatalogFault) → Result B CatalogFault
(Ok x) >>= more = more x
(Err fault) >>= more = Err fault

-- the fault is what is said, unless it is want of memory, of which nothing is said
abbrev pub Tells : {A : Type 0} → CatalogFault → Result A CatalogFault → Type 0
Tells OutOfMemory said = Unit {0}
Tells fault said = said ≡ Err fault

-- ## fields

-- a number of four bytes
abbrev pub number_in : ℕ → List ℕ → Result ℕ CatalogFault
number_in at rest = if nat_lt (length rest) 4 then Err (Short at) else Ok (little_number 4 rest)

-- the name of volume v, of so many bytes
abbrev pub name_of_length : ℕ → ℕ → List ℕ → ℕ → Result (List ℕ) CatalogFault
name_of_length v at rest len =
    if nat_le 1 len && nat_le len 32 then (
    if nat_lt (length rest) len then Err (Short at) else (
    if is_name (take len rest) then Ok (take len rest) else Err (Name v)))
    else Err (Name v)

-- its length, and the name
unfoldable pub name_in : ℕ → ℕ → List ℕ → Result (List ℕ) CatalogFault
name_in v at rest = number_in at rest >>= (λ len. name_of_length v (at + 4) (drop 4 rest) len)

-- the number of blocks of volume v
unfoldable pub blocks_in : ℕ → ℕ → List ℕ → Result ℕ CatalogFault
blocks_in v at rest = number_in at rest >>= (λ n. if nat_le 1 n && nat_le n 65536 then Ok n else Err (Blocks v n))

-- the number of its images
unfoldable pub count_in : ℕ → ℕ → List ℕ → Result ℕ CatalogFault
count_in v at rest = number_in at rest >>= (λ n. if nat_le n 512 then Ok n else Err (Images v n))

-- a set above the last one
unfoldable pub set_in : ℕ → ℕ → ℕ → List ℕ → Result ℕ CatalogFault
set_in v last at rest = number_in at rest >>= (λ set. if nat_lt last set then Ok set else Err (Order v at))

-- so many sets, each above the one before it
unfoldable pub sets_in : ℕ → ℕ → ℕ → ℕ → List ℕ → Result (List ℕ) CatalogFault
sets_in v zero last at rest = Ok []
sets_in v (suc n) last at rest = do
  set ← set_in v last at rest
  sets ← sets_in v n set (at + 4) (drop 4 rest)
  Ok (set ∷ sets)

-- ## entries

unfoldable pub entry_in : ℕ → ℕ → List ℕ → Result EntryValue CatalogFault
entry_in v at rest = do
  name ← name_in v at rest
  blocks ← blocks_in v (at + 4 + length name) (drop (4 + length name) rest)
  count ← count_in v (at + 8 + length name) (drop (8 + length name) rest)
  images ← sets_in v count 0 (at + 12 + length name) (drop (12 + length name) rest)
  Ok (record { name = name; blocks = blocks; images = images })

-- nothing is left
abbrev pub end_in : ℕ → List ℕ → Result (List EntryValue) CatalogFault
end_in at [] = Ok []
end_in at (byte ∷ rest) = Err (Rest at)

-- so many entries, the first of which is that of volume v, and no more
unfoldable pub entries_in : ℕ → ℕ → ℕ → List ℕ → Result (List EntryValue) CatalogFault
entries_in zero v at rest = end_in at rest
entries_in (suc n) v at rest = do
  entry ← entry_in v at rest
  entries ← entries_in n (v + 1) (at + size_of entry) (drop (size_of entry) rest)
  Ok (entry ∷ entries)

-- ## the whole

-- the letters, and what is after them
unfoldable pub letters_in : List ℕ → Result (List ℕ) CatalogFault
letters_in body = if nat_lt (length body) 8 then Err (Short 0) else (if starts_with nat_eq body (codes "VSSCAT01") then Ok (drop 8 body) else Err Magic)

-- the number of volumes
unfoldable pub volumes_in : List ℕ → Result ℕ CatalogFault
volumes_in rest = number_in 8 rest >>= (λ n. if nat_le 1 n && nat_le n 128 then Ok n else Err (Volumes n))

-- what all bytes but the digest say
unfoldable pub body_in : List ℕ → Result (List EntryValue) CatalogFault
body_in body = do
  rest ← letters_in body
  count ← volumes_in rest
  entries_in count 0 12 (drop 4 rest)

-- the letters and the number of volumes are those of a catalog: no memory is taken before this is known
unfoldable pub is_headed : List ℕ → Bool
is_headed body = is_ok (letters_in body >>= volumes_in)

-- all bytes but the last 32
abbrev pub front_of : List ℕ → List ℕ
front_of bytes = take (length bytes - 32) bytes

-- the last 32 bytes are the digest of those before
unfoldable pub is_sealed : List ℕ → Bool
is_sealed bytes = nat_le 32 (length bytes) && bytes_eq (sha256 (front_of bytes)) (drop (length bytes - 32) bytes)

unfoldable pub catalog_in : List ℕ → Result (List EntryValue) CatalogFault
catalog_in bytes = if is_sealed bytes then body_in (front_of bytes) else Err Digest

-- ## What is said of bytes that are no catalog. (This project's own.)

abbrev pub message_of : CatalogFault → List ℕ
message_of Digest = codes "the digest is another"
message_of Magic = codes "no catalog"
message_of (Volumes found) = decimal found ++ codes " volumes"
message_of (Short at) = codes "cut off at byte " ++ decimal at
message_of (Name volume) = codes "volume " ++ decimal volume ++ codes " has no name"
message_of (Blocks volume found) = codes "volume " ++ decimal volume ++ codes " has " ++ decimal found ++ codes " blocks"
message_of (Images volume found) = codes "volume " ++ decimal volume ++ codes " has " ++ decimal found ++ codes " images"
message_of (Order volume at) = codes "volume " ++ decimal volume ++ codes " at " ++ decimal at ++ codes " falls"
message_of (Rest at) = codes "more bytes at byte " ++ decimal at
message_of OutOfMemory = codes "out of memory"
