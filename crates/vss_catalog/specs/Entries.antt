-- What a contract sees of a catalog: a list of entries. Which lists are allowed, and which is that of a group. (This project's own format.)
use Rattle.std.specs.List.{list_all, range_with_len}
use Rattle.std.specs.Prelude.{ℕ, List, map, ◌≡◌, ◌<◌, ◌≤◌, true, [], ◌∷◌, length, Bool, Option, Some, None, ◌==◌, ◌&&◌, slice_get}
use Rattle.vss_names.specs.Names.{is_name, TextValue}
use Rattle.cow_volume.specs.Calls.{blocks_at, sets_at}
use Rattle.cow_volume.specs.StandsFor.{GroupValue}

-- ## What a contract sees of a catalog: a list of entries, one for each volume of the group, in order. (This project's own.)

-- a volume's name, its number of blocks, and the sets of its images, the oldest first
pub record EntryValue : Type 0 where
  pub name : List ℕ
  pub blocks : ℕ
  pub images : List ℕ

-- the lists of the images of all volumes
abbrev pub lists_of : List EntryValue → List (List ℕ)
lists_of entries = map (λ e. e.images) entries

-- ## The conditions on a catalog, under which its bytes say it. (This project's own; the limits are those of a group.)

-- each is above the one before it, and fits four bytes
abbrev pub AreRising : ℕ → List ℕ → Type 0
AreRising last [] = Unit {0}
AreRising last (set ∷ sets) = (last < set) × (set < 4294967296) × AreRising set sets

-- an entry of a volume that has a name, 1 to 65,536 blocks, and at most 512 images, whose sets rise and are above 0
pub record IsEntry (e : EntryValue) : Type 0 where
  pub named : is_name e.name ≡ true
  pub some : 0 < e.blocks
  pub most : e.blocks ≤ 65536
  pub few : length e.images ≤ 512
  pub rise : AreRising 0 e.images

abbrev pub AreEntries : List EntryValue → Type 0
AreEntries [] = Unit {0}
AreEntries (e ∷ es) = IsEntry e × AreEntries es

-- the catalog of a group of 1 to 128 volumes
pub record IsCatalog (entries : List EntryValue) : Type 0 where
  pub some : 0 < length entries
  pub few : length entries ≤ 128
  pub each : AreEntries entries

-- the members are bytes
abbrev pub AreBytes : List ℕ → Type 0
AreBytes [] = Unit {0}
AreBytes (byte ∷ bytes) = (byte < 256) × AreBytes bytes

-- ## The names of volumes. (This project's own format.)

-- each of these is a name
abbrev pub are_names : List TextValue → Bool
are_names names = list_all (λ (name : TextValue). is_name name.bytes) names

abbrev pub bytes_in : Option TextValue → List ℕ
bytes_in None = []
bytes_in (Some text) = text.bytes

-- ## The catalog of a group of copy-on-write volumes, whose volumes have these names. (This project's own.)

-- there are as many names as volumes, and each is a name
abbrev pub are_names_for : {D : Type 0} → GroupValue D → List TextValue → Bool
are_names_for g names = (length names == length g.area.volumes) && are_names names

-- the entry of volume v
abbrev pub entry_at : {D : Type 0} → GroupValue D → List TextValue → ℕ → EntryValue
entry_at g names v = record { name = bytes_in (slice_get names v); blocks = blocks_at g v; images = sets_at g v }

-- the entries of all volumes
abbrev pub entries_of : {D : Type 0} → GroupValue D → List TextValue → List EntryValue
entries_of g names = map (entry_at g names) (range_with_len 0 (length g.area.volumes))
