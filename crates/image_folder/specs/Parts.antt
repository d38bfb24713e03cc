-- The parts of a file that several volumes keep: how they are called, and which bytes of the file each has. (This project's own.)
use Rattle.std.specs.Prelude.{ℕ, suc, ◌+◌, ◌*◌, ◌-◌, ◌/◌, ◌%◌, ◌==◌, Bool, true, false, List, [], ◌∷◌, ◌++◌, take, drop, length, min, if◌then◌else◌, ◌≡◌, ◌<◌}
use Rattle.std.specs.Prelude.{Option, Some, None, slice_get, All, ◌≢◌, ◌≤◌, nat_lt, IfSome}
use Rattle.vss_names.specs.Names.{TextValue}
use Rattle.cow_volume.specs.StandsFor.{GroupValue}
use Rattle.image_store.specs.FileBytes.{file_in}
use Rattle.image_store.specs.StoreValue.{AreOthers, IsNamed}
use Rattle.image_store.specs.Plain.{Plain}
use Rattle.image_store.specs.Showing.{shown_in}
use Rattle.image_store.specs.declared.which.Which.{Which}
use Rattle.image_folder.specs.declared.state.Row.{Row}

-- the digit with which n ends
abbrev pub digit : ℕ → ℕ
digit n = 48 + n % 10

-- the name of a part of the file of this name: the first has that name, and any other one `..` and its number behind it
abbrev pub part_name : List ℕ → ℕ → List ℕ
part_name name number = if number == 0 then name
    else name ++ 46 ∷ 46 ∷ digit (number / 100) ∷ digit (number / 10) ∷ digit number ∷ []

-- these are volumes of the group
abbrev pub AreVolumes : {D : Type 0} → GroupValue D → List ℕ → Type 0
AreVolumes g volumes = All (λ v. v < length g.area.volumes) volumes

-- volume u keeps the part of this number of the file of which volume v has the name: it has the name of the part
abbrev pub IsPart : List TextValue → ℕ → ℕ → ℕ → Type 0
IsPart names v number u = (name : TextValue) → slice_get names v ≡ Some name → IsNamed names (part_name name.bytes number) u

-- no volume does
abbrev pub IsNoPart : List TextValue → ℕ → ℕ → Type 0
IsNoPart names v number = (name : TextValue) → slice_get names v ≡ Some name → AreOthers names (part_name name.bytes number) (length names)

-- of these volumes each but the first keeps the part whose number is its place
abbrev pub AreParts : List TextValue → ℕ → List ℕ → Type 0
AreParts names v parts = (number u : ℕ) → 0 < number → slice_get parts number ≡ Some u → IsPart names v number u

-- of a file that is cut into parts of so many bytes, what the part of this number has: the last one all that is left
abbrev pub piece : ℕ → ℕ → Bool → List ℕ → List ℕ
piece size number true file = drop (number * size) file
piece size number false file = take size (drop (number * size) file)

-- what a volume shows, or its image of a set: the file in its blocks
abbrev pub file_of : Option (List (List ℕ)) → List ℕ
file_of None = []
file_of (Some blocks) = file_in blocks

-- these volumes show the pieces of a file from this number on, to the last
abbrev pub ArePieces : ℕ → ℕ → List Plain → Which → List ℕ → List ℕ → Type 0
ArePieces size number ps which [] file = ⊥
ArePieces size number ps which (v ∷ []) file = file_of (shown_in ps v which) ≡ piece size number true file
ArePieces size number ps which (v ∷ u ∷ vs) file = (file_of (shown_in ps v which) ≡ piece size number false file)
    × ArePieces size (suc number) ps which (u ∷ vs) file

-- how many bytes a piece has of a file of so many
abbrev pub piece_length : ℕ → ℕ → Bool → ℕ → ℕ
piece_length size number true bytes = bytes - number * size
piece_length size number false bytes = min (bytes - number * size) size

-- ## The rows of an area's slots, and what becomes of them if its volumes change. (This project's own.)

-- the row of a slot in no use
abbrev pub free : Row
free = record { set = 0; block = 0; volume = 0 }

-- a row without a volume: the slots of that are free, and a volume behind it has the number before its own
abbrev pub without : ℕ → Row → Row
without volume row = if row.set == 0 then free
    else (if row.volume == volume then free
    else (if nat_lt row.volume volume then row else record row { volume = row.volume - 1 }))

-- from one slot up to another none is in use
abbrev pub AreFree : List Row → ℕ → ℕ → Type 0
AreFree rows from to = (slot : ℕ) (row : Row) → from ≤ slot → slot < to → slice_get rows slot ≡ Some row → row.set ≡ 0

-- the slot before one is in use, if there is one
abbrev pub IsUsedBefore : List Row → ℕ → Type 0
IsUsedBefore rows from = 0 < from → IfSome (slice_get rows (from - 1)) (λ row. row.set ≢ 0)
