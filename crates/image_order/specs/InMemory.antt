-- A folder in memory, which loses what was not synced. (This project's own.)
use Rattle.std.specs.Prelude.{ℕ, ◌≡◌, ◌⊎◌, List, Option, Some, None, Contains}
use Rattle.image_order.specs.declared.held.Held.{Held}
use Rattle.image_order.specs.declared.held.Held.TheVariants.{Nothing, Written, Synced}
use Rattle.image_order.specs.declared.mem_file.MemFile.{MemFile}
use Rattle.image_order.specs.declared.mem_folder.MemFolder.{MemFolder}
use Rattle.image_order.specs.declared.name.Name.{Name}
use Rattle.image_order.specs.declared.name.Name.TheVariants.{State, Marker}

-- what was written
abbrev pub IsWritten : Held → Option (List ℕ) → Type 0
IsWritten Nothing file = file ≡ None
IsWritten (Written text) file = file ≡ Some text.bytes
IsWritten (Synced text) file = file ≡ Some text.bytes

-- what a loss of power may leave of it: of what was not synced, anything
abbrev pub MayBe : Held → Option (List ℕ) → Type 0
MayBe Nothing file = file ≡ None
MayBe (Written text) file = Unit {0}
MayBe (Synced text) file = file ≡ Some text.bytes

-- what it may leave of a file or of one before it
unfoldable pub MayBeOf : Held → List Held → Option (List ℕ) → Type 0
MayBeOf now before file = MayBe now file ⊎ ((held : Held) × Contains before held × MayBe held file)

-- what it may leave under a name: what has the name, or had it since the names were last synced
abbrev pub MayBeFound : MemFile → Option (List ℕ) → Type 0
MayBeFound f = MayBeOf f.now f.before.items

abbrev pub file_of : MemFolder → Name → MemFile
file_of folder State = folder.state
file_of folder Marker = folder.marker
