-- What may be found under the names of a folder after a loss of power. (This project's own.)
use Rattle.std.specs.Prelude.{ℕ, ◌≡◌, ◌⊎◌, List, Option, Some}
use Rattle.image_order.specs.declared.name.Name.{Name}

-- this file and no other
abbrev pub Is : Option (List ℕ) → Option (List ℕ) → Type 0
Is wanted file = file ≡ wanted

-- there is this file and no other
abbrev pub AreOnly : Option (List ℕ) → (Option (List ℕ) → Type 0) → Type 0
AreOnly wanted these = (file : Option (List ℕ)) → these file → file ≡ wanted

-- each of these is one of those
abbrev pub AreAmong : (Option (List ℕ) → Type 0) → (Option (List ℕ) → Type 0) → Type 0
AreAmong those these = (file : Option (List ℕ)) → these file → those file

-- each of these is one of those or one of more
abbrev pub AreEither : (Option (List ℕ) → Type 0) → (Option (List ℕ) → Type 0) → (Option (List ℕ) → Type 0) → Type 0
AreEither those more these = (file : Option (List ℕ)) → these file → those file ⊎ more file

-- under each name there is nothing new
abbrev pub AreWithin : (Name → Option (List ℕ) → Type 0) → (Name → Option (List ℕ) → Type 0) → Type 0
AreWithin old new = (name : Name) (file : Option (List ℕ)) → new name file → old name file

-- under this name there may be these too, and else there is nothing new
abbrev pub AreWithinBut : Name → (Option (List ℕ) → Type 0) → (Name → Option (List ℕ) → Type 0) → (Name → Option (List ℕ) → Type 0) → Type 0
AreWithinBut at more old new = (name : Name) (file : Option (List ℕ)) → new name file → old name file ⊎ ((name ≡ at) × more file)

-- the bytes of each file are so
abbrev pub AreAll : (List ℕ → Type 0) → (Option (List ℕ) → Type 0) → Type 0
AreAll are files = (bytes : List ℕ) → files (Some bytes) → are bytes
