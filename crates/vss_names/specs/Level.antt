-- The levels of writers: members of the SDK's enumeration VSS_APPLICATION_LEVEL (vss.h), with their numbers and
-- names.
use Rattle.std.specs.Prelude.{ℕ, List, [], ◌∷◌, Option, codes, find, nat_eq}
use Rattle.std.specs.Str.{bytes_eq}
use Rattle.vss_names.specs.declared.level.Level.{Level}
use Rattle.vss_names.specs.declared.level.Level.TheVariants.{System, BackEnd, FrontEnd}

abbrev pub number_of : Level → ℕ
number_of System = 1
number_of BackEnd = 2
number_of FrontEnd = 3

abbrev pub name_of : Level → List ℕ
name_of System = codes "VSS_APP_SYSTEM"
name_of BackEnd = codes "VSS_APP_BACK_END"
name_of FrontEnd = codes "VSS_APP_FRONT_END"

-- all levels, in the order of their numbers
abbrev pub levels : List Level
levels = System ∷ BackEnd ∷ FrontEnd ∷ []

-- the level with this number
unfoldable pub level_of_number : ℕ → Option Level
level_of_number number = find (λ level. nat_eq (number_of level) number) levels

-- the level with this name
unfoldable pub level_of_name : List ℕ → Option Level
level_of_name name = find (λ level. bytes_eq (name_of level) name) levels
