-- The uses of a writer's data: members of the SDK's enumeration VSS_USAGE_TYPE (vswriter.h), with their numbers and
-- names.
use Rattle.std.specs.Prelude.{ℕ, List, [], ◌∷◌, Option, codes, find, nat_eq}
use Rattle.std.specs.Str.{bytes_eq}
use Rattle.vss_names.specs.declared.usage.Usage.{Usage}
use Rattle.vss_names.specs.declared.usage.Usage.TheVariants.{BootableSystemState, SystemService, UserData, Other}

abbrev pub number_of : Usage → ℕ
number_of BootableSystemState = 1
number_of SystemService = 2
number_of UserData = 3
number_of Other = 4

abbrev pub name_of : Usage → List ℕ
name_of BootableSystemState = codes "VSS_UT_BOOTABLESYSTEMSTATE"
name_of SystemService = codes "VSS_UT_SYSTEMSERVICE"
name_of UserData = codes "VSS_UT_USERDATA"
name_of Other = codes "VSS_UT_OTHER"

-- all usages, in the order of their numbers
abbrev pub usages : List Usage
usages = BootableSystemState ∷ SystemService ∷ UserData ∷ Other ∷ []

-- the usage with this number
unfoldable pub usage_of_number : ℕ → Option Usage
usage_of_number number = find (λ usage. nat_eq (number_of usage) number) usages

-- the usage with this name
unfoldable pub usage_of_name : List ℕ → Option Usage
usage_of_name name = find (λ usage. bytes_eq (name_of usage) name) usages
