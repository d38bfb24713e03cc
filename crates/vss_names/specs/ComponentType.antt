-- The types of components: members of the SDK's enumeration VSS_COMPONENT_TYPE (vswriter.h), with their numbers and
-- names.
use Rattle.std.specs.Prelude.{ℕ, List, [], ◌∷◌, Option, codes, find, nat_eq}
use Rattle.std.specs.Str.{bytes_eq}
use Rattle.vss_names.specs.declared.component_type.ComponentType.{ComponentType}
use Rattle.vss_names.specs.declared.component_type.ComponentType.TheVariants.{Database, FileGroup}

abbrev pub number_of : ComponentType → ℕ
number_of Database = 1
number_of FileGroup = 2

abbrev pub name_of : ComponentType → List ℕ
name_of Database = codes "VSS_CT_DATABASE"
name_of FileGroup = codes "VSS_CT_FILEGROUP"

-- all component types, in the order of their numbers
abbrev pub component_types : List ComponentType
component_types = Database ∷ FileGroup ∷ []

-- the component type with this number
unfoldable pub component_type_of_number : ℕ → Option ComponentType
component_type_of_number number = find (λ component_type. nat_eq (number_of component_type) number) component_types

-- the component type with this name
unfoldable pub component_type_of_name : List ℕ → Option ComponentType
component_type_of_name name = find (λ component_type. bytes_eq (name_of component_type) name) component_types
