-- What `find` gives in a table where each row is found by its own key; and so in the tables of the names: each row is found by its number and by its name.
use Rattle.std.proofs.Common.{◌≡◌, ◌≢◌, ◌↔◌, Bool, true, false, List, [], ◌∷◌, Option, Some, None, IfSome, IsNone, refl, subst, cond, ℕ, nat_eq}
use Rattle.std.proofs.lemmas.Bool.Decides.{Decides-eqb}
use Rattle.std.proofs.lemmas.Slice.Eq.{bytes_eq-Decides}
use Rattle.std.specs.Bool.{Decides}
use Rattle.std.specs.Prelude.{find}
use Rattle.std.specs.Str.{bytes_eq}
use Rattle.vss_names.specs.ComponentType.{number_of as number_of_component_type, name_of as name_of_component_type, component_type_of_number}
use Rattle.vss_names.specs.ComponentType.{component_type_of_name, component_types}
use Rattle.vss_names.specs.Context.{number_of as number_of_context, name_of as name_of_context, context_of_number, context_of_name, contexts}
use Rattle.vss_names.specs.Level.{number_of as number_of_level, name_of as name_of_level, level_of_number, level_of_name, levels}
use Rattle.vss_names.specs.Names.{IsLookUp}
use Rattle.vss_names.specs.Order.{name_of as name_of_order, order_of_name, orders}
use Rattle.vss_names.specs.SourceKind.{number_of as number_of_source_kind, name_of as name_of_source_kind, source_kind_of_number, source_kind_of_name}
use Rattle.vss_names.specs.SourceKind.{source_kinds}
use Rattle.vss_names.specs.Usage.{number_of as number_of_usage, name_of as name_of_usage, usage_of_number, usage_of_name, usages}
use Rattle.vss_names.specs.VssResult.{name_of as name_of_vss_result, vss_result_of_name, vss_results}
use Rattle.vss_names.specs.WriterError.{number_of as number_of_writer_error, name_of as name_of_writer_error, error_of_number, error_of_name, errors}
use Rattle.vss_names.specs.WriterState.{number_of as number_of_writer_state, name_of as name_of_writer_state, state_of_number, state_of_name, states}
use Rattle.vss_names.specs.declared.component_type.ComponentType.{ComponentType}
use Rattle.vss_names.specs.declared.component_type.ComponentType.TheVariants.{Database}
use Rattle.vss_names.specs.declared.context.Context.{Context}
use Rattle.vss_names.specs.declared.context.Context.TheVariants.{Backup}
use Rattle.vss_names.specs.declared.level.Level.{Level}
use Rattle.vss_names.specs.declared.level.Level.TheVariants.{System}
use Rattle.vss_names.specs.declared.order.Order.{Order}
use Rattle.vss_names.specs.declared.order.Order.TheVariants.{Identify}
use Rattle.vss_names.specs.declared.source_kind.SourceKind.{SourceKind}
use Rattle.vss_names.specs.declared.source_kind.SourceKind.TheVariants.{TransactedDb}
use Rattle.vss_names.specs.declared.usage.Usage.{Usage}
use Rattle.vss_names.specs.declared.usage.Usage.TheVariants.{BootableSystemState}
use Rattle.vss_names.specs.declared.vss_result.VssResult.{VssResult}
use Rattle.vss_names.specs.declared.vss_result.VssResult.TheVariants.{Writer, BadState}
use Rattle.vss_names.specs.declared.writer_error.WriterError.{WriterError}
use Rattle.vss_names.specs.declared.writer_error.WriterError.TheVariants.{InconsistentSnapshot}
use Rattle.vss_names.specs.declared.writer_state.WriterState.{WriterState}
use Rattle.vss_names.specs.declared.writer_state.WriterState.TheVariants.{Unknown}

-- ## What `find` gives in a table where each row is found by its own key.

-- a row that is found has the key
has_key : {Row Key : Type 0} (same : Key → Key → Bool) (decides : (a b : Key) → Decides (same a b) (a ≡ b)) (key_of : Row → Key) (key : Key) (rows : List Row) →
    IfSome (find (λ r. same (key_of r) key) rows) (λ row. key_of row ≡ key)
has_key same decides key_of key [] = tt
has_key {Row = Row} same decides key_of key (row ∷ rows) =
    let later : Option Row = find (λ r. same (key_of r) key) rows in
    let first : (b : Bool) → same (key_of row) key ≡ b → IfSome (cond b (Some row) later) (λ r. key_of r ≡ key) =
    λ b. elim b as (λ v. same (key_of row) key ≡ v → IfSome (cond v (Some row) later) (λ r. key_of r ≡ key))
    [ true ↦ λ passes. (decides (key_of row) key).0 passes | false ↦ λ _. has_key same decides key_of key rows ] in
    first (same (key_of row) key) refl

-- what follows for none from the two facts on rows
none_exactly : {Row Key : Type 0} (key_of : Row → Key) (key : Key) (found : Option Row) →
    IfSome found (λ row. key_of row ≡ key) → ((row : Row) → key_of row ≡ key → found ≡ Some row) →
    IsNone found ↔ ((row : Row) → key_of row ≢ key)
none_exactly key_of key None has every = (λ _ row is. cc (every row is), λ _. refl)
none_exactly key_of key (Some row) has every = (λ none. cc none, λ none. absurd (none row has))

pub IsLookUp-find : {Row Key : Type 0} (same : Key → Key → Bool) (decides : (a b : Key) → Decides (same a b) (a ≡ b)) (key_of : Row → Key) (rows : List Row) →
    ((row : Row) → find (λ r. same (key_of r) (key_of row)) rows ≡ Some row) →
    (key : Key) → IsLookUp key_of key (find (λ r. same (key_of r) key) rows)
IsLookUp-find {Row = Row} {Key = Key} same decides key_of rows again key =
    let found : Option Row = find (λ r. same (key_of r) key) rows in
    let has : IfSome found (λ row. key_of row ≡ key) = has_key same decides key_of key rows in
    let every : (row : Row) → key_of row ≡ key → found ≡ Some row =
    λ row is. let P : Key → Type 0 = λ k. find (λ r. same (key_of r) k) rows ≡ Some row in subst P is (again row) in
    record { has = has; every = every; none = none_exactly key_of key found has every }

-- ## Each component type is found by its own number and by its own name, so a look-up says what it should.

pub component_type_of_number-number_of : (component_type : ComponentType) → component_type_of_number (number_of_component_type component_type) ≡ Some component_type
unfolding component_type_of_number
component_type_of_number-number_of Database = refl
component_type_of_number-number_of _ = refl

pub IsLookUp-component_type_of_number : (number : ℕ) (found : Option ComponentType) → found ≡ component_type_of_number number → IsLookUp number_of_component_type number found
unfolding component_type_of_number
IsLookUp-component_type_of_number number found is = rw is (IsLookUp-find nat_eq Decides-eqb number_of_component_type component_types component_type_of_number-number_of number)

pub component_type_of_name-name_of : (component_type : ComponentType) → component_type_of_name (name_of_component_type component_type) ≡ Some component_type
unfolding component_type_of_name
component_type_of_name-name_of Database = refl
component_type_of_name-name_of _ = refl

pub IsLookUp-component_type_of_name : (name : List ℕ) (found : Option ComponentType) → found ≡ component_type_of_name name → IsLookUp name_of_component_type name found
unfolding component_type_of_name
IsLookUp-component_type_of_name name found is = rw is (IsLookUp-find bytes_eq bytes_eq-Decides name_of_component_type component_types component_type_of_name-name_of name)

-- ## Each context is found by its own number and by its own name, so a look-up says what it should.

pub context_of_number-number_of : (context : Context) → context_of_number (number_of_context context) ≡ Some context
unfolding context_of_number
context_of_number-number_of Backup = refl
context_of_number-number_of _ = refl

pub IsLookUp-context_of_number : (number : ℕ) (found : Option Context) → found ≡ context_of_number number → IsLookUp number_of_context number found
unfolding context_of_number
IsLookUp-context_of_number number found is = rw is (IsLookUp-find nat_eq Decides-eqb number_of_context contexts context_of_number-number_of number)

pub context_of_name-name_of : (context : Context) → context_of_name (name_of_context context) ≡ Some context
unfolding context_of_name
context_of_name-name_of Backup = refl
context_of_name-name_of _ = refl

pub IsLookUp-context_of_name : (name : List ℕ) (found : Option Context) → found ≡ context_of_name name → IsLookUp name_of_context name found
unfolding context_of_name
IsLookUp-context_of_name name found is = rw is (IsLookUp-find bytes_eq bytes_eq-Decides name_of_context contexts context_of_name-name_of name)

-- ## Each level is found by its own number and by its own name, so a look-up says what it should.

pub level_of_number-number_of : (level : Level) → level_of_number (number_of_level level) ≡ Some level
unfolding level_of_number
level_of_number-number_of System = refl
level_of_number-number_of _ = refl

pub IsLookUp-level_of_number : (number : ℕ) (found : Option Level) → found ≡ level_of_number number → IsLookUp number_of_level number found
unfolding level_of_number
IsLookUp-level_of_number number found is = rw is (IsLookUp-find nat_eq Decides-eqb number_of_level levels level_of_number-number_of number)

pub level_of_name-name_of : (level : Level) → level_of_name (name_of_level level) ≡ Some level
unfolding level_of_name
level_of_name-name_of System = refl
level_of_name-name_of _ = refl

pub IsLookUp-level_of_name : (name : List ℕ) (found : Option Level) → found ≡ level_of_name name → IsLookUp name_of_level name found
unfolding level_of_name
IsLookUp-level_of_name name found is = rw is (IsLookUp-find bytes_eq bytes_eq-Decides name_of_level levels level_of_name-name_of name)

-- ## Each order is found by its own name, so a look-up says what it should.

pub order_of_name-name_of : (order : Order) → order_of_name (name_of_order order) ≡ Some order
unfolding order_of_name
order_of_name-name_of Identify = refl
order_of_name-name_of _ = refl

pub IsLookUp-order_of_name : (name : List ℕ) (found : Option Order) → found ≡ order_of_name name → IsLookUp name_of_order name found
unfolding order_of_name
IsLookUp-order_of_name name found is = rw is (IsLookUp-find bytes_eq bytes_eq-Decides name_of_order orders order_of_name-name_of name)

-- ## Each source kind is found by its own number and by its own name, so a look-up says what it should.

pub source_kind_of_number-number_of : (source_kind : SourceKind) → source_kind_of_number (number_of_source_kind source_kind) ≡ Some source_kind
unfolding source_kind_of_number
source_kind_of_number-number_of TransactedDb = refl
source_kind_of_number-number_of _ = refl

pub IsLookUp-source_kind_of_number : (number : ℕ) (found : Option SourceKind) → found ≡ source_kind_of_number number → IsLookUp number_of_source_kind number found
unfolding source_kind_of_number
IsLookUp-source_kind_of_number number found is = rw is (IsLookUp-find nat_eq Decides-eqb number_of_source_kind source_kinds source_kind_of_number-number_of number)

pub source_kind_of_name-name_of : (source_kind : SourceKind) → source_kind_of_name (name_of_source_kind source_kind) ≡ Some source_kind
unfolding source_kind_of_name
source_kind_of_name-name_of TransactedDb = refl
source_kind_of_name-name_of _ = refl

pub IsLookUp-source_kind_of_name : (name : List ℕ) (found : Option SourceKind) → found ≡ source_kind_of_name name → IsLookUp name_of_source_kind name found
unfolding source_kind_of_name
IsLookUp-source_kind_of_name name found is = rw is (IsLookUp-find bytes_eq bytes_eq-Decides name_of_source_kind source_kinds source_kind_of_name-name_of name)

-- ## Each usage is found by its own number and by its own name, so a look-up says what it should.

pub usage_of_number-number_of : (usage : Usage) → usage_of_number (number_of_usage usage) ≡ Some usage
unfolding usage_of_number
usage_of_number-number_of BootableSystemState = refl
usage_of_number-number_of _ = refl

pub IsLookUp-usage_of_number : (number : ℕ) (found : Option Usage) → found ≡ usage_of_number number → IsLookUp number_of_usage number found
unfolding usage_of_number
IsLookUp-usage_of_number number found is = rw is (IsLookUp-find nat_eq Decides-eqb number_of_usage usages usage_of_number-number_of number)

pub usage_of_name-name_of : (usage : Usage) → usage_of_name (name_of_usage usage) ≡ Some usage
unfolding usage_of_name
usage_of_name-name_of BootableSystemState = refl
usage_of_name-name_of _ = refl

pub IsLookUp-usage_of_name : (name : List ℕ) (found : Option Usage) → found ≡ usage_of_name name → IsLookUp name_of_usage name found
unfolding usage_of_name
IsLookUp-usage_of_name name found is = rw is (IsLookUp-find bytes_eq bytes_eq-Decides name_of_usage usages usage_of_name-name_of name)

-- ## Each result is found by its own name, so a look-up says what it should.

pub vss_result_of_name-name_of : (vss_result : VssResult) → vss_result_of_name (name_of_vss_result vss_result) ≡ Some vss_result
unfolding vss_result_of_name
vss_result_of_name-name_of (Writer InconsistentSnapshot) = refl
vss_result_of_name-name_of (Writer _) = refl
vss_result_of_name-name_of BadState = refl
vss_result_of_name-name_of _ = refl

pub IsLookUp-vss_result_of_name : (name : List ℕ) (found : Option VssResult) → found ≡ vss_result_of_name name → IsLookUp name_of_vss_result name found
unfolding vss_result_of_name
IsLookUp-vss_result_of_name name found is = rw is (IsLookUp-find bytes_eq bytes_eq-Decides name_of_vss_result vss_results vss_result_of_name-name_of name)

-- ## Each error is found by its own number and by its own name, so a look-up says what it should.

pub error_of_number-number_of : (error : WriterError) → error_of_number (number_of_writer_error error) ≡ Some error
unfolding error_of_number
error_of_number-number_of InconsistentSnapshot = refl
error_of_number-number_of _ = refl

pub IsLookUp-error_of_number : (number : ℕ) (found : Option WriterError) → found ≡ error_of_number number → IsLookUp number_of_writer_error number found
unfolding error_of_number
IsLookUp-error_of_number number found is = rw is (IsLookUp-find nat_eq Decides-eqb number_of_writer_error errors error_of_number-number_of number)

pub error_of_name-name_of : (error : WriterError) → error_of_name (name_of_writer_error error) ≡ Some error
unfolding error_of_name
error_of_name-name_of InconsistentSnapshot = refl
error_of_name-name_of _ = refl

pub IsLookUp-error_of_name : (name : List ℕ) (found : Option WriterError) → found ≡ error_of_name name → IsLookUp name_of_writer_error name found
unfolding error_of_name
IsLookUp-error_of_name name found is = rw is (IsLookUp-find bytes_eq bytes_eq-Decides name_of_writer_error errors error_of_name-name_of name)

-- ## Each state is found by its own number and by its own name, so a look-up says what it should.

pub state_of_number-number_of : (state : WriterState) → state_of_number (number_of_writer_state state) ≡ Some state
unfolding state_of_number
state_of_number-number_of Unknown = refl
state_of_number-number_of _ = refl

pub IsLookUp-state_of_number : (number : ℕ) (found : Option WriterState) → found ≡ state_of_number number → IsLookUp number_of_writer_state number found
unfolding state_of_number
IsLookUp-state_of_number number found is = rw is (IsLookUp-find nat_eq Decides-eqb number_of_writer_state states state_of_number-number_of number)

pub state_of_name-name_of : (state : WriterState) → state_of_name (name_of_writer_state state) ≡ Some state
unfolding state_of_name
state_of_name-name_of Unknown = refl
state_of_name-name_of _ = refl

pub IsLookUp-state_of_name : (name : List ℕ) (found : Option WriterState) → found ≡ state_of_name name → IsLookUp name_of_writer_state name found
unfolding state_of_name
IsLookUp-state_of_name name found is = rw is (IsLookUp-find bytes_eq bytes_eq-Decides name_of_writer_state states state_of_name-name_of name)
