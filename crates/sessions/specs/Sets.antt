-- The sets that were started, as they are kept: the newest alone may be in progress. (This project's own.)
use Rattle.std.specs.Prelude.{ℕ, ◌==◌, ◌&&◌, Bool, List, [], find, option_map, if◌then◌else◌, Option}
use Rattle.std.specs.List.{list_any}
use Rattle.vss_model.specs.Words.{NumberedFrom, OverButNewest, SetRow, is_complete, is_running}
use Rattle.sessions.specs.declared.set_facts.SetFacts.{SetFacts}

-- the set in progress
abbrev pub running_in : List SetRow → Option SetRow
running_in rows = find (λ r. is_running r.result) rows

-- its number
abbrev pub current_of : List SetRow → Option ℕ
current_of rows = option_map (λ (r : SetRow). r.number) (running_in rows)

-- what every list of sets that is kept is
pub record AreSets (rows : List SetRow) : Type 0 where
  pub numbered : NumberedFrom 1 rows
  pub newest : OverButNewest rows

-- a change of a set in progress alone
abbrev pub running_changed : (SetRow → SetRow) → SetRow → SetRow
running_changed f r = if is_running r.result then f r else r

-- what is kept of a set: all but its volumes
abbrev pub bare : SetRow → SetRow
bare r = record r { volumes = [] }

-- what is told of a set
abbrev pub facts_of : SetRow → SetFacts
facts_of r = record { context = r.context; complete = is_complete r.result; cut_at = r.cut_at }

-- a set of this number is complete
abbrev pub is_complete_in : List SetRow → ℕ → Bool
is_complete_in rows n = list_any (λ r. (r.number == n) && is_complete r.result) rows
