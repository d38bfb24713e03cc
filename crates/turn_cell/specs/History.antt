-- The history of a machine: a list of entries, each a caller's number, its call and the answer. From an opening
-- state it leads to a later one by the machine's own moves; an entry that found no memory leaves the state.
-- (This project's own.)
use Rattle.std.specs.List.{filter, All}
use Rattle.std.specs.Prelude.{ℕ, ◌≡◌, ◌==◌, Result, Ok, Err, MatchResult, List, [], ◌∷◌, ◌++◌, ◌<◌}
use mathlib.Core.List.{IsPrefix}
use Rattle.vss_names.specs.declared.out_of_memory.OutOfMemory.{OutOfMemory}
use Rattle.turn_cell.specs.declared.entry.Answered.{Answered}
use Rattle.turn_cell.specs.declared.entry.Entry.{Entry}
use Rattle.turn_cell.specs.declared.view.Known.{Known}

module _ {M C R : Type 0} (steps : M → ℕ → C → R → M → Type 0) where
  -- the entry brought the machine from s to t
  abbrev pub Makes : M → Entry C R → M → Type 0
  Makes s e t = MatchResult e.answer (λ reply. steps s e.caller e.call reply t) (λ _. t ≡ s)

  -- the entries, one after another, bring the machine from s to t
  abbrev pub Leads : M → List (Entry C R) → M → Type 0
  Leads s [] t = s ≡ t
  Leads s (e ∷ es) t = (u : M) × Makes s e u × Leads u es t

-- the answer as an entry has it: the reply without its place
abbrev pub answer_of : {R : Type 0} → Result (Answered R) OutOfMemory → Result R OutOfMemory
answer_of (Ok a) = Ok a.reply
answer_of (Err e) = Err e

module _ {C R : Type 0} where
  -- the entries of the caller n, in order
  abbrev pub entries_of : ℕ → List (Entry C R) → List (Entry C R)
  entries_of n log = filter (λ e. e.caller == n) log

  -- the entry of a call
  abbrev pub entry_of : ℕ → C → Result (Answered R) OutOfMemory → Entry C R
  entry_of n call result = record { caller = n; call = call; answer = answer_of result }

  -- the later list begins with the earlier one and ends with the entry
  abbrev pub GoesOnTo : List (Entry C R) → Entry C R → List (Entry C R) → Type 0
  GoesOnTo earlier e later = (between : List (Entry C R)) × (later ≡ (earlier ++ between) ++ e ∷ [])

-- ## How a turn ends: the machine that comes out is in the state after one history, of which each caller has seen a
-- beginning, and which has of each caller the entries that it made and no others. (This project's own.)

-- what the caller has seen begins the history, and its own entries are those that the history has of it
abbrev pub Stands : {C R : Type 0} → List (Entry C R) → Known C R → Type 0
Stands history k = IsPrefix k.seen history × (entries_of k.number history ≡ k.mine)

pub record Ended {M C R : Type 0} (steps : M → ℕ → C → R → M → Type 0) (opening : M) (seats : ℕ) (callers : List (Known C R)) (last : M) : Type 0 where
  pub history : List (Entry C R)
  pub leads : Leads steps opening history last
  pub numbered : All (λ e. e.caller < seats) history
  pub each : All (Stands history) callers
