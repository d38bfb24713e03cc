-- What contracts see of a turn and of a caller. (This project's own.)
use Rattle.std.specs.Prelude.{ℕ, ◌≡◌, ◌<◌, List, length, slice_index_or}
use Rattle.turn_cell.specs.declared.entry.Entry.{Entry}
use Rattle.turn_cell.specs.declared.machine.Machine.{Ghosts}
use Rattle.turn_cell.specs.declared.caller.Caller.{Caller}
use Rattle.turn_cell.specs.declared.turn.Turn.{Turn}
use Rattle.turn_cell.specs.declared.view.Known.{Known}
use Rattle.turn_cell.specs.Steps.{known, newcomer}

module _ {M C R : Type 0} {g : Ghosts M C R} where
  -- its number, the beginning of the history that it has seen, and its own entries
  abbrev pub standing : Caller M C R g → Known C R
  standing caller = known caller.seat.me.0

  abbrev pub number : Caller M C R g → ℕ
  number caller = (standing caller).number

  abbrev pub seen : Caller M C R g → List (Entry C R)
  seen caller = (standing caller).seen

  abbrev pub mine : Caller M C R g → List (Entry C R)
  mine caller = (standing caller).mine

  -- it is a caller of the turn
  abbrev pub Calls : Caller M C R g → Turn M C R → Type 0
  Calls caller turn = caller.seat.table_id ≡ turn.table.shared.table_id

  -- the caller is still that one
  abbrev pub IsSame : Caller M C R g → Caller M C R g → Type 0
  IsSame before after = (after.seat.table_id ≡ before.seat.table_id) × (number after ≡ number before)

  -- each of them stands in its place, has seen nothing, and has made no call
  abbrev pub AreNew : (Caller M C R g → Type 0) → List (Caller M C R g) → Type 0
  AreNew Own callers = (i : ℕ) (d : Caller M C R g) → i < length callers → Own (slice_index_or callers i d) × (standing (slice_index_or callers i d) ≡ newcomer i)

module _ {M C R : Type 0} where
  -- the machine as it came
  abbrev pub opening : Turn M C R → M
  opening turn = turn.table.shared.key.machine.value

  -- for how many callers it was made
  abbrev pub seats : Turn M C R → ℕ
  seats turn = turn.seats
