-- A run whose moves are made in an order, as far as they may come. (This project's own.)
use Rattle.std.specs.Prelude.{ℕ, ◌≡◌, true, false, List, map, take, Some, slice_get, Option, Result, Ok, Err}
use Rattle.vss_names.specs.Names.{TextValue}
use Rattle.volume_device.specs.declared.device.Device.{Ghosts}
use Rattle.write_history.specs.declared.actor.Actor.{Actor}
use Rattle.write_history.specs.declared.move_item.Move.{Move}
use Rattle.scenario.specs.Plan.{Plan}
use Rattle.vss_model.specs.Trail.{run, may_move}
use Rattle.vss_play.specs.Played.{Played, is_finished, IsPlayedInTurn, IsEnded}
use Rattle.vss_play.specs.Acting.{IsLedBy}
use Rattle.orders.specs.declared.entry.Entry.{Entry}
use Rattle.orders.specs.declared.halted.Halted.{Halted}
use Rattle.orders.specs.declared.halted.Halted.TheVariants.{At, OutOfMemory}
use Rattle.orders.specs.declared.why.Why.{Why}
use Rattle.orders.specs.declared.why.Why.TheVariants.{Blocked, Finished}

abbrev pub actors_of : List Entry → List Actor
actors_of entries = map (λ (e : Entry). e.actor) entries

-- the move of an actor may not come after these moves
abbrev pub MayNotCome : Plan → List Move → Actor → Why → Type 0
MayNotCome s trail actor Blocked = (may_move s (run s trail) actor ≡ false) × (is_finished s trail actor ≡ false)
MayNotCome s trail actor Finished = is_finished s trail actor ≡ true

-- the run made the moves of the entries before this one, whose move may not come
pub record IsHaltedAt {D : Type 0} (ghosts : Ghosts D) (old new : Played D) (entries : List Entry) (entry : Entry) (why : Why) : Type 0 where
  pub place : ℕ
  pub is_entry : slice_get entries place ≡ Some entry
  pub led : IsLedBy ghosts old (actors_of (take place entries)) new
  pub may_not : MayNotCome new.plan new.trail entry.actor why

-- the moves of all entries were made, or why not
abbrev pub IsFollowed : {D : Type 0} → Ghosts D → Played D → Played D → List Entry → Result Unit Halted → Type 0
IsFollowed ghosts old new entries (Ok u) = IsLedBy ghosts old (actors_of entries) new
IsFollowed ghosts old new entries (Err (At entry why)) = IsHaltedAt ghosts old new entries entry why
IsFollowed ghosts old new entries (Err OutOfMemory) = Unit {0}

-- the run went on in turn to its end, was closed with this report, and gave its devices back
pub record IsEndedInTurn {D : Type 0} (ghosts : Ghosts D) (old : Played D) (text : TextValue) : Type 0 where
  pub last : Played D
  pub turned : IsPlayedInTurn ghosts old last
  pub places : ℕ
  pub kept_before : Option (List D)
  pub kept_now : Option (List D)
  pub count_before : ℕ
  pub count_now : ℕ
  pub ended : IsEnded ghosts last places kept_before kept_now count_before count_now (Ok text)
