-- A run by an order, from its beginning to its report, over devices in memory. (This project's own.)
use Rattle.std.specs.Prelude.{ℕ, ◌≡◌, ◌++◌, Bool, true, IsTrue, List, [], map, take, Some, slice_get}
use Rattle.vss_names.specs.Faults.{Rose}
use Rattle.write_history.specs.declared.actor.Actor.{Actor}
use Rattle.write_history.specs.declared.move_item.Move.{Move}
use Rattle.scenario.specs.Plan.{Plan}
use Rattle.cow_volume.specs.Calls.{NeverFails}
use Rattle.vss_model.specs.Trail.{is_legal, is_complete, faults}
use Rattle.vss_report.specs.ToldLines.{told_report}
use Rattle.vss_play.specs.Played.{AreInTurn}
use Rattle.orders.specs.declared.entry.Entry.{Entry}
use Rattle.vss_play.specs.declared.play_fault.PlayFault.{PlayFault}
use Rattle.vss_play.specs.declared.play_fault.PlayFault.TheVariants as fault
use Rattle.orders.specs.declared.halted.Halted.{Halted as Halt}
use Rattle.orders.specs.declared.halted.Halted.TheVariants as halt
use Rattle.orders.specs.declared.unplayed.Unplayed.{Unplayed}
use Rattle.orders.specs.declared.unplayed.Unplayed.TheVariants.{Halted, Failed, OutOfMemory}
use Rattle.orders.specs.declared.why.Why.{Why}
use Rattle.orders.specs.Drawn.{AreDrawn}
use Rattle.orders.specs.Followed.{actors_of, MayNotCome}

-- the actors of these moves, in order
abbrev pub movers_of : List Move → List Actor
movers_of moves = map (λ (m : Move). m.actor) moves

-- the text is the report of a legal and complete trail; where the devices tell their blocks it is this one text
pub record IsOfTrail (tells : Bool) (s : Plan) (trail : List Move) (text : List ℕ) : Type 0 where
  pub legal : is_legal s trail ≡ true
  pub complete : is_complete s trail ≡ true
  pub only : IsTrue tells → text ≡ told_report s trail

-- and where no call of a device ever fails no move has a fault mark
pub record IsReported {D : Type 0} (count : D → ℕ) (tells : Bool) (s : Plan) (trail : List Move) (text : List ℕ) : Type 0 where
  pub of_trail : IsOfTrail tells s trail text
  pub unmarked : NeverFails count → faults trail ≡ 0

-- the report of a trail that begins with the moves of an order, and goes on in turn
pub record IsOrdered {D : Type 0} (count : D → ℕ) (tells : Bool) (s : Plan) (entries : List Entry) (text : List ℕ) : Type 0 where
  pub first : List Move
  pub rest : List Move
  pub begins : movers_of first ≡ actors_of entries
  pub in_turn : AreInTurn s first rest
  pub reported : IsReported count tells s (first ++ rest) text

-- the report of the trail that is drawn by a number
pub record IsOfSeed {D : Type 0} (count : D → ℕ) (tells : Bool) (s : Plan) (number : ℕ) (text : List ℕ) : Type 0 where
  pub trail : List Move
  pub drawn : AreDrawn s number [] trail
  pub reported : IsReported count tells s trail text

-- Legal moves were made of the entries before this one, and its own may not come after them.
pub record IsHalted {D : Type 0} (count : D → ℕ) (s : Plan) (entries : List Entry) (entry : Entry) (why : Why) : Type 0 where
  pub place : ℕ
  pub is_entry : slice_get entries place ≡ Some entry
  pub trail : List Move
  pub legal : is_legal s trail ≡ true
  pub begins : movers_of trail ≡ actors_of (take place entries)
  pub may_not : MayNotCome s trail entry.actor why
  pub unmarked : NeverFails count → faults trail ≡ 0

-- the cause, by what stopped the moves of an order, or the run
abbrev pub unplayed_at : Halt → Unplayed
unplayed_at (halt.At entry why) = Halted entry why
unplayed_at halt.OutOfMemory = OutOfMemory

abbrev pub unplayed_by : PlayFault → Unplayed
unplayed_by fault.Failed = Failed
unplayed_by fault.OutOfMemory = OutOfMemory

-- why there is no report of an order
abbrev pub IsUnplayed : {D : Type 0} → (D → ℕ) → Plan → List Entry → ℕ → ℕ → Unplayed → Type 0
IsUnplayed count s entries first last (Halted entry why) = IsHalted count s entries entry why
IsUnplayed count s entries first last Failed = Rose first last
IsUnplayed count s entries first last OutOfMemory = Unit {0}
