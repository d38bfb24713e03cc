-- The promises of a run, together: what holds of each act of its trail, and of each state that it comes to. (This project's own.)
use Rattle.std.specs.Prelude.{◌≡◌, List, ◌∷◌, ◌++◌}
use Rattle.write_history.specs.declared.move_item.Move.{Move}
use Rattle.scenario.specs.Plan.{Plan}
use Rattle.vss_model.specs.Acts.{Act}
use Rattle.vss_model.specs.Trail.{acts}
use Rattle.promises.specs.Accepted.{AcceptsInOrder, HasItsContext}
use Rattle.promises.specs.Answers.{AnswersSay}
use Rattle.promises.specs.Participants.{AsksItsOwn, CompletesUnfailed, LosesTheLate, ChosenTakePart, TakesPart}
use Rattle.promises.specs.Awaited.{AwaitTells, FailsByCode}
use Rattle.promises.specs.Calls.{CallsAreOwned, WaitsAreFew, WaitsAreDue, StandsQuiet, FrozenDoNotWrite, MarksAreDue, RefusalsChangeNothing}
use Rattle.promises.specs.Clock.{ClockMoves, IdlesShortest, HasItsNumbers, OrdersEnd, StandsWithinLimits}
use Rattle.promises.specs.Replies.{ClosesAsKept, FindsTheKept, RepliesTell}
use Rattle.promises.specs.Contents.{ContentsChange}
use Rattle.promises.specs.Gone.{BackupsEnd, IsDone, TellsEvicted, ImagesGoForCause}
use Rattle.promises.specs.Copies.{CopiesHold, KeepsCopies, PropertiesTell, SlotsSuffice}
use Rattle.promises.specs.Way.{CutsAtTheStep, StepsInTurn, StandsStill, CompletesByTheWay}
use Rattle.promises.specs.Ends.{TellsTheEnd, KeepsRows, VolumesAreDistinct}
use Rattle.promises.specs.Failing.{WritesFailForSlots}
use Rattle.promises.specs.Refusing.{RefusesForCause}
use Rattle.promises.specs.Rows.{RowsChange}
use Rattle.promises.specs.Scripted.{AnswersByScript}
use Rattle.promises.specs.Documented.{TellsDocument}
use Rattle.promises.specs.Owed.{NobodyOwes}

-- of an act that comes after these
pub record IsActAsPromised (s : Plan) (so_far : List Act) (act : Act) : Type 0 where
  pub participants : TakesPart s so_far act
  pub completes : CompletesByTheWay s so_far act
  pub code : FailsByCode s so_far act
  pub full : WritesFailForSlots s so_far act
  pub sets : KeepsRows s so_far act
  pub images : ImagesGoForCause s so_far act
  pub evicted : TellsEvicted s so_far act
  pub kept : FindsTheKept s so_far act
  pub done : IsDone s so_far act
  pub contents : ContentsChange s so_far act
  pub clock : ClockMoves s so_far act
  pub calls : CallsAreOwned s so_far act
  pub accepts : AcceptsInOrder s so_far act
  pub refuses : RefusalsChangeNothing s so_far act
  pub answers : AnswersSay s so_far act
  pub replies : RepliesTell s so_far act
  pub properties : PropertiesTell s so_far act
  pub awaits : AwaitTells s so_far act
  pub rows : RowsChange s so_far act
  pub loses : LosesTheLate s so_far act
  pub refused : RefusesForCause s so_far act
  pub document : TellsDocument s so_far act
  pub cuts : CutsAtTheStep s so_far act
  pub turns : StepsInTurn s so_far act
  pub ends : TellsTheEnd s so_far act

-- of the state after these acts
pub record IsStateAsPromised (s : Plan) (so_far : List Act) : Type 0 where
  pub waits : WaitsAreFew s so_far
  pub due : WaitsAreDue s so_far
  pub quiet : StandsQuiet s so_far
  pub frozen : FrozenDoNotWrite s so_far
  pub context : HasItsContext s so_far
  pub chosen : ChosenTakePart s so_far
  pub asks : AsksItsOwn s so_far
  pub owes : NobodyOwes s so_far
  pub volumes : VolumesAreDistinct s so_far
  pub idles : IdlesShortest s so_far
  pub limits : StandsWithinLimits s so_far
  pub numbers : HasItsNumbers s so_far
  pub orders : OrdersEnd s so_far
  pub completing : CompletesUnfailed s so_far
  pub backups : BackupsEnd s so_far
  pub slots : SlotsSuffice s so_far
  pub copies : CopiesHold s so_far
  pub still : StandsStill s so_far
  pub keeps : KeepsCopies s so_far
  pub marks : MarksAreDue s so_far
  pub closes : ClosesAsKept s so_far

-- of each act of a trail, and of each state on its way
pub record IsAsPromised (s : Plan) (trail : List Move) : Type 0 where
  pub each_act : (so_far rest : List Act) (act : Act) → acts s trail ≡ so_far ++ act ∷ rest → IsActAsPromised s so_far act
  pub each_state : (so_far rest : List Act) → acts s trail ≡ so_far ++ rest → IsStateAsPromised s so_far
  -- and of the moves of writers
  pub scripts : AnswersByScript s trail
