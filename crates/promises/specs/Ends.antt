-- The sets: no volume is twice in one, how they go on and end, and which is told as ended.
use Rattle.std.specs.Prelude.{ℕ, ◌≡◌, true, List, Some, false, None, Bool, ◌∷◌, ◌++◌}
use Rattle.write_history.specs.declared.move_item.Move.{Move}
use Rattle.set_agenda.specs.Agenda.{is_among, open_group}
use Rattle.set_agenda.specs.Advance.{are_distinct}
use Rattle.writer_calls.specs.declared.answer.Answer.{Answer}
use Rattle.scenario.specs.Calls.{Target, target_of}
use Rattle.scenario.specs.Plan.{Plan}
use Rattle.scenario.specs.declared.op.Op.{Op}
use Rattle.scenario.specs.declared.op.Op.TheVariants.{Abort, End}
use Rattle.vss_model.specs.Acts.{Act, state, after, order_of_writer}
use Rattle.vss_model.specs.Causes.{is_refused, is_late, is_flush_step, is_fault, owns}
use Rattle.vss_model.specs.Effects.{ended, ticks_of}
use Rattle.vss_model.specs.State.{SetRow, row_of, in_progress, is_running, State, is_complete, left_now}
use Rattle.vss_model.specs.Trail.{acts}
use Rattle.vss_model.specs.declared.event.Event.TheVariants.{Line, Answer as AnswerEvent, Provider}
use Rattle.promises.specs.Failing.{HasNoSlot}

-- ## No volume is twice in a set. (As with the SDK's AddToSnapshotSet.)

abbrev pub VolumesAreDistinct : Plan → List Act → Type 0
VolumesAreDistinct s so_far = (n : ℕ) (r : SetRow) → row_of (state s so_far) n ≡ Some r → are_distinct r.volumes ≡ true

-- ## Which set is told as ended: the one that was in progress before the act and is over after it, as it is then; in no other act is one told.
-- (This project's own.)

pub record TellsTheEnd (s : Plan) (so_far : List Act) (act : Act) : Type 0 where
  pub over : (r q : SetRow) → in_progress (state s so_far) ≡ Some r → row_of (after s (state s so_far) act) r.number ≡ Some q → is_running q.result ≡ false
      → ended s (state s so_far) act ≡ Some q
  pub goes_on : (r q : SetRow) → in_progress (state s so_far) ≡ Some r → row_of (after s (state s so_far) act) r.number ≡ Some q → is_running q.result ≡ true
      → ended s (state s so_far) act ≡ None
  pub no_other : in_progress (state s so_far) ≡ None → ended s (state s so_far) act ≡ None

-- ## How sets go on and end. A set that was started keeps its row, whatever comes; at the end of a complete trail it is complete or has
-- failed; and where nothing disturbs it while it is in progress, it is complete. (That a set which nobody refuses and nothing stops
-- completes is what the SDK's DoSnapshotSet is called for; what counts as a disturbance is this project's own.)

-- ## rows

-- q is row r at a later time: of the same number and context, with its volumes; and a set that is over stays as it is
pub record IsLaterRow (r q : SetRow) : Type 0 where
  pub number : q.number ≡ r.number
  pub context : q.context ≡ r.context
  pub volumes : (v : ℕ) → is_among v r.volumes ≡ true → is_among v q.volumes ≡ true
  pub over : is_running r.result ≡ false → q ≡ r

-- the set of row r still has one
pub record HasLaterRow (st : State) (r : SetRow) : Type 0 where
  pub row : SetRow
  pub is_row : row_of st r.number ≡ Some row
  pub later : IsLaterRow r row

-- no act loses the row of a set
abbrev pub KeepsRows : Plan → List Act → Act → Type 0
KeepsRows s so_far act = (n : ℕ) (r : SetRow) → row_of (state s so_far) n ≡ Some r → HasLaterRow (after s (state s so_far) act) r

-- ## the end

-- the set of row r is over: it is complete, or it has failed
pub record HasEnded (st : State) (r : SetRow) : Type 0 where
  pub has : HasLaterRow st r
  pub over : is_running has.row.result ≡ false

-- each set that was started on the way of a trail has ended at its end
abbrev pub EndsEachSet : Plan → List Move → Type 0
EndsEachSet s trail = (so_far rest : List Act) (n : ℕ) (r : SetRow) → acts s trail ≡ so_far ++ rest → row_of (state s so_far) n ≡ Some r → HasEnded (state s (acts s trail)) r

-- ## a set that nothing disturbs

-- the lines by which the owner of a session gives its set up
abbrev pub gives_up : Op → Bool
gives_up Abort = true
gives_up End = true
gives_up _ = false

-- The act does not disturb a set in progress: no writer vetoes an order that asks for its consent, no limit is outrun, no device fails
-- a flush, no image of the set goes for want of a slot, and the owner of the session does not give the set up.
pub record IsCalm (s : Plan) (st : State) (act : Act) : Type 0 where
  pub agrees : (w : ℕ) (answer : Answer) → act.event ≡ AnswerEvent w answer → is_refused (order_of_writer st w) answer ≡ false
  pub in_time : (ticks : ℕ) → ticks_of st act.event ≡ Some ticks → is_late st ticks ≡ false
  pub flushes : act.event ≡ Provider → is_flush_step (open_group (left_now st)) ≡ true → is_fault act.mark ≡ false
  pub has_slots : (lane : ℕ) (op : Op) (t : Target) (r : SetRow) → act.event ≡ Line lane op → target_of op ≡ Some t → in_progress st ≡ Some r → HasNoSlot s st r.number t.volume t.block → ⊥
  pub goes_on : (lane : ℕ) (op : Op) → act.event ≡ Line lane op → gives_up op ≡ true → owns st.session lane ≡ false

-- each of these acts that comes while set n is in progress is calm
abbrev pub CalmWhile : Plan → List Act → List Act → ℕ → Type 0
CalmWhile s so_far rest n = (before later : List Act) (act : Act) (r : SetRow) → rest ≡ before ++ act ∷ later
    → in_progress (state s (so_far ++ before)) ≡ Some r → r.number ≡ n → IsCalm s (state s (so_far ++ before)) act

-- the set of row r is complete
pub record HasCompleted (st : State) (r : SetRow) : Type 0 where
  pub has : HasLaterRow st r
  pub complete : is_complete has.row.result ≡ true

-- a set in progress, as one whose `snapshot` was answered AsyncPending, completes where each act is calm that comes while it is
abbrev pub CompletesWhereCalm : Plan → List Move → Type 0
CompletesWhereCalm s trail = (so_far rest : List Act) (r : SetRow) → acts s trail ≡ so_far ++ rest → in_progress (state s so_far) ≡ Some r
    → CalmWhile s so_far rest r.number → HasCompleted (state s (acts s trail)) r
