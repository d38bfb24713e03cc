-- What the laws of this crate say: the named changes of which every act is made, what each of them keeps, and what a
-- held volume or a frozen writer means.
use Rattle.std.specs.Prelude.{ℕ, ◌≡◌, Bool, true, false, List, Some, None, is_some}
use Rattle.vss_names.specs.declared.context.Context.{Context}
use Rattle.vss_names.specs.declared.vss_result.VssResult.{VssResult}
use Rattle.writer_state.specs.declared.said.Said.{Said}
use Rattle.write_history.specs.declared.mark.Mark.{Mark}
use Rattle.write_history.specs.History.{Write}
use Rattle.set_agenda.specs.Agenda.{Agenda, is_snapshot, is_working}
use Rattle.requestor.specs.declared.session_call.SessionCall.{SessionCall}
use Rattle.requestor.specs.declared.session_call.SessionCall.TheVariants as call
use Rattle.requestor.specs.Session.{Session, makes_set, has_writers}
use Rattle.requestor.specs.Check.{allows}
use Rattle.component_doc.specs.Selection.{Pair}
use Rattle.scenario.specs.declared.op.Op.TheVariants as op
use Rattle.scenario.specs.Plan.{Plan, group_of}
use Rattle.vss_model.specs.State.{State, SetRow, Kept, in_progress, left_now, is_held, kept_image}
use Rattle.vss_model.specs.Steps.{runs}
use Rattle.vss_model.specs.Images.{going_up_to, is_in_set}
use Rattle.vss_model.specs.Sessions.{add_refusal, has_no_volume}
use Rattle.vss_model.specs.Changes.{AddsVolume, Drops, DropsSet, Evicts, Names, Writes, after_changes, answers, apply, calls, fails, next_step, opens, passes, reverts}
use Rattle.vss_model.specs.Acts.{order_of_writer}

-- ## the named changes

-- the checks let a call go that does not go beside an agenda: its session stands, no agenda runs, and the table allows it
pub record LetsGo (call : SessionCall) (q : Session) (st : State) : Type 0 where
  pub stands : st.session ≡ Some q
  pub quiet : runs st ≡ false
  pub allowed : allows q.stage (has_writers q.context) call ≡ true

-- A fact of the state is kept by each change of which acts are made; each is given what is known where it is made.
pub record IsKeptByChanges (P : State → Type 0) : Type 0 where
  -- the course
  pub answers : (w : ℕ) (said : Said) (st : State) → is_some (order_of_writer st w) ≡ true → P st → P (after_changes st (answers w said st))
  pub steps : (mark : Mark) (st : State) → is_working (left_now st) ≡ true → P st → P (after_changes st (next_step mark st))
  pub ticks : (n : ℕ) (st : State) → P st → P (after_changes st (passes n st))
  pub fails : (why : VssResult) (st : State) → P st → P (after_changes st (fails (in_progress st) why st))
  pub gathers : (s : Plan) (q : Session) (st : State) → LetsGo call.Gather q st → P st → P (after_changes st (calls s op.Gather q st))
  pub prepares : (s : Plan) (q : Session) (st : State) → LetsGo call.Prepare q st → has_no_volume (in_progress st) ≡ false → P st
      → P (after_changes st (calls s op.Prepare q st))
  pub snapshots : (s : Plan) (q : Session) (st : State) → LetsGo call.Snapshot q st → has_no_volume (in_progress st) ≡ false → P st
      → P (after_changes st (calls s op.Snapshot q st))
  pub completes : (s : Plan) (q : Session) (st : State) → LetsGo call.Complete q st → P st → P (after_changes st (calls s op.Complete q st))
  -- images
  pub clears : (s : Plan) (v b : ℕ) (st : State) → P st → P (apply st (Evicts (going_up_to s v b st) (group_of s v)))
  pub deletes_set : (n : ℕ) (st : State) → P st → P (apply st (DropsSet n))
  pub deletes_image : (n v : ℕ) (st : State) → P st → P (apply st (Drops n v))
  -- the session
  pub begins : (lane : ℕ) (all : Bool) (c : Context) (st : State) → st.session ≡ None → P st → P (after_changes st (opens lane all c))
  pub names : (q : Session) (explicit : List Pair) (st : State) → LetsGo call.Component q st → P st → P (apply st (Names explicit))
  pub disables : (s : Plan) (w : ℕ) (q : Session) (st : State) → LetsGo call.Disable q st → P st → P (after_changes st (calls s (op.Disable w) q st))
  pub starts : (s : Plan) (q : Session) (st : State) → LetsGo call.Start q st → makes_set q.stage ≡ false → P st → P (after_changes st (calls s op.Start q st))
  pub adds : (v : ℕ) (r : SetRow) (q : Session) (st : State) → LetsGo call.Add q st → in_progress st ≡ Some r → add_refusal v r st ≡ None
      → P st → P (apply st (AddsVolume r.number v))
  pub ends : (s : Plan) (q : Session) (st : State) → st.session ≡ Some q → P st → P (after_changes st (calls s op.End q st))

-- A fact is kept by the changes of effective writes that are allowed in a state: a write to a volume that is not held,
-- and a revert of a volume that is in no set in progress.
pub record IsKeptByWrites (P : State → Type 0) (st : State) : Type 0 where
  pub puts : (v : ℕ) → is_held st v ≡ false → (w : Write) (x : State) → P x → P (apply x (Writes v w))
  pub reverts : (s : Plan) (n v : ℕ) (k : Kept) (mark : Mark) → kept_image st n v ≡ Some k → is_in_set v (in_progress st) ≡ false
      → P st → P (after_changes st (reverts s v (Some k) mark))

-- the same for a test of the state
abbrev pub Passes : (State → Bool) → State → Type 0
Passes test st = test st ≡ true

-- ## held and frozen

-- the running agenda is the snapshot agenda of the one set in progress
pub record RunsSnapshot (st : State) : Type 0 where
  pub agenda : Agenda
  pub set : SetRow
  pub runs : st.course.agenda ≡ Some agenda
  pub kind : is_snapshot agenda.kind ≡ true
  pub in_progress_is : in_progress st ≡ Some set
  pub volumes : agenda.volumes ≡ set.volumes
  pub members : agenda.members ≡ st.course.members
