-- How far a session has come, and which calls are accepted.
use Rattle.std.specs.Prelude.{ℕ, ◌≡◌, ◌==◌, ◌&&◌, ◌||◌, not, if◌then◌else◌, Bool, true, false, List, [], ◌∷◌, Some, ◌+◌, nat_lt, Option, None, length}
use Rattle.std.specs.Prelude.{slice_get, is_some, is_none}
use Rattle.std.specs.Str.{bytes_eq}
use Rattle.vss_names.specs.Context.{number_of}
use Rattle.vss_names.specs.declared.vss_result.VssResult.TheVariants.{AsyncPending}
use Rattle.set_agenda.specs.Agenda.{is_among}
use Rattle.writer_meta.specs.Metadata.{Part, Meta, full_name}
use Rattle.component_doc.specs.Selection.{Pair, has_pair}
use Rattle.requestor.specs.Session.{Session}
use Rattle.scenario.specs.Plan.{Plan, token}
use Rattle.scenario.specs.declared.op.Op.{Op}
use Rattle.scenario.specs.declared.op.Op.TheVariants.{Begin, Disable, Gather, Component, Document, Start, Add, Prepare, Snapshot, Complete, Status, Abort, End}
use Rattle.vss_model.specs.Acts.{Act, enabled, reply, after, state}
use Rattle.vss_model.specs.Causes.{owns}
use Rattle.vss_model.specs.Steps.{runs}
use Rattle.vss_model.specs.Reply.{is_fine, is_numbered, is_pending, is_pending_code, Reply, Fine, Numbered, Coded, DocumentOf, StatusOf}
use Rattle.vss_model.specs.Sessions.{known_metas}
use Rattle.vss_model.specs.State.{State, start, in_progress, SetRow, history_of}
use Rattle.vss_model.specs.declared.event.Event.{Event}
use Rattle.vss_model.specs.declared.event.Event.TheVariants.{Line}
use Rattle.promises.specs.Rows.{set_fails}

-- ## How far a session has come, read off its accepted lines: `begin`, `gather`, `start`, `prepare`, `snapshot` and `complete`, each once and
-- in this order; in a context without writers `begin`, `start` and `snapshot`. A session whose set fails goes no further. (The calls are
-- those of the SDK's IVssBackupComponents; that each comes once is this project's own.)

-- ## what acts bring

-- the last accepted line that brings a session on, or the failure of its set
pub data Step : Type 0 where
  ByBegin : Step
  ByGather : Step
  ByStart : Step
  ByPrepare : Step
  BySnapshot : Step
  ByComplete : Step
  ByFailure : Step

pub record Progress : Type 0 where
  -- what its `begin` said: the number of its context, and whether it takes all components
  pub context : ℕ
  pub all : Bool
  pub step : Step

abbrev pub line_brings : Op → Reply → Progress → Progress
line_brings (Begin n all) told p = if is_fine told then record { context = n; all = all; step = ByBegin } else p
line_brings Gather told p = if is_pending told then record p { step = ByGather } else p
line_brings Start told p = if is_numbered told then record p { step = ByStart } else p
line_brings Prepare told p = if is_pending told then record p { step = ByPrepare } else p
line_brings Snapshot told p = if is_pending told then record p { step = BySnapshot } else p
line_brings Complete told p = if is_pending told then record p { step = ByComplete } else p
line_brings _ told p = p

abbrev pub event_brings : Event → Reply → Progress → Progress
event_brings (Line lane op) told p = line_brings op told p
event_brings _ told p = p

abbrev pub lost_if : Bool → Progress → Progress
lost_if true p = record p { step = ByFailure }
lost_if false p = p

abbrev pub progress_after : State → Event → Reply → State → Progress → Progress
progress_after st event told next p = lost_if (set_fails (in_progress st) next) (event_brings event told p)

abbrev pub progress_if : Bool → Plan → State → Progress → Act → Progress
progress_if true s st p act = progress_after st act.event (reply s st act) (after s st act) p
progress_if false s st p act = p

abbrev pub progress_from : Plan → State → Progress → List Act → Progress
progress_from s st p [] = p
progress_from s st p (act ∷ acts) = progress_from s (after s st act) (progress_if (enabled s st act.event) s st p act) acts

-- how far the last session has come after these acts
abbrev pub progress : Plan → List Act → Progress
progress s acts = progress_from s (start s) (record { context = 0; all = false; step = ByBegin }) acts

-- ## which lines may come

abbrev pub step_code : Step → ℕ
step_code ByBegin = 0
step_code ByGather = 1
step_code ByStart = 2
step_code ByPrepare = 3
step_code BySnapshot = 4
step_code ByComplete = 5
step_code ByFailure = 6

abbrev pub is_step : Step → Step → Bool
is_step a b = step_code a == step_code b

-- contexts 0 and 9 have writers
abbrev pub asks_writers : Progress → Bool
asks_writers p = (p.context == 0) || (p.context == 9)

-- a line comes in its order
abbrev pub comes_now : Progress → Op → Bool
comes_now p (Disable w) = is_step p.step ByBegin && asks_writers p
comes_now p Gather = is_step p.step ByBegin && asks_writers p
comes_now p (Component w full) = (is_step p.step ByGather || is_step p.step ByStart) && asks_writers p
comes_now p Document = not (is_step p.step ByBegin) && asks_writers p
comes_now p Start = if asks_writers p then is_step p.step ByGather else is_step p.step ByBegin
comes_now p (Add v) = is_step p.step ByStart
comes_now p Prepare = is_step p.step ByStart && asks_writers p
comes_now p Snapshot = if asks_writers p then is_step p.step ByPrepare else is_step p.step ByStart
comes_now p Complete = is_step p.step BySnapshot && asks_writers p
comes_now p _ = false

-- a session has the context of its `begin`
abbrev pub HasItsContext : Plan → List Act → Type 0
HasItsContext s so_far = (q : Session) → (state s so_far).session ≡ Some q → number_of q.context ≡ (progress s so_far).context

-- ## Which calls are accepted: exactly those of the session's owner that come in their order while no agenda runs, below their maxima. A
-- set has at most 64 volumes, none twice, and a volume at most 512 images; `prepare` and `snapshot` want a set with a volume; and a
-- component is named once, if its writer is known and it can be selected. `begin` is accepted where there is no session, of a context that
-- there is; `abort` while a set is in progress; `status` and `end` always. (Order and maxima are this project's own, but for 64 and 512,
-- which are the SDK's.)

-- the lane owns the session q
pub record Owns (st : State) (lane : ℕ) (q : Session) : Type 0 where
  pub stands : st.session ≡ Some q
  pub owner : q.owner ≡ lane

-- the calls that come in an order
abbrev pub is_ordered : Op → Bool
is_ordered (Disable w) = true
is_ordered Gather = true
is_ordered (Component w full) = true
is_ordered Document = true
is_ordered Start = true
is_ordered (Add v) = true
is_ordered Prepare = true
is_ordered Snapshot = true
is_ordered Complete = true
is_ordered _ = false

abbrev pub is_accepted : Reply → Bool
is_accepted Fine = true
is_accepted (Numbered n) = true
is_accepted (Coded why) = is_pending_code why
is_accepted (DocumentOf bytes) = true
is_accepted _ = false

-- ## what a call wants beside its order

-- of a writer's components from place i on, the first of this full name can be selected and is not named yet
abbrev pub can_name_in : ℕ → List Pair → List ℕ → ℕ → List Part → Bool
can_name_in w named name i [] = false
can_name_in w named name i (p ∷ ps) = if bytes_eq (full_name p) name then p.selectable && not (has_pair named w i) else can_name_in w named name (i + 1) ps

-- if its metadata are known
abbrev pub can_name : ℕ → List Pair → List ℕ → Option (Option Meta) → Bool
can_name w named name None = false
can_name w named name (Some None) = false
can_name w named name (Some (Some m)) = can_name_in w named name 0 m.parts

-- a set that a volume with so many images goes into
abbrev pub has_place : ℕ → ℕ → Option SetRow → Bool
has_place v images None = false
has_place v images (Some r) = not (is_among v r.volumes) && nat_lt (length r.volumes) 64 && nat_lt images 512

abbrev pub has_volume : Option SetRow → Bool
has_volume None = false
has_volume (Some r) = nat_lt 0 (length r.volumes)

abbrev pub has_its_wants : Plan → State → Progress → Op → Bool
has_its_wants s st p (Component w full) = not p.all && can_name w st.explicit (token s full) (slice_get (known_metas s st) w)
has_its_wants s st p (Add v) = has_place v (length (history_of st v).images) (in_progress st)
has_its_wants s st p Prepare = has_volume (in_progress st)
has_its_wants s st p Snapshot = has_volume (in_progress st)
has_its_wants s st p _ = true

-- ## accepted

-- what an accepted call is answered
abbrev pub IsAccepting : State → Op → Reply → Type 0
IsAccepting st Gather told = told ≡ Coded AsyncPending
IsAccepting st Prepare told = told ≡ Coded AsyncPending
IsAccepting st Snapshot told = told ≡ Coded AsyncPending
IsAccepting st Complete told = told ≡ Coded AsyncPending
IsAccepting st Start told = told ≡ Numbered (length st.sets + 1)
IsAccepting st Document told = (bytes : List ℕ) × (told ≡ DocumentOf bytes)
IsAccepting st _ told = told ≡ Fine

-- contexts 0, 9 and 25 are there; 25 has no writers, and so no components to take all of
abbrev pub is_context : ℕ → Bool → Bool
is_context n all = (n == 0) || (n == 9) || ((n == 25) && not all)

pub record AcceptsInOrder (s : Plan) (so_far : List Act) (act : Act) : Type 0 where
  -- an ordered call is accepted just where it may come
  pub ordered : (lane : ℕ) (op : Op) → act.event ≡ Line lane op → is_ordered op ≡ true
      → is_accepted (reply s (state s so_far) act)
      ≡ (owns (state s so_far).session lane && (not (runs (state s so_far)) && (comes_now (progress s so_far) op && has_its_wants s (state s so_far) (progress s so_far) op)))
  pub told : (lane : ℕ) (op : Op) → act.event ≡ Line lane op → is_ordered op ≡ true → is_accepted (reply s (state s so_far) act) ≡ true → IsAccepting (state s so_far) op (reply s (state s so_far) act)
  pub begins : (lane n : ℕ) (all : Bool) → act.event ≡ Line lane (Begin n all) → is_fine (reply s (state s so_far) act) ≡ (is_none (state s so_far).session && is_context n all)
  pub aborts : (lane : ℕ) → act.event ≡ Line lane Abort → is_fine (reply s (state s so_far) act) ≡ (owns (state s so_far).session lane && is_some (in_progress (state s so_far)))
  pub tells_rows : (lane : ℕ) → act.event ≡ Line lane Status → owns (state s so_far).session lane ≡ true → reply s (state s so_far) act ≡ StatusOf (state s so_far).course.rows
  pub ends : (lane : ℕ) → act.event ≡ Line lane End → is_fine (reply s (state s so_far) act) ≡ owns (state s so_far).session lane
