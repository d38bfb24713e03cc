-- Who takes part, who is asked, who is lost, and who gets no BackupComplete.
use Rattle.std.specs.Prelude.{ℕ, ◌≡◌, ◌==◌, ◌&&◌, ◌||◌, not, if◌then◌else◌, nat_lt, Bool, true, false, List, [], ◌∷◌, Option, Some, None, length, slice_get}
use Rattle.std.specs.Prelude.{◌+◌, is_some}
use Rattle.vss_names.specs.declared.order.Order.{Order}
use Rattle.vss_names.specs.declared.order.Order.TheVariants.{Identify, PrepareBackup, PrepareSnapshot, Freeze, Thaw, PostSnapshot, BackupComplete}
use Rattle.vss_names.specs.declared.vss_result.VssResult.TheVariants.{AsyncPending}
use Rattle.vss_names.specs.declared.writer_state.WriterState.{WriterState}
use Rattle.vss_names.specs.declared.writer_state.WriterState.TheVariants.{FailedAtIdentify, Unknown, Stable, WaitingForFreeze, WaitingForThaw}
use Rattle.vss_names.specs.declared.writer_state.WriterState.TheVariants.{WaitingForPostSnapshot, WaitingForBackupComplete}
use Rattle.tick_limits.specs.Time.{answer_limit}
use Rattle.writer_state.specs.declared.writer_row.WriterRow.{WriterRow}
use Rattle.set_agenda.specs.Agenda.{Agenda, Open, groups_left, order_of, is_among}
use Rattle.set_agenda.specs.Course.{is_member, Course}
use Rattle.set_agenda.specs.declared.group.Group.TheVariants.{Orders}
use Rattle.requestor.specs.Session.{Session}
use Rattle.scenario.specs.Plan.{Plan, class_of}
use Rattle.scenario.specs.declared.op.Op.{Op}
use Rattle.scenario.specs.declared.op.Op.TheVariants.{Begin, Disable, Component, Prepare}
use Rattle.vss_model.specs.Acts.{Act, enabled, reply, after, state, order_of_writer}
use Rattle.vss_model.specs.Causes.{has_passed, last_of, is_elsewhere, frozen_too_long}
use Rattle.vss_model.specs.Effects.{ticks_of, lost, lost_order}
use Rattle.vss_model.specs.Reply.{is_fine, is_pending, Reply, Coded}
use Rattle.vss_model.specs.State.{State, SetRow, start, in_progress}
use Rattle.vss_model.specs.declared.event.Event.{Event}
use Rattle.vss_model.specs.declared.event.Event.TheVariants.{Line}

-- ## Who takes part: an accepted `prepare` makes exactly those writers take part of which the session has named a component since its
-- `begin`; or, where its `begin` took all, those whose class the session has not disabled and that do not stand as failed at Identify.
-- Before it nobody takes part, and until the session ends no other act changes who does, so at the cut it is the same. (That the
-- writers of the components in the backup take part, and that a class can be disabled, are the SDK's; a session that takes all is its
-- backup without component selection.)

-- ## what the session has said of a writer

pub record Choosing : Type 0 where
  -- the `begin` took all components
  pub all : Bool
  -- one of the writer's components is named
  pub named : Bool
  -- its class is disabled
  pub disabled : Bool
  -- it takes part
  pub takes_part : Bool

-- where nothing is said yet
abbrev pub unsaid : Bool → Choosing
unsaid all = record { all = all; named = false; disabled = false; takes_part = false }

-- a writer that has failed at Identify is in no backup that takes all
abbrev pub is_chosen : Bool → Choosing → Bool
is_chosen failed c = if c.all then not c.disabled && not failed else c.named

-- a line says something of writer w only where it is accepted: with `ok`, and `prepare` by the agenda that it begins
abbrev pub line_says : Plan → ℕ → Bool → Op → Reply → Choosing → Choosing
line_says s w failed (Begin n all) told c = if is_fine told then unsaid all else c
line_says s w failed (Disable u) told c = if is_fine told then record c { disabled = c.disabled || (class_of s u == class_of s w) } else c
line_says s w failed (Component u full) told c = if is_fine told then record c { named = c.named || (u == w) } else c
line_says s w failed Prepare told c = if is_pending told then record c { takes_part = is_chosen failed c } else c
line_says s w failed _ told c = c

abbrev pub event_says : Plan → ℕ → Bool → Event → Reply → Choosing → Choosing
event_says s w failed (Line lane op) told c = line_says s w failed op told c
event_says s w failed _ told c = c

abbrev pub is_unfit_state : WriterState → Bool
is_unfit_state FailedAtIdentify = true
is_unfit_state _ = false

abbrev pub is_unfit_row : Option WriterRow → Bool
is_unfit_row None = false
is_unfit_row (Some r) = is_unfit_state r.state

-- writer w stands as failed at Identify
abbrev pub is_unfit : State → ℕ → Bool
is_unfit st w = is_unfit_row (slice_get st.course.rows w)

abbrev pub choosing_if : Bool → Plan → ℕ → State → Choosing → Act → Choosing
choosing_if true s w st c act = event_says s w (is_unfit st w) act.event (reply s st act) c
choosing_if false s w st c act = c

abbrev pub choosing_from : Plan → ℕ → State → Choosing → List Act → Choosing
choosing_from s w st c [] = c
choosing_from s w st c (act ∷ acts) = choosing_from s w (after s st act) (choosing_if (enabled s st act.event) s w st c act) acts

-- what the lines of the session so far have made of writer w
abbrev pub choosing : Plan → ℕ → List Act → Choosing
choosing s w acts = choosing_from s w (start s) (unsaid false) acts

-- ## who takes part

abbrev pub is_writer : Plan → ℕ → Bool
is_writer s w = nat_lt w (length s.writers)

-- while a session stands, exactly the writers that its `prepare` chose take part; without a session nobody does
pub record ChosenTakePart (s : Plan) (so_far : List Act) : Type 0 where
  pub chosen : (q : Session) (w : ℕ) → (state s so_far).session ≡ Some q → is_member (state s so_far).course.members w ≡ (is_writer s w && (choosing s w so_far).takes_part)
  pub nobody : (state s so_far).session ≡ None → (state s so_far).course.members ≡ []

abbrev pub is_prepare : Event → Bool
is_prepare (Line lane Prepare) = true
is_prepare _ = false

pub record TakesPart (s : Plan) (so_far : List Act) (act : Act) : Type 0 where
  -- an accepted `prepare` makes exactly the chosen writers of the scenario take part
  pub prepared : (lane w : ℕ) → act.event ≡ Line lane Prepare → enabled s (state s so_far) act.event ≡ true → reply s (state s so_far) act ≡ Coded AsyncPending
      → is_member (after s (state s so_far) act).course.members w ≡ (is_writer s w && is_chosen (is_unfit (state s so_far) w) (choosing s w so_far))
  -- and none of a disabled class
  pub none_disabled : (lane w : ℕ) → act.event ≡ Line lane Prepare → enabled s (state s so_far) act.event ≡ true → reply s (state s so_far) act ≡ Coded AsyncPending
      → is_member (after s (state s so_far) act).course.members w ≡ true → (choosing s w so_far).disabled ≡ false
  -- no other act changes who does while a set is in progress
  pub stay : (r : SetRow) → is_prepare act.event ≡ false → in_progress (after s (state s so_far) act) ≡ Some r → (after s (state s so_far) act).course.members ≡ (state s so_far).course.members

-- ## Who is asked: Identify goes to writers of classes that the session has not disabled, and every other order to those that take part.
-- (That a disabled class is not asked is the SDK's DisableWriterClasses; that Identify goes to all others is this project's own.)

-- the order is for writer w
abbrev pub IsFor : Plan → List Act → ℕ → Order → Type 0
IsFor s so_far w Identify = (choosing s w so_far).disabled ≡ false
IsFor s so_far w order = is_member (state s so_far).course.members w ≡ true

-- whoever has an order to answer is one whom it is for
abbrev pub AsksItsOwn : Plan → List Act → Type 0
AsksItsOwn s so_far = (w : ℕ) (order : Order) → order_of_writer (state s so_far) w ≡ Some order → IsFor s so_far w order

-- ## Who is told as lost: where the clock goes on, exactly those writers that owe the answer to an order whose time is over then. The time
-- of Freeze is the least time-out of a participant, 60,000 ticks at most, since PrepareSnapshot was answered; that of every other
-- order is 300,000 since something was last said to what came before it. (60 seconds of freeze are the SDK's; that a writer is lost is
-- this project's own.)

-- as the clock stands then, for the order of the open group
abbrev pub is_over : ℕ → Course → Agenda → Open → Option Order → Bool
is_over now c a o None = false
is_over now c a o (Some Freeze) = frozen_too_long now (Orders Freeze) c a
is_over now c a o (Some Identify) = has_passed answer_limit (last_of (is_elsewhere o.place) a) now
is_over now c a o (Some PrepareBackup) = has_passed answer_limit (last_of (is_elsewhere o.place) a) now
is_over now c a o (Some PrepareSnapshot) = has_passed answer_limit (last_of (is_elsewhere o.place) a) now
is_over now c a o (Some Thaw) = has_passed answer_limit (last_of (is_elsewhere o.place) a) now
is_over now c a o (Some PostSnapshot) = has_passed answer_limit (last_of (is_elsewhere o.place) a) now
is_over now c a o (Some BackupComplete) = has_passed answer_limit (last_of (is_elsewhere o.place) a) now

abbrev pub is_over_at : ℕ → Course → Agenda → List Open → Bool
is_over_at now c a [] = false
is_over_at now c a (o ∷ os) = is_over now c a o (order_of o.place.group)

abbrev pub is_over_in : ℕ → Course → Option Agenda → Bool
is_over_in now c None = false
is_over_in now c (Some a) = is_over_at now c a (groups_left a)

abbrev pub is_over_after : Option ℕ → State → Bool
is_over_after None st = false
is_over_after (Some ticks) st = is_over_in (st.clock + ticks) st.course st.course.agenda

-- the event moves the clock, and then the time of the open order is over
abbrev pub runs_out : State → Event → Bool
runs_out st event = is_over_after (ticks_of st event) st

pub record LosesTheLate (s : Plan) (so_far : List Act) (act : Act) : Type 0 where
  pub told : (w : ℕ) → is_among w (lost (state s so_far) act.event) ≡ (is_some (order_of_writer (state s so_far) w) && runs_out (state s so_far) act.event)
  -- by the order that it owes
  pub order : (w : ℕ) → is_among w (lost (state s so_far) act.event) ≡ true → lost_order (state s so_far) act.event ≡ order_of_writer (state s so_far) w

-- ## BackupComplete goes to no writer that has failed: whoever has that order open stands in none of the states of failure. (The states are
-- those of the SDK's VSS_WRITER_STATE; that a writer which has failed is not asked is this project's own.)

-- none of the failures
abbrev pub StandsWell : WriterState → Type 0
StandsWell Unknown = Unit {0}
StandsWell Stable = Unit {0}
StandsWell WaitingForFreeze = Unit {0}
StandsWell WaitingForThaw = Unit {0}
StandsWell WaitingForPostSnapshot = Unit {0}
StandsWell WaitingForBackupComplete = Unit {0}
StandsWell _ = ⊥

abbrev pub CompletesUnfailed : Plan → List Act → Type 0
CompletesUnfailed s so_far = (w : ℕ) (row : WriterRow) → order_of_writer (state s so_far) w ≡ Some BackupComplete → slice_get (state s so_far).course.rows w ≡ Some row → StandsWell row.state
