-- What a coordinator keeps of a course: the writers' rows and mailboxes as they are, the participants and the writers
-- that were named to be disabled as sets, what is kept of the agenda that runs, and the outcome of the session's set.
-- (This project's own; the course itself is that of set_agenda's Course.)
use Rattle.std.specs.Prelude.{ℕ, ◌≡◌, ◌≤◌, min, Bool, true, false, List, [], fold, length, slice_get, Option, Some, None, if◌then◌else◌}
use Rattle.writer_state.specs.declared.writer_row.WriterRow.{WriterRow}
use Rattle.writer_state.specs.WriterState.{row_aborted, row_after, row_ended, row_gathered}
use Rattle.set_agenda.specs.declared.kind.Kind.{Kind}
use Rattle.set_agenda.specs.Agenda.{Agenda, Open, is_among, is_done, left, open_order}
use Rattle.set_agenda.specs.declared.limit.Limit.{Limit}
use Rattle.set_agenda.specs.declared.member.Member.{Member}
use Rattle.tick_limits.specs.Time.{default_freeze}
use Rattle.vss_names.specs.declared.order.Order.{Order}
use Rattle.writer_state.specs.declared.said.Said.{Said}
use Rattle.set_agenda.specs.Course.{Course, answered_to, is_member, limit_of, members_from, treated_as}
use Rattle.set_agenda.specs.WriterSet.{writers}
use Rattle.coordinator.specs.declared.row_change.RowChange.{RowChange}
use Rattle.coordinator.specs.declared.row_change.RowChange.TheVariants.{Told, Aborted, Gathered, Ended}
use Rattle.coordinator.specs.declared.kept_course.KeptCourse.{KeptCourse}
use Rattle.coordinator.specs.declared.running_agenda.RunningAgenda.{RunningAgenda}
use Rattle.coordinator.specs.RunningAgenda.{Fits, NoneAfter}
use Rattle.coordinator.specs.OpenOrders.{AreFit, AreReady}

-- ## the agenda that runs

-- the groups that are left of it, if one runs
abbrev pub left_now : Option RunningAgenda → List Open
left_now None = []
left_now (Some r) = r.agenda

-- what is kept fits the agenda that runs, and nothing is kept where none runs
abbrev pub FitsRun : Option RunningAgenda → Option Agenda → Type 0
FitsRun None None = Unit {0}
FitsRun None (Some a) = ⊥
FitsRun (Some r) None = ⊥
FitsRun (Some r) (Some a) = Fits r a

-- no time that is kept is after the tick `now`
abbrev pub IsBy : ℕ → Option RunningAgenda → Type 0
IsBy now None = Unit {0}
IsBy now (Some r) = NoneAfter now r

-- the kind of the agenda that runs, where its last group is closed
abbrev pub kind_if_done : Option RunningAgenda → Option Kind
kind_if_done None = None
kind_if_done (Some r) = if is_done r.agenda then Some r.kind else None

-- ## the course

-- what is kept of a course beside the mailboxes
pub record Follows (k : KeptCourse) (c : Course) : Type 0 where
  pub rows : k.rows ≡ c.rows
  pub members : c.members ≡ members_from (λ w. is_among w k.members) 0 c.rows
  pub participants : k.members ≡ writers (is_member c.members)
  pub disabled : k.disabled ≡ writers (λ w. is_among w c.disabled)
  pub outcome : k.outcome ≡ c.outcome
  pub agenda : FitsRun k.running c.agenda

-- what is kept stands for a course
pub record StandsFor (k : KeptCourse) (c : Course) : Type 0 where
  pub follows : Follows k c
  pub mailboxes : AreFit k.mailboxes (left c.agenda) c.opened

-- it stands for some course, there are at most 64 writers, there is a mailbox for each of 64, and an agenda that runs
-- is not done
pub record IsSound (k : KeptCourse) : Type 0 where
  pub few : length k.rows ≤ 64
  pub boxes : length k.mailboxes ≡ 64
  pub live : kind_if_done k.running ≡ None
  pub course : Course
  pub stands : StandsFor k course

-- no order is sent or answered, and no writer is registered
pub record KeepsBoxes (old new : KeptCourse) : Type 0 where
  pub mailboxes : new.mailboxes ≡ old.mailboxes
  pub len : length new.rows ≡ length old.rows

-- neither the rows nor the running agenda changes
pub record KeepsRun (old new : KeptCourse) : Type 0 where
  pub rows : new.rows ≡ old.rows
  pub running : new.running ≡ old.running

-- the writer's answer to its open order was taken: what is kept follows the course before, and its mailbox is closed
pub record IsTaken (o : Order) (w : ℕ) (k : KeptCourse) (c : Course) : Type 0 where
  pub order : open_order (left c.agenda) w ≡ Some o
  pub follows : Follows k c
  pub ready : (said : Said) (now : ℕ) → AreReady k.mailboxes (left c.agenda) (left (answered_to (Some o) w said now c).agenda) c.opened

-- ## what happens to a row

abbrev pub changed : RowChange → WriterRow → WriterRow
changed (Told order said) = row_after order said
changed Aborted = row_aborted
changed Gathered = row_gathered
changed Ended = row_ended

-- ## time

-- a limit that is spent is treated
abbrev pub treated_by : Option Limit → ℕ → Course → Course
treated_by None now c = c
treated_by (Some l) now c = treated_as l now c

-- the writers that a spent limit loses, by the order of the open group and those that it waits for
abbrev pub lost_by : Option Limit → Option Order → List ℕ → List ℕ
lost_by None o ws = []
lost_by (Some l) None ws = []
lost_by (Some l) (Some o) ws = ws

abbrev pub least_if : Bool → ℕ → ℕ → ℕ
least_if true limit own = min limit own
least_if false limit own = limit

-- the least time-out of these members, and the default one where there are none
abbrev pub least_limit : List WriterRow → List Member → ℕ
least_limit rows ms = fold (λ l (m : Member). min l (limit_of (slice_get rows m.writer))) default_freeze ms

abbrev pub ticks_if : Bool → ℕ → Option ℕ
ticks_if true n = Some n
ticks_if false n = None
