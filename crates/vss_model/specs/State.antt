-- Where the service stands: the session, the sets that were started, the course of the agenda and the writers, the
-- volumes with their histories, and the clock. Everything that is said of a run is read from this. (This project's
-- own.)
use Rattle.std.specs.Prelude.{ℕ, Bool, true, false, List, [], map, filter, find, ◌==◌, ◌&&◌, if◌then◌else◌, Option, Some, None, is_some, slice_get}
use Rattle.std.specs.List.{list_any}
use Rattle.vss_names.specs.declared.context.Context.{Context}
use Rattle.vss_names.specs.declared.set_outcome.SetOutcome.{SetOutcome}
use Rattle.vss_names.specs.declared.set_outcome.SetOutcome.TheVariants.{Running, Complete, Failed}
use Rattle.write_history.specs.History.{Image, History, fresh, point_in}
use Rattle.writer_state.specs.declared.writer_row.WriterRow.{WriterRow}
use Rattle.writer_state.specs.WriterState.{first_row}
use Rattle.set_agenda.specs.Agenda.{Open, left, is_frozen as freezes, is_held as holds}
use Rattle.set_agenda.specs.Course.{Course, course_start}
use Rattle.requestor.specs.Session.{Session}
use Rattle.component_doc.specs.Selection.{Pair}
use Rattle.scenario.specs.Plan.{Plan, WriterPlan}

-- a set that was started
pub record SetRow : Type 0 where
  pub number : ℕ
  pub context : Context
  -- in order of `add`
  pub volumes : List ℕ
  pub result : SetOutcome
  -- the clock at its cut
  pub cut_at : Option ℕ

pub record State : Type 0 where
  pub session : Option Session
  -- the components that the session has named
  pub explicit : List Pair
  -- in order of their numbers, from 1
  pub sets : List SetRow
  pub course : Course
  pub volumes : List History
  pub clock : ℕ

abbrev pub row_of_writer : WriterPlan → WriterRow
row_of_writer w = first_row w.meta.level w.meta.freeze_timeout

-- before any act
abbrev pub start : Plan → State
start s = record {
  session = None;
  explicit = [];
  sets = [];
  course = course_start (map row_of_writer s.writers);
  volumes = map (λ _. fresh) s.volumes;
  clock = 0;
}

-- ## sets

abbrev pub is_running : SetOutcome → Bool
is_running Running = true
is_running Complete = false
is_running (Failed why) = false

abbrev pub is_complete : SetOutcome → Bool
is_complete Running = false
is_complete Complete = true
is_complete (Failed why) = false

-- a set is in progress from its start until it is complete or has failed
abbrev pub in_progress : State → Option SetRow
in_progress st = find (λ r. is_running r.result) st.sets

-- f on the row of set n
abbrev pub row_changed : ℕ → (SetRow → SetRow) → SetRow → SetRow
row_changed n f r = if r.number == n then f r else r

abbrev pub row_of : State → ℕ → Option SetRow
row_of st n = find (λ r. r.number == n) st.sets

-- ## frozen and held

abbrev pub left_now : State → List Open
left_now st = left st.course.agenda

-- a writer stands frozen
abbrev pub is_frozen : State → ℕ → Bool
is_frozen st w = freezes st.course.agenda w

-- the writes of a volume are held
abbrev pub is_held : State → ℕ → Bool
is_held st v = holds st.course.agenda v

-- ## volumes and their kept images

abbrev pub history_in : Option History → History
history_in None = fresh
history_in (Some h) = h

abbrev pub history_of : State → ℕ → History
history_of st v = history_in (slice_get st.volumes v)

-- the set of this number is complete
abbrev pub is_kept_set : State → ℕ → Bool
is_kept_set st n = list_any (λ r. (r.number == n) && is_complete r.result) st.sets

-- the images of a history that are kept: those that stand of complete sets
abbrev pub kept : State → History → List Image
kept st h = filter (λ i. is_kept_set st i.set) h.images

-- a kept image: its set's row, and its point
pub record Kept : Type 0 where
  pub row : SetRow
  pub point : ℕ

abbrev pub kept_at : SetRow → Option ℕ → Option Kept
kept_at r None = None
kept_at r (Some point) = Some (record { row = r; point = point })

abbrev pub kept_if : Bool → SetRow → Option ℕ → Option Kept
kept_if true r point = kept_at r point
kept_if false r point = None

abbrev pub kept_of : Option SetRow → Option ℕ → Option Kept
kept_of None point = None
kept_of (Some r) point = kept_if (is_complete r.result) r point

-- the image of set n on volume v, where it is kept
abbrev pub kept_image : State → ℕ → ℕ → Option Kept
kept_image st n v = kept_of (row_of st n) (point_in n (history_of st v).images)

abbrev pub has_image : ℕ → History → Bool
has_image n h = is_some (point_in n h.images)
