-- What contracts see of a coordinator: the names and classes of the registered writers, and what is kept of the course
-- of the session. The words here are those in which the conditions of its calls are said. (This project's own.)
use Rattle.std.specs.Global.{Global}
use Rattle.std.specs.List.{list_any}
use Rattle.std.specs.Prelude.{ℕ, ◌≡◌, ◌<◌, ◌-◌, ◌^◌, ◌==◌, ◌+◌, ◌++◌, ◌&&◌, ◌||◌, Bool, true, false, List, [], ◌∷◌, length, position, slice_get, Option, Some}
use Rattle.std.specs.Prelude.{None, option_map, is_some, Result, Ok, Err, Vec, codes}
use Rattle.std.specs.Str.{bytes_eq}
use Rattle.vss_names.specs.declared.level.Level.{Level}
use Rattle.vss_names.specs.declared.set_outcome.SetOutcome.{SetOutcome}
use Rattle.vss_names.specs.declared.set_outcome.SetOutcome.TheVariants.{Running, Complete, Failed}
use Rattle.vss_names.specs.declared.vss_result.VssResult.{VssResult}
use Rattle.writer_state.specs.WriterState.{first_row}
use Rattle.set_agenda.specs.Agenda.{is_working}
use Rattle.set_agenda.specs.Course.{Course, failed}
use Rattle.coordinator.specs.KeptCourse.{IsBy, StandsFor, left_now}
use Rattle.coordinator.specs.declared.kept_course.KeptCourse.{KeptCourse}
use Rattle.coordinator.specs.declared.register_fault.RegisterFault.{RegisterFault}
use Rattle.coordinator.specs.declared.register_fault.RegisterFault.TheVariants.{Double, OutOfMemory}

-- a registered writer
pub record Registered : Type 0 where
  pub name : List ℕ
  pub class : ℕ

-- an entry of the names
abbrev pub registered : (Vec ℕ Global × ℕ) → Registered
registered e = record { name = e.0.items; class = e.1 }

-- the number of the writer with this name
abbrev pub place_of : List ℕ → List Registered → Option ℕ
place_of name ws = position (λ r. bytes_eq name r.name) ws

pub record CoordinatorState : Type 0 where
  -- a writer's number is its place
  pub writers : List Registered
  pub kept : KeptCourse
  -- how often orders were posted, at most one to each writer
  pub posts : ℕ

-- a coordinator stands for a course
abbrev pub Stands : CoordinatorState → Course → Type 0
Stands s c = StandsFor s.kept c

abbrev pub writer_count : CoordinatorState → ℕ
writer_count s = length s.kept.rows

-- an agenda runs
abbrev pub runs : CoordinatorState → Bool
runs s = is_some s.kept.running

-- the provider has a step to make
abbrev pub works : CoordinatorState → Bool
works s = is_working (left_now s.kept.running)

-- nothing that limits run from is after the tick `now`
abbrev pub IsOnTime : ℕ → CoordinatorState → Type 0
IsOnTime now s = IsBy now s.kept.running

-- orders can be posted once more
abbrev pub MayPost : CoordinatorState → Type 0
MayPost s = s.posts < 2 ^ 32 - 1

-- ## the writers

-- the registered writers stay
pub record KeepsWriters (old new : CoordinatorState) : Type 0 where
  pub writers : new.writers ≡ old.writers
  pub count : writer_count new ≡ writer_count old

abbrev pub class_at : List Registered → ℕ → Option ℕ
class_at ws w = option_map (λ r. r.class) (slice_get ws w)

abbrev pub are_equal : Option ℕ → Option ℕ → Bool
are_equal None b = false
are_equal (Some a) None = false
are_equal (Some a) (Some b) = a == b

-- a writer is disabled whose class is that of one of these
abbrev pub is_disabled : List Registered → List ℕ → ℕ → Bool
is_disabled ws ds w = list_any (λ x. are_equal (class_at ws x) (class_at ws w)) ds

-- one of the writers that pass is of this class; the first of these writers has number x
abbrev pub any_class : (ℕ → Bool) → ℕ → Option ℕ → List Registered → Bool
any_class p x cl [] = false
any_class p x cl (r ∷ rs) = (p x && are_equal (Some r.class) cl) || any_class p (x + 1) cl rs

-- one writer more is registered
abbrev pub registered_in : Level → ℕ → Course → Course
registered_in level limit c = record c { rows = c.rows ++ first_row level limit ∷ [] }

-- one writer more is named to be disabled
abbrev pub named : ℕ → Course → Course
named w c = record c { disabled = c.disabled ++ w ∷ [] }

abbrev pub is_running : SetOutcome → Bool
is_running Running = true
is_running Complete = false
is_running (Failed why) = false

-- the set fails where it is in progress, by its outcome so far; else nothing changes
abbrev pub failed_if_running : SetOutcome → VssResult → Course → Course
failed_if_running Running why c = failed why c
failed_if_running Complete why c = c
failed_if_running (Failed earlier) why c = c

-- the number of the writer that has the name already, where that is why a writer is not registered
abbrev pub double_of : Result ℕ RegisterFault → Option ℕ
double_of (Ok w) = None
double_of (Err (Double at)) = Some at
double_of (Err OutOfMemory) = None

-- ## What is said of a writer that is not registered. (This project's own.)

abbrev pub message_of : RegisterFault → List ℕ
message_of (Double at) = codes "a writer of this name is registered"
message_of OutOfMemory = codes "out of memory"
