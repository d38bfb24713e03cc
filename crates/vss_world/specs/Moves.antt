-- What a step of the core promises: it waits exactly where the event is not enabled, and else it is answered as defined, and stands for
-- the acts with this one. (This project's own.)
use Rattle.std.specs.Prelude.{ℕ, ◌≡◌, ◌<◌, ◌≤◌, Bool, true, false, List, [], ◌∷◌, ◌++◌, length, map, if◌then◌else◌, Option, Some, None, Result, Ok, Err, slice_get}
use Rattle.vss_names.specs.declared.out_of_memory.OutOfMemory.{OutOfMemory}
use Rattle.volume_device.specs.declared.device.Device.{Ghosts}
use Rattle.vss_model.specs.Words.{Act, Flush, IsOp, IsOutcome, Kept, Mark, Plan, Reads, Reverts, Running, ShowsBlock, ShowsImage, WriterRow, Writes, after, enabled, event_allows, is_fault}
use Rattle.vss_model.specs.Words.{kept_image, line_of, mark_of, restorable, state, told_act}
use Rattle.vss_world.specs.Words.{Answer as AnswerEvent, AreLater, Event, Line, Outcome, Provider, Told, takes_memory as takes_for, volume_place}
use Rattle.provider.specs.Words.{NeverFails, counted_as}
use Rattle.scenario.specs.declared.line.Line.{Line as Does}
use Rattle.vss_model.specs.declared.told.Told.TheVariants as told
use Rattle.write_history.specs.declared.mark.Mark.TheVariants.{Fault}
use Rattle.vss_world.specs.declared.reply.Reply.{Reply}
use Rattle.vss_world.specs.declared.reply.Reply.TheVariants.{Blocked, Moved}
use Rattle.vss_world.specs.Stands.{tells_of, RoseFor, WorldValue, IfStands, IsOf, Stands}

-- ## events

-- the numbers of an event are in the scenario's range
abbrev pub IsEvent : Plan → Event → Type 0
IsEvent s (Line lane op) = (lane < length s.lanes) × IsOp s op
IsEvent s (AnswerEvent w answer) = w < length s.writers
IsEvent s _ = Unit {0}

-- the events for which memory is taken
abbrev pub takes_memory : Event → Bool
takes_memory (Line lane op) = takes_for op
takes_memory _ = false

-- the volume of a line, and that of a step
abbrev pub volume_by : Does → Option ℕ
volume_by (Writes v b payload) = Some v
volume_by (Reads v b) = Some v
volume_by (ShowsImage n v) = Some v
volume_by (ShowsBlock n v b) = Some v
volume_by (Reverts n v) = Some v
volume_by _ = None

abbrev pub volume_of_step : Told → Option ℕ
volume_of_step (told.Step g v fault) = v
volume_of_step _ = None

abbrev pub volume_of : Event → Told → Option ℕ
volume_of (Line lane op) answer = volume_by (line_of op)
volume_of Provider answer = volume_of_step answer
volume_of _ answer = None

-- ## a step

-- the event is not enabled, and nothing changed
pub record IsBlocked {D : Type 0} (blocks_told : D → Option (List (List ℕ))) (old new : WorldValue D) (s : Plan) (event : Event) : Type 0 where
  pub same : new ≡ old
  pub not_enabled : (acts : List Act) → Stands blocks_told old s acts → enabled s (state s acts) event ≡ false

-- The event was enabled. It was answered as defined, with a mark that is allowed, and what stood for a list of acts stands for the list
-- with this act. The rows of the writers that may be told are those after it. A mark other than Clean comes only where the count of the
-- device of the act's volume, or that of its area's, rose and each other count is as it was, and Clean only where each count is as it
-- was.
pub record IsMoved {D : Type 0} (device : Ghosts D) (old new : WorldValue D) (s : Plan) (event : Event) (o : Outcome) : Type 0 where
  pub is_enabled : (acts : List Act) → Stands device.told old s acts → enabled s (state s acts) event ≡ true
  pub is_allowed : (acts : List Act) → Stands device.told old s acts → event_allows s (state s acts) event (mark_of o.told) ≡ true
  pub outcome : (acts : List Act) (rows : List WriterRow) → Stands device.told old s acts → rows ≡ (after s (state s acts) (told_act event o.told)).course.rows
      → IsOutcome (tells_of device.told s old.devices) s (state s acts) event o new.listed new.evicted rows
  pub stands_for : (acts : List Act) → Stands device.told old s acts → Stands device.told new s (acts ++ told_act event o.told ∷ [])
  pub is_of : IsOf new s
  pub tells : tells_of device.told s new.devices ≡ tells_of device.told s old.devices
  pub later : AreLater (map device.count old.devices) (map device.count new.devices)
  pub rose : is_fault (mark_of o.told) ≡ true → RoseFor s (volume_of event o.told) (map device.count old.devices) (map device.count new.devices)
  pub unfailed : is_fault (mark_of o.told) ≡ false → map device.count new.devices ≡ map device.count old.devices

abbrev pub IsStepped : {D : Type 0} → Ghosts D → WorldValue D → WorldValue D → Plan → Event → Reply → Type 0
IsStepped device old new s event Blocked = IsBlocked device.told old new s event
IsStepped device old new s event (Moved o) = IsMoved device old new s event o

-- a move has this mark
abbrev pub HasMark : Mark → Reply → Type 0
HasMark mark Blocked = Unit {0}
HasMark mark (Moved o) = mark_of o.told ≡ mark

-- what a revert that is to stop after k blocks is answered, if it goes: there are no more to restore, or it stopped there
abbrev pub StopsAs : {D : Type 0} → (D → Option (List (List ℕ))) → WorldValue D → Plan → ℕ → ℕ → ℕ → Told → Type 0
StopsAs blocks_told w s n v k told.Ok = (acts : List Act) (image : Kept) → Stands blocks_told w s acts → kept_image (state s acts) n v ≡ Some image → restorable s (state s acts) v (Some image) ≤ k
StopsAs blocks_told w s n v k (told.FaultAfter m) = m ≡ k
StopsAs blocks_told w s n v k _ = Unit {0}

abbrev pub StopsAfter : {D : Type 0} → (D → Option (List (List ℕ))) → WorldValue D → Plan → ℕ → ℕ → ℕ → Reply → Type 0
StopsAfter blocks_told w s n v k Blocked = Unit {0}
StopsAfter blocks_told w s n v k (Moved o) = StopsAs blocks_told w s n v k o.told

-- where a step of the Flush group is told clean, what its volume's device tells lasts
abbrev pub StepLasts : {D : Type 0} → Ghosts D → WorldValue D → Plan → Reply → Type 0
StepLasts device new s Blocked = Unit {0}
StepLasts {D = D} device new s (Moved o) = (v : ℕ) (d : D) → o.told ≡ told.Step Flush (Some v) false → slice_get new.devices (volume_place s v) ≡ Some d → device.lasting d ≡ device.told d

-- what a mark that is told needs: a failing call nothing, and the others that no call of a device fails
abbrev pub MarkNeeds : {D : Type 0} → (D → ℕ) → Mark → Type 0
MarkNeeds count Fault = Unit {0}
MarkNeeds count mark = NeverFails count

-- a step that is made with a mark that is told, if it may have that mark; counts rise as the marks tell
pub record IsToldStep {D : Type 0} (device : Ghosts D) (old new : WorldValue D) (s : Plan) (event : Event) (mark : Mark) (reply : Reply) : Type 0 where
  pub stepped : IsStepped (counted_as device true) old new s event reply
  pub marked : MarkNeeds device.count mark → IfStands device.told old s (λ st. event_allows s st event mark ≡ true → HasMark mark reply)
  pub lasts : event ≡ Provider → StepLasts device new s reply

-- or it is out of memory, which only an event that takes memory may be, and nothing changed
abbrev pub IsMarked : {D : Type 0} → Ghosts D → WorldValue D → WorldValue D → Plan → Event → Mark → Result Reply OutOfMemory → Type 0
IsMarked device old new s event mark (Ok reply) = IsToldStep device old new s event mark reply
IsMarked device old new s event mark (Err e) = (new ≡ old) × (takes_memory event ≡ true)

-- an answer beside which sets are listed
abbrev pub lists_sets : Told → Bool
lists_sets told.Images = true
lists_sets _ = false

-- what a list is after an answer: a move that lists no sets empties it
abbrev pub listed_after : Reply → List ℕ → List ℕ
listed_after Blocked listed = listed
listed_after (Moved o) listed = if lists_sets o.told then listed else []

-- where a move lists no sets, none is listed after it
abbrev pub AreListed : Reply → List ℕ → Type 0
AreListed Blocked listed = Unit {0}
AreListed (Moved o) listed = lists_sets o.told ≡ false → listed ≡ []

-- what a move comes to that ends no set and loses no writer
abbrev pub simple_outcome : Told → Outcome
simple_outcome told = record { told = told; lost = 0; lost_order = None; set = 0; result = Running }
