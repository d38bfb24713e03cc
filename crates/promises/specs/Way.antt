-- The way to completion: the sequence of deeds since the `snapshot` line, its steps in turn, its one cut, and what is held and frozen on it.
use Rattle.std.specs.List.{list_any}
use Rattle.std.specs.Prelude.{ℕ, ◌≡◌, ◌≤◌, ◌==◌, Bool, true, false, List, [], ◌∷◌, ◌++◌, map, ◌&&◌, not, if◌then◌else◌, Option, Some, None, slice_get, ◌||◌}
use Rattle.vss_names.specs.declared.level.Level.{Level}
use Rattle.vss_names.specs.declared.level.Level.TheVariants.{System, BackEnd, FrontEnd}
use Rattle.vss_names.specs.declared.order.Order.{Order}
use Rattle.vss_names.specs.declared.order.Order.TheVariants.{Identify, PrepareBackup, PrepareSnapshot, Freeze, Thaw, PostSnapshot, BackupComplete}
use Rattle.writer_state.specs.WriterState.{is_ok}
use Rattle.writer_state.specs.declared.said.Said.{Said}
use Rattle.writer_state.specs.declared.said.Said.TheVariants.{Lost}
use Rattle.set_agenda.specs.Agenda.{same_order, group_code, is_among}
use Rattle.set_agenda.specs.Course.{is_member}
use Rattle.set_agenda.specs.declared.group.Group.{Group}
use Rattle.set_agenda.specs.declared.group.Group.TheVariants.{Orders, PreCommit, Flush, Hold, Cut, Commit, Release, PostCommit}
use Rattle.set_agenda.specs.declared.member.Member.{Member}
use Rattle.writer_calls.specs.Script.{said_of}
use Rattle.scenario.specs.Plan.{Plan, WriterPlan}
use Rattle.scenario.specs.declared.op.Op.TheVariants.{Snapshot}
use Rattle.vss_model.specs.Acts.{Act, enabled, reply, after, state}
use Rattle.vss_model.specs.Cut.{cut}
use Rattle.vss_model.specs.Effects.{lost, lost_order}
use Rattle.vss_model.specs.Steps.{runs}
use Rattle.vss_model.specs.Reply.{is_pending, Reply, Answered, Stepped}
use Rattle.vss_model.specs.State.{State, SetRow, start, is_complete, in_progress, row_of, is_held, is_frozen}
use Rattle.vss_model.specs.declared.event.Event.{Event}
use Rattle.vss_model.specs.declared.event.Event.TheVariants.{Line, Answer as AnswerEvent, Provider, Idle, Answer}
use Rattle.promises.specs.Accepted.{BySnapshot, is_step, progress}

-- ## The way to completion: what writers said and the provider made since the `snapshot` line, as the acts tell it, in order.
-- A set completes only where that is the whole sequence of a snapshot, each part once. (The sequence is that of the SDK's
-- overview of shadow copy creation; the order of the Thaw levels is this project's own.)

-- ## what acts tell

-- each with the clock after its act
pub data Deed : Type 0 where
  -- what a writer said to an order, or that its answer was lost
  Spoke : Order → ℕ → Said → ℕ → Deed
  -- a step that the provider has made, with its volume where it is one of a volume
  Made : Group → Option ℕ → ℕ → Deed

abbrev pub steps_told : ℕ → Group → Option ℕ → Bool → List Deed
steps_told now g v true = []
steps_told now g v false = Made g v now ∷ []

-- by its reply: a writer's answer, and a step in which no device failed
abbrev pub deeds_told : ℕ → Event → Reply → List Deed
deeds_told now (Line lane op) told = []
deeds_told now (AnswerEvent w answer) (Answered order a) = Spoke order w (said_of a) now ∷ []
deeds_told now (AnswerEvent w answer) _ = []
deeds_told now Provider (Stepped g v fault) = steps_told now g v fault
deeds_told now Provider _ = []
deeds_told now Idle told = []

abbrev pub deeds_lost : ℕ → Option Order → List ℕ → List Deed
deeds_lost now None ws = []
deeds_lost now (Some order) ws = map (λ w. Spoke order w Lost now) ws

abbrev pub deeds_of : State → Event → ℕ → Reply → List Deed
deeds_of st event now told = deeds_told now event told ++ deeds_lost now (lost_order st event) (lost st event)

abbrev pub deeds_if : Bool → Plan → State → Act → List Deed
deeds_if true s st act = deeds_of st act.event (after s st act).clock (reply s st act)
deeds_if false s st act = []

-- of one act
abbrev pub deeds : Plan → State → Act → List Deed
deeds s st act = deeds_if (enabled s st act.event) s st act

-- ## since the `snapshot` line

abbrev pub is_snapshot_line : Event → Bool
is_snapshot_line (Line lane Snapshot) = true
is_snapshot_line _ = false

-- a `snapshot` line that goes on as an agenda
abbrev pub begins_snapshot : Plan → State → Act → Bool
begins_snapshot s st act = enabled s st act.event && is_snapshot_line act.event && is_pending (reply s st act)

abbrev pub way_after : Plan → State → List Deed → Act → List Deed
way_after s st so_far act = if begins_snapshot s st act then [] else so_far ++ deeds s st act

abbrev pub way_from : Plan → State → List Deed → List Act → List Deed
way_from s st so_far [] = so_far
way_from s st so_far (act ∷ acts) = way_from s (after s st act) (way_after s st so_far act) acts

-- the deeds since the last `snapshot` line that was accepted
abbrev pub way : Plan → List Act → List Deed
way s acts = way_from s (start s) [] acts

-- ## the sequence

abbrev pub level_in : Option WriterPlan → Level
level_in None = System
level_in (Some w) = w.meta.level

-- the level that the scenario gives a writer
abbrev pub level_of : Plan → ℕ → Level
level_of s w = level_in (slice_get s.writers w)

-- freeze goes from the front end down to the system, thaw from the system back up
abbrev pub order_stage : Order → Level → ℕ
order_stage PrepareSnapshot level = 0
order_stage Freeze FrontEnd = 1
order_stage Freeze BackEnd = 2
order_stage Freeze System = 3
order_stage Thaw System = 11
order_stage Thaw BackEnd = 12
order_stage Thaw FrontEnd = 13
order_stage PostSnapshot level = 14
order_stage Identify level = 15
order_stage PrepareBackup level = 15
order_stage BackupComplete level = 15

abbrev pub step_stage : Group → ℕ
step_stage PreCommit = 4
step_stage Flush = 5
step_stage Hold = 6
step_stage Cut = 7
step_stage Commit = 8
step_stage Release = 9
step_stage PostCommit = 10
step_stage (Orders order) = 15

-- where in the sequence a deed belongs
abbrev pub stage : Plan → Deed → ℕ
stage s (Spoke order w said now) = order_stage order (level_of s w)
stage s (Made g v now) = step_stage g

-- numbers that do not fall
abbrev pub Rising : List ℕ → Type 0
Rising [] = Unit {0}
Rising (m ∷ []) = Unit {0}
Rising (m ∷ n ∷ ns) = (m ≤ n) × Rising (n ∷ ns)

-- ## each once

abbrev pub same_volume : Option ℕ → Option ℕ → Bool
same_volume None None = true
same_volume None (Some v) = false
same_volume (Some u) None = false
same_volume (Some u) (Some v) = u == v

-- something of this writer to this order
abbrev pub is_heard : Order → ℕ → Deed → Bool
is_heard order w (Spoke o u said now) = same_order o order && (u == w)
is_heard order w (Made g v now) = false

-- an ok of this writer to this order
abbrev pub is_agreed : Order → ℕ → Deed → Bool
is_agreed order w (Spoke o u said now) = same_order o order && is_ok said && (u == w)
is_agreed order w (Made g v now) = false

-- a veto of this writer, or its lost answer, to any order
abbrev pub is_failure : ℕ → Deed → Bool
is_failure w (Spoke o u said now) = not (is_ok said) && (u == w)
is_failure w (Made g v now) = false

-- this step
abbrev pub is_made : Group → Option ℕ → Deed → Bool
is_made g v (Spoke o u said now) = false
is_made g v (Made h u now) = (group_code h == group_code g) && same_volume u v

-- of the same writer to the same order, or the same step
abbrev pub is_again : Deed → Deed → Bool
is_again (Spoke order w said now) d = is_heard order w d
is_again (Made g v now) d = is_made g v d

-- no writer is heard twice to an order, and no step is made twice
abbrev pub AreOnce : List Deed → Type 0
AreOnce [] = Unit {0}
AreOnce (d ∷ ds) = (list_any (λ e. is_again e d) ds ≡ false) × AreOnce ds

abbrev pub heard : Order → ℕ → List Deed → Bool
heard order w way = list_any (is_heard order w) way

abbrev pub agreed : Order → ℕ → List Deed → Bool
agreed order w way = list_any (is_agreed order w) way

abbrev pub failed : ℕ → List Deed → Bool
failed w way = list_any (is_failure w) way

abbrev pub made : Group → Option ℕ → List Deed → Bool
made g v way = list_any (is_made g v) way

-- ## the way of a set

-- the whole sequence, in order, and nothing twice: every participant said ok to PrepareSnapshot and to Freeze; the provider made
-- each of its steps, on each volume of the set; every participant was heard at Thaw, and at
-- PostSnapshot those that have not failed, and nobody that has failed at Thaw; and nobody else was heard, nor was a step made on another volume
pub record IsWholeWay (s : Plan) (participants : List Member) (volumes : List ℕ) (way : List Deed) : Type 0 where
  pub in_order : Rising (map (stage s) way)
  pub once : AreOnce way
  pub prepared : (w : ℕ) → is_member participants w ≡ true → agreed PrepareSnapshot w way ≡ true
  pub frozen : (w : ℕ) → is_member participants w ≡ true → agreed Freeze w way ≡ true
  pub pre_commit : made PreCommit None way ≡ true
  pub flushed : (v : ℕ) → is_among v volumes ≡ true → made Flush (Some v) way ≡ true
  pub held : (v : ℕ) → is_among v volumes ≡ true → made Hold (Some v) way ≡ true
  pub cut : made Cut None way ≡ true
  pub committed : (v : ℕ) → is_among v volumes ≡ true → made Commit (Some v) way ≡ true
  pub released : (v : ℕ) → is_among v volumes ≡ true → made Release (Some v) way ≡ true
  pub post_commit : made PostCommit None way ≡ true
  pub thawed : (w : ℕ) → is_member participants w ≡ true → heard Thaw w way ≡ true
  pub told_after : (w : ℕ) → is_member participants w ≡ true → failed w way ≡ false → heard PostSnapshot w way ≡ true
  pub told_no_failed : (w : ℕ) → agreed Thaw w way ≡ false → heard PostSnapshot w way ≡ false
  pub of_participants : (order : Order) (w : ℕ) → heard order w way ≡ true → is_member participants w ≡ true
  pub of_volumes : (g : Group) (v : ℕ) → made g (Some v) way ≡ true → is_among v volumes ≡ true

-- a set that completes in an act has come the whole way
abbrev pub CompletesByTheWay : Plan → List Act → Act → Type 0
CompletesByTheWay s so_far act = (r q : SetRow) → in_progress (state s so_far) ≡ Some r → row_of (after s (state s so_far) act) r.number ≡ Some q → is_complete q.result ≡ true
    → IsWholeWay s (state s so_far).course.members r.volumes (way s (so_far ++ act ∷ []))

-- ## The volumes of a set come in the order of their `add`: a step of the provider on a volume comes only when the same step was made on each
-- volume that was added before it. (The order is this project's own.)

-- u comes in this list before the first v
abbrev pub is_before : ℕ → ℕ → List ℕ → Bool
is_before u v [] = false
is_before u v (w ∷ ws) = if w == v then false else (w == u) || is_before u v ws

abbrev pub StepsInTurn : Plan → List Act → Act → Type 0
StepsInTurn s so_far act = (g : Group) (u v : ℕ) (fault : Bool) (r : SetRow) → act.event ≡ Provider → reply s (state s so_far) act ≡ Stepped g (Some v) fault
    → in_progress (state s so_far) ≡ Some r → is_before u v r.volumes ≡ true → made g (Some u) (way s so_far) ≡ true

-- ## Where a set is cut: in the act that the provider is answered as the Cut step of the set in progress, and in no other. (This project's own.)

abbrev pub is_cut_reply : Reply → Bool
is_cut_reply (Stepped Cut v fault) = true
is_cut_reply _ = false

-- set n is in progress
abbrev pub is_number : ℕ → Option SetRow → Bool
is_number n None = false
is_number n (Some r) = r.number == n

pub record CutsAtTheStep (s : Plan) (so_far : List Act) (act : Act) : Type 0 where
  pub step : (n : ℕ) → act.event ≡ Provider
      → cut s n (so_far ++ act ∷ []) ≡ (if is_cut_reply (reply s (state s so_far) act) && is_number n (in_progress (state s so_far)) then Some so_far else cut s n so_far)
  pub line : (n lane : ℕ) (op : _) → act.event ≡ Line lane op → cut s n (so_far ++ act ∷ []) ≡ cut s n so_far
  pub answer : (n w : ℕ) (a : _) → act.event ≡ Answer w a → cut s n (so_far ++ act ∷ []) ≡ cut s n so_far
  pub idle : (n : ℕ) → act.event ≡ Idle → cut s n (so_far ++ act ∷ []) ≡ cut s n so_far

-- ## How long volumes are held and writers stand frozen: while the agenda of `snapshot` runs, a volume from its Hold step to its Release
-- step, and a writer from its ok to Freeze until it is heard at Thaw. At no other time is a volume held, or does a writer stand frozen.
-- (Freeze, thaw and the hold of writes are the SDK's; that each ends by its own step is this project's own.)

-- the agenda runs that the session's `snapshot` began
abbrev pub takes_snapshot : Plan → List Act → Bool
takes_snapshot s so_far = runs (state s so_far) && is_step (progress s so_far).step BySnapshot

pub record StandsStill (s : Plan) (so_far : List Act) : Type 0 where
  pub held : (v : ℕ) → is_held (state s so_far) v
      ≡ (takes_snapshot s so_far && (made Hold (Some v) (way s so_far) && not (made Release (Some v) (way s so_far))))
  pub frozen : (w : ℕ) → is_frozen (state s so_far) w
      ≡ (takes_snapshot s so_far && (agreed Freeze w (way s so_far) && not (heard Thaw w (way s so_far))))
