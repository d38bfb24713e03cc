-- What a run promises of its images and of the sets that failed, after each of its acts. (One moment for all volumes of a set
-- is what the SDK's freeze, flush and hold are for; that nothing stays behind of a set that failed is its AbortSnapshots.)
use Rattle.std.specs.Prelude.{ℕ, ◌≡◌, ◌<◌, true, false, List, length, Some, None, is_some}
use Rattle.write_history.specs.History.{content, point_in}
use Rattle.write_history.specs.Slots.{Placed, copies}
use Rattle.write_history.specs.declared.move_item.Move.{Move}
use Rattle.write_history.specs.declared.mark.Mark.TheVariants.{Fault}
use Rattle.set_agenda.specs.declared.group.Group.TheVariants.{Flush}
use Rattle.set_agenda.specs.Agenda.{open_group, is_among}
use Rattle.set_agenda.specs.Course.{is_member}
use Rattle.scenario.specs.Plan.{Plan, lines_of}
use Rattle.vss_model.specs.declared.event.Event.TheVariants.{Provider}
use Rattle.vss_model.specs.State.{State, SetRow, in_progress, row_of, left_now, history_of, is_held, is_frozen, is_complete}
use Rattle.vss_model.specs.Acts.{Act, after, state}
use Rattle.vss_model.specs.Cut.{cut}
use Rattle.vss_model.specs.Facts.{has_failed, holds_for}
use Rattle.vss_model.specs.Laws.{RunsSnapshot}
use Rattle.vss_model.specs.Trail.{cursor}

-- The image of set n on volume v, whose point is p, reads as the volume at the set's one cut. There v was one of the set's
-- volumes, each of them was held, and every writer that took part stood frozen.
pub record ReadsAsAtTheCut (s : Plan) (so_far : List Act) (n v p : ℕ) : Type 0 where
  pub before : List Act
  pub is_cut : cut s n so_far ≡ Some before
  pub reads : (b : ℕ) → content (history_of (state s so_far) v).writes p b ≡ content (history_of (state s before) v).writes (length (history_of (state s before) v).writes) b
  pub set : SetRow
  pub is_set : in_progress (state s before) ≡ Some set
  pub number : set.number ≡ n
  pub volume : is_among v set.volumes ≡ true
  pub held : (u : ℕ) → is_among u set.volumes ≡ true → is_held (state s before) u ≡ true
  pub frozen : (w : ℕ) → is_member (state s before).course.members w ≡ true → is_frozen (state s before) w ≡ true

-- of set n nothing is kept: no image, and no copy of an overwritten block in any diff area
pub record LeavesNothing (s : Plan) (so_far : List Act) (n : ℕ) : Type 0 where
  pub no_image : (v : ℕ) → point_in n (history_of (state s so_far) v).images ≡ None
  pub no_copy : (group : List Placed) → holds_for n (copies group (state s so_far).volumes) ≡ false

-- a held volume is one of the set in progress, whose snapshot agenda runs
pub record IsHeldForSet (st : State) (v : ℕ) : Type 0 where
  pub run : RunsSnapshot st
  pub volume : is_among v run.set.volumes ≡ true

-- a frozen writer takes part in the set in progress, whose snapshot agenda runs
pub record IsFrozenForSet (st : State) (w : ℕ) : Type 0 where
  pub run : RunsSnapshot st
  pub participant : is_member st.course.members w ≡ true

-- nothing is held, and nobody stands frozen
pub record StandsFree (st : State) : Type 0 where
  pub held : (v : ℕ) → is_held st v ≡ false
  pub frozen : (w : ℕ) → is_frozen st w ≡ false

-- the set is there, and has failed
pub record IsFailed (st : State) (n : ℕ) : Type 0 where
  pub row : SetRow
  pub is : row_of st n ≡ Some row
  pub failed : has_failed row.result ≡ true

-- What an act keeps that comes while set r is in progress. A volume that is held keeps its effective writes. Where the set
-- fails in the act, nothing stays held or frozen after it. Where it completes, its image stands after it on each of its
-- volumes that the scenario has. And it fails where a device fails to flush.
pub record KeepsSet (s : Plan) (st : State) (act : Act) (r : SetRow) : Type 0 where
  pub still : (v : ℕ) → is_held st v ≡ true → (history_of (after s st act) v).writes ≡ (history_of st v).writes
  pub free : (q : SetRow) → row_of (after s st act) r.number ≡ Some q → has_failed q.result ≡ true → StandsFree (after s st act)
  pub images : (q : SetRow) → row_of (after s st act) r.number ≡ Some q → is_complete q.result ≡ true
      → (v : ℕ) → is_among v r.volumes ≡ true → v < length s.volumes → is_some (point_in r.number (history_of (after s st act) v).images) ≡ true
  pub flush : act.event ≡ Provider → open_group (left_now st) ≡ Some Flush → act.mark ≡ Fault → IsFailed (after s st act) r.number

-- each lane has made each of its lines once, in order
abbrev pub MakesEachLineOnce : Plan → List Move → Type 0
MakesEachLineOnce s trail = (i : ℕ) → cursor trail i ≡ length (lines_of s i)
