-- Why a set fails, both ways: an act that gives a cause fails the set in progress in that act, and no other act does. The causes
-- are said in words of their own beside the definitions, the last one in `WritesFailForSlots`: a veto to PrepareBackup, PrepareSnapshot
-- or Freeze, or an answer to one of the first two that is missing for more than 300,000 ticks; more than 10,000 ticks since the first
-- volume was held, while one may be; more than some participant's time-out, or 60,000, since PrepareSnapshot was answered, until
-- PostCommit; a flush that a device failed; `abort` or `end` of the lane that owns the session; a write for which the set's own image
-- goes. (Which causes there are is this project's own.)
use Rattle.std.specs.Prelude.{ℕ, ◌≡◌, ◌<◌, true, List, Some, slice_get}
use Rattle.write_history.specs.Slots.{lacks_slot, gone_up_to}
use Rattle.scenario.specs.declared.op.Op.{Op}
use Rattle.scenario.specs.Calls.{Target, target_of}
use Rattle.scenario.specs.Plan.{Plan, slots_of, group_of}
use Rattle.vss_model.specs.declared.event.Event.TheVariants.{Line}
use Rattle.vss_model.specs.State.{State, SetRow, in_progress, row_of}
use Rattle.vss_model.specs.Acts.{Act, enabled, after, state}
use Rattle.vss_model.specs.Facts.{has_failed}
use Rattle.vss_model.specs.Causes.{gives_cause}
use Rattle.vss_model.specs.Headline.{IsFailed}
use Rattle.promises.specs.Gone.{stands, within}

-- where a set is in progress before an act
pub record FailsForCause (s : Plan) (so_far : List Act) (act : Act) : Type 0 where
  -- an act that may come and gives a cause fails the set
  pub fails : (r : SetRow) → in_progress (state s so_far) ≡ Some r → enabled s (state s so_far) act.event ≡ true
      → gives_cause s (state s so_far) act.event act.mark ≡ true → IsFailed (after s (state s so_far) act) r.number
  -- and a set that fails has such an act
  pub only : (r q : SetRow) → in_progress (state s so_far) ≡ Some r → row_of (after s (state s so_far) act) r.number ≡ Some q → has_failed q.result ≡ true
      → gives_cause s (state s so_far) act.event act.mark ≡ true

-- An image of set n stands in the group of volume v; and a write of block b to v finds no slot there, even with the images of any lesser
-- sets gone.
pub record HasNoSlot (s : Plan) (st : State) (n v b : ℕ) : Type 0 where
  pub volume : ℕ
  pub shared : within (slice_get (group_of s v) volume) ≡ true
  pub stands_there : stands st n volume ≡ true
  pub full : (m : ℕ) → m < n → lacks_slot (slots_of s v) (group_of s v) v b (gone_up_to m (group_of s v) st.volumes) ≡ true

-- a write fails the set in progress just where it has no slot unless the set's image goes
pub record WritesFailForSlots (s : Plan) (so_far : List Act) (act : Act) : Type 0 where
  pub fails : (lane : ℕ) (op : Op) (t : Target) (r : SetRow) → act.event ≡ Line lane op → target_of op ≡ Some t → in_progress (state s so_far) ≡ Some r → enabled s (state s so_far) act.event ≡ true
      → HasNoSlot s (state s so_far) r.number t.volume t.block → IsFailed (after s (state s so_far) act) r.number
  pub only : (lane : ℕ) (op : Op) (t : Target) (r q : SetRow) → act.event ≡ Line lane op → target_of op ≡ Some t → in_progress (state s so_far) ≡ Some r → row_of (after s (state s so_far) act) r.number ≡ Some q
      → has_failed q.result ≡ true → HasNoSlot s (state s so_far) r.number t.volume t.block
