-- Why an image goes, that what was asked for is done, and which images are told as evicted.
use Rattle.std.specs.List.{list_any, list_all}
use Rattle.std.specs.Prelude.{ℕ, ◌≡◌, ◌<◌, ◌≤◌, ◌⊎◌, Bool, true, false, List, Option, Some, None, slice_get, ◌==◌, ◌&&◌, ◌||◌, not, nat_lt, [], ◌∷◌, is_some}
use Rattle.write_history.specs.Slots.{Placed, lacks_slot, gone_up_to}
use Rattle.write_history.specs.declared.evicted.Evicted.{Evicted}
use Rattle.write_history.specs.declared.mark.Mark.{Mark}
use Rattle.write_history.specs.declared.mark.Mark.TheVariants.{Clean, Fault, FaultAfter}
use Rattle.requestor.specs.Session.{Session}
use Rattle.requestor.specs.declared.session_call.SessionCall.TheVariants.{End}
use Rattle.scenario.specs.Calls.{line_of, Target, target_of}
use Rattle.scenario.specs.Plan.{Plan, slots_of, group_of}
use Rattle.scenario.specs.declared.line.Line.{Line as Does}
use Rattle.scenario.specs.declared.line.Line.TheVariants.{Writes, Reverts, DeletesSet, DeletesImage, Calls}
use Rattle.scenario.specs.declared.op.Op.{Op}
use Rattle.scenario.specs.declared.op.Op.TheVariants.{DeleteSet, DeleteImage, Revert}
use Rattle.vss_model.specs.Acts.{Act, after, state, enabled}
use Rattle.vss_model.specs.Effects.{evicted}
use Rattle.vss_model.specs.Headline.{IsFailed}
use Rattle.vss_model.specs.Images.{is_backup, revert_refusal}
use Rattle.vss_model.specs.State.{State, SetRow, in_progress, history_of, has_image, row_of, Kept, is_kept_set, kept_image}
use Rattle.vss_model.specs.declared.event.Event.{Event}
use Rattle.vss_model.specs.declared.event.Event.TheVariants.{Line, Answer as AnswerEvent, Provider, Idle}

-- ## Why an image goes: its set fails; a line deletes it or its set; an older image of its volume is reverted to; its session of
-- context 0 ends; or a write finds no slot left in its group, and then the images of the least sets go, no more than needed.
-- (Which image goes where slots are wanting, the oldest first, is the SDK's; by whole sets of a group is this project's own.)

-- an image of set n stands on volume v
abbrev pub stands : State → ℕ → ℕ → Bool
stands st n v = has_image n (history_of st v)

-- set n was in progress, and has failed afterwards
pub record Fails (st next : State) (n : ℕ) : Type 0 where
  pub set : SetRow
  pub is : in_progress st ≡ Some set
  pub number : set.number ≡ n
  pub failed : IsFailed next n

abbrev pub within : Option Placed → Bool
within None = false
within (Some p) = p.within

-- Volume v shares the slots of volume u. A write of block b to u needs a slot, and each slot of the group is used, even with the
-- images of any lesser sets gone; and the images of all lesser sets go with it, on each volume of the group.
pub record IsWanted (s : Plan) (st next : State) (u b n v : ℕ) : Type 0 where
  pub shared : within (slice_get (group_of s u) v) ≡ true
  pub needed : (m : ℕ) → m < n → lacks_slot (slots_of s u) (group_of s u) u b (gone_up_to m (group_of s u) st.volumes) ≡ true
  pub together : (m x : ℕ) → m ≤ n → within (slice_get (group_of s u) x) ≡ true → stands next m x ≡ false

-- the session that ends is of context 0, and has made set n
pub record IsOfSession (st : State) (n : ℕ) : Type 0 where
  pub session : Session
  pub is : st.session ≡ Some session
  pub context : is_backup session.context ≡ true
  pub set : session.set ≡ Some n

-- what a line takes the image of set n on volume v for
abbrev pub TakesBy : Plan → State → State → ℕ → ℕ → Does → Type 0
TakesBy s st next n v (Writes u b payload) = IsWanted s st next u b n v
TakesBy s st next n v (Reverts m u) = (u ≡ v) × (m < n)
TakesBy s st next n v (DeletesSet m) = m ≡ n
TakesBy s st next n v (DeletesImage m u) = (m ≡ n) × (u ≡ v)
TakesBy s st next n v (Calls End) = IsOfSession st n
TakesBy s st next n v _ = ⊥

abbrev pub LineTakes : Plan → State → State → ℕ → ℕ → Op → Type 0
LineTakes s st next n v op = TakesBy s st next n v (line_of op)

abbrev pub Takes : Plan → State → State → ℕ → ℕ → Event → Type 0
Takes s st next n v (Line lane op) = LineTakes s st next n v op
Takes s st next n v (AnswerEvent w answer) = ⊥
Takes s st next n v Provider = ⊥
Takes s st next n v Idle = ⊥

-- an image that stands before an act and not after it has gone for one of these
abbrev pub ImagesGoForCause : Plan → List Act → Act → Type 0
ImagesGoForCause s so_far act = (n v : ℕ) → stands (state s so_far) n v ≡ true → stands (after s (state s so_far) act) n v ≡ false
    → Fails (state s so_far) (after s (state s so_far) act) n ⊎ Takes s (state s so_far) (after s (state s so_far) act) n v act.event

-- ## An image of context 0 stands only while the session stands that has made its set; so without a session none does. (That the
-- shadow copies of such a backup go with their requestor is the SDK's VSS_CTX_BACKUP.)

-- where the image of a set of context 0 stands, its session does
abbrev pub BackupsEnd : Plan → List Act → Type 0
BackupsEnd s so_far = (n v : ℕ) (r : SetRow) → row_of (state s so_far) n ≡ Some r → is_backup r.context ≡ true → stands (state s so_far) n v ≡ true → IsOfSession (state s so_far) n

-- ## What was asked for is done: after a `delete` what it names is gone, and after a revert the images of later sets are. (The SDK's
-- DeleteSnapshots and RevertToSnapshot.)

-- a revert that a device fails before its first block does nothing
abbrev pub reverts : Mark → Bool
reverts Clean = true
reverts Fault = false
reverts (FaultAfter k) = true

pub record IsDone (s : Plan) (so_far : List Act) (act : Act) : Type 0 where
  -- a complete set
  pub set : (lane n v : ℕ) → act.event ≡ Line lane (DeleteSet n) → is_kept_set (state s so_far) n ≡ true → stands (after s (state s so_far) act) n v ≡ false
  -- a kept image
  pub image : (lane n v : ℕ) (k : Kept) → act.event ≡ Line lane (DeleteImage n v) → kept_image (state s so_far) n v ≡ Some k → stands (after s (state s so_far) act) n v ≡ false
  -- a revert to a kept image that is not refused
  pub newer : (lane n v m : ℕ) (k : Kept) → act.event ≡ Line lane (Revert n v) → kept_image (state s so_far) n v ≡ Some k → revert_refusal v (Some k) (state s so_far) ≡ None
      → reverts act.mark ≡ true → n < m → stands (after s (state s so_far) act) m v ≡ false

-- ## Which images are told as evicted: for a write exactly those that were kept before it and do not stand after it, in order of their sets
-- and, of one set, of their volumes. No other act tells any. (This project's own.)

abbrev pub is_write : Event → Bool
is_write (Line lane op) = is_some (target_of op)
is_write _ = false

-- the image of set n on volume v is told
abbrev pub is_told : ℕ → ℕ → List Evicted → Bool
is_told n v es = list_any (λ (e : Evicted). (e.set == n) && (e.volume == v)) es

abbrev pub goes_before : Evicted → Evicted → Bool
goes_before e f = nat_lt e.set f.set || ((e.set == f.set) && nat_lt e.volume f.volume)

-- each is told before those behind it, and none twice
abbrev pub are_in_order : List Evicted → Bool
are_in_order [] = true
are_in_order (e ∷ es) = list_all (goes_before e) es && are_in_order es

pub record TellsEvicted (s : Plan) (so_far : List Act) (act : Act) : Type 0 where
  pub exactly : (lane n v : ℕ) (op : Op) (t : Target) → act.event ≡ Line lane op → target_of op ≡ Some t → enabled s (state s so_far) act.event ≡ true
      → is_told n v (evicted s (state s so_far) act.event) ≡ (is_kept_set (state s so_far) n && (stands (state s so_far) n v && not (stands (after s (state s so_far) act) n v)))
  pub in_order : are_in_order (evicted s (state s so_far) act.event) ≡ true
  -- an act that is no write
  pub no_other : is_write act.event ≡ false → evicted s (state s so_far) act.event ≡ []
