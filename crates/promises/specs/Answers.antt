-- An answer says what was done: a write whether its block was written, a step of the provider whether a device failed in it, an idle
-- stretch how long it was, and a `delete` how many images went. (This project's own.)
use Rattle.std.specs.Prelude.{ℕ, ◌≡◌, ◌<◌, ◌+◌, ◌&&◌, Bool, true, List, length, Option, Some}
use Rattle.write_history.specs.declared.mark.Mark.{Mark}
use Rattle.write_history.specs.declared.mark.Mark.TheVariants.{Clean, Fault, FaultAfter}
use Rattle.set_agenda.specs.declared.group.Group.{Group}
use Rattle.scenario.specs.declared.op.Op.{Op}
use Rattle.scenario.specs.declared.op.Op.TheVariants.{Tick, DeleteSet, DeleteImage}
use Rattle.scenario.specs.Calls.{Target, target_of}
use Rattle.scenario.specs.Plan.{Plan}
use Rattle.vss_model.specs.declared.event.Event.TheVariants.{Line, Provider, Idle}
use Rattle.vss_model.specs.Reply.{Reply, Fine, Faulted, FaultedAfter, Deleted, Stepped, Idled}
use Rattle.vss_model.specs.State.{State}
use Rattle.vss_model.specs.Acts.{Act, enabled, reply, after, state}
use Rattle.vss_model.specs.Causes.{is_fault, is_flush_step}
use Rattle.vss_model.specs.Effects.{volumes_losing}

-- what a device did to a write
abbrev pub answer_of : Mark → Reply
answer_of Clean = Fine
answer_of Fault = Faulted
answer_of (FaultAfter k) = FaultedAfter k

-- so many volumes had an image of set n and have none any more, which is at least one
abbrev pub AreGone : ℕ → ℕ → State → State → Type 0
AreGone k n st after_it = (0 < k) × (k ≡ length (volumes_losing n 0 st.volumes after_it.volumes))

pub record AnswersSay (s : Plan) (so_far : List Act) (act : Act) : Type 0 where
  pub written : (lane : ℕ) (op : Op) (t : Target) → act.event ≡ Line lane op → target_of op ≡ Some t → reply s (state s so_far) act ≡ answer_of act.mark
  pub ticked : (lane n : ℕ) → act.event ≡ Line lane (Tick n) → reply s (state s so_far) act ≡ Fine
  pub idled : (n : ℕ) → act.event ≡ Idle → enabled s (state s so_far) act.event ≡ true → reply s (state s so_far) act ≡ Idled n
      → (after s (state s so_far) act).clock ≡ (state s so_far).clock + n
  pub stepped : (g : Group) (v : Option ℕ) (fault : Bool) → act.event ≡ Provider → reply s (state s so_far) act ≡ Stepped g v fault
      → fault ≡ (is_flush_step (Some g) && is_fault act.mark)
  pub deleted_set : (lane n k : ℕ) → act.event ≡ Line lane (DeleteSet n) → reply s (state s so_far) act ≡ Deleted k → AreGone k n (state s so_far) (after s (state s so_far) act)
  pub deleted_image : (lane n v k : ℕ) → act.event ≡ Line lane (DeleteImage n v) → reply s (state s so_far) act ≡ Deleted k → AreGone k n (state s so_far) (after s (state s so_far) act)
