-- What writers owe: `gather` asks each writer of a class that is not disabled to identify itself, `prepare` asks each that it makes take part
-- for its consent, and `complete` tells each that takes part and has not failed. The session comes on only when each of them was heard, or
-- its answer was lost; and after `prepare`, when each has said ok. (The orders are the SDK's OnIdentify, OnPrepareBackup and
-- OnBackupComplete; that all of these are waited for is this project's own.)
use Rattle.std.specs.Prelude.{ℕ, ◌≡◌, ◌==◌, ◌&&◌, not, if◌then◌else◌, Bool, true, false, List, [], ◌∷◌, ◌++◌, Some}
use Rattle.std.specs.List.{list_any}
use Rattle.vss_names.specs.declared.order.Order.{Order}
use Rattle.vss_names.specs.declared.order.Order.TheVariants.{Identify, PrepareBackup, BackupComplete}
use Rattle.writer_state.specs.declared.said.Said.{Said}
use Rattle.writer_state.specs.WriterState.{is_ok}
use Rattle.set_agenda.specs.Agenda.{same_order}
use Rattle.set_agenda.specs.Course.{is_member, has_row_failed}
use Rattle.requestor.specs.Session.{Session}
use Rattle.scenario.specs.declared.op.Op.{Op}
use Rattle.scenario.specs.declared.op.Op.TheVariants.{Gather, Prepare, Complete}
use Rattle.scenario.specs.Plan.{Plan}
use Rattle.vss_model.specs.declared.event.Event.{Event}
use Rattle.vss_model.specs.declared.event.Event.TheVariants.{Line}
use Rattle.vss_model.specs.Reply.{Reply, is_pending}
use Rattle.vss_model.specs.Steps.{runs}
use Rattle.vss_model.specs.Acts.{Act, enabled, reply, after, state}
use Rattle.promises.specs.Accepted.{Step, ByGather, ByPrepare, ByComplete, is_step, progress}
use Rattle.promises.specs.Participants.{is_writer, is_chosen, is_unfit, choosing}
use Rattle.promises.specs.Way.{Deed, Spoke, Made, deeds_of}

-- what a session asks of writers outside the snapshot
pub data Asking : Type 0 where
  ToIdentify : Asking
  ForConsent : Asking
  AtCompletion : Asking

abbrev pub order_for : Asking → Order
order_for ToIdentify = Identify
order_for ForConsent = PrepareBackup
order_for AtCompletion = BackupComplete

-- the line that asks it
abbrev pub asks : Op → Asking → Bool
asks Gather ToIdentify = true
asks Prepare ForConsent = true
asks Complete AtCompletion = true
asks op asking = false

abbrev pub event_asks : Event → Asking → Bool
event_asks (Line lane op) asking = asks op asking
event_asks event asking = false

-- and how far the session has come with it
abbrev pub step_for : Asking → Step
step_for ToIdentify = ByGather
step_for ForConsent = ByPrepare
step_for AtCompletion = ByComplete

-- it is asked of writer w
abbrev pub is_asked_of : ℕ → Asking → Plan → List Act → Bool
is_asked_of w ToIdentify s so_far = is_writer s w && not (choosing s w so_far).disabled
is_asked_of w ForConsent s so_far = is_writer s w && is_chosen (is_unfit (state s so_far) w) (choosing s w so_far)
is_asked_of w AtCompletion s so_far = is_member (state s so_far).course.members w && not (has_row_failed (state s so_far).course.rows w)

-- consent is an ok; elsewhere whatever is said counts, and the loss of the answer too
abbrev pub counts : Asking → Said → Bool
counts ForConsent said = is_ok said
counts asking said = true

-- writer w is heard
abbrev pub is_reply : Asking → ℕ → Deed → Bool
is_reply asking w (Spoke order u said now) = same_order order (order_for asking) && (counts asking said && (u == w))
is_reply asking w (Made g v now) = false

-- whether writer w owes an answer after an act, by whether it owed one before
abbrev pub owes_after : Asking → ℕ → Plan → List Act → Event → Reply → ℕ → Bool → Bool
owes_after asking w s so_far event told now c =
    (if event_asks event asking && is_pending told then is_asked_of w asking s so_far else c)
    && not (list_any (is_reply asking w) (deeds_of (state s so_far) event now told))

abbrev pub owes_if : Bool → Asking → ℕ → Plan → List Act → Act → Bool → Bool
owes_if true asking w s so_far act c = owes_after asking w s so_far act.event (reply s (state s so_far) act) (after s (state s so_far) act).clock c
owes_if false asking w s so_far act c = c

abbrev pub owes_from : Asking → ℕ → Plan → List Act → Bool → List Act → Bool
owes_from asking w s before c [] = c
owes_from asking w s before c (act ∷ acts) = owes_from asking w s (before ++ act ∷ []) (owes_if (enabled s (state s before) act.event) asking w s before act c) acts

-- writer w owes an answer after these acts
abbrev pub owes : Asking → ℕ → Plan → List Act → Bool
owes asking w s acts = owes_from asking w s [] false acts

-- where the session has come so far and no agenda runs, nobody owes one
abbrev pub NobodyOwes : Plan → List Act → Type 0
NobodyOwes s so_far = (asking : Asking) (w : ℕ) (q : Session) → (state s so_far).session ≡ Some q → runs (state s so_far) ≡ false → is_step (progress s so_far).step (step_for asking) ≡ true
    → owes asking w s so_far ≡ false
