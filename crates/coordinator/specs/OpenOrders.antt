-- The mailboxes that fit a course. A writer was sent an order for each group of orders that opened with it as a member,
-- and its open order is that of the open group, where that waits for it. (This project's own.)
use Rattle.std.specs.Prelude.{ℕ, ◌≡◌, ◌<◌, ◌≤◌, ◌-◌, ◌^◌, Bool, true, false, not, List, ◌&&◌, count_by, Option, Some, None, option_map, Result, Ok, Err}
use Rattle.vss_names.specs.declared.order.Order.{Order}
use Rattle.vss_names.specs.declared.order.Order.TheVariants.{Identify, PrepareBackup, PrepareSnapshot, Freeze, Thaw, PostSnapshot, BackupComplete}
use Rattle.set_agenda.specs.declared.place.Place.{Place}
use Rattle.set_agenda.specs.Agenda.{Open, is_among, is_asked, left, open_order, open_place, same_order, same_place}
use Rattle.set_agenda.specs.Course.{Course, OrderGroup, sent}
use Rattle.writer_calls.specs.declared.mailbox.Mailbox.{Mailbox}
use Rattle.writer_calls.specs.declared.order_counts.OrderCounts.{OrderCounts}
use Rattle.writer_calls.specs.declared.stale_answer.StaleAnswer.{StaleAnswer}
use Rattle.writer_calls.specs.declared.standing.Standing.{Standing}
use Rattle.writer_calls.specs.Mailbox.{closed, mailbox_at, number_of, sent_to}

-- ## counts

-- how many of these groups asked the writer to carry this order out
abbrev pub nth_in : List OrderGroup → ℕ → Order → ℕ
nth_in gs w o = count_by (λ g. same_order g.order o && is_among w g.members) gs

-- how many of these groups asked the writer anything
abbrev pub number_in : List OrderGroup → ℕ → ℕ
number_in gs w = count_by (λ g. is_among w g.members) gs

abbrev pub counts_in : List OrderGroup → ℕ → OrderCounts
counts_in gs w = record {
  identify = nth_in gs w Identify;
  prepare_backup = nth_in gs w PrepareBackup;
  prepare_snapshot = nth_in gs w PrepareSnapshot;
  freeze = nth_in gs w Freeze;
  thaw = nth_in gs w Thaw;
  post_snapshot = nth_in gs w PostSnapshot;
  backup_complete = nth_in gs w BackupComplete;
}

-- ## mailboxes

abbrev pub mailbox_in : List Open → List OrderGroup → ℕ → Mailbox
mailbox_in os gs w = record { sent = counts_in gs w; open_order = open_order os w }

-- the mailboxes of 64 writers, where these groups are left and those have opened so far
abbrev pub AreFit : List Mailbox → List Open → List OrderGroup → Type 0
AreFit ms os gs = (w : ℕ) → w < 64 → mailbox_at ms w ≡ mailbox_in os gs w

-- no writer was sent more orders than n
abbrev pub SentAtMost : ℕ → List Mailbox → Type 0
SentAtMost n ms = (w : ℕ) → w < 64 → number_of (mailbox_at ms w) ≤ n

-- every writer can be sent one order more
abbrev pub HasRoom : List Mailbox → Type 0
HasRoom ms = (w : ℕ) → w < 64 → number_of (mailbox_at ms w) < 2 ^ 32 - 1

-- the order that a writer has to answer, with its number among all its orders and among those of its kind
abbrev pub standing_in : Course → ℕ → Option Standing
standing_in c w = option_map (λ o. record { number = number_in c.opened w; order = o; nth = sent c w o }) (open_order (left c.agenda) w)

-- ## after an act

-- the open group is another than the one at this place
abbrev pub is_elsewhere : Place → List Open → Bool
is_elsewhere p os = not (same_place p (open_place os))

-- the groups left were `os` before an act and are `ps` after it: the writer is asked what it was asked before
abbrev pub stays : List Open → List Open → ℕ → Bool
stays os ps w = same_place (open_place os) (open_place ps) && is_asked w ps

-- the mailbox counts the orders sent so far, and has the open order of a writer that is asked what it was asked before
pub record IsReady (m : Mailbox) (os ps : List Open) (gs : List OrderGroup) (w : ℕ) : Type 0 where
  pub counts : m.sent ≡ counts_in gs w
  pub order : stays os ps w ≡ true → m.open_order ≡ open_order ps w

abbrev pub AreReady : List Mailbox → List Open → List Open → List OrderGroup → Type 0
AreReady ms os ps gs = (w : ℕ) → w < 64 → IsReady (mailbox_at ms w) os ps gs w

-- the mailbox of a writer that has this order to answer, in a group that was not open before, or was
abbrev pub posted_to : Bool → Option Order → Mailbox → Mailbox
posted_to elsewhere None m = closed m
posted_to true (Some o) m = sent_to o (closed m)
posted_to false (Some o) m = m

-- ## answers

-- why a call is refused, where it is
abbrev pub refusal : {X : Type 0} → Result X StaleAnswer → Option StaleAnswer
refusal (Ok x) = None
refusal (Err s) = Some s
