-- A writer's mailbox: how many orders of each kind it was sent, and the one that is open, if one is. The order that was
-- sent last has as its number how many orders were sent, and as its nth how many of its kind. An answer is to the open
-- order alone, which it names by its number. (This project's own.)
use Rattle.std.specs.Prelude.{ℕ, ◌+◌, Bool, true, false, List, Option, Some, None, option_map, is_some, Result, Ok, Err, ◌==◌, slice_set, slice_index_or}
use Rattle.vss_names.specs.declared.order.Order.{Order}
use Rattle.vss_names.specs.declared.order.Order.TheVariants.{Identify, PrepareBackup, PrepareSnapshot, Freeze, Thaw, PostSnapshot, BackupComplete}
use Rattle.writer_calls.specs.declared.order_counts.OrderCounts.{OrderCounts}
use Rattle.writer_calls.specs.declared.mailbox.Mailbox.{Mailbox}
use Rattle.writer_calls.specs.declared.standing.Standing.{Standing}
use Rattle.writer_calls.specs.declared.stale_answer.StaleAnswer.{StaleAnswer}

-- ## counts

abbrev pub count_of : Order → OrderCounts → ℕ
count_of Identify c = c.identify
count_of PrepareBackup c = c.prepare_backup
count_of PrepareSnapshot c = c.prepare_snapshot
count_of Freeze c = c.freeze
count_of Thaw c = c.thaw
count_of PostSnapshot c = c.post_snapshot
count_of BackupComplete c = c.backup_complete

-- the orders of all kinds
abbrev pub total : OrderCounts → ℕ
total c =
    c.identify + c.prepare_backup + c.prepare_snapshot + c.freeze + c.thaw + c.post_snapshot + c.backup_complete

-- one order of this kind more
abbrev pub one_more : Order → OrderCounts → OrderCounts
one_more Identify c = record c { identify = c.identify + 1 }
one_more PrepareBackup c = record c { prepare_backup = c.prepare_backup + 1 }
one_more PrepareSnapshot c = record c { prepare_snapshot = c.prepare_snapshot + 1 }
one_more Freeze c = record c { freeze = c.freeze + 1 }
one_more Thaw c = record c { thaw = c.thaw + 1 }
one_more PostSnapshot c = record c { post_snapshot = c.post_snapshot + 1 }
one_more BackupComplete c = record c { backup_complete = c.backup_complete + 1 }

abbrev pub no_orders : OrderCounts
no_orders = record {
  identify = 0;
  prepare_backup = 0;
  prepare_snapshot = 0;
  freeze = 0;
  thaw = 0;
  post_snapshot = 0;
  backup_complete = 0;
}

-- ## a mailbox

abbrev pub empty : Mailbox
empty = record { sent = no_orders; open_order = None }

-- the number of the order that was sent last
abbrev pub number_of : Mailbox → ℕ
number_of m = total m.sent

abbrev pub is_open : Mailbox → Bool
is_open m = is_some m.open_order

-- the open order, with its numbers
abbrev pub standing_of : OrderCounts → Order → Standing
standing_of c o = record { number = total c; order = o; nth = count_of o c }

abbrev pub standing : Mailbox → Option Standing
standing m = option_map (standing_of m.sent) m.open_order

-- the mailbox after an order is sent
abbrev pub sent_to : Order → Mailbox → Mailbox
sent_to o m = record { sent = one_more o m.sent; open_order = Some o }

-- the mailbox after the open order is answered or cancelled
abbrev pub closed : Mailbox → Mailbox
closed m = record m { open_order = None }

-- ## an answer

abbrev pub stale : Option ℕ → Result Standing StaleAnswer
stale current = Err (record { current = current })

abbrev pub answer_if : Bool → Standing → Result Standing StaleAnswer
answer_if true s = Ok s
answer_if false s = stale (Some s.number)

-- what an answer to the order of this number comes to, by the order that is open: it is the order answered where it has
-- that number, and stale where it has another or none is open
abbrev pub answer_to : ℕ → Option Standing → Result Standing StaleAnswer
answer_to number None = stale None
answer_to number (Some s) = answer_if (s.number == number) s

-- ## the mailboxes of all writers

abbrev pub mailbox_at : List Mailbox → ℕ → Mailbox
mailbox_at ms w = slice_index_or ms w empty

-- the mailbox of one writer changes
abbrev pub with_mailbox : ℕ → (Mailbox → Mailbox) → List Mailbox → List Mailbox
with_mailbox w f ms = slice_set ms w (f (mailbox_at ms w))
