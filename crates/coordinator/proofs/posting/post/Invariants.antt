use Rattle.std.proofs.Common.{◌≡◌, ◌-◌, ◌<◌, ◌≤◌, ℕ, length}
use Rattle.writer_calls.specs.Mailbox.{mailbox_at}
use Rattle.set_agenda.specs.Agenda.{open_order}
use Rattle.coordinator.specs.KeptCourse.{left_now}
use Rattle.coordinator.specs.OpenOrders.{posted_to}
use Rattle.coordinator.proofs.posting.post.Given as goal

-- the writers before this one are posted to, and the others are not yet
abbrev pub invariant-loop-writer : goal.invariant-loop-writer
invariant-loop-writer l =
    ((w : ℕ) → w < l.writer → mailbox_at l.mailboxes w ≡ posted_to l.elsewhere (open_order (left_now l.running) w) (mailbox_at l.initial.mailboxes w))
    × (((w : ℕ) → l.writer ≤ w → mailbox_at l.mailboxes w ≡ mailbox_at l.initial.mailboxes w) × (length l.mailboxes ≡ 64))

abbrev pub decreases-loop-writer : goal.decreases-loop-writer
decreases-loop-writer l = 64 - l.writer
