use Rattle.std.proofs.Common.{◌≡◌, ◌-◌, ◌<◌, ◌≤◌, ℕ, length}
use Rattle.writer_calls.specs.Mailbox.{closed, mailbox_at}
use Rattle.coordinator.proofs.posting.close_all.Given as goal

-- the writers before this one have no open order, and the others are as they were
abbrev pub invariant-loop-writer : goal.invariant-loop-writer
invariant-loop-writer l =
    ((w : ℕ) → w < l.writer → mailbox_at l.mailboxes w ≡ closed (mailbox_at l.initial.mailboxes w))
    × (((w : ℕ) → l.writer ≤ w → mailbox_at l.mailboxes w ≡ mailbox_at l.initial.mailboxes w) × (length l.mailboxes ≡ 64))

abbrev pub decreases-loop-writer : goal.decreases-loop-writer
decreases-loop-writer l = 64 - l.writer
