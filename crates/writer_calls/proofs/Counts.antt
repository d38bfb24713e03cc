-- An order that is sent counts once, and for its kind alone.
use Rattle.std.proofs.Common.{◌≡◌, ◌+◌, arith}
use Rattle.vss_names.specs.declared.order.Order.{Order}
use Rattle.vss_names.specs.declared.order.Order.TheVariants.{Identify, PrepareBackup, PrepareSnapshot, Freeze, Thaw, PostSnapshot, BackupComplete}
use Rattle.writer_calls.specs.declared.order_counts.OrderCounts.{OrderCounts}
use Rattle.writer_calls.specs.Mailbox.{one_more, total}

pub total-one_more : (o : Order) (c : OrderCounts) → total (one_more o c) ≡ total c + 1
total-one_more Identify c = omega arith
total-one_more PrepareBackup c = omega arith
total-one_more PrepareSnapshot c = omega arith
total-one_more Freeze c = omega arith
total-one_more Thaw c = omega arith
total-one_more PostSnapshot c = omega arith
total-one_more BackupComplete c = omega arith
