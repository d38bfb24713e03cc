-- What holds once a backup says that it is over. (This project's own.)
use Rattle.std.specs.Prelude.{Option, Some, None}
use Rattle.backup_ledger.specs.Deeds.{LedgerValue, IsEnded}
use Rattle.backup.specs.declared.driving.next.Next.{Next}
use Rattle.backup.specs.declared.driving.next.Next.TheVariants.{Waits, GoesOn, Over}

-- if it is over, it is ended: a set is kept, or each writer that takes part was told of the abort
abbrev pub IsEndedIf : Option Next → LedgerValue → Type 0
IsEndedIf (Some Over) l = IsEnded l
IsEndedIf (Some Waits) l = Unit {0}
IsEndedIf (Some GoesOn) l = Unit {0}
IsEndedIf None l = Unit {0}
