use Rattle.std.proofs.Common.{◌≡◌, true, take}
use Rattle.backup_ledger.specs.Deeds.{all_told}
use Rattle.backup_ledger.proofs.ledger.Ledger.finish.Given as goal

-- those so far were told
abbrev pub invariant-loop-place : goal.invariant-loop-place
invariant-loop-place g l = (l.self.writers ≡ l.fn.self.writers) × (all_told (take l.place l.self.writers) l.self.deeds ≡ true)
