use Rattle.std.proofs.Common.{Some}
use Rattle.diff_map.specs.Counts.{used_for}
use Rattle.diff_map.specs.Rules.{merged}
use Rattle.diff_map.proofs.Renewing.{IsRenewingMap}
use Rattle.diff_map.proofs.diff_map.DiffMap.hand_down.Given as goal

abbrev pub invariant-copies : goal.invariant-copies
invariant-copies l = IsRenewingMap (merged l.initial.self.copies (Some l.older) l.set) l.initial.self l.self l.initial.pool l.pool

abbrev pub decreases-copies : goal.decreases-copies
decreases-copies l = used_for l.self.copies l.set
