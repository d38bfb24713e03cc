use Rattle.std.proofs.Common.{◌≡◌}
use Rattle.std.specs.List.{AllWithin}
use Rattle.diff_map.specs.declared.image_count.ImageCount.{ImageCount}
use Rattle.diff_map.proofs.counts.first_used.Given as goal

-- the images so far have no copy
abbrev pub invariant-loop-count : goal.invariant-loop-count
invariant-loop-count l = AllWithin (λ (c : ImageCount). c.used ≡ 0) l.counts 0 l.count-index
