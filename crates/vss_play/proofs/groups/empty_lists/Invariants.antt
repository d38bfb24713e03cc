use Rattle.std.proofs.Common.{◌≡◌, [], replicate}
use Rattle.std.specs.Prelude.{map}
use Rattle.vss_play.proofs.groups.empty_lists.Given as goal

abbrev pub invariant-loop-list : goal.invariant-loop-list
invariant-loop-list g l = map (λ v. v.items) l.lists.items ≡ replicate l._list []
