use Rattle.std.specs.Prelude.{map}
use Rattle.vss_play.specs.Made.{IsOpening}
use Rattle.vss_play.proofs.groups.open_sorted.Given as goal

abbrev pub invariant-loop-list : goal.invariant-loop-list
invariant-loop-list g l = IsOpening g.D.Device.told l.scenario l.group (map (λ v. v.items) l.fn.sorted.items) (map (λ v. v.items) l.list-iterator.rest.items) l.groups.items
