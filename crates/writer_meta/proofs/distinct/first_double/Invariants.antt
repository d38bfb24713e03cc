use Rattle.std.proofs.Common.{◌≡◌, ℕ, List, [], drop, map, Vec}
use Rattle.std.specs.HashSet.{contains}
use Rattle.std.specs.List.{list_any}
use Rattle.std.specs.Str.{bytes_eq}
use Rattle.std.specs.declared.alloc.Global.{Global}
use Rattle.writer_meta.specs.Metadata.{part_of}
use Rattle.writer_meta.specs.Document.{double_after}
use Rattle.writer_meta.proofs.distinct.first_double.Given as goal

-- the set has the names so far, after which the components that are left say which is the first double
abbrev pub invariant-loop-component : goal.invariant-loop-component
invariant-loop-component l =
    (so_far : List (List ℕ))
    × ((q : Vec ℕ Global) → contains (λ x y. bytes_eq x.items y.items) l.names q ≡ list_any (λ name. bytes_eq name q.items) so_far)
    × (double_after [] (map part_of l.components) ≡ double_after so_far (map part_of (drop l.component-index l.components)))
