use Rattle.std.proofs.Common.{◌≡◌, ◌+◌, ◌*◌, ◌≤◌, ◌++◌, drop}
use Rattle.std.specs.List.{flat_map}
use Rattle.vss_report.specs.Words.{evicted_text}
use Rattle.vss_report.proofs.effects.add_all_evicted.Given as goal

-- what is written and what is still to come, and the room that was taken
abbrev pub invariant-loop-image : goal.invariant-loop-image
invariant-loop-image l =
    (l.out.bytes ++ flat_map (evicted_text l.scenario) (drop l.image-index l.evicted) ≡ l.initial.out.bytes ++ flat_map (evicted_text l.scenario) l.evicted)
    × (l.initial.out.spare ≤ l.out.spare + 54 * l.image-index)
