use Rattle.std.specs.List.{All}
use Rattle.trials.specs.Devices.{IsFresh}
use Rattle.trials.proofs.sharded.volumes.Given as goal

-- volumes of zeros
abbrev pub invariant-loop : goal.invariant-loop
invariant-loop l = All IsFresh l.volumes.items
