use Rattle.std.specs.List.{All}
use Rattle.trials.specs.Devices.{IsZeroed}
use Rattle.trials.proofs.making.devices.Given as goal

-- devices of zeros
abbrev pub invariant-loop-place : goal.invariant-loop-place
invariant-loop-place l = All IsZeroed l.devices.items
