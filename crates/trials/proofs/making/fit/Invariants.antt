use Rattle.std.proofs.Common.{◌≡◌, map, take}
use Rattle.trials.specs.Devices.{size_of}
use Rattle.trials.proofs.making.fit.Given as goal

-- the first devices have the blocks of the first volumes
abbrev pub invariant-loop-v : goal.invariant-loop-v
invariant-loop-v l = take l.v (map size_of l.devices) ≡ take l.v l.area.volumes
