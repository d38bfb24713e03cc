use Rattle.std.proofs.Common.{◌≡◌, length}
use Rattle.std.specs.List.{All}
use Rattle.volume_device.specs.declared.mem_device.MemDevice.{MemDevice}
use Rattle.trials.specs.Devices.{IsZeroed, size_of}
use Rattle.trials.proofs.making.mirrors.Given as goal

-- so many devices of zeros, each of the primary's blocks
abbrev pub invariant-loop-place : goal.invariant-loop-place
invariant-loop-place l = record {
  count : length l.mirrors.items ≡ l.place-counter;
  sized : All (λ (d : MemDevice). size_of d ≡ size_of l.primary) l.mirrors.items;
  zero : All IsZeroed l.mirrors.items;
}
