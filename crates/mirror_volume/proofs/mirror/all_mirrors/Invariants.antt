use Rattle.std.proofs.Common.{◌≡◌, map}
use Rattle.mirror_volume.specs.Mirrors.{mirror_over}
use Rattle.mirror_volume.proofs.mirror.all_mirrors.Given as goal

-- the mirrors of the devices so far
abbrev pub invariant-loop-device : goal.invariant-loop-device
invariant-loop-device g l = l.mirrors.items ≡ map (mirror_over l.stale l.blocks) l.yielded
