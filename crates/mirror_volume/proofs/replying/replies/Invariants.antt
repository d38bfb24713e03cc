use Rattle.std.proofs.Common.{◌≤◌, length, vec_capacity}
use Rattle.mirror_volume.proofs.HavingSaid.{HaveSaid}
use Rattle.mirror_volume.proofs.replying.replies.Given as goal

-- the first commands were given, and there is room for what is said to the others
abbrev pub invariant-loop-command : goal.invariant-loop-command
invariant-loop-command g l = record {
  have : HaveSaid g.V.ImageVolume.stands g.V.ImageVolume.tells g.V.ImageVolume.size g.V.ImageVolume.slots g.V.ImageVolume.ready_for g.V.ImageVolume.count g.V.ImageVolume.sets g.V.ImageVolume.per_cut
      l.fn.volume l.volume l.commands l.command-index l.said.items;
  room : length l.commands ≤ vec_capacity l.said;
}
