use Rattle.std.proofs.Common.{drop}
use Rattle.mirror_volume.specs.Replies.{AreAllowed}
use Rattle.mirror_volume.proofs.allowing.may_be_given.Given as goal

-- where the rest may be given, all may, and the other way round
abbrev pub invariant-loop-command : goal.invariant-loop-command
invariant-loop-command l = record {
  allows : AreAllowed l.blocks l.greatest l.room (drop l.command-index l.commands) → AreAllowed l.blocks l.initial.greatest l.initial.room l.commands;
  leaves : AreAllowed l.blocks l.initial.greatest l.initial.room l.commands → AreAllowed l.blocks l.greatest l.room (drop l.command-index l.commands);
}
