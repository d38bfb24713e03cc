use Rattle.std.proofs.Common.{take}
use Rattle.vss_play.specs.Acting.{IsLedBy}
use Rattle.orders.specs.Followed.{actors_of}
use Rattle.orders.proofs.following.follow.Given as goal

abbrev pub invariant-loop-entry : goal.invariant-loop-entry
invariant-loop-entry g l = IsLedBy g.D.Device l.fn.play (actors_of (take l.entry-index l.entries)) l.play
