use Rattle.std.proofs.Common.{◌≤◌, length, vec_capacity}
use Rattle.vss_recover.proofs.TakenUp.{AreNoted}
use Rattle.vss_recover.proofs.entries.note_used.Given as goal

-- the slots so far are noted
abbrev pub invariant-loop-slot : goal.invariant-loop-slot
invariant-loop-slot g l = record {
  noted : AreNoted l.area.records l.slot l.entries.items;
  room : length l.area.records ≤ vec_capacity l.entries;
}
