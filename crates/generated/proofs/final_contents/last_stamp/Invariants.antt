use Rattle.std.proofs.Common.{◌≡◌}
use Rattle.generated.proofs.Terms.{zeros, last_bytes, writes_to}
use Rattle.generated.proofs.Ranges.{left_in}
use Rattle.generated.proofs.final_contents.last_stamp.Given as goal

-- what was found, and what is still to come
abbrev pub invariant-loop-k : goal.invariant-loop-k
invariant-loop-k l = record {
  number : l.draws.number ≡ l.number;
  lane : l.draws.lane ≡ l.lane;
  drawn : l.draws.drawn ≡ l._k;
  found : left_in l.number l.lane l.volume l.block l._k l.found ≡ last_bytes l.block zeros (writes_to l.number l.lane l.volume);
}
