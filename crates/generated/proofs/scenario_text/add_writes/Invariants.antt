use Rattle.std.proofs.Common.{◌≡◌, ◌-◌, ◌++◌}
use Rattle.generated.proofs.Terms.{flat_map, range_with_len, drawn_text, writes_text}
use Rattle.generated.proofs.scenario_text.add_writes.Given as goal

-- what is written and what is still to come
abbrev pub invariant-loop-k : goal.invariant-loop-k
invariant-loop-k l = record {
  number : l.draws.number ≡ l.number;
  lane : l.draws.lane ≡ l.lane;
  drawn : l.draws.drawn ≡ l._k;
  written : l.out.bytes ++ flat_map (drawn_text l.number l.lane) (range_with_len l._k (200 - l._k)) ≡ l.initial.out.bytes ++ writes_text l.number l.lane;
}
