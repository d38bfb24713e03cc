use Rattle.std.proofs.Common.{◌≡◌, ◌+◌, ◌-◌, ◌*◌, length, drop}
use Rattle.vss_catalog.specs.Reading.{sets_in}
use Rattle.vss_catalog.proofs.Steps.{after}
use Rattle.vss_catalog.proofs.reading.sets_in.Given as goal

-- the sets so far, and then those that are left
abbrev pub invariant-loop-k : goal.invariant-loop-k
invariant-loop-k l = record {
  read : sets_in l.v l.count 0 l.at l.rest ≡ after l.sets.items (sets_in l.v (l.count - l.k) l.last (l.at + 4 * l.k) (drop (4 * l.k) l.rest));
  many : length l.sets.items ≡ l.k;
}
