use Rattle.std.proofs.Common.{◌≡◌, ◌≤◌, ◌+◌, ◌-◌, ◌*◌, length, drop}
use Rattle.vss_catalog.specs.Reading.{entries_in}
use Rattle.vss_catalog.proofs.Steps.{after}
use Rattle.vss_catalog.proofs.reading.entries_in.Given as goal

-- the entries so far, and then those that are left
abbrev pub invariant-loop-v : goal.invariant-loop-v
invariant-loop-v l = record {
  read : entries_in l.count 0 12 l.rest ≡ after l.entries.items (entries_in (l.count - l.v) l.v (12 + l.from) (drop l.from l.rest));
  many : length l.entries.items ≡ l.v;
  near : l.from ≤ 2092 * l.v;
}
