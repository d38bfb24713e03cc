use Rattle.std.proofs.Common.{◌≡◌, drop}
use Rattle.vss_shards.specs.Journals.{first_off}
use Rattle.vss_shards.proofs.journal.differing.Given as goal

-- no part so far is off
abbrev pub invariant-loop-part : goal.invariant-loop-part
invariant-loop-part l = first_off l.journal.entries l.parts ≡ first_off l.journal.entries (drop l.part-index l.parts)
