use Rattle.vss_shards.proofs.Lists.{Agree}
use Rattle.vss_shards.proofs.gathering.compare.Given as goal

-- the list agrees with the journal so far
abbrev pub invariant-loop-entry : goal.invariant-loop-entry
invariant-loop-entry l = Agree l.volume l.listed l.journal l.entry-index l.at
