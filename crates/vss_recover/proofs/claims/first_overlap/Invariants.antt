use Rattle.vss_recover.specs.Steps.{AreApartBelow}
use Rattle.vss_recover.proofs.claims.first_overlap.Given as goal

-- those so far are apart
abbrev pub invariant-loop-second : goal.invariant-loop-second
invariant-loop-second l = AreApartBelow l.claims l.second
