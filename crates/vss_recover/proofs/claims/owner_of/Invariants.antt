use Rattle.std.proofs.Common.{◌≡◌, drop}
use Rattle.vss_recover.specs.Steps.{owner_of}
use Rattle.vss_recover.proofs.claims.owner_of.Given as goal

-- the owner is that by the claims that are left
abbrev pub invariant-loop-claim : goal.invariant-loop-claim
invariant-loop-claim l = owner_of l.claims l.block ≡ owner_of (drop l.claim-index l.claims) l.block
