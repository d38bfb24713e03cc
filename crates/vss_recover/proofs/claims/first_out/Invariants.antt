use Rattle.std.proofs.Common.{ℕ, ◌≡◌, ◌<◌, true, Some}
use Rattle.std.specs.Prelude.{slice_get}
use Rattle.vss_recover.specs.declared.claim.Claim.{Claim}
use Rattle.vss_recover.specs.Steps.{is_within}
use Rattle.vss_recover.proofs.claims.first_out.Given as goal

-- those so far are within
abbrev pub invariant-loop-k : goal.invariant-loop-k
invariant-loop-k l = (i : ℕ) (c : Claim) → i < l.k → slice_get l.claims i ≡ Some c → is_within l.blocks c ≡ true
