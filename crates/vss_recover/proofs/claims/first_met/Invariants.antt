use Rattle.std.proofs.Common.{ℕ, ◌≡◌, ◌<◌, false, Some}
use Rattle.std.specs.Prelude.{slice_get}
use Rattle.vss_recover.specs.declared.claim.Claim.{Claim}
use Rattle.vss_recover.specs.Steps.{meet}
use Rattle.vss_recover.proofs.claims.first_met.Given as goal

-- those so far do not meet it
abbrev pub invariant-loop-i : goal.invariant-loop-i
invariant-loop-i l = (k : ℕ) (c : Claim) → k < l.i → slice_get l.claims k ≡ Some c → meet c l.later ≡ false
