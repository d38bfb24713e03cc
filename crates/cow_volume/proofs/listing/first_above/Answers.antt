use Rattle.std.proofs.Common.{◌≡◌, ◌<◌, ◌≤◌, ◌-◌, length, get_or, ap, subst, arith, ℕ, inl, inr}
use Rattle.std.proofs.lemmas.Bool.{cases_lt}
use Rattle.std.proofs.lemmas.List.{get_or_default}
use Rattle.std.specs.List.{AllWithin}
use Rattle.cow_volume.proofs.Listed.{first_none, first_at}
use Rattle.cow_volume.proofs.listing.first_above.Goals as goal

pub returns-then-at-sets : goal.returns-then-at-sets
returns-then-at-sets c = first_none c.args.above c.args.sets.now (subst (λ (n : ℕ). AllWithin (λ s. s ≤ c.args.above) c.args.sets.now 0 n) c.if-at-sets.true c.place_after-at.ensures.before)

pub returns : goal.returns
returns c =
    let within = c.place_after-at.ensures.within in
    let inside : c.place_after-at.result < length c.args.sets.now = omega arith in
    first_at c.args.above c.place_after-at.result c.args.sets.now inside c.place_after-at.ensures.before (c.place_after-at.ensures.onward c.place_after-at.result 0 (omega arith) inside)

pub returns-then-above-sets : goal.returns-then-above-sets
returns-then-above-sets c =
    let sets = c.args.sets.now in
    let older = c.args.near - 1 in
    let few = c.if-near-gt0.true in
    let inside = c.if-near-sets.true in
    let past = c.if-sets-near.true in
    first_at c.args.above c.args.near sets inside (λ k d low within. (
    let same : get_or sets older 0 ≡ get_or sets older d = get_or_default sets older 0 d (omega arith) in
    elim (cases_lt k older) [
      | inl less ↦ let rises = c.requires k older d less (omega arith) in omega arith
      | inr last ↦ let is : get_or sets k d ≡ get_or sets older d = ap (λ (n : ℕ). get_or sets n d) (omega arith) in omega arith
    ])) c.if-above-sets.true
