use Rattle.std.proofs.Common.{◌≡◌, ◌∙◌, ℕ, ap, subst, length, arith}
use Rattle.std.proofs.lemmas.Bool.Decides.{nat_tests}
use Rattle.cow_volume.specs.CopiesAfter.{after_gone, after_gone_on}
use Rattle.cow_volume.proofs.RecordCounts.{part_none, part_more, part_all}
use Rattle.cow_volume.proofs.MakingRoom.{gone_nothing}
use Rattle.cow_volume.proofs.copies.Copies.drop_up_to.Goals as goal

pub returns-then-set-eq0 : goal.returns-then-set-eq0
returns-then-set-eq0 g c =
    let none : 0 ≡ c.args.set = grind (arith, nat_tests) in
    subst (λ (n : ℕ). c.args.self.now ≡ after_gone c.args.self.now n) none (gone_nothing c.args.self.now c.slots-facts.ensures.valid c.volumes-facts.ensures.of_images)

pub loop-v-init : goal.loop-v-init
loop-v-init g c = part_none c.args.self.now c.args.set

pub drop_up_to_on-requires : goal.drop_up_to_on-requires
drop_up_to_on-requires g c =
    let test = c.loop-v-test.true in
    let end = c.volumes-v-end.ensures.volumes in
    let same = ap (λ x. length x.area.volumes) c.loop-v.invariant in
    omega arith

pub loop-v-preserved : goal.loop-v-preserved
loop-v-preserved g c = c.drop_up_to_on.ensures ∙ ap (λ x. after_gone_on x c.loop-v.v c.args.set) c.loop-v.invariant ∙ part_more c.args.self.now c.loop-v.v c.args.set

pub returns : goal.returns
returns g c =
    let test = c.loop-v-test.false in
    let upper = c.loop-v.auto.v-end in
    let end = c.volumes-v-end.ensures.volumes in
    c.loop-v.invariant ∙ part_all c.args.self.now c.args.set c.loop-v.v c.slots-facts.ensures.valid c.volumes-v-end.ensures.images (omega arith)
