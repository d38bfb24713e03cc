use Rattle.std.proofs.Common.{◌∙◌, sym, ap, subst, List, ℕ, ◌<◌, ◌+◌, length, arith}
use Rattle.cow_volume.specs.Calls.{sets_in}
use Rattle.cow_volume.specs.CopiesAfter.{images_on}
use Rattle.diff_map.specs.Copies.{newest}
use Rattle.cow_volume.proofs.MakingRoom.{IsLeastSoFar, first_none, first_more, first_all}
use Rattle.cow_volume.proofs.copies.Copies.first_to_free.Goals as goal

pub newest-least-requires : goal.newest-least-requires
newest-least-requires g c = subst (λ (sets : List ℕ). 0 < length sets) (ap sets_in c.images.ensures.images) c.requires.some

pub loop-u-init : goal.loop-u-init
loop-u-init g c = first_none c.args.self.now.area.records (images_on c.args.self.now c.args.v) c.newest-least.result (c.newest-least.ensures ∙ ap newest (sym (ap sets_in c.images.ensures.images)))

pub loop-u-preserved : goal.loop-u-preserved
loop-u-preserved g c =
    let records = c.args.self.now.area.records in
    let sets = images_on c.args.self.now c.args.v in
    subst (λ (n : ℕ). IsLeastSoFar records sets n (c.loop-u.u + 1)) (sym c.lesser-least.ensures)
    (first_more records sets c.loop-u.least c.loop-u.u c.oldest_used.result c.loop-u.invariant c.oldest_used.ensures)

pub returns : goal.returns
returns g c =
    let test = c.loop-u-test.false in
    let end = c.volumes-u-end.ensures.volumes in
    first_all c.args.self.now.area.volumes c.args.self.now.area.records (images_on c.args.self.now c.args.v) c.loop-u.least c.loop-u.u c.slots-facts.ensures.valid c.requires.full c.loop-u.invariant
    (omega arith)
