use Rattle.std.proofs.Common.{◌<◌, ◌∙◌, length, ap, sym, arith}
use Rattle.cow_volume.specs.Calls.{sets_in, is_among}
use Rattle.cow_volume.proofs.GroupReverts.{among_none, among_here}
use Rattle.cow_volume.proofs.reads.has_image.Goals as goal

pub returns-then-at-sets-clause-among : goal.returns-then-at-sets-clause-among
returns-then-at-sets-clause-among g c =
    among_none c.args.set c.place_from-at.result c.images-sets.result.now c.images-sets.ensures.valid.ascend c.place_from-at.ensures.before c.place_from-at.ensures.onward c.if-at-sets.true
    ∙ ap (is_among c.args.set) (sym (ap sets_in c.images-sets.ensures.images))

pub returns-clause-among : goal.returns-clause-among
returns-clause-among g c =
    let within = c.place_from-at.ensures.within in
    let inside : c.place_from-at.result < length c.images-sets.result.now = omega arith in
    among_here c.args.set c.place_from-at.result c.images-sets.result.now c.images-sets.ensures.valid.ascend c.place_from-at.ensures.before c.place_from-at.ensures.onward inside
    ∙ ap (is_among c.args.set) (sym (ap sets_in c.images-sets.ensures.images))
