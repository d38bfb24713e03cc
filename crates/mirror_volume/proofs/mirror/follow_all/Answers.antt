use Rattle.std.proofs.Common.{◌<◌, ◌≤◌, ◌∙◌, Some, ap, sym, arith, length, get_or}
use Rattle.mirror_volume.proofs.Keeping.{at_place, one_more, all_followed}
use Rattle.mirror_volume.proofs.mirror.follow_all.Goals as goal

pub follow-requires-clause-in_range : goal.follow-requires-clause-in_range
follow-requires-clause-in_range g c =
    let within : c.loop-mirror.mirror-index < length c.loop-mirror.mirrors = (let test = c.loop-mirror-test.true in let long = c.loop-mirror.invariant.long in omega arith) in
    let at = at_place c.loop-mirror.mirrors c.loop-mirror.mirror-index c.mirror-item.result within c.mirror-item.is ∙ ap Some c.mirror-item.is in
    let same : c.loop-mirror.mirror-index ≤ c.loop-mirror.mirror-index = omega arith in
    (c.requires.places c.loop-mirror.mirror-index (get_or c.loop-mirror.mirrors c.loop-mirror.mirror-index c.mirror-item.result)
    (sym (c.loop-mirror.invariant.rest c.loop-mirror.mirror-index same) ∙ at)).0

pub follow-requires-clause-place : goal.follow-requires-clause-place
follow-requires-clause-place g c =
    let within : c.loop-mirror.mirror-index < length c.loop-mirror.mirrors = (let test = c.loop-mirror-test.true in let long = c.loop-mirror.invariant.long in omega arith) in
    let at = at_place c.loop-mirror.mirrors c.loop-mirror.mirror-index c.mirror-item.result within c.mirror-item.is ∙ ap Some c.mirror-item.is in
    let same : c.loop-mirror.mirror-index ≤ c.loop-mirror.mirror-index = omega arith in
    (c.requires.places c.loop-mirror.mirror-index (get_or c.loop-mirror.mirrors c.loop-mirror.mirror-index c.mirror-item.result)
    (sym (c.loop-mirror.invariant.rest c.loop-mirror.mirror-index same) ∙ at)).1

pub loop-mirror-preserved : goal.loop-mirror-preserved
loop-mirror-preserved g c =
    let within : c.loop-mirror.mirror-index < length c.loop-mirror.mirrors = (let test = c.loop-mirror-test.true in let long = c.loop-mirror.invariant.long in omega arith) in
    let at = at_place c.loop-mirror.mirrors c.loop-mirror.mirror-index c.mirror-item.result within c.mirror-item.is ∙ ap Some c.mirror-item.is in
    one_more g.D.Device c.args.block c.args.bytes.now c.loop-mirror.mirror-index c.args.mirrors.now c.loop-mirror.mirrors
    (get_or c.loop-mirror.mirrors c.loop-mirror.mirror-index c.mirror-item.result) c.follow.new.self c.loop-mirror.invariant at c.follow.ensures

pub returns : goal.returns
returns g c = all_followed g.D.Device c.args.block c.args.bytes.now c.loop-mirror.mirror-index c.args.mirrors.now c.loop-mirror.mirrors c.loop-mirror.invariant
    (let test = c.loop-mirror-test.false in let long = c.loop-mirror.invariant.long in omega arith)
