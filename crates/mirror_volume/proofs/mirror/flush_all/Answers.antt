use Rattle.std.proofs.Common.{◌<◌, ◌∙◌, Some, ap, refl, arith, length, get_or}
use Rattle.std.proofs.lemmas.Result.{err_from_is_err_and}
use Rattle.mirror_volume.proofs.Keeping.{at_place}
use Rattle.mirror_volume.proofs.Flushing.{one_called, one_flushed, all_last, cause_err}
use Rattle.mirror_volume.proofs.mirror.flush_all.Goals as goal

pub returns-in_err-flush-clause-called : goal.returns-in_err-flush-clause-called
returns-in_err-flush-clause-called g c =
    let within : c.loop-mirror.mirror-index < length c.loop-mirror.mirrors = (let test = c.loop-mirror-test.true in let long = c.loop-mirror.invariant.called.long in omega arith) in
    let at = at_place c.loop-mirror.mirrors c.loop-mirror.mirror-index c.mirror-item.result within c.mirror-item.is ∙ ap Some c.mirror-item.is in
    one_called g.D.Device c.args.mirrors.now c.loop-mirror.mirrors c.loop-mirror.mirror-index
    (get_or c.loop-mirror.mirrors c.loop-mirror.mirror-index c.mirror-item.result) c.flush.new.self c.loop-mirror.invariant.called at c.in_err-flush.ensures.called

pub returns-in_err-flush-clause-cause : goal.returns-in_err-flush-clause-cause
returns-in_err-flush-clause-cause g c =
    let within : c.loop-mirror.mirror-index < length c.loop-mirror.mirrors = (let test = c.loop-mirror-test.true in let long = c.loop-mirror.invariant.called.long in omega arith) in
    let at = at_place c.loop-mirror.mirrors c.loop-mirror.mirror-index c.mirror-item.result within c.mirror-item.is ∙ ap Some c.mirror-item.is in
    let p = err_from_is_err_and c.from_residual.result c.from_residual.ensures.1 in
    rw (p.1, p.2) (λ own. cause_err g.D.Device own c.loop-mirror.mirror-index c.args.mirrors.now c.loop-mirror.mirrors
    (get_or c.loop-mirror.mirrors c.loop-mirror.mirror-index c.mirror-item.result) c.flush.new.self _ c.loop-mirror.invariant at
    c.in_err-flush.ensures.cause.later (c.in_err-flush.ensures.cause.rose refl))

pub loop-mirror-preserved : goal.loop-mirror-preserved
loop-mirror-preserved g c =
    let within : c.loop-mirror.mirror-index < length c.loop-mirror.mirrors = (let test = c.loop-mirror-test.true in let long = c.loop-mirror.invariant.called.long in omega arith) in
    let at = at_place c.loop-mirror.mirrors c.loop-mirror.mirror-index c.mirror-item.result within c.mirror-item.is ∙ ap Some c.mirror-item.is in
    one_flushed g.D.Device c.loop-mirror.mirror-index c.args.mirrors.now c.loop-mirror.mirrors
    (get_or c.loop-mirror.mirrors c.loop-mirror.mirror-index c.mirror-item.result) c.flush.new.self c.loop-mirror.invariant at
    c.in_ok-flush.ensures.called c.in_ok-flush.ensures.lasts c.in_ok-flush.ensures.cause.same

pub returns-clause-last : goal.returns-clause-last
returns-clause-last g c =
    all_last g.D.Device c.loop-mirror.mirror-index c.args.mirrors.now c.loop-mirror.mirrors c.loop-mirror.invariant
    (let test = c.loop-mirror-test.false in let long = c.loop-mirror.invariant.called.long in omega arith)
