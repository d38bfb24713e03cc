use Rattle.std.proofs.Common.{◌∙◌, ◌<◌, length, arith}
use Rattle.std.specs.Prelude.{slice_index}
use Rattle.std.proofs.lemmas.Option.{slice_get_within}
use Rattle.image_store.proofs.Calls.{cut_more}
use Rattle.image_store.proofs.Opens.{place_is, get_is}
use Rattle.image_store.proofs.cutting.cut_all.Goals as goal

pub loop-volume-preserved : goal.loop-volume-preserved
loop-volume-preserved g c =
    let vs = c.args.volumes.now in
    let k = c.loop-volume.volume-index in
    let within : k < length vs = (let test = c.loop-volume-test.true in omega arith) in
    cut_more g.D.Device.told c.args.group.now c.loop-volume.group c.cut.new.self vs c.args.set k (slice_index vs k) c.loop-volume.invariant (place_is vs k within)
    (λ j u m at e. c.requires.apart k j 0 m (slice_get_within vs j u at) (e ∙ get_is vs j u at))
    (c.requires.within k 0 within) c.cut.ensures.devices c.cut.ensures.area c.cut.ensures.images c.cut.ensures.stands
