use Rattle.std.proofs.Common.{◌<◌, ◌∙◌, length, arith}
use Rattle.cow_volume.proofs.Group.{slice_get_inside}
use Rattle.image_store.proofs.Opens.{names_more}
use Rattle.image_store.proofs.opening.names_of.Goals as goal

pub loop-volume-preserved : goal.loop-volume-preserved
loop-volume-preserved c =
    let end = c.volumes-volume-end.ensures in
    let test = c.loop-volume-test.true in
    let within : c.loop-volume.volume < length c.args.catalog.now = omega arith in
    let entry = slice_get_inside c.args.catalog.now c.loop-volume.volume within in
    rw c.in_ok-push.ensures.items (names_more c.loop-volume.names.items c.args.catalog.now c.loop-volume.volume c.in_ok-copy.field-0 entry.0 entry.1
    (c.in_ok-copy.ensures ∙ c.bytes.ensures ∙ c.name.ensures entry.0 entry.1) c.loop-volume.invariant)
