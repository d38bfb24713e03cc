use Rattle.std.proofs.Common.{◌≤◌, ◌∙◌, ap, subst, sym, arith}
use Rattle.std.specs.Prelude.{All}
use Rattle.diff_map.specs.Copies.{AreImages}
use Rattle.cow_volume.specs.Calls.{is_among}
use Rattle.cow_volume.proofs.Group.{slice_get_inside}
use Rattle.image_store.proofs.Opens.{below_last, list_allowed, well_more}
use Rattle.image_store.proofs.opening.check_catalog.Goals as goal

pub newest_of-set-requires : goal.newest_of-set-requires
newest_of-set-requires c =
    let test = c.loop-volume-test.true in
    let end = c.volumes-volume-end.ensures in
    let e = slice_get_inside c.args.catalog.now c.loop-volume.volume (omega arith) in
    subst AreImages (sym (c.images.ensures e.0 e.1)) (list_allowed c.args.catalog.now c.loop-volume.volume e.0 e.1 c.requires)

pub returns-then-set-last-clause-refused : goal.returns-then-set-last-clause-refused
returns-then-set-last-clause-refused c =
    let test = c.loop-volume-test.true in
    let end = c.volumes-volume-end.ensures in
    let above = c.if-set-last.true in
    let e = slice_get_inside c.args.catalog.now c.loop-volume.volume (omega arith) in (
      c.loop-volume.invariant,
      c.is_double.ensures.no c.if-is_double.false,
      omega arith,
      (
        e.0,
        e.1,
        ap (is_among c.newest_of-set.result) (sym (c.images.ensures e.0 e.1))
            ∙ c.newest_of-set.ensures.one (omega arith),
      ),
    )

pub loop-volume-preserved : goal.loop-volume-preserved
loop-volume-preserved c =
    well_more c.args.last c.args.catalog.now c.loop-volume.volume c.loop-volume.invariant (c.is_double.ensures.no c.if-is_double.false)
    (λ e at. below_last e.images c.newest_of-set.result c.args.last (subst (All (λ s. s ≤ c.newest_of-set.result)) (c.images.ensures e at) c.newest_of-set.ensures.all)
    (let above = c.if-set-last.false in omega arith))
