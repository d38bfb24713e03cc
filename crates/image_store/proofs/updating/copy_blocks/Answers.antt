use Rattle.std.proofs.Common.{◌∙◌, ◌+◌, ◌-◌, ◌^◌, ◌<◌, ap, min, length, true, false, refl, sym, subst, arith}
use Rattle.std.proofs.lemmas.Option.{slice_get_within}
use Rattle.diff_map.specs.Copies.{AreImages}
use Rattle.std.proofs.lemmas.Result.{err_from_is_err_and}
use Rattle.image_store.proofs.Copied.{bool_is, copied_all, copied_none, copied_part_with_room, copied_past, copied_stopped, copied_with_room, copied_without, none_in}
use Rattle.image_store.proofs.Calls.{device_after, room_unfailed}
use Rattle.image_store.proofs.Plains.{kept_refl}
use Rattle.image_store.proofs.Opens.{flag_is}
use Rattle.image_store.proofs.Passes.{copying_stopped, copy_more}
use Rattle.image_store.proofs.updating.copy_blocks.Goals as goal
use Rattle.image_store.proofs.updating.copy_blocks.Goals.{then-differs-b+else-up_to-gt0+in_ok-more, else-differs-b}
use Rattle.cow_volume.proofs.Kept.{unfailed_itself, unfailed_further}

pub returns-then-up_to-gt0-clause-copying : goal.returns-then-up_to-gt0-clause-copying
returns-then-up_to-gt0-clause-copying g c = λ ps has.
    copying_stopped g.D.Device.told c.args.group.now c.loop-b.group c.make_room-up_to.new.self ps c.args.v c.loop-b.b c.make_room-up_to.result c.make_room-up_to.new.gone.items c.loop-b.invariant.kept
    c.if-up_to-gt0.true c.make_room-up_to.ensures.room c.make_room-up_to.ensures.told has

pub returns-in_err-more-clause-copying : goal.returns-in_err-more-clause-copying
returns-in_err-more-clause-copying g c =
    let p = err_from_is_err_and c.from_residual.result c.from_residual.ensures.1 in
    rw p.1 (λ ps has. (copy_more g.D.Device.told c.args.group.now c.loop-b.group c.make_room-up_to.new.self c.copy_one.new.group c.args.v c.loop-b.b c.make_room-up_to.result c.loop-b.invariant.kept
    c.if-up_to-gt0.false c.make_room-up_to.ensures.room c.copy_one.ensures.kept).plains ps has)

pub returns-in_err-more-clause-failed : goal.returns-in_err-more-clause-failed
returns-in_err-more-clause-failed g c =
    let p = err_from_is_err_and c.from_residual.result c.from_residual.ensures.1 in
    rw (p.1, p.2) (device_after g.D.Device.count c.args.v c.args.group.now c.make_room-up_to.new.self c.copy_one.new.group c.in_err-more.field-0.0
    (unfailed_further g.D.Device.count c.args.group.now c.loop-b.group
    c.make_room-up_to.new.self c.loop-b.invariant.unfailed
    (room_unfailed g.D.Device c.loop-b.group c.make_room-up_to.new.self c.args.v c.loop-b.b c.make_room-up_to.result c.make_room-up_to.ensures.room))
    c.in_err-more.ensures.failed)

pub loop-b-init : goal.loop-b-init
loop-b-init g c = record {
  kept = kept_refl g.D.Device.told c.args.group.now;
  room = refl;
  unfailed = unfailed_itself g.D.Device.count c.args.group.now;
  copies = copied_none g.D.Device.told c.args.group.now c.args.v c.args.differs.now c.args.from c.args.copied.now (omega arith);
}

pub returns-then-is_empty-clause-copied : goal.returns-then-is_empty-clause-copied
returns-then-is_empty-clause-copied g c =
    copied_without g.D.Device.told c.args.group.now c.args.v c.args.differs.now c.args.from c.args.to c.args.copied.now (omega arith)
    (sym c.images.ensures.images ∙ none_in c.images.result.now (sym c.is_empty.ensures ∙ c.if-is_empty.true))

pub returns-then-up_to-gt0-clause-copied : goal.returns-then-up_to-gt0-clause-copied
returns-then-up_to-gt0-clause-copied g c =
    let test = c.loop-b-test.true in
    let marks = c.requires.marks in
    copied_stopped g.D.Device.told c.args.group.now c.loop-b.group c.make_room-up_to.new.self c.args.v c.args.differs.now c.args.from c.args.to c.loop-b.b c.args.copied.now c.loop-b.copied
    c.make_room-up_to.result (subst AreImages c.images.ensures.images c.images.ensures.rise)
    (flag_is c.args.differs.now c.loop-b.b _ true (omega arith) c.if-differs-b.true) (omega arith) (omega arith)
    c.loop-b.invariant.copies c.make_room-up_to.ensures.room

pub returns-in_err-more-clause-copied : goal.returns-in_err-more-clause-copied
returns-in_err-more-clause-copied g c =
    let p = err_from_is_err_and c.from_residual.result c.from_residual.ensures.1 in
    let test = c.loop-b-test.true in
    let are = subst AreImages c.images.ensures.images c.images.ensures.rise in
    rw p.1 (
      c.loop-b.b,
      omega arith,
      copied_part_with_room g.D.Device.told c.args.group.now c.loop-b.group c.make_room-up_to.new.self c.copy_one.new.group c.args.v c.args.differs.now c.args.from c.loop-b.b
          c.args.copied.now c.loop-b.copied c.make_room-up_to.result are c.loop-b.invariant.copies c.make_room-up_to.ensures.room c.if-up_to-gt0.false
          c.copy_one.ensures.copies c.in_err-more.ensures.none,
    )

pub returns-clause-copied : goal.returns-clause-copied
returns-clause-copied g c =
    let test = c.loop-b-test.false in
    copied_all g.D.Device.told c.args.group.now c.loop-b.group c.args.v c.args.differs.now c.args.from c.args.to c.loop-b.b c.args.copied.now c.loop-b.copied
    (λ b low marked. let within = slice_get_within c.args.differs.now b true marked in let marks = c.requires.marks in omega arith) c.loop-b.invariant.copies

pub loop-b-preserved : goal.loop-b-preserved
loop-b-preserved g c =
    let test = c.loop-b-test.true in
    let marks = c.requires.marks in
    let within : c.loop-b.b < length c.args.differs.now = omega arith in
    elim c.if-differs-b.branch [
      | then-differs-b+else-up_to-gt0+in_ok-more w ↦ rw (w.group-is, w.gone-is, w.copied-is) (record {
        copies = copied_with_room g.D.Device.told c.args.group.now c.loop-b.group w.make_room-up_to.new.self w.copy_one.new.group c.args.v c.args.differs.now
            c.args.from c.loop-b.b c.args.copied.now c.loop-b.copied _
            w.make_room-up_to.result w.in_ok-more.more
            (subst AreImages c.images.ensures.images c.images.ensures.rise) c.loop-b.invariant.copies w.make_room-up_to.ensures.room w.if-up_to-gt0.false
            w.copy_one.ensures.copies
            w.in_ok-more.ensures.has w.in_ok-more.ensures.more (w.saturating_add.ensures ∙ ap (λ n. min (c.loop-b.copied + n) (2 ^ 32 - 1)) (w.from.ensures ∙ bool_is w.in_ok-more.more));
        kept = copy_more g.D.Device.told c.args.group.now c.loop-b.group w.make_room-up_to.new.self w.copy_one.new.group c.args.v c.loop-b.b w.make_room-up_to.result c.loop-b.invariant.kept
            w.if-up_to-gt0.false w.make_room-up_to.ensures.room w.copy_one.ensures.kept;
        room = w.make_room-up_to.ensures.space ∙ c.loop-b.invariant.room;
        unfailed = unfailed_further g.D.Device.count c.args.group.now w.make_room-up_to.new.self w.copy_one.new.group
            (unfailed_further g.D.Device.count c.args.group.now c.loop-b.group w.make_room-up_to.new.self
            c.loop-b.invariant.unfailed
            (room_unfailed g.D.Device c.loop-b.group w.make_room-up_to.new.self c.args.v c.loop-b.b w.make_room-up_to.result w.make_room-up_to.ensures.room))
            w.in_ok-more.ensures.same;
      })
      | else-differs-b w ↦ rw (w.group-is, w.gone-is, w.copied-is) (record {
        kept = c.loop-b.invariant.kept;
        room = c.loop-b.invariant.room;
        unfailed = c.loop-b.invariant.unfailed;
        copies = copied_past g.D.Device.told c.args.group.now c.loop-b.group c.args.v c.args.differs.now c.args.from c.loop-b.b c.args.copied.now c.loop-b.copied
            (flag_is c.args.differs.now c.loop-b.b _ false within w.if-differs-b.false) c.loop-b.invariant.copies;
      })
    ]
