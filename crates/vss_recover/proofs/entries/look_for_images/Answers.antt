use Rattle.std.proofs.Common.{◌≡◌, [], ◌∷◌, ap, arith, inl, inr, true}
use Rattle.std.proofs.lemmas.Option.{slice_get_within}
use Rattle.diff_area.specs.Format.{is_free}
use Rattle.cow_volume.proofs.TakingUp.{all_more}
use Rattle.vss_recover.proofs.UsedSlots.{each_used}
use Rattle.vss_recover.proofs.entries.look_for_images.Goals as goal

pub lacks_image-requires : goal.lacks_image-requires
lacks_image-requires g c = λ is_used.
    elim (each_used c.args.area.now.volumes c.args.area.now.records c.requires c.slots-slot-end.ensures.valid c.loop-slot.slot c.record_at-row.result c.record_at-row.ensures) [
      | inl empty ↦ (let none : is_free c.record_at-row.result ≡ true = ap is_free empty in absurd cc)
      | inr both ↦ both.1
    ]

pub loop-slot-preserved : goal.loop-slot-preserved
loop-slot-preserved g c =
    all_more c.args.area.now.records (c.args.images.now ∷ []) c.loop-slot.slot c.record_at-row.result c.loop-slot.invariant c.record_at-row.ensures
    (c.lacks_image.ensures.has c.if-lacks_image.false)

pub returns-clause-all : goal.returns-clause-all
returns-clause-all g c = λ slot r at.
    let inside = slice_get_within c.args.area.now.records slot r at in
    let test = c.loop-slot-test.false in
    let end = c.slots-slot-end.ensures.slots in
    c.loop-slot.invariant slot r (omega arith) at
