use Rattle.std.proofs.Common.{◌∙◌, Some, map, sym, ap, arith, inl, inr}
use Rattle.std.proofs.lemmas.List.{length-map}
use Rattle.std.proofs.lemmas.Option.{slice_get-get_or}
use Rattle.vss_catalog.specs.Entries.{EntryValue}
use Rattle.image_store.specs.Head.{blocks_of}
use Rattle.image_store.proofs.Opens.{all_same, area_there, blocks_there, device_there, not_found, same_more, same_there}
use Rattle.image_store.proofs.opening.check_blocks.Goals as goal

pub returns-then-found-wanted-clause-refused : goal.returns-then-found-wanted-clause-refused
returns-then-found-wanted-clause-refused g c =
    let found = c.volumes-found.ensures.volumes in
    let wanted = c.volumes.ensures in
    let same = c.if-found-volumes.false in
    let test = c.loop-volume-test.true in
    let many = length-map c.args.catalog.now (λ (e : EntryValue). e.blocks) in
    let v = c.loop-volume.volume in
    record {
      as_many = omega arith;
      areas = c.loop-volume.invariant.volumes;
      sizes = c.loop-volume.invariant.fits;
      other = not_found _ c.blocks-wanted.result c.blocks-found.result (blocks_there c.args.catalog.now v c.blocks-wanted.result (omega arith) c.blocks-wanted.ensures) c.if-found-wanted.true;
      is = inl (area_there c.args.area.now.volumes v c.blocks-found.result (omega arith) c.blocks-found.ensures);
    }

pub returns-then-found-wanted-2-clause-refused : goal.returns-then-found-wanted-2-clause-refused
returns-then-found-wanted-2-clause-refused g c =
    let found = c.volumes-found.ensures.volumes in
    let wanted = c.volumes.ensures in
    let same = c.if-found-volumes.false in
    let test = c.loop-volume-test.true in
    let devices = c.requires in
    let many = length-map c.args.catalog.now (λ (e : EntryValue). e.blocks) in
    let v = c.loop-volume.volume in
    let entry = blocks_there c.args.catalog.now v c.blocks-wanted.result (omega arith) c.blocks-wanted.ensures in
    let area = area_there c.args.area.now.volumes v c.blocks-found.result (omega arith) c.blocks-found.ensures in
    let device = slice_get-get_or c.args.devices.now v c.index-devices-volume.result (omega arith) ∙ ap Some (sym c.index-devices-volume.is) in
    record {
      as_many = omega arith;
      areas = c.loop-volume.invariant.volumes;
      sizes = c.loop-volume.invariant.fits;
      other = not_found _ c.blocks-wanted.result c.blocks-found-in-loop-volume.result entry c.if-found-wanted-2.true;
      is = inr (
        same_there c.args.area.now.volumes (blocks_of c.args.catalog.now) v c.blocks-found.result c.blocks-wanted.result area entry c.if-found-wanted.false,
        device_there g.D.Device.size c.args.devices.now v c.index-devices-volume.result c.blocks-found-in-loop-volume.result device c.blocks-found-in-loop-volume.ensures.size,
      );
    }

pub loop-volume-preserved : goal.loop-volume-preserved
loop-volume-preserved g c =
    let found = c.volumes-found.ensures.volumes in
    let wanted = c.volumes.ensures in
    let same = c.if-found-volumes.false in
    let test = c.loop-volume-test.true in
    let devices = c.requires in
    let v = c.loop-volume.volume in
    let entry = blocks_there c.args.catalog.now v c.blocks-wanted.result (omega arith) c.blocks-wanted.ensures in
    let area = area_there c.args.area.now.volumes v c.blocks-found.result (omega arith) c.blocks-found.ensures in
    let at = slice_get-get_or c.args.devices.now v c.index-devices-volume.result (omega arith) ∙ ap Some (sym c.index-devices-volume.is) in
    let device = device_there g.D.Device.size c.args.devices.now v c.index-devices-volume.result c.blocks-found-in-loop-volume.result at c.blocks-found-in-loop-volume.ensures.size in
    record {
      volumes = same_more _ _ v c.loop-volume.invariant.volumes
          (same_there c.args.area.now.volumes (blocks_of c.args.catalog.now) v c.blocks-found.result c.blocks-wanted.result area entry c.if-found-wanted.false);
      fits = same_more _ _ v c.loop-volume.invariant.fits
          (same_there (map g.D.Device.size c.args.devices.now) (blocks_of c.args.catalog.now) v c.blocks-found-in-loop-volume.result c.blocks-wanted.result device entry c.if-found-wanted-2.false);
    }

pub returns-clause-volumes : goal.returns-clause-volumes
returns-clause-volumes g c =
    let found = c.volumes-found.ensures.volumes in
    let wanted = c.volumes.ensures in
    let same = c.if-found-volumes.false in
    let test = c.loop-volume-test.false in
    let many = length-map c.args.catalog.now (λ (e : EntryValue). e.blocks) in
    all_same c.args.area.now.volumes _ (omega arith) (λ k low. c.loop-volume.invariant.volumes k (omega arith))

pub returns-clause-fits : goal.returns-clause-fits
returns-clause-fits g c =
    let found = c.volumes-found.ensures.volumes in
    let wanted = c.volumes.ensures in
    let same = c.if-found-volumes.false in
    let test = c.loop-volume-test.false in
    let devices = c.requires in
    let many = length-map c.args.catalog.now (λ (e : EntryValue). e.blocks) in
    let sizes = length-map c.args.devices.now g.D.Device.size in
    all_same _ _ (omega arith) (λ k low. c.loop-volume.invariant.fits k (omega arith))
    ∙ sym (all_same c.args.area.now.volumes _ (omega arith) (λ k low. c.loop-volume.invariant.volumes k (omega arith)))
