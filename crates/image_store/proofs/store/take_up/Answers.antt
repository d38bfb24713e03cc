use Rattle.std.proofs.Common.{◌∙◌, ℕ, List, length, map, ap, sym, subst}
use Rattle.std.specs.Prelude.{◌==◌, ◌&&◌, IfSome}
use Rattle.volume_device.specs.InMemory.{AreBlocks}
use Rattle.diff_area.specs.Format.{AreRecords}
use Rattle.std.proofs.lemmas.Result.{err_from_is_err_and}
use Rattle.vss_catalog.specs.Entries.{IsCatalog, EntryValue, lists_of, are_names}
use Rattle.cow_volume.specs.StandsFor.{GroupValue}
use Rattle.cow_volume.specs.Resuming.{AllHaveImages, AreKept, IsResumeFault}
use Rattle.image_store.specs.Head.{blocks_of}
use Rattle.image_store.proofs.Opens.{resume_fault, taken_named}
use Rattle.image_store.proofs.store.take_up.Goals as goal

pub invariant_of-result : goal.invariant_of-result
invariant_of-result g c =
    ap (λ (group : GroupValue _). (length c.in_ok-names.names.items == length group.area.volumes) && are_names c.in_ok-names.names.items) c.in_ok-group.ensures.value
    ∙ taken_named c.in_ok-names.names.items c.catalog-catalog.result.now c.args.area.volumes c.in_ok-names.ensures.names c.in_ok-check_blocks.ensures.volumes
    (subst (λ (es : List EntryValue). IsCatalog es) (sym c.catalog-catalog.ensures.entries) c.catalog-catalog.ensures.allowed)

pub returns-clause-stands : goal.returns-clause-stands
returns-clause-stands g c = λ hs kept. c.in_ok-group.ensures.stands hs
    (subst (λ (images : List (List ℕ)). AreKept g.D.Device.told c.args.devices.items c.args.area images hs)
    (sym (c.deref-2.ensures.value ∙ c.in_ok-names.ensures.lists ∙ ap lists_of c.catalog-catalog.ensures.entries)) kept)

pub returns-clause-parts : goal.returns-clause-parts
returns-clause-parts g c =
    let volumes = c.in_ok-check_blocks.ensures.volumes ∙ ap blocks_of c.catalog-catalog.ensures.entries in
    let lists = c.deref-2.ensures.value ∙ c.in_ok-names.ensures.lists ∙ ap lists_of c.catalog-catalog.ensures.entries in
    record {
      volumes = volumes;
      sizes = ap (map g.D.Device.size) (sym c.deref.ensures.value) ∙ c.in_ok-check_blocks.ensures.fits ∙ volumes;
      images = subst (AllHaveImages c.args.area.records) lists c.in_ok-group.ensures.have_images;
    }

pub returns-in_err-group-clause-refused : goal.returns-in_err-group-clause-refused
returns-in_err-group-clause-refused g c =
    let volumes = c.in_ok-check_blocks.ensures.volumes ∙ ap blocks_of c.catalog-catalog.ensures.entries in
    let lists = c.deref-2.ensures.value ∙ c.in_ok-names.ensures.lists ∙ ap lists_of c.catalog-catalog.ensures.entries in
    let p = err_from_is_err_and c.from_residual-in_err-group.result c.from_residual-in_err-group.ensures.1 in
    rw (p.1, p.2) (resume_fault g.D.Device.size c.args.devices.items c.args.area c.args.head.now.entries c.in_err-group.field-0.0 volumes
    (ap (map g.D.Device.size) (sym c.deref.ensures.value) ∙ c.in_ok-check_blocks.ensures.fits ∙ volumes)
    (subst (λ (ls : List (List ℕ)). IsResumeFault c.args.area.records ls c.in_err-group.field-0.0) lists c.in_err-group.ensures.refused))

pub returns-clause-records : goal.returns-clause-records
returns-clause-records g c = subst (λ (x : GroupValue _). AreRecords x.area.volumes x.area.records) c.in_ok-group.ensures.value c.volumes-facts.ensures.records

pub returns-clause-whole : goal.returns-clause-whole
returns-clause-whole g c =
    subst (λ (x : GroupValue _). IfSome (g.D.Device.told x.area.device) (AreBlocks (g.D.Device.size x.area.device))) c.in_ok-group.ensures.value c.volumes-facts.ensures.whole
