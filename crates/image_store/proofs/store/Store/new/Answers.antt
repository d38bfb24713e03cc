use Rattle.std.proofs.Common.{◌≡◌, ◌∙◌, ℕ, List, Err, ap, sym, subst, refl}
use Rattle.std.proofs.lemmas.Result.{err_from_is_err_and}
use Rattle.std.specs.Prelude.{is_some}
use Rattle.cow_volume.specs.Ending.{AllTell}
use Rattle.cow_volume.specs.StandsFor.{GroupValue}
use Rattle.vss_names.specs.Names.{TextValue}
use Rattle.image_store.specs.StoreValue.{AreApart, AreNoNames}
use Rattle.image_store.specs.declared.new_fault.NewFault.TheVariants.{Names}
use Rattle.image_store.proofs.Stores.{store_of, fresh_stands}
use Rattle.image_store.proofs.store.Store.new.Goals as goal

pub returns-clause-stands : goal.returns-clause-stands
returns-clause-stands g c = λ devices area.
    let value = c.in_ok-group.ensures.value in
    fresh_stands g.D.Device.told (store_of c.in_ok-group.group c.args.names.items 0) c.args.area.volumes (ap (λ (x : GroupValue _). x.area.volumes) value) refl
    (subst (λ (ds : List _). AllTell g.D.Device.told ds) (sym (ap (λ (x : GroupValue _). x.devices) value)) devices)
    (ap (λ (x : GroupValue _). is_some (g.D.Device.told x.area.device)) value ∙ area) c.in_ok-group.ensures.stands

pub returns-clause-apart : goal.returns-clause-apart
returns-clause-apart g c = subst AreApart c.deref.ensures.value c.in_ok-piece.ensures.apart

pub returns-in_err-piece-clause-refused : goal.returns-in_err-piece-clause-refused
returns-in_err-piece-clause-refused g c =
    let p = err_from_is_err_and c.from_residual-in_err-piece.result c.from_residual-in_err-piece.ensures.1 in
    let volumes = ap (λ (x : GroupValue _). x.area.volumes) c.in_ok-group.ensures.value in
    rw (p.1, p.2) (λ is.
    let same : c.in_err-piece.field-0.0 ≡ Names = cc in
    subst (λ (ns : List TextValue). AreNoNames c.args.area.volumes ns) c.deref.ensures.value
    (subst (λ (vs : List ℕ). AreNoNames vs c.deref.result.now) volumes (c.in_err-piece.ensures.refused (ap Err same))))
