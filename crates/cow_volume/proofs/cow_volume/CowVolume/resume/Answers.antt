use Rattle.std.proofs.Common.{◌≡◌, ◌∙◌, List, ap, length, subst, sym}
use Rattle.cow_volume.specs.StandsFor.{GroupValue}
use Rattle.cow_volume.specs.Resuming.{NoneTell}
use Rattle.cow_volume.proofs.OneVolume.{one_untold}
use Rattle.cow_volume.proofs.cow_volume.CowVolume.resume.Goals as goal

pub returns-clause-untold : goal.returns-clause-untold
returns-clause-untold g c = λ none.
    let one : length c.in_ok-group.group.area.volumes ≡ 1 = ap (λ (v : GroupValue _). length v.area.volumes) c.in_ok-group.ensures.value ∙ ap length c.requires.fits in
    one_untold g.D.Device.told c.in_ok-group.group one
    (c.in_ok-group.ensures.untold (subst (λ (devices : List _). NoneTell g.D.Device.told devices c.args.area.device) (sym c.in-Ok.ensures) none))
