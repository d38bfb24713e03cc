use Rattle.std.proofs.Common.{◌≡◌, ◌∙◌, List, ap, length, sym}
use Rattle.std.proofs.lemmas.List.{length-map}
use Rattle.write_history.specs.History.{History}
use Rattle.cow_volume.specs.Resuming.{AreKept, NoneTell}
use Rattle.cow_volume.specs.StandsFor.{StandsFor}
use Rattle.cow_volume.proofs.Stored.{kept_stands}
use Rattle.cow_volume.proofs.SomeHistory.{some_stand}
use Rattle.cow_volume.proofs.cow_group.CowGroup.resume.Goals as goal

pub returns-clause-stands : goal.returns-clause-stands
returns-clause-stands g c =
    let stands : (hs : List History) → AreKept g.D.Device.told c.args.devices.items c.args.area c.args.images.now hs
    → StandsFor g.D.Device.told (record { devices = c.args.devices.items; area = c.args.area; images = c.args.images.now }) hs
    = λ hs kept. kept_stands g.D.Device.told g.D.Device.size c.args.devices.items c.args.area c.args.images.now hs kept c.requires.fits c.requires.lists c.slots-facts.ensures.fits
    c.slots-facts.ensures.whole in
    rw c.in_ok-copies.ensures.value stands

pub returns-clause-untold : goal.returns-clause-untold
returns-clause-untold g c =
    let many : length c.args.devices.items ≡ length c.args.area.volumes = sym (length-map c.args.devices.items g.D.Device.size) ∙ ap length c.requires.fits in
    let some : NoneTell g.D.Device.told c.args.devices.items c.args.area.device
    → (hs : List History) × StandsFor g.D.Device.told (record { devices = c.args.devices.items; area = c.args.area; images = c.args.images.now }) hs
    = some_stand g.D.Device.told (record { devices = c.args.devices.items; area = c.args.area; images = c.args.images.now }) many c.requires.lists c.requires.rise c.in_ok-copies.ensures.all in
    rw c.in_ok-copies.ensures.value some
