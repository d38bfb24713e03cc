use Rattle.std.proofs.Common.{◌≡◌, true, false, refl, subst}
use Rattle.cow_volume.proofs.Kept.{quiet_called, volume_rose, unfailed_called, called_is, not_called}
use Rattle.cow_volume.proofs.ending.flush_one.Goals as goal

pub returns-in-Ok-clause-quiet : goal.returns-in-Ok-clause-quiet
returns-in-Ok-clause-quiet g c = λ copies.
    quiet_called g.D.Device c.args.v c.args.devices.now.items c.flush_device.new.devices.items false copies c.in-Ok.ensures.call
    c.in-Ok.ensures.told_is c.in-Ok.ensures.still

pub returns-in-Err-clause-quiet : goal.returns-in-Err-clause-quiet
returns-in-Err-clause-quiet g c = λ copies.
    quiet_called g.D.Device c.args.v c.args.devices.now.items c.flush_device.new.devices.items true copies c.in-Err.ensures.call
    c.in-Err.ensures.told_is c.in-Err.ensures.still

pub returns-in-Err-clause-rose : goal.returns-in-Err-clause-rose
returns-in-Err-clause-rose g c = λ copies.
    volume_rose g.D.Device c.args.v c.args.devices.now.items c.flush_device.new.devices.items copies copies c.in-Err.ensures.call refl

pub returns-in-Ok-clause-same : goal.returns-in-Ok-clause-same
returns-in-Ok-clause-same g c = λ copies.
    unfailed_called g.D.Device c.args.v c.args.devices.now.items c.flush_device.new.devices.items false copies copies c.in-Ok.ensures.call
    refl refl

pub returns-in-Ok-clause-lasts : goal.returns-in-Ok-clause-lasts
returns-in-Ok-clause-lasts g c = λ d is.
    let own = called_is g.D.Device c.args.v c.args.devices.now.items c.flush_device.new.devices.items false d c.in-Ok.ensures.call is in
    subst (λ x. g.D.Device.lasting x ≡ g.D.Device.told x) own (c.in-Ok.ensures.lasts refl)

pub returns-in-Ok-clause-others : goal.returns-in-Ok-clause-others
returns-in-Ok-clause-others g c = λ u other. not_called g.D.Device c.args.v u c.args.devices.now.items c.flush_device.new.devices.items false c.in-Ok.ensures.call other

pub returns-in-Err-clause-others : goal.returns-in-Err-clause-others
returns-in-Err-clause-others g c = λ u other. not_called g.D.Device c.args.v u c.args.devices.now.items c.flush_device.new.devices.items true c.in-Err.ensures.call other
