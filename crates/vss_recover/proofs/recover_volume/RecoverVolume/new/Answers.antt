use Rattle.std.proofs.Common.{◌≡◌, [], rules}
use Rattle.std.specs.Prelude.{IfOk}
use Rattle.write_history.specs.History.{History}
use Rattle.cow_volume.specs.OneVolume.{StandsForOne}
use Rattle.vss_recover.specs.Recoveries.{unrecovered}
use Rattle.vss_recover.specs.RecoverValue.{StandsFor}
use Rattle.vss_recover.specs.Syncing.{taken_up}
use Rattle.vss_recover.proofs.Taken.{new_stands}
use Rattle.vss_recover.proofs.TakenUp.{of_value}
use Rattle.vss_recover.proofs.recover_volume.RecoverVolume.new.Goals as goal

pub returns-clause-stands : goal.returns-clause-stands
returns-clause-stands g c =
    let is : IfOk c.without_window.result (λ v. v ≡ taken_up c.args.volume c.args.overlay []) = search rules in
    of_value (λ v. (h : History) → StandsForOne g.D.Device.told c.args.volume h → StandsFor g.D.Device.told v (unrecovered h))
    c.without_window.result (taken_up c.args.volume c.args.overlay []) is
    (λ h stands. new_stands g.D.Device.told c.args.volume c.args.overlay h c.requires.free stands)
