use Rattle.std.proofs.Common.{◌≡◌, ◌∙◌, ◌∷◌, [], None, List, ℕ, ap, subst, sym}
use Rattle.write_history.specs.History.{History}
use Rattle.diff_area.specs.AreaValue.{AreaValue}
use Rattle.cow_volume.specs.OneVolume.{StandsForOne, blocks_of, image_sets}
use Rattle.cow_volume.specs.Resuming.{AllHaveImages}
use Rattle.vss_recover.specs.Recoveries.{IsOfImages, Recovering}
use Rattle.vss_recover.specs.RecoverValue.{IsOverlay, RecoverValue, StandsFor}
use Rattle.vss_recover.specs.Syncing.{HasCopiesOf, taken_up, unopened}
use Rattle.vss_recover.proofs.TakenUp.{loaded_stands, made_stand, parts_stand}
use Rattle.vss_recover.proofs.recover_volume.RecoverVolume.resume.Goals as goal

pub returns-in-Ok-without_window-clause-untold : goal.returns-in-Ok-without_window-clause-untold
returns-in-Ok-without_window-clause-untold g c =
    let is = c.in-Ok-without_window.ensures ∙ ap (λ (o : AreaValue _). taken_up c.args.volume o c.args.finals.now) c.in-Ok.ensures.value in
    let have = subst (λ (sets : List ℕ). AllHaveImages c.args.overlay.records (sets ∷ [])) c.images.ensures.images c.in_ok-look_for_images.ensures.all in
    subst (λ (v : RecoverValue _). (h : History) → g.D.Device.told c.args.overlay.device ≡ None → StandsForOne g.D.Device.told c.args.volume h
    → (r : Recovering) × (r.volume ≡ h) × StandsFor g.D.Device.told v r) (sym is)
    (λ h none stood. made_stand g.D.Device.told c.args.volume c.args.overlay c.args.finals.now h c.requires.fits c.in-Ok.ensures.valid have none stood)

pub returns-in-Ok-without_window-clause-stands : goal.returns-in-Ok-without_window-clause-stands
returns-in-Ok-without_window-clause-stands g c =
    let is = c.in-Ok-without_window.ensures ∙ ap (λ (o : AreaValue _). taken_up c.args.volume o c.args.finals.now) c.in-Ok.ensures.value in
    subst (λ (v : RecoverValue _). (h : Recovering) → StandsForOne g.D.Device.told c.args.volume h.volume
    → IsOverlay (g.D.Device.told c.args.overlay.device) c.args.overlay.records (blocks_of c.args.volume) h.recoveries
    → IsOfImages (image_sets c.args.volume) h → h.final ≡ c.args.finals.now → StandsFor g.D.Device.told v (unopened h)) (sym is)
    (parts_stand g.D.Device.told c.args.volume c.args.overlay c.args.finals.now)

pub returns-in-Ok-without_window-clause-loaded : goal.returns-in-Ok-without_window-clause-loaded
returns-in-Ok-without_window-clause-loaded g c =
    let is = c.in-Ok-without_window.ensures ∙ ap (λ (o : AreaValue _). taken_up c.args.volume o c.args.finals.now) c.in-Ok.ensures.value in
    subst (λ (v : RecoverValue _). (was : RecoverValue _) (h : Recovering) → StandsFor g.D.Device.told was h → HasCopiesOf g.D.Device.told was.overlay c.args.overlay
    → blocks_of c.args.volume ≡ blocks_of was.volume → c.args.finals.now ≡ was.final → StandsForOne g.D.Device.told c.args.volume h.volume
    → StandsFor g.D.Device.told v (unopened h)) (sym is)
    (loaded_stands g.D.Device.told g.D.Device.size c.args.volume c.args.overlay c.args.finals.now c.in-Ok.ensures.fits c.in-Ok.ensures.whole)
