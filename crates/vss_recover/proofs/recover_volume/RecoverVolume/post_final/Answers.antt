use Rattle.std.proofs.Common.{◌≡◌, ◌∙◌, None, Some, ap, sym, subst, rules}
use Rattle.vss_recover.specs.Recoveries.{closed}
use Rattle.vss_recover.specs.RecoverValue.{RecoverValue, StandsFor}
use Rattle.vss_recover.proofs.InParts.{value_of}
use Rattle.vss_recover.proofs.Taken.{closed_step}
use Rattle.vss_recover.proofs.recover_volume.RecoverVolume.post_final.Goals as goal

pub returns-clause-step : goal.returns-clause-step
returns-clause-step g c =
    let there : c.self.inside.window ≡ Some c.in_ok-set.set = search rules in
    let window : c.args.self.now.window ≡ Some c.in_ok-set.set = ap (λ (v : RecoverValue _). v.window) (sym c.self.view_is) ∙ there in
    λ h stood. (let s = closed_step g.D.Device.told c.args.self.now c.in_ok-set.set window h stood in
    (s.0, subst (λ (v : RecoverValue _). StandsFor g.D.Device.told (value_of v.volume v.overlay None v.claims v.final) (closed c.in_ok-set.set h)) (sym (c.self-2.view_is ∙ c.note_final.ensures)) s.1))
