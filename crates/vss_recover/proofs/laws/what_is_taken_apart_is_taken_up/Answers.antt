use Rattle.std.proofs.Common.{sym, ◌∙◌, ap, length}
use Rattle.std.proofs.lemmas.Result.{IfOk-weaker, IfErr-weaker}
use Rattle.vss_recover.proofs.TakenUp.{never_refused, of_parts}
use Rattle.vss_recover.proofs.laws.what_is_taken_apart_is_taken_up.Goals as goal

pub returns-clause-stands : goal.returns-clause-stands
returns-clause-stands g c = IfOk-weaker c.resume.result _ _ (λ again stands h stood.
    let of = c.into_parts-beneath in
    let parts = of_parts g.D.Device.told c.args.volume of.result.0 of.result.1 h of.ensures.volume of.ensures.overlay stood in
    stands h parts.volume parts.overlay parts.of_images (sym (c.requires.same ∙ stood.final))) c.resume.ensures.stands

pub returns-clause-memory : goal.returns-clause-memory
returns-clause-memory g c = IfErr-weaker c.resume.result _ _ (λ fault refused h stood.
    let of = c.into_parts-beneath in
    let parts = of_parts g.D.Device.told c.args.volume of.result.0 of.result.1 h of.ensures.volume of.ensures.overlay stood in
    never_refused _ _ of.result.1.volumes _ _ h fault (ap length of.ensures.fits) c.slots-facts.ensures.valid parts.overlay parts.of_images refused) c.resume.ensures.refused
