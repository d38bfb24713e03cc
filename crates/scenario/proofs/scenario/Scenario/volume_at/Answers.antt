use Rattle.std.proofs.Common.{◌∙◌, List, ap, arith, sym}
use Rattle.std.specs.List.{position}
use Rattle.scenario.specs.declared.place.Place.{Place}
use Rattle.scenario.specs.Places.{is_place}
use Rattle.scenario.proofs.Places.{found_place, no_place}
use Rattle.scenario.proofs.scenario.Scenario.volume_at.Goals as goal

pub returns-in-Some : goal.returns-in-Some
returns-in-Some c =
    let found = ap (λ (places : List Place). position (is_place c.args.place) places) (sym c.deref.ensures.value) ∙ sym c.find_place.ensures ∙ c.in-Some.is in
    rw (← c.self.view_is) (found_place c.self.inside.volumes.items c.self.inside.places.items c.args.place c.in-Some.v c.self.invariant.2 found)

pub returns-in-None : goal.returns-in-None
returns-in-None c =
    let none = ap (λ (places : List Place). position (is_place c.args.place) places) (sym c.deref.ensures.value) ∙ sym c.find_place.ensures ∙ c.in-None.is in
    let all = no_place c.self.inside.volumes.items c.self.inside.places.items c.args.place c.self.invariant.2 none in
    rw (← c.self.view_is) (omega (arith, c.len.ensures, c.self.inside.volumes.ok.0, all))
