use Rattle.std.proofs.Common.{◌≡◌, ◌+◌, ◌-◌, ◌∙◌, sym, length, arith, true, false}
use Rattle.std.proofs.lemmas.Bool.Decides.{nat_tests}
use Rattle.vss_model.specs.Acts.{state}
use Rattle.vss_world.proofs.Kept.{kept_sets_are, no_sets}
use Rattle.vss_world.proofs.showing.kept_sets.Goals as goal

pub returns-then-count-eq0-clause-sets : goal.returns-then-count-eq0-clause-sets
returns-then-count-eq0-clause-sets g c acts keeps are =
    no_sets c.args.scenario.now acts c.args.volume c.images-sets.result.now (c.images-sets.ensures.sets (state c.args.scenario.now acts).volumes are)
    (let h = c.if-count-eq0.true in grind (arith, nat_tests, h))

pub returns-then-is_complete-clause-sets : goal.returns-then-is_complete-clause-sets
returns-then-is_complete-clause-sets g c acts keeps are =
    let sets = c.images-sets.result.now in
    let long : (length sets - 1) + 1 ≡ length sets = (let h = c.if-count-eq0.false in grind (arith, nat_tests, h)) in
    let st = state c.args.scenario.now acts in
    kept_sets_are c.args.scenario.now acts c.args.volume (length sets - 1) sets true (c.images-sets.ensures.sets st.volumes are) long (sym c.if-is_complete.true ∙ c.is_complete.ensures st keeps)

pub returns-clause-sets : goal.returns-clause-sets
returns-clause-sets g c acts keeps are =
    let sets = c.images-sets.result.now in
    let long : (length sets - 1) + 1 ≡ length sets = (let h = c.if-count-eq0.false in grind (arith, nat_tests, h)) in
    let st = state c.args.scenario.now acts in
    kept_sets_are c.args.scenario.now acts c.args.volume (length sets - 1) sets false (c.images-sets.ensures.sets st.volumes are) long (sym c.if-is_complete.false ∙ c.is_complete.ensures st keeps)
