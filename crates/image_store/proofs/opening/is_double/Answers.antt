use Rattle.std.proofs.Common.{◌∙◌, ap, sym, arith, Some}
use Rattle.std.proofs.lemmas.Slice.Eq.{bytes_eq-Decides}
use Rattle.image_store.proofs.Opens.{name_there, others_more, not_same}
use Rattle.image_store.proofs.opening.is_double.Goals as goal

pub returns-then-eq-clause-yes : goal.returns-then-eq-clause-yes
returns-then-eq-clause-yes c = λ yes.
    let test = c.loop-earlier-test.true in
    let within = c.requires in
    let name = name_there c.args.catalog.now c.args.v c.name.result.now.bytes within c.name.ensures in
    let earlier = name_there c.args.catalog.now c.loop-earlier.earlier c.name-in-loop-earlier.result.now.bytes (omega arith) c.name-in-loop-earlier.ensures in
    let same = (bytes_eq-Decides _ _).0 (sym c.eq.ensures ∙ c.if-eq.true) in
    (c.loop-earlier.earlier, omega arith, earlier ∙ ap Some (sym c.bytes.ensures ∙ same ∙ c.bytes-name.ensures) ∙ sym name)

pub loop-earlier-preserved : goal.loop-earlier-preserved
loop-earlier-preserved c =
    let test = c.loop-earlier-test.true in
    let within = c.requires in
    let name = name_there c.args.catalog.now c.args.v c.name.result.now.bytes within c.name.ensures in
    let earlier = name_there c.args.catalog.now c.loop-earlier.earlier c.name-in-loop-earlier.result.now.bytes (omega arith) c.name-in-loop-earlier.ensures in
    others_more _ c.args.v c.loop-earlier.earlier c.loop-earlier.invariant
    (not_same _ _ c.name-in-loop-earlier.result.now.bytes c.name.result.now.bytes c.bytes.result.now c.bytes-name.result.now earlier name c.bytes.ensures c.bytes-name.ensures
    (sym c.eq.ensures ∙ c.if-eq.false))
