use Rattle.std.proofs.Common.{◌∙◌, ◌<◌, ℕ, List, length, ap, sym, arith, Some}
use Rattle.std.specs.Str.{bytes_eq}
use Rattle.std.proofs.lemmas.Option.{slice_get-get_or}
use Rattle.image_store.proofs.Heads.{named_here, others_more}
use Rattle.image_store.proofs.naming.first_of.Goals as goal

pub returns-then-eq-clause-named : goal.returns-then-eq-clause-named
returns-then-eq-clause-named c =
    let within : c.loop-place.place < length c.args.names.now = (let test = c.loop-place-test.true in omega arith) in
    let at = slice_get-get_or c.args.names.now c.loop-place.place c.index-names-place.result within ∙ ap Some (sym c.index-names-place.is) in
    let is = ap (λ (xs : List ℕ). bytes_eq xs c.args.name.now) (sym c.bytes.ensures) ∙ sym c.eq.ensures ∙ c.if-eq.true in
    named_here c.args.names.now c.args.name.now c.loop-place.place c.index-names-place.result at is c.loop-place.invariant

pub loop-place-preserved : goal.loop-place-preserved
loop-place-preserved c =
    let within : c.loop-place.place < length c.args.names.now = (let test = c.loop-place-test.true in omega arith) in
    let at = slice_get-get_or c.args.names.now c.loop-place.place c.index-names-place.result within ∙ ap Some (sym c.index-names-place.is) in
    let is = ap (λ (xs : List ℕ). bytes_eq xs c.args.name.now) (sym c.bytes.ensures) ∙ sym c.eq.ensures ∙ c.if-eq.false in
    others_more c.args.names.now c.args.name.now c.loop-place.place c.index-names-place.result at is c.loop-place.invariant
