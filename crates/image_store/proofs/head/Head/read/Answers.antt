use Rattle.std.proofs.Common.{◌≡◌, ◌∙◌, ℕ, ◌+◌, List, length, drop, ap, sym, subst, refl, arith, Ok}
use Rattle.std.proofs.lemmas.Result.{err_from_is_err_and}
use Rattle.std.proofs.lemmas.Slice.Eq.{starts_is}
use Rattle.std.proofs.lemmas.Bool.Decides.{Decides-eqb}
use Rattle.byteorder.specs.Endian.{little_number}
use Rattle.vss_catalog.specs.Reading.{Tells, catalog_in}
use Rattle.image_store.proofs.Heads.{are_bytes, catalog_fault, head_again, rest_of}
use Rattle.image_store.proofs.head.Head.read.Goals as goal

pub returns-clause-ok : goal.returns-clause-ok
returns-clause-ok c =
    let bytes = are_bytes c.args.bytes.now (λ i. omega (arith, c.type_inv.bytes i)) in
    let said = c.in-Some.ensures.said in
    let within = c.in-Some.ensures.within in
    let no_more = c.if-length-bytes.false in
    let long : length c.args.bytes.now ≡ 16 + little_number 4 (drop 12 c.args.bytes.now) = omega arith in
    let letters = rw c.as_slice.ensures at ((starts_is Decides-eqb c.args.bytes.now c.as_slice.result.now _ refl).0 (sym c.starts_with.ensures.value ∙ c.if-not-starts_with.false)) in
    head_again c.args.bytes.now c.read_u32.result c.in_ok-decode.field-0 bytes letters (c.read_u32.ensures ∙ ap (little_number 4) (rest_of 8 c.args.bytes.now)) long
    (subst (λ (xs : List ℕ). catalog_in xs ≡ Ok c.in_ok-decode.field-0) (rest_of 16 c.args.bytes.now) c.in_ok-decode.ensures.ok)

pub returns-in_err-decode-clause-refused : goal.returns-in_err-decode-clause-refused
returns-in_err-decode-clause-refused c =
    let said = c.in-Some.ensures.said in
    let within = c.in-Some.ensures.within in
    let no_more = c.if-length-bytes.false in
    let long : length c.args.bytes.now ≡ 16 + little_number 4 (drop 12 c.args.bytes.now) = omega arith in
    let letters = rw c.as_slice.ensures at ((starts_is Decides-eqb c.args.bytes.now c.as_slice.result.now _ refl).0 (sym c.starts_with.ensures.value ∙ c.if-not-starts_with.false)) in
    let p = err_from_is_err_and c.from_residual.result c.from_residual.ensures.1 in
    rw p.1 (catalog_fault c.args.bytes.now c.in_err-decode.field-0.0 p.0 p.2 long letters
    (subst (λ (xs : List ℕ). Tells c.in_err-decode.field-0.0 (catalog_in xs)) (rest_of 16 c.args.bytes.now) c.in_err-decode.ensures.refused))
