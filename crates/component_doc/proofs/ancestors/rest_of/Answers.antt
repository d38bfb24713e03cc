use Rattle.std.proofs.Common.{◌∙◌, [], ◌∷◌, ℕ, None, Some, nat_eq, sym}
use Rattle.std.proofs.lemmas.Bool.{true≢false}
use Rattle.std.proofs.lemmas.Bool.Decides.{Decides-eqb}
use Rattle.std.proofs.lemmas.Slice.Eq.{strip_prefix_is}
use Rattle.writer_meta.specs.Metadata.{backslash}
use Rattle.component_doc.proofs.Named.{not_behind, behind_both, joined_is}
use Rattle.component_doc.proofs.ancestors.rest_of.Goals as goal

pub returns-then-is_empty : goal.returns-then-is_empty
returns-then-is_empty c =
    rw (c.is_empty.ensures.0 c.if-is_empty.true, ← c.bytes-name.ensures) (strip_prefix_is Decides-eqb c.args.path.now c.bytes-name.result.now c.strip_prefix.result c.strip_prefix.ensures.cases)

pub returns-in_err-below : goal.returns-in_err-below
returns-in_err-below c =
    let path = c.args.component.now.path.bytes in
    let none = rw c.bytes.ensures at (strip_prefix_is {A = ℕ} {E = nat_eq} Decides-eqb c.args.path.now c.bytes.result.now None c.in_err-below.ensures.cases) in
    rw (c.from_residual.ensures, joined_is path _ (λ e. true≢false (sym (c.is_empty.ensures.1 e) ∙ c.if-is_empty.false))) (not_behind path _ c.args.path.now none)

pub returns : goal.returns
returns c =
    let path = c.args.component.now.path.bytes in
    let first = rw c.bytes.ensures at (strip_prefix_is {A = ℕ} {E = nat_eq} Decides-eqb c.args.path.now c.bytes.result.now (Some c.in_ok-below.below) c.in_ok-below.ensures.cases) in
    let second = strip_prefix_is {A = ℕ} {E = nat_eq} Decides-eqb c.in_ok-below.below.now (backslash ∷ []) (Some c.in_ok-strip_prefix.field-0) c.in_ok-strip_prefix.ensures.cases in
    let last = rw c.bytes-name.ensures at (strip_prefix_is {A = ℕ}
    {E = nat_eq} Decides-eqb c.in_ok-strip_prefix.field-0.now c.bytes-name.result.now c.strip_prefix-4.result c.strip_prefix-4.ensures.cases) in
    rw (joined_is path _ (λ e. true≢false (sym (c.is_empty.ensures.1 e) ∙ c.if-is_empty.false)))
    (behind_both path _ c.args.path.now _ c.strip_prefix-4.result first (behind_both (backslash ∷ []) _ _ _ c.strip_prefix-4.result second last))
