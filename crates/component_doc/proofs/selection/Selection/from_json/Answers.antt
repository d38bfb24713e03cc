use Rattle.std.proofs.Common.{◌≡◌, ◌∙◌, ℕ, ◌<◌, ◌^◌, List, Bool, true, false, true≢false, length, sym, subst, rules}
use Rattle.component_doc.specs.Document.{IsDocumentOf}
use Rattle.std.proofs.lemmas.Slice.Eq.{bytes_eq-Decides}
use Rattle.std.specs.Str.{bytes_eq}
use Rattle.std.proofs.lemmas.List.{length-map}
use Rattle.component_doc.specs.Over.{metas_of}
use Rattle.component_doc.proofs.Known.{few-from_allowed}
use Rattle.component_doc.proofs.ReadBack.{no-context, no-selection-handed_on, no-document}
use Rattle.component_doc.proofs.selection.Selection.from_json.Goals as goal

-- texts that are not equal
differ : (xs ys : List ℕ) (same : Bool) → same ≡ bytes_eq xs ys → same ≡ false → xs ≡ ys → ⊥
differ xs ys same is apart e = true≢false (sym (is ∙ (bytes_eq-Decides xs ys).1 e) ∙ apart)

-- texts that are
equal : (xs ys : List ℕ) (same : Bool) → same ≡ bytes_eq xs ys → same ≡ true → xs ≡ ys
equal xs ys same is e = (bytes_eq-Decides xs ys).0 (sym is ∙ e)

pub returns-in_default-clause-refused : goal.returns-in_default-clause-refused
returns-in_default-clause-refused c =
    let ms = metas_of c.args.metas.now in
    let few : length ms < 2 ^ 32 = simp length-map c.requires.writers in
    no-context ms c.args.text.now _ few c.in_ok-value.ensures.ok (sym c.context_of.ensures ∙ c.in_default.is)

pub selection_of-requires-clause-few : goal.selection_of-requires-clause-few
selection_of-requires-clause-few c = few-from_allowed (metas_of c.args.metas.now) c.requires.allowed

pub returns-in_err-selection-clause-refused : goal.returns-in_err-selection-clause-refused
returns-in_err-selection-clause-refused c =
    let ms = metas_of c.args.metas.now in
    let few : length ms < 2 ^ 32 = simp length-map c.requires.writers in
    no-selection-handed_on _ ms c.args.text.now _ _ c.from_residual-in_err-selection.ensures.1 c.requires.allowed few c.in_ok-value.ensures.ok c.in_err-selection.ensures.refused

pub returns-then-not-is_same-clause-refused : goal.returns-then-not-is_same-clause-refused
returns-then-not-is_same-clause-refused c =
    let ms = metas_of c.args.metas.now in
    let few : length ms < 2 ^ 32 = simp length-map c.requires.writers in
    let apart : c.is_same.result ≡ false = search rules in
    no-document ms c.args.text.now _ _ _ _ c.requires.allowed few c.in_ok-value.ensures.ok (sym c.context_of.ensures ∙ c.in-Some.is) c.in_ok-selection.ensures.ok c.in_ok-written.ensures.written
    (λ same. differ c.bytes.result.now c.args.text.now c.is_same.result c.is_same.ensures apart (c.bytes.ensures ∙ same))

pub returns-clause-ok : goal.returns-clause-ok
returns-clause-ok c =
    let is : c.is_same.result ≡ true = search rules in
    let same : c.in_ok-written.written.bytes ≡ c.args.text.now = sym c.bytes.ensures ∙ equal c.bytes.result.now c.args.text.now c.is_same.result c.is_same.ensures is in
    subst (λ (text : List ℕ). IsDocumentOf (metas_of c.args.metas.now) text c.in-Some.context c.in_ok-selection.selection) same c.in_ok-written.ensures.reads_back
