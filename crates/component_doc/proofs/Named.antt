-- The components of a document, named one after another, and which of them are ancestors on a path.
use Rattle.std.proofs.Common.{◌≡◌, ℕ, ◌+◌, ◌<◌, ◌≤◌, List, length, get_or, drop, Option, Some, Result, IfErr, IsErrAnd, option_and_then, true, refl, arith, ◌≢◌}
use Rattle.std.proofs.Common.{◌∙◌, [], ◌∷◌, ◌++◌, length-append, Bool, false, None, nat_eq, ◌==◌, ◌||◌, ap, sym, Bor}
use Rattle.std.proofs.lemmas.Bool.{false_from_ne_true, true≢false}
use Rattle.std.proofs.lemmas.Bool.Decides.{Decides-eqb}
use Rattle.std.proofs.lemmas.Grind.{common_steps}
use Rattle.std.proofs.lemmas.List.{drop_more, drop_all, append-nil, append_assoc, append_cancel_left}
use Rattle.std.proofs.lemmas.Slice.Eq.{bytes_eq-Decides, starts_is}
use Rattle.std.specs.List.{starts_with}
use Rattle.std.specs.Str.{bytes_eq}
use Rattle.serde_json.specs.View.{view, items_view}
use Rattle.serde_json.specs.declared.value.Value.{Value}
use Rattle.writer_meta.specs.Metadata.{Meta, joined, backslash}
use Rattle.component_doc.specs.Reading.{IsBehind, named_by, named_by_all}
use Rattle.component_doc.specs.Over.{is_named, pairs_of}
use Rattle.component_doc.specs.Refusal.{Lacks}
use Rattle.component_doc.specs.Selection.{Pair, Selected, Named}
use Rattle.component_doc.specs.declared.doc_fault.DocFault.{DocFault}

-- ## The components of a document, named one after another.

pub Lacks-and_then : {A B : Type 0} (fault : DocFault) (found : Option A) (more : A → Option B) → Lacks fault found → Lacks fault (option_and_then more found)
Lacks-and_then fault found more h = grind arith

-- where a call's error is handed on
pub Lacks-handed_on : {T A : Type 0} (r : Result T DocFault) (fault : DocFault) (found : Option A) → IsErrAnd r (λ f. f ≡ fault) → Lacks fault found → IfErr r (λ f. Lacks f found)
Lacks-handed_on r fault found is h = grind arith

pub named-more : (ms : List (Option Meta)) (values : List Value) (i : ℕ) (v : Value) (old new : List Pair) → i < length values → v ≡ get_or values i v → named_by ms old (view v) ≡ Some new
    → named_by_all ms old (items_view (drop i values)) ≡ named_by_all ms new (items_view (drop (i + 1) values))
unfolding named_by_all
named-more ms values i v old new within is names = grind (arith, drop_more)

pub Lacks-named : (fault : DocFault) (ms : List (Option Meta)) (values : List Value) (i : ℕ) (v : Value) (old : List Pair) → i < length values
    → v ≡ get_or values i v → Lacks fault (named_by ms old (view v))
    → Lacks fault (named_by_all ms old (items_view (drop i values)))
unfolding named_by_all
Lacks-named fault ms values i v old within is lacks = grind (arith, drop_more, Lacks-and_then)

pub named-all : (ms : List (Option Meta)) (values : List Value) (i : ℕ) (ps : List Pair) → length values ≤ i → named_by_all ms ps (items_view (drop i values)) ≡ Some ps
unfolding named_by_all
named-all ms values i ps past = rw (drop_all i values past) refl

pub named-selected : (s : Selected) → is_named s ≡ true → Some (Named (pairs_of s)) ≡ Some s
named-selected s named = grind arith

-- ## What a path has behind a component's full name, and so whether the component is an ancestor on that path.

-- ## behind two beginnings, one after the other

pub not_behind : (p q text : List ℕ) → ((more : List ℕ) → text ≢ p ++ more) → IsBehind text (p ++ q) None
not_behind p q text none more is = none (q ++ more) (is ∙ append_assoc p q more)

pub behind_both : (p q text x : List ℕ) (rest : Option (Bor (List ℕ))) → text ≡ p ++ x → IsBehind x q rest → IsBehind text (p ++ q) rest
behind_both p q text x rest is none = grind (arith, append_cancel_left, append_assoc)

pub joined_is : (path name : List ℕ) → path ≢ [] → joined path name ≡ path ++ backslash ∷ name
joined_is path name some = grind arith

-- ## whether a path is that name, or goes on below it

abbrev is_below : List ℕ → List ℕ → Bool
is_below path name = bytes_eq path name || starts_with nat_eq path (name ++ backslash ∷ [])

not_begun : (path name : List ℕ) → ((more : List ℕ) → path ≢ name ++ more) → starts_with nat_eq path name ≡ false
not_begun path name none = false_from_ne_true _ (λ e. none _ ((starts_is Decides-eqb path name _ refl).0 e))

pub not_below : (path name : List ℕ) → ((more : List ℕ) → path ≢ name ++ more) → is_below path name ≡ false
not_below path name none =
    let other = false_from_ne_true (bytes_eq path name) (λ e. none [] ((bytes_eq-Decides path name).0 e ∙ sym (append-nil name))) in
    rw (other, not_begun path (name ++ backslash ∷ []) (λ more e. none (backslash ∷ more) (e ∙ append_assoc name (backslash ∷ []) more))) refl

pub below_all : (path name rest : List ℕ) → path ≡ name ++ rest → (length rest == 0) ≡ true → is_below path name ≡ true
below_all path name rest is none = grind (arith, common_steps, bytes_eq-Decides, append-nil)

pub below_at : (path name rest : List ℕ) → path ≡ name ++ rest → (length rest == 0) ≡ false → is_below path name ≡ nat_eq (get_or rest 0 0) backslash
below_at path name [] is some = absurd (true≢false some)
below_at path name (b ∷ rest) is some = rw other (by_byte (b == backslash) refl) where
  other : bytes_eq path name ≡ false
  other = false_from_ne_true (bytes_eq path name) (λ e. let same = ap length (sym ((bytes_eq-Decides path name).0 e) ∙ is) in omega (arith, length-append name (b ∷ rest), same))

  by_byte : (t : Bool) → (b == backslash) ≡ t → starts_with nat_eq path (name ++ backslash ∷ []) ≡ t
  by_byte true e =
      let same = (Decides-eqb b backslash).0 e in
      (starts_is Decides-eqb path (name ++ backslash ∷ []) _ refl).1 rest (is ∙ ap (λ (c : ℕ). name ++ c ∷ rest) same ∙ sym (append_assoc name (backslash ∷ []) rest))
  by_byte false e = not_begun path (name ++ backslash ∷ []) (λ more all.
      let heads = append_cancel_left name (b ∷ rest) (backslash ∷ more) (sym is ∙ all ∙ append_assoc name (backslash ∷ []) more) in
      let same : b ≡ backslash = cc in
      true≢false (sym ((Decides-eqb b backslash).1 same) ∙ e))
