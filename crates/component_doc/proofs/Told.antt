-- What a component document names is the selection that it was written of.
use Rattle.std.proofs.Common.{◌≡◌, ◌∙◌, ℕ, zero, suc, ◌+◌, List, [], ◌∷◌, ◌++◌, length, Bool, true, false, not, ◌&&◌, ◌||◌, if◌then◌else◌, Option, Some, None}
use Rattle.std.proofs.Common.{slice_get, arith, refl, sym, ap, append_assoc}
use Rattle.std.proofs.lemmas.List.Folds.{list_any-append}
use Rattle.std.proofs.lemmas.Option.{none-some, same_Some}
use Rattle.std.proofs.lemmas.Slice.Eq.{bytes_eq-Decides}
use Rattle.std.specs.List.{list_all, list_any}
use Rattle.std.specs.Str.{bytes_eq}
use Rattle.std.proofs.lemmas.Bool.{or_parts}
use Rattle.std.proofs.lemmas.Grind.{common_steps}
use Rattle.serde_json.specs.Data.{Items, item}
use Rattle.vss_names.specs.declared.context.Context.{Context}
use Rattle.vss_names.proofs.LookUps.{context_of_number-number_of}
use Rattle.writer_meta.specs.Metadata.{Part, Meta, full_name}
use Rattle.writer_meta.specs.Document.{double_after}
use Rattle.writer_meta.proofs.Laws.{and_right}
use Rattle.component_doc.specs.declared.choice.Choice.{Choice}
use Rattle.component_doc.specs.Selection.{Pair, Selected, Named, has_pair, found_from, naming, is_taker, has_named_ancestor, has_selectable_ancestor}
use Rattle.component_doc.specs.Selection.{is_chosen, choice_if, choices_from, chosen_from, chosen}
use Rattle.component_doc.specs.Over.{AreAllowed, names_selectable, is_ascending, IsSelectedOver}
use Rattle.component_doc.specs.Document.{component_data, choices_data, document_of, document}
use Rattle.component_doc.specs.Reading.{context_in, explicit_in, writer_in, path_in, pairs_named, named_by, named_by_all, components_in, selected_in}
use Rattle.component_doc.proofs.Order.{AllPassed, has-none, put-last, passed-on, passed-with, passed-writer, AllAhead, all-ahead, ahead-next, IsFront, front}
use Rattle.component_doc.proofs.Order.{absent-over, unknown-over, writer-over, all-over}

-- ## components by their full names

same-text : (xs : List ℕ) → bytes_eq xs xs ≡ true
same-text xs = (bytes_eq-Decides xs xs).1 refl

apart-if : (b : Bool) (x : List ℕ) (rest : Option (List ℕ)) → (if b then Some x else rest) ≡ None → (b ≡ false) × (rest ≡ None)
apart-if b x rest e = grind arith

-- a component of such a list has none of these names
apart-at : (names : List (List ℕ)) (parts : List Part) (i : ℕ) (c : Part) → double_after names parts ≡ None → slice_get parts i ≡ Some c → list_any (λ name. bytes_eq name (full_name c)) names ≡ false
unfolding double_after
apart-at names [] i c apart at = absurd (none-some c at)
apart-at names (p ∷ parts) zero c apart at = grind (arith, common_steps, apart-if, same_Some)
apart-at names (p ∷ parts) (suc i) c apart at =
    let first = apart-if (list_any (λ name. bytes_eq name (full_name p)) names) (full_name p) (double_after (full_name p ∷ names) parts) apart in
    (or_parts (bytes_eq (full_name p) (full_name c)) (list_any (λ name. bytes_eq name (full_name c)) names) (apart-at (full_name p ∷ names) parts i c first.1 at)).1

found-from : (names : List (List ℕ)) (parts : List Part) (k i : ℕ) (c : Part) → double_after names parts ≡ None → slice_get parts i ≡ Some c
    → found_from (full_name c) k parts ≡ Some (record { component = k + i; selectable = c.selectable })
unfolding double_after
found-from names [] k i c apart at = absurd (none-some c at)
found-from names (p ∷ parts) k zero c apart at = grind (arith, common_steps, same_Some, same-text)
found-from names (p ∷ parts) k (suc i) c apart at =
    let first = apart-if (list_any (λ name. bytes_eq name (full_name p)) names) (full_name p) (double_after (full_name p ∷ names) parts) apart in
    let fact = found-from (full_name p ∷ names) parts (k + 1) i c first.1 in
    grind (arith, common_steps, or_parts (bytes_eq (full_name p) (full_name c)), apart-at (full_name p ∷ names) parts i c first.1)

-- ## the object of a component

item-here : (ms : List (Option Meta)) (m : Meta) (ch : Choice) (c : Part) (more : List Choice) → slice_get ms ch.writer ≡ Some (Some m) → slice_get m.parts ch.component ≡ Some c
    → choices_data ms (ch ∷ more) ≡ item (component_data m.class ch.explicit (full_name c) ch.writer) (choices_data ms more)
item-here ms m ch c more at found = rw at (rw found refl)

named_by-explicit : (ms : List (Option Meta)) (ps : List Pair) (class : ℕ) (full : List ℕ) (w : ℕ) → named_by ms ps (component_data class true full w) ≡ pairs_named (naming ms w full ps)
unfolding named_by component_data explicit_in writer_in path_in
named_by-explicit ms ps class full w = refl

named_by-implicit : (ms : List (Option Meta)) (ps : List Pair) (class : ℕ) (full : List ℕ) (w : ℕ) → named_by ms ps (component_data class false full w) ≡ Some ps
unfolding named_by component_data explicit_in writer_in path_in
named_by-implicit ms ps class full w = refl

-- ## one component after another

-- of the pairs, these were named, and those are left from component i of writer w on
record IsAt (ms : List (Option Meta)) (ps : List Pair) (w i : ℕ) (done rest : List Pair) : Type 0 where
  whole : done ++ rest ≡ ps
  passed : AllPassed w i done
  ahead : AllAhead w i rest
  up : is_ascending rest ≡ true
  names : list_all (names_selectable ms) rest ≡ true

-- these items name the pairs up to component i of writer w, and then those follow
record Names-up-to (ms : List (Option Meta)) (ps : List Pair) (w i : ℕ) (done : List Pair) (items more : Items) : Type 0 where
  now : List Pair
  left : List Pair
  step : named_by_all ms done items ≡ named_by_all ms now more
  place : IsAt ms ps w i now left

has-rest : (ms : List (Option Meta)) (ps : List Pair) (w i : ℕ) (done rest : List Pair) → IsAt ms ps w i done rest → has_pair ps w i ≡ has_pair rest w i
has-rest ms ps w i done rest at = grind (arith, list_any-append, has-none)

-- a component that was named
named-one : (ms : List (Option Meta)) (ps : List Pair) (m : Meta) (w i : ℕ) (c : Part) (done rest : List Pair) (more : List Choice) → slice_get ms w ≡ Some (Some m) → slice_get m.parts i ≡ Some c
    → double_after [] m.parts ≡ None → IsAt ms ps w i done rest → IsFront w i rest
    → Names-up-to ms ps w (i + 1) done (choices_data ms (record { writer = w; component = i; explicit = true } ∷ more)) (choices_data ms more)
unfolding named_by_all
named-one ms ps m w i c done rest more known found apart at first =
    let fact = named_by-explicit ms done m.class (full_name c) w in let fact1 = found-from [] m.parts 0 i c apart found in
    grind (arith, common_steps, has-none w i done at.passed, put-last w i done at.passed, item-here ms m, passed-with w i done at.passed)

-- a component that was not
other-one : (ms : List (Option Meta)) (ps : List Pair) (m : Meta) (w i : ℕ) (c : Part) (done rest : List Pair) (more : List Choice) (is_chosen : Bool) → slice_get ms w ≡ Some (Some m)
    → slice_get m.parts i ≡ Some c → IsAt ms ps w i done rest → has_pair rest w i ≡ false
    → Names-up-to ms ps w (i + 1) done (choices_data ms (choice_if is_chosen w i false ++ more)) (choices_data ms more)
unfolding named_by_all
other-one ms ps m w i c done rest more is_chosen known found at none = grind (arith, item-here, named_by-implicit, passed-on, ahead-next)

one-if : (ms : List (Option Meta)) (ps : List Pair) (m : Meta) (w i : ℕ) (c : Part) (done rest : List Pair) (more : List Choice) (named below alone : Bool) → slice_get ms w ≡ Some (Some m)
    → slice_get m.parts i ≡ Some c → double_after [] m.parts ≡ None → IsAt ms ps w i done rest → has_pair rest w i ≡ named
    → Names-up-to ms ps w (i + 1) done (choices_data ms (choice_if (named || below || alone) w i named ++ more)) (choices_data ms more)
one-if ms ps m w i c done rest more named below alone known found apart at has = grind (arith, named-one, front, other-one)

-- ## the components of a writer

through-parts : (ms : List (Option Meta)) (ps : List Pair) (m : Meta) (w i : ℕ) (cs : List Part) (done rest : List Pair) (more : List Choice)
    → slice_get ms w ≡ Some (Some m) → double_after [] m.parts ≡ None
    → ((k : ℕ) → slice_get cs k ≡ slice_get m.parts (i + k)) → i + length cs ≡ length m.parts → IsAt ms ps w i done rest
    → Names-up-to ms ps (w + 1) 0 done (choices_data ms (choices_from (Named ps) m.parts w i cs ++ more)) (choices_data ms more)
through-parts ms ps m w i [] done rest more known apart tie end at =
    let past : i ≡ length m.parts = omega (arith, end) in grind (arith, common_steps, passed-writer, writer-over)
through-parts ms ps m w i (c ∷ cs) done rest more known apart tie end at =
    let after = choices_from (Named ps) m.parts w (i + 1) cs ++ more in
    let here : slice_get m.parts i ≡ Some c = ap (slice_get m.parts) (plus-none i) ∙ sym (tie 0) in
    let first = one-if ms ps m w i c done rest after (has_pair ps w i) (has_named_ancestor ps w c 0 m.parts)
    (not c.selectable && not (has_selectable_ancestor c m.parts)) known here apart at (sym (has-rest ms ps w i done rest at)) in
    let others = through-parts ms ps m w (i + 1) cs first.now first.left more known apart (λ k. tie (suc k) ∙ ap (slice_get m.parts) (plus-one i k)) (omega (arith, end)) first.place in
    record {
      now = others.now;
      left = others.left;
      step = ap (λ l. named_by_all ms done (choices_data ms l))
          (append_assoc (choice_if (is_chosen ps m.parts w i c) w i (has_pair ps w i)) (choices_from (Named ps) m.parts w (i + 1) cs) more) ∙ first.step
          ∙ others.step;
      place = others.place;
    }
  where
    plus-none : (a : ℕ) → a ≡ a + 0
    plus-none a = omega arith

    plus-one : (a b : ℕ) → a + suc b ≡ a + 1 + b
    plus-one a b = omega arith

-- ## the writers

taker-rest : (ms : List (Option Meta)) (ps : List Pair) (w i : ℕ) (done rest : List Pair) → IsAt ms ps w i done rest → is_taker (Named ps) w ≡ false → is_taker (Named rest) w ≡ false
taker-rest ms ps w i done rest at none = grind (arith, or_parts, list_any-append)

writer-if : (ms : List (Option Meta)) (ps : List Pair) (m : Meta) (w : ℕ) (done rest : List Pair) (more : List Choice) (takes : Bool) → is_taker (Named ps) w ≡ takes → slice_get ms w ≡ Some (Some m)
    → double_after [] m.parts ≡ None → IsAt ms ps w 0 done rest
    → Names-up-to ms ps (w + 1) 0 done (choices_data ms ((if takes then choices_from (Named ps) m.parts w 0 m.parts else []) ++ more)) (choices_data ms more)
writer-if ms ps m w done rest more takes x8 known apart at = grind (arith, through-parts, passed-writer, absent-over, taker-rest)

through-writers : (ms : List (Option Meta)) (ps : List Pair) (w : ℕ) (os : List (Option Meta)) (done rest : List Pair) → AreAllowed os
    → ((k : ℕ) → slice_get os k ≡ slice_get ms (w + k)) → w + length os ≡ length ms
    → IsAt ms ps w 0 done rest → named_by_all ms done (choices_data ms (chosen_from (Named ps) w os)) ≡ Some ps
unfolding named_by_all
through-writers ms ps w [] done rest allowed tie end at = grind (arith, common_steps, all-over)
through-writers ms ps w (None ∷ os) done rest allowed tie end at =
    let known : slice_get ms w ≡ Some None = ap (slice_get ms) (plus-none w) ∙ sym (tie 0) in
    let place : IsAt ms ps (w + 1) 0 done rest = record {
      whole = at.whole;
      passed = passed-writer w 0 done at.passed;
      ahead = unknown-over ms w 0 rest known at.names at.ahead;
      up = at.up;
      names = at.names;
    } in
    through-writers ms ps (w + 1) os done rest allowed (λ k. tie (suc k) ∙ ap (slice_get ms) (plus-one w k)) (omega (arith, end)) place
  where
    plus-none : (a : ℕ) → a ≡ a + 0
    plus-none a = omega arith

    plus-one : (a b : ℕ) → a + suc b ≡ a + 1 + b
    plus-one a b = omega arith
through-writers ms ps w (Some m ∷ os) done rest allowed tie end at =
    let known : slice_get ms w ≡ Some (Some m) = ap (slice_get ms) (plus-none w) ∙ sym (tie 0) in
    let first = writer-if ms ps m w done rest (chosen_from (Named ps) (w + 1) os) (is_taker (Named ps) w) refl known allowed.0.distinct at in
    first.step ∙ through-writers ms ps (w + 1) os first.now first.left allowed.1 (λ k. tie (suc k) ∙ ap (slice_get ms) (plus-one w k)) (omega (arith, end)) first.place
  where
    plus-none : (a : ℕ) → a ≡ a + 0
    plus-none a = omega arith

    plus-one : (a b : ℕ) → a + suc b ≡ a + 1 + b
    plus-one a b = omega arith

named-back : (ms : List (Option Meta)) (ps : List Pair) → AreAllowed ms → IsSelectedOver ms (Named ps) → named_by_all ms [] (choices_data ms (chosen (Named ps) ms)) ≡ Some ps
named-back ms ps allowed over =
    grind (arith, common_steps, through-writers ms ps 0 ms [] ps allowed, all-ahead ps, and_right (list_all (names_selectable ms) ps))

-- ## the whole

pub selected-back : (ms : List (Option Meta)) (s : Selected) (c : Context) → AreAllowed ms → IsSelectedOver ms s → selected_in ms (document ms s c) ≡ Some s
unfolding selected_in components_in document_of
selected-back ms s c allowed over = grind (arith, named-back)

pub context-back : (ms : List (Option Meta)) (s : Selected) (c : Context) → context_in (document ms s c) ≡ Some c
unfolding context_in document_of
context-back ms s c = rw (context_of_number-number_of c) refl
