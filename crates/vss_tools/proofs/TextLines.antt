-- A text that grows, and the lines of a report, one line on.
use Rattle.std.proofs.Common.{◌≡◌, ℕ, ◌≤◌, List, [], ◌∷◌, ◌++◌, length, refl, ap, sym, ◌∙◌, ◌+◌, ◌-◌, append-nil, append_assoc, arith, drop, rules, subst, take}
use Rattle.std.proofs.Common.{◌<◌, map, get_or}
use Rattle.std.proofs.lemmas.Grind.{flat_map-append}
use Rattle.std.proofs.lemmas.List.{drop-take, length-take, take-append-drop, take-take, at_drop_all, at_drop_more}
use Rattle.std.proofs.lemmas.List.Elements.{All-append}
use Rattle.std.specs.List.{flat_map, list_any}
use Rattle.std.specs.Prelude.{Bool, Option, None, Some, ◌||◌}
use denote.Ref.{Bor}
use Rattle.vss_tools.specs.Drawn.{IsDrawn, part_text, parts_text, AddsLines, IsInLines, IsLines, printable, printable_byte, with_newline}
use Rattle.vss_tools.specs.Refused.{fault_of, refusal_from, refused_at}
use Rattle.vss_tools.specs.declared.timeline.fault.Fault.{Fault}
use Rattle.vss_tools.specs.declared.timeline.part.Part.{Part}
use Rattle.vss_tools.specs.declared.timeline.refusal.Refusal.{Refusal}

-- ## A text that grows.

-- ## in parts

pub drawn_none : IsDrawn []
drawn_none = record { parts = []; whole = refl }

pub drawn_more : (old new : List ℕ) (parts : List Part) → new ≡ old ++ parts_text parts → IsDrawn old → IsDrawn new
drawn_more old new parts e h = record {
  parts = h.parts ++ parts;
  whole = e ∙ ap (λ t. t ++ parts_text parts) h.whole ∙ sym (flat_map-append part_text h.parts parts);
}

-- ## in lines

pub lines_none : IsInLines [] []
lines_none = record { parts = []; each = search rules; all = refl; lines = refl }

pub lines_one : (part : List ℕ) → length part ≤ 100 → IsInLines (part ++ 10 ∷ []) part
lines_one part short = record {
  parts = part ∷ [];
  each = search (rules, short);
  all = sym (append-nil part);
  lines = sym (append-nil (part ++ 10 ∷ []));
}

pub lines_join : (one two a b : List ℕ) → IsInLines one a → IsInLines two b → IsInLines (one ++ two) (a ++ b)
lines_join one two a b g h = record {
  parts = g.parts ++ h.parts;
  each = All-append (λ (l : List ℕ). length l ≤ 100) g.parts h.parts g.each h.each;
  all = ap (λ t. t ++ b) g.all ∙ ap (λ t. flat_map (λ part. part) g.parts ++ t) h.all ∙ sym (flat_map-append (λ part. part) g.parts h.parts);
  lines = ap (λ t. t ++ two) g.lines ∙ ap (λ t. flat_map with_newline g.parts ++ t) h.lines ∙ sym (flat_map-append with_newline g.parts h.parts);
}

pub adds_none : (old : List ℕ) → AddsLines old old []
adds_none old = record { bytes = []; lines = lines_none; all = sym (append-nil old) }

pub adds_more : (old mid one two text part whole : List ℕ) → AddsLines old mid text → length part ≤ 100 → one ≡ mid ++ part → two ≡ one ++ 10 ∷ [] → text ++ part ≡ whole → AddsLines old two whole
adds_more old mid one two text part whole h short e f w = record {
  bytes = h.bytes ++ (part ++ 10 ∷ []);
  lines = subst (IsInLines (h.bytes ++ (part ++ 10 ∷ []))) w (lines_join h.bytes (part ++ 10 ∷ []) text part h.lines (lines_one part short));
  all = f ∙ ap (λ t. t ++ 10 ∷ []) (e ∙ ap (λ t. t ++ part) h.all) ∙ simp append_assoc;
}

pub is_lines_more : (old new text : List ℕ) → AddsLines old new (printable text) → IsLines old → IsLines new
is_lines_more old new text a h = record {
  text = h.text ++ text;
  lines = subst (IsInLines new) (sym (flat_map-append printable_byte h.text text))
      (subst (λ t. IsInLines t (printable h.text ++ printable text)) (sym a.all) (lines_join old a.bytes (printable h.text) (printable text) h.lines a.lines));
}

pub is_lines_none : IsLines []
is_lines_none = record { text = []; lines = lines_none }

-- ## a part of a line

pub part_short : (a b : ℕ) (line : List ℕ) → b - a ≤ 100 → length (take (b - a) (drop a line)) ≤ 100
part_short a b line le = omega (arith, length-take (b - a) (drop a line))

pub part_next : (a b : ℕ) (line : List ℕ) → a ≤ b → take a line ++ take (b - a) (drop a line) ≡ take b line
part_next a b line le =
    let e : a + (b - a) ≡ b = omega arith in
    ap (λ t. take a line ++ t) (sym (drop-take a (b - a) line) ∙ ap (λ k. drop a (take k line)) e) ∙ ap (λ t. t ++ drop a (take b line)) (sym (take-take a b line le))
    ∙ take-append-drop a (take b line)

-- ## The lines of a report, one line on.

-- what is read past the end
abbrev pub no_line : Bor (List ℕ)
no_line = record { ref_ptr = (0, 0); now = [] }

-- the texts behind these lines
abbrev pub texts : List (Bor (List ℕ)) → List (List ℕ)
texts lines = map (λ (line : Bor (List ℕ)). line.now) lines

pub texts_more : {Y : Type 0} (f : List (List ℕ) → Y) (all : List (Bor (List ℕ))) (at : ℕ) → at < length all
    → f (texts (drop at all)) ≡ f ((get_or all at no_line).now ∷ texts (drop (at + 1) all))
texts_more f all at l = at_drop_more (λ xs. f (texts xs)) all at no_line l

pub texts_all : {Y : Type 0} (f : List (List ℕ) → Y) (all : List (Bor (List ℕ))) (at : ℕ) → length all ≤ at → f (texts (drop at all)) ≡ f []
texts_all f all at l = at_drop_all (λ xs. f (texts xs)) all at l

pub any_text : (p : List ℕ → Bool) (lines : List (Bor (List ℕ))) → list_any (λ (line : Bor (List ℕ)). p line.now) lines ≡ list_any p (texts lines)
any_text p [] = refl
any_text p (line ∷ rest) = ap (λ t. p line.now || t) (any_text p rest)

-- ## what is refused

pub good_on : (script : List (List ℕ)) (all : List (Bor (List ℕ))) (at : ℕ) (whole : Option Refusal) → at < length all → fault_of script (get_or all at no_line).now ≡ None
    → refusal_from script (at + 1) (texts (drop at all)) ≡ whole → refusal_from script (at + 1 + 1) (texts (drop (at + 1) all)) ≡ whole
good_on script all at whole l good h =
    sym (ap (λ f. refused_at (at + 1) f (refusal_from script (at + 1 + 1) (texts (drop (at + 1) all)))) good)
    ∙ sym (texts_more (refusal_from script (at + 1)) all at l) ∙ h

pub bad_at : (script : List (List ℕ)) (all : List (Bor (List ℕ))) (at : ℕ) (why : Fault) (whole : Option Refusal) → at < length all → fault_of script (get_or all at no_line).now ≡ Some why
    → refusal_from script (at + 1) (texts (drop at all)) ≡ whole → whole ≡ Some (record { line = at + 1; fault = why })
bad_at script all at why whole l bad h =
    sym h ∙ texts_more (refusal_from script (at + 1)) all at l
    ∙ ap (λ f. refused_at (at + 1) f (refusal_from script (at + 1 + 1) (texts (drop (at + 1) all)))) bad

pub good_to_the_end : (script : List (List ℕ)) (all : List (Bor (List ℕ))) (at : ℕ) (whole : Option Refusal) → length all ≤ at
    → refusal_from script (at + 1) (texts (drop at all)) ≡ whole → whole ≡ None
good_to_the_end script all at whole l h = sym h ∙ texts_all (refusal_from script (at + 1)) all at l
