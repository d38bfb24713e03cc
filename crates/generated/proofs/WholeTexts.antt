-- The text of the generated scenario of a number reads as a plan that is generated of this number.
use Rattle.std.proofs.Common.{◌≡◌, ◌∙◌, ℕ, zero, suc, ◌+◌, ◌<◌, List, [], ◌∷◌, ◌++◌, map, Some, None, refl, ap, sym, subst, arith, codes, append_assoc, ◌*◌}
use Rattle.std.proofs.Common.{◌≤◌, Bool, true, false, length, Option, ap₂, length-append}
use Rattle.std.specs.Prelude.{slice_get, ◌&&◌, not, nat_lt, is_some, ok_or, if◌then◌else◌, Result, Ok, Err}
use Rattle.generated.proofs.Terms.{range_with_len, is_name, Plan, LaneLine, lines_of, SoFar, nothing, plan_in, IsScenario, reading_of, as_lines, declarations}
use Rattle.generated.proofs.Terms.{set_lines, lanes_text, gen_text, one_set, four_sets, writes_of_lane, IsGenerated, flat_map, bytes_eq, decimal, decimal_digit}
use Rattle.generated.proofs.Terms.{decimal_step, length-map, map_push, nat_tests, Reason, Misplaced, UnknownName, UnknownWord, Span, span_from, bytes_of}
use Rattle.generated.proofs.Terms.{fields_of, word_of, place_of, lane_named, writer_named, ◌>>=◌, writer_field, name_field, free_lane_of, acting_lane_of}
use Rattle.generated.proofs.Terms.{lane_of, lane_if, placed_row_of, row_of, acting, lane_text, writes_text, first_of_both, second_of_both}
use Rattle.generated.specs.Scenario.{IsRead}
use Rattle.generated.proofs.Reader.{Then, begins, same_rest, ends, Says, end_of, head_is, tail_is, line_then, then_line, is_word, spans_at}
use Rattle.generated.proofs.Meant.{Meaning, AreMeant, all_end, LaneMeant, lines_at, lanes_whom, lane_lines, Run, IsSaid, with_meant, with_lane, Declared}
use Rattle.generated.proofs.Meant.{names_meant, lanes_names, lanes_snoc, count_new, agendas_new, still_declared, into_last}
use Rattle.generated.proofs.SetTexts.{all_declared, meaning_of, set_line, are_asked, writer_name, HasSpace}
use Rattle.generated.proofs.DeclaredLines.{no_run, declared_lines, new_name}
use Rattle.generated.proofs.WriteLines.{writes_end, writes_are, writes_meant, writes_begin_none, write_lines}
use Rattle.scenario.specs.SoFar.{after}
use Rattle.scenario.specs.SoFar as saying

-- ## the lanes that write, one after another

-- ## a lane begins

-- a lane of this name is new, and one of at most 64
pub record IsNewLane (name : List ℕ) (run : Run) : Type 0 where
  pub word : is_word name ≡ true
  pub named : is_name name ≡ true
  pub free : is_some (place_of name (names_meant run.lanes)) ≡ false
  pub few : nat_lt (length (names_meant run.lanes)) 64 ≡ true

lane_holds : (text : List ℕ) (m : Declared) (run : Run) (d : SoFar) (span : Span) (name : List ℕ) (whom : Option ℕ) → IsSaid text m run d → bytes_of text span ≡ name
    → IsSaid text m (with_lane name whom run) (after d (saying.Lane span whom))
lane_holds text m run d span name whom h e = grind (arith, still_declared, lanes_snoc, count_new, agendas_new)

new_lane_is : (text : List ℕ) (m : Declared) (run : Run) (d : SoFar) (span : Span) (name : List ℕ) → IsSaid text m run d → IsNewLane name run → bytes_of text span ≡ name
    → name_field text (is_some (lane_named text d.lanes (bytes_of text span))) span ≡ Ok span
unfolding lane_named
new_lane_is text m run d span name h new e = grind (arith, new_name, lanes_names)

few_lanes : (text : List ℕ) (m : Declared) (run : Run) (d : SoFar) (span : Span) (name : List ℕ) (whom : Option ℕ) → IsSaid text m run d → IsNewLane name run
    → lane_if d span whom ≡ Ok (saying.Lane span whom)
few_lanes text m run d span name whom h new = grind (arith, length-map, lanes_names)

pub free_lane : (text rest : List ℕ) (m : Declared) (run : Run) (name : List ℕ) → IsNewLane name run
    → Then text (line_then (codes "lane" ∷ name ∷ []) rest) (IsSaid text m run) → Then text rest (IsSaid text m (with_lane name None run))
unfolding word_of row_of free_lane_of
free_lane text rest m run name new i =
    then_line text 108 (codes "ane") (name ∷ []) rest (IsSaid text m run) (IsSaid text m (with_lane name None run)) (ap (λ b. b && true) new.word) refl says i
  where
    says : (d : SoFar) → IsSaid text m run d → (number at : ℕ) → map (bytes_of text) (spans_at at (name ∷ [])) ≡ name ∷ []
        → Says (λ said. IsSaid text m (with_lane name None run) (after d said)) (placed_row_of text d number (end_of at (name ∷ [])) (word_of (codes "lane")) (spans_at at (name ∷ [])))
    says d h number at parts =
        let span = span_from at (at + length name) in
        let is = head_is _ _ _ _ parts in
        record {
          said = saying.Lane span None;
          is = ap (λ b. if b then free_lane_of text d span else Err Misplaced) h.declared.opened
              ∙ ap (λ (r : Result Span Reason). r >>= (λ n. lane_if d n None)) (new_lane_is text m run d span name h new is)
              ∙ few_lanes text m run d span name None h new;
          holds = lane_holds text m run d span name None h is;
        }

acting_lane : (text rest : List ℕ) (run : Run) (name : List ℕ) (w : ℕ) → is_word (writer_name w) ≡ true → place_of (writer_name w) all_declared.writers ≡ Some w → IsNewLane name run
    → Then text (line_then (codes "lane" ∷ name ∷ codes "as" ∷ writer_name w ∷ []) rest) (IsSaid text all_declared run) → Then text rest (IsSaid text all_declared (with_lane name (Some w) run))
unfolding word_of row_of acting_lane_of writer_field writer_named
acting_lane text rest run name w plain found new i =
    then_line text 108 (codes "ane") (name ∷ codes "as" ∷ writer_name w ∷ []) rest (IsSaid text all_declared run) (IsSaid text all_declared (with_lane name (Some w) run))
    (ap₂ (λ a b. a && (b && true)) new.word plain) refl says i
  where
    says : (d : SoFar) → IsSaid text all_declared run d → (number at : ℕ) → map (bytes_of text) (spans_at at (name ∷ codes "as" ∷ writer_name w ∷ [])) ≡ name ∷ codes "as" ∷ writer_name w ∷ []
        → Says (λ said. IsSaid text all_declared (with_lane name (Some w) run) (after d said)) (placed_row_of text d number (end_of at (name ∷ codes "as" ∷ writer_name w ∷ [])) (word_of (codes "lane")) (spans_at at (name ∷ codes "as" ∷ writer_name w ∷ [])))
    says d h number at parts =
        let span = span_from at (at + length name) in
        let kind = span_from (at + length name + 1) (at + length name + 1 + 2) in
        let writer = span_from (at + length name + 1 + 2 + 1) (at + length name + 1 + 2 + 1 + length (writer_name w)) in
        let is = head_is _ _ _ _ parts in
        let more = tail_is _ _ _ _ parts in
        let last = tail_is _ _ _ _ more in
        record {
          said = saying.Lane span (Some w);
          is = ap (λ b. if b then lane_of text d (fields_of (span ∷ kind ∷ writer ∷ [])) else Err Misplaced) h.declared.opened
              ∙ ap (λ (r : Result Span Reason). r >>= (λ n. if bytes_eq (bytes_of text kind) (codes "as") then (writer_field text d.writers writer >>= (λ x. lane_if d n (Some x))) else Err UnknownWord)) (new_lane_is text all_declared run d span name h new is)
              ∙ ap (λ (bytes : List ℕ). if bytes_eq bytes (codes "as") then (writer_field text d.writers writer >>= (λ x. lane_if d span (Some x))) else Err UnknownWord) (head_is _ _ _ _ more)
              ∙ ap₂ (λ (bytes : List ℕ) names. ok_or (place_of bytes names) UnknownName >>= (λ x. lane_if d span (Some x))) (head_is _ _ _ _ last) h.declared.writers
              ∙ ap (λ (o : Option ℕ). ok_or o UnknownName >>= (λ x. lane_if d span (Some x))) found
              ∙ few_lanes text all_declared run d span name (Some w) h new;
          holds = lane_holds text all_declared run d span name (Some w) h is;
        }

-- ## a lane that writes

-- a number below 20 in decimal digits
abbrev pub digits_of : ℕ → List ℕ
digits_of i = if nat_lt i 10 then (48 + i) ∷ [] else 49 ∷ (38 + i) ∷ []

abbrev pub lane_name : ℕ → List ℕ
lane_name i = 108 ∷ digits_of i

-- as whom lane i acts
abbrev pub whom_of : ℕ → Option ℕ
whom_of i = if nat_lt i 4 then Some 2 else if nat_lt i 7 then Some 1 else if nat_lt i 10 then Some 0 else None

decimal_is : (i : ℕ) → i < 16 → decimal i ≡ digits_of i
decimal_is i l = grind (arith, decimal_digit, decimal_step)

-- the lane that i is, with its writes
abbrev pub lane_meant : ℕ → ℕ → LaneMeant
lane_meant n i = record { name = lane_name i; whom = whom_of i; lines = writes_meant n i }

abbrev pub after_lane : ℕ → Run → ℕ → Run
after_lane n run i = record { lanes = run.lanes ++ lane_meant n i ∷ []; lines = run.lines + 200; agendas = run.agendas }

-- the text of a lane: its name, as whom it acts, and what it writes
lane_parts : (ds mid writes rest : List ℕ) → (codes "lane l" ++ ds ++ mid ++ codes "\n" ++ writes) ++ rest ≡ codes "lane l" ++ (ds ++ (mid ++ 10 ∷ (writes ++ rest)))
lane_parts ds mid writes rest = five (codes "lane l") ds mid (codes "\n") writes
  where
    five : (a b c d e : List ℕ) → (a ++ b ++ c ++ d ++ e) ++ rest ≡ a ++ (b ++ (c ++ (d ++ (e ++ rest))))
    five a b c d e = simp append_assoc

acting_text : (ds who rest : List ℕ) → codes "lane l" ++ (ds ++ ((codes " as " ++ who) ++ 10 ∷ rest)) ≡ line_then (codes "lane" ∷ (108 ∷ ds) ∷ codes "as" ∷ who ∷ []) rest
acting_text ds who rest = ap (λ xs. codes "lane l" ++ xs) (sym (append_assoc ds (codes " as " ++ who) (10 ∷ rest)))

-- a lane begins, whoever it acts as
lane_begins : (text rest : List ℕ) (run : Run) (i : ℕ) → IsNewLane (lane_name i) run
    → Then text (codes "lane l" ++ (digits_of i ++ (acting i ++ 10 ∷ rest))) (IsSaid text all_declared run)
    → Then text rest (IsSaid text all_declared (with_lane (lane_name i) (whom_of i) run))
lane_begins text rest run i new = by_third (nat_lt i 4) (nat_lt i 7) (nat_lt i 10)
  where
    acts : (w : ℕ) → is_word (writer_name w) ≡ true → place_of (writer_name w) all_declared.writers ≡ Some w
        → Then text (codes "lane l" ++ (digits_of i ++ ((codes " as " ++ writer_name w) ++ 10 ∷ rest))) (IsSaid text all_declared run)
        → Then text rest (IsSaid text all_declared (with_lane (lane_name i) (Some w) run))
    acts w plain found t = acting_lane text rest run (lane_name i) w plain found new (same_rest text _ _ (IsSaid text all_declared run) (acting_text (digits_of i) (writer_name w) rest) t)

    by_third : (a b c : Bool)
        → Then text (codes "lane l" ++ (digits_of i ++ ((if a then codes " as web" else if b then codes " as db" else if c then codes " as sys" else []) ++ 10 ∷ rest))) (IsSaid text all_declared run)
        → Then text rest (IsSaid text all_declared (with_lane (lane_name i) (if a then Some 2 else if b then Some 1 else if c then Some 0 else None) run))
    by_third true b c t = acts 2 refl refl t
    by_third false true c t = acts 1 refl refl t
    by_third false false true t = acts 0 refl refl t
    by_third false false false t = free_lane text rest all_declared run (lane_name i) new t

begun_with : (n i : ℕ) (run : Run) → with_meant (writes_meant n i) (with_lane (lane_name i) (whom_of i) run) ≡ after_lane n run i
begun_with n i run = grind (arith, writes_begin_none, into_last)

writing_lane : (text rest : List ℕ) (run : Run) (n i : ℕ) → i < 16 → IsNewLane (lane_name i) run → HasSpace 200 (with_lane (lane_name i) (whom_of i) run)
    → Then text (lane_text n i ++ rest) (IsSaid text all_declared run) → Then text rest (IsSaid text all_declared (after_lane n run i))
writing_lane text rest run n i l new space t =
    let parts : lane_text n i ++ rest ≡ codes "lane l" ++ (digits_of i ++ (acting i ++ 10 ∷ (writes_text n i ++ rest)))
    = lane_parts (decimal i) (acting i) (writes_text n i) rest ∙ ap (λ ds. codes "lane l" ++ (ds ++ (acting i ++ 10 ∷ (writes_text n i ++ rest)))) (decimal_is i l) in
    subst (λ r. Then text rest (IsSaid text all_declared r)) (begun_with n i run)
    (write_lines text rest (with_lane (lane_name i) (whom_of i) run) n i l space
    (lane_begins text (writes_text n i ++ rest) run i new (same_rest text (lane_text n i ++ rest) _ (IsSaid text all_declared run) parts t)))

-- ## all of them

-- each of these lanes is new where it begins, behind lanes of these names
abbrev pub all_new : List ℕ → List (List ℕ) → Bool
all_new [] names = true
all_new (i ∷ is) names =
    (nat_lt i 16 && (is_word (lane_name i) && (is_name (lane_name i) && (not (is_some (place_of (lane_name i) names)) && nat_lt (length names) 64)))) && all_new is (names ++ lane_name i ∷ [])

abbrev pub after_all : ℕ → Run → List ℕ → Run
after_all n run [] = run
after_all n run (i ∷ is) = after_all n (after_lane n run i) is

below : (i : ℕ) → nat_lt i 16 ≡ true → i < 16
below i e = grind (arith, nat_tests)

new_from : (i : ℕ) (run : Run) → (is_word (lane_name i) && (is_name (lane_name i) && (not (is_some (place_of (lane_name i) (names_meant run.lanes))) && nat_lt (length (names_meant run.lanes)) 64))) ≡ true → IsNewLane (lane_name i) run
new_from i run e = grind arith

space_for : (k : ℕ) (run : Run) (name : List ℕ) (whom : Option ℕ) → run.lines + 200 * suc k ≤ 100000 → run.agendas + 200 ≤ 2000 → HasSpace 200 (with_lane name whom run)
space_for k run name whom few few_agendas =
    let len = length-append run.lanes (record { name = name; whom = whom; lines = [] } ∷ []) in
    record { lane = omega (arith, len); lines = omega (arith, few); agendas = few_agendas }

pub writing_lanes : (text : List ℕ) (n : ℕ) (is : List ℕ) (run : Run) → all_new is (names_meant run.lanes) ≡ true → run.lines + 200 * length is ≤ 100000 → run.agendas + 200 ≤ 2000
    → Then text (flat_map (lane_text n) is) (IsSaid text all_declared run) → Then text [] (IsSaid text all_declared (after_all n run is))
writing_lanes text n [] run new few few_agendas t = t
writing_lanes text n (i ∷ is) run new few few_agendas t =
    let first = first_of_both _ (all_new is (names_meant run.lanes ++ lane_name i ∷ [])) new in
    let rest = second_of_both _ (all_new is (names_meant run.lanes ++ lane_name i ∷ [])) new in
    writing_lanes text n is (after_lane n run i) (ap (all_new is) (map_push (λ (m : LaneMeant). m.name) run.lanes (lane_meant n i)) ∙ rest) (omega (arith, few)) few_agendas
    (writing_lane text (flat_map (lane_text n) is) run n i (below i (first_of_both (nat_lt i 16) _ first)) (new_from i run (second_of_both (nat_lt i 16) _ first)) (space_for (length is) run (lane_name i) (whom_of i) few few_agendas) t)

-- ## the lane that makes the sets

abbrev sets_lane : LaneMeant
sets_lane = record { name = codes "l0"; whom = None; lines = map meaning_of four_sets }

-- the lane that makes the sets alone
abbrev sets_run : Run
sets_run = record { lanes = sets_lane ∷ []; lines = 88; agendas = 16 }

abbrev one : List Meaning
one = map meaning_of one_set

first_lane : IsNewLane (codes "l0") no_run
unfolding is_name
first_lane = record { word = refl; named = refl; free = refl; few = refl }

abbrev begun : Run
begun = with_lane (codes "l0") None no_run

abbrev first_set : Run
first_set = with_meant one begun

abbrev second_set : Run
second_set = with_meant one first_set

abbrev third_set : Run
third_set = with_meant one second_set

four_lines : (text rest : List ℕ) → Then text (codes "lane l0\n" ++ (as_lines set_lines ++ (as_lines set_lines ++ (as_lines set_lines ++ (as_lines set_lines ++ rest))))) (IsSaid text all_declared no_run)
    → Then text rest (IsSaid text all_declared sets_run)
four_lines text rest t =
    let lane = free_lane text (as_lines set_lines ++ (as_lines set_lines ++ (as_lines set_lines ++ (as_lines set_lines ++ rest)))) all_declared no_run (codes "l0") first_lane t in
    let a = set_line text (as_lines set_lines ++ (as_lines set_lines ++ (as_lines set_lines ++ rest))) begun (record { lane = omega arith; lines = omega arith; agendas = omega arith }) lane in
    let b = set_line text (as_lines set_lines ++ (as_lines set_lines ++ rest)) first_set (record { lane = omega arith; lines = omega arith; agendas = omega arith }) a in
    let c = set_line text (as_lines set_lines ++ rest) second_set (record { lane = omega arith; lines = omega arith; agendas = omega arith }) b in
    set_line text rest third_set (record { lane = omega arith; lines = omega arith; agendas = omega arith }) c

-- ## the whole text

abbrev all_lanes : List ℕ
all_lanes = range_with_len 1 15

abbrev whole : ℕ → Run
whole n = after_all n sets_run all_lanes

-- the text in its parts, one after another
in_parts : (a b c d e f g : List ℕ) → a ++ b ++ c ++ d ++ e ++ f ++ g ≡ a ++ (b ++ (c ++ (d ++ (e ++ (f ++ g)))))
in_parts a b c d e f g = simp append_assoc

text_said : (text : List ℕ) (n : ℕ) → text ≡ gen_text n → Then text [] (IsSaid text all_declared (whole n))
unfolding is_name
text_said text n e =
    let parts = in_parts (as_lines declarations) (codes "lane l0\n") (as_lines set_lines) (as_lines set_lines) (as_lines set_lines) (as_lines set_lines) (lanes_text n) in
    let declared = declared_lines text (codes "lane l0\n" ++ (as_lines set_lines ++ (as_lines set_lines ++ (as_lines set_lines ++ (as_lines set_lines ++ lanes_text n)))))
    (same_rest text text _ (λ d. d ≡ nothing) (e ∙ parts) (begins text (λ d. d ≡ nothing) refl)) in
    writing_lanes text n all_lanes sets_run refl (omega arith) (omega arith) (four_lines text (lanes_text n) declared)

-- ## what it says

abbrev lanes_meant : ℕ → List LaneMeant
lanes_meant n = sets_lane ∷ map (lane_meant n) all_lanes

lane_at : (n a m i : ℕ) → i < m → slice_get (map (lane_meant n) (range_with_len a m)) i ≡ Some (lane_meant n (a + i))
lane_at n a zero i l = absurd (omega (arith, l))
lane_at n a (suc m) zero l = ap (λ x. Some (lane_meant n x)) (none a)
  where
    none : (a : ℕ) → a ≡ a + 0
    none a = omega arith
lane_at n a (suc m) (suc i) l = lane_at n (a + 1) m i (omega (arith, l)) ∙ ap (λ x. Some (lane_meant n x)) (shift a i)
  where
    shift : (a i : ℕ) → a + 1 + i ≡ a + suc i
    shift a i = omega arith

writing_lines : (text : List ℕ) (n : ℕ) (d : SoFar) (i : ℕ) → IsSaid text all_declared (whole n) d → i < 15 → map (λ (l : LaneLine). l.op) (lines_of (plan_in text d) (suc i)) ≡ writes_of_lane n (suc i)
writing_lines text n d i h l =
    let at = lane_at n 1 15 i l in
    let all = lane_lines text (lanes_meant n) d.lanes (suc i) h.lanes (ap (λ m. all_end (lines_at m)) at ∙ writes_end n (1 + i) (range_with_len 0 200)) in
    writes_are text n (1 + i) (range_with_len 0 200) (lines_of (plan_in text d) (suc i)) (subst (λ m. AreMeant text (lines_at m) (lines_of (plan_in text d) (suc i))) at all)
    ∙ ap (writes_of_lane n) (next i)
  where
    next : (i : ℕ) → 1 + i ≡ suc i
    next i = omega arith

generated_is : (text : List ℕ) (n : ℕ) (d : SoFar) → IsSaid text all_declared (whole n) d → IsGenerated n (plan_in text d)
generated_is text n d h = record {
  volumes = h.declared.shapes;
  writers = h.declared.metas;
  scripts = h.declared.scripts;
  as_whom = lanes_whom text (lanes_meant n) d.lanes h.lanes;
  sets = are_asked (plan_in text d) four_sets (lines_of (plan_in text d) 0) (lane_lines text (lanes_meant n) d.lanes 0 h.lanes refl);
  writes = λ i l. writing_lines text n d i h l;
}

pub text_read : (n : ℕ) → IsRead n
text_read n = from_text (gen_text n) refl
  where
    from_text : (text : List ℕ) → text ≡ gen_text n → IsRead n
    from_text text e =
        let said = text_said text n e in
        record {
          plan = plan_in text said.d;
          read = ap reading_of (sym e) ∙ ends text (IsSaid text all_declared (whole n)) said said.holds.declared.opened;
          generated = generated_is text n said.d said.holds;
        }

same_plan : (s t : Plan) → IsScenario s ≡ IsScenario t → s ≡ t
same_plan s t e = cc

pub all_generated : (n : ℕ) (s : Plan) → reading_of (gen_text n) ≡ IsScenario s → IsGenerated n s
all_generated n s e = let r = text_read n in subst (IsGenerated n) (same_plan r.plan s (sym r.read ∙ e)) r.generated
