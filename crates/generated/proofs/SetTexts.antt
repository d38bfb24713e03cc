-- The lines of lanes, one after another, and those of the lane that makes the sets: each means what it asks for.
use Rattle.std.proofs.Common.{◌≡◌, ◌∙◌, ℕ, suc, ◌+◌, ◌<◌, ◌≤◌, Bool, true, false, List, [], ◌∷◌, length, map, Some, refl, ap, ap₂, sym, subst, arith, zero}
use Rattle.std.proofs.Common.{◌++◌, codes, length-append}
use Rattle.std.specs.Prelude.{◌==◌, ◌&&◌, ◌||◌, not, cond, nat_lt, if◌then◌else◌, Result, Ok, Err, ok_or}
use Rattle.scenario.specs.Grammar.{line_of}
use Rattle.scenario.specs.SoFar.{after}
use Rattle.scenario.specs.SoFar as saying
use Rattle.generated.proofs.Standing.{less_is}
use Rattle.generated.proofs.Meant.{Declared, IsDeclared, Meaning, IsMeant, begins, begins_as, LaneMeant, lines_more, lanes_count, lanes_with, agendas_with, Run}
use Rattle.generated.proofs.Meant.{IsSaid, still_declared, with_meant, with_nothing, begins_cons, with_first, Does, NamesMain, AreMeant}
use Rattle.generated.proofs.Reader.{Says, end_of, Then, line_then, then_line, head_is, same_rest, are_words, spans_at}
use Rattle.generated.proofs.Terms.{list_all, Op, Reason, Misplaced, TooMany, LaneLine, begins_agenda, bytes_of, fields_of, fields_for, name_of, word_of, ◌>>=◌}
use Rattle.generated.proofs.Terms.{op_of, SoFar, line_count, agenda_count, may_stand, has_line_room, row_of, placed_row_of, first_of_both, second_of_both}
use Rattle.generated.proofs.Terms.{lines_more as count_with, range_with_len, nat_tests, Begin, Gather, Start, Add, Prepare, Snapshot, Await, Complete, End}
use Rattle.generated.proofs.Terms.{UnknownName, Plan, span_from, rest_fields, number_in, place_of, volume_named, writer_named, number_field, volume_field}
use Rattle.generated.proofs.Terms.{writer_field, volume_alone, begin_of, component_of, add_of, as_lines, set_lines, Asked, Begins, Gathers, Awaits, Names}
use Rattle.generated.proofs.Terms.{Starts, Adds, Prepares, Snapshots, Completes, Ends, IsAsked, AreAsked, one_set, system, database, web}

-- ## The lines of lanes: one whose fields make an operation adds it to the lane that began last, and so do many, one after another.

-- ## words and fields, which the reader's crate keeps to itself

abbrev taken_by : (A B : Type 0) → (A → B) → Type 0
taken_by A B f = A

abbrev given_by : (A B : Type 0) → (A → B) → Type 0
given_by A B f = B

abbrev pub Word : Type 0
Word = taken_by _ _ name_of

abbrev pub Fields : Type 0
Fields = given_by _ _ fields_of

-- ## one line

-- the fields make an operation that is meant
pub record Makes (text : List ℕ) (x : Meaning) (r : Result Op Reason) : Type 0 where
  pub op : Op
  pub is : r ≡ Ok op
  pub meant : IsMeant text x op

-- the word is one of lines in lanes
pub record IsLineWord (w : Word) : Type 0 where
  pub stands : may_stand true true w ≡ true
  pub row : (text : List ℕ) (d : SoFar) (number : ℕ) (fields : Fields) → row_of text d number w fields ≡ line_of text d number w fields

-- a lane has begun, and so many lines more keep to the limits, whatever they are
pub record HasSpace (k : ℕ) (run : Run) : Type 0 where
  pub lane : 0 < length run.lanes
  pub lines : run.lines + k ≤ 100000
  pub agendas : run.agendas + k ≤ 2000

has_room : (lines agendas : ℕ) (begun : Bool) → lines < 100000 → agendas < 2000 → (nat_lt lines 100000 && (not begun || nat_lt agendas 2000)) ≡ true
has_room lines agendas begun l k = grind arith

pub lane_line : (text rest : List ℕ) (m : Declared) (run : Run) (c : ℕ) (cs : List ℕ) (ws : List (List ℕ)) (w : Word) (x : Meaning)
    → are_words ((c ∷ cs) ∷ ws) ≡ true → (c == 35) ≡ false → word_of (c ∷ cs) ≡ Some w → IsLineWord w → HasSpace 1 run
    → ((d : SoFar) → IsDeclared text m d → (at : ℕ) → map (bytes_of text) (spans_at at ws) ≡ ws → Makes text x (op_of text d.volumes d.writers w (fields_for w (end_of at ws) (spans_at at ws))))
    → Then text (line_then ((c ∷ cs) ∷ ws) rest) (IsSaid text m run) → Then text rest (IsSaid text m (with_meant (x ∷ []) run))
unfolding line_of
lane_line text rest m run c cs ws w x words first word is space makes i =
    then_line text c cs ws rest (IsSaid text m run) (IsSaid text m (with_meant (x ∷ []) run)) words first says i
  where
    says : (d : SoFar) → IsSaid text m run d → (number at : ℕ) → map (bytes_of text) (spans_at at ws) ≡ ws
        → Says (λ said. IsSaid text m (with_meant (x ∷ []) run) (after d said)) (placed_row_of text d number (end_of at ws) (word_of (c ∷ cs)) (spans_at at ws))
    says d h number at parts =
        let made = makes d h.declared at parts in
        let line : LaneLine = record { number = number; op = made.op } in
        let fields = fields_for w (end_of at ws) (spans_at at ws) in
        let same = lanes_count text run.lanes d.lanes h.lanes in
        let begun_lane = space.lane in
        let some : 0 < length d.lanes = omega (arith, same, begun_lane) in
        let begun = begins_as text x made.op made.meant in
        let few = space.lines in
        let few_agendas = space.agendas in
        let room : has_line_room (line_count d.lanes) (agenda_count d.lanes) made.op ≡ true
        = ap₂ (λ a b. has_line_room a b made.op) h.lines h.agendas ∙ has_room run.lines run.agendas (begins_agenda made.op) (omega (arith, few)) (omega (arith, few_agendas)) in
        let agendas : agenda_count d.lanes + cond (begins_agenda made.op) 1 0 ≡ run.agendas + cond (begins x) 1 0 = ap₂ (λ n b. n + cond b 1 0) h.agendas begun in
        let grown = agendas_with line d.lanes some in
        let only = begins_cons x [] in
        record {
          said = saying.Line line;
          is = ap (λ o. placed_row_of text d number (end_of at ws) o (spans_at at ws)) word
              ∙ ap₂ (λ a b. if may_stand a b w then row_of text d number w fields else Err Misplaced) h.declared.opened (less_is 0 (length d.lanes) some)
              ∙ ap (λ b. if b then row_of text d number w fields else Err Misplaced) is.stands
              ∙ is.row text d number fields
              ∙ ap (λ (r : Result Op Reason). r >>= (λ op. if has_line_room (line_count d.lanes) (agenda_count d.lanes) op then Ok (saying.Line (record { number = number; op = op })) else Err TooMany)) made.is
              ∙ ap (λ b. if b then Ok (saying.Line line) else Err TooMany) room;
          holds = record {
            declared = still_declared text m d _ h.declared;
            lanes = lanes_with text run.lanes d.lanes x line h.lanes made.meant;
            lines = count_with line d.lanes some ∙ ap (λ n. n + 1) h.lines;
            agendas = omega (arith, grown, agendas, only);
          };
        }

-- ## many lines

-- the lines of these, by their words, and then the rest
abbrev pub lines_then : {A : Type 0} → (A → List (List ℕ)) → List A → List ℕ → List ℕ
lines_then words [] rest = rest
lines_then words (a ∷ items) rest = line_then (words a) (lines_then words items rest)

length_more : (xs : List Meaning) (ms : List LaneMeant) → length (lines_more xs ms) ≡ length ms
length_more xs (m ∷ next ∷ ms) = ap suc (length_more xs (next ∷ ms))
length_more xs _ = refl

at_most_one : (b : Bool) → cond b 1 0 ≤ 1
at_most_one b = grind arith

one_less : (k : ℕ) (x : Meaning) (run : Run) → HasSpace (suc k) run → HasSpace k (with_meant (x ∷ []) run)
one_less k x run space = grind (arith, length_more, at_most_one, begins_cons)

first_only : (k : ℕ) (run : Run) → HasSpace (suc k) run → HasSpace 1 run
first_only k run space = grind arith

pub many_lines : {A : Type 0} (text rest : List ℕ) (m : Declared) (words : A → List (List ℕ)) (meaning : A → Meaning) (good : A → Bool)
    → ((a : A) (more : List ℕ) (run : Run) → good a ≡ true → HasSpace 1 run → Then text (line_then (words a) more) (IsSaid text m run) → Then text more (IsSaid text m (with_meant (meaning a ∷ []) run)))
    → (items : List A) (run : Run) → list_all good items ≡ true → HasSpace (length items) run
    → Then text (lines_then words items rest) (IsSaid text m run) → Then text rest (IsSaid text m (with_meant (map meaning items) run))
many_lines text rest m words meaning good each [] run all space i = subst (λ r. Then text rest (IsSaid text m r)) (sym (with_nothing run)) i
many_lines text rest m words meaning good each (a ∷ items) run all space i =
    subst (λ r. Then text rest (IsSaid text m r)) (with_first (meaning a) (map meaning items) run)
    (many_lines text rest m words meaning good each items (with_meant (meaning a ∷ []) run) (second_of_both (good a) (list_all good items) all) (one_less (length items) (meaning a) run space)
    (each a (lines_then words items rest) run (first_of_both (good a) (list_all good items) all) (first_only (length items) run space) i))

-- ## The lines of the lane that makes the sets: each means what it asks for.

-- ## names

abbrev pub volume_name : ℕ → List ℕ
volume_name v = 118 ∷ (48 + v) ∷ []

abbrev pub writer_name : ℕ → List ℕ
writer_name zero = codes "sys"
writer_name (suc zero) = codes "db"
writer_name (suc (suc w)) = codes "web"

-- all that the generated text declares before its lanes
abbrev pub all_declared : Declared
all_declared = record {
  volumes = 8;
  names = map volume_name (range_with_len 0 8);
  writers = map writer_name (range_with_len 0 3);
  metas = system ∷ database ∷ web ∷ [];
}

pub volume_found : (v : ℕ) → nat_lt v 8 ≡ true → place_of (volume_name v) all_declared.names ≡ Some v
volume_found (suc (suc (suc (suc (suc (suc (suc (suc v)))))))) l = absurd (grind (arith, nat_tests))
volume_found _ l = refl

writer_words : (w : ℕ) → are_words (codes "component" ∷ writer_name w ∷ codes "main" ∷ []) ≡ true
writer_words w = grind arith

volume_words : (v : ℕ) → nat_lt v 8 ≡ true → are_words (codes "add" ∷ volume_name v ∷ []) ≡ true
volume_words v l = grind (arith, nat_tests)

-- ## a field that is the rest of its line

-- a word and what follows it up to the line's end, where that is one word too
pub rest_is : (at : ℕ) (name rest : List ℕ) → 0 < length rest → rest_fields (end_of at (name ∷ rest ∷ [])) (spans_at at (name ∷ rest ∷ []))
    ≡ fields_of (span_from at (at + length name) ∷ span_from (at + length name + 1) (at + length name + 1 + length rest) ∷ [])
rest_is at name rest some =
    let len = length-append name (32 ∷ rest) in
    let end : end_of at (name ∷ rest ∷ []) ≡ at + length name + 1 + length rest = omega (arith, len) in
    ap (λ x. rest_fields x (spans_at at (name ∷ rest ∷ []))) end
    ∙ ap (λ b. if b then fields_of (span_from at (at + length name) ∷ span_from (at + length name + 1) (at + length name + 1 + length rest) ∷ []) else fields_of (span_from at (at + length name) ∷ []))
    (behind (at + length name + 1) (length rest) some)
  where
    behind : (a n : ℕ) → 0 < n → nat_lt a (a + n) ≡ true
    behind a n l = grind (arith, nat_tests)

-- ## one line

abbrev pub words_of : Asked → List (List ℕ)
words_of Begins = codes "begin" ∷ codes "9" ∷ []
words_of Gathers = codes "gather" ∷ []
words_of Awaits = codes "await" ∷ []
words_of (Names w) = codes "component" ∷ writer_name w ∷ codes "main" ∷ []
words_of Starts = codes "start" ∷ []
words_of (Adds v) = codes "add" ∷ volume_name v ∷ []
words_of Prepares = codes "prepare" ∷ []
words_of Snapshots = codes "snapshot" ∷ []
words_of Completes = codes "complete" ∷ []
words_of Ends = codes "end" ∷ []

abbrev pub meaning_of : Asked → Meaning
meaning_of Begins = Does (Begin 9 false)
meaning_of Gathers = Does Gather
meaning_of Awaits = Does Await
meaning_of (Names w) = NamesMain w
meaning_of Starts = Does Start
meaning_of (Adds v) = Does (Add v)
meaning_of Prepares = Does Prepare
meaning_of Snapshots = Does Snapshot
meaning_of Completes = Does Complete
meaning_of Ends = Does End

-- it names a volume and a writer that there are
abbrev pub is_known : Asked → Bool
is_known (Names w) = nat_lt w 3
is_known (Adds v) = nat_lt v 8
is_known _ = true

begin_makes : (text : List ℕ) (d : SoFar) (at : ℕ) → map (bytes_of text) (spans_at at (codes "9" ∷ [])) ≡ codes "9" ∷ []
    → Makes text (Does (Begin 9 false)) (begin_of text (fields_of (spans_at at (codes "9" ∷ []))))
unfolding begin_of number_field number_in
begin_makes text d at parts = grind arith

component_makes : (text : List ℕ) (d : SoFar) (w at : ℕ) → IsDeclared text all_declared d → nat_lt w 3 ≡ true → map (bytes_of text) (spans_at at (writer_name w ∷ codes "main" ∷ [])) ≡ writer_name w ∷ codes "main" ∷ []
    → Makes text (NamesMain w) (component_of text d.writers (rest_fields (end_of at (writer_name w ∷ codes "main" ∷ [])) (spans_at at (writer_name w ∷ codes "main" ∷ []))))
unfolding component_of writer_field writer_named
component_makes text d w at h known parts = grind arith

pub volume_is : (text : List ℕ) (d : SoFar) (v : ℕ) → IsDeclared text all_declared d → nat_lt v 8 ≡ true → (name : List ℕ) → name ≡ volume_name v → ok_or (volume_named text d.volumes name) UnknownName ≡ Ok v
unfolding volume_named
volume_is text d v h known name e = grind (arith, volume_found)

add_makes : (text : List ℕ) (d : SoFar) (v at : ℕ) → IsDeclared text all_declared d → nat_lt v 8 ≡ true → map (bytes_of text) (spans_at at (volume_name v ∷ [])) ≡ volume_name v ∷ []
    → Makes text (Does (Add v)) (add_of text d.volumes (fields_of (spans_at at (volume_name v ∷ []))))
unfolding volume_alone volume_field
add_makes text d v at h known parts = grind (arith, volume_is, head_is)

pub asked_line : (text : List ℕ) (a : Asked) (more : List ℕ) (run : Run) → is_known a ≡ true → HasSpace 1 run
    → Then text (line_then (words_of a) more) (IsSaid text all_declared run) → Then text more (IsSaid text all_declared (with_meant (meaning_of a ∷ []) run))
unfolding word_of row_of op_of
asked_line text Begins more run known space =
    lane_line text more all_declared run 98 (codes "egin") (codes "9" ∷ []) _ (Does (Begin 9 false)) refl refl refl (record { stands = refl; row = λ t d n f. refl }) space
    (λ d h at parts. begin_makes text d at parts)
asked_line text Gathers more run known space =
    lane_line text more all_declared run 103 (codes "ather") [] _ (Does Gather) refl refl refl (record { stands = refl; row = λ t d n f. refl }) space
    (λ d h at parts. record { op = Gather; is = refl; meant = refl })
asked_line text Awaits more run known space =
    lane_line text more all_declared run 97 (codes "wait") [] _ (Does Await) refl refl refl (record { stands = refl; row = λ t d n f. refl }) space
    (λ d h at parts. record { op = Await; is = refl; meant = refl })
asked_line text (Names w) more run known space =
    lane_line text more all_declared run 99 (codes "omponent") (writer_name w ∷ codes "main" ∷ []) _ (NamesMain w) (writer_words w) refl refl (record { stands = refl; row = λ t d n f. refl }) space
    (λ d h at parts. component_makes text d w at h known parts)
asked_line text Starts more run known space =
    lane_line text more all_declared run 115 (codes "tart") [] _ (Does Start) refl refl refl (record { stands = refl; row = λ t d n f. refl }) space
    (λ d h at parts. record { op = Start; is = refl; meant = refl })
asked_line text (Adds v) more run known space =
    lane_line text more all_declared run 97 (codes "dd") (volume_name v ∷ []) _ (Does (Add v)) (volume_words v known) refl refl (record { stands = refl; row = λ t d n f. refl }) space
    (λ d h at parts. add_makes text d v at h known parts)
asked_line text Prepares more run known space =
    lane_line text more all_declared run 112 (codes "repare") [] _ (Does Prepare) refl refl refl (record { stands = refl; row = λ t d n f. refl }) space
    (λ d h at parts. record { op = Prepare; is = refl; meant = refl })
asked_line text Snapshots more run known space =
    lane_line text more all_declared run 115 (codes "napshot") [] _ (Does Snapshot) refl refl refl (record { stands = refl; row = λ t d n f. refl }) space
    (λ d h at parts. record { op = Snapshot; is = refl; meant = refl })
asked_line text Completes more run known space =
    lane_line text more all_declared run 99 (codes "omplete") [] _ (Does Complete) refl refl refl (record { stands = refl; row = λ t d n f. refl }) space
    (λ d h at parts. record { op = Complete; is = refl; meant = refl })
asked_line text Ends more run known space =
    lane_line text more all_declared run 101 (codes "nd") [] _ (Does End) refl refl refl (record { stands = refl; row = λ t d n f. refl }) space
    (λ d h at parts. record { op = End; is = refl; meant = refl })

-- ## the lines of a set

set_text : (rest : List ℕ) → as_lines set_lines ++ rest ≡ lines_then words_of one_set rest
set_text rest = refl

pub set_line : (text rest : List ℕ) (run : Run) → HasSpace 22 run → Then text (as_lines set_lines ++ rest) (IsSaid text all_declared run)
    → Then text rest (IsSaid text all_declared (with_meant (map meaning_of one_set) run))
set_line text rest run space i =
    many_lines text rest all_declared words_of meaning_of is_known (asked_line text) one_set run refl space
    (same_rest text (as_lines set_lines ++ rest) (lines_then words_of one_set rest) (IsSaid text all_declared run) (set_text rest) i)

-- ## what the lines ask for

asked_op : (s : Plan) (a : Asked) (op : Op) → IsMeant s.source (meaning_of a) op → IsAsked s a op
asked_op s a op h = grind arith

pub are_asked : (s : Plan) (asked : List Asked) (ls : List LaneLine) → AreMeant s.source (map meaning_of asked) ls → AreAsked s asked ls
are_asked s [] [] h = tt
are_asked s [] (l ∷ ls) h = absurd h
are_asked s (a ∷ asked) [] h = absurd h
are_asked s (a ∷ asked) (l ∷ ls) h = (asked_op s a l.op h.0, are_asked s asked ls h.1)
