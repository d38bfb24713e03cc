-- Each scenario that is read has names by the grammar, those of volumes, of writers and of lanes apart, and its lines are numbered by
-- the lines of its text.
use Rattle.std.proofs.Common.{◌≡◌, ◌∙◌, ℕ, zero, suc, ◌+◌, ◌<◌, ◌≤◌, Bool, true, false, List, [], ◌∷◌, ◌++◌, length, map, Option, Result, Ok, Err, refl, ap, sym, subst, arith}
use Rattle.std.specs.Prelude.{◌==◌, is_some, if◌then◌else◌}
use Rattle.std.specs.List.{position_from}
use Rattle.std.specs.Str.{bytes_eq}
use Rattle.std.proofs.lemmas.Iterator.Adapters.{position_from-zero}
use Rattle.std.proofs.lemmas.Slice.Eq.{bytes_eq-Decides}
use Rattle.std.proofs.lemmas.Grind.{common_steps}
use Rattle.writer_calls.specs.declared.scripted.Scripted.{Scripted}
use Rattle.scenario.specs.declared.reason.Reason.{Reason}
use Rattle.scenario.specs.declared.reason.Reason.TheVariants.{Empty}
use Rattle.scenario.specs.declared.span.Span.{Span}
use Rattle.scenario.specs.declared.text_line.TextLine.{TextLine}
use Rattle.scenario.specs.declared.volume_row.VolumeRow.{VolumeRow}
use Rattle.scenario.specs.declared.field.Field.{Field}
use Rattle.scenario.specs.declared.fields.Fields.{Fields}
use Rattle.scenario.specs.declared.fields.Fields.TheVariants.{One, Three, Four}
use Rattle.scenario.specs.declared.word.Word.{Word}
use Rattle.scenario.specs.declared.word.Word.TheVariants as word
use Rattle.scenario.specs.Plan.{Plan, WriterPlan, LanePlan, LaneLine}
use Rattle.vss_names.specs.Names.{is_name}
use Rattle.scenario.specs.Names.{volume_names, writer_names, lane_names, volume_named, writer_named, lane_named}
use Rattle.scenario.specs.Lines.{span_from, lines_from, lines_in}
use Rattle.scenario.specs.Fields.{bytes_of, span_of}
use Rattle.scenario.specs.Ops.{◌>>=◌}
use Rattle.scenario.specs.SoFar.{SoFar, Saying, Skipped, Opening, Area, OwnVolume, SharedVolume, Writer, Answer, Lane, Line, nothing, after, with_answer, with_line, closed, closed_lane, plan_in}
use Rattle.scenario.specs.Declarations.{name_field, opening_of, area_of, own_volume_of, shared_volume_of, volume_of, writer_of, answer_of, free_lane_of, acting_lane_of, lane_of}
use Rattle.scenario.specs.Grammar.{line_of, row_of, placed_row_of, said_of, saying_of, IsScenario, IsBad, goes_on, read_from, reading_of}
use Rattle.scenario.specs.Named.{AllNamed, Differ, Distinct, volume_spans, writer_spans, lane_spans, Numbered, AllNumbered, IsNamed, HasNames}

-- ## what one line says

abbrev pub IsSaid : List ℕ → SoFar → ℕ → Saying → Type 0
IsSaid text d number (OwnVolume row) = (is_name (bytes_of text row.name) ≡ true) × (is_some (volume_named text d.volumes (bytes_of text row.name)) ≡ false)
IsSaid text d number (SharedVolume row a area) = (is_name (bytes_of text row.name) ≡ true) × (is_some (volume_named text d.volumes (bytes_of text row.name)) ≡ false)
IsSaid text d number (Writer w) = (is_name (bytes_of text w.name) ≡ true) × (is_some (writer_named text d.writers (bytes_of text w.name)) ≡ false)
IsSaid text d number (Lane name whom) = (is_name (bytes_of text name) ≡ true) × (is_some (lane_named text d.lanes (bytes_of text name)) ≡ false)
IsSaid text d number (Line l) = l.number ≡ number
IsSaid text d number _ = Unit {0}

abbrev pub IsGood : (Saying → Type 0) → Result Saying Reason → Type 0
IsGood P (Ok saying) = P saying
IsGood P (Err why) = Unit {0}

pub on_bind : {A : Type 0} (P : Saying → Type 0) (r : Result A Reason) (f : A → Result Saying Reason) → ((x : A) → r ≡ Ok x → IsGood P (f x)) → IsGood P (r >>= f)
on_bind x0 r f h = grind arith

pub on_either : (P : Saying → Type 0) (b : Bool) (x y : Result Saying Reason) → IsGood P x → IsGood P y → IsGood P (if b then x else y)
on_either x0 b x y h k = grind arith

pub record IsNewName (text : List ℕ) (taken : Bool) (span x : Span) : Type 0 where
  pub name : is_name (bytes_of text x) ≡ true
  pub same : x ≡ span
  pub free : taken ≡ false

pub new_name : (text : List ℕ) (taken : Bool) (span x : Span) → name_field text taken span ≡ Ok x → IsNewName text taken span x
unfolding name_field
new_name text taken span x e = grind arith

-- ## each kind of line

opening_said : (text : List ℕ) (d : SoFar) (number : ℕ) (fields : Fields) → IsGood (IsSaid text d number) (opening_of text fields)
unfolding opening_of
opening_said text d number fields = grind arith

area_said : (text : List ℕ) (d : SoFar) (number : ℕ) (fields : Fields) → IsGood (IsSaid text d number) (area_of text d fields)
unfolding area_of
area_said text d number fields = grind arith

pub volume_new : (text : List ℕ) (d : SoFar) (name n : Span) → IsNewName text (is_some (volume_named text d.volumes (bytes_of text name))) name n
    → (is_name (bytes_of text n) ≡ true) × (is_some (volume_named text d.volumes (bytes_of text n)) ≡ false)
volume_new text d name n h = (h.name, subst (λ x. is_some (volume_named text d.volumes (bytes_of text x)) ≡ false) (sym h.same) h.free)

own_said : (text : List ℕ) (d : SoFar) (number : ℕ) (name : Span) (blocks slots : Field) → IsGood (IsSaid text d number) (own_volume_of text d name blocks slots)
unfolding own_volume_of
own_said text d number name blocks slots = grind (arith, on_bind, on_either, volume_new, new_name)

shared_said : (text : List ℕ) (d : SoFar) (number : ℕ) (name : Span) (blocks kind area : Field) → IsGood (IsSaid text d number) (shared_volume_of text d name blocks kind area)
unfolding shared_volume_of
shared_said text d number name blocks kind area = grind (arith, on_bind, on_either, volume_new, new_name)

volume_said : (text : List ℕ) (d : SoFar) (number : ℕ) (fields : Fields) → IsGood (IsSaid text d number) (volume_of text d fields)
volume_said text d number (Three name blocks slots) = own_said text d number (span_of name) blocks slots
volume_said text d number (Four name blocks kind area) = shared_said text d number (span_of name) blocks kind area
volume_said text d number _ = tt

pub writer_new : (text : List ℕ) (d : SoFar) (name n : Span) → IsNewName text (is_some (writer_named text d.writers (bytes_of text name))) name n
    → (is_name (bytes_of text n) ≡ true) × (is_some (writer_named text d.writers (bytes_of text n)) ≡ false)
writer_new text d name n h = (h.name, subst (λ x. is_some (writer_named text d.writers (bytes_of text x)) ≡ false) (sym h.same) h.free)

pub lane_new : (text : List ℕ) (d : SoFar) (name n : Span) → IsNewName text (is_some (lane_named text d.lanes (bytes_of text name))) name n
    → (is_name (bytes_of text n) ≡ true) × (is_some (lane_named text d.lanes (bytes_of text n)) ≡ false)
lane_new text d name n h = (h.name, subst (λ x. is_some (lane_named text d.lanes (bytes_of text x)) ≡ false) (sym h.same) h.free)

pub writer_said : (text : List ℕ) (d : SoFar) (number : ℕ) (fields : Fields) → IsGood (IsSaid text d number) (writer_of text d fields)
unfolding writer_of
writer_said text d number fields = grind (arith, on_bind, on_either, writer_new, new_name)

answer_said : (text : List ℕ) (d : SoFar) (number : ℕ) (fields : Fields) → IsGood (IsSaid text d number) (answer_of text d fields)
unfolding answer_of
answer_said text d number fields = grind arith

free_said : (text : List ℕ) (d : SoFar) (number : ℕ) (name : Span) → IsGood (IsSaid text d number) (free_lane_of text d name)
unfolding free_lane_of
free_said text d number name = grind (arith, on_bind, on_either, lane_new, new_name)

acting_said : (text : List ℕ) (d : SoFar) (number : ℕ) (name : Span) (kind writer : Field) → IsGood (IsSaid text d number) (acting_lane_of text d name kind writer)
unfolding acting_lane_of
acting_said text d number name kind writer = grind (arith, on_bind, on_either, lane_new, new_name)

lane_said : (text : List ℕ) (d : SoFar) (number : ℕ) (fields : Fields) → IsGood (IsSaid text d number) (lane_of text d fields)
lane_said text d number (One name) = free_said text d number (span_of name)
lane_said text d number (Three name kind writer) = acting_said text d number (span_of name) kind writer
lane_said text d number _ = tt

line_said : (text : List ℕ) (d : SoFar) (number : ℕ) (w : Word) (fields : Fields) → IsGood (IsSaid text d number) (line_of text d number w fields)
unfolding line_of
line_said text d number w fields = grind (arith, common_steps, on_bind, on_either)

pub word_said : (text : List ℕ) (d : SoFar) (number : ℕ) (w : Word) (fields : Fields) → IsGood (IsSaid text d number) (row_of text d number w fields)
unfolding row_of
word_said text d number word.Scenario fields = opening_said text d number fields
word_said text d number word.Area fields = area_said text d number fields
word_said text d number word.Volume fields = volume_said text d number fields
word_said text d number word.Writer fields = writer_said text d number fields
word_said text d number word.Answer fields = answer_said text d number fields
word_said text d number word.Lane fields = lane_said text d number fields
word_said text d number w fields = line_said text d number w fields

placed_said : (text : List ℕ) (d : SoFar) (number end : ℕ) (w : Option Word) (words : List Span) → IsGood (IsSaid text d number) (placed_row_of text d number end w words)
placed_said text d number end w words = grind (arith, on_either, word_said)

words_said : (text : List ℕ) (d : SoFar) (number end : ℕ) (words : List Span) → IsGood (IsSaid text d number) (said_of text d number end words)
words_said text d number end words = grind (arith, placed_said)

is_said : (text : List ℕ) (d : SoFar) (number : ℕ) (line : TextLine) → IsGood (IsSaid text d number) (saying_of text d number line)
unfolding saying_of
is_said text d number line = grind (arith, on_either, words_said)

-- ## names one after another

-- none of these has this name
abbrev Absent : List ℕ → List ℕ → List Span → Type 0
Absent text name [] = Unit {0}
Absent text name (span ∷ spans) = (bytes_eq (bytes_of text span) name ≡ false) × Absent text name spans

named_more : (text : List ℕ) (spans : List Span) (span : Span) → AllNamed text spans → is_name (bytes_of text span) ≡ true → AllNamed text (spans ++ span ∷ [])
named_more text [] span h e = (e, tt)
named_more text (x ∷ spans) span h e = (h.0, named_more text spans span h.1 e)

differ_more : (text : List ℕ) (first : Span) (spans : List Span) (span : Span) → Differ text first spans → bytes_eq (bytes_of text first) (bytes_of text span) ≡ false → Differ text first (spans ++ span ∷ [])
differ_more text first [] span h e = (e, tt)
differ_more text first (x ∷ spans) span h e = (h.0, differ_more text first spans span h.1 e)

distinct_more : (text : List ℕ) (spans : List Span) (span : Span) → Distinct text spans → Absent text (bytes_of text span) spans → Distinct text (spans ++ span ∷ [])
distinct_more text [] span h absent = (tt, tt)
distinct_more text (x ∷ spans) span h absent = (differ_more text x spans span h.0 absent.0, distinct_more text spans span h.1 absent.1)

swapped : (a b : List ℕ) → bytes_eq a b ≡ false → bytes_eq b a ≡ false
swapped a b e = grind (arith, bytes_eq-Decides)

absent_from : {X : Type 0} (text name : List ℕ) (f : X → Span) (n : ℕ) (xs : List X) → is_some (position_from (λ other. bytes_eq name other) n (map (λ x. bytes_of text (f x)) xs)) ≡ false → Absent text name (map f xs)
absent_from text name f n [] e = tt
absent_from text name f n (x ∷ xs) e = grind (arith, common_steps, swapped, absent_from text name f (n + 1) xs)

absent_volume : (text name : List ℕ) (rows : List VolumeRow) → is_some (volume_named text rows name) ≡ false → Absent text name (volume_spans rows)
unfolding volume_named
absent_volume text name rows e =
    absent_from text name (λ (r : VolumeRow). r.name) 0 rows (ap is_some (sym (position_from-zero (λ other. bytes_eq name other) (volume_names text rows))) ∙ e)

absent_writer : (text name : List ℕ) (ws : List WriterPlan) → is_some (writer_named text ws name) ≡ false → Absent text name (writer_spans ws)
unfolding writer_named
absent_writer text name ws e =
    absent_from text name (λ (w : WriterPlan). w.name) 0 ws (ap is_some (sym (position_from-zero (λ other. bytes_eq name other) (writer_names text ws))) ∙ e)

absent_lane : (text name : List ℕ) (lanes : List LanePlan) → is_some (lane_named text lanes name) ≡ false → Absent text name (lane_spans lanes)
unfolding lane_named
absent_lane text name lanes e =
    absent_from text name (λ (l : LanePlan). l.name) 0 lanes (ap is_some (sym (position_from-zero (λ other. bytes_eq name other) (lane_names text lanes))) ∙ e)

-- ## what the lines so far say

numbered_on : (k : ℕ) (lines : List LaneLine) → Numbered k lines → Numbered (k + 1) lines
numbered_on k [] h = tt
numbered_on k (l ∷ lines) h = (omega (arith, h.0), numbered_on k lines h.1)

all_numbered_on : (k : ℕ) (lanes : List LanePlan) → AllNumbered k lanes → AllNumbered (k + 1) lanes
all_numbered_on k [] h = tt
all_numbered_on k (l ∷ lanes) h = (numbered_on k l.lines h.0, all_numbered_on k lanes h.1)

numbered_more : (k : ℕ) (lines : List LaneLine) (l : LaneLine) → Numbered k lines → l.number < k → Numbered k (lines ++ l ∷ [])
numbered_more k [] l h e = (e, tt)
numbered_more k (x ∷ lines) l h e = (h.0, numbered_more k lines l h.1 e)

all_numbered_line : (k : ℕ) (lanes : List LanePlan) (l : LaneLine) → AllNumbered k lanes → l.number < k → AllNumbered k (with_line l lanes)
all_numbered_line k [] l h e = tt
all_numbered_line k (x ∷ []) l h e = (numbered_more k x.lines l h.0 e, tt)
all_numbered_line k (x ∷ y ∷ lanes) l h e = (h.0, all_numbered_line k (y ∷ lanes) l h.1 e)

all_numbered_lane : (k : ℕ) (lanes : List LanePlan) (lane : LanePlan) → AllNumbered k lanes → lane.lines ≡ [] → AllNumbered k (lanes ++ lane ∷ [])
all_numbered_lane k [] lane h e = (subst (Numbered k) (sym e) tt, tt)
all_numbered_lane k (x ∷ lanes) lane h e = (h.0, all_numbered_lane k lanes lane h.1 e)

spans_more : {X : Type 0} (f : X → Span) (xs : List X) (x : X) → map f (xs ++ x ∷ []) ≡ map f xs ++ f x ∷ []
spans_more f xs x = grind (arith, common_steps)

spans_line : (l : LaneLine) (lanes : List LanePlan) → lane_spans (with_line l lanes) ≡ lane_spans lanes
spans_line l (x ∷ y ∷ lanes) = ap (λ s. x.name ∷ s) (spans_line l (y ∷ lanes))
spans_line l _ = refl

spans_answer : (w : ℕ) (row : Scripted) (ws : List WriterPlan) → writer_spans (with_answer w row ws) ≡ writer_spans ws
spans_answer w row [] = refl
spans_answer zero row (x ∷ ws) = refl
spans_answer (suc w) row (x ∷ ws) = ap (λ s. x.name ∷ s) (spans_answer w row ws)

spans_closed : (lanes : List LanePlan) → lane_spans (map closed_lane lanes) ≡ lane_spans lanes
spans_closed [] = refl
spans_closed (l ∷ lanes) = ap (λ s. l.name ∷ s) (spans_closed lanes)

pub named_after : (text : List ℕ) (k : ℕ) (d : SoFar) (saying : Saying) → IsSaid text d k saying → IsNamed text k d → IsNamed text (k + 1) (after d saying)
named_after text k d Skipped said h = record { volumes = h.volumes; writers = h.writers; lanes = h.lanes; volumes_apart = h.volumes_apart; writers_apart = h.writers_apart; lanes_apart = h.lanes_apart; lines = all_numbered_on k d.lanes h.lines }
named_after text k d Opening said h = record { volumes = h.volumes; writers = h.writers; lanes = h.lanes; volumes_apart = h.volumes_apart; writers_apart = h.writers_apart; lanes_apart = h.lanes_apart; lines = all_numbered_on k d.lanes h.lines }
named_after text k d (Area area) said h = record { volumes = h.volumes; writers = h.writers; lanes = h.lanes; volumes_apart = h.volumes_apart; writers_apart = h.writers_apart; lanes_apart = h.lanes_apart; lines = all_numbered_on k d.lanes h.lines }
named_after text k d (OwnVolume row) said h = grind (arith, common_steps, all_numbered_on, spans_more, named_more, distinct_more, absent_volume)
named_after text k d (SharedVolume row a area) said h = grind (arith, common_steps, all_numbered_on, spans_more, named_more, distinct_more, absent_volume)
named_after text k d (Writer w) said h = grind (arith, common_steps, all_numbered_on, spans_more, named_more, distinct_more, absent_writer)
named_after text k d (Answer w row) said h = grind (arith, common_steps, all_numbered_on, spans_answer)
named_after text k d (Lane name whom) said h =
    let lane : LanePlan = record { name = name; acts_as = whom; lines = [] } in
    let more = spans_more (λ (x : LanePlan). x.name) d.lanes lane in
    record {
      volumes = h.volumes;
      volumes_apart = h.volumes_apart;
      writers = h.writers;
      lanes = subst (AllNamed text) (sym more) (named_more text (lane_spans d.lanes) name h.lanes said.0);
      writers_apart = h.writers_apart;
      lanes_apart = subst (Distinct text) (sym more) (distinct_more text (lane_spans d.lanes) name h.lanes_apart (absent_lane text (bytes_of text name) d.lanes said.1));
      lines = all_numbered_lane (k + 1) d.lanes lane (all_numbered_on k d.lanes h.lines) refl;
    }
named_after text k d (Line l) said h =
    let same = spans_line l d.lanes in
    record {
      volumes = h.volumes;
      volumes_apart = h.volumes_apart;
      writers = h.writers;
      lanes = subst (AllNamed text) (sym same) h.lanes;
      writers_apart = h.writers_apart;
      lanes_apart = subst (Distinct text) (sym same) h.lanes_apart;
      lines = all_numbered_line (k + 1) d.lanes l (all_numbered_on k d.lanes h.lines) (omega (arith, said));
    }

-- ## the whole text

record IsRead (text : List ℕ) (k : ℕ) (s : Plan) : Type 0 where
  pub all : SoFar
  pub is : plan_in text all ≡ s
  pub named : IsNamed text k all

whole_read : (text : List ℕ) (k : ℕ) (d : SoFar) (s : Plan) (b : Bool) → IsNamed text k d → (if b then IsScenario (plan_in text d) else IsBad k Empty) ≡ IsScenario s → IsRead text k s
whole_read text k d s b h e = grind arith

read_on : (text : List ℕ) (k : ℕ) (d : SoFar) (lines : List TextLine) (s : Plan) → IsNamed text k d → read_from text k d lines ≡ IsScenario s → IsRead text (k + length lines) s
read_on text k d [] s h e = subst (λ n. IsRead text n s) (omega arith) (whole_read text k d s d.opened h e)
read_on text k d (line ∷ lines) s h e =
    subst (λ n. IsRead text n s) (omega arith) (by_saying (saying_of text d k line) (is_said text d k line) e (λ saying said. read_on text (k + 1) (after d saying) lines s (named_after text k d saying said h)))
  where
    by_saying : (r : Result Saying Reason) → IsGood (IsSaid text d k) r → goes_on k (λ saying. read_from text (k + 1) (after d saying) lines) r ≡ IsScenario s
        → ((saying : Saying) → IsSaid text d k saying → read_from text (k + 1) (after d saying) lines ≡ IsScenario s → IsRead text (k + 1 + length lines) s) → IsRead text (k + 1 + length lines) s
    by_saying (Ok saying) said f later = later saying said f
    by_saying (Err why) said f later = absurd cc

few_if : (b : Bool) (line : TextLine) (xs ys : List TextLine) (n : ℕ) → length xs ≤ n → length ys ≤ n + 1 → length (if b then line ∷ xs else ys) ≤ n + 1
few_if b line xs ys n h k = grind arith

few_last : (b : Bool) (line : TextLine) → length (if b then [] else line ∷ []) ≤ 1
few_last b line = grind arith

few_lines : (start at : ℕ) (text : List ℕ) → length (lines_from start at text) ≤ length text + 1
few_lines start at [] = few_last (start == at) (record { span = span_from start at; ended = false })
few_lines start at (byte ∷ text) = grind (arith, common_steps, few_if, few_lines (at + 1) (at + 1) text, few_lines start (at + 1) text)

-- ## the plan

numbered_closed : (k : ℕ) (lines : List LaneLine) → Numbered k lines → 0 < k → Numbered k (closed lines)
numbered_closed k lines h some = grind (arith, numbered_more)

all_numbered_closed : (k : ℕ) (lanes : List LanePlan) → AllNumbered k lanes → 0 < k → AllNumbered k (map closed_lane lanes)
all_numbered_closed k [] h some = tt
all_numbered_closed k (l ∷ lanes) h some = (numbered_closed k l.lines h.0 some, all_numbered_closed k lanes h.1 some)

numbered_up : (k m : ℕ) (lines : List LaneLine) → k ≤ m → Numbered k lines → Numbered m lines
numbered_up k m [] l h = tt
numbered_up k m (x ∷ lines) l h = (omega (arith, h.0), numbered_up k m lines l h.1)

all_numbered_up : (k m : ℕ) (lanes : List LanePlan) → k ≤ m → AllNumbered k lanes → AllNumbered m lanes
all_numbered_up k m [] l h = tt
all_numbered_up k m (x ∷ lanes) l h = (numbered_up k m x.lines l h.0, all_numbered_up k m lanes l h.1)

pub plan_named : (text : List ℕ) (k : ℕ) (d : SoFar) → IsNamed text k d → 0 < k → k ≤ length text + 2 → HasNames (plan_in text d)
plan_named text k d h some few = grind (arith, spans_closed, all_numbered_up, all_numbered_closed)

pub has_names : (text : List ℕ) (s : Plan) → reading_of text ≡ IsScenario s → HasNames s
unfolding reading_of
has_names text s e =
    let none : IsNamed text 1 nothing = record { volumes = tt; writers = tt; lanes = tt; volumes_apart = tt; writers_apart = tt; lanes_apart = tt; lines = tt } in
    let read = read_on text 1 nothing (lines_in text) s none e in
    let few = few_lines 0 0 text in
    subst HasNames read.is (plan_named text (1 + length (lines_in text)) read.all read.named (omega arith) (omega (arith, few)))
