-- What one line more changes, whether a session stands after it, and that the scenario of a whole text keeps to the limits.
use Rattle.std.proofs.Common.{◌≡◌, ℕ, zero, suc, ◌+◌, ◌<◌, cond, List, [], ◌∷◌, ◌++◌, length, map, set, get_or, All, refl, ap, sym, ◌∙◌, arith, ◌&&◌, ◌||◌}
use Rattle.std.proofs.Common.{Bool, true, not, ◌≤◌}
use Rattle.std.proofs.lemmas.Grind.{common_steps}
use Rattle.std.proofs.lemmas.List.{length-map, map-set, get_or-map}
use Rattle.std.proofs.lemmas.List.Elements.{All-nil, All-cons, All-head, All-tail, All-push}
use Rattle.std.proofs.lemmas.List.Sums.{sum-map, sum_by-cons, sum_by_push}
use Rattle.writer_calls.specs.declared.scripted.Scripted.{Scripted}
use Rattle.scenario.specs.Bounds.{begins_agenda, agenda_lines, is_begin, has_end, ends_sessions, IsOp, IsLane, IsPlan}
use Rattle.scenario.specs.Drafts.{agendas_with, IsLaneRow, IsWithin}
use Rattle.scenario.specs.Fields.{bytes_of}
use Rattle.scenario.specs.Names.{writer_names, lane_names}
use Rattle.scenario.specs.Plan.{WriterPlan, LaneLine, LanePlan, Plan}
use Rattle.scenario.specs.Rows.{writer_plan, lane_plan}
use Rattle.scenario.specs.SoFar.{with_answer, with_line, line_count, agenda_count, answer_count, implied_end, closed, SoFar, plan_in, closed_lane}
use Rattle.scenario.specs.declared.lane.Lane.{Lane}
use Rattle.scenario.specs.declared.op.Op.{Op}
use Rattle.scenario.specs.declared.writer.Writer.{Writer}

-- ## What one line more changes: the lines of the last lane, a writer's script, and the counts of both.

-- ## the counts of a list that has one more in front

pub lines_cons : (l : LanePlan) (ls : List LanePlan) → line_count (l ∷ ls) ≡ length l.lines + line_count ls
lines_cons l ls = grind (arith, common_steps, sum-map, sum_by-cons)

pub agendas_cons : (l : LanePlan) (ls : List LanePlan) → agenda_count (l ∷ ls) ≡ agenda_lines l.lines + agenda_count ls
agendas_cons l ls = grind (arith, common_steps, sum-map, sum_by-cons)

pub answers_cons : (w : WriterPlan) (ws : List WriterPlan) → answer_count (w ∷ ws) ≡ length w.script + answer_count ws
answers_cons w ws = grind (arith, common_steps, sum-map, sum_by-cons)

-- ## a line more in the last lane

abbrev pub one_more : LaneLine → LanePlan → LanePlan
one_more line lane = record lane { lines = lane.lines ++ line ∷ [] }

pub with_line_is : (line : LaneLine) (lanes : List LanePlan) (n : ℕ) (d : LanePlan) → length lanes ≡ suc n → with_line line lanes ≡ set lanes n (one_more line (get_or lanes n d))
with_line_is line [] n d h = absurd (omega arith)
with_line_is line (lane ∷ []) zero d h = refl
with_line_is line (lane ∷ []) (suc n) d h = absurd (omega arith)
with_line_is line (lane ∷ next ∷ lanes) zero d h = absurd (omega arith)
with_line_is line (lane ∷ next ∷ lanes) (suc n) d h = ap (λ (xs : List LanePlan). lane ∷ xs) (with_line_is line (next ∷ lanes) n d (omega arith))

pub lines_more : (line : LaneLine) (lanes : List LanePlan) → 0 < length lanes → line_count (with_line line lanes) ≡ line_count lanes + 1
lines_more line [] h = absurd (omega arith)
lines_more line (lane ∷ []) h = grind (arith, common_steps, lines_cons)
lines_more line (lane ∷ next ∷ lanes) h = grind (arith, common_steps, lines_cons, lines_more line (next ∷ lanes) (omega arith))

agenda_line_more : (lines : List LaneLine) (line : LaneLine) → agenda_lines (lines ++ line ∷ []) ≡ agenda_lines lines + cond (begins_agenda line.op) 1 0
agenda_line_more lines line = sum_by_push (λ (l : LaneLine). cond (begins_agenda l.op) 1 0) lines line

agendas_more_by : (line : LaneLine) (lanes : List LanePlan) → 0 < length lanes → agenda_count (with_line line lanes) ≡ agenda_count lanes + cond (begins_agenda line.op) 1 0
agendas_more_by line [] h = absurd (omega arith)
agendas_more_by line (lane ∷ []) h = grind (arith, common_steps, agendas_cons, agenda_line_more)
agendas_more_by line (lane ∷ next ∷ lanes) h = grind (arith, common_steps, agendas_cons, agendas_more_by line (next ∷ lanes) (omega arith))

agendas_with_is : (n : ℕ) (op : Op) → n + cond (begins_agenda op) 1 0 ≡ agendas_with n op
agendas_with_is n op = grind arith

pub agendas_more : (line : LaneLine) (lanes : List LanePlan) → 0 < length lanes → agenda_count (with_line line lanes) ≡ agendas_with (agenda_count lanes) line.op
agendas_more line lanes h = agendas_more_by line lanes h ∙ agendas_with_is (agenda_count lanes) line.op

pub lane_names_stay : (text : List ℕ) (line : LaneLine) (lanes : List LanePlan) → lane_names text (with_line line lanes) ≡ lane_names text lanes
lane_names_stay text line (lane ∷ next ∷ lanes) = ap (λ (xs : List (List ℕ)). bytes_of text lane.name ∷ xs) (lane_names_stay text line (next ∷ lanes))
lane_names_stay text line _ = refl

pub lane_count_stays : (line : LaneLine) (lanes : List LanePlan) → length (with_line line lanes) ≡ length lanes
lane_count_stays line (lane ∷ next ∷ lanes) = ap (λ (n : ℕ). suc n) (lane_count_stays line (next ∷ lanes))
lane_count_stays line _ = refl

-- what holds of each lane, and of the last with its line more, holds of each
pub lanes_more : (P : LanePlan → Type 0) (line : LaneLine) (lanes : List LanePlan) → ((l : LanePlan) → P l → P (one_more line l)) → All P lanes → All P (with_line line lanes)
lanes_more P line [] more h = h
lanes_more P line (lane ∷ []) more h = All-cons P (one_more line lane) [] (more lane (All-head P lane [] h)) (All-nil P)
lanes_more P line (lane ∷ next ∷ lanes) more h =
    All-cons P lane (with_line line (next ∷ lanes)) (All-head P lane (next ∷ lanes) h) (lanes_more P line (next ∷ lanes) more (All-tail P lane (next ∷ lanes) h))

-- ## a lane more

pub lines_in_new : (lanes : List LanePlan) (lane : LanePlan) → lane.lines ≡ [] → line_count (lanes ++ lane ∷ []) ≡ line_count lanes
lines_in_new lanes lane h = grind (arith, common_steps, lines_cons)

pub agendas_in_new : (lanes : List LanePlan) (lane : LanePlan) → lane.lines ≡ [] → agenda_count (lanes ++ lane ∷ []) ≡ agenda_count lanes
agendas_in_new lanes lane h = grind (arith, common_steps, agendas_cons)

-- ## a row more in a script

abbrev pub one_row_more : Scripted → WriterPlan → WriterPlan
one_row_more row writer = record writer { script = writer.script ++ row ∷ [] }

pub with_answer_is : (w : ℕ) (row : Scripted) (writers : List WriterPlan) (d : WriterPlan) → w < length writers → with_answer w row writers ≡ set writers w (one_row_more row (get_or writers w d))
with_answer_is w row [] d h = absurd (omega arith)
with_answer_is zero row (writer ∷ writers) d h = refl
with_answer_is (suc w) row (writer ∷ writers) d h = ap (λ (xs : List WriterPlan). writer ∷ xs) (with_answer_is w row writers d (omega arith))

pub answers_more : (w : ℕ) (row : Scripted) (writers : List WriterPlan) → w < length writers → answer_count (with_answer w row writers) ≡ answer_count writers + 1
answers_more w row [] h = absurd (omega arith)
answers_more zero row (writer ∷ writers) h = grind (arith, common_steps, answers_cons)
answers_more (suc w) row (writer ∷ writers) h = grind (arith, common_steps, answers_cons, answers_more w row writers (omega arith))

pub writer_names_stay : (text : List ℕ) (w : ℕ) (row : Scripted) (writers : List WriterPlan) → writer_names text (with_answer w row writers) ≡ writer_names text writers
writer_names_stay text w row [] = refl
writer_names_stay text zero row (writer ∷ writers) = refl
writer_names_stay text (suc w) row (writer ∷ writers) = ap (λ (xs : List (List ℕ)). bytes_of text writer.name ∷ xs) (writer_names_stay text w row writers)

pub writer_count_stays : (w : ℕ) (row : Scripted) (writers : List WriterPlan) → length (with_answer w row writers) ≡ length writers
writer_count_stays w row [] = refl
writer_count_stays zero row (writer ∷ writers) = refl
writer_count_stays (suc w) row (writer ∷ writers) = ap (λ (n : ℕ). suc n) (writer_count_stays w row writers)

pub writers_more : (P : WriterPlan → Type 0) (w : ℕ) (row : Scripted) (writers : List WriterPlan) → ((x : WriterPlan) → P x → P (one_row_more row x)) → All P writers → All P (with_answer w row writers)
writers_more P w row [] more h = h
writers_more P zero row (writer ∷ writers) more h =
    All-cons P (one_row_more row writer) writers (more writer (All-head P writer writers h)) (All-tail P writer writers h)
writers_more P (suc w) row (writer ∷ writers) more h =
    All-cons P writer (with_answer w row writers) (All-head P writer writers h) (writers_more P w row writers more (All-tail P writer writers h))

-- ## a writer more

pub answers_in_new : (writers : List WriterPlan) (writer : WriterPlan) → writer.script ≡ [] → answer_count (writers ++ writer ∷ []) ≡ answer_count writers
answers_in_new writers writer h = grind (arith, common_steps, answers_cons)

-- ## as they are stored

pub line_stored : (lanes : List Lane) (n : ℕ) (x y : Lane) (line : LaneLine) → length lanes ≡ suc n → x ≡ get_or lanes n x → lane_plan y ≡ one_more line (lane_plan x)
    → map lane_plan (set lanes n y) ≡ with_line line (map lane_plan lanes)
line_stored lanes n x y line count at more =
    let inside : n < length lanes = omega arith in let long : length (map lane_plan lanes) ≡ suc n = length-map lanes lane_plan ∙ count in
    let fact = with_line_is line (map lane_plan lanes) n (lane_plan x) long in
    grind (arith, common_steps, length-map lanes lane_plan, get_or-map lane_plan lanes n x (lane_plan x) inside, map-set lane_plan lanes n y)

pub answer_stored : (writers : List Writer) (w : ℕ) (x y : Writer) (row : Scripted) → w < length writers → x ≡ get_or writers w x → writer_plan y ≡ one_row_more row (writer_plan x)
    → map writer_plan (set writers w y) ≡ with_answer w row (map writer_plan writers)
answer_stored writers w x y row inside at more =
    let long : w < length (map writer_plan writers) = omega (arith, length-map writers writer_plan) in
    let old : get_or (map writer_plan writers) w (writer_plan x) ≡ writer_plan x = get_or-map writer_plan writers w x (writer_plan x) inside ∙ sym (ap writer_plan at) in
    map-set writer_plan writers w y ∙ ap (λ (v : WriterPlan). set (map writer_plan writers) w v) (more ∙ sym (ap (one_row_more row) old)) ∙ sym (with_answer_is w row (map writer_plan writers) (writer_plan x) long)

-- ## Whether a session stands after each line of a lane.

-- where a session stands, an `end` comes, and each later one ends too
abbrev pub ends_after : Bool → List LaneLine → Bool
ends_after stands lines = (not stands || has_end lines) && ends_sessions lines

or_true : (b : Bool) → (b || true) ≡ true
or_true b = grind arith

has_end_closed : (lines : List LaneLine) → has_end (lines ++ implied_end ∷ []) ≡ true
has_end_closed lines = grind (arith, common_steps, or_true)

-- a further `end` ends each session
pub ends_closed : (lines : List LaneLine) → ends_sessions (lines ++ implied_end ∷ []) ≡ true
ends_closed [] = refl
ends_closed (line ∷ lines) = rw (has_end_closed lines, ends_closed lines, or_true (not (is_begin line.op))) refl

-- what holds of the lines and of the lines with an `end` holds of the lane that gets one where it needs it
pub closed_keeps : (P : List LaneLine → Type 0) (lines : List LaneLine) → (ends_sessions lines ≡ true → P lines) → P (lines ++ implied_end ∷ []) → P (closed lines)
closed_keeps x0 lines same more = grind arith

-- ## The scenario of a whole text keeps to the limits.

-- ## lanes with the `end` that they have not written

closed_few : (lines : List LaneLine) → length (closed lines) ≤ length lines + 1
closed_few lines = grind (arith, common_steps, closed_keeps)

closed_agendas : (lines : List LaneLine) → agenda_lines (closed lines) ≤ agenda_lines lines
closed_agendas lines = grind (arith, closed_keeps, sum_by_push)

closed_ends : (lines : List LaneLine) → ends_sessions (closed lines) ≡ true
closed_ends lines = closed_keeps (λ ls. ends_sessions ls ≡ true) lines (λ e. e) (ends_closed lines)

few_lines : (lanes : List LanePlan) → line_count (map closed_lane lanes) ≤ line_count lanes + length lanes
few_lines [] = omega arith
few_lines (lane ∷ lanes) = grind (arith, common_steps, lines_cons, closed_few, few_lines lanes)

few_agendas : (lanes : List LanePlan) → agenda_count (map closed_lane lanes) ≤ agenda_count lanes
few_agendas lanes = grind (arith, common_steps, agendas_cons, closed_agendas)

lane_is : (s : Plan) (lane : LanePlan) → IsLaneRow (length s.source) s.volumes (length s.writers) lane → length lane.lines ≤ 100000 → IsLane s (closed_lane lane)
lane_is s lane h few =
    let P : LaneLine → Type 0 = λ (l : LaneLine). IsOp s l.op in
    record {
      name = h.name;
      whom = h.whom;
      ops = closed_keeps (λ ls. All P ls) lane.lines (λ _. h.ops) (All-push P lane.lines implied_end h.ops tt);
      ends = closed_ends lane.lines;
      few_lines = omega (arith, closed_few lane.lines);
    }

lanes_are : (s : Plan) (lanes : List LanePlan) → All (IsLaneRow (length s.source) s.volumes (length s.writers)) lanes → line_count lanes ≤ 100000 → All (IsLane s) (map closed_lane lanes)
lanes_are s [] h few = All-nil (IsLane s)
lanes_are s (lane ∷ lanes) h few =
    let P : LanePlan → Type 0 = IsLaneRow (length s.source) s.volumes (length s.writers) in
    All-cons (IsLane s) (closed_lane lane) (map closed_lane lanes) (lane_is s lane (All-head P lane lanes h) (omega (arith, lines_cons lane lanes)))
    (lanes_are s lanes (All-tail P lane lanes h) (omega (arith, lines_cons lane lanes)))

-- ## all of it

pub plan_is : (text : List ℕ) (d : SoFar) → length text < 4294967295 → IsWithin (length text) d → IsPlan (plan_in text d)
plan_is text d short h =
    let s : Plan = plan_in text d in
    grind (arith, common_steps, lanes_are s d.lanes h.lanes h.few_lines, few_lines d.lanes, length-map d.lanes closed_lane, few_agendas d.lanes)
