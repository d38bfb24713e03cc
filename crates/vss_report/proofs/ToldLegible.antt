-- What a program tells of a legal move is legible: which replies a lane's line may have, and which writers have a code.
use Rattle.std.proofs.Common.{◌≡◌, ◌∙◌, ℕ, ◌+◌, Bool, List, [], ◌∷◌, map, refl, ap, sym, subst, arith, zero, suc, ◌<◌, ◌≤◌, true, length, filter, Option, Some}
use Rattle.std.proofs.Common.{false, find, rules}
use Rattle.std.proofs.lemmas.Bool.Decides.{nat_tests}
use Rattle.std.proofs.lemmas.Grind.{common_steps}
use Rattle.std.proofs.lemmas.List.Elements.{All-nil, All-cons, All-head, All-tail}
use Rattle.std.proofs.lemmas.List.FromFn.{length-range_with_len}
use Rattle.std.specs.Prelude.{All, ◌&&◌, nat_lt, is_some, is_none, if◌then◌else◌, slice_get}
use Rattle.vss_names.specs.declared.order.Order.{Order}
use Rattle.vss_names.specs.declared.set_outcome.SetOutcome.{SetOutcome}
use Rattle.vss_names.specs.declared.vss_result.VssResult.{VssResult}
use Rattle.vss_names.specs.declared.writer_state.WriterState.{WriterState}
use Rattle.write_history.specs.History.{Write, to_restore}
use Rattle.write_history.specs.declared.actor.Actor.{Actor}
use Rattle.write_history.specs.declared.actor.Actor.TheVariants.{Lane, Writer, Advance, Idle}
use Rattle.write_history.specs.declared.evicted.Evicted.{Evicted}
use Rattle.write_history.specs.declared.mark.Mark.{Mark}
use Rattle.write_history.specs.declared.mark.Mark.TheVariants.{Clean, Fault, FaultAfter}
use Rattle.write_history.specs.declared.move_item.Move.{Move}
use Rattle.writer_state.specs.WriterState.{row_after, row_aborted, row_gathered, row_ended, is_failed, stable_again}
use Rattle.writer_state.specs.declared.said.Said.{Said}
use Rattle.writer_state.specs.declared.writer_row.WriterRow.{WriterRow}
use Rattle.set_agenda.specs.Agenda.{Open, open_group, next_volume, is_working}
use Rattle.set_agenda.specs.Course.{Course, row_if, rows_where, posted, told, worked, failed as course_failed, released}
use Rattle.set_agenda.proofs.Closings.{unless}
use Rattle.set_agenda.proofs.CourseRule.{IsKeptInCourse}
use Rattle.writer_calls.specs.declared.answer.Answer.{Answer}
use Rattle.requestor.specs.Check.{check}
use Rattle.requestor.specs.declared.verdict.Verdict.{Verdict}
use Rattle.scenario.specs.Bounds.{IsPlan, IsVolume}
use Rattle.scenario.specs.Calls.{line_of}
use Rattle.scenario.specs.Plan.{Plan, WriterPlan, blocks_in, LaneLine}
use Rattle.scenario.specs.declared.line.Line.{Line as Does}
use Rattle.scenario.specs.declared.line.Line.TheVariants.{Writes, Reads, ShowsImage, ShowsBlock, ShowsSets, ShowsProperties, Reverts, DeletesSet, DeletesImage}
use Rattle.scenario.specs.declared.line.Line.TheVariants.{Ticks, Calls}
use Rattle.scenario.specs.declared.op.Op.{Op}
use Rattle.scenario.specs.declared.volume_row.VolumeRow.{VolumeRow}
use Rattle.vss_model.specs.Acts.{Act, state, restorable, allows_by, line_allows, reply, answer_reply, step_reply, flush_allows, event_allows, enabled}
use Rattle.vss_model.specs.Acts.{order_of_writer}
use Rattle.vss_model.specs.Effects.{ended_of}
use Rattle.vss_model.specs.Steps.{runs, is_flush}
use Rattle.vss_model.specs.Images.{block_reply, count_images, delete_image_reply, image_reply, properties_reply, revert_refusal, revert_reply}
use Rattle.vss_model.specs.Lines.{line_reply, reply_to}
use Rattle.vss_model.specs.Outcome.{IsOutcome, HasLists, EndsAs, Fits, mark_of}
use Rattle.vss_model.specs.Reply.{Reply, Faulted, FaultedAfter, StatusOf, Answered, Stepped, Idled}
use Rattle.vss_model.specs.Sessions.{judged_reply}
use Rattle.vss_model.specs.State.{State, row_of_writer, Kept, kept_image, is_kept_set, SetRow, is_running}
use Rattle.vss_model.specs.Trail.{run, acts, Run, act_of, next_line, line_event, script_event, event_of, may_move}
use Rattle.vss_model.specs.declared.event.Event.{Event}
use Rattle.vss_model.specs.declared.event.Event.TheVariants.{Line, Answer as AnswerEvent}
use Rattle.vss_model.specs.declared.outcome.Outcome.{Outcome}
use Rattle.vss_model.specs.declared.told.Told.{Told}
use Rattle.vss_model.specs.declared.told.Told.TheVariants as as_told
use Rattle.vss_model.proofs.Appending.{state-run}
use Rattle.vss_model.proofs.Rules.{IsKeptByCalls, of_course}
use Rattle.vss_report.specs.Legible.{has_its_code, HasItsCode, IsShort, IsLaneReply, IsWriterReply, IsStepReply, IsReplyTo, IsLegibleImage, IsLegibleEnd}
use Rattle.vss_report.specs.Legible.{IsLegibleAct, IsShortTold, AreShortSets, AreShort, IsLegibleAs}
use Rattle.vss_report.specs.ToldLines.{IsTold, IsActor, HasRowsIfTold, AreInRange}
use Rattle.vss_report.proofs.Joined.{first_of_both, second_of_both}

-- ## A writer that has failed has a code, and no other has one: each change of the rows keeps that.

-- ## a row

fails_alike : (st : WriterState) → is_failed (stable_again st) ≡ is_failed st
fails_alike st = grind arith

has_ended : (r : WriterRow) → HasItsCode r → HasItsCode (row_ended r)
has_ended r h = ap (has_its_code r.code) (fails_alike r.state) ∙ h

has_aborted : (r : WriterRow) → HasItsCode r → HasItsCode (row_aborted r)
has_aborted r h = grind arith

has_said : (o : Order) (said : Said) (r : WriterRow) → HasItsCode r → HasItsCode (row_after o said r)
has_said o said r h = grind arith

-- ## rows

abbrev AreCoded : List WriterRow → Type 0
AreCoded [] = Unit {0}
AreCoded (r ∷ rows) = HasItsCode r × AreCoded rows

coded_if : (b : Bool) (f : WriterRow → WriterRow) → ((r : WriterRow) → HasItsCode r → HasItsCode (f r)) → (r : WriterRow) → HasItsCode r → HasItsCode (row_if b f r)
coded_if b f keeps r h = grind arith

coded_where : (f : WriterRow → WriterRow) → ((r : WriterRow) → HasItsCode r → HasItsCode (f r)) → (test : ℕ → Bool) (w : ℕ) (rows : List WriterRow) → AreCoded rows → AreCoded (rows_where f test w rows)
coded_where f keeps test w [] h = tt
coded_where f keeps test w (r ∷ rows) h = (coded_if (test w) f keeps r h.0, coded_where f keeps test (w + 1) rows h.1)

coded_map : (f : WriterRow → WriterRow) → ((r : WriterRow) → HasItsCode r → HasItsCode (f r)) → (rows : List WriterRow) → AreCoded rows → AreCoded (map f rows)
coded_map f keeps [] h = tt
coded_map f keeps (r ∷ rows) h = (keeps r h.0, coded_map f keeps rows h.1)

coded_anew : (rows : List WriterRow) → AreCoded (map row_gathered rows)
coded_anew [] = tt
coded_anew (r ∷ rows) = (refl, coded_anew rows)

coded_first : (ws : List WriterPlan) → AreCoded (map row_of_writer ws)
coded_first [] = tt
coded_first (w ∷ ws) = (refl, coded_first ws)

-- ## the course

abbrev RowsAreCoded : Course → Type 0
RowsAreCoded c = AreCoded c.rows

coded_within : IsKeptInCourse RowsAreCoded
unfolding posted told worked course_failed
coded_within = grind (arith, coded_where, has_said, has_aborted)

coded_calls : IsKeptByCalls RowsAreCoded
unfolding released
coded_calls = grind (arith, coded_within, coded_anew, coded_map, has_ended)

all_coded : (rows : List WriterRow) → AreCoded rows → All HasItsCode rows
all_coded [] h = All-nil HasItsCode
all_coded (r ∷ rows) h = All-cons HasItsCode r rows h.0 (all_coded rows h.1)

pub failures_are_coded : (s : Plan) (acts : List Act) → All HasItsCode (state s acts).course.rows
failures_are_coded s acts = all_coded (state s acts).course.rows (of_course RowsAreCoded coded_calls s acts (coded_first s.writers))

pub failures_of_run : (s : Plan) (trail : List Move) → All HasItsCode (run s trail).state.course.rows
failures_of_run s trail = subst (λ (st : State). All HasItsCode st.course.rows) (sym (state-run s trail)) (failures_are_coded s (acts s trail))

-- ## Which replies a lane's line may have, by the mark that its act has.

-- what a lane's move with this mark may be answered, whatever the numbers in it are
abbrev pub IsOfMark : State → Mark → Reply → Type 0
IsOfMark st m Faulted = m ≡ Fault
IsOfMark st m (FaultedAfter k) = (m ≡ FaultAfter k) × (k < 65536)
IsOfMark st m (StatusOf rows) = (m ≡ Clean) × (rows ≡ st.course.rows)
IsOfMark st m (Answered o a) = ⊥
IsOfMark st m (Stepped g v fault) = ⊥
IsOfMark st m (Idled n) = ⊥
IsOfMark st m _ = m ≡ Clean

-- ## session calls

on_judged : (v : Verdict) (s : Plan) (op : Op) (st : State) → IsOfMark st Clean (judged_reply v s op st)
on_judged v s op st = grind arith

-- ## images

length-filter : (test : ℕ → Bool) (xs : List ℕ) → length (filter test xs) ≤ length xs
length-filter test [] = omega arith
length-filter test (x ∷ xs) = grind (arith, common_steps, length-filter test xs)

few_restored : (n point : ℕ) (ws : List Write) → length (to_restore n ws point) ≤ n
few_restored n point ws = grind (arith, length-filter, length-range_with_len)

row_at : (s : Plan) (rows : List VolumeRow) (i : ℕ) (r : VolumeRow) → All (IsVolume s) rows → slice_get rows i ≡ Some r → IsVolume s r
row_at s [] i r h e = absurd cc
row_at s (x ∷ rows) zero r h e = subst (IsVolume s) (same e) (All-head (IsVolume s) x rows h)
  where
    same : Some x ≡ Some r → x ≡ r
    same e = cc
row_at s (x ∷ rows) (suc i) r h e = row_at s rows i r (All-tail (IsVolume s) x rows h) e

few_blocks : (s : Plan) (v : ℕ) (o : Option VolumeRow) → IsPlan s → slice_get s.volumes v ≡ o → blocks_in o ≤ 65536
few_blocks s v o plan e = grind (arith, row_at)

digest_clean : (s : Plan) (v : ℕ) (kept : Option Kept) (st : State) → IsOfMark st Clean (image_reply s v kept Clean st)
digest_clean s v kept st = grind arith

digest_fault : (s : Plan) (v : ℕ) (kept : Option Kept) (st : State) → is_some kept ≡ true → IsOfMark st Fault (image_reply s v kept Fault st)
digest_fault s v kept st e = grind arith

block_clean : (v b : ℕ) (kept : Option Kept) (st : State) → IsOfMark st Clean (block_reply v b kept Clean st)
block_clean v b kept st = grind arith

block_fault : (v b : ℕ) (kept : Option Kept) (st : State) → is_some kept ≡ true → IsOfMark st Fault (block_reply v b kept Fault st)
block_fault v b kept st e = grind arith

on_properties : (s : Plan) (v : ℕ) (kept : Option Kept) (st : State) → IsOfMark st Clean (properties_reply s v kept st)
on_properties s v kept st = grind arith

either : (st : State) (b : Bool) (x y : Reply) → IsOfMark st Clean x → IsOfMark st Clean y → IsOfMark st Clean (if b then x else y)
either st b x y h k = grind arith

on_delete_kept : (kept : Option Kept) (st : State) → IsOfMark st Clean (delete_image_reply kept)
on_delete_kept kept st = grind arith

revert_clean : (why : Option VssResult) (st : State) → IsOfMark st Clean (revert_reply why Clean)
revert_clean why st = grind arith

below_most : (k n m : ℕ) → nat_lt k n ≡ true → n ≤ m → m ≤ 65536 → k < 65536
below_most k n m e l h = grind (arith, nat_tests)

revert_stops : (s : Plan) (v k : ℕ) (why : Option VssResult) (kept : Option Kept) (st : State) → IsPlan s → (is_none why && nat_lt k (restorable s st v kept)) ≡ true
    → IsOfMark st (FaultAfter k) (revert_reply why (FaultAfter k))
revert_stops s v k why kept st plan e = grind (arith, below_most, few_restored, few_blocks)

-- ## any line

of_line : (s : Plan) (lane : ℕ) (op : Op) (l : Does) (mark : Mark) (st : State) → IsPlan s → allows_by s st l mark ≡ true → IsOfMark st mark (reply_to s lane op l mark st)
of_line s lane op (Writes v b payload) Clean st plan e = refl
of_line s lane op (Writes v b payload) Fault st plan e = refl
of_line s lane op (Reads v b) Clean st plan e = refl
of_line s lane op (Reads v b) Fault st plan e = refl
of_line s lane op (ShowsImage n v) Clean st plan e = digest_clean s v (kept_image st n v) st
of_line s lane op (ShowsImage n v) Fault st plan e = digest_fault s v (kept_image st n v) st e
of_line s lane op (ShowsBlock n v b) Clean st plan e = block_clean v b (kept_image st n v) st
of_line s lane op (ShowsBlock n v b) Fault st plan e = block_fault v b (kept_image st n v) st e
of_line s lane op (ShowsSets v) Clean st plan e = refl
of_line s lane op (ShowsProperties n v) Clean st plan e = on_properties s v (kept_image st n v) st
of_line s lane op (Reverts n v) Clean st plan e = revert_clean (revert_refusal v (kept_image st n v) st) st
of_line s lane op (Reverts n v) (FaultAfter k) st plan e = revert_stops s v k (revert_refusal v (kept_image st n v) st) (kept_image st n v) st plan e
of_line s lane op (DeletesSet n) Clean st plan e = either st (is_kept_set st n && nat_lt 0 (count_images n st.volumes)) _ _ refl refl
of_line s lane op (DeletesImage n v) Clean st plan e = on_delete_kept (kept_image st n v) st
of_line s lane op (Ticks n) Clean st plan e = refl
of_line s lane op (Calls c) Clean st plan e = on_judged (check st.session (runs st) lane c) s op st
of_line s lane _ _ _ st plan e = absurd cc

pub of_mark : (s : Plan) (lane : ℕ) (op : Op) (mark : Mark) (st : State) → IsPlan s → line_allows s st op mark ≡ true → IsOfMark st mark (line_reply s lane op mark st)
of_mark s lane op mark st plan e = of_line s lane op (line_of op) mark st plan e

-- ## What a program tells of a legal move is legible.

-- ## a lane's reply

short_as : (t u : Told) (listed : List ℕ) → t ≡ u → IsShortTold t listed → IsShortTold u listed
short_as t u listed e h = subst (λ x. IsShortTold x listed) e h

lane_legible : (s : Plan) (tells : List Bool) (st : State) (m : Mark) (r : Reply) (t : Told) (listed : List ℕ) (rows : List WriterRow) → IsOfMark st m r → Fits tells r t → HasLists r listed rows → IsShortTold t listed → HasRowsIfTold s t rows → All HasItsCode st.course.rows
    → IsLaneReply s tells m r
lane_legible s tells st m r t listed rows h f l short many coded = grind arith

-- ## other replies

clean_alone : (m : Mark) → flush_allows false m ≡ true → m ≡ Clean
clean_alone m e = grind arith

writer_legible : (m : Mark) (o : Option Order) (a : Answer) → is_some o ≡ true → m ≡ Clean → IsWriterReply m (answer_reply o a)
writer_legible m o a e f = grind arith

steps_legible : (s : Plan) (tells : List Bool) (m : Mark) (os : List Open) (t : Told) → is_working os ≡ true → flush_allows (is_flush (open_group os)) m ≡ true → Fits tells (step_reply (open_group os) (next_volume os) m) t → IsTold s t → IsStepReply s m (step_reply (open_group os) (next_volume os) m)
steps_legible s tells m os t e f fits h = grind arith

-- ## the event of an actor

record IsLineEvent (i : ℕ) (event : Event) : Type 0 where
  pub op : Op
  pub is : event ≡ Line i op

line_event_is : (i : ℕ) (o : Option LaneLine) (event : Event) → line_event i o ≡ Some event → IsLineEvent i event
line_event_is i o event e = grind arith

record IsAnswerEvent (w : ℕ) (event : Event) : Type 0 where
  pub answer : Answer
  pub is : event ≡ AnswerEvent w answer

script_event_is : (s : Plan) (st : State) (w : ℕ) (o : Option Order) (event : Event) → script_event s st w o ≡ Some event → IsAnswerEvent w event
script_event_is s st w o event e = grind arith

-- what is known of an event that may happen
record Happens (s : Plan) (tells : List Bool) (st : State) (mark : Mark) (t : Told) (listed : List ℕ) (rows : List WriterRow) (event : Event) : Type 0 where
  pub enabled_is : enabled s st event ≡ true
  pub allowed : event_allows s st event mark ≡ true
  pub fits : Fits tells (reply s st (act_of mark event)) t
  pub lists : HasLists (reply s st (act_of mark event)) listed rows

actor_legible : (s : Plan) (tells : List Bool) (r : Run) (a : Actor) (mark : Mark) (event : Event) (t : Told) (listed : List ℕ) (rows : List WriterRow) → IsPlan s → event_of s r a ≡ Some event → Happens s tells r.state mark t listed rows event
    → IsActor s a → IsTold s t → IsShortTold t listed → HasRowsIfTold s t rows → All HasItsCode r.state.course.rows → IsReplyTo s tells a mark (reply s r.state (act_of mark event))
actor_legible s tells r (Lane i) mark event t listed rows plan is h actor in_plan short many coded =
    grind (arith, common_steps, nat_tests, lane_legible, of_mark, line_event_is i (next_line s r i) event is)
actor_legible s tells r (Writer w) mark event t listed rows plan is h actor in_plan short many coded =
    let e = script_event_is s r.state w (order_of_writer r.state w) event is in
    let at : Happens s tells r.state mark t listed rows (AnswerEvent w e.answer) = subst (Happens s tells r.state mark t listed rows) e.is h in
    (actor, subst (λ x. IsWriterReply mark (reply s r.state (act_of mark x))) (sym e.is) (writer_legible mark (order_of_writer r.state w) e.answer at.enabled_is (clean_alone mark at.allowed)))
actor_legible s tells r Advance mark event t listed rows plan is h actor in_plan short many coded = grind (arith, common_steps, steps_legible)
actor_legible s tells r Idle mark event t listed rows plan is h actor in_plan short many coded = grind (arith, common_steps, clean_alone, short_as)

-- ## effects

images_legible : (s : Plan) (images : List Evicted) → All (λ (e : Evicted). e.volume < length s.volumes) images → AreShortSets images → All (IsLegibleImage s) images
images_legible s images h k = grind arith

passes_found : (test : SetRow → Bool) (rows : List SetRow) (r : SetRow) → find test rows ≡ Some r → test r ≡ true
passes_found test [] r e = absurd cc
passes_found test (q ∷ rows) r e = grind (arith, common_steps, passes_found test rows r)

over_ended : (o : Option SetRow) (rows : List SetRow) (r : SetRow) → ended_of o rows ≡ Some r → is_running r.result ≡ false
over_ended o rows r e = grind (arith, unless, second_of_both, passes_found)

end_legible : (o found : Option SetRow) (rows : List SetRow) (n : ℕ) (end : SetOutcome) → ended_of o rows ≡ found → EndsAs found n end → IsShort n → IsLegibleEnd found
end_legible o found rows n end e ends short = grind (arith, over_ended)

-- ## the move

told_act_legible : (s : Plan) (tells : List Bool) (r : Run) (a : Actor) (mark : Mark) (event : Event) (o : Outcome) (listed : List ℕ) (images : List Evicted) (rows : List WriterRow) → IsPlan s → AreInRange s a o listed images rows → AreShort o listed images
    → event_of s r a ≡ Some event → mark ≡ mark_of o.told → IsOutcome tells s r.state event o listed images rows → enabled s r.state event ≡ true → event_allows s r.state event mark ≡ true → All HasItsCode r.state.course.rows
    → IsLegibleAct s tells r.state a (act_of mark event)
told_act_legible s tells r a mark event o listed images rows plan range short is_event is_mark outcome can may coded =
    search (rules, actor_legible, images_legible, end_legible)

may_act : (s : Plan) (r : Run) (a : Actor) (event : Event) → event_of s r a ≡ Some event → may_move s r a ≡ true → enabled s r.state event ≡ true
may_act s r a event e h = grind arith

pub told_legible : (s : Plan) (m : Move) (o : Outcome) (listed : List ℕ) (images : List Evicted) (rows : List WriterRow) → IsPlan s → AreInRange s m.actor o listed images rows → AreShort o listed images → IsLegibleAs s m o listed images rows
told_legible s m o listed images rows plan range short tells r event is_event is_mark outcome legal coded = grind (arith, may_act, first_of_both, second_of_both, told_act_legible)
