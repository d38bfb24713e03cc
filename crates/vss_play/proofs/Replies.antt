-- What is told of a step is of a volume and of writers that there are, and its numbers are in the scenario's range.
use Rattle.std.proofs.Common.{◌≡◌, ℕ, ◌==◌, ◌<◌, ◌≤◌, List, [], ◌∷◌, length, Option, Some, None, refl, Bool, true, false, subst, arith, ◌+◌, sym}
use Rattle.std.proofs.lemmas.Bool.{eqb-true}
use Rattle.std.proofs.lemmas.List.Concat.{flat_map-cons}
use Rattle.std.proofs.lemmas.List.Elements.{All-cons, All-append}
use Rattle.std.specs.List.{flat_map}
use Rattle.std.specs.Prelude.{map, filter, not, ◌||◌, All, if◌then◌else◌, ◌&&◌, nat_lt}
use Rattle.vss_names.specs.declared.context.Context.{Context}
use Rattle.vss_names.specs.declared.level.Level.{Level}
use Rattle.vss_names.specs.declared.order.Order.{Order}
use Rattle.vss_names.specs.declared.vss_result.VssResult.{VssResult}
use Rattle.write_history.specs.History.{History}
use Rattle.write_history.specs.Slots.{evicted_of}
use Rattle.write_history.specs.declared.evicted.Evicted.{Evicted}
use Rattle.write_history.specs.declared.mark.Mark.{Mark}
use Rattle.diff_area.proofs.GoodRecords.{and_left as first_of, and_right as second_of}
use Rattle.set_agenda.specs.Agenda.{Agenda, Open, places, is_orders, is_at, has_said, writers_at, members_of, waited_for, with_group, left_from, left}
use Rattle.set_agenda.specs.Agenda.{is_asking, is_asked, waits_now, order_now, order_of, open_order, next_volume, is_among, open_group}
use Rattle.set_agenda.specs.Course.{lost_at, limits_now}
use Rattle.set_agenda.specs.Limits.{Running as RunningLimit, spent_of}
use Rattle.set_agenda.specs.declared.group.Group.{Group}
use Rattle.set_agenda.specs.declared.member.Member.{Member}
use Rattle.set_agenda.specs.declared.place.Place.{Place}
use Rattle.writer_calls.specs.declared.answer.Answer.{Answer}
use Rattle.component_doc.specs.Selection.{Naming}
use Rattle.requestor.specs.Check.{check}
use Rattle.requestor.specs.Session.{Session}
use Rattle.requestor.specs.declared.mode.Mode.{Mode}
use Rattle.requestor.specs.declared.verdict.Verdict.{Verdict}
use Rattle.scenario.specs.Calls.{line_of, Target}
use Rattle.scenario.specs.Plan.{Plan}
use Rattle.scenario.specs.declared.line.Line.{Line as Does}
use Rattle.scenario.specs.declared.line.Line.TheVariants.{Writes, Reads, ShowsImage, ShowsBlock, ShowsProperties, Reverts, DeletesSet, DeletesImage, Calls}
use Rattle.scenario.specs.declared.op.Op.{Op}
use Rattle.vss_model.specs.Acts.{order_of_writer, answer_reply, step_reply, event_reply}
use Rattle.vss_model.specs.Effects.{volumes_losing, evicted_at, evicted, ticks_of, lost_after, lost}
use Rattle.vss_model.specs.Steps.{runs}
use Rattle.vss_model.specs.Images.{block_reply, count_images, delete_image_reply, image_reply, properties_reply, read_as, reply_of_mark, revert_refusal}
use Rattle.vss_model.specs.Images.{revert_reply}
use Rattle.vss_model.specs.Lines.{reply_to}
use Rattle.vss_model.specs.Reply.{Reply, Stepped}
use Rattle.vss_model.specs.Sessions.{add_reply, await_reply, begin_reply, call_reply, component_reply, fine_unless, first_reply, judged_reply, naming_reply}
use Rattle.vss_model.specs.Sessions.{session_reply}
use Rattle.vss_model.specs.State.{State, SetRow, Kept, is_kept_set, left_now, kept_image, has_image}
use Rattle.vss_model.specs.Outcome.{Fits}
use Rattle.vss_model.specs.declared.event.Event.{Event}
use Rattle.vss_model.specs.declared.event.Event.TheVariants.{Line, Answer as AnswerEvent, Provider, Idle}
use Rattle.vss_model.specs.declared.told.Told.{Told}
use Rattle.vss_model.proofs.CourseCalls.{asked_if as order_asks}
use Rattle.vss_report.specs.ToldLines.{IsTold, IsVolumeNumber}
use Rattle.vss_world.specs.Stands.{AreBelow, MembersBelow, IsAgendaIn}
use Rattle.vss_world.proofs.InPlan.{below_filter, next_below_from, members_filter, below_if as losing_if}

-- ## The volume of the provider's next step, and the writers that are asked, are of the scenario: an agenda is of its volumes and of its
-- writers.

-- ## numbers below a bound

pub all_below : (n : ℕ) (vs : List ℕ) → AreBelow n vs → All (λ v. v < n) vs
all_below n [] h = λ k d l. absurd (omega arith)
all_below n (v ∷ vs) h = All-cons (λ v. v < n) v vs h.0 (all_below n vs h.1)

-- ## the members of a group

numbers_below : (n : ℕ) (ms : List Member) → MembersBelow n ms → AreBelow n (map (λ (m : Member). m.writer) ms)
numbers_below n [] h = tt
numbers_below n (m ∷ ms) h = (h.0, numbers_below n ms h.1)

writers_below : (n : ℕ) (ms : List Member) (l : Option Level) → MembersBelow n ms → AreBelow n (writers_at ms l)
writers_below n ms l h = numbers_below n (filter (λ (m : Member). is_at l m.level) ms) (members_filter (λ (m : Member). is_at l m.level) n ms h)

asked_below : (n : ℕ) (a : Agenda) (g : Group) (l : Option Level) → MembersBelow n a.members → is_orders g ≡ true → AreBelow n (members_of a g l)
asked_below n a g l h e = grind (arith, writers_below, below_filter)

-- ## the volume of the next step

abbrev pub IsBelowIf : ℕ → Option ℕ → Type 0
IsBelowIf n None = Unit {0}
IsBelowIf n (Some v) = v < n

pub next_below : (s : Plan) (a : Option Agenda) → IsAgendaIn s a → IsBelowIf (length s.volumes) (next_volume (left a))
next_below s None h = tt
next_below s (Some a) h = next_below_from (length s.volumes) a (places a.kind) h.0

-- ## who is asked

waits_below_with : (n : ℕ) (p : Place) (ws : List ℕ) (later : List Open) → (is_orders p.group ≡ true → AreBelow n ws)
    → (is_asking later ≡ true → AreBelow n (waits_now later)) → is_asking (with_group p ws later) ≡ true → AreBelow n (waits_now (with_group p ws later))
waits_below_with n p ws later here h e = grind arith

waits_below_from : (n : ℕ) (a : Agenda) (ps : List Place) → MembersBelow n a.members → is_asking (left_from a ps) ≡ true → AreBelow n (waits_now (left_from a ps))
waits_below_from n a [] h e = absurd cc
waits_below_from n a (p ∷ ps) h e =
    waits_below_with n p (waited_for a p) (left_from a ps)
    (λ f. below_filter (λ who. not (has_said a.log p who)) n (members_of a p.group p.level) (asked_below n a p.group p.level h f)) (waits_below_from n a ps h) e

-- those who are waited for in a group of writers are writers of the scenario
pub waits_below : (s : Plan) (a : Option Agenda) → IsAgendaIn s a → is_asking (left a) ≡ true → AreBelow (length s.writers) (waits_now (left a))
waits_below s None h e = absurd cc
waits_below s (Some a) h e = waits_below_from (length s.writers) a (places a.kind) h.1 e

orders_of : (g : Group) (o : Order) → order_of g ≡ Some o → is_orders g ≡ true
orders_of g o e = grind arith

-- an order is open just where writers are asked
pub asks_order : (os : List Open) (o : Order) → order_now os ≡ Some o → is_asking os ≡ true
asks_order os o e = grind (arith, orders_of)

among_below : (n v : ℕ) (vs : List ℕ) → AreBelow n vs → is_among v vs ≡ true → v < n
among_below n v [] h e = cc
among_below n v (w ∷ vs) h e = by_test (w == v) refl e (λ g. among_below n v vs h.1 g)
  where
    by_test : (b : Bool) → (w == v) ≡ b → (b || is_among v vs) ≡ true → (is_among v vs ≡ true → v < n) → v < n
    by_test true f g rest = subst (λ (u : ℕ). u < n) (eqb-true w v f) h.0
    by_test false f g rest = rest g

asked_in : (n w : ℕ) (os : List Open) → (is_asking os ≡ true → AreBelow n (waits_now os)) → is_asked w os ≡ true → w < n
asked_in n w os h e = grind (arith, among_below, first_of, second_of)

-- a writer that has an order open is one of the scenario
pub asked_in_plan : (s : Plan) (a : Option Agenda) (w : ℕ) (o : Order) → IsAgendaIn s a → open_order (left a) w ≡ Some o → w < length s.writers
asked_in_plan s a w o h e = asked_in (length s.writers) w (left a) (waits_below s a h) (order_asks (is_asked w (left a)) (order_now (left a)) o e)

-- and a writer that there is not has none
pub none_asked : (s : Plan) (a : Option Agenda) (w : ℕ) → IsAgendaIn s a → length s.writers ≤ w → open_order (left a) w ≡ None
none_asked s a w h l = grind (arith, asked_in_plan)

-- ## What is told of a step is of a volume that there is, and a line is told as no step.

-- a step that is told is of a volume that there is
abbrev pub IsStepBelow : ℕ → Reply → Type 0
IsStepBelow n (Stepped g v fault) = IsBelowIf n v
IsStepBelow n _ = Unit {0}

by_mark : (n : ℕ) (mark : Mark) → IsStepBelow n (reply_of_mark mark)
by_mark n mark = grind arith

-- a reply that is told where no device failed
abbrev IsPlain : Reply → Type 0
IsPlain r = (n : ℕ) → IsStepBelow n r

by_read : (n : ℕ) (r : Reply) (mark : Mark) → IsPlain r → IsStepBelow n (read_as mark r)
by_read n r mark h = grind arith

by_image : (n v b : ℕ) (k : Option Kept) (mark : Mark) (st : State) → IsStepBelow n (block_reply v b k mark st)
by_image n v b k mark st = grind (arith, by_read)

by_images : (n : ℕ) (s : Plan) (v : ℕ) (k : Option Kept) (mark : Mark) (st : State) → IsStepBelow n (image_reply s v k mark st)
by_images n s v k mark st = grind (arith, by_read)

by_properties : (n : ℕ) (s : Plan) (v : ℕ) (k : Option Kept) (st : State) → IsStepBelow n (properties_reply s v k st)
by_properties n s v k st = grind arith

either : (b : Bool) (n : ℕ) (x y : Reply) → IsStepBelow n x → IsStepBelow n y → IsStepBelow n (if b then x else y)
either b n x y h k = grind arith

by_kept : (n : ℕ) (k : Option Kept) → IsStepBelow n (delete_image_reply k)
by_kept n k = grind arith

by_refusal : (n : ℕ) (why : Option VssResult) (mark : Mark) → IsStepBelow n (revert_reply why mark)
by_refusal n why mark = grind (arith, by_mark)

-- ## session calls

by_naming : (n : ℕ) (x : Naming) → IsStepBelow n (naming_reply x)
by_naming n x = grind arith

by_component : (n : ℕ) (m : Mode) (s : Plan) (w : ℕ) (name : List ℕ) (st : State) → IsStepBelow n (component_reply m s w name st)
by_component n m s w name st = grind (arith, by_naming)

by_add_to : (n : ℕ) (why : Option VssResult) → IsStepBelow n (fine_unless why)
by_add_to n why = grind arith

by_add : (n v : ℕ) (r : Option SetRow) (st : State) → IsStepBelow n (add_reply v r st)
by_add n v r st = grind (arith, by_add_to)

by_await : (n : ℕ) (last : Option VssResult) → IsStepBelow n (await_reply last)
by_await n last = grind arith

by_begin : (n : ℕ) (c : Option Context) → IsStepBelow n (begin_reply c)
by_begin n c = grind arith

by_session : (n : ℕ) (s : Plan) (op : Op) (q : Session) (st : State) → IsStepBelow n (session_reply s op q st)
by_session n s op q st = grind (arith, by_component, by_add, either, by_await)

without_session : (n : ℕ) (op : Op) → IsStepBelow n (first_reply op)
without_session n op = grind (arith, by_begin)

by_line_in : (n : ℕ) (s : Plan) (op : Op) (q : Option Session) (st : State) → IsStepBelow n (call_reply s op q st)
by_line_in n s op q st = grind (arith, without_session, by_session)

by_verdict : (n : ℕ) (v : Verdict) (s : Plan) (op : Op) (st : State) → IsStepBelow n (judged_reply v s op st)
by_verdict n v s op st = grind (arith, by_line_in)

-- ## every event

by_line : (n : ℕ) (s : Plan) (lane : ℕ) (op : Op) (l : Does) (mark : Mark) (st : State) → IsStepBelow n (reply_to s lane op l mark st)
by_line n s lane op (Writes v b payload) mark st = by_mark n mark
by_line n s lane op (Reads v b) mark st = by_read n _ mark (λ m. tt)
by_line n s lane op (ShowsImage m v) mark st = by_images n s v (kept_image st m v) mark st
by_line n s lane op (ShowsBlock m v b) mark st = by_image n v b (kept_image st m v) mark st
by_line n s lane op (ShowsProperties m v) mark st = by_properties n s v (kept_image st m v) st
by_line n s lane op (Reverts m v) mark st = by_refusal n (revert_refusal v (kept_image st m v) st) mark
by_line n s lane op (DeletesSet m) mark st = either (is_kept_set st m && nat_lt 0 (count_images m st.volumes)) n _ _ tt tt
by_line n s lane op (DeletesImage m v) mark st = by_kept n (kept_image st m v)
by_line n s lane op (Calls c) mark st = by_verdict n (check st.session (runs st) lane c) s op st
by_line n s lane op _ mark st = tt

by_answer : (n : ℕ) (o : Option Order) (a : Answer) → IsStepBelow n (answer_reply o a)
by_answer n o a = grind arith

by_step : (n : ℕ) (g : Option Group) (v : Option ℕ) (mark : Mark) → IsBelowIf n v → IsStepBelow n (step_reply g v mark)
by_step n g v mark h = grind arith

pub step_in : (s : Plan) (st : State) (event : Event) (mark : Mark) → IsAgendaIn s st.course.agenda → IsStepBelow (length s.volumes) (event_reply s st event mark)
step_in s st (Line lane op) mark h = by_line (length s.volumes) s lane op (line_of op) mark st
step_in s st (AnswerEvent w a) mark h = by_answer (length s.volumes) (order_of_writer st w) a
step_in s st Provider mark h = by_step (length s.volumes) (open_group (left_now st)) (next_volume (left_now st)) mark (next_below s st.course.agenda h)
step_in s st Idle mark h = tt

-- ## The numbers that a move tells are in the scenario's range.

-- ## what is told

told_as : (s : Plan) (t u : Told) → t ≡ u → IsTold s u → IsTold s t
told_as s t u e h = subst (IsTold s) (sym e) h

below_is : (s : Plan) (v : Option ℕ) → IsBelowIf (length s.volumes) v → IsVolumeNumber s v
below_is s v h = grind arith

pub told_in : (s : Plan) (tells : List Bool) (r : Reply) (t : Told) → IsStepBelow (length s.volumes) r → Fits tells r t → IsTold s t
told_in s tells r t b e = grind (arith, told_as, below_is)

-- ## who is lost

lost_at_below : (n : ℕ) (l : Option RunningLimit) (o : Option Order) (os : List Open) → order_now os ≡ o → (is_asking os ≡ true → AreBelow n (waits_now os)) → AreBelow n (lost_at l o (waits_now os))
lost_at_below n l o os e h = grind (arith, asks_order)

lost_after_below : (s : Plan) (ticks : Option ℕ) (st : State) → IsAgendaIn s st.course.agenda → AreBelow (length s.writers) (lost_after ticks st)
lost_after_below s None st h = tt
lost_after_below s (Some n) st h =
    lost_at_below (length s.writers) (spent_of (st.clock + n) (limits_now st.course)) (order_now (left st.course.agenda)) (left st.course.agenda) refl (waits_below s st.course.agenda h)

pub lost_in : (s : Plan) (st : State) (event : Event) (lost_writers : List ℕ) → IsAgendaIn s st.course.agenda → lost_writers ≡ lost st event → All (λ w. w < length s.writers) lost_writers
lost_in s st event lost_writers h e = all_below (length s.writers) lost_writers (subst (AreBelow (length s.writers)) (sym e) (lost_after_below s (ticks_of st event) st h))

-- ## what is evicted

all_none : {X : Type 0} (P : X → Type 0) → All P []
all_none P = λ k d l. absurd (omega arith)

losing_below : (m n v : ℕ) (hs ks : List History) → v + length hs ≤ m → AreBelow m (volumes_losing n v hs ks)
losing_below m n v [] ks l = tt
losing_below m n v (h ∷ hs) [] l = tt
losing_below m n v (h ∷ hs) (k ∷ ks) l = losing_if (has_image n h && not (has_image n k)) m v (volumes_losing n (v + 1) hs ks) (omega arith) (losing_below m n (v + 1) hs ks (omega arith))

abbrev IsEvictedIn : ℕ → Evicted → Type 0
IsEvictedIn m e = e.volume < m

all_evicted : (m n : ℕ) (vs : List ℕ) → AreBelow m vs → All (IsEvictedIn m) (evicted_of n vs)
all_evicted m n [] h = all_none (IsEvictedIn m)
all_evicted m n (v ∷ vs) h = All-cons (IsEvictedIn m) (record { set = n; volume = v }) (evicted_of n vs) h.0 (all_evicted m n vs h.1)

all_flat : (m : ℕ) (f : SetRow → List Evicted) (rows : List SetRow) → ((r : SetRow) → All (IsEvictedIn m) (f r)) → All (IsEvictedIn m) (flat_map f rows)
all_flat m f [] h = all_none (IsEvictedIn m)
all_flat m f (r ∷ rows) h = subst (All (IsEvictedIn m)) (sym (flat_map-cons f r rows)) (All-append (IsEvictedIn m) (f r) (flat_map f rows) (h r) (all_flat m f rows h))

evicted_at_in : (s : Plan) (st : State) (t : Option Target) → length st.volumes ≡ length s.volumes → All (IsEvictedIn (length s.volumes)) (evicted_at s st t)
evicted_at_in s st t e = grind (arith, all_none, all_flat, all_evicted, losing_below)

evicted_event : (s : Plan) (st : State) (event : Event) → length st.volumes ≡ length s.volumes → All (IsEvictedIn (length s.volumes)) (evicted s st event)
evicted_event s st event e = grind (arith, evicted_at_in, all_none)

pub evicted_in : (s : Plan) (st : State) (event : Event) (images : List Evicted) → images ≡ evicted s st event → length st.volumes ≡ length s.volumes
    → All (λ (e : Evicted). e.volume < length s.volumes) images
evicted_in s st event images e l = subst (All (IsEvictedIn (length s.volumes))) (sym e) (evicted_event s st event l)
