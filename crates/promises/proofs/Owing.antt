-- Nobody owes an answer once the agenda that asked for it is over: while it runs, whoever owes one is waited for; and it ends only where
-- nobody is.
use Rattle.std.proofs.Common.{◌≡◌, ◌∙◌, ℕ, ◌+◌, ◌==◌, List, [], ◌∷◌, ◌++◌, Option, Some, None, refl, Bool, true, false, ap, sym, subst, inl, inr, map, filter, length, arith}
use Rattle.std.specs.Prelude.{◌&&◌, ◌||◌, not, is_some, option_map, if◌then◌else◌, nat_lt}
use Rattle.promises.proofs.Words.{list_any, list_any-append, Order, SetOutcome, VssResult, AsyncCancelled, AsyncPending, Said, Lost, is_ok, row_gathered}
use Rattle.promises.proofs.Words.{WriterRow, Mark, Write, takers, said_of, Group, Orders, Kind, Gather, Prepare, Snapshot, Complete, Member, Place, Agenda}
use Rattle.promises.proofs.Words.{plain, order_of, has_said, same_place, writers_at, groups_left, left, open_group, open_place, is_among, is_working, is_done}
use Rattle.promises.proofs.Words.{at_place, all_say, order_now, waits_now, spent_of, Stage, Session, opened, append_assoc, started as session_started}
use Rattle.promises.proofs.Words.{has_writers, stage_after, agenda_ended, set_failed, is_stage, Op, Plan, runs, followed, failed_in, failed, SetRow, State}
use Rattle.promises.proofs.Words.{in_progress, left_now, Event, Reply, Fine, Coded, Deleted, has_failed, IsAgendaOf, line_ticks, lost_order_if, Act, enabled}
use Rattle.promises.proofs.Words.{order_of_writer, idle_now, answer_reply, after, state, LetsGo, is_pending, Settles, among_filter, state-append}
use Rattle.promises.proofs.Words.{append_nothing, orderly, Deed, Spoke, deeds_lost, Asking, ToIdentify, ForConsent, AtCompletion, order_for, asks, step_for}
use Rattle.promises.proofs.Words.{is_asked_of, is_reply, owes_after, owes_if, owes_from, owes, NobodyOwes, Step, progress, is_step, is_writer, choosing, Covers}
use Rattle.promises.proofs.Words.{after_not_enabled, told_covered, some_same, none_runs, and_parts, false_from_ne_true, or_left, or_right, Course, is_member}
use Rattle.promises.proofs.Words.{fails_set, begun, answered as course_answered, stepped as course_stepped, timed as course_timed, settled, settled_if, posted}
use Rattle.promises.proofs.Words.{released, limits_now, lost_at, members_from, has_row_failed, prepared as course_prepared, Opened, Gathered, Started, Prepared}
use Rattle.promises.proofs.Words.{Done, Finished, Line, Provider, Replied, write, reverted_as, disable, start_set, closed, pending, gather, complete}
use Rattle.promises.proofs.Words.{ticked, later, new_number, is_disabled, selected, is_flush, is_failed_step, unspoken, number_is, unless, is_opened}
use Rattle.promises.proofs.Words.{is_started, is_done_stage, filter_passes}
use Rattle.writer_calls.specs.declared.answer.Answer.{Answer}
use Rattle.set_agenda.specs.Course.{failed as course_failed}
use Rattle.requestor.specs.declared.session_call.SessionCall.TheVariants as call
use Rattle.scenario.specs.declared.op.Op.TheVariants as op
use Rattle.vss_model.specs.declared.event.Event.TheVariants.{Answer as AnswerEvent}
use Rattle.vss_model.proofs.StateForm.{answered, stepped}
use Rattle.vss_model.proofs.Rules.{Running}
use Rattle.promises.proofs.Scripts.{kept_among}
use Rattle.promises.proofs.Speaks.{deed_at, deed_in, said_at, Grows, made_now, lost_told, grows_answered, grows_stepped, grows_timed}
use Rattle.promises.proofs.CourseRows.{course_followed}
use Rattle.promises.proofs.CalmStages.{calm_begun, IsCalm, calm_kept, calm_always}
use Rattle.promises.proofs.Moves.{write_ticks}
use Rattle.promises.proofs.Progress.{stage_of, StandsAt, stands_all, snapshots}
use Rattle.promises.proofs.Turns.{Turn, begun_turn, answer_turn, tick_turn, step_turn}
use Rattle.promises.proofs.Members.{members_from_are}
use Rattle.promises.proofs.Participants.{Follows, follows_all, standing, asked_by, asked_are}

abbrev p0 : Asking → Place
p0 i = plain (Orders (order_for i))

abbrev kind_for : Asking → Kind
kind_for ToIdentify = Gather
kind_for ForConsent = Prepare
kind_for AtCompletion = Complete

-- those of its one group that are not heard
abbrev waiting : Asking → Agenda → List ℕ
waiting i a = filter (λ who. not (has_said a.log (p0 i) who)) (writers_at a.members None)

-- ## the agenda

-- whoever is waited for is so in the one group
open_is : (i : Asking) (w : ℕ) (a : Agenda) → a.kind ≡ kind_for i → is_among w (waiting i a) ≡ true → open_place (groups_left a) ≡ p0 i
open_is i w a k e = grind arith

none_waits : (i : Asking) (w : ℕ) (a : Agenda) → a.kind ≡ kind_for i → is_done (groups_left a) ≡ true → is_among w (waiting i a) ≡ false
none_waits i w a k e = grind arith

-- a new entry of a place is of one who speaks
new_said : (p q : Place) (said : Said) (now : ℕ) (ws : List ℕ) (w : ℕ) → has_said (map (at_place p said now) ws) q w ≡ true → is_among w ws ≡ true
new_said p q said now [] w e = absurd cc
new_said p q said now (x ∷ ws) w e = by_head (same_place p q) (x == w) e (new_said p q said now ws w) where
  by_head : (b c : Bool) → ((b && c) || has_said (map (at_place p said now) ws) q w) ≡ true → (has_said (map (at_place p said now) ws) q w ≡ true → is_among w ws ≡ true)
      → (c || is_among w ws) ≡ true
  by_head b c e ih = grind arith

-- and what is said is told
new_told : (g : Group) (p : Place) (said : Said) (now : ℕ) (ws : List ℕ) (w : ℕ) (test : Deed → Bool) → ((u : ℕ) → (u == w) ≡ true → test (deed_at p.group u said now) ≡ true)
    → is_among w ws ≡ true → list_any test (map deed_in (map (at_place p said now) ws)) ≡ true
new_told g p said now [] w test f e = absurd cc
new_told g p said now (x ∷ ws) w test f e = grind (arith, or_left, or_right, new_told g p said now ws w test f)

both : {X : Type 0} (b : Bool) → b ≡ true → b ≡ false → X
both b e f = absurd cc

own_reply : (i : Asking) (g : Group) (said : Said) (now u w : ℕ) → g ≡ Orders (order_for i) → (fails_set (order_of g) && not (is_ok said)) ≡ false → (u == w) ≡ true
    → is_reply i w (deed_at g u said now) ≡ true
own_reply i g said now u w e f same = grind arith

-- who was not heard is waited for still
still_waits : (i : Asking) (w : ℕ) (said : Said) (now : ℕ) (ws : List ℕ) (a : Agenda) → a.kind ≡ kind_for i
    → (fails_set (order_of (open_place (groups_left a)).group) && not (is_ok said)) ≡ false
    → list_any (is_reply i w) (map deed_in (said_at (groups_left a) said now ws)) ≡ false → is_among w (waiting i a) ≡ true → is_among w (waiting i (all_say said now ws a)) ≡ true
still_waits i w said now ws a k mild untold waits = grind (arith, kept_among, among_filter, open_is, false_from_ne_true, both, new_told, own_reply, list_any-append, unless, filter_passes, new_said)

module _ (i : Asking) (w : ℕ) where
  -- of a running agenda, by whether the writer owes an answer
  abbrev pub Waits : Bool → Agenda → Type 0
  Waits c a = a.kind ≡ kind_for i → c ≡ true → is_among w (waiting i a) ≡ true

  module _ (c d : Bool) (keeps : d ≡ true → c ≡ true) where
    rests_waits : (a : Agenda) → Waits c a → Waits d a
    rests_waits a h k e = h k (keeps e)

    says_waits : (said : Said) (now : ℕ) (ws : List ℕ) (a : Agenda) → (fails_set (order_of (open_place (groups_left a)).group) && not (is_ok said)) ≡ false
        → (d ≡ true → list_any (is_reply i w) (map deed_in (said_at (groups_left a) said now ws)) ≡ false) → Waits c a → Waits d (all_say said now ws a)
    says_waits said now ws a mild untold h k e = still_waits i w said now ws a k mild (untold e) (h k (keeps e))

    abbrev pub Ends : Option Agenda → Option Agenda → SetOutcome → Type 0
    Ends None b p = Unit {0}
    Ends (Some a) b p = b ≡ None → has_failed p ≡ false → a.kind ≡ kind_for i → d ≡ false

    settled_waits : (done : Bool) (a : Agenda) (o : SetOutcome) (b : Option Agenda) (p : SetOutcome) → (done ≡ true → is_done (groups_left a) ≡ true) → Settles done a o b p
        → Waits d a → Running (Waits d) b × (b ≡ None → a.kind ≡ kind_for i → d ≡ false)
    settled_waits done a o b p x5 e h = grind (arith, false_from_ne_true, both, none_waits)

    grows_waits : (a : Option Agenda) (o : SetOutcome) (b : Option Agenda) (p : SetOutcome) (news : List Deed) → Grows a o b p news
        → (d ≡ true → list_any (is_reply i w) news ≡ false) → Running (Waits c) a → Running (Waits d) b × Ends a b p
    grows_waits None o b p news h untold r = (subst (Running (Waits d)) (sym h.0) tt, tt)
    grows_waits (Some a) o b p news (inl h) untold r = (subst (Running (Waits d)) (sym h.agenda) tt, λ f g. both (has_failed p) h.failed g)
    grows_waits (Some a) o b p news (inr (inl h)) untold r =
        let x = settled_waits h.done a o b p h.is_done h.settles (rests_waits a r) in (x.0, λ f g k. x.1 f k)
    grows_waits (Some a) o b p news (inr (inr h)) untold r =
        let more = all_say h.said h.now h.ws a in
        let x = settled_waits (is_done (groups_left more)) more o b p (λ e. e) h.settles
        (says_waits h.said h.now h.ws a h.mild (λ e. sym (ap (list_any (is_reply i w)) h.told) ∙ untold e) r) in (x.0, λ f g k. x.1 f k)

-- ## where an agenda begins

-- each of these members is waited for
member_waits : (w : ℕ) (ms : List Member) → is_member ms w ≡ true → is_among w (filter (λ who. true) (map (λ (m : Member). m.writer) (filter (λ (m : Member). true) ms))) ≡ true
member_waits w [] e = absurd cc
member_waits w (m ∷ ms) e = grind (arith, member_waits w ms)

begun_other : (i : Asking) (w : ℕ) (c : Bool) (k : Kind) (ms : List Member) (vs : List ℕ) (now : ℕ) (x : Course) → (k ≡ kind_for i → ⊥)
    → Running (Waits i w c) (begun k ms vs now x).agenda
unfolding begun posted settled
begun_other i w c k ms vs now x other = grind arith

begun_own : (i : Asking) (w : ℕ) (d : Bool) (ms : List Member) (now : ℕ) (x : Course) → (d ≡ true → is_member ms w ≡ true)
    → Running (Waits i w d) (begun (kind_for i) ms [] now x).agenda × ((begun (kind_for i) ms [] now x).agenda ≡ None → d ≡ false)
unfolding begun posted settled
begun_own i w d ms now x own = by_done (is_done (groups_left a)) refl where
  a : Agenda
  a = unspoken (kind_for i) ms [] now

  by_done : (b : Bool) → is_done (groups_left a) ≡ b
      → Running (Waits i w d) (settled_if b (kind_for i) (record x { agenda = Some a })).agenda × ((settled_if b (kind_for i) (record x { agenda = Some a })).agenda ≡ None → d ≡ false)
  by_done true e = (tt, λ f. false_from_ne_true d (λ g. both (is_among w (waiting i a)) (member_waits w ms (own g)) (none_waits i w a refl e)))
  by_done false e = (λ k g. member_waits w ms (own g), λ f. absurd (cc))

-- ## whom it asks

member_kept : (rows : List WriterRow) (ms : List Member) (w : ℕ) → not (has_row_failed rows w) ≡ true → is_member ms w ≡ true
    → is_member (filter (λ (m : Member). not (has_row_failed rows m.writer)) ms) w ≡ true
member_kept rows [] w e f = absurd cc
member_kept rows (m ∷ ms) w e f = grind (arith, or_left, or_right, both, number_is, member_kept rows ms w e)

-- ## what acts tell

-- whenever it was lost
lost_when : (i : Asking) (w m n : ℕ) (o : Option Order) (ws : List ℕ) → list_any (is_reply i w) (deeds_lost m o ws) ≡ list_any (is_reply i w) (deeds_lost n o ws)
lost_when i w m n None ws = refl
lost_when i w m n (Some o) [] = refl
lost_when i w m n (Some o) (x ∷ ws) = ap (λ b. is_reply i w (Spoke o x Lost m) || b) (lost_when i w m n (Some o) ws)

-- ## stages

abbrev stage_for : Asking → Stage
stage_for ToIdentify = Gathered
stage_for ForConsent = Prepared
stage_for AtCompletion = Finished

not_opened : (i : Asking) → Opened ≡ stage_for i → ⊥
not_opened i e = grind arith

not_started : (i : Asking) → Started ≡ stage_for i → ⊥
not_started i e = grind arith

not_done : (i : Asking) → Done ≡ stage_for i → ⊥
not_done i e = grind arith

gather_not : (i : Asking) → asks op.Gather i ≡ false → (Gather ≡ kind_for i → ⊥) × (Gathered ≡ stage_for i → ⊥)
gather_not i e = grind arith

prepare_not : (i : Asking) → asks op.Prepare i ≡ false → (Prepare ≡ kind_for i → ⊥) × (Prepared ≡ stage_for i → ⊥)
prepare_not i e = grind arith

complete_is : (i : Asking) → asks op.Complete i ≡ true → i ≡ AtCompletion
complete_is i e = grind arith

complete_not : (i : Asking) → asks op.Complete i ≡ false → (Complete ≡ kind_for i → ⊥) × (Finished ≡ stage_for i → ⊥)
complete_not i e = grind arith

opened_now : (q : Session) → (is_stage q.stage Opened && has_writers q.context) ≡ true → q.stage ≡ Opened
opened_now q e = is_opened q.stage (and_parts (is_stage q.stage Opened) (has_writers q.context) e).0

started_now : (q : Session) → (is_stage q.stage Started && has_writers q.context) ≡ true → (q.stage ≡ Started) × (has_writers q.context ≡ true)
started_now q e = let parts = and_parts (is_stage q.stage Started) (has_writers q.context) e in (is_started q.stage parts.0, parts.1)

done_now : (q : Session) → (is_stage q.stage Done && has_writers q.context) ≡ true → q.stage ≡ Done
done_now q e = is_done_stage q.stage (and_parts (is_stage q.stage Done) (has_writers q.context) e).0

failed_stage : {X : Type 0} (i : Asking) (why : VssResult) (o : Option Session) (q : Session) → option_map (set_failed why) o ≡ Some q → q.stage ≡ stage_for i → X
failed_stage i why o q e f = grind arith

-- ## every act

pub record Stands (i : Asking) (w : ℕ) (x : State) (c : Bool) : Type 0 where
  pub running : Running (Waits i w c) x.course.agenda
  pub done : (q : Session) → x.session ≡ Some q → q.stage ≡ stage_for i → c ≡ false

module _ (s : Plan) (so_far : List Act) (i : Asking) (w : ℕ) where
  abbrev st : State
  st = state s so_far

  module _ (c : Bool) (h : Stands i w st c) where
    abbrev Next : Event → Mark → Replied → Type 0
    Next event mark x = Stands i w x.1 (owes_after i w s so_far event x.0 x.1.clock c)

    tells_none : (lane : ℕ) (o : Op) (mark : Mark) (told : Reply) (x : State) → line_ticks o ≡ None → (asks o i && is_pending told) ≡ false → Stands i w x c → Next (Line lane o) mark (told, x)
    tells_none lane o mark told x e f k = subst (Stands i w x) (grind arith) k

    beside : (x : State) → x.course ≡ st.course → ((q : Session) → x.session ≡ Some q → q.stage ≡ stage_for i → st.session ≡ Some q) → Stands i w x c
    beside x e own = grind arith

    same : (x : State) → x.course ≡ st.course → x.session ≡ st.session → Stands i w x c
    same x e f = beside x e (λ q g k. sym f ∙ g)

    on_failed : (o : Option SetRow) (why : VssResult) (x : State) → x.course ≡ st.course → x.session ≡ st.session → Stands i w (failed_in o why x) c
    unfolding course_failed
    on_failed o why x e f = grind arith

    on_write : (v : ℕ) (b : Write) (mark : Mark) → Stands i w (write s v b mark st).1 c
    unfolding write
    on_write v b mark = grind (arith, on_failed, same)

    on_close : (q : Session) (x : State) → Stands i w (closed q x) c
    unfolding closed released
    on_close q x = record { running = tt; done = λ p f g. absurd cc }

    -- the course goes on
    quiet_none : (x : State) → runs x ≡ false → x.course.agenda ≡ None
    quiet_none x e = none_runs x.course.agenda e

    module _ (x : State) (d : Bool) (k : Course) (news : List Deed) (is : x.course ≡ k) (grows : Grows st.course.agenda st.course.outcome k.agenda k.outcome news) (turn : Turn st x (runs st))
        (calm : IsCalm x)
        (keeps : d ≡ true → c ≡ true) (untold : d ≡ true → list_any (is_reply i w) news ≡ false) where
      abbrev goes_on : Running (Waits i w d) k.agenda × Ends i w c d keeps st.course.agenda k.agenda k.outcome
      goes_on = grows_waits i w c d keeps st.course.agenda st.course.outcome k.agenda k.outcome news grows untold h.running

      over_by : (q : Session) (a : Option Agenda) (p : Option Session) → st.course.agenda ≡ a → st.session ≡ p → is_some a ≡ true → option_map agenda_ended p ≡ Some q
          → q.stage ≡ stage_for i → IsAgendaOf a p → Ends i w c d keeps a k.agenda k.outcome → x.session ≡ Some q → runs x ≡ false → d ≡ false
      over_by q a p e f ran ended stage waits ends own quiet = grind arith

      done_by : (q : Session) → x.session ≡ Some q → q.stage ≡ stage_for i → Turn st x (runs st) → d ≡ false
      done_by q f g (inl t) = failed_stage i t.why st.session q (sym t.session ∙ f) g
      done_by q f g (inr (inl t)) = over_by q st.course.agenda st.session refl refl t.ran_is (sym t.session ∙ f) g (orderly s so_far).agenda goes_on.1 f t.quiet
      done_by q f g (inr (inr t)) = false_from_ne_true d (λ e. both c (keeps e) (h.done q (sym t.session ∙ f) g))

      goes : Stands i w x d
      goes = record { running = subst (λ (y : Course). Running (Waits i w d) y.agenda) (sym is) goes_on.0; done = λ q f g. done_by q f g turn }

    -- time
    on_ticks : (n m : ℕ) → Stands i w (ticked n st) (c && not (list_any (is_reply i w) (lost_told m (spent_of (st.clock + n) (limits_now st.course)) (left st.course.agenda))))
    unfolding ticked
    on_ticks n m =
        let now = st.clock + n in
        let l = spent_of now (limits_now st.course) in
        let os = left st.course.agenda in
        let d = c && not (list_any (is_reply i w) (lost_told m l os)) in
        goes (ticked n st) d (course_timed now st.course) (lost_told now l os) (course_followed (runs st) (course_timed now st.course) (later n st))
        (grows_timed now st.course) (tick_turn s so_far n) (calm_kept.ticks n st (calm_always s so_far)).1 (λ e. (and_parts c _ e).0)
        (λ e. lost_when i w now m (lost_order_if (lost_at l (order_now os) (waits_now os)) (order_now os)) (lost_at l (order_now os) (waits_now os))
        ∙ unless (list_any (is_reply i w) (lost_told m l os)) (and_parts c _ e).1)

    on_answers : (o : Option Order) (u : ℕ) (answer : Answer) (mark : Mark) → order_of_writer st u ≡ o → is_some o ≡ true
        → Next (AnswerEvent u answer) mark (answer_reply o answer, answered u (said_of answer) st)
    unfolding answered
    on_answers None u answer mark e f = absurd cc
    on_answers (Some o) u answer mark e f =
        let k = course_answered u (said_of answer) st.clock st.course in
        goes (answered u (said_of answer) st) _ k (Spoke o u (said_of answer) st.clock ∷ []) (course_followed (runs st) k st)
        (grows_answered u o (said_of answer) st.clock st.course e) (answer_turn s so_far u (said_of answer)) (calm_kept.answers u (said_of answer) st (ap is_some e) (calm_always s so_far)).1
        (λ e. (and_parts c _ e).0) (λ e. unless _ (and_parts c _ e).1)

    on_steps : (mark : Mark) (told : Reply) → is_working (left_now st) ≡ true → Next Provider mark (told, stepped mark st)
    unfolding stepped
    on_steps mark told e =
        let b = is_failed_step (is_flush (open_group (left_now st))) mark in
        let k = course_stepped (not b) st.clock st.course in
        goes (stepped mark st) _ k (made_now (left st.course.agenda) st.clock (open_group (left st.course.agenda))) (grind (arith, course_followed))
        (grows_stepped (not b) st.clock st.course e) (step_turn s so_far mark e) (calm_kept.steps mark st e (calm_always s so_far)).1
        (λ e. (and_parts c _ e).0) (λ e. grind arith)

    -- an agenda of another kind begins
    begins_other : (lane : ℕ) (o : Op) (mark : Mark) (k : Kind) (ms : List Member) (vs : List ℕ) (y : Course) → line_ticks o ≡ None → asks o i ≡ false → (k ≡ kind_for i → ⊥)
        → Turn st (followed true (begun k ms vs st.clock y) st) true → ((q : Session) → st.session ≡ Some q → stage_after q.context q.stage ≡ stage_for i → ⊥)
        → Next (Line lane o) mark (Coded AsyncPending, followed true (begun k ms vs st.clock y) st)
    begins_other lane o mark k ms vs y e f other turn never =
        tells_none lane o mark (Coded AsyncPending) x e (ap (λ b. b && true) f) (record {
          running = subst (λ (z : Course). Running (Waits i w c) z.agenda) (sym (course_followed true (begun k ms vs st.clock y) st)) (begun_other i w c k ms vs st.clock y other);
          done = λ q g stage. done_by q g stage turn;
        }) where
          x : State
          x = followed true (begun k ms vs st.clock y) st

          done_by : (q : Session) → x.session ≡ Some q → q.stage ≡ stage_for i → Turn st x true → c ≡ false
          done_by q g stage e = grind (arith, failed_stage, some_same)

    -- the agenda that asks begins
    begins_own : (lane : ℕ) (o : Op) (mark : Mark) (ms : List Member) (y : Course) → asks o i ≡ true → (is_asked_of w i s so_far ≡ true → is_member ms w ≡ true)
        → ((q : Session) → st.session ≡ Some q → q.stage ≡ stage_for i → ⊥) → Turn st (followed true (begun (kind_for i) ms [] st.clock y) st) true
        → Next (Line lane o) mark (Coded AsyncPending, followed true (begun (kind_for i) ms [] st.clock y) st)
    begins_own lane o mark ms y f member never turn = record {
      running = subst (λ (z : Course). Running (Waits i w d) z.agenda) (sym is) own.0;
      done = λ q g stage. done_by q g stage turn;
    } where
      x : State
      x = followed true (begun (kind_for i) ms [] st.clock y) st

      d : Bool
      d = owes_after i w s so_far (Line lane o) (Coded AsyncPending) x.clock c

      is : x.course ≡ begun (kind_for i) ms [] st.clock y
      is = course_followed true (begun (kind_for i) ms [] st.clock y) st

      asked_now : (b l : Bool) → b ≡ true → ((if b && true then is_asked_of w i s so_far else c) && l) ≡ true → is_asked_of w i s so_far ≡ true
      asked_now true l e g = (and_parts (is_asked_of w i s so_far) l g).0
      asked_now false l e g = absurd cc

      own : Running (Waits i w d) (begun (kind_for i) ms [] st.clock y).agenda × ((begun (kind_for i) ms [] st.clock y).agenda ≡ None → d ≡ false)
      own = begun_own i w d ms st.clock y (λ e. member (asked_now (asks o i) _ f e))

      done_by : (q : Session) → x.session ≡ Some q → q.stage ≡ stage_for i → Turn st x true → d ≡ false
      done_by q g stage (inl t) = failed_stage i t.why st.session q (sym t.session ∙ g) stage
      done_by q g stage (inr (inl t)) = own.1 (ap (λ (z : Course). z.agenda) (sym is) ∙ quiet_none x t.quiet)
      done_by q g stage (inr (inr t)) = absurd (never q (sym t.session ∙ g) stage)

    -- the session's stage
    at_stage : (q : Session) (t : Stage) → st.session ≡ Some q → q.stage ≡ t → (t ≡ stage_for i → ⊥) → (p : Session) → st.session ≡ Some p → p.stage ≡ stage_for i → ⊥
    at_stage q t e f never p g k = never (sym f ∙ ap (λ (z : Session). z.stage) (some_same q p (sym e ∙ g)) ∙ k)

    to_stage : (q : Session) (t : Stage) → st.session ≡ Some q → stage_after q.context q.stage ≡ t → (t ≡ stage_for i → ⊥) → (p : Session) → st.session ≡ Some p
        → stage_after p.context p.stage ≡ stage_for i → ⊥
    to_stage q t e f never p g k = never (sym f ∙ ap (λ (z : Session). stage_after z.context z.stage) (some_same q p (sym e ∙ g)) ∙ k)

    in_stage : {X : Type 0} (p q : Session) (t : Stage) → Some p ≡ Some q → p.stage ≡ t → (t ≡ stage_for i → ⊥) → q.stage ≡ stage_for i → X
    in_stage p q t e f never g = absurd (never (sym f ∙ ap (λ (z : Session). z.stage) (some_same p q e) ∙ g))

    -- ## the lines that ask

    follows : Follows s w st (choosing s w so_far)
    follows = follows_all s w so_far

    on_gathers : (lane : ℕ) (q : Session) (mark : Mark) → LetsGo call.Gather q st → (b : Bool) → asks op.Gather i ≡ b → Next (Line lane op.Gather) mark (gather s st)
    on_gathers lane q mark g true e =
        subst (λ k. Next (Line lane op.Gather) mark (Coded AsyncPending, followed true (begun k ms [] st.clock y) st)) (ap kind_for same)
        (begins_own lane op.Gather mark ms y e member (at_stage q Opened g.stands (opened_now q g.allowed) (not_opened i)) (begun_turn s so_far _ (calm_begun (kind_for i) ms [] st.clock y)))
      where
        same : i ≡ ToIdentify
        same = grind arith

        ms : List Member
        ms = members_from (λ u. not (is_disabled s st u)) 0 st.course.rows

        y : Course
        y = record st.course { rows = map row_gathered st.course.rows }

        zero_plus : (n : ℕ) → 0 + n ≡ n
        zero_plus n = omega arith

        member : is_asked_of w i s so_far ≡ true → is_member ms w ≡ true
        member a =
            members_from_are (λ u. not (is_disabled s st u)) 0 st.course.rows w (omega arith)
            ∙ ap (λ n. nat_lt w n && not (is_disabled s st w)) (zero_plus (length st.course.rows) ∙ follows.rows)
            ∙ ap (λ b. is_writer s w && not b) (standing s w st (choosing s w so_far) follows q g.stands).disabled
            ∙ subst (λ k. is_asked_of w k s so_far ≡ true) same a
    on_gathers lane q mark g false e =
        begins_other lane op.Gather mark Gather _ [] (record st.course { rows = map row_gathered st.course.rows }) refl e (gather_not i e).0 (begun_turn s so_far _ (calm_begun Gather _ [] st.clock _))
        (to_stage q Gathered g.stands (ap (stage_after q.context) (opened_now q g.allowed)) (gather_not i e).1)

    on_prepares : (lane : ℕ) (q : Session) (mark : Mark) → LetsGo call.Prepare q st → (b : Bool) → asks op.Prepare i ≡ b
        → Next (Line lane op.Prepare) mark (pending (course_prepared (takers (length s.writers) (selected s q st)) st.clock st.course) st)
    on_prepares lane q mark g true e =
        subst (λ k. Next (Line lane op.Prepare) mark (Coded AsyncPending, followed true (begun k ms [] st.clock y) st)) (ap kind_for same)
        (begins_own lane op.Prepare mark ms y e (λ a. asked_are s w st (choosing s w so_far) follows q g.stands ∙ subst (λ k. is_asked_of w k s so_far ≡ true) same a)
        (at_stage q Started g.stands (started_now q g.allowed).0 (not_started i)) (begun_turn s so_far _ (calm_begun (kind_for i) ms [] st.clock y))) where
          same : i ≡ ForConsent
          same = grind arith

          ms : List Member
          ms = asked_by s w st (choosing s w so_far) follows q

          y : Course
          y = record st.course { members = ms }
    on_prepares lane q mark g false e =
        begins_other lane op.Prepare mark Prepare _ [] _ refl e (prepare_not i e).0 (begun_turn s so_far _ (calm_begun Prepare _ [] st.clock _))
        (to_stage q Prepared g.stands (grind (arith, started_now q g.allowed)) (prepare_not i e).1)

    on_completes : (lane : ℕ) (q : Session) (mark : Mark) → LetsGo call.Complete q st → (b : Bool) → asks op.Complete i ≡ b → Next (Line lane op.Complete) mark (complete st)
    on_completes lane q mark g true e =
        subst (λ k. Next (Line lane op.Complete) mark (Coded AsyncPending, followed true (begun k ms [] st.clock st.course) st)) (ap kind_for same)
        (begins_own lane op.Complete mark ms st.course e member (at_stage q Done g.stands (done_now q g.allowed) (not_done i))
        (begun_turn s so_far _ (calm_begun (kind_for i) ms [] st.clock st.course))) where
          same : i ≡ AtCompletion
          same = complete_is i e

          ms : List Member
          ms = filter (λ (m : Member). not (has_row_failed st.course.rows m.writer)) st.course.members

          member : is_asked_of w i s so_far ≡ true → is_member ms w ≡ true
          member a =
              let parts = and_parts (is_member st.course.members w) _ (subst (λ k. is_asked_of w k s so_far ≡ true) same a) in
              member_kept st.course.rows st.course.members w parts.1 parts.0
    on_completes lane q mark g false e =
        begins_other lane op.Complete mark Complete _ [] st.course refl e (complete_not i e).0 (begun_turn s so_far _ (calm_begun Complete _ [] st.clock st.course))
        (to_stage q Finished g.stands (ap (stage_after q.context) (done_now q g.allowed)) (complete_not i e).1)

    every_act : Covers Next s st
    every_act = record {
      stays = λ lane o mark told e f. tells_none lane o mark told st e (grind (arith, f.agenda)) h;
      writes = λ lane o v b mark e f. tells_none lane o mark (write s v b mark st).0 (write s v b mark st).1 (write_ticks o _ e) (grind arith) (on_write v b mark);
      reverts = λ lane n v k mark e f. tells_none lane (op.Revert n v) mark (reverted_as s v k mark st).0 (reverted_as s v k mark st).1 refl refl (grind arith);
      deletes_set = λ lane n k mark e. tells_none lane (op.DeleteSet n) mark (Deleted k) _ refl refl (same _ refl refl);
      deletes_image = λ lane n v k mark e. tells_none lane (op.DeleteImage n v) mark (Deleted 1) _ refl refl (same _ refl refl);
      ticks = λ lane n mark. on_ticks n (ticked n st).clock;
      begins = λ lane n all k mark e ctx. tells_none lane (op.Begin n all) mark Fine _ refl refl
          (beside (record st { session = Some (opened lane k all); explicit = [] }) refl (λ q f g. in_stage (opened lane k all) q Opened f refl (not_opened i) g));
      disables = λ lane u q mark g. tells_none lane (op.Disable u) mark Fine (disable u st).1 refl refl (record { running = h.running; done = h.done });
      gathers = λ lane q mark g. on_gathers lane q mark g (asks op.Gather i) refl;
      names = λ lane u full q explicit mark g named. tells_none lane (op.Component u full) mark Fine _ refl refl (same _ refl refl);
      starts = λ lane q mark g e. tells_none lane op.Start mark (start_set q st).0 (start_set q st).1 refl refl
          (beside (start_set q st).1 refl (λ p f k. in_stage (session_started (new_number st) q) p Started f refl (not_started i) k));
      adds = λ lane v r q mark g e f. tells_none lane (op.Add v) mark Fine _ refl refl (same _ refl refl);
      prepares = λ lane q mark g f. on_prepares lane q mark g (asks op.Prepare i) refl;
      snapshots = λ lane q mark g f. begins_other lane op.Snapshot mark Snapshot st.course.members _ st.course refl refl (λ e. grind arith)
          (begun_turn s so_far _ (calm_begun Snapshot st.course.members _ st.clock st.course)) (to_stage q Done g.stands (snapshots q.context q.stage g.allowed) (not_done i));
      completes = λ lane q mark g. on_completes lane q mark g (asks op.Complete i) refl;
      aborts = λ lane q mark e. tells_none lane op.Abort mark Fine (failed AsyncCancelled st) refl refl (on_failed (in_progress st) AsyncCancelled st refl refl);
      ends = λ lane q mark e. tells_none lane op.End mark Fine (closed q (failed AsyncCancelled st)) refl refl (on_close q (failed AsyncCancelled st));
      answers = λ u answer mark e. on_answers (order_of_writer st u) u answer mark refl e;
      steps = λ mark e. on_steps mark _ e;
      idles = λ mark e. on_ticks (idle_now st) (ticked (idle_now st) st).clock;
    }

    stands_if : (b : Bool) (act : Act) → enabled s st act.event ≡ b → Stands i w (after s st act) (owes_if b i w s so_far act c)
    stands_if b act e = grind (arith, told_covered, every_act, after_not_enabled)

-- ## every list of acts

module _ (s : Plan) (i : Asking) (w : ℕ) where
  stands_from : (so_far : List Act) (c : Bool) (acts : List Act) → Stands i w (state s so_far) c → Stands i w (state s (so_far ++ acts)) (owes_from i w s so_far c acts)
  stands_from so_far c [] h = subst (λ xs. Stands i w (state s xs) c) (sym (append_nothing so_far)) h
  stands_from so_far c (act ∷ acts) h =
      let d = owes_if (enabled s (state s so_far) act.event) i w s so_far act c in
      subst (λ xs. Stands i w (state s xs) (owes_from i w s (so_far ++ act ∷ []) d acts)) (append_assoc so_far (act ∷ []) acts)
      (stands_from (so_far ++ act ∷ []) d acts (subst (λ (x : State). Stands i w x d) (sym (state-append s so_far act)) (stands_if s so_far i w c h (enabled s (state s so_far) act.event) act refl)))

  stands_always : (acts : List Act) → Stands i w (state s acts) (owes i w s acts)
  stands_always acts = stands_from [] false acts (record { running = tt; done = λ q e f. refl })

pub nobody_owes : (s : Plan) (so_far : List Act) → NobodyOwes s so_far
nobody_owes s so_far asking w q e quiet step =
    let at : StandsAt q false (progress s so_far) = subst (λ b. StandsAt q b (progress s so_far)) quiet (stands_all s so_far q e) in
    (stands_always s asking w so_far).done q e (at.stage ∙ stage_is asking (progress s so_far).step step) where
      stage_is : (i : Asking) (t : Step) → is_step t (step_for i) ≡ true → stage_of t ≡ stage_for i
      stage_is i t e = grind arith
