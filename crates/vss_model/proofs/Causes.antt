-- Where an act gives no cause, no set fails in it.
use Rattle.std.proofs.Common.{◌≡◌, ℕ, List, [], ◌∷◌, ◌++◌, Option, Some, None, refl, Bool, true, false, sym, subst, arith, min, fold, filter, ◌∙◌}
use Rattle.std.specs.Prelude.{◌&&◌, not, ◌||◌, if◌then◌else◌, slice_get}
use Rattle.vss_model.proofs.Terms.{nat_tests, common_steps, Order, SetOutcome, VssResult, Said, is_ok, Mark, Write, Group, Limit, Kind, Member, left}
use Rattle.vss_model.proofs.Terms.{open_order, open_group, order_now, spent_of, Course, posted, settled, outcome_after, begun, is_decisive, told}
use Rattle.vss_model.proofs.Terms.{answered as course_answered, worked, stepped as course_stepped, limits_now, lost, fails_set, lost_decided, treated_as}
use Rattle.vss_model.proofs.Terms.{treated, SessionCall, Verdict, Session, check, Op, WriteFill, WriteStamp, Read, ImageDigest, ImageBlock, Query}
use Rattle.vss_model.proofs.Terms.{Properties, Revert, DeleteSet, DeleteImage, Tick, Abort, End, Plan, State, SetRow, Kept, in_progress, row_of, left_now}
use Rattle.vss_model.proofs.Terms.{kept_image, runs, set_loses_image, is_flush, is_failed_step, Act, after, state, NumberedFrom, IsOfSession, has_failed}
use Rattle.vss_model.proofs.Terms.{is_live, is_late_in, is_late, is_flush_step, owns, line_gives_cause, gives_cause, list_any, and_from, or_right, WriterRow}
use Rattle.vss_model.proofs.Terms.{hold_limit, default_freeze, is_spent, Agenda, Entry, Open, order_of, last_time, opened_at, freeze_opened_at, is_hold}
use Rattle.vss_model.proofs.Terms.{first_time, first_hold, hold_runs, freeze_runs, runs_if, hold_running, running_at, limit_of, freeze_limit}
use Rattle.vss_model.proofs.Terms.{has_passed, last_of, holds_volumes, is_hold_step, held_too_long, freezes_writers, prepares_snapshot, frozen_too_long}
use Rattle.vss_model.proofs.Terms.{is_elsewhere, unanswered_too_long, is_late_at, IsSpentHere, spent_here, RunningLimit, RunningLimit as Running}
use Rattle.set_agenda.specs.declared.limit.Limit.TheVariants.{Answer as AnswerLimit, Hold as HoldLimit, Freeze as FreezeLimit}
use Rattle.vss_model.proofs.StateForm.{followed, cleared, write, image_block, image_blocks, properties, delete_set, delete_image, revert}
use Rattle.vss_model.proofs.StateForm.{await_last, line_in, judged, step_made, answered, stepped, ticked, called, line}
use Rattle.vss_model.specs.Causes.{is_fault}
use Rattle.vss_model.proofs.Appending.{state-append}
use Rattle.vss_model.proofs.Headline.{failed_not_live}
use Rattle.vss_model.proofs.Orderly.{live-map, live-settled, live_append, live_found, true_not_false}
use Rattle.vss_model.proofs.OrderlyActs.{orderly, same_changed}
use Rattle.vss_model.proofs.ByEvent.{by_if, some_same}
use Rattle.vss_model.proofs.Changes.{after_is}
use Rattle.requestor.specs.declared.session_call.SessionCall.TheVariants as call

-- ## a call that lets time go by fails the set only where something takes too long, in the words of the causes

-- ## tables

pub same_hold : (g : Group) → hold_runs g ≡ holds_volumes g
same_hold g = grind arith

pub same_hold_step : (g : Group) → is_hold g ≡ is_hold_step g
same_hold_step g = grind arith

pub same_freeze : (g : Group) → freeze_runs g ≡ freezes_writers g
same_freeze g = grind arith

-- ## since when

last_time_is : (test : Entry → Bool) (t : ℕ) (log : List Entry) → last_time t (filter test log) ≡ fold (λ t (e : Entry). if test e then e.time else t) t log
last_time_is test t [] = refl
last_time_is test t (e ∷ log) = let ih = last_time_is test e.time log in let ih1 = last_time_is test t log in grind (arith, common_steps)

pub freeze_since : (a : Agenda) → freeze_opened_at a ≡ last_of (λ e. prepares_snapshot e.place.group) a
freeze_since a = grind (arith, common_steps, last_time_is)

pub answer_since : (a : Agenda) (o : Open) → opened_at a o ≡ last_of (is_elsewhere o.place) a
answer_since a o = grind (arith, common_steps, last_time_is)

-- ## which limit is spent

-- a limit that runs and is spent
record IsSpentOne (b : Bool) (x : Limit) (since ticks now : ℕ) (l : Running) : Type 0 where
  runs : b ≡ true
  limit : l.limit ≡ x
  spent : is_spent now since ticks ≡ true

spent_one : (b : Bool) (limit : Limit) (since ticks now : ℕ) (l : Running) → spent_of now (runs_if b limit since ticks) ≡ Some l → IsSpentOne b limit since ticks now l
spent_one b limit since ticks now l e = grind arith

-- ## held

first_passed : (now since : ℕ) (log : List Entry) → first_time (filter (λ e. is_hold e.place.group) log) ≡ Some since → has_passed hold_limit since now ≡ true → list_any (λ (e : Entry). is_hold_step e.place.group && has_passed hold_limit e.time now) log ≡ true
first_passed now since [] e f = absurd cc
first_passed now since (x ∷ log) e f = by_test (is_hold x.place.group) refl e (first_passed now since log) where
  both_left : (a b c : Bool) → a ≡ true → b ≡ true → ((a && b) || c) ≡ true
  both_left true true c e f = refl
  both_left true false c e f = absurd cc
  both_left false b c e f = absurd cc

  by_test : (b : Bool) → is_hold x.place.group ≡ b → first_time (if b then x ∷ filter (λ e. is_hold e.place.group) log else filter (λ e. is_hold e.place.group) log) ≡ Some since
      → (first_time (filter (λ e. is_hold e.place.group) log) ≡ Some since → has_passed hold_limit since now ≡ true → list_any (λ (e : Entry). is_hold_step e.place.group && has_passed hold_limit e.time now) log ≡ true)
      → ((is_hold_step x.place.group && has_passed hold_limit x.time now) || list_any (λ (e : Entry). is_hold_step e.place.group && has_passed hold_limit e.time now) log) ≡ true
  by_test true g e ih = both_left (is_hold_step x.place.group) (has_passed hold_limit x.time now) _ (sym (same_hold_step x.place.group) ∙ g) (subst (λ t. has_passed hold_limit t now ≡ true) (sym (some_same x.time since e)) f)
  by_test false g e ih = or_right (is_hold_step x.place.group && has_passed hold_limit x.time now) _ (ih e f)

pub hold_late : (now : ℕ) (g : Group) (a : Agenda) (o : Option ℕ) (l : Running) → first_hold a.log ≡ o → spent_of now (hold_running g o) ≡ Some l → held_too_long now g a ≡ true
hold_late now g a None l e f = absurd cc
hold_late now g a (Some since) l e f =
    let one = spent_one (hold_runs g) HoldLimit since hold_limit now l f in
    and_from (holds_volumes g) _ (sym (same_hold g) ∙ one.runs) (first_passed now since a.log e (grind (arith, one.spent)))

-- ## frozen

least_passed : (now since least : ℕ) (rows : List WriterRow) (ms : List Member) → is_spent now since (fold (λ l (m : Member). min l (limit_of (slice_get rows m.writer))) least ms) ≡ true
    → (has_passed least since now || list_any (λ (m : Member). has_passed (limit_of (slice_get rows m.writer)) since now) ms) ≡ true
least_passed now since least rows [] e = grind (arith, common_steps)
least_passed now since least rows (m ∷ ms) e =
    let ih = least_passed now since (min least (limit_of (slice_get rows m.writer))) rows ms e in grind (arith, common_steps)

pub freeze_late : (now : ℕ) (g : Group) (c : Course) (a : Agenda) (l : Running) → spent_of now (runs_if (freeze_runs g) FreezeLimit (freeze_opened_at a) (freeze_limit c)) ≡ Some l → frozen_too_long now g c a ≡ true
freeze_late now g c a l e =
    let one = spent_one (freeze_runs g) FreezeLimit (freeze_opened_at a) (freeze_limit c) now l e in
    and_from (freezes_writers g) _ (sym (same_freeze g) ∙ one.runs)
    (least_passed now (last_of (λ x. prepares_snapshot x.place.group) a) default_freeze c.rows c.members (subst (λ t. is_spent now t (freeze_limit c) ≡ true) (freeze_since a) one.spent))

-- ## unanswered

-- ## the spent limit

or_first : (a b c : Bool) → a ≡ true → (a || b || c) ≡ true
or_first a b c e = grind arith

or_second : (a b c : Bool) → b ≡ true → (a || b || c) ≡ true
or_second a b c e = grind arith

or_third : (a b c : Bool) → c ≡ true → (a || b || c) ≡ true
or_third a b c e = grind arith

-- a spent limit that is not the answers', or whose loss fails the set
abbrev pub Decides : Limit → Option Order → Type 0
Decides AnswerLimit o = fails_set o ≡ true
Decides _ o = Unit {0}

late_open : (now : ℕ) (c : Course) (a : Agenda) (o : Open) (os : List Open) (l : Running) → spent_of now (running_at (freeze_limit c) a (o ∷ os)) ≡ Some l → Decides l.limit (order_of o.place.group)
    → is_late_at now c a (o ∷ os) ≡ true
late_open now c a o os l e d = by_limit l.limit d (spent_here now (freeze_limit c) a o os l e) where
  by_limit : (x : Limit) → Decides x (order_of o.place.group) → IsSpentHere now (freeze_limit c) a o l x → is_late_at now c a (o ∷ os) ≡ true
  by_limit HoldLimit d h =
      or_first (held_too_long now o.place.group a) (frozen_too_long now o.place.group c a) (unanswered_too_long now o.place a) (hold_late now o.place.group a (first_hold a.log) l refl h)
  by_limit FreezeLimit d h = or_second (held_too_long now o.place.group a) (frozen_too_long now o.place.group c a) (unanswered_too_long now o.place a) (freeze_late now o.place.group c a l h.1)
  by_limit AnswerLimit d h = or_third (held_too_long now o.place.group a) (frozen_too_long now o.place.group c a) (unanswered_too_long now o.place a)
      (grind (arith, common_steps, spent_one, and_from, answer_since, h.2))

late_left : (now : ℕ) (c : Course) (a : Agenda) (os : List Open) (l : Running) → spent_of now (running_at (freeze_limit c) a os) ≡ Some l → Decides l.limit (order_now os) → is_late_at now c a os ≡ true
late_left now c a [] l e d = absurd cc
late_left now c a (o ∷ os) l e d = late_open now c a o os l e d

-- ## courses

abbrev pub Fails : Course → Bool
Fails c = has_failed c.outcome

none_posted : (before c : Course) → Fails c ≡ false → Fails (posted before c) ≡ false
unfolding posted
none_posted before c h = h

pub none_outcome : (k : Kind) (o : SetOutcome) → has_failed o ≡ false → has_failed (outcome_after k o) ≡ false
none_outcome k o h = grind arith

pub none_settled : (c : Course) → Fails c ≡ false → Fails (settled c) ≡ false
unfolding settled
none_settled c h = grind (arith, common_steps, nat_tests)

none_told : (o : Order) (said : Said) (now : ℕ) (ws : List ℕ) (c : Course) → Fails c ≡ false → Fails (told o said now ws c) ≡ false
unfolding told
none_told o said now ws c h = h

none_worked : (now : ℕ) (c : Course) → Fails c ≡ false → Fails (worked now c) ≡ false
unfolding worked
none_worked now c h = h

abbrev is_decisive_order : Option Order → Bool
is_decisive_order None = false
is_decisive_order (Some o) = is_decisive o

none_answered : (w : ℕ) (said : Said) (now : ℕ) (c : Course) → (is_decisive_order (open_order (left c.agenda) w) && not (is_ok said)) ≡ false → Fails c ≡ false → Fails (course_answered w said now c) ≡ false
none_answered w said now c e h = grind (arith, common_steps, nat_tests, none_posted, none_told, none_settled)

none_stepped : (now : ℕ) (c : Course) → Fails c ≡ false → Fails (course_stepped true now c) ≡ false
none_stepped now c h = none_posted c _ (none_settled (worked now c) (none_worked now c h))

-- where nothing takes too long, a spent limit loses answers alone
none_lost : (b : Bool) (now : ℕ) (c : Course) (l : RunningLimit) → fails_set (order_now (left c.agenda)) ≡ b → spent_of now (limits_now c) ≡ Some l → l.limit ≡ AnswerLimit → is_late_in now c c.agenda ≡ false → Fails c ≡ false → Fails (lost_decided b (lost now c)) ≡ false
none_lost true now c l d e f g h = absurd
    (true_not_false (is_late_in now c c.agenda) (grind (arith, late_left, subst (λ x. Decides x (order_now (left c.agenda))) (sym f) d)) g)
none_lost false now c l d e f g h = none_settled (lost now c) (grind (arith, none_told))

none_treated_as : (x : Limit) (now : ℕ) (c : Course) (l : RunningLimit) → l.limit ≡ x → spent_of now (limits_now c) ≡ Some l → is_late_in now c c.agenda ≡ false → Fails c ≡ false → Fails (treated_as x now c) ≡ false
none_treated_as AnswerLimit now c l f e g h = none_lost (fails_set (order_now (left c.agenda))) now c l refl e f g h
none_treated_as _ now c l f e g h = absurd
    (true_not_false (is_late_in now c c.agenda) (grind (arith, late_left, subst (λ x. Decides x (order_now (left c.agenda))) (sym f) tt)) g)

none_treated : (o : Option RunningLimit) (now : ℕ) (c : Course) → spent_of now (limits_now c) ≡ o → is_late_in now c c.agenda ≡ false → Fails c ≡ false → Fails (treated o now c) ≡ false
none_treated None now c e g h = h
none_treated (Some l) now c e g h = none_treated_as l.limit now c l refl e g h

pub none_begun : (k : Kind) (ms : List Member) (vs : List ℕ) (now : ℕ) (c : Course) → Fails c ≡ false → Fails (begun k ms vs now c) ≡ false
unfolding begun
none_begun k ms vs now c h = grind (arith, none_posted, none_settled)

-- a failed flush, in the words of the causes
pub same_flush : (g : Option Group) (mark : Mark) → is_failed_step (is_flush g) mark ≡ (is_flush_step g && is_fault mark)
same_flush g mark = grind arith

-- ## states

-- the lines that stop the set in progress
abbrev stops : Op → Bool
stops Abort = true
stops End = true
stops _ = false

-- set n has not failed
abbrev IsLive : ℕ → State → Type 0
IsLive n st = is_live st.sets n ≡ true

module _ (n : ℕ) where
  pub live_followed : (ran : Bool) (c : Course) (st : State) → Fails c ≡ false → IsLive n st → IsLive n (followed ran c st)
  unfolding followed
  live_followed ran c st e h = grind (arith, common_steps, nat_tests, live-settled)

  live_answers : (w : ℕ) (said : Said) (st : State) → Fails (course_answered w said st.clock st.course) ≡ false → IsLive n st → IsLive n (answered w said st)
  unfolding answered
  live_answers w said st e h = live_followed (runs st) _ st e h

  live_made : (g : Option Group) (v : Option ℕ) (st : State) → IsLive n st → IsLive n (step_made g v st)
  live_made g v st h = grind (arith, common_steps, live-map, same_changed)

  live_steps : (mark : Mark) (st : State) → is_failed_step (is_flush (open_group (left_now st))) mark ≡ false → Fails st.course ≡ false → IsLive n st → IsLive n (stepped mark st)
  unfolding stepped
  live_steps mark st e f h = grind (arith, common_steps, nat_tests, live_followed, none_stepped, live_made)

  live_ticks : (k : ℕ) (st : State) → is_late st k ≡ false → Fails st.course ≡ false → IsLive n st → IsLive n (ticked k st)
  unfolding ticked
  live_ticks k st e f h = grind (arith, common_steps, nat_tests, live_followed, none_posted, none_treated)

  -- ## lines

  live_write : (s : Plan) (v : ℕ) (w : Write) (mark : Mark) (st : State) → set_loses_image (in_progress st) st.volumes (cleared s v w.block st).volumes ≡ false → IsLive n st → IsLive n (write s v w mark st).1
  unfolding write
  live_write s v w mark st e h = grind arith

  live_image_block : (v b : ℕ) (kept : Option Kept) (mark : Mark) (st : State) → IsLive n st → IsLive n (image_block v b kept mark st).1
  live_image_block v b kept mark st h = grind arith

  live_image_blocks : (s : Plan) (v : ℕ) (kept : Option Kept) (mark : Mark) (st : State) → IsLive n st → IsLive n (image_blocks s v kept mark st).1
  live_image_blocks s v kept mark st h = grind arith

  live_properties : (s : Plan) (v : ℕ) (kept : Option Kept) (st : State) → IsLive n st → IsLive n (properties s v kept st).1
  live_properties s v kept st h = grind arith

  live_delete_image : (m v : ℕ) (st : State) → IsLive n st → IsLive n (delete_image m v st).1
  unfolding delete_image
  live_delete_image m v st h = grind (arith, common_steps, nat_tests)

  live_delete_set : (m : ℕ) (st : State) → IsLive n st → IsLive n (delete_set m st).1
  unfolding delete_set
  live_delete_set m st h = by_if (λ r. IsLive n r.1) _ _ _ h h

  live_revert : (s : Plan) (m v : ℕ) (mark : Mark) (st : State) → IsLive n st → IsLive n (revert s m v mark st).1
  unfolding revert
  live_revert s m v mark st h = grind (arith, common_steps, nat_tests)

  live_await : (last : Option VssResult) (st : State) → IsLive n st → IsLive n (await_last last st).1
  live_await last st h = grind arith

  -- `abort` and `end` of a lane that does not own the session
  live_abort : (s : Plan) (lane : ℕ) (st : State) → owns st.session lane ≡ false → IsLive n st → IsLive n (called call.Abort s lane Abort st).1
  unfolding called
  live_abort s lane st e h = grind arith

  live_end : (s : Plan) (lane : ℕ) (st : State) → owns st.session lane ≡ false → IsLive n st → IsLive n (called call.End s lane End st).1
  unfolding called
  live_end s lane st e h = grind arith

  live_line_in : (s : Plan) (lane : ℕ) (op : Op) (q : Option Session) (st : State) → stops op ≡ false → Fails st.course ≡ false → IsLive n st → IsLive n (line_in s lane op q st).1
  live_line_in s lane op q st e f h =
      grind (arith, common_steps, nat_tests, live_followed, none_begun, live_append, by_if, live_await, live-map, same_changed)

  live_judged : (v : Verdict) (s : Plan) (lane : ℕ) (op : Op) (st : State) → stops op ≡ false → Fails st.course ≡ false → IsLive n st → IsLive n (judged v s lane op st).1
  live_judged v s lane op st e f h = grind (arith, live_line_in)

  live_called : (c : SessionCall) (s : Plan) (lane : ℕ) (op : Op) (st : State) → stops op ≡ false → Fails st.course ≡ false → IsLive n st → IsLive n (called c s lane op st).1
  unfolding called
  live_called c s lane op st e f h = live_judged (check st.session (runs st) lane c) s lane op st e f h

  live_line : (s : Plan) (lane : ℕ) (op : Op) (mark : Mark) (st : State) → line_gives_cause s st lane op ≡ false → Fails st.course ≡ false → IsLive n st → IsLive n (line s lane op mark st).1
  live_line s lane (WriteFill v b x) mark st e f h = live_write s v _ mark st e h
  live_line s lane (WriteStamp v b k) mark st e f h = live_write s v _ mark st e h
  live_line s lane (Read v b) mark st e f h = h
  live_line s lane (ImageDigest m v) mark st e f h = live_image_blocks s v (kept_image st m v) mark st h
  live_line s lane (ImageBlock m v b) mark st e f h = live_image_block v b (kept_image st m v) mark st h
  live_line s lane (Query v) mark st e f h = h
  live_line s lane (Properties m v) mark st e f h = live_properties s v (kept_image st m v) st h
  live_line s lane (Revert m v) mark st e f h = live_revert s m v mark st h
  live_line s lane (DeleteSet m) mark st e f h = live_delete_set m st h
  live_line s lane (DeleteImage m v) mark st e f h = live_delete_image m v st h
  live_line s lane (Tick k) mark st e f h = live_ticks k st e f h
  live_line s lane Abort mark st e f h = live_abort s lane st e h
  live_line s lane End mark st e f h = live_end s lane st e h
  live_line s lane op mark st e f h = live_called _ s lane op st refl f h

  -- ## every act

  live_after : (s : Plan) (st : State) (act : Act) → gives_cause s st act.event act.mark ≡ false → Fails st.course ≡ false → IsLive n st → IsLive n (after s st act)
  live_after s st act e f h = grind (arith, common_steps, nat_tests, after_is, live_line, live_answers, none_answered, live_steps, same_flush, live_ticks)

by_cause : (b : Bool) (s : Plan) (so_far : List Act) (act : Act) (r q : SetRow) → gives_cause s (state s so_far) act.event act.mark ≡ b → in_progress (state s so_far) ≡ Some r
    → row_of (after s (state s so_far) act) r.number ≡ Some q → has_failed q.result ≡ true → NumberedFrom 1 (after s (state s so_far) act).sets → b ≡ true
by_cause true s so_far act r q e f g h i = refl
by_cause false s so_far act r q e f g h i =
    let st = state s so_far in
    let kept = orderly s so_far in
    let running : Fails st.course ≡ false = grind (arith, subst (IsOfSession st.session st.course.outcome) f kept.session) in
    let live = live_after r.number s st act e running (live_found st.sets r f) in
    absurd (true_not_false (is_live (after s st act).sets r.number) live (failed_not_live 1 r.number (after s st act).sets q i g h))

-- a set that is in progress before an act and has failed after it has failed by a cause that the act gives
pub fails_with_cause : (s : Plan) (so_far : List Act) (act : Act) (r q : SetRow) → in_progress (state s so_far) ≡ Some r → row_of (after s (state s so_far) act) r.number ≡ Some q
    → has_failed q.result ≡ true → gives_cause s (state s so_far) act.event act.mark ≡ true
fails_with_cause s so_far act r q f g h =
    let next = orderly s (so_far ++ act ∷ []) in
    let numbered : NumberedFrom 1 (after s (state s so_far) act).sets = subst (λ (st : State). NumberedFrom 1 st.sets) (state-append s so_far act) next.numbered in
    by_cause (gives_cause s (state s so_far) act.event act.mark) s so_far act r q refl f g h numbered
