-- Before its writers are gathered a session names nothing and nobody takes part; from then on what it names are selectable
-- components of writers that it knows, and only they take part.
use Rattle.std.proofs.Common.{◌≡◌, ℕ, ◌+◌, ◌==◌, ◌<◌, suc, List, [], ◌∷◌, ◌++◌, ◌⊎◌, Option, Some, None, refl, Bool, true, false, map, filter, ap, sym}
use Rattle.std.proofs.Common.{◌∙◌, subst, fold, inl, inr, arith}
use Rattle.std.specs.Prelude.{is_some, ◌&&◌, ◌||◌, not, if◌then◌else◌, slice_get}
use Rattle.vss_model.proofs.Terms.{nat_tests, list_any, VssResult, AsyncCancelled, Said, WriterRow, row_gathered, Mark, Write, dropped, Meta, Pair, is_taker}
use Rattle.vss_model.proofs.Terms.{meta_at, names_selectable, list_all, and_parts, eqb-true, or_from, or_right, common_steps, Group, Kind, Gather, Prepare}
use Rattle.vss_model.proofs.Terms.{Snapshot, Complete, Member, Agenda, Course, change_at, posted, settled, begun, failed as course_failed, member_if}
use Rattle.vss_model.proofs.Terms.{members_from, is_member, has_row_failed, answered as course_answered, stepped as course_stepped, timed as course_timed}
use Rattle.vss_model.proofs.Terms.{released, Mode, Components, All, Stage, Opened, Gathered, Started, Session, has_writers, is_stage, Plan, WriterPlan, said_of}
use Rattle.vss_model.proofs.Terms.{State, start, Ending, ending, runs, has_failed_identify, with_volume, selected_in, is_known, known_from}
use Rattle.vss_model.proofs.Terms.{known_metas, idle_now, Act, after, state, LetsGo, Event, Change, apply, known_of}
use Rattle.vss_model.proofs.StateForm.{concluded, followed, failed, put, write, start_set, change_set, closed, answered, step_made}
use Rattle.vss_model.proofs.StateForm.{stepped_as, stepped, ticked, later}
use Rattle.vss_model.proofs.Changes.{CourseCall, Answers, Steps, Times, Gathers, Prepares, Snapshots, Completes, Disables, Fails, Releases, called, IsDue}
use Rattle.vss_model.proofs.Changes.{Stands, SessionStep, session_after, IsStepDue, Comes, by_all_changes, after_covered}
use Rattle.vss_model.proofs.OrderlyActs.{orderly}
use Rattle.vss_model.proofs.ByEvent.{Covers, Next}
use Rattle.vss_model.proofs.Spoken.{filter_passes}
use Rattle.vss_model.proofs.Rows.{none_runs}
use Rattle.vss_model.proofs.Orderly.{true_not_false}
use Rattle.vss_model.proofs.HeldOfSet.{Follows, goes_answered, goes_stepped, goes_timed}
use Rattle.vss_model.proofs.KnownWriters.{is_unfit, AsFit, AsksFitIn, is_gathering, Keeps, keeps_failed, keeps_answered, keeps_stepped, keeps_timed}
use Rattle.vss_model.proofs.KnownWriters.{members_answered, members_timed, AreOver, known_same, named_over}
use Rattle.requestor.specs.declared.session_call.SessionCall.TheVariants as call

-- ## the facts

abbrev BareAgenda : Option Agenda → Type 0
BareAgenda None = Unit {0}
BareAgenda (Some a) = (is_gathering a.kind ≡ true) ⊎ (a.members ≡ [])

record IsBare (st : State) : Type 0 where
  explicit : st.explicit ≡ []
  members : st.course.members ≡ []
  agenda : BareAgenda st.course.agenda

abbrev pub is_late : Stage → Bool
is_late Opened = false
is_late _ = true

abbrev LateIn : Option Session → Type 0
LateIn None = ⊥
LateIn (Some q) = is_late q.stage ≡ true

record IsGathered (s : Plan) (st : State) : Type 0 where
  over : AreOver (known_metas s st) st.explicit
  members : (w : ℕ) → is_member st.course.members w ≡ true → is_unfit st.course.rows w ≡ false
  agenda : AsksFitIn st.course.agenda st.course.rows
  late : LateIn st.session

-- ## what follows

pub course-concluded : (e : Ending) (st : State) → (concluded e st).course ≡ st.course
course-concluded e st = grind arith

gathered_course : (s : Plan) (x : State) (d : Course) → Keeps x.course d → AsksFitIn d.agenda d.rows → IsGathered s x → IsGathered s (record x { course = d })
gathered_course s x d k a h = record {
  over = subst (λ ms. AreOver ms x.explicit) (sym (known_same s x (record x { course = d }) k.disabled k.fit)) h.over;
  members = λ w f. k.fit w ∙ h.members w (subst (λ ms. is_member ms w ≡ true) k.members f);
  agenda = a;
  late = h.late;
}

-- ## an agenda begins

begun_members : (k : Kind) (ms : List Member) (vs : List ℕ) (now : ℕ) (c : Course) → Keeps c (begun k ms vs now c)
unfolding begun posted settled
begun_members k ms vs now c = grind arith

bare_begun_agenda : (k : Kind) (ms : List Member) (vs : List ℕ) (now : ℕ) (c : Course) → (is_gathering k ≡ true) ⊎ (ms ≡ []) → BareAgenda (begun k ms vs now c).agenda
unfolding begun posted settled
bare_begun_agenda k ms vs now c h = grind arith

fit_begun_agenda : (k : Kind) (ms : List Member) (vs : List ℕ) (now : ℕ) (c : Course) → is_gathering k ≡ false → ((w : ℕ) → is_member ms w ≡ true → is_unfit c.rows w ≡ false) → AsksFitIn (begun k ms vs now c).agenda (begun k ms vs now c).rows
unfolding begun posted settled
fit_begun_agenda k ms vs now c e h = grind arith

-- ## who takes part is known

pub known_at : (s : Plan) (st : State) (k : ℕ) (ps : List WriterPlan) (w : ℕ) → is_some (meta_at (slice_get (known_from s st k ps) w)) ≡ true → is_known s st (k + w) ≡ true
known_at s st k (p ∷ ps) (suc w) e = ap (is_known s st) (shift k w) ∙ known_at s st (k + 1) ps w e where
  shift : (a b : ℕ) → a + suc b ≡ (a + 1) + b
  shift a b = omega arith
known_at s st k ps w e = grind (arith, common_steps, nat_tests)

fit_of : (s : Plan) (st : State) (w : ℕ) → is_some (meta_at (slice_get (known_metas s st) w)) ≡ true → is_unfit st.course.rows w ≡ false
fit_of s st w e = grind (arith, common_steps, known_at)

pub named_known : (ms : List (Option Meta)) (ps : List Pair) (w : ℕ) → list_all (names_selectable ms) ps ≡ true → list_any (λ (p : Pair). p.writer == w) ps ≡ true → is_some (meta_at (slice_get ms w)) ≡ true
named_known ms [] w e f = absurd cc
named_known ms (p ∷ ps) w e f = by_head (p.writer == w) refl f (named_known ms ps w (and_parts (names_selectable ms p) (list_all (names_selectable ms) ps) e).1)
  where
    by_head : (b : Bool) → (p.writer == w) ≡ b → (b || list_any (λ (x : Pair). x.writer == w) ps) ≡ true → (list_any (λ (x : Pair). x.writer == w) ps ≡ true → is_some (meta_at (slice_get ms w)) ≡ true) → is_some (meta_at (slice_get ms w)) ≡ true
    by_head true g h ih = subst (λ x. is_some (meta_at (slice_get ms x)) ≡ true) (eqb-true p.writer w g)
        (grind (arith, (and_parts (names_selectable ms p) (list_all (names_selectable ms) ps) e).0))
    by_head false g h ih = ih h

-- the writers that are known, from number k on
none_known_below : (ms : List (Option Meta)) (k n : ℕ) → n < k → list_any (λ x. x == n) (known_of k ms) ≡ false
none_known_below [] k n l = refl
none_known_below (None ∷ ms) k n l = none_known_below ms (k + 1) n (next n k l) where
  next : (a b : ℕ) → a < b → a < b + 1
  next a b l = omega (arith, l)
none_known_below (Some m ∷ ms) k n l = or_from (k == n) (list_any (λ x. x == n) (known_of (k + 1) ms)) (differs k n l) (none_known_below ms (k + 1) n (next n k l))
  where
    next : (a b : ℕ) → a < b → a < b + 1
    next a b l = omega (arith, l)

    differs : (a b : ℕ) → b < a → (a == b) ≡ false
    differs a b l = grind arith

pub all_known : (ms : List (Option Meta)) (k n w : ℕ) → n ≡ k + w → list_any (λ x. x == n) (known_of k ms) ≡ true → is_some (meta_at (slice_get ms w)) ≡ true
all_known (None ∷ ms) k n (suc w) e f = all_known ms (k + 1) n w (shift n k w e) f where
  shift : (a b c : ℕ) → a ≡ b + suc c → a ≡ (b + 1) + c
  shift a b c e = omega (arith, e)
all_known (Some m ∷ ms) k n (suc w) e f = all_known ms (k + 1) n w (shift n k w e) (rest (k == n) (list_any (λ x. x == n) (known_of (k + 1) ms)) (differs n k w e) f)
  where
    shift : (a b c : ℕ) → a ≡ b + suc c → a ≡ (b + 1) + c
    shift a b c e = omega (arith, e)

    differs : (a b c : ℕ) → a ≡ b + suc c → (b == a) ≡ false
    differs a b c e = grind arith

    rest : (a b : Bool) → a ≡ false → (a || b) ≡ true → b ≡ true
    rest true b e f = absurd cc
    rest false b e f = f
all_known ms k n w e f = grind (arith, common_steps, nat_tests, true_not_false, none_known_below)

taker_known : (mode : Mode) (s : Plan) (st : State) (w : ℕ) → AreOver (known_metas s st) st.explicit → is_taker (selected_in mode s st) w ≡ true → is_unfit st.course.rows w ≡ false
taker_known Components s st w over e =
    fit_of s st w (named_known (known_metas s st) st.explicit w (and_parts (list_all (names_selectable (known_metas s st)) st.explicit) _ over).0 e)
taker_known All s st w over e = fit_of s st w (all_known (known_metas s st) 0 w w (plus w) e) where
  plus : (a : ℕ) → a ≡ 0 + a
  plus a = omega arith

pub member_passes : (test : ℕ → Bool) (k : ℕ) (rows : List WriterRow) (w : ℕ) → is_member (members_from test k rows) w ≡ true → test w ≡ true
member_passes test k [] w e = absurd cc
member_passes test k (r ∷ rows) w e = by_test (test k) refl e (member_passes test (k + 1) rows w) where
  by_head : (b : Bool) → (k == w) ≡ b → test k ≡ true → (b || is_member (members_from test (k + 1) rows) w) ≡ true → (is_member (members_from test (k + 1) rows) w ≡ true → test w ≡ true) → test w ≡ true
  by_head true f g h ih = subst (λ y. test y ≡ true) (eqb-true k w f) g
  by_head false f g h ih = ih h

  by_test : (b : Bool) → test k ≡ b → is_member (member_if b k r ++ members_from test (k + 1) rows) w ≡ true → (is_member (members_from test (k + 1) rows) w ≡ true → test w ≡ true) → test w ≡ true
  by_test true g h ih = by_head (k == w) refl g h ih
  by_test false g h ih = ih h

-- ## what changes neither names nor course

gathered_same : (s : Plan) (st x : State) → x.explicit ≡ st.explicit → x.course ≡ st.course → LateIn x.session → IsGathered s st → IsGathered s x
gathered_same s st x e f late h = grind arith

-- nothing is named and nobody takes part, or all that is named is known
abbrev NamesKnown : Plan → State → Type 0
NamesKnown s st = IsBare st ⊎ IsGathered s st

same : (s : Plan) (st x : State) → x.explicit ≡ st.explicit → x.course ≡ st.course → (LateIn st.session → LateIn x.session) → NamesKnown s st → NamesKnown s x
same s st x e f late x6 = grind (arith, gathered_same)

pub failed_agenda : (why : VssResult) (c : Course) → (course_failed why c).agenda ≡ None
unfolding course_failed
failed_agenda why c = refl

-- an agenda of some of the participants
pub filter_member : (test : Member → Bool) (ms : List Member) (w : ℕ) → is_member (filter test ms) w ≡ true → is_member ms w ≡ true
filter_member test [] w e = e
filter_member test (m ∷ ms) w e = by_test (test m) e (filter_member test ms w) where
  or_along : (a b c : Bool) → (b ≡ true → c ≡ true) → (a || b) ≡ true → (a || c) ≡ true
  or_along true b c f e = refl
  or_along false b c f e = f e

  by_test : (b : Bool) → is_member (if b then m ∷ filter test ms else filter test ms) w ≡ true → (is_member (filter test ms) w ≡ true → is_member ms w ≡ true) → ((m.writer == w) || is_member ms w) ≡ true
  by_test true e ih = or_along (m.writer == w) (is_member (filter test ms) w) (is_member ms w) ih e
  by_test false e ih = or_right (m.writer == w) (is_member ms w) (ih e)

late_at : (q : Option Session) (x : Session) → q ≡ Some x → LateIn q → is_late x.stage ≡ true
late_at q x e h = subst LateIn e h

opened_not_late : (x : Stage) (b : Bool) → (is_stage x Opened && b) ≡ true → is_late x ≡ true → ⊥
opened_not_late x b e h = grind arith

names_late : (x : Stage) (b : Bool) → ((is_stage x Gathered || is_stage x Started) && b) ≡ true → is_late x ≡ true
names_late x b e = grind arith

over_nothing : (ms : List (Option Meta)) (ps : List Pair) → ps ≡ [] → AreOver ms ps
over_nothing ms ps e = subst (AreOver ms) (sym e) refl

-- ## each change

module _ (s : Plan) (st : State) where
  abbrev With : State → Course → Type 0
  With x d = NamesKnown s (record x { course = d })

  goes_bare : (x : State) (d : Course) → d.members ≡ x.course.members → Follows x.course.agenda x.course.members x.course.outcome d.agenda d.members d.outcome
      → IsBare x → With x d
  goes_bare x d e f h = grind (arith, common_steps, nat_tests)

  goes_gathered : (x : State) (d : Course) → Keeps x.course d → Follows x.course.agenda x.course.members x.course.outcome d.agenda d.members d.outcome
      → IsGathered s x → With x d
  goes_gathered x d k f h = grind (arith, common_steps, nat_tests, gathered_course)

  on_prepare : (q : Session) (x : State) → LetsGo call.Prepare q st → NamesKnown s st → With st (called s st (Prepares q) st.course)
  on_prepare q x g h = inr
      (grind (
        arith,
        common_steps,
        begun_members,
        known_same,
        taker_known,
        filter_passes,
        member_passes,
        fit_begun_agenda,
        (over h),
        (subst LateIn
            (sym g.stands) (grind (arith, common_steps, g.allowed))),
      )) where
        over : NamesKnown s st → AreOver (known_metas s st) st.explicit
        over (inl k) = over_nothing (known_metas s st) st.explicit k.explicit
        over (inr k) = k.over

  on_called : (e : Event) (x : State) (call : CourseCall) → IsDue st x.course call → Stands e st x call → NamesKnown s x → With x (called s st call x.course)
  unfolding course_failed released
  on_called e x (Answers w said) i k (inl h) = goes_bare x _ (members_answered w said st.clock x.course) (goes_answered w said st.clock x.course) h
  on_called e x (Answers w said) i k (inr h) = goes_gathered x _ (keeps_answered w said st.clock x.course h.agenda) (goes_answered w said st.clock x.course) h
  on_called e x (Steps ok) i k (inl h) = goes_bare x _ (keeps_stepped ok st.clock x.course).members (goes_stepped ok st.clock x.course) h
  on_called e x (Steps ok) i k (inr h) = goes_gathered x _ (keeps_stepped ok st.clock x.course) (goes_stepped ok st.clock x.course) h
  on_called e x (Times now) i k (inl h) = goes_bare x _ (members_timed now x.course) (goes_timed now x.course) h
  on_called e x (Times now) i k (inr h) = goes_gathered x _ (keeps_timed now x.course h.agenda) (goes_timed now x.course) h
  on_called e x Gathers i k (inl h) =
      let c = record x.course { rows = map row_gathered x.course.rows } in
      inl (record {
        explicit = h.explicit;
        members = (begun_members Gather _ [] st.clock c).members ∙ h.members;
        agenda = bare_begun_agenda Gather _ [] st.clock c (inl refl);
      })
  on_called e x Gathers i k (inr h) =
      absurd (opened_not_late i.session.stage (has_writers i.session.context) i.goes.allowed
      (late_at x.session i.session (ap (λ (y : State). y.session) k ∙ i.goes.stands) h.late))
  on_called e x (Prepares q) i k h = subst (λ (y : State). With y (called s st (Prepares q) y.course)) (sym k) (on_prepare q x i.0 (subst (NamesKnown s) k h))
  on_called e x Snapshots i k (inl h) =
      inl (record {
        explicit = h.explicit;
        members = (begun_members Snapshot _ _ st.clock x.course).members ∙ h.members;
        agenda = bare_begun_agenda Snapshot _ _ st.clock x.course (inr h.members);
      })
  on_called e x Snapshots i k (inr h) = inr
      (gathered_course s x _ (begun_members Snapshot _ _ st.clock x.course) (fit_begun_agenda Snapshot x.course.members _ st.clock x.course refl h.members) h)
  on_called e x Completes i k (inl h) =
      let test = λ (m : Member). not (has_row_failed x.course.rows m.writer) in
      inl (record {
        explicit = h.explicit;
        members = (begun_members Complete _ [] st.clock x.course).members ∙ h.members;
        agenda = bare_begun_agenda Complete _ [] st.clock x.course (inr (ap (filter test) h.members));
      })
  on_called e x Completes i k (inr h) =
      let test = λ (m : Member). not (has_row_failed x.course.rows m.writer) in
      inr (gathered_course s x _ (begun_members Complete _ [] st.clock x.course)
      (fit_begun_agenda Complete _ [] st.clock x.course refl (λ w e. h.members w (filter_member test x.course.members w e))) h)
  on_called e x (Disables w) i k (inl h) = inl (record { explicit = h.explicit; members = h.members; agenda = h.agenda })
  on_called e x (Disables w) i k (inr h) =
      absurd (opened_not_late i.session.stage (has_writers i.session.context) i.goes.allowed
      (late_at x.session i.session (ap (λ (y : State). y.session) k ∙ i.goes.stands) h.late))
  on_called e x (Fails why) i k (inl h) = inl (record { explicit = h.explicit; members = h.members; agenda = tt })
  on_called e x (Fails why) i k (inr h) = inr (gathered_course s x _ (keeps_failed why x.course) tt h)
  on_called e x Releases i k h = inl (record { explicit = k.1; members = refl; agenda = tt })

  on_step : (e : Event) (x : State) (step : SessionStep) → IsStepDue e st x step → NamesKnown s x
      → NamesKnown s (record x { session = session_after st step x.session })
  on_step e x step i h = grind (arith, common_steps, nat_tests, gathered_same)

  none_named : (x : State) (pairs : List Pair) → pairs ≡ [] → NamesKnown s x → NamesKnown s (record x { explicit = pairs })
  none_named x pairs e (inl h) = inl (record { explicit = e; members = h.members; agenda = h.agenda })
  none_named x pairs e (inr h) = inr
      (record { over = over_nothing (known_metas s (record x { explicit = pairs })) pairs e; members = h.members; agenda = h.agenda; late = h.late })

  names_apply : (e : Event) (m : Mark) (c : Change) (x : State) → Comes s e m st x c → NamesKnown s x → NamesKnown s (apply x c)
  names_apply e m c x i h =
      grind (arith, common_steps, nat_tests, on_called, on_step, none_named, same, known_same, named_over, over_nothing, none_runs, names_late)

names_from : (s : Plan) (st : State) (acts : List Act) → NamesKnown s st → NamesKnown s (fold (after s) st acts)
names_from s st acts h = by_all_changes (NamesKnown s) s (λ e m old. names_apply s old e m) st acts h

-- at every list of acts
pub named_known_components : (s : Plan) (acts : List Act) → AreOver (known_metas s (state s acts)) (state s acts).explicit
named_known_components s acts = grind (arith, common_steps, nat_tests, names_from)

-- who takes part has not failed at Identify
pub participants_are_fit : (s : Plan) (acts : List Act) (w : ℕ) → is_member (state s acts).course.members w ≡ true → has_failed_identify (slice_get (state s acts).course.rows w) ≡ false
participants_are_fit s acts w e = grind (arith, common_steps, names_from)

-- ## whom a session knows, once its writers are gathered

module _ (s : Plan) (st : State) where
  -- a session that stands knows whom it knew
  abbrev KnowsStill : State → Type 0
  KnowsStill x = (p : Session) → x.session ≡ Some p → known_metas s x ≡ known_metas s st

  knows_same : (x : State) → x.course ≡ st.course → KnowsStill x
  knows_same x e p f = known_same s st x (ap (λ (c : Course). c.disabled) e) (λ w. ap (λ (c : Course). is_unfit c.rows w) e)

  knows_kept : (x : State) (d : Course) → x.course ≡ d → d.disabled ≡ st.course.disabled → AsFit st.course.rows d.rows → KnowsStill x
  knows_kept x d e f g p h = known_same s st x (ap (λ (c : Course). c.disabled) e ∙ f) (λ w. ap (λ (c : Course). is_unfit c.rows w) e ∙ g w)

  course_of : (ran : Bool) (c : Course) (x : State) → (followed ran c x).course ≡ c
  unfolding followed
  course_of ran c x = course-concluded (ending x.course.outcome c.outcome ran c.agenda) (record x { course = c })

  knows_followed : (ran : Bool) (d : Course) (x : State) → Keeps st.course d → KnowsStill (followed ran d x)
  knows_followed ran d x k = knows_kept (followed ran d x) d (course_of ran d x) k.disabled k.fit

  knows_answers : (w : ℕ) (said : Said) → AsksFitIn st.course.agenda st.course.rows → KnowsStill (answered w said st)
  unfolding answered
  knows_answers w said a = knows_followed (runs st) (course_answered w said st.clock st.course) st (keeps_answered w said st.clock st.course a)

  knows_ticks : (n : ℕ) → AsksFitIn st.course.agenda st.course.rows → KnowsStill (ticked n st)
  unfolding ticked
  knows_ticks n a = knows_followed (runs st) (course_timed (st.clock + n) st.course) (later n st) (keeps_timed (st.clock + n) st.course a)

  knows_stepped_as : (fails : Bool) (g : Option Group) (v : Option ℕ) → KnowsStill (stepped_as fails g v st)
  knows_stepped_as true g v = knows_followed (runs st) (course_stepped false st.clock st.course) st (keeps_stepped false st.clock st.course)
  knows_stepped_as false g v = knows_followed (runs st) (course_stepped true st.clock st.course) (step_made g v st) (keeps_stepped true st.clock st.course)

  knows_steps : (mark : Mark) → KnowsStill (stepped mark st)
  unfolding stepped
  knows_steps mark = knows_stepped_as _ _ _

  knows_put : (v : ℕ) (w : Write) (mark : Mark) (x : State) → KnowsStill x → KnowsStill (put v w mark x)
  knows_put v w mark x h = grind arith

  knows_write : (v : ℕ) (w : Write) (mark : Mark) → KnowsStill (write s v w mark st).1
  unfolding write
  knows_write v w mark = grind (arith, common_steps, knows_put, knows_same, keeps_failed, knows_kept, course-concluded)

  knows_end : (q : Session) (x : State) → KnowsStill (closed q x)
  unfolding closed
  knows_end q x p e = absurd cc

  knows_begun : (k : Kind) (ms : List Member) (vs : List ℕ) (now : ℕ) (c : Course) → c.disabled ≡ st.course.disabled → AsFit st.course.rows c.rows → KnowsStill (followed true (begun k ms vs now c) st)
  knows_begun k ms vs now c e f = grind (arith, begun_members, knows_kept, course_of)

  knows_at : (q : Session) → st.session ≡ Some q → is_late q.stage ≡ true → AsksFitIn st.course.agenda st.course.rows → Covers (Next KnowsStill) s st
  knows_at q e l a = record {
    stays = λ lane op mark told e c. knows_same st refl;
    writes = λ lane op v w mark e f. knows_write v w mark;
    reverts = λ lane n v k mark f g. grind arith;
    ticks = λ lane n mark. knows_ticks n a;
    idles = λ mark e. knows_ticks (idle_now st) a;
    deletes_set = λ lane n c mark f. knows_same (record st { volumes = map (dropped n) st.volumes }) refl;
    deletes_image = λ lane n v k mark f. knows_same (record st { volumes = change_at v (dropped k.row.number) st.volumes }) refl;
    names = λ lane w full x explicit mark g f. knows_same (record st { explicit = explicit }) refl;
    disables = λ lane w x mark g. absurd (opened_not_late x.stage (has_writers x.context) g.allowed (late_at st.session x g.stands (subst LateIn (sym e) l)));
    starts = λ lane x mark g f. knows_same (start_set x st).1 refl;
    adds = λ lane v r x mark g f i. knows_same (change_set r.number (with_volume v) st) refl;
    aborts = λ lane x mark f. grind (arith, knows_same, keeps_failed, knows_kept, course-concluded);
    ends = λ lane x mark f. knows_end x (failed AsyncCancelled st);
    begins = λ lane m all c mark g f. absurd (grind arith);
    gathers = λ lane x mark g. absurd (opened_not_late x.stage (has_writers x.context) g.allowed (late_at st.session x g.stands (subst LateIn (sym e) l)));
    prepares = λ lane x mark g f. knows_begun Prepare _ [] st.clock _ refl (λ w. refl);
    snapshots = λ lane x mark g f. knows_begun Snapshot _ _ st.clock st.course refl (λ w. refl);
    completes = λ lane x mark g. knows_begun Complete _ [] st.clock st.course refl (λ w. refl);
    answers = λ w answer mark g. knows_answers w (said_of answer) a;
    steps = λ mark g. knows_steps mark;
  }

late_stage : (x : Stage) → is_stage x Opened ≡ false → is_late x ≡ true
late_stage x e = grind arith

pub known_stay : (s : Plan) (acts : List Act) (act : Act) (q p : Session) → (state s acts).session ≡ Some q → is_stage q.stage Opened ≡ false → (after s (state s acts) act).session ≡ Some p
    → known_metas s (after s (state s acts) act) ≡ known_metas s (state s acts)
known_stay s acts act q p e f g =
    let st = state s acts in
    let l = late_stage q.stage f in
    let known = names_from s (start s) acts (inl (record { explicit = refl; members = refl; agenda = tt })) in
    after_covered (KnowsStill s st) s st (knows_at s st q e l (grind (arith, (orderly s acts).agenda))) (knows_same s st st refl) act p g
