-- Whoever has an order to answer is one whom it is for.
use Rattle.std.proofs.Common.{◌≡◌, ◌∙◌, ℕ, ◌==◌, List, [], ◌∷◌, Option, Some, None, refl, Bool, true, false, ap, sym, subst, map, filter, arith, ◌+◌, zero, suc}
use Rattle.std.specs.Prelude.{◌&&◌, ◌||◌, not, is_some, option_map, if◌then◌else◌, slice_get}
use Rattle.promises.proofs.Words.{and_right, unless, list_any, Order, Identify, Group, Orders, Kind, Member, Place, Session, Plan, class_of}
use Rattle.promises.proofs.Words.{State, start, IsAgendaOf, Act, state, orderly, IsFor, AsksItsOwn, choosing, among_filter, filter_member, member_passes}
use Rattle.promises.proofs.Words.{Agenda, Open, places, is_at, writers_at, waited_for, with_group, left_from, groups_left, left, is_among}
use Rattle.promises.proofs.Words.{is_orders, order_of, order_if, open_order, Course, is_member, has_row_failed, posted, settled, begun, released, is_disabled}
use Rattle.promises.proofs.Words.{Follows, goes_answered, goes_stepped, goes_timed, CourseCall, Answers, Steps, Times, Gathers, Prepares, Snapshots, Completes}
use Rattle.promises.proofs.Words.{Disables, Releases, IsDue, of_calls, number_is, BackupComplete, VssResult, Said, Ok, WriterRow}
use Rattle.promises.proofs.Words.{row_after, Gather, Prepare, Snapshot, Complete, has_said, is_asked, order_now, next_member, all_say, IsKeptInCourse}
use Rattle.promises.proofs.Words.{course_answered as kept_answered, course_stepped as kept_stepped, course_timed as kept_timed, course_begun as kept_begun}
use Rattle.promises.proofs.Words.{asked_if, unspoken, CompletesUnfailed, rows_where, row_failed, told, worked}
use Rattle.set_agenda.specs.Course.{failed as course_failed}
use Rattle.vss_model.proofs.Changes.{Fails, called}
use Rattle.promises.proofs.OpenGroup.{every, in_kind, is_last_order, last_place, not_in_kind, still_open}
use Rattle.promises.proofs.Participants.{ChosenIn, StandsChosen, follows_all}
use Rattle.promises.proofs.Members.{SameCourse, mode_in, on_course_answered, on_course_stepped, on_course_timed, one_on}
use Rattle.set_agenda.specs.declared.kind.Kind.TheVariants as kind

-- ## lists of writers

writers_are : (ms : List Member) (w : ℕ) → is_among w (map (λ (m : Member). m.writer) ms) ≡ is_member ms w
writers_are [] w = refl
writers_are (m ∷ ms) w = ap (λ b. (m.writer == w) || b) (writers_are ms w)

at_level_are : (ms : List Member) (l : Option _) (w : ℕ) → is_among w (writers_at ms l) ≡ true → is_member ms w ≡ true
at_level_are ms l w e = filter_member (λ (m : Member). is_at l m.level) ms w (sym (writers_are (filter (λ (m : Member). is_at l m.level) ms) w) ∙ e)

-- ## the fact

-- whom an agenda asks
abbrev IsOfKind : Plan → Kind → Course → ℕ → Type 0
IsOfKind s kind.Gather c w = list_any (λ x. class_of s x == class_of s w) c.disabled ≡ false
IsOfKind s _ c w = is_member c.members w ≡ true

abbrev Asks : Plan → Option Agenda → Course → Type 0
Asks s None c = Unit {0}
Asks s (Some a) c = (w : ℕ) → is_member a.members w ≡ true → IsOfKind s a.kind c w

asks_on : (s : Plan) (c d : Course) (a b : Option Agenda) → Follows a c.members c.outcome b d.members d.outcome → SameCourse c d → Asks s a c → Asks s b d
asks_on s c d a b m same h = grind arith

abbrev AsksIn : Plan → State → Type 0
AsksIn s x = Asks s x.course.agenda x.course

module _ (s : Plan) where
  asks_begun : (k : Kind) (ms : List Member) (vs : List ℕ) (now : ℕ) (c : Course) → ((w : ℕ) → is_member ms w ≡ true → IsOfKind s k c w) → Asks s (begun k ms vs now c).agenda (begun k ms vs now c)
  unfolding begun posted settled
  asks_begun k ms vs now c h = grind arith

  asks_called : (st : State) (call : CourseCall) (c : Course) → IsDue st c call → Asks s c.agenda c → Asks s (called s st call c).agenda (called s st call c)
  unfolding course_failed released
  asks_called st (Answers w said) c i h = asks_on s c _ c.agenda _ (goes_answered w said st.clock c) (on_course_answered w said st.clock c) h
  asks_called st (Steps ok) c i h = asks_on s c _ c.agenda _ (goes_stepped ok st.clock c) (on_course_stepped ok st.clock c) h
  asks_called st (Times now) c i h = asks_on s c _ c.agenda _ (goes_timed now c) (on_course_timed now c) h
  asks_called st Gathers c i h = grind (arith, asks_begun, unless, member_passes)
  asks_called st (Prepares q) c i h = asks_begun kind.Prepare _ [] st.clock _ (λ w e. e)
  asks_called st Snapshots c i h = asks_begun kind.Snapshot c.members _ st.clock c (λ w e. e)
  asks_called st Completes c i h = asks_begun kind.Complete _ [] st.clock c (λ w e. filter_member (λ (m : Member). not (has_row_failed c.rows m.writer)) c.members w e)
  asks_called st (Disables w) c i h = grind (arith, ap (λ (d : Course). is_some d.agenda) i.course ∙ i.goes.quiet)
  asks_called st (Fails why) c i h = tt
  asks_called st Releases c i h = tt

  asks_always : (acts : List Act) → AsksIn s (state s acts)
  asks_always acts = of_calls (λ c. Asks s c.agenda c) s asks_called (start s) acts tt

-- ## who has an open order

waits_are : (a : Agenda) (ps : List Place) (o : Open) (os : List Open) → left_from a ps ≡ o ∷ os → o.waits ≡ waited_for a o.place
waits_are a [] o os e = absurd cc
waits_are a (p ∷ ps) o os e = grind (arith, waits_are a ps o os)

abbrev is_identify : Group → Bool
is_identify (Orders Identify) = true
is_identify _ = false

module _ (s : Plan) (so_far : List Act) (w : ℕ) (order : Order) where
  abbrev st : State
  st = state s so_far

  -- of a group, if w waits in it
  asked_in : (a : Agenda) (g : Group) (l : Option _) → is_among w (waited_for a (record { group = g; level = l })) ≡ true → order_of g ≡ Some order → is_member a.members w ≡ true
  asked_in a g l e f = grind (arith, at_level_are, among_filter)

  now_open : (b : Bool) (x : Option Order) → order_if b x ≡ Some order → (b ≡ true) × (x ≡ Some order)
  now_open b x e = grind arith

  identifies : (g : Group) → is_identify g ≡ true → order_of g ≡ Some order → order ≡ Identify
  identifies g e f = grind arith

  -- nothing of a disabled class
  not_disabled : (q : Option Session) → st.session ≡ q → is_some q ≡ true → is_disabled s st w ≡ false → (choosing s w so_far).disabled ≡ false
  not_disabled None e f g = absurd cc
  not_disabled (Some q) e f g =
      let stands : StandsChosen s w st (choosing s w so_far) q.mode = subst (λ (o : Option Session). ChosenIn (mode_in o) s w st (choosing s w so_far)) e (follows_all s w so_far).chosen in
      sym stands.disabled ∙ g

  in_session : (a : Agenda) (q : Option Session) → IsAgendaOf (Some a) q → is_some q ≡ true
  in_session a q h = grind arith

  for_other : (o : Order) → (o ≡ Identify → ⊥) → is_member st.course.members w ≡ true → IsFor s so_far w o
  for_other o e f = grind arith

  module _ (a : Agenda) (o : Open) (os : List Open) (runs_is : st.course.agenda ≡ Some a) (open_is : groups_left a ≡ o ∷ os) (order_is : order_of o.place.group ≡ Some order) where
    others : (k : Kind) → a.kind ≡ k → every (λ q. not (is_identify q.group)) (places k) ≡ true → is_member st.course.members w ≡ true → IsFor s so_far w order
    others k e f m = for_other order (λ i. grind (arith, unless (is_identify o.place.group) (in_kind (λ q. not (is_identify q.group)) k a o os e f open_is), order_is ∙ ap Some i)) m

    by_kind : (k : Kind) → a.kind ≡ k → IsOfKind s k st.course w → IsFor s so_far w order
    by_kind kind.Gather e m =
        subst (IsFor s so_far w) (sym (identifies o.place.group (in_kind (λ q. is_identify q.group) kind.Gather a o os e refl open_is) order_is))
        (not_disabled st.session refl (in_session a st.session (subst (λ x. IsAgendaOf x st.session) runs_is (orderly s so_far).agenda)) m)
    by_kind kind.Prepare e m = others kind.Prepare e refl m
    by_kind kind.Snapshot e m = others kind.Snapshot e refl m
    by_kind kind.Complete e m = others kind.Complete e refl m

  asked_now : (a : Agenda) (os : List Open) → st.course.agenda ≡ Some a → groups_left a ≡ os → Asks s (Some a) st.course → open_order os w ≡ Some order → IsFor s so_far w order
  asked_now a [] e f h g = absurd cc
  asked_now a (o ∷ os) e f h g =
      let open_now = now_open (is_orders o.place.group && is_among w o.waits) (order_of o.place.group) g in
      let waits = subst (λ ws. is_among w ws ≡ true) (waits_are a (places a.kind) o os f) (and_right (is_orders o.place.group) (is_among w o.waits) open_now.0) in
      by_kind a o os e f open_now.1 a.kind refl (h w (asked_in a o.place.group o.place.level waits open_now.1))

  asked_by : (x : Option Agenda) → st.course.agenda ≡ x → Asks s x st.course → open_order (left x) w ≡ Some order → IsFor s so_far w order
  asked_by x e h g = grind (arith, asked_now)

pub asks_its_own : (s : Plan) (so_far : List Act) → AsksItsOwn s so_far
asks_its_own s so_far w order e = asked_by s so_far w order (state s so_far).course.agenda refl (asks_always s so_far) e

-- ## backupComplete goes to no writer that has failed

-- ## the course

abbrev Unfailed : List WriterRow → Option Agenda → Type 0
Unfailed rows x = (w : ℕ) → open_order (left x) w ≡ Some BackupComplete → has_row_failed rows w ≡ false

abbrev Well : Course → Type 0
Well c = Unfailed c.rows c.agenda

nobody : (rows : List WriterRow) → Unfailed rows None
nobody rows w e = absurd cc

well_failed : (why : VssResult) (c : Course) → Well (course_failed why c)
unfolding course_failed
well_failed why c = nobody (course_failed why c).rows

well_posted : (prior c : Course) → Well c → Well (posted prior c)
unfolding posted
well_posted prior c h = h

-- a row that is not of these
row_stays : (f : WriterRow → WriterRow) (test : ℕ → Bool) (k : ℕ) (rows : List WriterRow) (w : ℕ) → test (k + w) ≡ false → slice_get (rows_where f test k rows) w ≡ slice_get rows w
row_stays f test k [] w e = refl
row_stays f test k (r ∷ rows) zero e = grind arith
row_stays f test k (r ∷ rows) (suc w) e = row_stays f test (k + 1) rows w (ap test (one_on k w) ∙ e)

well_said : (o : Order) (said : Said) (now : ℕ) (ws : List ℕ) (rows : List WriterRow) (x : Option Agenda) → Unfailed rows x
    → Unfailed (rows_where (row_after o said) (λ w. is_among w ws) 0 rows) (option_map (all_say said now ws) x)
well_said o said now ws rows None h w e = nobody (rows_where (row_after o said) (λ w. is_among w ws) 0 rows) w e
well_said o said now ws rows (Some a) h w e =
    let was = still_open a.kind said now ws a w refl e in
    ap row_failed (row_stays (row_after o said) (λ x. is_among x ws) 0 rows w (ap (λ x. is_among x ws) (none_less w) ∙ was.1)) ∙ h w was.0 where
      none_less : (n : ℕ) → 0 + n ≡ n
      none_less n = omega arith

well_told : (o : Order) (said : Said) (now : ℕ) (ws : List ℕ) (c : Course) → Well c → Well (told o said now ws c)
unfolding told
well_told o said now ws c h = well_said o said now ws c.rows c.agenda h

well_made : (now : ℕ) (ws : List ℕ) (rows : List WriterRow) (x : Option Agenda) → Unfailed rows x → Unfailed rows (option_map (all_say Ok now ws) x)
well_made now ws rows None h w e = nobody rows w e
well_made now ws rows (Some a) h w e = h w (still_open a.kind Ok now ws a w refl e).0

well_worked : (now : ℕ) (c : Course) → Well c → Well (worked now c)
unfolding worked
well_worked now c h = well_made now (next_member (left c.agenda) ∷ []) c.rows c.agenda h

well_kept : IsKeptInCourse Well
well_kept = record { posts = well_posted; says = well_told; works = well_worked; fails = λ why c h. well_failed why c; closes = λ k c h. nobody c.rows }

-- ## an agenda begins

well_begun_as : (k : Kind) (ms : List Member) (vs : List ℕ) (now : ℕ) (c : Course) → Unfailed c.rows (Some (unspoken k ms vs now)) → Well (begun k ms vs now c)
well_begun_as k ms vs now c h = kept_begun Well well_kept k ms vs now c h

well_begun : (k : Kind) (ms : List Member) (vs : List ℕ) (now : ℕ) (c : Course) → every (λ q. not (is_last_order q.group)) (places k) ≡ true → Well (begun k ms vs now c)
well_begun k ms vs now c h = well_begun_as k ms vs now c (λ w e. absurd (not_in_kind k (unspoken k ms vs now) w refl h e))

unfailed_member : (rows : List WriterRow) (w : ℕ) (ms : List Member)
    → is_among w (writers_at (filter (λ (m : Member). not (has_row_failed rows m.writer)) ms) None) ≡ true → has_row_failed rows w ≡ false
unfailed_member rows w [] e = absurd cc
unfailed_member rows w (m ∷ ms) e = grind (arith, number_is, unfailed_member rows w ms)

waiting_there : (waits : List ℕ) (w : ℕ) → is_asked w (with_group last_place waits []) ≡ true → is_among w waits ≡ true
waiting_there waits w e = grind arith

well_completing : (ms : List Member) (now : ℕ) (c : Course) → Well (begun Complete (filter (λ (m : Member). not (has_row_failed c.rows m.writer)) ms) [] now c)
well_completing ms now c =
    let asked = filter (λ (m : Member). not (has_row_failed c.rows m.writer)) ms in
    well_begun_as Complete asked [] now c
    (λ w e.
    unfailed_member c.rows w ms
    (among_filter (λ who. not (has_said [] last_place who)) w (writers_at (filter (λ (m : Member). not (has_row_failed c.rows m.writer)) ms) None)
    (waiting_there (waited_for (unspoken Complete (filter (λ (m : Member). not (has_row_failed c.rows m.writer)) ms) [] now) last_place) w
    (asked_if (is_asked w (groups_left (unspoken Complete (filter (λ (m : Member). not (has_row_failed c.rows m.writer)) ms) [] now)))
    (order_now (groups_left (unspoken Complete (filter (λ (m : Member). not (has_row_failed c.rows m.writer)) ms) [] now))) BackupComplete e))))

-- ## every act

well_called : (s : Plan) (st : State) (call : CourseCall) (c : Course) → Well c → Well (called s st call c)
unfolding released
well_called s st (Answers w said) c h = kept_answered Well well_kept w said st.clock c h
well_called s st (Steps ok) c h = kept_stepped Well well_kept ok st.clock c h
well_called s st (Times now) c h = kept_timed Well well_kept now c h
well_called s st Gathers c h = well_begun Gather _ _ st.clock _ refl
well_called s st (Prepares q) c h = well_begun Prepare _ _ st.clock _ refl
well_called s st Snapshots c h = well_begun Snapshot _ _ st.clock _ refl
well_called s st Completes c h = well_completing c.members st.clock c
well_called s st (Disables w) c h = h
well_called s st (Fails why) c h = well_failed why c
well_called s st Releases c h = nobody (released c).rows

well : (s : Plan) (acts : List Act) → Well (state s acts).course
well s acts = of_calls Well s (λ st call c i h. well_called s st call c h) (start s) acts (nobody (start s).course.rows)

pub completes_unfailed : (s : Plan) (so_far : List Act) → CompletesUnfailed s so_far
completes_unfailed s so_far w row e f = grind (arith, ap row_failed (sym f) ∙ well s so_far w e)
