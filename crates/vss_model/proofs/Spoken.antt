-- What the log of a running agenda says of who spoke: while the Hold group is open, and what of a provider's step was said before.
use Rattle.std.proofs.Common.{◌≡◌, ℕ, ◌==◌, List, [], ◌∷◌, ◌++◌, Option, None, refl, Bool, true, false, map, filter, sym, subst, ◌∙◌, arith, Some, ap}
use Rattle.std.specs.Prelude.{◌&&◌, ◌||◌, not, if◌then◌else◌}
use Rattle.vss_model.proofs.AtCut.{all_said, release_not}
use Rattle.vss_model.proofs.Changes.{CourseCall, Answers, Steps, Times, Gathers, Prepares, Snapshots, Completes, Disables, called, IsDue, Stands}
use Rattle.vss_model.proofs.CourseCalls.{Says, Call, call_answered, call_stepped, call_timed}
use Rattle.vss_model.proofs.HeldOfSet.{is_cut_made, said_stays, either_way, SoundLog, sound}
use Rattle.vss_model.proofs.Orderly.{true_not_false}
use Rattle.vss_model.proofs.Rules.{IsKeptInLog, Running, in_log}
use Rattle.vss_model.proofs.Terms.{list_any-append, and_parts, eqb-true, or_right, Level, Said, is_ok, Group, Hold, Cut, Commit, Release, Member, Place, Agenda}
use Rattle.vss_model.proofs.Terms.{Entry, Open, plain, places, same_place, is_freeze, has_said, has_frozen, members_of, waited_for, with_group, left_from}
use Rattle.vss_model.proofs.Terms.{groups_left, open_group, open_place, is_among, waits_now, at_place, all_say, is_member, Plan, Act, state, is_cut_group}
use Rattle.vss_model.proofs.Terms.{common_steps, SetOutcome, Kind, Gather, Prepare, Snapshot, Complete, left, is_orders, is_working, Course, posted, settled}
use Rattle.vss_model.proofs.Terms.{begun, failed as course_failed, released, Event, State, left_now, is_provider, is_hold, unless}

-- ## What the log of a running agenda says of who spoke: only volumes of the agenda were held, only its members froze, once the Cut step
-- is made the Hold group is closed, and a volume is released after its Commit step.

-- ## what is said at a place

-- what was said anew was said at that place, by one of these
pub new_said : (p q : Place) (said : Said) (now who : ℕ) (ws : List ℕ) → has_said (map (at_place p said now) ws) q who ≡ true → (same_place p q && is_among who ws) ≡ true
new_said p q said now who [] e = absurd cc
new_said p q said now who (w ∷ ws) e = by_head (same_place p q) (w == who) (is_among who ws) (has_said (map (at_place p said now) ws) q who) e (new_said p q said now who ws)
  where
    by_head : (a b c d : Bool) → ((a && b) || d) ≡ true → (d ≡ true → (a && c) ≡ true) → (a && (b || c)) ≡ true
    by_head true true c d e ih = refl
    by_head true false c d e ih = ih e
    by_head false b c d e ih = absurd (true_not_false false (ih e) refl)

new_frozen : (p : Place) (said : Said) (now who : ℕ) (ws : List ℕ) → has_frozen (map (at_place p said now) ws) who ≡ true → (is_freeze p.group && is_among who ws) ≡ true
new_frozen p said now who [] e = absurd cc
new_frozen p said now who (w ∷ ws) e = by_head (is_freeze p.group) (is_ok said) (w == who) (is_among who ws) (has_frozen (map (at_place p said now) ws) who) e (new_frozen p said now who ws)
  where
    by_head : (a o b c d : Bool) → ((a && o && b) || d) ≡ true → (d ≡ true → (a && c) ≡ true) → (a && (b || c)) ≡ true
    by_head true true true c d e ih = refl
    by_head true true false c d e ih = ih e
    by_head true false true c d e ih = refl
    by_head true false false c d e ih = ih e
    by_head false o b c d e ih = absurd (true_not_false false (ih e) refl)

-- ## who is waited for is a member

pub among_filter : (test : ℕ → Bool) (x : ℕ) (xs : List ℕ) → is_among x (filter test xs) ≡ true → is_among x xs ≡ true
among_filter test x [] e = absurd cc
among_filter test x (y ∷ xs) e = by_test (test y) e (among_filter test x xs) where
  by_test : (b : Bool) → is_among x (if b then y ∷ filter test xs else filter test xs) ≡ true → (is_among x (filter test xs) ≡ true → is_among x xs ≡ true) → ((y == x) || is_among x xs) ≡ true
  by_test true e ih = head (y == x) (is_among x (filter test xs)) (is_among x xs) e ih where
    head : (a b c : Bool) → (a || b) ≡ true → (b ≡ true → c ≡ true) → (a || c) ≡ true
    head true b c e f = refl
    head false b c e f = f e
  by_test false e ih = or_right (y == x) (is_among x xs) (ih e)

pub filter_passes : (test : ℕ → Bool) (w : ℕ) (xs : List ℕ) → is_among w (filter test xs) ≡ true → test w ≡ true
filter_passes test w [] e = absurd cc
filter_passes test w (x ∷ xs) e = by_test (test x) refl e (filter_passes test w xs) where
  by_head : (b : Bool) → (x == w) ≡ b → test x ≡ true → (b || is_among w (filter test xs)) ≡ true → (is_among w (filter test xs) ≡ true → test w ≡ true) → test w ≡ true
  by_head true f g h ih = subst (λ y. test y ≡ true) (eqb-true x w f) g
  by_head false f g h ih = ih h

  by_test : (b : Bool) → test x ≡ b → is_among w (if b then x ∷ filter test xs else filter test xs) ≡ true → (is_among w (filter test xs) ≡ true → test w ≡ true) → test w ≡ true
  by_test true g h ih = by_head (x == w) refl g h ih
  by_test false g h ih = ih h

-- the open place has the open group, and of its members those are waited for
pub waits_members : (a : Agenda) (ps : List Place) (x : ℕ) → is_among x (waits_now (left_from a ps)) ≡ true → is_among x (members_of a (open_place (left_from a ps)).group (open_place (left_from a ps)).level) ≡ true
waits_members a [] x e = absurd cc
waits_members a (p ∷ ps) x e = at_group (waited_for a p) (left_from a ps) (λ f. among_filter (λ who. not (has_said a.log p who)) x (members_of a p.group p.level) f) (waits_members a ps x) e
  where
    at_group : (ws : List ℕ) (later : List Open) → (is_among x ws ≡ true → is_among x (members_of a p.group p.level) ≡ true)
        → (is_among x (waits_now later) ≡ true → is_among x (members_of a (open_place later).group (open_place later).level) ≡ true)
        → is_among x (waits_now (with_group p ws later)) ≡ true
        → is_among x (members_of a (open_place (with_group p ws later)).group (open_place (with_group p ws later)).level) ≡ true
    at_group [] later own ih e = ih e
    at_group (w ∷ ws) later own ih e = own e

-- nobody is waited for who has said something
pub waits_unsaid : (a : Agenda) (ps : List Place) (x : ℕ) → is_among x (waits_now (left_from a ps)) ≡ true → has_said a.log (open_place (left_from a ps)) x ≡ false
waits_unsaid a [] x e = absurd cc
waits_unsaid a (p ∷ ps) x e = at_group (waited_for a p) (left_from a ps) (λ f. unless (has_said a.log p x) (filter_passes (λ who. not (has_said a.log p who)) x (members_of a p.group p.level) f)) (waits_unsaid a ps x) e
  where
    at_group : (ws : List ℕ) (later : List Open) → (is_among x ws ≡ true → has_said a.log p x ≡ false) → (is_among x (waits_now later) ≡ true → has_said a.log (open_place later) x ≡ false)
        → is_among x (waits_now (with_group p ws later)) ≡ true → has_said a.log (open_place (with_group p ws later)) x ≡ false
    at_group [] later own ih e = ih e
    at_group (w ∷ ws) later own ih e = own e

-- ## the volumes that are held

-- only volumes of the agenda were held
abbrev pub HoldsOwn : Agenda → Type 0
HoldsOwn a = (v : ℕ) → has_said a.log (plain Hold) v ≡ true → is_among v a.volumes ≡ true

said_more : (log new : List Entry) (p : Place) (who : ℕ) (c : Bool) → has_said (log ++ new) p who ≡ true → (has_said log p who ≡ true → c ≡ true) → (has_said new p who ≡ true → c ≡ true) → c ≡ true
said_more log new p who c e f g = grind (arith, either_way, list_any-append)

holds_own : IsKeptInLog HoldsOwn
holds_own = record {
  begins = λ k ms vs now v e. absurd cc;
  says = λ said now ws a waited mild h v e.
      let p = open_place (groups_left a) in
      said_more a.log (map (at_place p said now) ws) (plain Hold) v (is_among v a.volumes) e (h v)
      (λ f.
      let new = and_parts (same_place p (plain Hold)) (is_among v ws) (new_said p (plain Hold) said now v ws f) in
      grind (arith, new.0, waits_members a (places a.kind) v (waited v new.1)));
}

-- ## the writers that are frozen

pub among_members : (test : Member → Bool) (w : ℕ) (ms : List Member) → is_among w (map (λ (m : Member). m.writer) (filter test ms)) ≡ true → is_member ms w ≡ true
among_members test w [] e = absurd cc
among_members test w (m ∷ ms) e = by_test (test m) e (among_members test w ms) where
  by_test : (b : Bool) → is_among w (map (λ (m : Member). m.writer) (if b then m ∷ filter test ms else filter test ms)) ≡ true → (is_among w (map (λ (m : Member). m.writer) (filter test ms)) ≡ true → is_member ms w ≡ true) → ((m.writer == w) || is_member ms w) ≡ true
  by_test true e ih = head (m.writer == w) (is_among w (map (λ (m : Member). m.writer) (filter test ms))) (is_member ms w) e ih where
    head : (a b c : Bool) → (a || b) ≡ true → (b ≡ true → c ≡ true) → (a || c) ≡ true
    head true b c e f = refl
    head false b c e f = f e
  by_test false e ih = or_right (m.writer == w) (is_member ms w) (ih e)

-- only members of the agenda froze
abbrev pub FreezesOwn : Agenda → Type 0
FreezesOwn a = (w : ℕ) → has_frozen a.log w ≡ true → is_member a.members w ≡ true

freezes_own : IsKeptInLog FreezesOwn
freezes_own = record {
  begins = λ k ms vs now w e. absurd cc;
  says = λ said now ws a waited mild h w e.
      let p = open_place (groups_left a) in
      let new = map (at_place p said now) ws in
      either_way (has_frozen a.log w) (has_frozen new w) (is_member a.members w) (sym (list_any-append (λ (x : Entry). is_freeze x.place.group && is_ok x.said && (x.who == w)) a.log new) ∙ e) (h w)
      (λ f.
      let parts = and_parts (is_freeze p.group) (is_among w ws) (new_frozen p said now w ws f) in
      grind (arith, among_members, parts.0, waits_members a (places a.kind) w (waited w parts.1)));
}

-- ## the Hold group is closed before the Cut step

abbrev pub HoldsFirst : Agenda → Type 0
HoldsFirst a = is_cut_made a.log ≡ true → waited_for a (plain Hold) ≡ []

-- who is not waited for will not be
pub fewer_wait : (log new : List Entry) (p : Place) (xs : List ℕ) → filter (λ x. not (has_said log p x)) xs ≡ [] → filter (λ x. not (has_said (log ++ new) p x)) xs ≡ []
fewer_wait log new p [] e = refl
fewer_wait log new p (x ∷ xs) e = by_head (has_said log p x) (has_said (log ++ new) p x) (said_stays log new p x) e (fewer_wait log new p xs) where
  by_head : (b c : Bool) → (b ≡ true → c ≡ true) → (if not b then x ∷ filter (λ x. not (has_said log p x)) xs else filter (λ x. not (has_said log p x)) xs) ≡ []
      → (filter (λ x. not (has_said log p x)) xs ≡ [] → filter (λ x. not (has_said (log ++ new) p x)) xs ≡ [])
      → (if not c then x ∷ filter (λ x. not (has_said (log ++ new) p x)) xs else filter (λ x. not (has_said (log ++ new) p x)) xs) ≡ []
  by_head true true f e ih = ih e
  by_head true false f e ih = absurd (true_not_false false (f refl) refl)
  by_head false c f e ih = absurd cc

closed_at_cut : (a : Agenda) → is_cut_group (open_group (groups_left a)) ≡ true → waited_for a (plain Hold) ≡ []
closed_at_cut a e = grind arith

-- by what said the Cut
holds_first_more : (said : Said) (now : ℕ) (ws : List ℕ) (a : Agenda) → HoldsFirst a → HoldsFirst (all_say said now ws a)
holds_first_more said now ws a h e =
    let p = open_place (groups_left a) in
    let new = map (at_place p said now) ws in
    by_cases (is_cut_made a.log) (has_said new (plain Cut) 0) refl refl (sym (list_any-append (λ (x : Entry). same_place x.place (plain Cut) && (x.who == 0)) a.log new) ∙ e)
  where
    by_cases : (b c : Bool) → is_cut_made a.log ≡ b → has_said (map (at_place (open_place (groups_left a)) said now) ws) (plain Cut) 0 ≡ c → (b || c) ≡ true → waited_for (all_say said now ws a) (plain Hold) ≡ []
    by_cases true c f g e = fewer_wait a.log (map (at_place (open_place (groups_left a)) said now) ws) (plain Hold) a.volumes (h f)
    by_cases false true f g e =
        let parts = and_parts (same_place (open_place (groups_left a)) (plain Cut)) (is_among 0 ws) (new_said (open_place (groups_left a)) (plain Cut) said now 0 ws g) in
        fewer_wait a.log (map (at_place (open_place (groups_left a)) said now) ws) (plain Hold) a.volumes (closed_at_cut a (grind (arith, parts.0)))
    by_cases false false f g e = absurd cc

holds_first : IsKeptInLog HoldsFirst
holds_first = record { begins = λ k ms vs now e. absurd cc; says = λ said now ws a waited mild h. holds_first_more said now ws a h }

-- ## the Commit group is closed before a Release step

abbrev pub CommitsFirst : Agenda → Type 0
CommitsFirst a = (v : ℕ) → has_said a.log (plain Release) v ≡ true → has_said a.log (plain Commit) v ≡ true

closed_at_release : (a : Agenda) → same_place (open_place (groups_left a)) (plain Release) ≡ true → waited_for a (plain Commit) ≡ []
closed_at_release a e = grind arith

commits_before : IsKeptInLog CommitsFirst
commits_before = record {
  begins = λ k ms vs now v e. absurd cc;
  says = λ said now ws a waited mild h v e.
      let p = open_place (groups_left a) in
      let new = map (at_place p said now) ws in
      said_more a.log new (plain Release) v (has_said (a.log ++ new) (plain Commit) v) e (λ f. said_stays a.log new (plain Commit) v (h v f))
      (λ f.
      let parts = and_parts (same_place p (plain Release)) (is_among v ws) (new_said p (plain Release) said now v ws f) in
      said_stays a.log new (plain Commit) v (all_said a.log (plain Commit) a.volumes v (closed_at_release a parts.0)
      (grind (arith, parts.0, waits_members a (places a.kind) v (waited v parts.1)))));
}

-- ## in every state

pub held_own : (s : Plan) (acts : List Act) → Running HoldsOwn (state s acts).course.agenda
held_own s acts = in_log HoldsOwn holds_own s acts

pub frozen_own : (s : Plan) (acts : List Act) → Running FreezesOwn (state s acts).course.agenda
frozen_own s acts = in_log FreezesOwn freezes_own s acts

pub commits_first : (s : Plan) (acts : List Act) → Running CommitsFirst (state s acts).course.agenda
commits_first s acts = in_log CommitsFirst commits_before s acts

pub held_first : (s : Plan) (acts : List Act) → Running HoldsFirst (state s acts).course.agenda
held_first s acts = in_log HoldsFirst holds_first s acts

-- ## what the log of a running agenda says of a provider's step was said before, unless the act makes that step

abbrev pub SaidIn : Place → ℕ → Option Agenda → Type 0
SaidIn p who None = ⊥
SaidIn p who (Some a) = has_said a.log p who ≡ true

module _ (g : Group) (own : is_orders g ≡ false) where
  -- writers say nothing there; the provider does where it is open
  abbrev pub Elsewhere : Bool → List Open → Type 0
  Elsewhere true os = Unit {0}
  Elsewhere false os = same_place (open_place os) (plain g) ≡ false

  pub said_back : (said : Said) (now who : ℕ) (ws : List ℕ) (a : Agenda) → same_place (open_place (groups_left a)) (plain g) ≡ false
      → has_said (all_say said now ws a).log (plain g) who ≡ true → has_said a.log (plain g) who ≡ true
  said_back said now who ws a e f = grind (arith, list_any-append, and_parts, new_said, true_not_false)

  of_writers : (h k : Group) (l : Option Level) → is_orders h ≡ true → is_orders k ≡ false → same_place (record { group = h; level = l }) (plain k) ≡ false
  of_writers h k l e f = grind arith

  pub says_elsewhere : (writers : Bool) (a : Agenda) (o : SetOutcome) (b : Option Agenda) (p : SetOutcome) → Elsewhere writers (groups_left a) → Says writers a o b p
      → same_place (open_place (groups_left a)) (plain g) ≡ false
  says_elsewhere true a o b p e c = of_writers (open_place (groups_left a)).group g (open_place (groups_left a)).level c.by own
  says_elsewhere false a o b p e c = e

  pub still_said : (writers : Bool) (who : ℕ) (a : Option Agenda) (o : SetOutcome) (b : Option Agenda) (p : SetOutcome)
      → ((x : Agenda) → a ≡ Some x → Elsewhere writers (groups_left x)) → Call writers a o b p → SaidIn (plain g) who b → SaidIn (plain g) who a
  still_said writers who a o b p n c h = grind (arith, common_steps, said_back, says_elsewhere)

  pub begun_unsaid : (who : ℕ) (k : Kind) (ms : List Member) (vs : List ℕ) (now : ℕ) (c : Course) → SaidIn (plain g) who (begun k ms vs now c).agenda → ⊥
  unfolding begun posted settled
  begun_unsaid who k ms vs now c m = grind (arith, common_steps)

  -- the provider makes no step there
  abbrev pub MakesNone : Event → State → Type 0
  MakesNone e st = is_provider e ≡ true → same_place (open_place (left_now st)) (plain g) ≡ false

  pub said_called : (s : Plan) (e : Event) (st x : State) (call : CourseCall) (who : ℕ) → MakesNone e st → IsDue st x.course call → Stands e st x call
      → SaidIn (plain g) who (called s st call x.course).agenda → SaidIn (plain g) who x.course.agenda
  unfolding course_failed released
  said_called s e st x (Answers w said) who none i j h = still_said true who x.course.agenda x.course.outcome _ _ (λ y k. tt) (call_answered w said st.clock x.course) h
  said_called s e st x (Steps ok) who none i j h =
      still_said false who x.course.agenda x.course.outcome _ _
      (λ y k. ap (λ (o : Option Agenda). same_place (open_place (left o)) (plain g)) (sym k ∙ ap (λ (d : Course). d.agenda) i.1) ∙ none j)
      (call_stepped ok st.clock x.course (subst (λ c. is_working (left c.agenda) ≡ true) (sym i.1) i.0)) h
  said_called s e st x (Times now) who none i j h = still_said true who x.course.agenda x.course.outcome _ _ (λ y k. tt) (call_timed now x.course) h
  said_called s e st x Gathers who none i j h = absurd (begun_unsaid who Gather _ [] st.clock _ h)
  said_called s e st x (Prepares q) who none i j h = absurd (begun_unsaid who Prepare _ [] st.clock _ h)
  said_called s e st x Snapshots who none i j h = absurd (begun_unsaid who Snapshot _ _ st.clock _ h)
  said_called s e st x Completes who none i j h = absurd (begun_unsaid who Complete _ [] st.clock _ h)
  said_called s e st x (Disables w) who none i j h = h
  said_called s e st x _ who none i j h = absurd h

-- ## While the Hold group is open the Cut step is not made, and nothing is said of a Release.

-- the Hold group is open
abbrev opens_hold : List Open → Bool
opens_hold [] = false
opens_hold (o ∷ os) = is_hold o.place.group

hold_opens : (os : List Open) → open_group os ≡ Some Hold → opens_hold os ≡ true
hold_opens os e = grind arith

not_made : (b : Bool) (a : Agenda) → is_cut_made a.log ≡ b → HoldsFirst a → opens_hold (groups_left a) ≡ true → b ≡ false
not_made b a e h o = grind arith

pub uncut_at_hold : (s : Plan) (acts : List Act) (a : Agenda) → open_group (left_now (state s acts)) ≡ Some Hold → (state s acts).course.agenda ≡ Some a → has_said a.log (plain Cut) 0 ≡ false
uncut_at_hold s acts a e f = grind (arith, not_made, held_first, hold_opens)

pub unreleased_at_hold : (s : Plan) (acts : List Act) (a : Agenda) (v : ℕ) → open_group (left_now (state s acts)) ≡ Some Hold → (state s acts).course.agenda ≡ Some a → has_said a.log (plain Release) v ≡ false
unreleased_at_hold s acts a v e f = release_not a.log v (subst SoundLog f (sound s acts)) (uncut_at_hold s acts a e f)
