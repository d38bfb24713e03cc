-- A writer answers by its script: how often it was asked, as the acts tell it, is how many groups of that order have opened for it.
use Rattle.std.proofs.Common.{◌≡◌, ◌∙◌, ℕ, ◌+◌, ◌==◌, List, [], ◌∷◌, ◌++◌, Option, Some, None, refl, Bool, true, false, ap, sym, subst, inl, inr, map, filter, find, fold, arith}
use Rattle.std.specs.Prelude.{◌&&◌, ◌||◌, not, is_some, count_by, if◌then◌else◌}
use Rattle.promises.proofs.Words.{list_any, sum_by-append, Level, Order, VssResult, AsyncCancelled, SetOutcome, Said, row_gathered, Mark, Writer, Move}
use Rattle.promises.proofs.Words.{Scripted, answer_in, is_row_for, scripted_answer, Group, Orders, PreCommit, Flush, Hold, Cut, Commit, Release, PostCommit}
use Rattle.promises.proofs.Words.{Kind, Member, Place, Running as RunningLimit, spent_of, Plan, script_of, Event, State, runs, Act, order_of_writer, after}
use Rattle.promises.proofs.Words.{state, acts, acts_if, answer_event, script_event, state-run, acts-append, Settles, said_stays, among_filter, is_owed}
use Rattle.promises.proofs.Words.{is_asked_anew, asked_from, times_asked, written_in, AnswersByScript, Deed, append_nothing, and-false, none_runs, and_from}
use Rattle.promises.proofs.Words.{and_parts, or_left, or_right, Agenda, Open, places, group_code, same_order, same_place, order_of, is_orders, members_of}
use Rattle.promises.proofs.Words.{waited_for, with_group, left_from, groups_left, left, open_place, waits_now, is_among, order_if, open_order, is_working}
use Rattle.promises.proofs.Words.{is_done, all_say, OrderGroup, Course, group_of_orders, opens, posted, sent, settled, begun, told, answered_to}
use Rattle.promises.proofs.Words.{answered as course_answered, worked, stepped as course_stepped, limits_now, lost_to, treated, timed as course_timed, released}
use Rattle.promises.proofs.Words.{closed, Change, CourseIs, apply, CourseCall, Answers, Steps, Times, Gathers, Prepares, Snapshots, Completes, Disables}
use Rattle.promises.proofs.Words.{Releases, IsDue, Comes, by_changes, number_is, failed_agenda, filter_passes}
use Rattle.set_agenda.specs.declared.kind.Kind.TheVariants as kind
use Rattle.set_agenda.specs.Course.{failed as course_failed, stepped_as as course_stepped_as}
use Rattle.promises.proofs.Members.{not_itself, same_number}
use Rattle.vss_model.proofs.Changes.{Fails, called}
use Rattle.promises.proofs.Orders.{same_group}
use Rattle.promises.proofs.Speaks.{Grows, grows_answered, grows_stepped, grows_timed}
use Rattle.promises.proofs.Stages.{failed_stays, closed_stays, grown}

-- ## who waits at a place does not begin to wait there

pub kept_among : (f : ℕ → Bool) (x : ℕ) (xs : List ℕ) → f x ≡ true → is_among x xs ≡ true → is_among x (filter f xs) ≡ true
kept_among f x [] e g = absurd cc
kept_among f x (y ∷ xs) e g = by_head (y == x) refl g (kept_among f x xs e) where
  by_head : (c : Bool) → (y == x) ≡ c → (c || is_among x xs) ≡ true → (is_among x xs ≡ true → is_among x (filter f xs) ≡ true)
      → is_among x (if f y then y ∷ filter f xs else filter f xs) ≡ true
  by_head true h g ih = here (f y) (subst (λ z. f z ≡ true) (sym (number_is y x h)) e) where
    here : (b : Bool) → b ≡ true → is_among x (if b then y ∷ filter f xs else filter f xs) ≡ true
    here true i = ap (λ c. c || is_among x (filter f xs)) h
    here false i = absurd cc
  by_head false h g ih = there (f y) (ih g) where
    there : (b : Bool) → is_among x (filter f xs) ≡ true → is_among x (if b then y ∷ filter f xs else filter f xs) ≡ true
    there true i = ap (λ c. c || is_among x (filter f xs)) h ∙ i
    there false i = i

-- a test that fails no longer did not before
was_not : (b c : Bool) → (b ≡ true → c ≡ true) → not c ≡ true → not b ≡ true
was_not b c f e = grind (arith, not_itself)

module _ (said : Said) (now : ℕ) (ws : List ℕ) (a : Agenda) (w : ℕ) where
  abbrev more : Agenda
  more = grown said now ws a

  fewer_members : (g : Group) (l : Option Level) → is_among w (members_of more g l) ≡ true → is_among w (members_of a g l) ≡ true
  fewer_members g l e = grind (arith, kept_among, was_not, failed_stays, filter_passes, among_filter)

  fewer_waits : (p : Place) → is_among w (waited_for more p) ≡ true → is_among w (waited_for a p) ≡ true
  fewer_waits p e = grind (arith, kept_among, was_not, said_stays, filter_passes, fewer_members, among_filter)

-- no place comes twice
abbrev are_apart : List Place → Bool
are_apart [] = true
are_apart (p ∷ ps) = not (list_any (same_place p) ps) && are_apart ps

kinds_apart : (k : Kind) → are_apart (places k) ≡ true
kinds_apart k = grind arith

-- whoever is waited for at the same place was waited for there
abbrev Shrinks : ℕ → List Open → List Open → Type 0
Shrinks w os ps = same_place (open_place os) (open_place ps) ≡ true → is_among w (waits_now ps) ≡ true → is_among w (waits_now os) ≡ true

open_among : (b : Agenda) (w : ℕ) (p : Place) (qs : List Place) → is_among w (waits_now (left_from b qs)) ≡ true → same_place p (open_place (left_from b qs)) ≡ true
    → list_any (same_place p) qs ≡ true
open_among b w p [] e f = absurd cc
open_among b w p (q ∷ qs) e f = at_group (waited_for b q) (open_among b w p qs) e f where
  at_group : (ws : List ℕ) → (is_among w (waits_now (left_from b qs)) ≡ true → same_place p (open_place (left_from b qs)) ≡ true → list_any (same_place p) qs ≡ true)
      → is_among w (waits_now (with_group q ws (left_from b qs))) ≡ true → same_place p (open_place (with_group q ws (left_from b qs))) ≡ true
      → (same_place p q || list_any (same_place p) qs) ≡ true
  at_group [] ih e f = or_right (same_place p q) (list_any (same_place p) qs) (ih e f)
  at_group (x ∷ ws) ih e f = or_left (same_place p q) (list_any (same_place p) qs) f

left_shrinks : (a b : Agenda) (w : ℕ) → ((p : Place) → waited_for a p ≡ [] → waited_for b p ≡ [])
    → ((p : Place) → is_among w (waited_for b p) ≡ true → is_among w (waited_for a p) ≡ true) → (ps : List Place) → are_apart ps ≡ true
    → Shrinks w (left_from a ps) (left_from b ps)
left_shrinks a b w closed fewer [] e = λ same i. i
left_shrinks a b w closed fewer (p ∷ ps) e = by_waits (waited_for a p) (waited_for b p) (closed p) (fewer p)
    (left_shrinks a b w closed fewer ps (and_parts (not (list_any (same_place p) ps)) (are_apart ps) e).1) where
      elsewhere : same_place p (open_place (left_from b ps)) ≡ true → is_among w (waits_now (left_from b ps)) ≡ true → ⊥
      elsewhere f g = not_itself (list_any (same_place p) ps) (open_among b w p ps g f) (and_parts (not (list_any (same_place p) ps)) (are_apart ps) e).0

      by_waits : (xs ys : List ℕ) → (xs ≡ [] → ys ≡ []) → (is_among w ys ≡ true → is_among w xs ≡ true) → Shrinks w (left_from a ps) (left_from b ps)
          → Shrinks w (with_group p xs (left_from a ps)) (with_group p ys (left_from b ps))
      by_waits [] [] f g ih = ih
      by_waits [] (y ∷ ys) f g ih = absurd (none (f refl)) where
        none : y ∷ ys ≡ [] → ⊥
        none e = cc
      by_waits (x ∷ xs) (y ∷ ys) f g ih = λ same i. g i
      by_waits (x ∷ xs) [] f g ih = λ same i. absurd (elsewhere same i)

-- ## the groups that open

module _ (w : ℕ) (o : Order) where
  abbrev nth : List OrderGroup → ℕ
  nth gs = count_by (λ (g : OrderGroup). same_order g.order o && is_among w g.members) gs

  abbrev anew : List Open → List Open → Bool
  anew os ps = is_owed o (open_order ps w) && not (is_owed o (open_order os w) && same_place (open_place os) (open_place ps))

  -- one more, if the writer is asked anew
  abbrev more_if : Bool → ℕ → ℕ
  more_if b n = if b then n + 1 else n

  no_group : (gs : List OrderGroup) → nth (gs ++ []) ≡ nth gs
  no_group gs = ap nth (append_none gs) where
    append_none : (xs : List OrderGroup) → xs ++ [] ≡ xs
    append_none [] = refl
    append_none (x ∷ xs) = ap (λ ys. x ∷ ys) (append_none xs)

  one_group : (gs : List OrderGroup) (x : Order) (ws : List ℕ) (b : Bool) → (same_order x o && is_among w ws) ≡ b
      → nth (gs ++ record { order = x; members = ws } ∷ []) ≡ more_if b (nth gs)
  one_group gs x ws b e = grind (arith, sum_by-append)

  new_group : (gs : List OrderGroup) (g : Group) (ws : List ℕ)
      → nth (gs ++ group_of_orders (order_of g) ws) ≡ more_if (is_owed o (order_if (is_orders g && is_among w ws) (order_of g)) && true) (nth gs)
  new_group gs (Orders x) ws = one_group gs x ws (is_owed o (order_if (is_among w ws) (Some x)) && true) (by_among (is_among w ws) (same_order x o)) where
    by_among : (b c : Bool) → (same_order x o && b) ≡ (is_owed o (order_if b (Some x)) && true)
    by_among true c = refl
    by_among false c = and-false (same_order x o)
  new_group gs _ ws = no_group gs

  -- at the same place nobody is asked anew
  same_owed : (x p : Open) (xs ps : List Open) → same_place x.place p.place ≡ true → Shrinks w (x ∷ xs) (p ∷ ps) → is_owed o (open_order (p ∷ ps) w) ≡ true
      → is_owed o (open_order (x ∷ xs) w) ≡ true
  same_owed x p xs ps e h f =
      let group = same_group x.place.group p.place.group (and_parts (group_code x.place.group == group_code p.place.group) _ e).0 in
      by_among p.place.group (is_among w p.waits) refl f group where
        by_among : (g : Group) (b : Bool) → is_among w p.waits ≡ b → is_owed o (order_if (is_orders g && b) (order_of g)) ≡ true → x.place.group ≡ g
            → is_owed o (order_if (is_orders x.place.group && is_among w x.waits) (order_of x.place.group)) ≡ true
        by_among g true i f group =
            ap (λ c. is_owed o (order_if (is_orders x.place.group && c) (order_of x.place.group))) (h e i)
            ∙ ap (λ y. is_owed o (order_if (is_orders y && true) (order_of y))) group ∙ f
        by_among (Orders y) false i f group = absurd cc
        by_among PreCommit false i f group = absurd cc
        by_among Flush false i f group = absurd cc
        by_among Hold false i f group = absurd cc
        by_among Cut false i f group = absurd cc
        by_among Commit false i f group = absurd cc
        by_among Release false i f group = absurd cc
        by_among PostCommit false i f group = absurd cc

  count_opens : (os ps : List Open) (gs : List OrderGroup) → Shrinks w os ps → nth (gs ++ opens os ps) ≡ more_if (anew os ps) (nth gs)
  count_opens os [] gs h = no_group gs
  count_opens [] (p ∷ ps) gs h = new_group gs p.place.group p.waits
  count_opens (x ∷ xs) (p ∷ ps) gs h = by_same (same_place x.place p.place) refl where
    at_same : same_place x.place p.place ≡ true → opens (x ∷ xs) (p ∷ ps) ≡ []
    at_same e = rw e refl

    at_other : same_place x.place p.place ≡ false → opens (x ∷ xs) (p ∷ ps) ≡ group_of_orders (order_of p.place.group) p.waits
    at_other e = rw e refl

    not_anew : (a b : Bool) → (a ≡ true → b ≡ true) → (a && not (b && true)) ≡ false
    not_anew true b f = ap (λ c. not (c && true)) (f refl)
    not_anew false b f = refl

    all_anew : (a b : Bool) → (a && true) ≡ (a && not (b && false))
    all_anew true true = refl
    all_anew true false = refl
    all_anew false b = refl

    by_same : (c : Bool) → same_place x.place p.place ≡ c → nth (gs ++ opens (x ∷ xs) (p ∷ ps)) ≡ more_if (anew (x ∷ xs) (p ∷ ps)) (nth gs)
    by_same true e =
        ap (λ ys. nth (gs ++ ys)) (at_same e) ∙ no_group gs
        ∙ ap (λ c. more_if c (nth gs))
        (sym (ap (λ c. is_owed o (open_order (p ∷ ps) w) && not (is_owed o (open_order (x ∷ xs) w) && c)) e
        ∙ not_anew (is_owed o (open_order (p ∷ ps) w)) (is_owed o (open_order (x ∷ xs) w)) (same_owed x p xs ps e h)))
    by_same false e =
        ap (λ ys. nth (gs ++ ys)) (at_other e) ∙ new_group gs p.place.group p.waits
        ∙ ap (λ c. more_if c (nth gs))
        (all_anew (is_owed o (open_order (p ∷ ps) w)) (is_owed o (open_order (x ∷ xs) w))
        ∙ ap (λ c. is_owed o (open_order (p ∷ ps) w) && not (is_owed o (open_order (x ∷ xs) w) && c)) (sym e))

  -- ## courses

  abbrev Asks : Course → Course → Type 0
  Asks c d = nth d.opened ≡ more_if (anew (left c.agenda) (left d.agenda)) (nth c.opened)

  asks_posted : (c x : Course) → x.opened ≡ c.opened → Shrinks w (left c.agenda) (left x.agenda) → Asks c (posted c x)
  unfolding posted
  asks_posted c x e h = ap (λ gs. nth (gs ++ opens (left c.agenda) (left x.agenda))) e ∙ count_opens (left c.agenda) (left x.agenda) c.opened h

  -- an agenda that stands as it did
  asks_still : (c d : Course) → d.agenda ≡ c.agenda → d.opened ≡ c.opened → Asks c d
  asks_still c d e f = grind (arith, and_from, same_number)

  -- no agenda runs
  asks_none : (c d : Course) → d.agenda ≡ None → d.opened ≡ c.opened → Asks c d
  asks_none c d e f = ap nth f ∙ ap (λ b. more_if b (nth c.opened)) (sym (ap (λ x. anew (left c.agenda) (left x)) e))

  shrinks_settled : (done : Bool) (a x : Agenda) (r : SetOutcome) (b : Option Agenda) (p : SetOutcome) → Settles done x r b p → Shrinks w (groups_left a) (groups_left x)
      → Shrinks w (groups_left a) (left b)
  shrinks_settled done a x r b p e h = grind arith

  shrinks_grows : (a : Option Agenda) (r : SetOutcome) (b : Option Agenda) (p : SetOutcome) (news : List Deed) → Grows a r b p news → Shrinks w (left a) (left b)
  shrinks_grows None r b p news h = subst (λ y. Shrinks w [] (left y)) (sym h.0) (λ same i. i)
  shrinks_grows (Some a) r b p news (inl h) = subst (λ y. Shrinks w (groups_left a) (left y)) (sym h.agenda) (λ same i. absurd cc)
  shrinks_grows (Some a) r b p news (inr (inl h)) = shrinks_settled h.done a a r b p h.settles (λ same i. i)
  shrinks_grows (Some a) r b p news (inr (inr h)) =
      shrinks_settled (is_done (groups_left (all_say h.said h.now h.ws a))) a (all_say h.said h.now h.ws a) r b p h.settles
      (left_shrinks a (all_say h.said h.now h.ws a) w (closed_stays h.said h.now h.ws a) (fewer_waits h.said h.now h.ws a w) (places a.kind) (kinds_apart a.kind))

  -- what calls leave of the groups that have opened
  opened_settled : (c : Course) → (settled c).opened ≡ c.opened
  unfolding settled
  opened_settled c = grind arith

  opened_failed : (why : VssResult) (c : Course) → (course_failed why c).opened ≡ c.opened
  unfolding course_failed
  opened_failed why c = refl

  opened_told : (x : Order) (said : Said) (now : ℕ) (ws : List ℕ) (c : Course) → (told x said now ws c).opened ≡ c.opened
  unfolding told
  opened_told x said now ws c = refl

  opened_worked : (now : ℕ) (c : Course) → (worked now c).opened ≡ c.opened
  unfolding worked
  opened_worked now c = refl

  opened_answered : (x : Option Order) (u : ℕ) (said : Said) (now : ℕ) (c : Course) → (answered_to x u said now c).opened ≡ c.opened
  opened_answered x u said now c = grind (arith, opened_failed, opened_told, opened_settled)

  opened_stepped : (ok : Bool) (now : ℕ) (c : Course) → (course_stepped_as ok now c).opened ≡ c.opened
  opened_stepped ok now c = grind (arith, opened_settled, opened_worked, opened_failed)

  opened_lost : (x : Option Order) (now : ℕ) (c : Course) → (lost_to x now c).opened ≡ c.opened
  opened_lost x now c = grind (arith, opened_told)

  opened_treated : (l : Option RunningLimit) (now : ℕ) (c : Course) → (treated l now c).opened ≡ c.opened
  opened_treated l now c = grind (arith, opened_failed, opened_lost, opened_settled)

  posted_agenda : (c x : Course) → (posted c x).agenda ≡ x.agenda
  unfolding posted
  posted_agenda c x = refl

  asks_grown : (c x : Course) (news : List Deed) → x.opened ≡ c.opened → Grows c.agenda c.outcome (posted c x).agenda (posted c x).outcome news → Asks c (posted c x)
  asks_grown c x news e h = asks_posted c x e (subst (λ y. Shrinks w (left c.agenda) (left y)) (posted_agenda c x) (shrinks_grows c.agenda c.outcome (posted c x).agenda (posted c x).outcome news h))

  asks_answered : (u : ℕ) (said : Said) (now : ℕ) (c : Course) → is_some (open_order (left c.agenda) u) ≡ true → Asks c (course_answered u said now c)
  asks_answered u said now c e = by_order (open_order (left c.agenda) u) refl e where
    by_order : (x : Option Order) → open_order (left c.agenda) u ≡ x → is_some x ≡ true → Asks c (course_answered u said now c)
    by_order None f e = absurd cc
    by_order (Some x) f e = asks_grown c (answered_to (open_order (left c.agenda) u) u said now c) _ (opened_answered (open_order (left c.agenda) u) u said now c) (grows_answered u x said now c f)

  asks_stepped : (ok : Bool) (now : ℕ) (c : Course) → is_working (left c.agenda) ≡ true → Asks c (course_stepped ok now c)
  asks_stepped ok now c e = asks_grown c (course_stepped_as ok now c) _ (opened_stepped ok now c) (grows_stepped ok now c e)

  asks_timed : (now : ℕ) (c : Course) → Asks c (course_timed now c)
  asks_timed now c = asks_grown c (treated (spent_of now (limits_now c)) now c) _ (opened_treated (spent_of now (limits_now c)) now c) (grows_timed now c)

  -- where no agenda runs, one begins
  count_first : (ps : List Open) (gs : List OrderGroup) → nth (gs ++ opens [] ps) ≡ more_if (anew [] ps) (nth gs)
  count_first ps gs = grind (arith, no_group, new_group)

  asks_begun : (k : Kind) (ms : List Member) (vs : List ℕ) (now : ℕ) (b c : Course) → b.agenda ≡ None → c.agenda ≡ None → c.opened ≡ b.opened → Asks b (begun k ms vs now c)
  unfolding begun posted
  asks_begun k ms vs now b c e f g = grind (arith, opened_settled, count_first)

-- ## every act

module _ (s : Plan) (w : ℕ) (o : Order) (st : State) where
  abbrev To : Course → Type 0
  To d = Asks w o st.course d

  begins : (k : Kind) (ms : List Member) (vs : List ℕ) (c : Course) → runs st ≡ false → c.agenda ≡ st.course.agenda → c.opened ≡ st.course.opened
      → To (begun k ms vs st.clock c)
  begins k ms vs c e f g = let none = none_runs st.course.agenda e in asks_begun w o k ms vs st.clock st.course c none (f ∙ none) g

  abbrev Called : CourseCall → Course → Type 0
  Called call c = To (called s st call c)

  to_called : (call : CourseCall) (c : Course) → IsDue st c call → Called call c
  unfolding released
  to_called (Answers u said) c i = subst (Called (Answers u said)) (sym i.1) (asks_answered w o u said st.clock st.course i.0)
  to_called (Steps ok) c i = subst (Called (Steps ok)) (sym i.1) (asks_stepped w o ok st.clock st.course i.0)
  to_called (Times now) c i = subst (Called (Times now)) (sym i) (asks_timed w o now st.course)
  to_called Gathers c i = subst (Called Gathers) (sym i.course)
      (begins kind.Gather _ [] (record st.course { rows = map row_gathered st.course.rows }) i.goes.quiet refl refl)
  to_called (Prepares q) c i = subst (Called (Prepares q)) (sym i.1) (begins kind.Prepare _ [] (record st.course { members = _ }) i.0.quiet refl refl)
  to_called Snapshots c i = subst (Called Snapshots) (sym i.course) (begins kind.Snapshot st.course.members _ st.course i.goes.quiet refl refl)
  to_called Completes c i = subst (Called Completes) (sym i.course) (begins kind.Complete _ [] st.course i.goes.quiet refl refl)
  to_called (Disables u) c i = subst (Called (Disables u)) (sym i.course)
      (asks_still w o st.course (record st.course { disabled = st.course.disabled ++ u ∷ [] }) refl refl)
  to_called (Fails why) c i = subst (Called (Fails why)) (sym i.1.1)
      (asks_none w o st.course (course_failed why st.course) (failed_agenda why st.course) (opened_failed w o why st.course))
  to_called Releases c (inl e) = asks_none w o st.course (released c) refl (ap (λ (d : Course). d.opened) e)
  to_called Releases c (inr e) = asks_none w o st.course (released c) refl (ap (λ (d : Course). d.opened) e ∙ opened_failed w o AsyncCancelled st.course)

  to_apply : (e : Event) (m : Mark) (c : Change) (x : State) → Comes s e m st x c → To x.course → To (apply x c).course
  to_apply e m (CourseIs c) x i h = subst To (sym i.is) (to_called i.call x.course i.due)
  to_apply e m _ x i h = h

  on_act : (act : Act) → To (after s st act).course
  on_act act = by_changes (λ x. To x.course) s st act (to_apply act.event act.mark) (asks_still w o st.course st.course refl refl)

asked_is : (s : Plan) (w : ℕ) (o : Order) (st : State) (n : ℕ) (acts : List Act) → n ≡ sent st.course w o → asked_from s st w o n acts ≡ sent (fold (after s) st acts).course w o
asked_is s w o st n [] e = e
asked_is s w o st n (act ∷ acts) e =
    let b = is_asked_anew st (after s st act) w o in
    asked_is s w o (after s st act) (if b then n + 1 else n) acts (ap (λ k. if b then k + 1 else k) e ∙ sym (on_act s w o st act))

-- ## the script

written_is : (rows : List Scripted) (o : Order) (n : ℕ) → scripted_answer rows o n ≡ written_in rows o n
written_is [] o n = refl
written_is (r ∷ rows) o n = by_test (same_order r.order o && (r.nth == n)) (written_is rows o n) where
  by_test : (b : Bool) → scripted_answer rows o n ≡ written_in rows o n
      → answer_in (if b then Some r else find (is_row_for o n) rows) ≡ (if b then r.answer else written_in rows o n)
  by_test true ih = refl
  by_test false ih = ih

module _ (s : Plan) (before : List Move) (m : Move) (w : ℕ) (e : m.actor ≡ Writer w) where
  abbrev st : State
  st = state s (acts s before)

  own_event : acts s (before ++ m ∷ []) ≡ acts s before ++ acts_if (script_event s st w (order_of_writer st w)) m.mark
  own_event = grind (arith, acts-append, state-run)

  own_script : (o : Order) → order_of_writer st w ≡ Some o
      → acts s (before ++ m ∷ []) ≡ acts s before ++ acts_if (answer_event w (written_in (script_of s w) o (times_asked s w o (acts s before)))) m.mark
  own_script o f = grind (arith, own_event, asked_is, written_is)

  own_silence : order_of_writer st w ≡ None → acts s (before ++ m ∷ []) ≡ acts s before
  own_silence f = own_event ∙ ap (λ x. acts s before ++ acts_if (script_event s st w x) m.mark) f ∙ append_nothing (acts s before)

pub answers_by_script : (s : Plan) (trail : List Move) → AnswersByScript s trail
answers_by_script s trail = grind (arith, own_script, own_silence)
