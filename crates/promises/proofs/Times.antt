-- The times in a snapshot's log rise, and what is held and frozen is as the deeds since the `snapshot` line tell it.
use Rattle.std.proofs.Common.{◌≡◌, ◌∙◌, ℕ, ◌≤◌, List, [], ◌∷◌, ◌++◌, Option, Some, None, refl, Bool, true, false, ap, subst, map, find, fold, arith, ◌==◌}
use Rattle.std.proofs.lemmas.Bool.{and_from, and_parts}
use Rattle.std.specs.Prelude.{◌&&◌, ◌||◌, if◌then◌else◌, is_some, not}
use Rattle.set_agenda.specs.Agenda.{Agenda, Entry, plain, has_said, is_snapshot, has_frozen, has_thawed, is_held as holds, is_frozen as freezes}
use Rattle.vss_model.proofs.Orderly.{true_not_false}
use Rattle.vss_model.proofs.Rules.{Running}
use Rattle.promises.proofs.Accepted.{same_stage}
use Rattle.promises.proofs.Along.{along}
use Rattle.promises.proofs.Moves.{clock_after}
use Rattle.promises.proofs.Orders.{Good, said_deed}
use Rattle.promises.proofs.Limits.{held_since_first, passed_since, is_due_at, is_due_in}
use Rattle.promises.proofs.Progress.{StandsAt, stands_all}
use Rattle.promises.proofs.Speaks.{deed_at, deed_in}
use Rattle.promises.proofs.Stages.{Below, below_more}
use Rattle.promises.proofs.Members.{both_ways}
use Rattle.promises.proofs.Whole.{good_along}
use Rattle.promises.proofs.Words.{list_any, Order, hold_limit, Group, Kind, Snapshot, Open, groups_left, Course, Plan, State, start, Act, enabled, after, state}
use Rattle.promises.proofs.Words.{has_passed, holds_volumes, is_hold_step, held_too_long, frozen_too_long, unanswered_too_long, is_late_at, is_late_in, Deed}
use Rattle.promises.proofs.Words.{Spoke, Made, deeds_lost, deeds_if, deeds, begins_snapshot, Rising, way_after, way_from, way, Context, Freeze, Thaw, Said}
use Rattle.promises.proofs.Words.{Hold, Release, Stage, Done, Session, stage_after, is_stage, WaitsFor, IsAgendaOf, orderly, BySnapshot, is_step, progress}
use Rattle.promises.proofs.Words.{StandsStill, takes_snapshot, is_made, agreed, heard, made, kind_is}

-- ## The times in a snapshot's log rise. So where more than a limit has gone by since some Hold step, it has since the first.

abbrev time_of : Deed → ℕ
time_of (Spoke order w said now) = now
time_of (Made g v now) = now

-- ## what one act tells

abbrev AllAt : ℕ → List Deed → Type 0
AllAt now [] = Unit {0}
AllAt now (d ∷ ds) = (time_of d ≡ now) × AllAt now ds

at_both : (now : ℕ) (xs ys : List Deed) → AllAt now xs → AllAt now ys → AllAt now (xs ++ ys)
at_both now [] ys h i = i
at_both now (x ∷ xs) ys h i = (h.0, at_both now xs ys h.1 i)

at_lost : (now : ℕ) (o : Option Order) (ws : List ℕ) → AllAt now (deeds_lost now o ws)
at_lost now None ws = tt
at_lost now (Some order) [] = tt
at_lost now (Some order) (w ∷ ws) = (refl, at_lost now (Some order) ws)

at_deeds : (b : Bool) (s : Plan) (st : State) (act : Act) → AllAt (after s st act).clock (deeds_if b s st act)
at_deeds b s st act = grind (arith, at_both, at_lost)

-- ## every list of acts

pub record InTime (now : ℕ) (ds : List Deed) : Type 0 where
  pub rising : Rising (map time_of ds)
  pub below : Below now (map time_of ds)

same_below : (k : ℕ) (ds : List Deed) → AllAt k ds → Below k (map time_of ds)
same_below k [] h = tt
same_below k (d ∷ ds) h = grind (arith, same_below k ds h.1)

same_rising : (k : ℕ) (ds : List Deed) → AllAt k ds → Rising (map time_of ds)
same_rising k [] h = tt
same_rising k (d ∷ []) h = tt
same_rising k (d ∷ e ∷ ds) h = grind (arith, same_rising k (e ∷ ds) h.1)

rising_with : (k : ℕ) (xs ys : List Deed) → Rising (map time_of xs) → Below k (map time_of xs) → AllAt k ys → Rising (map time_of (xs ++ ys))
rising_with k [] ys r b h = same_rising k ys h
rising_with k (x ∷ []) [] r b h = tt
rising_with k (x ∷ []) (y ∷ ys) r b h = (not_more (time_of x) (time_of y) k b.0 h.0, same_rising k (y ∷ ys) h) where
  not_more : (a b k : ℕ) → a ≤ k → b ≡ k → a ≤ b
  not_more a b k e f = omega arith
rising_with k (x ∷ z ∷ xs) ys r b h = (r.0, rising_with k (z ∷ xs) ys r.1 b.1 h)

below_with : (k : ℕ) (xs ys : List Deed) → Below k (map time_of xs) → AllAt k ys → Below k (map time_of (xs ++ ys))
below_with k [] ys b h = same_below k ys h
below_with k (x ∷ xs) ys b h = (b.0, below_with k xs ys b.1 h)

in_time_after : (s : Plan) (st : State) (so_far : List Deed) (act : Act) → InTime st.clock so_far → InTime (after s st act).clock (way_after s st so_far act)
in_time_after s st so_far act h = by_begin (begins_snapshot s st act) where
  by_begin : (b : Bool) → InTime (after s st act).clock (if b then [] else so_far ++ deeds s st act)
  by_begin true = record { rising = tt; below = tt }
  by_begin false =
      let now = (after s st act).clock in
      let under = below_more st.clock now (map time_of so_far) (grind (arith, clock_after)) h.below in
      let new = at_deeds (enabled s st act.event) s st act in
      record { rising = rising_with now so_far (deeds s st act) h.rising under new; below = below_with now so_far (deeds s st act) under new }

in_time_from : (s : Plan) (st : State) (so_far : List Deed) (acts : List Act) → InTime st.clock so_far → InTime (fold (after s) st acts).clock (way_from s st so_far acts)
in_time_from s st so_far [] h = h
in_time_from s st so_far (act ∷ acts) h = in_time_from s (after s st act) (way_after s st so_far act) acts (in_time_after s st so_far act h)

pub way_in_time : (s : Plan) (acts : List Act) → InTime (state s acts).clock (way s acts)
way_in_time s acts = in_time_from s (start s) [] acts (record { rising = tt; below = tt })

-- ## the first Hold step

times_are : (log : List Entry) → map time_of (map deed_in log) ≡ map (λ (e : Entry). e.time) log
times_are [] = refl
times_are (e ∷ log) = ap (λ n. n ∷ map time_of (map deed_in log)) (grind arith) ∙ ap (λ ns. e.time ∷ ns) (times_are log)

abbrev pub times : List Entry → List ℕ
times log = map (λ (e : Entry). e.time) log

-- what has gone by since a later entry has since the first
passed_before : (limit now t : ℕ) (test : Entry → Bool) (log : List Entry) → Rising (t ∷ times log)
    → list_any (λ (e : Entry). test e && has_passed limit e.time now) log ≡ true → has_passed limit t now ≡ true
passed_before limit now t test [] r e = absurd cc
passed_before limit now t test (x ∷ log) r e = grind (arith, passed_before limit now x.time test log r.1)

first_passed : (now : ℕ) (log : List Entry) → Rising (times log) → list_any (λ (e : Entry). is_hold_step e.place.group && has_passed hold_limit e.time now) log ≡ true
    → passed_since now (find (λ (e : Entry). is_hold_step e.place.group) log) ≡ true
first_passed now [] r e = absurd cc
first_passed now (x ∷ log) r e = by_head (is_hold_step x.place.group) (has_passed hold_limit x.time now) refl e (first_passed now log (rest x.time (times log) r))
  where
    rest : (n : ℕ) (ns : List ℕ) → Rising (n ∷ ns) → Rising ns
    rest n [] h = tt
    rest n (m ∷ ns) h = h.1

    by_head : (b c : Bool) → has_passed hold_limit x.time now ≡ c → ((b && c) || list_any (λ (e : Entry). is_hold_step e.place.group && has_passed hold_limit e.time now) log) ≡ true
        → (list_any (λ (e : Entry). is_hold_step e.place.group && has_passed hold_limit e.time now) log ≡ true → passed_since now (find (λ (e : Entry). is_hold_step e.place.group) log) ≡ true)
        → passed_since now (if b then Some x else find (λ (e : Entry). is_hold_step e.place.group) log) ≡ true
    by_head true true f g ih = f
    by_head true false f g ih = passed_before hold_limit now x.time (λ (e : Entry). is_hold_step e.place.group) log r g
    by_head false c f g ih = ih g

-- ## late is due

-- more than the limit has gone by since some Hold step, and so since the first
pub held_is_first : (now : ℕ) (a : Agenda) (o : Open) (os : List Open) → groups_left a ≡ o ∷ os → (a.kind ≡ Snapshot → Rising (times a.log)) → held_too_long now o.place.group a ≡ true
    → (holds_volumes o.place.group ≡ true) × (held_since_first now a ≡ true)
held_is_first now a o os e r h =
    let parts = and_parts (holds_volumes o.place.group) _ h in (parts.0, first_passed now a.log (r (grind (arith, true_not_false, parts.0))) parts.1)

due_at : (now : ℕ) (c : Course) (a : Agenda) (os : List Open) → groups_left a ≡ os → (a.kind ≡ Snapshot → Rising (times a.log)) → is_late_at now c a os ≡ true → is_due_at now c a os ≡ true
due_at now c a [] e r h = absurd cc
due_at now c a (o ∷ os) e r h =
    by_parts (held_too_long now o.place.group a) (holds_volumes o.place.group && held_since_first now a) (frozen_too_long now o.place.group c a)
    (unanswered_too_long now o.place a)
    (λ g. let parts = held_is_first now a o os e r g in and_from (holds_volumes o.place.group) (held_since_first now a) parts.0 parts.1) h where
      by_parts : (x y f u : Bool) → (x ≡ true → y ≡ true) → (x || f || u) ≡ true → (y || f || u) ≡ true
      by_parts x y f u g i = grind arith

log_in_time : (s : Plan) (ds : List Deed) (a : Option Agenda) → Rising (map time_of ds)
    → Running (λ (x : Agenda). x.kind ≡ Snapshot → (map deed_in x.log ≡ ds) × Good s x) a → Running (λ (x : Agenda). x.kind ≡ Snapshot → Rising (times x.log)) a
log_in_time s ds a r h = grind (arith, times_are)

-- in every state
pub logs_rise : (s : Plan) (acts : List Act) → Running (λ (x : Agenda). x.kind ≡ Snapshot → Rising (times x.log)) (state s acts).course.agenda
logs_rise s acts = log_in_time s (way s acts) (state s acts).course.agenda (way_in_time s acts).rising (along (Good s) (good_along s) s acts)

pub late_is_due : (s : Plan) (acts : List Act) (now : ℕ) → is_late_in now (state s acts).course (state s acts).course.agenda ≡ true
    → is_due_in now (state s acts).course (state s acts).course.agenda ≡ true
late_is_due s acts now h = grind (arith, due_at, logs_rise s acts)

-- ## What is held and frozen, as the deeds since the `snapshot` line tell it: they are those of the log of the agenda that runs.

-- ## the agenda that runs is the one of `snapshot`

waits_for_done : (k : Kind) (c : Context) (t : Stage) → WaitsFor k c t → is_snapshot k ≡ is_stage (stage_after c t) Done
waits_for_done k c t h = grind arith

kind_told : (s : Plan) (so_far : List Act) (a : Agenda) (o : Option Session) → (state s so_far).course.agenda ≡ Some a → (state s so_far).session ≡ o → IsAgendaOf (Some a) o
    → is_snapshot a.kind ≡ is_step (progress s so_far).step BySnapshot
kind_told s so_far a None e f h = absurd h
kind_told s so_far a (Some q) e f h =
    let at : StandsAt q true (progress s so_far) = subst (λ b. StandsAt q b (progress s so_far)) (ap is_some e) (stands_all s so_far q f) in
    waits_for_done a.kind q.context q.stage h ∙ ap (λ x. is_stage x Done) at.stage ∙ same_stage (progress s so_far).step BySnapshot

-- ## the log

frozen_told : (log : List Entry) (w : ℕ) → has_frozen log w ≡ agreed Freeze w (map deed_in log)
frozen_told [] w = refl
frozen_told (e ∷ log) w = grind (arith, frozen_told log w)

thawed_told : (log : List Entry) (w : ℕ) → has_thawed log w ≡ heard Thaw w (map deed_in log)
thawed_told [] w = refl
thawed_told (e ∷ log) w = grind (arith, thawed_told log w)

step_told : (s : Plan) (a : Agenda) (g : Group) (v : ℕ) → ((said : Said) (now u : ℕ) → (u == v) ≡ true → is_made g (Some v) (deed_at g u said now) ≡ true) → Good s a
    → has_said a.log (plain g) v ≡ made g (Some v) (map deed_in a.log)
step_told s a g v own h = both_ways (has_said a.log (plain g) v) (made g (Some v) (map deed_in a.log)) (said_deed a.log (plain g) v (is_made g (Some v)) own) (λ e. h.logged g (Some v) e)

-- ## every state

frozen_in : (s : Plan) (ds : List Deed) (w : ℕ) (a : Agenda) (b : Bool) → is_snapshot a.kind ≡ b → (a.kind ≡ Snapshot → (map deed_in a.log ≡ ds) × Good s a)
    → freezes (Some a) w ≡ (b && (agreed Freeze w ds && not (heard Thaw w ds)))
frozen_in s ds w a b e h = grind (arith, frozen_told, thawed_told, kind_is)

pub stands_still : (s : Plan) (so_far : List Act) → StandsStill s so_far
stands_still s so_far = record {
  held = λ v. by_agenda (λ a. holds a v) (made Hold (Some v) ds && not (made Release (Some v) ds)) refl (λ a e h k. grind (arith, kind_is, step_told));
  frozen = λ w. by_agenda (λ a. freezes a w) (agreed Freeze w ds && not (heard Thaw w ds)) refl (λ a e h k. frozen_in s ds w a (is_step (progress s so_far).step BySnapshot) k h);
} where
  ds : List Deed
  ds = way s so_far

  step : Bool
  step = is_step (progress s so_far).step BySnapshot

  by_agenda : (test : Option Agenda → Bool) (c : Bool) → test None ≡ false
      → ((a : Agenda) → (state s so_far).course.agenda ≡ Some a → (a.kind ≡ Snapshot → (map deed_in a.log ≡ ds) × Good s a) → is_snapshot a.kind ≡ step → test (Some a) ≡ (step && c))
      → test (state s so_far).course.agenda ≡ (takes_snapshot s so_far && c)
  by_agenda test c none some = at (state s so_far).course.agenda refl (along (Good s) (good_along s) s so_far) (orderly s so_far).agenda where
    at : (x : Option Agenda) → (state s so_far).course.agenda ≡ x → Running (λ (a : Agenda). a.kind ≡ Snapshot → (map deed_in a.log ≡ ds) × Good s a) x
        → IsAgendaOf (state s so_far).course.agenda (state s so_far).session → test (state s so_far).course.agenda ≡ (takes_snapshot s so_far && c)
    at x e h own = grind (arith, kind_told)
