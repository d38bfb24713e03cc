-- A running agenda waits for somebody: for the provider's step, or for a writer's answer; and where it waits for an answer
-- a limit runs, which an idle stretch spends.
use Rattle.std.proofs.Common.{◌≡◌, ℕ, ◌+◌, List, [], ◌∷◌, Option, Some, None, Bool, true, false, arith}
use Rattle.std.specs.Prelude.{◌⊎◌, is_some}
use Rattle.vss_model.proofs.Terms.{nat_tests, common_steps, VssResult, Said, Kind, Member, Place, Agenda, Open, left_from, groups_left, is_among, is_asking}
use Rattle.vss_model.proofs.Terms.{is_working, next_member, is_done, spent_of, Course, posted, failed as course_failed, settled, begun, decided}
use Rattle.vss_model.proofs.Terms.{stepped as course_stepped, limits_now, treated, released, is_spent, ticks_until, Plan, State, start, left_now, runs, Act}
use Rattle.vss_model.proofs.Terms.{state, order_of_writer, idle_now, RunningLimit as Running}
use Rattle.vss_model.proofs.Changes.{CourseCall, called}
use Rattle.vss_model.proofs.Rules.{of_calls}

-- ## an agenda that runs is not done

abbrev IsOpen : Option Agenda → Type 0
IsOpen None = Unit {0}
IsOpen (Some a) = is_done (groups_left a) ≡ false

open_failed : (why : VssResult) (c : Course) → IsOpen (course_failed why c).agenda
unfolding course_failed
open_failed why c = tt

open_posted : (before c : Course) → IsOpen c.agenda → IsOpen (posted before c).agenda
unfolding posted
open_posted before c h = h

open_settled : (c : Course) → IsOpen (settled c).agenda
unfolding settled
open_settled c = grind (arith, common_steps, nat_tests)

open_decided : (fails : Bool) (said : Said) (c : Course) → IsOpen (decided fails said c).agenda
open_decided fails said c = grind (arith, open_failed, open_settled)

open_stepped : (ok : Bool) (now : ℕ) (c : Course) → IsOpen (course_stepped ok now c).agenda
open_stepped ok now c = grind (arith, common_steps, nat_tests, open_posted, open_settled, open_failed)

open_treated : (l : Option Running) (now : ℕ) (c : Course) → IsOpen c.agenda → IsOpen (treated l now c).agenda
open_treated l now c h = grind (arith, common_steps, open_failed, open_settled)

open_begun : (k : Kind) (ms : List Member) (vs : List ℕ) (now : ℕ) (c : Course) → IsOpen (begun k ms vs now c).agenda
unfolding begun
open_begun k ms vs now c = open_posted c _ (open_settled (record c { agenda = Some (record { kind = k; members = ms; volumes = vs; begun = now; log = [] }) }))

-- ## every act

open_called : (s : Plan) (st : State) (call : CourseCall) (c : Course) → IsOpen c.agenda → IsOpen (called s st call c).agenda
unfolding released
open_called s st call c h = grind (arith, common_steps, open_stepped, open_posted, open_treated, open_begun, open_failed, nat_tests, open_decided)

stays_open : (s : Plan) (acts : List Act) → IsOpen (state s acts).course.agenda
stays_open s acts = of_calls (λ c. IsOpen c.agenda) s (λ st call c i h. open_called s st call c h) (start s) acts tt

-- ## who can go on

-- a group that is left waits for somebody
abbrev pub WaitsWell : List Open → Type 0
WaitsWell [] = Unit {0}
WaitsWell (o ∷ os) = is_among (next_member (o ∷ os)) o.waits ≡ true

pub waits-left_from : (a : Agenda) (ps : List Place) → WaitsWell (left_from a ps)
waits-left_from a [] = tt
waits-left_from a (p ∷ ps) = grind (arith, waits-left_from a ps)

pub agenda_goes_on : (s : Plan) (acts : List Act) → runs (state s acts) ≡ true
    → (is_working (left_now (state s acts)) ≡ true) ⊎ (is_some (order_of_writer (state s acts) (next_member (left_now (state s acts)))) ≡ true)
agenda_goes_on s acts e = grind (arith, common_steps, nat_tests, stays_open, waits-left_from)

-- ## an idle stretch spends a limit

spends_one : (now since ticks : ℕ) → is_spent (now + ticks_until now since ticks) since ticks ≡ true
spends_one now since ticks = grind arith

pub idle_spends : (s : Plan) (acts : List Act) → is_asking (left_now (state s acts)) ≡ true → is_some (spent_of ((state s acts).clock + idle_now (state s acts)) (limits_now (state s acts).course)) ≡ true
idle_spends s acts e = grind (arith, common_steps, nat_tests, spends_one)

pub working_or_asking : (s : Plan) (acts : List Act) → runs (state s acts) ≡ true → (is_working (left_now (state s acts)) ≡ true) ⊎ (is_asking (left_now (state s acts)) ≡ true)
working_or_asking s acts e = grind (arith, common_steps, nat_tests, stays_open)
