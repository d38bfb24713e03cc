-- The Cut step and a volume's Commit step do not fail, only a Commit step gives an image, and a device that fails a flush fails the set.
use Rattle.std.proofs.Common.{◌≡◌, ℕ, List, Option, Some, None, Bool, true, false, refl, ap, ◌∙◌, sym, subst, arith, [], ◌∷◌, length, fold, ◌==◌, find, map}
use Rattle.std.specs.Prelude.{◌&&◌, option_map}
use Rattle.vss_model.proofs.AtCut.{CutsNow}
use Rattle.vss_model.proofs.Changes.{Comes, after_is, is_end, by_ends, makes_cut, makes_image, by_changes}
use Rattle.vss_model.proofs.CourseCalls.{head_waits}
use Rattle.vss_model.proofs.HeldOfSet.{is_cut_made}
use Rattle.vss_model.proofs.OrderlyActs.{orderly}
use Rattle.vss_model.proofs.Rows.{running_found, row_running, row_settles, result-settled}
use Rattle.vss_model.proofs.Spoken.{waits_members, waits_unsaid}
use Rattle.vss_model.proofs.StateForm.{followed, cut_set, image_made, stepped, images_dropped, concluded}
use Rattle.vss_model.proofs.Terms.{common_steps, nat_tests, list_any-append, eq-eqb, Mark, Group, Commit, Place, Open, Agenda, is_working, is_snapshot}
use Rattle.vss_model.proofs.Terms.{is_among, has_said, plain, places, left, groups_left, open_group, open_place, next_volume, next_member, members_of, settled}
use Rattle.vss_model.proofs.Terms.{posted, worked, Course, stepped as course_stepped, Plan, State, SetRow, in_progress, left_now, ending, runs, Act, after}
use Rattle.vss_model.proofs.Terms.{is_provider, is_cut_group, Change, apply, History, dropped, written, reverted, reverted_in_part, Ending, SetFails}
use Rattle.vss_model.proofs.Terms.{state, Writes, Makes, Reverts, RevertsPart, DropsSet, Drops, Evicts, SetOutcome, Running, Failed, VssResult}
use Rattle.vss_model.proofs.Terms.{UnexpectedProviderError, Fault, Flush, failed as course_failed, Provider, is_running, row_of, row_settled, IsOfSession}
use Rattle.vss_model.proofs.Terms.{has_failed, IsFailed, Session}
use Rattle.vss_model.proofs.Volumes.{FewerIn, fewer_in_same, fewer_in_over, fewer_in_map, fewer_in_change, fewer_in_gone, fewer_dropped, fewer_written}
use Rattle.vss_model.proofs.Volumes.{fewer_reverted, fewer_in_part, as_many_change}

-- ## The Cut step and a volume's Commit step do not fail: one cuts the set in progress, the other gives the volume its image. The
-- provider's other steps change nothing but the course.

-- ## tests

pub both : (a b : Bool) → (a && b) ≡ true → (a ≡ true) × (b ≡ true)
both a b e = grind arith

abbrev pub is_commit : Option Group → Bool
is_commit (Some Commit) = true
is_commit _ = false

pub commit_is : (g : Option Group) → is_commit g ≡ true → g ≡ Some Commit
commit_is g e = grind arith

pub commit_volume : (os : List Open) → is_commit (open_group os) ≡ true → next_volume os ≡ Some (next_member os)
commit_volume os e = grind arith

-- ## these steps do not fail

pub cut_step : (mark : Mark) (st : State) → is_cut_group (open_group (left_now st)) ≡ true → stepped mark st ≡ followed (runs st) (course_stepped true st.clock st.course) (cut_set (in_progress st) st)
unfolding stepped
cut_step mark st e = grind (arith, common_steps)

pub image_step : (mark : Mark) (st : State) → open_group (left_now st) ≡ Some Commit
    → stepped mark st ≡ followed (runs st) (course_stepped true st.clock st.course) (image_made (in_progress st) (next_volume (left_now st)) st)
unfolding stepped
image_step mark st e = grind (arith, common_steps)

pub working_at_commit : (os : List Open) → is_commit (open_group os) ≡ true → is_working os ≡ true
working_at_commit os e = grind arith

pub after_provider : (s : Plan) (st : State) (act : Act) → is_provider act.event ≡ true → is_working (left_now st) ≡ true → after s st act ≡ stepped act.mark st
after_provider s st act e w = grind (arith, common_steps, after_is)

-- the provider's step at the open Cut group
pub after_cut : (s : Plan) (st : State) (act : Act) → is_provider act.event ≡ true → is_cut_group (open_group (left_now st)) ≡ true
    → after s st act ≡ followed (runs st) (course_stepped true st.clock st.course) (cut_set (in_progress st) st)
after_cut s st act e f = after_provider s st act e (grind arith) ∙ cut_step act.mark st f

-- and at the open Commit group
pub after_commit : (s : Plan) (st : State) (act : Act) → is_provider act.event ≡ true → is_commit (open_group (left_now st)) ≡ true
    → after s st act ≡ followed (runs st) (course_stepped true st.clock st.course) (image_made (in_progress st) (next_volume (left_now st)) st)
after_commit s st act e f = after_provider s st act e (working_at_commit (left_now st) f) ∙ image_step act.mark st (commit_is (open_group (left_now st)) f)

-- ## the set that is cut

pub record HasSet (st : State) : Type 0 where
  pub set : SetRow
  pub is : in_progress st ≡ Some set

pub has_set : (st : State) → CutsNow st → HasSet st
has_set st c = grind (arith, common_steps)

-- what holds of the state with what the step makes and the course after it, and is kept where something ends, holds after the act
pub by_cut : (P : State → Type 0) (s : Plan) (st : State) (act : Act) (r : SetRow) → is_provider act.event ≡ true
    → is_cut_group (open_group (left_now st)) ≡ true → in_progress st ≡ Some r
    → ((c : Change) (x : State) → is_end c ≡ true → Comes s act.event act.mark st x c → P x → P (apply x c))
    → P (record (cut_set (Some r) st) { course = course_stepped true st.clock st.course }) → P (after s st act)
by_cut P s st act r e f g keeps h =
    let makes = makes_cut s act.event act.mark st r (grind arith) g e f in
    let c = course_stepped true st.clock st.course in
    subst P (sym (after_cut s st act e f ∙ ap (λ o. followed (runs st) c (cut_set o st)) g ∙ makes.is))
    (by_ends P s act.event act.mark st keeps (ending st.course.outcome c.outcome (runs st) c.agenda) c.outcome _ st makes.come.1.1 h)

pub by_image : (P : State → Type 0) (s : Plan) (st : State) (act : Act) (r : SetRow) → is_provider act.event ≡ true → is_commit (open_group (left_now st)) ≡ true
    → in_progress st ≡ Some r → ((c : Change) (x : State) → is_end c ≡ true → Comes s act.event act.mark st x c → P x → P (apply x c))
    → P (record (image_made (Some r) (Some (next_member (left_now st))) st) { course = course_stepped true st.clock st.course }) → P (after s st act)
by_image P s st act r e f g keeps h =
    let os = left_now st in
    let w = working_at_commit os f in
    let makes = makes_image s act.event act.mark st r (next_member os) w g e (commit_is (open_group os) f) (commit_volume os f) in
    let c = course_stepped true st.clock st.course in
    subst P (sym (after_commit s st act e f ∙ ap (λ o. followed (runs st) c (image_made o (next_volume os) st)) g
    ∙ ap (λ v. followed (runs st) c (image_made (Some r) v st)) (commit_volume os f) ∙ makes.is))
    (by_ends P s act.event act.mark st keeps (ending st.course.outcome c.outcome (runs st) c.agenda) c.outcome _ st makes.come.1.1 h)

-- ## where a Commit step is the next one

pub record IsAtCommit (a : Agenda) : Type 0 where
  pub snapshot : is_snapshot a.kind ≡ true
  pub cut : is_cut_made a.log ≡ true
  pub place : open_place (groups_left a) ≡ plain Commit
  pub among : is_among (next_member (groups_left a)) a.volumes ≡ true
  pub unsaid : has_said a.log (plain Commit) (next_member (groups_left a)) ≡ false

commit_cut : (a : Agenda) → is_commit (open_group (groups_left a)) ≡ true → is_cut_made a.log ≡ true
commit_cut a e = grind arith

commit_place : (a : Agenda) → is_commit (open_group (groups_left a)) ≡ true → open_place (groups_left a) ≡ plain Commit
commit_place a e = grind arith

pub at_commit : (a : Agenda) → is_commit (open_group (groups_left a)) ≡ true → IsAtCommit a
at_commit a e =
    let place = commit_place a e in
    let waited = head_waits a (places a.kind) (working_at_commit (groups_left a) e) in
    record {
      snapshot = grind arith;
      cut = commit_cut a e;
      place = place;
      among = subst (λ (p : Place). is_among (next_member (groups_left a)) (members_of a p.group p.level) ≡ true) place (waits_members a (places a.kind) (next_member (groups_left a)) waited);
      unsaid = subst (λ p. has_said a.log p (next_member (groups_left a)) ≡ false) place (waits_unsaid a (places a.kind) (next_member (groups_left a)) waited);
    }

-- ## what a step says

-- the provider has made the step of the open place
abbrev pub SaysStep : Place → ℕ → Option Agenda → Type 0
SaysStep p who None = Unit {0}
SaysStep p who (Some b) = has_said b.log p who ≡ true

says_settled : (p : Place) (who : ℕ) (c : Course) → SaysStep p who c.agenda → SaysStep p who (settled c).agenda
unfolding settled
says_settled p who c h = grind (arith, common_steps, nat_tests)

says_posted : (p : Place) (who : ℕ) (before c : Course) → SaysStep p who c.agenda → SaysStep p who (posted before c).agenda
unfolding posted
says_posted p who before c h = h

says_worked : (now : ℕ) (c : Course) (o : Option Agenda) → c.agenda ≡ o → SaysStep (open_place (left o)) (next_member (left o)) (worked now c).agenda
unfolding worked
says_worked now c o e = grind (arith, common_steps, list_any-append, eq-eqb)

pub says_stepped : (now : ℕ) (c : Course) → SaysStep (open_place (left c.agenda)) (next_member (left c.agenda)) (course_stepped true now c).agenda
says_stepped now c =
    let p = open_place (left c.agenda) in
    let v = next_member (left c.agenda) in says_posted p v c _ (says_settled p v (worked now c) (says_worked now c c.agenda refl))

-- ## Only a Commit step gives an image: after any other act each volume has no image of another set, and no more of them.

abbrev pub gives_image : Change → Bool
gives_image (Makes n v) = true
gives_image _ = false

pub fewer_apply : (c : Change) (x : State) → gives_image c ≡ false → FewerIn x.volumes (apply x c).volumes
fewer_apply (Writes v w) x e = fewer_in_change (written w) (fewer_written w) v x.volumes
fewer_apply (Makes n v) x e = absurd cc
fewer_apply (Reverts v n p) x e = fewer_in_change (reverted n p) (fewer_reverted n p) v x.volumes
fewer_apply (RevertsPart v blocks n p k) x e = fewer_in_change (reverted_in_part blocks n p k) (fewer_in_part blocks n p k) v x.volumes
fewer_apply (DropsSet n) x e = fewer_in_map (dropped n) (fewer_dropped n) x.volumes
fewer_apply (Drops n v) x e = fewer_in_change (dropped n) (fewer_dropped n) v x.volumes
fewer_apply (Evicts n group) x e = fewer_in_gone n group x.volumes
fewer_apply _ x e = fewer_in_same x.volumes

pub fewer_after : (s : Plan) (st : State) (act : Act) → (is_provider act.event && is_commit (open_group (left_now st))) ≡ false → FewerIn st.volumes (after s st act).volumes
fewer_after s st act f =
    by_changes (λ x. FewerIn st.volumes x.volumes) s st act
    (λ c x i h. fewer_in_over st.volumes x.volumes _ h (fewer_apply c x (grind (arith, common_steps)))) (fewer_in_same st.volumes)

-- ## where the course goes on

pub fewer_images_dropped : (o : Option SetRow) (ks : List History) → FewerIn ks (images_dropped o ks)
fewer_images_dropped None ks = fewer_in_same ks
fewer_images_dropped (Some r) ks = fewer_in_map (dropped r.number) (fewer_dropped r.number) ks

fewer_concluded : (e : Ending) (st : State) → FewerIn st.volumes (concluded e st).volumes
fewer_concluded (SetFails why) st = fewer_images_dropped (in_progress st) st.volumes
fewer_concluded _ st = fewer_in_same st.volumes

pub fewer_followed : (ran : Bool) (c : Course) (st : State) → FewerIn st.volumes (followed ran c st).volumes
unfolding followed
fewer_followed ran c st = fewer_concluded (ending st.course.outcome c.outcome ran c.agenda) (record st { course = c })

-- ## as many volumes as at the start

as_many_from : (s : Plan) (st : State) (acts : List Act) → length (fold (after s) st acts).volumes ≡ length st.volumes
as_many_from s st [] = refl
as_many_from s st (act ∷ acts) = as_many_from s (after s st act) acts
    ∙ by_changes (λ x. length x.volumes ≡ length st.volumes) s st act (λ c x i h. (grind (arith, common_steps, as_many_change, fewer_apply)) ∙ h) refl

-- there are always as many volumes as in the scenario
pub as_many_volumes : (s : Plan) (acts : List Act) → length (state s acts).volumes ≡ length s.volumes
as_many_volumes s acts = grind (arith, common_steps, nat_tests, as_many_from)

-- ## A device that fails to flush fails the set in progress in that act.

stepped_fails : (mark : Mark) (st : State) → open_group (left_now st) ≡ Some Flush → mark ≡ Fault → stepped mark st ≡ followed (runs st) (course_stepped false st.clock st.course) st
unfolding stepped
stepped_fails mark st e f = grind (arith, common_steps, nat_tests)

working_at_flush : (os : List Open) → open_group os ≡ Some Flush → is_working os ≡ true
working_at_flush os e = grind arith

outcome_stepped : (now : ℕ) (c : Course) → (course_stepped false now c).outcome ≡ Failed UnexpectedProviderError
unfolding posted course_failed
outcome_stepped now c = refl

sets_followed : (ran : Bool) (c : Course) (st : State) (why : VssResult) → st.course.outcome ≡ Running → c.outcome ≡ Failed why → (followed ran c st).sets ≡ map (row_settled c.outcome) st.sets
unfolding followed
sets_followed ran c st why e f = grind (arith, common_steps, nat_tests)

pub outcome_in : (q : Option Session) (o : SetOutcome) (r : SetRow) → IsOfSession q o (Some r) → o ≡ Running
outcome_in q o r h = grind arith

-- the outcome of the course while a set is in progress
pub outcome_is_running : (s : Plan) (so_far : List Act) (r : SetRow) → in_progress (state s so_far) ≡ Some r → (state s so_far).course.outcome ≡ Running
outcome_is_running s so_far r e =
    let st = state s so_far in
    outcome_in st.session st.course.outcome r (subst (λ o. IsOfSession st.session st.course.outcome o) e (orderly s so_far).session)

pub flush_fails : (s : Plan) (so_far : List Act) (act : Act) (r : SetRow) → in_progress (state s so_far) ≡ Some r → act.event ≡ Provider → open_group (left_now (state s so_far)) ≡ Some Flush → act.mark ≡ Fault → IsFailed (after s (state s so_far) act) r.number
flush_fails s so_far act r e f g h =
    let st = state s so_far in
    let c = course_stepped false st.clock st.course in
    let row = row_settled c.outcome r in
    let next : after s st act ≡ followed (runs st) c st = after_provider s st act (ap is_provider f) (working_at_flush (left_now st) g) ∙ stepped_fails act.mark st g h in
    let sets = sets_followed (runs st) c st UnexpectedProviderError (outcome_is_running s so_far r e) (outcome_stepped st.clock st.course) in
    let found = row_running 1 st.sets r (orderly s so_far).numbered e in
    let here : row_of (followed (runs st) c st) r.number ≡ Some row = ap (find (λ (q : SetRow). q.number == r.number)) sets ∙ row_settles c.outcome r.number st.sets ∙ ap (option_map (row_settled c.outcome)) found in
    record {
      row = row;
      is = ap (λ x. row_of x r.number) next ∙ here;
      failed = ap has_failed (result-settled (is_running r.result) c.outcome r (running_found st.sets r e) ∙ outcome_stepped st.clock st.course);
    }
