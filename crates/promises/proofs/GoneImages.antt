-- Which images are gone after a change of the volumes, of the sets or of the course.
use Rattle.std.proofs.Common.{◌≡◌, ◌∙◌, ℕ, ◌+◌, ◌==◌, ◌≤◌, ◌<◌, zero, suc, List, [], ◌∷◌, ◌++◌, Option, Some, None, refl, Bool, true, false, ap, sym, subst, map, filter, find, length, arith}
use Rattle.std.specs.Prelude.{not, nat_lt, is_some, unwrap_or, option_map, if◌then◌else◌, slice_get}
use Rattle.promises.proofs.Words.{range_with_len, ltb-false, ltb-true, SetOutcome, VssResult, Image, History, point_in, dropped, after_set, up_to_set, Placed}
use Rattle.promises.proofs.Words.{lacks_slot, gone_up_to, evicted_up_to, Group, Agenda, each_change, State, SetRow, is_running, in_progress, has_image}
use Rattle.promises.proofs.Words.{step_made, NumberedFrom, has_failed, IsFailed, true_not_false, running_found, row_running, row_settles, result-settled, at}
use Rattle.promises.proofs.Words.{stands, Fails, within, Failed as FailedSet, Course, posted, settled, worked, stepped as course_stepped, change_at, Ending}
use Rattle.promises.proofs.Words.{SetFails, ending, row_settled, images_dropped, concluded, followed, failed_in, number_is, not_false}
use Rattle.vss_names.specs.declared.set_outcome.SetOutcome.TheVariants.{Running as RunningSet}
use Rattle.set_agenda.specs.Course.{failed as course_failed}
use Rattle.write_history.specs.History.{cut as history_cut}
use Rattle.promises.proofs.Members.{next_up}

-- ## lists of images

pub gone_by : (test : ℕ → Bool) (n : ℕ) (images : List Image) → is_some (point_in n images) ≡ true → is_some (point_in n (filter (λ i. test i.set) images)) ≡ false → test n ≡ false
gone_by test n [] e f = absurd cc
gone_by test n (i ∷ images) e f = grind (arith, true_not_false, number_is, gone_by test n images)

pub kept_by : (test : ℕ → Bool) (n : ℕ) (images : List Image) → is_some (point_in n (filter (λ i. test i.set) images)) ≡ true → test n ≡ true
kept_by test n [] e = absurd cc
kept_by test n (i ∷ images) e = grind (arith, number_is, kept_by test n images)

still_after : (n : ℕ) (images : List Image) (m p : ℕ) → is_some (point_in n images) ≡ true → is_some (point_in n (images ++ record { set = m; point = p } ∷ [])) ≡ true
still_after n [] m p e = absurd cc
still_after n (i ∷ images) m p e = grind (arith, still_after n images m p)

pub gone_dropped : (m n : ℕ) (h : History) → has_image n h ≡ true → has_image n (dropped m h) ≡ false → m ≡ n
gone_dropped m n h e f = sym (number_is n m (not_false (n == m) (gone_by (λ k. not (k == m)) n h.images e f)))

pub gone_reverted : (m n : ℕ) (images : List Image) → is_some (point_in n images) ≡ true → is_some (point_in n (up_to_set m images)) ≡ false → m < n
gone_reverted m n images e f = ltb-true m n (not_false (nat_lt m n) (gone_by (λ k. not (nat_lt m k)) n images e f))

-- ## on which volume

pub gone_map : (f : History → History) (n : ℕ) (hs : List History) (v : ℕ) → has_image n (at hs v) ≡ true → has_image n (at (map f hs) v) ≡ false → has_image n (f (at hs v)) ≡ false
gone_map f n [] zero e g = absurd cc
gone_map f n [] (suc v) e g = absurd cc
gone_map f n (h ∷ hs) zero e g = g
gone_map f n (h ∷ hs) (suc v) e g = gone_map f n hs v e g

pub gone_change : (f : History → History) (n u : ℕ) (hs : List History) (v : ℕ) → has_image n (at hs v) ≡ true → has_image n (at (change_at u f hs) v) ≡ false
    → (u ≡ v) × (has_image n (f (at hs v)) ≡ false)
gone_change f n u [] v e g = absurd (true_not_false (has_image n (at [] v)) e g)
gone_change f n zero (h ∷ hs) zero e g = (refl, g)
gone_change f n zero (h ∷ hs) (suc v) e g = absurd (true_not_false (has_image n (at hs v)) e g)
gone_change f n (suc u) (h ∷ hs) zero e g = absurd (true_not_false (has_image n h) e g)
gone_change f n (suc u) (h ∷ hs) (suc v) e g = let ih = gone_change f n u hs v e g in (ap suc ih.0, ih.1)

pub gone_group : (m n : ℕ) (ps : List Placed) (hs : List History) (v : ℕ) → has_image n (at hs v) ≡ true → has_image n (at (gone_up_to m ps hs) v) ≡ false → (within (slice_get ps v) ≡ true) × (n ≤ m)
gone_group m n [] hs v e g = absurd (true_not_false (has_image n (at hs v)) e g)
gone_group m n (p ∷ ps) [] v e g = absurd (true_not_false (has_image n (at [] v)) e g)
gone_group m n (p ∷ ps) (h ∷ hs) zero e g = by_group p.within refl g where
  by_group : (b : Bool) → p.within ≡ b → has_image n (if b then record { writes = h.writes; images = after_set m h.images } else h) ≡ false → (p.within ≡ true) × (n ≤ m)
  by_group true i g = (i, ltb-false m n (gone_by (λ k. nat_lt m k) n h.images e g))
  by_group false i g = absurd (true_not_false (has_image n h) e g)
gone_group m n (p ∷ ps) (h ∷ hs) (suc v) e g = gone_group m n ps hs v e g

pub left_in_group : (m n : ℕ) (ps : List Placed) (hs : List History) (v : ℕ) → within (slice_get ps v) ≡ true → has_image n (at (gone_up_to m ps hs) v) ≡ true → m < n
left_in_group m n [] hs zero w e = absurd cc
left_in_group m n [] hs (suc v) w e = absurd cc
left_in_group m n (p ∷ ps) [] v w e = absurd (no_image v e) where
  no_image : (v : ℕ) → has_image n (at [] v) ≡ true → ⊥
  no_image zero e = cc
  no_image (suc v) e = cc
left_in_group m n (p ∷ ps) (h ∷ hs) zero w e = by_group p.within w e where
  by_group : (b : Bool) → b ≡ true → has_image n (if b then record { writes = h.writes; images = after_set m h.images } else h) ≡ true → m < n
  by_group true i e = ltb-true m n (kept_by (λ k. nat_lt m k) n h.images e)
  by_group false i e = absurd cc
left_in_group m n (p ∷ ps) (h ∷ hs) (suc v) w e = left_in_group m n ps hs v w e

image_keeps : (n m u : ℕ) (hs : List History) (v : ℕ) → has_image n (at hs v) ≡ true → has_image n (at (change_at u (history_cut m) hs) v) ≡ true
image_keeps n m u hs v = each_change (λ x y. has_image n x ≡ true → has_image n y ≡ true) (λ x e. e) (history_cut m) (λ x e. still_after n x.images m (length x.writes) e) u hs v

-- ## the least number of sets

found_least : (test : ℕ → Bool) (a len m : ℕ) → a ≤ m → m < unwrap_or (find test (range_with_len a len)) (a + len) → test m ≡ false
found_least test a zero m l h = grind arith
found_least test a (suc len) m l h = grind (arith, number_is, next_up, found_least test (a + 1) len m)

pub least_sets : (sets slots : ℕ) (ps : List Placed) (v b : ℕ) (hs : List History) (m : ℕ) → m < evicted_up_to sets slots ps v b hs → lacks_slot slots ps v b (gone_up_to m ps hs) ≡ true
least_sets sets slots ps v b hs m h = not_false _
    (found_least (λ k. not (lacks_slot slots ps v b (gone_up_to k ps hs))) 0 sets m (omega arith)
    (subst (λ k. m < unwrap_or (find (λ k. not (lacks_slot slots ps v b (gone_up_to k ps hs))) (range_with_len 0 sets)) k) (omega arith) h))

-- ## a set that fails

failed_row : (st x : State) (r : SetRow) (p : SetOutcome) → in_progress st ≡ Some r → NumberedFrom 1 st.sets → x.sets ≡ map (row_settled p) st.sets → has_failed p ≡ true → IsFailed x r.number
failed_row st x r p e num sets f =
    let found = row_running 1 st.sets r num e in
    record {
      row = row_settled p r;
      is = ap (find (λ (q : SetRow). q.number == r.number)) sets ∙ row_settles p r.number st.sets ∙ ap (option_map (row_settled p)) found;
      failed = ap has_failed (result-settled (is_running r.result) p r (running_found st.sets r e)) ∙ f;
    }

pub fails_as : (st x : State) (r : SetRow) (p : SetOutcome) (n : ℕ) → in_progress st ≡ Some r → NumberedFrom 1 st.sets → x.sets ≡ map (row_settled p) st.sets
    → has_failed p ≡ true → r.number ≡ n → Fails st x n
fails_as st x r p n e num sets f same = record { set = r; is = e; number = same; failed = subst (IsFailed x) same (failed_row st x r p e num sets f) }

-- where the images of the set in progress go
gone_of_set : (o : Option SetRow) (n : ℕ) (hs : List History) (v : ℕ) (X : Type 0) → has_image n (at hs v) ≡ true
    → has_image n (at (images_dropped o hs) v) ≡ false → ((r : SetRow) → o ≡ Some r → r.number ≡ n → X) → X
gone_of_set None n hs v X e g f = absurd (true_not_false (has_image n (at hs v)) e g)
gone_of_set (Some r) n hs v X e g f = f r refl (gone_dropped r.number n (at hs v) e (gone_map (dropped r.number) n hs v e g))

-- what ends where a set fails
ends_failing : (o p : SetOutcome) (ran : Bool) (a : Option Agenda) (why : VssResult) → ending o p ran a ≡ SetFails why → (o ≡ RunningSet) × (has_failed p ≡ true)
ends_failing o p ran a why e = grind arith

module _ (n v : ℕ) where
  gone_ended : (e : Ending) (why_failed : (why : VssResult) → e ≡ SetFails why → Type 0) (x : State) (X : Type 0) → stands x n v ≡ true → stands (concluded e x) n v ≡ false
      → ((why : VssResult) (r : SetRow) → e ≡ SetFails why → in_progress x ≡ Some r → r.number ≡ n → (concluded e x).sets ≡ map (row_settled x.course.outcome) x.sets → X) → X
  gone_ended (SetFails why) w x X h g f = gone_of_set (in_progress x) n x.volumes v X h g (λ r e s. f why r refl e s refl)
  gone_ended _ w x X h g f = absurd (true_not_false (stands x n v) h g)

  pub gone_followed : (ran : Bool) (c : Course) (x : State) (X : Type 0) → stands x n v ≡ true → stands (followed ran c x) n v ≡ false
      → ((r : SetRow) → x.course.outcome ≡ RunningSet → has_failed c.outcome ≡ true → in_progress x ≡ Some r → r.number ≡ n → (followed ran c x).sets ≡ map (row_settled c.outcome) x.sets → X) → X
  unfolding followed
  gone_followed ran c x X h g f =
      gone_ended (ending x.course.outcome c.outcome ran c.agenda) (λ why e. Unit {0}) (record x { course = c }) X h g
      (λ why r e i s sets. let both = ends_failing x.course.outcome c.outcome ran c.agenda why e in f r both.0 both.1 i s sets)

  pub gone_failed_in : (o : Option SetRow) (why : VssResult) (x : State) (X : Type 0) → stands x n v ≡ true → stands (failed_in o why x) n v ≡ false
      → ((r : SetRow) → in_progress x ≡ Some r → r.number ≡ n → (failed_in o why x).sets ≡ map (row_settled (FailedSet why)) x.sets → X) → X
  unfolding course_failed
  gone_failed_in None why x X h g f = absurd (true_not_false (stands x n v) h g)
  gone_failed_in (Some q) why x X h g f = gone_of_set (in_progress x) n x.volumes v X h g (λ r e s. f r e s refl)

-- ## a step that is made fails nothing

pub none_stepped : (now : ℕ) (c : Course) → has_failed c.outcome ≡ false → has_failed (course_stepped true now c).outcome ≡ false
unfolding posted settled worked
none_stepped now c h = grind arith

pub made_keeps : (n v : ℕ) (g : Option Group) (u : Option ℕ) (st : State) → stands st n v ≡ true → stands (step_made g u st) n v ≡ true
made_keeps n v g u st h = grind (arith, image_keeps)
