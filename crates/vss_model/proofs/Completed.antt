-- A set that completes has its image on each of its volumes in that act: each got it in its Commit step.
use Rattle.std.proofs.Common.{◌≡◌, ℕ, ◌+◌, ◌==◌, ◌<◌, zero, suc, List, [], ◌∷◌, ◌++◌, ◌⊎◌, Option, Some, None, refl, Bool, true, false, map, filter, length, ap}
use Rattle.std.proofs.Common.{sym, ◌∙◌, subst, find, inl, inr, arith}
use Rattle.std.specs.Prelude.{option_map, is_some, ◌&&◌, ◌||◌, not}
use Rattle.vss_model.proofs.Terms.{nat_tests, list_any-append, eq-eqb, or_parts, common_steps, SetOutcome, Running as RunningSet, VssResult, AsyncCancelled}
use Rattle.vss_model.proofs.Terms.{Said, Mark, Clean, Write, Image, History, point_in, dropped, written, Placed, gone_up_to, Group, Kind, Gather, Prepare}
use Rattle.vss_model.proofs.Terms.{Snapshot, Complete, Member, Place, Agenda, Open, with_group, groups_left, open_group, is_among, is_done, is_working, all_say}
use Rattle.vss_model.proofs.Terms.{Course, posted, failed as course_failed, settled, begun, stepped as course_stepped, change_at, released, Session, Plan}
use Rattle.vss_model.proofs.Terms.{said_of, State, SetRow, Kept, in_progress, row_of, row_changed, history_of, left_now, has_image, kept_image, runs}
use Rattle.vss_model.proofs.Terms.{has_lost_image, set_loses_image, new_set, new_number, with_volume, with_cut, row_cut, idle_now, Act, after, state}
use Rattle.vss_model.proofs.Terms.{NumberedFrom, has_failed, Cut, Commit, Ok, Entry, plain, at_place, same_place, has_said, waited_for, open_place, next_member}
use Rattle.vss_model.proofs.Terms.{left, is_snapshot, worked, eqb-true, OverButNewest, is_running, row_settled, history_cut}
use Rattle.vss_model.specs.State.{is_complete}
use Rattle.vss_model.proofs.StateForm.{followed, failed_in, failed, cleared, with_room_if, put, write, reverted_as, start_set, change_set}
use Rattle.vss_model.proofs.StateForm.{closed, answered, cut_set, image_made, stepped_as, stepped, ticked, later}
use Rattle.vss_model.proofs.Appending.{by_acts, state-append}
use Rattle.vss_model.proofs.ByEvent.{Covers, Next, some_same}
use Rattle.vss_model.proofs.Changes.{after_covered}
use Rattle.vss_model.proofs.Orderly.{true_not_false, other_way, newest-map}
use Rattle.vss_model.proofs.OrderlyActs.{MovesOn, moves_answered, moves_stepped, moves_timed, orderly, same_changed}
use Rattle.vss_model.proofs.CourseCalls.{Settles, Call, settles, call_answered, call_stepped, call_timed}
use Rattle.vss_model.proofs.AtCut.{all_said, tied_snapshot}
use Rattle.vss_model.proofs.HeldOfSet.{Tied, tied, find-row_cut, volumes-row_cut_if}
use Rattle.vss_model.proofs.Volumes.{at, Each, each_map, each_change, change_other, as_many_map, as_many_change, as_many_gone}
use Rattle.vss_model.proofs.CutStep.{is_commit, commit_is, commit_volume, image_step, as_many_volumes, outcome_is_running}
use Rattle.vss_model.proofs.OneCut.{changed_number, changed_result, row_number, kept_point}
use Rattle.vss_model.proofs.Spoken.{SaidIn, Elsewhere, said_back, says_elsewhere, still_said, begun_unsaid}
use Rattle.vss_model.proofs.Rows.{number-cut, has_complete, running_incomplete, incomplete_settled, incomplete_map, incomplete_append, complete_found}
use Rattle.vss_model.proofs.Rows.{none_runs}

-- ## the Commit steps in the log

-- where nothing is left of a snapshot's agenda, its Commit steps are made
pub past_group : (p : Place) (ws : List ℕ) (later : List Open) → is_done (with_group p ws later) ≡ true → is_done later ≡ true
past_group p ws later e = grind arith

pub not_complete : (o : SetOutcome) → has_failed o ≡ true → is_complete o ≡ false
not_complete o e = grind arith

abbrev AllSaid : Option Agenda → Type 0
AllSaid None = ⊥
AllSaid (Some a) = (is_snapshot a.kind ≡ true) × ((u : ℕ) → is_among u a.volumes ≡ true → has_said a.log (plain Commit) u ≡ true)

closed_at_end : (done : Bool) (a : Agenda) (o : SetOutcome) (b : Option Agenda) (p : SetOutcome) → (done ≡ true → is_done (groups_left a) ≡ true) → o ≡ RunningSet → is_complete p ≡ true
    → Settles done a o b p → (is_snapshot a.kind ≡ true) × (waited_for a (plain Commit) ≡ [])
closed_at_end done a o b p d e f s = grind arith

said_at_end : (done : Bool) (a : Agenda) (o : SetOutcome) (b : Option Agenda) (p : SetOutcome) → (done ≡ true → is_done (groups_left a) ≡ true) → o ≡ RunningSet → is_complete p ≡ true
    → Settles done a o b p → AllSaid (Some a)
said_at_end done a o b p d e f s = let closed = closed_at_end done a o b p d e f s in (closed.0, λ u i. all_said a.log (plain Commit) a.volumes u closed.1 i)

-- a call that completes the set finds them made, unless it makes one
completes_said : (writers : Bool) (a : Option Agenda) (o : SetOutcome) (b : Option Agenda) (p : SetOutcome) → ((x : Agenda) → a ≡ Some x → Elsewhere Commit refl writers (groups_left x))
    → o ≡ RunningSet → is_complete p ≡ true → Call writers a o b p → AllSaid a
completes_said writers None o b p n e f c = absurd (true_not_false (is_complete p) f (ap is_complete (c.1 ∙ e)))
completes_said writers (Some a) o b p n e f (inl c) = absurd (true_not_false (is_complete p) f (not_complete p c.failed))
completes_said writers (Some a) o b p n e f (inr (inl c)) = said_at_end c.done a o b p c.is_done e f c.settles
completes_said writers (Some a) o b p n e f (inr (inr c)) =
    let x = all_say c.said c.now c.ws a in
    let said = said_at_end (is_done (groups_left x)) x o b p (λ d. d) e f c.settles in
    (said.0, λ u i. said_back Commit refl c.said c.now u c.ws a (says_elsewhere Commit refl writers a o b p (n a refl) c) (said.1 u i))

elsewhere_at : (st : State) (a : Agenda) → is_commit (open_group (left_now st)) ≡ false → st.course.agenda ≡ Some a → Elsewhere Commit refl false (groups_left a)
elsewhere_at st a e f = subst (λ (o : Option Agenda). same_place (open_place (left o)) (plain Commit) ≡ false) f (grind arith)

-- a step makes the step of its volume alone
abbrev SaidOr : Option Agenda → ℕ → ℕ → Type 0
SaidOr a v u = SaidIn (plain Commit) u a ⊎ (v ≡ u)

said_worked : (now : ℕ) (u : ℕ) (c : Course) (a : Option Agenda) → c.agenda ≡ a → SaidIn (plain Commit) u (worked now c).agenda → SaidOr a (next_member (left a)) u
unfolding worked
said_worked now u c None e h = absurd (subst (λ (o : Option Agenda). SaidIn (plain Commit) u (option_map (all_say Ok now (next_member (left o) ∷ [])) o)) e h)
said_worked now u c (Some a) e h =
    let v = next_member (groups_left a) in
    let said : has_said (all_say Ok now (v ∷ []) a).log (plain Commit) u ≡ true
    = subst (λ (o : Option Agenda). SaidIn (plain Commit) u (option_map (all_say Ok now (next_member (left o) ∷ [])) o)) e h in
    by_log (has_said a.log (plain Commit) u) refl
    (λ f. or_none (has_said a.log (plain Commit) u) (has_said (at_place (open_place (groups_left a)) Ok now v ∷ []) (plain Commit) u) f
    (sym (list_any-append (λ (x : Entry). same_place x.place (plain Commit) && (x.who == u)) a.log (at_place (open_place (groups_left a)) Ok now v ∷ [])) ∙ said))
  where
    or_none : (b c : Bool) → b ≡ false → (b || c) ≡ true → c ≡ true
    or_none b c e f = grind arith

    same_who : (b : Bool) (v w : ℕ) → ((b && (v == w)) || false) ≡ true → v ≡ w
    same_who b v w e = grind (arith, eqb-true)

    by_log : (b : Bool) → has_said a.log (plain Commit) u ≡ b
        → (has_said a.log (plain Commit) u ≡ false → has_said (at_place (open_place (groups_left a)) Ok now (next_member (groups_left a)) ∷ []) (plain Commit) u ≡ true)
        → SaidOr (Some a) (next_member (groups_left a)) u
    by_log true f new = inl f
    by_log false f new = inr (same_who (same_place (open_place (groups_left a)) (plain Commit)) (next_member (groups_left a)) u (new f))

said_settled : (u : ℕ) (c : Course) → SaidIn (plain Commit) u (settled c).agenda → SaidIn (plain Commit) u c.agenda
unfolding settled
said_settled u c h = grind (arith, common_steps, nat_tests)

said_stepped : (now u : ℕ) (c : Course) → SaidIn (plain Commit) u (course_stepped true now c).agenda → SaidOr c.agenda (next_member (left c.agenda)) u
unfolding posted
said_stepped now u c h = said_worked now u c c.agenda refl (said_settled u (worked now c) h)

idle_settled : (c : Course) → c.agenda ≡ None → c.outcome ≡ RunningSet → is_complete (settled c).outcome ≡ true → ⊥
unfolding settled
idle_settled c h i j = grind (arith, common_steps)

completes_worked : (now : ℕ) (c : Course) (a : Option Agenda) → c.agenda ≡ a → c.outcome ≡ RunningSet → is_complete (course_stepped true now c).outcome ≡ true → AllSaid (worked now c).agenda
unfolding posted worked
completes_worked now c None e f g = absurd (idle_settled (worked now c) (ap (option_map (all_say Ok now (next_member (left c.agenda) ∷ []))) e) f g)
completes_worked now c (Some a) e f g =
    let x = all_say Ok now (next_member (groups_left a) ∷ []) a in
    let is : (worked now c).agenda ≡ Some x = ap (λ (o : Option Agenda). option_map (all_say Ok now (next_member (left o) ∷ [])) o) e in
    subst AllSaid (sym is) (said_at_end (is_done (groups_left x)) x c.outcome _ _ (λ d. d) f g (settles x c.outcome (worked now c) is refl))

-- ## images that stand

-- the image of set n stands on each of these volumes that there is
abbrev Imaged : ℕ → List ℕ → List History → Type 0
Imaged n vs hs = (v : ℕ) → is_among v vs ≡ true → v < length hs → has_image n (at hs v) ≡ true

-- set n keeps its image
abbrev KeepsImage : ℕ → History → History → Type 0
KeepsImage n h k = has_image n h ≡ true → has_image n k ≡ true

-- the images of another set go
other_dropped : (m n : ℕ) (images : List Image) → (m == n) ≡ false → is_some (point_in n images) ≡ true → is_some (point_in n (filter (λ i. not (i.set == m)) images)) ≡ true
other_dropped m n [] e f = f
other_dropped m n (i ∷ images) e f = grind (arith, common_steps, other_dropped m n images e)

keeps_dropped : (m n : ℕ) → (m == n) ≡ false → (h : History) → KeepsImage n h (dropped m h)
keeps_dropped m n e h f = other_dropped m n h.images e f

keeps_same : (n : ℕ) (h : History) → KeepsImage n h h
keeps_same n h e = e

-- no image of the set went
none_lost : (n m : ℕ) (ps : List Placed) (hs : List History) → has_lost_image n hs (gone_up_to m ps hs) ≡ false → Each (KeepsImage n) hs (gone_up_to m ps hs)
none_lost n m (p ∷ ps) (x ∷ hs) e (suc v) f = none_lost n m ps hs (or_parts (has_image n x && not (has_image n (at (gone_up_to m (p ∷ ps) (x ∷ hs)) 0))) (has_lost_image n hs (gone_up_to m ps hs)) e).1 v f
none_lost n m ps hs e v f = grind (arith, common_steps, nat_tests, or_parts)

-- the image that a Commit step gives
last_has : (images : List Image) (n p : ℕ) → is_some (point_in n (images ++ record { set = n; point = p } ∷ [])) ≡ true
last_has [] n p = grind (arith, common_steps, eq-eqb)
last_has (i ∷ images) n p = grind (arith, common_steps, last_has images n p)

keeps_made : (m n : ℕ) (h : History) → KeepsImage n h (history_cut m h)
keeps_made m n h e = first h.images e where
  first : (images : List Image) → is_some (point_in n images) ≡ true → is_some (point_in n (images ++ record { set = m; point = length h.writes } ∷ [])) ≡ true
  first [] f = absurd cc
  first (i ∷ images) f = grind (arith, common_steps, first images)

made_here : (n v : ℕ) (hs : List History) → v < length hs → has_image n (at (change_at v (history_cut n) hs) v) ≡ true
made_here n v [] l = absurd (omega (arith, l))
made_here n zero (x ∷ hs) l = last_has x.images n (length x.writes)
made_here n (suc v) (x ∷ hs) l = made_here n v hs (omega (arith, l))

-- ## while the set is in progress

-- once its Commit step is made, a volume has its image of the set in progress
abbrev Imaging : SetRow → Option Agenda → List History → Type 0
Imaging r a hs = (u : ℕ) → is_among u r.volumes ≡ true → SaidIn (plain Commit) u a → u < length hs → has_image r.number (at hs u) ≡ true

abbrev IsImaged : State → Type 0
IsImaged st = (r : SetRow) → in_progress st ≡ Some r → Imaging r st.course.agenda st.volumes

imaging_along : (r : SetRow) (a : Option Agenda) (hs ks : List History) → length ks ≡ length hs → Each (KeepsImage r.number) hs ks → Imaging r a hs → Imaging r a ks
imaging_along r a hs ks e keeps h u among said l = keeps u (h u among said (subst (λ m. u < m) e l))

imaged_none : (x : State) → x.course.agenda ≡ None → IsImaged x
imaged_none x e r f u i m = absurd (subst (SaidIn (plain Commit) u) e m)

imaged_followed : (c : Course) (x : State) → MovesOn x.course c → ((r : SetRow) → in_progress x ≡ Some r → Imaging r c.agenda x.volumes) → IsImaged (followed (runs x) c x)
unfolding followed
imaged_followed c x m h = grind (arith, common_steps)

imaged_answers : (w : ℕ) (said : Said) (st : State) → IsImaged st → IsImaged (answered w said st)
unfolding answered
imaged_answers w said st h =
    imaged_followed _ st (moves_answered w said st.clock st.course)
    (λ r e u i m. h r e u i (still_said Commit refl true u st.course.agenda st.course.outcome _ _ (λ x f. tt) (call_answered w said st.clock st.course) m))

imaged_ticks : (k : ℕ) (st : State) → IsImaged st → IsImaged (ticked k st)
unfolding ticked
imaged_ticks k st h =
    imaged_followed _ (later k st) (moves_timed (st.clock + k) st.course)
    (λ r e u i m. h r e u i (still_said Commit refl true u st.course.agenda st.course.outcome _ _ (λ x f. tt) (call_timed (st.clock + k) st.course) m))

-- a step that is no Commit step
step_imaging : (ok : Bool) (st : State) (r : SetRow) → is_commit (open_group (left_now st)) ≡ false → is_working (left_now st) ≡ true → Imaging r st.course.agenda st.volumes
    → Imaging r (course_stepped ok st.clock st.course).agenda st.volumes
step_imaging ok st r e w h u among m =
    h u among (still_said Commit refl false u st.course.agenda st.course.outcome _ _ (λ x i. elsewhere_at st x e i) (call_stepped ok st.clock st.course w) m)

cut_row : (q r : SetRow) (st : State) → in_progress st ≡ Some q → in_progress (cut_set (Some q) st) ≡ Some r → row_cut q.number st.clock q ≡ r
cut_row q r st e f = some_same _ _ (ap (option_map (row_cut q.number st.clock)) (sym e) ∙ sym (find-row_cut q.number st.clock st.sets) ∙ f)

imaging_cut : (q : SetRow) (now : ℕ) (a : Option Agenda) (hs : List History) → Imaging q a hs → Imaging (row_cut q.number now q) a hs
imaging_cut q now a hs h u among =
    subst (λ n. SaidIn (plain Commit) u a → u < length hs → has_image n (at hs u) ≡ true) (sym (number-cut (q.number == q.number) now q))
    (h u (subst (λ vs. is_among u vs ≡ true) (volumes-row_cut_if (q.number == q.number) now q) among))

imaged_cut : (o : Option SetRow) (st : State) → in_progress st ≡ o → is_commit (open_group (left_now st)) ≡ false → is_working (left_now st) ≡ true → IsImaged st
    → IsImaged (followed (runs st) (course_stepped true st.clock st.course) (cut_set o st))
imaged_cut None st e g w h = imaged_followed _ st (moves_stepped true st.clock st.course w) (λ r f. step_imaging true st r g w (h r f))
imaged_cut (Some q) st e g w h =
    imaged_followed _ (cut_set (Some q) st) (moves_stepped true st.clock st.course w)
    (λ r f. step_imaging true st r g w (subst (λ x. Imaging x st.course.agenda st.volumes) (cut_row q r st e f) (imaging_cut q st.clock st.course.agenda st.volumes (h q e))))

imaged_stepped_as : (fails : Bool) (g : Option Group) (v : Option ℕ) (st : State) → is_commit g ≡ false → is_commit (open_group (left_now st)) ≡ false → is_working (left_now st) ≡ true → IsImaged st
    → IsImaged (stepped_as fails g v st)
imaged_stepped_as true g v st e f w h = imaged_followed _ st (moves_stepped false st.clock st.course w) (λ r i. step_imaging false st r f w (h r i))
imaged_stepped_as false (Some Cut) v st e f w h = imaged_cut (in_progress st) st refl f w h
imaged_stepped_as false (Some Commit) v st e f w h = absurd cc
imaged_stepped_as false _ v st e f w h = imaged_followed _ st (moves_stepped true st.clock st.course w) (λ r i. step_imaging true st r f w (h r i))

imaged_steps : (mark : Mark) (st : State) → is_commit (open_group (left_now st)) ≡ false → is_working (left_now st) ≡ true → IsImaged st → IsImaged (stepped mark st)
unfolding stepped
imaged_steps mark st e w h = imaged_stepped_as _ _ _ st e e w h

-- a Commit step gives its image
imaging_made : (r : SetRow) (m : ℕ) (st : State) → r.number ≡ m → Imaging r st.course.agenda st.volumes
    → Imaging r (course_stepped true st.clock st.course).agenda (change_at (next_member (left_now st)) (history_cut m) st.volumes)
imaging_made r m st e h u among said l =
    let v = next_member (left_now st) in
    let within : u < length st.volumes = subst (λ k. u < k) (as_many_change (history_cut m) v st.volumes) l in
    by_said within (said_stepped st.clock u st.course said) where
      by_said : u < length st.volumes → SaidOr st.course.agenda (next_member (left_now st)) u → has_image r.number (at (change_at (next_member (left_now st)) (history_cut m) st.volumes) u) ≡ true
      by_said within (inl g) =
          each_change (KeepsImage r.number) (keeps_same r.number) (history_cut m) (keeps_made m r.number) (next_member (left_now st)) st.volumes u (h u among g within)
      by_said within (inr g) =
          subst (λ k. has_image r.number (at (change_at k (history_cut m) st.volumes) u) ≡ true) (sym g)
          (subst (λ k. has_image r.number (at (change_at u (history_cut k) st.volumes) u) ≡ true) e (made_here r.number u st.volumes within))

imaged_commit : (o : Option SetRow) (st : State) → in_progress st ≡ o → is_working (left_now st) ≡ true → IsImaged st
    → IsImaged (followed (runs st) (course_stepped true st.clock st.course) (image_made o (Some (next_member (left_now st))) st))
imaged_commit None st e w h = imaged_followed _ st (moves_stepped true st.clock st.course w) (λ r f. grind arith)
imaged_commit (Some q) st e w h =
    imaged_followed _ (image_made (Some q) (Some (next_member (left_now st))) st) (moves_stepped true st.clock st.course w)
    (λ r f. imaging_made r q.number st (ap (λ (x : SetRow). x.number) (some_same _ _ (sym f ∙ e))) (h r f))

imaged_step : (b : Bool) (mark : Mark) (st : State) → is_commit (open_group (left_now st)) ≡ b → is_working (left_now st) ≡ true → IsImaged st → IsImaged (stepped mark st)
imaged_step false mark st e w h = imaged_steps mark st e w h
imaged_step true mark st e w h =
    subst IsImaged (sym (image_step mark st (commit_is (open_group (left_now st)) e)))
    (subst (λ v. IsImaged (followed (runs st) (course_stepped true st.clock st.course) (image_made (in_progress st) v st))) (sym (commit_volume (left_now st) e)) (imaged_commit (in_progress st) st refl w h))

-- ## writes, deletions and reverts

imaged_failed : (o : Option SetRow) (why : VssResult) (x : State) → in_progress x ≡ o → IsImaged (failed_in o why x)
unfolding course_failed
imaged_failed o why x e = grind arith

imaged_room : (b : Bool) (s : Plan) (v u : ℕ) (st : State) → set_loses_image (in_progress st) st.volumes (cleared s v u st).volumes ≡ b → IsImaged st → IsImaged (with_room_if b (cleared s v u st))
imaged_room b s v u st e h = grind (arith, imaged_failed, imaging_along, as_many_gone, none_lost)

imaged_put : (v : ℕ) (w : Write) (mark : Mark) (x : State) → IsImaged x → IsImaged (put v w mark x)
imaged_put v w Clean x h = λ r e.
    imaging_along r x.course.agenda x.volumes (change_at v (written w) x.volumes) (as_many_change (written w) v x.volumes)
    (each_change (KeepsImage r.number) (keeps_same r.number) (written w) (λ y f. f) v x.volumes) (h r e)
imaged_put v w _ x h = h

imaged_write : (s : Plan) (v : ℕ) (w : Write) (mark : Mark) (st : State) → IsImaged st → IsImaged (write s v w mark st).1
unfolding write
imaged_write s v w mark st h = imaged_put v w mark _ (imaged_room (set_loses_image (in_progress st) st.volumes (cleared s v w.block st).volumes) s v w.block st refl h)

-- a complete set is not the one in progress
complete_other : (st : State) (m : ℕ) (r : SetRow) → NumberedFrom 1 st.sets → in_progress st ≡ Some r → has_complete st.sets m ≡ true → (m == r.number) ≡ false
complete_other st m r h e f = other_way r.number m (grind (arith, running_incomplete st.sets r h e))

imaged_deletes_set : (n : ℕ) (st : State) → NumberedFrom 1 st.sets → has_complete st.sets n ≡ true → IsImaged st → IsImaged (record st { volumes = map (dropped n) st.volumes })
imaged_deletes_set n st o e h r f =
    imaging_along r st.course.agenda st.volumes (map (dropped n) st.volumes) (as_many_map (dropped n) st.volumes)
    (each_map (KeepsImage r.number) (keeps_same r.number) (dropped n) (keeps_dropped n r.number (complete_other st n r o f e)) st.volumes) (h r f)

imaged_deletes_image : (n v : ℕ) (k : Kept) (st : State) → NumberedFrom 1 st.sets → kept_image st n v ≡ Some k → IsImaged st → IsImaged (record st { volumes = change_at v (dropped k.row.number) st.volumes })
imaged_deletes_image n v k st o e h r f =
    let other = complete_other st k.row.number r o f (grind (arith, common_steps, kept_point, row_number, complete_found)) in
    imaging_along r st.course.agenda st.volumes (change_at v (dropped k.row.number) st.volumes) (as_many_change (dropped k.row.number) v st.volumes)
    (each_change (KeepsImage r.number) (keeps_same r.number) (dropped k.row.number) (keeps_dropped k.row.number r.number other) v st.volumes) (h r f)

-- ## session calls

agenda_followed : (ran : Bool) (c : Course) (st : State) → (followed ran c st).course.agenda ≡ c.agenda
unfolding followed
agenda_followed ran c st = grind (arith, common_steps)

imaged_begun : (k : Kind) (ms : List Member) (vs : List ℕ) (now : ℕ) (c : Course) (st : State) → IsImaged (followed true (begun k ms vs now c) st)
imaged_begun k ms vs now c st r e u i m = absurd (begun_unsaid Commit refl u k ms vs now c (subst (SaidIn (plain Commit) u) (agenda_followed true (begun k ms vs now c) st) m))

imaged_end : (q : Session) (st : State) → IsImaged (closed q st)
unfolding closed released
imaged_end q st r e u i m = absurd m

imaged_at : (s : Plan) (st : State) → NumberedFrom 1 st.sets → IsImaged st → Covers (Next IsImaged) s st
imaged_at s st o h = record {
  stays = λ lane op mark told e c. h;
  writes = λ lane op v w mark e f. imaged_write s v w mark st h;
  reverts = λ lane n v k mark f g. grind (arith, common_steps, change_other, as_many_change, nat_tests);
  ticks = λ lane k mark. imaged_ticks k st h;
  idles = λ mark e. imaged_ticks (idle_now st) st h;
  deletes_set = λ lane n c mark f. imaged_deletes_set n st o f h;
  deletes_image = λ lane n v k mark f. imaged_deletes_image n v k st o f h;
  names = λ lane w full q explicit mark g f. h;
  disables = λ lane w q mark g. h;
  starts = λ lane q mark g f. imaged_none (start_set q st).1 (none_runs st.course.agenda g.quiet);
  adds = λ lane v r q mark g f i. imaged_none (change_set r.number (with_volume v) st) (none_runs st.course.agenda g.quiet);
  aborts = λ lane q mark f. imaged_failed (in_progress st) AsyncCancelled st refl;
  ends = λ lane q mark f. imaged_end q (failed AsyncCancelled st);
  begins = λ lane m all c mark g f. grind arith;
  gathers = λ lane q mark g. imaged_begun Gather _ [] st.clock _ st;
  prepares = λ lane q mark g f. imaged_begun Prepare _ [] st.clock _ st;
  snapshots = λ lane q mark g f. imaged_begun Snapshot st.course.members _ st.clock st.course st;
  completes = λ lane q mark g. imaged_begun Complete _ [] st.clock _ st;
  answers = λ w answer mark g. imaged_answers w (said_of answer) st h;
  steps = λ mark g. imaged_step (is_commit (open_group (left_now st))) mark st refl g h;
}

imaged : (s : Plan) (acts : List Act) → IsImaged (state s acts)
imaged s acts = by_acts IsImaged s (λ past act h. after_covered IsImaged s (state s past) (imaged_at s (state s past) (orderly s past).numbered h) h act) (λ r e u i m. absurd m) acts

-- ## an act that completes the set

-- whether a snapshot's agenda runs
abbrev pub snapshots : Option Agenda → Bool
snapshots None = false
snapshots (Some a) = is_snapshot a.kind

-- set n is not complete, or its image stands on each of these volumes, and a snapshot's agenda ran
abbrev Done : Bool → ℕ → List ℕ → State → Type 0
Done b n vs st = (has_complete st.sets n ≡ false) ⊎ ((b ≡ true) × Imaged n vs st.volumes)

module _ (b : Bool) (n : ℕ) (vs : List ℕ) where
  done_followed : (ran : Bool) (c : Course) (x : State) → has_complete x.sets n ≡ false → (is_complete c.outcome ≡ true → (b ≡ true) × Imaged n vs x.volumes) → Done b n vs (followed ran c x)
  unfolding followed
  done_followed ran c x h images = grind (arith, common_steps, incomplete_settled)

  done_failed : (o : Option SetRow) (why : VssResult) (x : State) → has_complete x.sets n ≡ false → has_complete (failed_in o why x).sets n ≡ false
  unfolding course_failed
  done_failed o why x h = grind (arith, incomplete_settled)

  incomplete_write : (s : Plan) (v : ℕ) (w : Write) (mark : Mark) (st : State) → has_complete st.sets n ≡ false → has_complete (write s v w mark st).1.sets n ≡ false
  unfolding write
  incomplete_write s v w mark st h = grind (arith, common_steps, done_failed)

  incomplete_revert : (s : Plan) (v : ℕ) (k : Kept) (mark : Mark) (st : State) → has_complete st.sets n ≡ false → has_complete (reverted_as s v k mark st).1.sets n ≡ false
  incomplete_revert s v k mark st h = grind arith

  done_end : (q : Session) (x : State) → has_complete x.sets n ≡ false → Done b n vs (closed q x)
  unfolding closed
  done_end q x h = inl h

  done_answers : (w : ℕ) (said : Said) (st : State) → st.course.outcome ≡ RunningSet → has_complete st.sets n ≡ false → (AllSaid st.course.agenda → (b ≡ true) × Imaged n vs st.volumes) → Done b n vs (answered w said st)
  unfolding answered
  done_answers w said st run h images =
      done_followed (runs st) _ st h (λ f. images (completes_said true st.course.agenda st.course.outcome _ _ (λ x g. tt) run f (call_answered w said st.clock st.course)))

  done_ticks : (k : ℕ) (st : State) → st.course.outcome ≡ RunningSet → has_complete st.sets n ≡ false → (AllSaid st.course.agenda → (b ≡ true) × Imaged n vs st.volumes) → Done b n vs (ticked k st)
  unfolding ticked
  done_ticks k st run h images =
      done_followed (runs st) _ (later k st) h (λ f. images (completes_said true st.course.agenda st.course.outcome _ _ (λ x g. tt) run f (call_timed (st.clock + k) st.course)))

  step_said : (ok : Bool) (st : State) → is_commit (open_group (left_now st)) ≡ false → is_working (left_now st) ≡ true → st.course.outcome ≡ RunningSet
      → is_complete (course_stepped ok st.clock st.course).outcome ≡ true → AllSaid st.course.agenda
  step_said ok st c w run f = completes_said false st.course.agenda st.course.outcome _ _ (λ x i. elsewhere_at st x c i) run f (call_stepped ok st.clock st.course w)

  done_cut : (o : Option SetRow) (st : State) → is_commit (open_group (left_now st)) ≡ false → is_working (left_now st) ≡ true → st.course.outcome ≡ RunningSet → has_complete st.sets n ≡ false
      → (AllSaid st.course.agenda → (b ≡ true) × Imaged n vs st.volumes) → Done b n vs (followed (runs st) (course_stepped true st.clock st.course) (cut_set o st))
  done_cut None st c w run h images = done_followed (runs st) _ st h (λ f. images (step_said true st c w run f))
  done_cut (Some q) st c w run h images =
      done_followed (runs st) _ (cut_set (Some q) st)
      (incomplete_map (row_cut q.number st.clock) (λ r. number-cut (r.number == q.number) st.clock r) (λ r. changed_result (r.number == q.number) (with_cut st.clock) r refl) n st.sets h)
      (λ f. images (step_said true st c w run f))

  done_stepped_as : (fails : Bool) (g : Option Group) (v : Option ℕ) (st : State) → is_commit g ≡ false → is_commit (open_group (left_now st)) ≡ false → is_working (left_now st) ≡ true
      → st.course.outcome ≡ RunningSet → has_complete st.sets n ≡ false → (AllSaid st.course.agenda → (b ≡ true) × Imaged n vs st.volumes) → Done b n vs (stepped_as fails g v st)
  done_stepped_as true g v st e c w run h images = done_followed (runs st) _ st h (λ f. images (step_said false st c w run f))
  done_stepped_as false (Some Cut) v st e c w run h images = done_cut (in_progress st) st c w run h images
  done_stepped_as false (Some Commit) v st e c w run h images = absurd cc
  done_stepped_as false _ v st e c w run h images = done_followed (runs st) _ st h (λ f. images (step_said true st c w run f))

  done_steps : (mark : Mark) (st : State) → is_commit (open_group (left_now st)) ≡ false → is_working (left_now st) ≡ true → st.course.outcome ≡ RunningSet → has_complete st.sets n ≡ false
      → (AllSaid st.course.agenda → (b ≡ true) × Imaged n vs st.volumes) → Done b n vs (stepped mark st)
  unfolding stepped
  done_steps mark st c w run h images = done_stepped_as _ _ _ st c c w run h images

pub begun_incomplete : (k : Kind) (ms : List Member) (vs : List ℕ) (now : ℕ) (c : Course) → c.outcome ≡ RunningSet → is_complete (begun k ms vs now c).outcome ≡ true → ⊥
unfolding begun posted settled
begun_incomplete k ms vs now c e f = grind (arith, common_steps)

done_begun : (b : Bool) (n : ℕ) (us : List ℕ) (k : Kind) (ms : List Member) (vs : List ℕ) (now : ℕ) (c : Course) (st : State) → c.outcome ≡ RunningSet → has_complete st.sets n ≡ false → Done b n us (followed true (begun k ms vs now c) st)
done_begun b n us k ms vs now c st e h = done_followed b n us true (begun k ms vs now c) st h (λ f. absurd (begun_incomplete k ms vs now c e f))

-- a Commit step
done_commit : (b : Bool) (r : SetRow) (o : Option SetRow) (st : State) → o ≡ Some r → st.course.outcome ≡ RunningSet → has_complete st.sets r.number ≡ false
    → (AllSaid (worked st.clock st.course).agenda → (b ≡ true) × Imaged r.number r.volumes (change_at (next_member (left_now st)) (history_cut r.number) st.volumes))
    → Done b r.number r.volumes (followed (runs st) (course_stepped true st.clock st.course) (image_made o (Some (next_member (left_now st))) st))
done_commit b r None st e run h images = absurd cc
done_commit b r (Some q) st e run h images =
    subst (λ x. Done b r.number r.volumes (followed (runs st) (course_stepped true st.clock st.course) (image_made (Some x) (Some (next_member (left_now st))) st))) (sym (some_same q r e))
    (done_followed b r.number r.volumes (runs st) _ (image_made (Some r) (Some (next_member (left_now st))) st) h (λ f. images (completes_worked st.clock st.course st.course.agenda refl run f)))

-- what is said in it
worked_images : (st : State) (r : SetRow) (a : Option Agenda) → st.course.agenda ≡ a → in_progress st ≡ Some r → Tied a st.course.members (Some r) → Imaging r st.course.agenda st.volumes
    → AllSaid (worked st.clock st.course).agenda → (snapshots a ≡ true) × Imaged r.number r.volumes (change_at (next_member (left_now st)) (history_cut r.number) st.volumes)
unfolding worked
worked_images st r None e i t h said = absurd (subst (λ (o : Option Agenda). AllSaid (option_map (all_say Ok st.clock (next_member (left o) ∷ [])) o)) e said)
worked_images st r (Some a) e i t h said = (all.0, images) where
  all : AllSaid (Some (all_say Ok st.clock (next_member (groups_left a) ∷ []) a))
  all = subst (λ (o : Option Agenda). AllSaid (option_map (all_say Ok st.clock (next_member (left o) ∷ [])) o)) e said

  images : Imaged r.number r.volumes (change_at (next_member (left_now st)) (history_cut r.number) st.volumes)
  images u among l =
      let of : is_among u a.volumes ≡ true = subst (λ vs. is_among u vs ≡ true) (sym (tied_snapshot a r st.course.members all.0 t)) among in
      by_said (subst (λ k. u < k) (as_many_change (history_cut r.number) (next_member (left_now st)) st.volumes) l)
      (subst (λ (o : Option Agenda). SaidOr o (next_member (left o)) u) (sym e) (said_worked st.clock u (record st.course { agenda = Some a }) (Some a) refl (all.1 u of))) where
        by_said : u < length st.volumes → SaidOr st.course.agenda (next_member (left_now st)) u → has_image r.number (at (change_at (next_member (left_now st)) (history_cut r.number) st.volumes) u) ≡ true
        by_said within (inl g) =
            each_change (KeepsImage r.number) (keeps_same r.number) (history_cut r.number) (keeps_made r.number r.number) (next_member (left_now st)) st.volumes u (h u among g within)
        by_said within (inr g) = subst (λ k. has_image r.number (at (change_at k (history_cut r.number) st.volumes) u) ≡ true) (sym g) (made_here r.number u st.volumes within)

-- what is said before another call
said_images : (st : State) (r : SetRow) (a : Option Agenda) → st.course.agenda ≡ a → Tied a st.course.members (Some r) → Imaging r st.course.agenda st.volumes → AllSaid a → (snapshots a ≡ true) × Imaged r.number r.volumes st.volumes
said_images st r None e t h said = absurd said
said_images st r (Some a) e t h said =
    (said.0, λ u among l. h u among (subst (SaidIn (plain Commit) u) (sym e) (said.1 u (subst (λ vs. is_among u vs ≡ true) (sym (tied_snapshot a r st.course.members said.0 t)) among))) l)

done_step : (b : Bool) (r : SetRow) (mark : Mark) (st : State) → is_commit (open_group (left_now st)) ≡ b → is_working (left_now st) ≡ true → in_progress st ≡ Some r → st.course.outcome ≡ RunningSet
    → has_complete st.sets r.number ≡ false → Tied st.course.agenda st.course.members (Some r) → Imaging r st.course.agenda st.volumes → Done (snapshots st.course.agenda) r.number r.volumes (stepped mark st)
done_step false r mark st c w e run h t images = done_steps (snapshots st.course.agenda) r.number r.volumes mark st c w run h (said_images st r st.course.agenda refl t images)
done_step true r mark st c w e run h t images =
    subst (Done (snapshots st.course.agenda) r.number r.volumes) (sym (image_step mark st (commit_is (open_group (left_now st)) c)))
    (subst (λ v. Done (snapshots st.course.agenda) r.number r.volumes (followed (runs st) (course_stepped true st.clock st.course) (image_made (in_progress st) v st))) (sym (commit_volume (left_now st) c))
    (done_commit (snapshots st.course.agenda) r (in_progress st) st e run h (worked_images st r st.course.agenda refl e t images)))

done_at : (s : Plan) (st : State) (r : SetRow) → in_progress st ≡ Some r → st.course.outcome ≡ RunningSet → has_complete st.sets r.number ≡ false
    → Tied st.course.agenda st.course.members (Some r) → Imaging r st.course.agenda st.volumes → Covers (Next (Done (snapshots st.course.agenda) r.number r.volumes)) s st
done_at s st r e run h t imaging =
    let images = said_images st r st.course.agenda refl t imaging in
    let b = snapshots st.course.agenda in
    let n = r.number in
    let us = r.volumes in
    record {
      stays = λ lane op mark told e c. inl h;
      writes = λ lane op v w mark e f. inl (incomplete_write b n us s v w mark st h);
      reverts = λ lane m v k mark f g. inl (incomplete_revert b n us s v k mark st h);
      ticks = λ lane k mark. done_ticks b n us k st run h images;
      idles = λ mark e. done_ticks b n us (idle_now st) st run h images;
      deletes_set = λ lane m c mark f. inl h;
      deletes_image = λ lane m v k mark f. inl h;
      names = λ lane w full q explicit mark g f. inl h;
      disables = λ lane w q mark g. inl h;
      starts = λ lane q mark g f. inl (incomplete_append st.sets (new_set (new_number st) q.context) n refl h);
      adds = λ lane v x q mark g f i. inl (incomplete_map (row_changed x.number (with_volume v)) (λ y. changed_number (y.number == x.number) (with_volume v) y refl) (λ y. changed_result (y.number == x.number) (with_volume v) y refl) n st.sets h);
      aborts = λ lane q mark f. inl (done_failed b n us (in_progress st) AsyncCancelled st h);
      ends = λ lane q mark f. done_end b n us q (failed AsyncCancelled st) (done_failed b n us (in_progress st) AsyncCancelled st h);
      begins = λ lane m all c mark g f. grind arith;
      gathers = λ lane q mark g. done_begun b n us Gather _ [] st.clock _ st run h;
      prepares = λ lane q mark g f. done_begun b n us Prepare _ [] st.clock _ st run h;
      snapshots = λ lane q mark g f. done_begun b n us Snapshot st.course.members _ st.clock st.course st run h;
      completes = λ lane q mark g. done_begun b n us Complete _ [] st.clock _ st run h;
      answers = λ w answer mark g. done_answers b n us w (said_of answer) st run h images;
      steps = λ mark g. done_step (is_commit (open_group (left_now st))) r mark st refl g e run h t imaging;
    }

pub completes_imaged : (s : Plan) (so_far : List Act) (act : Act) (r : SetRow) → in_progress (state s so_far) ≡ Some r → has_complete (after s (state s so_far) act).sets r.number ≡ true
    → (snapshots (state s so_far).course.agenda ≡ true) × Imaged r.number r.volumes (after s (state s so_far) act).volumes
completes_imaged s so_far act r e f =
    let st = state s so_far in
    let none = running_incomplete st.sets r (orderly s so_far).numbered e in
    by_cases (after_covered (Done (snapshots st.course.agenda) r.number r.volumes) s st (done_at s st r e (outcome_is_running s so_far r e) none
    (subst (Tied st.course.agenda st.course.members) e (tied s so_far)) (imaged s so_far r e)) (inl none) act)
  where
    by_cases : Done (snapshots (state s so_far).course.agenda) r.number r.volumes (after s (state s so_far) act)
        → (snapshots (state s so_far).course.agenda ≡ true) × Imaged r.number r.volumes (after s (state s so_far) act).volumes
    by_cases (inl i) = absurd (true_not_false (has_complete (after s (state s so_far) act).sets r.number) f i)
    by_cases (inr i) = i

pub as_many_after : (s : Plan) (so_far : List Act) (act : Act) → length (after s (state s so_far) act).volumes ≡ length s.volumes
as_many_after s so_far act = ap (λ (x : State). length x.volumes) (sym (state-append s so_far act)) ∙ as_many_volumes s (so_far ++ act ∷ [])

pub imaged_after : (s : Plan) (so_far : List Act) (act : Act) (r q : SetRow) (v : ℕ) → in_progress (state s so_far) ≡ Some r → row_of (after s (state s so_far) act) r.number ≡ Some q → is_complete q.result ≡ true
    → is_among v r.volumes ≡ true → v < length s.volumes → is_some (point_in r.number (history_of (after s (state s so_far) act) v).images) ≡ true
imaged_after s so_far act r q v e f g h l =
    (completes_imaged s so_far act r e (complete_found 1 r.number (after s (state s so_far) act).sets q f g)).1 v h (subst (λ n. v < n) (sym (as_many_after s so_far act)) l)

-- ## no other set is complete then

abbrev IsOther : ℕ → Option SetRow → Type 0
IsOther n None = Unit {0}
IsOther n (Some r) = (r.number == n) ≡ false

other_settled : (p : SetOutcome) (n : ℕ) (rows : List SetRow) → OverButNewest rows → IsOther n (find (λ r. is_running r.result) rows) → has_complete rows n ≡ false
    → has_complete (map (row_settled p) rows) n ≡ false
other_settled p n (r ∷ q ∷ rows) o i h = let ih = other_settled p n (q ∷ rows) o.1 in grind (arith, common_steps)
other_settled p n rows o i h = grind (arith, common_steps, nat_tests)

module _ (n : ℕ) where
  other_followed : (ran : Bool) (c : Course) (x : State) → OverButNewest x.sets → IsOther n (in_progress x) → has_complete x.sets n ≡ false → has_complete (followed ran c x).sets n ≡ false
  unfolding followed
  other_followed ran c x o i h = grind (arith, common_steps, other_settled)

  other_cut : (o : Option SetRow) (c : Course) (st : State) → OverButNewest st.sets → in_progress st ≡ o → IsOther n o → has_complete st.sets n ≡ false → has_complete (followed (runs st) c (cut_set o st)).sets n ≡ false
  other_cut None c st over e i h = other_followed (runs st) c st over (subst (IsOther n) (sym e) i) h
  other_cut (Some q) c st over e i h =
      other_followed (runs st) c (cut_set (Some q) st) (newest-map (row_cut q.number st.clock) (same_changed q.number (with_cut st.clock) (λ x. refl) (λ x. refl)) st.sets over)
      (subst (IsOther n) (sym (find-row_cut q.number st.clock st.sets ∙ ap (option_map (row_cut q.number st.clock)) e)) (ap (λ m. m == n) (number-cut (q.number == q.number) st.clock q) ∙ i))
      (incomplete_map (row_cut q.number st.clock) (λ r. number-cut (r.number == q.number) st.clock r) (λ r. changed_result (r.number == q.number) (with_cut st.clock) r refl) n st.sets h)

  other_image : (o : Option SetRow) (v : Option ℕ) (c : Course) (st : State) → OverButNewest st.sets → IsOther n (in_progress st) → has_complete st.sets n ≡ false
      → has_complete (followed (runs st) c (image_made o v st)).sets n ≡ false
  other_image (Some r) (Some v) c st o i h = other_followed (runs st) c (image_made (Some r) (Some v) st) o i h
  other_image _ _ c st o i h = other_followed (runs st) c st o i h

  other_stepped_as : (fails : Bool) (g : Option Group) (v : Option ℕ) (st : State) → OverButNewest st.sets → IsOther n (in_progress st) → has_complete st.sets n ≡ false → has_complete (stepped_as fails g v st).sets n ≡ false
  other_stepped_as true g v st o i h = other_followed (runs st) _ st o i h
  other_stepped_as false (Some Cut) v st o i h = other_cut (in_progress st) _ st o refl i h
  other_stepped_as false (Some Commit) v st o i h = other_image (in_progress st) v _ st o i h
  other_stepped_as false _ v st o i h = other_followed (runs st) _ st o i h

  abbrev Incomplete : State → Type 0
  Incomplete x = has_complete x.sets n ≡ false

  other_at : (s : Plan) (st : State) → OverButNewest st.sets → IsOther n (in_progress st) → Incomplete st → Covers (Next Incomplete) s st
  unfolding closed answered stepped ticked
  other_at s st o i h = record {
    stays = λ lane op mark told e c. h;
    writes = λ lane op v w mark e f. incomplete_write true n [] s v w mark st h;
    reverts = λ lane m v k mark f g. incomplete_revert true n [] s v k mark st h;
    ticks = λ lane k mark. other_followed (runs st) _ (later k st) o i h;
    idles = λ mark e. other_followed (runs st) _ (later (idle_now st) st) o i h;
    deletes_set = λ lane m c mark f. h;
    deletes_image = λ lane m v k mark f. h;
    names = λ lane w full q explicit mark g f. h;
    disables = λ lane w q mark g. h;
    starts = λ lane q mark g f. incomplete_append st.sets (new_set (new_number st) q.context) n refl h;
    adds = λ lane v x q mark g f j. incomplete_map (row_changed x.number (with_volume v)) (λ y. changed_number (y.number == x.number) (with_volume v) y refl) (λ y. changed_result (y.number == x.number) (with_volume v) y refl) n st.sets h;
    aborts = λ lane q mark f. done_failed true n [] (in_progress st) AsyncCancelled st h;
    ends = λ lane q mark f. done_failed true n [] (in_progress st) AsyncCancelled st h;
    begins = λ lane m all c mark g f. h;
    gathers = λ lane q mark g. other_followed true _ st o i h;
    prepares = λ lane q mark g f. other_followed true _ st o i h;
    snapshots = λ lane q mark g f. other_followed true _ st o i h;
    completes = λ lane q mark g. other_followed true _ st o i h;
    answers = λ w answer mark g. other_followed (runs st) _ st o i h;
    steps = λ mark g. other_stepped_as _ _ _ st o i h;
  }

-- an act completes no set but the one in progress
pub complete_before : (s : Plan) (so_far : List Act) (act : Act) (n : ℕ) → has_complete (after s (state s so_far) act).sets n ≡ true
    → (has_complete (state s so_far).sets n ≡ true) ⊎ ((r : SetRow) × ((in_progress (state s so_far) ≡ Some r) × (r.number ≡ n)))
complete_before s so_far act n e = by_set (in_progress (state s so_far)) refl (has_complete (state s so_far).sets n) refl where
  still : IsOther n (in_progress (state s so_far)) → has_complete (state s so_far).sets n ≡ false → ⊥
  still i h =
      let st = state s so_far in
      true_not_false (has_complete (after s st act).sets n) e (after_covered (Incomplete n) s st (other_at n s st (orderly s so_far).newest i h) h act)

  by_number : (r : SetRow) → in_progress (state s so_far) ≡ Some r → (b : Bool) → (r.number == n) ≡ b → has_complete (state s so_far).sets n ≡ false
      → (has_complete (state s so_far).sets n ≡ true) ⊎ ((r : SetRow) × ((in_progress (state s so_far) ≡ Some r) × (r.number ≡ n)))
  by_number r f true g h = inr (r, (f, eqb-true r.number n g))
  by_number r f false g h = absurd (still (subst (IsOther n) (sym f) g) h)

  by_set : (o : Option SetRow) → in_progress (state s so_far) ≡ o → (b : Bool) → has_complete (state s so_far).sets n ≡ b
      → (has_complete (state s so_far).sets n ≡ true) ⊎ ((r : SetRow) × ((in_progress (state s so_far) ≡ Some r) × (r.number ≡ n)))
  by_set o f true h = inl h
  by_set None f false h = absurd (still (subst (IsOther n) (sym f) tt) h)
  by_set (Some r) f false h = by_number r f (r.number == n) refl h

-- while its snapshot's agenda runs, a volume has its image of the set in progress once its Commit step is made
pub image_once_made : (s : Plan) (acts : List Act) (r : SetRow) (a : Agenda) (v : ℕ) → in_progress (state s acts) ≡ Some r → (state s acts).course.agenda ≡ Some a → has_said a.log (plain Commit) v ≡ true
    → is_among v r.volumes ≡ true → v < length s.volumes → has_image r.number (history_of (state s acts) v) ≡ true
image_once_made s acts r a v e runs said among within =
    imaged s acts r e v among (subst (SaidIn (plain Commit) v) (sym runs) said) (subst (λ n. v < n) (sym (as_many_volumes s acts)) within)
