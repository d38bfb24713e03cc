-- What was asked for is done, and an image of context 0 stands only while its session does.
use Rattle.std.proofs.Common.{◌≡◌, ◌∙◌, ℕ, ◌+◌, ◌==◌, ◌<◌, zero, suc, List, [], ◌∷◌, Option, Some, None, refl, Bool, true, false, ap, sym, subst, map, arith}
use Rattle.std.proofs.Common.{◌++◌}
use Rattle.std.specs.Prelude.{◌&&◌, not, nat_lt, is_some, if◌then◌else◌, option_map}
use Rattle.requestor.specs.declared.session_call.SessionCall.TheVariants as call
use Rattle.vss_model.proofs.StateForm.{answered, stepped}
use Rattle.promises.proofs.Contexts.{context_in, context_map, changed_number, changed_context, context_other, context_new, HasMade, Owned, NoMore, Relates}
use Rattle.promises.proofs.Contexts.{relates_same, relates_over, relates_followed, relates_failed, relates_room, relates_put, owned_by, cut_contexts}
use Rattle.promises.proofs.Contexts.{owned_made}
use Rattle.promises.proofs.GoneImages.{kept_by}
use Rattle.promises.proofs.Members.{not_itself, same_number}
use Rattle.promises.proofs.Words.{lt-ltb, Mark, Clean, Fault, FaultAfter, Image, History, point_in, dropped, up_to_set, reverted, reverted_in_part, change_at}
use Rattle.promises.proofs.Words.{DeleteSet, DeleteImage, Revert, Plan, blocks_of, Event, Line, State, Kept, has_image, is_kept_set, row_of, history_of}
use Rattle.promises.proofs.Words.{kept_image, Act, enabled, happens, after, state, row_number, kept_point, at, reverts, IsDone, stands, after_enabled}
use Rattle.promises.proofs.Words.{some_same, false_from_ne_true, count_images, revert_refusal, Replied, delete_set, delete_kept, delete_image, reverted_as}
use Rattle.promises.proofs.Words.{revert, Context, Backup, VssResult, Said, Write, open_group, Group, Session, started, SetRow, start, in_progress, left_now}
use Rattle.promises.proofs.Words.{followed, runs, failed, NumberedFrom, IsOfSession as IsSessionOfSet, is_early, LetsGo, is_provider, after_commit, is_commit}
use Rattle.promises.proofs.Words.{next_volume, fewer_after, fewer_followed, true_not_false, orderly, BackupsEnd, Covers, covered, after_not_enabled, and_parts}
use Rattle.promises.proofs.Words.{by_acts, answered as course_answered, stepped as course_stepped, timed as course_timed, is_backup, write, start_set}
use Rattle.promises.proofs.Words.{images_released, closed, image_made, step_made, stepped_as, ticked, later, new_set, new_number, number_is}

-- ## What was asked for is done.

-- ## on which volume

no_image : (n v : ℕ) → has_image n (at [] v) ≡ true → ⊥
no_image n v e = grind arith

pub kept_map : (f : History → History) (n : ℕ) (hs : List History) (v : ℕ) → has_image n (at (map f hs) v) ≡ true → has_image n (f (at hs v)) ≡ true
kept_map f n [] v e = absurd (no_image n v e)
kept_map f n (h ∷ hs) zero e = e
kept_map f n (h ∷ hs) (suc v) e = kept_map f n hs v e

kept_change : (f : History → History) (n : ℕ) (hs : List History) (v : ℕ) → has_image n (at (change_at v f hs) v) ≡ true → has_image n (f (at hs v)) ≡ true
kept_change f n [] v e = absurd (no_image n v e)
kept_change f n (h ∷ hs) zero e = e
kept_change f n (h ∷ hs) (suc v) e = kept_change f n hs v e

itself : (n : ℕ) → not (n == n) ≡ true → ⊥
itself n e = not_itself (n == n) (same_number n) e

pub dropped_gone : (n : ℕ) (h : History) → has_image n (dropped n h) ≡ true → ⊥
dropped_gone n h e = itself n (kept_by (λ k. not (k == n)) n h.images e)

newer_gone : (n m : ℕ) (images : List Image) → n < m → is_some (point_in m (up_to_set n images)) ≡ true → ⊥
newer_gone n m images l e = not_itself (nat_lt n m) (lt-ltb n m l) (kept_by (λ k. not (nat_lt n k)) m images e)

-- where no image is counted, none stands
none_counted : (n : ℕ) (hs : List History) (v : ℕ) → nat_lt 0 (count_images n hs) ≡ false → has_image n (at hs v) ≡ true → ⊥
none_counted n [] v e f = no_image n v f
none_counted n (h ∷ hs) zero e f = grind arith
none_counted n (h ∷ hs) (suc v) e f = grind (arith, none_counted n hs v (grind arith) f)

-- ## the lines

module _ (s : Plan) (st : State) where
  deletes_by : (b : Bool) (n v : ℕ) (x y : Replied) → (b ≡ true → stands x.1 n v ≡ true → ⊥) → (b ≡ false → stands y.1 n v ≡ true → ⊥) → stands (if b then x else y).1 n v ≡ true → ⊥
  deletes_by b n v x y f g e = grind arith

  second_false : (a b : Bool) → a ≡ true → (a && b) ≡ false → b ≡ false
  second_false a b e f = grind arith

  set_gone : (n v : ℕ) → is_kept_set st n ≡ true → stands (delete_set n st).1 n v ≡ true → ⊥
  unfolding delete_set
  set_gone n v k e =
      deletes_by (is_kept_set st n && nat_lt 0 (count_images n st.volumes)) n v _ _
      (λ f g. dropped_gone n (at st.volumes v) (kept_map (dropped n) n st.volumes v g))
      (λ f g. none_counted n st.volumes v (second_false (is_kept_set st n) (nat_lt 0 (count_images n st.volumes)) k f) g) e

  row_is : (n v : ℕ) (k : Kept) → kept_image st n v ≡ Some k → k.row.number ≡ n
  row_is n v k e = (kept_point n (row_of st n) (point_in n (history_of st v).images) k (λ r f. row_number n st.sets r f) e).0

  image_gone : (n v : ℕ) (k : Kept) → kept_image st n v ≡ Some k → stands (delete_image n v st).1 n v ≡ true → ⊥
  unfolding delete_image
  image_gone n v k e f = by_kept (kept_image st n v) e f where
    by_kept : (o : Option Kept) → o ≡ Some k → stands (delete_kept v o st).1 n v ≡ true → ⊥
    by_kept None g h = absurd cc
    by_kept (Some x) g h =
        let same : x.row.number ≡ n = ap (λ (y : Kept). y.row.number) (some_same x k g) ∙ row_is n v k e in
        dropped_gone n (at st.volumes v) (subst (λ m. has_image n (dropped m (at st.volumes v)) ≡ true) same (kept_change (dropped x.row.number) n st.volumes v h))

  reverted_gone : (n v m : ℕ) (k : Kept) (mark : Mark) → k.row.number ≡ n → reverts mark ≡ true → n < m → stands (reverted_as s v k mark st).1 m v ≡ true → ⊥
  reverted_gone n v m k Clean e r l f = newer_gone k.row.number m (at st.volumes v).images (subst (λ x. x < m) (sym e) l) (kept_change (reverted k.row.number k.point) m st.volumes v f)
  reverted_gone n v m k Fault e r l f = absurd cc
  reverted_gone n v m k (FaultAfter j) e r l f =
      newer_gone k.row.number m (at st.volumes v).images (subst (λ x. x < m) (sym e) l) (kept_change (reverted_in_part (blocks_of s v) k.row.number k.point j) m st.volumes v f)

  revert_is : (n v : ℕ) (k : Kept) (mark : Mark) → kept_image st n v ≡ Some k → revert_refusal v (Some k) st ≡ None → revert s n v mark st ≡ reverted_as s v k mark st
  unfolding revert
  revert_is n v k mark e f = grind arith

  after_line : (act : Act) (event : Event) → act.event ≡ event → enabled s st event ≡ true → after s st act ≡ (happens s event act.mark st).1
  after_line act event e on = after_enabled s st act (ap (enabled s st) e ∙ on) ∙ ap (λ x. (happens s x act.mark st).1) e

pub is_done : (s : Plan) (so_far : List Act) (act : Act) → IsDone s so_far act
is_done s so_far act =
    let st = state s so_far in
    record {
      set = λ lane n v e k. false_from_ne_true _ (λ f. set_gone s st n v k (ap (λ (x : State). stands x n v) (sym (after_line s st act (Line lane (DeleteSet n)) e refl)) ∙ f));
      image = λ lane n v k e h. false_from_ne_true _ (λ f. image_gone s st n v k h (ap (λ (x : State). stands x n v) (sym (after_line s st act (Line lane (DeleteImage n v)) e refl)) ∙ f));
      newer = λ lane n v m k e h i r l. false_from_ne_true _
          (λ f. reverted_gone s st n v m k act.mark (row_is s st n v k h) r l
          (ap (λ (x : State). stands x m v) (sym (after_line s st act (Line lane (Revert n v)) e refl ∙ ap (λ (x : Replied). x.1) (revert_is s st n v k act.mark h i))) ∙ f));
    }

-- ## An image of context 0 stands only while its session does.

-- ## a new set

owned_start : (q : Session) (st : State) → LetsGo call.Start q st → NumberedFrom 1 st.sets → Owned st → Owned (start_set q st).1
owned_start q st g num h = record {
  own = λ n v c i. by_number n v (new_number st == n) refl c i;
  same = λ p n e f. let here = of_new p n e f in
      subst (λ m. context_in (st.sets ++ new_set (new_number st) q.context ∷ []) m ≡ Some p.context) (here.0)
      (context_new 1 st.sets (new_set (new_number st) q.context) num refl ∙ ap Some here.1);
  early = λ p e f. absurd (not_early p e f);
} where
  of_new : (p : Session) (n : ℕ) → Some (started (new_number st) q) ≡ Some p → p.set ≡ Some n → (new_number st ≡ n) × (q.context ≡ p.context)
  of_new p n e f = grind (arith, some_same)

  not_early : (p : Session) → Some (started (new_number st) q) ≡ Some p → is_early p.stage ≡ true → ⊥
  not_early p e f = true_not_false (is_early p.stage) f (ap (λ (y : Session). is_early y.stage) (sym (some_same (started (new_number st) q) p e)))

  by_number : (n v : ℕ) (b : Bool) → (new_number st == n) ≡ b → context_in (st.sets ++ new_set (new_number st) q.context ∷ []) n ≡ Some Backup
      → stands st n v ≡ true → HasMade (Some (started (new_number st) q)) n
  by_number n v true e c i = record { session = started (new_number st) q; is = refl; set = ap Some (number_is (new_number st) n e) }
  by_number n v false e c i =
      let made = h.own n v (sym (context_other st.sets (new_set (new_number st) q.context) n e) ∙ c) i in
      let same = some_same made.session q (sym made.is ∙ g.stands) in
      grind (arith, h.early q g.stands (grind (arith, g.allowed)), ap (λ (y : Session). y.set) (sym same) ∙ made.set)

-- ## every act

module _ (s : Plan) (st : State) (num : NumberedFrom 1 st.sets) (h : Owned st) where
  abbrev Next : Event → Mark → Replied → Type 0
  Next event mark x = NoMore st x.1 → Owned x.1

  by : (x : State) → Relates st.sets st.session x → NoMore st x → Owned x
  by x r img = owned_by st x r img h

  related_write : (v : ℕ) (w : Write) (mark : Mark) → Relates st.sets st.session (write s v w mark st).1
  unfolding write
  related_write v w mark = grind (arith, relates_put, relates_room)

  related_revert : (v : ℕ) (k : Kept) (mark : Mark) → Relates st.sets st.session (reverted_as s v k mark st).1
  related_revert v k Clean = relates_same st.sets _ (λ n. refl)
  related_revert v k _ = relates_same st.sets _ (λ n. refl)

  related_answer : (w : ℕ) (said : Said) → Relates st.sets st.session (answered w said st)
  unfolding answered
  related_answer w said = relates_followed (runs st) (course_answered w said st.clock st.course) st

  related_tick : (n : ℕ) → Relates st.sets st.session (ticked n st)
  unfolding ticked
  related_tick n = relates_followed (runs st) (course_timed (st.clock + n) st.course) (later n st)

  related_step_as : (b : Bool) (g : Option Group) (v : Option ℕ) → Relates st.sets st.session (stepped_as b g v st)
  related_step_as true g v = relates_followed (runs st) (course_stepped false st.clock st.course) st
  related_step_as false g v =
      subst (λ p. Relates st.sets p (followed (runs st) (course_stepped true st.clock st.course) (step_made g v st))) (grind arith)
      (relates_over st.sets (step_made g v st).sets (step_made g v st).session _ (grind (arith, cut_contexts)) (relates_followed (runs st) (course_stepped true st.clock st.course) (step_made g v st)))

  related_step : (mark : Mark) → Relates st.sets st.session (stepped mark st)
  unfolding stepped
  related_step mark = related_step_as _ _ _

  -- the session ends, and takes its images along
  none_left : (q : Session) (x : State) (n v : ℕ) → q.context ≡ Backup → q.set ≡ Some n → stands (closed q x) n v ≡ true → ⊥
  unfolding closed
  none_left q x n v e f g =
      dropped_gone n (at x.volumes v)
      (kept_map (dropped n) n x.volumes v
      (ap (λ hs. has_image n (at hs v)) (sym (ap (λ c. images_released c q.set x.volumes) e ∙ ap (λ k. images_released Backup k x.volumes) f)) ∙ g))

  closed_sets : (q : Session) (x : State) → (closed q x).sets ≡ x.sets
  unfolding closed
  closed_sets q x = refl

  closed_session : (q : Session) (x : State) → (closed q x).session ≡ None
  unfolding closed
  closed_session q x = refl

  on_end : (q : Session) (why : VssResult) → st.session ≡ Some q → NoMore st (closed q (failed why st)) → Owned (closed q (failed why st))
  on_end q why e img = record {
    own = λ n v c g. absurd (gone n v c g);
    same = λ p n f g. none_some _ p (closed_session q (failed why st)) f;
    early = λ p f g. none_some _ p (closed_session q (failed why st)) f;
  } where
    none_some : {X : Type 0} (o : Option Session) (p : Session) → o ≡ None → o ≡ Some p → X
    none_some o p e f = absurd cc

    gone : (n v : ℕ) → context_in (closed q (failed why st)).sets n ≡ Some Backup → stands (closed q (failed why st)) n v ≡ true → ⊥
    gone n v c g =
        let con : context_in st.sets n ≡ Some Backup = sym ((relates_failed (in_progress st) why st).contexts n) ∙ sym (ap (λ rows. context_in rows n) (closed_sets q (failed why st))) ∙ c in
        let made = h.own n v con (img n v g) in
        let set : q.set ≡ Some n = ap (λ (y : Session). y.set) (some_same q made.session (sym e ∙ made.is)) ∙ made.set in
        none_left q (failed why st) n v (grind (arith, sym con ∙ h.same q n e set)) set g

  on_begin : (q : Session) (x : State) → st.session ≡ None → q.set ≡ None → x.sets ≡ st.sets → x.session ≡ Some q → NoMore st x → Owned x
  on_begin q x e f sets ses img = grind arith

  owned_next : Covers Next s st
  owned_next = grind (arith, by, related_write, related_revert, relates_same, related_tick, on_begin, relates_followed, owned_start, context_map, changed_number, changed_context, relates_failed, on_end, related_answer, related_step)

  owned_if : (b : Bool) (act : Act) → enabled s st act.event ≡ b → NoMore st (after s st act) → Owned (after s st act)
  owned_if b act e img = grind (arith, after_enabled, covered, owned_next, after_not_enabled)

  owned_after : (b : Bool) (act : Act) → (is_provider act.event && is_commit (open_group (left_now st))) ≡ b → IsSessionOfSet st.session st.course.outcome (in_progress st) → Owned (after s st act)
  owned_after false act e k = owned_if (enabled s st act.event) act refl (λ n v g. ((fewer_after s st act e).each v).sets n g)
  owned_after true act e k =
      let parts = and_parts (is_provider act.event) (is_commit (open_group (left_now st))) e in
      let x = image_made (in_progress st) (next_volume (left_now st)) st in
      subst Owned (sym (after_commit s st act parts.0 parts.1))
      (owned_by x _ (relates_followed (runs st) (course_stepped true st.clock st.course) x)
      (λ n v g. ((fewer_followed (runs st) (course_stepped true st.clock st.course) x).each v).sets n g) (owned_made (in_progress st) (next_volume (left_now st)) st refl k h))

start_owned : (s : Plan) → Owned (start s)
start_owned s = record { own = λ n v c g. absurd cc; same = λ q n e f. absurd cc; early = λ q e f. absurd cc }

pub backups_end : (s : Plan) (so_far : List Act) → BackupsEnd s so_far
backups_end s so_far n v r e b g =
    let st = state s so_far in
    let h : Owned st = by_acts Owned s
    (λ past act g. owned_after s (state s past) (orderly s past).numbered g _ act refl (orderly s past).session) (start_owned s) so_far in
    let con : context_in st.sets n ≡ Some Backup = ap (option_map (λ (x : SetRow). x.context)) e ∙ ap Some (backup r.context b) in
    let made = h.own n v con g in
    record { session = made.session; is = made.is; context = ap is_backup (some_context Backup made.session.context (sym con ∙ h.same made.session n made.is made.set)); set = made.set }
  where
    backup : (c : Context) → is_backup c ≡ true → c ≡ Backup
    backup Backup e = refl
    backup _ e = absurd cc

    some_context : (x y : Context) → Some x ≡ Some y → y ≡ x
    some_context x y e = cc
