-- Why an image goes: each act takes an image only for a cause.
use Rattle.std.proofs.Common.{◌≡◌, ◌∙◌, ℕ, ◌+◌, List, ◌⊎◌, Option, Some, None, refl, Bool, true, false, ap, sym, inl, inr, map, find, length, arith}
use Rattle.promises.proofs.Words.{Context, Backup, AppRollback, NasRollback, Failed as FailedSet, VssResult, InsufficientStorage, AsyncCancelled, Said, Mark}
use Rattle.promises.proofs.Words.{Clean, Write, History, point_in, dropped, written, said_of, Group, Session, Op, target_of, Plan, slots_of}
use Rattle.promises.proofs.Words.{group_of, Event, State, SetRow, Kept, is_running, in_progress, row_of, history_of, has_image, kept_image, row_settled}
use Rattle.promises.proofs.Words.{followed, runs, failed_in, failed, NumberedFrom, has_failed, Act, enabled, idle_now, after, state, row_number, kept_point}
use Rattle.promises.proofs.Words.{true_not_false, orderly, at, FewerIn, fewer_written, fewer_in_same, fewer_in_change, fewer_in_over, fewer_images_dropped}
use Rattle.promises.proofs.Words.{Covers, covered, after_enabled, after_not_enabled, false_from_ne_true, Course, answered as course_answered}
use Rattle.promises.proofs.Words.{stepped as course_stepped, timed as course_timed, change_at, Line, Provider, Idle, going_up_to, set_loses_image, is_backup}
use Rattle.promises.proofs.Words.{Replied, cleared, with_room_if, with_room, put, write, reverted_as, images_released, closed, step_made, stepped_as, ticked}
use Rattle.promises.proofs.Words.{later, stands, Fails, IsWanted, Takes, ImagesGoForCause, course-step_made}
use Rattle.scenario.specs.declared.op.Op.TheVariants as op
use Rattle.vss_model.specs.declared.event.Event.TheVariants.{Answer as AnswerEvent}
use Rattle.vss_model.proofs.StateForm.{answered, stepped}
use Rattle.promises.specs.Gone.{IsOfSession}
use Rattle.promises.proofs.GoneImages.{gone_dropped, gone_reverted, gone_map, gone_change, gone_group, left_in_group, least_sets, fails_as, gone_followed}
use Rattle.promises.proofs.GoneImages.{gone_failed_in, none_stepped, made_keeps}

-- ## every act

module _ (s : Plan) (st : State) (num : NumberedFrom 1 st.sets) (n v : ℕ) where
  abbrev Cause : Event → State → Type 0
  Cause event x = Fails st x n ⊎ Takes s st x n v event

  abbrev Goes : Event → Mark → Replied → Type 0
  Goes event mark x = stands st n v ≡ true → stands x.1 n v ≡ false → Cause event x.1

  by_course : (event : Event) (ran : Bool) (c : Course) (x : State) → x.volumes ≡ st.volumes → x.sets ≡ st.sets → stands st n v ≡ true
      → stands (followed ran c x) n v ≡ false → Cause event (followed ran c x)
  by_course event ran c x e f h g =
      gone_followed n v ran c x (Cause event (followed ran c x)) (ap (λ hs. has_image n (at hs v)) e ∙ h) g
      (λ r run fails i s sets. inl (fails_as st (followed ran c x) r c.outcome n (ap (find (λ (q : SetRow). is_running q.result)) (sym f) ∙ i) num (sets ∙ ap (map (row_settled c.outcome)) f) fails s))

  by_failure : (event : Event) (why : VssResult) → stands st n v ≡ true → stands (failed why st) n v ≡ false → Cause event (failed why st)
  by_failure event why h g =
      gone_failed_in n v (in_progress st) why st (Cause event (failed why st)) h g (λ r i s sets. inl (fails_as st (failed why st) r (FailedSet why) n i num sets refl s))

  -- ## writes

  pub volumes_put : (u : ℕ) (w : Write) (mark : Mark) (x : State) → FewerIn x.volumes (put u w mark x).volumes
  volumes_put u w Clean x = fewer_in_change (written w) (fewer_written w) u x.volumes
  volumes_put u w _ x = fewer_in_same x.volumes

  -- a write takes no image beside those that go for want of a slot
  pub put_keeps : (u : ℕ) (w : Write) (mark : Mark) (x : State) → stands x n v ≡ true → stands (put u w mark x) n v ≡ false → ⊥
  put_keeps u w mark x h g = grind (arith, true_not_false, gone_change)

  pub volumes_room : (b : Bool) (x : State) → FewerIn x.volumes (with_room_if b x).volumes
  volumes_room true x = by_set (in_progress x) where
    by_set : (o : Option SetRow) → FewerIn x.volumes (failed_in o InsufficientStorage x).volumes
    by_set None = fewer_in_same x.volumes
    by_set (Some r) = fewer_images_dropped (in_progress x) x.volumes
  volumes_room false x = fewer_in_same x.volumes

  sets_put : (u : ℕ) (w : Write) (mark : Mark) (x : State) → (put u w mark x).sets ≡ x.sets
  sets_put u w mark x = grind arith

  module _ (u : ℕ) (w : Write) (mark : Mark) where
    abbrev pub roomy : State
    roomy = cleared s u w.block st

    abbrev written_to : State
    written_to = put u w mark (with_room s u w.block st)

    wanted : stands st n v ≡ true → stands roomy n v ≡ false → IsWanted s st written_to u w.block n v
    wanted h g =
        let most = going_up_to s u w.block st in
        let went = gone_group most n (group_of s u) st.volumes v h g in
        let fewer = fewer_in_over roomy.volumes (with_room s u w.block st).volumes written_to.volumes
        (volumes_room (set_loses_image (in_progress st) st.volumes roomy.volumes) roomy) (volumes_put u w mark (with_room s u w.block st)) in
        record {
          shared = went.0;
          needed = λ m l. least_sets (length st.sets) (slots_of s u) (group_of s u) u w.block st.volumes m (grind (arith, went.1));
          together = λ m x l i. false_from_ne_true (stands written_to m x) (λ f. grind (arith, left_in_group most m (group_of s u) st.volumes x i ((fewer.each x).sets m f), went.1));
        }

    pub wants_or_fails : (b : Bool) (c : Bool) → stands roomy n v ≡ c → stands st n v ≡ true → stands (put u w mark (with_room_if b roomy)) n v ≡ false
        → Fails st (put u w mark (with_room_if b roomy)) n ⊎ (stands roomy n v ≡ false)
    wants_or_fails b false e h g = inr e
    wants_or_fails false true e h g = absurd (put_keeps u w mark roomy e g)
    wants_or_fails true true e h g = inl (by_stand (stands (failed InsufficientStorage roomy) n v) refl) where
      by_stand : (c : Bool) → stands (failed InsufficientStorage roomy) n v ≡ c → Fails st (put u w mark (failed InsufficientStorage roomy)) n
      by_stand true f = absurd (put_keeps u w mark (failed InsufficientStorage roomy) f g)
      by_stand false f =
          gone_failed_in n v (in_progress roomy) InsufficientStorage roomy (Fails st (put u w mark (failed InsufficientStorage roomy)) n) e f
          (λ r i s sets. fails_as st (put u w mark (failed InsufficientStorage roomy)) r (FailedSet InsufficientStorage) n i num (sets_put u w mark (failed InsufficientStorage roomy) ∙ sets) refl s)

    write_goes : stands st n v ≡ true → stands written_to n v ≡ false → Fails st written_to n ⊎ IsWanted s st written_to u w.block n v
    write_goes h g = grind (arith, wants_or_fails, wanted)

  takes_write : (lane : ℕ) (o : Op) (u : ℕ) (w : Write) (x : State) → target_of o ≡ Some (record { volume = u; block = w.block }) → IsWanted s st x u w.block n v → Takes s st x n v (Line lane o)
  takes_write lane o u w x e i = grind arith

  on_write : (lane : ℕ) (o : Op) (u : ℕ) (w : Write) (mark : Mark) → target_of o ≡ Some (record { volume = u; block = w.block }) → Goes (Line lane o) mark (write s u w mark st)
  unfolding write
  on_write lane o u w mark e h g = grind (arith, write_goes, takes_write)

  -- ## lines

  row_is : (m u : ℕ) (k : Kept) → kept_image st m u ≡ Some k → k.row.number ≡ m
  row_is m u k e = (kept_point m (row_of st m) (point_in m (history_of st u).images) k (λ r f. row_number m st.sets r f) e).0

  on_revert : (lane m u : ℕ) (k : Kept) (mark : Mark) → kept_image st m u ≡ Some k → Goes (Line lane (op.Revert m u)) mark (reverted_as s u k mark st)
  on_revert lane m u k mark e h g = grind (arith, gone_change, row_is, gone_reverted, true_not_false)

  on_delete_set : (lane m : ℕ) (x : State) → x.volumes ≡ map (dropped m) st.volumes → stands st n v ≡ true → stands x n v ≡ false → Cause (Line lane (op.DeleteSet m)) x
  on_delete_set lane m x e h g = inr (gone_dropped m n (at st.volumes v) h (gone_map (dropped m) n st.volumes v h (ap (λ hs. has_image n (at hs v)) (sym e) ∙ g)))

  on_delete_image : (lane m u : ℕ) (k : Kept) (x : State) → kept_image st m u ≡ Some k → x.volumes ≡ change_at u (dropped k.row.number) st.volumes
      → stands st n v ≡ true → stands x n v ≡ false → Cause (Line lane (op.DeleteImage m u)) x
  on_delete_image lane m u k x e f h g = grind (arith, gone_change, row_is, gone_dropped)

  -- ## the session ends

  released_goes : (q : Session) (c : Context) (set : Option ℕ) (hs : List History) → st.session ≡ Some q → q.context ≡ c → q.set ≡ set
      → has_image n (at hs v) ≡ true → has_image n (at (images_released c set hs) v) ≡ false → IsOfSession st n
  released_goes q Backup None hs e f i h g = absurd (true_not_false (has_image n (at hs v)) h g)
  released_goes q Backup (Some m) hs e f i h g =
      record { session = q; is = e; context = ap is_backup f; set = i ∙ ap Some (gone_dropped m n (at hs v) h (gone_map (dropped m) n hs v h g)) }
  released_goes q AppRollback set hs e f i h g = absurd (true_not_false (has_image n (at hs v)) h g)
  released_goes q NasRollback set hs e f i h g = absurd (true_not_false (has_image n (at hs v)) h g)

  on_close : (lane : ℕ) (q : Session) (why : VssResult) → st.session ≡ Some q → stands st n v ≡ true → stands (closed q (failed why st)) n v ≡ false
      → Cause (Line lane op.End) (closed q (failed why st))
  unfolding closed
  on_close lane q why e h g = by_stand (stands (failed why st) n v) refl where
    by_stand : (c : Bool) → stands (failed why st) n v ≡ c → Cause (Line lane op.End) (closed q (failed why st))
    by_stand true f = inr (released_goes q q.context q.set (failed why st).volumes e refl refl f g)
    by_stand false f = gone_failed_in n v (in_progress st) why st (Cause (Line lane op.End) (closed q (failed why st))) h f
        (λ r i s sets. inl (fails_as st (closed q (failed why st)) r (FailedSet why) n i num sets refl s))

  -- ## answers, steps, time

  on_answers : (w : ℕ) (said : Said) (event : Event) → stands st n v ≡ true → stands (answered w said st) n v ≡ false → Cause event (answered w said st)
  unfolding answered
  on_answers w said event h g = by_course event (runs st) (course_answered w said st.clock st.course) st refl refl h g

  on_ticks : (k : ℕ) (event : Event) → stands st n v ≡ true → stands (ticked k st) n v ≡ false → Cause event (ticked k st)
  unfolding ticked
  on_ticks k event h g = by_course event (runs st) (course_timed (st.clock + k) st.course) (later k st) refl refl h g

  on_step_as : (f : Bool) (g : Option Group) (u : Option ℕ) → stands st n v ≡ true → stands (stepped_as f g u st) n v ≡ false → Cause Provider (stepped_as f g u st)
  on_step_as true g u h e = by_course Provider (runs st) (course_stepped false st.clock st.course) st refl refl h e
  on_step_as false g u h e =
      gone_followed n v (runs st) (course_stepped true st.clock st.course) (step_made g u st) (Cause Provider (stepped_as false g u st)) (made_keeps n v g u st h) e
      (λ r run fails i s sets. absurd (true_not_false (has_failed (course_stepped true st.clock st.course).outcome) fails
      (none_stepped st.clock st.course (ap has_failed (ap (λ (c : Course). c.outcome) (sym (course-step_made g u st)) ∙ run)))))

  on_steps : (mark : Mark) → stands st n v ≡ true → stands (stepped mark st) n v ≡ false → Cause Provider (stepped mark st)
  unfolding stepped
  on_steps mark h g = on_step_as _ _ _ h g

  goes : Covers Goes s st
  goes = record {
    stays = λ lane o mark told e f h g. absurd (true_not_false (stands st n v) h g);
    writes = λ lane o u w mark e f. on_write lane o u w mark e;
    reverts = λ lane m u k mark e f. on_revert lane m u k mark e;
    deletes_set = λ lane m c mark e h g. on_delete_set lane m _ refl h g;
    deletes_image = λ lane m u k mark e h g. on_delete_image lane m u k _ e refl h g;
    ticks = λ lane k mark. on_ticks k (Line lane (op.Tick k));
    begins = λ lane m all c mark e ctx h g. absurd (true_not_false (stands st n v) h g);
    disables = λ lane w q mark i h g. absurd (true_not_false (stands st n v) h g);
    gathers = λ lane q mark i h g. by_course (Line lane op.Gather) true _ st refl refl h g;
    names = λ lane w full q explicit mark i named h g. absurd (true_not_false (stands st n v) h g);
    starts = λ lane q mark i e h g. absurd (true_not_false (stands st n v) h g);
    adds = λ lane u r q mark i e f h g. absurd (true_not_false (stands st n v) h g);
    prepares = λ lane q mark i f h g. by_course (Line lane op.Prepare) true _ st refl refl h g;
    snapshots = λ lane q mark i f h g. by_course (Line lane op.Snapshot) true _ st refl refl h g;
    completes = λ lane q mark i h g. by_course (Line lane op.Complete) true _ st refl refl h g;
    aborts = λ lane q mark e. by_failure (Line lane op.Abort) AsyncCancelled;
    ends = λ lane q mark e. on_close lane q AsyncCancelled e;
    answers = λ w answer mark e. on_answers w (said_of answer) (AnswerEvent w answer);
    steps = λ mark e. on_steps mark;
    idles = λ mark e. on_ticks (idle_now st) Idle;
  }

  goes_if : (b : Bool) (act : Act) → enabled s st act.event ≡ b → stands st n v ≡ true → stands (after s st act) n v ≡ false → Cause act.event (after s st act)
  goes_if true act e h g = grind (arith, after_enabled, covered, goes)
  goes_if false act e h g = absurd (true_not_false (stands st n v) h (ap (λ (x : State). stands x n v) (sym (after_not_enabled s st act e)) ∙ g))

  pub goes_in : (act : Act) → stands st n v ≡ true → stands (after s st act) n v ≡ false → Cause act.event (after s st act)
  goes_in act h g = goes_if (enabled s st act.event) act refl h g

pub images_go_for_cause : (s : Plan) (so_far : List Act) (act : Act) → ImagesGoForCause s so_far act
images_go_for_cause s so_far act n v h g = goes_in s (state s so_far) (orderly s so_far).numbered n v act h g
