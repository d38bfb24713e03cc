-- Images never use more slots than their group has: of each change of the volumes, that it leaves it so.
use Rattle.std.proofs.Common.{◌≡◌, ◌∙◌, ℕ, ◌+◌, ◌==◌, ◌≤◌, ◌<◌, List, [], ◌∷◌, ◌++◌, Option, Some, None, refl, Bool, true, false, ap, sym, subst, map}
use Rattle.std.proofs.Common.{length, arith}
use Rattle.std.specs.Prelude.{if◌then◌else◌, slice_get, option_map}
use Rattle.promises.proofs.Words.{slice_get_within, get_or_from_slice_get, slice_get-map, VssResult, InsufficientStorage, AsyncCancelled, Said, Mark, Clean}
use Rattle.promises.proofs.Words.{Fault, FaultAfter, Write, Image, History, fresh, point_in, written, reverted, reverted_in_part, AreInTime, Placed}
use Rattle.promises.proofs.Words.{named, copy_of, copies_of, copies_from, group_used, used, needs_slot, said_of, Group, Cut, Commit, Session, VolumeRow, IsPlan}
use Rattle.promises.proofs.Words.{group_slots, Plan, slots_in, slots_of, placed, placed_in, group_of, blocks_of, Event, State, SetRow, Kept, in_progress}
use Rattle.promises.proofs.Words.{kept_image, Act, enabled, idle_now, after, state, UpTo, images_up_to, kept_point, row_number, images_in_time, length-append}
use Rattle.promises.proofs.Words.{orderly, at, as_many_change, within, SlotsSuffice, Covers, covered, after_enabled, after_not_enabled, Course, by_acts}
use Rattle.promises.proofs.Words.{answered as course_answered, timed as course_timed, change_at, Ending, SetFails, ending, runs, concluded, followed, failed_in}
use Rattle.promises.proofs.Words.{failed, Replied, cleared, with_room_if, put, write, reverted_as, closed, image_made, step_made, stepped_as, ticked}
use Rattle.promises.proofs.Words.{later, going_up_to, set_loses_image, number_is, length-map}
use Rattle.vss_model.proofs.StateForm.{answered, stepped}
use Rattle.promises.proofs.Members.{chain, same_number}
use Rattle.promises.proofs.GroupUsed.{group_less, group_other, group_more, changed_uses, enough_goes, one_left, InTime, used_in, LessIn, less_in_same}
use Rattle.promises.proofs.GroupUsed.{less_in_over, less_in_map, less_in_change, less_in_gone, less_images_dropped, less_released, UsesNoMore, uses_less}
use Rattle.promises.proofs.GroupUsed.{uses_over, uses_image}
use Rattle.promises.proofs.Used.{rising, one_if, written_used, reverted_used, restored_used}
use Rattle.promises.proofs.Orders.{smaller}

-- ## the groups of a plan

volume_in : (s : Plan) (v : ℕ) (r : VolumeRow) → IsPlan s → slice_get s.volumes v ≡ Some r → r.slots ≡ group_slots (slice_get s.groups r.group)
volume_in s v r plan e = grind (arith, get_or_from_slice_get, slice_get_within)

-- each volume of a group names the same volumes and the same slots
same_slots : (s : Plan) (v u : ℕ) (r q : VolumeRow) → IsPlan s → slice_get s.volumes v ≡ Some r → slice_get s.volumes u ≡ Some q → q.group ≡ r.group → slots_of s u ≡ slots_of s v
same_slots s v u r q plan e f g = ap slots_in f ∙ volume_in s u q plan f ∙ ap (λ k. group_slots (slice_get s.groups k)) g ∙ sym (volume_in s v r plan e) ∙ sym (ap slots_in e)

same_group : (s : Plan) (v u : ℕ) (r q : VolumeRow) → slice_get s.volumes v ≡ Some r → slice_get s.volumes u ≡ Some q → q.group ≡ r.group → group_of s u ≡ group_of s v
same_group s v u r q e f g = ap (placed_in s.volumes) f ∙ ap (λ k. map (placed k) s.volumes) g ∙ sym (ap (placed_in s.volumes) e)

-- whether volume u is of the group of a volume
within_placed : (k : ℕ) (rows : List VolumeRow) (u : ℕ) → within (slice_get (map (placed k) rows) u) ≡ within (option_map (placed k) (slice_get rows u))
within_placed k rows u = ap within (slice_get-map (placed k) rows u)

-- ## each change

module _ (s : Plan) (plan : IsPlan s) (st : State) (time : (v : ℕ) → AreInTime (length (at st.volumes v).writes) (at st.volumes v).images)
    (up : (v : ℕ) → UpTo (length st.sets) (at st.volumes v).images) where
  abbrev Fit : List History → Type 0
  Fit hs = (v : ℕ) → group_used (group_of s v) hs ≤ slots_of s v

  in_time : (v : ℕ) → InTime (at st.volumes v)
  in_time v = rising (length (at st.volumes v).writes) (at st.volumes v).images (time v)

  module _ (fit : Fit st.volumes) where
    by_uses : (hs : List History) → UsesNoMore st.volumes hs → Fit hs
    by_uses hs h v = chain _ _ _ (group_less (group_of s v) st.volumes hs (λ u n. h.uses u n (in_time u)) h.as_many) (fit v)

    by_less : (hs : List History) → LessIn st.volumes hs → Fit hs
    by_less hs h = by_uses hs (uses_less st.volumes hs h)

    -- ## what ends

    less_ended : (e : Ending) (x : State) → LessIn x.volumes (concluded e x).volumes
    less_ended (SetFails why) x = less_images_dropped (in_progress x) x.volumes
    less_ended _ x = less_in_same x.volumes

    less_followed : (ran : Bool) (c : Course) (x : State) → LessIn x.volumes (followed ran c x).volumes
    unfolding followed
    less_followed ran c x = less_ended (ending x.course.outcome c.outcome ran c.agenda) (record x { course = c })

    less_failed : (o : Option SetRow) (why : VssResult) (x : State) → LessIn x.volumes (failed_in o why x).volumes
    less_failed None why x = less_in_same x.volumes
    less_failed (Some r) why x = less_images_dropped (in_progress x) x.volumes

    -- ## a write

    less_room : (b : Bool) (x : State) → LessIn x.volumes (with_room_if b x).volumes
    less_room true x = less_failed (in_progress x) InsufficientStorage x
    less_room false x = less_in_same x.volumes

    module _ (v : ℕ) (w : Write) where
      abbrev roomy : State
      roomy = cleared s v w.block st

      less_roomy : LessIn st.volumes roomy.volumes
      less_roomy = less_in_gone (going_up_to s v w.block st) (group_of s v) st.volumes

      -- one slot is left where the write needs it
      room : (b : Bool) → within (slice_get (group_of s v) v) ≡ true → needs_slot (at (with_room_if b roomy).volumes v).writes (at (with_room_if b roomy).volumes v).images w.block ≡ true
          → group_used (group_of s v) (with_room_if b roomy).volumes < slots_of s v
      room b e n =
          let less = less_room b roomy in
          let before = (less.each v ((less_roomy.each v (in_time v)).in_time)).needs w.block n in
          let one = one_left (slots_of s v) (group_of s v) v w.block roomy.volumes
          (enough_goes (length st.sets) (slots_of s v) (group_of s v) v w.block st.volumes e (up v)) (by_less roomy.volumes less_roomy v) before in
          smaller _ _ _ (group_less (group_of s v) roomy.volumes (with_room_if b roomy).volumes (λ x m. (less.each x ((less_roomy.each x (in_time x)).in_time)).uses m) less.as_many) one

      less_all : (b : Bool) → LessIn st.volumes (with_room_if b roomy).volumes
      less_all b = less_in_over st.volumes roomy.volumes (with_room_if b roomy).volumes less_roomy (less_room b roomy)

      fit_room : (b : Bool) → Fit (with_room_if b roomy).volumes
      fit_room b = by_less (with_room_if b roomy).volumes (less_all b)

      -- the write itself, in its own group
      own_fits : (b t : Bool) → within (slice_get (group_of s v) v) ≡ true → needs_slot (at (with_room_if b roomy).volumes v).writes (at (with_room_if b roomy).volumes v).images w.block ≡ t
          → group_used (group_of s v) (change_at v (written w) (with_room_if b roomy).volumes) ≤ slots_of s v
      own_fits b t e n =
          let h = at (with_room_if b roomy).volumes v in
          let now = ((less_all b).each v (in_time v)).in_time in
          by_needs t n (group_more (written w) v (one_if (needs_slot h.writes h.images w.block)) (group_of s v) (with_room_if b roomy).volumes (λ m. written_used m 0 h.writes w h.images now))
        where
          one_more : (a b c : ℕ) → a ≤ b + 1 → b < c → a ≤ c
          one_more a b c l h = omega arith

          none_more : (a b c : ℕ) → a ≤ b + 0 → b ≤ c → a ≤ c
          none_more a b c l h = omega arith

          by_needs : (u : Bool) → needs_slot (at (with_room_if b roomy).volumes v).writes (at (with_room_if b roomy).volumes v).images w.block ≡ u
              → group_used (group_of s v) (change_at v (written w) (with_room_if b roomy).volumes) ≤ group_used (group_of s v)
              (with_room_if b roomy).volumes + one_if
              (needs_slot (at (with_room_if b roomy).volumes v).writes (at (with_room_if b roomy).volumes v).images w.block)
              → group_used (group_of s v) (change_at v (written w) (with_room_if b roomy).volumes) ≤ slots_of s v
          by_needs true f l = one_more _ _ _
              (subst (λ u. group_used (group_of s v) (change_at v (written w) (with_room_if b roomy).volumes) ≤ group_used (group_of s v)
              (with_room_if b roomy).volumes + one_if u) f l) (room b e f)
          by_needs false f l = none_more _ _ _
              (subst (λ u. group_used (group_of s v) (change_at v (written w) (with_room_if b roomy).volumes) ≤ group_used (group_of s v)
              (with_room_if b roomy).volumes + one_if u) f l) (fit_room b v)

      within_own : (q : VolumeRow) → slice_get s.volumes v ≡ Some q → within (slice_get (group_of s v) v) ≡ true
      within_own q f = grind (arith, within_placed, same_number)

      -- in any group
      put_fits : (b t : Bool) (x : ℕ) (r q : VolumeRow) → slice_get s.volumes x ≡ Some r → slice_get s.volumes v ≡ Some q → (q.group == r.group) ≡ t
          → group_used (group_of s x) (change_at v (written w) (with_room_if b roomy).volumes) ≤ slots_of s x
      put_fits b t x r q e f g = grind (arith, number_is, own_fits, within_own, same_slots, same_group, group_other, within_placed, fit_room)

      fit_put_at : (b : Bool) (x : ℕ) (o p : Option VolumeRow) → slice_get s.volumes x ≡ o → slice_get s.volumes v ≡ p
          → group_used (group_of s x) (change_at v (written w) (with_room_if b roomy).volumes) ≤ slots_of s x
      fit_put_at b x None p e f = grind arith
      fit_put_at b x (Some r) None e f = grind (arith, group_other, within_placed, fit_room)
      fit_put_at b x (Some r) (Some q) e f = put_fits b (q.group == r.group) x r q e f refl

      fit_put : (b : Bool) (mark : Mark) → Fit (put v w mark (with_room_if b roomy)).volumes
      fit_put b mark x = grind (arith, fit_put_at, fit_room)

    fit_write : (v : ℕ) (w : Write) (mark : Mark) → Fit (write s v w mark st).1.volumes
    unfolding write
    fit_write v w mark = fit_put v w (set_loses_image (in_progress st) st.volumes (cleared s v w.block st).volumes) mark

    -- ## a revert

    fit_changed : (f : History → History) (v : ℕ) → ((n : ℕ) → used_in n (f (at st.volumes v)) ≤ used_in n (at st.volumes v)) → Fit (change_at v f st.volumes)
    fit_changed f v g x = grind (arith, chain, group_less, changed_uses, as_many_change)

    point_of : (n v : ℕ) (k : Kept) → kept_image st n v ≡ Some k → point_in k.row.number (at st.volumes v).images ≡ Some k.point
    point_of n v k e = grind (arith, kept_point, row_number)

    fit_revert : (n v : ℕ) (k : Kept) (mark : Mark) → kept_image st n v ≡ Some k → Fit (reverted_as s v k mark st).1.volumes
    fit_revert n v k Clean e = fit_changed (reverted k.row.number k.point) v (λ m. reverted_used m k.row.number k.point (at st.volumes v).writes (at st.volumes v).images (time v) (point_of n v k e))
    fit_revert n v k Fault e = fit
    fit_revert n v k (FaultAfter j) e =
        fit_changed (reverted_in_part (blocks_of s v) k.row.number k.point j) v
        (λ m. restored_used (blocks_of s v) j m k.row.number k.point (at st.volumes v).writes (at st.volumes v).images (time v) (point_of n v k e))

    -- ## answers, steps, time

    fit_answer : (w : ℕ) (said : Said) → Fit (answered w said st).volumes
    unfolding answered
    fit_answer w said = by_less _ (less_followed (runs st) (course_answered w said st.clock st.course) st)

    fit_tick : (n : ℕ) → Fit (ticked n st).volumes
    unfolding ticked
    fit_tick n = by_less _ (less_followed (runs st) (course_timed (st.clock + n) st.course) (later n st))

    uses_same : UsesNoMore st.volumes st.volumes
    uses_same = uses_less st.volumes st.volumes (less_in_same st.volumes)

    uses_made_in : (o : Option SetRow) (v : Option ℕ) → UsesNoMore st.volumes (image_made o v st).volumes
    uses_made_in (Some r) (Some v) = uses_image r.number v st.volumes
    uses_made_in _ _ = uses_same

    uses_made : (g : Option Group) (v : Option ℕ) → UsesNoMore st.volumes (step_made g v st).volumes
    uses_made (Some Cut) v = grind (arith, uses_same)
    uses_made (Some Commit) v = uses_made_in (in_progress st) v
    uses_made _ v = uses_same

    fit_step_as : (b : Bool) (g : Option Group) (v : Option ℕ) → Fit (stepped_as b g v st).volumes
    fit_step_as b g v = grind (arith, by_less, less_followed, by_uses, uses_over, uses_made, uses_less)

    fit_step : (mark : Mark) → Fit (stepped mark st).volumes
    unfolding stepped
    fit_step mark = fit_step_as _ _ _

    -- ## the session ends

    fit_end : (q : Session) (why : VssResult) → Fit (closed q (failed why st)).volumes
    unfolding closed
    fit_end q why = grind (arith, by_less, less_in_over, less_failed, less_released)

    abbrev Next : Event → Mark → Replied → Type 0
    Next event mark x = Fit x.1.volumes

    fits : Covers Next s st
    fits = record {
      stays = λ lane o mark told e f. fit;
      writes = λ lane o v w mark e f. fit_write v w mark;
      reverts = λ lane n v k mark e f. fit_revert n v k mark e;
      deletes_set = λ lane n c mark e. by_less _ (less_in_map n st.volumes);
      deletes_image = λ lane n v k mark e. by_less _ (less_in_change k.row.number v st.volumes);
      ticks = λ lane n mark. fit_tick n;
      begins = λ lane n all c mark e ctx. fit;
      disables = λ lane w q mark g. fit;
      gathers = λ lane q mark g. by_less _ (less_followed true _ st);
      names = λ lane w full q explicit mark g named. fit;
      starts = λ lane q mark g e. fit;
      adds = λ lane v r q mark g e f. fit;
      prepares = λ lane q mark g f. by_less _ (less_followed true _ st);
      snapshots = λ lane q mark g f. by_less _ (less_followed true _ st);
      completes = λ lane q mark g. by_less _ (less_followed true _ st);
      aborts = λ lane q mark e. by_less _ (less_failed (in_progress st) AsyncCancelled st);
      ends = λ lane q mark e. fit_end q AsyncCancelled;
      answers = λ w answer mark e. fit_answer w (said_of answer);
      steps = λ mark e. fit_step mark;
      idles = λ mark e. fit_tick (idle_now st);
    }

    fit_if : (b : Bool) (act : Act) → enabled s st act.event ≡ b → Fit (after s st act).volumes
    fit_if b act e = grind (arith, after_enabled, covered, fits, after_not_enabled)

-- ## every act

abbrev FitAt : Plan → State → Type 0
FitAt s x = (v : ℕ) → group_used (group_of s v) x.volumes ≤ slots_of s v

fit_next : (s : Plan) (plan : IsPlan s) (past : List Act) (act : Act) → FitAt s (state s past) → FitAt s (after s (state s past) act)
fit_next s plan past act h =
    let st = state s past in
    let o = orderly s past in
    fit_if s plan st (images_in_time s past) (λ v. images_up_to st.sets st.volumes v o.numbered o.live) h (enabled s st act.event) act refl

none_yet : (ps : List Placed) (rows : List VolumeRow) → group_used ps (map (λ _. fresh) rows) ≡ 0
none_yet [] rows = refl
none_yet (p ∷ ps) [] = refl
none_yet (p ∷ ps) (r ∷ rows) = grind (arith, none_yet ps rows)

-- ## as many slots as copies

copies_of_are : (v n : ℕ) (ws : List Write) (images : List Image) → length (copies_of v n ws images) ≡ used n ws images
copies_of_are v n ws [] = refl
copies_of_are v n ws (i ∷ newer) =
    length-append (map (copy_of v ws i) (named n ws i newer)) (copies_of v n ws newer) ∙ ap (λ k. k + length (copies_of v n ws newer)) (length-map (named n ws i newer) (copy_of v ws i))
    ∙ ap (λ k. length (named n ws i newer) + k) (copies_of_are v n ws newer)

copies_are : (v : ℕ) (ps : List Placed) (hs : List History) → length (copies_from v ps hs) ≡ group_used ps hs
copies_are v [] hs = refl
copies_are v (p ∷ ps) [] = refl
copies_are v (p ∷ ps) (h ∷ hs) = by_group p.within (copies_of_are v p.blocks h.writes h.images) (copies_are (v + 1) ps hs) (copies_are v ps hs) where
  none_more : (n : ℕ) → n ≡ 0 + n
  none_more n = omega arith

  by_group : (b : Bool) → length (copies_of v p.blocks h.writes h.images) ≡ used p.blocks h.writes h.images
      → length (copies_from (v + 1) ps hs) ≡ group_used ps hs → length (copies_from v ps hs) ≡ group_used ps hs
      → length (if b then copies_of v p.blocks h.writes h.images ++ copies_from (v + 1) ps hs else copies_from v ps hs) ≡ (if b then used p.blocks h.writes h.images else 0) + group_used ps hs
  by_group true e f g = length-append (copies_of v p.blocks h.writes h.images) (copies_from (v + 1) ps hs) ∙ ap (λ k. k + length (copies_from (v + 1) ps hs)) e
      ∙ ap (λ k. used p.blocks h.writes h.images + k) f
  by_group false e f g = g ∙ none_more (group_used ps hs)

pub slots_suffice : (s : Plan) (so_far : List Act) → SlotsSuffice s so_far
slots_suffice s so_far plan v =
    subst (λ n. n ≤ slots_of s v) (sym (copies_are 0 (group_of s v) (state s so_far).volumes))
    (by_acts (FitAt s) s (fit_next s plan) (λ u. grind (arith, none_yet (group_of s u) s.volumes)) so_far v)
