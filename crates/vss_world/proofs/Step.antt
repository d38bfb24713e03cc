-- A step of the provider, made or failed: its set and its volume, what it comes to, and that a Commit step can cut its image.
use Rattle.std.proofs.Common.{◌≡◌, ℕ, ◌<◌, List, length, arith, Option, Some, IfSome, [], ◌∷◌, ◌++◌, refl, ap, sym, ◌∙◌, subst, Bool, true, false, ◌&&◌, None}
use Rattle.std.proofs.Common.{inl, map, not, is_ok, OnOk, Result, Ok, Err, slice_get, ◌==◌, All, is_some, if◌then◌else◌}
use Rattle.writer_state.specs.declared.said.Said.TheVariants as said
use Rattle.set_agenda.specs.Course.{posted, settled, worked}
use Rattle.vss_model.specs.declared.told.Told.TheVariants as told
use Rattle.vss_model.proofs.Changes.{made_are}
use Rattle.vss_model.proofs.StateForm.{stepped}
use Rattle.vss_world.proofs.Following.{at_of, course_of, set_move, ends_of, session_comes, has_snapshot_set, agenda_volumes}
use Rattle.vss_world.proofs.InPlan.{next_below}
use Rattle.vss_world.proofs.Moved.{world_of, IsProviderAt, clean_devices, failed_devices, goes_on, leaves_of}
use Rattle.vss_world.proofs.Prepared.{volumes_same, IsSetMove, NoneOfZero, none_of_zero, image_above, prepared_same, settled_comes, settled_keeps}
use Rattle.vss_world.proofs.Putting.{some_current}
use Rattle.vss_world.proofs.SetGoesOn.{GoesOn, IsOfAgenda, runs_snapshot, followed_goes, stepped_goes, step_same, failed_course}
use Rattle.vss_world.proofs.Words.{Act, Evicted, IsInPlan, Plan, ProviderValue, SessionsValue, SetRow, Stands, State, current_kept, current_of, found_above}
use Rattle.vss_world.proofs.Words.{in_progress, left_now, next_volume, orderly, state, Agenda, AreGroups, AreKept, Call, Cause, Clean, Course, Fault, Flush}
use Rattle.vss_world.proofs.Words.{Ghosts, Group, HasStepCause, History, IfStandFor, IfStands, IsAt, IsMove, IsMoved, IsNextStep, IsOf, IsPrepared, IsSettled}
use Rattle.vss_world.proofs.Words.{Keeps, LastsAt, Leaves, Mark, NumberedFrom, Provider, RoseAlone, RoseFor, SessionMove, SetOutcome, Settles, Told}
use Rattle.vss_world.proofs.Words.{UnexpectedProviderError, after, after_move, after_provider, counts_of, course-step_made, cut_set, devices_of, dropped}
use Rattle.vss_world.proofs.Words.{event_volumes, false≢true, followed, groups_left, has_failed, images_after, is_done, is_fault, is_flush, is_snapshot}
use Rattle.vss_world.proofs.Words.{image_made, Commit, all_say, next_member, is_working, kept_trans, left, left-is, mark_if, mark_of, number-cut, numbered-map}
use Rattle.vss_world.proofs.Words.{open_group, runs, state-append, step_made, step_taken, stepped as course_stepped, told_act, volume_of_step, volume_place}
use Rattle.vss_world.proofs.Words.{All-cons, All-nil, CanCutOn, Image, OverButNewest, UpTo, commit_volume, commits, history_of, images_up_to, is_among}
use Rattle.vss_world.proofs.Words.{is_commit, newest_number, no_image_yet, point_in, room_for_image, volumes_of}

-- ## The number of the set in progress, and the volume of the provider's next step.

-- ## the number of the set

-- a set in progress has a number above 0
pub number_above : (s : Plan) (acts : List Act) (r : SetRow) → in_progress (state s acts) ≡ Some r → 0 < r.number
number_above s acts r is = let l = found_above 1 (state s acts).sets r (orderly s acts).numbered is in omega (arith, l)

pub set_above : {D : Type 0} (blocks_told : D → Option (List (List ℕ))) (s : Plan) (p : ProviderValue D) (x : SessionsValue) (l : List ℕ) (e : List Evicted) (acts : List Act)
    → Stands blocks_told (world_of p x l e) s acts → (n : ℕ) → current_of x.sets ≡ Some n → 0 < n
set_above blocks_told s p x l e acts stands n is = grind (arith, some_current, current_kept, number_above)

-- ## its volume

pub volume_within : (s : Plan) (st : State) (volume : Option ℕ) (n : ℕ) → IsInPlan s st → n ≡ length s.volumes → next_volume (left_now st) ≡ volume → IfSome volume (λ v. v < n)
volume_within s st volume n plan long is = grind (arith, next_below)

-- ## A step of the provider, made or failed: what it comes to.

pub working : (x : SessionsValue) (group : Group) (volume : Option ℕ) (st : State) → IsNextStep x group volume → Keeps x st → is_working (left_now st) ≡ true
working x group volume st next keeps = sym (ap is_working (left-is x.coordinator.kept st.course keeps.course.follows)) ∙ next.working

-- ## which of the two it is

pub stepped_made : (g : Group) (mark : Mark) (st : State) → open_group (left_now st) ≡ Some g → mark ≡ mark_if (not true && is_flush (open_group (left_now st)))
    → stepped mark st ≡ followed (runs st) (course_stepped true st.clock st.course) (step_made (Some g) (next_volume (left_now st)) st)
unfolding stepped
stepped_made g mark st e f = grind arith

pub stepped_fails : (mark : Mark) (st : State) → open_group (left_now st) ≡ Some Flush → mark ≡ mark_if (not false && is_flush (open_group (left_now st)))
    → stepped mark st ≡ followed (runs st) (course_stepped false st.clock st.course) st
unfolding stepped
stepped_fails mark st e f = grind arith

-- ## the agenda that works is a snapshot's

works_snapshot : (o : Option Agenda) → is_working (left o) ≡ true → runs_snapshot o ≡ true
works_snapshot o e = grind arith

-- so the provider has the number of the set in progress
pub step_number : {D : Type 0} (p : ProviderValue D) (st : State) (r : SetRow) → IsPrepared p st → is_working (left_now st) ≡ true → in_progress st ≡ Some r → p.set ≡ r.number
step_number p st r prepared works is = grind arith

-- ## the step

-- the agenda in which the step at its open place is made
abbrev with_step : ℕ → Agenda → Agenda
with_step now a = all_say said.Ok now (next_member (groups_left a) ∷ []) a

step_settles : (now : ℕ) (c : Course) (a : Agenda) → c.agenda ≡ Some a
    → Settles (is_done (groups_left (with_step now a))) (with_step now a) c.outcome (course_stepped true now c).agenda (course_stepped true now c).outcome
unfolding posted settled worked
step_settles now c a runs = grind arith

-- the set whose snapshot's agenda makes a step
pub record IsStepping (s : Plan) (acts : List Act) (g : Group) (volume : Option ℕ) : Type 0 where
  pub agenda : Agenda
  pub runs : (state s acts).course.agenda ≡ Some agenda
  pub snapshot : is_snapshot agenda.kind ≡ true
  pub row : SetRow
  pub is : in_progress (state s acts) ≡ Some row
  pub opens : open_group (groups_left agenda) ≡ Some g
  pub next : next_volume (groups_left agenda) ≡ volume

cut_volumes : (o : Option SetRow) (st : State) → (cut_set o st).volumes ≡ st.volumes
cut_volumes o st = grind arith

taken : (g : Group) (n : ℕ) (volume : Option ℕ) (r : SetRow) (st : State) → in_progress st ≡ Some r → n ≡ r.number → step_taken g n volume st.volumes ≡ (step_made (Some g) volume st).volumes
taken g n volume r st e f = grind (arith, cut_volumes)

-- ## what becomes of the set

image_numbered : (o : Option SetRow) (v : Option ℕ) (st : State) → NumberedFrom 1 st.sets → NumberedFrom 1 (image_made o v st).sets
image_numbered o v st h = grind arith

step_numbered : (g : Group) (v : Option ℕ) (st : State) → NumberedFrom 1 st.sets → NumberedFrom 1 (step_made (Some g) v st).sets
step_numbered g v st h = grind (arith, image_numbered, numbered-map, number-cut)

step_course : (g : Group) (v : Option ℕ) (st : State) → IsOfAgenda st → IsOfAgenda (step_made (Some g) v st)
step_course g v st of = grind (arith, step_numbered, course-step_made, step_same, volumes_same)

-- the set goes on, or is over
made_goes : (g : Group) (v : Option ℕ) (a : Agenda) (st : State) → IsOfAgenda st → st.course.agenda ≡ Some a
    → GoesOn st (followed (runs st) (course_stepped true st.clock st.course) (step_made (Some g) v st))
made_goes g v a st of runs_it =
    let x = step_made (Some g) v st in
    let c = course_stepped true st.clock st.course in
    let course = course-step_made (Some g) v st in
    grind (
      arith,
      (step_same g v st),
      (subst (λ (d : Course). GoesOn x (followed (runs (record st { course = d })) c x)) course
          (stepped_goes a (with_step st.clock a) c x (step_course g v st of) (ap (λ (d : Course). d.agenda) course ∙ runs_it) refl
          (subst (λ (o : SetOutcome). Settles (is_done (groups_left (with_step st.clock a))) (with_step st.clock a) o c.agenda c.outcome)
          (sym (ap (λ (d : Course). d.outcome) course)) (step_settles st.clock st.course a runs_it)))),
    )

made_above : (g : Group) (v : Option ℕ) (st : State) → ((r : SetRow) → in_progress st ≡ Some r → 0 < r.number) → NoneOfZero st.volumes → NoneOfZero (step_made (Some g) v st).volumes
made_above g v st l h = grind (arith, cut_volumes, image_above)

-- the agenda that makes the step, and its set
pub stepping : (s : Plan) (x : SessionsValue) (acts : List Act) (group : Group) (volume : Option ℕ) → IsNextStep x group volume → Keeps x (state s acts) → IsStepping s acts group volume
stepping s x acts group volume next keeps = by_agenda (state s acts).course.agenda refl
  where
    works : is_working (left_now (state s acts)) ≡ true
    works = working x group volume (state s acts) next keeps

    by_set : (a : Agenda) → (state s acts).course.agenda ≡ Some a → is_snapshot a.kind ≡ true → (o : Option SetRow) → in_progress (state s acts) ≡ o → IsStepping s acts group volume
    by_set a runs snapshot None e = absurd (has_snapshot_set s acts a runs snapshot e)
    by_set a runs snapshot (Some r) e = record {
      agenda = a;
      runs = runs;
      snapshot = snapshot;
      row = r;
      is = e;
      opens = sym (ap (λ (o : Option Agenda). open_group (left o)) runs) ∙ next.group (state s acts) keeps;
      next = sym (ap (λ (o : Option Agenda). next_volume (left o)) runs) ∙ next.volume (state s acts) keeps;
    }

    by_agenda : (o : Option Agenda) → (state s acts).course.agenda ≡ o → IsStepping s acts group volume
    by_agenda None e = absurd (false≢true (sym (ap (λ (o : Option Agenda). is_working (left o)) e) ∙ works))
    by_agenda (Some a) e = by_set a e (sym (ap runs_snapshot e) ∙ works_snapshot (state s acts).course.agenda works) (in_progress (state s acts)) refl

-- what is known of a step that was made
made_set_move : {D : Type 0} (s : Plan) (p : ProviderValue D) (acts : List Act) (act : Act) (group : Group) (volume : Option ℕ) (k : IsStepping s acts group volume) → IsPrepared p (state s acts)
    → is_working (left_now (state s acts)) ≡ true
    → after s (state s acts) act ≡ followed (runs (state s acts)) (course_stepped true (state s acts).clock (state s acts).course) (step_made (Some group) volume (state s acts))
    → IsSetMove p (state s acts) (after s (state s acts) act) (step_made (Some group) volume (state s acts)).volumes
made_set_move {D = D} s p acts act group volume k prepared works to =
    let st = state s acts in
    let made = (step_made (Some group) volume st).volumes in
    record {
      goes = subst (GoesOn st) (sym to) (made_goes group volume k.agenda st (course_of s acts) k.runs);
      numbered = subst (λ (z : State). NumberedFrom 1 z.sets) (state-append s acts act) (orderly s (acts ++ act ∷ [])).numbered;
      prepared = prepared;
      above = made_above group volume st (λ r e. number_above s acts r e) (none_of_zero s acts);
      same = λ r e. ap (λ (n : ℕ). map (dropped n) made) (step_number p st r prepared works e);
    }

failed_stepped : (now : ℕ) (c : Course) → ((course_stepped false now c).agenda ≡ None) × (has_failed (course_stepped false now c).outcome ≡ true)
unfolding posted
failed_stepped now c = let f = failed_course UnexpectedProviderError c in (f.0, ap has_failed f.1)

-- one that a device failed
failed_goes_on : (st : State) → IsOfAgenda st → is_working (left_now st) ≡ true → GoesOn st (followed (runs st) (course_stepped false st.clock st.course) st)
failed_goes_on st of works = followed_goes (course_stepped false st.clock st.course) st of (stops st.course.agenda works)
  where
    stops : (o : Option Agenda) → is_working (left o) ≡ true → Call true o st.course.outcome (course_stepped false st.clock st.course).agenda (course_stepped false st.clock st.course).outcome
    stops None w = absurd (false≢true w)
    stops (Some a) w = inl (record { agenda = (failed_stepped st.clock st.course).0; failed = (failed_stepped st.clock st.course).1 })

-- ## the parts of the move

module _ {D : Type 0} (device : Ghosts D) (s : Plan) {m : SessionMove} {p q r : ProviderValue D} {x y : SessionsValue} {l : List ℕ} {e f : List Evicted}
    (of : IsOf (world_of p x l e) s) (none : f ≡ []) (same : q ≡ record p { groups = q.groups }) (settled : IsSettled device m q r) (move : IsMove (IsAt x s) s y Provider m)
    (leaves : Leaves x y) where
  -- what is left at a list of acts
  left_at : (acts : List Act) (stands : Stands device.told (world_of p x l e) s acts) (made : List History)
      → event_volumes Provider m.outcome.told (state s acts) ≡ made → IsSetMove q (state s acts) (after_move s (state s acts) Provider m) made
      → AreGroups device.told s q.groups made → IsProviderAt device.told s r (after_move s (state s acts) Provider m)
  left_at acts stands made volumes known groups =
      let st = state s acts in
      let here = at_of of acts stands in
      settled_comes device s q st (after_move s st Provider m) made known groups m r settled (ends_of st move here) (move.volumes st here ∙ ap (images_after m) volumes)

  pub made_moves : (group : Group) (volume : Option ℕ) → IsNextStep x group volume → m.outcome.told ≡ told.Step group volume false
      → IfStandFor device.told s p.groups (λ hs. AreGroups device.told s q.groups (step_taken group p.set volume hs)) → AreKept device p.groups q.groups
      → counts_of device.count q.groups ≡ counts_of device.count p.groups → IsMoved device (world_of p x l e) (world_of r y l f) s Provider m.outcome
  made_moves group volume next told_is stands_so kept counts =
      let after_settle = settled_keeps device m q r settled in
      let marked : mark_of m.outcome.told ≡ Clean = ap mark_of told_is in
      let to : IfStands device.told (world_of p x l e) s (λ st. after_move s st Provider m ≡ followed (runs st) (course_stepped true st.clock st.course) (step_made (Some group) volume st))
      = λ acts stands. let st = state s acts in
      after_provider s st (told_act Provider m.outcome.told) refl (working x group volume st next stands.at.sessions)
      ∙ stepped_made group (mark_of m.outcome.told) st (next.group st stands.at.sessions) marked
      ∙ ap (λ (v : Option ℕ). followed (runs st) (course_stepped true st.clock st.course) (step_made (Some group) v st)) (next.volume st stands.at.sessions) in
      session_comes device s Provider m (IsAt x s) none move (at_of of)
      (clean_devices device s Provider m.outcome p r x y l l e f of (kept_trans device p.groups q.groups r.groups kept after_settle.0) (leaves_of s x y of.writers leaves)
      (after_settle.1 ∙ counts) (ap is_fault marked))
      (goes_on x y leaves)
      (λ acts stands.
      let st = state s acts in
      let k = stepping s x acts group volume next stands.at.sessions in
      let works = working x group volume st next stands.at.sessions in
      left_at acts stands (step_made (Some group) volume st).volumes
      (ap (λ (t : Told). event_volumes Provider t st) told_is ∙ ap (λ (x : State). x.volumes) (made_are (Some group) volume st))
      (made_set_move s q acts (told_act Provider m.outcome.told) group volume k (prepared_same p q st same stands.at.prepared) works (to acts stands))
      (subst (AreGroups device.told s q.groups) (taken group p.set volume k.row st k.is (step_number p st k.row stands.at.prepared works k.is)) (stands_so st.volumes stands.at.groups)))
      of tt

  -- one that a device fails
  pub failed_moves : (v : ℕ) → IsNextStep x Flush (Some v) → m.outcome.told ≡ told.Step Flush (Some v) true
      → IfStandFor device.told s p.groups (AreGroups device.told s q.groups) → AreKept device p.groups q.groups
      → RoseAlone (volume_place s v) (counts_of device.count p.groups) (counts_of device.count q.groups)
      → IsMoved device (world_of p x l e) (world_of r y l f) s Provider m.outcome
  failed_moves v next told_is stands_so kept rose =
      let after_settle = settled_keeps device m q r settled in
      let marked : mark_of m.outcome.told ≡ Fault = ap mark_of told_is in
      let to : IfStands device.told (world_of p x l e) s (λ st. after_move s st Provider m ≡ followed (runs st) (course_stepped false st.clock st.course) st)
      = λ acts stands. let st = state s acts in let opens = next.group st stands.at.sessions in
      after_provider s st (told_act Provider m.outcome.told) refl (working x Flush (Some v) st next stands.at.sessions)
      ∙ stepped_fails (mark_of m.outcome.told) st opens (marked ∙ sym (ap (λ (o : Option Group). mark_if (is_flush o)) opens)) in
      let for_volume : RoseFor s (Some v) (counts_of device.count p.groups) (counts_of device.count r.groups)
      = inl (subst (λ ns. RoseAlone (volume_place s v) (counts_of device.count p.groups) ns) (sym after_settle.1) rose) in
      session_comes device s Provider m (IsAt x s) none move (at_of of)
      (failed_devices device s Provider m.outcome p r x y l l e f of (kept_trans device p.groups q.groups r.groups kept after_settle.0) (leaves_of s x y of.writers leaves)
      (subst (λ (t : Told). RoseFor s (volume_of_step t) (counts_of device.count p.groups) (counts_of device.count r.groups)) (sym told_is) for_volume) (ap is_fault marked))
      (goes_on x y leaves)
      (λ acts stands.
      let st = state s acts in
      let goes = subst (GoesOn st) (sym (to acts stands)) (failed_goes_on st (course_of s acts) (working x Flush (Some v) st next stands.at.sessions)) in
      left_at acts stands st.volumes (ap (λ (t : Told). event_volumes Provider t st) told_is)
      (set_move s q acts (told_act Provider m.outcome.told) (prepared_same p q st same stands.at.prepared) goes) (stands_so st.volumes stands.at.groups))
      of tt

  -- either
  pub step_moves : (group : Group) (volume : Option ℕ) (made : Result Unit Cause) (ok : Bool) → IsNextStep x group volume
      → m.outcome.told ≡ told.Step group volume (not ok && is_flush (Some group)) → ok ≡ is_ok made
      → IfStandFor device.told s p.groups (λ hs. AreGroups device.told s q.groups (step_taken group p.set volume hs)) → AreKept device p.groups q.groups
      → HasStepCause device.count s group volume made p.groups q.groups → IsMoved device (world_of p x l e) (world_of r y l f) s Provider m.outcome
  step_moves group volume (Ok done) true next told_is is stands_so kept cause = made_moves group volume next told_is stands_so kept cause
  step_moves group volume (Ok done) false next told_is is stands_so kept cause = cc
  step_moves group volume (Err fault) true next told_is is stands_so kept cause = cc
  step_moves group volume (Err fault) false next told_is is stands_so kept cause =
      let flush = cause.0 in
      let at = cause.3 in
      failed_moves cause.2 (subst (λ (o : Option ℕ). IsNextStep x Flush o) at (subst (λ (w : Group). IsNextStep x w volume) flush next))
      (told_is ∙ ap (λ (w : Group). told.Step w volume (is_flush (Some w))) flush ∙ ap (λ (o : Option ℕ). told.Step Flush o true) at)
      (subst (λ (w : Group). IfStandFor device.told s p.groups (λ hs. AreGroups device.told s q.groups (step_taken w p.set volume hs))) flush stands_so) kept cause.4

-- what a flush wrote lasts
pub step_lasts : {D : Type 0} (device : Ghosts D) (s : Plan) (group : Group) (volume : Option ℕ) (made : Result Unit Cause) (ok : Bool) (m : SessionMove) (q r : ProviderValue D)
    → m.outcome.told ≡ told.Step group volume (not ok && is_flush (Some group)) → ok ≡ is_ok made → IsSettled device m q r
    → (group ≡ Flush → OnOk made (IfSome volume (λ v. LastsAt device (volume_place s v) (devices_of q.groups))))
    → (v : ℕ) (d : D) → m.outcome.told ≡ told.Step Flush (Some v) false → slice_get (devices_of r.groups) (volume_place s v) ≡ Some d → device.lasting d ≡ device.told d
step_lasts device s group volume made ok m q r told_is is settled lasts v d said here = grind arith

-- ## at a Commit step the provider can cut the image of its set on the step's volume

-- ## images of earlier sets

under : (n : ℕ) (images : List Image) → UpTo n images → is_some (point_in n images) ≡ false → All (λ (i : Image). i.set < n) images
under n [] h e = All-nil (λ (i : Image). i.set < n)
under n (i ∷ images) h e =
    let parts = by_head (i.set == n) e in All-cons (λ (j : Image). j.set < n) i images (grind (arith, h.0, parts.0)) (under n images h.1 parts.1) where
      by_head : (b : Bool) → is_some (if b then Some i.point else point_in n images) ≡ false → (b ≡ false) × (is_some (point_in n images) ≡ false)
      by_head b e = grind arith

-- ## the step

number_of : (st : State) (r : SetRow) → NumberedFrom 1 st.sets → OverButNewest st.sets → in_progress st ≡ Some r → r.number ≡ length st.sets
number_of st r numbered newest is = let n = newest_number 1 st.sets r numbered newest is in omega (arith, n)

can_commit_at : {D : Type 0} (blocks_told : D → Option (List (List ℕ))) (s : Plan) (p : ProviderValue D) (x : SessionsValue) (l : List ℕ) (e : List Evicted) (acts : List Act) (volume : Option ℕ)
    → Stands blocks_told (world_of p x l e) s acts → IsNextStep x Commit volume → (v : ℕ) × (volume ≡ Some v) × CanCutOn blocks_told s p v
can_commit_at blocks_told s p x l e acts volume stands next =
    let st = state s acts in
    let o = orderly s acts in
    let keeps = stands.at.sessions in
    let opens : is_commit (open_group (left_now st)) ≡ true = ap is_commit (next.group st keeps) in
    let c = commits s acts opens in
    let r = c.set in
    let v = next_member (groups_left c.agenda) in
    let set : p.set ≡ r.number = step_number p st r stands.at.prepared (working x Commit volume st next keeps) c.is in
    let among : is_among v r.volumes ≡ true = subst (λ (vs : List ℕ). is_among v vs ≡ true) (agenda_volumes s acts c.agenda r c.runs c.here.snapshot c.is) c.here.among in
    let none = no_image_yet s acts r c.agenda v c.is c.runs c.here.unsaid in
    let number = number_of st r o.numbered o.newest c.is in (
      v,
      sym (next.volume st keeps) ∙ commit_volume (left_now st) opens ∙ ap (λ (a : Option Agenda). Some (next_member (left a))) c.runs,
      record {
        histories = st.volumes;
        stand = stands.at.groups;
        above_zero = subst (λ (n : ℕ). 0 < n) (sym set) (number_above s acts r c.is);
        among = ap (is_among v) (stands.at.prepared.volumes ∙ ap volumes_of c.is) ∙ among;
        room = room_for_image s acts r v c.is among none;
        newest = subst (λ (n : ℕ). All (λ (i : Image). i.set < n) (history_of st v).images) (sym set)
            (under r.number (history_of st v).images (subst (λ (n : ℕ). UpTo n (history_of st v).images) (sym number) (images_up_to st.sets st.volumes v o.numbered o.live)) none);
      },
    )

pub can_commit : {D : Type 0} (blocks_told : D → Option (List (List ℕ))) (s : Plan) (p : ProviderValue D) (x : SessionsValue) (l : List ℕ) (e : List Evicted) (acts : List Act) (group : Group)
    (volume : Option ℕ) → Stands blocks_told (world_of p x l e) s acts → IsNextStep x group volume → group ≡ Commit → IfSome volume (CanCutOn blocks_told s p)
can_commit blocks_told s p x l e acts group volume stands next commit =
    let at = can_commit_at blocks_told s p x l e acts volume stands (subst (λ (g : Group). IsNextStep x g volume) commit next) in
    subst (λ (o : Option ℕ). IfSome o (CanCutOn blocks_told s p)) (sym at.1) at.2
