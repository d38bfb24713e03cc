-- Who takes part: those that the session's accepted `prepare` chose, none of a disabled class.
use Rattle.std.proofs.Common.{◌≡◌, ◌∙◌, ℕ, ◌==◌, List, [], ◌∷◌, ◌++◌, Option, Some, None, refl, Bool, true, false, ap, sym, subst, map, fold, length, arith}
use Rattle.std.specs.Prelude.{◌&&◌, ◌||◌, not, if◌then◌else◌, slice_get}
use Rattle.set_agenda.specs.declared.kind.Kind.TheVariants as kind
use Rattle.set_agenda.proofs.Closings.{unless}
use Rattle.writer_meta.proofs.Laws.{and_left, and_right}
use Rattle.scenario.specs.declared.op.Op.TheVariants.{Prepare, Snapshot}
use Rattle.vss_model.specs.Sessions.{is_disabled, is_known, known_metas, has_failed_identify, selected, volumes_of}
use Rattle.vss_model.proofs.StateForm.{closed}
use Rattle.promises.proofs.Members.{is_selected, selected_are, same_course, SameChoice, same_choice, same_beside, mode_in, on_begun, on_agenda_begun}
use Rattle.promises.proofs.Members.{on_followed, on_failed_in, on_answered, on_ticked, on_stepped, on_write, on_revert}
use Rattle.promises.proofs.Words.{list_any, length-map, list_any-append, AsyncCancelled, row_gathered, row_ended, Mark, said_of, Meta, Member}
use Rattle.promises.proofs.Words.{is_among, Pair, Names, naming, naming_of, naming_found, naming_if, has_pair, found_in, with_pair, takers, Mode}
use Rattle.promises.proofs.Words.{Session, mode_of, Op, Plan, class_of, token, Event, Reply, State, start, in_progress}
use Rattle.promises.proofs.Words.{row_of_writer, followed, failed, Replied, write, Act, enabled, idle_now, after, state, Choosing, unsaid, is_chosen}
use Rattle.promises.proofs.Words.{event_says, is_unfit, choosing_if, choosing_from, choosing, is_writer, ChosenTakePart, Covers, ChangesNothing}
use Rattle.promises.proofs.Words.{after_not_enabled, told_covered, Course, begun, is_member, members_from, prepared as course_prepared, released, disable}
use Rattle.promises.proofs.Words.{or-false, list_all, AsyncPending, names_selectable, is_ascending, begins_agenda, Line, Coded, SetRow, reply, is_pending}
use Rattle.promises.proofs.Words.{named_known_components, known_at, named_known, AreOver, none_after, is_prepare, TakesPart, covered, after_enabled}

-- ## Who takes part: along the acts of a session the participants are those that its `prepare` chose, of what its lines have said.

-- ## who has failed at Identify, in the words of the promise

-- ## what the session has said, and where it stands

pub record StandsChosen (s : Plan) (w : ℕ) (st : State) (c : Choosing) (m : Mode) : Type 0 where
  pub mode : m ≡ mode_of c.all
  pub named : list_any (λ (p : Pair). p.writer == w) st.explicit ≡ c.named
  pub disabled : is_disabled s st w ≡ c.disabled
  pub members : is_member st.course.members w ≡ (is_writer s w && c.takes_part)

abbrev pub ChosenIn : Option Mode → Plan → ℕ → State → Choosing → Type 0
ChosenIn None s w st c = (st.course.disabled ≡ []) × (st.course.members ≡ [])
ChosenIn (Some m) s w st c = StandsChosen s w st c m

pub record Follows (s : Plan) (w : ℕ) (st : State) (c : Choosing) : Type 0 where
  pub rows : length st.course.rows ≡ length s.writers
  pub chosen : ChosenIn (mode_in st.session) s w st c

-- what keeps the choice
follows_same : (s : Plan) (w : ℕ) (st x : State) (c : Choosing) → SameChoice st x → Follows s w st c → Follows s w x c
follows_same s w st x c e h = grind arith

-- ## what a line names

within : (b c d e : Bool) → d ≡ (c || e) → (b || d) ≡ ((b || c) || e)
within b c d e f = grind arith

pub pair_added : (test : Pair → Bool) (q : Pair) (ps : List Pair) → list_any test (with_pair q ps) ≡ (list_any test ps || test q)
pair_added test q [] = or-false (test q)
pair_added test q (p ∷ ps) = grind (arith, within, pair_added test q ps)

named_if : (w : ℕ) (q : Pair) (ps new : List Pair) (a b : Bool) → naming_if a b q ps ≡ Names new
    → list_any (λ (p : Pair). p.writer == w) new ≡ (list_any (λ (p : Pair). p.writer == w) ps || (q.writer == w))
named_if w q ps new a b e = grind (arith, pair_added)

named_of : (w u : ℕ) (name : List ℕ) (o : Option (Option Meta)) (ps new : List Pair) → naming_of u name o ps ≡ Names new
    → list_any (λ (p : Pair). p.writer == w) new ≡ (list_any (λ (p : Pair). p.writer == w) ps || (u == w))
named_of w u name None ps new e = absurd cc
named_of w u name (Some None) ps new e = absurd cc
named_of w u name (Some (Some m)) ps new e =
    (elim (found_in name m.parts) as (λ x. naming_found u x ps ≡ Names new → list_any (λ (p : Pair). p.writer == w) new ≡ (list_any (λ (p : Pair). p.writer == w) ps || (u == w))) [
      | None ↦ λ g. absurd cc
      | Some x ↦ λ g. named_if w (record { writer = u; component = x.component }) ps new x.selectable (has_pair ps u x.component) g
    ]) e

one_disabled : (f : ℕ → Bool) (ds : List ℕ) (u : ℕ) → list_any f (ds ++ u ∷ []) ≡ (list_any f ds || f u)
one_disabled f ds u = list_any-append f ds (u ∷ []) ∙ ap (λ b. list_any f ds || b) (or-false (f u))

pub off : (b : Bool) → false ≡ (b && false)
off b = grind arith

-- ## every act

module _ (s : Plan) (w : ℕ) (st : State) (c : Choosing) (h : Follows s w st c) where
  abbrev Next : Event → Mark → Replied → Type 0
  Next event mark x = Follows s w x.1 (event_says s w (is_unfit st w) event x.0 c)

  same : (x : State) → SameChoice st x → Follows s w x c
  same x e = follows_same s w st x c e h

  -- in a session
  pub standing : (q : Session) → st.session ≡ Some q → StandsChosen s w st c q.mode
  standing q e = subst (λ (o : Option Session). ChosenIn (mode_in o) s w st c) e h.chosen

  stands_on : (x : State) (d : Choosing) (q : Session) → x.session ≡ Some q → StandsChosen s w x d q.mode → ChosenIn (mode_in x.session) s w x d
  stands_on x d q e k = subst (λ (o : Option Session). ChosenIn (mode_in o) s w x d) (sym e) k

  -- sets, volumes and the clock alone change
  beside : (x : State) → x.explicit ≡ st.explicit → x.course ≡ st.course → mode_in x.session ≡ mode_in st.session → Follows s w x c
  beside x e f g = same x (same_beside st x e f g)

  on_disable : (u : ℕ) (q : Session) → st.session ≡ Some q → Follows s w (disable u st).1 (record c { disabled = c.disabled || (class_of s u == class_of s w) })
  on_disable u q e = grind (arith, standing, stands_on, one_disabled)

  on_name : (u : ℕ) (name : List ℕ) (q : Session) (new : List Pair) → st.session ≡ Some q → naming (known_metas s st) u name st.explicit ≡ Names new
      → Follows s w (record st { explicit = new }) (record c { named = c.named || (u == w) })
  on_name u name q new e f = grind (arith, standing, stands_on, named_of)

  -- whom the session chooses
  pub chosen_by : (m : Mode) (all : Bool) → m ≡ mode_of all → list_any (λ (p : Pair). p.writer == w) st.explicit ≡ c.named → is_disabled s st w ≡ c.disabled
      → is_selected s st m w ≡ (if all then not c.disabled && not (is_unfit st w) else c.named)
  chosen_by m all e named off = grind arith

  abbrev pub asked_by : Session → List Member
  asked_by q = members_from (λ x. is_among x (takers (length s.writers) (selected s q st))) 0 st.course.rows

  pub asked_are : (q : Session) → st.session ≡ Some q → is_member (asked_by q) w ≡ (is_writer s w && is_chosen (is_unfit st w) c)
  asked_are q e = let k = standing q e in selected_are s st q.mode w h.rows ∙ ap (λ b. is_writer s w && b) (chosen_by q.mode c.all k.mode k.named k.disabled)

  on_prepare : (q : Session) → st.session ≡ Some q
      → Follows s w (followed true (course_prepared (takers (length s.writers) (selected s q st)) st.clock st.course) st)
      (record c { takes_part = is_chosen (is_unfit st w) c })
  on_prepare q e =
      let k = standing q e in
      let fixed : Course = record st.course { members = asked_by q } in
      let y : State = record st { course = fixed } in
      let d = begun kind.Prepare (asked_by q) [] st.clock fixed in
      let chosen : Choosing = record c { takes_part = is_chosen (is_unfit st w) c } in
      let own : Follows s w y chosen = record {
        rows = h.rows;
        chosen = stands_on y chosen q e (record { mode = k.mode; named = k.named; disabled = k.disabled; members = asked_are q e });
      } in
      follows_same s w y (followed true d st) chosen (on_followed true d y st refl refl (on_begun kind.Prepare (asked_by q) [] st.clock fixed)) own

  on_close : (q : Session) (x : State) → length x.course.rows ≡ length s.writers → Follows s w (closed q x) c
  unfolding closed released
  on_close q x e = record { rows = length-map x.course.rows row_ended ∙ e; chosen = (refl, refl) }

  follows : Covers Next s st
  follows = record {
    stays = λ lane o mark told e f. subst (Follows s w st) (sym (grind arith)) h;
    writes = λ lane o v u mark e f. subst (Follows s w (write s v u mark st).1) (sym (grind arith)) (same _ (on_write s v u mark st));
    reverts = λ lane n v k mark e f. same _ (on_revert s v k mark st);
    deletes_set = λ lane n x mark e. beside _ refl refl refl;
    deletes_image = λ lane n v k mark e. beside _ refl refl refl;
    ticks = λ lane n mark. same _ (on_ticked n st);
    begins = λ lane n all x mark e ctx. grind (arith, subst (λ (o : Option Session). ChosenIn (mode_in o) s w st c) e h.chosen);
    disables = λ lane u q mark g. on_disable u q g.stands;
    gathers = λ lane q mark g. same _
        (on_agenda_begun kind.Gather _ [] st st (record st.course { rows = map row_gathered st.course.rows }) (same_choice st)
        (record { disabled = refl; members = refl; rows = length-map st.course.rows row_gathered }));
    names = λ lane u full q explicit mark g named. on_name u (token s full) q explicit g.stands named;
    starts = λ lane q mark g e. beside _ refl refl (sym (ap mode_in g.stands));
    adds = λ lane v r q mark g e f. beside _ refl refl refl;
    prepares = λ lane q mark g f. on_prepare q g.stands;
    snapshots = λ lane q mark g f. same _
        (on_agenda_begun kind.Snapshot st.course.members (volumes_of (in_progress st)) st st st.course (same_choice st) (same_course st.course));
    completes = λ lane q mark g. same _ (on_agenda_begun kind.Complete _ [] st st st.course (same_choice st) (same_course st.course));
    aborts = λ lane q mark e. same _ (on_failed_in (in_progress st) AsyncCancelled st st (same_choice st));
    ends = λ lane q mark e. on_close q (failed AsyncCancelled st) ((on_failed_in (in_progress st) AsyncCancelled st st (same_choice st)).course.rows ∙ h.rows);
    answers = λ u answer mark e. same _ (on_answered u (said_of answer) st);
    steps = λ mark e. same _ (on_stepped mark st);
    idles = λ mark e. same _ (on_ticked (idle_now st) st);
  }

  follows_if : (b : Bool) (act : Act) → enabled s st act.event ≡ b → Follows s w (after s st act) (choosing_if b s w st c act)
  follows_if true act e = told_covered Next s st follows act e
  follows_if false act e = subst (λ x. Follows s w x c) (sym (after_not_enabled s st act e)) h

  follows_after : (act : Act) → Follows s w (after s st act) (choosing_if (enabled s st act.event) s w st c act)
  follows_after act = follows_if (enabled s st act.event) act refl

follows_from : (s : Plan) (w : ℕ) (st : State) (c : Choosing) (acts : List Act) → Follows s w st c → Follows s w (fold (after s) st acts) (choosing_from s w st c acts)
follows_from s w st c [] h = h
follows_from s w st c (act ∷ acts) h = follows_from s w (after s st act) (choosing_if (enabled s st act.event) s w st c act) acts (follows_after s w st c h act)

pub follows_all : (s : Plan) (w : ℕ) (acts : List Act) → Follows s w (state s acts) (choosing s w acts)
follows_all s w acts = follows_from s w (start s) (unsaid false) acts (record { rows = length-map s.writers row_of_writer; chosen = (refl, refl) })

pub chosen_take_part : (s : Plan) (so_far : List Act) → ChosenTakePart s so_far
chosen_take_part s so_far = record {
  chosen = λ q w e. (standing s w (state s so_far) (choosing s w so_far) (follows_all s w so_far) q e).members;
  nobody = λ e. (subst (λ (o : Option Session). ChosenIn (mode_in o) s 0 (state s so_far) (choosing s 0 so_far)) e (follows_all s 0 so_far).chosen).1;
}

-- ## An accepted `prepare` makes the chosen writers take part, none of a disabled class; and nothing else changes who does.

-- ## no other act

module _ (s : Plan) (st : State) where
  abbrev Stays : Event → Mark → Replied → Type 0
  Stays event mark x = (r : SetRow) → is_prepare event ≡ false → in_progress x.1 ≡ Some r → x.1.course.members ≡ st.course.members

  closed_none : (q : Session) (x : State) → in_progress x ≡ None → in_progress (closed q x) ≡ None
  unfolding closed
  closed_none q x e = e

  stays : Covers Stays s st
  stays = record {
    stays = λ lane o mark told e f r g h. refl;
    writes = λ lane o v w mark e f r g h. (on_write s v w mark st).course.members;
    reverts = λ lane n v k mark e f r g h. (on_revert s v k mark st).course.members;
    deletes_set = λ lane n c mark e r g h. refl;
    deletes_image = λ lane n v k mark e r g h. refl;
    ticks = λ lane n mark r g h. (on_ticked n st).course.members;
    begins = λ lane n all c mark e ctx r g h. refl;
    disables = λ lane w q mark e r g h. refl;
    gathers = λ lane q mark e r g h.
        (on_agenda_begun kind.Gather _ [] st st (record st.course { rows = map row_gathered st.course.rows }) (same_choice st)
        (record { disabled = refl; members = refl; rows = length-map st.course.rows row_gathered })).course.members;
    names = λ lane w full q explicit mark e f r g h. refl;
    starts = λ lane q mark e f r g h. refl;
    adds = λ lane v x q mark e f i r g h. refl;
    prepares = λ lane q mark e f r g h. absurd cc;
    snapshots = λ lane q mark e f r g h.
        (on_agenda_begun kind.Snapshot st.course.members (volumes_of (in_progress st)) st st st.course (same_choice st) (same_course st.course)).course.members;
    completes = λ lane q mark e r g h. (on_agenda_begun kind.Complete _ [] st st st.course (same_choice st) (same_course st.course)).course.members;
    aborts = λ lane q mark e r g h. (on_failed_in (in_progress st) AsyncCancelled st st (same_choice st)).course.members;
    ends = λ lane q mark e r g h. grind (arith, closed_none q (failed AsyncCancelled st) (none_after (in_progress st) AsyncCancelled st refl));
    answers = λ w answer mark e r g h. (on_answered w (said_of answer) st).course.members;
    steps = λ mark e r g h. (on_stepped mark st).course.members;
    idles = λ mark e r g h. (on_ticked (idle_now st) st).course.members;
  }

  stay_if : (b : Bool) (act : Act) (r : SetRow) → enabled s st act.event ≡ b → is_prepare act.event ≡ false → in_progress (after s st act) ≡ Some r
      → (after s st act).course.members ≡ st.course.members
  stay_if b act r e f g = grind (arith, after_enabled, covered, stays, after_not_enabled)

-- ## a writer that is named is known, so its class is not disabled

pub named_is_known : (s : Plan) (st : State) (w : ℕ) → AreOver (known_metas s st) st.explicit → list_any (λ (p : Pair). p.writer == w) st.explicit ≡ true → is_known s st w ≡ true
named_is_known s st w over e =
    subst (λ x. is_known s st x ≡ true) (omega arith)
    (known_at s st 0 s.writers w
    (named_known (known_metas s st) st.explicit w
    (and_left (list_all (names_selectable (known_metas s st)) st.explicit) (is_ascending st.explicit) over) e))

named_enabled : (s : Plan) (st : State) (w : ℕ) → AreOver (known_metas s st) st.explicit → list_any (λ (p : Pair). p.writer == w) st.explicit ≡ true → is_disabled s st w ≡ false
named_enabled s st w over e = unless (is_disabled s st w) (and_left (not (is_disabled s st w)) (not (has_failed_identify (slice_get st.course.rows w))) (named_is_known s st w over e))

-- ## `prepare`

module _ (s : Plan) (w : ℕ) (st : State) (c : Choosing) (h : Follows s w st c) (over : AreOver (known_metas s st) st.explicit) where
  abbrev Chooses : Event → Mark → Replied → Type 0
  Chooses event mark x = (lane : ℕ) → event ≡ Line lane Prepare → x.0 ≡ Coded AsyncPending
      → (is_member x.1.course.members w ≡ (is_writer s w && is_chosen (is_unfit st w) c)) × (is_chosen (is_unfit st w) c ≡ true → c.disabled ≡ false)

  same_op : (o : Op) (lane other : ℕ) → Line lane o ≡ Line other Prepare → o ≡ Prepare
  same_op o lane other e = cc

  not_pending : {X : Type 0} (o : Op) (told : Reply) (lane other : ℕ) → Line lane o ≡ Line other Prepare → ChangesNothing o told → told ≡ Coded AsyncPending → X
  not_pending o told lane other e f g = grind (arith, ap is_pending g, f.agenda (ap begins_agenda (same_op o lane other e)))

  enabled_by : (m : Mode) (all : Bool) → m ≡ mode_of all → list_any (λ (p : Pair). p.writer == w) st.explicit ≡ c.named → is_disabled s st w ≡ c.disabled
      → (if all then not c.disabled && not (is_unfit st w) else c.named) ≡ true → c.disabled ≡ false
  enabled_by m all e named off f = grind (arith, unless, and_left, named_enabled)

  members_fixed : (q : Session) → (followed true (course_prepared (takers (length s.writers) (selected s q st)) st.clock st.course) st).course.members ≡ asked_by s w st c h q
  members_fixed q =
      let fixed : Course = record st.course { members = asked_by s w st c h q } in
      (on_followed true (begun kind.Prepare (asked_by s w st c h q) [] st.clock fixed) (record st { course = fixed }) st refl refl
      (on_begun kind.Prepare (asked_by s w st c h q) [] st.clock fixed)).course.members

  prepared_now : (q : Session) → st.session ≡ Some q
      → (is_member (followed true (course_prepared (takers (length s.writers) (selected s q st)) st.clock st.course) st).course.members w ≡ (is_writer s w && is_chosen (is_unfit st w) c))
      × (is_chosen (is_unfit st w) c ≡ true → c.disabled ≡ false)
  prepared_now q e = let k = standing s w st c h q e in (ap (λ ms. is_member ms w) (members_fixed q) ∙ asked_are s w st c h q e, enabled_by q.mode c.all k.mode k.named k.disabled)

  chooses : Covers Chooses s st
  chooses = grind (arith, stays, not_pending, prepared_now)

  chosen_in : (act : Act) (lane : ℕ) → act.event ≡ Line lane Prepare → enabled s st act.event ≡ true → reply s st act ≡ Coded AsyncPending
      → (is_member (after s st act).course.members w ≡ (is_writer s w && is_chosen (is_unfit st w) c)) × (is_chosen (is_unfit st w) c ≡ true → c.disabled ≡ false)
  chosen_in act lane e on told = told_covered Chooses s st chooses act on lane e told

pub takes_part : (s : Plan) (so_far : List Act) (act : Act) → TakesPart s so_far act
takes_part s so_far act =
    let st = state s so_far in
    let over = named_known_components s so_far in
    record {
      prepared = λ lane w e on told. (chosen_in s w st (choosing s w so_far) (follows_all s w so_far) over act lane e on told).0;
      none_disabled = λ lane w e on told f.
          let x = chosen_in s w st (choosing s w so_far) (follows_all s w so_far) over act lane e on told in
          x.1 (and_right (is_writer s w) (is_chosen (is_unfit st w) (choosing s w so_far)) (sym x.0 ∙ f));
      stay = λ r e f. stay_if s st (enabled s st act.event) act r refl e f;
    }
