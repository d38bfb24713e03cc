-- The component document lists what the session has named, and what comes with it.
use Rattle.std.proofs.Common.{◌≡◌, ◌∙◌, ℕ, ◌+◌, ◌==◌, zero, suc, List, [], ◌∷◌, Option, Some, None, refl, Bool, true, false, ap, sym, subst, map, length, fold, arith}
use Rattle.std.specs.Prelude.{◌&&◌, ◌||◌, not, if◌then◌else◌, slice_get}
use Rattle.promises.proofs.Words.{list_any, length-map, compact_text, AsyncCancelled, Mark, said_of, Part, Meta, is_ancestor, row_gathered, is_among, Course}
use Rattle.promises.proofs.Words.{begun, members_from, prepared as course_prepared, Pair, Named, AllOf, is_pair, has_pair, found_from, found_in, Names}
use Rattle.promises.proofs.Words.{naming_if, naming_found, naming_of, is_taker, takers, has_named_ancestor, choices_from, chosen_from, Mode}
use Rattle.promises.proofs.Words.{Components, All, Session, mode_of, Plan, WriterPlan, token, Event, State, start, in_progress, Replied, write, followed}
use Rattle.promises.proofs.Words.{failed, Act, enabled, idle_now, after, state, named_known_components, is_first, is_part, event_names, names_if, names_from}
use Rattle.promises.proofs.Words.{has_named, is_below, parts_listed, writers_listed, TellsDocument, progress, is_chosen, is_unfit, choosing}
use Rattle.promises.proofs.Words.{is_writer, Covers, told_covered, after_not_enabled, false_from_ne_true, choices_data, document_of, document_text, is_known}
use Rattle.promises.proofs.Words.{known_metas, selected, volumes_of, start_set, closed, true_not_false}
use Rattle.set_agenda.specs.declared.kind.Kind.TheVariants as kind
use Rattle.vss_model.specs.Sessions.{known_from}
use Rattle.promises.proofs.Accepted.{tells, line_reply}
use Rattle.promises.proofs.Members.{is_selected, taker_is, SameChoice, mode_in, same_choice, same_course, on_begun, on_followed, on_write, on_revert, on_ticked}
use Rattle.promises.proofs.Members.{on_agenda_begun, on_failed_in, on_answered, on_stepped}
use Rattle.promises.proofs.Participants.{chosen_by, follows_all, standing, pair_added, named_is_known}
use Rattle.promises.proofs.Progress.{stands_all}

-- ## what a line names

-- the metadata of a writer that is known are those of the plan
record IsOfPlan (o : Option WriterPlan) (m : Meta) : Type 0 where
  plan : WriterPlan
  is : o ≡ Some plan
  meta : plan.meta ≡ m

of_plan : (s : Plan) (st : State) (k : ℕ) (ps : List WriterPlan) (u : ℕ) (m : Meta) → slice_get (known_from s st k ps) u ≡ Some (Some m) → IsOfPlan (slice_get ps u) m
of_plan s st k [] u m e = absurd cc
of_plan s st k (p ∷ ps) zero m e = grind arith
of_plan s st k (p ∷ ps) (suc u) m e = of_plan s st (k + 1) ps u m e

first_is : (name : List ℕ) (i j : ℕ) (ps : List Part) (f : _) → found_from name j ps ≡ Some f → is_first name i j ps ≡ (f.component == i)
first_is name i j [] f e = absurd cc
first_is name i j (p ∷ ps) f e = grind (arith, first_is name i (j + 1) ps f)

module _ (w i : ℕ) where
  pair_if : (q : Pair) (ps new : List Pair) (a b : Bool) → naming_if a b q ps ≡ Names new → has_pair new w i ≡ (has_pair ps w i || is_pair w i q)
  pair_if q ps new a b e = grind (arith, pair_added)

  pair_found : (u : ℕ) (name : List ℕ) (parts : List Part) (ps new : List Pair) → naming_found u (found_in name parts) ps ≡ Names new
      → has_pair new w i ≡ (has_pair ps w i || ((u == w) && is_first name i 0 parts))
  pair_found u name parts ps new e =
      (elim (found_in name parts) as (λ x. found_in name parts ≡ x → naming_found u x ps ≡ Names new → has_pair new w i ≡ (has_pair ps w i || ((u == w) && is_first name i 0 parts))) [
        | None ↦ λ f g. absurd cc
        | Some x ↦ λ f g. pair_if (record { writer = u; component = x.component }) ps new x.selectable (has_pair ps u x.component) g
            ∙ ap (λ b. has_pair ps w i || ((u == w) && b)) (sym (first_is name i 0 parts x f))
      ]) refl e

  pair_of : (u : ℕ) (name : List ℕ) (o : Option (Option Meta)) (plan : Option WriterPlan) (ps new : List Pair) → ((m : Meta) → o ≡ Some (Some m) → IsOfPlan plan m)
      → naming_of u name o ps ≡ Names new → has_pair new w i ≡ (has_pair ps w i || ((u == w) && is_part plan name i))
  pair_of u name None plan ps new own e = absurd cc
  pair_of u name (Some None) plan ps new own e = absurd cc
  pair_of u name (Some (Some m)) plan ps new own e =
      let x = own m refl in
      pair_found u name m.parts ps new e
      ∙ ap (λ (y : Meta). has_pair ps w i || ((u == w) && is_first name i 0 y.parts)) (sym x.meta)
      ∙ ap (λ p. has_pair ps w i || ((u == w) && is_part p name i)) (sym x.is)

-- ## along the acts of a session

abbrev NamesSo : ℕ → ℕ → State → Bool → Type 0
NamesSo w i st c = (q : Session) → st.session ≡ Some q → has_pair st.explicit w i ≡ c

module _ (s : Plan) (w i : ℕ) (st : State) (c : Bool) (h : NamesSo w i st c) where
  abbrev Next : Event → Mark → Replied → Type 0
  Next event mark x = NamesSo w i x.1 (event_names s w i event x.0 c)

  beside : (x : State) → x.explicit ≡ st.explicit → mode_in x.session ≡ mode_in st.session → NamesSo w i x c
  beside x e m q f = grind arith

  same : (x : State) → SameChoice st x → NamesSo w i x c
  same x e = beside x e.explicit e.mode

  on_prepare : (q : Session) → NamesSo w i (followed true (course_prepared (takers (length s.writers) (selected s q st)) st.clock st.course) st) c
  on_prepare q =
      let ms = members_from (λ x. is_among x (takers (length s.writers) (selected s q st))) 0 st.course.rows in
      let fixed : Course = record st.course { members = ms } in
      let d = begun kind.Prepare ms [] st.clock fixed in
      let e = on_followed true d (record st { course = fixed }) st refl refl (on_begun kind.Prepare ms [] st.clock fixed) in
      beside (followed true d st) e.explicit e.mode

  on_close : (q : Session) (x : State) → NamesSo w i (closed q x) c
  unfolding closed
  on_close q x own e = absurd cc

  follows : Covers Next s st
  follows = record {
    stays = λ lane o mark said e f. subst (NamesSo w i st) (sym (grind arith)) h;
    writes = λ lane o v u mark e f. subst (NamesSo w i (write s v u mark st).1) (sym (grind arith)) (same (write s v u mark st).1 (on_write s v u mark st));
    reverts = λ lane n v k mark e f. same _ (on_revert s v k mark st);
    deletes_set = λ lane n x mark e. h;
    deletes_image = λ lane n v k mark e. h;
    ticks = λ lane n mark. same _ (on_ticked n st);
    begins = λ lane n all x mark e ctx q f. refl;
    disables = λ lane u q mark g. h;
    gathers = λ lane q mark g. same _
        (on_agenda_begun kind.Gather _ [] st st (record st.course { rows = map row_gathered st.course.rows }) (same_choice st)
        (record { disabled = refl; members = refl; rows = length-map st.course.rows row_gathered }));
    names = λ lane u full q explicit mark g named own e.
        pair_of w i u (token s full) (slice_get (known_metas s st) u) (slice_get s.writers u) st.explicit explicit (of_plan s st 0 s.writers u) named
        ∙ ap (λ b. b || ((u == w) && is_part (slice_get s.writers u) (token s full) i)) (h q g.stands);
    starts = λ lane q mark g e. beside (start_set q st).1 refl (sym (ap mode_in g.stands));
    adds = λ lane v r q mark g e f. h;
    prepares = λ lane q mark g f. on_prepare q;
    snapshots = λ lane q mark g f. same _
        (on_agenda_begun kind.Snapshot st.course.members (volumes_of (in_progress st)) st st st.course (same_choice st) (same_course st.course));
    completes = λ lane q mark g. same _ (on_agenda_begun kind.Complete _ [] st st st.course (same_choice st) (same_course st.course));
    aborts = λ lane q mark e. same _ (on_failed_in (in_progress st) AsyncCancelled st st (same_choice st));
    ends = λ lane q mark e. on_close q (failed AsyncCancelled st);
    answers = λ u answer mark e. same _ (on_answered u (said_of answer) st);
    steps = λ mark e. same _ (on_stepped mark st);
    idles = λ mark e. same _ (on_ticked (idle_now st) st);
  }

  names_after : (b : Bool) (act : Act) → enabled s st act.event ≡ b → NamesSo w i (after s st act) (names_if b s w i st c act)
  names_after b act e = grind (arith, told_covered, follows, after_not_enabled)

names_along : (s : Plan) (w i : ℕ) (st : State) (c : Bool) (acts : List Act) → NamesSo w i st c → NamesSo w i (fold (after s) st acts) (names_from s w i st c acts)
names_along s w i st c [] h = h
names_along s w i st c (act ∷ acts) h = names_along s w i (after s st act) (names_if (enabled s st act.event) s w i st c act) acts (names_after s w i st c h (enabled s st act.event) act refl)

names_all : (s : Plan) (w i : ℕ) (acts : List Act) → NamesSo w i (state s acts) (has_named s w i acts)
names_all s w i acts = names_along s w i (start s) false acts (λ q e. absurd cc)

-- ## the components of a writer

all_listed : (ws : List ℕ) (named : ℕ → Bool) (parts : List Part) (w i : ℕ) (cs : List Part) → choices_from (AllOf ws) parts w i cs ≡ parts_listed true named parts w i cs
all_listed ws named parts w i cs = grind arith

module _ (ps : List Pair) (named : ℕ → Bool) (w : ℕ) (same_pair : (i : ℕ) → has_pair ps w i ≡ named i) where
  above : (c : Part) (j : ℕ) (parts : List Part) → has_named_ancestor ps w c j parts ≡ is_below named c j parts
  above c j [] = refl
  above c j (a ∷ parts) = ap (λ b. (b && is_ancestor a c) || has_named_ancestor ps w c (j + 1) parts) (same_pair j) ∙ ap (λ b. (named j && is_ancestor a c) || b) (above c (j + 1) parts)

  named_listed : (parts : List Part) (i : ℕ) (cs : List Part) → choices_from (Named ps) parts w i cs ≡ parts_listed false named parts w i cs
  named_listed parts i [] = refl
  named_listed parts i (c ∷ cs) = grind (arith, above, named_listed parts (i + 1) cs)

-- ## all writers

module _ (s : Plan) (so_far : List Act) (q : Session) (e : (state s so_far).session ≡ Some q) where
  abbrev st : State
  st = state s so_far

  abbrev all : Bool
  all = (progress s so_far).all

  mode_is : q.mode ≡ mode_of all
  mode_is = (stands_all s so_far q e).mode

  parts_are : (w : ℕ) (parts : List Part) → choices_from (selected s q st) parts w 0 parts ≡ parts_listed all (λ i. has_named s w i so_far) parts w 0 parts
  parts_are w parts = grind (arith, mode_is, all_listed, named_listed, names_all)

  abbrev picks : ℕ → Bool
  picks w = is_chosen (is_unfit st w) (choosing s w so_far)

  selected_is : (w : ℕ) → is_selected s st q.mode w ≡ picks w
  selected_is w = grind (arith, follows_all, standing, chosen_by)

  taker_picked : (w : ℕ) → is_writer s w ≡ true → is_taker (selected s q st) w ≡ picks w
  taker_picked w f = with_writer (is_writer s w) (is_taker (selected s q st) w) (picks w) f (taker_is s st q.mode w ∙ ap (λ b. is_writer s w && b) (selected_is w))
    where
      with_writer : (a b c : Bool) → a ≡ true → (a && b) ≡ (a && c) → b ≡ c
      with_writer a b c e f = grind arith

  not_picked : (w : ℕ) → is_known s st w ≡ false → picks w ≡ false
  not_picked w f = sym (selected_is w) ∙ by_mode q.mode where
    by_mode : (m : Mode) → is_selected s st m w ≡ false
    by_mode All = f
    by_mode Components = false_from_ne_true (list_any (λ (p : Pair). p.writer == w) st.explicit) (λ g. true_not_false (is_known s st w) (named_is_known s st w (named_known_components s so_far) g) f)

  writers_are : (w : ℕ) (ps : List WriterPlan) → w + length ps ≡ length s.writers → chosen_from (selected s q st) w (known_from s st w ps) ≡ writers_listed s so_far w ps
  writers_are w [] f = refl
  writers_are w (p ∷ ps) f = grind (arith, taker_picked, parts_are, not_picked, writers_are (w + 1) ps (grind arith))

  text_is : document_text (known_metas s st) (selected s q st) q.context ≡ compact_text (document_of (choices_data (known_metas s st) (writers_listed s so_far 0 s.writers)) q.context (not all))
  unfolding document_text
  text_is = grind (arith, writers_are, mode_is)

pub tells_document : (s : Plan) (so_far : List Act) (act : Act) → TellsDocument s so_far act
tells_document s so_far act lane q e f g = grind (arith, line_reply, tells, text_is)
