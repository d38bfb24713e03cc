-- A session stands where its accepted lines have brought it.
use Rattle.std.proofs.Common.{◌≡◌, ◌∙◌, ℕ, List, [], ◌∷◌, ◌++◌, Option, Some, None, refl, Bool, true, false, ap, sym, subst, inl, inr, fold, arith}
use Rattle.std.specs.Prelude.{is_some, option_map, option_and_then, if◌then◌else◌}
use Rattle.promises.proofs.Words.{Context, VssResult, AsyncPending, AsyncCancelled, number_of, context_of_number, IsLookUp-context_of_number, Mark, Clean}
use Rattle.promises.proofs.Words.{said_of, open_group, next_volume, Course, Stage, Session, has_writers, makes_set, context_of, context_if, without_all}
use Rattle.promises.proofs.Words.{mode_of, opened, started as session_started, stage_after, agenda_ended, set_failed, is_stage, Op, Plan, Event, Reply, Fine}
use Rattle.promises.proofs.Words.{Coded, Deleted, Idled, State, SetRow, start, in_progress, left_now, followed, runs, failed, Replied, write, reverted_as}
use Rattle.promises.proofs.Words.{LetsGo, IsAgendaOf, IsOfSession, has_failed, Act, by_last, order_of_writer, enabled, answer_reply, step_reply, idle_now}
use Rattle.promises.proofs.Words.{after, state, state-append, orderly, set_failure, Step, ByBegin, ByGather, ByStart, ByPrepare, BySnapshot, ByComplete}
use Rattle.promises.proofs.Words.{ByFailure, Progress, line_brings, event_brings, lost_if, progress_after, progress_if, progress_from, progress, HasItsContext}
use Rattle.promises.proofs.Words.{set_fails, Covers, after_not_enabled, told_covered, some_same, and_parts, Opened, Gathered, Started, Prepared, Done, Finished}
use Rattle.promises.proofs.Words.{Line, Provider, Idle, new_number, start_set, closed, is_opened, is_started, is_done_stage}
use Rattle.set_agenda.specs.declared.kind.Kind.TheVariants as kind
use Rattle.requestor.specs.declared.stage.Stage.TheVariants.{Failed}
use Rattle.requestor.specs.declared.session_call.SessionCall.TheVariants as call
use Rattle.scenario.specs.declared.op.Op.TheVariants as op
use Rattle.vss_model.specs.declared.event.Event.TheVariants.{Answer as AnswerEvent}
use Rattle.promises.proofs.CalmStages.{calm_begun}
use Rattle.promises.proofs.Contexts.{failure_at}
use Rattle.promises.proofs.Turns.{Turn, quiet_turn, write_turn, revert_turn, begun_turn, answer_turn, tick_turn, step_turn, abort_turn, add_turn, none_started}

-- ## where a session stands

abbrev pub stage_of : Step → Stage
stage_of ByBegin = Opened
stage_of ByGather = Gathered
stage_of ByStart = Started
stage_of ByPrepare = Prepared
stage_of BySnapshot = Done
stage_of ByComplete = Finished
stage_of ByFailure = Failed

-- the stage once the agenda that runs has ended
abbrev pub stage_to_come : Bool → Session → Stage
stage_to_come true q = stage_after q.context q.stage
stage_to_come false q = q.stage

pub record StandsAt (q : Session) (busy : Bool) (p : Progress) : Type 0 where
  pub context : number_of q.context ≡ p.context
  pub mode : q.mode ≡ mode_of p.all
  pub stage : stage_to_come busy q ≡ stage_of p.step

-- ## what is known of the parts

set_so : (o : Option SetRow) (x : State) → set_fails o x ≡ is_some (set_failure o x)
set_so o x = grind arith

-- a context by its number
context_is : (n : ℕ) (all : Bool) (c : Context) → context_of n all ≡ Some c → number_of c ≡ n
context_is n all c e = by_number (context_of_number n) refl e where
  named : (b : Bool) (a : Context) → context_if b a ≡ Some c → a ≡ c
  named true a e = some_same a c e
  named false a e = absurd cc

  by_mode : (b : Bool) (a : Context) → without_all b a ≡ Some c → a ≡ c
  by_mode true a e = named (has_writers a) a e
  by_mode false a e = some_same a c e

  by_number : (o : Option Context) → context_of_number n ≡ o → option_and_then (without_all all) o ≡ Some c → number_of c ≡ n
  by_number None f e = absurd cc
  by_number (Some a) f e = ap number_of (sym (by_mode all a e)) ∙ (IsLookUp-context_of_number n (Some a) (sym f)).has

prepares : (c : Context) → has_writers c ≡ true → stage_after c Started ≡ Prepared
prepares c e = grind arith

pub snapshots : (c : Context) (t : Stage) → (if has_writers c then is_stage t Prepared else is_stage t Started) ≡ true → stage_after c t ≡ Done
snapshots c t e = grind arith

-- ## every act

module _ (s : Plan) (so_far : List Act) (p : Progress) where
  abbrev pub st : State
  st = state s so_far

  abbrev pub Stands : State → Progress → Type 0
  Stands x q = (own : Session) → x.session ≡ Some own → StandsAt own (runs x) q

  come_failed : (b : Bool) (why : VssResult) (q : Session) → stage_to_come b (set_failed why q) ≡ Failed
  come_failed b why q = grind arith

  module _ (h : Stands st p) where
    abbrev Next : Event → Mark → Replied → Type 0
    Next event mark x = Stands x.1 (progress_after st event x.0 x.1 p)

    comes_to : (event : Event) (told : Reply) (x : State) (to : Progress) (b : Bool) → event_brings event told p ≡ to → set_fails (in_progress st) x ≡ b
        → progress_after st event told x p ≡ lost_if b to
    comes_to event told x to b e f = ap (λ c. lost_if c (event_brings event told p)) f ∙ ap (lost_if b) e

    on_failed : (why : VssResult) (o : Option Session) (to : Progress) (busy : Bool)
        → ((q : Session) → o ≡ Some q → (number_of q.context ≡ to.context) × (q.mode ≡ mode_of to.all)) → (own : Session)
        → option_map (set_failed why) o ≡ Some own → StandsAt own busy (record to { step = ByFailure })
    on_failed why None to busy k own e = absurd cc
    on_failed why (Some q) to busy k own e = subst (λ (y : Session). StandsAt y busy (record to { step = ByFailure })) (some_same (set_failed why q) own e)
        (record { context = (k q refl).0; mode = (k q refl).1; stage = come_failed busy why q })

    on_ended : (o : Option Session) (to : Progress) → ((q : Session) → o ≡ Some q → StandsAt q true to) → (own : Session) → option_map agenda_ended o ≡ Some own → StandsAt own false to
    on_ended o to k own e = grind arith

    by_turn : (event : Event) (told : Reply) (x : State) (ran : Bool) (to : Progress) → event_brings event told p ≡ to
        → ((q : Session) → st.session ≡ Some q → StandsAt q ran to) → Turn st x ran → Stands x (progress_after st event told x p)
    by_turn event told x ran to e k (inl t) own i =
        subst (StandsAt own (runs x)) (sym (comes_to event told x to true e (set_so (in_progress st) x ∙ ap is_some t.failure)))
        (on_failed t.why st.session to (runs x) (λ q j. ((k q j).context, (k q j).mode)) own (sym t.session ∙ i))
    by_turn event told x ran to e k (inr (inl t)) own i =
        subst (StandsAt own (runs x)) (sym (comes_to event told x to false e (set_so (in_progress st) x ∙ ap is_some t.failure)))
        (subst (λ b. StandsAt own b to) (sym t.quiet) (on_ended st.session to (λ q j. subst (λ b. StandsAt q b to) t.ran_is (k q j)) own (sym t.session ∙ i)))
    by_turn event told x ran to e k (inr (inr t)) own i =
        subst (StandsAt own (runs x)) (sym (comes_to event told x to false e (set_so (in_progress st) x ∙ ap is_some t.failure)))
        (subst (λ b. StandsAt own b to) (sym t.runs_is) (k own (sym t.session ∙ i)))

    goes : (event : Event) (told : Reply) (x : State) → event_brings event told p ≡ p → Turn st x (runs st) → Stands x (progress_after st event told x p)
    goes event told x e t = by_turn event told x (runs st) p e h t

    quiet : (event : Event) (told : Reply) (x : State) → event_brings event told p ≡ p → x.session ≡ st.session
        → ((n : ℕ) → failure_at x.sets n ≡ failure_at st.sets n) → runs x ≡ runs st → Stands x (progress_after st event told x p)
    quiet event told x e f g i = goes event told x e (quiet_turn s so_far x f g i)

    -- an agenda begins in the session q
    on_begun : (lane : ℕ) (o : Op) (to : Step) (q : Session) (c : Course) → line_brings o (Coded AsyncPending) p ≡ record p { step = to } → st.session ≡ Some q
        → stage_after q.context q.stage ≡ stage_of to → (has_failed st.course.outcome ≡ false → has_failed c.outcome ≡ false)
        → Stands (followed true c st) (progress_after st (Line lane o) (Coded AsyncPending) (followed true c st) p)
    on_begun lane o to q c e f g calm =
        by_turn (Line lane o) (Coded AsyncPending) (followed true c st) true (record p { step = to }) e
        (λ x i. subst (λ (y : Session). StandsAt y true (record p { step = to })) (some_same q x (sym f ∙ i))
        (record { context = (h q f).context; mode = (h q f).mode; stage = g })) (begun_turn s so_far c calm)

    on_close : (event : Event) (told : Reply) (q : Session) (x : State) → Stands (closed q x) (progress_after st event told (closed q x) p)
    unfolding closed
    on_close event told q x own e = absurd cc

    no_agenda : (a : Option _) → IsAgendaOf a None → is_some a ≡ false
    no_agenda a i = grind arith

    no_set : st.session ≡ None → (x : State) → set_fails (in_progress st) x ≡ false
    no_set e x = by_set (in_progress st) (subst (λ o. IsOfSession o st.course.outcome (in_progress st)) e (orderly s so_far).session) where
      by_set : (o : Option SetRow) → IsOfSession None st.course.outcome o → set_fails o x ≡ false
      by_set o i = grind arith

    on_opened : (lane n : ℕ) (all : Bool) (c : Context) → st.session ≡ None → context_of n all ≡ Some c
        → Next (Line lane (op.Begin n all)) Clean (Fine, record st { session = Some (opened lane c all); explicit = [] })
    on_opened lane n all c e f own i =
        let x : State = record st { session = Some (opened lane c all); explicit = [] } in
        subst (StandsAt own (runs x)) (sym (comes_to (Line lane (op.Begin n all)) Fine x (record { context = n; all = all; step = ByBegin }) false refl (no_set e x)))
        (subst (λ (y : Session). StandsAt y (runs x) (record { context = n; all = all; step = ByBegin })) (some_same (opened lane c all) own i)
        (subst (λ b. StandsAt (opened lane c all) b (record { context = n; all = all; step = ByBegin }))
        (sym (no_agenda st.course.agenda (subst (IsAgendaOf st.course.agenda) e (orderly s so_far).agenda)))
        (record { context = context_is n all c f; mode = refl; stage = refl })))

    on_start : (lane : ℕ) (q : Session) → LetsGo call.Start q st → makes_set q.stage ≡ false
        → Stands (start_set q st).1 (progress_after st (Line lane op.Start) (start_set q st).0 (start_set q st).1 p)
    on_start lane q g e own i =
        let x = (start_set q st).1 in
        subst (StandsAt own (runs st))
        (sym (comes_to (Line lane op.Start) (start_set q st).0 x (record p { step = ByStart }) false refl
        (set_so (in_progress st) x ∙ ap is_some (none_started s so_far q x g.stands e))))
        (subst (λ (y : Session). StandsAt y (runs st) (record p { step = ByStart })) (some_same (session_started (new_number st) q) own i)
        (subst (λ b. StandsAt (session_started (new_number st) q) b (record p { step = ByStart })) (sym g.quiet)
        (record { context = (h q g.stands).context; mode = (h q g.stands).mode; stage = refl })))

    stands_on : Covers Next s st
    stands_on = record {
      stays = λ lane o mark told e f. quiet (Line lane o) told st (grind arith) refl (λ n. refl) refl;
      writes = λ lane o v w mark e f. goes (Line lane o) (write s v w mark st).0 _ (grind arith) (write_turn s so_far v w mark);
      reverts = λ lane n v k mark e f. goes (Line lane (op.Revert n v)) (reverted_as s v k mark st).0 _ refl (revert_turn s so_far v k mark);
      deletes_set = λ lane n c mark e. quiet (Line lane (op.DeleteSet n)) (Deleted c) _ refl refl (λ m. refl) refl;
      deletes_image = λ lane n v k mark e. quiet (Line lane (op.DeleteImage n v)) (Deleted 1) _ refl refl (λ m. refl) refl;
      ticks = λ lane n mark. goes (Line lane (op.Tick n)) Fine _ refl (tick_turn s so_far n);
      begins = λ lane n all c mark e f. on_opened lane n all c e f;
      disables = λ lane w q mark g. quiet (Line lane (op.Disable w)) Fine _ refl refl (λ m. refl) refl;
      gathers = λ lane q mark g. on_begun lane op.Gather ByGather q _ refl g.stands
          (ap (stage_after q.context) (is_opened q.stage (and_parts (is_stage q.stage Opened) (has_writers q.context) g.allowed).0))
          (calm_begun kind.Gather _ [] st.clock _);
      names = λ lane w full q explicit mark g named. quiet (Line lane (op.Component w full)) Fine _ refl refl (λ m. refl) refl;
      starts = λ lane q mark g e. on_start lane q g e;
      adds = λ lane v r q mark g e f. goes (Line lane (op.Add v)) Fine _ refl (add_turn s so_far v r);
      prepares = λ lane q mark g f. let may = and_parts (is_stage q.stage Started) (has_writers q.context) g.allowed in
          on_begun lane op.Prepare ByPrepare q _ refl g.stands (ap (stage_after q.context) (is_started q.stage may.0) ∙ prepares q.context may.1) (calm_begun kind.Prepare _ [] st.clock _);
      snapshots = λ lane q mark g f. on_begun lane op.Snapshot BySnapshot q _ refl g.stands (snapshots q.context q.stage g.allowed)
          (calm_begun kind.Snapshot st.course.members _ st.clock st.course);
      completes = λ lane q mark g. on_begun lane op.Complete ByComplete q _ refl g.stands
          (ap (stage_after q.context) (is_done_stage q.stage (and_parts (is_stage q.stage Done) (has_writers q.context) g.allowed).0))
          (calm_begun kind.Complete _ [] st.clock st.course);
      aborts = λ lane q mark e. goes (Line lane op.Abort) Fine _ refl (abort_turn s so_far);
      ends = λ lane q mark e. on_close (Line lane op.End) Fine q (failed AsyncCancelled st);
      answers = λ w answer mark e. goes (AnswerEvent w answer) (answer_reply (order_of_writer st w) answer) _ refl (answer_turn s so_far w (said_of answer));
      steps = λ mark e. goes Provider (step_reply (open_group (left_now st)) (next_volume (left_now st)) mark) _ refl (step_turn s so_far mark e);
      idles = λ mark e. goes Idle (Idled (idle_now st)) _ refl (tick_turn s so_far (idle_now st));
    }

    stands_if : (b : Bool) (act : Act) → enabled s st act.event ≡ b → Stands (after s st act) (progress_if b s st p act)
    stands_if true act e = told_covered Next s st stands_on act e
    stands_if false act e = subst (λ (x : State). Stands x p) (sym (after_not_enabled s st act e)) h

-- ## every list of acts

progress_from-append : (s : Plan) (x : State) (p : Progress) (acts : List Act) (act : Act)
    → progress_from s x p (acts ++ act ∷ []) ≡ progress_if (enabled s (fold (after s) x acts) act.event) s (fold (after s) x acts) (progress_from s x p acts) act
progress_from-append s x p [] act = refl
progress_from-append s x p (a ∷ acts) act = progress_from-append s (after s x a) (progress_if (enabled s x a.event) s x p a) acts act

abbrev pub StandsSo : Plan → List Act → Type 0
StandsSo s so_far = (own : Session) → (state s so_far).session ≡ Some own → StandsAt own (runs (state s so_far)) (progress s so_far)

stands_next : (s : Plan) (so_far : List Act) (act : Act) → StandsSo s so_far → StandsSo s (so_far ++ act ∷ [])
stands_next s so_far act h =
    subst (λ (x : State). (own : Session) → x.session ≡ Some own → StandsAt own (runs x) (progress s (so_far ++ act ∷ []))) (sym (state-append s so_far act))
    (subst (λ q. (own : Session) → (after s (state s so_far) act).session ≡ Some own → StandsAt own (runs (after s (state s so_far) act)) q)
    (sym (progress_from-append s (start s) (record { context = 0; all = false; step = ByBegin }) so_far act))
    (stands_if s so_far (progress s so_far) h (enabled s (state s so_far) act.event) act refl))

pub stands_all : (s : Plan) (so_far : List Act) → StandsSo s so_far
stands_all s so_far = by_last (StandsSo s) (stands_next s) (λ own e. absurd cc) so_far

pub has_its_context : (s : Plan) (so_far : List Act) → HasItsContext s so_far
has_its_context s so_far q e = (stands_all s so_far q e).context
