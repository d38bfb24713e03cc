-- An ordered call is accepted just where it may come.
use Rattle.std.proofs.Common.{◌≡◌, ◌∙◌, ℕ, ◌+◌, ◌==◌, List, [], ◌∷◌, Option, Some, None, refl, Bool, true, false, ap, sym, subst, length, arith}
use Rattle.std.specs.Prelude.{◌&&◌, ◌||◌, not, nat_le, nat_lt, nat_eq, is_some, is_none, option_and_then, slice_get, if◌then◌else◌}
use Rattle.promises.proofs.Words.{bytes_eq, Context, Backup, AppRollback, NasRollback, AsyncPending, BadState, SnapshotSetInProgress, ObjectAlreadyExists}
use Rattle.promises.proofs.Words.{MaximumNumberOfVolumesReached, MaximumNumberOfSnapshotsReached, Mark, Part, Meta, full_name, Pair, has_pair, found_from}
use Rattle.promises.proofs.Words.{naming_if, naming_found, naming_of, Mode, SessionCall, Stage, Opened, Gathered, Started, Prepared, Verdict, Session}
use Rattle.promises.proofs.Words.{has_writers, makes_set, mode_of, context_of, without_all, check, check_other, check_owner, owner_only, verdict_of, allows}
use Rattle.promises.proofs.Words.{stage_code, is_stage, goes_beside_agenda, is_start, is_await, Op, Plan, token, Event, Line, Reply, Fine, Coded, StatusOf}
use Rattle.promises.proofs.Words.{State, SetRow, in_progress, history_of, runs, Replied, known_metas, named_as, component_in, add_to, add, has_no_volume}
use Rattle.promises.proofs.Words.{judged, line_in, session_line, Act, happens, reply_is, reply, state, IsOfSession, owns, is_fine, orderly, is_ordered}
use Rattle.promises.proofs.Words.{is_accepted, can_name_in, can_name, has_place, has_volume, has_its_wants, IsAccepting, is_context, AcceptsInOrder, Step}
use Rattle.promises.proofs.Words.{ByBegin, ByGather, ByStart, ByPrepare, BySnapshot, Progress, progress, step_code, is_step, asks_writers, comes_now, number_of}
use Rattle.promises.proofs.Words.{context_of_number, called, and-true, true_not_false}
use Rattle.requestor.specs.declared.session_call.SessionCall.TheVariants as call
use Rattle.scenario.specs.declared.op.Op.TheVariants as op
use Rattle.promises.proofs.Progress.{stage_of, StandsAt, stands_all}

-- ## the checks

module _ (s : Plan) (st : State) (lane : ℕ) where
  -- a test that no refusal passes
  module _ (test : Reply → Bool) (bad : test (Coded BadState) ≡ false) (busy : test (Coded SnapshotSetInProgress) ≡ false) (o : Op) where
    judged_passes : (a b c d : Bool) → test (judged (verdict_of a b c d) s lane o st).0 ≡ (not a && (not b && (c && (not d && test (line_in s lane o st.session st).0))))
    judged_passes a b c d = grind arith

    owned_passes : (b : Bool) (v : Verdict) → test (judged (owner_only b v) s lane o st).0 ≡ (b && test (judged v s lane o st).0)
    owned_passes b v = grind arith

    passes : (c : SessionCall) (q : Session) → st.session ≡ Some q → check st.session (runs st) lane c ≡ check_other st.session (runs st) lane c
        → test (called c s lane o st).0
        ≡ ((q.owner == lane) && (not
        (is_start c && makes_set q.stage) && (not
        (runs st && not (goes_beside_agenda c)) && (allows q.stage
        (has_writers q.context) c && (not (is_await c && runs st) && test (session_line s lane o q st).0)))))
    unfolding called
    passes c q e f = grind (arith, owned_passes, judged_passes)

    no_session : (c : SessionCall) → st.session ≡ None → check st.session (runs st) lane c ≡ check_other st.session (runs st) lane c → test (called c s lane o st).0 ≡ false
    unfolding called
    no_session c e f = ap (λ v. test (judged v s lane o st).0) (f ∙ ap (λ x. check_other x (runs st) lane c) e) ∙ bad

  -- an accepted reply is that of the call itself
  judged_tells : (o : Op) (a b c d : Bool) → is_accepted (judged (verdict_of a b c d) s lane o st).0 ≡ true → (judged (verdict_of a b c d) s lane o st).0 ≡ (line_in s lane o st.session st).0
  judged_tells o a b c d e = grind arith

  owned_tells : (o : Op) (b : Bool) (v : Verdict)
      → (is_accepted (judged v s lane o st).0 ≡ true → (judged v s lane o st).0 ≡ (line_in s lane o st.session st).0)
      → is_accepted (judged (owner_only b v) s lane o st).0 ≡ true → (judged (owner_only b v) s lane o st).0 ≡ (line_in s lane o st.session st).0
  owned_tells o b v h e = grind arith

  pub tells : (c : SessionCall) (o : Op) (q : Session) → st.session ≡ Some q → check st.session (runs st) lane c ≡ check_other st.session (runs st) lane c
      → is_accepted (called c s lane o st).0 ≡ true → (called c s lane o st).0 ≡ (session_line s lane o q st).0
  unfolding called
  tells c o q e f g =
      let same = f ∙ ap (λ x. check_other x (runs st) lane c) e in
      ap (λ v. (judged v s lane o st).0) same
      ∙ owned_tells o (q.owner == lane) (check_owner q (runs st) c)
      (judged_tells o (is_start c && makes_set q.stage) (runs st && not (goes_beside_agenda c)) (allows q.stage (has_writers q.context) c)
      (is_await c && runs st)) (ap (λ v. is_accepted (judged v s lane o st).0) (sym same) ∙ g)
      ∙ ap (λ x. (line_in s lane o x st).0) e

-- ## the order

code_of : (a : Step) → stage_code (stage_of a) ≡ step_code a
code_of a = grind arith

pub same_stage : (a b : Step) → is_stage (stage_of a) (stage_of b) ≡ is_step a b
same_stage a b = ap (λ n. n == stage_code (stage_of b)) (code_of a) ∙ ap (λ n. step_code a == n) (code_of b)

pub start_stage : (a : Step) (w : Bool) → (not (makes_set (stage_of a)) && (if w then is_stage (stage_of a) Gathered else is_stage (stage_of a) Opened))
    ≡ (if w then is_step a ByGather else is_step a ByBegin)
start_stage a w = grind arith

pub either_stage : (a : Step) (w : Bool) → (if w then is_stage (stage_of a) Prepared else is_stage (stage_of a) Started) ≡ (if w then is_step a ByPrepare else is_step a ByStart)
either_stage a w = grind arith

pub writers_asked : (c : Context) (n : ℕ) → number_of c ≡ n → has_writers c ≡ ((n == 0) || (n == 9))
writers_asked c n e = grind arith

-- the table of stages, for a call of an order
abbrev pub allowed_in : Bool → Stage → SessionCall → Bool
allowed_in w stage c = not (is_start c && makes_set stage) && allows stage w c

-- ## what a call wants

module _ (s : Plan) (st : State) where
  name_if : (named : List Pair) (q : Pair) (a b : Bool) → is_accepted (named_as (naming_if a b q named) st).0 ≡ (a && not b)
  name_if named q a b = grind arith

  name_in : (w : ℕ) (named : List Pair) (name : List ℕ) (i : ℕ) (ps : List Part) → is_accepted (named_as (naming_found w (found_from name i ps) named) st).0 ≡ can_name_in w named name i ps
  name_in w named name i [] = refl
  name_in w named name i (p ∷ ps) = by_name (bytes_eq (full_name p) name) (name_in w named name (i + 1) ps) where
    by_name : (b : Bool) → is_accepted (named_as (naming_found w (found_from name (i + 1) ps) named) st).0 ≡ can_name_in w named name (i + 1) ps
        → is_accepted (named_as
        (naming_found w (if b then Some (record { component = i; selectable = p.selectable }) else found_from name (i + 1) ps) named) st).0
        ≡ (if b then p.selectable && not (has_pair named w i) else can_name_in w named name (i + 1) ps)
    by_name true ih = name_if named (record { writer = w; component = i }) p.selectable (has_pair named w i)
    by_name false ih = ih

  name_of : (w : ℕ) (name : List ℕ) (named : List Pair) (o : Option (Option Meta)) → is_accepted (named_as (naming_of w name o named) st).0 ≡ can_name w named name o
  name_of w name named (Some (Some m)) = name_in w named name 0 m.parts
  name_of w name named _ = refl

  component_wants : (w : ℕ) (name : List ℕ) (mode : Mode) (all : Bool) → mode ≡ mode_of all
      → is_accepted (component_in mode s w name st).0 ≡ (not all && can_name w st.explicit name (slice_get (known_metas s st) w))
  component_wants w name mode all e = grind (arith, name_of)

  component_fine : (w : ℕ) (name : List ℕ) (mode : Mode) → is_accepted (component_in mode s w name st).0 ≡ true → (component_in mode s w name st).0 ≡ Fine
  component_fine w name mode e = grind arith

  not_full : (m n : ℕ) → nat_le m n ≡ not (nat_lt n m)
  not_full m n = grind arith

  add_tests : (v : ℕ) (r : SetRow) (a b c : Bool) → is_accepted (add_to v r
      (if a then Some ObjectAlreadyExists else if b then Some MaximumNumberOfVolumesReached else if c then Some MaximumNumberOfSnapshotsReached else None) st).0
      ≡ (not a && not b && not c)
  add_tests v r a b c = grind arith

  twice_not : (b : Bool) → not (not b) ≡ b
  twice_not b = grind arith

  add_wants : (v : ℕ) (o : Option SetRow) → is_accepted (add v o st).0 ≡ has_place v (length (history_of st v).images) o
  add_wants v o = grind (arith, add_tests, not_full, twice_not)

  add_fine : (v : ℕ) (o : Option SetRow) → is_accepted (add v o st).0 ≡ true → (add v o st).0 ≡ Fine
  add_fine v o e = grind arith

  volume_wants : (o : Option SetRow) → not (has_no_volume o) ≡ has_volume o
  volume_wants o = grind arith

  pending_if : (b : Bool) (x y : Replied) → is_accepted x.0 ≡ false → is_accepted y.0 ≡ true → is_accepted (if b then x else y).0 ≡ not b
  pending_if b x y e f = grind arith

  pending_told : (b : Bool) (x y : Replied) → is_accepted x.0 ≡ false → y.0 ≡ Coded AsyncPending → is_accepted (if b then x else y).0 ≡ true → (if b then x else y).0 ≡ Coded AsyncPending
  pending_told b x y e f g = grind arith

-- ## ordered calls

module _ (s : Plan) (so_far : List Act) (lane : ℕ) where
  abbrev st : State
  st = state s so_far

  abbrev p : Progress
  p = progress s so_far

  abbrev May : Option Session → Op → Bool
  May x o = owns x lane && (not (runs st) && (comes_now p o && has_its_wants s st p o))

  parts : (own start busy may acc comes wants : Bool) → (busy ≡ false → (not start && may) ≡ comes) → acc ≡ wants
      → (own && (not start && (not (busy && true) && (may && (true && acc))))) ≡ (own && (not busy && (comes && wants)))
  parts own start busy may acc comes wants f g = grind arith

  ordered_call : (c : SessionCall) (o : Op) → check st.session (runs st) lane c ≡ check_other st.session (runs st) lane c → goes_beside_agenda c ≡ false → is_await c ≡ false
      → (allowed_in (asks_writers p) (stage_of p.step) c ≡ comes_now p o)
      → ((q : Session) → q.mode ≡ mode_of p.all → is_accepted (session_line s lane o q st).0 ≡ has_its_wants s st p o)
      → is_accepted (called c s lane o st).0 ≡ May st.session o
  ordered_call c o same beside waits order wants = by_session st.session refl where
    in_order : (q : Session) → st.session ≡ Some q → runs st ≡ false → allowed_in (has_writers q.context) q.stage c ≡ comes_now p o
    in_order q e f =
        let at : StandsAt q (runs st) p = stands_all s so_far q e in
        let quiet : StandsAt q false p = subst (λ b. StandsAt q b p) f at in
        ap (λ w. allowed_in w q.stage c) (writers_asked q.context p.context at.context) ∙ ap (λ x. allowed_in (asks_writers p) x c) quiet.stage ∙ order

    by_session : (x : Option Session) → st.session ≡ x → is_accepted (called c s lane o st).0 ≡ May st.session o
    by_session None e = no_session s st lane is_accepted refl refl o c e same ∙ ap (λ x. May x o) (sym e)
    by_session (Some q) e =
        passes s st lane is_accepted refl refl o c q e same
        ∙ ap (λ b. (q.owner == lane) && (not
        (is_start c && makes_set q.stage) && (not
        (runs st && not b) && (allows q.stage (has_writers q.context) c && (not (is_await c && runs st) && is_accepted (session_line s lane o q st).0)))))
        beside
        ∙ ap (λ b. (q.owner == lane) && (not
        (is_start c && makes_set q.stage) && (not
        (runs st && true) && (allows q.stage (has_writers q.context) c && (not (b && runs st) && is_accepted (session_line s lane o q st).0))))) waits
        ∙ parts (q.owner == lane) (is_start c && makes_set q.stage) (runs st) (allows q.stage (has_writers q.context) c)
        (is_accepted (session_line s lane o q st).0) (comes_now p o) (has_its_wants s st p o) (in_order q e) (wants q (stands_all s so_far q e).mode)
        ∙ ap (λ x. May x o) (sym e)

  abbrev w : Bool
  w = asks_writers p

  ordered_line : (o : Op) (mark : Mark) → is_ordered o ≡ true → is_accepted (happens s (Line lane o) mark st).0 ≡ May st.session o
  ordered_line (op.Disable x) mark e = ordered_call call.Disable (op.Disable x) refl refl refl (ap (λ b. b && w) (same_stage p.step ByBegin)) (λ q f. refl)
  ordered_line op.Gather mark e = ordered_call call.Gather op.Gather refl refl refl (ap (λ b. b && w) (same_stage p.step ByBegin)) (λ q f. refl)
  ordered_line (op.Component x full) mark e =
      ordered_call call.Component (op.Component x full) refl refl refl
      (ap (λ b. (b || is_stage (stage_of p.step) Started) && w) (same_stage p.step ByGather)
      ∙ ap (λ b. (is_step p.step ByGather || b) && w) (same_stage p.step ByStart))
      (λ q f. component_wants s st x (token s full) q.mode p.all f)
  ordered_line op.Document mark e = ordered_call call.Document op.Document refl refl refl (ap (λ b. not b && w) (same_stage p.step ByBegin)) (λ q f. refl)
  ordered_line op.Start mark e = ordered_call call.Start op.Start refl refl refl (start_stage p.step w) (λ q f. refl)
  ordered_line (op.Add v) mark e = ordered_call call.Add (op.Add v) refl refl refl (same_stage p.step ByStart) (λ q f. add_wants s st v (in_progress st))
  ordered_line op.Prepare mark e = ordered_call call.Prepare op.Prepare refl refl refl (ap (λ b. b && w) (same_stage p.step ByStart))
      (λ q f. pending_if s st (has_no_volume (in_progress st)) _ _ refl refl ∙ volume_wants s st (in_progress st))
  ordered_line op.Snapshot mark e = ordered_call call.Snapshot op.Snapshot refl refl refl (either_stage p.step w)
      (λ q f. pending_if s st (has_no_volume (in_progress st)) _ _ refl refl ∙ volume_wants s st (in_progress st))
  ordered_line op.Complete mark e = ordered_call call.Complete op.Complete refl refl refl (ap (λ b. b && w) (same_stage p.step BySnapshot)) (λ q f. refl)
  ordered_line o mark e = absurd cc

  -- ## what is told

  told_call : (c : SessionCall) (o : Op) → check st.session (runs st) lane c ≡ check_other st.session (runs st) lane c
      → ((q : Session) → is_accepted (session_line s lane o q st).0 ≡ true → IsAccepting st o (session_line s lane o q st).0)
      → is_accepted (called c s lane o st).0 ≡ true → IsAccepting st o (called c s lane o st).0
  told_call c o same k e = by_session st.session refl where
    by_session : (x : Option Session) → st.session ≡ x → IsAccepting st o (called c s lane o st).0
    by_session None f = absurd (true_not_false (is_accepted (called c s lane o st).0) e (no_session s st lane is_accepted refl refl o c f same))
    by_session (Some q) f = let is = tells s st lane c o q f same e in subst (IsAccepting st o) (sym is) (k q (ap is_accepted (sym is) ∙ e))

  told_line : (o : Op) (mark : Mark) → is_ordered o ≡ true → is_accepted (happens s (Line lane o) mark st).0 ≡ true → IsAccepting st o (happens s (Line lane o) mark st).0
  told_line o mark e = grind (arith, told_call, component_fine, add_fine, pending_told)

  -- ## the other calls

  context_there : (n : ℕ) (all : Bool) → is_some (context_of n all) ≡ is_context n all
  unfolding context_of_number
  context_there n all =
      by_tests (nat_eq 0 n) (nat_eq 9 n) (nat_eq 25 n) all
      ∙ ap (λ b. b || nat_eq 9 n || (nat_eq 25 n && not all)) (other_way 0 n) ∙ ap (λ b. (n == 0) || b || (nat_eq 25 n && not all)) (other_way 9 n)
      ∙ ap (λ b. (n == 0) || (n == 9) || (b && not all)) (other_way 25 n) where
        other_way : (a b : ℕ) → nat_eq a b ≡ (b == a)
        other_way a b = grind arith

        by_tests : (x y z a : Bool)
            → is_some (option_and_then (without_all a) (if x then Some Backup else if y then Some AppRollback else if z then Some NasRollback else None))
            ≡ (x || y || (z && not a))
        by_tests true y z true = refl
        by_tests true y z false = refl
        by_tests false true z true = refl
        by_tests false true z false = refl
        by_tests false false true true = refl
        by_tests false false true false = refl
        by_tests false false false true = refl
        by_tests false false false false = refl

  begin_line : (n : ℕ) (all : Bool) → is_fine (called (call.Begin n all) s lane (op.Begin n all) st).0 ≡ (is_none st.session && is_context n all)
  unfolding called
  begin_line n all = grind (arith, context_there)

  -- the set in progress is the session's
  pub makes_its_set : (q : Session) → st.session ≡ Some q → makes_set q.stage ≡ is_some (in_progress st)
  makes_its_set q e = by_set (in_progress st) (subst (λ x. IsOfSession x st.course.outcome (in_progress st)) e (orderly s so_far).session) where
    by_set : (o : Option SetRow) → IsOfSession (Some q) st.course.outcome o → makes_set q.stage ≡ is_some o
    by_set None h = h.0
    by_set (Some r) h = h.0

  beside : (own may busy : Bool) → (own && (true && (not (busy && false) && (may && (true && true))))) ≡ (own && may)
  beside own may busy = grind arith

  beside_call : (c : SessionCall) (o : Op) (may : Bool) → check st.session (runs st) lane c ≡ check_other st.session (runs st) lane c → is_start c ≡ false
      → goes_beside_agenda c ≡ true → is_await c ≡ false
      → ((q : Session) → st.session ≡ Some q → allows q.stage (has_writers q.context) c ≡ may) → ((q : Session) → is_fine (session_line s lane o q st).0 ≡ true)
      → is_fine (called c s lane o st).0 ≡ (owns st.session lane && may)
  beside_call c o may same start on waits allowed fine = by_session st.session refl where
    by_session : (x : Option Session) → st.session ≡ x → is_fine (called c s lane o st).0 ≡ (owns st.session lane && may)
    by_session None e = no_session s st lane is_fine refl refl o c e same ∙ ap (λ x. owns x lane && may) (sym e)
    by_session (Some q) e =
        passes s st lane is_fine refl refl o c q e same
        ∙ ap (λ b. (q.owner == lane) && (not
        (b && makes_set q.stage) && (not
        (runs st && not (goes_beside_agenda c)) && (allows q.stage
        (has_writers q.context) c && (not (is_await c && runs st) && is_fine (session_line s lane o q st).0))))) start
        ∙ ap (λ b. (q.owner == lane) && (true && (not
        (runs st && not b) && (allows q.stage (has_writers q.context) c && (not (is_await c && runs st) && is_fine (session_line s lane o q st).0))))) on
        ∙ ap (λ b. (q.owner == lane) && (true && (not (runs st && false) && (allows q.stage (has_writers q.context) c && (not (b && runs st) && is_fine (session_line s lane o q st).0))))) waits
        ∙ ap (λ b. (q.owner == lane) && (true && (not (runs st && false) && (b && (true && is_fine (session_line s lane o q st).0))))) (allowed q e)
        ∙ ap (λ b. (q.owner == lane) && (true && (not (runs st && false) && (may && (true && b))))) (fine q)
        ∙ beside (q.owner == lane) may (runs st)
        ∙ ap (λ x. owns x lane && may) (sym e)

  rows_told : owns st.session lane ≡ true → (called call.Status s lane op.Status st).0 ≡ StatusOf st.course.rows
  unfolding called
  rows_told e = grind arith

-- the reply of a line
pub line_reply : (s : Plan) (st : State) (act : Act) (event : Event) → act.event ≡ event → reply s st act ≡ (happens s event act.mark st).0
line_reply s st act event e = reply_is s st act ∙ ap (λ x. (happens s x act.mark st).0) e

pub accepts_in_order : (s : Plan) (so_far : List Act) (act : Act) → AcceptsInOrder s so_far act
accepts_in_order s so_far act =
    let st = state s so_far in
    record {
      ordered = λ lane o e f. ap is_accepted (line_reply s st act (Line lane o) e) ∙ ordered_line s so_far lane o act.mark f;
      told = λ lane o e f g. subst (IsAccepting st o) (sym (line_reply s st act (Line lane o) e))
          (told_line s so_far lane o act.mark f (ap is_accepted (sym (line_reply s st act (Line lane o) e)) ∙ g));
      begins = λ lane n all e. ap is_fine (line_reply s st act (Line lane (op.Begin n all)) e) ∙ begin_line s so_far lane n all;
      aborts = λ lane e. ap is_fine (line_reply s st act (Line lane op.Abort) e)
          ∙ beside_call s so_far lane call.Abort op.Abort (is_some (in_progress st)) refl refl refl refl (λ q f. makes_its_set s so_far lane q f) (λ q. refl);
      tells_rows = λ lane e f. line_reply s st act (Line lane op.Status) e ∙ rows_told s so_far lane f;
      ends = λ lane e. ap is_fine (line_reply s st act (Line lane op.End) e)
          ∙ beside_call s so_far lane call.End op.End true refl refl refl refl (λ q f. refl) (λ q. refl) ∙ and-true (owns st.session lane);
    }
