-- What a session call is answered that is not accepted, and by which images lines are.
use Rattle.std.proofs.Common.{◌≡◌, ◌∙◌, ℕ, ◌+◌, ◌==◌, zero, suc, List, [], ◌∷◌, Option, Some, None, refl, Bool, true, false, ap, sym, find, arith, subst}
use Rattle.std.specs.Prelude.{◌&&◌, ◌||◌, nat_lt, is_some, if◌then◌else◌, not, is_none, slice_get}
use Rattle.requestor.specs.declared.session_call.SessionCall.TheVariants as call
use Rattle.scenario.specs.declared.op.Op.TheVariants as op
use Rattle.vss_model.proofs.StateForm.{called}
use Rattle.promises.proofs.Accepted.{line_reply, allowed_in, same_stage, start_stage, either_stage, writers_asked, makes_its_set}
use Rattle.promises.proofs.Progress.{stage_of, StandsAt, stands_all}
use Rattle.promises.proofs.Words.{ObjectNotFound, UnsupportedContext, SnapshotSetInProgress, Mark, History, point_in, Plan, Line, Coded, Deleted, State, SetRow}
use Rattle.promises.proofs.Words.{Kept, is_complete, in_progress, row_of, history_of, has_image, kept_of, kept_image, NumberedFrom, Act, state, orderly}
use Rattle.promises.proofs.Words.{has_complete, at, is_kept, is_of_backup, has_in_it, revert_answer, is_deleted, FindsTheKept, and_parts, is_backup, is_in_set}
use Rattle.promises.proofs.Words.{revert_refusal, count_images, revert_to, revert, delete_set, delete_kept, delete_image, none_below, BadState, Part, Pair}
use Rattle.promises.proofs.Words.{found_from, naming_found, Mode, SessionCall, Started, Session, has_writers, makes_set, mode_of, check, check_other}
use Rattle.promises.proofs.Words.{owner_only, verdict_of, allows, is_stage, goes_beside_agenda, is_start, is_await, Op, token, Reply, runs, Replied}
use Rattle.promises.proofs.Words.{known_metas, named_as, component_in, add, has_no_volume, judged, line_in, session_line, happens, owns, is_fine, is_ordered}
use Rattle.promises.proofs.Words.{is_accepted, ByBegin, ByGather, ByStart, BySnapshot, Progress, progress, is_step, asks_writers, comes_now, name_refusal_in}
use Rattle.promises.proofs.Words.{name_refusal, place_refusal, want_refusal, order_refusal, RefusesForCause}

-- ## Lines find exactly the images that are kept, and a revert and a deletion are answered by that.

-- ## the row of a set

abbrev row_complete : Option SetRow → Bool
row_complete None = false
row_complete (Some r) = is_complete r.result

complete_is : (k n : ℕ) (rows : List SetRow) → NumberedFrom k rows → has_complete rows n ≡ row_complete (find (λ (r : SetRow). r.number == n) rows)
complete_is k n [] num = refl
complete_is k n (r ∷ rows) num = grind (arith, none_below, complete_is (k + 1) n rows num.1)

module _ (s : Plan) (so_far : List Act) where
  abbrev st_kept : State
  st_kept = state s so_far

  kept_by : (o : Option SetRow) (p : Option ℕ) → is_some (kept_of o p) ≡ (row_complete o && is_some p)
  kept_by o p = grind arith

  found : (n v : ℕ) → is_some (kept_image st_kept n v) ≡ is_kept st_kept n v
  found n v = kept_by (row_of st_kept n) (point_in n (history_of st_kept v).images) ∙ ap (λ b. b && is_some (point_in n (history_of st_kept v).images)) (sym (complete_is 1 n st_kept.sets (orderly s so_far).numbered))

  -- ## reverts

  by_refusal : (v : ℕ) (k : Kept) (mark : Mark) (a b : Bool)
      → (revert_to s v (if a then Some UnsupportedContext else if b then Some SnapshotSetInProgress else None) (Some k) mark st_kept).0 ≡ revert_answer true a b mark
  by_refusal v k mark a b = grind arith

  revert_says : (n v : ℕ) (mark : Mark) → (revert s n v mark st_kept).0 ≡ revert_answer (is_kept st_kept n v) (is_of_backup (row_of st_kept n)) (has_in_it v (in_progress st_kept)) mark
  unfolding revert
  revert_says n v mark = by_kept (kept_image st_kept n v) refl where
    by_kept : (o : Option Kept) → kept_image st_kept n v ≡ o → (revert_to s v (revert_refusal v (kept_image st_kept n v) st_kept) (kept_image st_kept n v) mark st_kept).0
        ≡ revert_answer (is_kept st_kept n v) (is_of_backup (row_of st_kept n)) (has_in_it v (in_progress st_kept)) mark
    by_kept None e =
        ap (λ o. (revert_to s v (revert_refusal v o st_kept) o mark st_kept).0) e
        ∙ ap (λ b. revert_answer b (is_of_backup (row_of st_kept n)) (has_in_it v (in_progress st_kept)) mark) (sym (sym (found n v) ∙ ap is_some e))
    by_kept (Some k) e =
        ap (λ o. (revert_to s v (revert_refusal v o st_kept) o mark st_kept).0) e
        ∙ by_refusal v k mark (is_backup k.row.context) (is_in_set v (in_progress st_kept))
        ∙ ap (λ b. revert_answer true b (is_in_set v (in_progress st_kept)) mark) (grind arith)
        ∙ ap (λ b. revert_answer true (is_of_backup (row_of st_kept n)) b mark) (grind arith)
        ∙ ap (λ b. revert_answer b (is_of_backup (row_of st_kept n)) (has_in_it v (in_progress st_kept)) mark) (sym (sym (found n v) ∙ ap is_some e))

  -- ## deletions

  some_counted : (n v : ℕ) (hs : List History) → has_image n (at hs v) ≡ true → nat_lt 0 (count_images n hs) ≡ true
  some_counted n zero [] e = absurd cc
  some_counted n (suc v) [] e = absurd cc
  some_counted n zero (h ∷ hs) e = grind arith
  some_counted n (suc v) (h ∷ hs) e = grind (arith, some_counted n v hs e)

  none_counted : (n : ℕ) (hs : List History) → ((v : ℕ) → has_image n (at hs v) ≡ false) → nat_lt 0 (count_images n hs) ≡ false
  none_counted n [] h = refl
  none_counted n (x ∷ hs) h = ap (λ b. nat_lt 0 ((if b then 1 else 0) + count_images n hs)) (h 0) ∙ same (count_images n hs) ∙ none_counted n hs (λ v. h (suc v))
    where
      same : (k : ℕ) → nat_lt 0 (0 + k) ≡ nat_lt 0 k
      same k = grind arith

  set_goes : (n v : ℕ) → is_kept st_kept n v ≡ true → is_deleted (delete_set n st_kept).0 ≡ true
  unfolding delete_set
  set_goes n v e = grind (arith, and_parts, some_counted)

  no_set : (n : ℕ) → ((v : ℕ) → is_kept st_kept n v ≡ false) → (delete_set n st_kept).0 ≡ Coded ObjectNotFound
  unfolding delete_set
  no_set n h = grind (arith, none_counted)

  image_says : (n v : ℕ) → (delete_image n v st_kept).0 ≡ (if is_kept st_kept n v then Deleted 1 else Coded ObjectNotFound)
  unfolding delete_image
  image_says n v = by_kept (kept_image st_kept n v) ∙ ap (λ b. if b then Deleted 1 else Coded ObjectNotFound) (found n v) where
    by_kept : (o : Option Kept) → (delete_kept v o st_kept).0 ≡ (if is_some o then Deleted 1 else Coded ObjectNotFound)
    by_kept o = grind arith

pub finds_the_kept : (s : Plan) (so_far : List Act) (act : Act) → FindsTheKept s so_far act
finds_the_kept s so_far act =
    let told = line_reply s (state s so_far) act in
    record {
      found = found s so_far;
      reverts = λ lane n v e. told (Line lane (op.Revert n v)) e ∙ revert_says s so_far n v act.mark;
      set_goes = λ lane n v e f. ap is_deleted (told (Line lane (op.DeleteSet n)) e) ∙ set_goes s so_far n v f;
      no_set = λ lane n e f. told (Line lane (op.DeleteSet n)) e ∙ no_set s so_far n f;
      image = λ lane n v e. told (Line lane (op.DeleteImage n v)) e ∙ image_says s so_far n v;
    }

-- ## What a session call is answered that is not accepted.

-- ## what a call wants

module _ (s : Plan) (st : State) where
  name_in : (w : ℕ) (named : List Pair) (name : List ℕ) (i : ℕ) (ps : List Part) → is_accepted (named_as (naming_found w (found_from name i ps) named) st).0 ≡ false
      → (named_as (naming_found w (found_from name i ps) named) st).0 ≡ name_refusal_in name ps
  name_in w named name i [] e = refl
  name_in w named name i (p ∷ ps) e = grind (arith, name_in w named name (i + 1) ps)

  component_refused : (w : ℕ) (name : List ℕ) (mode : Mode) (all : Bool) → mode ≡ mode_of all → is_accepted (component_in mode s w name st).0 ≡ false
      → (component_in mode s w name st).0 ≡ (if all then Coded BadState else name_refusal name (slice_get (known_metas s st) w))
  component_refused w name mode all e = grind (arith, name_in)

  add_refused : (v : ℕ) (o : Option SetRow) → is_accepted (add v o st).0 ≡ false → (add v o st).0 ≡ place_refusal v o
  add_refused v None e = refl
  add_refused v (Some r) e = grind arith

  -- a call that waits for nothing but a set with a volume
  volume_refused : (b : Bool) (x y : Replied) → x.0 ≡ Coded BadState → is_accepted y.0 ≡ true → is_accepted (if b then x else y).0 ≡ false → (if b then x else y).0 ≡ Coded BadState
  volume_refused b x y e f g = grind arith

-- ## ordered calls

module _ (s : Plan) (so_far : List Act) (lane : ℕ) where
  abbrev st : State
  st = state s so_far

  abbrev p : Progress
  p = progress s so_far

  -- what the checks let through, and what they answer else
  abbrev checked : Bool → Bool → Bool → Bool → Reply → Reply
  checked own start busy may answer = if own then (if start then Coded SnapshotSetInProgress else if busy then Coded BadState else if may then answer else Coded BadState) else Coded BadState

  by_checks : (o : Op) (own start busy may : Bool)
      → (judged (owner_only own (verdict_of start (busy && true) may false)) s lane o st).0 ≡ checked own start busy may (line_in s lane o st.session st).0
  by_checks o own start busy may = grind arith

  called_is : (c : SessionCall) (o : Op) (q : Session) → st.session ≡ Some q → check st.session (runs st) lane c ≡ check_other st.session (runs st) lane c
      → goes_beside_agenda c ≡ false → is_await c ≡ false
      → (called c s lane o st).0 ≡ checked (q.owner == lane) (is_start c && makes_set q.stage) (runs st) (allows q.stage (has_writers q.context) c) (session_line s lane o q st).0
  unfolding called
  called_is c o q e same beside waits = grind (arith, by_checks)

  none_called : (c : SessionCall) (o : Op) → st.session ≡ None → check st.session (runs st) lane c ≡ check_other st.session (runs st) lane c
      → (called c s lane o st).0 ≡ Coded BadState
  unfolding called
  none_called c o e same = ap (λ v. (judged v s lane o st).0) (same ∙ ap (λ x. check_other x (runs st) lane c) e)

  parts : (own start busy may comes : Bool) (answer want order : Reply) → (busy ≡ false → (not start && may) ≡ comes) → (start ≡ true → order ≡ Coded SnapshotSetInProgress)
      → (start ≡ false → order ≡ Coded BadState) → (is_accepted answer ≡ false → answer ≡ want) → is_accepted (checked own start busy may answer) ≡ false
      → checked own start busy may answer ≡ (if not own then Coded BadState else if not busy && comes then want else order)
  parts own start busy may comes answer want order f g h k e = grind arith

  abbrev Told : Option Session → Op → Reply
  Told x o = if not (owns x lane) then Coded BadState else if not (runs st) && comes_now p o then want_refusal s st p o else order_refusal o (in_progress st)

  refused_call : (c : SessionCall) (o : Op) → check st.session (runs st) lane c ≡ check_other st.session (runs st) lane c → goes_beside_agenda c ≡ false → is_await c ≡ false
      → allowed_in (asks_writers p) (stage_of p.step) c ≡ comes_now p o
      → ((q : Session) → st.session ≡ Some q → (is_start c && makes_set q.stage) ≡ true → order_refusal o (in_progress st) ≡ Coded SnapshotSetInProgress)
      → ((q : Session) → st.session ≡ Some q → (is_start c && makes_set q.stage) ≡ false → order_refusal o (in_progress st) ≡ Coded BadState)
      → ((q : Session) → q.mode ≡ mode_of p.all → is_accepted (session_line s lane o q st).0 ≡ false → (session_line s lane o q st).0 ≡ want_refusal s st p o)
      → is_accepted (called c s lane o st).0 ≡ false → (called c s lane o st).0 ≡ Told st.session o
  refused_call c o same beside waits order start idle wants e = by_session st.session refl where
    in_order : (q : Session) → st.session ≡ Some q → runs st ≡ false → allowed_in (has_writers q.context) q.stage c ≡ comes_now p o
    in_order q e f =
        let at : StandsAt q (runs st) p = stands_all s so_far q e in
        let quiet : StandsAt q false p = subst (λ b. StandsAt q b p) f at in
        ap (λ w. allowed_in w q.stage c) (writers_asked q.context p.context at.context) ∙ ap (λ x. allowed_in (asks_writers p) x c) quiet.stage ∙ order

    by_session : (x : Option Session) → st.session ≡ x → (called c s lane o st).0 ≡ Told st.session o
    by_session None f = none_called c o f same ∙ ap (λ x. Told x o) (sym f)
    by_session (Some q) f =
        let is = called_is c o q f same beside waits in
        is
        ∙ parts (q.owner == lane) (is_start c && makes_set q.stage) (runs st) (allows q.stage (has_writers q.context) c) (comes_now p o)
        (session_line s lane o q st).0 (want_refusal s st p o) (order_refusal o (in_progress st))
        (in_order q f) (start q f) (idle q f) (wants q (stands_all s so_far q f).mode) (ap is_accepted (sym is) ∙ e)
        ∙ ap (λ x. Told x o) (sym f)

  -- a call that is no `start`
  other_call : (c : SessionCall) (o : Op) → check st.session (runs st) lane c ≡ check_other st.session (runs st) lane c → goes_beside_agenda c ≡ false → is_await c ≡ false
      → is_start c ≡ false → allowed_in (asks_writers p) (stage_of p.step) c ≡ comes_now p o → order_refusal o (in_progress st) ≡ Coded BadState
      → ((q : Session) → q.mode ≡ mode_of p.all → is_accepted (session_line s lane o q st).0 ≡ false → (session_line s lane o q st).0 ≡ want_refusal s st p o)
      → is_accepted (called c s lane o st).0 ≡ false → (called c s lane o st).0 ≡ Told st.session o
  other_call c o same beside waits other order bad wants e = grind (arith, refused_call)

  start_now : (q : Session) → st.session ≡ Some q → makes_set q.stage ≡ true → order_refusal op.Start (in_progress st) ≡ Coded SnapshotSetInProgress
  start_now q e f = grind (arith, sym (makes_its_set s so_far lane q e) ∙ f)

  start_idle : (q : Session) → st.session ≡ Some q → makes_set q.stage ≡ false → order_refusal op.Start (in_progress st) ≡ Coded BadState
  start_idle q e f = grind (arith, sym (makes_its_set s so_far lane q e) ∙ f)

  abbrev w : Bool
  w = asks_writers p

  never : {X : Type 0} → true ≡ false → X
  never e = absurd cc

  refused_line : (o : Op) (mark : Mark) → is_ordered o ≡ true → is_accepted (happens s (Line lane o) mark st).0 ≡ false → (happens s (Line lane o) mark st).0 ≡ Told st.session o
  refused_line (op.Disable x) mark e = other_call call.Disable (op.Disable x) refl refl refl refl (ap (λ b. b && w) (same_stage p.step ByBegin)) refl (λ q f g. never g)
  refused_line op.Gather mark e = other_call call.Gather op.Gather refl refl refl refl (ap (λ b. b && w) (same_stage p.step ByBegin)) refl (λ q f g. never g)
  refused_line (op.Component x full) mark e =
      other_call call.Component (op.Component x full) refl refl refl refl
      (ap (λ b. (b || is_stage (stage_of p.step) Started) && w) (same_stage p.step ByGather)
      ∙ ap (λ b. (is_step p.step ByGather || b) && w) (same_stage p.step ByStart)) refl
      (λ q f g. component_refused s st x (token s full) q.mode p.all f g)
  refused_line op.Document mark e = other_call call.Document op.Document refl refl refl refl (ap (λ b. not b && w) (same_stage p.step ByBegin)) refl (λ q f g. never g)
  refused_line op.Start mark e = refused_call call.Start op.Start refl refl refl (start_stage p.step w) start_now start_idle (λ q f g. never g)
  refused_line (op.Add v) mark e = other_call call.Add (op.Add v) refl refl refl refl (same_stage p.step ByStart) refl (λ q f g. add_refused s st v (in_progress st) g)
  refused_line op.Prepare mark e = other_call call.Prepare op.Prepare refl refl refl refl (ap (λ b. b && w) (same_stage p.step ByStart)) refl
      (λ q f g. volume_refused s st (has_no_volume (in_progress st)) _ _ refl refl g)
  refused_line op.Snapshot mark e = other_call call.Snapshot op.Snapshot refl refl refl refl (either_stage p.step w) refl
      (λ q f g. volume_refused s st (has_no_volume (in_progress st)) _ _ refl refl g)
  refused_line op.Complete mark e = other_call call.Complete op.Complete refl refl refl refl (ap (λ b. b && w) (same_stage p.step BySnapshot)) refl (λ q f g. never g)
  refused_line o mark e = absurd cc

  -- ## the other calls

  begin_refused : (n : ℕ) (all : Bool) → is_fine (called (call.Begin n all) s lane (op.Begin n all) st).0 ≡ false
      → (called (call.Begin n all) s lane (op.Begin n all) st).0 ≡ Coded (if is_none st.session then UnsupportedContext else BadState)
  unfolding called
  begin_refused n all e = grind arith

  -- a call that goes beside an agenda
  beside_refused : (c : SessionCall) (o : Op) → check st.session (runs st) lane c ≡ check_other st.session (runs st) lane c → is_start c ≡ false → goes_beside_agenda c ≡ true
      → is_await c ≡ false
      → ((q : Session) → is_fine (session_line s lane o q st).0 ≡ true) → is_fine (called c s lane o st).0 ≡ false → (called c s lane o st).0 ≡ Coded BadState
  unfolding called
  beside_refused c o same start on waits fine e = grind arith

pub refuses_for_cause : (s : Plan) (so_far : List Act) (act : Act) → RefusesForCause s so_far act
refuses_for_cause s so_far act =
    let told = line_reply s (state s so_far) act in
    record {
      ordered = λ lane o e f g. let is = told (Line lane o) e in is ∙ refused_line s so_far lane o act.mark f (ap is_accepted (sym is) ∙ g);
      begins = λ lane n all e g. let is = told (Line lane (op.Begin n all)) e in is ∙ begin_refused s so_far lane n all (ap is_fine (sym is) ∙ g);
      aborts = λ lane e g.
          let is = told (Line lane op.Abort) e in is ∙ beside_refused s so_far lane call.Abort op.Abort refl refl refl refl (λ q. refl) (ap is_fine (sym is) ∙ g);
      ends = λ lane e g. let is = told (Line lane op.End) e in is ∙ beside_refused s so_far lane call.End op.End refl refl refl refl (λ q. refl) (ap is_fine (sym is) ∙ g);
    }
