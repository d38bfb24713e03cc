-- Each set ends, and one that nothing disturbs completes; and so the headline.
use Rattle.std.proofs.Common.{◌≡◌, ◌∙◌, ℕ, ◌==◌, List, [], ◌∷◌, ◌++◌, Some, None, refl, true, false, ap, sym, subst, find, arith}
use Rattle.vss_names.specs.declared.set_outcome.SetOutcome.TheVariants.{Running as RunningSet, Complete as CompleteSet}
use Rattle.scenario.specs.declared.op.Op.TheVariants as op
use Rattle.vss_model.specs.Trail.{is_complete as is_complete_trail, is_legal}
use Rattle.promises.proofs.Failing.{fails_for_cause, loses_none}
use Rattle.promises.proofs.SetRows.{later_again, later_row, keeps_rows, go_on_from}
use Rattle.promises.proofs.Words.{append_assoc, both_ways, SetOutcome, Move, Op, IsPlan, Plan, Event, State, SetRow, is_running, is_complete, in_progress}
use Rattle.promises.proofs.Words.{row_of, OverButNewest, has_failed, Act, after, state, ticks_of, line_gives_cause, gives_cause, state-append, complete_ends}
use Rattle.promises.proofs.Words.{orderly, row_running, append_nothing, some_same, Failed as FailedSet, Line, acts, IsLaterRow, HasLaterRow, HasEnded}
use Rattle.promises.proofs.Words.{EndsEachSet, IsCalm, CalmWhile, HasCompleted, CompletesWhereCalm, reads_as_at_cut, leaves_nothing, held_for_set}
use Rattle.promises.proofs.Words.{frozen_for_set, keeps_set, each_line_once, trail_is_short, Headline}

-- ## Each set ends, and one that nothing disturbs completes.

-- ## every set ends

none_runs : (rows : List SetRow) (n : ℕ) (r : SetRow) → find (λ (q : SetRow). is_running q.result) rows ≡ None → find (λ (q : SetRow). q.number == n) rows ≡ Some r → is_running r.result ≡ false
none_runs [] n r e f = absurd cc
none_runs (q ∷ rows) n r e f = grind (arith, some_same, none_runs rows n r)

later_ends : (st : State) (r : SetRow) → in_progress st ≡ None → HasLaterRow st r → HasEnded st r
later_ends st r e h = record { has = h; over = none_runs st.sets r.number h.row e h.is_row }

pub ends_each_set : (s : Plan) (trail : List Move) → IsPlan s → is_legal s trail ≡ true → is_complete_trail s trail ≡ true → EndsEachSet s trail
ends_each_set s trail plan legal whole so_far rest n r e f =
    let end = state s (acts s trail) in
    let on = subst (λ all. HasLaterRow (state s all) r) (sym e) (later_row (state s so_far).sets (state s (so_far ++ rest)) n r (go_on_from s so_far rest) f) in
    later_ends end r (complete_ends s trail plan legal whole) on

-- ## a calm act gives no cause

module _ (s : Plan) (st : State) (act : Act) (calm : IsCalm s st act) where
  calm_line : (lane : ℕ) (o : Op) → act.event ≡ Line lane o → line_gives_cause s st lane o ≡ false
  calm_line lane (op.WriteFill v b x) e = loses_none s st v b (λ r f h. calm.has_slots lane (op.WriteFill v b x) (record { volume = v; block = b }) r e refl f h)
  calm_line lane (op.WriteStamp v b x) e = loses_none s st v b (λ r f h. calm.has_slots lane (op.WriteStamp v b x) (record { volume = v; block = b }) r e refl f h)
  calm_line lane (op.Tick n) e = calm.in_time n (ap (λ event. ticks_of st event) e)
  calm_line lane op.Abort e = calm.goes_on lane op.Abort e refl
  calm_line lane op.End e = calm.goes_on lane op.End e refl
  calm_line lane o e = refl

  no_cause : (event : Event) → act.event ≡ event → gives_cause s st event act.mark ≡ false
  no_cause event e = grind (arith, calm_line)

-- ## the row that runs is that of the set in progress

runs_found : (k n : ℕ) (rows : List SetRow) (r : SetRow) → OverButNewest rows → find (λ (q : SetRow). q.number == n) rows ≡ Some r → is_running r.result ≡ true
    → find (λ (q : SetRow). is_running q.result) rows ≡ Some r
runs_found k n [] r h e f = absurd cc
runs_found k n (q ∷ []) r h e f = grind (arith, some_same)
runs_found k n (q ∷ p ∷ rows) r h e f = grind (arith, some_same, runs_found k n (p ∷ rows) r h.1)

-- ## a calm set completes

stays_complete : (st : State) (r q : SetRow) → is_complete q.result ≡ true → q.number ≡ r.number → IsLaterRow r q → HasLaterRow st q → HasCompleted st r
stays_complete st r q e num h k = record {
  has = record { row = k.row; is_row = ap (λ n. row_of st n) (sym num) ∙ k.is_row; later = later_again r q k.row h k.later };
  complete = subst (λ (x : SetRow). is_complete x.result ≡ true) (sym (k.later.over (grind arith))) e;
}

-- what the acts after the first one come to, for the row that stands then
abbrev Rest : Plan → List Act → List Act → Type 0
Rest s before rest = (q : SetRow) → in_progress (state s (before ++ rest)) ≡ None → in_progress (state s before) ≡ Some q → CalmWhile s before rest q.number → HasCompleted (state s (before ++ rest)) q

module _ (s : Plan) (so_far rest : List Act) (act : Act) (r : SetRow) (over : in_progress (state s (so_far ++ act ∷ rest)) ≡ None)
    (e : in_progress (state s so_far) ≡ Some r) (calm : CalmWhile s so_far (act ∷ rest) r.number) where
  is_here : in_progress (state s (so_far ++ [])) ≡ Some r
  is_here = subst (λ acts. in_progress (state s acts) ≡ Some r) (sym (append_nothing so_far)) e

  calm_act : IsCalm s (state s so_far) act
  calm_act = subst (λ acts. IsCalm s (state s acts) act) (append_nothing so_far) (calm [] rest act r refl is_here refl)

  next_acts : (so_far ++ act ∷ []) ++ rest ≡ so_far ++ act ∷ rest
  next_acts = append_assoc so_far (act ∷ []) rest

  calm_next : (q : SetRow) → q.number ≡ r.number → CalmWhile s (so_far ++ act ∷ []) rest q.number
  calm_next q num before later next p f g h =
      subst (λ acts. IsCalm s (state s acts) next) (sym (append_assoc so_far (act ∷ []) before))
      (calm (act ∷ before) later next p (ap (λ xs. act ∷ xs) f) (subst (λ acts. in_progress (state s acts) ≡ Some p) (append_assoc so_far (act ∷ []) before) g) (h ∙ num))

  -- the row right after the act
  next_row : (here : HasLaterRow (after s (state s so_far) act) r) → row_of (state s (so_far ++ act ∷ [])) r.number ≡ Some here.row
  next_row here = subst (λ (x : State). row_of x r.number ≡ Some here.row) (sym (state-append s so_far act)) here.is_row

  later_on : (here : HasLaterRow (after s (state s so_far) act) r) → HasLaterRow (state s (so_far ++ act ∷ rest)) here.row
  later_on here =
      subst (λ acts. HasLaterRow (state s acts) here.row) next_acts
      (later_row (state s (so_far ++ act ∷ [])).sets (state s ((so_far ++ act ∷ []) ++ rest)) r.number here.row (go_on_from s (so_far ++ act ∷ []) rest) (next_row here))

  again : (q : SetRow) → IsLaterRow r q → HasCompleted (state s (so_far ++ act ∷ rest)) q → HasCompleted (state s (so_far ++ act ∷ rest)) r
  again q h k = record {
    has = record { row = k.has.row; is_row = ap (λ n. row_of (state s (so_far ++ act ∷ rest)) n) (sym h.number) ∙ k.has.is_row; later = later_again r q k.has.row h k.has.later };
    complete = k.complete;
  }

  goes_on : (here : HasLaterRow (after s (state s so_far) act) r) → is_running here.row.result ≡ true → in_progress (state s (so_far ++ act ∷ [])) ≡ Some here.row
  goes_on here f = runs_found 1 r.number (state s (so_far ++ act ∷ [])).sets here.row (orderly s (so_far ++ act ∷ [])).newest (next_row here) f

  by_result : (o : SetOutcome) (here : HasLaterRow (after s (state s so_far) act) r) → here.row.result ≡ o → Rest s (so_far ++ act ∷ []) rest → HasCompleted (state s (so_far ++ act ∷ rest)) r
  by_result RunningSet here f go_on =
      again here.row here.later
      (subst (λ acts. HasCompleted (state s acts) here.row) next_acts
      (go_on here.row (subst (λ acts. in_progress (state s acts) ≡ None) (sym next_acts) over) (goes_on here (ap is_running f)) (calm_next here.row here.later.number)))
  by_result CompleteSet here f go_on = stays_complete (state s (so_far ++ act ∷ rest)) r here.row (ap is_complete f) here.later.number here.later (later_on here)
  by_result (FailedSet why) here f go_on =
      absurd (both_ways (gives_cause s (state s so_far) act.event act.mark) (no_cause s (state s so_far) act calm_act act.event refl)
      ((fails_for_cause s so_far act).only r here.row e here.is_row (ap has_failed f)))

  now : HasLaterRow (after s (state s so_far) act) r
  now = keeps_rows s so_far act r.number r (row_running 1 (state s so_far).sets r (orderly s so_far).numbered e)

calm_completes : (s : Plan) (so_far rest : List Act) → Rest s so_far rest
calm_completes s so_far [] r over e calm = grind (arith, subst (λ acts. in_progress (state s acts) ≡ None) (append_nothing so_far) over)
calm_completes s so_far (act ∷ rest) r over e calm =
    let here = now s so_far rest act r over e calm in
    by_result s so_far rest act r over e calm here.row.result here refl (calm_completes s (so_far ++ act ∷ []) rest)

pub complete_where_calm : (s : Plan) (trail : List Move) → IsPlan s → is_legal s trail ≡ true → is_complete_trail s trail ≡ true → CompletesWhereCalm s trail
complete_where_calm s trail plan legal whole so_far rest r e f calm = grind (arith, calm_completes, complete_ends)

-- ## The headline, put together.

pub has_headline : (s : Plan) (trail : List Move) → IsPlan s → is_legal s trail ≡ true → is_complete_trail s trail ≡ true → Headline s trail
has_headline s trail plan legal whole = record {
  each_line_once = each_line_once s trail legal whole;
  reads_as_then = λ so_far rest n v p e f. reads_as_at_cut s so_far n v p f;
  nothing_left = λ so_far rest n r e f g. leaves_nothing s so_far n r f g;
  let_go = λ so_far rest act r e f. keeps_set s so_far r act f;
  held = λ so_far rest v e f. held_for_set s so_far v f;
  frozen = λ so_far rest w e f. frozen_for_set s so_far w f;
  each_set_ends = ends_each_set s trail plan legal whole;
  fails_for_cause = λ so_far rest act e. fails_for_cause s so_far act;
  completes = complete_where_calm s trail plan legal whole;
  short = trail_is_short s trail plan legal;
}
