-- What one more move adds to the state, the acts, the legality and the faults of a trail.
use Rattle.std.proofs.Common.{◌≡◌, ◌+◌, List, [], ◌∷◌, ◌++◌, refl, sym, subst, ◌∙◌, fold, cond, arith}
use Rattle.std.specs.Prelude.{◌&&◌}
use Rattle.vss_model.proofs.Terms.{append_assoc, append-nil, fold-append, sum_by-append, common_steps, Move, Plan, State, start, Act, after, state, Run}
use Rattle.vss_model.proofs.Terms.{begin, event_of, acts_if, moved, run_from, run, acts_from, acts, is_legal_move, is_legal_from, is_legal, is_fault, faults}
use Rattle.set_agenda.proofs.WriterSets.{and-true}

pub state-append : (s : Plan) (before : List Act) (act : Act) → state s (before ++ act ∷ []) ≡ after s (state s before) act
state-append s before act = fold-append (after s) (start s) before (act ∷ [])

-- what one more act keeps holds of every list of acts
pub by_last : (P : List Act → Type 0) → ((past : List Act) (act : Act) → P past → P (past ++ act ∷ [])) → P [] → (acts : List Act) → P acts
by_last P more none acts = from [] acts none where
  from : (past rest : List Act) → P past → P (past ++ rest)
  from past [] h = subst P (sym (append-nil past)) h
  from past (act ∷ rest) h = subst P (append_assoc past (act ∷ []) rest) (from (past ++ act ∷ []) rest (more past act h))

pub by_acts : (P : State → Type 0) (s : Plan) → ((past : List Act) (act : Act) → P (state s past) → P (after s (state s past) act)) → P (start s) → (acts : List Act) → P (state s acts)
by_acts P s more none acts = by_last (λ past. P (state s past)) (λ past act h. subst P (sym (state-append s past act)) (more past act h)) none acts

pub run-append : (s : Plan) (trail : List Move) (m : Move) → run s (trail ++ m ∷ []) ≡ moved s (run s trail) m
run-append s trail m = fold-append (moved s) (begin s) trail (m ∷ [])

-- a run keeps its moves
moves-run_from : (s : Plan) (r : Run) (ms : List Move) → (run_from s r ms).moves ≡ r.moves ++ ms
moves-run_from s r [] = sym (append-nil r.moves)
moves-run_from s r (m ∷ ms) = moves-run_from s (moved s r m) ms ∙ append_assoc r.moves (m ∷ []) ms

pub moves-run : (s : Plan) (trail : List Move) → (run s trail).moves ≡ trail
moves-run s trail = moves-run_from s (begin s) trail

fold-acts_from : (s : Plan) (r : Run) (ms : List Move) → fold (after s) r.state (acts_from s r ms) ≡ (run_from s r ms).state
fold-acts_from s r [] = refl
fold-acts_from s r (m ∷ ms) = let ih = fold-acts_from s (moved s r m) ms in grind (arith, common_steps, fold-append)

pub state-run : (s : Plan) (trail : List Move) → (run s trail).state ≡ state s (acts s trail)
state-run s trail = sym (fold-acts_from s (begin s) trail)

-- the acts of one more move
acts_from-append : (s : Plan) (r : Run) (ms : List Move) (m : Move) → acts_from s r (ms ++ m ∷ []) ≡ acts_from s r ms ++ acts_if (event_of s (run_from s r ms) m.actor) m.mark
acts_from-append s r [] m = append-nil (acts_if (event_of s r m.actor) m.mark)
acts_from-append s r (n ∷ ms) m = let ih = acts_from-append s (moved s r n) ms m in grind (arith, common_steps, append_assoc)

pub acts-append : (s : Plan) (trail : List Move) (m : Move) → acts s (trail ++ m ∷ []) ≡ acts s trail ++ acts_if (event_of s (run s trail) m.actor) m.mark
acts-append s trail m = acts_from-append s (begin s) trail m

-- the legality of one more move

is_legal_from-append : (s : Plan) (r : Run) (ms : List Move) (m : Move) → is_legal_from s r (ms ++ m ∷ []) ≡ (is_legal_from s r ms && is_legal_move s (run_from s r ms) m)
is_legal_from-append s r [] m = and-true (is_legal_move s r m)
is_legal_from-append s r (n ∷ ms) m = let ih = is_legal_from-append s (moved s r n) ms m in grind (arith, common_steps)

pub is_legal-append : (s : Plan) (trail : List Move) (m : Move) → is_legal s (trail ++ m ∷ []) ≡ (is_legal s trail && is_legal_move s (run s trail) m)
is_legal-append s trail m = is_legal_from-append s (begin s) trail m

-- the faults of one more move
pub faults-append : (trail : List Move) (m : Move) → faults (trail ++ m ∷ []) ≡ faults trail + faults (m ∷ [])
faults-append trail m = sum_by-append (λ (x : Move). cond (is_fault x.mark) 1 0) trail (m ∷ [])
