-- A run that makes the moves of a report with their marks, as far as they may come.
use Rattle.std.proofs.Common.{◌≡◌, ℕ, ◌+◌, ◌<◌, ◌≤◌, List, [], ◌∷◌, ◌++◌, append_assoc, length, take, drop, get_or, refl, ap, sym, ◌∙◌, arith, true, false, Option, Some, None, subst, cond}
use Rattle.std.proofs.lemmas.Bool.{and_from, and_parts, true≢false}
use Rattle.std.proofs.lemmas.List.{append-nil, take_more, take_all, take-append-drop}
use Rattle.std.proofs.lemmas.List.Sums.{sum_by-append}
use Rattle.volume_device.specs.declared.device.Device.{Ghosts}
use Rattle.write_history.specs.declared.mark.Mark.{Mark}
use Rattle.write_history.specs.declared.mark.Mark.TheVariants.{Clean}
use Rattle.write_history.specs.declared.move_item.Move.{Move}
use Rattle.cow_volume.specs.Calls.{NeverFails, counted_as}
use Rattle.scenario.specs.Plan.{Plan}
use Rattle.vss_model.specs.Acts.{event_allows}
use Rattle.vss_model.specs.declared.event.Event.{Event}
use Rattle.vss_model.specs.declared.event.Event.TheVariants.{Line, Answer, Provider, Idle}
use Rattle.vss_model.specs.State.{State}
use Rattle.vss_model.specs.Trail.{Run, run, event_of, may_move, allows, is_legal_move, is_legal, is_fault, faults}
use Rattle.vss_model.proofs.Appending.{is_legal-append, faults-append}
use Rattle.vss_play.specs.Played.{Played, run_of, Stays, IsKept, IsMovedOn}
use Rattle.orders.specs.Again.{IsFollowedFar}
use Rattle.orders.proofs.Replay.{parts, may_never}

-- ## legal trails

-- what comes first of a legal trail is legal
pub legal_first : (s : Plan) (trail : List Move) (m : Move) → is_legal s (trail ++ m ∷ []) ≡ true → (is_legal s trail ≡ true) × (is_legal_move s (run s trail) m ≡ true)
legal_first s trail m legal =
    and_parts (is_legal s trail) (is_legal_move s (run s trail) m) (sym (is_legal-append s trail m) ∙ legal)

legal_before : (s : Plan) (before after : List Move) → is_legal s (before ++ after) ≡ true → is_legal s before ≡ true
legal_before s before [] legal = subst (λ (ms : List Move). is_legal s ms ≡ true) (append-nil before) legal
legal_before s before (m ∷ ms) legal =
    (legal_first s before m (legal_before s (before ++ m ∷ []) ms (subst (λ (xs : List Move). is_legal s xs ≡ true) (sym (append_assoc before (m ∷ []) ms)) legal))).0

clean_allowed : (s : Plan) (st : State) (e : Event) → event_allows s st e Clean ≡ true
clean_allowed s st (Line lane op) = refl
clean_allowed s st (Answer w a) = refl
clean_allowed s st Provider = refl
clean_allowed s st Idle = refl

allows_clean : (s : Plan) (r : Run) (o : Option Event) (mark : Mark) → allows s r o mark ≡ true → allows s r o Clean ≡ true
allows_clean s r None mark e = e
allows_clean s r (Some event) mark e = clean_allowed s r.state event

-- a move that may come may come without a fault
legal_clean : (s : Plan) (r : Run) (m k : Move) → k.actor ≡ m.actor → m.mark ≡ Clean → is_legal_move s r k ≡ true → is_legal_move s r m ≡ true
legal_clean s r m k actor clean legal =
    let was = and_parts (may_move s r k.actor) (allows s r (event_of s r k.actor) k.mark) legal in
    and_from (may_move s r m.actor) (allows s r (event_of s r m.actor) m.mark) (ap (may_move s r) (sym actor) ∙ was.0)
    (ap (λ (x : Mark). allows s r (event_of s r m.actor) x) clean ∙ ap (λ a. allows s r (event_of s r a) Clean) (sym actor) ∙ allows_clean s r (event_of s r k.actor) k.mark was.1)

-- ## the next move

module _ {D : Type 0} (ghosts : Ghosts D) where
  pub far_none : (p : Played D) → IsFollowedFar ghosts p p []
  far_none p = record {
    made = [];
    plan = refl;
    trail = sym (append-nil p.trail);
    tells = refl;
    exact = λ never legal. sym (append-nil p.trail);
    unmarked = λ never none. refl;
  }

  far_more : (p q r : Played D) (ms : List Move) (m : Move) → IsFollowedFar ghosts p q ms → IsMovedOn (counted_as ghosts true) q r m.actor
      → (NeverFails ghosts.count → is_legal_move q.plan (run_of q) m ≡ true → r.trail ≡ q.trail ++ m ∷ []) → IsFollowedFar ghosts p r (ms ++ m ∷ [])
  far_more p q r ms m far one marked = record {
    made = far.made ++ record { actor = m.actor; mark = one.mark } ∷ [];
    plan = one.plan ∙ far.plan;
    trail = one.trail ∙ ap (λ (xs : List Move). xs ++ record { actor = m.actor; mark = one.mark } ∷ []) far.trail ∙ append_assoc p.trail far.made (record { actor = m.actor; mark = one.mark } ∷ []);
    tells = one.tells ∙ far.tells;
    exact = λ never legal.
        let all = legal_first p.plan (p.trail ++ ms) m (subst (λ (xs : List Move). is_legal p.plan xs ≡ true) (sym (append_assoc p.trail ms (m ∷ []))) legal) in
        let same = far.exact never all.0 in
        let here : is_legal_move q.plan (run_of q) m ≡ true =
        subst (λ (s : Plan). is_legal_move s (run s q.trail) m ≡ true) (sym far.plan) (subst (λ (xs : List Move). is_legal_move p.plan (run p.plan xs) m ≡ true) (sym same) all.1) in
        marked never here ∙ ap (λ (xs : List Move). xs ++ m ∷ []) same ∙ append_assoc p.trail ms (m ∷ []);
    unmarked = λ never none.
        let both_are = unmarked_last ms m none in
        let here = legal_clean q.plan (run_of q) m (record { actor = m.actor; mark = one.mark }) refl both_are.1 one.legal in
        ap faults (marked never here) ∙ faults-append q.trail m ∙ ap (λ (k : Mark). faults q.trail + (0 + cond (is_fault k) 1 0)) both_are.1
        ∙ no_more (faults q.trail) ∙ far.unmarked never both_are.0;
  }
    where
      no_more : (n : ℕ) → n + 0 ≡ n
      no_more n = omega arith

      clean_of : (k : Mark) (n : ℕ) → n + (0 + cond {A = ℕ} (is_fault k) 1 0) ≡ 0 → (n ≡ 0) × (0 + cond {A = ℕ} (is_fault k) 1 0 ≡ 0)
      clean_of k n e = (omega arith, omega arith)

      unmarked_last : (xs : List Move) (x : Move) → faults (xs ++ x ∷ []) ≡ 0 → (faults xs ≡ 0) × (x.mark ≡ Clean)
      unmarked_last xs x e = let all = clean_of x.mark (faults xs) (sym (faults-append xs x) ∙ e) in (all.0, (parts x [] all.1).0)

  pub far_next : (p q r : Played D) (moves : List Move) (i : ℕ) (d : Move) → i < length moves → IsFollowedFar ghosts p q (take i moves)
      → IsMovedOn (counted_as ghosts true) q r (get_or moves i d).actor
      → (NeverFails ghosts.count → is_legal_move q.plan (run_of q) (get_or moves i d) ≡ true → r.trail ≡ q.trail ++ get_or moves i d ∷ [])
      → IsFollowedFar ghosts p r (take (i + 1) moves)
  far_next p q r moves i d l far one marked =
      subst (λ (ms : List Move). IsFollowedFar ghosts p r ms) (sym (take_more moves i d l)) (far_more p q r (take i moves) (get_or moves i d) far one marked)

  pub far_all : (p q : Played D) (moves : List Move) (i : ℕ) → length moves ≤ i → IsFollowedFar ghosts p q (take i moves) → IsFollowedFar ghosts p q moves
  far_all p q moves i l far = subst (λ (ms : List Move). IsFollowedFar ghosts p q ms) (take_all i moves l) far

  -- the next may not come: then these moves are no legal trail
  pub far_stopped : (p q r : Played D) (moves : List Move) (i : ℕ) (d : Move) → i < length moves → IsKept ghosts.told r
      → IsFollowedFar ghosts p q (take i moves) → (r ≡ q) × Stays q (get_or moves i d).actor → IsFollowedFar ghosts p r moves
  far_stopped p q r moves i d l kept far stays =
      subst (λ (x : Played D). IsFollowedFar ghosts p x moves) (sym stays.0) (record {
        made = far.made;
        plan = far.plan;
        trail = far.trail;
        tells = far.tells;
        exact = λ never legal.
            let m = get_or moves i d in
            let rest = drop (i + 1) moves in
            let split : p.trail ++ moves ≡ (p.trail ++ (take i moves ++ m ∷ [])) ++ rest =
            ap (λ (ms : List Move). p.trail ++ ms) (sym (take-append-drop (i + 1) moves) ∙ ap (λ (ms : List Move). ms ++ rest) (take_more moves i d l))
            ∙ sym (append_assoc p.trail (take i moves ++ m ∷ []) rest) in
            let so_far = legal_before p.plan (p.trail ++ (take i moves ++ m ∷ [])) rest (subst (λ (ms : List Move). is_legal p.plan ms ≡ true) split legal) in
            let all = legal_first p.plan (p.trail ++ take i moves) m (subst (λ (ms : List Move). is_legal p.plan ms ≡ true) (sym (append_assoc p.trail (take i moves) (m ∷ []))) so_far) in
            let may : may_move p.plan (run p.plan (p.trail ++ take i moves)) m.actor ≡ true =
            (and_parts (may_move p.plan (run p.plan (p.trail ++ take i moves)) m.actor)
            (allows p.plan (run p.plan (p.trail ++ take i moves)) (event_of p.plan (run p.plan (p.trail ++ take i moves)) m.actor) m.mark) all.1).0 in
            let kept_q : IsKept ghosts.told q = subst (λ (x : Played D). IsKept ghosts.told x) stays.0 kept in
            let never_may : may_move p.plan (run p.plan (p.trail ++ take i moves)) m.actor ≡ false =
            subst (λ (ms : List Move). may_move p.plan (run p.plan ms) m.actor ≡ false) (far.exact never all.0)
            (subst (λ (s : Plan). may_move s (run s q.trail) m.actor ≡ false) far.plan (may_never ghosts.told q m.actor kept_q stays.1)) in
            absurd (true≢false (sym may ∙ never_may));
        unmarked = λ never none. far.unmarked never (none_before moves i none);
      })
    where
      fewer : (a b : ℕ) → a + b ≡ 0 → a ≡ 0
      fewer a b e = omega arith

      none_before : (ms : List Move) (k : ℕ) → faults ms ≡ 0 → faults (take k ms) ≡ 0
      none_before ms k none = fewer (faults (take k ms)) (faults (drop k ms))
          (sym (sum_by-append (λ (m : Move). cond (is_fault m.mark) 1 0) (take k ms) (drop k ms)) ∙ ap faults (take-append-drop k ms) ∙ none)
