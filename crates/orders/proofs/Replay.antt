-- The replay of a report makes its trail again: the only one without a fault, with no other line, and at its end nobody may move.
use Rattle.std.proofs.Common.{◌≡◌, ℕ, zero, suc, ◌+◌, ◌<◌, List, [], ◌∷◌, ◌++◌, append_assoc, length, refl, ap, sym, ◌∙◌, arith, Bool, true, false, Option}
use Rattle.std.proofs.Common.{Some, None, subst, cond, ◌≤◌, inl, inr}
use Rattle.std.proofs.lemmas.Bool.Decides.{nat_tests}
use Rattle.std.proofs.lemmas.List.{append-nil}
use Rattle.std.proofs.lemmas.List.Sums.{sum_by-cons}
use Rattle.std.proofs.lemmas.Slice.Eq.{bytes_eq-Decides}
use Rattle.std.specs.List.{list_all, range_with_len}
use Rattle.std.specs.Prelude.{find, not, ◌&&◌, ◌||◌, nat_le, is_none, if◌then◌else◌, is_some, ◌==◌, ◌⊎◌, IsTrue}
use Rattle.std.specs.Str.{bytes_eq}
use Rattle.write_history.specs.declared.actor.Actor.{Actor}
use Rattle.write_history.specs.declared.actor.Actor.TheVariants.{Lane, Writer, Advance, Idle}
use Rattle.write_history.specs.declared.mark.Mark.{Mark}
use Rattle.write_history.specs.declared.mark.Mark.TheVariants.{Clean, Fault, FaultAfter}
use Rattle.write_history.specs.declared.move_item.Move.{Move}
use Rattle.cow_volume.specs.Calls.{NeverFails}
use Rattle.set_agenda.specs.Agenda.{Agenda, Open, left, open_order, is_asking, is_working}
use Rattle.scenario.specs.Bounds.{IsPlan}
use Rattle.scenario.specs.Named.{HasNames}
use Rattle.scenario.specs.Plan.{Plan, LaneLine}
use Rattle.vss_model.specs.Steps.{runs}
use Rattle.vss_model.specs.State.{left_now}
use Rattle.vss_model.specs.Trail.{run, cursor, next_line, may_move, is_used_up, is_complete, is_fault, faults, Run, line_event, script_event, event_enabled}
use Rattle.vss_model.specs.Trail.{none_can_act, is_legal}
use Rattle.vss_report.specs.Legible.{IsLegibleTrail}
use Rattle.vss_report.specs.Pieces.{before, pieces, pieces_at, is_over}
use Rattle.vss_report.specs.ReadBack.{moves_told}
use Rattle.vss_report.specs.Report.{IsReport}
use Rattle.vss_report.specs.ToldLines.{all_tell, told_report}
use Rattle.vss_report.proofs.ReadTrail.{moves_are, report_back}
use Rattle.vss_report.proofs.Joined.{from_first}
use Rattle.vss_report.proofs.LegibleWords.{named_legible}
use Rattle.vss_report.proofs.Telling.{is_told_report}
use Rattle.vss_play.specs.Acting.{actors_in_threads}
use Rattle.vss_play.specs.Played.{is_finished, Played, run_of, Stays, IsKept, AreInTurn, actors_in_turn}
use Rattle.vss_play.proofs.Sorting.{lane_in}
use Rattle.orders.specs.Again.{IsReplayed, OtherLine, end_both, other_from, first_other}
use Rattle.orders.specs.Drawn.{goes, drawn_actor, asked_from, place_of, generator_after, AreDrawn}

-- ## Of the complete trails that a number draws without a fault there is one.

-- ## where a trail is complete nobody goes

and_left : (a b : Bool) → (a && b) ≡ true → a ≡ true
and_left true b e = refl
and_left false b e = absurd cc

and_right : (a b : Bool) → (a && b) ≡ true → b ≡ true
and_right true b e = e
and_right false b e = absurd cc

each : (test : ℕ → Bool) (a n i : ℕ) → list_all test (range_with_len a n) ≡ true → i < n → test (a + i) ≡ true
each test a zero i e l = absurd (omega arith)
each test a (suc n) zero e l =
    let at : a + 0 ≡ a = omega arith in
    subst (λ x. test x ≡ true) (sym at) (and_left (test a) (list_all test (range_with_len (a + 1) n)) e)
each test a (suc n) (suc i) e l =
    let at : a + suc i ≡ a + 1 + i = omega arith in
    subst (λ x. test x ≡ true) (sym at) (each test (a + 1) n i (and_right (test a) (list_all test (range_with_len (a + 1) n)) e) (omega arith))

pub used_up : (s : Plan) (trail : List Move) (i : ℕ) (o : Option LaneLine) → is_complete s trail ≡ true → next_line s (run s trail) i ≡ o → is_none (next_line s (run s trail) i) ≡ true
used_up s trail i None e f = ap is_none f
used_up s trail i (Some l) e f =
    let within = lane_in s i (cursor (run s trail).moves i) l f in
    let at : 0 + i ≡ i = omega arith in
    subst (λ x. is_used_up s (run s trail) x ≡ true) at
    (each (is_used_up s (run s trail)) 0 (length s.lanes) i (and_left (list_all (is_used_up s (run s trail)) (range_with_len 0 (length s.lanes))) (not (runs (run s trail).state)) e) within)

finished : (s : Plan) (trail : List Move) (actor : Actor) → is_complete s trail ≡ true → is_finished s trail actor ≡ true
finished s trail (Lane i) e = used_up s trail i (next_line s (run s trail) i) e refl
finished s trail (Writer w) e = or_true (nat_le (length s.writers) w) (is_complete s trail) e
  where
    or_true : (a b : Bool) → b ≡ true → (a || b) ≡ true
    or_true true b f = refl
    or_true false b f = f
finished s trail Advance e = e
finished s trail Idle e = e

halts : (a b : Bool) → b ≡ true → (a && not b) ≡ false
halts true b e = ap not e
halts false b e = refl

nobody : (s : Plan) (trail : List Move) (actor : Actor) → is_complete s trail ≡ true → goes s trail actor ≡ false
nobody s trail actor e = halts (may_move s (run s trail) actor) (is_finished s trail actor) (finished s trail actor e)

pub none_found : (p : Actor → Bool) → ((x : Actor) → p x ≡ false) → (xs : List Actor) → find p xs ≡ None
none_found p none [] = refl
none_found p none (x ∷ xs) = ap (λ (b : Bool). if b then Some x else find p xs) (none x) ∙ none_found p none xs

none_drawn : (s : Plan) (generator : ℕ) (trail : List Move) → is_complete s trail ≡ true → drawn_actor s generator trail ≡ None
none_drawn s generator trail e =
    none_found (goes s trail) (λ x. nobody s trail x e) (asked_from (place_of generator (length (actors_in_threads s))) (actors_in_threads s))

drawn_on : (s : Plan) (generator : ℕ) (trail : List Move) (actor : Actor) → is_complete s trail ≡ true → drawn_actor s generator trail ≡ Some actor → ⊥
drawn_on s generator trail actor e f = clash (sym (none_drawn s generator trail e) ∙ f)
  where
    clash : None ≡ Some actor → ⊥
    clash g = cc

-- ## moves without a fault

is_clean : (mark : Mark) → 0 + cond (is_fault mark) 1 0 ≡ 0 → mark ≡ Clean
is_clean Clean e = refl
is_clean Fault e = absurd (omega arith)
is_clean (FaultAfter k) e = absurd (omega arith)

-- the mark of the first move, and the faults of the others
pub parts : (m : Move) (ms : List Move) → faults (m ∷ ms) ≡ 0 → (m.mark ≡ Clean) × (faults ms ≡ 0)
parts m ms e =
    let all = sum_by-cons (λ (x : Move). cond (is_fault x.mark) 1 0) m ms in
    (is_clean m.mark (omega arith), omega arith)

pub same_move : (m n : Move) → m.actor ≡ n.actor → m.mark ≡ n.mark → m ≡ n
same_move m n e f = ap (λ (a : Actor). record { actor = a; mark = m.mark }) e ∙ ap (λ (k : Mark). record { actor = n.actor; mark = k }) f

same_actor : (o : Option Actor) (a b : Actor) → o ≡ Some a → o ≡ Some b → a ≡ b
same_actor o a b e f = inside (sym e ∙ f)
  where
    inside : Some a ≡ Some b → a ≡ b
    inside g = cc

pub one_drawn : (s : Plan) (generator : ℕ) (before one other : List Move) → AreDrawn s generator before one → AreDrawn s generator before other → faults one ≡ 0 → faults other ≡ 0
    → is_complete s (before ++ one) ≡ true → is_complete s (before ++ other) ≡ true → one ≡ other
one_drawn s generator before [] [] h k clean unmarked e f = refl
one_drawn s generator before [] (n ∷ other) h k clean unmarked e f = absurd (drawn_on s generator before n.actor (subst (λ (ms : List Move). is_complete s ms ≡ true) (append-nil before) e) k.0)
one_drawn s generator before (m ∷ one) [] h k clean unmarked e f = absurd (drawn_on s generator before m.actor (subst (λ (ms : List Move). is_complete s ms ≡ true) (append-nil before) f) h.0)
one_drawn s generator before (m ∷ one) (n ∷ other) h k clean unmarked e f =
    let mine = parts m one clean in
    let its = parts n other unmarked in
    let same : m ≡ n = same_move m n (same_actor (drawn_actor s generator before) m.actor n.actor h.0 k.0) (mine.0 ∙ sym its.0) in
    let rest : one ≡ other =
    one_drawn s (generator_after generator) (before ++ m ∷ []) one other h.1
    (subst (λ (x : Move). AreDrawn s (generator_after generator) (before ++ x ∷ []) other) (sym same) k.1) mine.1 its.1
    (subst (λ (ms : List Move). is_complete s ms ≡ true) (sym (append_assoc before (m ∷ []) one)) e)
    (subst (λ (x : Move). is_complete s ((before ++ x ∷ []) ++ other) ≡ true) (sym same) (subst (λ (ms : List Move). is_complete s ms ≡ true) (sym (append_assoc before (n ∷ []) other)) f)) in
    ap (λ (x : Move). x ∷ one) same ∙ ap (λ (ms : List Move). n ∷ ms) rest

-- ## Where a trail is complete nobody's move may come.

rests : (b : Bool) → not b ≡ true → b ≡ false
rests true e = absurd cc
rests false e = refl

last : (a b : Bool) → (a && b) ≡ true → b ≡ true
last true b e = e
last false b e = absurd cc

left_none : (a : Option Agenda) → is_some a ≡ false → left a ≡ []
left_none None e = refl
left_none (Some x) e = absurd cc

-- nothing is left where no agenda runs
none_left : (s : Plan) (trail : List Move) → is_complete s trail ≡ true → left_now (run s trail).state ≡ []
none_left s trail e =
    left_none (run s trail).state.course.agenda
    (rests (runs (run s trail).state) (last (list_all (is_used_up s (run s trail)) (range_with_len 0 (length s.lanes))) (not (runs (run s trail).state)) e))

-- a lane that is used up has no move
pub lane_rests : (s : Plan) (r : Run) (i : ℕ) (o : Option LaneLine) → next_line s r i ≡ o → is_none (next_line s r i) ≡ true → may_move s r (Lane i) ≡ false
lane_rests s r i None e f = ap (λ (x : Option LaneLine). event_enabled s r (line_event i x)) e
lane_rests s r i (Some l) e f = absurd (clash (ap is_none (sym e) ∙ f))
  where
    clash : false ≡ true → ⊥
    clash g = cc

idle_rests : (a b : Bool) → a ≡ false → (a && b) ≡ false
idle_rests a b e = ap (λ (x : Bool). x && b) e

pub nobody_may : (s : Plan) (trail : List Move) (actor : Actor) → is_complete s trail ≡ true → may_move s (run s trail) actor ≡ false
nobody_may s trail (Lane i) e = lane_rests s (run s trail) i (next_line s (run s trail) i) refl (used_up s trail i (next_line s (run s trail) i) e refl)
nobody_may s trail (Writer w) e =
    ap (λ (os : List Open). event_enabled s (run s trail) (script_event s (run s trail).state w (open_order os w))) (none_left s trail e)
nobody_may s trail Advance e = ap is_working (none_left s trail e)
nobody_may s trail Idle e = idle_rests (is_asking (left_now (run s trail).state)) (none_can_act s (run s trail)) (ap is_asking (none_left s trail e))

-- ## A text has no other line than a report exactly where it is the report.

both : (a b : Bool) → a ≡ true → b ≡ true → (a && b) ≡ true
both true b e f = f
both false b e f = absurd cc

-- the first lines are the same, and there is no other line behind them
if_none : (t : Bool) (rest : Option OtherLine) (here : OtherLine) → (if t then rest else Some here) ≡ None → (t ≡ true) × (rest ≡ None)
if_none true rest here e = (refl, e)
if_none false rest here e = absurd cc

ends_with : (xs : List (List ℕ)) → end_both xs xs ≡ true
ends_with [] = refl
ends_with (a ∷ xs) = refl

pub none_of_same : (n : ℕ) (xs : List (List ℕ)) → other_from n xs xs ≡ None
none_of_same n [] = refl
none_of_same n (a ∷ xs) =
    ap (λ (t : Bool). if t then other_from (n + 1) xs xs else Some (record { line = n; wanted = a })) (both (bytes_eq a a) (end_both xs xs) ((bytes_eq-Decides a a).1 refl) (ends_with xs))
    ∙ none_of_same (n + 1) xs

same_pieces : (n : ℕ) (xs ys : List (List ℕ)) → end_both xs ys ≡ true → other_from n xs ys ≡ None → xs ≡ ys
same_pieces n [] [] e h = refl
same_pieces n [] (b ∷ ys) e h = absurd cc
same_pieces n (a ∷ xs) [] e h = absurd cc
same_pieces n (a ∷ xs) (b ∷ ys) e h =
    let parts = if_none (bytes_eq a b && end_both xs ys) (other_from (n + 1) xs ys) (record { line = n; wanted = b }) h in
    let heads : a ≡ b = (bytes_eq-Decides a b).0 (and_left (bytes_eq a b) (end_both xs ys) parts.0) in
    let tails : xs ≡ ys = same_pieces (n + 1) xs ys (and_right (bytes_eq a b) (end_both xs ys) parts.0) parts.1 in
    ap (λ (x : List ℕ). x ∷ xs) heads ∙ ap (λ (xs : List (List ℕ)). b ∷ xs) tails

-- ## from the pieces back to the text

abbrev joined : ℕ → List (List ℕ) → List ℕ
joined mark [] = []
joined mark (p ∷ []) = p
joined mark (p ∷ q ∷ ps) = p ++ mark ∷ joined mark (q ∷ ps)

joined_before : (mark byte : ℕ) (ps : List (List ℕ)) → is_over ps ≡ false → joined mark (before byte ps) ≡ byte ∷ joined mark ps
joined_before mark byte [] e = absurd cc
joined_before mark byte (p ∷ []) e = refl
joined_before mark byte (p ∷ q ∷ ps) e = refl

joined_after : (mark : ℕ) (ps : List (List ℕ)) → is_over ps ≡ false → joined mark ([] ∷ ps) ≡ mark ∷ joined mark ps
joined_after mark [] e = absurd cc
joined_after mark (p ∷ ps) e = refl

not_over : (byte : ℕ) (ps : List (List ℕ)) → is_over (before byte ps) ≡ false
not_over byte [] = refl
not_over byte (p ∷ ps) = refl

some_if : (t : Bool) (byte : ℕ) (ps : List (List ℕ)) → is_over (if t then [] ∷ ps else before byte ps) ≡ false
some_if true byte ps = refl
some_if false byte ps = not_over byte ps

some_pieces : (mark : ℕ) (text : List ℕ) → is_over (pieces mark text) ≡ false
some_pieces mark [] = refl
some_pieces mark (byte ∷ rest) = some_if (byte == mark) byte (pieces mark rest)

joined_if : (mark byte : ℕ) (t : Bool) (ps : List (List ℕ)) → (byte == mark) ≡ t → is_over ps ≡ false → joined mark (if t then [] ∷ ps else before byte ps) ≡ byte ∷ joined mark ps
joined_if mark byte true ps e some = let same : mark ≡ byte = grind (arith, nat_tests) in joined_after mark ps some ∙ ap (λ x. x ∷ joined mark ps) same
joined_if mark byte false ps e some = joined_before mark byte ps some

joined_pieces : (mark : ℕ) (text : List ℕ) → joined mark (pieces mark text) ≡ text
joined_pieces mark [] = refl
joined_pieces mark (byte ∷ rest) = joined_if mark byte (byte == mark) (pieces mark rest) refl (some_pieces mark rest) ∙ ap (λ xs. byte ∷ xs) (joined_pieces mark rest)

none_ends : (xs ys : List (List ℕ)) → is_over xs ≡ false → is_over ys ≡ false → end_both xs ys ≡ true
none_ends [] ys e f = absurd cc
none_ends (a ∷ xs) [] e f = absurd cc
none_ends (a ∷ xs) (b ∷ ys) e f = refl

same_whole : (text report : List ℕ) → other_from 1 (pieces 10 text) (pieces 10 report) ≡ None → text ≡ report
same_whole text report h =
    sym (joined_pieces 10 text)
    ∙ ap (joined 10) (same_pieces 1 (pieces 10 text) (pieces 10 report) (none_ends (pieces 10 text) (pieces 10 report) (some_pieces 10 text) (some_pieces 10 report)) h)
    ∙ joined_pieces 10 report

pub same_text : (text report : List ℕ) → first_other text report ≡ None → text ≡ report
same_text text report h =
    same_whole text report (ap (λ ps. other_from 1 ps (pieces 10 report)) (sym (from_first 10 text)) ∙ ap (λ ps. other_from 1 (pieces_at 10 text 0) ps) (sym (from_first 10 report)) ∙ h)

pub none_of_report : (text report : List ℕ) → text ≡ report → first_other text report ≡ None
none_of_report text report e = ap (λ xs. first_other xs report) e ∙ none_of_same 1 (pieces_at 10 report 0)

-- ## line by line

pub past_end : (n : ℕ) (xs ys : List (List ℕ)) → ys ≡ [] → other_from n xs ys ≡ None
past_end n [] ys e = refl
past_end n (a ∷ xs) [] e = refl
past_end n (a ∷ xs) (b ∷ ys) e = absurd cc

-- ## The replay of the report of a legal and complete trail makes that trail again.

-- ## the actor of a move that may not come stays

either_way : (a b : Bool) → (a || b) ≡ true → (a ≡ true) ⊎ (b ≡ true)
either_way true b e = inl refl
either_way false b e = inr e

past : (n w : ℕ) → nat_le n w ≡ true → n ≤ w
past n w e = grind (arith, nat_tests)

pub may_never : {D : Type 0} (told : D → Option (List (List ℕ))) (p : Played D) (actor : Actor) → IsKept told p → Stays p actor → may_move p.plan (run_of p) actor ≡ false
may_never told p actor kept (inl h) = h
may_never told p (Lane i) kept (inr h) = lane_rests p.plan (run_of p) i (next_line p.plan (run_of p) i) refl h
may_never told p (Writer w) kept (inr h) = by_end (either_way (nat_le (length p.plan.writers) w) (is_complete p.plan p.trail) h)
  where
    by_end : (nat_le (length p.plan.writers) w ≡ true) ⊎ (is_complete p.plan p.trail ≡ true) → may_move p.plan (run_of p) (Writer w) ≡ false
    by_end (inl f) = kept.writers w (past (length p.plan.writers) w f)
    by_end (inr f) = nobody_may p.plan p.trail (Writer w) f
may_never told p Advance kept (inr h) = nobody_may p.plan p.trail Advance h
may_never told p Idle kept (inr h) = nobody_may p.plan p.trail Idle h

-- ## the replay

pub nothing_more : (s : Plan) (trail rest : List Move) → is_complete s trail ≡ true → AreInTurn s trail rest → rest ≡ []
nothing_more s trail [] complete h = refl
nothing_more s trail (m ∷ ms) complete h = absurd (moves (sym (none_found (λ actor. may_move s (run s trail) actor) (λ actor. nobody_may s trail actor complete) (actors_in_turn s)) ∙ h.0))
  where
    moves : None ≡ Some m.actor → ⊥
    moves e = cc

pub moves_back : (s : Plan) (given : List ℕ) (trail : List Move) → IsPlan s → HasNames s → IsLegibleTrail s (all_tell s) trail → given ≡ told_report s trail → moves_told s given ≡ trail
moves_back s given trail plan names legible is = moves_are s given trail
    (report_back s (all_tell s) trail given (named_legible s plan names) legible (subst (λ xs. IsReport s (all_tell s) trail xs) (sym is) (is_told_report s trail)))

-- the replay of a legal and complete trail reports it
pub replays_it : {D : Type 0} (count : D → ℕ) (tells : Bool) (s : Plan) (trail : List Move) (text : List ℕ) → IsReplayed count tells s trail text → NeverFails count → IsTrue tells
    → is_legal s trail ≡ true → is_complete s trail ≡ true → text ≡ told_report s trail
replays_it count tells s trail text h never tell legal complete =
    let first : h.first ≡ trail = h.exact never legal in
    let rest : h.rest ≡ [] = nothing_more s trail h.rest complete (subst (λ (ms : List Move). AreInTurn s ms h.rest) first h.in_turn) in
    h.reported.only tell ∙ ap (told_report s) (ap (λ (ms : List Move). ms ++ h.rest) first ∙ ap (λ (ms : List Move). trail ++ ms) rest ∙ append-nil trail)
