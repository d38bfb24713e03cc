-- The report of a trail is read as that trail, and tells its moves: line by line, and move by move.
use Rattle.std.proofs.Common.{◌≡◌, ℕ, ◌+◌, List, [], ◌∷◌, Bool, arith, ◌∙◌, ◌^◌, ◌<◌, ◌≤◌, true, false, ◌++◌, length, Option, Some, None, Result, Ok, Err, refl}
use Rattle.std.proofs.Common.{ap, sym, subst}
use Rattle.std.proofs.lemmas.Grind.{common_steps}
use Rattle.std.proofs.lemmas.List.{append_assoc, append-nil, length-append}
use Rattle.std.proofs.lemmas.List.Elements.{All-head, All-tail}
use Rattle.std.specs.Fmt.{decimal}
use Rattle.std.specs.List.{flat_map}
use Rattle.std.specs.Prelude.{if◌then◌else◌, All, not, codes}
use Rattle.vss_names.specs.Order as order
use Rattle.vss_names.specs.declared.order.Order.{Order}
use Rattle.write_history.specs.declared.actor.Actor.{Actor}
use Rattle.write_history.specs.declared.actor.Actor.TheVariants.{Lane, Writer, Advance, Idle}
use Rattle.write_history.specs.declared.evicted.Evicted.{Evicted}
use Rattle.write_history.specs.declared.mark.Mark.{Mark}
use Rattle.write_history.specs.declared.move_item.Move.{Move as Step}
use Rattle.write_history.specs.declared.trail.TheConstants.{MOST_MOVES}
use Rattle.scenario.specs.Plan.{Plan, LaneLine}
use Rattle.vss_model.specs.Acts.{Act, reply}
use Rattle.vss_model.specs.Effects.{evicted, lost, lost_order, ended}
use Rattle.vss_model.specs.Reply.{Reply, Answered, Stepped, Idled}
use Rattle.vss_model.specs.State.{State, SetRow}
use Rattle.vss_model.specs.Trail.{Run, begin, run, run_from, event_of, act_of, moved, cursor, next_line}
use Rattle.vss_model.specs.declared.event.Event.{Event}
use Rattle.vss_model.proofs.Appending.{moves-run}
use Rattle.vss_report.specs.Legible.{IsShort, IsLegible, IsWriterReply, IsStepReply, IsIdleReply, IsReplyTo, IsLegibleImage, IsLegibleEnd, IsLegibleAct}
use Rattle.vss_report.specs.Legible.{IsLegibleEvent, IsLegibleMove, AreLegible, IsLegibleTrail}
use Rattle.vss_report.specs.Pieces.{pieces, is_over}
use Rattle.vss_report.specs.ReadBack.{next_number, goes_on, read_from, after_first, reading_back, tells_on, moves_from, moves_after_first, moves_told}
use Rattle.vss_report.specs.Report.{IsReplyText, IsActText, IsTextOf, IsLines, IsReport, number_in, actor_text, lost_texts, ended_text, effects_text, move_text}
use Rattle.vss_report.specs.Report.{first_line, end_text, writers_text}
use Rattle.vss_report.specs.Shapes.{kind_of, move_in}
use Rattle.vss_report.specs.Words.{spaced, as_line, lane_text, writer_text, answer_text, evicted_text, lost_text}
use Rattle.vss_report.specs.declared.line_kind.LineKind.{LineKind}
use Rattle.vss_report.specs.declared.line_kind.LineKind.TheVariants.{Move, Effect, End}
use Rattle.vss_report.proofs.Joined.{is_free, joined, pieces_are_some}
use Rattle.vss_report.proofs.LegibleWords.{name_word, Says, says_word, says_number, says_spaced}
use Rattle.vss_report.proofs.ReadLines.{lane_back, writer_back, says_answer, step_back, idle_back, IsReadLine, move_line, evicted_line, lost_line, set_line}
use Rattle.vss_report.proofs.ReadLines.{end_line}
use Rattle.vss_report.proofs.ReadReplies.{read_reply}

-- ## A text that is a report tells the moves of its trail.

-- one line of them, where what comes after it agrees
on_line : (number : ℕ) (moves all : List Step) (more : List Step → Result (List Step) ℕ) (on : List Step → List Step) (kind : LineKind)
    → ((ms : List Step) → more ms ≡ Ok all → on ms ≡ all) → goes_on number moves more kind ≡ Ok all → tells_on moves on kind ≡ all
on_line number moves all more on kind agree h = grind arith

over_or : (last : Bool) (number : ℕ) (moves all : List Step) (more : Result (List Step) ℕ) (on : List Step) → (more ≡ Ok all → on ≡ all)
    → (if last then Err number else more) ≡ Ok all → (if last then moves else on) ≡ all
over_or last number moves all more on agree h = grind arith

moves_from_are : (s : Plan) (number : ℕ) (moves all : List Step) (ps : List (List ℕ)) → read_from s number moves ps ≡ Ok all → moves_from s moves ps ≡ all
moves_from_are s number moves all [] h = cc
moves_from_are s number moves all (line ∷ rest) h =
    let kind = kind_of s (next_number moves) line in
    over_or (is_over rest) number moves all (goes_on number moves (λ ms. read_from s (number + 1) ms rest) kind) (tells_on moves (λ ms. moves_from s ms rest) kind)
    (on_line number moves all (λ ms. read_from s (number + 1) ms rest) (λ ms. moves_from s ms rest) kind (λ ms. moves_from_are s (number + 1) ms all rest)) h

first_or : (is : Bool) (all more : List Step) (read : Result (List Step) ℕ) → (read ≡ Ok all → more ≡ all) → (if is then read else Err 1) ≡ Ok all → (if is then more else []) ≡ all
first_or is all more read agree h = grind arith

after_first_are : (s : Plan) (all : List Step) (ps : List (List ℕ)) → after_first s ps ≡ Ok all → moves_after_first s ps ≡ all
after_first_are s all ps h = grind (arith, first_or, moves_from_are)

pub moves_are : (s : Plan) (text : List ℕ) (all : List Step) → reading_back s text ≡ Ok all → moves_told s text ≡ all
unfolding reading_back moves_told
moves_are s text all h = after_first_are s all (pieces 10 text) h

-- ## The report of a trail is read as that trail: line by line, and move by move.

-- ## line by line

-- what a text at the head of a report makes of the moves before it, whatever stands behind it
abbrev pub Reads : Plan → List Step → List ℕ → List Step → Type 0
Reads s before text after = (k : ℕ) (rest : List ℕ) → (j : ℕ) × (read_from s k before (pieces 10 (text ++ rest)) ≡ read_from s j after (pieces 10 rest))

reads_none : (s : Plan) (before : List Step) → Reads s before [] before
reads_none s before k rest = (k, refl)

reads_then : (s : Plan) (a b c : List Step) (text more : List ℕ) → Reads s a text b → Reads s b more c → Reads s a (text ++ more) c
reads_then s a b c text more f g k rest = let first = f k (more ++ rest) in let second = g first.0 rest in grind (arith, common_steps, append_assoc)

not_last : (b : Bool) (x y : Result (List Step) ℕ) → b ≡ false → (if b then x else y) ≡ y
not_last b x y e = grind arith

one_line : (s : Plan) (k : ℕ) (before : List Step) (line rest : List ℕ) → is_free 10 line ≡ true
    → read_from s k before (pieces 10 (as_line line ++ rest)) ≡ goes_on k before (λ all. read_from s (k + 1) all (pieces 10 rest)) (kind_of s (next_number before) line)
one_line s k before line rest h = grind (arith, append_assoc, joined, not_last, pieces_are_some)

reads_effect : (s : Plan) (before : List Step) (line : List ℕ) → IsReadLine s (next_number before) line Effect → Reads s before (as_line line) before
reads_effect s before line h k rest = (k + 1, one_line s k before line rest h.free ∙ ap (goes_on k before (λ all. read_from s (k + 1) all (pieces 10 rest))) h.kind_is)

reads_move : (s : Plan) (before : List Step) (line : List ℕ) (m : Step) → IsReadLine s (next_number before) line (Move m) → Reads s before (as_line line) (before ++ m ∷ [])
reads_move s before line m h k rest = (k + 1, one_line s k before line rest h.free ∙ ap (goes_on k before (λ all. read_from s (k + 1) all (pieces 10 rest))) h.kind_is)

ends_here : (s : Plan) (k : ℕ) (before : List Step) (line rest : List ℕ) → IsReadLine s (next_number before) line End → read_from s k before (pieces 10 (as_line line ++ rest)) ≡ Ok before
ends_here s k before line rest h = one_line s k before line rest h.free ∙ ap (goes_on k before (λ all. read_from s (k + 1) all (pieces 10 rest))) h.kind_is

-- ## effects

reads_evicted : (s : Plan) (before : List Step) (images : List Evicted) → IsLegible s → All (IsLegibleImage s) images → Reads s before (flat_map (evicted_text s) images) before
reads_evicted s before [] legible h = reads_none s before
reads_evicted s before (e ∷ images) legible h =
    reads_then s before before before (evicted_text s e) (flat_map (evicted_text s) images)
    (reads_effect s before _ (evicted_line s (next_number before) e legible.volumes (All-head (IsLegibleImage s) e images h)))
    (reads_evicted s before images legible (All-tail (IsLegibleImage s) e images h))

reads_lost_one : (s : Plan) (before : List Step) (o : Option Order) (w : ℕ) → IsLegible s → w < length s.writers → Reads s before (lost_text s o w) before
reads_lost_one s before None w legible h = reads_none s before
reads_lost_one s before (Some o) w legible h = reads_effect s before _ (lost_line s (next_number before) w o legible h)

reads_lost : (s : Plan) (before : List Step) (o : Option Order) (ws : List ℕ) → IsLegible s → All (λ w. w < length s.writers) ws → Reads s before (flat_map (lost_text s o) ws) before
reads_lost s before o [] legible h = reads_none s before
reads_lost s before o (w ∷ ws) legible h =
    reads_then s before before before (lost_text s o w) (flat_map (lost_text s o) ws)
    (reads_lost_one s before o w legible (All-head (λ x. x < length s.writers) w ws h))
    (reads_lost s before o ws legible (All-tail (λ x. x < length s.writers) w ws h))

reads_ended : (s : Plan) (before : List Step) (o : Option SetRow) → IsLegibleEnd o → Reads s before (ended_text o) before
reads_ended s before None h = reads_none s before
reads_ended s before (Some r) h = reads_effect s before _ (set_line s (next_number before) r.number r.result h.0 h.1)

reads_effects : (s : Plan) (tells : List Bool) (before : List Step) (st : State) (act : Act) (actor : Actor) → IsLegible s → IsLegibleAct s tells st actor act → Reads s before (effects_text s st act) before
unfolding effects_text
reads_effects s tells before st act actor legible h =
    reads_then s before before before (flat_map (evicted_text s) (evicted s st act.event) ++ lost_texts s st act.event) (ended_text (ended s st act))
    (reads_then s before before before (flat_map (evicted_text s) (evicted s st act.event)) (lost_texts s st act.event)
    (reads_evicted s before (evicted s st act.event) legible h.evicted_are)
    (reads_lost s before (lost_order st act.event) (lost st act.event) legible h.lost_are))
    (reads_ended s before (ended s st act) h.end_is)

-- ## a move

short_number : (o : Option LaneLine) → ((l : LaneLine) → o ≡ Some l → l.number < 2 ^ 64) → IsShort (number_in o)
short_number o h = grind arith

same_words : (d : List ℕ) (a b : List ℕ) → (d ++ spaced a) ++ spaced b ≡ d ++ spaced (a ++ spaced b)
same_words d a b = append_assoc d (spaced a) (spaced b)

-- the line of a move, without the lines of its effects
record IsMoveLine (s : Plan) (r : Run) (actor : Actor) (mark : Mark) (text : List ℕ) : Type 0 where
  pub words : List (List ℕ)
  pub says : Says (actor_text s r actor ++ spaced text) words
  pub move_is : move_in s words ≡ Some (record { actor = actor; mark = mark })

writer_line : (s : Plan) (tells : List Bool) (r : Run) (w : ℕ) (mark : Mark) (answer : Reply) (text : List ℕ) → IsLegible s → w < length s.writers → IsReplyText s tells answer text → IsWriterReply mark answer → IsMoveLine s r (Writer w) mark text
writer_line s tells r w mark (Answered o a) text legible l e h =
    let name : List ℕ = writer_text s w in
    subst (IsMoveLine s r (Writer w) mark) (sym e.is) (subst (λ m. IsMoveLine s r (Writer w) m (order.name_of o ++ spaced (answer_text a))) (sym h) (record {
      words = codes "writer" ∷ name ∷ order.name_of o ∷ answer_text a ∷ [];
      says = says_spaced (codes "writer " ++ name) (order.name_of o ++ spaced (answer_text a)) (codes "writer" ∷ name ∷ []) (order.name_of o ∷ answer_text a ∷ [])
          (let d = says_word name (name_word name (legible.writers w l)) in record { pieces_are = ap (λ ps. codes "writer" ∷ ps) d.pieces_are; line = d.line })
          (says_answer o a);
      move_is = writer_back s w o a legible.writers_apart l;
    }))
writer_line s tells r w mark _ text legible l e h = absurd h

step_line : (s : Plan) (tells : List Bool) (r : Run) (mark : Mark) (answer : Reply) (text : List ℕ) → IsLegible s → IsReplyText s tells answer text → IsStepReply s mark answer → IsMoveLine s r Advance mark text
step_line s tells r mark (Stepped g v fault) text legible e h = grind (arith, common_steps, step_back s mark g v fault legible.volumes h)
step_line s tells r mark _ text legible e h = absurd h

idle_line : (s : Plan) (tells : List Bool) (r : Run) (mark : Mark) (answer : Reply) (text : List ℕ) → IsReplyText s tells answer text → IsIdleReply mark answer → IsMoveLine s r Idle mark text
idle_line s tells r mark (Idled n) text e h = grind (arith, common_steps, says_number n h.1, idle_back n h.1)
idle_line s tells r mark _ text e h = absurd h

actor_line : (s : Plan) (tells : List Bool) (r : Run) (actor : Actor) (mark : Mark) (answer : Reply) (text : List ℕ) → IsLegible s → IsReplyText s tells answer text → IsReplyTo s tells actor mark answer → IsMoveLine s r actor mark text
actor_line s tells r (Lane i) mark answer text legible e h =
    let name : List ℕ = lane_text s i in
    let line : ℕ = number_in (next_line s r i) in
    let short : IsShort line = short_number (next_line s r i) (λ l is. legible.lines i (cursor r.moves i) l is) in
    let read = read_reply s tells mark answer text legible.writers e h.1 in
    record {
      words = codes "lane" ∷ name ∷ decimal line ∷ read.words;
      says = says_spaced (codes "lane " ++ name ++ spaced (decimal line)) text (codes "lane" ∷ name ∷ decimal line ∷ []) read.words
          (says_spaced (codes "lane " ++ name) (decimal line) (codes "lane" ∷ name ∷ []) (decimal line ∷ [])
          (let d = says_word name (name_word name (legible.lanes i h.0)) in record { pieces_are = ap (λ ps. codes "lane" ∷ ps) d.pieces_are; line = d.line })
          (says_number line short))
          read.says;
      move_is = lane_back s i line mark read.words legible.lanes_apart h.0 short read.mark_is;
    }
actor_line s tells r (Writer w) mark answer text legible e h = writer_line s tells r w mark answer text legible h.0 e h.1
actor_line s tells r Advance mark answer text legible e h = step_line s tells r mark answer text legible e h
actor_line s tells r Idle mark answer text legible e h = idle_line s tells r mark answer text e h

reads_act : (s : Plan) (tells : List Bool) (r : Run) (actor : Actor) (act : Act) (own : List ℕ) → IsLegible s → length r.moves + 1 ≤ MOST_MOVES → IsActText s tells r actor act own → IsLegibleAct s tells r.state actor act
    → Reads s r.moves own (r.moves ++ (record { actor = actor; mark = act.mark }) ∷ [])
unfolding move_text
reads_act s tells r actor act own legible few is h =
    let m : Step = record { actor = actor; mark = act.mark } in
    let line = actor_line s tells r actor act.mark (reply s r.state act) is.reply_text legible is.is_reply h.reply_is in
    let n : ℕ = length r.moves + 1 in
    let text : List ℕ = actor_text s r actor ++ spaced is.reply_text in
    let read : Reads s r.moves (as_line (decimal n ++ spaced (actor_text s r actor) ++ spaced is.reply_text)) (r.moves ++ m ∷ []) =
    subst (λ t. Reads s r.moves (as_line t) (r.moves ++ m ∷ [])) (sym (same_words (decimal n) (actor_text s r actor) is.reply_text)) (reads_move s r.moves (decimal n ++ spaced text) m (move_line s n text line.words m few line.says line.move_is)) in
    subst (λ t. Reads s r.moves t (r.moves ++ m ∷ [])) (sym is.is)
    (reads_then s r.moves (r.moves ++ m ∷ []) (r.moves ++ m ∷ []) (as_line (decimal n ++ spaced (actor_text s r actor) ++ spaced is.reply_text)) (effects_text s r.state act) read
    (reads_effects s tells (r.moves ++ m ∷ []) r.state act actor legible h))

reads_event : (s : Plan) (tells : List Bool) (r : Run) (m : Step) (event : Option Event) (own : List ℕ) → IsLegible s → length r.moves + 1 ≤ MOST_MOVES → IsTextOf s tells r m.actor event m.mark own → IsLegibleEvent s tells r.state m.actor event m.mark
    → Reads s r.moves own (r.moves ++ m ∷ [])
reads_event s tells r m None own legible few is h = absurd h
reads_event s tells r m (Some event) own legible few is h = reads_act s tells r m.actor (act_of m.mark event) own legible few is h

-- ## all moves

reads_moves : (s : Plan) (tells : List Bool) (r : Run) (ms : List Step) (text : List ℕ) → IsLegible s → length r.moves + length ms ≤ MOST_MOVES → IsLines s tells r ms text → AreLegible s tells r ms → Reads s r.moves text (r.moves ++ ms)
reads_moves s tells r [] text legible few is h = subst (λ t. Reads s r.moves t (r.moves ++ [])) (sym is) (subst (Reads s r.moves []) (sym (append-nil r.moves)) (reads_none s r.moves))
reads_moves s tells r (m ∷ ms) text legible few (own, rest, is_own, is_rest, e) h =
    let long : length (r.moves ++ m ∷ []) ≡ length r.moves + 1 = length-append r.moves (m ∷ []) in
    subst (λ t. Reads s r.moves t (r.moves ++ m ∷ ms)) (sym e)
    (reads_then s r.moves (r.moves ++ m ∷ []) (r.moves ++ m ∷ ms) own rest
    (reads_event s tells r m (event_of s r m.actor) own legible (omega arith) is_own h.0)
    (subst (Reads s (r.moves ++ m ∷ []) rest) (append_assoc r.moves (m ∷ []) ms) (reads_moves s tells (moved s r m) ms rest legible (omega (arith, long)) is_rest h.1)))

not_end : (b : Bool) (x y : Result (List Step) ℕ) → b ≡ false → (if not b then x else y) ≡ x
not_end b x y e = grind arith

from_start : (s : Plan) (rest : List ℕ) → after_first s (pieces 10 (first_line ++ rest)) ≡ read_from s 2 [] (pieces 10 rest)
from_start s rest = not_end (is_over (pieces 10 rest)) (read_from s 2 [] (pieces 10 rest)) (Err 1) (pieces_are_some 10 rest)

pub report_back : (s : Plan) (tells : List Bool) (trail : List Step) (text : List ℕ) → IsLegible s → IsLegibleTrail s tells trail → IsReport s tells trail text → reading_back s text ≡ Ok trail
unfolding reading_back
report_back s tells trail text legible h is =
    let so_far = is.is_so_far in
    let closing = is.is_closing in
    let r : Run = run s trail in
    let own : r.moves ≡ trail = moves-run s trail in
    let writers : List ℕ = writers_text s s.writers r.state.course.rows in
    let few : 0 + length trail ≤ MOST_MOVES = omega (arith, h.few) in
    let read = reads_moves s tells (begin s) trail so_far.moves legible few so_far.lines h.moves 2 is.closing in
    let many : IsShort (length r.moves) = omega (arith, ap length own, h.few) in
    ap (λ t. after_first s (pieces 10 t)) (is.is ∙ ap (λ t. t ++ is.closing) so_far.is ∙ append_assoc first_line so_far.moves is.closing)
    ∙ from_start s (so_far.moves ++ is.closing)
    ∙ read.1
    ∙ ap (λ t. read_from s read.0 trail (pieces 10 t)) (closing.is ∙ append_assoc (end_text r) closing.volumes writers)
    ∙ ends_here s read.0 trail (codes "end moves " ++ decimal (length r.moves) ++ codes " clock " ++ decimal r.state.clock) (closing.volumes ++ writers) (end_line s (next_number trail) (length r.moves) r.state.clock many h.clock)

same_read : (a b : List Step) (reading : Result (List Step) ℕ) → reading ≡ Ok a → reading ≡ Ok b → a ≡ b
same_read a b reading e f = cc

pub one_trail : (s : Plan) (tells others : List Bool) (trail other : List Step) (text : List ℕ) → IsLegible s → IsLegibleTrail s tells trail → IsLegibleTrail s others other
    → IsReport s tells trail text → IsReport s others other text → trail ≡ other
one_trail s tells others trail other text legible h k is also =
    same_read trail other (reading_back s text) (report_back s tells trail text legible h is) (report_back s others other text legible k also)

-- ## one more move

pub one_more_legible : (s : Plan) (tells : List Bool) (r : Run) (ms : List Step) (m : Step) → AreLegible s tells r ms → IsLegibleMove s tells (run_from s r ms) m → AreLegible s tells r (ms ++ m ∷ [])
one_more_legible s tells r [] m h k = (k, tt)
one_more_legible s tells r (n ∷ ms) m h k = (h.0, one_more_legible s tells (moved s r n) ms m h.1 k)
