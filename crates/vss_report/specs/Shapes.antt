-- The lines of a report as they are read back, by their words: a move, an effect, the end of the moves, or none of these. A
-- name is one of the scenario's. A number of a move and that of restored blocks are read for what they say, all other numbers
-- and digests for their form alone. (This project's own.)
use Rattle.std.specs.Prelude.{ℕ, ◌≤◌, ◌==◌, ◌&&◌, ◌||◌, Bool, false, List, [], ◌∷◌, length, find, nat_le, if◌then◌else◌, Option, Some, None, is_some, codes}
use Rattle.std.specs.List.{list_all, list_any, range_with_len}
use Rattle.std.specs.Str.{bytes_eq}
use Rattle.std.specs.Fmt.{decimal}
use Rattle.vss_names.specs.declared.writer_state.WriterState.{WriterState}
use Rattle.vss_names.specs.VssResult as result
use Rattle.vss_names.specs.WriterError as error
use Rattle.vss_names.specs.WriterState as state
use Rattle.vss_names.specs.Order as order
use Rattle.writer_state.specs.WriterState.{is_failed}
use Rattle.write_history.specs.declared.actor.Actor.{Actor}
use Rattle.write_history.specs.declared.actor.Actor.TheVariants.{Lane, Writer, Advance, Idle}
use Rattle.write_history.specs.declared.mark.Mark.{Mark}
use Rattle.write_history.specs.declared.mark.Mark.TheVariants.{Clean, Fault, FaultAfter}
use Rattle.write_history.specs.declared.move_item.Move.{Move as Step}
use Rattle.write_history.specs.declared.trail.TheConstants.{MOST_MOVES}
use Rattle.scenario.specs.Numbers.{is_digit, number_of}
use Rattle.scenario.specs.Plan.{Plan, WriterPlan, token}
use Rattle.vss_report.specs.declared.line_kind.LineKind.{LineKind}
use Rattle.vss_report.specs.declared.line_kind.LineKind.TheVariants.{Move, Effect, End, Bad}
use Rattle.vss_report.specs.Pieces.{pieces, is_over}
use Rattle.vss_report.specs.Words.{volume_text, writer_text, lane_text, code_word}

-- ## names

-- the first of so many things that has this name
abbrev pub named : (ℕ → List ℕ) → ℕ → List ℕ → Option ℕ
named name_of count name = find (λ i. bytes_eq (name_of i) name) (range_with_len 0 count)

abbrev pub lane_named : Plan → List ℕ → Option ℕ
lane_named s name = named (lane_text s) (length s.lanes) name

abbrev pub writer_named : Plan → List ℕ → Option ℕ
writer_named s name = named (writer_text s) (length s.writers) name

abbrev pub volume_named : Plan → List ℕ → Option ℕ
volume_named s name = named (volume_text s) (length s.volumes) name

-- ## words

abbrev pub is_number : List ℕ → Bool
is_number word = is_some (number_of word)

abbrev pub is_hex_digit : ℕ → Bool
is_hex_digit byte = is_digit byte || (nat_le 97 byte && nat_le byte 102)

-- so many hexadecimal digits of lower case
abbrev pub is_hex : ℕ → List ℕ → Bool
is_hex count word = (length word == count) && list_all is_hex_digit word

abbrev pub is_answer : List ℕ → Bool
is_answer word = bytes_eq word (codes "ok") || is_some (error.error_of_name word)

abbrev pub is_order : List ℕ → Bool
is_order word = is_some (order.order_of_name word)

abbrev pub is_result : List ℕ → Bool
is_result word = is_some (result.vss_result_of_name word)

abbrev pub is_volume : Plan → List ℕ → Bool
is_volume s name = is_some (volume_named s name)

-- so many words, and no more
abbrev pub is_one : (List ℕ → Bool) → List (List ℕ) → Bool
is_one test [] = false
is_one test (word ∷ more) = test word && is_over more

abbrev pub are_two : (List ℕ → Bool) → (List ℕ → Bool) → List (List ℕ) → Bool
are_two test next [] = false
are_two test next (word ∷ more) = test word && is_one next more

-- ## states of writers

abbrev pub is_code : List ℕ → Bool
is_code word = list_any (λ e. bytes_eq word (code_word e)) error.errors

-- what stands behind a state: a failed one has a code, and no other has one
abbrev pub is_coded : Option WriterState → List (List ℕ) → Bool
is_coded None more = false
is_coded (Some st) more = if is_failed st then is_one is_code more else is_over more

-- a state by its parts at `/`
abbrev pub is_state_in : List (List ℕ) → Bool
is_state_in [] = false
is_state_in (name ∷ more) = is_coded (state.state_of_name name) more

abbrev pub is_state : List ℕ → Bool
is_state word = is_state_in (pieces 47 word)

-- the name of a writer and its state, by their parts at `=`
abbrev pub is_named_state : List ℕ → List (List ℕ) → Bool
is_named_state name [] = false
is_named_state name (who ∷ more) = bytes_eq who name && is_one is_state more

abbrev pub is_state_of : List ℕ → List ℕ → Bool
is_state_of name word = is_named_state name (pieces 61 word)

-- the states of these writers, each once and in this order
abbrev pub are_states : Plan → List WriterPlan → List (List ℕ) → Bool
are_states s [] words = is_over words
are_states s (w ∷ ws) [] = false
are_states s (w ∷ ws) (word ∷ more) = is_state_of (token s w.name) word && are_states s ws more

-- ## replies

-- the words after this one and a number behind it
abbrev pub after_count : List ℕ → List (List ℕ) → Option (List (List ℕ))
after_count name [] = None
after_count name (word ∷ []) = None
after_count name (word ∷ count ∷ more) = if bytes_eq word name && is_number count then Some more else None

abbrev pub then_count : List ℕ → Option (List (List ℕ)) → Option (List (List ℕ))
then_count name None = None
then_count name (Some words) = after_count name words

-- none of them is missing, and none is left
abbrev pub is_all : Option (List (List ℕ)) → Bool
is_all None = false
is_all (Some words) = is_over words

abbrev pub are_properties : List (List ℕ) → Bool
are_properties words = is_all (then_count (codes "used") (then_count (codes "cut") (after_count (codes "context") words)))

-- the words after the first of a reply that no device failed in
abbrev pub is_clean : Plan → List ℕ → List (List ℕ) → Bool
is_clean s word more =
    if bytes_eq word (codes "ok") then is_over more
    else if bytes_eq word (codes "NOT_SELECTABLE") then is_over more
    else if bytes_eq word (codes "set") then is_one is_number more
    else if bytes_eq word (codes "deleted") then is_one is_number more
    else if bytes_eq word (codes "digest") then is_one (is_hex 64) more
    else if bytes_eq word (codes "data") then are_two (is_hex 16) (is_hex 64) more
    else if bytes_eq word (codes "document") then are_two is_number (is_hex 64) more
    else if bytes_eq word (codes "images") then list_all is_number more
    else if bytes_eq word (codes "properties") then are_properties more
    else if bytes_eq word (codes "status") then are_states s s.writers more
    else is_result word && is_over more

-- a number, where it is not above the bound
abbrev pub up_to : ℕ → Option ℕ → Option ℕ
up_to most None = None
up_to most (Some n) = if nat_le n most then Some n else None

abbrev pub number_up_to : ℕ → List ℕ → Option ℕ
number_up_to most word = up_to most (number_of word)

abbrev pub restored : Option ℕ → Option Mark
restored None = None
restored (Some k) = Some (FaultAfter k)

-- the words after `fault`: none, or how many blocks were restored before it
abbrev pub mark_of_fault : List (List ℕ) → Option Mark
mark_of_fault [] = Some Fault
mark_of_fault (word ∷ more) = if is_over more then restored (number_up_to 65535 word) else None

abbrev pub mark_of_reply : Plan → List (List ℕ) → Option Mark
mark_of_reply s [] = None
mark_of_reply s (word ∷ more) =
    if bytes_eq word (codes "fault") then mark_of_fault more else if is_clean s word more then Some Clean else None

-- ## moves

abbrev pub marked : Actor → Option Mark → Option Step
marked actor None = None
marked actor (Some mark) = Some (record { actor = actor; mark = mark })

abbrev pub lane_move : Plan → Option ℕ → List ℕ → List (List ℕ) → Option Step
lane_move s None line reply = None
lane_move s (Some lane) line reply = if is_number line then marked (Lane lane) (mark_of_reply s reply) else None

-- its name, the number of its line in the scenario, and the reply
abbrev pub move_of_lane : Plan → List (List ℕ) → Option Step
move_of_lane s [] = None
move_of_lane s (name ∷ []) = None
move_of_lane s (name ∷ line ∷ reply) = lane_move s (lane_named s name) line reply

abbrev pub writer_move : Option ℕ → Bool → Option Step
writer_move None is_answered = None
writer_move (Some w) is_answered = if is_answered then Some (record { actor = Writer w; mark = Clean }) else None

-- its name, its order, and what it answers
abbrev pub move_of_writer : Plan → List (List ℕ) → Option Step
move_of_writer s [] = None
move_of_writer s (name ∷ more) =
    writer_move (writer_named s name) (are_two is_order is_answer more)

-- the words after the volume of a flush
abbrev pub mark_of_flush : List (List ℕ) → Option Mark
mark_of_flush [] = Some Clean
mark_of_flush (word ∷ more) = if bytes_eq word (codes "fault") && is_over more then Some Fault else None

abbrev pub mark_of_volume : Plan → List (List ℕ) → Option Mark
mark_of_volume s [] = None
mark_of_volume s (name ∷ more) = if is_volume s name then mark_of_flush more else None

abbrev pub is_step_alone : List ℕ → Bool
is_step_alone step = bytes_eq step (codes "precommit") || bytes_eq step (codes "cut") || bytes_eq step (codes "postcommit")

abbrev pub is_step_of_volume : List ℕ → Bool
is_step_of_volume step = bytes_eq step (codes "hold") || bytes_eq step (codes "commit") || bytes_eq step (codes "release")

abbrev pub is_step : Plan → List ℕ → List (List ℕ) → Bool
is_step s step more =
    if is_step_alone step then is_over more else is_step_of_volume step && is_one (is_volume s) more

abbrev pub mark_of_step : Plan → List (List ℕ) → Option Mark
mark_of_step s [] = None
mark_of_step s (step ∷ more) =
    if bytes_eq step (codes "flush") then mark_of_volume s more else if is_step s step more then Some Clean else None

abbrev pub mark_of_idle : List (List ℕ) → Option Mark
mark_of_idle words = if is_one is_number words then Some Clean else None

-- the words after the number of a move
abbrev pub move_in : Plan → List (List ℕ) → Option Step
move_in s [] = None
move_in s (who ∷ more) =
    if bytes_eq who (codes "lane") then move_of_lane s more
    else if bytes_eq who (codes "writer") then move_of_writer s more
    else if bytes_eq who (codes "provider") then marked Advance (mark_of_step s more)
    else if bytes_eq who (codes "idle") then marked Idle (mark_of_idle more)
    else None

-- ## effects

abbrev pub is_evicted : Plan → List (List ℕ) → Bool
is_evicted s words = are_two is_number (is_volume s) words

abbrev pub is_lost_word : List ℕ → Bool
is_lost_word word = bytes_eq word (codes "lost")

abbrev pub is_lost : Plan → List (List ℕ) → Bool
is_lost s [] = false
is_lost s (name ∷ more) = is_some (writer_named s name) && are_two is_lost_word is_order more

abbrev pub is_end_of_set : List (List ℕ) → Bool
is_end_of_set [] = false
is_end_of_set (word ∷ more) =
    if bytes_eq word (codes "complete") then is_over more
    else bytes_eq word (codes "failed") && is_one is_result more

abbrev pub is_ended : List (List ℕ) → Bool
is_ended [] = false
is_ended (set ∷ more) = is_number set && is_end_of_set more

abbrev pub is_effect : Plan → List (List ℕ) → Bool
is_effect s [] = false
is_effect s (what ∷ more) =
    if bytes_eq what (codes "evicted") then is_evicted s more
    else if bytes_eq what (codes "writer") then is_lost s more
    else bytes_eq what (codes "set") && is_ended more

-- ## lines

-- the words after `end`
abbrev pub is_end : List (List ℕ) → Bool
is_end words = is_all (then_count (codes "clock") (after_count (codes "moves") words))

abbrev pub kind_of_move : Option Step → LineKind
kind_of_move None = Bad
kind_of_move (Some m) = Move m

-- move n is the next, and a run has so many
abbrev pub is_next : ℕ → List ℕ → Bool
is_next n word = nat_le n MOST_MOVES && bytes_eq word (decimal n)

-- a line by its words, where move n is the next
abbrev pub kind_of_words : Plan → ℕ → List (List ℕ) → LineKind
kind_of_words s n [] = Bad
kind_of_words s n (word ∷ more) =
    if bytes_eq word (codes "=") then (if is_effect s more then Effect else Bad)
    else if bytes_eq word (codes "end") then (if is_end more then End else Bad)
    else if is_next n word then kind_of_move (move_in s more)
    else Bad

unfoldable pub kind_of : Plan → ℕ → List ℕ → LineKind
kind_of s n line = kind_of_words s n (pieces 32 line)

-- a line is move n only where a run may have so many
abbrev pub MayFollow : ℕ → LineKind → Type 0
MayFollow n (Move m) = n ≤ MOST_MOVES
MayFollow n Effect = Unit {0}
MayFollow n End = Unit {0}
MayFollow n Bad = Unit {0}
