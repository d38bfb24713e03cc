-- A text as an order of moves: a line by its words, or a report, whose moves are taken. (This project's own format.)
use Rattle.std.specs.Prelude.{ℕ, Bool, false, List, [], ◌∷◌, Option, Some, None, Result, Ok, Err, codes, if◌then◌else◌, ◌≡◌, ◌+◌, ◌==◌, true, ◌++◌, length}
use Rattle.std.specs.Prelude.{replicate, nat_le}
use Rattle.std.specs.Str.{bytes_eq}
use Rattle.write_history.specs.declared.actor.Actor.{Actor}
use Rattle.write_history.specs.declared.actor.Actor.TheVariants.{Lane, Writer, Advance, Idle}
use Rattle.write_history.specs.declared.move_item.Move.{Move}
use Rattle.write_history.specs.declared.trail.TheConstants.{MOST_MOVES}
use Rattle.scenario.specs.Numbers.{is_digit, number_in}
use Rattle.scenario.specs.Plan.{Plan}
use Rattle.scenario.specs.declared.reason.Reason.{Reason}
use Rattle.scenario.specs.declared.reason.Reason.TheVariants.{UnknownWord, UnknownName, BadCount, NoNewline, TooMany}
use Rattle.vss_report.specs.Pieces.{is_over, pieces_at}
use Rattle.vss_report.specs.ReadBack.{reading_back}
use Rattle.vss_report.specs.Shapes.{lane_named, writer_named}
use Rattle.orders.specs.declared.asked.Asked.{Asked}
use Rattle.orders.specs.declared.entry.Entry.{Entry}
use Rattle.orders.specs.declared.order_fault.OrderFault.{OrderFault}
use Rattle.orders.specs.declared.order_fault.OrderFault.TheVariants.{Line, NoReport, OutOfMemory}

-- ## A line of an order, by its words: `lane NAME`, `writer NAME`, `provider` or `idle` asks for one move of that actor, `N times` before
-- it for N. (This project's own format.)

-- ## actors

abbrev pub known : (ℕ → Actor) → Option ℕ → Result Actor Reason
known who None = Err UnknownName
known who (Some i) = Ok (who i)

-- a lane or a writer has a name, and no more
abbrev pub of_name : (ℕ → Actor) → (List ℕ → Option ℕ) → List (List ℕ) → Result Actor Reason
of_name who named [] = Err BadCount
of_name who named (name ∷ more) = if is_over more then known who (named name) else Err BadCount

abbrev pub lane_of : Plan → List (List ℕ) → Result Actor Reason
lane_of s words = of_name (λ i. Lane i) (lane_named s) words

abbrev pub writer_of : Plan → List (List ℕ) → Result Actor Reason
writer_of s words = of_name (λ w. Writer w) (writer_named s) words

-- the provider and time have none
abbrev pub alone : Actor → List (List ℕ) → Result Actor Reason
alone actor words = if is_over words then Ok actor else Err BadCount

abbrev pub actor_of : Plan → List (List ℕ) → Result Actor Reason
actor_of s [] = Err BadCount
actor_of s (who ∷ more) =
    if bytes_eq who (codes "lane") then lane_of s more
    else if bytes_eq who (codes "writer") then writer_of s more
    else if bytes_eq who (codes "provider") then alone Advance more
    else if bytes_eq who (codes "idle") then alone Idle more
    else Err UnknownWord

-- ## how many moves

abbrev pub counted : ℕ → Result Actor Reason → Result Asked Reason
counted n (Ok actor) = Ok (record { count = n; actor = actor })
counted n (Err reason) = Err reason

abbrev pub times : Plan → ℕ → List (List ℕ) → Result Asked Reason
times s n [] = Err BadCount
times s n (word ∷ more) = if bytes_eq word (codes "times") then counted n (actor_of s more) else Err UnknownWord

abbrev pub begins_with_digit : List ℕ → Bool
begins_with_digit [] = false
begins_with_digit (byte ∷ more) = is_digit byte

abbrev pub several : Plan → Result ℕ Reason → List (List ℕ) → Result Asked Reason
several s (Ok n) more = times s n more
several s (Err reason) more = Err reason

-- what a line asks for; a number has to be from 1 to the most moves of a run
abbrev pub asked_by : Plan → List (List ℕ) → Result Asked Reason
asked_by s [] = Err BadCount
asked_by s (word ∷ more) =
    if begins_with_digit word then several s (number_in 1 MOST_MOVES word) more else counted 1 (actor_of s (word ∷ more))

-- ## A text as an order of moves: lines that ask for moves (Lines.antt), or a report, whose moves are taken. A line without bytes asks for
-- nothing, nor does one that begins with `#`. Each line ends with a newline. (This project's own format.)

-- ## lines

abbrev pub is_silent : List ℕ → Bool
is_silent [] = true
is_silent (byte ∷ more) = byte == 35

-- what is asked for after a line with this number, which asks for these moves; at most as many as a run has
abbrev pub with_asked : ℕ → List Entry → Result Asked Reason → Result (List Entry) OrderFault
with_asked number before (Err reason) = Err (Line number reason)
with_asked number before (Ok asked) =
    if nat_le (length before + asked.count) MOST_MOVES
    then Ok (before ++ replicate asked.count (record { actor = asked.actor; place = number })) else Err (Line number TooMany)

abbrev pub after_line : Plan → ℕ → List Entry → List ℕ → Result (List Entry) OrderFault
after_line s number before line =
    if is_silent line then Ok before else with_asked number before (asked_by s (pieces_at 32 line 0))

-- what stands behind the last newline
abbrev pub at_last : ℕ → List Entry → List ℕ → Result (List Entry) OrderFault
at_last number before [] = Ok before
at_last number before (byte ∷ more) = Err (Line number NoNewline)

abbrev pub then_on : (List Entry → Result (List Entry) OrderFault) → Result (List Entry) OrderFault → Result (List Entry) OrderFault
then_on more (Ok entries) = more entries
then_on more (Err fault) = Err fault

-- what these pieces of a text ask for after what was asked for before them; the first of them is this line
abbrev pub read_from : Plan → ℕ → List Entry → List (List ℕ) → Result (List Entry) OrderFault
read_from s number before [] = Ok before
read_from s number before (line ∷ rest) =
    if is_over rest then at_last number before line
    else then_on (λ entries. read_from s (number + 1) entries rest) (after_line s number before line)

-- ## reports

-- the moves of a report, the first of which has this number
abbrev pub entries_from : ℕ → List Move → List Entry
entries_from number [] = []
entries_from number (m ∷ ms) = record { actor = m.actor; place = number } ∷ entries_from (number + 1) ms

abbrev pub of_report : Result (List Move) ℕ → Result (List Entry) OrderFault
of_report (Ok moves) = Ok (entries_from 1 moves)
of_report (Err line) = Err (NoReport line)

-- a report begins with this line
abbrev pub begins_report : List (List ℕ) → Bool
begins_report [] = false
begins_report (first ∷ rest) = bytes_eq first (codes "report 1")

-- ## the order

-- the moves that a text asks for, or why it is no order
unfoldable pub order_in : Plan → List ℕ → Result (List Entry) OrderFault
order_in s text =
    if begins_report (pieces_at 10 text 0) then of_report (reading_back s text) else read_from s 1 [] (pieces_at 10 text 0)

-- why a text was refused; want of memory says nothing of it
abbrev pub IsRefusal : Result (List Entry) OrderFault → OrderFault → Type 0
IsRefusal reading (Line line reason) = reading ≡ Err (Line line reason)
IsRefusal reading (NoReport line) = reading ≡ Err (NoReport line)
IsRefusal reading OutOfMemory = Unit {0}
