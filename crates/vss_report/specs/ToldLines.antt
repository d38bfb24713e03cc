-- The lines that a program writes from what it was told; and the report where every device tells its blocks: one text. (This project's own.)
use Rattle.std.specs.Fmt.{decimal}
use Rattle.std.specs.List.{flat_map, concat}
use Rattle.std.specs.Prelude.{ℕ, ◌+◌, ◌*◌, ◌≡◌, ◌<◌, ◌≤◌, ◌==◌, if◌then◌else◌, Bool, List, [], ◌++◌, length, All, Option, Some, None, codes, true, ◌∷◌, take}
use Rattle.std.specs.Prelude.{map}
use Rattle.hex.specs.Hex.{encode_lower}
use Rattle.vss_names.specs.Context as context
use Rattle.vss_names.specs.Order as order
use Rattle.vss_names.specs.VssResult as result
use Rattle.vss_names.specs.declared.set_outcome.SetOutcome.{SetOutcome}
use Rattle.block_data.specs.BlockBytes.{sha256}
use Rattle.write_history.specs.History.{Image, History, contents}
use Rattle.write_history.specs.Slots.{used}
use Rattle.write_history.specs.declared.actor.Actor.{Actor}
use Rattle.write_history.specs.declared.actor.Actor.TheVariants.{Lane, Writer, Advance, Idle}
use Rattle.write_history.specs.declared.evicted.Evicted.{Evicted}
use Rattle.write_history.specs.declared.mark.Mark.{Mark}
use Rattle.write_history.specs.declared.move_item.Move.{Move}
use Rattle.writer_state.specs.declared.writer_row.WriterRow.{WriterRow}
use Rattle.set_agenda.specs.WriterSet.{writers_of}
use Rattle.scenario.specs.Plan.{Plan, slots_of}
use Rattle.scenario.specs.declared.volume_row.VolumeRow.{VolumeRow}
use Rattle.vss_model.specs.Acts.{reply}
use Rattle.vss_model.specs.Outcome.{IsOutcome, mark_of}
use Rattle.vss_model.specs.Reply.{Reply, BlockOf, BlocksOf}
use Rattle.vss_model.specs.State.{State, kept}
use Rattle.vss_model.specs.Trail.{Run, event_of, next_line, begin, run, act_of, moved}
use Rattle.vss_model.specs.declared.closing_row.ClosingRow.{ClosingRow}
use Rattle.vss_model.specs.declared.closing_row.ClosingRow.TheVariants as closing
use Rattle.vss_model.specs.declared.event.Event.{Event}
use Rattle.vss_model.specs.declared.outcome.Outcome.{Outcome}
use Rattle.vss_model.specs.declared.told.Told.{Told}
use Rattle.vss_model.specs.declared.told.Told.TheVariants as told
use Rattle.vss_report.specs.Report.{IsMoveText, number_in, reply_with, first_line, move_text, end_text, writers_text}
use Rattle.vss_report.specs.Words.{spaced, as_line, volume_text, writer_text, lane_text, answer_text, step_text, of_volume, fault_if, sets_text, state_text}
use Rattle.vss_report.specs.Words.{states_text, evicted_text, lost_text, set_text}

-- ## The lines that a program writes of a move and at the end, from what it was told. (This project's own.)

-- ## a move

-- the text of what is told
abbrev pub told_text : Plan → List ℕ → List WriterRow → Told → List ℕ
told_text s listed rows told.Ok = codes "ok"
told_text s listed rows told.Fault = codes "fault"
told_text s listed rows (told.FaultAfter k) = codes "fault " ++ decimal k
told_text s listed rows (told.Set n) = codes "set " ++ decimal n
told_text s listed rows (told.Result why) = result.name_of why
told_text s listed rows told.NotSelectable = codes "NOT_SELECTABLE"
told_text s listed rows (told.Block first digest) = codes "data " ++ encode_lower first ++ spaced (encode_lower digest)
told_text s listed rows (told.Digest digest) = codes "digest " ++ encode_lower digest
told_text s listed rows told.Images = codes "images" ++ sets_text listed
told_text s listed rows (told.Properties c cut used) =
    codes "properties context " ++ decimal (context.number_of c) ++ codes " cut " ++ decimal cut ++ codes " used " ++ decimal used
told_text s listed rows (told.Deleted n) = codes "deleted " ++ decimal n
told_text s listed rows (told.Document size digest) = codes "document " ++ decimal size ++ spaced (encode_lower digest)
told_text s listed rows told.Status = codes "status" ++ states_text s s.writers rows
told_text s listed rows (told.Answered o a) = order.name_of o ++ spaced (answer_text a)
told_text s listed rows (told.Step g v fault) = step_text g ++ of_volume s v ++ fault_if fault
told_text s listed rows (told.Ticks n) = decimal n

-- who moves, a lane with the number of its line
abbrev pub told_actor : Plan → ℕ → Actor → List ℕ
told_actor s line (Lane i) = codes "lane " ++ lane_text s i ++ spaced (decimal line)
told_actor s line (Writer w) = codes "writer " ++ writer_text s w
told_actor s line Advance = codes "provider"
told_actor s line Idle = codes "idle"

abbrev pub told_end : ℕ → SetOutcome → List ℕ
told_end n o = if n == 0 then [] else set_text n o

-- the line of a move with number n, and those of its effects
abbrev pub told_lines : Plan → ℕ → ℕ → Actor → Outcome → List ℕ → List Evicted → List WriterRow → List ℕ
told_lines s n line actor o listed evicted rows =
    as_line (decimal n ++ spaced (told_actor s line actor) ++ spaced (told_text s listed rows o.told))
    ++ flat_map (evicted_text s) evicted ++ flat_map (lost_text s o.lost_order) (writers_of o.lost) ++ told_end o.set o.result

-- the most bytes that they take where so many images are evicted
abbrev pub most_bytes : ℕ → ℕ
most_bytes evicted = 16384 + 54 * evicted

-- the number of the line that an actor makes: that of a lane's next line
abbrev pub IsLineOf : Plan → Run → Actor → ℕ → Type 0
IsLineOf s r (Lane i) line = line ≡ number_in (next_line s r i)
IsLineOf s r (Writer w) line = Unit {0}
IsLineOf s r Advance line = Unit {0}
IsLineOf s r Idle line = Unit {0}

-- these are the lines of a move wherever the outcome is what the move comes to, and the number is the move's
abbrev pub AreLinesOf : Plan → ℕ → ℕ → Move → Outcome → List ℕ → List Evicted → List WriterRow → List ℕ → Type 0
AreLinesOf s n line m o listed evicted rows text =
    (tells : List Bool) (r : Run) (event : Event) → event_of s r m.actor ≡ Some event → m.mark ≡ mark_of o.told
    → IsOutcome tells s r.state event o listed evicted rows → n ≡ length r.moves + 1 → IsLineOf s r m.actor line
    → IsMoveText s tells r m text

-- ## the numbers that a call is given are in the scenario's range

abbrev pub IsVolumeNumber : Plan → Option ℕ → Type 0
IsVolumeNumber s None = Unit {0}
IsVolumeNumber s (Some v) = v < length s.volumes

abbrev pub IsTold : Plan → Told → Type 0
IsTold s (told.Step g v fault) = IsVolumeNumber s v
IsTold s _ = Unit {0}

abbrev pub IsActor : Plan → Actor → Type 0
IsActor s (Lane i) = i < length s.lanes
IsActor s (Writer w) = w < length s.writers
IsActor s Advance = Unit {0}
IsActor s Idle = Unit {0}

-- where the states of all writers are told, there is a row for each
abbrev pub HasRowsIfTold : Plan → Told → List WriterRow → Type 0
HasRowsIfTold s t rows = t ≡ told.Status → length rows ≡ length s.writers

pub record AreInRange (s : Plan) (actor : Actor) (o : Outcome) (listed : List ℕ) (evicted : List Evicted) (rows : List WriterRow) : Type 0 where
  pub actor_is : IsActor s actor
  pub told_is : IsTold s o.told
  pub lost_are : All (λ w. w < length s.writers) (writers_of o.lost)
  pub few_listed : length listed < 513
  pub evicted_are : All (λ (e : Evicted). e.volume < length s.volumes) evicted
  pub few_evicted : length evicted ≤ 65536
  pub rows_are : HasRowsIfTold s o.told rows

-- ## the closing lines

abbrev pub closing_text : Plan → ClosingRow → List ℕ
closing_text s (closing.End moves clock) = as_line (codes "end moves " ++ decimal moves ++ codes " clock " ++ decimal clock)
closing_text s (closing.Volume v used digest) =
    as_line (codes "volume " ++ volume_text s v ++ codes " used " ++ decimal used ++ codes " of " ++ decimal (slots_of s v) ++ spaced (encode_lower digest))
closing_text s (closing.Image set v digest) = as_line (codes "image " ++ decimal set ++ spaced (volume_text s v) ++ spaced (encode_lower digest))
closing_text s (closing.Writer w row) = as_line (codes "writer " ++ writer_text s w ++ spaced (state_text row) ++ codes " aborts " ++ decimal row.aborts)

abbrev pub IsClosingRow : Plan → ClosingRow → Type 0
IsClosingRow s (closing.End moves clock) = Unit {0}
IsClosingRow s (closing.Volume v used digest) = v < length s.volumes
IsClosingRow s (closing.Image set v digest) = v < length s.volumes
IsClosingRow s (closing.Writer w row) = w < length s.writers

-- ## The report where every device tells its blocks: one text.

abbrev pub first_of : Reply → List ℕ
first_of (BlockOf v bytes) = take 8 bytes
first_of _ = []

abbrev pub digest_of : Reply → List ℕ
digest_of (BlockOf v bytes) = sha256 bytes
digest_of (BlocksOf v blocks) = sha256 (concat blocks)
digest_of _ = []

abbrev pub told_reply : Plan → Reply → List ℕ
told_reply s reply = reply_with s (first_of reply) (digest_of reply) reply

abbrev pub told_event : Plan → Run → Actor → Option Event → Mark → List ℕ
told_event s r actor None mark = []
told_event s r actor (Some event) mark = move_text s r actor (act_of mark event) (told_reply s (reply s r.state (act_of mark event)))

abbrev pub told_move : Plan → Run → Move → List ℕ
told_move s r m = told_event s r m.actor (event_of s r m.actor) m.mark

abbrev pub told_moves : Plan → Run → List Move → List ℕ
told_moves s r [] = []
told_moves s r (m ∷ ms) = told_move s r m ++ told_moves s (moved s r m) ms

abbrev pub told_volume : Plan → ℕ → VolumeRow → History → List ℕ
told_volume s v row h =
    as_line (codes "volume " ++ volume_text s v ++ codes " used " ++ decimal (used row.blocks h.writes h.images) ++ codes " of " ++ decimal row.slots
    ++ spaced (encode_lower (sha256 (concat (contents row.blocks h.writes (length h.writes))))))

abbrev pub told_image : Plan → ℕ → VolumeRow → History → Image → List ℕ
told_image s v row h i =
    as_line (codes "image " ++ decimal i.set ++ spaced (volume_text s v) ++ spaced (encode_lower (sha256 (concat (contents row.blocks h.writes i.point)))))

abbrev pub told_images : Plan → ℕ → VolumeRow → History → List Image → List ℕ
told_images s v row h [] = []
told_images s v row h (i ∷ is) = told_image s v row h i ++ told_images s v row h is

abbrev pub told_volumes : Plan → State → ℕ → List VolumeRow → List History → List ℕ
told_volumes s st v [] hs = []
told_volumes s st v (row ∷ rows) [] = []
told_volumes s st v (row ∷ rows) (h ∷ hs) =
    told_volume s v row h ++ told_images s v row h (kept st h) ++ told_volumes s st (v + 1) rows hs

abbrev pub told_closing : Plan → Run → List ℕ
told_closing s r = end_text r ++ told_volumes s r.state 0 s.volumes r.state.volumes ++ writers_text s s.writers r.state.course.rows

abbrev pub told_report : Plan → List Move → List ℕ
told_report s trail = first_line ++ told_moves s (begin s) trail ++ told_closing s (run s trail)

-- every device tells
abbrev pub all_tell : Plan → List Bool
all_tell s = map (λ _. true) s.volumes
