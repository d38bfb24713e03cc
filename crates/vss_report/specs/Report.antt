-- The report of a run, as a relation between the scenario, its trail and a text. `tells` says of each volume whether its
-- device and its area's device tell their blocks; where it says no, the digests of what comes from that volume may be any
-- of their width. All else is one text. (This project's own.)
use Rattle.std.specs.Prelude.{ℕ, ◌+◌, ◌≡◌, Bool, List, [], ◌∷◌, ◌++◌, length, Option, Some, None, slice_get, codes}
use Rattle.std.specs.List.{flat_map, concat}
use Rattle.std.specs.Fmt.{decimal}
use Rattle.hex.specs.Hex.{encode_lower}
use Rattle.block_data.specs.BlockBytes.{sha256}
use Rattle.vss_names.specs.Context as context
use Rattle.vss_names.specs.VssResult as result
use Rattle.vss_names.specs.Order as order
use Rattle.writer_state.specs.declared.writer_row.WriterRow.{WriterRow}
use Rattle.write_history.specs.declared.actor.Actor.{Actor}
use Rattle.write_history.specs.declared.actor.Actor.TheVariants.{Lane, Writer, Advance, Idle}
use Rattle.write_history.specs.declared.mark.Mark.{Mark}
use Rattle.write_history.specs.declared.move_item.Move.{Move}
use Rattle.write_history.specs.History.{Image, History, contents}
use Rattle.write_history.specs.Slots.{used}
use Rattle.scenario.specs.declared.volume_row.VolumeRow.{VolumeRow}
use Rattle.scenario.specs.Plan.{Plan, LaneLine, WriterPlan, token}
use Rattle.vss_model.specs.declared.event.Event.{Event}
use Rattle.vss_model.specs.Reply.{Reply, Fine, Faulted, FaultedAfter, Numbered, Coded, NotSelectable, BlockOf, BlocksOf, KeptSets, PropertiesOf, Deleted, DocumentOf, StatusOf, Answered, Stepped, Idled}
use Rattle.vss_model.specs.State.{State, SetRow, kept}
use Rattle.vss_model.specs.Acts.{Act, reply}
use Rattle.vss_model.specs.Effects.{evicted, lost, lost_order, ended}
use Rattle.vss_model.specs.Outcome.{IsDigestIf, IsFirstIf}
use Rattle.vss_model.specs.Trail.{Run, begin, run, event_of, act_of, moved, next_line}
use Rattle.vss_report.specs.Words.{spaced, as_line, volume_text, writer_text, lane_text, answer_text, step_text, of_volume, fault_if, sets_text, state_text, states_text, evicted_text, lost_text, set_text}

-- ## one move

-- the words of a reply, with these first bytes and this digest where it shows any
abbrev pub reply_with : Plan → List ℕ → List ℕ → Reply → List ℕ
reply_with s first digest Fine = codes "ok"
reply_with s first digest Faulted = codes "fault"
reply_with s first digest (FaultedAfter k) = codes "fault " ++ decimal k
reply_with s first digest (Numbered n) = codes "set " ++ decimal n
reply_with s first digest (Coded why) = result.name_of why
reply_with s first digest NotSelectable = codes "NOT_SELECTABLE"
reply_with s first digest (BlockOf v bytes) = codes "data " ++ encode_lower first ++ spaced (encode_lower digest)
reply_with s first digest (BlocksOf v blocks) = codes "digest " ++ encode_lower digest
reply_with s first digest (KeptSets sets) = codes "images" ++ sets_text sets
reply_with s first digest (PropertiesOf c cut used) =
    codes "properties context " ++ decimal (context.number_of c) ++ codes " cut " ++ decimal cut ++ codes " used " ++ decimal used
reply_with s first digest (Deleted k) = codes "deleted " ++ decimal k
reply_with s first digest (DocumentOf bytes) = codes "document " ++ decimal (length bytes) ++ spaced (encode_lower (sha256 bytes))
reply_with s first digest (StatusOf rows) = codes "status" ++ states_text s s.writers rows
reply_with s first digest (Answered o a) = order.name_of o ++ spaced (answer_text a)
reply_with s first digest (Stepped g v fault) = step_text g ++ of_volume s v ++ fault_if fault
reply_with s first digest (Idled n) = decimal n

-- they are those of the bytes, unless these come from a volume that does not tell
abbrev pub IsShownAs : List Bool → Reply → List ℕ → List ℕ → Type 0
IsShownAs tells (BlockOf v bytes) first digest = IsFirstIf (slice_get tells v) bytes first × IsDigestIf (slice_get tells v) bytes digest
IsShownAs tells (BlocksOf v blocks) first digest = IsDigestIf (slice_get tells v) (concat blocks) digest
IsShownAs tells _ first digest = Unit {0}

-- the text of a reply
pub record IsReplyText (s : Plan) (tells : List Bool) (reply : Reply) (text : List ℕ) : Type 0 where
  pub first : List ℕ
  pub digest : List ℕ
  pub shown : IsShownAs tells reply first digest
  pub is : text ≡ reply_with s first digest reply

abbrev pub number_in : Option LaneLine → ℕ
number_in None = 0
number_in (Some l) = l.number

-- who moves; a lane with the number of its line in the scenario
abbrev pub actor_text : Plan → Run → Actor → List ℕ
actor_text s r (Lane i) = codes "lane " ++ lane_text s i ++ spaced (decimal (number_in (next_line s r i)))
actor_text s r (Writer w) = codes "writer " ++ writer_text s w
actor_text s r Advance = codes "provider"
actor_text s r Idle = codes "idle"

abbrev pub lost_texts : Plan → State → Event → List ℕ
lost_texts s st event = flat_map (lost_text s (lost_order st event)) (lost st event)

abbrev pub ended_text : Option SetRow → List ℕ
ended_text None = []
ended_text (Some r) = set_text r.number r.result

-- the lines of an act's effects: evicted images, lost writers, and the set that ends
unfoldable pub effects_text : Plan → State → Act → List ℕ
effects_text s st act =
    flat_map (evicted_text s) (evicted s st act.event) ++ lost_texts s st act.event ++ ended_text (ended s st act)

-- the line of a move, and those of its effects
unfoldable pub move_text : Plan → Run → Actor → Act → List ℕ → List ℕ
move_text s r actor act reply_text =
    as_line (decimal (length r.moves + 1) ++ spaced (actor_text s r actor) ++ spaced reply_text) ++ effects_text s r.state act

-- the lines of one act
pub record IsActText (s : Plan) (tells : List Bool) (r : Run) (actor : Actor) (act : Act) (text : List ℕ) : Type 0 where
  pub reply_text : List ℕ
  pub is_reply : IsReplyText s tells (reply s r.state act) reply_text
  pub is : text ≡ move_text s r actor act reply_text

abbrev pub IsTextOf : Plan → List Bool → Run → Actor → Option Event → Mark → List ℕ → Type 0
IsTextOf s tells r actor None mark text = text ≡ []
IsTextOf s tells r actor (Some event) mark text = IsActText s tells r actor (act_of mark event) text

-- the lines of one move
abbrev pub IsMoveText : Plan → List Bool → Run → Move → List ℕ → Type 0
IsMoveText s tells r m text = IsTextOf s tells r m.actor (event_of s r m.actor) m.mark text

-- ## all moves

-- the lines of the moves from a run on
abbrev pub IsLines : Plan → List Bool → Run → List Move → List ℕ → Type 0
IsLines s tells r [] text = text ≡ []
IsLines s tells r (m ∷ ms) text =
    (own : List ℕ) × (rest : List ℕ) × IsMoveText s tells r m own × IsLines s tells (moved s r m) ms rest × (text ≡ own ++ rest)

abbrev pub first_line : List ℕ
first_line = as_line (codes "report 1")

-- the report of a trail so far
pub record IsReportSoFar (s : Plan) (tells : List Bool) (trail : List Move) (text : List ℕ) : Type 0 where
  pub moves : List ℕ
  pub lines : IsLines s tells (begin s) trail moves
  pub is : text ≡ first_line ++ moves

-- ## the closing lines

abbrev pub end_text : Run → List ℕ
end_text r = as_line (codes "end moves " ++ decimal (length r.moves) ++ codes " clock " ++ decimal r.state.clock)

-- how a volume stands
pub record IsVolumeText (s : Plan) (tells : List Bool) (v : ℕ) (row : VolumeRow) (h : History) (text : List ℕ) : Type 0 where
  pub digest : List ℕ
  pub is_digest : IsDigestIf (slice_get tells v) (concat (contents row.blocks h.writes (length h.writes))) digest
  pub is : text ≡ as_line (codes "volume " ++ volume_text s v ++ codes " used " ++ decimal (used row.blocks h.writes h.images) ++ codes " of " ++ decimal row.slots ++ spaced (encode_lower digest))

-- how a kept image stands
pub record IsImageText (s : Plan) (tells : List Bool) (v : ℕ) (row : VolumeRow) (h : History) (i : Image) (text : List ℕ) : Type 0 where
  pub digest : List ℕ
  pub is_digest : IsDigestIf (slice_get tells v) (concat (contents row.blocks h.writes i.point)) digest
  pub is : text ≡ as_line (codes "image " ++ decimal i.set ++ spaced (volume_text s v) ++ spaced (encode_lower digest))

abbrev pub AreImageTexts : Plan → List Bool → ℕ → VolumeRow → History → List Image → List ℕ → Type 0
AreImageTexts s tells v row h [] text = text ≡ []
AreImageTexts s tells v row h (i ∷ is) text =
    (own : List ℕ) × (rest : List ℕ) × IsImageText s tells v row h i own × AreImageTexts s tells v row h is rest × (text ≡ own ++ rest)

-- the volumes from number v on, each with its kept images, oldest first; there are as many histories as volumes
abbrev pub AreVolumeTexts : Plan → List Bool → State → ℕ → List VolumeRow → List History → List ℕ → Type 0
AreVolumeTexts s tells st v [] hs text = text ≡ []
AreVolumeTexts s tells st v (row ∷ rows) [] text = text ≡ []
AreVolumeTexts s tells st v (row ∷ rows) (h ∷ hs) text =
    (own : List ℕ) × (images : List ℕ) × (rest : List ℕ) × IsVolumeText s tells v row h own
    × AreImageTexts s tells v row h (kept st h) images × AreVolumeTexts s tells st (v + 1) rows hs rest × (text ≡ own ++ images ++ rest)

abbrev pub writers_text : Plan → List WriterPlan → List WriterRow → List ℕ
writers_text s [] rows = []
writers_text s (w ∷ ws) [] = []
writers_text s (w ∷ ws) (r ∷ rows) =
    as_line (codes "writer " ++ token s w.name ++ spaced (state_text r) ++ codes " aborts " ++ decimal r.aborts) ++ writers_text s ws rows

-- the lines after the last move
pub record IsClosing (s : Plan) (tells : List Bool) (r : Run) (text : List ℕ) : Type 0 where
  pub volumes : List ℕ
  pub are_volumes : AreVolumeTexts s tells r.state 0 s.volumes r.state.volumes volumes
  pub is : text ≡ end_text r ++ volumes ++ writers_text s s.writers r.state.course.rows

-- ## the report

pub record IsReport (s : Plan) (tells : List Bool) (trail : List Move) (text : List ℕ) : Type 0 where
  pub so_far : List ℕ
  pub closing : List ℕ
  pub is_so_far : IsReportSoFar s tells trail so_far
  pub is_closing : IsClosing s tells (run s trail) closing
  pub is : text ≡ so_far ++ closing
