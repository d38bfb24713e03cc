-- What is read back of a report: where the names of a scenario are words, and apart from each other, and what each move is
-- answered has a form of its own, the report of a trail tells that trail and no other. (This project's own.)
use Rattle.std.specs.Prelude.{ℕ, ◌≡◌, ◌<◌, ◌≤◌, ◌^◌, Bool, true, false, List, [], ◌∷◌, length, take, All, Option, Some, None, slice_get, not}
use Rattle.hex.specs.Hex.{IsBytes}
use Rattle.vss_names.specs.Names.{is_name}
use Rattle.vss_names.specs.declared.writer_error.WriterError.{WriterError}
use Rattle.write_history.specs.declared.actor.Actor.{Actor}
use Rattle.write_history.specs.declared.actor.Actor.TheVariants.{Lane, Writer, Advance, Idle}
use Rattle.write_history.specs.declared.evicted.Evicted.{Evicted}
use Rattle.write_history.specs.declared.mark.Mark.{Mark}
use Rattle.write_history.specs.declared.mark.Mark.TheVariants.{Clean, Fault, FaultAfter}
use Rattle.write_history.specs.declared.move_item.Move.{Move}
use Rattle.write_history.specs.declared.trail.TheConstants.{MOST_MOVES}
use Rattle.writer_state.specs.WriterState.{is_failed}
use Rattle.writer_state.specs.declared.writer_row.WriterRow.{WriterRow}
use Rattle.set_agenda.specs.declared.group.Group.{Group}
use Rattle.set_agenda.specs.declared.group.Group.TheVariants.{Orders, PreCommit, Flush, Hold, Cut, Commit, Release, PostCommit}
use Rattle.scenario.specs.Plan.{Plan, LaneLine, lines_of}
use Rattle.vss_model.specs.Acts.{Act, reply}
use Rattle.vss_model.specs.Effects.{evicted, lost, ended}
use Rattle.vss_model.specs.Outcome.{IsOutcome, mark_of}
use Rattle.vss_model.specs.Reply.{Reply, Fine, Faulted, FaultedAfter, Numbered, Coded, NotSelectable, BlockOf, BlocksOf, KeptSets, PropertiesOf, Deleted}
use Rattle.vss_model.specs.Reply.{DocumentOf, StatusOf, Answered, Stepped, Idled}
use Rattle.vss_model.specs.State.{State, SetRow, is_running}
use Rattle.vss_model.specs.Trail.{Run, begin, run, event_of, act_of, moved, is_legal_move}
use Rattle.vss_model.specs.declared.event.Event.{Event}
use Rattle.vss_model.specs.declared.outcome.Outcome.{Outcome}
use Rattle.vss_model.specs.declared.told.Told.{Told}
use Rattle.vss_model.specs.declared.told.Told.TheVariants as told
use Rattle.vss_report.specs.Words.{volume_text, writer_text, lane_text}

-- ## the scenario

-- no two of so many things have the same name
abbrev pub AreApart : (ℕ → List ℕ) → ℕ → Type 0
AreApart name_of count = (i j : ℕ) → i < count → j < count → name_of i ≡ name_of j → i ≡ j

-- each of so many things has a name by the grammar
abbrev pub AreNames : (ℕ → List ℕ) → ℕ → Type 0
AreNames name_of count = (i : ℕ) → i < count → is_name (name_of i) ≡ true

pub record IsLegible (s : Plan) : Type 0 where
  pub volumes : AreNames (volume_text s) (length s.volumes)
  pub writers : AreNames (writer_text s) (length s.writers)
  pub lanes : AreNames (lane_text s) (length s.lanes)
  pub writers_apart : AreApart (writer_text s) (length s.writers)
  pub lanes_apart : AreApart (lane_text s) (length s.lanes)
  pub lines : (i k : ℕ) (l : LaneLine) → slice_get (lines_of s i) k ≡ Some l → l.number < 2 ^ 64

-- ## what a move is answered

-- a number of eight bytes
abbrev pub IsShort : ℕ → Type 0
IsShort n = n < 2 ^ 64

-- the code of a writer's failure is kept where it has failed
abbrev pub has_its_code : Option WriterError → Bool → Bool
has_its_code None fails = not fails
has_its_code (Some e) fails = fails

abbrev pub HasItsCode : WriterRow → Type 0
HasItsCode r = has_its_code r.code (is_failed r.state) ≡ true

-- a block has eight bytes at its head; those of a volume whose devices do not tell are never shown
abbrev pub HasHead : Option Bool → List ℕ → Type 0
HasHead None bytes = (length (take 8 bytes) ≡ 8) × IsBytes (take 8 bytes)
HasHead (Some false) bytes = Unit {0}
HasHead (Some true) bytes = (length (take 8 bytes) ≡ 8) × IsBytes (take 8 bytes)

-- what a lane's move with this mark is answered; `tells` says of each volume whether its devices tell their blocks
abbrev pub IsLaneReply : Plan → List Bool → Mark → Reply → Type 0
IsLaneReply s tells m Fine = m ≡ Clean
IsLaneReply s tells m Faulted = m ≡ Fault
IsLaneReply s tells m (FaultedAfter k) = (m ≡ FaultAfter k) × (k < 65536)
IsLaneReply s tells m (Numbered n) = (m ≡ Clean) × IsShort n
IsLaneReply s tells m (Coded why) = m ≡ Clean
IsLaneReply s tells m NotSelectable = m ≡ Clean
IsLaneReply s tells m (BlockOf v bytes) = (m ≡ Clean) × HasHead (slice_get tells v) bytes
IsLaneReply s tells m (BlocksOf v blocks) = m ≡ Clean
IsLaneReply s tells m (KeptSets sets) = (m ≡ Clean) × All IsShort sets
IsLaneReply s tells m (PropertiesOf c cut used) = (m ≡ Clean) × IsShort cut × IsShort used
IsLaneReply s tells m (Deleted n) = (m ≡ Clean) × IsShort n
IsLaneReply s tells m (DocumentOf bytes) = (m ≡ Clean) × IsShort (length bytes)
IsLaneReply s tells m (StatusOf rows) = (m ≡ Clean) × (length rows ≡ length s.writers) × All HasItsCode rows
IsLaneReply s tells m (Answered o a) = ⊥
IsLaneReply s tells m (Stepped g v fault) = ⊥
IsLaneReply s tells m (Idled n) = ⊥

abbrev pub IsWriterReply : Mark → Reply → Type 0
IsWriterReply m (Answered o a) = m ≡ Clean
IsWriterReply m _ = ⊥

abbrev pub IsVolumeStep : Plan → Option ℕ → Type 0
IsVolumeStep s None = ⊥
IsVolumeStep s (Some v) = v < length s.volumes

-- a step of the provider: of a volume of the scenario, or of none; a device may fail a flush alone
abbrev pub IsStep : Plan → Mark → Group → Option ℕ → Bool → Type 0
IsStep s m (Orders o) v fault = ⊥
IsStep s m PreCommit v fault = (m ≡ Clean) × (v ≡ None) × (fault ≡ false)
IsStep s m Flush v true = (m ≡ Fault) × IsVolumeStep s v
IsStep s m Flush v false = (m ≡ Clean) × IsVolumeStep s v
IsStep s m Hold v fault = (m ≡ Clean) × IsVolumeStep s v × (fault ≡ false)
IsStep s m Cut v fault = (m ≡ Clean) × (v ≡ None) × (fault ≡ false)
IsStep s m Commit v fault = (m ≡ Clean) × IsVolumeStep s v × (fault ≡ false)
IsStep s m Release v fault = (m ≡ Clean) × IsVolumeStep s v × (fault ≡ false)
IsStep s m PostCommit v fault = (m ≡ Clean) × (v ≡ None) × (fault ≡ false)

abbrev pub IsStepReply : Plan → Mark → Reply → Type 0
IsStepReply s m (Stepped g v fault) = IsStep s m g v fault
IsStepReply s m _ = ⊥

abbrev pub IsIdleReply : Mark → Reply → Type 0
IsIdleReply m (Idled n) = (m ≡ Clean) × IsShort n
IsIdleReply m _ = ⊥

-- what a move of this actor with this mark is answered
abbrev pub IsReplyTo : Plan → List Bool → Actor → Mark → Reply → Type 0
IsReplyTo s tells (Lane i) m r = (i < length s.lanes) × IsLaneReply s tells m r
IsReplyTo s tells (Writer w) m r = (w < length s.writers) × IsWriterReply m r
IsReplyTo s tells Advance m r = IsStepReply s m r
IsReplyTo s tells Idle m r = IsIdleReply m r

-- ## effects

abbrev pub IsLegibleImage : Plan → Evicted → Type 0
IsLegibleImage s e = IsShort e.set × (e.volume < length s.volumes)

abbrev pub IsLegibleEnd : Option SetRow → Type 0
IsLegibleEnd None = Unit {0}
IsLegibleEnd (Some r) = IsShort r.number × (is_running r.result ≡ false)

-- ## moves

pub record IsLegibleAct (s : Plan) (tells : List Bool) (st : State) (actor : Actor) (act : Act) : Type 0 where
  pub reply_is : IsReplyTo s tells actor act.mark (reply s st act)
  pub evicted_are : All (IsLegibleImage s) (evicted s st act.event)
  pub lost_are : All (λ w. w < length s.writers) (lost st act.event)
  pub end_is : IsLegibleEnd (ended s st act)

abbrev pub IsLegibleEvent : Plan → List Bool → State → Actor → Option Event → Mark → Type 0
IsLegibleEvent s tells st actor None mark = ⊥
IsLegibleEvent s tells st actor (Some event) mark = IsLegibleAct s tells st actor (act_of mark event)

abbrev pub IsLegibleMove : Plan → List Bool → Run → Move → Type 0
IsLegibleMove s tells r m = IsLegibleEvent s tells r.state m.actor (event_of s r m.actor) m.mark

-- each of these moves is legible where it comes, from a run on
abbrev pub AreLegible : Plan → List Bool → Run → List Move → Type 0
AreLegible s tells r [] = Unit {0}
AreLegible s tells r (m ∷ ms) = IsLegibleMove s tells r m × AreLegible s tells (moved s r m) ms

-- a report tells this trail and no other: its moves are legible, no more than a run may have, and the clock at the end is
pub record IsLegibleTrail (s : Plan) (tells : List Bool) (trail : List Move) : Type 0 where
  pub moves : AreLegible s tells (begin s) trail
  pub few : length trail ≤ MOST_MOVES
  pub clock : IsShort (run s trail).state.clock

-- ## What a program tells of a legal move is legible, since its numbers have at most eight bytes. (This project's own.)

abbrev pub IsShortTold : Told → List ℕ → Type 0
IsShortTold (told.Set n) listed = IsShort n
IsShortTold (told.Block first digest) listed = (length first ≡ 8) × IsBytes first
IsShortTold told.Images listed = All IsShort listed
IsShortTold (told.Properties c cut used) listed = IsShort cut × IsShort used
IsShortTold (told.Deleted n) listed = IsShort n
IsShortTold (told.Document n digest) listed = IsShort n
IsShortTold (told.Ticks n) listed = IsShort n
IsShortTold _ listed = Unit {0}

abbrev pub AreShortSets : List Evicted → Type 0
AreShortSets evicted = All (λ (e : Evicted). IsShort e.set) evicted

pub record AreShort (o : Outcome) (listed : List ℕ) (evicted : List Evicted) : Type 0 where
  pub told_is : IsShortTold o.told listed
  pub evicted_are : AreShortSets evicted
  pub set_is : IsShort o.set

-- wherever this outcome is what a legal move comes to, and writers' failures have their codes, the move is legible
abbrev pub IsLegibleAs : Plan → Move → Outcome → List ℕ → List Evicted → List WriterRow → Type 0
IsLegibleAs s m o listed evicted rows =
    (tells : List Bool) (r : Run) (event : Event) → event_of s r m.actor ≡ Some event → m.mark ≡ mark_of o.told
    → IsOutcome tells s r.state event o listed evicted rows → is_legal_move s r m ≡ true → All HasItsCode r.state.course.rows → IsLegibleMove s tells r m
