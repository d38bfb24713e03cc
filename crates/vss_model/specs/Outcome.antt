-- What a program tells of a reply, and what it answers to an enabled event in a state. (This project's own.)
use Rattle.std.specs.List.{concat}
use Rattle.std.specs.Prelude.{ℕ, ◌≡◌, Bool, true, false, List, length, take, Option, Some, None, slice_get, ◌<◌}
use Rattle.hex.specs.Hex.{IsBytes}
use Rattle.vss_names.specs.declared.set_outcome.SetOutcome.{SetOutcome}
use Rattle.block_data.specs.BlockBytes.{sha256}
use Rattle.write_history.specs.declared.evicted.Evicted.{Evicted}
use Rattle.write_history.specs.declared.mark.Mark.{Mark}
use Rattle.write_history.specs.declared.mark.Mark.TheVariants.{Clean, Fault, FaultAfter}
use Rattle.writer_state.specs.declared.writer_row.WriterRow.{WriterRow}
use Rattle.set_agenda.specs.WriterSet.{writers_of}
use Rattle.scenario.specs.Plan.{Plan}
use Rattle.vss_model.specs.Acts.{Act, reply}
use Rattle.vss_model.specs.Effects.{evicted, lost, lost_order, ended}
use Rattle.vss_model.specs.Reply.{Reply, Fine, Faulted, FaultedAfter, Numbered, Coded, NotSelectable, BlockOf, BlocksOf, KeptSets, PropertiesOf, Deleted}
use Rattle.vss_model.specs.Reply.{DocumentOf, StatusOf, Answered, Stepped, Idled}
use Rattle.vss_model.specs.State.{State, SetRow}
use Rattle.vss_model.specs.Trail.{act_of}
use Rattle.vss_model.specs.declared.event.Event.{Event}
use Rattle.vss_model.specs.declared.outcome.Outcome.{Outcome}
use Rattle.vss_model.specs.declared.told.Told.{Told}
use Rattle.vss_model.specs.declared.told.Told.TheVariants as told

-- ## What a program tells of a reply. Bytes are told by their digest; where the devices that they come from, a volume's own
-- and its diff area's, do not both tell their blocks, the digest that is told may be any. (This project's own.)

-- a digest of bytes that come from a volume; it is free, but for its width, only where its devices do not tell
abbrev pub IsDigestIf : Option Bool → List ℕ → List ℕ → Type 0
IsDigestIf None bytes digest = digest ≡ sha256 bytes
IsDigestIf (Some false) bytes digest = (length digest ≡ 32) × IsBytes digest
IsDigestIf (Some true) bytes digest = digest ≡ sha256 bytes

-- the first eight bytes of a block
abbrev pub IsFirstIf : Option Bool → List ℕ → List ℕ → Type 0
IsFirstIf None bytes first = first ≡ take 8 bytes
IsFirstIf (Some false) bytes first = (length first ≡ 8) × IsBytes first
IsFirstIf (Some true) bytes first = first ≡ take 8 bytes

-- what is told fits the reply; `tells` says of each volume whether its devices tell their blocks
abbrev pub Fits : List Bool → Reply → Told → Type 0
Fits tells Fine t = t ≡ told.Ok
Fits tells Faulted t = t ≡ told.Fault
Fits tells (FaultedAfter k) t = t ≡ told.FaultAfter k
Fits tells (Numbered n) t = t ≡ told.Set n
Fits tells (Coded why) t = t ≡ told.Result why
Fits tells NotSelectable t = t ≡ told.NotSelectable
Fits tells (BlockOf v bytes) t = (first : List ℕ) × (digest : List ℕ) × IsFirstIf (slice_get tells v) bytes first × IsDigestIf (slice_get tells v) bytes digest × (t ≡ told.Block first digest)
Fits tells (BlocksOf v blocks) t = (digest : List ℕ) × IsDigestIf (slice_get tells v) (concat blocks) digest × (t ≡ told.Digest digest)
Fits tells (KeptSets sets) t = t ≡ told.Images
Fits tells (PropertiesOf c cut used) t = t ≡ told.Properties c cut used
Fits tells (Deleted n) t = t ≡ told.Deleted n
Fits tells (DocumentOf bytes) t = t ≡ told.Document (length bytes) (sha256 bytes)
Fits tells (StatusOf rows) t = t ≡ told.Status
Fits tells (Answered o a) t = t ≡ told.Answered o a
Fits tells (Stepped g v fault) t = t ≡ told.Step g v fault
Fits tells (Idled n) t = t ≡ told.Ticks n

abbrev pub mark_if : Bool → Mark
mark_if true = Fault
mark_if false = Clean

-- the mark of a move is seen in what it is answered
abbrev pub mark_of : Told → Mark
mark_of told.Ok = Clean
mark_of told.Fault = Fault
mark_of (told.FaultAfter k) = FaultAfter k
mark_of (told.Set n) = Clean
mark_of (told.Result why) = Clean
mark_of told.NotSelectable = Clean
mark_of (told.Block first digest) = Clean
mark_of (told.Digest digest) = Clean
mark_of told.Images = Clean
mark_of (told.Properties c cut used) = Clean
mark_of (told.Deleted n) = Clean
mark_of (told.Document len digest) = Clean
mark_of told.Status = Clean
mark_of (told.Answered o a) = Clean
mark_of (told.Step g v fault) = mark_if fault
mark_of (told.Ticks n) = Clean

-- ## What a program answers to an enabled event in a state: what it tells of the reply, the lists that stand beside it, and
-- the effects. The mark of the act is seen in what is told. (This project's own.)

-- the lists beside a reply: the sets that it lists, or the rows of all writers
abbrev pub HasLists : Reply → List ℕ → List WriterRow → Type 0
HasLists Fine listed rows = Unit {0}
HasLists Faulted listed rows = Unit {0}
HasLists (FaultedAfter k) listed rows = Unit {0}
HasLists (Numbered n) listed rows = Unit {0}
HasLists (Coded why) listed rows = Unit {0}
HasLists NotSelectable listed rows = Unit {0}
HasLists (BlockOf v bytes) listed rows = Unit {0}
HasLists (BlocksOf v blocks) listed rows = Unit {0}
HasLists (KeptSets sets) listed rows = listed ≡ sets
HasLists (PropertiesOf c cut used) listed rows = Unit {0}
HasLists (Deleted n) listed rows = Unit {0}
HasLists (DocumentOf bytes) listed rows = Unit {0}
HasLists (StatusOf of_writers) listed rows = rows ≡ of_writers
HasLists (Answered o a) listed rows = Unit {0}
HasLists (Stepped g v fault) listed rows = Unit {0}
HasLists (Idled n) listed rows = Unit {0}

-- the set that ends in an act, by its number and its end; number 0 where none ends
abbrev pub EndsAs : Option SetRow → ℕ → SetOutcome → Type 0
EndsAs None n o = n ≡ 0
EndsAs (Some r) n o = (n ≡ r.number) × (o ≡ r.result) × (0 < n)

-- the act of an event that was told this
abbrev pub told_act : Event → Told → Act
told_act event told = act_of (mark_of told) event

pub record IsOutcome (tells : List Bool) (s : Plan) (st : State) (event : Event) (o : Outcome) (listed : List ℕ) (evicted_images : List Evicted) (rows : List WriterRow) : Type 0 where
  pub fits : Fits tells (reply s st (told_act event o.told)) o.told
  pub lists : HasLists (reply s st (told_act event o.told)) listed rows
  pub evicts : evicted_images ≡ evicted s st event
  pub loses : writers_of o.lost ≡ lost st event
  pub order : o.lost_order ≡ lost_order st event
  pub ends : EndsAs (ended s st (told_act event o.told)) o.set o.result
