-- What a line of a lane does. What other definitions ask of a line is asked here of what it does.
use Rattle.std.specs.Prelude.{ℕ, Option, Some, None}
use Rattle.block_data.specs.declared.payload.Payload.TheVariants.{Fill, Stamp}
use Rattle.requestor.specs.declared.session_call.SessionCall.{SessionCall}
use Rattle.requestor.specs.declared.session_call.SessionCall.TheVariants as call
use Rattle.scenario.specs.declared.line.Line.{Line}
use Rattle.scenario.specs.declared.line.Line.TheVariants.{Writes, Reads, ShowsImage, ShowsBlock, ShowsSets, ShowsProperties, Reverts, DeletesSet, DeletesImage, Ticks, Calls}
use Rattle.scenario.specs.declared.op.Op.{Op}
use Rattle.scenario.specs.declared.op.Op.TheVariants.{WriteFill, WriteStamp, Read, ImageDigest, ImageBlock, Query, Properties, Revert, DeleteSet, DeleteImage, Tick, Begin, Disable, Gather, Component, Document, Start, Add, Prepare, Snapshot, Await, Status, Complete, Abort, End}

abbrev pub line_of : Op → Line
line_of (WriteFill v b x) = Writes v b (Fill x)
line_of (WriteStamp v b n) = Writes v b (Stamp n)
line_of (Read v b) = Reads v b
line_of (ImageDigest n v) = ShowsImage n v
line_of (ImageBlock n v b) = ShowsBlock n v b
line_of (Query v) = ShowsSets v
line_of (Properties n v) = ShowsProperties n v
line_of (Revert n v) = Reverts n v
line_of (DeleteSet n) = DeletesSet n
line_of (DeleteImage n v) = DeletesImage n v
line_of (Tick n) = Ticks n
line_of (Begin c all) = Calls (call.Begin c all)
line_of (Disable w) = Calls call.Disable
line_of Gather = Calls call.Gather
line_of (Component w full) = Calls call.Component
line_of Document = Calls call.Document
line_of Start = Calls call.Start
line_of (Add v) = Calls call.Add
line_of Prepare = Calls call.Prepare
line_of Snapshot = Calls call.Snapshot
line_of Await = Calls call.Await
line_of Status = Calls call.Status
line_of Complete = Calls call.Complete
line_of Abort = Calls call.Abort
line_of End = Calls call.End

abbrev pub call_in : Line → Option SessionCall
call_in (Calls c) = Some c
call_in _ = None

-- the session call that a line makes
abbrev pub call_of : Op → Option SessionCall
call_of op = call_in (line_of op)

-- the volume and the block that a line writes
pub record Target : Type 0 where
  pub volume : ℕ
  pub block : ℕ

abbrev pub target_in : Line → Option Target
target_in (Writes v b payload) = Some (record { volume = v; block = b })
target_in _ = None

abbrev pub target_of : Op → Option Target
target_of op = target_in (line_of op)
