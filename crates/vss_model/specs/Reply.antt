-- What an act is answered. A block or an image is answered by its bytes, with the volume that they come from; a
-- program tells them by their digest. (The forms of the replies are this project's own; the codes are the SDK's.)
use Rattle.std.specs.Prelude.{ℕ, Bool, List, Option, true, false, not}
use Rattle.vss_names.specs.declared.context.Context.{Context}
use Rattle.vss_names.specs.declared.order.Order.{Order}
use Rattle.vss_names.specs.declared.vss_result.VssResult.{VssResult}
use Rattle.vss_names.specs.declared.vss_result.VssResult.TheVariants.{AsyncPending}
use Rattle.writer_state.specs.declared.writer_row.WriterRow.{WriterRow}
use Rattle.set_agenda.specs.declared.group.Group.{Group}
use Rattle.writer_calls.specs.declared.answer.Answer.{Answer}

pub data Reply : Type 0 where
  Fine : Reply
  -- a device failed
  Faulted : Reply
  -- a device failed after so many restored blocks
  FaultedAfter : ℕ → Reply
  -- the number of the set that was started
  Numbered : ℕ → Reply
  Coded : VssResult → Reply
  NotSelectable : Reply
  -- a block of a volume, or of an image of it
  BlockOf : ℕ → List ℕ → Reply
  -- all blocks of an image of a volume
  BlocksOf : ℕ → List (List ℕ) → Reply
  -- the sets whose images are kept
  KeptSets : List ℕ → Reply
  -- the context, the clock at the cut, and the slots used
  PropertiesOf : Context → ℕ → ℕ → Reply
  -- how many images were deleted
  Deleted : ℕ → Reply
  -- the bytes of the component document
  DocumentOf : List ℕ → Reply
  StatusOf : List WriterRow → Reply
  Answered : Order → Answer → Reply
  -- the step, its volume, and whether a device failed in it
  Stepped : Group → Option ℕ → Bool → Reply
  -- how many ticks went by
  Idled : ℕ → Reply

-- ## Which replies accept a line: with `ok`, with the number of a set, and with an agenda that goes on; and which leave the
-- whole state as it was.

abbrev pub is_fine : Reply → Bool
is_fine Fine = true
is_fine _ = false

abbrev pub is_numbered : Reply → Bool
is_numbered (Numbered n) = true
is_numbered _ = false

abbrev pub is_pending_code : VssResult → Bool
is_pending_code AsyncPending = true
is_pending_code _ = false

abbrev pub is_pending : Reply → Bool
is_pending (Coded why) = is_pending_code why
is_pending _ = false

-- a code other than AsyncPending, a component that cannot be selected, and what a line shows
abbrev pub leaves_all : Reply → Bool
leaves_all Fine = false
leaves_all Faulted = false
leaves_all (FaultedAfter k) = false
leaves_all (Numbered n) = false
leaves_all (Coded why) = not (is_pending_code why)
leaves_all NotSelectable = true
leaves_all (BlockOf v bytes) = true
leaves_all (BlocksOf v blocks) = true
leaves_all (KeptSets sets) = true
leaves_all (PropertiesOf context cut used) = true
leaves_all (Deleted k) = false
leaves_all (DocumentOf bytes) = true
leaves_all (StatusOf rows) = true
leaves_all (Answered order answer) = false
leaves_all (Stepped g v fault) = false
leaves_all (Idled n) = false
