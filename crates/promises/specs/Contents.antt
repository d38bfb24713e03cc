-- What changes the contents of a volume: a write that no device failed, which puts its bytes into its block; or a revert, to what
-- the image shows. (This project's own.)
use Rattle.std.specs.Prelude.{ℕ, ◌≡◌, ◌<◌, ◌==◌, ◌&&◌, if◌then◌else◌, Bool, true, false, List, Some, None, length, take}
use Rattle.block_data.specs.declared.payload.Payload.{Payload}
use Rattle.block_data.specs.BlockBytes.{payload_bytes}
use Rattle.write_history.specs.declared.mark.Mark.{Mark}
use Rattle.write_history.specs.declared.mark.Mark.TheVariants.{Clean, Fault, FaultAfter}
use Rattle.write_history.specs.History.{content, to_restore}
use Rattle.set_agenda.specs.Agenda.{is_among}
use Rattle.scenario.specs.declared.op.Op.{Op}
use Rattle.scenario.specs.declared.op.Op.TheVariants.{Revert}
use Rattle.scenario.specs.declared.line.Line.{Line as Does}
use Rattle.scenario.specs.declared.line.Line.TheVariants.{Writes, Reverts}
use Rattle.scenario.specs.Calls.{line_of}
use Rattle.scenario.specs.Plan.{Plan, blocks_of}
use Rattle.vss_model.specs.declared.event.Event.{Event}
use Rattle.vss_model.specs.declared.event.Event.TheVariants.{Line, Answer as AnswerEvent, Provider, Idle}
use Rattle.vss_model.specs.State.{State, Kept, history_of, kept_image}
use Rattle.vss_model.specs.Images.{revert_refusal}
use Rattle.vss_model.specs.Acts.{Act, enabled, after, state}

-- block b of volume v
abbrev pub block_now : State → ℕ → ℕ → List ℕ
block_now st v b = content (history_of st v).writes (length (history_of st v).writes) b

abbrev pub is_clean : Mark → Bool
is_clean Clean = true
is_clean Fault = false
is_clean (FaultAfter k) = false

abbrev pub changes_by : ℕ → ℕ → Does → Mark → Bool
changes_by v b (Writes u c payload) mark = is_clean mark && (u == v) && (c == b)
changes_by v b (Reverts n u) mark = u == v
changes_by v b _ mark = false

-- the line, with its mark, may change block b of volume v
abbrev pub line_changes : ℕ → ℕ → Op → Mark → Bool
line_changes v b op mark = changes_by v b (line_of op) mark

abbrev pub may_change : ℕ → ℕ → Event → Mark → Bool
may_change v b (Line lane op) mark = line_changes v b op mark
may_change v b (AnswerEvent w answer) mark = false
may_change v b Provider mark = false
may_change v b Idle mark = false

pub record ContentsChange (s : Plan) (so_far : List Act) (act : Act) : Type 0 where
  -- every other act leaves the block as it is
  pub stay : (v b : ℕ) → may_change v b act.event act.mark ≡ false → block_now (after s (state s so_far) act) v b ≡ block_now (state s so_far) v b
  -- a write that may come, and that no device fails, puts its bytes into the block
  pub wrote : (lane v b : ℕ) (op : Op) (payload : Payload) → act.event ≡ Line lane op → line_of op ≡ Writes v b payload → act.mark ≡ Clean → enabled s (state s so_far) act.event ≡ true
      → v < length s.volumes → block_now (after s (state s so_far) act) v b ≡ payload_bytes payload
  -- a revert that is not refused, and that no device fails, brings every block back to what the image shows
  pub reverted : (lane n v b : ℕ) (k : Kept) → act.event ≡ Line lane (Revert n v) → act.mark ≡ Clean → kept_image (state s so_far) n v ≡ Some k → revert_refusal v (Some k) (state s so_far) ≡ None
      → v < length s.volumes → block_now (after s (state s so_far) act) v b ≡ content (history_of (state s so_far) v).writes k.point b
  -- one that a device fails after j blocks has brought back the first j of those that were written since, and no other block
  pub stopped : (lane n v b j : ℕ) (k : Kept) → act.event ≡ Line lane (Revert n v) → act.mark ≡ FaultAfter j → kept_image (state s so_far) n v ≡ Some k → revert_refusal v (Some k) (state s so_far) ≡ None
      → v < length s.volumes
      → block_now (after s (state s so_far) act) v b
      ≡ (if is_among b (take j (to_restore (blocks_of s v) (history_of (state s so_far) v).writes k.point)) then content (history_of (state s so_far) v).writes k.point b else block_now (state s so_far) v b)
