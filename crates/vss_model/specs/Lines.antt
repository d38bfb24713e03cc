-- What each line of a lane is answered.
use Rattle.std.specs.Prelude.{ℕ}
use Rattle.write_history.specs.declared.mark.Mark.{Mark}
use Rattle.requestor.specs.Check.{check}
use Rattle.scenario.specs.declared.line.Line.{Line}
use Rattle.scenario.specs.declared.line.Line.TheVariants.{Writes, Reads, ShowsImage, ShowsBlock, ShowsSets, ShowsProperties, Reverts, DeletesSet, DeletesImage, Ticks, Calls}
use Rattle.scenario.specs.declared.op.Op.{Op}
use Rattle.scenario.specs.Plan.{Plan}
use Rattle.scenario.specs.Calls.{line_of}
use Rattle.vss_model.specs.Reply.{Reply, Fine}
use Rattle.vss_model.specs.State.{State, kept_image}
use Rattle.vss_model.specs.Steps.{runs}
use Rattle.vss_model.specs.Images.{reply_of_mark, read_reply, block_reply, image_reply, query_reply, properties_reply, revert_refusal, revert_reply, delete_set_reply, delete_image_reply}
use Rattle.vss_model.specs.Sessions.{judged_reply}

-- by what the line does; the words of a session call are those of the line
abbrev pub reply_to : Plan → ℕ → Op → Line → Mark → State → Reply
reply_to s lane op (Writes v b payload) mark st = reply_of_mark mark
reply_to s lane op (Reads v b) mark st = read_reply v b mark st
reply_to s lane op (ShowsImage n v) mark st = image_reply s v (kept_image st n v) mark st
reply_to s lane op (ShowsBlock n v b) mark st = block_reply v b (kept_image st n v) mark st
reply_to s lane op (ShowsSets v) mark st = query_reply v st
reply_to s lane op (ShowsProperties n v) mark st = properties_reply s v (kept_image st n v) st
reply_to s lane op (Reverts n v) mark st = revert_reply (revert_refusal v (kept_image st n v) st) mark
reply_to s lane op (DeletesSet n) mark st = delete_set_reply n st
reply_to s lane op (DeletesImage n v) mark st = delete_image_reply (kept_image st n v)
reply_to s lane op (Ticks n) mark st = Fine
reply_to s lane op (Calls c) mark st = judged_reply (check st.session (runs st) lane c) s op st

abbrev pub line_reply : Plan → ℕ → Op → Mark → State → Reply
line_reply s lane op mark st = reply_to s lane op (line_of op) mark st
