use Rattle.std.proofs.Common.{arith}
use Rattle.std.proofs.lemmas.Grind.{common_steps}
use Rattle.std.proofs.lemmas.Bool.Decides.{nat_tests}
use Rattle.vss_report.proofs.Joined.{passes, ends, ends_text}
use Rattle.vss_report.proofs.pieces.piece_at.Goals as goal

pub returns-then-text-end-clause-next : goal.returns-then-text-end-clause-next
returns-then-text-end-clause-next c = grind (arith, common_steps, nat_tests, ends)

pub loop-end-preserved : goal.loop-end-preserved
loop-end-preserved c = grind (arith, common_steps, nat_tests, passes)

pub returns-clause-next : goal.returns-clause-next
returns-clause-next c = ends_text c.args.mark c.args.text.now c.args.at c.loop-end.end (grind (arith, common_steps)) (grind (arith, common_steps)) c.loop-end.invariant
