use Rattle.std.proofs.Common.{subst, sym}
use Rattle.vss_tools.specs.Drawn.{IsLines}
use Rattle.vss_tools.proofs.TextLines.{is_lines_none}
use Rattle.vss_tools.proofs.timeline.plain.to_lines.Goals as goal

pub returns : goal.returns
returns c = c.in_ok-add_all.ensures (subst IsLines (sym c.new-out.ensures) is_lines_none)
