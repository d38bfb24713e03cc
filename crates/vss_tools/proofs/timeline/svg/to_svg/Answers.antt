use Rattle.std.proofs.Common.{subst, sym}
use Rattle.vss_tools.specs.Drawn.{IsDrawn}
use Rattle.vss_tools.proofs.TextLines.{drawn_none}
use Rattle.vss_tools.proofs.timeline.svg.to_svg.Goals as goal

pub returns : goal.returns
returns c = c.in_ok-add_all.ensures (subst IsDrawn (sym c.new-out.ensures) drawn_none)
