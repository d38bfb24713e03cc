use Rattle.vss_tools.proofs.TextLines.{drawn_more}
use Rattle.vss_tools.proofs.timeline.part.add_parts.Goals as goal

pub returns : goal.returns
returns c = drawn_more c.args.out.now.bytes c.add_all.new.out.bytes c.args.parts.now c.in_ok-add_all.ensures
