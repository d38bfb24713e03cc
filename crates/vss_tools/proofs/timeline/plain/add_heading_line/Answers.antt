use Rattle.vss_tools.proofs.TextLines.{is_lines_more}
use Rattle.vss_tools.proofs.timeline.plain.add_heading_line.Goals as goal

pub returns : goal.returns
returns c = is_lines_more c.args.out.now.bytes c.add_line.new.out.bytes c.args.line.now c.in_ok-add_line.ensures
