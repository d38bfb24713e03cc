use Rattle.std.proofs.Common.{◌∙◌, codes}
use Rattle.generated.proofs.Terms.{as_lines, declarations, set_lines, lanes_text}
use Rattle.generated.proofs.Ranges.{seven_pieces}
use Rattle.generated.proofs.scenario_text.gen_scenario.Goals as goal

pub returns : goal.returns
returns c =
    seven_pieces c.reserve.new.self.bytes (as_lines declarations) (codes "lane l0\n") (as_lines set_lines) (as_lines set_lines) (as_lines set_lines) (as_lines set_lines) (lanes_text c.args.number)
    c.add_declarations.new.out.bytes c.add.new.self.bytes c.add_set.new.out.bytes c.add_set-2.new.out.bytes c.add_set-3.new.out.bytes c.add_set-4.new.out.bytes c.add_lanes.new.out.bytes
    (c.in_ok-reserve.ensures.bytes ∙ c.new-out.ensures) c.in_ok-add_declarations.ensures c.in_ok-add.ensures.ok c.in_ok-add_set.ensures c.in_ok-add_set-2.ensures c.in_ok-add_set-3.ensures c.in_ok-add_set-4.ensures c.in_ok-add_lanes.ensures
