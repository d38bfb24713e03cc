use Rattle.std.proofs.Common.{◌∙◌, ◌++◌, ap, codes}
use Rattle.generated.proofs.Terms.{decimal, acting, writes_text}
use Rattle.generated.proofs.Ranges.{five_pieces}
use Rattle.generated.proofs.scenario_text.add_lane.Goals as goal

pub returns : goal.returns
returns c =
    five_pieces c.args.out.now.bytes (codes "lane l") (decimal c.args.lane) (acting c.args.lane) (codes "\n") (writes_text c.args.number c.args.lane)
    c.add.new.self.bytes c.add_number.new.out.bytes c.add-2.new.self.bytes c.add-3.new.self.bytes c.add_writes.new.out.bytes
    c.in_ok-add.ensures.ok c.in_ok-add_number.ensures (c.in_ok-add-2.ensures.ok ∙ ap (λ xs. c.add_number.new.out.bytes ++ xs) c.acting.ensures) c.in_ok-add-3.ensures.ok c.in_ok-add_writes.ensures
