use Rattle.vss_main.proofs.Listed.{head_written}
use Rattle.vss_main.proofs.lines.add_head.Goals as goal

pub returns : goal.returns
returns c =
    head_written c.args.out.now.bytes c.add_number.new.out.bytes c.add_number-2.new.out.bytes c.add_number-3.new.out.bytes c.add.new.self.bytes c.args.layout c.args.slots c.args.used
    c.in_ok-add_number.ensures c.in_ok-add_number-2.ensures c.in_ok-add_number-3.ensures c.in_ok-add.ensures.ok
