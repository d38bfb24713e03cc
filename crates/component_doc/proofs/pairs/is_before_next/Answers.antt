use Rattle.std.proofs.Common.{◌≡◌, ◌+◌, length, rules, sym}
use Rattle.component_doc.proofs.Order.{last-before}
use Rattle.component_doc.proofs.pairs.is_before_next.Goals as goal

pub returns-then-i-pairs : goal.returns-then-i-pairs
returns-then-i-pairs c = let last : c.args.i + 1 ≡ length c.args.pairs.now = search rules in sym (last-before c.args.pairs.now c.args.i last)
