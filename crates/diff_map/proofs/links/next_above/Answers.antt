use Rattle.std.proofs.Common.{refl, arith}
use Rattle.diff_map.proofs.Relinked.{no_next, is_next}
use Rattle.diff_map.proofs.links.next_above.Goals as goal

pub returns-in_default : goal.returns-in_default
returns-in_default c = no_next c.args.newest.now c.args.rows.now c.args.block c.args.low c.requires.keeps c.requires.in_range
    (let f = c.ranges.low.fits in omega arith) (c.in_default.ensures.none refl)

pub returns : goal.returns
returns c = is_next c.args.newest.now c.args.rows.now c.args.block c.args.low c.chain.at c.requires.keeps c.chain.invariant (c.in_default-older_above.ensures.none refl)
