use Rattle.vss_world.proofs.Looking.{lent_told}
use Rattle.vss_world.proofs.reading.read_block.Goals as goal

pub returns-in-Ok-Some : goal.returns-in-Ok-Some
returns-in-Ok-Some g c =
    let shown = rw c.in-Ok-Some.field-0-is at c.in-Ok-Some.ensures.shown in
    rw c.told.ensures (
      c.in-Ok-Some.ensures.there,
      lent_told g.D.Device c.args.scenario.now c.args.provider.now c.args.volume c.args.set c.args.block c.in-Ok-Some.bytes.now c.of.result shown
          c.of.ensures.exact c.of.ensures.wide,
    )
