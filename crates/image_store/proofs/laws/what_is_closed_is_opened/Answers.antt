use Rattle.image_store.specs.Head.{said_of}
use Rattle.image_store.proofs.Origins.{opened_step}
use Rattle.image_store.proofs.laws.what_is_closed_is_opened.Goals as goal

pub returns : goal.returns
returns g c = opened_step g.D.Device c.args.store (said_of c.args.store) c.args.head.now c.close-closed.result.devices.items c.args.later.items
    c.close-closed.result.area c.args.again c.close-closed.result.outcome c.open.result c.close-closed.ensures.kept c.what_lasts_is_found.ensures c.open.ensures.kept
