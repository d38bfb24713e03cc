use Rattle.std.proofs.Common.{◌<◌, arith}
use Rattle.vss_catalog.proofs.Back.{catalog-back}
use Rattle.image_store.specs.Head.{said_of}
use Rattle.image_store.proofs.Keeping.{same_head, found}
use Rattle.image_store.proofs.laws.what_lasts_is_found.Goals as goal

pub returns : goal.returns
returns g c = λ devices later area again p kept tells slots.
    let low : c.args.head.now.last < 4294967296 = (let is = c.last-last.ensures in let range = c.last-last.type_inv in omega arith) in
    let given : c.args.store.now.last < 4294967296 = (let is = c.last-given.ensures in let range = c.last-given.type_inv in omega arith) in
    let same = same_head c.args.head.now (said_of c.args.store.now) c.requires (catalog-back c.args.head.now.entries c.catalog-catalog.ensures.allowed) c.has_a_head.ensures.catalog low given in
    found g.D.Device devices later area again c.args.head.now (said_of c.args.store.now) p same kept tells slots
