use Rattle.diff_area.proofs.OnDevice.{copies_loaded}
use Rattle.diff_area.proofs.area.Area.load.Goals as goal

pub returns-in-Ok-clause-copies : goal.returns-in-Ok-clause-copies
returns-in-Ok-clause-copies g c copies s =
    let d = g.D.Device in
    let t = c.in-Ok.tables in
    copies_loaded (d.told c.args.device) (d.told c.read_tables.new.device) (d.size c.args.device) t.volumes.items t.records.items copies c.in-Ok.ensures.alone.told_is c.in-Ok.ensures.loaded.whole c.in-Ok.ensures.loaded.read s
