use Rattle.std.proofs.Common.{ap, length, arith}
use Rattle.diff_area.proofs.Keeping.{keeps-cleared}
use Rattle.diff_area.proofs.area.Area.clear_record.Goals as goal

pub invariant_of-self : goal.invariant_of-self
invariant_of-self g c =
    let a = c.self.inside in
    let rows = ap (λ v. v.records) c.self.view_is in
    let n = ap length rows in
    let within = c.requires in
    keeps-cleared g.D.Device.told g.D.Device.size a.device a.volumes.items a.records.items a.changed.items a.page c.args.slot c.self.invariant (omega arith)
