use Rattle.std.proofs.Common.{ap, ◌∙◌, sym, subst, length, slice_get, arith, rules}
use Rattle.diff_area.specs.Format.{IsUsed}
use Rattle.diff_area.proofs.Keeping.{keeps-set}
use Rattle.diff_area.proofs.area.Area.set_record.Goals as goal

pub invariant_of-self : goal.invariant_of-self
invariant_of-self g c =
    let a = c.self.inside in
    let rows = ap (λ v. v.records) c.self.view_is in
    let n = ap length rows in
    let within = c.requires.slot in
    let used = subst (λ vs. IsUsed vs c.args.row) (sym (ap (λ v. v.volumes) c.self.view_is)) c.requires.used in
    keeps-set g.D.Device.told g.D.Device.size a.device a.volumes.items a.records.items a.changed.items a.page c.args.slot c.args.row c.self.invariant (omega arith) used (λ other h. c.requires.once other (ap (λ rs. slice_get rs other) (sym rows) ∙ h)) (record { set = search rules; block = search rules; volume = search rules })
