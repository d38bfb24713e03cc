use Rattle.std.proofs.Common.{ℕ, ◌≡◌, ap, ◌∙◌, sym, subst, List, length, option_map, vec_len, rules}
use Rattle.diff_area.specs.AreaValue.{with_first, AreInPart, table_blocks}
use Rattle.diff_area.specs.Copies.{AreHeld}
use Rattle.diff_area.specs.declared.table_record.Record.{Record}
use Rattle.diff_area.proofs.OnDevice.{stands_told}
use Rattle.diff_area.proofs.Keeping.{keeps-synced, keeps-in_part}
use Rattle.diff_area.proofs.area.Area.sync.Goals as goal

same_table : (volumes vs : List ℕ) (records rs : List Record) → volumes ≡ vs → records ≡ rs → table_blocks volumes records ≡ table_blocks vs rs
same_table volumes vs records rs e f = ap (λ v. table_blocks v records) e ∙ ap (table_blocks vs) f

pub invariant_of-self : goal.invariant_of-self
invariant_of-self g c =
    let a = c.self.inside in
    let table = same_table _ _ _ _ c.deref.ensures.value c.deref-2.ensures.value in
    let written = c.in-Ok.ensures.written ∙ ap (λ t. option_map (with_first t) (g.D.Device.told a.device)) table in
    let before : length a.changed.items ≡ vec_len a.changed = search rules in
    let after : length c.fill.new.self.items ≡ vec_len c.fill.new.self = search rules in
    let len = after ∙ c.fill.ensures.len ∙ sym before in
    keeps-synced g.D.Device.told g.D.Device.size a.device c.write_table.new.device a.volumes.items a.records.items a.changed.items c.fill.new.self.items a.page c.write_table.new.page c.self.invariant written c.write_table.ensures.size len c.write_table.ensures.room

pub invariant_of-self-in-Err : goal.invariant_of-self-in-Err
invariant_of-self-in-Err g c =
    let a = c.self.inside in
    let table = same_table _ _ _ _ c.deref.ensures.value c.deref-2.ensures.value in
    let part = subst (λ t. AreInPart t (g.D.Device.told a.device) (g.D.Device.told c.write_table.new.device)) table c.in-Err.ensures.in_part in
    keeps-in_part g.D.Device.told g.D.Device.size a.device c.write_table.new.device a.volumes.items a.records.items a.changed.items a.page c.write_table.new.page c.self.invariant part c.write_table.ensures.size c.write_table.ensures.room

pub returns-in-Ok-clause-stands : goal.returns-in-Ok-clause-stands
returns-in-Ok-clause-stands g c copies h =
    let a = c.self.inside in
    let d = g.D.Device in
    let told = d.told a.device in
    let table = same_table _ _ _ _ c.deref.ensures.value c.deref-2.ensures.value in
    let written = c.in-Ok.ensures.written ∙ ap (λ t. option_map (with_first t) told) table in
    let i = c.self.invariant in
    let held = subst (λ v. AreHeld (d.told v.device) v.records copies) (sym c.self.view_is) h in
    stands_told told (d.told c.write_table.new.device) (d.size a.device) a.volumes.items a.records.items copies written c.write_table.ensures.whole i.fits i.are_volumes i.are_records held
