use Rattle.std.proofs.Common.{ℕ, ◌≡◌, ◌*◌, List, Option, length, vec_len, min, subst, sym, ap, ◌∙◌, arith, rules}
use Rattle.block_data.specs.declared.block_buf.TheConstants.{BLOCK}
use Rattle.diff_area.specs.Loading.{AreRead}
use Rattle.diff_area.specs.Format.{AreVolumes}
use Rattle.diff_area.specs.ReadRows.{IsAccepted, IsTable, IsTableRefused}
use Rattle.diff_area.specs.Refusals.{IsBadHeader}
use Rattle.diff_area.proofs.OnDevice.{refused_header, refused_table, accepted, loaded}
use Rattle.diff_area.proofs.GoodRecords.{length-rows_in, are_volumes, are_records}
use Rattle.diff_area.proofs.loading.read_tables.Goals as goal

read_told : {D : Type 0} (told : D → Option (List (List ℕ))) (old new : D) (first count : ℕ) (bytes : List ℕ) → told new ≡ told old → AreRead (told new) first count bytes → AreRead (told old) first count bytes
read_told told old new first count bytes e r = subst (λ t. AreRead t first count bytes) e r

pub returns-in-Err-check_header-clause-refused : goal.returns-in-Err-check_header-clause-refused
returns-in-Err-check_header-clause-refused g c =
    let d = g.D.Device in
    let told = d.told c.args.device.now in
    let n = d.size c.args.device.now in
    let size = BLOCK * c.blocks-blocks.result in
    let first = c.in-Ok.first.items in
    let least = c.min.ensures ∙ ap (min 1) c.blocks-blocks.ensures.size in
    let bytes = ap (λ k. BLOCK * k) c.blocks-blocks.ensures.size in
    let bad = subst (λ x. IsBadHeader size x c.in-Err-check_header.fault) c.deref.ensures.value c.in-Err-check_header.ensures.refused in
    refused_header told n c.min.result size (d.count c.args.device.now) (d.count c.read_blocks.new.device) first c.in-Err-check_header.fault c.blocks-blocks.ensures.whole c.in-Ok.ensures.read least bytes bad c.in-Ok.ensures.same

pub returns-in-Err-check_table-clause-refused : goal.returns-in-Err-check_table-clause-refused
returns-in-Err-check_table-clause-refused g c =
    let d = g.D.Device in
    let told = d.told c.args.device.now in
    let n = d.size c.args.device.now in
    let size = BLOCK * c.blocks-blocks.result in
    let first = c.in-Ok.first.items in
    let least = c.min.ensures ∙ ap (min 1) c.blocks-blocks.ensures.size in
    let bytes = ap (λ k. BLOCK * k) c.blocks-blocks.ensures.size in
    let h = c.in-Ok-check_header.header in
    let table = c.in-Ok-read_blocks.table.items in
    let valid = subst (λ x. IsAccepted size x h) c.deref.ensures.value c.in-Ok-check_header.ensures.accepted in
    let read = read_told d.told c.args.device.now c.read_blocks.new.device 1 c.pages_for.result table c.in-Ok.ensures.alone.told_is c.in-Ok-read_blocks.ensures.read in
    let bad = subst (λ x. IsTableRefused h x c.in-Err-check_table.fault) c.deref-2.ensures.value c.in-Err-check_table.ensures.refused in
    refused_table told n c.min.result size c.pages_for.result (d.count c.args.device.now) (d.count c.read_blocks-2.new.device) first table h c.in-Err-check_table.fault c.blocks-blocks.ensures.whole c.in-Ok.ensures.read least bytes valid read c.pages_for.ensures bad (c.in-Ok-read_blocks.ensures.same ∙ c.in-Ok.ensures.same)

pub of_records-requires : goal.of_records-requires
of_records-requires g c =
    let few = c.in-Ok-check_header.ensures.few in
    let len = ap length c.in-Ok-check_table.ensures.accepted.rows_are ∙ length-rows_in c.in-Ok-check_header.header.layout c.deref-2.result.now c.in-Ok-check_header.header.slots in
    let long : length c.in-Ok-check_table.records.items ≡ vec_len c.in-Ok-check_table.records = search rules in
    omega arith

pub returns-in-Ok-of_records-clause-loaded : goal.returns-in-Ok-of_records-clause-loaded
returns-in-Ok-of_records-clause-loaded g c =
    let d = g.D.Device in
    let told = d.told c.args.device.now in
    let n = d.size c.args.device.now in
    let size = BLOCK * c.blocks-blocks.result in
    let first = c.in-Ok.first.items in
    let least = c.min.ensures ∙ ap (min 1) c.blocks-blocks.ensures.size in
    let bytes = ap (λ k. BLOCK * k) c.blocks-blocks.ensures.size in
    let h = c.in-Ok-check_header.header in
    let table = c.in-Ok-read_blocks.table.items in
    let valid = subst (λ x. IsAccepted size x h) c.deref.ensures.value c.in-Ok-check_header.ensures.accepted in
    let read = read_told d.told c.args.device.now c.read_blocks.new.device 1 c.pages_for.result table c.in-Ok.ensures.alone.told_is c.in-Ok-read_blocks.ensures.read in
    let rows = c.in-Ok-check_table.records.items in
    let made = c.in-Ok-of_records.ensures in
    let good = subst (λ x. IsTable h x rows) c.deref-2.ensures.value c.in-Ok-check_table.ensures.accepted in
    let all = accepted told n c.min.result size c.pages_for.result first table h rows c.blocks-blocks.ensures.whole c.in-Ok.ensures.read least bytes valid read c.pages_for.ensures good in
    let few = c.in-Ok-check_header.ensures.few in
    let fits = c.in-Ok-check_header.ensures.whole in
    let len = ap length made.records_are ∙ ap length good.rows_are ∙ length-rows_in h.layout table h.slots in
    let volumes = subst AreVolumes (sym valid.fields.volumes) (are_volumes size first valid.valid) in
    let records = are_records h table rows good few in
    let is_size = c.blocks-blocks.ensures.size in
    loaded told n h rows c.in-Ok-of_records.tables made (omega arith) volumes records all c.blocks-blocks.ensures.whole
