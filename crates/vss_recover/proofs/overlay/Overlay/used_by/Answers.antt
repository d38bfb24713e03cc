use Rattle.std.proofs.Common.{◌∙◌, arith}
use Rattle.std.proofs.lemmas.List.Sums.{count_by-le-length}
use Rattle.vss_recover.specs.OverlayCalls.{is_block_of}
use Rattle.vss_recover.proofs.UsedSlots.{entries_counted}
use Rattle.vss_recover.proofs.overlay.Overlay.used_by.Goals as goal

pub entries_of-requires : goal.entries_of-requires
entries_of-requires g c =
    let records = c.self.inside.area.records in
    let count = entries_counted c.self.inside.area.volumes records c.self.inside.entries.items c.args.set c.self.invariant.one c.slots-valid.ensures.valid c.self.invariant.index in
    let most = count_by-le-length (is_block_of c.args.set) records in
    let few = c.slots-valid.ensures.valid.few in
    rw c.deref.ensures.value (omega arith)

pub returns : goal.returns
returns g c =
    let records = c.self.inside.area.records in
    let count = entries_counted c.self.inside.area.volumes records c.self.inside.entries.items c.args.set c.self.invariant.one c.slots-valid.ensures.valid c.self.invariant.index in
    let told = rw c.deref.ensures.value at c.entries_of.ensures in
    rw (← c.self.view_is) (told ∙ count)
