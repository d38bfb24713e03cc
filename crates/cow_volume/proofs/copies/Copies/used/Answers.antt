use Rattle.std.proofs.Common.{◌≡◌, ap, length, arith}
use Rattle.std.proofs.lemmas.List.{length-map}
use Rattle.diff_area.specs.Format.{is_free, used_in}
use Rattle.slot_pool.specs.Slots.{free_count}
use Rattle.cow_volume.proofs.Ties.{free_and_used}
use Rattle.cow_volume.proofs.copies.Copies.used.Goals as goal

pub returns : goal.returns
returns g c =
    let records = c.self.inside.area.records in
    let pool = c.self.invariant.pool_is in
    let both = free_and_used records in
    let long = ap length pool in
    let mapped = length-map records is_free in
    let count = ap free_count pool in
    let told = c.used.ensures in
    let is : c.used.result ≡ used_in records = omega arith in
    rw (← c.self.view_is) is
