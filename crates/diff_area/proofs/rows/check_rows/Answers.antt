use Rattle.std.proofs.Common.{length, ap, arith}
use Rattle.diff_area.proofs.GoodRecords.{seen-none, good-none, good-more, bad_row, length-rows_in}
use Rattle.diff_area.proofs.rows.check_rows.Goals as goal

pub loop-slot-init : goal.loop-slot-init
loop-slot-init c = record {
  good = good-none c.args.header.now c.args.table.now c.new-rows.result.items c.new-rows.ensures.items;
  seen = seen-none c.new-seen.result c.new-rows.result.items c.new-seen.ensures.empty c.new-rows.ensures.items;
}

pub take_row-requires-clause-few : goal.take_row-requires-clause-few
take_row-requires-clause-few c =
    let e = ap length c.loop-slot.invariant.good.rows_are in
    let f = length-rows_in c.args.header.now.layout c.args.table.now c.loop-slot.slot in
    let test = c.loop-slot-test.true in
    let few = c.requires.few in
    omega arith

pub returns-in-Err-clause-refused : goal.returns-in-Err-clause-refused
returns-in-Err-clause-refused c =
    let l = c.loop-slot in
    bad_row c.args.header.now c.args.table.now c.args.count l.slot l.rows.items c.row_at.result.now c.in-Err.fault l.invariant.good c.row_at.ensures.row c.loop-slot-test.true c.in-Err.ensures.refused

pub loop-slot-preserved : goal.loop-slot-preserved
loop-slot-preserved c =
    let l = c.loop-slot in
    record {
      good = good-more c.args.header.now c.args.table.now l.slot l.rows.items c.take_row.new.rows.items c.row_at.result.now l.invariant.good c.row_at.ensures.row c.in-Ok.ensures.taken c.in-Ok.ensures.good c.in-Ok.ensures.narrow;
      seen = c.in-Ok.ensures.seen;
    }
