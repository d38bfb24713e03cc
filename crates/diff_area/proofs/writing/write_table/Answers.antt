use Rattle.std.proofs.Common.{◌+◌, option_map, vec_capacity, refl, ap, ◌∙◌, arith}
use Rattle.std.proofs.lemmas.List.{take_all}
use Rattle.diff_area.specs.AreaValue.{with_first, AreInPart, table_blocks, page_bytes, header_bytes}
use Rattle.diff_area.proofs.ByPlace.{told-write, told-keep, told-none, told-within, table-header, table-page, length-table, get_is, on_err}
use Rattle.diff_area.proofs.writing.write_table.Goals as goal
use Rattle.diff_area.proofs.writing.write_table.Goals.{then-changed-k+in_ok-write_page, else-changed-k}

pub loop-k-init : goal.loop-k-init
loop-k-init g c =
    let told = g.D.Device.told in
    let t = table_blocks c.args.volumes.now c.args.records.now in
    let fits = c.requires.fits in
    let within = told-within (told c.args.device.now) (g.D.Device.size c.args.device.now) 0 c.blocks-2.ensures.whole (omega arith) in
    let header = header_bytes c.args.volumes.now c.args.records.now in
    record {
      told_is = told-write t (told c.args.device.now) (told c.args.device.now) (told c.write_header.new.device) 0 1 header c.in_ok-write_header.ensures.written (told-none t (told c.args.device.now)) within (table-header c.args.volumes.now c.args.records.now) refl;
      size_is = c.write_header.ensures.size;
      lends = c.write_header.ensures.lending;
      same = c.in_ok-write_header.ensures.cause.same;
      room = c.write_header.ensures.room;
    }

pub returns-in_err-write_page-clause-in_part : goal.returns-in_err-write_page-clause-in_part
returns-in_err-write_page-clause-in_part g c =
    let e = length-table c.args.volumes.now c.args.records.now in
    let test = c.loop-k-test.true in
    let fits = c.requires.fits in
    let part : AreInPart (table_blocks c.args.volumes.now c.args.records.now) (g.D.Device.told c.args.device.now) (g.D.Device.told c.write_page.new.device) = record {
      count = 1 + c.loop-k.k;
      within = omega arith;
      blocks = c.in_err-write_page.ensures.kept ∙ c.loop-k.invariant.told_is;
    } in on_err c.from_residual-in_err-write_page.result part

pub loop-k-preserved : goal.loop-k-preserved
loop-k-preserved g c =
    let told = g.D.Device.told in
    let t = table_blocks c.args.volumes.now c.args.records.now in
    let before = told c.args.device.now in
    let k = c.loop-k.k in
    let fits = c.requires.fits in
    let pages = c.requires.pages in
    let test = c.loop-k-test.true in
    let page = page_bytes c.args.records.now k in
    let stands = table-page c.args.volumes.now c.args.records.now k (1 + k) (omega arith) refl in
    let inv = c.loop-k.invariant in
    elim c.if-changed-k.branch [
      | then-changed-k+in_ok-write_page w ↦
          let within = told-within before (g.D.Device.size c.args.device.now) (1 + k) c.blocks-2.ensures.whole (omega arith) in
          record {
            told_is = ap told w.device-is ∙ told-write t before (told c.loop-k.device) (told w.write_page.new.device) (1 + k) (1 + (k + 1)) page w.in_ok-write_page.ensures.written inv.told_is within stands (omega arith);
            size_is = ap g.D.Device.size w.device-is ∙ w.write_page.ensures.size ∙ inv.size_is;
            lends = ap g.D.Device.lending w.device-is ∙ w.write_page.ensures.lending ∙ inv.lends;
            same = ap g.D.Device.count w.device-is ∙ w.in_ok-write_page.ensures.cause.same ∙ inv.same;
            room = let e = ap vec_capacity w.page-is in let f = w.write_page.ensures.room in omega arith;
          }
      | else-changed-k w ↦
          let clean = get_is c.args.changed.now k _ _ (omega arith) w.if-changed-k.false in
          record {
            told_is = ap told w.device-is ∙ told-keep t before (told c.loop-k.device) (1 + k) (1 + (k + 1)) page inv.told_is (λ ds e. c.requires.written ds k e clean) stands (omega arith);
            size_is = ap g.D.Device.size w.device-is ∙ inv.size_is;
            lends = ap g.D.Device.lending w.device-is ∙ inv.lends;
            same = ap g.D.Device.count w.device-is ∙ inv.same;
            room = let e = ap vec_capacity w.page-is in let f = inv.room in omega arith;
          }
    ]

pub returns-clause-written : goal.returns-clause-written
returns-clause-written g c =
    let t = table_blocks c.args.volumes.now c.args.records.now in
    let e = length-table c.args.volumes.now c.args.records.now in
    let fits = c.requires.fits in
    let test = c.loop-k-test.false in
    c.loop-k.invariant.told_is ∙ ap (λ u. option_map (with_first u) (g.D.Device.told c.args.device.now)) (take_all (1 + c.loop-k.k) t (omega arith))
