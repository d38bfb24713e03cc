use Rattle.std.proofs.Common.{refl, sym, ap, ◌∙◌}
use Rattle.diff_area.specs.Format.{used_in}
use Rattle.diff_area.proofs.GoodRecords.{first_rows, first_narrow}
use Rattle.diff_area.proofs.rows.count_used.Goals as goal

pub returns-then-used_in-header-clause-refused : goal.returns-then-used_in-header-clause-refused
returns-then-used_in-header-clause-refused c =
    let rows = first_rows c.args.header.now c.args.table.now c.args.rows.items c.truncate.new.self.items c.requires.good c.truncate.ensures.items in
    let used = c.used_in.ensures ∙ ap used_in (c.deref.ensures.value ∙ rows) in
    let test = c.if-used_in-header.true in
    record {
      good = c.requires.good.good;
      stated = refl;
      other = λ e. test (used ∙ sym e);
    }

pub returns-clause-accepted : goal.returns-clause-accepted
returns-clause-accepted c =
    let rows = first_rows c.args.header.now c.args.table.now c.args.rows.items c.truncate.new.self.items c.requires.good c.truncate.ensures.items in
    let used = c.used_in.ensures ∙ ap used_in c.deref.ensures.value in
    let test = c.if-used_in-header.false in
    record {
      rows_are = rows;
      narrow = first_narrow c.args.header.now.slots c.args.rows.items c.truncate.new.self.items c.requires.good.narrow c.truncate.ensures.items;
      good = c.requires.good.good;
      used = sym test ∙ used;
    }
