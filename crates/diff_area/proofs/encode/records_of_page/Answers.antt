use Rattle.std.proofs.Common.{◌*◌, drop}
use Rattle.std.proofs.lemmas.List.{take_min, take_rest}
use Rattle.diff_area.specs.AreaValue.{records_of_page}
use Rattle.diff_area.proofs.encode.records_of_page.Goals as goal

pub returns-clause-rows : goal.returns-clause-rows
unfolding records_of_page
returns-clause-rows c =
    let e = take_rest c.args.records.now (1024 * c.args.k) in
    let f = c.min.ensures in
    rw (f, e) (take_min 1024 (drop (1024 * c.args.k) c.args.records.now))
