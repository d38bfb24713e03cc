use Rattle.vss_report.proofs.Telling.{so_far_none, so_far_one}
use Rattle.vss_report.proofs.laws.one_more_line.Goals as goal

pub returns : goal.returns
returns c = record { none = so_far_none; one = so_far_one }
