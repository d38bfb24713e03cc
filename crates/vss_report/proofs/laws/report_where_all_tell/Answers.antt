use Rattle.vss_report.proofs.Telling.{is_told_report, only_told_report}
use Rattle.vss_report.proofs.laws.report_where_all_tell.Goals as goal

pub returns : goal.returns
returns c = record { report = is_told_report; only = only_told_report }
