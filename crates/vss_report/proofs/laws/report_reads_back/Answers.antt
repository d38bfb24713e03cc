use Rattle.vss_report.proofs.ReadTrail.{report_back, one_trail}
use Rattle.vss_report.proofs.laws.report_reads_back.Goals as goal

pub returns : goal.returns
returns c = record { read = report_back; one = one_trail }
