use Rattle.vss_report.proofs.ToldLegible.{failures_are_coded, failures_of_run}
use Rattle.vss_report.proofs.laws.failures_have_codes.Goals as goal

pub returns : goal.returns
returns c = record { state = failures_are_coded; run = failures_of_run }
