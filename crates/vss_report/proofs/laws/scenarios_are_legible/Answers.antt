use Rattle.vss_report.proofs.LegibleWords.{named_legible}
use Rattle.vss_report.proofs.laws.scenarios_are_legible.Goals as goal

pub returns : goal.returns
returns c = named_legible
