use Rattle.vss_model.specs.Trail.{begin}
use Rattle.vss_report.proofs.ReadTrail.{one_more_legible}
use Rattle.vss_report.proofs.laws.legible_moves_grow.Goals as goal

pub returns : goal.returns
returns c = λ s tells trail m. one_more_legible s tells (begin s) trail m
