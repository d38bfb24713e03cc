use Rattle.mirror_volume.proofs.HavingSaid.{spent, refused_before}
use Rattle.mirror_volume.proofs.laws.cuts_are_refused_for_a_cause.Goals as goal

pub returns-clause-spent : goal.returns-clause-spent
returns-clause-spent c = λ kind ready count now_ready now_count tells h commands said run. spent kind tells h ready count now_ready now_count commands said run

pub returns-clause-refused : goal.returns-clause-refused
returns-clause-refused c = refused_before
