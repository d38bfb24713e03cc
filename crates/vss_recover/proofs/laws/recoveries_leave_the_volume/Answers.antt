use Rattle.std.proofs.Common.{refl}
use Rattle.vss_recover.proofs.Standing.{same_volume}
use Rattle.vss_recover.proofs.laws.recoveries_leave_the_volume.Goals as goal

pub returns : goal.returns
returns c = λ n h steps. same_volume n h h steps refl
