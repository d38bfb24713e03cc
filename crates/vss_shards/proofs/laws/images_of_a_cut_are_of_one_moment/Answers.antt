use Rattle.vss_shards.proofs.Lists.{one_moment}
use Rattle.vss_shards.proofs.laws.images_of_a_cut_are_of_one_moment.Goals as goal

pub returns : goal.returns
returns g c = λ j cut p first now point is b. one_moment j cut p first now point is b
