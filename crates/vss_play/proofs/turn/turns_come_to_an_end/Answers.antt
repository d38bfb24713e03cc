use Rattle.vss_model.proofs.TrailLength.{trail_is_short}
use Rattle.vss_play.proofs.turn.turns_come_to_an_end.Goals as goal

pub returns : goal.returns
returns c = record { short = trail_is_short }
