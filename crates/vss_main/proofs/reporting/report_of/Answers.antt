use Rattle.std.proofs.Common.{◌∙◌}
use Rattle.vss_main.proofs.Ran.{whole-ended, ran-if, counted-of, given-closed}
use Rattle.vss_play.proofs.FaultMarks.{fault-of}
use Rattle.vss_main.proofs.reporting.report_of.Goals as goal

pub returns-clause-ran : goal.returns-clause-ran
returns-clause-ran g c = ran-if
    (whole-ended c.in_ok-play.ensures.fresh (c.finish.ensures.named ∙ c.in_ok-play.ensures.named) c.in_ok-play.ensures.unfailed c.in-Ok.ensures.threads c.in_ok-play.ensures.places
    c.in_ok-play.ensures.kept c.finish.ensures.ended) c.finish.result c.volumes-facts.ensures.names c.finish.ensures.ended.ends

pub returns-clause-counted : goal.returns-clause-counted
returns-clause-counted g c = counted-of
    (whole-ended c.in_ok-play.ensures.fresh (c.finish.ensures.named ∙ c.in_ok-play.ensures.named) c.in_ok-play.ensures.unfailed c.in-Ok.ensures.threads c.in_ok-play.ensures.places
    c.in_ok-play.ensures.kept c.finish.ensures.ended) c.finish.result c.finish.ensures.ended.ends

pub returns-clause-given_back : goal.returns-clause-given_back
returns-clause-given_back g c = λ e. given-closed
    (whole-ended c.in_ok-play.ensures.fresh (c.finish.ensures.named ∙ c.in_ok-play.ensures.named) c.in_ok-play.ensures.unfailed c.in-Ok.ensures.threads c.in_ok-play.ensures.places
    c.in_ok-play.ensures.kept c.finish.ensures.ended)

pub returns-clause-rose : goal.returns-clause-rose
returns-clause-rose g c = λ e. fault-of g.M.Made.Device c.in-Ok.played _ _ _ _ _ _ c.finish.result c.new.ensures.later c.finish.ensures.ended e
