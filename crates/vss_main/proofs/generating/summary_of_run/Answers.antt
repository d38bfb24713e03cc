use Rattle.std.proofs.Common.{◌∙◌, ap, length}
use Rattle.vss_main.proofs.Ran.{given-closed}
use Rattle.vss_main.proofs.Summed.{eight_volumes, whole-digested, summed-of, none_counted, fault-of}
use Rattle.vss_main.proofs.generating.summary_of_run.Goals as goal

pub digests_of-requires-clause-eight : goal.digests_of-requires-clause-eight
digests_of-requires-clause-eight g c = λ κs outlive. ap (λ s. length s.volumes) (c.in-Ok.ensures.played.onward.plan ∙ c.in_ok-play.ensures.fresh.plan)
    ∙ eight_volumes c.args.number c.args.scenario c.requires.of_number.generated

pub returns-in-Ok-summary_of-clause-summed : goal.returns-in-Ok-summary_of-clause-summed
returns-in-Ok-summary_of-clause-summed g c = summed-of
    (whole-digested c.in_ok-play.ensures.fresh (c.digests_of.ensures.named ∙ c.in_ok-play.ensures.named) c.in_ok-play.ensures.unfailed c.in-Ok.ensures.threads c.in_ok-play.ensures.places
    c.in_ok-play.ensures.kept c.in_ok-digests.ensures.digested) c.args.number c.in_ok-digests.digests c.in-Ok-summary_of.text.bytes c.requires.of_number c.in_ok-digests.ensures.digested.ends
    c.in-Ok-summary_of.ensures

pub returns-in-Err-clause-counted : goal.returns-in-Err-clause-counted
returns-in-Err-clause-counted g c = λ e. none_counted
    (whole-digested c.in_ok-play.ensures.fresh (c.digests_of.ensures.named ∙ c.in_ok-play.ensures.named) c.in_ok-play.ensures.unfailed c.in-Ok.ensures.threads c.in_ok-play.ensures.places
    c.in_ok-play.ensures.kept c.in_ok-digests.ensures.digested) c.in_ok-digests.digests c.in_ok-digests.ensures.digested.ends

pub returns-in_err-digests-clause-given_back : goal.returns-in_err-digests-clause-given_back
returns-in_err-digests-clause-given_back g c = λ e. given-closed
    (whole-digested c.in_ok-play.ensures.fresh (c.digests_of.ensures.named ∙ c.in_ok-play.ensures.named) c.in_ok-play.ensures.unfailed c.in-Ok.ensures.threads c.in_ok-play.ensures.places
    c.in_ok-play.ensures.kept c.digests_of.ensures.digested)

pub returns-in_err-digests-clause-rose : goal.returns-in_err-digests-clause-rose
returns-in_err-digests-clause-rose g c = λ e. fault-of
    (whole-digested c.in_ok-play.ensures.fresh (c.digests_of.ensures.named ∙ c.in_ok-play.ensures.named) c.in_ok-play.ensures.unfailed c.in-Ok.ensures.threads c.in_ok-play.ensures.places
    c.in_ok-play.ensures.kept c.digests_of.ensures.digested) c.digests_of.result _ c.digests_of.ensures.digested.ends c.in_err-digests.was
