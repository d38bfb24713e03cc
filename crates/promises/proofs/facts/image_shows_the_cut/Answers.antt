use Rattle.vss_model.proofs.OneCut.{image_shown, image_reads, cut_is_at}
use Rattle.promises.proofs.facts.image_shows_the_cut.Goals as goal

pub returns : goal.returns
returns c = record { image = image_shown; reads = image_reads; cut = cut_is_at }
