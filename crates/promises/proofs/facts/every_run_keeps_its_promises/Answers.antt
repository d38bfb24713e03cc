use Rattle.vss_model.proofs.Headline.{reads_as_at_cut, leaves_nothing, frozen_for_set, keeps_set}
use Rattle.vss_model.proofs.Volumes.{held_for_set}
use Rattle.promises.proofs.facts.every_run_keeps_its_promises.Goals as goal

pub returns : goal.returns
returns c = record { images = reads_as_at_cut; failed = leaves_nothing; held = held_for_set; frozen = frozen_for_set; set = keeps_set }
