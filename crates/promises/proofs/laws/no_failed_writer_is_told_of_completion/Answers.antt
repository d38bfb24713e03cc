use Rattle.promises.proofs.Asked.{completes_unfailed}
use Rattle.promises.proofs.laws.no_failed_writer_is_told_of_completion.Goals as goal

pub returns : goal.returns
returns c = completes_unfailed
