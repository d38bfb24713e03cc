use Rattle.generated.proofs.Ending.{ends_in_blocks}
use Rattle.generated.proofs.laws.generated_runs_end_in_their_contents.Goals as goal

pub returns : goal.returns
returns c = ends_in_blocks
