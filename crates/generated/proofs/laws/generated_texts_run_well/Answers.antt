use Rattle.generated.proofs.Ending.{ends_well}
use Rattle.generated.proofs.WholeTexts.{all_generated}
use Rattle.generated.proofs.laws.generated_texts_run_well.Goals as goal

pub returns : goal.returns
returns c = λ plan trail read. ends_well c.args.number plan trail (all_generated c.args.number plan read)
