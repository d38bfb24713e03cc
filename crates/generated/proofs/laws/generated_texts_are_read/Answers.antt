use Rattle.generated.proofs.WholeTexts.{text_read, all_generated}
use Rattle.generated.proofs.WriteLines.{text_short}
use Rattle.generated.proofs.laws.generated_texts_are_read.Goals as goal

pub returns-clause-read : goal.returns-clause-read
returns-clause-read c = text_read c.args.number

pub returns-clause-generated : goal.returns-clause-generated
returns-clause-generated c = all_generated c.args.number

pub returns-clause-short : goal.returns-clause-short
returns-clause-short c = text_short c.args.number
