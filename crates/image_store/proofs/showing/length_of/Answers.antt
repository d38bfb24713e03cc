use Rattle.image_store.specs.Showing.{shown_in}
use Rattle.image_store.proofs.Shown.{length_at, no_length_at}
use Rattle.image_store.proofs.showing.length_of.Goals as goal

pub returns-in-Ok-clause-length : goal.returns-in-Ok-clause-length
returns-in-Ok-clause-length g c = λ ps has. length_at (shown_in ps c.args.v c.args.which) _ c.blocks-blocks.result c.in-Ok.length c.read_which.new.piece c.bytes.result.now c.blocks-blocks.ensures
    (c.in_ok-read_which.ensures.read ps has) c.bytes.ensures.bytes c.in-Ok.ensures.ok

pub returns-in-Err-clause-bad : goal.returns-in-Err-clause-bad
returns-in-Err-clause-bad g c = λ ps has. no_length_at (shown_in ps c.args.v c.args.which) _ c.blocks-blocks.result c.in-Err.found c.read_which.new.piece c.bytes.result.now c.blocks-blocks.ensures
    (c.in_ok-read_which.ensures.read ps has) c.bytes.ensures.bytes c.in-Err.ensures.err
