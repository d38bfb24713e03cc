use Rattle.std.proofs.Common.{◌∙◌, sym, arith}
use Rattle.provider.proofs.Joining.{full, covered, joins}
use Rattle.provider.proofs.preparing.refusal.Goals as goal

pub returns-then-volumes-ge-MOST_VOLUMES_OF_A_SET : goal.returns-then-volumes-ge-MOST_VOLUMES_OF_A_SET
returns-then-volumes-ge-MOST_VOLUMES_OF_A_SET c = full c.args.volume c.args.volumes.now c.args.images (sym c.contains.ensures.value ∙ c.if-contains.false) (omega arith)

pub returns-then-images-ge-MOST_IMAGES : goal.returns-then-images-ge-MOST_IMAGES
returns-then-images-ge-MOST_IMAGES c = covered c.args.volume c.args.volumes.now c.args.images (sym c.contains.ensures.value ∙ c.if-contains.false) (omega arith) (omega arith)

pub returns : goal.returns
returns c = joins c.args.volume c.args.volumes.now c.args.images (sym c.contains.ensures.value ∙ c.if-contains.false) (omega arith) (omega arith)
