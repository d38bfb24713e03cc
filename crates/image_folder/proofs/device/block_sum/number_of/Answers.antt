use Rattle.std.proofs.Common.{◌*◌, ◌+◌}
use Rattle.std.proofs.lemmas.Simd.{get_or-chunk, length-chunk}
use Rattle.image_folder.proofs.BlockSums.{number_is}
use Rattle.image_folder.specs.KeptSums.{number_at}
use Rattle.image_folder.proofs.device.block_sum.number_of.Goals as goal

pub returns : goal.returns
unfolding number_at
returns c = let from = 4 * c.args.place in let block = c.args.block.now in
    number_is _ (length-chunk from 4 block c.requires) (λ i few. rw (get_or-chunk from 4 block i 0 few) ((c.type_inv.block (from + i)).fits))
