use Rattle.std.proofs.Common.{◌≡◌, ℕ, List, length, All, replicate, subst, sym, rules}
use Rattle.std.proofs.lemmas.List.Elements.{All-replicate}
use Rattle.block_data.specs.BlockBytes.{zeros}
use Rattle.block_data.specs.declared.block_buf.TheConstants.{BLOCK}
use Rattle.block_data.proofs.RunsOfBytes.{length_zeros}
use Rattle.volume_device.proofs.mem_device.zero_blocks.Goals as goal

-- each block of zeros has the length of a block
pub returns-clause-whole : goal.returns-clause-whole
returns-clause-whole c =
    let IsBlock : List ℕ → Type 0 = λ block. length block ≡ BLOCK in
    let zero : c.loop-index.blocks.items ≡ replicate c.args.count zeros = search rules in
    let AreWhole : List (List ℕ) → Type 0 = λ blocks. All IsBlock blocks in
    subst AreWhole (sym zero) (All-replicate IsBlock c.args.count zeros length_zeros)
