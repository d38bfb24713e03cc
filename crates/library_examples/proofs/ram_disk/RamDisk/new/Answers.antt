use Rattle.std.proofs.Common.{◌≡◌, ◌<◌, ℕ, List, length, All, replicate, subst, sym, ap, rules, ◌∙◌}
use Rattle.std.proofs.lemmas.List.{length-replicate}
use Rattle.std.proofs.lemmas.List.Elements.{All-replicate}
use Rattle.block_data.specs.BlockBytes.{zeros}
use Rattle.block_data.specs.declared.block_buf.TheConstants.{BLOCK}
use Rattle.block_data.proofs.RunsOfBytes.{length_zeros}
use Rattle.library_examples.proofs.ram_disk.RamDisk.new.Goals as goal

-- each block of zeros has the length of a block
pub invariant_of-result : goal.invariant_of-result
invariant_of-result c =
    let IsBlock : List ℕ → Type 0 = λ block. length block ≡ BLOCK in
    let zero : c.loop-index.blocks.items ≡ replicate c.args.count zeros = search rules in
    let AreWhole : List (List ℕ) → Type 0 = λ blocks. All IsBlock blocks in
    let many : length c.loop-index.blocks.items ≡ c.args.count = ap length zero ∙ length-replicate c.args.count zeros in
    record {
      whole = subst AreWhole (sym zero) (All-replicate IsBlock c.args.count zeros length_zeros);
      in_range = subst (λ n. n < 4294967296) (sym many) (search rules);
    }
