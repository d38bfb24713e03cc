use Rattle.std.proofs.Common.{◌≡◌, ◌∙◌, arith, subst, map}
use Rattle.generated.proofs.Terms.{concat, range_with_len, HasTaken, final_bytes, final_blocks, final_digest}
use Rattle.generated.proofs.Ranges.{more_blocks}
use Rattle.generated.proofs.final_contents.final_digest.Goals as goal

pub loop-block-preserved : goal.loop-block-preserved
loop-block-preserved c = record {
  taken = subst (HasTaken c.add.new.self) (more_blocks (final_bytes c.args.number c.args.volume) c.loop-block.block c.fill_final.new.out c.fill_final.ensures)
      (c.add.ensures (concat (map (final_bytes c.args.number c.args.volume) (range_with_len 0 c.loop-block.block))) c.loop-block.invariant.taken);
  size = c.fill_final.auto.out ∙ c.loop-block.invariant.size;
}

pub returns-clause-digest : goal.returns-clause-digest
unfolding final_digest final_blocks
returns-clause-digest c =
    let all : c.loop-block.block ≡ 256 = omega (arith, c.loop-block-test.false, c.loop-block.auto.block-end) in
    c.finish.ensures.digest (concat (map (final_bytes c.args.number c.args.volume) (range_with_len 0 256)))
    (subst (λ k. HasTaken c.loop-block.hasher (concat (map (final_bytes c.args.number c.args.volume) (range_with_len 0 k)))) all c.loop-block.invariant.taken)
