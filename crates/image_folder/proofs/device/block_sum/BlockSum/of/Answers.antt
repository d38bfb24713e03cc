use Rattle.std.proofs.Common.{arith, ◌≡◌, ◌∙◌, ◌+◌, ap, sym}
use Rattle.image_folder.proofs.BlockSums.{first_next, first_none, is_sum, second_next, second_none}
use Rattle.image_folder.specs.KeptSums.{first_to, second_to}
use Rattle.image_folder.proofs.device.block_sum.BlockSum.of.Goals as goal

pub loop-place-init : goal.loop-place-init
loop-place-init c = record { first = sym (first_none _); second = sym (second_none _); first_fits = omega arith; second_fits = omega arith }

pub loop-place-preserved : goal.loop-place-preserved
loop-place-preserved c = let n = c.loop-place.place in let block = c.args.block.now in let so_far = c.loop-place.invariant in
    let number = c.from-first.ensures ∙ c.number_of.ensures in
    let first : c.loop-place.first + c.from-first.result ≡ first_to (n + 1) block = omega (arith, so_far.first, number, first_next n block) in
    record {
      first = first;
      second = omega (arith, so_far.second, first, second_next n block);
      first_fits = omega (arith, so_far.first_fits, c.from-first.ensures, c.number_of.type_inv);
      second_fits = omega (arith, so_far.first_fits, so_far.second_fits, c.from-first.ensures, c.number_of.type_inv, c.loop-place-test.true);
    }

pub returns : goal.returns
returns c = let all : c.loop-place.place ≡ 4096 = omega (arith, c.loop-place-test.false, c.loop-place.auto.place-end) in
    let so_far = c.loop-place.invariant in
    is_sum _ _ c.args.block.now (so_far.first ∙ ap (λ n. first_to n c.args.block.now) all) (so_far.second ∙ ap (λ n. second_to n c.args.block.now) all)
