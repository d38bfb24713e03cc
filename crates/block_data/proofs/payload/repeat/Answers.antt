use Rattle.std.proofs.Common.{◌≡◌, ◌≤◌, ◌++◌, length, take, drop, arith, ap, sym, ◌∙◌, length-append, length-drop}
use Rattle.std.proofs.lemmas.List.{length-take-le}
use Rattle.block_data.proofs.RunsOfBytes.{one_word, more_words}
use Rattle.block_data.proofs.payload.repeat.Goals as goal

pub loop-done-init : goal.loop-done-init
loop-done-init c =
    let long : 8 ≤ length c.args.out.now = omega arith in
    let whole : length c.args.word ≡ 8 = ap length (sym c.copy_from_slice.ensures.after) ∙ c.copy_from_slice.ensures.len ∙ length-take-le 8 c.args.out.now long in
    record {
      some = omega arith;
      within = omega (arith, length-append c.copy_from_slice.new.self (drop 8 c.args.out.now), length-drop 8 c.args.out.now);
      written = ap (λ xs. take 8 (xs ++ drop 8 c.args.out.now)) c.copy_from_slice.ensures.after ∙ one_word c.args.word (drop 8 c.args.out.now) whole;
    }

pub loop-done-preserved : goal.loop-done-preserved
loop-done-preserved c =
    let long : 8 ≤ length c.args.out.now = omega arith in
    let whole : length c.args.word ≡ 8 = ap length (sym c.copy_from_slice.ensures.after) ∙ c.copy_from_slice.ensures.len ∙ length-take-le 8 c.args.out.now long in
    record {
      some = omega arith;
      within = omega (arith, c.min-more.ensures);
      written = more_words c.loop-done.done c.min-more.result c.args.word c.loop-done.out c.copy_front.new.out whole (omega (arith, c.min-more.ensures)) c.loop-done.invariant.written c.copy_front.ensures;
    }
