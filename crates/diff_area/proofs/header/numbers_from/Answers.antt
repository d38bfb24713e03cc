use Rattle.std.proofs.Common.{ℕ, List, ◌≡◌, ◌+◌, ◌*◌, ◌∙◌, ◌++◌, ◌∷◌, [], ap, sym, arith, map}
use Rattle.std.proofs.lemmas.List.FromFn.{map-range_with_len_more}
use Rattle.std.specs.List.{range_with_len}
use Rattle.diff_area.specs.Format.{number_at}
use Rattle.diff_area.proofs.header.numbers_from.Goals as goal

step : (f : ℕ → ℕ) (v x : ℕ) (old new : List ℕ) → new ≡ old ++ x ∷ [] → old ≡ map f (range_with_len 0 v) → x ≡ f v → new ≡ map f (range_with_len 0 (v + 1))
step f v x old new e i h = e ∙ ap (λ xs. xs ++ x ∷ []) i ∙ ap (λ y. map f (range_with_len 0 v) ++ y ∷ []) h ∙ sym (map-range_with_len_more f 0 v v (omega arith))

pub loop-v-preserved : goal.loop-v-preserved
loop-v-preserved c =
    let len = c.loop-v.invariant.len in
    let more = c.in_ok-push.ensures.len in
    record {
      numbers = step (λ (v : ℕ). number_at c.args.header.now (c.args.from + 4 * v)) c.loop-v.v c.number_at.result c.loop-v.numbers.items c.push.new.self.items c.in_ok-push.ensures.items c.loop-v.invariant.numbers c.number_at.ensures;
      len = omega arith;
    }
