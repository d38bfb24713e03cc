use Rattle.std.proofs.Common.{◌≡◌, ◌<◌, ◌∷◌, List, ℕ, cond, length, vec_len, vec_capacity, ap, sym, ◌∙◌, subst, rules}
use Rattle.std.specs.List.{insert}
use Rattle.std.specs.List.Sorted.{IsPermutation}
use Rattle.std.proofs.lemmas.List.Sorted.{IsPermutation-insert, IsPermutation-remove, IsPermutation-trans}
use Rattle.vss_play.proofs.line.put_before.Goals as goal

pub returns-clause-all : goal.returns-clause-all
returns-clause-all c =
    let before = c.args.line.now.items in
    let rest = c.remove-one.new.self.items in
    let one = c.remove-one.result in
    let there : c.args.at < length before = search rules in
    let fits : vec_len c.remove-one.new.self < vec_capacity c.remove-one.new.self = search rules in
    let is : c.insert.new.self.items ≡ insert rest c.args.place one =
    c.insert.ensures.items ∙ ap (λ b. cond b (insert rest c.args.place one) rest) (c.insert.ensures.succeeds fits) in
    let gone : IsPermutation before (one ∷ rest) =
    subst (λ (xs : List ℕ). IsPermutation before (one ∷ xs)) (sym c.remove-one.ensures.items) (IsPermutation-remove before c.args.at one there c.remove-one.ensures.value) in
    subst (λ (xs : List ℕ). IsPermutation before xs) (sym is) (IsPermutation-trans _ _ _ gone (IsPermutation-insert rest c.args.place one))
