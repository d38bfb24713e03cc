use Rattle.std.proofs.Common.{◌≡◌, ◌+◌, ◌<◌, ◌++◌, ◌∷◌, [], List, ℕ, cond, length, vec_len, vec_capacity, option_to_list, ap, sym, ◌∙◌, subst, rules, arith}
use Rattle.std.specs.List.Sorted.{IsPermutation}
use Rattle.std.proofs.lemmas.List.{append_assoc, length-append}
use Rattle.std.proofs.lemmas.List.Sorted.{IsPermutation-refl}
use Rattle.vss_play.proofs.line.Line.rest.Goals as goal

pub returns-clause-all : goal.returns-clause-all
returns-clause-all c room =
    let before = c.args.self.now.resting.items in
    let one = c.args.actor ∷ [] in
    let first = option_to_list c.pass-next.result in
    let rest = c.pass-next.new.self.resting.items in
    let a : length before ≡ vec_len c.args.self.now.resting = search rules in
    let b : length rest ≡ vec_len c.pass-next.new.self.resting = search rules in
    let e : length before ≡ length first + length rest = ap (λ xs. length xs) c.pass-next.ensures.next ∙ length-append first rest in
    let f = c.pass-next.ensures.space in
    let fits : vec_len c.pass-next.new.self.resting < vec_capacity c.pass-next.new.self.resting = omega arith in
    let pushed : c.push.new.self.items ≡ rest ++ one =
    c.push.ensures.items ∙ ap (λ b. cond b (rest ++ one) rest) (c.push.ensures.succeeds fits) in
    let is : before ++ one ≡ first ++ c.push.new.self.items =
    ap (λ xs. xs ++ one) c.pass-next.ensures.next ∙ append_assoc first rest one ∙ ap (λ xs. first ++ xs) (sym pushed) in
    subst (λ (xs : List ℕ). IsPermutation (before ++ one) xs) is (IsPermutation-refl (before ++ one))
