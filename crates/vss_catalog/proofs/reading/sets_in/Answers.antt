use Rattle.std.proofs.Common.{◌≡◌, ◌+◌, ◌-◌, ◌*◌, ◌++◌, ◌∷◌, [], ◌∙◌, ℕ, List, Ok, length, drop, ap, sym, arith}
use Rattle.std.proofs.lemmas.List.{length-append}
use Rattle.vss_catalog.specs.Reading.{set_in, sets_in}
use Rattle.vss_catalog.proofs.Steps.{sets-start, sets-step, sets-fault, sets-end, after, tells-exact, Tells-handed_on}
use Rattle.vss_catalog.proofs.reading.sets_in.Goals as goal

pub loop-k-init : goal.loop-k-init
loop-k-init c = record {
  read = sets-start c.args.v c.args.count c.args.at c.args.rest.now c.new-sets.result.items c.new-sets.ensures.items;
  many = ap length c.new-sets.ensures.items;
}

pub returns-in_err-set-clause-refused : goal.returns-in_err-set-clause-refused
returns-in_err-set-clause-refused c =
    let l = c.loop-k in
    let said = ap (set_in c.args.v l.last (c.args.at + 4 * l.k)) (sym c.bytes_from.ensures) ∙ c.in_err-set.ensures.refused in
    Tells-handed_on _ _ _ c.from_residual.ensures.1
    (tells-exact _ _ (l.invariant.read ∙ sets-fault c.args.v c.args.count l.k l.last c.args.at _ c.args.rest.now l.sets.items c.loop-k-test.true said))

pub loop-k-preserved : goal.loop-k-preserved
loop-k-preserved c =
    let l = c.loop-k in
    let set = c.in_ok-set.set in
    let pushed : c.push.new.self.items ≡ l.sets.items ++ set ∷ [] = c.in_ok-push.ensures.items in
    let said = ap (set_in c.args.v l.last (c.args.at + 4 * l.k)) (sym c.bytes_from.ensures) ∙ c.in_ok-set.ensures.ok in
    let left = sets_in c.args.v (c.args.count - (l.k + 1)) set (c.args.at + 4 * (l.k + 1)) (drop (4 * (l.k + 1)) c.args.rest.now) in
    record {
      read = l.invariant.read ∙ sets-step c.args.v c.args.count l.k l.last c.args.at set c.args.rest.now l.sets.items c.loop-k-test.true said ∙ ap (λ (xs : List ℕ). after xs left) (sym pushed);
      many = let n = l.invariant.many in let m = length-append l.sets.items (set ∷ []) in let e = ap length pushed in omega arith;
    }

pub returns-clause-ok : goal.returns-clause-ok
returns-clause-ok c =
    let l = c.loop-k in
    l.invariant.read ∙ sets-end c.args.v c.args.count l.k l.last (c.args.at + 4 * l.k) (drop (4 * l.k) c.args.rest.now) l.sets.items (omega arith) ∙ ap Ok (sym c.of.ensures)
