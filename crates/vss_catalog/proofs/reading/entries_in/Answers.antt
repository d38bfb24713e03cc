use Rattle.std.proofs.Common.{◌≡◌, ◌+◌, ◌-◌, ◌++◌, ◌∷◌, [], ◌∙◌, ℕ, List, length, drop, ap, sym, arith}
use Rattle.std.proofs.lemmas.List.{length-append}
use Rattle.vss_catalog.specs.Entries.{EntryValue}
use Rattle.vss_catalog.specs.Reading.{entry_in, entries_in}
use Rattle.vss_catalog.specs.Written.{size_of}
use Rattle.vss_catalog.proofs.Steps.{entries-start, entries-step, entries-fault, entries-end, entries-more, after, tells-exact, Tells-handed_on}
use Rattle.vss_catalog.proofs.reading.entries_in.Goals as goal

pub loop-v-init : goal.loop-v-init
loop-v-init c = record {
  read = entries-start c.args.count c.args.rest.now c.new-entries.result.items c.new-entries.ensures.items;
  many = ap length c.new-entries.ensures.items;
  near = omega arith;
}

pub returns-in_err-entry-clause-refused : goal.returns-in_err-entry-clause-refused
returns-in_err-entry-clause-refused c =
    let l = c.loop-v in
    let said = rw c.bytes_from.ensures at c.in_err-entry.ensures.refused in
    Tells-handed_on _ _ _ c.from_residual.ensures.1
    (entries-fault c.args.count l.v l.from _ c.args.rest.now l.entries.items _ c.loop-v-test.true l.invariant.read said)

pub loop-v-preserved : goal.loop-v-preserved
loop-v-preserved c =
    let l = c.loop-v in
    let entry = c.in_ok-entry.entry in
    let size : c.size-from.result ≡ size_of entry = c.size-from.ensures.size in
    let most = c.size-from.ensures.most in
    let pushed : c.push.new.self.items ≡ l.entries.items ++ entry ∷ [] = c.in_ok-push.ensures.items in
    let said = ap (entry_in l.v (12 + l.from)) (sym c.bytes_from.ensures) ∙ c.in_ok-entry.ensures.ok in
    let step = entries-step c.args.count l.v l.from entry c.args.rest.now l.entries.items c.loop-v-test.true said in
    record {
      read = l.invariant.read ∙ step
          ∙ ap (λ (n : ℕ). after (l.entries.items ++ entry ∷ []) (entries_in (c.args.count - (l.v + 1)) (l.v + 1) (12 + (l.from + n)) (drop (l.from + n) c.args.rest.now))) (sym size)
          ∙ ap (λ (es : List EntryValue). after es
          (entries_in (c.args.count - (l.v + 1)) (l.v + 1) (12 + (l.from + c.size-from.result)) (drop (l.from + c.size-from.result) c.args.rest.now)))
          (sym pushed);
      many = let n = l.invariant.many in let m = length-append l.entries.items (entry ∷ []) in let e = ap length pushed in omega arith;
      near = let n = l.invariant.near in omega arith;
    }

pub returns-then-from-rest-clause-refused : goal.returns-then-from-rest-clause-refused
returns-then-from-rest-clause-refused c =
    let l = c.loop-v in
    tells-exact _ _ (l.invariant.read ∙ entries-more c.args.count l.v (12 + l.from) l.from c.args.rest.now l.entries.items (omega arith) (omega arith))

pub returns-clause-ok : goal.returns-clause-ok
returns-clause-ok c =
    let l = c.loop-v in
    l.invariant.read ∙ entries-end c.args.count l.v (12 + l.from) l.from c.args.rest.now l.entries.items (omega arith) (omega arith)
