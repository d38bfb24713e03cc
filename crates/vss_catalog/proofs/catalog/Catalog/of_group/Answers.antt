use Rattle.std.proofs.Common.{ℕ, ◌≡◌, ◌++◌, ◌∷◌, [], ◌∙◌, length, map, ap, sym, subst, arith}
use Rattle.std.specs.List.{range_with_len}
use Rattle.std.proofs.lemmas.List.{length-append}
use Rattle.vss_catalog.specs.Entries.{IsCatalog, entries_of, entry_at}
use Rattle.vss_catalog.proofs.Groups.{as_many, each_name, entries-next, is_entry, catalog_allowed}
use Rattle.vss_catalog.proofs.catalog.Catalog.of_group.Goals as goal

pub name_at-name-requires-clause-names : goal.name_at-name-requires-clause-names
name_at-name-requires-clause-names g c = each_name c.args.group.now c.args.names.now c.requires

pub name_at-name-requires-clause-within : goal.name_at-name-requires-clause-within
name_at-name-requires-clause-within g c =
    let many = as_many c.args.group.now c.args.names.now c.requires in
    let test = c.loop-v-test.true in
    let all = c.volumes-v-end.ensures.volumes in
    omega arith

pub loop-v-preserved : goal.loop-v-preserved
loop-v-preserved g c =
    let l = c.loop-v in
    let entry = c.in_ok-entry.entry in
    let pushed : c.push.new.self.items ≡ l.entries.items ++ entry ∷ [] = c.in_ok-push.ensures.items in
    let is = is_entry c.args.group.now c.args.names.now l.v entry c.name_at-name.result.now c.blocks-in-loop-v.result c.in_ok-sets.sets c.in_ok-entry.ensures
    c.name_at-name.ensures.bytes c.blocks-in-loop-v.ensures (c.in_ok-sets.ensures ∙ c.images.ensures.images) in
    record {
      entries = entries-next c.args.group.now c.args.names.now l.v entry l.entries.items c.push.new.self.items pushed l.invariant.entries is;
      many = let n = l.invariant.many in let m = length-append l.entries.items (entry ∷ []) in let e = ap length pushed in omega arith;
    }

pub returns-clause-allowed : goal.returns-clause-allowed
returns-clause-allowed g c =
    let group = c.args.group.now in
    let names = c.args.names.now in
    let facts = c.volumes-v-end.ensures in
    let test = c.loop-v-test.false in
    let upper = c.loop-v.auto.v-end in
    let end = c.volumes-v-end.ensures.volumes in
    let all : c.loop-v.v ≡ length group.area.volumes = omega arith in
    let entries : c.loop-v.entries.items ≡ entries_of group names = c.loop-v.invariant.entries ∙ ap (λ (n : ℕ). map (entry_at group names) (range_with_len 0 n)) all in
    subst IsCatalog (sym entries) (catalog_allowed group names c.requires facts.allowed facts.images facts.rise)
