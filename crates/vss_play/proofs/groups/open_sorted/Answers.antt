use Rattle.std.proofs.Common.{rules, arith, ◌≡◌, ◌∙◌, ◌∷◌, ◌++◌, sym, [], Vec}
use Rattle.std.specs.Prelude.{map}
use Rattle.std.specs.Global.{Global}
use Rattle.std.proofs.lemmas.List.{length-map, nil_from_length}
use Rattle.vss_play.proofs.Sorting.{mapped, mapped_none}
use Rattle.vss_play.proofs.Opening.{none_opened, one_opened, all_opened, opening_next, few_devices}
use Rattle.vss_play.proofs.groups.open_sorted.Goals as goal

pub loop-list-init : goal.loop-list-init
loop-list-init g c =
    let same : map (λ (v : Vec g.row.D.Denot Global). v.items) c.into_iter-list-iterator.result.rest.items ≡ map (λ (v : Vec g.row.D.Denot Global). v.items) c.args.sorted.items = search rules in
    none_opened g.D.Device.told c.args.scenario.now _ _ _ same (search rules)

pub open_group-requires-clause-group : goal.open_group-requires-clause-group
open_group-requires-clause-group g c =
    let next = opening_next g.D.Device.told c.args.scenario.now c.loop-list.group _ _ _ _ _ c.loop-list.invariant
    (mapped (λ (v : Vec g.row.D.Denot Global). v.items) _ _ _ c.in-Some.ensures.steps.0) in
    let inside = next.within in let many = c.requires.many in let long = length-map c.args.sorted.items (λ (v : Vec g.row.D.Denot Global). v.items) in omega arith

pub open_group-requires-clause-sizes : goal.open_group-requires-clause-sizes
open_group-requires-clause-sizes g c =
    c.requires.sizes c.loop-list.group _
    (opening_next g.D.Device.told c.args.scenario.now c.loop-list.group _ _ _ _ _ c.loop-list.invariant
    (mapped (λ (v : Vec g.row.D.Denot Global). v.items) _ _ _ c.in-Some.ensures.steps.0)).at

pub open_group-requires-clause-zeros : goal.open_group-requires-clause-zeros
open_group-requires-clause-zeros g c =
    c.requires.zeros c.loop-list.group _
    (opening_next g.D.Device.told c.args.scenario.now c.loop-list.group _ _ _ _ _ c.loop-list.invariant
    (mapped (λ (v : Vec g.row.D.Denot Global). v.items) _ _ _ c.in-Some.ensures.steps.0)).at

pub overflow_add-group : goal.overflow_add-group
overflow_add-group g c =
    let next = opening_next g.D.Device.told c.args.scenario.now c.loop-list.group _ _ _ _ _ c.loop-list.invariant
    (mapped (λ (v : Vec g.row.D.Denot Global). v.items) _ _ _ c.in-Some.ensures.steps.0) in
    let inside = next.within in let many = c.requires.many in let long = length-map c.args.sorted.items (λ (v : Vec g.row.D.Denot Global). v.items)
    in let few = few_devices c.args.scenario.now c.volumes-facts.ensures.plan in omega arith

pub loop-list-preserved : goal.loop-list-preserved
loop-list-preserved g c =
    let more : c.push.new.self.items ≡ c.loop-list.groups.items ++ c.in_ok-opened.opened ∷ [] = search rules in
    one_opened g.D.Device.told c.args.scenario.now c.loop-list.group _ _ _ _ _ _ c.in_ok-opened.opened
    (length-map c.args.sorted.items (λ (v : Vec g.row.D.Denot Global). v.items) ∙ c.requires.many) c.loop-list.invariant
    (mapped (λ (v : Vec g.row.D.Denot Global). v.items) _ _ _ c.in-Some.ensures.steps.0) c.in_ok-opened.ensures more

pub returns : goal.returns
returns g c =
    all_opened g.D.Device.told c.args.scenario.now c.loop-list.group _ _ _
    (length-map c.args.sorted.items (λ (v : Vec g.row.D.Denot Global). v.items) ∙ c.requires.many) c.loop-list.invariant
    (mapped_none (λ (v : Vec g.row.D.Denot Global). v.items) _ (nil_from_length _ (sym c.loop-list.list-iterator.rest.ok.0 ∙ c.in-None.ensures.steps.0)))
