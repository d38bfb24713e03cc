use Rattle.std.proofs.Common.{rules, arith, ◌≡◌, ◌<◌, ◌∙◌, ap, sym, [], ◌∷◌, ◌++◌, length, replicate, Vec}
use Rattle.std.specs.Global.{Global}
use Rattle.std.proofs.lemmas.List.{length-map, nil_from_length}
use Rattle.vss_play.specs.Made.{groups_of_devices}
use Rattle.vss_play.proofs.Sorting.{none_sorted, one_sorted, all_sorted, own_list, new_lists, next_at}
use Rattle.vss_play.proofs.Opening.{few_devices}
use Rattle.vss_play.proofs.groups.sort_devices.Goals as goal

pub loop-device-init : goal.loop-device-init
loop-device-init g c =
    let same : c.into_iter-device-iterator.result.rest.items ≡ c.args.devices.items = search rules in
    none_sorted (groups_of_devices c.args.scenario.now) c.args.devices.items _ _ _ same (c.in_ok-sorted.ensures ∙ ap (λ n. replicate n []) c.groups.ensures)

pub overflow_add-place : goal.overflow_add-place
overflow_add-place g c =
    let next = next_at c.args.devices.items c.loop-device.place c.in-Some.device c.next.new.self.rest.items (sym c.loop-device.invariant.rest_is ∙ c.in-Some.ensures.steps.0) in
    let inside = next.within in let many = c.requires in let few = few_devices c.args.scenario.now c.volumes-facts.ensures.plan in omega arith

pub loop-device-preserved : goal.loop-device-preserved
loop-device-preserved g c =
    let room : c.group_of-group.result < length
    c.loop-device.sorted.items = (let long = length-map c.loop-device.sorted.items (λ (v : Vec g.row.D.Denot Global). v.items)
    in let many = c.loop-device.invariant.many in let inside = c.group_of-group.ensures.in_range in omega arith) in
    let pushed : c.push.new.self.items ≡ c.index_mut.result.now.items ++ c.in-Some.device ∷ [] = search rules in
    one_sorted (groups_of_devices c.args.scenario.now) c.args.devices.items c.loop-device.place c.loop-device.device-iterator.rest.items
    c.next.new.self.rest.items _ _ _ c.in-Some.device c.group_of-group.result c.index_mut.result.now.items
    c.loop-device.invariant c.in-Some.ensures.steps.0 c.group_of-group.ensures.groups
    (own_list (λ (v : Vec g.row.D.Denot Global). v.items) c.loop-device.sorted.items c.group_of-group.result c.index_mut.result.now room
    c.index_mut.ensures.value)
    (new_lists (λ (v : Vec g.row.D.Denot Global). v.items) c.loop-device.sorted.items c.group_of-group.result c.push.new.self (c.index_mut.result.now.items ++ c.in-Some.device ∷ []) pushed)

pub returns-clause-each : goal.returns-clause-each
returns-clause-each g c =
    all_sorted (groups_of_devices c.args.scenario.now) c.args.devices.items c.loop-device.place c.loop-device.device-iterator.rest.items _ _
    c.loop-device.invariant (nil_from_length _ (sym c.loop-device.device-iterator.rest.ok.0 ∙ c.in-None.ensures.steps.0))
