use Rattle.std.proofs.Common.{◌∙◌, ap, ◌++◌, true, false}
use Rattle.std.specs.Prelude.{codes}
use Rattle.vss_play.proofs.NewDevices.{area_named}
use Rattle.vss_play.proofs.devices.area_name.Goals as goal

pub returns-then-names_volume : goal.returns-then-names_volume
returns-then-names_volume c = area_named c.args.scenario.now c.args.group c.group_name-span.result c.names_volume.result true c.add.new.self.bytes
    c.group_name-span.ensures c.names_volume.ensures c.if-names_volume.true
    (c.in_ok-add.ensures.ok ∙ ap (λ xs. xs ++ codes ".area") (c.in_ok-name.ensures ∙ c.token.ensures))

pub returns : goal.returns
returns c = area_named c.args.scenario.now c.args.group c.group_name-span.result c.names_volume.result false c.add-2.new.self.bytes c.group_name-span.ensures
    c.names_volume.ensures c.if-names_volume.false
    (c.in_ok-add-2.ensures.ok ∙ ap (λ xs. xs ++ codes ".shared") (c.in_ok-name.ensures ∙ c.token.ensures))
