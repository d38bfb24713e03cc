use Rattle.std.proofs.Common.{ap, ◌∙◌, Err}
use Rattle.vss_world.specs.Words.{RegisterFault, double_of}
use Rattle.vss_world.proofs.Registering.{no_double, registers}
use Rattle.vss_world.proofs.beginning.register.Goals as goal

pub returns-in-Ok : goal.returns-in-Ok
returns-in-Ok c =
    registers c.args.scenario.now c.args.writer c.args.coordinator.now c.register.new.self c.writer_name.result c.in_ok-name.name.bytes c.metadata.result.now c.in_ok-metadata.metadata
    c.requires.before c.writer_name.ensures c.metadata.ensures c.in_ok-metadata.ensures
    (c.in_ok-name.ensures ∙ c.token.ensures) c.in-Ok.ensures.stands c.in-Ok.ensures.writers c.in-Ok.ensures.count c.register.ensures.times c.register.ensures.posts

pub unreachable-requires : goal.unreachable-requires
unreachable-requires c =
    no_double c.args.scenario.now c.args.writer c.args.coordinator.now c.writer_name.result c.in_ok-name.name.bytes c.register.result c.in-Err-Double.field-0-0 c.requires.names c.requires.before
    c.writer_name.ensures (c.in_ok-name.ensures ∙ c.token.ensures)
    c.register.ensures.double (ap double_of (c.in-Err-Double.is ∙ ap (λ (fault : RegisterFault). Err fault) c.in-Err-Double.field-0-is))
