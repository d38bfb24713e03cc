use Rattle.vss_main.proofs.Summed.{short_as, of_number, not_refused}
use Rattle.vss_main.proofs.generating.scenario_of.Goals as goal

pub parse_text-requires : goal.parse_text-requires
parse_text-requires c = short_as c.args.number c.in_ok-text.text.bytes c.in_ok-text.ensures c.generated_texts_are_read.ensures.short

pub returns-in-Ok : goal.returns-in-Ok
returns-in-Ok c = of_number c.args.number c.in_ok-text.text.bytes c.in-Ok.scenario c.in_ok-text.ensures c.in-Ok.ensures.read c.generated_texts_are_read.ensures.generated

pub unreachable-requires : goal.unreachable-requires
unreachable-requires c = not_refused c.args.number c.in_ok-text.text.bytes c.in-Err-Line.field-0 _ _
    c.in_ok-text.ensures c.generated_texts_are_read.ensures.read c.in-Err-Line.ensures.refused c.in-Err-Line.field-0-is
