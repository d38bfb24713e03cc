use Rattle.std.proofs.Common.{◌∙◌}
use Rattle.vss_main.proofs.parts.parts_of.Goals as goal

pub returns-in-Ok-clause-first : goal.returns-in-Ok-clause-first
returns-in-Ok-clause-first c = c.get_str.ensures ∙ c.in-Ok.ensures.first

pub returns-in-Ok-clause-second : goal.returns-in-Ok-clause-second
returns-in-Ok-clause-second c = c.get_str-in-Ok.ensures ∙ c.in-Ok.ensures.second

pub returns-in-Ok-clause-third : goal.returns-in-Ok-clause-third
returns-in-Ok-clause-third c = c.get_str-in-Ok-2.ensures ∙ c.in-Ok.ensures.third
