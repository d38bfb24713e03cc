use Rattle.std.proofs.Common.{arith}
use Rattle.std.proofs.lemmas.List.Elements.{All-from_get_or}
use Rattle.vss_report.specs.Legible.{IsShort}
use Rattle.vss_report.proofs.short.are_short.Goals as goal

pub returns : goal.returns
returns c = All-from_get_or IsShort c.args.listed.now 0 (λ i h. omega (arith, c.type_inv.listed i))
