use Rattle.std.proofs.Common.{◌≡◌, ◌++◌, drop}
use Rattle.vss_tools.specs.Refused.{declarations}
use Rattle.vss_tools.proofs.TextLines.{texts}
use Rattle.vss_tools.proofs.timeline.script.declarations_of.Given as goal

-- what is taken and what is still to come
abbrev pub invariant-loop-line : goal.invariant-loop-line
invariant-loop-line l = texts l.all.items ++ declarations (texts (drop l.line-index l.lines)) ≡ declarations (texts l.lines)
