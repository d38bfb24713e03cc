use denote.Text.{Utf8}
use denote.Shadow.{shadow}
use Rattle.std.proofs.Common.{◌≡◌, ◌++◌, drop}
use Rattle.vss_tools.specs.Refused.{makers, makers_from}
use Rattle.vss_tools.proofs.TextLines.{texts}
use Rattle.vss_tools.proofs.timeline.script.makers_of.Given as goal

-- what is taken and what is still to come
abbrev pub invariant-loop-line : goal.invariant-loop-line
invariant-loop-line l = shadow (Utf8 l.lane) × (texts l.all.items ++ makers_from l.lane (texts (drop l.line-index l.lines)) ≡ makers (texts l.lines))
