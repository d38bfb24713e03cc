use Rattle.std.proofs.Common.{◌≡◌, true, ◌≤◌, ◌-◌, ◌+◌, length}
use Rattle.scenario.specs.Lines.{lines_at}
use Rattle.scenario.specs.Drafts.{IsDraft}
use Rattle.scenario.specs.Grammar.{reading_of, read_from, takes_from, takes_memory}
use Rattle.scenario.proofs.parsing.read.Given as goal

-- the lines that are left go on with what was said so far
abbrev pub invariant-lines : goal.invariant-lines
invariant-lines l =
    (reading_of l.text ≡ read_from l.text l.number l.draft.said (lines_at l.text l.at))
    × (takes_from l.text l.number l.draft.said (lines_at l.text l.at) ≡ true → takes_memory l.text ≡ true) × IsDraft l.text l.draft × (l.number ≤ l.at + 1) × (l.at ≤ length l.text + 1)

abbrev pub decreases-lines : goal.decreases-lines
decreases-lines l = length l.text - l.at
