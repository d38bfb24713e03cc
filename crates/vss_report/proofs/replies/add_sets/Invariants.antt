use Rattle.std.proofs.Common.{◌≡◌, ◌+◌, ◌*◌, ◌≤◌, ◌++◌, drop}
use Rattle.vss_report.specs.Words.{sets_text}
use Rattle.vss_report.proofs.replies.add_sets.Given as goal

-- what is written and what is still to come, and the room that was taken
abbrev pub invariant-loop-set : goal.invariant-loop-set
invariant-loop-set l =
    (l.out.bytes ++ sets_text (drop l.set-index l.listed) ≡ l.initial.out.bytes ++ sets_text l.listed)
    × (l.initial.out.spare ≤ l.out.spare + 21 * l.set-index)
