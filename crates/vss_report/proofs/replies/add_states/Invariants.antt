use Rattle.std.proofs.Common.{◌≡◌, ◌+◌, ◌*◌, ◌≤◌, ◌++◌, drop}
use Rattle.vss_report.specs.Words.{states_text}
use Rattle.vss_report.proofs.replies.add_states.Given as goal

-- what is written and what is still to come, and the room that was taken
abbrev pub invariant-loop-writer : goal.invariant-loop-writer
invariant-loop-writer l =
    (l.out.bytes ++ states_text l.scenario (drop l.writer l.scenario.writers) (drop l.writer l.rows)
    ≡ l.initial.out.bytes ++ states_text l.scenario l.scenario.writers l.rows)
    × (l.initial.out.spare ≤ l.out.spare + 79 * l.writer)
