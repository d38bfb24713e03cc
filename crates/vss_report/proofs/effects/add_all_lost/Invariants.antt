use Rattle.std.proofs.Common.{◌≡◌, ◌+◌, ◌-◌, ◌*◌, ◌≤◌, ◌++◌, Some, filter}
use Rattle.std.specs.List.{flat_map, range_with_len}
use Rattle.set_agenda.specs.WriterSet.{has_bit, writers_of}
use Rattle.vss_report.specs.Words.{lost_text}
use Rattle.vss_report.proofs.effects.add_all_lost.Given as goal

-- what is written and what is still to come, and the room that was taken
abbrev pub invariant-loop-writer : goal.invariant-loop-writer
invariant-loop-writer l =
    (l.out.bytes ++ flat_map (lost_text l.scenario (Some l.order)) (filter (has_bit l.lost) (range_with_len l.writer (64 - l.writer)))
    ≡ l.initial.out.bytes ++ flat_map (lost_text l.scenario (Some l.order)) (writers_of l.lost))
    × (l.initial.out.spare ≤ l.out.spare + 64 * l.writer)
