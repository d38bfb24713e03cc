use Rattle.std.proofs.Common.{◌≡◌}
use Rattle.serde_json.specs.View.{members_view}
use Rattle.writer_meta.specs.Document.{unknown_in, is_known, component_members, rows_in, rows_or, rows_seen}
use Rattle.writer_meta.proofs.part_values.PartValues.of.Given as goal

-- what is left adds to what was found, and says which is the first that is unknown
abbrev pub invariant-loop-name : goal.invariant-loop-name
invariant-loop-name l =
    (rows_or (rows_seen l.values) (rows_in (members_view l.name-iterator)) ≡ rows_in (members_view l.members.entries))
    × (unknown_in (is_known component_members) (members_view l.members.entries) ≡ unknown_in (is_known component_members) (members_view l.name-iterator))
