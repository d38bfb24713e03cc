use Rattle.std.proofs.Common.{◌≡◌, ◌++◌, take}
use Rattle.std.specs.List.{flat_map}
use Rattle.vss_catalog.specs.Written.{entry_bytes}
use Rattle.vss_catalog.proofs.writing.push_entries.Given as goal

-- the entries so far stand there
abbrev pub invariant-loop-entry : goal.invariant-loop-entry
invariant-loop-entry l = l.text.bytes ≡ l.initial.text.bytes ++ flat_map entry_bytes (take l.entry-index l.entries)
