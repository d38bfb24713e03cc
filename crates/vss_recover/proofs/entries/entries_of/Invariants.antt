use Rattle.std.proofs.Common.{◌≡◌, take}
use Rattle.std.specs.Prelude.{◌==◌, count_by}
use Rattle.diff_map.specs.declared.entry.Entry.{Entry}
use Rattle.vss_recover.proofs.entries.entries_of.Given as goal

-- those of the entries so far are counted
abbrev pub invariant-loop-entry : goal.invariant-loop-entry
invariant-loop-entry l = l.used ≡ count_by (λ (e : Entry). e.set == l.set) (take l.entry-index l.entries)
