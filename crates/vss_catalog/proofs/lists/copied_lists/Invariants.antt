-- The lists of the entries so far.
use Rattle.std.proofs.Common.{◌≡◌, take}
use Rattle.vss_catalog.specs.Entries.{lists_of}
use Rattle.vss_catalog.proofs.lists.copied_lists.Given as goal

abbrev pub invariant-loop-entry : goal.invariant-loop-entry
invariant-loop-entry l = l.lists.items ≡ lists_of (take l.entry-index l.entries)
