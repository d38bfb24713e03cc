use Rattle.std.proofs.Common.{◌≡◌, drop, map}
use Rattle.writer_meta.specs.Metadata.{part_of}
use Rattle.component_doc.specs.Selection.{found_from, found_in}
use Rattle.component_doc.proofs.metas.Metas.find_in.Given as goal

-- none that was passed has the name
abbrev pub invariant-loop-i : goal.invariant-loop-i
invariant-loop-i l = found_in l.name (map part_of l.components) ≡ found_from l.name l.i (map part_of (drop l.i l.components))
