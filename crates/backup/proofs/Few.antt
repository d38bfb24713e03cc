-- What the selection has to know of metadata that were read.
use Rattle.std.proofs.Common.{◌≡◌, true, List, Option}
use Rattle.writer_meta.specs.Metadata.{Meta}
use Rattle.component_doc.specs.Over.{all_have_few, AreAllowed}
use Rattle.component_doc.proofs.Known.{few-from_allowed}

-- no writer has more components than are counted
pub few_of : (ms : List (Option Meta)) → AreAllowed ms → all_have_few ms ≡ true
few_of ms allowed = few-from_allowed ms allowed
