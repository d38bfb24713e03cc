-- What a call has to know of one writer whose metadata were read.
use Rattle.std.proofs.Common.{◌≡◌, true, Some}
use Rattle.writer_meta.specs.Metadata.{Meta}
use Rattle.writer_meta.specs.Document.{IsAllowed}
use Rattle.component_doc.specs.Over.{has_few}
use Rattle.component_doc.proofs.Known.{few_known as few}

-- it has no more components than are counted
pub few_known : (m : Meta) → IsAllowed m → has_few (Some m) ≡ true
few_known m allowed = few m allowed
