use Rattle.vss_catalog.proofs.Again.{catalog-again, catalog-allowed}
use Rattle.vss_catalog.proofs.laws.what_is_read_is_written_again.Goals as goal

pub returns-clause-bytes : goal.returns-clause-bytes
returns-clause-bytes c bytes entries are h = catalog-again bytes entries are h

pub returns-clause-allowed : goal.returns-clause-allowed
returns-clause-allowed c bytes entries are h = catalog-allowed bytes entries are h
