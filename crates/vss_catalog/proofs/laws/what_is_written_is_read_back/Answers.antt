use Rattle.vss_catalog.proofs.Back.{catalog-back}
use Rattle.vss_catalog.proofs.laws.what_is_written_is_read_back.Goals as goal

pub returns : goal.returns
returns c entries is = catalog-back entries is
