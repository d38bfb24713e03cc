use Rattle.std.proofs.Common.{ℕ, suc, ◌<◌, List, [], ◌∷◌, arith, slice_index}
use Rattle.vss_catalog.specs.Entries.{AreBytes}
use Rattle.vss_catalog.proofs.Again.{catalog-allowed}
use Rattle.vss_catalog.proofs.catalog.Catalog.decode.Goals as goal

-- what a slice of bytes has are bytes
are_bytes : (bytes : List ℕ) → ((i : ℕ) → slice_index bytes i < 256) → AreBytes bytes
are_bytes [] each = tt
are_bytes (b ∷ rest) each = (each 0, are_bytes rest (λ i. each (suc i)))

pub returns-in-Ok-clause-allowed : goal.returns-in-Ok-clause-allowed
returns-in-Ok-clause-allowed c =
    let bytes = are_bytes c.args.bytes.now (λ i. omega (arith, c.type_inv.bytes i)) in
    catalog-allowed c.args.bytes.now c.in-Ok.catalog bytes c.in-Ok.ensures.ok
