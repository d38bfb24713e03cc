use Rattle.std.proofs.Common.{◌≡◌, map, take}
use Rattle.vss_catalog.specs.Entries.{EntryValue}
use Rattle.vss_names.specs.Names.{TextValue}
use Rattle.image_store.proofs.opening.names_of.Given as goal

abbrev pub invariant-loop-volume : goal.invariant-loop-volume
invariant-loop-volume l = map (λ (name : TextValue). name.bytes) l.names.items ≡ map (λ (e : EntryValue). e.name) (take l.volume l.catalog)
