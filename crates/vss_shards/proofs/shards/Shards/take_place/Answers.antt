use Rattle.vss_shards.proofs.shards.Shards.take_place.Goals as goal

pub returns : goal.returns
returns g c = record { found = c.deref.result.now; full = c.is_full.ensures.full c.if-not-is_full.false }
