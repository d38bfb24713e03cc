use Rattle.vss_recover.proofs.overlay.Overlay.resume.Goals as goal

pub invariant_of-result : goal.invariant_of-result
invariant_of-result g c = record { one = c.requires; index = c.note_used.ensures.index; room = c.note_used.ensures.room; pool_is = c.in_ok-pool.ensures }
