use Rattle.std.proofs.lemmas.Result.{err_from_is_err_and}
use Rattle.vss_recover.proofs.InParts.{slots_all, slots_part, slots_further, flushed_table}
use Rattle.vss_recover.proofs.overlay.Overlay.sync.Goals as goal

pub returns-in_err-sync-clause-kept : goal.returns-in_err-sync-clause-kept
returns-in_err-sync-clause-kept g c =
    rw (← c.self.view_is) (slots_part g.D.Device c.self.inside.area c.sync.new.self
    c.in_err-sync.ensures.table c.in_err-sync.ensures.cause.later c.in_err-sync.ensures.in_part)

pub returns-clause-kept : goal.returns-clause-kept
returns-clause-kept g c =
    rw (← c.self.view_is) (slots_further g.D.Device c.self.inside.area c.sync.new.self c.flush.new.self
    (slots_all g.D.Device c.self.inside.area c.sync.new.self
    c.in_ok-sync.ensures.table c.in_ok-sync.ensures.cause.later c.in_ok-sync.ensures.written)
    c.flush.ensures.table c.flush.ensures.told c.flush.ensures.cause.later)

pub returns-in_err-sync-clause-table : goal.returns-in_err-sync-clause-table
returns-in_err-sync-clause-table g c =
    let p = err_from_is_err_and c.from_residual.result c.from_residual.ensures.1 in
    rw (p.1, ← c.self.view_is) c.in_err-sync.ensures.in_part

pub returns-clause-table : goal.returns-clause-table
returns-clause-table g c = rw (← c.self.view_is)
    (flushed_table g.D.Device c.self.inside.area c.sync.new.self c.flush.new.self c.flush.result c.in_ok-sync.ensures.written c.flush.ensures.told)
