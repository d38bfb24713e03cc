use Rattle.std.proofs.Common.{Bool, List, subst}
use Rattle.image_store.specs.Copying.{AreCopied}
use Rattle.image_store.proofs.Orders.{more_of, part_next, pass_stopped}
use Rattle.image_store.proofs.job.Job.copy_part.Goals as goal

pub returns-in-Err-clause-pass : goal.returns-in-Err-clause-pass
returns-in-Err-clause-pass g c =
    more_of g.D.Device.told c.args.store.now c.copy_ahead.new.self c.in_ok-fits.ensures.images c.in-Err.ensures.copied.2.kept.copies c.in-Err.ensures.ahead
    c.copy_ahead.ensures.under_way

pub returns-in-Err-clause-copied : goal.returns-in-Err-clause-copied
returns-in-Err-clause-copied g c =
    λ had. (more_of g.D.Device.told c.args.store.now c.copy_ahead.new.self c.in_ok-fits.ensures.images c.in-Err.ensures.copied.2.kept.copies
    c.in-Err.ensures.ahead c.copy_ahead.ensures.under_way).further.copied c.args.self.now.volume c.args.self.now.at c.args.self.now.differs.items had

pub returns-in-Ok-Done-clause-pass : goal.returns-in-Ok-Done-clause-pass
returns-in-Ok-Done-clause-pass g c =
    more_of g.D.Device.told c.args.store.now c.copy_ahead.new.self c.in_ok-fits.ensures.images
    (rw c.in-Ok-Done.field-0-is at c.in-Ok-Done.ensures.copied).kept.copies
    (rw c.in-Ok-Done.field-0-is at c.in-Ok-Done.ensures.ahead) c.copy_ahead.ensures.under_way

pub returns-in-Ok-Done-clause-copied : goal.returns-in-Ok-Done-clause-copied
returns-in-Ok-Done-clause-copied g c =
    λ had. part_next g.D.Device.told c.args.store.now c.copy_ahead.new.self c.args.self.now.volume c.args.self.now.at c.saturating_add-to.result
    c.args.self.now.differs.items
    (more_of g.D.Device.told c.args.store.now c.copy_ahead.new.self c.in_ok-fits.ensures.images
    (rw c.in-Ok-Done.field-0-is at c.in-Ok-Done.ensures.copied).kept.copies
    (rw c.in-Ok-Done.field-0-is at c.in-Ok-Done.ensures.ahead) c.copy_ahead.ensures.under_way).further
    (subst (λ (ds : List Bool). AreCopied c.copy_ahead.new.self.group c.args.self.now.volume ds c.args.self.now.at c.saturating_add-to.result)
    c.deref.ensures.value
    (rw c.in-Ok-Done.field-0-is at c.in-Ok-Done.ensures.copied).copied) had

pub returns-in-Ok-Evicted-clause-pass : goal.returns-in-Ok-Evicted-clause-pass
returns-in-Ok-Evicted-clause-pass g c =
    pass_stopped g.D.Device.told c.args.store.now c.copy_ahead.new.self _ _ _ _ _ _ _ _ _ c.in_ok-fits.ensures.images
    (rw c.in-Ok-Evicted.field-0-is at c.in-Ok-Evicted.ensures.copied)
    (rw c.in-Ok-Evicted.field-0-is at c.in-Ok-Evicted.ensures.ahead) c.copy_ahead.ensures.under_way

pub returns-in-Ok-Evicted-clause-copied : goal.returns-in-Ok-Evicted-clause-copied
returns-in-Ok-Evicted-clause-copied g c =
    λ had. part_next g.D.Device.told c.args.store.now c.copy_ahead.new.self c.args.self.now.volume
    c.args.self.now.at c.in-Ok-Evicted.at c.args.self.now.differs.items
    (pass_stopped g.D.Device.told c.args.store.now c.copy_ahead.new.self _ _ _ _ _ _ _ _ _ c.in_ok-fits.ensures.images
    (rw c.in-Ok-Evicted.field-0-is at c.in-Ok-Evicted.ensures.copied)
    (rw c.in-Ok-Evicted.field-0-is at c.in-Ok-Evicted.ensures.ahead) c.copy_ahead.ensures.under_way)
    (subst (λ (ds : List Bool). AreCopied c.copy_ahead.new.self.group c.args.self.now.volume ds c.args.self.now.at c.in-Ok-Evicted.at) c.deref.ensures.value
    (rw c.in-Ok-Evicted.field-0-is at c.in-Ok-Evicted.ensures.copied).copied) had
