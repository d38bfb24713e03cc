use Rattle.std.proofs.Common.{◌≡◌}
use Rattle.image_store.specs.Ordering.{aim_of, HasMore}
use Rattle.image_store.specs.Copying.{AreCopied}
use Rattle.image_store.proofs.job.Job.copy_ahead.Given as goal

-- copies were added
abbrev pub invariant-parts : goal.invariant-parts
invariant-parts g l = record {
  aim : aim_of g.I.Device.told l.self ≡ aim_of g.I.Device.told l.fn.self;
  more : HasMore g.D.Device.told l.fn.store l.store;
  copied : AreCopied l.fn.store.group l.fn.self.volume l.fn.self.differs.items 0 l.fn.self.at
      → AreCopied l.store.group l.fn.self.volume l.fn.self.differs.items 0 l.self.at;
}
