use Rattle.std.proofs.Common.{rules}
use Rattle.image_store.proofs.Orders.{further_then, more_then, part_then}
use Rattle.image_store.proofs.job.Job.copy_ahead.Goals as goal

pub returns-in-Err-clause-pass : goal.returns-in-Err-clause-pass
returns-in-Err-clause-pass g c =
    more_then g.D.Device.told c.args.store.now c.parts.store c.copy_part.new.store c.parts.invariant.more c.in-Err.ensures.pass

pub returns-in-Err-clause-copied : goal.returns-in-Err-clause-copied
returns-in-Err-clause-copied g c =
    part_then g.I.Device.told c.args.store.now.group c.parts.store.group c.copy_part.new.store.group c.args.self.now c.parts.self
    c.copy_part.new.self.at c.parts.invariant.aim c.copy_part.ensures.copied c.parts.invariant.copied

pub returns-in-Ok-UntilEvicted-clause-pass : goal.returns-in-Ok-UntilEvicted-clause-pass
returns-in-Ok-UntilEvicted-clause-pass g c =
    further_then g.D.Device.told c.args.store.now c.parts.store c.copy_part.new.store c.parts.invariant.more
    (rw c.in-Ok-UntilEvicted.field-0-is at c.in-Ok-UntilEvicted.ensures.pass)

pub returns-in-Ok-UntilEvicted-clause-copied : goal.returns-in-Ok-UntilEvicted-clause-copied
returns-in-Ok-UntilEvicted-clause-copied g c =
    part_then g.I.Device.told c.args.store.now.group c.parts.store.group c.copy_part.new.store.group c.args.self.now c.parts.self
    c.copy_part.new.self.at c.parts.invariant.aim c.copy_part.ensures.copied c.parts.invariant.copied

pub parts-preserved : goal.parts-preserved
parts-preserved g c = record {
  aim = search rules;
  more = more_then g.D.Device.told c.args.store.now c.parts.store c.copy_part.new.store c.parts.invariant.more
      (rw c.in-Ok-All.field-0-is at c.in-Ok-All.ensures.pass);
  copied = part_then g.I.Device.told c.args.store.now.group c.parts.store.group c.copy_part.new.store.group c.args.self.now c.parts.self
      c.copy_part.new.self.at c.parts.invariant.aim c.copy_part.ensures.copied c.parts.invariant.copied;
}
