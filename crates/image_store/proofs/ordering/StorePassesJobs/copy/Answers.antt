use Rattle.std.proofs.Common.{rules, subst, sym}
use Rattle.image_store.specs.Ordering.{AreApart}
use Rattle.image_store.proofs.Orders.{copy_stands, further_of, has_on, holds_on, opens_on}
use Rattle.image_store.proofs.ordering.StorePassesJobs.copy.Goals as goal

pub returns-in-Err-clause-opens : goal.returns-in-Err-clause-opens
returns-in-Err-clause-opens g c = λ first h holds p is. opens_on g.D.Device.told c.args.self.now c.copy_jobs.new.store h p
    (further_of g.D.Device.told c.args.self.now c.copy_jobs.new.store c.copy_jobs.result c.copy_jobs.ensures.pass) (holds p is)

pub returns-in-Err-clause-stands : goal.returns-in-Err-clause-stands
returns-in-Err-clause-stands g c = λ first stands. (
  c.copy_jobs.ensures.copied stands.0,
  λ p is. copy_stands g.D.Device.told g.I.Device.told c.args.self.now c.copy_jobs.new.store c.args.jobs.now.jobs.items c.copy_jobs.new.jobs.items
      c.copy_jobs.result c.copy_jobs.ensures.aims c.copy_jobs.ensures.pass c.copy_jobs.ensures.some p (stands.1 p is),
)

pub returns-in-Err-clause-before : goal.returns-in-Err-clause-before
returns-in-Err-clause-before g c = λ first before p is. has_on g.D.Device.told c.args.self.now c.copy_jobs.new.store p
    (further_of g.D.Device.told c.args.self.now c.copy_jobs.new.store c.copy_jobs.result c.copy_jobs.ensures.pass) (before p is)

pub returns-in-Ok-All-clause-opens : goal.returns-in-Ok-All-clause-opens
returns-in-Ok-All-clause-opens g c = λ first h holds p is. opens_on g.D.Device.told c.args.self.now c.copy_jobs.new.store h p
    (further_of g.D.Device.told c.args.self.now c.copy_jobs.new.store c.copy_jobs.result c.copy_jobs.ensures.pass) (holds p is)

pub returns-in-Ok-All-clause-stands : goal.returns-in-Ok-All-clause-stands
returns-in-Ok-All-clause-stands g c = λ first stands. (
  c.copy_jobs.ensures.copied stands.0,
  λ p is. copy_stands g.D.Device.told g.I.Device.told c.args.self.now c.copy_jobs.new.store c.args.jobs.now.jobs.items c.copy_jobs.new.jobs.items
      c.copy_jobs.result c.copy_jobs.ensures.aims c.copy_jobs.ensures.pass c.copy_jobs.ensures.some p (stands.1 p is),
)

pub returns-in-Ok-All-clause-before : goal.returns-in-Ok-All-clause-before
returns-in-Ok-All-clause-before g c = λ first before p is. has_on g.D.Device.told c.args.self.now c.copy_jobs.new.store p
    (further_of g.D.Device.told c.args.self.now c.copy_jobs.new.store c.copy_jobs.result c.copy_jobs.ensures.pass) (before p is)

pub returns-in-Ok-clause-opens : goal.returns-in-Ok-clause-opens
returns-in-Ok-clause-opens g c = λ first h holds p is. opens_on g.D.Device.told c.args.self.now c.copy_jobs.new.store h p
    (further_of g.D.Device.told c.args.self.now c.copy_jobs.new.store c.copy_jobs.result c.copy_jobs.ensures.pass) (holds p is)

pub returns-in-Ok-clause-stands : goal.returns-in-Ok-clause-stands
returns-in-Ok-clause-stands g c = λ first stands. (
  c.copy_jobs.ensures.copied stands.0,
  λ p is. copy_stands g.D.Device.told g.I.Device.told c.args.self.now c.copy_jobs.new.store c.args.jobs.now.jobs.items c.copy_jobs.new.jobs.items
      c.copy_jobs.result c.copy_jobs.ensures.aims c.copy_jobs.ensures.pass c.copy_jobs.ensures.some p (stands.1 p is),
)

pub returns-in-Ok-clause-before : goal.returns-in-Ok-clause-before
returns-in-Ok-clause-before g c = λ first before p is. has_on g.D.Device.told c.args.self.now c.copy_jobs.new.store p
    (further_of g.D.Device.told c.args.self.now c.copy_jobs.new.store c.copy_jobs.result c.copy_jobs.ensures.pass) (before p is)

pub returns-in-Err-check_left-clause-opens : goal.returns-in-Err-check_left-clause-opens
returns-in-Err-check_left-clause-opens g c = λ first h holds p is. opens_on g.D.Device.told c.args.self.now c.copy_jobs.new.store h p
    (further_of g.D.Device.told c.args.self.now c.copy_jobs.new.store c.copy_jobs.result c.copy_jobs.ensures.pass) (holds p is)

pub returns-in-Err-check_left-clause-stands : goal.returns-in-Err-check_left-clause-stands
returns-in-Err-check_left-clause-stands g c = λ first stands. (
  c.copy_jobs.ensures.copied stands.0,
  λ p is. copy_stands g.D.Device.told g.I.Device.told c.args.self.now c.copy_jobs.new.store c.args.jobs.now.jobs.items c.copy_jobs.new.jobs.items
      c.copy_jobs.result c.copy_jobs.ensures.aims c.copy_jobs.ensures.pass c.copy_jobs.ensures.some p (stands.1 p is),
)

pub returns-in-Err-check_left-clause-before : goal.returns-in-Err-check_left-clause-before
returns-in-Err-check_left-clause-before g c = λ first before p is. has_on g.D.Device.told c.args.self.now c.copy_jobs.new.store p
    (further_of g.D.Device.told c.args.self.now c.copy_jobs.new.store c.copy_jobs.result c.copy_jobs.ensures.pass) (before p is)

pub returns-in-Ok-All-clause-done : goal.returns-in-Ok-All-clause-done
returns-in-Ok-All-clause-done g c = λ same. (
  λ first h holds p is. holds_on g.D.Device.told c.args.self.now c.copy_jobs.new.store h p (rw c.in-Ok-All.field-0-is at c.in-Ok-All.ensures.pass) (holds p is),
  (subst AreApart (sym c.copy_jobs.ensures.aims) (search rules), c.in-Ok-All.ensures.whole c.in-Ok-All.field-0-is),
)

pub returns-then-not-are_apart-clause-opens : goal.returns-then-not-are_apart-clause-opens
returns-then-not-are_apart-clause-opens g c = λ first h holds p is. (holds p is).opens
