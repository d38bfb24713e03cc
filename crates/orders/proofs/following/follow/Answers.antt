use Rattle.write_history.specs.declared.actor.Actor.TheVariants.{Lane}
use Rattle.orders.specs.declared.entry.Entry.{Entry}
use Rattle.orders.specs.declared.why.Why.TheVariants.{Blocked, Finished}
use Rattle.orders.proofs.Goers.{led_none, led_next, led_all, halted_at}
use Rattle.orders.proofs.following.follow.Goals as goal

pub loop-entry-init : goal.loop-entry-init
loop-entry-init g c = led_none g.D.Device c.args.play.now

pub returns-in-Ok-Blocked : goal.returns-in-Ok-Blocked
returns-in-Ok-Blocked g c =
    let stuck = rw c.in-Ok-Blocked.field-0-is at c.in-Ok-Blocked.ensures in
    halted_at g.D.Device c.args.play.now c.loop-entry.play c.step.new.self c.args.entries.now c.loop-entry.entry-index
    (record { actor = Lane 0; place = 0 }) Blocked c.loop-entry-test.true c.loop-entry.invariant
    stuck.0 (stuck.1, stuck.2)

pub returns-in-Ok-Finished : goal.returns-in-Ok-Finished
returns-in-Ok-Finished g c =
    let stuck = rw c.in-Ok-Finished.field-0-is at c.in-Ok-Finished.ensures in
    halted_at g.D.Device c.args.play.now c.loop-entry.play c.step.new.self c.args.entries.now c.loop-entry.entry-index
    (record { actor = Lane 0; place = 0 }) Finished c.loop-entry-test.true c.loop-entry.invariant
    stuck.0 stuck.1

pub loop-entry-preserved : goal.loop-entry-preserved
loop-entry-preserved g c =
    led_next g.D.Device c.args.play.now c.loop-entry.play c.step.new.self (λ (e : Entry). e.actor) c.args.entries.now c.loop-entry.entry-index
    (record { actor = Lane 0; place = 0 }) c.loop-entry-test.true c.loop-entry.invariant
    (rw c.in-Ok-Moved.field-0-is at c.in-Ok-Moved.ensures)

pub returns : goal.returns
returns g c = led_all g.D.Device c.args.play.now c.loop-entry.play (λ (e : Entry). e.actor) c.args.entries.now c.loop-entry.entry-index c.loop-entry-test.false c.loop-entry.invariant
