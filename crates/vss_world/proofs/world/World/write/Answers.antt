use Rattle.std.proofs.Common.{◌∙◌, sym}
use Rattle.vss_world.proofs.Putting.{writing, making, write_waits, kept_moves, lost_moves, no_set, other_set, own_set}
use Rattle.vss_world.proofs.ToldMarks.{fault_told}
use Rattle.vss_world.proofs.Unsaid.{room_counted, without_counted}
use Rattle.vss_world.proofs.world.World.write.Goals as goal

pub returns-then-not-may_write-clause-stepped : goal.returns-then-not-may_write-clause-stepped
returns-then-not-may_write-clause-stepped g c op line =
    rw (← c.self.view_is) (write_waits (writing c.args.scenario.now c.args.lane op c.args.volume _ line) (rw (← c.self.view_is) at c.may_write.ensures) c.if-not-may_write.true)

pub make_room-up_to-requires-clause-has : goal.make_room-up_to-requires-clause-has
make_room-up_to-requires-clause-has g c = (rw (← c.self.view_is) at c.requires.of).groups

pub put_or_fail-put-requires-clause-has : goal.put_or_fail-put-requires-clause-has
put_or_fail-put-requires-clause-has g c = c.make_room-up_to.ensures.call.kept.has c.args.scenario.now (rw (← c.self.view_is) at c.requires.of).groups

pub put_or_fail-put-requires-clause-room : goal.put_or_fail-put-requires-clause-room
put_or_fail-put-requires-clause-room g c = c.make_room-up_to.ensures.room

pub returns-in_default-clause-stepped : goal.returns-in_default-clause-stepped
returns-in_default-clause-stepped g c op line =
    let room = room_counted g.D.Device c.args.fails c.make_room-up_to.ensures in
    let made = making c.requires.in_range (writing c.args.scenario.now c.args.lane op c.args.volume _ line) room c.put_or_fail-put.ensures.put c.put_or_fail-put.ensures.set in
    let goes = rw (← c.self.view_is) at c.may_write.ensures in
    rw c.told.ensures (rw c.told_of-answer.ensures (rw (← c.self.view_is) (kept_moves made (rw (← c.self.view_is) at c.requires.of)
    (λ acts stands. no_set made stands (sym (goes acts stands) ∙ c.if-not-may_write.false) (sym c.in_default.is ∙ c.current.ensures)))))

pub returns-in_default-clause-marked : goal.returns-in_default-clause-marked
returns-in_default-clause-marked g c = λ is. rw c.told.ensures (rw c.told_of-answer.ensures (fault_told c.put_or_fail-put.result (c.put_or_fail-put.ensures.fails is)))

pub returns-then-set-up_to-clause-stepped : goal.returns-then-set-up_to-clause-stepped
returns-then-set-up_to-clause-stepped g c op line =
    let room = room_counted g.D.Device c.args.fails c.make_room-up_to.ensures in
    let made = making c.requires.in_range (writing c.args.scenario.now c.args.lane op c.args.volume _ line) room c.put_or_fail-put.ensures.put c.put_or_fail-put.ensures.set in
    let goes = rw (← c.self.view_is) at c.may_write.ensures in
    rw c.told-then-set-up_to.ensures (rw c.told_of-answer.ensures (rw (← c.self.view_is) (kept_moves made (rw (← c.self.view_is) at c.requires.of)
    (λ acts stands. other_set made stands (sym (goes acts stands) ∙ c.if-not-may_write.false) c.in-Some.set (sym c.in-Some.is ∙ c.current.ensures)
    (λ same. c.if-set-up_to.true (sym same))))))

pub returns-then-set-up_to-clause-marked : goal.returns-then-set-up_to-clause-marked
returns-then-set-up_to-clause-marked g c = λ is.
    rw c.told-then-set-up_to.ensures (rw c.told_of-answer.ensures (fault_told c.put_or_fail-put.result (c.put_or_fail-put.ensures.fails is)))

pub returns-clause-stepped : goal.returns-clause-stepped
returns-clause-stepped g c op line =
    let room = room_counted g.D.Device c.args.fails c.make_room-up_to.ensures in
    let made = making c.requires.in_range (writing c.args.scenario.now c.args.lane op c.args.volume _ line) room c.put_or_fail-put.ensures.put c.put_or_fail-put.ensures.set in
    let goes = rw (← c.self.view_is) at c.may_write.ensures in
    let gone = without_counted g.D.Device c.args.fails c.abort.ensures.without in
    rw c.told_of-answer.ensures (rw (← c.self.view_is) (lost_moves made (rw (← c.self.view_is) at c.requires.of) gone c.fail.ensures.leaves
    (λ acts stands. own_set made stands (sym (goes acts stands) ∙ c.if-not-may_write.false) (sym c.in-Some.is ∙ c.current.ensures) (sym c.if-set-up_to.false)
    c.fail.ensures.failed gone c.abort.ensures.set)))

pub returns-clause-marked : goal.returns-clause-marked
returns-clause-marked g c = λ is. rw c.told_of-answer.ensures (fault_told c.put_or_fail-put.result (c.put_or_fail-put.ensures.fails is))
