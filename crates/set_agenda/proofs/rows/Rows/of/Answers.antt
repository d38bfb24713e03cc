use Rattle.std.proofs.Common.{sym, subst, take}
use Rattle.std.proofs.lemmas.List.{take_more, take_all}
use Rattle.set_agenda.specs.Cursor.{HasRows}
use Rattle.set_agenda.proofs.rows.Rows.of.Goals as goal

pub loop-member-preserved : goal.loop-member-preserved
loop-member-preserved c = subst (HasRows c.enter.new.self) (sym (take_more c.args.members.now c.loop-member.member-index _ c.loop-member-test.true))
    (c.enter.ensures (take c.loop-member.member-index c.args.members.now) c.loop-member.invariant)

pub returns : goal.returns
returns c = subst (HasRows c.loop-member.rows) (take_all c.loop-member.member-index c.args.members.now c.loop-member-test.false) c.loop-member.invariant
