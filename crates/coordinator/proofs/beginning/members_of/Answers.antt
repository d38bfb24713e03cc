use Rattle.std.proofs.Common.{arith, rules, ap, refl, sym, subst, map, ◌≡◌, ◌++◌, ◌<◌, ◌∙◌}
use Rattle.std.specs.Prelude.{All}
use Rattle.set_agenda.specs.declared.member.Member.{Member}
use Rattle.set_agenda.specs.Agenda.{is_among}
use Rattle.set_agenda.specs.Advance.{are_distinct, by_writer}
use Rattle.set_agenda.specs.Course.{member_if, members_from}
use Rattle.coordinator.proofs.Begun.{members-distinct, members-end, members-next, members-ordered, members-small}
use Rattle.coordinator.proofs.beginning.members_of.Goals as goal

pub loop-number-preserved : goal.loop-number-preserved
loop-number-preserved c =
    let pushed : c.push_if.new.members.items ≡ c.loop-number.members.items ++ member_if (is_among c.loop-number.number c.args.asked.now) c.loop-number.number c.row-level.result
    = c.in_ok-push_if.ensures c.row-level.result refl ∙ ap (λ b. c.loop-number.members.items ++ member_if b c.loop-number.number c.row-level.result) c.contains.ensures in
    members-next c.args.rows.now (λ w. is_among w c.args.asked.now) c.loop-number.number c.row-level.result c.loop-number.members.items c.push_if.new.members.items (search rules) c.row-level.ensures pushed
    ∙ c.loop-number.invariant

pub returns-clause-small : goal.returns-clause-small
returns-clause-small c =
    let made : c.loop-number.members.items ≡ members_from (λ w. is_among w c.args.asked.now) 0 c.args.rows.now = members-end c.args.rows.now (λ w. is_among w c.args.asked.now) c.loop-number.number c.loop-number.members.items _ (search rules) c.loop-number.invariant in
    subst (All (λ (m : Member). m.writer < 64)) (sym made) (members-small (λ w. is_among w c.args.asked.now) 0 c.args.rows.now (let few = c.requires in omega (arith, few)))

pub returns-clause-once : goal.returns-clause-once
returns-clause-once c =
    let made : c.loop-number.members.items ≡ members_from (λ w. is_among w c.args.asked.now) 0 c.args.rows.now = members-end c.args.rows.now (λ w. is_among w c.args.asked.now) c.loop-number.number c.loop-number.members.items _ (search rules) c.loop-number.invariant in
    ap (λ ms. are_distinct (map (λ (m : Member). m.writer) ms)) made ∙ members-distinct (λ w. is_among w c.args.asked.now) 0 c.args.rows.now

pub returns-clause-ordered : goal.returns-clause-ordered
returns-clause-ordered c =
    let made : c.loop-number.members.items ≡ members_from (λ w. is_among w c.args.asked.now) 0 c.args.rows.now = members-end c.args.rows.now (λ w. is_among w c.args.asked.now) c.loop-number.number c.loop-number.members.items _ (search rules) c.loop-number.invariant in
    ap by_writer made ∙ members-ordered (λ w. is_among w c.args.asked.now) c.args.rows.now c.requires ∙ sym made
