use Rattle.std.proofs.Common.{refl, rules, subst, ◌≡◌}
use Rattle.set_agenda.specs.declared.kind.Kind.TheVariants.{Gather, Prepare}
use Rattle.set_agenda.specs.Agenda.{is_among}
use Rattle.set_agenda.specs.Course.{members_from}
use Rattle.coordinator.specs.KeptCourse.{Follows}
use Rattle.coordinator.specs.Beginning.{ready_for}
use Rattle.coordinator.proofs.Begun.{follows-gathered, follows-prepared}
use Rattle.coordinator.proofs.kept_course.KeptCourse.prepare_for.Goals as goal

pub returns-in-Gather-clause-follows : goal.returns-in-Gather-clause-follows
returns-in-Gather-clause-follows c = λ d h e.
    let is : Gather ≡ c.args.kind = search rules in
    subst (λ k. Follows (record c.args.self.now { rows = c.change_all.new.self }) (ready_for k (members_from (λ w. is_among w c.args.asked) 0 d.rows) d)) is
    (follows-gathered c.args.self.now (record c.args.self.now { rows = c.change_all.new.self }) d (members_from (λ w. is_among w c.args.asked) 0 d.rows) refl c.change_all.ensures.rows h)

pub returns-in-Prepare-clause-follows : goal.returns-in-Prepare-clause-follows
returns-in-Prepare-clause-follows c = λ d h e.
    let is : Prepare ≡ c.args.kind = search rules in
    subst (λ k. Follows (record c.args.self.now { members = c.args.asked }) (ready_for k (members_from (λ w. is_among w c.args.asked) 0 d.rows) d)) is
    (follows-prepared c.args.self.now c.args.asked d e h)
