use Rattle.std.proofs.Common.{rules, sym, ◌∙◌}
use Rattle.coordinator.proofs.Following.{follows-lost, follows-lost-none}
use Rattle.coordinator.proofs.kept_course.KeptCourse.lose_open.Goals as goal

pub returns-in-Some-clause-follows : goal.returns-in-Some-clause-follows
returns-in-Some-clause-follows c = λ d h. follows-lost c.args.self.now _ d c.in-Some.order c.args.now (sym c.open_order.ensures ∙ c.in-Some.is) (c.lose.ensures.follows d h) h

pub returns-in_default-clause-follows : goal.returns-in_default-clause-follows
returns-in_default-clause-follows c = λ d h. follows-lost-none c.args.self.now d c.args.now (sym c.open_order.ensures ∙ search rules) h
