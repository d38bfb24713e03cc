use Rattle.std.proofs.Common.{refl, rules, sym, ◌∙◌}
use Rattle.coordinator.proofs.Following.{follows-ended, follows-goes_on}
use Rattle.coordinator.proofs.kept_course.KeptCourse.settle.Goals as goal

pub returns-in-Some-clause-follows : goal.returns-in-Some-clause-follows
returns-in-Some-clause-follows c = λ d h. follows-ended c.args.self.now _ d c.in-Some.kind (sym c.kind_if_done.ensures ∙ c.in-Some.is) refl refl refl refl c.outcome_after-self.ensures h

pub returns-in_default-clause-follows : goal.returns-in_default-clause-follows
returns-in_default-clause-follows c = λ d h. follows-goes_on c.args.self.now d (sym c.kind_if_done.ensures ∙ search rules) h
