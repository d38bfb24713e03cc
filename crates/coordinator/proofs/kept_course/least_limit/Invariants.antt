use Rattle.std.proofs.Common.{◌≡◌, ◌≤◌, ◌-◌, drop, length, min}
use Rattle.std.specs.Prelude.{fold, slice_get}
use Rattle.set_agenda.specs.declared.member.Member.{Member}
use Rattle.set_agenda.specs.Agenda.{is_among}
use Rattle.set_agenda.specs.Course.{limit_of, members_from}
use Rattle.tick_limits.specs.Time.{default_freeze}
use Rattle.coordinator.specs.KeptCourse.{least_limit}
use Rattle.coordinator.proofs.kept_course.least_limit.Given as goal

abbrev pub invariant-loop-number : goal.invariant-loop-number
invariant-loop-number l = (
    fold (λ n (m : Member). min n (limit_of (slice_get l.rows m.writer))) l.limit (members_from (λ w. is_among w l.members) l.number (drop l.number l.rows))
    ≡ least_limit l.rows (members_from (λ w. is_among w l.members) 0 l.rows)) × (l.limit ≤ default_freeze)

abbrev pub decreases-loop-number : goal.decreases-loop-number
decreases-loop-number l = length l.rows - l.number
