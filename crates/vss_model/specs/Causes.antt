-- Why a set fails: its act gives a cause. A veto to PrepareBackup, PrepareSnapshot or Freeze; a limit of which more ticks have
-- gone by; a device that fails a flush; `abort` or `end` by the lane that owns the session; or a write for which the set's own
-- image goes. Each cause but the last is said here a second time, read off the running agenda and its log. It shares with the
-- definitions the numbers of the limits, a writer's time-out and open order, which groups are left, and how long an idle stretch
-- is; but no word by which a set fails there, so if one were wrong, a set would fail without a cause. The write alone is said in
-- their words. (Which causes there are is this project's own.)
use Rattle.std.specs.Prelude.{ℕ, ◌+◌, ◌==◌, nat_lt, Bool, true, false, List, [], ◌∷◌, fold, ◌&&◌, ◌||◌, if◌then◌else◌, Option, Some, None, slice_get}
use Rattle.std.specs.List.{list_any}
use Rattle.vss_names.specs.declared.order.Order.{Order}
use Rattle.vss_names.specs.declared.order.Order.TheVariants.{Identify, PrepareBackup, PrepareSnapshot, Freeze, Thaw, PostSnapshot, BackupComplete}
use Rattle.write_history.specs.declared.mark.Mark.{Mark}
use Rattle.write_history.specs.declared.mark.Mark.TheVariants.{Clean, Fault, FaultAfter}
use Rattle.writer_calls.specs.declared.answer.Answer.{Answer}
use Rattle.writer_calls.specs.declared.answer.Answer.TheVariants.{Ok, Veto}
use Rattle.tick_limits.specs.Time.{answer_limit, hold_limit, default_freeze}
use Rattle.set_agenda.specs.declared.group.Group.{Group}
use Rattle.set_agenda.specs.declared.group.Group.TheVariants.{Orders, PreCommit, Flush, Hold, Cut, Commit, Release, PostCommit}
use Rattle.set_agenda.specs.declared.member.Member.{Member}
use Rattle.set_agenda.specs.declared.place.Place.{Place}
use Rattle.set_agenda.specs.Agenda.{Agenda, Entry, Open, open_group, groups_left, same_place}
use Rattle.set_agenda.specs.Course.{Course, limit_of}
use Rattle.requestor.specs.Session.{Session}
use Rattle.requestor.specs.declared.session_call.SessionCall.{SessionCall}
use Rattle.requestor.specs.declared.session_call.SessionCall.TheVariants as call
use Rattle.scenario.specs.declared.line.Line.{Line as Does}
use Rattle.scenario.specs.declared.line.Line.TheVariants.{Writes, Ticks, Calls}
use Rattle.scenario.specs.declared.op.Op.{Op}
use Rattle.scenario.specs.Calls.{line_of}
use Rattle.scenario.specs.Plan.{Plan}
use Rattle.vss_model.specs.declared.event.Event.{Event}
use Rattle.vss_model.specs.declared.event.Event.TheVariants.{Line, Answer as AnswerEvent, Provider, Idle}
use Rattle.vss_model.specs.State.{State, in_progress, left_now}
use Rattle.vss_model.specs.Images.{cleared, set_loses_image}
use Rattle.vss_model.specs.Acts.{order_of_writer, idle_now}

-- ## a veto

-- the orders to which the set needs each writer's consent
abbrev pub needs_consent : Order → Bool
needs_consent Identify = false
needs_consent PrepareBackup = true
needs_consent PrepareSnapshot = true
needs_consent Freeze = true
needs_consent Thaw = false
needs_consent PostSnapshot = false
needs_consent BackupComplete = false

abbrev pub is_veto : Answer → Bool
is_veto Ok = false
is_veto (Veto error) = true

-- a writer vetoes its open order
abbrev pub is_refused : Option Order → Answer → Bool
is_refused None answer = false
is_refused (Some order) answer = needs_consent order && is_veto answer

-- ## a limit

-- more ticks than the limit have gone by since a tick
abbrev pub has_passed : ℕ → ℕ → ℕ → Bool
has_passed limit since now = nat_lt (since + limit) now

-- the time of the last entry that passes, or else when the agenda began
abbrev pub last_of : (Entry → Bool) → Agenda → ℕ
last_of test a = fold (λ t (e : Entry). if test e then e.time else t) a.begun a.log

-- from the first Hold step until all volumes are released
abbrev pub holds_volumes : Group → Bool
holds_volumes (Orders order) = false
holds_volumes PreCommit = false
holds_volumes Flush = false
holds_volumes Hold = true
holds_volumes Cut = true
holds_volumes Commit = true
holds_volumes Release = true
holds_volumes PostCommit = false

abbrev pub is_hold_step : Group → Bool
is_hold_step (Orders order) = false
is_hold_step PreCommit = false
is_hold_step Flush = false
is_hold_step Hold = true
is_hold_step Cut = false
is_hold_step Commit = false
is_hold_step Release = false
is_hold_step PostCommit = false

-- writes are held for more than 10 seconds
abbrev pub held_too_long : ℕ → Group → Agenda → Bool
held_too_long now g a = holds_volumes g && list_any (λ (e : Entry). is_hold_step e.place.group && has_passed hold_limit e.time now) a.log

-- from the first order Freeze until PostCommit is made
abbrev pub freezes_writers : Group → Bool
freezes_writers (Orders Identify) = false
freezes_writers (Orders PrepareBackup) = false
freezes_writers (Orders PrepareSnapshot) = false
freezes_writers (Orders Freeze) = true
freezes_writers (Orders Thaw) = false
freezes_writers (Orders PostSnapshot) = false
freezes_writers (Orders BackupComplete) = false
freezes_writers PreCommit = true
freezes_writers Flush = true
freezes_writers Hold = true
freezes_writers Cut = true
freezes_writers Commit = true
freezes_writers Release = true
freezes_writers PostCommit = true

abbrev pub prepares_snapshot : Group → Bool
prepares_snapshot (Orders Identify) = false
prepares_snapshot (Orders PrepareBackup) = false
prepares_snapshot (Orders PrepareSnapshot) = true
prepares_snapshot (Orders Freeze) = false
prepares_snapshot (Orders Thaw) = false
prepares_snapshot (Orders PostSnapshot) = false
prepares_snapshot (Orders BackupComplete) = false
prepares_snapshot PreCommit = false
prepares_snapshot Flush = false
prepares_snapshot Hold = false
prepares_snapshot Cut = false
prepares_snapshot Commit = false
prepares_snapshot Release = false
prepares_snapshot PostCommit = false

-- since the last answer to PrepareSnapshot more ticks have gone by than some participant's time-out, or than 60 seconds
abbrev pub frozen_too_long : ℕ → Group → Course → Agenda → Bool
frozen_too_long now g c a =
    freezes_writers g
    && (has_passed default_freeze (last_of (λ e. prepares_snapshot e.place.group) a) now
    || list_any (λ (m : Member). has_passed (limit_of (slice_get c.rows m.writer)) (last_of (λ e. prepares_snapshot e.place.group) a) now) c.members)

-- while writers are asked for their consent to what comes
abbrev pub prepares_writers : Group → Bool
prepares_writers (Orders Identify) = false
prepares_writers (Orders PrepareBackup) = true
prepares_writers (Orders PrepareSnapshot) = true
prepares_writers (Orders Freeze) = false
prepares_writers (Orders Thaw) = false
prepares_writers (Orders PostSnapshot) = false
prepares_writers (Orders BackupComplete) = false
prepares_writers PreCommit = false
prepares_writers Flush = false
prepares_writers Hold = false
prepares_writers Cut = false
prepares_writers Commit = false
prepares_writers Release = false
prepares_writers PostCommit = false

abbrev pub is_elsewhere : Place → Entry → Bool
is_elsewhere p e = if same_place e.place p then false else true

-- an answer is missing for more than 300 seconds since the group before was closed
abbrev pub unanswered_too_long : ℕ → Place → Agenda → Bool
unanswered_too_long now p a = prepares_writers p.group && has_passed answer_limit (last_of (is_elsewhere p) a) now

-- at the open group of the running agenda
abbrev pub is_late_at : ℕ → Course → Agenda → List Open → Bool
is_late_at now c a [] = false
is_late_at now c a (o ∷ os) = held_too_long now o.place.group a || frozen_too_long now o.place.group c a || unanswered_too_long now o.place a

abbrev pub is_late_in : ℕ → Course → Option Agenda → Bool
is_late_in now c None = false
is_late_in now c (Some a) = is_late_at now c a (groups_left a)

-- something takes too long, once the clock has gone on by so many ticks
abbrev pub is_late : State → ℕ → Bool
is_late st ticks = is_late_in (st.clock + ticks) st.course st.course.agenda

-- ## a flush

abbrev pub is_fault : Mark → Bool
is_fault Clean = false
is_fault Fault = true
is_fault (FaultAfter k) = false

abbrev pub is_flush_step : Option Group → Bool
is_flush_step None = false
is_flush_step (Some (Orders order)) = false
is_flush_step (Some PreCommit) = false
is_flush_step (Some Flush) = true
is_flush_step (Some Hold) = false
is_flush_step (Some Cut) = false
is_flush_step (Some Commit) = false
is_flush_step (Some Release) = false
is_flush_step (Some PostCommit) = false

-- ## lines

-- an image of the set in progress goes for a write of block b to volume v
abbrev pub loses_own_image : Plan → State → ℕ → ℕ → Bool
loses_own_image s st v b = set_loses_image (in_progress st) st.volumes (cleared s v b st)

-- the lane owns the session that stands
abbrev pub owns : Option Session → ℕ → Bool
owns None lane = false
owns (Some q) lane = q.owner == lane

abbrev pub stops_set : SessionCall → Bool
stops_set call.Abort = true
stops_set call.End = true
stops_set _ = false

abbrev pub gives_cause_by : Plan → State → ℕ → Does → Bool
gives_cause_by s st lane (Writes v b payload) = loses_own_image s st v b
gives_cause_by s st lane (Ticks n) = is_late st n
gives_cause_by s st lane (Calls c) = stops_set c && owns st.session lane
gives_cause_by s st lane _ = false

abbrev pub line_gives_cause : Plan → State → ℕ → Op → Bool
line_gives_cause s st lane op = gives_cause_by s st lane (line_of op)

-- ## every act

abbrev pub gives_cause : Plan → State → Event → Mark → Bool
gives_cause s st (Line lane op) mark = line_gives_cause s st lane op
gives_cause s st (AnswerEvent w answer) mark = is_refused (order_of_writer st w) answer
gives_cause s st Provider mark = is_flush_step (open_group (left_now st)) && is_fault mark
gives_cause s st Idle mark = is_late st (idle_now st)
