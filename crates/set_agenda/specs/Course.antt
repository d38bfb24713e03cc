-- The course of a session, as its coordinator keeps it: the agenda that runs with its log, the writers' rows, the
-- participants and the outcome of the session's set, the disabled writers, and the groups of orders that have opened.
-- Each call of a coordinator, and each answer, step and tick of the service, is one function on it. (The writers'
-- states are the SDK's VSS_WRITER_STATE; which answer or limit fails a set, and with which result, is this project's
-- own.)
use Rattle.std.specs.Prelude.{ℕ, ◌+◌, min, Bool, true, false, List, [], ◌∷◌, ◌++◌, map, filter, fold, count_by, ◌==◌, ◌&&◌, not, Option, Some, None, option_map, slice_get}
use Rattle.std.specs.Prelude.{zero, suc}
use Rattle.std.specs.List.{list_any}
use Rattle.vss_names.specs.declared.order.Order.{Order}
use Rattle.vss_names.specs.declared.order.Order.TheVariants.{Identify, PrepareBackup, PrepareSnapshot, Freeze, Thaw, PostSnapshot, BackupComplete}
use Rattle.vss_names.specs.declared.vss_result.VssResult.{VssResult}
use Rattle.vss_names.specs.declared.vss_result.VssResult.TheVariants.{Writer as WriterFault, HoldWritesTimeout, WriterNotResponding, UnexpectedProviderError}
use Rattle.vss_names.specs.declared.writer_error.WriterError.{WriterError}
use Rattle.vss_names.specs.declared.writer_error.WriterError.TheVariants.{Timeout}
use Rattle.vss_names.specs.declared.set_outcome.SetOutcome.{SetOutcome}
use Rattle.vss_names.specs.declared.set_outcome.SetOutcome.TheVariants.{Running, Complete as CompleteSet, Failed}
use Rattle.writer_state.specs.declared.said.Said.{Said}
use Rattle.writer_state.specs.declared.said.Said.TheVariants.{Ok, Veto, Lost}
use Rattle.writer_state.specs.declared.writer_row.WriterRow.{WriterRow}
use Rattle.writer_state.specs.WriterState.{is_failed, is_ok, row_after, row_aborted, row_gathered, row_ended}
use Rattle.set_agenda.specs.declared.kind.Kind.{Kind}
use Rattle.set_agenda.specs.declared.kind.Kind.TheVariants.{Gather, Prepare, Snapshot, Complete}
use Rattle.set_agenda.specs.declared.limit.Limit.{Limit}
use Rattle.set_agenda.specs.declared.limit.Limit.TheVariants.{Hold as HoldLimit, Freeze as FreezeLimit, Answer as AnswerLimit}
use Rattle.set_agenda.specs.declared.member.Member.{Member}
use Rattle.set_agenda.specs.Agenda.{Agenda, Open, groups_left, left, all_say, is_done, is_among, open_order, order_now, order_of, waits_now, next_member, same_order, same_place}
use Rattle.set_agenda.specs.Limits.{Running as RunningLimit, running_limits, spent_of, ticks_to_spend}
use Rattle.tick_limits.specs.Time.{default_freeze}

-- a group of orders that opened, with those who were asked
pub record OrderGroup : Type 0 where
  pub order : Order
  pub members : List ℕ

pub record Course : Type 0 where
  pub agenda : Option Agenda
  pub rows : List WriterRow
  -- the participants of the session's set, from the accepted `prepare` on
  pub members : List Member
  -- the writers named to be disabled in this session
  pub disabled : List ℕ
  -- of the session's set; Running before there is one
  pub outcome : SetOutcome
  -- in all sessions so far
  pub opened : List OrderGroup

abbrev pub course_start : List WriterRow → Course
course_start rows = record { agenda = None; rows = rows; members = []; disabled = []; outcome = Running; opened = [] }

-- ## orders

abbrev pub group_of_orders : Option Order → List ℕ → List OrderGroup
group_of_orders None ws = []
group_of_orders (Some o) ws = record { order = o; members = ws } ∷ []

-- the group of orders that is open after a call, where it was not open before
abbrev pub opens : List Open → List Open → List OrderGroup
opens before [] = []
opens [] (p ∷ ps) = group_of_orders (order_of p.place.group) p.waits
opens (o ∷ os) (p ∷ ps) = opens_if (same_place o.place p.place) p
  where
    opens_if : Bool → Open → List OrderGroup
    opens_if true p = []
    opens_if false p = group_of_orders (order_of p.place.group) p.waits

-- what comes of a call also has the group of orders that it opened. An empty group asks nobody, so nothing is missed
-- where a call passes it by
unfoldable pub posted : Course → Course → Course
posted before c = record c { opened = c.opened ++ opens (left before.agenda) (left c.agenda) }

-- how many groups of an order opened so far with the writer as a member: the `nth` of its open order
abbrev pub sent : Course → ℕ → Order → ℕ
sent c w o = count_by (λ g. same_order g.order o && is_among w g.members) c.opened

-- ## rows

-- f on the member at a place
abbrev pub change_at : {X : Type 0} → ℕ → (X → X) → List X → List X
change_at n f [] = []
change_at zero f (x ∷ xs) = f x ∷ xs
change_at (suc n) f (x ∷ xs) = x ∷ change_at n f xs

abbrev pub row_if : Bool → (WriterRow → WriterRow) → WriterRow → WriterRow
row_if true f r = f r
row_if false f r = r

-- f on the rows of the writers that pass; the first row is that of writer w
abbrev pub rows_where : (WriterRow → WriterRow) → (ℕ → Bool) → ℕ → List WriterRow → List WriterRow
rows_where f test w [] = []
rows_where f test w (r ∷ rs) = row_if (test w) f r ∷ rows_where f test (w + 1) rs

-- the writers that pass, as members
abbrev pub member_if : Bool → ℕ → WriterRow → List Member
member_if true w r = record { writer = w; level = r.level } ∷ []
member_if false w r = []

abbrev pub members_from : (ℕ → Bool) → ℕ → List WriterRow → List Member
members_from test w [] = []
members_from test w (r ∷ rs) = member_if (test w) w r ++ members_from test (w + 1) rs

abbrev pub is_member : List Member → ℕ → Bool
is_member ms w = list_any (λ (m : Member). m.writer == w) ms

abbrev pub row_failed : Option WriterRow → Bool
row_failed None = false
row_failed (Some r) = is_failed r.state

abbrev pub has_row_failed : List WriterRow → ℕ → Bool
has_row_failed rows w = row_failed (slice_get rows w)

-- ## a set fails, an agenda ends

-- In one move the agenda stops with all its open orders, and each participant that has not failed is told. What the
-- failure does to volumes and images is not the coordinator's.
unfoldable pub failed : VssResult → Course → Course
failed why c = record {
  agenda = None;
  rows = rows_where row_aborted (is_member c.members) 0 c.rows;
  members = c.members;
  disabled = c.disabled;
  outcome = Failed why;
  opened = c.opened;
}

abbrev pub outcome_after : Kind → SetOutcome → SetOutcome
outcome_after Gather o = o
outcome_after Prepare o = o
outcome_after Snapshot o = CompleteSet
outcome_after Complete o = o

abbrev pub settled_if : Bool → Kind → Course → Course
settled_if false k c = c
settled_if true k c = record c { agenda = None; outcome = outcome_after k c.outcome }

abbrev pub settled_in : Option Agenda → Course → Course
settled_in None c = c
settled_in (Some a) c = settled_if (is_done (groups_left a)) a.kind c

-- where the last group is closed the agenda ends, and with a snapshot's the set is complete
unfoldable pub settled : Course → Course
settled c = settled_in c.agenda c

-- ## an agenda begins

unfoldable pub begun : Kind → List Member → List ℕ → ℕ → Course → Course
begun k ms vs now c = posted c (settled (record c { agenda = Some (record { kind = k; members = ms; volumes = vs; begun = now; log = [] }) }))

-- `gather` asks every writer that is not disabled
abbrev pub gathered : (ℕ → Bool) → ℕ → Course → Course
gathered is_disabled now c =
    begun Gather (members_from (λ w. not (is_disabled w)) 0 c.rows) [] now (record c { rows = map row_gathered c.rows })

-- `prepare` fixes the participants and asks them
abbrev pub prepared : List ℕ → ℕ → Course → Course
prepared takers now c =
    let ms = members_from (λ w. is_among w takers) 0 c.rows in begun Prepare ms [] now (record c { members = ms })

-- `snapshot`
abbrev pub snapshot_begun : List ℕ → ℕ → Course → Course
snapshot_begun volumes now c = begun Snapshot c.members volumes now c

-- `complete` asks the participants that have not failed
abbrev pub completing : ℕ → Course → Course
completing now c = begun Complete (filter (λ m. not (has_row_failed c.rows m.writer)) c.members) [] now c

-- ## what is said

-- a veto to these orders, or its lost answer, fails the set
abbrev pub is_decisive : Order → Bool
is_decisive Identify = false
is_decisive PrepareBackup = true
is_decisive PrepareSnapshot = true
is_decisive Freeze = true
is_decisive Thaw = false
is_decisive PostSnapshot = false
is_decisive BackupComplete = false

-- writers say the same of the open order: it goes into the log and into their rows
unfoldable pub told : Order → Said → ℕ → List ℕ → Course → Course
told o said now ws c = record c {
  agenda = option_map (all_say said now ws) c.agenda;
  rows = rows_where (row_after o said) (λ w. is_among w ws) 0 c.rows;
}

abbrev pub error_of : Said → WriterError
error_of Ok = Timeout
error_of (Veto e) = e
error_of Lost = Timeout

abbrev pub decided : Bool → Said → Course → Course
decided true said c = failed (WriterFault (error_of said)) c
decided false said c = settled c

abbrev pub answered_to : Option Order → ℕ → Said → ℕ → Course → Course
answered_to None w said now c = c
answered_to (Some o) w said now c = decided (is_decisive o && not (is_ok said)) said (told o said now (w ∷ []) c)

-- a writer answers its open order
abbrev pub answered : ℕ → Said → ℕ → Course → Course
answered w said now c = posted c (answered_to (open_order (left c.agenda) w) w said now c)

-- ## the provider's steps

-- the provider has made the next step of the open group
unfoldable pub worked : ℕ → Course → Course
worked now c = record c { agenda = option_map (all_say Ok now (next_member (left c.agenda) ∷ [])) c.agenda }

abbrev pub stepped_as : Bool → ℕ → Course → Course
stepped_as true now c = settled (worked now c)
stepped_as false now c = failed UnexpectedProviderError c

-- the provider makes the next step, or a device fails it
abbrev pub stepped : Bool → ℕ → Course → Course
stepped ok now c = posted c (stepped_as ok now c)

-- ## time

abbrev pub limit_of : Option WriterRow → ℕ
limit_of None = default_freeze
limit_of (Some r) = r.limit

-- the one freeze limit of the set: the least time-out of its participants
abbrev pub freeze_limit : Course → ℕ
freeze_limit c = fold (λ l (m : Member). min l (limit_of (slice_get c.rows m.writer))) default_freeze c.members

abbrev pub limits_now : Course → List RunningLimit
limits_now c = running_limits (freeze_limit c) c.agenda

-- the ticks of an idle stretch: the least number that spends a running limit
abbrev pub idle_ticks : ℕ → Course → ℕ
idle_ticks now c = ticks_to_spend now (limits_now c)

-- the writers that a spent limit loses, all those with an open order, and the order
abbrev pub lost_at : Option RunningLimit → Option Order → List ℕ → List ℕ
lost_at None o ws = []
lost_at (Some l) None ws = []
lost_at (Some l) (Some o) ws = ws

abbrev pub lost_writers : ℕ → Course → List ℕ
lost_writers now c = lost_at (spent_of now (limits_now c)) (order_now (left c.agenda)) (waits_now (left c.agenda))

abbrev pub lost_to : Option Order → ℕ → Course → Course
lost_to None now c = c
lost_to (Some o) now c = told o Lost now (waits_now (left c.agenda)) c

-- each member with an open order is lost
abbrev pub lost : ℕ → Course → Course
lost now c = lost_to (order_now (left c.agenda)) now c

abbrev pub fails_set : Option Order → Bool
fails_set None = false
fails_set (Some o) = is_decisive o

abbrev pub lost_decided : Bool → Course → Course
lost_decided true c = failed WriterNotResponding c
lost_decided false c = settled c

abbrev pub treated_as : Limit → ℕ → Course → Course
treated_as HoldLimit now c = failed HoldWritesTimeout c
treated_as FreezeLimit now c = failed (WriterFault Timeout) (lost now c)
treated_as AnswerLimit now c = lost_decided (fails_set (order_now (left c.agenda))) (lost now c)

abbrev pub treated : Option RunningLimit → ℕ → Course → Course
treated None now c = c
treated (Some l) now c = treated_as l.limit now c

-- The clock stands at `now`: a limit that is spent is treated. One treatment is enough, since a failure ends the
-- agenda, and a group that a spent answer limit opens has limits that run from `now`.
abbrev pub timed : ℕ → Course → Course
timed now c = posted c (treated (spent_of now (limits_now c)) now c)

-- ## the session ends

-- a running agenda stops with all its open orders, and each writer that has neither failed nor is UNKNOWN is STABLE
unfoldable pub released : Course → Course
released c = record {
  agenda = None;
  rows = map row_ended c.rows;
  members = [];
  disabled = [];
  outcome = Running;
  opened = c.opened;
}
