-- An agenda: its groups in order, and the log of what was said since it began. From these follow the groups that are
-- not closed, the one that is open, and who is waited for; nothing else is kept. (The groups of a snapshot set and
-- their order are those of the SDK's DoSnapshotSet; the order of the Thaw groups is this project's own.)
use Rattle.std.specs.Prelude.{ℕ, ◌≡◌, Bool, true, false, List, [], ◌∷◌, ◌++◌, map, filter, ◌==◌, ◌&&◌, not, Option, Some, None}
use Rattle.std.specs.List.{list_any}
use Rattle.vss_names.specs.declared.order.Order.{Order}
use Rattle.vss_names.specs.declared.order.Order.TheVariants.{Identify, PrepareBackup, PrepareSnapshot, Freeze, Thaw, PostSnapshot, BackupComplete}
use Rattle.vss_names.specs.declared.level.Level.{Level}
use Rattle.vss_names.specs.declared.level.Level.TheVariants.{System, BackEnd, FrontEnd}
use Rattle.vss_names.specs.Level.{number_of}
use Rattle.writer_state.specs.declared.said.Said.{Said}
use Rattle.writer_state.specs.WriterState.{is_ok}
use Rattle.set_agenda.specs.declared.kind.Kind.{Kind}
use Rattle.set_agenda.specs.declared.kind.Kind.TheVariants.{Gather, Prepare, Snapshot, Complete}
use Rattle.set_agenda.specs.declared.group.Group.{Group}
use Rattle.set_agenda.specs.declared.group.Group.TheVariants.{Orders, PreCommit, Flush, Hold, Cut, Commit, Release, PostCommit}
use Rattle.set_agenda.specs.declared.place.Place.{Place}
use Rattle.set_agenda.specs.declared.member.Member.{Member}

-- ## groups

abbrev pub plain : Group → Place
plain g = record { group = g; level = None }

abbrev pub at_level : Order → Level → Place
at_level o l = record { group = Orders o; level = Some l }

-- the groups of an agenda, in order: freeze goes from the front end down to the system, thaw back up
abbrev pub places : Kind → List Place
places Gather = plain (Orders Identify) ∷ []
places Prepare = plain (Orders PrepareBackup) ∷ []
places Complete = plain (Orders BackupComplete) ∷ []
places Snapshot =
    plain (Orders PrepareSnapshot)
    ∷ at_level Freeze FrontEnd ∷ at_level Freeze BackEnd ∷ at_level Freeze System
    ∷ plain PreCommit ∷ plain Flush ∷ plain Hold ∷ plain Cut ∷ plain Commit ∷ plain Release ∷ plain PostCommit
    ∷ at_level Thaw System ∷ at_level Thaw BackEnd ∷ at_level Thaw FrontEnd
    ∷ plain (Orders PostSnapshot) ∷ []

-- numbers that tell groups, and levels, apart
abbrev pub order_code : Order → ℕ
order_code Identify = 0
order_code PrepareBackup = 1
order_code PrepareSnapshot = 2
order_code Freeze = 3
order_code Thaw = 4
order_code PostSnapshot = 5
order_code BackupComplete = 6

abbrev pub group_code : Group → ℕ
group_code (Orders Identify) = 0
group_code (Orders PrepareBackup) = 1
group_code (Orders PrepareSnapshot) = 2
group_code (Orders Freeze) = 3
group_code (Orders Thaw) = 4
group_code (Orders PostSnapshot) = 5
group_code (Orders BackupComplete) = 6
group_code PreCommit = 7
group_code Flush = 8
group_code Hold = 9
group_code Cut = 10
group_code Commit = 11
group_code Release = 12
group_code PostCommit = 13

abbrev pub level_code : Option Level → ℕ
level_code None = 0
level_code (Some l) = number_of l

abbrev pub same_order : Order → Order → Bool
same_order o p = order_code o == order_code p

abbrev pub same_place : Place → Place → Bool
same_place p q = (group_code p.group == group_code q.group) && (level_code p.level == level_code q.level)

-- the order that a group's members are told, where they are writers
abbrev pub order_of : Group → Option Order
order_of (Orders o) = Some o
order_of PreCommit = None
order_of Flush = None
order_of Hold = None
order_of Cut = None
order_of Commit = None
order_of Release = None
order_of PostCommit = None

-- whether a group is one of writers, or one of the provider's steps
abbrev pub is_orders : Group → Bool
is_orders (Orders o) = true
is_orders PreCommit = false
is_orders Flush = false
is_orders Hold = false
is_orders Cut = false
is_orders Commit = false
is_orders Release = false
is_orders PostCommit = false

-- whether a group has one step for each volume
abbrev pub is_over_volumes : Group → Bool
is_over_volumes (Orders o) = false
is_over_volumes PreCommit = false
is_over_volumes Flush = true
is_over_volumes Hold = true
is_over_volumes Cut = false
is_over_volumes Commit = true
is_over_volumes Release = true
is_over_volumes PostCommit = false

-- ## the log

-- what was said at a place, and when: by a writer, or by the provider for a volume; where the provider has one step, by 0
pub record Entry : Type 0 where
  pub place : Place
  pub who : ℕ
  pub said : Said
  pub time : ℕ

pub record Agenda : Type 0 where
  pub kind : Kind
  pub members : List Member
  -- in order of `add`
  pub volumes : List ℕ
  -- the clock when it began
  pub begun : ℕ
  pub log : List Entry

-- whether a writer has vetoed an order of this agenda, or its answer was lost
abbrev pub has_failed : List Entry → ℕ → Bool
has_failed log w = list_any (λ e. is_orders e.place.group && not (is_ok e.said) && (e.who == w)) log

-- whether the log has an entry of this member at a place
abbrev pub has_said : List Entry → Place → ℕ → Bool
has_said log p who = list_any (λ e. same_place e.place p && (e.who == who)) log

-- ## members

abbrev pub is_at : Option Level → Level → Bool
is_at None l = true
is_at (Some k) l = level_code (Some k) == level_code (Some l)

-- the writers of a level, or all
abbrev pub writers_at : List Member → Option Level → List ℕ
writers_at ms l = map (λ m. m.writer) (filter (λ m. is_at l m.level) ms)

-- the members of a group. PostSnapshot asks those that have not failed: who fails in PostSnapshot itself has been
-- asked and is not waited for again, so it does not matter that its entry counts here. In an agenda's first group the
-- members themselves are those that have not failed, and a veto to PrepareSnapshot or Freeze ends the agenda.
abbrev pub members_of : Agenda → Group → Option Level → List ℕ
members_of a (Orders Identify) l = writers_at a.members l
members_of a (Orders PrepareBackup) l = writers_at a.members l
members_of a (Orders PrepareSnapshot) l = writers_at a.members l
members_of a (Orders Freeze) l = writers_at a.members l
members_of a (Orders Thaw) l = writers_at a.members l
members_of a (Orders PostSnapshot) l = filter (λ w. not (has_failed a.log w)) (writers_at a.members l)
members_of a (Orders BackupComplete) l = writers_at a.members l
members_of a PreCommit l = 0 ∷ []
members_of a Flush l = a.volumes
members_of a Hold l = a.volumes
members_of a Cut l = 0 ∷ []
members_of a Commit l = a.volumes
members_of a Release l = a.volumes
members_of a PostCommit l = 0 ∷ []

-- the members of a group that are not in the log for it, in order
abbrev pub waited_for : Agenda → Place → List ℕ
waited_for a p = filter (λ who. not (has_said a.log p who)) (members_of a p.group p.level)

-- ## the groups that are left

-- a group that is not closed: its place, and who is waited for
pub record Open : Type 0 where
  pub place : Place
  pub waits : List ℕ

-- a group is closed where nobody is waited for
abbrev pub with_group : Place → List ℕ → List Open → List Open
with_group p [] later = later
with_group p (w ∷ ws) later = record { place = p; waits = w ∷ ws } ∷ later

abbrev pub left_from : Agenda → List Place → List Open
left_from a [] = []
left_from a (p ∷ ps) = with_group p (waited_for a p) (left_from a ps)

-- the groups that are not closed, in order. The first of them is the open group
abbrev pub groups_left : Agenda → List Open
groups_left a = left_from a (places a.kind)

-- the groups left of the agenda that runs, if one runs
abbrev pub left : Option Agenda → List Open
left None = []
left (Some a) = groups_left a

-- ## the open group

abbrev pub open_group : List Open → Option Group
open_group [] = None
open_group (o ∷ os) = Some o.place.group

abbrev pub open_level : List Open → Option Level
open_level [] = None
open_level (o ∷ os) = o.place.level

-- where an agenda stands; a place of no order where nothing is left
abbrev pub open_place : List Open → Place
open_place [] = plain PreCommit
open_place (o ∷ os) = o.place

-- who is waited for in the open group
abbrev pub waits_now : List Open → List ℕ
waits_now [] = []
waits_now (o ∷ os) = o.waits

-- the order of the open group
abbrev pub order_now : List Open → Option Order
order_now [] = None
order_now (o ∷ os) = order_of o.place.group

abbrev pub is_among : ℕ → List ℕ → Bool
is_among x xs = list_any (λ y. y == x) xs

-- whether a writer has an open order
abbrev pub is_asked : ℕ → List Open → Bool
is_asked w [] = false
is_asked w (o ∷ os) = is_orders o.place.group && is_among w o.waits

-- the order that a writer has to answer
abbrev pub order_if : Bool → Option Order → Option Order
order_if true o = o
order_if false o = None

abbrev pub open_order : List Open → ℕ → Option Order
open_order os w = order_if (is_asked w os) (order_now os)

-- whether a group of writers is open
abbrev pub is_asking : List Open → Bool
is_asking [] = false
is_asking (o ∷ os) = is_orders o.place.group

-- whether the provider has a step to make
abbrev pub is_working : List Open → Bool
is_working [] = false
is_working (o ∷ os) = not (is_orders o.place.group)

abbrev pub head_or_0 : List ℕ → ℕ
head_or_0 [] = 0
head_or_0 (w ∷ ws) = w

-- who makes the next step of the open group
abbrev pub next_member : List Open → ℕ
next_member [] = 0
next_member (o ∷ os) = head_or_0 o.waits

-- the volume of the provider's next step, where the open group has one step for each volume
abbrev pub volume_if : Bool → ℕ → Option ℕ
volume_if true v = Some v
volume_if false v = None

abbrev pub next_volume : List Open → Option ℕ
next_volume [] = None
next_volume (o ∷ os) = volume_if (is_over_volumes o.place.group) (head_or_0 o.waits)

-- the provider's next step: its group, and its volume where that has one step for each
abbrev pub step_of : Bool → Group → Option ℕ → Option (Group × Option ℕ)
step_of true g v = None
step_of false g v = Some (g, v)

abbrev pub next_step : List Open → Option (Group × Option ℕ)
next_step [] = None
next_step (o ∷ os) = step_of (is_orders o.place.group) o.place.group (next_volume (o ∷ os))

abbrev pub is_done : List Open → Bool
is_done [] = true
is_done (o ∷ os) = false

-- ## what is said

abbrev pub at_place : Place → Said → ℕ → ℕ → Entry
at_place p said now who = record { place = p; who = who; said = said; time = now }

-- each of these says the same at the open group's place
abbrev pub all_say : Said → ℕ → List ℕ → Agenda → Agenda
all_say said now whos a = record {
  kind = a.kind;
  members = a.members;
  volumes = a.volumes;
  begun = a.begun;
  log = a.log ++ map (at_place (open_place (groups_left a)) said now) whos;
}

-- ## frozen and held

abbrev pub is_freeze : Group → Bool
is_freeze (Orders Freeze) = true
is_freeze _ = false

abbrev pub is_thaw : Group → Bool
is_thaw (Orders Thaw) = true
is_thaw _ = false

-- the log has an ok of w to Freeze
abbrev pub has_frozen : List Entry → ℕ → Bool
has_frozen log w = list_any (λ e. is_freeze e.place.group && is_ok e.said && (e.who == w)) log

-- the log has something of w for Thaw
abbrev pub has_thawed : List Entry → ℕ → Bool
has_thawed log w = list_any (λ e. is_thaw e.place.group && (e.who == w)) log

abbrev pub is_snapshot : Kind → Bool
is_snapshot Gather = false
is_snapshot Prepare = false
is_snapshot Snapshot = true
is_snapshot Complete = false

-- a writer stands frozen from its ok to Freeze until something is said of it at Thaw
abbrev pub is_frozen : Option Agenda → ℕ → Bool
is_frozen None w = false
is_frozen (Some a) w = is_snapshot a.kind && has_frozen a.log w && not (has_thawed a.log w)

-- a volume is held from its Hold step until its Release step
abbrev pub is_held : Option Agenda → ℕ → Bool
is_held None v = false
is_held (Some a) v = is_snapshot a.kind && has_said a.log (plain Hold) v && not (has_said a.log (plain Release) v)

-- somebody is waited for at a place, of the groups left
abbrev pub is_waited_at : Place → ℕ → List Open → Bool
is_waited_at p who os = list_any (λ o. same_place o.place p && is_among who o.waits) os

-- Of the groups left, a held volume waits to be released and waits to be held no more.
abbrev pub is_held_now : List Open → ℕ → Bool
is_held_now os v = is_waited_at (plain Release) v os && not (is_waited_at (plain Hold) v os)

-- what is said of a volume at Hold is said of one of the agenda's volumes, as in every agenda that has come about
abbrev pub HoldsOwn : Agenda → Type 0
HoldsOwn a = (v : ℕ) → has_said a.log (plain Hold) v ≡ true → is_among v a.volumes ≡ true
