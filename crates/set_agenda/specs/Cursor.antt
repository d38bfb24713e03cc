-- How the code keeps an agenda: rows of its members by level, and a cursor, which is the number of the open group with
-- those that it waits for, or the number of its steps that are made. From these follow the groups that are left; the
-- groups after the open one are still as they open. (This project's own.)
use Rattle.std.specs.Prelude.{ℕ, ◌≡◌, ◌≤◌, Bool, true, false, List, [], ◌∷◌, drop, ◌==◌, ◌&&◌, not, Option, Some, None, if◌then◌else◌}
use Rattle.std.specs.List.{list_any}
use Rattle.vss_names.specs.declared.level.Level.{Level}
use Rattle.vss_names.specs.declared.level.Level.TheVariants.{System, BackEnd, FrontEnd}
use Rattle.vss_names.specs.declared.order.Order.TheVariants.{Identify, PrepareBackup, PrepareSnapshot, Freeze, Thaw, PostSnapshot, BackupComplete}
use Rattle.set_agenda.specs.declared.group.Group.{Group}
use Rattle.set_agenda.specs.declared.group.Group.TheVariants.{Orders, PreCommit, Flush, Hold, Cut, Commit, Release, PostCommit}
use Rattle.set_agenda.specs.declared.kind.Kind.{Kind}
use Rattle.set_agenda.specs.declared.place.Place.{Place}
use Rattle.set_agenda.specs.declared.member.Member.{Member}
use Rattle.set_agenda.specs.declared.rows.Rows.{Rows}
use Rattle.set_agenda.specs.declared.cursor.Cursor.{Cursor}
use Rattle.set_agenda.specs.Agenda.{Open, with_group, is_among, is_at, is_orders, is_over_volumes, places}
use Rattle.set_agenda.specs.Advance.{are_distinct}
use Rattle.set_agenda.specs.WriterSet.{is_nil, writers}

-- ## rows

-- the writers of a level, or all, in order
abbrev pub row_of : Option Level → List Member → List ℕ
row_of l ms = writers (λ w. list_any (λ (m : Member). is_at l m.level && (m.writer == w)) ms)

pub record HasLevels (r : Rows) (ms : List Member) : Type 0 where
  pub system : r.system ≡ row_of (Some System) ms
  pub back_end : r.back_end ≡ row_of (Some BackEnd) ms
  pub front_end : r.front_end ≡ row_of (Some FrontEnd) ms

-- the rows of an agenda with these members in which no writer has failed
pub record HasRows (r : Rows) (ms : List Member) : Type 0 where
  pub all : r.all ≡ row_of None ms
  pub unfailed : r.unfailed ≡ row_of None ms
  pub levels : HasLevels r ms

abbrev pub with_unfailed : Rows → List ℕ → Rows
with_unfailed r ws = record { all = r.all; system = r.system; back_end = r.back_end; front_end = r.front_end; unfailed = ws }

abbrev pub row_at : Rows → Option Level → List ℕ
row_at r None = r.all
row_at r (Some System) = r.system
row_at r (Some BackEnd) = r.back_end
row_at r (Some FrontEnd) = r.front_end

-- whom a group of writers asks as it opens
abbrev pub asked : Rows → Group → Option Level → List ℕ
asked r (Orders Identify) l = row_at r l
asked r (Orders PrepareBackup) l = row_at r l
asked r (Orders PrepareSnapshot) l = row_at r l
asked r (Orders Freeze) l = row_at r l
asked r (Orders Thaw) l = row_at r l
asked r (Orders PostSnapshot) l = r.unfailed
asked r (Orders BackupComplete) l = row_at r l
asked r PreCommit l = []
asked r Flush l = []
asked r Hold l = []
asked r Cut l = []
asked r Commit l = []
asked r Release l = []
asked r PostCommit l = []

-- ## the groups left

-- the provider's steps in a group
abbrev pub steps : List ℕ → Group → List ℕ
steps vs g = if is_over_volumes g then vs else 0 ∷ []

-- who is waited for as a group opens
abbrev pub fresh : Rows → List ℕ → Place → List ℕ
fresh r vs p = if is_orders p.group then asked r p.group p.level else steps vs p.group

abbrev pub left_fresh : Rows → List ℕ → List Place → List Open
left_fresh r vs [] = []
left_fresh r vs (p ∷ ps) = with_group p (fresh r vs p) (left_fresh r vs ps)

-- who is waited for in the open group
abbrev pub here : List ℕ → Cursor → Place → List ℕ
here vs c p = if is_orders p.group then c.waits else drop c.next (steps vs p.group)

-- what is left of these groups, of which the first is open
abbrev pub left_here : Rows → List ℕ → Cursor → List Place → List Open
left_here r vs c [] = []
left_here r vs c (p ∷ ps) = with_group p (here vs c p) (left_fresh r vs ps)

abbrev pub left_of : Kind → Rows → List ℕ → Cursor → List Open
left_of k r vs c = left_here r vs c (drop c.group (places k))

-- ## what holds of a cursor

abbrev pub first_place : List Place → Option Place
first_place [] = None
first_place (p ∷ ps) = Some p

-- somebody is waited for in the first of these groups
abbrev pub is_live : List ℕ → Cursor → List Place → Bool
is_live vs c [] = true
is_live vs c (p ∷ ps) = not (is_nil (here vs c p))

abbrev pub is_fresh_live : Rows → List ℕ → List Place → Bool
is_fresh_live r vs [] = true
is_fresh_live r vs (p ∷ ps) = not (is_nil (fresh r vs p))

pub record IsSound (k : Kind) (vs : List ℕ) (c : Cursor) : Type 0 where
  pub at_most : c.group ≤ 16
  pub live : is_live vs c (drop c.group (places k)) ≡ true
  pub distinct : are_distinct vs ≡ true

-- ## held volumes

-- whether a volume is held where this group is open, so many of whose steps are made
abbrev pub is_held_at : Group → ℕ → List ℕ → ℕ → Bool
is_held_at (Orders o) next vs v = false
is_held_at PreCommit next vs v = false
is_held_at Flush next vs v = false
is_held_at Hold next vs v = is_among v vs && not (is_among v (drop next vs))
is_held_at Cut next vs v = is_among v vs
is_held_at Commit next vs v = is_among v vs
is_held_at Release next vs v = is_among v (drop next vs)
is_held_at PostCommit next vs v = false

abbrev pub is_held_in : Option Place → ℕ → List ℕ → ℕ → Bool
is_held_in None next vs v = false
is_held_in (Some p) next vs v = is_held_at p.group next vs v
