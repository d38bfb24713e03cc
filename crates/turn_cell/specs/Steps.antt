-- What each kind of step tells the seat that makes it: of what it found, and of what the seat knows and holds
-- afterwards. (This project's own.)
use Rattle.std.specs.Prelude.{ℕ, ◌≡◌, ◌≢◌, ◌+◌, ◌%◌, ◌^◌, Some, List, [], ◌∷◌, ◌++◌, length}
use Rattle.atomic_table.specs.Table.{Me, Step}
use Rattle.turn_cell.specs.declared.entry.Entry.{Entry}
use Rattle.turn_cell.specs.declared.desk.Desk.{Desk}
use Rattle.turn_cell.specs.declared.desk.Note.{Note}
use Rattle.turn_cell.specs.declared.view.Known.{Known}
use Rattle.turn_cell.specs.declared.view.View.{View}
use Rattle.turn_cell.specs.declared.view.View.TheVariants.{Maker, Idle, Waiting, Holding, Keeper}
use Rattle.turn_cell.specs.History.{Makes, entries_of}
use Rattle.turn_cell.specs.Rule.{knowns}

module _ {C R : Type 0} where
  -- the caller has seen more of the history
  abbrev pub seeing : Known C R → List (Entry C R) → Known C R
  seeing k more = record k { seen = k.seen ++ more }

  -- the caller has made one more entry, and has seen it
  abbrev pub having : Known C R → Entry C R → Known C R
  having k e = record k { seen = k.seen ++ e ∷ []; mine = k.mine ++ e ∷ [] }

  -- the entry of a caller that the note beside the machine tells
  abbrev pub noted : ℕ → Note C R → Entry C R
  noted n note = record { caller = n; call = note.call.value; answer = note.answer.value }

  abbrev pub newcomer : ℕ → Known C R
  newcomer n = record { number = n; seen = []; mine = [] }

abbrev Sat : Type 0 → Type 0 → Type 0 → Type 0
Sat M C R = Me (Desk M C R) (View M C R)

abbrev At : Type 0 → Type 0 → Type 0 → Type 0
At M C R = Step (Desk M C R)

module _ {M C R : Type 0} where
  -- what a seat knows as one caller
  abbrev pub known : View M C R → Known C R
  known (Idle k) = k
  known (Waiting k t) = k
  known (Holding k t m) = k
  known (Maker n) = newcomer 0
  known (Keeper ks) = newcomer 0

  abbrev pub ticket_of : View M C R → ℕ
  ticket_of (Waiting k t) = t
  ticket_of (Holding k t m) = t
  ticket_of _ = 0

  -- it sees the history of this moment, and finds its length
  abbrev pub looked : At M C R → Sat M C R → ℕ → Sat M C R → Type 0
  looked st m r m' = (more : List (Entry C R)) × (m' ≡ (Idle (seeing (known m.0) more), m.1))
      × (entries_of (known m.0).number ((known m.0).seen ++ more) ≡ (known m.0).mine) × (r ≡ length ((known m.0).seen ++ more) % 2 ^ 64)

  -- it holds a ticket, whose number it finds
  abbrev pub drew : At M C R → Sat M C R → ℕ → Sat M C R → Type 0
  drew st m r m' = (t : ℕ) × (m' ≡ (Waiting (known m.0) t, m.1)) × (r ≡ t % 2 ^ 64)

  -- the seat has seen more of the history, and has taken the machine
  abbrev pub Takes : Sat M C R → Sat M C R → Type 0
  Takes m m' = (more : List (Entry C R)) × (d : Desk M C R) × (m' ≡ (Holding (seeing (known m.0) more) (ticket_of m.0) d.machine, (0, d) ∷ m.1))

  -- where it finds its own ticket served, it takes the machine; else nothing changes
  abbrev pub awaited : At M C R → Sat M C R → ℕ → Sat M C R → Type 0
  awaited st m r m' = (r ≡ ticket_of m.0 % 2 ^ 64 → Takes m m') × (r ≢ ticket_of m.0 % 2 ^ 64 → m' ≡ m)

  -- the machine is at home again, and the history has the entry that was noted beside it
  abbrev pub served : At M C R → Sat M C R → ℕ → Sat M C R → Type 0
  served st m r m' = (d : Desk M C R) (note : Note C R) → m.1 ≡ (0, d) ∷ [] → d.note ≡ Some note
      → (m' ≡ (Idle (having (known m.0) (noted (known m.0).number note)), []))
      × (entries_of (known m.0).number ((known m.0).seen ++ noted (known m.0).number note ∷ []) ≡ (known m.0).mine ++ noted (known m.0).number note ∷ [])
      × (r ≡ length (known m.0).seen % 2 ^ 64)

  -- nothing of the rule changes
  abbrev pub rang : At M C R → Sat M C R → ℕ → Sat M C R → Type 0
  rang st m r m' = m' ≡ m

  -- the maker after one more caller, and what that caller knows
  abbrev pub one_more : View M C R → View M C R
  one_more (Maker n) = Maker (n + 1)
  one_more v = v

  abbrev pub made_by : View M C R → View M C R
  made_by (Maker n) = Idle (newcomer n)
  made_by _ = Keeper []

  -- a seat that speaks for the callers of both
  abbrev pub taken_in : View M C R → View M C R → View M C R
  taken_in v w = Keeper (knowns w ++ knowns v)

  abbrev pub spent : View M C R
  spent = Keeper []

-- the seat has the machine out, with a note of this entry beside it, which the machine's move made
pub record Carries {M C R : Type 0} (steps : M → ℕ → C → R → M → Type 0) (m : Sat M C R) (e : Entry C R) : Type 0 where
  pub before : M
  pub desk : Desk M C R
  pub note : Note C R
  pub holds : m ≡ (Holding (known m.0) (ticket_of m.0) before, (0, desk) ∷ [])
  pub is_noted : desk.note ≡ Some note
  pub entry_is : noted (known m.0).number note ≡ e
  pub makes : Makes steps before e desk.machine
