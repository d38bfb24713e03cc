-- The rule of the turn: what holds between any two steps of the words, of the machine at home and of what each seat
-- knows. In words (this project's own):
-- - what each caller has seen begins the history; a seat that speaks for nobody has seen nothing, holds no ticket and
--   has made no call (`Fits`, `Keeper []`);
-- - the ticket that is served is the number of entries, and the next one to be drawn is that number and the tickets
--   that are held (`serving`, `ticket`, `held`);
-- - the tickets that are held differ, since each has one holder, and lie from the one that is served up to below the
--   next one to be drawn (`Held`);
-- - the entries that the history has of a caller are its own, also where another seat speaks for it (`Fits`);
-- - no entry has the number of a caller that was not made (`callers`);
-- - only the holder of the ticket that is served has the machine out, and it has seen the whole history (`Knows`);
-- - where no seat has it out, the machine at home is in the state after the history (`home`).
-- An entry is noted beside the machine while it is out, and is in the history from the step on by which the machine
-- comes home. The words are those numbers modulo 2^64.
use Rattle.std.specs.Prelude.{ℕ, ◌≡◌, ◌+◌, ◌%◌, ◌^◌, ◌<◌, ◌≤◌, Bool, true, false, List, [], ◌∷◌, length, slice_index}
use Rattle.std.specs.List.{All, sum_by}
use mathlib.Core.List.{IsPrefix}
use mathlib.Core.Option.{some}
use lib.ListN.{get_elem?}
use Rattle.atomic_table.specs.Table.{State}
use Rattle.turn_cell.specs.declared.entry.Entry.{Entry}
use Rattle.turn_cell.specs.declared.desk.Desk.{Desk}
use Rattle.turn_cell.specs.declared.view.Known.{Known}
use Rattle.turn_cell.specs.declared.view.View.{View}
use Rattle.turn_cell.specs.declared.view.View.TheVariants.{Maker, Idle, Waiting, Holding, Keeper}
use Rattle.turn_cell.specs.History.{Leads, entries_of}

module _ {M C R : Type 0} where
  -- the callers for which the seat speaks
  abbrev pub knowns : View M C R → List (Known C R)
  knowns (Maker n) = []
  knowns (Idle k) = k ∷ []
  knowns (Waiting k t) = k ∷ []
  knowns (Holding k t m) = k ∷ []
  knowns (Keeper ks) = ks

  abbrev pub callers_in : View M C R → ℕ
  callers_in v = length (knowns v)

  -- how many tickets the seat holds
  abbrev pub tickets : View M C R → ℕ
  tickets (Waiting k t) = 1
  tickets (Holding k t m) = 1
  tickets _ = 0

  -- the turn is out with the seat
  abbrev pub is_out : View M C R → Bool
  is_out (Holding k t m) = true
  is_out _ = false

-- what one caller knows fits the history: it has seen a beginning of it, its entries in it are its own, it was made
pub record Fits {C R : Type 0} (log : List (Entry C R)) (made : ℕ) (owner : ℕ → ℕ) (seat : ℕ) (k : Known C R) : Type 0 where
  pub seen : IsPrefix k.seen log
  pub mine : entries_of k.number log ≡ k.mine
  pub made_is : k.number < made
  pub owner_is : owner k.number ≡ seat

-- a ticket that is held is neither served nor still to be drawn, and it has one holder
pub record Held (served drawn : ℕ) (holder : ℕ → ℕ) (seat ticket : ℕ) : Type 0 where
  pub unserved : served ≤ ticket
  pub drawn_is : ticket < drawn
  pub holder_is : holder ticket ≡ seat

module _ {M C R : Type 0} (log : List (Entry C R)) (now : M) (drawn made : ℕ) (holder owner : ℕ → ℕ) (seat : ℕ) where
  -- what each seat knows
  abbrev pub Knows : View M C R → Type 0
  Knows (Maker n) = (seat ≡ 0) × (n ≡ made)
  Knows (Idle k) = Fits log made owner seat k
  Knows (Waiting k t) = Fits log made owner seat k × Held (length log) drawn holder seat t
  Knows (Holding k t m) = Fits log made owner seat k × Held (length log) drawn holder seat t × (t ≡ length log) × (m ≡ now) × (k.seen ≡ log)
  Knows (Keeper ks) = All (Fits log made owner seat) ks

module _ {M C R : Type 0} where
  abbrev pub NoneOut : List (View M C R) → Type 0
  NoneOut views = (i : ℕ) (v : View M C R) → get_elem? views i ≡ some v → is_out v ≡ false

  -- the machine is at home, in this state
  pub record IsHome (now : M) (homes : List (mathlib.Core.Option.Option (Desk M C R))) : Type 0 where
    pub desk : Desk M C R
    pub here : get_elem? homes 0 ≡ some (some desk)
    pub state : desk.machine ≡ now

  pub record Orderly (steps : M → ℕ → C → R → M → Type 0) (opening : M) (seats : ℕ) (s : State (Desk M C R) (View M C R)) : Type 0 where
    -- the history, the state after it, the tickets drawn, the callers made, and who holds and owns what
    pub log : List (Entry C R)
    pub now : M
    pub drawn : ℕ
    pub made : ℕ
    pub holder : ℕ → ℕ
    pub owner : ℕ → ℕ
    pub history : Leads steps opening log now
    -- no entry has the number of a caller that was not made
    pub callers : All (λ e. e.caller < made) log
    -- the words count modulo 2^64
    pub serving : slice_index s.words 0 ≡ length log % 2 ^ 64
    pub ticket : slice_index s.words 1 ≡ drawn % 2 ^ 64
    -- each ticket that was drawn and is not served is held
    pub held : drawn ≡ length log + sum_by tickets s.views
    pub each : (i : ℕ) (v : View M C R) → get_elem? s.views i ≡ some v → Knows log now drawn made holder owner i v
    -- where the turn is out with no seat, the machine at home is in the state after the history
    pub home : NoneOut s.views → IsHome now s.homes
    -- each caller that was made has one seat
    pub given : sum_by callers_in s.views ≡ made
    pub many : length s.views ≡ made + 1
    pub few : (made ≤ seats) × (seats ≤ 256)
    pub wide : 2 ≤ length s.words
    pub deep : length s.homes ≡ 1
