-- A run as a machine that its actors step one at a time, and the actors that rest beside a turn. (This project's own.)
use Rattle.std.specs.List.{All, range_with_len}
use Rattle.std.specs.List.Sorted.{IsPermutation}
use Rattle.std.specs.Prelude.{ℕ, ◌≡◌, ◌≢◌, ◌++◌, ◌∷◌, [], List, Option, Some, None, option_to_list, ◌<◌, length, map, slice_get, Result, Ok, Err, IsErr, ◌⊎◌}
use Rattle.vss_names.specs.declared.out_of_memory.OutOfMemory.{OutOfMemory}
use Rattle.turn_cell.specs.History.{Leads, entries_of}
use Rattle.turn_cell.specs.declared.entry.Entry.{Entry}
use Rattle.turn_cell.specs.declared.view.Known.{Known}
use Rattle.volume_device.specs.declared.device.Device.{Ghosts}
use Rattle.write_history.specs.declared.actor.Actor.{Actor}
use Rattle.write_history.specs.declared.actor.Actor.TheVariants.{Lane, Writer, Advance}
use Rattle.write_history.specs.declared.move_item.Move.{Move}
use Rattle.scenario.specs.Plan.{Plan}
use Rattle.vss_play.specs.Played.{Played, IsKept, IsTurn, IsOnward, IsPlayedInTurn}
use Rattle.vss_play.specs.declared.moved.Moved.{Moved}
use Rattle.vss_play.specs.declared.moved.Moved.TheVariants.{Moved as HasMoved, Blocked, Finished}

-- ## The actors that rest beside a turn: one at a time has the floor, and the others get it in the order of a line. (This project's own.)

-- the floor stays with its holder, where that is another actor, and goes to nobody
abbrev pub StaysWithAnother : Option ℕ → ℕ → Option ℕ → Option ℕ → Type 0
StaysWithAnother before actor after next = (other : ℕ) → before ≡ Some other → other ≢ actor → (after ≡ Some other) × (next ≡ None)

-- an actor came into a line, and the next of it got the floor: nobody is lost, and no other is added
abbrev pub IsSeated : List ℕ → ℕ → Option ℕ → List ℕ → Type 0
IsSeated before actor next after = IsPermutation (before ++ actor ∷ []) (option_to_list next ++ after)

-- ## A run as a machine that its actors step one at a time: what an entry of its history is, what trail a history leads to, for what
-- reason an actor's loop ends, and what the history of a run in threads has. (This project's own.)

-- those who act in threads of their own: the lanes by number, the writers by number, and the provider
abbrev pub actors_in_threads : Plan → List Actor
actors_in_threads s = map (λ i. Lane i) (range_with_len 0 (length s.lanes)) ++ map (λ w. Writer w) (range_with_len 0 (length s.writers)) ++ Advance ∷ []

-- a move of the machine
abbrev pub IsStep : {D : Type 0} → Ghosts D → Played D → Actor → Moved → Played D → Type 0
IsStep ghosts before actor reply after = IsTurn ghosts before after actor (Ok reply)

-- an entry of the history
abbrev pub Turn : Type 0
Turn = Entry Actor Moved

-- the actor of an entry by which a move was made
abbrev pub mover_if : Actor → Result Moved OutOfMemory → List Actor
mover_if actor (Ok HasMoved) = actor ∷ []
mover_if actor (Ok Blocked) = []
mover_if actor (Ok Finished) = []
mover_if actor (Err e) = []

-- the actors of the entries by which a move was made, in order
abbrev pub movers : List Turn → List Actor
movers [] = []
movers (e ∷ es) = mover_if e.call e.answer ++ movers es

-- a run that went on by one move for each of these actors, in order
pub record IsLedBy {D : Type 0} (ghosts : Ghosts D) (old : Played D) (actors : List Actor) (new : Played D) : Type 0 where
  pub onward : IsOnward ghosts old new
  pub by : map (λ (m : Move). m.actor) onward.rest ≡ actors

-- a run that went on by these entries: its trail grew by one move for each entry by which a move was made, in order,
-- with that entry's actor
abbrev pub IsLed : {D : Type 0} → Ghosts D → Played D → List Turn → Played D → Type 0
IsLed ghosts old entries new = IsLedBy ghosts old (movers entries) new

-- ## an actor's loop

abbrev pub IsBlocked : Turn → Type 0
IsBlocked e = e.answer ≡ Ok Blocked

-- some more entries were made, all of this actor
pub record HasTurns (actor : Actor) (old new : List Turn) : Type 0 where
  pub more : List Turn
  pub is : new ≡ old ++ more
  pub of : All (λ e. e.call ≡ actor) more

-- the last of these entries answered so
pub record EndsWith (answer : Moved) (entries : List Turn) : Type 0 where
  pub before : List Turn
  pub last : Turn
  pub is : entries ≡ before ++ last ∷ []
  pub answered : last.answer ≡ Ok answer

-- at least so many entries, the last so many of which answered Blocked
pub record EndsBlocked (n : ℕ) (entries : List Turn) : Type 0 where
  pub before : List Turn
  pub last : List Turn
  pub is : entries ≡ before ++ last
  pub many : length last ≡ n
  pub blocked : All IsBlocked last

-- an actor left for a reason: its last entry answered Finished, or its last 1,000 answered Blocked
pub record HasLeft (old new : List Turn) : Type 0 where
  pub more : List Turn
  pub is : new ≡ old ++ more
  pub why : EndsWith Finished more ⊎ EndsBlocked 1000 more

-- an actor left because memory was wanting: its last entry answered so
pub record HasWanted (old new : List Turn) : Type 0 where
  pub more : List Turn
  pub is : new ≡ old ++ more
  pub before : List Turn
  pub last : Turn
  pub ends : more ≡ before ++ last ∷ []
  pub answered : IsErr last.answer

-- how far the loop has come: its entries so far, the last ones of which answered Blocked
pub record IsLooping (actor : Actor) (old new : List Turn) (blocked : ℕ) : Type 0 where
  pub more : List Turn
  pub is : new ≡ old ++ more
  pub of : All (λ e. e.call ≡ actor) more
  pub ends : EndsBlocked blocked more

-- ## a run in threads

-- what these entries, all that an actor made, are: calls of its own, until it left for a reason, which the last of them gives
pub record HasPlayed (actor : Actor) (entries : List Turn) : Type 0 where
  pub of : All (λ e. e.call ≡ actor) entries
  pub why : HasLeft [] entries ⊎ HasWanted [] entries

-- the caller of an actor, where there is one, made some more entries until it left
abbrev pub HasActed : Option Actor → Known Actor Moved → Known Actor Moved → Type 0
HasActed None old new = Unit {0}
HasActed (Some actor) old new = (new.number ≡ old.number) × HasTurns actor old.mine new.mine × (HasLeft old.mine new.mine ⊎ HasWanted old.mine new.mine)

-- The run went on by a history that has the entries of one caller for each actor, and no others, each of which called for its actor alone
-- until it left; the run then stood for its own trail, and the rest was made in turn.
pub record IsPlayedInThreads {D : Type 0} (ghosts : Ghosts D) (old new : Played D) : Type 0 where
  pub history : List Turn
  pub middle : Played D
  pub keeps : IsKept ghosts.told middle
  pub leads : Leads (λ before caller actor reply after. IsStep ghosts before actor reply after) old history middle
  pub callers : All (λ e. e.caller < length (actors_in_threads old.plan)) history
  pub each : (i : ℕ) (actor : Actor) → slice_get (actors_in_threads old.plan) i ≡ Some actor → HasPlayed actor (entries_of i history)
  pub in_turn : IsPlayedInTurn ghosts middle new
