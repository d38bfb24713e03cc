-- A run whose order is drawn by a number. Before each move a place among the lanes, the writers and the provider is drawn, and the first
-- from that place on moves that can, once round; time goes by where none of them can. The draws are the words of SplitMix64, begun at
-- the number. So the order is a function of the number and the scenario. (This project's own.)
use Rattle.std.specs.Prelude.{ℕ, ◌≡◌, ◌%◌, ◌&&◌, not, Bool, true, false, List, [], ◌∷◌, ◌++◌, length, take, drop, find, Option, Some, None, Result, Ok, Err}
use Rattle.volume_device.specs.declared.device.Device.{Ghosts}
use Rattle.rand_xoshiro.specs.SplitMix64.{mix_u64}
use Rattle.vss_names.specs.declared.out_of_memory.OutOfMemory.{OutOfMemory}
use Rattle.write_history.specs.declared.actor.Actor.{Actor}
use Rattle.write_history.specs.declared.actor.Actor.TheVariants.{Idle}
use Rattle.write_history.specs.declared.move_item.Move.{Move}
use Rattle.scenario.specs.Plan.{Plan}
use Rattle.vss_model.specs.Trail.{run, may_move, is_complete}
use Rattle.vss_play.specs.Played.{Played, is_finished, IsMovedOn, IsOnward}
use Rattle.vss_play.specs.Acting.{actors_in_threads}

-- ## draws

-- the word that the generator gives next, and the generator after it
unfoldable pub word_of : ℕ → ℕ
word_of generator = (mix_u64 generator).0

unfoldable pub generator_after : ℕ → ℕ
generator_after generator = (mix_u64 generator).1

-- a place among so many
abbrev pub place_of : ℕ → ℕ → ℕ
place_of generator count = word_of generator % count

-- ## who moves

-- the actor has a move, and it may come
abbrev pub goes : Plan → List Move → Actor → Bool
goes s trail actor = may_move s (run s trail) actor && not (is_finished s trail actor)

-- a list from a place on, and then from its beginning
abbrev pub from_place : {X : Type 0} → ℕ → List X → List X
from_place k xs = drop k xs ++ take k xs

-- who is asked, in this order
abbrev pub asked_from : ℕ → List Actor → List Actor
asked_from k actors = from_place k actors ++ Idle ∷ []

-- who moves after these moves, by the draw of this generator
abbrev pub drawn_actor : Plan → ℕ → List Move → Option Actor
drawn_actor s generator trail =
    let actors = actors_in_threads s in find (goes s trail) (asked_from (place_of generator (length actors)) actors)

-- each of these moves is of the actor that was drawn after the moves before it
abbrev pub AreDrawn : Plan → ℕ → List Move → List Move → Type 0
AreDrawn s generator before [] = Unit {0}
AreDrawn s generator before (m ∷ ms) = (drawn_actor s generator before ≡ Some m.actor) × AreDrawn s (generator_after generator) (before ++ m ∷ []) ms

-- ## steps of a run

-- the first of these actors that goes made its move, or none of them goes
abbrev pub IsFirstToGo : {D : Type 0} → Ghosts D → Played D → Played D → List Actor → Result Bool OutOfMemory → Type 0
IsFirstToGo ghosts old new actors (Ok true) = (actor : Actor) × IsMovedOn ghosts old new actor × (find (goes old.plan old.trail) actors ≡ Some actor)
IsFirstToGo ghosts old new actors (Ok false) = (new ≡ old) × (find (goes old.plan old.trail) actors ≡ None)
IsFirstToGo ghosts old new actors (Err e) = Unit {0}

-- the move that is drawn was made, or none goes
abbrev pub IsDrawnMove : {D : Type 0} → Ghosts D → ℕ → Played D → Played D → Result Bool OutOfMemory → Type 0
IsDrawnMove ghosts generator old new result =
    let actors = actors_in_threads old.plan in IsFirstToGo ghosts old new (asked_from (place_of generator (length actors)) actors) result

-- a run that went on by drawn moves
pub record IsDrawing {D : Type 0} (ghosts : Ghosts D) (first generator : ℕ) (old new : Played D) : Type 0 where
  pub onward : IsOnward ghosts old new
  pub drawn : (rest : List Move) → AreDrawn old.plan generator new.trail rest → AreDrawn old.plan first old.trail (onward.rest ++ rest)

-- a run that went on by drawn moves to its end
pub record IsPlayedAsDrawn {D : Type 0} (ghosts : Ghosts D) (generator : ℕ) (old new : Played D) : Type 0 where
  pub onward : IsOnward ghosts old new
  pub complete : is_complete new.plan new.trail ≡ true
  pub drawn : AreDrawn old.plan generator old.trail onward.rest
