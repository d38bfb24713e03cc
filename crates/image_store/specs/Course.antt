-- What holds of every list of steps, in the words of a person who keeps files in a store; and that a list of calls is a list of steps.
-- (This project's own.)
use Rattle.std.specs.Prelude.{ℕ, ◌≡◌, ◌<◌, ◌⊎◌, true, List, [], ◌∷◌, ◌++◌, length, Option, Some, None}
use Rattle.io_edge.specs.Streams.{Took}
use Rattle.cow_volume.specs.Calls.{is_among}
use Rattle.image_store.specs.FileBytes.{blocks_of_file, file_in, FitsIn}
use Rattle.image_store.specs.Plain.{PlainStore, plain_at, image_of}
use Rattle.image_store.specs.Steps.{Step, AreAllowed, after_all, stays}
use Rattle.image_store.specs.Steps.Step.{Cut, Shown, Read}
use Rattle.image_store.specs.StoreValue.{StoreValue, StandsAs}
use Rattle.image_store.specs.declared.which.Which.{Which}
use Rattle.image_store.specs.declared.which.Which.TheVariants.{Now, Of}

-- An image that was cut has, until it goes, the blocks that its volume had at that cut, whatever else was done.
abbrev pub ImagesAreOfTheirCut : Type 0
ImagesAreOfTheirCut = (s : PlainStore) (earlier later : List Step) (set v : ℕ) (vs : List ℕ) → AreAllowed s (earlier ++ Cut set vs ∷ later)
    → v < length s.volumes → is_among v vs ≡ true → stays set v later ≡ true
    → image_of (after_all s (earlier ++ Cut set vs ∷ later)) set v ≡ Some (plain_at (after_all s earlier) v).blocks

-- among these steps the set was cut over the volume, which then had these blocks, and its image did not go since
pub record IsCutIn (s : PlainStore) (steps : List Step) (set v : ℕ) (blocks : List (List ℕ)) : Type 0 where
  pub earlier : List Step
  pub later : List Step
  pub vs : List ℕ
  pub steps_are : steps ≡ earlier ++ Cut set vs ∷ later
  pub over : is_among v vs ≡ true
  pub had : blocks ≡ (plain_at (after_all s earlier) v).blocks
  pub stayed : stays set v later ≡ true

-- An image that stands was there at first and never went, or it is that of a cut among the steps.
abbrev pub ImagesComeOfCuts : Type 0
ImagesComeOfCuts = (s : PlainStore) (steps : List Step) (set v : ℕ) (blocks : List (List ℕ)) → AreAllowed s steps → image_of (after_all s steps) set v ≡ Some blocks
    → ((image_of s set v ≡ Some blocks) × (stays set v steps ≡ true)) ⊎ IsCutIn s steps set v blocks

-- What is shown of an image of a store that had none at first is the file that the image's volume had at a cut among the steps before.
abbrev pub ShownIsOfItsCut : Type 0
ShownIsOfItsCut = (s : PlainStore) (steps later : List Step) (set v : ℕ) (shown : List ℕ) → ((n u : ℕ) → image_of s n u ≡ None)
    → AreAllowed s (steps ++ Shown set v shown ∷ later) → (blocks : List (List ℕ)) × IsCutIn s steps set v blocks × (shown ≡ file_in blocks)

-- No set is cut twice, so that cut is the set's one cut.
abbrev pub SetsAreCutOnce : Type 0
SetsAreCutOnce = (s : PlainStore) (earlier between later : List Step) (set : ℕ) (vs ws : List ℕ) → AreAllowed s (earlier ++ Cut set vs ∷ between ++ Cut set ws ∷ later) → ⊥

-- A file that a volume holds when a set is cut over it, and that is shown of the image later, comes back byte for byte, whatever was done
-- between.
abbrev pub FilesComeBack : Type 0
FilesComeBack = (s : PlainStore) (earlier between later : List Step) (file shown : List ℕ) (n set v : ℕ) (vs : List ℕ) → FitsIn n file
    → (plain_at (after_all s earlier) v).blocks ≡ blocks_of_file n file → AreAllowed s (earlier ++ Cut set vs ∷ between ++ Shown set v shown ∷ later)
    → v < length s.volumes → is_among v vs ≡ true → shown ≡ file

-- ## calls

-- calls took these steps, from a store that stood for copies to this one
pub record AreTaken {D : Type 0} (told : D → Option (List (List ℕ))) (p : PlainStore) (steps : List Step) (new : StoreValue D) : Type 0 where
  pub allowed : AreAllowed p steps
  pub stands : StandsAs told new (after_all p steps)

-- Calls that follow one another took the steps of the first, and then those of the others.
abbrev pub CallsFollowOneAnother : {D : Type 0} → (D → Option (List (List ℕ))) → Type 0
CallsFollowOneAnother {D = D} told = (p : PlainStore) (first others : List Step) (middle new : StoreValue D)
    → AreTaken told p first middle → AreTaken told (after_all p first) others new → AreTaken told p (first ++ others) new

-- these bytes were shown of a volume, or of its image of a set
abbrev pub show_of : ℕ → Which → List ℕ → Step
show_of v Now bytes = Read v bytes
show_of v (Of set) bytes = Shown set v bytes

-- a show took that step, with the bytes that the sink took, where it tells them
abbrev pub IsShowStep : {D : Type 0} → (D → Option (List (List ℕ))) → StoreValue D → StoreValue D → ℕ → Which → Option (List ℕ) → Option (List ℕ) → Type 0
IsShowStep told old new v which before after = (p : PlainStore) → StandsAs told old p
    → (bytes : List ℕ) × Took before bytes after × AreTaken told p (show_of v which bytes ∷ []) new
