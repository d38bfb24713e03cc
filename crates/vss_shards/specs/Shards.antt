-- A shard: a volume with the list of its entries, what is read of it, the draft of a cut of several, and what stays so. (This project's own.)
use Rattle.std.specs.List.{Contains}
use Rattle.std.specs.Prelude.{ℕ, ◌≡◌, ◌<◌, ◌≤◌, ◌+◌, List, [], ◌∷◌, length, Option, None, IfSome, All, true, Some, ◌++◌, take, drop, slice_get, MatchOption}
use Rattle.volume_device.specs.declared.device.Device.{Ghosts}
use Rattle.write_history.specs.History.{History, Image, content, point_in}
use Rattle.cow_volume.specs.Calls.{IsQuiet}
use Rattle.cow_volume.specs.StandsFor.{GroupValue}
use Rattle.cow_volume.specs.OneVolume.{StandsForOne, tells}
use Rattle.vss_shards.specs.Journals.{writes_of, most_entries, most_volumes}
use Rattle.vss_shards.specs.declared.entry.Entry.{Entry}
use Rattle.vss_shards.specs.declared.part.Part.{Part}

-- ## A shard: a volume with the list of its entries and the points of its images, and what is always so of it. It stands for the
-- history of just these entries and images. While it is held for a cut, the part that was collected has the length of its list.
-- (This project's own.)

-- what a contract sees of a shard
pub record ShardValue (D : Type 0) : Type 0 where
  pub number : ℕ
  pub volume : GroupValue D
  pub entries : List Entry
  -- the images that stand, the oldest first, each with the number of entries at its cut
  pub images : List Image
  -- the last number that was given to an image, 0 at first
  pub last : ℕ
  pub held : Option Part

abbrev pub shard_value : {D : Type 0} → ℕ → GroupValue D → List Entry → List Image → ℕ → Option Part → ShardValue D
shard_value number volume entries images last held = record { number = number; volume = volume; entries = entries; images = images; last = last; held = held }

-- shards of these volumes of zeros, numbered from n
abbrev pub shards_from : {D : Type 0} → ℕ → List (GroupValue D) → List (ShardValue D)
shards_from n [] = []
shards_from n (volume ∷ volumes) = shard_value n volume [] [] 0 None ∷ shards_from (n + 1) volumes

-- the history that a shard stands for
abbrev pub history_of : List Entry → List Image → History
history_of entries images = record { writes = writes_of entries; images = images }

-- how many images a shard may have
abbrev pub most_images : ℕ
most_images = 512

-- the part for which a shard is held: the length of its list, and an image that is newer than all there
pub record IsHeldFor {D : Type 0} (s : ShardValue D) (p : Part) : Type 0 where
  pub volume : p.volume ≡ s.number
  pub count : p.count ≡ length s.entries
  pub image : p.image ≡ s.last
  pub above_zero : 0 < p.image
  pub newest : All (λ (i : Image). i.set < p.image) s.images
  pub room : length s.images < most_images

pub record IsShard {D : Type 0} (told : D → Option (List (List ℕ))) (s : ShardValue D) : Type 0 where
  pub in_range : s.number < most_volumes
  pub stands : StandsForOne told s.volume (history_of s.entries s.images)
  pub few : length s.entries ≤ most_entries
  pub numbered : All (λ (i : Image). i.set ≤ s.last) s.images
  pub collected : IfSome s.held (IsHeldFor s)

-- ## What is read of a shard: the volume after all entries of its list, and an image after the first so many.
-- (This project's own.)

-- the bytes are those of block b after all entries, where the devices tell
abbrev pub IsAfterAll : {D : Type 0} → (D → Option (List (List ℕ))) → ShardValue D → ℕ → List ℕ → Type 0
IsAfterAll told s b bytes = tells told s.volume ≡ true → bytes ≡ content (writes_of s.entries) (length s.entries) b

-- the bytes are those of block b after the first so many entries as the image's point says, where the devices tell
abbrev pub IsAtPoint : {D : Type 0} → (D → Option (List (List ℕ))) → ShardValue D → ℕ → ℕ → List ℕ → Type 0
IsAtPoint told s image b bytes = (point : ℕ) → point_in image s.images ≡ Some point → tells told s.volume ≡ true → bytes ≡ content (writes_of s.entries) point b

-- only the volume's devices may have changed, and of them only the counts of faults
pub record IsRead {D : Type 0} (ghosts : Ghosts D) (old new : ShardValue D) : Type 0 where
  pub shard : new ≡ shard_value old.number new.volume old.entries old.images old.last old.held
  pub quiet : IsQuiet ghosts old.volume new.volume

-- ## A draft of a cut: the parts that were collected and not given back yet, and the cut's number once it is recorded.
-- (This project's own.)

-- what a contract sees of a draft
pub record DraftValue : Type 0 where
  pub parts : List Part
  pub recorded : Option ℕ

abbrev pub AreParts : List Part → Type 0
AreParts parts = All (λ (p : Part). p.volume < most_volumes) parts

-- the draft has the part for which the shard is held
abbrev pub HasPartOf : {D : Type 0} → DraftValue → ShardValue D → Type 0
HasPartOf draft shard = MatchOption shard.held ⊥ (λ p. Contains draft.parts p)

-- a part went from the list
pub record IsTakenOut (part : Part) (old new : List Part) : Type 0 where
  pub place : ℕ
  pub is : slice_get old place ≡ Some part
  pub rest : new ≡ take place old ++ drop (place + 1) old

-- ## What a shard keeps from each call to all later ones: its number, its entries as a beginning, and what the number of an image
-- means. Once an image's number was given out and the shard is not held for it, no later image has that number, so that an image
-- with it is the one that was made then. (This project's own.)

-- the number was given out, and the shard is not held for its image
pub record IsSettled {D : Type 0} (s : ShardValue D) (image : ℕ) : Type 0 where
  pub given : image ≤ s.last
  pub free : IfSome s.held (λ (p : Part). image < p.image)

pub record GoesOn {D : Type 0} (old new : ShardValue D) : Type 0 where
  pub number : new.number ≡ old.number
  pub more : List Entry
  pub entries : new.entries ≡ old.entries ++ more
  pub settled : (image : ℕ) → IsSettled old image → IsSettled new image
  pub images : (image point : ℕ) → IsSettled old image → point_in image new.images ≡ Some point → point_in image old.images ≡ Some point
