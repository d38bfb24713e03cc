-- A volume history: the effective writes of a volume, in order, and the images of it that stand, oldest first.
-- An image is known by its set and by its point, the number of effective writes that came before its cut; what it
-- shows is read from the writes, so that nothing is ever copied here. (This project's own; a snapshot's point in
-- time is that of the SDK's overview of shadow copies.)
use Rattle.std.specs.Prelude.{ℕ, ◌<◌, ◌≤◌, Bool, List, [], ◌∷◌, ◌++◌, length, take, drop, map, filter, nat_lt, ◌==◌, not, if◌then◌else◌, Option, Some, None}
use Rattle.std.specs.List.{list_any, range_with_len}
use Rattle.block_data.specs.BlockBytes.{zeros}

-- an effective write: a block, and the bytes that it then has
pub record Write : Type 0 where
  pub block : ℕ
  pub bytes : List ℕ

pub record Image : Type 0 where
  pub set : ℕ
  pub point : ℕ

pub record History : Type 0 where
  pub writes : List Write
  pub images : List Image

-- a volume as it is opened: zeros, and no image
abbrev pub fresh : History
fresh = record { writes = []; images = [] }

-- ## content

-- the bytes of the last of these writes that names the block, or else those that were there before
abbrev pub last_bytes : ℕ → List ℕ → List Write → List ℕ
last_bytes b before [] = before
last_bytes b before (w ∷ ws) = last_bytes b (if w.block == b then w.bytes else before) ws

-- block b after the first k effective writes
abbrev pub content : List Write → ℕ → ℕ → List ℕ
content ws k b = last_bytes b zeros (take k ws)

-- the first n blocks, in order, after the first k effective writes
abbrev pub contents : ℕ → List Write → ℕ → List (List ℕ)
contents n ws k = map (content ws k) (range_with_len 0 n)

-- ## images

-- the point of a set's image, where it stands
abbrev pub point_in : ℕ → List Image → Option ℕ
point_in s [] = None
point_in s (i ∷ is) = if i.set == s then Some i.point else point_in s is

abbrev pub sets_of : List Image → List ℕ
sets_of is = map (λ i. i.set) is

-- the images but those of a set
abbrev pub without_set : ℕ → List Image → List Image
without_set s is = filter (λ i. not (i.set == s)) is

-- the images of the sets after s
abbrev pub after_set : ℕ → List Image → List Image
after_set s is = filter (λ i. nat_lt s i.set) is

-- the images of the sets up to s
abbrev pub up_to_set : ℕ → List Image → List Image
up_to_set s is = filter (λ i. not (nat_lt s i.set)) is

-- ## images in time

-- the images after one are of later sets, and have points that are no less
abbrev pub AreLater : Image → List Image → Type 0
AreLater i [] = Unit {0}
AreLater i (j ∷ js) = (i.set < j.set) × (i.point ≤ j.point) × AreLater i js

-- images rise in set, their points do not fall, and none is past the end of so many effective writes
abbrev pub AreInTime : ℕ → List Image → Type 0
AreInTime writes [] = Unit {0}
AreInTime writes (i ∷ images) = (i.point ≤ writes) × AreLater i images × AreInTime writes images

-- ## what a history becomes

-- one more effective write
abbrev pub written : Write → History → History
written w h = record { writes = h.writes ++ w ∷ []; images = h.images }

-- an image of set s is cut at the present end
abbrev pub cut : ℕ → History → History
cut s h = record { writes = h.writes; images = h.images ++ record { set = s; point = length h.writes } ∷ [] }

-- the image of set s goes
abbrev pub dropped : ℕ → History → History
dropped s h = record { writes = h.writes; images = without_set s h.images }

-- ## revert

abbrev pub names : List Write → ℕ → Bool
names ws b = list_any (λ w. w.block == b) ws

-- those of the first n blocks that these writes name, ascending
abbrev pub blocks_named : ℕ → List Write → List ℕ
blocks_named n ws = filter (names ws) (range_with_len 0 n)

-- the blocks that a revert to a point restores, ascending: those named since
abbrev pub to_restore : ℕ → List Write → ℕ → List ℕ
to_restore n ws point = blocks_named n (drop point ws)

-- block b as it was at a point, as a write
abbrev pub restoring : List Write → ℕ → ℕ → Write
restoring ws point b = record { block = b; bytes = content ws point b }

-- all blocks are restored: the writes are cut back to the point, and the newer images are gone
abbrev pub reverted : ℕ → ℕ → History → History
reverted s point h = record { writes = take point h.writes; images = up_to_set s h.images }

-- a device failed after k restored blocks: these are written once more, and the newer images are gone
abbrev pub reverted_in_part : ℕ → ℕ → ℕ → ℕ → History → History
reverted_in_part n s point k h = record {
  writes = h.writes ++ map (restoring h.writes point) (take k (to_restore n h.writes point));
  images = up_to_set s h.images;
}
