-- The slots of a diff area: how many the images of a group of volumes use, when a write needs one more, which
-- images go where none is left, and the copies that an area holds. A group is the volumes of one declared area, or
-- one volume alone. For each block that effective writes name between an image's point and the next standing image's
-- the area keeps the block as it was at that point. (Blocks copied before their first overwrite, and the oldest
-- shadow copies deleted first, are the SDK's; sharing by groups is this project's own.)
use Rattle.std.specs.Prelude.{ℕ, ◌+◌, Bool, false, List, [], ◌∷◌, ◌++◌, length, drop, map, ◌==◌, ◌&&◌, not, if◌then◌else◌, Option, Some, None, find, unwrap_or, slice_get, slice_range}
use Rattle.std.specs.List.{range_with_len}
use Rattle.write_history.specs.declared.evicted.Evicted.{Evicted}
use Rattle.write_history.specs.History.{Write, Image, History, content, names, blocks_named, after_set}

-- ## one volume

-- the effective writes from a point up to the next standing image's, or to the end
abbrev pub writes_since : List Write → ℕ → List Image → List Write
writes_since ws point [] = drop point ws
writes_since ws point (next ∷ newer) = slice_range ws point next.point

-- the blocks, of the first n, that are named between an image and the next newer one
abbrev pub named : ℕ → List Write → Image → List Image → List ℕ
named n ws i newer = blocks_named n (writes_since ws i.point newer)

-- how many slots the images of a volume of n blocks use
abbrev pub used : ℕ → List Write → List Image → ℕ
used n ws [] = 0
used n ws (i ∷ newer) = length (named n ws i newer) + used n ws newer

-- how many slots the image of set s uses
abbrev pub used_by : ℕ → List Write → List Image → ℕ → Option ℕ
used_by n ws [] s = None
used_by n ws (i ∷ newer) s = if i.set == s then Some (length (named n ws i newer)) else used_by n ws newer s

-- a write of block b needs a slot: an image stands, and b is not named since the newest
abbrev pub needs_slot : List Write → List Image → ℕ → Bool
needs_slot ws [] b = false
needs_slot ws (i ∷ []) b = not (names (writes_since ws i.point []) b)
needs_slot ws (i ∷ j ∷ newer) b = needs_slot ws (j ∷ newer) b

-- ## a group

-- a volume of the scenario, as a group sees it: its number of blocks, and whether it is of the group
pub record Placed : Type 0 where
  pub blocks : ℕ
  pub within : Bool

-- the slots that the images of the group use
abbrev pub group_used : List Placed → List History → ℕ
group_used [] hs = 0
group_used (p ∷ ps) [] = 0
group_used (p ∷ ps) (h ∷ hs) = (if p.within then used p.blocks h.writes h.images else 0) + group_used ps hs

-- the images of the sets up to m are gone, on each volume of the group
abbrev pub gone_up_to : ℕ → List Placed → List History → List History
gone_up_to m [] hs = hs
gone_up_to m (p ∷ ps) [] = []
gone_up_to m (p ∷ ps) (h ∷ hs) = (if p.within then record { writes = h.writes; images = after_set m h.images } else h) ∷ gone_up_to m ps hs

abbrev pub needs_slot_in : Option History → ℕ → Bool
needs_slot_in None b = false
needs_slot_in (Some h) b = needs_slot h.writes h.images b

-- a write of block b to volume v lacks its slot: it needs one, and all slots of the group are used
abbrev pub lacks_slot : ℕ → List Placed → ℕ → ℕ → List History → Bool
lacks_slot slots ps v b hs = needs_slot_in (slice_get hs v) b && (group_used ps hs == slots)

-- While a write lacks its slot, the images of the group's least set go together. So they go up to the least number
-- with which it does not lack one; 0 where none has to go. `sets` is at least the greatest set that has an image; beyond
-- that the result does not depend on it.
abbrev pub evicted_up_to : ℕ → ℕ → List Placed → ℕ → ℕ → List History → ℕ
evicted_up_to sets slots ps v b hs =
    unwrap_or (find (λ m. not (lacks_slot slots ps v b (gone_up_to m ps hs))) (range_with_len 0 sets)) sets

-- the images of a set on these volumes
abbrev pub evicted_of : ℕ → List ℕ → List Evicted
evicted_of n vs = map (λ v. record { set = n; volume = v }) vs

-- ## the copies of an area

-- a copy: the bytes that block `block` of the group's volume `volume` had at the cut of set `set`
pub record Copy : Type 0 where
  pub volume : ℕ
  pub set : ℕ
  pub block : ℕ
  pub bytes : List ℕ

abbrev pub copy_of : ℕ → List Write → Image → ℕ → Copy
copy_of v ws i b = record { volume = v; set = i.set; block = b; bytes = content ws i.point b }

-- the copies of volume v of the group, which has n blocks
abbrev pub copies_of : ℕ → ℕ → List Write → List Image → List Copy
copies_of v n ws [] = []
copies_of v n ws (i ∷ newer) = map (copy_of v ws i) (named n ws i newer) ++ copies_of v n ws newer

-- the copies of a group, whose volumes are numbered from v on
abbrev pub copies_from : ℕ → List Placed → List History → List Copy
copies_from v [] hs = []
copies_from v (p ∷ ps) [] = []
copies_from v (p ∷ ps) (h ∷ hs) =
    if p.within then copies_of v p.blocks h.writes h.images ++ copies_from (v + 1) ps hs else copies_from v ps hs

abbrev pub copies : List Placed → List History → List Copy
copies ps hs = copies_from 0 ps hs
