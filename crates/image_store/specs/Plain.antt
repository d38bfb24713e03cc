-- Whole copies: what each volume has now, and for each of its images a copy of all that the volume had at the image's cut. This is the
-- second reading of a store of images: no slot, no block that is shared, nothing that is evicted by itself. (This project's own.)
use Rattle.std.specs.Prelude.{ℕ, zero, suc, ◌≤◌, List, [], ◌∷◌, ◌++◌, length, map, filter, replicate, nat_lt, not, ◌==◌, if◌then◌else◌, Option, Some, None, slice_get}
use Rattle.block_data.specs.BlockBytes.{zeros}
use Rattle.write_history.specs.History.{History, Image, Write, contents}

-- an image: its set, and the blocks that the volume had at its cut
pub record Kept : Type 0 where
  pub set : ℕ
  pub blocks : List (List ℕ)

-- a volume: its blocks now, and its images, the oldest first
pub record Plain : Type 0 where
  pub blocks : List (List ℕ)
  pub images : List Kept

-- all volumes, and the last set that was given
pub record PlainStore : Type 0 where
  pub volumes : List Plain
  pub last : ℕ

-- ## a place

abbrev pub plain_in : Option Plain → Plain
plain_in None = record { blocks = []; images = [] }
plain_in (Some p) = p

-- volume v of these
abbrev pub volume_in : List Plain → ℕ → Plain
volume_in ps v = plain_in (slice_get ps v)

abbrev pub plain_at : PlainStore → ℕ → Plain
plain_at s v = volume_in s.volumes v

-- what a set's image has, where it stands
abbrev pub image_in : ℕ → List Kept → Option (List (List ℕ))
image_in set [] = None
image_in set (k ∷ ks) = if k.set == set then Some k.blocks else image_in set ks

-- the sets of the images
abbrev pub sets_on : Plain → List ℕ
sets_on p = map (λ k. k.set) p.images

-- the image of a set of volume v
abbrev pub image_of : PlainStore → ℕ → ℕ → Option (List (List ℕ))
image_of s set v = image_in set (plain_at s v).images

-- ## what a volume becomes

abbrev pub cut_on : ℕ → Plain → Plain
cut_on set p = record { blocks = p.blocks; images = p.images ++ record { set = set; blocks = p.blocks } ∷ [] }

-- the images of the sets up to this one are gone
abbrev pub gone_on : ℕ → Plain → Plain
gone_on up_to p = record { blocks = p.blocks; images = filter (λ k. nat_lt up_to k.set) p.images }

-- it has these blocks
abbrev pub with_blocks : List (List ℕ) → Plain → Plain
with_blocks blocks p = record { blocks = blocks; images = p.images }

abbrev pub dropped_on : ℕ → Plain → Plain
dropped_on set p = record { blocks = p.blocks; images = filter (λ k. not (k.set == set)) p.images }

-- the images that are newer than that of a set are gone
abbrev pub older_on : ℕ → Plain → Plain
older_on set p = record { blocks = p.blocks; images = filter (λ k. not (nat_lt set k.set)) p.images }

abbrev pub back_to : Plain → Option (List (List ℕ)) → List (List ℕ)
back_to p None = p.blocks
back_to p (Some blocks) = blocks

-- it is brought back to the image of a set, which stays
abbrev pub reverted_on : ℕ → Plain → Plain
reverted_on set p = with_blocks (back_to p (image_in set p.images)) (older_on set p)

-- ## what all volumes become

-- f of volume v
abbrev pub on_volume : ℕ → (Plain → Plain) → List Plain → List Plain
on_volume v f [] = []
on_volume zero f (p ∷ ps) = f p ∷ ps
on_volume (suc v) f (p ∷ ps) = p ∷ on_volume v f ps

-- f of each of these volumes, one after another
abbrev pub on_each : List ℕ → (Plain → Plain) → List Plain → List Plain
on_each [] f ps = ps
on_each (v ∷ vs) f ps = on_each vs f (on_volume v f ps)

abbrev pub changed : List ℕ → (Plain → Plain) → PlainStore → PlainStore
changed vs f s = record { volumes = on_each vs f s.volumes; last = s.last }

abbrev pub all_changed : (Plain → Plain) → PlainStore → PlainStore
all_changed f s = record { volumes = map f s.volumes; last = s.last }

-- ## the sets that were given

-- the images are of sets up to this one
abbrev pub AreGiven : ℕ → List Kept → Type 0
AreGiven last [] = Unit {0}
AreGiven last (k ∷ ks) = (k.set ≤ last) × AreGiven last ks

-- those of all volumes are
abbrev pub AllGiven : ℕ → List Plain → Type 0
AllGiven last [] = Unit {0}
AllGiven last (p ∷ ps) = AreGiven last p.images × AllGiven last ps

-- ## the whole copies of a history

-- a volume of n blocks with this history of effective writes
abbrev pub kept_of : ℕ → List Write → Image → Kept
kept_of n ws i = record { set = i.set; blocks = contents n ws i.point }

abbrev pub plain_of : ℕ → History → Plain
plain_of n h = record { blocks = contents n h.writes (length h.writes); images = map (kept_of n h.writes) h.images }

-- the volumes of these numbers of blocks
abbrev pub plains_of : List ℕ → List History → List Plain
plains_of [] hs = []
plains_of (n ∷ ns) [] = []
plains_of (n ∷ ns) (h ∷ hs) = plain_of n h ∷ plains_of ns hs

-- volumes of zeros, of which no set was cut
abbrev pub fresh_store : List ℕ → PlainStore
fresh_store volumes = record { volumes = map (λ n. record { blocks = replicate n zeros; images = [] }) volumes; last = 0 }
