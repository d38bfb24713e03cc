-- What a contract sees of a group of volumes over one diff area, and the histories that it stands for, one for each volume.
use Rattle.std.specs.Prelude.{ℕ, true, List, map, ◌≡◌, ◌<◌, ◌≤◌, Bool, false, [], ◌∷◌, length, ◌==◌, if◌then◌else◌, Option, Some, None, is_some, IfSome}
use Rattle.std.specs.Prelude.{slice_get, All}
use Rattle.write_history.specs.History.{Write, Image, History, AreInTime, content, contents, point_in, names, sets_of}
use Rattle.write_history.specs.Slots.{Placed, writes_since}
use Rattle.diff_area.specs.AreaValue.{AreaValue}
use Rattle.diff_area.specs.Format.{place_of_slot}
use Rattle.diff_area.specs.declared.table_record.Record.{Record}

-- ## What a contract sees of a group of volumes over one diff area: the volumes' devices, the area with the record of each
-- slot, and for each volume the sets of its images, the oldest first. (This project's own.)

pub record GroupValue (D : Type 0) : Type 0 where
  -- one for each volume of the group, in order
  pub devices : List D
  pub area : AreaValue D
  pub images : List (List ℕ)

-- the group as the definitions of slots see it: all these volumes, with their numbers of blocks
abbrev pub placed : List ℕ → List Placed
placed volumes = map (λ n. record { blocks = n; within = true }) volumes

-- ## A group of copy-on-write volumes, and the histories that it stands for, one for each volume. A record stands for each
-- block that an image names, and for no other; its slot holds the block as it was at that image's point. (A block is
-- copied before its first overwrite since the newest cut, as in the Volume Shadow Copy Service; the relation is this
-- project's own.)

-- ## one volume

-- the images of a volume of so many effective writes: in time, each of a set above 0, and at most 512
pub record AreImages (writes : ℕ) (images : List Image) : Type 0 where
  pub in_time : AreInTime writes images
  pub above_zero : All (λ (i : Image). 0 < i.set) images
  pub few : length images ≤ 512

-- the image of a set names a block: it is written between the image's point and the next image's, or the end
abbrev pub is_named : List Write → List Image → ℕ → ℕ → Bool
is_named ws [] set b = false
is_named ws (i ∷ newer) set b = if i.set == set then names (writes_since ws i.point newer) b else is_named ws newer set b

-- the record of the copy of block b of volume v for the image of a set
abbrev pub record_of : ℕ → ℕ → ℕ → Record
record_of v set b = record { set = set; block = b; volume = v }

-- what a volume's device tells, where the area's device tells too
abbrev pub told_in : Option (List (List ℕ)) → Option (List (List ℕ)) → Option (List (List ℕ))
told_in None told = None
told_in (Some slots) told = told

-- Volume v of the group, which has n blocks, with the sets of its images, stands for a history. The first list of
-- blocks is what the volume's device tells where the area's device tells too, the second what the area's device tells.
-- What the two devices hold is known only where both tell: a revert writes to the volume what the slots hold.
pub record IsVolume (told slots : Option (List (List ℕ))) (records : List Record) (v n : ℕ) (sets : List ℕ) (h : History) : Type 0 where
  pub blocks : IfSome told (λ blocks. blocks ≡ contents n h.writes (length h.writes))
  pub sets_are : sets ≡ sets_of h.images
  pub images : AreImages (length h.writes) h.images
  pub named : (slot set b : ℕ) → 0 < set → slice_get records slot ≡ Some (record_of v set b) → is_named h.writes h.images set b ≡ true
  pub recorded : (set b : ℕ) → b < n → is_named h.writes h.images set b ≡ true → (slot : ℕ) × (slice_get records slot ≡ Some (record_of v set b))
  pub copied : (slot set b p : ℕ) → slice_get records slot ≡ Some (record_of v set b) → point_in set h.images ≡ Some p → is_some told ≡ true
      → IfSome slots (λ blocks. slice_get blocks (place_of_slot (length records) slot) ≡ Some (content h.writes p b))

-- ## the group

pub record StandsFor {D : Type 0} (told : D → Option (List (List ℕ))) (g : GroupValue D) (hs : List History) : Type 0 where
  pub devices : length g.devices ≡ length g.area.volumes
  pub images : length g.images ≡ length g.area.volumes
  pub histories : length hs ≡ length g.area.volumes
  pub each : (v n : ℕ) (d : D) (sets : List ℕ) (h : History) → slice_get g.area.volumes v ≡ Some n → slice_get g.devices v ≡ Some d
      → slice_get g.images v ≡ Some sets → slice_get hs v ≡ Some h → IsVolume (told_in (told g.area.device) (told d)) (told g.area.device) g.area.records v n sets h
