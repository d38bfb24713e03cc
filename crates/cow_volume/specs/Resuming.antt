-- When a group is taken up again from its devices, its area and lists of its images, and how maps and pool are made then. (This project's own.)
use Rattle.std.specs.Prelude.{ℕ, Bool, true, false, zero, suc, ◌≡◌, List, [], ◌∷◌, length, map, Option, Some, None, slice_get, ◌<◌, IfSome, is_some}
use Rattle.write_history.specs.History.{History, contents, sets_of}
use Rattle.write_history.specs.Slots.{copies}
use Rattle.diff_map.specs.Copies.{MapValue, IsMap}
use Rattle.diff_map.specs.declared.copied.Copied.{Copied}
use Rattle.diff_area.specs.AreaValue.{AreaValue}
use Rattle.diff_area.specs.Copies.{AreHeld}
use Rattle.diff_area.specs.Format.{is_free}
use Rattle.diff_area.specs.declared.table_record.Record.{Record}
use Rattle.cow_volume.specs.Calls.{sets_in, is_among}
use Rattle.cow_volume.specs.StandsFor.{placed, AreImages, told_in}
use Rattle.cow_volume.specs.Parts.{copied_for}
use Rattle.cow_volume.specs.declared.resume_fault.ResumeFault.{ResumeFault}
use Rattle.cow_volume.specs.declared.resume_fault.ResumeFault.TheVariants.{NoImage, OutOfMemory}

-- ## How the maps and the pool are made where a group is taken up again: slot after slot. (This project's own.)

-- the first k members by one rule, and the others by another
abbrev pub mixed : {X Y : Type 0} → (X → Y) → (X → Y) → ℕ → List X → List Y
mixed f g zero xs = map g xs
mixed f g (suc k) [] = []
mixed f g (suc k) (x ∷ xs) = f x ∷ mixed f g k xs

-- the images of the first so many volumes, and none of the others
abbrev pub so_far : ℕ → List (List ℕ) → List (List ℕ)
so_far k images = mixed (λ sets. sets) (λ sets. []) k images

abbrev pub unnoted : Record → Option Copied
unnoted r = None

-- the map is that of volume v, and notes the slots of the first k records
pub record IsTakenUp (volumes : List ℕ) (records : List Record) (images : List (List ℕ)) (k v : ℕ) (m : MapValue) : Type 0 where
  pub blocks : slice_get volumes v ≡ Some m.blocks
  pub sets : slice_get images v ≡ Some m.images
  pub copies : m.copies ≡ mixed (copied_for v) unnoted k records
  pub valid : IsMap m

-- these are the maps of the first so many volumes
pub record AreTakenUp (volumes : List ℕ) (records : List Record) (images : List (List ℕ)) (k count : ℕ) (maps : List MapValue) : Type 0 where
  pub number : length maps ≡ count
  pub each : (v : ℕ) (m : MapValue) → slice_get maps v ≡ Some m → IsTakenUp volumes records images k v m

-- whether a slot is free, where all are, and where none is
abbrev pub unused : Record → Bool
unused r = true

abbrev pub used : Record → Bool
used r = false

-- ## When a group is taken up again from its devices, its area and lists of the sets of its images: which records have their image,
-- and what the parts have to hold so that the group stands for histories. (This project's own.)

-- ## records and images

-- a record is free, or its set has an image on its volume
abbrev pub HasImage : List (List ℕ) → Record → Type 0
HasImage images r = is_free r ≡ false → is_among r.set (sets_in (slice_get images r.volume)) ≡ true

-- each record has
abbrev pub AllHaveImages : List Record → List (List ℕ) → Type 0
AllHaveImages records images = (slot : ℕ) (r : Record) → slice_get records slot ≡ Some r → HasImage images r

-- the first record whose set has no image on its volume is that of this slot, and its set this one
pub record IsFirstWithoutImage (records : List Record) (images : List (List ℕ)) (slot set : ℕ) : Type 0 where
  pub row : Record
  pub row_is : slice_get records slot ≡ Some row
  pub used : is_free row ≡ false
  pub set_is : row.set ≡ set
  pub without : is_among set (sets_in (slice_get images row.volume)) ≡ false
  pub first : (earlier : ℕ) (r : Record) → earlier < slot → slice_get records earlier ≡ Some r → HasImage images r

-- why the group is not taken up again: the first record that lacks its image, or want of memory
abbrev pub IsResumeFault : List Record → List (List ℕ) → ResumeFault → Type 0
IsResumeFault records images (NoImage slot set) = IsFirstWithoutImage records images slot set
IsResumeFault records images OutOfMemory = Unit {0}

-- ## what the parts hold

-- a volume of n blocks: its device, where it tells, holds the contents after all writes of the history, and the list has the sets
-- of its images
pub record IsVolumeKept (told : Option (List (List ℕ))) (n : ℕ) (sets : List ℕ) (h : History) : Type 0 where
  pub blocks : IfSome told (λ blocks. blocks ≡ contents n h.writes (length h.writes))
  pub sets_are : sets ≡ sets_of h.images
  pub images : AreImages (length h.writes) h.images

-- the volumes do, and the area's device tells, and has the copies of the definitions by the area's records
pub record AreKept {D : Type 0} (told : D → Option (List (List ℕ))) (devices : List D) (area : AreaValue D) (images : List (List ℕ)) (hs : List History) : Type 0 where
  pub histories : length hs ≡ length area.volumes
  pub each : (v n : ℕ) (d : D) (sets : List ℕ) (h : History) → slice_get area.volumes v ≡ Some n → slice_get devices v ≡ Some d
      → slice_get images v ≡ Some sets → slice_get hs v ≡ Some h → IsVolumeKept (told d) n sets h
  pub tells : is_some (told area.device) ≡ true
  pub held : AreHeld (told area.device) area.records (copies (placed area.volumes) hs)

-- no volume's device tells what it holds, where the area's does; files tell nothing
abbrev pub NoneTell : {D : Type 0} → (D → Option (List (List ℕ))) → List D → D → Type 0
NoneTell {D = D} told devices area = (v : ℕ) (d : D) → slice_get devices v ≡ Some d → told_in (told area) (told d) ≡ None

-- the same of one volume with an area of its own
abbrev pub IsOneKept : {D : Type 0} → (D → Option (List (List ℕ))) → D → AreaValue D → List ℕ → History → Type 0
IsOneKept told device area sets h = AreKept told (device ∷ []) area (sets ∷ []) (h ∷ [])
