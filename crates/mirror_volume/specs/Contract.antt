-- What every volume with images promises of its calls, whatever holds its blocks: a relation to a volume history, and four numbers
-- that contracts see beside it: its blocks, the sets of its images, the cuts that it is ready for, and its count of faults; and the
-- slots for the copies that its images need, by which images go for a write. (This project's own.)
use Rattle.std.proofs.Common.{◌∙◌, ap, arith}
use Rattle.std.specs.Prelude.{ℕ, ◌≡◌, ◌<◌, ◌≤◌, ◌+◌, ◌⊎◌, Bool, true, false, List, [], ◌∷◌, length, is_some, Option, Some, None, Result, Ok, Err, map}
use Rattle.vss_names.specs.Faults.{Rose, all_counted}
use Rattle.write_history.specs.History.{History, Write, content, point_in, written, dropped, cut, sets_of}
use Rattle.write_history.specs.Slots.{evicted_up_to}
use Rattle.cow_volume.specs.Calls.{is_among, sets_in}
use Rattle.cow_volume.specs.StandsFor.{placed, GroupValue}
use Rattle.cow_volume.specs.OneVolume.{without_up_to, StandsForOne, image_sets}
use Rattle.cow_volume.specs.declared.cause.Cause.{Cause}
use Rattle.cow_volume.specs.declared.cause.Cause.TheVariants.{NoSuchBlock, Volume, Area}
use Rattle.cow_volume.specs.declared.image_fault.ImageFault.{ImageFault}
use Rattle.cow_volume.specs.declared.image_fault.ImageFault.TheVariants.{NoSuchImage, NoSuchBlock as NoBlock, Volume as VolumeFailed, Area as AreaFailed}
use Rattle.cow_volume.specs.declared.write_fault.WriteFault.{WriteFault}
use Rattle.cow_volume.specs.declared.written.Written.{Written}
use Rattle.cow_volume.proofs.Group.{place_at}

-- ## what every call keeps

-- whether it tells, how many blocks it has and how many slots there are never changes; its count does not fall
pub record IsSame {V : Type 0} (tells : V → Bool) (size : V → ℕ) (slots : V → Option ℕ) (count : V → ℕ) (old new : V) : Type 0 where
  pub tells_is : tells new ≡ tells old
  pub size_is : size new ≡ size old
  pub slots_is : slots new ≡ slots old
  pub later : count old ≤ count new

-- it is ready for no fewer cuts, or its count rose
abbrev pub IsNoLessReady : {V : Type 0} → (V → ℕ) → (V → ℕ) → V → V → Type 0
IsNoLessReady ready count old new = (ready old ≤ ready new) ⊎ Rose (count old) (count new)

-- it stands for what its history becomes
abbrev pub StandsAfter : {V : Type 0} → (V → History → Type 0) → V → V → (History → History) → Type 0
StandsAfter stands old new f = (h : History) → stands old h → stands new (f h)

-- ## writes

-- the images up to a set go for a write of block b of a volume of n blocks: as the definition of slots has it, where there are so many
-- for copies; none where the images need no copies
abbrev pub IsEvictedIn : Option ℕ → ℕ → ℕ → History → ℕ → Type 0
IsEvictedIn None n b h up_to = up_to ≡ 0
IsEvictedIn (Some slots) n b h up_to = (sets : ℕ) → ((set : ℕ) → is_some (point_in set h.images) ≡ true → set ≤ sets) → up_to ≡ evicted_up_to sets slots (placed (n ∷ [])) 0 b (h ∷ [])

-- likewise, for each history that the volume stands for
abbrev pub IsEvicted : {V : Type 0} → (V → History → Type 0) → (V → ℕ) → (V → Option ℕ) → V → ℕ → ℕ → Type 0
IsEvicted stands size slots v b up_to = (h : History) → stands v h → IsEvictedIn (slots v) (size v) b h up_to

-- the images up to a set are gone, as the definition has it, and there is one more effective write
pub record IsWritten {V : Type 0} (stands : V → History → Type 0) (size : V → ℕ) (slots : V → Option ℕ) (old new : V) (w : Write) (up_to : ℕ) : Type 0 where
  pub in_range : w.block < size old
  pub evicted : IsEvicted stands size slots old w.block up_to
  pub stands_for : StandsAfter stands old new (λ h. written w (without_up_to up_to h))

-- why a call on block b failed: just where there is no such block, or only where the count rose
abbrev pub HasBlockCause : {V : Type 0} → (V → ℕ) → (V → ℕ) → ℕ → V → V → Cause → Type 0
HasBlockCause size count b old new NoSuchBlock = size old ≤ b
HasBlockCause size count b old new Volume = (b < size old) × Rose (count old) (count new)
HasBlockCause size count b old new Area = (b < size old) × Rose (count old) (count new)

-- the images that went are gone all the same, and nothing else changed
pub record IsUnwritten {V : Type 0} (stands : V → History → Type 0) (size : V → ℕ) (slots : V → Option ℕ) (count : V → ℕ) (old new : V) (b : ℕ) (fault : WriteFault) : Type 0 where
  pub cause : HasBlockCause size count b old new fault.cause
  pub evicted : b < size old → IsEvicted stands size slots old b fault.evicted_up_to
  pub none : size old ≤ b → fault.evicted_up_to ≡ 0
  pub stands_for : StandsAfter stands old new (without_up_to fault.evicted_up_to)

abbrev pub IsWrite : {V : Type 0} → (V → History → Type 0) → (V → ℕ) → (V → Option ℕ) → (V → ℕ) → V → V → Write → Result Written WriteFault → Type 0
IsWrite stands size slots count old new w (Ok done) = IsWritten stands size slots old new w done.evicted_up_to
IsWrite stands size slots count old new w (Err fault) = IsUnwritten stands size slots count old new w.block fault

-- ## reads

-- it stands for what it stood for
abbrev pub StandsStill : {V : Type 0} → (V → History → Type 0) → V → V → Type 0
StandsStill stands old new = StandsAfter stands old new (λ h. h)

-- the bytes are those of block b now, where it tells
abbrev pub IsNow : {V : Type 0} → (V → History → Type 0) → (V → Bool) → V → ℕ → List ℕ → Type 0
IsNow stands tells v b bytes = (h : History) → stands v h → tells v ≡ true → bytes ≡ content h.writes (length h.writes) b

-- the bytes are those that the image of a set shows of block b, where it tells
abbrev pub IsShown : {V : Type 0} → (V → History → Type 0) → (V → Bool) → V → ℕ → ℕ → List ℕ → Type 0
IsShown stands tells v set b bytes = (h : History) (p : ℕ) → stands v h → tells v ≡ true → point_in set h.images ≡ Some p → bytes ≡ content h.writes p b

-- a block was read, or why it was not
abbrev pub IsRead : {V : Type 0} → (V → History → Type 0) → (V → Bool) → (V → ℕ) → (V → ℕ) → V → V → ℕ → List ℕ → Result Unit Cause → Type 0
IsRead stands tells size count old new b bytes (Ok done) = (b < size old) × IsNow stands tells old b bytes
IsRead stands tells size count old new b bytes (Err cause) = HasBlockCause size count b old new cause

-- why a call on block b of the image of a set failed: the first cause that stands
abbrev pub HasImageCause : {V : Type 0} → (V → ℕ) → (V → List ℕ) → (V → ℕ) → ℕ → ℕ → V → V → ImageFault → Type 0
HasImageCause size sets count set b old new NoSuchImage = is_among set (sets old) ≡ false
HasImageCause size sets count set b old new NoBlock = (is_among set (sets old) ≡ true) × (size old ≤ b)
HasImageCause size sets count set b old new VolumeFailed = (is_among set (sets old) ≡ true) × (b < size old) × Rose (count old) (count new)
HasImageCause size sets count set b old new AreaFailed = (is_among set (sets old) ≡ true) × (b < size old) × Rose (count old) (count new)

-- a block of an image was read, or why it was not
abbrev pub IsImageRead : {V : Type 0} → (V → History → Type 0) → (V → Bool) → (V → ℕ) → (V → List ℕ) → (V → ℕ) → V → V → ℕ → ℕ → List ℕ → Result Unit ImageFault → Type 0
IsImageRead stands tells size sets count old new set b bytes (Ok done) = (is_among set (sets old) ≡ true) × (b < size old) × IsShown stands tells old set b bytes
IsImageRead stands tells size sets count old new set b bytes (Err fault) = HasImageCause size sets count set b old new fault

-- ## images

-- the image of a set went, where it stood; else nothing changed
abbrev pub IsDropped : {V : Type 0} → (V → History → Type 0) → (V → List ℕ) → V → V → ℕ → Result Unit ImageFault → Type 0
IsDropped stands sets old new set (Ok done) = (is_among set (sets old) ≡ true) × StandsAfter stands old new (dropped set)
IsDropped stands sets old new set (Err fault) = (fault ≡ NoSuchImage) × (is_among set (sets old) ≡ false) × (new ≡ old)

-- an image was cut, just where the volume was ready, and at most so many of the cuts it is ready for are used up; else nothing changed
abbrev pub IsCut : {V E : Type 0} → (V → History → Type 0) → (V → ℕ) → ℕ → V → V → ℕ → Result Unit E → Type 0
IsCut stands ready per_cut old new set (Ok done) = (0 < ready old) × (ready old ≤ ready new + per_cut) × StandsAfter stands old new (cut set)
IsCut stands ready per_cut old new set (Err refused) = (ready old ≡ 0) × (new ≡ old)

-- ## A copy-on-write volume, as one of the volumes with images. (This project's own.)

-- the counts of its devices together
abbrev pub faults_of : {D : Type 0} → (D → ℕ) → GroupValue D → ℕ
faults_of count volume = all_counted (count volume.area.device) (map count volume.devices)

-- the slots for the copies of its images
abbrev pub slots_of : {D : Type 0} → GroupValue D → Option ℕ
slots_of volume = Some (length volume.area.records)

-- its sets are those of the images of its history
pub image_sets_are : {D : Type 0} → (told : D → Option (List (List ℕ))) (volume : GroupValue D) (h : History) → StandsForOne told volume h → image_sets volume ≡ sets_of h.images
image_sets_are told volume h stood =
    let within : 0 < length volume.area.volumes = (let one = stood.histories in omega arith) in
    let place = place_at told volume (h ∷ []) 0 stood within in
    ap sets_in place.sets_at ∙ place.stands.sets_are
