-- What the order of an update says of a store: what it has in memory, and to what the head of a state that may be found opens, whatever has
-- lasted of the blocks that were written (PowerLoss.antt). (This project's own.)
use Rattle.std.specs.Prelude.{ℕ, ◌≡◌, ◌≢◌, ◌<◌, ◌⊎◌, Bool, true, List, [], ◌∷◌, length, Option, None, Some, slice_get, Result, Ok, Err, OnOk, ◌≤◌, map, take}
use Rattle.std.specs.Prelude.{count_by}
use Rattle.diff_map.specs.Copies.{AreImages}
use Rattle.cow_volume.specs.Calls.{is_among, sets_at}
use Rattle.cow_volume.specs.StandsFor.{GroupValue}
use Rattle.image_order.specs.declared.copied.Copied.{Copied}
use Rattle.image_order.specs.declared.copied.Copied.TheVariants.{All as Whole, UntilEvicted}
use Rattle.image_store.specs.Updating.{Gives, AreReady}
use Rattle.image_store.specs.Copying.{AreCopied, HasCopiesOf}
use Rattle.image_store.specs.Head.{head_of}
use Rattle.image_store.specs.Plain.{PlainStore, plain_at, image_of}
use Rattle.image_store.specs.PowerLoss.{AreFound, IsCommitted, IsUnderWay, OpensAsCommitted}
use Rattle.image_store.specs.Steps.{after}
use Rattle.image_store.specs.Steps.Step.{Gone}
use Rattle.image_store.specs.StoreValue.{StoreValue, StandsAs, StandsStill}
use Rattle.image_store.specs.declared.job.Job.{Job}

-- ## what is to be done

-- a volume that is brought to what a device tells: which one, and which of its blocks differ
pub record Aim : Type 0 where
  pub volume : ℕ
  pub told : Option (List (List ℕ))
  pub differs : List Bool

-- each of these is so
abbrev pub OfEach : {X : Type 0} → (X → Type 0) → List X → Type 0
OfEach {X = X} P xs = (k : ℕ) (x : X) → slice_get xs k ≡ Some x → P x

-- no two are of one volume
abbrev pub AreApart : List Aim → Type 0
AreApart aims = (i k : ℕ) (a b : Aim) → i < k → slice_get aims i ≡ Some a → slice_get aims k ≡ Some b → a.volume ≢ b.volume

-- the device tells what the marked blocks are brought to, and all others are as wanted
pub record IsReady (p : PlainStore) (aim : Aim) : Type 0 where
  pub wanted : List (List ℕ)
  pub gives : Gives aim.told aim.differs wanted
  pub ready : AreReady aim.differs wanted (plain_at p aim.volume).blocks 0

-- the volume has what was wanted of it, if it was ready for that
abbrev pub IsBrought : PlainStore → PlainStore → Aim → Type 0
IsBrought p later aim = (ready : IsReady p aim) → (plain_at later aim.volume).blocks ≡ ready.wanted

-- all marked blocks have copies for the newest image
abbrev pub IsCopied : {D : Type 0} → GroupValue D → Aim → Type 0
IsCopied g aim = AreCopied g aim.volume aim.differs 0 (length aim.differs)

-- ## in memory

-- this holds of all copies that a store stands for
abbrev pub OfAll : {D : Type 0} → (D → Option (List (List ℕ))) → StoreValue D → (PlainStore → Type 0) → Type 0
OfAll told s P = (p : PlainStore) → StandsAs told s p → P p

-- what the devices of all volumes tell lasts
abbrev pub AllLast : {D : Type 0} → (D → Option (List (List ℕ))) → (D → Option (List (List ℕ))) → GroupValue D → Type 0
AllLast {D = D} told lasting g = (v : ℕ) (d : D) → slice_get g.devices v ≡ Some d → lasting d ≡ told d

-- the images of the sets up to each of these numbers went, that of the last one first
abbrev pub without : List ℕ → PlainStore → PlainStore
without [] p = p
without (up_to ∷ earlier) p = after (without earlier p) (Gone up_to)

-- the store has these copies, but for images that went
pub record HasBut {D : Type 0} (told : D → Option (List (List ℕ))) (now : StoreValue D) (p : PlainStore) : Type 0 where
  pub gone : List ℕ
  pub stands : StandsAs told now (without gone p)

-- and the volumes are ready to be overwritten; where none is to be, no image went
pub record MayOverwrite {D : Type 0} (told : D → Option (List (List ℕ))) (aims : List Aim) (now : StoreValue D) (p : PlainStore) : Type 0 where
  pub gone : List ℕ
  pub none : aims ≡ [] → gone ≡ []
  pub stands : StandsAs told now (without gone p)
  pub ready : OfEach (IsReady (without gone p)) aims

-- the sets of each volume's images rise
abbrev pub AllImages : {D : Type 0} → GroupValue D → Type 0
AllImages g = (v : ℕ) (sets : List ℕ) → slice_get g.images v ≡ Some sets → AreImages sets

-- ## what copying makes of a store

-- No image that was committed is touched, and volumes and images are as they were, but for images that went. Each copy for a newest image is
-- there still.
pub record IsFurther {D : Type 0} (told : D → Option (List (List ℕ))) (old new : StoreValue D) : Type 0 where
  pub under_way : (committed : GroupValue D) (p : PlainStore) → StandsAs told old p → HasCopiesOf committed old.group → IsUnderWay told committed old.group → IsUnderWay told committed new.group
  pub stands : (p : PlainStore) → StandsAs told old p → HasBut told new p
  pub left : (set v : ℕ) → is_among set (sets_at new.group v) ≡ true → is_among set (sets_at old.group v) ≡ true
  pub copied : (v to : ℕ) (differs : List Bool) → AreCopied old.group v differs 0 to → AreCopied new.group v differs 0 to

-- copies were added, and none was lost
pub record HasMore {D : Type 0} (told : D → Option (List (List ℕ))) (old new : StoreValue D) : Type 0 where
  pub further : IsFurther told old new
  pub copies : HasCopiesOf old.group new.group
  pub still : StandsStill told old new

-- a pass of copying: images went only where it says so
abbrev pub IsCopyPass : {D E : Type 0} → (D → Option (List (List ℕ))) → StoreValue D → StoreValue D → Result Copied E → Type 0
IsCopyPass told old new (Ok Whole) = HasMore told old new
IsCopyPass told old new (Ok UntilEvicted) = IsFurther told old new
IsCopyPass told old new (Err failed) = HasMore told old new

-- ## what overwriting makes of it

-- what was committed has all its copies in memory, no image of it is touched, and the store has these copies now
pub record IsHeld {D : Type 0} (told : D → Option (List (List ℕ))) (committed : GroupValue D) (now : StoreValue D) (p : PlainStore) : Type 0 where
  pub stands : StandsAs told now p
  pub copies : HasCopiesOf committed now.group
  pub under_way : IsUnderWay told committed now.group

-- one volume was written, and no other; all of it, where no device failed
pub record IsWritten {D E : Type 0} (told : D → Option (List (List ℕ))) (committed : GroupValue D) (now : StoreValue D) (p : PlainStore) (aim : Aim)
    (r : Result Unit E) : Type 0 where
  pub later : PlainStore
  pub held : IsHeld told committed now later
  pub others : (u : ℕ) → u ≢ aim.volume → (plain_at later u).blocks ≡ (plain_at p u).blocks
  pub brought : OnOk r (IsBrought p later aim)

-- this is so of a volume that was held, ready and copied
abbrev pub IsOverwrite : {D E : Type 0} → (D → Option (List (List ℕ))) → Aim → StoreValue D → StoreValue D → Result Unit E → Type 0
IsOverwrite {D = D} told aim old new r = (committed : GroupValue D) (p : PlainStore) → IsReady p aim → IsCopied committed aim → IsHeld told committed old p
    → IsWritten told committed new p aim r

-- of the copies that a store had, the volumes have what was wanted of them, and all others are as they were
pub record AreBrought {D : Type 0} (told : D → Option (List (List ℕ))) (aims : List Aim) (now : StoreValue D) (p : PlainStore) : Type 0 where
  pub later : PlainStore
  pub stands : StandsAs told now later
  pub each : OfEach (IsBrought p later) aims
  pub others : (u : ℕ) → OfEach (λ aim. u ≢ aim.volume) aims → (plain_at later u).blocks ≡ (plain_at p u).blocks

-- all volumes were written, or some, until a device failed
abbrev pub AreAllWritten : {D E : Type 0} → (D → Option (List (List ℕ))) → List Aim → GroupValue D → StoreValue D → PlainStore → Result Unit E → Type 0
AreAllWritten told aims committed now p (Ok done) = (brought : AreBrought told aims now p) × IsHeld told committed now brought.later
AreAllWritten told aims committed now p (Err failed) = (later : PlainStore) × IsHeld told committed now later

-- this is so of volumes that were held, ready and copied
abbrev pub AreOverwritten : {D E : Type 0} → (D → Option (List (List ℕ))) → List Aim → StoreValue D → StoreValue D → Result Unit E → Type 0
AreOverwritten {D = D} told aims old new r = (committed : GroupValue D) (p : PlainStore) → AreApart aims → OfEach (IsReady p) aims
    → OfEach (IsCopied committed) aims
    → IsHeld told committed old p → AreAllWritten told aims committed new p r

-- ## on the disk

-- This is the head of a store that was committed with these copies, but for images that went, and no image of it was touched since. An image
-- that memory has is as it was.
pub record OpensBut {D : Type 0} (told : D → Option (List (List ℕ))) (now : StoreValue D) (h : List ℕ) (p : PlainStore) : Type 0 where
  pub gone : List ℕ
  pub store : StoreValue D
  pub head : h ≡ head_of store
  pub committed : IsCommitted told store (without gone p)
  pub under_way : IsUnderWay told store.group now.group
  pub left : (set v : ℕ) → is_among set (sets_at now.group v) ≡ true → image_of (without gone p) set v ≡ image_of p set v

-- and no copy of it is lost in memory
pub record HoldsBut {D : Type 0} (told : D → Option (List (List ℕ))) (now : StoreValue D) (h : List ℕ) (p : PlainStore) : Type 0 where
  pub opens : OpensBut told now h p
  pub copies : HasCopiesOf opens.store.group now.group
  pub here : HasBut told now p

-- and it has a copy of each block that is to be overwritten, on volumes that are ready
pub record CoversBut {D : Type 0} (told : D → Option (List (List ℕ))) (aims : List Aim) (now : StoreValue D) (h : List ℕ) (p : PlainStore) : Type 0 where
  pub holds : HoldsBut told now h p
  pub apart : AreApart aims
  pub copied : OfEach (IsCopied holds.opens.store.group) aims
  pub here : MayOverwrite told aims now p

-- ## what is found

-- each of these is the head of the store, which was committed
abbrev pub IsHeadOf : {D : Type 0} → (D → Option (List (List ℕ))) → StoreValue D → List ℕ → Type 0
IsHeadOf told s h = (h ≡ head_of s) × OfAll told s (IsCommitted told s)

-- Whatever has lasted of the blocks that were written, this head opens, to these images: one that memory has is as it was, and each other one
-- is as it was or went.
pub record FoundBut {D : Type 0} (told : D → Option (List (List ℕ))) (now : StoreValue D) (p : PlainStore) (h : List ℕ) : Type 0 where
  pub kept : PlainStore
  pub store : StoreValue D
  pub head : h ≡ head_of store
  pub opens : (found : List (List (List ℕ))) (area : List (List ℕ)) → AreFound told store.group now.group found area → OpensAsCommitted told store kept found area
  pub images : (set v : ℕ) → is_among set (sets_at now.group v) ≡ true → image_of kept set v ≡ image_of p set v
  pub others : (set v : ℕ) → (image_of kept set v ≡ image_of p set v) ⊎ (image_of kept set v ≡ None)

-- ## The jobs of an update, as a contract sees them. (This project's own.)

-- what is to be done
abbrev pub aim_of : {I : Type 0} → (I → Option (List (List ℕ))) → Job I → Aim
aim_of told job = record { volume = job.volume; told = told job.input; differs = job.differs.items }

abbrev pub aims_of : {I : Type 0} → (I → Option (List (List ℕ))) → List (Job I) → List Aim
aims_of told jobs = map (aim_of told) jobs

-- how many of the first blocks are marked
abbrev pub marked_in : ℕ → List Bool → ℕ
marked_in blocks differs = count_by (λ mark. mark) (take blocks differs)

-- what of it was copied: the marked blocks before the next one
abbrev pub AreCopiedSoFar : {D I : Type 0} → GroupValue D → List (Job I) → Type 0
AreCopiedSoFar g jobs = OfEach (λ job. AreCopied g job.volume job.differs.items 0 job.at) jobs

-- and each volume is ready for its device
pub record AreBegun {D I : Type 0} (told : D → Option (List (List ℕ))) (told_in : I → Option (List (List ℕ))) (s : StoreValue D)
    (jobs : List (Job I)) : Type 0 where
  pub so_far : AreCopiedSoFar s.group jobs
  pub ready : OfAll told s (λ p. OfEach (IsReady p) (aims_of told_in jobs))

-- no block is left to be copied
abbrev pub AreAtTheirEnd : {I : Type 0} → List (Job I) → Type 0
AreAtTheirEnd jobs = OfEach (λ job. length job.differs.items ≤ job.at) jobs
