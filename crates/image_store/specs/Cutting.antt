-- Why no set is cut, which sets have an image after a change, and what a revert comes to. (The most images are the Volume Shadow Copy Service's.)
use Rattle.std.specs.Prelude.{ℕ, ◌≡◌, ◌<◌, ◌≤◌, ◌+◌, ◌-◌, ◌^◌, ◌⊎◌, true, All, List, length, slice_get, Some, ◌==◌, not, if◌then◌else◌, filter, nat_lt, Option}
use Rattle.std.specs.Prelude.{false, None, Result, Ok, Err}
use Rattle.write_history.specs.History.{History}
use Rattle.cow_volume.specs.Calls.{is_among, sets_at}
use Rattle.cow_volume.specs.StandsFor.{GroupValue, StandsFor}
use Rattle.cow_volume.specs.declared.revert_fault.RevertFault.{RevertFault}
use Rattle.cow_volume.specs.declared.revert_fault.RevertFault.TheVariants.{NoSuchImage, Fault}
use Rattle.image_store.specs.Plain.{PlainStore, image_of}
use Rattle.image_store.specs.Steps.{IsAllowed, after}
use Rattle.image_store.specs.Steps.Step.{Reverted, RevertedInPart}
use Rattle.image_store.specs.StoreValue.{StoreValue, StandsAs}
use Rattle.image_store.specs.declared.cut_fault.CutFault.{CutFault}
use Rattle.image_store.specs.declared.cut_fault.CutFault.TheVariants.{NoNextSet, TooManyImages}

-- ## Why no set is cut: nothing changes. (The most images of a volume are the Volume Shadow Copy Service's; set numbers are this project's own.)

-- this volume is the first of these that has as many images as there may be
pub record IsFirstFull {D : Type 0} (g : GroupValue D) (vs : List ℕ) (v : ℕ) : Type 0 where
  pub place : ℕ
  pub at : slice_get vs place ≡ Some v
  pub full : 512 ≤ length (sets_at g v)
  pub first : (earlier u : ℕ) → earlier < place → slice_get vs earlier ≡ Some u → length (sets_at g u) < 512

-- the set was the last that was given, or an image is of it
abbrev pub IsGiven : {D : Type 0} → GroupValue D → ℕ → ℕ → Type 0
IsGiven g last set = (last ≡ set) ⊎ ((v : ℕ) × (is_among set (sets_at g v) ≡ true))

-- the greatest of that and of the sets of all images
pub record IsGreatestSet {D : Type 0} (g : GroupValue D) (last greatest : ℕ) : Type 0 where
  pub given : IsGiven g last greatest
  pub least : last ≤ greatest
  pub all : (v : ℕ) → All (λ s. s ≤ greatest) (sets_at g v)

-- the set that is cut: the next after all that were given; and each of these volumes has room for its image
pub record IsNextSet {D : Type 0} (s : StoreValue D) (vs : List ℕ) (set : ℕ) : Type 0 where
  pub greatest : ℕ
  pub before : IsGreatestSet s.group s.last greatest
  pub next : set ≡ greatest + 1
  pub room : All (λ v. length (sets_at s.group v) < 512) vs

-- why none is: there is no number after the greatest, or else a volume has no room
abbrev pub IsCutRefused : {D : Type 0} → StoreValue D → List ℕ → CutFault → Type 0
IsCutRefused s vs NoNextSet = IsGreatestSet s.group s.last (2 ^ 32 - 1)
IsCutRefused s vs (TooManyImages v) = IsFirstFull s.group vs v × ((greatest : ℕ) × IsGreatestSet s.group s.last greatest × (greatest < 2 ^ 32 - 1))

-- ## Which sets have an image, on each volume, after a call that changed those of one: of each group that stands for histories, as one does
-- whose devices tell nothing. (This project's own.)

-- all but this set
abbrev pub other_sets : ℕ → List ℕ → List ℕ
other_sets set sets = filter (λ s. not (s == set)) sets

-- those up to this set
abbrev pub sets_up_to : ℕ → List ℕ → List ℕ
sets_up_to set sets = filter (λ s. not (nat_lt set s)) sets

-- the sets of volume v are what f leaves of them, and those of the others are as they were
abbrev pub AreListsOf : {D : Type 0} → (D → Option (List (List ℕ))) → GroupValue D → GroupValue D → ℕ → (List ℕ → List ℕ) → Type 0
AreListsOf told old new v f = (hs : List History) → StandsFor told old hs → (u : ℕ) → u < length old.area.volumes
    → sets_at new u ≡ (if u == v then f (sets_at old u) else sets_at old u)

-- ## What a revert of a volume to the image of a set comes to. (This project's own.)

abbrev pub IsRevert : {D : Type 0} → (D → Option (List (List ℕ))) → StoreValue D → PlainStore → ℕ → ℕ → Result Unit RevertFault → Type 0
IsRevert told new p set v (Ok done) = IsAllowed p (Reverted set v) × StandsAs told new (after p (Reverted set v))
IsRevert told new p set v (Err NoSuchImage) = (image_of p set v ≡ None) × StandsAs told new p
-- a device failed: the newer images are gone, and each block is as before or as in the image
IsRevert told new p set v (Err (Fault restored cause)) = (now : List (List ℕ)) × IsAllowed p (RevertedInPart set v now) × StandsAs told new (after p (RevertedInPart set v now))

-- whether the image stood, and which images are left
abbrev pub HasLists : {D : Type 0} → (D → Option (List (List ℕ))) → StoreValue D → StoreValue D → ℕ → ℕ → Result Unit RevertFault → Type 0
HasLists told old new set v (Ok done) = (is_among set (sets_at old.group v) ≡ true) × AreListsOf told old.group new.group v (sets_up_to set)
HasLists told old new set v (Err NoSuchImage) = (is_among set (sets_at old.group v) ≡ false) × (new ≡ old)
HasLists told old new set v (Err (Fault restored cause)) = (is_among set (sets_at old.group v) ≡ true) × AreListsOf told old.group new.group v (sets_up_to set)
