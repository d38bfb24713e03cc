-- In which order an update copies, commits and overwrites: what a folder, and the passes over a store, are as a call begins and as it ends.
-- (This project's own.)
use Rattle.std.specs.Prelude.{ℕ, ◌≡◌, ◌⊎◌, Bool, false, List, Option, Some, None}
use Rattle.image_order.specs.Found.{AreAll, AreAmong, AreEither}
use Rattle.image_order.specs.declared.name.Name.TheVariants.{State, Marker}
use Rattle.image_order.specs.declared.passes.Passes.{Ghosts as Passing}
use Rattle.image_order.specs.declared.state_folder.StateFolder.{Ghosts as Folding}

-- ## states

-- Each state that may be found is one of whose copies none was given up, and memory has the same images.
pub record IsSettled {F P E J : Type 0} (f : Folding F E) (p : Passing P E J) (jobs : J) (folder : F) (first now : P) : Type 0 where
  pub states : AreAll (p.holds first now) (f.found folder State)
  pub stands : p.stands jobs first now

-- then each that may be found opens to the images from before the call
abbrev pub KeepsImages : {F P E J : Type 0} → Folding F E → Passing P E J → J → F → P → F → P → Type 0
KeepsImages {P = P} f p jobs folder passes after done = (first : P) → IsSettled f p jobs folder first passes → AreAll (p.opens first done) (f.found after State)

-- so it is behind the call, too
abbrev pub StaysSettled : {F P E J : Type 0} → Folding F E → Passing P E J → J → F → P → J → F → P → Type 0
StaysSettled {P = P} f p jobs folder passes left after done = (first : P) → IsSettled f p jobs folder first passes → IsSettled f p left after first done

-- and has copies of all that is to be overwritten
abbrev pub IsCovered : {F P E J : Type 0} → Folding F E → Passing P E J → J → F → P → J → F → P → Type 0
IsCovered {P = P} f p jobs folder passes left after done = (first : P) → IsSettled f p jobs folder first passes
    → AreAll (p.covers left first done) (f.found after State)

-- each opens as before the call, or to what is in memory
abbrev pub IsReplaced : {F P E J : Type 0} → Folding F E → Passing P E J → J → F → P → F → P → Type 0
IsReplaced {P = P} f p jobs folder passes after done = (before first : P) → AreAll (p.opens before passes) (f.found folder State) → p.stands jobs first passes
    → AreAll (λ h. p.opens before done h ⊎ p.opens first done h) (f.found after State)

-- each opens to what is in memory
abbrev pub OpensAsNow : {F P E J : Type 0} → Folding F E → Passing P E J → J → P → F → P → Type 0
OpensAsNow {P = P} f p jobs passes after done = (first : P) → p.stands jobs first passes → AreAll (p.opens first done) (f.found after State)

-- and memory has its copies
abbrev pub HoldsAsNow : {F P E J : Type 0} → Folding F E → Passing P E J → J → P → F → P → Type 0
HoldsAsNow {P = P} f p jobs passes after done = (first : P) → p.stands jobs first passes → AreAll (p.holds first done) (f.found after State)

-- and if memory has copies of all that is to be overwritten, each has them
abbrev pub CoversAsNow : {F P E J : Type 0} → Folding F E → Passing P E J → J → P → F → P → Type 0
CoversAsNow {P = P} f p jobs passes after done = (first : P) → p.stands jobs first passes → p.is_copied jobs
    → AreAll (p.covers jobs first done) (f.found after State)

-- ## memory and volumes

abbrev pub StillStands : {P E J : Type 0} → Passing P E J → J → P → P → Type 0
StillStands {P = P} p jobs old new = (first : P) → p.stands jobs first old → p.stands jobs first new

-- and what the jobs that are left ask for is what these ask for
pub record IsGoneOn {P E J : Type 0} (p : Passing P E J) (jobs : J) (passes : P) (left : J) (done : P) : Type 0 where
  pub stands : (first : P) → p.stands jobs first passes → p.stands left first done
  pub asked : (first now : P) → p.is_brought left first now → p.is_brought jobs first now

-- the volumes have what the jobs ask for
abbrev pub AreBrought : {P E J : Type 0} → Passing P E J → J → P → P → Type 0
AreBrought {P = P} p jobs passes done = (first : P) → p.stands jobs first passes → p.is_brought jobs first done

-- they have what they had of what any jobs ask for
abbrev pub StaysBrought : {P E J : Type 0} → Passing P E J → P → P → Type 0
StaysBrought {P = P} {J = J} p old new = (asked : J) (first : P) → p.is_brought asked first old → p.is_brought asked first new

-- no block of a volume was written
abbrev pub WritesNone : {P E J : Type 0} → Passing P E J → P → P → Type 0
WritesNone {P = P} p old new = (first : P) → p.is_before first old → p.is_before first new

-- or the jobs say that one may have been
abbrev pub SaysTorn : {P E J : Type 0} → Passing P E J → J → P → P → Type 0
SaysTorn p jobs old new = p.is_torn jobs ⊎ WritesNone p old new

-- ## markers

-- it has these lines, or no block was written, and it is one that was there, or none if no volume was in transit
abbrev pub IsOf : {F P E J : Type 0} → Folding F E → Passing P E J → List ℕ → Bool → F → P → P → Option (List ℕ) → Type 0
IsOf f p lines was_torn folder first done file = (file ≡ Some lines) ⊎ (p.is_before first done × (f.found folder Marker file ⊎ ((file ≡ None) × (was_torn ≡ false))))

-- there is none, and all volumes last
abbrev pub IsGone : {P E J : Type 0} → Passing P E J → J → P → Option (List ℕ) → Type 0
IsGone p jobs done file = (file ≡ None) × p.lasts jobs done

-- each that may be found is of the first kind
abbrev pub IsNamed : {F P E J : Type 0} → Folding F E → Passing P E J → List ℕ → Bool → F → P → F → P → Type 0
IsNamed {P = P} f p lines was_torn folder passes after done = (first : P) → p.is_before first passes
    → AreAmong (IsOf f p lines was_torn folder first done) (f.found after Marker)

-- each is of one of the two
abbrev pub IsNamedOrGone : {F P E J : Type 0} → Folding F E → Passing P E J → List ℕ → Bool → J → F → P → F → P → Type 0
IsNamedOrGone {P = P} f p lines was_torn left folder passes after done = (first : P) → p.is_before first passes
    → AreEither (IsOf f p lines was_torn folder first done) (IsGone p left done) (f.found after Marker)

-- there is none only if it is known what is committed behind such a failure, or there was none
abbrev pub IsKnownIfGone : {F E : Type 0} → Folding F E → F → F → E → Type 0
IsKnownIfGone f folder after fault = f.found after Marker None → f.found folder Marker None ⊎ f.is_known fault
