-- What a writer claims of a new image; and the calls that change something, as steps of a volume history with recovery writes.
use Rattle.std.specs.Prelude.{ℕ, ◌≡◌, ◌<◌, ◌+◌, Bool, true, false, List, [], ◌∷◌, Option, Some, None, slice_get, nat_lt, nat_le, ◌&&◌, if◌then◌else◌, ◌-◌, ◌++◌}
use Rattle.std.specs.Prelude.{filter, length, ◌==◌}
use Rattle.write_history.specs.History.{Write, point_in, sets_of, written, cut, dropped, reverted, reverted_in_part}
use Rattle.cow_volume.specs.Calls.{is_among}
use Rattle.cow_volume.specs.OneVolume.{without_up_to}
use Rattle.vss_recover.specs.Recoveries.{Recovery, Recovering, blocks_recovered, changed, opened, recovered_by, closed}
use Rattle.vss_recover.specs.declared.claim.Claim.{Claim}

-- ## What a writer claims of a new image: blocks one after another, which it alone may change in the window. Claims of one window have
-- no block in common. (That a writer may change its own data on the new shadow copy before it is final is the SDK's auto-recovery;
-- claims are this project's own.)

-- the block is one of the claim's
abbrev pub has_block : ℕ → Claim → Bool
has_block b c = nat_le c.first b && nat_lt b (c.first + c.count)

-- the writer whose claim has the block, where one does
abbrev pub owner_of : List Claim → ℕ → Option ℕ
owner_of [] b = None
owner_of (c ∷ cs) b = if has_block b c then Some c.writer else owner_of cs b

-- the claim has a block, and each is one of a volume of n blocks
abbrev pub is_within : ℕ → Claim → Bool
is_within n c = nat_lt 0 c.count && nat_le (c.first + c.count) n

-- two claims have a block in common
abbrev pub meet : Claim → Claim → Bool
meet c d = nat_lt c.first (d.first + d.count) && nat_lt d.first (c.first + c.count)

-- each claim is within a volume of n blocks
abbrev pub AreWithin : ℕ → List Claim → Type 0
AreWithin n claims = (k : ℕ) (c : Claim) → slice_get claims k ≡ Some c → is_within n c ≡ true

-- of the claims before this one, none meets another
abbrev pub AreApartBelow : List Claim → ℕ → Type 0
AreApartBelow claims end = (i k : ℕ) (c d : Claim) → i < k → k < end → slice_get claims i ≡ Some c → slice_get claims k ≡ Some d → meet c d ≡ false

-- no two claims meet
abbrev pub AreApart : List Claim → Type 0
AreApart claims = (i k : ℕ) (c d : Claim) → i < k → slice_get claims i ≡ Some c → slice_get claims k ≡ Some d → meet c d ≡ false

-- the claim with this number is the first that is not within a volume of n blocks
pub record IsFirstOut (n : ℕ) (claims : List Claim) (k : ℕ) : Type 0 where
  pub claim : Claim
  pub at : slice_get claims k ≡ Some claim
  pub out : is_within n claim ≡ false
  pub before : (i : ℕ) (c : Claim) → i < k → slice_get claims i ≡ Some c → is_within n c ≡ true

-- the claim with this number is the first that meets another
pub record IsFirstMet (claims : List Claim) (later : Claim) (i : ℕ) : Type 0 where
  pub claim : Claim
  pub at : slice_get claims i ≡ Some claim
  pub meets : meet claim later ≡ true
  pub before : (k : ℕ) (c : Claim) → k < i → slice_get claims k ≡ Some c → meet c later ≡ false

-- none meets it
abbrev pub MeetsNone : List Claim → Claim → Type 0
MeetsNone claims later = (k : ℕ) (c : Claim) → slice_get claims k ≡ Some c → meet c later ≡ false

-- the claim with the second number is the first that meets an earlier one, and the first number is that of the earliest such
pub record IsFirstOverlap (claims : List Claim) (first second : ℕ) : Type 0 where
  pub earlier : Claim
  pub later : Claim
  pub in_order : first < second
  pub at_first : slice_get claims first ≡ Some earlier
  pub at_second : slice_get claims second ≡ Some later
  pub meets : meet earlier later ≡ true
  pub earliest : (i : ℕ) (c : Claim) → i < first → slice_get claims i ≡ Some c → meet c later ≡ false
  pub before : AreApartBelow claims second

-- ## The calls that change something, as steps of a volume history with recovery writes; which steps may be taken; and what a list of
-- steps says by itself of the recovery writes and the window. (This project's own.)

pub data Step : Type 0 where
  -- a block of the volume was written, and the images up to a set went for it
  Wrote : Write → ℕ → Step
  -- one was not, and the images up to a set are gone all the same
  Evicted : ℕ → Step
  -- an image was cut
  Cut : ℕ → Step
  -- an image was dropped
  Dropped : ℕ → Step
  -- the volume was brought back to an image with this point
  Reverted : ℕ → ℕ → Step
  -- or in part: so many blocks were restored
  RevertedInPart : ℕ → ℕ → ℕ → Step
  -- a window was opened, with these claims
  Opened : ℕ → List Claim → Step
  -- a recovery write was made
  Recovered : Recovery → Step
  -- the window of a set was closed
  Closed : ℕ → Step

-- the newest of these sets, the oldest of which comes first
abbrev pub IsNewest : List ℕ → ℕ → Type 0
IsNewest sets set = slice_get sets (length sets - 1) ≡ Some set

-- ## one step, of a volume of n blocks

abbrev pub IsAllowed : ℕ → Recovering → Step → Type 0
IsAllowed n h (Wrote w up_to) = w.block < n
IsAllowed n h (Evicted up_to) = Unit {0}
IsAllowed n h (Cut set) = (is_among set (sets_of h.volume.images) ≡ false) × (h.window ≡ None)
IsAllowed n h (Dropped set) = is_among set (sets_of h.volume.images) ≡ true
IsAllowed n h (Reverted set p) = (point_in set h.volume.images ≡ Some p) × (blocks_recovered n h.recoveries set ≡ 0)
IsAllowed n h (RevertedInPart set p k) = (point_in set h.volume.images ≡ Some p) × (blocks_recovered n h.recoveries set ≡ 0)
IsAllowed n h (Opened set claims) = IsNewest (sets_of h.volume.images) set × (h.window ≡ None) × (is_among set h.final ≡ false) × AreWithin n claims × AreApart claims
IsAllowed n h (Recovered r) = (h.window ≡ Some r.set) × (r.write.block < n) × (owner_of h.claims r.write.block ≡ Some r.writer)
IsAllowed n h (Closed set) = h.window ≡ Some set

-- what a step leaves
abbrev pub after : ℕ → Recovering → Step → Recovering
after n h (Wrote w up_to) = changed (written w (without_up_to up_to h.volume)) h
after n h (Evicted up_to) = changed (without_up_to up_to h.volume) h
after n h (Cut set) = record { volume = cut set h.volume; recoveries = h.recoveries; window = h.window; claims = h.claims; final = h.final }
after n h (Dropped set) = changed (dropped set h.volume) h
after n h (Reverted set p) = changed (reverted set p h.volume) h
after n h (RevertedInPart set p k) = changed (reverted_in_part n set p k h.volume) h
after n h (Opened set claims) = opened set claims h
after n h (Recovered r) = recovered_by r h
after n h (Closed set) = closed set h

-- ## a list of steps

abbrev pub AreAllowed : ℕ → Recovering → List Step → Type 0
AreAllowed n h [] = Unit {0}
AreAllowed n h (s ∷ steps) = IsAllowed n h s × AreAllowed n (after n h s) steps

abbrev pub after_all : ℕ → Recovering → List Step → Recovering
after_all n h [] = h
after_all n h (s ∷ steps) = after_all n (after n h s) steps

-- the recovery writes of a set that the steps made since the last cut of its image, after these where no cut is among them
abbrev pub made_since_cut : ℕ → List Write → List Step → List Write
made_since_cut set made [] = made
made_since_cut set made (Cut s ∷ steps) = made_since_cut set (if s == set then [] else made) steps
made_since_cut set made (Recovered r ∷ steps) = made_since_cut set (if r.set == set then made ++ r.write ∷ [] else made) steps
made_since_cut set made (_ ∷ steps) = made_since_cut set made steps

-- the window that the steps opened last and did not close, with its claims; this one where they did neither
abbrev pub last_window : Option (ℕ × List Claim) → List Step → Option (ℕ × List Claim)
last_window w [] = w
last_window w (Opened set claims ∷ steps) = last_window (Some (set, claims)) steps
last_window w (Closed set ∷ steps) = last_window None steps
last_window w (_ ∷ steps) = last_window w steps

-- the step is of the volume and its images: no window, and no recovery write
abbrev pub is_of_volume : Step → Bool
is_of_volume (Opened set claims) = false
is_of_volume (Recovered r) = false
is_of_volume (Closed set) = false
is_of_volume _ = true

abbrev pub of_volume : List Step → List Step
of_volume steps = filter is_of_volume steps

-- the recovery write is of this window, and of a claim of its writer's
abbrev pub IsMadeIn : Option (ℕ × List Claim) → Recovery → Type 0
IsMadeIn None r = ⊥
IsMadeIn (Some window) r = (window.0 ≡ r.set) × (owner_of window.1 r.write.block ≡ Some r.writer)
