-- What the calls on a store come to, as steps of its whole copies: what happened, with the answer; when a step may be taken; and what it
-- leaves. An update is the evictions that
-- it told, and then one step, whatever its writes were. (This project's own.)
use Rattle.std.specs.Prelude.{ℕ, ◌≡◌, ◌<◌, ◌⊎◌, ◌&&◌, not, Bool, true, false, List, [], ◌∷◌, length, nat_le, nat_lt, ◌==◌, Some, None, slice_get}
use Rattle.image_store.specs.Plain.{PlainStore, plain_at, image_of, cut_on, gone_on, with_blocks, dropped_on, older_on, reverted_on, changed, all_changed}
use Rattle.image_store.specs.FileBytes.{file_in}

pub data Step : Type 0 where
  -- one set was cut over these volumes
  Cut : ℕ → List ℕ → Step
  -- the images of the sets up to this one went, on each volume, for want of slots, and were told
  Gone : ℕ → Step
  -- a volume was brought to these blocks
  Updated : ℕ → List (List ℕ) → Step
  -- a device failed before it had all of these blocks: it has those
  UpdatedInPart : ℕ → List (List ℕ) → List (List ℕ) → Step
  -- the image of a set went from a volume
  Dropped : ℕ → ℕ → Step
  -- a volume was brought back to the image of a set
  Reverted : ℕ → ℕ → Step
  -- a device failed before it was: the newer images are gone, and it has these blocks
  RevertedInPart : ℕ → ℕ → List (List ℕ) → Step
  -- these bytes were shown, of the image of a set of a volume
  Shown : ℕ → ℕ → List ℕ → Step
  -- ... and of a volume as it is
  Read : ℕ → List ℕ → Step
  -- it was closed, and opened again from what lasted
  Opened : Step

-- each block is an old one or a wanted one
abbrev pub AreMixed : List (List ℕ) → List (List ℕ) → List (List ℕ) → Type 0
AreMixed old wanted now = (length now ≡ length old) × ((b : ℕ) → (slice_get now b ≡ slice_get old b) ⊎ (slice_get now b ≡ slice_get wanted b))

-- ## one step

abbrev pub IsAllowed : PlainStore → Step → Type 0
-- a set's number is above each that was given before, so none of it stands
IsAllowed s (Cut set vs) = (s.last < set) × ((v : ℕ) → image_of s set v ≡ None)
IsAllowed s (Gone up_to) = Unit {0}
IsAllowed s (Updated v wanted) = length wanted ≡ length (plain_at s v).blocks
IsAllowed s (UpdatedInPart v wanted now) = AreMixed (plain_at s v).blocks wanted now
IsAllowed s (Dropped set v) = (blocks : List (List ℕ)) × (image_of s set v ≡ Some blocks)
IsAllowed s (Reverted set v) = (blocks : List (List ℕ)) × (image_of s set v ≡ Some blocks)
IsAllowed s (RevertedInPart set v now) = (blocks : List (List ℕ)) × (image_of s set v ≡ Some blocks) × AreMixed (plain_at s v).blocks blocks now
-- what is shown is the file in the image's whole copy
IsAllowed s (Shown set v bytes) = (blocks : List (List ℕ)) × (image_of s set v ≡ Some blocks) × (bytes ≡ file_in blocks)
IsAllowed s (Read v bytes) = bytes ≡ file_in (plain_at s v).blocks
IsAllowed s Opened = Unit {0}

abbrev pub given : ℕ → PlainStore → PlainStore
given set s = record { volumes = s.volumes; last = set }

-- what a step leaves
abbrev pub after : PlainStore → Step → PlainStore
after s (Cut set vs) = given set (changed vs (cut_on set) s)
after s (Gone up_to) = all_changed (gone_on up_to) s
after s (Updated v wanted) = changed (v ∷ []) (with_blocks wanted) s
after s (UpdatedInPart v wanted now) = changed (v ∷ []) (with_blocks now) s
after s (Dropped set v) = changed (v ∷ []) (dropped_on set) s
after s (Reverted set v) = changed (v ∷ []) (reverted_on set) s
after s (RevertedInPart set v now) = changed (v ∷ []) (λ p. with_blocks now (older_on set p)) s
after s (Shown set v bytes) = s
after s (Read v bytes) = s
after s Opened = s

-- ## a list of steps

abbrev pub AreAllowed : PlainStore → List Step → Type 0
AreAllowed s [] = Unit {0}
AreAllowed s (step ∷ steps) = IsAllowed s step × AreAllowed (after s step) steps

abbrev pub after_all : PlainStore → List Step → PlainStore
after_all s [] = s
after_all s (step ∷ steps) = after_all (after s step) steps

-- ## when an image goes

-- the image of a set of volume v goes in this step: it is evicted, which the step tells, or deleted, or its volume reverted past it; in no
-- other step does one go
abbrev pub goes : ℕ → ℕ → Step → Bool
goes set v (Gone up_to) = nat_le set up_to
goes set v (Dropped s u) = (s == set) && (u == v)
goes set v (Reverted s u) = nat_lt s set && (u == v)
goes set v (RevertedInPart s u now) = nat_lt s set && (u == v)
goes set v _ = false

-- it goes in none of these
abbrev pub stays : ℕ → ℕ → List Step → Bool
stays set v [] = true
stays set v (step ∷ steps) = not (goes set v step) && stays set v steps
