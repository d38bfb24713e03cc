-- A volume history with recovery writes. In the window between the last two steps of a snapshot a writer changes its own blocks of
-- the new image; the volume's history stays as it is, and the changes are a list beside it. (The window between PreFinalCommit and
-- PostFinalCommit is the SDK's; the list is this project's own.)
use Rattle.std.specs.Prelude.{ℕ, ◌≡◌, ◌+◌, true, List, [], ◌∷◌, ◌++◌, length, filter, All, Option, Some, None, ◌==◌, ◌||◌, if◌then◌else◌}
use Rattle.write_history.specs.History.{History, Write, content, last_bytes, blocks_named, sets_of}
use Rattle.cow_volume.specs.Calls.{is_among}
use Rattle.vss_recover.specs.declared.claim.Claim.{Claim}

-- a recovery write: of a block of the image of a set, by a writer
pub record Recovery : Type 0 where
  pub set : ℕ
  pub writer : ℕ
  pub write : Write

pub record Recovering : Type 0 where
  pub volume : History
  -- the recovery writes of the images that stand, in order
  pub recoveries : List Recovery
  -- the set whose window is open
  pub window : Option ℕ
  -- what writers claimed for the window that was opened last
  pub claims : List Claim
  -- the sets of the standing images whose window was closed
  pub final : List ℕ

-- a volume history to which no recovery write was made
abbrev pub unrecovered : History → Recovering
unrecovered v = record { volume = v; recoveries = []; window = None; claims = []; final = [] }

-- ## what an image shows

-- the recovery writes of the image of a set
abbrev pub recovered : ℕ → List Recovery → List Write
recovered set [] = []
recovered set (r ∷ rs) = if r.set == set then r.write ∷ recovered set rs else recovered set rs

-- block b of the image of a set with this point: as its last recovery write left it, or else as the volume was at the point
abbrev pub shown : Recovering → ℕ → ℕ → ℕ → List ℕ
shown h set p b = last_bytes b (content h.volume.writes p b) (recovered set h.recoveries)

-- how many of the first n blocks of the image of a set recovery writes name
abbrev pub blocks_recovered : ℕ → List Recovery → ℕ → ℕ
blocks_recovered n rs set = length (blocks_named n (recovered set rs))

-- the same of all these images together
abbrev pub all_recovered : ℕ → List Recovery → List ℕ → ℕ
all_recovered n rs [] = 0
all_recovered n rs (set ∷ sets) = blocks_recovered n rs set + all_recovered n rs sets

-- ## an image that goes

-- the recovery writes of these images
abbrev pub kept : List ℕ → List Recovery → List Recovery
kept sets rs = filter (λ (r : Recovery). is_among r.set sets) rs

-- the window, where it is that of one of these images
abbrev pub kept_window : List ℕ → Option ℕ → Option ℕ
kept_window sets None = None
kept_window sets (Some set) = if is_among set sets then Some set else None

-- those of these sets that are final
abbrev pub kept_final : List ℕ → List ℕ → List ℕ
kept_final sets final = filter (λ s. is_among s sets) final

-- the volume's history is another, without some images: these take their recovery writes with them, and their window is closed
abbrev pub changed : History → Recovering → Recovering
changed v h = record {
  volume = v;
  recoveries = kept (sets_of v.images) h.recoveries;
  window = kept_window (sets_of v.images) h.window;
  claims = h.claims;
  final = kept_final (sets_of v.images) h.final;
}

-- all that is said of images is said of those that stand
pub record IsOfImages (sets : List ℕ) (h : Recovering) : Type 0 where
  pub recoveries : All (λ (r : Recovery). is_among r.set sets ≡ true) h.recoveries
  pub window : (set : ℕ) → h.window ≡ Some set → is_among set sets ≡ true
  pub final : All (λ s. is_among s sets ≡ true) h.final

-- ## the window

-- of these sets, those that are final, and this one
abbrev pub with_final : ℕ → List ℕ → List ℕ → List ℕ
with_final set sets final = filter (λ s. (s == set) || is_among s final) sets

abbrev pub opened : ℕ → List Claim → Recovering → Recovering
opened set claims h = record { volume = h.volume; recoveries = h.recoveries; window = Some set; claims = claims; final = h.final }

abbrev pub recovered_by : Recovery → Recovering → Recovering
recovered_by r h = record { volume = h.volume; recoveries = h.recoveries ++ r ∷ []; window = h.window; claims = h.claims; final = h.final }

abbrev pub closed : ℕ → Recovering → Recovering
closed set h = record { volume = h.volume; recoveries = h.recoveries; window = None; claims = h.claims; final = with_final set (sets_of h.volume.images) h.final }
