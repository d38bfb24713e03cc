-- The blocks of a mirror that may differ from the primary's: one truth value for each block. (This project's own.)
use Rattle.std.specs.Prelude.{ℕ, ◌≡◌, ◌<◌, ◌^◌, Bool, true, false, List, length, Some, slice_get, count_by}

-- the block is one of the mirror's, and it is stale; or it is not
abbrev pub IsStale : List Bool → ℕ → Type 0
IsStale stale b = slice_get stale b ≡ Some true

abbrev pub IsInStep : List Bool → ℕ → Type 0
IsInStep stale b = slice_get stale b ≡ Some false

-- how many blocks are stale
abbrev pub stale_count : List Bool → ℕ
stale_count stale = count_by (λ is_stale. is_stale) stale

-- the block is stale, and each lower one is not
pub record IsLowestStale (stale : List Bool) (b : ℕ) : Type 0 where
  pub is_stale : IsStale stale b
  pub lowest : (other : ℕ) → other < b → IsInStep stale other

-- how the lowest is found: a queue with a place for each block holds each stale block
pub record HoldsStale (stale queue : List Bool) : Type 0 where
  pub long : length queue ≡ length stale
  pub queued : (b : ℕ) → IsStale stale b → slice_get queue b ≡ Some true

-- the queue does, and the stale blocks are counted
pub record KeepsStale (stale queue : List Bool) (count : ℕ) : Type 0 where
  pub holds : HoldsStale stale queue
  pub is_count : count ≡ stale_count stale
  pub narrow : length stale < 2 ^ 32
