-- What replies and the closing lines tell of volumes and images, and which images lines find.
use Rattle.std.specs.List.{range_with_len}
use Rattle.std.specs.Prelude.{ℕ, ◌≡◌, ◌<◌, ◌&&◌, true, List, [], ◌∷◌, map, Some, None, is_some, length, if◌then◌else◌, Bool, false, Option}
use Rattle.vss_names.specs.declared.vss_result.VssResult.TheVariants.{ObjectNotFound, UnsupportedContext, SnapshotSetInProgress}
use Rattle.write_history.specs.History.{sets_of}
use Rattle.write_history.specs.Slots.{copies_of, used}
use Rattle.write_history.specs.declared.mark.Mark.{Mark}
use Rattle.write_history.specs.declared.mark.Mark.TheVariants.{Clean, Fault}
use Rattle.set_agenda.specs.Agenda.{is_among}
use Rattle.scenario.specs.Plan.{Plan, blocks_of}
use Rattle.scenario.specs.declared.op.Op.TheVariants.{Read, ImageDigest, ImageBlock, Query, Revert, DeleteSet, DeleteImage}
use Rattle.vss_model.specs.Acts.{Act, reply, state}
use Rattle.vss_model.specs.Cut.{cut}
use Rattle.vss_model.specs.Images.{is_backup}
use Rattle.vss_model.specs.Reply.{Reply, Faulted, Coded, BlockOf, BlocksOf, KeptSets, Deleted}
use Rattle.vss_model.specs.State.{is_kept_set, kept_image, history_of, kept, State, SetRow, in_progress, row_of}
use Rattle.vss_model.specs.declared.event.Event.TheVariants.{Line}
use Rattle.promises.specs.Answers.{answer_of}
use Rattle.promises.specs.Contents.{block_now}
use Rattle.promises.specs.Gone.{stands}

-- ## Replies tell what stands: `read` a block of the volume as it is, `image` one, or all, as they were at the set's one cut, and
-- `query` exactly the sets that are complete and whose image stands. A read that a device failed is told so. (The forms of the replies are this project's own.)

-- the act is answered by what the volume was after these acts, those before the cut of set n
pub record TellsTheCut (s : Plan) (so_far : List Act) (n : ℕ) (told : Reply) (answer : List Act → Reply) : Type 0 where
  pub before : List Act
  pub is_cut : cut s n so_far ≡ Some before
  pub tells : told ≡ answer before

-- n is less than each of these
abbrev pub IsBelow : ℕ → List ℕ → Type 0
IsBelow n [] = Unit {0}
IsBelow n (m ∷ ms) = (n < m) × IsBelow n ms

-- each is less than those behind it
abbrev pub AreRising : List ℕ → Type 0
AreRising [] = Unit {0}
AreRising (n ∷ ns) = IsBelow n ns × AreRising ns

-- exactly the complete sets whose image stands on volume v, each once, the oldest first
pub record ListsKept (s : Plan) (so_far : List Act) (v : ℕ) (told : Reply) : Type 0 where
  pub sets : List ℕ
  pub tells : told ≡ KeptSets sets
  pub exactly : (n : ℕ) → is_among n sets ≡ (is_kept_set (state s so_far) n && stands (state s so_far) n v)
  pub in_order : AreRising sets

pub record RepliesTell (s : Plan) (so_far : List Act) (act : Act) : Type 0 where
  -- where no device fails
  pub block : (lane v b : ℕ) → act.event ≡ Line lane (Read v b) → act.mark ≡ Clean → reply s (state s so_far) act ≡ BlockOf v (block_now (state s so_far) v b)
  pub image_block : (lane n v b : ℕ) → act.event ≡ Line lane (ImageBlock n v b) → act.mark ≡ Clean → is_some (kept_image (state s so_far) n v) ≡ true
      → TellsTheCut s so_far n (reply s (state s so_far) act) (λ before. BlockOf v (block_now (state s before) v b))
  pub image : (lane n v : ℕ) → act.event ≡ Line lane (ImageDigest n v) → act.mark ≡ Clean → is_some (kept_image (state s so_far) n v) ≡ true
      → TellsTheCut s so_far n (reply s (state s so_far) act) (λ before. BlocksOf v (map (block_now (state s before) v) (range_with_len 0 (blocks_of s v))))
  -- where one does
  pub failed : (lane v b : ℕ) → act.event ≡ Line lane (Read v b) → act.mark ≡ Fault → reply s (state s so_far) act ≡ Faulted
  pub failed_block : (lane n v b : ℕ) → act.event ≡ Line lane (ImageBlock n v b) → act.mark ≡ Fault → is_some (kept_image (state s so_far) n v) ≡ true
      → reply s (state s so_far) act ≡ Faulted
  pub failed_image : (lane n v : ℕ) → act.event ≡ Line lane (ImageDigest n v) → act.mark ≡ Fault → is_some (kept_image (state s so_far) n v) ≡ true
      → reply s (state s so_far) act ≡ Faulted
  -- an image that is not kept
  pub no_block : (lane n v b : ℕ) → act.event ≡ Line lane (ImageBlock n v b) → kept_image (state s so_far) n v ≡ None → reply s (state s so_far) act ≡ Coded ObjectNotFound
  pub no_image : (lane n v : ℕ) → act.event ≡ Line lane (ImageDigest n v) → kept_image (state s so_far) n v ≡ None → reply s (state s so_far) act ≡ Coded ObjectNotFound
  pub sets : (lane v : ℕ) → act.event ≡ Line lane (Query v) → ListsKept s so_far v (reply s (state s so_far) act)

-- ## What the closing lines of a report show of a volume: a slot is used for each copy that its area keeps of it; and the images that have a
-- line are those of the complete sets whose image exists, each once, the oldest first. (The lines are this project's own.)

pub record ClosesAsKept (s : Plan) (so_far : List Act) : Type 0 where
  -- whichever number the volume has in its group
  pub slots : (v k : ℕ) → used (blocks_of s v) (history_of (state s so_far) v).writes (history_of (state s so_far) v).images
      ≡ length (copies_of k (blocks_of s v) (history_of (state s so_far) v).writes (history_of (state s so_far) v).images)
  pub images : (v : ℕ) → ListsKept s so_far v (KeptSets (sets_of (kept (state s so_far) (history_of (state s so_far) v))))

-- ## Which images lines find, and what a revert and a deletion are answered. An image is kept where its set is complete and it stands. A
-- revert is refused for an image that is not kept, for one of context 0, and for a volume of the set in progress, by these codes in this
-- order, and for nothing else; a deletion only where nothing of what it names is kept. (The codes are the SDK's; which of them is answered
-- is this project's own.)

-- the image of set n on volume v
abbrev pub is_kept : State → ℕ → ℕ → Bool
is_kept st n v = is_kept_set st n && stands st n v

-- a set of context 0
abbrev pub is_of_backup : Option SetRow → Bool
is_of_backup None = false
is_of_backup (Some r) = is_backup r.context

abbrev pub has_in_it : ℕ → Option SetRow → Bool
has_in_it v None = false
has_in_it v (Some r) = is_among v r.volumes

-- kept; of context 0; of a volume of the set in progress
abbrev pub revert_answer : Bool → Bool → Bool → Mark → Reply
revert_answer false backup busy mark = Coded ObjectNotFound
revert_answer true true busy mark = Coded UnsupportedContext
revert_answer true false true mark = Coded SnapshotSetInProgress
revert_answer true false false mark = answer_of mark

abbrev pub is_deleted : Reply → Bool
is_deleted (Deleted k) = true
is_deleted _ = false

pub record FindsTheKept (s : Plan) (so_far : List Act) (act : Act) : Type 0 where
  pub found : (n v : ℕ) → is_some (kept_image (state s so_far) n v) ≡ is_kept (state s so_far) n v
  pub reverts : (lane n v : ℕ) → act.event ≡ Line lane (Revert n v)
      → reply s (state s so_far) act ≡ revert_answer (is_kept (state s so_far) n v) (is_of_backup (row_of (state s so_far) n)) (has_in_it v (in_progress (state s so_far))) act.mark
  pub set_goes : (lane n v : ℕ) → act.event ≡ Line lane (DeleteSet n) → is_kept (state s so_far) n v ≡ true → is_deleted (reply s (state s so_far) act) ≡ true
  pub no_set : (lane n : ℕ) → act.event ≡ Line lane (DeleteSet n) → ((v : ℕ) → is_kept (state s so_far) n v ≡ false) → reply s (state s so_far) act ≡ Coded ObjectNotFound
  pub image : (lane n v : ℕ) → act.event ≡ Line lane (DeleteImage n v) → reply s (state s so_far) act ≡ (if is_kept (state s so_far) n v then Deleted 1 else Coded ObjectNotFound)
