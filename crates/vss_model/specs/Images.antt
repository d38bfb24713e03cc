-- Lines to volumes and images, without a session: which images a write takes, and what writes, reads, queries, deletions
-- and reverts are answered. (Images are deleted oldest first where the diff area is full, as in the SDK; the replies are
-- this project's own.)
use Rattle.std.specs.Prelude.{ℕ, ◌+◌, Bool, true, false, List, [], ◌∷◌, length, nat_lt, ◌&&◌, ◌||◌, not, if◌then◌else◌, Option, Some, None, unwrap_or}
use Rattle.vss_names.specs.declared.context.Context.{Context}
use Rattle.vss_names.specs.declared.context.Context.TheVariants.{Backup, AppRollback, NasRollback}
use Rattle.vss_names.specs.declared.vss_result.VssResult.TheVariants.{ObjectNotFound, UnsupportedContext, SnapshotSetInProgress}
use Rattle.vss_names.specs.declared.vss_result.VssResult.{VssResult}
use Rattle.write_history.specs.declared.mark.Mark.{Mark}
use Rattle.write_history.specs.declared.mark.Mark.TheVariants.{Clean, Fault, FaultAfter}
use Rattle.write_history.specs.History.{History, content, contents, sets_of}
use Rattle.write_history.specs.Slots.{gone_up_to, evicted_up_to, used_by}
use Rattle.set_agenda.specs.Agenda.{is_among}
use Rattle.scenario.specs.Plan.{Plan, blocks_of, slots_of, group_of}
use Rattle.vss_model.specs.Reply.{Reply, Fine, Faulted, FaultedAfter, Coded, BlockOf, BlocksOf, KeptSets, PropertiesOf, Deleted}
use Rattle.vss_model.specs.State.{State, SetRow, Kept, in_progress, history_of, kept, has_image, is_kept_set}

abbrev pub reply_of_mark : Mark → Reply
reply_of_mark Clean = Fine
reply_of_mark Fault = Faulted
reply_of_mark (FaultAfter k) = FaultedAfter k

-- ## writes

-- the number up to which sets lose their images on the group's volumes, for a write of block b to volume v
abbrev pub going_up_to : Plan → ℕ → ℕ → State → ℕ
going_up_to s v b st = evicted_up_to (length st.sets) (slots_of s v) (group_of s v) v b st.volumes

-- the volumes without them
abbrev pub cleared : Plan → ℕ → ℕ → State → List History
cleared s v b st = gone_up_to (going_up_to s v b st) (group_of s v) st.volumes

-- an image of set n went, on some volume
abbrev pub has_lost_image : ℕ → List History → List History → Bool
has_lost_image n [] ks = false
has_lost_image n (h ∷ hs) [] = false
has_lost_image n (h ∷ hs) (k ∷ ks) = (has_image n h && not (has_image n k)) || has_lost_image n hs ks

abbrev pub set_loses_image : Option SetRow → List History → List History → Bool
set_loses_image None hs ks = false
set_loses_image (Some r) hs ks = has_lost_image r.number hs ks

-- ## reads

abbrev pub read_as : Mark → Reply → Reply
read_as Clean told = told
read_as Fault told = Faulted
read_as (FaultAfter k) told = Faulted

abbrev pub read_reply : ℕ → ℕ → Mark → State → Reply
read_reply v b mark st = read_as mark (BlockOf v (content (history_of st v).writes (length (history_of st v).writes) b))

abbrev pub block_reply : ℕ → ℕ → Option Kept → Mark → State → Reply
block_reply v b None mark st = Coded ObjectNotFound
block_reply v b (Some k) mark st = read_as mark (BlockOf v (content (history_of st v).writes k.point b))

abbrev pub image_reply : Plan → ℕ → Option Kept → Mark → State → Reply
image_reply s v None mark st = Coded ObjectNotFound
image_reply s v (Some k) mark st = read_as mark (BlocksOf v (contents (blocks_of s v) (history_of st v).writes k.point))

abbrev pub query_reply : ℕ → State → Reply
query_reply v st = KeptSets (sets_of (kept st (history_of st v)))

abbrev pub properties_reply : Plan → ℕ → Option Kept → State → Reply
properties_reply s v None st = Coded ObjectNotFound
properties_reply s v (Some k) st =
    PropertiesOf k.row.context (unwrap_or k.row.cut_at 0)
    (unwrap_or (used_by (blocks_of s v) (history_of st v).writes (history_of st v).images k.row.number) 0)

-- ## deletion

abbrev pub count_images : ℕ → List History → ℕ
count_images n [] = 0
count_images n (h ∷ hs) = (if has_image n h then 1 else 0) + count_images n hs

-- all kept images of a set
abbrev pub delete_set_reply : ℕ → State → Reply
delete_set_reply n st =
    if is_kept_set st n && nat_lt 0 (count_images n st.volumes) then Deleted (count_images n st.volumes) else Coded ObjectNotFound

abbrev pub delete_image_reply : Option Kept → Reply
delete_image_reply None = Coded ObjectNotFound
delete_image_reply (Some k) = Deleted 1

-- ## revert

abbrev pub is_backup : Context → Bool
is_backup Backup = true
is_backup AppRollback = false
is_backup NasRollback = false

abbrev pub is_in_set : ℕ → Option SetRow → Bool
is_in_set v None = false
is_in_set v (Some r) = is_among v r.volumes

-- the refusals of a revert to a kept image, in their order
abbrev pub revert_refusal : ℕ → Option Kept → State → Option VssResult
revert_refusal v None st = Some ObjectNotFound
revert_refusal v (Some k) st =
    if is_backup k.row.context then Some UnsupportedContext
    else if is_in_set v (in_progress st) then Some SnapshotSetInProgress
    else None

abbrev pub revert_reply : Option VssResult → Mark → Reply
revert_reply None mark = reply_of_mark mark
revert_reply (Some why) mark = Coded why
