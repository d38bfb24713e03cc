-- How a mirror is brought into step with the primary again, block after block, the lowest stale block first. (This project's own.)
use Rattle.std.specs.Fmt.{decimal}
use Rattle.std.specs.Prelude.{ℕ, ◌≡◌, ◌<◌, ◌⊎◌, ◌==◌, if◌then◌else◌, false, List, [], ◌∷◌, Option, Some, None, IfSome, slice_get, slice_set, option_map, Result}
use Rattle.std.specs.Prelude.{Ok, Err, ◌++◌, codes}
use Rattle.vss_names.specs.Faults.{Rose}
use Rattle.vss_names.specs.declared.failed.Failed.{Failed}
use Rattle.volume_device.specs.InMemory.{AreBlocks}
use Rattle.volume_device.specs.declared.device.Device.{Ghosts}
use Rattle.cow_volume.specs.declared.cause.Cause.{Cause}
use Rattle.cow_volume.specs.declared.image_fault.ImageFault.{ImageFault}
use Rattle.mirror_volume.specs.MirrorCalls.{IsAllFlushed, IsQuietDevice, IsRead, IsImageRead, IsCut, IsDropped, IsQuiet, IsMirrorFlush}
use Rattle.mirror_volume.specs.Mirrors.{MirrorValue}
use Rattle.mirror_volume.specs.Stale.{IsLowestStale, stale_count}
use Rattle.mirror_volume.specs.declared.mirror.Mirror.{Mirror}
use Rattle.mirror_volume.specs.declared.no_mirror.NoMirror.{NoMirror}
use Rattle.mirror_volume.specs.declared.sync_fault.SyncFault.{SyncFault}
use Rattle.mirror_volume.specs.declared.sync_fault.SyncFault.TheVariants.{HoldsImage, Volume}
use Rattle.mirror_volume.specs.declared.sync_fault.SyncFault.TheVariants as sync
use Rattle.mirror_volume.specs.declared.synced.Synced.{Synced}
use Rattle.mirror_volume.specs.declared.synced.Synced.TheVariants.{Copied, InStep}

-- ## one block

-- block b of one device was copied to the other
pub record IsBlockCopied {D : Type 0} (ghosts : Ghosts D) (from now_from to now_to : D) (b : ℕ) : Type 0 where
  pub bytes : List ℕ
  pub source : IsQuietDevice ghosts from now_from
  pub read : IfSome (ghosts.told from) (λ blocks. slice_get blocks b ≡ Some bytes)
  pub whole : IfSome (ghosts.told to) (AreBlocks (ghosts.size to))
  pub told_is : ghosts.told now_to ≡ option_map (λ blocks. slice_set blocks b bytes) (ghosts.told to)
  pub size_is : ghosts.size now_to ≡ ghosts.size to
  pub unfailed_source : ghosts.count now_from ≡ ghosts.count from
  pub unfailed : ghosts.count now_to ≡ ghosts.count to

-- one of the two devices failed, and both are as they were
pub record IsNotCopied {D : Type 0} (ghosts : Ghosts D) (from now_from to now_to : D) : Type 0 where
  pub source : IsQuietDevice ghosts from now_from
  pub target : IsQuietDevice ghosts to now_to
  pub rose : Rose (ghosts.count from) (ghosts.count now_from) ⊎ Rose (ghosts.count to) (ghosts.count now_to)

abbrev pub IsCopyOr : {D E : Type 0} → Ghosts D → D → D → D → D → ℕ → Result Unit E → Type 0
IsCopyOr ghosts from now_from to now_to b (Ok done) = IsBlockCopied ghosts from now_from to now_to b
IsCopyOr ghosts from now_from to now_to b (Err failed) = IsNotCopied ghosts from now_from to now_to

-- ## one step

-- the lowest stale block was copied, and is stale no longer
pub record IsCopied {D : Type 0} (ghosts : Ghosts D) (primary now_primary : D) (old new : Mirror D) (b : ℕ) : Type 0 where
  pub holds_none : old.holds ≡ None
  pub lowest : IsLowestStale old.stale b
  pub copied : IsBlockCopied ghosts primary now_primary old.device new.device b
  pub stale : new.stale ≡ slice_set old.stale b false
  pub holds : new.holds ≡ old.holds

-- no block is stale, and nothing changed
pub record IsInStepAlready {D : Type 0} (primary now_primary : D) (old new : Mirror D) : Type 0 where
  pub holds_none : old.holds ≡ None
  pub none : stale_count old.stale ≡ 0
  pub primary_is : now_primary ≡ primary
  pub mirror_is : new ≡ old

-- the mirror holds an image, and nothing changed
pub record IsHolding {D : Type 0} (primary now_primary : D) (old new : Mirror D) (set : ℕ) : Type 0 where
  pub held : old.holds ≡ Some set
  pub primary_is : now_primary ≡ primary
  pub mirror_is : new ≡ old

-- a device failed, and the block that was to be copied is stale still
pub record IsFailed {D : Type 0} (ghosts : Ghosts D) (primary now_primary : D) (old new : Mirror D) : Type 0 where
  pub holds_none : old.holds ≡ None
  pub some : 0 < stale_count old.stale
  pub uncopied : IsNotCopied ghosts primary now_primary old.device new.device
  pub stale : new.stale ≡ old.stale
  pub holds : new.holds ≡ old.holds

abbrev pub IsStep : {D : Type 0} → Ghosts D → D → D → Mirror D → Mirror D → Result Synced SyncFault → Type 0
IsStep ghosts primary now_primary old new (Ok (Copied b)) = IsCopied ghosts primary now_primary old new b
IsStep ghosts primary now_primary old new (Ok InStep) = IsInStepAlready primary now_primary old new
IsStep ghosts primary now_primary old new (Err (HoldsImage set)) = IsHolding primary now_primary old new set
IsStep ghosts primary now_primary old new (Err Volume) = IsFailed ghosts primary now_primary old new

-- the step was made on mirror k, and no other changed
pub record IsSynced {D : Type 0} (ghosts : Ghosts D) (old new : MirrorValue D) (k : ℕ) (result : Result Synced SyncFault) : Type 0 where
  pub before : Mirror D
  pub after : Mirror D
  pub was : slice_get old.mirrors k ≡ Some before
  pub mirrors : new.mirrors ≡ slice_set old.mirrors k after
  pub images : new.images ≡ old.images
  pub step : IsStep ghosts old.primary new.primary before after result

-- ## all steps

-- how many blocks of a mirror a step copied
abbrev pub copied_by : Result Synced SyncFault → ℕ
copied_by (Ok (Copied b)) = 1
copied_by (Ok InStep) = 0
copied_by (Err fault) = 0

abbrev pub stale_in : {D : Type 0} → Option (Mirror D) → ℕ
stale_in None = 0
stale_in (Some m) = stale_count m.stale

-- how many blocks of mirror k are stale
abbrev pub stale_at : {D : Type 0} → MirrorValue D → ℕ → ℕ
stale_at v k = stale_in (slice_get v.mirrors k)

-- ## calls between the steps

-- a call that is no write, with its answer
pub data Call : Type 0 where
  -- a step on a mirror
  Step : ℕ → Result Synced SyncFault → Call
  -- a read of a block into these bytes
  Read : ℕ → List ℕ → Result Unit Cause → Call
  -- a read of a block of the image of a set
  ImageRead : ℕ → ℕ → List ℕ → Result Unit ImageFault → Call
  Cut : ℕ → Result Unit NoMirror → Call
  Drop : ℕ → Result Unit ImageFault → Call
  -- a flush of the primary
  Flush : Call
  -- a flush of a mirror
  MirrorFlush : ℕ → Result Unit Failed → Call
  -- a flush of the primary and of each mirror
  Sync : Result Unit Failed → Call

abbrev pub IsCall : {D : Type 0} → Ghosts D → MirrorValue D → Call → MirrorValue D → Type 0
IsCall ghosts old (Step k answer) new = IsSynced ghosts old new k answer
IsCall ghosts old (Read b bytes result) new = IsRead ghosts old new b bytes result
IsCall ghosts old (ImageRead set b bytes result) new = IsImageRead ghosts old new set b bytes result
IsCall ghosts old (Cut set result) new = IsCut old new set result
IsCall ghosts old (Drop set result) new = IsDropped old new set result
IsCall ghosts old Flush new = IsQuiet ghosts old new
IsCall ghosts old (MirrorFlush k result) new = IsMirrorFlush ghosts old new k result
IsCall ghosts old (Sync result) new = IsAllFlushed ghosts old new result

-- calls one after another lead from one state of a volume to another
abbrev pub AreCalls : {D : Type 0} → Ghosts D → MirrorValue D → List Call → MirrorValue D → Type 0
AreCalls ghosts old [] new = new ≡ old
AreCalls {D = D} ghosts old (call ∷ calls) new = (next : MirrorValue D) × IsCall ghosts old call next × AreCalls ghosts next calls new

-- how many blocks of mirror k a call copied
abbrev pub copied_on : ℕ → Call → ℕ
copied_on k (Step j answer) = if j == k then copied_by answer else 0
copied_on k _ = 0

-- ## What is said of a cut and of a step of a mirror that were not made. (This project's own.)

abbrev pub no_mirror_message : NoMirror → List ℕ
no_mirror_message fault = codes "no mirror is ready"

abbrev pub sync_message : SyncFault → List ℕ
sync_message (sync.HoldsImage set) = codes "the mirror holds the image of set " ++ decimal set
sync_message sync.Volume = codes "a device failed"
