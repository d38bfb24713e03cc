-- What the calls on a volume with mirrors come to. (This project's own.)
use Rattle.std.specs.Prelude.{ℕ, ◌≡◌, ◌<◌, ◌≤◌, ◌⊎◌, ◌==◌, not, true, false, List, [], ◌∷◌, ◌++◌, length, filter, Some, None, IfSome, is_some, slice_get, slice_set, option_map, Result, Ok}
use Rattle.std.specs.Prelude.{Err, OnOk}
use Rattle.vss_names.specs.Faults.{Rose}
use Rattle.vss_names.specs.Faults as Faults
use Rattle.vss_names.specs.declared.failed.Failed.{Failed}
use Rattle.volume_device.specs.InMemory.{AreBlocks}
use Rattle.volume_device.specs.declared.device.Device.{Ghosts}
use Rattle.write_history.specs.History.{History, Write, written}
use Rattle.cow_volume.specs.Calls.{is_among}
use Rattle.cow_volume.specs.declared.cause.Cause.{Cause}
use Rattle.cow_volume.specs.declared.cause.Cause.TheVariants.{NoSuchBlock, Volume, Area}
use Rattle.cow_volume.specs.declared.written.Written.{Written}
use Rattle.cow_volume.specs.declared.write_fault.WriteFault.{WriteFault}
use Rattle.cow_volume.specs.declared.image_fault.ImageFault.{ImageFault}
use Rattle.cow_volume.specs.declared.image_fault.ImageFault.TheVariants.{NoSuchImage, NoSuchBlock as NoBlock, Volume as VolumeFailed, Area as AreaFailed}
use Rattle.mirror_volume.specs.declared.mirror.Mirror.{Mirror}
use Rattle.mirror_volume.specs.Mirrors.{MirrorValue, faults_of, is_ready, ready_count}

-- ## one device

-- it tells what it told
pub record IsQuietDevice {D : Type 0} (ghosts : Ghosts D) (old new : D) : Type 0 where
  pub told_is : ghosts.told new ≡ ghosts.told old
  pub size_is : ghosts.size new ≡ ghosts.size old
  pub later : ghosts.count old ≤ ghosts.count new

-- ## a mirror after a write of the volume

-- a mirror that holds an image is left as it is, and the block is stale
pub record IsLeft {D : Type 0} (b : ℕ) (old new : Mirror D) : Type 0 where
  pub holds_image : is_some old.holds ≡ true
  pub device : new.device ≡ old.device
  pub stale : new.stale ≡ slice_set old.stale b true

-- another got the block, which is stale no longer
pub record IsMirrored {D : Type 0} (ghosts : Ghosts D) (b : ℕ) (bytes : List ℕ) (old new : Mirror D) : Type 0 where
  pub holds_none : old.holds ≡ None
  pub whole : IfSome (ghosts.told old.device) (AreBlocks (ghosts.size old.device))
  pub told_is : ghosts.told new.device ≡ option_map (λ blocks. slice_set blocks b bytes) (ghosts.told old.device)
  pub size_is : ghosts.size new.device ≡ ghosts.size old.device
  pub unfailed : ghosts.count new.device ≡ ghosts.count old.device
  pub stale : new.stale ≡ slice_set old.stale b false

-- or its device failed, and the block is stale
pub record IsMissed {D : Type 0} (ghosts : Ghosts D) (b : ℕ) (old new : Mirror D) : Type 0 where
  pub holds_none : old.holds ≡ None
  pub device : IsQuietDevice ghosts old.device new.device
  pub rose : Rose (ghosts.count old.device) (ghosts.count new.device)
  pub stale : new.stale ≡ slice_set old.stale b true

pub record IsFollowed {D : Type 0} (ghosts : Ghosts D) (b : ℕ) (bytes : List ℕ) (old new : Mirror D) : Type 0 where
  pub holds : new.holds ≡ old.holds
  pub outcome : IsLeft b old new ⊎ IsMirrored ghosts b bytes old new ⊎ IsMissed ghosts b old new

-- each mirror has the block
abbrev pub HaveBlock : {D : Type 0} → (D → ℕ) → ℕ → List (Mirror D) → Type 0
HaveBlock {D = D} size b mirrors = (k : ℕ) (m : Mirror D) → slice_get mirrors k ≡ Some m → (b < size m.device) × (b < length m.stale)

-- each mirror in its place
pub record AreFollowed {D : Type 0} (ghosts : Ghosts D) (b : ℕ) (bytes : List ℕ) (old new : List (Mirror D)) : Type 0 where
  pub long : length new ≡ length old
  pub each : (k : ℕ) (m n : Mirror D) → slice_get old k ≡ Some m → slice_get new k ≡ Some n → IsFollowed ghosts b bytes m n

-- ## writes

-- the block was written to the primary, and each mirror followed
pub record IsWritten {D : Type 0} (ghosts : Ghosts D) (old new : MirrorValue D) (w : Write) : Type 0 where
  pub in_range : w.block < ghosts.size old.primary
  pub told_is : ghosts.told new.primary ≡ option_map (λ blocks. slice_set blocks w.block w.bytes) (ghosts.told old.primary)
  pub size_is : ghosts.size new.primary ≡ ghosts.size old.primary
  pub unfailed : ghosts.count new.primary ≡ ghosts.count old.primary
  pub mirrors : AreFollowed ghosts w.block w.bytes old.mirrors new.mirrors
  pub images : new.images ≡ old.images

-- the primary was called, and nothing but its count may have changed
pub record IsQuiet {D : Type 0} (ghosts : Ghosts D) (old new : MirrorValue D) : Type 0 where
  pub primary : IsQuietDevice ghosts old.primary new.primary
  pub mirrors : new.mirrors ≡ old.mirrors
  pub images : new.images ≡ old.images

-- why a call on block b failed
abbrev pub HasCause : {D : Type 0} → (D → ℕ) → (D → ℕ) → ℕ → MirrorValue D → MirrorValue D → Cause → Type 0
HasCause size count b old new NoSuchBlock = (size old.primary ≤ b) × (new ≡ old)
HasCause size count b old new Volume = (b < size old.primary) × Rose (count old.primary) (count new.primary)
HasCause size count b old new Area = ⊥

abbrev pub IsWrite : {D : Type 0} → Ghosts D → MirrorValue D → MirrorValue D → Write → Result Written WriteFault → Type 0
IsWrite ghosts old new w (Ok done) = (done.evicted_up_to ≡ 0) × IsWritten ghosts old new w
IsWrite ghosts old new w (Err fault) = (fault.evicted_up_to ≡ 0) × HasCause ghosts.size ghosts.count w.block old new fault.cause × IsQuiet ghosts old new

-- the history after it
abbrev pub after_write : Write → Result Written WriteFault → History → History
after_write w (Ok done) h = written w h
after_write w (Err fault) h = h

-- ## reads

-- a mirror was called, and nothing but its count may have changed
pub record IsQuietOn {D : Type 0} (ghosts : Ghosts D) (old new : MirrorValue D) (k : ℕ) (m : Mirror D) : Type 0 where
  pub was : slice_get old.mirrors k ≡ Some m
  pub after : D
  pub device : IsQuietDevice ghosts m.device after
  pub mirrors : new.mirrors ≡ slice_set old.mirrors k (record { device = after; holds = m.holds; stale = m.stale })
  pub primary : new.primary ≡ old.primary
  pub images : new.images ≡ old.images

-- block b was read from the primary, or why it was not
abbrev pub IsRead : {D : Type 0} → Ghosts D → MirrorValue D → MirrorValue D → ℕ → List ℕ → Result Unit Cause → Type 0
IsRead ghosts old new b bytes (Ok done) = (b < ghosts.size old.primary) × IfSome (ghosts.told old.primary)
    (λ blocks. slice_get blocks b ≡ Some bytes) × IsQuiet ghosts old new × (ghosts.count new.primary ≡ ghosts.count old.primary)
IsRead ghosts old new b bytes (Err cause) = HasCause ghosts.size ghosts.count b old new cause × IsQuiet ghosts old new

-- a mirror's device was called, and nothing but its count may have changed
pub record IsCalled {D : Type 0} (ghosts : Ghosts D) (old new : Mirror D) : Type 0 where
  pub device : IsQuietDevice ghosts old.device new.device
  pub holds : new.holds ≡ old.holds
  pub stale : new.stale ≡ old.stale

-- block b of a mirror was read, or its device failed
abbrev pub IsMirrorRead : {D : Type 0} → Ghosts D → Mirror D → Mirror D → ℕ → List ℕ → Result Unit ImageFault → Type 0
IsMirrorRead ghosts old new b bytes (Ok done) = IsCalled ghosts old new × IfSome (ghosts.told old.device)
    (λ blocks. slice_get blocks b ≡ Some bytes) × (ghosts.count new.device ≡ ghosts.count old.device)
IsMirrorRead ghosts old new b bytes (Err fault) = IsCalled ghosts old new × (fault ≡ VolumeFailed) × Rose (ghosts.count old.device) (ghosts.count new.device)

-- the mirror that holds the image of a set was called for block b
pub record IsCalledFor {D : Type 0} (ghosts : Ghosts D) (old new : MirrorValue D) (set b : ℕ) : Type 0 where
  pub place : ℕ
  pub mirror : Mirror D
  pub held : mirror.holds ≡ Some set
  pub among : is_among set old.images ≡ true
  pub in_range : b < ghosts.size old.primary
  pub quiet : IsQuietOn ghosts old new place mirror

-- it was read, or why it was not
abbrev pub IsImageRead : {D : Type 0} → Ghosts D → MirrorValue D → MirrorValue D → ℕ → ℕ → List ℕ → Result Unit ImageFault → Type 0
IsImageRead ghosts old new set b bytes (Ok done) = (call : IsCalledFor ghosts old new set b) × IfSome (ghosts.told call.mirror.device)
    (λ blocks. slice_get blocks b ≡ Some bytes) × (ghosts.count call.quiet.after ≡ ghosts.count call.mirror.device)
IsImageRead ghosts old new set b bytes (Err NoSuchImage) = (is_among set old.images ≡ false) × (new ≡ old)
IsImageRead ghosts old new set b bytes (Err NoBlock) = (is_among set old.images ≡ true) × (ghosts.size old.primary ≤ b) × (new ≡ old)
IsImageRead ghosts old new set b bytes (Err VolumeFailed) = (call : IsCalledFor ghosts old new set b) × Rose (ghosts.count call.mirror.device) (ghosts.count call.quiet.after)
IsImageRead ghosts old new set b bytes (Err AreaFailed) = ⊥

-- ## what lasts

-- what was written to mirror k lasts, or its device failed
pub record IsMirrorFlush {D : Type 0} (ghosts : Ghosts D) (old new : MirrorValue D) (k : ℕ) (result : Result Unit Failed) : Type 0 where
  pub mirror : Mirror D
  pub quiet : IsQuietOn ghosts old new k mirror
  pub lasts : OnOk result (ghosts.lasting quiet.after ≡ ghosts.told quiet.after)
  pub cause : Faults.HasCause (ghosts.count mirror.device) (ghosts.count quiet.after) result

-- the device of each mirror may have been called, and nothing but its count may have changed
pub record AreCalled {D : Type 0} (ghosts : Ghosts D) (old new : List (Mirror D)) : Type 0 where
  pub long : length new ≡ length old
  pub each : (k : ℕ) (m n : Mirror D) → slice_get old k ≡ Some m → slice_get new k ≡ Some n → IsCalled ghosts m n

-- what was written to each mirror lasts
abbrev pub AreLasting : {D : Type 0} → Ghosts D → List (Mirror D) → Type 0
AreLasting {D = D} ghosts mirrors = (k : ℕ) (m : Mirror D) → slice_get mirrors k ≡ Some m → ghosts.lasting m.device ≡ ghosts.told m.device

-- what was written to the primary and to each mirror lasts, or a device failed
pub record IsAllFlushed {D : Type 0} (ghosts : Ghosts D) (old new : MirrorValue D) (result : Result Unit Failed) : Type 0 where
  pub primary : IsQuietDevice ghosts old.primary new.primary
  pub mirrors : AreCalled ghosts old.mirrors new.mirrors
  pub images : new.images ≡ old.images
  pub lasts : OnOk result (ghosts.lasting new.primary ≡ ghosts.told new.primary)
  pub mirrors_last : OnOk result (AreLasting ghosts new.mirrors)
  pub cause : Faults.HasCause (faults_of ghosts.count old) (faults_of ghosts.count new) result

-- ## images

-- the first mirror that is ready
pub record IsFirstReady {D : Type 0} (mirrors : List (Mirror D)) (place : ℕ) : Type 0 where
  pub mirror : Mirror D
  pub was : slice_get mirrors place ≡ Some mirror
  pub ready : is_ready mirror ≡ true
  pub first : (k : ℕ) (m : Mirror D) → k < place → slice_get mirrors k ≡ Some m → is_ready m ≡ false

-- no mirror is
abbrev pub NoneReady : {D : Type 0} → List (Mirror D) → Type 0
NoneReady {D = D} mirrors = (k : ℕ) (m : Mirror D) → slice_get mirrors k ≡ Some m → is_ready m ≡ false

-- the mirror of this place holds the image of a set; none of the first ones does
pub record IsHolder {D : Type 0} (mirrors : List (Mirror D)) (set place : ℕ) : Type 0 where
  pub mirror : Mirror D
  pub was : slice_get mirrors place ≡ Some mirror
  pub held : mirror.holds ≡ Some set

abbrev pub NoneHolds : {D : Type 0} → List (Mirror D) → ℕ → ℕ → Type 0
NoneHolds {D = D} mirrors set count = (k : ℕ) (m : Mirror D) → k < count → slice_get mirrors k ≡ Some m → m.holds ≡ Some set → ⊥

-- the first mirror that was ready holds the image
pub record IsSplit {D : Type 0} (old new : MirrorValue D) (set : ℕ) : Type 0 where
  pub place : ℕ
  pub split : IsFirstReady old.mirrors place
  pub mirrors : new.mirrors ≡ slice_set old.mirrors place (record { device = split.mirror.device; holds = Some set; stale = split.mirror.stale })
  pub primary : new.primary ≡ old.primary
  pub images : new.images ≡ old.images ++ set ∷ []

abbrev pub IsCut : {D E : Type 0} → MirrorValue D → MirrorValue D → ℕ → Result Unit E → Type 0
IsCut old new set (Ok done) = IsSplit old new set
IsCut old new set (Err refused) = (ready_count old ≡ 0) × (new ≡ old)

-- the mirror that held the image holds none, and keeps its stale blocks
pub record IsJoined {D : Type 0} (old new : MirrorValue D) (set : ℕ) : Type 0 where
  pub place : ℕ
  pub mirror : Mirror D
  pub was : slice_get old.mirrors place ≡ Some mirror
  pub held : mirror.holds ≡ Some set
  pub mirrors : new.mirrors ≡ slice_set old.mirrors place (record { device = mirror.device; holds = None; stale = mirror.stale })
  pub primary : new.primary ≡ old.primary
  pub images : new.images ≡ filter (λ s. not (s == set)) old.images

abbrev pub IsDropped : {D : Type 0} → MirrorValue D → MirrorValue D → ℕ → Result Unit ImageFault → Type 0
IsDropped old new set (Ok done) = (is_among set old.images ≡ true) × IsJoined old new set
IsDropped old new set (Err fault) = (fault ≡ NoSuchImage) × (is_among set old.images ≡ false) × (new ≡ old)
