-- What a step does to the provider, and what is told of what was read. (This project's own.)
use Rattle.std.specs.List.{concat}
use Rattle.std.specs.Prelude.{ℕ, ◌≡◌, ◌<◌, Bool, true, false, List, length, take, Option, Some, None, IfSome, slice_get, zero, suc, [], filter, Result, Ok, Err}
use Rattle.scenario.specs.declared.line.Line.{Line}
use Rattle.scenario.specs.declared.op.Op.TheVariants.{Snapshot}
use Rattle.vss_model.specs.Words.{IsDigestIf, Plan, State, blocks_of, content, contents, history_of, kept, point_in, AsyncPending, Complete, Evicted, Failed}
use Rattle.vss_model.specs.Words.{Op, Running, SetOutcome, Write, Writes, gone_up_to, group_of, is_kept_set, line_of}
use Rattle.vss_model.specs.declared.told.Told.TheVariants as told
use Rattle.provider.specs.Words.{Cause, Ghosts, IsBytes, sha256, payload_bytes}
use Rattle.provider.specs.declared.digested.Digested.{Digested}
use Rattle.vss_world.specs.Words.{HasCause, IfShown, IsDigestTold, IsQuiet, IsThere, ProviderValue, Told, AreGroups, AreWithout, GoUpTo, HasRoom, IfStandFor}
use Rattle.vss_world.specs.Words.{IsCallOn, Keeps, SessionMove, SessionsValue, devices_of, images_going}
use Rattle.vss_world.specs.declared.fingerprint.Fingerprint.{Fingerprint}

-- ## What is told of what was read: a block by its first bytes and its digest, an image by its digest. A call that reads leaves what the
-- groups stand for as it was. (This project's own.)

pub record IsFingerprint (bytes : List ℕ) (f : Fingerprint) : Type 0 where
  pub first : f.first ≡ take 8 bytes
  pub digest : f.digest ≡ sha256 bytes

-- it has the width of one, whatever the bytes are
pub record IsWide (f : Fingerprint) : Type 0 where
  pub first : length f.first ≡ 8
  pub first_bytes : IsBytes f.first
  pub digest : length f.digest ≡ 32
  pub digest_bytes : IsBytes f.digest

-- ## a call that reads

-- the provider stands for what it stood for; a device failed, or each count is as it was
pub record IsReading {D : Type 0} (device : Ghosts D) (s : Plan) (old new : ProviderValue D) (v : ℕ) (fault : Option Cause) : Type 0 where
  pub quiet : IsQuiet device s old.groups new.groups v
  pub cause : HasCause device.count s v fault old.groups new.groups
  pub rest : new ≡ record old { groups = new.groups }

-- the fingerprint of block b of volume v, as it is now or as the image of a set shows it, where the volume tells
pub record IsBlockTold {D : Type 0} (told : D → Option (List (List ℕ))) (s : Plan) (p : ProviderValue D) (v : ℕ) (set : Option ℕ) (b : ℕ) (first digest : List ℕ) : Type 0 where
  pub exact : IfShown told s p.groups v set (λ ws point. IsFingerprint (content ws point b) (record { first = first; digest = digest }))
  pub wide : IsWide (record { first = first; digest = digest })

-- what was told of a block: its fingerprint, or the fault of a device
abbrev pub IsBlockSeen : {D : Type 0} → Ghosts D → Plan → ProviderValue D → ProviderValue D → ℕ → Option ℕ → ℕ → Told → Type 0
IsBlockSeen device s old new v set b (told.Block first digest) = IsReading device s old new v None × IsBlockTold device.told s old v set b first digest
IsBlockSeen device s old new v set b told.Fault = (fault : Cause) × IsReading device s old new v (Some fault)
IsBlockSeen device s old new v set b _ = ⊥

-- what was told of all blocks: their digest, or the fault of a device
abbrev pub IsDigestSeen : {D : Type 0} → Ghosts D → Plan → ProviderValue D → ProviderValue D → ℕ → Option ℕ → Told → Type 0
IsDigestSeen device s old new v set (told.Digest digest) = IsReading device s old new v None × IsDigestTold device.told s old.groups v set digest
IsDigestSeen device s old new v set told.Fault = (fault : Cause) × IsReading device s old new v (Some fault)
IsDigestSeen device s old new v set _ = ⊥

-- where no image of the set stands on the volume, nothing changed and nothing is told
abbrev pub IsSeenIf : {D : Type 0} → (D → Option (List (List ℕ))) → Plan → ProviderValue D → ProviderValue D → ℕ → Option ℕ → (Told → Type 0) → Option Told → Type 0
IsSeenIf blocks_told s old new v set Seen None = IsThere blocks_told s old.groups v set false × (new ≡ old)
IsSeenIf blocks_told s old new v set Seen (Some answer) = IsThere blocks_told s old.groups v set true × Seen answer

-- ## against a state

-- the digest is that of all blocks of volume v, or of those that the kept image of a set on it shows, as far as the volume tells
abbrev pub IsDigestOf : List Bool → Plan → State → ℕ → Option ℕ → List ℕ → Type 0
IsDigestOf tells s st v None digest = IsDigestIf (slice_get tells v) (concat (contents (blocks_of s v) (history_of st v).writes (length (history_of st v).writes))) digest
IsDigestOf tells s st v (Some set) digest = (point : ℕ) → point_in set (kept st (history_of st v)) ≡ Some point
    → IsDigestIf (slice_get tells v) (concat (contents (blocks_of s v) (history_of st v).writes point)) digest

-- where there is a digest it is that of what it is said to be of
abbrev pub IsDigestedIf : List Bool → Plan → State → Digested → Type 0
IsDigestedIf tells s st row = row.volume < length s.volumes → IfSome row.digest (IsDigestOf tells s st row.volume row.set)

-- ## What a step does to the provider: a line writes a block, for which kept images may go; and where a move of the sessions ends the set
-- that is prepared, the provider prepares none any more. (This project's own.)

-- ## a line that writes

abbrev pub IsWriteBy : Line → ℕ → Write → Type 0
IsWriteBy (Writes u b payload) v w = (u ≡ v) × (w ≡ record { block = b; bytes = payload_bytes payload })
IsWriteBy _ v w = ⊥

-- the line makes this write to volume v
abbrev pub IsWriteLine : Op → ℕ → Write → Type 0
IsWriteLine op = IsWriteBy (line_of op)

-- what a write is answered
abbrev pub told_if : Result Unit Cause → Told
told_if (Ok done) = told.Ok
told_if (Err cause) = told.Fault

-- The provider made room for a write of block b to volume v: images went up to a set, and those of complete sets are these, at each
-- state of the sessions and for each list of histories that the groups stood for.
pub record MakesRoom {D : Type 0} (device : Ghosts D) (s : Plan) (x : SessionsValue) (old new : ProviderValue D) (v b : ℕ) (images : List Evicted) (up_to : ℕ) : Type 0 where
  pub call : IsCallOn device s v old.groups new.groups
  pub devices : devices_of new.groups ≡ devices_of old.groups
  pub evicted : IfStandFor device.told s old.groups (GoUpTo s v b up_to)
  pub stands : IfStandFor device.told s old.groups (λ hs. AreGroups device.told s new.groups (gone_up_to up_to (group_of s v) hs))
  pub kept : (st : State) → Keeps x st → IfStandFor device.told s old.groups (λ hs. images ≡ filter (λ (i : Evicted). is_kept_set st i.set) (images_going up_to (group_of s v) hs))
  pub room : HasRoom s new.groups v b
  pub rest : new ≡ record old { groups = new.groups }

-- ## a set that is over

-- a set that failed takes its images with it, one that is complete leaves them
abbrev pub IsEndedAs : {D : Type 0} → Ghosts D → SetOutcome → ProviderValue D → ProviderValue D → Type 0
IsEndedAs device Running old new = new ≡ old
IsEndedAs device Complete old new = new ≡ record { groups = old.groups; set = 0; volumes = [] }
IsEndedAs device (Failed why) old new = (stood : ℕ) × AreWithout device old.groups new.groups old.set stood × (new ≡ record { groups = new.groups; set = 0; volumes = [] })

-- where no set is over, whose number is 0, nothing changed
abbrev pub IsEnded : {D : Type 0} → Ghosts D → ℕ → SetOutcome → ProviderValue D → ProviderValue D → Type 0
IsEnded device zero result old new = new ≡ old
IsEnded device (suc n) result old new = IsEndedAs device result old new

-- the images of a set went from all volumes, where there is a set, and else nothing changed
abbrev pub IsReleased : {D : Type 0} → Ghosts D → Option ℕ → ProviderValue D → ProviderValue D → Type 0
IsReleased device None old new = new ≡ old
IsReleased device (Some n) old new = (stood : ℕ) × AreWithout device old.groups new.groups n stood × (new ≡ record old { groups = new.groups })

abbrev pub IsSettled : {D : Type 0} → Ghosts D → SessionMove → ProviderValue D → ProviderValue D → Type 0
IsSettled {D = D} device m old new =
    (mid : ProviderValue D) × IsEnded device m.outcome.set m.outcome.result old mid × IsReleased device m.released mid new

-- the answer to a line says that the set's snapshot begins
abbrev pub begins_snapshot : Op → Told → Bool
begins_snapshot Snapshot (told.Result AsyncPending) = true
begins_snapshot _ _ = false

-- the provider was told the number of the set whose snapshot begins
abbrev pub IsEndPrepared : {D : Type 0} → Bool → Option ℕ → ProviderValue D → ProviderValue D → Type 0
IsEndPrepared false set old new = new ≡ old
IsEndPrepared true None old new = new ≡ old
IsEndPrepared true (Some n) old new = new ≡ record old { set = n }
