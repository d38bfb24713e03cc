-- What the calls on a volume with mirrors are as calls on a volume with images.
use Rattle.std.proofs.Common.{◌≡◌, ℕ, zero, suc, ◌≤◌, List, [], ◌∷◌, refl, ap, sym, ◌∙◌, arith, Bool, true, Option, Some, None, subst, inl, inr}
use Rattle.std.specs.Prelude.{slice_get, slice_set, ◌&&◌, map, count_by, is_some, is_none, ◌==◌, OnOk, Result, Ok, Err}
use Rattle.std.specs.List.{list_all}
use Rattle.std.proofs.lemmas.Bool.Decides.{nat_tests}
use Rattle.std.proofs.lemmas.Grind.{common_steps}
use Rattle.vss_names.specs.Faults.{Rose}
use Rattle.volume_device.specs.declared.device.Device.{Ghosts}
use Rattle.write_history.specs.History.{History, Write, dropped, cut}
use Rattle.cow_volume.specs.OneVolume.{without_up_to}
use Rattle.cow_volume.specs.declared.cause.Cause.{Cause}
use Rattle.cow_volume.specs.declared.written.Written.{Written}
use Rattle.cow_volume.specs.declared.write_fault.WriteFault.{WriteFault}
use Rattle.cow_volume.specs.declared.image_fault.ImageFault.{ImageFault}
use Rattle.cow_volume.specs.declared.image_fault.ImageFault.TheVariants.{NoSuchImage, NoSuchBlock as NoBlock, Volume as VolumeFailed, Area as AreaFailed}
use Rattle.cow_volume.proofs.Group.{slice_get_map}
use Rattle.cow_volume.proofs.Writing.{put_tells}
use Rattle.mirror_volume.specs.declared.mirror.Mirror.{Mirror}
use Rattle.mirror_volume.specs.Stale.{stale_count}
use Rattle.mirror_volume.specs.Contract.{IsSame, IsNoLessReady, StandsAfter}
use Rattle.mirror_volume.specs.Contract as contract
use Rattle.mirror_volume.specs.Mirrors.{MirrorValue, StandsFor, faults_of, ready_count, tells, is_ready}
use Rattle.mirror_volume.specs.MirrorCalls.{IsQuiet, IsQuietOn, HasCause, IsWrite, IsWritten, after_write, IsRead, IsImageRead, IsCut, IsDropped}
use Rattle.mirror_volume.proofs.Counts.{none_gone}
use Rattle.mirror_volume.proofs.Held.{map-slice_set, AllLater, AnyRose, all_later, all_rose, later_itself, later_set, rose_set, all_later_followed}
use Rattle.mirror_volume.proofs.Held.{tells_followed, tells_set, ready_followed, ready_set, ready_split, ready_some}
use Rattle.mirror_volume.proofs.Standing.{now_bytes, shown_bytes}
use Rattle.cow_volume.proofs.Merging.{and_left, and_right}

all_at : {X : Type 0} → (test : X → Bool) (xs : List X) (k : ℕ) (x : X) → list_all test xs ≡ true → slice_get xs k ≡ Some x → test x ≡ true
all_at test [] k x all at = cc
all_at test (y ∷ xs) zero x all at = subst (λ z. test z ≡ true) (let same : y ≡ x = cc in same) (and_left (test y) (list_all test xs) all)
all_at test (y ∷ xs) (suc k) x all at = all_at test xs k x (and_right (test y) (list_all test xs) all) at

-- ## what is kept

module _ {D : Type 0} (ghosts : Ghosts D) where
  quiet_later : (old new : MirrorValue D) → IsQuiet ghosts old new → faults_of ghosts.count old ≤ faults_of ghosts.count new
  quiet_later old new is = grind (arith, all_later, later_itself)

  quiet_rose : (old new : MirrorValue D) → IsQuiet ghosts old new → Rose (ghosts.count old.primary) (ghosts.count new.primary) → Rose (faults_of ghosts.count old) (faults_of ghosts.count new)
  quiet_rose old new is rose = grind (arith, all_rose, later_itself)

  pub quiet_same : (old new : MirrorValue D) → IsQuiet ghosts old new → IsSame (tells ghosts.told) (λ v. ghosts.size v.primary) (λ v. None) (faults_of ghosts.count) old new
  quiet_same old new is = grind (arith, quiet_later)

  pub quiet_ready : (old new : MirrorValue D) → IsQuiet ghosts old new → IsNoLessReady ready_count (faults_of ghosts.count) old new
  quiet_ready old new is = inl (let same = ap (λ (ms : List (Mirror D)). count_by is_ready ms) is.mirrors in omega arith)

  -- nothing changed
  pub itself_same : (v new : MirrorValue D) → new ≡ v → IsSame (tells ghosts.told) (λ v. ghosts.size v.primary) (λ v. None) (faults_of ghosts.count) v new
  itself_same v new same = grind arith

  pub itself_ready : (v new : MirrorValue D) → new ≡ v → IsNoLessReady ready_count (faults_of ghosts.count) v new
  itself_ready v new same = inl (let e = ap ready_count same in omega arith)

  -- ## writes

  written_same : (old new : MirrorValue D) (w : Write) → IsWritten ghosts old new w → IsSame (tells ghosts.told) (λ v. ghosts.size v.primary) (λ v. None) (faults_of ghosts.count) old new
  written_same old new w is = record {
    tells_is = ap (λ (t : Option (List (List ℕ))). is_some t && list_all (λ m. is_some (ghosts.told m.device)) new.mirrors) is.told_is
        ∙ ap (λ (t : Bool). t && list_all (λ m. is_some (ghosts.told m.device)) new.mirrors) (put_tells (ghosts.told old.primary) w.block w.bytes)
        ∙ ap (λ (t : Bool). is_some (ghosts.told old.primary) && t) (tells_followed ghosts w.block w.bytes old.mirrors new.mirrors is.mirrors);
    size_is = is.size_is;
    slots_is = refl;
    later = all_later (ghosts.count old.primary) (ghosts.count new.primary) (map (λ m. ghosts.count m.device) old.mirrors) (map (λ m. ghosts.count m.device) new.mirrors)
        (let same = is.unfailed in omega arith)
        (all_later_followed ghosts w.block w.bytes old.mirrors new.mirrors is.mirrors);
  }

  written_ready : (old new : MirrorValue D) (w : Write) → IsWritten ghosts old new w → IsNoLessReady ready_count (faults_of ghosts.count) old new
  written_ready old new w is = elim (ready_followed ghosts w.block w.bytes old.mirrors new.mirrors is.mirrors) [
    | inl ready ↦ inl ready
    | inr rose ↦ inr (all_rose (ghosts.count old.primary) (ghosts.count new.primary) (map (λ m. ghosts.count m.device) old.mirrors) (map (λ m. ghosts.count m.device) new.mirrors)
        (let same = is.unfailed in omega arith)
        (all_later_followed ghosts w.block w.bytes old.mirrors new.mirrors is.mirrors) (inr rose))
  ]

  pub write_same : (old new : MirrorValue D) (w : Write) (result : Result Written WriteFault) → IsWrite ghosts old new w result
      → IsSame (tells ghosts.told) (λ v. ghosts.size v.primary) (λ v. None) (faults_of ghosts.count) old new
  write_same old new w (Ok done) is = written_same old new w is.1
  write_same old new w (Err fault) is = quiet_same old new is.2

  pub write_ready : (old new : MirrorValue D) (w : Write) (result : Result Written WriteFault) → IsWrite ghosts old new w result → IsNoLessReady ready_count (faults_of ghosts.count) old new
  write_ready old new w result is = grind (arith, written_ready, quiet_ready)

  block_cause : (old new : MirrorValue D) (b : ℕ) (cause : Cause) → HasCause ghosts.size ghosts.count b old new cause → IsQuiet ghosts old new
      → contract.HasBlockCause (λ v. ghosts.size v.primary) (faults_of ghosts.count) b old new cause
  block_cause old new b cause is quiet = grind (arith, quiet_rose)

  -- no image of set 0 stands, so none goes
  none_evicted : (v : MirrorValue D) (h : History) (up_to : ℕ) → StandsFor ghosts v h → up_to ≡ 0 → without_up_to up_to h ≡ h
  none_evicted v h up_to stood none = grind (arith, none_gone)

  pub write_is : (old new : MirrorValue D) (w : Write) (result : Result Written WriteFault) → IsWrite ghosts old new w result
      → ((h : History) → StandsFor ghosts old h → StandsFor ghosts new (after_write w result h))
      → contract.IsWrite (StandsFor ghosts) (λ v. ghosts.size v.primary) (λ v. None) (faults_of ghosts.count) old new w result
  write_is old new w result is stands = grind (arith, none_evicted, block_cause)

  -- ## reads

  pub read_same : (old new : MirrorValue D) (b : ℕ) (bytes : List ℕ) (result : Result Unit Cause) → IsRead ghosts old new b bytes result
      → IsSame (tells ghosts.told) (λ v. ghosts.size v.primary) (λ v. None) (faults_of ghosts.count) old new
  read_same old new b bytes (Ok done) is = quiet_same old new is.2
  read_same old new b bytes (Err cause) is = quiet_same old new is.1

  pub read_ready : (old new : MirrorValue D) (b : ℕ) (bytes : List ℕ) (result : Result Unit Cause) → IsRead ghosts old new b bytes result → IsNoLessReady ready_count (faults_of ghosts.count) old new
  read_ready old new b bytes result is = grind arith

  pub read_is : (old new : MirrorValue D) (b : ℕ) (bytes : List ℕ) (result : Result Unit Cause) → IsRead ghosts old new b bytes result
      → contract.IsRead (StandsFor ghosts) (tells ghosts.told) (λ v. ghosts.size v.primary) (faults_of ghosts.count) old new b bytes result
  read_is old new b bytes (Ok done) is = (
    is.0,
    λ h stood tell.
        now_bytes (ghosts.told old.primary) (ghosts.size old.primary) b bytes h stood.primary is.1 is.0
        (and_left (is_some (ghosts.told old.primary)) (list_all (λ m. is_some (ghosts.told m.device)) old.mirrors) tell),
  )
  read_is old new b bytes (Err cause) is = block_cause old new b cause is.0 is.1

  called_later : (old new : MirrorValue D) (k : ℕ) (m : Mirror D) → IsQuietOn ghosts old new k m
      → AllLater (map (λ x. ghosts.count x.device) old.mirrors) (map (λ x. ghosts.count x.device) new.mirrors)
  called_later old new k m is =
      subst (λ (cs : List ℕ). AllLater (map (λ x. ghosts.count x.device) old.mirrors) cs)
      (sym (ap (map (λ x. ghosts.count x.device)) is.mirrors ∙ map-slice_set (λ x. ghosts.count x.device) old.mirrors k (record { device = is.after; holds = m.holds; stale = m.stale })))
      (later_set (map (λ x. ghosts.count x.device) old.mirrors) k (ghosts.count m.device) (ghosts.count is.after) (at_map old.mirrors k m is.was) is.device.later) where
        at_map : (ms : List (Mirror D)) (k : ℕ) (m : Mirror D) → slice_get ms k ≡ Some m → slice_get (map (λ (x : Mirror D). ghosts.count x.device) ms) k ≡ Some (ghosts.count m.device)
        at_map ms k m at = slice_get_map (λ (x : Mirror D). ghosts.count x.device) ms k m at

  called_rose : (old new : MirrorValue D) (k : ℕ) (m : Mirror D) (is : IsQuietOn ghosts old new k m) → Rose (ghosts.count m.device) (ghosts.count is.after)
      → Rose (faults_of ghosts.count old) (faults_of ghosts.count new)
  called_rose old new k m is rose =
      all_rose (ghosts.count old.primary) (ghosts.count new.primary) (map (λ x. ghosts.count x.device) old.mirrors) (map (λ x. ghosts.count x.device) new.mirrors)
      (let same = ap ghosts.count is.primary in omega arith) (called_later old new k m is)
      (inr (subst (λ (cs : List ℕ). AnyRose (map (λ x. ghosts.count x.device) old.mirrors) cs)
      (sym (ap (map (λ x. ghosts.count x.device)) is.mirrors ∙ map-slice_set (λ x. ghosts.count x.device) old.mirrors k (record { device = is.after; holds = m.holds; stale = m.stale })))
      (rose_set (map (λ x. ghosts.count x.device) old.mirrors) k (ghosts.count m.device) (ghosts.count is.after)
      (slice_get_map (λ (x : Mirror D). ghosts.count x.device) old.mirrors k m is.was) rose)))

  called_same : (old new : MirrorValue D) (k : ℕ) (m : Mirror D) → IsQuietOn ghosts old new k m → IsSame (tells ghosts.told) (λ v. ghosts.size v.primary) (λ v. None) (faults_of ghosts.count) old new
  called_same old new k m is = grind (arith, common_steps, nat_tests, tells_set, all_later, called_later old new k m is)

  called_ready : (old new : MirrorValue D) (k : ℕ) (m : Mirror D) → IsQuietOn ghosts old new k m → IsNoLessReady ready_count (faults_of ghosts.count) old new
  called_ready old new k m is = grind (arith, common_steps, ready_set old.mirrors k m)

  pub image_same : (old new : MirrorValue D) (set b : ℕ) (bytes : List ℕ) (result : Result Unit ImageFault) → IsImageRead ghosts old new set b bytes result
      → IsSame (tells ghosts.told) (λ v. ghosts.size v.primary) (λ v. None) (faults_of ghosts.count) old new
  image_same old new set b bytes (Err NoSuchImage) is = itself_same old new is.1
  image_same old new set b bytes (Err NoBlock) is = itself_same old new is.2
  image_same old new set b bytes (Err AreaFailed) is = absurd is
  image_same old new set b bytes _ is = called_same old new is.0.place is.0.mirror is.0.quiet

  pub image_ready : (old new : MirrorValue D) (set b : ℕ) (bytes : List ℕ) (result : Result Unit ImageFault) → IsImageRead ghosts old new set b bytes result
      → IsNoLessReady ready_count (faults_of ghosts.count) old new
  image_ready old new set b bytes (Err NoSuchImage) is = itself_ready old new is.1
  image_ready old new set b bytes (Err NoBlock) is = itself_ready old new is.2
  image_ready old new set b bytes (Err AreaFailed) is = absurd is
  image_ready old new set b bytes _ is = called_ready old new is.0.place is.0.mirror is.0.quiet

  pub image_is : (old new : MirrorValue D) (set b : ℕ) (bytes : List ℕ) (result : Result Unit ImageFault) → IsImageRead ghosts old new set b bytes result
      → contract.IsImageRead (StandsFor ghosts) (tells ghosts.told) (λ v. ghosts.size v.primary) (λ v. v.images) (faults_of ghosts.count) old new set b bytes result
  image_is old new set b bytes (Ok done) is = (
    is.0.among,
    is.0.in_range,
    λ h p stood tell at.
        shown_bytes (ghosts.told old.primary) (ghosts.told is.0.mirror.device) (ghosts.size old.primary) b set p bytes is.0.mirror.holds is.0.mirror.stale h
        (stood.mirrors is.0.place is.0.mirror is.0.quiet.was) is.0.held at is.1 is.0.in_range
        (and_left (is_some (ghosts.told old.primary)) (list_all (λ m. is_some (ghosts.told m.device)) old.mirrors) tell)
        (all_at (λ m. is_some (ghosts.told m.device)) old.mirrors is.0.place is.0.mirror
        (and_right (is_some (ghosts.told old.primary)) (list_all (λ m. is_some (ghosts.told m.device)) old.mirrors) tell) is.0.quiet.was),
  )
  image_is old new set b bytes (Err NoSuchImage) is = is.0
  image_is old new set b bytes (Err NoBlock) is = (is.0, is.1)
  image_is old new set b bytes (Err VolumeFailed) is = (is.0.among, is.0.in_range, called_rose old new is.0.place is.0.mirror is.0.quiet is.1)
  image_is old new set b bytes (Err AreaFailed) is = absurd is

  -- ## images

  moved_same : (old new : MirrorValue D) (k : ℕ) (m next : Mirror D) → new.primary ≡ old.primary → slice_get old.mirrors k ≡ Some m → next.device ≡ m.device
      → new.mirrors ≡ slice_set old.mirrors k next
      → IsSame (tells ghosts.told) (λ v. ghosts.size v.primary) (λ v. None) (faults_of ghosts.count) old new
  moved_same old new k m next primary was device mirrors = grind (arith, tells_set, all_later, map-slice_set, later_set, slice_get_map)

  pub cut_same : {E : Type 0} (old new : MirrorValue D) (set : ℕ) (result : Result Unit E) → IsCut old new set result
      → IsSame (tells ghosts.told) (λ v. ghosts.size v.primary) (λ v. None) (faults_of ghosts.count) old new
  cut_same old new set (Ok done) is = grind (arith, common_steps, moved_same old new is.place is.split.mirror)
  cut_same old new set (Err refused) is = itself_same old new is.1

  pub cut_is : {E : Type 0} (old new : MirrorValue D) (set : ℕ) (result : Result Unit E) → IsCut old new set result → OnOk result (StandsAfter (StandsFor ghosts) old new (cut set))
      → contract.IsCut (StandsFor ghosts) ready_count 1 old new set result
  cut_is old new set result is stands = grind (arith, ready_some, ready_split)

  pub drop_same : (old new : MirrorValue D) (set : ℕ) (result : Result Unit ImageFault) → IsDropped old new set result
      → IsSame (tells ghosts.told) (λ v. ghosts.size v.primary) (λ v. None) (faults_of ghosts.count) old new
  drop_same old new set (Ok done) is = grind (arith, common_steps, moved_same old new is.1.place is.1.mirror)
  drop_same old new set (Err fault) is = itself_same old new is.2

  pub drop_ready : (old new : MirrorValue D) (set : ℕ) (result : Result Unit ImageFault) → IsDropped old new set result → IsNoLessReady ready_count (faults_of ghosts.count) old new
  drop_ready old new set (Ok done) is =
      grind (arith, common_steps, ready_set old.mirrors is.1.place is.1.mirror, and_right (is_none is.1.mirror.holds) (stale_count is.1.mirror.stale == 0))
  drop_ready old new set (Err fault) is = itself_ready old new is.2

  pub drop_is : (old new : MirrorValue D) (set : ℕ) (result : Result Unit ImageFault) → IsDropped old new set result → OnOk result (StandsAfter (StandsFor ghosts) old new (dropped set))
      → contract.IsDropped (StandsFor ghosts) (λ v. v.images) old new set result
  drop_is old new set result is stands = grind arith
