-- Mirrors are flushed one after another; and what the calls on a copy-on-write volume are as calls on a volume with images.
use Rattle.std.proofs.Common.{◌≡◌, ◌<◌, ◌≤◌, ◌+◌, ℕ, suc, List, [], ◌∷◌, length, map, refl, ap, sym, subst, ◌∙◌, arith, Bool, true, false, Option, Some, Vec}
use Rattle.std.proofs.Common.{inr, zero}
use Rattle.std.proofs.lemmas.Grind.{common_steps}
use Rattle.std.proofs.lemmas.Option.{same_Some, slice_get_within}
use Rattle.std.specs.List.{list_all}
use Rattle.std.specs.Prelude.{slice_get, slice_set, ◌==◌, Err, ◌&&◌, Result, Ok, OnOk, IfErr}
use Rattle.std.specs.declared.alloc.Global.{Global}
use Rattle.vss_names.specs.Faults.{HasCause, Rose, all_counted}
use Rattle.volume_device.specs.declared.device.Device.{Ghosts}
use Rattle.write_history.specs.History.{History, Write}
use Rattle.write_history.specs.Slots.{evicted_up_to}
use Rattle.cow_volume.specs.Calls.{IsKept, IsQuiet, VolumeRose, AreaRose, HasCauseAt, blocks_in, is_among}
use Rattle.cow_volume.specs.StandsFor.{GroupValue, placed, told_in}
use Rattle.cow_volume.specs.OneVolume.{StandsForOne, blocks_of, image_sets, tells, IsEvictedOne, IsOneWrite, IsOneNow, IsOneShown, HasOneCause}
use Rattle.cow_volume.specs.OneVolume.{HasOneImageCause, IsOneDropped}
use Rattle.cow_volume.specs.declared.cause.Cause.{Cause}
use Rattle.cow_volume.specs.declared.image_fault.ImageFault.{ImageFault}
use Rattle.cow_volume.specs.declared.write_fault.WriteFault.{WriteFault}
use Rattle.cow_volume.specs.declared.written.Written.{Written}
use Rattle.cow_volume.proofs.Group.{slice_get-set_same, slice_get-set_other, slice_get_inside, slice_get_map, slice_set-same, length-slice_set, same_number}
use Rattle.cow_volume.proofs.Group.{other_number}
use Rattle.mirror_volume.specs.Contract as contract
use Rattle.mirror_volume.specs.Contract.{faults_of, slots_of}
use Rattle.mirror_volume.specs.MirrorCalls.{IsCalled, AreCalled, AreLasting, IsQuietDevice}
use Rattle.mirror_volume.specs.Mirrors.{MirrorValue, StandsFor, AreHeld, KeepsMirrors, counts_from, holds_of}
use Rattle.mirror_volume.specs.declared.mirror.Mirror.{Mirror}
use Rattle.mirror_volume.proofs.Keeping.{keeps_primary}
use Rattle.mirror_volume.proofs.Held.{map-slice_set, all_later, all_rose, later_itself, later_set, rose_set, AllLater, AnyRose}
use Rattle.mirror_volume.proofs.Standing.{quiet_stands, same_mirror}

-- ## Mirrors are flushed one after another, and what is kept of a volume whose devices were called so.

-- the first k mirrors were flushed, and no call failed
pub record HaveFlushed {D : Type 0} (ghosts : Ghosts D) (k : ℕ) (old new : List (Mirror D)) : Type 0 where
  pub called : AreCalled ghosts old new
  pub last : (j : ℕ) (n : Mirror D) → j < k → slice_get new j ≡ Some n → ghosts.lasting n.device ≡ ghosts.told n.device
  pub counts : map (λ m. ghosts.count m.device) new ≡ map (λ m. ghosts.count m.device) old

module _ {D : Type 0} (ghosts : Ghosts D) where
  abbrev count_of : Mirror D → ℕ
  count_of m = ghosts.count m.device

  -- ## one after another

  called_on : (x y z : Mirror D) → IsCalled ghosts x y → IsCalled ghosts y z → IsCalled ghosts x z
  called_on x y z a b = grind arith

  pub none_called : (mirrors : List (Mirror D)) → AreCalled ghosts mirrors mirrors
  none_called mirrors = grind arith

  pub one_called : (old now : List (Mirror D)) (k : ℕ) (m next : Mirror D) → AreCalled ghosts old now → slice_get now k ≡ Some m → IsCalled ghosts m next
      → AreCalled ghosts old (slice_set now k next)
  one_called old now k m next are at is = record { long = length-slice_set now k next ∙ are.long; each = λ j x y was after. by_number j x y (j == k) refl was after } where
    by_number : (j : ℕ) (x y : Mirror D) (t : Bool) → (j == k) ≡ t → slice_get old j ≡ Some x → slice_get (slice_set now k next) j ≡ Some y → IsCalled ghosts x y
    by_number j x y true e was after =
        let same = same_number j k e in
        let here : Some next ≡ Some y = sym (slice_get-set_same now k m next at) ∙ ap (slice_get (slice_set now k next)) (sym same) ∙ after in
        let before = are.each k x m (ap (slice_get old) (sym same) ∙ was) at in
        subst (λ (z : Mirror D). IsCalled ghosts x z) (same_Some next y here) (called_on x m next before is)
    by_number j x y false e was after =
        let other = other_number j k e in
        are.each j x y was (sym (slice_get-set_other now k j next (λ same. other (sym same))) ∙ after)

  pub one_flushed : (k : ℕ) (old now : List (Mirror D)) (m next : Mirror D) → HaveFlushed ghosts k old now → slice_get now k ≡ Some m → IsCalled ghosts m next
      → ghosts.lasting next.device ≡ ghosts.told next.device → count_of next ≡ count_of m → HaveFlushed ghosts (k + 1) old (slice_set now k next)
  one_flushed k old now m next have at is lasts same =
      let fact = slice_set-same (map count_of now) k (count_of m) (slice_get_map count_of now k m at) in
      let fact1 = one_called old now k m next have.called in
      grind (arith, common_steps, slice_get-set_same now k m next, slice_get-set_other now k, map-slice_set count_of now k next, slice_get_map count_of now k m)

  pub all_last : (k : ℕ) (old new : List (Mirror D)) → HaveFlushed ghosts k old new → length new ≤ k → AreLasting ghosts new
  all_last k old new have all j n at = have.last j n (let within = slice_get_within new j n at in omega arith) at

  -- ## the counts

  pub cause_err : {E : Type 0} (own k : ℕ) (old now : List (Mirror D)) (m next : Mirror D) (e : E) → HaveFlushed ghosts k old now → slice_get now k ≡ Some m
      → ghosts.count m.device ≤ ghosts.count next.device → Rose (ghosts.count m.device) (ghosts.count next.device)
      → HasCause {T = Unit} {E = E} (counts_from ghosts.count own old) (counts_from ghosts.count own (slice_set now k next)) (Err e)
  cause_err {E = E} own k old now m next e have at later rose =
      let here = slice_get_map count_of now k m at in
      let low : own ≤ own = omega arith in
      subst (λ (cs : List ℕ). HasCause {T = Unit} {E = E} (all_counted own cs) (counts_from ghosts.count own (slice_set now k next)) (Err e)) have.counts
      (subst (λ (cs : List ℕ). HasCause {T = Unit} {E = E} (counts_from ghosts.count own now) (all_counted own cs) (Err e)) (sym (map-slice_set count_of now k next)) (record {
        later = all_later own own (map count_of now) (slice_set (map count_of now) k (count_of next)) low (later_set (map count_of now) k (count_of m) (count_of next) here later);
        rose = λ is. all_rose own own (map count_of now) (slice_set (map count_of now) k (count_of next)) low (later_set (map count_of now) k (count_of m) (count_of next) here later)
            (inr (rose_set (map count_of now) k (count_of m) (count_of next) here rose));
        same = tt;
      }))

  -- the primary failed, and no mirror was called
  pub cause_first : {E : Type 0} (a b : ℕ) (mirrors : List (Mirror D)) (e : E) → a ≤ b → Rose a b
      → HasCause {T = Unit} {E = E} (counts_from ghosts.count a mirrors) (counts_from ghosts.count b mirrors) (Err e)
  cause_first a b mirrors e later rose = grind (arith, all_later, later_itself, all_rose)

  -- ## the volume

  called_rest : (m n : Mirror D) (old new : List (Mirror D)) → AreCalled ghosts (m ∷ old) (n ∷ new) → AreCalled ghosts old new
  called_rest m n old new are = record { long = (let long = are.long in omega arith); each = λ k x y at also. are.each (suc k) x y at also }

  holds_called : (old new : List (Mirror D)) → AreCalled ghosts old new → holds_of new ≡ holds_of old
  holds_called [] [] are = refl
  holds_called [] (n ∷ new) are = absurd (let long = are.long in omega arith)
  holds_called (m ∷ old) [] are = absurd (let long = are.long in omega arith)
  holds_called (m ∷ old) (n ∷ new) are =
      ap (λ (o : Option ℕ). o ∷ holds_of new) (are.each 0 m n refl refl).holds ∙ ap (λ os. m.holds ∷ os) (holds_called old new (called_rest m n old new are))

  at_old : (old new : List (Mirror D)) (k : ℕ) (n : Mirror D) → AreCalled ghosts old new → slice_get new k ≡ Some n → (m : Mirror D) × (slice_get old k ≡ Some m)
  at_old old new k n are at = let within = slice_get_within new k n at in let long = are.long in slice_get_inside old k (omega arith)

  pub keeps_called : (primary now : D) (old new : List (Mirror D)) (images : Vec ℕ Global) → ghosts.size now ≡ ghosts.size primary → AreCalled ghosts old new
      → KeepsMirrors ghosts.size primary old images → KeepsMirrors ghosts.size now new images
  keeps_called primary now old new images same are keeps = let long = are.long in keeps_primary ghosts.size primary now new images same (record {
    are_mirrors = record {
      some = let some = keeps.are_mirrors.some in omega arith;
      few = let few = keeps.are_mirrors.few in omega arith;
      sizes = λ k n at. let was = at_old old new k n are at in (are.each k was.0 n was.1 at).device.size_is ∙ keeps.are_mirrors.sizes k was.0 was.1;
      stale = λ k n at. let was = at_old old new k n are at in ap length (are.each k was.0 n was.1 at).stale ∙ keeps.are_mirrors.stale k was.0 was.1;
    };
    are_held = subst (λ (holds : List (Option ℕ)). AreHeld holds images.items) (sym (holds_called old new are)) keeps.are_held;
    room = keeps.room;
  })

  pub called_stands : (old new : MirrorValue D) (h : History) → IsQuietDevice ghosts old.primary new.primary → AreCalled ghosts old.mirrors new.mirrors → new.images ≡ old.images
      → StandsFor ghosts old h → StandsFor ghosts new h
  called_stands old new h primary are images stood =
      let mid : MirrorValue D = record { primary = old.primary; mirrors = new.mirrors; images = old.images } in
      quiet_stands ghosts mid new h (record { primary = primary; mirrors = refl; images = images }) (record {
        sets = stood.sets;
        above_zero = stood.above_zero;
        primary = stood.primary;
        mirrors = λ k n at.
            let was = at_old old.mirrors new.mirrors k n are at in
            let call = are.each k was.0 n was.1 at in
            same_mirror (told_in (ghosts.told old.primary) (ghosts.told was.0.device)) (told_in (ghosts.told old.primary) (ghosts.told n.device)) (ghosts.size old.primary)
            was.0.holds n.holds was.0.stale n.stale h
            (ap (λ (t : Option (List (List ℕ))). told_in (ghosts.told old.primary) t) (sym call.device.told_is)) (sym call.holds) (sym call.stale) (stood.mirrors k was.0 was.1);
      })

-- ## What the calls on a copy-on-write volume are as calls on a volume with images.

-- ## the devices of two states, one by one

each_later : {D : Type 0} → (count : D → ℕ) (old new : List D) → length new ≡ length old → ((v : ℕ) (d e : D) → slice_get old v ≡ Some d → slice_get new v ≡ Some e → count d ≤ count e)
    → AllLater (map count old) (map count new)
each_later count [] [] long each = tt
each_later count [] (e ∷ new) long each = absurd (omega arith)
each_later count (d ∷ old) [] long each = absurd (omega arith)
each_later count (d ∷ old) (e ∷ new) long each = (each 0 d e refl refl, each_later count old new (omega arith) (λ v x y at also. each (suc v) x y at also))

each_tells : {D : Type 0} → (test : D → Bool) (old new : List D) → length new ≡ length old → ((v : ℕ) (d e : D) → slice_get old v ≡ Some d → slice_get new v ≡ Some e → test e ≡ test d)
    → list_all test new ≡ list_all test old
each_tells test [] [] long each = refl
each_tells test [] (e ∷ new) long each = absurd (omega arith)
each_tells test (d ∷ old) [] long each = absurd (omega arith)
each_tells test (d ∷ old) (e ∷ new) long each =
    ap (λ (t : Bool). t && list_all test new) (each 0 d e refl refl) ∙ ap (λ (t : Bool). test d && t) (each_tells test old new (omega arith) (λ v x y at also. each (suc v) x y at also))

one_rose : {D : Type 0} → (count : D → ℕ) (old new : List D) (v : ℕ) (d e : D) → slice_get old v ≡ Some d → slice_get new v ≡ Some e → Rose (count d) (count e)
    → AnyRose (map count old) (map count new)
one_rose count [] new v d e at also rose = cc
one_rose count (x ∷ old) [] v d e at also rose = cc
one_rose count (x ∷ old) (y ∷ new) zero d e at also rose = grind (arith, common_steps, same_Some)
one_rose count (x ∷ old) (y ∷ new) (suc v) d e at also rose = inr (one_rose count old new v d e at also rose)

-- one volume is the whole list
one_listed : (ns : List ℕ) → length ns ≡ 1 → ns ≡ blocks_in (slice_get ns 0) ∷ []
one_listed (n ∷ []) one = refl
one_listed _ one = absurd (omega arith)

module _ {D : Type 0} (ghosts : Ghosts D) where
  later : (old new : GroupValue D) → IsKept ghosts old new → AllLater (map ghosts.count old.devices) (map ghosts.count new.devices)
  later old new kept = each_later ghosts.count old.devices new.devices kept.devices (λ v d e at also. (kept.each v d e at also).later)

  pub kept_same : (old new : GroupValue D) → IsKept ghosts old new → contract.IsSame (λ v. tells ghosts.told v) (λ v. blocks_of v) (λ v. slots_of v) (λ v. faults_of ghosts.count v) old new
  kept_same old new kept = grind (arith, each_tells, later, all_later)

  volume_rose : (old new : GroupValue D) → IsKept ghosts old new → VolumeRose ghosts.count 0 old new → Rose (faults_of ghosts.count old) (faults_of ghosts.count new)
  volume_rose old new kept rose = grind (arith, all_rose, later, one_rose)

  area_rose : (old new : GroupValue D) → IsKept ghosts old new → AreaRose ghosts.count old new → Rose (faults_of ghosts.count old) (faults_of ghosts.count new)
  area_rose old new kept rose = grind (arith, all_rose, later)

  block_cause : (old new : GroupValue D) (b : ℕ) (cause : Cause) → IsKept ghosts old new → HasCauseAt ghosts.count 0 b old new cause
      → contract.HasBlockCause (λ v. blocks_of v) (λ v. faults_of ghosts.count v) b old new cause
  block_cause old new b cause kept is = grind (arith, volume_rose, area_rose)

  -- ## the calls

  evicted_is : (old : GroupValue D) (b up_to : ℕ) → ((h : History) → StandsForOne ghosts.told old h → IsEvictedOne old b h up_to)
      → contract.IsEvicted (λ v h. StandsForOne ghosts.told v h) (λ v. blocks_of v) (λ v. slots_of v) old b up_to
  evicted_is old b up_to is = λ h stood sets most.
      is h stood sets most ∙ ap (λ (ns : List ℕ). evicted_up_to sets (length old.area.records) (placed ns) 0 b (h ∷ [])) (one_listed old.area.volumes (sym stood.histories))

  pub write_is : (old new : GroupValue D) (w : Write) (result : Result Written WriteFault) → IsOneWrite ghosts old new w result
      → contract.IsWrite (λ v h. StandsForOne ghosts.told v h) (λ v. blocks_of v) (λ v. slots_of v) (λ v. faults_of ghosts.count v) old new w result
  write_is old new w (Ok done) is = record { in_range = is.in_range; evicted = evicted_is old w.block done.evicted_up_to is.evicted; stands_for = is.stands }
  write_is old new w (Err fault) is = record {
    cause = block_cause old new w.block fault.cause is.kept is.cause;
    evicted = λ low. evicted_is old w.block fault.evicted_up_to
        (is.evicted low);
    none = is.none;
    stands_for = is.stands;
  }

  pub write_same : (old new : GroupValue D) (w : Write) (result : Result Written WriteFault) → IsOneWrite ghosts old new w result
      → contract.IsSame (λ v. tells ghosts.told v) (λ v. blocks_of v) (λ v. slots_of v) (λ v. faults_of ghosts.count v) old new
  write_same old new w (Ok done) is = kept_same old new is.kept
  write_same old new w (Err fault) is = kept_same old new is.kept

  pub read_is : (old new : GroupValue D) (b : ℕ) (bytes : List ℕ) (result : Result Unit Cause) → IsQuiet ghosts old new → OnOk result (b < blocks_of old)
      → OnOk result (IsOneNow ghosts.told old b bytes) → IfErr result (HasOneCause ghosts.count b old new)
      → contract.IsRead (λ v h. StandsForOne ghosts.told v h) (λ v. tells ghosts.told v) (λ v. blocks_of v) (λ v. faults_of ghosts.count v) old new b bytes result
  read_is old new b bytes result quiet low now cause = grind (arith, block_cause)

  pub image_is : (old new : GroupValue D) (set b : ℕ) (bytes : List ℕ) (result : Result Unit ImageFault) → IsQuiet ghosts old new → OnOk result (is_among set (image_sets old) ≡ true)
      → OnOk result (b < blocks_of old)
      → OnOk result (IsOneShown ghosts.told old set b bytes) → IfErr result (HasOneImageCause ghosts.count set b old new)
      → contract.IsImageRead (λ v h. StandsForOne ghosts.told v h) (λ v. tells ghosts.told v) (λ v. blocks_of v) (λ v. image_sets v) (λ v. faults_of ghosts.count v) old new set b bytes result
  image_is old new set b bytes result quiet among low shown cause = grind (arith, volume_rose, area_rose)

  pub drop_is : (old new : GroupValue D) (set : ℕ) (result : Result Unit ImageFault) → IsOneDropped ghosts old new set result
      → contract.IsDropped (λ v h. StandsForOne ghosts.told v h) (λ v. image_sets v) old new set result
  drop_is old new set (Ok done) is = (is.0, is.1.stands)
  drop_is old new set (Err fault) is = is

  pub drop_same : (old new : GroupValue D) (set : ℕ) (result : Result Unit ImageFault) → IsOneDropped ghosts old new set result
      → contract.IsSame (λ v. tells ghosts.told v) (λ v. blocks_of v) (λ v. slots_of v) (λ v. faults_of ghosts.count v) old new
  drop_same old new set result is = grind arith
