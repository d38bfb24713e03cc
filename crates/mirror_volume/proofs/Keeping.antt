-- Mirrors that follow a write one after another; and what a volume with mirrors keeps through its calls, and what these come to.
use Rattle.std.proofs.Common.{◌≡◌, ℕ, zero, suc, ◌+◌, ◌<◌, ◌≤◌, List, [], ◌∷◌, length, refl, ap, sym, ◌∙◌, arith, Bool, true, false, Option, Some, subst}
use Rattle.std.proofs.Common.{get_or, ◌++◌, take, drop, None, Vec, vec_capacity}
use Rattle.std.proofs.lemmas.Option.{same_Some, slice_get_within}
use Rattle.std.specs.Prelude.{slice_get, slice_set, ◌==◌, filter, not, map, All, IfSome, OnOk, OnErr, option_map, if◌then◌else◌, Result, Ok, Err, is_err}
use Rattle.std.specs.declared.alloc.Global.{Global}
use Rattle.std.proofs.lemmas.Grind.{common_steps}
use Rattle.std.proofs.lemmas.Bool.Decides.{nat_tests}
use Rattle.vss_names.specs.Faults as Faults
use Rattle.volume_device.specs.InMemory.{AreBlocks}
use Rattle.volume_device.specs.declared.device.Device.{Ghosts}
use Rattle.write_history.specs.History.{History}
use Rattle.cow_volume.specs.Calls.{is_among}
use Rattle.cow_volume.specs.declared.image_fault.ImageFault.{ImageFault}
use Rattle.cow_volume.specs.declared.image_fault.ImageFault.TheVariants.{Volume as VolumeFailed}
use Rattle.cow_volume.proofs.Group.{slice_get-set_same, slice_get-set_other, length-slice_set, same_number, other_number, slice_get_map, slice_set-same}
use Rattle.cow_volume.proofs.Merging.{was_row}
use Rattle.mirror_volume.specs.MirrorCalls.{IsFollowed, AreFollowed, IsFirstReady, IsHolder, IsQuiet, IsQuietDevice, IsCalled, IsMirrorRead, IsCalledFor}
use Rattle.mirror_volume.specs.MirrorCalls.{IsImageRead}
use Rattle.mirror_volume.specs.Mirrors.{is_held, MirrorValue, KeepsMirrors, AreHeld, StandsFor, holds_of, mirror_over, is_ready}
use Rattle.mirror_volume.specs.Resync.{IsCopyOr, IsStep}
use Rattle.mirror_volume.specs.declared.mirror.Mirror.{Mirror}
use Rattle.mirror_volume.specs.declared.sync_fault.SyncFault.{SyncFault}
use Rattle.mirror_volume.specs.declared.sync_fault.SyncFault.TheVariants.{HoldsImage, Volume as DeviceFailed}
use Rattle.mirror_volume.specs.declared.synced.Synced.{Synced}
use Rattle.mirror_volume.specs.declared.synced.Synced.TheVariants.{Copied, InStep}
use Rattle.mirror_volume.proofs.Held.{map-slice_set, held_cut, held_drop, mirrors_one, mirrors_followed, holds_followed, mirrors_new, held_new}
use Rattle.mirror_volume.proofs.Standing.{ready_holds, quiet_on_stands}
use Rattle.mirror_volume.proofs.Counts.{not_below}

-- ## Mirrors follow a write one after another.

-- the first k mirrors followed, and the others are as they were
pub record HaveFollowed {D : Type 0} (ghosts : Ghosts D) (b : ℕ) (bytes : List ℕ) (k : ℕ) (old new : List (Mirror D)) : Type 0 where
  pub long : length new ≡ length old
  pub first : (j : ℕ) (m n : Mirror D) → j < k → slice_get old j ≡ Some m → slice_get new j ≡ Some n → IsFollowed ghosts b bytes m n
  pub rest : (j : ℕ) → k ≤ j → slice_get new j ≡ slice_get old j

pub all_followed : {D : Type 0} → (ghosts : Ghosts D) (b : ℕ) (bytes : List ℕ) (k : ℕ) (old new : List (Mirror D)) → HaveFollowed ghosts b bytes k old new → length new ≤ k
    → AreFollowed ghosts b bytes old new
all_followed ghosts b bytes k old new have all = record {
  long = have.long;
  each = λ j m n at also. have.first j m n (let within = slice_get_within new j n also in omega arith) at also;
}

pub one_more : {D : Type 0} → (ghosts : Ghosts D) (b : ℕ) (bytes : List ℕ) (k : ℕ) (old now : List (Mirror D)) (m next : Mirror D) → HaveFollowed ghosts b bytes k old now
    → slice_get now k ≡ Some m → IsFollowed ghosts b bytes m next → HaveFollowed ghosts b bytes (k + 1) old (slice_set now k next)
one_more {D = D} ghosts b bytes k old now m next have at follow = record {
  long = length-slice_set now k next ∙ have.long;
  first = λ j x y l was is. by_number j x y (j == k) refl l was is;
  rest = λ j l. slice_get-set_other now k j next (λ e. absurd (omega arith)) ∙ have.rest j (omega arith);
} where
  by_number : (j : ℕ) (x y : Mirror D) (t : Bool) → (j == k) ≡ t → j < k + 1 → slice_get old j ≡ Some x → slice_get (slice_set now k next) j ≡ Some y → IsFollowed ghosts b bytes x y
  by_number j x y true is l was after =
      let same = same_number j k is in
      let here : Some next ≡ Some y = sym (slice_get-set_same now k m next at) ∙ ap (slice_get (slice_set now k next)) (sym same) ∙ after in
      let low : k ≤ j = omega arith in
      let before : Some m ≡ Some x = sym at ∙ ap (slice_get now) (sym same) ∙ have.rest j low ∙ was in
      subst (λ (z : Mirror D). IsFollowed ghosts b bytes x z) (same_Some next y here) (subst (λ (z : Mirror D). IsFollowed ghosts b bytes z next) (same_Some m x before) follow)
  by_number j x y false is l was after =
      let other = other_number j k is in
      let low : j < k = omega arith in
      have.first j x y low was (sym (slice_get-set_other now k j next (λ e. other (sym e))) ∙ after)

-- the element that is read at a place
pub at_place : {X : Type 0} → (xs : List X) (k : ℕ) (x : X) → k < length xs → x ≡ get_or xs k x → slice_get xs k ≡ Some x
at_place [] k x l is = absurd (omega arith)
at_place (y ∷ xs) zero x l is = ap Some (sym is)
at_place (y ∷ xs) (suc k) x l is = at_place xs k x (omega arith) is

-- what holds of the elements before a place, and of the one there
pub more_at : {X : Type 0} → (P : X → Type 0) (xs : List X) (n : ℕ) (x : X) → slice_get xs n ≡ Some x → P x → ((k : ℕ) (y : X) → k < n → slice_get xs k ≡ Some y → P y) → (k : ℕ) (y : X) → k < n + 1
    → slice_get xs k ≡ Some y → P y
more_at x0 xs n x here is before k y l at = grind arith

pub held_is : (set : ℕ) (holds : Option ℕ) → is_held set holds ≡ true → holds ≡ Some set
held_is set holds is = grind arith

pub held_not : (set : ℕ) (holds : Option ℕ) → is_held set holds ≡ false → holds ≡ Some set → ⊥
held_not set holds is holding = grind arith

-- ## What a volume with mirrors keeps through its calls, and what its calls come to.

pub keeps_new : {D : Type 0} → (size : D → ℕ) (stale : Bool) (primary : D) (devices : List D) (mirrors : List (Mirror D)) (images : Vec ℕ Global) → 0 < length devices → length devices ≤ 8
    → All (λ d. size d ≡ size primary) devices
    → mirrors ≡ map (mirror_over stale (size primary)) devices → images.items ≡ [] → 512 ≤ vec_capacity images → KeepsMirrors size primary mirrors images
keeps_new {D = D} size stale primary devices mirrors images some few sized are none room =
    grind (arith, common_steps, mirrors_new size stale (size primary) devices some few sized, held_new stale (size primary) devices)

-- the primary is another state of the same device
pub keeps_primary : {D : Type 0} → (size : D → ℕ) (primary now : D) (mirrors : List (Mirror D)) (images : Vec ℕ Global) → size now ≡ size primary → KeepsMirrors size primary mirrors images
    → KeepsMirrors size now mirrors images
keeps_primary size primary now mirrors images same keeps = grind arith

pub keeps_written : {D : Type 0} → (ghosts : Ghosts D) (b : ℕ) (bytes : List ℕ) (primary now : D) (old new : List (Mirror D)) (images : Vec ℕ Global) → ghosts.size now ≡ ghosts.size primary
    → AreFollowed ghosts b bytes old new
    → KeepsMirrors ghosts.size primary old images → KeepsMirrors ghosts.size now new images
keeps_written {D = D} ghosts b bytes primary now old new images same are keeps =
    grind (arith, common_steps, mirrors_followed ghosts (ghosts.size primary) b bytes old new are keeps.are_mirrors, holds_followed ghosts b bytes old new are)

-- one mirror changes, and holds what it held
pub keeps_one : {D : Type 0} → (size : D → ℕ) (primary now : D) (mirrors : List (Mirror D)) (images : Vec ℕ Global) (k : ℕ) (m next : Mirror D) → size now ≡ size primary
    → slice_get mirrors k ≡ Some m → size next.device ≡ size m.device → length next.stale ≡ length m.stale → next.holds ≡ m.holds
    → KeepsMirrors size primary mirrors images → KeepsMirrors size now (slice_set mirrors k next) images
keeps_one {D = D} size primary now mirrors images k m next same at sized long holds keeps =
    grind (arith, common_steps, nat_tests, map-slice_set, slice_get_map, slice_set-same, mirrors_one size (size primary) k mirrors m next keeps.are_mirrors)

-- an image is cut
pub keeps_cut : {D : Type 0} → (size : D → ℕ) (primary : D) (mirrors : List (Mirror D)) (images now : Vec ℕ Global) (k set : ℕ) (is : IsFirstReady mirrors k) → All (λ s. s < set) images.items
    → now.items ≡ images.items ++ set ∷ [] → vec_capacity images ≤ vec_capacity now
    → KeepsMirrors size primary mirrors images → KeepsMirrors size primary (slice_set mirrors k (record { device = is.mirror.device; holds = Some set; stale = is.mirror.stale })) now
keeps_cut {D = D} size primary mirrors images now k set is below items room keeps =
    let next : Mirror D = record { device = is.mirror.device; holds = Some set; stale = is.mirror.stale } in record {
      are_mirrors = mirrors_one size (size primary) k mirrors is.mirror next keeps.are_mirrors is.was (keeps.are_mirrors.sizes k is.mirror is.was) (keeps.are_mirrors.stale k is.mirror is.was);
      are_held = subst (λ (ss : List ℕ). AreHeld (holds_of (slice_set mirrors k next)) ss) (sym items)
          (subst (λ (hs : List (Option ℕ)). AreHeld hs (images.items ++ set ∷ [])) (sym (map-slice_set (λ (x : Mirror D). x.holds) mirrors k next))
          (held_cut (holds_of mirrors) images.items k set keeps.are_held (slice_get_map (λ (x : Mirror D). x.holds) mirrors k is.mirror is.was ∙ ap Some (ready_holds is.mirror is.ready))
          (not_below set images.items below)));
      room = let before = keeps.room in omega arith;
    }

-- an image goes
pub keeps_drop : {D : Type 0} → (size : D → ℕ) (primary : D) (mirrors : List (Mirror D)) (images now : Vec ℕ Global) (k set : ℕ) (is : IsHolder mirrors set k)
    → now.items ≡ filter (λ s. not (s == set)) images.items → vec_capacity images ≤ vec_capacity now
    → KeepsMirrors size primary mirrors images → KeepsMirrors size primary (slice_set mirrors k (record { device = is.mirror.device; holds = None; stale = is.mirror.stale })) now
keeps_drop {D = D} size primary mirrors images now k set is items room keeps =
    let next : Mirror D = record { device = is.mirror.device; holds = None; stale = is.mirror.stale } in record {
      are_mirrors = mirrors_one size (size primary) k mirrors is.mirror next keeps.are_mirrors is.was (keeps.are_mirrors.sizes k is.mirror is.was) (keeps.are_mirrors.stale k is.mirror is.was);
      are_held = subst (λ (ss : List ℕ). AreHeld (holds_of (slice_set mirrors k next)) ss) (sym items)
          (subst (λ (hs : List (Option ℕ)). AreHeld hs (filter (λ s. not (s == set)) images.items)) (sym (map-slice_set (λ (x : Mirror D). x.holds) mirrors k next))
          (held_drop (holds_of mirrors) images.items k set keeps.are_held (slice_get_map (λ (x : Mirror D). x.holds) mirrors k is.mirror is.was ∙ ap Some is.held)));
      room = let before = keeps.room in omega arith;
    }

-- the image of a set stands where a mirror holds it, and nowhere else
pub among_held : {D : Type 0} → (mirrors : List (Mirror D)) (images : List ℕ) (k set : ℕ) → AreHeld (holds_of mirrors) images → IsHolder mirrors set k → is_among set images ≡ true
among_held {D = D} mirrors images k set are is = are.each k set (slice_get_map (λ (x : Mirror D). x.holds) mirrors k is.mirror is.was ∙ ap Some is.held)

pub not_among : {D : Type 0} → (mirrors : List (Mirror D)) (images : List ℕ) (set : ℕ) → AreHeld (holds_of mirrors) images
    → ((k : ℕ) (m : Mirror D) → k < length mirrors → slice_get mirrors k ≡ Some m → m.holds ≡ Some set → ⊥) → is_among set images ≡ false
not_among mirrors images set are none = grind (arith, was_row, slice_get_within)

-- ## the value in its parts

abbrev pub value_of : {D : Type 0} → D → List (Mirror D) → List ℕ → MirrorValue D
value_of primary mirrors images = record { primary = primary; mirrors = mirrors; images = images }

pub quiet_parts : {D : Type 0} → (ghosts : Ghosts D) (p q : D) (mirrors : List (Mirror D)) (images : List ℕ) → ghosts.told q ≡ ghosts.told p → ghosts.size q ≡ ghosts.size p
    → ghosts.count p ≤ ghosts.count q → IsQuiet ghosts (value_of p mirrors images) (value_of q mirrors images)
quiet_parts ghosts p q mirrors images tells sized later = grind arith

-- a block was copied to a device, or the device failed
pub copy_or : {D E : Type 0} → (ghosts : Ghosts D) (from now to next : D) (b : ℕ) (bytes : List ℕ) (result : Result Unit E) → IsQuietDevice ghosts from now → ghosts.count now ≡ ghosts.count from
    → IfSome (ghosts.told from) (λ blocks. slice_get blocks b ≡ Some bytes) → IfSome (ghosts.told to) (AreBlocks (ghosts.size to))
    → OnOk result (ghosts.told next ≡ option_map (λ blocks. slice_set blocks b bytes) (ghosts.told to)) → OnErr result (ghosts.told next ≡ ghosts.told to) → ghosts.size next ≡ ghosts.size to
    → Faults.HasCause (ghosts.count to) (ghosts.count next) result → IsCopyOr ghosts from now to next b result
copy_or ghosts from now to next b bytes result quiet unfailed read whole written kept sized cause = grind arith

pub quiet_device : {D : Type 0} → (ghosts : Ghosts D) (d : D) → IsQuietDevice ghosts d d
quiet_device ghosts d = record { told_is = refl; size_is = refl; later = (let same : ghosts.count d ≤ ghosts.count d = omega arith in same) }

-- ## the mirror of a place

pub record FirstAt {D : Type 0} (mirrors : List (Mirror D)) (k : ℕ) (x : Mirror D) : Type 0 where
  pub was : slice_get mirrors k ≡ Some x
  pub ready : is_ready x ≡ true
  pub first : (j : ℕ) (m : Mirror D) → j < k → slice_get mirrors j ≡ Some m → is_ready m ≡ false

pub first_at : {D : Type 0} → (rows mirrors : List (Mirror D)) → rows ≡ mirrors → (k : ℕ) → IsFirstReady rows k → (x : Mirror D) → x ≡ get_or mirrors k x → FirstAt mirrors k x
first_at rows mirrors same k is x at = grind (arith, at_place, slice_get_within, same_Some)

abbrev pub first_of : {D : Type 0} → (mirrors : List (Mirror D)) (k : ℕ) (x : Mirror D) → FirstAt mirrors k x → IsFirstReady mirrors k
first_of mirrors k x at = record { mirror = x; was = at.was; ready = at.ready; first = at.first }

pub record HolderAt {D : Type 0} (mirrors : List (Mirror D)) (set k : ℕ) (x : Mirror D) : Type 0 where
  pub was : slice_get mirrors k ≡ Some x
  pub held : x.holds ≡ Some set

pub holder_at : {D : Type 0} → (rows mirrors : List (Mirror D)) → rows ≡ mirrors → (set k : ℕ) → IsHolder rows set k → (x : Mirror D) → x ≡ get_or mirrors k x → HolderAt mirrors set k x
holder_at rows mirrors same set k is x at = grind (arith, at_place, slice_get_within, same_Some)

abbrev pub holder_of : {D : Type 0} → (mirrors : List (Mirror D)) (set k : ℕ) (x : Mirror D) → HolderAt mirrors set k x → IsHolder mirrors set k
holder_of mirrors set k x at = record { mirror = x; was = at.was; held = at.held }

pub within_first : {D : Type 0} → (rows mirrors : List (Mirror D)) → rows ≡ mirrors → (k : ℕ) → IsFirstReady rows k → k < length mirrors
within_first {D = D} rows mirrors same k is = slice_get_within mirrors k is.mirror (ap (λ (ms : List (Mirror D)). slice_get ms k) (sym same) ∙ is.was)

pub within_holder : {D : Type 0} → (rows mirrors : List (Mirror D)) → rows ≡ mirrors → (set k : ℕ) → IsHolder rows set k → k < length mirrors
within_holder {D = D} rows mirrors same set k is = slice_get_within mirrors k is.mirror (ap (λ (ms : List (Mirror D)). slice_get ms k) (sym same) ∙ is.was)

-- what was pushed where there was room
pub pushed : {X : Type 0} → (r : Bool) (new more same : List X) → r ≡ true → new ≡ (if r then more else same) → new ≡ more
pushed r new more same e is = grind arith

mirror_is : {D : Type 0} → (m next : Mirror D) → next.holds ≡ m.holds → next.stale ≡ m.stale → next ≡ (let x : Mirror D = record { device = next.device; holds = m.holds; stale = m.stale } in x)
mirror_is m next holds stale = grind arith

-- the image of a set was read from the mirror that holds it
pub image_read : {D : Type 0} → (ghosts : Ghosts D) (p : D) (mirrors : List (Mirror D)) (images : List ℕ) (set k b : ℕ) (x next : Mirror D) (bytes : List ℕ) (result : Result Unit ImageFault)
    → AreHeld (holds_of mirrors) images → HolderAt mirrors set k x → b < ghosts.size p → IsMirrorRead ghosts x next b bytes result
    → IsImageRead ghosts (value_of p mirrors images) (value_of p (slice_set mirrors k next) images) set b bytes result
image_read {D = D} ghosts p mirrors images set k b x next bytes result are at low is = by_result result is where
  called : IsCalled ghosts x next → IsCalledFor ghosts (value_of p mirrors images) (value_of p (slice_set mirrors k next) images) set b
  called call = record {
    place = k;
    mirror = x;
    held = at.held;
    among = among_held mirrors images k set are (holder_of mirrors set k x at);
    in_range = low;
    quiet = record {
      was = at.was;
      after = next.device;
      device = call.device;
      mirrors = ap (slice_set mirrors k) (mirror_is x next call.holds call.stale);
      primary = refl;
      images = refl;
    };
  }

  by_result : (r : Result Unit ImageFault) → IsMirrorRead ghosts x next b bytes r → IsImageRead ghosts (value_of p mirrors images) (value_of p (slice_set mirrors k next) images) set b bytes r
  by_result (Ok done) got = (called got.0, got.1, got.2)
  by_result (Err fault) got =
      let failed : IsImageRead ghosts (value_of p mirrors images) (value_of p (slice_set mirrors k next) images) set b bytes (Err VolumeFailed) = (called got.0, got.2) in
      subst (λ (f : ImageFault). IsImageRead ghosts (value_of p mirrors images) (value_of p (slice_set mirrors k next) images) set b bytes (Err f)) (sym got.1) failed

pub image_read_stands : {D : Type 0} → (ghosts : Ghosts D) (p : D) (mirrors : List (Mirror D)) (images : List ℕ) (k b : ℕ) (x next : Mirror D) (bytes : List ℕ) (result : Result Unit ImageFault)
    → slice_get mirrors k ≡ Some x → IsMirrorRead ghosts x next b bytes result → (h : History) → StandsFor ghosts (value_of p mirrors images) h
    → StandsFor ghosts (value_of p (slice_set mirrors k next) images) h
image_read_stands {D = D} ghosts p mirrors images k b x next bytes result at is h stood =
    grind (arith, common_steps, quiet_on_stands ghosts (value_of p mirrors images) (value_of p (slice_set mirrors k next) images) k x h, mirror_is x next)

pub keeps_read : {D : Type 0} → (ghosts : Ghosts D) (p : D) (mirrors : List (Mirror D)) (images : Vec ℕ Global) (k b : ℕ) (x next : Mirror D) (bytes : List ℕ) (result : Result Unit ImageFault)
    → slice_get mirrors k ≡ Some x → IsMirrorRead ghosts x next b bytes result → KeepsMirrors ghosts.size p mirrors images → KeepsMirrors ghosts.size p (slice_set mirrors k next) images
keeps_read {D = D} ghosts p mirrors images k b x next bytes result at is keeps =
    grind (arith, common_steps, keeps_one ghosts.size p p mirrors images k x next refl)

-- ## steps of a mirror

step_sizes : {D : Type 0} → (ghosts : Ghosts D) (p q : D) (m n : Mirror D) (result : Result Synced SyncFault) → IsStep ghosts p q m n result
    → (ghosts.size q ≡ ghosts.size p) × (ghosts.size n.device ≡ ghosts.size m.device) × (length n.stale ≡ length m.stale) × (n.holds ≡ m.holds)
step_sizes ghosts p q m n (Ok (Copied b)) is = (is.copied.source.size_is, is.copied.size_is, ap length is.stale ∙ length-slice_set m.stale b false, is.holds)
step_sizes ghosts p q m n
    (Ok InStep) is = (
      ap ghosts.size is.primary_is,
      ap (λ (x : Mirror _). ghosts.size x.device) is.mirror_is,
      ap (λ (x : Mirror _). length x.stale) is.mirror_is,
      ap
          (λ (x : Mirror _). x.holds) is.mirror_is,
    )
step_sizes ghosts p q m n
    (Err (HoldsImage set)) is = (
      ap ghosts.size is.primary_is,
      ap (λ (x : Mirror _). ghosts.size x.device) is.mirror_is,
      ap (λ (x : Mirror _). length x.stale) is.mirror_is,
      ap
          (λ (x : Mirror _). x.holds) is.mirror_is,
    )
step_sizes ghosts p q m n (Err DeviceFailed) is = (is.uncopied.source.size_is, is.uncopied.target.size_is, ap length is.stale, is.holds)

pub keeps_synced : {D : Type 0} → (ghosts : Ghosts D) (p q : D) (mirrors : List (Mirror D)) (images : Vec ℕ Global) (k : ℕ) (m n : Mirror D) (result : Result Synced SyncFault)
    → slice_get mirrors k ≡ Some m → IsStep ghosts p q m n result
    → KeepsMirrors ghosts.size p mirrors images → KeepsMirrors ghosts.size q (slice_set mirrors k n) images
keeps_synced ghosts p q mirrors images k m n result at is keeps =
    let sizes = step_sizes ghosts p q m n result is in grind (arith, common_steps, keeps_one ghosts.size p q mirrors images k m n sizes.0)

-- ## writes

pub on_ok : {T E : Type 0} → (r : Result T E) (P : Type 0) → is_err r ≡ false → OnOk r P → P
on_ok r x1 e is = grind arith

pub on_err : {T E : Type 0} → (r : Result T E) (P : Type 0) → is_err r ≡ true → OnErr r P → P
on_err r x1 e is = grind arith

front_all : {X : Type 0} → (xs ys : List X) → take (length xs) (xs ++ ys) ≡ xs
front_all xs ys = grind (arith, common_steps)

-- what is written over all of a list
pub all_over : {X : Type 0} → (len : ℕ) (new old : List X) → len ≡ length new → take len (new ++ drop (length new) old) ≡ new
all_over len new old same = ap (λ (n : ℕ). take n (new ++ drop (length new) old)) same ∙ front_all new (drop (length new) old)
