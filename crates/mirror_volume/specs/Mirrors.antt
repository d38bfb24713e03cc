-- A volume with whole mirrors of it, and the history that it stands for. A mirror that holds the image of a set is split off: it stays
-- as it was at the image's point, while the primary goes on. Blocks of a mirror that may differ from the primary's are stale. (Split
-- mirrors that are brought into step again are the Volume Shadow Copy Service's; the relation is this project's own.)
use Rattle.std.specs.Prelude.{ℕ, ◌≡◌, ◌<◌, ◌≤◌, ◌==◌, ◌&&◌, Bool, true, false, List, length, map, replicate, count_by, is_none, is_some, Option, Some, None, IfSome, slice_get, vec_capacity, Vec}
use Rattle.std.specs.List.{list_all}
use Rattle.std.specs.declared.alloc.Global.{Global}
use Rattle.vss_names.specs.Faults.{all_counted}
use Rattle.volume_device.specs.declared.device.Device.{Ghosts}
use Rattle.write_history.specs.History.{History, content, contents, point_in, sets_of}
use Rattle.cow_volume.specs.Calls.{is_among}
use Rattle.cow_volume.specs.StandsFor.{told_in}
use Rattle.mirror_volume.specs.Stale.{IsInStep, stale_count}
use Rattle.mirror_volume.specs.declared.mirror.Mirror.{Mirror}

-- what a contract sees of a volume with mirrors: its devices, the image that each mirror holds, its stale blocks, and the sets of
-- the images, the oldest first
pub record MirrorValue (D : Type 0) : Type 0 where
  pub primary : D
  pub mirrors : List (Mirror D)
  pub images : List ℕ

-- ## numbers

-- what a mirror holds is the image of a set
abbrev pub is_held : ℕ → Option ℕ → Bool
is_held set None = false
is_held set (Some held) = held == set

-- a mirror in step with the primary, without an image: it may be split off
abbrev pub is_ready : {D : Type 0} → Mirror D → Bool
is_ready m = is_none m.holds && (stale_count m.stale == 0)

abbrev pub ready_count : {D : Type 0} → MirrorValue D → ℕ
ready_count v = count_by is_ready v.mirrors

-- the counts of the devices together, from one
abbrev pub counts_from : {D : Type 0} → (D → ℕ) → ℕ → List (Mirror D) → ℕ
counts_from count own mirrors = all_counted own (map (λ m. count m.device) mirrors)

abbrev pub faults_of : {D : Type 0} → (D → ℕ) → MirrorValue D → ℕ
faults_of count v = counts_from count (count v.primary) v.mirrors

-- all devices tell their blocks
abbrev pub tells : {D : Type 0} → (D → Option (List (List ℕ))) → MirrorValue D → Bool
tells told v = is_some (told v.primary) && list_all (λ m. is_some (told m.device)) v.mirrors

-- the images that the mirrors hold
abbrev pub holds_of : {D : Type 0} → List (Mirror D) → List (Option ℕ)
holds_of mirrors = map (λ m. m.holds) mirrors

-- a mirror that holds no image, over a device of so many blocks, all of which are stale, or none
abbrev pub mirror_over : {D : Type 0} → Bool → ℕ → D → Mirror D
mirror_over stale n device = record { device = device; holds = None; stale = replicate n stale }

-- ## what is always so

-- each image is held by just one mirror
pub record AreHeld (holds : List (Option ℕ)) (images : List ℕ) : Type 0 where
  pub each : (k set : ℕ) → slice_get holds k ≡ Some (Some set) → is_among set images ≡ true
  pub held : (set : ℕ) → is_among set images ≡ true → (k : ℕ) × (slice_get holds k ≡ Some (Some set))
  pub one : (k j set : ℕ) → slice_get holds k ≡ Some (Some set) → slice_get holds j ≡ Some (Some set) → k ≡ j

-- 1 to 8 mirrors, each of the primary's blocks
pub record AreMirrors {D : Type 0} (size : D → ℕ) (n : ℕ) (mirrors : List (Mirror D)) : Type 0 where
  pub some : 0 < length mirrors
  pub few : length mirrors ≤ 8
  pub sizes : (k : ℕ) (m : Mirror D) → slice_get mirrors k ≡ Some m → size m.device ≡ n
  pub stale : (k : ℕ) (m : Mirror D) → slice_get mirrors k ≡ Some m → length m.stale ≡ n

pub record KeepsMirrors {D : Type 0} (size : D → ℕ) (primary : D) (mirrors : List (Mirror D)) (images : Vec ℕ Global) : Type 0 where
  pub are_mirrors : AreMirrors size (size primary) mirrors
  pub are_held : AreHeld (holds_of mirrors) images.items
  pub room : 512 ≤ vec_capacity images

-- ## what it stands for

-- a mirror was split off at the point of the image of a set, and still shows what the volume was there
pub record IsSplitAt (known : Option (List (List ℕ))) (n set : ℕ) (h : History) : Type 0 where
  pub point : ℕ
  pub stands : point_in set h.images ≡ Some point
  pub within : point ≤ length h.writes
  pub shows : (blocks : List (List ℕ)) (b : ℕ) → known ≡ Some blocks → b < n → slice_get blocks b ≡ Some (content h.writes point b)

-- a mirror of a volume of n blocks with this history; `known` is what it tells where the primary tells too
pub record IsMirror (known : Option (List (List ℕ))) (n : ℕ) (holds : Option ℕ) (stale : List Bool) (h : History) : Type 0 where
  pub in_step : (blocks : List (List ℕ)) (b : ℕ) → known ≡ Some blocks → IsInStep stale b → slice_get blocks b ≡ Some (content h.writes (length h.writes) b)
  pub split : (set : ℕ) → holds ≡ Some set → IsSplitAt known n set h

pub record StandsFor {D : Type 0} (ghosts : Ghosts D) (v : MirrorValue D) (h : History) : Type 0 where
  pub sets : v.images ≡ sets_of h.images
  pub above_zero : (set : ℕ) → is_among set v.images ≡ true → 0 < set
  pub primary : IfSome (ghosts.told v.primary) (λ blocks. blocks ≡ contents (ghosts.size v.primary) h.writes (length h.writes))
  pub mirrors : (k : ℕ) (m : Mirror D) → slice_get v.mirrors k ≡ Some m → IsMirror (told_in (ghosts.told v.primary) (ghosts.told m.device)) (ghosts.size v.primary) m.holds m.stale h

-- each block of a mirror that is not stale is the primary's, where both tell
abbrev pub EqualsPrimary : {D : Type 0} → (D → Option (List (List ℕ))) → MirrorValue D → ℕ → Type 0
EqualsPrimary {D = D} told v k = (m : Mirror D) (blocks own : List (List ℕ)) (b : ℕ) → slice_get v.mirrors k ≡ Some m → told v.primary ≡ Some blocks → told m.device ≡ Some own
    → IsInStep m.stale b → slice_get own b ≡ slice_get blocks b
