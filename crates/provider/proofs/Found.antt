-- The group of a volume is found among all groups, or called: what that says of the volume of the scenario.
use Rattle.std.proofs.Common.{◌≡◌, ℕ, ◌<◌, List, length, refl, ap, sym, ◌∙◌, subst, arith, Bool, true, Option, Some, None, get_or, slice_get, is_some, IfSome, IfOk, OnOk, Result, Ok, Err}
use Rattle.provider.proofs.Words.{AreGroups, AtPoint, GroupValue, HasGroups, HasImage, History, IfShown, IfStandFor, IsDigestAt, IsDigestShown, IsPlaceOf, IsPointOf, IsThere, Plan, ProviderValue}
use Rattle.provider.proofs.Words.{StandsFor, VolumeRow, Write, and_parts, blocks_at, blocks_in, blocks_of, concat, contents, device_read, devices_of, history_at, is_among, is_there, of_group, one_place, place_at}
use Rattle.provider.proofs.Words.{place_in, sets_at, sets_in, sets_of, sha256, slice_get_inside, slice_get_map, told_at, told_in, used, used_by, volume_place}
use Rattle.std.specs.Result.{result_ok}
use Rattle.diff_area.specs.Format.{blocks_for}
use Rattle.provider.specs.Calls.{IsDigestTold}
use Rattle.provider.specs.Groups.{AreSized, AreFit}
use Rattle.provider.specs.Words.{IsBytes, blocks_in as group_blocks_in, history_at as group_history_at}
use Rattle.provider.proofs.InGroup.{history_of_place, group_below, group_there, within_there, blocks_are}
use Rattle.provider.proofs.Dropped.{point_among}
use Rattle.provider.proofs.Flat.{volume_device_at, area_device_at, area_of_place}
use Rattle.provider.proofs.Kept.{both_tell}

pub inside_has : {D : Type 0} (s : Plan) (p q : ProviderValue D) → p ≡ q → HasGroups s q.groups → HasGroups s p.groups
inside_has {D = D} s p q same has = subst (λ (r : ProviderValue D). HasGroups s r.groups) (sym same) has

-- the group of volume v
pub record Found {D : Type 0} (s : Plan) (groups : List (GroupValue D)) (v : ℕ) : Type 0 where
  pub has : HasGroups s groups
  pub group : ℕ
  pub within : ℕ
  pub place : IsPlaceOf s v group within
  pub here : GroupValue D
  pub at : slice_get groups group ≡ Some here

abbrev pub found_in : {D : Type 0} {s : Plan} {v : ℕ} {groups : List (GroupValue D)} {g u : ℕ} {x : GroupValue D} → HasGroups s groups → IsPlaceOf s v g u → x ≡ get_or groups g x
    → Found s groups v
found_in {s = s} {v = v} {groups = groups} {g = g} {u = u} {x = x} has place value =
    record { has = has; group = g; within = u; place = place; here = x; at = device_read groups g x (group_below s groups v g u place has) value }

-- by its row
abbrev pub found_row : {D : Type 0} (s : Plan) (groups : List (GroupValue D)) (v : ℕ) (r : VolumeRow) → HasGroups s groups → slice_get s.volumes v ≡ Some r → Found s groups v
found_row s groups v r has e =
    let place : IsPlaceOf s v r.group (place_in r.group s.volumes v) = record { row = r; is_row = e; group_is = refl; within_is = refl } in
    let x = group_there s groups v r.group (place_in r.group s.volumes v) place has in
    record { has = has; group = r.group; within = place_in r.group s.volumes v; place = place; here = x.0; at = x.1 }

-- by what a provider sees of its fields
abbrev pub found_by : {D : Type 0} {s : Plan} {v : ℕ} {p q : ProviderValue D} {g u : ℕ} {x : GroupValue D} → p ≡ q → HasGroups s q.groups → IsPlaceOf s v g u → x ≡ get_or p.groups g x
    → Found s p.groups v
found_by {s = s} {p = p} {q = q} same has place value = found_in (inside_has s p q same has) place value

pub group_low : {D : Type 0} {s : Plan} {v : ℕ} {p q : ProviderValue D} {g u : ℕ} → p ≡ q → HasGroups s q.groups → IsPlaceOf s v g u → g < length p.groups
group_low {s = s} {v = v} {p = p} {q = q} {g = g} {u = u} same has place = group_below s p.groups v g u place (inside_has s p q same has)

-- a volume that tells
pub record Telling {D : Type 0} (told : D → Option (List (List ℕ))) (x : GroupValue D) (u : ℕ) : Type 0 where
  pub device : D
  pub at : slice_get x.devices u ≡ Some device
  pub tells : is_some (told device) ≡ true
  pub area : is_some (told x.area.device) ≡ true

module _ {D : Type 0} {s : Plan} {groups : List (GroupValue D)} {v : ℕ} (f : Found s groups v) where
  pub inside : f.within < length f.here.area.volumes
  inside = within_there s groups v f.group f.within f.here f.place f.has f.at

  pub blocks_here : blocks_at f.here f.within ≡ blocks_of s v
  blocks_here = blocks_are s groups v f.group f.within f.here f.place f.has f.at

  pub below : (b : ℕ) → b < blocks_of s v → b < blocks_at f.here f.within
  below b low = subst (λ (n : ℕ). b < n) (sym blocks_here) low

  -- the histories of the group's volumes, of those of all
  abbrev pub own : List History → List History
  own hs = of_group f.group s.volumes hs

  pub history_here : (hs : List History) → length hs ≡ length s.volumes → group_history_at (own hs) f.within ≡ history_at hs v
  history_here hs long = history_of_place s hs v f.group f.within f.place long

  -- the device at the volume's place is its own
  pub own_device : (d : D) × (slice_get f.here.devices f.within ≡ Some d) × (slice_get (devices_of groups) (volume_place s v) ≡ Some d)
  own_device =
      let low = inside in
      let long = f.has.devices f.group f.here f.at in
      let e = slice_get_inside f.here.devices f.within (omega (arith, low, long)) in
      (e.0, e.1, volume_device_at s groups v f.group f.within f.here e.0 f.has f.place f.at e.1)

  pub device_is : (d : D) → slice_get (devices_of groups) (volume_place s v) ≡ Some d → slice_get f.here.devices f.within ≡ Some d
  device_is d at = grind (arith, own_device)

  -- what it tells, and what that of the area does
  pub told_here : (told : D → Option (List (List ℕ))) → (d : D) × (slice_get f.here.devices f.within ≡ Some d)
      × (told_at told s (devices_of groups) v ≡ told_in (told f.here.area.device) (told d))
  told_here told = grind (arith, own_device, area_of_place, area_device_at)

  -- wherever the volume is said to be, it is there
  pub there : (P : GroupValue D → ℕ → Type 0) → P f.here f.within → (k w : ℕ) (x : GroupValue D) → IsPlaceOf s v k w → slice_get groups k ≡ Some x → P x w
  there x0 here k w x place at = grind (arith, one_place)

-- ## images and slots

module _ {D : Type 0} (told : D → Option (List (List ℕ))) {s : Plan} {groups : List (GroupValue D)} {v : ℕ} (f : Found s groups v) where
  pub stands_here : (hs : List History) → AreGroups told s groups hs → StandsFor told f.here (own f hs)
  stands_here hs are = (are.each f.group f.here f.at).stands

  pub sets_here : IfStandFor told s groups (λ hs. sets_at f.here f.within ≡ sets_of (history_at hs v).images)
  sets_here hs are =
      let here = place_at told f.here (own f hs) f.within (stands_here hs are) (inside f) in
      ap sets_in here.sets_at ∙ here.stands.sets_are ∙ ap (λ (h : History). sets_of h.images) (history_here f hs are.histories)

  pub image_of : (set : ℕ) (b : Bool) → is_among set (sets_at f.here f.within) ≡ b → HasImage told s groups v set b
  image_of set b is hs are = point_among set (history_at hs v).images ∙ sym (ap (is_among set) (sets_here hs are)) ∙ is

  pub there_of : (set : Option ℕ) (b : Bool) → is_there set (sets_at f.here f.within) ≡ b → IsThere told s groups v set b
  there_of None b is = is
  there_of (Some set) b is = image_of set b is

  pub used_of : (n : ℕ) → ((hs : List History) → StandsFor told f.here hs → n ≡ used (blocks_at f.here f.within) (group_history_at hs f.within).writes (group_history_at hs f.within).images)
      → IfStandFor told s groups (λ hs. n ≡ used (blocks_of s v) (history_at hs v).writes (history_at hs v).images)
  used_of n of hs are =
      of (own f hs) (stands_here hs are)
      ∙ ap (λ (b : ℕ). used b (group_history_at (own f hs) f.within).writes (group_history_at (own f hs) f.within).images) (blocks_here f)
      ∙ ap (λ (h : History). used (blocks_of s v) h.writes h.images) (history_here f hs are.histories)

  pub used_by_of : (set : ℕ) (o : Option ℕ)
      → ((hs : List History) → StandsFor told f.here hs → o ≡ used_by (blocks_at f.here f.within) (group_history_at hs f.within).writes (group_history_at hs f.within).images set)
      → IfStandFor told s groups (λ hs. o ≡ used_by (blocks_of s v) (history_at hs v).writes (history_at hs v).images set)
  used_by_of set o of hs are =
      of (own f hs) (stands_here hs are)
      ∙ ap (λ (b : ℕ). used_by b (group_history_at (own f hs) f.within).writes (group_history_at (own f hs) f.within).images set) (blocks_here f)
      ∙ ap (λ (h : History). used_by (blocks_of s v) h.writes h.images set) (history_here f hs are.histories)

  -- ## blocks, where the volume tells

  pub telling : is_some (told_at told s (devices_of groups) v) ≡ true → Telling told f.here f.within
  telling tells =
      let d = told_here f told in
      let parts = and_parts _ _ (sym (ap is_some d.2 ∙ both_tell (told f.here.area.device) (told d.0)) ∙ tells) in
      record { device = d.0; at = d.1; tells = parts.0; area = parts.1 }

  pub shown_of : (set : Option ℕ) (P : List Write → ℕ → Type 0) → AtPoint told f.here f.within set P → IfShown told s groups v set P
  shown_of set P is tells hs are p point =
      let t = telling tells in
      let same = history_here f hs are.histories in
      subst (λ (h : History). P h.writes p) same (is (own f hs) t.device p (stands_here hs are) t.at t.tells t.area (subst (λ (h : History). IsPointOf set h p) (sym same) point))

  -- of all blocks, as many as the group says are here
  pub all_shown_of : (set : Option ℕ) (P : ℕ → List Write → ℕ → Type 0) → AtPoint told f.here f.within set (P (blocks_at f.here f.within)) → IfShown told s groups v set (P (blocks_of s v))
  all_shown_of set P is = subst (λ (n : ℕ). IfShown told s groups v set (P n)) (blocks_here f) (shown_of set (P (blocks_at f.here f.within)) is)

  pub digest_shown : (set : Option ℕ) (digest : List ℕ) → IsDigestAt told f.here f.within set digest → IsDigestShown told s groups v set digest
  digest_shown set digest is = all_shown_of set (λ n ws p. digest ≡ sha256 (concat (contents n ws p))) is

  pub digest_told : {E : Type 0} (set : Option ℕ) (digest : Result (List ℕ) E) → IfOk digest (IsDigestAt told f.here f.within set) → IfOk digest (λ d. (length d ≡ 32) × IsBytes d)
      → IfSome (result_ok digest) (IsDigestTold told s groups v set)
  digest_told set (Err fault) is wide = tt
  digest_told set (Ok d) is wide = (digest_shown set d is, wide.0, wide.1)

pub some_map : {X : Type 0} (P Q : X → Type 0) (o : Option X) → IfSome o P → ((x : X) → P x → Q x) → IfSome o Q
some_map x0 x1 o h f = grind arith

pub on_ok : {T E : Type 0} (P Q : Type 0) (r : Result T E) → (P → Q) → OnOk r P → OnOk r Q
on_ok x0 x1 r f h = grind arith

-- ## sizes

-- the devices of groups that fit have the sizes of the scenario
pub sized_of : {D : Type 0} (told : D → Option (List (List ℕ))) (size : D → ℕ) (s : Plan) (groups : List (GroupValue D)) (hs : List History) → HasGroups s groups → AreGroups told s groups hs
    → AreFit size groups → AreSized size s (devices_of groups)
sized_of {D = D} told size s groups hs has are fits = record {
  volumes = λ v r d e at.
      let f = found_row s groups v r has e in
      let here = device_is f d at in
      let one : slice_get f.here.area.volumes f.within ≡ Some (size d) =
      ap (λ (ns : List ℕ). slice_get ns f.within) (sym (fits f.group f.here f.at).devices) ∙ slice_get_map size f.here.devices f.within d here in
      sym (ap group_blocks_in one) ∙ blocks_here f ∙ ap blocks_in e;
  areas = λ v r d e at.
      let f = found_row s groups v r has e in
      let there = area_device_at s groups f.group f.here has f.at in
      let own : Some f.here.area.device ≡ Some d = sym there ∙ ap (slice_get (devices_of groups)) (sym (area_of_place s v f.group f.within f.place)) ∙ at in
      let is : f.here.area.device ≡ d = cc in
      sym (ap size is) ∙ (fits f.group f.here f.at).area ∙ ap blocks_for ((are.each f.group f.here f.at).slots v r e refl);
}
