-- Digests of volumes and of images, and an area that is brought to where it lasts: nothing else changes.
use Rattle.std.proofs.Common.{◌≡◌, ℕ, ◌<◌, List, length, ap, refl, true, false, Option, Some, None, slice_get, is_some, IfSome, All, arith, suc, ◌==◌, [], ◌∷◌}
use Rattle.std.proofs.Common.{sym, ◌∙◌, subst, Bool, map, slice_set, Result, Ok, Err, OnOk, IfErr, IsErr}
use Rattle.std.proofs.lemmas.List.{map-id}
use Rattle.cow_volume.specs.Calls.{cause_of}
use Rattle.provider.specs.Words.{placed as all_placed}
use Rattle.provider.proofs.Words.{HasImageCause, ImageFault, IsQuiet as IsGroupsQuiet, IsThere, IsSynced as AreSynced}
use Rattle.vss_world.proofs.Looking.{digest_slot}
use Rattle.vss_world.proofs.Moved.{world_of, of_kept}
use Rattle.vss_world.proofs.Kept.{some_is}
use Rattle.vss_world.proofs.Words.{Act, AreDevicesAlone, AreGroups, Digested, Evicted, Ghosts, GroupValue, IfStandFor, IfStands, IsDigestIf}
use Rattle.vss_world.proofs.Words.{IsDigestOf, IsDigestTold, IsDigestedAt, IsDigestedIf, IsOf, IsPointOf, IsQuiet, IsStanding, Plan, ProviderValue}
use Rattle.vss_world.proofs.Words.{SessionsValue, Stands, State, WorldValue, blocks_of, concat, contents, devices_of, history_of, is_kept_set, kept}
use Rattle.vss_world.proofs.Words.{point_before as kept_point, point_in, state, tells_of, AllTell as AllDevicesTell, AreLasting, AreStored, Area, Cause}
use Rattle.vss_world.proofs.Words.{HasGroups, HasSyncCause, IsAreaHeld, IsSynced, LastsAt, RoseAlone, area_device_at, area_is_set, area_place, blocks_in_group}
use Rattle.vss_world.proofs.Words.{copies, copies_in_group, device_at, eqb-false, eqb-true, of_group, slice_get-set_other, slice_get-set_same}
use Rattle.vss_world.proofs.Words.{slice_get_inside, slice_get_within, told_of as told_by}

-- ## Digests of volumes and of images: what is told of them, and that nothing but counts of devices changes.

-- ## nothing but counts changes

module _ {D : Type 0} (device : Ghosts D) {s : Plan} {p q : ProviderValue D} {x : SessionsValue} {l : List ℕ} {e : List Evicted} (of : IsOf (world_of p x l e) s)
    (same : q ≡ record p { groups = q.groups }) where
  -- the groups stand for what they stood for, and so the core does
  pub stands_still : IfStandFor device.told s p.groups (AreGroups device.told s q.groups)
      → (acts : List Act) → Stands device.told (world_of p x l e) s acts → Stands device.told (world_of q x l e) s acts
  stands_still stand acts stands = grind arith

  pub devices_alone : AreDevicesAlone (world_of p x l e) (world_of q x l e)
  devices_alone = ap (λ (r : ProviderValue D). record { devices = devices_of q.groups; listed = l; evicted = e; provider = r; sessions = x }) same

  pub quiet_is : {v : ℕ} → IsGroupsQuiet device s p.groups q.groups v → IsQuiet device (world_of p x l e) (world_of q x l e) s
  quiet_is quiet = record {
    stands_for = stands_still quiet.stands;
    is_of = of_kept device s p q x x l l e e of quiet.call.kept of.writers;
    blocks = quiet.blocks;
    lasts = quiet.lasts;
    tells = quiet.call.kept.tells s;
    later = quiet.call.kept.later;
    rest = devices_alone;
  }

-- ## images that are kept

-- the provider has an image that is kept
point_stands : (s : Plan) (acts : List Act) (n v point : ℕ) → point_in n (kept (state s acts) (history_of (state s acts) v)) ≡ Some point
    → point_in n (history_of (state s acts) v).images ≡ Some point
point_stands s acts n v point e = let st = state s acts in kept_point (is_kept_set st) n point (history_of st v).images e

-- what is asked for is there: a volume, or a kept image
pub stands_there : {D : Type 0} (told : D → Option (List (List ℕ))) (s : Plan) (w : WorldValue D) (set : Option ℕ) (v : ℕ) → IfSome set (λ n. IsStanding told w s)
    → IfSome set (λ n. IfStands told w s (λ st. is_some (point_in n (kept st (history_of st v))) ≡ true))
    → IsThere told s w.provider.groups v set false → ⊥
stands_there told s w None v standing is none = cc
stands_there told s w (Some set) v standing is none = grind (arith, some_is, point_stands)

-- a fault of a call on what is there is a device's
pub device_fault : {D : Type 0} (device : Ghosts D) (s : Plan) (v : ℕ) (set : Option ℕ) (fault : ImageFault) (old new : List (GroupValue D)) → (IsThere device.told s old v set false → ⊥)
    → HasImageCause device s v set (Some fault) old new → is_some (cause_of fault) ≡ true
device_fault device s v set fault old new there cause = grind arith

-- ## digests

module _ {D : Type 0} (told : D → Option (List (List ℕ))) {s : Plan} {p : ProviderValue D} {x : SessionsValue} {l : List ℕ} {e : List Evicted} {w : WorldValue D} (is : world_of p x l e ≡ w)
    (of : IsOf w s) where
  -- what is read of the devices is the digest of these blocks
  digest_of : {v : ℕ} (set : Option ℕ) (digest : List ℕ) (st : State) (point : ℕ) → v < length s.volumes → AreGroups told s w.provider.groups st.volumes
      → IsDigestTold told s p.groups v set digest → IsPointOf set (history_of st v) point
      → IsDigestIf (slice_get (tells_of told s w.devices) v) (concat (contents (blocks_of s v) (history_of st v).writes point)) digest
  digest_of set digest st point within groups seen so = grind (arith, digest_slot)

  -- of a volume, or of an image on it
  pub told_of : {v : ℕ} (set : Option ℕ) (digest : List ℕ) → v < length s.volumes → IsDigestTold told s p.groups v set digest
      → IfStands told w s (λ st. IsDigestOf (tells_of told s w.devices) s st v set digest)
  told_of {v = v} None digest within h acts stands =
      let st = state s acts in
      digest_of None digest st (length (history_of st v).writes) within stands.at.groups h refl
  told_of {v = v} (Some set) digest within h acts stands =
      λ point shows. digest_of (Some set) digest (state s acts) point within stands.at.groups h (point_stands s acts set v point shows)

  pub digested_told : (rows : List Digested) → All (IsDigestedAt told s p.groups) rows → IfStands told w s (λ st. All (IsDigestedIf (tells_of told s w.devices) s st) rows)
  digested_told rows all acts stands = grind (arith, told_of)

-- ## A group's area is brought to where it lasts: every other device is as it was, and the area's holds the copies.

-- ## one device of the list differs

-- lists that are alike at each place are equal
all_alike : {X : Type 0} (xs ys : List X) → ((k : ℕ) → slice_get xs k ≡ slice_get ys k) → xs ≡ ys
all_alike [] [] same = refl
all_alike [] (y ∷ ys) same = (let e = same 0 in absurd cc)
all_alike (x ∷ xs) [] same = (let e = same 0 in absurd cc)
all_alike (x ∷ xs) (y ∷ ys) same = let here : x ≡ y = (let e = same 0 in cc) in let rest = all_alike xs ys (λ k. same (suc k)) in cc

one_set : {X : Type 0} (old new : List X) (g : ℕ) (x y : X) → slice_get old g ≡ Some x → slice_get new g ≡ Some y → ((k : ℕ) → (k ≡ g → ⊥) → slice_get new k ≡ slice_get old k)
    → new ≡ slice_set old g y
one_set old new g x y was is same = all_alike new (slice_set old g y) (λ k. by_test k (g == k) refl)
  where
    by_test : (k : ℕ) (b : Bool) → (g == k) ≡ b → slice_get new k ≡ slice_get (slice_set old g y) k
    by_test k true e = let k_is = eqb-true g k e in ap (slice_get new) (sym k_is) ∙ is ∙ sym (slice_get-set_same old g x y was) ∙ ap (slice_get (slice_set old g y)) k_is
    by_test k false e = let apart = eqb-false g k e in same k (λ i. apart (sym i)) ∙ sym (slice_get-set_other old g k y apart)

-- the area's device of a group is another, and every other device is as it was
area_set : {D : Type 0} (s : Plan) (groups : List (GroupValue D)) (g : ℕ) (x y : GroupValue D) → HasGroups s groups → slice_get groups g ≡ Some x → y.devices ≡ x.devices
    → devices_of (slice_set groups g y) ≡ slice_set (devices_of groups) (area_place g s.volumes) y.area.device
area_set {D = D} s groups g x y has at same =
    sym (map-id (devices_of (slice_set groups g y)))
    ∙ area_is_set (λ (d : D). d) s groups g x y has at (ap (map (λ (d : D). d)) same)
    ∙ ap (λ (ds : List D). slice_set ds (area_place g s.volumes) y.area.device) (map-id (devices_of groups))

-- ## the call

pub synced_is : {D : Type 0} (device : Ghosts D) {s : Plan} {group : ℕ} {p q : ProviderValue D} {x : SessionsValue} {l : List ℕ} {e : List Evicted}
    → IsOf (world_of p x l e) s → group < length s.groups → AreSynced device p.groups q.groups group → q ≡ record p { groups = q.groups }
    → IsSynced device (world_of p x l e) (world_of q x l e) s group
synced_is device {s = s} {group = group} {p = p} {q = q} {x = x} {l = l} {e = e} of within synced same =
    let number = of.number in
    let more = synced.kept.number in
    let was = slice_get_inside p.groups group (omega (arith, within, number)) in
    let is = slice_get_inside q.groups group (omega (arith, within, number, more)) in
    record {
      stands_for = stands_still device of same (synced.stands s);
      is_of = of_kept device s p q x x l l e e of synced.kept of.writers;
      elsewhere = λ place apart.
          ap (λ (gs : List (GroupValue _)). slice_get (devices_of gs) place) (one_set p.groups q.groups group was.0 is.0 was.1 is.1 synced.elsewhere)
          ∙ ap (λ ds. slice_get ds place) (area_set s p.groups group was.0 is.0 of.groups was.1 (synced.devices was.0 is.0 was.1 is.1))
          ∙ slice_get-set_other (devices_of p.groups) (area_place group s.volumes) place is.0.area.device (λ h. apart (sym h));
      tells = synced.kept.tells s;
      later = synced.kept.later;
      rest = devices_alone device of same;
    }

-- ## what the area's device holds

-- what a sync comes to, whatever it answers
pub record IsSyncOf {D : Type 0} (device : Ghosts D) (s : Plan) (group : ℕ) (result : Result Unit Cause) (old new : WorldValue D) : Type 0 where
  pub held : OnOk result (IsAreaHeld device.told new s group)
  pub lasts : OnOk result (LastsAt device (area_place group s.volumes) new.devices)
  pub same : OnOk result (map device.count new.devices ≡ map device.count old.devices)
  pub fault : IfErr result (λ f. f ≡ Area)
  pub cause : IsErr result → RoseAlone (area_place group s.volumes) (map device.count old.devices) (map device.count new.devices)

module _ {D : Type 0} (device : Ghosts D) {s : Plan} {group : ℕ} {p : ProviderValue D} (q : ProviderValue D) {x : SessionsValue} {l : List ℕ} {e : List Evicted} (of : IsOf (world_of p x l e) s)
    (within : group < length s.groups)
    (synced : AreSynced device p.groups q.groups group) where
  module _ (lasts : AreLasting device s p.groups q.groups group) where
    held_is : IsAreaHeld device.told (world_of q x l e) s group
    held_is acts stands tells =
        let st = state s acts in
        let hs = st.volumes in
        let number = of.number in
        let more = synced.kept.number in
        let was = slice_get_inside p.groups group (omega (arith, within, number)) in
        let is = slice_get_inside q.groups group (omega (arith, within, number, more)) in
        let has = synced.kept.has s of.groups in
        let own : is.0.devices ≡ was.0.devices = synced.devices was.0 is.0 was.1 is.1 in
        let all : AllDevicesTell device.told was.0.devices = λ u d at.
        let there : slice_get is.0.devices u ≡ Some d = ap (λ (ds : List D). slice_get ds u) own ∙ at in
        let size_is = has.devices group is.0 is.1 ∙ ap length (has.volumes group is.0 is.1) in
        let inside = slice_get_within is.0.devices u d there in
        let place = device_at s q.groups group u is.0 d has is.1 there in
        sym (ap (λ (o : Option D). is_some (told_by device.told o)) place) ∙ tells u (omega (arith, inside, size_is)) in
        let stored = (lasts was.0 is.0 was.1 is.1).1 hs stands.at.groups all in
        subst (λ (t : Option (List (List ℕ))). AreStored t (copies (all_placed (blocks_in_group group s.volumes)) (of_group group s.volumes st.volumes)))
        (sym (ap (told_by device.told) (area_device_at s q.groups group is.0 has is.1)))
        (subst (AreStored (device.told is.0.area.device)) (grind (arith, copies_in_group)) stored)

    -- what the area's device tells lasts
    area_lasts : LastsAt device (area_place group s.volumes) (devices_of q.groups)
    area_lasts d at =
        let number = of.number in
        let more = synced.kept.number in
        let was = slice_get_inside p.groups group (omega (arith, within, number)) in
        let is = slice_get_inside q.groups group (omega (arith, within, number, more)) in
        let there : Some is.0.area.device ≡ Some d = sym (area_device_at s q.groups group is.0 (synced.kept.has s of.groups) is.1) ∙ at in
        let same : is.0.area.device ≡ d = cc in
        subst (λ (z : D). device.lasting z ≡ device.told z) same (lasts was.0 is.0 was.1 is.1).0

  pub sync_is : (result : Result Unit Cause) → OnOk result ((r : Plan) → AreLasting device r p.groups q.groups group)
      → ((r : Plan) → HasGroups r p.groups → HasSyncCause device.count r group result p.groups q.groups)
      → IsSyncOf device s group result (world_of p x l e) (world_of q x l e)
  sync_is (Ok done) lasts cause = record { held = held_is (lasts s); lasts = area_lasts (lasts s); same = cause s of.groups; fault = tt; cause = λ none. cc }
  sync_is (Err fault) lasts cause = record { held = tt; lasts = tt; same = tt; fault = (cause s of.groups).0; cause = λ is. (cause s of.groups).1 }
