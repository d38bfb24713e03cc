-- The group of a volume was called, and the others are as they were, also by counts of devices that say nothing of faults.
use Rattle.std.proofs.Common.{◌≡◌, ℕ, zero, suc, ◌<◌, List, [], ◌∷◌, length, refl, ap, sym, ◌∙◌, subst, arith, Bool, true, false, Option, Some, All, map}
use Rattle.std.proofs.Common.{slice_get, slice_set, ◌≤◌, inr}
use Rattle.std.proofs.lemmas.List.{length-map}
use Rattle.std.specs.Prelude.{Result, Ok, Err, OnOk, IfErr}
use Rattle.cow_volume.specs.Calls.{StopsAfter as StopsInGroup}
use Rattle.cow_volume.specs.declared.image_fault.ImageFault.TheVariants as image
use Rattle.cow_volume.specs.declared.revert_fault.RevertFault.TheVariants.{NoSuchImage as NoImage}
use Rattle.cow_volume.proofs.RestoringMerged.{same_counts}
use Rattle.vss_model.specs.Words.{History, Image, Plan, Write, blocks_of, change_at, cut, dropped, point_in, reverted, reverted_in_part, sets_of, to_restore}
use Rattle.vss_model.specs.Words.{written, place_in}
use Rattle.provider.specs.Calls.{StopsAfter}
use Rattle.provider.specs.Words.{Area, Cause, DeviceRose, Fault, Ghosts, GroupValue, HasImageCause as HasGroupImageCause, ImageFault, IsPutOr}
use Rattle.provider.specs.Words.{IsRevert as IsGroupRevert, IsUnfailed, IsUnseen, NoSuchBlock, RevertFault, StandsFor, Volume, VolumeRose, blocks_at}
use Rattle.provider.specs.Words.{changed_at, history_at as group_history_at, is_there, sets_at, uncounted}
use Rattle.provider.proofs.InGroup.{changes, stays, group_there}
use Rattle.provider.proofs.Flat.{rose_volume, rose_area, area_of_place, counts_same, devices_same, lasts_same, mapped_same}
use Rattle.provider.proofs.Found.{Found, blocks_here, device_is, history_here, image_of, own, sets_here, stands_here, there_of, own_device}
use Rattle.provider.proofs.Kept.{kept_one, kept_itself, called_there, same_length}
use Rattle.provider.proofs.Words.{AreGroups, AreKept, CanCutOn, HasCause, HasDigestCause, HasImageCause, IsCallOn, IsCutOn, IsDropped, IsGroupDrop, IsKeptGroup}
use Rattle.provider.proofs.Words.{IsPut, IsQuiet, IsQuietGroup, IsRevert, LastsAt, ProviderValue, RoseAlone, counts_of, devices_of, fault_of, history_at}
use Rattle.provider.proofs.Words.{quiet_stands, slice_get-set_other, slice_set-same, volume_place, AreLater, HasGroups, slice_get_inside}

-- ## The group of a volume was called, and the others are as they were: what that comes to for all of them.

pub record Called {D : Type 0} (s : Plan) (old new : List (GroupValue D)) (v : ℕ) : Type 0 where
  pub found : Found s old v
  pub after : GroupValue D
  pub is : new ≡ slice_set old found.group after

abbrev pub called : {D : Type 0} {s : Plan} {old : List (GroupValue D)} {v : ℕ} (f : Found s old v) (y : GroupValue D) → Called s old (slice_set old f.group y) v
called f y = record { found = f; after = y; is = refl }

-- ## which device failed

module _ {D : Type 0} (count : D → ℕ) {s : Plan} {old new : List (GroupValue D)} {v : ℕ} (c : Called s old new v) where
  pub counts_still : IsUnfailed count c.found.here c.after → counts_of count new ≡ counts_of count old
  counts_still same = ap (counts_of count) c.is ∙ counts_same count old c.found.group c.found.here c.after c.found.at same

  pub rose_of : (cause : Cause) → DeviceRose count c.found.within c.found.here c.after cause → HasCause count s v (Some cause) old new
  rose_of NoSuchBlock rose = rose
  rose_of Volume rose = rose_volume count s old new v c.found.group c.found.within c.found.here c.after c.found.has c.found.place c.found.at c.is rose
  rose_of Area rose =
      subst (λ (n : ℕ). RoseAlone n (counts_of count old) (counts_of count new)) (sym (area_of_place s v c.found.group c.found.within c.found.place))
      (rose_area count s old new c.found.group c.found.here c.after c.found.has c.found.at c.is rose)

  pub cause_of : {T : Type 0} (result : Result T Cause) → OnOk result (IsUnfailed count c.found.here c.after) → IfErr result (DeviceRose count c.found.within c.found.here c.after)
      → HasCause count s v (fault_of result) old new
  cause_of result same rose = grind (arith, counts_still, rose_of)

-- a call on a block that there is fails by a device, or for want of the image
pub by_fault : {D : Type 0} (count : D → ℕ) (u : ℕ) (set : Option ℕ) (b : ℕ) (x y : GroupValue D) → b < blocks_at x u → (fault : ImageFault) → HasGroupImageCause count u set b x y fault
    → HasDigestCause count u set x y fault
by_fault count u set b x y low fault h = grind arith

pub flush_rose : {D : Type 0} (count : D → ℕ) (u : ℕ) (x y : GroupValue D) (result : Result Unit Cause) → IfErr result (λ cause. cause ≡ Volume)
    → IfErr result (λ cause. VolumeRose count u x y) → IfErr result (DeviceRose count u x y)
flush_rose count u x y result is rose = grind arith

-- a call on a block that there is does not lend for want of the image
pub unseen_image : (sets : List ℕ) (blocks : ℕ) (set : Option ℕ) (b : ℕ) → b < blocks → (fault : ImageFault) → IsUnseen sets blocks set b fault
    → (fault ≡ image.NoSuchImage) × (is_there set sets ≡ false)
unseen_image sets blocks set b low fault h = grind arith

same_kept : {D : Type 0} (device : Ghosts D) (x y : GroupValue D) → y.devices ≡ x.devices → y.area ≡ x.area → IsKeptGroup device x y
same_kept device x y devices area = grind (arith, kept_itself)

-- ## what was called

module _ {D : Type 0} (device : Ghosts D) {s : Plan} {old new : List (GroupValue D)} {v : ℕ} (c : Called s old new v) where
  pub all_kept : IsKeptGroup device c.found.here c.after → AreKept device old new
  all_kept kept = kept_one device old new c.found.group c.found.here c.after c.found.at c.is kept

  pub call_of : IsKeptGroup device c.found.here c.after → IsCallOn device s v old new
  call_of kept = grind (arith, all_kept, slice_get-set_other)

  pub devices_still : c.after.devices ≡ c.found.here.devices → c.after.area.device ≡ c.found.here.area.device → devices_of new ≡ devices_of old
  devices_still devices area = ap devices_of c.is ∙ devices_same old c.found.group c.found.here c.after c.found.at devices area

  pub groups_still : c.after ≡ c.found.here → new ≡ old
  groups_still same = c.is ∙ ap (slice_set old c.found.group) same ∙ slice_set-same old c.found.group c.found.here c.found.at

  pub changed : (f : History → History) (hs : List History) → IsKeptGroup device c.found.here c.after → AreGroups device.told s old hs
      → StandsFor device.told c.after (changed_at c.found.within f (own c.found hs))
      → AreGroups device.told s new (change_at v f hs)
  changed f hs kept are stands =
      changes device.told s old new v c.found.group c.found.within c.found.here c.after hs f c.found.place c.found.at c.is kept.volumes kept.slots are stands

  pub unchanged : (hs : List History) → IsKeptGroup device c.found.here c.after → AreGroups device.told s old hs → StandsFor device.told c.after (own c.found hs) → AreGroups device.told s new hs
  unchanged hs kept are stands = stays device.told s old new c.found.group c.found.here c.after hs c.found.at c.is kept.volumes kept.slots are stands

  pub quiet_of : IsQuietGroup device c.found.here c.after → IsQuiet device s old new v
  quiet_of quiet = record {
    call = call_of quiet.kept;
    blocks = ap (λ (zs : List (GroupValue D)). map device.told (devices_of zs)) c.is ∙ mapped_same device.told old c.found.group c.found.here c.after c.found.at quiet.blocks quiet.slots;
    lasts = subst (λ (zs : List (GroupValue D)). (place : ℕ) → LastsAt device place (devices_of old) → LastsAt device place (devices_of zs)) (sym c.is)
        (lasts_same device old c.found.group c.found.here c.after c.found.at quiet.kept.devices quiet.blocks_last quiet.slots_last);
    stands = λ hs are. unchanged hs quiet.kept are
        (quiet_stands device.told c.found.here c.after (own c.found hs) (stands_here device.told c.found hs are) quiet.blocks quiet.images quiet.kept.volumes quiet.records quiet.slots);
  }

  pub image_cause_of : {T : Type 0} (set : Option ℕ) (result : Result T ImageFault) → OnOk result (is_there set (sets_at c.found.here c.found.within) ≡ true)
      → OnOk result (IsUnfailed device.count c.found.here c.after)
      → IfErr result (HasDigestCause device.count c.found.within set c.found.here c.after) → HasImageCause device s v set (fault_of result) old new
  image_cause_of set (Ok done) has same why = (there_of device.told c.found set true has, counts_still device.count c same)
  image_cause_of set (Err image.NoSuchImage) has same why = (there_of device.told c.found set false why.0, groups_still why.1)
  image_cause_of set (Err image.NoSuchBlock) has same why = why
  image_cause_of set (Err image.Volume) has same why = (there_of device.told c.found set true why.0, rose_of device.count c Volume why.1)
  image_cause_of set (Err image.Area) has same why = (there_of device.told c.found set true why.0, rose_of device.count c Area why.1)

  pub drop_kept : (set : ℕ) (b : Bool) → IsGroupDrop device c.found.here c.after c.found.within set b → AreKept device old new
  drop_kept set b h = grind (arith, all_kept, kept_itself)

  pub dropped_of : (set : ℕ) (b : Bool) → IsGroupDrop device c.found.here c.after c.found.within set b → IsDropped device s old new v set b
  dropped_of set false h = (image_of device.told c.found set false h.0, groups_still h.1)
  dropped_of set true h = (
    image_of device.told c.found set true h.0,
    call_of h.1.kept,
    devices_still h.1.devices h.1.area,
    λ hs are. changed (dropped set) hs h.1.kept are (h.1.stands (own c.found hs) (stands_here device.told c.found hs are)),
  )

  pub put_of : (w : Write) (result : Result Unit Cause) → IsPutOr device c.found.here c.after c.found.within w result → IsPut device s old new v w result
  put_of w (Ok done) h = record {
    call = call_of h.kept;
    stands = λ hs are. changed (written w) hs h.kept are (h.stands (own c.found hs) (stands_here device.told c.found hs are));
    cause = counts_still device.count c h.unfailed;
  }
  put_of w (Err cause) h = record {
    call = call_of h.kept;
    stands = λ hs are. unchanged hs h.kept are (h.stands (own c.found hs) (stands_here device.told c.found hs are));
    cause = rose_of device.count c cause h.rose;
  }

  pub revert_of : (set : ℕ) (result : Result Unit RevertFault) → IsGroupRevert device c.found.here c.after c.found.within set result
      → IsRevert device s old new v set result
  revert_of set (Ok done) h = (
    image_of device.told c.found set true h.image,
    call_of h.kept,
    counts_still device.count c h.unfailed,
    λ hs are p point.
        let same = history_here c.found hs are.histories in
        changed (reverted set p) hs h.kept are (h.stands (own c.found hs) p (stands_here device.told c.found hs are) (ap (λ (k : History). point_in set k.images) same ∙ point)),
  )
  revert_of set (Err NoImage) h = (image_of device.told c.found set false h.0, groups_still h.1)
  revert_of set (Err (Fault restored cause)) h =
      let r = h.0 in
      let blocks = blocks_here c.found in (
        image_of device.told c.found set true r.image,
        call_of r.kept,
        rose_of device.count c cause h.1,
        λ hs are p point.
            let same = history_here c.found hs are.histories in
            let here = ap (λ (h : History). point_in set h.images) same ∙ point in
            let stood = stands_here device.told c.found hs are in (
              subst (λ (h : History). restored < length (to_restore (blocks_of s v) h.writes p)) same
                  (subst (λ (n : ℕ). restored < length (to_restore n (group_history_at (own c.found hs) c.found.within).writes p)) blocks (r.fewer (own c.found hs) p stood here)),
              subst (λ (n : ℕ). AreGroups device.told s new (change_at v (reverted_in_part n set p restored) hs)) blocks
                  (changed (reverted_in_part (blocks_at c.found.here c.found.within) set p restored) hs r.kept are (r.stands (own c.found hs) p stood here)),
            ),
      )

  pub revert_kept : (set : ℕ) (result : Result Unit RevertFault) → IsGroupRevert device c.found.here c.after c.found.within set result
      → AreKept device old new
  revert_kept set (Ok done) h = all_kept h.kept
  revert_kept set (Err NoImage) h = all_kept (subst (λ (y : GroupValue D). IsKeptGroup device c.found.here y) (sym h.1) (kept_itself device c.found.here))
  revert_kept set (Err (Fault restored cause)) h = all_kept h.0.kept

  pub cut_of : (set : ℕ) → c.after.devices ≡ c.found.here.devices → c.after.area ≡ c.found.here.area
      → ((hs : List History) → StandsFor device.told c.found.here hs → StandsFor device.told c.after (changed_at c.found.within (cut set) hs)) → IsCutOn device s old new v set
  cut_of set devices area stands =
      let kept = same_kept device c.found.here c.after devices area in
      record {
        kept = all_kept kept;
        devices = devices_still devices (ap (λ (a : _). a.device) area);
        stands = λ hs are. changed (cut set) hs kept are (stands (own c.found hs) (stands_here device.told c.found hs are));
      }

  -- the group is found afterwards
  abbrev pub called_found : IsKeptGroup device c.found.here c.after → Found s new v
  called_found kept = record {
    has = (all_kept kept).has s c.found.has;
    group = c.found.group;
    within = c.found.within;
    place = c.found.place;
    here = c.after;
    at = called_there old new c.found.group c.found.here c.after c.found.at c.is;
  }

  pub flush_lasts : IsKeptGroup device c.found.here c.after → ((d : D) → slice_get c.after.devices c.found.within ≡ Some d → device.lasting d ≡ device.told d)
      → LastsAt device (volume_place s v) (devices_of new)
  flush_lasts kept lasts d at = lasts d (device_is (called_found kept) d at)

-- ## the cut

module _ {D : Type 0} (told : D → Option (List (List ℕ))) {s : Plan} {v : ℕ} (p : ProviderValue D) (f : Found s p.groups v) (can : CanCutOn told s p v) where
  sets_same : sets_at f.here f.within ≡ sets_of (history_at can.histories v).images
  sets_same = sets_here told f can.histories can.stand

  pub room_of : length (sets_at f.here f.within) < 512
  room_of = grind (arith, sets_same, length-map)

  lesser : (images : List Image) → All (λ (i : Image). i.set < p.set) images → All (λ (n : ℕ). n < p.set) (sets_of images)
  lesser [] all k d low = absurd (omega arith)
  lesser (i ∷ images) all zero d low = all zero i (omega arith)
  lesser (i ∷ images) all (suc k) d low = lesser images (λ j e l. all (suc j) e (omega arith)) k d (omega arith)

  pub newest_of : All (λ (n : ℕ). n < p.set) (sets_at f.here f.within)
  newest_of = subst (λ (sets : List ℕ). All (λ (n : ℕ). n < p.set) sets) (sym sets_same) (lesser (history_at can.histories v).images can.newest)

-- ## Counts of devices that say nothing of faults, and a revert that stops where it is told to.

-- a count at its most counts as risen where nothing happened
rose_still : {D : Type 0} (xs : List D) (k : ℕ) (d : D) → slice_get xs k ≡ Some d → RoseAlone k (map (λ (x : D). uncounted x) xs) (map (λ (x : D). uncounted x) xs)
rose_still [] k d e = cc
rose_still (x ∷ xs) zero d e = (inr refl, refl)
rose_still (x ∷ xs) (suc k) d e = (refl, rose_still xs k d e)

pub rose_at : {D : Type 0} (s : Plan) (groups : List (GroupValue D)) (v : ℕ) → HasGroups s groups → v < length s.volumes
    → RoseAlone (volume_place s v) (counts_of uncounted groups) (counts_of uncounted groups)
rose_at s groups v has low =
    let row = slice_get_inside s.volumes v low in
    let u = place_in row.0.group s.volumes v in
    let there = group_there s groups v row.0.group u (record { row = row.0; is_row = row.1; group_is = refl; within_is = refl }) has in
    let found : Found s groups v =
    record { has = has; group = row.0.group; within = u; place = record { row = row.0; is_row = row.1; group_is = refl; within_is = refl }; here = there.0; at = there.1 } in
    let d = own_device found in
    rose_still (devices_of groups) (volume_place s v) d.0 d.2

-- where no count fell, there are as many devices
pub as_many : {D : Type 0} (count : D → ℕ) (ds es : List D) → AreLater (map count ds) (map count es) → length es ≡ length ds
as_many count [] [] h = refl
as_many count [] (e ∷ es) h = absurd h
as_many count (d ∷ ds) [] h = absurd h
as_many count (d ∷ ds) (e ∷ es) h = ap (λ (n : ℕ). suc n) (as_many count ds es h.1)

-- a count that rose, as one that says nothing
pub rose_unsaid : {D : Type 0} (count : D → ℕ) (xs ys : List D) (k : ℕ) → RoseAlone k (map count xs) (map count ys) → RoseAlone k (map (λ (x : D). uncounted x) xs) (map (λ (x : D). uncounted x) ys)
rose_unsaid count [] ys zero rose = absurd rose
rose_unsaid count [] ys (suc k) rose = absurd rose
rose_unsaid count (x ∷ xs) [] zero rose = absurd rose
rose_unsaid count (x ∷ xs) [] (suc k) rose = absurd rose
rose_unsaid count (x ∷ xs) (y ∷ ys) zero rose = (inr refl, same_counts xs ys (same_length count xs ys rose.1))
rose_unsaid count (x ∷ xs) (y ∷ ys) (suc k) rose = (refl, rose_unsaid count xs ys k rose.1)

-- what a group says of where it stops
pub stops_of : {D : Type 0} (told : D → Option (List (List ℕ))) {s : Plan} {old new : List (GroupValue D)} {v : ℕ} (c : Called s old new v) (set k : ℕ) (result : Result Unit RevertFault)
    → StopsInGroup told c.found.here c.found.within set k result → StopsAfter told s old v set k result
stops_of told {s = s} {v = v} c set k (Ok done) h = λ hs are p point.
    let same = history_here c.found hs are.histories in
    subst (λ (x : History). length (to_restore (blocks_of s v) x.writes p) ≤ k) same
    (subst (λ (n : ℕ). length (to_restore n (group_history_at (own c.found hs) c.found.within).writes p) ≤ k) (blocks_here c.found)
    (h (own c.found hs) p (stands_here told c.found hs are) (ap (λ (x : History). point_in set x.images) same ∙ point)))
stops_of told c set k (Err NoImage) h = tt
stops_of told c set k (Err (Fault restored cause)) h = h
