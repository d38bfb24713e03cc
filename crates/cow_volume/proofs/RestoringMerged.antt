-- A revert whose blocks are restored while the newer images still stand, and calls by counts of devices that say nothing of their faults.
use Rattle.std.proofs.Common.{◌≡◌, ◌<◌, ℕ, Bool, true, false, List, length, refl, ap, sym, subst, ◌∙◌, arith, Option, ◌≤◌, ◌+◌, zero, suc, [], ◌∷◌, map, Some}
use Rattle.std.proofs.Common.{None, inr}
use Rattle.std.specs.Int.{from_bool}
use Rattle.std.specs.Prelude.{slice_set, filter, nat_le, Result, Ok, Err, slice_get, is_some}
use Rattle.vss_names.specs.Faults.{Rose, most}
use Rattle.volume_device.specs.declared.device.Device.{Ghosts}
use Rattle.write_history.specs.History.{History, to_restore}
use Rattle.diff_area.specs.Format.{AreRecords}
use Rattle.diff_area.specs.declared.table_record.Record.{Record}
use Rattle.cow_volume.specs.Calls.{is_among, IsReverted, IsRevert, history_at, changed_at, blocks_in, blocks_at, IsSameDevice, IsKept, DeviceRose, uncounted}
use Rattle.cow_volume.specs.Calls.{counted_as, NeverFails, StopsAfter}
use Rattle.cow_volume.specs.Changes.{IsFirstCopy, HasNoCopy, cleared}
use Rattle.cow_volume.specs.CopiesAfter.{images_on, after_clear}
use Rattle.cow_volume.specs.StandsFor.{GroupValue, record_of}
use Rattle.cow_volume.specs.Parts.{group_of, CopiesValue, AreOfImages}
use Rattle.cow_volume.specs.Restoring.{AreNewerGone, IsMergedTo, merged_as, KeepsCopies, IsOneRestored, IsRestoring, with_up_to}
use Rattle.cow_volume.specs.declared.cause.Cause.{Cause}
use Rattle.cow_volume.specs.declared.cause.Cause.TheVariants.{NoSuchBlock, Volume, Area}
use Rattle.cow_volume.specs.declared.revert_fault.RevertFault.{RevertFault}
use Rattle.cow_volume.specs.declared.revert_fault.RevertFault.TheVariants.{NoSuchImage, Fault}
use Rattle.cow_volume.proofs.GroupReverts.{images_row}
use Rattle.cow_volume.proofs.Group.{quiet_stands, slice_get_inside}
use Rattle.cow_volume.proofs.Kept.{kept_itself, kept_further}
use Rattle.cow_volume.proofs.Merging.{within_blocks}
use Rattle.cow_volume.proofs.NewerMerged.{IsMerging, merging_none, AreMergeable, merge_all}
use Rattle.cow_volume.proofs.RestoringSteps.{revert_done, revert_failed, newer_of}

-- ## The blocks are restored while the newer images still stand. What that leaves of a group, seen as if these images had been merged
-- down before.

-- ## what stays while blocks are restored

pub keeps_itself : {D : Type 0} (ghosts : Ghosts D) (g : GroupValue D) → KeepsCopies ghosts g g
keeps_itself ghosts g = record { kept = kept_itself ghosts g; records = refl; images = refl; slots = refl }

one_keeps : {D : Type 0} (ghosts : Ghosts D) (now new : GroupValue D) (v set b : ℕ) (r : Result Bool Cause)
    → IsOneRestored ghosts now new v set b r → KeepsCopies ghosts now new
one_keeps {D = D} ghosts now new v set b (Ok false) one = subst (λ (x : GroupValue D). KeepsCopies ghosts now x) (sym one.0)
    (keeps_itself ghosts now)
one_keeps ghosts now new v set b (Ok true) one = record { kept = one.kept; records = one.records; images = one.images; slots = one.slots }
one_keeps ghosts now new v set b (Err cause) one = record { kept = one.quiet.kept; records = one.quiet.records; images = one.quiet.images; slots = one.quiet.slots }

pub keeps_one : {D : Type 0} (ghosts : Ghosts D) (g now new : GroupValue D) (v set b : ℕ) (r : Result Bool Cause)
    → KeepsCopies ghosts g now → IsOneRestored ghosts now new v set b r → KeepsCopies ghosts g new
keeps_one ghosts g now new v set b r had one = grind (arith, kept_further, one_keeps ghosts now new v set b r one)

-- ## one block, seen so

pub one_merged : {D : Type 0} (ghosts : Ghosts D) (devices after : List D) (old mid now new : CopiesValue D) (v set b : ℕ)
    (r : Result Bool Cause) → IsMergedTo ghosts.told old mid v set → now.area.records ≡ old.area.records
    → IsOneRestored ghosts (group_of devices now) (group_of after new) v set b r
    → IsOneRestored ghosts (group_of devices (merged_as mid now)) (group_of after (merged_as mid new)) v set b r
one_merged ghosts devices after old mid now new v set b r m same one = grind arith

-- ## where the newer images are merged down

same_copies : {D : Type 0} (c d : CopiesValue D) → d.area.device ≡ c.area.device → d.area.volumes ≡ c.area.volumes → merged_as d c ≡ d
same_copies c d device volumes = grind arith

-- of those copies the newer images are gone
pub gone_as : {D : Type 0} (told : D → Option (List (List ℕ))) (old mid : CopiesValue D) (v set : ℕ) → IsMergedTo told old mid v set → AreNewerGone told old (merged_as mid old) v set
gone_as told old mid v set m = grind arith

-- what all copies keep
pub merging_start : {D : Type 0} (told : D → Option (List (List ℕ))) (old : CopiesValue D) (v set : ℕ) → is_among set (images_on old v) ≡ true → 0 < set → AreOfImages old.area.records old.images
    → AreRecords old.area.volumes old.area.records → IsMerging told old old v set
merging_start told old v set among above of are =
    let row = images_row old v set among in
    merging_none told old v set among above (of.sets v (images_on old v) row) (λ slot s b some at. of.each slot (record_of v s b) at some (images_on old v) row)
    (λ n at. within_blocks old.area.volumes old.area.records v n are at)

-- they can be merged down
pub mergeable : {D : Type 0} (told : D → Option (List (List ℕ))) (old : CopiesValue D) (v set : ℕ) → v < length old.area.volumes → is_among set (images_on old v) ≡ true → 0 < set
    → AreOfImages old.area.records old.images → AreRecords old.area.volumes old.area.records → AreMergeable told old v set
mergeable told old v set inside among above of are = merge_all told old old v set (length (images_on old v)) (omega arith) (merging_start told old v set among above of are) inside

-- ## the end

clear_merged : {D : Type 0} (told : D → Option (List (List ℕ))) (old mid now : CopiesValue D) (v set : ℕ) → IsMergedTo told old mid v set → now.area.records ≡ old.area.records
    → now.images ≡ old.images → after_clear now v set ≡ after_clear (merged_as mid now) v set
clear_merged told old mid now v set m records images = grind arith

pub restored_then_cleared : {D : Type 0} (ghosts : Ghosts D) (devices after : List D) (old mid now new : CopiesValue D) (v set : ℕ)
    (x : Unit) → v < length old.area.volumes → is_among set (images_on old v) ≡ true → IsMergedTo ghosts.told old mid v set
    → IsRestoring ghosts (group_of devices (merged_as mid old)) (group_of after (merged_as mid now)) v set (Ok x)
    → KeepsCopies ghosts (group_of devices old) (group_of after now) → new ≡ after_clear now v set
    → IsReverted ghosts (group_of devices old) (group_of after new) v set
restored_then_cleared ghosts devices after old mid now new v set x inside image m done keeps is =
    revert_done ghosts devices after old (merged_as mid old) (merged_as mid now) new v set x inside image (gone_as ghosts.told old mid v set m) done
    (is ∙ clear_merged ghosts.told old mid now v set m keeps.records keeps.images)

-- a device failed, and then the newer images were merged down
merged_before : {D : Type 0} (ghosts : Ghosts D) (devices after : List D) (old now new : CopiesValue D) (v set : ℕ)
    → IsMergedTo ghosts.told now new v set → KeepsCopies ghosts (group_of devices old) (group_of after now) → IsMergedTo ghosts.told old (merged_as new old) v set
merged_before {D = D} ghosts devices after old now new v set m keeps =
    let records = keeps.records in
    let images = keeps.images in
    record {
      gone = record {
        among = m.gone.among;
        most = m.gone.most;
        device = refl;
        volumes = refl;
        slots = m.gone.slots ∙ ap length records;
        stands = λ ds hs stands.
            let at_now = quiet_stands ghosts.told (group_of ds old) (group_of ds now) hs stands refl images keeps.kept.volumes records keeps.slots in
            let gone = m.gone.stands ds hs at_now in
            quiet_stands ghosts.told (group_of ds new) (group_of ds (merged_as new old)) _ gone refl refl
            (sym (m.gone.volumes ∙ keeps.kept.volumes)) refl (sym (ap ghosts.told m.gone.device ∙ keeps.slots));
      };
      found = λ b slot f. m.found b slot (subst (λ (rs : List Record). IsFirstCopy rs v set b slot) (sym records) f);
      none = λ b n. m.none b (subst (λ (rs : List Record). HasNoCopy rs v set b) (sym records) n);
      records = m.records ∙ ap (cleared v set) records;
      sets = m.sets ∙ ap (λ (ss : List (List ℕ)). filter (λ s. nat_le s set) (images_in ss)) images;
      others = λ xs. m.others xs ∙ ap (λ (ss : List (List ℕ)). slice_set ss v xs) images;
    }
  where
    images_in : List (List ℕ) → List ℕ
    images_in ss = images_on (let c : CopiesValue D = record { area = now.area; images = ss } in c) v

pub stopped_then_merged : {D : Type 0} (ghosts : Ghosts D) (devices after : List D) (old now new : CopiesValue D) (v set : ℕ)
    (fault : RevertFault) → v < length old.area.volumes → is_among set (images_on old v) ≡ true
    → ((mid : CopiesValue D) → IsMergedTo ghosts.told old mid v set → IsRestoring ghosts (group_of devices (merged_as mid old)) (group_of after (merged_as mid now)) v set (Err fault))
    → KeepsCopies ghosts (group_of devices old) (group_of after now) → IsMergedTo ghosts.told now new v set
    → IsRevert ghosts (group_of devices old) (group_of after new) v set (Err fault)
stopped_then_merged {D = D} ghosts devices after old now new v set fault inside image stopped keeps m =
    let before = merged_before ghosts devices after old now new v set m keeps in
    let end = revert_failed ghosts devices after old (merged_as new old) (merged_as new now) v set fault inside image before.gone (stopped (merged_as new old) before) in
    subst (λ (c : CopiesValue D). IsRevert ghosts (group_of devices old) (group_of after c) v set (Err fault)) (same_copies now new m.gone.device m.gone.volumes) end

-- ## A call by the counts of devices that say nothing of their faults, and a revert that stops where it is told to.

-- ## counts that say nothing

pub same_counts : {D : Type 0} (xs ys : List D) → length ys ≡ length xs → map (λ (d : D). uncounted d) ys ≡ map (λ (d : D). uncounted d) xs
same_counts [] [] e = refl
same_counts [] (y ∷ ys) e = cc
same_counts (x ∷ xs) [] e = cc
same_counts (x ∷ xs) (y ∷ ys) e = ap (λ (ns : List ℕ). most ∷ ns) (same_counts xs ys (omega arith))

counts_set : {D : Type 0} (xs ys : List D) (v : ℕ) → length ys ≡ length xs → map (λ (d : D). uncounted d) ys ≡ slice_set (map (λ (d : D). uncounted d) xs) v most
counts_set [] [] v e = refl
counts_set [] (y ∷ ys) v e = cc
counts_set (x ∷ xs) [] v e = cc
counts_set (x ∷ xs) (y ∷ ys) zero e = ap (λ (ns : List ℕ). most ∷ ns) (same_counts xs ys (omega arith))
counts_set (x ∷ xs) (y ∷ ys) (suc v) e = ap (λ (ns : List ℕ). most ∷ ns) (counts_set xs ys v (omega arith))

-- a count of none did not rise
pub no_rise : (a b : ℕ) → b ≡ 0 → Rose a b → ⊥
no_rise a b e x3 = grind arith

module _ {D : Type 0} (ghosts : Ghosts D) where
  same_uncounted : (d e : D) → IsSameDevice ghosts d e → IsSameDevice (counted_as ghosts true) d e
  same_uncounted d e same = record { tells = same.tells; size_is = same.size_is; lends = same.lends; later = omega arith }

  pub kept_uncounted : (now new : GroupValue D) → IsKept ghosts now new → IsKept (counted_as ghosts true) now new
  kept_uncounted now new kept = record {
    volumes = kept.volumes;
    slots = kept.slots;
    area = same_uncounted now.area.device new.area.device kept.area;
    devices = kept.devices;
    each = λ v d e was is. same_uncounted d e (kept.each v d e was is);
  }

  rose_uncounted : (v : ℕ) (now new : GroupValue D) (cause : Cause) → IsKept ghosts now new → DeviceRose ghosts.count v now new cause → DeviceRose uncounted v now new cause
  rose_uncounted v now new NoSuchBlock kept rose = rose
  rose_uncounted v now new Volume kept rose =
      record { before = rose.before; now = rose.now; was = rose.was; is = rose.is; rose = inr refl; devices = counts_set now.devices new.devices v kept.devices; area = refl }
  rose_uncounted v now new Area kept rose = record { rose = inr refl; devices = same_counts now.devices new.devices kept.devices }

  -- one block, by the counts of a revert that is to stop or is not
  pub one_counted : (now new : GroupValue D) (v set b : ℕ) (stop : Option ℕ) (r : Result Bool Cause) → IsOneRestored ghosts now new v set b r
      → IsOneRestored (counted_as ghosts (is_some stop)) now new v set b r
  one_counted now new v set b None r one = one
  one_counted now new v set b (Some k) (Ok false) one = one
  one_counted now new v set b (Some k) (Ok true) one = record {
    slot = one.slot;
    bytes = one.bytes;
    before = one.before;
    after = one.after;
    found = one.found;
    held = one.held;
    was = one.was;
    devices = one.devices;
    written = one.written;
    unfailed = record { devices = same_counts now.devices new.devices one.kept.devices; area = refl };
    kept = kept_uncounted now new one.kept;
    records = one.records;
    images = one.images;
    slots = one.slots;
  }
  one_counted now new v set b (Some k) (Err cause) one = record {
    slot = one.slot;
    found = one.found;
    quiet = record {
      kept = kept_uncounted now new one.quiet.kept;
      records = one.quiet.records;
      images = one.quiet.images;
      blocks = one.quiet.blocks;
      slots = one.quiet.slots;
      blocks_last = one.quiet.blocks_last;
      slots_last = one.quiet.slots_last;
    };
    rose = rose_uncounted v now new cause one.quiet.kept one.rose;
  }

  -- ## a revert that stops

  -- where it stops, a block has a slot and is not put back
  pub one_stopped : (now : GroupValue D) (v set b slot restored : ℕ) (stop : Option ℕ) → v < length now.devices → (stop ≡ Some restored) × IsFirstCopy now.area.records v set b slot
      → IsOneRestored (counted_as ghosts (is_some stop)) now now v set b (Err Volume)
  one_stopped now v set b slot restored None inside stopped = cc (stopped.0)
  one_stopped now v set b slot restored (Some k) inside stopped =
      let d = slice_get_inside now.devices v inside in
      record {
        slot = slot;
        found = stopped.1;
        quiet = record { kept = kept_itself (counted_as ghosts true) now; records = refl; images = refl; blocks = refl; slots = refl; blocks_last = λ u h. h; slots_last = λ h. h };
        rose = record { before = d.0; now = d.0; was = d.1; is = d.1; rose = inr refl; devices = counts_set now.devices now.devices v refl; area = refl };
      }

  -- before it stops there are at most so many
  pub fits_more : (now new : GroupValue D) (v set b restored more k : ℕ) (put : Bool) → more ≡ from_bool put → restored ≤ k → (restored ≡ k → HasNoCopy now.area.records v set b)
      → IsOneRestored ghosts now new v set b (Ok put) → restored + more ≤ k
  fits_more now new v set b restored more k put e few none one = grind arith

  -- no device fails where none ever does
  pub never_rose : (now new : GroupValue D) (v : ℕ) (cause : Cause) → NeverFails ghosts.count → DeviceRose ghosts.count v now new cause → ⊥
  never_rose now new v cause never rose = grind arith

-- the same where the newer images went before
pub stops_merged : {D : Type 0} (told : D → Option (List (List ℕ))) (devices : List D) (old mid : CopiesValue D) (v set k : ℕ) (r : Result Unit RevertFault) → v < length old.area.volumes
    → AreNewerGone told old mid v set → StopsAfter told (group_of devices mid) v set k r → StopsAfter told (group_of devices old) v set k r
stops_merged told devices old mid v set k (Ok done) inside gone stops = λ hs p stands point.
    let newer = newer_of told devices old mid hs v set p inside gone stands point in
    subst (λ (n : ℕ). length (to_restore n (history_at hs v).writes p) ≤ k) (ap (λ (ns : List ℕ). blocks_in (slice_get ns v)) gone.volumes)
    (subst (λ (h : History). length (to_restore (blocks_at (group_of devices mid) v) h.writes p) ≤ k) newer.same
    (stops (changed_at v (with_up_to set) hs) p newer.stands newer.point))
stops_merged told devices old mid v set k (Err NoSuchImage) inside gone stops = tt
stops_merged told devices old mid v set k (Err (Fault restored cause)) inside gone stops = stops
