-- A volume with recovery writes in its parts: what its calls come to, from the calls that they are made of.
use Rattle.std.proofs.Common.{ℕ, List, Option, arith, ◌≡◌, ◌<◌, ◌≤◌, ◌∙◌, ◌++◌, length-append, zero, suc, [], ◌∷◌, ◌-◌, ◌+◌, Bool, true, false, Some, ap, sym}
use Rattle.std.proofs.Common.{length, slice_index_or, filter, take, subst, rules}
use Rattle.std.proofs.lemmas.Grind.{common_steps}
use Rattle.std.proofs.lemmas.List.{length-take-le}
use Rattle.std.proofs.lemmas.Option.{get_or_from_slice_get}
use Rattle.std.specs.Prelude.{Result, Ok, Err, OnOk, IfSome, slice_get, if◌then◌else◌, option_map}
use Rattle.volume_device.specs.InMemory.{AreBlocks}
use Rattle.volume_device.specs.declared.device.Device.{Ghosts}
use Rattle.write_history.specs.History.{last_bytes}
use Rattle.diff_area.specs.AreaValue.{AreaValue, KeepsTable, AreInPart, with_first, table_blocks}
use Rattle.diff_area.specs.Format.{blocks_for, table_for, place_of_slot, AreRecords}
use Rattle.diff_area.specs.declared.table_record.Record.{Record}
use Rattle.diff_area.proofs.ByPlace.{length-table}
use Rattle.cow_volume.specs.Calls.{is_among, blocks_in, sets_in}
use Rattle.cow_volume.specs.Changes.{has_record}
use Rattle.cow_volume.specs.CopiesAfter.{with_records}
use Rattle.cow_volume.specs.Ending.{IsSynced}
use Rattle.cow_volume.specs.StandsFor.{GroupValue, record_of}
use Rattle.cow_volume.specs.OneVolume.{blocks_of, image_sets, IsOneShown, IsOneRevert, IsOneSync}
use Rattle.cow_volume.specs.declared.cause.Cause.{Cause}
use Rattle.cow_volume.specs.declared.revert_fault.RevertFault.{RevertFault}
use Rattle.cow_volume.specs.declared.revert_fault.RevertFault.TheVariants.{NoSuchImage, Fault}
use Rattle.cow_volume.proofs.Group.{slice_get_inside}
use Rattle.cow_volume.proofs.Synced.{past_first, tells_written, written_whole}
use Rattle.vss_recover.specs.Calls.{IsSettled, IsSettledUpTo, IsShown, IsRevertStep, IsStep}
use Rattle.vss_recover.specs.Steps.{owner_of, IsNewest}
use Rattle.vss_recover.specs.OverlayCalls.{kept_records, count_in, IsPut}
use Rattle.vss_recover.specs.RecoverValue.{RecoverValue, StandsFor, IsOverlay}
use Rattle.vss_recover.specs.Recoveries.{kept_window, kept_final, Recovery, Recovering, recovered, IsOfImages}
use Rattle.vss_recover.specs.Steps.Step.{Recovered}
use Rattle.vss_recover.specs.Syncing.{KeepsSlots, KeepsSaid, IsOverlayTable}
use Rattle.vss_recover.specs.declared.claim.Claim.{Claim}
use Rattle.vss_recover.specs.declared.recover_fault.RecoverFault.{RecoverFault}
use Rattle.vss_recover.specs.declared.recover_revert.RecoverRevert.TheVariants.{Other}
use Rattle.vss_recover.proofs.Taken.{shown_below, recovered_step, in_part_step}

-- ## A volume with recovery writes in its parts.

abbrev pub value_of : {D : Type 0} → GroupValue D → AreaValue D → Option ℕ → List Claim → List ℕ → RecoverValue D
value_of volume overlay window claims final = record { volume = volume; overlay = overlay; window = window; claims = claims; final = final }

-- what was settled after the volume changed was settled in all
module _ {D : Type 0} (volume middle : GroupValue D) (overlay : AreaValue D) (window : Option ℕ) (claims : List Claim) (final : List ℕ) (new : RecoverValue D) where
  pub settled_in_all : IsSettled (value_of middle overlay window claims final) new → IsSettled (value_of volume overlay window claims final) new
  settled_in_all is = record { device = is.device; volumes = is.volumes; records = is.records; window = is.window; claims = is.claims; final = is.final }

  pub settled_up_to_in_all : (up_to : ℕ) → IsSettledUpTo up_to (value_of middle overlay window claims final) new → IsSettledUpTo up_to (value_of volume overlay window claims final) new
  settled_up_to_in_all up_to is = grind arith

-- ## What the calls come to, from what the calls that they are made of come to.

pub settled_is : {D : Type 0} (volume : GroupValue D) (overlay now_overlay : AreaValue D) (window now : Option ℕ) (claims : List Claim) (final left images : List ℕ) → images ≡ image_sets volume
    → now_overlay ≡ with_records (kept_records images overlay.records) overlay
    → now ≡ kept_window images window → left ≡ kept_final images final → IsSettled (value_of volume overlay window claims final) (value_of volume now_overlay now claims left)
settled_is volume overlay now_overlay window now claims final left images sets overlay_is window_is final_is = grind arith

pub blocks_kept : {D : Type 0} (old new : GroupValue D) → new.area.volumes ≡ old.area.volumes → blocks_of new ≡ blocks_of old
blocks_kept old new e = ap (λ (ns : List ℕ). blocks_in (slice_get ns 0)) e

-- ## the newest of some images

some_image : (sets : List ℕ) (set : ℕ) → is_among set sets ≡ true → 0 < length sets
some_image sets set e = grind (arith, common_steps)

last_is : (sets : List ℕ) (d : ℕ) → 0 < length sets → slice_get sets (length sets - 1) ≡ Some (slice_index_or sets (length sets - 1) d)
last_is sets d some = let x = slice_get_inside sets (length sets - 1) (omega arith) in x.1 ∙ ap Some (sym (get_or_from_slice_get sets (length sets - 1) x.0 d x.1))

pub newest_there : (sets images : List ℕ) (set : ℕ) → images ≡ sets → is_among set sets ≡ true → IsNewest sets (slice_index_or images (length images - 1) 0)
newest_there sets images set same among = grind (arith, last_is, some_image)

-- ## reads

pub below_if_ok : {D E : Type 0} (told : D → Option (List (List ℕ))) (v : RecoverValue D) (set b : ℕ) (bytes : List ℕ) (result : Result Unit E)
    → (0 < set → has_record v.overlay.records (record_of 0 set b) ≡ false) → b < blocks_of v.volume → OnOk result (IsOneShown told v.volume set b bytes) → OnOk result (IsShown told v set b bytes)
below_if_ok told v set b bytes (Ok done) none low is = shown_below told v set b bytes none low is
below_if_ok told v set b bytes (Err fault) none low is = tt

-- ## the final sets

one_more : (k : ℕ) → suc k + 1 ≡ suc (k + 1)
one_more k = omega arith

filter_if : (t u : Bool) (y x : ℕ) (xs ys : List ℕ) → ys ≡ (if u then xs ++ x ∷ [] else xs)
    → (if t then y ∷ ys else ys) ≡ (if u then (if t then y ∷ xs else xs) ++ x ∷ [] else (if t then y ∷ xs else xs))
filter_if t u y x xs ys e = grind arith

pub filter_take : (p : ℕ → Bool) (xs : List ℕ) (i x : ℕ) → slice_get xs i ≡ Some x → filter p (take (i + 1) xs) ≡ (if p x then filter p (take i xs) ++ x ∷ [] else filter p (take i xs))
filter_take p [] i x at = cc
filter_take p (y ∷ xs) zero x at = (let same : y ≡ x = cc in ap (λ z. if p z then z ∷ [] else []) same)
filter_take p (y ∷ xs) (suc i) x at = ap (λ j. filter p (take j (y ∷ xs))) (one_more i) ∙ filter_if (p y) (p x) y x (filter p (take i xs)) (filter p (take (i + 1) xs)) (filter_take p xs i x at)

pub element_at : (xs : List ℕ) (i : ℕ) → i < length xs → slice_get xs i ≡ Some (slice_index_or xs i 0)
element_at xs i l = let x = slice_get_inside xs i l in x.1 ∙ ap Some (sym (get_or_from_slice_get xs i x.0 0 x.1))

pub long_one_more : (xs : List ℕ) (x i : ℕ) → length xs ≤ i → length (xs ++ x ∷ []) ≤ i + 1
long_one_more xs x i l = let same = length-append xs (x ∷ []) in omega arith

-- ## a recovery write

pub recovered_if_ok : {D : Type 0} (ghosts : Ghosts D) (old : RecoverValue D) (overlay : AreaValue D) (r : Recovery) (bytes : List ℕ)
    (result : Result Unit RecoverFault) → bytes ≡ r.write.bytes → old.overlay.volumes ≡ blocks_of old.volume ∷ [] → AreRecords old.overlay.volumes old.overlay.records
    → ghosts.size old.overlay.device ≡ blocks_for (length old.overlay.records) → IfSome (ghosts.told old.overlay.device) (AreBlocks (ghosts.size old.overlay.device)) → old.window ≡ Some r.set
    → r.write.block < blocks_of old.volume → owner_of old.claims r.write.block ≡ Some r.writer
    → IsPut ghosts old.overlay overlay r.set r.write.block bytes result → OnOk result (IsStep ghosts.told old (value_of old.volume overlay old.window old.claims old.final) (Recovered r))
recovered_if_ok ghosts old overlay r bytes result same fits are sized whole window low owner is = grind (arith, common_steps, recovered_step)

-- ## a revert that a device broke off

pub revert_fault_step : {D : Type 0} (ghosts : Ghosts D) (old new : RecoverValue D) (set : ℕ) (fault : RevertFault)
    → old.overlay.volumes ≡ blocks_of old.volume ∷ [] → AreRecords old.overlay.volumes old.overlay.records
    → count_in set old.overlay.records ≡ 0 → IsSettled old new → IsOneRevert ghosts old.volume new.volume set (Err fault) → IsRevertStep ghosts.told old new set (Err (Other fault))
revert_fault_step ghosts old new set NoSuchImage fits are none settled is = tt
revert_fault_step ghosts old new set
    (Fault k cause) fits are none settled is = λ h p stood point. in_part_step ghosts old new set fits are none settled h p stood point k is.0

-- ## What is kept where the records of an overlay are written to its device, and for what a volume stands after that.

below : (a b c : ℕ) → a ≤ b → a ≤ b + c
below a b c l = omega arith

-- ## the overlay

module _ {D : Type 0} (ghosts : Ghosts D) where
  slots_first : (old new : AreaValue D) (first : List (List ℕ)) → KeepsTable ghosts.size ghosts.lending old new → ghosts.count old.device ≤ ghosts.count new.device
      → length first ≤ table_for (length old.records) → ghosts.told new.device ≡ option_map (with_first first) (ghosts.told old.device) → KeepsSlots ghosts old new
  slots_first old new first table later short e = record {
    volumes = table.volumes;
    records = table.records;
    device = record { tells = tells_written (ghosts.told old.device) (ghosts.told new.device) first e; size_is = table.size_is; lends = table.lends; later = later };
    slots = λ slot bytes has. past_first (ghosts.told old.device) (ghosts.told new.device) first (place_of_slot (length old.records) slot) bytes
        (below (length first) (table_for (length old.records)) slot short) e has;
  }

  -- the table was written
  pub slots_all : (old new : AreaValue D) → KeepsTable ghosts.size ghosts.lending old new → ghosts.count old.device ≤ ghosts.count new.device
      → ghosts.told new.device ≡ option_map (with_first (table_blocks old.volumes old.records)) (ghosts.told old.device) → KeepsSlots ghosts old new
  slots_all old new table later e = search (rules, length-table, slots_first)

  -- a part of it was
  pub slots_part : (old new : AreaValue D) → KeepsTable ghosts.size ghosts.lending old new → ghosts.count old.device ≤ ghosts.count new.device
      → AreInPart (table_blocks old.volumes old.records) (ghosts.told old.device) (ghosts.told new.device) → KeepsSlots ghosts old new
  slots_part old new table later part =
      let same = length-table old.volumes old.records in
      let short = length-take-le part.count (table_blocks old.volumes old.records) part.within in
      slots_first old new (take part.count (table_blocks old.volumes old.records)) table later (omega arith) part.blocks

  -- and then only a count may have changed
  pub slots_further : (old mid new : AreaValue D) → KeepsSlots ghosts old mid → KeepsTable ghosts.size ghosts.lending mid new → ghosts.told new.device ≡ ghosts.told mid.device
      → ghosts.count mid.device ≤ ghosts.count new.device → KeepsSlots ghosts old new
  slots_further old mid new kept table same later = grind arith

  -- all of the table was written before its device was brought to where it lasts, or failed
  pub flushed_table : {E : Type 0} (old mid new : AreaValue D) (result : Result Unit E) → ghosts.told mid.device ≡ option_map (with_first (table_blocks old.volumes old.records)) (ghosts.told old.device)
      → ghosts.told new.device ≡ ghosts.told mid.device → IsOverlayTable ghosts.told old new result
  flushed_table old mid new result written same = grind (arith, written_whole)

  -- ## the volume

  kept_overlay : (old new : AreaValue D) (n : ℕ) (rs : List Recovery) → KeepsSlots ghosts old new
      → IsOverlay (ghosts.told old.device) old.records n rs → IsOverlay (ghosts.told new.device) new.records n rs
  kept_overlay old new n rs kept is =
      subst (λ (rows : List Record). IsOverlay (ghosts.told new.device) rows n rs) (sym kept.records) (record {
        named = is.named;
        recorded = is.recorded;
        copied = λ slot set b above row. kept.slots slot (last_bytes b [] (recovered set rs)) (is.copied slot set b above row);
      })

  pub synced_stands : (old new : RecoverValue D) (h : Recovering) → IsSynced ghosts old.volume new.volume → KeepsSlots ghosts old.overlay new.overlay
      → KeepsSaid old new
      → StandsFor ghosts.told old h → StandsFor ghosts.told new h
  synced_stands old new h synced kept said stood = record {
    volume = synced.stands (h.volume ∷ []) stood.volume;
    overlay = subst (λ (n : ℕ). IsOverlay (ghosts.told new.overlay.device) new.overlay.records n h.recoveries) (sym (blocks_kept old.volume new.volume synced.kept.volumes))
        (kept_overlay old.overlay new.overlay (blocks_of old.volume) h.recoveries kept stood.overlay);
    of_images = subst (λ (sets : List ℕ). IsOfImages sets h) (sym (ap (λ (ss : List (List ℕ)). sets_in (slice_get ss 0)) synced.images)) stood.of_images;
    window = said.window ∙ stood.window;
    claims = said.claims ∙ stood.claims;
    final = said.final ∙ stood.final;
  }

  pub same_slots : (area : AreaValue D) → KeepsSlots ghosts area area
  same_slots area = grind arith

  pub synced_of : (old new : GroupValue D) (result : Result Unit Cause) → IsOneSync ghosts old new result → IsSynced ghosts old new
  synced_of old new result is = grind arith
