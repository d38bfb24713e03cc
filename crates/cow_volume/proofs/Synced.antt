-- A group stands for what it stood for where only the header and the table of its area's device were written.
use Rattle.std.proofs.Common.{◌≡◌, ◌≤◌, ℕ, Bool, List, take, length, map, refl, ap, sym, subst, ◌∙◌, arith, Option, Some}
use Rattle.std.specs.Prelude.{is_some, slice_get, option_map, IfSome, Result}
use Rattle.std.proofs.lemmas.List.{length-take-le, take_all}
use Rattle.write_history.specs.History.{History, content}
use Rattle.write_history.specs.Slots.{Copy, copies}
use Rattle.diff_area.specs.AreaValue.{KeepsTable, AreInPart, with_first, table_blocks}
use Rattle.diff_area.specs.Copies.{AreHeld, AreStored}
use Rattle.diff_area.specs.Loading.{IsReadFrom}
use Rattle.diff_area.specs.Format.{blocks_for, table_for, place_of_slot, AreRecords, AreVolumes}
use Rattle.diff_area.specs.declared.table_record.Record.{Record}
use Rattle.diff_area.proofs.ByPlace.{get-with_first-past, length-table}
use Rattle.diff_area.proofs.OnDevice.{read_told}
use Rattle.std.specs.List.{concat}
use Rattle.volume_device.specs.InMemory.{AreBlocks}
use Rattle.cow_volume.specs.StandsFor.{GroupValue, placed, told_in, IsVolume, StandsFor}
use Rattle.cow_volume.specs.Parts.{CopiesValue, group_of}
use Rattle.cow_volume.specs.Calls.{IsQuiet}
use Rattle.cow_volume.specs.Ending.{IsSynced, IsSync, IsTableWritten, AllTell}
use Rattle.cow_volume.specs.declared.cause.Cause.{Cause}
use Rattle.cow_volume.proofs.Group.{told_in-slots, quiet_stands as group_stands}
use Rattle.cow_volume.proofs.Stored.{held_copies}
use Rattle.cow_volume.proofs.Kept.{kept_further, quiet_stands, sizes_kept}
use Rattle.volume_device.specs.declared.device.Device.{Ghosts}

pub tells_written : (old new : Option (List (List ℕ))) (first : List (List ℕ)) → new ≡ option_map (with_first first) old → is_some new ≡ is_some old
tells_written old new first e = grind arith

-- what stands past the first blocks stands there
pub past_first : (old new : Option (List (List ℕ))) (first : List (List ℕ)) (place : ℕ) (bytes : List ℕ) → length first ≤ place → new ≡ option_map (with_first first) old
    → IfSome old (λ blocks. slice_get blocks place ≡ Some bytes) → IfSome new (λ blocks. slice_get blocks place ≡ Some bytes)
past_first old new first place bytes l e h = grind (arith, get-with_first-past)

before_first : (old new : Option (List (List ℕ))) (first : List (List ℕ)) (place : ℕ) (bytes : List ℕ) → length first ≤ place → new ≡ option_map (with_first first) old
    → IfSome new (λ blocks. slice_get blocks place ≡ Some bytes) → IfSome old (λ blocks. slice_get blocks place ≡ Some bytes)
before_first old new first place bytes l e h = grind (arith, get-with_first-past)

synced_volume : (told old new : Option (List (List ℕ))) (records : List Record) (v n : ℕ) (sets : List ℕ) (h : History) (first : List (List ℕ)) → length first ≤ table_for (length records)
    → new ≡ option_map (with_first first) old
    → IsVolume told old records v n sets h → IsVolume told new records v n sets h
synced_volume told old new records v n sets h first l e volume = record {
  blocks = volume.blocks;
  sets_are = volume.sets_are;
  images = volume.images;
  named = volume.named;
  recorded = volume.recorded;
  copied = λ slot set b p at point tells.
      past_first old new first (place_of_slot (length records) slot) (content h.writes p b) (omega arith) e
      (volume.copied slot set b p at point tells);
}

stood_volume : (told old new : Option (List (List ℕ))) (records : List Record) (v n : ℕ) (sets : List ℕ) (h : History) (first : List (List ℕ)) → length first ≤ table_for (length records)
    → new ≡ option_map (with_first first) old
    → IsVolume told new records v n sets h → IsVolume told old records v n sets h
stood_volume told old new records v n sets h first l e volume = record {
  blocks = volume.blocks;
  sets_are = volume.sets_are;
  images = volume.images;
  named = volume.named;
  recorded = volume.recorded;
  copied = λ slot set b p at point tells.
      before_first old new first (place_of_slot (length records) slot) (content h.writes p b) (omega arith) e
      (volume.copied slot set b p at point tells);
}

synced_stands : {D : Type 0} (told : D → Option (List (List ℕ))) (size : D → ℕ) (lending : D → Bool) (devices : List D) (old new : CopiesValue D) (first : List (List ℕ)) (hs : List History)
    → KeepsTable size lending old.area new.area → new.images ≡ old.images
    → length first ≤ table_for (length old.area.records) → told new.area.device ≡ option_map (with_first first) (told old.area.device) → StandsFor told (group_of devices old) hs
    → StandsFor told (group_of devices new) hs
synced_stands told size lending devices old new first hs table images l e stands = record {
  devices = stands.devices ∙ ap length (sym table.volumes);
  images = ap length images ∙ stands.images ∙ ap length (sym table.volumes);
  histories = stands.histories ∙ ap length (sym table.volumes);
  each = λ v n d sets h blocks device row history.
      let volume = stands.each v n d sets h (ap (λ (ns : List ℕ). slice_get ns v) (sym table.volumes) ∙ blocks) device (ap (λ (ss : List (List ℕ)). slice_get ss v) (sym images) ∙ row) history in
      subst (λ (rs : List Record). IsVolume (told_in (told new.area.device) (told d)) (told new.area.device) rs v n sets h) (sym table.records)
      (subst (λ (t : Option (List (List ℕ))). IsVolume t (told new.area.device) old.area.records v n sets h)
      (sym (ap (λ (t : Option (List (List ℕ))). told_in t (told d)) e ∙ told_in-slots (told old.area.device) (told d) (with_first first)))
      (synced_volume (told_in (told old.area.device) (told d)) (told old.area.device) (told new.area.device) old.area.records v n sets h first l e volume));
}

stood_first : {D : Type 0} (told : D → Option (List (List ℕ))) (size : D → ℕ) (lending : D → Bool) (devices : List D) (old new : CopiesValue D) (first : List (List ℕ)) (hs : List History)
    → KeepsTable size lending old.area new.area → new.images ≡ old.images
    → length first ≤ table_for (length old.area.records) → told new.area.device ≡ option_map (with_first first) (told old.area.device) → StandsFor told (group_of devices new) hs
    → StandsFor told (group_of devices old) hs
stood_first told size lending devices old new first hs table images l e stands = record {
  devices = stands.devices ∙ ap length table.volumes;
  images = ap length (sym images) ∙ stands.images ∙ ap length table.volumes;
  histories = stands.histories ∙ ap length table.volumes;
  each = λ v n d sets h blocks device row history.
      let volume = stands.each v n d sets h (ap (λ (ns : List ℕ). slice_get ns v) table.volumes ∙ blocks) device (ap (λ (ss : List (List ℕ)). slice_get ss v) images ∙ row) history in
      stood_volume (told_in (told old.area.device) (told d)) (told old.area.device) (told new.area.device) old.area.records v n sets h first l e
      (subst (λ (t : Option (List (List ℕ))). IsVolume t (told new.area.device) old.area.records v n sets h)
      (ap (λ (t : Option (List (List ℕ))). told_in t (told d)) e ∙ told_in-slots (told old.area.device) (told d) (with_first first))
      (subst (λ (rs : List Record). IsVolume (told_in (told new.area.device) (told d)) (told new.area.device) rs v n sets h) table.records volume));
}

synced_first : {D : Type 0} (ghosts : Ghosts D) (devices : List D) (old new : CopiesValue D) (first : List (List ℕ))
    → KeepsTable ghosts.size ghosts.lending old.area new.area → new.images ≡ old.images
    → ghosts.count old.area.device ≤ ghosts.count new.area.device → length first ≤ table_for (length old.area.records)
    → ghosts.told new.area.device ≡ option_map (with_first first) (ghosts.told old.area.device)
    → IsSynced ghosts (group_of devices old) (group_of devices new)
synced_first ghosts devices old new first table images later l e = record {
  kept = grind (arith, tells_written (ghosts.told old.area.device) (ghosts.told new.area.device) first e);
  devices = refl;
  records = table.records;
  images = images;
  stands = λ hs stands. synced_stands ghosts.told ghosts.size ghosts.lending devices old new first hs table images l e stands;
  stood = λ hs stands. stood_first ghosts.told ghosts.size ghosts.lending devices old new first hs table images l e stands;
}

-- the table was written
pub synced_all : {D : Type 0} (ghosts : Ghosts D) (devices : List D) (old new : CopiesValue D) → KeepsTable ghosts.size ghosts.lending old.area new.area
    → new.images ≡ old.images → ghosts.count old.area.device ≤ ghosts.count new.area.device
    → ghosts.told new.area.device ≡ option_map (with_first (table_blocks old.area.volumes old.area.records)) (ghosts.told old.area.device)
    → IsSynced ghosts (group_of devices old) (group_of devices new)
synced_all ghosts devices old new table images later e =
    let long : length (table_blocks old.area.volumes old.area.records) ≤ table_for (length old.area.records) = (let same = length-table old.area.volumes old.area.records in omega arith) in
    synced_first ghosts devices old new (table_blocks old.area.volumes old.area.records) table images later long e

-- a part of it was
pub synced_part : {D : Type 0} (ghosts : Ghosts D) (devices : List D) (old new : CopiesValue D) → KeepsTable ghosts.size ghosts.lending old.area new.area
    → new.images ≡ old.images → ghosts.count old.area.device ≤ ghosts.count new.area.device
    → AreInPart (table_blocks old.area.volumes old.area.records) (ghosts.told old.area.device) (ghosts.told new.area.device) → IsSynced ghosts (group_of devices old) (group_of devices new)
synced_part ghosts devices old new table images later part =
    let long : length (take part.count (table_blocks old.area.volumes old.area.records)) ≤ table_for (length old.area.records) = (
    let same = length-table old.area.volumes old.area.records in
    let short = length-take-le part.count (table_blocks old.area.volumes old.area.records) part.within in
    let within = part.within in
    omega arith) in
    synced_first ghosts devices old new (take part.count (table_blocks old.area.volumes old.area.records)) table images later long part.blocks

-- and then only a count may have changed
pub synced_further : {D : Type 0} (ghosts : Ghosts D) (devices : List D) (old mid new : CopiesValue D)
    → IsSynced ghosts (group_of devices old) (group_of devices mid)
    → IsQuiet ghosts (group_of devices mid) (group_of devices new) → IsSynced ghosts (group_of devices old) (group_of devices new)
synced_further ghosts devices old mid new synced quiet = record {
  kept = kept_further ghosts (group_of devices old) (group_of devices mid) (group_of devices new) synced.kept quiet.kept;
  devices = refl;
  records = quiet.records ∙ synced.records;
  images = quiet.images ∙ synced.images;
  stands = λ hs stands. quiet_stands ghosts (group_of devices mid) (group_of devices new) hs quiet (synced.stands hs stands);
  stood = λ hs stands. synced.stood hs
      (group_stands ghosts.told (group_of devices new) (group_of devices mid) hs stands (sym quiet.blocks) (sym quiet.images) (sym quiet.kept.volumes) (sym quiet.records) (sym quiet.slots));
}

-- the copies of the definitions stand on the area's device
pub stored_all : {D : Type 0} (told : D → Option (List (List ℕ))) (devices : List D) (old mid new : CopiesValue D) → AreRecords old.area.volumes old.area.records
    → told new.area.device ≡ told mid.area.device
    → ((cs : List Copy) → AreHeld (told old.area.device) old.area.records cs → AreStored (told mid.area.device) cs)
    → (hs : List History) → StandsFor told (group_of devices old) hs → AllTell told devices → AreStored (told new.area.device) (copies (placed old.area.volumes) hs)
stored_all told devices old mid new are same written hs stands tells =
    subst (λ (t : Option (List (List ℕ))). AreStored t (copies (placed old.area.volumes) hs)) (sym same)
    (written (copies (placed old.area.volumes) hs) (held_copies told (group_of devices old) hs stands are tells))

-- each device still has as many blocks as its volume
pub sizes_synced : {D : Type 0} (ghosts : Ghosts D) (old new : GroupValue D) (r : Result Unit Cause)
    → IsSync ghosts old new r → map ghosts.size old.devices ≡ old.area.volumes → map ghosts.size new.devices ≡ new.area.volumes
sizes_synced ghosts old new r is sizes = grind (arith, sizes_kept)

-- the table that was written is read back
pub table_written : {D : Type 0} (told : D → Option (List (List ℕ))) (n : ℕ) (devices : List D) (old mid new : CopiesValue D)
    → told mid.area.device ≡ option_map (with_first (table_blocks old.area.volumes old.area.records)) (told old.area.device) → told new.area.device ≡ told mid.area.device
    → new.area.volumes ≡ old.area.volumes → new.area.records ≡ old.area.records → IfSome (told old.area.device) (AreBlocks n)
    → n ≡ blocks_for (length old.area.records) → AreVolumes old.area.volumes → AreRecords old.area.volumes old.area.records → IsTableWritten told (group_of devices old) (group_of devices new)
table_written told n devices old mid new written flushed volumes records whole fits are_volumes are_records =
    let read = read_told (told old.area.device) (told new.area.device) n old.area.volumes old.area.records (flushed ∙ written) whole fits are_volumes are_records in
    let P : List ℕ → Type 0 = λ vs. IfSome (told new.area.device) (λ blocks. IsReadFrom (concat blocks) vs old.area.records) in
    let Q : List Record → Type 0 = λ rs. IfSome (told new.area.device) (λ blocks. IsReadFrom (concat blocks) new.area.volumes rs) in
    record { written = flushed ∙ written; read = subst Q (sym records) (subst P (sym volumes) read) }

-- all of the table was written, and its device failed after that
pub written_whole : (old mid new : Option (List (List ℕ))) (table : List (List ℕ)) → mid ≡ option_map (with_first table) old → new ≡ mid → AreInPart table old new
written_whole old mid new table written same = grind (arith, take_all)
