-- The steps of a write, against the histories that the group stands for: whether it lacks its slot, and that it copies once.
use Rattle.std.proofs.Common.{ℕ, ◌≡◌, true, false, List, Option, arith, ◌<◌, Bool, not, [], ◌∷◌, length, slice_get, refl, sym, ap, ◌∙◌, zero, suc, ◌≤◌, ◌&&◌}
use Rattle.std.proofs.Common.{map, Some, slice_set, subst, inl, inr}
use Rattle.std.proofs.lemmas.Bool.{false≢true}
use Rattle.std.proofs.lemmas.List.{length-map, length-set}
use Rattle.std.proofs.lemmas.Option.{slice_get_within}
use Rattle.std.specs.Prelude.{Result, Ok, Err, is_some, IfSome, slice_index}
use Rattle.vss_names.specs.Faults.{Rose}
use Rattle.slot_pool.specs.Slots.{IsLowestFree}
use Rattle.volume_device.specs.InMemory.{AreBlocks}
use Rattle.volume_device.specs.declared.device.Device.{Ghosts}
use Rattle.write_history.specs.History.{History, Write}
use Rattle.write_history.specs.Slots.{needs_slot_in, lacks_slot as lacks_slot_by, gone_up_to}
use Rattle.diff_map.specs.Copies.{newest}
use Rattle.diff_area.specs.Format.{blocks_for, AreRecords, free, is_free}
use Rattle.diff_area.specs.declared.table_record.Record.{Record}
use Rattle.cow_volume.specs.Calls.{sets_at, blocks_at, sets_in, IsEvicted, IsSameDevice, IsKept, IsUnfailed, DeviceRose, HasCauseAt, IsWritten, IsUnwritten}
use Rattle.cow_volume.specs.Calls.{made_room, blocks_in}
use Rattle.cow_volume.specs.Changes.{has_record, gone_to, noted}
use Rattle.cow_volume.specs.CopiesAfter.{IsAreaPut, IsCopiedOnce, images_on, after_gone, after_note}
use Rattle.cow_volume.specs.StandsFor.{GroupValue, placed, StandsFor, record_of}
use Rattle.cow_volume.specs.Parts.{group_of, CopiesValue, AreOfImages}
use Rattle.cow_volume.specs.Room.{lacks_copy, lacks_slot, IsRoomMade, gone_group, lacks_after, all_after, HasRoom}
use Rattle.cow_volume.specs.Steps.{IsOn, IsPut, IsNotPut, IsPutOr, IsPutOn, IsCopiedIn, IsNotCopied, RoseBy, put}
use Rattle.cow_volume.specs.declared.cause.Cause.{Cause}
use Rattle.cow_volume.specs.declared.cause.Cause.TheVariants.{NoSuchBlock, Volume, Area}
use Rattle.cow_volume.proofs.Counting.{group_used_of}
use Rattle.cow_volume.proofs.Evicting.{is_gone, gone_stands, gone_records, lacks_by_records, room_made, none_gone_stands}
use Rattle.cow_volume.proofs.Group.{quiet_stands}
use Rattle.cow_volume.proofs.DeviceCalls.{same_on, kept, told_set, volume_rose, put_tells}
use Rattle.cow_volume.proofs.Kept.{same_itself, kept_itself, map_set_told}
use Rattle.cow_volume.proofs.MakingRoom.{gone_nothing}
use Rattle.cow_volume.proofs.Merging.{and_left}
use Rattle.cow_volume.proofs.Rows.{lacks_newest, has_slot, has_from_slot}
use Rattle.cow_volume.proofs.Ties.{free_slot_is}
use Rattle.cow_volume.proofs.Writing.{newest_is, group_needs, group_needs_none, group_needs_not, slot_room, group_written_again, group_written_first}
use Rattle.cow_volume.proofs.Writing.{group_overwritten}

-- ## A write copies once, also where images went for it.

-- what lacks a copy once images went lacked it before
pub lacked : {D : Type 0} (c new : CopiesValue D) (v b up_to : ℕ) → AreRecords c.area.volumes c.area.records → AreOfImages c.area.records c.images → IsRoomMade c.area.records c.images v b up_to
    → new ≡ after_gone c up_to
    → lacks_copy new.area.records v (images_on new v) b ≡ true → lacks_copy c.area.records v (images_on c v) b ≡ true
lacked c new v b up_to are of room gone lacks = grind (arith, gone_nothing, and_left)

-- and none went where no slot was lacking
pub needless : {D : Type 0} (c : CopiesValue D) (v b up_to : ℕ) → AreRecords c.area.volumes c.area.records → AreOfImages c.area.records c.images → IsRoomMade c.area.records c.images v b up_to
    → lacks_slot c.area.records v (images_on c v) b ≡ false → up_to ≡ 0
needless c v b up_to are of room has = grind (arith, gone_nothing)

-- so a write that copies once after images went copies once
pub once_with_room : {D : Type 0} (told : D → Option (List (List ℕ))) (old mid new : GroupValue D) (v b up_to : ℕ) → mid ≡ gone_group up_to old
    → (lacks_copy mid.area.records v (sets_at mid v) b ≡ true → lacks_copy old.area.records v (sets_at old v) b ≡ true)
    → IsCopiedOnce told mid new v b → IsCopiedOnce told old new v b
once_with_room told old mid new v b up_to gone lacks_before once = grind (arith, length-map)

-- a write that lacks no slot does
pub once_of : {D : Type 0} (told : D → Option (List (List ℕ))) (old new : GroupValue D) (v b : ℕ) (r : Result Unit Cause) → IsAreaPut told old new v b r → IsCopiedOnce told old new v b
once_of told old new v b r broken = grind arith

-- a write that needs no copy leaves the area
pub not_copied_area : {D : Type 0} (told : D → Option (List (List ℕ))) (old new : GroupValue D) (v b : ℕ) (r : Result Unit Cause)
    → lacks_copy old.area.records v (sets_at old v) b ≡ false → told new.area.device ≡ told old.area.device → new.area.records ≡ old.area.records → IsAreaPut told old new v b r
not_copied_area told old new v b r has slots records = grind arith

-- ## Whether a write lacks its slot, by the records and by the histories; and so the images that go for it.

-- a write needs a slot just where the newest image lacks a copy of the block
pub needs_by_records : {D : Type 0} (told : D → Option (List (List ℕ))) (g : GroupValue D) (hs : List History) (v b : ℕ) → StandsFor told g hs → b < blocks_at g v
    → lacks_copy g.area.records v (sets_at g v) b ≡ needs_slot_in (slice_get hs v) b
needs_by_records told g hs v b stands within = by_sets (sets_at g v) refl where
  by_test : (t : Bool) → 0 < length (sets_at g v) → has_record g.area.records (record_of v (newest (sets_at g v)) b) ≡ t → not t ≡ needs_slot_in (slice_get hs v) b
  by_test true some e = let at = has_slot g.area.records (record_of v (newest (sets_at g v)) b) e in sym (group_needs_not told g hs v b at.0 stands within at.1)
  by_test false some e = sym (group_needs told g hs v b stands within (record {
    set = newest (sets_at g v);
    newest_is = newest_is (sets_at g v) some;
    unnoted = λ slot h. false≢true (sym e ∙ has_from_slot g.area.records (record_of v (newest (sets_at g v)) b) slot h);
  }))

  by_some : 0 < length (sets_at g v) → lacks_copy g.area.records v (sets_at g v) b ≡ needs_slot_in (slice_get hs v) b
  by_some some = lacks_newest g.area.records v (sets_at g v) b some ∙ by_test (has_record g.area.records (record_of v (newest (sets_at g v)) b)) some refl

  by_sets : (sets : List ℕ) → sets_at g v ≡ sets → lacks_copy g.area.records v (sets_at g v) b ≡ needs_slot_in (slice_get hs v) b
  by_sets [] e = ap (λ (s : List ℕ). lacks_copy g.area.records v s b) e ∙ sym (group_needs_none told g hs v b stands within e)
  by_sets (s ∷ rest) e = let long = ap length e in by_some (omega arith)

lacks_lift : {D : Type 0} (told : D → Option (List (List ℕ))) (g : GroupValue D) (hs : List History) (v b k : ℕ) → StandsFor told g hs → AreRecords g.area.volumes g.area.records → b < blocks_at g v
    → lacks_after g.area.records g.images v b k ≡ lacks_slot_by (length g.area.records) (placed g.area.volumes) v b (gone_up_to k (placed g.area.volumes) hs)
lacks_lift told g hs v b k stands are within =
    let now = gone_stands told g (gone_group k g) hs k (is_gone k g) stands in
    lacks_by_records g.area.records (placed g.area.volumes) v b k hs (lacks_copy (gone_to k g.area.records) v (sets_in (slice_get (all_after k g.images) v)) b)
    (needs_by_records told (gone_group k g) (gone_up_to k (placed g.area.volumes) hs) v b now within)
    (group_used_of told (gone_group k g) (gone_up_to k (placed g.area.volumes) hs) now (gone_records g.area.volumes g.area.records k are))

-- the number up to which room was made is the definition's
pub room_lift : {D : Type 0} (told : D → Option (List (List ℕ))) (g : GroupValue D) (hs : List History) (v b m : ℕ) → StandsFor told g hs → AreRecords g.area.volumes g.area.records → b < blocks_at g v
    → IsRoomMade g.area.records g.images v b m → IsEvicted g v b hs m
room_lift told g hs v b m stands are within room =
    room_made told g hs v b m stands
    (λ k low. sym (lacks_lift told g hs v b k stands are within) ∙ room.needed k low)
    (sym (lacks_lift told g hs v b m stands are within) ∙ room.enough)

-- where the images went that had to, there is room
pub room_is : {D : Type 0} (told : D → Option (List (List ℕ))) (devices : List D) (old new : CopiesValue D) (v b up_to : ℕ) → AreRecords old.area.volumes old.area.records
    → AreOfImages old.area.records old.images
    → b < blocks_at (group_of devices old) v → IsRoomMade old.area.records old.images v b up_to → new ≡ after_gone old up_to → HasRoom told (group_of devices old) (group_of devices new) v b up_to
room_is told devices old new v b up_to are of within made gone =
    let g = group_of devices old in
    let left : group_of devices new ≡ gone_group up_to g = ap (group_of devices) gone in
    record {
      enough = ap (λ x. lacks_slot x.area.records v (sets_at x v) b) left ∙ made.enough;
      needless = needless old v b up_to are of made;
      none = λ e. ap (group_of devices) (gone ∙ ap (after_gone old) e ∙ sym (gone_nothing old are of));
      left = left;
      lacked = lacked old new v b up_to are of made gone;
      evicted = λ hs stood. room_lift told g hs v b up_to stood are within made;
      stands = λ hs stood. rw left (gone_stands told g (gone_group up_to g) hs up_to (is_gone up_to g) stood);
    }

-- ## The steps of a write, against the histories that the group stands for.

-- a slot is noted for the newest image, of records and images that a copy left
pub noted_copies : {D : Type 0} (c new last : CopiesValue D) (v b slot : ℕ) → new.area.records ≡ c.area.records → new.images ≡ c.images → last ≡ after_note new v b slot
    → last.area.records ≡ noted slot (record_of v (newest (images_on c v)) b) c.area.records
noted_copies c new last v b slot records images is = grind arith

module _ {D : Type 0} (ghosts : Ghosts D) (devices : List D) (c : CopiesValue D) (v : ℕ) (d : D) (w : Write)
    (low : w.block < blocks_at (group_of devices c) v) (at : slice_get devices v ≡ Some d) where
  -- a block that needs no copy is written
  pub put_again : (e : D) (r : Result Unit Cause) → lacks_copy c.area.records v (sets_at (group_of devices c) v) w.block ≡ false → IsPutOn ghosts d e w.block w.bytes r
      → IsPutOr ghosts (group_of devices c) (group_of (slice_set devices v e) c) v w r
  put_again e (Ok done) has on = record {
    kept = kept ghosts devices v d e c c at (same_on ghosts d e (put w.block w.bytes (ghosts.told d)) on.0 (put_tells w.block w.bytes (ghosts.told d)))
        (same_itself ghosts c.area.device) refl refl;
    stands = λ hs stood. group_written_again ghosts.told (group_of devices c) (group_of (slice_set devices v e) c) hs v d e w stood low
        (sym (needs_by_records ghosts.told (group_of devices c) hs v w.block stood low) ∙ has) at on.0.tells refl refl refl refl refl;
    unfailed = record { devices = map_set_told ghosts.count devices v d e at on.1; area = refl };
  }
  put_again e (Err cause) has failed = record {
    kept = kept ghosts devices v d e c c at (same_on ghosts d e (ghosts.told d) failed.0 refl) (same_itself ghosts c.area.device) refl refl;
    stands = λ hs stood. quiet_stands ghosts.told (group_of devices c) (group_of (slice_set devices v e) c) hs stood (told_set ghosts devices v d e at failed.0.tells) refl refl refl refl;
    rose = subst (λ (f : Cause). DeviceRose ghosts.count v (group_of devices c) (group_of (slice_set devices v e) c) f) (sym failed.1)
        (volume_rose ghosts devices v d e c c at failed.2 refl);
  }

  -- the copy failed
  pub not_copied : (e : D) (new : CopiesValue D) (cause : Cause) → IsNotCopied ghosts d e c new cause
      → IsNotPut ghosts (group_of devices c) (group_of (slice_set devices v e) new) v cause
  not_copied e new cause failed = record {
    kept = kept ghosts devices v d e c new at (same_on ghosts d e (ghosts.told d) failed.device_on refl)
        (same_on ghosts c.area.device new.area.device (ghosts.told c.area.device) failed.area_on.device refl) failed.area_on.volumes (ap length failed.area_on.records);
    stands = λ hs stood. quiet_stands ghosts.told (group_of devices c) (group_of (slice_set devices v e) new) hs stood
        (told_set ghosts devices v d e at failed.device_on.tells) failed.area_on.images failed.area_on.volumes failed.area_on.records failed.area_on.device.tells;
    rose = by_cause cause failed.rose;
  } where
    by_cause : (cause : Cause) → RoseBy ghosts.count d e c.area.device new.area.device cause → DeviceRose ghosts.count v (group_of devices c) (group_of (slice_set devices v e) new) cause
    by_cause NoSuchBlock rose = rose
    by_cause Volume rose = volume_rose ghosts devices v d e c new at rose.0 rose.1
    by_cause Area rose = record { rose = rose.0; devices = map_set_told ghosts.count devices v d e at rose.1 }

  module _ (slot : ℕ) (free_at : IsLowestFree (map is_free c.area.records) slot) (fits : ghosts.size c.area.device ≡ blocks_for (length c.area.records))
      (whole : IfSome (ghosts.told c.area.device) (AreBlocks (ghosts.size c.area.device))) (e f : D) (new : CopiesValue D) (copied : IsCopiedIn ghosts d e c new w.block slot) where
    is_there : slice_get c.area.records slot ≡ Some free
    is_there = free_slot_is c.area.records slot free_at

    area_same : IsSameDevice ghosts c.area.device new.area.device
    area_same = grind arith

    -- the copy was made, and the overwrite failed
    pub not_overwritten : (cause : Cause) → IsOn ghosts e f (ghosts.told e) → cause ≡ Volume → Rose (ghosts.count e) (ghosts.count f)
        → IsNotPut ghosts (group_of devices c) (group_of (slice_set devices v f) new) v cause
    not_overwritten cause on is rose = record {
      kept = kept ghosts devices v d f c new at (record {
        tells = ap is_some (on.tells ∙ copied.device_on.tells);
        size_is = on.size_is ∙ copied.device_on.size_is;
        lends = on.lends ∙ copied.device_on.lends;
        later = let a = on.later in let b = copied.device_on.later in omega arith;
      }) area_same copied.area_on.volumes (ap length copied.area_on.records);
      stands = λ hs stood. group_overwritten ghosts.told (group_of devices c) (group_of (slice_set devices v f) new) hs slot copied.copy stood is_there
          (told_set ghosts devices v d f at (on.tells ∙ copied.device_on.tells))
          copied.area_on.images copied.area_on.volumes copied.area_on.records copied.area_on.device.tells;
      rose = subst (λ (x : Cause). DeviceRose ghosts.count v (group_of devices c) (group_of (slice_set devices v f) new) x) (sym is)
          (volume_rose ghosts devices v d f c new at (risen rose copied.device_on.later) copied.area_same);
    } where
      risen : Rose (ghosts.count e) (ghosts.count f) → ghosts.count d ≤ ghosts.count e → Rose (ghosts.count d) (ghosts.count f)
      risen (inl up) le = inl (omega arith)
      risen (inr most_now) le = inr most_now

    -- the block was copied, written and noted
    pub put_first : (last : CopiesValue D) → lacks_copy c.area.records v (sets_at (group_of devices c) v) w.block ≡ true → IsOn ghosts e f (put w.block w.bytes (ghosts.told e))
        → ghosts.count f ≡ ghosts.count e → last ≡ after_note new v w.block slot
        → IsPut ghosts (group_of devices c) (group_of (slice_set devices v f) last) v w
    put_first last lacks on unfailed is =
        let told_is : ghosts.told f ≡ put w.block w.bytes (ghosts.told d) = on.tells ∙ ap (put w.block w.bytes) copied.device_on.tells in
        let device_is : last.area.device ≡ new.area.device = ap (λ x. x.area.device) is in
        let records_are : last.area.records ≡ noted slot (record_of v (newest (sets_at (group_of devices c) v)) w.block) c.area.records =
        noted_copies c new last v w.block slot copied.area_on.records copied.area_on.images is in
        record {
          kept = kept ghosts devices v d f c last at (record {
            tells = ap is_some told_is ∙ put_tells w.block w.bytes (ghosts.told d);
            size_is = on.size_is ∙ copied.device_on.size_is;
            lends = on.lends ∙ copied.device_on.lends;
            later = let a = on.later in let b = copied.device_on.later in omega arith;
          }) (subst (λ (x : D). IsSameDevice ghosts c.area.device x) (sym device_is) area_same) (ap (λ x. x.area.volumes) is ∙ copied.area_on.volumes)
              (ap length records_are ∙ length-set c.area.records slot (record_of v (newest (sets_at (group_of devices c) v)) w.block));
          stands = λ hs stood. group_written_first ghosts.told (group_of devices c) (group_of (slice_set devices v f) last) hs v d f w slot copied.copy stood low
              (sym (needs_by_records ghosts.told (group_of devices c) hs v w.block stood low) ∙ lacks) at told_is is_there copied.read
              (slot_room (ghosts.told c.area.device) (length c.area.records) slot (subst (λ (n : ℕ). IfSome (ghosts.told c.area.device) (AreBlocks n)) fits whole)
              (slot_within c.area.records slot is_there))
              refl (ap (λ x. x.images) is ∙ copied.area_on.images) (ap (λ x. x.area.volumes) is ∙ copied.area_on.volumes) records_are (ap ghosts.told device_is ∙ copied.area_on.device.tells);
          unfailed = record { devices = map_set_told ghosts.count devices v d f at (unfailed ∙ copied.device_same); area = ap ghosts.count device_is ∙ copied.area_same };
        } where
          slot_within : (rs : List Record) (k : ℕ) → slice_get rs k ≡ Some free → k < length rs
          slot_within rs k h = slice_get_within rs k free h

-- ## the whole write

kept_gone : {D : Type 0} (ghosts : Ghosts D) (m : ℕ) (old new : GroupValue D) → IsKept ghosts (gone_group m old) new
    → IsKept ghosts old new
kept_gone ghosts m old new k = grind (arith, length-map)

rose_gone : {D : Type 0} (count : D → ℕ) (v b m : ℕ) (old new : GroupValue D) (cause : Cause) → b < blocks_at old v → DeviceRose count v (gone_group m old) new cause
    → HasCauseAt count v b old new cause
rose_gone count v b m old new cause low rose = grind arith

module _ {D : Type 0} (ghosts : Ghosts D) (old mid new : GroupValue D) (v : ℕ) (w : Write) (m : ℕ) (low : w.block < blocks_at old v)
    (gone : mid ≡ gone_group m old)
    (evicted : (hs : List History) → StandsFor ghosts.told old hs → IsEvicted old v w.block hs m)
    (room : (hs : List History) → StandsFor ghosts.told old hs → StandsFor ghosts.told mid (made_room old m hs)) where
  pub is_written : IsPut ghosts mid new v w → IsWritten ghosts old new v w m
  is_written done = record {
    in_range = low;
    kept = kept_gone ghosts m old new (subst (λ (x : GroupValue D). IsKept ghosts x new) gone done.kept);
    evicted = evicted;
    stands = λ hs stood. done.stands (made_room old m hs) (room hs stood);
    unfailed = (let is = subst (λ (x : GroupValue D). IsUnfailed ghosts.count x new) gone done.unfailed in record { devices = is.devices; area = is.area });
  }

  pub is_unwritten : (cause : Cause) → IsNotPut ghosts mid new v cause → IsUnwritten ghosts old new v w.block (record { cause = cause; evicted_up_to = m })
  is_unwritten cause failed = record {
    cause = rose_gone ghosts.count v w.block m old new cause low (subst (λ (x : GroupValue D). DeviceRose ghosts.count v x new cause) gone failed.rose);
    kept = kept_gone ghosts m old new (subst (λ (x : GroupValue D). IsKept ghosts x new) gone failed.kept);
    evicted = λ within. evicted;
    none = λ past. absurd (omega arith);
    stands = λ hs stood. failed.stands (made_room old m hs) (room hs stood);
  }

-- there is no such block
pub no_block : {D : Type 0} (ghosts : Ghosts D) (g : GroupValue D) (v b : ℕ) → blocks_at g v ≤ b
    → IsUnwritten ghosts g g v b (record { cause = NoSuchBlock; evicted_up_to = 0 })
no_block ghosts g v b past = record {
  cause = (past, refl);
  kept = kept_itself ghosts g;
  evicted = λ low. absurd (omega arith);
  none = λ p. refl;
  stands = λ hs stood. none_gone_stands ghosts.told g hs stood;
}

-- ## what a copy leaves

pub lacks_still : {D : Type 0} (c new : CopiesValue D) (v b : ℕ) → new.area.records ≡ c.area.records → new.images ≡ c.images → lacks_copy c.area.records v (images_on c v) b ≡ true
    → lacks_copy new.area.records v (images_on new v) b ≡ true
lacks_still c new v b records images lacks = grind arith

pub blocks_index : (volumes : List ℕ) (v : ℕ) → blocks_in (slice_get volumes v) ≡ slice_index volumes v
blocks_index [] v = refl
blocks_index (n ∷ volumes) zero = refl
blocks_index (n ∷ volumes) (suc v) = blocks_index volumes v

pub and_rest : (a b : Bool) → a ≡ true → (a && b) ≡ false → b ≡ false
and_rest a b e h = grind arith

pub put_size : {D : Type 0} (ghosts : Ghosts D) (d e : D) (block : ℕ) (bytes : List ℕ) (r : Result Unit Cause)
    → IsPutOn ghosts d e block bytes r → ghosts.size e ≡ ghosts.size d
put_size ghosts d e block bytes r on = grind arith
