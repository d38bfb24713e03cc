-- What the passes of an update make of the copies, and how many blocks are marked, counted block by block.
use Rattle.std.proofs.Common.{ℕ, ◌≡◌, ◌<◌, ◌≤◌, ◌+◌, Bool, true, false, List, length, take, get_or, slice_get, refl, arith, inl, inr, ◌≢◌, zero, suc, ◌-◌, ◌^◌}
use Rattle.std.proofs.Common.{[], ◌∷◌, min, ap, sym, subst, ◌∙◌, not, Option, Some}
use Rattle.std.proofs.lemmas.Bool.{false≢true, cases_lt, lt-ltb, le-ltb}
use Rattle.std.proofs.lemmas.List.{length-take, take_all}
use Rattle.std.proofs.lemmas.List.Sums.{count_by-le-length, count_by_more_yes, count_by_more_no, sum_by-cons}
use Rattle.std.proofs.lemmas.Option.{slice_get_cases, same_Some, slice_get_within}
use Rattle.std.specs.Int.{from_bool}
use Rattle.std.specs.Prelude.{if◌then◌else◌, unwrap_or, ◌⊎◌, ◌==◌, ◌&&◌, nat_lt, Result, Ok}
use Rattle.volume_device.specs.declared.device.Device.{Ghosts}
use Rattle.diff_map.specs.Copies.{AreImages, newest}
use Rattle.diff_area.specs.Format.{place_of_slot, free, is_free, used_in}
use Rattle.diff_area.specs.declared.table_record.Record.{Record}
use Rattle.cow_volume.specs.Calls.{sets_at, sets_in, IsQuiet}
use Rattle.cow_volume.specs.Changes.{has_record, gone_to, noted}
use Rattle.cow_volume.specs.CopiesAfter.{IsAreaPut}
use Rattle.cow_volume.specs.StandsFor.{GroupValue, record_of}
use Rattle.cow_volume.specs.Room.{after, gone_group, lacks_copy, is_full, HasRoom}
use Rattle.cow_volume.specs.declared.cause.Cause.{Cause}
use Rattle.cow_volume.proofs.Counting.{record_is_used}
use Rattle.cow_volume.proofs.Group.{slice_get-set_same, slice_get-set_other, length-slice_set, slice_get_inside, slice_get_map, same_number}
use Rattle.cow_volume.proofs.MakingRoom.{keeps_newest, newest_most, none_after, sets_after}
use Rattle.cow_volume.proofs.Rows.{has_slot, has_from_slot, lacks_newest}
use Rattle.cow_volume.proofs.Ties.{free_is, lacks_some, newest_above}
use Rattle.image_store.specs.Ordering.{marked_in}
use Rattle.image_store.specs.Copying.{AreCopied, AreCopiedTo, HasCopiesOf, IsAreaSame, IsInUse, IsStoppedAt, KeepsCopies}
use Rattle.image_store.proofs.Opens.{at_or_below}

-- ## How many blocks are marked, counted block by block.

pub marked_none : (differs : List Bool) → marked_in 0 differs ≡ 0
marked_none differs = refl

pub marked_few : (differs : List Bool) (k : ℕ) → marked_in k differs ≤ k
marked_few differs k = grind (arith, count_by-le-length (λ mark. mark) (take k differs), length-take k differs)

marked_at : (differs : List Bool) (k : ℕ) (mark : Bool) → k < length differs → get_or differs k mark ≡ mark
    → marked_in (k + 1) differs ≡ marked_in k differs + (if mark then 1 else 0)
marked_at differs k true within is = count_by_more_yes (λ mark. mark) differs k true within is
marked_at differs k false within is = let same = count_by_more_no (λ mark. mark) differs k false within is in omega arith

past_end : (differs : List Bool) (k : ℕ) → length differs ≤ k → marked_in (k + 1) differs ≡ marked_in k differs + 0
past_end differs k low = grind (arith, take_all k differs low, take_all (k + 1) differs (omega arith))

pub marked_more : (differs : List Bool) (k : ℕ) → marked_in (k + 1) differs ≡ marked_in k differs + (if unwrap_or (slice_get differs k) false then 1 else 0)
marked_more differs k = elim (slice_get_cases differs k).1 [
  | inl here ↦ rw here.2 (marked_at differs k here.0 here.1 here.3)
  | inr past ↦ rw past.1 (past_end differs k past.0)
]

-- ## What the passes of an update make of the copies.

-- ## nothing changes

pub area_itself : {D : Type 0} (told : D → Option (List (List ℕ))) (g : GroupValue D) → IsAreaSame told g g
area_itself told g = record { volumes = refl; images = refl; records = refl; slots = refl }

pub area_quiet : {D : Type 0} (ghosts : Ghosts D) (old new : GroupValue D) → IsQuiet ghosts old new → IsAreaSame ghosts.told old new
area_quiet ghosts old new quiet = record { volumes = quiet.kept.volumes; images = quiet.images; records = quiet.records; slots = quiet.slots }

pub area_kept : {D : Type 0} (told : D → Option (List (List ℕ))) (old new : GroupValue D) → IsAreaSame told old new → KeepsCopies told old new
area_kept told old new same = grind arith

-- ## one call after another

in_use_still : (old new : List Record) (k : ℕ) → length new ≡ length old → ((slot : ℕ) (r : Record) → slice_get old slot ≡ Some r → r ≢ free → slice_get new slot ≡ Some r)
    → IsInUse old k → IsInUse new k
in_use_still old new k number kept held = λ slot is.
    let within = slice_get_within new slot free is in
    let was = slice_get_inside old slot (omega arith) in
    subst (λ (n : ℕ). k ≢ place_of_slot n slot) (sym number) (by_test slot was.0 was.1 is (is_free was.0) refl)
  where
    by_test : (slot : ℕ) (r : Record) → slice_get old slot ≡ Some r → slice_get new slot ≡ Some free → (t : Bool) → is_free r ≡ t → k ≢ place_of_slot (length old) slot
    by_test slot r at is true e = held slot (at ∙ ap Some (free_is r e))
    by_test slot r at is false e =
        let other : r ≢ free = λ f. false≢true (sym e ∙ ap is_free f) in
        absurd (other (same_Some r free (sym (kept slot r at other) ∙ is)))

pub copies_then : {D : Type 0} (a b c : GroupValue D) → HasCopiesOf a b → HasCopiesOf b c → HasCopiesOf a c
copies_then a b c first second = grind arith

pub keeps_then : {D : Type 0} (told : D → Option (List (List ℕ))) (a b c : GroupValue D) → KeepsCopies told a b → KeepsCopies told b c → KeepsCopies told a c
keeps_then told a b c first second = record {
  copies = copies_then a b c first.copies second.copies;
  slots = record {
    blocks = λ before is.
        let one = first.slots.blocks before is in
        let two = second.slots.blocks one.0 one.1 in (
          two.0,
          two.1,
          record {
            number = two.2.number ∙ one.2.number;
            same = λ k held. two.2.same k (in_use_still a.area.records b.area.records k first.copies.number first.copies.records held) ∙ one.2.same k held;
          },
        );
  };
}

-- ## one block is put

pub put_keeps : {D : Type 0} (told : D → Option (List (List ℕ))) (old new : GroupValue D) (v b : ℕ) (r : Result Unit Cause) → IsAreaPut told old new v b r → new.images ≡ old.images
    → new.area.volumes ≡ old.area.volumes → KeepsCopies told old new
put_keeps told old new v b r broken images volumes = grind (arith, area_kept, length-slice_set, slice_get-set_other, same_Some)

has_noted : (records : List Record) (v : ℕ) (sets : List ℕ) (b slot : ℕ) → 0 < length sets → slice_get records slot ≡ Some (record_of v (newest sets) b) → lacks_copy records v sets b ≡ false
has_noted records v sets b slot some at = lacks_newest records v sets b some ∙ ap not (has_from_slot records (record_of v (newest sets) b) slot at)

pub put_has : {D : Type 0} (told : D → Option (List (List ℕ))) (old new : GroupValue D) (v b : ℕ) (done : Unit {0}) → IsAreaPut told old new v b (Ok done) → new.images ≡ old.images
    → lacks_copy new.area.records v (sets_at new v) b ≡ false
put_has told old new v b done (inl none) images = (grind (arith, none.records)) ∙ none.has
put_has told old new v b done (inr one) images =
    let there : slice_get new.area.records one.slot ≡ Some (record_of v (newest (sets_at old v)) b) = grind (arith, slice_get-set_same) in
    ap (λ (s : List ℕ). lacks_copy new.area.records v s b) (ap (λ (i : List (List ℕ)). sets_in (slice_get i v)) images)
    ∙ has_noted new.area.records v (sets_at old v) b one.slot (lacks_some old.area.records v (sets_at old v) b one.copy.lacks) there

-- one slot more is used
used_noted : (records : List Record) (slot : ℕ) (r : Record) → slice_get records slot ≡ Some free → is_free r ≡ false → used_in (noted slot r records) ≡ used_in records + 1
used_noted [] slot r at used = cc
used_noted (q ∷ rs) zero r at used =
    let was : q ≡ free = cc in
    one_more (used_in (r ∷ rs)) (used_in (q ∷ rs)) (if not (is_free r) then 1 else 0) (if not (is_free q) then 1 else 0) (used_in rs)
    (sum_by-cons (λ (x : Record). if not (is_free x) then 1 else 0) r rs) (sum_by-cons (λ (x : Record). if not (is_free x) then 1 else 0) q rs)
    (ap (λ (t : Bool). if not t then 1 else 0) used) (ap (λ (x : Record). if not (is_free x) then 1 else 0) was)
  where
    one_more : (new old a b rest : ℕ) → new ≡ a + rest → old ≡ b + rest → a ≡ 1 → b ≡ 0 → new ≡ old + 1
    one_more new old a b rest e f one none = omega arith
used_noted (q ∷ rs) (suc slot) r at used =
    later (used_in (q ∷ noted slot r rs)) (used_in (q ∷ rs)) (if not (is_free q) then 1 else 0) (used_in (noted slot r rs)) (used_in rs)
    (sum_by-cons (λ (x : Record). if not (is_free x) then 1 else 0) q (noted slot r rs)) (sum_by-cons (λ (x : Record). if not (is_free x) then 1 else 0) q rs) (used_noted rs slot r at used)
  where
    later : (new old a rest_new rest_old : ℕ) → new ≡ a + rest_new → old ≡ a + rest_old → rest_new ≡ rest_old + 1 → new ≡ old + 1
    later new old a rest_new rest_old e f more = omega arith

abbrev pub one_if : Bool → ℕ
one_if t = if t then 1 else 0

pub bool_is : (t : Bool) → from_bool t ≡ one_if t
bool_is t = grind arith

-- whether more are used
pub put_more : {D : Type 0} (told : D → Option (List (List ℕ))) (old new : GroupValue D) (v b : ℕ) (done : Unit {0}) → IsAreaPut told old new v b (Ok done) → AreImages (sets_at old v)
    → used_in new.area.records ≡ used_in old.area.records + one_if (nat_lt (used_in old.area.records) (used_in new.area.records))
put_more told old new v b done x6 are = grind (arith, le-ltb, lacks_some, used_noted, record_is_used, newest_above, lt-ltb)

-- ## copies that stay

-- what has its copy keeps it, where the newest image's record of it is not lost
kept_has : (old new : List Record) (v : ℕ) (sets : List ℕ) (b : ℕ) → AreImages sets
    → ((slot : ℕ) → 0 < newest sets → slice_get old slot ≡ Some (record_of v (newest sets) b) → slice_get new slot ≡ Some (record_of v (newest sets) b))
    → lacks_copy old v sets b ≡ false → lacks_copy new v sets b ≡ false
kept_has old new v [] b are kept has = refl
kept_has old new v (s ∷ rest) b are kept has =
    let sets = s ∷ rest in
    let some : 0 < length sets = omega arith in
    let there = has_slot old (record_of v (newest sets) b) (not_not (has_record old (record_of v (newest sets) b)) (sym (lacks_newest old v sets b some) ∙ has)) in
    has_noted new v sets b there.0 some (kept there.0 (newest_above sets are some) there.1)
  where
    not_not : (t : Bool) → not t ≡ false → t ≡ true
    not_not true e = refl
    not_not false e = absurd (false≢true (sym e))

pub copied_kept : {D : Type 0} (old new : GroupValue D) (v : ℕ) (differs : List Bool) (from to : ℕ) → AreImages (sets_at old v) → HasCopiesOf old new
    → AreCopied old v differs from to → AreCopied new v differs from to
copied_kept old new v differs from to are kept copied = λ b low high marked.
    ap (λ (i : List (List ℕ)). lacks_copy new.area.records v (sets_in (slice_get i v)) b) kept.images
    ∙ kept_has old.area.records new.area.records v (sets_at old v) b are
    (λ slot above at. kept.records slot (record_of v (newest (sets_at old v)) b) at (λ e. let none : newest (sets_at old v) ≡ 0 = ap (λ (r : Record). r.set) e in absurd (omega arith)))
    (copied b low high marked)

-- and where images go: the newest has gone too, or its record stays
gone_has : (records : List Record) (v : ℕ) (sets : List ℕ) (b up_to : ℕ) → AreImages sets → lacks_copy records v sets b ≡ false → lacks_copy (gone_to up_to records) v (after up_to sets) b ≡ false
gone_has records v sets b up_to are has = grind (arith, cases_lt, keeps_newest, kept_has, slice_get_map, none_after, newest_most)

pub copied_gone : {D : Type 0} (full new : GroupValue D) (v : ℕ) (differs : List Bool) (from to up_to : ℕ) → AreImages (sets_at full v) → new ≡ gone_group up_to full → AreCopied full v differs from to
    → AreCopied new v differs from to
copied_gone full new v differs from to up_to are gone copied = grind (arith, sets_after, gone_has)

-- ## the second pass

pub copied_none : {D : Type 0} (told : D → Option (List (List ℕ))) (g : GroupValue D) (v : ℕ) (differs : List Bool) (from counted : ℕ) → counted < 2 ^ 32
    → AreCopiedTo told g g v differs from from counted counted
copied_none told g v differs from counted most = grind (arith, area_kept, area_itself)

-- a volume without images lacks no copy
pub copied_without : {D : Type 0} (told : D → Option (List (List ℕ))) (g : GroupValue D) (v : ℕ) (differs : List Bool) (from to counted : ℕ) → counted < 2 ^ 32 → sets_at g v ≡ []
    → AreCopiedTo told g g v differs from to counted counted
copied_without told g v differs from to counted most none = grind (arith, area_kept, area_itself)

pub sets_kept : {D : Type 0} (old new : GroupValue D) (v : ℕ) → HasCopiesOf old new → AreImages (sets_at old v) → AreImages (sets_at new v)
sets_kept old new v kept are = subst (λ (i : List (List ℕ)). AreImages (sets_in (slice_get i v))) (sym kept.images) are

-- a block that is not marked is passed
pub copied_past : {D : Type 0} (told : D → Option (List (List ℕ))) (old now : GroupValue D) (v : ℕ) (differs : List Bool) (from b before counted : ℕ) → slice_get differs b ≡ Some false
    → AreCopiedTo told old now v differs from b before counted → AreCopiedTo told old now v differs from (b + 1) before counted
copied_past told old now v differs from b before counted unmarked so = grind (arith, at_or_below)

-- a block is copied
pub copied_more : {D : Type 0} (told : D → Option (List (List ℕ))) (old now new : GroupValue D) (v : ℕ) (differs : List Bool) (from b before counted counted_now : ℕ) (more : Bool)
    → AreImages (sets_at old v) → AreCopiedTo told old now v differs from b before counted → KeepsCopies told now new → lacks_copy new.area.records v (sets_at new v) b ≡ false
    → used_in new.area.records ≡ used_in now.area.records + one_if more → counted_now ≡ min (counted + one_if more) (2 ^ 32 - 1)
    → AreCopiedTo told old new v differs from (b + 1) before counted_now
copied_more told old now new v differs from b before counted counted_now more are so kept has used counts = record {
  kept = keeps_then told old now new so.kept kept;
  copied = λ k low high marked. by_place k low marked (at_or_below k b high);
  counts = record {
    more = so.counts.more + one_if more;
    used = let was = so.counts.used in omega arith;
    counted = counts ∙ added before so.counts.more counted (one_if more) so.counts.counted;
  };
} where
  by_place : (k : ℕ) → from ≤ k → slice_get differs k ≡ Some true → (k ≡ b) ⊎ (k < b) → lacks_copy new.area.records v (sets_at new v) k ≡ false
  by_place k low marked (inl e) = ap (λ j. lacks_copy new.area.records v (sets_at new v) j) e ∙ has
  by_place k low marked (inr m) = copied_kept now new v differs from b (sets_kept old now v so.kept.copies are) kept.copies so.copied k low m marked

  added : (before more counted one : ℕ) → counted ≡ min (before + more) (2 ^ 32 - 1) → min (counted + one) (2 ^ 32 - 1) ≡ min (before + (more + one)) (2 ^ 32 - 1)
  added before more counted one e = omega arith

-- after room was made, where no image had to go
pub copied_with_room : {D : Type 0} (told : D → Option (List (List ℕ))) (old now room new : GroupValue D) (v : ℕ) (differs : List Bool) (from b before counted counted_now up_to : ℕ) (more : Bool)
    → AreImages (sets_at old v) → AreCopiedTo told old now v differs from b before counted → HasRoom told now room v b up_to → up_to ≤ 0 → KeepsCopies told room new
    → lacks_copy new.area.records v (sets_at new v) b ≡ false → used_in new.area.records ≡ used_in room.area.records + one_if more → counted_now ≡ min (counted + one_if more) (2 ^ 32 - 1)
    → AreCopiedTo told old new v differs from (b + 1) before counted_now
copied_with_room {D = D} told old now room new v differs from b before counted counted_now up_to more are so made none kept has used counts =
    let same : room ≡ now = made.none (omega arith) in
    copied_more told old now new v differs from b before counted counted_now more are so (subst (λ (g : GroupValue D). KeepsCopies told g new) same kept) has
    (used ∙ ap (λ (g : GroupValue D). used_in g.area.records + one_if more) same) counts

-- it stopped where images went
pub copied_stopped : {D : Type 0} (told : D → Option (List (List ℕ))) (old now room : GroupValue D) (v : ℕ) (differs : List Bool) (from to b before counted up_to : ℕ) → AreImages (sets_at old v)
    → slice_get differs b ≡ Some true → from ≤ b → b < to → AreCopiedTo told old now v differs from b before counted → HasRoom told now room v b up_to
    → IsStoppedAt told old room v differs from to before counted b up_to
copied_stopped told old now room v differs from to b before counted up_to are marked low high so made = record {
  marked = marked;
  within = (low, high);
  full = now;
  copies = so;
  gone = made.left;
  copied = copied_gone now room v differs from b up_to (sets_kept old now v so.kept.copies are) made.left so.copied;
}

-- a device failed before it was
pub copied_part : {D : Type 0} (told : D → Option (List (List ℕ))) (old now new : GroupValue D) (v : ℕ) (differs : List Bool) (from b before counted : ℕ) → AreImages (sets_at old v)
    → AreCopiedTo told old now v differs from b before counted → KeepsCopies told now new → new.area.records ≡ now.area.records → AreCopiedTo told old new v differs from b before counted
copied_part told old now new v differs from b before counted are so kept records = grind (arith, keeps_then, copied_kept, sets_kept)

pub copied_part_with_room : {D : Type 0} (told : D → Option (List (List ℕ))) (old now room new : GroupValue D) (v : ℕ) (differs : List Bool)
    (from b before counted up_to : ℕ) → AreImages (sets_at old v)
    → AreCopiedTo told old now v differs from b before counted → HasRoom told now room v b up_to → up_to ≤ 0 → KeepsCopies told room new → new.area.records ≡ room.area.records
    → AreCopiedTo told old new v differs from b before counted
copied_part_with_room {D = D} told old now room new v differs from b before counted up_to are so made none kept records =
    let same : room ≡ now = made.none (omega arith) in
    copied_part told old now new v differs from b before counted are so (subst (λ (g : GroupValue D). KeepsCopies told g new) same kept) (records ∙ ap (λ (g : GroupValue D). g.area.records) same)

-- all are
pub copied_all : {D : Type 0} (told : D → Option (List (List ℕ))) (old now : GroupValue D) (v : ℕ) (differs : List Bool) (from to b before counted : ℕ)
    → ((k : ℕ) → k < to → slice_get differs k ≡ Some true → k < b) → AreCopiedTo told old now v differs from b before counted → AreCopiedTo told old now v differs from to before counted
copied_all told old now v differs from to b before counted past so = grind arith

pub none_in : (sets : List ℕ) → (length sets == 0) ≡ true → sets ≡ []
none_in [] e = refl
none_in (s ∷ sets) e = let none = same_number (length (s ∷ sets)) 0 e in absurd (omega arith)

-- ## the third pass

-- no image goes for one that has its copy
pub none_goes : {D : Type 0} (told : D → Option (List (List ℕ))) (old room : GroupValue D) (v b up_to : ℕ) → lacks_copy old.area.records v (sets_at old v) b ≡ false → HasRoom told old room v b up_to
    → up_to ≡ 0
none_goes told old room v b up_to has made = made.needless (ap (λ t. t && is_full old.area.records) has)

pub area_has : {D : Type 0} (told : D → Option (List (List ℕ))) (old now : GroupValue D) (v : ℕ) (differs : List Bool) (from to b : ℕ)
    → AreCopied old v differs from to → IsAreaSame told old now → from ≤ b → b < to
    → slice_get differs b ≡ Some true → lacks_copy now.area.records v (sets_at now v) b ≡ false
area_has told old now v differs from to b copied same low high marked = (grind (arith, same.records, same.images)) ∙ copied b low high marked

-- so where room is made for a marked block nothing changes
pub area_room : {D : Type 0} (told : D → Option (List (List ℕ))) (old now room : GroupValue D) (v : ℕ) (differs : List Bool) (from to b up_to : ℕ)
    → AreCopied old v differs from to → IsAreaSame told old now → from ≤ b
    → b < to → slice_get differs b ≡ Some true → HasRoom told now room v b up_to → (up_to ≡ 0) × IsAreaSame told old room × (lacks_copy room.area.records v (sets_at room v) b ≡ false)
area_room told old now room v differs from to b up_to copied before low high marked made = grind (arith, area_has, none_goes)

pub area_put : {D : Type 0} (told : D → Option (List (List ℕ))) (old now room new : GroupValue D) (v : ℕ) (differs : List Bool) (from to b up_to : ℕ)
    (r : Result Unit Cause) → AreCopied old v differs from to
    → IsAreaSame told old now → from ≤ b → b < to → slice_get differs b ≡ Some true → HasRoom told now room v b up_to → IsAreaPut told room new v b r → new.images ≡ room.images
    → new.area.volumes ≡ room.area.volumes → IsAreaSame told old new
area_put told old now room new v differs from to b up_to r copied before low high marked made area images volumes = grind (arith, area_room)
