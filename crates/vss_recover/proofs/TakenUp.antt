-- The overlay that is taken up again, record after record, is known by the copies in its slots.
use Rattle.std.proofs.Common.{◌≡◌, ◌<◌, ◌≤◌, ◌+◌, ℕ, zero, suc, List, [], ◌∷◌, length, map, refl, ap, sym, subst, ◌∙◌, arith, Bool, true, false, Option, Some}
use Rattle.std.proofs.Common.{None, inl, inr, All, IsPermutation, rules}
use Rattle.std.proofs.lemmas.Bool.{false≢true, lt-ltb}
use Rattle.std.proofs.lemmas.Bool.Decides.{nat_tests}
use Rattle.std.proofs.lemmas.Grind.{common_steps}
use Rattle.std.proofs.lemmas.List.Edits.{length-insert}
use Rattle.std.proofs.lemmas.List.Elements.{All-nil, All-head, All-tail, filter_passes}
use Rattle.std.proofs.lemmas.List.Sorted.{Contains-permutation, IsPermutation-refl, IsPermutation-sym}
use Rattle.std.proofs.lemmas.Option.{none-some, same_Some, get_or_from_slice_get, slice_get_within}
use Rattle.std.specs.List.{insert}
use Rattle.std.specs.Prelude.{Result, IfOk, slice_get, slice_set, if◌then◌else◌, nat_lt, ◌==◌, slice_index_or, is_some, IfSome}
use Rattle.volume_device.specs.InMemory.{AreBlocks}
use Rattle.write_history.specs.History.{History, Write, names, last_bytes}
use Rattle.write_history.specs.Slots.{Copy}
use Rattle.diff_map.specs.Copies.{copied_at, copy_of, HasCopy}
use Rattle.diff_map.specs.Links.{IsIndex}
use Rattle.diff_map.specs.declared.copied.Copied.{Copied}
use Rattle.diff_map.specs.declared.entry.Entry.{Entry}
use Rattle.diff_map.proofs.Noting.{IsIndex-noted}
use Rattle.diff_area.specs.AreaValue.{AreaValue}
use Rattle.diff_area.specs.Copies.{copies_from, AreHeld}
use Rattle.diff_area.specs.Format.{place_of_slot, blocks_for, is_free, AreRecords}
use Rattle.diff_area.specs.declared.table_record.Record.{Record}
use Rattle.cow_volume.specs.Calls.{is_among, sets_in}
use Rattle.cow_volume.specs.StandsFor.{GroupValue, record_of}
use Rattle.cow_volume.specs.OneVolume.{StandsForOne, blocks_of, image_sets}
use Rattle.cow_volume.specs.Resuming.{AllHaveImages, mixed, unnoted}
use Rattle.cow_volume.specs.Parts.{copied_for}
use Rattle.cow_volume.specs.declared.resume_fault.ResumeFault.{ResumeFault}
use Rattle.cow_volume.specs.declared.resume_fault.ResumeFault.TheVariants.{NoImage, OutOfMemory}
use Rattle.cow_volume.proofs.Counting.{record_is_used, used_record}
use Rattle.cow_volume.proofs.Group.{same_number, number_is, slice_get_inside}
use Rattle.cow_volume.proofs.Members.{Has, has_at, place_of}
use Rattle.cow_volume.proofs.Rows.{mixed-all, mixed-set, mixed-same, mixed-from, copied_for-is, copied_for-free, record-from, same_record}
use Rattle.cow_volume.proofs.Named.{key}
use Rattle.cow_volume.proofs.Stored.{held, is-held, has-held}
use Rattle.cow_volume.proofs.TakingUp.{noted_before}
use Rattle.cow_volume.proofs.Ties.{free_is}
use Rattle.vss_recover.specs.OverlayCalls.{IsNotedIn}
use Rattle.vss_recover.specs.RecoverValue.{RecoverValue, StandsFor, IsOverlay}
use Rattle.vss_recover.specs.Recoveries.{Recovery, Recovering, recovered, kept_final, IsOfImages}
use Rattle.vss_recover.specs.Syncing.{IsRefused, taken_up, unopened, HasCopiesOf}
use Rattle.vss_recover.proofs.Overlays.{filter-all}
use Rattle.vss_recover.proofs.Standing.{sets_are}
use Rattle.vss_recover.proofs.UsedSlots.{each_used}

-- ## The ordered list of the used slots of an overlay that is taken up again, record after record; and recovery writes that are those of
-- its records, with bytes of which nothing is said.

-- ## the list of the used slots

-- the rows of the first k records
abbrev pub rows_to : ℕ → List Record → List (Option Copied)
rows_to k records = mixed (copied_for 0) unnoted k records

none_yet : (records : List Record) (slot : ℕ) (c : Copied) → copied_at (map unnoted records) slot ≡ Some c → ⊥
none_yet [] slot c e = none-some c e
none_yet (r ∷ rs) zero c e = none-some c e
none_yet (r ∷ rs) (suc slot) c e = none_yet rs slot c e

pub index_begun : (entries : List Entry) (records : List Record) → entries ≡ [] → IsIndex entries (rows_to 0 records)
index_begun entries records none = grind (arith, common_steps, none_yet records)

pub index_all : (entries : List Entry) (records : List Record) (k : ℕ) → length records ≤ k → IsIndex entries (rows_to k records) → IsIndex entries (map (copied_for 0) records)
index_all entries records k past is = subst (λ (rows : List (Option Copied)). IsIndex entries rows) (mixed-all (copied_for 0) unnoted k records past) is

-- the next record is free
pub index_same : (entries : List Entry) (records : List Record) (k : ℕ) (r : Record) → slice_get records k ≡ Some r → is_free r ≡ true → IsIndex entries (rows_to k records)
    → IsIndex entries (rows_to (k + 1) records)
index_same entries records k r at empty is = grind (arith, common_steps, mixed-same (copied_for 0) unnoted k records r, free_is r empty, copied_for-free 0)

module _ (volumes : List ℕ) (records : List Record) (one : length volumes ≡ 1) (are : AreRecords volumes records) (k : ℕ) (r : Record) (at : slice_get records k ≡ Some r)
    (is_used : is_free r ≡ false) where
  used : (0 < r.set) × (r.volume ≡ 0)
  used = grind (arith, each_used)

  row : slice_get (rows_to k records) k ≡ Some None
  row = mixed-from (copied_for 0) unnoted k records k r (omega arith) at

  -- no record before is of the same block of the same image
  lacks : HasCopy (rows_to k records) r.set r.block → ⊥
  lacks has = grind (arith, noted_before, record-from, same_record, used, used_record)

  -- its slot is noted in its place
  index_noted : (entries later : List Entry) → IsIndex entries (rows_to k records) → IsNotedIn entries later k r → IsIndex later (rows_to (k + 1) records)
  index_noted entries later index is =
      let next : slice_set (rows_to k records) k (Some (copy_of r.set r.block)) ≡ rows_to (k + 1) records =
      ap (slice_set (rows_to k records) k) (sym (copied_for-is 0 r used.0 used.1)) ∙ sym (mixed-set (copied_for 0) unnoted k records r at) in
      subst (λ (es : List Entry). IsIndex es (rows_to (k + 1) records)) (sym is.items)
      (subst (λ (rows : List (Option Copied)). IsIndex (insert entries is.at (record { block = r.block; set = r.set; slot = k })) rows) next
      (IsIndex-noted entries (rows_to k records) k r.set r.block is.at index row lacks is.narrow is.within is.before is.onward))

one_longer : (entries later : List Entry) (k : ℕ) (r : Record) → length entries ≤ k → IsNotedIn entries later k r → length later ≤ k + 1
one_longer entries later k r few is = grind (arith, length-insert)

-- the entries after so many records
pub record AreNoted (records : List Record) (k : ℕ) (entries : List Entry) : Type 0 where
  pub index : IsIndex entries (rows_to k records)
  pub few : length entries ≤ k

free_next : (records : List Record) (k : ℕ) (r : Record) (entries : List Entry) → slice_get records k ≡ Some r → is_free r ≡ true → AreNoted records k entries → AreNoted records (k + 1) entries
free_next records k r entries at e was = record { index = index_same entries records k r at e was.index; few = let few = was.few in omega arith }

used_next : (volumes : List ℕ) (records : List Record) (k : ℕ) (r : Record) (entries later : List Entry) → length volumes ≡ 1 → AreRecords volumes records → slice_get records k ≡ Some r
    → is_free r ≡ false
    → AreNoted records k entries → IsNotedIn entries later k r → AreNoted records (k + 1) later
used_next volumes records k r entries later one are at e was noted = search (rules, index_noted, one_longer)

-- one record more
pub noted_next : (volumes : List ℕ) (records : List Record) (k : ℕ) (r : Record) (entries later : List Entry) → length volumes ≡ 1 → AreRecords volumes records → slice_get records k ≡ Some r
    → (is_free r ≡ true → later ≡ entries) → (is_free r ≡ false → IsNotedIn entries later k r) → AreNoted records k entries → AreNoted records (k + 1) later
noted_next volumes records k r entries later one are at same noted was = by_test (is_free r) refl where
  by_test : (t : Bool) → is_free r ≡ t → AreNoted records (k + 1) later
  by_test true e = subst (λ (es : List Entry). AreNoted records (k + 1) es) (sym (same e)) (free_next records k r entries at e was)
  by_test false e = used_next volumes records k r entries later one are at e was (noted e)

-- ## recovery writes of the records

-- a recovery write of a block, with bytes that nothing is said of
abbrev unknown : ℕ → Write
unknown b = record { block = b; bytes = [] }

abbrev one_made : Record → Recovery
one_made r = record { set = r.set; writer = 0; write = unknown r.block }

abbrev made : List Record → List Recovery
made [] = []
made (r ∷ rs) = if nat_lt 0 r.set then one_made r ∷ made rs else made rs

more_made : (t : Bool) (r : Record) (rs : List Record) (set b : ℕ) → names (recovered set (made rs)) b ≡ true → names (recovered set (if t then one_made r ∷ made rs else made rs)) b ≡ true
more_made t r rs set b e = grind arith

made_named : (set b slot : ℕ) (records : List Record) → 0 < set → slice_get records slot ≡ Some (record_of 0 set b) → names (recovered set (made records)) b ≡ true
made_named set b slot [] above at = absurd (none-some (record_of 0 set b) at)
made_named set b zero (r ∷ rs) above at = grind (arith, common_steps, same_Some, lt-ltb, number_is)
made_named set b (suc slot) (r ∷ rs) above at = more_made (nat_lt 0 r.set) r rs set b (made_named set b slot rs above at)

-- a slot has a record of the block of the image of a set
pub record HasBlock (records : List Record) (set b : ℕ) : Type 0 where
  pub slot : ℕ
  pub row : Record
  pub at : slice_get records slot ≡ Some row
  pub above : 0 < row.set
  pub set_is : row.set ≡ set
  pub block_is : row.block ≡ b

block_next : (r : Record) (rs : List Record) (set b : ℕ) → HasBlock rs set b → HasBlock (r ∷ rs) set b
block_next r rs set b has = record { slot = suc has.slot; row = has.row; at = has.at; above = has.above; set_is = has.set_is; block_is = has.block_is }

block_here : (r : Record) (rs : List Record) (set b : ℕ) → nat_lt 0 r.set ≡ true → (r.set == set) ≡ true → (r.block == b) ≡ true → HasBlock (r ∷ rs) set b
block_here r rs set b some own is = grind arith

-- a block that they name has a record
made_recorded : (set b : ℕ) (records : List Record) → names (recovered set (made records)) b ≡ true → HasBlock records set b
made_recorded set b [] e = absurd (false≢true e)
made_recorded set b (r ∷ rs) e = grind (arith, common_steps, block_next, block_here, made_recorded set b rs)

all_if : (P : Recovery → Type 0) (t : Bool) (r : Recovery) (rs : List Recovery) → (t ≡ true → P r) → All P rs → All P (if t then r ∷ rs else rs)
all_if x0 t r rs here rest = grind arith

made_of_images : (sets : List ℕ) (records : List Record) → ((slot : ℕ) (r : Record) → slice_get records slot ≡ Some r → nat_lt 0 r.set ≡ true → is_among r.set sets ≡ true)
    → All (λ (r : Recovery). is_among r.set sets ≡ true) (made records)
made_of_images sets [] each = All-nil (λ (r : Recovery). is_among r.set sets ≡ true)
made_of_images sets (r ∷ rs) each =
    all_if (λ (q : Recovery). is_among q.set sets ≡ true) (nat_lt 0 r.set) (one_made r) (made rs) (each 0 r refl) (made_of_images sets rs (λ slot q at. each (suc slot) q at))

-- a record that is not free is of an image
pub image_there : (sets : List ℕ) (volumes : List ℕ) (records : List Record) → length volumes ≡ 1 → AreRecords volumes records → AllHaveImages records (sets ∷ [])
    → (slot : ℕ) (r : Record) → slice_get records slot ≡ Some r → nat_lt 0 r.set ≡ true → is_among r.set sets ≡ true
image_there sets volumes records one are have slot r at some = elim (each_used volumes records one are slot r at) [
  | inl empty ↦ (let zero_set = ap (λ (x : Record). x.set) empty in let above : 0 < r.set = grind (arith, nat_tests) in absurd (omega arith))
  | inr both ↦ sym (ap (λ v. is_among r.set (sets_in (slice_get (sets ∷ []) v))) both.1) ∙ have slot r at (record_is_used r both.0)
]

-- where the overlay's device tells nothing, the volume stands for its history with these
pub made_stand : {D : Type 0} (told : D → Option (List (List ℕ))) (volume : GroupValue D) (overlay : AreaValue D) (final : List ℕ) (h : History) → overlay.volumes ≡ blocks_of volume ∷ []
    → AreRecords overlay.volumes overlay.records → AllHaveImages overlay.records (image_sets volume ∷ [])
    → told overlay.device ≡ None → StandsForOne told volume h → (r : Recovering) × (r.volume ≡ h) × StandsFor told (taken_up volume overlay final) r
made_stand told volume overlay final h fits are have none stood =
    let one : length overlay.volumes ≡ 1 = ap length fits in
    let with_made : Recovering = record { volume = h; recoveries = made overlay.records; window = None; claims = []; final = kept_final (image_sets volume) final } in
    let unread : IsOverlay None overlay.records (blocks_of volume) (made overlay.records) = record {
      named = λ slot set b above at. made_named set b slot overlay.records above at;
      recorded = λ set b above low named.
          let from = made_recorded set b overlay.records named in
          let at_zero : from.row.volume ≡ 0 = elim (each_used overlay.volumes overlay.records one are from.slot from.row from.at) [
            | inl empty ↦ (let zero_set = ap (λ (x : Record). x.set) empty in let some = from.above in absurd (omega arith))
            | inr both ↦ both.1
          ] in
          (from.slot, from.at ∙ ap (λ (x : Record). Some x) (same_record from.row (record_of 0 set b) from.set_is from.block_is at_zero));
      copied = λ slot set b above at. tt;
    } in (
      with_made,
      refl,
      record {
        volume = stood;
        overlay = subst (λ (o : Option (List (List ℕ))). IsOverlay o overlay.records (blocks_of volume) (made overlay.records)) (sym none) unread;
        of_images = record {
          recoveries = made_of_images (image_sets volume) overlay.records (λ slot r at some. image_there (image_sets volume) overlay.volumes overlay.records one are have slot r at some);
          window = λ set e. absurd (none-some set e);
          final = filter_passes (λ s. is_among s (image_sets volume)) final;
        };
        window = refl;
        claims = refl;
        final = refl;
      },
    )

-- the parts stood for a history
pub parts_stand : {D : Type 0} (told : D → Option (List (List ℕ))) (volume : GroupValue D) (overlay : AreaValue D) (final : List ℕ) (h : Recovering) → StandsForOne told volume h.volume
    → IsOverlay (told overlay.device) overlay.records (blocks_of volume) h.recoveries → IsOfImages (image_sets volume) h → h.final ≡ final
    → StandsFor told (taken_up volume overlay final) (unopened h)
parts_stand told volume overlay final h stood held of final_is = grind (arith, none-some, filter-all)

-- what is said of a volume is said of its parts
pub of_parts : {D : Type 0} (told : D → Option (List (List ℕ))) (v : RecoverValue D) (volume : GroupValue D) (overlay : AreaValue D) (h : Recovering) → volume ≡ v.volume → overlay ≡ v.overlay
    → StandsFor told v h → StandsFor told (record { volume = volume; overlay = overlay; window = v.window; claims = v.claims; final = v.final }) h
of_parts told v volume overlay h volume_is overlay_is stood = grind arith

-- what holds of a value holds of an answer that is this value
pub of_value : {X E : Type 0} (P : X → Type 0) (r : Result X E) (x : X) → IfOk r (λ v. v ≡ x) → P x → IfOk r P
of_value x0 r x is holds = grind arith

-- ## never refused

recovered_among : (sets : List ℕ) (set b : ℕ) (rs : List Recovery) → All (λ (r : Recovery). is_among r.set sets ≡ true) rs → names (recovered set rs) b ≡ true → is_among set sets ≡ true
recovered_among sets set b [] all e = absurd (false≢true e)
recovered_among sets set b (r ∷ rs) all e =
    by_test (r.set == set) refl e (λ more. recovered_among sets set b rs (All-tail (λ (q : Recovery). is_among q.set sets ≡ true) r rs all) more) where
      by_test : (t : Bool) → (r.set == set) ≡ t → names (if t then r.write ∷ recovered set rs else recovered set rs) b ≡ true
          → (names (recovered set rs) b ≡ true → is_among set sets ≡ true) → is_among set sets ≡ true
      by_test true same e rest = ap (λ n. is_among n sets) (sym (same_number r.set set same)) ∙ All-head (λ (q : Recovery). is_among q.set sets ≡ true) r rs all
      by_test false other e rest = rest e

-- an overlay of recovery writes of these images is taken up
pub never_refused : (slots : Option (List (List ℕ))) (sets volumes : List ℕ) (records : List Record) (n : ℕ) (h : Recovering) (fault : ResumeFault) → length volumes ≡ 1
    → AreRecords volumes records → IsOverlay slots records n h.recoveries → IsOfImages sets h → IsRefused records (sets ∷ []) fault → fault ≡ OutOfMemory
never_refused slots sets volumes records n h OutOfMemory one are over of refused = refl
never_refused slots sets volumes records n h (NoImage slot set) one are over of refused =
    let r = refused.row in
    let fact = recovered_among sets r.set r.block h.recoveries of.recoveries in
    grind (arith, common_steps, each_used volumes records one are slot r refused.row_is, same_record r (record_of 0 r.set r.block) refl refl)

-- ## An overlay is known by the copies in its slots: an area whose slots have the same ones, in whatever slots, is an overlay of the same
-- recovery writes.

moved : {X : Type 0} (x : X) (xs ys : List X) → IsPermutation xs ys → Has x xs → Has x ys
moved x xs ys same h =
    let at = place_of xs x h in
    let there = Contains-permutation xs ys x same (at.0, slice_get_within xs at.0 x at.1, get_or_from_slice_get xs at.0 x x at.1) in
    let found = slice_get_inside ys there.0 there.1 in
    has_at ys there.0 x (found.1 ∙ ap (λ y. Some y) (sym (get_or_from_slice_get ys there.0 found.0 x found.1) ∙ there.2))

-- ## one slot

abbrev slot_in : List (List ℕ) → List Record → ℕ → List ℕ
slot_in blocks records slot = slice_index_or blocks (place_of_slot (length records) slot) []

-- a slot has these bytes, for block b of the image of a set
record HasSlot (blocks : List (List ℕ)) (records : List Record) (set b : ℕ) (bytes : List ℕ) : Type 0 where
  slot : ℕ
  row : slice_get records slot ≡ Some (record_of 0 set b)
  bytes_are : slot_in blocks records slot ≡ bytes

same_slot : (xs ys : List (List ℕ)) (rs qs : List Record) (slot set b : ℕ) → IsPermutation (copies_from 0 rs (slot_in xs rs)) (copies_from 0 qs (slot_in ys qs))
    → 0 < set → slice_get rs slot ≡ Some (record_of 0 set b) → HasSlot ys qs set b (slot_in xs rs slot)
same_slot xs ys rs qs slot set b same above row =
    let c : Copy = held (record_of 0 set b) (slot_in xs rs (0 + slot)) in
    let here = has-held 0 rs (slot_in xs rs) slot (record_of 0 set b) row (record_is_used (record_of 0 set b) above) in
    let of = is-held 0 qs (slot_in ys qs) c (moved c (copies_from 0 rs (slot_in xs rs)) (copies_from 0 qs (slot_in ys qs)) same here) in
    let from_zero : 0 + slot ≡ slot = omega arith in let from_zero_too : of.at ≡ 0 + of.at = omega arith in
    let row_is : of.row ≡ record_of 0 set b = ap key of.is in grind (arith, common_steps)

-- ## all slots

again : (xs ys : List (List ℕ)) (rs qs : List Record) (n : ℕ) (ws : List Recovery) → IsPermutation (copies_from 0 qs (slot_in ys qs)) (copies_from 0 rs (slot_in xs rs))
    → length ys ≡ blocks_for (length qs) → IsOverlay (Some xs) rs n ws → IsOverlay (Some ys) qs n ws
again xs ys rs qs n ws same long is = record {
  named = λ slot set b above row. let its = same_slot ys xs qs rs slot set b same above row in is.named its.slot set b above its.row;
  recorded = λ set b above low name.
      let was = is.recorded set b above low name in
      let back = IsPermutation-sym (copies_from 0 qs (slot_in ys qs)) (copies_from 0 rs (slot_in xs rs)) same in
      let its = same_slot xs ys rs qs was.0 set b back above was.1 in
      (its.slot, its.row);
  copied = λ slot set b above row.
      let its = same_slot ys xs qs rs slot set b same above row in
      let last : List ℕ = last_bytes b [] (recovered set ws) in
      let were : slot_in xs rs its.slot ≡ last = get_or_from_slice_get xs (place_of_slot (length rs) its.slot) last [] (is.copied its.slot set b above its.row) in
      let inside = slice_get_within qs slot (record_of 0 set b) row in
      let at = slice_get_inside ys (place_of_slot (length qs) slot) (omega arith) in
      at.1 ∙ ap (λ (x : List ℕ). Some x) (sym (get_or_from_slice_get ys (place_of_slot (length qs) slot) at.0 [] at.1) ∙ sym its.bytes_are ∙ were);
}

module _ {D : Type 0} (told : D → Option (List (List ℕ))) (size : D → ℕ) where
  loaded_overlay : (was now : AreaValue D) (n : ℕ) (ws : List Recovery) → HasCopiesOf told was now
      → size now.device ≡ blocks_for (length now.records) → IfSome (told now.device) (AreBlocks (size now.device))
      → IsOverlay (told was.device) was.records n ws → IsOverlay (told now.device) now.records n ws
  loaded_overlay was now n ws of fits whole is = by_told (told was.device) (told now.device) of.told_before of.tells of.copies whole is where
    by_told : (s t : Option (List (List ℕ))) → is_some s ≡ true → is_some t ≡ true → ((cs : List Copy) → AreHeld s was.records cs → AreHeld t now.records cs)
        → IfSome t (AreBlocks (size now.device)) → IsOverlay s was.records n ws → IsOverlay t now.records n ws
    by_told None t e f copies blocks over = absurd (false≢true e)
    by_told (Some xs) None e f copies blocks over = absurd (false≢true f)
    by_told (Some xs) (Some ys) e f copies blocks over =
        let cs : List Copy = copies_from 0 was.records (slot_in xs was.records) in
        again xs ys was.records now.records n ws (copies cs (IsPermutation-refl cs)) (blocks.number ∙ fits) over

  -- so a volume that is taken up over it stands for what the volume stood for
  pub loaded_stands : (volume : GroupValue D) (overlay : AreaValue D) (final : List ℕ) → size overlay.device ≡ blocks_for (length overlay.records)
      → IfSome (told overlay.device) (AreBlocks (size overlay.device)) → (was : RecoverValue D) (h : Recovering) → StandsFor told was h → HasCopiesOf told was.overlay overlay
      → blocks_of volume ≡ blocks_of was.volume → final ≡ was.final → StandsForOne told volume h.volume → StandsFor told (taken_up volume overlay final) (unopened h)
  loaded_stands volume overlay final fits whole was h stood of blocks final_is beneath =
      let held_over = loaded_overlay was.overlay overlay (blocks_of was.volume) h.recoveries of fits whole stood.overlay in
      let sets : image_sets was.volume ≡ image_sets volume = sets_are told was.volume h.volume stood.volume ∙ sym (sets_are told volume h.volume beneath) in
      grind (arith, common_steps, parts_stand)
