-- The recovery writes of an image, and what an overlay has in its slots, after a block was put into it, and after images went.
use Rattle.std.proofs.Common.{◌≡◌, ◌⊎◌, ℕ, List, [], ◌∷◌, ◌++◌, refl, ap, ◌∙◌, Bool, true, false, All, arith, ◌≢◌, ◌<◌, ◌+◌, zero, suc, length, sym, subst}
use Rattle.std.proofs.Common.{Option, Some, inl, inr, ◌≤◌, map, not, ◌&&◌}
use Rattle.std.proofs.lemmas.Bool.{and_right}
use Rattle.std.proofs.lemmas.Grind.{common_steps}
use Rattle.std.proofs.lemmas.List.{length-map}
use Rattle.std.proofs.lemmas.List.Elements.{All-head, All-tail}
use Rattle.std.specs.Prelude.{◌==◌, if◌then◌else◌, filter, IfSome, slice_get, slice_set, Result, Ok, Err}
use Rattle.slot_pool.specs.Slots.{free_count}
use Rattle.volume_device.specs.declared.device.Device.{Ghosts}
use Rattle.write_history.specs.History.{Write, last_bytes, names}
use Rattle.diff_area.specs.AreaValue.{AreaValue, KeepsTable}
use Rattle.diff_area.specs.Format.{place_of_slot, free, AreRecords, is_free}
use Rattle.diff_area.specs.declared.table_record.Record.{Record}
use Rattle.cow_volume.specs.Calls.{is_among}
use Rattle.cow_volume.specs.Changes.{has_record}
use Rattle.cow_volume.specs.CopiesAfter.{with_records}
use Rattle.cow_volume.specs.Room.{is_full}
use Rattle.cow_volume.specs.StandsFor.{record_of}
use Rattle.cow_volume.specs.Steps.{put}
use Rattle.cow_volume.proofs.Renewed.{set-same}
use Rattle.cow_volume.proofs.Group.{same_number, number_is, number_is_other, slice_get-set_same, slice_get-set_other, length-slice_set, slice_get_map}
use Rattle.cow_volume.proofs.Merging.{has_found}
use Rattle.cow_volume.proofs.Rows.{map-from}
use Rattle.cow_volume.proofs.Ties.{some_free, not_full_if}
use Rattle.vss_recover.specs.OverlayCalls.{IsChosen, kept_records, IsPut, IsWrittenIn, IsWrittenTo, KeepsRecords, lacks_room}
use Rattle.vss_recover.specs.RecoverValue.{IsOverlay}
use Rattle.vss_recover.specs.Recoveries.{Recovery, recovered, kept}
use Rattle.vss_recover.specs.declared.recover_fault.RecoverFault.{RecoverFault}

-- ## What the recovery writes of an image are after one more, and after images went.

-- ## two pairs of numbers are the same or not

pub pair_or : (s t a b : ℕ) → ((s ≡ t) × (a ≡ b)) ⊎ (s ≡ t → a ≡ b → ⊥)
pair_or s t a b = grind arith

-- ## the last bytes of a block

pub last-push : (b : ℕ) (x : List ℕ) (ws : List Write) (w : Write) → last_bytes b x (ws ++ w ∷ []) ≡ (if w.block == b then w.bytes else last_bytes b x ws)
last-push b x [] w = refl
last-push b x (v ∷ ws) w = last-push b (if v.block == b then v.bytes else x) ws w

pub last_if_named : (b : ℕ) (x y : List ℕ) (ws : List Write) → names ws b ≡ true → last_bytes b x ws ≡ last_bytes b y ws
last_if_named b x y [] e = cc
last_if_named b x y (w ∷ ws) e = grind (arith, common_steps, last_if_named b x y ws)

pub names-push_own : (ws : List Write) (w : Write) → names (ws ++ w ∷ []) w.block ≡ true
names-push_own ws w = grind (arith, common_steps, number_is)

pub names-push_other : (b : ℕ) (ws : List Write) (w : Write) → (w.block == b) ≡ false → names (ws ++ w ∷ []) b ≡ names ws b
names-push_other b ws w e = grind (arith, common_steps)

-- ## one recovery write more

push_if : (t u : Bool) (w v : Write) (xs ys : List Write) → ys ≡ (if u then xs ++ v ∷ [] else xs)
    → (if t then w ∷ ys else ys) ≡ (if u then (if t then w ∷ xs else xs) ++ v ∷ [] else (if t then w ∷ xs else xs))
push_if t u w v xs ys e = grind arith

pub recovered-push : (set : ℕ) (rs : List Recovery) (r : Recovery) → recovered set (rs ++ r ∷ []) ≡ (if r.set == set then recovered set rs ++ r.write ∷ [] else recovered set rs)
recovered-push set [] r = refl
recovered-push set (q ∷ rs) r = push_if (q.set == set) (r.set == set) q.write r.write (recovered set rs) (recovered set (rs ++ r ∷ [])) (recovered-push set rs r)

pub recovered-push_own : (rs : List Recovery) (r : Recovery) → recovered r.set (rs ++ r ∷ []) ≡ recovered r.set rs ++ r.write ∷ []
recovered-push_own rs r = recovered-push r.set rs r ∙ ap (λ (t : Bool). if t then recovered r.set rs ++ r.write ∷ [] else recovered r.set rs) (number_is r.set)

pub recovered-push_other : (set : ℕ) (rs : List Recovery) (r : Recovery) → (r.set == set) ≡ false → recovered set (rs ++ r ∷ []) ≡ recovered set rs
recovered-push_other set rs r e = recovered-push set rs r ∙ ap (λ (t : Bool). if t then recovered set rs ++ r.write ∷ [] else recovered set rs) e

-- its own block is named, and has its bytes
pub own_named : (rs : List Recovery) (r : Recovery) → names (recovered r.set (rs ++ r ∷ [])) r.write.block ≡ true
own_named rs r = ap (λ (ws : List Write). names ws r.write.block) (recovered-push_own rs r) ∙ names-push_own (recovered r.set rs) r.write

pub own_bytes : (rs : List Recovery) (r : Recovery) (x : List ℕ) → last_bytes r.write.block x (recovered r.set (rs ++ r ∷ [])) ≡ r.write.bytes
own_bytes rs r x = grind (arith, recovered-push_own, last-push, number_is)

-- each other block is named and has the bytes as before
pub record Others (set b : ℕ) (rs : List Recovery) (r : Recovery) : Type 0 where
  pub named : names (recovered set (rs ++ r ∷ [])) b ≡ names (recovered set rs) b
  pub bytes : (x : List ℕ) → last_bytes b x (recovered set (rs ++ r ∷ [])) ≡ last_bytes b x (recovered set rs)

pub others_same : (set b : ℕ) (rs : List Recovery) (r : Recovery) → (set ≡ r.set → b ≡ r.write.block → ⊥) → Others set b rs r
others_same set b rs r apart = grind (arith, same_number, number_is_other, recovered-push, names-push_other, last-push, recovered-push_other)

-- ## images that go

not_both : (sets : List ℕ) (a b : ℕ) → is_among a sets ≡ true → is_among b sets ≡ false → (a == b) ≡ false
not_both sets a b e f = number_is_other a b (λ same. (let g : is_among a sets ≡ is_among b sets = ap (λ s. is_among s sets) same in absurd cc))

recovered_other : (set : ℕ) (q : Recovery) (rs : List Recovery) → (q.set == set) ≡ false → recovered set (q ∷ rs) ≡ recovered set rs
recovered_other set q rs e = ap (λ (t : Bool). if t then q.write ∷ recovered set rs else recovered set rs) e

pub recovered-kept : (sets : List ℕ) (set : ℕ) (rs : List Recovery) → is_among set sets ≡ true → recovered set (kept sets rs) ≡ recovered set rs
recovered-kept sets set [] e = refl
recovered-kept sets set (q ∷ rs) e = grind (arith, common_steps, recovered_other, number_is_other, recovered-kept sets set rs e)

pub recovered-gone : (sets : List ℕ) (set : ℕ) (rs : List Recovery) → is_among set sets ≡ false → recovered set (kept sets rs) ≡ []
recovered-gone sets set [] e = refl
recovered-gone sets set (q ∷ rs) e = grind (arith, common_steps, recovered_other, not_both, recovered-gone sets set rs e)

pub none_recovered : (sets : List ℕ) (set : ℕ) (rs : List Recovery) → All (λ (r : Recovery). is_among r.set sets ≡ true) rs → is_among set sets ≡ false → recovered set rs ≡ []
none_recovered sets set [] all e = refl
none_recovered sets set (q ∷ rs) all e =
    recovered_other set q rs (not_both sets q.set set (All-head (λ (r : Recovery). is_among r.set sets ≡ true) q rs all) e)
    ∙ none_recovered sets set rs (All-tail (λ (r : Recovery). is_among r.set sets ≡ true) q rs all) e

-- nothing goes where all is of these images
pub filter-all : {X : Type 0} (p : X → Bool) (xs : List X) → All (λ x. p x ≡ true) xs → filter p xs ≡ xs
filter-all p [] all = refl
filter-all p (x ∷ xs) all =
    ap (λ (t : Bool). if t then x ∷ filter p xs else filter p xs) (All-head (λ x. p x ≡ true) x xs all)
    ∙ ap (λ ys. x ∷ ys) (filter-all p xs (All-tail (λ x. p x ≡ true) x xs all))

-- ## What an overlay has after a block was put into it, and after images went.

-- ## a slot is set

pub number_or : (a b : ℕ) → (a ≡ b) ⊎ (a ≢ b)
number_or a b = grind arith

-- one slot alone has the record of a block of an image, and each other record stands where it stood
pub record IsOneSet (old new : List Record) (slot : ℕ) (r : Record) : Type 0 where
  pub long : length new ≡ length old
  pub at : slice_get new slot ≡ Some r
  pub alone : (k : ℕ) → slice_get new k ≡ Some r → k ≡ slot
  pub from : (k : ℕ) (q : Record) → q ≢ r → slice_get new k ≡ Some q → (k ≢ slot) × (slice_get old k ≡ Some q)
  pub to : (k : ℕ) (q : Record) → q ≢ r → q ≢ free → slice_get old k ≡ Some q → slice_get new k ≡ Some q

pub set_one : (volumes : List ℕ) (records : List Record) (slot : ℕ) (r : Record) → AreRecords volumes records → r ≢ free
    → IsChosen records r slot → IsOneSet records (slice_set records slot r) slot r
set_one volumes records slot r are used was = grind (arith, length-slice_set, number_or, slice_get-set_other, has_found, slice_get-set_same)

-- ## a block is put

pub not_free : (set b : ℕ) → 0 < set → record_of 0 set b ≢ free
not_free set b l e = let none : set ≡ 0 = ap (λ (x : Record). x.set) e in absurd (omega arith)

apart_records : (set b s c : ℕ) → (set ≡ s → b ≡ c → ⊥) → record_of 0 set b ≢ record_of 0 s c
apart_records set b s c apart e = apart (ap (λ (x : Record). x.set) e) (ap (λ (x : Record). x.block) e)

put_at : (blocks : List (List ℕ)) (at : ℕ) (bytes : List ℕ) → at < length blocks → slice_get (slice_set blocks at bytes) at ≡ Some bytes
put_at [] at bytes l = absurd (omega arith)
put_at (x ∷ blocks) zero bytes l = refl
put_at (x ∷ blocks) (suc k) bytes l = put_at blocks k bytes (omega arith)

apart_places : (a k slot : ℕ) → k ≢ slot → a + slot ≢ a + k
apart_places a k slot other e = other (omega arith)

module _ (slots : Option (List (List ℕ))) (records new : List Record) (n slot : ℕ) (rs : List Recovery) (r : Recovery) (is : IsOverlay slots records n rs) (above : 0 < r.set)
    (set_it : IsOneSet records new slot (record_of 0 r.set r.write.block)) (room : IfSome slots (λ blocks. place_of_slot (length records) slot < length blocks)) where
  bytes_at : (o : Option (List (List ℕ))) → IfSome o (λ blocks. place_of_slot (length records) slot < length blocks)
      → IfSome (put (place_of_slot (length records) slot) r.write.bytes o) (λ blocks. slice_get blocks (place_of_slot (length records) slot) ≡ Some r.write.bytes)
  bytes_at o l = grind (arith, put_at)

  bytes_beside : (o : Option (List (List ℕ))) (k : ℕ) (x : List ℕ) → k ≢ slot → IfSome o (λ blocks. slice_get blocks (place_of_slot (length records) k) ≡ Some x)
      → IfSome (put (place_of_slot (length records) slot) r.write.bytes o) (λ blocks. slice_get blocks (place_of_slot (length records) k) ≡ Some x)
  bytes_beside o k x other h = grind (arith, slice_get-set_other, apart_places)

  copied_now : (k set b : ℕ) → 0 < set → slice_get new k ≡ Some (record_of 0 set b)
      → IfSome (put (place_of_slot (length records) slot) r.write.bytes slots) (λ blocks. slice_get blocks (place_of_slot (length records) k) ≡ Some (last_bytes b [] (recovered set (rs ++ r ∷ []))))
  copied_now k set b l e = elim (pair_or set r.set b r.write.block) [
    | inl same ↦ (let record_is : record_of 0 set b ≡ record_of 0 r.set r.write.block = ap (λ s. record_of 0 s b) same.0 ∙ ap (λ c. record_of 0 r.set c) same.1 in
        let here = set_it.alone k (e ∙ ap Some record_is) in
        let bytes : r.write.bytes ≡ last_bytes b [] (recovered set (rs ++ r ∷ [])) = sym (own_bytes rs r []) ∙ ap (λ s. last_bytes r.write.block [] (recovered s (rs ++ r ∷ []))) (sym same.0)
        ∙ ap (λ c. last_bytes c [] (recovered set (rs ++ r ∷ []))) (sym same.1) in
        subst (λ (x : List ℕ). IfSome (put (place_of_slot (length records) slot) r.write.bytes slots) (λ blocks. slice_get blocks (place_of_slot (length records) k) ≡ Some x)) bytes
        (subst (λ (m : ℕ). IfSome (put (place_of_slot (length records) slot) r.write.bytes slots) (λ blocks. slice_get blocks (place_of_slot (length records) m) ≡ Some r.write.bytes)) (sym here)
        (bytes_at slots room)))
    | inr apart ↦ (let before = set_it.from k (record_of 0 set b) (apart_records set b r.set r.write.block apart) e in
        subst (λ (x : List ℕ). IfSome (put (place_of_slot (length records) slot) r.write.bytes slots) (λ blocks. slice_get blocks (place_of_slot (length records) k) ≡ Some x))
        (sym ((others_same set b rs r apart).bytes []))
        (bytes_beside slots k (last_bytes b [] (recovered set rs)) before.0 (is.copied k set b l before.1)))
  ]

  pub put_overlay : IsOverlay (put (place_of_slot (length records) slot) r.write.bytes slots) new n (rs ++ r ∷ [])
  put_overlay = grind (arith, pair_or, own_named, apart_records, others_same, not_free, copied_now)

-- ## images go

pub kept_row : (sets : List ℕ) (records : List Record) (k set b : ℕ) → 0 < set → slice_get (kept_records sets records) k ≡ Some (record_of 0 set b)
    → (slice_get records k ≡ Some (record_of 0 set b)) × (is_among set sets ≡ true)
kept_row sets records k set b l e = grind (arith, map-from, not_free)

pub row_kept : (sets : List ℕ) (records : List Record) (k set b : ℕ) → is_among set sets ≡ true → slice_get records k ≡ Some (record_of 0 set b)
    → slice_get (kept_records sets records) k ≡ Some (record_of 0 set b)
row_kept sets records k set b among at = grind (arith, slice_get_map)

pub keep_overlay : (slots : Option (List (List ℕ))) (records : List Record) (n : ℕ) (sets : List ℕ) (rs : List Recovery) → IsOverlay slots records n rs
    → IsOverlay slots (kept_records sets records) n (kept sets rs)
keep_overlay slots records n sets rs is = grind (arith, kept_row, recovered-kept, length-map, row_kept, recovered-gone)

-- ## What is put into a slot of an overlay.

-- ## there is room

pub room_if_chosen : (records : List Record) (set b slot : ℕ) → IsChosen records (record_of 0 set b) slot → lacks_room records set b ≡ false
room_if_chosen records set b slot was =
    let fact = and_right (not (has_record records (record_of 0 set b))) (is_full records) in
    let fact1 = not_full_if records (free_count (map is_free records)) refl in
    grind (arith, common_steps, has_found records slot (record_of 0 set b), some_free (map is_free records) slot, slice_get_map is_free records slot free)

pub room_if_free : (records : List Record) (set b slot : ℕ) → slice_get records slot ≡ Some free → has_record records (record_of 0 set b) ≡ false → lacks_room records set b ≡ false
room_if_free records set b slot empty none = room_if_chosen records set b slot (inr (empty, none))

pub no_room : (records : List Record) (set b : ℕ) → has_record records (record_of 0 set b) ≡ false → is_full records ≡ true → lacks_room records set b ≡ true
no_room records set b none full = ap (λ (t : Bool). not t && is_full records) none ∙ full

-- ## written

module _ {D : Type 0} (ghosts : Ghosts D) (old mid : AreaValue D) where
  pub written_to : (slot : ℕ) (bytes : List ℕ) → KeepsTable ghosts.size ghosts.lending old mid → ghosts.told mid.device ≡ put (place_of_slot (length old.records) slot) bytes (ghosts.told old.device)
      → ghosts.count mid.device ≡ ghosts.count old.device → ghosts.count old.device ≤ ghosts.count mid.device
      → IsWrittenTo ghosts old mid slot bytes
  written_to slot bytes table told_is same later = grind arith

  pub not_written : KeepsTable ghosts.size ghosts.lending old mid → ghosts.count old.device ≤ ghosts.count mid.device → ghosts.told mid.device ≡ ghosts.told old.device → KeepsRecords ghosts old mid
  not_written table later told_is = grind arith

  -- where a fault is told, nothing was put
  pub not_put : (set b slot : ℕ) (bytes : List ℕ) (fault : RecoverFault) → lacks_room old.records set b ≡ false → IsWrittenIn ghosts old mid slot bytes (Err fault)
      → IsPut ghosts old mid set b bytes (Err fault)
  not_put set b slot bytes fault room is = subst (λ (f : RecoverFault). IsPut ghosts old mid set b bytes (Err f)) (sym is.0) (room, is.1, is.2)

  -- the block's own slot was written
  pub put_over : (set b slot : ℕ) (bytes : List ℕ) (result : Result Unit RecoverFault) → slice_get old.records slot ≡ Some (record_of 0 set b)
      → IsWrittenIn ghosts old mid slot bytes result → IsPut ghosts old mid set b bytes result
  put_over set b slot bytes result own is = grind (arith, room_if_chosen, set-same, not_put)

  -- a free slot was written and noted
  pub put_first : (new : AreaValue D) (set b slot : ℕ) (bytes : List ℕ) → slice_get old.records slot ≡ Some free → has_record old.records (record_of 0 set b) ≡ false
      → IsWrittenTo ghosts old mid slot bytes
      → new ≡ with_records (slice_set mid.records slot (record_of 0 set b)) mid → IsPut ghosts old new set b bytes (Ok tt)
  put_first new set b slot bytes empty none is new_is = grind (arith, room_if_chosen)
