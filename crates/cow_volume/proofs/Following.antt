-- The maps of a group, where that of one volume changes, and the records of a volume that follow its map copy by copy.
use Rattle.std.proofs.Common.{ℕ, ◌≡◌, ◌<◌, ◌≤◌, ◌+◌, ◌-◌, ◌++◌, ◌∷◌, [], List, length, take, All, Some, get_or, slice_get, slice_set, inl, inr, sym, ap, ◌∙◌}
use Rattle.std.proofs.Common.{subst, arith, zero, suc, Bool, true, false, ◌&&◌, map, Option, None, refl}
use Rattle.std.proofs.Math.Seq.{take-suc}
use Rattle.std.proofs.lemmas.Bool.{cases_eq, cases_lt, false≢true}
use Rattle.std.proofs.lemmas.List.{get_or_default, get_or-set_same, get_or-take, length-set, length-take-le, set-get_or, set-set, length-map}
use Rattle.std.proofs.lemmas.Option.{slice_get-get_or, none-some, same_Some, slice_get_within}
use Rattle.std.specs.List.{AllPairs}
use Rattle.std.specs.Prelude.{◌==◌, nat_lt}
use Rattle.diff_map.specs.Copies.{AllTaken, copied_at, copy_of, HasCopy, MapValue, IsMap, AreImages}
use Rattle.diff_map.specs.Counts.{used_for}
use Rattle.diff_map.specs.Groups.{IsOnlyAt, map_at, new_map, with_images, IsHandedDown, with_row}
use Rattle.diff_map.specs.Rules.{next_older, merged}
use Rattle.diff_map.specs.declared.copied.Copied.{Copied}
use Rattle.diff_map.specs.declared.entry.Entry.{Entry}
use Rattle.diff_map.specs.declared.going.Going.{Going}
use Rattle.diff_map.specs.declared.handed_down.HandedDown.{HandedDown}
use Rattle.diff_map.proofs.Counting.{used_out}
use Rattle.diff_map.proofs.Images.{next_older_is, next_older_reaches}
use Rattle.diff_map.proofs.Renewing.{FreesMapUpTo, IsRenewingMap, handing_was, handing_frees, handing_moves, handing_smaller, has_now}
use Rattle.diff_area.specs.AreaValue.{AreaValue}
use Rattle.diff_area.specs.Format.{free}
use Rattle.diff_area.specs.declared.table_record.Record.{Record}
use Rattle.cow_volume.specs.CopiesAfter.{with_records}
use Rattle.cow_volume.specs.Changes.{record_for, followed_row, followed}
use Rattle.cow_volume.specs.StandsFor.{record_of}
use Rattle.cow_volume.specs.Parts.{copied_for}
use Rattle.cow_volume.proofs.Renewed.{follows-of, follows-other, length-followed, followed_at}
use Rattle.cow_volume.proofs.Rows.{record_of_row, both_from, of_volume, get_inside}

-- ## The maps of a group, where that of one volume changes.

pub get_map : (maps : List MapValue) (v : ℕ) → v < length maps → slice_get maps v ≡ Some (map_at maps v)
get_map maps v inside = slice_get-get_or maps v (new_map 0 0) inside

-- the maps are as they were but for that of the volume, which is this now
pub map_now : (maps new : List MapValue) (v : ℕ) (n : MapValue) → v < length maps → new ≡ slice_set maps v n → map_at new v ≡ n
map_now maps new v n inside is = ap (λ (ms : List MapValue). map_at ms v) is ∙ get_or-set_same maps v n (new_map 0 0) inside

pub valid_now : (maps new : List MapValue) (v : ℕ) (n : MapValue) → v < length maps → new ≡ slice_set maps v n → IsMap (map_at new v) → IsMap n
valid_now maps new v n inside is valid = subst IsMap (map_now maps new v n inside is) valid

pub only-none : (v : ℕ) (maps : List MapValue) → IsOnlyAt v maps maps
only-none v maps = sym (set-get_or maps v (new_map 0 0))

-- one change after another
pub set_after : (v : ℕ) (maps mid new : List MapValue) (n : MapValue) → IsOnlyAt v maps mid → new ≡ slice_set mid v n → new ≡ slice_set maps v n
set_after v maps mid new n only is = is ∙ ap (λ (ms : List MapValue). slice_set ms v n) only ∙ set-set maps v (map_at mid v) n

pub only-more : (v : ℕ) (maps mid new : List MapValue) → IsOnlyAt v maps mid → IsOnlyAt v mid new → IsOnlyAt v maps new
only-more v maps mid new only more = set_after v maps mid new (map_at new v) only more

-- ## the images of a volume are added one after another

module _ (first maps : List MapValue) (v k : ℕ) (sets : List ℕ) (inside : v < length first) (rise : AreImages sets) (more : k < length sets)
    (is : maps ≡ slice_set first v (with_images (take k sets) (map_at first v))) where
  adding_now : map_at maps v ≡ with_images (take k sets) (map_at first v)
  adding_now = map_now first maps v (with_images (take k sets) (map_at first v)) inside is

  adding_is : (map_at maps v).images ≡ take k sets
  adding_is = ap (λ (m : MapValue). m.images) adding_now

  pub adding_inside : v < length maps
  adding_inside = let l = ap length is ∙ length-set first v (with_images (take k sets) (map_at first v)) in omega arith

  pub adding_room : length (map_at maps v).images < 512
  adding_room = let l = ap length adding_is ∙ length-take-le k sets (omega arith) in let few = rise.few in omega arith

  pub adding_newest : All (λ image. image < get_or sets k 0) (map_at maps v).images
  adding_newest = subst (λ (xs : List ℕ). All (λ image. image < get_or sets k 0) xs) (sym adding_is) (λ j d low.
      let l = length-take-le k sets (omega arith) in
      let same = get_or-take k sets j d (omega arith) in
      let default = get_or_default sets j d 0 (omega arith) in
      let less = rise.ascend j k 0 (omega arith) more in
      omega arith)

  pub adding_more : (new : List MapValue) → new ≡ slice_set maps v (with_images ((map_at maps v).images ++ get_or sets k 0 ∷ []) (map_at maps v))
      → new ≡ slice_set first v (with_images (take (k + 1) sets) (map_at first v))
  adding_more new new_is = grind (arith, adding_now, set-set, take-suc)

-- ## the place of an image

-- the next older image than one of them is the one before it
pub next_older_at : (images : List ℕ) (at set : ℕ) → AllPairs (λ older newer. older < newer) images → at < length images → 0 < at → get_or images at 0 ≡ set
    → next_older images set ≡ Some (get_or images (at - 1) 0)
next_older_at images at set rise inside above is =
    let before : get_or images (at - 1) 0 < get_or images at 0 = rise (at - 1) at 0 (omega arith) inside in
    let there = get_or_default images (at - 1) (get_or images (at - 1) 0) 0 (omega arith) in
    let reached = next_older_reaches images set (get_or images (at - 1) 0) rise (at - 1, omega arith, there) (omega arith) in
    let low = reached.2 in
    let found = next_older_is images set reached.0 reached.1 in
    let under = found.0 in
    let k = found.1.0 in
    let within = found.1.1 in
    let at_k : get_or images k reached.0 ≡ reached.0 = found.1.2 in
    let default = get_or_default images k 0 reached.0 within in
    let high : reached.0 ≤ get_or images (at - 1) 0 = elim (cases_lt k at) [
      | inl earlier ↦ elim (cases_eq k (at - 1)) [
        | inl same ↦ let e = ap (λ j. get_or images j 0) same in omega arith
        | inr other ↦ let less = rise k (at - 1) 0 (omega arith) (omega arith) in omega arith
      ]
      | inr later ↦ elim (cases_eq k at) [
        | inl same ↦ let e = ap (λ j. get_or images j 0) same in absurd (omega arith)
        | inr other ↦ let more = rise at k 0 (omega arith) within in absurd (omega arith)
      ]
    ] in
    let same : reached.0 ≡ get_or images (at - 1) 0 = omega arith in
    reached.1 ∙ ap (λ (n : ℕ). Some n) same

-- ## The records of a volume follow its map copy by copy.

-- the area's records follow the map
abbrev pub Follows : {D : Type 0} → ℕ → AreaValue D → AreaValue D → MapValue → Type 0
Follows v first area m = area ≡ with_records (followed v m.copies first.records) first

-- the copies of the first images that go are free
pub record FreesCopies {D : Type 0} (v : ℕ) (going : Going) (n : ℕ) (first area : AreaValue D) (before maps : List MapValue) (old new : List Bool) : Type 0 where
  pub only : IsOnlyAt v before maps
  pub frees : FreesMapUpTo going n (map_at before v) (map_at maps v) old new
  pub follows : Follows v first area (map_at maps v)

-- some copies are handed down
pub record HandsDown {D : Type 0} (v older set : ℕ) (first area : AreaValue D) (before maps : List MapValue) (old new : List Bool) : Type 0 where
  pub only : IsOnlyAt v before maps
  pub renews : IsRenewingMap (merged (map_at before v).copies (Some older) set) (map_at before v) (map_at maps v) old new
  pub follows : Follows v first area (map_at maps v)

followed_self : (v : ℕ) (records : List Record) → followed v (map (copied_for v) records) records ≡ records
followed_self v [] = refl
followed_self v (r ∷ rs) = ap (λ x. x ∷ followed v (map (copied_for v) rs) rs) (grind arith) ∙ ap (λ xs. r ∷ xs) (followed_self v rs)

-- they do at first
pub Follows-first : {D : Type 0} (v : ℕ) (area : AreaValue D) (m : MapValue) → m.copies ≡ map (copied_for v) area.records → Follows v area area m
Follows-first v area m tied = ap (λ rs. with_records rs area) (sym (ap (λ cs. followed v cs area.records) tied ∙ followed_self v area.records))

followed_set : (v : ℕ) (copies : List (Option Copied)) (records : List Record) (slot : ℕ) (c : Option Copied) (r : Record) → slice_get records slot ≡ Some r → 0 < r.set → r.volume ≡ v
    → length copies ≡ length records
    → slice_set (followed v copies records) slot (record_for v c) ≡ followed v (slice_set copies slot c) records
followed_set v [] [] slot c r at some same long = absurd (none-some r at)
followed_set v [] (q ∷ rs) slot c r at some same long = absurd (omega arith)
followed_set v (x ∷ cs) [] slot c r at some same long = absurd (none-some r at)
followed_set v (x ∷ cs) (q ∷ rs) zero c r at some same long =
    let is : q ≡ r = same_Some q r at in
    let set_is : q.set ≡ r.set = ap (λ (y : Record). y.set) is in
    ap (λ y. y ∷ followed v cs rs) (sym (follows-of v c q (omega arith) (ap (λ (y : Record). y.volume) is ∙ same)))
followed_set v (x ∷ cs) (q ∷ rs) (suc slot) c r at some same long = ap (λ ys. followed_row v x q ∷ ys) (followed_set v cs rs slot c r at some same (omega arith))

module _ {D : Type 0} (v : ℕ) (first area : AreaValue D) (before mid : MapValue) (image : ℕ) (e : Entry) (tied : before.copies ≡ map (copied_for v) first.records)
    (long : length mid.copies ≡ length before.copies)
    (is : Follows v first area mid) (was : copied_at before.copies e.slot ≡ Some (copy_of image e.block)) where
  at_record : (0 < image) × (slice_get first.records e.slot ≡ Some (record_of v image e.block))
  at_record = record_of_row v first.records e.slot (copy_of image e.block) (ap (λ cs. copied_at cs e.slot) (sym tied) ∙ was)

  as_long : length mid.copies ≡ length first.records
  as_long = long ∙ ap length tied ∙ length-map first.records (copied_for v)

  records_long : length area.records ≡ length first.records
  records_long = ap (λ (a : AreaValue D). length a.records) is ∙ length-followed v mid.copies first.records

  pub slot_inside : e.slot < length area.records
  slot_inside = let l = records_long in let w = slice_get_within first.records e.slot (record_of v image e.block) at_record.1 in omega arith

  -- a record becomes that of the copy that the map has now
  pub Follows-set : (new : AreaValue D) (after : MapValue) (c : Option Copied) → new ≡ with_records (slice_set area.records e.slot (record_for v c)) area
      → after.copies ≡ slice_set mid.copies e.slot c → Follows v first new after
  Follows-set new after c new_is after_is = grind (arith, followed_set, at_record, as_long)

  -- no other record is that of a copy that the map lacks
  pub no_other : (older : ℕ) → 0 < older → (HasCopy mid.copies older e.block → ⊥) → (other : ℕ) → slice_get area.records other ≡ Some (record_of v older e.block) → other ≡ e.slot
  no_other older above lacks other h = absurd (by_test (nat_lt 0 r.set && (r.volume == v)) refl) where
    there : slice_get (followed v mid.copies first.records) other ≡ Some (record_of v older e.block)
    there = sym (ap (λ (a : AreaValue D). slice_get a.records other) is) ∙ h

    inside : other < length first.records
    inside = let w = slice_get_within (followed v mid.copies first.records) other (record_of v older e.block) there in let l = length-followed v mid.copies first.records in omega arith

    r : Record
    r = (get_inside first.records other inside).0

    row : followed_row v (copied_at mid.copies other) r ≡ record_of v older e.block
    row = same_Some (followed_row v (copied_at mid.copies other) r) (record_of v older e.block)
        (sym (followed_at v mid.copies first.records other r as_long (get_inside first.records other inside).1) ∙ there)

    by_copy : (o : Option Copied) → copied_at mid.copies other ≡ o → record_for v o ≡ record_of v older e.block → ⊥
    by_copy None at rec = let none : 0 ≡ older = ap (λ (x : Record). x.set) rec in omega arith
    by_copy (Some g) at rec = lacks (other, at ∙ ap (λ s. Some (copy_of s g.block)) (ap (λ (x : Record). x.set) rec) ∙ ap (λ b. Some (copy_of older b)) (ap (λ (x : Record). x.block) rec))

    by_test : (t : Bool) → (nat_lt 0 r.set && (r.volume == v)) ≡ t → ⊥
    by_test true e2 = let both = both_from r.set v r.volume e2 in by_copy (copied_at mid.copies other) refl (sym (follows-of v (copied_at mid.copies other) r both.0 both.1) ∙ row)
    by_test false e2 =
        let same : r ≡ record_of v older e.block = sym (follows-other v (copied_at mid.copies other) r e2) ∙ row in
        let set_is : r.set ≡ older = ap (λ (x : Record). x.set) same in
        false≢true (sym e2 ∙ of_volume v r (omega arith) (ap (λ (x : Record). x.volume) same))

-- ## a copy is handed down

module _ {D : Type 0} (v at : ℕ) (first area : AreaValue D) (before maps new : List MapValue) (old pool : List Bool) (h : HandedDown)
    (tied : (map_at before v).copies ≡ map (copied_for v) first.records)
    (valid : IsMap (map_at before v)) (inside : at < length (map_at before v).images) (past : 0 < at)
    (inv : HandsDown v (get_or (map_at before v).images (at - 1) 0) (get_or (map_at before v).images at 0) first area before maps old pool) (others : IsOnlyAt v maps new)
    (is : IsHandedDown (map_at maps v) (map_at new v) (get_or (map_at maps v).images (at - 1) 0) (get_or (map_at maps v).images at 0) h) where
  abbrev m : MapValue
  m = map_at before v

  abbrev mid : MapValue
  mid = map_at maps v

  abbrev gone : MapValue
  gone = with_row h.entry.slot None mid

  abbrev older : ℕ
  older = get_or m.images (at - 1) 0

  abbrev image : ℕ
  image = get_or m.images at 0

  below : older < image
  below = valid.images.ascend (at - 1) at 0 (omega arith) inside

  handed : IsHandedDown mid (map_at new v) older image h
  handed = subst (λ (xs : List ℕ). IsHandedDown mid (map_at new v) (get_or xs (at - 1) 0) (get_or xs at 0) h) inv.renews.images is

  was : copied_at m.copies h.entry.slot ≡ Some (copy_of image h.entry.block)
  was = handing_was m mid gone old pool older image h.entry below valid inv.renews handed.popped

  pub older_above : 0 < older
  older_above = (valid.images.above_zero (at - 1) 0 (omega arith)).0

  pub handed_inside : h.entry.slot < length area.records
  handed_inside = slot_inside v first area m mid image h.entry tied inv.renews.renews.long inv.follows was

  pub handed_block : h.entry.block < m.blocks
  handed_block = valid.of_blocks h.entry.slot (copy_of image h.entry.block) was

  pub handed_once : h.kept ≡ true → (other : ℕ) → slice_get area.records other ≡ Some (record_of v older h.entry.block) → other ≡ h.entry.slot
  handed_once kept = no_other v first area m mid image h.entry tied inv.renews.renews.long inv.follows was older older_above
      (λ has. handed.kept kept (has_now m mid gone old pool older image h.entry below valid inv.renews handed.popped has))

  pub handed_frees : h.kept ≡ false → AllTaken m.copies old → (after : AreaValue D) → after ≡ with_records (slice_set area.records h.entry.slot free) area
      → HandsDown v older image first after before new old (slice_set pool h.entry.slot true)
  handed_frees freed taken after after_is = record {
    only = only-more v before maps new inv.only others;
    renews = subst (λ (n : MapValue). IsRenewingMap (merged m.copies (Some older) image) m n old (slice_set pool h.entry.slot true)) (sym (handed.freed_is freed))
        (handing_frees m mid gone old pool older image h.entry below valid inv.renews handed.popped taken (handed.freed freed));
    follows = Follows-set v first area m mid image h.entry tied inv.renews.renews.long inv.follows was after (map_at new v) None after_is
        (ap (λ (n : MapValue). n.copies) (handed.freed_is freed));
  }

  pub handed_moves : h.kept ≡ true → (after : AreaValue D) → after ≡ with_records (slice_set area.records h.entry.slot (record_of v older h.entry.block)) area
      → HandsDown v older image first after before new old pool
  handed_moves kept after after_is = record {
    only = only-more v before maps new inv.only others;
    renews = subst (λ (n : MapValue). IsRenewingMap (merged m.copies (Some older) image) m n old pool) (sym (handed.kept_is kept))
        (handing_moves m mid gone old pool older image h.entry below valid inv.renews handed.popped (handed.kept kept));
    follows = Follows-set v first area m mid image h.entry tied inv.renews.renews.long inv.follows was after (map_at new v) (Some (copy_of older h.entry.block)) after_is
        (ap (λ (n : MapValue). n.copies) (handed.kept_is kept) ∙ set-set mid.copies h.entry.slot None (Some (copy_of older h.entry.block)));
  }

  pub handed_fewer : used_for (map_at new v).copies image < used_for mid.copies image
  handed_fewer = by_kept h.kept refl where
    by_kept : (b : Bool) → h.kept ≡ b → used_for (map_at new v).copies image < used_for mid.copies image
    by_kept true kept = subst (λ (n : MapValue). used_for n.copies image < used_for mid.copies image) (sym (handed.kept_is kept))
        (handing_smaller m mid gone old pool older image h.entry below valid inv.renews handed.popped)
    by_kept false freed = subst (λ (n : MapValue). used_for n.copies image < used_for mid.copies image) (sym (handed.freed_is freed))
        (let less = used_out mid.copies h.entry.slot image h.entry.block handed.popped.noted in omega arith)
