-- What the parts keep in step where the copies of a volume's images are renewed by a rule; and the rules by which images go, as rules of records.
use Rattle.std.proofs.Common.{ℕ, zero, suc, ◌≡◌, ◌<◌, Bool, false, ◌&&◌, List, [], ◌∷◌, length, Option, Some, slice_get, slice_set, refl, sym, ap, arith, ◌≢◌}
use Rattle.std.proofs.Common.{true, map, None, ◌∙◌, subst, inl, inr, ◌⊎◌}
use Rattle.std.proofs.lemmas.Bool.{false≢true}
use Rattle.std.proofs.lemmas.Bool.Decides.{nat_tests}
use Rattle.std.proofs.lemmas.List.{length-map, length-set, map-set}
use Rattle.std.proofs.lemmas.Option.{none-some, same_Some, slice_get_within}
use Rattle.std.specs.Option.{option_and_then}
use Rattle.std.specs.Prelude.{◌==◌, nat_lt, if◌then◌else◌, IsSome, IsNone}
use Rattle.slot_pool.specs.Slots.{IsTaken}
use Rattle.diff_map.specs.Copies.{copied_at, AllTaken, copy_of, has_copy, MapValue, IsMap}
use Rattle.diff_map.specs.Rules.{renewed, GivesBack, merged as merged_rule, gone as gone_rule, handed_down as handed_on}
use Rattle.diff_map.specs.declared.copied.Copied.{Copied}
use Rattle.diff_map.proofs.Images.{Merged, merged_from}
use Rattle.diff_map.proofs.Renewal.{copied_at-renewed, row_from_has, has_from_row}
use Rattle.diff_area.specs.Format.{is_free}
use Rattle.diff_area.specs.declared.table_record.Record.{Record}
use Rattle.diff_area.proofs.ByPlace.{get-set}
use Rattle.cow_volume.specs.Changes.{has_record, is_of, handed_down, merged_row, gone_on_row, record_for, followed_row, followed}
use Rattle.cow_volume.specs.StandsFor.{record_of}
use Rattle.cow_volume.specs.Parts.{copied_for, AreTied, images_of}
use Rattle.cow_volume.proofs.Rows.{of_volume, record_of_row, row_at, record-from, get_inside, used_is, map-from, copied_for-is, both_from, row_of_record}
use Rattle.cow_volume.proofs.Rows.{has_slot, has_from_slot, bools_by, same_record}

-- ## The records that follow their map, slot by slot.

pub follows-of : (v : ℕ) (c : Option Copied) (r : Record) → 0 < r.set → r.volume ≡ v → followed_row v c r ≡ record_for v c
follows-of v c r some same = ap (λ (t : Bool). if t then record_for v c else r) (of_volume v r some same)

pub follows-other : (v : ℕ) (c : Option Copied) (r : Record) → (nat_lt 0 r.set && (r.volume == v)) ≡ false → followed_row v c r ≡ r
follows-other v c r h = ap (λ (t : Bool). if t then record_for v c else r) h

pub length-followed : (v : ℕ) (copies : List (Option Copied)) (records : List Record) → length (followed v copies records) ≡ length records
length-followed v [] records = refl
length-followed v (c ∷ copies) [] = refl
length-followed v (c ∷ copies) (r ∷ rs) = ap suc (length-followed v copies rs)

pub followed_at : (v : ℕ) (copies : List (Option Copied)) (records : List Record) (k : ℕ) (r : Record) → length copies ≡ length records → slice_get records k ≡ Some r
    → slice_get (followed v copies records) k ≡ Some (followed_row v (copied_at copies k) r)
followed_at v [] [] k r long h = absurd (none-some r h)
followed_at v [] (q ∷ rs) k r long h = absurd (omega arith)
followed_at v (c ∷ copies) [] k r long h = absurd (none-some r h)
followed_at v (c ∷ copies) (q ∷ rs) zero r long h = ap (λ (x : Record). Some (followed_row v c x)) (same_Some q r h)
followed_at v (c ∷ copies) (q ∷ rs) (suc k) r long h = followed_at v copies rs k r (omega arith) h

pub set-same : (records : List Record) (i : ℕ) (r : Record) → slice_get records i ≡ Some r → slice_set records i r ≡ records
set-same [] i r h = refl
set-same (q ∷ rs) zero r h = ap (λ x. x ∷ rs) (sym (same_Some q r h))
set-same (q ∷ rs) (suc i) r h = ap (λ xs. q ∷ xs) (set-same rs i r h)

-- ## What the parts keep in step where the copies of a volume's images are renewed by a rule.

-- The rule gives no copy of set 0, and none that another slot's record has; and f says what becomes of a record by it.
pub record IsRuleOf (records : List Record) (v : ℕ) (rule : Copied → Option Copied) (f : Record → Record) : Type 0 where
  pub above : (c d : Copied) → rule c ≡ Some d → 0 < c.set → 0 < d.set
  pub fresh : (c d : Copied) → rule c ≡ Some d → 0 < c.set → (d ≡ c) ⊎ ((other : ℕ) → slice_get records other ≡ Some (record_of v d.set d.block) → ⊥)
  pub row : (r : Record) → followed_row v (option_and_then rule (copied_for v r)) r ≡ f r

-- ## the slots of noted copies are taken

noted_taken : (records : List Record) (v slot : ℕ) (o : Option Copied) → copied_at (map (copied_for v) records) slot ≡ o → IsSome o → IsTaken (map is_free records) slot
noted_taken records v slot None e some = absurd (false≢true some)
noted_taken records v slot (Some c) e some =
    let from = record_of_row v records slot c e in
    mapped records slot (record_of v c.set c.block) from.1 ∙ ap (λ (b : Bool). Some b) (used_is (record_of v c.set c.block) from.0)
  where
    mapped : (rs : List Record) (k : ℕ) (r : Record) → slice_get rs k ≡ Some r → slice_get (map is_free rs) k ≡ Some (is_free r)
    mapped [] k r h = absurd (none-some r h)
    mapped (q ∷ rs) zero r h = ap (λ (x : Record). Some (is_free x)) (same_Some q r h)
    mapped (q ∷ rs) (suc k) r h = mapped rs k r h

pub all_taken : (volumes : List ℕ) (records : List Record) (maps : List MapValue) (pool : List Bool) (v : ℕ) (m : MapValue) → AreTied volumes records maps pool → slice_get maps v ≡ Some m
    → AllTaken m.copies pool
all_taken volumes records maps pool v m tied at slot some =
    let copies = (tied.each v m at).copies in
    subst (λ (p : List Bool). IsTaken p slot) (sym tied.pool_is)
    (noted_taken records v slot (copied_at m.copies slot) (ap (λ (cs : List (Option Copied)). copied_at cs slot) (sym copies)) some)

-- ## what follows

followed_map : (v : ℕ) (rule : Copied → Option Copied) (f : Record → Record) (xs : List Record) → ((r : Record) → followed_row v (option_and_then rule (copied_for v r)) r ≡ f r)
    → followed v (map (option_and_then rule) (map (copied_for v) xs)) xs ≡ map f xs
followed_map v rule f [] row = refl
followed_map v rule f (r ∷ rs) row = ap (λ x. x ∷ followed v (map (option_and_then rule) (map (copied_for v) rs)) rs) (row r) ∙ ap (λ xs. f r ∷ xs) (followed_map v rule f rs row)

pub followed_is : (records : List Record) (v : ℕ) (m n : MapValue) (rule : Copied → Option Copied) (f : Record → Record) → m.copies ≡ map (copied_for v) records → n.copies ≡ renewed rule m.copies
    → IsRuleOf records v rule f → followed v n.copies records ≡ map f records
followed_is records v m n rule f was is rules =
    ap (λ cs. followed v cs records) (is ∙ ap (λ cs. map (option_and_then rule) cs) was) ∙ followed_map v rule f records rules.row

-- ## the maps

-- the map of another volume
other_row : (u v : ℕ) (o : Option Copied) (r : Record) → u ≢ v → copied_for u (followed_row v o r) ≡ copied_for u r
other_row u v o r other = grind arith

pub other_map : (u v : ℕ) (copies : List (Option Copied)) (records : List Record) → u ≢ v → map (copied_for u) (followed v copies records) ≡ map (copied_for u) records
other_map u v [] records other = refl
other_map u v (c ∷ copies) [] other = refl
other_map u v (c ∷ copies) (r ∷ rs) other = ap (λ x. x ∷ map (copied_for u) (followed v copies rs)) (other_row u v c r other) ∙ ap (λ xs. copied_for u r ∷ xs) (other_map u v copies rs other)

pub own_map : (v : ℕ) (rule : Copied → Option Copied) (records : List Record) → ((c d : Copied) → rule c ≡ Some d → 0 < c.set → 0 < d.set)
    → map (copied_for v) (followed v (map (option_and_then rule) (map (copied_for v) records)) records) ≡ map (option_and_then rule) (map (copied_for v) records)
own_map v rule [] above = refl
own_map v rule (r ∷ rs) above =
    ap (λ x. x ∷ map (copied_for v) (followed v (map (option_and_then rule) (map (copied_for v) rs)) rs)) (grind arith)
    ∙ ap (λ xs. option_and_then rule (copied_for v r) ∷ xs) (own_map v rule rs above)

-- ## the pool

pub same_lists : {X : Type 0} → (xs ys : List X) → length xs ≡ length ys → ((k : ℕ) (y : X) → slice_get ys k ≡ Some y → slice_get xs k ≡ Some y) → xs ≡ ys
same_lists [] [] long each = refl
same_lists [] (y ∷ ys) long each = absurd (omega arith)
same_lists (x ∷ xs) [] long each = absurd (omega arith)
same_lists (x ∷ xs) (y ∷ ys) long each = ap (λ z. z ∷ xs) (same_Some x y (each 0 y refl)) ∙ ap (λ zs. y ∷ zs) (same_lists xs ys (omega arith) (λ k z h. each (suc k) z h))

pub get-map : {X Y : Type 0} → (g : X → Y) (xs : List X) (k : ℕ) (x : X) → slice_get xs k ≡ Some x → slice_get (map g xs) k ≡ Some (g x)
get-map g [] k x h = absurd (none-some x h)
get-map g (z ∷ xs) zero x h = ap (λ w. Some (g w)) (same_Some z x h)
get-map g (z ∷ xs) (suc k) x h = get-map g xs k x h

-- the pool, slot by slot
pool_slot : (v : ℕ) (r : Record) (was is : Option Copied) (old new : Option Bool) → was ≡ copied_for v r → old ≡ Some (is_free r) → (IsSome was → IsNone is → new ≡ Some true)
    → (IsNone was ⊎ IsSome is → new ≡ old) → ((c : Copied) → is ≡ Some c → 0 < c.set) → (was ≡ None → is ≡ None) → new ≡ Some (is_free (followed_row v is r))
pool_slot v r was is old new was_is old_is freed kept above stays = grind arith

pub pool_after : (records : List Record) (v : ℕ) (was is : List (Option Copied)) (rule : Copied → Option Copied) (old new : List Bool) → was ≡ map (copied_for v) records → is ≡ renewed rule was
    → old ≡ map is_free records → GivesBack was is old new → ((c d : Copied) → rule c ≡ Some d → 0 < c.set → 0 < d.set) → new ≡ map is_free (followed v is records)
pool_after records v was is rule old new was_is is_is old_is gives above =
    let long_is : length is ≡ length records = ap length is_is ∙ length-map was (option_and_then rule) ∙ ap length was_is ∙ length-map records (copied_for v) in
    let long : length new ≡ length (map is_free (followed v is records)) =
    gives.slots ∙ ap length old_is ∙ length-map records is_free ∙ sym (length-map (followed v is records) is_free ∙ length-followed v is records) in
    same_lists new (map is_free (followed v is records)) long (λ k b h.
    let from = map-from is_free (followed v is records) k b h in
    let inside = slice_get_within (followed v is records) k from.0 from.1 in
    let same = length-followed v is records in
    let at = get_inside records k (omega arith) in
    let row_is : from.0 ≡ followed_row v (copied_at is k) at.0 = same_Some from.0 (followed_row v (copied_at is k) at.0) (sym from.1 ∙ followed_at v is records k at.0 long_is at.1) in
    let was_at : copied_at was k ≡ copied_for v at.0 = ap (λ (cs : List (Option Copied)). copied_at cs k) was_is ∙ row_at v records k at.0 at.1 in
    let is_at : copied_at is k ≡ option_and_then rule (copied_at was k) = ap (λ (cs : List (Option Copied)). copied_at cs k) is_is ∙ copied_at-renewed rule was k in
    let slot = pool_slot v at.0 (copied_at was k) (copied_at is k) (slice_get old k) (slice_get new k) was_at
    (ap (λ (p : List Bool). slice_get p k) old_is ∙ get-map is_free records k at.0 at.1)
    (gives.freed k) (gives.others k)
    (λ c e. some_above k at.0 c at.1 was_at is_at e)
    (λ none. is_at ∙ ap (option_and_then rule) none) in
    slot ∙ ap (λ (x : Record). Some (is_free x)) (sym row_is) ∙ ap (λ (t : Bool). Some t) from.2)
  where
    some_above : (k : ℕ) (r : Record) (c : Copied) → slice_get records k ≡ Some r → copied_at was k ≡ copied_for v r → copied_at is k ≡ option_and_then rule (copied_at was k)
        → copied_at is k ≡ Some c → 0 < c.set
    some_above k r c at was_at is_at e = by_row (copied_for v r) refl where
      by_row : (o : Option Copied) → copied_for v r ≡ o → 0 < c.set
      by_row None h = absurd (none-some c (sym (is_at ∙ ap (option_and_then rule) (was_at ∙ h)) ∙ e))
      by_row (Some b) h = above b c (sym (is_at ∙ ap (option_and_then rule) (was_at ∙ h)) ∙ e) (record-from v r b h).0

-- ## all of it

pub tied_after : (volumes : List ℕ) (records : List Record) (maps : List MapValue) (pool new_pool : List Bool) (v : ℕ) (m n : MapValue) (rule : Copied → Option Copied) (f : Record → Record)
    → AreTied volumes records maps pool → slice_get maps v ≡ Some m → n.copies ≡ renewed rule m.copies → n.blocks ≡ m.blocks → IsMap n → GivesBack m.copies n.copies pool new_pool
    → IsRuleOf records v rule f → AreTied volumes (followed v n.copies records) (slice_set maps v n) new_pool
tied_after volumes records maps pool new_pool v m n rule f tied at copies_are blocks_are is_map gives rules =
    let was = (tied.each v m at).copies in
    let is : n.copies ≡ map (option_and_then rule) (map (copied_for v) records) = copies_are ∙ ap (λ cs. map (option_and_then rule) cs) was in
    record {
      number = length-set maps v n ∙ tied.number;
      each = λ u w h. elim (get-set maps v u n w h) [
        | inl own ↦ record {
          blocks = ap (λ (k : ℕ). slice_get volumes k) own.0 ∙ (tied.each v m at).blocks ∙ ap (λ (k : ℕ). Some k) (sym (ap (λ (x : MapValue). x.blocks) own.1 ∙ blocks_are));
          copies = ap (λ (x : MapValue). x.copies) own.1 ∙ is ∙ sym (own_map v rule records rules.above) ∙ ap (λ cs. map (copied_for v) (followed v cs records)) (sym is)
              ∙ ap (λ (k : ℕ). map (copied_for k) (followed v n.copies records)) (sym own.0);
          valid = subst IsMap (sym own.1) is_map;
        }
        | inr other ↦ record {
          blocks = (tied.each u w other.1).blocks;
          copies = (tied.each u w other.1).copies ∙ sym (other_map u v n.copies records other.0);
          valid = (tied.each u w other.1).valid;
        }
      ];
      pool_is = pool_after records v m.copies n.copies rule pool new_pool was copies_are tied.pool_is gives rules.above;
    }

pub images_after : (maps : List MapValue) (v : ℕ) (n : MapValue) → images_of (slice_set maps v n) ≡ slice_set (images_of maps) v n.images
images_after maps v n = map-set (λ (m : MapValue). m.images) maps v n

-- ## The rules by which images go, as rules of records.

-- the map has a copy just where a record is that of it
pub has_copy-record : (records : List Record) (v set block : ℕ) → 0 < set → has_copy (map (copied_for v) records) set block ≡ has_record records (record_of v set block)
has_copy-record records v set block some = bools_by (has_copy (map (copied_for v) records) set block) (has_record records (record_of v set block))
    (λ h. let at = row_from_has (map (copied_for v) records) set block h in has_from_slot records (record_of v set block) at.0 (record_of_row v records at.0 (copy_of set block) at.1).1)
    (λ h. let at = has_slot records (record_of v set block) h in has_from_row (map (copied_for v) records) at.0 set block (row_of_record v records at.0 set block some at.1))

pub of_set : (v set : ℕ) (r : Record) → r.volume ≡ v → r.set ≡ set → is_of v set r ≡ true
of_set v set r a b = grind (arith, nat_tests)

not_of_set : (v set w s : ℕ) → (w ≢ v) ⊎ (s ≢ set) → ((w == v) && (s == set)) ≡ false
not_of_set v set w s h = grind arith

-- a used record of volume v, or another one
pub not_used : (v : ℕ) (r : Record) → (nat_lt 0 r.set && (r.volume == v)) ≡ false → (r.volume ≢ v) ⊎ (r.set ≡ 0)
not_used v r h = grind arith

-- ## an image is merged down

handed : (records : List Record) (v : ℕ) (older : Option ℕ) (set block : ℕ) → ((n : ℕ) → older ≡ Some n → 0 < n)
    → record_for v (handed_on (map (copied_for v) records) older block) ≡ handed_down records v older block
handed records v older set block above = grind (arith, has_copy-record)

merge_row : (records : List Record) (v : ℕ) (older : Option ℕ) (set : ℕ) → 0 < set → ((n : ℕ) → older ≡ Some n → 0 < n) → (r : Record)
    → followed_row v (option_and_then (merged_rule (map (copied_for v) records) older set) (copied_for v r)) r ≡ merged_row records v older set r
merge_row records v older set some above r = by_test (nat_lt 0 r.set && (r.volume == v)) refl where
  by_set : 0 < r.set → r.volume ≡ v → (t : Bool) → (r.set == set) ≡ t → record_for v (merged_rule (map (copied_for v) records) older set (copy_of r.set r.block)) ≡ merged_row records v older set r
  by_set a b true e =
      let same : r.set ≡ set = grind (arith, nat_tests) in
      ap (λ (t : Bool). record_for v (if t then handed_on (map (copied_for v) records) older r.block else Some (copy_of r.set r.block))) e
      ∙ handed records v older set r.block above
      ∙ sym (ap (λ (t : Bool). if t then handed_down records v older r.block else r) (of_set v set r b same))
  by_set a b false e =
      let apart : r.set ≢ set = grind (arith, nat_tests) in
      ap (λ (t : Bool). record_for v (if t then handed_on (map (copied_for v) records) older r.block else Some (copy_of r.set r.block))) e
      ∙ same_record (record_of v r.set r.block) r refl refl (sym b)
      ∙ sym (ap (λ (t : Bool). if t then handed_down records v older r.block else r) (not_of_set v set r.volume r.set (inr apart)))

  by_test : (t : Bool) → (nat_lt 0 r.set && (r.volume == v)) ≡ t
      → followed_row v (option_and_then (merged_rule (map (copied_for v) records) older set) (copied_for v r)) r ≡ merged_row records v older set r
  by_test true e =
      let both = both_from r.set v r.volume e in
      follows-of v (option_and_then (merged_rule (map (copied_for v) records) older set) (copied_for v r)) r both.0 both.1
      ∙ ap (λ o. record_for v (option_and_then (merged_rule (map (copied_for v) records) older set) o)) (copied_for-is v r both.0 both.1)
      ∙ by_set both.0 both.1 (r.set == set) refl
  by_test false e =
      follows-other v (option_and_then (merged_rule (map (copied_for v) records) older set) (copied_for v r)) r e
      ∙ sym (ap (λ (t : Bool). if t then handed_down records v older r.block else r)
      (not_of_set v set r.volume r.set (elim (not_used v r e) [ inl other ↦ inl other | inr none ↦ inr (λ same. absurd (omega arith)) ])))

merge_above : (copies : List (Option Copied)) (older : Option ℕ) (set : ℕ) (c d : Copied) → ((n : ℕ) → older ≡ Some n → 0 < n) → Merged copies older set c d → 0 < c.set → 0 < d.set
merge_above copies older set c d above x6 some = grind arith

merge_fresh : (records : List Record) (v : ℕ) (older : Option ℕ) (set : ℕ) (c d : Copied) → ((n : ℕ) → older ≡ Some n → 0 < n) → Merged (map (copied_for v) records) older set c d
    → (d ≡ c) ⊎ ((other : ℕ) → slice_get records other ≡ Some (record_of v d.set d.block) → ⊥)
merge_fresh records v older set c d above x7 = grind (arith, row_of_record, has_from_row)

pub rule-merged : (records : List Record) (v : ℕ) (older : Option ℕ) (set : ℕ) → 0 < set → ((n : ℕ) → older ≡ Some n → 0 < n)
    → IsRuleOf records v (merged_rule (map (copied_for v) records) older set) (merged_row records v older set)
rule-merged records v older set some above = record {
  above = λ c d gives more. merge_above (map (copied_for v) records) older set c d above (merged_from (map (copied_for v) records) older set c d gives) more;
  fresh = λ c d gives more. merge_fresh records v older set c d above (merged_from (map (copied_for v) records) older set c d gives);
  row = merge_row records v older set some above;
}

-- ## the copies from a set on are cleared

pub rule-gone : (records : List Record) (v set : ℕ) → IsRuleOf records v (gone_rule set) (gone_on_row v set)
rule-gone records v set = grind arith
