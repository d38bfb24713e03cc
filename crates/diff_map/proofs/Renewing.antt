-- Copies that go or are handed down one after the other, and their slots that go back.
use Rattle.std.proofs.Common.{ℕ, zero, suc, ◌∷◌, [], ◌≡◌, ◌≢◌, ◌+◌, ◌<◌, ◌≤◌, ◌⊎◌, inl, inr, Bool, true, false, List, Option, Some, None, length, get_or, set, map, refl, ap, sym, ◌∙◌, subst}
use Rattle.std.proofs.Common.{arith, Contains, rules}
use Rattle.std.specs.List.{slice_get, AllWithin}
use Rattle.std.specs.Option.{option_and_then}
use Rattle.std.proofs.lemmas.Bool.{cases_eq, cases_lt, cases_Bool}
use Rattle.std.proofs.lemmas.Bool.Decides.{nat_tests}
use Rattle.std.proofs.lemmas.List.{ext_get_or, get_or-map, length-map, length-set, get_or-set_same, get_or-set_other, get_or_default, set-set}
use Rattle.std.proofs.lemmas.Option.{same_Some, none-some}
use Rattle.std.proofs.lemmas.Grind.{common_steps}
use Rattle.diff_map.specs.declared.copied.Copied.{Copied}
use Rattle.diff_map.specs.declared.going.Going.{Going}
use Rattle.diff_map.specs.declared.going.Going.TheVariants.{From, UpTo}
use Rattle.diff_map.specs.Copies.{copied_at, copy_of, AllTaken, HasCopy, has_copy, MapValue, IsMap}
use Rattle.diff_map.specs.Counts.{used_for, IsPopped}
use Rattle.diff_map.specs.declared.entry.Entry.{Entry}
use Rattle.diff_map.specs.Rules.{renewed, merged, next_older, GivesBack, takes, rule_of, IsRenewing}
use Rattle.diff_map.proofs.Counting.{used_some, used_out, used_out_other, used_noted_other}
use Rattle.diff_map.proofs.Images.{next_older_is}
use Rattle.diff_map.proofs.Renewal.{copied_at-renewed, GivesBack-none, GivesBack-free, GivesBack-keep, get_within, rule_takes, rule_leaves}
use Rattle.diff_map.proofs.Renewal.{row_from_has, has_from_row, merged_goes, merged_moves, merged_stays, merged_nowhere}

pub IsRenewing-none : (rule : Copied → Option Copied) (rows : List (Option Copied)) (pool : List Bool) → IsRenewing rule rows rows pool pool
IsRenewing-none rule rows pool = record { each = λ slot. inl refl; long = refl; gives = GivesBack-none rows pool }

-- one row changes as the rule has it
step : (rule : Copied → Option Copied) (before after : List (Option Copied)) (old new newer : List Bool) (slot : ℕ) (b : Copied) (row : Option Copied) → IsRenewing rule before after old new
    → slot < length after → copied_at before slot ≡ Some b → rule b ≡ row → GivesBack before (set after slot row) old newer → IsRenewing rule before (set after slot row) old newer
step rule before after old new newer slot b row is inside was ruled gives = grind (arith, cases_eq, get_or-set_same, get_or-set_other, length-set)

-- a copy that is still as it was goes, and its slot goes back
pub IsRenewing-freed : (rule : Copied → Option Copied) (before after : List (Option Copied)) (old new : List Bool) (slot : ℕ) (a b : Copied) → IsRenewing rule before after old new
    → AllTaken before old → copied_at after slot ≡ Some a → copied_at before slot ≡ Some b → rule b ≡ None → IsRenewing rule before (set after slot None) old (set new slot true)
IsRenewing-freed rule before after old new slot a b is taken row was ruled = search (rules, step, get_within, GivesBack-free)

pub IsRenewing-moved : (rule : Copied → Option Copied) (before after : List (Option Copied)) (old new : List Bool) (slot : ℕ) (a b v : Copied) → IsRenewing rule before after old new
    → copied_at after slot ≡ Some a → copied_at before slot ≡ Some b → rule b ≡ Some v → IsRenewing rule before (set after slot (Some v)) old new
IsRenewing-moved rule before after old new slot a b v is row was ruled = search (rules, step, get_within, GivesBack-keep)

-- where no copy is left that the rule would change, all rows are renewed
pub renewed_all : (rule : Copied → Option Copied) (before after : List (Option Copied)) (old new : List Bool) → IsRenewing rule before after old new
    → ((slot : ℕ) (c : Copied) → copied_at after slot ≡ Some c → copied_at before slot ≡ Some c → rule c ≡ Some c) → after ≡ renewed rule before
renewed_all rule before after old new is rest =
    let fact = ext_get_or None after (map (option_and_then rule) before) (is.long ∙ sym (length-map before (option_and_then rule))) in
    grind (arith, common_steps, length-map before (option_and_then rule), get_or-map (option_and_then rule) before)

not_used : (copies : List (Option Copied)) (image slot : ℕ) (c : Copied) → used_for copies image ≡ 0 → copied_at copies slot ≡ Some c → c.set ≢ image
not_used copies image slot c none row same = grind (arith, used_some)

-- a copy that the rule drops is as it was, if it is there
pub as_before : (rule : Copied → Option Copied) (image block slot : ℕ) (before after : List (Option Copied)) (old new : List Bool) → IsRenewing rule before after old new
    → ((c d : Copied) → rule c ≡ Some d → d.set ≡ image → ⊥) → copied_at after slot ≡ Some (copy_of image block) → copied_at before slot ≡ Some (copy_of image block)
as_before rule image block slot before after old new is never row = grind arith

-- the images up to the nth that go have no copies
pub record FreesUpTo (going : Going) (images : List ℕ) (n : ℕ) (before after : List (Option Copied)) (old new : List Bool) : Type 0 where
  pub renews : IsRenewing (rule_of going) before after old new
  pub freed : (k d : ℕ) → k < n → k < length images → takes going (get_or images k d) ≡ true → used_for after (get_or images k d) ≡ 0

pub FreesUpTo-none : (going : Going) (images : List ℕ) (rows : List (Option Copied)) (pool : List Bool) → FreesUpTo going images 0 rows rows pool pool
FreesUpTo-none going images rows pool = record { renews = IsRenewing-none (rule_of going) rows pool; freed = λ k d low inside. absurd (omega arith) }

pub FreesUpTo-past : (going : Going) (images : List ℕ) (n image : ℕ) (before after : List (Option Copied)) (old new : List Bool) → FreesUpTo going images n before after old new → n < length images
    → image ≡ get_or images n image → takes going image ≡ false → FreesUpTo going images (n + 1) before after old new
FreesUpTo-past going images n image before after old new up inside is stays = grind (arith, cases_eq, get_or_default)

pub freed_all : (going : Going) (images : List ℕ) (n : ℕ) (before after : List (Option Copied)) (old new : List Bool)
    → ((slot : ℕ) (c : Copied) → copied_at before slot ≡ Some c → Contains images c.set) → FreesUpTo going images n before after old new → length images ≤ n → after ≡ renewed (rule_of going) before
freed_all going images n before after old new of_images up end = renewed_all (rule_of going) before after old new up.renews (λ slot c now was. elim (cases_Bool (takes going c.set)) [
  | inr test ↦ rule_leaves going c test
  | inl test ↦
      let at = of_images slot c was in
      let is : get_or images at.0 c.set ≡ c.set = at.2 in
      absurd (not_used after (get_or images at.0 c.set) slot c (up.freed at.0 c.set (let l = at.1 in omega arith) at.1 (ap (takes going) is ∙ test)) now (sym is))
])

-- ## a merge

-- a copy of the image that goes is as it was
merged_never : (copies : List (Option Copied)) (older image : ℕ) (c d : Copied) → older < image → merged copies (Some older) image c ≡ Some d → d.set ≡ image → ⊥
merged_never copies older image c d below is same = grind arith

module _ (before after : List (Option Copied)) (old new : List Bool) (older image block slot : ℕ) (below : older < image)
    (once : (one other : ℕ) (c : Copied) → copied_at before one ≡ Some c → copied_at before other ≡ Some c → one ≡ other)
    (is : IsRenewing (merged before (Some older) image) before after old new) (row : copied_at after slot ≡ Some (copy_of image block)) where
  pub merging_was : copied_at before slot ≡ Some (copy_of image block)
  merging_was = as_before (merged before (Some older) image) image block slot before after old new is (λ c d. merged_never before older image c d below) row

  -- the older image has the block now where it had it
  had_before : (other : ℕ) (o : Option Copied) → copied_at before other ≡ o → (copied_at after other ≡ o) ⊎ (copied_at after other ≡ option_and_then (merged before (Some older) image) o)
      → copied_at after other ≡ Some (copy_of older block) → HasCopy before older block
  had_before other o was x3 now = grind arith

  -- where the older image has the block, the rule drops the copy
  pub merging_goes : HasCopy after older block → merged before (Some older) image (copy_of image block) ≡ None
  merging_goes has = grind (arith, had_before, merged_goes, has_from_row)

  -- elsewhere it hands it down
  pub merging_moves : (HasCopy after older block → ⊥) → merged before (Some older) image (copy_of image block) ≡ Some (copy_of older block)
  merging_moves lacks = elim (cases_Bool (has_copy before older block)) [
    | inr none ↦ merged_moves before older image (copy_of image block) refl none
    | inl has ↦ let had = row_from_has before older block has in absurd (lacks (had.0, still had.0 had.1))
  ] where
    still : (other : ℕ) → copied_at before other ≡ Some (copy_of older block) → copied_at after other ≡ Some (copy_of older block)
    still other was = elim (is.each other) [
      | inl kept ↦ kept ∙ was
      | inr ruled ↦ ruled ∙ ap (option_and_then (merged before (Some older) image)) was ∙ merged_stays before (Some older) image (copy_of older block) (λ e. absurd (omega arith))
    ]

pub merged_all : (before after : List (Option Copied)) (old new : List Bool) (older image : ℕ) → IsRenewing (merged before (Some older) image) before after old new → used_for after image ≡ 0
    → after ≡ renewed (merged before (Some older) image) before
merged_all before after old new older image is none = search (rules, renewed_all, merged_stays, not_used)

-- ## a map in which copies go

pub record IsRenewingMap (rule : Copied → Option Copied) (before after : MapValue) (old new : List Bool) : Type 0 where
  pub blocks : after.blocks ≡ before.blocks
  pub images : after.images ≡ before.images
  pub renews : IsRenewing rule before.copies after.copies old new

pub IsRenewingMap-none : (rule : Copied → Option Copied) (m : MapValue) (pool : List Bool) → IsRenewingMap rule m m pool pool
IsRenewingMap-none rule m pool = record { blocks = refl; images = refl; renews = IsRenewing-none rule m.copies pool }

pub renewed_map : (rule : Copied → Option Copied) (first after : MapValue) (old new : List Bool) → IsRenewingMap rule first after old new → after.copies ≡ renewed rule first.copies
    → after ≡ record { blocks = first.blocks; images = first.images; copies = renewed rule first.copies }
renewed_map rule first after old new is all = grind arith

-- a copy that is popped goes, and its slot goes back
pub IsRenewingMap-freed : (rule : Copied → Option Copied) (first mid after : MapValue) (old new : List Bool) (image : ℕ) (e : Entry) → IsRenewingMap rule first mid old new
    → IsPopped mid after image e → AllTaken first.copies old → copied_at first.copies e.slot ≡ Some (copy_of image e.block) → rule (copy_of image e.block) ≡ None
    → IsRenewingMap rule first after old (set new e.slot true)
IsRenewingMap-freed rule first mid after old new image e is popped taken was ruled =
    let fact = IsRenewing-freed rule first.copies mid.copies old new e.slot (copy_of image e.block) (copy_of image e.block) is.renews taken popped.noted was in
    grind (arith, common_steps)

slice_get-set_here : (rows : List (Option Copied)) (slot : ℕ) (row : Option Copied) → slot < length rows → slice_get (set rows slot row) slot ≡ Some row
slice_get-set_here [] slot row inside = absurd (omega arith)
slice_get-set_here (x ∷ xs) zero row inside = refl
slice_get-set_here (x ∷ xs) (suc slot) row inside = slice_get-set_here xs slot row (omega arith)

module _ (first mid after : MapValue) (old new : List Bool) (older image : ℕ) (e : Entry) (below : older < image) (valid : IsMap first)
    (is : IsRenewingMap (merged first.copies (Some older) image) first mid old new) (popped : IsPopped mid after image e) where
  pub handing_was : copied_at first.copies e.slot ≡ Some (copy_of image e.block)
  handing_was = merging_was first.copies mid.copies old new older image e.block e.slot below valid.once is.renews popped.noted

  pub handing_range : e.block < after.blocks
  handing_range = grind arith

  pub handing_unnoted : slice_get after.copies e.slot ≡ Some None
  handing_unnoted = grind (arith, slice_get-set_here, get_within)

  -- the other rows are as they were before the copy was popped
  has_then : HasCopy after.copies older e.block → HasCopy mid.copies older e.block
  has_then has = grind (arith, get_within, none-some, get_or-set_same, get_or-set_other)

  pub has_now : HasCopy mid.copies older e.block → HasCopy after.copies older e.block
  has_now has = grind (arith, same_Some, get_or-set_other)

  pub handing_frees : AllTaken first.copies old → HasCopy after.copies older e.block → IsRenewingMap (merged first.copies (Some older) image) first after old (set new e.slot true)
  handing_frees taken has = search (rules, IsRenewingMap-freed, handing_was, merging_goes, has_then)

  pub handing_moves : (HasCopy after.copies older e.block → ⊥)
      → IsRenewingMap (merged first.copies (Some older) image) first (record { blocks = after.blocks; images = after.images; copies = set after.copies e.slot (Some (copy_of older e.block)) }) old new
  handing_moves lacks = record {
    blocks = ap (λ (m : MapValue). m.blocks) popped.gone ∙ is.blocks;
    images = ap (λ (m : MapValue). m.images) popped.gone ∙ is.images;
    renews = subst (λ (rows : List (Option Copied)). IsRenewing (merged first.copies (Some older) image) first.copies rows old new)
        (sym (ap (λ (m : MapValue). set m.copies e.slot (Some (copy_of older e.block))) popped.gone ∙ set-set mid.copies e.slot None (Some (copy_of older e.block))))
        (IsRenewing-moved (merged first.copies (Some older) image) first.copies mid.copies old new e.slot (copy_of image e.block) (copy_of image e.block)
        (copy_of older e.block) is.renews popped.noted handing_was
        (merging_moves first.copies mid.copies old new older image e.block e.slot below valid.once is.renews popped.noted (λ has. lacks (has_now has))));
  }

  pub handing_smaller : used_for (set after.copies e.slot (Some (copy_of older e.block))) image < used_for mid.copies image
  handing_smaller =
      let less = used_out mid.copies e.slot image e.block popped.noted in
      let at : used_for after.copies image ≡ used_for (set mid.copies e.slot None) image = ap (λ (m : MapValue). used_for m.copies image) popped.gone in
      let same = used_noted_other after.copies e.slot older e.block image handing_unnoted (λ s. absurd (omega arith)) in
      omega arith

pub record FreesMapUpTo (going : Going) (n : ℕ) (before after : MapValue) (old new : List Bool) : Type 0 where
  pub blocks : after.blocks ≡ before.blocks
  pub images : after.images ≡ before.images
  pub frees : FreesUpTo going before.images n before.copies after.copies old new

pub FreesMapUpTo-none : (going : Going) (m : MapValue) (pool : List Bool) → FreesMapUpTo going 0 m m pool pool
FreesMapUpTo-none going m pool = record { blocks = refl; images = refl; frees = FreesUpTo-none going m.images m.copies pool }

pub FreesMapUpTo-past : (going : Going) (n image : ℕ) (first mid : MapValue) (old new : List Bool) → FreesMapUpTo going n first mid old new → n < length first.images → image ≡ get_or mid.images n 0
    → takes going image ≡ false → FreesMapUpTo going (n + 1) first mid old new
FreesMapUpTo-past going n image first mid old new up inside read stays = grind (arith, FreesUpTo-past, get_or_default)

-- the images between two places do not go
pub FreesMapUpTo-untaken : (going : Going) (n m : ℕ) (first mid : MapValue) (old new : List Bool) → FreesMapUpTo going n first mid old new
    → AllWithin (λ image. takes going image ≡ false) first.images n m
    → FreesMapUpTo going m first mid old new
FreesMapUpTo-untaken going n m first mid old new up stay = grind arith

-- the images between two places have no copy
pub FreesMapUpTo-unused : (going : Going) (n m : ℕ) (first mid : MapValue) (old new : List Bool) → FreesMapUpTo going n first mid old new
    → AllWithin (λ image. used_for mid.copies image ≡ 0) first.images n m
    → FreesMapUpTo going m first mid old new
FreesMapUpTo-unused going n m first mid old new up none = record {
  blocks = up.blocks;
  images = up.images;
  frees = record {
    renews = up.frees.renews;
    freed = λ k d low within test. elim (cases_lt k n) [
      | inl before ↦ up.frees.freed k d before within test
      | inr after ↦ none k d after low
    ];
  };
}

pub freed_map : (going : Going) (n : ℕ) (first after : MapValue) (old new : List Bool) → IsMap first → FreesMapUpTo going n first after old new → length first.images ≤ n
    → after ≡ record { blocks = first.blocks; images = first.images; copies = renewed (rule_of going) first.copies }
freed_map going n first after old new valid up end = renewed_map (rule_of going) first after old new (record { blocks = up.blocks; images = up.images; renews = up.frees.renews })
    (freed_all going first.images n first.copies after.copies old new valid.of_images up.frees end)

pub going_was : (going : Going) (n image : ℕ) (first mid after : MapValue) (old new : List Bool) (e : Entry) → FreesMapUpTo going n first mid old new → IsPopped mid after image e
    → takes going image ≡ true → copied_at first.copies e.slot ≡ Some (copy_of image e.block)
going_was going n image first mid after old new e up popped goes = grind arith

pub FreesMapUpTo-popped : (going : Going) (n image : ℕ) (first mid after : MapValue) (old new : List Bool) (e : Entry) → FreesMapUpTo going n first mid old new → IsPopped mid after image e
    → takes going image ≡ true → AllTaken first.copies old → FreesMapUpTo going n first after old (set new e.slot true)
FreesMapUpTo-popped going n image first mid after old new e up popped goes taken =
    let fact = IsRenewingMap-freed (rule_of going) first mid after old new image e in
    let fact1 = going_was going n image first mid after old new e up popped goes in
    let fact2 = used_out mid.copies e.slot image e.block popped.noted in
    grind (arith, common_steps, rule_takes going (copy_of image e.block) goes, used_out_other mid.copies e.slot image e.block)

pub FreesMapUpTo-done : (going : Going) (n image : ℕ) (first mid : MapValue) (old new : List Bool) → FreesMapUpTo going n first mid old new → n < length first.images → image ≡ get_or first.images n 0
    → used_for mid.copies image ≡ 0 → FreesMapUpTo going (n + 1) first mid old new
FreesMapUpTo-done going n image first mid old new up inside read none = grind (arith, cases_eq, get_or_default)

-- ## what is left where images go

pub left_by : (rule : Copied → Option Copied) (P : ℕ → Type 0) (copies : List (Option Copied)) → ((c d : Copied) → rule c ≡ Some d → P d.set) → (slot : ℕ) (d : Copied)
    → copied_at (renewed rule copies) slot ≡ Some d → P d.set
left_by rule P copies passes slot d row = by_row (copied_at copies slot) (sym (copied_at-renewed rule copies slot) ∙ row) where
  by_row : (o : Option Copied) → option_and_then rule o ≡ Some d → P d.set
  by_row None e = absurd (none-some d e)
  by_row (Some c) e = passes c d e

pub left_up_to : (newest : ℕ) (copies : List (Option Copied)) (slot : ℕ) (d : Copied) → copied_at (renewed (rule_of (UpTo newest)) copies) slot ≡ Some d → newest < d.set
left_up_to newest copies = left_by (rule_of (UpTo newest)) (λ image. newest < image) copies (λ c d gives.
    grind (arith, nat_tests))

pub left_from : (oldest : ℕ) (copies : List (Option Copied)) (slot : ℕ) (d : Copied) → copied_at (renewed (rule_of (From oldest)) copies) slot ≡ Some d → d.set ≤ oldest
left_from oldest copies = left_by (rule_of (From oldest)) (λ image. image ≤ oldest) copies (λ c d gives.
    grind (arith, nat_tests))

pub left_merged : (images : List ℕ) (copies : List (Option Copied)) (image : ℕ) (slot : ℕ) (d : Copied) → copied_at (renewed (merged copies (next_older images image) image) copies) slot ≡ Some d
    → d.set ≢ image
left_merged images copies image = left_by (merged copies (next_older images image) image) (λ s. s ≢ image) copies (λ c d gives. by_older c d (next_older images image) refl gives) where
  by_older : (c d : Copied) (o : Option ℕ) → next_older images image ≡ o → merged copies o image c ≡ Some d → d.set ≢ image
  by_older c d None is e same = elim (cases_eq c.set image) [
    | inl it ↦ none-some d (sym (merged_nowhere copies image c it) ∙ e)
    | inr apart ↦ apart (ap (λ (x : Copied). x.set) (same_Some c d (sym (merged_stays copies None image c apart) ∙ e)) ∙ same)
  ]
  by_older c d (Some older) is e same = merged_never copies older image c d (next_older_is images image older is).0 e same
