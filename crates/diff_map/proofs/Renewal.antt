-- Rows that are renewed by a rule, one after another: what the rules make of a copy, and that the ordered list is the index again.
use Rattle.std.proofs.Common.{ℕ, zero, suc, ◌≡◌, ◌≢◌, ◌<◌, Bool, true, false, List, [], ◌∷◌, length, get_or, set, Option, Some, None, refl, ap, sym}
use Rattle.std.proofs.Common.{◌∙◌, arith, cond, ◌^◌, All, Contains, rules}
use Rattle.std.proofs.lemmas.Bool.{cases_eq, false≢true}
use Rattle.std.proofs.lemmas.Bool.Decides.{nat_tests}
use Rattle.std.proofs.lemmas.Grind.{common_steps}
use Rattle.std.proofs.lemmas.List.{get_or-set_same, get_or-set_other, get_or_default}
use Rattle.std.proofs.lemmas.List.Elements.{All-nil, All-head, All-tail}
use Rattle.std.proofs.lemmas.List.Folds.{list_any_at, Any-from_list_any}
use Rattle.std.proofs.lemmas.Option.{same_Some, slice_get_within}
use Rattle.std.specs.List.{slice_get, AllPairs, filter_map, cons_option}
use Rattle.std.specs.Option.{IsSome, IsNone, is_some, option_and_then, option_map}
use Rattle.slot_pool.specs.Slots.{IsTaken}
use Rattle.diff_map.specs.Copies.{copied_at, AllTaken, copy_of, HasCopy, is_copy, has_copy}
use Rattle.diff_map.specs.Links.{IsIndex, place, IsNoted, entry_now}
use Rattle.diff_map.specs.Rules.{takes, rule_of, GivesBack, merged, renewed}
use Rattle.diff_map.specs.declared.copied.Copied.{Copied}
use Rattle.diff_map.specs.declared.entry.Entry.{Entry}
use Rattle.diff_map.specs.declared.going.Going.{Going}

-- ## A walk over the entries that renews one row after the other, and gives back the slots whose rows become none.

pub some_or_none : (o : Option Copied) → IsSome o → IsNone o → ⊥
some_or_none o some none = false≢true (sym none ∙ some)

pub GivesBack-none : (rows : List (Option Copied)) (pool : List Bool) → GivesBack rows rows pool pool
GivesBack-none rows pool = grind arith

-- no two entries have one slot
pub slots_apart : (entries : List Entry) (copies : List (Option Copied)) → IsIndex entries copies → (i j : ℕ) (d e : Entry) → i < j → j < length entries
    → (get_or entries i d).slot ≢ (get_or entries j e).slot
slots_apart entries copies index i j d e low inside same = search (rules, get_or_default, same_Some)

pub get_within : (rows : List (Option Copied)) (k : ℕ) (c : Copied) → copied_at rows k ≡ Some c → k < length rows
get_within rows k c row = grind (arith, common_steps)

pub is_some_from : (o : Option Copied) (c : Copied) → o ≡ Some c → IsSome o
is_some_from o c e = ap is_some e

-- the slot of a row that is still noted is still taken
pub taken_ahead : (before after : List (Option Copied)) (old new : List Bool) (slot : ℕ) (b a : Copied) → GivesBack before after old new → AllTaken before old → copied_at before slot ≡ Some b
    → copied_at after slot ≡ Some a → IsTaken new slot
taken_ahead before after old new slot b a gives taken was is = grind arith

slice_get-set_same : (xs : List Bool) (i : ℕ) (v : Bool) → i < length xs → slice_get (set xs i v) i ≡ Some v
slice_get-set_same [] i v inside = absurd (omega arith)
slice_get-set_same (x ∷ xs) zero v inside = refl
slice_get-set_same (x ∷ xs) (suc i) v inside = slice_get-set_same xs i v (omega arith)

slice_get-set_other : (xs : List Bool) (i k : ℕ) (v : Bool) → k ≢ i → slice_get (set xs i v) k ≡ slice_get xs k
slice_get-set_other [] i k v other = refl
slice_get-set_other (x ∷ xs) zero zero v other = absurd (other refl)
slice_get-set_other (x ∷ xs) zero (suc k) v other = refl
slice_get-set_other (x ∷ xs) (suc i) zero v other = refl
slice_get-set_other (x ∷ xs) (suc i) (suc k) v other = slice_get-set_other xs i k v (λ same. other (ap suc same))

-- a noted slot's row becomes none, and the slot goes back
pub GivesBack-free : (before after : List (Option Copied)) (old new : List Bool) (slot : ℕ) (b a : Copied) → GivesBack before after old new → AllTaken before old → copied_at before slot ≡ Some b
    → copied_at after slot ≡ Some a → GivesBack before (set after slot None) old (set new slot true)
GivesBack-free before after old new slot b a gives taken was is =
    search (rules, slice_get_within, taken_ahead, get_or-set_same, get_within, cases_eq, slice_get-set_same, slice_get-set_other, get_or-set_other)

-- a noted slot's row becomes another, and the slot stays
pub GivesBack-keep : (before after : List (Option Copied)) (old new : List Bool) (slot : ℕ) (a v : Copied) → GivesBack before after old new → copied_at after slot ≡ Some a
    → GivesBack before (set after slot (Some v)) old new
GivesBack-keep before after old new slot a v gives is = grind (arith, get_or-set_same, get_within, cases_eq, some_or_none, is_some_from, get_or-set_other)

-- ## What the rules make of a copy, against the ordered list.

pub rule_takes : (going : Going) (c : Copied) → takes going c.set ≡ true → rule_of going c ≡ None
rule_takes going c test = ap (λ b. cond {A = Option Copied} b None (Some c)) test

pub rule_leaves : (going : Going) (c : Copied) → takes going c.set ≡ false → rule_of going c ≡ Some c
rule_leaves going c test = ap (λ b. cond {A = Option Copied} b None (Some c)) test

same_copy : (image block : ℕ) → is_copy image block (Some (copy_of image block)) ≡ true
same_copy image block = grind (arith, nat_tests)

pub has_from_row : (copies : List (Option Copied)) (slot image block : ℕ) → copied_at copies slot ≡ Some (copy_of image block) → has_copy copies image block ≡ true
has_from_row copies slot image block row = grind (arith, list_any_at, get_within, same_copy)

copy_is : (image block : ℕ) (c : Copied) → is_copy image block (Some c) ≡ true → c ≡ copy_of image block
copy_is image block c test = grind arith

pub row_from_has : (copies : List (Option Copied)) (image block : ℕ) → has_copy copies image block ≡ true → HasCopy copies image block
row_from_has copies image block test = let found = Any-from_list_any (is_copy image block) copies test in grind (arith, common_steps, get_or_default, copy_is)

-- what the rule of a merge makes of the image's copies and of others
pub merged_goes : (copies : List (Option Copied)) (older image : ℕ) (c : Copied) → c.set ≡ image → has_copy copies older c.block ≡ true → merged copies (Some older) image c ≡ None
merged_goes copies older image c is has = grind arith

pub merged_moves : (copies : List (Option Copied)) (older image : ℕ) (c : Copied) → c.set ≡ image → has_copy copies older c.block ≡ false
    → merged copies (Some older) image c ≡ Some (copy_of older c.block)
merged_moves copies older image c is lacks = grind arith

pub merged_stays : (copies : List (Option Copied)) (older : Option ℕ) (image : ℕ) (c : Copied) → c.set ≢ image → merged copies older image c ≡ Some c
merged_stays copies older image c other = grind arith

pub merged_nowhere : (copies : List (Option Copied)) (image : ℕ) (c : Copied) → c.set ≡ image → merged copies None image c ≡ None
merged_nowhere copies image c is = grind arith

-- ## The ordered list after its rows were renewed and it was settled: it is their index again.

module _ {X Y : Type 0} (h : X → Option Y) where
  all_of : (Q : Y → Type 0) (x : X) (ys : List Y) → ((y : Y) → h x ≡ Some y → Q y) → All Q ys → (o : Option Y) → h x ≡ o → All Q (cons_option o ys)
  all_of x0 x ys first rest o e = grind arith

  -- what holds of each thing that the function gives
  pub All-filter_map : (P : X → Type 0) (Q : Y → Type 0) → ((x : X) (y : Y) → P x → h x ≡ Some y → Q y) → (xs : List X) → All P xs → All Q (filter_map h xs)
  All-filter_map P Q step [] all = All-nil Q
  All-filter_map P Q step (x ∷ xs) all = all_of Q x (filter_map h xs) (λ y e. step x y (All-head P x xs all) e) (All-filter_map P Q step xs (All-tail P x xs all)) (h x) refl

  pairs_of : (S : Y → Y → Type 0) (x : X) (ys : List Y) → ((y : Y) → h x ≡ Some y → All (S y) ys) → AllPairs S ys → (o : Option Y) → h x ≡ o → AllPairs S (cons_option o ys)
  pairs_of x0 x ys first rest o e = grind arith

  pub AllPairs-filter_map : (P : X → Type 0) (R : X → X → Type 0) (S : Y → Y → Type 0) → ((x z : X) (y w : Y) → P x → P z → R x z → h x ≡ Some y → h z ≡ Some w → S y w) → (xs : List X) → All P xs
      → AllPairs R xs → AllPairs S (filter_map h xs)
  AllPairs-filter_map P R S step [] all pairs = λ i j d low inside. absurd (omega arith)
  AllPairs-filter_map P R S step (x ∷ xs) all pairs =
      let heads : All (R x) xs = λ k d inside. pairs 0 (suc k) d (omega arith) (omega arith) in
      let tails : AllPairs R xs = λ i j d low inside. pairs (suc i) (suc j) d (omega arith) (omega arith) in
      let both : All (λ z. P z × R x z) xs = λ k d inside. (All-tail P x xs all k d inside, heads k d inside) in
      pairs_of S x (filter_map h xs)
      (λ y e. All-filter_map (λ z. P z × R x z) (S y) (λ z w p g. step x z y w (All-head P x xs all) p.0 p.1 e g) xs both)
      (AllPairs-filter_map P R S step xs (All-tail P x xs all) tails) (h x) refl

  later_of : (ys : List Y) (y : Y) (o : Option Y) → Contains ys y → Contains (cons_option o ys) y
  later_of ys y None found = found
  later_of ys y (Some w) found = (suc found.0, let l = found.1 in omega arith, found.2)

  first_of_all : (ys : List Y) (y : Y) (o : Option Y) → o ≡ Some y → Contains (cons_option o ys) y
  first_of_all ys y o e = grind arith

  found_of : (z : X) (xs : List X) (x : X) (y : Y) → h x ≡ Some y → (Contains xs x → Contains (filter_map h xs) y) → (k : ℕ) → k < length (z ∷ xs) → get_or (z ∷ xs) k x ≡ x
      → Contains (cons_option (h z) (filter_map h xs)) y
  found_of z xs x y gives rest k inside is = grind (arith, first_of_all, later_of)

  pub Contains-filter_map : (xs : List X) (x : X) (y : Y) → Contains xs x → h x ≡ Some y → Contains (filter_map h xs) y
  Contains-filter_map [] x y at gives = absurd (let l = at.1 in omega arith)
  Contains-filter_map (z ∷ xs) x y at gives = found_of z xs x y gives (λ found. Contains-filter_map xs x y found gives) at.0 at.1 at.2

then_some : {A B : Type 0} (f : A → Option B) (o : Option A) (y : B) → option_and_then f o ≡ Some y → (x : A) × (o ≡ Some x) × (f x ≡ Some y)
then_some f o y e = grind arith

pub copied_at-renewed : (rule : Copied → Option Copied) (copies : List (Option Copied)) (k : ℕ) → copied_at (renewed rule copies) k ≡ option_and_then rule (copied_at copies k)
copied_at-renewed rule copies k = grind (arith, common_steps)

-- a renewed row comes from a row
pub row_before : (rule : Copied → Option Copied) (copies : List (Option Copied)) (slot : ℕ) (d : Copied) → copied_at (renewed rule copies) slot ≡ Some d
    → (c : Copied) × (copied_at copies slot ≡ Some c) × (rule c ≡ Some d)
row_before rule copies slot d row = then_some rule (copied_at copies slot) d (sym (copied_at-renewed rule copies slot) ∙ row)

-- the rule keeps each copy's block, and the order of two copies of one block
pub record KeepsOrder (rule : Copied → Option Copied) (copies : List (Option Copied)) : Type 0 where
  pub stays : (slot : ℕ) (c d : Copied) → copied_at copies slot ≡ Some c → rule c ≡ Some d → (d.block ≡ c.block) × (d.set < 2 ^ 32)
  pub order : (slot other : ℕ) (c e d f : Copied) → copied_at copies slot ≡ Some c → copied_at copies other ≡ Some e → c.block ≡ e.block → c.set < e.set → rule c ≡ Some d → rule e ≡ Some f
      → d.set < f.set

module _ (rule : Copied → Option Copied) (entries : List Entry) (copies : List (Option Copied)) (index : IsIndex entries copies) (keeps : KeepsOrder rule copies) where
  -- what the settled list makes of an entry
  from_entry : (e f : Entry) → IsNoted copies e → entry_now (renewed rule copies) e ≡ Some f
      → (d : Copied) × (copied_at (renewed rule copies) e.slot ≡ Some d) × (rule (copy_of e.set e.block) ≡ Some d) × (record { block = d.block; set = d.set; slot = e.slot } ≡ f)
  from_entry e f noted now = grind (arith, common_steps)

  renewed_each : (e f : Entry) → IsNoted copies e → entry_now (renewed rule copies) e ≡ Some f → IsNoted (renewed rule copies) f
  renewed_each e f noted now = grind (arith, from_entry)

  renewed_order : (e g : Entry) (f h : Entry) → IsNoted copies e → IsNoted copies g → place e < place g → entry_now (renewed rule copies) e ≡ Some f → entry_now (renewed rule copies) g ≡ Some h
      → place f < place h
  renewed_order e g f h e_noted g_noted low e_now g_now = grind (arith, from_entry, cases_eq)

  pub IsIndex-renewed : IsIndex (filter_map (entry_now (renewed rule copies)) entries) (renewed rule copies)
  IsIndex-renewed = record {
    in_order = AllPairs-filter_map (entry_now (renewed rule copies)) (IsNoted copies) (λ e f. place e < place f) (λ e f. place e < place f)
        (λ e g f h p q low x y. renewed_order e g f h p q low x y) entries index.each index.in_order;
    each = All-filter_map (entry_now (renewed rule copies)) (IsNoted copies) (IsNoted (renewed rule copies)) renewed_each entries index.each;
    all = λ slot d row.
        let was = row_before rule copies slot d row in
        let at = index.all slot was.0 was.1 in
        Contains-filter_map (entry_now (renewed rule copies)) entries (record { block = was.0.block; set = was.0.set; slot = slot }) (record { block = d.block; set = d.set; slot = slot }) at
        (ap (option_map (λ copied. record { block = copied.block; set = copied.set; slot = slot })) row);
  }
