-- Lists and blocks by place: after a write, a part or blocks in front, and blocks that are written one after another.
use Rattle.std.proofs.Common.{ℕ, zero, suc, ◌≡◌, ◌≢◌, ◌<◌, ◌≤◌, List, [], ◌∷◌, ◌++◌, length, take, drop, Some, slice_get, slice_set, ◌⊎◌, inl, inr, refl, sym}
use Rattle.std.proofs.Common.{ap, ◌∙◌, arith, ◌+◌, ◌-◌, ◌*◌, slice_index_or, All, map, Option, None, IfSome, option_map, Result, OnErr}
use Rattle.std.proofs.lemmas.Grind.{common_steps}
use Rattle.std.proofs.lemmas.List.{length-append, append-nil, drop_at, drop-drop}
use Rattle.std.proofs.lemmas.List.FromFn.{length-map-range_with_len}
use Rattle.std.specs.List.{concat, range_with_len}
use Rattle.volume_device.specs.InMemory.{AreBlocks}
use Rattle.diff_area.specs.AreaValue.{with_first, page_bytes, header_bytes, table_blocks}
use Rattle.diff_area.specs.Format.{part, pages_for}
use Rattle.diff_area.specs.declared.table_record.Record.{Record}

-- ## Lists read by place, after a write, a part or blocks in front.

pub past : {X : Type 0} {x : X} (k : ℕ) → slice_get {X = X} [] k ≡ Some x → ⊥
past k h = grind arith

pub get-set_other : {X : Type 0} (xs : List X) (i j : ℕ) (v : X) → j ≢ i → slice_get (slice_set xs i v) j ≡ slice_get xs j
get-set_other [] i j v h = refl
get-set_other (y ∷ ys) zero zero v h = absurd (h refl)
get-set_other (y ∷ ys) zero (suc j) v h = refl
get-set_other (y ∷ ys) (suc i) zero v h = refl
get-set_other (y ∷ ys) (suc i) (suc j) v h = get-set_other ys i j v (λ e. h (ap suc e))

pub get-set_same : {X : Type 0} (xs : List X) (i : ℕ) (v : X) → i < length xs → slice_get (slice_set xs i v) i ≡ Some v
get-set_same [] i v h = absurd (omega arith)
get-set_same (y ∷ ys) zero v h = refl
get-set_same (y ∷ ys) (suc i) v h = get-set_same ys i v (omega arith)

-- what stands at a place after a write
pub get-set : {X : Type 0} (xs : List X) (i j : ℕ) (v x : X) → slice_get (slice_set xs i v) j ≡ Some x → ((j ≡ i) × (x ≡ v)) ⊎ ((j ≢ i) × (slice_get xs j ≡ Some x))
get-set [] i j v x h = cc
get-set (y ∷ ys) zero zero v x h = inl (refl, cc)
get-set (y ∷ ys) zero (suc j) v x h = inr (λ e. omega arith, h)
get-set (y ∷ ys) (suc i) zero v x h = inr (λ e. omega arith, h)
get-set (y ∷ ys) (suc i) (suc j) v x h = elim (get-set ys i j v x h) [ inl p ↦ inl (ap suc p.0, p.1) | inr p ↦ inr (λ e. p.0 (omega arith), p.1) ]

pub get-take : {X : Type 0} (n : ℕ) (xs : List X) (j : ℕ) → j < n → slice_get (take n xs) j ≡ slice_get xs j
get-take zero xs j h = absurd (omega arith)
get-take (suc n) [] j h = refl
get-take (suc n) (y ∷ ys) zero h = refl
get-take (suc n) (y ∷ ys) (suc j) h = get-take n ys j (omega arith)

empty : {X : Type 0} (j : ℕ) → slice_get {X = X} [] j ≡ slice_get [] (suc j)
empty j = grind arith

drop-nil : {X : Type 0} (n : ℕ) → drop {A = X} n [] ≡ []
drop-nil n = grind arith

pub get-with_first-within : (first blocks : List (List ℕ)) (j : ℕ) → j < length first → slice_get (with_first first blocks) j ≡ slice_get first j
get-with_first-within [] blocks j h = absurd (omega arith)
get-with_first-within (y ∷ ys) blocks zero h = refl
get-with_first-within (y ∷ ys) [] (suc j) h = ap (λ z. slice_get (ys ++ z) j) (sym (drop-nil (length ys))) ∙ get-with_first-within ys [] j (omega arith)
get-with_first-within (y ∷ ys) (d ∷ ds) (suc j) h = get-with_first-within ys ds j (omega arith)

pub get-with_first-past : (first blocks : List (List ℕ)) (j : ℕ) → length first ≤ j → slice_get (with_first first blocks) j ≡ slice_get blocks j
get-with_first-past [] blocks j h = refl
get-with_first-past (y ∷ ys) blocks zero h = absurd (omega arith)
get-with_first-past (y ∷ ys) [] (suc j) h = ap (λ z. slice_get (ys ++ z) j) (sym (drop-nil (length ys))) ∙ get-with_first-past ys [] j (omega arith) ∙ empty j
get-with_first-past (y ∷ ys) (d ∷ ds) (suc j) h = get-with_first-past ys ds j (omega arith)

pub get-push : {X : Type 0} (xs : List X) (y x : X) (k : ℕ) → slice_get (xs ++ y ∷ []) k ≡ Some x → (slice_get xs k ≡ Some x) ⊎ (x ≡ y)
get-push [] y x zero h = inr cc
get-push [] y x (suc k) h = absurd (past k h)
get-push (z ∷ xs) y x zero h = inl h
get-push (z ∷ xs) y x (suc k) h = get-push xs y x k h

pub get-of_take : {X : Type 0} (n : ℕ) (xs : List X) (k : ℕ) (x : X) → slice_get (take n xs) k ≡ Some x → slice_get xs k ≡ Some x
get-of_take zero xs k x h = absurd (past k h)
get-of_take (suc n) [] k x h = h
get-of_take (suc n) (y ∷ ys) zero x h = h
get-of_take (suc n) (y ∷ ys) (suc k) x h = get-of_take n ys k x h

-- ## Parts of blocks of one size that stand one after another.

-- blocks of n bytes
abbrev pub AreOf : ℕ → List (List ℕ) → Type 0
AreOf n [] = Unit {0}
AreOf n (x ∷ xs) = (length x ≡ n) × AreOf n xs

pub length-concat : (n : ℕ) (bs : List (List ℕ)) → AreOf n bs → length (concat bs) ≡ n * length bs
length-concat n [] h = omega arith
length-concat n (x ∷ xs) h = grind (arith, common_steps, length-append, length-concat n xs h.1)

drop-front : (x ys : List ℕ) (n m : ℕ) → length x ≡ n → drop (m + n) (x ++ ys) ≡ drop m ys
drop-front x ys n m h = grind (arith, common_steps, drop-drop m n (x ++ ys), drop_at x ys n h)

take-front : (x ys : List ℕ) (n m : ℕ) → length x ≡ n → take (m + n) (x ++ ys) ≡ x ++ take m ys
take-front [] ys n m h = ap (λ k. take k ys) (omega arith)
take-front (y ∷ x) ys n m h = let e : m + n ≡ suc (m + (n - 1)) = omega arith in grind (arith, common_steps, take-front x ys (n - 1) m (omega arith))

none : (n : ℕ) → drop {A = ℕ} n [] ≡ []
none n = grind arith

no_more : (n : ℕ) → take {A = ℕ} n [] ≡ []
no_more n = grind arith

drop-blocks : (n a : ℕ) (bs : List (List ℕ)) → AreOf n bs → drop (n * a) (concat bs) ≡ concat (drop a bs)
drop-blocks n zero bs h = let e : n * 0 ≡ 0 = omega arith in ap (λ k. drop k (concat bs)) e
drop-blocks n (suc a) [] h = none (n * suc a)
drop-blocks n (suc a) (x ∷ xs) h = grind (arith, common_steps, drop-blocks n a xs h.1, drop-front x (concat xs) n (n * a) h.0)

take-blocks : (n c : ℕ) (bs : List (List ℕ)) → AreOf n bs → take (n * c) (concat bs) ≡ concat (take c bs)
take-blocks n zero bs h = let e : n * 0 ≡ 0 = omega arith in ap (λ k. take k (concat bs)) e
take-blocks n (suc c) [] h = no_more (n * suc c)
take-blocks n (suc c) (x ∷ xs) h = grind (arith, common_steps, take-blocks n c xs h.1, take-front x (concat xs) n (n * c) h.0)

pub drop-whole : (n a : ℕ) (bs : List (List ℕ)) → AreOf n bs → AreOf n (drop a bs)
drop-whole n zero bs h = h
drop-whole n (suc a) [] h = tt
drop-whole n (suc a) (x ∷ xs) h = drop-whole n a xs h.1

-- c blocks from block a on
pub part-blocks : (n a c at len : ℕ) (bs : List (List ℕ)) → AreOf n bs → at ≡ n * a → len ≡ n * c → part at len (concat bs) ≡ concat (take c (drop a bs))
unfolding part
part-blocks n a c at len bs h e f = grind (arith, drop-blocks, take-blocks, drop-whole)

first_of_drop : (k : ℕ) (bs : List (List ℕ)) → concat (take 1 (drop k bs)) ≡ slice_index_or bs k []
first_of_drop k bs = grind (arith, common_steps, append-nil)

-- one block
pub part-block : (n k at : ℕ) (bs : List (List ℕ)) → AreOf n bs → at ≡ n * k → part at n (concat bs) ≡ slice_index_or bs k []
part-block n k at bs h e = part-blocks n k 1 at n bs h e (omega arith) ∙ first_of_drop k bs

pub are_of : (n : ℕ) (bs : List (List ℕ)) → All (λ block. length block ≡ n) bs → AreOf n bs
are_of n [] h = tt
are_of n (x ∷ xs) h = (h 0 [] (omega arith), are_of n xs (λ k d b. h (suc k) d (omega arith)))

-- ## Blocks that are written one after another in place of the first ones.

-- the block at place p is written once those before it are
pub with_first-write : (t ds : List (List ℕ)) (p : ℕ) (x : List ℕ) → slice_get t p ≡ Some x → p < length ds → slice_set (with_first (take p t) ds) p x ≡ with_first (take (suc p) t) ds
with_first-write [] ds p x h b = cc
with_first-write (y ∷ ys) [] p x h b = absurd (omega arith)
with_first-write (y ∷ ys) (d ∷ ds) zero x h b = let e : y ≡ x = cc in ap (λ z. z ∷ ds) (sym e)
with_first-write (y ∷ ys) (d ∷ ds) (suc p) x h b = ap (λ z. y ∷ z) (with_first-write ys ds p x h (omega arith))

-- or stands there already
pub with_first-keep : (t ds : List (List ℕ)) (p : ℕ) (x : List ℕ) → slice_get t p ≡ Some x → slice_get ds p ≡ Some x → with_first (take p t) ds ≡ with_first (take (suc p) t) ds
with_first-keep [] ds p x h b = cc
with_first-keep (y ∷ ys) [] p x h b = cc
with_first-keep (y ∷ ys) (d ∷ ds) zero x h b = let e : d ≡ y = cc in ap (λ z. z ∷ ds) e
with_first-keep (y ∷ ys) (d ∷ ds) (suc p) x h b = ap (λ z. y ∷ z) (with_first-keep ys ds p x h b)

-- the same of what a device tells
pub told-write : (t : List (List ℕ)) (told a b : Option (List (List ℕ))) (p q : ℕ) (x : List ℕ) → b ≡ option_map (λ blocks. slice_set blocks p x) a → a ≡ option_map (with_first (take p t)) told → IfSome told (λ ds. p < length ds) → slice_get t p ≡ Some x → q ≡ suc p → b ≡ option_map (with_first (take q t)) told
told-write t told a b p q x e f h s n = grind (arith, with_first-write)

pub told-keep : (t : List (List ℕ)) (told a : Option (List (List ℕ))) (p q : ℕ) (x : List ℕ) → a ≡ option_map (with_first (take p t)) told → ((ds : List (List ℕ)) → told ≡ Some ds → slice_get ds p ≡ Some x) → slice_get t p ≡ Some x → q ≡ suc p → a ≡ option_map (with_first (take q t)) told
told-keep t None a p q x f h s n = f
told-keep t (Some ds) a p q x f h s n = grind (arith, common_steps, with_first-keep t ds p x s (h ds refl))

-- a list that a function gives, place by place
pub get-map_range : {X : Type 0} (f : ℕ → X) (a n k m : ℕ) → k < n → m ≡ a + k → slice_get (map f (range_with_len a n)) k ≡ Some (f m)
get-map_range f a zero k m h e = absurd (omega arith)
get-map_range f a (suc n) zero m h e = let s : a ≡ m = omega arith in ap (λ z. Some (f z)) s
get-map_range f a (suc n) (suc k) m h e = get-map_range f (a + 1) n k m (omega arith) (omega arith)

-- nothing is written yet
pub told-none : (t : List (List ℕ)) (told : Option (List (List ℕ))) → told ≡ option_map (with_first (take 0 t)) told
told-none t told = grind arith

-- a place within the device is within the blocks that it tells
pub told-within : (told : Option (List (List ℕ))) (n p : ℕ) → IfSome told (AreBlocks n) → p < n → IfSome told (λ ds. p < length ds)
told-within told n p h b = grind arith

-- the blocks of a table
pub table-header : (volumes : List ℕ) (records : List Record) → slice_get (table_blocks volumes records) 0 ≡ Some (header_bytes volumes records)
unfolding table_blocks
table-header volumes records = refl

pub table-page : (volumes : List ℕ) (records : List Record) (k p : ℕ) → k < pages_for (length records) → p ≡ 1 + k → slice_get (table_blocks volumes records) p ≡ Some (page_bytes records k)
unfolding table_blocks
table-page volumes records k p h e = grind (arith, get-map_range)

pub length-table : (volumes : List ℕ) (records : List Record) → length (table_blocks volumes records) ≡ 1 + pages_for (length records)
unfolding table_blocks
length-table volumes records = grind (arith, length-map-range_with_len)

-- a value read by its place
pub get_is : {X : Type 0} (xs : List X) (k : ℕ) (d x : X) → k < length xs → slice_index_or xs k d ≡ x → slice_get xs k ≡ Some x
get_is [] k d x h e = absurd (omega arith)
get_is (y ∷ ys) zero d x h e = ap Some e
get_is (y ∷ ys) (suc k) d x h e = get_is ys k d x (omega arith) e

-- what holds where a call failed holds anyhow
pub on_err : {T E P : Type 0} (r : Result T E) → P → OnErr r P
on_err r p = grind arith
