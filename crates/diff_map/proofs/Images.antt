-- The images of a volume in order of their sets: the next older one, what is left where some go, and that the others find what they found.
use Rattle.std.proofs.Common.{ℕ, zero, suc, ◌≡◌, ◌≢◌, ◌<◌, ◌≤◌, ◌^◌, ◌⊎◌, inl, inr, Bool, true, false, cond, eqb, leb, ltb, not, List, [], ◌∷◌, length, get_or}
use Rattle.std.proofs.Common.{take, drop, ◌-◌, Option, Some, None, refl, ap, sym, ◌∙◌, arith, All, Contains, rules}
use Rattle.std.proofs.lemmas.Bool.{cases_eq, cases_lt, lt-ltb, le-ltb, cases_Bool}
use Rattle.std.proofs.lemmas.Bool.Decides.{nat_tests}
use Rattle.std.proofs.lemmas.Grind.{common_steps}
use Rattle.std.proofs.lemmas.List.{get_or_default}
use Rattle.std.proofs.lemmas.List.Elements.{All-filter, All-head, All-tail}
use Rattle.std.proofs.lemmas.List.Kept.{AllPairs-filter}
use Rattle.std.proofs.lemmas.List.Sums.{length-filter, count_by-le-length}
use Rattle.std.proofs.lemmas.Option.{none-some, same_Some}
use Rattle.std.specs.List.{AllPairs, AllWithin, filter, fold, copy_within, remove}
use Rattle.std.specs.List.Sorted.{IsNonDecreasingBy}
use Rattle.diff_map.specs.Copies.{IsFound, IsAbsent, KeepsFinds, copied_at, copy_of, has_copy, AreImages, MapValue}
use Rattle.diff_map.specs.Rules.{next_older, renewed, dropped, merged}
use Rattle.diff_map.specs.declared.copied.Copied.{Copied}
use Rattle.diff_map.proofs.Renewal.{row_before, row_from_has, merged_goes, merged_moves, merged_stays, merged_nowhere}

-- ## The images of a volume in order of their sets: the next older one, and what is left where some go.

pub AreImages-filter : (p : ℕ → Bool) (images : List ℕ) → AreImages images → AreImages (filter p images)
AreImages-filter p images are = record {
  ascend = AllPairs-filter (λ s t. s < t) p images are.ascend;
  above_zero = All-filter p (λ s. (0 < s) × (s < 2 ^ 32)) images are.above_zero;
  few = let a = are.few in let n = length-filter p images in let m = count_by-le-length p images in omega arith;
}

module _ {X : Type 0} (p : X → Bool) where
  later_of : (b : Bool) (z x : X) (ys : List X) → Contains ys x → Contains (cond b (z ∷ ys) ys) x
  later_of true z x ys found = (suc found.0, let l = found.1 in omega arith, found.2)
  later_of false z x ys found = found

  found_of : (z x : X) (xs : List X) → p x ≡ true → (Contains xs x → Contains (filter p xs) x) → (k : ℕ) → k < length (z ∷ xs) → get_or (z ∷ xs) k x ≡ x
      → Contains (cond (p z) (z ∷ filter p xs) (filter p xs)) x
  found_of z x xs passes rest k inside is = grind (arith, later_of)

  pub Contains-filter : (xs : List X) (x : X) → p x ≡ true → Contains xs x → Contains (filter p xs) x
  Contains-filter [] x passes at = absurd (let l = at.1 in omega arith)
  Contains-filter (z ∷ xs) x passes at = found_of z x xs passes (Contains-filter xs x passes) at.0 at.1 at.2

-- a walk for the next older image, from what it began with
abbrev walk : ℕ → Option ℕ → List ℕ → Option ℕ
walk set start images = fold (λ older image. cond (ltb image set) (Some image) older) start images

contains_later : (x y : ℕ) (xs : List ℕ) → Contains xs y → Contains (x ∷ xs) y
contains_later x y xs found = (suc found.0, let l = found.1 in omega arith, found.2)

-- it answers what it began with, or an image below the set
walk_answers : (set : ℕ) (start : Option ℕ) (images : List ℕ) → (walk set start images ≡ start) ⊎ ((older : ℕ) × (walk set start images ≡ Some older) × (older < set) × Contains images older)
walk_answers set start [] = inl refl
walk_answers set start (x ∷ xs) =
    elim (cases_lt x set) [
      | inl low ↦
          let first : walk set start (x ∷ xs) ≡ walk set (Some x) xs = ap (λ b. walk set (cond b (Some x) start) xs) (lt-ltb x set low) in
          elim (walk_answers set (Some x) xs) [
            | inl kept ↦ inr (x, first ∙ kept, low, (0, omega arith, refl))
            | inr took ↦ inr (took.0, first ∙ took.1, took.2, contains_later x took.0 xs took.3)
          ]
      | inr high ↦
          let first : walk set start (x ∷ xs) ≡ walk set start xs = ap (λ b. walk set (cond b (Some x) start) xs) (le-ltb x set high) in
          elim (walk_answers set start xs) [
            | inl kept ↦ inl (first ∙ kept)
            | inr took ↦ inr (took.0, first ∙ took.1, took.2, contains_later x took.0 xs took.3)
          ]
    ]

-- the next older image is one of the images, and below the set
pub next_older_is : (images : List ℕ) (set older : ℕ) → next_older images set ≡ Some older → (older < set) × Contains images older
next_older_is images set older is = grind (arith, common_steps, walk_answers set None images, none-some older)

-- and no image below the set is above it
walk_reaches : (set : ℕ) (start : Option ℕ) (images : List ℕ) → AllPairs (λ s t. s < t) images → (k d : ℕ) → k < length images → get_or images k d < set
    → (older : ℕ) × (walk set start images ≡ Some older) × (get_or images k d ≤ older)
walk_reaches set start [] up k d inside low = absurd (omega arith)
walk_reaches set start (x ∷ xs) up zero d inside low =
    let first : walk set start (x ∷ xs) ≡ walk set (Some x) xs = ap (λ b. walk set (cond b (Some x) start) xs) (lt-ltb x set low) in
    elim (walk_answers set (Some x) xs) [
      | inl kept ↦ (x, first ∙ kept, omega arith)
      | inr took ↦
          let at = took.3 in
          let above : x < get_or xs at.0 took.0 = up 0 (suc at.0) took.0 (omega arith) (let l = at.1 in omega arith) in
          let is : get_or xs at.0 took.0 ≡ took.0 = at.2 in
          (took.0, first ∙ took.1, omega arith)
    ]
walk_reaches set start (x ∷ xs) up (suc k) d inside low = walk_reaches set (cond (ltb x set) (Some x) start) xs (λ i j e lower within. up (suc i) (suc j) e (omega arith) (omega arith)) k d
    (omega arith) low

pub next_older_reaches : (images : List ℕ) (set image : ℕ) → AllPairs (λ s t. s < t) images → Contains images image → image < set → (older : ℕ) × (next_older images set ≡ Some older) × (image ≤ older)
next_older_reaches images set image up at low =
    let is : get_or images at.0 image ≡ image = at.2 in
    let reached = walk_reaches set None images up at.0 image at.1 (omega arith) in
    (reached.0, reached.1, let r : get_or images at.0 image ≤ reached.0 = reached.2 in omega arith)

-- no image is older than the oldest
pub none_before_oldest : (images : List ℕ) → AllPairs (λ s t. s < t) images → 0 < length images → next_older images (get_or images 0 0) ≡ None
none_before_oldest images up some = elim (walk_answers (get_or images 0 0) None images) [
  | inl kept ↦ kept
  | inr took ↦
      let at = took.3 in
      let low : took.0 < get_or images 0 0 = took.2 in
      let first : get_or images 0 0 ≡ get_or images 0 took.0 = get_or_default images 0 0 took.0 some in
      absurd (elim (cases_eq at.0 0) [
        | inl same ↦ let e : get_or images at.0 took.0 ≡ get_or images 0 took.0 = ap (λ k. get_or images k took.0) same in omega arith
        | inr other ↦ let above = up 0 at.0 took.0 (omega arith) at.1 in omega arith
      ])
]

filter_all : {X : Type 0} (p : X → Bool) (xs : List X) → All (λ x. p x ≡ true) xs → filter p xs ≡ xs
filter_all p [] all = refl
filter_all p (x ∷ xs) all = ap (λ b. cond b (x ∷ filter p xs) (filter p xs)) (All-head (λ y. p y ≡ true) x xs all) ∙ ap (λ ys. x ∷ ys) (filter_all p xs (All-tail (λ y. p y ≡ true) x xs all))

-- without the oldest image the others are left
pub filter-oldest : (images : List ℕ) → AllPairs (λ s t. s < t) images → filter (λ s. not (eqb s (get_or images 0 0))) images ≡ drop 1 images
filter-oldest [] up = refl
filter-oldest (x ∷ xs) up =
    let here : not (eqb x x) ≡ false = grind (arith, nat_tests) in
    let above : All (λ y. not (eqb y x) ≡ true) xs = λ k d inside. let more : x < get_or xs k d = up 0 (suc k) d (omega arith) (omega arith) in grind (arith, nat_tests) in
    ap (λ b. cond b (x ∷ filter (λ s. not (eqb s x)) xs) (filter (λ s. not (eqb s x)) xs)) here ∙ filter_all (λ s. not (eqb s x)) xs above

-- without those up to a set the others are left
pub filter_from : {X : Type 0} (p : X → Bool) (n : ℕ) (xs : List X) → AllWithin (λ x. p x ≡ false) xs 0 n → AllWithin (λ x. p x ≡ true) xs n (length xs) → drop n xs ≡ filter p xs
filter_from p zero [] go stay = refl
filter_from p (suc n) [] go stay = refl
filter_from p zero (x ∷ xs) go stay = sym (filter_all p (x ∷ xs) (λ k d inside. stay k d (omega arith) inside))
filter_from p (suc n) (x ∷ xs) go stay =
    filter_from p n xs (λ k d low high. go (suc k) d (omega arith) (omega arith)) (λ k d low high. stay (suc k) d (omega arith) (omega arith))
    ∙ sym (ap (λ b. cond b (x ∷ filter p xs) (filter p xs)) (go 0 x (omega arith) (omega arith)))

-- without one of them, or without those from a place on
pub filter_one : {X : Type 0} (p : X → Bool) (n : ℕ) (xs : List X) → n < length xs → ((k : ℕ) (d : X) → k < length xs → k ≢ n → p (get_or xs k d) ≡ true) → ((d : X) → p (get_or xs n d) ≡ false)
    → remove xs n ≡ filter p xs
filter_one p n [] inside stay go = absurd (omega arith)
filter_one p zero (x ∷ xs) inside stay go =
    sym (ap (λ b. cond b (x ∷ filter p xs) (filter p xs)) (go x) ∙ filter_all p xs (λ k d within. stay (suc k) d (omega arith) (omega arith)))
filter_one p (suc n) (x ∷ xs) inside stay go =
    ap (λ ys. x ∷ ys) (filter_one p n xs (omega arith) (λ k d within apart. stay (suc k) d (omega arith) (λ e. apart (omega arith))) go)
    ∙ sym (ap (λ b. cond b (x ∷ filter p xs) (filter p xs)) (stay 0 x (omega arith) (omega arith)))

pub filter_until : {X : Type 0} (p : X → Bool) (n : ℕ) (xs : List X) → AllWithin (λ x. p x ≡ true) xs 0 n → AllWithin (λ x. p x ≡ false) xs n (length xs) → take n xs ≡ filter p xs
filter_until p zero [] stay go = refl
filter_until p (suc n) [] stay go = refl
filter_until p zero (x ∷ xs) stay go =
    filter_until p zero xs (λ k d low high. absurd (omega arith)) (λ k d low high. go (suc k) d (omega arith) (omega arith))
    ∙ sym (ap (λ b. cond b (x ∷ filter p xs) (filter p xs)) (go 0 x (omega arith) (omega arith)))
filter_until p (suc n) (x ∷ xs) stay go =
    ap (λ ys. x ∷ ys) (filter_until p n xs (λ k d low high. stay (suc k) d (omega arith) (omega arith)) (λ k d low high. go (suc k) d (omega arith) (omega arith)))
    ∙ sym (ap (λ b. cond b (x ∷ filter p xs) (filter p xs)) (stay 0 x (omega arith) (omega arith)))

pub images_dropped : (set n : ℕ) (images : List ℕ) → AllWithin (λ image. image ≤ set) images 0 n → AllWithin (λ image. set < image) images n (length images)
    → drop n images ≡ filter (λ image. ltb set image) images
images_dropped set n images go stay = grind (arith, filter_from)

pub images_until : (set n : ℕ) (images : List ℕ) → AllWithin (λ image. image ≤ set) images 0 n → AllWithin (λ image. set < image) images n (length images)
    → take n images ≡ filter (λ image. leb image set) images
images_until set n images stay go = grind (arith, filter_until)

-- the items that are left where the first ones were written over
pub left_in_front : {X : Type 0} (xs : List X) (n m len : ℕ) → len ≡ length xs → n ≤ length xs → m ≡ len - n → take m (copy_within xs n len 0) ≡ drop n xs
left_in_front xs n m len as_long within is = grind (arith, common_steps)

-- ## Where an image stands among the ascending images, and in the list of their numbers.

pub images_rise : (images : List ℕ) → AllPairs (λ older newer. older < newer) images → IsNonDecreasingBy (λ image. image) images
images_rise images order i j d le inside = grind arith

-- the first image from a set on is that of the set
pub place_is : (images : List ℕ) (image n : ℕ) → AllPairs (λ older newer. older < newer) images → Contains images image → AllWithin (λ i. i < image) images 0 n
    → AllWithin (λ i. image ≤ i) images n (length images) → (n < length images) × ((d : ℕ) → get_or images n d ≡ image)
place_is images image n rise at before onward =
    let is : get_or images at.0 image ≡ image = at.2 in
    let inside = at.1 in
    let far : n ≤ at.0 = elim (cases_lt at.0 n) [ inl low ↦ let b = before at.0 image (omega arith) low in absurd (omega arith) | inr high ↦ high ] in (
      omega arith,
      λ d. get_or_default images n d image (omega arith) ∙ elim (cases_eq n at.0) [
        | inl same ↦ ap (λ k. get_or images k image) same ∙ is
        | inr other ↦ let up = rise n at.0 image (omega arith) inside in let high = onward n image (omega arith) (omega arith) in absurd (omega arith)
      ],
    )

-- ## A map from which images go.

abbrev pub map_of : ℕ → List ℕ → List (Option Copied) → MapValue
map_of blocks images copies = record { blocks = blocks; images = images; copies = copies }

pub map_same : (blocks : ℕ) (images later : List ℕ) (copies after : List (Option Copied)) → images ≡ later → copies ≡ after → map_of blocks images copies ≡ map_of blocks later after
map_same blocks images later copies after i c = grind arith

-- to merge the oldest image down is to drop it
pub drop_is : (m : MapValue) (oldest : ℕ) → AreImages m.images → 0 < length m.images → oldest ≡ get_or m.images 0 0
    → map_of m.blocks (filter (λ image. not (eqb image oldest)) m.images) (renewed (merged m.copies (next_older m.images oldest) oldest) m.copies) ≡ map_of m.blocks (drop 1 m.images)
    (renewed (dropped (get_or m.images 0 0)) m.copies)
drop_is m oldest are some is =
    map_same m.blocks _ _ _ _
    (ap (λ n. filter (λ image. not (eqb image n)) m.images) is ∙ filter-oldest m.images are.ascend)
    (ap (λ n. renewed (merged m.copies (next_older m.images n) n) m.copies) is ∙ ap (λ o. renewed (merged m.copies o (get_or m.images 0 0)) m.copies) (none_before_oldest m.images are.ascend some))

-- ## Each image but the one that goes finds what it found before.

-- what a merge made of a row: it stays for another image, or it went to the next older one, which lacked it
pub data Merged (copies : List (Option Copied)) (older : Option ℕ) (image : ℕ) (c d : Copied) : Type 0 where
  stayed : c.set ≢ image → d ≡ c → Merged copies older image c d
  moved : (next : ℕ) → c.set ≡ image → older ≡ Some next → d ≡ copy_of next c.block → has_copy copies next c.block ≡ false → Merged copies older image c d

merged_down : (copies : List (Option Copied)) (older : Option ℕ) (image : ℕ) (c d : Copied) → c.set ≡ image → merged copies older image c ≡ Some d → Merged copies older image c d
merged_down copies None image c d same gives = absurd (none-some d (sym (merged_nowhere copies image c same) ∙ gives))
merged_down copies (Some next) image c d same gives = elim (cases_Bool (has_copy copies next c.block)) [
  | inl has ↦ absurd (none-some d (sym (merged_goes copies next image c same has) ∙ gives))
  | inr lacks ↦ moved next same refl (same_Some d (copy_of next c.block) (sym gives ∙ merged_moves copies next image c same lacks)) lacks
]

pub merged_from : (copies : List (Option Copied)) (older : Option ℕ) (image : ℕ) (c d : Copied) → merged copies older image c ≡ Some d → Merged copies older image c d
merged_from copies older image c d gives = elim (cases_eq c.set image) [
  | inr other ↦ stayed other (same_Some d c (sym gives ∙ merged_stays copies older image c other))
  | inl same ↦ merged_down copies older image c d same gives
]

module _ (copies : List (Option Copied)) (images : List ℕ) (image : ℕ) (are : AreImages images) (of_images : (slot : ℕ) (c : Copied) → copied_at copies slot ≡ Some c → Contains images c.set) where
  abbrev rows : List (Option Copied)
  rows = renewed (merged copies (next_older images image) image) copies

  -- a renewed row of a block, and the row that it was
  was_later : (asked block newer : ℕ) (c : Copied) → Merged copies (next_older images image) image c (copy_of newer block) → asked ≤ newer → (c.block ≡ block) × (asked ≤ c.set) × (newer ≤ c.set)
  was_later asked block newer c x4 le = grind (arith, next_older_is)

  row_of : (slot block : ℕ) (c : Copied) → copied_at copies slot ≡ Some c → c.block ≡ block → copied_at copies slot ≡ Some (copy_of c.set block)
  row_of slot block c row same = row ∙ ap (λ k. Some (copy_of c.set k)) same

  row_after : (slot : ℕ) (c : Copied) → copied_at copies slot ≡ Some c → copied_at rows slot ≡ merged copies (next_older images image) image c
  row_after slot c row = grind (arith, common_steps)

  -- a renewed row is no nearer than the first that was found
  no_nearer : (asked block slot newer : ℕ) (f : IsFound copies asked block slot) (other : ℕ) (c : Copied) → copied_at copies other ≡ Some c
      → Merged copies (next_older images image) image c (copy_of newer block) → asked ≤ newer → f.image ≢ image → f.image ≤ newer
  no_nearer asked block slot newer f other c row (stayed apart is) le f_other =
      let b : block ≡ c.block = ap (λ x. x.block) is in
      let s : newer ≡ c.set = ap (λ x. x.set) is in
      let first = f.first other c.set (row_of other block c row (sym b)) (omega arith) in
      omega arith
  no_nearer asked block slot newer f other c row (moved next same is d_is lacks) le f_other =
      let b : block ≡ c.block = ap (λ x. x.block) d_is in
      let s : newer ≡ next = ap (λ x. x.set) d_is in
      let below = (next_older_is images image next is).0 in
      let first = f.first other c.set (row_of other block c row (sym b)) (omega arith) in
      let reached = next_older_reaches images image f.image are.ascend (of_images slot (copy_of f.image block) f.noted) (omega arith) in
      let is_next : reached.0 ≡ next = same_Some reached.0 next (sym reached.1 ∙ is) in
      let most : f.image ≤ reached.0 = reached.2 in
      omega arith

  -- nor than the next older image, where the first that was found is the one that goes
  no_nearer_next : (asked block slot newer older : ℕ) (f : IsFound copies asked block slot) (other : ℕ) (c : Copied) → next_older images image ≡ Some older → copied_at copies other ≡ Some c
      → Merged copies (next_older images image) image c (copy_of newer block) → asked ≤ newer → f.image ≡ image → older ≤ newer
  no_nearer_next asked block slot newer older f other c next_is row x10 le same = grind (arith, next_older_is, row_of, same_Some)

  merge_found : (asked block slot : ℕ) → Contains images asked → asked ≢ image → IsFound copies asked block slot → IsFound rows asked block slot
  merge_found asked block slot at other f = elim (cases_eq f.image image) [
    | inr apart ↦ record {
      image = f.image;
      noted = row_after slot (copy_of f.image block) f.noted ∙ merged_stays copies (next_older images image) image (copy_of f.image block) apart;
      reached = f.reached;
      first = λ k newer row le.
          let before = row_before (merged copies (next_older images image) image) copies k (copy_of newer block) row in
          no_nearer asked block slot newer f k before.0 before.1 (merged_from copies (next_older images image) image before.0 (copy_of newer block) before.2) le apart;
    }
    | inl same ↦
        let next = next_older_reaches images image asked are.ascend at (omega arith) in
        let below = (next_older_is images image next.0 next.1).0 in
        let lacks : has_copy copies next.0 block ≡ false = elim (cases_Bool (has_copy copies next.0 block)) [
          | inl has ↦ let there = row_from_has copies next.0 block has in let most : asked ≤ next.0 = next.2 in let first = f.first there.0 next.0 there.1 most in absurd (omega arith)
          | inr none ↦ none
        ] in
        record {
          image = next.0;
          noted = row_after slot (copy_of f.image block) f.noted ∙ ap (λ o. merged copies o image (copy_of f.image block)) next.1 ∙ merged_moves copies next.0 image (copy_of f.image block) same lacks;
          reached = next.2;
          first = λ k newer row le.
              let before = row_before (merged copies (next_older images image) image) copies k (copy_of newer block) row in
              no_nearer_next asked block slot newer next.0 f k before.0 next.1 before.1 (merged_from copies (next_older images image) image before.0 (copy_of newer block) before.2) le same;
        }
  ]

  merge_absent : (asked block : ℕ) → IsAbsent copies asked block → IsAbsent rows asked block
  merge_absent asked block absent slot newer row le =
      let before = row_before (merged copies (next_older images image) image) copies slot (copy_of newer block) row in
      let was = was_later asked block newer before.0 (merged_from copies (next_older images image) image before.0 (copy_of newer block) before.2) le in
      absent slot before.0.set (row_of slot block before.0 before.1 was.0) was.1

  pub merge_finds : (blocks : ℕ) (left : List ℕ) → KeepsFinds (record { blocks = blocks; images = images; copies = copies }) (record { blocks = blocks; images = left; copies = rows }) image
  merge_finds blocks left = search (rules, merge_found, merge_absent)
