-- What a change of a volume's history leaves of its whole copies. Over lists alone.
use Rattle.std.proofs.Common.{◌≡◌, ℕ, zero, suc, ◌+◌, ◌<◌, ◌≤◌, List, [], ◌∷◌, ◌++◌, length, map, take, refl, ap, sym, ◌∙◌, arith, Bool, true, Option, Some, option_map, inl}
use Rattle.std.specs.Prelude.{◌⊎◌, ◌==◌, filter, if◌then◌else◌, nat_lt, not, slice_get, slice_set, replicate}
use Rattle.std.specs.List.{range_with_len}
use Rattle.std.proofs.lemmas.List.{map-append, length-map}
use Rattle.std.proofs.lemmas.List.FromFn.{length-range_with_len}
use Rattle.std.proofs.lemmas.Grind.{common_steps}
use Rattle.block_data.specs.BlockBytes.{zeros}
use Rattle.write_history.specs.History.{Write, Image, History, last_bytes, content, contents, point_in, sets_of, cut, written, dropped, reverted, reverted_in_part, restoring, to_restore, after_set}
use Rattle.write_history.specs.History.{up_to_set, AreLater, AreInTime}
use Rattle.cow_volume.proofs.Group.{same_number}
use Rattle.cow_volume.proofs.Reading.{last_bytes-append, content_all}
use Rattle.cow_volume.proofs.Writing.{contents-more, content-before}
use Rattle.cow_volume.proofs.GoingBack.{last_of, in_time_cut, image_at}
use Rattle.image_store.specs.Plain.{Kept, Plain, kept_of, plain_of, cut_on, gone_on, with_blocks, dropped_on, older_on, back_to, reverted_on, image_in}
use Rattle.image_store.specs.Steps.{AreMixed}

-- ## the images

kept-filter : (f : ℕ → Bool) (n : ℕ) (ws : List Write) (is : List Image) → map (kept_of n ws) (filter (λ i. f i.set) is) ≡ filter (λ k. f k.set) (map (kept_of n ws) is)
kept-filter f n ws [] = refl
kept-filter f n ws (i ∷ is) = grind (arith, kept_of n ws, kept-filter f n ws is)

-- two histories of writes with the same blocks at each point up to one
kept-same : (k n : ℕ) (ws vs : List Write) (is : List Image) → ((p : ℕ) → p ≤ k → contents n ws p ≡ contents n vs p) → AreInTime k is → map (kept_of n ws) is ≡ map (kept_of n vs) is
kept-same k n ws vs [] h time = refl
kept-same k n ws vs (i ∷ is) h time =
    ap (λ blocks. record { set = i.set; blocks = blocks } ∷ map (kept_of n ws) is) (h i.point time.0)
    ∙ ap (λ ks. kept_of n vs i ∷ ks) (kept-same k n ws vs is h time.2)

pub image_of_point : (set n : ℕ) (ws : List Write) (is : List Image) → image_in set (map (kept_of n ws) is) ≡ option_map (contents n ws) (point_in set is)
image_of_point set n ws [] = refl
image_of_point set n ws (i ∷ is) = grind (arith, image_of_point set n ws is)

pub sets_of_kept : (n : ℕ) (ws : List Write) (is : List Image) → map (λ (k : Kept). k.set) (map (kept_of n ws) is) ≡ sets_of is
sets_of_kept n ws [] = refl
sets_of_kept n ws (i ∷ is) = ap (λ xs. i.set ∷ xs) (sets_of_kept n ws is)

later-filter : (test : Image → Bool) (i : Image) (js : List Image) → AreLater i js → AreLater i (filter test js)
later-filter test i [] later = tt
later-filter test i (j ∷ js) later = grind (arith, later-filter test i js later.2)

pub in_time-filter : (test : Image → Bool) (k : ℕ) (is : List Image) → AreInTime k is → AreInTime k (filter test is)
in_time-filter test k [] time = tt
in_time-filter test k (i ∷ is) time = grind (arith, later-filter test i is time.1, in_time-filter test k is time.2)

-- ## the blocks

same-range : {X : Type 0} → (f g : ℕ → X) (a n : ℕ) → ((b : ℕ) → f b ≡ g b) → map f (range_with_len a n) ≡ map g (range_with_len a n)
same-range f g a n h = grind arith

pub length_contents : (n : ℕ) (ws : List Write) (k : ℕ) → length (contents n ws k) ≡ n
length_contents n ws k = length-map (range_with_len 0 n) (content ws k) ∙ length-range_with_len 0 n

contents-before : (n : ℕ) (ws more : List Write) (p : ℕ) → p ≤ length ws → contents n (ws ++ more) p ≡ contents n ws p
contents-before n ws more p l = same-range (content (ws ++ more) p) (content ws p) 0 n (λ b. content-before ws more p b l)

-- cut back to a point
contents-cut : (n : ℕ) (ws : List Write) (p q : ℕ) → q ≤ p → contents n (take p ws) q ≡ contents n ws q
contents-cut n ws p q l = same-range (content (take p ws) q) (content ws q) 0 n (λ b. ap (last_bytes b zeros) (take_twice p q ws l)) where
  take_twice : (p q : ℕ) (xs : List Write) → q ≤ p → take q (take p xs) ≡ take q xs
  take_twice p q xs l = grind (arith, common_steps)

contents-cut_end : (n : ℕ) (ws : List Write) (p : ℕ) → contents n (take p ws) (length (take p ws)) ≡ contents n ws p
contents-cut_end n ws p = same-range (content (take p ws) (length (take p ws))) (content ws p) 0 n (λ b. content_all (take p ws) b)

-- ## what a history becomes

pub plain-cut : (n set : ℕ) (h : History) → plain_of n (cut set h) ≡ cut_on set (plain_of n h)
plain-cut n set h = grind (arith, map-append)

pub plain-dropped : (n set : ℕ) (h : History) → plain_of n (dropped set h) ≡ dropped_on set (plain_of n h)
plain-dropped n set h = ap (λ ks. record { blocks = contents n h.writes (length h.writes); images = ks }) (kept-filter (λ s. not (s == set)) n h.writes h.images)

pub plain-gone : (n m : ℕ) (h : History) → plain_of n (record { writes = h.writes; images = after_set m h.images }) ≡ gone_on m (plain_of n h)
plain-gone n m h = ap (λ ks. record { blocks = contents n h.writes (length h.writes); images = ks }) (kept-filter (λ s. nat_lt m s) n h.writes h.images)

pub plain-written : (n : ℕ) (w : Write) (h : History) → w.block < n → AreInTime (length h.writes) h.images
    → plain_of n (written w h) ≡ with_blocks (slice_set (plain_of n h).blocks w.block w.bytes) (plain_of n h)
plain-written n w h l time = grind (arith, contents-more, kept-same, contents-before)

-- the images up to the set, cut back to its point
older-kept : (n set p : ℕ) (h : History) → AreInTime (length h.writes) (up_to_set set h.images) → point_in set h.images ≡ Some p
    → map (kept_of n (take p h.writes)) (up_to_set set h.images) ≡ (older_on set (plain_of n h)).images
older-kept n set p h time at =
    kept-same p n (take p h.writes) h.writes (up_to_set set h.images) (λ q m. contents-cut n h.writes p q m)
    (in_time_cut (length h.writes) (up_to_set set h.images) (image_at set p) (last_of set p h time at) time)
    ∙ kept-filter (λ s. not (nat_lt set s)) n h.writes h.images

back_is : (p : Plain) (o : Option (List (List ℕ))) (blocks : List (List ℕ)) → o ≡ Some blocks → back_to p o ≡ blocks
back_is p o blocks e = ap (back_to p) e

pub plain-reverted : (n set p : ℕ) (h : History) → AreInTime (length h.writes) (up_to_set set h.images) → point_in set h.images ≡ Some p
    → plain_of n (reverted set p h) ≡ reverted_on set (plain_of n h)
plain-reverted n set p h time at = grind (arith, image_of_point, contents-cut_end, back_is, older-kept)

-- ## a revert that is broken off

in_part-images : (n set p k : ℕ) (h : History) → AreInTime (length h.writes) (up_to_set set h.images)
    → map (kept_of n (reverted_in_part n set p k h).writes) (up_to_set set h.images) ≡ (older_on set (plain_of n h)).images
in_part-images n set p k h time =
    kept-same (length h.writes) n (reverted_in_part n set p k h).writes h.writes (up_to_set set h.images)
    (λ q m. contents-before n h.writes (map (restoring h.writes p) (take k (to_restore n h.writes p))) q m) time
    ∙ kept-filter (λ s. not (nat_lt set s)) n h.writes h.images

pub plain-in_part : (n set p k : ℕ) (h : History) → AreInTime (length h.writes) (up_to_set set h.images)
    → plain_of n (reverted_in_part n set p k h) ≡ with_blocks (plain_of n (reverted_in_part n set p k h)).blocks (older_on set (plain_of n h))
plain-in_part n set p k h time = ap (λ ks. record { blocks = (plain_of n (reverted_in_part n set p k h)).blocks; images = ks }) (in_part-images n set p k h time)

restored_one-if : (t : Bool) (old at here before : List ℕ) → (t ≡ true → here ≡ at) → (before ≡ old) ⊎ (before ≡ at) → ((if t then here else before) ≡ old) ⊎ ((if t then here else before) ≡ at)
restored_one-if t old at here before h e = grind arith

-- each block is as before, or as it was at the point
restored_bytes : (ws : List Write) (p b : ℕ) (bs : List ℕ) (before old : List ℕ) → (before ≡ old) ⊎ (before ≡ content ws p b)
    → (last_bytes b before (map (restoring ws p) bs) ≡ old) ⊎ (last_bytes b before (map (restoring ws p) bs) ≡ content ws p b)
restored_bytes ws p b [] before old e = e
restored_bytes ws p b (c ∷ bs) before old e =
    restored_bytes ws p b bs (if c == b then content ws p c else before) old (restored_one-if (c == b) old (content ws p b) (content ws p c) before (λ is. ap (content ws p) (same_number c b is)) e)

moved : (x y z u w : List ℕ) → x ≡ u → y ≡ w → (u ≡ w) ⊎ (u ≡ z) → (x ≡ y) ⊎ (x ≡ z)
moved x y z u w e f x7 = grind arith

mixed-range : (f g h : ℕ → List ℕ) (a n : ℕ) → ((b : ℕ) → (f b ≡ g b) ⊎ (f b ≡ h b)) → (b : ℕ)
    → (slice_get (map f (range_with_len a n)) b ≡ slice_get (map g (range_with_len a n)) b) ⊎ (slice_get (map f (range_with_len a n)) b ≡ slice_get (map h (range_with_len a n)) b)
mixed-range f g h a zero each b = inl refl
mixed-range f g h a (suc n) each zero = grind (arith, each a)
mixed-range f g h a (suc n) each (suc b) = mixed-range f g h (a + 1) n each b

pub mixed-in_part : (n set p k : ℕ) (h : History) → AreMixed (plain_of n h).blocks (contents n h.writes p) (plain_of n (reverted_in_part n set p k h)).blocks
mixed-in_part n set p k h =
    let bs = take k (to_restore n h.writes p) in
    let all = h.writes ++ map (restoring h.writes p) bs in (
      length_contents n all (length all) ∙ sym (length_contents n h.writes (length h.writes)),
      mixed-range (content all (length all)) (content h.writes (length h.writes)) (content h.writes p) 0 n (λ b.
          moved (content all (length all) b) (content h.writes (length h.writes) b) (content h.writes p b) (last_bytes b (last_bytes b zeros h.writes) (map (restoring h.writes p) bs))
          (last_bytes b zeros h.writes)
          (content_all all b ∙ last_bytes-append b zeros h.writes (map (restoring h.writes p) bs)) (content_all h.writes b)
          (restored_bytes h.writes p b bs (last_bytes b zeros h.writes) (last_bytes b zeros h.writes) (inl refl))),
    )

-- ## zeros

pub plain-fresh : (a n : ℕ) → map (content [] 0) (range_with_len a n) ≡ replicate n zeros
plain-fresh a zero = refl
plain-fresh a (suc n) = ap (λ xs. zeros ∷ xs) (plain-fresh (a + 1) n)
