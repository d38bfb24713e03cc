-- An area keeps exactly the copies of what was overwritten, and none twice.
use Rattle.std.proofs.Common.{◌≡◌, ◌∙◌, ℕ, ◌+◌, ◌-◌, ◌==◌, ◌<◌, ◌≤◌, zero, suc, List, [], ◌∷◌, ◌++◌, Option, Some, None, refl, Bool, true, false, ap, sym, map, filter, take, drop, length, arith}
use Rattle.std.specs.Prelude.{◌&&◌, ◌||◌, not, nat_lt, nat_le, if◌then◌else◌, slice_get}
use Rattle.promises.proofs.Words.{list_any, range_with_len, list_any-append, Write, Image, History, point_in, AreLater, AreInTime, names, blocks_named, Placed}
use Rattle.promises.proofs.Words.{Copy, copy_of, named, writes_since, copies_of, copies_from, VolumeRow, Plan, blocks_in, placed}
use Rattle.promises.proofs.Words.{is_among, Act, images_in_time, at, place_from, is_cut_by, is_overwritten, is_copy, are_once, KeepsCopies, within, and-false}
use Rattle.promises.proofs.Words.{some_same, and_from, and_parts, or-false, true_not_false}
use Rattle.promises.proofs.Members.{same_number, none_passes, range_passes, beyond, still_less}
use Rattle.promises.proofs.Contents.{later_set, InTimeAll}

-- ## the copies of one image

any_other : (k u n b : ℕ) (ws : List Write) (i : Image) (bs : List ℕ) → ((k == u) && (i.set == n)) ≡ false → list_any (is_copy u n b) (map (copy_of k ws i) bs) ≡ false
any_other k u n b ws i [] e = refl
any_other k u n b ws i (x ∷ bs) e = grind (arith, any_other k u n b ws i bs e)

any_own : (k u n b : ℕ) (ws : List Write) (i : Image) (bs : List ℕ) → (k == u) ≡ true → (i.set == n) ≡ true → list_any (is_copy u n b) (map (copy_of k ws i) bs) ≡ is_among b bs
any_own k u n b ws i [] e f = refl
any_own k u n b ws i (x ∷ bs) e f = grind (arith, any_own k u n b ws i bs e f)

-- ## which blocks are overwritten

-- no image of a later set comes
overwritten_by : (n b : ℕ) (images : List Image) (i : ℕ) (ws : List Write) → ((j : ℕ) → is_cut_by n j images ≡ false) → names ws b ≡ is_overwritten n b images i ws
overwritten_by n b images i [] f = refl
overwritten_by n b images i (w ∷ ws) f = grind (arith, overwritten_by n b images (i + 1) ws f)

-- one is cut at q writes
overwritten_up_to : (n b q : ℕ) (images : List Image) (i : ℕ) (ws : List Write) → ((j : ℕ) → is_cut_by n j images ≡ nat_le q j)
    → names (take (q - i) ws) b ≡ is_overwritten n b images i ws
overwritten_up_to n b q images i [] f = ap (λ xs. names xs b) (take_none (q - i)) where
  take_none : (k : ℕ) → take {A = Write} k [] ≡ []
  take_none zero = refl
  take_none (suc k) = refl
overwritten_up_to n b q images i (w ∷ ws) f = by_time (nat_le q i) refl (overwritten_up_to n b q images (i + 1) ws f) where
  none_left : (q i : ℕ) → nat_le q i ≡ true → q - i ≡ 0
  none_left q i e = grind arith

  none_more : (q i : ℕ) → nat_le q i ≡ true → q - (i + 1) ≡ 0
  none_more q i e = grind arith

  one_left : (q i : ℕ) → nat_le q i ≡ false → q - i ≡ suc (q - (i + 1))
  one_left q i e = grind arith

  off : (c : Bool) → false ≡ ((c && false) || false)
  off true = refl
  off false = refl

  plain : (c d : Bool) → (c || d) ≡ ((c && true) || d)
  plain true d = refl
  plain false d = refl

  by_time : (c : Bool) → nat_le q i ≡ c → names (take (q - (i + 1)) ws) b ≡ is_overwritten n b images (i + 1) ws
      → names (take (q - i) (w ∷ ws)) b ≡ (((w.block == b) && not (is_cut_by n i images)) || is_overwritten n b images (i + 1) ws)
  by_time true e ih =
      ap (λ k. names (take k (w ∷ ws)) b) (none_left q i e)
      ∙ off (w.block == b)
      ∙ ap (λ c. ((w.block == b) && false) || c) (sym (ap (λ k. names (take k ws) b) (none_more q i e)) ∙ ih)
      ∙ ap (λ c. ((w.block == b) && not c) || is_overwritten n b images (i + 1) ws) (sym (f i ∙ e))
  by_time false e ih =
      ap (λ k. names (take k (w ∷ ws)) b) (one_left q i e)
      ∙ plain (w.block == b) (names (take (q - (i + 1)) ws) b)
      ∙ ap (λ c. ((w.block == b) && true) || c) ih
      ∙ ap (λ c. ((w.block == b) && not c) || is_overwritten n b images (i + 1) ws) (sym (f i ∙ e))

-- the same of the images behind one that is no later
pub overwritten_along : (n b : ℕ) (x : Image) (images : List Image) (i : ℕ) (ws : List Write) → nat_lt n x.set ≡ false
    → is_overwritten n b images i ws ≡ is_overwritten n b (x ∷ images) i ws
overwritten_along n b x images i ws e = grind arith

-- later images come at no fewer writes
later_cuts : (n j : ℕ) (x : Image) (images : List Image) → AreLater x images → is_cut_by n j images ≡ true → nat_le x.point j ≡ true
later_cuts n j x [] h e = absurd cc
later_cuts n j x (y ∷ images) h e = grind (arith, later_cuts n j x images h.2)

-- ## the copies of a volume

no_image : (k u n b m : ℕ) (ws : List Write) (images : List Image) → point_in n images ≡ None → list_any (is_copy u n b) (copies_of k m ws images) ≡ false
no_image k u n b m ws [] e = refl
no_image k u n b m ws (i ∷ newer) e = grind (arith, list_any-append, any_other, and-false, no_image k u n b m ws newer)

other_volume : (k u n b m : ℕ) (ws : List Write) (images : List Image) → (k == u) ≡ false → list_any (is_copy u n b) (copies_of k m ws images) ≡ false
other_volume k u n b m ws [] e = refl
other_volume k u n b m ws (i ∷ newer) e = grind (arith, list_any-append, any_other, other_volume k u n b m ws newer e)

-- no later image is of the same set
none_of_set : (i : Image) (images : List Image) (n : ℕ) → AreLater i images → (i.set == n) ≡ true → point_in n images ≡ None
none_of_set i images n h e = grind (arith, true_not_false, later_set)

-- of an image that comes before the one of set n
pub earlier : (n p : ℕ) (i : Image) (images : List Image) → AreLater i images → point_in n images ≡ Some p → nat_lt n i.set ≡ false
earlier n p i [] h e = absurd cc
earlier n p i (j ∷ images) h e = grind (arith, earlier n p i images h.2)

pub since_cut : (n b : ℕ) (ws : List Write) (i : Image) (newer : List Image) → AreLater i newer → AreInTime (length ws) newer → (i.set == n) ≡ true
    → names (writes_since ws i.point newer) b ≡ is_overwritten n b (i ∷ newer) i.point (drop i.point ws)
since_cut n b ws i newer h t e = grind (arith, overwritten_by, overwritten_up_to, later_cuts)

among_named : (m b : ℕ) (ws : List Write) → b < m → is_among b (blocks_named m ws) ≡ names ws b
among_named m b ws l = grind (arith, range_passes)

exactly_of : (k n b m p : ℕ) (ws : List Write) (images : List Image) → AreInTime (length ws) images → point_in n images ≡ Some p → b < m
    → list_any (is_copy k n b) (copies_of k m ws images) ≡ is_overwritten n b images p (drop p ws)
exactly_of k n b m p ws [] t e l = absurd cc
exactly_of k n b m p ws (i ∷ newer) t e l = by_set (i.set == n) refl e (λ f. exactly_of k n b m p ws newer t.2 f l) where
  by_set : (c : Bool) → (i.set == n) ≡ c → (if c then Some i.point else point_in n newer) ≡ Some p
      → (point_in n newer ≡ Some p → list_any (is_copy k n b) (copies_of k m ws newer) ≡ is_overwritten n b newer p (drop p ws))
      → list_any (is_copy k n b) (copies_of k m ws (i ∷ newer)) ≡ is_overwritten n b (i ∷ newer) p (drop p ws)
  by_set true f e ih =
      list_any-append (is_copy k n b) (map (copy_of k ws i) (named m ws i newer)) (copies_of k m ws newer)
      ∙ ap (λ c. list_any (is_copy k n b) (map (copy_of k ws i) (named m ws i newer)) || c) (no_image k k n b m ws newer (none_of_set i newer n t.1 f))
      ∙ or-false (list_any (is_copy k n b) (map (copy_of k ws i) (named m ws i newer)))
      ∙ any_own k k n b ws i (named m ws i newer) (same_number k) f
      ∙ among_named m b (writes_since ws i.point newer) l
      ∙ since_cut n b ws i newer t.1 t.2 f
      ∙ ap (λ q. is_overwritten n b (i ∷ newer) q (drop q ws)) (some_same i.point p e)
  by_set false f e ih =
      list_any-append (is_copy k n b) (map (copy_of k ws i) (named m ws i newer)) (copies_of k m ws newer)
      ∙ ap (λ c. c || list_any (is_copy k n b) (copies_of k m ws newer)) (any_other k k n b ws i (named m ws i newer) (ap (λ c. (k == k) && c) f ∙ and-false (k == k)))
      ∙ ih e
      ∙ overwritten_along n b i newer p (drop p ws) (earlier n p i newer t.1 e)

-- ## the copies of a group

abbrev blocks_at : Option Placed → ℕ
blocks_at None = 0
blocks_at (Some p) = p.blocks

place_least : (k : ℕ) (ps : List Placed) (u : ℕ) → k ≤ place_from k ps u
place_least k [] u = omega arith
place_least k (p ∷ ps) zero = omega arith
place_least k (p ∷ ps) (suc u) = grind (arith, λ (j : ℕ). place_least j ps u)

none_below : (j k n b : ℕ) (ps : List Placed) (hs : List History) → k < j → list_any (is_copy k n b) (copies_from j ps hs) ≡ false
none_below j k n b [] hs l = refl
none_below j k n b (p ∷ ps) [] l = refl
none_below j k n b (p ∷ ps) (h ∷ hs) l = by_group p.within (λ i g. none_below i k n b ps hs g) where
  by_group : (c : Bool) → ((i : ℕ) → k < i → list_any (is_copy k n b) (copies_from i ps hs) ≡ false)
      → list_any (is_copy k n b) (if c then copies_of j p.blocks h.writes h.images ++ copies_from (j + 1) ps hs else copies_from j ps hs) ≡ false
  by_group true ih =
      list_any-append (is_copy k n b) (copies_of j p.blocks h.writes h.images) (copies_from (j + 1) ps hs)
      ∙ ap (λ c. c || list_any (is_copy k n b) (copies_from (j + 1) ps hs)) (other_volume j k n b p.blocks h.writes h.images (beyond j k l))
      ∙ ih (j + 1) (still_less j k l)
  by_group false ih = ih j l

exactly_in : (k : ℕ) (ps : List Placed) (hs : List History) (u n b p : ℕ) → InTimeAll hs → within (slice_get ps u) ≡ true → b < blocks_at (slice_get ps u)
    → point_in n (at hs u).images ≡ Some p
    → list_any (is_copy (place_from k ps u) n b) (copies_from k ps hs) ≡ is_overwritten n b (at hs u).images p (drop p (at hs u).writes)
exactly_in k [] hs u n b p t e l f = absurd cc
exactly_in k (x ∷ ps) [] u n b p t e l f = absurd cc
exactly_in k (x ∷ ps) (h ∷ hs) zero n b p t e l f = by_group x.within e where
  by_group : (c : Bool) → c ≡ true
      → list_any (is_copy k n b) (if c then copies_of k x.blocks h.writes h.images ++ copies_from (k + 1) ps hs else copies_from k ps hs) ≡ is_overwritten n b h.images p (drop p h.writes)
  by_group true g =
      list_any-append (is_copy k n b) (copies_of k x.blocks h.writes h.images) (copies_from (k + 1) ps hs)
      ∙ ap (λ c. list_any (is_copy k n b) (copies_of k x.blocks h.writes h.images) || c) (none_below (k + 1) k n b ps hs (omega arith))
      ∙ or-false (list_any (is_copy k n b) (copies_of k x.blocks h.writes h.images))
      ∙ exactly_of k n b x.blocks p h.writes h.images (t 0) f l
  by_group false g = absurd cc
exactly_in k (x ∷ ps) (h ∷ hs) (suc u) n b p t e l f = by_group x.within (λ j. exactly_in j ps hs u n b p (λ v. t (suc v)) e l f) where
  by_group : (c : Bool) → ((j : ℕ) → list_any (is_copy (place_from j ps u) n b) (copies_from j ps hs) ≡ is_overwritten n b (at hs u).images p (drop p (at hs u).writes))
      → list_any (is_copy (place_from (if c then k + 1 else k) ps u) n b)
      (if c then copies_of k x.blocks h.writes h.images ++ copies_from (k + 1) ps hs else copies_from k ps hs)
      ≡ is_overwritten n b (at hs u).images p (drop p (at hs u).writes)
  by_group c ih = grind (arith, list_any-append, other_volume, place_least)

-- ## none twice

abbrev NotAmong : List Copy → List Copy → Type 0
NotAmong ys [] = Unit {0}
NotAmong ys (c ∷ cs) = (list_any (is_copy c.volume c.set c.block) ys ≡ false) × NotAmong ys cs

once_both : (xs ys : List Copy) → are_once xs ≡ true → are_once ys ≡ true → NotAmong ys xs → are_once (xs ++ ys) ≡ true
once_both [] ys e f h = f
once_both (c ∷ xs) ys e f h = grind (arith, and_parts, and_from, list_any-append, once_both xs ys (grind arith) f h.1)

once_range : (k : ℕ) (ws : List Write) (i : Image) (test : ℕ → Bool) (a n : ℕ) → are_once (map (copy_of k ws i) (filter test (range_with_len a n))) ≡ true
once_range k ws i test a zero = refl
once_range k ws i test a (suc n) = grind (arith, and_from, any_own, same_number, none_passes, once_range k ws i test (a + 1) n)

not_newer : (k m : ℕ) (ws : List Write) (i : Image) (newer : List Image) (bs : List ℕ) → AreLater i newer → NotAmong (copies_of k m ws newer) (map (copy_of k ws i) bs)
not_newer k m ws i newer [] h = tt
not_newer k m ws i newer (b ∷ bs) h = (no_image k k i.set b m ws newer (none_of_set i newer i.set h (same_number i.set)), not_newer k m ws i newer bs h)

once_of : (k m most : ℕ) (ws : List Write) (images : List Image) → AreInTime most images → are_once (copies_of k m ws images) ≡ true
once_of k m most ws [] t = refl
once_of k m most ws (i ∷ newer) t =
    once_both (map (copy_of k ws i) (named m ws i newer)) (copies_of k m ws newer) (once_range k ws i (names (writes_since ws i.point newer)) 0 m)
    (once_of k m most ws newer t.2) (not_newer k m ws i newer (named m ws i newer) t.1)

not_below : (k m : ℕ) (ws : List Write) (images : List Image) (ps : List Placed) (hs : List History) → NotAmong (copies_from (k + 1) ps hs) (copies_of k m ws images)
not_below k m ws [] ps hs = tt
not_below k m ws (i ∷ newer) ps hs = over (not_below k m ws newer ps hs) (named m ws i newer) where
  over : NotAmong (copies_from (k + 1) ps hs) (copies_of k m ws newer) → (bs : List ℕ) → NotAmong (copies_from (k + 1) ps hs) (map (copy_of k ws i) bs ++ copies_of k m ws newer)
  over ih [] = ih
  over ih (b ∷ bs) = (none_below (k + 1) k i.set b ps hs (omega arith), over ih bs)

once_in : (k : ℕ) (ps : List Placed) (hs : List History) → InTimeAll hs → are_once (copies_from k ps hs) ≡ true
once_in k [] hs t = refl
once_in k (p ∷ ps) [] t = refl
once_in k (p ∷ ps) (h ∷ hs) t = by_group p.within (λ j. once_in j ps hs (λ v. t (suc v))) where
  by_group : (c : Bool) → ((j : ℕ) → are_once (copies_from j ps hs) ≡ true)
      → are_once (if c then copies_of k p.blocks h.writes h.images ++ copies_from (k + 1) ps hs else copies_from k ps hs) ≡ true
  by_group true ih = once_both (copies_of k p.blocks h.writes h.images) (copies_from (k + 1) ps hs)
      (once_of k p.blocks (length h.writes) h.writes h.images (t 0)) (ih (k + 1)) (not_below k p.blocks h.writes h.images ps hs)
  by_group false ih = ih k

-- ## the volumes of a plan

blocks_placed : (g : ℕ) (rows : List VolumeRow) (u : ℕ) → blocks_at (slice_get (map (placed g) rows) u) ≡ blocks_in (slice_get rows u)
blocks_placed g [] u = refl
blocks_placed g (r ∷ rows) zero = refl
blocks_placed g (r ∷ rows) (suc u) = blocks_placed g rows u

pub keeps_copies : (s : Plan) (so_far : List Act) → KeepsCopies s so_far
keeps_copies s so_far = grind (arith, exactly_in, images_in_time, blocks_placed, once_in)
