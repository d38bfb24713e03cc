-- How many slots the images of a volume use: where images go, no more; where one is cut, as many; where a write comes, at most one
-- more, and that where it needs a slot; where the volume is reverted, no more.
use Rattle.std.proofs.Common.{◌≡◌, ◌∙◌, ℕ, ◌+◌, ◌-◌, ◌==◌, ◌≤◌, List, [], ◌∷◌, ◌++◌, Some, refl, Bool, true, false, ap, sym, subst, map, filter, length, take, drop, arith}
use Rattle.std.specs.Prelude.{not, nat_lt, if◌then◌else◌, slice_range}
use Rattle.promises.proofs.Words.{take-add, drop-append-le, take-append-drop, drop_all, take_all, length-drop, list_any-append, Write, Image}
use Rattle.promises.proofs.Words.{point_in, up_to_set, AreLater, AreInTime, names, blocks_named, to_restore, restoring, writes_since, used, needs_slot}
use Rattle.promises.proofs.Words.{some_same, or_cases, unless, true_not_false}
use Rattle.promises.proofs.Members.{chain, no_less}
use Rattle.promises.proofs.Named.{NameNoMore, named_no_more, named_in_parts, named_by_none, named_by_one, inner_no_more, later_no_more, since_later, inner_append, restored_no_more}
use Rattle.std.proofs.lemmas.List.{drop-drop}

-- ## points that rise

-- from one point on, and up to another
abbrev pub Rising : ℕ → ℕ → List Image → Type 0
Rising from most [] = from ≤ most
Rising from most (i ∷ images) = (from ≤ i.point) × Rising i.point most images

pub rising_most : (from most : ℕ) (images : List Image) → Rising from most images → from ≤ most
rising_most from most [] h = h
rising_most from most (i ∷ images) h = chain from i.point most h.0 (rising_most i.point most images h.1)

pub rising_from : (a from most : ℕ) (images : List Image) → a ≤ from → Rising from most images → Rising a most images
rising_from a from most [] l h = chain a from most l h
rising_from a from most (i ∷ images) l h = (chain a from i.point l h.0, h.1)

pub rising_fewer : (test : Image → Bool) (from most : ℕ) (images : List Image) → Rising from most images → Rising from most (filter test images)
rising_fewer test from most [] h = h
rising_fewer test from most (i ∷ images) h = grind (arith, rising_from, rising_fewer test i.point most images h.1)

pub rising_cut : (n from most : ℕ) (images : List Image) → Rising from most images → Rising from most (images ++ record { set = n; point = most } ∷ [])
rising_cut n from most [] h = (h, no_less most)
rising_cut n from most (i ∷ images) h = (h.0, rising_cut n i.point most images h.1)

pub rising_later : (i : Image) (most : ℕ) (images : List Image) → i.point ≤ most → AreLater i images → AreInTime most images → Rising i.point most images
rising_later i most [] l h t = l
rising_later i most (j ∷ images) l h t = (h.1, rising_later j most images t.0 t.1 t.2)

pub rising : (most : ℕ) (images : List Image) → AreInTime most images → Rising 0 most images
rising most [] t = omega arith
rising most (i ∷ images) t = (omega arith, rising_later i most images t.0 t.1 t.2)

-- ## images go

split_inner : (p q r : ℕ) (ws : List Write) → p ≤ q → q ≤ r → take (r - p) (drop p ws) ≡ take (q - p) (drop p ws) ++ take (r - q) (drop (q - p) (drop p ws))
split_inner p q r ws l h = ap (λ n. take n (drop p ws)) (omega arith) ∙ take-add (q - p) (r - q) (drop p ws)

drop_twice : (p q : ℕ) (ws : List Write) → p ≤ q → drop (q - p) (drop p ws) ≡ drop q ws
drop_twice p q ws l = drop-drop (q - p) p ws ∙ ap (λ n. drop n ws) (omega arith)

-- the writes since one point are those up to a later one, and those since that
since_in_parts : (ws : List Write) (p q : ℕ) (newer : List Image) → p ≤ q → Rising q (length ws) newer → writes_since ws p newer ≡ slice_range ws p q ++ writes_since ws q newer
since_in_parts ws p q newer l h = grind (arith, take-append-drop, drop_twice, split_inner)

-- the slots of an image with this point, and of these newer ones
abbrev used_from : ℕ → List Write → ℕ → List Image → ℕ
used_from n ws p newer = length (blocks_named n (writes_since ws p newer)) + used n ws newer

fewer_from : (test : Image → Bool) (n : ℕ) (ws : List Write) (p : ℕ) (newer : List Image) → Rising p (length ws) newer → used_from n ws p (filter test newer) ≤ used_from n ws p newer
fewer_from test n ws p [] h = no_less (used_from n ws p [])
fewer_from test n ws p (i ∷ newer) h = by_test (test i) (fewer_from test n ws i.point newer h.1) (fewer_from test n ws p newer (rising_from p i.point (length ws) newer h.0 h.1))
  where
    over : (x whole a b u : ℕ) → x ≤ whole + u → whole ≤ a + b → x ≤ a + (b + u)
    over x whole a b u l h = omega arith

    by_test : (b : Bool) → used_from n ws i.point (filter test newer) ≤ used_from n ws i.point newer → used_from n ws p (filter test newer) ≤ used_from n ws p newer
        → used_from n ws p (if b then i ∷ filter test newer else filter test newer) ≤ used_from n ws p (i ∷ newer)
    by_test true ih from = omega arith
    by_test false ih from =
        over (used_from n ws p (filter test newer)) (length (blocks_named n (writes_since ws p newer))) (length (blocks_named n (slice_range ws p i.point)))
        (length (blocks_named n (writes_since ws i.point newer))) (used n ws newer)
        from
        (subst (λ xs. length (blocks_named n xs) ≤ length (blocks_named n (slice_range ws p i.point)) + length (blocks_named n (writes_since ws i.point newer)))
        (sym (since_in_parts ws p i.point newer h.0 h.1))
        (named_in_parts n (slice_range ws p i.point) (writes_since ws i.point newer)))

-- fewer images use no more slots
pub fewer_used : (test : Image → Bool) (n from : ℕ) (ws : List Write) (images : List Image) → Rising from (length ws) images → used n ws (filter test images) ≤ used n ws images
fewer_used test n from ws [] h = omega arith
fewer_used test n from ws (i ∷ images) h = grind (arith, fewer_from, fewer_used test n i.point ws images h.1)

-- a block that is not named since one point needs a slot, where no newer image has a greater point
needs_from : (b : ℕ) (ws : List Write) (i : Image) (newer : List Image) → Rising i.point (length ws) newer → names (drop i.point ws) b ≡ false → needs_slot ws (i ∷ newer) b ≡ true
needs_from b ws i [] h e = ap not e
needs_from b ws i (j ∷ newer) h e = needs_from b ws j newer h.1 (none_later (names (drop j.point ws) b) refl) where
  none_later : (t : Bool) → names (drop j.point ws) b ≡ t → t ≡ false
  none_later t f = grind (arith, since_later)

-- where a write needs a slot with fewer images, it needs one with all
pub fewer_need : (test : Image → Bool) (b from : ℕ) (ws : List Write) (images : List Image) → Rising from (length ws) images
    → needs_slot ws (filter test images) b ≡ true → needs_slot ws images b ≡ true
fewer_need test b from ws [] h e = e
fewer_need test b from ws (i ∷ images) h e = by_test (test i) e (fewer_need test b i.point ws images h.1) where
  with_one : (newer : List Image) → needs_slot ws newer b ≡ true → needs_slot ws (i ∷ newer) b ≡ true
  with_one newer f = grind arith

  at_least : (newer : List Image) → (needs_slot ws newer b ≡ true → needs_slot ws images b ≡ true) → needs_slot ws (i ∷ newer) b ≡ true → needs_slot ws (i ∷ images) b ≡ true
  at_least newer ih f = grind (arith, needs_from, unless, with_one)

  by_test : (t : Bool) → needs_slot ws (if t then i ∷ filter test images else filter test images) b ≡ true
      → (needs_slot ws (filter test images) b ≡ true → needs_slot ws images b ≡ true) → needs_slot ws (i ∷ images) b ≡ true
  by_test t f ih = grind (arith, at_least, with_one)

-- ## an image is cut

up_to_end : (p : ℕ) (ws : List Write) → slice_range ws p (length ws) ≡ drop p ws
up_to_end p ws = take_all (length ws - p) (drop p ws) (subst (λ n. n ≤ length ws - p) (sym (length-drop p ws)) (no_less (length ws - p)))

-- an image that is cut uses no slot
pub cut_used : (m n : ℕ) (ws : List Write) (images : List Image) → used n ws (images ++ record { set = m; point = length ws } ∷ []) ≡ used n ws images
cut_used m n ws [] = ap (λ xs. length (blocks_named n xs) + 0) (drop_all (length ws) ws (no_less (length ws))) ∙ ap (λ k. k + 0) (named_by_none n)
cut_used m n ws (i ∷ []) = grind (arith, up_to_end, cut_used m n ws [])
cut_used m n ws (i ∷ j ∷ images) = ap (λ k. length (blocks_named n (slice_range ws i.point j.point)) + k) (cut_used m n ws (j ∷ images))

-- ## a write

abbrev pub one_if : Bool → ℕ
one_if b = if b then 1 else 0

-- the newest image gets the block, unless it has it
newest_gains : (n p : ℕ) (ws : List Write) (w : Write) → p ≤ length ws
    → length (blocks_named n (drop p (ws ++ w ∷ []))) ≤ length (blocks_named n (drop p ws)) + one_if (not (names (drop p ws) w.block))
newest_gains n p ws w l = grind (arith, drop-append-le, named_no_more, or_cases, list_any-append, named_in_parts, named_by_one)

pub written_used : (n from : ℕ) (ws : List Write) (w : Write) (images : List Image) → Rising from (length ws) images
    → used n (ws ++ w ∷ []) images ≤ used n ws images + one_if (needs_slot ws images w.block)
written_used n from ws w [] h = omega arith
written_used n from ws w (i ∷ []) h = grind (arith, newest_gains)
written_used n from ws w (i ∷ j ∷ images) h = grind (arith, inner_append, rising_most, written_used n i.point ws w (j ∷ images) h.1)

-- ## a revert

-- other writes that name no more between and since these points
less_used : (n : ℕ) (ws ys : List Write) (from most : ℕ) (images : List Image) → Rising from most images → ((a : ℕ) → a ≤ most → NameNoMore (drop a ys) (drop a ws))
    → ((a b : ℕ) → a ≤ b → b ≤ most → NameNoMore (slice_range ys a b) (slice_range ws a b)) → used n ys images ≤ used n ws images
less_used n ws ys from most [] h last inner = omega arith
less_used n ws ys from most (i ∷ []) h last inner = grind (arith, named_no_more)
less_used n ws ys from most (i ∷ j ∷ images) h last inner = grind (arith, named_no_more, rising_most, less_used n ws ys i.point most (j ∷ images) h.1 last inner)

-- the images up to one rise to its point
pub rising_up_to : (m p most from : ℕ) (images : List Image) → Rising from most images → AreInTime most images → point_in m images ≡ Some p → Rising from p (up_to_set m images)
rising_up_to m p most from [] h t e = absurd cc
rising_up_to m p most from (i ∷ images) h t e = by_test (i.set == m) (not (nat_lt m i.set)) refl refl e (rising_up_to m p most i.point images h.1 t.2) where
  none_later : (js : List Image) → AreLater i js → (i.set == m) ≡ true → up_to_set m js ≡ []
  none_later [] l f = refl
  none_later (j ∷ js) l f = grind (arith, none_later js l.2 f)

  by_test : (t u : Bool) → (i.set == m) ≡ t → not (nat_lt m i.set) ≡ u → (if t then Some i.point else point_in m images) ≡ Some p
      → (point_in m images ≡ Some p → Rising i.point p (up_to_set m images)) → Rising from p (if u then i ∷ up_to_set m images else up_to_set m images)
  by_test true true f g e ih = (h.0, subst (Rising i.point p) (sym (none_later images t.1 f)) (subst (λ q. i.point ≤ q) (some_same i.point p e) (no_less i.point)))
  by_test true false f g e ih = absurd (true_not_false (not (nat_lt m i.set)) (grind arith) g)
  by_test false true f g e ih = (h.0, ih e)
  by_test false false f g e ih = rising_from from i.point p (up_to_set m images) h.0 (ih e)

pub reverted_used : (n m p : ℕ) (ws : List Write) (images : List Image) → AreInTime (length ws) images → point_in m images ≡ Some p → used n (take p ws) (up_to_set m images) ≤ used n ws images
reverted_used n m p ws images t e =
    let rise = rising (length ws) images t in
    chain _ _ _ (less_used n ws (take p ws) 0 p (up_to_set m images) (rising_up_to m p (length ws) 0 images rise t e) (λ a l. later_no_more a p ws) (λ a b l h. inner_no_more a (b - a) p ws))
    (fewer_used (λ (i : Image). not (nat_lt m i.set)) n 0 ws images rise)

-- a point is not past the end
point_most : (m p most : ℕ) (images : List Image) → AreInTime most images → point_in m images ≡ Some p → p ≤ most
point_most m p most [] t e = absurd cc
point_most m p most (i ∷ images) t e = grind (arith, some_same, point_most m p most images t.2)

pub restored_used : (blocks k n m p : ℕ) (ws : List Write) (images : List Image) → AreInTime (length ws) images → point_in m images ≡ Some p
    → used n (ws ++ map (restoring ws p) (take k (to_restore blocks ws p))) (up_to_set m images) ≤ used n ws images
restored_used blocks k n m p ws images t e =
    let rise = rising (length ws) images t in
    let most = point_most m p (length ws) images t e in
    let more : List Write = map (restoring ws p) (take k (to_restore blocks ws p)) in
    chain _ _ _ (less_used n ws (ws ++ more) 0 p (up_to_set m images) (rising_up_to m p (length ws) 0 images rise t e) (λ a l. restored_no_more blocks p k a ws l most)
    (λ a b l h c f. subst (λ xs. names xs c ≡ true) (inner_append a b ws more l (chain b p (length ws) h most)) f))
    (fewer_used (λ (i : Image). not (nat_lt m i.set)) n 0 ws images rise)
