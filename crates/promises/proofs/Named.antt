-- How many blocks writes name, and which parts of them name no more.
use Rattle.std.proofs.Common.{◌≡◌, ◌∙◌, ℕ, ◌+◌, ◌==◌, ◌≤◌, ◌<◌, zero, suc, List, [], ◌∷◌, ◌++◌, ◌⊎◌, refl, Bool, true, false, ap, sym, inl, inr, map, filter, length, take, drop, arith}
use Rattle.std.specs.Prelude.{◌||◌, slice_range}
use Rattle.promises.proofs.Words.{range_with_len, drop-append-le, take-append-le, length-drop, list_any-append, Write, names, blocks_named, to_restore}
use Rattle.promises.proofs.Words.{restoring, or_cases, or_right, number_is}
use Rattle.promises.proofs.Members.{chain}

-- whatever these writes name, those do
abbrev pub NameNoMore : List Write → List Write → Type 0
NameNoMore xs ys = (b : ℕ) → names xs b ≡ true → names ys b ≡ true

-- ## counted

fewer_pass : (f g : ℕ → Bool) → ((b : ℕ) → f b ≡ true → g b ≡ true) → (bs : List ℕ) → length (filter f bs) ≤ length (filter g bs)
fewer_pass f g h [] = omega arith
fewer_pass f g h (b ∷ bs) = grind (arith, fewer_pass f g h bs)

passed_by_either : (f g h : ℕ → Bool) → ((b : ℕ) → f b ≡ (g b || h b)) → (bs : List ℕ) → length (filter f bs) ≤ length (filter g bs) + length (filter h bs)
passed_by_either f g h e [] = omega arith
passed_by_either f g h e (b ∷ bs) = grind (arith, passed_by_either f g h e bs)

pub named_no_more : (n : ℕ) (xs ys : List Write) → NameNoMore xs ys → length (blocks_named n xs) ≤ length (blocks_named n ys)
named_no_more n xs ys h = fewer_pass (names xs) (names ys) h (range_with_len 0 n)

-- two parts name together no more than each by itself
pub named_in_parts : (n : ℕ) (xs ys : List Write) → length (blocks_named n (xs ++ ys)) ≤ length (blocks_named n xs) + length (blocks_named n ys)
named_in_parts n xs ys = grind (arith, passed_by_either, list_any-append)

pub named_by_none : (n : ℕ) → length (blocks_named n []) ≡ 0
named_by_none n = over (range_with_len 0 n) where
  over : (bs : List ℕ) → length (filter (names []) bs) ≡ 0
  over [] = refl
  over (b ∷ bs) = over bs

abbrev is_block : ℕ → ℕ → Bool
is_block c b = (c == b) || false

-- one write names one block
pub named_by_one : (n : ℕ) (w : Write) → length (blocks_named n (w ∷ [])) ≤ 1
named_by_one n w = over 0 n where
  none_past : (a n : ℕ) → w.block < a → length (filter (is_block w.block) (range_with_len a n)) ≡ 0
  none_past a zero l = refl
  none_past a (suc n) l = grind (arith, none_past (a + 1) n (grind arith))

  over : (a n : ℕ) → length (filter (is_block w.block) (range_with_len a n)) ≤ 1
  over a zero = omega arith
  over a (suc n) = grind (arith, none_past, over (a + 1) n)

-- ## parts of writes

-- with one more write before both
with_head : (w : Write) (xs ys : List Write) → NameNoMore xs ys → NameNoMore (w ∷ xs) (w ∷ ys)
with_head w xs ys h b e = grind arith

no_names : (b : ℕ) (X : Type 0) → names [] b ≡ true → X
no_names b X e = absurd cc

-- the writes up to a point
pub first_no_more : (k : ℕ) (xs : List Write) → NameNoMore (take k xs) xs
first_no_more zero xs b e = no_names b _ e
first_no_more (suc k) [] b e = e
first_no_more (suc k) (w ∷ xs) b e = with_head w (take k xs) xs (first_no_more k xs) b e

both_first : (k p : ℕ) (xs : List Write) → NameNoMore (take k (take p xs)) (take k xs)
both_first zero p xs b e = e
both_first (suc k) zero xs b e = no_names b _ e
both_first (suc k) (suc p) [] b e = e
both_first (suc k) (suc p) (w ∷ xs) b e = with_head w (take k (take p xs)) (take k xs) (both_first k p xs) b e

pub inner_no_more : (a k p : ℕ) (ws : List Write) → NameNoMore (take k (drop a (take p ws))) (take k (drop a ws))
inner_no_more zero k p ws b e = both_first k p ws b e
inner_no_more (suc a) k zero ws b e = no_names b _ (first_no_more k [] b e)
inner_no_more (suc a) k (suc p) [] b e = e
inner_no_more (suc a) k (suc p) (w ∷ ws) b e = inner_no_more a k p ws b e

pub later_no_more : (a p : ℕ) (ws : List Write) → NameNoMore (drop a (take p ws)) (drop a ws)
later_no_more zero p ws b e = first_no_more p ws b e
later_no_more (suc a) zero ws b e = no_names b _ e
later_no_more (suc a) (suc p) [] b e = e
later_no_more (suc a) (suc p) (w ∷ ws) b e = later_no_more a p ws b e

-- the writes since a later point
pub since_later : (a p : ℕ) (ws : List Write) → a ≤ p → NameNoMore (drop p ws) (drop a ws)
since_later zero zero ws l b e = e
since_later zero (suc p) [] l b e = e
since_later zero (suc p) (w ∷ ws) l b e = or_right (w.block == b) (names ws b) (since_later zero p ws (omega arith) b e)
since_later (suc a) zero ws l b e = absurd (omega arith)
since_later (suc a) (suc p) [] l b e = e
since_later (suc a) (suc p) (w ∷ ws) l b e = since_later a p ws (omega arith) b e

-- further writes are not of a part before them
pub inner_append : (a b : ℕ) (ws more : List Write) → a ≤ b → b ≤ length ws → slice_range (ws ++ more) a b ≡ slice_range ws a b
inner_append a b ws more l h = grind (arith, drop-append-le, chain, take-append-le, length-drop)

-- ## blocks that are restored

abbrev AllNamed : List Write → List ℕ → Type 0
AllNamed ws [] = Unit {0}
AllNamed ws (b ∷ bs) = (names ws b ≡ true) × AllNamed ws bs

named_filter : (ws : List Write) (bs : List ℕ) → AllNamed ws (filter (names ws) bs)
named_filter ws [] = tt
named_filter ws (b ∷ bs) = grind (arith, named_filter ws bs)

named_first : (ws : List Write) (k : ℕ) (bs : List ℕ) → AllNamed ws bs → AllNamed ws (take k bs)
named_first ws zero bs h = tt
named_first ws (suc k) [] h = tt
named_first ws (suc k) (b ∷ bs) h = (h.0, named_first ws k bs h.1)

restored_named : (ws since : List Write) (p : ℕ) (bs : List ℕ) → AllNamed since bs → NameNoMore (map (restoring ws p) bs) since
restored_named ws since p [] h b e = no_names b _ e
restored_named ws since p (c ∷ bs) h b e = grind (arith, number_is, restored_named ws since p bs h.1 b)

abbrev restored : ℕ → ℕ → ℕ → List Write → List Write
restored n p k ws = map (restoring ws p) (take k (to_restore n ws p))

-- blocks that were named since a point, restored, are named no more since any point before it
pub restored_no_more : (n p k a : ℕ) (ws : List Write) → a ≤ p → p ≤ length ws → NameNoMore (drop a (ws ++ map (restoring ws p) (take k (to_restore n ws p)))) (drop a ws)
restored_no_more n p k a ws l h b e = by_part
    (or_cases _ _ (sym (list_any-append (λ (w : Write). w.block == b) (drop a ws) (restored n p k ws))
    ∙ ap (λ xs. names xs b) (sym (drop-append-le a ws (restored n p k ws) (chain a p (length ws) l h))) ∙ e)) where
      by_part : (names (drop a ws) b ≡ true) ⊎ (names (restored n p k ws) b ≡ true) → names (drop a ws) b ≡ true
      by_part (inl f) = f
      by_part (inr f) = since_later a p ws l b
          (restored_named ws (drop p ws) p (take k (to_restore n ws p))
          (named_first (drop p ws) k (to_restore n ws p) (named_filter (drop p ws) (range_with_len 0 n))) b f)
