-- Texts of numbers in a row, what a lane draws, and the last number that it writes to a block.
use Rattle.std.proofs.Common.{◌≡◌, ◌∙◌, ℕ, zero, suc, ◌+◌, ◌-◌, ◌<◌, List, [], ◌∷◌, ◌++◌, ap, sym, arith, map, append_assoc, append-nil, Bool, true, false}
use Rattle.std.proofs.Common.{Option, Some, None, refl, ◌*◌, ◌/◌, ◌%◌, ◌^◌}
use Rattle.std.proofs.lemmas.Grind.{common_steps}
use Rattle.std.specs.Prelude.{◌==◌, ◌&&◌, filter, if◌then◌else◌}
use Rattle.generated.specs.Contents.{write_of}
use Rattle.generated.specs.Draws.{stands_at, drawn, volume_at, block_at, stamp_at}
use Rattle.generated.proofs.Terms.{flat_map, concat, range_with_len, map-range_with_len_more, write_text, drawn_text, volume_line, volume_lines, summary_head}
use Rattle.generated.proofs.Terms.{final_digest, final_digests, summary, zeros, Write, last_bytes, writes_to, stamped}

-- ## Texts of numbers in a row: one more is written, and one less is still to come.

-- the numbers left below an end, and those left after the first of them
pub left_of : (k n : ℕ) → k < n → range_with_len k (n - k) ≡ k ∷ range_with_len (k + 1) (n - (k + 1))
left_of k n l = by_number (n - k) (n - (k + 1)) (omega (arith, l))
  where
    by_number : (m r : ℕ) → m ≡ r + 1 → range_with_len k m ≡ k ∷ range_with_len (k + 1) r
    by_number zero r e = absurd (omega (arith, e))
    by_number (suc m) r e = let same : m ≡ r = omega (arith, e) in ap (λ x. k ∷ range_with_len (k + 1) x) same

-- none is left at the end
pub none_left : (k n : ℕ) → n - k ≡ 0 → range_with_len k (n - k) ≡ []
none_left k n e = ap (range_with_len k) e

pub next_piece : (f : ℕ → List ℕ) (k n : ℕ) (before after whole : List ℕ) → k < n → after ≡ before ++ f k
    → before ++ flat_map f (range_with_len k (n - k)) ≡ whole → after ++ flat_map f (range_with_len (k + 1) (n - (k + 1))) ≡ whole
next_piece f k n before after whole l grown e = grind (arith, common_steps, append_assoc, left_of)

pub no_piece : (f : ℕ → List ℕ) (k n : ℕ) (text whole : List ℕ) → n - k ≡ 0 → text ++ flat_map f (range_with_len k (n - k)) ≡ whole → text ≡ whole
no_piece f k n text whole none e = grind (arith, append-nil, none_left)

-- the line that was drawn is the lane's own
pub draws_line : (n i k dn di dk v b s : ℕ) → dn ≡ n → di ≡ i → dk ≡ k → v ≡ volume_at dn di dk → b ≡ block_at dn di dk → s ≡ stamp_at di dk → write_text v b s ≡ drawn_text n i k
draws_line n i k dn di dk v b s en ei ek ev eb es = cc

-- ## lines of volumes

pub next_volume : (f : ℕ → List ℕ) (v : ℕ) (before after whole : List ℕ) → v < 8 → after ≡ before ++ volume_line v (f v)
    → before ++ volume_lines v (map f (range_with_len v (8 - v))) ≡ whole → after ++ volume_lines (v + 1) (map f (range_with_len (v + 1) (8 - (v + 1)))) ≡ whole
next_volume f v before after whole l grown e = grind (arith, common_steps, append_assoc, left_of)

pub no_volume : (f : ℕ → List ℕ) (v : ℕ) (text whole : List ℕ) → 8 - v ≡ 0 → text ++ volume_lines v (map f (range_with_len v (8 - v))) ≡ whole → text ≡ whole
no_volume f v text whole none e = grind (arith, append-nil, none_left)

-- ## blocks one after another

concat_snoc : (xs : List (List ℕ)) (x : List ℕ) → concat (xs ++ x ∷ []) ≡ concat xs ++ x
concat_snoc [] x = append-nil x
concat_snoc (y ∷ xs) x = ap (λ zs. y ++ zs) (concat_snoc xs x) ∙ sym (append_assoc y (concat xs) x)

pub more_blocks : (f : ℕ → List ℕ) (k : ℕ) (block : List ℕ) → block ≡ f k → concat (map f (range_with_len 0 k)) ++ block ≡ concat (map f (range_with_len 0 (k + 1)))
more_blocks f k block e =
    ap (λ x. concat (map f (range_with_len 0 k)) ++ x) e
    ∙ sym (concat_snoc (map f (range_with_len 0 k)) (f k))
    ∙ sym (ap concat (map-range_with_len_more f 0 k k (omega arith)))

-- ## pieces one after another

pub five_pieces : (text a b c d e t1 t2 t3 t4 t5 : List ℕ) → t1 ≡ text ++ a → t2 ≡ t1 ++ b → t3 ≡ t2 ++ c → t4 ≡ t3 ++ d → t5 ≡ t4 ++ e → t5 ≡ text ++ (a ++ b ++ c ++ d ++ e)
five_pieces text a b c d e t1 t2 t3 t4 t5 e1 e2 e3 e4 e5 = grind (arith, append_assoc)

pub seven_pieces : (text a b c d e f g t1 t2 t3 t4 t5 t6 t7 : List ℕ) → text ≡ [] → t1 ≡ text ++ a → t2 ≡ t1 ++ b → t3 ≡ t2 ++ c → t4 ≡ t3 ++ d → t5 ≡ t4 ++ e → t6 ≡ t5 ++ f → t7 ≡ t6 ++ g
    → t7 ≡ a ++ b ++ c ++ d ++ e ++ f ++ g
seven_pieces text a b c d e f g t1 t2 t3 t4 t5 t6 t7 e0 e1 e2 e3 e4 e5 e6 e7 = grind arith

-- ## the summary

pub whole_summary : (n v : ℕ) (none head text : List ℕ) → none ≡ [] → head ≡ none ++ summary_head n → 8 - v ≡ 0
    → text ++ volume_lines v (map (final_digest n) (range_with_len v (8 - v))) ≡ head ++ volume_lines 0 (final_digests n) → text ≡ summary n
whole_summary n v none head text e0 e1 last e =
    no_volume (final_digest n) v text (head ++ volume_lines 0 (final_digests n)) last e
    ∙ ap (λ x. x ++ volume_lines 0 (final_digests n)) (e1 ∙ ap (λ x. x ++ summary_head n) e0)

-- ## The last number that a lane writes to a block, write by write.

-- the writes of a lane to a volume, from its line k on
unfoldable pub writes_from : ℕ → ℕ → ℕ → ℕ → List Write
writes_from n i v k = map (write_of n i) (filter (λ j. volume_at n i j == v) (range_with_len k (200 - k)))

-- what those leave in a block where this number was found before
abbrev pub left_in : ℕ → ℕ → ℕ → ℕ → ℕ → Option ℕ → List ℕ
left_in n i v b k found = last_bytes b (stamped found) (writes_from n i v k)

pub first_lane : (n i v b : ℕ) → i ≡ 0 → stamped None ≡ last_bytes b zeros (writes_to n i v)
unfolding writes_to
first_lane n zero v b e = refl
first_lane n (suc i) v b e = absurd (omega (arith, e))

pub at_first : (n i v b : ℕ) → 0 < i → left_in n i v b 0 None ≡ last_bytes b zeros (writes_to n i v)
unfolding writes_to writes_from
at_first n zero v b l = absurd (omega (arith, l))
at_first n (suc i) v b l = refl

one_write : (n i v b k : ℕ) (found : Option ℕ) (ks : List ℕ) (to_volume to_block : Bool) → (volume_at n i k == v) ≡ to_volume → (block_at n i k == b) ≡ to_block
    → last_bytes b (stamped found) (map (write_of n i) (if to_volume then k ∷ ks else ks))
    ≡ last_bytes b (stamped (if to_volume && to_block then Some (stamp_at i k) else found)) (map (write_of n i) ks)
one_write n i v b k found ks true true ev eb = ap (λ (t : Bool). last_bytes b (if t then stamped (Some (stamp_at i k)) else stamped found) (map (write_of n i) ks)) eb
one_write n i v b k found ks true false ev eb = ap (λ (t : Bool). last_bytes b (if t then stamped (Some (stamp_at i k)) else stamped found) (map (write_of n i) ks)) eb
one_write n i v b k found ks false to_block ev eb = refl

pub next_found : (n i v b k : ℕ) (found next : Option ℕ) → k < 200 → next ≡ (if (volume_at n i k == v) && (block_at n i k == b) then Some (stamp_at i k) else found)
    → left_in n i v b (k + 1) next ≡ left_in n i v b k found
unfolding writes_from
next_found n i v b k found next l e =
    ap (λ x. last_bytes b (stamped x) (writes_from n i v (k + 1))) e
    ∙ sym (one_write n i v b k found (filter (λ j. volume_at n i j == v) (range_with_len (k + 1) (200 - (k + 1)))) (volume_at n i k == v) (block_at n i k == b) refl refl)
    ∙ sym (ap (λ ks. last_bytes b (stamped found) (map (write_of n i) (filter (λ j. volume_at n i j == v) ks))) (left_of k 200 l))

pub none_found_later : (n i v b k : ℕ) (found : Option ℕ) → 200 - k ≡ 0 → left_in n i v b k found ≡ stamped found
unfolding writes_from
none_found_later n i v b k found e = ap (λ ks. last_bytes b (stamped found) (map (write_of n i) (filter (λ j. volume_at n i j == v) ks))) (none_left k 200 e)

-- the number of the write that was drawn
pub found_is : (n i k dn di dk wv wb ws v b : ℕ) (found next : Option ℕ) → dn ≡ n → di ≡ i → dk ≡ k → wv ≡ volume_at dn di dk → wb ≡ block_at dn di dk → ws ≡ stamp_at di dk
    → next ≡ (if (wv == v) && (wb == b) then Some ws else found) → next ≡ (if (volume_at n i k == v) && (block_at n i k == b) then Some (stamp_at i k) else found)
found_is n i k dn di dk wv wb ws v b found next en ei ek ev eb es e = cc

-- ## What a lane draws, step by step.

one_more : (k : ℕ) → k + 1 ≡ suc k
one_more k = omega arith

pub stands_first : (n i : ℕ) → stands_at n i 0 ≡ 16 * n + i
unfolding stands_at
stands_first n i = refl

pub stands_next : (n i k : ℕ) → stands_at n i (k + 1) ≡ (25214903917 * stands_at n i k + 11) % 2 ^ 48
unfolding stands_at
stands_next n i k = ap (stands_at n i) (one_more k)

pub volume_is : (n i k : ℕ) → volume_at n i k ≡ (stands_at n i (k + 1) / 65536) % 8
unfolding volume_at drawn
volume_is n i k = ap (λ m. (stands_at n i m / 65536) % 8) (sym (one_more k))

pub block_is : (n i k : ℕ) → block_at n i k ≡ 16 * i + ((stands_at n i (k + 1) / 65536) / 8) % 16
unfolding block_at drawn
block_is n i k = ap (λ m. 16 * i + ((stands_at n i m / 65536) / 8) % 16) (sym (one_more k))

pub stamp_is : (i k : ℕ) → stamp_at i k ≡ 1000000 * i + k
unfolding stamp_at
stamp_is i k = refl
