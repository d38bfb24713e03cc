-- A revert of a volume to the image of a set: each block that has a copy for the set is restored, in ascending order,
-- and at the end the set's copies go too.
use Rattle.std.proofs.Common.{◌≡◌, ◌≢◌, ◌<◌, ◌≤◌, ◌↔◌, ℕ, zero, suc, ◌+◌, ◌-◌, List, [], ◌∷◌, ◌++◌, length, take, drop, map, refl, ap, sym, subst, ◌∙◌, arith, eq-or-lt_of_le, Bool, true, false, ◌||◌}
use Rattle.std.proofs.Common.{Option, Some, None, is_some, IfSome, option_map, inl, inr}
use Rattle.std.specs.Prelude.{filter, slice_get, slice_set, if◌then◌else◌, ◌==◌}
use Rattle.std.specs.List.{range_with_len}
use Rattle.std.proofs.lemmas.List.{append_assoc, append-nil, map-append, length-append, length-take-le, take_all, take-take, take_at}
use Rattle.std.proofs.lemmas.List.Elements.{filter-append}
use Rattle.std.proofs.lemmas.Bool.{or_left}
use Rattle.block_data.specs.BlockBytes.{zeros}
use Rattle.write_history.specs.History.{Write, Image, History, last_bytes, content, contents, point_in, up_to_set, written, names, to_restore, restoring, reverted, reverted_in_part, AreInTime}
use Rattle.diff_area.specs.Format.{place_of_slot}
use Rattle.diff_area.specs.declared.table_record.Record.{Record}
use Rattle.cow_volume.specs.StandsFor.{is_named, record_of, IsVolume}
use Rattle.cow_volume.specs.Changes.{cleared}
use Rattle.cow_volume.proofs.Members.{Has, has_at, has-filter, from-filter, has-range, from-range}
use Rattle.cow_volume.proofs.GoingBack.{from_cleared, to_cleared, length-cleared, AreUpTo, without_newer, are_up_to, point_kept, image_at, stands_last, last_of}
use Rattle.cow_volume.proofs.GoingBack.{in_time_cut, named-more, named-cut, none-named-cut, map-same, slots-before, restored_one}
use Rattle.cow_volume.proofs.Group.{same_number}
use Rattle.cow_volume.proofs.Named.{Stands, numbers_are, named_of, of_point, of_named, above_zero}
use Rattle.cow_volume.proofs.Reading.{last_bytes-append, content_all, unnamed_same, unnamed_since, point_within as point_in_time}
use Rattle.cow_volume.proofs.Writing.{content-before, since-more, in_time-more}

-- ## the blocks to restore

newest_names : (told slots : Option (List (List ℕ))) (records : List Record) (v n : ℕ) (sets : List ℕ) (h : History) (set p b : ℕ) → IsVolume told slots records v n sets (without_newer set h)
    → point_in set h.images ≡ Some p
    → is_named h.writes (up_to_set set h.images) set b ≡ names (drop p h.writes) b
newest_names told slots records v n sets h set p b is e =
    named_of (length h.writes) h.writes (up_to_set set h.images) (image_at set p) [] b is.images.in_time (last_of set p h is.images.in_time e)

-- the blocks that have a copy for the set are those that are named since its point
pub restores : (told slots : Option (List (List ℕ))) (records : List Record) (v n : ℕ) (sets : List ℕ) (h : History) (set p b : ℕ) → IsVolume told slots records v n sets (without_newer set h)
    → point_in set h.images ≡ Some p → b < n
    → ((slot : ℕ) × (slice_get records slot ≡ Some (record_of v set b))) ↔ (names (drop p h.writes) b ≡ true)
restores told slots records v n sets h set p b is e l =
    let same = newest_names told slots records v n sets h set p b is e in
    ((λ at. sym same ∙ is.named at.0 set b (grind (arith, above_zero, last_of)) at.1), (λ f. is.recorded set b l (same ∙ f)))

-- the point is none past the end
pub point_within : (told slots : Option (List (List ℕ))) (records : List Record) (v n : ℕ) (sets : List ℕ) (h : History) (set p : ℕ) → IsVolume told slots records v n sets (without_newer set h)
    → point_in set h.images ≡ Some p → p ≤ length h.writes
point_within told slots records v n sets h set p is e = grind (arith, point_in_time, point_kept)

pub has-to_restore : (n : ℕ) (ws : List Write) (p b : ℕ) → b < n → names (drop p ws) b ≡ true → Has b (to_restore n ws p)
has-to_restore n ws p b l e = has-filter (names (drop p ws)) b (range_with_len 0 n) e (has-range 0 n b (omega arith) (omega arith))

pub from-to_restore : (n : ℕ) (ws : List Write) (p b : ℕ) → Has b (to_restore n ws p) → (b < n) × (names (drop p ws) b ≡ true)
from-to_restore n ws p b h = grind (arith, from-filter, from-range)

-- ## some blocks are restored

pub take_next : {X : Type 0} (xs : List X) (k : ℕ) (x : X) → slice_get xs k ≡ Some x → take (k + 1) xs ≡ take k xs ++ x ∷ []
take_next [] k x e = absurd cc
take_next (y ∷ xs) zero x e = let same : y ≡ x = cc in ap (λ z. z ∷ []) same
take_next (y ∷ xs) (suc k) x e = let one : suc k + 1 ≡ suc (k + 1) = omega arith in ap (λ j. take j (y ∷ xs)) one ∙ ap (λ ys. y ∷ ys) (take_next xs k x e)

-- none so far
pub restored_none : (n set p : ℕ) (h : History) → without_newer set h ≡ reverted_in_part n set p 0 h
restored_none n set p h = ap (λ ws. record { writes = ws; images = up_to_set set h.images }) (sym (append-nil h.writes))

-- one more
pub one_more_write : (n set p k b : ℕ) (h : History) → slice_get (to_restore n h.writes p) k ≡ Some b
    → written (restoring h.writes p b) (reverted_in_part n set p k h) ≡ reverted_in_part n set p (k + 1) h
one_more_write n set p k b h at = ap (λ ws. record { writes = ws; images = up_to_set set h.images })
    (append_assoc h.writes (map (restoring h.writes p) (take k (to_restore n h.writes p))) (restoring h.writes p b ∷ [])
    ∙ ap (λ xs. h.writes ++ xs) (sym (ap (map (restoring h.writes p)) (take_next (to_restore n h.writes p) k b at) ∙ map-append (restoring h.writes p) (take k (to_restore n h.writes p)) (b ∷ []))))

last_in_part : (told slots : Option (List (List ℕ))) (records : List Record) (v n : ℕ) (sets : List ℕ) (h : History) (set p k : ℕ)
    → IsVolume told slots records v n sets (reverted_in_part n set p k h) → point_in set h.images ≡ Some p → Stands (image_at set p) [] (up_to_set set h.images)
last_in_part told slots records v n sets h set p k is e = grind (arith, stands_last, are_up_to, point_kept)

pub restored_more : (told slots : Option (List (List ℕ))) (records : List Record) (v n : ℕ) (sets : List ℕ) (h : History) (set p k b : ℕ) (bytes : List ℕ) → p ≤ length h.writes
    → IsVolume told slots records v n sets (reverted_in_part n set p k h) → point_in set h.images ≡ Some p
    → slice_get (to_restore n h.writes p) k ≡ Some b → (is_some told ≡ true → bytes ≡ content h.writes p b)
    → IsVolume (option_map (λ blocks. slice_set blocks b bytes) told) slots records v n sets (reverted_in_part n set p (k + 1) h)
restored_more told slots records v n sets h set p k b bytes l is e at known =
    let of = from-to_restore n h.writes p b (has_at (to_restore n h.writes p) k b at) in
    let more = map (restoring h.writes p) (take k (to_restore n h.writes p)) in
    let named : names (drop p (h.writes ++ more)) b ≡ true = since-more h.writes more p b l ∙ or_left (names (drop p h.writes) b) (names more b) of.1 in
    let P : History → Type 0 = λ x. IsVolume (option_map (λ blocks. slice_set blocks b bytes) told) slots records v n sets x in
    subst P (one_more_write n set p k b h at)
    (restored_one told slots records v n sets (reverted_in_part n set p k h) (image_at set p) (restoring h.writes p b) bytes is
    (last_in_part told slots records v n sets h set p k is e) named of.0 known)

-- ## the first blocks, in order

range-split : (a m n : ℕ) → range_with_len a (m + n) ≡ range_with_len a m ++ range_with_len (a + m) n
range-split a zero n =
    let e : zero + n ≡ n = omega arith in
    let f : a ≡ a + zero = omega arith in
    ap (range_with_len a) e ∙ ap (λ k. range_with_len k n) f
range-split a (suc m) n =
    let e : suc m + n ≡ suc (m + n) = omega arith in
    let f : a + 1 + m ≡ a + suc m = omega arith in
    ap (range_with_len a) e ∙ ap (λ xs. a ∷ xs) (range-split (a + 1) m n ∙ ap (λ k. range_with_len (a + 1) m ++ range_with_len k n) f)

-- those of the first m blocks are the first ones of all
pub first_restored : (m n : ℕ) (ws : List Write) (p : ℕ) → m ≤ n → take (length (to_restore m ws p)) (to_restore n ws p) ≡ to_restore m ws p
first_restored m n ws p l =
    let e : n ≡ m + (n - m) = omega arith in
    let split : to_restore n ws p ≡ to_restore m ws p ++ filter (names (drop p ws)) (range_with_len (0 + m) (n - m)) =
    ap (λ k. to_restore k ws p) e ∙ ap (filter (names (drop p ws))) (range-split 0 m (n - m)) ∙ filter-append (names (drop p ws)) (range_with_len 0 m) (range_with_len (0 + m) (n - m)) in
    ap (take (length (to_restore m ws p))) split ∙ take_at (to_restore m ws p) (filter (names (drop p ws)) (range_with_len (0 + m) (n - m))) (length (to_restore m ws p)) refl

one-block : (f : ℕ → Bool) (m : ℕ) → filter f (range_with_len 0 (m + 1)) ≡ filter f (range_with_len 0 m) ++ (if f m then m ∷ [] else [])
one-block f m = grind (arith, range-split, filter-append)

-- block m is none of them
pub block_kept : (m : ℕ) (ws : List Write) (p : ℕ) → names (drop p ws) m ≡ false → to_restore (m + 1) ws p ≡ to_restore m ws p
block_kept m ws p e = one-block (names (drop p ws)) m ∙ ap (λ (t : Bool). to_restore m ws p ++ (if t then m ∷ [] else [])) e ∙ append-nil (to_restore m ws p)

-- block m is the next one
pub block_restored : (m : ℕ) (ws : List Write) (p : ℕ) → names (drop p ws) m ≡ true → to_restore (m + 1) ws p ≡ to_restore m ws p ++ m ∷ []
block_restored m ws p e = one-block (names (drop p ws)) m ∙ ap (λ (t : Bool). to_restore m ws p ++ (if t then m ∷ [] else [])) e

get-length : {X : Type 0} (xs ys : List X) (x : X) → slice_get (xs ++ x ∷ ys) (length xs) ≡ Some x
get-length [] ys x = refl
get-length (z ∷ xs) ys x = get-length xs ys x

get-take : {X : Type 0} (xs : List X) (i k : ℕ) → i < k → slice_get (take k xs) i ≡ slice_get xs i
get-take [] i zero l = refl
get-take [] i (suc k) l = refl
get-take (x ∷ xs) i zero l = absurd (omega arith)
get-take (x ∷ xs) zero (suc k) l = refl
get-take (x ∷ xs) (suc i) (suc k) l = get-take xs i k (omega arith)

pub next_restored : (m n : ℕ) (ws : List Write) (p : ℕ) → m < n → names (drop p ws) m ≡ true → slice_get (to_restore n ws p) (length (to_restore m ws p)) ≡ Some m
next_restored m n ws p l e =
    let more = block_restored m ws p e in
    let long = ap length more ∙ length-append (to_restore m ws p) (m ∷ []) in
    sym (get-take (to_restore n ws p) (length (to_restore m ws p)) (length (to_restore (m + 1) ws p)) (omega arith))
    ∙ ap (λ (xs : List ℕ). slice_get xs (length (to_restore m ws p))) (first_restored (m + 1) n ws p (omega arith) ∙ more)
    ∙ get-length (to_restore m ws p) [] m

-- ## all blocks are restored

restored_stays : (ws : List Write) (p b : ℕ) (bs : List ℕ) → last_bytes b (content ws p b) (map (restoring ws p) bs) ≡ content ws p b
restored_stays ws p b [] = refl
restored_stays ws p b (c ∷ bs) = ap (λ (x : List ℕ). last_bytes b x (map (restoring ws p) bs)) (by_test (c == b) refl) ∙ restored_stays ws p b bs where
  by_test : (t : Bool) → (c == b) ≡ t → (if t then content ws p c else content ws p b) ≡ content ws p b
  by_test true e = ap (content ws p) (same_number c b e)
  by_test false e = refl

restored_bytes : (ws : List Write) (p b : ℕ) (bs : List ℕ) (before : List ℕ) → Has b bs → last_bytes b before (map (restoring ws p) bs) ≡ content ws p b
restored_bytes ws p b [] before h = absurd h
restored_bytes ws p b (c ∷ bs) before (inl e) =
    ap (λ (t : Bool). last_bytes b (if t then content ws p c else before) (map (restoring ws p) bs)) (numbers_are c b e)
    ∙ ap (λ k. last_bytes b (content ws p k) (map (restoring ws p) bs)) e ∙ restored_stays ws p b bs
restored_bytes ws p b (c ∷ bs) before (inr h) = restored_bytes ws p b bs (if c == b then content ws p c else before) h

restoring_names : (ws : List Write) (p b : ℕ) (bs : List ℕ) → names (map (restoring ws p) bs) b ≡ true → Has b bs
restoring_names ws p b [] e = absurd cc
restoring_names ws p b (c ∷ bs) e = by_test (c == b) refl e (restoring_names ws p b bs) where
  by_test : (t : Bool) → (c == b) ≡ t → (t || names (map (restoring ws p) bs) b) ≡ true → (names (map (restoring ws p) bs) b ≡ true → Has b bs) → Has b (c ∷ bs)
  by_test true f g rest = inl (same_number c b f)
  by_test false f g rest = inr (rest g)

-- the writes that restore the blocks name no others
pub restoring_named : (n : ℕ) (ws : List Write) (p b : ℕ) → names (map (restoring ws p) (to_restore n ws p)) b ≡ true → names (drop p ws) b ≡ true
restoring_named n ws p b e = (from-to_restore n ws p b (restoring_names ws p b (to_restore n ws p) e)).1

-- then each block is as it was at the point
content_restored : (n : ℕ) (ws : List Write) (p b : ℕ) → b < n → content (ws ++ map (restoring ws p) (to_restore n ws p)) (length (ws ++ map (restoring ws p) (to_restore n ws p))) b ≡ content ws p b
content_restored n ws p b l = grind (arith, content_all, last_bytes-append, restoring_named, restored_bytes, has-to_restore, unnamed_same, unnamed_since)

pub contents_restored : (n : ℕ) (ws : List Write) (p : ℕ)
    → contents n (ws ++ map (restoring ws p) (to_restore n ws p)) (length (ws ++ map (restoring ws p) (to_restore n ws p))) ≡ contents n (take p ws) (length (take p ws))
contents_restored n ws p =
    map-same (content (ws ++ map (restoring ws p) (to_restore n ws p)) (length (ws ++ map (restoring ws p) (to_restore n ws p)))) (content (take p ws) (length (take p ws))) (range_with_len 0 n)
    (λ b m. let l = from-range 0 n b m in content_restored n ws p b (omega arith) ∙ sym (content_all (take p ws) b))

up_to_all : (set : ℕ) (is : List Image) (i : Image) (newer : List Image) → AreUpTo set is → Stands i newer is → i.set ≤ set
up_to_all set [] i newer u h = absurd h
up_to_all set (j ∷ js) i newer u (inl e) = let P : Image → Type 0 = λ x. x.set ≤ set in subst P e.0 u.0
up_to_all set (j ∷ js) i newer u (inr h) = up_to_all set js i newer u.1 h

-- the last image of a history whose writes are these, and those that restore its blocks
restored_last : (told slots : Option (List (List ℕ))) (records : List Record) (v n : ℕ) (sets : List ℕ) (ws : List Write) (is : List Image) (set p : ℕ) → p ≤ length ws → AreUpTo set is
    → Stands (image_at set p) [] is
    → IsVolume told slots records v n sets (record { writes = ws ++ map (restoring ws p) (to_restore n ws p); images = is })
    → IsVolume told slots (cleared v set records) v n sets (record { writes = take p ws; images = is })
restored_last told slots records v n sets ws is set p l u last volume =
    let more = map (restoring ws p) (to_restore n ws p) in
    let times = volume.images.in_time in
    let in_time = in_time_cut (length (ws ++ more)) is (image_at set p) last times in
    let early = in_time-more p (length ws) is l in_time in
    let long : p ≡ length (take p ws) = sym (length-take-le p ws l) in
    let same = λ (s b : ℕ). named-more ws more is (image_at set p) s b last early (restoring_named n ws p b) in
    let cut = λ (s b : ℕ) (d : set ≢ s). named-cut p ws is (image_at set p) s b last in_time d in
    record {
      blocks = grind (arith, contents_restored, volume.blocks);
      sets_are = volume.sets_are;
      images = record { in_time = subst (λ k. AreInTime k is) long in_time; above_zero = volume.images.above_zero; few = volume.images.few };
      named = λ slot s b above at.
          let stood = from_cleared v set slot records (record_of v s b) at above in
          let older = stood.1 refl in
          cut s b (λ e. absurd (omega arith)) ∙ sym (same s b) ∙ volume.named slot s b above stood.0;
      recorded = λ s b m e.
          let other : set ≢ s = λ f. absurd (differ (ap (λ k. is_named (take p ws) is k b) f ∙ e) (none-named-cut p ws is (image_at set p) b last in_time l)) in
          let at = volume.recorded s b m (same s b ∙ sym (cut s b other) ∙ e) in
          let o = of_named (take p ws) s b is e in
          let most = up_to_all set is o.image o.newer u o.stands in
          let same_set = o.set_is in
          let below : s ≤ set = omega arith in
          let older : s < set = strictly s set below (λ f. other (sym f)) in
          (at.0, to_cleared v set at.0 records (record_of v s b) at.1 (λ f. older));
      copied = λ slot s b q at e tells.
          let o = of_point s q is e in
          let over = above_zero is o.image o.newer volume.images.above_zero o.stands in
          let same_set = o.set_is in
          let stood = from_cleared v set slot records (record_of v s b) at (omega arith) in
          let early_point = point_in_time p s q is in_time e in
          let found = volume.copied slot s b q stood.0 e tells in
          subst (λ k. IfSome slots (λ blocks. slice_get blocks (place_of_slot k slot) ≡ Some (content (take p ws) q b))) (sym (length-cleared v set records))
          (slots-before slots (place_of_slot (length records) slot) (content (ws ++ more) q b) (content (take p ws) q b)
          (content-before ws more q b (omega arith) ∙ ap (last_bytes b zeros) (sym (take-take q p ws early_point))) found);
    } where
      differ : {b : Bool} → b ≡ true → b ≡ false → ⊥
      differ e f = cc

      strictly : (a b : ℕ) → a ≤ b → (a ≡ b → ⊥) → a < b
      strictly a b m d = elim (eq-or-lt_of_le m) [
        | inl e ↦ absurd (d e)
        | inr k ↦ k
      ]

-- after all of them, and without the set's copies, the volume stands for the reverted history
pub restored_all : (told slots : Option (List (List ℕ))) (records : List Record) (v n : ℕ) (sets : List ℕ) (h : History) (set p k : ℕ) → p ≤ length h.writes
    → IsVolume told slots records v n sets (reverted_in_part n set p k h) → point_in set h.images ≡ Some p → length (to_restore n h.writes p) ≤ k
    → IsVolume told slots (cleared v set records) v n sets (reverted set p h)
restored_all told slots records v n sets h set p k l is e m =
    let P : List ℕ → Type 0 = λ bs. IsVolume told slots records v n sets (record { writes = h.writes ++ map (restoring h.writes p) bs; images = up_to_set set h.images }) in
    restored_last told slots records v n sets h.writes (up_to_set set h.images) set p l (are_up_to set h.images) (last_in_part told slots records v n sets h set p k is e)
    (subst P (take_all k (to_restore n h.writes p) m) is)

-- ## block by block

-- the first m blocks are done: those of them that are to be restored are
abbrev pub restored_below : ℕ → ℕ → ℕ → ℕ → History → History
restored_below n set p m h = reverted_in_part n set p (length (to_restore m h.writes p)) h

from-take : {X : Type 0} (x : X) (k : ℕ) (xs : List X) → Has x (take k xs) → Has x xs
from-take x zero xs h = absurd h
from-take x (suc k) [] h = absurd h
from-take x (suc k) (y ∷ xs) (inl e) = inl e
from-take x (suc k) (y ∷ xs) (inr h) = inr (from-take x k xs h)

in_part_names : (told slots : Option (List (List ℕ))) (records : List Record) (v n : ℕ) (sets : List ℕ) (h : History) (set p k b : ℕ) → p ≤ length h.writes
    → IsVolume told slots records v n sets (reverted_in_part n set p k h) → point_in set h.images ≡ Some p
    → is_named (reverted_in_part n set p k h).writes (up_to_set set h.images) set b ≡ names (drop p h.writes) b
in_part_names told slots records v n sets h set p k b l is e =
    let more = map (restoring h.writes p) (take k (to_restore n h.writes p)) in
    let last = last_in_part told slots records v n sets h set p k is e in
    let early = in_time-more p (length h.writes) (up_to_set set h.images) l (in_time_cut (length (h.writes ++ more)) (up_to_set set h.images) (image_at set p) last is.images.in_time) in
    named-more h.writes more (up_to_set set h.images) (image_at set p) set b last early
    (λ f. (from-to_restore n h.writes p b (from-take b k (to_restore n h.writes p) (restoring_names h.writes p b (take k (to_restore n h.writes p)) f))).1)
    ∙ named_of (length h.writes) h.writes (up_to_set set h.images) (image_at set p) [] b early last

-- a block that has a copy for the set is one to restore
pub to_restore_at : (told slots : Option (List (List ℕ))) (records : List Record) (v n : ℕ) (sets : List ℕ) (h : History) (set p k slot b : ℕ) → p ≤ length h.writes
    → IsVolume told slots records v n sets (reverted_in_part n set p k h) → point_in set h.images ≡ Some p
    → slice_get records slot ≡ Some (record_of v set b) → names (drop p h.writes) b ≡ true
to_restore_at told slots records v n sets h set p k slot b l is e at =
    let last = last_in_part told slots records v n sets h set p k is e in
    sym (in_part_names told slots records v n sets h set p k b l is e) ∙ is.named slot set b (above_zero (up_to_set set h.images) (image_at set p) [] is.images.above_zero last) at

-- what a slot of the set holds is what the block gets
pub slot_bytes : (told slots : Option (List (List ℕ))) (records : List Record) (v n : ℕ) (sets : List ℕ) (h : History) (set p k slot b : ℕ) (bytes : List ℕ) → p ≤ length h.writes
    → IsVolume told slots records v n sets (reverted_in_part n set p k h) → point_in set h.images ≡ Some p
    → slice_get records slot ≡ Some (record_of v set b) → IfSome slots (λ blocks. slice_get blocks (place_of_slot (length records) slot) ≡ Some bytes) → is_some told ≡ true → is_some slots ≡ true
    → bytes ≡ content h.writes p b
slot_bytes told None records v n sets h set p k slot b bytes l is e at read tells both = cc
slot_bytes told (Some blocks) records v n sets h set p k slot b bytes l is e at read tells both =
    let found = is.copied slot set b p at (point_kept set h.images ∙ e) tells in
    let same : Some bytes ≡ Some (content (reverted_in_part n set p k h).writes p b) = sym read ∙ found in
    let bytes_are : bytes ≡ content (reverted_in_part n set p k h).writes p b = cc in
    bytes_are ∙ content-before h.writes (map (restoring h.writes p) (take k (to_restore n h.writes p))) p b l

-- block m has a copy for the set, and is restored from its slot
pub restored_at : (told slots : Option (List (List ℕ))) (records : List Record) (v n : ℕ) (sets : List ℕ) (h : History) (set p m slot : ℕ) (bytes : List ℕ) → p ≤ length h.writes → m < n
    → IsVolume told slots records v n sets (restored_below n set p m h) → point_in set h.images ≡ Some p
    → slice_get records slot ≡ Some (record_of v set m) → IfSome slots (λ blocks. slice_get blocks (place_of_slot (length records) slot) ≡ Some bytes) → (is_some told ≡ true → is_some slots ≡ true)
    → IsVolume (option_map (λ blocks. slice_set blocks m bytes) told) slots records v n sets (restored_below n set p (m + 1) h)
restored_at told slots records v n sets h set p m slot bytes l b is e at read tells =
    let k = length (to_restore m h.writes p) in
    let named = to_restore_at told slots records v n sets h set p k slot m l is e at in
    let long : k + 1 ≡ length (to_restore (m + 1) h.writes p) = sym (ap length (block_restored m h.writes p named) ∙ length-append (to_restore m h.writes p) (m ∷ [])) in
    let P : ℕ → Type 0 = λ j. IsVolume (option_map (λ blocks. slice_set blocks m bytes) told) slots records v n sets (reverted_in_part n set p j h) in
    subst P long (restored_more told slots records v n sets h set p k m bytes l is e (next_restored m n h.writes p b named)
    (λ t. slot_bytes told slots records v n sets h set p k slot m bytes l is e at read t (tells t)))

-- at the end, without the set's copies
pub restored_end : (told slots : Option (List (List ℕ))) (records : List Record) (v n : ℕ) (sets : List ℕ) (h : History) (set p : ℕ) → p ≤ length h.writes
    → IsVolume told slots records v n sets (restored_below n set p n h) → point_in set h.images ≡ Some p → IsVolume told slots (cleared v set records) v n sets (reverted set p h)
restored_end told slots records v n sets h set p l is e = restored_all told slots records v n sets h set p (length (to_restore n h.writes p)) l is e (omega arith)
