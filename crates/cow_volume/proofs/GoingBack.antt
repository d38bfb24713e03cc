-- What is left of a volume's images and copies where the newer images go, and where there are more writes or fewer.
use Rattle.std.proofs.Common.{◌≡◌, ◌≢◌, ◌<◌, ℕ, zero, suc, List, [], ◌∷◌, length, ap, ◌∙◌, arith, Some, ◌≤◌, take, refl, sym, subst, Bool, true, false, not}
use Rattle.std.proofs.Common.{Option, inl, inr, ◌+◌, ◌-◌, ◌++◌, drop, map, ◌||◌, is_some, IfSome, option_map}
use Rattle.std.proofs.lemmas.Bool.{lt-ltb, le-ltb, ltb-false}
use Rattle.std.proofs.lemmas.Bool.Decides.{nat_tests}
use Rattle.std.proofs.lemmas.List.{length-map, length-take-le, take-take, drop-take, drop_all}
use Rattle.std.specs.Prelude.{slice_get, if◌then◌else◌, ◌==◌, nat_lt, slice_set, slice_range}
use Rattle.write_history.specs.History.{Image, History, point_in, without_set, up_to_set, dropped, reverted, reverted_in_part, AreLater, AreInTime, Write}
use Rattle.write_history.specs.History.{content, written, names}
use Rattle.diff_area.specs.Format.{place_of_slot}
use Rattle.diff_area.specs.declared.table_record.Record.{Record}
use Rattle.cow_volume.specs.Changes.{cleared_row, cleared}
use Rattle.cow_volume.specs.StandsFor.{record_of, is_named, IsVolume}
use Rattle.cow_volume.proofs.Group.{same_number}
use Rattle.cow_volume.proofs.Members.{Has}
use Rattle.cow_volume.proofs.Named.{Stands, later_stands, point_stands, named_of}
use Rattle.cow_volume.proofs.Reading.{point_within}
use Rattle.cow_volume.proofs.Writing.{content-before, since-more, range-more, images-more, put_told, put_tells}

-- ## The copies of a volume's images from a set on go: which records are left, and what they leave of the other volumes.

-- the record is not one of those that go
abbrev pub IsOutside : ℕ → ℕ → Record → Type 0
IsOutside v set r = r.volume ≡ v → r.set < set

pub row_left : (v set : ℕ) (q r : Record) → cleared_row v set q ≡ r → 0 < r.set → (q ≡ r) × IsOutside v set r
row_left v set q r e above = grind arith

-- a record that is left stood there
pub from_cleared : (v set slot : ℕ) (records : List Record) (r : Record) → slice_get (cleared v set records) slot ≡ Some r → 0 < r.set → (slice_get records slot ≡ Some r) × IsOutside v set r
from_cleared v set slot [] r e above = absurd cc
from_cleared v set zero (q ∷ rs) r e above =
    let row : cleared_row v set q ≡ r = cc in
    let of = row_left v set q r row above in
    (ap (λ (x : Record). Some x) of.0, of.1)
from_cleared v set (suc slot) (q ∷ rs) r e above = from_cleared v set slot rs r e above

-- and each that does not go is left
pub to_cleared : (v set slot : ℕ) (records : List Record) (r : Record) → slice_get records slot ≡ Some r → IsOutside v set r → slice_get (cleared v set records) slot ≡ Some r
to_cleared v set slot [] r e out = absurd cc
to_cleared v set zero (q ∷ rs) r e out =
    let same : q ≡ r = cc in
    ap (λ x. Some (cleared_row v set x)) same ∙ ap (λ (x : Record). Some x) (grind arith)
to_cleared v set (suc slot) (q ∷ rs) r e out = to_cleared v set slot rs r e out

pub length-cleared : (v set : ℕ) (records : List Record) → length (cleared v set records) ≡ length records
length-cleared v set records = length-map records (cleared_row v set)

-- the records of the other volumes stay at their slots
pub others_cleared : (v set slot u image b : ℕ) (records : List Record) → u ≢ v → slice_get records slot ≡ Some (record_of u image b)
    → slice_get (cleared v set records) slot ≡ Some (record_of u image b)
others_cleared v set slot u image b records d e = to_cleared v set slot records (record_of u image b) e (λ s. absurd (d s))

pub others_stood : (v set slot u image b : ℕ) (records : List Record) → 0 < image → slice_get (cleared v set records) slot ≡ Some (record_of u image b)
    → slice_get records slot ≡ Some (record_of u image b)
others_stood v set slot u image b records above e = (from_cleared v set slot records (record_of u image b) e above).0

-- ## The images of a volume up to that of a set: what is left where the newer ones go, one after another.

-- ## the images up to a set

-- the history without the images that are newer than that of a set
abbrev pub without_newer : ℕ → History → History
without_newer set h = record { writes = h.writes; images = up_to_set set h.images }

-- none of these images is of a later set
abbrev pub AreUpTo : ℕ → List Image → Type 0
AreUpTo set [] = Unit {0}
AreUpTo set (i ∷ is) = (i.set ≤ set) × AreUpTo set is

kept : (set : ℕ) (i : Image) (is : List Image) → i.set ≤ set → up_to_set set (i ∷ is) ≡ i ∷ up_to_set set is
kept set i is l = ap (λ (t : Bool). if not t then i ∷ up_to_set set is else up_to_set set is) (le-ltb set i.set l)

left_out : (set : ℕ) (i : Image) (is : List Image) → set < i.set → up_to_set set (i ∷ is) ≡ up_to_set set is
left_out set i is l = ap (λ (t : Bool). if not t then i ∷ up_to_set set is else up_to_set set is) (lt-ltb set i.set l)

pub are_up_to : (set : ℕ) (is : List Image) → AreUpTo set (up_to_set set is)
are_up_to set [] = tt
are_up_to set (i ∷ is) = grind (arith, ltb-false set i.set, are_up_to set is)

pub all_kept : (set : ℕ) (is : List Image) → AreUpTo set is → up_to_set set is ≡ is
all_kept set [] h = refl
all_kept set (i ∷ is) h = kept set i is h.0 ∙ ap (λ js. i ∷ js) (all_kept set is h.1)

pub up_to_twice : (set : ℕ) (is : List Image) → up_to_set set (up_to_set set is) ≡ up_to_set set is
up_to_twice set is = all_kept set (up_to_set set is) (are_up_to set is)

pub point_kept : (set : ℕ) (is : List Image) → point_in set (up_to_set set is) ≡ point_in set is
point_kept set [] = refl
point_kept set (i ∷ is) = by_test (nat_lt set i.set) (i.set == set) refl refl (point_kept set is) where
  by_test : (t q : Bool) → nat_lt set i.set ≡ t → (i.set == set) ≡ q → point_in set (up_to_set set is) ≡ point_in set is
      → point_in set (if not t then i ∷ up_to_set set is else up_to_set set is) ≡ (if q then Some i.point else point_in set is)
  by_test true true e f rest = absurd (apart set i.set e f) where
    apart : (a b : ℕ) → nat_lt a b ≡ true → (b == a) ≡ true → ⊥
    apart a b e f = grind (arith, nat_tests)
  by_test true false e f rest = rest
  by_test false q e f rest = ap (λ (t : Bool). if t then Some i.point else point_in set (up_to_set set is)) f ∙ ap (λ (o : Option ℕ). if q then Some i.point else o) rest

-- the image of a set with its point
abbrev pub image_at : ℕ → ℕ → Image
image_at set p = record { set = set; point = p }

-- where no image is newer, that of the set stands last
pub stands_last : (w set p : ℕ) (is : List Image) → AreInTime w is → AreUpTo set is → point_in set is ≡ Some p → Stands (image_at set p) [] is
stands_last w set p [] t u e = absurd cc
stands_last w set p (i ∷ is) t u e = by_test (i.set == set) refl e (stands_last w set p is t.2 u.1) where
  none_after : (js : List Image) → i.set ≡ set → AreLater i js → AreUpTo set js → js ≡ []
  none_after [] s l v = refl
  none_after (j ∷ js) s l v = let after = l.0 in let most = v.0 in absurd (omega arith)

  by_test : (q : Bool) → (i.set == set) ≡ q → (if q then Some i.point else point_in set is) ≡ Some p → (point_in set is ≡ Some p → Stands (image_at set p) [] is) → Stands (image_at set p) [] (i ∷ is)
  by_test true f g rest =
      let s = same_number i.set set f in
      let point : i.point ≡ p = cc in
      inl (ap (λ x. image_at x i.point) s ∙ ap (image_at set) point, none_after is s t.1 u.1)
  by_test false f g rest = inr (rest g)

-- so it does in a history without the newer images
pub last_of : (set p : ℕ) (h : History) → AreInTime (length h.writes) (up_to_set set h.images) → point_in set h.images ≡ Some p → Stands (image_at set p) [] (up_to_set set h.images)
last_of set p h t e = stands_last (length h.writes) set p (up_to_set set h.images) t (are_up_to set h.images) (point_kept set h.images ∙ e)

pub in_time_cut : (w : ℕ) (is : List Image) (i : Image) → Stands i [] is → AreInTime w is → AreInTime i.point is
in_time_cut w [] i h t = absurd h
in_time_cut w (j ∷ js) i (inl e) t =
    let P : Image → Type 0 = λ x. j.point ≤ x.point in
    (subst P e.0 (own j.point), t.1, subst (λ xs. AreInTime i.point xs) (sym e.1) tt) where
      own : (a : ℕ) → a ≤ a
      own a = omega arith
in_time_cut w (j ∷ js) i (inr h) t = ((later_stands j i [] js t.1 h).1, t.1, in_time_cut w js i h t.2)

-- ## the newer images go

-- some images that are newer than that of a set are gone
pub record IsWithoutSome (set : ℕ) (old new : History) : Type 0 where
  pub writes : new.writes ≡ old.writes
  pub older : up_to_set set new.images ≡ up_to_set set old.images

without_if : (set s : ℕ) (is : List Image) → set < s → up_to_set set (without_set s is) ≡ up_to_set set is
without_if set s [] l = refl
without_if set s (i ∷ is) l = by_test (i.set == s) refl (without_if set s is l) where
  by_test : (q : Bool) → (i.set == s) ≡ q → up_to_set set (without_set s is) ≡ up_to_set set is → up_to_set set (if not q then i ∷ without_set s is else without_set s is) ≡ up_to_set set (i ∷ is)
  by_test true e rest = let same = same_number i.set s e in rest ∙ sym (left_out set i is (omega arith))
  by_test false e rest = ap (λ (js : List Image). if not (nat_lt set i.set) then i ∷ js else js) rest

-- none so far
pub none_gone : (set : ℕ) (h : History) → IsWithoutSome set h h
none_gone set h = record { writes = refl; older = refl }

-- one more
pub one_gone : (set s : ℕ) (old new : History) → set < s → IsWithoutSome set old new → IsWithoutSome set old (dropped s new)
one_gone set s old new l h = record { writes = h.writes; older = without_if set s new.images l ∙ h.older }

-- the images of these sets go, one after another
abbrev pub dropped_all : List ℕ → History → History
dropped_all [] h = h
dropped_all (s ∷ sets) h = dropped_all sets (dropped s h)

some_gone : (set : ℕ) (sets : List ℕ) (old new : History) → ((s : ℕ) → Has s sets → set < s) → IsWithoutSome set old new → IsWithoutSome set old (dropped_all sets new)
some_gone set [] old new l h = h
some_gone set (s ∷ sets) old new l h = some_gone set sets old (dropped s new) (λ x m. l x (inr m)) (one_gone set s old new (l s (inl refl)) h)

-- where the images of newer sets went until no newer one was left, the images up to the set are left
pub newer_gone : (set : ℕ) (sets : List ℕ) (h : History) → ((s : ℕ) → Has s sets → set < s) → AreUpTo set (dropped_all sets h).images → dropped_all sets h ≡ without_newer set h
newer_gone set sets h l u = grind (arith, all_kept, some_gone set sets h h l (none_gone set h))

-- a revert is the same from there
pub reverted_from : (set p : ℕ) (h : History) → reverted set p (without_newer set h) ≡ reverted set p h
reverted_from set p h = ap (λ is. record { writes = take p h.writes; images = is }) (up_to_twice set h.images)

pub reverted_in_part_from : (n set p k : ℕ) (h : History) → reverted_in_part n set p k (without_newer set h) ≡ reverted_in_part n set p k h
reverted_in_part_from n set p k h = grind (arith, up_to_twice)

-- ## What more writes, or fewer, change of what the images name and of the blocks; and a write of a block that the newest
-- image names, which needs no copy.

-- ## what the images name, with more writes or fewer

or_absorbed : (a b : Bool) → (b ≡ true → a ≡ true) → (a || b) ≡ a
or_absorbed a b h = grind arith

range-cut : (ws : List Write) (p q r : ℕ) → p ≤ q → q ≤ r → slice_range (take r ws) p q ≡ slice_range ws p q
range-cut ws p q r l m =
    let split : r ≡ p + (r - p) = omega arith in
    ap (λ k. take (q - p) (drop p (take k ws))) split ∙ ap (take (q - p)) (drop-take p (r - p) ws) ∙ take-take (q - p) (r - p) (drop p ws) (omega arith)

-- writes of blocks that the last image names leave what is named as it was
pub named-more : (ws more : List Write) (is : List Image) (i : Image) (s b : ℕ) → Stands i [] is → AreInTime (length ws) is → (names more b ≡ true → names (drop i.point ws) b ≡ true)
    → is_named (ws ++ more) is s b ≡ is_named ws is s b
named-more ws more [] i s b h t n = absurd h
named-more ws more (j ∷ []) i s b (inl e) t n =
    let P : Image → Type 0 = λ x. names more b ≡ true → names (drop x.point ws) b ≡ true in
    ap (λ (x : Bool). if j.set == s then x else false) (since-more ws more j.point b t.0 ∙ or_absorbed (names (drop j.point ws) b) (names more b) (subst P (sym e.0) n))
named-more ws more (j ∷ []) i s b (inr h) t n = absurd h
named-more ws more (j ∷ k ∷ ks) i s b (inl e) t n = absurd cc (e.1)
named-more ws more (j ∷ k ∷ ks) i s b (inr h) t n =
    let rest = named-more ws more (k ∷ ks) i s b h t.2 n in
    ap (λ (xs : List Write). if j.set == s then names xs b else is_named (ws ++ more) (k ∷ ks) s b) (range-more ws more j.point k.point t.1.1 t.2.0)
    ∙ ap (λ (x : Bool). if j.set == s then names (slice_range ws j.point k.point) b else x) rest

-- the older images name the same where the writes are cut back to the last one's point
pub named-cut : (w : ℕ) (ws : List Write) (is : List Image) (i : Image) (s b : ℕ) → Stands i [] is → AreInTime w is → i.set ≢ s → is_named (take i.point ws) is s b ≡ is_named ws is s b
named-cut w ws [] i s b h t d = absurd h
named-cut w ws (j ∷ []) i s b (inl e) t d = by_test (j.set == s) refl where
  by_test : (q : Bool) → (j.set == s) ≡ q → (if q then names (drop j.point (take i.point ws)) b else false) ≡ (if q then names (drop j.point ws) b else false)
  by_test true f = absurd (d (ap (λ (x : Image). x.set) (sym e.0) ∙ same_number j.set s f))
  by_test false f = refl
named-cut w ws (j ∷ []) i s b (inr h) t d = absurd h
named-cut w ws (j ∷ k ∷ ks) i s b (inl e) t d = absurd cc (e.1)
named-cut w ws (j ∷ k ∷ ks) i s b (inr h) t d =
    let rest = named-cut w ws (k ∷ ks) i s b h t.2 d in
    let before = point_stands i.point (k ∷ ks) k ks (in_time_cut w (k ∷ ks) i h t.2) (inl (refl, refl)) in
    ap (λ (xs : List Write). if j.set == s then names xs b else is_named (take i.point ws) (k ∷ ks) s b) (range-cut ws j.point k.point i.point t.1.1 before)
    ∙ ap (λ (x : Bool). if j.set == s then names (slice_range ws j.point k.point) b else x) rest

-- and the last one names nothing
pub none-named-cut : (w : ℕ) (ws : List Write) (is : List Image) (i : Image) (b : ℕ) → Stands i [] is → AreInTime w is → i.point ≤ length ws → is_named (take i.point ws) is i.set b ≡ false
none-named-cut w ws is i b h t l =
    let long = length-take-le i.point ws l in
    named_of w (take i.point ws) is i [] b t h ∙ ap (λ xs. names xs b) (drop_all i.point (take i.point ws) (omega arith))

-- ## two functions that agree on a list

pub map-same : {X Y : Type 0} (f g : X → Y) (xs : List X) → ((x : X) → Has x xs → f x ≡ g x) → map f xs ≡ map g xs
map-same f g [] h = refl
map-same f g (x ∷ xs) h = ap (λ y. y ∷ map f xs) (h x (inl refl)) ∙ ap (λ ys. g x ∷ ys) (map-same f g xs (λ z m. h z (inr m)))

-- ## a write of a block that the newest image names

pub slots-before : (slots : Option (List (List ℕ))) (at : ℕ) (bytes same : List ℕ) → bytes ≡ same → IfSome slots (λ blocks. slice_get blocks at ≡ Some bytes)
    → IfSome slots (λ blocks. slice_get blocks at ≡ Some same)
slots-before slots at bytes same e h = subst (λ x. IfSome slots (λ blocks. slice_get blocks at ≡ Some x)) e h

-- it needs no copy: the records are those of the history with one more write
pub restored_one : (told slots : Option (List (List ℕ))) (records : List Record) (v n : ℕ) (sets : List ℕ) (h : History) (i : Image) (w : Write) (bytes : List ℕ)
    → IsVolume told slots records v n sets h → Stands i [] h.images → names (drop i.point h.writes) w.block ≡ true → w.block < n → (is_some told ≡ true → bytes ≡ w.bytes)
    → IsVolume (option_map (λ blocks. slice_set blocks w.block bytes) told) slots records v n sets (written w h)
restored_one told slots records v n sets h i w bytes is last named l known =
    let only : (b : ℕ) → names (w ∷ []) b ≡ true → names (drop i.point h.writes) b ≡ true = λ b e. by_test b (w.block == b) refl e in
    let same = λ (s b : ℕ). named-more h.writes (w ∷ []) h.images i s b last is.images.in_time (only b) in
    record {
      blocks = put_told n h.writes w told bytes l known is.blocks;
      sets_are = is.sets_are;
      images = images-more h.writes w h.images is.images;
      named = λ slot s b above at. same s b ∙ is.named slot s b above at;
      recorded = λ s b m e. is.recorded s b m (sym (same s b) ∙ e);
      copied = λ slot s b p at e tells. slots-before slots (place_of_slot (length records) slot) (content h.writes p b) (content (h.writes ++ w ∷ []) p b)
          (sym (content-before h.writes (w ∷ []) p b (point_within (length h.writes) s p h.images is.images.in_time e)))
          (is.copied slot s b p at e (sym (put_tells told w.block bytes) ∙ tells));
    } where
      by_test : (b : ℕ) (t : Bool) → (w.block == b) ≡ t → (t || false) ≡ true → names (drop i.point h.writes) b ≡ true
      by_test b true f e = ap (names (drop i.point h.writes)) (sym (same_number w.block b f)) ∙ named
      by_test b false f e = cc
