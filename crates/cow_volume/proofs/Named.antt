-- The images of one volume: where each stands, what it names, and the copies that the definitions of slots give it.
use Rattle.std.proofs.Common.{◌≡◌, ◌<◌, ◌≤◌, ◌⊎◌, ℕ, List, [], ◌∷◌, ◌++◌, length, map, refl, ap, sym, subst, ◌∙◌, arith, Bool, true, false, Some, inl, inr, ◌||◌}
use Rattle.std.specs.Prelude.{if◌then◌else◌, ◌==◌, All}
use Rattle.std.specs.List.{range_with_len}
use Rattle.std.proofs.lemmas.List.{map-append, length-map, length-append}
use Rattle.std.proofs.lemmas.List.Elements.{All-head, All-tail}
use Rattle.std.proofs.lemmas.Simd.{map-map}
use Rattle.std.proofs.lemmas.Bool.Decides.{nat_tests}
use Rattle.write_history.specs.History.{Write, Image, point_in, names, sets_of, AreLater, AreInTime}
use Rattle.write_history.specs.Slots.{Copy, writes_since, named, used, used_by, copy_of, copies_of}
use Rattle.diff_area.specs.declared.table_record.Record.{Record}
use Rattle.cow_volume.specs.StandsFor.{is_named, record_of}
use Rattle.cow_volume.specs.Calls.{is_among}
use Rattle.cow_volume.proofs.Group.{same_number, number_is}
use Rattle.cow_volume.proofs.Members.{Has, AreApart, has_left, has_right, has_either, has-map, from-map, apart-append, apart-map, has-filter, from-filter, has-range, from-range, apart-range}
use Rattle.cow_volume.proofs.Members.{apart-filtered}
use Rattle.cow_volume.proofs.Listed.{apart_below}

-- ## tests on numbers

pub numbers_are : (a b : ℕ) → a ≡ b → (a == b) ≡ true
numbers_are a b e = grind (arith, nat_tests)

-- ## where an image stands

-- the image is among these, and the newer ones come after it
abbrev pub Stands : Image → List Image → List Image → Type 0
Stands i newer [] = ⊥
Stands i newer (j ∷ js) = ((j ≡ i) × (js ≡ newer)) ⊎ Stands i newer js

pub later_stands : (j i : Image) (newer js : List Image) → AreLater j js → Stands i newer js → (j.set < i.set) × (j.point ≤ i.point)
later_stands j i newer [] l h = absurd h
later_stands j i newer (k ∷ js) l (inl e) = let P : Image → Type 0 = λ x. (j.set < x.set) × (j.point ≤ x.point) in subst P e.0 (l.0, l.1)
later_stands j i newer (k ∷ js) l (inr h) = later_stands j i newer js l.2 h

pub point_stands : (w : ℕ) (images : List Image) (i : Image) (newer : List Image) → AreInTime w images → Stands i newer images → i.point ≤ w
point_stands w [] i newer t h = absurd h
point_stands w (j ∷ js) i newer t (inl e) = let P : Image → Type 0 = λ x. x.point ≤ w in subst P e.0 t.0
point_stands w (j ∷ js) i newer t (inr h) = point_stands w js i newer t.2 h

pub point_of : (w : ℕ) (images : List Image) (i : Image) (newer : List Image) → AreInTime w images → Stands i newer images → point_in i.set images ≡ Some i.point
point_of w [] i newer t h = absurd h
point_of w (j ∷ js) i newer t (inl e) =
    let P : Image → Type 0 = λ x. (if j.set == x.set then Some j.point else point_in x.set js) ≡ Some x.point in
    subst P e.0 (ap (λ (t : Bool). if t then Some j.point else point_in j.set js) (number_is j.set))
point_of w (j ∷ js) i newer t (inr h) =
    ap (λ (t : Bool). if t then Some j.point else point_in i.set js) (apart_below j.set i.set (later_stands j i newer js t.1 h).0) ∙ point_of w js i newer t.2 h

-- an image names what is written since
pub named_of : (w : ℕ) (ws : List Write) (images : List Image) (i : Image) (newer : List Image) (b : ℕ) → AreInTime w images → Stands i newer images
    → is_named ws images i.set b ≡ names (writes_since ws i.point newer) b
named_of w ws [] i newer b t h = absurd h
named_of w ws (j ∷ js) i newer b t (inl e) =
    let P : Image → Type 0 = λ x. (if j.set == x.set then names (writes_since ws j.point js) b else is_named ws js x.set b) ≡ names (writes_since ws x.point js) b in
    subst P e.0 (ap (λ (t : Bool). if t then names (writes_since ws j.point js) b else is_named ws js j.set b) (number_is j.set))
    ∙ ap (λ (x : List Image). names (writes_since ws i.point x) b) e.1
named_of w ws (j ∷ js) i newer b t (inr h) =
    ap (λ (t : Bool). if t then names (writes_since ws j.point js) b else is_named ws js i.set b) (apart_below j.set i.set (later_stands j i newer js t.1 h).0) ∙ named_of w ws js i newer b t.2 h

-- and uses as many slots
pub used_by_it : (w n : ℕ) (ws : List Write) (images : List Image) (i : Image) (newer : List Image) → AreInTime w images → Stands i newer images
    → used_by n ws images i.set ≡ Some (length (named n ws i newer))
used_by_it w n ws [] i newer t h = absurd h
used_by_it w n ws (j ∷ js) i newer t (inl e) =
    let P : Image → Type 0 = λ x. (if j.set == x.set then Some (length (named n ws j js)) else used_by n ws js x.set) ≡ Some (length (named n ws x js)) in
    subst P e.0 (ap (λ (t : Bool). if t then Some (length (named n ws j js)) else used_by n ws js j.set) (number_is j.set))
    ∙ ap (λ (x : List Image). Some (length (named n ws i x))) e.1
used_by_it w n ws (j ∷ js) i newer t (inr h) =
    ap (λ (t : Bool). if t then Some (length (named n ws j js)) else used_by n ws js i.set) (apart_below j.set i.set (later_stands j i newer js t.1 h).0) ∙ used_by_it w n ws js i newer t.2 h

-- ## the image of a set

-- the image of a set stands
pub record OfSet (s : ℕ) (images : List Image) : Type 0 where
  pub image : Image
  pub newer : List Image
  pub stands : Stands image newer images
  pub set_is : image.set ≡ s

further : (s : ℕ) (j : Image) (js : List Image) → OfSet s js → OfSet s (j ∷ js)
further s j js o = record { image = o.image; newer = o.newer; stands = inr o.stands; set_is = o.set_is }

pub of_point : (s p : ℕ) (images : List Image) → point_in s images ≡ Some p → OfSet s images
of_point s p [] e = absurd cc
of_point s p (j ∷ js) e = by_test (j.set == s) refl e (of_point s p js) where
  by_test : (t : Bool) → (j.set == s) ≡ t → (if t then Some j.point else point_in s js) ≡ Some p → (point_in s js ≡ Some p → OfSet s js) → OfSet s (j ∷ js)
  by_test true f g rest = record { image = j; newer = js; stands = inl (refl, refl); set_is = same_number j.set s f }
  by_test false f g rest = further s j js (rest g)

pub of_named : (ws : List Write) (s b : ℕ) (images : List Image) → is_named ws images s b ≡ true → OfSet s images
of_named ws s b [] e = absurd cc
of_named ws s b (j ∷ js) e = by_test (j.set == s) refl e (of_named ws s b js) where
  by_test : (t : Bool) → (j.set == s) ≡ t → (if t then names (writes_since ws j.point js) b else is_named ws js s b) ≡ true → (is_named ws js s b ≡ true → OfSet s js) → OfSet s (j ∷ js)
  by_test true f g rest = record { image = j; newer = js; stands = inl (refl, refl); set_is = same_number j.set s f }
  by_test false f g rest = further s j js (rest g)

pub of_set : (s : ℕ) (images : List Image) → is_among s (sets_of images) ≡ true → OfSet s images
of_set s [] e = absurd cc
of_set s (j ∷ js) e = by_test (j.set == s) refl e (of_set s js) where
  by_test : (t : Bool) → (j.set == s) ≡ t → (t || is_among s (sets_of js)) ≡ true → (is_among s (sets_of js) ≡ true → OfSet s js) → OfSet s (j ∷ js)
  by_test true f g rest = record { image = j; newer = js; stands = inl (refl, refl); set_is = same_number j.set s f }
  by_test false f g rest = further s j js (rest g)

pub above_zero : (images : List Image) (i : Image) (newer : List Image) → All (λ (j : Image). 0 < j.set) images → Stands i newer images → 0 < i.set
above_zero [] i newer a h = absurd h
above_zero (j ∷ js) i newer a (inl e) = let P : Image → Type 0 = λ x. 0 < x.set in subst P e.0 (All-head P j js a)
above_zero (j ∷ js) i newer a (inr h) = let P : Image → Type 0 = λ x. 0 < x.set in above_zero js i newer (All-tail P j js a) h

-- ## the blocks that are named

pub has-named : (n : ℕ) (ws : List Write) (i : Image) (newer : List Image) (b : ℕ) → b < n → names (writes_since ws i.point newer) b ≡ true → Has b (named n ws i newer)
has-named n ws i newer b l e = has-filter (names (writes_since ws i.point newer)) b (range_with_len 0 n) e (has-range 0 n b (omega arith) (omega arith))

pub from-named : (n : ℕ) (ws : List Write) (i : Image) (newer : List Image) (b : ℕ) → Has b (named n ws i newer) → (b < n) × (names (writes_since ws i.point newer) b ≡ true)
from-named n ws i newer b h = grind (arith, from-filter, from-range)

pub apart-named : (n : ℕ) (ws : List Write) (i : Image) (newer : List Image) → AreApart (named n ws i newer)
apart-named n ws i newer = apart-filtered (names (writes_since ws i.point newer)) (range_with_len 0 n) (apart-range 0 n)

-- ## the copies of a volume

-- the record of a copy
abbrev pub key : Copy → Record
key c = record_of c.volume c.set c.block

-- a copy is of a block that an image names
pub record IsCopy (v n : ℕ) (ws : List Write) (images : List Image) (c : Copy) : Type 0 where
  pub image : Image
  pub newer : List Image
  pub stands : Stands image newer images
  pub within : c.block < n
  pub named : names (writes_since ws image.point newer) c.block ≡ true
  pub is : copy_of v ws image c.block ≡ c

pub is-copy : (v n : ℕ) (ws : List Write) (images : List Image) (c : Copy) → Has c (copies_of v n ws images) → IsCopy v n ws images c
is-copy v n ws [] c h = absurd h
is-copy v n ws (j ∷ js) c h = elim (has_either c (map (copy_of v ws j) (named n ws j js)) (copies_of v n ws js) h) [
  | inl m ↦ (let at = from-map (copy_of v ws j) c (named n ws j js) m in
      let known = from-named n ws j js at.0 at.1 in
      let block : at.0 ≡ c.block = ap (λ (x : Copy). x.block) at.2 in
      let P : ℕ → Type 0 = λ b. (b < n) × (names (writes_since ws j.point js) b ≡ true) × (copy_of v ws j b ≡ c) in
      let all : P c.block = subst P block (known.0, known.1, at.2) in
      record { image = j; newer = js; stands = inl (refl, refl); within = all.0; named = all.1; is = all.2 })
  | inr m ↦ (let at = is-copy v n ws js c m in
      record { image = at.image; newer = at.newer; stands = inr at.stands; within = at.within; named = at.named; is = at.is })
]

pub has-copy : (v n : ℕ) (ws : List Write) (images : List Image) (i : Image) (newer : List Image) (b : ℕ) → Stands i newer images → b < n → names (writes_since ws i.point newer) b ≡ true
    → Has (copy_of v ws i b) (copies_of v n ws images)
has-copy v n ws [] i newer b h l e = absurd h
has-copy v n ws (j ∷ js) i newer b (inl f) l e =
    let P : Image → Type 0 = λ x. Has (copy_of v ws x b) (map (copy_of v ws j) (named n ws j js)) in
    let since : names (writes_since ws j.point js) b ≡ true = ap (λ (x : Image). names (writes_since ws x.point js) b) f.0 ∙ ap (λ (x : List Image). names (writes_since ws i.point x) b) f.1 ∙ e in
    has_left (copy_of v ws i b) (map (copy_of v ws j) (named n ws j js)) (copies_of v n ws js)
    (subst P f.0 (has-map (copy_of v ws j) b (named n ws j js) (has-named n ws j js b l since)))
has-copy v n ws (j ∷ js) i newer b (inr h) l e =
    has_right (copy_of v ws i b) (map (copy_of v ws j) (named n ws j js)) (copies_of v n ws js) (has-copy v n ws js i newer b h l e)

-- the definitions of slots count them
pub length-copies : (v n : ℕ) (ws : List Write) (images : List Image) → length (copies_of v n ws images) ≡ used n ws images
length-copies v n ws [] = refl
length-copies v n ws (j ∷ js) =
    let first = length-map (named n ws j js) (copy_of v ws j) in
    let rest = length-copies v n ws js in
    length-append (map (copy_of v ws j) (named n ws j js)) (copies_of v n ws js) ∙ omega arith

-- no two are of one block of one image
pub apart-copies : (w v n : ℕ) (ws : List Write) (images : List Image) → AreInTime w images → AreApart (map key (copies_of v n ws images))
apart-copies w v n ws [] t = tt
apart-copies w v n ws (j ∷ js) t =
    let first = named n ws j js in
    let rest = copies_of v n ws js in
    let apart = apart-map (λ b. record_of v j.set b) first (λ x y e. ap (λ (r : Record). r.block) e) (apart-named n ws j js) in
    let split : map key (map (copy_of v ws j) first ++ rest) ≡ map (λ b. record_of v j.set b) first ++ map key rest =
    map-append key (map (copy_of v ws j) first) rest ∙ ap (λ xs. xs ++ map key rest) (map-map key (copy_of v ws j) first) in
    subst AreApart (sym split) (apart-append (map (λ b. record_of v j.set b) first) (map key rest) apart (apart-copies w v n ws js t.2) (λ r m k.
    let one = from-map (λ b. record_of v j.set b) r first m in
    let two = from-map key r rest k in
    let at = is-copy v n ws js two.0 two.1 in
    let later = later_stands j at.image at.newer js t.1 at.stands in
    let set_one : j.set ≡ r.set = ap (λ (r : Record). r.set) one.2 in
    let set_two : two.0.set ≡ r.set = ap (λ (r : Record). r.set) two.2 in
    let set_of : at.image.set ≡ two.0.set = ap (λ (c : Copy). c.set) at.is in
    absurd (omega arith)))
