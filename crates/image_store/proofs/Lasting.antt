-- What holds of every list of steps: an image that stays is that of its cut.
use Rattle.std.proofs.Common.{◌≡◌, ◌≢◌, ℕ, zero, suc, ◌<◌, List, [], ◌∷◌, ◌++◌, length, map, refl, ap, ◌∙◌, arith, Bool, true, false, ◌||◌, Some, None}
use Rattle.std.specs.Prelude.{◌==◌, ◌&&◌, not, filter, nat_lt, nat_le, if◌then◌else◌}
use Rattle.std.proofs.lemmas.Bool.Decides.{nat_tests}
use Rattle.std.proofs.lemmas.List.{length-map}
use Rattle.cow_volume.specs.Calls.{is_among}
use Rattle.cow_volume.proofs.Group.{same_number, other_number, number_is}
use Rattle.image_store.specs.Plain.{Kept, Plain, PlainStore, plain_at, volume_in, image_in, image_of, on_volume, on_each, cut_on, gone_on, with_blocks, dropped_on, older_on, reverted_on}
use Rattle.image_store.specs.Steps.{Step, AreAllowed, after, after_all, goes, stays}
use Rattle.image_store.specs.Steps.Step.{Cut, Gone, Updated, UpdatedInPart, Dropped, Reverted, RevertedInPart, Shown, Read, Opened}
use Rattle.image_store.specs.Course.{ImagesAreOfTheirCut}

-- ## a list of steps in two parts

pub after-append : (s : PlainStore) (xs ys : List Step) → after_all s (xs ++ ys) ≡ after_all (after_all s xs) ys
after-append s [] ys = refl
after-append s (x ∷ xs) ys = after-append (after s x) xs ys

pub allowed-append : (s : PlainStore) (xs ys : List Step) → AreAllowed s (xs ++ ys) → AreAllowed (after_all s xs) ys
allowed-append s [] ys all = all
allowed-append s (x ∷ xs) ys all = allowed-append (after s x) xs ys all.1

-- ## the volumes stay as many

length-on : (v : ℕ) (f : Plain → Plain) (ps : List Plain) → length (on_volume v f ps) ≡ length ps
length-on v f [] = refl
length-on zero f (p ∷ ps) = refl
length-on (suc v) f (p ∷ ps) = ap suc (length-on v f ps)

length-each : (vs : List ℕ) (f : Plain → Plain) (ps : List Plain) → length (on_each vs f ps) ≡ length ps
length-each [] f ps = refl
length-each (v ∷ vs) f ps = length-each vs f (on_volume v f ps) ∙ length-on v f ps

pub as_many : (s : PlainStore) (x : Step) → length (after s x).volumes ≡ length s.volumes
as_many s x = grind (arith, length-each, length-map, length-on)

pub as_many_after : (s : PlainStore) (xs : List Step) → length (after_all s xs).volumes ≡ length s.volumes
as_many_after s [] = refl
as_many_after s (x ∷ xs) = as_many_after (after s x) xs ∙ as_many s x

-- ## an image where one volume changes

-- the image of a set on volume v has these blocks
abbrev pub Has : List Plain → ℕ → ℕ → List (List ℕ) → Type 0
Has ps set v blocks = image_in set (volume_in ps v).images ≡ Some blocks

has-on : (u v set : ℕ) (f : Plain → Plain) (ps : List Plain) (blocks : List (List ℕ)) → (u ≡ v → image_in set (f (volume_in ps v)).images ≡ Some blocks) → Has ps set v blocks
    → Has (on_volume u f ps) set v blocks
has-on u v set f [] blocks h has = has
has-on zero zero set f (p ∷ ps) blocks h has = h refl
has-on zero (suc v) set f (p ∷ ps) blocks h has = has
has-on (suc u) zero set f (p ∷ ps) blocks h has = has
has-on (suc u) (suc v) set f (p ∷ ps) blocks h has = has-on u v set f ps blocks (λ e. h (ap suc e)) has

has-all : (v set : ℕ) (f : Plain → Plain) (ps : List Plain) (blocks : List (List ℕ)) → ((p : Plain) → image_in set p.images ≡ Some blocks → image_in set (f p).images ≡ Some blocks)
    → Has ps set v blocks
    → Has (map f ps) set v blocks
has-all v set f [] blocks h has = cc
has-all zero set f (p ∷ ps) blocks h has = h p has
has-all (suc v) set f (p ∷ ps) blocks h has = has-all v set f ps blocks h has

has-push : (set : ℕ) (ks : List Kept) (k : Kept) (blocks : List (List ℕ)) → image_in set ks ≡ Some blocks → image_in set (ks ++ k ∷ []) ≡ Some blocks
has-push set [] k blocks e = cc
has-push set (j ∷ ks) k blocks e = grind (arith, has-push set ks k blocks)

has-each : (vs : List ℕ) (v set other : ℕ) (ps : List Plain) (blocks : List (List ℕ)) → Has ps set v blocks → Has (on_each vs (cut_on other) ps) set v blocks
has-each [] v set other ps blocks has = has
has-each (u ∷ vs) v set other ps blocks has = has-each vs v set other (on_volume u (cut_on other) ps) blocks
    (has-on u v set (cut_on other) ps blocks (λ e. has-push set (volume_in ps v).images (record { set = other; blocks = (volume_in ps v).blocks }) blocks has) has)

has-filter : (test : Kept → Bool) (set : ℕ) (ks : List Kept) (blocks : List (List ℕ)) → ((k : Kept) → k.set ≡ set → test k ≡ true) → image_in set ks ≡ Some blocks
    → image_in set (filter test ks) ≡ Some blocks
has-filter test set [] blocks stays e = cc
has-filter test set (k ∷ ks) blocks stays e = grind (arith, same_number, stays k, has-filter test set ks blocks stays)

-- ## a step in which it does not go

not_equal : (s set u v : ℕ) → ((s == set) && (u == v)) ≡ false → u ≡ v → (k : Kept) → k.set ≡ set → not (k.set == s) ≡ true
not_equal s set u v e same k is = grind (arith, nat_tests)

not_newer : (s set u v : ℕ) → (nat_lt s set && (u == v)) ≡ false → u ≡ v → (k : Kept) → k.set ≡ set → not (nat_lt s k.set) ≡ true
not_newer s set u v e same k is = grind (arith, nat_tests)

not_gone : (up_to set : ℕ) → nat_le set up_to ≡ false → (k : Kept) → k.set ≡ set → nat_lt up_to k.set ≡ true
not_gone up_to set e k is = grind (arith, nat_tests)

has-step : (s : PlainStore) (x : Step) (set v : ℕ) (blocks : List (List ℕ)) → goes set v x ≡ false → image_of s set v ≡ Some blocks → image_of (after s x) set v ≡ Some blocks
has-step s (Cut other vs) set v blocks e has = has-each vs v set other s.volumes blocks has
has-step s (Gone up_to) set v blocks e has = has-all v set (gone_on up_to) s.volumes blocks (λ p is. has-filter (λ k. nat_lt up_to k.set) set p.images blocks (not_gone up_to set e) is) has
has-step s (Updated u wanted) set v blocks e has = has-on u v set (with_blocks wanted) s.volumes blocks (λ same. has) has
has-step s (UpdatedInPart u wanted now) set v blocks e has = has-on u v set (with_blocks now) s.volumes blocks (λ same. has) has
has-step s (Dropped other u) set v blocks e has =
    has-on u v set (dropped_on other) s.volumes blocks (λ same. has-filter (λ k. not (k.set == other)) set (plain_at s v).images blocks (not_equal other set u v e same) has) has
has-step s (Reverted other u) set v blocks e has =
    has-on u v set (reverted_on other) s.volumes blocks (λ same. has-filter (λ k. not (nat_lt other k.set)) set (plain_at s v).images blocks (not_newer other set u v e same) has) has
has-step s (RevertedInPart other u now) set v blocks e has =
    has-on u v set (λ p. with_blocks now (older_on other p)) s.volumes blocks
    (λ same. has-filter (λ k. not (nat_lt other k.set)) set (plain_at s v).images blocks (not_newer other set u v e same) has) has
has-step s (Shown other u bytes) set v blocks e has = has
has-step s (Read u bytes) set v blocks e has = has
has-step s Opened set v blocks e has = has

both : (a b : Bool) → (not a && b) ≡ true → (a ≡ false) × (b ≡ true)
both a b e = grind arith

pub has-steps : (s : PlainStore) (xs : List Step) (set v : ℕ) (blocks : List (List ℕ)) → stays set v xs ≡ true → image_of s set v ≡ Some blocks → image_of (after_all s xs) set v ≡ Some blocks
has-steps s [] set v blocks e has = has
has-steps s (x ∷ xs) set v blocks e has =
    let parts = both (goes set v x) (stays set v xs) e in
    has-steps (after s x) xs set v blocks parts.1 (has-step s x set v blocks parts.0 has)

-- ## the cut

pushed : (set : ℕ) (ks : List Kept) (blocks : List (List ℕ)) → image_in set ks ≡ None → image_in set (ks ++ record { set = set; blocks = blocks } ∷ []) ≡ Some blocks
pushed set [] blocks none = ap (λ (t : Bool). if t then Some blocks else None) (number_is set)
pushed set (k ∷ ks) blocks none = by_test (k.set == set) none (pushed set ks blocks) where
  by_test : (t : Bool) → (if t then Some k.blocks else image_in set ks) ≡ None → (image_in set ks ≡ None → image_in set (ks ++ record { set = set; blocks = blocks } ∷ []) ≡ Some blocks)
      → (if t then Some k.blocks else image_in set (ks ++ record { set = set; blocks = blocks } ∷ [])) ≡ Some blocks
  by_test true e rest = cc
  by_test false e rest = rest e

-- the first cut of a volume
cut-on : (v set : ℕ) (ps : List Plain) → v < length ps → image_in set (volume_in ps v).images ≡ None → Has (on_volume v (cut_on set) ps) set v (volume_in ps v).blocks
cut-on v set [] l none = absurd (omega arith)
cut-on zero set (p ∷ ps) l none = pushed set p.images p.blocks none
cut-on (suc v) set (p ∷ ps) l none = cut-on v set ps (omega arith) none

-- ... of another leaves this one
pub other-on : (u v : ℕ) (f : Plain → Plain) (ps : List Plain) → u ≢ v → volume_in (on_volume u f ps) v ≡ volume_in ps v
other-on u v f [] other = refl
other-on zero zero f (p ∷ ps) other = absurd (other refl)
other-on zero (suc v) f (p ∷ ps) other = refl
other-on (suc u) zero f (p ∷ ps) other = refl
other-on (suc u) (suc v) f (p ∷ ps) other = other-on u v f ps (λ e. other (ap suc e))

pub cut-each : (vs : List ℕ) (v set : ℕ) (ps : List Plain) → v < length ps → image_in set (volume_in ps v).images ≡ None → is_among v vs ≡ true
    → Has (on_each vs (cut_on set) ps) set v (volume_in ps v).blocks
cut-each [] v set ps l none e = cc
cut-each (u ∷ vs) v set ps l none e = by_test (u == v) refl e (cut-each vs v set (on_volume u (cut_on set) ps)) where
  by_test : (t : Bool) → (u == v) ≡ t → (t || is_among v vs) ≡ true
      → (v < length (on_volume u (cut_on set) ps) → image_in set (volume_in (on_volume u (cut_on set) ps) v).images ≡ None → is_among v vs ≡ true
      → Has (on_each vs (cut_on set) (on_volume u (cut_on set) ps)) set v (volume_in (on_volume u (cut_on set) ps) v).blocks)
      → Has (on_each vs (cut_on set) (on_volume u (cut_on set) ps)) set v (volume_in ps v).blocks
  by_test t is f rest = grind (arith, has-each, same_number, cut-on, other-on, other_number, length-on)

pub images_of_cuts : ImagesAreOfTheirCut
images_of_cuts s earlier later set v vs all l among stay =
    let before = after_all s earlier in
    let rest = allowed-append s earlier (Cut set vs ∷ later) all in
    let many = as_many_after s earlier in
    let within : v < length before.volumes = omega arith in
    let cut = cut-each vs v set before.volumes within (rest.0.1 v) among in
    ap (λ (t : PlainStore). image_of t set v) (after-append s earlier (Cut set vs ∷ later)) ∙ has-steps (after before (Cut set vs)) later set v (plain_at before v).blocks stay cut
