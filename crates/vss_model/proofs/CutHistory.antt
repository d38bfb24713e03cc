-- What the images of a volume show: each a beginning of its effective writes, namely those at its set's cut.
use Rattle.std.proofs.Common.{◌≡◌, ℕ, ◌-◌, ◌==◌, ◌<◌, ◌≤◌, List, [], ◌∷◌, ◌++◌, Option, Some, None, refl, Bool, true, false, filter, length, take, subst}
use Rattle.std.proofs.Common.{inl, inr, arith}
use Rattle.std.specs.Prelude.{◌⊎◌, is_some, not, if◌then◌else◌, nat_lt}
use Rattle.vss_model.proofs.Terms.{append_assoc, take-append-add, cases_lt, eqb-true, common_steps, Write, Image, History, point_in, up_to_set, dropped}
use Rattle.vss_model.proofs.Terms.{written, reverted, reverted_in_part, State, in_progress, history_of, has_image, is_in_set, history_cut as cut, unless}
use Rattle.vss_model.proofs.Volumes.{at}

-- the state at the cut of each set that was cut
abbrev pub Known : Type 0
Known = ℕ → Option State

abbrev pub writes_at : State → ℕ → List Write
writes_at y v = (history_of y v).writes

pub record Begins (first ws : List Write) : Type 0 where
  pub rest : List Write
  pub is : ws ≡ first ++ rest

-- an image of volume v: its set was cut, with the volume, and the writes begin with those at the cut, as many as its point says
abbrev pub ShownIn : Option State → ℕ → ℕ → List Write → Type 0
ShownIn None v point ws = ⊥
ShownIn (Some y) v point ws = (is_in_set v (in_progress y) ≡ true) × (length (writes_at y v) ≡ point) × Begins (writes_at y v) ws

-- the images after one have later sets, and points that are no less
abbrev pub Above : Image → List Image → Type 0
Above i [] = Unit {0}
Above i (j ∷ js) = (i.set < j.set) × (i.point ≤ j.point) × Above i js

abbrev pub Shown : Known → ℕ → List Write → List Image → Type 0
Shown k v ws [] = Unit {0}
Shown k v ws (i ∷ images) = ShownIn (k i.set) v i.point ws × Above i images × Shown k v ws images

abbrev pub IsShown : Known → ℕ → History → Type 0
IsShown k v h = Shown k v h.writes h.images

abbrev pub AllShown : Known → List History → Type 0
AllShown k hs = (v : ℕ) → IsShown k v (at hs v)

-- ## fewer images

above-filter : (test : Image → Bool) (i : Image) (js : List Image) → Above i js → Above i (filter test js)
above-filter test i [] h = tt
above-filter test i (j ∷ js) h = grind (arith, h.0, h.1, above-filter test i js h.2)

shown_if : (b : Bool) (k : Known) (v : ℕ) (ws : List Write) (i : Image) (images : List Image) → (b ≡ true → ShownIn (k i.set) v i.point ws) → Above i images → Shown k v ws images → Shown k v ws (if b then i ∷ images else images)
shown_if b k v ws i images e f h = grind arith

pub shown-filter : (test : Image → Bool) (k : Known) (v : ℕ) (ws : List Write) (images : List Image) → Shown k v ws images → Shown k v ws (filter test images)
shown-filter test k v ws [] h = tt
shown-filter test k v ws (i ∷ images) h = shown_if (test i) k v ws i (filter test images) (λ e. h.0) (above-filter test i images h.1) (shown-filter test k v ws images h.2)

-- ## more writes

pub shown-writes : (k : Known) (v : ℕ) (ws more : List Write) (images : List Image) → Shown k v ws images → Shown k v (ws ++ more) images
shown-writes k v ws more [] h = tt
shown-writes k v ws more (i ∷ images) h = (grind (arith, common_steps, append_assoc, h.0), h.1, shown-writes k v ws more images h.2)

-- ## back to a point

begins-take : (first ws : List Write) (n : ℕ) → length first ≤ n → Begins first ws → Begins first (take n ws)
begins-take first ws n l h = grind (arith, common_steps, take-append-add first h.rest (n - length first))

-- an image that is kept by a revert has no greater point
abbrev Within : ℕ → ℕ → List Image → Type 0
Within n p [] = Unit {0}
Within n p (i ∷ images) = (nat_lt n i.set ≡ false → i.point ≤ p) × Within n p images

above_point : (i : Image) (n p : ℕ) (js : List Image) → Above i js → point_in n js ≡ Some p → i.point ≤ p
above_point i n p [] h e = absurd cc
above_point i n p (j ∷ js) h e = grind (arith, h.1, above_point i n p js h.2)

later_within : (i : Image) (n p : ℕ) (js : List Image) → i.set ≡ n → Above i js → Within n p js
later_within i n p [] e h = tt
later_within i n p (j ∷ js) e h = grind (arith, common_steps, later_within i n p js e h.2)

within : (k : Known) (v : ℕ) (ws : List Write) (n p : ℕ) (images : List Image) → Shown k v ws images → point_in n images ≡ Some p → Within n p images
within k v ws n p [] h e = absurd cc
within k v ws n p (i ∷ images) h e = grind (arith, later_within, eqb-true, above_point, h.1, within k v ws n p images h.2)

back : (k : Known) (v : ℕ) (ws : List Write) (n p : ℕ) (images : List Image) → Shown k v ws images → Within n p images → Shown k v (take p ws) (up_to_set n images)
back k v ws n p [] h l = tt
back k v ws n p (i ∷ images) h l = let ih = back k v ws n p images h.2 l.1 in grind (arith, common_steps, shown_if, begins-take, unless, above-filter)

pub shown-reverted : (k : Known) (v n p : ℕ) (h : History) → point_in n h.images ≡ Some p → IsShown k v h → IsShown k v (reverted n p h)
shown-reverted k v n p h e shown = back k v h.writes n p h.images shown (within k v h.writes n p h.images shown e)

pub shown-reverted_in_part : (blocks : ℕ) (k : Known) (v n p m : ℕ) (h : History) → IsShown k v h → IsShown k v (reverted_in_part blocks n p m h)
shown-reverted_in_part blocks k v n p m h shown = shown-filter (λ i. not (nat_lt n i.set)) k v _ h.images (shown-writes k v h.writes _ h.images shown)

-- ## fewer images, more writes, of a volume

pub shown-dropped : (n : ℕ) (k : Known) (v : ℕ) (h : History) → IsShown k v h → IsShown k v (dropped n h)
shown-dropped n k v h shown = shown-filter (λ i. not (i.set == n)) k v h.writes h.images shown

pub shown-written : (w : Write) (k : Known) (v : ℕ) (h : History) → IsShown k v h → IsShown k v (written w h)
shown-written w k v h shown = shown-writes k v h.writes (w ∷ []) h.images shown

-- ## the same that is known

pub shown_along : (k l : Known) (v : ℕ) (ws : List Write) (images : List Image) → ((n : ℕ) (y : State) → k n ≡ Some y → l n ≡ Some y) → Shown k v ws images → Shown l v ws images
shown_along k l v ws [] same h = tt
shown_along k l v ws (i ∷ images) same h = let ih = shown_along k l v ws images same h.2 in grind (arith, common_steps)

-- ## a new image

-- all of these have an earlier set, and a point that is no greater
abbrev Below : List Image → ℕ → ℕ → Type 0
Below [] n p = Unit {0}
Below (i ∷ images) n p = (i.set < n) × (i.point ≤ p) × Below images n p

above-append : (i j : Image) (js : List Image) → Above i js → i.set < j.set → i.point ≤ j.point → Above i (js ++ j ∷ [])
above-append i j [] h e f = (e, f, tt)
above-append i j (x ∷ js) h e f = (h.0, h.1, above-append i j js h.2 e f)

shown-append : (k : Known) (v : ℕ) (ws : List Write) (images : List Image) (j : Image) → Shown k v ws images → Below images j.set j.point → ShownIn (k j.set) v j.point ws → Shown k v ws (images ++ j ∷ [])
shown-append k v ws [] j h b e = (e, tt, tt)
shown-append k v ws (i ∷ images) j h b e = (h.0, above-append i j images h.1 b.0 b.1, shown-append k v ws images j h.2 b.2 e)

is_below : (k : Known) (v p n m : ℕ) (ws : List Write) → ((l : ℕ) → n < l → k l ≡ None) → (m == n) ≡ false → ShownIn (k m) v p ws → m < n
is_below k v p n m ws none other h = by_cases (cases_lt n m) where
  less : (a b : ℕ) → a ≤ b → (a == b) ≡ false → a < b
  less a b l e = grind arith

  by_cases : (n < m) ⊎ (m ≤ n) → m < n
  by_cases (inl l) = absurd (subst (λ o. ShownIn o v p ws) (none m l) h)
  by_cases (inr l) = less m n l other

-- these are of sets before n, which has none here
below : (k : Known) (v : ℕ) (ws : List Write) (n : ℕ) (images : List Image) → ((m : ℕ) → n < m → k m ≡ None) → is_some (point_in n images) ≡ false → Shown k v ws images
    → Below images n (length ws)
below k v ws n [] none unset h = tt
below k v ws n (i ∷ images) none unset h =
    let parts = by_head (i.set == n) unset
    in (is_below k v i.point n i.set ws none parts.0 h.0, grind (arith, common_steps, h.0), below k v ws n images none parts.1 h.2) where
      by_head : (b : Bool) → is_some (if b then Some i.point else point_in n images) ≡ false → (b ≡ false) × (is_some (point_in n images) ≡ false)
      by_head b e = grind arith

pub append_none : (ws : List Write) → ws ≡ ws ++ []
append_none ws = grind (arith, common_steps)

pub shown-cut : (k : Known) (v n : ℕ) (y : State) (h : History) → k n ≡ Some y → is_in_set v (in_progress y) ≡ true → h.writes ≡ writes_at y v
    → ((m : ℕ) → n < m → k m ≡ None) → has_image n h ≡ false → IsShown k v h → IsShown k v (cut n h)
shown-cut k v n y h e among f none unset shown = grind (arith, common_steps, shown-append, append_none, below)

-- ## the image of a set

point_if : (b : Bool) (k : Known) (v n p : ℕ) (ws : List Write) (i : Image) (images : List Image) → (i.set == n) ≡ b
    → (if b then Some i.point else point_in n images) ≡ Some p → ShownIn (k i.set) v i.point ws → (point_in n images ≡ Some p → ShownIn (k n) v p ws)
    → ShownIn (k n) v p ws
point_if b k v n p ws i images e f h ih = grind arith

pub point_shown : (k : Known) (v n p : ℕ) (ws : List Write) (images : List Image) → point_in n images ≡ Some p → Shown k v ws images → ShownIn (k n) v p ws
point_shown k v n p ws [] e h = absurd cc
point_shown k v n p ws (i ∷ images) e h = point_if (i.set == n) k v n p ws i images refl e h.0 (λ f. point_shown k v n p ws images f h.2)
