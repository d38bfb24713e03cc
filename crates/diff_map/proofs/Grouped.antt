-- The arena of a group: what a copy is to its volume and to the others, and what the maps keep where one volume changes.
use Rattle.std.proofs.Common.{ℕ, zero, suc, ◌≡◌, ◌+◌, ◌-◌, ◌<◌, ◌≤◌, ◌⊎◌, Bool, List, [], ◌∷◌, set, map, replicate, Option, Some, None, refl, ap, sym, ◌∙◌}
use Rattle.std.proofs.Common.{arith, ◌≢◌, inl, inr, length, get_or, subst, slice_get}
use Rattle.std.proofs.Math.Seq.{map-set_same}
use Rattle.std.proofs.lemmas.Bool.{cases_eq, cases_lt}
use Rattle.std.proofs.lemmas.Grind.{common_steps}
use Rattle.std.proofs.lemmas.List.{map-set, set-get_or, get_or-map, get_or-set_same, get_or-set_other, length-map, length-set}
use Rattle.std.proofs.lemmas.Option.{same_Some, none-some, slice_get_read, slice_get_within, get_or_from_slice_get}
use Rattle.std.specs.Prelude.{IfSome, IsNone, IsTrue, ◌↔◌}
use Rattle.diff_map.specs.Copies.{IsFound, IsAbsent, copied_at, copy_of, HasCopy, MapValue, IsMap}
use Rattle.diff_map.specs.Counts.{IsCounted}
use Rattle.diff_map.specs.Groups.{map_at, IsUnnoted, Part, own, part_of, own_copies, map_of, AreParts, KeepsVolume, KeepsGroup}
use Rattle.diff_map.specs.Links.{AreLinked}
use Rattle.diff_map.specs.declared.copied.Copied.{Copied}
use Rattle.diff_map.specs.declared.image_count.ImageCount.{ImageCount}
use Rattle.diff_map.specs.declared.of_volume.OfVolume.{OfVolume}
use Rattle.diff_map.proofs.Counting.{lead_on_set, not_for}

-- ## The arena of a group: what a copy is to the volume that it is of, and to the others.

-- ## a copy

pub own_from : (p : Part) (c : Copied) → p.base ≤ c.block → c.block < p.base + p.blocks → own p (Some c) ≡ Some (copy_of c.set (c.block - p.base))
own_from p c from to = grind arith

pub own_here : (p : Part) (image block : ℕ) → block < p.blocks → own p (Some (copy_of image (p.base + block))) ≡ Some (copy_of image block)
own_here p image block low = own_from p (copy_of image (p.base + block)) (omega arith) (omega arith) ∙ ap (λ k. Some (copy_of image k)) (omega arith)

-- what a part has of a copy says which it is
pub record IsOwn (p : Part) (o : Option Copied) (image block : ℕ) : Type 0 where
  pub is : o ≡ Some (copy_of image (p.base + block))
  pub low : block < p.blocks

pub own_is : (p : Part) (o : Option Copied) (image block : ℕ) → own p o ≡ Some (copy_of image block) → IsOwn p o image block
own_is p o image block is = grind arith

-- no block is of both
abbrev pub AreApart : Part → Part → Type 0
AreApart p q = (p.base + p.blocks ≤ q.base) ⊎ (q.base + q.blocks ≤ p.base)

pub own_apart : (p q : Part) (image block : ℕ) → AreApart p q → block < p.blocks → own q (Some (copy_of image (p.base + block))) ≡ None
own_apart p q image block apart low = grind arith

-- ## the copies of a part

pub own_at : (p : Part) (copies : List (Option Copied)) (slot : ℕ) → copied_at (map (own p) copies) slot ≡ own p (copied_at copies slot)
own_at p copies slot = grind (arith, common_steps)

pub own_copy : (p : Part) (copies : List (Option Copied)) (slot image block : ℕ) → copied_at (map (own p) copies) slot ≡ Some (copy_of image block) → IsOwn p (copied_at copies slot) image block
own_copy p copies slot image block is = own_is p (copied_at copies slot) image block (sym (own_at p copies slot) ∙ is)

pub copy_own : (p : Part) (copies : List (Option Copied)) (slot image block : ℕ) → block < p.blocks → copied_at copies slot ≡ Some (copy_of image (p.base + block))
    → copied_at (map (own p) copies) slot ≡ Some (copy_of image block)
copy_own p copies slot image block low is = own_at p copies slot ∙ ap (own p) is ∙ own_here p image block low

pub has_own : (p : Part) (copies : List (Option Copied)) (image block : ℕ) → HasCopy (map (own p) copies) image block → HasCopy copies image (p.base + block)
has_own p copies image block had = (had.0, (own_copy p copies had.0 image block had.1).is)

pub found_own : (p : Part) (copies : List (Option Copied)) (asked block slot : ℕ) → block < p.blocks → IsFound copies asked (p.base + block) slot → IsFound (map (own p) copies) asked block slot
found_own p copies asked block slot low found = record {
  image = found.image;
  noted = copy_own p copies slot found.image block low found.noted;
  reached = found.reached;
  first = λ other newer is. found.first other newer (own_copy p copies other newer block is).is;
}

pub absent_own : (p : Part) (copies : List (Option Copied)) (asked block : ℕ) → IsAbsent copies asked (p.base + block) → IsAbsent (map (own p) copies) asked block
absent_own p copies asked block absent slot image is = absent slot image (own_copy p copies slot image block is).is

pub own_absent : (p : Part) (copies : List (Option Copied)) (asked block : ℕ) → block < p.blocks → IsAbsent (map (own p) copies) asked block → IsAbsent copies asked (p.base + block)
own_absent p copies asked block low absent slot image is = absent slot image (copy_own p copies slot image block low is)

pub absent_outside : (p : Part) (copies : List (Option Copied)) (asked block : ℕ) → p.blocks ≤ block → IsAbsent (map (own p) copies) asked block
absent_outside p copies asked block past slot image is = let it = (own_copy p copies slot image block is).low in λ reached. absurd (omega arith)

-- the copies of the parts where a slot's copy is of none of them
pub own_same : (p : Part) (copies : List (Option Copied)) (slot : ℕ) (row : Option Copied) → own p (copied_at copies slot) ≡ None → own p row ≡ None
    → map (own p) (set copies slot row) ≡ map (own p) copies
own_same p copies slot row before after = grind (arith, map-set, own_at, set-get_or)

pub own_set : (p : Part) (copies : List (Option Copied)) (slot : ℕ) (row mine : Option Copied) → own p row ≡ mine → map (own p) (set copies slot row) ≡ set (map (own p) copies) slot mine
own_set p copies slot row mine is = map-set (own p) copies slot row ∙ ap (λ (o : Option Copied). set (map (own p) copies) slot o) is

pub own_none : (p : Part) (n : ℕ) → map (own p) (replicate n None) ≡ replicate n None
own_none p zero = refl
own_none p (suc n) = ap (λ (xs : List (Option Copied)). None ∷ xs) (own_none p n)

-- ## finding

pub found_if : (o : Option ℕ) (p : Part) (copies : List (Option Copied)) (asked block : ℕ) → block < p.blocks → IfSome o (IsFound copies asked (p.base + block))
    → IfSome o (IsFound (map (own p) copies) asked block)
found_if o p copies asked block low found = grind (arith, found_own)

pub none_if : (o : Option ℕ) (p : Part) (copies : List (Option Copied)) (asked block : ℕ) → block < p.blocks → IsNone o ↔ IsAbsent copies asked (p.base + block)
    → IsNone o ↔ IsAbsent (map (own p) copies) asked block
none_if o p copies asked block low none = (λ is. absent_own p copies asked block (none.0 is), λ absent. none.1 (own_absent p copies asked block low absent))

pub has_if : (b : Bool) (p : Part) (copies : List (Option Copied)) (image block : ℕ) → block < p.blocks → IsTrue b ↔ HasCopy copies image (p.base + block)
    → IsTrue b ↔ HasCopy (map (own p) copies) image block
has_if b p copies image block low has = grind (arith, copy_own, has_own)

pub has_outside : (p : Part) (copies : List (Option Copied)) (image block : ℕ) → p.blocks ≤ block → HasCopy (map (own p) copies) image block → ⊥
has_outside p copies image block past had = let low = (own_copy p copies had.0 image block had.1).low in absurd (omega arith)

-- ## noting

pub unnoted_own : (p : Part) (copies : List (Option Copied)) (slot : ℕ) → slice_get copies slot ≡ Some None → slice_get (map (own p) copies) slot ≡ Some None
unnoted_own p [] slot unnoted = unnoted
unnoted_own p (o ∷ copies) zero unnoted = ap (λ (x : Option Copied). Some (own p x)) (same_Some o None unnoted)
unnoted_own p (o ∷ copies) (suc slot) unnoted = unnoted_own p copies slot unnoted

-- ## What the maps of a group keep where one volume changes, and the slot of one copy with it.

-- ## a volume that is read

pub volume_within : (copies : List (Option Copied)) (volumes : List OfVolume) (maps : List MapValue) (v : ℕ) → map (map_of copies) volumes ≡ maps → v < length maps → v < length volumes
volume_within copies volumes maps v view inside = let l = length-map volumes (map_of copies) in let e = ap length view in omega arith

pub map_here : (copies : List (Option Copied)) (volumes : List OfVolume) (maps : List MapValue) (v : ℕ) (volume : OfVolume) → map (map_of copies) volumes ≡ maps → v < length maps
    → volume ≡ get_or volumes v volume → map_at maps v ≡ map_of copies volume
map_here copies volumes maps v volume view inside is = grind (arith, get_or-map, volume_within)

long_of : (copies : List (Option Copied)) (volumes : List OfVolume) (v : ℕ) → v < length volumes → length (map_at (map (map_of copies) volumes) v).copies ≡ length copies
long_of copies [] v inside = absurd (omega arith)
long_of copies (x ∷ xs) zero inside = length-map copies (own (part_of x))
long_of copies (x ∷ xs) (suc v) inside = long_of copies xs v (omega arith)

pub long_at : (copies : List (Option Copied)) (volumes : List OfVolume) (maps : List MapValue) (v : ℕ) → map (map_of copies) volumes ≡ maps → v < length maps
    → length (map_at maps v).copies ≡ length copies
long_at copies volumes maps v view inside = grind (arith, long_of, volume_within)

module _ (blocks : ℕ) (volumes : List OfVolume) (next : List ℕ) (copies : List (Option Copied)) (keeps : KeepsGroup blocks volumes next copies) where
  pub keeps_here : (v : ℕ) (volume : OfVolume) → v < length volumes → volume ≡ get_or volumes v volume → KeepsVolume next copies volume
  keeps_here v volume inside is = subst (KeepsVolume next copies) (sym is) (keeps.each v volume inside)

  pub part_here : (v : ℕ) (d : OfVolume) → v < length volumes → get_or (map part_of volumes) v (part_of d) ≡ part_of (get_or volumes v d)
  part_here v d inside = get_or-map part_of volumes v d (part_of d) inside

  pub part_fits : (v : ℕ) (volume : OfVolume) → v < length volumes → volume ≡ get_or volumes v volume → volume.base + volume.blocks ≤ blocks
  part_fits v volume inside is = grind (arith, common_steps, part_here v volume inside)

  pub parts_apart : (v u : ℕ) (d : OfVolume) → v < length volumes → u < length volumes → u ≢ v → AreApart (part_of (get_or volumes v d)) (part_of (get_or volumes u d))
  parts_apart v u d inside within differ =
      let l = length-map volumes part_of in
      let here = part_here v d inside in
      let there = part_here u d within in
      elim (cases_lt u v) [
        | inl before ↦ inr (subst (λ (p : Part). p.base + p.blocks ≤ (part_of (get_or volumes v d)).base) there
            (subst (λ (p : Part). (get_or (map part_of volumes) u (part_of d)).base + (get_or (map part_of volumes) u (part_of d)).blocks ≤ p.base) here
            (keeps.parts.apart u v (part_of d) before (omega arith))))
        | inr after ↦ inl (subst (λ (p : Part). p.base + p.blocks ≤ (part_of (get_or volumes u d)).base) here
            (subst (λ (p : Part). (get_or (map part_of volumes) v (part_of d)).base + (get_or (map part_of volumes) v (part_of d)).blocks ≤ p.base) there
            (keeps.parts.apart v u (part_of d) (omega arith) (omega arith))))
      ]

  -- ## one volume changes, and keeps its part
  pub KeepsGroup-one : (later : List ℕ) (after : List (Option Copied)) (v : ℕ) (volume new : OfVolume) → v < length volumes → volume ≡ get_or volumes v volume → part_of new ≡ part_of volume
      → KeepsVolume later after new → ((u : ℕ) (d : OfVolume) → u ≢ v → u < length volumes → KeepsVolume later after (get_or volumes u d)) → KeepsGroup blocks (set volumes v new) later after
  KeepsGroup-one later after v volume new inside is part here others = record {
    parts = subst (AreParts blocks) (sym (map-set_same part_of volumes v new volume (part ∙ ap part_of is))) keeps.parts;
    each = λ k d within.
        let long = length-set volumes v new in
        elim (cases_eq k v) [
          | inl same ↦ subst (KeepsVolume later after) (sym (ap (λ j. get_or (set volumes v new) j d) same ∙ get_or-set_same volumes v new d inside)) here
          | inr differ ↦ subst (KeepsVolume later after) (sym (get_or-set_other volumes v k new d differ)) (others k d differ (omega arith))
        ];
  }

-- the map of a volume
pub IsMap-from : (blocks : ℕ) (next : List ℕ) (copies : List (Option Copied)) (volume : OfVolume) → AreLinked (record { blocks = blocks; copies = copies }) → KeepsVolume next copies volume
    → IsMap (map_of copies volume)
IsMap-from blocks next copies volume linked keeps =
    let p = part_of volume in
    record {
      images = keeps.images.are_images;
      of_images = keeps.images.of_images;
      of_blocks = λ slot c is. (own_copy p copies slot c.set c.block is).low;
      once = λ slot other c is is_other. linked.once slot other (copy_of c.set (p.base + c.block)) (own_copy p copies slot c.set c.block is).is (own_copy p copies other c.set c.block is_other).is;
    }

get_map : (copies : List (Option Copied)) (volumes : List OfVolume) (u : ℕ) (d : OfVolume) → u < length volumes → slice_get (map (map_of copies) volumes) u ≡ Some (map_of copies (get_or volumes u d))
get_map copies [] u d inside = absurd (omega arith)
get_map copies (x ∷ xs) zero d inside = refl
get_map copies (x ∷ xs) (suc u) d inside = get_map copies xs u d (omega arith)

-- a slot that is noted for no volume has no copy
pub unnoted_from : (blocks : ℕ) (volumes : List OfVolume) (next : List ℕ) (copies : List (Option Copied)) (maps : List MapValue) (v slot : ℕ) (volume : OfVolume)
    → KeepsGroup blocks volumes next copies → AreLinked (record { blocks = blocks; copies = copies }) → map (map_of copies) volumes ≡ maps → v < length volumes → IsUnnoted maps slot
    → slice_get copies slot ≡ Some None
unnoted_from blocks volumes next copies maps v slot volume keeps linked view inside unnoted = by_row (copied_at copies slot) refl where
  in_volume : (u : ℕ) → u < length volumes → slice_get (own_copies (get_or volumes u volume) copies) slot ≡ Some None
  in_volume u within = unnoted u (map_of copies (get_or volumes u volume)) (ap (λ (ms : List MapValue). slice_get ms u) (sym view) ∙ get_map copies volumes u volume within)

  by_row : (o : Option Copied) → copied_at copies slot ≡ o → slice_get copies slot ≡ Some None
  by_row None is =
      let low = slice_get_within (own_copies (get_or volumes v volume) copies) slot None (in_volume v inside) in
      let as_long = length-map copies (own (part_of (get_or volumes v volume))) in
      slice_get_read copies (length copies) slot None refl (omega arith) (sym is)
  by_row (Some c) is =
      let at = keeps.parts.all c.block (linked.of_blocks slot c is) in
      let l = length-map volumes part_of in
      let within : at.0 < length volumes = let lt = at.1 in omega arith in
      let p = part_of (get_or volumes at.0 volume) in
      let part_is = part_here blocks volumes next copies keeps at.0 volume within in
      let from : p.base ≤ c.block = subst (λ (q : Part). q.base ≤ c.block) part_is (at.2 (part_of volume)) in
      let to : c.block < p.base + p.blocks = subst (λ (q : Part). c.block < q.base + q.blocks) part_is (at.3 (part_of volume)) in
      absurd (none-some (copy_of c.set (c.block - p.base))
      (sym (get_or_from_slice_get (map (own p) copies) slot None None (in_volume at.0 within)) ∙ own_at p copies slot ∙ ap (own p) is ∙ own_from p c from to))

-- ## the other volumes where a slot gets or loses a copy

-- a slot that holds no copy of the volume leads nowhere in its chains
IsCounted-other : (next : List ℕ) (copies : List (Option Copied)) (slot value : ℕ) (count : ImageCount) → copied_at copies slot ≡ None → IsCounted next copies count
    → IsCounted (set next slot value) copies count
IsCounted-other next copies slot value count none is = record {
  used = is.used;
  chain = record {
    slots = is.chain.slots;
    lead = lead_on_set next slot value count.first is.chain.slots (λ among. not_for copies count.set slot none (is.chain.each slot among)) is.chain.lead;
    once = is.chain.once;
    each = is.chain.each;
    all = is.chain.all;
  };
}

pub KeepsVolume-other : (volume : OfVolume) (next : List ℕ) (copies : List (Option Copied)) (slot value : ℕ) (row : Option Copied) → own (part_of volume) (copied_at copies slot) ≡ None
    → own (part_of volume) row ≡ None → KeepsVolume next copies volume → KeepsVolume (set next slot value) (set copies slot row) volume
KeepsVolume-other volume next copies slot value row before after keeps = grind (arith, own_same, own_at, length-set, IsCounted-other)

pub KeepsVolume-left : (volume : OfVolume) (next : List ℕ) (copies : List (Option Copied)) (slot : ℕ) (row : Option Copied) → own (part_of volume) (copied_at copies slot) ≡ None
    → own (part_of volume) row ≡ None → KeepsVolume next copies volume → KeepsVolume next (set copies slot row) volume
KeepsVolume-left volume next copies slot row before after keeps =
    subst (λ (links : List ℕ). KeepsVolume links (set copies slot row) volume) (set-get_or next slot 0) (KeepsVolume-other volume next copies slot (get_or next slot 0) row before after keeps)

-- ## the value afterwards

map_same : (f g : OfVolume → MapValue) (volumes : List OfVolume) → ((u : ℕ) (d : OfVolume) → u < length volumes → f (get_or volumes u d) ≡ g (get_or volumes u d)) → map f volumes ≡ map g volumes
map_same f g [] same = refl
map_same f g (x ∷ xs) same = ap (λ y. y ∷ map f xs) (same 0 x (omega arith)) ∙ ap (λ ys. g x ∷ ys) (map_same f g xs (λ u d within. same (suc u) d (omega arith)))

set_others : (f g : OfVolume → MapValue) (volumes : List OfVolume) (v : ℕ) (new : OfVolume) (m : MapValue) → f new ≡ m
    → ((u : ℕ) (d : OfVolume) → u ≢ v → u < length volumes → f (get_or volumes u d) ≡ g (get_or volumes u d)) → map f (set volumes v new) ≡ set (map g volumes) v m
set_others f g [] v new m is same = refl
set_others f g (x ∷ xs) zero new m is same = ap (λ y. y ∷ map f xs) is ∙ ap (λ ys. m ∷ ys) (map_same f g xs (λ u d within. same (suc u) d (omega arith) (omega arith)))
set_others f g (x ∷ xs) (suc v) new m is same =
    ap (λ y. y ∷ map f (set xs v new)) (same 0 x (omega arith) (omega arith))
    ∙ ap (λ ys. g x ∷ ys) (set_others f g xs v new m is (λ u d differ within. same (suc u) d (λ e. differ (omega arith)) (omega arith)))

-- the maps, where one volume changes and the copies of the others do not
pub maps_after : (copies after : List (Option Copied)) (volumes : List OfVolume) (maps : List MapValue) (v : ℕ) (new : OfVolume) (m : MapValue) → map (map_of copies) volumes ≡ maps
    → map_of after new ≡ m
    → ((u : ℕ) (d : OfVolume) → u ≢ v → u < length volumes → own_copies (get_or volumes u d) after ≡ own_copies (get_or volumes u d) copies) → map (map_of after) (set volumes v new) ≡ set maps v m
maps_after copies after volumes maps v new m view is same =
    set_others (map_of after) (map_of copies) volumes v new m is (λ u d differ within. ap (λ (cs : List (Option Copied)). map_with (get_or volumes u d) cs) (same u d differ within))
    ∙ ap (λ (ms : List MapValue). set ms v m) view where
      map_with : OfVolume → List (Option Copied) → MapValue
      map_with volume cs = record { blocks = volume.blocks; images = volume.images.items; copies = cs }

pub maps_one : (copies : List (Option Copied)) (volumes : List OfVolume) (maps : List MapValue) (v : ℕ) (new : OfVolume) (m : MapValue) → map (map_of copies) volumes ≡ maps → map_of copies new ≡ m
    → map (map_of copies) (set volumes v new) ≡ set maps v m
maps_one copies volumes maps v new m view is = maps_after copies copies volumes maps v new m view is (λ u d differ within. refl)
