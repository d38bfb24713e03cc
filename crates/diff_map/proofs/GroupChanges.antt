-- A volume of a group, and what its maps keep where a slot is noted, loses its copy or goes to the next older image, and where its images change.
use Rattle.std.proofs.Common.{ℕ, ◌≡◌, ◌≢◌, ◌+◌, ◌-◌, ◌<◌, ◌≤◌, inl, inr, List, length, get_or, set, map, Option, Some, None, refl, ap, sym, ◌∙◌, subst, arith}
use Rattle.std.proofs.Common.{Contains, Vec, vec_capacity, slice_get, ◌^◌, rules}
use Rattle.std.proofs.lemmas.Bool.{cases_eq, false≢true}
use Rattle.std.proofs.lemmas.List.{get_or-map, get_or-set_same, get_or-set_other, get_or_default, length-map, length-set, set-get_or, set-set}
use Rattle.std.proofs.lemmas.Option.{get_or_from_slice_get, slice_get_read, slice_get_within, none-some}
use Rattle.std.specs.declared.alloc.Global.{Global}
use Rattle.std.proofs.lemmas.Grind.{common_steps}
use Rattle.diff_map.specs.Copies.{copied_at, copy_of, noted_in, HasCopy, MapValue, KeepsImages}
use Rattle.diff_map.specs.Counts.{KeepsCounts}
use Rattle.diff_map.specs.Groups.{map_at, with_images, with_row, IsOnlyAt, IsUnnoted, IsGivenDown, part_of, own, own_copies, map_of, KeepsVolume, KeepsGroup}
use Rattle.diff_map.specs.Links.{AreLinked}
use Rattle.diff_map.specs.declared.copied.Copied.{Copied}
use Rattle.diff_map.specs.declared.image_count.ImageCount.{ImageCount}
use Rattle.diff_map.specs.declared.of_volume.OfVolume.{OfVolume}
use Rattle.diff_map.proofs.Counted.{KeepsImages-set, KeepsCounts-noted, KeepsCounts-popped, place_of_count, first_at_place, one_more_fits, used_is}
use Rattle.diff_map.proofs.Counting.{noted_more, noted_less}
use Rattle.diff_map.proofs.Grouped.{volume_within, map_here, keeps_here, part_fits, parts_apart, KeepsGroup-one, unnoted_from, KeepsVolume-other}
use Rattle.diff_map.proofs.Grouped.{KeepsVolume-left, maps_after, maps_one, AreApart, IsOwn, own_at, own_here, own_apart, own_copy, copy_own, own_same, own_set}
use Rattle.diff_map.proofs.Grouped.{unnoted_own}
use Rattle.diff_map.proofs.Renewal.{get_within}

-- ## A volume of a group, and what its maps keep where a slot is noted for it or loses its copy, and where its images change.

-- the volume is that at place v of a group
pub record IsAt (blocks : ℕ) (volumes : List OfVolume) (next : List ℕ) (copies : List (Option Copied)) (maps : List MapValue) (v : ℕ) (volume : OfVolume) : Type 0 where
  pub keeps : KeepsGroup blocks volumes next copies
  pub view : map (map_of copies) volumes ≡ maps
  pub inside : v < length maps
  pub is : volume ≡ get_or volumes v volume

pub is_at : {blocks : ℕ} {volumes : List OfVolume} {next : List ℕ} {copies : List (Option Copied)} {maps : List MapValue} {v : ℕ} {volume : OfVolume} → KeepsGroup blocks volumes next copies
    → map (map_of copies) volumes ≡ maps → v < length maps → volume ≡ get_or volumes v volume → IsAt blocks volumes next copies maps v volume
is_at keeps view inside is = record { keeps = keeps; view = view; inside = inside; is = is }

-- the volume with other images, counts and number of slots
abbrev pub with_lists : OfVolume → ℕ → Vec ℕ Global → Vec ImageCount Global → OfVolume
with_lists volume used images counts = record { base = volume.base; blocks = volume.blocks; used = used; images = images; counts = counts }

abbrev with_copies_of : OfVolume → List (Option Copied) → MapValue
with_copies_of volume cs = record { blocks = volume.blocks; images = volume.images.items; copies = cs }

-- one map changes
pub map_at_set : (old new : List MapValue) (v : ℕ) (m : MapValue) → new ≡ set old v m → v < length old → map_at new v ≡ m
map_at_set old new v m is inside = ap (λ (ms : List MapValue). map_at ms v) is ∙ get_or-set_same old v m _ inside

pub only_at : (old new : List MapValue) (v : ℕ) (m : MapValue) → new ≡ set old v m → v < length old → IsOnlyAt v old new
only_at old new v m is inside = is ∙ ap (λ (x : MapValue). set old v x) (sym (map_at_set old new v m is inside))

pub no_row : (copies : List (Option Copied)) (slot : ℕ) → slot < length copies → copied_at copies slot ≡ None → slice_get copies slot ≡ Some None
no_row copies slot inside is = slice_get_read copies (length copies) slot None refl inside (sym is)

pub only_twice : (old mid new : List MapValue) (v : ℕ) (m : MapValue) → IsOnlyAt v old mid → new ≡ set mid v m → v < length old → IsOnlyAt v old new
only_twice old mid new v m first is inside = only_at old new v m (is ∙ ap (λ (ms : List MapValue). set ms v m) first ∙ set-set old v (map_at mid v) m) inside

pub only_still : (old new : List MapValue) (v : ℕ) → new ≡ old → IsOnlyAt v old new
only_still old new v is = is ∙ sym (set-get_or old v _) ∙ ap (λ (ms : List MapValue). set old v (map_at ms v)) (sym is)

module _ {blocks : ℕ} {volumes : List OfVolume} {next : List ℕ} {copies : List (Option Copied)} {maps : List MapValue} {v : ℕ} {volume : OfVolume}
    (at : IsAt blocks volumes next copies maps v volume) where
  pub within : v < length volumes
  within = volume_within copies volumes maps v at.view at.inside

  pub here : map_at maps v ≡ map_of copies volume
  here = map_here copies volumes maps v volume at.view at.inside at.is

  pub kept : KeepsVolume next copies volume
  kept = keeps_here blocks volumes next copies at.keeps v volume within at.is

  pub fits : volume.base + volume.blocks ≤ blocks
  fits = part_fits blocks volumes next copies at.keeps v volume within at.is

  apart : (u : ℕ) (d : OfVolume) → u ≢ v → u < length volumes → AreApart (part_of volume) (part_of (get_or volumes u d))
  apart u d differ low = subst (λ (x : OfVolume). AreApart (part_of x) (part_of (get_or volumes u d))) (get_or_default volumes v d volume within ∙ sym at.is)
      (parts_apart blocks volumes next copies at.keeps v u d within low differ)

  pub maps_still : map (map_of copies) (set volumes v volume) ≡ maps
  maps_still = ap (λ (x : OfVolume). map (map_of copies) (set volumes v x)) at.is ∙ ap (map (map_of copies)) (set-get_or volumes v volume) ∙ at.view

  -- ## its images change

  pub KeepsGroup-images : (images : Vec ℕ Global) (counts : Vec ImageCount Global) → KeepsImages images (own_copies volume copies) → KeepsCounts images counts next (own_copies volume copies)
      → KeepsGroup blocks (set volumes v (with_lists volume volume.used images counts)) next copies
  KeepsGroup-images images counts of_images of_counts =
      KeepsGroup-one blocks volumes next copies at.keeps next copies v volume (with_lists volume volume.used images counts) within at.is refl
      (record { images = of_images; counts = of_counts; used = kept.used }) (λ u d differ low. at.keeps.each u d low)

  pub maps_images : (images : Vec ℕ Global) (counts : Vec ImageCount Global) (later : List ℕ) → images.items ≡ later
      → map (map_of copies) (set volumes v (with_lists volume volume.used images counts)) ≡ set maps v (with_images later (map_at maps v))
  maps_images images counts later is = grind (arith, maps_one, here)

  -- ## a slot is noted for it

  pub unnoted_row : (slot : ℕ) → AreLinked (record { blocks = blocks; copies = copies }) → IsUnnoted maps slot → slice_get copies slot ≡ Some None
  unnoted_row slot linked unnoted = unnoted_from blocks volumes next copies maps v slot volume at.keeps linked at.view within unnoted

  pub lacks_row : (image block : ℕ) → block < volume.blocks → (HasCopy (own_copies volume copies) image block → ⊥) → HasCopy copies image (volume.base + block) → ⊥
  lacks_row image block low lacks had = lacks (had.0, copy_own (part_of volume) copies had.0 image block low had.1)

  pub copy_low : (slot image block : ℕ) → copied_at (map_at maps v).copies slot ≡ Some (copy_of image block) → block < (map_at maps v).blocks
  copy_low slot image block had = subst (λ (x : MapValue). block < x.blocks) (sym here)
      (own_copy (part_of volume) copies slot image block (subst (λ (x : MapValue). copied_at x.copies slot ≡ Some (copy_of image block)) here had)).low

  -- a slot that loses a copy of the volume is noted for none
  pub unnoted_popped : (slot image block : ℕ) → copied_at (map_at maps v).copies slot ≡ Some (copy_of image block) → IsUnnoted (set maps v (with_row slot None (map_at maps v))) slot
  unnoted_popped slot image block had u m got =
      let is = (own_copy (part_of volume) copies slot image block (subst (λ (x : MapValue). copied_at x.copies slot ≡ Some (copy_of image block)) here had)) in
      let low = get_within (own_copies volume copies) slot (copy_of image block) (subst (λ (x : MapValue). copied_at x.copies slot ≡ Some (copy_of image block)) here had) in
      let long = length-map copies (own (part_of volume)) in
      let m_is = get_or_from_slice_get (set maps v (with_row slot None (map_at maps v))) u m m got in
      let inside_u = slice_get_within (set maps v (with_row slot None (map_at maps v))) u m got in
      let long_maps = length-set maps v (with_row slot None (map_at maps v)) in
      elim (cases_eq u v) [
        | inl same ↦
            let x_is : with_row slot None (map_at maps v) ≡ m = sym (ap (λ k. get_or (set maps v (with_row slot None (map_at maps v))) k m) same ∙ get_or-set_same maps v _ m at.inside) ∙ m_is in
            let long_here = ap (λ (x : MapValue). length x.copies) here in
            subst (λ (x : MapValue). slice_get x.copies slot ≡ Some None) x_is (no_row (set (map_at maps v).copies slot None) slot
            (let l = length-set (map_at maps v).copies slot None in omega arith) (get_or-set_same (map_at maps v).copies slot None None (omega arith)))
        | inr differ ↦
            let within_u : u < length volumes = volume_within copies volumes maps u at.view (omega arith) in
            let w = get_or volumes u volume in
            let w_is : map_of copies w ≡ m = sym (ap (λ (ms : List MapValue). get_or ms u m) (sym at.view) ∙ get_or-map (map_of copies) volumes u volume m within_u)
            ∙ sym (get_or-set_other maps v u (with_row slot None (map_at maps v)) m differ) ∙ m_is in
            subst (λ (x : MapValue). slice_get x.copies slot ≡ Some None) w_is (no_row (own_copies w copies) slot (let l = length-map copies (own (part_of w)) in omega arith)
            (own_at (part_of w) copies slot ∙ ap (own (part_of w)) is.is ∙ own_apart (part_of volume) (part_of w) image block (apart u volume differ within_u) is.low))
      ]

  module _ (image block slot : ℕ) (low : block < volume.blocks) (unnoted : slice_get copies slot ≡ Some None) where
    abbrev row : Option Copied
    row = Some (copy_of image (volume.base + block))

    mine : own_copies volume (set copies slot row) ≡ set (own_copies volume copies) slot (Some (copy_of image block))
    mine = own_set (part_of volume) copies slot row (Some (copy_of image block)) (own_here (part_of volume) image block low)

    not_before : (u : ℕ) (d : OfVolume) → own (part_of (get_or volumes u d)) (copied_at copies slot) ≡ None
    not_before u d = ap (own (part_of (get_or volumes u d))) (get_or_from_slice_get copies slot None None unnoted)

    not_after : (u : ℕ) (d : OfVolume) → u ≢ v → u < length volumes → own (part_of (get_or volumes u d)) row ≡ None
    not_after u d differ inside = own_apart (part_of volume) (part_of (get_or volumes u d)) image block (apart u d differ inside) low

    pub KeepsGroup-noted : (n : ℕ) (count : ImageCount) (newer : Vec ImageCount Global) → Contains volume.images.items image → n < length volume.images.items
        → ((d : ℕ) → get_or volume.images.items n d ≡ image) → count ≡ get_or volume.counts.items n count
        → newer.items ≡ set volume.counts.items n (record { set = image; used = count.used + 1; first = slot })
        → vec_capacity volume.counts ≤ vec_capacity newer
        → KeepsGroup blocks (set volumes v (with_lists volume (volume.used + 1) volume.images newer)) (set next slot count.first) (set copies slot row)
    KeepsGroup-noted n count newer contains inside is read items cap =
        let free = unnoted_own (part_of volume) copies slot unnoted in
        KeepsGroup-one blocks volumes next copies at.keeps (set next slot count.first) (set copies slot row) v volume (with_lists volume (volume.used + 1) volume.images newer) within at.is refl
        (record {
          images = subst (KeepsImages volume.images) (sym mine) (KeepsImages-set volume.images (own_copies volume copies) slot (Some (copy_of image block)) kept.images contains);
          counts = subst (KeepsCounts volume.images newer (set next slot count.first)) (sym mine)
              (KeepsCounts-noted volume.images volume.counts next (own_copies volume copies) image n count kept.images kept.counts inside is read newer slot block free items cap);
          used = ap (λ k. k + 1) kept.used ∙ sym (noted_more (own_copies volume copies) slot (copy_of image block) free) ∙ ap noted_in (sym mine);
        })
        (λ u d differ low_u. KeepsVolume-other (get_or volumes u d) next copies slot count.first row (not_before u d) (not_after u d differ low_u) (at.keeps.each u d low_u))

    pub maps_noted : (used : ℕ) (newer : Vec ImageCount Global)
        → map (map_of (set copies slot row)) (set volumes v (with_lists volume used volume.images newer)) ≡ set maps v (with_row slot (Some (copy_of image block)) (map_at maps v))
    maps_noted used newer = search (rules, maps_after, mine, here, own_same, not_before, not_after)

  -- ## the first slot of one of its images loses its copy

  module _ (n : ℕ) (count : ImageCount) (inside : n < length volume.images.items) (read : count ≡ get_or volume.counts.items n count) (some : count.used ≡ 0 → ⊥) where
    abbrev own_rows : List (Option Copied)
    own_rows = own_copies volume copies

    pub first : (block : ℕ) × (copied_at own_rows count.first ≡ Some (copy_of count.set block)) × (count.first < length own_rows)
    first = first_at_place volume.images volume.counts next own_rows n count kept.images kept.counts inside read some

    pub first_own : IsOwn (part_of volume) (copied_at copies count.first) count.set first.0
    first_own = own_copy (part_of volume) copies count.first count.set first.0 first.1

    gone_from : (u : ℕ) (d : OfVolume) → u ≢ v → u < length volumes → own (part_of (get_or volumes u d)) (copied_at copies count.first) ≡ None
    gone_from u d differ low = grind (arith, first_own, own_apart, first, apart)

    mine_out : own_copies volume (set copies count.first None) ≡ set own_rows count.first None
    mine_out = own_set (part_of volume) copies count.first None None refl

    pub KeepsGroup-popped : (newer : Vec ImageCount Global) (value : ℕ) → value ≡ get_or next count.first 0
        → newer.items ≡ set volume.counts.items n (record { set = count.set; used = count.used - 1; first = value }) → vec_capacity volume.counts ≤ vec_capacity newer
        → KeepsGroup blocks (set volumes v (with_lists volume (volume.used - 1) volume.images newer)) next (set copies count.first None)
    KeepsGroup-popped newer value value_is items cap =
        KeepsGroup-one blocks volumes next copies at.keeps next (set copies count.first None) v volume (with_lists volume (volume.used - 1) volume.images newer) within at.is refl
        (record {
          images = subst (KeepsImages volume.images) (sym mine_out) (KeepsImages-set volume.images own_rows count.first None kept.images tt);
          counts = subst (KeepsCounts volume.images newer next) (sym mine_out)
              (KeepsCounts-popped volume.images volume.counts next own_rows count.set n count kept.images kept.counts inside
              (place_of_count volume.images volume.counts next own_rows n count kept.images kept.counts inside read) read newer first.0 value first.1 value_is items cap);
          used = let less = noted_less own_rows count.first (copy_of count.set first.0) first.1 in let had = kept.used in let now = ap noted_in mine_out in omega arith;
        })
        (λ u d differ low. KeepsVolume-left (get_or volumes u d) next copies count.first None (gone_from u d differ low) refl (at.keeps.each u d low))

    pub maps_popped : (used : ℕ) (newer : Vec ImageCount Global)
        → map (map_of (set copies count.first None)) (set volumes v (with_lists volume used volume.images newer)) ≡ set maps v (with_row count.first None (map_at maps v))
    maps_popped used newer = maps_after copies (set copies count.first None) volumes maps v (with_lists volume used volume.images newer) (with_row count.first None (map_at maps v)) at.view
        (ap (with_copies_of volume) mine_out ∙ ap (with_row count.first None) (sym here))
        (λ u d differ low. own_same (part_of (get_or volumes u d)) copies count.first None (gone_from u d differ low) refl)

    pub map_popped : (used : ℕ) (newer : Vec ImageCount Global)
        → map_at (map (map_of (set copies count.first None)) (set volumes v (with_lists volume used volume.images newer))) v ≡ with_row count.first None (map_at maps v)
    map_popped used newer = map_at_set maps _ v _ (maps_popped used newer) at.inside

-- ## The first slot of an image of a volume goes to the next older image: it loses its copy, and is noted for that.

abbrev vol_out : OfVolume → Vec ImageCount Global → OfVolume
vol_out volume newer = with_lists volume (volume.used - 1) volume.images newer

module _ {blocks : ℕ} {volumes : List OfVolume} {next : List ℕ} {copies : List (Option Copied)} {maps : List MapValue} {v : ℕ} {volume : OfVolume} (at : IsAt blocks volumes next copies maps v volume)
    (n : ℕ) (count : ImageCount) (newer : Vec ImageCount Global) (value : ℕ) (inside : n < length volume.images.items) (read : count ≡ get_or volume.counts.items n count) (some : count.used ≡ 0 → ⊥)
    (value_is : value ≡ get_or next count.first 0) (items : newer.items ≡ set volume.counts.items n (record { set = count.set; used = count.used - 1; first = value }))
    (cap : vec_capacity volume.counts ≤ vec_capacity newer) where
  abbrev copies_out : List (Option Copied)
  copies_out = set copies count.first None

  abbrev volumes_out : List OfVolume
  volumes_out = set volumes v (vol_out volume newer)

  -- the group without the copy
  at_out : IsAt blocks volumes_out next copies_out (map (map_of copies_out) volumes_out) v (vol_out volume newer)
  at_out = search (rules, KeepsGroup-popped, length-map, length-set, within, get_or-set_same)

  low : (first at n count inside read some).0 < volume.blocks
  low = (first_own at n count inside read some).low

  slot_inside : count.first < length copies
  slot_inside = let l = length-map copies (own (part_of volume)) in let w = (first at n count inside read some).2 in omega arith

  unnoted : slice_get copies_out count.first ≡ Some None
  unnoted = grind (arith, no_row, first, length-set, slot_inside, get_or-set_same)

  module _ (image m : ℕ) (older : ImageCount) (contains : Contains volume.images.items image) (inside_m : m < length volume.images.items) (is_m : (d : ℕ) → get_or volume.images.items m d ≡ image)
      (read_m : older ≡ get_or newer.items m older) where
    pub older_fits : length copies < 2 ^ 32 → older.used + 1 < 2 ^ 32
    older_fits narrow =
        let mine = own_copies (vol_out volume newer) copies_out in
        let used = used_is volume.images newer next mine image m older (kept at_out).images (kept at_out).counts inside_m is_m read_m in
        let l = length-map copies_out (own (part_of volume)) in
        let k = length-set copies count.first None in
        let fits = one_more_fits mine count.first image (omega arith) (unnoted_own (part_of volume) copies_out count.first unnoted) in
        omega arith

    abbrev rows_given : ℕ → List (Option Copied)
    rows_given b = set copies count.first (Some (copy_of image b))

    pub KeepsGroup-given : (last : Vec ImageCount Global) (b : ℕ) → volume.base + (first at n count inside read some).0 ≡ b
        → last.items ≡ set newer.items m (record { set = image; used = older.used + 1; first = count.first }) → vec_capacity newer ≤ vec_capacity last
        → KeepsGroup blocks (set volumes v (with_lists volume volume.used volume.images last)) (set next count.first older.first) (rows_given b)
    KeepsGroup-given last b b_is items_m cap_m =
        let used = (kept at).used in
        let it = first at n count inside read some in
        let row = Some (copy_of image (volume.base + it.0)) in
        let noted = KeepsGroup-noted at_out image it.0 count.first low unnoted m older last contains inside_m is_m read_m items_m cap_m in
        let less = noted_less (own_copies volume copies) count.first (copy_of count.set it.0) it.1 in
        let positive : volume.used - 1 + 1 ≡ volume.used = omega arith in grind (arith, common_steps, first, set-set)

    abbrev map_out : MapValue
    map_out = with_row count.first None (map_at maps v)

    abbrev row_in : Option Copied
    row_in = Some (copy_of image (first at n count inside read some).0)

    pub maps_given : (last : Vec ImageCount Global) (b : ℕ) → volume.base + (first at n count inside read some).0 ≡ b
        → map (map_of (rows_given b)) (set volumes v (with_lists volume volume.used volume.images last)) ≡ set maps v (with_row count.first row_in map_out)
    maps_given last b b_is =
        let block = (first at n count inside read some).0 in
        let row = Some (copy_of image (volume.base + block)) in
        let out = maps_popped at n count inside read some (volume.used - 1) newer in
        ap (λ x. map (map_of (rows_given x)) (set volumes v (with_lists volume volume.used volume.images last))) (sym b_is)
        ∙ ap (λ (cs : List (Option Copied)). map (map_of cs) (set volumes v (with_lists volume volume.used volume.images last))) (sym (set-set copies count.first None row))
        ∙ ap (map (map_of (set copies_out count.first row))) (sym (set-set volumes v (vol_out volume newer) (with_lists volume volume.used volume.images last)))
        ∙ maps_noted at_out image block count.first low unnoted volume.used last
        ∙ ap (λ (m : MapValue). set (map (map_of copies_out) volumes_out) v (with_row count.first row_in m)) (map_at_set maps (map (map_of copies_out) volumes_out) v map_out out at.inside)
        ∙ ap (λ (ms : List MapValue). set ms v (with_row count.first row_in map_out)) out ∙ set-set maps v map_out (with_row count.first row_in map_out)

    pub given_down : (new : List MapValue) (block : ℕ) → new ≡ set maps v (with_row count.first row_in map_out) → image ≡ get_or (map_at maps v).images m 0
        → (HasCopy copies image (volume.base + block) → ⊥) → block ≡ (first at n count inside read some).0
        → IsGivenDown (map_at maps v) (map_at new v) (get_or (map_at maps v).images m 0) (get_or (map_at maps v).images n 0) (record { block = block; set = count.set; slot = count.first })
    given_down new block is image_is lacked block_is =
        let it = first at n count inside read some in
        let mine = own_copies volume copies in
        let place = place_of_count volume.images volume.counts next mine n count (kept at).images (kept at).counts inside read 0 in
        let set_is : count.set ≡ get_or (map_at maps v).images n 0 = sym place ∙ ap (λ (x : MapValue). get_or x.images n 0) (sym (here at)) in
        record {
          popped = record {
            set_is = set_is;
            noted = ap (λ (x : MapValue). copied_at x.copies count.first) (here at) ∙ it.1 ∙ ap (λ s. Some (copy_of s it.0)) set_is
                ∙ ap (λ b. Some (copy_of (get_or (map_at maps v).images n 0) b)) (sym block_is);
            gone = refl;
          };
          kept = λ yes had. lacked (
            had.0,
            (own_copy (part_of volume) copies had.0 image block
                (ap (λ (x : MapValue). copied_at x.copies had.0) (sym (here at)) ∙ before had.0 (get_or (map_at maps v).images m 0) block had.1 ∙ ap (λ s. Some (copy_of s block)) (sym image_is))).is,
          );
          kept_is = λ yes. map_at_set maps new v _ is at.inside ∙ ap (λ b. with_row count.first (Some (copy_of image b)) map_out) (sym block_is)
              ∙ ap (λ s. with_row count.first (Some (copy_of s block)) map_out) image_is;
          freed = λ no. absurd (false≢true (sym no));
          freed_is = λ no. absurd (false≢true (sym no));
        } where
          before : (s older_image b : ℕ) → copied_at (set (map_at maps v).copies count.first None) s ≡ Some (copy_of older_image b) → copied_at (map_at maps v).copies s ≡ Some (copy_of older_image b)
          before s older_image b got = elim (cases_eq s count.first) [
            | inl same ↦ absurd (none-some (copy_of older_image b) (sym (ap (copied_at (set (map_at maps v).copies count.first None)) same
                ∙ get_or-set_same (map_at maps v).copies count.first None None
                (let l = ap (λ (x : MapValue). length x.copies) (here at) in let w = (first at n count inside read some).2 in omega arith)) ∙ got))
            | inr apart ↦ sym (get_or-set_other (map_at maps v).copies count.first s None None apart) ∙ got
          ]
