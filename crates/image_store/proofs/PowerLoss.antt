-- The committed head opens to its images with whatever is found where nothing is in use.
use Rattle.std.proofs.Common.{◌≡◌, ◌≢◌, ℕ, zero, suc, ◌+◌, ◌*◌, ◌<◌, ◌≤◌, List, [], ◌∷◌, length, map, take, drop, cond, refl, ap, sym, subst, ◌∙◌, arith, Bool}
use Rattle.std.proofs.Common.{true, false, Option, Some, is_some, inl, inr}
use Rattle.std.specs.Prelude.{◌⊎◌, All, IfSome, slice_get, slice_set, slice_index_or, Ok}
use Rattle.std.specs.List.{concat}
use Rattle.std.specs.List.Sorted.{IsPermutation}
use Rattle.std.proofs.lemmas.List.{length-map}
use Rattle.std.proofs.lemmas.Option.{same_Some, slice_get_within}
use Rattle.block_data.specs.declared.block_buf.TheConstants.{BLOCK}
use Rattle.vss_names.specs.Names.{TextValue}
use Rattle.volume_device.specs.InMemory.{AreBlocks}
use Rattle.volume_device.specs.declared.device.Device.{Ghosts}
use Rattle.write_history.specs.Slots.{Copy, copies}
use Rattle.diff_area.specs.Copies.{copies_from, AreHeld, AreStored}
use Rattle.diff_area.specs.Format.{part, header_of, records_of, slots_in, table_of, IsArea, pages_for, place_of_slot, table_for, free, is_free}
use Rattle.diff_area.specs.Loading.{IsReadFrom}
use Rattle.diff_area.specs.declared.table_record.Record.{Record}
use Rattle.diff_area.proofs.ByPlace.{AreOf, are_of, length-concat, part-block, part-blocks}
use Rattle.diff_area.proofs.OnDevice.{held_is}
use Rattle.diff_area.proofs.GoodRecords.{length-rows_in}
use Rattle.cow_volume.specs.StandsFor.{GroupValue, placed, told_in, IsVolume}
use Rattle.cow_volume.specs.Calls.{blocks_at, sets_at}
use Rattle.cow_volume.specs.Room.{lacks_copy}
use Rattle.cow_volume.specs.Steps.{IsPut}
use Rattle.cow_volume.proofs.Group.{slice_get-set_same, slice_get-set_other, slice_set-same, length-slice_set, slice_get_inside, slice_get_map}
use Rattle.cow_volume.proofs.GroupWrites.{put_again}
use Rattle.cow_volume.proofs.Stored.{held_copies}
use Rattle.image_store.specs.Copying.{AreSameAt}
use Rattle.image_store.specs.Plain.{Plain, PlainStore, AllGiven, image_in, volume_in, with_blocks, on_volume}
use Rattle.image_store.specs.PowerLoss.{AreFound, IsCommitted, IsCopyPlace, IsShared, IsUnderWay, OpensAsCommitted, as_found, found_in}
use Rattle.image_store.specs.StoreValue.{HasPlains}
use Rattle.image_store.proofs.Calls.{put_on, put_plains}
use Rattle.image_store.proofs.Keeping.{kept_of}
use Rattle.image_store.proofs.Plains.{as_many_blocks, as_many_plains, device_tells, on_volume-same, on_volume-twice, same_lists}
use Rattle.image_store.proofs.Opens.{at_or_below}
use Rattle.image_store.proofs.Stores.{store_of}

-- ## the area

-- the same at each place, so the same block, the same front, and the same blocks from a place on
same_at : (xs ys : List (List ℕ)) (k : ℕ) (d : List ℕ) → slice_get xs k ≡ slice_get ys k → slice_index_or xs k d ≡ slice_index_or ys k d
same_at [] [] k d e = refl
same_at [] (y ∷ ys) zero d e = cc
same_at [] (y ∷ ys) (suc k) d e = same_at [] ys k d e
same_at (x ∷ xs) [] zero d e = cc
same_at (x ∷ xs) [] (suc k) d e = same_at xs [] k d e
same_at (x ∷ xs) (y ∷ ys) zero d e = same_Some x y e
same_at (x ∷ xs) (y ∷ ys) (suc k) d e = same_at xs ys k d e

same_front : (xs ys : List (List ℕ)) (n : ℕ) → ((k : ℕ) → k < n → slice_get xs k ≡ slice_get ys k) → take n xs ≡ take n ys
same_front xs ys zero h = refl
same_front [] [] (suc n) h = refl
same_front [] (y ∷ ys) (suc n) h = let e = h 0 (omega arith) in cc
same_front (x ∷ xs) [] (suc n) h = let e = h 0 (omega arith) in cc
same_front (x ∷ xs) (y ∷ ys) (suc n) h =
    ap (λ z. z ∷ take n xs) (same_Some x y (h 0 (omega arith))) ∙ ap (λ zs. y ∷ zs) (same_front xs ys n (λ k l. h (suc k) (omega arith)))

drop_get : (xs : List (List ℕ)) (k : ℕ) → slice_get (drop 1 xs) k ≡ slice_get xs (suc k)
drop_get xs k = grind arith

-- the copies of used records are the same where their slots are
same_used : (slot : ℕ) (rows : List Record) (f g : ℕ → List ℕ) → ((i : ℕ) (r : Record) → slice_get rows i ≡ Some r → is_free r ≡ false → f (slot + i) ≡ g (slot + i))
    → copies_from slot rows f ≡ copies_from slot rows g
same_used slot [] f g h = refl
same_used slot (r ∷ rs) f g h = by_test (is_free r) refl (same_used (slot + 1) rs f g (λ i q at used. subst (λ (k : ℕ). f k ≡ g k) (omega arith) (h (suc i) q at used))) where
  by_test : (t : Bool) → is_free r ≡ t → copies_from (slot + 1) rs f ≡ copies_from (slot + 1) rs g
      → cond t (copies_from (slot + 1) rs f) (record { volume = r.volume; set = r.set; block = r.block; bytes = f slot } ∷ copies_from (slot + 1) rs f)
      ≡ cond t (copies_from (slot + 1) rs g) (record { volume = r.volume; set = r.set; block = r.block; bytes = g slot } ∷ copies_from (slot + 1) rs g)
  by_test true e rest = rest
  by_test false e rest =
      let here : f slot ≡ g slot = subst (λ (k : ℕ). f k ≡ g k) (omega arith) (h 0 r refl e) in
      ap (λ x. record { volume = r.volume; set = r.set; block = r.block; bytes = x } ∷ copies_from (slot + 1) rs f) here
      ∙ ap (λ xs. record { volume = r.volume; set = r.set; block = r.block; bytes = g slot } ∷ xs) rest

-- what is found of an area in place of what was committed is an area with the same copies
module _ (n : ℕ) (blocks found : List (List ℕ)) (volumes : List ℕ) (records : List Record) (whole : AreBlocks n blocks) (read : IsReadFrom (concat blocks) volumes records)
    (number : length found ≡ length blocks) (whole_found : All (λ block. length block ≡ BLOCK) found) (in_table : (k : ℕ) → k < table_for (length records) → slice_get found k ≡ slice_get blocks k)
    (in_slots : (k : ℕ) → IsCopyPlace records k → slice_get found k ≡ slice_get blocks k) where
  of_old : AreOf BLOCK blocks
  of_old = are_of BLOCK blocks whole.whole

  of_new : AreOf BLOCK found
  of_new = are_of BLOCK found whole_found

  whole_new : AreBlocks n found
  whole_new = record { number = number ∙ whole.number; whole = whole_found }

  slots_are : length records ≡ slots_in (header_of (concat blocks))
  slots_are = grind (arith, length-rows_in)

  size_same : length (concat found) ≡ length (concat blocks)
  size_same = length-concat BLOCK found of_new ∙ ap (λ m. BLOCK * m) number ∙ sym (length-concat BLOCK blocks of_old)

  header_same : header_of (concat found) ≡ header_of (concat blocks)
  header_same = part-block BLOCK 0 0 found of_new refl ∙ same_at found blocks 0 [] (in_table 0 (omega arith)) ∙ sym (part-block BLOCK 0 0 blocks of_old refl)

  table_same : table_of (concat found) ≡ table_of (concat blocks)
  table_same =
      let pages = pages_for (slots_in (header_of (concat blocks))) in
      let e = ap pages_for slots_are in
      ap (λ h. part BLOCK (BLOCK * pages_for (slots_in h)) (concat found)) header_same
      ∙ part-blocks BLOCK 1 pages BLOCK (BLOCK * pages) found of_new refl refl
      ∙ ap concat (same_front (drop 1 found) (drop 1 blocks) pages (λ k l. drop_get found k ∙ in_table (suc k) (omega arith) ∙ sym (drop_get blocks k)))
      ∙ sym (part-blocks BLOCK 1 pages BLOCK (BLOCK * pages) blocks of_old refl refl)

  records_same : records_of (concat found) ≡ records_of (concat blocks)
  records_same = grind (arith, header_same, table_same)

  area_same : IsArea (concat found)
  area_same = grind (arith, header_same, size_same, table_same, records_same)

  pub found_stored : (cs : List Copy) → AreHeld (Some blocks) records cs → AreStored (Some found) cs
  found_stored cs held =
      let P : List Copy → Type 0 = λ xs. IsPermutation xs cs in
      let at : ℕ → ℕ = λ slot. place_of_slot (length records) slot in
      let same : copies_from 0 records (λ slot. slice_index_or found (at slot) []) ≡ copies_from 0 records (λ slot. slice_index_or blocks (at slot) []) =
      same_used 0 records (λ slot. slice_index_or found (at slot) []) (λ slot. slice_index_or blocks (at slot) [])
      (λ i r is used. same_at found blocks (at (0 + i)) [] (in_slots (at (0 + i)) (record { slot = i; row = r; at = is; used = used_not r used; place = omega arith }))) in
      record {
        area = area_same;
        held = subst P (sym (held_is n found records whole_new (read.records_are ∙ sym records_same) ∙ same)) held;
      }
    where
      used_not : (r : Record) → is_free r ≡ false → r ≢ free
      used_not r used e = let both : true ≡ false = sym (ap is_free e) ∙ used in cc

-- ## the group by what its devices tell

abbrev Held : Type 0
Held = Option (List (List ℕ))

abbrev itself : Held → Held
itself x = x

-- what is seen of blocks that are their own device
abbrev own : Ghosts Held
own = record { told = itself; size = λ x. 0; count = λ x. 0; lending = λ x. false; lasting = itself }

abbrev told_group : {D : Type 0} → (D → Held) → GroupValue D → GroupValue Held
told_group told g = record { devices = map told g.devices; area = record { device = told g.area.device; volumes = g.area.volumes; records = g.area.records }; images = g.images }

map_back : {D X : Type 0} (f : D → X) (xs : List D) (i : ℕ) (y : X) → slice_get (map f xs) i ≡ Some y → (x : D) × (slice_get xs i ≡ Some x) × (f x ≡ y)
map_back f xs i y at =
    let within = slice_get_within (map f xs) i y at in
    let long = length-map xs f in
    let x = slice_get_inside xs i (omega arith) in
    (x.0, x.1, same_Some (f x.0) y (sym (slice_get_map f xs i x.0 x.1) ∙ at))

told_plains : {D : Type 0} (told : D → Held) (g : GroupValue D) (ps : List Plain) → HasPlains told g ps → HasPlains itself (told_group told g) ps
told_plains {D = D} told g ps has = record {
  hs = has.hs;
  stands = record {
    devices = length-map g.devices told ∙ has.stands.devices;
    images = has.stands.images;
    histories = has.stands.histories;
    each = λ v n d sets h at is row of.
        let x = map_back told g.devices v d is in
        subst (λ (t : Held). IsVolume (told_in (told g.area.device) t) (told g.area.device) g.area.records v n sets h) x.2 (has.stands.each v n x.0 sets h at x.1 row of);
  };
  devices = λ v d at. let x = map_back told g.devices v d at in ap is_some (sym x.2) ∙ has.devices v x.0 x.1;
  area = has.area;
  plains = has.plains;
}

-- ## one volume

abbrev with_volume : GroupValue Held → ℕ → List (List ℕ) → GroupValue Held
with_volume g v blocks = record { devices = slice_set g.devices v (Some blocks); area = g.area; images = g.images }

set_twice : {X : Type 0} (xs : List X) (i : ℕ) (x y : X) → slice_set (slice_set xs i x) i y ≡ slice_set xs i y
set_twice [] i x y = refl
set_twice (z ∷ xs) zero x y = refl
set_twice (z ∷ xs) (suc i) x y = ap (λ ys. z ∷ ys) (set_twice xs i x y)

module _ (g : GroupValue Held) (ps : List Plain) (v : ℕ) (found : List (List ℕ)) (within : v < length g.area.volumes) (device : v < length g.devices) where
  -- a block that has its copy is overwritten
  one_put : (now : List (List ℕ)) (b : ℕ) (bytes : List ℕ) → b < blocks_at g v → lacks_copy g.area.records v (sets_at g v) b ≡ false
      → HasPlains itself (with_volume g v now) (on_volume v (with_blocks now) ps)
      → HasPlains itself (with_volume g v (slice_set now b bytes)) (on_volume v (with_blocks (slice_set now b bytes)) ps)
  one_put now b bytes low has_copy has =
      let there = slice_get_inside g.devices v device in
      let at : slice_get (slice_set g.devices v (Some now)) v ≡ Some (Some now) = slice_get-set_same g.devices v there.0 (Some now) there.1 in
      let is : IsPut own (with_volume g v now) (record { devices = slice_set (slice_set g.devices v (Some now)) v (Some (slice_set now b bytes)); area = g.area; images = g.images }) v
      (record { block = b; bytes = bytes }) =
      put_again own (slice_set g.devices v (Some now)) (record { area = g.area; images = g.images }) v (Some now)
      (record { block = b; bytes = bytes }) low at (Some (slice_set now b bytes)) (Ok tt) has_copy
      (record { tells = refl; size_is = refl; lends = refl; later = omega arith }, refl) in
      let after = put_plains own (with_volume g v now) (record { devices = slice_set (slice_set g.devices v (Some now)) v (Some (slice_set now b bytes)); area = g.area; images = g.images })
      (on_volume v (with_blocks now) ps) v b bytes within low is has in
      subst (λ (ds : List Held). HasPlains itself (record { devices = ds; area = g.area; images = g.images }) (on_volume v (with_blocks (slice_set now b bytes)) ps))
      (set_twice g.devices v (Some now) (Some (slice_set now b bytes)))
      (subst (λ (qs : List Plain). HasPlains itself (record { devices = slice_set (slice_set g.devices v (Some now)) v (Some (slice_set now b bytes)); area = g.area; images = g.images }) qs)
      (on_volume-twice ps v (put_on b bytes) (with_blocks now) (with_blocks (slice_set now b bytes)) (λ p. refl)) after)

  -- block after block
  blocks_put : (m k : ℕ) (now : List (List ℕ)) → k + m ≡ blocks_at g v → length now ≡ blocks_at g v → length found ≡ blocks_at g v
      → ((b : ℕ) → b < k → slice_get now b ≡ slice_get found b)
      → ((b : ℕ) → lacks_copy g.area.records v (sets_at g v) b ≡ true → slice_get now b ≡ slice_get found b)
      → HasPlains itself (with_volume g v now) (on_volume v (with_blocks now) ps)
      → HasPlains itself (with_volume g v found) (on_volume v (with_blocks found) ps)
  blocks_put zero k now all long many first shared has =
      subst (λ (blocks : List (List ℕ)). HasPlains itself (with_volume g v blocks) (on_volume v (with_blocks blocks) ps))
      (same_lists now found (long ∙ sym many) (λ i x y at is.
      let low = slice_get_within now i x at in
      same_Some x y (sym at ∙ first i (omega arith) ∙ is))) has
  blocks_put (suc m) k now all long many first shared has = by_test (lacks_copy g.area.records v (sets_at g v) k) refl (λ next many_next first_next shared_next has_next.
      blocks_put m (k + 1) next (omega arith) many_next many first_next shared_next has_next) where
        here : (b : ℕ) → slice_get now k ≡ slice_get found k → (b ≡ k) ⊎ (b < k) → slice_get now b ≡ slice_get found b
        here b is (inl e) = ap (slice_get now) e ∙ is ∙ ap (slice_get found) (sym e)
        here b is (inr l) = first b l

        there : (b : ℕ) (bytes : List ℕ) → slice_get found k ≡ Some bytes → (b ≡ k) ⊎ (b < k) → slice_get (slice_set now k bytes) b ≡ slice_get found b
        there b bytes at (inl e) =
            let old = slice_get_inside now k (omega arith) in
            ap (slice_get (slice_set now k bytes)) e ∙ slice_get-set_same now k old.0 bytes old.1 ∙ sym at ∙ ap (slice_get found) (sym e)
        there b bytes at (inr l) = slice_get-set_other now k b bytes (λ e. absurd (omega arith)) ∙ first b l

        other : (b : ℕ) (bytes : List ℕ) → lacks_copy g.area.records v (sets_at g v) k ≡ false → lacks_copy g.area.records v (sets_at g v) b ≡ true
            → slice_get (slice_set now k bytes) b ≡ slice_get found b
        other b bytes copied lacks =
            slice_get-set_other now k b bytes (λ e. let both : true ≡ false = sym lacks ∙ ap (λ j. lacks_copy g.area.records v (sets_at g v) j) (sym e) ∙ copied in cc) ∙ shared b lacks

        by_test : (t : Bool) → lacks_copy g.area.records v (sets_at g v) k ≡ t
            → ((next : List (List ℕ)) → length next ≡ blocks_at g v → ((b : ℕ) → b < k + 1 → slice_get next b ≡ slice_get found b)
            → ((b : ℕ) → lacks_copy g.area.records v (sets_at g v) b ≡ true → slice_get next b ≡ slice_get found b)
            → HasPlains itself (with_volume g v next) (on_volume v (with_blocks next) ps) → HasPlains itself (with_volume g v found) (on_volume v (with_blocks found) ps))
            → HasPlains itself (with_volume g v found) (on_volume v (with_blocks found) ps)
        by_test true lacks go = go now long (λ b l. here b (shared k lacks) (at_or_below b k l)) shared has
        by_test false copied go =
            let f = slice_get_inside found k (omega arith) in
            go (slice_set now k f.0) (length-slice_set now k f.0 ∙ long) (λ b l. there b f.0 f.1 (at_or_below b k l)) (λ b lacks. other b f.0 copied lacks) (one_put now k f.0 (omega arith) copied has)

  pub volume_found : HasPlains itself g ps → length found ≡ length (volume_in ps v).blocks
      → ((b : ℕ) → lacks_copy g.area.records v (sets_at g v) b ≡ true → slice_get found b ≡ slice_get (volume_in ps v).blocks b)
      → HasPlains itself (with_volume g v found) (on_volume v (with_blocks found) ps)
  volume_found has number same =
      let blocks = (volume_in ps v).blocks in
      let many = as_many_blocks itself g ps v has within in
      let d = slice_get_inside g.devices v device in
      let told = device_tells itself g ps v d.0 has within d.1 in
      let devices : g.devices ≡ slice_set g.devices v (Some blocks) = sym (slice_set-same g.devices v (Some blocks) (d.1 ∙ ap Some told)) in
      blocks_put (blocks_at g v) 0 blocks (omega arith) many (number ∙ many) (λ b l. absurd (omega arith)) (λ b lacks. sym (same b lacks))
      (subst (λ (ds : List Held). HasPlains itself (record { devices = ds; area = g.area; images = g.images }) (on_volume v (with_blocks blocks) ps)) devices
      (subst (λ (qs : List Plain). HasPlains itself g qs) (sym (on_volume-same ps v (with_blocks blocks) refl)) has))

-- ## all volumes

-- the first k of these are replaced
abbrev replaced : {F X : Type 0} → (F → X → X) → ℕ → List F → List X → List X
replaced h zero fs xs = xs
replaced h (suc k) [] xs = xs
replaced h (suc k) (f ∷ fs) [] = []
replaced h (suc k) (f ∷ fs) (x ∷ xs) = h f x ∷ replaced h k fs xs

abbrev as_told : List (List ℕ) → Held → Held
as_told blocks d = Some blocks

-- one more
next_device : (k : ℕ) (fs : List (List (List ℕ))) (ds : List Held) (f : List (List ℕ)) → slice_get fs k ≡ Some f → slice_set (replaced as_told k fs ds) k (Some f) ≡ replaced as_told (suc k) fs ds
next_device k [] ds f at = cc
next_device zero (g ∷ fs) [] f at = refl
next_device (suc k) (g ∷ fs) [] f at = refl
next_device zero (g ∷ fs) (d ∷ ds) f at = let same : f ≡ g = cc in ap (λ b. Some b ∷ ds) same
next_device (suc k) (g ∷ fs) (d ∷ ds) f at = ap (λ xs. Some g ∷ xs) (next_device k fs ds f at)

next_plain : (k : ℕ) (fs : List (List (List ℕ))) (ps : List Plain) (f : List (List ℕ)) → slice_get fs k ≡ Some f
    → on_volume k (with_blocks f) (replaced with_blocks k fs ps) ≡ replaced with_blocks (suc k) fs ps
next_plain k [] ps f at = cc
next_plain zero (g ∷ fs) [] f at = refl
next_plain (suc k) (g ∷ fs) [] f at = refl
next_plain zero (g ∷ fs) (p ∷ ps) f at = let same : f ≡ g = cc in ap (λ b. with_blocks b p ∷ ps) same
next_plain (suc k) (g ∷ fs) (p ∷ ps) f at = ap (λ qs. with_blocks g p ∷ qs) (next_plain k fs ps f at)

-- the next is as it was
plain_still : (k : ℕ) (fs : List (List (List ℕ))) (ps : List Plain) → volume_in (replaced with_blocks k fs ps) k ≡ volume_in ps k
plain_still zero fs ps = refl
plain_still (suc k) [] ps = refl
plain_still (suc k) (f ∷ fs) [] = refl
plain_still (suc k) (f ∷ fs) (p ∷ ps) = plain_still k fs ps

-- all of them
all_devices : (fs : List (List (List ℕ))) (ds : List Held) → length fs ≡ length ds → replaced as_told (length fs) fs ds ≡ map Some fs
all_devices [] [] e = refl
all_devices [] (d ∷ ds) e = absurd (omega arith)
all_devices (f ∷ fs) [] e = absurd (omega arith)
all_devices (f ∷ fs) (d ∷ ds) e = ap (λ xs. Some f ∷ xs) (all_devices fs ds (omega arith))

all_plains : (fs : List (List (List ℕ))) (ps : List Plain) → length fs ≡ length ps → replaced with_blocks (length fs) fs ps ≡ found_in fs ps
all_plains [] [] e = refl
all_plains [] (p ∷ ps) e = absurd (omega arith)
all_plains (f ∷ fs) [] e = absurd (omega arith)
all_plains (f ∷ fs) (p ∷ ps) e = ap (λ qs. with_blocks f p ∷ qs) (all_plains fs ps (omega arith))

given_found : (last : ℕ) (found : List (List (List ℕ))) (ps : List Plain) → AllGiven last ps → AllGiven last (found_in found ps)
given_found last [] ps given = tt
given_found last (f ∷ found) [] given = tt
given_found last (f ∷ found) (p ∷ ps) given = (given.0, given_found last found ps given.1)

map_itself : (xs : List Held) → map itself xs ≡ xs
map_itself [] = refl
map_itself (x ∷ xs) = ap (λ ys. x ∷ ys) (map_itself xs)

abbrev with_devices : {D : Type 0} → (D → Held) → GroupValue D → List Held → GroupValue Held
with_devices told g devices = record { devices = devices; area = record { device = told g.area.device; volumes = g.area.volumes; records = g.area.records }; images = g.images }

-- each volume was found with the blocks that its newest image shares
module _ {D : Type 0} (told : D → Held) (g : GroupValue D) (ps : List Plain) (found : List (List (List ℕ))) (has : HasPlains told g ps) (number : length found ≡ length g.devices)
    (same : (v : ℕ) (these : List (List ℕ)) → v < length g.area.volumes → slice_get found v ≡ Some these → AreSameAt (IsShared g v) (volume_in ps v).blocks these) where
  volumes_found : (k : ℕ) → k ≤ length found → HasPlains itself (with_devices told g (replaced as_told k found (map told g.devices))) (replaced with_blocks k found ps)
  volumes_found zero l = told_plains told g ps has
  volumes_found (suc k) l =
      let f = slice_get_inside found k (omega arith) in
      let before = volumes_found k (omega arith) in
      let at = same k f.0 (omega arith) f.1 in
      let still = ap (λ (p : Plain). p.blocks) (plain_still k found ps) in
      let one = volume_found (with_devices told g (replaced as_told k found (map told g.devices))) (replaced with_blocks k found ps) k f.0 (omega arith) (omega arith) before
      (at.number ∙ ap length (sym still)) (λ b lacks. at.same b lacks ∙ ap (λ (bs : List (List ℕ)). slice_get bs b) (sym still)) in
      subst (λ (ds : List Held). HasPlains itself (with_devices told g ds) (replaced with_blocks (suc k) found ps)) (next_device k found (map told g.devices) f.0 f.1)
      (subst (λ (qs : List Plain). HasPlains itself (with_devices told g (slice_set (replaced as_told k found (map told g.devices)) k (Some f.0))) qs) (next_plain k found ps f.0 f.1) one)

  pub all_found : HasPlains itself (with_devices told g (map Some found)) (found_in found ps)
  all_found =
      let long = length-map g.devices told in
      let many = as_many_plains told g ps has in
      let devices = has.stands.devices in
      subst (λ (ds : List Held). HasPlains itself (with_devices told g ds) (found_in found ps)) (all_devices found (map told g.devices) (omega arith))
      (subst (λ (qs : List Plain). HasPlains itself (with_devices told g (replaced as_told (length found) found (map told g.devices))) qs) (all_plains found ps (omega arith))
      (volumes_found (length found) (omega arith)))

-- ## the store

some_of : (t : Held) → is_some t ≡ true → (blocks : List (List ℕ)) × (t ≡ Some blocks)
some_of t e = grind arith

-- the images of what was found are those that were
same_images : (found : List (List (List ℕ))) (ps : List Plain) (v : ℕ) → length found ≡ length ps → (volume_in (found_in found ps) v).images ≡ (volume_in ps v).images
same_images [] [] v e = refl
same_images [] (p ∷ ps) v e = absurd (omega arith)
same_images (f ∷ found) [] v e = absurd (omega arith)
same_images (f ∷ found) (p ∷ ps) zero e = refl
same_images (f ∷ found) (p ∷ ps) (suc v) e = same_images found ps v (omega arith)

-- the same at places, by what is between
at_both : (P : ℕ → Type 0) (before now found : List (List ℕ)) → AreSameAt P before now → AreSameAt P now found → AreSameAt P before found
at_both P before now found first second = record { number = second.number ∙ first.number; same = λ k at. second.same k at ∙ first.same k at }

pub opens_found : {D : Type 0} (told : D → Held) (g now : GroupValue D) (names : List TextValue) (last : ℕ) (p : PlainStore) (found : List (List (List ℕ))) (area : List (List ℕ))
    → IsCommitted told (store_of g names last) p → IsUnderWay told g now → AreFound told g now found area → OpensAsCommitted told (store_of g names last) p found area
opens_found {D = D} told g now names last p found area committed under are =
    let ps = p.volumes in
    let plains = committed.stands.group in
    let blocks = some_of (told g.area.device) plains.area in
    let between = under.slots.blocks blocks.0 blocks.1 in
    let slots = are.slots between.0 between.1 in
    let all = at_both (IsCopyPlace g.area.records) blocks.0 between.0 area between.2 slots.known in
    let has = all_found told g ps found plains (are.number ∙ under.devices) (λ v these low at.
    let d = slice_get_inside g.devices v (omega arith) in
    let e = slice_get_inside now.devices v (omega arith) in
    let on = (under.each v d.0 e.0 d.1 e.1).blocks (volume_in ps v).blocks (device_tells told g ps v d.0 plains low d.1) in
    at_both (IsShared g v) (volume_in ps v).blocks on.0 these on.2 (are.each v e.0 on.0 these e.1 on.1 at).known) in
    let s = with_devices told g (map Some found) in
    let cs = copies (placed g.area.volumes) has.hs in
    let held = subst (λ (t : Held). AreHeld t g.area.records cs) blocks.1 (held_copies itself s has.hs has.stands committed.records has.devices) in
    let stored = found_stored committed.size blocks.0 area g.area.volumes g.area.records (subst (λ (t : Held). IfSome t (AreBlocks committed.size)) blocks.1 committed.whole)
    (subst (λ (t : Held). IfSome t (λ bs. IsReadFrom (concat bs) g.area.volumes g.area.records)) blocks.1 committed.table)
    all.number slots.whole (λ k l. are.table blocks.0 k blocks.1 l) all.same cs held in
    record {
      kept = λ later again tells slots_are.
          kept_of itself told s names last later again (as_found found p)
          (record { group = has; last = committed.stands.last; given = given_found p.last found ps committed.stands.given })
          (tells ∙ sym (map_itself (map Some found))) (ap is_some slots_are) (subst (λ (t : Held). AreStored t cs) (sym slots_are) stored);
      images = λ set v. ap (image_in set)
          (same_images found ps v
          (let a = are.number in let b = under.devices in let c = plains.stands.devices in let d = as_many_plains told g ps plains in omega arith));
    }
