-- The sets of the images of a group, what is compared before a store is taken up, and the capture of a file that stands still.
use Rattle.std.proofs.Common.{◌≡◌, ℕ, zero, suc, ◌+◌, ◌<◌, ◌≤◌, List, [], ◌∷◌, length, refl, ap, arith, Bool, true, Some, ◌≢◌, subst, Option, ◌++◌, map, take}
use Rattle.std.proofs.Common.{sym, ◌∙◌, false}
use Rattle.std.proofs.lemmas.Bool.{cases_lt, and_from}
use Rattle.std.proofs.lemmas.List.{map-append, length-map}
use Rattle.std.proofs.lemmas.Option.{slice_get_within, slice_get_past, get_or_from_slice_get}
use Rattle.std.proofs.lemmas.Slice.Eq.{bytes_eq-Decides}
use Rattle.std.specs.Prelude.{◌⊎◌, All, slice_get, slice_index, slice_index_or, ◌&&◌, ◌==◌, IfSome, option_map, slice_set}
use Rattle.std.specs.Str.{bytes_eq}
use Rattle.vss_names.specs.Names.{is_name, TextValue}
use Rattle.volume_device.specs.InMemory.{AreBlocks}
use Rattle.diff_map.specs.Copies.{AreImages}
use Rattle.diff_area.specs.AreaValue.{AreaValue}
use Rattle.cow_volume.specs.Calls.{is_among, sets_at}
use Rattle.cow_volume.specs.StandsFor.{GroupValue}
use Rattle.cow_volume.specs.Resuming.{IsResumeFault}
use Rattle.cow_volume.specs.declared.resume_fault.ResumeFault.{ResumeFault}
use Rattle.cow_volume.proofs.Group.{number_is, other_number, same_number, slice_get_inside, slice_get_map, slice_get-set_same, slice_get-set_other}
use Rattle.cow_volume.proofs.Reverting.{take_next}
use Rattle.vss_catalog.specs.Entries.{IsCatalog, AreEntries, EntryValue, lists_of, are_names}
use Rattle.vss_catalog.proofs.Groups.{catalog_lists}
use Rattle.image_store.specs.Updating.{AreCaptured, Gives, HasCaptured, HasOneCaptured, AreReady}
use Rattle.image_store.specs.Cutting.{IsGiven}
use Rattle.image_store.specs.Head.{blocks_of}
use Rattle.image_store.specs.Opening.{IsPartsFault, of_resume, AreSame, AreWell, IsNameNew, names_of}

-- ## The sets of the images of a group, volume by volume.

pub place_is : (xs : List ℕ) (i : ℕ) → i < length xs → slice_get xs i ≡ Some (slice_index xs i)
place_is [] i l = absurd (omega arith)
place_is (x ∷ xs) zero l = refl
place_is (x ∷ xs) (suc i) l = place_is xs i (omega arith)

pub get_is : (xs : List ℕ) (i x : ℕ) → slice_get xs i ≡ Some x → x ≡ slice_index xs i
get_is xs i x at = grind (arith, place_is, slice_get_within)

-- a mark
pub flag_is : (xs : List Bool) (i : ℕ) (d t : Bool) → i < length xs → slice_index_or xs i d ≡ t → slice_get xs i ≡ Some t
flag_is [] i d t l e = absurd (omega arith)
flag_is (x ∷ xs) zero d t l e = ap Some e
flag_is (x ∷ xs) (suc i) d t l e = flag_is xs i d t (omega arith) e

pub at_or_below : (b k : ℕ) → b < k + 1 → (b ≡ k) ⊎ (b < k)
at_or_below b k l = grind arith

-- one more volume
pub sets_more : {D : Type 0} (g : GroupValue D) (n greatest newest result : ℕ) (sets : List ℕ) → ((v : ℕ) → v < n → All (λ s. s ≤ greatest) (sets_at g v)) → All (λ s. s ≤ newest) sets
    → sets ≡ sets_at g n
    → greatest ≤ result → newest ≤ result → (v : ℕ) → v < n + 1 → All (λ s. s ≤ result) (sets_at g v)
sets_more g n greatest newest result sets before here are first second v l = grind (arith, at_or_below)

pub sets_all : {D : Type 0} (g : GroupValue D) (n greatest : ℕ) → length g.images ≤ n → ((v : ℕ) → v < n → All (λ s. s ≤ greatest) (sets_at g v)) → (v : ℕ) → All (λ s. s ≤ greatest) (sets_at g v)
sets_all g n greatest all before v = grind (arith, cases_lt, slice_get_past)

pub given_more : {D : Type 0} (g : GroupValue D) (last n greatest newest result : ℕ) (sets : List ℕ) → IsGiven g last greatest → (result ≡ greatest) ⊎ ((result ≡ newest) × (0 < newest))
    → (0 < newest → is_among newest sets ≡ true) → sets ≡ sets_at g n → IsGiven g last result
given_more g last n greatest newest result sets given x8 among are = grind arith

-- ## What is compared before a store is taken up.

-- ## the same numbers

pub same_more : (xs ys : List ℕ) (k : ℕ) → AreSame xs ys k → slice_get xs k ≡ slice_get ys k → AreSame xs ys (k + 1)
same_more xs ys k have here j low = grind (arith, same_number, other_number)

pub all_same : (xs ys : List ℕ) → length xs ≡ length ys → AreSame xs ys (length xs) → xs ≡ ys
all_same [] [] many have = refl
all_same [] (y ∷ ys) many have = absurd (omega arith)
all_same (x ∷ xs) [] many have = absurd (omega arith)
all_same (x ∷ xs) (y ∷ ys) many have =
    let first : Some x ≡ Some y = have 0 (omega arith) in
    let same : x ≡ y = cc in
    ap (λ z. z ∷ xs) same ∙ ap (λ zs. y ∷ zs) (all_same xs ys (omega arith) (λ k low. have (suc k) (omega arith)))

-- what the area, and what the device, has of volume v
pub area_there : (ns : List ℕ) (v found : ℕ) → v < length ns → found ≡ slice_index ns v → slice_get ns v ≡ Some found
area_there ns v found l is = place_is ns v l ∙ ap Some (sym is)

pub device_there : {D : Type 0} (size : D → ℕ) (ds : List D) (v : ℕ) (d : D) (found : ℕ) → slice_get ds v ≡ Some d → found ≡ size d → slice_get (map size ds) v ≡ Some found
device_there size ds v d found at is = slice_get_map size ds v d at ∙ ap Some (sym is)

pub same_there : (xs ys : List ℕ) (v a b : ℕ) → slice_get xs v ≡ Some a → slice_get ys v ≡ Some b → a ≡ b → slice_get xs v ≡ slice_get ys v
same_there xs ys v a b first second same = first ∙ ap Some same ∙ sym second

-- the number of blocks of an entry
pub blocks_there : (es : List EntryValue) (v blocks : ℕ) → v < length es → ((e : EntryValue) → slice_get es v ≡ Some e → blocks ≡ e.blocks) → slice_get (blocks_of es) v ≡ Some blocks
blocks_there es v blocks l is =
    let e = slice_get_inside es v l in
    slice_get_map (λ (f : EntryValue). f.blocks) es v e.0 e.1 ∙ ap Some (sym (is e.0 e.1))

pub not_found : (o : Option ℕ) (a b : ℕ) → o ≡ Some a → b ≢ a → o ≢ Some b
not_found o a b is other same = other (let both : Some a ≡ Some b = sym is ∙ same in cc)

-- ## names that are apart

pub name_there : (es : List EntryValue) (v : ℕ) (name : List ℕ) → v < length es → ((e : EntryValue) → slice_get es v ≡ Some e → name ≡ e.name) → slice_get (names_of es) v ≡ Some name
name_there es v name l is =
    let e = slice_get_inside es v l in
    slice_get_map (λ (f : EntryValue). f.name) es v e.0 e.1 ∙ ap Some (sym (is e.0 e.1))

-- no name of the first k is that of volume v
pub others_more : (names : List (List ℕ)) (v k : ℕ) → ((u : ℕ) → u < k → slice_get names u ≢ slice_get names v) → slice_get names k ≢ slice_get names v → (u : ℕ) → u < k + 1
    → slice_get names u ≢ slice_get names v
others_more names v k have here u low = grind (arith, same_number, other_number)

pub not_same : (o p : Option (List ℕ)) (a b x y : List ℕ) → o ≡ Some a → p ≡ Some b → x ≡ a → y ≡ b → bytes_eq x y ≡ false → o ≢ p
not_same o p a b x y is is_too one two differ same = grind (arith, bytes_eq-Decides)

-- ## entries that are well

-- the list of an entry of a catalog
pub list_allowed : (es : List EntryValue) (v : ℕ) (e : EntryValue) → slice_get es v ≡ Some e → IsCatalog es → AreImages e.images
list_allowed es v e at is =
    let there = slice_get_map (λ (f : EntryValue). f.images) es v e at in
    let low = slice_get_within (lists_of es) v e.images there in
    subst AreImages (get_or_from_slice_get (lists_of es) v e.images e.images there) (catalog_lists es is v e.images low)

pub well_more : (last : ℕ) (es : List EntryValue) (v : ℕ) → AreWell last es v → IsNameNew es v → ((e : EntryValue) → slice_get es v ≡ Some e → All (λ set. set ≤ last) e.images)
    → AreWell last es (v + 1)
well_more last es v well new given = grind (arith, same_number, other_number)

pub below_last : (sets : List ℕ) (newest last : ℕ) → All (λ set. set ≤ newest) sets → newest ≤ last → All (λ set. set ≤ last) sets
below_last sets newest last all low = λ k d within. (let one = all k d within in omega arith)

-- one more name
pub names_more : (names : List TextValue) (es : List EntryValue) (k : ℕ) (text : TextValue) (e : EntryValue) → slice_get es k ≡ Some e → text.bytes ≡ e.name
    → map (λ (name : TextValue). name.bytes) names ≡ map (λ (f : EntryValue). f.name) (take k es)
    → map (λ (name : TextValue). name.bytes) (names ++ text ∷ []) ≡ map (λ (f : EntryValue). f.name) (take (k + 1) es)
names_more names es k text e at is so =
    map-append (λ (name : TextValue). name.bytes) names (text ∷ [])
    ∙ ap (λ (front : List (List ℕ)). front ++ text.bytes ∷ []) so
    ∙ ap (λ (x : List ℕ). map (λ (f : EntryValue). f.name) (take k es) ++ x ∷ []) is
    ∙ sym (ap (map (λ (f : EntryValue). f.name)) (take_next es k e at) ∙ map-append (λ (f : EntryValue). f.name) (take k es) (e ∷ []))

pub names_allowed : (names : List TextValue) (es : List EntryValue) → map (λ (name : TextValue). name.bytes) names ≡ map (λ (e : EntryValue). e.name) es → AreEntries es → are_names names ≡ true
names_allowed [] es same allowed = refl
names_allowed (t ∷ names) [] same allowed = cc
names_allowed (t ∷ names) (e ∷ es) same allowed =
    let first : t.bytes ≡ e.name = cc in
    let rest : map (λ (name : TextValue). name.bytes) names ≡ map (λ (f : EntryValue). f.name) es = cc in
    and_from (is_name t.bytes) (are_names names) (ap is_name first ∙ allowed.0.named) (names_allowed names es rest allowed.1)

-- the names that a store takes up are names for its volumes
pub taken_named : (names : List TextValue) (es : List EntryValue) (volumes : List ℕ) → map (λ (name : TextValue). name.bytes) names ≡ map (λ (e : EntryValue). e.name) es
    → volumes ≡ map (λ (e : EntryValue). e.blocks) es
    → IsCatalog es → ((length names == length volumes) && are_names names) ≡ true
taken_named names es volumes same blocks allowed = grind (arith, length-map, and_from, number_is, names_allowed)

-- a group that is not taken up again
pub resume_fault : {D : Type 0} (size : D → ℕ) (devices : List D) (area : AreaValue D) (es : List EntryValue) (fault : ResumeFault) → area.volumes ≡ blocks_of es → map size devices ≡ blocks_of es
    → IsResumeFault area.records (lists_of es) fault → IsPartsFault size devices area es (of_resume fault)
resume_fault size devices area es fault volumes sizes is = grind arith

-- ## The capture of a file that stands still.

-- the mark of a block that was just set
set_mark : (differs : List Bool) (k : ℕ) (mark m : Bool) → k < length differs → slice_get (slice_set differs k mark) k ≡ Some m → mark ≡ m
set_mark differs k mark m l at =
    let found = slice_get_inside differs k l in
    let there : Some mark ≡ Some m = sym (slice_get-set_same differs k found.0 mark found.1) ∙ at in
    cc

-- one more block is captured
pub captured_more : (told : Option (List (List ℕ))) (differs : List Bool) (mark : Bool) (spool wanted blocks : List (List ℕ)) (k : ℕ) → k < length differs
    → AreCaptured differs spool wanted blocks k → HasOneCaptured told mark k spool wanted blocks → HasCaptured told (slice_set differs k mark) wanted blocks (k + 1)
captured_more told differs mark spool wanted blocks k l so one = record {
  spool = one.spool;
  told_is = one.told_is;
  captured = record {
    rest = λ b low at. rest b at (at_or_below b k (omega arith));
    marked = λ b low at. marked b at (at_or_below b k (omega arith));
  };
} where
  rest : (b : ℕ) → slice_get (slice_set differs k mark) b ≡ Some false → (b ≡ k) ⊎ (b < k) → slice_get blocks b ≡ slice_get wanted b
  rest b at x2 = grind (arith, set_mark, slice_get-set_other)

  marked : (b : ℕ) → slice_get (slice_set differs k mark) b ≡ Some true → (b ≡ k) ⊎ (b < k) → slice_get one.spool b ≡ slice_get wanted b
  marked b at x2 = grind (arith, set_mark, slice_get-set_other)

-- there are no more blocks up to here
pub captured_to : (told : Option (List (List ℕ))) (differs : List Bool) (wanted blocks : List (List ℕ)) (k to : ℕ) → ((b : ℕ) → b < to → b < length differs → b < k)
    → HasCaptured told differs wanted blocks k → HasCaptured told differs wanted blocks to
captured_to told differs wanted blocks k to all so = record {
  spool = so.spool;
  told_is = so.told_is;
  captured = record {
    rest = λ b low at. so.captured.rest b (all b low (slice_get_within differs b false at)) at;
    marked = λ b low at. so.captured.marked b (all b low (slice_get_within differs b true at)) at;
  };
}

-- what is captured to the end may be taken by the volume
pub captured_ready : (differs : List Bool) (spool wanted blocks : List (List ℕ)) (to : ℕ) → length differs ≡ length blocks → length wanted ≡ length blocks
    → length blocks ≤ to → AreCaptured differs spool wanted blocks to → AreReady differs wanted blocks 0
captured_ready differs spool wanted blocks to marks as_many all so = grind (arith, slice_get_within)

pub captured_gives : (told : Option (List (List ℕ))) (differs : List Bool) (wanted blocks : List (List ℕ)) (to : ℕ) → length differs ≤ to
    → HasCaptured told differs wanted blocks to → Gives told differs wanted
captured_gives told differs wanted blocks to all so = grind (arith, slice_get_within)

-- a block that is not written to the spool is the volume's own
pub one_left : (told input : Option (List (List ℕ))) (b : ℕ) (before wanted blocks : List (List ℕ)) (piece other : List ℕ) → told ≡ Some before
    → slice_get blocks b ≡ Some piece → input ≡ Some wanted → IfSome input (λ from. slice_get from b ≡ Some other) → piece ≡ other
    → HasOneCaptured told false b before wanted blocks
one_left told input b before wanted blocks piece other told_is here is read same = grind arith

-- one that is written to it is there
pub one_put : (old new input : Option (List (List ℕ))) (size b : ℕ) (before wanted blocks : List (List ℕ)) (other : List ℕ) → old ≡ Some before → IfSome old (AreBlocks size)
    → b < size → new ≡ option_map (λ all. slice_set all b other) old → input ≡ Some wanted → IfSome input (λ from. slice_get from b ≡ Some other)
    → HasOneCaptured new true b before wanted blocks
one_put old new input size b before wanted blocks other old_is whole l written is read =
    let many = (subst (λ (o : Option (List (List ℕ))). IfSome o (AreBlocks size)) old_is whole).number in
    let found = slice_get_inside before b (omega arith) in
    record {
      spool = slice_set before b other;
      told_is = written ∙ ap (option_map (λ (all : List (List ℕ)). slice_set all b other)) old_is;
      others = λ i m. slice_get-set_other before b i other (λ e. m (sym e));
      rest = λ e. absurd (cc);
      marked = λ e. grind (arith, slice_get-set_same);
    }
