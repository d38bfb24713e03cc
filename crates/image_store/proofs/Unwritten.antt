-- Which images are left of a volume, and which blocks are the same at two cuts.
use Rattle.std.proofs.Common.{◌≡◌, ℕ, ◌<◌, List, [], ◌∷◌, length, refl, ap, sym, ◌∙◌, arith, Bool, true, false, Option, Some, ◌≤◌, ◌+◌, take, ◌||◌, None}
use Rattle.std.proofs.Common.{option_map}
use Rattle.std.proofs.lemmas.Bool.{false_from_ne_true}
use Rattle.std.proofs.lemmas.Bool.Decides.{nat_tests}
use Rattle.std.proofs.lemmas.List.Folds.{list_any_at, list_any_more}
use Rattle.std.proofs.lemmas.Option.{get_or_from_slice_get, same_Some, slice_get_within}
use Rattle.std.specs.List.{list_any}
use Rattle.std.specs.Prelude.{◌==◌, filter, if◌then◌else◌, nat_lt, not, Result, Ok, Err, OnOk, slice_get, nat_le}
use Rattle.volume_device.specs.declared.device.Device.{Ghosts}
use Rattle.write_history.specs.History.{History, Image, dropped, point_in, reverted, reverted_in_part, sets_of, content, contents}
use Rattle.diff_area.specs.declared.table_record.Record.{Record}
use Rattle.cow_volume.specs.Calls.{changed_at, history_at, is_among, sets_at, sets_in, IsDropped, IsRevert as IsGroupRevert, blocks_at}
use Rattle.cow_volume.specs.StandsFor.{GroupValue, StandsFor, is_named, record_of}
use Rattle.cow_volume.specs.declared.image_fault.ImageFault.{ImageFault}
use Rattle.cow_volume.specs.declared.revert_fault.RevertFault.{RevertFault}
use Rattle.cow_volume.specs.declared.revert_fault.RevertFault.TheVariants.{NoSuchImage, Fault}
use Rattle.cow_volume.proofs.Group.{changed_at-other, changed_at-same, history_at_is, other_number, place_at, same_number}
use Rattle.cow_volume.proofs.Reading.{contents_at, in_volume, place_of_block, unnamed_to}
use Rattle.image_store.specs.Cutting.{AreListsOf, other_sets, sets_up_to, HasLists}
use Rattle.image_store.specs.Plain.{Plain, image_in, volume_in}
use Rattle.image_store.specs.Showing.{shown_in, is_between, is_written, AreWritten, AreSameBut}
use Rattle.image_store.specs.StoreValue.{StoreValue, HasPlains}
use Rattle.image_store.specs.declared.which.Which.{Which}
use Rattle.image_store.specs.declared.which.Which.TheVariants.{Now, Of}
use Rattle.image_store.proofs.Copies.{image_of_point}
use Rattle.image_store.proofs.Plains.{point_there, at_volume}

-- ## Which images are left of a volume from which some went.

sets-filter : (f : ℕ → Bool) (is : List Image) → sets_of (filter (λ i. f i.set) is) ≡ filter f (sets_of is)
sets-filter f [] = refl
sets-filter f (i ∷ is) = grind (arith, sets-filter f is)

sets_are : {D : Type 0} (told : D → Option (List (List ℕ))) (g : GroupValue D) (hs : List History) (v : ℕ) → StandsFor told g hs → v < length g.area.volumes
    → sets_at g v ≡ sets_of (history_at hs v).images
sets_are told g hs v stands l = let place = place_at told g hs v stands l in ap sets_in place.sets_at ∙ place.stands.sets_are

-- one volume's history changes
lists_changed : {D : Type 0} (told : D → Option (List (List ℕ))) (old new : GroupValue D) (hs : List History) (v : ℕ) (F : History → History) (f : List ℕ → List ℕ) → v < length old.area.volumes
    → new.area.volumes ≡ old.area.volumes → StandsFor told old hs → StandsFor told new (changed_at v F hs) → ((h : History) → sets_of (F h).images ≡ f (sets_of h.images))
    → (u : ℕ) → u < length old.area.volumes → sets_at new u ≡ (if u == v then f (sets_at old u) else sets_at old u)
lists_changed told old new hs v F f l volumes before now same u m = sets_are told new (changed_at v F hs) u now (let long = ap length volumes in omega arith) ∙ by_test (u == v) refl where
  by_test : (t : Bool) → (u == v) ≡ t → sets_of (history_at (changed_at v F hs) u).images ≡ (if t then f (sets_at old u) else sets_at old u)
  by_test true e =
      let here = same_number u v e in
      let at = (place_at told old hs v before l).history in
      ap (λ w. sets_of (history_at (changed_at v F hs) w).images) here
      ∙ ap (λ (h : History). sets_of h.images) (history_at_is (changed_at v F hs) v (F (history_at hs v)) (changed_at-same v F hs (history_at hs v) at))
      ∙ same (history_at hs v) ∙ ap f (sym (sets_are told old hs v before l)) ∙ ap (λ w. f (sets_at old w)) (sym here)
  by_test false e =
      let at = (place_at told old hs u before m).history in
      ap (λ (h : History). sets_of h.images) (history_at_is (changed_at v F hs) u (history_at hs u) (changed_at-other v u F hs (other_number u v e) ∙ at)) ∙ sym (sets_are told old hs u before m)

pub dropped_stood : {D : Type 0} (ghosts : Ghosts D) (old new : GroupValue D) (v set : ℕ) (r : Result Unit ImageFault) → IsDropped ghosts old new v set r → OnOk r (is_among set (sets_at old v) ≡ true)
dropped_stood ghosts old new v set r is = grind arith

pub dropped_lists : {D : Type 0} (ghosts : Ghosts D) (old new : GroupValue D) (v set : ℕ) (r : Result Unit ImageFault) → v < length old.area.volumes → IsDropped ghosts old new v set r
    → OnOk r (AreListsOf ghosts.told old new v (other_sets set))
dropped_lists ghosts old new v set (Ok done) l is = λ hs stands.
    lists_changed ghosts.told old new hs v (dropped set) (other_sets set) l is.1.kept.volumes stands (is.1.stands hs stands) (λ h. sets-filter (λ s. not (s == set)) h.images)
dropped_lists ghosts old new v set (Err fault) l is = tt

-- the point of the image that stood
point_of : {D : Type 0} (told : D → Option (List (List ℕ))) (g : GroupValue D) (hs : List History) (v set : ℕ) → StandsFor told g hs → v < length g.area.volumes → is_among set (sets_at g v) ≡ true
    → (p : ℕ) × (point_in set (history_at hs v).images ≡ Some p)
point_of told g hs v set stands l is =
    let place = place_at told g hs v stands l in
    point_there (length (history_at hs v).writes) set (history_at hs v).images place.stands.images.in_time (ap (is_among set) (sym (sets_are told g hs v stands l)) ∙ is)

pub reverted_lists : {D : Type 0} (ghosts : Ghosts D) (old new : StoreValue D) (set v : ℕ) (r : Result Unit RevertFault) → v < length old.group.area.volumes
    → (new.group ≡ old.group → new ≡ old) → IsGroupRevert ghosts old.group new.group v set r → HasLists ghosts.told old new set v r
reverted_lists ghosts old new set v (Ok done) l same is = (
  is.image,
  λ hs stands.
      let p = point_of ghosts.told old.group hs v set stands l is.image in
      lists_changed ghosts.told old.group new.group hs v (reverted set p.0) (sets_up_to set) l is.kept.volumes stands (is.stands hs p.0 stands p.1)
      (λ h. sets-filter (λ s. not (nat_lt set s)) h.images),
)
reverted_lists ghosts old new set v (Err NoSuchImage) l same is = (is.0, same is.1)
reverted_lists ghosts old new set v (Err (Fault restored cause)) l same is = (
  is.0.image,
  λ hs stands.
      let p = point_of ghosts.told old.group hs v set stands l is.0.image in
      lists_changed ghosts.told old.group new.group hs v (reverted_in_part _ set p.0 restored) (sets_up_to set) l is.0.kept.volumes stands (is.0.stands hs p.0 stands p.1)
      (λ h. sets-filter (λ s. not (nat_lt set s)) h.images),
)

-- ## A block of which no image has a copy from one cut to another is the same at both.

-- one record more
pub written_more : (records : List Record) (v one : ℕ) (other : Which) (slot : ℕ) (row : Record) (old new : List Bool) → slice_get records slot ≡ Some row → length new ≡ length old
    → AreWritten (take slot records) v one other old → ((b : ℕ) → slice_get new b ≡ option_map (λ mark. mark || is_written v one other b row) (slice_get old b))
    → AreWritten (take (slot + 1) records) v one other new
written_more records v one other slot row old new at len before more = λ b l.
    let here = list_any_more (is_written v one other b) records slot row (slice_get_within records slot row at) in
    let last = ap (λ r. list_any (is_written v one other b) (take slot records) || is_written v one other b r) (get_or_from_slice_get records slot row row at) in
    more b ∙ ap (option_map (λ (mark : Bool). mark || is_written v one other b row)) (before b (omega arith)) ∙ ap Some (sym (here ∙ last))

-- a record that is there does not pass a test that none passes
not_at : {X : Type 0} (p : X → Bool) (xs : List X) (i : ℕ) (x : X) → list_any p xs ≡ false → slice_get xs i ≡ Some x → p x ≡ false
not_at p xs i x none at = false_from_ne_true (p x) (λ is. let e = list_any_at p xs i x (slice_get_within xs i x at) (ap p (get_or_from_slice_get xs i x x at) ∙ is) in cc)

-- there is no record of a copy between
no_copy : (records : List Record) (v one : ℕ) (other : Which) (b slot set : ℕ) → list_any (is_written v one other b) records ≡ false → slice_get records slot ≡ Some (record_of v set b)
    → is_between one other set ≡ true → ⊥
no_copy records v one other b slot set none at is = let e = not_at (is_written v one other b) records slot (record_of v set b) none at in grind (arith, nat_tests)

up : (one other k : ℕ) → one ≤ k → k < other → is_between one (Of other) k ≡ true
up one other k l m = grind (arith, nat_tests)

down : (one other k : ℕ) → other ≤ k → k < one → is_between one (Of other) k ≡ true
down one other k l m = grind (arith, nat_tests)

mapped : {X Y : Type 0} (f : X → Y) (o : Option X) (y : Y) → option_map f o ≡ Some y → (x : X) × (o ≡ Some x) × (f x ≡ y)
mapped f None y e = cc
mapped f (Some x) y e = (x, refl, cc)

-- the block of an image is that of its point
at_point : {D : Type 0} (told : D → Option (List (List ℕ))) (g : GroupValue D) (ps : List Plain) (v set b : ℕ) (blocks : List (List ℕ)) (has : HasPlains told g ps) → v < length g.area.volumes
    → b < blocks_at g v → image_in set (volume_in ps v).images ≡ Some blocks
    → (k : ℕ) × (point_in set (history_at has.hs v).images ≡ Some k) × (slice_get blocks b ≡ Some (content (history_at has.hs v).writes k b))
at_point told g ps v set b blocks has l m is =
    let at = at_volume told g ps v has l in
    let n = at.blocks_at_is in
    let there = sym (ap (λ (q : Plain). image_in set q.images) at.plain ∙ image_of_point set at.blocks at.history.writes at.history.images) ∙ is in
    let found = mapped (contents at.blocks at.history.writes) (point_in set at.history.images) blocks there in (
      found.0,
      ap (λ (h : History). point_in set h.images) at.history_at_is ∙ found.1,
      ap (λ bs. slice_get bs b) (sym found.2) ∙ contents_at at.blocks at.history.writes found.0 b (omega arith) ∙ ap (λ (h : History). Some (content h.writes found.0 b)) (sym at.history_at_is),
    )

-- two images, the older first
images_same : {D : Type 0} (told : D → Option (List (List ℕ))) (g : GroupValue D) (ps : List Plain) (v older newer b : ℕ) (xs ys : List (List ℕ)) → HasPlains told g ps → v < length g.area.volumes
    → b < blocks_at g v → older ≤ newer → ((slot k : ℕ) → slice_get g.area.records slot ≡ Some (record_of v k b) → older ≤ k → k < newer → ⊥)
    → image_in older (volume_in ps v).images ≡ Some xs → image_in newer (volume_in ps v).images ≡ Some ys → slice_get xs b ≡ slice_get ys b
images_same told g ps v older newer b xs ys has l m before none was is =
    let place = place_of_block told g has.hs v b has.stands m in
    let old = at_point told g ps v older b xs has l m was in
    let new = at_point told g ps v newer b ys has l m is in
    let h = history_at has.hs v in
    let same = unnamed_to h.writes h.images older newer old.0 new.0 b before place.stands.images.in_time old.1 new.1 (λ k from below.
    false_from_ne_true (is_named h.writes h.images k b) (λ named. let at = place.stands.recorded k b place.within named in none at.0 k at.1 from below)) in
    old.2 ∙ ap Some same ∙ sym new.2

-- an image and the volume
now_same : {D : Type 0} (told : D → Option (List (List ℕ))) (g : GroupValue D) (ps : List Plain) (v older b : ℕ) (xs : List (List ℕ)) → HasPlains told g ps → v < length g.area.volumes
    → b < blocks_at g v → ((slot k : ℕ) → slice_get g.area.records slot ≡ Some (record_of v k b) → older ≤ k → ⊥)
    → image_in older (volume_in ps v).images ≡ Some xs → slice_get xs b ≡ slice_get (volume_in ps v).blocks b
now_same told g ps v older b xs has l m none was =
    let place = place_of_block told g has.hs v b has.stands m in
    let at = at_volume told g ps v has l in
    let old = at_point told g ps v older b xs has l m was in
    let now = ap (λ (q : Plain). slice_get q.blocks b) at.plain ∙ contents_at at.blocks at.history.writes (length at.history.writes) b (omega arith) in
    let there = ap (λ (h : History). Some (content h.writes (length h.writes) b)) at.history_at_is in
    old.2 ∙ ap Some (in_volume _ _ g.area.records v place.blocks _ (history_at has.hs v) older b old.0 place.stands place.within old.1 none) ∙ there ∙ sym now

-- whichever of two images is the older
either : {D : Type 0} (told : D → Option (List (List ℕ))) (g : GroupValue D) (ps : List Plain) (v one other b : ℕ) (xs ys : List (List ℕ)) (t : Bool) → nat_le one other ≡ t → HasPlains told g ps
    → v < length g.area.volumes → b < blocks_at g v → list_any (is_written v one (Of other) b) g.area.records ≡ false
    → image_in one (volume_in ps v).images ≡ Some xs → image_in other (volume_in ps v).images ≡ Some ys → slice_get xs b ≡ slice_get ys b
either told g ps v one other b xs ys true e has l m none was is =
    images_same told g ps v one other b xs ys has l m (grind (arith, nat_tests)) (λ slot k at from below. no_copy g.area.records v one (Of other) b slot k none at (up one other k from below)) was is
either told g ps v one other b xs ys false e has l m none was is =
    sym (images_same told g ps v other one b ys xs has l m (grind (arith, nat_tests)) (λ slot k at from below. no_copy g.area.records v one (Of other) b slot k none at (down one other k from below))
    is was)

pub same_but : {D : Type 0} (told : D → Option (List (List ℕ))) (g : GroupValue D) (ps : List Plain) (v one : ℕ) (other : Which) (marks : List Bool) → HasPlains told g ps
    → v < length g.area.volumes → length marks ≡ blocks_at g v → AreWritten g.area.records v one other marks → AreSameBut marks (shown_in ps v (Of one)) (shown_in ps v other)
same_but told g ps v one Now marks has l many written = λ b xs ys at was is.
    let m = slice_get_within marks b false at in
    let none = same_Some _ false (sym (written b m) ∙ at) in
    now_same told g ps v one b xs has l (omega arith) (λ slot k found from. no_copy g.area.records v one Now b slot k none found (grind (arith, nat_tests))) was
    ∙ ap (λ bs. slice_get bs b) (same_Some (volume_in ps v).blocks ys is)
same_but told g ps v one (Of other) marks has l many written = λ b xs ys at was is.
    let m = slice_get_within marks b false at in
    either told g ps v one other b xs ys (nat_le one other) refl has l (omega arith) (same_Some _ false (sym (written b m) ∙ at)) was is
