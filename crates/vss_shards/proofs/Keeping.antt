-- What a shard is stays so from call to call: what it shows of its images, its image of a recorded cut, and why a call is refused.
use Rattle.std.proofs.Common.{◌≡◌, ℕ, ◌≤◌, List, [], ◌∷◌, length, refl, ap, sym, ◌∙◌, arith, Bool, true, false, Option, Some, ◌<◌, ◌+◌, ◌++◌, None, subst, ◌≢◌}
use Rattle.std.proofs.lemmas.Bool.{ltb-false}
use Rattle.std.proofs.lemmas.List.{length-map, map-append, length_push, append-nil}
use Rattle.std.proofs.lemmas.List.Elements.{All-filter, All-push, All-map, All-same, All-head, All-tail}
use Rattle.std.specs.Prelude.{slice_get, is_some, ◌==◌, nat_lt, if◌then◌else◌, IfSome, All, Err}
use Rattle.std.proofs.lemmas.Grind.{common_steps}
use Rattle.write_history.specs.History.{Image, History, point_in, sets_of, after_set, AreInTime, written, cut, content}
use Rattle.cow_volume.specs.Calls.{sets_in}
use Rattle.cow_volume.specs.StandsFor.{GroupValue, AreImages}
use Rattle.cow_volume.specs.OneVolume.{StandsForOne, image_sets, without_up_to, IsOneNow, IsOneShown}
use Rattle.cow_volume.proofs.Group.{same_number, number_is, number_is_other}
use Rattle.cow_volume.proofs.Merging.{above_of}
use Rattle.vss_shards.specs.Calls.{after_write, images_after, IsRecorded}
use Rattle.vss_shards.specs.Shards.{DraftValue, GoesOn, IsAfterAll, IsAtPoint, ShardValue, shard_value, history_of, IsShard, IsHeldFor}
use Rattle.vss_shards.specs.Journals.{write_of, writes_of, most_entries, part_of, JournalValue, first_off, most_cuts}
use Rattle.vss_shards.specs.OneMoment.{IsFree, IsPart, IsGathered, IsOffIn, DifferFirst, HasImage, IsGivenImage}
use Rattle.vss_shards.specs.declared.entry.Entry.{Entry}
use Rattle.vss_shards.specs.declared.gather_fault.GatherFault.{GatherFault}
use Rattle.vss_shards.specs.declared.gather_fault.GatherFault.TheVariants.{Held, Differs as DiffersAt}
use Rattle.vss_shards.specs.declared.part.Part.{Part}
use Rattle.vss_shards.specs.declared.record_fault.RecordFault.{RecordFault}
use Rattle.vss_shards.specs.declared.record_fault.RecordFault.TheVariants.{Differs}

-- ## What a volume that stands for a history shows of its images.

first_of_one : {X : Type 0} → (xs : List X) → length xs ≡ 1 → (x : X) × (slice_get xs 0 ≡ Some x)
first_of_one [] one = absurd (omega arith)
first_of_one (x ∷ xs) one = (x, refl)

-- the sets of the images are those of the history, and the images are in order
pub images_stand : {D : Type 0} → (told : D → Option (List (List ℕ))) (v : GroupValue D) (h : History) → StandsForOne told v h
    → (image_sets v ≡ sets_of h.images) × AreImages (length h.writes) h.images
images_stand told v h s =
    let one : length v.area.volumes ≡ 1 = sym s.histories in
    let n = first_of_one v.area.volumes one in
    let d = first_of_one v.devices (s.devices ∙ one) in
    let i = first_of_one v.images (s.images ∙ one) in
    let is = s.each 0 n.0 d.0 i.0 h n.1 d.1 i.1 refl in
    (ap sets_in i.1 ∙ is.sets_are, is.images)

pub sets_few : {D : Type 0} → (told : D → Option (List (List ℕ))) (v : GroupValue D) (h : History) → StandsForOne told v h → length h.images ≤ 512
sets_few told v h s = (images_stand told v h s).1.few

pub sets_length : {D : Type 0} → (told : D → Option (List (List ℕ))) (v : GroupValue D) (h : History) → StandsForOne told v h → length (image_sets v) ≡ length h.images
sets_length told v h s = ap length (images_stand told v h s).0 ∙ length-map h.images (λ i. i.set)

-- an image that is left has the point that it had
pub point_was : (k s p w : ℕ) (images : List Image) → AreInTime w images → point_in s (after_set k images) ≡ Some p → point_in s images ≡ Some p
point_was k s p w [] times at = at
point_was k s p w (i ∷ images) times at = by_tests (nat_lt k i.set) (i.set == s) refl (point_was k s p w images times.2) at where
  by_tests : (t u : Bool) → (i.set == s) ≡ u → (point_in s (after_set k images) ≡ Some p → point_in s images ≡ Some p)
      → point_in s (if t then i ∷ after_set k images else after_set k images) ≡ Some p → (if u then Some i.point else point_in s images) ≡ Some p
  by_tests true true same rest e = rw same at e
  by_tests true false same rest e = rest (rw same at e)
  by_tests false true same rest e =
      let is = same_number i.set s same in
      let later = above_of i s images times.1 (ap (λ (q : Option ℕ). is_some q) (rest e)) in
      absurd (omega arith)
  by_tests false false same rest e = rest e

-- ## What a shard is stays so from call to call.

-- one more entry is one more write
pub one_more_write : (entries : List Entry) (e : Entry) (images : List Image) → written (write_of e) (history_of entries images) ≡ history_of (entries ++ e ∷ []) images
one_more_write entries e images = ap (λ ws. record { writes = ws; images = images }) (sym (map-append write_of entries (e ∷ [])))

-- an entry was written, for which images went
pub keeps_entry : {D : Type 0} → (told : D → Option (List (List ℕ))) (s : ShardValue D) (volume : GroupValue D) (e : Entry) (up_to : ℕ) → IsShard told s
    → s.held ≡ None → length s.entries < most_entries
    → ((h : History) → StandsForOne told s.volume h → StandsForOne told volume (written (write_of e) (without_up_to up_to h)))
    → IsShard told (after_write s volume up_to (s.entries ++ e ∷ []))
keeps_entry told s volume e up_to is free room stands = record {
  in_range = is.in_range;
  stands = subst (StandsForOne told volume) (one_more_write s.entries e (after_set up_to s.images)) (stands (history_of s.entries s.images) is.stands);
  few = (let l = length_push s.entries e in omega arith);
  numbered = All-filter (λ (i : Image). nat_lt up_to i.set) (λ (i : Image). i.set ≤ s.last) s.images is.numbered;
  collected = nobody s.held free;
} where
  nobody : (held : Option Part) → held ≡ None → IfSome held (IsHeldFor (after_write s volume up_to (s.entries ++ e ∷ [])))
  nobody None e = tt
  nobody (Some p) e = absurd cc

-- a device failed, and images went
pub keeps_gone : {D : Type 0} → (told : D → Option (List (List ℕ))) (s : ShardValue D) (volume : GroupValue D) (up_to : ℕ) → IsShard told s → s.held ≡ None
    → ((h : History) → StandsForOne told s.volume h → StandsForOne told volume (without_up_to up_to h))
    → IsShard told (after_write s volume up_to s.entries)
keeps_gone told s volume up_to is free stands = record {
  in_range = is.in_range;
  stands = stands (history_of s.entries s.images) is.stands;
  few = is.few;
  numbered = All-filter (λ (i : Image). nat_lt up_to i.set) (λ (i : Image). i.set ≤ s.last) s.images is.numbered;
  collected = nobody s.held free;
} where
  nobody : (held : Option Part) → held ≡ None → IfSome held (IsHeldFor (after_write s volume up_to s.entries))
  nobody None e = tt
  nobody (Some p) e = absurd cc

-- the part for which a shard is held
pub held_for : {D : Type 0} → (told : D → Option (List (List ℕ))) (s : ShardValue D) (p : Part) → IsShard told s → s.held ≡ Some p → IsHeldFor s p
held_for told s p is held = subst (λ (h : Option Part). IfSome h (IsHeldFor s)) held is.collected

-- what a cut asks for
pub newest_set : {D : Type 0} → (told : D → Option (List (List ℕ))) (s : ShardValue D) (p : Part) → IsShard told s → IsHeldFor s p → All (λ n. n < p.image) (image_sets s.volume)
newest_set told s p is held =
    All-same (λ n. n < p.image) (image_sets s.volume) (sets_of s.images) (images_stand told s.volume (history_of s.entries s.images) is.stands).0
    (All-map (λ n. n < p.image) (λ (i : Image). i.set) s.images held.newest)

-- the shard is held no longer, and has the image of its part
pub keeps_image : {D : Type 0} → (told : D → Option (List (List ℕ))) (s : ShardValue D) (volume : GroupValue D) (p : Part) → IsShard told s → IsHeldFor s p
    → ((h : History) → StandsForOne told s.volume h → StandsForOne told volume (cut p.image h))
    → IsShard told (shard_value s.number volume s.entries (s.images ++ record { set = p.image; point = p.count } ∷ []) s.last None)
keeps_image told s volume p is held stands = record {
  in_range = is.in_range;
  stands = subst (λ (k : ℕ). StandsForOne told volume (history_of s.entries (s.images ++ record { set = p.image; point = k } ∷ [])))
      (length-map s.entries write_of ∙ sym held.count) (stands (history_of s.entries s.images) is.stands);
  few = is.few;
  numbered = All-push (λ (i : Image). i.set ≤ s.last) s.images (record { set = p.image; point = p.count }) is.numbered (let same = held.image in omega arith);
  collected = tt;
}

-- a block was read
pub keeps_read : {D : Type 0} → (told : D → Option (List (List ℕ))) (s : ShardValue D) (volume : GroupValue D) → IsShard told s
    → ((h : History) → StandsForOne told s.volume h → StandsForOne told volume h)
    → IsShard told (shard_value s.number volume s.entries s.images s.last s.held)
keeps_read told s volume is stands = record {
  in_range = is.in_range;
  stands = stands (history_of s.entries s.images) is.stands;
  few = is.few;
  numbered = is.numbered;
  collected = by_part s.held is.collected;
} where
  by_part : (held : Option Part) → IfSome held (IsHeldFor s) → IfSome held (IsHeldFor (shard_value s.number volume s.entries s.images s.last s.held))
  by_part None e = tt
  by_part (Some p) e = record { volume = e.volume; count = e.count; image = e.image; above_zero = e.above_zero; newest = e.newest; room = e.room }

-- what is read is what the shard's list has
pub read_now : {D : Type 0} → (told : D → Option (List (List ℕ))) (s : ShardValue D) (b : ℕ) (bytes : List ℕ) → IsShard told s → IsOneNow told s.volume b bytes → IsAfterAll told s b bytes
read_now told s b bytes is now all =
    subst (λ (k : ℕ). bytes ≡ content (writes_of s.entries) k b) (length-map s.entries write_of) (now (history_of s.entries s.images) is.stands all)

pub read_shown : {D : Type 0} → (told : D → Option (List (List ℕ))) (s : ShardValue D) (image b : ℕ) (bytes : List ℕ) → IsShard told s
    → IsOneShown told s.volume image b bytes → IsAtPoint told s image b bytes
read_shown told s image b bytes is shown point at all = shown (history_of s.entries s.images) point is.stands all at

-- ## A shard that is given back after its cut was recorded has the image of its part.

-- the newest image is found
pub point_of_newest : (image point : ℕ) (images : List Image) → All (λ (i : Image). i.set < image) images → point_in image (images ++ record { set = image; point = point } ∷ []) ≡ Some point
point_of_newest image point [] older = ap (λ (t : Bool). if t then Some point else None) (number_is image)
point_of_newest image point (i ∷ images) older =
    by_test (i.set == image) refl (All-head (λ (j : Image). j.set < image) i images older) (point_of_newest image point images (All-tail (λ (j : Image). j.set < image) i images older)) where
      by_test : (t : Bool) → (i.set == image) ≡ t → i.set < image → point_in image (images ++ record { set = image; point = point } ∷ []) ≡ Some point
          → (if t then Some i.point else point_in image (images ++ record { set = image; point = point } ∷ [])) ≡ Some point
      by_test true same low rest = absurd (let is = same_number i.set image same in omega arith)
      by_test false other low rest = rest

-- a shard as it is given back
given_image : {D : Type 0} → (s : ShardValue D) (volume : GroupValue D) (p : Part) (number : ℕ) → IsHeldFor s p
    → HasImage (shard_value s.number volume s.entries (images_after (Some number) p s.images) s.last None) p
given_image s volume p number held = grind (arith, point_of_newest)

pub image_is_made : {D : Type 0} → (told : D → Option (List (List ℕ))) (old new : ShardValue D) (draft_old draft_new : DraftValue) (number : ℕ)
    → (is : IsGivenImage told old new draft_old draft_new number) → HasImage new is.given.part
image_is_made told old new draft_old draft_new number is =
    let held = held_for told old is.given.part is.shard is.given.held_for in grind (arith, common_steps, given_image old new.volume is.given.part number held)

-- ## What goes on from call to call.

-- images went, and entries were added
pub goes_on_written : {D : Type 0} → (told : D → Option (List (List ℕ))) (s : ShardValue D) (volume : GroupValue D) (up_to : ℕ) (more : List Entry) → IsShard told s
    → GoesOn s (after_write s volume up_to (s.entries ++ more))
goes_on_written told s volume up_to more is = grind (arith, common_steps, point_was up_to, images_stand told s.volume (history_of s.entries s.images) is.stands)

-- images went, and nothing was added
pub goes_on_gone : {D : Type 0} → (told : D → Option (List (List ℕ))) (s : ShardValue D) (volume : GroupValue D) (up_to : ℕ) → IsShard told s → GoesOn s (after_write s volume up_to s.entries)
goes_on_gone told s volume up_to is =
    grind (arith, common_steps, append-nil s.entries, point_was up_to, images_stand told s.volume (history_of s.entries s.images) is.stands)

-- a block was read
pub goes_on_read : {D : Type 0} → (s : ShardValue D) (volume : GroupValue D) → GoesOn s (shard_value s.number volume s.entries s.images s.last s.held)
goes_on_read s volume = grind (arith, append-nil)

-- the last image is not one of another number
pub point_before : (image point : ℕ) (images : List Image) (i : Image) → i.set ≢ image → point_in image (images ++ i ∷ []) ≡ Some point → point_in image images ≡ Some point
point_before image point [] i other at = absurd (let e = number_is_other i.set image other in cc)
point_before image point (j ∷ images) i other at = grind (arith, common_steps, point_before image point images i other)

-- the shard is held no longer
pub goes_on_given : {D : Type 0} → (s : ShardValue D) (volume : GroupValue D) (p : Part) (recorded : Option ℕ) → s.held ≡ Some p
    → GoesOn s (shard_value s.number volume s.entries (images_after recorded p s.images) s.last None)
goes_on_given s volume p recorded held = grind (arith, append-nil, point_before)

-- ## Refusals of the calls, case by case.

-- ## record_cut

OnlyDiffers : RecordFault → Type 0
OnlyDiffers (Differs v a b) = Unit {0}
OnlyDiffers _ = ⊥

only_differs : (entries : List Entry) (parts : List Part) (fault : RecordFault) → first_off entries parts ≡ Some fault → OnlyDiffers fault
unfolding OnlyDiffers
only_differs entries [] fault e = absurd cc
only_differs entries (p ∷ parts) fault e = grind (arith, common_steps, OnlyDiffers, only_differs entries parts fault)

pub off_is_refused : (j : JournalValue) (d : DraftValue) (fault : RecordFault) → length j.cuts < most_cuts → first_off j.entries d.parts ≡ Some fault → IsRecorded j j d d (Err fault)
unfolding OnlyDiffers
off_is_refused j d fault room off = grind (arith, common_steps, only_differs j.entries d.parts fault off)

-- ## gather

pub off_is_told : {D : Type 0} → (shards : List (ShardValue D)) (journal : List Entry) (place : ℕ) (s : ShardValue D) (fault : GatherFault)
    → ((k : ℕ) → IsFree shards k) → ((k : ℕ) → k < place → IsPart shards journal k)
    → slice_get shards place ≡ Some s → IsOffIn s.number s.entries (part_of s.number journal) fault → IsGathered shards journal (Err fault)
off_is_told shards journal place s (Held w) free before here off = absurd off
off_is_told shards journal place s (DiffersAt w at own other) free before here off = (
  free,
  record {
    place = place;
    shard = s;
    is = here;
    number = sym off.0;
    differ = subst (λ (v : ℕ). DifferFirst s.entries (part_of v journal) at own other) (sym off.0) off.1;
    before = before;
  },
)

-- ## write_on

-- ## images that go

pub after_none : (images : List Image) → All (λ (i : Image). 0 < i.set) images → images ≡ after_set 0 images
after_none [] above = refl
after_none (i ∷ images) above =
    by_test (nat_lt 0 i.set) refl (All-head (λ (j : Image). 0 < j.set) i images above) (after_none images (All-tail (λ (j : Image). 0 < j.set) i images above)) where
      by_test : (t : Bool) → nat_lt 0 i.set ≡ t → 0 < i.set → images ≡ after_set 0 images → i ∷ images ≡ (if t then i ∷ after_set 0 images else after_set 0 images)
      by_test true e low rest = ap (λ (is : List Image). i ∷ is) rest
      by_test false e low rest = absurd (let high = ltb-false 0 i.set e in omega arith)
