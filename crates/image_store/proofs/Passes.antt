-- The loops of an update.
use Rattle.std.proofs.Common.{◌≡◌, ◌≢◌, ℕ, zero, suc, ◌+◌, ◌<◌, ◌≤◌, List, length, refl, ap, sym, subst, ◌∙◌, arith, Bool, true, false, Option, Some, inl, inr}
use Rattle.std.specs.Prelude.{◌⊎◌, IfSome, not, slice_get, slice_set}
use Rattle.volume_device.specs.InMemory.{AreBlocks}
use Rattle.volume_device.specs.declared.device.Device.{Ghosts}
use Rattle.std.proofs.lemmas.Option.{slice_get_within}
use Rattle.write_history.specs.declared.evicted.Evicted.{Evicted}
use Rattle.cow_volume.specs.StandsFor.{GroupValue}
use Rattle.cow_volume.specs.Room.{HasRoom, images_going}
use Rattle.cow_volume.specs.Steps.{IsPut}
use Rattle.cow_volume.specs.Calls.{blocks_at, blocks_in, IsNow}
use Rattle.cow_volume.proofs.Group.{slice_get-set_same, slice_get-set_other, length-slice_set, slice_get_inside}
use Rattle.image_store.specs.Updating.{Gives, IsGone, HasSome, HasSomeGone, HasMixed, AreMarked, AreReady}
use Rattle.image_store.specs.Plain.{Plain, volume_in, with_blocks, on_volume}
use Rattle.image_store.specs.Steps.{AreMixed}
use Rattle.image_store.specs.StoreValue.{HasPlains, KeepsPlains}
use Rattle.image_store.proofs.Plains.{same_lists, on_volume-same, on_volume-twice, as_many_plains, as_many_blocks, sets_of_volumes, kept_then, block_now}
use Rattle.image_store.proofs.Calls.{gone_plains, room_plains, put_on, put_plains}
use Rattle.image_store.proofs.Opens.{at_or_below}

-- ## the first pass

-- what a mark says of two blocks
abbrev pub IsMark : Bool → Option (List ℕ) → Option (List ℕ) → Type 0
IsMark false x y = x ≡ y
IsMark true x y = x ≢ y

-- the first k blocks are compared
pub record IsMarkedTo {D I : Type 0} (told : D → Option (List (List ℕ))) (source : Ghosts I) (old now : GroupValue D) (input input_now : I) (v : ℕ)
    (before differs : List Bool) (k : ℕ) : Type 0 where
  pub kept : KeepsPlains told old now
  pub told_is : source.told input_now ≡ source.told input
  pub size_is : source.size input_now ≡ source.size input
  pub len : length differs ≡ length before
  pub marked : (wanted : List (List ℕ)) (ps : List Plain) → source.told input ≡ Some wanted → HasPlains told old ps → (b : ℕ) (mark : Bool) → b < k
      → slice_get differs b ≡ Some mark
      → IsMark mark (slice_get (volume_in ps v).blocks b) (slice_get wanted b)

-- one more is
pub marked_more : {D I : Type 0} (told : D → Option (List (List ℕ))) (source : Ghosts I) (old now new : GroupValue D) (input input_now input_new : I) (v : ℕ)
    (before differs : List Bool) (k : ℕ) (mark : Bool) → IsMarkedTo told source old now input input_now v before differs k → KeepsPlains told now new
    → source.told input_new ≡ source.told input_now → source.size input_new ≡ source.size input_now → k < length differs
    → ((wanted : List (List ℕ)) (ps : List Plain) → source.told input_now ≡ Some wanted → HasPlains told now ps
    → IsMark mark (slice_get (volume_in ps v).blocks k) (slice_get wanted k)) → IsMarkedTo told source old new input input_new v before (slice_set differs k mark) (k + 1)
marked_more told source old now new input input_now input_new v before differs k mark so kept told_is size_is l here = record {
  kept = kept_then told old now new so.kept kept;
  told_is = told_is ∙ so.told_is;
  size_is = size_is ∙ so.size_is;
  len = length-slice_set differs k mark ∙ so.len;
  marked = λ wanted ps is plains b m low at. by_place wanted ps is plains b m at (at_or_below b k (omega arith));
} where
  by_place : (wanted : List (List ℕ)) (ps : List Plain) → source.told input ≡ Some wanted → HasPlains told old ps → (b : ℕ) (m : Bool)
      → slice_get (slice_set differs k mark) b ≡ Some m
      → (b ≡ k) ⊎ (b < k)
      → IsMark m (slice_get (volume_in ps v).blocks b) (slice_get wanted b)
  by_place wanted ps is plains b m at (inl e) =
      let found = slice_get_inside differs k l in
      let there : Some m ≡ Some mark = sym at ∙ ap (slice_get (slice_set differs k mark)) e ∙ slice_get-set_same differs k found.0 mark found.1 in
      let same : mark ≡ m = cc in
      let P : ℕ → Type 0 = λ j. IsMark m (slice_get (volume_in ps v).blocks j) (slice_get wanted j) in
      let Q : Bool → Type 0 = λ t. IsMark t (slice_get (volume_in ps v).blocks k) (slice_get wanted k) in
      subst P (sym e) (subst Q same (here wanted ps (so.told_is ∙ is) (so.kept.plains ps plains)))
  by_place wanted ps is plains b m at (inr n) =
      so.marked wanted ps is plains b m n (sym (slice_get-set_other differs k b mark (λ e. absurd (omega arith))) ∙ at)

pub marked_all : {D I : Type 0} (told : D → Option (List (List ℕ))) (source : Ghosts I) (old now : GroupValue D) (input input_now : I) (v : ℕ)
    (before differs : List Bool) (k : ℕ)
    → v < length old.area.volumes → length before ≡ blocks_at old v → blocks_at old v ≤ k
    → ((wanted : List (List ℕ)) → source.told input ≡ Some wanted → length wanted ≡ blocks_at old v)
    → IsMarkedTo told source old now input input_now v before differs k
    → (wanted : List (List ℕ)) (ps : List Plain) → source.told input ≡ Some wanted → HasPlains told old ps → AreMarked differs wanted (volume_in ps v).blocks
marked_all told source old now input input_now v before differs k l marks all whole so wanted ps is plains =
    let many = as_many_blocks told old ps v plains l in
    record {
      ready = record {
        marks = so.len ∙ marks ∙ sym many;
        as_many = whole wanted is ∙ sym many;
        rest = λ b at. let within = slice_get_within differs b false at in so.marked wanted ps is plains b false (omega arith) at;
        first = λ b m. absurd (omega arith);
      };
      differ = λ b at. let within = slice_get_within differs b true at in so.marked wanted ps is plains b true (omega arith) at;
    }

-- the mark says whether the block is that of the other device
pub compared : {D : Type 0} (told : D → Option (List (List ℕ))) (g : GroupValue D) (ps : List Plain) (v k : ℕ) (piece other a b : List ℕ) (same : Bool) (input : Option (List (List ℕ)))
    (wanted : List (List ℕ))
    → HasPlains told g ps → v < length g.area.volumes → k < blocks_at g v → IsNow told g v k piece → IfSome input (λ blocks. slice_get blocks k ≡ Some other) → input ≡ Some wanted
    → (same ≡ true → a ≡ b) → (same ≡ false → a ≢ b) → a ≡ piece → b ≡ other → IsMark (not same) (slice_get (volume_in ps v).blocks k) (slice_get wanted k)
compared told g ps v k piece other a b same input wanted has l m now read is equal differ first second = by_test same equal differ where
  here : slice_get (volume_in ps v).blocks k ≡ Some piece
  here = block_now told g ps v k piece has l m now

  there : slice_get wanted k ≡ Some other
  there = subst (λ (o : Option (List (List ℕ))). IfSome o (λ blocks. slice_get blocks k ≡ Some other)) is read

  some_same : (x y : List ℕ) → Some x ≡ Some y → x ≡ y
  some_same x y e = cc

  by_test : (t : Bool) → (t ≡ true → a ≡ b) → (t ≡ false → a ≢ b) → IsMark (not t) (slice_get (volume_in ps v).blocks k) (slice_get wanted k)
  by_test true equal differ = here ∙ ap Some (sym first ∙ equal refl ∙ second) ∙ sym there
  by_test false equal differ = λ e. differ refl (first ∙ some_same piece other (sym here ∙ e ∙ there) ∙ sym second)

pub as_many_wanted : (size n : ℕ) (input : Option (List (List ℕ))) (wanted : List (List ℕ)) → IfSome input (AreBlocks size) → size ≡ n → input ≡ Some wanted → length wanted ≡ n
as_many_wanted size n input wanted whole e is = (subst (λ (o : Option (List (List ℕ))). IfSome o (AreBlocks size)) is whole).number ∙ e

-- ## the second pass

-- one more block is copied
pub copy_more : {D : Type 0} (told : D → Option (List (List ℕ))) (old now room new : GroupValue D) (v b up_to : ℕ) → KeepsPlains told old now → up_to ≤ 0 → HasRoom told now room v b up_to
    → KeepsPlains told room new
    → KeepsPlains told old new
copy_more told old now room new v b up_to kept none made more =
    kept_then told old now new kept (kept_then told now room new (room_plains told now room v b up_to (omega arith) made) more)

-- it stops where images went
pub copying_stopped : {D : Type 0} (told : D → Option (List (List ℕ))) (old now new : GroupValue D) (ps : List Plain) (v b up_to : ℕ) (list : List Evicted) → KeepsPlains told old now → 0 < up_to
    → HasRoom told now new v b up_to → list ≡ images_going up_to now.images → HasPlains told old ps → IsGone told new ps up_to list
copying_stopped told old now new ps v b up_to list kept some room list_is has =
    let plains = kept.plains ps has in
    record {
      some = some;
      list_is = list_is ∙ ap (images_going up_to) (sets_of_volumes told now ps plains);
      plains = gone_plains told now new ps v b up_to room plains;
    }

-- ## the third pass

-- what was read of the other device
pub read_there : (input : Option (List (List ℕ))) (wanted : List (List ℕ)) (k : ℕ) (piece bytes : List ℕ) → IfSome input (λ blocks. slice_get blocks k ≡ Some piece) → input ≡ Some wanted
    → bytes ≡ piece
    → slice_get wanted k ≡ Some bytes
read_there input wanted k piece bytes read is same = grind arith

-- what was read of the other device at a marked block
pub gives_there : (input : Option (List (List ℕ))) (differs : List Bool) (wanted : List (List ℕ)) (k : ℕ) (piece bytes : List ℕ) → IfSome input (λ blocks. slice_get blocks k ≡ Some piece)
    → slice_get differs k ≡ Some true → bytes ≡ piece → Gives input differs wanted → slice_get wanted k ≡ Some bytes
gives_there input differs wanted k piece bytes read marked same gives = grind (arith, read_there)

pub record IsWrittenTo {D I : Type 0} (told : D → Option (List (List ℕ))) (source : Ghosts I) (old now : GroupValue D) (input input_now : I) (v : ℕ)
    (differs : List Bool) (from k : ℕ) : Type 0 where
  pub volumes : now.area.volumes ≡ old.area.volumes
  pub told_is : source.told input_now ≡ source.told input
  pub size_is : source.size input_now ≡ source.size input
  pub written : (wanted : List (List ℕ)) (ps : List Plain) → Gives (source.told input) differs wanted → HasPlains told old ps
      → AreReady differs wanted (volume_in ps v).blocks from
      → HasSome told now ps v differs wanted k

with_own : (p : Plain) → with_blocks p.blocks p ≡ p
with_own p = refl

pub written_none : {D I : Type 0} (told : D → Option (List (List ℕ))) (source : Ghosts I) (old : GroupValue D) (input : I) (v : ℕ) (differs : List Bool) (from : ℕ)
    → IsWrittenTo told source old old input input v differs from from
written_none told source old input v differs from = grind (arith, on_volume-same, with_own)

ready_more : (differs : List Bool) (wanted now : List (List ℕ)) (k : ℕ) → AreReady differs wanted now k → slice_get now k ≡ slice_get wanted k → AreReady differs wanted now (k + 1)
ready_more differs wanted now k ready here = grind (arith, at_or_below)

-- a block that is not marked is passed
pub written_past : {D I : Type 0} (told : D → Option (List (List ℕ))) (source : Ghosts I) (old now : GroupValue D) (input input_now : I) (v : ℕ) (differs : List Bool)
    (from k : ℕ)
    → slice_get differs k ≡ Some false → IsWrittenTo told source old now input input_now v differs from k → IsWrittenTo told source old now input input_now v differs from (k + 1)
written_past told source old now input input_now v differs from k unmarked so = record {
  volumes = so.volumes;
  told_is = so.told_is;
  size_is = so.size_is;
  written = λ wanted ps is plains ready.
      let some = so.written wanted ps is plains ready in
      record { now = some.now; mixed = some.mixed; ready = ready_more differs wanted some.now k some.ready (some.ready.rest k unmarked); plains = some.plains };
}

-- a marked block is put
set_ready : (differs : List Bool) (wanted now : List (List ℕ)) (k : ℕ) (bytes : List ℕ) → k < length now → slice_get wanted k ≡ Some bytes → AreReady differs wanted now k
    → AreReady differs wanted (slice_set now k bytes) (k + 1)
set_ready differs wanted now k bytes l at ready = record {
  marks = ready.marks ∙ sym (length-slice_set now k bytes);
  as_many = ready.as_many ∙ sym (length-slice_set now k bytes);
  rest = λ b is. by_test b is (same_or_other b k);
  first = λ b m. by_place b (at_or_below b k m);
} where
  here : slice_get (slice_set now k bytes) k ≡ slice_get wanted k
  here = let found = slice_get_inside now k l in slice_get-set_same now k found.0 bytes found.1 ∙ sym at

  other : (b : ℕ) → b ≢ k → slice_get now b ≡ slice_get wanted b → slice_get (slice_set now k bytes) b ≡ slice_get wanted b
  other b m e = slice_get-set_other now k b bytes (λ f. m (sym f)) ∙ e

  same_or_other : (b k : ℕ) → (b ≡ k) ⊎ (b ≢ k)
  same_or_other zero zero = inl refl
  same_or_other zero (suc k) = inr (λ e. absurd (omega arith))
  same_or_other (suc b) zero = inr (λ e. absurd (omega arith))
  same_or_other (suc b) (suc k) = further b k (same_or_other b k) where
    further : (b k : ℕ) → (b ≡ k) ⊎ (b ≢ k) → (suc b ≡ suc k) ⊎ (suc b ≢ suc k)
    further b k (inl e) = inl (ap suc e)
    further b k (inr m) = inr (λ e. m (omega arith))

  by_test : (b : ℕ) → slice_get differs b ≡ Some false → (b ≡ k) ⊎ (b ≢ k) → slice_get (slice_set now k bytes) b ≡ slice_get wanted b
  by_test b is (inl e) = subst (λ (j : ℕ). slice_get (slice_set now k bytes) j ≡ slice_get wanted j) (sym e) here
  by_test b is (inr m) = other b m (ready.rest b is)

  by_place : (b : ℕ) → (b ≡ k) ⊎ (b < k) → slice_get (slice_set now k bytes) b ≡ slice_get wanted b
  by_place b (inl e) = subst (λ (j : ℕ). slice_get (slice_set now k bytes) j ≡ slice_get wanted j) (sym e) here
  by_place b (inr m) = other b (λ e. absurd (omega arith)) (ready.first b m)

set_mixed : (old wanted now : List (List ℕ)) (k : ℕ) (bytes : List ℕ) → k < length now → slice_get wanted k ≡ Some bytes → AreMixed old wanted now → AreMixed old wanted (slice_set now k bytes)
set_mixed old wanted now k bytes l at mixed = (length-slice_set now k bytes ∙ mixed.0, λ b. by_test b (same_or_other b k)) where
  same_or_other : (b k : ℕ) → (b ≡ k) ⊎ (b ≢ k)
  same_or_other zero zero = inl refl
  same_or_other zero (suc k) = inr (λ e. absurd (omega arith))
  same_or_other (suc b) zero = inr (λ e. absurd (omega arith))
  same_or_other (suc b) (suc k) = further b k (same_or_other b k) where
    further : (b k : ℕ) → (b ≡ k) ⊎ (b ≢ k) → (suc b ≡ suc k) ⊎ (suc b ≢ suc k)
    further b k (inl e) = inl (ap suc e)
    further b k (inr m) = inr (λ e. m (omega arith))

  by_test : (b : ℕ) → (b ≡ k) ⊎ (b ≢ k) → (slice_get (slice_set now k bytes) b ≡ slice_get old b) ⊎ (slice_get (slice_set now k bytes) b ≡ slice_get wanted b)
  by_test b (inl e) =
      let found = slice_get_inside now k l in
      inr (subst (λ (j : ℕ). slice_get (slice_set now k bytes) j ≡ slice_get wanted j) (sym e) (slice_get-set_same now k found.0 bytes found.1 ∙ sym at))
  by_test b (inr m) = shifted (slice_get-set_other now k b bytes (λ f. m (sym f))) (mixed.1 b) where
    shifted : {x y z w : Option (List ℕ)} → x ≡ y → (y ≡ z) ⊎ (y ≡ w) → (x ≡ z) ⊎ (x ≡ w)
    shifted e (inl f) = inl (e ∙ f)
    shifted e (inr f) = inr (e ∙ f)

pub written_more : {D I : Type 0} (ghosts : Ghosts D) (source : Ghosts I) (old now room new : GroupValue D)
    (input input_now input_new : I) (v : ℕ)
    (differs : List Bool) (from k : ℕ) (bytes : List ℕ) → v < length old.area.volumes → k < blocks_at old v → IsWrittenTo ghosts.told source old now input input_now v differs from k
    → KeepsPlains ghosts.told now room
    → source.told input_new ≡ source.told input_now → source.size input_new ≡ source.size input_now
    → ((wanted : List (List ℕ)) → Gives (source.told input_now) differs wanted → slice_get wanted k ≡ Some bytes)
    → IsPut ghosts room new v (record { block = k; bytes = bytes }) → IsWrittenTo ghosts.told source old new input input_new v differs from (k + 1)
written_more ghosts source old now room new input input_now input_new v differs from k bytes l m so kept told_is size_is read put = record {
  volumes = put.kept.volumes ∙ kept.volumes ∙ so.volumes;
  told_is = told_is ∙ so.told_is;
  size_is = size_is ∙ so.size_is;
  written = λ wanted ps is plains ready.
      let some = so.written wanted ps is plains ready in
      let at : slice_get wanted k ≡ Some bytes = read wanted (rw so.told_is is) in
      let many = as_many_blocks ghosts.told old ps v plains l in
      let long = some.mixed.0 in
      let volumes = ap length (kept.volumes ∙ so.volumes) in
      let blocks = ap (λ (ns : List ℕ). blocks_of ns) (kept.volumes ∙ so.volumes) in
      let many_ps = as_many_plains ghosts.told old ps plains in
      let before = kept.plains (on_volume v (with_blocks some.now) ps) some.plains in
      let after = put_plains ghosts room new (on_volume v (with_blocks some.now) ps) v k bytes (omega arith) (omega arith) put before in
      record {
        now = slice_set some.now k bytes;
        mixed = set_mixed (volume_in ps v).blocks wanted some.now k bytes (omega arith) at some.mixed;
        ready = set_ready differs wanted some.now k bytes (omega arith) at some.ready;
        plains = subst (λ (qs : List Plain). HasPlains ghosts.told new qs) (on_volume-twice ps v (put_on k bytes) (with_blocks some.now) (with_blocks (slice_set some.now k bytes)) (λ p. refl)) after;
      };
} where
  blocks_of : List ℕ → ℕ
  blocks_of ns = blocks_in (slice_get ns v)

-- all marked blocks are put
pub written_all : {D I : Type 0} (told : D → Option (List (List ℕ))) (source : Ghosts I) (old now : GroupValue D) (input input_now : I) (v : ℕ) (differs : List Bool)
    (from k : ℕ)
    (wanted : List (List ℕ)) (ps : List Plain) → v < length old.area.volumes → blocks_at old v ≤ k
    → IsWrittenTo told source old now input input_now v differs from k → Gives (source.told input) differs wanted
    → HasPlains told old ps → AreReady differs wanted (volume_in ps v).blocks from → HasPlains told now (on_volume v (with_blocks wanted) ps)
written_all told source old now input input_now v differs from k wanted ps l all so is plains ready =
    let some = so.written wanted ps is plains ready in
    let many = as_many_blocks told old ps v plains l in
    let long = some.mixed.0 in
    let same : some.now ≡ wanted = same_lists some.now wanted (sym some.ready.as_many) (λ i x y at there.
    let within = slice_get_within some.now i x at in
    let here = some.ready.first i (omega arith) in
    let both : Some x ≡ Some y = sym at ∙ here ∙ there in
    cc) in
    subst (λ (blocks : List (List ℕ)). HasPlains told now (on_volume v (with_blocks blocks) ps)) same some.plains

pub written_stopped : {D I : Type 0} (told : D → Option (List (List ℕ))) (source : Ghosts I) (old now new : GroupValue D) (input input_now : I) (v : ℕ)
    (differs : List Bool) (from k up_to : ℕ)
    (wanted : List (List ℕ)) (ps : List Plain) (list : List Evicted) → 0 < up_to → IsWrittenTo told source old now input input_now v differs from k → HasRoom told now new v k up_to
    → list ≡ images_going up_to now.images → Gives (source.told input) differs wanted → HasPlains told old ps → AreReady differs wanted (volume_in ps v).blocks from
    → HasSomeGone told new ps v differs wanted k up_to list
written_stopped told source old now new input input_now v differs from k up_to wanted ps list some so room list_is is plains ready =
    let part = so.written wanted ps is plains ready in
    record {
      now = part.now;
      mixed = part.mixed;
      ready = part.ready;
      went = record {
        some = some;
        list_is = list_is ∙ ap (images_going up_to) (sets_of_volumes told now (on_volume v (with_blocks part.now) ps) part.plains);
        plains = gone_plains told now new (on_volume v (with_blocks part.now) ps) v k up_to room part.plains;
      };
    }

-- a device failed
pub written_part : {D I : Type 0} (told : D → Option (List (List ℕ))) (source : Ghosts I) (old now new : GroupValue D) (input input_now : I) (v : ℕ)
    (differs : List Bool) (from k : ℕ)
    (wanted : List (List ℕ)) (ps : List Plain) → IsWrittenTo told source old now input input_now v differs from k → KeepsPlains told now new
    → Gives (source.told input) differs wanted
    → HasPlains told old ps → AreReady differs wanted (volume_in ps v).blocks from → HasMixed told new ps v wanted
written_part told source old now new input input_now v differs from k wanted ps so kept is plains ready =
    let part = so.written wanted ps is plains ready in
    (part.now, part.mixed, kept.plains (on_volume v (with_blocks part.now) ps) part.plains)
