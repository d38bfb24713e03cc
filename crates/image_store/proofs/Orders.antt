-- The calls of an update, as relations to the store that it began with.
use Rattle.std.proofs.Common.{◌≡◌, ◌≢◌, ℕ, ◌+◌, ◌<◌, ◌≤◌, List, [], ◌∷◌, ◌++◌, length, take, drop, refl, sym, subst, ap, ◌∙◌, arith, Bool, true, Option}
use Rattle.std.proofs.Common.{Some, None, inl, inr}
use Rattle.std.specs.Prelude.{◌⊎◌, ◌&&◌, ◌==◌, nat_lt, slice_get, slice_set, Result, Ok, Err, IfOk, OnOk}
use Rattle.std.proofs.lemmas.Bool.{cases_lt}
use Rattle.std.proofs.Math.Seq.{take-append_seam}
use Rattle.std.proofs.lemmas.List.{length-map}
use Rattle.std.proofs.lemmas.Map.Views.{any-filter_same}
use Rattle.std.proofs.lemmas.Option.{same_Some, slice_get_within}
use Rattle.volume_device.specs.declared.device.Device.{Ghosts}
use Rattle.write_history.specs.declared.evicted.Evicted.{Evicted}
use Rattle.diff_map.specs.Copies.{AreImages}
use Rattle.cow_volume.specs.StandsFor.{GroupValue}
use Rattle.cow_volume.specs.Calls.{blocks_at, is_among, sets_at, sets_in}
use Rattle.cow_volume.specs.Room.{after as sets_after_of}
use Rattle.cow_volume.proofs.Group.{same_number, slice_get_inside, slice_get_map, slice_get-set_other, slice_get-set_same}
use Rattle.cow_volume.proofs.MakingRoom.{sets_after}
use Rattle.image_store.specs.Ordering.{aim_of, aims_of, AreCopiedSoFar, AreAtTheirEnd, Aim, OfEach, AreApart, IsReady, IsBrought, IsCopied, without, HasBut}
use Rattle.image_store.specs.Ordering.{MayOverwrite, AllImages, IsFurther, HasMore, IsCopyPass, IsHeld, IsWritten, IsOverwrite, AreAllWritten, AreOverwritten}
use Rattle.image_store.specs.Ordering.{AreBrought, OpensBut, HoldsBut, CoversBut, IsHeadOf, FoundBut}
use Rattle.image_store.specs.declared.job.Job.{Job}
use Rattle.image_store.specs.Updating.{Gives, AreReady, IsOverwriting, IsStopped}
use Rattle.image_store.specs.Copying.{AreCopied, HasCopiesOf, IsAreaLeft, IsAreaSame, IsStoppedAt}
use Rattle.image_store.specs.Head.{head_of}
use Rattle.image_store.specs.Plain.{Plain, PlainStore, plain_at, image_of, changed, with_blocks}
use Rattle.image_store.specs.PowerLoss.{IsCommitted, IsUnderWay, IsStillUnderWay, IsShared, KeepsBlocks}
use Rattle.image_store.specs.Steps.{after}
use Rattle.image_store.specs.Steps.Step.{Gone}
use Rattle.image_store.specs.StoreValue.{StoreValue, StandsAs, StandsStill}
use Rattle.image_store.specs.declared.pass.Pass.{Pass}
use Rattle.image_store.specs.declared.pass.Pass.TheVariants.{Done, Evicted as Stopped}
use Rattle.image_order.specs.declared.copied.Copied.{Copied}
use Rattle.image_order.specs.declared.copied.Copied.TheVariants.{All as Whole, UntilEvicted}
use Rattle.image_store.proofs.Copied.{area_kept, copied_gone, copied_kept, copies_then}
use Rattle.image_store.proofs.Origins.{back-step}
use Rattle.image_store.proofs.Plains.{as_many_plains, image_there, same_lists, volume_on}
use Rattle.image_store.proofs.PowerLoss.{opens_found}
use Rattle.image_store.proofs.Opens.{at_or_below}
use Rattle.image_store.proofs.UnderWay.{gone_blocks, other_volume, same_or_other}

-- ## what stays

pub ok_then : {A E : Type 0} {P Q : Type 0} (r : Result A E) → OnOk r P → (P → Q) → OnOk r Q
ok_then (Ok done) h f = f h
ok_then (Err failed) h f = h

pub copies_all : {D : Type 0} (g : GroupValue D) → HasCopiesOf g g
copies_all g = record { volumes = refl; images = refl; number = refl; records = λ slot r at used. at }

keeps_all : {D : Type 0} (told : D → Option (List (List ℕ))) (P : ℕ → Type 0) (d : D) → KeepsBlocks told P d d
keeps_all told P d = record { blocks = λ blocks is. (blocks, is, record { number = refl; same = λ k at. refl }) }

-- nothing was done since the commit
pub begun : {D : Type 0} (told : D → Option (List (List ℕ))) (g : GroupValue D) → IsUnderWay told g g
begun told g = record {
  number = refl;
  slots = keeps_all told _ g.area.device;
  devices = refl;
  each = λ v d e at is. subst (λ x. KeepsBlocks told (IsShared g v) d x) (same_Some d e (sym at ∙ is)) (keeps_all told (IsShared g v) d);
}

images_at : {D : Type 0} (g : GroupValue D) (v : ℕ) → AllImages g → AreImages (sets_at g v)
images_at g v all = (grind arith)

-- ## images that went

pub without_then : (later gone : List ℕ) (p : PlainStore) → without (later ++ gone) p ≡ without later (without gone p)
without_then [] gone p = refl
without_then (up_to ∷ later) gone p = ap (λ q. after q (Gone up_to)) (without_then later gone p)

-- an image is as it was, or went
image_then : (p q : PlainStore) (set v : ℕ) → ((blocks : List (List ℕ)) → image_of q set v ≡ Some blocks → image_of p set v ≡ Some blocks)
    → (image_of q set v ≡ image_of p set v) ⊎ (image_of q set v ≡ None)
image_then p q set v back = (grind arith)

gone_back : (p : PlainStore) (up_to set v : ℕ) (blocks : List (List ℕ)) → image_of (after p (Gone up_to)) set v ≡ Some blocks → image_of p set v ≡ Some blocks
gone_back p up_to set v blocks is = elim (back-step p (Gone up_to) set v blocks tt is) [ inl still ↦ still.0 | inr here ↦ (let cut = here.1 in cc) ]

without_back : (gone : List ℕ) (p : PlainStore) (set v : ℕ) (blocks : List (List ℕ)) → image_of (without gone p) set v ≡ Some blocks
    → image_of p set v ≡ Some blocks
without_back [] p set v blocks is = is
without_back (up_to ∷ gone) p set v blocks is = without_back gone p set v blocks (gone_back (without gone p) up_to set v blocks is)

pub without_image : (gone : List ℕ) (p : PlainStore) (set v : ℕ)
    → (image_of (without gone p) set v ≡ image_of p set v) ⊎ (image_of (without gone p) set v ≡ None)
without_image gone p set v = image_then p (without gone p) set v (λ blocks. without_back gone p set v blocks)

pub without_blocks : (gone : List ℕ) (p : PlainStore) (v : ℕ) → (plain_at (without gone p) v).blocks ≡ (plain_at p v).blocks
without_blocks [] p v = refl
without_blocks (up_to ∷ gone) p v = gone_blocks (without gone p).volumes v up_to ∙ without_blocks gone p v

-- a volume of the same blocks is ready
pub ready_on : (p q : PlainStore) (aim : Aim) → (plain_at q aim.volume).blocks ≡ (plain_at p aim.volume).blocks → IsReady p aim → IsReady q aim
ready_on p q aim same is = record {
  wanted = is.wanted;
  gives = is.gives;
  ready = subst (λ (bs : List (List ℕ)). AreReady aim.differs is.wanted bs 0) (sym same) is.ready;
}

-- a set that is left was there
pub among_after : (up_to set : ℕ) (sets : List ℕ) → is_among set (sets_after_of up_to sets) ≡ true → is_among set sets ≡ true
among_after up_to set sets is = both (nat_lt up_to set) (is_among set sets)
    (sym (any-filter_same (λ s. s == set) (λ s. nat_lt up_to s) (nat_lt up_to set) (λ s e. ap (nat_lt up_to) (same_number s set e)) sets) ∙ is) where
      both : (a b : Bool) → (a && b) ≡ true → b ≡ true
      both a b e = grind arith

-- ## the second pass

pub more_of : {D : Type 0} (told : D → Option (List (List ℕ))) (old new : StoreValue D) → AllImages old.group → HasCopiesOf old.group new.group
    → StandsStill told old new
    → ((committed : GroupValue D) (p : PlainStore) → StandsAs told old p → HasCopiesOf committed old.group → IsUnderWay told committed old.group
    → IsUnderWay told committed new.group)
    → HasMore told old new
more_of told old new are copies still under = record {
  further = record {
    under_way = under;
    stands = λ p stands. record { gone = []; stands = still p stands };
    left = λ set v is. subst (λ (i : List (List ℕ)). is_among set (sets_in (slice_get i v)) ≡ true) copies.images is;
    copied = λ v to differs copied. copied_kept old.group new.group v differs 0 to (images_at old.group v are) copies copied;
  };
  copies = copies;
  still = still;
}

-- one pass of the store, for which images went
pub pass_stopped : {D : Type 0} (told : D → Option (List (List ℕ))) (old new : StoreValue D) (v from to before counted at up_to : ℕ) (differs : List Bool)
    (list : List Evicted) → AllImages old.group
    → IsStoppedAt told old.group new.group v differs from to before counted at up_to
    → ((p : PlainStore) → StandsAs told old p → IsStopped told new p up_to list)
    → ((committed : GroupValue D) (p : PlainStore) → StandsAs told old p → HasCopiesOf committed old.group → IsUnderWay told committed old.group
    → IsUnderWay told committed new.group)
    → IsFurther told old new
pass_stopped {D = D} told old new v from to before counted at up_to differs list are copied ahead under = record {
  under_way = under;
  stands = λ p stands. record { gone = up_to ∷ []; stands = (ahead p stands).stands };
  left = λ set u is. subst (λ (i : List (List ℕ)). is_among set (sets_in (slice_get i u)) ≡ true) copies.images
      (among_after up_to set (sets_at copied.full u) (subst (λ sets. is_among set sets ≡ true) (sets_after up_to u copied.full.images)
      (subst (λ (g : GroupValue D). is_among set (sets_at g u) ≡ true) copied.gone is)));
  copied = λ u end marks had. copied_gone copied.full new.group u marks 0 end up_to
      (subst (λ (i : List (List ℕ)). AreImages (sets_in (slice_get i u))) (sym copies.images) (images_at old.group u are)) copied.gone
      (copied_kept old.group copied.full u marks 0 end (images_at old.group u are) copies had);
} where
  copies : HasCopiesOf old.group copied.full
  copies = copied.copies.kept.copies

-- copied up to one block, and from there
pub copied_join : {D : Type 0} (g : GroupValue D) (v from to : ℕ) (differs : List Bool) → AreCopied g v differs 0 from → AreCopied g v differs from to
    → AreCopied g v differs 0 to
copied_join g v from to differs first rest = λ b low high marked. elim
    (cases_lt b from) [ inl below ↦ first b low below marked | inr above ↦ rest b above high marked ]

pub further_then : {D : Type 0} (told : D → Option (List (List ℕ))) (a b c : StoreValue D) → HasMore told a b → IsFurther told b c → IsFurther told a c
further_then told a b c one two = record {
  under_way = λ committed p stands copies under.
      two.under_way committed p (one.still p stands) (copies_then committed a.group b.group copies one.copies)
      (one.further.under_way committed p stands copies under);
  stands = λ p stands. two.stands p (one.still p stands);
  left = λ set v is. one.further.left set v (two.left set v is);
  copied = λ v to differs had. two.copied v to differs (one.further.copied v to differs had);
}

pub more_then : {D : Type 0} (told : D → Option (List (List ℕ))) (a b c : StoreValue D) → HasMore told a b → HasMore told b c → HasMore told a c
more_then told a b c one two = record {
  further = further_then told a b c one two.further;
  copies = copies_then a.group b.group c.group one.copies two.copies;
  still = λ p stands. two.still p (one.still p stands);
}

pub more_itself : {D : Type 0} (told : D → Option (List (List ℕ))) (s : StoreValue D) → HasMore told s s
more_itself told s = record {
  further = record {
    under_way = λ committed p stands copies under. under;
    stands = λ p stands. record { gone = []; stands = stands };
    left = λ set v is. is;
    copied = λ v to differs had. had;
  };
  copies = copies_all s.group;
  still = λ p stands. stands;
}

-- ## the calls of the passes

pub opens_on : {D : Type 0} (told : D → Option (List (List ℕ))) (old new : StoreValue D) (h : List ℕ) (p : PlainStore) → IsFurther told old new
    → HoldsBut told old h p → OpensBut told new h p
opens_on told old new h p further holds = record {
  gone = holds.opens.gone;
  store = holds.opens.store;
  head = holds.opens.head;
  committed = holds.opens.committed;
  under_way = further.under_way holds.opens.store.group (without holds.here.gone p) holds.here.stands holds.copies holds.opens.under_way;
  left = λ set v is. holds.opens.left set v (further.left set v is);
}

pub holds_on : {D : Type 0} (told : D → Option (List (List ℕ))) (old new : StoreValue D) (h : List ℕ) (p : PlainStore) → HasMore told old new
    → HoldsBut told old h p → HoldsBut told new h p
unfolding opens_on
holds_on told old new h p more holds = record {
  opens = opens_on told old new h p more.further holds;
  copies = copies_then holds.opens.store.group old.group new.group holds.copies more.copies;
  here = record { gone = holds.here.gone; stands = more.still (without holds.here.gone p) holds.here.stands };
}

pub has_on : {D : Type 0} (told : D → Option (List (List ℕ))) (old new : StoreValue D) (p : PlainStore) → IsFurther told old new → HasBut told old p
    → HasBut told new p
has_on told old new p further has =
    let one = further.stands (without has.gone p) has.stands in
    record { gone = one.gone ++ has.gone; stands = subst (λ q. StandsAs told new q) (sym (without_then one.gone has.gone p)) one.stands }

pub may_more : {D : Type 0} (told : D → Option (List (List ℕ))) (aims : List Aim) (old new : StoreValue D) (p : PlainStore) → StandsStill told old new
    → MayOverwrite told aims old p → MayOverwrite told aims new p
may_more told aims old new p still may = record { gone = may.gone; none = may.none; stands = still (without may.gone p) may.stands; ready = may.ready }

pub may_on : {D : Type 0} (told : D → Option (List (List ℕ))) (aims : List Aim) (old new : StoreValue D) (p : PlainStore) → IsFurther told old new → aims ≢ []
    → MayOverwrite told aims old p
    → MayOverwrite told aims new p
may_on told aims old new p further some may =
    let one = further.stands (without may.gone p) may.stands in
    record {
      gone = one.gone ++ may.gone;
      none = λ e. absurd (some e);
      stands = subst (λ q. StandsAs told new q) (sym (without_then one.gone may.gone p)) one.stands;
      ready = λ k aim at. ready_on (without may.gone p) (without (one.gone ++ may.gone) p) aim
          (without_blocks (one.gone ++ may.gone) p aim.volume ∙ sym (without_blocks may.gone p aim.volume)) (may.ready k aim at);
    }

-- ## jobs

-- the job of an aim
job_there : {I : Type 0} (told : I → Option (List (List ℕ))) (jobs : List (Job I)) (k : ℕ) (aim : Aim) → slice_get (aims_of told jobs) k ≡ Some aim
    → (job : Job I) × (slice_get jobs k ≡ Some job) × (aim_of told job ≡ aim)
job_there told jobs k aim at =
    let there = slice_get_within (aims_of told jobs) k aim at in
    let many = length-map jobs (aim_of told) in
    let one = slice_get_inside jobs k (omega arith) in
    (one.0, one.1, same_Some (aim_of told one.0) aim (sym (slice_get_map (aim_of told) jobs k one.0 one.1) ∙ at))

-- what holds of each job's aim
pub of_each_job : {I : Type 0} (told : I → Option (List (List ℕ))) (jobs : List (Job I)) (P : Aim → Type 0)
    → ((k : ℕ) (job : Job I) → slice_get jobs k ≡ Some job → P (aim_of told job))
    → OfEach P (aims_of told jobs)
of_each_job told jobs P each k aim at = (let one = job_there told jobs k aim at in subst P one.2 (each k one.0 one.1))

pub apart_of : {I : Type 0} (told : I → Option (List (List ℕ))) (jobs : List (Job I)) (n : ℕ) → length jobs ≤ n
    → ((i k : ℕ) (a b : Job I) → i < k → k < n → slice_get jobs i ≡ Some a → slice_get jobs k ≡ Some b → a.volume ≢ b.volume) → AreApart (aims_of told jobs)
apart_of told jobs n all each i k a b low at there =
    let x = job_there told jobs i a at in
    let y = job_there told jobs k b there in
    let within = slice_get_within jobs k y.0 y.1 in
    λ same. each i k x.0 y.0 low (omega arith) x.1 y.1 (ap (λ (q : Aim). q.volume) x.2 ∙ same ∙ sym (ap (λ (q : Aim). q.volume) y.2))

-- all of them are copied, and still are where only the devices changed
pub all_copied : {D I : Type 0} (told : I → Option (List (List ℕ))) (old new : GroupValue D) (jobs : List (Job I)) → new.area.records ≡ old.area.records
    → new.images ≡ old.images
    → AreCopiedSoFar old jobs → AreAtTheirEnd jobs → OfEach (IsCopied new) (aims_of told jobs)
all_copied told old new jobs records images so_far ends = of_each_job told jobs (IsCopied new) (λ k job at b low high marked.
    let end = ends k job at in
    rw (records, images) (so_far k job at b low (omega arith) marked))

-- where only the devices changed
pub so_far_still : {D I : Type 0} (old new : GroupValue D) (jobs : List (Job I)) → new.area.records ≡ old.area.records → new.images ≡ old.images
    → AreCopiedSoFar old jobs → AreCopiedSoFar new jobs
so_far_still old new jobs records images had = λ k job at. rw (records, images) (had k job at)

-- ## a commit

-- an image that memory has is as it was
has_left : {D : Type 0} (told : D → Option (List (List ℕ))) (now : StoreValue D) (gone : List ℕ) (p : PlainStore) → StandsAs told now (without gone p)
    → (set v : ℕ) → is_among set (sets_at now.group v) ≡ true → image_of (without gone p) set v ≡ image_of p set v
has_left told now gone p stands set v is = elim (without_image gone p set v) [
  | inl same ↦ same
  | inr none ↦ (let there = image_there told now.group (without gone p).volumes v set stands.group (grind (arith, slice_get_within)) is in
      let both : None ≡ Some there.0 = sym none ∙ there.1 in cc)
]

pub synced_holds : {D : Type 0} (told : D → Option (List (List ℕ))) (aims : List Aim) (old new : StoreValue D) (p : PlainStore) → StandsStill told old new
    → ((q : PlainStore) → StandsAs told old q → IsCommitted told new q) → MayOverwrite told aims old p → HoldsBut told new (head_of new) p
synced_holds told aims old new p still committed may = record {
  opens = record {
    gone = may.gone;
    store = new;
    head = refl;
    committed = committed (without may.gone p) may.stands;
    under_way = begun told new.group;
    left = has_left told new may.gone p (still (without may.gone p) may.stands);
  };
  copies = copies_all new.group;
  here = record { gone = may.gone; stands = still (without may.gone p) may.stands };
}

pub synced_covers : {D I : Type 0} (told : D → Option (List (List ℕ))) (told_in : I → Option (List (List ℕ))) (jobs : List (Job I)) (old new : StoreValue D)
    (p : PlainStore) → StandsStill told old new
    → ((q : PlainStore) → StandsAs told old q → IsCommitted told new q) → new.group.area.records ≡ old.group.area.records → new.group.images ≡ old.group.images
    → AreApart (aims_of told_in jobs) → AreCopiedSoFar old.group jobs → AreAtTheirEnd jobs → MayOverwrite told (aims_of told_in jobs) old p
    → CoversBut told (aims_of told_in jobs) new (head_of new) p
unfolding synced_holds
synced_covers told told_in jobs old new p still committed records images apart so_far ends may = record {
  holds = synced_holds told (aims_of told_in jobs) old new p still committed may;
  apart = apart;
  copied = all_copied told_in old.group new.group jobs records images so_far ends;
  here = may_more told (aims_of told_in jobs) old new p still may;
}

-- only counts of devices changed
pub opens_still : {D : Type 0} (told : D → Option (List (List ℕ))) (old new : StoreValue D) (h : List ℕ) (p : PlainStore) → new.group.images ≡ old.group.images
    → ((committed : GroupValue D) → IsUnderWay told committed old.group → IsUnderWay told committed new.group) → OpensBut told old h p → OpensBut told new h p
opens_still told old new h p images under opens = record {
  gone = opens.gone;
  store = opens.store;
  head = opens.head;
  committed = opens.committed;
  under_way = under opens.store.group opens.under_way;
  left = λ set v is. opens.left set v (subst (λ (i : List (List ℕ)). is_among set (sets_in (slice_get i v)) ≡ true) images is);
}

-- ## the third pass

-- what is wanted is what the device tells of the marked blocks, and of the others what is there
pub same_wanted : (p : PlainStore) (aim : Aim) (a b : IsReady p aim) → a.wanted ≡ b.wanted
same_wanted p aim a b = same_lists a.wanted b.wanted (a.ready.as_many ∙ sym b.ready.as_many)
    (λ k x y at there. same_Some x y (sym at ∙ by_mark k (slice_get_inside aim.differs k (within k x at)) ∙ there))
  where
    within : (k : ℕ) (x : List ℕ) → slice_get a.wanted k ≡ Some x → k < length aim.differs
    within k x at = (let l = slice_get_within a.wanted k x at in let as_many = a.ready.as_many in let marks = a.ready.marks in omega arith)

    by_mark : (k : ℕ) → (m : Bool) × (slice_get aim.differs k ≡ Some m) → slice_get a.wanted k ≡ slice_get b.wanted k
    by_mark k m = grind (arith, same_Some)

-- one volume
pub job_written : {D E F : Type 0} (told : D → Option (List (List ℕ))) (old new : StoreValue D) (t : Option (List (List ℕ))) (aim : Aim) (list : List Evicted)
    (r : Result Pass E) (done : Result Unit F) → AllImages old.group → aim.volume < length old.group.area.volumes → OnOk done (r ≡ Ok Done)
    → t ≡ aim.told → length aim.differs ≡ blocks_at old.group aim.volume
    → ((wanted : List (List ℕ)) (p : PlainStore) → Gives t aim.differs wanted → StandsAs told old p
    → AreReady aim.differs wanted (plain_at p aim.volume).blocks 0
    → IsOverwriting told new p aim.volume aim.differs wanted list r)
    → (AreCopied old.group aim.volume aim.differs 0 (blocks_at old.group aim.volume) → IsAreaLeft told old.group new.group r)
    → ((c : GroupValue D) (wanted : List (List ℕ)) (p : PlainStore) → Gives t aim.differs wanted → StandsAs told old p
    → AreReady aim.differs wanted (plain_at p aim.volume).blocks 0
    → HasCopiesOf c old.group → AreCopied c aim.volume aim.differs 0 (blocks_at old.group aim.volume) → IsUnderWay told c old.group
    → IsUnderWay told c new.group)
    → IsOverwrite told aim old new done
job_written {D = D} {E = E} told old new t aim list r done are inside whole tells marks written area under committed p ready copied held =
    by_result r (written ready.wanted p gives held.stands ready.ready) (area here) whole
  where
    gives : Gives t aim.differs ready.wanted
    gives = subst (λ x. Gives x aim.differs ready.wanted) (sym tells) ready.gives

    there : AreCopied committed aim.volume aim.differs 0 (blocks_at old.group aim.volume)
    there = subst (λ n. AreCopied committed aim.volume aim.differs 0 n) marks copied

    here : AreCopied old.group aim.volume aim.differs 0 (blocks_at old.group aim.volume)
    here = copied_kept committed old.group aim.volume aim.differs 0 (blocks_at old.group aim.volume)
        (subst (λ (i : List (List ℕ)). AreImages (sets_in (slice_get i aim.volume))) held.copies.images (images_at old.group aim.volume are)) held.copies there

    on : IsUnderWay told committed new.group
    on = under committed ready.wanted p gives held.stands ready.ready held.copies there held.under_way

    here_is : aim.volume < length p.volumes
    here_is = (let many = as_many_plains told old.group p.volumes held.stands.group in omega arith)

    made : (blocks : List (List ℕ)) → IsAreaSame told old.group new.group → StandsAs told new (changed (aim.volume ∷ []) (with_blocks blocks) p)
        → OnOk done (blocks ≡ ready.wanted) → IsWritten told committed new p aim done
    made blocks same stands all = record {
      later = changed (aim.volume ∷ []) (with_blocks blocks) p;
      held = record {
        stands = stands;
        copies = copies_then committed old.group new.group held.copies
            (area_kept told old.group new.group same).copies;
        under_way = on;
      };
      others = λ u other. ap (λ (q : Plain). q.blocks) (other_volume p.volumes aim.volume u (with_blocks blocks) other);
      brought = ok_then done all (λ is again. ap (λ (q : Plain). q.blocks) (volume_on p.volumes aim.volume (with_blocks blocks) here_is)
          ∙ is ∙ same_wanted p aim ready again);
    }

    by_result : (r : Result Pass E) → IsOverwriting told new p aim.volume aim.differs ready.wanted list r → IsAreaLeft told old.group new.group r
        → OnOk done (r ≡ Ok Done) → IsWritten told committed new p aim done
    by_result (Ok Done) is left all = made ready.wanted left is.1 (ok_then done all (λ e. refl))
    by_result (Ok (Stopped at up_to)) is left all = absurd left
    by_result (Err failed) is left all = made is.0 left is.2 (ok_then done all (λ e. absurd (cc)))

-- the first volumes have what was wanted of them, and no other was written
pub record AreWritten {D : Type 0} (told : D → Option (List (List ℕ))) (aims : List Aim) (committed : GroupValue D) (now : StoreValue D) (p : PlainStore)
    (from : ℕ) : Type 0 where
  pub later : PlainStore
  pub held : IsHeld told committed now later
  pub brought : (k : ℕ) (aim : Aim) → k < from → slice_get aims k ≡ Some aim → IsBrought p later aim
  pub others : (u : ℕ) → ((k : ℕ) (aim : Aim) → k < from → slice_get aims k ≡ Some aim → u ≢ aim.volume) → (plain_at later u).blocks ≡ (plain_at p u).blocks

pub written_none : {D : Type 0} (told : D → Option (List (List ℕ))) (aims : List Aim) (committed : GroupValue D) (now : StoreValue D) (p : PlainStore)
    → IsHeld told committed now p → AreWritten told aims committed now p 0
written_none told aims committed now p held = record { later = p; held = held; brought = λ k aim low. absurd (omega arith); others = λ u none. refl }

-- the next one was not
kept_for : {D : Type 0} (told : D → Option (List (List ℕ))) (aims : List Aim) (committed : GroupValue D) (now : StoreValue D) (p : PlainStore) (k : ℕ)
    (aim : Aim)
    → AreApart aims → slice_get aims k ≡ Some aim → (written : AreWritten told aims committed now p k)
    → (plain_at written.later aim.volume).blocks ≡ (plain_at p aim.volume).blocks
kept_for told aims committed now p k aim apart at written = written.others aim.volume (λ m other low there e. apart m k other aim low there at (sym e))

-- it is gone on with
pub written_at : {D E : Type 0} (told : D → Option (List (List ℕ))) (aims : List Aim) (committed : GroupValue D) (now next : StoreValue D) (p : PlainStore)
    (k : ℕ) (aim : Aim) (done : Result Unit E) → AreApart aims → OfEach (IsReady p) aims → OfEach (IsCopied committed) aims → slice_get aims k ≡ Some aim
    → IsOverwrite told aim now next done
    → (written : AreWritten told aims committed now p k) → IsWritten told committed next written.later aim done
written_at told aims committed now next p k aim done apart ready copied at call written = call committed written.later
    (ready_on p written.later aim (kept_for told aims committed now p k aim apart at written) (ready k aim at)) (copied k aim at) written.held

-- and it has what was wanted of it
pub written_next : {D E : Type 0} (told : D → Option (List (List ℕ))) (aims : List Aim) (committed : GroupValue D) (now next : StoreValue D)
    (p : PlainStore) (k : ℕ) (aim : Aim) (done : Unit {0}) → AreApart aims → slice_get aims k ≡ Some aim → (written : AreWritten told aims committed now p k)
    → (one : IsWritten {E = E} told committed next written.later aim (Ok done)) → AreWritten told aims committed next p (k + 1)
unfolding ready_on
written_next told aims committed now next p k aim done apart at written one = record {
  later = one.later;
  held = one.held;
  brought = λ m other low there. elim (at_or_below m k low) [
    | inl here ↦ subst (IsBrought p one.later) (same_Some aim other (sym at ∙ ap (slice_get aims) (sym here) ∙ there))
        (λ ready. one.brought (ready_on p written.later aim (kept_for told aims committed now p k aim apart at written) ready))
    | inr below ↦ λ ready. one.others other.volume (apart m k other aim below there at) ∙ written.brought m other below there ready
  ];
  others = λ u none. one.others u (none k aim (omega arith) at) ∙ written.others u (λ m other low there. none m other (omega arith) there);
}

pub written_all : {D : Type 0} (E : Type 0) (told : D → Option (List (List ℕ))) (aims : List Aim) (committed : GroupValue D) (now : StoreValue D)
    (p : PlainStore) (from : ℕ)
    → length aims ≤ from → AreWritten told aims committed now p from → AreAllWritten {E = E} told aims committed now p (Ok tt)
written_all E told aims committed now p from end written = (
  record {
    later = written.later;
    stands = written.held.stands;
    each = λ k aim at. written.brought k aim (let l = slice_get_within aims k aim at in omega arith) at;
    others = λ u none. written.others u (λ k aim low at. none k aim at);
  },
  written.held,
)

-- what is held, whether or not a device failed
held_now : {D E : Type 0} (told : D → Option (List (List ℕ))) (aims : List Aim) (committed : GroupValue D) (now : StoreValue D) (p : PlainStore)
    (r : Result Unit E)
    → AreAllWritten told aims committed now p r → (later : PlainStore) × IsHeld told committed now later
held_now told aims committed now p (Ok done) all = (all.0.later, all.1)
held_now told aims committed now p (Err failed) all = all

pub overwrite_opens : {D E : Type 0} (told : D → Option (List (List ℕ))) (aims : List Aim) (old new : StoreValue D) (h : List ℕ) (p : PlainStore)
    (r : Result Unit E) → AreOverwritten told aims old new r
    → CoversBut told aims old h p → OpensBut told new h p
overwrite_opens told aims old new h p r call covers =
    let opens = covers.holds.opens in
    let one = held_now told aims opens.store.group new (without covers.here.gone p) r
    (call opens.store.group (without covers.here.gone p) covers.apart covers.here.ready covers.copied
    (record { stands = covers.here.stands; copies = covers.holds.copies; under_way = opens.under_way })) in
    record {
      gone = opens.gone;
      store = opens.store;
      head = opens.head;
      committed = opens.committed;
      under_way = one.1.under_way;
      left = λ set v is. grind arith;
    }

-- the volumes have what was wanted of them
pub overwrite_brings : {D E I : Type 0} (told : D → Option (List (List ℕ))) (told_in : I → Option (List (List ℕ))) (jobs : List (Job I))
    (old new : StoreValue D) (r : Result Unit E) → AreOverwritten told (aims_of told_in jobs) old new r
    → OnOk r ((p : PlainStore) → AreCopiedSoFar old.group jobs → AreApart (aims_of told_in jobs) × AreAtTheirEnd jobs
    → MayOverwrite told (aims_of told_in jobs) old p → AreBrought told (aims_of told_in jobs) new p)
unfolding ready_on
overwrite_brings told told_in jobs old new (Ok done) call = λ p so_far copied may.
    let one = (call old.group (without may.gone p) copied.0 may.ready (all_copied told_in old.group old.group jobs refl refl so_far copied.1)
    (record { stands = may.stands; copies = copies_all old.group; under_way = begun told old.group })).0 in
    record {
      later = one.later;
      stands = one.stands;
      each = λ k aim at ready. one.each k aim at (ready_on p (without may.gone p) aim (without_blocks may.gone p aim.volume) ready);
      others = λ u none. one.others u none ∙ without_blocks may.gone p u;
    }
overwrite_brings told told_in jobs old new (Err failed) call = tt

-- where what the store stands for is as it was
pub brought_still : {D : Type 0} (told : D → Option (List (List ℕ))) (aims : List Aim) (old new : StoreValue D) (p : PlainStore) → StandsStill told old new
    → AreBrought told aims old p → AreBrought told aims new p
brought_still told aims old new p still was = record { later = was.later; stands = still was.later was.stands; each = was.each; others = was.others }

-- ## as a call begins

pub starts : {D : Type 0} (told : D → Option (List (List ℕ))) (s : StoreValue D) (h : List ℕ) (p : PlainStore) → IsHeadOf told s h → StandsAs told s p
    → HoldsBut told s h p
starts told s h p is stands = record {
  opens = record { gone = []; store = s; head = is.0; committed = is.1 p stands; under_way = begun told s.group; left = λ set v among. refl };
  copies = copies_all s.group;
  here = record { gone = []; stands = stands };
}

pub may_begin : {D : Type 0} (told : D → Option (List (List ℕ))) (aims : List Aim) (s : StoreValue D) (p : PlainStore) → StandsAs told s p
    → OfEach (IsReady p) aims → MayOverwrite told aims s p
may_begin told aims s p stands ready = record { gone = []; none = λ e. refl; stands = stands; ready = ready }

-- a head from before a call that left the disk as it was
pub before_opens : {D : Type 0} (told : D → Option (List (List ℕ))) (before now : StoreValue D) (h : List ℕ) (p : PlainStore) → IsHeadOf told before h
    → IsUnderWay told before.group now.group
    → StandsAs told before p → OpensBut told now h p
before_opens told before now h p is under
    stands = record { gone = []; store = before; head = is.0; committed = is.1 p stands; under_way = under; left = λ set v among. refl }

-- ## what is found

pub found_but : {D : Type 0} (told : D → Option (List (List ℕ))) (now : StoreValue D) (p : PlainStore) (h : List ℕ) → OpensBut told now h p
    → FoundBut told now p h
found_but told now p h opens = record {
  kept = without opens.gone p;
  store = opens.store;
  head = opens.head;
  opens = λ found area are. opens_found told opens.store.group now.group opens.store.names opens.store.last
      (without opens.gone p) found area opens.committed opens.under_way are;
  images = opens.left;
  others = without_image opens.gone p;
}

-- ## the volumes are flushed, one after another

pub record AreFlushed {D : Type 0} (ghosts : Ghosts D) (k : ℕ) (old now : StoreValue D) : Type 0 where
  pub volumes : now.group.area.volumes ≡ old.group.area.volumes
  pub images : now.group.images ≡ old.group.images
  pub under_way : IsStillUnderWay ghosts.told old.group now.group
  pub still : StandsStill ghosts.told old now
  pub last : (v : ℕ) (d : D) → v < k → slice_get now.group.devices v ≡ Some d → ghosts.lasting d ≡ ghosts.told d

-- ## the jobs, one after another

pub further_of : {D E : Type 0} (told : D → Option (List (List ℕ))) (old new : StoreValue D) (r : Result Copied E) → IsCopyPass told old new r
    → IsFurther told old new
further_of told old new (Ok UntilEvicted) pass = pass
further_of told old new _ pass = pass.further

-- the next job is gone on with: what is copied of all jobs is still
pub so_far_next : {D I : Type 0} (told : D → Option (List (List ℕ))) (told_in : I → Option (List (List ℕ))) (now next : StoreValue D) (k : ℕ)
    (jobs : List (Job I)) (before later : Job I)
    → slice_get jobs k ≡ Some before → aim_of told_in later ≡ aim_of told_in before → IsFurther told now next
    → (AreCopied now.group before.volume before.differs.items 0 before.at → AreCopied next.group before.volume before.differs.items 0 later.at)
    → AreCopiedSoFar now.group jobs → AreCopiedSoFar next.group (slice_set jobs k later)
so_far_next {I = I} told told_in now next k jobs before later at same further own had = λ j job there. elim (same_or_other j k) [
  | inl here ↦ (
      let is : later ≡ job = grind (arith, same_Some, slice_get-set_same) in
      let of_later : AreCopied next.group later.volume later.differs.items 0 later.at = grind arith in
      subst (λ (x : Job I). AreCopied next.group x.volume x.differs.items 0 x.at) is of_later
      )
  | inr other ↦ further.copied job.volume job.at job.differs.items (had j job (sym (slice_get-set_other jobs k j later (λ e. other (sym e))) ∙ there))
]

-- and it is at its end
pub ends_next : {I : Type 0} (k : ℕ) (jobs : List (Job I)) (before later : Job I) → slice_get jobs k ≡ Some before → length later.differs.items ≤ later.at
    → ((j : ℕ) (job : Job I) → j < k → slice_get jobs j ≡ Some job → length job.differs.items ≤ job.at)
    → (j : ℕ) (job : Job I) → j < k + 1 → slice_get (slice_set jobs k later) j ≡ Some job → length job.differs.items ≤ job.at
ends_next {I = I} k jobs before later at own had j job low there = elim (at_or_below j k low) [
  | inl here ↦ (
      let is : later ≡ job = grind (arith, same_Some, slice_get-set_same) in
      subst (λ (x : Job I). length x.differs.items ≤ x.at) is own
      )
  | inr below ↦ had j job below (sym (slice_get-set_other jobs k j later (λ e. absurd (omega (arith, e)))) ∙ there)
]

-- a part of a job, and the rest
pub part_next : {D : Type 0} (told : D → Option (List (List ℕ))) (old new : StoreValue D) (v from to : ℕ) (differs : List Bool) → IsFurther told old new
    → AreCopied new.group v differs from to
    → AreCopied old.group v differs 0 from → AreCopied new.group v differs 0 to
part_next told old new v from to differs further copied had = copied_join new.group v from to differs (further.copied v from differs had) copied

-- from the begin of a job, over a part
pub part_then : {D I : Type 0} (told_in : I → Option (List (List ℕ))) (old now next : GroupValue D) (first before : Job I) (at : ℕ)
    → aim_of told_in before ≡ aim_of told_in first
    → (AreCopied now before.volume before.differs.items 0 before.at → AreCopied next before.volume before.differs.items 0 at)
    → (AreCopied old first.volume first.differs.items 0 first.at → AreCopied now first.volume first.differs.items 0 before.at)
    → AreCopied old first.volume first.differs.items 0 first.at → AreCopied next first.volume first.differs.items 0 at
part_then told_in old now next first before at same step until had = subst (λ (a : Aim). AreCopied next a.volume a.differs 0 at) same
    (step (subst (λ (a : Aim). AreCopied now a.volume a.differs 0 before.at) (sym same) (until had)))

-- ## the pass of copying over all jobs

pub copy_stands : {D I E : Type 0} (told : D → Option (List (List ℕ))) (told_in : I → Option (List (List ℕ))) (old new : StoreValue D)
    (old_jobs jobs : List (Job I)) (r : Result Copied E)
    → aims_of told_in jobs ≡ aims_of told_in old_jobs → IsCopyPass told old new r → IfOk r (λ copied. copied ≡ UntilEvicted → old_jobs ≢ []) → (p : PlainStore)
    → MayOverwrite told (aims_of told_in old_jobs) old p → MayOverwrite told (aims_of told_in jobs) new p
copy_stands {I = I} {E = E} told told_in old new old_jobs jobs r aims pass some p may = subst (λ (list : List Aim). MayOverwrite told list new p) (sym aims)
    (by_result r pass some) where
      no_aims : (xs : List (Job I)) → xs ≢ [] → aims_of told_in xs ≢ []
      no_aims [] h = λ e. h refl
      no_aims (x ∷ xs) h = λ e. cc

      by_result : (r : Result Copied E) → IsCopyPass told old new r → IfOk r (λ copied. copied ≡ UntilEvicted → old_jobs ≢ [])
          → MayOverwrite told (aims_of told_in old_jobs) new p
      by_result (Ok Whole) more there = may_more told (aims_of told_in old_jobs) old new p more.still may
      by_result (Ok UntilEvicted) further there = may_on told (aims_of told_in old_jobs) old new p further (no_aims old_jobs (there refl)) may
      by_result (Err failed) more there = may_more told (aims_of told_in old_jobs) old new p more.still may

-- ## a call that brings no volume to anything

pub none_stands : {D I : Type 0} (told : D → Option (List (List ℕ))) (told_in : I → Option (List (List ℕ))) (s : StoreValue D) (jobs : List (Job I)) → jobs ≡ []
    → AreCopiedSoFar s.group jobs × ((p : PlainStore) → StandsAs told s p → MayOverwrite told (aims_of told_in jobs) s p)
none_stands told told_in s [] none = (λ k job at. cc, λ p stands. may_begin told [] s p stands (λ k aim at. cc))
none_stands told told_in s (job ∷ jobs) none = absurd (cc)

pub none_gone : {D : Type 0} (told : D → Option (List (List ℕ))) (aims : List Aim) (s : StoreValue D) (p : PlainStore) → aims ≡ [] → MayOverwrite told aims s p
    → StandsAs told s p
none_gone told aims s p none may = subst (λ (gone : List ℕ). StandsAs told s (without gone p)) (may.none none) may.stands

-- the list behind a vector, once each job was gone on with
pub over_all : {I : Type 0} (told : I → Option (List (List ℕ))) (len : ℕ) (new old : List (Job I)) → len ≡ length old → aims_of told new ≡ aims_of told old
    → take len (new ++ drop (length new) old) ≡ new
over_all told len new old many aims =
    let same : len ≡ length new = many ∙ sym (length-map old (aim_of told)) ∙ ap length (sym aims) ∙ length-map new (aim_of told) in
    ap (λ (n : ℕ). take n (new ++ drop (length new) old)) same ∙ take-append_seam new (drop (length new) old)
