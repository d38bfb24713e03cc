-- How many blocks are stale, as blocks are marked, unmarked and brought into step; and sets among others, as one comes or goes.
use Rattle.std.proofs.Common.{◌≡◌, ◌≢◌, ℕ, ◌<◌, List, [], ◌∷◌, ◌++◌, refl, ap, ◌∙◌, arith, Bool, true, false, zero, suc, ◌+◌, ◌-◌, ◌^◌, ◌≤◌, length, replicate}
use Rattle.std.proofs.Common.{sym, Option, Some, get_or, subst, None}
use Rattle.std.proofs.lemmas.Bool.Decides.{nat_tests}
use Rattle.std.proofs.lemmas.Grind.{common_steps}
use Rattle.std.proofs.lemmas.List.{length-replicate}
use Rattle.std.proofs.lemmas.List.Elements.{All-head, All-tail}
use Rattle.std.proofs.lemmas.List.Sums.{count_by-le-length, sum_by-cons}
use Rattle.std.proofs.lemmas.Option.{same_Some}
use Rattle.std.specs.Prelude.{◌⊎◌, ◌==◌, ◌||◌, not, filter, All, slice_get, slice_set, count_by, if◌then◌else◌, IsTrue, IsNone, IfSome, ◌↔◌, sum, map, Result}
use Rattle.std.specs.Prelude.{Ok, Err}
use Rattle.slot_pool.specs.Slots.{IsTaken, IsLowestFree, free_count}
use Rattle.volume_device.specs.declared.device.Device.{Ghosts}
use Rattle.write_history.specs.History.{Image, sets_of, after_set}
use Rattle.cow_volume.specs.Calls.{is_among}
use Rattle.cow_volume.specs.declared.image_fault.ImageFault.TheVariants.{NoSuchImage, NoSuchBlock, Volume as VolumeFailed, Area as AreaFailed}
use Rattle.cow_volume.proofs.Group.{same_number, other_number, number_is, number_is_other, slice_get_inside, slice_get-set_same, slice_get-set_other}
use Rattle.cow_volume.proofs.Group.{length-slice_set}
use Rattle.mirror_volume.specs.MirrorCalls.{IsCalled, IsQuietOn}
use Rattle.mirror_volume.specs.Mirrors.{MirrorValue}
use Rattle.mirror_volume.specs.Resync.{IsStep, IsSynced, Call, IsCall, AreCalls, Step, Read, ImageRead, Cut, Drop, Flush, MirrorFlush, Sync, copied_by}
use Rattle.mirror_volume.specs.Resync.{copied_on, stale_in, stale_at}
use Rattle.mirror_volume.specs.Stale.{IsInStep, stale_count, HoldsStale, KeepsStale}
use Rattle.mirror_volume.specs.declared.mirror.Mirror.{Mirror}
use Rattle.mirror_volume.specs.declared.sync_fault.SyncFault.{SyncFault}
use Rattle.mirror_volume.specs.declared.synced.Synced.{Synced}

-- ## Sets among others, as one comes or goes.

pub among_more : (s set : ℕ) (images : List ℕ) → is_among s images ≡ true → is_among s (images ++ set ∷ []) ≡ true
among_more s set images is = grind (arith, common_steps)

pub among_last : (set : ℕ) (images : List ℕ) → is_among set (images ++ set ∷ []) ≡ true
among_last set images = grind (arith, common_steps, number_is)

-- of one more, it is that or one of the others
pub among_of_more : (s set : ℕ) (images : List ℕ) → is_among s (images ++ set ∷ []) ≡ true → (s ≡ set) ⊎ (is_among s images ≡ true)
among_of_more s set images is = grind (arith, common_steps, same_number)

pub among_without : (s set : ℕ) (images : List ℕ) → s ≢ set → is_among s images ≡ true → is_among s (filter (λ x. not (x == set)) images) ≡ true
among_without s set [] other is = cc
among_without s set (i ∷ images) other is = grind (arith, common_steps, same_number, among_without s set images other)

pub among_was : (s set : ℕ) (images : List ℕ) → is_among s (filter (λ x. not (x == set)) images) ≡ true → (s ≢ set) × (is_among s images ≡ true)
among_was s set [] is = cc
among_was s set (i ∷ images) is = grind (arith, common_steps, other_number, same_number, among_was s set images)

pub not_below : (set : ℕ) (images : List ℕ) → All (λ s. s < set) images → is_among set images ≡ false
not_below set [] below = refl
not_below set (i ∷ images) below =
    let low : i < set = All-head (λ s. s < set) i images below in
    ap (λ (t : Bool). t || is_among set images) (number_is_other i set (λ e. absurd (omega arith))) ∙ not_below set images (All-tail (λ s. s < set) i images below)

-- where each set is above 0, no image is of set 0
pub none_gone : (images : List Image) → ((set : ℕ) → is_among set (sets_of images) ≡ true → 0 < set) → after_set 0 images ≡ images
none_gone [] above = refl
none_gone (i ∷ images) above = grind (arith, common_steps, none_gone images, number_is i.set)

-- ## How many blocks are stale, as blocks are marked and unmarked.

pub count-cons : {X : Type 0} → (p : X → Bool) (x : X) (xs : List X) → count_by p (x ∷ xs) ≡ (if p x then 1 else 0) + count_by p xs
count-cons p x xs = sum_by-cons (λ y. if p y then 1 else 0) x xs

pub stale-true : (xs : List Bool) → stale_count (true ∷ xs) ≡ stale_count xs + 1
stale-true xs = let first : stale_count (true ∷ xs) ≡ 1 + stale_count xs = count-cons (λ x. x) true xs in omega arith

pub stale-false : (xs : List Bool) → stale_count (false ∷ xs) ≡ stale_count xs
stale-false xs = let first : stale_count (false ∷ xs) ≡ 0 + stale_count xs = count-cons (λ x. x) false xs in omega arith

-- a block more
pub count-marked : (xs : List Bool) (i : ℕ) → slice_get xs i ≡ Some false → stale_count (slice_set xs i true) ≡ stale_count xs + 1
count-marked [] i h = cc
count-marked (true ∷ xs) zero h = cc
count-marked (false ∷ xs) zero h = stale-true xs ∙ ap (λ n. n + 1) (sym (stale-false xs))
count-marked (true ∷ xs) (suc i) h = stale-true (slice_set xs i true) ∙ ap (λ n. n + 1) (count-marked xs i h ∙ sym (stale-true xs))
count-marked (false ∷ xs) (suc i) h = stale-false (slice_set xs i true) ∙ count-marked xs i h ∙ ap (λ n. n + 1) (sym (stale-false xs))

-- a block fewer
pub count-unmarked : (xs : List Bool) (i : ℕ) → slice_get xs i ≡ Some true → stale_count xs ≡ stale_count (slice_set xs i false) + 1
count-unmarked [] i h = cc
count-unmarked (false ∷ xs) zero h = cc
count-unmarked (true ∷ xs) zero h = stale-true xs ∙ ap (λ n. n + 1) (sym (stale-false xs))
count-unmarked (true ∷ xs) (suc i) h = stale-true xs ∙ ap (λ n. n + 1) (count-unmarked xs i h ∙ sym (stale-true (slice_set xs i false)))
count-unmarked (false ∷ xs) (suc i) h = stale-false xs ∙ count-unmarked xs i h ∙ ap (λ n. n + 1) (sym (stale-false (slice_set xs i false)))

-- a block that is not stale is none fewer
pub fewer_stale : (xs : List Bool) (i : ℕ) → stale_count (slice_set xs i false) ≤ stale_count xs
fewer_stale [] i = omega arith
fewer_stale (true ∷ xs) zero = let a = stale-true xs in let b = stale-false xs in omega arith
fewer_stale (false ∷ xs) zero = omega arith
fewer_stale (true ∷ xs) (suc i) = let a = stale-true xs in let b = stale-true (slice_set xs i false) in let rest = fewer_stale xs i in omega arith
fewer_stale (false ∷ xs) (suc i) = let a = stale-false xs in let b = stale-false (slice_set xs i false) in let rest = fewer_stale xs i in omega arith

pub count_most : (xs : List Bool) → stale_count xs ≤ length xs
count_most xs = count_by-le-length (λ x. x) xs

pub count-none : (n : ℕ) → stale_count (replicate n false) ≡ 0
count-none n = grind (arith, common_steps, stale-false)

-- a stale block is counted
pub count_some : (xs : List Bool) (i : ℕ) → slice_get xs i ≡ Some true → 0 < stale_count xs
count_some xs i h = let one = count-unmarked xs i h in omega arith

-- where none is stale, none is counted
pub count_zero : (xs : List Bool) → ((i : ℕ) → slice_get xs i ≡ Some true → ⊥) → stale_count xs ≡ 0
count_zero [] none = refl
count_zero (true ∷ xs) none = absurd (none 0 refl)
count_zero (false ∷ xs) none = stale-false xs ∙ count_zero xs (λ i. none (suc i))

-- where none is counted, each block is in step
pub in_step_all : (xs : List Bool) (i : ℕ) → stale_count xs ≡ 0 → i < length xs → IsInStep xs i
in_step_all xs i none within = grind (arith, common_steps, nat_tests, count_some, slice_get_inside xs i within)

pub none_of_replicate : (n i : ℕ) → slice_get (replicate n false) i ≡ Some true → ⊥
none_of_replicate zero i h = cc
none_of_replicate (suc n) zero h = cc
none_of_replicate (suc n) (suc i) h = none_of_replicate n i h

-- a block that is not stale leaves room for one more
pub count_few : (xs : List Bool) (i : ℕ) → slice_get xs i ≡ Some false → stale_count xs < length xs
count_few xs i at = grind (arith, common_steps, count-marked xs i, count_most (slice_set xs i true), length-slice_set xs i true)

-- ## what is kept

-- the queue of a mirror has all its blocks
pub keeps_new : (n : ℕ) → n < 2 ^ 32 → KeepsStale (replicate n false) (replicate n true) 0
keeps_new n low = grind (arith, length-replicate, none_of_replicate, count-none)

count-all : (n : ℕ) → stale_count (replicate n true) ≡ n
count-all n = grind (arith, common_steps, stale-true)

pub keeps_stale : (n : ℕ) → n < 2 ^ 32 → KeepsStale (replicate n true) (replicate n true) n
keeps_stale n low = grind (arith, count-all, length-replicate)

-- all blocks are stale, or none
pub keeps_of : (stale : Bool) (n : ℕ) → n < 2 ^ 32 → KeepsStale (replicate n stale) (replicate n true) (if stale then n else 0)
keeps_of true n low = keeps_stale n low
keeps_of false n low = keeps_new n low

-- a block that stands in the queue already is marked
pub keeps_marked : (stale queue : List Bool) (count b : ℕ) → KeepsStale stale queue count → slice_get stale b ≡ Some false → slice_get queue b ≡ Some true
    → KeepsStale (slice_set stale b true) queue (count + 1)
keeps_marked stale queue count b keeps at queued = grind (arith, length-slice_set, count-marked, same_number, slice_get-set_other, other_number)

-- or it is put there
pub keeps_queued : (stale queue : List Bool) (count b : ℕ) → KeepsStale stale queue count → slice_get stale b ≡ Some false → slice_get queue b ≡ Some false
    → KeepsStale (slice_set stale b true) (slice_set queue b true) (count + 1)
keeps_queued stale queue count b keeps at free = grind (arith, length-slice_set, count-marked, same_number, slice_get-set_same, slice_get-set_other, other_number)

-- a block is unmarked, and may stand in the queue still
pub keeps_unmarked : (stale queue : List Bool) (count b : ℕ) → KeepsStale stale queue count → slice_get stale b ≡ Some true → KeepsStale (slice_set stale b false) queue (count - 1)
keeps_unmarked stale queue count b keeps at = grind (arith, length-slice_set, count-unmarked, same_number, slice_get-set_same, slice_get-set_other, other_number)

-- the lowest of the queue, which is not stale, is taken out
pub taken_out : (stale queue : List Bool) (b : ℕ) → HoldsStale stale queue → slice_get stale b ≡ Some false → HoldsStale stale (slice_set queue b false)
taken_out stale queue b holds at = grind (arith, length-slice_set, same_number, slice_get-set_other, other_number)

-- where the queue is empty, no block is stale
pub none_left : (stale queue : List Bool) → HoldsStale stale queue → stale_count queue ≡ 0 → stale_count stale ≡ 0
none_left stale queue holds none = count_zero stale (λ i at. let some = count_some queue i (holds.queued i at) in absurd (omega arith))

-- ## places

pub bool_at : (xs : List Bool) (i : ℕ) (d x : Bool) → i < length xs → get_or xs i d ≡ x → slice_get xs i ≡ Some x
bool_at [] i d x l is = absurd (omega arith)
bool_at (y ∷ xs) zero d x l is = ap Some is
bool_at (y ∷ xs) (suc i) d x l is = bool_at xs i d x (omega arith) is

pub is_taken_of : (result : Bool) (queue : List Bool) (b : ℕ) → (IsTrue result ↔ IsTaken queue b) → result ≡ true → slice_get queue b ≡ Some false
is_taken_of result queue b iff e = iff.0 e

pub is_free_of : (result : Bool) (queue : List Bool) (b : ℕ) → (IsTrue result ↔ IsTaken queue b) → b < length queue → result ≡ false → slice_get queue b ≡ Some true
is_free_of result queue b iff within e = grind (arith, common_steps, slice_get_inside queue b within)

-- what is taken out of the queue is its lowest
pub taken_lowest : (queue new : List Bool) (block : ℕ) (result : Option ℕ) → IsLowestFree queue block → IfSome result (IsLowestFree queue) → IfSome result (λ slot. new ≡ slice_set queue slot false)
    → (IsNone result ↔ (free_count queue ≡ 0))
    → new ≡ slice_set queue block false
taken_lowest queue new block result lowest also is iff = grind (arith, count_some)

-- ## A mirror that is brought into step, block after block.

step_fewer : {D : Type 0} → (ghosts : Ghosts D) (primary now : D) (old new : Mirror D) (result : Result Synced SyncFault)
    → IsStep ghosts primary now old new result
    → stale_count new.stale + copied_by result ≡ stale_count old.stale
step_fewer ghosts primary now old new result step = grind (arith, count-unmarked)

one_fewer : {D : Type 0} → (ghosts : Ghosts D) (old new : MirrorValue D) (k : ℕ) (result : Result Synced SyncFault) → IsSynced ghosts old new k result
    → stale_at new k + copied_by result ≡ stale_at old k
one_fewer ghosts old new k result is = grind (arith, slice_get-set_same, step_fewer)

-- ## calls between

-- a mirror of as many stale blocks is in the place of one
as_stale : {D : Type 0} → (ms : List (Mirror D)) (j k : ℕ) (m n : Mirror D) → slice_get ms j ≡ Some m → n.stale ≡ m.stale → stale_in (slice_get (slice_set ms j n) k) ≡ stale_in (slice_get ms k)
as_stale [] j k m n at same = refl
as_stale (x ∷ ms) zero zero m n at same = ap stale_count same ∙ ap (λ (y : Mirror _). stale_count y.stale) (sym (same_Some x m at))
as_stale (x ∷ ms) zero (suc k) m n at same = refl
as_stale (x ∷ ms) (suc j) zero m n at same = refl
as_stale (x ∷ ms) (suc j) (suc k) m n at same = as_stale ms j k m n at same

-- mirrors whose devices alone were called have as many
as_called : {D : Type 0} → (ghosts : Ghosts D) (ms ns : List (Mirror D)) (k : ℕ) → length ns ≡ length ms
    → ((j : ℕ) (m n : Mirror D) → slice_get ms j ≡ Some m → slice_get ns j ≡ Some n → IsCalled ghosts m n) → stale_in (slice_get ns k) ≡ stale_in (slice_get ms k)
as_called ghosts [] [] k long each = refl
as_called ghosts [] (n ∷ ns) k long each = absurd (omega arith)
as_called ghosts (m ∷ ms) [] k long each = absurd (omega arith)
as_called ghosts (m ∷ ms) (n ∷ ns) zero long each = ap stale_count (each 0 m n refl refl).stale
as_called ghosts (m ∷ ms) (n ∷ ns) (suc k) long each = as_called ghosts ms ns k (omega arith) (λ j a b at also. each (suc j) a b at also)

module _ {D : Type 0} (ghosts : Ghosts D) (k : ℕ) where
  -- by the mirrors of the two states
  by_mirrors : (old new : MirrorValue D) (ms : List (Mirror D)) → new.mirrors ≡ ms → stale_in (slice_get ms k) ≡ stale_at old k → stale_at new k + 0 ≡ stale_at old k
  by_mirrors old new ms is same = let now = ap (λ (xs : List (Mirror D)). stale_in (slice_get xs k)) is in omega arith

  unchanged : (old new : MirrorValue D) → new.mirrors ≡ old.mirrors → stale_at new k + 0 ≡ stale_at old k
  unchanged old new same = by_mirrors old new old.mirrors same refl

  nothing : (old new : MirrorValue D) → new ≡ old → stale_at new k + 0 ≡ stale_at old k
  nothing old new same = unchanged old new (ap (λ (v : MirrorValue D). v.mirrors) same)

  quiet_on : (old new : MirrorValue D) (j : ℕ) (m : Mirror D) → IsQuietOn ghosts old new j m → stale_at new k + 0 ≡ stale_at old k
  quiet_on old new j m is = grind (arith, by_mirrors, as_stale)

  -- a call leaves fewer stale blocks by those that it copied
  call_fewer : (old new : MirrorValue D) (call : Call) → IsCall ghosts old call new → stale_at new k + copied_on k call ≡ stale_at old k
  call_fewer old new (Step j answer) is = by_test (j == k) refl where
    by_test : (t : Bool) → (j == k) ≡ t → stale_at new k + (if t then copied_by answer else 0) ≡ stale_at old k
    by_test true e = let P : ℕ → Type 0 = λ i. stale_at new i + copied_by answer ≡ stale_at old i in subst P (same_number j k e) (one_fewer ghosts old new j answer is)
    by_test false e = by_mirrors old new (slice_set old.mirrors j is.after) is.mirrors (ap stale_in (slice_get-set_other old.mirrors j k is.after (other_number j k e)))
  call_fewer old new (Read b bytes (Ok done)) is = unchanged old new is.2.mirrors
  call_fewer old new (Read b bytes (Err cause)) is = unchanged old new is.1.mirrors
  call_fewer old new (ImageRead set b bytes (Ok done)) is = quiet_on old new is.0.place is.0.mirror is.0.quiet
  call_fewer old new (ImageRead set b bytes (Err NoSuchImage)) is = nothing old new is.1
  call_fewer old new (ImageRead set b bytes (Err NoSuchBlock)) is = nothing old new is.2
  call_fewer old new (ImageRead set b bytes (Err VolumeFailed)) is = quiet_on old new is.0.place is.0.mirror is.0.quiet
  call_fewer old new (ImageRead set b bytes (Err AreaFailed)) is = absurd is
  call_fewer old new (Cut set (Ok done)) is =
      let now : Mirror D = record { device = is.split.mirror.device; holds = Some set; stale = is.split.mirror.stale } in
      by_mirrors old new (slice_set old.mirrors is.place now) is.mirrors (as_stale old.mirrors is.place k is.split.mirror now is.split.was refl)
  call_fewer old new (Cut set (Err refused)) is = nothing old new is.1
  call_fewer old new (Drop set (Ok done)) is =
      let now : Mirror D = record { device = is.1.mirror.device; holds = None; stale = is.1.mirror.stale } in
      by_mirrors old new (slice_set old.mirrors is.1.place now) is.1.mirrors (as_stale old.mirrors is.1.place k is.1.mirror now is.1.was refl)
  call_fewer old new (Drop set (Err fault)) is = nothing old new is.2
  call_fewer old new Flush is = unchanged old new is.mirrors
  call_fewer old new (MirrorFlush j result) is = quiet_on old new j is.mirror is.quiet
  call_fewer old new (Sync result) is = by_mirrors old new new.mirrors refl (as_called ghosts old.mirrors new.mirrors k is.mirrors.long is.mirrors.each)

  calls_fewer : (old new : MirrorValue D) (calls : List Call) → AreCalls ghosts old calls new → stale_at new k + sum (map (copied_on k) calls) ≡ stale_at old k
  calls_fewer old new [] are = let same = ap (λ (v : MirrorValue D). stale_at v k) are in omega arith
  calls_fewer old new (call ∷ calls) are = grind (arith, common_steps, call_fewer, sum_by-cons, calls_fewer are.0 new calls are.2)

  -- after as many copied blocks as were stale, none is
  pub calls_in_step : (old new : MirrorValue D) (calls : List Call) → AreCalls ghosts old calls new → sum (map (copied_on k) calls) ≡ stale_at old k → stale_at new k ≡ 0
  calls_in_step old new calls are all = let fewer = calls_fewer old new calls are in omega arith
