-- A move by counts of devices that say nothing of their faults, and the list of sets after it.
use Rattle.std.proofs.Common.{ℕ, List, [], Bool, Option, if◌then◌else◌, arith, zero, suc, ◌∷◌, true, false, Some, None, map}
use Rattle.std.specs.Prelude.{◌≡◌, Result, Ok, Err, IfOk, IsErr, OnErr}
use Rattle.vss_names.specs.declared.out_of_memory.OutOfMemory.{OutOfMemory}
use Rattle.cow_volume.proofs.RestoringMerged.{same_counts, kept_uncounted, no_rise}
use Rattle.vss_model.specs.Words.{Fits, HasLists, Plan, Reply, WriterRow, reply, state, told_act}
use Rattle.provider.specs.Words.{NeverFails, uncounted, counted_as}
use Rattle.provider.proofs.Kept.{same_length}
use Rattle.provider.proofs.Called.{as_many, rose_unsaid}
use Rattle.vss_world.specs.Moves.{HasMark, IsMarked, IsToldStep, StepLasts, takes_memory}
use Rattle.vss_world.specs.Words.{Event, Told}
use Rattle.vss_world.proofs.Words.{Blocked, Ghosts, IsStepped, Moved, Reply as Answer, WorldValue, listed_after, lists_sets, tells_of, AreKept}
use Rattle.vss_world.proofs.Words.{AreWithout, Clean, Complete, Evicted, Failed, GroupValue, IsEnded, IsReleased, IsSettled, MakesRoom, Mark, ProviderValue}
use Rattle.vss_world.proofs.Words.{RoseAlone, Running, SessionMove, SessionsValue, SetOutcome, counts_of, Provider, devices_of, later_same}

-- ## The list of sets after a step: a move that lists no sets leaves it empty, and what the core stands for is as it was.

lists_then : (tells : List Bool) (r : Reply) (t : Told) (listed : List ℕ) (rows : List WriterRow) → Fits tells r t → HasLists r listed rows → HasLists r (if lists_sets t then listed else []) rows
lists_then tells r t listed rows fits lists = grind arith

pub listed_so : {D : Type 0} (device : Ghosts D) (s : Plan) (event : Event) (answer : Answer) (old new : WorldValue D)
    → IsStepped device old new s event answer → IsStepped device old (record new { listed = listed_after answer new.listed }) s event answer
listed_so device s event Blocked old new step = record { same = step.same; not_enabled = step.not_enabled }
listed_so device s event (Moved o) old new step =
    let listed = if lists_sets o.told then new.listed else [] in
    record {
      is_enabled = step.is_enabled;
      is_allowed = step.is_allowed;
      outcome = λ acts rows stands are.
          let out = step.outcome acts rows stands are in
          record {
            fits = out.fits;
            lists = lists_then (tells_of device.told s old.devices) (reply s (state s acts) (told_act event o.told)) o.told new.listed rows out.fits out.lists;
            evicts = out.evicts;
            loses = out.loses;
            order = out.order;
            ends = out.ends;
          };
      stands_for = λ acts stands.
          record {
            at = (step.stands_for acts stands).at;
            sets = (step.stands_for acts stands).sets;
            posts = (step.stands_for acts
                stands).posts;
            early = (step.stands_for acts stands).early;
          };
      is_of = record { devices = step.is_of.devices; number = step.is_of.number; groups = step.is_of.groups; writers = step.is_of.writers };
      tells = step.tells;
      later = step.later;
      rose = step.rose;
      unfailed = step.unfailed;
    }

-- ## A move, by counts of devices that say nothing of their faults.

-- the devices as they are told to fail
abbrev pub unsaid : {D : Type 0} → Ghosts D → Ghosts D
unsaid device = counted_as device true

-- ## what calls keep

module _ {D : Type 0} (device : Ghosts D) where
  pub kept_unsaid : (old new : List (GroupValue D)) → AreKept device old new → AreKept (unsaid device) old new
  kept_unsaid old new kept =
      record {
        number = kept.number;
        each = λ g x y at there. kept_uncounted device x y (kept.each g x y at there);
        has = kept.has;
        tells = kept.tells;
        sizes = kept.sizes;
        later = later_same (counts_of uncounted old) (counts_of uncounted new) (same_counts (devices_of old) (devices_of new) (same_length device.size (devices_of old) (devices_of new) kept.sizes));
      }

  room_unsaid : {s : Plan} {x : SessionsValue} {old new : ProviderValue D} {v b up_to : ℕ} {images : List Evicted} → MakesRoom device s x old new v b images up_to
      → MakesRoom (unsaid device) s x old new v b images up_to
  room_unsaid {old = old} {new = new} room = record {
    call = record { kept = kept_unsaid old.groups new.groups room.call.kept; elsewhere = room.call.elsewhere };
    devices = room.devices;
    evicted = room.evicted;
    stands = room.stands;
    kept = room.kept;
    room = room.room;
    rest = room.rest;
  }

  without_unsaid : {old new : List (GroupValue D)} {set stood : ℕ} → AreWithout device old new set stood → AreWithout (unsaid device) old new set stood
  without_unsaid {old = old} {new = new} without = record {
    kept = kept_unsaid old new without.kept;
    devices = without.devices;
    stands = without.stands;
    number = without.number;
    none = without.none;
  }

  pub room_counted : (told : Bool) {s : Plan} {x : SessionsValue} {old new : ProviderValue D} {v b up_to : ℕ} {images : List Evicted} → MakesRoom device s x old new v b images up_to
      → MakesRoom (counted_as device told) s x old new v b images up_to
  room_counted false room = room
  room_counted true room = room_unsaid room

  pub without_counted : (told : Bool) {old new : List (GroupValue D)} {set stood : ℕ} → AreWithout device old new set stood → AreWithout (counted_as device told) old new set stood
  without_counted false without = without
  without_counted true without = without_unsaid without

  ended_unsaid : (set : ℕ) (result : SetOutcome) (old new : ProviderValue D) → IsEnded device set result old new → IsEnded (unsaid device) set result old new
  ended_unsaid zero result old new ended = ended
  ended_unsaid (suc n) Running old new ended = ended
  ended_unsaid (suc n) Complete old new ended = ended
  ended_unsaid (suc n) (Failed why) old new ended = (ended.0, without_unsaid ended.1, ended.2)

  released_unsaid : (set : Option ℕ) (old new : ProviderValue D) → IsReleased device set old new → IsReleased (unsaid device) set old new
  released_unsaid None old new released = released
  released_unsaid (Some n) old new released = (released.0, without_unsaid released.1, released.2)

  pub settled_unsaid : (m : SessionMove) (old new : ProviderValue D) → IsSettled device m old new → IsSettled (unsaid device) m old new
  settled_unsaid m old new settled = grind (arith, ended_unsaid, released_unsaid)

-- ## moves

never_alone : {D : Type 0} (count : D → ℕ) (xs ys : List D) (k : ℕ) → NeverFails count → RoseAlone k (map count xs) (map count ys) → ⊥
never_alone count [] ys zero never rose = rose
never_alone count [] ys (suc k) never rose = rose
never_alone count (x ∷ xs) [] zero never rose = rose
never_alone count (x ∷ xs) [] (suc k) never rose = rose
never_alone count (x ∷ xs) (y ∷ ys) zero never rose = no_rise (count x) (count y) (never y) rose.0
never_alone count (x ∷ xs) (y ∷ ys) (suc k) never rose = never_alone count xs ys k never rose.1

module _ {D : Type 0} (device : Ghosts D) where
  pub step_unsaid : (old new : WorldValue D) (s : Plan) (event : Event) (reply : Answer) → IsStepped device old new s event reply
      → IsStepped (unsaid device) old new s event reply
  step_unsaid old new s event Blocked step = step
  step_unsaid old new s event (Moved o) moves =
      let same = same_counts old.devices new.devices (as_many device.count old.devices new.devices moves.later) in
      record {
        is_enabled = moves.is_enabled;
        is_allowed = moves.is_allowed;
        outcome = moves.outcome;
        stands_for = moves.stands_for;
        is_of = moves.is_of;
        tells = moves.tells;
        later = later_same (map (λ (d : D). uncounted d) old.devices) (map (λ (d : D). uncounted d) new.devices) same;
        rose = λ fault. grind (arith, rose_unsaid, (moves.rose fault));
        unfailed = λ clean. same;
      }

  -- over devices of which no call fails it is clean
  pub step_clean : (old new : WorldValue D) (s : Plan) (event : Event) (reply : Answer) → NeverFails device.count → IsStepped device old new s event reply
      → HasMark Clean reply
  step_clean old new s event reply never step = grind (arith, never_alone)

  -- a step by the calls of the devices is one that is told to be clean
  pub told_clean : (old new : WorldValue D) (s : Plan) (event : Event) (r : Result Answer OutOfMemory) → OnErr r (new ≡ old) → (IsErr r → takes_memory event ≡ true)
      → IfOk r (IsStepped device old new s event) → (event ≡ Provider → IfOk r (StepLasts device new s)) → IsMarked device old new s event Clean r
  told_clean old new s event (Ok reply) same takes step lasts = record {
    stepped = step_unsaid old new s event reply step;
    marked = λ never acts stands allowed. step_clean old new s event reply never step;
    lasts = lasts;
  }
  told_clean old new s event (Err e) same takes step lasts = grind arith

  -- and the list of sets ends with it
  pub told_listed : (old new : WorldValue D) (s : Plan) (event : Event) (mark : Mark) (reply : Answer) → IsToldStep device old new s event mark reply
      → IsToldStep device old (record new { listed = listed_after reply new.listed }) s event mark reply
  told_listed old new s event mark Blocked made =
      record { stepped = listed_so (unsaid device) s event Blocked old new made.stepped; marked = made.marked; lasts = made.lasts }
  told_listed old new s event mark (Moved o) made =
      record { stepped = listed_so (unsaid device) s event (Moved o) old new made.stepped; marked = made.marked; lasts = made.lasts }
