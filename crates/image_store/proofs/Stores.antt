-- A store and the whole copies that it stands for: its calls as steps, with sets that stay among those that were given.
use Rattle.std.proofs.Common.{◌≡◌, ℕ, zero, suc, ◌<◌, ◌≤◌, List, [], ◌∷◌, ◌++◌, map, refl, ap, ◌∙◌, arith, Bool, Some, None, length, sym, subst, true, false}
use Rattle.std.proofs.Common.{Option, is_some}
use Rattle.std.specs.Prelude.{filter, if◌then◌else◌, ◌&&◌, ◌==◌, not, nat_lt, replicate, Result, Ok, Err, OnOk}
use Rattle.vss_names.specs.Names.{TextValue}
use Rattle.block_data.specs.BlockBytes.{zeros}
use Rattle.volume_device.specs.declared.device.Device.{Ghosts}
use Rattle.write_history.specs.History.{fresh}
use Rattle.write_history.specs.declared.evicted.Evicted.{Evicted}
use Rattle.cow_volume.specs.Calls.{IsDropped, is_among, IsRevert as IsGroupRevert}
use Rattle.cow_volume.specs.Ending.{AllTell, IsSync, IsSynced}
use Rattle.cow_volume.specs.StandsFor.{GroupValue, StandsFor}
use Rattle.cow_volume.specs.declared.cause.Cause.{Cause}
use Rattle.cow_volume.specs.declared.image_fault.ImageFault.{ImageFault}
use Rattle.cow_volume.specs.declared.revert_fault.RevertFault.{RevertFault}
use Rattle.cow_volume.specs.declared.revert_fault.RevertFault.TheVariants.{NoSuchImage, Fault}
use Rattle.cow_volume.proofs.Group.{number_is_other}
use Rattle.vss_catalog.specs.Entries.{are_names_for, are_names}
use Rattle.image_store.specs.Head.{head_of}
use Rattle.image_store.specs.Updating.{IsCopying, IsWriting, AreReady, IsAhead, IsOverwriting}
use Rattle.image_store.specs.Plain.{Kept, Plain, AreGiven, AllGiven, volume_in, on_volume, on_each, cut_on, image_in, PlainStore, plain_at, gone_on}
use Rattle.image_store.specs.Plain.{with_blocks, dropped_on, older_on, reverted_on, fresh_store, plains_of}
use Rattle.image_store.specs.Cutting.{IsRevert}
use Rattle.image_store.specs.Steps.Step.{Cut, Dropped}
use Rattle.image_store.specs.StoreValue.{StoreValue, HasPlains, KeepsPlains, StandsAs, IsStep, StandsStill}
use Rattle.image_store.specs.declared.pass.Pass.{Pass}
use Rattle.image_store.specs.declared.pass.Pass.TheVariants.{Done, Evicted as Stopped}
use Rattle.image_store.proofs.Calls.{dropped_plains, reverted_plains, in_part_plains}
use Rattle.image_store.proofs.Copies.{plain-fresh}
use Rattle.image_store.proofs.Plains.{image_there, sets_of_volume}

-- ## The sets of the images of a store stay among those that were given.

pub given-filter : (test : Kept → Bool) (last : ℕ) (ks : List Kept) → AreGiven last ks → AreGiven last (filter test ks)
given-filter test last [] given = tt
given-filter test last (k ∷ ks) given = grind (arith, given-filter test last ks given.1)

given-more : (last set : ℕ) (ks : List Kept) → last ≤ set → AreGiven last ks → AreGiven set ks
given-more last set [] l given = tt
given-more last set (k ∷ ks) l given = let here = given.0 in (omega arith, given-more last set ks l given.1)

given-push : (set : ℕ) (ks : List Kept) (blocks : List (List ℕ)) → AreGiven set ks → AreGiven set (ks ++ record { set = set; blocks = blocks } ∷ [])
given-push set [] blocks given = (omega arith, tt)
given-push set (k ∷ ks) blocks given = (given.0, given-push set ks blocks given.1)

pub given-on : (last v : ℕ) (f : Plain → Plain) (ps : List Plain) → ((p : Plain) → AreGiven last p.images → AreGiven last (f p).images) → AllGiven last ps → AllGiven last (on_volume v f ps)
given-on last v f [] h given = tt
given-on last zero f (p ∷ ps) h given = (h p given.0, given.1)
given-on last (suc v) f (p ∷ ps) h given = (given.0, given-on last v f ps h given.1)

pub given-all : (last : ℕ) (f : Plain → Plain) (ps : List Plain) → ((p : Plain) → AreGiven last p.images → AreGiven last (f p).images) → AllGiven last ps → AllGiven last (map f ps)
given-all last f [] h given = tt
given-all last f (p ∷ ps) h given = (h p given.0, given-all last f ps h given.1)

all-more : (last set : ℕ) (ps : List Plain) → last ≤ set → AllGiven last ps → AllGiven set ps
all-more last set [] l given = tt
all-more last set (p ∷ ps) l given = (given-more last set p.images l given.0, all-more last set ps l given.1)

each-cut : (set : ℕ) (vs : List ℕ) (ps : List Plain) → AllGiven set ps → AllGiven set (on_each vs (cut_on set) ps)
each-cut set [] ps given = given
each-cut set (v ∷ vs) ps given = each-cut set vs (on_volume v (cut_on set) ps) (given-on set v (cut_on set) ps (λ p g. given-push set p.images p.blocks g) given)

pub given-cut : (last set : ℕ) (vs : List ℕ) (ps : List Plain) → last ≤ set → AllGiven last ps → AllGiven set (on_each vs (cut_on set) ps)
given-cut last set vs ps l given = each-cut set vs ps (all-more last set ps l given)

-- no image is of a set that was not given
pub ungiven : (last set : ℕ) (ks : List Kept) → last < set → AreGiven last ks → image_in set ks ≡ None
ungiven last set [] l given = refl
ungiven last set (k ∷ ks) l given =
    ap (λ (t : Bool). if t then Some k.blocks else image_in set ks) (number_is_other k.set set (λ e. absurd (omega arith))) ∙ ungiven last set ks l given.1

pub given-at : (last v : ℕ) (ps : List Plain) → AllGiven last ps → AreGiven last (volume_in ps v).images
given-at last v [] given = tt
given-at last zero (p ∷ ps) given = given.0
given-at last (suc v) (p ∷ ps) given = given-at last v ps given.1

-- ## A store and the whole copies that it stands for: its calls as steps.

-- a store of these parts
abbrev pub store_of : {D : Type 0} → GroupValue D → List TextValue → ℕ → StoreValue D
store_of group names last = record { group = group; names = names; last = last }

pub named_still : {D : Type 0} (old new : GroupValue D) (names : List TextValue) → new.area.volumes ≡ old.area.volumes → are_names_for old names ≡ true → are_names_for new names ≡ true
named_still old new names same named = ap (λ (ns : List ℕ). (length names == length ns) && are_names names) same ∙ named

-- the head is that of the volumes and the images
pub head_still : {D : Type 0} (old new : GroupValue D) (names : List TextValue) (last : ℕ) → new.area.volumes ≡ old.area.volumes → new.images ≡ old.images
    → head_of (store_of new names last) ≡ head_of (store_of old names last)
head_still old new names last volumes images = grind arith

pub synced : {D : Type 0} (ghosts : Ghosts D) (old new : GroupValue D) (r : Result Unit Cause) → IsSync ghosts old new r
    → IsSynced ghosts old new
synced ghosts old new r is = grind arith

pub still : {D : Type 0} (told : D → Option (List (List ℕ))) (old new : StoreValue D) → KeepsPlains told old.group new.group → new.last ≡ old.last → StandsStill told old new
still told old new kept last = λ p stands. record { group = kept.plains p.volumes stands.group; last = stands.last ∙ sym last; given = stands.given }

pub cut_step : {D : Type 0} (told : D → Option (List (List ℕ))) (old new : StoreValue D) (set : ℕ) (vs : List ℕ) → old.last < set → new.last ≡ set
    → ((ps : List Plain) → HasPlains told old.group ps → HasPlains told new.group (on_each vs (cut_on set) ps)) → IsStep told old new (Cut set vs)
cut_step told old new set vs later last cut = grind (arith, ungiven, given-at, given-cut)

pub dropped_step : {D : Type 0} (ghosts : Ghosts D) (old new : StoreValue D) (set v : ℕ) (r : Result Unit ImageFault) → new.last ≡ old.last
    → v < length old.group.area.volumes → IsDropped ghosts old.group new.group v set r → OnOk r (IsStep ghosts.told old new (Dropped set v))
dropped_step ghosts old new set v (Ok done) last l is = λ p stands. (
  image_there ghosts.told old.group p.volumes v set stands.group l is.0,
  record {
    group = dropped_plains ghosts old.group new.group p.volumes v set l is.1 stands.group;
    last = stands.last ∙ sym last;
    given = given-on p.last v (dropped_on set) p.volumes (λ q given. given-filter (λ k. not (k.set == set)) p.last q.images given) stands.given;
  },
)
dropped_step ghosts old new set v (Err fault) last l is = tt

pub dropped_volumes : {D : Type 0} (ghosts : Ghosts D) (old new : GroupValue D) (set v : ℕ) (r : Result Unit ImageFault)
    → IsDropped ghosts old new v set r → new.area.volumes ≡ old.area.volumes
dropped_volumes ghosts old new set v r is = grind arith

-- ## reverts

unseen : (set : ℕ) (ks : List Kept) → is_among set (map (λ (k : Kept). k.set) ks) ≡ false → image_in set ks ≡ None
unseen set [] e = refl
unseen set (k ∷ ks) e = grind (arith, unseen set ks)

pub revert_is : {D : Type 0} (ghosts : Ghosts D) (old new : StoreValue D) (set v : ℕ) (r : Result Unit RevertFault) → new.last ≡ old.last
    → v < length old.group.area.volumes → IsGroupRevert ghosts old.group new.group v set r → (p : PlainStore) → StandsAs ghosts.told old p → IsRevert ghosts.told new p set v r
revert_is ghosts old new set v (Ok done) last l is p stands = (
  image_there ghosts.told old.group p.volumes v set stands.group l is.image,
  record {
    group = reverted_plains ghosts old.group new.group p.volumes v set l is stands.group;
    last = stands.last ∙ sym last;
    given = given-on p.last v (reverted_on set) p.volumes (λ q given. given-filter (λ k. not (nat_lt set k.set)) p.last q.images given) stands.given;
  },
)
revert_is ghosts old new set v (Err NoSuchImage) last l is p stands = (
  unseen set (plain_at p v).images (ap (is_among set) (sym (sets_of_volume ghosts.told old.group p.volumes v stands.group l)) ∙ is.0),
  record { group = subst (λ (g : GroupValue _). HasPlains ghosts.told g p.volumes) (sym is.1) stands.group; last = stands.last ∙ sym last; given = stands.given },
)
revert_is ghosts old new set v (Err (Fault restored cause)) last l is p stands =
    let mixed = in_part_plains ghosts old.group new.group p.volumes v set restored l is.0 stands.group in (
      mixed.now,
      (mixed.image, mixed.image_is, mixed.mixed),
      record {
        group = mixed.plains;
        last = stands.last ∙ sym last;
        given = given-on p.last v (λ q. with_blocks mixed.now (older_on set q)) p.volumes (λ q given. given-filter (λ k. not (nat_lt set k.set)) p.last q.images given) stands.given;
      },
    )

pub revert_volumes : {D : Type 0} (ghosts : Ghosts D) (old new : GroupValue D) (set v : ℕ) (r : Result Unit RevertFault)
    → IsGroupRevert ghosts old new v set r → new.area.volumes ≡ old.area.volumes
revert_volumes ghosts old new set v r is = grind arith

-- ## updates

pub ahead : {D E : Type 0} (told : D → Option (List (List ℕ))) (old new : StoreValue D) (list : List Evicted) (r : Result Pass E) → new.last ≡ old.last
    → ((ps : List Plain) → HasPlains told old.group ps → IsCopying told new.group ps list r) → (p : PlainStore) → StandsAs told old p → IsAhead told new p list r
ahead told old new list (Ok Done) last is p stands = record { group = is p.volumes stands.group; last = stands.last ∙ sym last; given = stands.given }
ahead told old new list (Ok (Stopped at up_to)) last is p stands =
    let gone = is p.volumes stands.group in
    record {
      some = gone.some;
      list_is = gone.list_is;
      stands = record {
        group = gone.plains;
        last = stands.last ∙ sym last;
        given = given-all p.last (gone_on up_to) p.volumes (λ q given. given-filter (λ k. nat_lt up_to k.set) p.last q.images given) stands.given;
      };
    }
ahead told old new list (Err failed) last is p stands = record { group = is p.volumes stands.group; last = stands.last ∙ sym last; given = stands.given }

pub overwriting : {D E : Type 0} (told : D → Option (List (List ℕ))) (old new : StoreValue D) (v : ℕ) (differs : List Bool) (wanted : List (List ℕ)) (from : ℕ) (list : List Evicted)
    (r : Result Pass E)
    → new.last ≡ old.last → (p : PlainStore) → StandsAs told old p → AreReady differs wanted (plain_at p v).blocks from → IsWriting told new.group p.volumes v differs wanted list r
    → IsOverwriting told new p v differs wanted list r
overwriting told old new v differs wanted from list r last p stands ready is = grind (arith, given-on, given-all, given-filter)

-- ## a store that is new

fresh_plains : (ns : List ℕ) → plains_of ns (map (λ n. fresh) ns) ≡ (fresh_store ns).volumes
fresh_plains [] = refl
fresh_plains (n ∷ ns) = ap (λ blocks. record { blocks = blocks; images = [] } ∷ plains_of ns (map (λ m. fresh) ns)) (plain-fresh 0 n)
    ∙ ap (λ ps. record { blocks = replicate n zeros; images = [] } ∷ ps) (fresh_plains ns)

fresh_given : (ns : List ℕ) → AllGiven 0 (fresh_store ns).volumes
fresh_given [] = tt
fresh_given (n ∷ ns) = (tt, fresh_given ns)

pub fresh_stands : {D : Type 0} (told : D → Option (List (List ℕ))) (s : StoreValue D) (volumes : List ℕ) → s.group.area.volumes ≡ volumes → s.last ≡ 0 → AllTell told s.group.devices
    → is_some (told s.group.area.device) ≡ true
    → StandsFor told s.group (map (λ n. fresh) volumes) → StandsAs told s (fresh_store volumes)
fresh_stands told s volumes volumes_are last devices area stands = grind (arith, fresh_plains, fresh_given)
