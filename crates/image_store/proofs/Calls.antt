-- What the calls of a group do to the whole copies that it has, and which device failed.
use Rattle.std.proofs.Common.{◌≡◌, ℕ, ◌<◌, List, length, ap, sym, subst, ◌∙◌, arith, ◌≢◌, ◌+◌, ◌≤◌, [], ◌∷◌, ◌++◌, map, take, refl, Option, Some, is_some}
use Rattle.std.proofs.Common.{option_map}
use Rattle.std.proofs.lemmas.List.{length-map}
use Rattle.std.proofs.lemmas.Option.{same_Some, slice_get_within}
use Rattle.std.specs.Prelude.{slice_get, slice_set, nat_lt, not, Result, Ok, Err}
use Rattle.vss_names.specs.Faults.{Rose}
use Rattle.volume_device.specs.declared.device.Device.{Ghosts}
use Rattle.write_history.specs.History.{Write, History, contents, point_in, cut, written, dropped, reverted, reverted_in_part}
use Rattle.write_history.specs.Slots.{gone_up_to}
use Rattle.diff_area.specs.AreaValue.{AreaValue}
use Rattle.cow_volume.specs.Calls.{AreaRose, DeviceRose, HasCauseAt, IsUnfailed, VolumeRose, blocks_at, history_at, changed_at, blocks_in, sets_at, sets_in}
use Rattle.cow_volume.specs.Calls.{is_among, IsChanged, IsReverted, IsRevertedInPart, IsQuiet, IsNow}
use Rattle.cow_volume.specs.Ending.{AllTell}
use Rattle.cow_volume.specs.StandsFor.{GroupValue, placed, StandsFor}
use Rattle.cow_volume.specs.Room.{HasRoom}
use Rattle.cow_volume.specs.Steps.{IsPut, IsNotPut, IsPutOr}
use Rattle.cow_volume.specs.declared.cause.Cause.{Cause}
use Rattle.cow_volume.proofs.Evicting.{gone_up_to_none}
use Rattle.cow_volume.proofs.Group.{slice_get_inside, slice_get_map, slice_set-same, slice_get-set_other, history_at_is, place_at}
use Rattle.cow_volume.proofs.Kept.{unfailed_further}
use Rattle.cow_volume.proofs.Reverting.{take_next}
use Rattle.image_store.specs.Failing.{IsPassFault, IsShowFault, of_cause}
use Rattle.image_store.specs.Plain.{Plain, volume_in, plain_of, plains_of, on_volume, on_each, with_blocks, cut_on, gone_on, dropped_on, older_on, reverted_on}
use Rattle.image_store.specs.Plain.{image_in}
use Rattle.image_store.specs.Steps.{AreMixed}
use Rattle.image_store.specs.StoreValue.{HasPlains, KeepsPlains}
use Rattle.image_store.specs.declared.show_fault.ShowFault.{ShowFault}
use Rattle.image_store.proofs.Copies.{plain-cut, plain-dropped, plain-written, plain-reverted, plain-in_part, mixed-in_part, in_time-filter, image_of_point}
use Rattle.image_store.proofs.Plains.{at_volume, volumes_changed, volumes_gone, has_changed, has_now, on_volume-same, point_there, quiet_kept, block_now}

-- ## Which device failed, where calls that did not fail came before.

volume_after : {D : Type 0} (count : D → ℕ) (v : ℕ) (a b c : GroupValue D) → IsUnfailed count a b → VolumeRose count v b c → VolumeRose count v a c
volume_after count v a b c same rose =
    let there = slice_get_within b.devices v rose.before rose.was in
    let many : length a.devices ≡ length b.devices = sym (length-map a.devices count) ∙ ap length (sym same.devices) ∙ length-map b.devices count in
    let d = slice_get_inside a.devices v (omega arith) in
    let equal : count d.0 ≡ count rose.before = same_Some (count d.0) (count rose.before)
    (sym (slice_get_map count a.devices v d.0 d.1) ∙ ap (λ (ns : List ℕ). slice_get ns v) (sym same.devices) ∙ slice_get_map count b.devices v rose.before rose.was) in
    record {
      before = d.0;
      now = rose.now;
      was = d.1;
      is = rose.is;
      rose = subst (λ n. Rose n (count rose.now)) (sym equal) rose.rose;
      devices = rose.devices ∙ ap (λ (ns : List ℕ). slice_set ns v (count rose.now)) same.devices;
      area = rose.area ∙ same.area;
    }

area_after : {D : Type 0} (count : D → ℕ) (a b c : GroupValue D) → IsUnfailed count a b → AreaRose count b c → AreaRose count a c
area_after count a b c same rose = record { rose = subst (λ n. Rose n (count c.area.device)) same.area rose.rose; devices = rose.devices ∙ same.devices }

pub device_after : {D : Type 0} (count : D → ℕ) (v : ℕ) (a b c : GroupValue D) (cause : Cause) → IsUnfailed count a b → DeviceRose count v b c cause → DeviceRose count v a c cause
device_after count v a b c cause same rose = grind (arith, volume_after, area_after)

pub show_after : {D : Type 0} (count : D → ℕ) (v : ℕ) (a b c : GroupValue D) (fault : ShowFault) → IsUnfailed count a b → IsShowFault count v b c fault → IsShowFault count v a c fault
show_after count v a b c fault same rose = grind (arith, volume_after, area_after, unfailed_further)

-- where room was made nothing was called
pub room_unfailed : {D : Type 0} (ghosts : Ghosts D) (old new : GroupValue D) (v b up_to : ℕ) → HasRoom ghosts.told old new v b up_to → IsUnfailed ghosts.count old new
room_unfailed ghosts old new v b up_to room = grind arith

-- a block that is there was not read
pub device_of : {D : Type 0} (count : D → ℕ) (v b : ℕ) (old new : GroupValue D) (cause : Cause) → b < blocks_at old v → HasCauseAt count v b old new cause → DeviceRose count v old new cause
device_of count v b old new cause low is = grind arith

-- the volume's device, or the area's, failed in a pass
pub pass_failed : {D : Type 0} (count : D → ℕ) (v : ℕ) (old new : GroupValue D) (before now : ℕ) (cause : Cause) → now ≡ before → DeviceRose count v old new cause
    → IsPassFault count v old new before now (of_cause cause)
pass_failed count v old new before now cause same rose = grind arith

-- no call failed so far: not on a device of the group, and not on the other device
pub record NoneFailed {D I : Type 0} (count : D → ℕ) (counted : I → ℕ) (old now : GroupValue D) (before after : I) : Type 0 where
  pub group : IsUnfailed count old now
  pub input : counted after ≡ counted before

-- ## What the calls of a group do to the whole copies that it has.

-- ## cuts

pub cut_plains : {D : Type 0} → (told : D → Option (List (List ℕ))) (old new : GroupValue D) (ps : List Plain) (v set : ℕ) → new.devices ≡ old.devices → new.area ≡ old.area
    → ((hs : List History) → StandsFor told old hs → StandsFor told new (changed_at v (cut set) hs)) → v < length old.area.volumes → HasPlains told old ps
    → HasPlains told new (on_volume v (cut_on set) ps)
cut_plains told old new ps v set devices area stands l has =
    let at = at_volume told old ps v has l in
    record {
      hs = changed_at v (cut set) has.hs;
      stands = stands has.hs has.stands;
      devices = subst (λ (ds : List _). AllTell told ds) (sym devices) has.devices;
      area = ap (λ (a : AreaValue _). is_some (told a.device)) area ∙ has.area;
      plains = ap (on_volume v (cut_on set)) has.plains
          ∙ sym (volumes_changed old.area.volumes has.hs v at.blocks at.history (cut set) (cut_on set) at.blocks_are at.history_is (plain-cut at.blocks set at.history))
          ∙ ap (λ (a : AreaValue _). plains_of a.volumes (changed_at v (cut set) has.hs)) (sym area);
    }

pub on_each-more : (vs : List ℕ) (v : ℕ) (f : Plain → Plain) (ps : List Plain) → on_each (vs ++ v ∷ []) f ps ≡ on_volume v f (on_each vs f ps)
on_each-more [] v f ps = refl
on_each-more (u ∷ vs) v f ps = on_each-more vs v f (on_volume u f ps)

-- the set is cut over the first k of these volumes
pub record IsCutTo {D : Type 0} (told : D → Option (List (List ℕ))) (old now : GroupValue D) (vs : List ℕ) (set k : ℕ) : Type 0 where
  pub volumes : now.area.volumes ≡ old.area.volumes
  pub area : now.area ≡ old.area
  pub devices : now.devices ≡ old.devices
  pub plains : (ps : List Plain) → HasPlains told old ps → HasPlains told now (on_each (take k vs) (cut_on set) ps)
  pub rest : (j u : ℕ) → k ≤ j → slice_get vs j ≡ Some u → sets_at now u ≡ sets_at old u

pub cut_more : {D : Type 0} → (told : D → Option (List (List ℕ))) (old now new : GroupValue D) (vs : List ℕ) (set k v : ℕ) → IsCutTo told old now vs set k → slice_get vs k ≡ Some v
    → ((j u : ℕ) → k < j → slice_get vs j ≡ Some u → v ≢ u) → v < length old.area.volumes → new.devices ≡ now.devices → new.area ≡ now.area
    → new.images ≡ slice_set now.images v (sets_at now v ++ set ∷ []) → ((hs : List History) → StandsFor told now hs → StandsFor told new (changed_at v (cut set) hs))
    → IsCutTo told old new vs set (k + 1)
cut_more told old now new vs set k v so at apart l devices area images stands =
    let volumes = so.volumes in
    let within : v < length now.area.volumes = omega (arith, ap length volumes) in
    record {
      volumes = ap (λ (a : AreaValue _). a.volumes) area ∙ so.volumes;
      area = area ∙ so.area;
      devices = devices ∙ so.devices;
      plains = λ ps has. subst (λ (qs : List Plain). HasPlains told new qs) (sym (on_each-more (take k vs) v (cut_on set) ps) ∙ ap (λ us. on_each us (cut_on set) ps) (sym (take_next vs k v at)))
          (cut_plains told now new (on_each (take k vs) (cut_on set) ps) v set devices area stands within (so.plains ps has));
      rest = λ j u m is. ap (λ (xs : List (List ℕ)). sets_in (slice_get xs u)) images ∙ ap sets_in (slice_get-set_other now.images v u (sets_at now v ++ set ∷ []) (apart j u (omega arith) is))
          ∙ so.rest j u (omega arith) is;
    }

-- ## images that go

pub dropped_plains : {D : Type 0} → (ghosts : Ghosts D) (old new : GroupValue D) (ps : List Plain) (v set : ℕ) → v < length old.area.volumes
    → IsChanged ghosts old new v (dropped set) → HasPlains ghosts.told old ps → HasPlains ghosts.told new (on_volume v (dropped_on set) ps)
dropped_plains ghosts old new ps v set l is has =
    has_changed ghosts old new ps v (dropped set) (dropped_on set) has is.kept l (is.stands has.hs has.stands) (λ at. plain-dropped at.blocks set at.history)

-- the group without its images up to a set
pub gone_plains : {D : Type 0} → (told : D → Option (List (List ℕ))) (old new : GroupValue D) (ps : List Plain) (v b up_to : ℕ) → HasRoom told old new v b up_to → HasPlains told old ps
    → HasPlains told new (map (gone_on up_to) ps)
gone_plains told old new ps v b up_to room has = subst (λ (g : GroupValue _). HasPlains told g (map (gone_on up_to) ps)) (sym room.left) (record {
  hs = gone_up_to up_to (placed old.area.volumes) has.hs;
  stands = subst (λ (g : GroupValue _). StandsFor told g (gone_up_to up_to (placed old.area.volumes) has.hs)) room.left (room.stands has.hs has.stands);
  devices = has.devices;
  area = has.area;
  plains = ap (map (gone_on up_to)) has.plains ∙ sym (volumes_gone up_to old.area.volumes has.hs);
})

-- none goes
pub room_plains : {D : Type 0} → (told : D → Option (List (List ℕ))) (old new : GroupValue D) (v b up_to : ℕ) → up_to ≡ 0 → HasRoom told old new v b up_to → KeepsPlains told old new
room_plains told old new v b up_to none room = grind (arith, gone_up_to_none, slice_get_within, place_at, history_at_is)

-- ## writes

-- these bytes are in a block
abbrev pub put_on : ℕ → List ℕ → Plain → Plain
put_on b bytes p = with_blocks (slice_set p.blocks b bytes) p

pub put_plains : {D : Type 0} → (ghosts : Ghosts D) (old new : GroupValue D) (ps : List Plain) (v b : ℕ) (bytes : List ℕ)
    → v < length old.area.volumes
    → b < blocks_at old v → IsPut ghosts old new v (record { block = b; bytes = bytes }) → HasPlains ghosts.told old ps → HasPlains ghosts.told new (on_volume v (put_on b bytes) ps)
put_plains ghosts old new ps v b bytes l m is has =
    has_changed ghosts old new ps v (written (record { block = b; bytes = bytes })) (put_on b bytes) has is.kept l (is.stands has.hs has.stands)
    (λ at. plain-written at.blocks (record { block = b; bytes = bytes }) at.history (let n = at.blocks_at_is in omega arith) at.time)

pub not_put_kept : {D : Type 0} → (ghosts : Ghosts D) (old new : GroupValue D) (v : ℕ) (cause : Cause)
    → IsNotPut ghosts old new v cause
    → KeepsPlains ghosts.told old new
not_put_kept ghosts old new v cause is = record {
  volumes = is.kept.volumes;
  plains = λ ps has. has_now ghosts old new ps ps has.hs has is.kept (is.stands has.hs has.stands) has.plains;
}

-- a block's own bytes are put
put_same : {D : Type 0} → (ghosts : Ghosts D) (old new : GroupValue D) (ps : List Plain) (v b : ℕ) (bytes : List ℕ) (r : Result Unit Cause)
    → v < length old.area.volumes → b < blocks_at old v → IsPutOr ghosts old new v (record { block = b; bytes = bytes }) r → slice_get (volume_in ps v).blocks b ≡ Some bytes
    → HasPlains ghosts.told old ps → HasPlains ghosts.told new ps
put_same ghosts old new ps v b bytes (Ok done) l m is own has = subst (λ (qs : List Plain). HasPlains ghosts.told new qs)
    (on_volume-same ps v (put_on b bytes) (ap (λ blocks. with_blocks blocks (volume_in ps v)) (slice_set-same (volume_in ps v).blocks b bytes own)))
    (put_plains ghosts old new ps v b bytes l m is has)
put_same ghosts old new ps v b bytes (Err cause) l m is own has = (not_put_kept ghosts old new v cause is).plains ps has

pub put_volumes : {D : Type 0} → (ghosts : Ghosts D) (old new : GroupValue D) (v : ℕ) (w : Write) (r : Result Unit Cause)
    → IsPutOr ghosts old new v w r → new.area.volumes ≡ old.area.volumes
put_volumes ghosts old new v w r is = grind arith

-- a block is read and its own bytes are put
pub copy_kept : {D : Type 0} → (ghosts : Ghosts D) (old mid new : GroupValue D) (v b : ℕ) (bytes : List ℕ) (r : Result Unit Cause)
    → v < length old.area.volumes → b < blocks_at old v → IsQuiet ghosts old mid → IsNow ghosts.told old v b bytes
    → IsPutOr ghosts mid new v (record { block = b; bytes = bytes }) r → KeepsPlains ghosts.told old new
copy_kept ghosts old mid new v b bytes r l m quiet now is =
    let volumes = ap length quiet.kept.volumes in
    let blocks = ap (λ (ns : List ℕ). blocks_in (slice_get ns v)) quiet.kept.volumes in
    record {
      volumes = put_volumes ghosts mid new v (record { block = b; bytes = bytes }) r is ∙ quiet.kept.volumes;
      plains = λ ps has. put_same ghosts mid new ps v b bytes r (omega arith) (omega arith) is (block_now ghosts.told old ps v b bytes has l m now)
          ((quiet_kept ghosts old mid quiet).plains ps has);
    }

-- ## reverts

pub reverted_plains : {D : Type 0} → (ghosts : Ghosts D) (old new : GroupValue D) (ps : List Plain) (v set : ℕ) → v < length old.area.volumes
    → IsReverted ghosts old new v set → HasPlains ghosts.told old ps → HasPlains ghosts.told new (on_volume v (reverted_on set) ps)
reverted_plains ghosts old new ps v set l is has =
    let at = at_volume ghosts.told old ps v has l in
    let p = point_there (length at.history.writes) set at.history.images at.time (ap (is_among set) (sym at.sets_are) ∙ is.image) in
    let point : point_in set (history_at has.hs v).images ≡ Some p.0 = ap (λ (h : History). point_in set h.images) at.history_at_is ∙ p.1 in
    has_changed ghosts old new ps v (reverted set p.0) (reverted_on set) has is.kept l (is.stands has.hs p.0 has.stands point)
    (λ here. plain-reverted here.blocks set p.0 here.history (in_time-filter (λ i. not (nat_lt set i.set)) (length here.history.writes) here.history.images here.time)
    (ap (λ (h : History). point_in set h.images) (sym here.history_at_is) ∙ point))

-- the blocks that are left where a device failed
pub record IsMixedTo {D : Type 0} (told : D → Option (List (List ℕ))) (new : GroupValue D) (ps : List Plain) (v set : ℕ) : Type 0 where
  pub image : List (List ℕ)
  pub image_is : image_in set (volume_in ps v).images ≡ Some image
  pub now : List (List ℕ)
  pub mixed : AreMixed (volume_in ps v).blocks image now
  pub plains : HasPlains told new (on_volume v (λ p. with_blocks now (older_on set p)) ps)

pub in_part_plains : {D : Type 0} → (ghosts : Ghosts D) (old new : GroupValue D) (ps : List Plain) (v set restored : ℕ)
    → v < length old.area.volumes
    → IsRevertedInPart ghosts old new v set restored → HasPlains ghosts.told old ps → IsMixedTo ghosts.told new ps v set
in_part_plains ghosts old new ps v set restored l is has =
    let at = at_volume ghosts.told old ps v has l in
    let p = point_there (length at.history.writes) set at.history.images at.time (ap (is_among set) (sym at.sets_are) ∙ is.image) in
    let point : point_in set (history_at has.hs v).images ≡ Some p.0 = ap (λ (h : History). point_in set h.images) at.history_at_is ∙ p.1 in
    let now = (plain_of at.blocks (reverted_in_part at.blocks set p.0 restored at.history)).blocks in
    record {
      image = contents at.blocks at.history.writes p.0;
      image_is = ap (λ (q : Plain). image_in set q.images) at.plain ∙ image_of_point set at.blocks at.history.writes at.history.images ∙ ap (option_map (contents at.blocks at.history.writes)) p.1;
      now = now;
      mixed = subst (λ (q : Plain). AreMixed q.blocks (contents at.blocks at.history.writes p.0) now) (sym at.plain) (mixed-in_part at.blocks set p.0 restored at.history);
      plains = has_now ghosts old new ps (on_volume v (λ q. with_blocks now (older_on set q)) ps)
          (changed_at v (reverted_in_part (blocks_at old v) set p.0 restored) has.hs) has is.kept
          (is.stands has.hs p.0 has.stands point)
          (ap (on_volume v (λ q. with_blocks now (older_on set q))) has.plains
          ∙ sym (ap (λ n. plains_of old.area.volumes (changed_at v (reverted_in_part n set p.0 restored) has.hs)) at.blocks_at_is
          ∙ volumes_changed old.area.volumes has.hs v at.blocks at.history (reverted_in_part at.blocks set p.0 restored) (λ q. with_blocks now (older_on set q)) at.blocks_are at.history_is
          (plain-in_part at.blocks set p.0 restored at.history (in_time-filter (λ i. not (nat_lt set i.set)) (length at.history.writes) at.history.images at.time))));
    }
