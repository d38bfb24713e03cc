-- The calls as steps: what a volume stands for after each of them.
use Rattle.std.proofs.Common.{◌≡◌, ◌<◌, ◌-◌, ℕ, zero, suc, List, [], ◌∷◌, ◌++◌, length, replicate, refl, ap, sym, subst, ◌∙◌, arith, true, false, not, ◌&&◌, Option, Some, None, All}
use Rattle.std.specs.Prelude.{slice_get, slice_set, IfSome, is_some, ◌==◌, Ok}
use Rattle.std.proofs.lemmas.List.Elements.{All-head, All-tail, All-nil}
use Rattle.std.proofs.lemmas.Option.{slice_get_within}
use Rattle.std.proofs.lemmas.Grind.{common_steps}
use Rattle.volume_device.specs.InMemory.{AreBlocks}
use Rattle.volume_device.specs.declared.device.Device.{Ghosts}
use Rattle.write_history.specs.History.{History, Write, Image, content, last_bytes, names, sets_of, point_in, written, cut, dropped, reverted, reverted_in_part}
use Rattle.diff_area.specs.AreaValue.{AreaValue}
use Rattle.diff_area.specs.Format.{place_of_slot, blocks_for, free, used_in, AreRecords}
use Rattle.diff_area.specs.declared.table_record.Record.{Record}
use Rattle.cow_volume.specs.StandsFor.{GroupValue, record_of}
use Rattle.cow_volume.specs.Calls.{is_among, blocks_in}
use Rattle.cow_volume.specs.Changes.{has_record}
use Rattle.cow_volume.specs.OneVolume.{StandsForOne, blocks_of, image_sets, tells, IsOneWritten, IsOneUnwritten, IsOneDropped, IsOneReverted, IsOneRevertedInPart, IsOneShown}
use Rattle.cow_volume.proofs.Group.{number_is_other}
use Rattle.cow_volume.proofs.Writing.{slot_room}
use Rattle.vss_recover.specs.declared.claim.Claim.{Claim}
use Rattle.vss_recover.specs.Steps.{AreWithin, AreApart, owner_of, IsNewest, IsAllowed, after}
use Rattle.vss_recover.specs.Recoveries.{Recovery, Recovering, IsOfImages, unrecovered, recovered, blocks_recovered, all_recovered, with_final, closed}
use Rattle.vss_recover.specs.OverlayCalls.{count_in, lacks_room, IsPutIn}
use Rattle.vss_recover.specs.RecoverValue.{RecoverValue, StandsFor, IsOverlay}
use Rattle.vss_recover.specs.Steps.Step.{Wrote, Evicted, Cut, Dropped, Reverted, RevertedInPart, Opened, Recovered, Closed}
use Rattle.vss_recover.specs.Calls.{IsStep, IsSettled, IsBeside, IsSettledUpTo, IsShown}
use Rattle.vss_recover.proofs.Overlays.{last_if_named, none_recovered, set_one, put_overlay}
use Rattle.vss_recover.proofs.Standing.{among_at, of_more, of_opened, of_recovered, of_closed, one_of_it, sets_are, above_zero, beside_stands}
use Rattle.vss_recover.proofs.Standing.{settled_stands, settled_up_to_stands}
use Rattle.cow_volume.proofs.Members.{AreApart as AreApartList}
use Rattle.vss_recover.proofs.Counts.{counted_in, counted_all, apart_sets, among_has, has_slot}
use Rattle.diff_area.proofs.GoodRecords.{and_left, and_right}
use Rattle.cow_volume.proofs.Reading.{unnamed_same}

-- ## at first

free_row : (k slot : ℕ) (r : Record) → slice_get (replicate k free) slot ≡ Some r → r ≡ free
free_row zero slot r e = cc
free_row (suc k) zero r e = (let same : free ≡ r = cc in sym same)
free_row (suc k) (suc slot) r e = free_row k slot r e

none_free : (k slot set b : ℕ) (records : List Record) → records ≡ replicate k free → 0 < set → slice_get records slot ≡ Some (record_of 0 set b) → ⊥
none_free k slot set b records are l e = grind (arith, free_row)

pub new_stands : {D : Type 0} (told : D → Option (List (List ℕ))) (volume : GroupValue D) (overlay : AreaValue D) (h : History) → overlay.records ≡ replicate (length overlay.records) free
    → StandsForOne told volume h
    → StandsFor told (record { volume = volume; overlay = overlay; window = None; claims = []; final = [] }) (unrecovered h)
new_stands told volume overlay h are stands = grind (arith, none_free, All-nil)

-- ## counts

stand_if_named : (sets : List ℕ) (s b : ℕ) (rs : List Recovery) → All (λ (r : Recovery). is_among r.set sets ≡ true) rs → names (recovered s rs) b ≡ true → is_among s sets ≡ true
stand_if_named sets s b rs all e = grind (arith, none_recovered)

pub used_pairs : {D : Type 0} (told : D → Option (List (List ℕ))) (v : RecoverValue D) (h : Recovering) → StandsFor told v h → v.overlay.volumes ≡ blocks_of v.volume ∷ []
    → AreRecords v.overlay.volumes v.overlay.records
    → used_in v.overlay.records ≡ all_recovered (blocks_of v.volume) h.recoveries (image_sets v.volume)
used_pairs told v h stood fits are =
    let one = one_of_it told v.volume h.volume stood.volume in
    counted_all (told v.overlay.device) v.overlay.records (blocks_of v.volume) h.recoveries (image_sets v.volume) stood.overlay (subst (λ (ns : List ℕ). AreRecords ns v.overlay.records) fits are)
    (subst (λ (sets : List ℕ). AreApartList sets) (sym one.volume.sets_are) (apart_sets (length h.volume.writes) h.volume.images one.volume.images.in_time))
    (λ s m. above_zero told v.volume h.volume s stood.volume (among_has (image_sets v.volume) s m))
    (λ s b e. stand_if_named (image_sets v.volume) s b h.recoveries stood.of_images.recoveries e)

pub blocks_counted : {D : Type 0} (told : D → Option (List (List ℕ))) (v : RecoverValue D) (h : Recovering) (set : ℕ) → StandsFor told v h → v.overlay.volumes ≡ blocks_of v.volume ∷ []
    → AreRecords v.overlay.volumes v.overlay.records
    → is_among set (image_sets v.volume) ≡ true → count_in set v.overlay.records ≡ blocks_recovered (blocks_of v.volume) h.recoveries set
blocks_counted told v h set stood fits are among =
    counted_in (told v.overlay.device) v.overlay.records (blocks_of v.volume) h.recoveries set stood.overlay (subst (λ (ns : List ℕ). AreRecords ns v.overlay.records) fits are)
    (above_zero told v.volume h.volume set stood.volume among)

pub room_is : {D : Type 0} (told : D → Option (List (List ℕ))) (v : RecoverValue D) (h : Recovering) (set b : ℕ) → StandsFor told v h → v.overlay.volumes ≡ blocks_of v.volume ∷ []
    → AreRecords v.overlay.volumes v.overlay.records → v.window ≡ Some set → b < blocks_of v.volume
    → lacks_room v.overlay.records set b ≡ (not (names (recovered set h.recoveries) b) && (all_recovered (blocks_of v.volume) h.recoveries (image_sets v.volume) == length v.overlay.records))
room_is told v h set b stood fits are window low =
    let among = stood.of_images.window set (sym stood.window ∙ window) in let above = above_zero told v.volume h.volume set stood.volume among in
    grind (arith, common_steps, has_slot, used_pairs)

-- ## reads

point_among : (images : List Image) (set p : ℕ) → point_in set images ≡ Some p → is_among set (sets_of images) ≡ true
point_among [] set p e = cc
point_among (i ∷ images) set p e = grind (arith, common_steps, point_among images set p)

pub image_of_point : {D : Type 0} (told : D → Option (List (List ℕ))) (g : GroupValue D) (h : History) (set p : ℕ) → StandsForOne told g h → point_in set h.images ≡ Some p
    → is_among set (image_sets g) ≡ true
image_of_point told g h set p stands e = ap (is_among set) (sets_are told g h stands) ∙ point_among h.images set p e

told_bytes : (o : Option (List (List ℕ))) (at : ℕ) (x y : List ℕ) → is_some o ≡ true → IfSome o (λ blocks. slice_get blocks at ≡ Some x) → IfSome o (λ blocks. slice_get blocks at ≡ Some y) → x ≡ y
told_bytes o at x y some a b = grind arith

-- a block that has a slot is that slot's
pub shown_slot : {D : Type 0} (told : D → Option (List (List ℕ))) (v : RecoverValue D) (set b slot : ℕ) (bytes : List ℕ) → slice_get v.overlay.records slot ≡ Some (record_of 0 set b)
    → IfSome (told v.overlay.device) (λ blocks. slice_get blocks (place_of_slot (length v.overlay.records) slot) ≡ Some bytes) → IsShown told v set b bytes
shown_slot told v set b slot bytes at block = λ h p stood all point. (
    let above = above_zero told v.volume h.volume set stood.volume (image_of_point told v.volume h.volume set p stood.volume point) in
    told_bytes (told v.overlay.device) (place_of_slot (length v.overlay.records) slot) bytes (last_bytes b [] (recovered set h.recoveries))
    (and_right (tells told v.volume) (is_some (told v.overlay.device)) all) block (stood.overlay.copied slot set b above at)
    ∙ last_if_named b [] (content h.volume.writes p b) (recovered set h.recoveries) (stood.overlay.named slot set b above at))

-- each other one is the volume's image's
pub shown_below : {D : Type 0} (told : D → Option (List (List ℕ))) (v : RecoverValue D) (set b : ℕ) (bytes : List ℕ) → (0 < set → has_record v.overlay.records (record_of 0 set b) ≡ false)
    → b < blocks_of v.volume → IsOneShown told v.volume set b bytes → IsShown told v set b bytes
shown_below told v set b bytes none low is = λ h p stood all point. (
    let above = above_zero told v.volume h.volume set stood.volume (image_of_point told v.volume h.volume set p stood.volume point) in
    is h.volume p stood.volume (and_left (tells told v.volume) (is_some (told v.overlay.device)) all) point
    ∙ sym (unnamed_same b (content h.volume.writes p b) (recovered set h.recoveries)
    (sym (has_slot (told v.overlay.device) v.overlay.records (blocks_of v.volume) h.recoveries set b stood.overlay above low) ∙ none above)))

-- ## the volume's own calls

blocks_same : {D : Type 0} (old new : GroupValue D) → new.area.volumes ≡ old.area.volumes → blocks_of new ≡ blocks_of old
blocks_same old new e = ap (λ (ns : List ℕ). blocks_in (slice_get ns 0)) e

pub wrote_step : {D : Type 0} (ghosts : Ghosts D) (old new : RecoverValue D) (w : Write) (up_to : ℕ)
    → IsOneWritten ghosts old.volume new.volume w up_to → IsSettledUpTo up_to old new → IsStep ghosts.told old new (Wrote w up_to)
wrote_step ghosts old new w up_to is settled = λ h stood. (
  is.in_range,
  settled_up_to_stands ghosts.told old new up_to (written w) h stood (is.stands h.volume stood.volume) (λ x. refl) (blocks_same old.volume new.volume is.kept.volumes) settled,
)

pub evicted_step : {D : Type 0} (ghosts : Ghosts D) (old new : RecoverValue D) (b : ℕ) (fault : _)
    → IsOneUnwritten ghosts old.volume new.volume b fault → IsSettledUpTo fault.evicted_up_to old new → IsStep ghosts.told old new (Evicted fault.evicted_up_to)
evicted_step ghosts old new b fault is settled = λ h stood. (
  tt,
  settled_up_to_stands ghosts.told old new fault.evicted_up_to (λ x. x) h stood (is.stands h.volume stood.volume) (λ x. refl) (blocks_same old.volume new.volume is.kept.volumes) settled,
)

not_below : (sets : List ℕ) (set : ℕ) → All (λ s. s < set) sets → is_among set sets ≡ false
not_below [] set all = refl
not_below (s ∷ sets) set all =
    let l = All-head (λ s. s < set) s sets all in grind (arith, common_steps, number_is_other, not_below sets set (All-tail (λ s. s < set) s sets all))

pub cut_step : {D : Type 0} (told : D → Option (List (List ℕ))) (old new : RecoverValue D) (set : ℕ) → new.volume.area ≡ old.volume.area → image_sets new.volume ≡ image_sets old.volume ++ set ∷ []
    → IsBeside old new
    → ((h : History) → StandsForOne told old.volume h → StandsForOne told new.volume (cut set h)) → All (λ s. s < set) (image_sets old.volume) → old.window ≡ None → IsStep told old new (Cut set)
cut_step told old new set area images beside stands newest none = λ h stood. (
    let sets = sets_are told old.volume h.volume stood.volume in
    let v = cut set h.volume in
    let now = stands h.volume stood.volume in
    let now_sets : sets_of v.images ≡ image_sets old.volume ++ set ∷ [] = sym (sets_are told new.volume v now) ∙ images in
    let of : IsOfImages (sets_of v.images) h = subst (λ (s : List ℕ). IsOfImages s h) (sym now_sets) (of_more (image_sets old.volume) set h h refl refl refl stood.of_images) in (
      (ap (is_among set) (sym sets) ∙ not_below (image_sets old.volume) set newest, sym stood.window ∙ none),
      beside_stands told old new v h stood now (blocks_same old.volume new.volume (ap (λ (a : AreaValue _). a.volumes) area)) of
          (ap (λ (a : AreaValue _). a.records) beside.overlay) (ap (λ (a : AreaValue _). told a.device) beside.overlay) beside.window beside.claims beside.final,
    ))

pub dropped_step : {D : Type 0} (ghosts : Ghosts D) (old new : RecoverValue D) (set : ℕ)
    → IsOneDropped ghosts old.volume new.volume set (Ok tt) → IsSettled old new → IsStep ghosts.told old new (Dropped set)
dropped_step ghosts old new set is settled = λ h stood. (
  ap (is_among set) (sym (sets_are ghosts.told old.volume h.volume stood.volume)) ∙ is.0,
  settled_stands ghosts.told old new (dropped set h.volume) h stood (is.1.stands h.volume stood.volume) (blocks_same old.volume new.volume is.1.kept.volumes) settled,
)

module _ {D : Type 0} (ghosts : Ghosts D) (old new : RecoverValue D) (set : ℕ) (fits : old.overlay.volumes ≡ blocks_of old.volume ∷ [])
    (are : AreRecords old.overlay.volumes old.overlay.records)
    (none : count_in set old.overlay.records ≡ 0) (settled : IsSettled old new) (h : Recovering) (p : ℕ) (stood : StandsFor ghosts.told old h) (point : point_in set h.volume.images ≡ Some p) where
  unrecovered_there : blocks_recovered (blocks_of old.volume) h.recoveries set ≡ 0
  unrecovered_there = sym (blocks_counted ghosts.told old h set stood fits are (image_of_point ghosts.told old.volume h.volume set p stood.volume point)) ∙ none

  pub reverted_step : IsOneReverted ghosts old.volume new.volume set
      → IsAllowed (blocks_of old.volume) h (Reverted set p) × StandsFor ghosts.told new (after (blocks_of old.volume) h (Reverted set p))
  reverted_step is = (
    (point, unrecovered_there),
    settled_stands ghosts.told old new (reverted set p h.volume) h stood (is.stands h.volume p stood.volume point)
        (blocks_same old.volume new.volume is.kept.volumes) settled,
  )

  pub in_part_step : (k : ℕ) → IsOneRevertedInPart ghosts old.volume new.volume set k
      → IsAllowed (blocks_of old.volume) h (RevertedInPart set p k) × StandsFor ghosts.told new (after (blocks_of old.volume) h (RevertedInPart set p k))
  in_part_step k is = (
    (point, unrecovered_there),
    settled_stands ghosts.told old new (reverted_in_part (blocks_of old.volume) set p k h.volume) h stood (is.stands h.volume p stood.volume point)
        (blocks_same old.volume new.volume is.kept.volumes) settled,
  )

-- ## the window

pub opened_step : {D : Type 0} (told : D → Option (List (List ℕ))) (old : RecoverValue D) (set : ℕ) (claims : List Claim) → IsNewest (image_sets old.volume) set → old.window ≡ None
    → is_among set old.final ≡ false → AreWithin (blocks_of old.volume) claims → AreApart claims
    → IsStep told old (record { volume = old.volume; overlay = old.overlay; window = Some set; claims = claims; final = old.final }) (Opened set claims)
opened_step told old set claims newest none open_still within apart =
    let fact = among_at (image_sets old.volume) (length (image_sets old.volume) - 1) set newest in
    grind (arith, common_steps, sets_are told old.volume, of_opened (image_sets old.volume) set claims)

pub closed_step : {D : Type 0} (told : D → Option (List (List ℕ))) (old : RecoverValue D) (set : ℕ) → old.window ≡ Some set
    → IsStep told old (record { volume = old.volume; overlay = old.overlay; window = None; claims = old.claims; final = with_final set (image_sets old.volume) old.final }) (Closed set)
closed_step told old set window = λ h stood. (
    let sets = sets_are told old.volume h.volume stood.volume in (
      sym stood.window ∙ window,
      record {
        volume = stood.volume;
        overlay = stood.overlay;
        of_images = (let of = of_closed set h (subst (λ (s : List ℕ). IsOfImages s h) sets stood.of_images) in
            subst (λ (s : List ℕ). IsOfImages s (closed set h)) (sym sets) of);
        window = refl;
        claims = stood.claims;
        final = ap (λ (s : List ℕ). with_final set s old.final) sets ∙ ap (with_final set (sets_of h.volume.images)) stood.final;
      },
    ))

-- ## a recovery write

pub recovered_step : {D : Type 0} (ghosts : Ghosts D) (old : RecoverValue D) (overlay : AreaValue D) (r : Recovery)
    → old.overlay.volumes ≡ blocks_of old.volume ∷ [] → AreRecords old.overlay.volumes old.overlay.records
    → ghosts.size old.overlay.device ≡ blocks_for (length old.overlay.records) → IfSome (ghosts.told old.overlay.device) (AreBlocks (ghosts.size old.overlay.device)) → old.window ≡ Some r.set
    → r.write.block < blocks_of old.volume → owner_of old.claims r.write.block ≡ Some r.writer
    → IsPutIn ghosts old.overlay overlay r.set r.write.block r.write.bytes
    → IsStep ghosts.told old (record { volume = old.volume; overlay = overlay; window = old.window; claims = old.claims; final = old.final }) (Recovered r)
recovered_step ghosts old overlay r fits are sized whole window low owner is = λ h stood. (
    let n = blocks_of old.volume in
    let among = stood.of_images.window r.set (sym stood.window ∙ window) in
    let above = above_zero ghosts.told old.volume h.volume r.set stood.volume among in
    let mine = sym stood.window ∙ window in
    let one = set_one old.overlay.volumes old.overlay.records is.slot (record_of 0 r.set r.write.block) are
    (λ e. (let none : r.set ≡ 0 = ap (λ (x : Record). x.set) e in absurd (omega arith))) is.was in
    let within = slice_get_within (slice_set old.overlay.records is.slot (record_of 0 r.set r.write.block)) is.slot (record_of 0 r.set r.write.block) one.at in
    let room = slot_room (ghosts.told old.overlay.device) (length old.overlay.records) is.slot (subst (λ (k : ℕ). IfSome (ghosts.told old.overlay.device) (AreBlocks k)) sized whole) (omega arith) in (
      (mine, low, ap (λ (cs : List Claim). owner_of cs r.write.block) (sym stood.claims) ∙ owner),
      record {
        volume = stood.volume;
        overlay = subst (λ (rows : List Record). IsOverlay (ghosts.told overlay.device) rows n (h.recoveries ++ r ∷ [])) (sym is.records)
            (subst (λ (o : Option (List (List ℕ))). IsOverlay o (slice_set old.overlay.records is.slot (record_of 0 r.set r.write.block)) n (h.recoveries ++ r ∷ [])) (sym is.slots)
            (put_overlay (ghosts.told old.overlay.device) old.overlay.records
            (slice_set old.overlay.records is.slot (record_of 0 r.set r.write.block)) n is.slot h.recoveries r stood.overlay above one room));
        of_images = (let of = of_recovered (image_sets old.volume) r h mine stood.of_images in record { recoveries = of.recoveries; window = of.window; final = of.final });
        window = stood.window;
        claims = stood.claims;
        final = stood.final;
      },
    ))
