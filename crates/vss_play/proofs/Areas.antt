-- Each group's area is written to its device and stays so, what was brought to where it lasts has lasted, and the volumes are digested.
use Rattle.std.proofs.Common.{◌≡◌, ℕ, zero, suc, ◌+◌, ◌-◌, ◌<◌, ◌≤◌, List, [], ◌∷◌, length, refl, ap, sym, ◌∙◌, arith, Option, subst, inl, inr, Some, None}
use Rattle.std.proofs.Common.{Bool}
use Rattle.std.proofs.lemmas.Option.{slice_get_past}
use Rattle.std.specs.Prelude.{◌⊎◌, slice_get, map, slice_set}
use Rattle.volume_device.specs.declared.device.Device.{Ghosts}
use Rattle.write_history.specs.History.{History}
use Rattle.write_history.specs.declared.move_item.Move.{Move}
use Rattle.diff_area.proofs.ByPlace.{get-set}
use Rattle.cow_volume.specs.Calls.{LastsAt}
use Rattle.scenario.specs.Places.{blocks_in_group}
use Rattle.scenario.specs.Plan.{Plan}
use Rattle.scenario.specs.declared.volume_row.VolumeRow.{VolumeRow}
use Rattle.vss_model.specs.Acts.{state}
use Rattle.vss_model.specs.Outcome.{IsDigestIf}
use Rattle.vss_model.specs.Trail.{acts}
use Rattle.provider.specs.Groups.{first_place, area_place, AreSized, volume_place}
use Rattle.vss_world.specs.Stands.{told_of, told_by, AreaHolds, WorldValue, IsOf, IfStands}
use Rattle.vss_world.specs.Quiet.{IsQuiet, IsSynced, IsAreaHeld}
use Rattle.vss_play.specs.Closing.{StandsAfter, IsEnding, FirstDigests, AreDigests, bytes_after}
use Rattle.vss_play.specs.Made.{AreLeft, FirstAreasLasted, FirstVolumesLasted, HaveLasted}
use Rattle.vss_play.specs.Played.{AreasHold}
use Rattle.vss_play.specs.Running.{IsPlay}
use Rattle.vss_play.proofs.FaultMarks.{later-refl, later-trans}
use Rattle.vss_play.proofs.OneMove.{IsShortLaw, few_of}

-- ## Each group's area is written to its device, and stays so through the calls that follow.

-- ## calls that are no moves

pub stands_by : {D : Type 0} (told : D → Option (List (List ℕ))) (s : Plan) (w : WorldValue D) (cursors : List ℕ) (trail : List Move) (text : List ℕ)
    → IsShortLaw → IsPlay told s w cursors trail text → StandsAfter told w s trail
stands_by told s w cursors trail text short kept = record { of = kept.of; few = few_of told s w cursors trail text short kept; stands = kept.stands }

pub ending_same : {D : Type 0} (ghosts : Ghosts D) (w : WorldValue D) (s : Plan) → IsOf w s → IsEnding ghosts w w s
ending_same ghosts w s of = record { stands_for = λ xs h. h; is_of = of; tells = refl; later = later-refl (map ghosts.count w.devices) }

pub ending_synced : {D : Type 0} (ghosts : Ghosts D) (old new : WorldValue D) (s : Plan) (g : ℕ) → IsSynced ghosts old new s g → IsEnding ghosts old new s
ending_synced ghosts old new s g q = record { stands_for = q.stands_for; is_of = q.is_of; tells = q.tells; later = q.later }

pub ending_trans : {D : Type 0} (ghosts : Ghosts D) (u v w : WorldValue D) (s : Plan) → IsEnding ghosts u v s → IsEnding ghosts v w s → IsEnding ghosts u w s
ending_trans ghosts u v w s a b = grind (arith, later-trans)

pub still_ending : {D : Type 0} (ghosts : Ghosts D) (old new : WorldValue D) (s : Plan) (trail : List Move) → StandsAfter ghosts.told old s trail
    → IsEnding ghosts old new s → StandsAfter ghosts.told new s trail
still_ending ghosts old new s trail h q = record { of = q.is_of; few = h.few; stands = q.stands_for (acts s trail) h.stands }

-- ## places

first_by : (a d : ℕ) (rows : List VolumeRow) → first_place a rows ≤ first_place (a + d) rows
first_by a zero rows = let e : a + 0 ≡ a = omega arith in subst (λ n. first_place a rows ≤ first_place n rows) (sym e) (omega arith)
first_by a (suc d) rows =
    let e : a + suc d ≡ suc (a + d) = omega arith in
    let below = first_by a d rows in
    subst (λ n. first_place a rows ≤ first_place n rows) (sym e) (omega arith)

pub first_up : (a b : ℕ) (rows : List VolumeRow) → a ≤ b → first_place a rows ≤ first_place b rows
first_up a b rows l = let e : a + (b - a) ≡ b = omega arith in subst (λ n. first_place a rows ≤ first_place n rows) e (first_by a (b - a) rows)

-- the devices of an earlier group stand before the area's of a later one
pub before_area : (a b p : ℕ) (rows : List VolumeRow) → a < b → p ≤ length (blocks_in_group a rows) → first_place a rows + p ≡ area_place b rows → ⊥
before_area a b p rows l m e = let up = first_up (suc a) b rows (omega arith) in omega arith

-- ## areas

-- what was written to an area's device stays where the devices of its group tell what they told
area_as : {D : Type 0} (told : D → Option (List (List ℕ))) (s : Plan) (hs : List History) (old new : List D) (g : ℕ)
    → ((u : ℕ) → u ≤ length (blocks_in_group g s.volumes) → told_by told new (first_place g s.volumes + u) ≡ told_by told old (first_place g s.volumes + u))
    → AreaHolds told s hs old g → AreaHolds told s hs new g
area_as told s hs old new g same holds = grind arith

joined : Option (Option (List (List ℕ))) → Option (List (List ℕ))
joined None = None
joined (Some o) = o

told_joined : {D : Type 0} (told : D → Option (List (List ℕ))) (ds : List D) (p : ℕ) → told_by told ds p ≡ joined (slice_get (map told ds) p)
unfolding joined
told_joined {D = D} told [] p = ap (told_of told) (slice_get_past {X = D} [] p (omega arith)) ∙ sym (ap joined (slice_get_past {X = Option (List (List ℕ))} [] p (omega arith)))
told_joined told (d ∷ ds) zero = refl
told_joined told (d ∷ ds) (suc p) = told_joined told ds p

pub told_same : {D : Type 0} (told : D → Option (List (List ℕ))) (old new : List D) → map told new ≡ map told old → (p : ℕ) → told_by told new p ≡ told_by told old p
told_same told old new e p = told_joined told new p ∙ ap (λ (os : List (Option (List (List ℕ)))). joined (slice_get os p)) e ∙ sym (told_joined told old p)

-- the areas of the first k groups hold
abbrev pub FirstHold : {D : Type 0} → (D → Option (List (List ℕ))) → Plan → List Move → List D → ℕ → Type 0
FirstHold told s trail devices k = (g : ℕ) → g < k → AreaHolds told s (state s (acts s trail)).volumes devices g

pub none_hold : {D : Type 0} (told : D → Option (List (List ℕ))) (s : Plan) (trail : List Move) (devices : List D) → FirstHold told s trail devices 0
none_hold told s trail devices = λ g l. absurd (omega arith)

pub below_or_at : (g k : ℕ) → g < k + 1 → (g < k) ⊎ (g ≡ k)
below_or_at g k l = grind arith

pub one_holds : {D : Type 0} (ghosts : Ghosts D) (old new : WorldValue D) (s : Plan) (trail : List Move) (k : ℕ) → StandsAfter ghosts.told old s trail
    → IsSynced ghosts old new s k → IsAreaHeld ghosts.told new s k
    → FirstHold ghosts.told s trail old.devices k → FirstHold ghosts.told s trail new.devices (k + 1)
one_holds {D = D} ghosts old new s trail k stands synced held first g l = by_place (below_or_at g k l)
  where
    by_place : (g < k) ⊎ (g ≡ k) → AreaHolds ghosts.told s (state s (acts s trail)).volumes new.devices g
    by_place (inl h) =
        area_as ghosts.told s (state s (acts s trail)).volumes old.devices new.devices g
        (λ u m. ap (told_of ghosts.told) (synced.elsewhere (first_place g s.volumes + u) (before_area g k u s.volumes h m))) (first g h)
    by_place (inr h) =
        subst (λ n. AreaHolds ghosts.told s (state s (acts s trail)).volumes new.devices n) (sym h)
        (held (acts s trail) (synced.stands_for (acts s trail) stands.stands))

pub all_hold : {D : Type 0} (told : D → Option (List (List ℕ))) (s : Plan) (trail : List Move) (devices : List D) (k many : ℕ) → many ≡ length s.groups
    → many ≤ k → FirstHold told s trail devices k → AreasHold told s trail devices
all_hold told s trail devices k many e l h = λ g m. h g (omega arith)

pub areas_quiet : {D : Type 0} (ghosts : Ghosts D) (old new : WorldValue D) (s : Plan) (trail : List Move) → IsQuiet ghosts old new s
    → AreasHold ghosts.told s trail old.devices → AreasHold ghosts.told s trail new.devices
areas_quiet ghosts old new s trail quiet h =
    λ g l. area_as ghosts.told s (state s (acts s trail)).volumes old.devices new.devices g
    (λ u m. told_same ghosts.told old.devices new.devices quiet.blocks (first_place g s.volumes + u)) (h g l)

-- ## What was brought to where it lasts has lasted, also after calls that leave what the devices tell as it was.

module _ {D : Type 0} (ghosts : Ghosts D) (s : Plan) where
  module _ (old new : WorldValue D) where
    -- one more volume was flushed
    pub volume_flushed : (k : ℕ) → IsQuiet ghosts old new s → LastsAt ghosts (volume_place s k) new.devices → FirstVolumesLasted ghosts s old.devices k
        → FirstVolumesLasted ghosts s new.devices (k + 1)
    volume_flushed k quiet lasts first v l = by_place (below_or_at v k l)
      where
        by_place : (v < k) ⊎ (v ≡ k) → LastsAt ghosts (volume_place s v) new.devices
        by_place (inl h) = quiet.lasts (volume_place s v) (first v h)
        by_place (inr h) = subst (λ n. LastsAt ghosts (volume_place s n) new.devices) (sym h) lasts

    -- one more area was synced
    pub area_synced : (k : ℕ) → IsSynced ghosts old new s k → LastsAt ghosts (area_place k s.volumes) new.devices → FirstAreasLasted ghosts s old.devices k
        → FirstAreasLasted ghosts s new.devices (k + 1)
    area_synced k synced lasts first g l = by_place (below_or_at g k l)
      where
        by_place : (g < k) ⊎ (g ≡ k) → LastsAt ghosts (area_place g s.volumes) new.devices
        by_place (inl h) = λ d at.
            first g h d (sym (synced.elsewhere (area_place g s.volumes) (before_area g k (length (blocks_in_group g s.volumes)) s.volumes h (omega arith))) ∙ at)
        by_place (inr h) = subst (λ n. LastsAt ghosts (area_place n s.volumes) new.devices) (sym h) lasts

    -- the volumes were flushed after the areas were synced
    pub both_lasted : IsQuiet ghosts old new s → FirstVolumesLasted ghosts s new.devices (length s.volumes)
        → FirstAreasLasted ghosts s old.devices (length s.groups) → HaveLasted ghosts s new.devices
    both_lasted quiet volumes areas = record { volumes = volumes; areas = λ g l. quiet.lasts (area_place g s.volumes) (areas g l) }

    still_lasted : IsQuiet ghosts old new s → HaveLasted ghosts s old.devices → HaveLasted ghosts s new.devices
    still_lasted quiet h = both_lasted quiet (λ v l. quiet.lasts (volume_place s v) (h.volumes v l)) h.areas

    -- so they are left, with their sizes
    pub left_quiet : IsQuiet ghosts old new s → HaveLasted ghosts s old.devices → IfStands ghosts.told new s (λ st. AreSized ghosts.size s new.devices) → (trail : List Move)
        → StandsAfter ghosts.told new s trail → AreLeft ghosts s new.devices
    left_quiet quiet h sized trail stands = record { sizes = sized (acts s trail) stands.stands; lasted = still_lasted quiet h }

  pub no_volume : (devices : List D) → FirstVolumesLasted ghosts s devices 0
  no_volume devices v l = absurd (omega arith)

  pub no_area : (devices : List D) → FirstAreasLasted ghosts s devices 0
  no_area devices g l = absurd (omega arith)

  pub each_volume : (devices : List D) (k many : ℕ) → many ≡ length s.volumes → many ≤ k → FirstVolumesLasted ghosts s devices k
      → FirstVolumesLasted ghosts s devices (length s.volumes)
  each_volume devices k many e l h v m = h v (omega arith)

  pub each_area : (devices : List D) (k many : ℕ) → many ≡ length s.groups → many ≤ k → FirstAreasLasted ghosts s devices k
      → FirstAreasLasted ghosts s devices (length s.groups)
  each_area devices k many e l h g m = h g (omega arith)

-- ## The volumes are digested one by one.

pub no_digest : (tells : List Bool) (s : Plan) (trail : List Move) (digests : List (List ℕ)) → FirstDigests tells s trail 0 digests
no_digest tells s trail digests = λ v digest l e. absurd (omega arith)

pub one_digest : (tells here : List Bool) (s : Plan) (trail : List Move) (k : ℕ) (digests : List (List ℕ)) (digest : List ℕ) → here ≡ tells → FirstDigests tells s trail k digests
    → IsDigestIf (slice_get here k) (bytes_after s trail k) digest → FirstDigests tells s trail (k + 1) (slice_set digests k digest)
one_digest tells here s trail k digests digest same first now v d l e = grind (arith, get-set, below_or_at)

pub all_digests : (tells : List Bool) (s : Plan) (trail : List Move) (k many : ℕ) (digests : List (List ℕ)) → many ≡ length s.volumes → many ≤ k
    → FirstDigests tells s trail k digests → AreDigests tells s trail digests
all_digests tells s trail k many digests e l h = λ v digest m is. h v digest (omega arith) is

pub digests_told : (tells here : List Bool) (s : Plan) (trail : List Move) (digests : List (List ℕ)) → here ≡ tells → AreDigests tells s trail digests → AreDigests here s trail digests
digests_told tells here s trail digests same h = subst (λ (ts : List Bool). AreDigests ts s trail digests) (sym same) h
