-- The set that the provider prepares is the one in progress, after each move of the sessions too.
use Rattle.std.proofs.Common.{◌≡◌, ℕ, zero, suc, ◌+◌, ◌<◌, ◌≤◌, ◌==◌, List, [], ◌∷◌, ◌++◌, refl, ap, sym, ◌∙◌, subst, arith, Bool, true, false, Option, Some}
use Rattle.std.proofs.Common.{None, inl, inr, map, length, slice_get, find, not, ◌&&◌, if◌then◌else◌}
use Rattle.vss_world.proofs.Words.{Act, Agenda, AllLive, AreGroups, AreKept, AreLive, Complete, EndsAs, Failed, Ghosts, History, Image, IsEnded, IsEndedAs}
use Rattle.vss_world.proofs.Words.{IsPrepared, IsReleased, IsSettled, NumberedFrom, Plan, ProviderValue, Running, SessionMove, SetOutcome, SetRow, State}
use Rattle.vss_world.proofs.Words.{counts_of, change_at, cut as history_cut, devices_of, dropped, ended_of, eqb-true, failed_set, has_failed, history_in}
use Rattle.vss_world.proofs.Words.{image_runs, images_after, in_progress, is_live, is_running, is_snapshot, kept_same, kept_trans, nat_tests, none_over}
use Rattle.vss_world.proofs.Words.{number_prepared, orderly, plain, point_in, state, true_not_false, volumes_of, without_images, without_set}
use Rattle.vss_world.proofs.Kept.{none_from}
use Rattle.vss_world.proofs.SetGoesOn.{skip, GoesOn, IsOver, IsOverIf, IsSameSet, runs_snapshot}

-- ## where nothing changes

pub prepared_same : {D : Type 0} (p q : ProviderValue D) (st : State) → q ≡ record p { groups = q.groups } → IsPrepared p st → IsPrepared q st
prepared_same p q st same h = grind arith

pub prepared_none : {D : Type 0} (p : ProviderValue D) (st : State) → p.volumes ≡ [] → p.set ≡ 0 → in_progress st ≡ None → IsPrepared p st
prepared_none p st volumes set none = grind arith

pub volumes_same : (o p : Option SetRow) → IsSameSet o p → volumes_of o ≡ volumes_of p
volumes_same o p same = grind arith

-- ## images of no set

-- each image is of a set above 0
abbrev AreAbove : List Image → Type 0
AreAbove [] = Unit {0}
AreAbove (i ∷ is) = (0 < i.set) × AreAbove is

abbrev pub NoneOfZero : List History → Type 0
NoneOfZero [] = Unit {0}
NoneOfZero (h ∷ hs) = AreAbove h.images × NoneOfZero hs

above_apart : (n : ℕ) → 0 < n → (n == 0) ≡ false
above_apart n l = grind (arith, nat_tests)

apart_above : (n : ℕ) → (n == 0) ≡ false → 0 < n
apart_above n e = grind (arith, nat_tests)

zero_not_live : (m : ℕ) (rows : List SetRow) → 1 ≤ m → NumberedFrom m rows → is_live rows 0 ≡ false
zero_not_live m [] l h = refl
zero_not_live m (r ∷ rows) l h =
    let here = h.0 in
    skip (r.number == 0) (not (has_failed r.result)) (is_live rows 0) (above_apart r.number (omega (arith, here, l))) ∙ zero_not_live (m + 1) rows (omega (arith, l)) h.1

live_above : (rows : List SetRow) (images : List Image) → is_live rows 0 ≡ false → AreLive rows images → AreAbove images
live_above rows [] e h = tt
live_above rows (i ∷ images) e h = (by_test (i.set == 0) refl, live_above rows images e h.1)
  where
    by_test : (b : Bool) → (i.set == 0) ≡ b → 0 < i.set
    by_test false f = apart_above i.set f
    by_test true f = absurd (true_not_false (is_live rows 0) (ap (is_live rows) (sym (eqb-true i.set 0 f)) ∙ h.0) e)

all_above : (rows : List SetRow) (hs : List History) → is_live rows 0 ≡ false → AllLive rows hs → NoneOfZero hs
all_above rows [] e h = tt
all_above rows (x ∷ hs) e h = (live_above rows x.images e h.0, all_above rows hs e h.1)

pub none_of_zero : (s : Plan) (acts : List Act) → NoneOfZero (state s acts).volumes
none_of_zero s acts = let o = orderly s acts in all_above (state s acts).sets (state s acts).volumes (zero_not_live 1 (state s acts).sets (omega arith) o.numbered) o.live

above_append : (images : List Image) (n p : ℕ) → 0 < n → AreAbove images → AreAbove (images ++ record { set = n; point = p } ∷ [])
above_append [] n p l h = (l, tt)
above_append (i ∷ images) n p l h = (h.0, above_append images n p l h.1)

pub image_above : (n v : ℕ) (hs : List History) → 0 < n → NoneOfZero hs → NoneOfZero (change_at v (history_cut n) hs)
image_above n v [] l h = tt
image_above n zero (x ∷ hs) l h = (above_append x.images n (length x.writes) l h.0, h.1)
image_above n (suc v) (x ∷ hs) l h = (h.0, image_above n v hs l h.1)

without_zero : (images : List Image) → AreAbove images → without_set 0 images ≡ images
without_zero [] h = refl
without_zero (i ∷ images) h = rw (above_apart i.set h.0) (ap (λ (is : List Image). i ∷ is) (without_zero images h.1))

pub zero_dropped : (hs : List History) → NoneOfZero hs → map (dropped 0) hs ≡ hs
zero_dropped [] h = refl
zero_dropped (x ∷ hs) h = ap (λ (is : List Image). record { writes = x.writes; images = is } ∷ map (dropped 0) hs) (without_zero x.images h.0)
    ∙ ap (λ (ks : List History). x ∷ ks) (zero_dropped hs h.1)

-- ## images of the set in progress

without_none : (n : ℕ) (images : List Image) → point_in n images ≡ None → without_set n images ≡ images
without_none n [] e = refl
without_none n (i ∷ images) e = by_test (i.set == n) e (without_none n images)
  where
    by_test : (b : Bool) → (if b then Some i.point else point_in n images) ≡ None → (point_in n images ≡ None → without_set n images ≡ images)
        → (if not b then i ∷ without_set n images else without_set n images) ≡ i ∷ images
    by_test true f rest = cc
    by_test false f rest = ap (λ (is : List Image). i ∷ is) (rest f)

nothing_dropped : (n : ℕ) (hs : List History) → ((k : ℕ) (h : History) → slice_get hs k ≡ Some h → point_in n h.images ≡ None) → map (dropped n) hs ≡ hs
nothing_dropped n [] none = refl
nothing_dropped n (x ∷ hs) none =
    ap (λ (is : List Image). record { writes = x.writes; images = is } ∷ map (dropped n) hs) (without_none n x.images (none 0 x refl))
    ∙ ap (λ (ks : List History). x ∷ ks) (nothing_dropped n hs (λ k h e. none (suc k) h e))

-- before its snapshot's agenda it has none
before_snapshot : (s : Plan) (acts : List Act) (r : SetRow) → in_progress (state s acts) ≡ Some r → runs_snapshot (state s acts).course.agenda ≡ false
    → map (dropped r.number) (state s acts).volumes ≡ (state s acts).volumes
before_snapshot s acts r e plain = nothing_dropped r.number (state s acts).volumes
    (λ k h at. none_from (point_in r.number h.images) (λ p f.
    let runs = image_runs s acts r k p e (ap (λ (x : History). point_in r.number x.images) (ap history_in at) ∙ f) in
    true_not_false (is_snapshot runs.agenda.kind) runs.snapshot (sym (ap runs_snapshot runs.runs) ∙ plain)))

-- the provider's number names the images of the set in progress, where it has any
pub number_dropped : (s : Plan) (acts : List Act) (r : SetRow) → in_progress (state s acts) ≡ Some r
    → map (dropped (number_prepared (Some r) (state s acts).course.agenda)) (state s acts).volumes ≡ map (dropped r.number) (state s acts).volumes
number_dropped s acts r e = grind (arith, zero_dropped, none_of_zero, before_snapshot)

pub runs_number : (r : SetRow) (a : Option Agenda) → runs_snapshot a ≡ true → number_prepared (Some r) a ≡ r.number
runs_number r a e = grind arith

-- ## a move of the sessions

-- the set in progress is over after a move
pub record EndsHere (st next : State) (n : ℕ) (result : SetOutcome) : Type 0 where
  pub row : SetRow
  pub is : in_progress st ≡ Some row
  pub number : suc n ≡ row.number
  pub over : is_running result ≡ false
  pub none : in_progress next ≡ None

-- what is known of a move: the volumes that its event made, and what becomes of the set
pub record IsSetMove {D : Type 0} (p : ProviderValue D) (st next : State) (made : List History) : Type 0 where
  pub goes : GoesOn st next
  pub numbered : NumberedFrom 1 next.sets
  pub prepared : IsPrepared p st
  pub above : NoneOfZero made
  pub same : (r : SetRow) → in_progress st ≡ Some r → map (dropped p.set) made ≡ map (dropped r.number) made

module _ {D : Type 0} (device : Ghosts D) (s : Plan) (p : ProviderValue D) (st next : State) (made : List History) (is : IsSetMove p st next made)
    (groups : AreGroups device.told s p.groups made) where
  abbrev Comes : SetOutcome → ℕ → ProviderValue D → Type 0
  Comes result n q = IsPrepared q next × AreGroups device.told s q.groups (without_images (failed_set result n) made)

  nothing_ends : (result : SetOutcome) (q : ProviderValue D) → q ≡ p → EndsAs (ended_of (in_progress st) next.sets) 0 result → Comes result 0 q
  nothing_ends result q same ends = grind (arith, prepared_none, zero_dropped)

  -- a set that ends is not in progress any more
  gone_from : (n : ℕ) (result : SetOutcome) (o : Option SetRow) → in_progress st ≡ o → EndsAs (ended_of o next.sets) (suc n) result → EndsHere st next n result
  gone_from n result None e ends = cc
  gone_from n result (Some r) e ends = by_way is.goes
    where
      by_way : GoesOn st next → EndsHere st next n result
      by_way (inl stays) = by_set (in_progress next) refl (subst (λ (x : Option SetRow). IsSameSet x (in_progress next)) e stays.set)
        where
          by_set : (x : Option SetRow) → in_progress next ≡ x → IsSameSet (Some r) x → EndsHere st next n result
          by_set None f same = absurd same
          by_set (Some q) f same =
              let none : ended_of (Some r) next.sets ≡ None = ap (λ (m : ℕ). find (λ (z : SetRow). (z.number == m) && not (is_running z.result)) next.sets) (sym same.0)
              ∙ none_over 1 next.sets q is.numbered f in
              absurd (let h = subst (λ (x : Option SetRow). EndsAs x (suc n) result) none ends in cc)
      by_way (inr over) =
          let o : IsOver r next.sets = subst (λ (x : Option SetRow). IsOverIf x next.sets) e over.over in
          let h = subst (λ (x : Option SetRow). EndsAs x (suc n) result) o.ended ends in
          record { row = r; is = e; number = h.0 ∙ o.number; over = ap is_running h.1 ∙ o.over; none = over.none }

  one_ends : (n : ℕ) (result : SetOutcome) (q : ProviderValue D) → IsEndedAs device result p q → EndsAs (ended_of (in_progress st) next.sets) (suc n) result → Comes result (suc n) q
  one_ends n Running q h ends = let g = (gone_from n Running (in_progress st) refl ends).over in cc
  one_ends n Complete q h ends =
      let g = gone_from n Complete (in_progress st) refl ends in
      subst (λ (z : ProviderValue D). Comes Complete (suc n) z) (sym h) (prepared_none (record { groups = p.groups; set = 0; volumes = [] }) next refl refl g.none, groups)
  one_ends n (Failed why) q h ends =
      let g = gone_from n (Failed why) (in_progress st) refl ends in (
        prepared_none q next (ap (λ (z : ProviderValue D). z.volumes) h.2) (ap (λ (z : ProviderValue D). z.set) h.2) g.none,
        subst (AreGroups device.told s q.groups) (is.same g.row g.is ∙ ap (λ (m : ℕ). map (dropped m) made) (sym g.number)) (h.1.stands s made groups),
      )

  ended_comes : (n : ℕ) (result : SetOutcome) (q : ProviderValue D) → IsEnded device n result p q → EndsAs (ended_of (in_progress st) next.sets) n result → Comes result n q
  ended_comes zero result q h ends = nothing_ends result q h ends
  ended_comes (suc n) result q h ends = one_ends n result q h ends

  released_comes : (o : Option ℕ) (q r : ProviderValue D) (hs : List History) → IsReleased device o q r → IsPrepared q next → AreGroups device.told s q.groups hs
      → IsPrepared r next × AreGroups device.told s r.groups (without_images o hs)
  released_comes None q r hs h prepared stand = subst (λ (z : ProviderValue D). IsPrepared z next × AreGroups device.told s z.groups hs) (sym h) (prepared, stand)
  released_comes (Some n) q r hs h prepared stand = (prepared_same q r next h.2 prepared, h.1.stands s hs stand)

  pub settled_comes : (m : SessionMove) (q : ProviderValue D) → IsSettled device m p q → EndsAs (ended_of (in_progress st) next.sets) m.outcome.set m.outcome.result
      → next.volumes ≡ images_after m made → IsPrepared q next × AreGroups device.told s q.groups next.volumes
  settled_comes m q h ends volumes =
      let e = ended_comes m.outcome.set m.outcome.result h.0 h.1 ends in
      let r = released_comes m.released h.0 q (without_images (failed_set m.outcome.result m.outcome.set) made) h.2 e.0 e.1 in
      (r.0, subst (AreGroups device.told s q.groups) (sym volumes) r.1)

-- ## a move in which no set ends

-- the provider's set stays
pub record IsUnended {D : Type 0} (told : D → Option (List (List ℕ))) (s : Plan) (p q : ProviderValue D) (hs : List History) : Type 0 where
  pub volumes : q.volumes ≡ p.volumes
  pub set : q.set ≡ p.set
  pub groups : AreGroups told s q.groups hs

module _ {D : Type 0} (device : Ghosts D) (s : Plan) (p : ProviderValue D) (made : List History) (above : NoneOfZero made) (groups : AreGroups device.told s p.groups made) where
  releases : (o : Option ℕ) (q : ProviderValue D) (hs : List History) → IsReleased device o p q → AreGroups device.told s p.groups hs → IsUnended device.told s p q (without_images o hs)
  releases None q hs h stand = subst (λ (z : ProviderValue D). IsUnended device.told s p z hs) (sym h) (record { volumes = refl; set = refl; groups = stand })
  releases (Some n) q hs h stand = record { volumes = ap (λ (z : ProviderValue D). z.volumes) h.2; set = ap (λ (z : ProviderValue D). z.set) h.2; groups = h.1.stands s hs stand }

  pub unended : (next : State) (m : SessionMove) (q : ProviderValue D) → IsSettled device m p q → m.outcome.set ≡ 0 → next.volumes ≡ images_after m made → IsUnended device.told s p q next.volumes
  unended next m q h none volumes =
      let same : h.0 ≡ p = grind (arith, h.1) in
      subst (IsUnended device.told s p q) (sym volumes)
      (releases m.released q (without_images (failed_set m.outcome.result m.outcome.set) made) (subst (λ (z : ProviderValue D). IsReleased device m.released z q) same h.2)
      (grind (arith, zero_dropped)))

-- ## the devices stay

module _ {D : Type 0} (device : Ghosts D) where
  as_it_was : (p q : ProviderValue D) → q.groups ≡ p.groups → AreKept device p.groups q.groups × (devices_of q.groups ≡ devices_of p.groups)
  as_it_was p q same = (subst (λ gs. AreKept device p.groups gs) (sym same) (kept_same device p.groups), ap devices_of same)

  ended_keeps : (n : ℕ) (result : SetOutcome) (p q : ProviderValue D) → IsEnded device n result p q → AreKept device p.groups q.groups × (devices_of q.groups ≡ devices_of p.groups)
  ended_keeps zero result p q h = as_it_was p q (ap (λ (z : ProviderValue D). z.groups) h)
  ended_keeps (suc n) Running p q h = as_it_was p q (ap (λ (z : ProviderValue D). z.groups) h)
  ended_keeps (suc n) Complete p q h = as_it_was p q (ap (λ (z : ProviderValue D). z.groups) h)
  ended_keeps (suc n) (Failed why) p q h = (h.1.kept, h.1.devices)

  released_keeps : (o : Option ℕ) (p q : ProviderValue D) → IsReleased device o p q → AreKept device p.groups q.groups × (devices_of q.groups ≡ devices_of p.groups)
  released_keeps None p q h = as_it_was p q (ap (λ (z : ProviderValue D). z.groups) h)
  released_keeps (Some n) p q h = (h.1.kept, h.1.devices)

  settled_as : (m : SessionMove) (p q : ProviderValue D) → IsSettled device m p q → AreKept device p.groups q.groups × (devices_of q.groups ≡ devices_of p.groups)
  settled_as m p q h = grind (arith, ended_keeps, released_keeps, kept_trans)

  pub settled_keeps : (m : SessionMove) (p q : ProviderValue D) → IsSettled device m p q → AreKept device p.groups q.groups × (counts_of device.count q.groups ≡ counts_of device.count p.groups)
  settled_keeps m p q h = let a = settled_as m p q h in (a.0, ap (map device.count) a.1)
