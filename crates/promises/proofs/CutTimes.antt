-- A set is cut in the act of its Cut step, its row has the clock at its cut, and `properties` tells it.
use Rattle.std.proofs.Common.{◌≡◌, ◌∙◌, ℕ, ◌==◌, List, [], ◌∷◌, ◌++◌, Option, Some, None, refl, Bool, true, false, ap, sym, subst, map, find, arith}
use Rattle.std.specs.Prelude.{◌&&◌, option_map, if◌then◌else◌, drop, filter, is_some, unwrap_or, length}
use Rattle.scenario.specs.declared.op.Op.TheVariants as op
use Rattle.vss_model.specs.Changes.{Settles}
use Rattle.vss_model.specs.Cut.{cut_if}
use Rattle.promises.proofs.Contexts.{settled_number, changed_number}
use Rattle.promises.proofs.KeptCopies.{earlier, overwritten_along, since_cut}
use Rattle.promises.proofs.Replies.{point_of, at_the_cut}
use Rattle.promises.proofs.Words.{number_is, true_not_false, SetOutcome, Mark, open_group, Plan, Event, State, SetRow, in_progress, row_changed, left_now, Act}
use Rattle.promises.proofs.Words.{after, state, state-append, cuts, or_cut, cut-append, both, after_cut, not_cut_yet, orderly, row_running, Course}
use Rattle.promises.proofs.Words.{stepped as course_stepped, row_settled, runs, followed, cut_set, with_volume, row_cut, is_provider, is_cut_group, is_set}
use Rattle.promises.proofs.Words.{is_cut_of, cut, Change, StartsSet, AddsVolume, IsCutAt, apply, Comes, by_changes, by_last, Provider, reply}
use Rattle.promises.proofs.Words.{event_reply, CutsAtTheStep, is_cut_reply, is_number, range_with_len, AreInTime, images_in_time, is_overwritten, Write, Image}
use Rattle.promises.proofs.Words.{point_in, named, names, used_by, writes_since, blocks_of, Line, PropertiesOf, Kept, kept_of, kept_image, row_of, history_of}
use Rattle.promises.proofs.Words.{properties, row_number, TellsTheImage, PropertiesTell, some_same, overwritten}

-- ## The row of a set that was cut has the clock at its cut: only the Cut step writes it, and it comes once.

-- ## the time of a set

abbrev pub time_in : List SetRow → ℕ → Option (Option ℕ)
time_in rows n = option_map (λ (r : SetRow). r.cut_at) (find (λ (r : SetRow). r.number == n) rows)

time_map : (f : SetRow → SetRow) → ((r : SetRow) → (f r).number ≡ r.number) → (n : ℕ) → ((r : SetRow) → (r.number == n) ≡ true → (f r).cut_at ≡ r.cut_at)
    → (rows : List SetRow) → time_in (map f rows) n ≡ time_in rows n
time_map f num n times [] = refl
time_map f num n times (r ∷ rows) = grind (arith, time_map f num n times rows)

-- a set that is there stays, where another is started
time_more : (rows : List SetRow) (r : SetRow) (n : ℕ) (t : Option ℕ) → time_in rows n ≡ Some t → time_in (rows ++ r ∷ []) n ≡ Some t
time_more [] r n t e = absurd cc
time_more (q ∷ rows) r n t e = grind (arith, time_more rows r n t)

-- the cut of another set
time_cut_other : (m now n : ℕ) (rows : List SetRow) → (m == n) ≡ false → time_in (map (row_cut m now) rows) n ≡ time_in rows n
time_cut_other m now n rows e = grind (arith, time_map, changed_number, number_is, true_not_false)

-- its own
time_cut_own : (n now : ℕ) (rows : List SetRow) (q : SetRow) → find (λ (r : SetRow). r.number == n) rows ≡ Some q → time_in (map (row_cut n now) rows) n ≡ Some (Some now)
time_cut_own n now [] q e = absurd cc
time_cut_own n now (r ∷ rows) q e = grind (arith, time_cut_own n now rows q)

-- ## what keeps it

abbrev SameTimes : State → State → Type 0
SameTimes st x = (n : ℕ) → time_in x.sets n ≡ time_in st.sets n

times_settled : (o : SetOutcome) (rows : List SetRow) (n : ℕ) → time_in (map (row_settled o) rows) n ≡ time_in rows n
times_settled o rows n = time_map (row_settled o) (settled_number o) n (λ r e. grind arith) rows

times_followed : (ran : Bool) (c : Course) (x : State) → SameTimes x (followed ran c x)
unfolding followed
times_followed ran c x n = grind (arith, times_settled)

module _ (s : Plan) (st : State) (n : ℕ) (t : Option ℕ) where
  keeps_time : (e : Event) (m : Mark) → is_cut_of n st (record { event = e; mark = m }) ≡ false → (c : Change) (x : State) → Comes s e m st x c
      → time_in x.sets n ≡ Some t → time_in (apply x c).sets n ≡ Some t
  keeps_time e m f (StartsSet r) x i h = time_more x.sets r n t h
  keeps_time e m f (AddsVolume k v) x i h = time_map (row_changed k (with_volume v)) (λ r. changed_number k (with_volume v) r refl) n (λ r g. grind arith) x.sets ∙ h
  keeps_time e m f (IsCutAt k now) x i h = time_cut_other k now n x.sets (grind (arith, i.0)) ∙ h
  keeps_time e m f (Settles o) x i h = times_settled o x.sets n ∙ h
  keeps_time e m f _ x i h = h

  time_stays : (act : Act) → is_cut_of n st act ≡ false → time_in st.sets n ≡ Some t → time_in (after s st act).sets n ≡ Some t
  time_stays act f h = by_changes (λ x. time_in x.sets n ≡ Some t) s st act (keeps_time act.event act.mark f) h

-- ## at its cut

module _ (s : Plan) (so_far : List Act) (act : Act) (n : ℕ) where
  abbrev st : State
  st = state s so_far

  -- the Cut step of set n
  cut_now : (o : Option SetRow) → in_progress st ≡ o → is_set n o ≡ true → is_cut_group (open_group (left_now st)) ≡ true → is_provider act.event ≡ true
      → time_in (after s st act).sets n ≡ Some (Some st.clock)
  cut_now None e f g h = absurd cc
  cut_now (Some r) e f g h =
      ap (λ (x : State). time_in x.sets n) (after_cut s st act h g)
      ∙ times_followed (runs st) (course_stepped true st.clock st.course) (cut_set (in_progress st) st) n
      ∙ ap (λ o. time_in (cut_set o st).sets n) e
      ∙ subst (λ m. time_in (map (row_cut m st.clock) st.sets) n ≡ Some (Some st.clock)) (sym (number_is r.number n f))
      (time_cut_own n st.clock st.sets r (subst (λ m. find (λ (x : SetRow). x.number == m) st.sets ≡ Some r) (number_is r.number n f) (row_running 1 st.sets r (orderly s so_far).numbered e)))

  -- it comes once
  pub cut_before : (o : Option SetRow) (before : List Act) → in_progress st ≡ o → is_set n o ≡ true → is_cut_group (open_group (left_now st)) ≡ true → cut s n so_far ≡ Some before → ⊥
  cut_before o before e f g h = grind (arith, number_is, not_cut_yet, cuts)

  time_next : (o : Option (List Act)) (b : Bool) (before : List Act) → cut s n so_far ≡ o → is_cut_of n st act ≡ b → or_cut o (cut_if b so_far None) ≡ Some before
      → ((past : List Act) → cut s n so_far ≡ Some past → time_in st.sets n ≡ Some (Some (state s past).clock)) → time_in (after s st act).sets n ≡ Some (Some (state s before).clock)
  time_next o b before e c f h = grind (arith, both, cut_before, time_stays, cut_now)

abbrev Timed : Plan → List Act → Type 0
Timed s so_far = (n : ℕ) (before : List Act) → cut s n so_far ≡ Some before → time_in (state s so_far).sets n ≡ Some (Some (state s before).clock)

timed_next : (s : Plan) (so_far : List Act) (act : Act) → Timed s so_far → Timed s (so_far ++ act ∷ [])
timed_next s so_far act h n before e = grind (arith, state-append, time_next, cut-append)

-- the row of a set that was cut
pub cut_time : (s : Plan) (so_far : List Act) (n : ℕ) (before : List Act) → cut s n so_far ≡ Some before → time_in (state s so_far).sets n ≡ Some (Some (state s before).clock)
cut_time s so_far n before e = by_last (Timed s) (timed_next s) (λ m b f. absurd cc) so_far n before e

-- ## A set is cut in the act of its Cut step.

module _ (s : Plan) (so_far : List Act) (act : Act) (n : ℕ) where
  abbrev st_at_cut : State
  st_at_cut = state s so_far

  stepped : act.event ≡ Provider → cut s n (so_far ++ act ∷ []) ≡ (if is_cut_reply (reply s st_at_cut act) && is_number n (in_progress st_at_cut) then Some so_far else cut s n so_far)
  stepped e =
      cut-append s n so_far act
      ∙ ap (λ (x : Event). or_cut (cut s n so_far) (cut_if (is_provider x && is_cut_group (open_group (left_now st_at_cut)) && is_set n (in_progress st_at_cut)) so_far None)) e
      ∙ by_step (is_cut_group (open_group (left_now st_at_cut))) (is_set n (in_progress st_at_cut)) (cut s n so_far) refl refl refl
      ∙ ap (λ b. if b && is_set n (in_progress st_at_cut) then Some so_far else cut s n so_far)
      (sym (grind arith) ∙ sym (ap (λ (x : Event). is_cut_reply (event_reply s st_at_cut x act.mark)) e))
      ∙ ap (λ b. if is_cut_reply (reply s st_at_cut act) && b then Some so_far else cut s n so_far) (sym (grind arith)) where
        by_step : (a b : Bool) (o : Option (List Act)) → is_cut_group (open_group (left_now st_at_cut)) ≡ a → is_set n (in_progress st_at_cut) ≡ b → cut s n so_far ≡ o
            → or_cut o (cut_if (true && a && b) so_far None) ≡ (if a && b then Some so_far else o)
        by_step a b o e f g = grind (arith, cut_before)

pub cuts_at_the_step : (s : Plan) (so_far : List Act) (act : Act) → CutsAtTheStep s so_far act
cuts_at_the_step s so_far act = grind (arith, stepped, cut-append)

-- ## `properties` tells a kept image: its set's context, the clock at the cut, and the slots that it uses.

-- ## the row of a kept image

row_of_kept : (row : Option SetRow) (o : Option ℕ) (k : Kept) → kept_of row o ≡ Some k → row ≡ Some k.row
row_of_kept row o k e = grind arith

-- ## the slots that it uses

filter_along : (f g : ℕ → Bool) → ((b : ℕ) → f b ≡ g b) → (bs : List ℕ) → filter f bs ≡ filter g bs
filter_along f g same bs = grind arith

uses : (n set p : ℕ) (ws : List Write) (images : List Image) → AreInTime (length ws) images → point_in set images ≡ Some p
    → used_by n ws images set ≡ Some (overwritten n set p (record { writes = ws; images = images }))
uses n set p ws [] t e = absurd cc
uses n set p ws (i ∷ newer) t e = by_head (i.set == set) refl e (λ f. uses n set p ws newer t.2 f) where
  by_head : (b : Bool) → (i.set == set) ≡ b → (if b then Some i.point else point_in set newer) ≡ Some p
      → (point_in set newer ≡ Some p → used_by n ws newer set ≡ Some (overwritten n set p (record { writes = ws; images = newer })))
      → (if b then Some (length (named n ws i newer)) else used_by n ws newer set) ≡ Some (overwritten n set p (record { writes = ws; images = i ∷ newer }))
  by_head true f e ih =
      ap (λ (bs : List ℕ). Some (length bs)) (filter_along (names (writes_since ws i.point newer)) (λ b. is_overwritten set b (i ∷ newer) p (drop p ws))
      (λ b. since_cut set b ws i newer t.1 t.2 f ∙ ap (λ q. is_overwritten set b (i ∷ newer) q (drop q ws)) (some_same i.point p e)) (range_with_len 0 n))
  by_head false f e ih =
      ih e ∙ ap (λ (bs : List ℕ). Some (length bs)) (filter_along (λ b. is_overwritten set b newer p (drop p ws)) (λ b. is_overwritten set b (i ∷ newer) p (drop p ws))
      (λ b. overwritten_along set b i newer p (drop p ws) (earlier set p i newer t.1 e)) (range_with_len 0 n))

-- ## the reply

time_of : (o : Option SetRow) (r : SetRow) (t : Option ℕ) → o ≡ Some r → option_map (λ (x : SetRow). x.cut_at) o ≡ Some t → r.cut_at ≡ t
time_of o r t e f = some_same r.cut_at t (sym (ap (option_map (λ (x : SetRow). x.cut_at)) e) ∙ f)

module _ (s : Plan) (so_far : List Act) (act : Act) (lane n v : ℕ) (e : act.event ≡ Line lane (op.Properties n v)) where
  abbrev st_asked : State
  st_asked = state s so_far

  told : reply s st_asked act ≡ (properties s v (kept_image st_asked n v) st_asked).0
  told = ap (λ x. (event_reply s st_asked x act.mark)) e

  image_told : (o : Option Kept) → kept_image st_asked n v ≡ o → is_some o ≡ true → TellsTheImage s so_far n v (reply s st_asked act)
  image_told None f g = absurd cc
  image_told (Some k) f g =
      let cut = at_the_cut s so_far n v k f in
      let row = row_of_kept (row_of st_asked n) (point_in n (history_of st_asked v).images) k f in
      let point = point_of (row_of st_asked n) (point_in n (history_of st_asked v).images) k f in
      let used = uses (blocks_of s v) n k.point (history_of st_asked v).writes (history_of st_asked v).images (images_in_time s so_far v) point in
      let time = time_of (row_of st_asked n) k.row (Some (state s cut.before).clock) row (cut_time s so_far n cut.before cut.is_cut) in
      let number = row_number n st_asked.sets k.row row in
      record {
        set = k.row;
        is_set = row;
        before = cut.before;
        is_cut = cut.is_cut;
        slots = overwritten (blocks_of s v) n k.point (history_of st_asked v);
        point = k.point;
        is_point = point;
        uses = refl;
        tells = told ∙ ap (λ o. (properties s v o st_asked).0) f
            ∙ ap (λ t. PropertiesOf k.row.context (unwrap_or t 0) (unwrap_or (used_by (blocks_of s v) (history_of st_asked v).writes (history_of st_asked v).images k.row.number) 0)) time
            ∙ ap (λ m. PropertiesOf k.row.context (state s cut.before).clock (unwrap_or (used_by (blocks_of s v) (history_of st_asked v).writes (history_of st_asked v).images m) 0)) number
            ∙ ap (λ u. PropertiesOf k.row.context (state s cut.before).clock (unwrap_or u 0)) used;
      }

pub properties_tell : (s : Plan) (so_far : List Act) (act : Act) → PropertiesTell s so_far act
properties_tell s so_far act = grind (arith, image_told, told)
