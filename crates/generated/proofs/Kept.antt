-- At the end every set's image is kept on every volume.
use Rattle.std.proofs.Common.{◌≡◌, ℕ, zero, suc, ◌+◌, ◌<◌, ◌≤◌, List, [], ◌∷◌, ◌++◌, Option, Some, None, refl, Bool, true, false, ap, sym, ◌∙◌, ◌==◌, subst}
use Rattle.std.proofs.Common.{length, arith, inl, inr}
use Rattle.std.specs.Prelude.{is_some, filter, nat_lt, ◌⊎◌, ◌&&◌, ◌||◌, not, if◌then◌else◌}
use Rattle.std.proofs.lemmas.Bool.{eq-eqb, eqb-true}
use Rattle.std.proofs.lemmas.Grind.{common_steps}
use Rattle.generated.proofs.Terms.{list_all, list_any, range_with_len, nat_tests, Move, Image, History, sets_of, point_in, AreInTime, AreLater, Group, Cut}
use Rattle.generated.proofs.Terms.{Commit, Agenda, open_group, next_volume, is_among, Stage, Prepared, Plan, Event, Provider, State, SetRow, has_image}
use Rattle.generated.proofs.Terms.{is_complete, in_progress, kept, history_of, left_now, runs, cut_set, image_made, step_made, volumes_of, after, state, Act}
use Rattle.generated.proofs.Terms.{Run, begin, event_of, act_of, acts, after_event, moved, run_from, may_move, allows, is_legal_move, is_legal_from, is_legal}
use Rattle.generated.proofs.Terms.{faults, NumberedFrom, IsOrderly, AreLive, is_live, has_failed, has_complete, kind_is, state-run, images_in_time, orderly}
use Rattle.generated.proofs.Terms.{Place, Free, Stands, Waits, is_full, IsSmooth, and_left, and_right, live_at, true_not_false, complete_before}
use Rattle.generated.proofs.Terms.{completes_imaged, as_many_after, snapshots, each_change}
use Rattle.set_agenda.specs.declared.kind.Kind.TheVariants.{Snapshot}
use Rattle.write_history.specs.History.{cut as history_cut}
use Rattle.vss_model.specs.Trail.{is_complete as is_complete_trail}
use Rattle.generated.proofs.Standing.{IsStage, IsPlace, IsAt, IsOnWay}
use Rattle.generated.proofs.Moves.{below_range, IsReached, orderly_now, IsBefore, on_move, spot_full}
use Rattle.generated.proofs.Ways.{live_within}
use Rattle.generated.proofs.Runs.{clean_first, way_after, at_start, smooth_runs}
use Rattle.generated.proofs.Volumes.{made_by, IsGrown, IsGrownIf, move_grown}

-- ## a set that is complete has its image on each volume

-- the place of a state whose agenda is a snapshot's
record IsMaking (g : Stage) (vs : List ℕ) (st : State) : Type 0 where
  stage : g ≡ Prepared
  volumes : volumes_of (in_progress st) ≡ vs

is_making : (g : Stage) (vs : List ℕ) (st : State) (a : Agenda) → IsStage g vs true st.session (runs st) st.sets → IsOrderly st → st.course.agenda ≡ Some a → a.kind ≡ Snapshot → IsMaking g vs st
is_making g vs st a at o e k = grind arith

all_among : (s : Plan) (c : ℕ) (p : Place) (k : ℕ) (vs : List ℕ) (st : State) (a : Agenda) (r : SetRow) → IsAt s p k vs st → is_full c p vs ≡ true → IsOrderly st → st.course.agenda ≡ Some a → a.kind ≡ Snapshot → in_progress st ≡ Some r
    → (v : ℕ) → v < c → is_among v r.volumes ≡ true
all_among s c Free k vs st a r h full o e f g v l = absurd (true_not_false (runs st) (ap is_some e) h.place.1)
all_among s c (Stands x) k vs st a r h full o e f g v l = absurd (true_not_false (runs st) (ap is_some e) h.place.is_busy)
all_among s c (Waits x) k vs st a r h full o e f g v l = by_place h.place
  where
    less : (a b : ℕ) → a < b → nat_lt a b ≡ true
    less a b l = grind (arith, nat_tests)

    by_place : IsPlace (Waits x) vs st.session (runs st) st.sets → is_among v r.volumes ≡ true
    by_place (inr quiet) = absurd (true_not_false (runs st) (ap is_some e) quiet.is_busy)
    by_place (inl busy) =
        let making = is_making x vs st a busy o e f in
        let own : r.volumes ≡ vs = ap volumes_of (sym g) ∙ making.volumes in
        let is : list_all (λ u. is_among u vs) (range_with_len 0 c) ≡ true = subst (λ y. is_full c (Waits y) vs ≡ true) making.stage full in
        subst (λ us. is_among v us ≡ true) (sym own) (below_range (λ u. is_among u vs) c v (less v c l) is)

keeps_made : (m n : ℕ) (h : History) → has_image n h ≡ true → has_image n (history_cut m h) ≡ true
keeps_made m n h e = first h.images e where
  first : (images : List Image) → is_some (point_in n images) ≡ true → is_some (point_in n (images ++ record { set = m; point = length h.writes } ∷ [])) ≡ true
  first [] f = absurd cc
  first (i ∷ images) f = grind (arith, common_steps, first images)

made_has : (n v : ℕ) (g : Option Group) (u : Option ℕ) (st : State) → has_image n (history_of st v) ≡ true → has_image n (history_of (step_made g u st) v) ≡ true
made_has n v (Some Cut) u st h = cut_has (in_progress st) h where
  cut_has : (o : Option SetRow) → has_image n (history_of st v) ≡ true → has_image n (history_of (cut_set o st) v) ≡ true
  cut_has None h = h
  cut_has (Some r) h = h
made_has n v (Some Commit) u st h = image_has (in_progress st) u h where
  image_has : (o : Option SetRow) (u : Option ℕ) → has_image n (history_of st v) ≡ true → has_image n (history_of (image_made o u st) v) ≡ true
  image_has (Some r) (Some u) h = each_change (λ x y. has_image n x ≡ true → has_image n y ≡ true) (λ x f. f) (history_cut r.number) (keeps_made r.number n) u st.volumes v h
  image_has _ _ h = h
made_has n v _ u st h = h

by_event : (n v : ℕ) (event : Event) (st : State) → has_image n (history_of st v) ≡ true → has_image n (history_of (made_by st event) v) ≡ true
by_event n v Provider st h = made_has n v (open_group (left_now st)) (next_volume (left_now st)) st h
by_event n v _ st h = h

abbrev HasAll : Plan → State → Type 0
HasAll s st = (n v : ℕ) → has_complete st.sets n ≡ true → v < length s.volumes → has_image n (history_of st v) ≡ true

has_snapshot : (o : Option Agenda) → snapshots o ≡ true → (a : Agenda) × ((o ≡ Some a) × (a.kind ≡ Snapshot))
has_snapshot None e = absurd cc
has_snapshot (Some a) e = (a, (refl, kind_is a.kind e))

-- ## every move keeps it

module _ (s : Plan) (n : ℕ) (r : Run) (before : IsBefore s n r) where
  all_after : (act : Act) (event : Event) → IsGrown s r.state (after s r.state act) event → HasAll s r.state → HasAll s (after s r.state act)
  all_after act event grown h m v c l =
      let so_far = before.reached.so_far in
      by_way (complete_before s so_far act m (subst (λ (st : State). has_complete (after s st act).sets m ≡ true) before.reached.is c)) where
        complete : (row : SetRow) → row.number ≡ m → has_complete (after s (state s before.reached.so_far) act).sets row.number ≡ true
        complete row same = subst (λ k. has_complete (after s (state s before.reached.so_far) act).sets k ≡ true) (sym same)
            (subst (λ (st : State). has_complete (after s st act).sets m ≡ true) before.reached.is c)

        by_way : (has_complete (state s before.reached.so_far).sets m ≡ true) ⊎ ((row : SetRow) × ((in_progress (state s before.reached.so_far) ≡ Some row) × (row.number ≡ m)))
            → has_image m (history_of (after s r.state act) v) ≡ true
        by_way (inl was) =
            subst (λ is. is_some (point_in m is) ≡ true) (sym (grown.images v)) (by_event m v event r.state (h m v (subst (λ (st : State). has_complete st.sets m ≡ true) (sym before.reached.is) was) l))
        by_way (inr (row, (found, same))) =
            let spot = before.way.spot in
            let done = completes_imaged s before.reached.so_far act row found (complete row same) in
            let runs_now = has_snapshot r.state.course.agenda (subst (λ (st : State). snapshots st.course.agenda ≡ true) (sym before.reached.is) done.0) in
            let among = all_among s (length s.volumes) spot.place spot.sets spot.volumes r.state runs_now.0 row before.way.at (spot_full (length s.volumes) n before.way.asked spot before.way.leads)
            (orderly_now s r.state before.reached) runs_now.1.0 runs_now.1.1 (ap in_progress before.reached.is ∙ found) v l in
            subst (λ k. has_image k (history_of (after s r.state act) v) ≡ true) same
            (subst (λ (st : State). has_image row.number (history_of (after s st act) v) ≡ true) (sym before.reached.is)
            (done.1 v among (subst (λ k. v < k) (sym (as_many_after s before.reached.so_far act)) l)))

  all_more : (m : Move) (x : Option Event) → IsGrownIf s r m x → HasAll s r.state → HasAll s (after_event s r.state x m.mark)
  unfolding IsGrownIf
  all_more m None grown h = absurd grown
  all_more m (Some event) grown h = all_after (act_of m.mark event) event grown h

-- ## all moves

all_images : (s : Plan) (n : ℕ) (r : Run) (ms : List Move) → IsSmooth n s → IsOnWay s n r → HasAll s r.state → is_legal_from s r ms ≡ true → faults ms ≡ 0 → HasAll s (run_from s r ms).state
all_images s n r [] smooth way h legal clean = h
all_images s n r (m ∷ ms) smooth way h legal clean =
    let reached : IsReached s r.state = record { so_far = way.so_far; is = way.reached } in
    let before : IsBefore s n r = record { smooth = smooth; reached = reached; way = way } in
    let marks = clean_first m ms clean in
    let may = and_left (may_move s r m.actor) (allows s r (event_of s r m.actor) m.mark) (and_left (is_legal_move s r m) (is_legal_from s (moved s r m) ms) legal) in
    all_images s n (moved s r m) ms smooth (way_after s n r m (event_of s r m.actor) reached (on_move s n r m m.actor before refl marks.first may))
    (all_more s n r before m (event_of s r m.actor) (move_grown s n r m m.actor before refl marks.first may) h)
    (and_right (is_legal_move s r m) (is_legal_from s (moved s r m) ms) legal) marks.rest

-- ## at the end

complete_at : (j n : ℕ) (rows : List SetRow) → NumberedFrom j rows → list_all (λ r. is_complete r.result) rows ≡ true → j ≤ n → n < j + length rows → has_complete rows n ≡ true
complete_at j n [] numbered e l k = absurd (omega (arith, l, k))
complete_at j n (r ∷ rows) numbered e l k = by_number (r.number == n) refl (λ more. complete_at (j + 1) n rows numbered.1 (and_right (is_complete r.result) _ e) more (omega (arith, k))) where
  next : (a b c : ℕ) → b ≤ a → c ≡ b → (c == a) ≡ false → b + 1 ≤ a
  next a b c l e f = grind arith

  by_number : (b : Bool) → (r.number == n) ≡ b → (j + 1 ≤ n → has_complete rows n ≡ true) → (((r.number == n) && is_complete r.result) || has_complete rows n) ≡ true
  by_number true f later = grind (arith, and_left)
  by_number false f later = let found = later (next n j r.number l numbered.0 f) in grind (arith, common_steps)

-- numbered from k on
abbrev pub numbers_from : ℕ → ℕ → List ℕ
numbers_from k zero = []
numbers_from k (suc m) = k ∷ numbers_from (k + 1) m

-- images that rise, and are all those of so many numbers, have just these
just_these : (writes k m : ℕ) (images : List Image) → AreInTime writes images → ((i : Image) (is : List Image) → images ≡ i ∷ is → k ≤ i.set)
    → ((n : ℕ) → is_some (point_in n images) ≡ true → n < k + m) → ((n : ℕ) → k ≤ n → n < k + m → is_some (point_in n images) ≡ true) → sets_of images ≡ numbers_from k m
just_these writes k zero [] time low high all = refl
just_these writes k (suc m) [] time low high all = absurd (none (all k (omega arith) (omega arith))) where
  none : false ≡ true → ⊥
  none e = cc
just_these writes k zero (i ∷ images) time low high all = absurd (empty k i.set (low i images refl) (high i.set (own i.set (point_in i.set images)))) where
  empty : (a b : ℕ) → a ≤ b → b < a + 0 → ⊥
  empty a b l h = omega (arith, l, h)

  own : (n : ℕ) (o : Option ℕ) → is_some (if n == n then Some i.point else o) ≡ true
  own n o = grind (arith, eq-eqb)
just_these writes k (suc m) (i ∷ images) time low high all =
    let own = first (i.set == k) refl in
    ap (λ x. x ∷ sets_of images) own ∙ ap (λ xs. k ∷ xs) (just_these writes (k + 1) m images time.2 (next images time) (λ n e. high_next n (k + m) (high n (later n e))) (λ n l h. rest n l h own)) where
      high_next : (n a : ℕ) → n < k + suc m → n < k + 1 + m
      high_next n a l = omega (arith, l)

      later : (n : ℕ) → is_some (point_in n images) ≡ true → is_some (if i.set == n then Some i.point else point_in n images) ≡ true
      later n e = by_test (i.set == n) where
        by_test : (b : Bool) → is_some (if b then Some i.point else point_in n images) ≡ true
        by_test true = refl
        by_test false = e

      none_earlier : (n : ℕ) (js : List Image) → AreLater i js → n < i.set → is_some (point_in n js) ≡ true → ⊥
      none_earlier n [] h l e = cc
      none_earlier n (j ∷ js) h l e = by_test (j.set == n) refl e (λ g. none_earlier n js h.2 l g) where
        by_test : (b : Bool) → (j.set == n) ≡ b → is_some (if b then Some j.point else point_in n js) ≡ true → (is_some (point_in n js) ≡ true → ⊥) → ⊥
        by_test true f g later = let same = eqb-true j.set n f in let above = h.0 in omega (arith, same, above, l)
        by_test false f g later = later g

      first : (b : Bool) → (i.set == k) ≡ b → i.set ≡ k
      first true e = eqb-true i.set k e
      first false e =
          let has : is_some (if i.set == k then Some i.point else point_in k images) ≡ true = all k (omega arith) (omega arith) in
          absurd (none_earlier k images time.1 (less k i.set (low i images refl) e) (subst (λ b. is_some (if b then Some i.point else point_in k images) ≡ true) e has)) where
            less : (a b : ℕ) → a ≤ b → (b == a) ≡ false → a < b
            less a b l e = grind arith

      next : (js : List Image) → AreInTime writes (i ∷ js) → (j : Image) (is : List Image) → js ≡ j ∷ is → k + 1 ≤ j.set
      next [] t j is f = absurd cc
      next (x ∷ xs) t j is f = let same : x ≡ j = cc in let less = t.1.0 in let own = ap (λ (y : Image). y.set) same in let above = low i images refl in omega (arith, less, own, above)

      rest : (n : ℕ) → k + 1 ≤ n → n < k + 1 + m → i.set ≡ k → is_some (point_in n images) ≡ true
      rest n l h e =
          let has : is_some (if i.set == n then Some i.point else point_in n images) ≡ true = all n (omega (arith, l)) (omega (arith, h)) in
          subst (λ b. is_some (if b then Some i.point else point_in n images) ≡ true) (apart i.set k n e l) has where
            apart : (a b c : ℕ) → a ≡ b → b + 1 ≤ c → (a == c) ≡ false
            apart a b c e l = grind arith

kept_one : (rows : List SetRow) (n : ℕ) → list_all (λ r. is_complete r.result) rows ≡ true → is_live rows n ≡ true → list_any (λ r. (r.number == n) && is_complete r.result) rows ≡ true
kept_one [] n e h = absurd cc
kept_one (r ∷ rows) n e h = by_test (r.number == n) (not (has_failed r.result)) (is_complete r.result) (and_left (is_complete r.result) _ e) h (λ g. kept_one rows n (and_right (is_complete r.result) _ e) g)
  where
    or_right : (a b : Bool) → b ≡ true → (a || b) ≡ true
    or_right true b e = refl
    or_right false b e = e

    by_test : (a f c : Bool) → c ≡ true → ((a && f) || is_live rows n) ≡ true → (is_live rows n ≡ true → list_any (λ x. (x.number == n) && is_complete x.result) rows ≡ true) → ((a && c) || list_any (λ x. (x.number == n) && is_complete x.result) rows) ≡ true
    by_test true f true d g later = refl
    by_test true f false d g later = absurd cc
    by_test false f c d g later = later g

kept_all : (rows : List SetRow) (images : List Image) → list_all (λ r. is_complete r.result) rows ≡ true → AreLive rows images → filter (λ (i : Image). list_any (λ r. (r.number == i.set) && is_complete r.result) rows) images ≡ images
kept_all rows [] e h = refl
kept_all rows (i ∷ images) e h =
    ap (λ (b : Bool). if b then i ∷ filter (λ (x : Image). list_any (λ r. (r.number == x.set) && is_complete r.result) rows) images else filter (λ (x : Image). list_any (λ r. (r.number == x.set) && is_complete r.result) rows) images) (kept_one rows i.set e h.0)
    ∙ ap (λ is. i ∷ is) (kept_all rows images e h.1)

-- each set's image is kept on each volume
pub keeps_images : (n : ℕ) (s : Plan) (trail : List Move) → IsSmooth n s → is_legal s trail ≡ true → is_complete_trail s trail ≡ true → faults trail ≡ 0 → (v : ℕ) → v < length s.volumes
    → sets_of (kept (state s (acts s trail)) (history_of (state s (acts s trail)) v)) ≡ numbers_from 1 n
keeps_images n s trail smooth legal complete clean v l =
    let st = state s (acts s trail) in
    let done = smooth_runs n s trail smooth legal complete clean in
    let order = orderly s (acts s trail) in
    let images = (history_of st v).images in
    let live = live_at st.sets st.volumes v order.live in
    let all : HasAll s st = subst (HasAll s) (state-run s trail) (all_images s n (begin s) trail smooth (at_start s n smooth) (λ m u c l. absurd cc) legal clean) in
    let sets = done.count in
    ap sets_of (kept_all st.sets images done.complete live)
    ∙ just_these _ 1 n images (images_in_time s (acts s trail) v) (λ i is e. first i is e live)
    (λ m e. let b = (live_within 1 m st.sets order.numbered (image_live st.sets images m live e)).below in omega (arith, b, sets))
    (λ m h k. all m v (complete_at 1 m st.sets order.numbered done.complete h (omega (arith, k, sets))) l)
  where
    image_live : (rows : List SetRow) (images : List Image) (m : ℕ) → AreLive rows images → is_some (point_in m images) ≡ true → is_live rows m ≡ true
    image_live rows [] m h e = absurd cc
    image_live rows (i ∷ images) m h e = by_test (i.set == m) refl e (λ g. image_live rows images m h.1 g) where
      by_test : (b : Bool) → (i.set == m) ≡ b → is_some (if b then Some i.point else point_in m images) ≡ true → (is_some (point_in m images) ≡ true → is_live rows m ≡ true)
          → is_live rows m ≡ true
      by_test true f g later = subst (λ x. is_live rows x ≡ true) (eqb-true i.set m f) h.0
      by_test false f g later = later g

    first : (i : Image) (is : List Image) → (history_of (state s (acts s trail)) v).images ≡ i ∷ is → AreLive (state s (acts s trail)).sets (history_of (state s (acts s trail)) v).images → 1 ≤ i.set
    first i is e live =
        let h : AreLive (state s (acts s trail)).sets (i ∷ is) = subst (AreLive (state s (acts s trail)).sets) e live in
        (live_within 1 i.set (state s (acts s trail)).sets (orderly s (acts s trail)).numbered h.0).above
