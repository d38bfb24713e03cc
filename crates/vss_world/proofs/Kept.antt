-- Whether an image is kept: its set is complete, and it stands; and which images of a volume are.
use Rattle.std.proofs.Common.{◌≡◌, Option, Some, None, true, false, is_some, arith, ℕ, ◌+◌, List, [], ◌∷◌, refl, ap, ◌∙◌, Bool, ◌&&◌, ◌||◌, ◌==◌, find}
use Rattle.std.proofs.Common.{if◌then◌else◌, zero, suc, ◌<◌, length, sym, take, filter, not, slice_index}
use Rattle.vss_world.proofs.Words.{NumberedFrom, SetRow, State, both_ways, eqb-true, history_of, is_complete, is_kept_set, kept_at, kept_if, kept_image}
use Rattle.vss_world.proofs.Words.{kept_of, list_any, none_below, point_in, row_of, Act, AreInTime, AreLive, Image, OverButNewest, Plan, SetOutcome, UpTo}
use Rattle.vss_world.proofs.Words.{cond-true, has_failed, images_in_time, images_up_to, is_live, is_running, kept, length-map, live_at, no_live_below, orderly}
use Rattle.vss_world.proofs.Words.{sets_of, state}

-- ## Whether there is one.

pub none_from : {X : Type 0} (o : Option X) → ((x : X) → o ≡ Some x → ⊥) → o ≡ None
none_from o never = grind arith

pub none_is : {X : Type 0} (o : Option X) → is_some o ≡ false → o ≡ None
none_is o e = grind arith

pub some_is : {X : Type 0} (o : Option X) → is_some o ≡ true → (x : X) × (o ≡ Some x)
some_is o e = grind arith

-- ## Whether an image is kept: its set is complete, and it stands.

not_kept : (rows : List SetRow) (n : ℕ) (o : Option ℕ) → list_any (λ r. (r.number == n) && is_complete r.result) rows ≡ false → kept_of (find (λ r. r.number == n) rows) o ≡ None
not_kept [] n o no_set = refl
not_kept (r ∷ rows) n o no_set = by_test (r.number == n) (is_complete r.result) refl no_set (λ h. not_kept rows n o h)
  where
    by_test : (t c : Bool) → is_complete r.result ≡ c → ((t && c) || list_any (λ r. (r.number == n) && is_complete r.result) rows) ≡ false
        → (list_any (λ r. (r.number == n) && is_complete r.result) rows ≡ false → kept_of (find (λ r. r.number == n) rows) o ≡ None)
        → kept_of (if t then Some r else find (λ r. r.number == n) rows) o ≡ None
    by_test true true e h rest = cc
    by_test true false e h rest = ap (λ (u : Bool). kept_if u r o) e
    by_test false c e h rest = rest h

-- a set that is not complete keeps no image
pub not_complete : (st : State) (n v : ℕ) → is_kept_set st n ≡ false → kept_image st n v ≡ None
not_complete st n v e = not_kept st.sets n (point_in n (history_of st v).images) e

-- an image that does not stand is not kept
pub not_standing : (st : State) (n v : ℕ) → is_some (point_in n (history_of st v).images) ≡ false → kept_image st n v ≡ None
not_standing st n v e = ap (kept_of (row_of st n)) (none_is (point_in n (history_of st v).images) e) ∙ (grind arith)

pub record IsRow (rows : List SetRow) (n : ℕ) : Type 0 where
  pub row : SetRow
  pub found : find (λ r. r.number == n) rows ≡ Some row
  pub complete : is_complete row.result ≡ true
  pub number : row.number ≡ n

complete_row : (m n : ℕ) (rows : List SetRow) → NumberedFrom m rows → list_any (λ r. (r.number == n) && is_complete r.result) rows ≡ true → IsRow rows n
complete_row m n [] numbered is = cc
complete_row m n (r ∷ rows) numbered is = by_test (r.number == n) (is_complete r.result) refl refl is (λ h. complete_row (m + 1) n rows numbered.1 h)
  where
    by_test : (t c : Bool) → (r.number == n) ≡ t → is_complete r.result ≡ c → ((t && c) || list_any (λ r. (r.number == n) && is_complete r.result) rows) ≡ true
        → (list_any (λ r. (r.number == n) && is_complete r.result) rows ≡ true → IsRow rows n) → IsRow (r ∷ rows) n
    by_test true true f e h more = record { row = r; found = ap (λ (t : Bool). if t then Some r else find (λ r. r.number == n) rows) f; complete = e; number = eqb-true r.number n f }
    by_test true false f e h more =
        let here = numbered.0 in
        let same = eqb-true r.number n f in
        let none = none_below (m + 1) n rows numbered.1 (omega (arith, here, same)) in
        absurd (both_ways (list_any (λ r. (r.number == n) && is_complete r.result) rows) none h)
    by_test false c f e h more =
        let rest = more h in
        record { row = rest.row; found = ap (λ (t : Bool). if t then Some r else find (λ r. r.number == n) rows) f ∙ rest.found; complete = rest.complete; number = rest.number }

-- an image that is kept, with its set's row and its point
pub record IsKept (st : State) (n v : ℕ) : Type 0 where
  pub row : SetRow
  pub point : ℕ
  pub is : kept_image st n v ≡ Some (record { row = row; point = point })
  pub row_is : row_of st n ≡ Some row
  pub complete : is_complete row.result ≡ true
  pub number : row.number ≡ n
  pub stands : point_in n (history_of st v).images ≡ Some point

pub kept_is : (st : State) (n v : ℕ) → NumberedFrom 1 st.sets → is_kept_set st n ≡ true → is_some (point_in n (history_of st v).images) ≡ true → IsKept st n v
kept_is st n v numbered is has =
    let r = complete_row 1 n st.sets numbered is in
    let p = some_is (point_in n (history_of st v).images) has in
    record {
      row = r.row;
      point = p.0;
      is = ap (λ (o : Option SetRow). kept_of o (point_in n (history_of st v).images)) r.found
          ∙ ap (λ (t : Bool). kept_if t r.row (point_in n (history_of st v).images)) r.complete
          ∙ ap (kept_at r.row) p.1;
      row_is = r.found;
      complete = r.complete;
      number = r.number;
      stands = p.1;
    }

-- ## Which images of a volume are kept: all of them but the newest, where its set is in progress.

over_live : (o : SetOutcome) → is_running o ≡ false → has_failed o ≡ false → is_complete o ≡ true
over_live o e f = grind arith

-- a set that has not failed and is not the newest is complete
older_complete : (m n : ℕ) (rows : List SetRow) → NumberedFrom m rows → OverButNewest rows → is_live rows n ≡ true → n + 1 < m + length rows
    → list_any (λ r. (r.number == n) && is_complete r.result) rows ≡ true
older_complete m n [] numbered over live l = cc
older_complete m n (r ∷ []) numbered over live l = by_test (r.number == n) refl live
  where
    by_test : (t : Bool) → (r.number == n) ≡ t → ((t && not (has_failed r.result)) || false) ≡ true → ((r.number == n) && is_complete r.result) || false ≡ true
    by_test true e h = let here = numbered.0 in let same = eqb-true r.number n e in absurd (omega (arith, here, same, l))
    by_test false e h = cc
older_complete m n (r ∷ q ∷ rows) numbered over live l = by_test (r.number == n) (has_failed r.result) refl refl live (λ h. older_complete (m + 1) n (q ∷ rows) numbered.1 over.1 h (omega (arith, l)))
  where
    by_test : (t c : Bool) → (r.number == n) ≡ t → has_failed r.result ≡ c → ((t && not c) || is_live (q ∷ rows) n) ≡ true
        → (is_live (q ∷ rows) n ≡ true → list_any (λ r. (r.number == n) && is_complete r.result) (q ∷ rows) ≡ true)
        → (((r.number == n) && is_complete r.result) || list_any (λ r. (r.number == n) && is_complete r.result) (q ∷ rows)) ≡ true
    by_test true false e f h rest =
        ap (λ (t : Bool). (t && is_complete r.result) || list_any (λ r. (r.number == n) && is_complete r.result) (q ∷ rows)) e
        ∙ ap (λ (t : Bool). t || list_any (λ r. (r.number == n) && is_complete r.result) (q ∷ rows)) (over_live r.result over.0 f)
    by_test true true e f h rest =
        let here = numbered.0 in
        let same = eqb-true r.number n e in
        let none = no_live_below (m + 1) n (q ∷ rows) numbered.1 (omega (arith, here, same)) in
        absurd (both_ways (is_live (q ∷ rows) n) none h)
    by_test false c e f h rest = ap (λ (t : Bool). (t && is_complete r.result) || list_any (λ r. (r.number == n) && is_complete r.result) (q ∷ rows)) e ∙ rest h

last_if : (t b : Bool) (i : Image) → t ≡ b → (if t then i ∷ [] else []) ≡ (if b then i ∷ [] else [])
last_if t b i e = ap (λ (u : Bool). if u then i ∷ [] else []) e

-- whether the newest of these is kept decides it
pub kept_by_newest : (st : State) (writes : ℕ) (images : List Image) (k : ℕ) (b : Bool) → NumberedFrom 1 st.sets → OverButNewest st.sets → AreLive st.sets images → AreInTime writes images
    → UpTo (length st.sets) images
    → k + 1 ≡ length images → is_kept_set st (slice_index (sets_of images) k) ≡ b → filter (λ i. is_kept_set st i.set) images ≡ (if b then images else take k images)
kept_by_newest st writes [] k b numbered over live times up long is = absurd (omega (arith, long))
kept_by_newest st writes (i ∷ []) zero b numbered over live times up long is = last_if (is_kept_set st i.set) b i is
kept_by_newest st writes (i ∷ []) (suc k) b numbered over live times up long is = absurd (omega (arith, long))
kept_by_newest st writes (i ∷ j ∷ images) zero b numbered over live times up long is = absurd (omega (arith, long))
kept_by_newest st writes (i ∷ j ∷ images) (suc k) b numbered over live times up long is =
    let later = times.1.0 in
    let most = up.1.0 in
    let old : is_kept_set st i.set ≡ true = older_complete 1 i.set st.sets numbered over live.0 (omega (arith, later, most)) in
    let rest = kept_by_newest st writes (j ∷ images) k b numbered over live.1 times.2 up.1 (omega (arith, long)) is in
    cond-true (is_kept_set st i.set) (i ∷ filter (λ i. is_kept_set st i.set) (j ∷ images)) (filter (λ i. is_kept_set st i.set) (j ∷ images)) old
    ∙ ap (λ (xs : List Image). i ∷ xs) rest ∙ (grind arith)

sets_taken : (k : ℕ) (images : List Image) → sets_of (take k images) ≡ take k (sets_of images)
sets_taken zero images = refl
sets_taken (suc k) [] = refl
sets_taken (suc k) (i ∷ images) = ap (λ (ns : List ℕ). i.set ∷ ns) (sets_taken k images)

pub kept_sets_are : (s : Plan) (acts : List Act) (v k : ℕ) (sets : List ℕ) (b : Bool) → sets ≡ sets_of (history_of (state s acts) v).images → k + 1 ≡ length sets
    → b ≡ is_kept_set (state s acts) (slice_index sets k) → (if b then sets else take k sets) ≡ sets_of (kept (state s acts) (history_of (state s acts) v))
kept_sets_are s acts v k sets b are long is =
    let st = state s acts in
    let o = orderly s acts in
    let images = (history_of st v).images in
    let count : length sets ≡ length images = ap length are ∙ length-map images (λ (i : Image). i.set) in
    let decides = kept_by_newest st (length (history_of st v).writes) images k b o.numbered o.newest (live_at st.sets st.volumes v o.live) (images_in_time s acts v)
    (images_up_to st.sets st.volumes v o.numbered o.live) (long ∙ count) (ap (λ (ns : List ℕ). is_kept_set st (slice_index ns k)) (sym are) ∙ sym is) in
    ap (λ (ns : List ℕ). if b then ns else take k ns) are ∙ sym (grind (arith, sets_taken)) ∙ ap sets_of (sym decides)

-- where the provider has none, none is kept
pub no_sets : (s : Plan) (acts : List Act) (v : ℕ) (sets : List ℕ) → sets ≡ sets_of (history_of (state s acts) v).images → length sets ≡ 0
    → sets ≡ sets_of (kept (state s acts) (history_of (state s acts) v))
no_sets s acts v sets are none = of_list (history_of (state s acts) v).images are
  where
    of_list : (images : List Image) → sets ≡ sets_of images → sets ≡ sets_of (filter (λ i. is_kept_set (state s acts) i.set) images)
    of_list [] e = e
    of_list (i ∷ images) e = let long = ap length e in absurd (omega (arith, long, none))
