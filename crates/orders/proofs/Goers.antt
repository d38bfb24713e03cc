-- Runs that make the moves of an order one by one, and those whose moves are drawn.
use Rattle.std.proofs.Common.{append_assoc, ◌≤◌, ◌≡◌, ℕ, ◌+◌, ◌<◌, List, [], ◌∷◌, ◌++◌, take, get_or, length, refl, ap, sym, ◌∙◌, subst, drop-cons, zero, suc}
use Rattle.std.proofs.Common.{drop, arith, Bool, true, false, Option, Some, None, inl, inr}
use Rattle.std.proofs.lemmas.List.{map-append, take_more, take_all, append-nil, take-append-drop}
use Rattle.std.proofs.lemmas.List.Folds.{find-append}
use Rattle.std.proofs.lemmas.Option.{slice_get-get_or}
use Rattle.std.specs.List.{range_with_len}
use Rattle.std.specs.Option.{option_or}
use Rattle.std.specs.Prelude.{map, find, not, ◌&&◌, ◌⊎◌, if◌then◌else◌, Result, Ok, Err}
use Rattle.vss_names.specs.declared.out_of_memory.OutOfMemory.{OutOfMemory}
use Rattle.volume_device.specs.declared.device.Device.{Ghosts}
use Rattle.write_history.specs.declared.actor.Actor.{Actor}
use Rattle.write_history.specs.declared.actor.Actor.TheVariants.{Lane, Writer, Advance, Idle}
use Rattle.write_history.specs.declared.move_item.Move.{Move}
use Rattle.scenario.specs.Plan.{Plan}
use Rattle.vss_model.specs.Trail.{event_of, may_move, allows, is_complete}
use Rattle.vss_play.specs.Acting.{IsLedBy, actors_in_threads}
use Rattle.vss_play.specs.Played.{Played, IsOnward, IsMovedOn, run_of, is_finished, Stays, IsKept}
use Rattle.vss_play.proofs.ClosingLines.{longer_trans, longer_by, onward_still}
use Rattle.vss_play.proofs.FaultMarks.{later-trans, clean_after, counted_after}
use Rattle.vss_play.proofs.InTurn.{stuck_complete}
use Rattle.orders.specs.Drawn.{goes, from_place, asked_from, drawn_actor, AreDrawn, generator_after, place_of, IsFirstToGo, IsDrawing, IsPlayedAsDrawn}
use Rattle.orders.specs.Followed.{actors_of, MayNotCome, IsHaltedAt}
use Rattle.orders.specs.declared.entry.Entry.{Entry}
use Rattle.orders.specs.declared.why.Why.{Why}

-- ## A run that makes the moves of an order one by one.

-- a run goes on by one more move
unfoldable pub onward_more : {D : Type 0} (ghosts : Ghosts D) (p q r : Played D) (actor : Actor) → IsOnward ghosts p q → IsMovedOn ghosts q r actor
    → IsOnward ghosts p r
onward_more ghosts p q r actor so_far one =
    let m : Move = record { actor = actor; mark = one.mark } in
    record {
      plan = one.plan ∙ so_far.plan;
      rest = so_far.rest ++ m ∷ [];
      trail = one.trail ∙ ap (λ (ms : List Move). ms ++ m ∷ []) so_far.trail ∙ append_assoc p.trail so_far.rest (m ∷ []);
      longer = longer_trans p.lines q.lines r.lines so_far.longer (longer_by q.lines r.lines one.own one.lines);
      tells = one.tells ∙ so_far.tells;
      later = later-trans (map ghosts.count p.devices) (map ghosts.count q.devices) (map ghosts.count r.devices) so_far.later one.later;
      clean = clean_after so_far.rest m (map ghosts.count p.devices) (map ghosts.count q.devices) (map ghosts.count r.devices) so_far.clean one.clean;
      faults =
          counted_after so_far.rest m (map ghosts.count p.devices) (map ghosts.count q.devices) (map ghosts.count r.devices) so_far.faults one.later one.rose;
    }

-- before the first move
pub led_none : {D : Type 0} (ghosts : Ghosts D) (p : Played D) → IsLedBy ghosts p [] p
led_none ghosts p = record {
  onward = onward_still ghosts p;
  by = refl;
}

-- one more move
led_more : {D : Type 0} (ghosts : Ghosts D) (p q r : Played D) (actors : List Actor) (actor : Actor) → IsLedBy ghosts p actors q → IsMovedOn ghosts q r actor
    → IsLedBy ghosts p (actors ++ actor ∷ []) r
unfolding onward_more
led_more ghosts p q r actors actor led one = record {
  onward = onward_more ghosts p q r actor led.onward one;
  by = map-append (λ (m : Move). m.actor) led.onward.rest (record { actor = actor; mark = one.mark } ∷ []) ∙ ap (λ (xs : List Actor). xs ++ actor ∷ []) led.by;
}

-- the move of the next of these, each of which has an actor
pub led_next : {D X : Type 0} (ghosts : Ghosts D) (p q r : Played D) (actor : X → Actor) (xs : List X) (i : ℕ) (d : X) → i < length xs
    → IsLedBy ghosts p (map actor (take i xs)) q → IsMovedOn ghosts q r (actor (get_or xs i d)) → IsLedBy ghosts p (map actor (take (i + 1) xs)) r
led_next ghosts p q r actor xs i d l led one =
    let more : map actor (take (i + 1) xs) ≡ map actor (take i xs) ++ actor (get_or xs i d) ∷ [] =
    ap (map actor) (take_more xs i d l) ∙ map-append actor (take i xs) (get_or xs i d ∷ []) in
    subst (λ (names : List Actor). IsLedBy ghosts p names r) (sym more) (led_more ghosts p q r (map actor (take i xs)) (actor (get_or xs i d)) led one)

pub led_all : {D X : Type 0} (ghosts : Ghosts D) (p q : Played D) (actor : X → Actor) (xs : List X) (i : ℕ) → length xs ≤ i
    → IsLedBy ghosts p (map actor (take i xs)) q → IsLedBy ghosts p (map actor xs) q
led_all {D} {X} ghosts p q actor xs i l led = subst (λ (ys : List X). IsLedBy ghosts p (map actor ys) q) (take_all i xs l) led

-- the move of an entry may not come
pub halted_at : {D : Type 0} (ghosts : Ghosts D) (p q r : Played D) (entries : List Entry) (i : ℕ) (d : Entry) (why : Why) → i < length entries
    → IsLedBy ghosts p (actors_of (take i entries)) q → r ≡ q
    → MayNotCome q.plan q.trail (get_or entries i d).actor why → IsHaltedAt ghosts p r entries (get_or entries i d) why
halted_at {D} ghosts p q r entries i d why l led same may_not =
    subst (λ (x : Played D). IsHaltedAt ghosts p x entries (get_or entries i d) why) (sym same) (record { place = i; is_entry = slice_get-get_or entries i d l; led = led; may_not = may_not })

-- ## A run whose moves are drawn.

-- ## who goes

both_true : (a b : Bool) → a ≡ true → b ≡ false → (a && not b) ≡ true
both_true true true e f = cc
both_true true false e f = refl
both_true false b e f = cc

first_of : (a b : Bool) → (a && b) ≡ true → a ≡ true
first_of true b e = refl
first_of false b e = absurd cc

one_false : (a b : Bool) → (a ≡ false) ⊎ (b ≡ true) → (a && not b) ≡ false
one_false a b (inl e) = ap (λ (x : Bool). x && not b) e
one_false true b (inr e) = ap not e
one_false false b (inr e) = refl

-- an actor that moved goes, and one that stays does not
pub mover_goes : {D : Type 0} (ghosts : Ghosts D) (p q : Played D) (actor : Actor) → IsMovedOn ghosts p q actor → goes p.plan p.trail actor ≡ true
mover_goes ghosts p q actor h =
    both_true (may_move p.plan (run_of p) actor) (is_finished p.plan p.trail actor)
    (first_of (may_move p.plan (run_of p) actor) (allows p.plan (run_of p) (event_of p.plan (run_of p) actor) h.mark) h.legal) h.going

pub stays_put : {D : Type 0} (p : Played D) (actor : Actor) → Stays p actor → goes p.plan p.trail actor ≡ false
stays_put p actor h = one_false (may_move p.plan (run_of p) actor) (is_finished p.plan p.trail actor) h

stays_by : (a b : Bool) → (a && not b) ≡ false → (a ≡ false) ⊎ (b ≡ true)
stays_by true true e = inr refl
stays_by true false e = absurd cc
stays_by false b e = inl refl

-- ## the first that goes

or_none : {X : Type 0} (a b : Option X) → a ≡ None → option_or a b ≡ b
or_none None b e = refl
or_none (Some x) b e = absurd cc

or_some : {X : Type 0} (a b : Option X) (x : X) → a ≡ Some x → option_or a b ≡ Some x
or_some None b x e = absurd cc
or_some (Some y) b x e = e

pub find_past : {X : Type 0} (p : X → Bool) (xs ys : List X) → find p xs ≡ None → find p (xs ++ ys) ≡ find p ys
find_past p xs ys e = find-append p xs ys ∙ or_none (find p xs) (find p ys) e

pub find_within : {X : Type 0} (p : X → Bool) (xs ys : List X) (x : X) → find p xs ≡ Some x → find p (xs ++ ys) ≡ Some x
find_within p xs ys x e = find-append p xs ys ∙ or_some (find p xs) (find p ys) x e

find_here : {X : Type 0} (p : X → Bool) (x : X) (xs : List X) → p x ≡ true → find p (x ∷ xs) ≡ Some x
find_here p x xs e = ap (λ (b : Bool). if b then Some x else find p xs) e

find_none : {X : Type 0} (p : X → Bool) (x : X) → p x ≡ false → find p (x ∷ []) ≡ None
find_none p x e = ap (λ (b : Bool). if b then Some x else None) e

-- the actors before this place stay
pub record AreStaying {D : Type 0} (first now : Played D) (actors : List Actor) : Type 0 where
  pub same : now ≡ first
  pub none : find (goes first.plan first.trail) actors ≡ None

pub one_stays : {D : Type 0} (first now next : Played D) (actors : List Actor) (actor : Actor) → AreStaying first now actors → (next ≡ now) × Stays now actor
    → AreStaying first next (actors ++ actor ∷ [])
one_stays {D} first now next actors actor h here =
    let put : goes first.plan first.trail actor ≡ false = subst (λ (q : Played D). goes q.plan q.trail actor ≡ false) h.same (stays_put now actor here.1) in
    record { same = here.0 ∙ h.same; none = find_past (goes first.plan first.trail) actors (actor ∷ []) h.none ∙ find_none (goes first.plan first.trail) actor put }

pub one_goes : {D : Type 0} (ghosts : Ghosts D) (first now next : Played D) (before rest : List Actor) (actor : Actor) → AreStaying first now before
    → IsMovedOn ghosts now next actor → IsFirstToGo ghosts first next (before ++ actor ∷ rest) (Ok true)
one_goes {D} ghosts first now next before rest actor h moved =
    let one = subst (λ (q : Played D). IsMovedOn ghosts q next actor) h.same moved in (
      actor,
      one,
      find_past (goes first.plan first.trail) before (actor ∷ rest) h.none ∙ find_here (goes first.plan first.trail) actor rest (mover_goes ghosts first next actor one),
    )

-- the next of a list of actors
pub staying_next : {D : Type 0} (first now next : Played D) (actors : List Actor) (i : ℕ) (d : Actor) → i < length actors → AreStaying first now (take i actors)
    → (next ≡ now) × Stays now (get_or actors i d) → AreStaying first next (take (i + 1) actors)
staying_next {D} first now next actors i d l h here =
    subst (λ (xs : List Actor). AreStaying first next xs) (sym (take_more actors i d l)) (one_stays first now next (take i actors) (get_or actors i d) h here)

pub next_goes : {D : Type 0} (ghosts : Ghosts D) (first now next : Played D) (actors : List Actor) (i : ℕ) (d : Actor) → i < length actors
    → AreStaying first now (take i actors)
    → IsMovedOn ghosts now next (get_or actors i d) → IsFirstToGo ghosts first next actors (Ok true)
next_goes {D} ghosts first now next actors i d l h moved =
    let parts : actors ≡ take i actors ++ get_or actors i d ∷ drop (suc i) actors = sym (take-append-drop i actors) ∙ ap (λ (xs : List Actor). take i actors ++ xs) (drop-cons actors i d l) in
    subst (λ (xs : List Actor). IsFirstToGo ghosts first next xs (Ok true)) (sym parts) (one_goes ghosts first now next (take i actors) (drop (suc i) actors) (get_or actors i d) h moved)

-- one more list of actors is asked
pub then_true : {D : Type 0} (ghosts : Ghosts D) (old new : Played D) (xs ys : List Actor) → IsFirstToGo ghosts old new xs (Ok true)
    → IsFirstToGo ghosts old new (xs ++ ys) (Ok true)
then_true ghosts old new xs ys h = (h.0, h.1, find_within (goes old.plan old.trail) xs ys h.0 h.2)

pub then_asked : {D : Type 0} (ghosts : Ghosts D) (old now new : Played D) (xs ys : List Actor) (r : Result Bool OutOfMemory)
    → IsFirstToGo ghosts old now xs (Ok false) → IsFirstToGo ghosts now new ys r → IsFirstToGo ghosts old new (xs ++ ys) r
then_asked {D} ghosts old now new xs ys (Ok true) first h =
    let one : IsFirstToGo ghosts old new ys (Ok true) = subst (λ (q : Played D). IsFirstToGo ghosts q new ys (Ok true)) first.0 h in
    (one.0, one.1, find_past (goes old.plan old.trail) xs ys first.1 ∙ one.2)
then_asked {D} ghosts old now new xs ys (Ok false) first h =
    let one : IsFirstToGo ghosts old new ys (Ok false) = subst (λ (q : Played D). IsFirstToGo ghosts q new ys (Ok false)) first.0 h in
    (one.0, find_past (goes old.plan old.trail) xs ys first.1 ∙ one.1)
then_asked ghosts old now new xs ys (Err e) first h = tt

-- ## where none goes the run is complete

or_parts : {X : Type 0} (a b : Option X) → option_or a b ≡ None → (a ≡ None) × (b ≡ None)
or_parts None b e = (refl, e)
or_parts (Some x) b e = absurd cc

find_parts : {X : Type 0} (p : X → Bool) (xs ys : List X) → find p (xs ++ ys) ≡ None → (find p xs ≡ None) × (find p ys ≡ None)
find_parts p xs ys e = or_parts (find p xs) (find p ys) (sym (find-append p xs ys) ∙ e)

if_none : {X : Type 0} (b : Bool) (x : X) (o : Option X) → (if b then Some x else o) ≡ None → (b ≡ false) × (o ≡ None)
if_none true x o e = absurd cc
if_none false x o e = (refl, e)

-- a list from a place on has the same members
none_in_all : {X : Type 0} (p : X → Bool) (k : ℕ) (xs : List X) → find p (from_place k xs) ≡ None → find p xs ≡ None
none_in_all p k xs e =
    let parts = find_parts p (drop k xs) (take k xs) e in
    ap (find p) (sym (take-append-drop k xs)) ∙ find_past p (take k xs) (drop k xs) parts.1 ∙ parts.0

none_of : (p : Actor → Bool) (who : ℕ → Actor) (a n j : ℕ) → find p (map who (range_with_len a n)) ≡ None → j < n → p (who (a + j)) ≡ false
none_of p who a zero j e l = absurd (omega arith)
none_of p who a (suc n) zero e l =
    let at : a + 0 ≡ a = omega arith in
    subst (λ x. p (who x) ≡ false) (sym at) (if_none (p (who a)) (who a) (find p (map who (range_with_len (a + 1) n))) e).0
none_of p who a (suc n) (suc j) e l =
    let at : a + suc j ≡ a + 1 + j = omega arith in
    subst (λ x. p (who x) ≡ false) (sym at) (none_of p who (a + 1) n j (if_none (p (who a)) (who a) (find p (map who (range_with_len (a + 1) n))) e).1 (omega arith))

none_from : (p : Actor → Bool) (who : ℕ → Actor) (n j : ℕ) → find p (map who (range_with_len 0 n)) ≡ None → j < n → p (who j) ≡ false
none_from p who n j e l = let at : 0 + j ≡ j = omega arith in subst (λ x. p (who x) ≡ false) at (none_of p who 0 n j e l)

none_alone : (p : Actor → Bool) (x : Actor) → find p (x ∷ []) ≡ None → p x ≡ false
none_alone p x e = (if_none (p x) x None e).0

stays : {D : Type 0} (p : Played D) (actor : Actor) → goes p.plan p.trail actor ≡ false → Stays p actor
stays p actor e = stays_by (may_move p.plan (run_of p) actor) (is_finished p.plan p.trail actor) e

pub none_goes : {D : Type 0} (ghosts : Ghosts D) (p : Played D) (k : ℕ) → IsKept ghosts.told p
    → find (goes p.plan p.trail) (asked_from k (actors_in_threads p.plan)) ≡ None → is_complete p.plan p.trail ≡ true
none_goes ghosts p k kept e =
    let test = goes p.plan p.trail in
    let lanes = map (λ i. Lane i) (range_with_len 0 (length p.plan.lanes)) in
    let writers = map (λ w. Writer w) (range_with_len 0 (length p.plan.writers)) in
    let ends = find_parts test (from_place k (actors_in_threads p.plan)) (Idle ∷ []) e in
    let all : find test (lanes ++ writers ++ Advance ∷ []) ≡ None = none_in_all test k (actors_in_threads p.plan) ends.0 in
    let most = find_parts test (lanes ++ writers) (Advance ∷ []) all in
    let parts = find_parts test lanes writers most.0 in
    stuck_complete ghosts.told p kept
    (λ i l. stays p (Lane i) (none_from test (λ j. Lane j) (length p.plan.lanes) i parts.0 l))
    (λ w l. stays p (Writer w) (none_from test (λ j. Writer j) (length p.plan.writers) w parts.1 l))
    (stays p Advance (none_alone test Advance most.1)) (stays p Idle (none_alone test Idle ends.1))

-- ## from draw to draw

pub drawing_none : {D : Type 0} (ghosts : Ghosts D) (generator : ℕ) (p : Played D) → IsDrawing ghosts generator generator p p
drawing_none ghosts generator p = record {
  onward = onward_still ghosts p;
  drawn = λ rest h. h;
}

drawn_as : {D : Type 0} (p q : Played D) (generator : ℕ) (actor : Actor) → q.plan ≡ p.plan
    → find (goes q.plan q.trail) (asked_from (place_of generator (length (actors_in_threads q.plan))) (actors_in_threads q.plan)) ≡ Some actor
    → drawn_actor p.plan generator q.trail ≡ Some actor
drawn_as {D} p q generator actor same e = subst (λ (x : Plan). drawn_actor x generator q.trail ≡ Some actor) same e

pub drawing_more : {D : Type 0} (ghosts : Ghosts D) (first generator : ℕ) (p q r : Played D) → IsDrawing ghosts first generator p q
    → IsFirstToGo ghosts q r (asked_from (place_of generator (length (actors_in_threads q.plan))) (actors_in_threads q.plan)) (Ok true) → IsDrawing ghosts first (generator_after generator) p r
unfolding onward_more
drawing_more {D} ghosts first generator p q r so_far h =
    let moved = h.1 in
    let m : Move = record { actor = h.0; mark = moved.mark } in
    record {
      onward = onward_more ghosts p q r h.0 so_far.onward moved;
      drawn = λ rest are.
          subst (λ (ms : List Move). AreDrawn p.plan first p.trail ms) (sym (append_assoc so_far.onward.rest (m ∷ []) rest))
          (so_far.drawn (m ∷ rest) (drawn_as p q generator h.0 so_far.onward.plan h.2, subst (λ (ms : List Move). AreDrawn p.plan (generator_after generator) ms rest) moved.trail are));
    }

pub drawing_ends : {D : Type 0} (ghosts : Ghosts D) (first generator : ℕ) (p q r : Played D) → IsKept ghosts.told r → IsDrawing ghosts first generator p q
    → IsFirstToGo ghosts q r (asked_from (place_of generator (length (actors_in_threads q.plan))) (actors_in_threads q.plan)) (Ok false) → IsPlayedAsDrawn ghosts first p r
drawing_ends {D} ghosts first generator p q r kept so_far h =
    subst (λ (x : Played D). IsPlayedAsDrawn ghosts first p x) (sym h.0) (record {
      onward = so_far.onward;
      complete = none_goes ghosts q (place_of generator (length (actors_in_threads q.plan))) (subst (λ (x : Played D). IsKept ghosts.told x) h.0 kept) h.1;
      drawn = subst (λ (ms : List Move). AreDrawn p.plan first p.trail ms) (append-nil so_far.onward.rest) (so_far.drawn [] tt);
    })
