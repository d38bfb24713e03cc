-- The lines of the lane that makes the sets: what is known before each, and that it leads a state from spot to spot.
use Rattle.std.proofs.Common.{◌≡◌, ℕ, ◌<◌, ◌≤◌, List, Option, Some, None, Bool, true, false, sym, subst, length, arith, ◌+◌, [], ◌∷◌, ◌++◌, refl, ap, ◌∙◌, ◌==◌}
use Rattle.std.proofs.Common.{map, inl, inr}
use Rattle.std.specs.Prelude.{option_map, nat_lt, nat_le, ◌&&◌, not, if◌then◌else◌}
use Rattle.component_doc.specs.Selection.{Names as NamesPair}
use Rattle.requestor.specs.declared.session_call.SessionCall.{SessionCall}
use Rattle.requestor.specs.declared.session_call.SessionCall.TheVariants as call
use Rattle.requestor.specs.declared.verdict.Verdict.TheVariants.{Go}
use Rattle.generated.proofs.Standing.{length_map, sound_gathered, less_is, sound_prepared, sound_snapshot, sound_completing, sound_released, IsIn, IsAt}
use Rattle.generated.proofs.Standing.{session_at, none_failed, IsPlace, goes_on, followed_volumes}
use Rattle.generated.proofs.Terms.{Mark, Stage, Session, makes_set, check, Op, Plan, State, SetRow, in_progress, history_of, runs, session_line, called, line}
use Rattle.generated.proofs.Terms.{IsOrderly, Asked, Spot, completes_sets, nat_tests, and_from, AppRollback, context_of_number, SetOutcome, VssResult, is_among}
use Rattle.generated.proofs.Terms.{gathered, Naming, IsNotFound, IsNotSelectable, IsNamedAlready, naming, Opened, Gathered, Started, context_of, Gather}
use Rattle.generated.proofs.Terms.{Component, Start, Add, token, is_running, followed, change_set, add_to, add, named_as, is_disabled, known_metas, volumes_of}
use Rattle.generated.proofs.Terms.{new_set, new_number, with_volume, add_refusal, line_enabled, has_failed, find-map, find-append_new, Begins, Gathers, Names}
use Rattle.generated.proofs.Terms.{Starts, Adds, IsAsked, Free, Stands, Waits, spot_after, added, and_left, and_right, AsyncCancelled, BadState, prepared}
use Rattle.generated.proofs.Terms.{snapshot_begun, completing, released, takers, Prepared, Done, Finished, Prepare, Snapshot, Await, Complete, End, failed_in}
use Rattle.generated.proofs.Terms.{await_last, closed, pending, refused, selected, has_no_volume, is_blocked, Awaits, Prepares, Snapshots, Completes, Ends}
use Rattle.generated.proofs.Terms.{stage_next, volumes_next, with_volumes, Failed, Place, length_push}

-- ## What is known of a state before a line of the lane that makes the sets, and what that lane's lines need of it.

-- what is known of a state and the one after it
pub record IsKnown (n k : ℕ) (st next : State) : Type 0 where
  pub orderly : IsOrderly st
  pub next_orderly : IsOrderly next
  pub few : n < 512
  pub images : (v : ℕ) → length (history_of st v).images ≤ length st.sets

-- the next spot, and that the next state stands there
pub record LeadsTo (s : Plan) (n : ℕ) (more : List Asked) (st next : State) : Type 0 where
  pub spot : Spot
  pub leads : completes_sets (length s.volumes) n more (Some spot) ≡ true
  pub at : IsAt s spot.place spot.sets spot.volumes next
  pub same : next.volumes ≡ st.volumes

-- a call that goes
pub goes : (c : SessionCall) (s : Plan) (op : Op) (st : State) (q : Session) (b : Bool) → st.session ≡ Some q → runs st ≡ b → check (Some q) b 0 c ≡ Go → called c s 0 op st ≡ session_line s 0 op q st
unfolding called
goes c s op st q b e f g = grind arith

pub as_line : (s : Plan) (op a : Op) (mark : Mark) (st : State) (P : State → Type 0) → op ≡ a → P (line s 0 a mark st).1 → P (line s 0 op mark st).1
as_line s op a mark st P e h = subst (λ x. P (line s 0 x mark st).1) (sym e) h

pub none_in : (g : Stage) (st : State) → makes_set g ≡ false → IsIn g st.session → IsOrderly st → in_progress st ≡ None
none_in g st e i o = grind arith

-- while a stage makes a set, one is in progress
pub record Found (x : Option SetRow) : Type 0 where
  pub row : SetRow
  pub is : x ≡ Some row

pub found_in : (g : Stage) (st : State) → makes_set g ≡ true → IsIn g st.session → IsOrderly st → Found (in_progress st)
found_in g st e i o = grind arith

-- ## The lines that begin a session and put a set together each lead a state from spot to spot.

-- ## the lines

of_nine : context_of 9 false ≡ Some AppRollback
unfolding context_of_number
of_nine = refl

pub begins : (s : Plan) (n : ℕ) (more : List Asked) (k : ℕ) (vs : List ℕ) (op : Op) (mark : Mark) (st : State) → IsAsked s Begins op → line_enabled s st 0 op ≡ true → completes_sets (length s.volumes) n more (spot_after Free k vs Begins) ≡ true → k ≤ n → IsAt s Free k vs st → IsKnown n k st (line s 0 op mark st).1 → LeadsTo s n more st (line s 0 op mark st).1
unfolding called
begins s n more k vs op mark st e on leads most h known = grind (arith, as_line, of_nine)

pub gathers : (s : Plan) (n : ℕ) (more : List Asked) (k : ℕ) (vs : List ℕ) (op : Op) (mark : Mark) (st : State) → IsAsked s Gathers op → line_enabled s st 0 op ≡ true → completes_sets (length s.volumes) n more (spot_after (Stands Opened) k vs Gathers) ≡ true → k ≤ n → IsAt s (Stands Opened) k vs st → IsKnown n k st (line s 0 op mark st).1 → LeadsTo s n more st (line s 0 op mark st).1
gathers s n more k vs op mark st e on leads most h known =
    let q = session_at Opened h.place.stage.set h.place.stage.last in
    let is : (line s 0 op mark st).1 ≡ followed true (gathered (is_disabled s st) st.clock st.course) st
    = ap (λ x. (line s 0 x mark st).1) e ∙ ap (λ y. y.1) (goes call.Gather s Gather st q false h.place.stage.is h.place.is_busy refl) in
    record {
      spot = record { place = Waits Opened; sets = k; volumes = [] };
      leads = leads;
      at = subst (IsAt s (Waits Opened) k []) (sym is)
          (goes_on s Opened k [] _ st (sound_gathered _ (is_disabled s st) st.clock st.course h.sound) h.sets h.fine h.place.stage tt (subst IsOrderly is known.next_orderly));
      same = ap (λ (x : State). x.volumes) is ∙ followed_volumes _ _ st (sound_gathered _ (is_disabled s st) st.clock st.course h.sound);
    }

pub names : (s : Plan) (n : ℕ) (more : List Asked) (w k : ℕ) (vs : List ℕ) (op : Op) (mark : Mark) (st : State) → IsAsked s (Names w) op → line_enabled s st 0 op ≡ true → completes_sets (length s.volumes) n more (spot_after (Stands Gathered) k vs (Names w)) ≡ true → k ≤ n → IsAt s (Stands Gathered) k vs st → IsKnown n k st (line s 0 op mark st).1 → LeadsTo s n more st (line s 0 op mark st).1
names s n more w k vs op mark st e on leads most h known =
    let q = session_at Gathered h.place.stage.set h.place.stage.last in
    let x = naming (known_metas s st) w (token s e.full) st.explicit in
    let is : (line s 0 op mark st).1 ≡ (named_as x st).1
    = ap (λ x. (line s 0 x mark st).1) e.is ∙ ap (λ y. y.1) (goes call.Component s (Component w e.full) st q false h.place.stage.is h.place.is_busy refl) in
    record {
      spot = record { place = Stands Gathered; sets = k; volumes = [] };
      leads = leads;
      at = subst (IsAt s (Stands Gathered) k []) (sym is) (by_naming x);
      same = ap (λ (x : State). x.volumes) is ∙ by_naming_volumes x;
    }
  where
    by_naming_volumes : (x : Naming) → (named_as x st).1.volumes ≡ st.volumes
    by_naming_volumes IsNotFound = refl
    by_naming_volumes IsNotSelectable = refl
    by_naming_volumes IsNamedAlready = refl
    by_naming_volumes (NamesPair explicit) = refl

    by_naming : (x : Naming) → IsAt s (Stands Gathered) k [] (named_as x st).1
    by_naming IsNotFound = record { sets = h.sets; fine = h.fine; sound = h.sound; place = record { stage = h.place.stage; is_busy = h.place.is_busy; volumes = tt } }
    by_naming IsNotSelectable = record { sets = h.sets; fine = h.fine; sound = h.sound; place = record { stage = h.place.stage; is_busy = h.place.is_busy; volumes = tt } }
    by_naming IsNamedAlready = record { sets = h.sets; fine = h.fine; sound = h.sound; place = record { stage = h.place.stage; is_busy = h.place.is_busy; volumes = tt } }
    by_naming (NamesPair explicit) = record { sets = h.sets; fine = h.fine; sound = h.sound; place = record { stage = h.place.stage; is_busy = h.place.is_busy; volumes = tt } }

fine_snoc : (rows : List SetRow) (r : SetRow) → none_failed rows ≡ true → not (has_failed r.result) ≡ true → none_failed (rows ++ r ∷ []) ≡ true
fine_snoc [] r h e = and_from _ _ e refl
fine_snoc (q ∷ rows) r h e = and_from _ _ (and_left (not (has_failed q.result)) (none_failed rows) h) (fine_snoc rows r (and_right (not (has_failed q.result)) (none_failed rows) h) e)

pub starts : (s : Plan) (n : ℕ) (more : List Asked) (k : ℕ) (vs : List ℕ) (op : Op) (mark : Mark) (st : State) → IsAsked s Starts op → line_enabled s st 0 op ≡ true → completes_sets (length s.volumes) n more (spot_after (Stands Gathered) k vs Starts) ≡ true → k ≤ n → IsAt s (Stands Gathered) k vs st → IsKnown n k st (line s 0 op mark st).1 → LeadsTo s n more st (line s 0 op mark st).1
starts s n more k vs op mark st e on leads most h known =
    let q = session_at Gathered h.place.stage.set h.place.stage.last in
    let new = new_set (new_number st) AppRollback in
    let next : State = record st { session = Some (session_at Started (Some (new_number st)) h.place.stage.last); sets = st.sets ++ new ∷ [] } in
    let is : (line s 0 op mark st).1 ≡ next
    = ap (λ x. (line s 0 x mark st).1) e ∙ ap (λ y. y.1) (goes call.Start s Start st q false h.place.stage.is h.place.is_busy refl) in
    record {
      spot = record { place = Stands Started; sets = k + 1; volumes = [] };
      leads = leads;
      at = subst (IsAt s (Stands Started) (k + 1) []) (sym is)
          (record {
            sets = length_push st.sets new ∙ ap (λ m. m + 1) h.sets;
            fine = fine_snoc st.sets new h.fine refl;
            sound = h.sound;
            place = record {
              stage = record { set = Some (new_number st); last = h.place.stage.last; is = refl };
              is_busy = h.place.is_busy;
              volumes = ap volumes_of (find-append_new st.sets new (none_in Gathered st refl h.place.stage known.orderly) refl);
            };
          });
      same = ap (λ (x : State). x.volumes) is;
    }

no_refusal : (a b c : Bool) (x y z : VssResult) → a ≡ false → b ≡ false → c ≡ false → (if a then Some x else if b then Some y else if c then Some z else None) ≡ None
no_refusal a b c x y z e f g = grind arith

not_le : (a b : ℕ) → nat_lt b a ≡ true → nat_le a b ≡ false
not_le a b l = grind (arith, nat_tests)

record AddsTo (v : ℕ) (c n : ℕ) (more : List Asked) (k : ℕ) (vs : List ℕ) : Type 0 where
  new : is_among v vs ≡ false
  few : nat_lt (length vs) 64 ≡ true
  leads : completes_sets c n more (Some (record { place = Stands Started; sets = k; volumes = vs ++ v ∷ [] })) ≡ true

adds_to : (b : Bool) (v c n : ℕ) (more : List Asked) (k : ℕ) (vs : List ℕ) → (not (is_among v vs) && nat_lt (length vs) 64) ≡ b → completes_sets c n more (added b k vs v) ≡ true → AddsTo v c n more k vs
adds_to b v c n more k vs e leads = grind arith

fine_mapped : (f : SetRow → SetRow) → ((r : SetRow) → (f r).result ≡ r.result) → (rows : List SetRow) → none_failed (map f rows) ≡ none_failed rows
fine_mapped f same [] = refl
fine_mapped f same (r ∷ rows) = ap (λ (x : SetOutcome). not (has_failed x) && none_failed (map f rows)) (same r) ∙ ap (λ b. not (has_failed r.result) && b) (fine_mapped f same rows)

changed_result : (b : Bool) (v : ℕ) (r : SetRow) → (if b then with_volume v r else r).result ≡ r.result
changed_result b v r = grind arith

pub adds : (s : Plan) (n : ℕ) (more : List Asked) (v k : ℕ) (vs : List ℕ) (op : Op) (mark : Mark) (st : State) → IsAsked s (Adds v) op → line_enabled s st 0 op ≡ true → completes_sets (length s.volumes) n more (spot_after (Stands Started) k vs (Adds v)) ≡ true → k ≤ n → IsAt s (Stands Started) k vs st → IsKnown n k st (line s 0 op mark st).1 → LeadsTo s n more st (line s 0 op mark st).1
adds s n more v k vs op mark st e on leads most h known =
    let q = session_at Started h.place.stage.set h.place.stage.last in
    let found = found_in Started st refl h.place.stage known.orderly in
    let r = found.row in
    let to = adds_to (not (is_among v vs) && nat_lt (length vs) 64) v (length s.volumes) n more k vs refl leads in
    let own : r.volumes ≡ vs = ap volumes_of (sym found.is) ∙ h.place.volumes in
    let less = known.images v in
    let few = known.few in
    let sets = h.sets in
    let free : add_refusal v r st ≡ None
    = no_refusal _ _ _ _ _ _ (ap (is_among v) own ∙ to.new) (not_le 64 (length r.volumes) (ap (λ (us : List ℕ). nat_lt (length us) 64) own ∙ to.few))
    (not_le 512 (length (history_of st v).images) (less_is (length (history_of st v).images) 512 (omega (arith, less, few, sets, most)))) in
    let is : (line s 0 op mark st).1 ≡ change_set r.number (with_volume v) st
    = ap (λ x. (line s 0 x mark st).1) e ∙ ap (λ y. y.1) (goes call.Add s (Add v) st q false h.place.stage.is h.place.is_busy refl)
    ∙ ap (λ x. (add v x st).1) found.is ∙ ap (λ x. (add_to v r x st).1) free in
    record {
      spot = record { place = Stands Started; sets = k; volumes = vs ++ v ∷ [] };
      leads = to.leads;
      at = subst (IsAt s (Stands Started) k (vs ++ v ∷ [])) (sym is)
          (record {
            sets = length_map _ st.sets ∙ h.sets;
            fine = fine_mapped _ (λ x. changed_result (x.number == r.number) v x) st.sets ∙ h.fine;
            sound = h.sound;
            place = record {
              stage = h.place.stage;
              is_busy = h.place.is_busy;
              volumes = ap volumes_of (find-map _ (λ x. ap is_running (changed_result (x.number == r.number) v x)) st.sets ∙ ap (option_map _) found.is)
                  ∙ ap (λ b. (if b then with_volume v r else r).volumes) (own_number r.number) ∙ ap (λ us. us ++ v ∷ []) own;
            };
          });
      same = ap (λ (x : State). x.volumes) is;
    }
  where
    own_number : (a : ℕ) → (a == a) ≡ true
    own_number a = grind arith

-- ## the lines that begin an agenda, wait for one and end a session each lead a state from spot to spot

-- where a set has a volume
record HasOne (c n : ℕ) (more : List Asked) (vs : List ℕ) (x : Option Spot) : Type 0 where
  some : (o : Option SetRow) → volumes_of o ≡ vs → has_no_volume o ≡ false
  leads : completes_sets c n more x ≡ true

has_one : (c n : ℕ) (more : List Asked) (vs : List ℕ) (x : Option Spot) → completes_sets c n more (with_volumes vs x) ≡ true → HasOne c n more vs x
has_one c n more vs x leads = grind arith

pub prepares : (s : Plan) (n : ℕ) (more : List Asked) (k : ℕ) (vs : List ℕ) (op : Op) (mark : Mark) (st : State) → IsAsked s Prepares op → line_enabled s st 0 op ≡ true → completes_sets (length s.volumes) n more (spot_after (Stands Started) k vs Prepares) ≡ true → k ≤ n → IsAt s (Stands Started) k vs st → IsKnown n k st (line s 0 op mark st).1 → LeadsTo s n more st (line s 0 op mark st).1
prepares s n more k vs op mark st e on leads most h known =
    let q = session_at Started h.place.stage.set h.place.stage.last in
    let has = has_one (length s.volumes) n more vs (Some (record { place = Waits Started; sets = k; volumes = vs })) leads in
    let c = prepared (takers (length s.writers) (selected s q st)) st.clock st.course in
    let is : (line s 0 op mark st).1 ≡ followed true c st
    = ap (λ x. (line s 0 x mark st).1) e ∙ ap (λ y. y.1) (goes call.Prepare s Prepare st q false h.place.stage.is h.place.is_busy refl)
    ∙ ap (λ b. (if b then refused BadState st else pending c st).1) (has.some (in_progress st) h.place.volumes) in
    record {
      spot = record { place = Waits Started; sets = k; volumes = vs };
      leads = has.leads;
      at = subst (IsAt s (Waits Started) k vs) (sym is)
          (goes_on s Started k vs c st (sound_prepared _ (takers (length s.writers) (selected s q st)) st.clock st.course h.sound) h.sets h.fine h.place.stage h.place.volumes (subst IsOrderly is known.next_orderly));
      same = ap (λ (x : State). x.volumes) is ∙ followed_volumes _ c st (sound_prepared _ (takers (length s.writers) (selected s q st)) st.clock st.course h.sound);
    }

pub snapshots : (s : Plan) (n : ℕ) (more : List Asked) (k : ℕ) (vs : List ℕ) (op : Op) (mark : Mark) (st : State) → IsAsked s Snapshots op → line_enabled s st 0 op ≡ true → completes_sets (length s.volumes) n more (spot_after (Stands Prepared) k vs Snapshots) ≡ true → k ≤ n → IsAt s (Stands Prepared) k vs st → IsKnown n k st (line s 0 op mark st).1 → LeadsTo s n more st (line s 0 op mark st).1
snapshots s n more k vs op mark st e on leads most h known =
    let q = session_at Prepared h.place.stage.set h.place.stage.last in
    let has = has_one (length s.volumes) n more vs (Some (record { place = Waits Prepared; sets = k; volumes = vs })) leads in
    let c = snapshot_begun (volumes_of (in_progress st)) st.clock st.course in
    let is : (line s 0 op mark st).1 ≡ followed true c st
    = ap (λ x. (line s 0 x mark st).1) e ∙ ap (λ y. y.1) (goes call.Snapshot s Snapshot st q false h.place.stage.is h.place.is_busy refl)
    ∙ ap (λ b. (if b then refused BadState st else pending c st).1) (has.some (in_progress st) h.place.volumes) in
    record {
      spot = record { place = Waits Prepared; sets = k; volumes = vs };
      leads = has.leads;
      at = subst (IsAt s (Waits Prepared) k vs) (sym is)
          (goes_on s Prepared k vs c st (sound_snapshot _ (volumes_of (in_progress st)) st.clock st.course h.sound) h.sets h.fine h.place.stage h.place.volumes (subst IsOrderly is known.next_orderly));
      same = ap (λ (x : State). x.volumes) is ∙ followed_volumes _ c st (sound_snapshot _ (volumes_of (in_progress st)) st.clock st.course h.sound);
    }

pub completes : (s : Plan) (n : ℕ) (more : List Asked) (k : ℕ) (vs : List ℕ) (op : Op) (mark : Mark) (st : State) → IsAsked s Completes op → line_enabled s st 0 op ≡ true → completes_sets (length s.volumes) n more (spot_after (Stands Done) k vs Completes) ≡ true → k ≤ n → IsAt s (Stands Done) k vs st → IsKnown n k st (line s 0 op mark st).1 → LeadsTo s n more st (line s 0 op mark st).1
completes s n more k vs op mark st e on leads most h known =
    let q = session_at Done h.place.stage.set h.place.stage.last in
    let is : (line s 0 op mark st).1 ≡ followed true (completing st.clock st.course) st
    = ap (λ x. (line s 0 x mark st).1) e ∙ ap (λ y. y.1) (goes call.Complete s Complete st q false h.place.stage.is h.place.is_busy refl) in
    record {
      spot = record { place = Waits Done; sets = k; volumes = [] };
      leads = leads;
      at = subst (IsAt s (Waits Done) k []) (sym is)
          (goes_on s Done k [] _ st (sound_completing _ st.clock st.course h.sound) h.sets h.fine h.place.stage tt (subst IsOrderly is known.next_orderly));
      same = ap (λ (x : State). x.volumes) is ∙ followed_volumes _ _ st (sound_completing _ st.clock st.course h.sound);
    }

pub ends : (s : Plan) (n : ℕ) (more : List Asked) (k : ℕ) (vs : List ℕ) (op : Op) (mark : Mark) (st : State) → IsAsked s Ends op → line_enabled s st 0 op ≡ true → completes_sets (length s.volumes) n more (spot_after (Stands Finished) k vs Ends) ≡ true → k ≤ n → IsAt s (Stands Finished) k vs st → IsKnown n k st (line s 0 op mark st).1 → LeadsTo s n more st (line s 0 op mark st).1
unfolding closed released
ends s n more k vs op mark st e on leads most h known =
    let q = session_at Finished h.place.stage.set h.place.stage.last in
    let is : (line s 0 op mark st).1 ≡ closed q st
    = ap (λ x. (line s 0 x mark st).1) e ∙ ap (λ y. y.1) (goes call.End s End st q false h.place.stage.is h.place.is_busy refl)
    ∙ ap (λ x. closed q (failed_in x AsyncCancelled st)) (none_in Finished st refl h.place.stage known.orderly) in
    record {
      spot = record { place = Free; sets = k; volumes = [] };
      leads = leads;
      at = subst (IsAt s Free k []) (sym is) (record { sets = h.sets; fine = h.fine; sound = sound_released _ st.course h.sound; place = (refl, refl) });
      same = ap (λ (x : State). x.volumes) is;
    }

pub awaits : (s : Plan) (n : ℕ) (more : List Asked) (g : Stage) (k : ℕ) (vs : List ℕ) (op : Op) (mark : Mark) (st : State) → IsAsked s Awaits op → line_enabled s st 0 op ≡ true → completes_sets (length s.volumes) n more (spot_after (Waits g) k vs Awaits) ≡ true → k ≤ n → IsAt s (Waits g) k vs st → IsKnown n k st (line s 0 op mark st).1 → LeadsTo s n more st (line s 0 op mark st).1
awaits s n more g k vs op mark st e on leads most h known = by_place h.place
  where
    awaited : (last : Option VssResult) → IsAt s (Stands (stage_next g)) k (volumes_next g vs) st → IsAt s (Stands (stage_next g)) k (volumes_next g vs) (await_last last st).1
    awaited None i = i
    awaited (Some why) i = i

    unchanged : (last : Option VssResult) → (await_last last st).1.volumes ≡ st.volumes
    unchanged None = refl
    unchanged (Some why) = refl

    free_line : line_enabled s st 0 Await ≡ true
    free_line = subst (λ x. line_enabled s st 0 x ≡ true) e on

    blocked : (g : Stage) (set : Option ℕ) (last : Option VssResult) → not (is_blocked (check (Some (session_at g set last)) true 0 call.Await)) ≡ true → ⊥
    blocked g set last f = cc

    by_place : IsPlace (Waits g) vs st.session (runs st) st.sets → LeadsTo s n more st (line s 0 op mark st).1
    by_place (inl busy) =
        absurd (blocked g busy.stage.set busy.stage.last
        (subst (λ b. not (is_blocked (check (Some (session_at g busy.stage.set busy.stage.last)) b 0 call.Await)) ≡ true) busy.is_busy
        (subst (λ x. not (is_blocked (check x (runs st) 0 call.Await)) ≡ true) busy.stage.is free_line)))
    by_place (inr quiet) =
        let q = session_at (stage_next g) quiet.stage.set quiet.stage.last in
        let is : (line s 0 op mark st).1 ≡ (await_last q.last st).1
        = ap (λ x. (line s 0 x mark st).1) e ∙ ap (λ y. y.1) (goes call.Await s Await st q false quiet.stage.is quiet.is_busy refl) in
        record {
          spot = record { place = Stands (stage_next g); sets = k; volumes = volumes_next g vs };
          leads = leads;
          at = subst (IsAt s (Stands (stage_next g)) k (volumes_next g vs)) (sym is)
              (awaited q.last (record { sets = h.sets; fine = h.fine; sound = h.sound; place = quiet }));
          same = ap (λ (x : State). x.volumes) is ∙ unchanged q.last;
        }

-- ## each line of the lane that makes the sets leads a state from spot to spot

-- ## all of them

nothing_leads : (c n : ℕ) (more : List Asked) → completes_sets c n more None ≡ true → ⊥
nothing_leads c n more e = grind arith

pub requests : (s : Plan) (n : ℕ) (more : List Asked) (p : Place) (k : ℕ) (vs : List ℕ) (a : Asked) (op : Op) (mark : Mark) (st : State) → IsAsked s a op → line_enabled s st 0 op ≡ true → completes_sets (length s.volumes) n more (spot_after p k vs a) ≡ true → k ≤ n → IsAt s p k vs st → IsKnown n k st (line s 0 op mark st).1 → LeadsTo s n more st (line s 0 op mark st).1
requests s n more Free k vs Begins op mark st e on leads most h known = begins s n more k vs op mark st e on leads most h known
requests s n more Free k vs a op mark st e on leads most h known = absurd (nothing_leads (length s.volumes) n more leads)
requests s n more (Stands Opened) k vs Gathers op mark st e on leads most h known = gathers s n more k vs op mark st e on leads most h known
requests s n more (Stands Opened) k vs a op mark st e on leads most h known = absurd (nothing_leads (length s.volumes) n more leads)
requests s n more (Stands Gathered) k vs (Names w) op mark st e on leads most h known = names s n more w k vs op mark st e on leads most h known
requests s n more (Stands Gathered) k vs Starts op mark st e on leads most h known = starts s n more k vs op mark st e on leads most h known
requests s n more (Stands Gathered) k vs a op mark st e on leads most h known = absurd (nothing_leads (length s.volumes) n more leads)
requests s n more (Stands Started) k vs (Adds v) op mark st e on leads most h known = adds s n more v k vs op mark st e on leads most h known
requests s n more (Stands Started) k vs Prepares op mark st e on leads most h known = prepares s n more k vs op mark st e on leads most h known
requests s n more (Stands Started) k vs a op mark st e on leads most h known = absurd (nothing_leads (length s.volumes) n more leads)
requests s n more (Stands Prepared) k vs Snapshots op mark st e on leads most h known = snapshots s n more k vs op mark st e on leads most h known
requests s n more (Stands Prepared) k vs a op mark st e on leads most h known = absurd (nothing_leads (length s.volumes) n more leads)
requests s n more (Stands Done) k vs Completes op mark st e on leads most h known = completes s n more k vs op mark st e on leads most h known
requests s n more (Stands Done) k vs a op mark st e on leads most h known = absurd (nothing_leads (length s.volumes) n more leads)
requests s n more (Stands Finished) k vs Ends op mark st e on leads most h known = ends s n more k vs op mark st e on leads most h known
requests s n more (Stands Finished) k vs a op mark st e on leads most h known = absurd (nothing_leads (length s.volumes) n more leads)
requests s n more (Stands Failed) k vs a op mark st e on leads most h known = absurd (nothing_leads (length s.volumes) n more leads)
requests s n more (Waits g) k vs Awaits op mark st e on leads most h known = awaits s n more g k vs op mark st e on leads most h known
requests s n more (Waits g) k vs a op mark st e on leads most h known = absurd (nothing_leads (length s.volumes) n more leads)
