-- What a core that its caller drives keeps; and an event evicts no more images than there is room for in its lines.
use Rattle.std.proofs.Common.{◌≡◌, ℕ, ◌+◌, ◌<◌, ◌≤◌, List, [], ◌∷◌, ◌++◌, length, take, true, Option, Some, arith, length-append, subst, zero, suc, ◌*◌, ◌&&◌}
use Rattle.std.proofs.Common.{refl, ap, ◌∙◌, Bool, false, None, is_some, slice_get, if◌then◌else◌, Result, Ok, Err, OnOk, is_err}
use Rattle.std.proofs.Math.Nat.{lt_of_not-le}
use Rattle.std.proofs.lemmas.List.{length-drop, length-take-le, length-map}
use Rattle.std.proofs.lemmas.List.Sums.{length-filter, count_by-le-length}
use Rattle.std.proofs.lemmas.Option.{slice_get_within}
use Rattle.std.specs.List.{flat_map}
use Rattle.std.specs.Prelude.{drop, IsOk}
use Rattle.volume_device.specs.declared.device.Device.{Ghosts}
use Rattle.write_history.specs.History.{History, Image, sets_of}
use Rattle.write_history.specs.Slots.{Placed}
use Rattle.write_history.specs.declared.evicted.Evicted.{Evicted}
use Rattle.cow_volume.specs.Calls.{is_among}
use Rattle.cow_volume.specs.StandsFor.{GroupValue}
use Rattle.cow_volume.specs.Room.{holders as group_holders, images_going as group_images}
use Rattle.cow_volume.proofs.Group.{place_at, slice_get_inside}
use Rattle.cow_volume.proofs.Listed.{few_going}
use Rattle.scenario.specs.Bounds.{IsPlan}
use Rattle.scenario.specs.Calls.{Target, target_of}
use Rattle.scenario.specs.Plan.{Plan, LaneLine, lines_of, group_of}
use Rattle.vss_model.specs.Acts.{Act, state}
use Rattle.vss_model.specs.Effects.{evicted_at, evicted_for, evicted}
use Rattle.vss_model.specs.Images.{going_up_to}
use Rattle.vss_model.specs.Outcome.{told_act}
use Rattle.vss_model.specs.State.{has_image, history_in, is_kept_set}
use Rattle.vss_model.specs.declared.event.Event.{Event}
use Rattle.vss_model.specs.declared.event.Event.TheVariants.{Line, Answer, Provider, Idle}
use Rattle.vss_model.specs.declared.outcome.Outcome.{Outcome}
use Rattle.vss_model.proofs.OrderlyActs.{orderly}
use Rattle.vss_report.specs.ToldLines.{IsActor, most_bytes}
use Rattle.provider.specs.Calls.{holders, images_going}
use Rattle.provider.specs.Groups.{AreGroups, HasGroups}
use Rattle.provider.proofs.Found.{found_row, inside, own, history_here, stands_here}
use Rattle.provider.proofs.Dropped.{point_among}
use Rattle.vss_world.specs.Moves.{IsMoved, IsEvent}
use Rattle.vss_world.specs.Stands.{WorldValue, IsOf, IsStanding, Stands}
use Rattle.vss_world.proofs.Evictions.{evicted_is, up_to_most}
use Rattle.vss_play.specs.Running.{AreInPlan, most_evicted, bytes_for}
use Rattle.vss_play.specs.Serving.{IsServing, actor_by}
use Rattle.vss_play.specs.declared.given.Given.{Given}
use Rattle.vss_play.proofs.Sorting.{lane_in, line_is_op}
use Rattle.vss_play.proofs.OneMove.{numbers_by}

-- ## What a core that its caller drives keeps.

-- at first
pub serving_new : {D : Type 0} (told : D → Option (List (List ℕ))) (s : Plan) (w : WorldValue D) (given : List Given) → IsOf w s → Stands told w s [] → length given ≡ length s.writers
    → IsServing told s w 0 given
serving_new told s w given of stands each =
    record { of = of; standing = record { acts = []; few = omega arith; stands = stands }; many = omega arith; most = omega arith; each = each }

-- and after a move
pub serving_on : {D : Type 0} (ghosts : Ghosts D) (s : Plan) (old new : WorldValue D) (n m : ℕ) (given : List Given) (event : Event) (o : Outcome)
    → n < 2097151 → m ≡ n + 1 → IsServing ghosts.told s old n given → IsMoved ghosts old new s event o → IsServing ghosts.told s new m given
serving_on ghosts s old new n m given event o few next k moves =
    let acts = k.standing.acts in
    let more = length-append acts (told_act event o.told ∷ []) in
    let many = k.many in
    record {
      of = moves.is_of;
      standing = record {
        acts = acts ++ told_act event o.told ∷ [];
        few = omega arith;
        stands = moves.stands_for acts k.standing.stands;
      };
      many = omega arith;
      most = omega arith;
      each = k.each;
    }

-- a lane's line is an event of the scenario
pub line_in : (s : Plan) (i k : ℕ) (l : LaneLine) → IsPlan s → slice_get (lines_of s i) k ≡ Some l → IsEvent s (Line i l.op)
line_in s i k l plan e = (lane_in s i k l e, line_is_op s i k l plan e)

-- who makes an event is in the scenario
actor_of : (s : Plan) (event : Event) → IsEvent s event → IsActor s (actor_by event)
actor_of s event h = grind arith

-- the numbers of its outcome are in the scenario's range
pub numbers_of : {D : Type 0} (ghosts : Ghosts D) (s : Plan) (old new : WorldValue D) (event : Event) (o : Outcome)
    → IsEvent s event → IsStanding ghosts.told old s → IsMoved ghosts old new s event o → AreInPlan s (actor_by event) o new.evicted
numbers_of ghosts s old new event o is standing moves = grind (arith, numbers_by, actor_of)

-- where no room was made for so many bytes there was none
pub no_room : {T E : Type 0} (n m spare : ℕ) (r : Result T E) → n ≡ m → (n ≤ spare → IsOk r) → is_err r ≡ true → spare < m
no_room n m spare (Ok x) is succeeds failed = cc
no_room n m spare (Err e) is succeeds failed = subst (λ (k : ℕ). spare < k) is (lt_of_not-le (λ fits. let h = succeeds fits in cc))

-- a list that was lent whole has as many members as before
pub given_back : {X : Type 0} (n : ℕ) (new old : List X) → length old ≡ n → length (take n (new ++ drop (length new) old)) ≡ n
given_back n new old full =
    let all = length-append new (drop (length new) old) in
    let rest = length-drop (length new) old in
    length-take-le n (new ++ drop (length new) old) (omega arith)

-- ## An event evicts no more images than there is room for in its lines: a write at most 512 of each volume, another event none.

-- ## the images that go, as the volumes' own lists of sets have them

abbrev sets_within : List Placed → List History → List (List ℕ)
sets_within [] hs = []
sets_within (p ∷ ps) [] = []
sets_within (p ∷ ps) (h ∷ hs) = (if p.within then sets_of h.images else []) ∷ sets_within ps hs

holders_are : (n v : ℕ) (ps : List Placed) (hs : List History) → holders n v ps hs ≡ group_holders n v (sets_within ps hs)
holders_are n v [] hs = refl
holders_are n v (p ∷ ps) [] = refl
holders_are n v (p ∷ ps) (h ∷ hs) =
    ap (λ (t : Bool). if t then v ∷ holders n (v + 1) ps hs else holders n (v + 1) ps hs) (here p.within)
    ∙ ap (λ (vs : List ℕ). if is_among n (if p.within then sets_of h.images else []) then v ∷ vs else vs) (holders_are n (v + 1) ps hs)
  where
    here : (b : Bool) → (b && has_image n h) ≡ is_among n (if b then sets_of h.images else [])
    here true = point_among n h.images
    here false = refl

all_same : (f g : ℕ → List Evicted) (ns : List ℕ) → ((n : ℕ) → f n ≡ g n) → flat_map f ns ≡ flat_map g ns
all_same f g ns same = grind arith

going_are : (up_to : ℕ) (ps : List Placed) (hs : List History) → images_going up_to ps hs ≡ group_images up_to (sets_within ps hs)
going_are up_to ps hs = grind (arith, all_same, holders_are)

-- ## how many they are

many_sets : (ps : List Placed) (hs : List History) → length (sets_within ps hs) ≤ length hs
many_sets [] hs = omega arith
many_sets (p ∷ ps) [] = omega arith
many_sets (p ∷ ps) (h ∷ hs) = let rest = many_sets ps hs in omega arith

few_sets : (ps : List Placed) (hs : List History) → ((u : ℕ) (h : History) → slice_get hs u ≡ Some h → length h.images ≤ 512) → (u : ℕ) (sets : List ℕ) → slice_get (sets_within ps hs) u ≡ Some sets
    → length sets ≤ 512
few_sets [] hs few u sets at = cc
few_sets (p ∷ ps) [] few u sets at = cc
few_sets (p ∷ ps) (h ∷ hs) few zero sets at = let same : (if p.within then sets_of h.images else []) ≡ sets = cc in subst (λ (xs : List ℕ). length xs ≤ 512) same (here p.within)
  where
    here : (b : Bool) → length (if b then sets_of h.images else []) ≤ 512
    here true = let many = length-map h.images (λ (i : Image). i.set) in let most = few 0 h refl in omega arith
    here false = omega arith
few_sets (p ∷ ps) (h ∷ hs) few (suc u) sets at = few_sets ps hs (λ k i there. few (suc k) i there) u sets at

few_images : {D : Type 0} (told : D → Option (List (List ℕ))) (s : Plan) (groups : List (GroupValue D)) (hs : List History) → HasGroups s groups → AreGroups told s groups hs
    → (u : ℕ) (h : History) → slice_get hs u ≡ Some h → length h.images ≤ 512
few_images told s groups hs has are u h at =
    let low = slice_get_within hs u h at in
    let many = are.histories in
    let row = slice_get_inside s.volumes u (omega (arith, low, many)) in
    let f = found_row s groups u row.0 has row.1 in
    let place = place_at told f.here (own f hs) f.within (stands_here told f hs are) (inside f) in
    subst (λ (k : History). length k.images ≤ 512) (history_here f hs are.histories ∙ ap history_in at) place.stands.images.few

-- ## of an event

few_for : {D : Type 0} (told : D → Option (List (List ℕ))) (s : Plan) (w : WorldValue D) (acts : List Act) (v b : ℕ) → IsOf w s → Stands told w s acts
    → length (evicted_for s (state s acts) v b) ≤ 512 * length s.volumes
few_for told s w acts v b of stands =
    let st = state s acts in
    let m = going_up_to s v b st in
    let groups = stands.at.groups in
    let going = images_going m (group_of s v) st.volumes in
    let is = ap length (evicted_is s v b st (orderly s acts).numbered (up_to_most _ (length st.sets))) in
    let kept = length-filter (λ (i : Evicted). is_kept_set st i.set) going in
    let fewer = count_by-le-length (λ (i : Evicted). is_kept_set st i.set) going in
    let same = ap length (going_are m (group_of s v) st.volumes) in
    let few = few_going m (sets_within (group_of s v) st.volumes) (few_sets (group_of s v) st.volumes (few_images told s w.provider.groups st.volumes of.groups groups)) in
    let many = many_sets (group_of s v) st.volumes in
    let all = groups.histories in
    omega (arith, is, kept, fewer, same, few, many, all)

few_event : {D : Type 0} (told : D → Option (List (List ℕ))) (s : Plan) (w : WorldValue D) (acts : List Act) (event : Event) → IsOf w s → Stands told w s acts
    → length (evicted s (state s acts) event) ≤ most_evicted s event
few_event told s w acts (Line lane op) of stands = of_target (target_of op)
  where
    of_target : (t : Option Target) → length (evicted_at s (state s acts) t) ≤ (if is_some t then 512 * length s.volumes else 0)
    of_target None = omega arith
    of_target (Some t) = few_for told s w acts t.volume t.block of stands
few_event told s w acts (Answer writer answer) of stands = omega arith
few_event told s w acts Provider of stands = omega arith
few_event told s w acts Idle of stands = omega arith

-- so there is room for its lines, where that was reserved
pub room_for : {D T E : Type 0} (ghosts : Ghosts D) (s : Plan) (old new : WorldValue D) (acts : List Act) (event : Event) (o : Outcome) (n room : ℕ)
    (r : Result T E)
    → IsOf old s → Stands ghosts.told old s acts → IsMoved ghosts old new s event o → n ≡ bytes_for s event → is_err r ≡ false → OnOk r (n ≤ room)
    → most_bytes (length new.evicted) ≤ room
room_for ghosts s old new acts event o n room (Err e) of stands moves is done fits = absurd cc
room_for ghosts s old new acts event o n room (Ok x) of stands moves is done fits =
    let few = few_event ghosts.told s old acts event of stands in
    let same = ap length (moves.outcome acts _ stands refl).evicts in
    omega (arith, few, same, is, fits)
