-- The image that a volume gets of the set in progress: there is room for it, it is the newest, and until its Release it names no block.
use Rattle.std.proofs.Common.{◌≡◌, ℕ, ◌+◌, ◌==◌, ◌<◌, ◌≤◌, suc, List, [], ◌∷◌, Some, refl, Bool, true, length, ap, ◌∙◌, arith, ◌++◌, false, filter, drop, subst}
use Rattle.std.proofs.Common.{Option, None, map, sym, find}
use Rattle.std.specs.Prelude.{◌&&◌, ◌||◌, not, if◌then◌else◌, slice_get, is_some}
use Rattle.write_history.specs.History.{names}
use Rattle.vss_model.proofs.AtCut.{all_said, tied_snapshot, cuts}
use Rattle.vss_model.proofs.Changes.{IsAdd, Comes, by_all_changes}
use Rattle.vss_model.proofs.Headline.{live_at}
use Rattle.vss_model.proofs.CutStep.{fewer_apply}
use Rattle.vss_model.proofs.HeldOfSet.{Tied, tied, find-row_cut, volumes-row_cut_if}
use Rattle.vss_model.proofs.OneCut.{newest_number, images_in_time, with_image, changed_result, not_cut_yet, image_shown}
use Rattle.vss_model.proofs.Orderly.{find-map, find-settled_over, find-settled_running}
use Rattle.vss_model.proofs.OrderlyActs.{orderly}
use Rattle.vss_model.proofs.Rows.{apart as apart_below, number-cut}
use Rattle.vss_model.proofs.Rules.{Running}
use Rattle.vss_model.proofs.Spoken.{HoldsFirst, held_first}
use Rattle.vss_model.proofs.Terms.{eqb-true, common_steps, Image, History, point_in, AreLater, AreInTime, Plan, SetRow, in_progress, history_in, history_of}
use Rattle.vss_model.proofs.Terms.{Act, state, NumberedFrom, has_failed, is_live, AreLive, AllLive, IsNewest, range_with_len, drop-length, eq-eqb, Write}
use Rattle.vss_model.proofs.Terms.{blocks_named, named, used_by, Hold, Release, Agenda, has_said, plain, is_among, is_snapshot, State, is_held, list_any-append}
use Rattle.vss_model.proofs.Terms.{SetOutcome, VssResult, Mark, without_set, open_group, change_at, is_running, left_now, has_image, row_settled, most_images}
use Rattle.vss_model.proofs.Terms.{with_volume, start, Event, is_cut_group, cut, Change, IsShownAt, apply, holds, history_cut}
use Rattle.vss_model.proofs.Volumes.{at, at_change, FewerIn}
use Rattle.vss_model.specs.Changes as change

-- ## The image of the set in progress is the newest of its volume: no set has a greater number, and images rise in set.

-- ## numbers of images

either_number : (a b c : Bool) (n m : ℕ) → ((a && b) || c) ≡ true → (a ≡ true → n < m) → (c ≡ true → n < m) → n < m
either_number a b c n m e f g = grind arith

-- a live set has one of the numbers
live_number : (m n : ℕ) (rows : List SetRow) → NumberedFrom m rows → is_live rows n ≡ true → n < m + length rows
live_number m n [] h e = absurd cc
live_number m n (r ∷ rows) h e =
    either_number (r.number == n) (not (has_failed r.result)) (is_live rows n) n (m + suc (length rows)) e
    (λ f. own m r.number n (length rows) h.0 f)
    (λ f. later m n (length rows) (live_number (m + 1) n rows h.1 f)) where
      own : (m a n k : ℕ) → a ≡ m → (a == n) ≡ true → n < m + suc k
      own m a n k e f = grind arith

      later : (m n k : ℕ) → n < (m + 1) + k → n < m + suc k
      later m n k l = omega arith

-- none of these is of a set after n
abbrev pub UpTo : ℕ → List Image → Type 0
UpTo n [] = Unit {0}
UpTo n (i ∷ images) = (i.set ≤ n) × UpTo n images

up_to : (n : ℕ) (rows : List SetRow) → ((m : ℕ) → is_live rows m ≡ true → m ≤ n) → (images : List Image) → AreLive rows images → UpTo n images
up_to n rows most [] h = tt
up_to n rows most (i ∷ images) h = (most i.set h.0, up_to n rows most images h.1)

-- every image is of a set that was started
pub images_up_to : (rows : List SetRow) (hs : List History) (v : ℕ) → NumberedFrom 1 rows → AllLive rows hs → UpTo (length rows) (history_in (slice_get hs v)).images
images_up_to rows hs v h live = grind (arith, up_to, live_number, live_at)

-- ## the last image

abbrev pub image_of : ℕ → ℕ → Image
image_of n p = record { set = n; point = p }

last_one : (i : Image) (n p : ℕ) (images : List Image) → i.set ≡ n → i.point ≡ p → AreLater i images → UpTo n images → IsNewest n p (i ∷ images)
last_one i n p [] e f h u = record { older = []; is = ap (λ x. x ∷ []) (ap (λ x. image_of x i.point) e ∙ ap (λ y. image_of n y) f) }
last_one i n p (j ∷ images) e f h u = grind (arith, common_steps)

after_one : (i : Image) (n p : ℕ) (images : List Image) → IsNewest n p images → IsNewest n p (i ∷ images)
after_one i n p images h = record { older = i ∷ h.older; is = ap (λ xs. i ∷ xs) h.is }

newest_in : (n p writes : ℕ) (images : List Image) → AreInTime writes images → UpTo n images → point_in n images ≡ Some p → IsNewest n p images
newest_in n p writes [] h u e = absurd cc
newest_in n p writes (i ∷ images) h u e = grind (arith, last_one, eqb-true, after_one, h.1, u.1, newest_in n p writes images h.2 u.1)

pub newest_image : (s : Plan) (acts : List Act) (r : SetRow) (v p : ℕ) → in_progress (state s acts) ≡ Some r → point_in r.number (history_of (state s acts) v).images ≡ Some p
    → IsNewest r.number p (history_of (state s acts) v).images
newest_image s acts r v p e f =
    let st = state s acts in
    let o = orderly s acts in
    newest_in r.number p (length (history_of st v).writes) (history_of st v).images (images_in_time s acts v)
    (rw (number r.number (length st.sets) (newest_number 1 st.sets r o.numbered o.newest e)) (images_up_to st.sets st.volumes v o.numbered o.live))
    f where
      number : (a b : ℕ) → a + 1 ≡ 1 + b → a ≡ b
      number a b e = omega arith

-- ## From its Commit step until its Release the image that a volume has of the set in progress names no block: its point is the end of
-- the volume's effective writes, and it uses no slot.

pub held_parts : (a b c : Bool) → (a && b && not c) ≡ true → (a ≡ true) × (b ≡ true) × (c ≡ false)
held_parts a b c e = grind arith

-- an image of the set in progress stands only on its volumes, while its snapshot agenda runs, and from the volume's Hold step on
pub record RunsWithImage (st : State) (r : SetRow) (v : ℕ) : Type 0 where
  pub agenda : Agenda
  pub runs : st.course.agenda ≡ Some agenda
  pub snapshot : is_snapshot agenda.kind ≡ true
  pub among : is_among v r.volumes ≡ true
  pub hold : has_said agenda.log (plain Hold) v ≡ true

pub image_runs : (s : Plan) (acts : List Act) (r : SetRow) (v p : ℕ) → in_progress (state s acts) ≡ Some r → point_in r.number (history_of (state s acts) v).images ≡ Some p → RunsWithImage (state s acts) r v
image_runs s acts r v p e f =
    let st = state s acts in
    let w = with_image s acts r v p e f in
    record {
      agenda = w.0;
      runs = w.1.0;
      snapshot = w.1.1.snapshot;
      among = subst (λ vs. is_among v vs ≡ true) (tied_snapshot w.0 r st.course.members w.1.1.snapshot
          (subst (Tied (Some w.0) st.course.members) e (subst (λ a. Tied a st.course.members (in_progress st)) w.1.0 (tied s acts)))) w.1.1.among;
      hold = all_said w.0.log (plain Hold) w.0.volumes v (subst (Running HoldsFirst) w.1.0 (held_first s acts) w.1.1.cut) w.1.1.among;
    }

-- the point is the end of the effective writes
pub held_point : (s : Plan) (acts : List Act) (r : SetRow) (v p : ℕ) → in_progress (state s acts) ≡ Some r → is_held (state s acts) v ≡ true → point_in r.number (history_of (state s acts) v).images ≡ Some p
    → p ≡ length (history_of (state s acts) v).writes
held_point s acts r v p e f g =
    let w = with_image s acts r v p e g in
    w.1.1.still (held_parts (is_snapshot w.0.kind) (has_said w.0.log (plain Hold) v) (has_said w.0.log (plain Release) v) (subst (λ a. holds a v ≡ true) w.1.0 f)).2

pub no_names : (bs : List ℕ) → filter (names []) bs ≡ []
no_names [] = refl
no_names (b ∷ bs) = no_names bs

none_named : (blocks p : ℕ) (ws : List Write) → p ≡ length ws → blocks_named blocks (drop p ws) ≡ []
none_named blocks p ws e = ap (λ k. blocks_named blocks (drop k ws)) e ∙ ap (blocks_named blocks) (drop-length ws) ∙ no_names (range_with_len 0 blocks)

-- the images before the last are of earlier sets
later_last : (i : Image) (n p : ℕ) (older : List Image) → AreLater i (older ++ image_of n p ∷ []) → i.set < n
later_last i n p [] h = h.0
later_last i n p (j ∷ older) h = later_last i n p older h.2

used_by-last : (blocks n p writes : ℕ) (ws : List Write) (older : List Image) → AreInTime writes (older ++ image_of n p ∷ []) → used_by blocks ws (older ++ image_of n p ∷ []) n ≡ Some (length (named blocks ws (image_of n p) []))
used_by-last blocks n p writes ws [] h = rw (eq-eqb n n refl) refl
used_by-last blocks n p writes ws (i ∷ older) h = rw (apart_below i.set n (later_last i n p older h.1)) (used_by-last blocks n p writes ws older h.2)

-- and it uses no slot
pub held_slots : (s : Plan) (acts : List Act) (r : SetRow) (v p blocks : ℕ) → in_progress (state s acts) ≡ Some r → is_held (state s acts) v ≡ true → point_in r.number (history_of (state s acts) v).images ≡ Some p
    → used_by blocks (history_of (state s acts) v).writes (history_of (state s acts) v).images r.number ≡ Some 0
held_slots s acts r v p blocks e f g =
    let h = history_of (state s acts) v in
    let new = newest_image s acts r v p e g in
    ap (λ images. used_by blocks h.writes images r.number) new.is
    ∙ used_by-last blocks r.number p (length h.writes) h.writes new.older (subst (AreInTime (length h.writes)) new.is (images_in_time s acts v))
    ∙ ap (λ bs. Some (length bs)) (none_named blocks p h.writes (held_point s acts r v p e f g))

-- ## Each volume of the set in progress has room for its image: it has fewer images of other sets than there can be.

-- with its image, no volume of the set has too many
abbrev Roomy : List History → Option SetRow → Type 0
Roomy hs None = Unit {0}
Roomy hs (Some r) = (v : ℕ) → is_among v r.volumes ≡ true → length (without_set r.number (at hs v).images) < most_images

abbrev HasRoom : State → Type 0
HasRoom st = Roomy st.volumes (in_progress st)

roomy_fewer : (hs ks : List History) (o : Option SetRow) → FewerIn hs ks → Roomy hs o → Roomy ks o
roomy_fewer hs ks None f h = tt
roomy_fewer hs ks (Some r) f h = λ v e. less _ _ _ ((f.each v).others r.number) (h v e) where
  less : (a b c : ℕ) → a ≤ b → b < c → a < c
  less a b c e f = omega (arith, e, f)

roomy_settled : (hs : List History) (p : SetOutcome) (rows : List SetRow) → Roomy hs (find (λ r. is_running r.result) rows) → Roomy hs (find (λ r. is_running r.result) (map (row_settled p) rows))
roomy_settled hs p rows h = grind (arith, common_steps, find-settled_running, find-settled_over)

-- a new set has no volume yet
roomy_append : (hs : List History) (rows : List SetRow) (r : SetRow) → r.volumes ≡ [] → Roomy hs (find (λ q. is_running q.result) rows) → Roomy hs (find (λ q. is_running q.result) (rows ++ r ∷ []))
roomy_append hs [] r e h = grind (arith, common_steps)
roomy_append hs (q ∷ rows) r e h = head_if (is_running q.result) h (roomy_append hs rows r e) where
  head_if : (b : Bool) → Roomy hs (if b then Some q else find (λ q. is_running q.result) rows)
      → (Roomy hs (find (λ q. is_running q.result) rows) → Roomy hs (find (λ q. is_running q.result) (rows ++ r ∷ [])))
      → Roomy hs (if b then Some q else find (λ q. is_running q.result) (rows ++ r ∷ []))
  head_if true h ih = h
  head_if false h ih = ih h

-- a volume that is added has room
room_if : (a b c : Bool) (x y z : VssResult) → (if a then Some x else if b then Some y else if c then Some z else None) ≡ None → c ≡ false
room_if a b c x y z e = grind arith

fewer_others : (n most : ℕ) (images : List Image) → length images < most → length (without_set n images) < most
fewer_others n most images l = let few = few_in n images in omega (arith, l, few) where
  few_in : (n : ℕ) (images : List Image) → length (without_set n images) ≤ length images
  few_in n [] = omega arith
  few_in n (i ∷ images) = let ih = few_in n images in grind (arith, common_steps)

roomy_added : (b : Bool) (hs : List History) (v : ℕ) (r : SetRow) → length (at hs v).images < most_images → Roomy hs (Some r) → Roomy hs (Some (if b then with_volume v r else r))
roomy_added b hs v r room h = grind (arith, common_steps, list_any-append, eqb-true, fewer_others)

-- a volume that gets its image has as many of other sets
others_made : (n p : ℕ) (images : List Image) → without_set n (images ++ record { set = n; point = p } ∷ []) ≡ without_set n images
others_made n p [] = grind (arith, common_steps, eq-eqb)
others_made n p (i ∷ images) = let ih = others_made n p images in grind (arith, common_steps)

roomy_made : (n u : ℕ) (hs : List History) (o : Option SetRow) (r : SetRow) → o ≡ Some r → n ≡ r.number → Roomy hs o → Roomy (change_at u (history_cut n) hs) o
roomy_made n u hs None r e f h = tt
roomy_made n u hs (Some q) r e f h = λ v g.
    at_change (λ (x : History). length (without_set q.number x.images) < most_images) (history_cut n) u hs v
    (λ same l. subst (λ k. length (without_set q.number ((at hs v).images ++ record { set = k; point = length (at hs v).writes } ∷ [])) < most_images) (own e ∙ sym f)
    (subst (λ (is : List Image). length is < most_images) (sym (others_made q.number (length (at hs v).writes) (at hs v).images)) l)) (h v g) where
      own : {x y : SetRow} → Some x ≡ Some y → x.number ≡ y.number
      own e = grind arith

-- ## each change

on_add : (st x : State) (n v : ℕ) → IsAdd st x n v → HasRoom x → HasRoom (apply x (change.AddsVolume n v))
on_add st x n v i h = grind (arith, common_steps, room_if, find-map, changed_result, roomy_added)

on_change : (s : Plan) (e : Event) (m : Mark) (st : State) (c : Change) (x : State) → Comes s e m st x c → HasRoom x → HasRoom (apply x c)
on_change s e m st (change.StartsSet r) x i h = roomy_append x.volumes x.sets r (ap (λ (q : SetRow). q.volumes) i.row) h
on_change s e m st (change.AddsVolume n v) x i h = on_add st x n v i h
on_change s e m st (change.IsCutAt n now) x i h = subst (Roomy x.volumes) (sym (find-row_cut n now x.sets))
    (grind (arith, common_steps, number-cut, volumes-row_cut_if))
on_change s e m st (change.Settles o) x i h = roomy_settled x.volumes o x.sets h
on_change s e m st (change.Makes n v) x i h = roomy_made n v x.volumes (in_progress x) i.0.row (ap in_progress i.1 ∙ i.0.found) i.0.number h
on_change s e m st c x i h = roomy_fewer x.volumes (apply x c).volumes (in_progress x) (fewer_apply c x refl) h

-- ## in every state

room : (s : Plan) (acts : List Act) → HasRoom (state s acts)
room s acts = by_all_changes HasRoom s (on_change s) (start s) acts tt

all_others : (n : ℕ) (images : List Image) → is_some (point_in n images) ≡ false → without_set n images ≡ images
all_others n [] e = refl
all_others n (i ∷ images) e = grind (arith, common_steps, all_others n images)

-- a volume of the set in progress that has no image of it has room for one
pub room_for_image : (s : Plan) (acts : List Act) (r : SetRow) (v : ℕ) → in_progress (state s acts) ≡ Some r → is_among v r.volumes ≡ true → has_image r.number (history_of (state s acts) v) ≡ false
    → length (history_of (state s acts) v).images < most_images
room_for_image s acts r v e f g =
    let st = state s acts in
    subst (λ (is : List Image). length is < most_images) (all_others r.number (history_of st v).images g) (subst (Roomy st.volumes) e (room s acts) v f)

pub room_before_cut : (s : Plan) (acts : List Act) (r : SetRow) (v : ℕ) → in_progress (state s acts) ≡ Some r → cut s r.number acts ≡ None → is_among v r.volumes ≡ true → length (history_of (state s acts) v).images < most_images
room_before_cut s acts r v e f g = room_for_image s acts r v e g (by_point (point_in r.number (history_of (state s acts) v).images) refl) where
  by_point : (o : Option ℕ) → point_in r.number (history_of (state s acts) v).images ≡ o → is_some o ≡ false
  by_point None h = refl
  by_point (Some p) h = absurd (subst (IsShownAt s v p (history_of (state s acts) v).writes) f (image_shown s acts r.number v p h))

pub room_at_cut : (s : Plan) (acts : List Act) (r : SetRow) (v : ℕ) → is_cut_group (open_group (left_now (state s acts))) ≡ true → in_progress (state s acts) ≡ Some r → is_among v r.volumes ≡ true → length (history_of (state s acts) v).images < most_images
room_at_cut s acts r v e f g = room_before_cut s acts r v f (not_cut_yet s acts r (cuts s acts e) f) g
