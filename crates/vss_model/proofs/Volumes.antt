-- What a change of the volumes does to the history at each place, and whose writes change by it: none of a volume that is held.
use Rattle.std.proofs.Common.{◌≡◌, ℕ, ◌==◌, ◌≤◌, zero, suc, List, [], ◌∷◌, Some, refl, Bool, true, false, map, filter, length, ap, arith, ◌∙◌}
use Rattle.std.specs.Prelude.{is_some, not, if◌then◌else◌, nat_lt, slice_get}
use Rattle.vss_model.proofs.Changes.{Comes, by_changes}
use Rattle.vss_model.proofs.HeldOfSet.{held_means}
use Rattle.vss_model.proofs.Rules.{Running}
use Rattle.vss_model.proofs.Spoken.{HoldsOwn, held_own}
use Rattle.vss_model.proofs.Terms.{nat_tests, common_steps, Write, Image, History, point_in, dropped, written, reverted, reverted_in_part, after_set}
use Rattle.vss_model.proofs.Terms.{without_set, Placed, gone_up_to, change_at, history_in, has_image, Mark, is_among, Plan, Event, State, history_of, is_held}
use Rattle.vss_model.proofs.Terms.{is_in_set, IsHeldForSet, RunsSnapshot, Act, after, state, Change, Writes, Makes, Reverts, RevertsPart, DropsSet, Drops}
use Rattle.vss_model.proofs.Terms.{Evicts, apply, history_cut}

-- ## What a change of the volumes does to the history at each place, and that most changes leave fewer images.

-- ## at each place

abbrev pub at : List History → ℕ → History
at hs v = history_in (slice_get hs v)

abbrev pub Each : (History → History → Type 0) → List History → List History → Type 0
Each R hs ks = (v : ℕ) → R (at hs v) (at ks v)

module _ (R : History → History → Type 0) (same : (h : History) → R h h) where
  pub each_map : (f : History → History) → ((h : History) → R h (f h)) → (hs : List History) → Each R hs (map f hs)
  each_map f g (x ∷ hs) (suc v) = each_map f g hs v
  each_map f g hs x3 = grind (arith, common_steps, nat_tests)

  pub each_change : (f : History → History) → ((h : History) → R h (f h)) → (u : ℕ) (hs : List History) → Each R hs (change_at u f hs)
  each_change f g u [] v = same (at [] v)
  each_change f g zero (x ∷ hs) zero = g x
  each_change f g zero (x ∷ hs) (suc v) = same (at hs v)
  each_change f g (suc u) (x ∷ hs) zero = same x
  each_change f g (suc u) (x ∷ hs) (suc v) = each_change f g u hs v

  gone_here : (b : Bool) (m : ℕ) (x : History) → R x (record { writes = x.writes; images = after_set m x.images }) → R x (if b then record { writes = x.writes; images = after_set m x.images } else x)
  gone_here b m x h = grind arith

  pub each_gone : (m : ℕ) → ((h : History) → R h (record { writes = h.writes; images = after_set m h.images })) → (ps : List Placed) (hs : List History) → Each R hs (gone_up_to m ps hs)
  each_gone m g (p ∷ ps) (x ∷ hs) (suc v) = each_gone m g ps hs v
  each_gone m g ps hs v = grind (arith, common_steps, nat_tests, gone_here)

-- a change at another place
pub change_other : (f : History → History) (u : ℕ) (hs : List History) (v : ℕ) → (u == v) ≡ false → at (change_at u f hs) v ≡ at hs v
change_other f u [] v e = refl
change_other f zero (x ∷ hs) zero e = absurd cc
change_other f zero (x ∷ hs) (suc v) e = refl
change_other f (suc u) (x ∷ hs) zero e = refl
change_other f (suc u) (x ∷ hs) (suc v) e = change_other f u hs v (one_less u v e) where
  one_less : (a b : ℕ) → (suc a == suc b) ≡ false → (a == b) ≡ false
  one_less a b e = grind arith

-- what is kept at the place of a change is kept everywhere
pub at_change : (P : History → Type 0) (f : History → History) (u : ℕ) (hs : List History) (v : ℕ) → (u ≡ v → P (at hs v) → P (f (at hs v))) → P (at hs v) → P (at (change_at u f hs) v)
at_change P f u [] v keep h = h
at_change P f zero (x ∷ hs) zero keep h = keep refl h
at_change P f zero (x ∷ hs) (suc v) keep h = h
at_change P f (suc u) (x ∷ hs) zero keep h = h
at_change P f (suc u) (x ∷ hs) (suc v) keep h = at_change P f u hs v (λ e. keep (ap (λ n. suc n) e)) h

-- ## fewer images

-- no image of another set, and no more of them
pub record Fewer (h k : History) : Type 0 where
  pub sets : (n : ℕ) → has_image n k ≡ true → has_image n h ≡ true
  pub count : length k.images ≤ length h.images
  pub others : (n : ℕ) → length (without_set n k.images) ≤ length (without_set n h.images)

pub fewer_same : (h : History) → Fewer h h
fewer_same h = grind arith

sets_filter : (test : Image → Bool) (images : List Image) (n : ℕ) → is_some (point_in n (filter test images)) ≡ true → is_some (point_in n images) ≡ true
sets_filter test [] n e = e
sets_filter test (i ∷ images) n e = by_test (test i) e (sets_filter test images n) where
  by_set : (b : Bool) → is_some (if b then Some i.point else point_in n (filter test images)) ≡ true → (is_some (point_in n (filter test images)) ≡ true → is_some (point_in n images) ≡ true) → is_some (if b then Some i.point else point_in n images) ≡ true
  by_set true e ih = refl
  by_set false e ih = ih e

  later : (b : Bool) → is_some (point_in n images) ≡ true → is_some (if b then Some i.point else point_in n images) ≡ true
  later true e = refl
  later false e = e

  by_test : (b : Bool) → is_some (point_in n (if b then i ∷ filter test images else filter test images)) ≡ true → (is_some (point_in n (filter test images)) ≡ true → is_some (point_in n images) ≡ true) → is_some (if i.set == n then Some i.point else point_in n images) ≡ true
  by_test true e ih = by_set (i.set == n) e ih
  by_test false e ih = later (i.set == n) (ih e)

count_filter : (test : Image → Bool) (images : List Image) → length (filter test images) ≤ length images
count_filter test [] = omega arith
count_filter test (i ∷ images) = let ih = count_filter test images in grind (arith, common_steps)

count_others : (test : Image → Bool) (n : ℕ) (images : List Image) → length (without_set n (filter test images)) ≤ length (without_set n images)
count_others test n [] = omega arith
count_others test n (i ∷ images) = let ih = count_others test n images in grind (arith, common_steps)

fewer_filter : (test : Image → Bool) (h : History) (ws : List Write) → Fewer h (record { writes = ws; images = filter test h.images })
fewer_filter test h ws = record { sets = λ n e. sets_filter test h.images n e; count = count_filter test h.images; others = λ n. count_others test n h.images }

pub fewer_dropped : (n : ℕ) (h : History) → Fewer h (dropped n h)
fewer_dropped n h = fewer_filter (λ i. not (i.set == n)) h h.writes

pub fewer_written : (w : Write) (h : History) → Fewer h (written w h)
fewer_written w h = record { sets = λ n e. e; count = (fewer_same h).count; others = (fewer_same h).others }

pub fewer_reverted : (n p : ℕ) (h : History) → Fewer h (reverted n p h)
fewer_reverted n p h = fewer_filter (λ i. not (nat_lt n i.set)) h _

pub fewer_in_part : (blocks n p k : ℕ) (h : History) → Fewer h (reverted_in_part blocks n p k h)
fewer_in_part blocks n p k h = fewer_filter (λ i. not (nat_lt n i.set)) h _

-- ## all volumes

pub as_many_map : (f : History → History) (hs : List History) → length (map f hs) ≡ length hs
as_many_map f hs = grind (arith, common_steps)

pub as_many_change : (f : History → History) (u : ℕ) (hs : List History) → length (change_at u f hs) ≡ length hs
as_many_change f u [] = refl
as_many_change f zero (x ∷ hs) = refl
as_many_change f (suc u) (x ∷ hs) = ap (λ n. suc n) (as_many_change f u hs)

pub as_many_gone : (m : ℕ) (ps : List Placed) (hs : List History) → length (gone_up_to m ps hs) ≡ length hs
as_many_gone m (p ∷ ps) (x ∷ hs) = ap (λ n. suc n) (as_many_gone m ps hs)
as_many_gone m ps hs = grind (arith, common_steps, nat_tests)

-- as many volumes, each with fewer images
pub record FewerIn (hs ks : List History) : Type 0 where
  pub each : Each Fewer hs ks
  pub as_many : length ks ≡ length hs

pub fewer_in_same : (hs : List History) → FewerIn hs hs
fewer_in_same hs = record { each = λ v. fewer_same (at hs v); as_many = refl }

pub fewer_in_over : (hs ks ls : List History) → FewerIn hs ks → FewerIn ks ls → FewerIn hs ls
fewer_in_over hs ks ls h g = grind (arith, common_steps, nat_tests)

pub fewer_in_map : (f : History → History) → ((h : History) → Fewer h (f h)) → (hs : List History) → FewerIn hs (map f hs)
fewer_in_map f g hs = record { each = each_map Fewer fewer_same f g hs; as_many = as_many_map f hs }

pub fewer_in_change : (f : History → History) → ((h : History) → Fewer h (f h)) → (u : ℕ) (hs : List History) → FewerIn hs (change_at u f hs)
fewer_in_change f g u hs = record { each = each_change Fewer fewer_same f g u hs; as_many = as_many_change f u hs }

pub fewer_in_gone : (m : ℕ) (ps : List Placed) (hs : List History) → FewerIn hs (gone_up_to m ps hs)
fewer_in_gone m ps hs = record {
  each = each_gone Fewer fewer_same m
      (λ h. fewer_filter (λ i. nat_lt m i.set) h h.writes) ps hs;
  as_many = as_many_gone m ps hs;
}

-- ## The effective writes of a volume change by writes and reverts of it alone; so those of a volume of the set in progress do not
-- change while it is held.

abbrev SameWrites : History → History → Type 0
SameWrites h k = k.writes ≡ h.writes

-- a change writes to volume v, or reverts it
abbrev pub rewrites : ℕ → Change → Bool
rewrites v (Writes u w) = u == v
rewrites v (Reverts u n p) = u == v
rewrites v (RevertsPart u blocks n p k) = u == v
rewrites v _ = false

pub same_writes : (v : ℕ) (c : Change) (x : State) → rewrites v c ≡ false → (at (apply x c).volumes v).writes ≡ (at x.volumes v).writes
same_writes v (Writes u w) x e = ap (λ (h : History). h.writes) (change_other (written w) u x.volumes v e)
same_writes v (Reverts u n p) x e = ap (λ (h : History). h.writes) (change_other (reverted n p) u x.volumes v e)
same_writes v (RevertsPart u blocks n p k) x e = ap (λ (h : History). h.writes) (change_other (reverted_in_part blocks n p k) u x.volumes v e)
same_writes v (Makes n u) x e = each_change SameWrites (λ h. refl) (history_cut n) (λ h. refl) u x.volumes v
same_writes v (DropsSet n) x e = each_map SameWrites (λ h. refl) (dropped n) (λ h. refl) x.volumes v
same_writes v (Drops n u) x e = each_change SameWrites (λ h. refl) (dropped n) (λ h. refl) u x.volumes v
same_writes v (Evicts n group) x e = each_gone SameWrites (λ h. refl) n (λ h. refl) group x.volumes v
same_writes v _ x e = refl

held_volume : (st : State) (v : ℕ) (run : RunsSnapshot st) → Running HoldsOwn st.course.agenda → is_held st v ≡ true → is_among v run.set.volumes ≡ true
held_volume st v run own e = grind arith

pub held_for_set : (s : Plan) (so_far : List Act) (v : ℕ) → is_held (state s so_far) v ≡ true → IsHeldForSet (state s so_far) v
held_for_set s so_far v e = grind (arith, held_means, held_volume, held_own)

-- no change of an act writes to a volume that is held before it
pub held_unwritten : (s : Plan) (acts : List Act) (e : Event) (m : Mark) (x : State) (v : ℕ) → is_held (state s acts) v ≡ true → (c : Change) → Comes s e m (state s acts) x c → rewrites v c ≡ false
held_unwritten s acts e m x v h c i =
    let held = held_for_set s acts v h in grind (arith, common_steps, (ap (is_in_set v) held.run.in_progress_is ∙ held.volume))

pub held_keeps : (s : Plan) (acts : List Act) (act : Act) (v : ℕ) → is_held (state s acts) v ≡ true → (history_of (after s (state s acts) act) v).writes ≡ (history_of (state s acts) v).writes
held_keeps s acts act v h =
    let st = state s acts in
    by_changes (λ x. (history_of x v).writes ≡ (history_of st v).writes) s st act
    (λ c x i g. same_writes v c x (held_unwritten s acts act.event act.mark x v h c i) ∙ g) refl
