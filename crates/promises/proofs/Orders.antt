-- Who was waited for has spoken, and each participant is heard at its own level.
use Rattle.std.proofs.Common.{◌≡◌, ◌∙◌, ℕ, ◌==◌, List, [], ◌∷◌, Option, Some, None, refl, Bool, true, false, ap, sym, subst, map, ◌≤◌, ◌<◌, filter, arith}
use Rattle.std.specs.Prelude.{◌&&◌, ◌||◌, not, if◌then◌else◌, is_some}
use Rattle.vss_names.specs.Level.{number_of}
use Rattle.set_agenda.specs.Agenda.{has_failed}
use Rattle.promises.specs.Way.{failed}
use Rattle.promises.proofs.Levels.{Ascends, MembersOf}
use Rattle.promises.proofs.Speaks.{deed_at, deed_in}
use Rattle.promises.proofs.Stages.{deeds_in, open_stage, Below, level_or, leveled, Closed}
use Rattle.promises.proofs.Members.{same_number}
use Rattle.promises.proofs.Words.{list_any, Level, Order, Identify, PrepareBackup, PrepareSnapshot, Freeze, Thaw, PostSnapshot, BackupComplete, Said, Group}
use Rattle.promises.proofs.Words.{Orders, PreCommit, Flush, Hold, Cut, Commit, Release, PostCommit, Snapshot, Member, Place, is_member, fails_set, Plan}
use Rattle.promises.proofs.Words.{unspoken, true_not_false, among_filter, among_members, Deed, level_of, stage, Rising, same_volume, is_heard, is_made, AreOnce}
use Rattle.promises.proofs.Words.{heard, agreed, made, and_parts, or_left, or_right, Agenda, Entry, Open, plain, places, same_order, group_code, level_code}
use Rattle.promises.proofs.Words.{is_orders, has_said, is_at, writers_at, members_of, waited_for, with_group, left_from, groups_left, open_place, is_among}
use Rattle.promises.proofs.Words.{at_level, number_is, System, BackEnd, FrontEnd, is_ok, and_from, order_code, order_of, is_agreed, all_said}

-- ## who was waited for has spoken

pub decode : ℕ → Group
decode n =
    if n == 0 then Orders Identify
    else if n == 1 then Orders PrepareBackup
    else if n == 2 then Orders PrepareSnapshot
    else if n == 3 then Orders Freeze
    else if n == 4 then Orders Thaw
    else if n == 5 then Orders PostSnapshot
    else if n == 6 then Orders BackupComplete
    else if n == 7 then PreCommit
    else if n == 8 then Flush
    else if n == 9 then Hold
    else if n == 10 then Cut
    else if n == 11 then Commit
    else if n == 12 then Release
    else PostCommit

pub decoded : (g : Group) → decode (group_code g) ≡ g
unfolding decode
decoded (Orders Identify) = refl
decoded (Orders _) = refl
decoded _ = refl

pub same_group : (g h : Group) → (group_code g == group_code h) ≡ true → g ≡ h
same_group g h e = sym (decoded g) ∙ ap decode (number_is (group_code g) (group_code h) e) ∙ decoded h

-- what was said at a place is a deed of it
pub said_deed : (log : List Entry) (p : Place) (who : ℕ) (test : Deed → Bool)
    → ((said : Said) (now u : ℕ) → (u == who) ≡ true → test (deed_at p.group u said now) ≡ true) → has_said log p who ≡ true
    → list_any test (map deed_in log) ≡ true
said_deed [] p who test f e = absurd cc
said_deed (x ∷ log) p who test f e = by_head (group_code x.place.group == group_code p.group) (level_code x.place.level == level_code p.level) (x.who == who) refl refl e (said_deed log p who test f)
  where
    by_head : (b l c : Bool) → (group_code x.place.group == group_code p.group) ≡ b → (x.who == who) ≡ c → (((b && l) && c) || has_said log p who) ≡ true
        → (has_said log p who ≡ true → list_any test (map deed_in log) ≡ true) → (test (deed_in x) || list_any test (map deed_in log)) ≡ true
    by_head true true true g h e ih =
        or_left (test (deed_in x)) _ (subst (λ z. test (deed_at z x.who x.said x.time) ≡ true) (sym (same_group x.place.group p.group g)) (f x.said x.time x.who h))
    by_head true true false g h e ih = or_right (test (deed_in x)) _ (ih e)
    by_head true false c g h e ih = or_right (test (deed_in x)) _ (ih e)
    by_head false l c g h e ih = or_right (test (deed_in x)) _ (ih e)

-- the place where a writer says something to an order
abbrev pub order_place : Order → Level → Place
order_place Identify l = plain (Orders Identify)
order_place PrepareBackup l = plain (Orders PrepareBackup)
order_place PrepareSnapshot l = plain (Orders PrepareSnapshot)
order_place Freeze l = at_level Freeze l
order_place Thaw l = at_level Thaw l
order_place PostSnapshot l = plain (Orders PostSnapshot)
order_place BackupComplete l = plain (Orders BackupComplete)

abbrev pub place_of : Plan → Order → ℕ → Place
place_of s order w = order_place order (level_of s w)

-- ## what the log keeps

abbrev pub volume_number : Option ℕ → ℕ
volume_number None = 0
volume_number (Some v) = v

pub record Good (s : Plan) (a : Agenda) : Type 0 where
  pub rising : MembersOf (level_of s) a.members → Rising (map (stage s) (deeds_in a))
  pub below : MembersOf (level_of s) a.members → Below (open_stage (groups_left a)) (map (stage s) (deeds_in a))
  pub once : MembersOf (level_of s) a.members → Ascends 0 a.members → AreOnce (deeds_in a)
  -- what a writer said is in the log
  pub spoken : MembersOf (level_of s) a.members → (order : Order) (w : ℕ) → heard order w (deeds_in a) ≡ true → has_said a.log (place_of s order w) w ≡ true
  -- a step that was made is in the log
  pub logged : (g : Group) (v : Option ℕ) → made g v (deeds_in a) ≡ true → has_said a.log (plain g) (volume_number v) ≡ true
  pub of_participants : (order : Order) (w : ℕ) → heard order w (deeds_in a) ≡ true → is_member a.members w ≡ true
  pub of_volumes : (g : Group) (v : ℕ) → made g (Some v) (deeds_in a) ≡ true → is_among v a.volumes ≡ true
  pub consent : (order : Order) (w : ℕ) → fails_set (Some order) ≡ true → heard order w (deeds_in a) ≡ true → agreed order w (deeds_in a) ≡ true
  pub told_after : (w : ℕ) → heard PostSnapshot w (deeds_in a) ≡ true → agreed Thaw w (deeds_in a) ≡ true

pub good_unspoken : (s : Plan) (ms : List Member) (vs : List ℕ) (now : ℕ) → Good s (unspoken Snapshot ms vs now)
good_unspoken s ms vs now = record {
  rising = λ lv. tt;
  below = λ lv. tt;
  once = λ lv up. tt;
  spoken = λ lv order w e. absurd cc;
  logged = λ g v e. absurd cc;
  of_participants = λ order w e. absurd cc;
  of_volumes = λ g v e. absurd cc;
  consent = λ order w e f. absurd cc;
  told_after = λ w e. absurd cc;
}

-- a step of the provider is plain
abbrev pub StepsPlain : List Place → Type 0
StepsPlain [] = Unit {0}
StepsPlain (p ∷ ps) = (is_orders p.group ≡ false → p ≡ plain p.group) × StepsPlain ps

pub steps_plain : StepsPlain (places Snapshot)
steps_plain = (
  λ e. absurd
      cc,
  (
    λ e. absurd
        cc,
    (
      λ e. absurd
          cc,
      (
        λ e. absurd
            cc,
        (
          λ e. refl,
          (
            λ e.
                refl,
            (λ e. refl, (λ e. refl, (λ e. refl, (λ e. refl, (λ e. refl, (λ e. absurd cc, (λ e. absurd cc, (λ e. absurd cc, (λ e. absurd cc, tt))))))))),
          ),
        ),
      ),
    ),
  ),
)

pub open_plain : (a : Agenda) (ps : List Place) → StepsPlain ps → is_orders (open_place (left_from a ps)).group ≡ false → open_place (left_from a ps) ≡ plain (open_place (left_from a ps)).group
open_plain a [] h e = refl
open_plain a (p ∷ ps) h e = at_group (waited_for a p) (left_from a ps) (open_plain a ps h.1) e where
  at_group : (ws : List ℕ) (later : List Open) → (is_orders (open_place later).group ≡ false → open_place later ≡ plain (open_place later).group)
      → is_orders (open_place (with_group p ws later)).group ≡ false → open_place (with_group p ws later) ≡ plain (open_place (with_group p ws later)).group
  at_group [] later ih e = ih e
  at_group (w ∷ ws) later ih e = h.0 e

-- ## members

pub order_member : (o : Order) (a : Agenda) (l : Option Level) (w : ℕ) → is_among w (members_of a (Orders o) l) ≡ true → is_member a.members w ≡ true
order_member PostSnapshot a l w h = among_members (λ m. is_at l m.level) w a.members (among_filter (λ x. not (has_failed a.log x)) w (writers_at a.members l) h)
order_member _ a l w h = among_members (λ m. is_at l m.level) w a.members h

-- the writer of a deed that was heard, and its group
pub heard_writer : (order : Order) (w : ℕ) (g : Group) (a : Agenda) (l : Option Level) (u : ℕ) (said : Said) (now : ℕ) → is_among u (members_of a g l) ≡ true
    → is_heard order w (deed_at g u said now) ≡ true → is_member a.members w ≡ true
heard_writer order w (Orders o) a l u said now h e = subst (λ x. is_member a.members x ≡ true) (number_is u w (and_parts (same_order o order) (u == w) e).1) (order_member o a l u h)
heard_writer order w _ a l u said now h e = absurd cc

pub made_volume : (g : Group) (v : ℕ) (h : Group) (a : Agenda) (l : Option Level) (u : ℕ) (said : Said) (now : ℕ) → is_among u (members_of a h l) ≡ true
    → is_made g (Some v) (deed_at h u said now) ≡ true → is_among v a.volumes ≡ true
made_volume g v (Orders o) a l u said now i e = absurd cc
made_volume g v PreCommit a l u said now i e = absurd (true_not_false false (and_parts (group_code PreCommit == group_code g) false e).1 refl)
made_volume g v Flush a l u said now i e = subst (λ x. is_among x a.volumes ≡ true) (number_is u v (and_parts (group_code Flush == group_code g) (u == v) e).1) i
made_volume g v Hold a l u said now i e = subst (λ x. is_among x a.volumes ≡ true) (number_is u v (and_parts (group_code Hold == group_code g) (u == v) e).1) i
made_volume g v Cut a l u said now i e = absurd (true_not_false false (and_parts (group_code Cut == group_code g) false e).1 refl)
made_volume g v Commit a l u said now i e = subst (λ x. is_among x a.volumes ≡ true) (number_is u v (and_parts (group_code Commit == group_code g) (u == v) e).1) i
made_volume g v Release a l u said now i e = subst (λ x. is_among x a.volumes ≡ true) (number_is u v (and_parts (group_code Release == group_code g) (u == v) e).1) i
made_volume g v PostCommit a l u said now i e = absurd (true_not_false false (and_parts (group_code PostCommit == group_code g) false e).1 refl)

-- a step is logged under its volume, or under 0
pub alone : (u : ℕ) → is_among u (0 ∷ []) ≡ true → u ≡ 0
alone u e = by_head (0 == u) refl e where
  by_head : (b : Bool) → (0 == u) ≡ b → (b || false) ≡ true → u ≡ 0
  by_head true f e = sym (number_is 0 u f)
  by_head false f e = absurd cc

pub record IsStep (g : Group) (v : Option ℕ) (h : Group) (u : ℕ) : Type 0 where
  pub group : h ≡ g
  pub number : u ≡ volume_number v
  pub step : is_orders h ≡ false

pub step_none : (g : Group) (v : Option ℕ) (h : Group) (u : ℕ) → is_orders h ≡ false → u ≡ 0 → ((group_code h == group_code g) && same_volume None v) ≡ true → IsStep g v h u
step_none g None h u s e f = record { group = same_group h g (and_parts (group_code h == group_code g) true f).0; number = e; step = s }
step_none g (Some v) h u s e f = absurd (true_not_false false (and_parts (group_code h == group_code g) false f).1 refl)

pub step_some : (g : Group) (v : Option ℕ) (h : Group) (u : ℕ) → is_orders h ≡ false → ((group_code h == group_code g) && same_volume (Some u) v) ≡ true → IsStep g v h u
step_some g None h u s f = absurd (true_not_false false (and_parts (group_code h == group_code g) false f).1 refl)
step_some g (Some v) h u s f =
    let parts = and_parts (group_code h == group_code g) (u == v) f in
    record { group = same_group h g parts.0; number = number_is u v parts.1; step = s }

pub is_step : (g : Group) (v : Option ℕ) (h : Group) (a : Agenda) (l : Option Level) (u : ℕ) (said : Said) (now : ℕ) → is_among u (members_of a h l) ≡ true
    → is_made g v (deed_at h u said now) ≡ true → IsStep g v h u
is_step g v (Orders o) a l u said now i e = absurd cc
is_step g v PreCommit a l u said now i e = step_none g v PreCommit u refl (alone u i) e
is_step g v Flush a l u said now i e = step_some g v Flush u refl e
is_step g v Hold a l u said now i e = step_some g v Hold u refl e
is_step g v Cut a l u said now i e = step_none g v Cut u refl (alone u i) e
is_step g v Commit a l u said now i e = step_some g v Commit u refl e
is_step g v Release a l u said now i e = step_some g v Release u refl e
is_step g v PostCommit a l u said now i e = step_none g v PostCommit u refl (alone u i) e

-- ## orders and levels: each participant is heard at its own

-- ## orders

pub order_codes : (o : Order) → group_code (Orders o) ≡ order_code o
order_codes o = grind arith

pub same_orders : (o p : Order) → same_order o p ≡ true → o ≡ p
same_orders o p e = grind (arith, same_group, order_codes)

pub agreed_at : (h : Group) (order : Order) (w u : ℕ) (said : Said) (now : ℕ) → is_heard order w (deed_at h u said now) ≡ true
    → (fails_set (order_of h) && not (is_ok said)) ≡ false → fails_set (Some order) ≡ true → is_agreed order w (deed_at h u said now) ≡ true
agreed_at h order w u said now e mild d = grind (arith, and_parts, same_orders, and_from)

pub post_group : (h : Group) (w u : ℕ) (said : Said) (now : ℕ) → is_heard PostSnapshot w (deed_at h u said now) ≡ true → (h ≡ Orders PostSnapshot) × (u ≡ w)
post_group h w u said now e = grind (arith, and_parts, same_orders, number_is)

pub heard_group : (order : Order) (h : Group) (w u : ℕ) (said : Said) (now : ℕ) → is_heard order w (deed_at h u said now) ≡ true → (h ≡ Orders order) × (u ≡ w)
heard_group order h w u said now e = grind (arith, and_parts, same_orders, number_is)

-- who was heard at Thaw and has not failed said ok
pub heard_agreed : (log : List Entry) (w : ℕ) → has_failed log w ≡ false → heard Thaw w (map deed_in log) ≡ true → agreed Thaw w (map deed_in log) ≡ true
heard_agreed [] w e f = absurd cc
heard_agreed (x ∷ log) w e f = at_group x.place.group x.who x.said x.time e f (heard_agreed log w) where
  by_parts : (same ok own failed more agreed : Bool) → ((true && not ok && own) || failed) ≡ false → ((same && own) || more) ≡ true
      → (failed ≡ false → more ≡ true → agreed ≡ true) → ((same && ok && own) || agreed) ≡ true
  by_parts true true true failed more agreed e f ih = refl
  by_parts true false true failed more agreed e f ih = absurd cc
  by_parts true true false failed more agreed e f ih = ih e f
  by_parts true false false failed more agreed e f ih = ih e f
  by_parts false true own failed more agreed e f ih = ih e f
  by_parts false false true failed more agreed e f ih = absurd cc
  by_parts false false false failed more agreed e f ih = ih e f

  at_group : (h : Group) (u : ℕ) (said : Said) (now : ℕ) → ((is_orders h && not (is_ok said) && (u == w)) || has_failed log w) ≡ false
      → (is_heard Thaw w (deed_at h u said now) || heard Thaw w (map deed_in log)) ≡ true
      → (has_failed log w ≡ false → heard Thaw w (map deed_in log) ≡ true → agreed Thaw w (map deed_in log) ≡ true)
      → (is_agreed Thaw w (deed_at h u said now) || agreed Thaw w (map deed_in log)) ≡ true
  at_group (Orders o) u said now e f ih = by_parts (same_order o Thaw) (is_ok said) (u == w) (has_failed log w) (heard Thaw w (map deed_in log)) (agreed Thaw w (map deed_in log)) e f ih
  at_group _ u said now e f ih = ih e f

-- each member is of a level
pub at_some_level : (ms : List Member) (w : ℕ) (X : Type 0) → ((l : Level) → is_among w (writers_at ms (Some l)) ≡ true → X) → is_member ms w ≡ true → X
at_some_level [] w X f e = absurd cc
at_some_level (m ∷ ms) w X f e = by_head (m.writer == w) refl e (λ h. at_some_level ms w X (λ l i. f l (later l (is_at (Some l) m.level) i)) h) where
  later : (l : Level) (b : Bool) → is_among w (writers_at ms (Some l)) ≡ true → is_among w (map (λ (x : Member). x.writer)
      (if b then m ∷ filter (λ (x : Member). is_at (Some l) x.level) ms else filter (λ (x : Member). is_at (Some l) x.level) ms)) ≡ true
  later l true i = or_right (m.writer == w) _ i
  later l false i = i

  own : (b : Bool) → b ≡ true → (m.writer == w) ≡ true → is_among w (map (λ (x : Member). x.writer)
      (if b then m ∷ filter (λ (x : Member). is_at (Some m.level) x.level) ms else filter (λ (x : Member). is_at (Some m.level) x.level) ms)) ≡ true
  own true h i = or_left (m.writer == w) _ i
  own false h i = absurd cc

  by_head : (b : Bool) → (m.writer == w) ≡ b → (b || is_member ms w) ≡ true → (is_member ms w ≡ true → X) → X
  by_head true h e ih = f m.level (own (is_at (Some m.level) m.level) (same_number (level_code (Some m.level))) h)
  by_head false h e ih = ih e

pub all_among : (ms : List Member) (w : ℕ) → is_member ms w ≡ true → is_among w (writers_at ms None) ≡ true
all_among [] w e = absurd cc
all_among (m ∷ ms) w e = by_head (m.writer == w) e (all_among ms w) where
  by_head : (b : Bool) → (b || is_member ms w) ≡ true → (is_member ms w ≡ true → is_among w (writers_at ms None) ≡ true) → (b || is_among w (writers_at ms None)) ≡ true
  by_head true e ih = refl
  by_head false e ih = ih e

pub heard_at : (a : Agenda) (o : Order) (l : Option Level) (w : ℕ) → is_among w (members_of a (Orders o) l) ≡ true
    → waited_for a (record { group = Orders o; level = l }) ≡ [] → heard o w (deeds_in a) ≡ true
heard_at a o l w m e =
    said_deed a.log (record { group = Orders o; level = l }) w (is_heard o w)
    (λ said now u f. and_from (same_order o o) (u == w) (same_number (order_code o)) f)
    (all_said a.log (record { group = Orders o; level = l }) (members_of a (Orders o) l) w e m)

pub smaller : (a b k : ℕ) → a ≤ b → b < k → a < k
smaller a b k l h = omega arith

pub prepare_heard : (a : Agenda) (k : ℕ) → 0 < k → Closed a k (places Snapshot) → (w : ℕ) → is_member a.members w ≡ true → heard PrepareSnapshot w (deeds_in a) ≡ true
prepare_heard a k l c w e = heard_at a PrepareSnapshot None w (all_among a.members w e) (c.0 l)

pub freeze_heard : (a : Agenda) (k : ℕ) → 3 < k → Closed a k (places Snapshot) → (w : ℕ) → is_member a.members w ≡ true → heard Freeze w (deeds_in a) ≡ true
freeze_heard a k l c w e = at_some_level a.members w (heard Freeze w (deeds_in a) ≡ true) at_level_heard e where
  at_level_heard : (x : Level) → is_among w (writers_at a.members (Some x)) ≡ true → heard Freeze w (deeds_in a) ≡ true
  at_level_heard FrontEnd m = heard_at a Freeze (Some FrontEnd) w m (c.1.0 (smaller 1 3 k (omega arith) l))
  at_level_heard BackEnd m = heard_at a Freeze (Some BackEnd) w m (c.1.1.0 (smaller 2 3 k (omega arith) l))
  at_level_heard System m = heard_at a Freeze (Some System) w m (c.1.1.1.0 l)

pub thaw_heard : (a : Agenda) (k : ℕ) → 13 < k → Closed a k (places Snapshot) → (w : ℕ) → is_member a.members w ≡ true → heard Thaw w (deeds_in a) ≡ true
thaw_heard a k l c w e = at_some_level a.members w (heard Thaw w (deeds_in a) ≡ true) at_level_heard e where
  at_level_heard : (x : Level) → is_among w (writers_at a.members (Some x)) ≡ true → heard Thaw w (deeds_in a) ≡ true
  at_level_heard System m = heard_at a Thaw (Some System) w m (c.1.1.1.1.1.1.1.1.1.1.1.0 (smaller 11 13 k (omega arith) l))
  at_level_heard BackEnd m = heard_at a Thaw (Some BackEnd) w m (c.1.1.1.1.1.1.1.1.1.1.1.1.0 (smaller 12 13 k (omega arith) l))
  at_level_heard FrontEnd m = heard_at a Thaw (Some FrontEnd) w m (c.1.1.1.1.1.1.1.1.1.1.1.1.1.0 l)

-- ## levels

pub same_levels : (x y : Level) → (number_of x == number_of y) ≡ true → x ≡ y
same_levels x y e = grind arith

pub level_among : (s : Plan) (x : Level) (ms : List Member) (w : ℕ) → MembersOf (level_of s) ms → is_among w (writers_at ms (Some x)) ≡ true → level_of s w ≡ x
level_among s x [] w lv e = absurd cc
level_among s x (m ∷ ms) w lv e = by_head (is_at (Some x) m.level) (m.writer == w) refl refl e (level_among s x ms w lv.1) where
  by_head : (b c : Bool) → is_at (Some x) m.level ≡ b → (m.writer == w) ≡ c → is_among w (map (λ (y : Member). y.writer)
      (if b then m ∷ filter (λ (y : Member). is_at (Some x) y.level) ms else filter (λ (y : Member). is_at (Some x) y.level) ms)) ≡ true
      → (is_among w (writers_at ms (Some x)) ≡ true → level_of s w ≡ x) → level_of s w ≡ x
  by_head false c f h e ih = ih e
  by_head true true f h e ih = ap (level_of s) (sym (number_is m.writer w h)) ∙ sym lv.0 ∙ sym (same_levels x m.level f)
  by_head true false f h e ih = ih (other (m.writer == w) h e) where
    other : (c : Bool) → c ≡ false → (c || is_among w (writers_at ms (Some x))) ≡ true → is_among w (writers_at ms (Some x)) ≡ true
    other true h e = absurd cc
    other false h e = e

pub of_group_level : (s : Plan) (a : Agenda) (g : Group) (l : Option Level) (w : ℕ) → MembersOf (level_of s) a.members → is_among w (members_of a g l) ≡ true
    → leveled g ≡ true → is_some l ≡ true → level_of s w ≡ level_or l
of_group_level s a g l w lv m e f = grind (arith, level_among)

abbrev pub LevelsGiven : List Place → Type 0
LevelsGiven [] = Unit {0}
LevelsGiven (p ∷ ps) = (leveled p.group ≡ true → is_some p.level ≡ true) × LevelsGiven ps

pub levels_given : LevelsGiven (places Snapshot)
levels_given = grind arith

pub open_leveled : (a : Agenda) (ps : List Place) → LevelsGiven ps → leveled (open_place (left_from a ps)).group ≡ true → is_some (open_place (left_from a ps)).level ≡ true
open_leveled a [] h e = absurd cc
open_leveled a (p ∷ ps) h e = at_group (waited_for a p) (left_from a ps) (open_leveled a ps h.1) e where
  at_group : (ws : List ℕ) (later : List Open) → (leveled (open_place later).group ≡ true → is_some (open_place later).level ≡ true) → leveled (open_place (with_group p ws later)).group ≡ true
      → is_some (open_place (with_group p ws later)).level ≡ true
  at_group [] later ih e = ih e
  at_group (w ∷ ws) later ih e = h.0 e
