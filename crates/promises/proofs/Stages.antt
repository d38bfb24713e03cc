-- The stages of a snapshot's sequence in its agenda: groups stay closed, the stage of the open group does not fall, and what is said
-- belongs to it.
use Rattle.promises.proofs.Words.{list_any, list_any-append, Level, System, Identify, PrepareBackup, PrepareSnapshot, Freeze, Thaw, PostSnapshot, BackupComplete, Said, Group, Orders, PreCommit}
use Rattle.promises.proofs.Words.{Flush, Hold, Cut, Commit, Release, PostCommit, Snapshot, Place, Plan, after, said_stays, true_not_false, Deed, level_of, order_stage, stage, Rising}
use Rattle.std.proofs.Common.{◌≡◌, ◌∙◌, ℕ, ◌==◌, ◌≤◌, ◌<◌, List, [], ◌∷◌, ◌++◌, Option, Some, None, refl, Bool, true, false, ap, sym, map, filter, arith}
use Rattle.std.specs.Prelude.{◌||◌, not, if◌then◌else◌}
use Rattle.std.proofs.lemmas.Bool.{or_left, or_right}
use Rattle.set_agenda.specs.Agenda.{Agenda, Entry, Open, places, has_failed, has_said, writers_at, members_of, waited_for, with_group, left_from, groups_left, is_among, at_place, all_say}
use Rattle.promises.proofs.Members.{chain, no_less, same_number}
use Rattle.promises.proofs.Speaks.{deed_at, deed_in, said_at}
use Rattle.vss_model.proofs.Spoken.{fewer_wait}

abbrev pub deeds_in : Agenda → List Deed
deeds_in a = map deed_in a.log

-- ## truth values

pub deeds_append : (xs ys : List Entry) → map deed_in (xs ++ ys) ≡ map deed_in xs ++ map deed_in ys
deeds_append [] ys = refl
deeds_append (x ∷ xs) ys = ap (λ zs. deed_in x ∷ zs) (deeds_append xs ys)

pub any_more : (test : Deed → Bool) (log new : List Entry) → list_any test (map deed_in (log ++ new)) ≡ (list_any test (map deed_in log) || list_any test (map deed_in new))
any_more test log new = ap (list_any test) (deeds_append log new) ∙ list_any-append test (map deed_in log) (map deed_in new)

-- what one member more says holds of all or of none
pub any_said : (test : Deed → Bool) (p : Place) (said : Said) (now : ℕ) (ws : List ℕ) (X : Type 0)
    → ((w : ℕ) → is_among w ws ≡ true → test (deed_at p.group w said now) ≡ true → X) → list_any test (map deed_in (map (at_place p said now) ws)) ≡ true → X
any_said test p said now [] X f e = absurd cc
any_said test p said now (w ∷ ws) X f e = by_head (test (deed_at p.group w said now)) refl e (any_said test p said now ws X (λ u i. f u (or_right (w == u) (is_among u ws) i)))
  where
    by_head : (b : Bool) → test (deed_at p.group w said now) ≡ b → (b || list_any test (map deed_in (map (at_place p said now) ws))) ≡ true
        → (list_any test (map deed_in (map (at_place p said now) ws)) ≡ true → X) → X
    by_head true g h ih = f w (or_left (w == w) (is_among w ws) (same_number w)) g
    by_head false g h ih = ih h

-- ## stages

abbrev pub level_or : Option Level → Level
level_or None = System
level_or (Some l) = l

abbrev pub group_stage : Group → Option Level → ℕ
group_stage (Orders o) l = order_stage o (level_or l)
group_stage PreCommit l = 4
group_stage Flush l = 5
group_stage Hold l = 6
group_stage Cut l = 7
group_stage Commit l = 8
group_stage Release l = 9
group_stage PostCommit l = 10

abbrev pub place_stage : Place → ℕ
place_stage p = group_stage p.group p.level

-- the groups that go by levels
abbrev pub leveled : Group → Bool
leveled (Orders Freeze) = true
leveled (Orders Thaw) = true
leveled (Orders _) = false
leveled _ = false

-- in a group that goes by levels the writer is of the group's level
abbrev pub IsOfLevel : Plan → Place → ℕ → Type 0
IsOfLevel s p w = leveled p.group ≡ true → level_of s w ≡ level_or p.level

pub stage_at : (s : Plan) (g : Group) (l : Option Level) (who : ℕ) (said : Said) (now : ℕ) → (leveled g ≡ true → level_of s who ≡ level_or l) → stage s (deed_at g who said now) ≡ group_stage g l
stage_at s g l who said now h = grind arith

abbrev pub open_stage : List Open → ℕ
open_stage [] = 15
open_stage (o ∷ os) = place_stage o.place

abbrev pub Below : ℕ → List ℕ → Type 0
Below m [] = Unit {0}
Below m (n ∷ ns) = (n ≤ m) × Below m ns

pub below_more : (m n : ℕ) (ns : List ℕ) → m ≤ n → Below m ns → Below n ns
below_more m n [] l h = tt
below_more m n (x ∷ ns) l h = (chain x m n h.0 l, below_more m n ns l h.1)

pub below_append : (m : ℕ) (ns : List ℕ) (ws : List ℕ) (k : ℕ) → Below m ns → k ≤ m → Below m (ns ++ map (λ w. k) ws)
below_append m [] [] k h l = tt
below_append m [] (w ∷ ws) k h l = (l, below_append m [] ws k h l)
below_append m (n ∷ ns) ws k h l = (h.0, below_append m ns ws k h.1 l)

pub rising_same : (k : ℕ) (ws : List ℕ) → Rising (map (λ w. k) ws)
rising_same k (w ∷ v ∷ ws) = (no_less k, rising_same k (v ∷ ws))
rising_same k _ = tt

pub rising_append : (ns : List ℕ) (k : ℕ) (ws : List ℕ) → Rising ns → Below k ns → Rising (ns ++ map (λ w. k) ws)
rising_append [] k ws h b = rising_same k ws
rising_append (n ∷ []) k [] h b = tt
rising_append (n ∷ []) k (w ∷ ws) h b = (b.0, rising_same k (w ∷ ws))
rising_append (n ∷ m ∷ ns) k ws h b = (h.0, rising_append (m ∷ ns) k ws h.1 b.1)

pub stages_append : (s : Plan) (xs ys : List Deed) → map (stage s) (xs ++ ys) ≡ map (stage s) xs ++ map (stage s) ys
stages_append s [] ys = refl
stages_append s (x ∷ xs) ys = ap (λ zs. stage s x ∷ zs) (stages_append s xs ys)

pub stages_said : (s : Plan) (p : Place) (said : Said) (now : ℕ) (ws : List ℕ) → ((w : ℕ) → is_among w ws ≡ true → IsOfLevel s p w)
    → map (stage s) (map deed_in (map (at_place p said now) ws)) ≡ map (λ w. place_stage p) ws
stages_said s p said now [] h = refl
stages_said s p said now (w ∷ ws) h =
    ap (λ n. n ∷ map (stage s) (map deed_in (map (at_place p said now) ws))) (stage_at s p.group p.level w said now (h w (or_left (w == w) (is_among w ws) (same_number w))))
    ∙ ap (λ ns. place_stage p ∷ ns) (stages_said s p said now ws (λ u e. h u (or_right (w == u) (is_among u ws) e)))

pub stages_more : (s : Plan) (log : List Entry) (p : Place) (said : Said) (now : ℕ) (ws : List ℕ) → ((w : ℕ) → is_among w ws ≡ true → IsOfLevel s p w)
    → map (stage s) (map deed_in (log ++ map (at_place p said now) ws)) ≡ map (stage s) (map deed_in log) ++ map (λ w. place_stage p) ws
stages_more s log p said now ws h =
    ap (map (stage s)) (deeds_append log (map (at_place p said now) ws)) ∙ stages_append s (map deed_in log) (map deed_in (map (at_place p said now) ws))
    ∙ ap (λ ns. map (stage s) (map deed_in log) ++ ns) (stages_said s p said now ws h)

-- ## groups stay closed

pub failed_stays : (log new : List Entry) (w : ℕ) → has_failed log w ≡ true → has_failed (log ++ new) w ≡ true
failed_stays log new w e = grind (arith, list_any-append, or_left)

-- of those that have not failed
pub fewer_unfailed : (log new : List Entry) (p : Place) (xs : List ℕ) → filter (λ x. not (has_said log p x)) (filter (λ w. not (has_failed log w)) xs) ≡ []
    → filter (λ x. not (has_said (log ++ new) p x)) (filter (λ w. not (has_failed (log ++ new) w)) xs) ≡ []
fewer_unfailed log new p [] e = refl
fewer_unfailed log new p (x ∷ xs) e =
    by_head (has_failed log x) (has_failed (log ++ new) x) (has_said log p x) (has_said (log ++ new) p x) refl refl (failed_stays log new x) (said_stays log new p x) e (fewer_unfailed log new p xs)
  where
    keep : (c : Bool) (rest : List ℕ) → c ≡ true → rest ≡ [] → (if not c then x ∷ rest else rest) ≡ []
    keep true rest e f = f
    keep false rest e f = absurd cc

    drops : (c : Bool) (rest : List ℕ) → (if not c then x ∷ rest else rest) ≡ [] → (c ≡ true) × (rest ≡ [])
    drops true rest e = (refl, e)
    drops false rest e = absurd cc

    by_head : (f g b c : Bool) → has_said log p x ≡ b → has_said (log ++ new) p x ≡ c → (f ≡ true → g ≡ true) → (b ≡ true → c ≡ true)
        → filter (λ x. not (has_said log p x)) (if not f then x ∷ filter (λ w. not (has_failed log w)) xs else filter (λ w. not (has_failed log w)) xs) ≡ []
        → (filter (λ x. not (has_said log p x)) (filter (λ w. not (has_failed log w)) xs) ≡ [] → filter (λ x. not (has_said (log ++ new) p x)) (filter (λ w. not (has_failed (log ++ new) w)) xs) ≡ [])
        → filter (λ x. not (has_said (log ++ new) p x)) (if not g then x ∷ filter (λ w. not (has_failed (log ++ new) w)) xs else filter (λ w. not (has_failed (log ++ new) w)) xs) ≡ []
    by_head true true b c s t f g e ih = ih e
    by_head true false b c s t f g e ih = absurd (true_not_false false (f refl) refl)
    by_head false true b c s t f g e ih = ih (drops (has_said log p x) _ e).1
    by_head false false b c s t f g e ih = let old = drops (has_said log p x) _ e in keep (has_said (log ++ new) p x) _ (t ∙ g (sym s ∙ old.0)) (ih old.1)

module _ (said : Said) (now : ℕ) (ws : List ℕ) (a : Agenda) where
  abbrev pub new_log : List Entry
  new_log = said_at (groups_left a) said now ws

  abbrev pub grown : Agenda
  grown = all_say said now ws a

  pub closed_group : (g : Group) (p : Place) → filter (λ who. not (has_said a.log p who)) (members_of a g p.level) ≡ []
      → filter (λ who. not (has_said (a.log ++ new_log) p who)) (members_of grown g p.level) ≡ []
  closed_group (Orders Identify) p e = fewer_wait a.log new_log p (members_of a (Orders Identify) p.level) e
  closed_group (Orders PrepareBackup) p e = fewer_wait a.log new_log p (members_of a (Orders PrepareBackup) p.level) e
  closed_group (Orders PrepareSnapshot) p e = fewer_wait a.log new_log p (members_of a (Orders PrepareSnapshot) p.level) e
  closed_group (Orders Freeze) p e = fewer_wait a.log new_log p (members_of a (Orders Freeze) p.level) e
  closed_group (Orders Thaw) p e = fewer_wait a.log new_log p (members_of a (Orders Thaw) p.level) e
  closed_group (Orders PostSnapshot) p e = fewer_unfailed a.log new_log p (writers_at a.members p.level) e
  closed_group (Orders BackupComplete) p e = fewer_wait a.log new_log p (members_of a (Orders BackupComplete) p.level) e
  closed_group PreCommit p e = fewer_wait a.log new_log p (members_of a PreCommit p.level) e
  closed_group Flush p e = fewer_wait a.log new_log p (members_of a Flush p.level) e
  closed_group Hold p e = fewer_wait a.log new_log p (members_of a Hold p.level) e
  closed_group Cut p e = fewer_wait a.log new_log p (members_of a Cut p.level) e
  closed_group Commit p e = fewer_wait a.log new_log p (members_of a Commit p.level) e
  closed_group Release p e = fewer_wait a.log new_log p (members_of a Release p.level) e
  closed_group PostCommit p e = fewer_wait a.log new_log p (members_of a PostCommit p.level) e

  pub closed_stays : (p : Place) → waited_for a p ≡ [] → waited_for grown p ≡ []
  closed_stays p e = closed_group p.group p e

-- ## the stage of the open group

-- places whose stages do not fall, from m on
abbrev pub From : ℕ → List Place → Type 0
From m [] = m ≤ 15
From m (p ∷ ps) = (m ≤ place_stage p) × From (place_stage p) ps

pub not_before : (a : Agenda) (m : ℕ) (ps : List Place) → From m ps → m ≤ open_stage (left_from a ps)
not_before a m [] h = h
not_before a m (p ∷ ps) h = at_group (waited_for a p) (left_from a ps) (not_before a (place_stage p) ps h.1) where
  at_group : (ws : List ℕ) (later : List Open) → place_stage p ≤ open_stage later → m ≤ open_stage (with_group p ws later)
  at_group [] later l = chain m (place_stage p) (open_stage later) h.0 l
  at_group (w ∷ ws) later l = h.0

pub goes_up : (a b : Agenda) (m : ℕ) (ps : List Place) → From m ps → ((p : Place) → waited_for a p ≡ [] → waited_for b p ≡ []) → open_stage (left_from a ps) ≤ open_stage (left_from b ps)
goes_up a b m [] h stays = no_less 15
goes_up a b m (p ∷ ps) h stays =
    at_group (waited_for a p) (waited_for b p) (left_from a ps) (left_from b ps) (stays p) (not_before b (place_stage p) ps h.1) (goes_up a b (place_stage p) ps h.1 stays)
  where
    at_group : (ws us : List ℕ) (later after : List Open) → (ws ≡ [] → us ≡ []) → place_stage p ≤ open_stage after → open_stage later ≤ open_stage after
        → open_stage (with_group p ws later) ≤ open_stage (with_group p us after)
    at_group [] [] later after f l ih = ih
    at_group [] (u ∷ us) later after f l ih = absurd (none u us (f refl)) where
      none : (u : ℕ) (us : List ℕ) → u ∷ us ≡ [] → ⊥
      none u us e = cc
    at_group (w ∷ ws) [] later after f l ih = l
    at_group (w ∷ ws) (u ∷ us) later after f l ih = no_less (place_stage p)

-- the groups below the open one are closed
abbrev pub Closed : Agenda → ℕ → List Place → Type 0
Closed a k [] = Unit {0}
Closed a k (p ∷ ps) = (place_stage p < k → waited_for a p ≡ []) × Closed a k ps

pub none_below : (a : Agenda) (m k : ℕ) (ps : List Place) → From m ps → k ≤ m → Closed a k ps
none_below a m k [] h l = tt
none_below a m k (p ∷ ps) h l = (λ i. absurd (over m (place_stage p) k h.0 l i), none_below a (place_stage p) k ps h.1 (chain k m (place_stage p) l h.0)) where
  over : (m g k : ℕ) → m ≤ g → k ≤ m → g < k → ⊥
  over m g k h l i = omega arith

pub closed_below : (a : Agenda) (m : ℕ) (ps : List Place) → From m ps → Closed a (open_stage (left_from a ps)) ps
closed_below a m [] h = tt
closed_below a m (p ∷ ps) h = at_group (waited_for a p) (left_from a ps) refl (closed_below a (place_stage p) ps h.1) where
  itself : (n : ℕ) → n < n → ⊥
  itself n l = omega arith

  at_group : (ws : List ℕ) (later : List Open) → waited_for a p ≡ ws → Closed a (open_stage later) ps → Closed a (open_stage (with_group p ws later)) (p ∷ ps)
  at_group [] later e c = (λ l. e, c)
  at_group (w ∷ ws) later e c = (λ l. absurd (itself (place_stage p) l), none_below a (place_stage p) (place_stage p) ps h.1 (no_less (place_stage p)))

pub snapshot_from : From 0 (places Snapshot)
snapshot_from = grind arith
