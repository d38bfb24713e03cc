-- No step is made twice, nobody is heard twice to an order, and the steps of a group come in turn.
use Rattle.std.proofs.Common.{◌≡◌, ◌∙◌, ℕ, ◌==◌, ◌<◌, List, [], ◌∷◌, ◌++◌, Option, Some, None, refl, Bool, true, false, sym, subst, map, filter, arith, ◌+◌, ap}
use Rattle.std.specs.Prelude.{not, is_some, if◌then◌else◌}
use Rattle.vss_model.proofs.Rules.{Running}
use Rattle.promises.proofs.Along.{IsKeptAlong, Tells, along}
use Rattle.promises.proofs.Orders.{order_place, said_deed}
use Rattle.promises.proofs.Levels.{Ascends}
use Rattle.promises.proofs.Speaks.{deed_at, deed_in}
use Rattle.promises.proofs.Stages.{level_or, leveled}
use Rattle.promises.proofs.Members.{same_number}
use Rattle.promises.proofs.Words.{list_any, list_any-append, or_parts, Level, Order, Said, Orders, Snapshot, Member, Place, true_not_false, among_filter, Deed}
use Rattle.promises.proofs.Words.{is_heard, is_again, AreOnce, heard, Spoke, or_from, false_from_ne_true, or_left, or_right, Agenda, Open, places, has_said}
use Rattle.promises.proofs.Words.{writers_at, members_of, waited_for, with_group, left_from, open_place, is_among, waits_now, Group, Mark, Plan, Stepped}
use Rattle.promises.proofs.Words.{SetRow, left_now, Act, event_reply, step_reply, state, Tied, tied, some_same, way, made, is_made, is_over_volumes, volume_if}
use Rattle.promises.proofs.Words.{left, open_group, next_volume, Event, StepsInTurn, is_before, number_is}

-- ## No step is made twice, and nobody is heard twice to an order.

-- ## no step twice

pub once_one : (ds : List Deed) (d : Deed) → AreOnce ds → list_any (λ x. is_again d x) ds ≡ false → AreOnce (ds ++ d ∷ [])
once_one [] d h e = (refl, tt)
once_one (x ∷ ds) d h e = grind (arith, or_parts, list_any-append, once_one ds d h.1 (grind arith))

-- each number once
abbrev pub Apart : List ℕ → Type 0
Apart [] = Unit {0}
Apart (x ∷ xs) = (is_among x xs ≡ false) × Apart xs

-- what writers say that were not heard before
pub unheard : (o : Order) (said : Said) (now : ℕ) (us : List ℕ) (d : Deed) → ((u : ℕ) → is_among u us ≡ true → is_heard o u d ≡ false)
    → list_any (λ y. is_again y d) (map (λ u. Spoke o u said now) us) ≡ false
unheard o said now [] d h = refl
unheard o said now (u ∷ us) d h = grind (arith, or_from, or_left, same_number, or_right, unheard o said now us d (λ x e. h x (or_right (u == x) (is_among x us) e)))

pub once_spoken : (ds : List Deed) (o : Order) (said : Said) (now : ℕ) (ws : List ℕ) → AreOnce ds → Apart ws
    → ((u : ℕ) → is_among u ws ≡ true → heard o u ds ≡ false) → AreOnce (ds ++ map (λ u. Spoke o u said now) ws)
once_spoken [] o said now [] h p f = tt
once_spoken [] o said now (w ∷ ws) h p f = grind (arith, unheard, once_spoken [] o said now ws h p.1 (λ u e. refl))
once_spoken (x ∷ ds) o said now ws h p f = grind (arith, list_any-append, or_from, unheard, or_parts, once_spoken ds o said now ws h.1 p (λ u e. (or_parts (is_heard o u x) (heard o u ds) (f u e)).1))

-- who is waited for is waited for once
pub among_none : (test : ℕ → Bool) (x : ℕ) (xs : List ℕ) → is_among x xs ≡ false → is_among x (filter test xs) ≡ false
among_none test x xs e = false_from_ne_true (is_among x (filter test xs)) (λ f. true_not_false (is_among x xs) (among_filter test x xs f) e)

pub apart_filter : (test : ℕ → Bool) (xs : List ℕ) → Apart xs → Apart (filter test xs)
apart_filter test [] h = tt
apart_filter test (x ∷ xs) h = grind (arith, among_none, apart_filter test xs h.1)

pub not_below : (w x : ℕ) (ms : List Member) (l : Option Level) → Ascends w ms → x < w → is_among x (writers_at ms l) ≡ false
not_below w x [] l h i = refl
not_below w x (m ∷ ms) l h i = grind (arith, or_from, not_below (m.writer + 1) x ms l h.1 (grind arith))

pub apart_writers : (w : ℕ) (ms : List Member) (l : Option Level) → Ascends w ms → Apart (writers_at ms l)
apart_writers w [] l h = tt
apart_writers w (m ∷ ms) l h = grind (arith, not_below, apart_writers (m.writer + 1) ms l h.1)

pub waits_apart : (a : Agenda) (ps : List Place) (o : Order) → Ascends 0 a.members → (open_place (left_from a ps)).group ≡ Orders o → Apart (waits_now (left_from a ps))
waits_apart a [] o h e = tt
waits_apart a (p ∷ ps) o h e =
    at_group (waited_for a p) (left_from a ps)
    (λ g. apart_filter (λ x. not (has_said a.log p x)) (members_of a p.group p.level) (subst (λ x. Apart (members_of a x p.level)) (sym g) (grind (arith, apart_filter, apart_writers)))) (waits_apart a ps o h) e
  where
    at_group : (ws : List ℕ) (later : List Open) → (p.group ≡ Orders o → Apart ws) → ((open_place later).group ≡ Orders o → Apart (waits_now later))
        → (open_place (with_group p ws later)).group ≡ Orders o → Apart (waits_now (with_group p ws later))
    at_group ws later own ih e = grind arith

-- the open place is the writer's
abbrev pub NoneGiven : List Place → Type 0
NoneGiven [] = Unit {0}
NoneGiven (p ∷ ps) = (leveled p.group ≡ false → p.level ≡ None) × NoneGiven ps

pub none_given : NoneGiven (places Snapshot)
none_given = grind arith

pub open_unleveled : (a : Agenda) (ps : List Place) → NoneGiven ps → leveled (open_place (left_from a ps)).group ≡ false → (open_place (left_from a ps)).level ≡ None
open_unleveled a [] h e = refl
open_unleveled a (p ∷ ps) h e = grind (arith, open_unleveled a ps h.1)

pub level_some : (l : Option Level) (x : Level) → is_some l ≡ true → x ≡ level_or l → l ≡ Some x
level_some l x e f = grind arith

pub is_order_place : (o : Order) (x : Level) (q : Place) → q.group ≡ Orders o → (leveled q.group ≡ true → q.level ≡ Some x) → (leveled q.group ≡ false → q.level ≡ None) → q ≡ order_place o x
is_order_place o x q e f g = grind arith

-- ## Who makes the next step of a group is the first of its volumes that has not made it.

-- ## the first that is waited for

before_first : (said : ℕ → Bool) (xs rest : List ℕ) (u v : ℕ) → filter (λ x. not (said x)) xs ≡ v ∷ rest → is_before u v xs ≡ true → said u ≡ true
before_first said [] rest u v e b = absurd cc
before_first said (x ∷ xs) rest u v e b = grind (arith, same_number, number_is, before_first said xs rest u v)

-- ## the groups that are left

over_all : (a : Agenda) (g : Group) (l : Option Level) → is_over_volumes g ≡ true → members_of a g l ≡ a.volumes
over_all a g l o = grind arith

over_volumes : (b : Bool) (x v : ℕ) → volume_if b x ≡ Some v → (b ≡ true) × (x ≡ v)
over_volumes b x v e = grind (arith, some_same)

module _ (a : Agenda) (g : Group) (u v : ℕ) (b : is_before u v a.volumes ≡ true) where
  made_before : (ps : List Place) → open_group (left_from a ps) ≡ Some g → next_volume (left_from a ps) ≡ Some v → made g (Some u) (map deed_in a.log) ≡ true
  made_before [] e f = absurd cc
  made_before (p ∷ ps) e f = by_waits (waited_for a p) refl e f (made_before ps) where
    by_waits : (ws : List ℕ) → waited_for a p ≡ ws → open_group (with_group p ws (left_from a ps)) ≡ Some g → next_volume (with_group p ws (left_from a ps)) ≡ Some v
        → (open_group (left_from a ps) ≡ Some g → next_volume (left_from a ps) ≡ Some v → made g (Some u) (map deed_in a.log) ≡ true) → made g (Some u) (map deed_in a.log) ≡ true
    by_waits [] w e f ih = ih e f
    by_waits (x ∷ ws) w e f ih =
        let group : p.group ≡ g = some_same p.group g e in
        let over = over_volumes (is_over_volumes g) x v (ap (λ h. volume_if (is_over_volumes h) x) (sym group) ∙ f) in
        let all : members_of a p.group p.level ≡ a.volumes = ap (λ h. members_of a h p.level) group ∙ over_all a g p.level over.0 in
        let waits : filter (λ who. not (has_said a.log p who)) a.volumes ≡ v ∷ ws =
        ap (λ xs. filter (λ who. not (has_said a.log p who)) xs) (sym all) ∙ w ∙ ap (λ y. y ∷ ws) over.1 in
        said_deed a.log p u (is_made g (Some u))
        (λ said now y h. subst (λ k. is_made g (Some u) (deed_at k y said now) ≡ true) (sym group) (grind (arith, over.0)))
        (before_first (has_said a.log p) a.volumes ws u v waits b)

-- ## the step

of_any : IsKeptAlong (λ (a : Agenda). Unit {0})
of_any = record { begins = λ ms vs now. tt; says = λ said now ws a k who mild g. tt }

step_parts : (o : Option Group) (w : Option ℕ) (mark : Mark) (g : Group) (v : ℕ) (fault : Bool) → step_reply o w mark ≡ Stepped g (Some v) fault → (o ≡ Some g) × (w ≡ Some v)
step_parts o w mark g v fault e = grind arith

in_turn_at : (x : Option Agenda) (ds : List Deed) (ms : List Member) (r : SetRow) (g : Group) (u v : ℕ) → Running (Tells (λ (a : Agenda). Unit {0}) of_any ds) x → Tied x ms (Some r)
    → open_group (left x) ≡ Some g → next_volume (left x) ≡ Some v → is_before u v r.volumes ≡ true → made g (Some u) ds ≡ true
in_turn_at x ds ms r g u v told set e f b = grind (arith, true_not_false, over_volumes, made_before)

pub steps_in_turn : (s : Plan) (so_far : List Act) (act : Act) → StepsInTurn s so_far act
steps_in_turn s so_far act g u v fault r e told row b =
    let st = state s so_far in
    let parts = step_parts (open_group (left_now st)) (next_volume (left_now st)) act.mark g v fault (sym (ap (λ (x : Event). (event_reply s st x act.mark)) e) ∙ told) in
    in_turn_at st.course.agenda (way s so_far) st.course.members r g u v (along (λ (a : Agenda). Unit {0}) of_any s so_far)
    (subst (λ x. Tied st.course.agenda st.course.members x) row (tied s so_far)) parts.0 parts.1 b
