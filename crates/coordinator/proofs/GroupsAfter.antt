-- The groups left after an act: where the open group is the one that was open before, it waits for nobody that it did
-- not wait for.
use Rattle.std.proofs.Common.{◌≡◌, ℕ, List, [], ◌∷◌, Option, Some, None, refl, Bool, true, false, cond, ap, sym, ◌∙◌, arith}
use Rattle.std.specs.Prelude.{◌&&◌, ◌||◌, not, ◌==◌, option_map}
use Rattle.std.proofs.lemmas.Bool.{and_parts}
use Rattle.vss_names.specs.declared.order.Order.{Order}
use Rattle.vss_names.specs.declared.vss_result.VssResult.{VssResult}
use Rattle.vss_names.specs.declared.vss_result.VssResult.TheVariants.{HoldWritesTimeout, Writer as WriterFault}
use Rattle.vss_names.specs.declared.writer_error.WriterError.TheVariants.{Timeout}
use Rattle.writer_state.specs.declared.said.Said.{Said}
use Rattle.writer_state.specs.declared.said.Said.TheVariants.{Ok}
use Rattle.writer_state.specs.WriterState.{is_ok}
use Rattle.set_agenda.specs.declared.kind.Kind.{Kind}
use Rattle.set_agenda.specs.declared.limit.Limit.{Limit}
use Rattle.set_agenda.specs.declared.limit.Limit.TheVariants.{Hold as HoldLimit, Freeze as FreezeLimit, Answer as AnswerLimit}
use Rattle.set_agenda.specs.declared.place.Place.{Place}
use Rattle.set_agenda.specs.Agenda.{Agenda, Open, all_say, is_among, is_asked, is_orders, left, left_from, next_member, open_place, order_if, order_now, order_of, places, same_place, waited_for, with_group}
use Rattle.set_agenda.specs.Advance.{advance, asks_unfailed, others, others_if, unasked, unasked_if}
use Rattle.set_agenda.specs.Course.{Course, answered_to, decided, failed, fails_set, is_decisive, lost, lost_decided, lost_to, settled, settled_in, stepped_as, told, worked}
use Rattle.set_agenda.proofs.GroupsLeft.{groups_left-all_say}
use Rattle.coordinator.specs.KeptCourse.{treated_by}
use Rattle.coordinator.specs.OpenOrders.{stays}
use Rattle.coordinator.proofs.OpenOrders.{GoesOn}

-- ## places are apart

abbrev IsApartFrom : Place → List Place → Type 0
IsApartFrom p [] = Unit {0}
IsApartFrom p (q ∷ qs) = (same_place p q ≡ false) × IsApartFrom p qs

abbrev AreApart : List Place → Type 0
AreApart [] = Unit {0}
AreApart (p ∷ ps) = IsApartFrom p ps × AreApart ps

places-apart : (k : Kind) → AreApart (places k)
places-apart k = grind arith

-- none of these groups is at the place
abbrev IsOutside : Place → List Open → Type 0
IsOutside p [] = Unit {0}
IsOutside p (o ∷ os) = (same_place p o.place ≡ false) × IsOutside p os

-- the first group is at another place than the others
abbrev HeadIsApart : List Open → Type 0
HeadIsApart [] = Unit {0}
HeadIsApart (o ∷ os) = IsOutside o.place os

outside-group : (p q : Place) (ws : List ℕ) (os : List Open) → same_place p q ≡ false → IsOutside p os → IsOutside p (with_group q ws os)
outside-group p q ws os e h = grind arith

outside-left : (a : Agenda) (p : Place) (qs : List Place) → IsApartFrom p qs → IsOutside p (left_from a qs)
outside-left a p [] d = tt
outside-left a p (q ∷ qs) d = outside-group p q (waited_for a q) (left_from a qs) d.0 (outside-left a p qs d.1)

head-group : (p : Place) (ws : List ℕ) (os : List Open) → IsOutside p os → HeadIsApart os → HeadIsApart (with_group p ws os)
head-group p ws os h g = grind arith

left-apart : (a : Agenda) (qs : List Place) → AreApart qs → HeadIsApart (left_from a qs)
left-apart a [] d = tt
left-apart a (q ∷ qs) d = head-group q (waited_for a q) (left_from a qs) (outside-left a q qs d.0) (left-apart a qs d.1)

course-apart : (ag : Option Agenda) → HeadIsApart (left ag)
course-apart ag = grind (arith, left-apart, places-apart)

outside-unasked : (p : Place) (ws : List ℕ) (os : List Open) → IsOutside p os → IsOutside p (unasked ws os)
outside-unasked p ws [] h = tt
outside-unasked p ws (o ∷ os) h = outside-group p o.place (others_if (asks_unfailed o.place.group) ws o.waits) (unasked ws os) h.0 (outside-unasked p ws os h.1)

outside-unasked_if : (b : Bool) (p : Place) (ws : List ℕ) (os : List Open) → IsOutside p os → IsOutside p (unasked_if b ws os)
outside-unasked_if b p ws os h = grind (arith, outside-unasked)

-- ## who is asked once more

among-step : (w x : ℕ) (xs ys : List ℕ) (b : Bool) → (is_among w ys ≡ true → is_among w xs ≡ true) → is_among w (cond (not b) (x ∷ ys) ys) ≡ true → ((x == w) || is_among w xs) ≡ true
among-step w x xs ys b f e = grind arith

among-others : (w : ℕ) (ws xs : List ℕ) → is_among w (others ws xs) ≡ true → is_among w xs ≡ true
among-others w ws [] h = h
among-others w ws (x ∷ xs) h = among-step w x xs (others ws xs) (is_among x ws) (among-others w ws xs) h

gone-step : (w x : ℕ) (ys : List ℕ) (b : Bool) → (w == x) ≡ b → is_among w ys ≡ false → is_among w (cond (not (b || false)) (x ∷ ys) ys) ≡ false
gone-step w x ys b e f = grind arith

-- a writer that has answered is not waited for
gone-others : (w : ℕ) (xs : List ℕ) → is_among w (others (w ∷ []) xs) ≡ false
gone-others w [] = refl
gone-others w (x ∷ xs) = gone-step w x (others (w ∷ []) xs) (w == x) refl (gone-others w xs)

not-here : (p : Place) (os : List Open) (w : ℕ) → IsOutside p os → (same_place p (open_place os) && is_asked w os) ≡ true → false ≡ true
not-here p os w h e = grind arith

goes-at : (o : Open) (os : List Open) (ws xs : List ℕ) (f : Bool) → others ws o.waits ≡ xs → IsOutside o.place os → GoesOn (o ∷ os) (with_group o.place xs (unasked_if f ws os))
goes-at o os ws [] f e h = λ w s. let b : false ≡ true = not-here o.place (unasked_if f ws os) w (outside-unasked_if f o.place ws os h) s in cc
goes-at o os ws (x ∷ xs) f e h = λ w s.
    let a : (is_orders o.place.group ≡ true) × (is_among w (x ∷ xs) ≡ true) = and_parts (is_orders o.place.group) (is_among w (x ∷ xs)) (and_parts (same_place o.place o.place) (is_orders o.place.group && is_among w (x ∷ xs)) s).1 in
    let was : is_among w o.waits ≡ true = among-others w ws o.waits (ap (is_among w) e ∙ a.1) in
    ap (λ b. order_if (is_orders o.place.group && b) (order_of o.place.group)) (was ∙ sym a.1)

goes-advance : (ws : List ℕ) (f : Bool) (os : List Open) → HeadIsApart os → GoesOn os (advance ws f os)
goes-advance ws f os h = grind (arith, goes-at)

leaves-at : (o : Open) (os : List Open) (w : ℕ) (xs : List ℕ) (f : Bool) → others (w ∷ []) o.waits ≡ xs → IsOutside o.place os → stays (o ∷ os) (with_group o.place xs (unasked_if f (w ∷ []) os)) w ≡ true → false ≡ true
leaves-at o os w [] f e h s = not-here o.place (unasked_if f (w ∷ []) os) w (outside-unasked_if f o.place (w ∷ []) os h) s
leaves-at o os w (x ∷ xs) f e h s =
    sym (gone-others w o.waits) ∙ ap (is_among w) e
    ∙ (and_parts (is_orders o.place.group) (is_among w (x ∷ xs)) (and_parts (same_place o.place o.place) (is_orders o.place.group && is_among w (x ∷ xs)) s).1).1

leaves-advance : (w : ℕ) (f : Bool) (os : List Open) → HeadIsApart os → stays os (advance (w ∷ []) f os) w ≡ true → false ≡ true
leaves-advance w f os h s = grind (arith, and_parts, leaves-at)

-- nothing is left
goes-none : (os : List Open) → GoesOn os []
goes-none os = λ w s. let b : false ≡ true = (and_parts (same_place (open_place os) (open_place [])) false s).1 in cc

leaves-none : (os : List Open) (w : ℕ) → stays os [] w ≡ true → false ≡ true
leaves-none os w s = (and_parts (same_place (open_place os) (open_place [])) false s).1

-- ## the groups left after each part of an act

says-at : (ag : Option Agenda) (said : Said) (now : ℕ) (ws : List ℕ) → left (option_map (all_say said now ws) ag) ≡ advance ws (not (is_ok said)) (left ag)
says-at None said now ws = refl
says-at (Some a) said now ws = groups_left-all_say said now ws a

left-told : (o : Order) (said : Said) (now : ℕ) (ws : List ℕ) (c : Course) → left (told o said now ws c).agenda ≡ advance ws (not (is_ok said)) (left c.agenda)
unfolding told
left-told o said now ws c = says-at c.agenda said now ws

left-worked : (now : ℕ) (c : Course) → left (worked now c).agenda ≡ advance (next_member (left c.agenda) ∷ []) false (left c.agenda)
unfolding worked
left-worked now c = says-at c.agenda Ok now (next_member (left c.agenda) ∷ [])

settled-of : (ag : Option Agenda) (c : Course) → c.agenda ≡ ag → left (settled_in ag c).agenda ≡ left c.agenda
settled-of ag c e = grind arith

pub left-settled : (c : Course) → left (settled c).agenda ≡ left c.agenda
unfolding settled
left-settled c = settled-of c.agenda c refl

-- ## the acts

goes-told : (o : Order) (said : Said) (now : ℕ) (ws : List ℕ) (c : Course) → GoesOn (left c.agenda) (left (settled (told o said now ws c)).agenda)
goes-told o said now ws c = grind (arith, left-settled, left-told, goes-advance, course-apart)

goes-failed : (os : List Open) (why : VssResult) (c : Course) → GoesOn os (left (failed why c).agenda)
unfolding failed
goes-failed os why c = goes-none os

goes-decided : (os : List Open) (b : Bool) (said : Said) (c : Course) → GoesOn os (left (settled c).agenda) → GoesOn os (left (decided b said c).agenda)
goes-decided os b said c g = grind (arith, goes-failed)

pub goes-answered : (o : Order) (w : ℕ) (said : Said) (now : ℕ) (c : Course) → GoesOn (left c.agenda) (left (answered_to (Some o) w said now c).agenda)
goes-answered o w said now c = grind (arith, goes-decided, goes-told)

pub goes-stepped : (ok : Bool) (now : ℕ) (c : Course) → GoesOn (left c.agenda) (left (stepped_as ok now c).agenda)
goes-stepped ok now c = grind (arith, left-settled, left-worked, goes-advance, course-apart, goes-failed)

goes-lost : (o : Option Order) (now : ℕ) (c : Course) → GoesOn (left c.agenda) (left (settled (lost_to o now c)).agenda)
goes-lost o now c = grind (arith, left-settled, goes-told)

goes-lost_decided : (os : List Open) (b : Bool) (c : Course) → GoesOn os (left (settled c).agenda) → GoesOn os (left (lost_decided b c).agenda)
goes-lost_decided os b c g = grind (arith, goes-failed)

pub goes-treated : (l : Option Limit) (now : ℕ) (c : Course) → GoesOn (left c.agenda) (left (treated_by l now c).agenda)
goes-treated None now c = λ w s. refl
goes-treated (Some HoldLimit) now c = goes-failed (left c.agenda) HoldWritesTimeout c
goes-treated (Some FreezeLimit) now c = goes-failed (left c.agenda) (WriterFault Timeout) (lost now c)
goes-treated (Some AnswerLimit) now c = goes-lost_decided (left c.agenda) (fails_set (order_now (left c.agenda))) (lost now c) (goes-lost (order_now (left c.agenda)) now c)

-- where no agenda ran before, none is asked once more
pub goes-begun : (ps : List Open) → GoesOn [] ps
goes-begun ps = grind arith

-- ## the writer that answers

leaves-failed : (os : List Open) (why : VssResult) (c : Course) (w : ℕ) → stays os (left (failed why c).agenda) w ≡ true → false ≡ true
unfolding failed
leaves-failed os why c w s = leaves-none os w s

leaves-decided : (os : List Open) (b : Bool) (said : Said) (c : Course) (w : ℕ) → (stays os (left (settled c).agenda) w ≡ true → false ≡ true) → stays os (left (decided b said c).agenda) w ≡ true → false ≡ true
leaves-decided os b said c w g s = grind (arith, leaves-failed)

-- a writer that has answered is asked no more in the group that is open
pub leaves-answered : (o : Order) (w : ℕ) (said : Said) (now : ℕ) (c : Course) → stays (left c.agenda) (left (answered_to (Some o) w said now c).agenda) w ≡ true → false ≡ true
leaves-answered o w said now c s = grind (arith, leaves-decided, leaves-advance, course-apart, left-settled, left-told)

-- ## what has opened so far stays

pub opened-failed : (why : VssResult) (c : Course) → (failed why c).opened ≡ c.opened
unfolding failed
opened-failed why c = refl

opened-settled_in : (ag : Option Agenda) (c : Course) → (settled_in ag c).opened ≡ c.opened
opened-settled_in ag c = grind arith

pub opened-settled : (c : Course) → (settled c).opened ≡ c.opened
unfolding settled
opened-settled c = opened-settled_in c.agenda c

opened-told : (o : Order) (said : Said) (now : ℕ) (ws : List ℕ) (c : Course) → (told o said now ws c).opened ≡ c.opened
unfolding told
opened-told o said now ws c = refl

opened-worked : (now : ℕ) (c : Course) → (worked now c).opened ≡ c.opened
unfolding worked
opened-worked now c = refl

opened-decided : (b : Bool) (said : Said) (c : Course) → (decided b said c).opened ≡ c.opened
opened-decided b said c = grind (arith, opened-failed, opened-settled)

pub opened-answered : (o : Order) (w : ℕ) (said : Said) (now : ℕ) (c : Course) → (answered_to (Some o) w said now c).opened ≡ c.opened
opened-answered o w said now c = opened-decided (is_decisive o && not (is_ok said)) said (told o said now (w ∷ []) c) ∙ opened-told o said now (w ∷ []) c

pub opened-stepped : (ok : Bool) (now : ℕ) (c : Course) → (stepped_as ok now c).opened ≡ c.opened
opened-stepped ok now c = grind (arith, opened-settled, opened-worked, opened-failed)

opened-lost_to : (o : Option Order) (now : ℕ) (c : Course) → (lost_to o now c).opened ≡ c.opened
opened-lost_to o now c = grind (arith, opened-told)

opened-lost_decided : (b : Bool) (c : Course) → (lost_decided b c).opened ≡ c.opened
opened-lost_decided b c = grind (arith, opened-failed, opened-settled)

pub opened-treated : (l : Option Limit) (now : ℕ) (c : Course) → (treated_by l now c).opened ≡ c.opened
opened-treated l now c = grind (arith, opened-failed, opened-lost_to, opened-lost_decided)
