-- The one law that ties the groups left to the log: whoever says something in the open group, one member or several,
-- well or not, the groups left advance.
use Rattle.std.proofs.Common.{◌≡◌, ℕ, List, [], ◌∷◌, ◌++◌, Option, refl, Bool, true, false, map, ap, sym, ◌∙◌, filter, arith, rules}
use Rattle.std.specs.Prelude.{◌&&◌, ◌||◌, not, ◌==◌}
use Rattle.std.specs.List.{list_any}
use Rattle.std.proofs.lemmas.Bool.Decides.{nat_tests}
use Rattle.std.proofs.lemmas.List.Elements.{filter_agree}
use Rattle.std.proofs.lemmas.Grind.{common_steps}
use Rattle.std.proofs.Math.Bool.{and_comm, and_self}
use Rattle.vss_names.specs.declared.level.Level.{Level}
use Rattle.vss_names.specs.declared.order.Order.TheVariants.{Identify, PrepareBackup, PrepareSnapshot, Freeze, Thaw, PostSnapshot, BackupComplete}
use Rattle.writer_state.specs.declared.said.Said.{Said}
use Rattle.writer_state.specs.WriterState.{is_ok}
use Rattle.set_agenda.specs.declared.group.Group.{Group}
use Rattle.set_agenda.specs.declared.group.Group.TheVariants.{Orders, PreCommit, Flush, Hold, Cut, Commit, Release, PostCommit}
use Rattle.set_agenda.specs.declared.place.Place.{Place}
use Rattle.set_agenda.specs.Agenda.{Agenda, Entry, Open, all_say, at_place, groups_left, has_failed, has_said, is_among, is_asking, is_orders, left_from}
use Rattle.set_agenda.specs.Agenda.{members_of, open_place, places, same_place, waited_for, waits_now, with_group, writers_at}
use Rattle.set_agenda.specs.Advance.{advance, asks_unfailed, others_if, unasked_if}
use Rattle.set_agenda.specs.WriterSet.{is_nil}
use Rattle.set_agenda.proofs.WriterSets.{filter-and, or-false}

-- ## truth values and filters

de_morgan : (b c : Bool) → not (b || c) ≡ (not b && not c)
de_morgan b c = grind arith

others_if-filter : (h : ℕ → Bool) (b : Bool) (whos xs : List ℕ) → filter (λ x. not (h x || (b && is_among x whos))) xs ≡ others_if b whos (filter (λ x. not (h x)) xs)
others_if-filter h true whos xs = filter_agree _ (λ x. not (h x) && not (is_among x whos)) (λ x. de_morgan (h x) (is_among x whos)) xs ∙ filter-and (λ x. not (h x)) (λ x. not (is_among x whos)) xs
others_if-filter h false whos xs = filter_agree _ (λ x. not (h x)) (λ x. ap not (or-false (h x))) xs

filter-others_if : (b : Bool) (whos : List ℕ) (q : ℕ → Bool) (xs : List ℕ) → filter q (others_if b whos xs) ≡ others_if b whos (filter q xs)
filter-others_if true whos q xs = sym (filter-and (λ x. not (is_among x whos)) q xs)
    ∙ filter_agree _ (λ x. q x && not (is_among x whos)) (λ x. and_comm (not (is_among x whos)) (q x)) xs ∙ filter-and q (λ x. not (is_among x whos)) xs
filter-others_if false whos q xs = refl

others_if-twice : (b c : Bool) (whos xs : List ℕ) → others_if b whos (others_if c whos xs) ≡ others_if (b || c) whos xs
others_if-twice true true whos xs = sym (filter-and (λ x. not (is_among x whos)) (λ x. not (is_among x whos)) xs)
    ∙ filter_agree _ (λ x. not (is_among x whos)) (λ x. and_self (not (is_among x whos))) xs
others_if-twice true false whos xs = refl
others_if-twice false c whos xs = refl

pub unasked_if-nil : (b : Bool) (whos : List ℕ) → unasked_if b whos [] ≡ []
unasked_if-nil b whos = grind arith

pub unasked_if-group : (b : Bool) (whos : List ℕ) (p : Place) (xs : List ℕ) (os : List Open)
    → with_group p (others_if (asks_unfailed p.group && b) whos xs) (unasked_if b whos os) ≡ unasked_if b whos (with_group p xs os)
unasked_if-group b whos p xs os = grind arith

-- ## entries at the end of a log

pub any-append : {X : Type 0} (p : X → Bool) (xs ys : List X) → list_any p (xs ++ ys) ≡ (list_any p xs || list_any p ys)
any-append p xs ys = grind (arith, common_steps)

pub any-among : (c : Bool) (x : ℕ) (ws : List ℕ) → list_any (λ w. c && (w == x)) ws ≡ (c && is_among x ws)
any-among true x ws = refl
any-among false x [] = refl
any-among false x (w ∷ ws) = any-among false x ws

pub any-map : {X Y : Type 0} (p : Y → Bool) (g : X → Y) (xs : List X) → list_any p (map g xs) ≡ list_any (λ x. p (g x)) xs
any-map p g [] = refl
any-map p g (x ∷ xs) = ap (λ b. p (g x) || b) (any-map p g xs)

-- b is a in which these said the same at p, and have failed by it or not
record Adds (a b : Agenda) (p : Place) (whos : List ℕ) (failed : Bool) : Type 0 where
  kind : b.kind ≡ a.kind
  members : b.members ≡ a.members
  volumes : b.volumes ≡ a.volumes
  said : (q : Place) (x : ℕ) → has_said b.log q x ≡ (has_said a.log q x || (same_place p q && is_among x whos))
  failing : (x : ℕ) → has_failed b.log x ≡ (has_failed a.log x || ((is_orders p.group && failed) && is_among x whos))

says_at : Place → Said → ℕ → List ℕ → Agenda → Agenda
says_at p said now whos a = record { kind = a.kind; members = a.members; volumes = a.volumes; begun = a.begun; log = a.log ++ map (at_place p said now) whos }

adds-says_at : (p : Place) (said : Said) (now : ℕ) (whos : List ℕ) (a : Agenda) → Adds a (says_at p said now whos a) p whos (not (is_ok said))
unfolding says_at
adds-says_at p said now whos a = record {
  kind = refl;
  members = refl;
  volumes = refl;
  said = λ q x. any-append (λ (e : Entry). same_place e.place q && (e.who == x)) a.log (map (at_place p said now) whos)
      ∙ ap (λ b. has_said a.log q x || b) (any-map (λ (e : Entry). same_place e.place q && (e.who == x)) (at_place p said now) whos ∙ any-among (same_place p q) x whos);
  failing = λ x. any-append (λ (e : Entry). is_orders e.place.group && not (is_ok e.said) && (e.who == x)) a.log (map (at_place p said now) whos)
      ∙ ap (λ b. has_failed a.log x || b)
      (any-map (λ (e : Entry). is_orders e.place.group && not (is_ok e.said) && (e.who == x)) (at_place p said now) whos
      ∙ any-among (is_orders p.group && not (is_ok said)) x whos);
}

-- ## who is waited for

members-add : (a b : Agenda) (p : Place) (whos : List ℕ) (f : Bool) → Adds a b p whos f → (g : Group) (l : Option Level)
    → members_of b g l ≡ others_if (asks_unfailed g && (is_orders p.group && f)) whos (members_of a g l)
members-add a b p whos f h (Orders PostSnapshot) l =
    grind (arith, common_steps, others_if-filter (has_failed a.log) (is_orders p.group && f) whos (writers_at a.members l))
members-add a b p whos f h (Orders Identify) l = ap (λ ms. writers_at ms l) h.members
members-add a b p whos f h (Orders PrepareBackup) l = ap (λ ms. writers_at ms l) h.members
members-add a b p whos f h (Orders PrepareSnapshot) l = ap (λ ms. writers_at ms l) h.members
members-add a b p whos f h (Orders Freeze) l = ap (λ ms. writers_at ms l) h.members
members-add a b p whos f h (Orders Thaw) l = ap (λ ms. writers_at ms l) h.members
members-add a b p whos f h (Orders BackupComplete) l = ap (λ ms. writers_at ms l) h.members
members-add a b p whos f h PreCommit l = refl
members-add a b p whos f h Flush l = h.volumes
members-add a b p whos f h Hold l = h.volumes
members-add a b p whos f h Cut l = refl
members-add a b p whos f h Commit l = h.volumes
members-add a b p whos f h Release l = h.volumes
members-add a b p whos f h PostCommit l = refl

abbrev takes : Place → Bool → Place → Bool
takes p f q = same_place p q || (asks_unfailed q.group && (is_orders p.group && f))

waited-add : (a b : Agenda) (p : Place) (whos : List ℕ) (f : Bool) → Adds a b p whos f → (q : Place) → waited_for b q ≡ others_if (takes p f q) whos (waited_for a q)
waited-add a b p whos f h q =
    filter_agree _ (λ x. not (has_said a.log q x || (same_place p q && is_among x whos))) (λ x. ap not (h.said q x)) (members_of b q.group q.level)
    ∙ others_if-filter (has_said a.log q) (same_place p q) whos (members_of b q.group q.level)
    ∙ ap (λ xs. others_if (same_place p q) whos (filter (λ x. not (has_said a.log q x)) xs)) (members-add a b p whos f h q.group q.level)
    ∙ ap (others_if (same_place p q) whos) (filter-others_if (asks_unfailed q.group && (is_orders p.group && f)) whos (λ x. not (has_said a.log q x)) (members_of a q.group q.level))
    ∙ others_if-twice (same_place p q) (asks_unfailed q.group && (is_orders p.group && f)) whos (waited_for a q)

-- ## the places of an agenda are apart

abbrev IsApartFrom : Place → List Place → Type 0
IsApartFrom p [] = Unit {0}
IsApartFrom p (q ∷ qs) = (same_place p q ≡ false) × IsApartFrom p qs

abbrev AreApart : List Place → Type 0
AreApart [] = Unit {0}
AreApart (p ∷ ps) = IsApartFrom p ps × AreApart ps

-- ## the groups left

-- the place is that of the open group, if there is one
abbrev IsOpen : Place → List Open → Type 0
IsOpen p [] = Unit {0}
IsOpen p (o ∷ os) = p ≡ o.place

later-add : (a b : Agenda) (p : Place) (whos : List ℕ) (f : Bool) → Adds a b p whos f → (ps : List Place) → IsApartFrom p ps
    → left_from b ps ≡ unasked_if (is_orders p.group && f) whos (left_from a ps)
later-add a b p whos f h [] d = sym (unasked_if-nil (is_orders p.group && f) whos)
later-add a b p whos f h (q ∷ qs) d =
    grind (arith, common_steps, nat_tests, waited-add, unasked_if-group, later-add a b p whos f h qs d.1, waited-add a b p whos f h q)

step-add : (a b : Agenda) (p : Place) (whos : List ℕ) (f : Bool) → Adds a b p whos f → (q : Place) (qs : List Place) → IsApartFrom q qs → (xs : List ℕ)
    → (IsOpen p (left_from a qs) → left_from b qs ≡ advance whos f (left_from a qs))
    → IsOpen p (with_group q xs (left_from a qs))
    → with_group q (others_if (takes p f q) whos xs) (left_from b qs) ≡ advance whos f (with_group q xs (left_from a qs))
step-add a b p whos f h q qs d xs later first = grind (arith, nat_tests, later-add)

left_from-add : (a b : Agenda) (p : Place) (whos : List ℕ) (f : Bool) → Adds a b p whos f → (qs : List Place) → AreApart qs → IsOpen p (left_from a qs)
    → left_from b qs ≡ advance whos f (left_from a qs)
left_from-add a b p whos f h [] d first = refl
left_from-add a b p whos f h (q ∷ qs) d first =
    ap (λ ws. with_group q ws (left_from b qs)) (waited-add a b p whos f h q)
    ∙ step-add a b p whos f h q qs d.0 (waited_for a q) (λ z. left_from-add a b p whos f h qs d.1 z) first

left-add : (a b : Agenda) (p : Place) (whos : List ℕ) (f : Bool) → Adds a b p whos f → IsOpen p (groups_left a) → groups_left b ≡ advance whos f (groups_left a)
left-add a b p whos f h first = ap (λ k. left_from b (places k)) h.kind ∙ left_from-add a b p whos f h (places a.kind) (grind arith) first

-- what any members say in the open group, all of them the same
pub groups_left-all_say : (said : Said) (now : ℕ) (whos : List ℕ) (a : Agenda) → groups_left (all_say said now whos a) ≡ advance whos (not (is_ok said)) (groups_left a)
unfolding says_at
groups_left-all_say said now whos a =
    left-add a (says_at (open_place (groups_left a)) said now whos a) (open_place (groups_left a)) whos (not (is_ok said))
    (adds-says_at (open_place (groups_left a)) said now whos a) (grind arith)

-- ## a group that is left waits for somebody

waits-from : (p : Place) (ws : List ℕ) (rest os : List Open) (o : Open) → (rest ≡ o ∷ os → is_nil o.waits ≡ false) → with_group p ws rest ≡ o ∷ os → is_nil o.waits ≡ false
waits-from p ws rest os o h e = grind arith

pub left_from-waits : (a : Agenda) (ps : List Place) (o : Open) (os : List Open) → left_from a ps ≡ o ∷ os → is_nil o.waits ≡ false
left_from-waits a [] o os e = cc
left_from-waits a (p ∷ ps) o os e = waits-from p (waited_for a p) (left_from a ps) os o (λ f. left_from-waits a ps o os f) e

-- an open group of writers waits for somebody
pub groups_left-waits : (a : Agenda) → is_asking (groups_left a) ≡ true → is_nil (waits_now (groups_left a)) ≡ false
groups_left-waits a h = search (rules, left_from-waits)
