-- Which volumes are held, of the groups left, of the log, and of the cursor.
use Rattle.std.proofs.Common.{◌≡◌, ℕ, zero, suc, List, [], ◌∷◌, Some, refl, Bool, true, false, ap, sym, ◌∙◌, arith, drop, filter, map, rules}
use Rattle.std.specs.Prelude.{◌&&◌, ◌||◌, not, ◌==◌}
use Rattle.std.specs.List.{list_any}
use Rattle.std.proofs.lemmas.Bool.{and_parts, eqb-true}
use Rattle.std.proofs.lemmas.Grind.{common_steps}
use Rattle.writer_state.specs.declared.said.Said.{Said}
use Rattle.set_agenda.specs.declared.group.Group.TheVariants.{Hold, Release}
use Rattle.set_agenda.specs.declared.kind.Kind.{Kind}
use Rattle.set_agenda.specs.declared.kind.Kind.TheVariants.{Gather, Prepare, Snapshot, Complete}
use Rattle.set_agenda.specs.declared.place.Place.{Place}
use Rattle.set_agenda.specs.declared.rows.Rows.{Rows}
use Rattle.set_agenda.specs.declared.cursor.Cursor.{Cursor}
use Rattle.set_agenda.specs.Agenda.{Agenda, Entry, HoldsOwn, Open, all_say, at_place, groups_left, has_said, is_among, is_asked}
use Rattle.set_agenda.specs.Agenda.{is_held, is_held_now, is_waited_at, is_working}
use Rattle.set_agenda.specs.Agenda.{left_from, next_member, open_place, places, plain, same_place, waited_for, waits_now, with_group}
use Rattle.set_agenda.proofs.GroupsLeft.{any-among, any-append, any-map, left_from-waits}
use Rattle.set_agenda.specs.Cursor.{first_place, fresh, here, is_held_in, left_fresh, left_here, left_of}

-- ## who is waited for at a place

waited-group : (p q : Place) (v : ℕ) (ws : List ℕ) (os : List Open) → is_waited_at p v (with_group q ws os) ≡ ((same_place q p && is_among v ws) || is_waited_at p v os)
waited-group p q v ws os = grind (arith)

waited-from : (p : Place) (v : ℕ) (a : Agenda) (qs : List Place) → is_waited_at p v (left_from a qs) ≡ list_any (λ q. same_place q p && is_among v (waited_for a q)) qs
waited-from p v a [] = refl
waited-from p v a (q ∷ qs) = waited-group p q v (waited_for a q) (left_from a qs) ∙ ap (λ (b : Bool). (same_place q p && is_among v (waited_for a q)) || b) (waited-from p v a qs)

waited-fresh : (p : Place) (v : ℕ) (r : Rows) (vs : List ℕ) (qs : List Place) → is_waited_at p v (left_fresh r vs qs) ≡ list_any (λ q. same_place q p && is_among v (fresh r vs q)) qs
waited-fresh p v r vs [] = refl
waited-fresh p v r vs (q ∷ qs) = waited-group p q v (fresh r vs q) (left_fresh r vs qs) ∙ ap (λ (b : Bool). (same_place q p && is_among v (fresh r vs q)) || b) (waited-fresh p v r vs qs)

abbrev any_here : Place → ℕ → Rows → List ℕ → Cursor → List Place → Bool
any_here p v r vs c [] = false
any_here p v r vs c (q ∷ qs) = (same_place q p && is_among v (here vs c q)) || list_any (λ x. same_place x p && is_among v (fresh r vs x)) qs

waited-here : (p : Place) (v : ℕ) (r : Rows) (vs : List ℕ) (c : Cursor) (qs : List Place) → is_waited_at p v (left_here r vs c qs) ≡ any_here p v r vs c qs
waited-here p v r vs c qs = grind (arith, waited-group, waited-fresh)

-- ## by the cursor

drop_none : (n : ℕ) → drop {A = Place} n [] ≡ []
drop_none n = grind arith

-- by the groups left from a place on, of which the first is open
abbrev held_from : Rows → List ℕ → Cursor → ℕ → List Place → Bool
held_from r vs c v qs = any_here (plain Release) v r vs c qs && not (any_here (plain Hold) v r vs c qs)

held-places : (k : Kind) (n : ℕ) (r : Rows) (vs : List ℕ) (c : Cursor) (v : ℕ) → held_from r vs c v (drop n (places k)) ≡ is_held_in (first_place (drop n (places k))) c.next vs v
held-places Gather zero r vs c v = refl
held-places Gather (suc n) r vs c v = grind (arith, drop_none n)
held-places Prepare zero r vs c v = refl
held-places Prepare (suc n) r vs c v = grind (arith, drop_none n)
held-places Complete zero r vs c v = refl
held-places Complete (suc n) r vs c v = grind (arith, drop_none n)
held-places Snapshot zero r vs c v = grind arith
held-places Snapshot (suc zero) r vs c v = grind arith
held-places Snapshot (suc (suc zero)) r vs c v = grind arith
held-places Snapshot (suc (suc (suc zero))) r vs c v = grind arith
held-places Snapshot (suc (suc (suc (suc zero)))) r vs c v = grind arith
held-places Snapshot (suc (suc (suc (suc (suc zero))))) r vs c v = grind arith
held-places Snapshot (suc (suc (suc (suc (suc (suc zero)))))) r vs c v = grind arith
held-places Snapshot (suc (suc (suc (suc (suc (suc (suc zero))))))) r vs c v = grind arith
held-places Snapshot (suc (suc (suc (suc (suc (suc (suc (suc zero)))))))) r vs c v = grind arith
held-places Snapshot (suc (suc (suc (suc (suc (suc (suc (suc (suc zero))))))))) r vs c v = grind arith
held-places Snapshot (suc (suc (suc (suc (suc (suc (suc (suc (suc (suc zero)))))))))) r vs c v = refl
held-places Snapshot (suc (suc (suc (suc (suc (suc (suc (suc (suc (suc (suc zero))))))))))) r vs c v = refl
held-places Snapshot (suc (suc (suc (suc (suc (suc (suc (suc (suc (suc (suc (suc zero)))))))))))) r vs c v = refl
held-places Snapshot (suc (suc (suc (suc (suc (suc (suc (suc (suc (suc (suc (suc (suc zero))))))))))))) r vs c v = refl
held-places Snapshot (suc (suc (suc (suc (suc (suc (suc (suc (suc (suc (suc (suc (suc (suc zero)))))))))))))) r vs c v = refl
held-places Snapshot (suc (suc (suc (suc (suc (suc (suc (suc (suc (suc (suc (suc (suc (suc (suc n))))))))))))))) r vs c v = grind (arith, drop_none n)

-- the cursor's place tells which volumes are held
pub held_cursor : (k : Kind) (r : Rows) (vs : List ℕ) (c : Cursor) (v : ℕ) → is_held_now (left_of k r vs c) v ≡ is_held_in (first_place (drop c.group (places k))) c.next vs v
held_cursor k r vs c v = grind (arith, waited-here, held-places)

-- ## by the log

among-filtered : (p : ℕ → Bool) (v : ℕ) (xs : List ℕ) → is_among v (filter p xs) ≡ (is_among v xs && p v)
among-filtered p v [] = refl
among-filtered p v (x ∷ xs) = grind (arith, common_steps, eqb-true, among-filtered p v xs)

-- the groups left tell which volumes are held
pub held-log : (a : Agenda) (v : ℕ) → HoldsOwn a → is_held_now (groups_left a) v ≡ is_held (Some a) v
held-log a v own = grind (arith, waited-from, among-filtered)

-- ## the agenda's own volumes are held

waits-own : (a : Agenda) (v : ℕ) (p : Place) → same_place p (plain Hold) ≡ true → is_among v (waited_for a p) ≡ true → is_among v a.volumes ≡ true
waits-own a v p at e = grind (arith, and_parts, among-filtered)

left-own : (a : Agenda) (v : ℕ) (ps : List Place) → is_among v (waits_now (left_from a ps)) ≡ true → same_place (open_place (left_from a ps)) (plain Hold) ≡ true → is_among v a.volumes ≡ true
left-own a v [] e at = cc
left-own a v (p ∷ ps) e at = by_waits (left-own a v ps) (waited_for a p) refl e at where
  by_waits : (is_among v (waits_now (left_from a ps)) ≡ true → same_place (open_place (left_from a ps)) (plain Hold) ≡ true → is_among v a.volumes ≡ true) → (ws : List ℕ) → ws ≡ waited_for a p
      → is_among v (waits_now (with_group p ws (left_from a ps))) ≡ true → same_place (open_place (with_group p ws (left_from a ps))) (plain Hold) ≡ true → is_among v a.volumes ≡ true
  by_waits rest [] is e at = rest e at
  by_waits rest (w ∷ ws) is e at = waits-own a v p at (ap (is_among v) (sym is) ∙ e)

either : (x y z : Bool) (P : Type 0) → (x || (y && z)) ≡ true → (x ≡ true → P) → (y ≡ true → z ≡ true → P) → P
either x y z x3 e f g = grind arith

-- whoever is waited for says something
pub own-said : (said : Said) (now : ℕ) (whos : List ℕ) (a : Agenda) → ((v : ℕ) → is_among v whos ≡ true → is_among v (waits_now (groups_left a)) ≡ true)
    → HoldsOwn a → HoldsOwn (all_say said now whos a)
own-said said now whos a waited own v e =
    either (has_said a.log (plain Hold) v) (same_place (open_place (groups_left a)) (plain Hold)) (is_among v whos) (is_among v a.volumes ≡ true) (sym more ∙ e) (own v)
    (λ at among. left-own a v (places a.kind) (waited v among) at) where
      more : has_said (all_say said now whos a).log (plain Hold) v ≡ (has_said a.log (plain Hold) v || (same_place (open_place (groups_left a)) (plain Hold) && is_among v whos))
      more =
          any-append (λ (x : Entry). same_place x.place (plain Hold) && (x.who == v)) a.log (map (at_place (open_place (groups_left a)) said now) whos)
          ∙ ap (λ (b : Bool). has_said a.log (plain Hold) v || b)
          (any-map (λ (x : Entry). same_place x.place (plain Hold) && (x.who == v)) (at_place (open_place (groups_left a)) said now) whos
          ∙ any-among (same_place (open_place (groups_left a)) (plain Hold)) v whos)

pub asked-waited : (w : ℕ) (os : List Open) → is_asked w os ≡ true → is_among w (waits_now os) ≡ true
asked-waited w os e = grind arith

-- the next member is waited for
pub next-waited : (a : Agenda) → is_working (groups_left a) ≡ true → is_among (next_member (groups_left a)) (waits_now (groups_left a)) ≡ true
next-waited a e = search (rules, left_from-waits)
