-- One call, from what its steps tell one after another: m0 before it, m1 with a ticket, m2 with the machine, m3 with
-- the note of the move, m4 after it.
use Rattle.std.proofs.Common.{◌≡◌, ℕ, ◌%◌, ◌^◌, List, [], ◌∷◌, get_or, ap, sym, ◌∙◌, subst}
use Rattle.atomic_table.specs.Table.{Me, rest}
use Rattle.turn_cell.specs.declared.entry.Entry.{Entry}
use Rattle.turn_cell.specs.declared.desk.Desk.{Desk}
use Rattle.turn_cell.specs.declared.desk.Note.{Note}
use Rattle.turn_cell.specs.declared.view.Known.{Known}
use Rattle.turn_cell.specs.declared.view.View.{View}
use Rattle.turn_cell.specs.declared.view.View.TheVariants.{Idle, Waiting, Holding}
use Rattle.turn_cell.specs.History.{Makes}
use Rattle.turn_cell.specs.Steps.{known, ticket_of, seeing, having, Takes, Carries}

abbrev Sat : Type 0 → Type 0 → Type 0 → Type 0
Sat M C R = Me (Desk M C R) (View M C R)

module _ {M C R : Type 0} where
  -- while it waits nothing changes
  pub waits_still : (m n : Sat M C R) → m ≡ n → n ≡ (Waiting (known n.0) (ticket_of n.0), []) → m.0 ≡ Waiting (known m.0) (ticket_of m.0)
  waits_still m n same is = subst (λ (z : Sat M C R). z.0 ≡ Waiting (known z.0) (ticket_of z.0)) (sym same) (ap (λ (z : Sat M C R). z.0) is)

  pub takes_still : (m n k : Sat M C R) (r : ℕ) → m ≡ n → (r ≡ ticket_of m.0 % 2 ^ 64 → Takes m k) → r ≡ ticket_of n.0 % 2 ^ 64 → Takes n k
  takes_still m n k r same told is = subst (λ (z : Sat M C R). (r ≡ ticket_of z.0 % 2 ^ 64 → Takes z k)) same told is

  module _ (m0 m1 : Sat M C R) (idle : m0 ≡ (Idle (known m0.0), [])) (t : ℕ) (drawn : m1 ≡ (Waiting (known m0.0) t, m0.1)) where
    ticketed : m1 ≡ (Waiting (known m0.0) t, [])
    ticketed = drawn ∙ ap (λ (l : List (ℕ × Desk M C R)). let m : Sat M C R = (Waiting (known m0.0) t, l) in m) (ap (λ (z : Sat M C R). z.1) idle)

    module _ (m2 : Sat M C R) (takes : Takes m1 m2) where
      held : m2 ≡ (Holding (seeing (known m0.0) takes.0) (ticket_of m1.0) takes.1.machine, (0, takes.1) ∷ [])
      held = subst (λ (z : Sat M C R). m2 ≡ (Holding (seeing (known z.0) takes.0) (ticket_of m1.0) takes.1.machine, (0, takes.1) ∷ z.1)) ticketed takes.2

      pub holding : m2 ≡ (Holding (known m2.0) (ticket_of m2.0) takes.1.machine, (0, takes.1) ∷ [])
      holding = subst (λ (z : Sat M C R). m2 ≡ (Holding (known z.0) (ticket_of z.0) takes.1.machine, (0, takes.1) ∷ [])) (sym held) held

      pub sees : known m2.0 ≡ seeing (known m0.0) takes.0
      sees = ap (λ (z : Sat M C R). known z.0) held

module _ {M C R : Type 0} (steps : M → ℕ → C → R → M → Type 0) where
  -- the machine's move, with its note
  pub carries : (m n : Sat M C R) (d d' after : Desk M C R) (note : Note C R) (e : Entry C R) → m ≡ (Holding (known m.0) (ticket_of m.0) d.machine, (0, d) ∷ []) → m.1 ≡ (0, d') ∷ rest m.1
      → n ≡ (m.0, (0, after) ∷ rest m.1) → note.call.value ≡ e.call → note.answer.value ≡ e.answer → e.caller ≡ (known m.0).number
      → after.note ≡ Rattle.std.proofs.Common.Some note → Makes steps d'.machine e after.machine
      → Carries steps n e
  carries m n d d' after note e holds here moved call_is answer_is caller_is is_noted makes =
      let carried : m.1 ≡ (0, d) ∷ [] = ap (λ (z : Sat M C R). z.1) holds in
      let same : d' ≡ d = ap (λ (l : List (ℕ × Desk M C R)). (get_or l 0 (0, d)).1) (sym here ∙ carried) in
      let none_else : rest m.1 ≡ [] = ap rest carried in
      let now : n ≡ (m.0, (0, after) ∷ []) = moved ∙ ap (λ (l : List (ℕ × Desk M C R)). let z : Sat M C R = (m.0, (0, after) ∷ l) in z) none_else in
      let view : n.0 ≡ m.0 = ap (λ (z : Sat M C R). z.0) now in
      record {
        before = d.machine;
        desk = after;
        note = note;
        holds = now ∙ (ap (λ (v : View M C R). let z : Sat M C R = (v, (0, after) ∷ []) in z) (ap (λ (z : Sat M C R). z.0) holds)
            ∙ ap (λ (v : View M C R). let z : Sat M C R = (Holding (known v) (ticket_of v) d.machine, (0, after) ∷ []) in z) (sym view));
        is_noted = is_noted;
        entry_is = λ i. record { caller = (ap (λ (v : View M C R). (known v).number) view ∙ sym caller_is) i; call = call_is i; answer = answer_is i };
        makes = subst (λ (x : Desk M C R). Makes steps x.machine e after.machine) same makes;
      }

module _ {M C R : Type 0} (m0 m3 m4 : Sat M C R) (more : List (Entry C R)) (e : Entry C R) (sees : known m3.0 ≡ seeing (known m0.0) more) (after : m4 ≡ (Idle (having (known m3.0) e), [])) where
  knows : known m4.0 ≡ having (known m3.0) e
  knows = ap (λ (z : Sat M C R). known z.0) after

  has : known m4.0 ≡ having (seeing (known m0.0) more) e
  has = knows ∙ ap (λ (k : Known C R). having k e) sees

  pub idle_still : m4 ≡ (Idle (known m4.0), [])
  idle_still = after ∙ ap (λ (k : Known C R). let z : Sat M C R = (Idle k, []) in z) (sym knows)

  pub same_number : (known m4.0).number ≡ (known m0.0).number
  same_number = ap (λ (k : Known C R). k.number) has
