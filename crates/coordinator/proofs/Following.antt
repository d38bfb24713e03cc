-- What each part of an act does to what is kept of a course; and rows that change one after another.
use Rattle.std.proofs.Common.{◌≡◌, ℕ, zero, suc, ◌+◌, ◌<◌, ◌≤◌, List, [], ◌∷◌, length, get_or, refl, Bool, true, false, ap, ◌∙◌, subst, arith, set, map, Option}
use Rattle.std.proofs.Common.{Some, None, sym}
use Rattle.std.proofs.lemmas.Grind.{common_steps}
use Rattle.std.specs.Prelude.{◌==◌, option_map}
use Rattle.vss_names.specs.declared.order.Order.{Order}
use Rattle.vss_names.specs.declared.set_outcome.SetOutcome.TheVariants.{Failed}
use Rattle.vss_names.specs.declared.vss_result.VssResult.{VssResult}
use Rattle.writer_state.specs.WriterState.{row_aborted, row_after}
use Rattle.writer_state.specs.declared.said.Said.{Said}
use Rattle.writer_state.specs.declared.said.Said.TheVariants.{Ok, Lost}
use Rattle.writer_state.specs.declared.writer_row.WriterRow.{WriterRow}
use Rattle.set_agenda.specs.Agenda.{Agenda, all_say, is_among, left, next_member, order_now, waits_now}
use Rattle.set_agenda.specs.Course.{row_if, rows_where, Course, failed, fails_set, is_member, lost, lost_decided, lost_to, members_from, outcome_after, settled}
use Rattle.set_agenda.specs.Course.{settled_in, told, worked}
use Rattle.set_agenda.specs.declared.kind.Kind.{Kind}
use Rattle.set_agenda.specs.declared.limit.Limit.{Limit}
use Rattle.set_agenda.specs.declared.limit.Limit.TheVariants.{Answer as AnswerLimit}
use Rattle.set_agenda.proofs.WriterSets.{or-false}
use Rattle.coordinator.specs.KeptCourse.{FitsRun, Follows, kind_if_done, left_now, treated_by}
use Rattle.coordinator.specs.RunningAgenda.{Fits}
use Rattle.coordinator.specs.declared.kept_course.KeptCourse.{KeptCourse}
use Rattle.coordinator.specs.declared.row_change.RowChange.TheVariants.{Told, Aborted}
use Rattle.coordinator.specs.declared.running_agenda.RunningAgenda.{RunningAgenda}
use Rattle.coordinator.proofs.Registering.{member-here, members-where}

-- ## Rows that change one after another, and those of which the first are done.

-- the rows from number n on that pass, where the first k of them are done already
abbrev pub where_from : (WriterRow → WriterRow) → (ℕ → Bool) → ℕ → ℕ → List WriterRow → List WriterRow
where_from f test n zero rs = rows_where f test n rs
where_from f test n (suc k) [] = []
where_from f test n (suc k) (r ∷ rs) = r ∷ where_from f test (n + 1) k rs

where-step : (f : WriterRow → WriterRow) (t : ℕ → Bool) (n k : ℕ) (rs : List WriterRow) (d x : WriterRow) → k < length rs → x ≡ row_if (t (n + k)) f (get_or rs k d)
    → where_from f t n (suc k) (set rs k x) ≡ where_from f t n k rs
where-step f t n k [] d x h e = absurd (omega arith)
where-step f t n zero (r ∷ rs) d x h e = ap (λ z. z ∷ rows_where f t (n + 1) rs) (e ∙ ap (λ m. row_if (t m) f r) (omega arith))
where-step f t n (suc k) (r ∷ rs) d x h e = ap (λ zs. r ∷ zs) (where-step f t (n + 1) k rs d x (omega arith) (e ∙ ap (λ m. row_if (t m) f (get_or rs k d)) (omega arith)))

pub where-end : (f : WriterRow → WriterRow) (t : ℕ → Bool) (n k : ℕ) (rs : List WriterRow) → length rs ≤ k → where_from f t n k rs ≡ rs
where-end f t n zero [] h = refl
where-end f t n zero (r ∷ rs) h = absurd (omega arith)
where-end f t n (suc k) [] h = refl
where-end f t n (suc k) (r ∷ rs) h = ap (λ zs. r ∷ zs) (where-end f t (n + 1) k rs (omega arith))

pub where-next : (f : WriterRow → WriterRow) (t : ℕ → Bool) (k : ℕ) (rs : List WriterRow) (d x : WriterRow) → k < length rs → x ≡ row_if (t k) f (get_or rs k d)
    → where_from f t 0 (k + 1) (set rs k x) ≡ where_from f t 0 k rs
where-next f t k rs d x h e =
    let g : suc k ≡ k + 1 = omega arith in
    let z : k ≡ 0 + k = omega arith in
    subst (λ m. where_from f t 0 m (set rs k x) ≡ where_from f t 0 k rs) g (where-step f t 0 k rs d x h (e ∙ ap (λ m. row_if (t m) f (get_or rs k d)) z))

-- all rows pass
pub where-all : (f : WriterRow → WriterRow) (n : ℕ) (rs : List WriterRow) → rows_where f (λ w. true) n rs ≡ map f rs
where-all f n [] = refl
where-all f n (r ∷ rs) = ap (λ zs. f r ∷ zs) (where-all f (n + 1) rs)

-- tests that agree on the rows' numbers
pub where-agree : (f : WriterRow → WriterRow) (p q : ℕ → Bool) (n : ℕ) (rs : List WriterRow) → ((i : ℕ) → n ≤ i → i < n + length rs → p i ≡ q i) → rows_where f p n rs ≡ rows_where f q n rs
where-agree f p q n [] h = refl
where-agree f p q n (r ∷ rs) h = ap (λ b. row_if b f r ∷ rows_where f p (n + 1) rs) (h n (omega arith) (omega arith)) ∙ ap (λ zs. row_if (q n) f r ∷ zs) (where-agree f p q (n + 1) rs (λ i m l. h i (omega arith) (omega arith)))

-- none passes
where-none : (f : WriterRow → WriterRow) (t : ℕ → Bool) (n : ℕ) (rs : List WriterRow) → ((i : ℕ) → n ≤ i → t i ≡ false) → rows_where f t n rs ≡ rs
where-none f t n [] h = refl
where-none f t n (r ∷ rs) h = ap (λ b. row_if b f r ∷ rows_where f t (n + 1) rs) (h n (omega arith)) ∙ ap (λ zs. r ∷ zs) (where-none f t (n + 1) rs (λ i l. h i (omega arith)))

-- one passes
where-one : (f : WriterRow → WriterRow) (n k : ℕ) (rs : List WriterRow) (d x : WriterRow) → k < length rs → x ≡ f (get_or rs k d) → set rs k x ≡ rows_where f (λ w. (n + k) == w) n rs
where-one f n k [] d x h e = absurd (omega arith)
where-one f n zero (r ∷ rs) d x h e = grind (arith, common_steps, where-none)
where-one f n (suc k) (r ∷ rs) d x h e = let ih = where-one f (n + 1) k rs d x (omega arith) e in grind (arith, common_steps)

pub where-at : (f : WriterRow → WriterRow) (k : ℕ) (rs : List WriterRow) (d x : WriterRow) → k < length rs → x ≡ f (get_or rs k d) → set rs k x ≡ rows_where f (λ w. k == w) 0 rs
where-at f k rs d x h e = let z : 0 + k ≡ k = omega arith in where-one f 0 k rs d x h e ∙ ap (λ i. rows_where f (λ w. i == w) 0 rs) z

-- ## What each part of an act does to what is kept of a course.

-- ## the agenda that runs

left-at : (r : Option RunningAgenda) (ag : Option Agenda) → FitsRun r ag → left_now r ≡ left ag
left-at r ag h = grind arith

-- the groups that are left are those of the log
pub left-is : (k : KeptCourse) (c : Course) → Follows k c → left_now k.running ≡ left c.agenda
left-is k c h = left-at k.running c.agenda h.agenda

runs-more : (r n : RunningAgenda) (said : Said) (now : ℕ) (ws : List ℕ) → ((a : Agenda) → Fits r a → Fits n (all_say said now ws a)) → (ag : Option Agenda) → FitsRun (Some r) ag → FitsRun (Some n) (option_map (all_say said now ws) ag)
runs-more r n said now ws f ag h = grind arith

-- ## something is said

-- k with its rows and the agenda changed is n
pub record Alike (k n : KeptCourse) : Type 0 where
  pub members : n.members ≡ k.members
  pub disabled : n.disabled ≡ k.disabled
  pub outcome : n.outcome ≡ k.outcome

pub follows-told : (k n : KeptCourse) (c : Course) (r s : RunningAgenda) (o : Order) (said : Said) (now : ℕ) (ws : List ℕ) → k.running ≡ Some r → n.running ≡ Some s → Alike k n
    → n.rows ≡ rows_where (row_after o said) (λ w. is_among w ws) 0 k.rows
    → ((a : Agenda) → Fits r a → Fits s (all_say said now ws a)) → Follows k c → Follows n (told o said now ws c)
unfolding told
follows-told k n c r s o said now ws e f l x g h = record {
  rows = x ∙ ap (rows_where (row_after o said) (λ w. is_among w ws) 0) h.rows;
  members = h.members ∙ sym (members-where (Told o said) (λ w. is_among w k.members) (λ w. is_among w ws) 0 c.rows)
      ∙ ap (λ ms. members_from (λ w. is_among w ms) 0 (rows_where (row_after o said) (λ w. is_among w ws) 0 c.rows)) (sym l.members);
  participants = l.members ∙ h.participants;
  disabled = l.disabled ∙ h.disabled;
  outcome = l.outcome ∙ h.outcome;
  agenda = subst (λ y. FitsRun y (option_map (all_say said now ws) c.agenda)) (sym f) (runs-more r s said now ws g c.agenda (subst (λ y. FitsRun y c.agenda) e h.agenda));
}

-- one writer says it
pub one-where : (f : WriterRow → WriterRow) (w : ℕ) (rs : List WriterRow) → rows_where f (λ x. w == x) 0 rs ≡ rows_where f (λ x. is_among x (w ∷ [])) 0 rs
one-where f w rs = where-agree f (λ x. w == x) (λ x. is_among x (w ∷ [])) 0 rs (λ i m l. sym (or-false (w == i)))

pub follows-worked : (k n : KeptCourse) (c : Course) (r s : RunningAgenda) (now : ℕ) → k.running ≡ Some r → n.running ≡ Some s → n.rows ≡ k.rows → Alike k n
    → ((a : Agenda) → Fits r a → Fits s (all_say Ok now (next_member r.agenda ∷ []) a)) → Follows k c → Follows n (worked now c)
unfolding worked
follows-worked k n c r s now e f y l g h = grind arith

-- ## the agenda ends

settled-none : (r : Option RunningAgenda) (ag : Option Agenda) (c : Course) → FitsRun r ag → kind_if_done r ≡ None → settled_in ag c ≡ c
settled-none r ag c h e = grind arith

pub follows-ended : (k n : KeptCourse) (c : Course) (kind : Kind) → kind_if_done k.running ≡ Some kind → n.running ≡ None
    → n.rows ≡ k.rows → n.members ≡ k.members → n.disabled ≡ k.disabled → n.outcome ≡ outcome_after kind k.outcome → Follows k c → Follows n (settled c)
unfolding settled
follows-ended k n c kind e r w m d u h = grind arith

pub follows-goes_on : (k : KeptCourse) (c : Course) → kind_if_done k.running ≡ None → Follows k c → Follows k (settled c)
unfolding settled
follows-goes_on k c e h = subst (Follows k) (sym (settled-none k.running c.agenda c h.agenda e)) h

-- ## the set fails

pub follows-failed : (k n : KeptCourse) (c : Course) (why : VssResult) → n.rows ≡ rows_where row_aborted (λ w. is_among w k.members) 0 k.rows
    → n.members ≡ k.members → n.disabled ≡ k.disabled → n.outcome ≡ Failed why → n.running ≡ None → Follows k c → Follows n (failed why c)
unfolding failed
follows-failed k n c why e m d u r h =
    let agree : rows_where row_aborted (λ w. is_among w k.members) 0 c.rows ≡ rows_where row_aborted (is_member c.members) 0 c.rows
    = where-agree row_aborted (λ w. is_among w k.members) (is_member c.members) 0 c.rows (λ i l b. sym (ap (λ ms. is_member ms i) h.members ∙ member-here (λ w. is_among w k.members) 0 c.rows i l b)) in
    record {
      rows = e ∙ ap (rows_where row_aborted (λ w. is_among w k.members) 0) h.rows ∙ agree;
      members = h.members ∙ sym (members-where Aborted (λ w. is_among w k.members) (is_member c.members) 0 c.rows)
          ∙ ap (λ ms. members_from (λ w. is_among w ms) 0 (rows_where row_aborted (is_member c.members) 0 c.rows)) (sym m);
      participants = m ∙ h.participants;
      disabled = d ∙ h.disabled;
      outcome = u;
      agenda = subst (λ x. FitsRun x None) (sym r) tt;
    }

-- ## open orders

-- those that are waited for are lost
pub follows-lost : (k n : KeptCourse) (c : Course) (o : Order) (now : ℕ) → order_now (left_now k.running) ≡ Some o → Follows n (told o Lost now (waits_now (left_now k.running)) c) → Follows k c → Follows n (lost now c)
follows-lost k n c o now e f h = grind arith

pub follows-lost-none : (k : KeptCourse) (c : Course) (now : ℕ) → order_now (left_now k.running) ≡ None → Follows k c → Follows k (lost now c)
follows-lost-none k c now e h = subst (λ x. Follows k (lost_to x now c)) (sym e ∙ ap order_now (left-is k c h)) h

-- an answer limit is spent
pub follows-answer : (k n : KeptCourse) (c : Course) (now : ℕ) (l : Option Limit) (b : Bool) → l ≡ Some AnswerLimit → b ≡ fails_set (order_now (left_now k.running)) → Follows k c → Follows n (lost_decided b (lost now c)) → Follows n (treated_by l now c)
follows-answer k n c now l b e f h g = rw e (subst (λ x. Follows n (lost_decided x (lost now c))) (f ∙ ap (λ os. fails_set (order_now os)) (left-is k c h)) g)
