-- The levels and the freeze time-outs of the writers' rows, and the levels of the participants, are those that the scenario gives the writers.
use Rattle.promises.proofs.Words.{Level, Order, VssResult, Said, WriterRow, row_aborted, row_gathered, row_ended, Member, IsKeptInCourse, Plan}
use Rattle.promises.proofs.Words.{WriterPlan, row_of_writer, Act, state, timeout_in, timeout_of, HasItsNumbers, level_in, level_of}
use Rattle.std.proofs.Common.{◌≡◌, ◌∙◌, ℕ, ◌+◌, ◌≤◌, zero, suc, sym, List, [], ◌∷◌, Some, refl, Bool, ap, map, arith}
use Rattle.std.specs.Prelude.{slice_get}
use Rattle.set_agenda.specs.Course.{Course, posted, rows_where, members_from, is_member, failed as course_failed, told, worked, released}
use Rattle.vss_model.proofs.Rules.{IsKeptByCalls, of_course}
use Rattle.promises.proofs.Members.{no_less, one_on}

-- members in the order of their writers, from w on, each once
abbrev pub Ascends : ℕ → List Member → Type 0
Ascends w [] = Unit {0}
Ascends w (m ∷ ms) = (w ≤ m.writer) × Ascends (m.writer + 1) ms

ascends_from : (w : ℕ) (ms : List Member) → Ascends (w + 1) ms → Ascends w ms
ascends_from w [] h = tt
ascends_from w (m ∷ ms) h = grind arith

ascend_of_rows : (test : ℕ → Bool) (w : ℕ) (rs : List WriterRow) → Ascends w (members_from test w rs)
ascend_of_rows test w [] = tt
ascend_of_rows test w (r ∷ rs) = grind (arith, no_less, ascends_from, ascend_of_rows test (w + 1) rs)

-- a change of a row that keeps its level and its time-out
abbrev Same : WriterRow → WriterRow → Type 0
Same r q = (q.level ≡ r.level) × (q.limit ≡ r.limit)

abbrev pub MembersOf : (ℕ → Level) → List Member → Type 0
MembersOf l [] = Unit {0}
MembersOf l (m ∷ ms) = (m.level ≡ l m.writer) × MembersOf l ms

module _ (l : ℕ → Level) (limit : ℕ → ℕ) where
  -- rows from writer w on
  abbrev pub RowsOf : ℕ → List WriterRow → Type 0
  RowsOf w [] = Unit {0}
  RowsOf w (r ∷ rs) = ((r.level ≡ l w) × (r.limit ≡ limit w)) × RowsOf (w + 1) rs

  rows_map : (f : WriterRow → WriterRow) → ((r : WriterRow) → Same r (f r)) → (w : ℕ) (rs : List WriterRow) → RowsOf w rs → RowsOf w (map f rs)
  rows_map f e w [] h = tt
  rows_map f e w (r ∷ rs) h = (((e r).0 ∙ h.0.0, (e r).1 ∙ h.0.1), rows_map f e (w + 1) rs h.1)

  rows_some : (f : WriterRow → WriterRow) → ((r : WriterRow) → Same r (f r)) → (test : ℕ → Bool) (w u : ℕ) (rs : List WriterRow) → RowsOf w rs → RowsOf w (rows_where f test u rs)
  rows_some f e test w u [] h = tt
  rows_some f e test w u (r ∷ rs) h = grind (arith, rows_some f e test (w + 1) (u + 1) rs h.1)

  members_of_rows : (test : ℕ → Bool) (w : ℕ) (rs : List WriterRow) → RowsOf w rs → MembersOf l (members_from test w rs)
  members_of_rows test w [] h = tt
  members_of_rows test w (r ∷ rs) h = grind (arith, members_of_rows test (w + 1) rs h.1)

  aborted_same : (r : WriterRow) → Same r (row_aborted r)
  aborted_same r = grind arith

  -- ## the course

  pub record Leveled (c : Course) : Type 0 where
    pub rows : RowsOf 0 c.rows
    pub members : MembersOf l c.members
    pub distinct : Ascends 0 c.members

  lev_posted : (before c : Course) → Leveled c → Leveled (posted before c)
  unfolding posted
  lev_posted before c h = record { rows = h.rows; members = h.members; distinct = h.distinct }

  lev_failed : (why : VssResult) (c : Course) → Leveled c → Leveled (course_failed why c)
  unfolding course_failed
  lev_failed why c h = record { rows = rows_some row_aborted aborted_same (is_member c.members) 0 0 c.rows h.rows; members = h.members; distinct = h.distinct }

  lev_told : (o : Order) (said : Said) (now : ℕ) (ws : List ℕ) (c : Course) → Leveled c → Leveled (told o said now ws c)
  unfolding told
  lev_told o said now ws c h = grind (arith, rows_some)

  lev_worked : (now : ℕ) (c : Course) → Leveled c → Leveled (worked now c)
  unfolding worked
  lev_worked now c h = record { rows = h.rows; members = h.members; distinct = h.distinct }

  lev_kept : IsKeptInCourse Leveled
  lev_kept = record {
    posts = lev_posted;
    says = lev_told;
    works = lev_worked;
    fails = lev_failed;
    closes = λ k c h. record { rows = h.rows; members = h.members; distinct = h.distinct };
  }

  lev_released : (c : Course) → Leveled c → Leveled (released c)
  unfolding released
  lev_released c h = record { rows = rows_map row_ended (λ r. (refl, refl)) 0 c.rows h.rows; members = tt; distinct = tt }

  lev_calls : IsKeptByCalls Leveled
  lev_calls = record {
    within = lev_kept;
    begins = λ k ms vs now c h. record { rows = h.rows; members = h.members; distinct = h.distinct };
    gathers = λ c h. record { rows = rows_map row_gathered (λ r. (refl, refl)) 0 c.rows h.rows; members = h.members; distinct = h.distinct };
    takes = λ test c h. record { rows = h.rows; members = members_of_rows test 0 c.rows h.rows; distinct = ascend_of_rows test 0 c.rows };
    disables = λ w c h. record { rows = h.rows; members = h.members; distinct = h.distinct };
    releases = lev_released;
  }

-- ## at the start

rows_at_start : (s : Plan) (ps : List WriterPlan) (k : ℕ)
    → ((j : ℕ) → (level_in (slice_get ps j) ≡ level_of s (k + j)) × (timeout_in (slice_get ps j) ≡ timeout_of s (k + j)))
    → RowsOf (level_of s) (timeout_of s) k (map row_of_writer ps)
rows_at_start s [] k e = tt
rows_at_start s (p ∷ ps) k e = (
  ((e 0).0 ∙ ap (level_of s) (no_more k), (e 0).1 ∙ ap (timeout_of s) (no_more k)),
  rows_at_start s ps (k + 1) (λ j. ((e (suc j)).0 ∙ ap (level_of s) (one_more k j), (e (suc j)).1 ∙ ap (timeout_of s) (one_more k j))),
) where
  no_more : (k : ℕ) → k + 0 ≡ k
  no_more k = omega arith

  one_more : (k j : ℕ) → k + suc j ≡ k + 1 + j
  one_more k j = omega arith

none_before : (j : ℕ) → j ≡ 0 + j
none_before j = omega arith

leveled_from_start : (s : Plan) (acts : List Act) → Leveled (level_of s) (timeout_of s) (state s acts).course
leveled_from_start s acts =
    of_course (Leveled (level_of s) (timeout_of s)) (lev_calls (level_of s) (timeout_of s)) s acts
    (record { rows = rows_at_start s s.writers 0 (λ j. (ap (level_of s) (none_before j), ap (timeout_of s) (none_before j))); members = tt; distinct = tt })

pub levels_are : (s : Plan) (acts : List Act) → MembersOf (level_of s) (state s acts).course.members
levels_are s acts = (leveled_from_start s acts).members

pub members_ascend : (s : Plan) (acts : List Act) → Ascends 0 (state s acts).course.members
members_ascend s acts = (leveled_from_start s acts).distinct

-- ## the numbers

own_timeout : (s : Plan) (w : ℕ) (p : WriterPlan) → slice_get s.writers w ≡ Some p → timeout_of s w ≡ p.meta.freeze_timeout
own_timeout s w p e = ap timeout_in e

row_at : (s : Plan) (rows : List WriterRow) (k w : ℕ) (r : WriterRow) → RowsOf (level_of s) (timeout_of s) k rows → slice_get rows w ≡ Some r → r.limit ≡ timeout_of s (k + w)
row_at s [] k w r h e = absurd cc
row_at s (q ∷ rows) k zero r h e = grind arith
row_at s (q ∷ rows) k (suc w) r h e = row_at s rows (k + 1) w r h.1 e ∙ ap (timeout_of s) (one_on k w)

pub has_its_numbers : (s : Plan) (so_far : List Act) → HasItsNumbers s so_far
has_its_numbers s so_far = record {
  hold = refl;
  freeze = refl;
  answer = refl;
  own = λ w r p e f. row_at s (state s so_far).course.rows 0 w r (leveled_from_start s so_far).rows e ∙ ap (timeout_of s) (sym (none_before w)) ∙ own_timeout s w p f;
}
