-- Tests, whom a choice by them makes take part, and what keeps the choice of writers.
use Rattle.std.proofs.Common.{◌≡◌, ℕ, ◌==◌, ◌≤◌, arith, Bool, true, ◌∙◌, ◌+◌, ◌<◌, zero, suc, List, [], ◌∷◌, refl, false, sym, filter, length, Option, Some}
use Rattle.std.specs.Prelude.{not, ◌&&◌, ◌||◌, nat_lt, option_map}
use Rattle.set_agenda.specs.Course.{failed as course_failed}
use Rattle.vss_model.specs.Sessions.{is_known, known_from, selected_in}
use Rattle.vss_model.proofs.StateForm.{answered, stepped}
use Rattle.promises.proofs.Words.{list_any, range_with_len, and_left, WriterRow, is_among, is_member, members_from, is_taker, known_from as numbers_known}
use Rattle.promises.proofs.Words.{takers, Mode, Components, All, Plan, WriterPlan, Pair, State, is_writer, Order, VssResult, Mark, Write, Said, row_after}
use Rattle.promises.proofs.Words.{row_aborted, Group, Kind, Member, Agenda, IsKeptFrom, from_settled, from_begun, from_answered, from_timed, Session, SetRow}
use Rattle.promises.proofs.Words.{Kept, in_progress, length-rows_where, Course, posted, begun, told, answered as course_answered, worked}
use Rattle.promises.proofs.Words.{stepped as course_stepped, timed as course_timed, runs, followed, failed_in, cleared, with_room_if, put}
use Rattle.promises.proofs.Words.{write, reverted_as, step_made, stepped_as, ticked, later, set_loses_image}

-- ## Truth values, and tests of numbers: what several proofs ask of them.

pub same_number : (a : ℕ) → (a == a) ≡ true
same_number a = grind arith

pub not_itself : (b : Bool) → b ≡ true → not b ≡ true → ⊥
not_itself b e f = grind arith

pub both_ways : (a b : Bool) → (a ≡ true → b ≡ true) → (b ≡ true → a ≡ true) → a ≡ b
both_ways a b f g = grind arith

pub chain : (a b c : ℕ) → a ≤ b → b ≤ c → a ≤ c
chain a b c l h = omega arith

pub no_less : (n : ℕ) → n ≤ n
no_less n = omega arith

-- ## Whom a choice makes take part: of the writers that pass a test exactly those are members, and exactly those takers, that have a row.

-- ## numbers in order

pub beyond : (a w : ℕ) → w < a → (a == w) ≡ false
beyond a w l = grind arith

pub next_up : (a w : ℕ) → a ≤ w → (a == w) ≡ false → a + 1 ≤ w
next_up a w l e = grind arith

before_next : (a w : ℕ) → (a == w) ≡ true → w < a + 1
before_next a w e = grind arith

pub still_less : (a w : ℕ) → w < a → w < a + 1
still_less a w l = omega arith

none_from : (a w : ℕ) → a ≤ w → nat_lt w (a + 0) ≡ false
none_from a w l = grind arith

pub one_on : (a n : ℕ) → a + 1 + n ≡ a + suc n
one_on a n = omega arith

-- ## a list of numbers that pass: the first, and those behind it

-- it is not
skips : (b c rest : Bool) → c ≡ false → ((b && c) || rest) ≡ rest
skips b c rest e = grind arith

-- what passes of the numbers from a on, where the first passes or not
one_more : (test : ℕ → Bool) (a n w : ℕ) (rest : Bool) → a ≤ w → ((a == w) ≡ true → rest ≡ false) → ((a == w) ≡ false → rest ≡ (nat_lt w (a + 1 + n) && test w))
    → ((test a && (a == w)) || rest) ≡ (nat_lt w (a + suc n) && test w)
one_more test a n w rest l own later = grind arith

-- ## members

head_member : (test : ℕ → Bool) (k : ℕ) (r : WriterRow) (rows : List WriterRow) (w : ℕ)
    → is_member (members_from test k (r ∷ rows)) w ≡ ((test k && (k == w)) || is_member (members_from test (k + 1) rows) w)
head_member test k r rows w = grind arith

no_member_before : (test : ℕ → Bool) (k : ℕ) (rows : List WriterRow) (w : ℕ) → w < k → is_member (members_from test k rows) w ≡ false
no_member_before test k [] w l = refl
no_member_before test k (r ∷ rows) w l = grind (arith, head_member, skips, beyond, still_less, no_member_before test (k + 1) rows w (still_less k w l))

pub members_from_are : (test : ℕ → Bool) (k : ℕ) (rows : List WriterRow) (w : ℕ) → k ≤ w → is_member (members_from test k rows) w ≡ (nat_lt w (k + length rows) && test w)
members_from_are test k [] w l = sym (and_left (nat_lt w (k + 0)) (test w) (none_from k w l))
members_from_are test k (r ∷ rows) w l =
    head_member test k r rows w
    ∙ one_more test k (length rows) w (is_member (members_from test (k + 1) rows) w) l (λ e. no_member_before test (k + 1) rows w (before_next k w e))
    (λ e. members_from_are test (k + 1) rows w (next_up k w l e))

-- ## takers

head_passes : (test : ℕ → Bool) (a w : ℕ) (xs : List ℕ) → is_among w (filter test (a ∷ xs)) ≡ ((test a && (a == w)) || is_among w (filter test xs))
head_passes test a w xs = grind arith

pub none_passes : (test : ℕ → Bool) (a n w : ℕ) → w < a → is_among w (filter test (range_with_len a n)) ≡ false
none_passes test a zero w l = refl
none_passes test a (suc n) w l = grind (arith, head_passes, skips, beyond, still_less, none_passes test (a + 1) n w (still_less a w l))

pub range_passes : (test : ℕ → Bool) (a n w : ℕ) → a ≤ w → is_among w (filter test (range_with_len a n)) ≡ (nat_lt w (a + n) && test w)
range_passes test a zero w l = sym (and_left (nat_lt w (a + 0)) (test w) (none_from a w l))
range_passes test a (suc n) w l =
    head_passes test a w (range_with_len (a + 1) n)
    ∙ one_more test a n w (is_among w (filter test (range_with_len (a + 1) n))) l (λ e. none_passes test (a + 1) n w (before_next a w e)) (λ e. range_passes test (a + 1) n w (next_up a w l e))

-- ## whom the session knows

module _ (s : Plan) (st : State) where
  abbrev knows : ℕ → ℕ → List WriterPlan → Bool
  knows w k ps = list_any (λ x. x == w) (numbers_known k (known_from s st k ps))

  head_known : (k w : ℕ) (p : WriterPlan) (ps : List WriterPlan) → knows w k (p ∷ ps) ≡ ((is_known s st k && (k == w)) || knows w (k + 1) ps)
  head_known k w p ps = grind arith

  none_known : (k w : ℕ) (ps : List WriterPlan) → w < k → knows w k ps ≡ false
  none_known k w [] l = refl
  none_known k w (p ∷ ps) l = head_known k w p ps ∙ skips (is_known s st k) (k == w) (knows w (k + 1) ps) (beyond k w l) ∙ none_known (k + 1) w ps (still_less k w l)

  known_are : (k w : ℕ) (ps : List WriterPlan) → k ≤ w → knows w k ps ≡ (nat_lt w (k + length ps) && is_known s st w)
  known_are k w [] l = sym (and_left (nat_lt w (k + 0)) (is_known s st w) (none_from k w l))
  known_are k w (p ∷ ps) l =
      head_known k w p ps
      ∙ one_more (is_known s st) k (length ps) w (knows w (k + 1) ps) l (λ e. none_known (k + 1) w ps (before_next k w e)) (λ e. known_are (k + 1) w ps (next_up k w l e))

  -- ## by the mode of the session

  abbrev pub is_selected : Mode → ℕ → Bool
  is_selected Components w = list_any (λ (p : Pair). p.writer == w) st.explicit
  is_selected All w = is_known s st w

  twice : (b c : Bool) → (b && (b && c)) ≡ (b && c)
  twice b c = grind arith

  from_zero : (n w : ℕ) → nat_lt w (0 + n) ≡ nat_lt w n
  from_zero n w = grind arith

  pub taker_is : (mode : Mode) (w : ℕ) → (is_writer s w && is_taker (selected_in mode s st) w) ≡ (is_writer s w && is_selected mode w)
  taker_is mode w = grind (arith, known_are, from_zero, twice)

  -- who is made to take part, where each writer has a row
  pub selected_are : (mode : Mode) (w : ℕ) → length st.course.rows ≡ length s.writers
      → is_member (members_from (λ x. is_among x (takers (length s.writers) (selected_in mode s st))) 0 st.course.rows) w ≡ (is_writer s w && is_selected mode w)
  selected_are mode w rows = grind (arith, members_from_are, from_zero, range_passes, twice, taker_is)

-- ## What keeps the choice of writers: answers, steps, ticks, failures and agendas change neither who takes part, nor which classes are
-- disabled, nor what is named, nor whether the session takes all; and each writer keeps a row.

-- ## the course

pub record SameCourse (c d : Course) : Type 0 where
  pub disabled : d.disabled ≡ c.disabled
  pub members : d.members ≡ c.members
  pub rows : length d.rows ≡ length c.rows

pub same_course : (c : Course) → SameCourse c c
same_course c = record { disabled = refl; members = refl; rows = refl }

on_failed : (why : VssResult) (c : Course) → SameCourse c (course_failed why c)
unfolding course_failed
on_failed why c = record { disabled = refl; members = refl; rows = length-rows_where row_aborted (is_member c.members) 0 c.rows }

on_told : (o : Order) (said : Said) (now : ℕ) (ws : List ℕ) (c : Course) → SameCourse c (told o said now ws c)
unfolding told
on_told o said now ws c = record { disabled = refl; members = refl; rows = length-rows_where (row_after o said) (λ w. is_among w ws) 0 c.rows }

on_worked : (now : ℕ) (c : Course) → SameCourse c (worked now c)
unfolding worked
on_worked now c = record { disabled = refl; members = refl; rows = refl }

on_posted : (before c d : Course) → SameCourse c d → SameCourse c (posted before d)
unfolding posted
on_posted before c d h = record { disabled = h.disabled; members = h.members; rows = h.rows }

same_kept : (c : Course) → IsKeptFrom (SameCourse c) c
same_kept c = grind (arith, same_course, on_posted, on_told, on_worked, on_failed)

pub on_course_answered : (w : ℕ) (said : Said) (now : ℕ) (c : Course) → SameCourse c (course_answered w said now c)
on_course_answered w said now c = from_answered (SameCourse c) c (same_kept c) w said now

pub on_course_stepped : (ok : Bool) (now : ℕ) (c : Course) → SameCourse c (course_stepped ok now c)
on_course_stepped true now c = on_posted c c _ (from_settled (SameCourse c) c (same_kept c) _ (on_worked now c))
on_course_stepped false now c = on_posted c c _ (on_failed _ c)

pub on_course_timed : (now : ℕ) (c : Course) → SameCourse c (course_timed now c)
on_course_timed now c = from_timed (SameCourse c) c (same_kept c) now

on_agenda : (a : Option Agenda) (c : Course) → SameCourse c (record c { agenda = a })
on_agenda a c = record { disabled = refl; members = refl; rows = refl }

pub on_begun : (k : Kind) (ms : List Member) (vs : List ℕ) (now : ℕ) (c : Course) → SameCourse c (begun k ms vs now c)
on_begun k ms vs now c = from_begun (SameCourse c) c (same_kept c) k ms vs now c (on_agenda (Some (record { kind = k; members = ms; volumes = vs; begun = now; log = [] })) c)

-- ## the state

abbrev pub mode_in : Option Session → Option Mode
mode_in q = option_map (λ (p : Session). p.mode) q

pub record SameChoice (st x : State) : Type 0 where
  pub explicit : x.explicit ≡ st.explicit
  pub course : SameCourse st.course x.course
  pub mode : mode_in x.session ≡ mode_in st.session

pub same_choice : (st : State) → SameChoice st st
same_choice st = record { explicit = refl; course = same_course st.course; mode = refl }

-- the course goes on in a state that is the same but for sets, volumes and the clock
pub on_followed : (ran : Bool) (c : Course) (st x : State) → x.explicit ≡ st.explicit → x.session ≡ st.session → SameCourse st.course c → SameChoice st (followed ran c x)
unfolding followed
on_followed ran c st x e f h = grind arith

pub on_failed_in : (o : Option SetRow) (why : VssResult) (st x : State) → SameChoice st x → SameChoice st (failed_in o why x)
on_failed_in o why st x h = grind (arith, on_failed)

pub on_answered : (w : ℕ) (said : Said) (st : State) → SameChoice st (answered w said st)
unfolding answered
on_answered w said st = on_followed (runs st) (course_answered w said st.clock st.course) st st refl refl (on_course_answered w said st.clock st.course)

pub on_ticked : (n : ℕ) (st : State) → SameChoice st (ticked n st)
unfolding ticked
on_ticked n st = on_followed (runs st) (course_timed (st.clock + n) st.course) st (later n st) refl refl (on_course_timed (st.clock + n) st.course)

pub session_made : (g : Option Group) (v : Option ℕ) (st : State) → (step_made g v st).session ≡ st.session
session_made g v st = grind arith

on_step_as : (f : Bool) (g : Option Group) (v : Option ℕ) (st : State) → SameChoice st (stepped_as f g v st)
on_step_as true g v st = on_followed (runs st) (course_stepped false st.clock st.course) st st refl refl (on_course_stepped false st.clock st.course)
on_step_as false g v st = on_followed (runs st) (course_stepped true st.clock st.course) st (step_made g v st) (grind arith) (session_made g v st) (on_course_stepped true st.clock st.course)

pub on_stepped : (mark : Mark) (st : State) → SameChoice st (stepped mark st)
unfolding stepped
on_stepped mark st = on_step_as _ _ _ st

-- ## lines

on_room : (b : Bool) (st x : State) → SameChoice st x → SameChoice st (with_room_if b x)
on_room b st x h = grind (arith, on_failed_in)

on_put : (v : ℕ) (w : Write) (mark : Mark) (st x : State) → SameChoice st x → SameChoice st (put v w mark x)
on_put v w mark st x h = grind arith

pub on_write : (s : Plan) (v : ℕ) (w : Write) (mark : Mark) (st : State) → SameChoice st (write s v w mark st).1
unfolding write
on_write s v w mark st = on_put v w mark st _
    (on_room (set_loses_image (in_progress st) st.volumes (cleared s v w.block st).volumes) st (cleared s v w.block st)
    (record { explicit = refl; course = same_course st.course; mode = refl }))

pub on_revert : (s : Plan) (v : ℕ) (k : Kept) (mark : Mark) (st : State) → SameChoice st (reverted_as s v k mark st).1
on_revert s v k mark st = grind arith

-- a change of sets, volumes and the clock
pub same_beside : (st x : State) → x.explicit ≡ st.explicit → x.course ≡ st.course → mode_in x.session ≡ mode_in st.session → SameChoice st x
same_beside st x e f g = grind arith

-- an agenda begins
pub on_agenda_begun : (k : Kind) (ms : List Member) (vs : List ℕ) (st x : State) (c : Course) → SameChoice st x → SameCourse x.course c → SameChoice st (followed true (begun k ms vs st.clock c) x)
on_agenda_begun k ms vs st x c h g = grind (arith, on_followed, on_begun)
