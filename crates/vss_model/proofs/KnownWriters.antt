-- The writers whose metadata the session has, and what it names: selectable components of these writers.
use Rattle.std.proofs.Common.{◌≡◌, ℕ, ◌+◌, zero, suc, List, [], ◌∷◌, Option, Some, None, refl, Bool, true, false, ap, sym, ◌∙◌, subst, arith}
use Rattle.std.specs.Prelude.{slice_get, ◌&&◌}
use Rattle.component_doc.proofs.Order.{over-more}
use Rattle.vss_model.proofs.CourseCalls.{now_orders}
use Rattle.vss_model.proofs.Spoken.{waits_members, among_filter, among_members}
use Rattle.vss_model.proofs.Terms.{nat_tests, common_steps, Order, Identify, PrepareBackup, BackupComplete, VssResult, Said, WriterRow, row_after}
use Rattle.vss_model.proofs.Terms.{Orders, Kind, Gather, Prepare, Snapshot, Complete, Place, Member, Agenda, Open, plain, places, order_of, is_orders}
use Rattle.vss_model.proofs.Terms.{waited_for, with_group, left_from, groups_left, open_place, is_among, order_now, waits_now, Course, rows_where}
use Rattle.vss_model.proofs.Terms.{is_member, posted, failed as course_failed, settled, told, answered as course_answered, worked}
use Rattle.vss_model.proofs.Terms.{stepped as course_stepped, timed as course_timed, is_identify_failure, has_failed_identify, IsAsked, IsKeptFrom}
use Rattle.vss_model.proofs.Terms.{from_answered, from_timed, IsKeptInCourse, course_answered as kept_answered, course_timed as kept_timed, list_all, Meta}
use Rattle.vss_model.proofs.Terms.{Pair, Names, naming, naming_of, naming_found, naming_if, has_pair, with_pair, found_in, found_of, names_selectable}
use Rattle.vss_model.proofs.Terms.{is_ascending, Plan, State, known_metas}

-- ## The writers whose metadata the session has do not change once they are gathered, and only they are asked to take part.

-- ## who has failed at Identify

abbrev pub is_unfit : List WriterRow → ℕ → Bool
is_unfit rows w = has_failed_identify (slice_get rows w)

-- the same writers have failed at Identify
abbrev pub AsFit : List WriterRow → List WriterRow → Type 0
AsFit rows new = (w : ℕ) → is_unfit new w ≡ is_unfit rows w

fit_where : (f : WriterRow → WriterRow) (test : ℕ → Bool) (k : ℕ) (rows : List WriterRow) (w : ℕ) → ((r : WriterRow) → test (k + w) ≡ true → is_identify_failure (f r).state ≡ has_failed_identify (slice_get rows w))
    → is_unfit (rows_where f test k rows) w ≡ is_unfit rows w
fit_where f test k [] zero g = refl
fit_where f test k [] (suc w) g = refl
fit_where f test k (r ∷ rows) zero g = grind (arith, common_steps)
fit_where f test k (r ∷ rows) (suc w) g = fit_where f test (k + 1) rows w (λ q e. g q (ap test (shift k w) ∙ e)) where
  shift : (a b : ℕ) → a + suc b ≡ (a + 1) + b
  shift a b = omega arith

-- a change of each row that keeps whether it has failed so
fit_each : (f : WriterRow → WriterRow) → ((r : WriterRow) → is_identify_failure (f r).state ≡ is_identify_failure r.state) → (test : ℕ → Bool) (k : ℕ) (rows : List WriterRow) → AsFit rows (rows_where f test k rows)
fit_each f same test k (r ∷ rows) (suc w) = fit_each f same test (k + 1) rows w
fit_each f same test k rows x5 = grind (arith, common_steps, nat_tests)

-- an order but Identify
abbrev pub is_later : Order → Bool
is_later Identify = false
is_later _ = true

-- ## who is asked

-- the orders that are given while an agenda of this kind runs
abbrev LaterNow : List Open → Type 0
LaterNow os = (o : Order) → order_now os ≡ Some o → is_later o ≡ true

abbrev pub is_gathering : Kind → Bool
is_gathering Gather = true
is_gathering _ = false

later_pass : (p : Place) (ws : List ℕ) (rest : List Open) → ((o : Order) → order_of p.group ≡ Some o → is_later o ≡ true) → LaterNow rest → LaterNow (with_group p ws rest)
later_pass p ws rest e h = grind arith

later_order : (x : Order) → is_later x ≡ true → (o : Order) → Some x ≡ Some o → is_later o ≡ true
later_order x e o f = let same : x ≡ o = cc in subst (λ y. is_later y ≡ true) same e

no_order : (o : Order) → None ≡ Some o → is_later o ≡ true
no_order o e = absurd cc

later_in : (k : Kind) (a : Agenda) → is_gathering k ≡ false → LaterNow (left_from a (places k))
later_in Gather a e = absurd cc
later_in Prepare a e = later_pass (plain (Orders PrepareBackup)) (waited_for a (plain (Orders PrepareBackup))) [] (later_order PrepareBackup refl) no_order
later_in Complete a e = later_pass (plain (Orders BackupComplete)) (waited_for a (plain (Orders BackupComplete))) [] (later_order BackupComplete refl) no_order
later_in Snapshot a e = grind (arith, common_steps, later_pass, later_order, no_order)

-- ## calls on an agenda that gathers no more

-- none of its members has failed at Identify
pub record AsksFit (a : Agenda) (rows : List WriterRow) : Type 0 where
  pub kind : is_gathering a.kind ≡ false
  pub fit : (w : ℕ) → is_member a.members w ≡ true → is_unfit rows w ≡ false

abbrev pub AsksFitIn : Option Agenda → List WriterRow → Type 0
AsksFitIn None rows = Unit {0}
AsksFitIn (Some a) rows = AsksFit a rows

waits_fit : (a : Agenda) (rows : List WriterRow) → AsksFit a rows → is_orders (open_place (groups_left a)).group ≡ true → (w : ℕ) → is_among w (waits_now (groups_left a)) ≡ true → is_unfit rows w ≡ false
waits_fit a rows h e w f = h.fit w (grind (arith, among_members, among_filter, waits_members a (places a.kind) w f))

-- what a call keeps: who is disabled, who takes part, and who has failed at Identify
pub record Keeps (c d : Course) : Type 0 where
  pub disabled : d.disabled ≡ c.disabled
  pub members : d.members ≡ c.members
  pub fit : AsFit c.rows d.rows

keeps_told : (o : Order) (said : Said) (now : ℕ) (ws : List ℕ) (c : Course) → is_later o ≡ true → ((w : ℕ) → is_among w ws ≡ true → is_unfit c.rows w ≡ false) → Keeps c (told o said now ws c)
unfolding told
keeps_told o said now ws c e fit = record {
  disabled = refl;
  members = refl;
  fit = λ w. fit_where (row_after o said) (λ x. is_among x ws) 0 c.rows w
      (λ r f. (grind arith) ∙ sym (fit w (subst (λ x. is_among x ws ≡ true) (zero_plus w) f)));
} where
  zero_plus : (a : ℕ) → 0 + a ≡ a
  zero_plus a = omega arith

pub keeps_failed : (why : VssResult) (c : Course) → Keeps c (course_failed why c)
unfolding course_failed
keeps_failed why c = grind (arith, common_steps, nat_tests, fit_each)

pub keeps_settled : (c : Course) → Keeps c (settled c)
unfolding settled
keeps_settled c = grind (arith, common_steps, nat_tests)

pub keeps_posted : (before c d : Course) → Keeps c d → Keeps c (posted before d)
unfolding posted
keeps_posted before c d h = record { disabled = h.disabled; members = h.members; fit = h.fit }

keeps_worked : (now : ℕ) (c : Course) → Keeps c (worked now c)
unfolding worked
keeps_worked now c = record { disabled = refl; members = refl; fit = λ w. refl }

keeps_asked : (o : Order) (said : Said) (now : ℕ) (ws : List ℕ) (x : Option Agenda) (c : Course) → c.agenda ≡ x → AsksFitIn x c.rows → IsAsked o ws c → Keeps c (told o said now ws c)
keeps_asked o said now ws x c e h asked = grind (arith, no_order, keeps_told, later_in, waits_fit, now_orders)

keeps_calls : (c : Course) → AsksFitIn c.agenda c.rows → IsKeptFrom (Keeps c) c
keeps_calls c h = record {
  stays = record { disabled = refl; members = refl; fit = λ w. refl };
  posts = λ before d g. keeps_posted before c d g;
  says = λ o said now ws asked. keeps_asked o said now ws c.agenda c refl h asked;
  works = λ now. keeps_worked now c;
  fails = λ why d e g. grind (arith, common_steps, nat_tests, keeps_failed why d);
  closes = λ a d e f g. record { disabled = g.disabled; members = g.members; fit = g.fit };
}

pub keeps_answered : (w : ℕ) (said : Said) (now : ℕ) (c : Course) → AsksFitIn c.agenda c.rows → Keeps c (course_answered w said now c)
keeps_answered w said now c h = from_answered (Keeps c) c (keeps_calls c h) w said now

pub keeps_timed : (now : ℕ) (c : Course) → AsksFitIn c.agenda c.rows → Keeps c (course_timed now c)
keeps_timed now c h = from_timed (Keeps c) c (keeps_calls c h) now

pub keeps_stepped : (ok : Bool) (now : ℕ) (c : Course) → Keeps c (course_stepped ok now c)
keeps_stepped ok now c = grind (arith, keeps_posted, keeps_worked, keeps_settled, keeps_failed, common_steps, nat_tests)

-- ## the participants stay, whoever is asked

members_kept : (ms : List Member) → IsKeptInCourse (λ c. c.members ≡ ms)
unfolding posted told worked course_failed
members_kept ms = record { posts = λ before c h. h; says = λ o said now ws c h. h; works = λ now c h. h; fails = λ why c h. h; closes = λ k c h. h }

pub members_answered : (w : ℕ) (said : Said) (now : ℕ) (c : Course) → (course_answered w said now c).members ≡ c.members
members_answered w said now c = kept_answered (λ d. d.members ≡ c.members) (members_kept c.members) w said now c refl

pub members_timed : (now : ℕ) (c : Course) → (course_timed now c).members ≡ c.members
members_timed now c = kept_timed (λ d. d.members ≡ c.members) (members_kept c.members) now c refl

-- ## What a session names are selectable components of writers that it knows.

-- ## who is known

pub known_same : (s : Plan) (st x : State) → x.course.disabled ≡ st.course.disabled → AsFit st.course.rows x.course.rows → known_metas s x ≡ known_metas s st
known_same s st x e f = grind (arith, common_steps, nat_tests)

-- ## what is named

abbrev pub AreOver : List (Option Meta) → List Pair → Type 0
AreOver ms ps = (list_all (names_selectable ms) ps && is_ascending ps) ≡ true

named_if : (ms : List (Option Meta)) (q : Pair) (ps new : List Pair) (a b : Bool) → naming_if a b q ps ≡ Names new → (a ≡ true → b ≡ false → AreOver ms (with_pair q ps)) → AreOver ms new
named_if ms q ps new a b i over = grind arith

named_of : (ms : List (Option Meta)) (w : ℕ) (name : List ℕ) (o : Option (Option Meta)) (ps new : List Pair) → slice_get ms w ≡ o → naming_of w name o ps ≡ Names new → AreOver ms ps → AreOver ms new
named_of ms w name None ps new e i over = absurd cc
named_of ms w name (Some None) ps new e i over = absurd cc
named_of ms w name (Some (Some m)) ps new e i over =
    (elim (found_in name m.parts) as (λ x. found_of name (slice_get ms w) ≡ x → naming_found w x ps ≡ Names new → AreOver ms new) [
      | None ↦ λ f g. absurd cc
      | Some x ↦ λ f g. named_if ms (record { writer = w; component = x.component }) ps new x.selectable (has_pair ps w x.component) g (λ a b. over-more ms name (record { writer = w; component = x.component }) x ps (sym f) refl a b over)
    ]) (ap (found_of name) e) i

pub named_over : (ms : List (Option Meta)) (w : ℕ) (name : List ℕ) (ps new : List Pair) → naming ms w name ps ≡ Names new → AreOver ms ps → AreOver ms new
named_over ms w name ps new i over = named_of ms w name (slice_get ms w) ps new refl i over
