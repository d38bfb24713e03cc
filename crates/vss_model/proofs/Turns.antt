-- How few turns there can be: no more than 64 writers or volumes, and each answer, step and idle stretch leaves fewer to be waited for.
use Rattle.std.proofs.Common.{◌≡◌, ℕ, suc, ◌+◌, ◌≤◌, List, [], ◌∷◌, ◌++◌, Option, Some, None, refl, Bool, true, false, ap, sym, subst, map, length, arith}
use Rattle.std.proofs.Common.{◌==◌, ◌<◌, ◌∙◌, filter}
use Rattle.std.specs.Prelude.{if◌then◌else◌, find, option_map, is_some, ◌||◌, not}
use Rattle.set_agenda.proofs.GroupsLeft.{groups_left-all_say}
use Rattle.vss_model.proofs.Changes.{Comes, by_all_changes}
use Rattle.vss_model.proofs.Rules.{IsKeptByCalls, of_course}
use Rattle.vss_model.proofs.Orderly.{find-map, find-settled_over}
use Rattle.vss_model.proofs.StateForm.{later}
use Rattle.vss_model.proofs.Terms.{length-map, common_steps, Context, Order, VssResult, Said, WriterRow, row_aborted, row_gathered, row_ended, Mark, Course}
use Rattle.vss_model.proofs.Terms.{posted, failed as course_failed, told, worked, released, rows_where, members_from, is_member, IsPlan, Plan, State, SetRow}
use Rattle.vss_model.proofs.Terms.{start, in_progress, is_running, row_changed, new_set, with_volume, add_refusal, row_cut, Act, state, Event, Change, apply}
use Rattle.vss_model.proofs.Terms.{nat_tests, eqb-true, System, BackEnd, FrontEnd, Ok, is_ok, Kind, Member, Place, Agenda, Open, all_say, with_group}
use Rattle.vss_model.proofs.Terms.{writers_at, is_at, members_of, left_from, groups_left, left, order_now, is_among, open_order, is_asking, is_working}
use Rattle.vss_model.proofs.Terms.{next_member, waits_now, advance, unasked, spent_of, settled, begun, answered as course_answered}
use Rattle.vss_model.proofs.Terms.{stepped as course_stepped, limits_now, lost_to, treated, timed as course_timed, waiting}
use Rattle.vss_model.proofs.Terms.{RunningLimit as Running}
use Rattle.vss_model.proofs.Waiting.{WaitsWell, waits-left_from}

-- ## Nowhere are there more than 64 writers, or more than 64 volumes in the set in progress.

-- ## writers

pub record FewWriters (c : Course) : Type 0 where
  pub rows : length c.rows ≤ 64
  pub members : length c.members ≤ 64

pub length-rows_where : (f : WriterRow → WriterRow) (test : ℕ → Bool) (w : ℕ) (rows : List WriterRow) → length (rows_where f test w rows) ≡ length rows
length-rows_where f test w [] = refl
length-rows_where f test w (r ∷ rs) = ap suc (length-rows_where f test (w + 1) rs)

pub short_members : (test : ℕ → Bool) (w : ℕ) (rows : List WriterRow) → length (members_from test w rows) ≤ length rows
short_members test w [] = omega arith
short_members test w (r ∷ rs) = let ih = short_members test (w + 1) rs in grind (arith, common_steps)

few_failed : (why : VssResult) (c : Course) → FewWriters c → FewWriters (course_failed why c)
unfolding course_failed
few_failed why c h = record { rows = subst (λ k. k ≤ 64) (sym (length-rows_where row_aborted (is_member c.members) 0 c.rows)) h.rows; members = h.members }

few_posted : (before c : Course) → FewWriters c → FewWriters (posted before c)
unfolding posted
few_posted before c h = record { rows = h.rows; members = h.members }

few_told : (o : Order) (said : Said) (now : ℕ) (ws : List ℕ) (c : Course) → FewWriters c → FewWriters (told o said now ws c)
unfolding told
few_told o said now ws c h = grind (arith, length-rows_where)

few_worked : (now : ℕ) (c : Course) → FewWriters c → FewWriters (worked now c)
unfolding worked
few_worked now c h = record { rows = h.rows; members = h.members }

few_released : (c : Course) → FewWriters c → FewWriters (released c)
unfolding released
few_released c h = record { rows = subst (λ k. k ≤ 64) (sym (length-map c.rows row_ended)) h.rows; members = omega arith }

-- ## the set in progress

abbrev pub FewVolumes : Option SetRow → Type 0
FewVolumes None = Unit {0}
FewVolumes (Some r) = length r.volumes ≤ 64

abbrev running_in : List SetRow → Option SetRow
running_in rows = find (λ r. is_running r.result) rows

-- a change of the row of one set that keeps its result
same_changed : (n : ℕ) (f : SetRow → SetRow) → ((r : SetRow) → (f r).result ≡ r.result) → (r : SetRow) → is_running (row_changed n f r).result ≡ is_running r.result
same_changed n f same r = grind arith

pub volumes_cut : (n now : ℕ) (r : SetRow) → (row_cut n now r).volumes ≡ r.volumes
volumes_cut n now r = grind arith

few_started : (rows : List SetRow) (n : ℕ) (c : Context) → FewVolumes (running_in rows) → FewVolumes (running_in (rows ++ new_set n c ∷ []))
few_started [] n c h = omega arith
few_started (r ∷ rows) n c h = own (is_running r.result) (few_started rows n c) h where
  own : (b : Bool) → (FewVolumes (running_in rows) → FewVolumes (running_in (rows ++ new_set n c ∷ []))) → FewVolumes (if b then Some r else running_in rows) → FewVolumes (if b then Some r else running_in (rows ++ new_set n c ∷ []))
  own true later g = g
  own false later g = later g

few_added : (v : ℕ) (r : SetRow) (st : State) → in_progress st ≡ Some r → add_refusal v r st ≡ None → FewVolumes (running_in (map (row_changed r.number (with_volume v)) st.sets))
few_added v r st e f = grind (arith, common_steps, find-map, same_changed)

-- ## both, in every state

pub record IsFew (st : State) : Type 0 where
  pub writers : FewWriters st.course
  pub volumes : FewVolumes (in_progress st)

few_calls : IsKeptByCalls FewWriters
few_calls = record {
  within = record {
    posts = few_posted;
    says = few_told;
    works = few_worked;
    fails = few_failed;
    closes = λ k c h.
        record { rows = h.rows; members = h.members };
  };
  begins = λ k ms vs now c h. record { rows = h.rows; members = h.members };
  gathers = λ c h. record { rows = subst (λ k. k ≤ 64) (sym (length-map c.rows row_gathered)) h.rows; members = h.members };
  takes = λ test c h. let e = short_members test 0 c.rows in let g = h.rows in record { rows = h.rows; members = omega arith };
  disables = λ w c h. record { rows = h.rows; members = h.members };
  releases = few_released;
}

few_change : (s : Plan) (e : Event) (m : Mark) (st : State) (c : Change) (x : State) → Comes s e m st x c → FewVolumes (in_progress x) → FewVolumes (in_progress (apply x c))
few_change s e m st c x i h = grind (arith, common_steps, few_started, few_added, find-map, same_changed, volumes_cut, find-settled_over, nat_tests)

pub few_in : (s : Plan) (acts : List Act) → IsPlan s → IsFew (state s acts)
few_in s acts h = record {
  writers = of_course FewWriters few_calls s acts (grind (arith, length-map));
  volumes = by_all_changes
      (λ x. FewVolumes (in_progress x)) s (few_change s) (start s) acts tt;
}

-- ## Each answer, each step of the provider and each idle stretch leaves fewer to be waited for, and no line but those that
-- begin an agenda leaves more.

-- ## lists

pub short_filter : {X : Type 0} (p : X → Bool) (xs : List X) → length (filter p xs) ≤ length xs
short_filter p [] = omega arith
short_filter p (x ∷ xs) = let ih = short_filter p xs in grind (arith, common_steps)

-- a filter that lets one go is shorter
filter_lets_go : (p : ℕ → Bool) (x : ℕ) (xs : List ℕ) → is_among x xs ≡ true → p x ≡ false → length (filter p xs) < length xs
filter_lets_go p x [] e f = absurd cc
filter_lets_go p x (y ∷ ys) e f = at (y == x) refl (filter_lets_go p x ys) where
  first : (b : Bool) → b ≡ false → length (if b then y ∷ filter p ys else filter p ys) < length (y ∷ ys)
  first true g = absurd cc
  first false g = let h = short_filter p ys in omega arith

  rest : (b : Bool) → length (filter p ys) < length ys → length (if b then y ∷ filter p ys else filter p ys) < length (y ∷ ys)
  rest true g = omega arith
  rest false g = omega arith

  at : (b : Bool) → (y == x) ≡ b → (is_among x ys ≡ true → p x ≡ false → length (filter p ys) < length ys) → length (filter p (y ∷ ys)) < length (y ∷ ys)
  at true g later = first (p y) (ap p (eqb-true y x g) ∙ f)
  at false g later = rest (p y) (later (subst (λ b. (b || is_among x ys) ≡ true) g e) f)

-- ## groups

waiting-with_group : (p : Place) (ws : List ℕ) (os : List Open) → waiting (with_group p ws os) ≡ length ws + waiting os
waiting-with_group p ws os = grind arith

waiting-unasked : (whos : List ℕ) (os : List Open) → waiting (unasked whos os) ≤ waiting os
waiting-unasked whos [] = omega arith
waiting-unasked whos (o ∷ os) = let ih = waiting-unasked whos os in grind (arith, common_steps, waiting-with_group, short_filter)

-- somebody of these is waited for in the open group
abbrev IsHeard : List ℕ → List Open → Type 0
IsHeard whos [] = ⊥
IsHeard whos (o ∷ os) = (x : ℕ) × (is_among x o.waits ≡ true) × (is_among x whos ≡ true)

waiting-advance : (whos : List ℕ) (f : Bool) (os : List Open) → IsHeard whos os → waiting (advance whos f os) < waiting os
waiting-advance whos f os h = grind (arith, common_steps, waiting-with_group, filter_lets_go, waiting-unasked)

-- ## courses

abbrev pub waits_in : Course → ℕ
waits_in c = waiting (left c.agenda)

same_posted : (before c : Course) → waits_in (posted before c) ≡ waits_in c
unfolding posted
same_posted before c = refl

pub none_failed : (why : VssResult) (c : Course) → waits_in (course_failed why c) ≡ 0
unfolding course_failed
none_failed why c = refl

less_settled : (c : Course) → waits_in (settled c) ≤ waits_in c
unfolding settled
less_settled c = grind (arith, common_steps, nat_tests)

waiting_said : (said : Said) (now : ℕ) (whos : List ℕ) (o : Option Agenda) → IsHeard whos (left o) → waiting (left (option_map (all_say said now whos) o)) < waiting (left o)
waiting_said said now whos None h = absurd h
waiting_said said now whos (Some a) h =
    subst (λ os. waiting os < waiting (groups_left a)) (sym (groups_left-all_say said now whos a)) (waiting-advance whos (not (is_ok said)) (groups_left a) h)

less_told : (o : Order) (said : Said) (now : ℕ) (whos : List ℕ) (c : Course) → IsHeard whos (left c.agenda) → waits_in (told o said now whos c) < waits_in c
unfolding told
less_told o said now whos c h = waiting_said said now whos c.agenda h

less_worked : (now : ℕ) (c : Course) → IsHeard (next_member (left c.agenda) ∷ []) (left c.agenda) → waits_in (worked now c) < waits_in c
unfolding worked
less_worked now c h = waiting_said Ok now (next_member (left c.agenda) ∷ []) c.agenda h

-- ## the provider's step

waits_well : (o : Option Agenda) → WaitsWell (left o)
waits_well o = grind (arith, waits-left_from)

pub less_stepped : (ok : Bool) (now : ℕ) (c : Course) → is_working (left c.agenda) ≡ true → waits_in (course_stepped ok now c) < waits_in c
less_stepped ok now c e = grind (arith, common_steps, same_posted, waits_well, less_settled, less_worked, none_failed)

-- ## an answer

pub less_answered : (w : ℕ) (said : Said) (now : ℕ) (c : Course) → is_some (open_order (left c.agenda) w) ≡ true → waits_in (course_answered w said now c) < waits_in c
less_answered w said now c e = grind (arith, common_steps, same_posted, less_told, none_failed, less_settled)

-- ## time

-- what is lost is heard of; and where nobody is asked nothing is lost
less_lost_to : (o : Option Order) (now : ℕ) (c : Course) → is_some o ≡ true → IsHeard (waits_now (left c.agenda)) (left c.agenda) → waits_in (lost_to o now c) < waits_in c
less_lost_to o now c e h = grind (arith, less_told)

not_more_lost : (o : Option Order) (now : ℕ) (c : Course) → order_now (left c.agenda) ≡ o → waits_in (lost_to o now c) ≤ waits_in c
not_more_lost o now c e = grind (arith, common_steps, less_told, waits_well)

not_more_treated : (l : Option Running) (now : ℕ) (c : Course) → waits_in (treated l now c) ≤ waits_in c
not_more_treated l now c = grind (arith, common_steps, none_failed, not_more_lost, less_settled)

less_treated : (l : Option Running) (now : ℕ) (c : Course) → is_some l ≡ true → is_asking (left c.agenda) ≡ true → waits_in (treated l now c) < waits_in c
less_treated l now c e f =
    grind (arith, common_steps, waits_well, none_failed, less_lost_to, nat_tests, less_settled)

pub not_more_timed : (now : ℕ) (c : Course) → waits_in (course_timed now c) ≤ waits_in c
not_more_timed now c = grind (arith, same_posted, not_more_treated)

pub less_timed : (now : ℕ) (c : Course) → is_some (spent_of now (limits_now c)) ≡ true → is_asking (left c.agenda) ≡ true → waits_in (course_timed now c) < waits_in c
less_timed now c e f = grind (arith, same_posted, less_treated)

-- ## an agenda as it begins

-- how many members the groups at these places have
abbrev members_at : Agenda → List Place → ℕ
members_at a [] = 0
members_at a (p ∷ ps) = length (members_of a p.group p.level) + members_at a ps

waiting-left_from : (a : Agenda) (ps : List Place) → waiting (left_from a ps) ≤ members_at a ps
waiting-left_from a [] = omega arith
waiting-left_from a (p ∷ ps) = let ih = waiting-left_from a ps in grind (arith, common_steps, waiting-with_group, short_filter)

-- each member is of one level
three_levels : (ms : List Member) → length (filter (λ (m : Member). is_at (Some FrontEnd) m.level) ms) + length (filter (λ (m : Member). is_at (Some BackEnd) m.level) ms) + length (filter (λ (m : Member). is_at (Some System) m.level) ms) ≡ length ms
three_levels [] = refl
three_levels (m ∷ ms) = let ih = three_levels ms in grind (arith, common_steps)

levels_of : (ms : List Member) → length (writers_at ms (Some FrontEnd)) + length (writers_at ms (Some BackEnd)) + length (writers_at ms (Some System)) ≡ length ms
levels_of ms =
    let a = length-map (filter (λ (m : Member). is_at (Some FrontEnd) m.level) ms) (λ (m : Member). m.writer) in
    let b = length-map (filter (λ (m : Member). is_at (Some BackEnd) m.level) ms) (λ (m : Member). m.writer) in
    let d = length-map (filter (λ (m : Member). is_at (Some System) m.level) ms) (λ (m : Member). m.writer) in
    let e = three_levels ms in
    omega arith

pub few_begun : (k : Kind) (ms : List Member) (vs : List ℕ) (now : ℕ) (c : Course) → length ms ≤ 64 → length vs ≤ 64 → waits_in (begun k ms vs now c) ≤ 521
unfolding begun
few_begun k ms vs now c e f = grind (arith, common_steps, same_posted, less_settled, waiting-left_from, length-map, short_filter, levels_of)

pub none_released : (c : Course) → waits_in (released c) ≡ 0
unfolding released
none_released c = refl
