-- Limits that are not spent, and one more that is said: it leaves no limit outrun.
use Rattle.std.proofs.Common.{◌≡◌, ◌∙◌, ℕ, ◌≤◌, List, [], ◌∷◌, ◌++◌, Option, Some, None, refl, Bool, true, false, arith, ◌==◌, ap, sym, subst, map, filter}
use Rattle.std.specs.Prelude.{not, if◌then◌else◌, ◌&&◌}
use Rattle.set_agenda.specs.declared.limit.Limit.TheVariants.{Hold as HoldLimit, Freeze as FreezeLimit}
use Rattle.promises.proofs.Orders.{same_group}
use Rattle.promises.proofs.OpenGroup.{every, in_kind, IsOpen, IsSome, speaks_some, speaks_open, last_new, none_new, filter_along, has_hold, hold_there}
use Rattle.promises.proofs.OpenGroup.{hold_stays, hold_new, new_hold}
use Rattle.promises.proofs.Speaks.{Speaks}
use Rattle.promises.proofs.Stages.{group_stage, open_stage, closed_stays, goes_up, snapshot_from}
use Rattle.promises.proofs.Members.{chain, not_itself}
use Rattle.promises.proofs.Words.{Level, Order, PrepareBackup, PrepareSnapshot, Freeze, hold_limit, is_spent, Group, Orders, Limit, Running as RunningLimit}
use Rattle.promises.proofs.Words.{is_prepare_snapshot, is_hold, hold_runs, freeze_runs, runs_if, hold_running, spent_of, is_decisive, later_found}
use Rattle.promises.proofs.Words.{list_any-append, Said, answer_limit, Kind, Gather, Prepare, Snapshot, Complete, Place, Agenda, Entry, Open, places}
use Rattle.promises.proofs.Words.{group_code, level_code, same_place, left_from, groups_left, open_place, at_place, all_say, last_time, opened_at}
use Rattle.promises.proofs.Words.{freeze_opened_at, first_hold, answer_runs, running_at, and_parts, Answer as AnswerLimit, number_is}

-- ## Limits that are not spent, and the stages in which they run.

-- ## limits that are not spent

pub at_once : (now since limit : ℕ) → since ≡ now → is_spent now since limit ≡ false
at_once now since limit e = grind arith

pub none_both : (now : ℕ) (xs ys : List RunningLimit) → spent_of now xs ≡ None → spent_of now ys ≡ None → spent_of now (xs ++ ys) ≡ None
none_both now xs ys e f = later_found now xs ys e ∙ f

pub none_first : (now : ℕ) (xs ys : List RunningLimit) → spent_of now (xs ++ ys) ≡ None → spent_of now xs ≡ None
none_first now [] ys e = refl
none_first now (x ∷ xs) ys e = grind (arith, none_first now xs ys)

pub none_second : (now : ℕ) (xs ys : List RunningLimit) → spent_of now (xs ++ ys) ≡ None → spent_of now ys ≡ None
none_second now [] ys e = e
none_second now (x ∷ xs) ys e = grind (arith, none_second now xs ys)

pub unspent_if : (b : Bool) (x : Limit) (since ticks now : ℕ) → (b ≡ true → is_spent now since ticks ≡ false) → spent_of now (runs_if b x since ticks) ≡ None
unspent_if b x since ticks now h = grind arith

pub is_unspent : (b : Bool) (x : Limit) (since ticks now : ℕ) → spent_of now (runs_if b x since ticks) ≡ None → b ≡ true → is_spent now since ticks ≡ false
is_unspent b x since ticks now e f = grind arith

pub unspent_hold : (now : ℕ) (g : Group) (o : Option ℕ) → ((since : ℕ) → o ≡ Some since → hold_runs g ≡ true → is_spent now since hold_limit ≡ false) → spent_of now (hold_running g o) ≡ None
unspent_hold now g o h = grind arith

-- ## groups

-- a limit of these loses the writers, and the set goes on
abbrev pub is_mild : Group → Bool
is_mild (Orders PrepareBackup) = false
is_mild (Orders PrepareSnapshot) = false
is_mild (Orders Freeze) = false
is_mild (Orders _) = true
is_mild _ = false

pub mild_order : (o : Order) → is_decisive o ≡ false → is_mild (Orders o) ≡ true
mild_order o e = grind arith

-- ## stages

pub hold_six : (g : Group) (l : Option Level) → is_hold g ≡ true → 6 ≤ group_stage g l
hold_six g l e = grind arith

pub hold_between : (g : Group) (l : Option Level) → 6 ≤ group_stage g l → group_stage g l ≤ 9 → hold_runs g ≡ true
hold_between g l h i = grind arith

pub freeze_between : (g : Group) (l : Option Level) → is_prepare_snapshot g ≡ false → group_stage g l ≤ 10 → freeze_runs g ≡ true
freeze_between g l h i = grind arith

pub mild_high : (g : Group) (l : Option Level) → is_mild g ≡ true → 11 ≤ group_stage g l
mild_high g l e = grind arith

abbrev pub is_backup_order : Group → Bool
is_backup_order (Orders PrepareBackup) = true
is_backup_order _ = false

-- ## One more is said: it leaves no limit outrun.

-- ## one more is said

abbrev pub Ordered : Agenda → Type 0
Ordered a = a.kind ≡ Snapshot → has_hold a.log ≡ true → 6 ≤ open_stage (groups_left a)

abbrev pub Unspent : ℕ → ℕ → Agenda → Type 0
Unspent now f a = spent_of now (running_at f a (groups_left a)) ≡ None

pub record InTime (now f : ℕ) (a : Agenda) : Type 0 where
  pub unspent : Unspent now f a
  pub ordered : Ordered a

module _ (now : ℕ) (said : Said) (ws : List ℕ) (a : Agenda) (who : Speaks a ws) (order : Ordered a) where
  abbrev pub more : Agenda
  more = all_say said now ws a

  abbrev pub p : Place
  p = open_place (groups_left a)

  abbrev pub one : IsSome ws
  one = speaks_some a ws who

  abbrev pub now_open : IsOpen (groups_left a)
  now_open = speaks_open a ws who

  abbrev pub shown : Open
  shown = now_open.first

  p_is : p ≡ shown.place
  p_is = ap open_place now_open.is

  snapshot_left : (x : Agenda) → x.kind ≡ Snapshot → groups_left x ≡ left_from x (places Snapshot)
  snapshot_left x e = ap (λ j. left_from x (places j)) e

  up : a.kind ≡ Snapshot → open_stage (groups_left a) ≤ open_stage (groups_left more)
  up k =
      let rises = goes_up a more 0 (places Snapshot) snapshot_from (closed_stays said now ws a) in
      subst (λ n. n ≤ open_stage (groups_left more)) (sym (ap open_stage (snapshot_left a k)))
      (subst (λ n. open_stage (left_from a (places Snapshot)) ≤ n) (sym (ap open_stage (snapshot_left more k))) rises)

  stage_is : open_stage (groups_left a) ≡ group_stage shown.place.group shown.place.level
  stage_is = ap open_stage now_open.is

  pub ordered_more : Ordered more
  ordered_more k e = grind (arith, list_any-append, chain, up, new_hold, hold_six, p_is, stage_is)

  -- a mild group is followed by mild ones alone
  pub mild_stays : (k : Kind) → a.kind ≡ k → is_mild p.group ≡ true → (x : Open) (xs : List Open) → groups_left more ≡ x ∷ xs → is_mild x.place.group ≡ true
  mild_stays Gather e m x xs g = in_kind (λ q. is_mild q.group) Gather more x xs e refl g
  mild_stays Complete e m x xs g = in_kind (λ q. is_mild q.group) Complete more x xs e refl g
  mild_stays Prepare e m x xs g = grind (arith, not_itself, p_is, in_kind)
  mild_stays Snapshot e m x xs g =
      let high = mild_high shown.place.group shown.place.level (ap (λ (q : Place). is_mild q.group) (sym p_is) ∙ m) in
      let higher = chain 11 (open_stage (groups_left a)) (open_stage (groups_left more)) (subst (λ n. 11 ≤ n) (sym stage_is) high) (up e) in
      grind (arith, in_kind (λ q. not (is_backup_order q.group)) Snapshot more x xs e refl g, subst (λ ys. 11 ≤ open_stage ys) g higher)

  module _ (f : ℕ) (old : Unspent now f a) (x : Open) (xs : List Open) (g : groups_left more ≡ x ∷ xs) where
    abbrev pub H : List RunningLimit
    H = hold_running shown.place.group (first_hold a.log)

    abbrev pub F : List RunningLimit
    F = runs_if (freeze_runs shown.place.group) FreezeLimit (freeze_opened_at a) f

    abbrev pub A : List RunningLimit
    A = runs_if (answer_runs shown.place.group) AnswerLimit (opened_at a shown) answer_limit

    pub before : spent_of now (H ++ F ++ A) ≡ None
    before = subst (λ os. spent_of now (running_at f a os) ≡ None) now_open.is old

    not_in : (test : Group → Bool) (k : Kind) → a.kind ≡ k → every (λ q. not (test q.group)) (places k) ≡ true → test x.place.group ≡ true → ⊥
    not_in test k e h i = not_itself (test x.place.group) i (in_kind (λ q. not (test q.group)) k more x xs e h g)

    holds_kind : (k : Kind) → a.kind ≡ k → hold_runs x.place.group ≡ true → k ≡ Snapshot
    holds_kind Gather e i = absurd (not_in hold_runs Gather e refl i)
    holds_kind Prepare e i = absurd (not_in hold_runs Prepare e refl i)
    holds_kind Snapshot e i = refl
    holds_kind Complete e i = absurd (not_in hold_runs Complete e refl i)

    freezes_kind : (k : Kind) → a.kind ≡ k → freeze_runs x.place.group ≡ true → k ≡ Snapshot
    freezes_kind Gather e i = absurd (not_in freeze_runs Gather e refl i)
    freezes_kind Prepare e i = absurd (not_in freeze_runs Prepare e refl i)
    freezes_kind Snapshot e i = refl
    freezes_kind Complete e i = absurd (not_in freeze_runs Complete e refl i)

    under : (n : ℕ) → a.kind ≡ Snapshot → group_stage x.place.group x.place.level ≤ n → group_stage shown.place.group shown.place.level ≤ n
    under n k h = grind (arith, stage_is, chain, up)

    hold_part : spent_of now (hold_running x.place.group (first_hold more.log)) ≡ None
    hold_part = unspent_hold now x.place.group (first_hold more.log) (λ since e i. by_old (first_hold a.log) refl since e i) where
      some_same : (t u : ℕ) → Some t ≡ Some u → u ≡ t
      some_same t u e = cc

      by_old : (b : Option ℕ) → first_hold a.log ≡ b → (since : ℕ) → first_hold more.log ≡ Some since → hold_runs x.place.group ≡ true → is_spent now since hold_limit ≡ false
      by_old None i since e j = at_once now since hold_limit (hold_new now p said ws a.log since i e)
      by_old (Some t) i since e j =
          let same = some_same t since (sym (hold_stays a.log (map (at_place p said now) ws) t i) ∙ e) in
          let k = holds_kind a.kind refl j in
          let six = subst (λ n. 6 ≤ n) stage_is (order k (hold_there a.log t i)) in
          let held = hold_between shown.place.group shown.place.level six (under 9 k (grind arith)) in
          let first = subst (λ b. spent_of now (hold_running shown.place.group b) ≡ None) i (none_first now H F (none_first now (H ++ F) A before)) in
          subst (λ n. is_spent now n hold_limit ≡ false) (sym same) (is_unspent (hold_runs shown.place.group) HoldLimit t hold_limit now first held)

    freeze_part : spent_of now (runs_if (freeze_runs x.place.group) FreezeLimit (freeze_opened_at more) f) ≡ None
    freeze_part = unspent_if (freeze_runs x.place.group) FreezeLimit (freeze_opened_at more) f now (λ i. by_prepare (is_prepare_snapshot p.group) refl i) where
      by_prepare : (b : Bool) → is_prepare_snapshot p.group ≡ b → freeze_runs x.place.group ≡ true → is_spent now (freeze_opened_at more) f ≡ false
      by_prepare true e i =
          at_once now (freeze_opened_at more) f
          (ap (λ us. last_time a.begun (filter (λ (y : Entry). is_prepare_snapshot y.place.group) (a.log ++ map (at_place p said now) us))) one.is
          ∙ last_new a.begun now (λ q. is_prepare_snapshot q.group) p said a.log one.first one.rest e)
      by_prepare false e i =
          let k = freezes_kind a.kind refl i in
          let frozen = freeze_between shown.place.group shown.place.level (ap (λ (q : Place). is_prepare_snapshot q.group) (sym p_is) ∙ e) (under 10 k (grind arith)) in
          let same : freeze_opened_at more ≡ freeze_opened_at a = ap (last_time a.begun) (none_new now (λ q. is_prepare_snapshot q.group) p said ws a.log e) in
          subst (λ n. is_spent now n f ≡ false) (sym same)
          (is_unspent (freeze_runs shown.place.group) FreezeLimit (freeze_opened_at a) f now
          (none_second now H F (none_first now (H ++ F) A before)) frozen)

    answer_part : spent_of now (runs_if (answer_runs x.place.group) AnswerLimit (opened_at more x) answer_limit) ≡ None
    answer_part = unspent_if (answer_runs x.place.group) AnswerLimit (opened_at more x) answer_limit now (λ i. by_place (same_place p x.place) refl i) where
      by_place : (b : Bool) → same_place p x.place ≡ b → answer_runs x.place.group ≡ true → is_spent now (opened_at more x) answer_limit ≡ false
      by_place false e i =
          at_once now (opened_at more x) answer_limit
          (ap (λ us. last_time a.begun (filter (λ (y : Entry). not (same_place y.place x.place)) (a.log ++ map (at_place p said now) us))) one.is
          ∙ last_new a.begun now (λ q. not (same_place q x.place)) p said a.log one.first one.rest (ap not e))
      by_place true e i =
          let codes = and_parts (group_code p.group == group_code x.place.group) (level_code p.level == level_code x.place.level) e in
          let groups : group_code x.place.group ≡ group_code p.group = sym (number_is (group_code p.group) (group_code x.place.group) codes.0) in
          let levels : level_code x.place.level ≡ level_code p.level = sym (number_is (level_code p.level) (level_code x.place.level) codes.1) in
          let as_p : (y : Entry) → not (same_place y.place x.place) ≡ not (same_place y.place p) = λ y.
          ap (λ n. not ((group_code y.place.group == n) && (level_code y.place.level == level_code x.place.level))) groups
          ∙ ap (λ n. not ((group_code y.place.group == group_code p.group) && (level_code y.place.level == n))) levels in
          let same : opened_at more x ≡ opened_at a shown =
          ap (last_time a.begun)
          (none_new now (λ q. not (same_place q x.place)) p said ws a.log (ap not e)
          ∙ filter_along (λ y. not (same_place y.place x.place)) (λ y. not (same_place y.place p)) as_p a.log)
          ∙ ap (λ (q : Place). last_time a.begun (filter (λ (y : Entry). not (same_place y.place q)) a.log)) p_is in
          let asks : answer_runs shown.place.group ≡ true = ap (λ (q : Place). answer_runs q.group) (sym p_is) ∙ ap answer_runs (same_group p.group x.place.group codes.0) ∙ i in
          subst (λ n. is_spent now n answer_limit ≡ false) (sym same)
          (is_unspent (answer_runs shown.place.group) AnswerLimit (opened_at a shown) answer_limit now (none_second now (H ++ F) A before) asks)

    parts : spent_of now (running_at f more (x ∷ xs)) ≡ None
    parts = grind (arith, none_both, hold_part, freeze_part, answer_part)

  unspent_at : (f : ℕ) → Unspent now f a → (os : List Open) → groups_left more ≡ os → spent_of now (running_at f more os) ≡ None
  unspent_at f old os g = grind (arith, parts)

  pub said_in_time : (f : ℕ) → Unspent now f a → InTime now f more
  said_in_time f old = record { unspent = unspent_at f old (groups_left more) refl; ordered = ordered_more }
