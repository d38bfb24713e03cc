-- Where the Cut step is the next one, every volume of the set is held and every participant stands frozen.
use Rattle.std.proofs.Common.{◌≡◌, ℕ, ◌==◌, List, [], ◌∷◌, Option, Some, refl, Bool, true, false, filter, ap, sym, subst, arith}
use Rattle.std.specs.Prelude.{◌&&◌, ◌||◌, not}
use Rattle.vss_model.proofs.Terms.{common_steps, nat_tests, list_any, and_parts, or_parts, Level, System, BackEnd, FrontEnd, PrepareSnapshot, Freeze, Thaw}
use Rattle.vss_model.proofs.Terms.{PostSnapshot, is_ok, Orders, PreCommit, Flush, Hold, Cut, Commit, Release, PostCommit, Kind, Snapshot, Member, Place, Agenda}
use Rattle.vss_model.proofs.Terms.{Entry, Open, plain, at_level, places, group_code, level_code, is_freeze, is_thaw, has_said, has_frozen, has_thawed}
use Rattle.vss_model.proofs.Terms.{writers_at, waited_for, with_group, left_from, open_group, is_among, is_snapshot, is_member, Plan, State, SetRow}
use Rattle.vss_model.proofs.Terms.{in_progress, left_now, is_held, is_frozen, Act, state, is_cut_group, holds, freezes}
use Rattle.vss_model.proofs.Orderly.{true_not_false}
use Rattle.vss_model.proofs.HeldOfSet.{IsOf, Tied, tied, is_refusal, is_undoing, is_cut_made, IsSound, sound}

-- ## what is closed at the cut

pub record IsAtCut (a : Agenda) : Type 0 where
  pub prepared : waited_for a (plain (Orders PrepareSnapshot)) ≡ []
  pub before : waited_for a (plain PreCommit) ≡ []
  pub flush : waited_for a (plain Flush) ≡ []
  pub front : waited_for a (at_level Freeze FrontEnd) ≡ []
  pub back : waited_for a (at_level Freeze BackEnd) ≡ []
  pub system : waited_for a (at_level Freeze System) ≡ []
  pub hold : waited_for a (plain Hold) ≡ []
  pub cut : is_cut_made a.log ≡ false

-- a group before the cut is closed
closed : (p : Place) (ws : List ℕ) (later : List Open) → is_cut_group (Some p.group) ≡ false → is_cut_group (open_group (with_group p ws later)) ≡ true → (ws ≡ []) × (is_cut_group (open_group later) ≡ true)
closed p ws later e h = grind arith

none_after : (a : Agenda) → is_cut_group (open_group (left_from a (plain Commit ∷ plain Release ∷ plain PostCommit ∷ at_level Thaw System ∷ at_level Thaw BackEnd ∷ at_level Thaw FrontEnd ∷ plain (Orders PostSnapshot) ∷ []))) ≡ false
none_after a = grind arith

abbrev pub cut_group : Open
cut_group = record { place = plain Cut; waits = 0 ∷ [] }

abbrev pub later_places : List Place
later_places = plain Commit ∷ plain Release ∷ plain PostCommit ∷ at_level Thaw System ∷ at_level Thaw BackEnd ∷ at_level Thaw FrontEnd ∷ plain (Orders PostSnapshot) ∷ []

pub cut_is_open : (a : Agenda) → IsAtCut a → left_from a (places Snapshot) ≡ cut_group ∷ left_from a later_places
cut_is_open a c = grind arith

-- ## held

-- where nobody is waited for, all have said something
pub all_said : (log : List Entry) (p : Place) (xs : List ℕ) (who : ℕ) → filter (λ x. not (has_said log p x)) xs ≡ [] → is_among who xs ≡ true → has_said log p who ≡ true
all_said log p [] who e f = absurd cc
all_said log p (x ∷ xs) who e f = grind (arith, all_said log p xs who)

-- one test follows from another, so where the other finds nothing, neither does it
none_found : (test wider : Entry → Bool) → ((x : Entry) → test x ≡ true → wider x ≡ true) → (log : List Entry) → list_any wider log ≡ false → list_any test log ≡ false
none_found test wider follows [] e = refl
none_found test wider follows (x ∷ log) e = head (test x) (wider x) (list_any test log) (list_any wider log) (follows x) e (none_found test wider follows log)
  where
    head : (a b c d : Bool) → (a ≡ true → b ≡ true) → (b || d) ≡ false → (d ≡ false → c ≡ false) → (a || c) ≡ false
    head true true c d f g h = absurd cc
    head true false c d f g h = absurd (true_not_false false (f refl) refl)
    head false true c d f g h = absurd cc
    head false false c d f g h = h g

undone_not : (log : List Entry) → IsSound log → is_cut_made log ≡ false → list_any is_undoing log ≡ false
undone_not log h e = grind (arith, common_steps, nat_tests)

pub and_three : (a b c : Bool) → a ≡ true → b ≡ true → c ≡ false → (a && b && not c) ≡ true
and_three a b c e f g = grind arith

-- nothing is said of a Release before the Cut step
pub release_not : (log : List Entry) (v : ℕ) → IsSound log → is_cut_made log ≡ false → has_said log (plain Release) v ≡ false
release_not log v h e = grind (arith, none_found, and_parts, undone_not)

held_in : (a : Agenda) (v : ℕ) → a.kind ≡ Snapshot → IsAtCut a → IsSound a.log → is_among v a.volumes ≡ true → holds (Some a) v ≡ true
held_in a v k c h e =
    and_three (is_snapshot a.kind) (has_said a.log (plain Hold) v) (has_said a.log (plain Release) v)
    (ap is_snapshot k)
    (all_said a.log (plain Hold) a.volumes v c.hold e)
    (release_not a.log v h c.cut)

-- ## frozen

-- what was said at Freeze was ok
ok_head : (coded level freeze ok who more said : Bool) → (coded ≡ true → freeze ≡ true) → (freeze && not ok) ≡ false → (((coded && level) && who) || said) ≡ true → (said ≡ true → more ≡ true) → ((freeze && ok && who) || more) ≡ true
ok_head coded level freeze ok who more said f e g ih = grind arith

said_is_ok : (log : List Entry) (l : Level) (w : ℕ) → list_any is_refusal log ≡ false → has_said log (at_level Freeze l) w ≡ true → has_frozen log w ≡ true
said_is_ok [] l w e f = absurd cc
said_is_ok (x ∷ log) l w e f =
    let parts = or_parts (is_refusal x) (list_any is_refusal log) e in
    ok_head (group_code x.place.group == 3) (level_code x.place.level == level_code (Some l)) (is_freeze x.place.group) (is_ok x.said) (x.who == w) (has_frozen log w) (has_said log (at_level Freeze l) w)
    (λ y. grind arith) parts.0 f (said_is_ok log l w parts.1)

-- what holds of the writers of each level holds of all
member_of_level : (log : List Entry) (ms : List Member) (w : ℕ) → ((l : Level) → is_among w (writers_at ms (Some l)) ≡ true → has_frozen log w ≡ true) → is_member ms w ≡ true → has_frozen log w ≡ true
member_of_level log [] w each e = absurd cc
member_of_level log (m ∷ ms) w each e =
    by_cases (m.writer == w) refl e (λ g. member_of_level log ms w (λ l h. each l (grind arith)) g)
  where
    by_cases : (b : Bool) → (m.writer == w) ≡ b → (b || is_member ms w) ≡ true → (is_member ms w ≡ true → has_frozen log w ≡ true) → has_frozen log w ≡ true
    by_cases true f g more = each m.level (grind (arith, common_steps))
    by_cases false f g more = more g

frozen_at : (a : Agenda) (w : ℕ) → IsAtCut a → IsSound a.log → (l : Level) → is_among w (writers_at a.members (Some l)) ≡ true → has_frozen a.log w ≡ true
frozen_at a w c h System e = said_is_ok a.log System w h.freezes (all_said a.log (at_level Freeze System) (writers_at a.members (Some System)) w c.system e)
frozen_at a w c h BackEnd e = said_is_ok a.log BackEnd w h.freezes (all_said a.log (at_level Freeze BackEnd) (writers_at a.members (Some BackEnd)) w c.back e)
frozen_at a w c h FrontEnd e = said_is_ok a.log FrontEnd w h.freezes (all_said a.log (at_level Freeze FrontEnd) (writers_at a.members (Some FrontEnd)) w c.front e)

frozen_in : (a : Agenda) (w : ℕ) → a.kind ≡ Snapshot → IsAtCut a → IsSound a.log → is_member a.members w ≡ true → freezes (Some a) w ≡ true
frozen_in a w k c h e =
    and_three (is_snapshot a.kind) (has_frozen a.log w) (has_thawed a.log w)
    (ap is_snapshot k)
    (member_of_level a.log a.members w (frozen_at a w c h) e)
    (none_found (λ (x : Entry). is_thaw x.place.group && (x.who == w)) is_undoing
    (λ x g. grind (arith, (and_parts (is_thaw x.place.group) (x.who == w) g).0))
    a.log (undone_not a.log h c.cut))

-- ## in the state

-- the running agenda at its cut
pub record CutsNow (st : State) : Type 0 where
  pub agenda : Agenda
  pub runs : st.course.agenda ≡ Some agenda
  pub kind : agenda.kind ≡ Snapshot
  pub at : IsAtCut agenda
  pub log : IsSound agenda.log
  pub of_set : Tied (Some agenda) st.course.members (in_progress st)

pub cuts : (s : Plan) (acts : List Act) → is_cut_group (open_group (left_now (state s acts))) ≡ true → CutsNow (state s acts)
cuts s acts h = grind (arith, common_steps, nat_tests, closed, none_after, sound s acts, tied s acts)

pub tied_to : (a : Agenda) (k : Kind) (ms : List Member) (o : Option SetRow) (r : SetRow) → k ≡ Snapshot → o ≡ Some r → IsOf k a.volumes a.members ms o → (a.volumes ≡ r.volumes) × (a.members ≡ ms)
tied_to a k ms o r e f h = grind arith

-- a running snapshot's volumes are those of the set in progress
pub tied_snapshot : (a : Agenda) (r : SetRow) (ms : List Member) → is_snapshot a.kind ≡ true → Tied (Some a) ms (Some r) → a.volumes ≡ r.volumes
tied_snapshot a r ms e t = by_kind a.kind e t where
  by_kind : (k : Kind) → is_snapshot k ≡ true → IsOf k a.volumes a.members ms (Some r) → a.volumes ≡ r.volumes
  by_kind k e t = grind arith

pub held_at_cut : (s : Plan) (acts : List Act) (r : SetRow) (v : ℕ) → is_cut_group (open_group (left_now (state s acts))) ≡ true → in_progress (state s acts) ≡ Some r → is_among v r.volumes ≡ true → is_held (state s acts) v ≡ true
held_at_cut s acts r v h e f =
    let st = state s acts in
    let c = cuts s acts h in
    let t = tied_to c.agenda c.agenda.kind st.course.members (in_progress st) r c.kind e c.of_set in
    let H : Option Agenda → Type 0 = λ x. holds x v ≡ true in
    let V : List ℕ → Type 0 = λ x. is_among v x ≡ true in
    subst H (sym c.runs) (held_in c.agenda v c.kind c.at c.log (subst V (sym t.0) f))

pub frozen_at_cut : (s : Plan) (acts : List Act) (r : SetRow) (w : ℕ) → is_cut_group (open_group (left_now (state s acts))) ≡ true → in_progress (state s acts) ≡ Some r → is_member (state s acts).course.members w ≡ true → is_frozen (state s acts) w ≡ true
frozen_at_cut s acts r w h e f =
    let st = state s acts in
    let c = cuts s acts h in
    let t = tied_to c.agenda c.agenda.kind st.course.members (in_progress st) r c.kind e c.of_set in
    let H : Option Agenda → Type 0 = λ x. freezes x w ≡ true in
    let M : List Member → Type 0 = λ x. is_member x w ≡ true in
    subst H (sym c.runs) (frozen_in c.agenda w c.kind c.at c.log (subst M (sym t.1) f))
