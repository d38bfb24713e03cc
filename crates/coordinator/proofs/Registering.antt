-- Writers that are registered and disabled, their names in order, and those that pass a test as members.
use Rattle.std.proofs.Common.{◌≡◌, ◌≢◌, ℕ, suc, ◌+◌, ◌<◌, ◌≤◌, List, [], ◌∷◌, ◌++◌, length, refl, Bool, true, false, ap, sym, ◌∙◌, arith, map, Vec, Global}
use Rattle.std.proofs.Common.{Some, None, cond, zero, drop, Option}
use Rattle.std.proofs.lemmas.Bool.{and_right}
use Rattle.std.proofs.lemmas.Bool.Decides.{nat_tests}
use Rattle.std.proofs.lemmas.Grind.{common_steps}
use Rattle.std.proofs.lemmas.Iterator.Adapters.{position_from-zero}
use Rattle.std.proofs.lemmas.List.{map-append}
use Rattle.std.specs.List.{position_from, list_any}
use Rattle.std.specs.Map.{keys_of}
use Rattle.std.specs.Prelude.{◌==◌, ◌&&◌, ◌||◌, position}
use Rattle.std.specs.Str.{bytes_eq}
use Rattle.indexmap.specs.IndexMap.{insert_entry}
use Rattle.vss_names.specs.declared.level.Level.{Level}
use Rattle.writer_state.specs.WriterState.{first_row}
use Rattle.writer_state.specs.declared.writer_row.WriterRow.{WriterRow}
use Rattle.set_agenda.specs.Agenda.{is_among}
use Rattle.set_agenda.specs.Course.{is_member, member_if, members_from, row_if, rows_where, Course}
use Rattle.set_agenda.specs.WriterSet.{writers}
use Rattle.set_agenda.proofs.GroupsLeft.{any-append}
use Rattle.set_agenda.proofs.WriterSets.{among-writers, or-false, writers-agree}
use Rattle.coordinator.specs.Coordinator.{Registered, place_of, registered, any_class, are_equal, class_at, is_disabled, named, registered_in}
use Rattle.coordinator.specs.KeptCourse.{changed, Follows, StandsFor}
use Rattle.coordinator.specs.declared.kept_course.KeptCourse.{KeptCourse}
use Rattle.coordinator.specs.declared.row_change.RowChange.{RowChange}

-- ## The writers that pass a test, as members.

-- ## who is a member

member-step : (t : ℕ → Bool) (i : ℕ) (r : WriterRow) (rs : List WriterRow) (w : ℕ) → is_member (members_from t i (r ∷ rs)) w ≡ ((t i && (i == w)) || is_member (members_from t (i + 1) rs) w)
member-step t i r rs w = grind arith

same_from : (a w : ℕ) → (a == w) ≡ true → a ≡ w
same_from a w e = grind (arith, nat_tests)

other_from : (a w : ℕ) → (a == w) ≡ false → a ≢ w
other_from a w e = grind (arith, nat_tests)

pub member-below : (t : ℕ → Bool) (i : ℕ) (rs : List WriterRow) (w : ℕ) → w < i → is_member (members_from t i rs) w ≡ false
member-below t i [] w h = refl
member-below t i (r ∷ rs) w h = let ih = member-below t (i + 1) rs w (omega arith) in grind (arith, common_steps, member-step, and_right)

here-step : (t : ℕ → Bool) (i w : ℕ) (d c : Bool) → (i == w) ≡ c → ((i == w) ≡ true → d ≡ false) → ((i == w) ≡ false → d ≡ t w) → ((t i && c) || d) ≡ t w
here-step t i w d c e f g = grind arith

-- a writer is a member where it passes
pub member-here : (t : ℕ → Bool) (i : ℕ) (rs : List WriterRow) (w : ℕ) → i ≤ w → w < i + length rs → is_member (members_from t i rs) w ≡ t w
member-here t i [] w h l = absurd (omega arith)
member-here t i (r ∷ rs) w h l =
    member-step t i r rs w
    ∙ here-step t i w (is_member (members_from t (i + 1) rs) w) (i == w) refl
    (λ e. member-below t (i + 1) rs w (let s : i ≡ w = same_from i w e in omega (arith, s)))
    (λ e. member-here t (i + 1) rs w (let s : i ≢ w = other_from i w e in omega (arith, s)) (omega arith))

-- ## what members depend on

member_if-level : (b : Bool) (i : ℕ) (q r : WriterRow) → q.level ≡ r.level → member_if b i q ≡ member_if b i r
member_if-level b i q r e = grind arith

row_if-level : (b : Bool) (f : WriterRow → WriterRow) (r : WriterRow) → (f r).level ≡ r.level → (row_if b f r).level ≡ r.level
row_if-level b f r e = grind arith

-- no change is one of the level
pub changed-level : (h : RowChange) (r : WriterRow) → (changed h r).level ≡ r.level
changed-level h r = grind arith

pub members-where : (h : RowChange) (t u : ℕ → Bool) (i : ℕ) (rs : List WriterRow) → members_from t i (rows_where (changed h) u i rs) ≡ members_from t i rs
members-where h t u i [] = refl
members-where h t u i (r ∷ rs) = let ih = members-where h t u (i + 1) rs in grind (arith, common_steps, member_if-level, row_if-level, changed-level)

pub members-map : (h : RowChange) (t : ℕ → Bool) (i : ℕ) (rs : List WriterRow) → members_from t i (map (changed h) rs) ≡ members_from t i rs
members-map h t i [] = refl
members-map h t i (r ∷ rs) = let ih = members-map h t (i + 1) rs in grind (arith, common_steps, member_if-level, changed-level)

pub members-agree : (t u : ℕ → Bool) (i : ℕ) (rs : List WriterRow) → ((w : ℕ) → i ≤ w → w < i + length rs → t w ≡ u w) → members_from t i rs ≡ members_from u i rs
members-agree t u i [] h = refl
members-agree t u i (r ∷ rs) h = let ih = members-agree t u (i + 1) rs (λ w m l. h w (omega arith) (omega arith)) in grind (arith, common_steps)

-- no writer from the rows' end on is a member
pub member-above : (t : ℕ → Bool) (i : ℕ) (rs : List WriterRow) (w : ℕ) → i + length rs ≤ w → is_member (members_from t i rs) w ≡ false
member-above t i [] w h = refl
member-above t i (r ∷ rs) w h = let ih = member-above t (i + 1) rs w (omega arith) in grind (arith, common_steps, member-step, and_right)

member_if-out : (b : Bool) (i : ℕ) (r : WriterRow) → b ≡ false → member_if b i r ≡ []
member_if-out b i r e = grind arith

-- a writer more that does not pass
pub members-more : (t : ℕ → Bool) (i : ℕ) (rs : List WriterRow) (r : WriterRow) → t (i + length rs) ≡ false → members_from t i (rs ++ r ∷ []) ≡ members_from t i rs
members-more t i [] r e = let z : i + 0 ≡ i = omega arith in ap (λ ms. ms ++ []) (member_if-out (t i) i r (ap t (sym z) ∙ e))
members-more t i (x ∷ xs) r e = let z : (i + 1) + length xs ≡ i + suc (length xs) = omega arith in ap (λ ms. member_if (t i) i x ++ ms) (members-more t (i + 1) xs r (ap t z ∙ e))

-- ## Names in the order of their registration.

abbrev Key : Type 0
Key = Vec ℕ Global

abbrev is_key : List ℕ → Key → Bool
is_key name k = bytes_eq name k.items

abbrev is_name : List ℕ → Registered → Bool
is_name name r = bytes_eq name r.name

place-from : (name : List ℕ) (i : ℕ) (es : List (Key × ℕ)) → position_from (is_key name) i (keys_of es) ≡ position_from (is_name name) i (map registered es)
place-from name i [] = refl
place-from name i (e ∷ es) = ap (cond (bytes_eq name e.0.items) (Some i)) (place-from name (i + 1) es)

pub place-is : (name : List ℕ) (es : List (Key × ℕ)) → position (is_key name) (keys_of es) ≡ place_of name (map registered es)
place-is name es = position_from-zero (is_key name) (keys_of es) ∙ place-from name 0 es ∙ sym (position_from-zero (is_name name) (map registered es))

insert-at : (eq : Key → Key → Bool) (k : Key) (v i : ℕ) (e : Key × ℕ) (es : List (Key × ℕ)) (b : Bool) → eq k e.0 ≡ b → cond b (Some i) (position_from (is_name k.items) (i + 1) (map registered es)) ≡ None
    → (position_from (is_name k.items) (i + 1) (map registered es) ≡ None → insert_entry eq es k v ≡ es ++ (k, v) ∷ []) → insert_entry eq (e ∷ es) k v ≡ e ∷ es ++ (k, v) ∷ []
insert-at eq k v i e es b h n f = grind arith

insert-from : (eq : Key → Key → Bool) (k : Key) (v i : ℕ) (es : List (Key × ℕ)) → ((x : Key) → eq k x ≡ bytes_eq k.items x.items) → position_from (is_name k.items) i (map registered es) ≡ None → insert_entry eq es k v ≡ es ++ (k, v) ∷ []
insert-from eq k v i [] same n = refl
insert-from eq k v i (e ∷ es) same n = insert-at eq k v i e es (eq k e.0) refl (ap (λ b. cond b (Some i) (position_from (is_name k.items) (i + 1) (map registered es))) (same e.0) ∙ n) (insert-from eq k v (i + 1) es same)

-- a new name goes last
pub insert-new : (eq : Key → Key → Bool) (k : Key) (v : ℕ) (name : List ℕ) (es : List (Key × ℕ)) (ws : List Registered) → ((x : Key) → eq k x ≡ bytes_eq k.items x.items) → k.items ≡ name → map registered es ≡ ws → place_of name ws ≡ None
    → map registered (insert_entry eq es k v) ≡ ws ++ record { name = name; class = v } ∷ []
insert-new eq k v name es ws same e m n = grind (arith, position_from-zero, insert-from, map-append)

-- ## Writers that are registered, and disabled.

-- ## one writer more

-- no writer that is not registered takes part
pub none-above : (k : KeptCourse) (c : Course) (w : ℕ) → Follows k c → length c.rows ≤ w → w < 64 → is_among w k.members ≡ false
none-above k c w h l m = grind (arith, among-writers, member-above)

pub stands-registered : (k : KeptCourse) (ns : List WriterRow) (c : Course) (level : Level) (limit : ℕ) → length k.rows < 64 → ns ≡ k.rows ++ first_row level limit ∷ [] → StandsFor k c → StandsFor (record k { rows = ns }) (registered_in level limit c)
stands-registered k ns c level limit l e h = grind (arith, none-above, members-more)

-- ## disabled writers

among-more : (w x : ℕ) (ds : List ℕ) → (is_among x ds || (w == x)) ≡ is_among x (ds ++ w ∷ [])
among-more w x ds = ap (λ b. is_among x ds || b) (sym (or-false (w == x))) ∙ sym (any-append (λ y. y == x) ds (w ∷ []))

pub stands-named : (k : KeptCourse) (ds : List ℕ) (c : Course) (w : ℕ) → ds ≡ writers (λ x. is_among x k.disabled || (w == x)) → StandsFor k c → StandsFor (record k { disabled = ds }) (named w c)
stands-named k ds c w e h =
    let f = h.follows in
    record {
      follows = record {
        rows = f.rows;
        members = f.members;
        participants = f.participants;
        disabled = e ∙ writers-agree (λ x. is_among x k.disabled || (w == x)) (λ x. is_among x (c.disabled ++ w ∷ []))
            (λ x l. ap (λ b. b || (w == x)) (ap (is_among x) f.disabled ∙ among-writers (λ y. is_among y c.disabled) x l) ∙ among-more w x c.disabled);
        outcome = f.outcome;
        agenda = f.agenda;
      };
      mailboxes = h.mailboxes;
    }

-- tests that agree on the writers' numbers
any-agree : (p q : ℕ → Bool) (x : ℕ) (cl : Option ℕ) (rs : List Registered) → ((i : ℕ) → x ≤ i → i < x + length rs → p i ≡ q i) → any_class p x cl rs ≡ any_class q x cl rs
any-agree p q x cl [] h = refl
any-agree p q x cl (r ∷ rs) h = let ih = any-agree p q (x + 1) cl rs (λ i m l. h i (omega arith) (omega arith)) in grind (arith, common_steps)

any-nobody : (x : ℕ) (cl : Option ℕ) (rs : List Registered) → any_class (λ w. false) x cl rs ≡ false
any-nobody x cl [] = refl
any-nobody x cl (r ∷ rs) = any-nobody (x + 1) cl rs

or-four : (p q a b c : Bool) → (((p || q) && a) || (b || c)) ≡ (((p && a) || b) || ((q && a) || c))
or-four p q a b c = grind arith

any-either : (p q : ℕ → Bool) (x : ℕ) (cl : Option ℕ) (rs : List Registered) → any_class (λ w. p w || q w) x cl rs ≡ (any_class p x cl rs || any_class q x cl rs)
any-either p q x cl [] = refl
any-either p q x cl (r ∷ rs) = let ih = any-either p q (x + 1) cl rs in grind (arith, common_steps, or-four)

any-below : (x d : ℕ) (cl : Option ℕ) (rs : List Registered) → d < x → any_class (λ w. d == w) x cl rs ≡ false
any-below x d cl [] h = refl
any-below x d cl (r ∷ rs) h = let e : (d == x) ≡ false = grind (arith, nat_tests) in rw e (any-below (x + 1) d cl rs (omega arith))

any-one : (x d : ℕ) (cl : Option ℕ) (rs : List Registered) → any_class (λ w. (x + d) == w) x cl rs ≡ are_equal (class_at rs d) cl
any-one x d cl [] = refl
any-one x zero cl (r ∷ rs) =
    let e : ((x + 0) == x) ≡ true = grind (arith, nat_tests) in
    rw e (ap (λ b. are_equal (Some r.class) cl || b) (any-below (x + 1) (x + 0) cl rs (omega arith)) ∙ or-false (are_equal (Some r.class) cl))
any-one x (suc d) cl (r ∷ rs) = let ih = any-one (x + 1) d cl rs in grind (arith, common_steps)

-- one of these has the class, looked for among the writers or among these
any-of : (ds : List ℕ) (cl : Option ℕ) (rs : List Registered) → any_class (λ w. is_among w ds) 0 cl rs ≡ list_any (λ x. are_equal (class_at rs x) cl) ds
any-of [] cl rs = any-nobody 0 cl rs
any-of (d ∷ ds) cl rs =
    let m : 0 + d ≡ d = omega arith in
    any-either (λ w. d == w) (λ w. is_among w ds) 0 cl rs
    ∙ ap (λ b. b || any_class (λ w. is_among w ds) 0 cl rs) (ap (λ i. any_class (λ w. i == w) 0 cl rs) (sym m) ∙ any-one 0 d cl rs)
    ∙ ap (λ b. are_equal (class_at rs d) cl || b) (any-of ds cl rs)

pub disabled-is : (k : KeptCourse) (c : Course) (ws : List Registered) (w : ℕ) → length ws ≤ 64 → Follows k c → any_class (λ x. is_among x k.disabled) 0 (class_at ws w) ws ≡ is_disabled ws c.disabled w
disabled-is k c ws w l h =
    any-agree (λ x. is_among x k.disabled) (λ x. is_among x c.disabled) 0 (class_at ws w) ws (λ i m b. ap (is_among i) h.disabled ∙ among-writers (λ y. is_among y c.disabled) i (omega arith))
    ∙ any-of c.disabled (class_at ws w) ws

drop-suc : (rs : List Registered) (n : ℕ) (b : ℕ) → n < length rs → Some b ≡ class_at rs n → (p : ℕ → Bool) (x : ℕ) (cl : Option ℕ) → any_class p x cl (drop n rs) ≡ ((p x && are_equal (Some b) cl) || any_class p (x + 1) cl (drop (suc n) rs))
drop-suc [] n b h e p x cl = absurd (omega arith)
drop-suc (r ∷ rs) zero b h e p x cl = let f : b ≡ r.class = cc in ap (λ y. (p x && are_equal (Some y) cl) || any_class p (x + 1) cl rs) (sym f)
drop-suc (r ∷ rs) (suc n) b h e p x cl = drop-suc rs n b (omega arith) e p x cl

-- the next writer is looked at
pub class-next : (rs : List Registered) (n b : ℕ) (p : ℕ → Bool) (cl : Option ℕ) → n < length rs → Some b ≡ class_at rs n → any_class p n cl (drop n rs) ≡ ((p n && are_equal (Some b) cl) || any_class p (n + 1) cl (drop (n + 1) rs))
class-next rs n b p cl h e = grind (arith, drop-suc)

-- the same, where the class that is sought is known
pub class-found : (rs : List Registered) (n b sought : ℕ) (p : ℕ → Bool) (cl : Option ℕ) → n < length rs → Some b ≡ class_at rs n → Some sought ≡ cl
    → any_class p n cl (drop n rs) ≡ ((p n && (b == sought)) || any_class p (n + 1) cl (drop (n + 1) rs))
class-found rs n b sought p cl h e f = class-next rs n b p cl h e ∙ ap (λ x. (p n && are_equal (Some b) x) || any_class p (n + 1) cl (drop (n + 1) rs)) (sym f)

length-last : {X : Type 0} (xs : List X) (x : X) → length (xs ++ x ∷ []) ≡ suc (length xs)
length-last xs x = grind (arith, common_steps)

pub length-more : {X : Type 0} (xs ys : List X) (x : X) → ys ≡ xs ++ x ∷ [] → length ys ≡ suc (length xs)
length-more xs ys x e = ap length e ∙ length-last xs x
