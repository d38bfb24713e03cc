-- The groups left, as rows and a cursor have them: writers are done, steps are made, the next group opens, and an agenda begins.
use Rattle.std.proofs.Common.{◌≡◌, ℕ, zero, suc, ◌+◌, List, [], ◌∷◌, refl, Bool, true, false, cond, sym, arith, drop, Some, ap, ◌∙◌, subst, length, ◌++◌}
use Rattle.std.proofs.Common.{Option, None, filter, map}
use Rattle.std.proofs.lemmas.Bool.{and_parts, or_parts}
use Rattle.std.proofs.lemmas.Bool.Decides.{nat_tests}
use Rattle.std.proofs.lemmas.Grind.{common_steps}
use Rattle.std.specs.List.{list_any, flat_map, range_with_len}
use Rattle.std.specs.Prelude.{not, ◌==◌, ◌&&◌, ◌||◌}
use lib.Dec.{leb}
use Rattle.vss_names.specs.declared.level.Level.{Level}
use Rattle.vss_names.specs.declared.order.Order.TheVariants.{Identify, PrepareBackup, PrepareSnapshot, Freeze, Thaw, PostSnapshot, BackupComplete}
use Rattle.set_agenda.specs.Advance.{advance, others, others_if, unasked_if, are_distinct, by_writer, unspoken}
use Rattle.set_agenda.specs.Agenda.{Open, is_among, is_asking, is_orders, is_over_volumes, is_working, next_member, places, with_group, open_place, groups_left}
use Rattle.set_agenda.specs.Agenda.{is_at, left_from, members_of, writers_at}
use Rattle.set_agenda.specs.Cursor.{IsSound, is_live, left_fresh, left_here, left_of, steps, with_unfailed, first_place, fresh, here, HasRows, row_of}
use Rattle.set_agenda.specs.WriterSet.{is_nil, writers}
use Rattle.set_agenda.specs.declared.cursor.Cursor.{Cursor}
use Rattle.set_agenda.specs.declared.group.Group.{Group}
use Rattle.set_agenda.specs.declared.group.Group.TheVariants.{Orders}
use Rattle.set_agenda.specs.declared.kind.Kind.{Kind}
use Rattle.set_agenda.specs.declared.member.Member.{Member}
use Rattle.set_agenda.specs.declared.place.Place.{Place}
use Rattle.set_agenda.specs.declared.rows.Rows.{Rows}
use Rattle.set_agenda.proofs.GroupsLeft.{unasked_if-group, unasked_if-nil, any-append}
use Rattle.set_agenda.proofs.WriterSets.{among-writers, and-false, or-false, writers-agree, writers-none}

-- ## The groups left, as rows and a cursor have them: writers are done, and steps are made.

-- ## writers

left_fresh-unfailed : (r : Rows) (vs whos ws : List ℕ) (f : Bool) → ws ≡ others_if f whos r.unfailed → (ps : List Place)
    → left_fresh (with_unfailed r ws) vs ps ≡ unasked_if f whos (left_fresh r vs ps)
left_fresh-unfailed r vs whos ws f e [] = sym (unasked_if-nil f whos)
left_fresh-unfailed r vs whos ws f e (p ∷ ps) = grind (arith, common_steps, unasked_if-group, left_fresh-unfailed r vs whos ws f e ps)

abbrev pub with_waits : Cursor → List ℕ → Cursor
with_waits c ws = record { group = c.group; waits = ws; next = c.next }

-- writers are done
pub closed_writers : (k : Kind) (r : Rows) (vs vs2 whos ls ws : List ℕ) (c c2 : Cursor) (f : Bool) (old : List Open)
    → vs2 ≡ vs → ls ≡ others_if f whos r.unfailed → ws ≡ others whos c.waits → IsSound k vs c → left_of k r vs c ≡ old → is_asking old ≡ true
    → left_here (with_unfailed r ls) vs2 c2 (drop c2.group (places k)) ≡ left_here (with_unfailed r ls) vs2 (with_waits c ws) (drop c.group (places k))
    → left_of k (with_unfailed r ls) vs c2 ≡ advance whos f old
closed_writers k r vs vs2 whos ls ws c c2 f old v e h s is a m = grind (arith, left_fresh-unfailed)

-- ## steps

distinct-drop : (n : ℕ) (vs : List ℕ) → are_distinct vs ≡ true → are_distinct (drop n vs) ≡ true
distinct-drop zero vs h = h
distinct-drop (suc n) [] h = h
distinct-drop (suc n) (v ∷ vs) h = distinct-drop n vs (and_parts (not (is_among v vs)) (are_distinct vs) h).1

abbrev tail_of : List ℕ → List ℕ
tail_of [] = []
tail_of (x ∷ xs) = xs

tail-drop : (n : ℕ) (xs : List ℕ) → tail_of (drop n xs) ≡ drop (suc n) xs
tail-drop zero [] = refl
tail-drop zero (x ∷ xs) = refl
tail-drop (suc n) [] = refl
tail-drop (suc n) (x ∷ xs) = tail-drop n xs

pub unless : (b : Bool) → not b ≡ true → b ≡ false
unless b e = grind arith

others-apart : (x : ℕ) (xs : List ℕ) → is_among x xs ≡ false → others (x ∷ []) xs ≡ xs
others-apart x [] h = refl
others-apart x (y ∷ ys) h =
    let a : ((y == x) ≡ false) × (is_among x ys ≡ false) = or_parts (y == x) (is_among x ys) h in grind (arith, common_steps, nat_tests, others-apart x ys a.1)

same-nat : (n : ℕ) → (n == n) ≡ true
same-nat n = grind (arith, nat_tests)

others-first : (x : ℕ) (xs : List ℕ) → are_distinct (x ∷ xs) ≡ true → others (x ∷ []) (x ∷ xs) ≡ xs
others-first x xs h = rw (same-nat x) (others-apart x xs (unless (is_among x xs) (and_parts (not (is_among x xs)) (are_distinct xs) h).0))

steps-distinct : (vs : List ℕ) (g : Group) → are_distinct vs ≡ true → are_distinct (steps vs g) ≡ true
steps-distinct vs g h = elim (is_over_volumes g) as (λ b. are_distinct (cond b vs (0 ∷ [])) ≡ true) [ true ↦ h | false ↦ refl ]

stepped-at : (p : Place) (rest : List Open) (b : Bool) (ws ss : List ℕ) → are_distinct ss ≡ true → is_orders p.group ≡ b
    → is_working (with_group p (cond b ws ss) rest) ≡ true → not (is_nil (cond b ws ss)) ≡ true
    → with_group p (cond b ws (tail_of ss)) rest ≡ advance (next_member (with_group p (cond b ws ss) rest) ∷ []) false (with_group p (cond b ws ss) rest)
stepped-at p rest b ws ss h o a n = grind (arith, others-first)

abbrev pub with_next : Cursor → ℕ → Cursor
with_next c n = record { group = c.group; waits = c.waits; next = n }

stepped-here : (r : Rows) (vs : List ℕ) (c : Cursor) (ps : List Place) → are_distinct vs ≡ true → is_live vs c ps ≡ true → is_working (left_here r vs c ps) ≡ true
    → left_here r vs (with_next c (c.next + 1)) ps ≡ advance (next_member (left_here r vs c ps) ∷ []) false (left_here r vs c ps)
stepped-here r vs c [] h v a = refl
stepped-here r vs c (p ∷ ps) h v a =
    let fact = tail-drop c.next (steps vs p.group) in
    grind (arith, common_steps, nat_tests, tail-drop, stepped-at, distinct-drop, steps-distinct, steps-distinct vs p.group h)

-- the provider has made its next step
pub closed_step : (k : Kind) (r : Rows) (vs vs2 : List ℕ) (c c2 : Cursor) (old : List Open)
    → vs2 ≡ vs → IsSound k vs c → left_of k r vs c ≡ old → is_working old ≡ true
    → left_here r vs2 c2 (drop c2.group (places k)) ≡ left_here r vs2 (with_next c (c.next + 1)) (drop c.group (places k))
    → left_of k r vs c2 ≡ advance (next_member old ∷ []) false old
closed_step k r vs vs2 c c2 old v s is a m = grind (arith, stepped-here)

-- ## The groups left, as rows and a cursor have them: how the next group opens.

-- ## places by number

drop-first : (n : ℕ) (ps : List Place) (p : Place) → first_place (drop n ps) ≡ Some p → drop n ps ≡ p ∷ drop (n + 1) ps
drop-first zero [] p e = cc
drop-first (suc n) [] p e = cc
drop-first zero (x ∷ xs) p e = let f : x ≡ p = cc in ap (λ q. q ∷ xs) f
drop-first (suc n) (x ∷ xs) p e = let f : suc (n + 1) ≡ suc n + 1 = omega arith in subst (λ m. drop n xs ≡ p ∷ drop m (x ∷ xs)) f (drop-first n xs p e)

-- the place of that number is followed by those of the later numbers
pub place-first : (k : Kind) (n : ℕ) (p : Place) → Some p ≡ first_place (drop n (places k)) → drop n (places k) ≡ p ∷ drop (n + 1) (places k)
place-first k n p e = drop-first n (places k) p (sym e)

-- ## closed groups

pub nil-group : (p : Place) (xs : List ℕ) (os : List Open) → is_nil xs ≡ true → with_group p xs os ≡ os
nil-group p xs os e = grind arith

-- an empty group is passed by
pub fresh_skip : (r : Rows) (vs : List ℕ) (p : Place) (k : Kind) (n : ℕ) → Some p ≡ first_place (drop n (places k)) → true ≡ is_nil (fresh r vs p)
    → left_fresh r vs (drop (n + 1) (places k)) ≡ left_fresh r vs (drop n (places k))
fresh_skip r vs p k n e h = sym (ap (left_fresh r vs) (place-first k n p e) ∙ nil-group p (fresh r vs p) _ (sym h))

drop-nil : (n : ℕ) (xs : List ℕ) → leb (length xs) n ≡ is_nil (drop n xs)
drop-nil zero [] = refl
drop-nil zero (x ∷ xs) = grind (arith, nat_tests)
drop-nil (suc n) [] = grind (arith, nat_tests)
drop-nil (suc n) (x ∷ xs) = let e : leb (suc (length xs)) (suc n) ≡ leb (length xs) n = grind (arith, nat_tests) in e ∙ drop-nil n xs

-- the provider's group is closed where all its steps are made
pub closed_steps : (vs : List ℕ) (c : Cursor) (p : Place) (n : ℕ) → is_orders p.group ≡ false → n ≡ length (steps vs p.group) → leb n c.next ≡ is_nil (here vs c p)
closed_steps vs c p n e f = grind (arith, drop-nil)

-- a closed group is passed by
pub here_skip : (r : Rows) (vs : List ℕ) (c : Cursor) (p : Place) (k : Kind) → Some p ≡ first_place (drop c.group (places k)) → true ≡ is_nil (here vs c p)
    → left_fresh r vs (drop (c.group + 1) (places k)) ≡ left_here r vs c (drop c.group (places k))
here_skip r vs c p k e h = sym (ap (left_here r vs c) (place-first k c.group p e) ∙ nil-group p (here vs c p) _ (sym h))

-- ## the open group

live-place : (p : Place) (xs : List ℕ) (os : List Open) → not (is_nil xs) ≡ true → open_place (with_group p xs os) ≡ p
live-place p xs os e = grind arith

-- the place of the cursor's number is that of the open group
pub open-here : (r : Rows) (vs : List ℕ) (c : Cursor) (p : Place) (k : Kind) → Some p ≡ first_place (drop c.group (places k)) → is_live vs c (drop c.group (places k)) ≡ true
    → open_place (left_here r vs c (drop c.group (places k))) ≡ p
open-here r vs c p k e h = grind (arith, place-first, live-place)

-- ## The groups left of an agenda that begins.

-- ## rows

abbrev has_member : Option Level → List Member → ℕ → Bool
has_member l ms w = list_any (λ (m : Member). is_at l m.level && (m.writer == w)) ms

row-more : (l : Option Level) (ms : List Member) (m : Member) (b : Bool) → is_at l m.level ≡ b → (w : ℕ) → (has_member l ms w || (b && (m.writer == w))) ≡ has_member l (ms ++ m ∷ []) w
row-more l ms m b e w = grind (arith, or-false, any-append)

-- a member of the row's level enters it
pub row_in : (l : Option Level) (ms : List Member) (m : Member) (old new : List ℕ) → is_at l m.level ≡ true → old ≡ row_of l ms
    → new ≡ writers (λ w. is_among w old || (m.writer == w)) → new ≡ row_of l (ms ++ m ∷ [])
row_in l ms m old new e h f = grind (arith, common_steps, writers-agree, among-writers, row-more)

-- a member of another level does not
pub row_out : (l : Option Level) (ms : List Member) (m : Member) (old : List ℕ) → is_at l m.level ≡ false → old ≡ row_of l ms → old ≡ row_of l (ms ++ m ∷ [])
row_out l ms m old e h = h ∙ writers-agree _ (has_member l (ms ++ m ∷ [])) (λ w b. sym (or-false (has_member l ms w)) ∙ row-more l ms m false e w)

pub rows-empty : (r : Rows) → r.all ≡ [] → r.system ≡ [] → r.back_end ≡ [] → r.front_end ≡ [] → r.unfailed ≡ [] → HasRows r []
rows-empty r a s b f u = grind (arith, writers-none)

-- ## the members in the order of their writers

abbrev of_writer : List Member → ℕ → List Member
of_writer ms w = filter (λ (m : Member). m.writer == w) ms

abbrev numbers : List Member → List ℕ
numbers ms = map (λ (m : Member). m.writer) ms

none-of : (w : ℕ) (ms : List Member) → is_among w (numbers ms) ≡ false → of_writer ms w ≡ []
none-of w [] h = refl
none-of w (m ∷ ms) h = let a : ((m.writer == w) ≡ false) × (is_among w (numbers ms) ≡ false) = or_parts (m.writer == w) (is_among w (numbers ms)) h in rw a.0 (none-of w ms a.1)

none-has : (l : Option Level) (w : ℕ) (ms : List Member) → is_among w (numbers ms) ≡ false → has_member l ms w ≡ false
none-has l w [] h = refl
none-has l w (m ∷ ms) h = let a : ((m.writer == w) ≡ false) × (is_among w (numbers ms) ≡ false) = or_parts (m.writer == w) (is_among w (numbers ms)) h
    in rw (a.0, and-false (is_at l m.level)) (none-has l w ms a.1)

abbrev IsOnce : List Member → Type 0
IsOnce ms = are_distinct (numbers ms) ≡ true

one-at : (l : Option Level) (m : Member) (ms : List Member) (w : ℕ) (b : Bool) → (m.writer == w) ≡ b → IsOnce (m ∷ ms) → writers_at (of_writer ms w) l ≡ cond (has_member l ms w) (w ∷ []) []
    → writers_at (cond b (m ∷ of_writer ms w) (of_writer ms w)) l ≡ cond ((is_at l m.level && b) || has_member l ms w) (w ∷ []) []
one-at l m ms w b e d h = grind (arith, nat_tests, unless, and_parts, none-of, none-has, and-false)

-- each writer is one member, or none
one-of : (l : Option Level) (ms : List Member) → IsOnce ms → (w : ℕ) → writers_at (of_writer ms w) l ≡ cond (has_member l ms w) (w ∷ []) []
one-of l [] d w = refl
one-of l (m ∷ ms) d w = one-at l m ms w (m.writer == w) refl d (one-of l ms (and_parts (not (is_among m.writer (numbers ms))) (are_distinct (numbers ms)) d).1 w)

writers_at-each : (l : Option Level) (ms : List Member) → IsOnce ms → (xs : List ℕ) → writers_at (flat_map (of_writer ms) xs) l ≡ filter (has_member l ms) xs
writers_at-each l ms d [] = refl
writers_at-each l ms d (x ∷ xs) = grind (arith, common_steps, one-of, writers_at-each l ms d xs)

writers_at-by_writer : (l : Option Level) (ms : List Member) → IsOnce ms → writers_at (by_writer ms) l ≡ row_of l ms
unfolding by_writer writers
writers_at-by_writer l ms d = writers_at-each l ms d (range_with_len 0 64)

-- ## the groups

filter-all : {X : Type 0} (xs : List X) → filter (λ x. true) xs ≡ xs
filter-all [] = refl
filter-all (x ∷ xs) = ap (λ ys. x ∷ ys) (filter-all xs)

abbrev PostIsPlain : Group → Option Level → Type 0
PostIsPlain (Orders PostSnapshot) l = l ≡ None
PostIsPlain _ l = Unit {0}

-- each group's members, before anything is said
members-are : (k : Kind) (ms : List Member) (vs : List ℕ) (now : ℕ) (r : Rows) → IsOnce ms → HasRows r ms → (g : Group) (l : Option Level) → PostIsPlain g l
    → members_of (unspoken k (by_writer ms) vs now) g l ≡ fresh r vs (record { group = g; level = l })
members-are k ms vs now r d h (Orders PostSnapshot) l n = filter-all (writers_at (by_writer ms) l) ∙ writers_at-by_writer l ms d ∙ ap (λ m. row_of m ms) n ∙ sym h.unfailed
members-are k ms vs now r d h (Orders Identify) l n = writers_at-by_writer l ms d ∙ sym (grind arith)
members-are k ms vs now r d h (Orders PrepareBackup) l n = writers_at-by_writer l ms d ∙ sym (grind arith)
members-are k ms vs now r d h (Orders PrepareSnapshot) l n = writers_at-by_writer l ms d ∙ sym (grind arith)
members-are k ms vs now r d h (Orders Freeze) l n = writers_at-by_writer l ms d ∙ sym (grind arith)
members-are k ms vs now r d h (Orders Thaw) l n = writers_at-by_writer l ms d ∙ sym (grind arith)
members-are k ms vs now r d h (Orders BackupComplete) l n = writers_at-by_writer l ms d ∙ sym (grind arith)
members-are k ms vs now r d h _ l n = refl

abbrev PostIsPlainAll : List Place → Type 0
PostIsPlainAll [] = Unit {0}
PostIsPlainAll (p ∷ ps) = PostIsPlain p.group p.level × PostIsPlainAll ps

begin-from : (k : Kind) (ms : List Member) (vs : List ℕ) (now : ℕ) (r : Rows) → IsOnce ms → HasRows r ms → (ps : List Place) → PostIsPlainAll ps
    → left_from (unspoken k (by_writer ms) vs now) ps ≡ left_fresh r vs ps
begin-from k ms vs now r d h [] n = refl
begin-from k ms vs now r d h (p ∷ ps) n =
    let fact = filter-all (members_of (unspoken k (by_writer ms) vs now) p.group p.level) in
    grind (arith, common_steps, begin-from k ms vs now r d h ps n.1, members-are k ms vs now r d h p.group p.level n.0)

-- the groups left as an agenda begins
pub begins : (k : Kind) (ms : List Member) (vs vs2 vs3 : List ℕ) (r : Rows) (c : Cursor) → IsOnce ms → HasRows r ms → vs3 ≡ vs2 → vs2 ≡ vs
    → left_here r vs3 c (drop c.group (places k)) ≡ left_fresh r vs3 (drop 0 (places k))
    → (now : ℕ) → left_of k r vs2 c ≡ groups_left (unspoken k (by_writer ms) vs now)
begins k ms vs vs2 vs3 r c d h e v m now = grind (arith, begin-from)
