-- Lists of deeds of which each may come after those before it: a set that is kept is of one moment, and who was told of the abort.
use Rattle.std.proofs.Common.{◌≡◌, ◌∙◌, ℕ, true, List, [], ◌∷◌, ◌++◌, ap, sym, subst, refl, Bool, false, not, zero, suc, ◌+◌, ◌||◌, take, Some, None, add-one}
use Rattle.std.proofs.Common.{arith}
use Rattle.std.proofs.lemmas.Bool.{and_from, and_parts}
use Rattle.std.proofs.lemmas.List.{append_assoc, append-nil}
use Rattle.std.proofs.lemmas.List.Elements.{filter-append}
use Rattle.std.proofs.lemmas.List.Folds.{list_any-append}
use Rattle.std.specs.List.{list_any}
use Rattle.std.specs.Prelude.{slice_get}
use Rattle.backup_ledger.specs.Deeds.{are_right, copied, is_copy, may_come, LedgerValue, all_froze, is_read_out, is_thaw, may_keep, may_read, all_told, is_told}
use Rattle.backup_ledger.specs.Deeds.{IsOfOneMoment, AreOfOneMoment}
use Rattle.backup_ledger.specs.declared.deed.Deed.{Deed}
use Rattle.backup_ledger.specs.declared.deed.Deed.TheVariants.{Heard, Read, Kept, ToldAbort}

-- ## Lists of deeds of which each may come after those before it: one more deed, and what may be said of each of them.

-- one more deed, which may come after them
pub right_more : (ws vs : List ℕ) (before ds : List Deed) (d : Deed) → are_right ws vs before ds ≡ true → may_come ws vs (before ++ ds) d ≡ true → are_right ws vs before (ds ++ d ∷ []) ≡ true
right_more ws vs before [] d right may = and_from _ _ (subst (λ l. may_come ws vs l d ≡ true) (append-nil before) may) refl
right_more ws vs before (e ∷ ds) d right may =
    let parts = and_parts _ _ right in
    and_from _ _ parts.0 (right_more ws vs (before ++ e ∷ []) ds d parts.1 (subst (λ l. may_come ws vs l d ≡ true) (sym (append_assoc before (e ∷ []) ds)) may))

-- each of them may come after those before it
pub right_at : (ws vs : List ℕ) (before a b : List Deed) (d : Deed) → are_right ws vs before (a ++ d ∷ b) ≡ true → may_come ws vs (before ++ a) d ≡ true
right_at ws vs before [] b d right = subst (λ l. may_come ws vs l d ≡ true) (sym (append-nil before)) (and_parts _ _ right).0
right_at ws vs before (e ∷ a) b d right =
    subst (λ l. may_come ws vs l d ≡ true) (append_assoc before (e ∷ []) a) (right_at ws vs (before ++ e ∷ []) a b d (and_parts _ _ right).1)

-- what the copier did, with one deed more
pub copied_more : (ds : List Deed) (d : Deed) → copied (ds ++ d ∷ []) ≡ copied ds ++ copied (d ∷ [])
copied_more ds d = filter-append is_copy ds (d ∷ [])

-- ... where the deed is not the copier's
pub copied_same : (ds : List Deed) (d : Deed) → copied (d ∷ []) ≡ [] → copied (ds ++ d ∷ []) ≡ copied ds
copied_same ds d none = copied_more ds d ∙ ap (λ l. copied ds ++ l) none ∙ append-nil (copied ds)

-- ## A set that is kept in a list of right deeds is of one moment.

-- what is not, is false
pub not_false : (b : Bool) → not b ≡ true → b ≡ false
not_false true e = cc
not_false false e = refl

-- at a part that may be read
pub at_read : (ws : List ℕ) (a : List Deed) (v : ℕ) → may_read ws a v ≡ true
    → (all_froze ws a ≡ true) × (list_any is_thaw a ≡ false) × (list_any (is_read_out v) a ≡ false)
at_read ws a v may =
    let parts = and_parts _ _ may in
    let first = and_parts _ _ parts.0 in
    (first.0, not_false _ first.1, not_false _ parts.1)

-- at a set that may be kept, after right deeds
pub at_kept : (ws vs : List ℕ) (before rest : List Deed) (n : ℕ) → are_right ws vs [] (before ++ Kept n ∷ rest) ≡ true → may_keep ws vs before ≡ true → IsOfOneMoment ws vs before
at_kept ws vs before rest n right may =
    let parts = and_parts _ _ may in
    let more = and_parts _ _ parts.0 in
    let first = and_parts _ _ more.0 in
    let here : (a b : List Deed) (d : Deed) → before ≡ a ++ d ∷ b → may_come ws vs a d ≡ true =
    λ a b d is. right_at ws vs [] a (b ++ Kept n ∷ rest) d (subst (λ l. are_right ws vs [] l ≡ true) (ap (λ l. l ++ Kept n ∷ rest) is ∙ append_assoc a (d ∷ b) (Kept n ∷ rest)) right) in
    record {
      whole = first.0;
      still = λ a b v last is. at_read ws a v (here a b (Read v last) is);
      asked = λ a b w o answer is. here a b (Heard w o answer) is;
      stood = first.1;
      given_up = not_false _ more.1;
      once = not_false _ parts.1;
    }

-- each set that is kept
pub are_of_one_moment : (l : LedgerValue) → are_right l.writers l.volumes [] l.deeds ≡ true → AreOfOneMoment l
are_of_one_moment l right before rest n is =
    let here : are_right l.writers l.volumes [] (before ++ Kept n ∷ rest) ≡ true = subst (λ ds. are_right l.writers l.volumes [] ds ≡ true) is right in
    at_kept l.writers l.volumes before rest n here (right_at l.writers l.volumes [] before rest (Kept n) here)

-- ## Writers that were told of the abort.

-- who was told stays told
pub still_told : (w : ℕ) (ds : List Deed) (d : Deed) → list_any (is_told w) ds ≡ true → list_any (is_told w) (ds ++ d ∷ []) ≡ true
still_told w ds d told = list_any-append (is_told w) ds (d ∷ []) ∙ ap (λ b. b || list_any (is_told w) (d ∷ [])) told

pub all_still_told : (ws : List ℕ) (ds : List Deed) (d : Deed) → all_told ws ds ≡ true → all_told ws (ds ++ d ∷ []) ≡ true
all_still_told [] ds d told = refl
all_still_told (w ∷ ws) ds d told =
    let parts = and_parts _ _ told in
    and_from _ _ (still_told w ds d parts.0) (all_still_told ws ds d parts.1)

-- with the writer of the next place, so many more were told
next_told : (ws : List ℕ) (n w : ℕ) (ds : List Deed) → slice_get ws n ≡ Some w → all_told (take n ws) ds ≡ true → list_any (is_told w) ds ≡ true → all_told (take (suc n) ws) ds ≡ true
next_told [] n w ds is told here = cc
next_told (v ∷ ws) zero w ds is told here = let same : v ≡ w = cc in and_from _ _ (subst (λ x. list_any (is_told x) ds ≡ true) (sym same) here) refl
next_told (v ∷ ws) (suc n) w ds is told here =
    let parts = and_parts _ _ told in
    and_from _ _ parts.0 (next_told ws n w ds is parts.1 here)

-- where there is no further one, all were
end_told : (ws : List ℕ) (n : ℕ) (ds : List Deed) → slice_get ws n ≡ None → all_told (take n ws) ds ≡ true → all_told (take (suc n) ws) ds ≡ true
end_told [] n ds is told = refl
end_told (v ∷ ws) zero ds is told = cc
end_told (v ∷ ws) (suc n) ds is told =
    let parts = and_parts _ _ told in
    and_from _ _ parts.0 (end_told ws n ds is parts.1)

pub told_next : (ws : List ℕ) (n w : ℕ) (ds : List Deed) → slice_get ws n ≡ Some w → all_told (take n ws) ds ≡ true → list_any (is_told w) ds ≡ true → all_told (take (n + 1) ws) ds ≡ true
told_next ws n w ds is told here = subst (λ k. all_told (take k ws) ds ≡ true) (sym (add-one n)) (next_told ws n w ds is told here)

pub told_end : (ws : List ℕ) (n : ℕ) (ds : List Deed) → slice_get ws n ≡ None → all_told (take n ws) ds ≡ true → all_told (take (n + 1) ws) ds ≡ true
told_end ws n ds is told = subst (λ k. all_told (take k ws) ds ≡ true) (sym (add-one n)) (end_told ws n ds is told)

-- who is told now, was told
just_told : (w : ℕ) (ds : List Deed) → list_any (is_told w) (ds ++ ToldAbort w ∷ []) ≡ true
just_told w ds = list_any-append (is_told w) ds (ToldAbort w ∷ []) ∙ grind arith

-- the writer of the next place is told now
pub told_now : (ws : List ℕ) (n w : ℕ) (ds : List Deed) → slice_get ws n ≡ Some w → all_told (take n ws) ds ≡ true → all_told (take (n + 1) ws) (ds ++ ToldAbort w ∷ []) ≡ true
told_now ws n w ds is told = told_next ws n w (ds ++ ToldAbort w ∷ []) is (all_still_told (take n ws) ds (ToldAbort w) told) (just_told w ds)

-- ... in a ledger that is told so
pub told_on : (ws : List ℕ) (n w : ℕ) (old new : LedgerValue) → slice_get ws n ≡ Some w → new ≡ record old { deeds = old.deeds ++ ToldAbort w ∷ [] }
    → all_told (take n ws) old.deeds ≡ true → all_told (take (n + 1) ws) new.deeds ≡ true
told_on ws n w old new is next told = subst (λ (l : LedgerValue). all_told (take (n + 1) ws) l.deeds ≡ true) (sym next) (told_now ws n w old.deeds is told)
