-- Places of lists, lists that are compared from the front, and the counts of a journal.
use Rattle.std.proofs.Common.{◌≡◌, ℕ, zero, suc, ◌<◌, ◌+◌, List, [], ◌∷◌, length, ap, sym, arith, false, Option, Some, None, get_or, refl, ◌≢◌, ◌≤◌, ◌++◌, take}
use Rattle.std.proofs.Common.{drop, ◌∙◌, Bool, true, subst, Bor, ◌-◌, rules}
use Rattle.std.proofs.Math.Seq.{take-append_seam}
use Rattle.std.proofs.lemmas.Bool.{ltb-true, ltb-false}
use Rattle.std.proofs.lemmas.List.{take-append-drop, take_all, length_push, append-nil, take-append-le, take-map}
use Rattle.std.proofs.lemmas.List.Elements.{filter-append, All-nil, All-push}
use Rattle.std.proofs.lemmas.Option.{same_Some, slice_get_read, slice_get_past}
use Rattle.std.specs.Option.{option_eq, option_copied}
use Rattle.std.specs.Prelude.{slice_get, is_some, slice_index_or, ◌==◌, not, nat_lt, IfSome, slice_set, All}
use Rattle.std.proofs.lemmas.Grind.{common_steps}
use Rattle.cow_volume.specs.StandsFor.{GroupValue}
use Rattle.cow_volume.proofs.Group.{same_number, other_number, number_is, number_is_other, slice_get-set_same, slice_get-set_other, length-slice_set}
use Rattle.vss_shards.specs.Journals.{part_of, count_of, most_volumes, Cut, JournalValue, IsMoment, IsJournal, AreCounts, first_off, journal_value, most_cuts}
use Rattle.vss_shards.specs.OneMoment.{DifferFirst, IsImageOf, ShowsMoment}
use Rattle.vss_shards.specs.Shards.{shards_from, ShardValue}
use Rattle.vss_shards.specs.declared.entry.Entry.{Entry}
use Rattle.vss_shards.specs.declared.part.Part.{Part}

-- ## Places of a list, options and results.

pub none_of : {X : Type 0} → (o : Option X) → is_some o ≡ false → o ≡ None
none_of o e = grind arith

pub at_place : {X : Type 0} → (xs : List X) (k : ℕ) (x : X) → k < length xs → x ≡ get_or xs k x → slice_get xs k ≡ Some x
at_place [] k x l is = absurd (omega arith)
at_place (y ∷ xs) zero x l is = ap Some (sym is)
at_place (y ∷ xs) (suc k) x l is = at_place xs k x (omega arith) is

-- what holds of the elements before a place, and of the one there
pub more_at : {X : Type 0} → (P : X → Type 0) (xs : List X) (n : ℕ) (x : X) → slice_get xs n ≡ Some x → P x
    → ((k : ℕ) (y : X) → k < n → slice_get xs k ≡ Some y → P y) → (k : ℕ) (y : X) → k < n + 1 → slice_get xs k ≡ Some y → P y
more_at x0 xs n x here is before k y l at = grind (arith, same_Some, same_number, other_number)

-- ## Numbered shards are as many as their volumes.

pub count_of_shards : {D : Type 0} (n : ℕ) (volumes : List (GroupValue D)) → length (shards_from n volumes) ≡ length volumes
count_of_shards n [] = refl
count_of_shards n (v ∷ vs) = grind (arith, count_of_shards (n + 1) vs)

-- ## Two lists that are compared from the front.

-- ## one place of a list

pub at_seam : {X : Type 0} → (xs : List X) (x : X) (rest : List X) → slice_get (xs ++ x ∷ rest) (length xs) ≡ Some x
at_seam [] x rest = refl
at_seam (y ∷ xs) x rest = at_seam xs x rest

pub length_taken : {X : Type 0} → (xs : List X) (i : ℕ) → i ≤ length xs → length (take i xs) ≡ i
length_taken xs i low = search rules

drop_at : {X : Type 0} → (xs : List X) (i : ℕ) (x : X) → slice_get xs i ≡ Some x → drop i xs ≡ x ∷ drop (suc i) xs
drop_at [] i x at = absurd cc
drop_at (y ∷ xs) zero x at = let same : y ≡ x = cc in ap (λ z. z ∷ xs) same
drop_at (y ∷ xs) (suc i) x at = drop_at xs i x at

-- ## what is looked up

-- a copy of what a list has at a place, or nothing past its end
pub found_at : {X : Type 0} → (xs : List X) (i : ℕ) (r : Option (Bor X)) → is_some r ≡ nat_lt i (length xs) → IfSome r (λ b. b.now ≡ slice_index_or xs i b.now) → slice_get xs i ≡ option_copied r
found_at xs i r test is = grind (arith, slice_get_past, ltb-false, slice_get_read, ltb-true)

-- ## tests for equality

-- what a test tells apart is not the same
pub option_apart : {X : Type 0} → (E : X → X → Bool) → ((x : X) → E x x ≡ true) → (o : Option X) (x : X) (r : Bool) → r ≡ true → r ≡ not (option_eq E o (Some x)) → o ≢ Some x
option_apart x0 same o x r said is e = grind arith

-- ## the part of a volume

-- a place of a list, and a place of the journal, up to which they agree
pub record Agree (v : ℕ) (listed journal : List Entry) (k at : ℕ) : Type 0 where
  pub within : at ≤ length listed
  pub same : take at listed ≡ part_of v (take k journal)

-- the journal's part from an entry on
part_from : (v : ℕ) (journal : List Entry) (k : ℕ) (e : Entry) → slice_get journal k ≡ Some e → e.volume ≡ v → part_of v journal ≡ part_of v (take k journal) ++ e ∷ part_of v (drop (suc k) journal)
part_from v journal k e here own = grind (arith, common_steps, take-append-drop k journal, drop_at journal k e here, number_is e.volume)

agree_length : (v : ℕ) (listed journal : List Entry) (k at : ℕ) → Agree v listed journal k at → length (part_of v (take k journal)) ≡ at
agree_length v listed journal k at is = sym (ap length is.same) ∙ length_taken listed at is.within

-- the journal has another entry there
pub differ_at : (v : ℕ) (listed journal : List Entry) (k at : ℕ) (e : Entry) (own : Option Entry) → slice_get journal k ≡ Some e → e.volume ≡ v
    → slice_get listed at ≡ own → own ≢ Some e → Agree v listed journal k at
    → DifferFirst listed (part_of v journal) at own (Some e)
differ_at v listed journal k at e own here same_volume is_own apart is =
    let all = part_from v journal k e here same_volume in
    let long = agree_length v listed journal k at is in
    grind (arith, common_steps, take-append_seam, at_seam)

-- the journal has come to its end
agree_whole : (v : ℕ) (listed journal : List Entry) (k at : ℕ) → length journal ≤ k → Agree v listed journal k at → take at listed ≡ part_of v journal
agree_whole v listed journal k at ended is = is.same ∙ ap (λ (es : List Entry). part_of v es) (take_all k journal ended)

-- and the list has not
pub differ_past : (v : ℕ) (listed journal : List Entry) (k at : ℕ) (e : Entry) → length journal ≤ k → slice_get listed at ≡ Some e → Agree v listed journal k at
    → DifferFirst listed (part_of v journal) at (Some e) None
differ_past v listed journal k at e ended is_own is = grind (arith, agree_whole, length_taken, take_all, slice_get_past)

-- ## The counts of a journal, and what a beginning of it says of each volume.

-- ## one more entry

pub part_more_own : (v : ℕ) (entries : List Entry) (e : Entry) → e.volume ≡ v → part_of v (entries ++ e ∷ []) ≡ part_of v entries ++ e ∷ []
part_more_own v entries e own = grind (arith, filter-append, number_is)

pub part_more_other : (v : ℕ) (entries : List Entry) (e : Entry) → e.volume ≢ v → part_of v (entries ++ e ∷ []) ≡ part_of v entries
part_more_other v entries e other = grind (arith, filter-append, number_is_other, append-nil)

pub count_more_own : (entries : List Entry) (e : Entry) → count_of (entries ++ e ∷ []) e.volume ≡ count_of entries e.volume + 1
count_more_own entries e = ap length (part_more_own e.volume entries e refl) ∙ length_push (part_of e.volume entries) e

-- a volume has no more entries than there are
pub count_within : (v : ℕ) (entries : List Entry) → count_of entries v ≤ length entries
count_within v [] = omega arith
count_within v (e ∷ entries) = grind (arith, common_steps, count_within v entries)

pub counts_more : (counts : List ℕ) (entries : List Entry) (e : Entry) (now : ℕ) → e.volume < most_volumes → now ≡ count_of entries e.volume + 1 → AreCounts counts entries
    → AreCounts (slice_set counts e.volume now) (entries ++ e ∷ [])
counts_more counts entries e now in_range is are = grind (arith, length-slice_set, same_number, slice_get-set_same, count_more_own, other_number, slice_get-set_other, part_more_other)

-- ## moments

pub moment_more : (entries : List Entry) (more : List Entry) (c : Cut) → IsMoment entries c → IsMoment (entries ++ more) c
moment_more entries more c is = grind (arith, common_steps, take-append-le)

-- a place is taken for the entry
pub journal_more : (entries : List Entry) (cuts : List Cut) (places : ℕ) (e : Entry) → 0 < places → IsJournal (journal_value entries cuts places)
    → IsJournal (journal_value (entries ++ e ∷ []) cuts (places - 1))
journal_more entries cuts places e taken is = grind (arith, common_steps, length_push, moment_more)

-- parts of which none is off have the journal's counts
pub counts_hold : (entries : List Entry) (parts : List Part) → first_off entries parts ≡ None → All (λ (p : Part). p.count ≡ count_of entries p.volume) parts
counts_hold entries [] none = All-nil (λ (p : Part). p.count ≡ count_of entries p.volume)
counts_hold entries (p ∷ parts) none = grind (arith, common_steps, same_number, counts_hold entries parts)

pub journal_cut : (entries : List Entry) (cuts : List Cut) (places at : ℕ) (parts : List Part) → at ≡ length entries → length cuts < most_cuts → first_off entries parts ≡ None
    → IsJournal (journal_value entries cuts places) → IsJournal (journal_value entries (cuts ++ record { at = at; parts = parts } ∷ []) places)
journal_cut entries cuts places at parts whole room none is = record {
  few = is.few;
  few_cuts = (let l = length_push cuts (record { at = at; parts = parts }) in omega arith);
  moments = All-push (IsMoment entries) cuts (record { at = at; parts = parts }) is.moments (record {
    within = omega arith;
    counts = subst (λ (es : List Entry). All (λ (p : Part). p.count ≡ count_of es p.volume) parts) (sym (take_all at entries (omega arith))) (counts_hold entries parts none);
  });
}

-- ## a beginning of the journal

-- the part of a volume in a beginning of the journal is a beginning of its part
pub part_taken : (v at : ℕ) (entries : List Entry) → take (count_of (take at entries) v) (part_of v entries) ≡ part_of v (take at entries)
part_taken v at entries =
    ap (λ (es : List Entry). take (count_of (take at entries) v) (part_of v es)) (sym (take-append-drop at entries))
    ∙ ap (λ (es : List Entry). take (count_of (take at entries) v) es) (filter-append (λ (x : Entry). x.volume == v) (take at entries) (drop at entries))
    ∙ take-append_seam (part_of v (take at entries)) (part_of v (drop at entries))

pub one_moment : {D : Type 0} → (j : JournalValue) (c : Cut) (p : Part) (first now : ShardValue D) (point : ℕ) → IsImageOf j c p first now point → ShowsMoment j c p now point
one_moment j c p first now point is b = grind (arith, take-map, part_taken)
