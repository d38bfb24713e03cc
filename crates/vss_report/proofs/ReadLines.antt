-- Each line of a report is read as what it tells: a move, an effect, the end of the moves.
use Rattle.std.proofs.Common.{◌≡◌, ◌∙◌, ℕ, zero, suc, ◌+◌, ◌^◌, ◌<◌, ◌≤◌, Bool, true, false, List, [], ◌∷◌, ◌++◌, length, Option, Some, None, refl, ap, sym, subst, find, cond, arith}
use Rattle.std.specs.Prelude.{◌&&◌, nat_le, if◌then◌else◌, is_some, codes}
use Rattle.std.specs.List.{range_with_len}
use Rattle.std.specs.Str.{bytes_eq}
use Rattle.std.specs.Fmt.{decimal}
use Rattle.std.proofs.lemmas.Bool.{cases_eq, false_from_ne_true, or_right}
use Rattle.std.proofs.lemmas.List.{append-nil}
use Rattle.std.proofs.lemmas.Bool.Decides.{nat_tests}
use Rattle.std.proofs.lemmas.Slice.Eq.{bytes_eq-Decides}
use Rattle.std.proofs.lemmas.Grind.{common_steps}
use Rattle.vss_names.specs.declared.order.Order.{Order}
use Rattle.vss_names.specs.declared.vss_result.VssResult.{VssResult}
use Rattle.vss_names.specs.declared.set_outcome.SetOutcome.{SetOutcome}
use Rattle.vss_names.specs.declared.set_outcome.SetOutcome.TheVariants.{Running, Complete, Failed}
use Rattle.vss_names.specs.VssResult as result
use Rattle.vss_names.specs.WriterError as error
use Rattle.vss_names.specs.Order as order
use Rattle.write_history.specs.declared.evicted.Evicted.{Evicted}
use Rattle.write_history.specs.declared.actor.Actor.TheVariants.{Lane, Writer}
use Rattle.write_history.specs.declared.mark.Mark.{Mark}
use Rattle.write_history.specs.declared.mark.Mark.TheVariants.{Clean, Fault}
use Rattle.write_history.specs.declared.move_item.Move.{Move as Step}
use Rattle.write_history.specs.declared.trail.TheConstants.{MOST_MOVES}
use Rattle.writer_calls.specs.declared.answer.Answer.{Answer}
use Rattle.set_agenda.specs.declared.group.Group.{Group}
use Rattle.set_agenda.specs.declared.group.Group.TheVariants.{Orders, PreCommit, Flush, Hold, Cut, Commit, Release, PostCommit}
use Rattle.scenario.specs.Plan.{Plan}
use Rattle.vss_model.specs.State.{is_running}
use Rattle.vss_report.specs.declared.line_kind.LineKind.{LineKind}
use Rattle.vss_report.specs.declared.line_kind.LineKind.TheVariants.{Move, Effect, End, Bad}
use Rattle.vss_report.specs.Words.{spaced, volume_text, writer_text, lane_text, answer_text, step_text, of_volume, fault_if, outcome_text}
use Rattle.vss_report.specs.Shapes.{named, writer_named, is_number, is_answer, is_order, is_volume, is_result, writer_move, are_two, mark_of_reply, mark_of_step, mark_of_idle, move_in, is_all, then_count, is_next, kind_of_move, kind_of_words, kind_of}
use Rattle.vss_report.specs.Legible.{IsShort, AreApart, AreNames, IsLegible, IsVolumeStep, IsStep, IsLegibleImage}
use Rattle.vss_report.proofs.Joined.{is_free, both}
use Rattle.vss_report.proofs.LegibleWords.{IsWord, same_bytes, are_digits, no_number, is_number_back, name_word, result_word, order_word, is_result_back}
use Rattle.vss_report.proofs.LegibleWords.{is_order_back, is_error_back, Says, says_word, says_number, says_spaced, says_then}

-- ## names

same_text : (a b : List ℕ) → bytes_eq a b ≡ true → a ≡ b
same_text a b e = (bytes_eq-Decides a b).0 e

first_is : (b : Bool) (x y : Option ℕ) → b ≡ true → cond b x y ≡ x
first_is b x y e = grind arith

rest_is : (b : Bool) (x y : Option ℕ) → b ≡ false → cond b x y ≡ y
rest_is b x y e = grind arith

less : (x y : ℕ) → x ≤ y → (x ≡ y → ⊥) → x + 1 ≤ y
less x y l f = grind arith

-- the first with its name is the thing itself, where names are apart
found_from : (name_of : ℕ → List ℕ) (i a n : ℕ) → a ≤ i → i < a + n → ((j : ℕ) → j < a + n → name_of j ≡ name_of i → j ≡ i)
    → find (λ j. bytes_eq (name_of j) (name_of i)) (range_with_len a n) ≡ Some i
found_from name_of i a zero h l apart = absurd (omega arith)
found_from name_of i a (suc n) h l apart =
    grind (arith, common_steps, cases_eq, first_is, same_bytes, rest_is, false_from_ne_true, same_text, less, found_from name_of i (a + 1) n)

pub found : (name_of : ℕ → List ℕ) (count i : ℕ) → AreApart name_of count → i < count → named name_of count (name_of i) ≡ Some i
found name_of count i apart h = found_from name_of i 0 count (omega arith) (omega arith) (λ j l e. apart j i (omega arith) h e)

some_head : (b : Bool) (x : ℕ) (y : Option ℕ) → is_some y ≡ true → is_some (cond b (Some x) y) ≡ true
some_head b x y e = grind arith

-- one of that name is found, where one has it
some_from : (name_of : ℕ → List ℕ) (i a n : ℕ) → a ≤ i → i < a + n → is_some (find (λ j. bytes_eq (name_of j) (name_of i)) (range_with_len a n)) ≡ true
some_from name_of i a zero h l = absurd (omega arith)
some_from name_of i a (suc n) h l = grind (arith, common_steps, cases_eq, first_is, same_bytes, some_head, less, some_from name_of i (a + 1) n)

pub is_volume_back : (s : Plan) (v : ℕ) → v < length s.volumes → is_volume s (volume_text s v) ≡ true
is_volume_back s v h = some_from (volume_text s) v 0 (length s.volumes) (omega arith) (omega arith)

-- ## moves, by the words behind their number

pub lane_back : (s : Plan) (i line : ℕ) (m : Mark) (words : List (List ℕ)) → AreApart (lane_text s) (length s.lanes) → i < length s.lanes → IsShort line → mark_of_reply s words ≡ Some m
    → move_in s (codes "lane" ∷ lane_text s i ∷ decimal line ∷ words) ≡ Some (record { actor = Lane i; mark = m })
lane_back s i line m words apart h short e = grind (arith, common_steps, found (lane_text s) (length s.lanes) i apart h, is_number_back line short)

is_answer_back : (a : Answer) → is_answer (answer_text a) ≡ true
is_answer_back a = grind (arith, or_right, is_error_back)

pub says_answer : (o : Order) (a : Answer) → Says (order.name_of o ++ spaced (answer_text a)) (order.name_of o ∷ answer_text a ∷ [])
says_answer o a = grind arith

pub writer_back : (s : Plan) (w : ℕ) (o : Order) (a : Answer) → AreApart (writer_text s) (length s.writers) → w < length s.writers
    → move_in s (codes "writer" ∷ writer_text s w ∷ order.name_of o ∷ answer_text a ∷ []) ≡ Some (record { actor = Writer w; mark = Clean })
writer_back s w o a apart h =
    ap (λ x. writer_move x (are_two is_order is_answer (order.name_of o ∷ answer_text a ∷ []))) (found (writer_text s) (length s.writers) w apart h)
    ∙ ap (writer_move (Some w)) (both (is_order (order.name_of o)) (is_answer (answer_text a) && true) (is_order_back o) (both (is_answer (answer_text a)) true (is_answer_back a) refl))

clean_if : Bool → Option Mark
clean_if b = if b then Some Clean else None

-- a text is read as a step of the provider with this mark
pub record IsStepAs (s : Plan) (text : List ℕ) (mark : Mark) : Type 0 where
  pub words : List (List ℕ)
  pub says : Says text words
  pub mark_is : mark_of_step s words ≡ Some mark

marked_step : (s : Plan) (text : List ℕ) (m own : Mark) → m ≡ own → IsStepAs s text own → IsStepAs s text m
marked_step s text m own e h = subst (IsStepAs s text) (sym e) h

-- a step without a volume
alone_step : (s : Plan) (m : Mark) (name : List ℕ) (v : Option ℕ) (fault : Bool) → m ≡ Clean → v ≡ None → fault ≡ false → IsStepAs s (name ++ [] ++ []) Clean → IsStepAs s (name ++ of_volume s v ++ fault_if fault) m
alone_step s m name v fault e f g h = grind arith

-- a step of a volume
volume_step : (s : Plan) (m : Mark) (name : List ℕ) (v : Option ℕ) (fault : Bool) → m ≡ Clean → IsVolumeStep s v → fault ≡ false
    → ((u : ℕ) → u < length s.volumes → IsStepAs s (name ++ spaced (volume_text s u) ++ []) Clean) → IsStepAs s (name ++ of_volume s v ++ fault_if fault) m
volume_step s m name v fault e f g h = grind arith

says_nothing : (a : List ℕ) (ws : List (List ℕ)) → Says a ws → Says (a ++ []) ws
says_nothing a ws h = subst (λ text. Says text ws) (sym (append-nil a)) h

says_volume : (s : Plan) (name : List ℕ) (u : ℕ) → AreNames (volume_text s) (length s.volumes) → u < length s.volumes → IsWord name → Says (name ++ spaced (volume_text s u) ++ []) (name ∷ volume_text s u ∷ [])
says_volume s name u named h word = says_nothing (name ++ spaced (volume_text s u)) (name ∷ volume_text s u ∷ []) (says_spaced name (volume_text s u) (name ∷ []) (volume_text s u ∷ []) (says_word name word) (says_word (volume_text s u) (name_word (volume_text s u) (named u h))))

flush_clean : (s : Plan) (u : ℕ) → AreNames (volume_text s) (length s.volumes) → u < length s.volumes → IsStepAs s (codes "flush" ++ spaced (volume_text s u) ++ []) Clean
flush_clean s u named h = record {
  words = codes "flush" ∷ volume_text s u ∷ [];
  says = says_volume s (codes "flush") u named h (record { space = refl; line = refl });
  mark_is = ap (λ (b : Bool). if b then Some Clean else None) (is_volume_back s u h);
}

flush_fault : (s : Plan) (u : ℕ) → AreNames (volume_text s) (length s.volumes) → u < length s.volumes → IsStepAs s (codes "flush" ++ spaced (volume_text s u) ++ codes " fault") Fault
flush_fault s u named h = record {
  words = codes "flush" ∷ volume_text s u ∷ codes "fault" ∷ [];
  says = says_spaced (codes "flush" ++ spaced (volume_text s u)) (codes "fault") (codes "flush" ∷ volume_text s u ∷ []) (codes "fault" ∷ [])
      (says_spaced (codes "flush") (volume_text s u) (codes "flush" ∷ []) (volume_text s u ∷ []) (record { pieces_are = refl; line = refl }) (says_word (volume_text s u) (name_word (volume_text s u) (named u h))))
      (record { pieces_are = refl; line = refl });
  mark_is = ap (λ (b : Bool). if b then Some Fault else None) (is_volume_back s u h);
}

faulted_step : (s : Plan) (m : Mark) (v : Option ℕ) → AreNames (volume_text s) (length s.volumes) → m ≡ Fault → IsVolumeStep s v → IsStepAs s (codes "flush" ++ of_volume s v ++ codes " fault") m
faulted_step s m None named e f = absurd f
faulted_step s m (Some u) named e f = marked_step s (codes "flush" ++ spaced (volume_text s u) ++ codes " fault") m Fault e (flush_fault s u named f)

hold_back : (s : Plan) (u : ℕ) → AreNames (volume_text s) (length s.volumes) → u < length s.volumes → IsStepAs s (codes "hold" ++ spaced (volume_text s u) ++ []) Clean
unfolding clean_if
hold_back s u named h = record {
  words = codes "hold" ∷ volume_text s u ∷ [];
  says = says_volume s (codes "hold") u named h (record { space = refl; line = refl });
  mark_is = ap (λ b. clean_if (b && true)) (is_volume_back s u h);
}

commit_back : (s : Plan) (u : ℕ) → AreNames (volume_text s) (length s.volumes) → u < length s.volumes → IsStepAs s (codes "commit" ++ spaced (volume_text s u) ++ []) Clean
unfolding clean_if
commit_back s u named h = record {
  words = codes "commit" ∷ volume_text s u ∷ [];
  says = says_volume s (codes "commit") u named h (record { space = refl; line = refl });
  mark_is = ap (λ b. clean_if (b && true)) (is_volume_back s u h);
}

release_back : (s : Plan) (u : ℕ) → AreNames (volume_text s) (length s.volumes) → u < length s.volumes → IsStepAs s (codes "release" ++ spaced (volume_text s u) ++ []) Clean
unfolding clean_if
release_back s u named h = record {
  words = codes "release" ∷ volume_text s u ∷ [];
  says = says_volume s (codes "release") u named h (record { space = refl; line = refl });
  mark_is = ap (λ b. clean_if (b && true)) (is_volume_back s u h);
}

pub step_back : (s : Plan) (m : Mark) (g : Group) (v : Option ℕ) (fault : Bool) → AreNames (volume_text s) (length s.volumes) → IsStep s m g v fault → IsStepAs s (step_text g ++ of_volume s v ++ fault_if fault) m
step_back s m (Orders o) v fault named h = absurd h
step_back s m PreCommit v fault named h = alone_step s m (codes "precommit") v fault h.0 h.1 h.2 (record { words = codes "precommit" ∷ []; says = record { pieces_are = refl; line = refl }; mark_is = refl })
step_back s m Flush v true named h = faulted_step s m v named h.0 h.1
step_back s m Flush v false named h = volume_step s m (codes "flush") v false h.0 h.1 refl (λ u l. flush_clean s u named l)
step_back s m Hold v fault named h = volume_step s m (codes "hold") v fault h.0 h.1 h.2 (λ u l. hold_back s u named l)
step_back s m Cut v fault named h = alone_step s m (codes "cut") v fault h.0 h.1 h.2 (record { words = codes "cut" ∷ []; says = record { pieces_are = refl; line = refl }; mark_is = refl })
step_back s m Commit v fault named h = volume_step s m (codes "commit") v fault h.0 h.1 h.2 (λ u l. commit_back s u named l)
step_back s m Release v fault named h = volume_step s m (codes "release") v fault h.0 h.1 h.2 (λ u l. release_back s u named l)
step_back s m PostCommit v fault named h = alone_step s m (codes "postcommit") v fault h.0 h.1 h.2 (record { words = codes "postcommit" ∷ []; says = record { pieces_are = refl; line = refl }; mark_is = refl })

pub idle_back : (n : ℕ) → IsShort n → mark_of_idle (decimal n ∷ []) ≡ Some Clean
unfolding clean_if
idle_back n short = ap (λ b. clean_if (b && true)) (is_number_back n short)

-- ## lines

-- a line is read as this, where move n is the next
pub record IsReadLine (s : Plan) (n : ℕ) (line : List ℕ) (kind : LineKind) : Type 0 where
  pub free : is_free 10 line ≡ true
  pub kind_is : kind_of s n line ≡ kind

line_of : (s : Plan) (n : ℕ) (line : List ℕ) (words : List (List ℕ)) (kind : LineKind) → Says line words → kind_of_words s n words ≡ kind → IsReadLine s n line kind
unfolding kind_of
line_of s n line words kind h e = record { free = h.line; kind_is = ap (kind_of_words s n) h.pieces_are ∙ e }

picks : (a b c : Bool) (x y z w : LineKind) → a ≡ false → b ≡ false → c ≡ true → (if a then x else if b then y else if c then z else w) ≡ z
picks a b c x y z w e f g = grind arith

few_enough : (n most : ℕ) → n ≤ most → nat_le n most ≡ true
few_enough n most h = grind (arith, nat_tests)

-- a line that begins with the number of the next move
pub move_line : (s : Plan) (n : ℕ) (text : List ℕ) (words : List (List ℕ)) (m : Step) → n ≤ MOST_MOVES → Says text words → move_in s words ≡ Some m → IsReadLine s n (decimal n ++ spaced text) (Move m)
move_line s n text words m few h e =
    let small : n < 2 ^ 64 = omega arith in
    line_of s n (decimal n ++ spaced text) (decimal n ∷ words) (Move m) (says_spaced (decimal n) text (decimal n ∷ []) words (says_number n small) h)
    (picks (bytes_eq (decimal n) (codes "=")) (bytes_eq (decimal n) (codes "end")) (is_next n (decimal n)) _ _ (kind_of_move (move_in s words)) Bad
    (no_number 61 [] (decimal n) refl (are_digits n small)) (no_number 101 (110 ∷ 100 ∷ []) (decimal n) refl (are_digits n small))
    (both (nat_le n MOST_MOVES) (bytes_eq (decimal n) (decimal n)) (few_enough n MOST_MOVES few) (same_bytes (decimal n)))
    ∙ ap kind_of_move e)

effect_if : Bool → LineKind
effect_if b = if b then Effect else Bad

pub evicted_line : (s : Plan) (n : ℕ) (e : Evicted) → AreNames (volume_text s) (length s.volumes) → IsLegibleImage s e → IsReadLine s n (codes "= evicted " ++ decimal e.set ++ of_volume s (Some e.volume)) Effect
unfolding effect_if
evicted_line s n e named h =
    let name : List ℕ = volume_text s e.volume in
    line_of s n (codes "= evicted " ++ decimal e.set ++ spaced name) (codes "=" ∷ codes "evicted" ∷ decimal e.set ∷ name ∷ []) Effect
    (says_spaced (codes "= evicted " ++ decimal e.set) name (codes "=" ∷ codes "evicted" ∷ decimal e.set ∷ []) (name ∷ [])
    (let d = says_number e.set h.0 in record { pieces_are = ap (λ ps. codes "=" ∷ codes "evicted" ∷ ps) d.pieces_are; line = d.line })
    (says_word name (name_word name (named e.volume h.1))))
    (ap effect_if (both (is_number (decimal e.set)) (is_volume s name && true) (is_number_back e.set h.0) (both (is_volume s name) true (is_volume_back s e.volume h.1) refl)))

pub lost_line : (s : Plan) (n w : ℕ) (o : Order) → IsLegible s → w < length s.writers → IsReadLine s n (codes "= writer " ++ writer_text s w ++ codes " lost " ++ order.name_of o) Effect
unfolding effect_if
lost_line s n w o legible h =
    let name : List ℕ = writer_text s w in
    line_of s n (codes "= writer " ++ name ++ codes " lost " ++ order.name_of o) (codes "=" ∷ codes "writer" ∷ name ∷ codes "lost" ∷ order.name_of o ∷ []) Effect
    (says_then (codes "= writer " ++ name) (codes "lost ") (order.name_of o) (codes "=" ∷ codes "writer" ∷ name ∷ []) (codes "lost" ∷ order.name_of o ∷ [])
    (let d = says_word name (name_word name (legible.writers w h)) in record { pieces_are = ap (λ ps. codes "=" ∷ codes "writer" ∷ ps) d.pieces_are; line = d.line })
    (let d = says_word (order.name_of o) (order_word o) in record { pieces_are = ap (λ ps. codes "lost" ∷ ps) d.pieces_are; line = d.line }))
    (ap effect_if (both (is_some (writer_named s name)) (is_order (order.name_of o) && true) (ap is_some (found (writer_text s) (length s.writers) w legible.writers_apart h)) (both (is_order (order.name_of o)) true (is_order_back o) refl)))

complete_line : (s : Plan) (n set : ℕ) → IsShort set → IsReadLine s n (codes "= set " ++ decimal set ++ codes " complete") Effect
unfolding effect_if
complete_line s n set h =
    line_of s n (codes "= set " ++ decimal set ++ codes " complete") (codes "=" ∷ codes "set" ∷ decimal set ∷ codes "complete" ∷ []) Effect
    (says_spaced (codes "= set " ++ decimal set) (codes "complete") (codes "=" ∷ codes "set" ∷ decimal set ∷ []) (codes "complete" ∷ [])
    (let d = says_number set h in record { pieces_are = ap (λ ps. codes "=" ∷ codes "set" ∷ ps) d.pieces_are; line = d.line })
    (record { pieces_are = refl; line = refl }))
    (ap effect_if (both (is_number (decimal set)) true (is_number_back set h) refl))

failed_line : (s : Plan) (n set : ℕ) (why : VssResult) → IsShort set → IsReadLine s n (codes "= set " ++ decimal set ++ (codes " failed " ++ result.name_of why)) Effect
unfolding effect_if
failed_line s n set why h =
    line_of s n (codes "= set " ++ decimal set ++ (codes " failed " ++ result.name_of why)) (codes "=" ∷ codes "set" ∷ decimal set ∷ codes "failed" ∷ result.name_of why ∷ []) Effect
    (says_spaced (codes "= set " ++ decimal set) (codes "failed " ++ result.name_of why) (codes "=" ∷ codes "set" ∷ decimal set ∷ []) (codes "failed" ∷ result.name_of why ∷ [])
    (let d = says_number set h in record { pieces_are = ap (λ ps. codes "=" ∷ codes "set" ∷ ps) d.pieces_are; line = d.line })
    (let d = says_word (result.name_of why) (result_word why) in record { pieces_are = ap (λ ps. codes "failed" ∷ ps) d.pieces_are; line = d.line }))
    (ap effect_if (both (is_number (decimal set)) (is_result (result.name_of why) && true) (is_number_back set h) (both (is_result (result.name_of why)) true (is_result_back why) refl)))

pub set_line : (s : Plan) (n set : ℕ) (o : SetOutcome) → IsShort set → is_running o ≡ false → IsReadLine s n (codes "= set " ++ decimal set ++ outcome_text o) Effect
set_line s n set Running h over = absurd cc
set_line s n set Complete h over = complete_line s n set h
set_line s n set (Failed why) h over = failed_line s n set why h

abbrev no_words : List (List ℕ)
no_words = []

end_if : Bool → LineKind
end_if b = if b then End else Bad

pub end_line : (s : Plan) (n moves clock : ℕ) → IsShort moves → IsShort clock → IsReadLine s n (codes "end moves " ++ decimal moves ++ codes " clock " ++ decimal clock) End
unfolding end_if
end_line s n moves clock h k =
    line_of s n (codes "end moves " ++ decimal moves ++ codes " clock " ++ decimal clock) (codes "end" ∷ codes "moves" ∷ decimal moves ∷ codes "clock" ∷ decimal clock ∷ []) End
    (says_then (codes "end moves " ++ decimal moves) (codes "clock ") (decimal clock) (codes "end" ∷ codes "moves" ∷ decimal moves ∷ []) (codes "clock" ∷ decimal clock ∷ [])
    (let d = says_number moves h in record { pieces_are = ap (λ ps. codes "end" ∷ codes "moves" ∷ ps) d.pieces_are; line = d.line })
    (let d = says_number clock k in record { pieces_are = ap (λ ps. codes "clock" ∷ ps) d.pieces_are; line = d.line }))
    (ap (λ (x : Bool). end_if (is_all (then_count (codes "clock") (if x then Some (codes "clock" ∷ decimal clock ∷ []) else None)))) (is_number_back moves h)
    ∙ ap (λ (x : Bool). end_if (is_all (if x then Some no_words else None))) (is_number_back clock k))
