-- A run that was played to its end has the report of its trail; and a run by the moves of a report, beside the text.
use Rattle.std.proofs.Common.{◌≡◌, ℕ, ◌+◌, ◌≤◌, List, [], ◌∷◌, ◌++◌, refl, ap, sym, ◌∙◌, arith, Bool, true, Option, subst, cond, inl, inr, Some, None}
use Rattle.std.proofs.lemmas.List.Sums.{sum_by-cons, sum_by-append}
use Rattle.std.specs.Prelude.{map, sum, ◌⊎◌, IsTrue, Result, Ok, Err, IfOk}
use Rattle.vss_names.specs.Faults.{most}
use Rattle.vss_names.specs.Names.{TextValue}
use Rattle.volume_device.specs.declared.device.Device.{Ghosts}
use Rattle.write_history.specs.declared.mark.Mark.{Mark}
use Rattle.write_history.specs.declared.mark.Mark.TheVariants.{Clean}
use Rattle.write_history.specs.declared.move_item.Move.{Move}
use Rattle.cow_volume.specs.Calls.{NeverFails}
use Rattle.cow_volume.proofs.RestoringMerged.{no_rise}
use Rattle.scenario.specs.Plan.{Plan}
use Rattle.vss_model.specs.Trail.{is_complete, is_fault, faults, is_legal}
use Rattle.vss_report.specs.Report.{IsReport}
use Rattle.vss_report.specs.ToldLines.{all_tell, told_report}
use Rattle.vss_report.proofs.Telling.{only_told_report}
use Rattle.vss_world.specs.Stands.{tells_of}
use Rattle.vss_play.specs.Acting.{IsLedBy}
use Rattle.vss_play.specs.Played.{Played, IsFresh, IsKept, IsOnward, IsPlayedInTurn, IsEnded, AreInTurn, tells_in}
use Rattle.vss_play.specs.declared.play_fault.PlayFault.{PlayFault}
use Rattle.vss_play.proofs.FaultMarks.{complete_moved}
use Rattle.orders.specs.Again.{IsRead, IsFollowedFar, IsReplayed, IsCompared, IsAgain, IsAgainOver, IsReplayOver, IsSame, IsSameOver, without_marks, OtherLine}
use Rattle.orders.specs.Again.{first_other}
use Rattle.orders.specs.Drawn.{AreDrawn, IsPlayedAsDrawn}
use Rattle.orders.specs.Followed.{actors_of, IsFollowed, IsHaltedAt, IsEndedInTurn}
use Rattle.orders.specs.Runs.{IsOfTrail, IsOrdered, IsOfSeed, IsHalted, IsUnplayed, unplayed_at}
use Rattle.orders.specs.declared.entry.Entry.{Entry}
use Rattle.orders.specs.declared.halted.Halted.{Halted}
use Rattle.orders.specs.declared.halted.Halted.TheVariants.{At}
use Rattle.orders.specs.declared.halted.Halted.TheVariants as halt
use Rattle.orders.specs.declared.replayed.Replayed.{Replayed}
use Rattle.orders.specs.declared.replayed.Replayed.TheVariants.{Same, Differs, ScenarioRefused, DeviceFault, OutOfMemory}
use Rattle.orders.specs.declared.why.Why.{Why}
use Rattle.orders.proofs.Replay.{parts, same_text, none_of_report, moves_back, replays_it}

-- ## A run that was played to its end has the report of its trail.

none_counted : {D : Type 0} (count : D → ℕ) → NeverFails count → (ds : List D) → sum (map count ds) ≡ 0
none_counted count never [] = refl
none_counted count never (d ∷ ds) =
    let all = sum_by-cons (λ (n : ℕ). n) (count d) (map count ds) in
    let here = never d in
    let rest = none_counted count never ds in
    omega arith

-- where no device ever fails, a run goes on without a fault mark
pub none_marked : {D : Type 0} (ghosts : Ghosts D) (p q : Played D) (h : IsOnward ghosts p q) → NeverFails ghosts.count → faults h.rest ≡ 0
none_marked ghosts p q h never =
    none (faults h.rest) (sum (map ghosts.count p.devices)) (sum (map ghosts.count q.devices)) (none_counted ghosts.count never q.devices) h.faults
  where
    none : (n a b : ℕ) → b ≡ 0 → (n + a ≤ b) ⊎ (most ≤ b) → n ≡ 0
    none n a b e (inl l) = omega arith
    none n a b e (inr l) = omega arith

pub both_none : (one two : List Move) → faults one ≡ 0 → faults two ≡ 0 → faults (one ++ two) ≡ 0
both_none one two e f = let all = sum_by-append (λ (m : Move). cond (is_fault m.mark) 1 0) one two in omega arith

-- a run as it stands before its end: its plan, its trail, and which volumes tell
pub record StandsAt {D : Type 0} (told : D → Option (List (List ℕ))) (tells : Bool) (s : Plan) (trail : List Move) (q : Played D) : Type 0 where
  pub plan : q.plan ≡ s
  pub trail_is : q.trail ≡ trail
  pub tell : IsTrue tells → tells_in told q ≡ all_tell s

unfoldable pub onward_stands : {D : Type 0} (ghosts : Ghosts D) (tells : Bool) (s : Plan) (p q : Played D) → IsFresh ghosts tells s p
    → (h : IsOnward ghosts p q) → StandsAt ghosts.told tells s h.rest q
onward_stands ghosts tells s p q fresh h = record {
  plan = h.plan ∙ fresh.plan;
  trail_is = h.trail ∙ ap (λ (ms : List Move). ms ++ h.rest) fresh.trail;
  tell = λ t. h.tells ∙ fresh.tell t;
}

pub stands_on : {D : Type 0} (ghosts : Ghosts D) (tells : Bool) (s : Plan) (trail : List Move) (q r : Played D) → StandsAt ghosts.told tells s trail q
    → (h : IsOnward ghosts q r) → StandsAt ghosts.told tells s (trail ++ h.rest) r
stands_on ghosts tells s trail q r at h = record {
  plan = h.plan ∙ at.plan;
  trail_is = h.trail ∙ ap (λ (ms : List Move). ms ++ h.rest) at.trail_is;
  tell = λ t. h.tells ∙ at.tell t;
}

pub of_trail : {D : Type 0} (ghosts : Ghosts D) (tells : Bool) (s : Plan) (trail : List Move) (q : Played D)
    (places : ℕ) (kept_first kept_last : Option (List D)) (first last : ℕ) (text : TextValue)
    → StandsAt ghosts.told tells s trail q → is_complete q.plan q.trail ≡ true → IsEnded ghosts q places kept_first kept_last first last (Ok text) → IsOfTrail tells s trail text.bytes
of_trail {D} ghosts tells s trail q places kept_first kept_last first last text at complete ended =
    let r : Played D = ended.new in
    let quiet = ended.quiet in
    let kept = ended.keeps in
    let plan_is : r.plan ≡ s = quiet.plan ∙ at.plan in
    let trail_is : r.trail ≡ trail = quiet.trail ∙ at.trail_is in
    let tell : IsTrue tells → tells_of ghosts.told r.plan r.devices ≡ all_tell r.plan = λ t. quiet.tells ∙ at.tell t
    ∙ ap (λ (x : Plan). all_tell x) (sym plan_is) in
    subst (λ (x : Plan). IsOfTrail tells x trail text.bytes) plan_is (subst (λ (ms : List Move). IsOfTrail tells r.plan ms text.bytes) trail_is (record {
      legal = kept.legal;
      complete = complete_moved ghosts q r quiet complete;
      only = λ t. only_told_report r.plan r.trail text.bytes (subst (λ (bs : List Bool). IsReport r.plan bs r.trail text.bytes) (tell t) ended.ends.0);
    }))

-- ## by an order

pub in_turn_as : {D : Type 0} (told : D → Option (List (List ℕ))) (tells : Bool) (s : Plan) (trail : List Move) (q : Played D) (rest : List Move) → StandsAt told tells s trail q
    → AreInTurn q.plan q.trail rest → AreInTurn s trail rest
in_turn_as told tells s trail q rest at h = subst (λ (ms : List Move). AreInTurn s ms rest) at.trail_is (subst (λ (x : Plan). AreInTurn x q.trail rest) at.plan h)

pub ended_in_turn : {D : Type 0} (ghosts : Ghosts D) (p q : Played D) (places : ℕ) (kept_first kept_last : Option (List D))
    (first last : ℕ) (result : Result TextValue PlayFault)
    → IsPlayedInTurn ghosts p q → IsEnded ghosts q places kept_first kept_last first last result → IfOk result (IsEndedInTurn ghosts p)
ended_in_turn ghosts p q places kept_first kept_last first last (Ok text) turned ended =
    record { last = q; turned = turned; places = places; kept_before = kept_first; kept_now = kept_last; count_before = first; count_now = last; ended = ended }
ended_in_turn ghosts p q places kept_first kept_last first last (Err e) turned ended = tt

-- the report of what was made first and of what came in turn
pub of_trail_in_turn : {D : Type 0} (ghosts : Ghosts D) (tells : Bool) (s : Plan) (first : List Move) (q : Played D)
    (text : TextValue) → StandsAt ghosts.told tells s first q → (h : IsEndedInTurn ghosts q text) → IsOfTrail tells s (first ++ h.turned.played.onward.rest) text.bytes
of_trail_in_turn ghosts tells s first q text at h =
    of_trail ghosts tells s _ h.last h.places h.kept_before h.kept_now h.count_before h.count_now text (stands_on ghosts tells s first q h.last at h.turned.played.onward)
    h.turned.played.complete h.ended

pub ordered : {D : Type 0} (ghosts : Ghosts D) (tells : Bool) (s : Plan) (entries : List Entry) (p q : Played D)
    (text : TextValue) → IsFresh ghosts tells s p → IsLedBy ghosts p (actors_of entries) q → IsEndedInTurn ghosts q text → IsOrdered ghosts.count tells s entries text.bytes
unfolding onward_stands
ordered ghosts tells s entries p q text fresh led h =
    let begun = onward_stands ghosts tells s p q fresh led.onward in
    record {
      first = led.onward.rest;
      rest = h.turned.played.onward.rest;
      begins = led.by;
      in_turn = in_turn_as ghosts.told tells s led.onward.rest q h.turned.played.onward.rest begun h.turned.in_turn;
      reported = record {
        of_trail = of_trail_in_turn ghosts tells s led.onward.rest q text begun h;
        unmarked = λ never. both_none led.onward.rest h.turned.played.onward.rest (none_marked ghosts p q led.onward never) (none_marked ghosts q h.last h.turned.played.onward never);
      };
    }

-- the moves before an entry that may not come
pub halted : {D : Type 0} (ghosts : Ghosts D) (tells : Bool) (s : Plan) (entries : List Entry) (p q : Played D) (entry : Entry) (why : Why)
    → IsFresh ghosts tells s p → IsHaltedAt ghosts p q entries entry why → IsKept ghosts.told q → IsHalted ghosts.count s entries entry why
halted {D} ghosts tells s entries p q entry why fresh h kept =
    let plan_is : q.plan ≡ s = h.led.onward.plan ∙ fresh.plan in
    let begins = onward_stands ghosts tells s p q fresh h.led.onward in
    subst (λ (x : Plan). IsHalted ghosts.count x entries entry why) plan_is (record {
      place = h.place;
      is_entry = h.is_entry;
      trail = q.trail;
      legal = kept.legal;
      begins = ap (λ (ms : List Move). map (λ (m : Move). m.actor) ms) begins.trail_is ∙ h.led.by;
      may_not = h.may_not;
      unmarked = λ never. ap faults begins.trail_is ∙ none_marked ghosts p q h.led.onward never;
    })

pub unplayed_so : {D : Type 0} (ghosts : Ghosts D) (tells : Bool) (s : Plan) (entries : List Entry) (p q : Played D) (first last : ℕ) (halted_by : Halted)
    → IsFresh ghosts tells s p → IsFollowed ghosts p q entries (Err halted_by) → IsKept ghosts.told q
    → IsUnplayed ghosts.count s entries first last (unplayed_at halted_by)
unplayed_so ghosts tells s entries p q first last (At entry why) fresh h kept = halted ghosts tells s entries p q entry why fresh h kept
unplayed_so ghosts tells s entries p q first last halt.OutOfMemory fresh h kept = tt

-- ## by draws

pub of_seed : {D : Type 0} (ghosts : Ghosts D) (tells : Bool) (s : Plan) (number : ℕ) (p r : Played D)
    (places : ℕ) (kept_first kept_last : Option (List D)) (first last : ℕ) (text : TextValue)
    → IsFresh ghosts tells s p → IsPlayedAsDrawn ghosts number p r → IsEnded ghosts r places kept_first kept_last first last (Ok text) → IsOfSeed ghosts.count tells s number text.bytes
of_seed ghosts tells s number p r places kept_first kept_last first last text fresh drawn ended =
    let whole = onward_stands ghosts tells s p r fresh drawn.onward in
    record {
      trail = drawn.onward.rest;
      drawn = subst (λ (ms : List Move). AreDrawn s number ms drawn.onward.rest) fresh.trail (subst (λ (x : Plan). AreDrawn x number p.trail drawn.onward.rest) fresh.plan drawn.drawn);
      reported = record {
        of_trail = of_trail ghosts tells s _ r places kept_first kept_last first last text whole drawn.complete ended;
        unmarked = λ never. none_marked ghosts p r drawn.onward never;
      };
    }

pub of_seed_if : {D : Type 0} (ghosts : Ghosts D) (tells : Bool) (s : Plan) (number : ℕ) (p r : Played D)
    (places : ℕ) (kept_first kept_last : Option (List D)) (first last : ℕ) (result : Result TextValue PlayFault)
    → IsFresh ghosts tells s p → IsPlayedAsDrawn ghosts number p r → IsEnded ghosts r places kept_first kept_last first last result
    → IfOk result (λ text. IsOfSeed ghosts.count tells s number text.bytes)
of_seed_if ghosts tells s number p r places kept_first kept_last first last
    (Ok text) fresh drawn ended = of_seed ghosts tells s number p r places kept_first kept_last first last text fresh drawn ended
of_seed_if ghosts tells s number p r places kept_first kept_last first last (Err e) fresh drawn ended = tt

-- ## A run by the moves of a report, from its beginning to its own report, and that beside the text.

-- ## to the report

replayed : {D : Type 0} (ghosts : Ghosts D) (tells : Bool) (s : Plan) (moves : List Move) (p q : Played D)
    (text : TextValue) → IsFresh ghosts tells s p → IsFollowedFar ghosts p q moves → IsEndedInTurn ghosts q text → IsReplayed ghosts.count tells s moves text.bytes
replayed ghosts tells s moves p q text fresh far h =
    let rest = h.turned.played.onward.rest in
    let made : q.trail ≡ far.made = far.trail ∙ ap (λ (ms : List Move). ms ++ far.made) fresh.trail in
    let begun : StandsAt ghosts.told tells s far.made q = record { plan = far.plan ∙ fresh.plan; trail_is = made; tell = λ t. far.tells ∙ fresh.tell t } in
    record {
      first = far.made;
      rest = rest;
      in_turn = in_turn_as ghosts.told tells s far.made q rest begun h.turned.in_turn;
      reported = of_trail_in_turn ghosts tells s far.made q text begun h;
      exact = λ never legal. sym made ∙ far.exact never
          (subst (λ (x : Plan). is_legal x (p.trail ++ moves) ≡ true) (sym fresh.plan) (subst (λ (ms : List Move). is_legal s (ms ++ moves) ≡ true) (sym fresh.trail) legal))
          ∙ ap (λ (ms : List Move). ms ++ moves) fresh.trail;
      unmarked = λ never none. both_none far.made rest (ap faults (sym made) ∙ far.unmarked never none ∙ ap faults fresh.trail) (none_marked ghosts q h.last h.turned.played.onward never);
    }

pub replayed_if : {D : Type 0} (ghosts : Ghosts D) (tells : Bool) (s : Plan) (moves : List Move) (p q : Played D)
    (result : Result TextValue PlayFault) → IsFresh ghosts tells s p → IsFollowedFar ghosts p q moves → IfOk result (IsEndedInTurn ghosts q)
    → IfOk result (λ text. IsReplayed ghosts.count tells s moves text.bytes)
replayed_if ghosts tells s moves p q (Ok text) fresh far h = replayed ghosts tells s moves p q text fresh far h
replayed_if ghosts tells s moves p q (Err e) fresh far h = tt

-- ## beside the text

no_other : (o : Option OtherLine) (x : OtherLine) → o ≡ None → o ≡ Some x → ⊥
no_other o x e f = cc

pub compared_so : {D : Type 0} (count : D → ℕ) (tells : Bool) (s : Plan) (moves : List Move) (given report : List ℕ) (before after : ℕ) (result : Replayed)
    → IsReplayed count tells s moves report → IsCompared given report result → IsReplayOver count tells s moves given before after result
compared_so count tells s moves given report before after Same h compared =
    let same = sym (same_text given report compared) in
    record { trail = h.first ++ h.rest; reported = subst (λ (xs : List ℕ). IsOfTrail tells s (h.first ++ h.rest) xs) same h.reported; unmarked = h.unmarked }
compared_so count tells s moves given report before after (Differs line wanted) h compared = record {
  report = report;
  same = record { trail = h.first ++ h.rest; reported = h.reported; unmarked = h.unmarked };
  first = compared;
  exact = λ never tell legal complete. replays_it count tells s moves report h never tell legal complete;
}
compared_so count tells s moves given report before after (ScenarioRefused line reason) h compared = absurd compared
compared_so count tells s moves given report before after DeviceFault h compared = absurd compared
compared_so count tells s moves given report before after OutOfMemory h compared = tt

-- a text that has another line first than the report of these moves is not it
no_report : (s : Plan) (moves trail : List Move) (given report : List ℕ) (line : ℕ) (wanted : List ℕ) → first_other given report ≡ Some (record { line = line; wanted = wanted })
    → report ≡ told_report s moves → moves ≡ trail → given ≡ told_report s trail → ⊥
no_report s moves trail given report line wanted first is same given_is =
    no_other (first_other given report) (record { line = line; wanted = wanted }) (none_of_report given report (given_is ∙ ap (told_report s) (sym same) ∙ sym is)) first

-- ## the devices of a maker give the marks

-- moves without a fault mark are as they are without their marks
clean_same : (ms : List Move) → faults ms ≡ 0 → without_marks ms ≡ ms
clean_same [] none = refl
clean_same (m ∷ ms) none =
    let all = parts m ms none in
    ap (λ (k : Mark). record m { mark = k } ∷ without_marks ms) (sym all.0) ∙ ap (λ (xs : List Move). m ∷ xs) (clean_same ms all.1)

no_faults : (ms : List Move) → faults (without_marks ms) ≡ 0
no_faults [] = refl
no_faults (m ∷ ms) =
    none (faults (without_marks (m ∷ ms))) (faults (without_marks ms))
    (sum_by-cons (λ (x : Move). cond (is_fault x.mark) 1 0) (record m { mark = Clean }) (without_marks ms)) (no_faults ms)
  where
    none : (n k : ℕ) → n ≡ 0 + k → k ≡ 0 → n ≡ 0
    none n k e f = omega arith

pub over_so : {D : Type 0} (count : D → ℕ) (tells : Bool) (text given : List ℕ) (s : Plan) (told moves : List Move) (before after : ℕ) (result : Replayed) → IsRead text given s told
    → moves ≡ without_marks told → IsReplayOver count tells s moves given before after result → IsAgainOver count tells text given before after result
over_so {D} count tells text given s told moves before after result read is h = by_result result (subst (λ (ms : List Move). IsReplayOver count tells s ms given before after result) is h)
  where
    same_over : (xs : List ℕ) → IsSame count tells s (without_marks told) xs → IsSameOver count tells text xs
    same_over xs same = record {
      plan = s;
      is_scenario = read.is_scenario;
      trail = same.trail;
      reported = record { of_trail = same.reported; unmarked = λ never. same.unmarked never (no_faults told) };
    }

    by_result : (r : Replayed) → IsReplayOver count tells s (without_marks told) given before after r → IsAgainOver count tells text given before after r
    by_result Same g = same_over given g
    by_result (Differs line wanted) g = record {
      report = g.report;
      same = same_over g.report g.same;
      first = g.first;
      none = λ never tell trail legal complete clean legible given_is.
          let of_text : told ≡ trail = read.told ∙ moves_back s given trail read.plan read.names legible given_is in
          let moves_are : without_marks told ≡ trail = ap without_marks of_text ∙ clean_same trail clean in
          no_report s (without_marks told) trail given g.report line wanted.bytes g.first
          (g.exact never tell (subst (λ (ms : List Move). is_legal s ms ≡ true) (sym moves_are) legal) (subst (λ (ms : List Move). is_complete s ms ≡ true) (sym moves_are) complete)) moves_are
          given_is;
    }
    by_result (ScenarioRefused line reason) g = absurd g
    by_result DeviceFault g = g
    by_result OutOfMemory g = tt

-- ## the text gives the marks

pub again_so : {D : Type 0} (count : D → ℕ) (text given : List ℕ) (s : Plan) (moves : List Move) (result : Replayed) → IsRead text given s moves → NeverFails count
    → IsReplayOver count true s moves given 0 0 result → IsAgain text given result
again_so count text given s moves Same read never h =
    record { plan = s; is_scenario = read.is_scenario; trail = h.trail; legal = h.reported.legal; complete = h.reported.complete; is = h.reported.only refl }
again_so count text given s moves (Differs line wanted) read never h = record {
  report = h.report;
  reported = record { plan = s; is_scenario = read.is_scenario; trail = h.same.trail; legal = h.same.reported.legal; complete = h.same.reported.complete; is = h.same.reported.only refl };
  first = h.first;
  none = λ trail legal complete any legible given_is.
      let of_text : moves ≡ trail = read.told ∙ moves_back s given trail read.plan read.names legible given_is in
      no_report s moves trail given h.report line wanted.bytes h.first
      (h.exact never refl (subst (λ (ms : List Move). is_legal s ms ≡ true) (sym of_text) legal) (subst (λ (ms : List Move). is_complete s ms ≡ true) (sym of_text) complete)) of_text given_is;
}
again_so count text given s moves (ScenarioRefused line reason) read never h = absurd h
again_so count text given s moves DeviceFault read never h = no_rise 0 0 refl h
again_so count text given s moves OutOfMemory read never h = tt
