-- What a replay of a report promises, and where a text is another than a report, line by line. (This project's own.)
use Rattle.std.specs.Prelude.{ℕ, ◌+◌, ◌&&◌, ◌||◌, not, Bool, List, [], ◌∷◌, Option, Some, None, if◌then◌else◌, ◌≡◌, ◌++◌, true, false, IsTrue, map, Result, Ok}
use Rattle.std.specs.Prelude.{Err}
use Rattle.std.specs.Str.{bytes_eq}
use Rattle.vss_names.specs.Faults.{Rose}
use Rattle.vss_names.specs.declared.out_of_memory.OutOfMemory.{OutOfMemory}
use Rattle.volume_device.specs.declared.device.Device.{Ghosts}
use Rattle.write_history.specs.declared.mark.Mark.TheVariants.{Clean}
use Rattle.write_history.specs.declared.move_item.Move.{Move}
use Rattle.cow_volume.specs.Calls.{NeverFails, counted_as}
use Rattle.scenario.specs.Bounds.{IsPlan}
use Rattle.scenario.specs.Grammar.{reading_of, IsScenario, IsBad}
use Rattle.scenario.specs.Named.{HasNames}
use Rattle.scenario.specs.Plan.{Plan}
use Rattle.vss_model.specs.Trail.{is_legal_move, is_legal, is_complete, faults}
use Rattle.vss_report.specs.Legible.{IsLegibleTrail}
use Rattle.vss_report.specs.Pieces.{pieces_at, is_over}
use Rattle.vss_report.specs.ReadBack.{moves_told}
use Rattle.vss_report.specs.ToldLines.{all_tell, told_report}
use Rattle.vss_play.specs.Played.{Played, run_of, tells_in, Stays, IsMovedOn, AreInTurn}
use Rattle.orders.specs.Runs.{IsOfTrail, IsReported}
use Rattle.orders.specs.declared.replayed.Replayed.{Replayed}
use Rattle.orders.specs.declared.replayed.Replayed.TheVariants.{Same, Differs, ScenarioRefused, DeviceFault, OutOfMemory as WantsMemory}

-- ## Where a text is another than a report, line by line. (This project's own.)

-- the number of a line, from 1, and the report's line there
pub record OtherLine : Type 0 where
  pub line : ℕ
  pub wanted : List ℕ

-- both texts end, or both go on
abbrev pub end_both : List (List ℕ) → List (List ℕ) → Bool
end_both xs ys = (is_over xs && is_over ys) || (not (is_over xs) && not (is_over ys))

-- the first of these lines, from number n on, that is another than the report's, or after which one text ends and the other goes on
abbrev pub other_from : ℕ → List (List ℕ) → List (List ℕ) → Option OtherLine
other_from n [] ys = None
other_from n (a ∷ xs) [] = None
other_from n (a ∷ xs) (b ∷ ys) =
    if bytes_eq a b && end_both xs ys then other_from (n + 1) xs ys else Some (record { line = n; wanted = b })

-- the first line of a text that is another than the report's
abbrev pub first_other : List ℕ → List ℕ → Option OtherLine
first_other text report = other_from 1 (pieces_at 10 text 0) (pieces_at 10 report 0)

-- ## What a replay of a report promises. (This project's own.)

-- ## the moves of a text

-- a scenario, and the moves that a text tells as a report of it
pub record IsRead (text given : List ℕ) (s : Plan) (moves : List Move) : Type 0 where
  pub is_scenario : reading_of text ≡ IsScenario s
  pub plan : IsPlan s
  pub names : HasNames s
  pub told : moves ≡ moves_told s given

-- why there is none
abbrev pub IsUnread : List ℕ → Replayed → Type 0
IsUnread text Same = ⊥
IsUnread text (Differs line wanted) = ⊥
IsUnread text (ScenarioRefused line reason) = reading_of text ≡ IsBad line reason
IsUnread text DeviceFault = ⊥
IsUnread text WantsMemory = Unit {0}

abbrev pub without_marks : List Move → List Move
without_marks moves = map (λ (m : Move). record m { mark = Clean }) moves

-- ## a run by these moves, as far as they may come

-- whether a move was made, with its mark where it may come with that and no call of a device fails
abbrev pub IsMade : {D : Type 0} → Ghosts D → Played D → Played D → Move → Result Bool OutOfMemory → Type 0
IsMade ghosts old new m (Ok true) =
    IsMovedOn (counted_as ghosts true) old new m.actor
    × (NeverFails ghosts.count → is_legal_move old.plan (run_of old) m ≡ true → new.trail ≡ old.trail ++ m ∷ [])
IsMade ghosts old new m (Ok false) = (new ≡ old) × Stays old m.actor
IsMade ghosts old new m (Err e) = Unit {0}

-- The run went on. Where no call of a device fails, it did so by these moves if they may come with their marks, and without a fault mark
-- if they have none.
pub record IsFollowedFar {D : Type 0} (ghosts : Ghosts D) (old new : Played D) (moves : List Move) : Type 0 where
  pub made : List Move
  pub plan : new.plan ≡ old.plan
  pub trail : new.trail ≡ old.trail ++ made
  pub tells : tells_in ghosts.told new ≡ tells_in ghosts.told old
  pub exact : NeverFails ghosts.count → is_legal old.plan (old.trail ++ moves) ≡ true → new.trail ≡ old.trail ++ moves
  pub unmarked : NeverFails ghosts.count → faults moves ≡ 0 → faults new.trail ≡ faults old.trail

-- the report of a trail that begins so and goes on in turn
pub record IsReplayed {D : Type 0} (count : D → ℕ) (tells : Bool) (s : Plan) (moves : List Move) (text : List ℕ) : Type 0 where
  pub first : List Move
  pub rest : List Move
  pub in_turn : AreInTurn s first rest
  pub reported : IsOfTrail tells s (first ++ rest) text
  pub exact : NeverFails count → is_legal s moves ≡ true → first ≡ moves
  pub unmarked : NeverFails count → faults moves ≡ 0 → faults (first ++ rest) ≡ 0

-- ## what the text is

-- no legal and complete trail of which this holds, and that is legible, has this text as its report
abbrev pub IsOfNoTrail : (List Move → Type 0) → Plan → List ℕ → Type 0
IsOfNoTrail P s given = (trail : List Move) → is_legal s trail ≡ true → is_complete s trail ≡ true → P trail → IsLegibleTrail s (all_tell s) trail → given ≡ told_report s trail → ⊥

-- a legal and complete trail of the scenario has it
pub record IsReportOf (text given : List ℕ) : Type 0 where
  pub plan : Plan
  pub is_scenario : reading_of text ≡ IsScenario plan
  pub trail : List Move
  pub legal : is_legal plan trail ≡ true
  pub complete : is_complete plan trail ≡ true
  pub is : given ≡ told_report plan trail

-- such a report has another line first here, with these bytes
pub record IsOtherThan (text given : List ℕ) (line : ℕ) (wanted : List ℕ) : Type 0 where
  pub report : List ℕ
  pub reported : IsReportOf text report
  pub first : first_other given report ≡ Some (record { line = line; wanted = wanted })
  pub none : IsOfNoTrail (λ trail. Unit {0}) reported.plan given

-- ## the replay of moves, over the devices of a maker

-- the text is the report of a legal and complete trail, which has no fault mark where these moves have none and no call of a device fails
pub record IsSame {D : Type 0} (count : D → ℕ) (tells : Bool) (s : Plan) (moves : List Move) (given : List ℕ) : Type 0 where
  pub trail : List Move
  pub reported : IsOfTrail tells s trail given
  pub unmarked : NeverFails count → faults moves ≡ 0 → faults trail ≡ 0

-- A report of a legal and complete trail has other lines than the text: this is the first of them, and the text has these bytes in its
-- place. Over devices that tell, and of which no call ever fails, it is that of these moves where they are a legal and complete trail.
pub record IsUnlike {D : Type 0} (count : D → ℕ) (tells : Bool) (s : Plan) (moves : List Move) (given : List ℕ) (line : ℕ) (wanted : List ℕ) : Type 0 where
  pub report : List ℕ
  pub same : IsSame count tells s moves report
  pub first : first_other given report ≡ Some (record { line = line; wanted = wanted })
  pub exact : NeverFails count → IsTrue tells → is_legal s moves ≡ true → is_complete s moves ≡ true → report ≡ told_report s moves

-- by how it ended; the counts are of the maker's faults, before and after
abbrev pub IsReplayOver : {D : Type 0} → (D → ℕ) → Bool → Plan → List Move → List ℕ → ℕ → ℕ → Replayed → Type 0
IsReplayOver count tells s moves given first last Same = IsSame count tells s moves given
IsReplayOver count tells s moves given first last (Differs line wanted) = IsUnlike count tells s moves given line wanted.bytes
IsReplayOver count tells s moves given first last (ScenarioRefused line reason) = ⊥
IsReplayOver count tells s moves given first last DeviceFault = Rose first last
IsReplayOver count tells s moves given first last WantsMemory = Unit {0}

-- a text beside the report of its replay
abbrev pub IsCompared : List ℕ → List ℕ → Replayed → Type 0
IsCompared given report Same = first_other given report ≡ None
IsCompared given report (Differs line wanted) = first_other given report ≡ Some (record { line = line; wanted = wanted.bytes })
IsCompared given report (ScenarioRefused line reason) = ⊥
IsCompared given report DeviceFault = ⊥
IsCompared given report WantsMemory = Unit {0}

-- ## `again`, over the devices of a maker

-- the text is the report of a legal and complete trail of the scenario
pub record IsSameOver {D : Type 0} (count : D → ℕ) (tells : Bool) (text given : List ℕ) : Type 0 where
  pub plan : Plan
  pub is_scenario : reading_of text ≡ IsScenario plan
  pub trail : List Move
  pub reported : IsReported count tells plan trail given

-- A report of a legal and complete trail has other lines than the text: this is the first of them, and the text has these bytes in its
-- place. Over devices that tell, and of which no call ever fails, the text is the report of no legal and complete trail without fault marks.
pub record IsUnlikeOver {D : Type 0} (count : D → ℕ) (tells : Bool) (text given : List ℕ) (line : ℕ) (wanted : List ℕ) : Type 0 where
  pub report : List ℕ
  pub same : IsSameOver count tells text report
  pub first : first_other given report ≡ Some (record { line = line; wanted = wanted })
  pub none : NeverFails count → IsTrue tells → IsOfNoTrail (λ trail. faults trail ≡ 0) same.plan given

-- by how it ended; the counts are of the maker's faults, before and after
abbrev pub IsAgainOver : {D : Type 0} → (D → ℕ) → Bool → List ℕ → List ℕ → ℕ → ℕ → Replayed → Type 0
IsAgainOver count tells text given first last Same = IsSameOver count tells text given
IsAgainOver count tells text given first last (Differs line wanted) = IsUnlikeOver count tells text given line wanted.bytes
IsAgainOver count tells text given first last (ScenarioRefused line reason) = reading_of text ≡ IsBad line reason
IsAgainOver count tells text given first last DeviceFault = Rose first last
IsAgainOver count tells text given first last WantsMemory = Unit {0}

-- ## `again`

-- By how it ended: the text is the same exactly where it is the report of a legal and complete trail, of those that are legible.
abbrev pub IsAgain : List ℕ → List ℕ → Replayed → Type 0
IsAgain text given Same = IsReportOf text given
IsAgain text given (Differs line wanted) = IsOtherThan text given line wanted.bytes
IsAgain text given (ScenarioRefused line reason) = reading_of text ≡ IsBad line reason
IsAgain text given DeviceFault = ⊥
IsAgain text given WantsMemory = Unit {0}

-- ## `report_of_told`

-- the report of a legal and complete trail of the scenario that begins, as far as they may come, with the moves that a text tells
pub record IsReportOfTold (text given report : List ℕ) : Type 0 where
  pub plan : Plan
  pub is_scenario : reading_of text ≡ IsScenario plan
  pub moves : List Move
  pub told : moves ≡ moves_told plan given
  pub first : List Move
  pub rest : List Move
  pub legal : is_legal plan (first ++ rest) ≡ true
  pub complete : is_complete plan (first ++ rest) ≡ true
  pub is : report ≡ told_report plan (first ++ rest)
  pub exact : is_legal plan moves ≡ true → first ≡ moves
