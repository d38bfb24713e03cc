-- A run of which nothing has happened, and one that is closed in its own report, whose devices were given back.
use Rattle.std.proofs.Common.{◌≡◌, ℕ, zero, suc, ◌+◌, List, [], length, refl, ap, arith, replicate, Option, ◌≤◌, ◌++◌, sym, ◌∙◌, Bool, subst}
use Rattle.std.specs.Prelude.{map, option_map, Result, Ok, Err}
use Rattle.vss_names.specs.Faults.{all_counted}
use Rattle.vss_names.specs.Names.{TextValue}
use Rattle.volume_device.specs.declared.device.Device.{Ghosts}
use Rattle.write_history.specs.declared.move_item.Move.{Move}
use Rattle.scenario.specs.Bounds.{IsPlan}
use Rattle.scenario.specs.Plan.{Plan}
use Rattle.vss_report.specs.Report.{first_line, IsReportSoFar}
use Rattle.vss_report.proofs.Telling.{so_far_none}
use Rattle.vss_world.specs.Stands.{tells_of, WorldValue, Stands, IsOf}
use Rattle.vss_play.specs.Closing.{HasRisen, IsEnding, HasClosing, has_failed}
use Rattle.vss_play.specs.Made.{AreLeft}
use Rattle.vss_play.specs.Played.{Played, IsEnd, IsEnded, AreasHold}
use Rattle.vss_play.specs.Running.{AreCursors, IsPlay}
use Rattle.vss_play.specs.declared.play_fault.PlayFault.{PlayFault}
use Rattle.vss_play.specs.declared.play_fault.PlayFault.TheVariants.{Failed, OutOfMemory}
use Rattle.vss_play.proofs.ClosingLines.{closed_as, play_ending}
use Rattle.vss_play.proofs.Finishing.{play_kept}

-- ## A run of which nothing has happened.

cursors_first : (i n : ℕ) → AreCursors [] i (replicate n 0)
cursors_first i zero = tt
cursors_first i (suc n) = (refl, cursors_first (i + 1) n)

length_replicate : (n x : ℕ) → length (replicate n x) ≡ n
length_replicate zero x = refl
length_replicate (suc n) x = ap suc (length_replicate n x)

pub play_fresh : {D : Type 0} (told : D → Option (List (List ℕ))) (s : Plan) (w : WorldValue D) (cursors : List ℕ) (moves : List Move) (text : List ℕ) (lanes : ℕ)
    → IsPlan s → Stands told w s [] → IsOf w s → lanes ≡ length s.lanes → cursors ≡ replicate {A = ℕ} lanes 0 → moves ≡ [] → text ≡ first_line → IsPlay told s w cursors moves text
play_fresh told s w cursors moves text lanes plan stands of many first none line = grind (arith, so_far_none, cursors_first, length_replicate)

-- ## A run that is closed in its own report, and whose devices were given back.

pub ended_as : {D : Type 0} (ghosts : Ghosts D) (s : Plan) (old new : WorldValue D) (cursors : List ℕ) (trail : List Move) (text : List ℕ) (p : Played D)
    (ds : List D) (places : ℕ) (kept_first kept_last : Option (List D)) (count_first count_last : ℕ) (result : Result TextValue PlayFault)
    → record { plan = s; trail = trail; devices = old.devices; lines = text } ≡ p → IsPlay ghosts.told s old cursors trail text → IsEnding ghosts old new s
    → ds ≡ new.devices → (length ds ≤ places → kept_last ≡ option_map (λ xs. xs ++ ds) kept_first) → count_last ≡ all_counted count_first (map ghosts.count ds)
    → IsEnd ghosts (record { plan = s; trail = trail; devices = old.devices; lines = text })
    (record { plan = s; trail = trail; devices = new.devices; lines = text }) result
    → IsEnded ghosts p places kept_first kept_last count_first count_last result
ended_as {D} ghosts s old new cursors trail text p ds places kept_first kept_last count_first count_last result is kept ending same given counts ends =
    let r : Played D = record { plan = s; trail = trail; devices = new.devices; lines = text } in
    subst (λ (q : Played D). IsEnded ghosts q places kept_first kept_last count_first count_last result) is (record {
      new = r;
      quiet = record { plan = refl; trail = refl; lines = refl; tells = ending.tells; later = ending.later };
      keeps = play_kept ghosts.told s new cursors trail text r refl (play_ending ghosts s old new cursors trail text kept ending);
      ends = ends;
      kept = subst (λ (xs : List D). length xs ≤ places → kept_last ≡ option_map (λ ys. ys ++ xs) kept_first) same given;
      count_is = counts ∙ ap (λ (xs : List D). all_counted count_first (map ghosts.count xs)) same;
    })

-- its report is whole
pub reported : {D : Type 0} (ghosts : Ghosts D) (s : Plan) (old new : WorldValue D) (cursors : List ℕ) (trail : List Move) (text : List ℕ) (report : TextValue)
    → IsPlay ghosts.told s old cursors trail text → IsEnding ghosts old new s
    → HasClosing (tells_of ghosts.told s old.devices) s trail text report.bytes → AreasHold ghosts.told s trail new.devices
    → map ghosts.count new.devices ≡ map ghosts.count old.devices → AreLeft ghosts s new.devices
    → IsEnd ghosts (record { plan = s; trail = trail; devices = old.devices; lines = text })
    (record { plan = s; trail = trail; devices = new.devices; lines = text }) (Ok report)
reported {D} ghosts s old new cursors trail text report kept ending closing areas same left =
    let closed = closed_as ghosts.told s trail new.devices text (tells_of ghosts.told s old.devices) text report.bytes ending.tells areas closing in (
      record {
        so_far = text;
        closing = closed.closing;
        is_so_far = subst (λ (ts : List Bool). IsReportSoFar s ts trail text) (sym ending.tells) kept.lines;
        is_closing = closed.lines;
        is = closed.is;
      },
      areas,
      same,
      record { text = closed.closing; is = closed.is },
      left,
    )

-- it has none, by which fault
pub unreported : {D : Type 0} (ghosts : Ghosts D) (s : Plan) (trail : List Move) (old new : List D) (text : List ℕ) (fault : PlayFault)
    → HasRisen (has_failed {T = Unit {0}} (Err fault)) (map ghosts.count old) (map ghosts.count new)
    → IsEnd ghosts (record { plan = s; trail = trail; devices = old; lines = text }) (record { plan = s; trail = trail; devices = new; lines = text })
    (Err fault)
unreported ghosts s trail old new text Failed risen = risen
unreported ghosts s trail old new text OutOfMemory risen = risen
