-- What a run of the generated scenario of a number promises of the top call, by its status. At status 0 the output grew by the summary of
-- that number: what the run's own volumes held at its end, by their digests. It is a function of the number alone where the maker tells
-- its devices, so it shows nothing of the run but that its trail is one. (This project's own.)
use Rattle.std.specs.Prelude.{ℕ, ◌≡◌, ◌≤◌, ◌⊎◌, Bool, IsTrue, List, ◌++◌, length, map, Option, Some, Result, Ok, Err, option_map, slice_get}
use Rattle.hex.specs.Hex.{IsBytes}
use Rattle.vss_names.specs.Faults.{Rose, most, all_counted}
use Rattle.io_edge.specs.Streams.{Took, TookPart}
use Rattle.volume_device.specs.declared.store.Store.{Store}
use Rattle.volume_device.specs.declared.device.Device.{Ghosts}
use Rattle.scenario.specs.Plan.{Plan}
use Rattle.scenario.specs.Grammar.{reading_of, IsScenario}
use Rattle.generated.specs.ScenarioText.{gen_text}
use Rattle.generated.specs.Contents.{summary, summary_with, EndsWell}
use Rattle.vss_model.specs.Trail.{faults}
use Rattle.generated.specs.Scenario.{IsGenerated}
use Rattle.vss_play.specs.declared.play_fault.PlayFault.{PlayFault}
use Rattle.vss_play.specs.Closing.{AreDigests}
use Rattle.vss_play.specs.Made.{AreLeft}
use Rattle.vss_play.specs.Played.{Played, AnyRose, AreasHold, IsKept, IsQuietPlay, tells_in}
use Rattle.vss_main.specs.Command.{IsStoreOf}
use Rattle.vss_main.specs.Outside.{AroundMaker, SinkAndMaker, IsUnwritten}
use Rattle.vss_main.specs.TopCall.{AreGivenBack, IsOwnTrail, MadeRun, IsDoneOrWantsMemory}
use Rattle.vss_main.specs.declared.status.Status.{Status}
use Rattle.vss_main.specs.declared.status.Status.TheVariants.{Done, WriteFault, DeviceFault, OutOfMemory}

-- ## the scenario and its run

-- the generated text of a number is read as this scenario, of which the law of generated runs speaks
pub record IsOfNumber (n : ℕ) (s : Plan) : Type 0 where
  pub read : reading_of (gen_text n) ≡ IsScenario s
  pub generated : IsGenerated n s

-- eight digests
pub record AreEight (digests : List (List ℕ)) : Type 0 where
  pub eight : length digests ≡ 8
  pub long : (v : ℕ) (digest : List ℕ) → slice_get digests v ≡ Some digest → length digest ≡ 32
  pub bytes : (v : ℕ) (digest : List ℕ) → slice_get digests v ≡ Some digest → IsBytes digest

-- The text is the summary of a run of this scenario: of its own trail, without a fault mark, over the devices that the maker then got
-- back. Where the devices do not tell, any digests may stand in it.
pub record IsSummed {D : Type 0} (ghosts : Ghosts D) (tells : Bool) (a : AroundMaker D) (n : ℕ) (s : Plan) (text : List ℕ) : Type 0 where
  pub made : MadeRun ghosts.told a s
  pub own : IsOwnTrail ghosts tells s made.trail
  pub unmarked : faults made.trail ≡ 0
  -- its four sets are complete, nothing was evicted, and each volume has the contents whose digest stands in the summary
  pub ends_well : EndsWell n s made.trail
  pub digests : List (List ℕ)
  pub are_digests : AreEight digests
  pub is_text : text ≡ summary_with n digests
  pub only : IsTrue tells → text ≡ summary n
  pub areas : AreasHold ghosts.told s made.trail made.devices
  -- the device of each volume and of each area has the size that was declared, and what it tells lasts
  pub left : AreLeft ghosts s made.devices

-- a summary of a run of the generated scenario of n over devices in the folder of this name, or in memory where there is none
pub record IsSummedIn {D : Type 0} (ghosts : Ghosts D) (tells : Store → Bool) (folder : Option (List ℕ)) (a : AroundMaker D) (n : ℕ) (text : List ℕ) : Type 0 where
  pub plan : Plan
  pub is_plan : IsOfNumber n plan
  pub store : Store
  pub is_store : IsStoreOf folder store
  pub summed : IsSummed ghosts (tells store) a n plan text

-- the devices of such a run were given back, though it has no summary
pub record IsUnsummed {D : Type 0} (n : ℕ) (a : AroundMaker D) : Type 0 where
  pub plan : Plan
  pub is_plan : IsOfNumber n plan
  pub given_back : AreGivenBack plan a

-- ## the end of a run

-- its volumes were digested, its areas written, and it has no fault mark; or the count of some device rose, or it has one
abbrev pub IsDigestedTo : {D : Type 0} → Ghosts D → Played D → Played D → Result (List (List ℕ)) PlayFault → Type 0
IsDigestedTo ghosts old new (Ok digests) =
    AreDigests (tells_in ghosts.told new) new.plan new.trail digests × AreasHold ghosts.told new.plan new.trail new.devices × (faults new.trail ≡ 0)
    × (map ghosts.count new.devices ≡ map ghosts.count old.devices) × (length digests ≡ 8)
    × AreLeft ghosts new.plan new.devices
IsDigestedTo ghosts old new (Err why) = AnyRose (map ghosts.count old.devices) (map ghosts.count new.devices) ⊎ (1 ≤ faults new.trail)

-- a run was digested, and its devices were given back
pub record IsDigested {D : Type 0} (ghosts : Ghosts D) (old : Played D) (places : ℕ) (kept_before kept_now : Option (List D)) (count_before count_now : ℕ)
    (result : Result (List (List ℕ)) PlayFault) : Type 0 where
  -- as it was given back
  pub new : Played D
  pub quiet : IsQuietPlay ghosts old new
  pub keeps : IsKept ghosts.told new
  pub ends : IsDigestedTo ghosts old new result
  pub kept : length new.devices ≤ places → kept_now ≡ option_map (λ devices. devices ++ new.devices) kept_before
  pub count_is : count_now ≡ all_counted count_before (map ghosts.count new.devices)

-- ## each status with its cause

pub record IsSummaryWritten {D : Type 0} (ghosts : Ghosts D) (tells : Store → Bool) (folder : Option (List ℕ)) (n : ℕ) (o : SinkAndMaker D) : Type 0 where
  pub text : List ℕ
  pub summed : IsSummedIn ghosts tells folder o.maker n text
  pub written : Took o.taken_first text o.taken_last
  pub writes : o.writes_last ≡ o.writes_first

-- a first part of the summary was written
pub record IsSummaryInPart {D : Type 0} (ghosts : Ghosts D) (tells : Store → Bool) (folder : Option (List ℕ)) (n : ℕ) (o : SinkAndMaker D) : Type 0 where
  pub text : List ℕ
  pub summed : IsSummedIn ghosts tells folder o.maker n text
  pub part : TookPart o.taken_first text o.taken_last
  pub rose : Rose o.writes_first o.writes_last

-- a device could not be made, written or digested, or a move of the run has a fault mark
pub record IsGeneratedFault {D : Type 0} (n : ℕ) (o : SinkAndMaker D) : Type 0 where
  pub rose : Rose o.maker.count_first o.maker.count_last
  pub unsummed : IsUnsummed n o.maker
  pub unwritten : IsUnwritten o

-- memory was refused, at any place before the writing; nothing had failed
pub record IsGeneratedWanting {D : Type 0} (o : SinkAndMaker D) : Type 0 where
  pub later : o.maker.count_first ≤ o.maker.count_last
  pub counted : (o.maker.count_last ≡ o.maker.count_first) ⊎ (o.maker.count_last ≡ most)
  pub unwritten : IsUnwritten o

abbrev pub IsGeneration : {D : Type 0} → Ghosts D → (Store → Bool) → Option (List ℕ) → ℕ → SinkAndMaker D → Status → Type 0
IsGeneration ghosts tells folder n o Done = IsSummaryWritten ghosts tells folder n o
IsGeneration ghosts tells folder n o WriteFault = IsSummaryInPart ghosts tells folder n o
IsGeneration ghosts tells folder n o DeviceFault = IsGeneratedFault n o
IsGeneration ghosts tells folder n o OutOfMemory = IsGeneratedWanting o
IsGeneration ghosts tells folder n o _ = ⊥

-- Where no count rises, the summary is written or memory is wanting.
pub record NothingStops {D : Type 0} (o : SinkAndMaker D) : Type 0 where
  pub writes : Rose o.writes_first o.writes_last → ⊥
  pub devices : Rose o.maker.count_first o.maker.count_last → ⊥

abbrev pub IsSummedWhereItCan : {D : Type 0} → SinkAndMaker D → Status → Type 0
IsSummedWhereItCan o status = NothingStops o → IsDoneOrWantsMemory status
