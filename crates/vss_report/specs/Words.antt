-- The words of a report: how the names, numbers, codes and digests that it shows are written. Numbers are decimal,
-- bytes and digests are hexadecimal in lower case. (This project's own; names and codes are the SDK's.)
use Rattle.std.specs.Prelude.{ℕ, Bool, true, false, List, [], ◌∷◌, ◌++◌, Option, Some, None, slice_get, codes}
use Rattle.std.specs.List.{flat_map}
use Rattle.std.specs.Fmt.{decimal}
use Rattle.std.specs.Int.{to_be_bytes, w32}
use Rattle.hex.specs.Hex.{encode_upper}
use Rattle.vss_names.specs.declared.order.Order.{Order}
use Rattle.vss_names.specs.declared.writer_error.WriterError.{WriterError}
use Rattle.vss_names.specs.declared.set_outcome.SetOutcome.{SetOutcome}
use Rattle.vss_names.specs.declared.set_outcome.SetOutcome.TheVariants.{Running, Complete, Failed}
use Rattle.vss_names.specs.VssResult as result
use Rattle.vss_names.specs.WriterError as error
use Rattle.vss_names.specs.WriterState as state
use Rattle.vss_names.specs.Order as order
use Rattle.write_history.specs.declared.evicted.Evicted.{Evicted}
use Rattle.writer_state.specs.declared.writer_row.WriterRow.{WriterRow}
use Rattle.writer_calls.specs.declared.answer.Answer.{Answer}
use Rattle.writer_calls.specs.declared.answer.Answer.TheVariants.{Ok, Veto}
use Rattle.set_agenda.specs.declared.group.Group.{Group}
use Rattle.set_agenda.specs.declared.group.Group.TheVariants.{Orders, PreCommit, Flush, Hold, Cut, Commit, Release, PostCommit}
use Rattle.scenario.specs.declared.volume_row.VolumeRow.{VolumeRow}
use Rattle.scenario.specs.Plan.{Plan, WriterPlan, LanePlan, token}

-- a space, and the text
abbrev pub spaced : List ℕ → List ℕ
spaced text = 32 ∷ text

-- the text as a line, with the newline that ends it
abbrev pub as_line : List ℕ → List ℕ
as_line text = text ++ 10 ∷ []

-- ## names of the scenario

abbrev pub volume_in : Plan → Option VolumeRow → List ℕ
volume_in s None = []
volume_in s (Some r) = token s r.name

abbrev pub volume_text : Plan → ℕ → List ℕ
volume_text s v = volume_in s (slice_get s.volumes v)

abbrev pub writer_in : Plan → Option WriterPlan → List ℕ
writer_in s None = []
writer_in s (Some w) = token s w.name

abbrev pub writer_text : Plan → ℕ → List ℕ
writer_text s w = writer_in s (slice_get s.writers w)

abbrev pub lane_in : Plan → Option LanePlan → List ℕ
lane_in s None = []
lane_in s (Some l) = token s l.name

abbrev pub lane_text : Plan → ℕ → List ℕ
lane_text s i = lane_in s (slice_get s.lanes i)

-- ## replies

abbrev pub answer_text : Answer → List ℕ
answer_text Ok = codes "ok"
answer_text (Veto e) = error.name_of e

-- a step of the provider
abbrev pub step_text : Group → List ℕ
step_text (Orders o) = []
step_text PreCommit = codes "precommit"
step_text Flush = codes "flush"
step_text Hold = codes "hold"
step_text Cut = codes "cut"
step_text Commit = codes "commit"
step_text Release = codes "release"
step_text PostCommit = codes "postcommit"

abbrev pub of_volume : Plan → Option ℕ → List ℕ
of_volume s None = []
of_volume s (Some v) = spaced (volume_text s v)

abbrev pub fault_if : Bool → List ℕ
fault_if true = codes " fault"
fault_if false = []

abbrev pub sets_text : List ℕ → List ℕ
sets_text sets = flat_map (λ n. spaced (decimal n)) sets

-- the code of a failure
abbrev pub code_word : WriterError → List ℕ
code_word e = codes "0x" ++ encode_upper (to_be_bytes w32 (error.number_of e))

-- a failed state is followed by its code
abbrev pub code_text : Option WriterError → List ℕ
code_text None = []
code_text (Some e) = codes "/" ++ code_word e

abbrev pub state_text : WriterRow → List ℕ
state_text r = state.name_of r.state ++ code_text r.code

-- the states of the writers from number w on
abbrev pub states_text : Plan → List WriterPlan → List WriterRow → List ℕ
states_text s [] rows = []
states_text s (w ∷ ws) [] = []
states_text s (w ∷ ws) (r ∷ rows) = spaced (token s w.name) ++ codes "=" ++ state_text r ++ states_text s ws rows

-- ## effects

abbrev pub evicted_text : Plan → Evicted → List ℕ
evicted_text s e = as_line (codes "= evicted " ++ decimal e.set ++ of_volume s (Some e.volume))

abbrev pub lost_text : Plan → Option Order → ℕ → List ℕ
lost_text s None w = []
lost_text s (Some o) w = as_line (codes "= writer " ++ writer_text s w ++ codes " lost " ++ order.name_of o)

abbrev pub outcome_text : SetOutcome → List ℕ
outcome_text Running = []
outcome_text Complete = codes " complete"
outcome_text (Failed why) = codes " failed " ++ result.name_of why

abbrev pub set_text : ℕ → SetOutcome → List ℕ
set_text n o = as_line (codes "= set " ++ decimal n ++ outcome_text o)
