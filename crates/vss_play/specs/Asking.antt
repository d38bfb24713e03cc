-- Writers of the caller's own: what a call that asks them comes to. Each order is given once, and so is each abort. (This project's own.)
use Rattle.std.specs.Prelude.{ℕ, ◌≡◌, ◌<◌, ◌≤◌, ◌+◌, ◌==◌, Bool, true, false, nat_lt, List, length, min, Option, Some, None, slice_get, if◌then◌else◌, codes}
use Rattle.writer_state.specs.WriterState.{one_more}
use Rattle.writer_state.specs.declared.writer_row.WriterRow.{WriterRow}
use Rattle.set_agenda.specs.Course.{Course}
use Rattle.writer_calls.specs.declared.answer.Answer.{Answer}
use Rattle.writer_calls.specs.declared.standing.Standing.{Standing}
use Rattle.writer_calls.specs.declared.vss_writer.VssWriter.{Ghosts}
use Rattle.coordinator.specs.OpenOrders.{standing_in}
use Rattle.vss_model.specs.declared.event.Event.{Event}
use Rattle.vss_model.specs.declared.event.Event.TheVariants.{Line, Answer as AnswerEvent, Provider, Idle}
use Rattle.vss_play.specs.declared.given.Given.{Given}
use Rattle.vss_play.specs.declared.play_fault.PlayFault.{PlayFault}
use Rattle.vss_play.specs.declared.play_fault.PlayFault.TheVariants as play
use Rattle.vss_play.specs.declared.step_fault.StepFault.{StepFault}
use Rattle.vss_play.specs.declared.step_fault.StepFault.TheVariants as step

-- ## one writer

-- what a writer was given at first
abbrev pub nothing : Given
nothing = record { order = 0; aborts = 0 }

abbrev pub told_if : {W : Type 0} → Ghosts W → Bool → WriterRow → Given → Given → W → W → Type 0
told_if ghosts true row g h w u = (h ≡ record { order = g.order; aborts = row.aborts }) × (ghosts.aborts_told u ≡ one_more (ghosts.aborts_told w))
told_if ghosts false row g h w u = (h ≡ g) × (u ≡ w)

-- it was told of an abort, where its row has one that it was not told of
abbrev pub IsTold : {W : Type 0} → Ghosts W → WriterRow → Given → Given → W → W → Type 0
IsTold ghosts row g h w u = told_if ghosts (nat_lt g.aborts row.aborts) row g h w u

abbrev pub given_if : {W : Type 0} → Ghosts W → Bool → Standing → Given → Given → W → W → Option Answer → Type 0
given_if ghosts true s g h w u answer =
    (h ≡ record { order = s.number; aborts = g.aborts }) × ghosts.may_answer w s.order s.nth answer × (ghosts.aborts_told u ≡ ghosts.aborts_told w)
given_if ghosts false s g h w u answer = (h ≡ g) × (u ≡ w) × (answer ≡ None)

-- it was given its open order, where it was not given that one, and this is what it answered
abbrev pub IsGiven : {W : Type 0} → Ghosts W → Option Standing → Given → Given → W → W → Option Answer → Type 0
IsGiven ghosts None g h w u answer = (h ≡ g) × (u ≡ w) × (answer ≡ None)
IsGiven ghosts (Some s) g h w u answer = given_if ghosts (nat_lt g.order s.number) s g h w u answer

-- ## the writers in their order

-- this holds of the first n members of two lists, before and after, and the others are as they were
pub record HoldsTo {X Y : Type 0} (P : ℕ → X → X → Y → Y → Type 0) (n : ℕ) (xs xs' : List X) (ys ys' : List Y) : Type 0 where
  pub each : (k : ℕ) (x x' : X) (y y' : Y) → k < n → slice_get xs k ≡ Some x → slice_get xs' k ≡ Some x' → slice_get ys k ≡ Some y
      → slice_get ys' k ≡ Some y' → P k x x' y y'
  pub same_xs : (k : ℕ) → n ≤ k → slice_get xs' k ≡ slice_get xs k
  pub same_ys : (k : ℕ) → n ≤ k → slice_get ys' k ≡ slice_get ys k

-- the writers were told of the aborts of their rows
abbrev pub AreTold : {W : Type 0} → Ghosts W → List WriterRow → ℕ → List Given → List Given → List W → List W → Type 0
AreTold ghosts rows n gs hs ws us = HoldsTo (λ k g h w u. (row : WriterRow) → slice_get rows k ≡ Some row → IsTold ghosts row g h w u) n gs hs ws us

-- the first of them that had an answer gave it, those before it gave none, and those behind it were not asked
abbrev pub IsAnswered : {W : Type 0} → Ghosts W → (ℕ → Option Standing) → ℕ → List Given → List Given → List W → List W → Option Event → Type 0
IsAnswered ghosts standing n gs hs ws us None = HoldsTo (λ k g h w u. IsGiven ghosts (standing k) g h w u None) n gs hs ws us
IsAnswered ghosts standing n gs hs ws us (Some (AnswerEvent at answer)) =
    (at < n) × HoldsTo (λ k g h w u. IsGiven ghosts (standing k) g h w u (if k == at then Some answer else None)) (at + 1) gs hs ws us
IsAnswered ghosts standing n gs hs ws us (Some other) = ⊥

-- so many writers were told of their aborts, and then asked
pub record AreAsked {W : Type 0} (ghosts : Ghosts W) (c : Course) (n : ℕ) (gs hs : List Given) (ws us : List W) (result : Option Event) : Type 0 where
  pub given : List Given
  pub told : List W
  pub aborts : AreTold ghosts c.rows n gs given ws told
  pub orders : IsAnswered ghosts (standing_in c) n given hs told us result

-- ## What is said of a turn that was not taken, and of a run that was not begun or not closed. (This project's own.)

abbrev pub play_message : PlayFault → List ℕ
play_message play.Failed = codes "a device failed"
play_message play.OutOfMemory = codes "out of memory"

abbrev pub step_message : StepFault → List ℕ
step_message step.TrailFull = codes "the trail is full"
step_message step.OutOfMemory = codes "out of memory"
