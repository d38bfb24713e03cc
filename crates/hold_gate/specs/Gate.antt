-- What stops a write. Between Freeze and Thaw a writer writes nothing, and while the provider commits, the writes to
-- the volumes of the set are held (SDK documentation, how a shadow copy is created). A write that meets both is told
-- of the hold. (The answers are this project's own.)
use Rattle.std.specs.Prelude.{ℕ, Bool, true, false, List, replicate, Option, Some, None}
use Rattle.std.specs.List.{slice_index_or}
use Rattle.hold_gate.specs.declared.gate3.Gate3.{Gate3}
use Rattle.hold_gate.specs.declared.gate3.Gate3.TheVariants.{Open, Held, Frozen}

-- a flag for each volume and for each writer, by their numbers
pub record Flags : Type 0 where
  pub held : List Bool
  pub frozen : List Bool

-- no volume is held, and no writer is frozen
abbrev pub all_open : ℕ → ℕ → Flags
all_open volumes writers = record { held = replicate volumes false; frozen = replicate writers false }

abbrev pub is_held : Flags → ℕ → Bool
is_held flags volume = slice_index_or flags.held volume false

abbrev pub is_frozen : Flags → ℕ → Bool
is_frozen flags writer = slice_index_or flags.frozen writer false

-- a write in no writer's name meets no frozen writer
abbrev pub meets_frozen : Flags → Option ℕ → Bool
meets_frozen flags None = false
meets_frozen flags (Some writer) = is_frozen flags writer

-- the answer, by whether the volume is held and whether the writer is frozen
abbrev pub answer : Bool → Bool → Gate3
answer true frozen = Held
answer false true = Frozen
answer false false = Open

-- the answer to a write to this volume in the name of this writer, if any
abbrev pub answer_to : Flags → ℕ → Option ℕ → Gate3
answer_to flags volume writer = answer (is_held flags volume) (meets_frozen flags writer)
