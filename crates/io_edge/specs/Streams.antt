-- What a call does to the bytes that a source has left and to those that a sink took. Each is Some list where
-- the object tells its bytes and None where it does not, as at the real streams. (This project's own.)
use Rattle.std.specs.Prelude.{ℕ, ◌≡◌, ◌-◌, ◌<◌, List, ◌++◌, length, take, Option, option_map, IfSome, codes}
use Rattle.vss_names.specs.Faults.{Schedule}
use Rattle.io_edge.specs.declared.reading.ReadError.{ReadError}
use Rattle.io_edge.specs.declared.reading.ReadError.TheVariants.{Failed, TooLong, OutOfMemory}

-- the source gave these bytes, the first of those that it had left
abbrev pub Gave : Option (List ℕ) → List ℕ → Option (List ℕ) → Type 0
Gave before bytes after = before ≡ option_map (λ rest. bytes ++ rest) after

-- the source gave some bytes, the first of those that it had left
abbrev pub GaveSome : Option (List ℕ) → Option (List ℕ) → Type 0
GaveSome before after = (bytes : List ℕ) × Gave before bytes after

-- P holds of the number of bytes that the source gave, where it tells them
abbrev pub IfGave : Option (List ℕ) → Option (List ℕ) → (ℕ → Type 0) → Type 0
IfGave before after P = IfSome before (λ bytes. IfSome after (λ rest. P (length bytes - length rest)))

-- the sink took these bytes, behind those that it had
abbrev pub Took : Option (List ℕ) → List ℕ → Option (List ℕ) → Type 0
Took before bytes after = after ≡ option_map (λ had. had ++ bytes) before

-- the sink took only a first part of these bytes
abbrev pub TookPart : Option (List ℕ) → List ℕ → Option (List ℕ) → Type 0
TookPart before bytes after = (n : ℕ) × (n < length bytes) × Took before (take n bytes) after

-- ## What a contract sees of a `MemSource`: the bytes that it has left, the most that it gives per call, which of
-- its calls fail, and its count of faults. (This project's own.)

pub record MemSourceValue : Type 0 where
  pub left : List ℕ
  pub piece : ℕ
  pub calls : Schedule
  pub faults : ℕ

-- ## What a contract sees of a `MemSink`: the bytes that it took, the most that it takes in all, which of its
-- calls fail, and its count of faults. (This project's own.)

pub record MemSinkValue : Type 0 where
  pub taken : List ℕ
  pub room : ℕ
  pub calls : Schedule
  pub faults : ℕ

-- it takes nothing more
abbrev pub IsFull : MemSinkValue → Type 0
IsFull sink = length sink.taken ≡ sink.room

-- ## What is said of a source that was not read to its end. (This project's own.)

abbrev pub message_of : ReadError → List ℕ
message_of Failed = codes "a read failed"
message_of TooLong = codes "the input is too long"
message_of OutOfMemory = codes "out of memory"
