-- What is said of a text that is no scenario, the numbers of the reasons, and what is called how. (This project's own.)
use Rattle.std.specs.Prelude.{ℕ, ◌++◌, List, codes, Option, Some, None}
use Rattle.std.specs.Fmt.{decimal}
use Rattle.scenario.specs.declared.expected.Expected.{Expected}
use Rattle.scenario.specs.declared.expected.Expected.TheVariants.{NewName, Declared}
use Rattle.scenario.specs.declared.name_kind.NameKind.{NameKind}
use Rattle.scenario.specs.declared.name_kind.NameKind.TheVariants as kind
use Rattle.scenario.specs.declared.quantity.Quantity.{Quantity}
use Rattle.scenario.specs.declared.quantity.Quantity.TheVariants as quantity
use Rattle.scenario.specs.declared.word.Word.TheVariants as word
use Rattle.scenario.specs.Words.{name_of}
use Rattle.scenario.specs.declared.reason.Reason.{Reason}
use Rattle.scenario.specs.declared.reason.Reason.TheVariants.{BadByte, NoNewline, UnknownWord, Misplaced, BadCount, BadNumber, OutOfRange, BadName, DoubleName, UnknownName, BadDocument, TooMany, Empty}
use Rattle.scenario.specs.declared.refused.Refused.{Refused}
use Rattle.scenario.specs.declared.refused.Refused.TheVariants as refused

abbrev pub number_of_reason : Reason → ℕ
number_of_reason BadByte = 1
number_of_reason NoNewline = 2
number_of_reason UnknownWord = 3
number_of_reason Misplaced = 4
number_of_reason BadCount = 5
number_of_reason BadNumber = 6
number_of_reason OutOfRange = 7
number_of_reason BadName = 8
number_of_reason DoubleName = 9
number_of_reason UnknownName = 10
number_of_reason BadDocument = 11
number_of_reason TooMany = 12
number_of_reason Empty = 13

abbrev pub name_of_reason : Reason → List ℕ
name_of_reason BadByte = codes "BadByte"
name_of_reason NoNewline = codes "NoNewline"
name_of_reason UnknownWord = codes "UnknownWord"
name_of_reason Misplaced = codes "Misplaced"
name_of_reason BadCount = codes "BadCount"
name_of_reason BadNumber = codes "BadNumber"
name_of_reason OutOfRange = codes "OutOfRange"
name_of_reason BadName = codes "BadName"
name_of_reason DoubleName = codes "DoubleName"
name_of_reason UnknownName = codes "UnknownName"
name_of_reason BadDocument = codes "BadDocument"
name_of_reason TooMany = codes "TooMany"
name_of_reason Empty = codes "Empty"

abbrev pub message_of_refused : Refused → List ℕ
message_of_refused (refused.Line line reason) = codes "line " ++ decimal line ++ codes ": " ++ name_of_reason reason
message_of_refused refused.OutOfMemory = codes "out of memory"

-- ## what was expected

-- what a name may be of is called by the word of the lines that declare one
abbrev pub name_of_kind : NameKind → List ℕ
name_of_kind kind.Area = name_of word.Area
name_of_kind kind.Volume = name_of word.Volume
name_of_kind kind.Writer = name_of word.Writer
name_of_kind kind.Lane = name_of word.Lane

-- what a number is called in the forms of lines
abbrev pub name_of_quantity : Quantity → List ℕ
name_of_quantity quantity.Version = codes "VERSION"
name_of_quantity quantity.Slots = codes "SLOTS"
name_of_quantity quantity.Blocks = codes "BLOCKS"
name_of_quantity (quantity.Block name) = codes "BLOCK"
name_of_quantity quantity.Byte = codes "BYTE"
name_of_quantity quantity.Stamp = codes "NUMBER"
name_of_quantity quantity.Set = codes "SET"
name_of_quantity quantity.Ticks = codes "TICKS"
name_of_quantity quantity.Context = codes "CONTEXT"
name_of_quantity quantity.Nth = codes "NTH"

-- the kind of the name that was expected, where it was one
abbrev pub kind_expected : Expected → Option NameKind
kind_expected (NewName kind taken) = Some kind
kind_expected (Declared kind) = Some kind
kind_expected _ = None
