-- The words that lines begin with. (This project's own format.)
use Rattle.std.specs.Prelude.{ℕ, Bool, true, false, List, [], ◌∷◌, Option, codes, find}
use Rattle.std.specs.Str.{bytes_eq}
use Rattle.scenario.specs.declared.word.Word.{Word}
use Rattle.scenario.specs.declared.word.Word.TheVariants.{Scenario, Area, Volume, Writer, Answer, Lane, Write, Read, Image, Query, Properties, Revert, Delete, Tick, Begin, Disable, Gather, Component, Document, Start, Add, Prepare, Snapshot, Await, Status, Complete, Abort, End}

abbrev pub name_of : Word → List ℕ
name_of Scenario = codes "scenario"
name_of Area = codes "area"
name_of Volume = codes "volume"
name_of Writer = codes "writer"
name_of Answer = codes "answer"
name_of Lane = codes "lane"
name_of Write = codes "write"
name_of Read = codes "read"
name_of Image = codes "image"
name_of Query = codes "query"
name_of Properties = codes "properties"
name_of Revert = codes "revert"
name_of Delete = codes "delete"
name_of Tick = codes "tick"
name_of Begin = codes "begin"
name_of Disable = codes "disable"
name_of Gather = codes "gather"
name_of Component = codes "component"
name_of Document = codes "document"
name_of Start = codes "start"
name_of Add = codes "add"
name_of Prepare = codes "prepare"
name_of Snapshot = codes "snapshot"
name_of Await = codes "await"
name_of Status = codes "status"
name_of Complete = codes "complete"
name_of Abort = codes "abort"
name_of End = codes "end"

abbrev pub words : List Word
words =
    Scenario ∷ Area ∷ Volume ∷ Writer ∷ Answer ∷ Lane ∷ Write ∷ Read ∷ Image ∷ Query ∷ Properties ∷ Revert ∷ Delete ∷ Tick ∷ Begin ∷ Disable ∷ Gather ∷ Component ∷ Document ∷ Start ∷ Add ∷ Prepare ∷ Snapshot ∷ Await ∷ Status ∷ Complete ∷ Abort ∷ End ∷ []

unfoldable pub word_of : List ℕ → Option Word
word_of bytes = find (λ word. bytes_eq (name_of word) bytes) words

-- the words whose last field is the rest of the line
abbrev pub takes_rest : Word → Bool
takes_rest Writer = true
takes_rest Component = true
takes_rest _ = false

-- the words whose lines declare, but for a writer's, or begin a lane
abbrev pub declares : Word → Bool
declares Scenario = true
declares Area = true
declares Volume = true
declares Answer = true
declares Lane = true
declares _ = false

-- the words of the lines of blocks, which have a reader each
abbrev pub reads_or_writes : Word → Bool
reads_or_writes Write = true
reads_or_writes Read = true
reads_or_writes _ = false
