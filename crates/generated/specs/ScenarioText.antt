-- The text of the generated scenario of a number: what it declares, the lane that makes four sets, and fifteen lanes that
-- write, of which nine act as a writer. Only the `write` lines depend on the number. (This project's own.)
use Rattle.std.specs.Fmt.{decimal}
use Rattle.std.specs.List.{flat_map, range_with_len}
use Rattle.std.specs.Prelude.{ℕ, List, [], ◌∷◌, ◌++◌, codes, nat_lt, if◌then◌else◌}
use Rattle.generated.specs.Draws.{volume_at, block_at, stamp_at}

-- ## Texts in lines, each ended by a newline. (This project's own.)

-- the text as a line, with the newline that ends it
abbrev pub as_line : List ℕ → List ℕ
as_line text = text ++ 10 ∷ []

-- these lines, one after another
abbrev pub as_lines : List (List ℕ) → List ℕ
as_lines texts = flat_map as_line texts

-- ## what is declared

abbrev pub declarations : List (List ℕ)
declarations =
    codes "scenario 1"
    ∷ codes "volume v0 256 1024"
    ∷ codes "volume v1 256 1024"
    ∷ codes "volume v2 256 1024"
    ∷ codes "volume v3 256 1024"
    ∷ codes "volume v4 256 1024"
    ∷ codes "volume v5 256 1024"
    ∷ codes "volume v6 256 1024"
    ∷ codes "volume v7 256 1024"
    ∷ codes "writer sys {\"class\":\"11111111-1111-4111-8111-111111111111\",\"components\":[{\"name\":\"main\",\"path\":\"\",\"selectable\":true,\"type\":2}],\"level\":1,\"name\":\"System\",\"source\":3,\"usage\":2}"
    ∷ codes "writer db {\"class\":\"22222222-2222-4222-8222-222222222222\",\"components\":[{\"name\":\"main\",\"path\":\"\",\"selectable\":true,\"type\":1}],\"level\":2,\"name\":\"Database\",\"source\":1,\"usage\":3}"
    ∷ codes "writer web {\"class\":\"33333333-3333-4333-8333-333333333333\",\"components\":[{\"name\":\"main\",\"path\":\"\",\"selectable\":true,\"type\":2}],\"level\":3,\"name\":\"Web\",\"source\":3,\"usage\":3}"
    ∷ []

-- ## the lane that makes the sets

abbrev pub set_lines : List (List ℕ)
set_lines =
    codes "begin 9"
    ∷ codes "gather"
    ∷ codes "await"
    ∷ codes "component sys main"
    ∷ codes "component db main"
    ∷ codes "component web main"
    ∷ codes "start"
    ∷ codes "add v0"
    ∷ codes "add v1"
    ∷ codes "add v2"
    ∷ codes "add v3"
    ∷ codes "add v4"
    ∷ codes "add v5"
    ∷ codes "add v6"
    ∷ codes "add v7"
    ∷ codes "prepare"
    ∷ codes "await"
    ∷ codes "snapshot"
    ∷ codes "await"
    ∷ codes "complete"
    ∷ codes "await"
    ∷ codes "end"
    ∷ []

-- ## the lanes that write

-- as whom a lane acts: lanes 1 to 3 as `web`, 4 to 6 as `db`, 7 to 9 as `sys`, the others as nobody
abbrev pub acting : ℕ → List ℕ
acting i = if nat_lt i 4 then codes " as web" else if nat_lt i 7 then codes " as db" else if nat_lt i 10 then codes " as sys" else []

abbrev pub write_text : ℕ → ℕ → ℕ → List ℕ
write_text volume block stamp = codes "write v" ++ decimal volume ++ codes " " ++ decimal block ++ codes " stamp " ++ decimal stamp ++ codes "\n"

-- line k of lane i
abbrev pub drawn_text : ℕ → ℕ → ℕ → List ℕ
drawn_text n i k = write_text (volume_at n i k) (block_at n i k) (stamp_at i k)

-- the two hundred writes of lane i
unfoldable pub writes_text : ℕ → ℕ → List ℕ
writes_text n i = flat_map (drawn_text n i) (range_with_len 0 200)

abbrev pub lane_text : ℕ → ℕ → List ℕ
lane_text n i = codes "lane l" ++ decimal i ++ acting i ++ codes "\n" ++ writes_text n i

-- lanes 1 to 15
abbrev pub lanes_text : ℕ → List ℕ
lanes_text n = flat_map (lane_text n) (range_with_len 1 15)

-- ## all of it

abbrev pub gen_text : ℕ → List ℕ
gen_text n =
    as_lines declarations
    ++ codes "lane l0\n" ++ as_lines set_lines ++ as_lines set_lines ++ as_lines set_lines ++ as_lines set_lines
    ++ lanes_text n
