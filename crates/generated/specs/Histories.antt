-- Short words for writing a volume's history down, and for what is seen of it.
use Rattle.std.specs.Prelude.{ℕ, true, List, [], ◌∷◌, length, option_map, Option}
use Rattle.write_history.specs.History.{History, written, fresh, contents, point_in}
use Rattle.write_history.specs.Slots.{Placed, used}
use Rattle.generated.specs.Making.{filled}

-- a block is written full of x
abbrev pub put : ℕ → ℕ → History → History
put b x h = written (record { block = b; bytes = filled x }) h

-- what a history becomes, one thing after another
abbrev pub after : History → List (History → History) → History
after h [] = h
after h (f ∷ fs) = after (f h) fs

-- the only volume of a group, of so many blocks
abbrev pub alone : ℕ → List Placed
alone n = record { blocks = n; within = true } ∷ []

abbrev pub first : List History → History
first [] = fresh
first (h ∷ hs) = h

-- ## what is seen of a volume of n blocks

-- what the volume reads
abbrev pub reads : ℕ → History → List (List ℕ)
reads n h = contents n h.writes (length h.writes)

-- what the image of set s shows, where it stands
abbrev pub shows : ℕ → ℕ → History → Option (List (List ℕ))
shows n s h = option_map (contents n h.writes) (point_in s h.images)

-- how many slots its images use
abbrev pub uses : ℕ → History → ℕ
uses n h = used n h.writes h.images
