-- Two images of a volume of four blocks use both its slots, and a third block is written: the older image goes.
use Rattle.std.specs.Prelude.{ℕ, [], ◌∷◌, map}
use Rattle.write_history.specs.History.{History, fresh, cut}
use Rattle.write_history.specs.Slots.{evicted_up_to, gone_up_to}
use Rattle.generated.specs.Histories.{after, put, alone, first}

abbrev pub before : History
before = after fresh (cut 1 ∷ put 0 1 ∷ cut 2 ∷ put 1 2 ∷ [])

-- after two sets, with two slots, for a write of block 2
abbrev pub evicted : ℕ
evicted = evicted_up_to 2 2 (alone 4) 0 2 (before ∷ [])

abbrev pub overwritten : History
overwritten = first (map (put 2 3) (gone_up_to evicted (alone 4) (before ∷ [])))
