-- The writes of the generated lanes: volumes and blocks are drawn by a linear congruence, and no two lanes write one block.
-- (The numbers of the congruence are those of the drand48 family; the rest is this project's own.)
use Rattle.std.specs.List.{range_with_len}
use Rattle.std.specs.Prelude.{ℕ, zero, suc, ◌+◌, ◌*◌, ◌/◌, ◌%◌, ◌^◌, List, map}
use Rattle.scenario.specs.declared.op.Op.{Op}
use Rattle.scenario.specs.declared.op.Op.TheVariants.{WriteStamp}

-- the number at which lane i of the scenario n stands before its line k
unfoldable pub stands_at : ℕ → ℕ → ℕ → ℕ
stands_at n i zero = 16 * n + i
stands_at n i (suc k) = (25214903917 * stands_at n i k + 11) % 2 ^ 48

-- the upper bits of the next number, of which line k takes its volume and its block
unfoldable pub drawn : ℕ → ℕ → ℕ → ℕ
drawn n i k = stands_at n i (suc k) / 65536

unfoldable pub volume_at : ℕ → ℕ → ℕ → ℕ
volume_at n i k = drawn n i k % 8

unfoldable pub block_at : ℕ → ℕ → ℕ → ℕ
block_at n i k = 16 * i + (drawn n i k / 8) % 16

unfoldable pub stamp_at : ℕ → ℕ → ℕ
stamp_at i k = 1000000 * i + k

-- ## The lines of the lanes that write, as what they ask for: each writes a number of its own where the congruence puts it.
-- (This project's own.)

-- line k of lane i
abbrev pub write_at : ℕ → ℕ → ℕ → Op
write_at n i k = WriteStamp (volume_at n i k) (block_at n i k) (stamp_at i k)

abbrev pub writes_of_lane : ℕ → ℕ → List Op
writes_of_lane n i = map (write_at n i) (range_with_len 0 200)
