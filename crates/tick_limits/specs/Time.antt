-- Time is counted in ticks, one to a millisecond, from 0 at the start of a run. A limit that runs since some tick
-- is spent where more ticks than the limit have gone by since then; exactly as many as the limit still pass.
-- (This project's own, but for the lengths of two limits; see there.)
use Rattle.std.specs.Prelude.{ℕ, ◌≡◌, ◌+◌, ◌-◌, ◌<◌, ◌^◌, Bool, true, false, nat_lt}

-- the last tick that a clock shows
abbrev pub last_tick : ℕ
last_tick = 2 ^ 63

-- how long an order other than Freeze may stay unanswered: 300 seconds (this project's own)
abbrev pub answer_limit : ℕ
answer_limit = 300000

-- how long the writes of a set's volumes may be held: 10 seconds (SDK documentation, how a shadow copy is created)
abbrev pub hold_limit : ℕ
hold_limit = 10000

-- how long a writer that states no time-out of its own may stand frozen: 60 seconds (SDK documentation,
-- CVssWriter::Initialize); that no writer may state a longer time-out is this project's own
abbrev pub default_freeze : ℕ
default_freeze = 60000

-- at the tick `now`, a limit that runs since the tick `since` is spent
abbrev pub is_spent : ℕ → ℕ → ℕ → Bool
is_spent now since limit = nat_lt limit (now - since)

-- from the tick `now` on, the ticks until such a limit is spent; 0 where it is spent already
abbrev pub ticks_until : ℕ → ℕ → ℕ → ℕ
ticks_until now since limit = (since + limit + 1) - now

-- that many ticks, and no fewer, spend the limit
pub record IsLeastToSpend (now since limit ticks : ℕ) : Type 0 where
  pub spends : is_spent (now + ticks) since limit ≡ true
  pub fewer : (n : ℕ) → n < ticks → is_spent (now + n) since limit ≡ false
