-- How an object of the outside (a source, a sink, a device, a maker of devices) answers for its failures: it
-- keeps a count of faults that never falls; a call fails only where the count rose in that call, and answers Ok only
-- where the count is as it was. A count is a 64-bit number and stands still at the greatest one; there it counts as
-- risen. (This project's own.)
use Rattle.std.specs.List.{list_any}
use Rattle.std.specs.Prelude.{ℕ, ◌≡◌, ◌<◌, ◌≤◌, ◌+◌, ◌⊎◌, Result, IsErr, OnOk, List, fold, min, ◌==◌, Bool, [], is_err, if◌then◌else◌}

-- the count at which a count of faults stands still, 2^64 - 1
abbrev pub most : ℕ
most = 18446744073709551615

-- the count rose from `before` to `now`
abbrev pub Rose : ℕ → ℕ → Type 0
Rose before now = (before < now) ⊎ (now ≡ most)

-- what each call keeps of its object's count: it does not fall, it rose where the call failed, and it is as before
-- where the call was answered Ok
pub record HasCause {T E : Type 0} (before now : ℕ) (result : Result T E) : Type 0 where
  pub later : before ≤ now
  pub rose : IsErr result → Rose before now
  pub same : OnOk result (now ≡ before)

-- the sum of two counts
abbrev pub counted : ℕ → ℕ → ℕ
counted own other = min (own + other) most

-- a count after these were added to it one by one
abbrev pub all_counted : ℕ → List ℕ → ℕ
all_counted own counts = fold counted own counts

-- ## Which calls of one kind fail. A schedule has the numbers of the calls that fail, counted from 1, and the number
-- of calls that were made so far, which stands still at the greatest count. (This project's own.)

pub record Schedule : Type 0 where
  pub failing : List ℕ
  pub made : ℕ

-- these calls fail, counted from now on
abbrev pub failing_at : List ℕ → Schedule
failing_at numbers = record { failing = numbers; made = 0 }

-- no call fails
abbrev pub never : Schedule
never = failing_at []

-- the number of the next call
abbrev pub next_call : Schedule → ℕ
next_call calls = counted calls.made 1

-- whether the next call fails
abbrev pub fails_next : Schedule → Bool
fails_next calls = list_any (λ number. number == next_call calls) calls.failing

-- the schedule once the next call was made
abbrev pub after_call : Schedule → Schedule
after_call calls = record { failing = calls.failing; made = next_call calls }

-- One call of this kind was made. It failed exactly where its number is listed, and there alone the count of
-- faults rose, by one.
pub record IsCall {T E : Type 0} (old new : Schedule) (before now : ℕ) (result : Result T E) : Type 0 where
  pub made : new ≡ after_call old
  pub failed : is_err result ≡ fails_next old
  pub faults : now ≡ (if fails_next old then counted before 1 else before)
