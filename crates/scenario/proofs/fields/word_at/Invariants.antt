use Rattle.std.proofs.Common.{◌≡◌}
use Rattle.std.specs.Prelude.{slice_range}
use Rattle.scenario.specs.Fields.{words_at, words_from}
use Rattle.scenario.proofs.fields.word_at.Given as goal

-- what is left goes on with the word at hand
abbrev pub invariant-loop-at : goal.invariant-loop-at
invariant-loop-at l = words_at l.text l.start l.end ≡ words_from l.start l.at (slice_range l.text l.at l.end)
