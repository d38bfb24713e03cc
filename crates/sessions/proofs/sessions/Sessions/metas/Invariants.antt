use Rattle.sessions.proofs.Words.{metas_of, State, known_from, known_metas, Keeps}
use Rattle.std.proofs.Common.{◌≡◌, ◌++◌, drop, map, length}
use Rattle.std.specs.Prelude.{option_map}
use Rattle.sessions.proofs.sessions.Sessions.metas.Given as goal

-- the metadata that are known of the writers so far, and then those of the others
abbrev pub invariant-loop-writer : goal.invariant-loop-writer
invariant-loop-writer l = record {
  known : (st : State) → Keeps l.self st
      → metas_of (map (option_map (λ found. found.now)) l.known.items) ++ known_from l.scenario st l.writer (drop l.writer l.scenario.writers) ≡ known_metas l.scenario st;
  count : length l.known.items ≡ l.writer;
}
