use Rattle.std.specs.Prelude.{All}
use Rattle.provider.specs.Calls.{IsRowOf}
use Rattle.provider.proofs.digesting.rows_of.Given as goal

abbrev pub invariant-loop-set : goal.invariant-loop-set
invariant-loop-set g l = All (IsRowOf l.fn.scenario) l.rows.items

abbrev pub invariant-loop-volume : goal.invariant-loop-volume
invariant-loop-volume g l = All (IsRowOf l.fn.scenario) l.rows.items
