use Rattle.std.specs.Prelude.{Result, Ok, Err, IfOk}
use Rattle.scenario.specs.Grammar.{reading_of, takes_memory}
use Rattle.scenario.proofs.parsing.refusal_in.Goals as goal

if_ok : {T E : Type 0} (P Q : T → Type 0) (r : Result T E) → ((x : T) → P x → Q x) → IfOk r P → IfOk r Q
if_ok P Q (Ok x) f h = f x h
if_ok P Q (Err e) f h = h

pub returns-in-Err : goal.returns-in-Err
returns-in-Err c = if_ok _ _ c.refusal_at.result (λ x h. h (reading_of c.args.text.now) (takes_memory c.args.text.now) c.in-Err.ensures.refused) c.refusal_at.ensures
