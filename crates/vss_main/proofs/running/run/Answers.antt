use Rattle.std.proofs.Common.{refl, ap, sym, ◌∙◌}
use Rattle.std.specs.Prelude.{option_map}
use Rattle.vss_main.specs.Command.{shown, asked_by}
use Rattle.vss_main.proofs.Asking.{wants_memory, memory_where_it_can, never_usage, nothing_given, asked_not_usage, memory_not_usage, answer_by, done_by, where_by, most_by, some_by}
use Rattle.vss_main.proofs.running.run.Goals as goal

pub returns-in-Err-clause-otherwise : goal.returns-in-Err-clause-otherwise
returns-in-Err-clause-otherwise g c = wants_memory g.M.Made.Device (λ store. g.M.Maker.tells c.args.maker.now store) (asked_by c.args.words.now) _ c.in-Err.ensures.wanting
    (record { left = refl; reads = refl; unwritten = record { taken = refl; writes = refl }; unmade = record { named = refl; kept = refl; count = refl } })

pub returns-in-Err-clause-completes : goal.returns-in-Err-clause-completes
returns-in-Err-clause-completes g c = memory_where_it_can (asked_by c.args.words.now) _

pub returns-in-Err-clause-too_long : goal.returns-in-Err-clause-too_long
returns-in-Err-clause-too_long g c = nothing_given _ _ _ (λ e. cc)

pub returns-in-Ok-None-clause-too_long : goal.returns-in-Ok-None-clause-too_long
returns-in-Ok-None-clause-too_long g c = nothing_given _ _ _ (λ e. cc)

pub returns-in-Err-clause-words : goal.returns-in-Err-clause-words
returns-in-Err-clause-words g c = asked_not_usage (asked_by c.args.words.now) c.in-Err.ensures.wanting memory_not_usage

pub returns-in-Ok-Some-clause-words : goal.returns-in-Ok-Some-clause-words
returns-in-Ok-Some-clause-words g c = asked_not_usage (asked_by c.args.words.now)
    (some_by (asked_by c.args.words.now) (shown c.in-Ok-Some.command) (ap (option_map shown) (sym c.in-Ok-Some.field-0-is) ∙ c.in-Ok-Some.ensures.found))
    (λ e. never_usage g.M.Made.Device (λ store. g.M.Maker.tells c.args.maker.now store) _ _ _ _ c.run_task.ensures.task e)

pub returns-in-Ok-Some-clause-otherwise : goal.returns-in-Ok-Some-clause-otherwise
returns-in-Ok-Some-clause-otherwise g c = answer_by g.M.Made.Device (λ store. g.M.Maker.tells c.args.maker.now store) (asked_by c.args.words.now)
    (shown c.in-Ok-Some.command) _ c.run_task.result (ap (option_map shown) (sym c.in-Ok-Some.field-0-is) ∙ c.in-Ok-Some.ensures.found) c.run_task.ensures.task

pub returns-in-Ok-Some-clause-completes : goal.returns-in-Ok-Some-clause-completes
returns-in-Ok-Some-clause-completes g c = where_by (asked_by c.args.words.now) (shown c.in-Ok-Some.command) _ c.run_task.result
    (ap (option_map shown) (sym c.in-Ok-Some.field-0-is) ∙ c.in-Ok-Some.ensures.found) c.run_task.ensures.answered

pub returns-in-Ok-Some-clause-too_long : goal.returns-in-Ok-Some-clause-too_long
returns-in-Ok-Some-clause-too_long g c = most_by _ _ _ (asked_by c.args.words.now) (shown c.in-Ok-Some.command)
    (ap (option_map shown) (sym c.in-Ok-Some.field-0-is) ∙ c.in-Ok-Some.ensures.found) c.run_task.ensures.too_long

pub returns-in-Ok-Some-clause-done : goal.returns-in-Ok-Some-clause-done
returns-in-Ok-Some-clause-done g c = λ folder e f. done_by g.M.Made.Device (λ store. g.M.Maker.tells c.args.maker.now store)
    (asked_by c.args.words.now) folder _ c.run_task.result (returns-in-Ok-Some-clause-otherwise g c) e f
