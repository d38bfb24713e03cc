use Rattle.std.proofs.Common.{arith, refl, sym, ◌∙◌}
use Rattle.set_agenda.proofs.WriterSets.{writers-none}
use Rattle.coordinator.proofs.running_agenda.RunningAgenda.new.Goals as goal

pub returns : goal.returns
returns c = record {
  fits = record {
    kind = refl;
    left = c.in_ok-agenda.ensures c.args.now;
    froze = c.new-2.ensures ∙ sym writers-none;
    thawed = c.new-3.ensures ∙ sym writers-none;
    opened = refl;
    freeze_opened = refl;
    held = refl;
    own = λ v e. cc;
  };
  times = record { opened = grind arith; freeze_opened = grind arith; held = λ t e. cc };
}
