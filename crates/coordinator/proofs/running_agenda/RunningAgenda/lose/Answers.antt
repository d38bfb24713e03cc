use Rattle.std.proofs.Common.{List, ap, refl, sym, ◌∙◌}
use Rattle.std.specs.Prelude.{false}
use Rattle.writer_state.specs.declared.said.Said.TheVariants.{Lost}
use Rattle.set_agenda.specs.Agenda.{Open, is_among, is_asking, waits_now}
use Rattle.set_agenda.specs.WriterSet.{is_nil}
use Rattle.set_agenda.proofs.GroupsLeft.{groups_left-waits}
use Rattle.coordinator.proofs.Fitting.{Keeps, fits-all_say, keeps-entered, none-after-keeps}
use Rattle.coordinator.proofs.running_agenda.RunningAgenda.lose.Goals as goal

pub returns : goal.returns
returns c =
    let keeps : Keeps c.args.self.now c.keep_times.new.self c.place-place.result (waits_now c.args.self.now.agenda) Lost c.args.now = keeps-entered c.args.self.now (record c.args.self.now { agenda = c.lose.new.self }) c.enter.new.self c.keep_times.new.self c.place-place.result (waits_now c.args.self.now.agenda) c.waited-writers.result Lost false c.args.now
    c.lose.ensures refl refl refl refl refl refl
    c.waited-writers.ensures refl c.enter.ensures.froze c.enter.ensures.thawed c.enter.ensures.others
    c.keep_times.ensures.opened c.keep_times.ensures.freeze_opened c.keep_times.ensures.held c.keep_times.ensures.others in
    record {
      fits = λ a f. fits-all_say c.args.self.now c.keep_times.new.self c.place-place.result (waits_now c.args.self.now.agenda) Lost c.args.now
          (ap (λ os. is_nil (waits_now os)) f.left ∙ groups_left-waits a (sym (ap is_asking f.left) ∙ c.requires)) c.place-place.ensures keeps a f
          (λ v e. ap (λ (os : List Open). is_among v (waits_now os)) (sym f.left) ∙ e);
      times = none-after-keeps c.args.self.now c.keep_times.new.self c.place-place.result (waits_now c.args.self.now.agenda) Lost c.args.now keeps;
    }
