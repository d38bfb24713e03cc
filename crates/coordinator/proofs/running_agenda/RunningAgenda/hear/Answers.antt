use Rattle.std.proofs.Common.{[], ◌∷◌, ap, refl, sym, ◌∙◌}
use Rattle.std.specs.Prelude.{not}
use Rattle.set_agenda.specs.Advance.{advance}
use Rattle.set_agenda.specs.Agenda.{groups_left, is_asked}
use Rattle.set_agenda.proofs.Held.{asked-waited}
use Rattle.set_agenda.proofs.CourseRule.{one_alone}
use Rattle.coordinator.proofs.Fitting.{Keeps, fits-all_say, keeps-entered, none-after-keeps}
use Rattle.coordinator.proofs.running_agenda.RunningAgenda.hear.Goals as goal

pub returns : goal.returns
returns c =
    let keeps : Keeps c.args.self.now c.keep_times.new.self c.place-place.result (c.args.writer ∷ []) c.args.said c.args.now = keeps-entered c.args.self.now (record c.args.self.now { agenda = c.close_writer.new.self }) c.enter.new.self c.keep_times.new.self c.place-place.result (c.args.writer ∷ []) c.of.result c.args.said c.is_ok-ok.result c.args.now
    (c.close_writer.ensures ∙ ap (λ b. advance (c.args.writer ∷ []) (not b) c.args.self.now.agenda) c.is_ok-ok.ensures) refl refl refl refl refl refl
    c.of.ensures c.is_ok-ok.ensures c.enter.ensures.froze c.enter.ensures.thawed c.enter.ensures.others
    c.keep_times.ensures.opened c.keep_times.ensures.freeze_opened c.keep_times.ensures.held c.keep_times.ensures.others in
    record {
      fits = λ a f. fits-all_say c.args.self.now c.keep_times.new.self c.place-place.result (c.args.writer ∷ []) c.args.said c.args.now refl c.place-place.ensures keeps a f
          (λ v. one_alone c.args.writer v _ (asked-waited c.args.writer (groups_left a) (sym (ap (is_asked c.args.writer) f.left) ∙ c.requires.open)));
      times = none-after-keeps c.args.self.now c.keep_times.new.self c.place-place.result (c.args.writer ∷ []) c.args.said c.args.now keeps;
    }
