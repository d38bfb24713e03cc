use Rattle.std.proofs.Common.{List, [], ◌∷◌, ap, refl, sym, ◌∙◌}
use Rattle.writer_state.specs.declared.said.Said.TheVariants.{Ok as SaidOk}
use Rattle.set_agenda.specs.Agenda.{Open, groups_left, is_among, is_working, next_member, waits_now}
use Rattle.set_agenda.proofs.Held.{next-waited}
use Rattle.set_agenda.proofs.CourseRule.{one_alone}
use Rattle.coordinator.proofs.Fitting.{Keeps, enters-not, fits-all_say, keeps-timed, no-freeze, no-thaw, none-after-keeps}
use Rattle.coordinator.proofs.running_agenda.RunningAgenda.work.Goals as goal

pub returns : goal.returns
returns c =
    let keeps : Keeps c.args.self.now c.keep_times.new.self c.place-place.result (next_member c.args.self.now.agenda ∷ []) SaidOk c.args.now = keeps-timed c.args.self.now (record c.args.self.now { agenda = c.close_step.new.self }) c.keep_times.new.self c.place-place.result (next_member c.args.self.now.agenda ∷ []) SaidOk c.args.now
    c.close_step.ensures
    (enters-not c.args.self.now.froze (next_member c.args.self.now.agenda ∷ []) _ (no-freeze c.args.self.now.agenda c.place-place.result c.place-place.ensures c.requires))
    (enters-not c.args.self.now.thawed (next_member c.args.self.now.agenda ∷ []) _ (no-thaw c.args.self.now.agenda c.place-place.result c.place-place.ensures c.requires))
    refl refl refl refl
    c.keep_times.ensures.opened c.keep_times.ensures.freeze_opened c.keep_times.ensures.held c.keep_times.ensures.others in
    record {
      fits = λ a f. fits-all_say c.args.self.now c.keep_times.new.self c.place-place.result (next_member c.args.self.now.agenda ∷ []) SaidOk c.args.now refl c.place-place.ensures keeps a f
          (λ v. one_alone (next_member c.args.self.now.agenda) v _ (ap (λ (os : List Open). is_among (next_member os) (waits_now (groups_left a))) f.left ∙ next-waited a (sym (ap is_working f.left) ∙ c.requires)));
      times = none-after-keeps c.args.self.now c.keep_times.new.self c.place-place.result (next_member c.args.self.now.agenda ∷ []) SaidOk c.args.now keeps;
    }
