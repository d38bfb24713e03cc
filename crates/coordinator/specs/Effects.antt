-- What a call tells of the step from one course to the next: which writers it froze, thawed or lost, what became of the
-- set in progress, and whether an agenda ended. (This project's own.)
use Rattle.std.specs.Prelude.{ℕ, ◌≡◌, ◌&&◌, Bool, not, List, [], ◌∷◌, Option, None, is_some}
use Rattle.vss_names.specs.declared.order.Order.{Order}
use Rattle.vss_names.specs.declared.set_outcome.SetOutcome.{SetOutcome}
use Rattle.vss_names.specs.declared.set_outcome.SetOutcome.TheVariants.{Running, Complete, Failed}
use Rattle.set_agenda.specs.Agenda.{is_frozen, left, open_place}
use Rattle.set_agenda.specs.Course.{Course}
use Rattle.set_agenda.specs.WriterSet.{writers, writers_of}
use Rattle.coordinator.specs.declared.before.Before.{Before}
use Rattle.coordinator.specs.declared.effects.Effects.{Effects}

-- the writers that pass the second test and not the first
abbrev pub newly : (ℕ → Bool) → (ℕ → Bool) → List ℕ
newly before after = writers (λ w. after w && not (before w))

-- the outcome of the set that was in progress, and Running where none was
abbrev pub outcome_told : SetOutcome → SetOutcome → SetOutcome
outcome_told Running after = after
outcome_told Complete after = Running
outcome_told (Failed why) after = Running

-- the order at which these writers were lost
abbrev pub lost_order_if : List ℕ → Option Order → Option Order
lost_order_if [] o = None
lost_order_if (w ∷ ws) o = o

-- Told of the step from c to d, in which these writers were lost at this order. `ran` says whether an agenda ran, or
-- began in the step. Bit w of a number is set exactly for a writer w.
pub record Tells (e : Effects) (ran : Bool) (gone : List ℕ) (at : Option Order) (c d : Course) : Type 0 where
  pub frozen : writers_of e.frozen ≡ newly (is_frozen c.agenda) (is_frozen d.agenda)
  pub thawed : writers_of e.thawed ≡ newly (is_frozen d.agenda) (is_frozen c.agenda)
  pub lost : writers_of e.lost ≡ gone
  pub lost_order : e.lost_order ≡ at
  pub outcome : e.outcome ≡ outcome_told c.outcome d.outcome
  pub agenda_ended : e.agenda_ended ≡ (ran && not (is_some d.agenda))

-- what is noted of the course c before a step
pub record IsBefore (b : Before) (ran : Bool) (c : Course) : Type 0 where
  pub place : b.place ≡ open_place (left c.agenda)
  pub frozen : b.frozen ≡ writers (is_frozen c.agenda)
  pub outcome : b.outcome ≡ c.outcome
  pub runs : b.runs ≡ ran
