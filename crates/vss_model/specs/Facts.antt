-- The facts that every list of acts keeps together: sets are numbered 1, 2, 3 and at most the newest is in progress; the
-- session's stage says whether its set is; a running agenda is the one that its stage waits for; and an image stands only
-- of a set that has not failed.
use Rattle.std.specs.Prelude.{ℕ, ◌≡◌, ◌+◌, Bool, true, false, List, [], ◌∷◌, ◌++◌, ◌==◌, ◌&&◌, not, Option, Some, None}
use Rattle.std.specs.List.{list_any}
use Rattle.vss_names.specs.declared.context.Context.{Context}
use Rattle.vss_names.specs.declared.set_outcome.SetOutcome.{SetOutcome}
use Rattle.vss_names.specs.declared.set_outcome.SetOutcome.TheVariants.{Running, Complete as CompleteSet, Failed as FailedSet}
use Rattle.write_history.specs.History.{Image, History}
use Rattle.write_history.specs.Slots.{Copy}
use Rattle.set_agenda.specs.declared.kind.Kind.{Kind}
use Rattle.set_agenda.specs.declared.kind.Kind.TheVariants.{Gather, Prepare, Snapshot, Complete}
use Rattle.set_agenda.specs.Agenda.{Agenda}
use Rattle.requestor.specs.declared.stage.Stage.{Stage}
use Rattle.requestor.specs.declared.stage.Stage.TheVariants.{Opened, Gathered, Started, Prepared, Done, Finished, Failed}
use Rattle.requestor.specs.Session.{Session, has_writers, makes_set}
use Rattle.vss_model.specs.State.{State, SetRow, is_running, in_progress}

-- ## sets

-- numbered n, n + 1 and so on
abbrev pub NumberedFrom : ℕ → List SetRow → Type 0
NumberedFrom n [] = Unit {0}
NumberedFrom n (r ∷ rows) = (r.number ≡ n) × NumberedFrom (n + 1) rows

-- none but the newest is in progress
abbrev pub OverButNewest : List SetRow → Type 0
OverButNewest [] = Unit {0}
OverButNewest (r ∷ []) = Unit {0}
OverButNewest (r ∷ q ∷ rows) = (is_running r.result ≡ false) × OverButNewest (q ∷ rows)

-- ## the session

-- before its set is started, a session has the outcome Running
abbrev pub is_early : Stage → Bool
is_early Opened = true
is_early Gathered = true
is_early Started = false
is_early Prepared = false
is_early Done = false
is_early Finished = false
is_early Failed = false

-- the set in progress is the session's, and its stage says so
abbrev pub IsOfStage : Stage → Option ℕ → SetOutcome → Option SetRow → Type 0
IsOfStage stage set o None = (makes_set stage ≡ false) × (is_early stage ≡ true → o ≡ Running)
IsOfStage stage set o (Some r) = (makes_set stage ≡ true) × (set ≡ Some r.number) × (o ≡ Running)

-- without a session no set is in progress
abbrev pub IsOfNone : SetOutcome → Option SetRow → Type 0
IsOfNone o None = o ≡ Running
IsOfNone o (Some r) = ⊥

abbrev pub IsOfSession : Option Session → SetOutcome → Option SetRow → Type 0
IsOfSession None o found = IsOfNone o found
IsOfSession (Some q) o found = IsOfStage q.stage q.set o found

-- the stage in which `snapshot` is called, in a context with writers or in one without
abbrev pub snapshot_stage : Bool → Stage
snapshot_stage true = Prepared
snapshot_stage false = Started

-- the stage that waits for an agenda
abbrev pub WaitsFor : Kind → Context → Stage → Type 0
WaitsFor Gather c s = s ≡ Opened
WaitsFor Prepare c s = (s ≡ Started) × (has_writers c ≡ true)
WaitsFor Snapshot c s = s ≡ snapshot_stage (has_writers c)
WaitsFor Complete c s = s ≡ Done

abbrev pub IsAgendaOf : Option Agenda → Option Session → Type 0
IsAgendaOf None q = Unit {0}
IsAgendaOf (Some a) None = ⊥
IsAgendaOf (Some a) (Some q) = WaitsFor a.kind q.context q.stage

-- ## images

abbrev pub has_failed : SetOutcome → Bool
has_failed Running = false
has_failed CompleteSet = false
has_failed (FailedSet why) = true

-- set n was started, and has not failed
abbrev pub is_live : List SetRow → ℕ → Bool
is_live rows n = list_any (λ r. (r.number == n) && not (has_failed r.result)) rows

abbrev pub AreLive : List SetRow → List Image → Type 0
AreLive rows [] = Unit {0}
AreLive rows (i ∷ is) = (is_live rows i.set ≡ true) × AreLive rows is

abbrev pub AllLive : List SetRow → List History → Type 0
AllLive rows [] = Unit {0}
AllLive rows (h ∷ hs) = AreLive rows h.images × AllLive rows hs

-- ## together

pub record IsOrderly (st : State) : Type 0 where
  pub numbered : NumberedFrom 1 st.sets
  pub newest : OverButNewest st.sets
  pub session : IsOfSession st.session st.course.outcome (in_progress st)
  pub agenda : IsAgendaOf st.course.agenda st.session
  pub live : AllLive st.sets st.volumes

-- ## copies

-- whether one of these copies is for set n
abbrev pub holds_for : ℕ → List Copy → Bool
holds_for n copies = list_any (λ c. c.set == n) copies

-- ## images in time

-- the image of set n, with point p, is the last of these
pub record IsNewest (n p : ℕ) (images : List Image) : Type 0 where
  pub older : List Image
  pub is : images ≡ older ++ (record { set = n; point = p }) ∷ []
