-- What is kept over all sessions of a requestor: the session that stands, if one does, and how many sets were made so
-- far; and what an accepted call and the end of an agenda make of it. Sets are numbered 1, 2, 3 as they are started.
-- (This project's own.)
use Rattle.std.specs.Prelude.{ℕ, ◌+◌, Bool, true, Option, None, option_map, is_some}
use Rattle.vss_names.specs.declared.set_outcome.SetOutcome.{SetOutcome}
use Rattle.vss_names.specs.declared.set_outcome.SetOutcome.TheVariants.{Running, Complete as CompleteSet, Failed}
use Rattle.vss_names.specs.declared.vss_result.VssResult.TheVariants.{AsyncCancelled}
use Rattle.requestor.specs.declared.session_call.SessionCall.{SessionCall}
use Rattle.requestor.specs.declared.session_call.SessionCall.TheVariants.{Begin, Disable, Gather, Component, Document, Start, Add, Prepare, Snapshot, Await, Status, Complete, Abort, End}
use Rattle.requestor.specs.Session.{Session, agenda_ended, context_of, opened, set_failed, started}

pub record Sessions : Type 0 where
  pub session : Option Session
  -- how many sets were started, in all sessions so far
  pub sets_made : ℕ

abbrev pub no_session : Sessions
no_session = record { session = None; sets_made = 0 }

-- ## an accepted call

-- whether a session can be opened in the context that a `begin` names; the other calls name none
abbrev pub has_context : SessionCall → Bool
has_context (Begin n all) = is_some (context_of n all)
has_context Disable = true
has_context Gather = true
has_context Component = true
has_context Document = true
has_context Start = true
has_context Add = true
has_context Prepare = true
has_context Snapshot = true
has_context Await = true
has_context Status = true
has_context Complete = true
has_context Abort = true
has_context End = true

abbrev pub begun : ℕ → ℕ → Bool → Option Session
begun lane n all = option_map (λ c. opened lane c all) (context_of n all)

-- what an accepted call makes of the session. What the calls that begin an agenda bring comes as the agenda ends
abbrev pub applied : ℕ → SessionCall → Sessions → Sessions
applied lane (Begin n all) s = record s { session = begun lane n all }
applied lane Disable s = s
applied lane Gather s = s
applied lane Component s = s
applied lane Document s = s
applied lane Start s = record { session = option_map (started (s.sets_made + 1)) s.session; sets_made = s.sets_made + 1 }
applied lane Add s = s
applied lane Prepare s = s
applied lane Snapshot s = s
applied lane Await s = s
applied lane Status s = s
applied lane Complete s = s
applied lane Abort s = record s { session = option_map (set_failed AsyncCancelled) s.session }
applied lane End s = record s { session = None }

-- ## the end of an agenda

-- the session, by the outcome of its set as the agenda ends
abbrev pub ended : SetOutcome → Session → Session
ended Running q = agenda_ended q
ended CompleteSet q = agenda_ended q
ended (Failed why) q = set_failed why q

abbrev pub after_agenda : SetOutcome → Sessions → Sessions
after_agenda o s = record s { session = option_map (ended o) s.session }
