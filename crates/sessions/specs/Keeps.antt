-- What is kept of sessions, sets, writers and time, and for which states of the definitions it stands. (This project's
-- own.)
use Rattle.std.specs.Prelude.{ℕ, ◌≡◌, ◌<◌, ◌≤◌, ◌^◌, ◌-◌, ◌+◌, List, length, map, All, [], Option, option_map}
use Rattle.vss_model.specs.Words.{Held, IsOfSession, IsSelectedOver, Named, NumberedFrom, OverButNewest, Plan, Sessions as Requestor, SetRow, State, WriterPlan, in_progress, known_metas, selected}
use Rattle.sessions.specs.Words.{CoordinatorState, IsOnTime, MayPost, Registered, Stands, writer_count}
use Rattle.sessions.specs.Sets.{bare}
use Rattle.sessions.specs.declared.sessions.Sessions.TheInside.{Inside}

pub record SessionsValue : Type 0 where
  pub requestor : Requestor
  pub coordinator : CoordinatorState
  pub sets : List SetRow
  pub clock : ℕ
  -- the components that the session has named
  pub selection : Held

-- what contracts see of the sessions: their parts
abbrev pub value_of : Inside → SessionsValue
value_of a =
    record { requestor = a.requestor; coordinator = a.coordinator; sets = a.sets; clock = a.clock; selection = a.selection }

-- the same, but that nothing is named
abbrev pub nothing_named_in : SessionsValue → SessionsValue
nothing_named_in x = record x { selection = record { writers = writer_count x.coordinator; selected = Named [] } }

-- This stands for all of a state but the volumes, and which of them are in a set.
pub record Keeps (x : SessionsValue) (st : State) : Type 0 where
  pub session : x.requestor.session ≡ st.session
  pub made : x.requestor.sets_made ≡ length st.sets
  pub course : Stands x.coordinator st.course
  -- the volumes of the sets are the provider's to keep
  pub sets : x.sets ≡ map bare st.sets
  pub clock : x.clock ≡ st.clock
  pub explicit : x.selection.selected ≡ Named st.explicit
  -- the selection is over all writers
  pub over : x.selection.writers ≡ writer_count x.coordinator
  -- nothing that limits run from is after the clock
  pub on_time : IsOnTime x.clock x.coordinator
  -- only writers that there are were named to be disabled
  pub disabled : All (λ w. w < writer_count x.coordinator) st.course.disabled

-- ## what is known of a state

-- facts of a state that every list of acts leads to, and that a change of the volumes leaves as they are
pub record IsInOrder (st : State) : Type 0 where
  pub numbered : NumberedFrom 1 st.sets
  pub newest : OverButNewest st.sets
  pub session : IsOfSession st.session st.course.outcome (in_progress st)

abbrev pub classes_registered : List Registered → List ℕ
classes_registered ws = map (λ (r : Registered). r.class) ws

abbrev pub classes_of : List WriterPlan → List ℕ
classes_of ws = map (λ (w : WriterPlan). w.meta.class) ws

-- the writers are those of the scenario
pub record IsOf (x : SessionsValue) (s : Plan) : Type 0 where
  pub classes : classes_registered x.coordinator.writers ≡ classes_of s.writers
  pub count : writer_count x.coordinator ≡ length s.writers

-- What is kept stands for this state of a run of the scenario, which is one that acts lead to.
pub record IsAt (x : SessionsValue) (s : Plan) (st : State) : Type 0 where
  pub keeps : Keeps x st
  pub of : IsOf x s
  pub order : IsInOrder st
  pub named : IsSelectedOver (known_metas s st) (Named st.explicit)

-- It stands for such a state, so early in a run that no count is near its end.
pub record IsStandingIn (s : Plan) (x : SessionsValue) : Type 0 where
  pub state : State
  pub at : IsAt x s state
  pub posts : MayPost x.coordinator
  pub sets : length state.sets < 2 ^ 32 - 1
  pub early : x.clock < 2 ^ 62

-- the same, for some scenario
pub record IsStanding (x : SessionsValue) : Type 0 where
  pub plan : Plan
  pub standing : IsStandingIn plan x
  pub open standing use *

-- ## what each call leaves

-- the writers and the clock stay, orders are posted once more at most, and one set more is started at most
pub record Leaves (old new : SessionsValue) : Type 0 where
  pub writers : new.coordinator.writers ≡ old.coordinator.writers
  pub count : writer_count new.coordinator ≡ writer_count old.coordinator
  pub posts : new.coordinator.posts ≤ old.coordinator.posts + 1
  pub sets : length new.sets ≤ length old.sets + 1
  pub clock : new.clock ≡ old.clock

-- the writers and the clock stay, no order is posted, and no set is started
pub record KeepsCounts (old new : SessionsValue) : Type 0 where
  pub writers : new.coordinator.writers ≡ old.coordinator.writers
  pub count : writer_count new.coordinator ≡ writer_count old.coordinator
  pub posts : new.coordinator.posts ≡ old.coordinator.posts
  pub sets : length new.sets ≡ length old.sets
  pub clock : new.clock ≡ old.clock

-- the lane that owns the session
abbrev pub owner_of : SessionsValue → Option ℕ
owner_of x = option_map (λ session. session.owner) x.requestor.session

-- the same, so many ticks later
abbrev pub later_by : ℕ → SessionsValue → SessionsValue
later_by n x = record x { clock = x.clock + n }

-- at most so many ticks went by
pub record LeavesWithin (most : ℕ) (old new : SessionsValue) : Type 0 where
  pub ticks : ℕ
  pub few : ticks ≤ most
  pub leaves : Leaves (later_by ticks old) new
