-- What the core of the service stands for: a list of acts; and the devices of all its groups as one list. (This project's own.)
use Rattle.std.specs.Prelude.{ℕ, ◌≡◌, ◌<◌, ◌+◌, ◌⊎◌, true, List, length, Option, Some, None, is_some, slice_get, ◌≤◌, ◌*◌, [], ◌∷◌, if◌then◌else◌}
use Rattle.vss_model.specs.Words.{History, Plan, VolumeRow, blocks_in_group, contents, copies, of_group, Act, Agenda, Evicted, Member, SetRow, State}
use Rattle.vss_model.specs.Words.{are_distinct, in_progress, is_snapshot, state, volumes_of}
pub use Rattle.provider.specs.Groups.{told_of, told_by, told_at, tells_from, tells_of, HasFailed}
use Rattle.provider.specs.Words.{AreStored, placed}
use Rattle.vss_world.specs.Words.{RoseAlone, area_place, first_place, volume_place, volumes_area, AreGroups, HasGroups, IsOf as IsSessionsOf, Keeps}
use Rattle.vss_world.specs.Words.{ProviderValue, SessionsValue, devices_of}

-- ## The devices of all groups as one list, in the order in which they are given back. What is said of the two devices of a volume, its
-- own and that of its group's area: that they hold its content, and that one of them failed. (This project's own.)

-- ## what is held

-- where a volume tells, its device holds the volume's content
abbrev pub AllTied : {D : Type 0} → (D → Option (List (List ℕ))) → Plan → List History → List D → Type 0
AllTied told s hs devices = (v : ℕ) (r : VolumeRow) (h : History) (blocks : List (List ℕ)) → slice_get s.volumes v ≡ Some r → slice_get hs v ≡ Some h
    → told_at told s devices v ≡ Some blocks → blocks ≡ contents r.blocks h.writes (length h.writes)

-- the device of each volume of group g tells
abbrev pub AllTell : {D : Type 0} → (D → Option (List (List ℕ))) → Plan → List D → ℕ → Type 0
AllTell told s devices g = (u : ℕ) → u < length (blocks_in_group g s.volumes) → is_some (told_by told devices (first_place g s.volumes + u)) ≡ true

-- where the device of the area of group g and those of all its volumes tell, the area's holds the copies of the group's images
abbrev pub AreaHolds : {D : Type 0} → (D → Option (List (List ℕ))) → Plan → List History → List D → ℕ → Type 0
AreaHolds told s hs devices g = AllTell told s devices g
    → AreStored (told_by told devices (area_place g s.volumes)) (copies (placed (blocks_in_group g s.volumes)) (of_group g s.volumes hs))

-- the count of the device of a volume rose, or that of its group's area, and no other
abbrev pub RoseFor : Plan → Option ℕ → List ℕ → List ℕ → Type 0
RoseFor s None old new = ⊥
RoseFor s (Some v) old new = RoseAlone (volume_place s v) old new ⊎ RoseAlone (volumes_area s v) old new

-- ## What the core of the service stands for: a list of acts. Its groups of volumes stand for the histories of the volumes; the provider
-- prepares the set in progress; and its other parts stand for the rest of the state. (This project's own.)

-- what a contract sees: the devices, in the order in which they are given back; the lists that the last step told beside its outcome;
-- and the rest, of which `Stands` speaks
pub record WorldValue (D : Type 0) : Type 0 where
  pub devices : List D
  -- the sets that it listed
  pub listed : List ℕ
  -- the kept images that it evicted
  pub evicted : List Evicted
  pub provider : ProviderValue D
  pub sessions : SessionsValue

-- ## the scenario

-- the core has the scenario's groups and writers
pub record IsOf {D : Type 0} (w : WorldValue D) (s : Plan) : Type 0 where
  pub devices : w.devices ≡ devices_of w.provider.groups
  pub number : length w.provider.groups ≡ length s.groups
  pub groups : HasGroups s w.provider.groups
  pub writers : IsSessionsOf w.sessions s

-- ## the set that is prepared

-- the number of the set whose snapshot's agenda runs; 0 where none does
abbrev pub number_prepared : Option SetRow → Option Agenda → ℕ
number_prepared None a = 0
number_prepared (Some r) None = 0
number_prepared (Some r) (Some a) = if is_snapshot a.kind then r.number else 0

-- the provider prepares the set in progress: it has its volumes, and its number from the accepted `snapshot` on
pub record IsPrepared {D : Type 0} (p : ProviderValue D) (st : State) : Type 0 where
  pub volumes : p.volumes ≡ volumes_of (in_progress st)
  pub set : p.set ≡ number_prepared (in_progress st) st.course.agenda
  pub distinct : are_distinct p.volumes ≡ true

-- ## numbers

-- all of these are below n
abbrev pub AreBelow : ℕ → List ℕ → Type 0
AreBelow n [] = Unit {0}
AreBelow n (v ∷ vs) = (v < n) × AreBelow n vs

abbrev pub MembersBelow : ℕ → List Member → Type 0
MembersBelow n [] = Unit {0}
MembersBelow n (m ∷ ms) = (m.writer < n) × MembersBelow n ms

abbrev pub SetsBelow : ℕ → List SetRow → Type 0
SetsBelow n [] = Unit {0}
SetsBelow n (r ∷ rows) = AreBelow n r.volumes × SetsBelow n rows

abbrev pub IsAgendaIn : Plan → Option Agenda → Type 0
IsAgendaIn s None = Unit {0}
IsAgendaIn s (Some a) = AreBelow (length s.volumes) a.volumes × MembersBelow (length s.writers) a.members

-- the volumes of the sets and of the agenda are of the scenario, and so are the writers that take part or are disabled
pub record IsInPlan (s : Plan) (st : State) : Type 0 where
  pub sets : SetsBelow (length s.volumes) st.sets
  pub agenda : IsAgendaIn s st.course.agenda
  pub members : MembersBelow (length s.writers) st.course.members
  pub disabled : AreBelow (length s.writers) st.course.disabled

-- ## what it stands for

-- a state, by what the provider and the sessions are
pub record StandsAt {D : Type 0} (told : D → Option (List (List ℕ))) (p : ProviderValue D) (x : SessionsValue) (s : Plan) (st : State) : Type 0 where
  pub groups : AreGroups told s p.groups st.volumes
  pub prepared : IsPrepared p st
  pub sessions : Keeps x st
  pub plan : IsInPlan s st

-- The state after these acts. With each act at most one set is started, orders are posted once at most, and a tick of at most
-- 1,000,000,000 goes by.
pub record Stands {D : Type 0} (told : D → Option (List (List ℕ))) (w : WorldValue D) (s : Plan) (acts : List Act) : Type 0 where
  pub at : StandsAt told w.provider w.sessions s (state s acts)
  pub sets : length w.sessions.sets ≤ length acts
  pub posts : w.sessions.coordinator.posts ≤ length acts
  pub early : w.sessions.clock ≤ 1000000000 * length acts

-- It stands for some acts, few enough. A step asks for this, so that what every list of acts keeps is known in it.
pub record IsStanding {D : Type 0} (told : D → Option (List (List ℕ))) (w : WorldValue D) (s : Plan) : Type 0 where
  pub acts : List Act
  pub few : length acts < 2097152
  pub stands : Stands told w s acts

-- at each state that it stands for after acts of the scenario
abbrev pub IfStands : {D : Type 0} → (D → Option (List (List ℕ))) → WorldValue D → Plan → (State → Type 0) → Type 0
IfStands told w s P = (acts : List Act) → Stands told w s acts → P (state s acts)
