-- The beginning: the groups and the sessions before any act, with the scenario's writers, who are registered one after another. And the
-- calls that are no acts: they leave what the core stands for as it was. (This project's own.)
use Rattle.std.specs.Prelude.{ℕ, ◌≡◌, List, [], length, map, take, Option, Some, None, slice_get}
use Rattle.volume_device.specs.declared.device.Device.{Ghosts}
use Rattle.vss_model.specs.Words.{Act, GroupPlan, History, Plan, VolumeRow, WriterPlan, blocks_in_group, contents, course_start, fresh, history_of, kept, row_of_writer, sets_of, start, state, token}
use Rattle.vss_model.specs.Words.{used}
use Rattle.provider.specs.Words.{GroupValue, LastsAt, StandsFor}
use Rattle.vss_world.specs.Words.{AreGroups, AreLater, CoordinatorState, IsOf as IsSessionsOf, IsOnTime, Keeps, ProviderValue, Registered, SessionsValue, Stands as CoordinatorStands, area_place}
use Rattle.vss_world.specs.Words.{writer_count}
use Rattle.vss_world.specs.Stands.{tells_of, AreaHolds, WorldValue, IsOf, Stands}

-- ## the beginning

-- the scenario's groups, in order, with its blocks and slots, without images, and with zeros where their devices tell
pub record AreNew {D : Type 0} (told : D → Option (List (List ℕ))) (s : Plan) (groups : List (GroupValue D)) : Type 0 where
  pub number : length groups ≡ length s.groups
  pub volumes : (g : ℕ) (x : GroupValue D) → slice_get groups g ≡ Some x → x.area.volumes ≡ blocks_in_group g s.volumes
  pub slots : (g : ℕ) (x : GroupValue D) (p : GroupPlan) → slice_get groups g ≡ Some x → slice_get s.groups g ≡ Some p → length x.area.records ≡ p.slots
  pub fresh_are : (g : ℕ) (x : GroupValue D) → slice_get groups g ≡ Some x → StandsFor told x (map (λ _. fresh) x.area.volumes)

-- as what a writer is registered: its name and its class
abbrev pub registered_as : Plan → WriterPlan → Registered
registered_as s w = record { name = token s w.name; class = w.meta.class }

-- the first k writers are registered, in order, and no session was begun
pub record HasRegistered (s : Plan) (k : ℕ) (x : CoordinatorState) : Type 0 where
  pub stands : CoordinatorStands x (course_start (map row_of_writer (take k s.writers)))
  pub writers : x.writers ≡ map (registered_as s) (take k s.writers)
  pub count : writer_count x ≡ k
  pub times : IsOnTime 0 x
  pub posts : x.posts ≡ 0

-- the sessions stand for the state before any act, with the scenario's writers
pub record AreFirst (s : Plan) (x : SessionsValue) : Type 0 where
  pub keeps : Keeps x (start s)
  pub writers : IsSessionsOf x s
  pub posts : x.coordinator.posts ≡ 0
  pub clock : x.clock ≡ 0

-- ## calls that are no acts

-- nothing but the devices in their groups may have changed: the lists of the last step are as they were
abbrev pub AreDevicesAlone : {D : Type 0} → WorldValue D → WorldValue D → Type 0
AreDevicesAlone old new = new ≡ record old { devices = new.devices; provider = record old.provider { groups = new.provider.groups } }

-- what it stands for, which devices tell, and what they tell are as they were, and what lasted lasts
pub record IsQuiet {D : Type 0} (device : Ghosts D) (old new : WorldValue D) (s : Plan) : Type 0 where
  pub stands_for : (acts : List Act) → Stands device.told old s acts → Stands device.told new s acts
  pub is_of : IsOf new s
  pub blocks : map device.told new.devices ≡ map device.told old.devices
  pub lasts : (place : ℕ) → LastsAt device place old.devices → LastsAt device place new.devices
  pub tells : tells_of device.told s new.devices ≡ tells_of device.told s old.devices
  pub later : AreLater (map device.count old.devices) (map device.count new.devices)
  pub rest : AreDevicesAlone old new

-- the area of group g was written to its device: what it stands for is as it was, and so is every other device
pub record IsSynced {D : Type 0} (device : Ghosts D) (old new : WorldValue D) (s : Plan) (g : ℕ) : Type 0 where
  pub stands_for : (acts : List Act) → Stands device.told old s acts → Stands device.told new s acts
  pub is_of : IsOf new s
  pub elsewhere : (place : ℕ) → (place ≡ area_place g s.volumes → ⊥) → slice_get new.devices place ≡ slice_get old.devices place
  pub tells : tells_of device.told s new.devices ≡ tells_of device.told s old.devices
  pub later : AreLater (map device.count old.devices) (map device.count new.devices)
  pub rest : AreDevicesAlone old new

-- after a sync the area's device holds the copies, at each list of acts that the core stands for
abbrev pub IsAreaHeld : {D : Type 0} → (D → Option (List (List ℕ))) → WorldValue D → Plan → ℕ → Type 0
IsAreaHeld told w s g = (acts : List Act) → Stands told w s acts → AreaHolds told s (state s acts).volumes w.devices g

-- ## what is told of a volume

-- these are the sets whose images are kept on volume v, at each list of acts for which both parts stand
abbrev pub AreKeptSets : {D : Type 0} → (D → Option (List (List ℕ))) → ProviderValue D → SessionsValue → Plan → ℕ → List ℕ → Type 0
AreKeptSets told p x s v sets = (acts : List Act) → Keeps x (state s acts) → AreGroups told s p.groups (state s acts).volumes → sets ≡ sets_of (kept (state s acts) (history_of (state s acts) v))
