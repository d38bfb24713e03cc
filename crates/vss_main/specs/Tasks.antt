-- What the top call promises, by what the words ask for. (This project's own.)
use Rattle.std.specs.Prelude.{ℕ, ◌≡◌, Bool, List, Option, Some, None}
use Rattle.volume_device.specs.declared.store.Store.{Store}
use Rattle.volume_device.specs.declared.device.Device.{Ghosts}
use Rattle.vss_main.specs.Command.{Asked}
use Rattle.vss_main.specs.declared.task.Task.{Task}
use Rattle.vss_main.specs.declared.task.Task.TheVariants.{Run, Generate, Inspect}
use Rattle.vss_main.specs.Generated.{IsGeneration, IsSummedWhereItCan}
use Rattle.vss_main.specs.Inspected.{IsListing}
use Rattle.vss_main.specs.Outside.{Around}
use Rattle.vss_main.specs.TopCall.{IsUntouched, IsStatus, IsRunWhereItCan}
use Rattle.vss_main.specs.declared.status.Status.{Status}
use Rattle.vss_main.specs.declared.status.Status.TheVariants.{Usage}

-- the source was left alone
pub record IsUnread {D : Type 0} (a : Around D) : Type 0 where
  pub left : a.left_last ≡ a.left_first
  pub reads : a.reads_last ≡ a.reads_first

-- a task was done, or ended with another status for its cause
abbrev pub IsTask : {D : Type 0} → Ghosts D → (Store → Bool) → Option (List ℕ) → Task → Around D → Status → Type 0
IsTask ghosts tells folder Run a status = IsStatus ghosts tells folder a status
IsTask ghosts tells folder (Generate n) a status = IsUnread a × IsGeneration ghosts tells folder n a.out status
IsTask ghosts tells folder Inspect a status = IsListing a status

-- where the words are no command, nothing is read, made or written
abbrev pub IsAnswer : {D : Type 0} → Ghosts D → (Store → Bool) → Option Asked → Around D → Status → Type 0
IsAnswer ghosts tells None a status = (status ≡ Usage) × IsUntouched a
IsAnswer ghosts tells (Some asked) a status = IsTask ghosts tells asked.folder asked.task a status

-- where no count rises
abbrev pub IsTaskWhereItCan : {D : Type 0} → Task → Around D → Status → Type 0
IsTaskWhereItCan Run a status = IsRunWhereItCan a status
IsTaskWhereItCan (Generate n) a status = IsSummedWhereItCan a.out status
IsTaskWhereItCan Inspect a status = Unit {0}

abbrev pub IsAnsweredWhereItCan : {D : Type 0} → Option Asked → Around D → Status → Type 0
IsAnsweredWhereItCan None a status = Unit {0}
IsAnsweredWhereItCan (Some asked) a status = IsTaskWhereItCan asked.task a status
