-- Where a device is to be kept, and what is said of one that was not made and of a failed call on a file. (This project's own.)
use Rattle.std.specs.Prelude.{Bool, true, false, ℕ, List, codes}
use Rattle.volume_device.specs.declared.file_call.FileCall.{FileCall}
use Rattle.volume_device.specs.declared.file_call.FileCall.TheVariants.{Create, SetLength, Read, Write, Sync}
use Rattle.volume_device.specs.declared.make_fault.MakeFault.{MakeFault}
use Rattle.volume_device.specs.declared.make_fault.MakeFault.TheVariants.{Failed, OutOfMemory}
use Rattle.volume_device.specs.declared.store.Store.{Store}
use Rattle.volume_device.specs.declared.store.Store.TheVariants.{Memory, Folder}

-- ## Where a device is to be kept. (This project's own.)

abbrev pub is_memory : Store → Bool
is_memory Memory = true
is_memory (Folder path) = false

-- ## What is said of a device that was not made, and of a failed call on a file. (This project's own.)

abbrev pub message_of : MakeFault → List ℕ
message_of Failed = codes "the device could not be made"
message_of OutOfMemory = codes "out of memory"

-- what is said of a failed call on a file
abbrev pub call_of : FileCall → List ℕ
call_of Create = codes "could not be created"
call_of SetLength = codes "could not be given its length"
call_of Read = codes "could not be read"
call_of Write = codes "could not be written"
call_of Sync = codes "could not be synced"
