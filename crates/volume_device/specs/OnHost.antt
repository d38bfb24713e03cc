-- What a contract sees of a device of the host: that of the memory or of the file it stands for. A file tells
-- nothing and lends nothing. And what it sees of the host's maker, which keeps no devices. (This project's own.)
use Rattle.std.specs.Prelude.{ℕ, Bool, false, List, length, Option, Some, None}
use Rattle.volume_device.specs.InMemory.{blocks_of, faults_of, lasting_of, lends_of}
use Rattle.volume_device.specs.declared.host_device.HostDevice.{HostDevice}
use Rattle.volume_device.specs.declared.host_maker.HostMaker.{HostMaker}
use Rattle.volume_device.specs.declared.host_device.HostDevice.TheVariants.{Memory, File}

abbrev pub host_told : HostDevice → Option (List (List ℕ))
host_told (Memory device) = Some (blocks_of device)
host_told (File device) = None

abbrev pub host_lasting : HostDevice → Option (List (List ℕ))
host_lasting (Memory device) = lasting_of device
host_lasting (File device) = None

abbrev pub host_size : HostDevice → ℕ
host_size (Memory device) = length (blocks_of device)
host_size (File device) = device.blocks

abbrev pub host_faults : HostDevice → ℕ
host_faults (Memory device) = faults_of device
host_faults (File device) = device.count

abbrev pub host_lends : HostDevice → Bool
host_lends (Memory device) = lends_of device
host_lends (File device) = false

-- the count of faults of the host's maker, with those of the devices that it got back
abbrev pub host_maker_faults : HostMaker → ℕ
host_maker_faults maker = maker.count

-- how many of its devices are out
abbrev pub devices_out : HostMaker → ℕ
devices_out maker = maker.out
