-- What a trial knows of the devices in memory that it makes. (This project's own.)
use Rattle.std.specs.Prelude.{ℕ, ◌≡◌, Some, length, replicate}
use Rattle.block_data.specs.BlockBytes.{zeros}
use Rattle.volume_device.specs.InMemory.{blocks_of}
use Rattle.volume_device.specs.declared.mem_device.MemDevice.{MemDevice}
use Rattle.write_history.specs.History.{fresh}
use Rattle.cow_volume.specs.StandsFor.{GroupValue}
use Rattle.cow_volume.specs.OneVolume.{StandsForOne}

-- how many blocks a device has
abbrev pub size_of : MemDevice → ℕ
size_of device = length (blocks_of device)

-- its blocks are zeros
abbrev pub IsZeroed : MemDevice → Type 0
IsZeroed device = blocks_of device ≡ replicate (size_of device) zeros

-- a volume of zeros without images
abbrev pub IsFresh : GroupValue MemDevice → Type 0
IsFresh volume = StandsForOne (λ d. Some (blocks_of d)) volume fresh
