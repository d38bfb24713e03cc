use Rattle.std.proofs.Common.{◌≡◌, map, take}
use Rattle.image_folder.proofs.new_store.new_devices.Given as goal

abbrev pub invariant-loop-job : goal.invariant-loop-job
invariant-loop-job l = map (λ device. device.blocks) l.devices.items ≡ map (λ job. job.input.blocks) (take l.job-index l.jobs)
