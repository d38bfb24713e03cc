-- What is said of a call on a store that failed. (This project's own.)
use Rattle.std.specs.Prelude.{ℕ, ◌++◌, List, codes}
use Rattle.std.specs.Fmt.{decimal}
use Rattle.diff_area.specs.Refusals.{message_of as area_message}
use Rattle.vss_catalog.specs.Reading.{message_of as catalog_message}
use Rattle.image_store.specs.declared.cut_fault.CutFault.{CutFault}
use Rattle.image_store.specs.declared.cut_fault.CutFault.TheVariants as cut
use Rattle.image_store.specs.declared.new_fault.NewFault.{NewFault}
use Rattle.image_store.specs.declared.new_fault.NewFault.TheVariants as new
use Rattle.image_store.specs.declared.open_fault.OpenFault.{OpenFault}
use Rattle.image_store.specs.declared.open_fault.OpenFault.TheVariants as open_for
use Rattle.image_store.specs.declared.pass_fault.PassFault.{PassFault}
use Rattle.image_store.specs.declared.pass_fault.PassFault.TheVariants as pass
use Rattle.image_store.specs.declared.show_fault.ShowFault.{ShowFault}
use Rattle.image_store.specs.declared.show_fault.ShowFault.TheVariants as show

abbrev pub new_message : NewFault → List ℕ
new_message new.Names = codes "the names are none for the volumes"
new_message new.OutOfMemory = codes "out of memory"

abbrev pub open_message : OpenFault → List ℕ
open_message (open_for.Length found) = codes "length: " ++ (decimal found ++ codes " bytes")
open_message open_for.Letters = codes "letters: others"
open_message (open_for.Catalog fault) = codes "catalog: " ++ catalog_message fault
open_message (open_for.Devices found) = codes "devices: " ++ decimal found
open_message (open_for.DoubleName volume) = codes "catalog: volume " ++ (decimal volume ++ codes " has the name of an earlier one")
open_message (open_for.Set volume set) = codes "catalog: volume " ++ (decimal volume ++ (codes " has an image of set " ++ (decimal set ++ codes ", which was not given")))
open_message (open_for.Area fault) = area_message fault
open_message (open_for.Volumes found) = codes "header: " ++ (decimal found ++ codes " volumes")
open_message (open_for.Blocks volume found) = codes "volume " ++ (decimal volume ++ (codes ": " ++ (decimal found ++ codes " blocks")))
open_message (open_for.Image slot set) = codes "slot " ++ (decimal slot ++ (codes ": set " ++ (decimal set ++ codes " has no image")))
open_message open_for.OutOfMemory = codes "out of memory"

abbrev pub cut_message : CutFault → List ℕ
cut_message cut.NoNextSet = codes "there is no next set"
cut_message (cut.TooManyImages volume) = codes "volume " ++ (decimal volume ++ codes " has too many images")

abbrev pub pass_message : PassFault → List ℕ
pass_message pass.Input = codes "the input's device failed"
pass_message pass.Volume = codes "the volume's device failed"
pass_message pass.Area = codes "the diff area's device failed"

abbrev pub show_message : ShowFault → List ℕ
show_message show.NoSuchImage = codes "no such image"
show_message (show.BadLength found) = codes "length: " ++ (decimal found ++ codes " bytes")
show_message show.Volume = codes "the volume's device failed"
show_message show.Area = codes "the diff area's device failed"
show_message show.Sink = codes "the sink failed"
