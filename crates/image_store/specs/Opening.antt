-- Why bytes are no head, and why devices, an area's device and a head are no store: what is first wrong, in the order in which they are
-- read. (This project's own.)
use Rattle.std.specs.Prelude.{ℕ, ◌≡◌, ◌≢◌, ◌<◌, ◌≤◌, ◌+◌, true, List, length, map, take, drop, codes, All, Option, Some, Err, slice_get, ◌⊎◌}
use Rattle.byteorder.specs.Endian.{little_number}
use Rattle.cow_volume.specs.Calls.{is_among}
use Rattle.cow_volume.specs.Resuming.{AllHaveImages, IsFirstWithoutImage}
use Rattle.cow_volume.specs.declared.resume_fault.ResumeFault.{ResumeFault}
use Rattle.cow_volume.specs.declared.resume_fault.ResumeFault.TheVariants.{NoImage, OutOfMemory as no_memory_of_group}
use Rattle.diff_area.specs.AreaValue.{AreaValue}
use Rattle.diff_area.specs.Loading.{AreRefused, IsLoaded, IsReadAlone}
use Rattle.diff_area.specs.declared.area_fault.AreaFault.{AreaFault}
use Rattle.diff_area.specs.declared.area_fault.AreaFault.TheVariants.{OutOfMemory as no_memory_of_area}
use Rattle.vss_catalog.specs.Entries.{EntryValue, lists_of}
use Rattle.vss_catalog.specs.Reading.{catalog_in}
use Rattle.vss_catalog.specs.declared.catalog_fault.CatalogFault.{CatalogFault}
use Rattle.vss_catalog.specs.declared.catalog_fault.CatalogFault.TheVariants.{OutOfMemory as no_memory_of_catalog}
use Rattle.image_store.specs.Head.{HeadValue, blocks_of}
use Rattle.image_store.specs.StoreValue.{StoreValue}
use Rattle.vss_names.specs.Names.{TextValue}
use Rattle.image_store.specs.declared.open_fault.OpenFault.{OpenFault}
use Rattle.image_store.specs.declared.open_fault.OpenFault.TheVariants.{Length, Letters, Catalog, Devices, DoubleName, Set, Area, Volumes, Blocks, Image, OutOfMemory}
use Rattle.volume_device.specs.declared.device.Device.{Ghosts}

-- ## a head

-- how many bytes the head has with which bytes begin, by its own numbers
abbrev pub said_length : List ℕ → ℕ
said_length bytes = 16 + little_number 4 (drop 12 bytes)

-- why bytes are no head
abbrev pub IsHeadFault : List ℕ → OpenFault → Type 0
IsHeadFault bytes (Length found) = (found ≡ length bytes) × (length bytes ≢ said_length bytes)
IsHeadFault bytes Letters = (length bytes ≡ said_length bytes) × (take 8 bytes ≢ codes "VSSIMG01")
IsHeadFault bytes (Catalog fault) = (length bytes ≡ said_length bytes) × (take 8 bytes ≡ codes "VSSIMG01") × (catalog_in (drop 16 bytes) ≡ Err fault)
IsHeadFault bytes OutOfMemory = Unit {0}
IsHeadFault bytes _ = ⊥

-- the faults of the crates below, as faults of an opening
abbrev pub of_catalog : CatalogFault → OpenFault
of_catalog no_memory_of_catalog = OutOfMemory
of_catalog fault = Catalog fault

abbrev pub of_area : AreaFault → OpenFault
of_area no_memory_of_area = OutOfMemory
of_area fault = Area fault

abbrev pub of_resume : ResumeFault → OpenFault
of_resume (NoImage slot set) = Image slot set
of_resume no_memory_of_group = OutOfMemory

-- ## the entries of a head

abbrev pub names_of : List EntryValue → List (List ℕ)
names_of es = map (λ (e : EntryValue). e.name) es

-- no earlier volume has the name of volume v
abbrev pub IsNameNew : List EntryValue → ℕ → Type 0
IsNameNew es v = (u : ℕ) → u < v → slice_get (names_of es) u ≢ slice_get (names_of es) v

-- the first n volumes have names that are apart, and images of sets that were given
pub record AreWell (last : ℕ) (es : List EntryValue) (n : ℕ) : Type 0 where
  pub apart : (v : ℕ) → v < n → IsNameNew es v
  pub given : (v : ℕ) (e : EntryValue) → v < n → slice_get es v ≡ Some e → All (λ set. set ≤ last) e.images

-- the first volume that has not
abbrev pub IsEntryFault : ℕ → List EntryValue → OpenFault → Type 0
IsEntryFault last es (DoubleName v) = AreWell last es v × (v < length es) × ((u : ℕ) × (u < v) × (slice_get (names_of es) u ≡ slice_get (names_of es) v))
IsEntryFault last es (Set v set) = AreWell last es v × IsNameNew es v × (last < set) × ((e : EntryValue) × (slice_get es v ≡ Some e) × (is_among set e.images ≡ true))
IsEntryFault last es _ = ⊥

-- ## the blocks of the volumes, and their images

-- the first n of these numbers are those
abbrev pub AreSame : List ℕ → List ℕ → ℕ → Type 0
AreSame xs ys n = (k : ℕ) → k < n → slice_get xs k ≡ slice_get ys k

-- volume v is the first of which the area, or else the device, has another number of blocks than its entry, and has so many
pub record IsOtherSize (area devices entries : List ℕ) (v found : ℕ) : Type 0 where
  pub as_many : length area ≡ length entries
  pub areas : AreSame area entries v
  pub sizes : AreSame devices entries v
  pub other : slice_get entries v ≢ Some found
  pub is : (slice_get area v ≡ Some found) ⊎ ((slice_get area v ≡ slice_get entries v) × (slice_get devices v ≡ Some found))

-- the area and the devices have the blocks of the entries, and each copy in the area has its image
pub record AreParts {D : Type 0} (size : D → ℕ) (devices : List D) (area : AreaValue D) (es : List EntryValue) : Type 0 where
  pub volumes : area.volumes ≡ blocks_of es
  pub sizes : map size devices ≡ blocks_of es
  pub images : AllHaveImages area.records (lists_of es)

-- why not
abbrev pub IsPartsFault : {D : Type 0} → (D → ℕ) → List D → AreaValue D → List EntryValue → OpenFault → Type 0
IsPartsFault size devices area es (Volumes found) = (found ≡ length area.volumes) × (found ≢ length es)
IsPartsFault size devices area es (Blocks v found) = IsOtherSize area.volumes (map size devices) (blocks_of es) v found
IsPartsFault size devices area es (Image slot set) = (area.volumes ≡ blocks_of es) × (map size devices ≡ blocks_of es) × IsFirstWithoutImage area.records (lists_of es) slot set
IsPartsFault size devices area es OutOfMemory = Unit {0}
IsPartsFault size devices area es _ = ⊥

-- ## an opening

-- there is a device for each entry, and the entries are well
abbrev pub IsHeadFor : {D : Type 0} → List D → HeadValue → Type 0
IsHeadFor devices head = (length devices ≡ length head.entries) × AreWell head.last head.entries (length head.entries)

-- why not
abbrev pub IsNoHeadFor : {D : Type 0} → List D → HeadValue → OpenFault → Type 0
IsNoHeadFor devices head (Devices found) = (found ≡ length devices) × (found ≢ length head.entries)
IsNoHeadFor devices head fault = (length devices ≡ length head.entries) × IsEntryFault head.last head.entries fault

-- the area's device has no area, and is given back
pub record IsNoArea {D : Type 0} (ghosts : Ghosts D) (device : D) (back : Option D) (fault : OpenFault) : Type 0 where
  pub given_back : D
  pub is : back ≡ Some given_back
  pub alone : IsReadAlone ghosts device given_back
  pub why : AreaFault
  pub fault_is : fault ≡ of_area why
  pub refused : AreRefused (ghosts.told device) (ghosts.count device) (ghosts.count given_back) why

-- it has one, which does not go with the devices and the entries
pub record IsOtherArea {D : Type 0} (ghosts : Ghosts D) (devices : List D) (device : D) (es : List EntryValue)
    (fault : OpenFault) : Type 0 where
  pub area : AreaValue D
  pub loaded : IsLoaded ghosts device area
  pub parts : IsPartsFault ghosts.size devices area es fault

-- why there is no store of these devices, this area's device and this head
abbrev pub IsOpenFault : {D : Type 0} → Ghosts D → List D → D → HeadValue → Option D → OpenFault → Type 0
IsOpenFault ghosts devices device head back fault =
    IsNoHeadFor devices head fault ⊎ (IsHeadFor devices head × (IsNoArea ghosts device back fault ⊎ IsOtherArea ghosts devices device head.entries fault))

-- the store of them
pub record IsOpened {D : Type 0} (ghosts : Ghosts D) (devices : List D) (device : D) (head : HeadValue)
    (s : StoreValue D) : Type 0 where
  pub head_for : IsHeadFor devices head
  pub loaded : IsLoaded ghosts device s.group.area
  pub parts : AreParts ghosts.size devices s.group.area head.entries
  pub devices_are : s.group.devices ≡ devices
  pub images_are : s.group.images ≡ lists_of head.entries
  pub names_are : map (λ (name : TextValue). name.bytes) s.names ≡ names_of head.entries
  pub last_is : s.last ≡ head.last
