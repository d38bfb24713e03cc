-- The head of a store's state: the letters, the last set that was given, how long the catalog is, and the catalog, as vss_catalog has it.
-- All numbers have four bytes, the lowest first. (This project's own format.)
use Rattle.std.specs.Prelude.{ℕ, List, ◌++◌, length, codes, ◌≡◌, true, map, Option, Some, slice_get, is_some}
use Rattle.write_history.specs.History.{History, contents, sets_of}
use Rattle.write_history.specs.Slots.{copies}
use Rattle.diff_area.specs.Copies.{AreStored}
use Rattle.cow_volume.specs.StandsFor.{placed, AreImages}
use Rattle.vss_catalog.specs.Entries.{EntryValue, entries_of}
use Rattle.vss_catalog.specs.Written.{bytes_of, number_bytes}
use Rattle.image_store.specs.Plain.{PlainStore, AllGiven, plains_of}
use Rattle.image_store.specs.StoreValue.{StoreValue}

-- what a contract sees of a head: the last set, and the entries of the catalog
pub record HeadValue : Type 0 where
  pub last : ℕ
  pub entries : List EntryValue

-- the bytes of the head of these entries
unfoldable pub head_bytes : ℕ → List EntryValue → List ℕ
head_bytes last entries = codes "VSSIMG01" ++ number_bytes last ++ number_bytes (length (bytes_of entries)) ++ bytes_of entries

-- the bytes of a head
abbrev pub bytes_of_head : HeadValue → List ℕ
bytes_of_head head = head_bytes head.last head.entries

-- the head of a store
abbrev pub said_of : {D : Type 0} → StoreValue D → HeadValue
said_of s = record { last = s.last; entries = entries_of s.group s.names }

-- and its bytes
abbrev pub head_of : {D : Type 0} → StoreValue D → List ℕ
head_of s = head_bytes s.last (entries_of s.group s.names)

-- ## What is kept of a store that was closed: its devices, its area's device, and the head of its state; and for which whole copies they
-- stand. `held` is what is read of a device later: what it tells, or what lasts of it. (This project's own.)

-- how many blocks each volume has
abbrev pub blocks_of : List EntryValue → List ℕ
blocks_of entries = map (λ (e : EntryValue). e.blocks) entries

-- a volume, by its entry in the catalog
pub record IsVolumeKept (held : Option (List (List ℕ))) (e : EntryValue) (h : History) : Type 0 where
  pub blocks : held ≡ Some (contents e.blocks h.writes (length h.writes))
  pub sets : e.images ≡ sets_of h.images
  pub images : AreImages (length h.writes) h.images

-- the devices, the area's device and the head
pub record IsKeptAs {D : Type 0} (held : D → Option (List (List ℕ))) (devices : List D) (area : D) (head : HeadValue) (p : PlainStore) : Type 0 where
  pub hs : List History
  pub last : p.last ≡ head.last
  pub devices_are : length devices ≡ length head.entries
  pub histories : length hs ≡ length head.entries
  pub each : (v : ℕ) (d : D) (e : EntryValue) (h : History) → slice_get devices v ≡ Some d → slice_get head.entries v ≡ Some e → slice_get hs v ≡ Some h → IsVolumeKept (held d) e h
  pub tells : is_some (held area) ≡ true
  pub stored : AreStored (held area) (copies (placed (blocks_of head.entries)) hs)
  pub given : AllGiven p.last p.volumes
  pub volumes : p.volumes ≡ plains_of (blocks_of head.entries) hs
