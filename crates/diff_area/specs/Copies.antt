-- The copies that an area holds. Each record that is not free is that of one copy, and its slot has the copy's bytes;
-- an area's bytes stand for a list of copies where they are of the format and the copies of its records are those of
-- the list, in some order. So each copy has exactly one record. (This project's own.)
use Rattle.std.specs.Prelude.{ℕ, ◌+◌, ◌*◌, List, [], ◌∷◌, length, if◌then◌else◌, Option, IfSome, slice_index_or}
use Rattle.std.specs.List.{concat}
use Rattle.std.specs.List.Sorted.{IsPermutation}
use Rattle.write_history.specs.Slots.{Copy}
use Rattle.block_data.specs.declared.block_buf.TheConstants.{BLOCK}
use Rattle.diff_area.specs.Format.{part, slots_in, header_of, records_of, IsArea, place_of_slot, is_free}
use Rattle.diff_area.specs.declared.table_record.Record.{Record}

-- the copies of these records, the first of which is that of this slot, with the bytes of each slot
abbrev pub copies_from : ℕ → List Record → (ℕ → List ℕ) → List Copy
copies_from slot [] bytes = []
copies_from slot (r ∷ rs) bytes =
    if is_free r then copies_from (slot + 1) rs bytes
    else record { volume = r.volume; set = r.set; block = r.block; bytes = bytes slot } ∷ copies_from (slot + 1) rs bytes

-- the bytes of a slot
abbrev pub slot_of : List ℕ → ℕ → List ℕ
slot_of bytes slot = part (BLOCK * place_of_slot (slots_in (header_of bytes)) slot) BLOCK bytes

-- the bytes of an area stand for these copies
pub record StandsFor (bytes : List ℕ) (copies : List Copy) : Type 0 where
  pub area : IsArea bytes
  pub held : IsPermutation (copies_from 0 (records_of bytes) (slot_of bytes)) copies

-- the blocks of a device, where it tells them, do
abbrev pub AreStored : Option (List (List ℕ)) → List Copy → Type 0
AreStored told copies = IfSome told (λ blocks. StandsFor (concat blocks) copies)

-- the slots of a device, where it tells its blocks, have these copies by the records that are in memory
abbrev pub AreHeld : Option (List (List ℕ)) → List Record → List Copy → Type 0
AreHeld told records copies =
    IfSome told (λ blocks. IsPermutation (copies_from 0 records (λ slot. slice_index_or blocks (place_of_slot (length records) slot) [])) copies)
