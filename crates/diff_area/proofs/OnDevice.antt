-- What is read of a device's blocks, and for what the device stands once the table is written.
use Rattle.std.proofs.Common.{ℕ, zero, suc, ◌≡◌, ◌+◌, List, [], ◌∷◌, ◌++◌, take, drop, Option, Some, IfSome, slice_get, sym, ap, ◌∙◌, arith, length, ◌<◌, ◌≤◌}
use Rattle.std.proofs.Common.{◌*◌, Bool, cond, min, None, slice_index_or, refl, map, All, option_map, subst}
use Rattle.std.proofs.lemmas.Grind.{common_steps}
use Rattle.std.proofs.lemmas.List.{append-nil, append_assoc, take_min, length-append, length-drop, take_at}
use Rattle.std.proofs.lemmas.List.FromFn.{length-map-range_with_len}
use Rattle.std.specs.List.{concat, range_with_len}
use Rattle.std.specs.List.Sorted.{IsPermutation}
use Rattle.std.proofs.lemmas.Bool.Decides.{nat_tests}
use Rattle.block_data.specs.declared.block_buf.TheConstants.{BLOCK}
use Rattle.volume_device.specs.InMemory.{AreBlocks}
use Rattle.volume_device.specs.declared.device.Device.{Ghosts}
use Rattle.write_history.specs.Slots.{Copy}
use Rattle.diff_area.specs.AreaValue.{with_first, AreOfRecords, page_bytes, header_bytes, table_blocks}
use Rattle.diff_area.specs.Copies.{copies_from, slot_of, AreStored, AreHeld, StandsFor}
use Rattle.diff_area.specs.Format.{header_of, table_of, records_of, IsArea, part, layout_in, slots_in, volumes_in}
use Rattle.diff_area.specs.Format.{pages_for, blocks_for, place_of_slot, AreVolumes, AreRecords}
use Rattle.diff_area.specs.Loading.{IsReadFrom, AreRefused, AreLoaded, IsReadAlone, AreRead, RoseFor}
use Rattle.diff_area.specs.ReadRows.{IsAccepted, IsTable, IsTableRefused}
use Rattle.diff_area.specs.Refusals.{IsBadHeader, IsRefused}
use Rattle.diff_area.specs.declared.area_fault.AreaFault.{AreaFault}
use Rattle.diff_area.specs.declared.header.Header.{Header}
use Rattle.diff_area.specs.declared.table_record.Record.{Record}
use Rattle.diff_area.specs.declared.tables.Tables.{Tables}
use Rattle.diff_area.proofs.ByPlace.{AreOf, are_of, length-concat, part-blocks, part-block, drop-whole, length-table}
use Rattle.diff_area.proofs.GoodRecords.{length-rows_in}
use Rattle.diff_area.proofs.HeaderBytes.{length-number_bytes, length-numbers, header_valid, says_layout, says_slots, says_used, says_volumes}
use Rattle.diff_area.proofs.TableBytes.{length-padded, length-page, table_bytes, says_records, all_good, used_few}

-- ## Blocks that are read one after another.

get-drop : {X : Type 0} (f k n : ℕ) (xs : List X) (x : X) → slice_get xs n ≡ Some x → n ≡ f + k → slice_get (drop f xs) k ≡ Some x
get-drop zero k n xs x h e = let s : k ≡ n = omega arith in ap (slice_get xs) s ∙ h
get-drop (suc f) k zero xs x h e = absurd (omega arith)
get-drop (suc f) k (suc n) [] x h e = cc
get-drop (suc f) k (suc n) (y ∷ ys) x h e = get-drop f k n ys x h (omega arith)

concat-more : (xs : List (List ℕ)) (k : ℕ) (x : List ℕ) → slice_get xs k ≡ Some x → concat (take (suc k) xs) ≡ concat (take k xs) ++ x
concat-more [] k x h = cc
concat-more (y ∷ ys) zero x h = let e : y ≡ x = cc in append-nil y ∙ e
concat-more (y ∷ ys) (suc k) x h = ap (λ z. y ++ z) (concat-more ys k x h) ∙ sym (append_assoc y (concat (take k ys)) x)

pub read-more : (told now : Option (List (List ℕ))) (first k n m : ℕ) (bytes new block page : List ℕ) → AreRead told first k bytes → now ≡ told → IfSome now (λ bs. slice_get bs n ≡ Some page) → new ≡ bytes ++ block → block ≡ page → n ≡ first + k → m ≡ suc k → AreRead told first m new
read-more told now first k n m bytes new block page r e g f b p q = grind (arith, concat-more, get-drop)

pub read-on : {D : Type 0} (ghosts : Ghosts D) (a b c : D) → IsReadAlone ghosts a b → IsReadAlone ghosts b c → IsReadAlone ghosts a c
read-on ghosts a b c h k = grind arith

-- ## What is read of a header and a table is what is said of the area's bytes.

pub is_area : (bytes header table : List ℕ) (size : ℕ) (h : Header) (rows : List Record) → size ≡ length bytes → header ≡ header_of bytes → table ≡ table_of bytes → IsAccepted size header h → IsTable h table rows → IsArea bytes
is_area bytes header table size h rows s e f a t = grind arith

-- with these records
pub are_records_of : (bytes header table : List ℕ) (size : ℕ) (h : Header) (rows : List Record) → header ≡ header_of bytes → table ≡ table_of bytes → IsAccepted size header h → IsTable h table rows → rows ≡ records_of bytes
are_records_of bytes header table size h rows e f a t = grind arith

-- a header that is refused
pub header_refused : (bytes header : List ℕ) (size : ℕ) (fault : AreaFault) → size ≡ length bytes → header ≡ header_of bytes → IsBadHeader size header fault → IsRefused bytes fault
header_refused bytes header size fault s e b = grind arith

-- a table that is refused
pub table_refused : (bytes header table : List ℕ) (size : ℕ) (h : Header) (fault : AreaFault) → size ≡ length bytes → header ≡ header_of bytes → table ≡ table_of bytes → IsAccepted size header h → IsTableRefused h table fault → IsRefused bytes fault
table_refused bytes header table size h fault s e f a b = grind arith

-- ## What is read of a device's blocks, where it tells them.

whole : (n : ℕ) (bs : List (List ℕ)) → AreBlocks n bs → AreOf BLOCK bs
whole n bs h = are_of BLOCK bs h.whole

size_of : (n size : ℕ) (bs : List (List ℕ)) → AreBlocks n bs → size ≡ BLOCK * n → size ≡ length (concat bs)
size_of n size bs h e = e ∙ ap (λ k. BLOCK * k) (sym h.number) ∙ sym (length-concat BLOCK bs (whole n bs h))

header_is : (n m : ℕ) (bs : List (List ℕ)) (first : List ℕ) → AreBlocks n bs → first ≡ concat (take m (drop 0 bs)) → m ≡ min 1 n → first ≡ header_of (concat bs)
header_is n m bs first h e f = grind (arith, common_steps, take_min 1 bs, part-blocks BLOCK 0 1 0 BLOCK bs (whole n bs h) refl refl, whole n bs h)

table_is : (n : ℕ) (bs : List (List ℕ)) (table : List ℕ) (pages : ℕ) → AreBlocks n bs → table ≡ concat (take pages (drop 1 bs)) → pages ≡ pages_for (slots_in (header_of (concat bs))) → table ≡ table_of (concat bs)
table_is n bs table pages h e f = grind (arith, common_steps, part-blocks BLOCK 1 pages BLOCK (BLOCK * pages) bs (whole n bs h) refl refl, whole n bs h)

-- ## refusals

header_rose : (size before now : ℕ) (first : List ℕ) (fault : AreaFault) → IsBadHeader size first fault → now ≡ before → RoseFor before now fault
header_rose size before now first fault b same = grind arith

table_rose : (before now : ℕ) (h : Header) (table : List ℕ) (fault : AreaFault) → IsTableRefused h table fault → now ≡ before → RoseFor before now fault
table_rose before now h table fault b same = grind arith

header_told : (told : Option (List (List ℕ))) (n m size : ℕ) (first : List ℕ) (fault : AreaFault) → IfSome told (AreBlocks n) → AreRead told 0 m first → m ≡ min 1 n → size ≡ BLOCK * n → IsBadHeader size first fault → IfSome told (λ bs. IsRefused (concat bs) fault)
header_told None n m size first fault w r e s b = tt
header_told (Some bs) n m size first fault w r e s b =
    header_refused (concat bs) first size fault (size_of n size bs w s) (header_is n m bs first w r e) b

-- the header is refused
pub refused_header : (told : Option (List (List ℕ))) (n m size before now : ℕ) (first : List ℕ) (fault : AreaFault) → IfSome told (AreBlocks n) → AreRead told 0 m first → m ≡ min 1 n → size ≡ BLOCK * n → IsBadHeader size first fault → now ≡ before → AreRefused told before now fault
refused_header told n m size before now first fault w r e s b same = grind (arith, header_rose, header_told)

pages_are : (bs : List (List ℕ)) (first : List ℕ) (size pages : ℕ) (h : Header) → IsAccepted size first h → first ≡ header_of (concat bs) → pages ≡ pages_for h.slots → pages ≡ pages_for (slots_in (header_of (concat bs)))
pages_are bs first size pages h a e f = f ∙ ap pages_for (a.fields.slots ∙ ap slots_in e)

table_told : (told : Option (List (List ℕ))) (n m size pages : ℕ) (first table : List ℕ) (h : Header) (fault : AreaFault) → IfSome told (AreBlocks n) → AreRead told 0 m first → m ≡ min 1 n → size ≡ BLOCK * n → IsAccepted size first h → AreRead told 1 pages table → pages ≡ pages_for h.slots → IsTableRefused h table fault → IfSome told (λ bs. IsRefused (concat bs) fault)
table_told None n m size pages first table h fault w r e s a t p b = tt
table_told (Some bs) n m size pages first table h fault w r e s a t p b =
    let head = header_is n m bs first w r e in
    table_refused (concat bs) first table size h fault (size_of n size bs w s) head (table_is n bs table pages w t (pages_are bs first size pages h a head p)) a b

-- the table is refused
pub refused_table : (told : Option (List (List ℕ))) (n m size pages before now : ℕ) (first table : List ℕ) (h : Header) (fault : AreaFault) → IfSome told (AreBlocks n) → AreRead told 0 m first → m ≡ min 1 n → size ≡ BLOCK * n → IsAccepted size first h → AreRead told 1 pages table → pages ≡ pages_for h.slots → IsTableRefused h table fault → now ≡ before → AreRefused told before now fault
refused_table told n m size pages before now first table h fault w r e s a t p b same = grind (arith, table_rose, table_told)

-- ## what is accepted

pub accepted : (told : Option (List (List ℕ))) (n m size pages : ℕ) (first table : List ℕ) (h : Header) (rows : List Record) → IfSome told (AreBlocks n) → AreRead told 0 m first → m ≡ min 1 n → size ≡ BLOCK * n → IsAccepted size first h → AreRead told 1 pages table → pages ≡ pages_for h.slots → IsTable h table rows → IfSome told (λ bs. IsReadFrom (concat bs) h.volumes.items rows)
accepted None n m size pages first table h rows w r e s a t p b = tt
accepted (Some bs) n m size pages first table h rows w r e s a t p b =
    let head = header_is n m bs first w r e in
    let body = table_is n bs table pages w t (pages_are bs first size pages h a head p) in
    let fact = is_area (concat bs) first table size h rows (size_of n size bs w s) head body a b in
    let fact1 = are_records_of (concat bs) first table size h rows head body a b in
    grind (arith, common_steps, pages_are bs first size pages h a head p, size_of n size bs w s)

-- what is kept of it
pub loaded : (told : Option (List (List ℕ))) (n : ℕ) (h : Header) (rows : List Record) (t : Tables) → AreOfRecords h.volumes.items rows t → n ≡ blocks_for (length t.records.items) → AreVolumes h.volumes.items → AreRecords h.volumes.items rows → IfSome told (λ bs. IsReadFrom (concat bs) h.volumes.items rows) → IfSome told (AreBlocks n) → AreLoaded told n t
loaded told n h rows t m s v r all w = grind arith

-- ## copies

either : {X : Type 0} (b : Bool) (x y u v : X) → x ≡ y → u ≡ v → cond b x u ≡ cond b y v
either b x y u v e f = grind arith

-- the same slots hold the same copies
pub same_copies : (slot : ℕ) (rows : List Record) (f g : ℕ → List ℕ) → ((i : ℕ) → slot ≤ i → i < slot + length rows → f i ≡ g i) → copies_from slot rows f ≡ copies_from slot rows g
same_copies slot [] f g h = refl
same_copies slot (r ∷ rs) f g h = grind (arith, common_steps, either, same_copies (slot + 1) rs f g (λ i a b. h i (omega arith) (omega arith)))

length-records_of : (bytes : List ℕ) → length (records_of bytes) ≡ slots_in (header_of bytes)
length-records_of bytes = length-rows_in (layout_in (header_of bytes)) (table_of bytes) (slots_in (header_of bytes))

pub held_is : (n : ℕ) (bs : List (List ℕ)) (records : List Record) → AreBlocks n bs → records ≡ records_of (concat bs) → copies_from 0 (records_of (concat bs)) (slot_of (concat bs)) ≡ copies_from 0 records (λ slot. slice_index_or bs (place_of_slot (length records) slot) [])
held_is n bs records w e = grind (arith, length-records_of, same_copies, part-block, whole)

pub copies_loaded : (told now : Option (List (List ℕ))) (n : ℕ) (volumes : List ℕ) (records : List Record) (copies : List Copy) → now ≡ told → IfSome told (AreBlocks n) → IfSome told (λ bs. IsReadFrom (concat bs) volumes records) → AreStored told copies → AreHeld now records copies
copies_loaded told now n volumes records copies e w r s = grind (arith, held_is)

-- ## Once the table is written, the device stands for the records and the slots.

-- ## the blocks are whole

pages_whole : (records : List Record) (a n : ℕ) → AreOf BLOCK (map (page_bytes records) (range_with_len a n))
pages_whole records a zero = tt
pages_whole records a (suc n) = (length-page records a, pages_whole records (a + 1) n)

length-front : (a b c d e f : List ℕ) → length (a ++ b ++ c ++ d ++ e ++ f) ≡ length a + length b + length c + length d + length e + length f
length-front a b c d e f = simp length-append

length-header : (volumes : List ℕ) (records : List Record) → length volumes ≤ 128 → length (header_bytes volumes records) ≡ BLOCK
unfolding header_bytes
length-header volumes records few = grind (arith, common_steps, length-number_bytes, length-numbers, length-front, length-padded)

table_whole : (volumes : List ℕ) (records : List Record) → length volumes ≤ 128 → AreOf BLOCK (table_blocks volumes records)
unfolding table_blocks
table_whole volumes records few = (length-header volumes records few, pages_whole records 0 (pages_for (length records)))

append_whole : (n : ℕ) (xs ys : List (List ℕ)) → AreOf n xs → AreOf n ys → AreOf n (xs ++ ys)
append_whole n [] ys h k = k
append_whole n (x ∷ xs) ys h k = (h.0, append_whole n xs ys h.1 k)

to_all : (n : ℕ) (xs : List (List ℕ)) → AreOf n xs → All (λ x. length x ≡ n) xs
to_all n [] h k d b = absurd (omega arith)
to_all n (x ∷ xs) h zero d b = h.0
to_all n (x ∷ xs) h (suc k) d b = to_all n xs h.1 k d (omega arith)

none : (n : ℕ) → drop {A = List ℕ} n [] ≡ []
none n = grind arith

empty : (i : ℕ) (d : List ℕ) → slice_index_or [] i d ≡ slice_index_or [] (suc i) d
empty i d = grind arith

past_first : (t bs : List (List ℕ)) (i : ℕ) (d : List ℕ) → length t ≤ i → slice_index_or (with_first t bs) i d ≡ slice_index_or bs i d
past_first t bs i d h = grind (arith, common_steps, none, empty)

new_blocks : (n : ℕ) (bs : List (List ℕ)) (volumes : List ℕ) (records : List Record) → AreBlocks n bs → n ≡ blocks_for (length records) → length volumes ≤ 128 → AreBlocks n (with_first (table_blocks volumes records) bs)
new_blocks n bs volumes records w e few =
    let t = table_blocks volumes records in
    let lt = length-table volumes records in
    let la = length-append t (drop (length t) bs) in
    let ld = length-drop (length t) bs in
    record {
      number = omega arith;
      whole = to_all BLOCK (with_first t bs) (append_whole BLOCK t (drop (length t) bs) (table_whole volumes records few) (drop-whole BLOCK (length t) bs (are_of BLOCK bs w.whole)));
    }

-- ## what the bytes say

header_stands : (bs : List (List ℕ)) (volumes : List ℕ) (records : List Record) → slice_index_or (with_first (table_blocks volumes records) bs) 0 [] ≡ header_bytes volumes records
unfolding table_blocks
header_stands bs volumes records = refl

pages_stand : (bs : List (List ℕ)) (volumes : List ℕ) (records : List Record) → take (pages_for (length records)) (drop 1 (with_first (table_blocks volumes records) bs)) ≡ map (page_bytes records) (range_with_len 0 (pages_for (length records)))
unfolding table_blocks
pages_stand bs volumes records = grind (arith, take_at, length-map-range_with_len)

header_is_stored : (n : ℕ) (bs : List (List ℕ)) (volumes : List ℕ) (records : List Record) → AreOf BLOCK (with_first (table_blocks volumes records) bs) → header_of (concat (with_first (table_blocks volumes records) bs)) ≡ header_bytes volumes records
header_is_stored n bs volumes records w = part-block BLOCK 0 0 (with_first (table_blocks volumes records) bs) w refl ∙ header_stands bs volumes records

table_is_stored : (bs : List (List ℕ)) (volumes : List ℕ) (records : List Record) → AreOf BLOCK (with_first (table_blocks volumes records) bs) → part BLOCK (BLOCK * pages_for (length records)) (concat (with_first (table_blocks volumes records) bs)) ≡ table_bytes records
table_is_stored bs volumes records w =
    part-blocks BLOCK 1 (pages_for (length records)) BLOCK (BLOCK * pages_for (length records)) (with_first (table_blocks volumes records) bs) w refl refl
    ∙ ap concat (pages_stand bs volumes records)

-- of bytes with this header and this table
pub area_of_parts : (bytes : List ℕ) (volumes : List ℕ) (records : List Record) → AreVolumes volumes → AreRecords volumes records → length bytes ≡ BLOCK * blocks_for (length records) → header_of bytes ≡ header_bytes volumes records → table_of bytes ≡ table_bytes records → IsArea bytes × (records_of bytes ≡ records)
area_of_parts bytes volumes records v r size h t =
    let fact = header_valid (length bytes) volumes records v r.few size in
    let fact1 = says_slots volumes records r.few in
    let fact2 = says_volumes volumes records v in
    grind (arith, common_steps, nat_tests, says_used, used_few, says_layout volumes records, says_records volumes records r, all_good volumes records)

-- what is read of blocks once the table was written
pub read_back : (n : ℕ) (bs : List (List ℕ)) (volumes : List ℕ) (records : List Record) → AreBlocks n bs → n ≡ blocks_for (length records) → AreVolumes volumes → AreRecords volumes records
    → IsReadFrom (concat (with_first (table_blocks volumes records) bs)) volumes records
read_back n bs volumes records w e v r =
    let new = with_first (table_blocks volumes records) bs in
    let bytes = concat new in
    let whole = new_blocks n bs volumes records w e v.few in
    let of = are_of BLOCK new whole.whole in
    let size : length bytes ≡ BLOCK * blocks_for (length records) = length-concat BLOCK new of ∙ ap (λ k. BLOCK * k) (whole.number ∙ e) in
    let h = header_is_stored n bs volumes records of in
    let slots = ap slots_in h ∙ says_slots volumes records r.few in
    let t = ap (λ k. part BLOCK (BLOCK * pages_for k) bytes) slots ∙ table_is_stored bs volumes records of in
    let all = area_of_parts bytes volumes records v r size h t in
    record { area = all.0; volumes_are = sym (ap volumes_in h ∙ says_volumes volumes records v); records_are = sym all.1 }

stands : (n : ℕ) (bs : List (List ℕ)) (volumes : List ℕ) (records : List Record) (copies : List Copy) → AreBlocks n bs → n ≡ blocks_for (length records) → AreVolumes volumes → AreRecords volumes records
    → IsPermutation (copies_from 0 records (λ slot. slice_index_or bs (place_of_slot (length records) slot) [])) copies → StandsFor (concat (with_first (table_blocks volumes records) bs)) copies
stands n bs volumes records copies w e v r held =
    let new = with_first (table_blocks volumes records) bs in
    let read = read_back n bs volumes records w e v r in
    let lt = length-table volumes records in
    let same = same_copies 0 records (λ slot. slice_index_or bs (place_of_slot (length records) slot) []) (λ slot. slice_index_or new (place_of_slot (length records) slot) [])
    (λ i a b. sym (past_first (table_blocks volumes records) bs (place_of_slot (length records) i) [] (omega arith))) in
    let P : List Copy → Type 0 = λ xs. IsPermutation xs copies in
    record {
      area = read.area;
      held = subst P (sym (held_is n new records (new_blocks n bs volumes records w e v.few) read.records_are)) (subst P same held);
    }

-- what a device tells after the table was written
pub stands_told : (told now : Option (List (List ℕ))) (n : ℕ) (volumes : List ℕ) (records : List Record) (copies : List Copy) → now ≡ option_map (with_first (table_blocks volumes records)) told → IfSome told (AreBlocks n) → n ≡ blocks_for (length records) → AreVolumes volumes → AreRecords volumes records → AreHeld told records copies → AreStored now copies
stands_told told now n volumes records copies e w s v r h = grind (arith, stands)

-- and what is read of it
pub read_told : (told now : Option (List (List ℕ))) (n : ℕ) (volumes : List ℕ) (records : List Record) → now ≡ option_map (with_first (table_blocks volumes records)) told → IfSome told (AreBlocks n)
    → n ≡ blocks_for (length records) → AreVolumes volumes → AreRecords volumes records → IfSome now (λ bs. IsReadFrom (concat bs) volumes records)
read_told told now n volumes records e w s v r = grind (arith, read_back)
