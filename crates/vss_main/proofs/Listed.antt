-- An inspection: what is known of an area's bytes, lines that come one after another, and why there is no listing.
use Rattle.std.proofs.Common.{◌≡◌, ℕ, ◌*◌, ◌≤◌, List, length, arith, true, refl, zero, suc, ◌+◌, [], ◌∷◌, ◌++◌, ap, sym, ◌∙◌, add-one, zero-add, append-nil}
use Rattle.std.proofs.Common.{append_assoc, ◌<◌, subst, Option, Some, None}
use Rattle.std.proofs.lemmas.Bool.Decides.{nat_tests}
use Rattle.std.proofs.lemmas.List.{flat_map_more}
use Rattle.std.proofs.lemmas.Option.{same_Some}
use Rattle.std.specs.Fmt.{decimal}
use Rattle.std.specs.List.{flat_map, range_with_len}
use Rattle.std.specs.Prelude.{codes, IfSome, ◌↔◌}
use Rattle.block_data.specs.declared.block_buf.TheConstants.{BLOCK}
use Rattle.io_edge.specs.Streams.{Gave, IfGave}
use Rattle.diff_area.specs.Format.{IsArea, header_of, slots_in, fits, blocks_for}
use Rattle.diff_area.specs.Refusals.{IsRefused}
use Rattle.diff_area.specs.declared.area_fault.AreaFault.{AreaFault}
use Rattle.diff_area.specs.declared.area_fault.AreaFault.TheVariants.{Device, BadHeader, BadRecord, OutOfMemory}
use Rattle.diff_area.specs.declared.area_fault.AreaFault.TheVariants as fault
use Rattle.diff_area.specs.declared.header_field.HeaderField.TheVariants.{Magic, Layout, Slots, Used, Volumes, Blocks, Rest}
use Rattle.vss_main.specs.Command.{most_area_bytes}
use Rattle.vss_main.specs.Inspected.{Edges, IsSilent, IsAreaInput, IsInspected, IsListedWhereItCan, IsListedOrWantsMemory, ended_by, head_of, volume_line}
use Rattle.vss_main.specs.Inspected.{volume_lines, slot_line, slot_lines}
use Rattle.vss_main.specs.declared.inspection.Inspection.{Inspection}
use Rattle.vss_main.specs.declared.inspection.Inspection.TheVariants.{TooLong}

-- ## What is known of bytes that are an area: they have a header, and no refusal.

sized : (size slots : ℕ) → fits size slots ≡ true → 16384 ≤ size
sized size slots h = let e : size ≡ BLOCK * blocks_for slots = grind (arith, nat_tests) in omega arith

pub has_header : (bytes : List ℕ) → IsArea bytes → BLOCK ≤ length bytes
has_header bytes area = sized (length bytes) (slots_in (header_of bytes)) area.header.slots

-- an area is not refused: what is answered is want of memory
pub only_memory : (bytes : List ℕ) (fault : AreaFault) → IsArea bytes → IsRefused bytes fault → (fault ≡ Device → ⊥) → fault ≡ OutOfMemory
only_memory bytes Device area h not_device = absurd (not_device refl)
only_memory bytes (BadHeader Magic found) area h not_device = absurd (let e = area.header.magic in cc)
only_memory bytes (BadHeader Layout found) area h not_device = absurd (let e = area.header.layout in cc)
only_memory bytes (BadHeader Slots found) area h not_device = absurd (let e = area.header.slots in cc)
only_memory bytes (BadHeader Volumes found) area h not_device = absurd (let e = area.header.volumes in cc)
only_memory bytes (BadHeader Blocks found) area h not_device = absurd (let e = area.header.blocks in cc)
only_memory bytes (BadHeader Rest found) area h not_device = absurd (let e = area.header.rest in cc)
only_memory bytes (BadHeader Used found) area h not_device = absurd (h.other (let e = area.used in cc))
only_memory bytes (BadRecord slot set block volume) area h not_device = absurd (let e = area.records slot h.1.within in let bad = h.1.bad in cc)
only_memory bytes OutOfMemory area h not_device = refl

-- ## Lines that come one after another: those of the first volumes or slots, and one more.

range_more : (a n : ℕ) → range_with_len a (suc n) ≡ range_with_len a n ++ (a + n) ∷ []
range_more a zero = let e : a ≡ a + 0 = omega arith in ap (λ x. x ∷ []) e
range_more a (suc n) = let e : a + 1 + n ≡ a + suc n = omega arith in ap (λ xs. a ∷ xs) (range_more (a + 1) n) ∙ ap (λ x. a ∷ (range_with_len (a + 1) n ++ x ∷ [])) e

flat_last : (f : ℕ → List ℕ) (xs : List ℕ) (x : ℕ) → flat_map f (xs ++ x ∷ []) ≡ flat_map f xs ++ f x
flat_last f xs x = sym (flat_map_more f [] xs x)

more : (f : ℕ → List ℕ) (n : ℕ) → flat_map f (range_with_len 0 (n + 1)) ≡ flat_map f (range_with_len 0 n) ++ f n
more f n =
    ap (λ k. flat_map f (range_with_len 0 k)) (add-one n) ∙ ap (flat_map f) (range_more 0 n) ∙ flat_last f (range_with_len 0 n) (0 + n)
    ∙ ap (λ k. flat_map f (range_with_len 0 n) ++ f k) (zero-add n)

-- ## the loops

pub volumes_begin : (text bytes : List ℕ) → text ≡ text ++ volume_lines bytes 0
unfolding volume_lines
volumes_begin text bytes = sym (append-nil text)

pub slots_begin : (text bytes : List ℕ) → text ≡ text ++ slot_lines bytes 0
unfolding slot_lines
slots_begin text bytes = sym (append-nil text)

one_more : (first now next so_far all line : List ℕ) → now ≡ first ++ so_far → next ≡ now ++ line → all ≡ so_far ++ line → next ≡ first ++ all
one_more first now next so_far all line e f g = f ∙ ap (λ x. x ++ line) e ∙ append_assoc first so_far line ∙ sym (ap (λ x. first ++ x) g)

pub volumes_more : (first now next bytes : List ℕ) (n : ℕ) → now ≡ first ++ volume_lines bytes n → next ≡ now ++ volume_line bytes n → next ≡ first ++ volume_lines bytes (n + 1)
unfolding volume_lines
volumes_more first now next bytes n e f = one_more first now next (volume_lines bytes n) (volume_lines bytes (n + 1)) (volume_line bytes n) e f (more (volume_line bytes) n)

pub slots_more : (first now next bytes : List ℕ) (n : ℕ) → now ≡ first ++ slot_lines bytes n → next ≡ now ++ slot_line bytes n → next ≡ first ++ slot_lines bytes (n + 1)
unfolding slot_lines
slots_more first now next bytes n e f = one_more first now next (slot_lines bytes n) (slot_lines bytes (n + 1)) (slot_line bytes n) e f (more (slot_line bytes) n)

-- ## the first line

regroup : (o w n v m u k l a b c d : List ℕ) → a ≡ o ++ w ++ n → b ≡ a ++ v ++ m → c ≡ b ++ u ++ k → d ≡ c ++ l → d ≡ o ++ (w ++ n ++ v ++ m ++ u ++ k ++ l)
regroup o w n v m u k l a b c d e f g h =
    let all : d ≡ o ++ w ++ n ++ v ++ m ++ u ++ k ++ l = h ∙ ap (λ x. x ++ l) (g ∙ ap (λ x. x ++ u ++ k) (f ∙ ap (λ x. x ++ v ++ m) e)) in
    all ∙ simp append_assoc

pub head_written : (first one two three four : List ℕ) (layout slots used : ℕ) → one ≡ first ++ codes "area layout " ++ decimal layout → two ≡ one ++ codes " slots " ++ decimal slots
    → three ≡ two ++ codes " used " ++ decimal used → four ≡ three ++ 10 ∷ [] → four ≡ first ++ head_of layout slots used
head_written first one two three four layout slots used e f g h =
    regroup first (codes "area layout ") (decimal layout) (codes " slots ") (decimal slots) (codes " used ") (decimal used) (10 ∷ []) one two three four e f g h

-- ## An inspection that has no listing: why, and how it ends.

-- a source that was read to its end gave what it had
the_input : (before after : Option (List ℕ)) (bytes input : List ℕ) → before ≡ Some bytes → Gave before input after → IfSome after (λ rest. rest ≡ []) → bytes ≡ input
the_input before None bytes input had gave over = cc
the_input before (Some rest) bytes input had gave over = same_Some bytes (input ++ rest) (sym had ∙ gave) ∙ ap (λ (r : List ℕ). input ++ r) over ∙ append-nil input

refused_is : (e : Edges) (input : List ℕ) (why : AreaFault) → IsAreaInput e input → IsSilent e → IsRefused input why → (why ≡ Device → ⊥) → IsInspected e (ended_by why)
refused_is e input Device read silent refused no_device = absurd (no_device refl)
refused_is e input (BadHeader field found) read silent refused no_device =
    record { input = input; is_input = read; refused = refused; no_device = no_device; no_memory = (λ (same : BadHeader field found ≡ fault.OutOfMemory). cc); silent = silent }
refused_is e input (BadRecord slot set block volume) read silent refused no_device =
    record { input = input; is_input = read; refused = refused; no_device = no_device; no_memory = (λ (same : BadRecord slot set block volume ≡ fault.OutOfMemory). cc); silent = silent }
refused_is e input fault.OutOfMemory read silent refused no_device = record { reads = read.reads; silent = silent }

wants_memory : (e : Edges) (input : List ℕ) (why : AreaFault) → IsAreaInput e input → (IsArea input → why ≡ fault.OutOfMemory) → IsListedWhereItCan e (ended_by why)
wants_memory e input why read exact = λ bytes had few area none.
    let same : bytes ≡ input = the_input e.left_first e.left_last bytes input had read.gave read.to_the_end in
    let memory : why ≡ fault.OutOfMemory = exact (subst (λ (bs : List ℕ). IsArea bs) same area) in
    subst (λ (w : AreaFault). IsListedOrWantsMemory (ended_by w)) (sym memory) tt

never_too_long : (why : AreaFault) → ended_by why ≡ TooLong → ⊥
never_too_long Device same = cc
never_too_long (BadHeader field found) same = cc
never_too_long (BadRecord slot set block volume) same = cc
never_too_long fault.OutOfMemory same = cc

not_longer : (before after : Option (List ℕ)) (A : Type 0) (why : AreaFault) → (A → ⊥) → IfGave before after (λ n. A ↔ (most_area_bytes < n)) → IfGave before after (λ n. (ended_by why ≡ TooLong) ↔ (most_area_bytes < n))
not_longer None after A why no_more short = tt
not_longer (Some bytes) None A why no_more short = tt
not_longer (Some bytes) (Some rest) A why no_more short = (λ same. absurd (never_too_long why same), λ longer. absurd (no_more (short.1 longer)))

-- what is known of an inspection without a listing
pub record IsWithout (e : Edges) (A : Type 0) (input lent : List ℕ) (why : AreaFault) : Type 0 where
  pub lent_is : lent ≡ input
  pub read : IsAreaInput e input
  pub silent : IsSilent e
  pub refused : IsRefused lent why
  pub no_device : why ≡ Device → ⊥
  pub exact : IsArea lent → why ≡ fault.OutOfMemory
  pub not_longer : A → ⊥
  pub short : IfGave e.left_first e.left_last (λ n. A ↔ (most_area_bytes < n))

pub record HasEnded (e : Edges) (ended : Inspection) : Type 0 where
  pub too_long : IfGave e.left_first e.left_last (λ n. (ended ≡ TooLong) ↔ (most_area_bytes < n))
  pub inspected : IsInspected e ended
  pub complete : IsListedWhereItCan e ended

pub without : (e : Edges) (A : Type 0) (input lent : List ℕ) (why : AreaFault) (ended : Inspection) → IsWithout e A input lent why → ended ≡ ended_by why → HasEnded e ended
without e A input lent why ended w at = subst (λ (i : Inspection). HasEnded e i) (sym at) (record {
  too_long = not_longer e.left_first e.left_last A why w.not_longer w.short;
  inspected = refused_is e input why w.read w.silent (subst (λ (bs : List ℕ). IsRefused bs why) w.lent_is w.refused) w.no_device;
  complete = wants_memory e input why w.read (λ area. w.exact (subst (λ (bs : List ℕ). IsArea bs) (sym w.lent_is) area));
})
