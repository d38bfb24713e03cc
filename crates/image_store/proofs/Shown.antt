-- What is shown, block by block.
use Rattle.std.proofs.Common.{◌≡◌, ℕ, zero, suc, ◌+◌, ◌-◌, ◌*◌, ◌<◌, ◌≤◌, List, [], ◌∷◌, ◌++◌, length, take, drop, refl, ap, sym, subst, ◌∙◌, arith, true, false, Option, Some, None, option_map}
use Rattle.std.proofs.Common.{append_assoc, inl, inr}
use Rattle.std.specs.Prelude.{◌⊎◌, slice_get, nat_le, Err}
use Rattle.std.proofs.Math.Seq.{take-append-add}
use Rattle.std.specs.List.{concat}
use Rattle.std.proofs.lemmas.List.{append-nil, take-append-le, take-append-drop}
use Rattle.std.proofs.lemmas.Bool.Decides.{nat_tests}
use Rattle.byteorder.specs.Endian.{little_number}
use Rattle.block_data.specs.declared.block_buf.TheConstants.{BLOCK}
use Rattle.io_edge.specs.Streams.{Took, TookPart}
use Rattle.cow_volume.specs.StandsFor.{GroupValue}
use Rattle.cow_volume.specs.Calls.{blocks_at, sets_at, is_among, IsNow, IsShown as IsImage}
use Rattle.image_store.specs.FileBytes.{file_in, length_in, has_length, number_in}
use Rattle.image_store.specs.Plain.{Plain, volume_in}
use Rattle.image_store.specs.Showing.{HasBlock, HasLength, HasNoLength, HasReadCause, IfBad, IsShow, IsShownInPart, shown_in, IsSeen}
use Rattle.image_store.specs.StoreValue.{HasPlains, KeepsPlains}
use Rattle.image_store.specs.declared.which.Which.{Which}
use Rattle.image_store.specs.declared.which.Which.TheVariants.{Now, Of}
use Rattle.image_store.specs.declared.show_fault.ShowFault.{ShowFault}
use Rattle.image_store.proofs.Plains.{block_now, block_shown, as_many_blocks}

-- ## a block

pub now_read : {D : Type 0} (told : D → Option (List (List ℕ))) (g : GroupValue D) (v b : ℕ) (bytes : List ℕ) → v < length g.area.volumes → b < blocks_at g v → IsNow told g v b bytes
    → (ps : List Plain) → HasPlains told g ps → HasBlock (shown_in ps v Now) (blocks_at g v) b bytes
now_read told g v b bytes l m is ps has = record { blocks = (volume_in ps v).blocks; are = refl; many = as_many_blocks told g ps v has l; at = block_now told g ps v b bytes has l m is }

pub image_read : {D : Type 0} (told : D → Option (List (List ℕ))) (g : GroupValue D) (v set b : ℕ) (bytes : List ℕ) → v < length g.area.volumes → b < blocks_at g v → is_among set (sets_at g v) ≡ true
    → IsImage told g v set b bytes → (ps : List Plain) → HasPlains told g ps → HasBlock (shown_in ps v (Of set)) (blocks_at g v) b bytes
image_read told g v set b bytes l m among is ps has =
    let found = block_shown told g ps v set b bytes has l m among is in
    record { blocks = found.0; are = found.1; many = found.3; at = found.2 }

-- ## the length

said_is : (blocks : List (List ℕ)) (n : ℕ) (bytes : List ℕ) → length blocks ≡ n → slice_get blocks (n - 1) ≡ Some bytes → length_in blocks ≡ little_number 8 (drop (BLOCK - 8) bytes)
unfolding length_in
said_is blocks n bytes many at = ap number_in (ap (λ k. slice_get blocks (k - 1)) many ∙ at)

pub length_read : (shown : Option (List (List ℕ))) (n said : ℕ) (bytes : List ℕ) → HasBlock shown n (n - 1) bytes → said ≡ little_number 8 (drop (BLOCK - 8) bytes) → said + 8 ≤ BLOCK * n
    → HasLength shown n said
length_read shown n said bytes has is room = record {
  blocks = has.blocks;
  are = has.are;
  many = has.many;
  length_is = is ∙ sym (said_is has.blocks n bytes has.many has.at);
  room = subst (λ k. said + 8 ≤ BLOCK * k) (sym has.many) room;
}

no_room : (a b : ℕ) → b < a → nat_le a b ≡ false
no_room a b l = grind (arith, nat_tests)

pub no_length_read : (shown : Option (List (List ℕ))) (n said : ℕ) (bytes : List ℕ) → HasBlock shown n (n - 1) bytes → said ≡ little_number 8 (drop (BLOCK - 8) bytes) → BLOCK * n < said + 8
    → HasNoLength shown said
no_length_read shown n said bytes has is room = λ blocks are.
    let equal : has.blocks ≡ blocks = cc in
    let said_equal : said ≡ length_in has.blocks = is ∙ sym (said_is has.blocks n bytes has.many has.at) in
    subst (λ (bs : List (List ℕ)). (has_length bs ≡ false) × (said ≡ length_in bs)) equal
    (no_room (length_in has.blocks + 8) (BLOCK * length has.blocks) (subst (λ k. BLOCK * k < length_in has.blocks + 8) (sym has.many) (subst (λ m. BLOCK * n < m + 8) said_equal room)), said_equal)

-- the same, where the length was read of the bytes of the last block
pub length_at : (shown : Option (List (List ℕ))) (n blocks said : ℕ) (piece bytes : List ℕ) → blocks ≡ n → HasBlock shown n (blocks - 1) piece → bytes ≡ piece
    → (said ≡ little_number 8 (drop (BLOCK - 8) bytes)) × (said + 8 ≤ BLOCK * blocks) → HasLength shown n said
length_at shown n blocks said piece bytes same has are is =
    length_read shown n said bytes (subst (λ k. HasBlock shown n (k - 1) bytes) same (subst (λ (x : List ℕ). HasBlock shown n (blocks - 1) x) (sym are) has)) is.0
    (subst (λ k. said + 8 ≤ BLOCK * k) same is.1)

pub no_length_at : (shown : Option (List (List ℕ))) (n blocks said : ℕ) (piece bytes : List ℕ) → blocks ≡ n → HasBlock shown n (blocks - 1) piece → bytes ≡ piece
    → (said ≡ little_number 8 (drop (BLOCK - 8) bytes)) × (BLOCK * blocks < said + 8) → HasNoLength shown said
no_length_at shown n blocks said piece bytes same has are is =
    no_length_read shown n said bytes (subst (λ k. HasBlock shown n (k - 1) bytes) same (subst (λ (x : List ℕ). HasBlock shown n (blocks - 1) x) (sym are) has)) is.0
    (subst (λ k. BLOCK * k < said + 8) same is.1)

-- ## what the sink took

pub took_then : (a b c : Option (List ℕ)) (xs ys : List ℕ) → Took a xs b → Took b ys c → Took a (xs ++ ys) c
took_then None b c xs ys first second = second ∙ ap (option_map (λ had. had ++ ys)) first
took_then (Some had) b c xs ys first second = second ∙ ap (option_map (λ h. h ++ ys)) first ∙ ap Some (append_assoc had xs ys)

-- the bytes that the sink took so far, and the rest of the file
pub record HasTaken (shown : Option (List (List ℕ))) (n : ℕ) (before after : Option (List ℕ)) (left k : ℕ) : Type 0 where
  pub blocks : List (List ℕ)
  pub are : shown ≡ Some blocks
  pub many : length blocks ≡ n
  pub bytes : List ℕ
  pub took : Took before bytes after
  pub rest : bytes ++ take left (concat (drop k blocks)) ≡ file_in blocks

-- the first k blocks are shown
pub record IsShownTo {D : Type 0} (told : D → Option (List (List ℕ))) (old now : GroupValue D) (v : ℕ) (which : Which) (before after : Option (List ℕ)) (count count_now left k : ℕ) : Type 0 where
  pub kept : KeepsPlains told old now
  pub images : now.images ≡ old.images
  pub count_is : count_now ≡ count
  pub taken : (ps : List Plain) → HasPlains told old ps → HasTaken (shown_in ps v which) (blocks_at old v) before after left k

file_is : (blocks : List (List ℕ)) (m : ℕ) → m ≡ length_in blocks → take m (concat blocks) ≡ file_in blocks
unfolding file_in
file_is blocks m e = ap (λ j. take j (concat blocks)) e

-- before the first
pub shown_none : (shown : Option (List (List ℕ))) (n left : ℕ) (before : Option (List ℕ)) → HasLength shown n left → HasTaken shown n before before left 0
shown_none shown n left before has = grind (arith, append-nil, file_is)

drop_at : (blocks : List (List ℕ)) (k : ℕ) (bytes : List ℕ) → slice_get blocks k ≡ Some bytes → drop k blocks ≡ bytes ∷ drop (k + 1) blocks
drop_at [] k bytes at = cc
drop_at (b ∷ blocks) zero bytes at = let same : b ≡ bytes = cc in ap (λ x. x ∷ blocks) same
drop_at (b ∷ blocks) (suc k) bytes at = let one : suc k + 1 ≡ suc (k + 1) = omega arith in drop_at blocks k bytes at ∙ ap (λ j. bytes ∷ drop j (b ∷ blocks)) (sym one)

take_whole : (xs : List ℕ) → take (length xs) xs ≡ xs
take_whole [] = refl
take_whole (x ∷ xs) = ap (λ ys. x ∷ ys) (take_whole xs)

take_two : (left more rest : ℕ) (xs ys : List ℕ) → rest + more ≡ left → (more ≡ length xs) ⊎ ((rest ≡ 0) × (left ≤ length xs)) → take left (xs ++ ys) ≡ take more xs ++ take rest ys
take_two left more rest xs ys sum (inl e) =
    let whole : left ≡ length xs + rest = omega arith in
    ap (λ n. take n (xs ++ ys)) whole ∙ take-append-add xs ys rest ∙ ap (λ zs. zs ++ take rest ys) (sym (ap (λ n. take n xs) e ∙ take_whole xs))
take_two left more rest xs ys sum (inr h) =
    let none = h.0 in
    let same : left ≡ more = omega arith in
    take-append-le left xs ys h.1 ∙ ap (λ n. take n xs) same ∙ sym (append-nil (take more xs)) ∙ ap (λ n. take more xs ++ take n ys) (sym none)

-- one more block
pub shown_more : (shown : Option (List (List ℕ))) (n left more rest k : ℕ) (before now next : Option (List ℕ)) (bytes : List ℕ) → HasTaken shown n before now left k → HasBlock shown n k bytes
    → Took now (take more bytes) next
    → rest + more ≡ left → (more ≡ length bytes) ⊎ ((rest ≡ 0) × (left ≤ length bytes)) → HasTaken shown n before next rest (k + 1)
shown_more shown n left more rest k before now next bytes so has took sum part =
    let same : has.blocks ≡ so.blocks = cc in
    let at : slice_get so.blocks k ≡ Some bytes = ap (λ (bs : List (List ℕ)). slice_get bs k) (sym same) ∙ has.at in
    record {
      blocks = so.blocks;
      are = so.are;
      many = so.many;
      bytes = so.bytes ++ take more bytes;
      took = took_then before now next so.bytes (take more bytes) so.took took;
      rest = append_assoc so.bytes (take more bytes) (take rest (concat (drop (k + 1) so.blocks)))
          ∙ ap (λ xs. so.bytes ++ xs)
          (sym (ap (λ (bs : List (List ℕ)). take left (concat bs)) (drop_at so.blocks k bytes at) ∙ take_two left more rest bytes (concat (drop (k + 1) so.blocks)) sum part)) ∙ so.rest;
    }

-- a block of the group as it is now
pub block_of : (shown : Option (List (List ℕ))) (m n k : ℕ) (piece bytes : List ℕ) → m ≡ n → bytes ≡ piece → HasBlock shown m k piece → HasBlock shown n k bytes
block_of shown m n k piece bytes same are has = record { blocks = has.blocks; are = has.are; many = has.many ∙ same; at = has.at ∙ ap Some (sym are) }

pub part_is : (left more len block : ℕ) → (more ≡ block) ⊎ (more ≡ left) → len ≡ block → more ≤ block → (more ≡ len) ⊎ ((left - more ≡ 0) × (left ≤ len))
part_is left more len block x4 whole most = grind arith

-- no more is shown
part_of_all : (shown : Option (List (List ℕ))) (blocks : List (List ℕ)) (bytes rest : List ℕ) → shown ≡ Some blocks → bytes ++ rest ≡ file_in blocks
    → (others : List (List ℕ)) → shown ≡ Some others → (more : List ℕ) × (bytes ++ more ≡ file_in others)
part_of_all shown blocks bytes rest are is others too = grind arith

pub shown_part : (shown : Option (List (List ℕ))) (n left k : ℕ) (before now : Option (List ℕ)) → HasTaken shown n before now left k → IsShownInPart shown before now
shown_part shown n left k before now so = grind (arith, part_of_all)

-- the sink failed within a block
pub shown_failed : (shown : Option (List (List ℕ))) (n left more rest k : ℕ) (before now next : Option (List ℕ)) (bytes : List ℕ) → HasTaken shown n before now left k → HasBlock shown n k bytes
    → TookPart now (take more bytes) next → rest + more ≡ left → (more ≡ length bytes) ⊎ ((rest ≡ 0) × (left ≤ length bytes)) → IsShownInPart shown before next
shown_failed shown n left more rest k before now next bytes so has (m, short, took) sum part =
    let same : has.blocks ≡ so.blocks = cc in
    let at : slice_get so.blocks k ≡ Some bytes = ap (λ (bs : List (List ℕ)). slice_get bs k) (sym same) ∙ has.at in
    let front = take more bytes in
    let after = take rest (concat (drop (k + 1) so.blocks)) in
    record {
      bytes = so.bytes ++ take m front;
      took = took_then before now next so.bytes (take m front) so.took took;
      part = part_of_all shown so.blocks (so.bytes ++ take m front) (drop m front ++ after) so.are
          (append_assoc so.bytes (take m front) (drop m front ++ after)
          ∙ ap (λ xs. so.bytes ++ xs) (sym (append_assoc (take m front) (drop m front) after) ∙ ap (λ xs. xs ++ after) (take-append-drop m front)
          ∙ sym (ap (λ (bs : List (List ℕ)). take left (concat bs)) (drop_at so.blocks k bytes at) ∙ take_two left more rest bytes (concat (drop (k + 1) so.blocks)) sum part)) ∙ so.rest);
    }

-- nothing is
nothing_shown : (shown : Option (List (List ℕ))) (before : Option (List ℕ)) → IsShownInPart shown before before
nothing_shown shown before = record { bytes = []; took = grind (arith, append-nil); part = λ blocks are. (file_in blocks, refl) }

pub bad_shown : (shown : Option (List (List ℕ))) (before : Option (List ℕ)) (fault : ShowFault) → IfBad shown fault → IsShow shown before before (Err fault)
bad_shown shown before fault bad = grind (arith, nothing_shown)

pub read_failed : {D : Type 0} (g : GroupValue D) (v : ℕ) (which : Which) (shown : Option (List (List ℕ))) (before now : Option (List ℕ)) (fault : ShowFault)
    → IsSeen g v which → HasReadCause g v which fault
    → IsShownInPart shown before now → IsShow shown before now (Err fault)
read_failed g v which shown before now fault seen cause part = grind (arith)

-- it stands where it stood
pub seen_in : {D : Type 0} (old now : GroupValue D) (v : ℕ) (which : Which) → now.images ≡ old.images → IsSeen now v which → IsSeen old v which
seen_in old now v which same seen = grind arith
