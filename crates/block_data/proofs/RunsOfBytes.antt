-- Lengths of runs and of the block of zeros, and how runs of a piece join and are cut.
use Rattle.std.proofs.Common.{◌≡◌, ℕ, zero, suc, ◌+◌, ◌-◌, ◌*◌, ◌≤◌, List, ◌++◌, length, take, drop, ap, sym, ◌∙◌, append_assoc, length-append, arith}
use Rattle.std.proofs.Math.Seq.{take-append_seam}
use Rattle.std.proofs.lemmas.List.{length-replicate, append-nil, take-take}
use Rattle.std.specs.List.{repeat}
use Rattle.block_data.specs.BlockBytes.{run_of, repeated, zeros}
use Rattle.block_data.specs.declared.block_buf.TheConstants.{BLOCK}

-- a run has its count as its length
pub length-run_of : (count x : ℕ) → length (run_of count x) ≡ count
unfolding run_of
length-run_of count x = length-replicate count x

-- the block of zeros is a block
pub length_zeros : length zeros ≡ BLOCK
length_zeros = length-run_of BLOCK 0

length-repeat : (count : ℕ) (piece : List ℕ) → length (repeat count piece) ≡ count * length piece
length-repeat zero piece = omega arith
length-repeat (suc count) piece = omega (arith, length-append piece (repeat count piece), length-repeat count piece)

-- a run of a piece has so many times the piece's length
pub length-repeated : (count : ℕ) (piece : List ℕ) → length (repeated count piece) ≡ count * length piece
unfolding repeated
length-repeated count piece = length-repeat count piece

repeat-append : (m n : ℕ) (piece : List ℕ) → repeat (m + n) piece ≡ repeat m piece ++ repeat n piece
repeat-append zero n piece = let e : zero + n ≡ n = omega arith in ap (λ k. repeat k piece) e
repeat-append (suc m) n piece =
    let e : suc m + n ≡ suc (m + n) = omega arith in
    ap (λ k. repeat k piece) e ∙ ap (λ xs. piece ++ xs) (repeat-append m n piece) ∙ sym (append_assoc piece (repeat m piece) (repeat n piece))

-- two runs of a piece, one after the other, are one
pub repeated-append : (m n : ℕ) (piece : List ℕ) → repeated (m + n) piece ≡ repeated m piece ++ repeated n piece
unfolding repeated
repeated-append m n piece = repeat-append m n piece

-- the first part of a run of a piece of 8 bytes is a run of it
pub take-repeated : (m n : ℕ) (word : List ℕ) → length word ≡ 8 → m ≤ n → take (8 * m) (repeated n word) ≡ repeated m word
take-repeated m n word whole within =
    let cut : n ≡ m + (n - m) = omega arith in
    let parts : repeated n word ≡ repeated m word ++ repeated (n - m) word = ap (λ k. repeated k word) cut ∙ repeated-append m (n - m) word in
    let times : m * length word ≡ m * 8 = ap (λ k. m * k) whole in
    let size : 8 * m ≡ length (repeated m word) = omega (arith, length-repeated m word, times) in
    ap (λ xs. take (8 * m) xs) parts ∙ ap (λ k. take k (repeated m word ++ repeated (n - m) word)) size ∙ take-append_seam (repeated m word) (repeated (n - m) word)

-- one word at the front is a run of one
pub one_word : (word rest : List ℕ) → length word ≡ 8 → take 8 (word ++ rest) ≡ repeated 1 word
unfolding repeated
one_word word rest whole =
    ap (λ k. take k (word ++ rest)) (sym whole) ∙ take-append_seam word rest ∙ sym (append-nil word)

-- a run at the front whose first part is written once more behind it is a longer run
pub more_words : (done more : ℕ) (word before after : List ℕ) → length word ≡ 8 → more ≤ done → take (8 * done) before ≡ repeated done word → after ≡ take (8 * done) before ++ take (8 * more) before ++ drop (8 * done + 8 * more) before → take (8 * (done + more)) after ≡ repeated (done + more) word
more_words done more word before after whole within front is =
    let rest = drop (8 * done + 8 * more) before in
    let inner : take (8 * more) before ≡ take (8 * more) (take (8 * done) before) = sym (take-take (8 * more) (8 * done) before (omega arith)) in
    let second : take (8 * more) before ≡ repeated more word = inner ∙ ap (λ xs. take (8 * more) xs) front ∙ take-repeated more done word whole within in
    let joined : after ≡ repeated (done + more) word ++ rest =
    is ∙ ap (λ xs. xs ++ take (8 * more) before ++ rest) front ∙ ap (λ xs. repeated done word ++ xs ++ rest) second ∙ ap (λ xs. xs ++ rest) (sym (repeated-append done more word)) in
    let times : (done + more) * length word ≡ (done + more) * 8 = ap (λ k. (done + more) * k) whole in
    let size : 8 * (done + more) ≡ length (repeated (done + more) word) = omega (arith, length-repeated (done + more) word, times) in
    ap (λ xs. take (8 * (done + more)) xs) joined ∙ ap (λ k. take k (repeated (done + more) word ++ rest)) size ∙ take-append_seam (repeated (done + more) word) rest
