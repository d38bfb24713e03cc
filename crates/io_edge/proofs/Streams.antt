-- What the loops of `read_all` and `write_all` keep, and how a read or a write carries it on.
use Rattle.std.proofs.Common.{ℕ, ◌≡◌, ◌≤◌, ◌+◌, ◌-◌, List, ◌++◌, length, take, drop, Option, Some, None, refl, sym, ap, ◌∙◌, subst, arith, append_assoc, length-drop}
use Rattle.std.proofs.Math.Seq.{take-add}
use Rattle.std.proofs.lemmas.List.{take_rest}
use Rattle.std.specs.Prelude.{option_map}
use Rattle.io_edge.specs.Streams.{Gave, Took}

-- what was read so far came from the front of what was left
pub record IsReading (first now : Option (List ℕ)) (text : List ℕ) (limit count_first count_now : ℕ) : Type 0 where
  pub so_far : Gave first text now
  pub within : length text ≤ limit
  pub same : count_now ≡ count_first

-- the first n bytes were written
pub record IsWriting (first now : Option (List ℕ)) (bytes : List ℕ) (n count_first count_now : ℕ) : Type 0 where
  pub so_far : Took first (take n bytes) now
  pub within : n ≤ length bytes
  pub same : count_now ≡ count_first

-- two gifts in a row are one
pub gave-more : (first : Option (List ℕ)) (text : List ℕ) (now : Option (List ℕ)) (piece : List ℕ) (next : Option (List ℕ)) → Gave first text now → Gave now piece next → Gave first (text ++ piece) next
gave-more first text now piece None e f = e ∙ ap (option_map (λ rest. text ++ rest)) f
gave-more first text now piece (Some rest) e f = e ∙ ap (option_map (λ rest. text ++ rest)) f ∙ ap Some (sym (append_assoc text piece rest))

took-more : (first : Option (List ℕ)) (bytes : List ℕ) (n m : ℕ) → option_map (λ had. had ++ take m (drop n bytes)) (option_map (λ had. had ++ take n bytes) first) ≡ option_map (λ had. had ++ take (n + m) bytes) first
took-more None bytes n m = refl
took-more (Some had) bytes n m = ap Some (append_assoc had (take n bytes) (take m (drop n bytes)) ∙ ap (λ xs. had ++ xs) (sym (take-add n m bytes)))

-- a write of a piece of what is left carries a writing on
pub writing-more : (first now next : Option (List ℕ)) (bytes : List ℕ) (n m a b d : ℕ) → IsWriting first now bytes n a b → Took now (take m (take (length bytes - n) (drop n bytes))) next → m ≤ length (take (length bytes - n) (drop n bytes)) → d ≡ b → IsWriting first next bytes (n + m) a d
writing-more first now next bytes n m a b d so_far took within same =
    let rest : take (length bytes - n) (drop n bytes) ≡ drop n bytes = take_rest bytes n in
    let took_rest : Took now (take m (drop n bytes)) next = subst (λ xs. Took now (take m xs) next) rest took in
    let within_rest : m ≤ length (drop n bytes) = subst (λ xs. m ≤ length xs) rest within in
    let e = length-drop n bytes in
    let l = so_far.within in
    record {
      so_far = took_rest ∙ ap (option_map (λ had. had ++ take m (drop n bytes))) so_far.so_far ∙ took-more first bytes n m;
      within = omega arith;
      same = same ∙ so_far.same;
    }
