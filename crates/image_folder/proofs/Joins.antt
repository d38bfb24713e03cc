-- The pieces of a file, one behind another and one more, are the file.
use Rattle.std.proofs.Common.{ℕ, zero, suc, ◌≡◌, ◌<◌, ◌+◌, ◌⊎◌, List, [], ◌∷◌, ◌++◌, length, Some, slice_get, All, refl, sym, ap, ◌∙◌, arith, inl, inr, ◌*◌}
use Rattle.std.proofs.Common.{take, drop, add-one, append_assoc, Option}
use Rattle.std.proofs.lemmas.List.{length_push, append-nil, take-append-drop, drop-drop}
use Rattle.std.proofs.lemmas.List.Elements.{All-append, All-cons, All-nil}
use Rattle.std.specs.Prelude.{Ok}
use Rattle.vss_names.specs.Names.{TextValue}
use Rattle.io_edge.specs.Streams.{Took}
use Rattle.image_store.specs.FileBytes.{file_in}
use Rattle.image_store.specs.Plain.{Plain, PlainStore}
use Rattle.image_store.specs.Showing.{IsShow, shown_in}
use Rattle.image_store.specs.StoreValue.{StoreValue, StandsAs, StandsStill}
use Rattle.image_store.specs.declared.which.Which.{Which}
use Rattle.image_store.proofs.Shown.{took_then}
use Rattle.image_folder.specs.Parts.{AreParts, IsPart, ArePieces, file_of}

-- ## One part more.

-- what is in a list with one more is in it, or is the one
snoc_cases : {X : Type 0} (xs : List X) (u : X) (k : ℕ) (w : X) → slice_get (xs ++ u ∷ []) k ≡ Some w → (slice_get xs k ≡ Some w) ⊎ ((k ≡ length xs) × (u ≡ w))
snoc_cases [] u zero w at = inr (refl, cc)
snoc_cases [] u (suc k) w at = absurd cc
snoc_cases (x ∷ xs) u zero w at = inl at
snoc_cases (x ∷ xs) u (suc k) w at = elim (snoc_cases xs u k w at) [
  | inl here ↦ inl here
  | inr end ↦ let same = end.0 in inr (omega arith, end.1)
]

parts_more : (names : List TextValue) (v : ℕ) (parts : List ℕ) (u : ℕ) → AreParts names v parts → IsPart names v (length parts) u → AreParts names v (parts ++ u ∷ [])
parts_more names v parts u are is number w some at = elim (snoc_cases parts u number w at) [
  | inl here ↦ are number w some here
  | inr end ↦ rw end.0 (rw (sym end.1) is)
]

first_stays : (parts : List ℕ) (u v : ℕ) → slice_get parts 0 ≡ Some v → slice_get (parts ++ u ∷ []) 0 ≡ Some v
first_stays [] u v first = cc
first_stays (w ∷ parts) u v first = first

pub next_part : (names : List TextValue) (volumes v number : ℕ) (parts new : List ℕ) (u : ℕ) → new ≡ parts ++ u ∷ [] → All (λ w. w < volumes) parts → u < volumes
    → slice_get parts 0 ≡ Some v → length parts ≡ number → AreParts names v parts → IsPart names v number u
    → All (λ w. w < volumes) new × (slice_get new 0 ≡ Some v) × (length new ≡ number + 1) × AreParts names v new
next_part names volumes v number parts new u now within below first count are is = rw now (
  All-append (λ w. w < volumes) parts (u ∷ []) within (All-cons (λ w. w < volumes) u [] below (All-nil (λ w. w < volumes))),
  first_stays parts u v first,
  length_push parts u ∙ ap (λ (n : ℕ). n + 1) count,
  parts_more names v parts u are (rw count is),
)

-- ## The pieces of a file, one behind another, are the file.

-- what volumes show, one behind another
abbrev pub shown_all : List Plain → Which → List ℕ → List ℕ
shown_all ps which [] = []
shown_all ps which (v ∷ vs) = file_of (shown_in ps v which) ++ shown_all ps which vs

next_piece : (size number : ℕ) (file : List ℕ) → drop size (drop (number * size) file) ≡ drop (suc number * size) file
next_piece size number file = drop-drop size (number * size) file ∙ ap (λ (n : ℕ). drop n file) (omega arith)

pieces_from : (size number : ℕ) (ps : List Plain) (which : Which) (vs file : List ℕ)
    → ArePieces size number ps which vs file → shown_all ps which vs ≡ drop (number * size) file
pieces_from size number ps which [] file are = absurd are
pieces_from size number ps which (v ∷ []) file are = append-nil (file_of (shown_in ps v which)) ∙ are
pieces_from size number ps which (v ∷ u ∷ vs) file are = ap (λ (xs : List ℕ). xs ++ shown_all ps which (u ∷ vs)) are.0
    ∙ ap (λ (xs : List ℕ). take size (drop (number * size) file) ++ xs)
    (pieces_from size (suc number) ps which (u ∷ vs) file are.1 ∙ sym (next_piece size number file))
    ∙ take-append-drop size (drop (number * size) file)

pub pieces_are_file : (size : ℕ) (ps : List Plain) (which : Which) (vs file : List ℕ) → ArePieces size 0 ps which vs file → shown_all ps which vs ≡ file
pieces_are_file size ps which vs file are = let none : 0 * size ≡ 0 = omega arith in pieces_from size 0 ps which vs file are ∙ ap (λ (n : ℕ). drop n file) none

-- the store stands for what it stood for, and the sink took what these volumes show
pub record AreShown {D : Type 0} (told : D → Option (List (List ℕ))) (first now : StoreValue D) (before after : Option (List ℕ))
    (which : Which) (vs : List ℕ) : Type 0 where
  pub still : StandsStill told first now
  pub took : (p : PlainStore) → StandsAs told first p → Took before (shown_all p.volumes which vs) after

next_shown : (ps : List Plain) (which : Which) (vs : List ℕ) (k v : ℕ) → slice_get vs k ≡ Some v
    → shown_all ps which (take (suc k) vs) ≡ shown_all ps which (take k vs) ++ file_of (shown_in ps v which)
next_shown ps which [] k v at = absurd cc
next_shown ps which (u ∷ vs) zero v at = let same : u ≡ v = cc in rw same (append-nil (file_of (shown_in ps v which)))
next_shown ps which (u ∷ vs) (suc k) v at = ap (λ (xs : List ℕ). file_of (shown_in ps u which) ++ xs) (next_shown ps which vs k v at)
    ∙ sym (append_assoc (file_of (shown_in ps u which)) (shown_all ps which (take k vs)) (file_of (shown_in ps v which)))

pub one_more : {D : Type 0} (told : D → Option (List (List ℕ))) (first now new : StoreValue D) (before middle after : Option (List ℕ))
    (which : Which) (vs : List ℕ) (k v : ℕ) (done : Unit)
    → AreShown told first now before middle which (take k vs) → slice_get vs k ≡ Some v → StandsStill told now new
    → ((p : PlainStore) → StandsAs told now p → IsShow (shown_in p.volumes v which) middle after (Ok done))
    → AreShown told first new before after which (take (k + 1) vs)
one_more told first now new before middle after which vs k v done so_far at still shows = record {
  still = λ p stands. still p (so_far.still p stands);
  took = λ p stands.
      let shown = shows p (so_far.still p stands) in
      let file : file_of (shown_in p.volumes v which) ≡ file_in shown.blocks = ap file_of shown.are in
      rw (add-one k, next_shown p.volumes which vs k v at, file)
      (took_then before middle after (shown_all p.volumes which (take k vs)) (file_in shown.blocks) (so_far.took p stands) shown.took);
}
