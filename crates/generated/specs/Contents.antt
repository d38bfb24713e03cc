-- What each block of the generated scenario holds at the end, the summary of its runs, and how each of them ends. (This project's own.)
use Rattle.std.specs.Fmt.{decimal}
use Rattle.std.specs.List.{range_with_len, concat, list_all}
use Rattle.std.specs.Prelude.{ℕ, zero, suc, List, [], ◌/◌, ◌==◌, map, filter, Option, Some, None, ◌∷◌, ◌+◌, ◌++◌, codes, ◌≡◌, ◌<◌, true, length}
use Rattle.hex.specs.Hex.{encode_lower}
use Rattle.block_data.specs.BlockBytes.{sha256, payload_bytes, zeros}
use Rattle.block_data.specs.declared.payload.Payload.TheVariants.{Stamp}
use Rattle.write_history.specs.History.{Write, last_bytes, content, sets_of}
use Rattle.write_history.specs.declared.move_item.Move.{Move}
use Rattle.scenario.specs.Plan.{Plan}
use Rattle.vss_model.specs.Acts.{Act, state}
use Rattle.vss_model.specs.Effects.{evicted}
use Rattle.vss_model.specs.State.{is_complete, history_of, kept}
use Rattle.vss_model.specs.Trail.{acts}
use Rattle.generated.specs.Draws.{volume_at, block_at, stamp_at}

-- ## What each block of the generated scenario holds at the end: lane i alone writes the blocks from 16 i to 16 i + 15 of each
-- volume, so a block has the last write of its one lane; the first lane writes nothing. (This project's own.)

-- what line k of lane i writes
abbrev pub write_of : ℕ → ℕ → ℕ → Write
write_of n i k = record { block = block_at n i k; bytes = payload_bytes (Stamp (stamp_at i k)) }

-- the writes of a lane to volume v, in order
unfoldable pub writes_to : ℕ → ℕ → ℕ → List Write
writes_to n zero v = []
writes_to n (suc i) v = map (write_of n (suc i)) (filter (λ k. volume_at n (suc i) k == v) (range_with_len 0 200))

-- a block with this number written to it, or one that nothing was written to
abbrev pub stamped : Option ℕ → List ℕ
stamped None = zeros
stamped (Some stamp) = payload_bytes (Stamp stamp)

-- the bytes of block b of volume v at the end
unfoldable pub final_bytes : ℕ → ℕ → ℕ → List ℕ
final_bytes n v b = last_bytes b zeros (writes_to n (b / 16) v)

-- all blocks of volume v at the end, in order
unfoldable pub final_blocks : ℕ → ℕ → List (List ℕ)
final_blocks n v = map (final_bytes n v) (range_with_len 0 256)

-- ## The summary of the generated scenario of a number: what each of its runs ends with. The numbers of lanes, lines, sets and
-- images are those of every generated scenario; the digests are of all blocks of each volume. (This project's own.)

abbrev pub summary_head : ℕ → List ℕ
summary_head n = codes "gen " ++ decimal n ++ codes "\nlanes 16 lines 3088\nsets complete 4\nimages 32\n"

abbrev pub volume_line : ℕ → List ℕ → List ℕ
volume_line v digest = codes "volume v" ++ decimal v ++ codes " " ++ encode_lower digest ++ codes "\n"

-- the lines of volumes, numbered from v on, with these digests
abbrev pub volume_lines : ℕ → List (List ℕ) → List ℕ
volume_lines v [] = []
volume_lines v (digest ∷ digests) = volume_line v digest ++ volume_lines (v + 1) digests

-- with these digests of the volumes
abbrev pub summary_with : ℕ → List (List ℕ) → List ℕ
summary_with n digests = summary_head n ++ volume_lines 0 digests

-- the digest of all blocks of a volume at the end
unfoldable pub final_digest : ℕ → ℕ → List ℕ
final_digest n v = sha256 (concat (final_blocks n v))

abbrev pub final_digests : ℕ → List (List ℕ)
final_digests n = map (final_digest n) (range_with_len 0 8)

abbrev pub summary : ℕ → List ℕ
summary n = summary_with n (final_digests n)

-- ## How each run of a generated scenario ends: its four sets are complete, nothing was evicted on the way, each set's image
-- is kept on each volume, and each block has what its one lane wrote to it last. (This project's own.)

pub record EndsWell (n : ℕ) (s : Plan) (trail : List Move) : Type 0 where
  pub four : length (state s (acts s trail)).sets ≡ 4
  pub complete : list_all (λ r. is_complete r.result) (state s (acts s trail)).sets ≡ true
  pub no_eviction : (so_far rest : List Act) (act : Act) → acts s trail ≡ so_far ++ act ∷ rest → evicted s (state s so_far) act.event ≡ []
  pub images : (v : ℕ) → v < 8 → sets_of (kept (state s (acts s trail)) (history_of (state s (acts s trail)) v)) ≡ 1 ∷ 2 ∷ 3 ∷ 4 ∷ []
  pub contents : (v b : ℕ) → v < 8 → b < 256 → content (history_of (state s (acts s trail)) v).writes (length (history_of (state s (acts s trail)) v).writes) b ≡ final_bytes n v b
