-- What a contract sees of a volume whose new images writers may change, and the histories with recovery writes that it stands for. The
-- overlay is to the recovery writes what the diff area is to the effective writes: a record stands for each block of an image that a
-- recovery write names, and for no other, and its slot holds what the last of them wrote. (This project's own.)
use Rattle.std.specs.Prelude.{ℕ, ◌≡◌, ◌<◌, Bool, true, List, [], length, Option, Some, IfSome, slice_get, is_some, ◌&&◌, ◌≤◌, ◌∷◌, map, Vec, vec_capacity}
use Rattle.std.specs.declared.alloc.Global.{Global}
use Rattle.write_history.specs.History.{last_bytes, names}
use Rattle.diff_map.specs.Links.{IsIndex}
use Rattle.diff_map.specs.declared.entry.Entry.{Entry}
use Rattle.diff_area.specs.AreaValue.{AreaValue}
use Rattle.diff_area.specs.Format.{place_of_slot, is_free}
use Rattle.diff_area.specs.declared.table_record.Record.{Record}
use Rattle.cow_volume.specs.StandsFor.{GroupValue, record_of}
use Rattle.cow_volume.specs.OneVolume.{StandsForOne, blocks_of, image_sets, tells}
use Rattle.cow_volume.specs.Parts.{copied_for}
use Rattle.vss_recover.specs.Recoveries.{Recovery, Recovering, recovered, IsOfImages}
use Rattle.vss_recover.specs.declared.claim.Claim.{Claim}

pub record RecoverValue (D : Type 0) : Type 0 where
  pub volume : GroupValue D
  -- of one volume of as many blocks; the record of a slot is that of a recovered block of an image
  pub overlay : AreaValue D
  -- the set whose window is open
  pub window : Option ℕ
  pub claims : List Claim
  -- the sets of the standing images whose window was closed
  pub final : List ℕ

-- The overlay has the recovery writes of a volume of n blocks. The first list of blocks is what its device tells.
pub record IsOverlay (slots : Option (List (List ℕ))) (records : List Record) (n : ℕ) (rs : List Recovery) : Type 0 where
  pub named : (slot set b : ℕ) → 0 < set → slice_get records slot ≡ Some (record_of 0 set b) → names (recovered set rs) b ≡ true
  pub recorded : (set b : ℕ) → 0 < set → b < n → names (recovered set rs) b ≡ true → (slot : ℕ) × (slice_get records slot ≡ Some (record_of 0 set b))
  pub copied : (slot set b : ℕ) → 0 < set → slice_get records slot ≡ Some (record_of 0 set b)
      → IfSome slots (λ blocks. slice_get blocks (place_of_slot (length records) slot) ≡ Some (last_bytes b [] (recovered set rs)))

pub record StandsFor {D : Type 0} (told : D → Option (List (List ℕ))) (v : RecoverValue D) (h : Recovering) : Type 0 where
  pub volume : StandsForOne told v.volume h.volume
  pub overlay : IsOverlay (told v.overlay.device) v.overlay.records (blocks_of v.volume) h.recoveries
  pub of_images : IsOfImages (image_sets v.volume) h
  pub window : v.window ≡ h.window
  pub claims : v.claims ≡ h.claims
  pub final : v.final ≡ h.final

-- all its devices tell their blocks
abbrev pub all_tell : {D : Type 0} → (D → Option (List (List ℕ))) → RecoverValue D → Bool
all_tell told v = tells told v.volume && is_some (told v.overlay.device)

-- ## What the fields of a volume with recovery writes keep: the overlay is of its blocks, and there is room for 64 claims and for the sets
-- of 512 images; the overlay keeps an ordered list of its used slots, and a pool in which the others are free. (This project's own.)

pub record KeepsWindow {D : Type 0} (volume : GroupValue D) (overlay : AreaValue D) (window : Option ℕ) (claims : Vec Claim Global) (finals next_finals : Vec ℕ Global) : Type 0 where
  pub fits : overlay.volumes ≡ blocks_of volume ∷ []
  pub above_zero : (set : ℕ) → window ≡ Some set → 0 < set
  pub claim_room : 64 ≤ vec_capacity claims
  pub final_room : 512 ≤ vec_capacity finals
  pub next_room : 512 ≤ vec_capacity next_finals

pub record KeepsOverlay (volumes : List ℕ) (records : List Record) (entries : Vec Entry Global) (pool : List Bool) : Type 0 where
  pub one : length volumes ≡ 1
  pub index : IsIndex entries.items (map (copied_for 0) records)
  pub room : length records ≤ vec_capacity entries
  pub pool_is : pool ≡ map is_free records
