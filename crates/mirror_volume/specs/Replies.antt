-- What a volume with images says to commands, against the history that it stands for: the definition's reply, or a fault of a device,
-- or that no mirror is ready. (This project's own.)
use Rattle.std.specs.Prelude.{ℕ, ◌≡◌, ◌<◌, ◌≤◌, ◌+◌, ◌⊎◌, ◌==◌, Bool, true, false, List, [], ◌∷◌, ◌++◌, length, All, Option, Some, None}
use Rattle.std.specs.List.{list_all}
use Rattle.vss_names.specs.Faults.{Rose}
use Rattle.block_data.specs.BlockBytes.{sha256, run_of}
use Rattle.block_data.specs.declared.block_buf.TheConstants.{BLOCK}
use Rattle.write_history.specs.History.{History, Write as Written, content, point_in, written, dropped, cut}
use Rattle.cow_volume.specs.OneVolume.{without_up_to}
use Rattle.mirror_volume.specs.Contract.{IsEvictedIn}
use Rattle.mirror_volume.specs.declared.command.Command.{Command}
use Rattle.mirror_volume.specs.declared.command.Command.TheVariants.{Write, Read, Cut, Image, Drop}
use Rattle.mirror_volume.specs.declared.said.Said.{Said}
use Rattle.mirror_volume.specs.declared.said.Said.TheVariants.{Ok, Wrote, Bytes, NoSuchImage, NoMirror, Fault}

-- ## which commands may be given

-- the command may be given to a volume of n blocks with images of these sets
abbrev pub IsAllowed : ℕ → List ℕ → Command → Type 0
IsAllowed n sets (Write b x) = b < n
IsAllowed n sets (Read b) = b < n
IsAllowed n sets (Cut set) = (length sets < 512) × (0 < set) × All (λ s. s < set) sets
IsAllowed n sets (Image set b) = b < n
IsAllowed n sets (Drop set) = Unit {0}

-- each block is in range; each cut's set is greater than these sets and those of the cuts before; and there is room for so many cuts
abbrev pub AreAllowed : ℕ → ℕ → ℕ → List Command → Type 0
AreAllowed n newest room [] = Unit {0}
AreAllowed n newest room (Write b x ∷ commands) = (b < n) × AreAllowed n newest room commands
AreAllowed n newest room (Read b ∷ commands) = (b < n) × AreAllowed n newest room commands
AreAllowed n newest room (Cut set ∷ commands) = (left : ℕ) × (room ≡ left + 1) × (newest < set) × AreAllowed n set left commands
AreAllowed n newest room (Image set b ∷ commands) = (b < n) × AreAllowed n newest room commands
AreAllowed n newest room (Drop set ∷ commands) = AreAllowed n newest room commands

-- the commands may be given to a volume of n blocks with images of these sets
pub record MayBeGiven (n : ℕ) (sets : List ℕ) (commands : List Command) : Type 0 where
  pub newest : ℕ
  pub room : ℕ
  pub at_most : All (λ s. s ≤ newest) sets
  pub few : length sets + room ≤ 512
  pub allowed : AreAllowed n newest room commands

-- ## what becomes of the history

abbrev pub fill_of : ℕ → ℕ → Written
fill_of b x = record { block = b; bytes = run_of BLOCK x }

abbrev pub after_write : ℕ → ℕ → Said → History → History
after_write b x (Wrote up_to) h = written (fill_of b x) (without_up_to up_to h)
after_write b x (Fault up_to) h = without_up_to up_to h
after_write b x _ h = h

abbrev pub after_cut : ℕ → Said → History → History
after_cut set Ok h = cut set h
after_cut set _ h = h

abbrev pub after_drop : ℕ → Said → History → History
after_drop set Ok h = dropped set h
after_drop set _ h = h

-- the history after a command and what was said to it
abbrev pub after : History → Command → Said → History
after h (Write b x) said = after_write b x said h
after h (Read b) said = h
after h (Cut set) said = after_cut set said h
after h (Image set b) said = h
after h (Drop set) said = after_drop set said h

-- the history after commands and what was said to them
abbrev pub after_all : History → List Command → List Said → History
after_all h [] said = h
after_all h (c ∷ commands) [] = h
after_all h (c ∷ commands) (s ∷ said) = after_all (after h c s) commands said

-- ## what is said to one command

-- what of a volume never changes: its number of blocks, the slots for the copies that its images need (none where they need no copies),
-- and how many of the cuts that it is ready for one cut uses up, at most
pub record Kind : Type 0 where
  pub blocks : ℕ
  pub slots : Option ℕ
  pub per_cut : ℕ

abbrev pub kind_of : {V : Type 0} → (V → ℕ) → (V → Option ℕ) → ℕ → V → Kind
kind_of size slots per_cut v = record { blocks = size v; slots = slots v; per_cut = per_cut }

-- to a write of block b, for which images go; `rose` says that the count of faults rose
abbrev pub IsWriteReply : Kind → History → ℕ → Type 0 → Said → Type 0
IsWriteReply kind h b rose (Wrote up_to) = IsEvictedIn kind.slots kind.blocks b h up_to
IsWriteReply kind h b rose (Fault up_to) = IsEvictedIn kind.slots kind.blocks b h up_to × rose
IsWriteReply kind h b rose _ = ⊥

-- to a read of these bytes, which are known where the volume tells
abbrev pub IsReadReply : Bool → List ℕ → Type 0 → Said → Type 0
IsReadReply tells bytes rose (Bytes digest) = tells ≡ true → digest ≡ sha256 bytes
IsReadReply tells bytes rose (Fault up_to) = (up_to ≡ 0) × rose
IsReadReply tells bytes rose _ = ⊥

-- to a cut of a volume that is ready for so many
abbrev pub IsCutReply : ℕ → Said → Type 0
IsCutReply ready Ok = 0 < ready
IsCutReply ready NoMirror = ready ≡ 0
IsCutReply ready _ = ⊥

-- to a read of an image that stands at this point, or of none
abbrev pub IsImageReply : Bool → History → ℕ → Option ℕ → Type 0 → Said → Type 0
IsImageReply tells h b (Some p) rose said = IsReadReply tells (content h.writes p b) rose said
IsImageReply tells h b None rose said = said ≡ NoSuchImage

-- to a drop of an image that stands, or of none
abbrev pub IsDropReply : Option ℕ → Said → Type 0
IsDropReply (Some p) said = said ≡ Ok
IsDropReply None said = said ≡ NoSuchImage

abbrev pub IsReply : Kind → Bool → History → ℕ → Type 0 → Command → Said → Type 0
IsReply kind tells h ready rose (Write b x) said = IsWriteReply kind h b rose said
IsReply kind tells h ready rose (Read b) said = IsReadReply tells (content h.writes (length h.writes) b) rose said
IsReply kind tells h ready rose (Cut set) said = IsCutReply ready said
IsReply kind tells h ready rose (Image set b) said = IsImageReply tells h b (point_in set h.images) rose said
IsReply kind tells h ready rose (Drop set) said = IsDropReply (point_in set h.images) said

-- how many of the cuts that a volume is ready for a command uses up, at most
abbrev pub used_up : ℕ → Command → Said → ℕ
used_up per_cut (Cut set) Ok = per_cut
used_up per_cut c said = 0

-- the volume went from being ready for so many cuts, with this count of faults, to these
pub record IsStep (kind : Kind) (tells : Bool) (h : History) (c : Command) (said : Said) (ready count now_ready now_count : ℕ) : Type 0 where
  pub reply : IsReply kind tells h ready (Rose count now_count) c said
  pub later : count ≤ now_count
  pub ready_is : (ready ≤ now_ready + used_up kind.per_cut c said) ⊎ Rose count now_count

-- ## what is said to a list of commands

abbrev pub IsRun : Kind → Bool → History → ℕ → ℕ → List Command → List Said → ℕ → ℕ → Type 0
IsRun kind tells h ready count [] [] now_ready now_count = (now_ready ≡ ready) × (now_count ≡ count)
IsRun kind tells h ready count [] (s ∷ said) now_ready now_count = ⊥
IsRun kind tells h ready count (c ∷ commands) [] now_ready now_count = ⊥
IsRun kind tells h ready count (c ∷ commands) (s ∷ said) now_ready now_count =
    (then_ready : ℕ) × (then_count : ℕ) × IsStep kind tells h c s ready count then_ready then_count × IsRun kind tells (after h c s) then_ready then_count commands said now_ready now_count

-- ## the definition's replies

abbrev pub image_reply : History → ℕ → Option ℕ → Said
image_reply h b (Some p) = Bytes (sha256 (content h.writes p b))
image_reply h b None = NoSuchImage

abbrev pub drop_reply : Option ℕ → Said
drop_reply (Some p) = Ok
drop_reply None = NoSuchImage

-- what is said where no device fails, no image is evicted and no cut refused
abbrev pub reply_of : History → Command → Said
reply_of h (Write b x) = Wrote 0
reply_of h (Read b) = Bytes (sha256 (content h.writes (length h.writes) b))
reply_of h (Cut set) = Ok
reply_of h (Image set b) = image_reply h b (point_in set h.images)
reply_of h (Drop set) = drop_reply (point_in set h.images)

abbrev pub replies_of : History → List Command → List Said
replies_of h [] = []
replies_of h (c ∷ commands) = reply_of h c ∷ replies_of (after h c (reply_of h c)) commands

-- no device failed, no image was evicted, no cut refused
abbrev pub is_plain : Said → Bool
is_plain (Wrote up_to) = up_to == 0
is_plain (Fault up_to) = false
is_plain NoMirror = false
is_plain _ = true

abbrev pub are_plain : List Said → Bool
are_plain said = list_all is_plain said

-- how many of the cuts that a volume is ready for these commands use up, at most: so many for each cut that was made
abbrev pub used_by_all : ℕ → List Command → List Said → ℕ
used_by_all per_cut [] said = 0
used_by_all per_cut (c ∷ commands) [] = 0
used_by_all per_cut (c ∷ commands) (s ∷ said) = used_up per_cut c s + used_by_all per_cut commands said

-- a volume that was ready for so many cuts is ready for none after these commands: their cuts used them up, or the count of faults rose
-- in one of these commands
abbrev pub AreUsedUp : Kind → Bool → History → ℕ → ℕ → List Command → List Said → Type 0
AreUsedUp kind tells h ready count commands said = (then_count : ℕ) × IsRun kind tells h ready count commands said 0 then_count
    × ((ready ≤ used_by_all kind.per_cut commands said) ⊎ Rose count then_count)

-- these commands, and then a cut that is refused, and others
pub record IsRefused (kind : Kind) (tells : Bool) (h : History) (ready count : ℕ) (commands : List Command) (said : List Said) : Type 0 where
  pub set : ℕ
  pub later : List Command
  pub more : List Said
  pub now_ready : ℕ
  pub now_count : ℕ
  pub long : length said ≡ length commands
  pub run : IsRun kind tells h ready count (commands ++ Cut set ∷ later) (said ++ NoMirror ∷ more) now_ready now_count
