-- The copies that an area keeps, that they never need more slots than it has, and what `properties` tells of a kept image.
use Rattle.std.specs.List.{list_any, range_with_len}
use Rattle.std.specs.Prelude.{ℕ, ◌≡◌, ◌+◌, ◌<◌, ◌==◌, ◌&&◌, ◌||◌, not, nat_lt, nat_le, zero, suc, drop, if◌then◌else◌, Bool, true, false, List, [], ◌∷◌, Some}
use Rattle.std.specs.Prelude.{All, slice_get, ◌≤◌, length, filter, None, is_some}
use Rattle.vss_names.specs.declared.vss_result.VssResult.TheVariants.{ObjectNotFound}
use Rattle.write_history.specs.History.{Write, Image, point_in, History}
use Rattle.write_history.specs.Slots.{Placed, Copy, copies}
use Rattle.scenario.specs.Bounds.{IsPlan}
use Rattle.scenario.specs.Plan.{Plan, blocks_of, group_of, slots_of}
use Rattle.scenario.specs.declared.op.Op.TheVariants.{Properties}
use Rattle.vss_model.specs.Acts.{Act, state, reply}
use Rattle.vss_model.specs.Cut.{cut}
use Rattle.vss_model.specs.Reply.{Reply, Coded, PropertiesOf}
use Rattle.vss_model.specs.State.{history_of, SetRow, row_of, kept_image}
use Rattle.vss_model.specs.declared.event.Event.TheVariants.{Line}
use Rattle.promises.specs.Contents.{block_now}
use Rattle.promises.specs.Gone.{stands, within}

-- ## The copies that an area keeps: one, and no more, of each block of the images that stand on the volumes of its group that was overwritten
-- after the image's cut, and before that of the next; and it holds the block as it was at the one cut of its set. (That overwritten blocks
-- are copied is the SDK's; areas shared by groups are this project's own.)

-- the number of volume u among those of a group, which are numbered from k on
abbrev pub place_from : ℕ → List Placed → ℕ → ℕ
place_from k [] u = k
place_from k (p ∷ ps) zero = k
place_from k (p ∷ ps) (suc u) = place_from (if p.within then k + 1 else k) ps u

pub record HoldsTheCut (s : Plan) (so_far : List Act) (group : List Placed) (c : Copy) : Type 0 where
  pub volume : ℕ
  pub of_group : within (slice_get group volume) ≡ true
  pub place : place_from 0 group volume ≡ c.volume
  pub stands_there : stands (state s so_far) c.set volume ≡ true
  pub before : List Act
  pub is_cut : cut s c.set so_far ≡ Some before
  pub holds : c.bytes ≡ block_now (state s before) volume c.block

-- of each copy in the area of the group of volume v
abbrev pub CopiesHold : Plan → List Act → Type 0
CopiesHold s so_far = (v : ℕ) → All (HoldsTheCut s so_far (group_of s v)) (copies (group_of s v) (state s so_far).volumes)

-- ## which copies

-- when so many writes were made, an image of a set after n had been cut
abbrev pub is_cut_by : ℕ → ℕ → List Image → Bool
is_cut_by n i images = list_any (λ x. nat_lt n x.set && nat_le x.point i) images

-- of these writes, which are those from number i on, one is to block b, and no image of a set after n had been cut before it
abbrev pub is_overwritten : ℕ → ℕ → List Image → ℕ → List Write → Bool
is_overwritten n b images i [] = false
is_overwritten n b images i (w ∷ ws) = ((w.block == b) && not (is_cut_by n i images)) || is_overwritten n b images (i + 1) ws

abbrev pub is_copy : ℕ → ℕ → ℕ → Copy → Bool
is_copy u n b c = (c.volume == u) && (c.set == n) && (c.block == b)

-- none of the same block of the same image comes twice
abbrev pub are_once : List Copy → Bool
are_once [] = true
are_once (c ∷ cs) = not (list_any (is_copy c.volume c.set c.block) cs) && are_once cs

-- in the area of the group of volume v
pub record KeepsCopies (s : Plan) (so_far : List Act) : Type 0 where
  -- of block b of the image of set n that stands on volume u there is a copy, exactly if b was overwritten since its cut, at p writes
  pub exactly : (v u n b p : ℕ) → within (slice_get (group_of s v) u) ≡ true → b < blocks_of s u → point_in n (history_of (state s so_far) u).images ≡ Some p
      → list_any (is_copy (place_from 0 (group_of s v) u) n b) (copies (group_of s v) (state s so_far).volumes)
      ≡ is_overwritten n b (history_of (state s so_far) u).images p (drop p (history_of (state s so_far) u).writes)
  pub once : (v : ℕ) → are_once (copies (group_of s v) (state s so_far).volumes) ≡ true

-- ## An area never needs more slots than it has: no more copies than that are to be kept for the images of its group. (That copies are kept in a
-- space of a given size is the SDK's; sharing by groups is this project's own.)

-- in a plan as a scenario's text gives it, where the volumes of a group all name the group's slots
abbrev pub SlotsSuffice : Plan → List Act → Type 0
SlotsSuffice s so_far = IsPlan s → (v : ℕ) → length (copies (group_of s v) (state s so_far).volumes) ≤ slots_of s v

-- ## What `properties` tells of a kept image: the context of its set, the clock at the set's one cut, and the slots of its group that the
-- image uses, one for each block of its volume that was overwritten since its cut and before the next image's. (The call is the SDK's
-- GetSnapshotProperties; what it tells is this project's own.)

-- how many of the first k blocks were overwritten since this point, the image's of set n, and before the next image's
abbrev pub overwritten : ℕ → ℕ → ℕ → History → ℕ
overwritten k n p h = length (filter (λ b. is_overwritten n b h.images p (drop p h.writes)) (range_with_len 0 k))

pub record TellsTheImage (s : Plan) (so_far : List Act) (n v : ℕ) (told : Reply) : Type 0 where
  pub set : SetRow
  pub is_set : row_of (state s so_far) n ≡ Some set
  pub before : List Act
  pub is_cut : cut s n so_far ≡ Some before
  pub slots : ℕ
  pub point : ℕ
  pub is_point : point_in n (history_of (state s so_far) v).images ≡ Some point
  pub uses : slots ≡ overwritten (blocks_of s v) n point (history_of (state s so_far) v)
  pub tells : told ≡ PropertiesOf set.context (state s before).clock slots

pub record PropertiesTell (s : Plan) (so_far : List Act) (act : Act) : Type 0 where
  pub image : (lane n v : ℕ) → act.event ≡ Line lane (Properties n v) → is_some (kept_image (state s so_far) n v) ≡ true → TellsTheImage s so_far n v (reply s (state s so_far) act)
  pub no_image : (lane n v : ℕ) → act.event ≡ Line lane (Properties n v) → kept_image (state s so_far) n v ≡ None → reply s (state s so_far) act ≡ Coded ObjectNotFound
