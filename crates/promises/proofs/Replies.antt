-- Replies and closing lines tell what stands, and the set that ends is told.
use Rattle.std.proofs.Common.{◌≡◌, ◌∙◌, ℕ, ◌==◌, List, [], ◌∷◌, Option, Some, None, refl, Bool, true, false, ap, map, filter, arith, length, ◌+◌, ◌≤◌}
use Rattle.std.proofs.Common.{◌++◌, subst}
use Rattle.std.specs.Prelude.{◌&&◌, is_some, not, find}
use Rattle.promises.specs.Replies.{ClosesAsKept}
use Rattle.promises.specs.Ends.{TellsTheEnd}
use Rattle.promises.proofs.Participants.{off}
use Rattle.promises.proofs.Words.{range_with_len, Mark, Clean, Image, AreLater, AreInTime, content, point_in, sets_of, is_among, Op, ImageDigest}
use Rattle.promises.proofs.Words.{ImageBlock, Query, Plan, blocks_of, Line, BlockOf, BlocksOf, State, SetRow, Kept, history_of, is_kept_set, kept, kept_of}
use Rattle.promises.proofs.Words.{kept_image, image_block, image_blocks, line, Act, happens, reply_is, reply, state, ReadsAsAtTheCut, reads_as_at_cut}
use Rattle.promises.proofs.Words.{block_now, images_in_time, IsBelow, AreRising, TellsTheCut, RepliesTell, Fault, Faulted, number_is, Write, copies_of, copy_of}
use Rattle.promises.proofs.Words.{length-map, named, used, length-append, is_running, NumberedFrom, after, orderly, some_same, ended_of, state-append}

-- ## Replies tell what stands.

-- ## the point of a kept image

pub point_of : (row : Option SetRow) (o : Option ℕ) (k : Kept) → kept_of row o ≡ Some k → o ≡ Some k.point
point_of row o k e = grind arith

-- a kept image reads as the volume at the cut
pub at_the_cut : (s : Plan) (so_far : List Act) (n v : ℕ) (k : Kept) → kept_image (state s so_far) n v ≡ Some k → ReadsAsAtTheCut s so_far n v k.point
at_the_cut s so_far n v k e = grind (arith, reads_as_at_cut, point_of)

map_along : {X : Type 0} (f g : ℕ → X) → ((n : ℕ) → f n ≡ g n) → (ns : List ℕ) → map f ns ≡ map g ns
map_along f g e ns = grind arith

-- ## the sets that are listed

below_listed : (test : Image → Bool) (i : Image) (images : List Image) → AreLater i images → IsBelow i.set (sets_of (filter test images))
below_listed test i [] h = tt
below_listed test i (j ∷ images) h = grind (arith, below_listed test i images h.2)

rising_listed : (test : Image → Bool) (most : ℕ) (images : List Image) → AreInTime most images → AreRising (sets_of (filter test images))
rising_listed test most [] h = tt
rising_listed test most (i ∷ images) h = grind (arith, below_listed, rising_listed test most images h.2)

listed : (st : State) (n : ℕ) (images : List Image) → is_among n (sets_of (filter (λ i. is_kept_set st i.set) images)) ≡ (is_kept_set st n && is_some (point_in n images))
listed st n [] = off (is_kept_set st n)
listed st n (i ∷ images) = grind (arith, number_is, listed st n images)

-- ## every reply

module _ (s : Plan) (so_far : List Act) (act : Act) where
  abbrev st : State
  st = state s so_far

  told : (lane : ℕ) (op : Op) (mark : Mark) → act.event ≡ Line lane op → act.mark ≡ mark → reply s st act ≡ (line s lane op mark st).0
  told lane op mark e f = reply_is s st act ∙ ap (λ x. (happens s x act.mark st).0) e ∙ ap (λ m. (line s lane op m st).0) f

  block_told : (lane n v b : ℕ) (o : Option Kept) → kept_image st n v ≡ o → is_some o ≡ true → act.event ≡ Line lane (ImageBlock n v b) → act.mark ≡ Clean
      → TellsTheCut s so_far n (reply s st act) (λ before. BlockOf v (block_now (state s before) v b))
  block_told lane n v b None e f g h = absurd cc
  block_told lane n v b (Some k) e f g h =
      let cut = at_the_cut s so_far n v k e in
      record {
        before = cut.before;
        is_cut = cut.is_cut;
        tells = told lane (ImageBlock n v b) Clean g h ∙ ap (λ o. (image_block v b o Clean st).0) e ∙ ap (BlockOf v) (cut.reads b);
      }

  image_told : (lane n v : ℕ) (o : Option Kept) → kept_image st n v ≡ o → is_some o ≡ true → act.event ≡ Line lane (ImageDigest n v) → act.mark ≡ Clean
      → TellsTheCut s so_far n (reply s st act) (λ before. BlocksOf v (map (block_now (state s before) v) (range_with_len 0 (blocks_of s v))))
  image_told lane n v None e f g h = absurd cc
  image_told lane n v (Some k) e f g h =
      let cut = at_the_cut s so_far n v k e in
      record {
        before = cut.before;
        is_cut = cut.is_cut;
        tells = told lane (ImageDigest n v) Clean g h ∙ ap (λ o. (image_blocks s v o Clean st).0) e
            ∙ ap (BlocksOf v) (map_along (content (history_of st v).writes k.point) (block_now (state s cut.before) v) cut.reads (range_with_len 0 (blocks_of s v)));
      }

  block_failed : (lane n v b : ℕ) (o : Option Kept) → kept_image st n v ≡ o → is_some o ≡ true → act.event ≡ Line lane (ImageBlock n v b) → act.mark ≡ Fault → reply s st act ≡ Faulted
  block_failed lane n v b o e f g h = grind (arith, told)

  image_failed : (lane n v : ℕ) (o : Option Kept) → kept_image st n v ≡ o → is_some o ≡ true → act.event ≡ Line lane (ImageDigest n v) → act.mark ≡ Fault → reply s st act ≡ Faulted
  image_failed lane n v o e f g h = grind (arith, told)

pub replies_tell : (s : Plan) (so_far : List Act) (act : Act) → RepliesTell s so_far act
replies_tell s so_far act = grind (arith, told, block_told, image_told, block_failed, image_failed, listed, rising_listed, images_in_time)

-- ## The slots and the images of the closing lines.

as_many : (k n : ℕ) (ws : List Write) (images : List Image) → used n ws images ≡ length (copies_of k n ws images)
as_many k n ws [] = refl
as_many k n ws (i ∷ newer) =
    let rest = as_many k n ws newer in
    let both = length-append (map (copy_of k ws i) (named n ws i newer)) (copies_of k n ws newer) in
    let own = length-map (named n ws i newer) (copy_of k ws i) in
    omega arith

abbrev asked : ℕ → Act
asked v = record { event = Line 0 (Query v); mark = Clean }

pub closes_as_kept : (s : Plan) (so_far : List Act) → ClosesAsKept s so_far
closes_as_kept s so_far = record { slots = λ v k. as_many k _ _ _; images = λ v. (replies_tell s so_far (asked v)).sets 0 v refl }

-- ## The set that ends is told, and no other.

abbrev is_over : ℕ → SetRow → Bool
is_over n q = (q.number == n) && not (is_running q.result)

-- the row of the set is over
row_over : (n : ℕ) (q : SetRow) (rows : List SetRow) → find (λ (r : SetRow). r.number == n) rows ≡ Some q → is_running q.result ≡ false → find (is_over n) rows ≡ Some q
row_over n q [] e f = absurd cc
row_over n q (r ∷ rows) e f = grind (arith, some_same, λ (g : find (λ (r : SetRow). r.number == n) rows ≡ Some q). row_over n q rows g f)

-- no row of a higher number is that of set n
none_above : (n k : ℕ) (rows : List SetRow) → NumberedFrom k rows → n + 1 ≤ k → find (is_over n) rows ≡ None
none_above n k [] h l = refl
none_above n k (r ∷ rows) h l = grind (arith, none_above n (k + 1) rows h.1 (omega arith))

-- the row of the set is not over
row_runs : (n k : ℕ) (q : SetRow) (rows : List SetRow) → NumberedFrom k rows → find (λ (r : SetRow). r.number == n) rows ≡ Some q → is_running q.result ≡ true → find (is_over n) rows ≡ None
row_runs n k q [] h e f = absurd cc
row_runs n k q (r ∷ rows) h e f = grind (arith, some_same, number_is, none_above, λ (g : find (λ (r : SetRow). r.number == n) rows ≡ Some q). row_runs n (k + 1) q rows h.1 g f)

pub tells_the_end : (s : Plan) (so_far : List Act) (act : Act) → TellsTheEnd s so_far act
tells_the_end s so_far act =
    let st = state s so_far in
    let later = after s st act in
    record {
      over = λ r q e f g. ap (λ o. ended_of o later.sets) e ∙ row_over r.number q later.sets f g;
      goes_on = λ r q e f g. ap (λ o. ended_of o later.sets) e
          ∙ row_runs r.number 1 q later.sets (subst (λ (x : State). NumberedFrom 1 x.sets) (state-append s so_far act) (orderly s (so_far ++ act ∷ [])).numbered) f g;
      no_other = λ e. ap (λ o. ended_of o later.sets) e;
    }
