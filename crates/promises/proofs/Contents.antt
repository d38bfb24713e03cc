-- What changes the contents of a volume, and that each copy holds its block as it was at the cut of its set.
use Rattle.std.proofs.Common.{◌≡◌, ◌∙◌, ℕ, ◌==◌, zero, suc, List, [], ◌∷◌, ◌++◌, Some, None, refl, Bool, true, false, ◌<◌, ap, sym, subst, length, take, arith}
use Rattle.std.proofs.Common.{map, ◌+◌, Option}
use Rattle.std.specs.Prelude.{◌&&◌, if◌then◌else◌, slice_get, All}
use Rattle.scenario.specs.declared.op.Op.TheVariants as op
use Rattle.vss_model.specs.Changes.{Writes}
use Rattle.promises.proofs.Members.{same_number}
use Rattle.promises.proofs.Words.{payload_bytes, zeros, Mark, Clean, FaultAfter, Write, History, last_bytes, content, written, to_restore, is_among, does, Plan}
use Rattle.promises.proofs.Words.{blocks_of, Event, Line, State, Kept, history_of, kept_image, Act, enabled, happens, after, state, as_many_volumes, at}
use Rattle.promises.proofs.Words.{as_many_map, as_many_gone, block_now, may_change, ContentsChange, after_enabled, all_taken, change_at, revert_refusal}
use Rattle.promises.proofs.Words.{Replied, write, reverted_as, revert, Change, Reverts, RevertsPart, apply, IsRevert, Comes, by_changes, rewrites, same_writes}
use Rattle.promises.proofs.Words.{take-length, restoring, number_is, All-nil, All-cons, All-append, Image, point_in, AreLater, AreInTime, Placed, Copy, copy_of}
use Rattle.promises.proofs.Words.{named, copies_of, copies_from, cut, image_shown, image_reads, images_in_time, place_from, HoldsTheCut, CopiesHold, within}

-- ## What changes the contents of a volume.

-- ## what stands in a block after some blocks were brought back

last_append : (b : ℕ) (before : List ℕ) (ws us : List Write) → last_bytes b before (ws ++ us) ≡ last_bytes b (last_bytes b before ws) us
last_append b before [] us = refl
last_append b before (w ∷ ws) us = last_append b (if w.block == b then w.bytes else before) ws us

last_restored : (ws : List Write) (point b : ℕ) (bs : List ℕ) (before : List ℕ) → last_bytes b before (map (restoring ws point) bs) ≡ (if is_among b bs then content ws point b else before)
last_restored ws point b [] before = refl
last_restored ws point b (c ∷ bs) before = grind (arith, number_is, last_restored ws point b bs (if c == b then content ws point c else before))

-- these blocks are written once more as they were at a point, and the others stay
pub some_restored : (ws : List Write) (point b : ℕ) (bs : List ℕ) → content (ws ++ map (restoring ws point) bs) (length (ws ++ map (restoring ws point) bs)) b
    ≡ (if is_among b bs then content ws point b else content ws (length ws) b)
some_restored ws point b bs = grind (arith, take-length, last_append, last_restored)

-- ## one block

last_other : (b : ℕ) (before : List ℕ) (ws : List Write) (w : Write) → (w.block == b) ≡ false → last_bytes b before (ws ++ w ∷ []) ≡ last_bytes b before ws
last_other b before [] w e = ap (λ t. if t then w.bytes else before) e
last_other b before (x ∷ ws) w e = last_other b (if x.block == b then x.bytes else before) ws w e

now_is : (ws : List Write) (b : ℕ) → content ws (length ws) b ≡ last_bytes b zeros ws
now_is ws b = ap (last_bytes b zeros) (all_taken ws)

other_block : (ws : List Write) (w : Write) (b : ℕ) → (w.block == b) ≡ false → content (ws ++ w ∷ []) (length (ws ++ w ∷ [])) b ≡ content ws (length ws) b
other_block ws w b e = now_is (ws ++ w ∷ []) b ∙ last_other b zeros ws w e ∙ sym (now_is ws b)

-- ## every act

module _ (s : Plan) (st : State) (v b : ℕ) where
  abbrev block_in : List History → List ℕ
  block_in hs = content (at hs v).writes (length (at hs v).writes) b

  abbrev Stays : List History → Type 0
  Stays hs = block_in hs ≡ block_in st.volumes

  by_writes : (c : Change) (x : State) → rewrites v c ≡ false → Stays x.volumes → Stays (apply x c).volumes
  by_writes c x e h = ap (λ ws. content ws (length ws) b) (same_writes v c x e) ∙ h

  written_at : (w : Write) (u : ℕ) (hs : List History) (v : ℕ) → (w.block == b) ≡ false
      → content (at (change_at u (written w) hs) v).writes (length (at (change_at u (written w) hs) v).writes) b
      ≡ content (at hs v).writes (length (at hs v).writes) b
  written_at w u [] v e = refl
  written_at w zero (x ∷ hs) zero e = other_block x.writes w b e
  written_at w zero (x ∷ hs) (suc v) e = refl
  written_at w (suc u) (x ∷ hs) zero e = refl
  written_at w (suc u) (x ∷ hs) (suc v) e = written_at w u hs v e

  -- a write to another volume, or of another block
  stay_written : (u : ℕ) (w : Write) (x : State) (c : Bool) → (u == v) ≡ c → ((u == v) && (w.block == b)) ≡ false → Stays x.volumes → Stays (apply x (Writes u w)).volumes
  stay_written u w x true f g h = written_at w u x.volumes v (ap (λ c. c && (w.block == b)) (sym f) ∙ g) ∙ h
  stay_written u w x false f g h = by_writes (Writes u w) x f h

  other_revert : (e : Event) (m : Mark) (u n p : ℕ) → IsRevert e st u n p → may_change v b e m ≡ false → (u == v) ≡ false
  other_revert e m u n p i g = ap (λ y. may_change v b y m) (sym i.event) ∙ g

  stays : (e : Event) (m : Mark) → may_change v b e m ≡ false → (c : Change) (x : State) → Comes s e m st x c → Stays x.volumes → Stays (apply x c).volumes
  stays e m g (Writes u w) x i h = stay_written u w x (u == v) refl (grind arith) h
  stays e m g (Reverts u n p) x i h = by_writes (Reverts u n p) x (other_revert e m u n p i.0 g) h
  stays e m g (RevertsPart u blocks n p k) x i h = by_writes (RevertsPart u blocks n p k) x (other_revert e m u n p i.0 g) h
  stays e m g c x i h = by_writes c x refl h

  pub contents_kept : (act : Act) → may_change v b act.event act.mark ≡ false → Stays (after s st act).volumes
  contents_kept act g = by_changes (λ x. Stays x.volumes) s st act (stays act.event act.mark g) refl

-- ## what a write and a revert bring

changed_here : (f : History → History) (v : ℕ) (hs : List History) → v < length hs → at (change_at v f hs) v ≡ f (at hs v)
changed_here f v [] l = grind arith
changed_here f zero (h ∷ hs) l = refl
changed_here f (suc v) (h ∷ hs) l = grind (arith, changed_here f v hs (grind arith))

last_own : (b : ℕ) (before : List ℕ) (ws : List Write) (w : Write) → (w.block == b) ≡ true → last_bytes b before (ws ++ w ∷ []) ≡ w.bytes
last_own b before [] w e = ap (λ t. if t then w.bytes else before) e
last_own b before (x ∷ ws) w e = last_own b (if x.block == b then x.bytes else before) ws w e

own_block : (ws : List Write) (w : Write) → content (ws ++ w ∷ []) (length (ws ++ w ∷ [])) w.block ≡ w.bytes
own_block ws w = now_is (ws ++ w ∷ []) w.block ∙ last_own w.block zeros ws w (same_number w.block)

module _ (s : Plan) (st : State) where
  write_brings : (v : ℕ) (w : Write) (mark : Mark) → mark ≡ Clean → v < length st.volumes → block_now (write s v w mark st).1 v w.block ≡ w.bytes
  unfolding write
  write_brings v w mark e l = grind (arith, as_many_map, as_many_gone, changed_here, own_block)

  revert_brings : (v b : ℕ) (k : Kept) (mark : Mark) → mark ≡ Clean → v < length st.volumes → block_now (reverted_as s v k mark st).1 v b ≡ content (history_of st v).writes k.point b
  revert_brings v b k mark e l = grind (arith, changed_here, now_is)

  stop_brings : (v b j : ℕ) (k : Kept) (mark : Mark) → mark ≡ FaultAfter j → v < length st.volumes → block_now (reverted_as s v k mark st).1 v b
      ≡ (if is_among b (take j (to_restore (blocks_of s v) (history_of st v).writes k.point)) then content (history_of st v).writes k.point b
      else block_now st v b)
  stop_brings v b j k mark e l = grind (arith, changed_here, some_restored)

  revert_is : (n v : ℕ) (k : Kept) (mark : Mark) → kept_image st n v ≡ Some k → revert_refusal v (Some k) st ≡ None → revert s n v mark st ≡ reverted_as s v k mark st
  unfolding revert
  revert_is n v k mark e f = grind arith

  after_line : (act : Act) (event : Event) → act.event ≡ event → enabled s st act.event ≡ true → after s st act ≡ (happens s event act.mark st).1
  after_line act event e on = after_enabled s st act on ∙ ap (λ x. (happens s x act.mark st).1) e

pub contents_change : (s : Plan) (so_far : List Act) (act : Act) → ContentsChange s so_far act
contents_change s so_far act =
    let st = state s so_far in
    let many : (v : ℕ) → v < length s.volumes → v < length st.volumes = λ v l. subst (λ n. v < n) (sym (as_many_volumes s so_far)) l in
    record {
      stay = λ v b g. contents_kept s st v b act g;
      wrote = λ lane v b o payload e is m on l.
          ap (λ (y : State). block_now y v b) (after_line s st act (Line lane o) e on ∙ ap (λ d. (does s lane o d act.mark st).1) is)
          ∙ write_brings s st v (record { block = b; bytes = payload_bytes payload }) act.mark m (many v l);
      reverted = λ lane n v b k e m h i l.
          ap (λ (y : State). block_now y v b)
          (after_line s st act (Line lane (op.Revert n v)) e (ap (enabled s st) e) ∙ ap (λ (y : Replied). y.1) (revert_is s st n v k act.mark h i))
          ∙ revert_brings s st v b k act.mark m (many v l);
      stopped = λ lane n v b j k e m h i l.
          ap (λ (y : State). block_now y v b)
          (after_line s st act (Line lane (op.Revert n v)) e (ap (enabled s st) e) ∙ ap (λ (y : Replied). y.1) (revert_is s st n v k act.mark h i))
          ∙ stop_brings s st v b j k act.mark m (many v l);
    }

-- ## Each copy holds its block as it was at the cut of its set.

-- ## the copies of a volume

-- the copy is of one of these images, and holds its block as it was at the image's point
record IsOfImage (u : ℕ) (ws : List Write) (images : List Image) (c : Copy) : Type 0 where
  volume : u ≡ c.volume
  point : ℕ
  is : point_in c.set images ≡ Some point
  holds : c.bytes ≡ content ws point c.block

later_point : (b : Bool) (p : ℕ) (o : Option ℕ) → b ≡ false → (if b then Some p else o) ≡ o
later_point b p o e = grind arith

-- a later image is of a later set
pub later_set : (i : Image) (m p : ℕ) (images : List Image) → AreLater i images → point_in m images ≡ Some p → (i.set == m) ≡ false
later_set i m p [] h e = absurd cc
later_set i m p (j ∷ images) h e = grind (arith, later_set i m p images h.2)

own_copies : (u : ℕ) (ws : List Write) (i : Image) (newer : List Image) (bs : List ℕ) → All (IsOfImage u ws (i ∷ newer)) (map (copy_of u ws i) bs)
own_copies u ws i newer [] = All-nil (IsOfImage u ws (i ∷ newer))
own_copies u ws i newer (b ∷ bs) =
    All-cons (IsOfImage u ws (i ∷ newer)) (copy_of u ws i b) (map (copy_of u ws i) bs)
    (record { volume = refl; point = i.point; is = grind (arith, same_number i.set); holds = refl })
    (own_copies u ws i newer bs)

all_along : (P Q : Copy → Type 0) (cs : List Copy) → ((c : Copy) → P c → Q c) → All P cs → All Q cs
all_along P Q cs f h k d l = f _ (h k d l)

copies_in : (u n most : ℕ) (ws : List Write) (images : List Image) → AreInTime most images → All (IsOfImage u ws images) (copies_of u n ws images)
copies_in u n most ws [] t = All-nil (IsOfImage u ws [])
copies_in u n most ws (i ∷ newer) t =
    All-append (IsOfImage u ws (i ∷ newer)) (map (copy_of u ws i) (named n ws i newer)) (copies_of u n ws newer) (own_copies u ws i newer (named n ws i newer))
    (all_along (IsOfImage u ws newer) (IsOfImage u ws (i ∷ newer)) (copies_of u n ws newer)
    (λ c h. record {
      volume = h.volume;
      point = h.point;
      is = later_point (i.set == c.set) i.point (point_in c.set newer) (later_set i c.set h.point newer t.1 h.is) ∙ h.is;
      holds = h.holds;
    }) (copies_in u n most ws newer t.2))

-- ## the copies of a group

record IsInGroup (u : ℕ) (ps : List Placed) (hs : List History) (c : Copy) : Type 0 where
  volume : ℕ
  place : place_from u ps volume ≡ c.volume
  of_group : within (slice_get ps volume) ≡ true
  own : ℕ
  image : IsOfImage own (at hs volume).writes (at hs volume).images c

abbrev pub InTimeAll : List History → Type 0
InTimeAll hs = (v : ℕ) → AreInTime (length (at hs v).writes) (at hs v).images

one_later : (u : ℕ) (p : Placed) (ps : List Placed) (h : History) (hs : List History) (c : Copy) → IsInGroup (if p.within then u + 1 else u) ps hs c → IsInGroup u (p ∷ ps) (h ∷ hs) c
one_later u p ps h hs c i = record { volume = suc i.volume; place = i.place; of_group = i.of_group; own = i.own; image = i.image }

in_group : (u : ℕ) (ps : List Placed) (hs : List History) → InTimeAll hs → All (IsInGroup u ps hs) (copies_from u ps hs)
in_group u [] hs t = All-nil (IsInGroup u [] hs)
in_group u (p ∷ ps) [] t = All-nil (IsInGroup u (p ∷ ps) [])
in_group u (p ∷ ps) (h ∷ hs) t = by_group p.within refl (λ k. in_group k ps hs (λ v. t (suc v))) where
  by_group : (b : Bool) → p.within ≡ b → ((k : ℕ) → All (IsInGroup k ps hs) (copies_from k ps hs))
      → All (IsInGroup u (p ∷ ps) (h ∷ hs)) (if b then copies_of u p.blocks h.writes h.images ++ copies_from (u + 1) ps hs else copies_from u ps hs)
  by_group true e rest =
      All-append (IsInGroup u (p ∷ ps) (h ∷ hs)) (copies_of u p.blocks h.writes h.images) (copies_from (u + 1) ps hs)
      (all_along (IsOfImage u h.writes h.images) (IsInGroup u (p ∷ ps) (h ∷ hs)) (copies_of u p.blocks h.writes h.images)
      (λ c i. record { volume = 0; place = i.volume; of_group = e; own = u; image = i }) (copies_in u p.blocks (length h.writes) h.writes h.images (t 0)))
      (all_along (IsInGroup (u + 1) ps hs) (IsInGroup u (p ∷ ps) (h ∷ hs)) (copies_from (u + 1) ps hs)
      (λ c i. one_later u p ps h hs c (subst (λ b. IsInGroup (if b then u + 1 else u) ps hs c) (sym e) i)) (rest (u + 1)))
  by_group false e rest = all_along (IsInGroup u ps hs) (IsInGroup u (p ∷ ps) (h ∷ hs)) (copies_from u ps hs)
      (λ c i. one_later u p ps h hs c (subst (λ b. IsInGroup (if b then u + 1 else u) ps hs c) (sym e) i)) (rest u)

-- ## the cut

record HasCut (s : Plan) (n : ℕ) (so_far : List Act) : Type 0 where
  before : List Act
  is : cut s n so_far ≡ Some before

shows_cut : (s : Plan) (so_far : List Act) (ps : List Placed) (c : Copy) → IsInGroup 0 ps (state s so_far).volumes c → HoldsTheCut s so_far ps c
shows_cut s so_far ps c i = grind (arith, image_shown, image_reads)

pub copies_hold : (s : Plan) (so_far : List Act) → CopiesHold s so_far
copies_hold s so_far v = grind (arith, all_along, shows_cut, in_group, images_in_time)
