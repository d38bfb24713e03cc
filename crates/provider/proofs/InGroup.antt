-- The volumes of one group among all volumes: where each is, and for which histories all stand after one group was called or ended.
use Rattle.std.proofs.Common.{◌≡◌, ℕ, zero, suc, ◌+◌, ◌==◌, List, [], ◌∷◌, length, refl, ap, sym, ◌∙◌, arith, Bool, true, false, Option, Some, map, slice_get}
use Rattle.std.proofs.Common.{not, find, if◌then◌else◌, ◌<◌, subst, slice_set, ◌++◌, OnOk, Result, Ok, Err}
use Rattle.vss_model.specs.Words.{history_in}
use Rattle.vss_model.proofs.Words.{number_is}
use Rattle.provider.specs.Words.{placed as all_placed, blocks_in as group_blocks_in, history_at as group_history_at, IsSynced as IsGroupSynced}
use Rattle.provider.proofs.Flat.{rose_area, counts_same}
use Rattle.provider.proofs.Kept.{kept_one, called_there}
use Rattle.provider.proofs.Words.{History, VolumeRow, after_set, as_many_gone, blocks_in_group, change_at, changed_at, count_if, evicted_up_to, gone_up_to}
use Rattle.provider.proofs.Words.{group_used, lacks_slot, ne_eqb, of_group, of_group_if, place_in, placed, range_with_len, same_number, unwrap_or, used}
use Rattle.provider.proofs.Words.{GroupValue, HasGroups, IsPlaceOf, Plan, blocks_at, blocks_in as plan_blocks_in, blocks_of, history_at}
use Rattle.provider.proofs.Words.{history_in as group_history_in, length-map, slice_get_inside, slice_get_map, slice_get_within, AreGroups, IsGroup, StandsFor}
use Rattle.provider.proofs.Words.{slice_get-set_other, slice_get-set_same, AreLasting, AreStored, Cause, Copy, Ghosts, HasSyncCause, IsSync, IsSynced, copies}
use Rattle.provider.proofs.Words.{copies_from, copies_of}

-- ## What is said of all volumes with a mark for a group is what is said of the group's volumes alone.

-- ## slots used

used_if : (b : Bool) (n x : ℕ) (h : History) (ns : List ℕ) (hs : List History) → x ≡ group_used (all_placed ns) hs
    → (if b then used n h.writes h.images else 0) + x ≡ group_used (all_placed (of_group_if b n ns)) (of_group_if b h hs)
used_if b n x h ns hs e = grind arith

pub used_in_group : (g : ℕ) (rows : List VolumeRow) (hs : List History)
    → group_used (map (placed g) rows) hs ≡ group_used (all_placed (blocks_in_group g rows)) (of_group g rows hs)
used_in_group g [] hs = refl
used_in_group g (r ∷ rows) [] = empty (of_group_if (r.group == g) r.blocks (blocks_in_group g rows))
  where
    empty : (ns : List ℕ) → 0 ≡ group_used (all_placed ns) []
    empty [] = refl
    empty (n ∷ ns) = refl
used_in_group g (r ∷ rows) (h ∷ hs) =
    used_if (r.group == g) r.blocks (group_used (map (placed g) rows) hs) h (blocks_in_group g rows) (of_group g rows hs) (used_in_group g rows hs)

-- ## images that go

gone_if : (b : Bool) (m n : ℕ) (h : History) (ns : List ℕ) (hs ks : List History) → ks ≡ gone_up_to m (all_placed ns) hs
    → of_group_if b (if b then record { writes = h.writes; images = after_set m h.images } else h) ks ≡ gone_up_to m (all_placed (of_group_if b n ns)) (of_group_if b h hs)
gone_if b m n h ns hs ks e = grind arith

pub gone_in_group : (g m : ℕ) (rows : List VolumeRow) (hs : List History)
    → of_group g rows (gone_up_to m (map (placed g) rows) hs) ≡ gone_up_to m (all_placed (blocks_in_group g rows)) (of_group g rows hs)
gone_in_group g m [] hs = refl
gone_in_group g m (r ∷ rows) [] = empty (of_group_if (r.group == g) r.blocks (blocks_in_group g rows))
  where
    empty : (ns : List ℕ) → [] ≡ gone_up_to m (all_placed ns) []
    empty [] = refl
    empty (n ∷ ns) = refl
gone_in_group g m (r ∷ rows) (h ∷ hs) =
    gone_if (r.group == g) m r.blocks h (blocks_in_group g rows) (of_group g rows hs) (of_group g rows (gone_up_to m (map (placed g) rows) hs)) (gone_in_group g m rows hs)

both_not : (b c : Bool) (x y : History) (xs ys : List History) → (b ≡ true → c ≡ true → ⊥) → xs ≡ ys → of_group_if c (if b then x else y) xs ≡ of_group_if c y ys
both_not b c x y xs ys h e = grind arith

-- those of another group stay
pub gone_elsewhere : (g other m : ℕ) (rows : List VolumeRow) (hs : List History) → (g ≡ other → ⊥)
    → of_group other rows (gone_up_to m (map (placed g) rows) hs) ≡ of_group other rows hs
gone_elsewhere g other m [] hs apart = refl
gone_elsewhere g other m (r ∷ rows) [] apart = refl
gone_elsewhere g other m (r ∷ rows) (h ∷ hs) apart =
    both_not (r.group == g) (r.group == other) (record { writes = h.writes; images = after_set m h.images }) h _ _
    (λ e f. apart (sym (number_is r.group g e) ∙ number_is r.group other f)) (gone_elsewhere g other m rows hs apart)

-- ## a volume of the group

get_if : {X : Type 0} (b : Bool) (x : X) (xs : List X) (i : ℕ) (o : Option X) → slice_get xs i ≡ o → slice_get (of_group_if b x xs) (count_if b i) ≡ o
get_if b x xs i o e = grind arith

get_first : {X : Type 0} (b : Bool) (x : X) (xs : List X) → b ≡ true → slice_get (of_group_if b x xs) 0 ≡ Some x
get_first b x xs e = grind arith

pub at_place : {X : Type 0} (g : ℕ) (rows : List VolumeRow) (xs : List X) (v : ℕ) (r : VolumeRow) → slice_get rows v ≡ Some r → r.group ≡ g
    → length xs ≡ length rows → slice_get (of_group g rows xs) (place_in g rows v) ≡ slice_get xs v
at_place g [] xs v r e f long = cc
at_place g (q ∷ rows) [] v r e f long = cc
at_place g (q ∷ rows) (x ∷ xs) zero r e f long = let same : q ≡ r = cc in get_first (q.group == g) x (of_group g rows xs) (same_number q.group g (ap (λ (z : VolumeRow). z.group) same ∙ f))
at_place g (q ∷ rows) (x ∷ xs) (suc v) r e f long =
    let rest : length xs ≡ length rows = cc in
    get_if (q.group == g) x (of_group g rows xs) (place_in g rows v) (slice_get xs v) (at_place g rows xs v r e f rest)

change_if : (b : Bool) (f : History → History) (x : History) (xs ys : List History) (i : ℕ) → xs ≡ changed_at i f ys → of_group_if b x xs ≡ changed_at (count_if b i) f (of_group_if b x ys)
change_if b f x xs ys i e = grind arith

change_first : (b : Bool) (f : History → History) (x : History) (xs : List History) → b ≡ true → of_group_if b (f x) xs ≡ changed_at 0 f (of_group_if b x xs)
change_first b f x xs e = grind arith

pub changed_in_group : (g : ℕ) (f : History → History) (rows : List VolumeRow) (hs : List History) (v : ℕ) (r : VolumeRow) → slice_get rows v ≡ Some r → r.group ≡ g
    → of_group g rows (change_at v f hs) ≡ changed_at (place_in g rows v) f (of_group g rows hs)
changed_in_group g f [] hs v r e is = cc
changed_in_group g f (q ∷ rows) [] v r e is = refl
changed_in_group g f (q ∷ rows) (h ∷ hs) zero r e is = let same : q ≡ r = cc in change_first (q.group == g) f h (of_group g rows hs) (same_number q.group g (ap (λ (z : VolumeRow). z.group) same ∙ is))
changed_in_group g f (q ∷ rows) (h ∷ hs) (suc v) r e is =
    change_if (q.group == g) f h (of_group g rows (change_at v f hs)) (of_group g rows hs) (place_in g rows v) (changed_in_group g f rows hs v r e is)

same_if : (b : Bool) (x : History) (xs ys : List History) → xs ≡ ys → of_group_if b x xs ≡ of_group_if b x ys
same_if b x xs ys e = grind arith

left_out : (b : Bool) (x y : History) (xs : List History) → b ≡ false → of_group_if b x xs ≡ of_group_if b y xs
left_out b x y xs e = grind arith

not_same : (a b c : ℕ) → a ≡ b → (b ≡ c → ⊥) → (a == c) ≡ false
not_same a b c e apart = ne_eqb a c (λ same. apart (sym e ∙ same))

pub changed_elsewhere : (g other : ℕ) (f : History → History) (rows : List VolumeRow) (hs : List History) (v : ℕ) (r : VolumeRow) → slice_get rows v ≡ Some r → r.group ≡ g → (g ≡ other → ⊥)
    → of_group other rows (change_at v f hs) ≡ of_group other rows hs
changed_elsewhere g other f [] hs v r e is apart = cc
changed_elsewhere g other f (q ∷ rows) [] v r e is apart = refl
changed_elsewhere g other f (q ∷ rows) (h ∷ hs) zero r e is apart =
    let same : q ≡ r = cc in left_out (q.group == other) (f h) h (of_group other rows hs) (not_same q.group g other (ap (λ (z : VolumeRow). z.group) same ∙ is) apart)
changed_elsewhere g other f (q ∷ rows) (h ∷ hs) (suc v) r e is apart = same_if (q.group == other) h _ _ (changed_elsewhere g other f rows hs v r e is apart)

-- ## how far sets go

pub lacks_in_group : (slots g v b m : ℕ) (rows : List VolumeRow) (r : VolumeRow) (hs : List History) → slice_get rows v ≡ Some r → r.group ≡ g → length hs ≡ length rows
    → lacks_slot slots (map (placed g) rows) v b (gone_up_to m (map (placed g) rows) hs)
    ≡ lacks_slot slots (all_placed (blocks_in_group g rows)) (place_in g rows v) b (gone_up_to m (all_placed (blocks_in_group g rows)) (of_group g rows hs))
lacks_in_group slots g v b m rows r hs e is long = grind (arith, at_place, as_many_gone, gone_in_group, used_in_group)

find_if : (b c : Bool) (x : ℕ) (o p : Option ℕ) → b ≡ c → o ≡ p → (if b then Some x else o) ≡ (if c then Some x else p)
find_if b c x o p e f = grind arith

pub find_same : (p q : ℕ → Bool) (xs : List ℕ) → ((x : ℕ) → p x ≡ q x) → find p xs ≡ find q xs
find_same p q xs same = grind (arith, find_if)

pub evicted_in_group : (sets slots g v b : ℕ) (rows : List VolumeRow) (r : VolumeRow) (hs : List History) → slice_get rows v ≡ Some r → r.group ≡ g → length hs ≡ length rows
    → evicted_up_to sets slots (map (placed g) rows) v b hs ≡ evicted_up_to sets slots (all_placed (blocks_in_group g rows)) (place_in g rows v) b (of_group g rows hs)
evicted_in_group sets slots g v b rows r hs e is long =
    ap (λ (o : Option ℕ). unwrap_or o sets) (find_same _ _ (range_with_len 0 sets) (λ m. ap not (lacks_in_group slots g v b m rows r hs e is long)))

-- ## Where a volume is within its group, and what stands there.

-- ## what stands at a place

-- the group has the volume, and it has its blocks
pub blocks_there : (s : Plan) (v g u : ℕ) (p : IsPlaceOf s v g u) → slice_get (blocks_in_group g s.volumes) u ≡ Some p.row.blocks
blocks_there s v g u p = grind (arith, at_place, length-map, slice_get_map)

pub place_within : (s : Plan) (v g u : ℕ) (p : IsPlaceOf s v g u) → u < length (blocks_in_group g s.volumes)
place_within s v g u p = slice_get_within _ u _ (blocks_there s v g u p)

-- the group of a volume is there
pub group_below : {D : Type 0} (s : Plan) (groups : List (GroupValue D)) (v g u : ℕ) → IsPlaceOf s v g u → HasGroups s groups → g < length groups
group_below s groups v g u place has = subst (λ (n : ℕ). n < length groups) (sym place.group_is) (has.there v place.row place.is_row)

pub group_there : {D : Type 0} (s : Plan) (groups : List (GroupValue D)) (v g u : ℕ) → IsPlaceOf s v g u → HasGroups s groups → (x : GroupValue D) × (slice_get groups g ≡ Some x)
group_there s groups v g u place has = slice_get_inside groups g (group_below s groups v g u place has)

pub within_there : {D : Type 0} (s : Plan) (groups : List (GroupValue D)) (v g u : ℕ) (x : GroupValue D) → IsPlaceOf s v g u → HasGroups s groups → slice_get groups g ≡ Some x
    → u < length x.area.volumes
within_there s groups v g u x place has at = subst (λ (ns : List ℕ). u < length ns) (sym (has.volumes g x at)) (place_within s v g u place)

pub blocks_are : {D : Type 0} (s : Plan) (groups : List (GroupValue D)) (v g u : ℕ) (x : GroupValue D) → IsPlaceOf s v g u → HasGroups s groups → slice_get groups g ≡ Some x
    → blocks_at x u ≡ blocks_of s v
blocks_are s groups v g u x place has at =
    ap (λ (ns : List ℕ). group_blocks_in (slice_get ns u)) (has.volumes g x at) ∙ ap group_blocks_in (blocks_there s v g u place) ∙ sym (ap plan_blocks_in place.is_row)

-- ## its history

same_history : (o : Option History) → group_history_in o ≡ history_in o
same_history o = grind arith

-- the volume's history, found in its group
pub history_of_place : (s : Plan) (hs : List History) (v g u : ℕ) → IsPlaceOf s v g u → length hs ≡ length s.volumes → group_history_at (of_group g s.volumes hs) u ≡ history_at hs v
history_of_place s hs v g u place long = grind (arith, at_place, same_history)

-- ## One group was called: for which histories all groups stand afterwards.

-- ## a list with one member changed

-- for each member: the changed one, and the others
pub each_set : {X : Type 0} (P : ℕ → X → Type 0) (xs : List X) (g : ℕ) (x y : X) → slice_get xs g ≡ Some x → P g y → ((k : ℕ) (z : X) → (g ≡ k → ⊥) → slice_get xs k ≡ Some z → P k z)
    → (k : ℕ) (z : X) → slice_get (slice_set xs g y) k ≡ Some z → P k z
each_set x0 xs g x y was here others k z e = grind (arith, number_is, slice_get-set_same, same_number, slice_get-set_other)

-- ## the groups

-- group g was called, and it and the others stand for these histories now
pub becomes : {D : Type 0} (told : D → Option (List (List ℕ))) (s : Plan) (old new : List (GroupValue D)) (g : ℕ) (x y : GroupValue D) (hs ks : List History)
    → slice_get old g ≡ Some x → new ≡ slice_set old g y → y.area.volumes ≡ x.area.volumes → length y.area.records ≡ length x.area.records
    → AreGroups told s old hs → length ks ≡ length hs → StandsFor told y (of_group g s.volumes ks) → ((k : ℕ) → (g ≡ k → ⊥) → of_group k s.volumes ks ≡ of_group k s.volumes hs)
    → AreGroups told s new ks
becomes {D = D} told s old new g x y hs ks was is volumes slots are long stands others =
    let mine = are.each g x was in
    let here : IsGroup told s g y ks = record {
      stands = stands;
      volumes = volumes ∙ mine.volumes;
      slots = λ v q e f. slots ∙ mine.slots v q e f;
    } in
    record {
      histories = long ∙ are.histories;
      each = subst (λ (xs : List (GroupValue D)). (k : ℕ) (z : GroupValue D) → slice_get xs k ≡ Some z → IsGroup told s k z ks) (sym is)
          (each_set (λ k z. IsGroup told s k z ks) old g x y was here (λ k z apart e.
          let theirs = are.each k z e in
          record {
            stands = subst (λ (js : List History). StandsFor told z js) (sym (others k apart)) theirs.stands;
            volumes = theirs.volumes;
            slots = theirs.slots;
          }));
    }

-- they stand for what they stood for
pub stays : {D : Type 0} (told : D → Option (List (List ℕ))) (s : Plan) (old new : List (GroupValue D)) (g : ℕ) (x y : GroupValue D) (hs : List History)
    → slice_get old g ≡ Some x → new ≡ slice_set old g y → y.area.volumes ≡ x.area.volumes → length y.area.records ≡ length x.area.records
    → AreGroups told s old hs → StandsFor told y (of_group g s.volumes hs) → AreGroups told s new hs
stays told s old new g x y hs was is volumes slots are stands = becomes told s old new g x y hs hs was is volumes slots are refl stands (λ k apart. refl)

pub length_changed : (v : ℕ) (f : History → History) (hs : List History) → length (change_at v f hs) ≡ length hs
length_changed v f [] = refl
length_changed zero f (h ∷ hs) = refl
length_changed (suc v) f (h ∷ hs) = ap (λ n. suc n) (length_changed v f hs)

-- the history of one volume changed
pub changes : {D : Type 0} (told : D → Option (List (List ℕ))) (s : Plan) (old new : List (GroupValue D)) (v g u : ℕ) (x y : GroupValue D) (hs : List History) (f : History → History)
    → IsPlaceOf s v g u
    → slice_get old g ≡ Some x → new ≡ slice_set old g y → y.area.volumes ≡ x.area.volumes → length y.area.records ≡ length x.area.records
    → AreGroups told s old hs → StandsFor told y (changed_at u f (of_group g s.volumes hs)) → AreGroups told s new (change_at v f hs)
changes told s old new v g u x y hs f place was is volumes slots are stands =
    let here : of_group g s.volumes (change_at v f hs) ≡ changed_at u f (of_group g s.volumes hs) =
    changed_in_group g f s.volumes hs v place.row place.is_row (sym place.group_is) ∙ ap (λ (n : ℕ). changed_at n f (of_group g s.volumes hs))
    (ap (λ (k : ℕ). place_in k s.volumes v) place.group_is ∙ sym place.within_is) in
    becomes told s old new g x y hs (change_at v f hs) was is volumes slots are (length_changed v f hs)
    (subst (λ (ks : List History). StandsFor told y ks) (sym here) stands)
    (λ k apart. changed_elsewhere g k f s.volumes hs v place.row place.is_row (sym place.group_is) apart)

-- ## One group is brought to where it lasts, against the histories of all volumes.

-- ## copies of a group

pub copies_if : (b : Bool) (v n : ℕ) (h : History) (ns : List ℕ) (hs : List History) (cs : ℕ → List Copy) → ((w : ℕ) → cs w ≡ copies_from w (all_placed ns) hs)
    → (if b then copies_of v n h.writes h.images ++ cs (v + 1) else cs v) ≡ copies_from v (all_placed (of_group_if b n ns)) (of_group_if b h hs)
copies_if b v n h ns hs cs e = grind arith

pub copies_in_group : (g v : ℕ) (rows : List VolumeRow) (hs : List History) → copies_from v (map (placed g) rows) hs ≡ copies_from v (all_placed (blocks_in_group g rows)) (of_group g rows hs)
copies_in_group g v [] hs = refl
copies_in_group g v (r ∷ rows) [] = empty (of_group_if (r.group == g) r.blocks (blocks_in_group g rows))
  where
    empty : (ns : List ℕ) → [] ≡ copies_from v (all_placed ns) []
    empty [] = refl
    empty (n ∷ ns) = refl
copies_in_group g v (r ∷ rows) (h ∷ hs) =
    copies_if (r.group == g) v r.blocks h (blocks_in_group g rows) (of_group g rows hs) (λ w. copies_from w (map (placed g) rows) hs) (λ w. copies_in_group g w rows hs)

-- ## brought to where it lasts

module _ {D : Type 0} (device : Ghosts D) (old : List (GroupValue D)) (g : ℕ) (x y : GroupValue D) (was : slice_get old g ≡ Some x) where
  abbrev new : List (GroupValue D)
  new = slice_set old g y

  synced : IsGroupSynced device x y → IsSynced device old new g
  synced h = record {
    kept = kept_one device old new g x y was refl h.kept;
    elsewhere = λ k apart. slice_get-set_other old g k y (λ e. apart (sym e));
    devices = λ p q at there.
        let one : Some x ≡ Some p = sym was ∙ at in
        let first : x ≡ p = cc in
        let two : Some y ≡ Some q = sym (called_there old new g x y was refl) ∙ there in
        let second : y ≡ q = cc in
        subst (λ (z : GroupValue D). q.devices ≡ z.devices) first (subst (λ (z : GroupValue D). z.devices ≡ x.devices) second h.devices);
    stands = λ s hs are. stays device.told s old new g x y hs was refl h.kept.volumes h.kept.slots are (h.stands (of_group g s.volumes hs) (are.each g x was).stands);
  }

  pub sync_of : (result : Result Unit Cause) → IsSync device x y result → IsSynced device old new g
  sync_of (Ok done) h = synced h.0
  sync_of (Err cause) h = synced h.0

  pub sync_lasts : (result : Result Unit Cause) → OnOk result (device.lasting y.area.device ≡ device.told y.area.device) → IsSync device x y result
      → OnOk result ((s : Plan) → AreLasting device s old new g)
  sync_lasts (Err cause) lasts h = tt
  sync_lasts (Ok done) lasts h = λ s p q at there.
      let one : Some x ≡ Some p = sym was ∙ at in
      let first : x ≡ p = cc in
      let now = called_there old new g x y was refl in
      let two : Some y ≡ Some q = sym now ∙ there in
      let second : y ≡ q = cc in (
        subst (λ (z : GroupValue D). device.lasting z.area.device ≡ device.told z.area.device) second lasts,
        λ hs are tells.
            let mine = are.each g y now in
            let first_volumes : x.area.volumes ≡ blocks_in_group g s.volumes = sym h.0.kept.volumes ∙ mine.volumes in
            let stored = h.1 (of_group g s.volumes hs) (h.0.stood (of_group g s.volumes hs) mine.stands) (λ v d e. tells v d (ap (λ (z : GroupValue D). slice_get z.devices v) (sym first) ∙ e)) in
            let here = subst (λ (ns : List ℕ). AreStored (device.told y.area.device) (copies (all_placed ns) (of_group g s.volumes hs))) first_volumes stored in
            subst (λ (z : GroupValue D). AreStored (device.told z.area.device) (copies (map (placed g) s.volumes) hs)) second
            (subst (λ (cs : List Copy). AreStored (device.told y.area.device) cs) (sym (copies_in_group g 0 s.volumes hs)) here),
      )

  pub sync_cause : (result : Result Unit Cause) → IsSync device x y result → (s : Plan) → HasGroups s old → HasSyncCause device.count s g result old new
  sync_cause result h s has = grind (arith, counts_same, rose_area)
