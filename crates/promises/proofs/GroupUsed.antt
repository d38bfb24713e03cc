-- How many slots the images of a group use: fewer images use no more, and where a write finds its slot.
use Rattle.std.proofs.Common.{◌≡◌, ◌∙◌, ℕ, ◌==◌, ◌≤◌, List, Option, Some, None, refl, Bool, true, map, filter, length, arith, ◌+◌, ◌<◌, zero, suc, [], ◌∷◌}
use Rattle.std.proofs.Common.{false, ap}
use Rattle.std.specs.Prelude.{not, nat_lt, if◌then◌else◌, slice_get}
use Rattle.write_history.specs.History.{cut as history_cut}
use Rattle.promises.proofs.Members.{no_less}
use Rattle.promises.proofs.Used.{Rising, rising_fewer, rising_cut, fewer_used, fewer_need, cut_used}
use Rattle.promises.proofs.Words.{Context, Backup, AppRollback, NasRollback, Image, History, dropped, after_set, Placed, used, needs_slot, gone_up_to}
use Rattle.promises.proofs.Words.{change_at, SetRow, images_dropped, images_released, at, Each, each_map, each_change, each_gone, as_many_map, as_many_change}
use Rattle.promises.proofs.Words.{as_many_gone, and_left, group_used, needs_slot_in, lacks_slot, evicted_up_to, UpTo, within, unless, cond-false, le-ltb}
use Rattle.promises.proofs.Words.{found_passes}

-- ## Volumes with fewer images use no more slots, and no write needs a slot there that needed none before.

-- ## a volume

abbrev pub InTime : History → Type 0
InTime h = Rising 0 (length h.writes) h.images

abbrev pub used_in : ℕ → History → ℕ
used_in n h = used n h.writes h.images

pub record Shrinks (h k : History) : Type 0 where
  pub in_time : InTime k
  pub uses : (n : ℕ) → used_in n k ≤ used_in n h
  pub needs : (b : ℕ) → needs_slot k.writes k.images b ≡ true → needs_slot h.writes h.images b ≡ true

abbrev pub Less : History → History → Type 0
Less h k = InTime h → Shrinks h k

pub less_same : (h : History) → Less h h
less_same h t = record { in_time = t; uses = λ n. no_less (used_in n h); needs = λ b e. e }

less_fewer : (test : Image → Bool) (h : History) → Less h (record { writes = h.writes; images = filter test h.images })
less_fewer test h t = grind (arith, rising_fewer, fewer_used, fewer_need)

less_dropped : (n : ℕ) (h : History) → Less h (dropped n h)
less_dropped n h = less_fewer (λ i. not (i.set == n)) h

less_gone : (m : ℕ) (h : History) → Less h (record { writes = h.writes; images = after_set m h.images })
less_gone m h = less_fewer (λ i. nat_lt m i.set) h

-- ## all volumes

pub record LessIn (hs ks : List History) : Type 0 where
  pub each : Each Less hs ks
  pub as_many : length ks ≡ length hs

pub less_in_same : (hs : List History) → LessIn hs hs
less_in_same hs = record { each = λ v. less_same (at hs v); as_many = refl }

pub less_in_over : (hs ks ls : List History) → LessIn hs ks → LessIn ks ls → LessIn hs ls
less_in_over hs ks ls h g = record { each = λ v. grind (arith, h.each v, g.each v); as_many = g.as_many ∙ h.as_many }

pub less_in_map : (n : ℕ) (hs : List History) → LessIn hs (map (dropped n) hs)
less_in_map n hs = record { each = each_map Less less_same (dropped n) (less_dropped n) hs; as_many = as_many_map (dropped n) hs }

pub less_in_change : (n u : ℕ) (hs : List History) → LessIn hs (change_at u (dropped n) hs)
less_in_change n u hs = record { each = each_change Less less_same (dropped n) (less_dropped n) u hs; as_many = as_many_change (dropped n) u hs }

pub less_in_gone : (m : ℕ) (ps : List Placed) (hs : List History) → LessIn hs (gone_up_to m ps hs)
less_in_gone m ps hs = record { each = each_gone Less less_same m (less_gone m) ps hs; as_many = as_many_gone m ps hs }

pub less_images_dropped : (o : Option SetRow) (hs : List History) → LessIn hs (images_dropped o hs)
less_images_dropped None hs = less_in_same hs
less_images_dropped (Some r) hs = less_in_map r.number hs

pub less_released : (c : Context) (set : Option ℕ) (hs : List History) → LessIn hs (images_released c set hs)
less_released Backup None hs = less_in_same hs
less_released Backup (Some n) hs = less_in_map n hs
less_released AppRollback set hs = less_in_same hs
less_released NasRollback set hs = less_in_same hs

-- ## slots alone

pub record UsesNoMore (hs ks : List History) : Type 0 where
  pub in_time : (v : ℕ) → InTime (at hs v) → InTime (at ks v)
  pub uses : (v n : ℕ) → InTime (at hs v) → used_in n (at ks v) ≤ used_in n (at hs v)
  pub as_many : length ks ≡ length hs

pub uses_less : (hs ks : List History) → LessIn hs ks → UsesNoMore hs ks
uses_less hs ks h = record { in_time = λ v t. (h.each v t).in_time; uses = λ v n t. (h.each v t).uses n; as_many = h.as_many }

pub uses_over : (hs ks ls : List History) → UsesNoMore hs ks → UsesNoMore ks ls → UsesNoMore hs ls
uses_over hs ks ls h g = grind arith

pub uses_image : (m u : ℕ) (hs : List History) → UsesNoMore hs (change_at u (history_cut m) hs)
uses_image m u hs = record {
  in_time = each_change (λ x y. InTime x → InTime y) (λ x t. t) (history_cut m) (λ x t. rising_cut m 0 (length x.writes) x.images t) u hs;
  uses = λ v n t. each_change (λ x y. used_in n y ≤ used_in n x) (λ x. no_less (used_in n x)) (history_cut m) (grind (arith, cut_used, no_less)) u hs v;
  as_many = as_many_change (history_cut m) u hs;
}

-- ## How many slots the images of a group use, and where a write finds its slot.

-- ## what each volume uses

pub group_less : (ps : List Placed) (hs ks : List History) → ((v n : ℕ) → used_in n (at ks v) ≤ used_in n (at hs v)) → length ks ≡ length hs → group_used ps ks ≤ group_used ps hs
group_less [] hs ks f e = omega arith
group_less (p ∷ ps) hs [] f e = omega arith
group_less (p ∷ ps) [] (k ∷ ks) f e = absurd cc
group_less (p ∷ ps) (h ∷ hs) (k ∷ ks) f e = by_group p.within (f 0 p.blocks) (group_less ps hs ks (λ v n. f (suc v) n) (one_less (length ks) (length hs) e))
  where
    one_less : (a b : ℕ) → suc a ≡ suc b → a ≡ b
    one_less a b e = omega arith

    both : (a b x y : ℕ) → a ≤ b → x ≤ y → a + x ≤ b + y
    both a b x y l m = omega arith

    by_group : (b : Bool) → used_in p.blocks k ≤ used_in p.blocks h → group_used ps ks ≤ group_used ps hs
        → (if b then used p.blocks k.writes k.images else 0) + group_used ps ks ≤ (if b then used p.blocks h.writes h.images else 0) + group_used ps hs
    by_group true l m = both (used_in p.blocks k) (used_in p.blocks h) (group_used ps ks) (group_used ps hs) l m
    by_group false l m = both 0 0 (group_used ps ks) (group_used ps hs) (no_less 0) m

-- a volume that is not of the group
pub group_other : (f : History → History) (u : ℕ) (ps : List Placed) (hs : List History) → within (slice_get ps u) ≡ false → group_used ps (change_at u f hs) ≡ group_used ps hs
group_other f u [] hs e = refl
group_other f u (p ∷ ps) [] e = refl
group_other f zero (p ∷ ps) (h ∷ hs) e = grind arith
group_other f (suc u) (p ∷ ps) (h ∷ hs) e = ap (λ k. (if p.within then used p.blocks h.writes h.images else 0) + k) (group_other f u ps hs e)

-- a volume that uses at most so many more
pub group_more : (f : History → History) (u extra : ℕ) (ps : List Placed) (hs : List History)
    → ((n : ℕ) → used_in n (f (at hs u)) ≤ used_in n (at hs u) + extra) → group_used ps (change_at u f hs) ≤ group_used ps hs + extra
group_more f u extra [] hs g = omega arith
group_more f u extra (p ∷ ps) [] g = omega arith
group_more f zero extra (p ∷ ps) (h ∷ hs) g = grind arith
group_more f (suc u) extra (p ∷ ps) (h ∷ hs) g = grind (arith, group_more f u extra ps hs g)

-- a change that makes its own volume use no more
pub changed_uses : (f : History → History) (u : ℕ) (hs : List History) → ((n : ℕ) → used_in n (f (at hs u)) ≤ used_in n (at hs u)) → (v n : ℕ)
    → used_in n (at (change_at u f hs) v) ≤ used_in n (at hs v)
changed_uses f u [] g v n = no_less (used_in n (at [] v))
changed_uses f zero (h ∷ hs) g zero n = g n
changed_uses f zero (h ∷ hs) g (suc v) n = no_less (used_in n (at hs v))
changed_uses f (suc u) (h ∷ hs) g zero n = no_less (used_in n h)
changed_uses f (suc u) (h ∷ hs) g (suc v) n = changed_uses f u hs g v n

-- ## a slot for a write

none_after : (m : ℕ) (images : List Image) → UpTo m images → after_set m images ≡ []
none_after m [] h = refl
none_after m (i ∷ images) h = cond-false (nat_lt m i.set) (i ∷ after_set m images) (after_set m images) (le-ltb m i.set h.0) ∙ none_after m images h.1

-- with all its images gone a volume needs no slot
needs_none : (m v b : ℕ) (ps : List Placed) (hs : List History) → within (slice_get ps v) ≡ true → UpTo m (at hs v).images → needs_slot_in (slice_get (gone_up_to m ps hs) v) b ≡ false
needs_none m v b [] hs e up = absurd cc
needs_none m v b (p ∷ ps) [] e up = refl
needs_none m zero b (p ∷ ps) (h ∷ hs) e up = grind (arith, none_after)
needs_none m (suc v) b (p ∷ ps) (h ∷ hs) e up = needs_none m v b ps hs e up

-- with the images of so many sets gone a write does not lack its slot
pub enough_goes : (sets slots : ℕ) (ps : List Placed) (v b : ℕ) (hs : List History) → within (slice_get ps v) ≡ true → UpTo sets (at hs v).images
    → lacks_slot slots ps v b (gone_up_to (evicted_up_to sets slots ps v b hs) ps hs) ≡ false
enough_goes sets slots ps v b hs e up = grind (arith, unless, found_passes, and_left, needs_none)

-- where a write needs a slot and does not lack it, one is left
pub one_left : (slots : ℕ) (ps : List Placed) (v b : ℕ) (hs : List History) → lacks_slot slots ps v b hs ≡ false → group_used ps hs ≤ slots
    → needs_slot (at hs v).writes (at hs v).images b ≡ true → group_used ps hs < slots
one_left slots ps v b hs e l n = grind arith
