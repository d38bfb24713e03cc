-- The groups of a scenario, opened over the devices that were made for it.
use Rattle.std.proofs.Common.{◌≡◌, ℕ, zero, suc, ◌+◌, ◌==◌, ◌<◌, ◌≤◌, List, [], ◌∷◌, ◌++◌, length, take, refl, ap, sym, ◌∙◌, arith, Bool, true, false, Option}
use Rattle.std.proofs.Common.{Some, None, subst, append_assoc, length-append}
use Rattle.std.specs.Prelude.{◌⊎◌, slice_get, map, All, IsSome, is_some, nat_lt, option_map, if◌then◌else◌}
use Rattle.std.specs.List.{range_with_len}
use Rattle.std.proofs.lemmas.Bool.Decides.{nat_tests}
use Rattle.std.proofs.lemmas.List.{length-map}
use Rattle.std.proofs.lemmas.List.Elements.{All-append, All-head, All-tail, All-nil, All-weaker}
use Rattle.std.proofs.lemmas.Option.{slice_get_past, slice_get-map}
use Rattle.volume_device.specs.declared.device.Device.{Ghosts}
use Rattle.write_history.specs.declared.move_item.Move.{Move}
use Rattle.scenario.specs.declared.volume_row.VolumeRow.{VolumeRow}
use Rattle.scenario.specs.Plan.{Plan, GroupPlan}
use Rattle.scenario.specs.Bounds.{IsPlan, IsVolume, IsInGroup, groups_from}
use Rattle.diff_area.specs.Format.{blocks_for, AreVolumes}
use Rattle.cow_volume.specs.StandsFor.{GroupValue}
use Rattle.scenario.specs.Places.{of_group_if, blocks_in_group, count_if, place_in}
use Rattle.provider.specs.Groups.{devices_of, first_place, area_place, volume_place_in, volume_place, volumes_area_in, volumes_area}
use Rattle.vss_report.specs.ToldLines.{all_tell}
use Rattle.vss_world.specs.Stands.{told_by, told_at, tells_from, tells_of}
use Rattle.vss_world.specs.Quiet.{AreNew}
use Rattle.vss_play.specs.Made.{IsZero, IsNewDevice, AreMade, AreSorted, groups_of_devices, in_group, IsOpened, AreOpened, IsOpening}
use Rattle.vss_play.specs.Played.{IsFresh, device_sizes}
use Rattle.vss_play.proofs.Areas.{first_up}
use Rattle.vss_play.proofs.Sorting.{at_all, Next, in_group_append, one_of_each, map_in_group, all_in_group, next_at, none_left}
use Rattle.vss_play.proofs.NewDevices.{take_all, many_names, many_sizes, made_many, new_counts}
use Rattle.cow_volume.proofs.Group.{told_in-both as both_tell}
use Rattle.provider.proofs.Room.{few_within as few_in_group}
use Rattle.cow_volume.proofs.Reverting.{take_next}

-- ## the blocks of a group

blocks_are : (g : ℕ) (rows : List VolumeRow) → in_group g (map (λ (r : VolumeRow). r.group) rows) (map (λ (r : VolumeRow). r.blocks) rows) ≡ blocks_in_group g rows
blocks_are g [] = refl
blocks_are g (r ∷ rows) = by_test (r.group == g) (blocks_are g rows)
  where
    by_test : (b : Bool) → in_group g (map (λ (x : VolumeRow). x.group) rows) (map (λ (x : VolumeRow). x.blocks) rows) ≡ blocks_in_group g rows
        → (if b then r.blocks ∷ in_group g (map (λ (x : VolumeRow). x.group) rows) (map (λ (x : VolumeRow). x.blocks) rows)
        else in_group g (map (λ (x : VolumeRow). x.group) rows) (map (λ (x : VolumeRow). x.blocks) rows)) ≡ of_group_if b r.blocks (blocks_in_group g rows)
    by_test true e = ap (λ ns. r.blocks ∷ ns) e
    by_test false e = e

-- the devices of a group have its volumes' blocks, and its area's
pub group_sizes : (s : Plan) (g : ℕ) (p : GroupPlan) → slice_get s.groups g ≡ Some p → in_group g (groups_of_devices s) (device_sizes s) ≡ blocks_in_group g s.volumes ++ blocks_for p.slots ∷ []
group_sizes s g p e =
    let area : slice_get (map (λ (x : GroupPlan). blocks_for x.slots) s.groups) g
    ≡ Some (blocks_for p.slots) = slice_get-map (λ (x : GroupPlan). blocks_for x.slots) s.groups g
    ∙ ap (option_map (λ (x : GroupPlan). blocks_for x.slots)) e in
    let at : 0 + g ≡ g = omega arith in
    in_group_append g (map (λ (r : VolumeRow). r.group) s.volumes) (range_with_len 0 (length s.groups)) (map (λ (r : VolumeRow). r.blocks) s.volumes)
    (map (λ (x : GroupPlan). blocks_for x.slots) s.groups)
    (length-map s.volumes (λ (r : VolumeRow). r.group) ∙ sym (length-map s.volumes (λ (r : VolumeRow). r.blocks)))
    ∙ ap (λ ns. ns ++ in_group g (range_with_len 0 (length s.groups)) (map (λ (x : GroupPlan). blocks_for x.slots) s.groups)) (blocks_are g s.volumes)
    ∙ ap (λ ns. blocks_in_group g s.volumes ++ ns)
    (ap (λ n. in_group n (range_with_len 0 (length s.groups)) (map (λ (x : GroupPlan). blocks_for x.slots) s.groups)) (sym at)
    ∙ one_of_each 0 (length s.groups) g (map (λ (x : GroupPlan). blocks_for x.slots) s.groups) (blocks_for p.slots) (length-map s.groups (λ (x : GroupPlan). blocks_for x.slots)) area)

sizes_by : (s : Plan) (g slots : ℕ) (o : Option GroupPlan) → slice_get s.groups g ≡ o → option_map (λ (p : GroupPlan). p.slots) o ≡ Some slots
    → in_group g (groups_of_devices s) (device_sizes s) ≡ blocks_in_group g s.volumes ++ blocks_for slots ∷ []
sizes_by s g slots o at e = grind (arith, group_sizes)

-- the same, by what the scenario tells of the group
pub sizes_of_group : (s : Plan) (g slots : ℕ) (blocks : List ℕ) → option_map (λ (p : GroupPlan). p.slots) (slice_get s.groups g) ≡ Some slots
    → blocks ≡ blocks_in_group g s.volumes → in_group g (groups_of_devices s) (device_sizes s) ≡ blocks ++ blocks_for slots ∷ []
sizes_of_group s g slots blocks e same = sizes_by s g slots (slice_get s.groups g) refl e ∙ ap (λ ns. ns ++ blocks_for slots ∷ []) (sym same)

blocks_last : (g : ℕ) (rows : List VolumeRow) (r : VolumeRow) → blocks_in_group g (rows ++ r ∷ []) ≡ blocks_in_group g rows ++ (if r.group == g then r.blocks ∷ [] else [])
blocks_last g [] r = by_test (r.group == g)
  where
    by_test : (b : Bool) → of_group_if b r.blocks [] ≡ (if b then r.blocks ∷ [] else [])
    by_test true = refl
    by_test false = refl
blocks_last g (x ∷ rows) r = by_test (x.group == g) (blocks_last g rows r)
  where
    by_test : (b : Bool) → blocks_in_group g (rows ++ r ∷ []) ≡ blocks_in_group g rows ++ (if r.group == g then r.blocks ∷ [] else [])
        → of_group_if b x.blocks (blocks_in_group g (rows ++ r ∷ [])) ≡ of_group_if b x.blocks (blocks_in_group g rows) ++ (if r.group == g then r.blocks ∷ [] else [])
    by_test true e = ap (λ ns. x.blocks ∷ ns) e
    by_test false e = e

-- one more volume was looked at
pub blocks_more : (g : ℕ) (rows : List VolumeRow) (k : ℕ) (r : VolumeRow) (b : Bool) (old new : List ℕ) → slice_get rows k ≡ Some r → (r.group == g) ≡ b
    → old ≡ blocks_in_group g (take k rows) → new ≡ old ++ (if b then r.blocks ∷ [] else []) → new ≡ blocks_in_group g (take (k + 1) rows)
blocks_more g rows k r b old new at test is more =
    more ∙ ap (λ ns. ns ++ (if b then r.blocks ∷ [] else [])) is
    ∙ ap (λ (t : Bool). blocks_in_group g (take k rows) ++ (if t then r.blocks ∷ [] else [])) (sym test) ∙ sym (blocks_last g (take k rows) r)
    ∙ ap (λ (rs : List VolumeRow). blocks_in_group g rs) (sym (take_next rows k r at))

-- ## each group has volumes, and few

has_more : (b : Bool) (n : ℕ) (ns : List ℕ) → 0 < length ns → 0 < length (of_group_if b n ns)
has_more b n ns l = grind arith

has_here : (b : Bool) (n : ℕ) (ns : List ℕ) → b ≡ true → 0 < length (of_group_if b n ns)
has_here b n ns e = grind arith

same_or_later : (n g : ℕ) → n ≤ g → (n ≡ g) ⊎ (n + 1 ≤ g)
same_or_later n g l = grind arith

opens : (n m g : ℕ) (r : VolumeRow) (rows : List VolumeRow) (b : Bool) → (r.group == n) ≡ b → n ≤ g → (if b then groups_from (n + 1) rows else None) ≡ Some m
    → (groups_from (n + 1) rows ≡ Some m → n + 1 ≤ g → 0 < length (blocks_in_group g rows))
    → 0 < length (of_group_if (r.group == g) r.blocks (blocks_in_group g rows))
opens n m g r rows b t l f later = grind (arith, same_or_later, has_here, has_more)

by_first : (n m g : ℕ) (r : VolumeRow) (rows : List VolumeRow) (b : Bool) → n ≤ g
    → (if b then groups_from n rows else (if r.group == n then groups_from (n + 1) rows else None)) ≡ Some m
    → (groups_from n rows ≡ Some m → 0 < length (blocks_in_group g rows))
    → (groups_from (n + 1) rows ≡ Some m → n + 1 ≤ g → 0 < length (blocks_in_group g rows)) → 0 < length (of_group_if (r.group == g) r.blocks (blocks_in_group g rows))
by_first n m g r rows b l f same later = grind (arith, has_more, opens)

has_volumes : (n m g : ℕ) (rows : List VolumeRow) → groups_from n rows ≡ Some m → n ≤ g → g < m → 0 < length (blocks_in_group g rows)
has_volumes n m g [] e l k = let same : n ≡ m = cc in absurd (omega arith)
has_volumes n m g (r ∷ rows) e l k = by_first n m g r rows (nat_lt r.group n) l e (λ f. has_volumes n m g rows f l k) (λ f more. has_volumes (n + 1) m g rows f more k)

-- there are at most as many groups as volumes
few_by : (n m : ℕ) (r : VolumeRow) (rows : List VolumeRow) (b c : Bool)
    → (if b then groups_from n rows else (if c then groups_from (n + 1) rows else None)) ≡ Some m → (groups_from n rows ≡ Some m → m ≤ n + length rows)
    → (groups_from (n + 1) rows ≡ Some m → m ≤ n + 1 + length rows) → m ≤ n + suc (length rows)
few_by n m r rows b c e same later = grind arith

few_groups : (n m : ℕ) (rows : List VolumeRow) → groups_from n rows ≡ Some m → m ≤ n + length rows
few_groups n m [] e = let same : n ≡ m = cc in omega arith
few_groups n m (r ∷ rows) e = few_by n m r rows (nat_lt r.group n) (r.group == n) e (λ f. few_groups n m rows f) (λ f. few_groups (n + 1) m rows f)

pub few_devices : (s : Plan) → IsPlan s → length s.volumes + length s.groups ≤ 256
few_devices s plan = let groups = few_groups 0 (length s.groups) s.volumes plan.grouped.numbered in let volumes = plan.few_volumes in omega arith

all_if : (P : ℕ → Type 0) (b : Bool) (n : ℕ) (ns : List ℕ) → P n → All P ns → All P (of_group_if b n ns)
all_if x0 b n ns h k = grind arith

all_blocks : (P : ℕ → Type 0) (g : ℕ) (rows : List VolumeRow) → All (λ (r : VolumeRow). P r.blocks) rows → All P (blocks_in_group g rows)
all_blocks P g [] h = All-nil P
all_blocks P g (r ∷ rows) h = all_if P (r.group == g) r.blocks (blocks_in_group g rows) (All-head (λ (x : VolumeRow). P x.blocks) r rows h)
    (all_blocks P g rows (All-tail (λ (x : VolumeRow). P x.blocks) r rows h))

pub volumes_in : (s : Plan) (g : ℕ) → IsPlan s → g < length s.groups → AreVolumes (blocks_in_group g s.volumes)
volumes_in s g plan l = record {
  some = has_volumes 0 (length s.groups) g s.volumes plan.grouped.numbered (omega arith) l;
  few = let most = few_in_group g s.volumes in let few = plan.few_volumes in omega arith;
  each = all_blocks (λ blocks. (0 < blocks) × (blocks ≤ 65536)) g s.volumes
      (All-weaker (IsVolume s) (λ (r : VolumeRow). (0 < r.blocks) × (r.blocks ≤ 65536)) (λ r h. (h.some, h.most)) s.volumes plan.volumes);
}

-- ## the loop

pub opened_more : {D : Type 0} (told : D → Option (List (List ℕ))) (rows : List VolumeRow) (gs : List ℕ) (devices : List D) (g n : ℕ) (ps : List GroupPlan)
    (xs : List (GroupValue D)) (p : GroupPlan) (x : GroupValue D) → g + length ps ≡ n
    → AreOpened told rows gs devices g ps xs → IsOpened told (blocks_in_group n rows) p.slots (in_group n gs devices) x → AreOpened told rows gs devices g (ps ++ p ∷ []) (xs ++ x ∷ [])
opened_more told rows gs devices g n [] [] p x e h one = let same : n ≡ g = omega arith in (subst (λ m. IsOpened told (blocks_in_group m rows) p.slots (in_group m gs devices) x) same one, tt)
opened_more told rows gs devices g n (q ∷ ps) (y ∷ xs) p x e h one = (h.0, opened_more told rows gs devices (suc g) n ps xs p x (omega arith) h.1 one)
opened_more told rows gs devices g n [] (y ∷ xs) p x e h one = absurd h
opened_more told rows gs devices g n (q ∷ ps) [] p x e h one = absurd h

plan_in : (ps : List GroupPlan) (g : ℕ) → g < length ps → (p : GroupPlan) × (slice_get ps g ≡ Some p)
plan_in [] g l = absurd (omega arith)
plan_in (p ∷ ps) zero l = (p, refl)
plan_in (p ∷ ps) (suc g) l = plan_in ps g (omega arith)

length_taken : {X : Type 0} (k : ℕ) (xs : List X) → k ≤ length xs → length (take k xs) ≡ k
length_taken zero [] l = refl
length_taken zero (x ∷ xs) l = refl
length_taken (suc k) [] l = absurd (omega arith)
length_taken (suc k) (x ∷ xs) l = ap suc (length_taken k xs (omega arith))

pub none_opened : {D : Type 0} (told : D → Option (List (List ℕ))) (s : Plan) (sorted rest : List (List D)) (groups : List (GroupValue D)) → rest ≡ sorted
    → groups ≡ [] → IsOpening told s 0 sorted rest groups
none_opened told s sorted rest groups whole none = grind arith

pub one_opened : {D : Type 0} (told : D → Option (List (List ℕ))) (s : Plan) (g : ℕ) (sorted rest less : List (List D)) (mine : List D)
    (groups new : List (GroupValue D)) (x : GroupValue D) → length sorted ≡ length s.groups
    → IsOpening told s g sorted rest groups → rest ≡ mine ∷ less
    → ((p : GroupPlan) → slice_get s.groups g ≡ Some p → IsOpened told (blocks_in_group g s.volumes) p.slots mine x) → new ≡ groups ++ x ∷ []
    → IsOpening told s (g + 1) sorted less new
one_opened {D} told s g sorted rest less mine groups new x many h first one is =
    let next = next_at sorted g mine less (sym h.rest_is ∙ first) in
    let inside = next.within in
    let p = plan_in s.groups g (omega arith) in
    let count : 0 + length (take g s.groups) ≡ g = (let e = length_taken g s.groups (omega arith) in omega arith) in
    record {
      few = omega arith;
      rest_is = sym next.rest_is;
      opened = λ devices each.
          let opened : IsOpened told (blocks_in_group g s.volumes) p.0.slots (in_group g (groups_of_devices s) devices) x = subst
          (λ (ds : List D). IsOpened told (blocks_in_group g s.volumes) p.0.slots ds x) (each g mine next.at) (one p.0 p.1) in
          subst (λ (ps : List GroupPlan). AreOpened told s.volumes (groups_of_devices s) devices 0 ps new) (sym (take_next s.groups g p.0 p.1))
          (subst (λ (xs : List (GroupValue D)). AreOpened told s.volumes (groups_of_devices s) devices 0 (take g s.groups ++ p.0 ∷ []) xs) (sym is)
          (opened_more told s.volumes (groups_of_devices s) devices 0 g (take g s.groups) groups p.0 x count (h.opened devices each) opened));
    }

pub all_opened : {D : Type 0} (told : D → Option (List (List ℕ))) (s : Plan) (g : ℕ) (sorted rest : List (List D)) (groups : List (GroupValue D))
    → length sorted ≡ length s.groups → IsOpening told s g sorted rest groups → rest ≡ []
    → (devices : List D) → AreSorted s sorted devices → AreOpened told s.volumes (groups_of_devices s) devices 0 s.groups groups
all_opened told s g sorted rest groups many h done devices each = grind (arith, none_left, take_all)

-- the list whose turn it is
pub opening_next : {D : Type 0} (told : D → Option (List (List ℕ))) (s : Plan) (g : ℕ) (sorted rest less : List (List D)) (mine : List D)
    (groups : List (GroupValue D)) → IsOpening told s g sorted rest groups → rest ≡ mine ∷ less → Next sorted g mine less
opening_next told s g sorted rest less mine groups h first = next_at sorted g mine less (sym h.rest_is ∙ first)

-- ## the core's groups

opened_number : {D : Type 0} (told : D → Option (List (List ℕ))) (rows : List VolumeRow) (gs : List ℕ) (devices : List D) (g : ℕ) (ps : List GroupPlan)
    (xs : List (GroupValue D)) → AreOpened told rows gs devices g ps xs → length xs ≡ length ps
opened_number told rows gs devices g [] [] h = refl
opened_number told rows gs devices g (p ∷ ps) (x ∷ xs) h = ap suc (opened_number told rows gs devices (suc g) ps xs h.1)
opened_number told rows gs devices g [] (x ∷ xs) h = absurd h
opened_number told rows gs devices g (p ∷ ps) [] h = absurd h

record OpenedAt {D : Type 0} (told : D → Option (List (List ℕ))) (rows : List VolumeRow) (gs : List ℕ) (devices : List D) (g k : ℕ) (ps : List GroupPlan) (x : GroupValue D) : Type 0 where
  plan : GroupPlan
  is_plan : slice_get ps k ≡ Some plan
  opened : IsOpened told (blocks_in_group (g + k) rows) plan.slots (in_group (g + k) gs devices) x

opened_at : {D : Type 0} (told : D → Option (List (List ℕ))) (rows : List VolumeRow) (gs : List ℕ) (devices : List D) (g k : ℕ) (ps : List GroupPlan)
    (xs : List (GroupValue D)) (x : GroupValue D) → AreOpened told rows gs devices g ps xs → slice_get xs k ≡ Some x → OpenedAt told rows gs devices g k ps x
opened_at {D} told rows gs devices g k [] [] x h e = absurd (none (sym (slice_get_past {X = GroupValue D} [] k (omega arith)) ∙ e))
  where
    none : None ≡ Some x → ⊥
    none e = cc
opened_at {D} told rows gs devices g zero (p ∷ ps) (y ∷ xs) x h e =
    let same : y ≡ x = cc in
    let at : g ≡ g + 0 = omega arith in
    record {
      plan = p;
      is_plan = refl;
      opened = subst
          (λ n. IsOpened told (blocks_in_group n rows) p.slots (in_group n gs devices) x) at (subst
          (λ (z : GroupValue D). IsOpened told (blocks_in_group g rows) p.slots (in_group g gs devices) z) same h.0);
    }
opened_at told rows gs devices g (suc k) (p ∷ ps) (y ∷ xs) x h e =
    let r = opened_at told rows gs devices (suc g) k ps xs x h.1 e in
    let at : suc g + k ≡ g + suc k = omega arith in
    record { plan = r.plan; is_plan = r.is_plan; opened = subst (λ n. IsOpened told (blocks_in_group n rows) r.plan.slots (in_group n gs devices) x) at r.opened }
opened_at told rows gs devices g k [] (y ∷ xs) x h e = absurd h
opened_at told rows gs devices g k (p ∷ ps) [] x h e = absurd h

pub new_groups : {D : Type 0} (told : D → Option (List (List ℕ))) (s : Plan) (devices : List D) (groups : List (GroupValue D))
    → AreOpened told s.volumes (groups_of_devices s) devices 0 s.groups groups → AreNew told s groups
new_groups {D} told s devices groups h = record {
  number = opened_number told s.volumes (groups_of_devices s) devices 0 s.groups groups h;
  volumes = λ g x e. let r = opened_at told s.volumes (groups_of_devices s) devices 0 g s.groups groups x h e in let at : 0 + g ≡ g = omega arith
      in r.opened.volumes ∙ ap (λ n. blocks_in_group n s.volumes) at;
  slots = λ g x p e f. let r = opened_at told s.volumes (groups_of_devices s) devices 0 g s.groups groups x h e in r.opened.slots_are
      ∙ ap (λ (q : GroupPlan). q.slots) (one_plan (slice_get s.groups g) r.plan p r.is_plan f);
  fresh_are = λ g x e. (opened_at told s.volumes (groups_of_devices s) devices 0 g s.groups groups x h e).opened.fresh_is;
}
  where
    one_plan : (o : Option GroupPlan) (q p : GroupPlan) → o ≡ Some q → o ≡ Some p → q ≡ p
    one_plan o q p e f = cc

-- ## all devices

devices_cons : {D : Type 0} (x : GroupValue D) (xs : List (GroupValue D)) → devices_of (x ∷ xs) ≡ (x.devices ++ x.area.device ∷ []) ++ devices_of xs
devices_cons x xs = sym (append_assoc x.devices (x.area.device ∷ []) (devices_of xs))

all_opened_devices : {D : Type 0} (P : D → Type 0) (told : D → Option (List (List ℕ))) (rows : List VolumeRow) (gs : List ℕ) (devices : List D) (g : ℕ)
    (ps : List GroupPlan) (xs : List (GroupValue D)) → All P devices → AreOpened told rows gs devices g ps xs → All P (devices_of xs)
all_opened_devices P told rows gs devices g [] [] all h = All-nil P
all_opened_devices {D} P told rows gs devices g (p ∷ ps) (x ∷ xs) all h =
    let own : All P (x.devices ++ x.area.device ∷ []) = subst (λ (ds : List D). All P ds) (sym (h.0).devices_are) (all_in_group P g gs devices all) in
    subst (λ (ds : List D). All P ds) (sym (devices_cons x xs)) (All-append P (x.devices ++ x.area.device ∷ []) (devices_of xs) own (all_opened_devices P told rows gs devices (suc g) ps xs all h.1))
all_opened_devices P told rows gs devices g [] (x ∷ xs) all h = absurd h
all_opened_devices P told rows gs devices g (p ∷ ps) [] all h = absurd h

count_devices : {D : Type 0} (told : D → Option (List (List ℕ))) (rows : List VolumeRow) (gs : List ℕ) (devices : List D) (g : ℕ) (ps : List GroupPlan)
    (xs : List (GroupValue D)) → AreOpened told rows gs devices g ps xs → first_place g rows + length (devices_of xs) ≡ first_place (g + length ps) rows
count_devices told rows gs devices g [] [] h = let at : g ≡ g + 0 = omega arith in omega arith ∙ ap (λ n. first_place n rows) at
count_devices told rows gs devices g (p ∷ ps) (x ∷ xs) h =
    let rest = count_devices told rows gs devices (suc g) ps xs h.1 in
    let all = length-append x.devices (x.area.device ∷ devices_of xs) in
    let many = (h.0).many in
    let at : suc g + length ps ≡ g + suc (length ps) = omega arith in
    let same : first_place (suc g + length ps) rows ≡ first_place (g + suc (length ps)) rows = ap (λ n. first_place n rows) at in
    omega arith
count_devices told rows gs devices g [] (x ∷ xs) h = absurd h
count_devices told rows gs devices g (p ∷ ps) [] h = absurd h

-- how many places the groups before n have
abbrev one_if : Bool → ℕ
one_if true = 1
one_if false = 0

length_if : (b : Bool) (n : ℕ) (ns : List ℕ) → length (of_group_if b n ns) ≡ length ns + one_if b
length_if b n ns = grind arith

one_more_below : (a g : ℕ) (b c : Bool) → nat_lt a g ≡ b → (a == g) ≡ c → one_if (nat_lt a (suc g)) ≡ one_if b + one_if c
one_more_below a g b c e f = grind arith

none_below : (a : ℕ) → nat_lt a 0 ≡ false
none_below a = grind (arith, nat_tests)

places_cons : (n : ℕ) (r : VolumeRow) (rows : List VolumeRow) → first_place n (r ∷ rows) ≡ first_place n rows + one_if (nat_lt r.group n)
places_cons zero r rows = ap one_if (sym (none_below r.group)) ∙ omega arith
places_cons (suc g) r rows =
    let before = places_cons g r rows in
    let own = length_if (r.group == g) r.blocks (blocks_in_group g rows) in
    let below = one_more_below r.group g (nat_lt r.group g) (r.group == g) refl refl in
    omega arith

places_none : (n : ℕ) → first_place n [] ≡ n
places_none zero = refl
places_none (suc n) = let before = places_none n in omega arith

total_places : (n : ℕ) (rows : List VolumeRow) → All (λ (r : VolumeRow). r.group < n) rows → first_place n rows ≡ length rows + n
total_places n [] h = places_none n ∙ omega arith
total_places n (r ∷ rows) h =
    let rest = total_places n rows (All-tail (λ (x : VolumeRow). x.group < n) r rows h) in
    let inside : nat_lt r.group n ≡ true = (let l = All-head (λ (x : VolumeRow). x.group < n) r rows h in grind (arith, nat_tests)) in
    let cons = places_cons n r rows ∙ ap (λ b. first_place n rows + one_if b) inside in
    omega arith

groups_in : (s : Plan) → IsPlan s → All (λ (r : VolumeRow). r.group < length s.groups) s.volumes
groups_in s plan = All-weaker (IsInGroup s.groups) (λ (r : VolumeRow). r.group < length s.groups) (λ r h. h.in_range) s.volumes plan.grouped.rows

many_opened : {D : Type 0} (told : D → Option (List (List ℕ))) (s : Plan) (devices : List D) (groups : List (GroupValue D))
    → AreOpened told s.volumes (groups_of_devices s) devices 0 s.groups groups → length (devices_of groups) ≡ first_place (length s.groups) s.volumes
many_opened told s devices groups h = grind (arith, count_devices)

-- ## every volume tells

place_below : (g v : ℕ) (rows : List VolumeRow) (r : VolumeRow) → slice_get rows v ≡ Some r → r.group ≡ g → place_in g rows v < length (blocks_in_group g rows)
place_below g v [] r e f = absurd (none (sym (slice_get_past {X = VolumeRow} [] v (omega arith)) ∙ e))
  where
    none : None ≡ Some r → ⊥
    none e = cc
place_below g zero (x ∷ rows) r e f =
    let same : x ≡ r = cc in
    let here : (x.group == g) ≡ true = ap (λ (y : VolumeRow). y.group == g) same ∙ ap (λ n. n == g) f ∙ own g in
    has_here (x.group == g) x.blocks (blocks_in_group g rows) here
  where
    own : (n : ℕ) → (n == n) ≡ true
    own n = grind arith
place_below g (suc v) (x ∷ rows) r e f = by_test (x.group == g) (place_below g v rows r e f)
  where
    by_test : (b : Bool) → place_in g rows v < length (blocks_in_group g rows) → count_if b (place_in g rows v) < length (of_group_if b x.blocks (blocks_in_group g rows))
    by_test true l = omega arith
    by_test false l = l

tells_by : {D : Type 0} (told : D → Option (List (List ℕ))) (ds : List D) (p : ℕ) → All (λ d. IsSome (told d)) ds → p < length ds → is_some (told_by told ds p) ≡ true
tells_by told [] p h l = absurd (omega arith)
tells_by told (d ∷ ds) zero h l = All-head (λ x. IsSome (told x)) d ds h
tells_by told (d ∷ ds) (suc p) h l = tells_by told ds p (All-tail (λ x. IsSome (told x)) d ds h) (omega arith)

row_tells : {D : Type 0} (told : D → Option (List (List ℕ))) (s : Plan) (ds : List D) (v : ℕ) (o : Option VolumeRow) (r : VolumeRow) → slice_get s.volumes v ≡ o
    → o ≡ Some r → r.group < length s.groups → length ds ≡ first_place (length s.groups) s.volumes → All (λ d. IsSome (told d)) ds
    → is_some (told_at told s ds v) ≡ true
row_tells {D} told s ds v o r e f l many all =
    let up = first_up (suc r.group) (length s.groups) s.volumes (omega arith) in
    let inside = place_below r.group v s.volumes r (e ∙ f) refl in
    let own : volume_place s v ≡ first_place r.group s.volumes + place_in r.group s.volumes v = volume_is (slice_get s.volumes v) (e ∙ f) in
    let area : volumes_area s v ≡ area_place r.group s.volumes = area_is (slice_get s.volumes v) (e ∙ f) in
    both_tell (told_by told ds (volumes_area s v)) (told_by told ds (volume_place s v)) (tells_by told ds (volumes_area s v) all (omega arith)) (tells_by told ds (volume_place s v) all (omega arith))
  where
    volume_is : (p : Option VolumeRow) → p ≡ Some r → volume_place_in s.volumes v p ≡ first_place r.group s.volumes + place_in r.group s.volumes v
    volume_is p g = ap (volume_place_in s.volumes v) g

    area_is : (p : Option VolumeRow) → p ≡ Some r → volumes_area_in s.volumes p ≡ area_place r.group s.volumes
    area_is p g = ap (volumes_area_in s.volumes) g

rows_tell : {D : Type 0} (told : D → Option (List (List ℕ))) (s : Plan) (ds : List D) (v : ℕ) (rows : List VolumeRow)
    → ((k : ℕ) (r : VolumeRow) → slice_get rows k ≡ Some r → is_some (told_at told s ds (v + k)) ≡ true)
    → tells_from told s ds v rows ≡ map (λ (r : VolumeRow). true) rows
rows_tell told s ds v [] h = refl
rows_tell told s ds v (r ∷ rows) h =
    let at : v + 0 ≡ v = omega arith in
    ap (λ b. b ∷ tells_from told s ds (v + 1) rows) (subst (λ n. is_some (told_at told s ds n) ≡ true) at (h 0 r refl))
    ∙ ap (λ bs. true ∷ bs) (rows_tell told s ds (v + 1) rows (λ k q e. let step : v + suc k ≡ v + 1 + k = omega arith in subst (λ n. is_some (told_at told s ds n) ≡ true) step (h (suc k) q e)))

pub all_volumes_tell : {D : Type 0} (told : D → Option (List (List ℕ))) (s : Plan) (ds : List D) → IsPlan s
    → length ds ≡ first_place (length s.groups) s.volumes → All (λ d. IsSome (told d)) ds → tells_of told s ds ≡ all_tell s
all_volumes_tell told s ds plan many all =
    rows_tell told s ds 0 s.volumes
    (λ k r e. let at : 0 + k ≡ k = omega arith
    in subst (λ n. is_some (told_at told s ds n) ≡ true) (sym at)
    (row_tells told s ds k (slice_get s.volumes k) r refl e
    (at_all (λ (x : VolumeRow). x.group < length s.groups) s.volumes k r e (groups_in s plan)) many all))

-- ## the beginning of a run

pub made_fresh : {D : Type 0} (ghosts : Ghosts D) (tells : Bool) (s : Plan) (made ds : List D) (groups : List (GroupValue D)) (moves : List Move)
    (text : List ℕ) → IsPlan s → moves ≡ [] → ds ≡ devices_of groups → AreMade ghosts tells (device_sizes s) made
    → AreOpened ghosts.told s.volumes (groups_of_devices s) made 0 s.groups groups
    → IsFresh ghosts tells s (record { plan = s; trail = moves; devices = ds; lines = text })
made_fresh {D} ghosts tells s made ds groups moves text plan none same h opened =
    let all : All (IsNewDevice ghosts tells) (devices_of groups) = all_opened_devices (IsNewDevice ghosts tells) ghosts.told s.volumes
    (groups_of_devices s) made 0 s.groups groups h.each opened in
    let many : length ds ≡ first_place (length s.groups) s.volumes = ap (λ (xs : List D). length xs) same ∙ many_opened ghosts.told s made groups opened in
    let fresh_ds : All (IsNewDevice ghosts tells) ds = subst (λ (xs : List D). All (IsNewDevice ghosts tells) xs) (sym same) all in
    record {
      plan = refl;
      trail = none;
      many = many ∙ total_places (length s.groups) s.volumes (groups_in s plan) ∙ sym (many_names s);
      counts = new_counts ghosts tells ds fresh_ds;
      tell =
          λ t. all_volumes_tell ghosts.told s ds plan many
          (All-weaker (IsNewDevice ghosts tells) (λ d. IsSome (ghosts.told d)) (λ d is. is.tell t) ds fresh_ds);
    }

-- the lists of the groups have the sizes and the zeros of the devices
pub sorted_sizes : {D : Type 0} (size : D → ℕ) (s : Plan) (devices : List D) (sorted : List (List D)) → map size devices ≡ device_sizes s
    → AreSorted s sorted devices → (g : ℕ) (ds : List D) → slice_get sorted g ≡ Some ds → map size ds ≡ in_group g (groups_of_devices s) (device_sizes s)
sorted_sizes size s devices sorted sizes each g ds at = grind (arith, map_in_group)

pub sorted_zeros : {D : Type 0} (ghosts : Ghosts D) (s : Plan) (devices : List D) (sorted : List (List D)) → All (IsZero ghosts) devices
    → AreSorted s sorted devices → (g : ℕ) (ds : List D) → slice_get sorted g ≡ Some ds → All (IsZero ghosts) ds
sorted_zeros {D} ghosts s devices sorted zeros each g ds at =
    subst (λ (xs : List D). All (IsZero ghosts) xs) (sym (each g ds at)) (all_in_group (IsZero ghosts) g (groups_of_devices s) devices zeros)

-- each device that was made is in a group
pub as_many : {D : Type 0} (ghosts : Ghosts D) (tells : Bool) (s : Plan) (made ds : List D) (groups : List (GroupValue D)) → IsPlan s → ds ≡ devices_of groups
    → AreMade ghosts tells (device_sizes s) made → AreOpened ghosts.told s.volumes (groups_of_devices s) made 0 s.groups groups
    → length ds ≡ length made
as_many {D} ghosts tells s made ds groups plan same h opened =
    ap (λ (xs : List D). length xs) same ∙ many_opened ghosts.told s made groups opened ∙ total_places (length s.groups) s.volumes (groups_in s plan)
    ∙ sym (made_many ghosts tells (device_sizes s) made h ∙ many_sizes s)
