-- What the core stands for before any act, and the devices against the groups: they hold the content of the volumes.
use Rattle.std.proofs.Common.{◌≡◌, ℕ, List, length, refl, ap, sym, ◌∙◌, subst, arith, Option, Some, slice_get, [], map}
use Rattle.provider.proofs.InGroup.{at_place}
use Rattle.vss_world.proofs.Moved.{world_of}
use Rattle.vss_world.proofs.Words.{AllTied, AreGroups, GroupValue, HasGroups, History, IsOf, Plan, StandsAt, State, WorldValue, blocks_there}
use Rattle.vss_world.proofs.Words.{devices_of, found_row, inside, of_group, slice_get_inside, told_here, AreFirst, AreFresh, AreNew, AreWhole, Evicted}
use Rattle.vss_world.proofs.Words.{IsInGroup, IsPlan, ProviderValue, SessionsValue, Stands, VolumeRow, are_distinct, fresh, get_or_from_slice_get, group_slots}
use Rattle.vss_world.proofs.Words.{slice_get_within}

-- ## The devices against the groups: they hold the content of the volumes.

tied : {D : Type 0} (told : D → Option (List (List ℕ))) (s : Plan) (groups : List (GroupValue D)) (hs : List History) → HasGroups s groups → AreGroups told s groups hs
    → AllTied told s hs (devices_of groups)
tied told s groups hs has are v r h blocks e history_at is =
    let f = found_row s groups v r has e in
    let d = told_here f told in
    let group = are.each f.group f.here f.at in
    let images = group.stands.images in
    let within = inside f in
    let sets = slice_get_inside f.here.images f.within (omega (arith, images, within)) in
    let size : slice_get f.here.area.volumes f.within ≡ Some r.blocks = ap (λ (ns : List ℕ). slice_get ns f.within) group.volumes ∙ blocks_there s v f.group f.within f.place in
    let past : slice_get (of_group f.group s.volumes hs) f.within ≡ Some h = at_place f.group s.volumes hs v r e refl are.histories ∙ history_at in
    let volume = group.stands.each f.within r.blocks d.0 sets.0 h size d.1 sets.1 past in
    grind (arith, volume.blocks, (sym d.2 ∙ is))

-- the devices of a core hold the content that the definitions have
pub holds_of : {D : Type 0} (told : D → Option (List (List ℕ))) {w : WorldValue D} {s : Plan} {st : State} → IsOf w s → StandsAt told w.provider w.sessions s st → AllTied told s st.volumes w.devices
holds_of told {w = w} {s = s} {st = st} of at = subst (AllTied told s st.volumes) (sym of.devices) (tied told s w.provider.groups st.volumes of.groups at.groups)

-- ## What the core stands for before any act.

in_group : (s : Plan) (v : ℕ) (r : VolumeRow) → IsPlan s → slice_get s.volumes v ≡ Some r → IsInGroup s.groups r
in_group s v r plan e = subst (IsInGroup s.groups) (get_or_from_slice_get s.volumes v r r e) (plan.grouped.rows v r (slice_get_within s.volumes v r e))

pub fresh_groups : {D : Type 0} (told : D → Option (List (List ℕ))) (s : Plan) (groups : List (GroupValue D)) → IsPlan s → AreNew told s groups → AreFresh told s groups
fresh_groups told s groups plan new = record {
  volumes = new.volumes;
  slots = λ g x v r at e is.
      let own = in_group s v r plan e in
      let p = slice_get_inside s.groups r.group own.in_range in
      new.slots g x p.0 at (ap (slice_get s.groups) (sym is) ∙ p.1) ∙ sym (own.slots ∙ ap group_slots p.1);
  stands = new.fresh_are;
}

pub has_groups : {D : Type 0} (told : D → Option (List (List ℕ))) (s : Plan) (groups : List (GroupValue D)) → IsPlan s → AreNew told s groups → AreWhole groups → HasGroups s groups
has_groups told s groups plan new whole = record {
  there = λ v r e. let own = (in_group s v r plan e).in_range in let number = new.number in omega (arith, own, number);
  volumes = new.volumes;
  devices = whole;
}

pub made_of : {D : Type 0} (told : D → Option (List (List ℕ))) (s : Plan) (groups : List (GroupValue D)) (p : ProviderValue D) (x : SessionsValue) (l : List ℕ) (e : List Evicted) → IsPlan s
    → AreNew told s groups → p ≡ record { groups = groups; set = 0; volumes = [] } → AreWhole p.groups → AreFirst s x → IsOf (world_of p x l e) s
made_of {D = D} told s groups p x l e plan new is whole begun =
    let same : p.groups ≡ groups = ap (λ (z : ProviderValue D). z.groups) is in
    record {
      devices = refl;
      number = ap length same ∙ new.number;
      groups = subst (HasGroups s) (sym same) (has_groups told s groups plan new (subst AreWhole same whole));
      writers = begun.writers;
    }

pub made_stands : {D : Type 0} (told : D → Option (List (List ℕ))) (s : Plan) (groups : List (GroupValue D)) (p : ProviderValue D) (x : SessionsValue) (l : List ℕ) (e : List Evicted) → IsPlan s
    → AreNew told s groups
    → p ≡ record { groups = groups; set = 0; volumes = [] } → AreWhole p.groups → AreFirst s x → (AreFresh told s groups → AreGroups told s p.groups (map (λ (r : VolumeRow). fresh) s.volumes))
    → Stands told (world_of p x l e) s []
made_stands {D = D} told s groups p x l e plan new is whole begun stand =
    let sets : length x.sets ≡ 0 = ap length begun.keeps.sets in
    let posts = begun.posts in
    let clock = begun.clock in
    record {
      at = record {
        groups = stand (fresh_groups told s groups plan new);
        prepared = record { volumes = ap (λ (z : ProviderValue D). z.volumes) is; set = ap (λ (z : ProviderValue D). z.set) is; distinct = ap (λ (z : ProviderValue D). are_distinct z.volumes) is };
        sessions = begun.keeps;
        plan = record { sets = tt; agenda = tt; members = tt; disabled = tt };
      };
      sets = omega (arith, sets);
      posts = omega (arith, posts);
      early = omega (arith, clock);
    }
