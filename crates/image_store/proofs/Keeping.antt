-- What lasts of a store that is closed, what a store is that is opened again, and that what lasts is what the opening takes up.
use Rattle.std.proofs.Common.{◌≡◌, ℕ, suc, ◌+◌, ◌<◌, ◌≤◌, List, [], ◌∷◌, ◌++◌, length, map, take, drop, refl, ap, sym, subst, ◌∙◌, arith, true, Option, Some}
use Rattle.std.proofs.Common.{is_some, Ok}
use Rattle.std.proofs.lemmas.List.{length-map, map-set, take_all, take-append-le, append_assoc, drop_at, length-append}
use Rattle.std.proofs.lemmas.List.FromFn.{length-map-range_with_len}
use Rattle.std.proofs.lemmas.Option.{same_Some, slice_get_within}
use Rattle.std.specs.Prelude.{slice_get, slice_set, IfErr, IfSome, Result, Err, OnErr, OnOk, codes}
use Rattle.vss_names.specs.Faults.{Rose}
use Rattle.vss_names.specs.Names.{TextValue}
use Rattle.volume_device.specs.declared.device.Device.{Ghosts}
use Rattle.write_history.specs.History.{History, contents}
use Rattle.write_history.specs.Slots.{Copy, copies}
use Rattle.diff_area.specs.AreaValue.{AreaValue}
use Rattle.diff_area.specs.Copies.{AreStored, AreHeld}
use Rattle.diff_area.proofs.ByPlace.{get-map_range}
use Rattle.cow_volume.specs.Calls.{blocks_in, sets_in}
use Rattle.cow_volume.specs.Ending.{AllTell, IsSync, IsSynced}
use Rattle.cow_volume.specs.StandsFor.{GroupValue, placed, StandsFor}
use Rattle.cow_volume.specs.Resuming.{AreKept}
use Rattle.cow_volume.specs.declared.cause.Cause.{Cause}
use Rattle.cow_volume.specs.declared.cause.Cause.TheVariants.{Volume}
use Rattle.cow_volume.proofs.Group.{quiet_stands, slice_get-set_same, slice_get-set_other, slice_get_inside, slice_get_map, same_number, other_number}
use Rattle.cow_volume.proofs.Kept.{map_set_told}
use Rattle.vss_catalog.specs.Entries.{EntryValue, lists_of, entry_at, entries_of}
use Rattle.vss_catalog.specs.Reading.{catalog_in, number_in}
use Rattle.vss_catalog.specs.Written.{bytes_of, number_bytes}
use Rattle.vss_catalog.proofs.Steps.{number-back, length-number_bytes}
use Rattle.image_store.specs.Closing.{IsCloseFault, OneRose, given_back}
use Rattle.image_store.specs.Head.{HeadValue, said_of, head_bytes, bytes_of_head, IsKeptAs, blocks_of}
use Rattle.image_store.specs.Plain.{PlainStore, plains_of}
use Rattle.image_store.specs.StoreValue.{StoreValue, HasPlains, StandsAs, StandsStill}
use Rattle.image_store.proofs.Plains.{same_lists, synced_kept, told_blocks}
use Rattle.image_store.proofs.Stores.{store_of}

-- ## What lasts of a store that is closed, and what a store is that is opened again.

-- ## devices are flushed one after another

-- the first k were, none of them failed, and all tell what they told
pub record HaveLasted {D : Type 0} (ghosts : Ghosts D) (k : ℕ) (old now : List D) : Type 0 where
  pub told_is : map ghosts.told now ≡ map ghosts.told old
  pub counts : map ghosts.count now ≡ map ghosts.count old
  pub last : (j : ℕ) (d : D) → j < k → slice_get now j ≡ Some d → ghosts.lasting d ≡ ghosts.told d

pub still_told : {D X : Type 0} (told : D → X) (k : ℕ) (old now : List D) (d next : D) → map told now ≡ map told old → slice_get now k ≡ Some d → told next ≡ told d
    → map told (slice_set now k next) ≡ map told old
still_told told k old now d next have at same = map_set_told told now k d next at same ∙ have

pub one_lasted : {D : Type 0} (ghosts : Ghosts D) (k : ℕ) (old now : List D) (d next : D) → HaveLasted ghosts k old now → slice_get now k ≡ Some d
    → ghosts.told next ≡ ghosts.told d → ghosts.count next ≡ ghosts.count d → ghosts.lasting next ≡ ghosts.told next
    → HaveLasted ghosts (k + 1) old (slice_set now k next)
one_lasted ghosts k old now d next have at same counted lasts = grind (arith, still_told, slice_get-set_same, same_number, same_Some, other_number, slice_get-set_other)

-- the next one failed
pub one_failed : {D : Type 0} (count : D → ℕ) (k : ℕ) (old now : List D) (d next : D) → map count now ≡ map count old → slice_get now k ≡ Some d → Rose (count d) (count next)
    → OneRose (map count old) (map count (slice_set now k next))
one_failed count k old now d next counts at rose = grind (arith, slice_get_map, map-set)

maps_same : {X Y : Type 0} (f g : X → Y) (xs : List X) → ((j : ℕ) (x : X) → slice_get xs j ≡ Some x → f x ≡ g x) → map f xs ≡ map g xs
maps_same f g [] h = refl
maps_same f g (x ∷ xs) h = ap (λ y. y ∷ map f xs) (h 0 x refl) ∙ ap (λ ys. g x ∷ ys) (maps_same f g xs (λ j y at. h (suc j) y at))

pub all_lasted : {D : Type 0} (ghosts : Ghosts D) (k : ℕ) (old now : List D) → HaveLasted ghosts k old now → length now ≤ k
    → map ghosts.lasting now ≡ map ghosts.told old
all_lasted ghosts k old now have all = grind (arith, maps_same, slice_get_within)

-- ## the entries of a group

entry_there : {D : Type 0} (g : GroupValue D) (names : List TextValue) (v : ℕ) → v < length g.area.volumes → slice_get (entries_of g names) v ≡ Some (entry_at g names v)
entry_there g names v l = get-map_range (entry_at g names) 0 (length g.area.volumes) v v l (omega arith)

pub as_many_entries : {D : Type 0} (g : GroupValue D) (names : List TextValue) → length (entries_of g names) ≡ length g.area.volumes
as_many_entries g names = length-map-range_with_len (entry_at g names) 0 (length g.area.volumes)

pub own_blocks : {D : Type 0} (g : GroupValue D) (names : List TextValue) → blocks_of (entries_of g names) ≡ g.area.volumes
own_blocks g names = same_lists (blocks_of (entries_of g names)) g.area.volumes (length-map (entries_of g names) (λ (e : EntryValue). e.blocks) ∙ as_many_entries g names)
    (λ v x y at is. (let within = slice_get_within g.area.volumes v y is in
    sym (same_Some (blocks_in (slice_get g.area.volumes v)) x
    (sym (slice_get_map (λ (e : EntryValue). e.blocks) (entries_of g names) v (entry_at g names v) (entry_there g names v (omega arith))) ∙ at)) ∙ ap blocks_in is))

-- ## a store that is closed

-- what is held of devices and of the area's device is kept of the group that they are
pub kept_of : {D E : Type 0} (told : D → Option (List (List ℕ))) (held : E → Option (List (List ℕ))) (g : GroupValue D) (names : List TextValue) (last : ℕ)
    (devices : List E) (area : E) (p : PlainStore)
    (stands : StandsAs told (store_of g names last) p) → map held devices ≡ map told g.devices → is_some (held area) ≡ true
    → AreStored (held area) (copies (placed g.area.volumes) stands.group.hs) → IsKeptAs held devices area (said_of (store_of g names last)) p
kept_of told held g names last devices area p stands blocks tells stored =
    let hs = stands.group.hs in
    let all = stands.group.stands in
    let entries = entries_of g names in
    let long : length devices ≡ length g.devices = sym (length-map devices held) ∙ ap length blocks ∙ length-map g.devices told in
    let many = as_many_entries g names in
    record {
      hs = hs;
      last = stands.last;
      devices_are = long ∙ all.devices ∙ sym many;
      histories = all.histories ∙ sym many;
      each = λ v d e h at is of.
          let in_hs = slice_get_within hs v h of in
          let many_hs = all.histories in
          let many_devices = all.devices in
          let many_images = all.images in
          let within : v < length g.area.volumes = omega arith in
          let n = slice_get_inside g.area.volumes v within in
          let x = slice_get_inside g.devices v (omega arith) in
          let sets = slice_get_inside g.images v (omega arith) in
          let held_is : held d ≡ told x.0 = same_Some (held d) (told x.0)
          (sym (slice_get_map held devices v d at) ∙ ap (λ (ts : List (Option (List (List ℕ)))). slice_get ts v) blocks ∙ slice_get_map told g.devices v x.0 x.1) in
          let volume = all.each v n.0 x.0 sets.0 h n.1 x.1 sets.1 of in
          let own = told_blocks (told g.area.device) (told x.0) (contents n.0 h.writes (length h.writes)) stands.group.area (stands.group.devices v x.0 x.1) volume.blocks in
          let entry : entry_at g names v ≡ e = same_Some (entry_at g names v) e (sym (entry_there g names v within) ∙ is) in
          let size_is : n.0 ≡ e.blocks = sym (ap blocks_in n.1) ∙ ap (λ (f : EntryValue). f.blocks) entry in
          let sets_is : e.images ≡ sets.0 = sym (ap (λ (f : EntryValue). f.images) entry) ∙ ap sets_in sets.1 in
          record {
            blocks = held_is ∙ own ∙ ap (λ (m : ℕ). Some (contents m h.writes (length h.writes))) size_is;
            sets = sets_is ∙ volume.sets_are;
            images = volume.images;
          };
      tells = tells;
      stored = subst (λ (ns : List ℕ). AreStored (held area) (copies (placed ns) hs)) (sym (own_blocks g names)) stored;
      given = stands.given;
      volumes = stands.group.plains ∙ ap (λ (ns : List ℕ). plains_of ns hs) (sym (own_blocks g names));
    }

pub closed_kept : {D : Type 0} (ghosts : Ghosts D) (old new : GroupValue D) (names : List TextValue) (last : ℕ) (devices : List D)
    (done : Unit {0}) (p : PlainStore)
    → IsSync ghosts old new (Ok done) → ghosts.lasting new.area.device ≡ ghosts.told new.area.device → map ghosts.lasting devices ≡ map ghosts.told new.devices
    → StandsAs ghosts.told (store_of old names last) p
    → IsKeptAs ghosts.lasting devices new.area.device (said_of (store_of old names last)) p
closed_kept ghosts old new names last devices done p sync area lasts stands = grind (arith, kept_of)

-- what is written back to a vector is all of it
whole_again : {X : Type 0} (n : ℕ) (xs ys : List X) → length ys ≡ n → length xs ≡ length ys → take n (xs ++ drop (length xs) ys) ≡ xs
whole_again n xs ys all same = take-append-le n xs (drop (length xs) ys) (omega arith) ∙ take_all n xs (omega arith)

pub closed_outcome : {D : Type 0} (ghosts : Ghosts D) (old new : GroupValue D) (names : List TextValue) (last : ℕ)
    (items before flushed : List D) (len : ℕ)
    (area : D) (done : Unit {0}) (r : Result Unit Cause) → IsSync ghosts old new (Ok done) → ghosts.lasting new.area.device ≡ ghosts.told new.area.device → items ≡ new.devices → length items ≡ len
    → before ≡ items
    → area ≡ new.area.device → OnOk r (map ghosts.lasting flushed ≡ map ghosts.told before) → map ghosts.told flushed ≡ map ghosts.told before
    → OnOk r ((p : PlainStore) → StandsAs ghosts.told (store_of old names last) p
    → IsKeptAs ghosts.lasting (take len (flushed ++ drop (length flushed) items)) area (said_of (store_of old names last)) p)
closed_outcome ghosts old new names last items before flushed len area done (Err cause) sync lasts devices_are many same area_is flushes tells = tt
closed_outcome {D = D} ghosts old new names last items before flushed len area done (Ok all) sync lasts devices_are many same area_is flushes tells = λ p stands.
    let as_many : length flushed ≡ length items = sym (length-map flushed ghosts.told) ∙ ap length tells ∙ length-map before ghosts.told ∙ ap length same in
    subst (λ (a : D). IsKeptAs ghosts.lasting (take len (flushed ++ drop (length flushed) items)) a (said_of (store_of old names last)) p) (sym area_is)
    (subst (λ (ds : List D). IsKeptAs ghosts.lasting ds new.area.device (said_of (store_of old names last)) p) (sym (whole_again len flushed items many as_many))
    (closed_kept ghosts old new names last flushed done p sync lasts (flushes ∙ ap (map ghosts.told) (same ∙ devices_are)) stands))

-- the devices that are given back tell what they told
pub closed_told : {D : Type 0} (told : D → Option (List (List ℕ))) (old new : GroupValue D) (items before flushed : List D) (len : ℕ) → new.devices ≡ old.devices → items ≡ new.devices
    → length items ≡ len → before ≡ items
    → map told flushed ≡ map told before → map told (take len (flushed ++ drop (length flushed) items)) ≡ map told old.devices
closed_told told old new items before flushed len kept devices_are many same tells = grind (arith, length-map, whole_again)

tells_same : {D : Type 0} (told : D → Option (List (List ℕ))) (ds es : List D) → map told ds ≡ map told es → AllTell told es → AllTell told ds
tells_same told ds es same tell = λ v d at.
    let within = slice_get_within ds v d at in
    let many : length ds ≡ length es = sym (length-map ds told) ∙ ap length same ∙ length-map es told in
    let e = slice_get_inside es v (omega arith) in
    let equal : told d ≡ told e.0 = same_Some (told d) (told e.0)
    (sym (slice_get_map told ds v d at) ∙ ap (λ (ts : List (Option (List (List ℕ)))). slice_get ts v) same ∙ slice_get_map told es v e.0 e.1) in
    ap is_some equal ∙ tell v e.0 e.1

-- what is given back stands for what the store stood for
pub closed_still : {D : Type 0} (ghosts : Ghosts D) (old new : GroupValue D) (names : List TextValue) (last : ℕ) (devices : List D) (area : D)
    → IsSynced ghosts old new → map ghosts.told devices ≡ map ghosts.told old.devices → area ≡ new.area.device
    → StandsStill ghosts.told (store_of old names last) (given_back (store_of old names last) devices area)
closed_still {D = D} ghosts old new names last devices area sync same area_is = λ p stands.
    let has = (synced_kept ghosts old new sync).plains p.volumes stands.group in
    let blocks = same ∙ ap (map ghosts.told) (sym sync.devices) in
    let slots = ap ghosts.told area_is in
    let group = (given_back (store_of old names last) devices area).group in
    record {
      group = record {
        hs = has.hs;
        stands = quiet_stands ghosts.told new group has.hs has.stands blocks (sym sync.images) (sym sync.kept.volumes) (sym sync.records) slots;
        devices = tells_same ghosts.told devices new.devices blocks has.devices;
        area = ap is_some slots ∙ has.area;
        plains = has.plains ∙ ap (λ (ns : List ℕ). plains_of ns has.hs) sync.kept.volumes;
      };
      last = stands.last;
      given = stands.given;
    }

-- one of them failed
pub closed_failed : {D : Type 0} (ghosts : Ghosts D) (old new : GroupValue D) (items before flushed : List D) (len : ℕ) (area : D) (r : Result Unit Cause)
    → new.devices ≡ old.devices
    → ghosts.count new.area.device ≡ ghosts.count old.area.device → items ≡ new.devices → length items ≡ len → before ≡ items → area ≡ new.area.device
    → map ghosts.told flushed ≡ map ghosts.told before
    → IfErr r (λ cause. cause ≡ Volume) → OnErr r (OneRose (map ghosts.count before) (map ghosts.count flushed))
    → IfErr r (IsCloseFault ghosts.count old (take len (flushed ++ drop (length flushed) items)) area)
closed_failed ghosts old new items before flushed len area r kept quiet devices_are many same area_is tells is rose = grind (arith, length-map, whole_again)

-- ## a store that is opened

resumed : {D : Type 0} (told : D → Option (List (List ℕ))) (devices : List D) (device : D) (area : AreaValue D) (head : HeadValue) (p : PlainStore)
    → told area.device ≡ told device → ((cs : List Copy) → AreStored (told device) cs → AreHeld (told area.device) area.records cs) → area.volumes ≡ blocks_of head.entries
    → (kept : IsKeptAs told devices device head p) → AreKept told devices area (lists_of head.entries) kept.hs
resumed told devices device area head p same loaded volumes kept = record {
  histories = kept.histories ∙ sym (ap length volumes ∙ length-map head.entries (λ (e : EntryValue). e.blocks));
  each = λ v n d sets h at is row of.
      let in_hs = slice_get_within kept.hs v h of in
      let many = kept.histories in
      let e = slice_get_inside head.entries v (omega arith) in
      let volume = kept.each v d e.0 h is e.1 of in
      let size_is : e.0.blocks ≡ n = same_Some e.0.blocks n (sym (slice_get_map (λ (f : EntryValue). f.blocks) head.entries v e.0 e.1) ∙ ap (λ (ns : List ℕ). slice_get ns v) (sym volumes) ∙ at) in
      let sets_is : e.0.images ≡ sets = same_Some e.0.images sets (sym (slice_get_map (λ (f : EntryValue). f.images) head.entries v e.0 e.1) ∙ row) in
      record {
        blocks = subst (λ (t : Option (List (List ℕ))). IfSome t (λ blocks. blocks ≡ contents n h.writes (length h.writes))) (sym volume.blocks)
            (ap (λ (m : ℕ). contents m h.writes (length h.writes)) size_is);
        sets_are = sym sets_is ∙ volume.sets;
        images = volume.images;
      };
  tells = ap is_some same ∙ kept.tells;
  held = loaded (copies (placed area.volumes) kept.hs) (subst (λ (ns : List ℕ). AreStored (told device) (copies (placed ns) kept.hs)) (sym volumes) kept.stored);
}

pub opened_stands : {D : Type 0} (told : D → Option (List (List ℕ))) (devices : List D) (device : D) (area : AreaValue D) (head : HeadValue) (s : StoreValue D) (p : PlainStore)
    → told area.device ≡ told device → ((cs : List Copy) → AreStored (told device) cs → AreHeld (told area.device) area.records cs) → area.volumes ≡ blocks_of head.entries
    → s.group ≡ record { devices = devices; area = area; images = lists_of head.entries } → s.last ≡ head.last
    → ((hs : List History) → AreKept told devices area (lists_of head.entries) hs → StandsFor told s.group hs) → IsKeptAs told devices device head p → StandsAs told s p
opened_stands {D = D} told devices device area head s p same loaded volumes group last stands kept =
    let parts = resumed told devices device area head p same loaded volumes kept in
    record {
      group = subst (λ (g : GroupValue D). HasPlains told g p.volumes) (sym group)
          (record {
            hs = kept.hs;
            stands = subst (λ (g : GroupValue D). StandsFor told g kept.hs) group (stands kept.hs parts);
            devices = λ v d at.
                let within = slice_get_within devices v d at in
                let many = kept.devices_are in
                let same_many = kept.histories in
                let e = slice_get_inside head.entries v (omega arith) in
                let h = slice_get_inside kept.hs v (omega arith) in
                ap is_some (kept.each v d e.0 h.0 at e.1 h.1).blocks;
            area = parts.tells;
            plains = kept.volumes ∙ ap (λ (ns : List ℕ). plains_of ns kept.hs) (sym volumes);
          });
      last = kept.last ∙ sym last;
      given = kept.given;
    }

-- ## What lasts of a store that is closed is what the next opening takes up.

-- ## the bytes of a head say one head

said_catalog : (last : ℕ) (es : List EntryValue) → drop 16 (head_bytes last es) ≡ bytes_of es
unfolding head_bytes
said_catalog last es =
    let two = length-append (codes "VSSIMG01" ++ number_bytes last) (number_bytes (length (bytes_of es))) in
    let three = length-number_bytes last in
    let four = length-number_bytes (length (bytes_of es)) in
    drop_at (codes "VSSIMG01" ++ number_bytes last ++ number_bytes (length (bytes_of es))) (bytes_of es) 16 (omega arith)

said_last : (last : ℕ) (es : List EntryValue) → last < 4294967296 → number_in 0 (drop 8 (head_bytes last es)) ≡ Ok last
unfolding head_bytes
said_last last es l = grind (arith, append_assoc, drop_at, number-back)

pub same_head : (h s : HeadValue) → bytes_of_head h ≡ bytes_of_head s → catalog_in (bytes_of h.entries) ≡ Ok h.entries → catalog_in (bytes_of s.entries) ≡ Ok s.entries → h.last < 4294967296
    → s.last < 4294967296 → h ≡ s
same_head h s same read_h read_s low_h low_s = grind (arith, said_catalog, said_last)

-- ## devices that tell what lasted

pub found : {D : Type 0} (ghosts : Ghosts D) (devices later : List D) (area again : D) (head said : HeadValue) (p : PlainStore) → head ≡ said
    → IsKeptAs ghosts.lasting devices area said p
    → map ghosts.told later ≡ map ghosts.lasting devices → ghosts.told again ≡ ghosts.lasting area → IsKeptAs ghosts.told later again head p
found {D = D} ghosts devices later area again head said p same kept tells slots =
    let many : length later ≡ length devices = sym (length-map later ghosts.told) ∙ ap length tells ∙ length-map devices ghosts.lasting in
    subst (λ (h : HeadValue). IsKeptAs ghosts.told later again h p) (sym same)
    (record {
      hs = kept.hs;
      last = kept.last;
      devices_are = many ∙ kept.devices_are;
      histories = kept.histories;
      each = λ v d e h at is of.
          let within = slice_get_within later v d at in
          let x = slice_get_inside devices v (omega arith) in
          let held : ghosts.told d ≡ ghosts.lasting x.0 = same_Some (ghosts.told d) (ghosts.lasting x.0)
          (sym (slice_get_map ghosts.told later v d at) ∙ ap (λ (ts : List (Option (List (List ℕ)))). slice_get ts v) tells
          ∙ slice_get_map ghosts.lasting devices v x.0 x.1) in
          let volume = kept.each v x.0 e h x.1 is of in
          record { blocks = held ∙ volume.blocks; sets = volume.sets; images = volume.images };
      tells = ap is_some slots ∙ kept.tells;
      stored = subst (λ (t : Option (List (List ℕ))). AreStored t (copies (placed (blocks_of said.entries)) kept.hs)) (sym slots) kept.stored;
      given = kept.given;
      volumes = kept.volumes;
    })
