-- What was lent is told as it is; and each line that looks at volumes or images, against the definitions.
use Rattle.std.proofs.Common.{◌≡◌, ℕ, List, refl, subst, Option, None, take, ◌<◌, [], length, ap, sym, ◌∙◌, Bool, true, false, Some, is_some, option_map, arith}
use Rattle.std.proofs.Common.{slice_get}
use Rattle.vss_model.specs.Words.{line_of, Reply}
use Rattle.vss_model.specs.declared.told.Told.TheVariants as told
use Rattle.vss_world.proofs.Kept.{not_complete, not_standing, kept_is, none_is, some_is}
use Rattle.vss_world.proofs.Moved.{world_of, in_order, OfDevices, clean_devices, failed_devices, rose_for, line_moves, volumes_parts}
use Rattle.vss_world.proofs.Words.{Fingerprint, Ghosts, IsBlockSeen, IsFingerprint, IsReading, IsShown, IsWide, Plan, ProviderValue, kept_same, sha256, Act}
use Rattle.vss_world.proofs.Words.{Clean, Coded, Evicted, HasImage, IfStandFor, IfStands, ImageBlock, ImageDigest, IsBlock, IsDigestSeen, IsMoved, IsOf, Keeps}
use Rattle.vss_world.proofs.Words.{Kept, KeptSets, Line, ObjectNotFound, Op, Properties, PropertiesOf, Query, Read, SessionsValue, SetFacts, Stands}
use Rattle.vss_world.proofs.Words.{State, Told, WorldValue, blocks_of, facts_of, history_at as provided_at, history_of, image_block, image_blocks, is_complete}
use Rattle.vss_world.proofs.Words.{is_kept_set, kept, kept_image, line, point_in, properties, row_number, row_of, sets_of, simple_outcome, state}
use Rattle.vss_world.proofs.Words.{unwrap_or, used_by, AreGroups, AreKept, BlockOf, BlocksOf, Cause, Fault, Faulted, Fits, HasCause, HasLists, History}
use Rattle.vss_world.proofs.Words.{IsBlockTold, IsDigestIf, IsDigestTold, IsPointOf, Mark, RoseFor, VssResult, Write, WriterRow, concat}
use Rattle.vss_world.proofs.Words.{content, contents, counts_of, devices_of, evicted, is_fault, line_allows, line_enabled, lost, mark_of, read_as, tells_of}
use Rattle.vss_world.proofs.Words.{tells_of-at, volume_by}

-- ## What was lent is told as it is, and nothing changes.

pub reading_itself : {D : Type 0} (device : Ghosts D) (s : Plan) (p : ProviderValue D) (v : ℕ) → IsReading device s p p v None
reading_itself device s p v = record {
  quiet = record { call = record { kept = kept_same device p.groups; elsewhere = λ r g e n. refl }; blocks = refl; lasts = λ place h. h; stands = λ hs are. are };
  cause = refl;
  rest = refl;
}

pub lent_told : {D : Type 0} (device : Ghosts D) (s : Plan) (p : ProviderValue D) (v : ℕ) (set : Option ℕ) (b : ℕ) (bytes : List ℕ) (f : Fingerprint) → IsShown device.told s p.groups v set b bytes
    → IsFingerprint bytes f → IsWide f → IsBlockSeen device s p p v set b (told.Block f.first f.digest)
lent_told device s p v set b bytes f shown exact wide = (
  reading_itself device s p v,
  record {
    exact = λ tells hs are point is. let same = shown tells hs are point is in record {
      first = subst (λ (x : List ℕ). f.first ≡ take 8 x) same exact.first;
      digest = subst (λ (x : List ℕ). f.digest ≡ sha256 x) same exact.digest;
    };
    wide = record { first = wide.first; first_bytes = wide.first_bytes; digest = wide.digest; digest_bytes = wide.digest_bytes };
  },
)

-- ## Each line that looks at volumes or images, against the definitions.

-- ## what is read of volumes and images, against the definitions

-- ## what is told fits

block_fits : {D : Type 0} (blocks_told : D → Option (List (List ℕ))) (s : Plan) (p : ProviderValue D) (v : ℕ) (set : Option ℕ) (b : ℕ) (first digest : List ℕ) (st : State) (point : ℕ)
    → v < length s.volumes → AreGroups blocks_told s p.groups st.volumes → IsBlockTold blocks_told s p v set b first digest → IsPointOf set (history_of st v) point
    → Fits (tells_of blocks_told s (devices_of p.groups)) (BlockOf v (content (history_of st v).writes point b)) (told.Block first digest)
block_fits blocks_told s p v set b first digest st point within groups seen is = grind (arith, tells_of-at)

pub digest_slot : {D : Type 0} (blocks_told : D → Option (List (List ℕ))) (s : Plan) (p : ProviderValue D) (v : ℕ) (set : Option ℕ) (digest : List ℕ) (st : State) (point : ℕ)
    → v < length s.volumes → AreGroups blocks_told s p.groups st.volumes → IsDigestTold blocks_told s p.groups v set digest → IsPointOf set (history_of st v) point
    → IsDigestIf (slice_get (tells_of blocks_told s (devices_of p.groups)) v) (concat (contents (blocks_of s v) (history_of st v).writes point)) digest
digest_slot blocks_told s p v set digest st point within groups seen is = grind (arith, tells_of-at)

-- ## lines that change at most the volumes

-- the line always goes, evicts nothing, and loses nobody
pub record IsPlain (s : Plan) (lane : ℕ) (op : Op) : Type 0 where
  pub on : (st : State) → line_enabled s st lane op ≡ true
  pub clean : (st : State) → line_allows s st op Clean ≡ true
  pub none : (st : State) → evicted s st (Line lane op) ≡ []
  pub nobody : (st : State) → lost st (Line lane op) ≡ []

-- what such a line comes to in a state
pub record Says {D : Type 0} (told : D → Option (List (List ℕ))) (s : Plan) (lane : ℕ) (op : Op) (answer : Told) (old new : ProviderValue D) (listed_sets : List ℕ) (st : State) : Type 0 where
  pub allowed : line_allows s st op (mark_of answer) ≡ true
  pub said : Reply
  pub volumes : List History
  pub is : line s lane op (mark_of answer) st ≡ (said, record st { volumes = volumes })
  pub fits : Fits (tells_of told s (devices_of old.groups)) said answer
  pub lists : (rows : List WriterRow) → HasLists said listed_sets rows
  pub groups : AreGroups told s new.groups volumes

-- what a line reads of a volume in a state, as it is or as an image shows it
pub record Shows {X : Type 0} (s : Plan) (lane : ℕ) (op : Op) (reply_of : X → Reply) (of : List Write → ℕ → X) (v : ℕ) (set : Option ℕ) (st : State) : Type 0 where
  pub point : ℕ
  pub is_point : IsPointOf set (history_of st v) point
  pub reads : (mark : Mark) → line s lane op mark st ≡ (read_as mark (reply_of (of (history_of st v).writes point)), st)
  pub faults : line_allows s st op Fault ≡ true

module _ {D : Type 0} (device : Ghosts D) {s : Plan} {p : ProviderValue D} {x : SessionsValue} {l : List ℕ} {e f : List Evicted} (of : IsOf (world_of p x l e) s) (none : f ≡ []) where
  said_moves : {lane : ℕ} {op : Op} {q : ProviderValue D} {k : List ℕ} (answer : Told) → IsPlain s lane op
      → OfDevices device s (Line lane op) (simple_outcome answer) (world_of p x l e) (world_of q x k f) → q ≡ record p { groups = q.groups }
      → IfStands device.told (world_of p x l e) s (Says device.told s lane op answer p q k)
      → IsMoved device (world_of p x l e) (world_of q x k f) s (Line lane op) (simple_outcome answer)
  said_moves {lane = lane} {op = op} {q = q} {k = k} answer plain devices same says =
      line_moves device s lane op answer p q x l k e f devices
      (λ acts stands. let st = state s acts in let said = says acts stands in record {
        on = plain.on st;
        allowed = said.allowed;
        said = said.said;
        next = record st { volumes = said.volumes };
        is = said.is;
        fits = said.fits;
        lists = λ rows are. said.lists rows;
        evicts = none ∙ sym (plain.none st);
        nobody = plain.nobody st;
        sets = refl;
        parts = volumes_parts device.told p q x s st said.volumes stands.at same said.groups;
      })

  -- no device failed
  pub clean_moves : {lane : ℕ} {op : Op} {q : ProviderValue D} {k : List ℕ} (answer : Told) → IsPlain s lane op → AreKept device p.groups q.groups
      → counts_of device.count q.groups ≡ counts_of device.count p.groups
      → is_fault (mark_of answer) ≡ false → q ≡ record p { groups = q.groups } → IfStands device.told (world_of p x l e) s (Says device.told s lane op answer p q k)
      → IsMoved device (world_of p x l e) (world_of q x k f) s (Line lane op) (simple_outcome answer)
  clean_moves {lane = lane} {op = op} {q = q} {k = k} answer plain kept same clean rest says =
      said_moves answer plain (clean_devices device s (Line lane op) (simple_outcome answer) p q x x l k e f of kept of.writers same clean) rest says

  -- a device of the line's volume failed
  pub failed_moves : {lane : ℕ} {op : Op} {q : ProviderValue D} (answer : Told) (v : ℕ) (fault : Cause) → volume_by (line_of op) ≡ Some v → IsPlain s lane op → AreKept device p.groups q.groups
      → HasCause device.count s v (Some fault) p.groups q.groups → is_fault (mark_of answer) ≡ true → q ≡ record p { groups = q.groups }
      → IfStands device.told (world_of p x l e) s (Says device.told s lane op answer p q l)
      → IsMoved device (world_of p x l e) (world_of q x l f) s (Line lane op) (simple_outcome answer)
  failed_moves {lane = lane} {op = op} {q = q} answer v fault at plain kept cause fails rest says =
      said_moves answer plain
      (failed_devices device s (Line lane op) (simple_outcome answer) p q x x l l e f of kept of.writers
      (subst (λ (o : Option ℕ). RoseFor s o (counts_of device.count p.groups) (counts_of device.count q.groups)) (sym at) (rose_for device.count s v fault p.groups q.groups cause)) fails) rest says

  -- nothing changes
  pub answered_moves : {lane : ℕ} {op : Op} {k : List ℕ} (answer : Told) → IsPlain s lane op → is_fault (mark_of answer) ≡ false
      → IfStands device.told (world_of p x l e) s (Says device.told s lane op answer p p k)
      → IsMoved device (world_of p x l e) (world_of p x k f) s (Line lane op) (simple_outcome answer)
  answered_moves answer plain clean says = clean_moves answer plain (kept_same device p.groups) refl clean refl says

  pub refused_moves : {lane : ℕ} {op : Op} (why : VssResult) → IsPlain s lane op → IfStands device.told (world_of p x l e) s (λ st. line s lane op Clean st ≡ (Coded why, st))
      → IsMoved device (world_of p x l e) (world_of p x l f) s (Line lane op) (simple_outcome (told.Result why))
  refused_moves why plain is =
      answered_moves (told.Result why) plain refl
      (λ acts stands. let st = state s acts
      in record { allowed = plain.clean st; said = Coded why; volumes = st.volumes; is = is acts stands; fits = refl; lists = λ rows. tt; groups = stands.at.groups })

  -- ## lines that read

  module _ {lane : ℕ} {op : Op} {q : ProviderValue D} {v : ℕ} {set : Option ℕ} (plain : IsPlain s lane op) (at : volume_by (line_of op) ≡ Some v) where
    fault_moves : {X : Type 0} {reply_of : X → Reply} {of : List Write → ℕ → X} (fault : Cause) → IfStands device.told (world_of p x l e) s (Shows s lane op reply_of of v set)
        → IsReading device s p q v (Some fault) → IsMoved device (world_of p x l e) (world_of q x l f) s (Line lane op) (simple_outcome told.Fault)
    fault_moves fault shows reading =
        failed_moves told.Fault v fault at plain reading.quiet.call.kept reading.cause refl reading.rest
        (λ acts stands. let st = state s acts in let shown = shows acts stands in record {
          allowed = shown.faults;
          said = Faulted;
          volumes = st.volumes;
          is = shown.reads Fault;
          fits = refl;
          lists = λ rows. tt;
          groups = reading.quiet.stands st.volumes stands.at.groups;
        })

    pub block_moves : (b : ℕ) (answer : Told) → v < length s.volumes → IfStands device.told (world_of p x l e) s (Shows s lane op (BlockOf v) (λ ws point. content ws point b) v set)
        → IsBlockSeen device s p q v set b answer → IsMoved device (world_of p x l e) (world_of q x l f) s (Line lane op) (simple_outcome answer)
    block_moves b (told.Block first digest) within shows seen =
        clean_moves (told.Block first digest) plain seen.0.quiet.call.kept seen.0.cause refl seen.0.rest
        (λ acts stands. let st = state s acts in let shown = shows acts stands in record {
          allowed = plain.clean st;
          said = BlockOf v (content (history_of st v).writes shown.point b);
          volumes = st.volumes;
          is = shown.reads Clean;
          fits = block_fits device.told s p v set b first digest st shown.point within stands.at.groups seen.1 shown.is_point;
          lists = λ rows. tt;
          groups = seen.0.quiet.stands st.volumes stands.at.groups;
        })
    block_moves b told.Fault within shows seen = fault_moves seen.0 shows seen.1
    block_moves b _ within shows seen = absurd seen

    pub digest_moves : (answer : Told) → v < length s.volumes → IfStands device.told (world_of p x l e) s (Shows s lane op (BlocksOf v) (contents (blocks_of s v)) v set)
        → IsDigestSeen device s p q v set answer → IsMoved device (world_of p x l e) (world_of q x l f) s (Line lane op) (simple_outcome answer)
    digest_moves (told.Digest digest) within shows seen =
        clean_moves (told.Digest digest) plain seen.0.quiet.call.kept seen.0.cause refl seen.0.rest
        (λ acts stands. let st = state s acts in let shown = shows acts stands in record {
          allowed = plain.clean st;
          said = BlocksOf v (contents (blocks_of s v) (history_of st v).writes shown.point);
          volumes = st.volumes;
          is = shown.reads Clean;
          fits = (digest, digest_slot device.told s p v set digest st shown.point within stands.at.groups seen.1 shown.is_point, refl);
          lists = λ rows. tt;
          groups = seen.0.quiet.stands st.volumes stands.at.groups;
        })
    digest_moves told.Fault within shows seen = fault_moves seen.0 shows seen.1
    digest_moves _ within shows seen = absurd seen

-- ## images

-- of an image that is kept
pub record IsOfImage (st : State) (n v : ℕ) (k : Kept) : Type 0 where
  pub row_is : row_of st n ≡ Some k.row
  pub complete : is_complete k.row.result ≡ true
  pub point : point_in n (history_of st v).images ≡ Some k.point

pub of_image : (st : State) (n v : ℕ) (k : Kept) → kept_image st n v ≡ Some k → IsOfImage st n v k
of_image st n v k e = grind arith

-- the provider has an image that is kept
pub provided_point : (s : Plan) (acts : List Act) (n v : ℕ) (k : Kept) → kept_image (state s acts) n v ≡ Some k → point_in n (history_of (state s acts) v).images ≡ Some k.point
provided_point s acts n v k e = (of_image (state s acts) n v k e).point

-- at each state, whether the image is kept
abbrev pub IsKeptIf : {D : Type 0} → (D → Option (List (List ℕ))) → WorldValue D → Plan → ℕ → ℕ → Bool → Type 0
IsKeptIf blocks_told w s n v has = (acts : List Act) → Stands blocks_told w s acts → is_some (kept_image (state s acts) n v) ≡ has

-- ## from what the code asks

-- what is asked of both parts, one after the other
pub not_kept_if : {D : Type 0} {told : D → Option (List (List ℕ))} {s : Plan} {w : WorldValue D} (n v : ℕ) → ((st : State) → Keeps w.sessions st → false ≡ is_kept_set st n)
    → IsKeptIf told w s n v false
not_kept_if {s = s} n v is acts stands = ap is_some (not_complete (state s acts) n v (sym (is (state s acts) stands.at.sessions)))

pub kept_if_stands : {D : Type 0} {told : D → Option (List (List ℕ))} {s : Plan} {w : WorldValue D} {has : Bool} (n v : ℕ) → ((st : State) → Keeps w.sessions st → true ≡ is_kept_set st n)
    → HasImage told s w.provider.groups v n has → IsKeptIf told w s n v has
kept_if_stands {s = s} {has = has} n v is stood acts stands =
    let st = state s acts in
    let complete : is_kept_set st n ≡ true = sym (is st stands.at.sessions) in
    by_answer has (stood st.volumes stands.at.groups) complete
  where
    by_answer : (b : Bool) → is_some (point_in n (history_of (state s acts) v).images) ≡ b → is_kept_set (state s acts) n ≡ true → is_some (kept_image (state s acts) n v) ≡ b
    by_answer true has complete = ap is_some (kept_is (state s acts) n v (in_order s acts).numbered complete has).is
    by_answer false has complete = ap is_some (not_standing (state s acts) n v has)

-- a set of which nothing is told keeps no image
pub without_facts : {D : Type 0} {told : D → Option (List (List ℕ))} {s : Plan} {w : WorldValue D} {facts : Option SetFacts} (n v : ℕ) → facts ≡ None
    → ((st : State) → Keeps w.sessions st → facts ≡ option_map facts_of (row_of st n)) → IsKeptIf told w s n v false
without_facts n v none is acts stands = grind arith

-- ## lines on one image

-- where that is not kept, it is not found
pub record IsOnImage (s : Plan) (lane n v : ℕ) (op : Op) : Type 0 where
  pub plain : IsPlain s lane op
  pub absent : (st : State) → kept_image st n v ≡ None → line s lane op Clean st ≡ (Coded ObjectNotFound, st)

pub block_line : {s : Plan} {lane n v b : ℕ} → IsOnImage s lane n v (ImageBlock n v b)
block_line = grind arith

pub digest_line : {s : Plan} {lane n v : ℕ} → IsOnImage s lane n v (ImageDigest n v)
digest_line = grind arith

pub properties_line : {s : Plan} {lane n v : ℕ} → IsOnImage s lane n v (Properties n v)
properties_line = grind arith

-- ## moves

module _ {D : Type 0} (device : Ghosts D) {s : Plan} {p : ProviderValue D} {x : SessionsValue} {l : List ℕ} {e f : List Evicted} (of : IsOf (world_of p x l e) s) (none : f ≡ []) where
  pub read_moves : {lane v b : ℕ} {answer : Told} {q : ProviderValue D} → IsBlock s v b → IsBlockSeen device s p q v None b answer
      → IsMoved device (world_of p x l e) (world_of q x l f) s (Line lane (Read v b)) (simple_outcome answer)
  read_moves {v = v} {b = b} {answer = answer} within seen =
      block_moves device of none (record { on = λ st. refl; clean = λ st. refl; none = λ st. refl; nobody = λ st. refl }) refl b answer within.0
      (λ acts stands. let st = state s acts in record { point = length (history_of st v).writes; is_point = refl; reads = λ mark. refl; faults = refl }) seen

  pub query_moves : {lane v : ℕ} {k : List ℕ} → IfStands device.told (world_of p x l e) s (λ st. k ≡ sets_of (kept st (history_of st v)))
      → IsMoved device (world_of p x l e) (world_of p x k f) s (Line lane (Query v)) (simple_outcome told.Images)
  query_moves {v = v} are =
      answered_moves device of none told.Images (record { on = λ st. refl; clean = λ st. refl; none = λ st. refl; nobody = λ st. refl }) refl
      (λ acts stands. let st = state s acts in record {
        allowed = refl;
        said = KeptSets (sets_of (kept st (history_of st v)));
        volumes = st.volumes;
        is = refl;
        fits = refl;
        lists = λ rows. are acts stands;
        groups = stands.at.groups;
      })

  -- ## a line on one image

  -- where that is not kept
  pub not_kept_moves : {lane n v : ℕ} {op : Op} {b : Bool} → IsOnImage s lane n v op → IsKeptIf device.told (world_of p x l e) s n v b → b ≡ false
      → IsMoved device (world_of p x l e) (world_of p x l f) s (Line lane op) (simple_outcome (told.Result ObjectNotFound))
  not_kept_moves {n = n} {v = v} on is not_so =
      refused_moves device of none ObjectNotFound on.plain (λ acts stands. on.absent (state s acts) (none_is (kept_image (state s acts) n v) (is acts stands ∙ not_so)))

  -- where the provider does not have it
  pub absent_moves : {lane n v : ℕ} {op : Op} {q : ProviderValue D} → IsOnImage s lane n v op → HasImage device.told s p.groups v n false → q ≡ p
      → IsMoved device (world_of p x l e) (world_of q x l f) s (Line lane op) (simple_outcome (told.Result ObjectNotFound))
  absent_moves {lane = lane} {n = n} {v = v} {op = op} on has same =
      subst (λ (z : ProviderValue D). IsMoved device (world_of p x l e) (world_of z x l f) s (Line lane op) (simple_outcome (told.Result ObjectNotFound))) (sym same)
      (not_kept_moves on (grind (arith, not_complete, not_standing)) refl)

  pub image_moves : {lane n v b : ℕ} {c : Bool} {answer : Told} {q : ProviderValue D} → IsBlock s v b → IsKeptIf device.told (world_of p x l e) s n v c → c ≡ true
      → IsBlockSeen device s p q v (Some n) b answer
      → IsMoved device (world_of p x l e) (world_of q x l f) s (Line lane (ImageBlock n v b)) (simple_outcome answer)
  image_moves {n = n} {v = v} {b = b} {answer = answer} within is so seen =
      block_moves device of none (block_line {n = n} {v = v} {b = b}).plain refl b answer within.0
      (λ acts stands. let st = state s acts in let k = some_is (kept_image st n v) (is acts stands ∙ so) in record {
        point = k.0.point;
        is_point = provided_point s acts n v k.0 k.1;
        reads = λ mark. ap (λ (o : Option Kept). image_block v b o mark st) k.1;
        faults = is acts stands ∙ so;
      }) seen

  pub image_digest_moves : {lane n v : ℕ} {c : Bool} {answer : Told} {q : ProviderValue D} → v < length s.volumes → IsKeptIf device.told (world_of p x l e) s n v c → c ≡ true
      → IsDigestSeen device s p q v (Some n) answer
      → IsMoved device (world_of p x l e) (world_of q x l f) s (Line lane (ImageDigest n v)) (simple_outcome answer)
  image_digest_moves {n = n} {v = v} {answer = answer} within is so seen =
      digest_moves device of none {set = Some n} (digest_line {n = n} {v = v}).plain refl answer within
      (λ acts stands. let st = state s acts in let k = some_is (kept_image st n v) (is acts stands ∙ so) in record {
        point = k.0.point;
        is_point = provided_point s acts n v k.0 k.1;
        reads = λ mark. ap (λ (o : Option Kept). image_blocks s v o mark st) k.1;
        faults = is acts stands ∙ so;
      }) seen

  pub properties_moves : {lane n v : ℕ} {c : Bool} {facts : SetFacts} {cut used : ℕ} → IsKeptIf device.told (world_of p x l e) s n v c → c ≡ true
      → ((st : State) → Keeps x st → Some facts ≡ option_map facts_of (row_of st n))
      → cut ≡ unwrap_or facts.cut_at 0 → IfStandFor device.told s p.groups (λ hs. used ≡ unwrap_or (used_by (blocks_of s v) (provided_at hs v).writes (provided_at hs v).images n) 0)
      → IsMoved device (world_of p x l e) (world_of p x l f) s (Line lane (Properties n v)) (simple_outcome (told.Properties facts.context cut used))
  properties_moves {n = n} {v = v} {facts = facts} {cut = cut} {used = used} is so told_facts cut_is used_is =
      answered_moves device of none (told.Properties facts.context cut used) (properties_line {n = n} {v = v}).plain refl
      (λ acts stands.
      let st = state s acts in
      let k = some_is (kept_image st n v) (is acts stands ∙ so) in
      let of_it = of_image st n v k.0 k.1 in
      let row : facts ≡ facts_of k.0.row = (let h = told_facts st stands.at.sessions ∙ ap (option_map facts_of) of_it.row_is in cc) in
      let number : k.0.row.number ≡ n = row_number n st.sets k.0.row of_it.row_is in
      let h = history_of st v in
      let used_as : used ≡ unwrap_or (used_by (blocks_of s v) h.writes h.images k.0.row.number) 0 =
      used_is st.volumes stands.at.groups ∙ ap (λ (m : ℕ). unwrap_or (used_by (blocks_of s v) h.writes h.images m) 0) (sym number) in
      record {
        allowed = refl;
        said = PropertiesOf k.0.row.context (unwrap_or k.0.row.cut_at 0) (unwrap_or (used_by (blocks_of s v) h.writes h.images k.0.row.number) 0);
        volumes = st.volumes;
        is = ap (λ (o : Option Kept). properties s v o st) k.1;
        fits = ap (λ (z : SetFacts). told.Properties z.context cut used) row ∙ ap (λ (m : ℕ). told.Properties k.0.row.context m used) (cut_is ∙ ap (λ (z : SetFacts). unwrap_or z.cut_at 0) row)
            ∙ ap (λ (m : ℕ). told.Properties k.0.row.context (unwrap_or k.0.row.cut_at 0) m) used_as;
        lists = λ rows. tt;
        groups = stands.at.groups;
      })
