-- Images that are deleted, and volumes that are brought back to one, against the definitions.
use Rattle.std.proofs.Common.{◌≡◌, ℕ, ◌<◌, ◌≤◌, List, [], length, refl, ap, sym, ◌∙◌, subst, arith, Bool, true, false, ◌&&◌, Option, Some, None, map, nat_lt}
use Rattle.std.proofs.Common.{option_map, if◌then◌else◌, Ok, Err}
use Rattle.vss_world.proofs.Words.{Act, AreGroups, AreWithout, Cause, Clean, DeleteImage, DeleteSet, Deleted, Evicted, FaultAfter, FaultedAfter, Fine, Ghosts}
use Rattle.vss_world.proofs.Words.{GroupValue, HasGroups, History, IsDropped, IsMoved, IsOf, IsPlan, IsRevert, Keeps, Kept, Line, Mark, ObjectNotFound, Plan}
use Rattle.vss_world.proofs.Words.{ProviderValue, Revert, SessionsValue, SetFacts, SnapshotSetInProgress, Stands, State, UnsupportedContext, VssResult}
use Rattle.vss_world.proofs.Words.{blocks_of, change_at, count_images, count_within as few_images, delete_kept, dropped, facts_of, history_of, is_among}
use Rattle.vss_world.proofs.Words.{is_backup, is_kept_set, kept_image, lt-ltb, may_stop_after, point_in, refused, revert_refusal, revert_to}
use Rattle.vss_world.proofs.Words.{reverted, reverted_in_part, row_number, row_of, simple_outcome, state, to_restore}
use Rattle.provider.specs.Words.{Fault}
use Rattle.vss_model.specs.declared.told.Told.TheVariants as told
use Rattle.vss_model.proofs.StateForm.{delete_set, delete_image, revert}
use Rattle.vss_world.proofs.Moved.{world_of}
use Rattle.vss_world.proofs.Looking.{IsPlain, clean_moves, failed_moves, refused_moves, IsKeptIf, IsOnImage, of_image, provided_point}
use Rattle.vss_world.proofs.Kept.{some_is}

-- ## a set

-- one is deleted where it is complete and has an image
deleted_if : (n : ℕ) (st : State) (complete some : Bool) → is_kept_set st n ≡ complete → nat_lt 0 (count_images n st.volumes) ≡ some
    → delete_set n st ≡ (if complete && some then (Deleted (count_images n st.volumes), record st { volumes = map (dropped n) st.volumes }) else refused ObjectNotFound st)
unfolding delete_set
deleted_if n st complete some e f = grind arith

pub few_gone : {D : Type 0} (device : Ghosts D) (s : Plan) (old new : List (GroupValue D)) (set stood : ℕ) (hs : List History) → IsPlan s → HasGroups s old → AreGroups device.told s old hs
    → AreWithout device old new set stood → stood < 4294967296
few_gone device s old new set stood hs plan has groups without =
    fits stood (length s.volumes) plan.few_volumes (subst (λ n. stood ≤ n) groups.histories (subst (λ n. n ≤ length hs) (sym (without.number s has hs groups)) (few_images set hs)))
  where
    fits : (n m : ℕ) → m ≤ 128 → n ≤ m → n < 4294967296
    fits n m k l = omega arith

-- ## one image

image_deleted : (n v : ℕ) (st : State) (o : Option Kept) → kept_image st n v ≡ o → delete_image n v st ≡ delete_kept v o st
unfolding delete_image
image_deleted n v st o e = ap (λ (q : Option Kept). delete_kept v q st) e

pub delete_line : {s : Plan} {lane n v : ℕ} → IsOnImage s lane n v (DeleteImage n v)
delete_line = grind (arith, image_deleted)

-- ## revert

pub revert_is : (s : Plan) (n v : ℕ) (mark : Mark) (st : State) (o : Option Kept) (why : Option VssResult) → kept_image st n v ≡ o → revert_refusal v o st ≡ why
    → revert s n v mark st ≡ revert_to s v why o mark st
unfolding revert
revert_is s n v mark st o why e f = grind arith

pub revert_line : {s : Plan} {lane n v : ℕ} → IsOnImage s lane n v (Revert n v)
revert_line = grind (arith, revert_is)

-- why a revert to a kept image is refused: whether its set has writers, and whether the volume is in the set in progress
abbrev refusal_if : Bool → Bool → Option VssResult
refusal_if backup preparing = if backup then Some UnsupportedContext else if preparing then Some SnapshotSetInProgress else None

-- what is known of the image
record There (n v : ℕ) (backup preparing : Bool) (st : State) : Type 0 where
  kept : Kept
  is : kept_image st n v ≡ Some kept
  refusal : revert_refusal v (Some kept) st ≡ refusal_if backup preparing
  number : kept.row.number ≡ n
  point : point_in n (history_of st v).images ≡ Some kept.point

may_stop : (s : Plan) (n v m : ℕ) (st : State) (k : Kept) → kept_image st n v ≡ Some k → revert_refusal v (Some k) st ≡ None → m < length (to_restore (blocks_of s v) (history_of st v).writes k.point)
    → may_stop_after s st v (kept_image st n v) m ≡ true
may_stop s n v m st k e f l = grind arith

-- ## the moves

pub same_provider : {D : Type 0} (p q : ProviderValue D) → q ≡ record p { groups = q.groups } → q.groups ≡ p.groups → q ≡ p
same_provider {D = D} p q e f = e ∙ ap (λ (gs : List (GroupValue D)). record { groups = gs; set = p.set; volumes = p.volumes }) f

module _ {D : Type 0} (device : Ghosts D) {s : Plan} {p : ProviderValue D} {x : SessionsValue} {l : List ℕ} {e f : List Evicted} (of : IsOf (world_of p x l e) s) (none : f ≡ []) where
  set_plain : {lane n : ℕ} → IsPlain s lane (DeleteSet n)
  set_plain = record { on = λ st. refl; clean = λ st. refl; none = λ st. refl; nobody = λ st. refl }

  pub set_refused : {lane n : ℕ} → ((st : State) → Keeps x st → is_kept_set st n ≡ false)
      → IsMoved device (world_of p x l e) (world_of p x l f) s (Line lane (DeleteSet n)) (simple_outcome (told.Result ObjectNotFound))
  set_refused {n = n} is = refused_moves device of none ObjectNotFound set_plain
      (λ acts stands. let st = state s acts in deleted_if n st false (nat_lt 0 (count_images n st.volumes)) (is st stands.at.sessions) refl)

  module _ {n k : ℕ} {q : ProviderValue D} (is : (st : State) → Keeps x st → is_kept_set st n ≡ true) (without : AreWithout device p.groups q.groups n k)
      (rest : q ≡ record p { groups = q.groups }) where
    number_at : (acts : List Act) → Stands device.told (world_of p x l e) s acts → k ≡ count_images n (state s acts).volumes
    number_at acts stands = without.number s of.groups (state s acts).volumes stands.at.groups

    pub set_none : {lane : ℕ} → k ≡ 0 → IsMoved device (world_of p x l e) (world_of q x l f) s (Line lane (DeleteSet n)) (simple_outcome (told.Result ObjectNotFound))
    set_none {lane = lane} zero_is =
        subst (λ (z : ProviderValue D). IsMoved device (world_of p x l e) (world_of z x l f) s (Line lane (DeleteSet n)) (simple_outcome (told.Result ObjectNotFound)))
        (sym (same_provider p q rest (without.none zero_is)))
        (refused_moves device of none ObjectNotFound set_plain
        (λ acts stands. let st = state s acts in deleted_if n st true false (is st stands.at.sessions) (ap (nat_lt 0) (sym (number_at acts stands) ∙ zero_is))))

    pub set_gone : {lane : ℕ} → 0 < k → IsMoved device (world_of p x l e) (world_of q x l f) s (Line lane (DeleteSet n)) (simple_outcome (told.Deleted k))
    set_gone some =
        clean_moves device of none (told.Deleted k) set_plain without.kept (ap (map device.count) without.devices) refl rest
        (λ acts stands. let st = state s acts in let number = number_at acts stands in record {
          allowed = refl;
          said = Deleted (count_images n st.volumes);
          volumes = map (dropped n) st.volumes;
          is = deleted_if n st true true (is st stands.at.sessions) (lt-ltb 0 (count_images n st.volumes) (subst (λ (m : ℕ). 0 < m) number some));
          fits = ap told.Deleted number;
          lists = λ rows. tt;
          groups = without.stands s st.volumes stands.at.groups;
        })

  pub image_gone : {lane n v : ℕ} {q : ProviderValue D} → IsKeptIf device.told (world_of p x l e) s n v true → IsDropped device s p.groups q.groups v n true → q ≡ record p { groups = q.groups }
      → IsMoved device (world_of p x l e) (world_of q x l f) s (Line lane (DeleteImage n v)) (simple_outcome (told.Deleted 1))
  image_gone {n = n} {v = v} kept drop rest =
      clean_moves device of none (told.Deleted 1) (delete_line {n = n} {v = v}).plain drop.1.kept (ap (map device.count) drop.2) refl rest
      (λ acts stands.
      let st = state s acts in
      let k = some_is (kept_image st n v) (kept acts stands) in
      let number : k.0.row.number ≡ n = row_number n st.sets k.0.row (of_image st n v k.0 k.1).row_is in
      record {
        allowed = refl;
        said = Deleted 1;
        volumes = change_at v (dropped n) st.volumes;
        is = image_deleted n v st (Some k.0) k.1 ∙ ap (λ (m : ℕ). (Deleted 1, record st { volumes = change_at v (dropped m) st.volumes })) number;
        fits = refl;
        lists = λ rows. tt;
        groups = drop.3 st.volumes stands.at.groups;
      })

  module _ (n v : ℕ) {facts : SetFacts} {c : Bool} (kept : IsKeptIf device.told (world_of p x l e) s n v c) (so : c ≡ true)
      (is : (st : State) → Keeps x st → Some facts ≡ option_map facts_of (row_of st n))
      (backup preparing : Bool) (has_writers : is_backup facts.context ≡ backup) (within : is_among v p.volumes ≡ preparing) where
    there : (acts : List Act) → Stands device.told (world_of p x l e) s acts → There n v backup preparing (state s acts)
    there acts stands = grind (arith, some_is, of_image, row_number, provided_point)

    pub revert_refused : {lane : ℕ} (why : VssResult) → refusal_if backup preparing ≡ Some why
        → IsMoved device (world_of p x l e) (world_of p x l f) s (Line lane (Revert n v)) (simple_outcome (told.Result why))
    revert_refused why so =
        refused_moves device of none why (revert_line {n = n} {v = v}).plain
        (λ acts stands. let k = there acts stands in revert_is s n v Clean (state s acts) (Some k.kept) (Some why) k.is (k.refusal ∙ so))

    pub revert_done : {lane : ℕ} {q : ProviderValue D} {done : Unit} → refusal_if backup preparing ≡ None → IsRevert device s p.groups q.groups v n (Ok done) → q ≡ record p { groups = q.groups }
        → IsMoved device (world_of p x l e) (world_of q x l f) s (Line lane (Revert n v)) (simple_outcome told.Ok)
    revert_done free back rest =
        clean_moves device of none told.Ok (revert_line {n = n} {v = v}).plain back.1.kept back.2 refl rest
        (λ acts stands. let st = state s acts in let k = there acts stands in record {
          allowed = refl;
          said = Fine;
          volumes = change_at v (reverted n k.kept.point) st.volumes;
          is = revert_is s n v Clean st (Some k.kept) None k.is (k.refusal ∙ free) ∙ ap (λ (m : ℕ). (Fine, record st { volumes = change_at v (reverted m k.kept.point) st.volumes })) k.number;
          fits = refl;
          lists = λ rows. tt;
          groups = back.3 st.volumes stands.at.groups k.kept.point k.point;
        })

    pub revert_stopped : {lane m : ℕ} {q : ProviderValue D} (fault : Cause) → refusal_if backup preparing ≡ None → IsRevert device s p.groups q.groups v n (Err (Fault m fault))
        → q ≡ record p { groups = q.groups }
        → IsMoved device (world_of p x l e) (world_of q x l f) s (Line lane (Revert n v)) (simple_outcome (told.FaultAfter m))
    revert_stopped {m = m} fault free back rest =
        failed_moves device of none (told.FaultAfter m) v fault refl (revert_line {n = n} {v = v}).plain back.1.kept back.2 refl rest
        (λ acts stands.
        let st = state s acts in
        let k = there acts stands in
        let part = back.3 st.volumes stands.at.groups k.kept.point k.point in
        record {
          allowed = may_stop s n v m st k.kept k.is (k.refusal ∙ free) part.0;
          said = FaultedAfter m;
          volumes = change_at v (reverted_in_part (blocks_of s v) n k.kept.point m) st.volumes;
          is = revert_is s n v (FaultAfter m) st (Some k.kept) None k.is (k.refusal ∙ free)
              ∙ ap (λ (i : ℕ). (FaultedAfter m, record st { volumes = change_at v (reverted_in_part (blocks_of s v) i k.kept.point m) st.volumes })) k.number;
          fits = refl;
          lists = λ rows. tt;
          groups = part.1;
        })
