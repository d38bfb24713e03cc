-- Groups of new volumes stand for histories of zeros, and why a volume does not join a set.
use Rattle.std.proofs.Common.{◌≡◌, ℕ, ◌==◌, List, [], ◌∷◌, refl, ap, sym, ◌∙◌, subst, Bool, Option, map, arith, ◌<◌, ◌≤◌, ◌++◌, length, false, Some, None, Vec}
use Rattle.std.proofs.Common.{vec_capacity}
use Rattle.std.specs.declared.alloc.Global.{Global}
use Rattle.vss_model.specs.Words.{is_among}
use Rattle.provider.proofs.Words.{AreFresh, AreGroups, GroupValue, History, Plan, StandsFor, VolumeRow, blocks_in_group, fresh, length-map, of_group}
use Rattle.provider.proofs.Words.{of_group_if, IsProvider, MaximumNumberOfSnapshotsReached, MaximumNumberOfVolumesReached, le-leb, leb-false, length-append}
use Rattle.provider.proofs.Words.{lt-leb, refusal}

-- ## Groups of new volumes stand for histories of zeros.

fresh_if : (b : Bool) (n : ℕ) (ns : List ℕ) (hs : List History) → hs ≡ map (λ (k : ℕ). fresh) ns → of_group_if b fresh hs ≡ map (λ (k : ℕ). fresh) (of_group_if b n ns)
fresh_if b n ns hs e = grind arith

fresh_in_group : (g : ℕ) (rows : List VolumeRow) → of_group g rows (map (λ (r : VolumeRow). fresh) rows) ≡ map (λ (n : ℕ). fresh) (blocks_in_group g rows)
fresh_in_group g [] = refl
fresh_in_group g (r ∷ rows) = fresh_if (r.group == g) r.blocks (blocks_in_group g rows) (of_group g rows (map (λ (q : VolumeRow). fresh) rows)) (fresh_in_group g rows)

-- the groups of new volumes stand for the state in which a scenario begins
pub fresh_stand : {D : Type 0} (told : D → Option (List (List ℕ))) (s : Plan) (groups : List (GroupValue D)) → AreFresh told s groups
    → AreGroups told s groups (map (λ (r : VolumeRow). fresh) s.volumes)
fresh_stand told s groups new = record {
  histories = length-map s.volumes (λ (r : VolumeRow). fresh);
  each = λ g x at. record {
    stands = subst (λ (hs : List History). StandsFor told x hs) (ap (λ (ns : List ℕ). map (λ (n : ℕ). fresh) ns) (new.volumes g x at) ∙ sym (fresh_in_group g s.volumes)) (new.stands g x at);
    volumes = new.volumes g x at;
    slots = λ v r e i. new.slots g x v r at e i;
  };
}

-- ## Why a volume does not join a set; and what a set with one volume more keeps.

pub full : (v : ℕ) (vs : List ℕ) (n : ℕ) → is_among v vs ≡ false → 64 ≤ length vs → Some MaximumNumberOfVolumesReached ≡ refusal v vs n
full v vs n none many = rw (none, le-leb 64 (length vs) many) refl

pub covered : (v : ℕ) (vs : List ℕ) (n : ℕ) → is_among v vs ≡ false → length vs < 64 → 512 ≤ n → Some MaximumNumberOfSnapshotsReached ≡ refusal v vs n
covered v vs n none few many = rw (none, lt-leb 64 (length vs) few, le-leb 512 n many) refl

pub joins : (v : ℕ) (vs : List ℕ) (n : ℕ) → is_among v vs ≡ false → length vs < 64 → n < 512 → None ≡ refusal v vs n
joins v vs n none few low = rw (none, lt-leb 64 (length vs) few, lt-leb 512 n low) refl

-- ## one volume more

-- a volume that joins is one of fewer than 64
joined : (v : ℕ) (vs : List ℕ) (n : ℕ) → refusal v vs n ≡ None → length vs < 64
joined v vs n e = grind (arith, leb-false)

pub provider_joined : {D : Type 0} (groups : List (GroupValue D)) (old new : Vec ℕ Global) (list : Vec D Global) (x n : ℕ) → refusal x old.items n ≡ None → new.items ≡ old.items ++ x ∷ []
    → vec_capacity new ≡ vec_capacity old
    → IsProvider groups old list → IsProvider groups new list
provider_joined groups old new list x n none items capacity is = grind (arith, joined, length-append)
