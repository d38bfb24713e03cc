-- A provider over the groups of a scenario has the scenario's groups, also once a volume has joined its set.
use Rattle.std.proofs.Common.{◌≡◌, ℕ, List, [], ap, sym, subst}
use Rattle.std.specs.Prelude.{Option, Result, Ok, Err}
use Rattle.vss_names.specs.declared.vss_result.VssResult.{VssResult}
use Rattle.scenario.specs.Bounds.{IsPlan}
use Rattle.scenario.specs.Plan.{Plan}
use Rattle.cow_volume.specs.StandsFor.{GroupValue}
use Rattle.provider.specs.Groups.{AreWhole, HasGroups}
use Rattle.provider.specs.Preparing.{ProviderValue, HasJoined}
use Rattle.vss_world.specs.Quiet.{AreNew}
use Rattle.vss_world.proofs.FirstState.{has_groups}

pub groups_of : {D : Type 0} (p q : ProviderValue D) → p ≡ q → p.groups ≡ q.groups
groups_of {D = D} p q same = ap (λ (x : ProviderValue D). x.groups) same

pub has_all : {D : Type 0} (told : D → Option (List (List ℕ))) (s : Plan) (groups : List (GroupValue D)) (p : ProviderValue D) → IsPlan s → AreNew told s groups
    → p ≡ record { groups = groups; set = 0; volumes = [] } → AreWhole p.groups → HasGroups s p.groups
has_all told s groups p plan new made whole =
    let same = groups_of p _ made in subst (HasGroups s) (sym same) (has_groups told s groups plan new (subst AreWhole same whole))

pub has_still : {D : Type 0} (s : Plan) (old new : ProviderValue D) (v : ℕ) (result : Result Unit VssResult) → HasJoined old new v result → HasGroups s old.groups → HasGroups s new.groups
has_still s old new v (Ok done) h has = subst (HasGroups s) (sym (groups_of _ _ h)) has
has_still s old new v (Err why) h has = subst (HasGroups s) (sym (groups_of _ _ h)) has

pub has_numbered : {D : Type 0} (s : Plan) (old new : ProviderValue D) (set : ℕ) → new ≡ record old { set = set } → HasGroups s old.groups → HasGroups s new.groups
has_numbered s old new set h has = subst (HasGroups s) (sym (groups_of _ _ h)) has
