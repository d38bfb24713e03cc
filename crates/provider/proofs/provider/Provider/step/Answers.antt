use Rattle.std.proofs.Common.{◌≡◌, ℕ, List, Option, refl, sym, subst, ◌≢◌}
use Rattle.provider.proofs.Words.{AreGroups, Commit, Group, History, step_taken}
use Rattle.provider.proofs.Kept.{kept_same}
use Rattle.provider.proofs.provider.Provider.step.Goals as goal

still : (group : Group) (set : ℕ) (volume : Option ℕ) (hs : List History) → group ≢ Commit → step_taken group set volume hs ≡ hs
still Commit set volume hs other = absurd (other refl)
still _ set volume hs other = refl

pub returns-in_default-clause-kept : goal.returns-in_default-clause-kept
returns-in_default-clause-kept g c = kept_same g.D.Device c.args.self.now.groups

pub returns-in_default-group : goal.returns-in_default-group
returns-in_default-group g c = record {
  stands = λ hs are. subst (λ (ks : List History). AreGroups g.D.Device.told c.args.scenario.now c.args.self.now.groups ks)
      (sym (still c.args.group c.args.self.now.set c.args.volume hs c.in_default-group.not-Commit)) are;
  kept = kept_same g.D.Device c.args.self.now.groups;
  cause = refl;
  devices = λ other. refl;
  lasts = λ is. absurd (c.in_default-group.not-Flush is);
  set = refl;
}
