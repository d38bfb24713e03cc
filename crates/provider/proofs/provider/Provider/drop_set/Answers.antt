use Rattle.provider.proofs.provider.Provider.drop_set.Goals as goal
use Rattle.provider.proofs.Kept.{provider_kept}

pub invariant_of-self : goal.invariant_of-self
invariant_of-self g c =
    provider_kept g.D.Device c.self.inside.groups.items c.drop_set_in.new.groups.items c.self.inside.volumes c.self.inside.list c.drop_set_in.ensures.kept c.self.invariant
