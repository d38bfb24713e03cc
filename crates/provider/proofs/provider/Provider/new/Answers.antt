use Rattle.provider.proofs.Joining.{fresh_stand}
use Rattle.provider.proofs.provider.Provider.new.Goals as goal

pub returns-clause-fresh : goal.returns-clause-fresh
returns-clause-fresh g c = λ s new. fresh_stand g.D.Device.told s c.args.groups.items new
