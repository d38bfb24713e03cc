use Rattle.provider.proofs.provider.Provider.devices.Goals as goal

pub returns-clause-fit : goal.returns-clause-fit
returns-clause-fit g c = rw (← c.self.view_is) (rw c.deref.ensures.value at c.device_count.ensures.fit)
