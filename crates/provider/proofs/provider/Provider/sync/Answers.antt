use Rattle.std.proofs.Common.{refl, ap, arith, length}
use Rattle.provider.proofs.Words.{ProviderValue, device_read}
use Rattle.provider.proofs.InGroup.{sync_cause, sync_lasts, sync_of}
use Rattle.provider.proofs.provider.Provider.sync.Goals as goal
use Rattle.provider.proofs.Kept.{provider_kept}

pub invariant_of-self : goal.invariant_of-self
invariant_of-self g c =
    let low = ap (λ (p : ProviderValue _). length p.groups) c.self.view_is in
    let at = device_read c.self.inside.groups.items c.args.group c.index_mut.result.now (omega (arith, low, c.requires)) c.index_mut.ensures.value in
    provider_kept g.D.Device _ _ c.self.inside.volumes c.self.inside.list
    (sync_of g.D.Device c.self.inside.groups.items c.args.group c.index_mut.result.now c.sync.new.self at c.sync.result c.sync.ensures.sync).kept c.self.invariant

pub returns : goal.returns
returns g c =
    let low = ap (λ (p : ProviderValue _). length p.groups) c.self.view_is in
    let at = device_read c.self.inside.groups.items c.args.group c.index_mut.result.now (omega (arith, low, c.requires)) c.index_mut.ensures.value in
    rw (← c.self.view_is) (record {
      synced = sync_of g.D.Device c.self.inside.groups.items c.args.group c.index_mut.result.now c.sync.new.self at c.sync.result c.sync.ensures.sync;
      lasting = sync_lasts g.D.Device c.self.inside.groups.items c.args.group c.index_mut.result.now c.sync.new.self at c.sync.result c.sync.ensures.lasts c.sync.ensures.sync;
      cause = λ s has. sync_cause g.D.Device c.self.inside.groups.items c.args.group c.index_mut.result.now c.sync.new.self at c.sync.result c.sync.ensures.sync s has;
      set = refl;
    })
