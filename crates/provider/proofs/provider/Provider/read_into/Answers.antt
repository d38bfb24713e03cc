use Rattle.std.proofs.Common.{◌≡◌, arith, refl}
use Rattle.std.proofs.lemmas.Result.{IfErr-weaker}
use Rattle.write_history.specs.History.{content}
use Rattle.provider.proofs.Found.{below, found_by, group_low, inside, on_ok, shown_of}
use Rattle.provider.proofs.Called.{by_fault, called, image_cause_of, quiet_of}
use Rattle.provider.proofs.provider.Provider.read_into.Goals as goal
use Rattle.provider.proofs.Kept.{at_seen, provider_kept}

pub index_mut-requires : goal.index_mut-requires
index_mut-requires g c = let low = group_low c.self.view_is c.requires.has c.place-place.ensures in omega (arith, low, c.self.inside.groups.ok.0)

pub read_into-requires-clause-volume : goal.read_into-requires-clause-volume
read_into-requires-clause-volume g c = inside (found_by c.self.view_is c.requires.has c.place-place.ensures c.index_mut.ensures.value)

pub invariant_of-self : goal.invariant_of-self
invariant_of-self g c =
    let now = called (found_by c.self.view_is c.requires.has c.place-place.ensures c.index_mut.ensures.value) c.read_into.new.self in
    provider_kept g.D.Device _ _ c.self.inside.volumes c.self.inside.list ((quiet_of g.D.Device now c.read_into.ensures.quiet).call.kept) c.self.invariant

pub returns : goal.returns
returns g c =
    let now = called (found_by c.self.view_is c.requires.has c.place-place.ensures c.index_mut.ensures.value) c.read_into.new.self in
    rw (← c.self.view_is) (record {
      shown = on_ok _ _ c.read_into.result (λ is. shown_of g.D.Device.told now.found c.args.set (λ ws p. c.read_into.new.out ≡ content ws p c.args.block)
          (at_seen g.D.Device.told now.found.here now.found.within c.args.set c.args.block c.read_into.new.out is)) c.read_into.ensures.seen;
      quiet = quiet_of g.D.Device now c.read_into.ensures.quiet;
      cause = image_cause_of g.D.Device now c.args.set c.read_into.result c.read_into.ensures.there c.read_into.ensures.same
          (IfErr-weaker c.read_into.result _ _ (by_fault g.D.Device.count _ c.args.set c.args.block now.found.here now.after (below now.found c.args.block c.requires.block.1))
          c.read_into.ensures.cause);
      set = refl;
    })
