use Rattle.std.proofs.Common.{arith, refl}
use Rattle.provider.proofs.Found.{found_by, group_low, inside, on_ok}
use Rattle.provider.proofs.Called.{called, cause_of, flush_lasts, flush_rose, quiet_of}
use Rattle.provider.proofs.provider.Provider.flush.Goals as goal
use Rattle.provider.proofs.Kept.{provider_kept}

pub index_mut-requires : goal.index_mut-requires
index_mut-requires g c = let low = group_low c.self.view_is c.requires.has c.place-place.ensures in omega (arith, low, c.self.inside.groups.ok.0)

pub flush-requires : goal.flush-requires
flush-requires g c = inside (found_by c.self.view_is c.requires.has c.place-place.ensures c.index_mut.ensures.value)

pub invariant_of-self : goal.invariant_of-self
invariant_of-self g c =
    let now = called (found_by c.self.view_is c.requires.has c.place-place.ensures c.index_mut.ensures.value) c.flush.new.self in
    provider_kept g.D.Device _ _ c.self.inside.volumes c.self.inside.list ((quiet_of g.D.Device now c.flush.ensures.quiet).call.kept) c.self.invariant

pub returns : goal.returns
returns g c =
    let now = called (found_by c.self.view_is c.requires.has c.place-place.ensures c.index_mut.ensures.value) c.flush.new.self in
    rw (← c.self.view_is) (record {
      quiet = quiet_of g.D.Device now c.flush.ensures.quiet;
      cause = cause_of g.D.Device.count now c.flush.result c.flush.ensures.same
          (flush_rose g.D.Device.count _ now.found.here now.after c.flush.result c.flush.ensures.cause c.flush.ensures.rose);
      own = c.flush.ensures.cause;
      lasts = on_ok _ _ c.flush.result (flush_lasts g.D.Device now c.flush.ensures.quiet.kept) c.flush.ensures.lasts;
      set = refl;
    })
