use Rattle.std.proofs.Common.{arith, refl}
use Rattle.std.proofs.lemmas.Result.{IfOk-weaker}
use Rattle.provider.proofs.Found.{digest_shown, found_by, group_low, inside}
use Rattle.provider.proofs.Called.{called, image_cause_of, quiet_of}
use Rattle.provider.proofs.provider.Provider.digest.Goals as goal
use Rattle.provider.proofs.Kept.{provider_kept}

pub index_mut-group-requires : goal.index_mut-group-requires
index_mut-group-requires g c = let low = group_low c.self.view_is c.requires.has c.place-place.ensures in omega (arith, low, c.self.inside.groups.ok.0)

pub digest_of-requires : goal.digest_of-requires
digest_of-requires g c = inside (found_by c.self.view_is c.requires.has c.place-place.ensures c.index_mut-group.ensures.value)

pub invariant_of-self : goal.invariant_of-self
invariant_of-self g c =
    let now = called (found_by c.self.view_is c.requires.has c.place-place.ensures c.index_mut-group.ensures.value) c.digest_of.new.reader in
    provider_kept g.D.Device _ _ c.self.inside.volumes c.self.inside.list ((quiet_of g.D.Device now c.digest_of.ensures.digest.quiet).call.kept) c.self.invariant

pub returns : goal.returns
returns g c =
    let now = called (found_by c.self.view_is c.requires.has c.place-place.ensures c.index_mut-group.ensures.value) c.digest_of.new.reader in
    rw (← c.self.view_is) (record {
      digest = IfOk-weaker c.digest_of.result _ _ (digest_shown g.D.Device.told now.found c.args.set) c.digest_of.ensures.digest.digest;
      wide = c.digest_of.ensures.wide;
      quiet = quiet_of g.D.Device now c.digest_of.ensures.digest.quiet;
      cause = image_cause_of g.D.Device now c.args.set c.digest_of.result c.digest_of.ensures.digest.there c.digest_of.ensures.digest.same c.digest_of.ensures.digest.cause;
      set = refl;
    })
