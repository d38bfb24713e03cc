use Rattle.provider.proofs.Found.{digest_told, found_in, inside}
use Rattle.provider.proofs.digesting.digest_beside.Goals as goal

pub digest_of-requires : goal.digest_of-requires
digest_of-requires g c = inside (found_in c.requires.has c.place-place.ensures c.index.ensures)

pub returns : goal.returns
returns g c =
    rw c.ok.ensures.value
    (digest_told g.D.Device.told (found_in c.requires.has c.place-place.ensures c.index.ensures) c.args.set c.digest_of.result
    c.digest_of.ensures.digest.digest c.digest_of.ensures.wide)
