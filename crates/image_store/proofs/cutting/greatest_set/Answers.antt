use Rattle.std.proofs.Common.{arith}
use Rattle.image_store.proofs.Opens.{sets_more, sets_all, given_more}
use Rattle.image_store.proofs.cutting.greatest_set.Goals as goal

pub loop-v-preserved : goal.loop-v-preserved
loop-v-preserved g c =
    let last = c.loop-v.invariant.last in
    let more = c.greater_of-greatest.ensures.first in
    record {
      last = omega arith;
      all = sets_more c.args.group.now c.loop-v.v c.loop-v.greatest c.newest_of.result c.greater_of-greatest.result c.images.result.now c.loop-v.invariant.all c.newest_of.ensures.all
          c.images.ensures.images
          c.greater_of-greatest.ensures.first c.greater_of-greatest.ensures.second;
      given = given_more c.args.group.now c.args.last c.loop-v.v c.loop-v.greatest c.newest_of.result c.greater_of-greatest.result c.images.result.now c.loop-v.invariant.given
          c.greater_of-greatest.ensures.one c.newest_of.ensures.one c.images.ensures.images;
    }

pub returns : goal.returns
returns g c =
    let test = c.loop-v-test.false in
    let images = c.volumes-v-end.ensures.images in
    let end = c.volumes-v-end.ensures.volumes in
    record {
      given = c.loop-v.invariant.given;
      least = c.loop-v.invariant.last;
      all = sets_all c.args.group.now c.loop-v.v c.loop-v.greatest (omega arith) c.loop-v.invariant.all;
    }
