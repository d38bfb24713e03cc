use Rattle.std.proofs.Common.{◌∙◌, ap, sym, arith, inl, inr, length}
use Rattle.std.proofs.lemmas.Option.{slice_get_within}
use Rattle.image_store.proofs.Opens.{at_or_below}
use Rattle.image_store.proofs.jobs.flush_all.Goals as goal

pub loop-volume-preserved : goal.loop-volume-preserved
loop-volume-preserved g c =
    let was = c.loop-volume.invariant in
    let done = c.flush.ensures in
    record {
      volumes = done.volumes ∙ was.volumes;
      images = done.images ∙ was.images;
      under_way = λ committed under. done.under_way committed (was.under_way committed under);
      still = λ p is. done.still p (was.still p is);
      last = λ v d low at. elim (at_or_below v c.loop-volume.volume low) [
        | inl here ↦ c.in-Ok-flush.ensures.lasts d (rw (sym here) at)
        | inr below ↦ was.last v d below (sym (done.others v (λ e. absurd (omega (arith, e)))) ∙ at)
      ];
    }

pub returns-in_default-flush-clause-still : goal.returns-in_default-flush-clause-still
returns-in_default-flush-clause-still g c = λ p is. c.flush.ensures.still p (c.loop-volume.invariant.still p (c.sync.ensures.still p is))

pub returns-clause-still : goal.returns-clause-still
returns-clause-still g c = λ p is. c.loop-volume.invariant.still p (c.sync.ensures.still p is)

pub returns-clause-last : goal.returns-clause-last
returns-clause-last g c = λ v d at.
    let within = slice_get_within _ v d at in
    let many = c.has_volumes.ensures.devices in
    let volumes = ap length c.loop-volume.invariant.volumes in
    let count = c.volumes-volume-end.ensures in
    let test = c.loop-volume-test.false in
    c.loop-volume.invariant.last v d (omega arith) at
