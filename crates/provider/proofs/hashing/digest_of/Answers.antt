use Rattle.std.proofs.Common.{◌≡◌, ◌∙◌, ap, length, refl, sym}
use Rattle.std.proofs.lemmas.Result.{err_from_is_err_and}
use Rattle.cow_volume.proofs.DeviceCalls.{whole_written}
use Rattle.provider.proofs.Kept.{hashed_more, digest_cause, quiet_same, quiet_then}
use Rattle.provider.proofs.hashing.digest_of.Goals as goal

pub loop-block-preserved-in-Ok-Some : goal.loop-block-preserved-in-Ok-Some
loop-block-preserved-in-Ok-Some g c =
    let seen = rw (c.in-Ok-Some.field-0-is, c.group-in-loop-block.ensures) at c.in-Ok-Some.ensures.seen in
    hashed_more _ _ _ _ _ _ _ _ _ _ c.loop-block.invariant seen c.add.ensures (record { devices = refl; area = refl }) (quiet_same _ _)

pub loop-block-preserved : goal.loop-block-preserved
loop-block-preserved g c =
    let same : c.bytes.result.now ≡ c.read.new.out =
    c.bytes.ensures.bytes ∙ whole_written c.loop-block.buffer c.read.new.out (c.read.auto.out ∙ ap length c.bytes_mut.ensures.bytes) in
    hashed_more _ _ _ _ _ _ _ _ _ _ c.loop-block.invariant (rw same c.in_ok-read.ensures.seen) c.add-in-loop-block.ensures
    c.in_ok-read.ensures.same c.in_ok-read.ensures.quiet

pub returns-in_err-read-clause-digest : goal.returns-in_err-read-clause-digest
returns-in_err-read-clause-digest g c =
    let p = err_from_is_err_and c.from_residual.result c.from_residual.ensures.1 in
    rw (p.1, p.2) (record {
      digest = tt;
      there = tt;
      same = tt;
      cause = digest_cause _ _ _ _ c.args.volume c.args.set _ (rw (← c.group.ensures) (sym c.is_there.ensures ∙ c.if-not-is_there.false))
          c.loop-block.invariant.same c.loop-block.invariant.quiet.kept.devices c.in_err-read.ensures.rose;
      quiet = quiet_then _ _ _ _ c.loop-block.invariant.quiet c.in_err-read.ensures.quiet;
    })
