use Rattle.std.proofs.Common.{List, Bool, ◌<◌, ◌≤◌, length, arith, ap, sym, subst}
use Rattle.std.specs.Prelude.{slice_set}
use Rattle.std.proofs.lemmas.Option.{slice_get-get_or, slice_get_within}
use Rattle.image_store.specs.Ordering.{aim_of, aims_of, AreCopiedSoFar, Aim}
use Rattle.image_store.specs.declared.job.Job.{Job}
use Rattle.image_store.proofs.Orders.{ends_next, further_of, further_then, more_itself, more_then, over_all, so_far_next}
use Rattle.image_store.proofs.Keeping.{still_told}
use Rattle.image_store.proofs.jobs.copy_jobs.Goals as goal

pub returns-in-Err-clause-aims : goal.returns-in-Err-clause-aims
returns-in-Err-clause-aims g c =
    let within : c.each.job-index < length c.each.job-items = (let test = c.each-test.true in omega arith) in
    let at = slice_get-get_or c.each.job-items c.each.job-index c.job-item.result within in
    let aims = still_told
    (aim_of g.I.Device.told) c.each.job-index c.args.jobs.now.items c.each.job-items _ c.copy_ahead.new.self
    c.each.invariant.aims at c.copy_ahead.ensures.aim in
    let all = over_all g.I.Device.told c.args.jobs.now.len (slice_set c.each.job-items c.each.job-index c.copy_ahead.new.self) c.args.jobs.now.items
    (let ok = c.args.jobs.now.ok in omega arith) aims in
    rw all aims

pub returns-in-Err-clause-pass : goal.returns-in-Err-clause-pass
returns-in-Err-clause-pass g c =
    more_then g.D.Device.told c.args.store.now c.each.store c.copy_ahead.new.store c.each.invariant.more c.in-Err.ensures.pass

pub returns-in-Err-clause-copied : goal.returns-in-Err-clause-copied
returns-in-Err-clause-copied g c =
    let within : c.each.job-index < length c.each.job-items = (let test = c.each-test.true in omega arith) in
    let at = slice_get-get_or c.each.job-items c.each.job-index c.job-item.result within in
    let aims = still_told
    (aim_of g.I.Device.told) c.each.job-index c.args.jobs.now.items c.each.job-items _ c.copy_ahead.new.self
    c.each.invariant.aims at c.copy_ahead.ensures.aim in
    let all = over_all g.I.Device.told c.args.jobs.now.len (slice_set c.each.job-items c.each.job-index c.copy_ahead.new.self) c.args.jobs.now.items
    (let ok = c.args.jobs.now.ok in omega arith) aims in
    rw all (λ had. so_far_next g.D.Device.told g.I.Device.told c.each.store c.copy_ahead.new.store c.each.job-index c.each.job-items _
    c.copy_ahead.new.self at c.copy_ahead.ensures.aim
    (further_of g.D.Device.told c.each.store c.copy_ahead.new.store c.copy_ahead.result c.copy_ahead.ensures.pass) c.copy_ahead.ensures.copied
    (c.each.invariant.so_far had))

pub returns-in-Ok-UntilEvicted-clause-aims : goal.returns-in-Ok-UntilEvicted-clause-aims
returns-in-Ok-UntilEvicted-clause-aims g c =
    let within : c.each.job-index < length c.each.job-items = (let test = c.each-test.true in omega arith) in
    let at = slice_get-get_or c.each.job-items c.each.job-index c.job-item.result within in
    let aims = still_told
    (aim_of g.I.Device.told) c.each.job-index c.args.jobs.now.items c.each.job-items _ c.copy_ahead.new.self
    c.each.invariant.aims at c.copy_ahead.ensures.aim in
    let all = over_all g.I.Device.told c.args.jobs.now.len (slice_set c.each.job-items c.each.job-index c.copy_ahead.new.self) c.args.jobs.now.items
    (let ok = c.args.jobs.now.ok in omega arith) aims in
    rw all aims

pub returns-in-Ok-UntilEvicted-clause-pass : goal.returns-in-Ok-UntilEvicted-clause-pass
returns-in-Ok-UntilEvicted-clause-pass g c =
    further_then g.D.Device.told c.args.store.now c.each.store c.copy_ahead.new.store c.each.invariant.more
    (rw c.in-Ok-UntilEvicted.field-0-is at c.in-Ok-UntilEvicted.ensures.pass)

pub returns-in-Ok-UntilEvicted-clause-copied : goal.returns-in-Ok-UntilEvicted-clause-copied
returns-in-Ok-UntilEvicted-clause-copied g c =
    let within : c.each.job-index < length c.each.job-items = (let test = c.each-test.true in omega arith) in
    let at = slice_get-get_or c.each.job-items c.each.job-index c.job-item.result within in
    let aims = still_told
    (aim_of g.I.Device.told) c.each.job-index c.args.jobs.now.items c.each.job-items _ c.copy_ahead.new.self
    c.each.invariant.aims at c.copy_ahead.ensures.aim in
    let all = over_all g.I.Device.told c.args.jobs.now.len (slice_set c.each.job-items c.each.job-index c.copy_ahead.new.self) c.args.jobs.now.items
    (let ok = c.args.jobs.now.ok in omega arith) aims in
    rw all (λ had. so_far_next g.D.Device.told g.I.Device.told c.each.store c.copy_ahead.new.store c.each.job-index c.each.job-items _
    c.copy_ahead.new.self at c.copy_ahead.ensures.aim
    (further_of g.D.Device.told c.each.store c.copy_ahead.new.store c.copy_ahead.result c.copy_ahead.ensures.pass) c.copy_ahead.ensures.copied
    (c.each.invariant.so_far had))

pub each-preserved : goal.each-preserved
each-preserved g c =
    let within : c.each.job-index < length c.each.job-items = (let test = c.each-test.true in omega arith) in
    let at = slice_get-get_or c.each.job-items c.each.job-index c.job-item.result within in
    record {
      aims = still_told (aim_of g.I.Device.told) c.each.job-index c.args.jobs.now.items c.each.job-items _ c.copy_ahead.new.self
          c.each.invariant.aims at c.copy_ahead.ensures.aim;
      more = more_then g.D.Device.told c.args.store.now c.each.store c.copy_ahead.new.store c.each.invariant.more
          (rw c.in-Ok-All.field-0-is at c.in-Ok-All.ensures.pass);
      so_far = λ had. so_far_next g.D.Device.told g.I.Device.told c.each.store c.copy_ahead.new.store c.each.job-index c.each.job-items _
          c.copy_ahead.new.self at c.copy_ahead.ensures.aim
          (further_of g.D.Device.told c.each.store c.copy_ahead.new.store c.copy_ahead.result c.copy_ahead.ensures.pass) c.copy_ahead.ensures.copied
          (c.each.invariant.so_far had);
      ends = ends_next c.each.job-index c.each.job-items _ c.copy_ahead.new.self at
          (subst (λ (ds : List Bool). length ds ≤ c.copy_ahead.new.self.at) (sym (ap (λ (a : Aim). a.differs) c.copy_ahead.ensures.aim))
          (c.in-Ok-All.ensures.whole c.in-Ok-All.field-0-is))
          c.each.invariant.ends;
    }

pub each-init : goal.each-init
each-init g c =
    record {
      aims = ap (aims_of g.I.Device.told) c.deref_mut-job-items.ensures.value;
      more = more_itself g.D.Device.told c.args.store.now;
      so_far = λ had. subst (λ (xs : List (Job g.row.I.Denot)). AreCopiedSoFar c.args.store.now.group xs) (sym c.deref_mut-job-items.ensures.value) had;
      ends = λ j job low. absurd (omega arith);
    }

pub returns-clause-aims : goal.returns-clause-aims
returns-clause-aims g c =
    let all = over_all g.I.Device.told c.args.jobs.now.len c.each.job-items c.args.jobs.now.items
    (let ok = c.args.jobs.now.ok in omega arith) c.each.invariant.aims in
    rw all c.each.invariant.aims

pub returns-clause-copied : goal.returns-clause-copied
returns-clause-copied g c =
    let all = over_all g.I.Device.told c.args.jobs.now.len c.each.job-items c.args.jobs.now.items
    (let ok = c.args.jobs.now.ok in omega arith) c.each.invariant.aims in
    rw all c.each.invariant.so_far

pub returns-clause-whole : goal.returns-clause-whole
returns-clause-whole g c =
    let all = over_all g.I.Device.told c.args.jobs.now.len c.each.job-items c.args.jobs.now.items
    (let ok = c.args.jobs.now.ok in omega arith) c.each.invariant.aims in
    rw all (λ same k job at.
    let there = slice_get_within c.each.job-items k job at in
    let test = c.each-test.false in
    c.each.invariant.ends k job (omega arith) at)
