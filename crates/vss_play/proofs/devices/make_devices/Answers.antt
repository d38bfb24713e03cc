use Rattle.std.proofs.Common.{arith, ap, ◌∙◌, ◌≡◌, Err}
use Rattle.vss_play.specs.declared.play_fault.PlayFault.TheVariants.{OutOfMemory}
use Rattle.vss_play.specs.Played.{device_names, device_sizes}
use Rattle.vss_play.proofs.NewDevices.{made_step, named_step, many_names, undone_made, count_undone}
use Rattle.vss_play.proofs.Opening.{few_devices}
use Rattle.vss_play.proofs.devices.make_devices.Goals as goal

pub loop-place-preserved : goal.loop-place-preserved
loop-place-preserved g c =
    let s = c.args.scenario.now in
    let more = c.in-Ok.ensures.made in (
      made_step g.M.Made.Device (g.M.Maker.tells c.args.maker.now c.args.store.now) (g.M.Maker.tells c.loop-place.maker c.args.store.now)
          (device_sizes s) c.loop-place.place more.0 c.loop-place.made.items c.make_next.new.made.items
          (ap (λ tells. tells c.args.store.now) c.loop-place.invariant.1) c.loop-place.invariant.0 more.1 more.2,
      c.in-Ok.ensures.tells ∙ c.loop-place.invariant.1,
      c.in-Ok.ensures.kept ∙ c.loop-place.invariant.2,
      c.in-Ok.ensures.unfailed ∙ c.loop-place.invariant.3,
      c.in-Ok.ensures.places c.loop-place.invariant.4,
      named_step (device_names s) c.loop-place.place _ _ _
          (let many = many_names s in let l = c.loop-place-test.true in let a = c.volumes.ensures.count in let b = c.groups.ensures in omega arith)
          c.loop-place.invariant.5 c.in-Ok.ensures.named,
    )

pub overflow_add-place-end : goal.overflow_add-place-end
overflow_add-place-end g c = let few = few_devices c.args.scenario.now c.volumes.ensures.plan in let a = c.volumes.ensures.count in let b = c.groups.ensures in omega arith

pub returns-in-Err-clause-undone : goal.returns-in-Err-clause-undone
returns-in-Err-clause-undone g c =
    undone_made g.M.Made.Device (g.M.Maker.tells c.args.maker.now c.args.store.now) c.args.scenario.now c.loop-place.place c.loop-place.made.items c.make_next.new.made.items _ _ _ _ _ _ _ _
    (let l = c.loop-place-test.true in let a = c.volumes.ensures.count in let b = c.groups.ensures in omega arith) c.loop-place.invariant.0
    c.in-Err.ensures.same c.loop-place.invariant.5 c.in-Err.ensures.unnamed c.give_all.ensures.named c.loop-place.invariant.2 c.in-Err.ensures.kept
    (c.give_all.ensures.kept (c.in-Err.ensures.places c.loop-place.invariant.4))

pub returns-in-Err-clause-unmade : goal.returns-in-Err-clause-unmade
returns-in-Err-clause-unmade g c = λ h.
    count_undone g.M.Made.Device (g.M.Maker.tells c.args.maker.now c.args.store.now) _ c.loop-place.made.items c.make_next.new.made.items _ _ _ _
    c.loop-place.invariant.0 c.in-Err.ensures.same c.loop-place.invariant.3
    (let same : c.in-Err.fault ≡ OutOfMemory = cc in c.in-Err.ensures.unmade (ap Err same)) c.give_all.ensures.count c.give_all.ensures.later
