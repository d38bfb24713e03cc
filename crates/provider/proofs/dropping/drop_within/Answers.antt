use Rattle.std.proofs.Common.{◌<◌, ◌+◌, ℕ, Bool, length, ap, sym, subst, arith}
use Rattle.provider.specs.GroupCalls.{IsGroupDrop}
use Rattle.provider.proofs.Dropped.{IsDroppedTo, dropped_more, dropped_same, dropped_all}
use Rattle.provider.proofs.dropping.drop_within.Goals.{then-drop_on, else-drop_on}
use Rattle.provider.proofs.dropping.drop_within.Goals as goal

pub loop-volume-preserved : goal.loop-volume-preserved
loop-volume-preserved g c =
    let same = ap length c.loop-volume.invariant.kept.volumes in
    let test = c.loop-volume-test.true in
    let many = c.volumes-volume-end.ensures.volumes in
    let within : c.loop-volume.volume < length c.loop-volume.group.area.volumes = omega (arith, same, test, many) in
    elim c.if-drop_on.branch [
      | then-drop_on w ↦ subst (λ (n : ℕ). IsDroppedTo g.D.Device c.args.group.now c.drop_on.new.group (c.loop-volume.volume + 1) c.args.set n) (sym w.stood-is)
          (dropped_more g.D.Device c.args.group.now c.loop-volume.group c.drop_on.new.group c.loop-volume.volume c.args.set c.loop-volume.stood within c.loop-volume.invariant
          (subst (λ (b : Bool). IsGroupDrop g.D.Device c.loop-volume.group c.drop_on.new.group c.loop-volume.volume c.args.set b) w.if-drop_on.true c.drop_on.ensures))
      | else-drop_on w ↦ subst (λ (n : ℕ). IsDroppedTo g.D.Device c.args.group.now c.drop_on.new.group (c.loop-volume.volume + 1) c.args.set n) (sym w.stood-is)
          (dropped_same g.D.Device c.args.group.now c.loop-volume.group c.drop_on.new.group c.loop-volume.volume c.args.set c.loop-volume.stood within c.loop-volume.invariant
          (subst (λ (b : Bool). IsGroupDrop g.D.Device c.loop-volume.group c.drop_on.new.group c.loop-volume.volume c.args.set b) w.if-drop_on.false c.drop_on.ensures))
    ]

pub returns : goal.returns
returns g c =
    let over = c.loop-volume-test.false in
    let within = c.loop-volume.auto.volume-end in
    let many = c.volumes-volume-end.ensures.volumes in
    dropped_all g.D.Device c.args.group.now c.loop-volume.group c.loop-volume.volume c.args.set c.loop-volume.stood (omega (arith, over, within, many))
    (let few = c.volumes-volume-end.type_inv in omega (arith, within, few)) c.loop-volume.invariant
