use Rattle.std.proofs.Common.{true, false, ap, sym, ◌∙◌, eq-eqb, ne_eqb}
use Rattle.std.proofs.lemmas.List.{append-nil}
use Rattle.vss_play.proofs.Opening.{blocks_more}
use Rattle.vss_play.proofs.groups.blocks_of_group.Goals as goal
use Rattle.vss_play.proofs.groups.blocks_of_group.Goals.{then-row-group+in_ok-push, else-row-group}

pub loop-volume-preserved : goal.loop-volume-preserved
loop-volume-preserved c = elim c.if-row-group.branch [
  | then-row-group+in_ok-push w ↦ blocks_more c.args.group c.args.scenario.now.volumes c.loop-volume.volume c.volume-row.result true c.loop-volume.blocks.items _ c.volume-row.ensures
      (eq-eqb c.volume-row.result.group c.args.group w.if-row-group.true) c.loop-volume.invariant (ap (λ v. v.items) w.blocks-is ∙ w.in_ok-push.ensures.items)
  | else-row-group w ↦ blocks_more c.args.group c.args.scenario.now.volumes c.loop-volume.volume c.volume-row.result false c.loop-volume.blocks.items _ c.volume-row.ensures
      (ne_eqb c.volume-row.result.group c.args.group w.if-row-group.false) c.loop-volume.invariant (ap (λ v. v.items) w.blocks-is ∙ sym (append-nil c.loop-volume.blocks.items))
]
