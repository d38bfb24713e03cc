use Rattle.std.proofs.Common.{◌<◌, ◌+◌, ◌++◌, ◌∷◌, [], List, sym, subst, arith, length}
use Rattle.std.specs.Prelude.{is_ok}
use Rattle.std.proofs.lemmas.Option.{slice_get-get_or}
use Rattle.mirror_volume.specs.declared.said.Said.{Said}
use Rattle.mirror_volume.proofs.Keeping.{pushed}
use Rattle.mirror_volume.proofs.HavingSaid.{HaveSaid, one_said}
use Rattle.mirror_volume.proofs.replying.replies.Goals as goal

pub loop-command-preserved : goal.loop-command-preserved
loop-command-preserved g c =
    let within : c.loop-command.command-index < length c.args.commands.now = (let test = c.loop-command-test.true in omega arith) in
    let room = c.loop-command.invariant.room in
    let is = c.push.ensures.succeeds (omega arith) in
    let items = pushed (is_ok c.push.result) c.push.new.self.items (c.loop-command.said.items ++ c.reply_to.result ∷ []) c.loop-command.said.items is c.push.ensures.items in
    record {
      have = subst (λ (ss : List Said). HaveSaid g.V.ImageVolume.stands g.V.ImageVolume.tells g.V.ImageVolume.size g.V.ImageVolume.slots g.V.ImageVolume.ready_for g.V.ImageVolume.count
          g.V.ImageVolume.sets g.V.ImageVolume.per_cut c.args.volume.now c.reply_to.new.volume c.args.commands.now (c.loop-command.command-index + 1) ss) (sym items)
          (one_said g.V.ImageVolume.stands g.V.ImageVolume.tells g.V.ImageVolume.size g.V.ImageVolume.slots g.V.ImageVolume.ready_for g.V.ImageVolume.count g.V.ImageVolume.sets
          g.V.ImageVolume.per_cut c.args.volume.now c.loop-command.volume c.reply_to.new.volume c.args.commands.now c.loop-command.command-index c.loop-command.said.items _ c.reply_to.result
          c.requires.stands.0 c.requires.stands.1
          g.met.V.ImageVolume.sets_are c.loop-command.invariant.have
          (slice_get-get_or c.args.commands.now c.loop-command.command-index _ within) c.reply_to.ensures.step c.reply_to.ensures.stands c.reply_to.ensures.tells c.reply_to.ensures.size
          c.reply_to.ensures.slots);
      room = omega arith;
    }
