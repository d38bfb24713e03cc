use Rattle.vss_main.proofs.Listed.{volumes_begin, volumes_more}
use Rattle.vss_main.proofs.lines.add_volumes.Goals as goal

pub loop-volume-init : goal.loop-volume-init
loop-volume-init c = volumes_begin c.args.out.now.bytes c.args.view.now

pub loop-volume-preserved : goal.loop-volume-preserved
loop-volume-preserved c = volumes_more c.args.out.now.bytes c.loop-volume.out.bytes c.add_volume.new.out.bytes c.args.view.now c.loop-volume.volume c.loop-volume.invariant c.in_ok-add_volume.ensures
