use Rattle.image_store.proofs.Origins.{show_step}
use Rattle.image_store.proofs.laws.a_show_is_a_step.Goals as goal

pub returns : goal.returns
returns g c = show_step g.D.Device.told c.args.store.now c.show.new.self c.args.v c.args.which (g.K.Sink.taken c.args.sink.now) (g.K.Sink.taken c.show.new.sink) c.show.result
    c.show.ensures.show c.show.ensures.still
