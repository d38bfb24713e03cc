use Rattle.std.proofs.Common.{None}
use Rattle.coordinator.specs.OpenOrders.{standing_in}
use Rattle.vss_world.specs.Stands.{IfStands}
use Rattle.vss_play.specs.Asking.{IsAnswered}
use Rattle.vss_play.proofs.asking.first_answer.Given as goal

abbrev pub invariant-loop-writer : goal.invariant-loop-writer
invariant-loop-writer g l =
    IfStands g.D.Device.told l.world l.scenario (λ st. IsAnswered g.W.VssWriter (standing_in st.course) l.writer l.fn.given l.given l.fn.writers l.writers None)
