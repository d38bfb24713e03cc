use Rattle.std.proofs.Common.{None}
use Rattle.vss_recover.proofs.Standing.{made_in}
use Rattle.vss_recover.proofs.laws.recoveries_are_made_in_the_window.Goals as goal

pub returns : goal.returns
returns c = λ n h before later r closed all. made_in n h None before later r (λ set e. cc) all
