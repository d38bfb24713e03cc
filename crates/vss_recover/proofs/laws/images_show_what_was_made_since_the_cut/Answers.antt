use Rattle.std.proofs.Common.{refl}
use Rattle.vss_recover.specs.Recoveries.{recovered}
use Rattle.vss_recover.proofs.Standing.{shows_made}
use Rattle.vss_recover.proofs.laws.images_show_what_was_made_since_the_cut.Goals as goal

pub returns : goal.returns
returns c = λ n set h steps of all among. shows_made n set h (recovered set h.recoveries) steps of all (λ e. refl) among
