use Rattle.std.proofs.Common.{false, ◌∙◌, List, ℕ, ap, sym, subst, map}
use Rattle.write_history.specs.History.{fresh}
use Rattle.mirror_volume.specs.declared.mirror.Mirror.{Mirror}
use Rattle.mirror_volume.specs.Mirrors.{StandsFor, mirror_over}
use Rattle.mirror_volume.proofs.Standing.{fresh_stands}
use Rattle.mirror_volume.proofs.Keeping.{value_of, keeps_new}
use Rattle.mirror_volume.proofs.mirror_volume.MirrorVolume.new.Goals as goal

pub invariant_of-result : goal.invariant_of-result
invariant_of-result g c =
    let are = c.in_ok-mirrors.ensures ∙ ap (λ (n : ℕ). map (mirror_over false n) c.args.mirrors.items) c.blocks-2.ensures.size in
    keeps_new g.D.Device.size false c.args.primary c.args.mirrors.items c.in_ok-mirrors.mirrors.items c.in_ok-images.images c.requires.some c.requires.few c.requires.fits are
    c.in_ok-images.ensures.items c.in_ok-images.ensures.capacity

pub returns-clause-stands : goal.returns-clause-stands
returns-clause-stands g c =
    let are = c.in_ok-mirrors.ensures ∙ ap (λ (n : ℕ). map (mirror_over false n) c.args.mirrors.items) c.blocks-2.ensures.size in
    subst (λ (ms : List (Mirror _)). StandsFor g.D.Device (value_of c.args.primary ms c.in_ok-images.images.items) fresh) (sym are)
    (subst (λ (is : List ℕ). StandsFor g.D.Device (value_of c.args.primary (map (mirror_over false (g.D.Device.size c.args.primary)) c.args.mirrors.items) is) fresh) (sym c.in_ok-images.ensures.items)
    (fresh_stands g.D.Device c.args.primary c.args.mirrors.items c.requires.fits c.requires.primary_zeros c.requires.mirrors_zeros))
