use Rattle.std.proofs.Common.{ℕ, ◌≡◌, ◌∷◌, ◌++◌, [], All, replicate, sym, subst}
use Rattle.std.proofs.lemmas.List.Elements.{All-push}
use Rattle.block_data.specs.BlockBytes.{zeros}
use Rattle.volume_device.specs.InMemory.{blocks_of}
use Rattle.trials.specs.Devices.{IsZeroed}
use Rattle.trials.proofs.making.devices.Goals as goal

pub loop-place-preserved : goal.loop-place-preserved
loop-place-preserved c =
    let made = c.in_ok-made.made in
    let zero : IsZeroed made = subst (λ (n : ℕ). blocks_of made ≡ replicate n zeros) (sym c.in_ok-made.ensures.size) c.in_ok-made.ensures.zeros in
    subst (All IsZeroed) (sym c.in_ok-push.ensures.items) (All-push IsZeroed c.loop-place.devices.items made c.loop-place.invariant zero)
