use Rattle.std.proofs.Common.{◌≡◌, ◌∙◌, ℕ, List, [], None, ap}
use Rattle.cow_volume.specs.OneVolume.{image_sets}
use Rattle.vss_recover.specs.declared.claim.Claim.{Claim}
use Rattle.vss_recover.specs.Recoveries.{kept_final}
use Rattle.vss_recover.specs.RecoverValue.{RecoverValue}
use Rattle.vss_recover.proofs.recover_volume.RecoverVolume.without_window.Goals as goal

pub returns : goal.returns
returns g c =
    let final : c.keep_finals.new.finals.items ≡ kept_final (image_sets c.args.volume) c.args.finals.now =
    c.keep_finals.ensures.finals ∙ ap (kept_final c.images.result.now) c.in_ok-room.ensures.finals ∙ ap (λ sets. kept_final sets c.args.finals.now) c.images.ensures.images in
    let made : List Claim → List ℕ → RecoverValue _ = λ claims finals.
    record { volume = c.args.volume; overlay = c.args.overlay; window = None; claims = claims; final = finals } in
    ap (λ claims. made claims c.keep_finals.new.finals.items) c.in_ok-room.ensures.claims ∙ ap (made []) final
