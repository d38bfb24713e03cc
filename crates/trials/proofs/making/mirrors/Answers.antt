use Rattle.std.proofs.Common.{ℕ, ◌+◌, ◌≡◌, ◌∷◌, ◌++◌, [], All, List, length, replicate, ap, sym, subst, ◌∙◌}
use Rattle.std.proofs.lemmas.List.{length-append}
use Rattle.std.proofs.lemmas.List.Elements.{All-push}
use Rattle.block_data.specs.BlockBytes.{zeros}
use Rattle.volume_device.specs.InMemory.{blocks_of}
use Rattle.volume_device.specs.declared.mem_device.MemDevice.{MemDevice}
use Rattle.trials.specs.Devices.{IsZeroed, size_of}
use Rattle.trials.proofs.making.mirrors.Goals as goal

pub loop-place-preserved : goal.loop-place-preserved
loop-place-preserved c =
    let before = c.loop-place.mirrors.items in
    let made = c.in_ok-made.made in
    let IsSized : MemDevice → Type 0 = λ d. size_of d ≡ size_of c.args.primary.now in
    let size : size_of made ≡ c.blocks-in-loop-place.result = c.in_ok-made.ensures.size in
    let sized : IsSized made = size ∙ c.blocks-in-loop-place.ensures.size in
    let zero : IsZeroed made = subst (λ (n : ℕ). blocks_of made ≡ replicate n zeros) (sym size) c.in_ok-made.ensures.zeros in
    let items : c.push.new.self.items ≡ before ++ made ∷ [] = c.in_ok-push.ensures.items in
    record {
      count = ap length items ∙ length-append before (made ∷ []) ∙ ap (λ (n : ℕ). n + 1) c.loop-place.invariant.count;
      sized = subst (λ (ds : List MemDevice). All IsSized ds) (sym items) (All-push IsSized before made c.loop-place.invariant.sized sized);
      zero = subst (λ (ds : List MemDevice). All IsZeroed ds) (sym items) (All-push IsZeroed before made c.loop-place.invariant.zero zero);
    }
