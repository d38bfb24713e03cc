use Rattle.std.proofs.Common.{◌≡◌, ◌∙◌, ℕ, List, length, ap, sym, None}
use Rattle.provider.specs.Preparing.{refusal}
use Rattle.provider.proofs.Joining.{provider_joined}
use Rattle.provider.proofs.provider.Provider.begin_prepare.Goals as goal

pub invariant_of-self : goal.invariant_of-self
invariant_of-self g c =
    let images = length c.images-images.result.now in
    let none : refusal c.args.volume c.self.inside.volumes.items images ≡ None =
    ap (λ (vs : List ℕ). refusal c.args.volume vs images) (sym c.deref.ensures.value) ∙ sym c.refusal.ensures ∙ c.in_default.is in
    provider_joined c.self.inside.groups.items c.self.inside.volumes c.push_reserved.new.self c.self.inside.list c.args.volume images none c.push_reserved.ensures.items
    c.push_reserved.ensures.capacity c.self.invariant
