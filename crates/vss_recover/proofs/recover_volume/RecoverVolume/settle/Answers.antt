use Rattle.std.proofs.Common.{rules}
use Rattle.std.proofs.lemmas.Fn.{filter_same}
use Rattle.cow_volume.specs.Calls.{is_among}
use Rattle.vss_recover.proofs.InParts.{settled_is}
use Rattle.vss_recover.proofs.recover_volume.RecoverVolume.settle.Goals as goal

pub returns-clause-settled : goal.returns-clause-settled
returns-clause-settled g c =
    let left = filter_same _ (λ s. is_among s c.images-images.result.now) _ (λ x b f k. search rules) _ _ c.retain.ensures.filtered in
    rw (← c.self.view_is)
    (settled_is c.self.inside.volume c.self.inside.overlay c.keep.new.self c.self.inside.window c.kept_window-self-inside.result c.self.inside.claims.items c.self.inside.finals.items
    c.retain.new.self.items c.images-images.result.now
    c.images-images.ensures.images c.keep.ensures c.kept_window-self-inside.ensures left)
