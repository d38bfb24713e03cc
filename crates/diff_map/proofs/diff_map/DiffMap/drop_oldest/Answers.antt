use Rattle.std.proofs.Common.{ℕ, List, ap, get_or, ◌∙◌}
use Rattle.diff_map.proofs.Images.{drop_is}
use Rattle.diff_map.proofs.diff_map.DiffMap.drop_oldest.Goals as goal

pub returns-clause-map : goal.returns-clause-map
returns-clause-map c =
    let valid = c.images.ensures.valid in
    c.merge_down.ensures.map
    ∙ drop_is c.args.self.now (get_or c.images.result.now 0 0) valid.images c.requires.image (ap (λ (xs : List ℕ). get_or xs 0 0) c.images.ensures.images)
