use Rattle.std.proofs.Common.{ℕ, ◌∙◌, List, ap, sym}
use Rattle.diff_map.specs.Rules.{next_older}
use Rattle.diff_map.proofs.Images.{next_older_is}
use Rattle.diff_map.proofs.diff_map.DiffMap.merge.Goals as goal

pub hand_down-requires-clause-older : goal.hand_down-requires-clause-older
hand_down-requires-clause-older c =
    (next_older_is c.args.self.now.images c.args.set c.in-Some.older (ap (λ (xs : List ℕ). next_older xs c.args.set) (sym c.images.ensures.images) ∙ sym c.next_older.ensures ∙ c.in-Some.is)).1

pub hand_down-requires-clause-below : goal.hand_down-requires-clause-below
hand_down-requires-clause-below c =
    (next_older_is c.args.self.now.images c.args.set c.in-Some.older (ap (λ (xs : List ℕ). next_older xs c.args.set) (sym c.images.ensures.images) ∙ sym c.next_older.ensures ∙ c.in-Some.is)).0
