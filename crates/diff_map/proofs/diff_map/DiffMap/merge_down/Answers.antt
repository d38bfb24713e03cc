use Rattle.std.proofs.Common.{ℕ, ◌≡◌, ◌≢◌, not, eqb, Some, ap, sym, subst, ◌∙◌}
use Rattle.std.specs.List.{filter}
use Rattle.diff_map.specs.Copies.{KeepsFinds, copied_at, MapValue}
use Rattle.diff_map.proofs.Images.{merge_finds, map_of}
use Rattle.diff_map.specs.declared.copied.Copied.{Copied}
use Rattle.diff_map.proofs.Renewing.{left_merged}
use Rattle.diff_map.proofs.diff_map.DiffMap.merge_down.Goals as goal

pub forget-requires-clause-none : goal.forget-requires-clause-none
forget-requires-clause-none c = subst (λ (m : MapValue). (slot : ℕ) (d : Copied) → copied_at m.copies slot ≡ Some d → d.set ≢ c.args.set) (sym c.merge.ensures.map)
    (left_merged c.args.self.now.images c.args.self.now.copies c.args.set)

pub returns-clause-others : goal.returns-clause-others
returns-clause-others c =
    let valid = c.images-facts.ensures.valid in
    let is = c.forget.ensures ∙ ap (λ (m : MapValue). map_of m.blocks (filter (λ image. not (eqb image c.args.set)) m.images) m.copies) c.merge.ensures.map in
    subst (λ (m : MapValue). KeepsFinds c.args.self.now m c.args.set) (sym is)
    (merge_finds c.args.self.now.copies c.args.self.now.images c.args.set valid.images valid.of_images c.args.self.now.blocks _)
