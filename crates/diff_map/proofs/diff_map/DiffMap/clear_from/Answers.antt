use Rattle.std.proofs.Common.{ℕ, ◌≡◌, ◌≤◌, Some, sym, subst}
use Rattle.diff_map.specs.declared.copied.Copied.{Copied}
use Rattle.diff_map.specs.Copies.{copied_at, MapValue}
use Rattle.diff_map.proofs.Renewing.{left_from}
use Rattle.diff_map.proofs.diff_map.DiffMap.clear_from.Goals as goal

pub forget_newer-requires : goal.forget_newer-requires
forget_newer-requires c = subst (λ (m : MapValue). (slot : ℕ) (d : Copied) → copied_at m.copies slot ≡ Some d → d.set ≤ c.args.set) (sym c.free.ensures.map)
    (left_from c.args.set c.args.self.now.copies)
