use Rattle.std.proofs.Common.{◌∙◌, ap, replicate, true, arith}
use Rattle.vss_recover.proofs.UsedSlots.{overlay_new}
use Rattle.vss_recover.proofs.overlay.Overlay.new.Goals as goal

pub invariant_of-result : goal.invariant_of-result
invariant_of-result g c =
    overlay_new c.args.area.volumes c.args.area.records c.in_ok-entries.entries c.in_ok-pool.pool c.requires.one c.requires.free c.in_ok-entries.ensures.items
    (let room = c.in_ok-entries.ensures.capacity in let slots = c.slots-slots.ensures.slots in omega arith)
    (c.in_ok-pool.ensures ∙ ap (λ n. replicate n true) c.slots-slots.ensures.slots)
