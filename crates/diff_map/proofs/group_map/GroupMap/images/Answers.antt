use Rattle.diff_map.proofs.Grouped.{IsMap-from}
use Rattle.diff_map.proofs.GroupChanges.{is_at, here, kept}
use Rattle.diff_map.proofs.group_map.GroupMap.images.Goals as goal

pub returns-clause-valid : goal.returns-clause-valid
returns-clause-valid c =
    let at = is_at c.self.invariant c.self.view_is c.requires c.index.ensures in
    rw (here at) (IsMap-from c.self.inside.links.blocks c.self.inside.next.items c.self.inside.links.copies c.index.result.now c.slots-facts.ensures.valid (kept at))
