use Rattle.diff_map.specs.Groups.{own_copies}
use Rattle.diff_map.proofs.Counted.{oldest_found, none_used}
use Rattle.diff_map.proofs.GroupChanges.{is_at, here, kept}
use Rattle.diff_map.proofs.group_map.GroupMap.oldest_used.Goals as goal

pub returns-clause-found : goal.returns-clause-found
returns-clause-found c =
    let volume = c.index.result.now in
    let at = is_at c.self.invariant c.self.view_is c.requires c.index.ensures in
    let found = rw c.deref.ensures.value at c.first_used.ensures.found in
    rw (here at) (oldest_found c.first_used.result volume.images volume.counts c.self.inside.next.items (own_copies volume c.self.inside.links.copies) (kept at).images (kept at).counts found)

pub returns-clause-none : goal.returns-clause-none
returns-clause-none c =
    let volume = c.index.result.now in
    let at = is_at c.self.invariant c.self.view_is c.requires c.index.ensures in
    let none = rw c.deref.ensures.value at c.first_used.ensures.none in
    rw (here at) (λ is. none_used volume.images volume.counts c.self.inside.next.items (own_copies volume c.self.inside.links.copies) (kept at).images (kept at).counts (none is))
