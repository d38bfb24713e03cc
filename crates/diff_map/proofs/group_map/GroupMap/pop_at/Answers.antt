use Rattle.std.proofs.Common.{◌<◌, ◌≡◌, ◌+◌, ◌-◌, ◌∙◌, Some, None, refl, sym, subst, ap, length, get_or, arith}
use Rattle.std.proofs.lemmas.List.{get_or_read}
use Rattle.diff_map.specs.Copies.{copied_at, copy_of, MapValue}
use Rattle.diff_map.specs.Groups.{map_at, with_row, own_copies}
use Rattle.diff_map.proofs.Counted.{used_at_place, place_of_count}
use Rattle.diff_map.proofs.Counting.{noted_less}
use Rattle.diff_map.proofs.GroupChanges.{is_at, here, kept, first, first_own, KeepsGroup-popped, maps_popped, map_popped, maps_still, only_at, only_still}
use Rattle.diff_map.proofs.group_map.GroupMap.pop_at.Goals as goal

pub returns-then-count-eq0-clause-none : goal.returns-then-count-eq0-clause-none
returns-then-count-eq0-clause-none c =
    let volume = c.index_mut-volume.result.now in
    let at = is_at c.self.invariant c.self.view_is c.requires.volume c.index_mut-volume.ensures.value in
    let inside = subst (λ (m : MapValue). c.args.at < length m.images) (here at) c.requires.image in
    let mine = own_copies volume c.self.inside.links.copies in
    rw (here at)
    (λ _. (
      maps_still at,
      sym (used_at_place volume.images volume.counts c.self.inside.next.items mine c.args.at c.index-count.result.now (kept at).images (kept at).counts inside c.index-count.ensures)
          ∙ c.if-count-eq0.true,
    ))

pub returns-then-count-eq0-clause-others : goal.returns-then-count-eq0-clause-others
returns-then-count-eq0-clause-others c =
    let volume = c.index_mut-volume.result.now in
    let at = is_at c.self.invariant c.self.view_is c.requires.volume c.index_mut-volume.ensures.value in
    only_still c.args.self.now _ c.args.v (maps_still at)

pub take_out-requires : goal.take_out-requires
take_out-requires c =
    let volume = c.index_mut-volume.result.now in
    let at = is_at c.self.invariant c.self.view_is c.requires.volume c.index_mut-volume.ensures.value in
    let inside = subst (λ (m : MapValue). c.args.at < length m.images) (here at) c.requires.image in
    let count = c.index-count.result.now in
    let some = c.if-count-eq0.false in
    let it = first at c.args.at count inside c.index-count.ensures some in
    let it_own = first_own at c.args.at count inside c.index-count.ensures some in
    (copy_of count.set (volume.base + it.0), it_own.is)

pub overflow_sub-block : goal.overflow_sub-block
overflow_sub-block c =
    let volume = c.index_mut-volume.result.now in
    let at = is_at c.self.invariant c.self.view_is c.requires.volume c.index_mut-volume.ensures.value in
    let inside = subst (λ (m : MapValue). c.args.at < length m.images) (here at) c.requires.image in
    let count = c.index-count.result.now in
    let some = c.if-count-eq0.false in
    let it = first at c.args.at count inside c.index-count.ensures some in
    let it_own = first_own at c.args.at count inside c.index-count.ensures some in
    let block_is : volume.base + it.0 ≡ c.take_out.result = c.take_out.ensures.block (copy_of count.set (volume.base + it.0)) it_own.is in
    omega arith

pub index-requires : goal.index-requires
index-requires c =
    let volume = c.index_mut-volume.result.now in
    let at = is_at c.self.invariant c.self.view_is c.requires.volume c.index_mut-volume.ensures.value in
    let inside = subst (λ (m : MapValue). c.args.at < length m.images) (here at) c.requires.image in
    let count = c.index-count.result.now in
    let some = c.if-count-eq0.false in
    let it = first at c.args.at count inside c.index-count.ensures some in
    let within = it.2 in
    let long = (kept at).counts.long in
    let ok = c.self.inside.next.ok in
    omega arith

pub overflow_sub-volume : goal.overflow_sub-volume
overflow_sub-volume c =
    let volume = c.index_mut-volume.result.now in
    let at = is_at c.self.invariant c.self.view_is c.requires.volume c.index_mut-volume.ensures.value in
    let inside = subst (λ (m : MapValue). c.args.at < length m.images) (here at) c.requires.image in
    let count = c.index-count.result.now in
    let some = c.if-count-eq0.false in
    let it = first at c.args.at count inside c.index-count.ensures some in
    let less = noted_less (own_copies volume c.self.inside.links.copies) count.first (copy_of count.set it.0) it.1 in
    let used = (kept at).used in
    omega arith

pub invariant_of-self-2 : goal.invariant_of-self-2
invariant_of-self-2 c =
    let volume = c.index_mut-volume.result.now in
    let at = is_at c.self.invariant c.self.view_is c.requires.volume c.index_mut-volume.ensures.value in
    let inside = subst (λ (m : MapValue). c.args.at < length m.images) (here at) c.requires.image in
    let count = c.index-count.result.now in
    let some = c.if-count-eq0.false in
    let it = first at c.args.at count inside c.index-count.ensures some in
    let within = it.2 in
    let long = (kept at).counts.long in
    rw c.take_out.ensures.links
    (KeepsGroup-popped at c.args.at count inside c.index-count.ensures some _ c.index.result.now
    (get_or_read c.self.inside.next.items count.first c.index.result.now (omega arith) c.index.ensures 0) refl (omega arith))

pub returns-clause-others : goal.returns-clause-others
returns-clause-others c =
    let volume = c.index_mut-volume.result.now in
    let at = is_at c.self.invariant c.self.view_is c.requires.volume c.index_mut-volume.ensures.value in
    let inside = subst (λ (m : MapValue). c.args.at < length m.images) (here at) c.requires.image in
    let count = c.index-count.result.now in
    let some = c.if-count-eq0.false in
    let it = first at c.args.at count inside c.index-count.ensures some in
    only_at c.args.self.now _ c.args.v (with_row count.first None (map_at c.args.self.now c.args.v))
    (rw c.take_out.ensures.links (maps_popped at c.args.at count inside c.index-count.ensures some _ _)) c.requires.volume

pub returns-clause-some : goal.returns-clause-some
returns-clause-some c =
    let volume = c.index_mut-volume.result.now in
    let at = is_at c.self.invariant c.self.view_is c.requires.volume c.index_mut-volume.ensures.value in
    let inside = subst (λ (m : MapValue). c.args.at < length m.images) (here at) c.requires.image in
    let count = c.index-count.result.now in
    let some = c.if-count-eq0.false in
    let it = first at c.args.at count inside c.index-count.ensures some in
    let it_own = first_own at c.args.at count inside c.index-count.ensures some in
    let block_is : volume.base + it.0 ≡ c.take_out.result = c.take_out.ensures.block (copy_of count.set (volume.base + it.0)) it_own.is in
    let mine = own_copies volume c.self.inside.links.copies in
    let place = place_of_count volume.images volume.counts c.self.inside.next.items mine c.args.at count (kept at).images (kept at).counts inside c.index-count.ensures 0 in
    let image : count.set ≡ get_or (map_at c.args.self.now c.args.v).images c.args.at 0 = sym place ∙ ap (λ (m : MapValue). get_or m.images c.args.at 0) (sym (here at)) in
    let block : it.0 ≡ c.take_out.result - volume.base = omega arith in
    rw c.take_out.ensures.links (record {
      set_is = image;
      noted = ap (λ (m : MapValue). copied_at m.copies count.first) (here at) ∙ it.1 ∙ ap (λ s. Some (copy_of s it.0)) image
          ∙ ap (λ b. Some (copy_of (get_or (map_at c.args.self.now c.args.v).images c.args.at 0) b)) block;
      gone = map_popped at c.args.at count inside c.index-count.ensures some _ _;
    })
