use Rattle.std.proofs.Common.{ℕ, ◌<◌, ◌≡◌, ◌+◌, ◌-◌, ◌∙◌, Some, None, refl, sym, subst, ap, length, get_or, arith, Contains}
use Rattle.std.specs.Vec.{with_item}
use Rattle.std.proofs.lemmas.List.{get_or_default, get_or_read}
use Rattle.diff_map.specs.Copies.{copy_of, HasCopy, MapValue}
use Rattle.diff_map.specs.Groups.{map_at, with_row, own_copies}
use Rattle.diff_map.proofs.Counted.{place_of_count}
use Rattle.diff_map.proofs.GroupChanges.{older_fits, KeepsGroup-given, maps_given, given_down, is_at, here, kept, first, first_own, only_at}
use Rattle.diff_map.proofs.group_map.GroupMap.lower.Goals as goal

pub lower-requires-clause-below : goal.lower-requires-clause-below
lower-requires-clause-below c =
    let volume = c.index_mut-volume.result.now in
    let at = is_at c.self.invariant c.self.view_is c.requires.volume c.index_mut-volume.ensures.value in
    let inside = subst (λ (m : MapValue). c.args.at < length m.images) (here at) c.requires.image in
    let count = c.index-count.result.now in
    let some = c.if-count-eq0.false in
    let it = first at c.args.at count inside c.index-count.ensures some in
    let it_own = first_own at c.args.at count inside c.index-count.ensures some in
    let set = c.index-set.result.now in
    let from = c.requires.older in
    let up = (kept at).images.are_images.ascend (c.args.at - 1) c.args.at set (omega arith) inside in
    let read = c.index-set.ensures in
    let place = place_of_count volume.images volume.counts c.self.inside.next.items (own_copies volume c.self.inside.links.copies) c.args.at count (kept at).images (kept at).counts inside
    c.index-count.ensures set in
    (copy_of count.set (volume.base + it.0), it_own.is, omega arith)

pub index-rest-requires : goal.index-rest-requires
index-rest-requires c =
    let volume = c.index_mut-volume.result.now in
    let at = is_at c.self.invariant c.self.view_is c.requires.volume c.index_mut-volume.ensures.value in
    let inside = subst (λ (m : MapValue). c.args.at < length m.images) (here at) c.requires.image in
    let count = c.index-count.result.now in
    let some = c.if-count-eq0.false in
    let it = first at c.args.at count inside c.index-count.ensures some in
    let within_next = it.2 in
    let long = (kept at).counts.long in
    let ok = c.self.inside.next.ok in
    omega arith

pub index_mut-requires-2 : goal.index_mut-requires-2
index_mut-requires-2 c =
    let volume = c.index_mut-volume.result.now in
    let at = is_at c.self.invariant c.self.view_is c.requires.volume c.index_mut-volume.ensures.value in
    let inside = subst (λ (m : MapValue). c.args.at < length m.images) (here at) c.requires.image in
    let count = c.index-count.result.now in
    let some = c.if-count-eq0.false in
    let it = first at c.args.at count inside c.index-count.ensures some in
    let within_next = it.2 in
    let long = (kept at).counts.long in
    let ok = c.self.inside.next.ok in
    omega arith

pub overflow_add-older : goal.overflow_add-older
overflow_add-older c =
    let volume = c.index_mut-volume.result.now in
    let at = is_at c.self.invariant c.self.view_is c.requires.volume c.index_mut-volume.ensures.value in
    let inside = subst (λ (m : MapValue). c.args.at < length m.images) (here at) c.requires.image in
    let count = c.index-count.result.now in
    let some = c.if-count-eq0.false in
    let it = first at c.args.at count inside c.index-count.ensures some in
    let set = c.index-set.result.now in
    let k = c.args.at - 1 in
    let from = c.requires.older in
    let inside_k : k < length volume.images.items = omega arith in
    let contains : Contains volume.images.items set = (k, inside_k, sym c.index-set.ensures) in
    let is_k : (d : ℕ) → get_or volume.images.items k d ≡ set = λ d. get_or_default volume.images.items k d set inside_k ∙ sym c.index-set.ensures in
    let value = c.index-rest.result.now in
    let newer = with_item volume.counts c.args.at (record { set = count.set; used = count.used - 1; first = value }) in
    let within_next = it.2 in
    let long = (kept at).counts.long in
    let value_is = get_or_read c.self.inside.next.items count.first value (omega arith) c.index-rest.ensures 0 in
    let fits = older_fits at c.args.at count newer value inside c.index-count.ensures some value_is refl (omega arith) set k c.index-older.result.now contains inside_k is_k c.index-older.ensures
    c.slots-facts.ensures.valid.narrow in
    omega arith

pub overflow_sub-result : goal.overflow_sub-result
overflow_sub-result c =
    let volume = c.index_mut-volume.result.now in
    let at = is_at c.self.invariant c.self.view_is c.requires.volume c.index_mut-volume.ensures.value in
    let inside = subst (λ (m : MapValue). c.args.at < length m.images) (here at) c.requires.image in
    let count = c.index-count.result.now in
    let some = c.if-count-eq0.false in
    let it = first at c.args.at count inside c.index-count.ensures some in
    let it_own = first_own at c.args.at count inside c.index-count.ensures some in
    let lowered = c.in-Some.ensures.some in
    let block_is : volume.base + it.0 ≡ c.in-Some.block = lowered.block_is (copy_of count.set (volume.base + it.0)) it_own.is in
    omega arith

pub invariant_of-self-2 : goal.invariant_of-self-2
invariant_of-self-2 c =
    let volume = c.index_mut-volume.result.now in
    let at = is_at c.self.invariant c.self.view_is c.requires.volume c.index_mut-volume.ensures.value in
    let inside = subst (λ (m : MapValue). c.args.at < length m.images) (here at) c.requires.image in
    let count = c.index-count.result.now in
    let some = c.if-count-eq0.false in
    let it = first at c.args.at count inside c.index-count.ensures some in
    let it_own = first_own at c.args.at count inside c.index-count.ensures some in
    let lowered = c.in-Some.ensures.some in
    let block_is : volume.base + it.0 ≡ c.in-Some.block = lowered.block_is (copy_of count.set (volume.base + it.0)) it_own.is in
    let set = c.index-set.result.now in
    let k = c.args.at - 1 in
    let from = c.requires.older in
    let inside_k : k < length volume.images.items = omega arith in
    let contains : Contains volume.images.items set = (k, inside_k, sym c.index-set.ensures) in
    let is_k : (d : ℕ) → get_or volume.images.items k d ≡ set = λ d. get_or_default volume.images.items k d set inside_k ∙ sym c.index-set.ensures in
    let value = c.index-rest.result.now in
    let newer = with_item volume.counts c.args.at (record { set = count.set; used = count.used - 1; first = value }) in
    let within_next = it.2 in
    let long = (kept at).counts.long in
    let value_is = get_or_read c.self.inside.next.items count.first value (omega arith) c.index-rest.ensures 0 in
    rw lowered.lowered
    (KeepsGroup-given at c.args.at count newer value inside c.index-count.ensures some value_is refl (omega arith) set k c.index-older.result.now contains inside_k is_k c.index-older.ensures
    _ c.in-Some.block block_is refl (omega arith))

pub returns-clause-others : goal.returns-clause-others
returns-clause-others c =
    let volume = c.index_mut-volume.result.now in
    let at = is_at c.self.invariant c.self.view_is c.requires.volume c.index_mut-volume.ensures.value in
    let inside = subst (λ (m : MapValue). c.args.at < length m.images) (here at) c.requires.image in
    let count = c.index-count.result.now in
    let some = c.if-count-eq0.false in
    let it = first at c.args.at count inside c.index-count.ensures some in
    let it_own = first_own at c.args.at count inside c.index-count.ensures some in
    let lowered = c.in-Some.ensures.some in
    let block_is : volume.base + it.0 ≡ c.in-Some.block = lowered.block_is (copy_of count.set (volume.base + it.0)) it_own.is in
    let set = c.index-set.result.now in
    let k = c.args.at - 1 in
    let from = c.requires.older in
    let inside_k : k < length volume.images.items = omega arith in
    let contains : Contains volume.images.items set = (k, inside_k, sym c.index-set.ensures) in
    let is_k : (d : ℕ) → get_or volume.images.items k d ≡ set = λ d. get_or_default volume.images.items k d set inside_k ∙ sym c.index-set.ensures in
    let value = c.index-rest.result.now in
    let newer = with_item volume.counts c.args.at (record { set = count.set; used = count.used - 1; first = value }) in
    let within_next = it.2 in
    let long = (kept at).counts.long in
    let value_is = get_or_read c.self.inside.next.items count.first value (omega arith) c.index-rest.ensures 0 in
    only_at c.args.self.now _ c.args.v (with_row count.first (Some (copy_of set it.0)) (with_row count.first None (map_at c.args.self.now c.args.v)))
    (rw lowered.lowered
    (maps_given at c.args.at count newer value inside c.index-count.ensures some value_is refl (omega arith) set k c.index-older.result.now contains inside_k is_k c.index-older.ensures
    _ c.in-Some.block block_is)) c.requires.volume

pub returns-clause-some : goal.returns-clause-some
returns-clause-some c =
    let volume = c.index_mut-volume.result.now in
    let at = is_at c.self.invariant c.self.view_is c.requires.volume c.index_mut-volume.ensures.value in
    let inside = subst (λ (m : MapValue). c.args.at < length m.images) (here at) c.requires.image in
    let count = c.index-count.result.now in
    let some = c.if-count-eq0.false in
    let it = first at c.args.at count inside c.index-count.ensures some in
    let it_own = first_own at c.args.at count inside c.index-count.ensures some in
    let lowered = c.in-Some.ensures.some in
    let block_is : volume.base + it.0 ≡ c.in-Some.block = lowered.block_is (copy_of count.set (volume.base + it.0)) it_own.is in
    let set = c.index-set.result.now in
    let k = c.args.at - 1 in
    let from = c.requires.older in
    let inside_k : k < length volume.images.items = omega arith in
    let contains : Contains volume.images.items set = (k, inside_k, sym c.index-set.ensures) in
    let is_k : (d : ℕ) → get_or volume.images.items k d ≡ set = λ d. get_or_default volume.images.items k d set inside_k ∙ sym c.index-set.ensures in
    let value = c.index-rest.result.now in
    let newer = with_item volume.counts c.args.at (record { set = count.set; used = count.used - 1; first = value }) in
    let within_next = it.2 in
    let long = (kept at).counts.long in
    let value_is = get_or_read c.self.inside.next.items count.first value (omega arith) c.index-rest.ensures 0 in
    let image_is : set ≡ get_or (map_at c.args.self.now c.args.v).images k 0 = sym (is_k 0) ∙ ap (λ (m : MapValue). get_or m.images k 0) (sym (here at)) in
    let block = c.in-Some.block - volume.base in
    let whole : c.in-Some.block ≡ volume.base + block = omega arith in
    rw lowered.lowered
    (given_down at c.args.at count newer value inside c.index-count.ensures some value_is refl (omega arith) set k c.index-older.result.now contains inside_k is_k c.index-older.ensures
    _ block
    (maps_given at c.args.at count newer value inside c.index-count.ensures some value_is refl (omega arith) set k c.index-older.result.now contains inside_k is_k c.index-older.ensures
    _ c.in-Some.block block_is)
    image_is (subst (λ b. HasCopy c.self.inside.links.copies set b → ⊥) whole lowered.lacked) (omega arith))
