use Rattle.std.proofs.Common.{ℕ, ◌<◌, ◌-◌, ◌∙◌, List, Some, get_or, refl, ap, sym, subst}
use Rattle.std.proofs.lemmas.Option.{slice_get_within, get_or_from_slice_get}
use Rattle.diff_map.specs.Groups.{IsOnlyAt, map_at}
use Rattle.diff_map.specs.Copies.{MapValue}
use Rattle.diff_map.specs.Rules.{merged}
use Rattle.diff_map.proofs.Renewing.{IsRenewingMap-none, renewed_map, merged_all}
use Rattle.cow_volume.proofs.Following.{Follows-first, older_above, handed_inside, handed_block, handed_once, handed_frees, handed_moves, handed_fewer}
use Rattle.cow_volume.proofs.Following.{only-none}
use Rattle.cow_volume.proofs.renewing.hand_down.Goals as goal

pub copies-init : goal.copies-init
copies-init g c =
    let m = map_at c.args.maps.now c.args.v in
    record {
      only = only-none c.args.v c.args.maps.now;
      renews = IsRenewingMap-none (merged m.copies (Some (get_or m.images (c.args.at - 1) 0)) (get_or m.images c.args.at 0)) m c.args.pool.now;
      follows = Follows-first c.args.v c.args.area.now m c.requires.tied;
    }

pub set_record-requires-clause-slot : goal.set_record-requires-clause-slot
set_record-requires-clause-slot g c = handed_inside c.args.v c.args.at c.args.area.now c.copies.area c.args.maps.now c.copies.maps
    c.hand_down.new.self c.args.pool.now c.copies.pool c.in-Some.handed c.requires.tied c.images.ensures.valid c.requires.image c.requires.older
    c.copies.invariant c.hand_down.ensures.others c.in-Some.ensures.some

pub set_record-requires-clause-used : goal.set_record-requires-clause-used
set_record-requires-clause-used g c =
    let m = map_at c.args.maps.now c.args.v in
    let volumes_are = ap (λ a. a.volumes) c.copies.invariant.follows in
    let low = handed_block c.args.v c.args.at c.args.area.now c.copies.area c.args.maps.now c.copies.maps
    c.hand_down.new.self c.args.pool.now c.copies.pool c.in-Some.handed c.requires.tied c.images.ensures.valid c.requires.image c.requires.older
    c.copies.invariant c.hand_down.ensures.others c.in-Some.ensures.some in
    let above = older_above c.args.v c.args.at c.args.area.now c.copies.area c.args.maps.now c.copies.maps
    c.hand_down.new.self c.args.pool.now c.copies.pool c.in-Some.handed c.requires.tied c.images.ensures.valid c.requires.image c.requires.older
    c.copies.invariant c.hand_down.ensures.others c.in-Some.ensures.some in
    let blocks = get_or_from_slice_get c.args.area.now.volumes c.args.v m.blocks 0 c.requires.volume in
    rw (volumes_are, c.images.ensures.images) (record {
      set = above;
      volume = slice_get_within c.args.area.now.volumes c.args.v m.blocks c.requires.volume;
      block = subst (λ (n : ℕ). c.in-Some.handed.entry.block < n) (sym blocks) low;
    })

pub set_record-requires-clause-once : goal.set_record-requires-clause-once
set_record-requires-clause-once g c = rw c.images.ensures.images (handed_once c.args.v c.args.at c.args.area.now c.copies.area c.args.maps.now c.copies.maps
    c.hand_down.new.self c.args.pool.now c.copies.pool c.in-Some.handed c.requires.tied c.images.ensures.valid c.requires.image c.requires.older
    c.copies.invariant c.hand_down.ensures.others c.in-Some.ensures.some c.if-handed.true)

pub copies-preserved-then-handed : goal.copies-preserved-then-handed
copies-preserved-then-handed g c = handed_moves c.args.v c.args.at c.args.area.now c.copies.area c.args.maps.now c.copies.maps
    c.hand_down.new.self c.args.pool.now c.copies.pool c.in-Some.handed c.requires.tied c.images.ensures.valid c.requires.image c.requires.older
    c.copies.invariant c.hand_down.ensures.others c.in-Some.ensures.some c.if-handed.true c.set_record.new.self (rw c.images.ensures.images at c.set_record.ensures)

pub clear_record-requires : goal.clear_record-requires
clear_record-requires g c = handed_inside c.args.v c.args.at c.args.area.now c.copies.area c.args.maps.now c.copies.maps
    c.hand_down.new.self c.args.pool.now c.copies.pool c.in-Some.handed c.requires.tied c.images.ensures.valid c.requires.image c.requires.older
    c.copies.invariant c.hand_down.ensures.others c.in-Some.ensures.some

pub copies-preserved : goal.copies-preserved
copies-preserved g c = rw c.give.ensures (handed_frees c.args.v c.args.at c.args.area.now c.copies.area c.args.maps.now c.copies.maps
    c.hand_down.new.self c.args.pool.now c.copies.pool c.in-Some.handed c.requires.tied c.images.ensures.valid c.requires.image c.requires.older
    c.copies.invariant c.hand_down.ensures.others c.in-Some.ensures.some c.if-handed.false c.requires.taken c.clear_record.new.self c.clear_record.ensures)

pub copies-smaller : goal.copies-smaller
copies-smaller g c = handed_fewer c.args.v c.args.at c.args.area.now c.copies.area c.args.maps.now c.copies.maps
    c.hand_down.new.self c.args.pool.now c.copies.pool c.in-Some.handed c.requires.tied c.images.ensures.valid c.requires.image c.requires.older
    c.copies.invariant c.hand_down.ensures.others c.in-Some.ensures.some

pub copies-smaller-then-handed : goal.copies-smaller-then-handed
copies-smaller-then-handed g c = handed_fewer c.args.v c.args.at c.args.area.now c.copies.area c.args.maps.now c.copies.maps
    c.hand_down.new.self c.args.pool.now c.copies.pool c.in-Some.handed c.requires.tied c.images.ensures.valid c.requires.image c.requires.older
    c.copies.invariant c.hand_down.ensures.others c.in-Some.ensures.some

pub returns-clause-others : goal.returns-clause-others
returns-clause-others g c =
    let last = c.in_default.ensures.none refl in
    subst (λ (ms : List MapValue). IsOnlyAt c.args.v c.args.maps.now ms) (sym last.0) c.copies.invariant.only

pub returns-clause-map : goal.returns-clause-map
returns-clause-map g c =
    let m = map_at c.args.maps.now c.args.v in
    let mid = map_at c.copies.maps c.args.v in
    let older = get_or m.images (c.args.at - 1) 0 in
    let image = get_or m.images c.args.at 0 in
    let renews = c.copies.invariant.renews in
    let last = c.in_default.ensures.none refl in
    ap (λ (ms : List MapValue). map_at ms c.args.v) last.0
    ∙ renewed_map (merged m.copies (Some older) image) m mid c.args.pool.now c.copies.pool renews
    (merged_all m.copies mid.copies c.args.pool.now c.copies.pool older image renews.renews (rw renews.images at last.1))
