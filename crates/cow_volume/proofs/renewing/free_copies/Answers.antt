use Rattle.std.proofs.Common.{◌≡◌, true, ◌+◌, ◌<◌, ◌∙◌, List, None, refl, ap, sym, subst, arith, length, get_or}
use Rattle.diff_map.specs.Rules.{takes}
use Rattle.diff_map.specs.Copies.{MapValue}
use Rattle.diff_map.proofs.Renewing.{FreesMapUpTo-none, FreesMapUpTo-popped, FreesMapUpTo-done, FreesMapUpTo-past, FreesMapUpTo-untaken, FreesMapUpTo-unused, going_was, freed_map}
use Rattle.diff_map.specs.Groups.{map_at}
use Rattle.cow_volume.proofs.Following.{only-none, only-more, FreesCopies, Follows-first, Follows-set, slot_inside}
use Rattle.cow_volume.proofs.renewing.free_copies.Goals as goal
use Rattle.cow_volume.proofs.renewing.free_copies.Goals.{then-takes+in_default, else-takes}

pub loop-i-init : goal.loop-i-init
loop-i-init g c =
    let first = map_at c.args.maps.now c.args.v in
    let some = c.first_with_copies-some.ensures in
    let most = c.max-i.ensures in
    record {
      only = only-none c.args.v c.args.maps.now;
      frees = FreesMapUpTo-unused c.args.going c.places-from.result.0 _ first first c.args.pool.now c.args.pool.now
          (FreesMapUpTo-untaken c.args.going 0 c.places-from.result.0 first first c.args.pool.now c.args.pool.now
          (FreesMapUpTo-none c.args.going first c.args.pool.now) (rw c.images.ensures.images at c.places-from.ensures.before))
          (λ k d low high. some k d (omega arith) (omega arith));
      follows = Follows-first c.args.v c.args.area.now first c.requires.tied;
    }

pub clear_record-requires : goal.clear_record-requires
clear_record-requires g c =
    let inv = c.copies.invariant in
    let popped = c.in-Some.ensures.some in
    let same = c.images-in-loop-i.ensures.images ∙ c.loop-i.invariant.frees.images ∙ sym inv.frees.images in
    let goes = subst (λ xs. takes c.args.going (get_or xs c.loop-i.i 0) ≡ true) same (sym c.takes.ensures ∙ c.if-takes.true) in
    let was = going_was c.args.going c.loop-i.i _ (map_at c.args.maps.now c.args.v) (map_at c.copies.maps c.args.v)
    (map_at c.pop_at.new.self c.args.v) c.args.pool.now c.copies.pool c.in-Some.entry inv.frees popped goes in
    slot_inside c.args.v c.args.area.now c.copies.area (map_at c.args.maps.now c.args.v) (map_at c.copies.maps c.args.v) _ c.in-Some.entry c.requires.tied inv.frees.frees.renews.long inv.follows was

pub copies-preserved : goal.copies-preserved
copies-preserved g c =
    let inv = c.copies.invariant in
    let popped = c.in-Some.ensures.some in
    let same = c.images-in-loop-i.ensures.images ∙ c.loop-i.invariant.frees.images ∙ sym inv.frees.images in
    let goes = subst (λ xs. takes c.args.going (get_or xs c.loop-i.i 0) ≡ true) same (sym c.takes.ensures ∙ c.if-takes.true) in
    let was = going_was c.args.going c.loop-i.i _ (map_at c.args.maps.now c.args.v) (map_at c.copies.maps c.args.v)
    (map_at c.pop_at.new.self c.args.v) c.args.pool.now c.copies.pool c.in-Some.entry inv.frees popped goes in
    rw c.give.ensures (record {
      only = only-more c.args.v c.args.maps.now c.copies.maps c.pop_at.new.self inv.only c.pop_at.ensures.others;
      frees = FreesMapUpTo-popped c.args.going c.loop-i.i _ (map_at c.args.maps.now c.args.v) (map_at c.copies.maps c.args.v)
          (map_at c.pop_at.new.self c.args.v) c.args.pool.now c.copies.pool c.in-Some.entry inv.frees popped goes c.requires.taken;
      follows = Follows-set c.args.v c.args.area.now c.copies.area (map_at c.args.maps.now c.args.v) (map_at c.copies.maps c.args.v) _ c.in-Some.entry c.requires.tied inv.frees.frees.renews.long
          inv.follows was c.clear_record.new.self (map_at c.pop_at.new.self c.args.v) None c.clear_record.ensures (ap (λ (m : MapValue). m.copies) popped.gone);
    })

pub loop-i-preserved : goal.loop-i-preserved
loop-i-preserved g c =
    let first = map_at c.args.maps.now c.args.v in
    let test = c.loop-i-test.true in
    let within = c.places-from.ensures.within in
    let long = ap length c.images.ensures.images in
    let inside : c.loop-i.i < length first.images = omega arith in
    elim c.if-takes.branch [
      | then-takes+in_default w ↦
          let last = w.in_default.ensures.none refl in
          rw (w.area-is, w.maps-is, w.pool-is)
          (subst (λ (ms : List MapValue). FreesCopies c.args.v c.args.going (c.loop-i.i + 1) c.args.area.now w.copies.area c.args.maps.now ms c.args.pool.now w.copies.pool) (sym last.0) (record {
            only = w.copies.invariant.only;
            frees = FreesMapUpTo-done c.args.going c.loop-i.i _ first (map_at w.copies.maps c.args.v) c.args.pool.now w.copies.pool w.copies.invariant.frees inside
                (ap (λ xs. get_or xs c.loop-i.i 0) w.copies.invariant.frees.images) last.1;
            follows = w.copies.invariant.follows;
          }))
      | else-takes w ↦ rw (w.area-is, w.maps-is, w.pool-is) (record {
        only = c.loop-i.invariant.only;
        frees = FreesMapUpTo-past c.args.going c.loop-i.i _ first (map_at c.loop-i.maps c.args.v) c.args.pool.now c.loop-i.pool c.loop-i.invariant.frees inside
            (ap (λ xs. get_or xs c.loop-i.i 0) c.images-in-loop-i.ensures.images) (sym c.takes.ensures ∙ w.if-takes.false);
        follows = c.loop-i.invariant.follows;
      })
    ]

pub returns-clause-map : goal.returns-clause-map
returns-clause-map g c =
    let first = map_at c.args.maps.now c.args.v in
    let past = c.loop-i-test.false in
    let rest = rw c.images.ensures.images at c.places-from.ensures.after in
    freed_map c.args.going (length first.images) first (map_at c.loop-i.maps c.args.v) c.args.pool.now c.loop-i.pool c.images.ensures.valid
    (FreesMapUpTo-untaken c.args.going c.loop-i.i (length first.images) first (map_at c.loop-i.maps c.args.v) c.args.pool.now c.loop-i.pool c.loop-i.invariant.frees
    (λ k d low inside. rest k d (omega arith) inside))
    (omega arith)
