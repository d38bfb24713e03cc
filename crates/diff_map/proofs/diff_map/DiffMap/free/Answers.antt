use Rattle.std.proofs.Common.{◌≡◌, true, ◌+◌, ◌<◌, ◌∙◌, refl, ap, sym, subst, arith, length, get_or}
use Rattle.diff_map.specs.Rules.{takes}
use Rattle.diff_map.specs.Copies.{MapValue}
use Rattle.diff_map.proofs.Renewing.{FreesMapUpTo, FreesMapUpTo-popped, FreesMapUpTo-done, FreesMapUpTo-past, FreesMapUpTo-none, FreesMapUpTo-untaken, freed_map}
use Rattle.diff_map.proofs.diff_map.DiffMap.free.Goals as goal
use Rattle.diff_map.proofs.diff_map.DiffMap.free.Goals.{then-takes+in_default, else-takes}

pub loop-i-init : goal.loop-i-init
loop-i-init c =
    FreesMapUpTo-untaken c.args.going 0 c.places-from.result.0 c.args.self.now c.args.self.now c.args.pool.now c.args.pool.now (FreesMapUpTo-none c.args.going c.args.self.now c.args.pool.now)
    (rw c.images.ensures.images at c.places-from.ensures.before)

pub copies-preserved : goal.copies-preserved
copies-preserved c =
    let same = c.images-in-loop-i.ensures.images ∙ c.loop-i.invariant.images ∙ sym c.copies.invariant.images in
    let goes = sym c.takes.ensures ∙ c.if-takes.true in
    rw c.give.ensures
    (FreesMapUpTo-popped c.args.going c.loop-i.i _ c.args.self.now c.copies.self c.pop_at.new.self c.args.pool.now c.copies.pool c.in-Some.entry c.copies.invariant c.in-Some.ensures.some
    (subst (λ xs. takes c.args.going (get_or xs c.loop-i.i 0) ≡ true) same goes) c.requires.taken)

pub loop-i-preserved : goal.loop-i-preserved
loop-i-preserved c =
    let first = c.args.self.now in
    let test = c.loop-i-test.true in
    let within = c.places-from.ensures.within in
    let long = ap length c.images.ensures.images in
    let inside : c.loop-i.i < length first.images = omega arith in
    elim c.if-takes.branch [
      | then-takes+in_default w ↦
          let last = w.in_default.ensures.none refl in
          rw (w.self-is, w.pool-is) (subst (λ (m : MapValue). FreesMapUpTo c.args.going (c.loop-i.i + 1) first m c.args.pool.now w.copies.pool) (sym last.0)
          (FreesMapUpTo-done c.args.going c.loop-i.i _ first w.copies.self c.args.pool.now w.copies.pool w.copies.invariant inside
          (ap (λ xs. get_or xs c.loop-i.i 0) w.copies.invariant.images) last.1))
      | else-takes w ↦ rw (w.self-is, w.pool-is)
          (FreesMapUpTo-past c.args.going c.loop-i.i _ first c.loop-i.self c.args.pool.now c.loop-i.pool c.loop-i.invariant inside (ap (λ xs. get_or xs c.loop-i.i 0) c.images-in-loop-i.ensures.images)
          (sym c.takes.ensures ∙ w.if-takes.false))
    ]

pub returns-clause-map : goal.returns-clause-map
returns-clause-map c =
    let first = c.args.self.now in
    let past = c.loop-i-test.false in
    let rest = rw c.images.ensures.images at c.places-from.ensures.after in
    freed_map c.args.going (length first.images) first c.loop-i.self c.args.pool.now c.loop-i.pool c.images.ensures.valid
    (FreesMapUpTo-untaken c.args.going c.loop-i.i (length first.images) first c.loop-i.self c.args.pool.now c.loop-i.pool c.loop-i.invariant (λ k d low inside. rest k d (omega arith) inside))
    (omega arith)
