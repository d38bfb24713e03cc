use Rattle.std.proofs.Common.{◌≤◌, None, List, subst, refl, arith, length, rules, vec_capacity, eqb}
use Rattle.std.specs.Prelude.{slice_set, not}
use Rattle.std.proofs.lemmas.Fn.{filter_same}
use Rattle.std.proofs.lemmas.Grind.{common_steps}
use Rattle.mirror_volume.specs.declared.mirror.Mirror.{Mirror}
use Rattle.mirror_volume.specs.MirrorCalls.{NoneHolds}
use Rattle.mirror_volume.proofs.Standing.{dropped_stands}
use Rattle.mirror_volume.proofs.Keeping.{value_of, holder_at, holder_of, within_holder, keeps_drop, among_held, not_among}
use Rattle.mirror_volume.proofs.mirror_volume.MirrorVolume.drop_image.Goals as goal

pub returns-in_default-clause-dropped : goal.returns-in_default-clause-dropped
returns-in_default-clause-dropped g c =
    let none : NoneHolds c.self.inside.mirrors.items c.args.set (length c.self.inside.mirrors.items) = subst (λ (ms : List (Mirror _)). NoneHolds ms c.args.set (length ms)) c.deref.ensures.value
    (c.in_default.ensures.none refl) in
    (refl, rw (← c.self.view_is) (not_among c.self.inside.mirrors.items c.self.inside.images.items c.args.set c.self.invariant.are_held (λ k m l at. none k m l at)), refl)

pub index_mut-mirror-requires : goal.index_mut-mirror-requires
index_mut-mirror-requires g c =
    let low = within_holder c.deref.result.now c.self.inside.mirrors.items c.deref.ensures.value c.args.set c.in-Some.place c.in-Some.ensures.found in
    let long = c.self.inside.mirrors.ok in grind (arith, common_steps)

pub invariant_of-self : goal.invariant_of-self
invariant_of-self g c =
    let at = holder_at c.deref.result.now c.self.inside.mirrors.items c.deref.ensures.value c.args.set c.in-Some.place c.in-Some.ensures.found c.index_mut-mirror.result.now
    c.index_mut-mirror.ensures.value in
    let left = filter_same _ (λ s. not (eqb s c.args.set)) _ (λ x b f k. search rules) _ _ c.retain.ensures.filtered in
    let room : vec_capacity c.self.inside.images ≤ vec_capacity c.retain.new.self = (let same = c.retain.ensures.capacity in omega arith) in
    keeps_drop g.D.Device.size c.self.inside.primary c.self.inside.mirrors.items c.self.inside.images c.retain.new.self c.in-Some.place c.args.set
    (holder_of c.self.inside.mirrors.items c.args.set c.in-Some.place c.index_mut-mirror.result.now at) left room c.self.invariant

pub returns-clause-dropped : goal.returns-clause-dropped
returns-clause-dropped g c =
    let at = holder_at c.deref.result.now c.self.inside.mirrors.items c.deref.ensures.value c.args.set c.in-Some.place c.in-Some.ensures.found c.index_mut-mirror.result.now
    c.index_mut-mirror.ensures.value in
    let left = filter_same _ (λ s. not (eqb s c.args.set)) _ (λ x b f k. search rules) _ _ c.retain.ensures.filtered in
    rw (← c.self.view_is) (
      among_held c.self.inside.mirrors.items c.self.inside.images.items c.in-Some.place c.args.set c.self.invariant.are_held
          (holder_of c.self.inside.mirrors.items c.args.set c.in-Some.place c.index_mut-mirror.result.now at),
      record { place = c.in-Some.place; mirror = c.index_mut-mirror.result.now; was = at.was; held = at.held; mirrors = refl; primary = refl; images = left },
    )

pub returns-clause-stands : goal.returns-clause-stands
returns-clause-stands g c =
    let at = holder_at c.deref.result.now c.self.inside.mirrors.items c.deref.ensures.value c.args.set c.in-Some.place c.in-Some.ensures.found c.index_mut-mirror.result.now
    c.index_mut-mirror.ensures.value in
    let left = filter_same _ (λ s. not (eqb s c.args.set)) _ (λ x b f k. search rules) _ _ c.retain.ensures.filtered in
    let next : Mirror _ = record { device = c.index_mut-mirror.result.now.device; holds = None; stale = c.index_mut-mirror.result.now.stale } in
    rw (← c.self.view_is) (λ h stood. dropped_stands g.D.Device (value_of c.self.inside.primary c.self.inside.mirrors.items c.self.inside.images.items)
    (value_of c.self.inside.primary (slice_set c.self.inside.mirrors.items c.in-Some.place next) c.retain.new.self.items) c.args.set h c.self.invariant.are_held
    (record { place = c.in-Some.place; mirror = c.index_mut-mirror.result.now; was = at.was; held = at.held; mirrors = refl; primary = refl; images = left }) stood)
