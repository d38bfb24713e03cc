use Rattle.std.proofs.Common.{◌++◌, ◌∷◌, [], Some, List, subst, refl, arith}
use Rattle.std.specs.Prelude.{is_ok, slice_set}
use Rattle.mirror_volume.specs.declared.mirror.Mirror.{Mirror}
use Rattle.mirror_volume.specs.MirrorCalls.{NoneReady}
use Rattle.mirror_volume.proofs.Held.{ready_none}
use Rattle.mirror_volume.proofs.Standing.{cut_stands}
use Rattle.mirror_volume.proofs.Keeping.{value_of, first_at, first_of, within_first, pushed, keeps_cut}
use Rattle.mirror_volume.proofs.mirror_volume.MirrorVolume.cut.Goals as goal
use Rattle.mirror_volume.proofs.Counts.{not_below}

pub returns-in_default-clause-cut : goal.returns-in_default-clause-cut
returns-in_default-clause-cut g c =
    let none : NoneReady c.self.inside.mirrors.items = subst (λ (ms : List (Mirror _)). NoneReady ms) c.deref.ensures.value (c.in_default.ensures.none refl) in
    (rw (← c.self.view_is) (ready_none c.self.inside.mirrors.items none), refl)

pub index_mut-mirror-requires : goal.index_mut-mirror-requires
index_mut-mirror-requires g c =
    let low = within_first c.deref.result.now c.self.inside.mirrors.items c.deref.ensures.value c.in-Some.place c.in-Some.ensures.first in
    let long = c.self.inside.mirrors.ok in
    omega arith

pub invariant_of-self : goal.invariant_of-self
invariant_of-self g c =
    let at = first_at c.deref.result.now c.self.inside.mirrors.items c.deref.ensures.value c.in-Some.place c.in-Some.ensures.first c.index_mut-mirror.result.now c.index_mut-mirror.ensures.value in
    let few = rw (← c.self.view_is) at c.requires.room in
    let newest = rw (← c.self.view_is) at c.requires.newest in
    let long = c.self.inside.images.ok in
    let room = c.self.invariant.room in
    let is = c.push.ensures.succeeds (omega arith) in
    let items = pushed (is_ok c.push.result) c.push.new.self.items (c.self.inside.images.items ++ c.args.set ∷ []) c.self.inside.images.items is c.push.ensures.items in
    keeps_cut g.D.Device.size c.self.inside.primary c.self.inside.mirrors.items c.self.inside.images c.push.new.self c.in-Some.place c.args.set
    (first_of c.self.inside.mirrors.items c.in-Some.place c.index_mut-mirror.result.now at) newest items c.push.ensures.capacity c.self.invariant

pub returns-clause-cut : goal.returns-clause-cut
returns-clause-cut g c =
    let at = first_at c.deref.result.now c.self.inside.mirrors.items c.deref.ensures.value c.in-Some.place c.in-Some.ensures.first c.index_mut-mirror.result.now c.index_mut-mirror.ensures.value in
    let few = rw (← c.self.view_is) at c.requires.room in
    let long = c.self.inside.images.ok in
    let room = c.self.invariant.room in
    let is = c.push.ensures.succeeds (omega arith) in
    let items = pushed (is_ok c.push.result) c.push.new.self.items (c.self.inside.images.items ++ c.args.set ∷ []) c.self.inside.images.items is c.push.ensures.items in
    rw (← c.self.view_is) (record {
      place = c.in-Some.place;
      split = first_of c.self.inside.mirrors.items c.in-Some.place c.index_mut-mirror.result.now at;
      mirrors = refl;
      primary = refl;
      images = items;
    })

pub returns-clause-stands : goal.returns-clause-stands
returns-clause-stands g c =
    let at = first_at c.deref.result.now c.self.inside.mirrors.items c.deref.ensures.value c.in-Some.place c.in-Some.ensures.first c.index_mut-mirror.result.now c.index_mut-mirror.ensures.value in
    let few = rw (← c.self.view_is) at c.requires.room in
    let newest = rw (← c.self.view_is) at c.requires.newest in
    let long = c.self.inside.images.ok in
    let room = c.self.invariant.room in
    let is = c.push.ensures.succeeds (omega arith) in
    let items = pushed (is_ok c.push.result) c.push.new.self.items (c.self.inside.images.items ++ c.args.set ∷ []) c.self.inside.images.items is c.push.ensures.items in
    let next : Mirror _ = record { device = c.index_mut-mirror.result.now.device; holds = Some c.args.set; stale = c.index_mut-mirror.result.now.stale } in
    rw (← c.self.view_is) (λ h stood. cut_stands g.D.Device (value_of c.self.inside.primary c.self.inside.mirrors.items c.self.inside.images.items)
    (value_of c.self.inside.primary (slice_set c.self.inside.mirrors.items c.in-Some.place next) c.push.new.self.items) c.args.set h c.self.invariant.are_mirrors
    (not_below c.args.set c.self.inside.images.items newest) c.requires.above_zero
    (record { place = c.in-Some.place; split = first_of c.self.inside.mirrors.items c.in-Some.place c.index_mut-mirror.result.now at; mirrors = refl; primary = refl; images = items }) stood)
