use Rattle.std.proofs.Common.{◌<◌, ◌≤◌, List, subst, refl, arith, length}
use Rattle.std.proofs.lemmas.Grind.{common_steps}
use Rattle.mirror_volume.specs.declared.mirror.Mirror.{Mirror}
use Rattle.mirror_volume.specs.MirrorCalls.{NoneHolds, IsHolder}
use Rattle.mirror_volume.proofs.Keeping.{holder_at, within_holder, among_held, not_among, image_read, image_read_stands, keeps_read}
use Rattle.mirror_volume.proofs.mirror_volume.MirrorVolume.read_image_into.Goals as goal

pub returns-in_default-clause-read : goal.returns-in_default-clause-read
returns-in_default-clause-read g c =
    let none : NoneHolds c.self.inside.mirrors.items c.args.set (length c.self.inside.mirrors.items) = subst (λ (ms : List (Mirror _)). NoneHolds ms c.args.set (length ms)) c.deref.ensures.value
    (c.in_default.ensures.none refl) in
    (rw (← c.self.view_is) (not_among c.self.inside.mirrors.items c.self.inside.images.items c.args.set c.self.invariant.are_held (λ k m l at. none k m l at)), refl)

pub index_mut-mirror-requires : goal.index_mut-mirror-requires
index_mut-mirror-requires g c =
    let low = within_holder c.deref.result.now c.self.inside.mirrors.items c.deref.ensures.value c.args.set c.in-Some.place c.in-Some.ensures.found in
    let long = c.self.inside.mirrors.ok in grind (arith, common_steps)

pub read_mirror-requires-clause-in_range : goal.read_mirror-requires-clause-in_range
read_mirror-requires-clause-in_range g c =
    let at = holder_at c.deref.result.now c.self.inside.mirrors.items c.deref.ensures.value c.args.set c.in-Some.place c.in-Some.ensures.found c.index_mut-mirror.result.now
    c.index_mut-mirror.ensures.value in
    let same = c.self.invariant.are_mirrors.sizes c.in-Some.place c.index_mut-mirror.result.now at.was in
    omega arith

pub invariant_of-self : goal.invariant_of-self
invariant_of-self g c =
    let at = holder_at c.deref.result.now c.self.inside.mirrors.items c.deref.ensures.value c.args.set c.in-Some.place c.in-Some.ensures.found c.index_mut-mirror.result.now
    c.index_mut-mirror.ensures.value in
    keeps_read g.D.Device c.self.inside.primary c.self.inside.mirrors.items c.self.inside.images c.in-Some.place c.args.block c.index_mut-mirror.result.now c.read_mirror.new.mirror
    c.read_mirror.new.out c.read_mirror.result at.was c.read_mirror.ensures c.self.invariant

pub returns-clause-read : goal.returns-clause-read
returns-clause-read g c =
    let at = holder_at c.deref.result.now c.self.inside.mirrors.items c.deref.ensures.value c.args.set c.in-Some.place c.in-Some.ensures.found c.index_mut-mirror.result.now
    c.index_mut-mirror.ensures.value in
    let low : c.args.block < g.D.Device.size c.self.inside.primary = (let blocks = c.blocks-2.ensures.size in let l = c.if-block-blocks.false in omega arith) in
    rw (← c.self.view_is)
    (image_read g.D.Device c.self.inside.primary c.self.inside.mirrors.items c.self.inside.images.items c.args.set c.in-Some.place c.args.block c.index_mut-mirror.result.now c.read_mirror.new.mirror
    c.read_mirror.new.out c.read_mirror.result
    c.self.invariant.are_held at low c.read_mirror.ensures)

pub returns-clause-stands : goal.returns-clause-stands
returns-clause-stands g c =
    let at = holder_at c.deref.result.now c.self.inside.mirrors.items c.deref.ensures.value c.args.set c.in-Some.place c.in-Some.ensures.found c.index_mut-mirror.result.now
    c.index_mut-mirror.ensures.value in
    rw (← c.self.view_is)
    (λ h stood. image_read_stands g.D.Device c.self.inside.primary c.self.inside.mirrors.items c.self.inside.images.items c.in-Some.place c.args.block c.index_mut-mirror.result.now
    c.read_mirror.new.mirror c.read_mirror.new.out c.read_mirror.result
    at.was c.read_mirror.ensures h stood)

pub returns-then-block-blocks-clause-read : goal.returns-then-block-blocks-clause-read
returns-then-block-blocks-clause-read g c =
    let holds = subst (λ (ms : List (Mirror _)). IsHolder ms c.args.set c.in-Some.place) c.deref.ensures.value c.in-Some.ensures.found in
    let past : g.D.Device.size c.self.inside.primary ≤ c.args.block = (let blocks = c.blocks-2.ensures.size in let l = c.if-block-blocks.true in omega arith) in
    rw (← c.self.view_is) (among_held c.self.inside.mirrors.items c.self.inside.images.items c.in-Some.place c.args.set c.self.invariant.are_held holds, past, refl)
