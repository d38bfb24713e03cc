use Rattle.std.proofs.Common.{rules, ◌≡◌, ◌<◌, ◌++◌, ◌∷◌, [], length}
use Rattle.image_folder.specs.Parts.{IsPart}
use Rattle.image_folder.proofs.Joins.{next_part}
use Rattle.image_folder.proofs.naming.parts_in.Goals as goal

pub loop-number-preserved : goal.loop-number-preserved
loop-number-preserved c =
    let items : c.push-in-Some.new.self.items ≡ c.loop-number.parts.items ++ c.in-Some.part ∷ [] = search rules in
    let below : c.in-Some.part < length c.args.store.now.group.area.volumes = search rules in
    let is : IsPart c.args.store.now.names c.args.volume c.loop-number.number c.in-Some.part = search rules in
    let l = c.loop-number.invariant in
    next_part c.args.store.now.names _ c.args.volume c.loop-number.number c.loop-number.parts.items _ c.in-Some.part items l.0 below l.1 l.2 l.3 is
