use Rattle.std.proofs.Common.{ap, arith, rules, suc, sym, length, [], ◌≡◌, ◌<◌, ◌∷◌, ◌++◌, ◌∙◌}
use Rattle.coordinator.specs.Coordinator.{registered_in}
use Rattle.coordinator.proofs.Calls.{held}
use Rattle.coordinator.proofs.Registering.{length-more, stands-registered}
use Rattle.coordinator.proofs.coordinator.Coordinator.register.Goals as goal

pub invariant_of-self-2 : goal.invariant_of-self-2
invariant_of-self-2 c =
    let sound = c.self.invariant.0 in
    let rows = c.in_ok-add.ensures.row ∙ ap (λ r. c.self.inside.kept.rows ++ r ∷ []) c.new-row.ensures in
    let few : length c.self.inside.kept.rows < 64 = search rules in
    let more : length c.add.new.rows ≡ suc (length c.self.inside.kept.rows) = length-more c.self.inside.kept.rows c.add.new.rows _ rows in (
      record {
        few = omega (arith, few, more);
        boxes = sound.boxes;
        live = sound.live;
        course = registered_in c.args.meta.level c.args.meta.freeze_timeout sound.course;
        stands = stands-registered c.self.inside.kept c.add.new.rows sound.course c.args.meta.level c.args.meta.freeze_timeout (search rules) rows sound.stands;
      },
      length-more c.self.inside.names c.add.new.self _ c.in_ok-add.ensures.added ∙ ap suc c.self.invariant.1 ∙ sym more,
      c.self.invariant.2,
    )

pub returns-clause-stands : goal.returns-clause-stands
returns-clause-stands c = λ d h.
    let rows = c.in_ok-add.ensures.row ∙ ap (λ r. c.self.inside.kept.rows ++ r ∷ []) c.new-row.ensures in
    stands-registered c.self.inside.kept c.add.new.rows d c.args.meta.level c.args.meta.freeze_timeout (search rules) rows (held _ c.args.self.now d c.self.view_is h)
