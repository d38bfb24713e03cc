use Rattle.std.proofs.Common.{◌∙◌, sym, refl, true, false, is_some}
use Rattle.vss_names.specs.declared.vss_result.VssResult.TheVariants.{UnsupportedContext, SnapshotSetInProgress}
use Rattle.provider.specs.Words.{counted_as}
use Rattle.vss_world.proofs.Looking.{without_facts, not_kept_moves, absent_moves}
use Rattle.vss_world.proofs.Removed.{revert_line, same_provider, revert_refused, revert_done, revert_stopped}
use Rattle.vss_world.proofs.ToldMarks.{stops_in_world}
use Rattle.vss_world.proofs.world.World.revert.Goals as goal

pub returns-then-not-kept-clause-stepped : goal.returns-then-not-kept-clause-stepped
returns-then-not-kept-clause-stepped g c =
    rw c.coded.ensures (rw (← c.self.view_is)
    (not_kept_moves (counted_as g.D.Device (is_some c.args.stop)) (rw (← c.self.view_is) at c.requires.of) c.clear.ensures revert_line (rw (← c.self.view_is) at c.is_kept-kept.ensures)
    c.if-not-kept.true))

pub returns-in_default-clause-stepped : goal.returns-in_default-clause-stepped
returns-in_default-clause-stepped g c =
    rw c.coded-in_default.ensures (rw (← c.self.view_is) (not_kept_moves (counted_as g.D.Device (is_some c.args.stop)) (rw (← c.self.view_is) at c.requires.of) c.clear.ensures revert_line
    (without_facts c.args.set c.args.volume c.in_default.is c.facts.ensures) refl))

pub returns-then-is_backup-clause-stepped : goal.returns-then-is_backup-clause-stepped
returns-then-is_backup-clause-stepped g c =
    rw c.coded-then-is_backup.ensures (rw (← c.self.view_is) (revert_refused (counted_as g.D.Device (is_some c.args.stop)) (rw (← c.self.view_is) at c.requires.of) c.clear.ensures c.args.set
    c.args.volume (rw (← c.self.view_is) at c.is_kept-kept.ensures) c.if-not-kept.false (λ st keeps. sym c.in-Some.is ∙ c.facts.ensures st keeps)
    true _ (sym c.is_backup.ensures ∙ c.if-is_backup.true) refl UnsupportedContext refl))

pub returns-then-is_preparing-clause-stepped : goal.returns-then-is_preparing-clause-stepped
returns-then-is_preparing-clause-stepped g c =
    rw c.coded-then-is_preparing.ensures (rw (← c.self.view_is) (revert_refused (counted_as g.D.Device (is_some c.args.stop)) (rw (← c.self.view_is) at c.requires.of) c.clear.ensures c.args.set
    c.args.volume (rw (← c.self.view_is) at c.is_kept-kept.ensures) c.if-not-kept.false (λ st keeps. sym c.in-Some.is ∙ c.facts.ensures st keeps)
    false true (sym c.is_backup.ensures ∙ c.if-is_backup.false) (sym c.is_preparing.ensures ∙ c.if-is_preparing.true) SnapshotSetInProgress refl))

pub returns-in-Ok-clause-stepped : goal.returns-in-Ok-clause-stepped
returns-in-Ok-clause-stepped g c =
    rw c.told.ensures (rw (← c.self.view_is) (revert_done (counted_as g.D.Device (is_some c.args.stop)) (rw (← c.self.view_is) at c.requires.of) c.clear.ensures c.args.set c.args.volume
    (rw (← c.self.view_is) at c.is_kept-kept.ensures) c.if-not-kept.false (λ st keeps. sym c.in-Some.is ∙ c.facts.ensures st keeps)
    false false (sym c.is_backup.ensures ∙ c.if-is_backup.false) (sym c.is_preparing.ensures ∙ c.if-is_preparing.false) refl c.in-Ok.ensures.revert c.in-Ok.ensures.set))

pub returns-in-Err-NoSuchImage-clause-stepped : goal.returns-in-Err-NoSuchImage-clause-stepped
returns-in-Err-NoSuchImage-clause-stepped g c =
    let back = rw c.in-Err-NoSuchImage.field-0-is at c.in-Err-NoSuchImage.ensures.revert in
    rw c.coded-in-Err-NoSuchImage.ensures (rw (← c.self.view_is) (absent_moves (counted_as g.D.Device (is_some c.args.stop)) (rw (← c.self.view_is) at c.requires.of) c.clear.ensures revert_line back.0
    (same_provider c.self.inside.provider c.revert.new.self c.revert.ensures.set back.1)))

pub returns-in-Err-Fault-clause-stepped : goal.returns-in-Err-Fault-clause-stepped
returns-in-Err-Fault-clause-stepped g c =
    let back = rw c.in-Err-Fault.field-0-is at c.in-Err-Fault.ensures.revert in
    rw c.told-in-Err-Fault.ensures (rw (← c.self.view_is) (revert_stopped (counted_as g.D.Device (is_some c.args.stop)) (rw (← c.self.view_is) at c.requires.of) c.clear.ensures c.args.set
    c.args.volume (rw (← c.self.view_is) at c.is_kept-kept.ensures) c.if-not-kept.false (λ st keeps. sym c.in-Some.is ∙ c.facts.ensures st keeps)
    false false (sym c.is_backup.ensures ∙ c.if-is_backup.false) (sym c.is_preparing.ensures ∙ c.if-is_preparing.false) c.in-Err-Fault.field-0-1 refl back c.revert.ensures.set))

pub returns-in-Ok-clause-stops : goal.returns-in-Ok-clause-stops
returns-in-Ok-clause-stops g c = λ never k is.
    rw c.told.ensures (rw (← c.self.view_is) (stops_in_world g.D.Device.told c.args.scenario.now _ _ _ _ c.args.set c.args.volume k (c.in-Ok.ensures.stops never k is)))

pub returns-in-Err-Fault-clause-stops : goal.returns-in-Err-Fault-clause-stops
returns-in-Err-Fault-clause-stops g c = λ never k is. rw c.told-in-Err-Fault.ensures (rw c.in-Err-Fault.field-0-is at c.in-Err-Fault.ensures.stops never k is)
