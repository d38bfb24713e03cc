use Rattle.std.proofs.Common.{ap, ◌∙◌}
use Rattle.std.specs.Prelude.{not}
use Rattle.sessions.specs.Keeps.{Keeps, IsOf, value_of}
use Rattle.sessions.proofs.Lines.{is_disabled_same}
use Rattle.sessions.proofs.Knowing.{known_is, unknown_is}
use Rattle.sessions.proofs.sessions.Sessions.knows.Goals as goal

pub returns-then-is_disabled : goal.returns-then-is_disabled
returns-then-is_disabled c s st kept0 of0 =
    let x = value_of c.self.inside in
    let kept : Keeps x st = rw (← c.self.view_is) at kept0 in
    let of : IsOf x s = rw (← c.self.view_is) at of0 in
    let within = rw (← c.self.view_is) at c.requires in
    unknown_is s st c.args.writer c.is_disabled.result (c.is_disabled.ensures st.course kept.course ∙ is_disabled_same x s st c.args.writer kept of within) c.if-is_disabled.true

pub returns : goal.returns
returns c s st kept0 of0 =
    let x = value_of c.self.inside in
    let kept : Keeps x st = rw (← c.self.view_is) at kept0 in
    let of : IsOf x s = rw (← c.self.view_is) at of0 in
    let within = rw (← c.self.view_is) at c.requires in
    ap not c.has_failed_identify.ensures
    ∙ known_is s st c.args.writer c.is_disabled.result c.row-row.result (c.is_disabled.ensures st.course kept.course ∙ is_disabled_same x s st c.args.writer kept of within) c.if-is_disabled.false
    (c.row-row.ensures st.course kept.course)
