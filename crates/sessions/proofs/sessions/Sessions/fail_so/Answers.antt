use Rattle.sessions.proofs.Words.{Keeps, value_of, told_of}
use Rattle.std.proofs.Common.{sym, ap, ◌∙◌, None}
use Rattle.vss_model.specs.declared.told.Told.TheVariants as told
use Rattle.sessions.proofs.Concluding.{fails_not, fails_so}
use Rattle.sessions.proofs.sessions.Sessions.fail_so.Goals as goal

pub returns-in_default-clause-failed : goal.returns-in_default-clause-failed
returns-in_default-clause-failed c st order kept0 =
    let kept : Keeps (value_of c.self.inside) st = rw (← c.self.view_is) at kept0 in
    rw (← c.self.view_is) (fails_not (value_of c.self.inside) st c.args.why c.alone.result order kept (sym c.in_default.is ∙ c.current.ensures) c.alone.ensures)

pub returns-clause-failed : goal.returns-clause-failed
returns-clause-failed c st order kept0 =
    let kept : Keeps (value_of c.self.inside) st = rw (← c.self.view_is) at kept0 in
    fails_so (value_of c.self.inside) c.end_so.new.self c.fail-effects.new.self st c.args.why c.in-Some.set c.of.result order kept (sym c.in-Some.is ∙ c.current.ensures)
    (c.fail-effects.ensures.stands st.course kept.course) c.fail-effects.ensures.writers (c.fail-effects.ensures.times c.self.inside.clock kept.on_time) c.end_so.ensures.ended
    (c.of.ensures ∙ ap (told_of told.Ok 0 None) c.ends_as.ensures)
