use Rattle.sessions.proofs.Words.{Sessions as Requestor, released, SessionsValue, Keeps, value_of}
use Rattle.std.proofs.Common.{[], None, ap, subst, sym}
use Rattle.sessions.proofs.sessions.Sessions.close.Goals as goal
use Rattle.sessions.proofs.Concluding.{closes}

pub returns-clause-closed : goal.returns-clause-closed
returns-clause-closed c st hs kept0 =
    let kept : Keeps (value_of c.self.inside) st = rw (← c.self.view_is) at kept0 in
    subst (λ (x : SessionsValue). Keeps x (record { session = None; explicit = []; sets = st.sets; course = released st.course; volumes = hs; clock = st.clock })) (sym c.forget.ensures)
    (closes (value_of c.self.inside) c.apply.new.self c.end_session.new.self st hs kept (ap (λ (r : Requestor). r.session) c.apply.ensures) (ap (λ (r : Requestor). r.sets_made) c.apply.ensures)
    (c.end_session.ensures.stands st.course kept.course) (c.end_session.ensures.times c.self.inside.clock))
