use Rattle.b67_session.proofs.running.Session.slice.Goals as goal

pub returns-clause-row : goal.returns-clause-row
returns-clause-row g c = rw (← c.self.view_is) c.slice.ensures.row

pub returns-clause-present : goal.returns-clause-present
returns-clause-present g c = rw (← c.self.view_is) c.slice.ensures.present

pub returns-clause-resumed : goal.returns-clause-resumed
returns-clause-resumed g c = rw (← c.self.view_is) c.slice.ensures.resumed

pub returns-clause-ended : goal.returns-clause-ended
returns-clause-ended g c = rw (← c.self.view_is) c.slice.ensures.ended

pub returns-clause-complete : goal.returns-clause-complete
returns-clause-complete g c = rw (← c.self.view_is) c.slice.ensures.complete

pub returns-clause-leaves : goal.returns-clause-leaves
returns-clause-leaves g c = rw (← c.self.view_is) c.slice.ensures.leaves
