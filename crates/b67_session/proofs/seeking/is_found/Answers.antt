use Rattle.b67_session.proofs.seeking.is_found.Goals as goal

pub returns-clause-fails : goal.returns-clause-fails
returns-clause-fails c = λ said s h e later. c.is_sought.ensures.fails said s h e
