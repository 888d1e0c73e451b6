use Rattle.b67_session.proofs.attempting.attempt.Goals as goal

pub returns-clause-causes : goal.returns-clause-causes
returns-clause-causes g c = c.attempt_told.ensures.leaves.causes

pub returns-clause-kept : goal.returns-clause-kept
returns-clause-kept g c = c.attempt_told.ensures.leaves.kept

pub returns-clause-device : goal.returns-clause-device
returns-clause-device g c = c.attempt_told.ensures.leaves.served
