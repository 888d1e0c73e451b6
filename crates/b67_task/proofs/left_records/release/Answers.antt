use Rattle.b67_task.proofs.left_records.release.Goals as goal

pub returns-clause-stands : goal.returns-clause-stands
returns-clause-stands c = λ left x told plan s l b tables.
    let r = c.release_arrays.ensures.stands left x told plan s l b in
    (r.storage, r.released, record { session = r.stands; storage = r.beside; tables = tables })
