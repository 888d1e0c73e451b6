use Rattle.b67_layout.specs.Layout.{machine_view}
use Rattle.b67_task.proofs.Settled.{are_left, machine_left, all_released}
use Rattle.b67_task.proofs.left_records.release_arrays.Goals as goal

pub release_words-requires-clause-left : goal.release_words-requires-clause-left
release_words-requires-clause-left c =
    let (left, x, told, plan, s, l, b) = c.requires.left in
    let cpu = c.args.cpu.now in
    (x, told, machine_view plan s.jobs, left, machine_left left x cpu plan s c.args.from c.args.upto l c.args.areas.now c.args.sectors.now told b, are_left left x cpu plan s c.args.from c.args.upto l)

pub returns-clause-stands : goal.returns-clause-stands
returns-clause-stands c = λ left x told plan s l b.
    let cpu = c.args.cpu.now in
    let e = c.release_words.ensures in
    let (y, r, m, below) = e.stands x told (machine_view plan s.jobs) left (machine_left left x cpu plan s c.args.from c.args.upto l c.args.areas.now c.args.sectors.now told b) (are_left left x cpu plan s c.args.from c.args.upto l) in
    all_released left x cpu plan s c.args.from c.args.upto l c.args.areas.now c.args.sectors.now told b c.release_words.new.cpu c.release_words.new.areas c.release_words.new.sectors y e.rest e.len e.areas r m below
