use Rattle.std.proofs.Common.{sym, ap, ◌∙◌, length}
use Rattle.b67_area.specs.declared.Areas.{Areas}
use Rattle.b67_backing.specs.Shelf.{Table}
use Rattle.b67_task.proofs.FamilyEnds.{has_row, with_tables, may, ends_some, ended_stands, both_running}
use Rattle.b67_task.proofs.ends.end_family.Goals as goal

pub switch_to-requires : goal.switch_to-requires
switch_to-requires c =
    let r = c.requires.some in
    has_row r.storage r.told c.args.machine.now r.plan r.session r.member r.task c.args.row c.args.job r.ending c.args.list.now r.family

pub end_one-requires-clause-some : goal.end_one-requires-clause-some
end_one-requires-clause-some c =
    let r = c.requires.some in
    let f = r.family in
    ends_some r.storage r.told c.args.machine.now r.plan r.session r.member r.task c.args.row c.args.job r.ending c.args.list.now f c.switch_to.new.machine
    (c.switch_to.ensures.stands r.storage r.told r.plan r.session f.at.row f.ordered f.stands f.at.there)

pub returns-clause-stands : goal.returns-clause-stands
returns-clause-stands c = λ x told plan s m t ending f.
    (let mid = c.switch_to.new.machine in
    let list = c.args.list.now in
    let h = c.switch_to.ensures.stands x told plan s f.at.row f.ordered f.stands f.at.there in
    ended_stands x told c.args.machine.now plan s m t c.args.row c.args.job ending list f mid h c.end_one.new.machine
    (c.end_one.ensures.stands mid.tasks x told _ s m (with_tables x told c.args.machine.now plan s m t c.args.row c.args.job ending list f mid h)
    (may x told c.args.machine.now plan s m t c.args.row c.args.job ending list f mid h) f.number)
    c.end_one.ensures.tasks)

pub returns-clause-tasks : goal.returns-clause-tasks
returns-clause-tasks c = both_running c.args.machine.now.tasks c.switch_to.new.machine.tasks c.end_one.new.machine.tasks c.args.row 255 c.switch_to.ensures.tables c.end_one.ensures.tasks

pub returns-clause-len : goal.returns-clause-len
returns-clause-len c =
    let r = c.requires.some in
    let f = r.family in
    let after = c.switch_to.ensures.stands r.storage r.told r.plan r.session f.at.row f.ordered f.stands f.at.there in
    c.end_one.ensures.len ∙ sym after.storage.size ∙ ap (λ (x : Areas). x.size) c.switch_to.ensures.areas ∙ f.stands.storage.size

pub returns-clause-count : goal.returns-clause-count
returns-clause-count c = c.end_one.ensures.count ∙ ap (λ (t : Table). length t.links) c.switch_to.ensures.sectors
