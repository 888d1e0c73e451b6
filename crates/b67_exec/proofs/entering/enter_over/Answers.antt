use Rattle.b67_exec.proofs.Loads.{bounds, place_fits, at_end, leads, scene_without, enters_without, held_without, accident_without, load_row}
use Rattle.b67_fetch.proofs.Values.{here_scene}
use Rattle.b67_exec.proofs.entering.enter_over.Goals as goal

pub overflow_sub-without : goal.overflow_sub-without
overflow_sub-without c = let q = c.requires.top.runs in let cell = c.requires.cell in (bounds q.storage c.args.cpu.now q.plan q.session q.member q.task q.ordered q.stands q.running c.requires.top.place c.requires.top.enters).1

pub accident_on-requires-clause-procedure : goal.accident_on-requires-clause-procedure
accident_on-requires-clause-procedure c =
    let q = c.requires.top.runs in let cell = c.requires.cell in
    let cpu = c.args.cpu.now in
    let n = c.requires.top.place in
    let i = c.requires.top.enters in
    let w = cell.0 in
    let e = at_end q.storage cpu q.plan q.session q.member q.task q.ordered q.stands q.running n i w cell.1 in
    let l = leads q.storage cpu q.plan q.session q.member q.task q.ordered q.stands q.running n i w cell.1 in (
      scene_without q.storage cpu q.plan q.session q.member q.task q.ordered q.stands q.running n i w cell.1,
      n,
      e.frame,
      e.segment,
      e.level,
      e.place,
      enters_without q.storage cpu q.plan q.session q.member q.task q.ordered q.stands q.running n i w cell.1 c.args.cell
          (cell.2 (here_scene q.storage cpu q.plan q.session q.member q.task q.ordered q.stands q.running) n e.frame e.segment e.level e.place l),
    )

pub accident_on-requires-clause-back : goal.accident_on-requires-clause-back
accident_on-requires-clause-back c = let q = c.requires.top.runs in let cell = c.requires.cell in place_fits q.storage c.args.cpu.now q.plan q.session q.member q.task q.ordered q.stands q.running c.requires.top.place c.requires.top.enters

pub accident_on-requires-clause-known : goal.accident_on-requires-clause-known
accident_on-requires-clause-known c =
    let q = c.requires.top.runs in let cell = c.requires.cell in
    let cpu = c.args.cpu.now in
    let n = c.requires.top.place in
    let i = c.requires.top.enters in
    let w = cell.0 in
    let e = at_end q.storage cpu q.plan q.session q.member q.task q.ordered q.stands q.running n i w cell.1 in
    let l = leads q.storage cpu q.plan q.session q.member q.task q.ordered q.stands q.running n i w cell.1 in
    held_without q.storage cpu q.plan q.session q.member q.task q.ordered q.stands q.running n i w cell.1 c.args.cell
    (cell.2 (here_scene q.storage cpu q.plan q.session q.member q.task q.ordered q.stands q.running) n e.frame e.segment e.level e.place l)

pub returns : goal.returns
returns c = record {
  row = λ x plan s m t ordered h runs n i.
      let cpu = c.args.cpu.now in
      let cell = c.requires.cell in
      let w = cell.0 in
      let e = at_end x cpu plan s m t ordered h runs n i w cell.1 in
      let l = leads x cpu plan s m t ordered h runs n i w cell.1 in
      let k = cell.2 (here_scene x cpu plan s m t ordered h runs) n e.frame e.segment e.level e.place l in
      let made = c.accident_on.ensures.row (scene_without x cpu plan s m t ordered h runs n i w cell.1) n e.frame e.segment e.level e.place (enters_without x cpu plan s m t ordered h runs n i w cell.1 c.args.cell k) in
      load_row x cpu plan s m t ordered h runs n i w cell.1 c.accident_on.result c.accident_on.new.cpu (accident_without x cpu plan s m t ordered h runs n i w cell.1 c.accident_on.result c.accident_on.new.cpu made);
}
