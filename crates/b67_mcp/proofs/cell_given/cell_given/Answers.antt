use Rattle.std.proofs.Common.{◌-◌, Ok, Err, sym, arith, subst}
use Rattle.std.proofs.lemmas.Result.{err_from_is_err_and}
use Rattle.b67_model.specs.Common.{Answer, End, follow_reference}
use Rattle.b67_layout.specs.Meets.{here}
use Rattle.b67_fetch.proofs.Values.{top_followed, here_scene, here_shown, followed_stands}
use Rattle.b67_mcp.specs.declared.cell_given.CellFound.{CellFound}
use Rattle.b67_mcp.specs.Arguments.{FindsOperand}
use Rattle.b67_mcp.proofs.WaitArguments.{no_end}
use Rattle.b67_mcp.proofs.Scans.{offset_low}
use Rattle.b67_mcp.proofs.EndCells.{cell_here, end_is, finds_fault, finds_cell}
use Rattle.b67_mcp.proofs.cell_given.cell_given.Goals as goal

pub only_argument-requires : goal.only_argument-requires
only_argument-requires c = c.requires.runs

pub returns-in_err-w : goal.returns-in_err-w
returns-in_err-w c =
    let failed = err_from_is_err_and c.from_residual.result c.from_residual.ensures.1 in
    rw (failed.1, failed.2) (λ x plan s m t o h runs r arguments call q.
    (let none = c.in_err-w.ensures x plan s m t o h runs in
    subst (λ (y : Answer End). FindsOperand plan m t c.args.cpu.now.core q (Err c.in_err-w.field-0.0) y) (sym (no_end m t r arguments call (here m t q) none.0)) none.1))

pub operand_cell-requires : goal.operand_cell-requires
operand_cell-requires c =
    let g = c.requires.runs in
    let k = top_followed g.storage c.args.cpu.now g.plan g.session g.member g.task c.in_ok-w.w g.ordered g.running (c.in_ok-w.ensures g.storage g.plan g.session g.member g.task g.ordered g.stands g.running).1 in (
      here_scene g.storage c.args.cpu.now g.plan g.session g.member g.task g.ordered g.stands g.running,
      here_shown g.storage c.args.cpu.now g.plan g.session g.member g.task g.ordered g.stands g.running,
      k.followed.at,
      k.followed.owner,
      k.word,
      followed_stands g.storage c.args.cpu.now g.plan g.session g.member g.task g.ordered g.stands g.running c.in_ok-w.w k.word k.followed,
    )

pub returns-in_err-at : goal.returns-in_err-at
returns-in_err-at c =
    let failed = err_from_is_err_and c.from_residual-in_err-at.result c.from_residual-in_err-at.ensures.1 in
    rw (failed.1, failed.2) (λ x plan s m t o h runs r arguments call q.
    (let there = c.in_ok-w.ensures x plan s m t o h runs in
    let k = top_followed x c.args.cpu.now plan s m t c.in_ok-w.w o runs there.1 in
    let found = c.in_err-at.ensures (here_scene x c.args.cpu.now plan s m t o h runs) q (here_shown x c.args.cpu.now plan s m t o h runs) k.followed.at k.followed.owner k.word (followed_stands x c.args.cpu.now plan s m t o h runs c.in_ok-w.w k.word k.followed) in
    subst (λ (y : Answer End). FindsOperand plan m t c.args.cpu.now.core q (Err c.in_err-at.field-0.0) y) (sym (end_is x plan m t r arguments call q c.in_ok-w.w there.0 k))
    (finds_fault x c.args.cpu.now plan s m t o h runs q c.in_err-at.field-0.0 (follow_reference (here m t q) k.word) found)))

pub mark_under-mark-requires : goal.mark_under-mark-requires
mark_under-mark-requires c =
    let g = c.requires.runs in
    let k = top_followed g.storage c.args.cpu.now g.plan g.session g.member g.task c.in_ok-w.w g.ordered g.running (c.in_ok-w.ensures g.storage g.plan g.session g.member g.task g.ordered g.stands g.running).1 in
    let scene = here_scene g.storage c.args.cpu.now g.plan g.session g.member g.task g.ordered g.stands g.running in
    let found = c.in_ok-at.ensures scene g.task.place (here_shown g.storage c.args.cpu.now g.plan g.session g.member g.task g.ordered g.stands g.running) k.followed.at k.followed.owner k.word
    (followed_stands g.storage c.args.cpu.now g.plan g.session g.member g.task g.ordered g.stands g.running c.in_ok-w.w k.word k.followed) in
    let e = cell_here scene g.task.place c.in_ok-at.at (follow_reference (here g.member g.task g.task.place) k.word) found in
    (scene, g.task.place, e.f, e.offset, e.bits, e.cell)

pub overflow_sub-result : goal.overflow_sub-result
overflow_sub-result c =
    let g = c.requires.runs in
    let k = top_followed g.storage c.args.cpu.now g.plan g.session g.member g.task c.in_ok-w.w g.ordered g.running (c.in_ok-w.ensures g.storage g.plan g.session g.member g.task g.ordered g.stands g.running).1 in
    let scene = here_scene g.storage c.args.cpu.now g.plan g.session g.member g.task g.ordered g.stands g.running in
    let found = c.in_ok-at.ensures scene g.task.place (here_shown g.storage c.args.cpu.now g.plan g.session g.member g.task g.ordered g.stands g.running) k.followed.at k.followed.owner k.word
    (followed_stands g.storage c.args.cpu.now g.plan g.session g.member g.task g.ordered g.stands g.running c.in_ok-w.w k.word k.followed) in
    let e = cell_here scene g.task.place c.in_ok-at.at (follow_reference (here g.member g.task g.task.place) k.word) found in
    let mark = c.mark_under-mark.ensures scene g.task.place e.f e.offset e.bits e.cell in
    let at = e.cell.address in
    omega (arith, mark, at)

pub overflow_cast-result : goal.overflow_cast-result
overflow_cast-result c =
    let g = c.requires.runs in
    let k = top_followed g.storage c.args.cpu.now g.plan g.session g.member g.task c.in_ok-w.w g.ordered g.running (c.in_ok-w.ensures g.storage g.plan g.session g.member g.task g.ordered g.stands g.running).1 in
    let scene = here_scene g.storage c.args.cpu.now g.plan g.session g.member g.task g.ordered g.stands g.running in
    let found = c.in_ok-at.ensures scene g.task.place (here_shown g.storage c.args.cpu.now g.plan g.session g.member g.task g.ordered g.stands g.running) k.followed.at k.followed.owner k.word
    (followed_stands g.storage c.args.cpu.now g.plan g.session g.member g.task g.ordered g.stands g.running c.in_ok-w.w k.word k.followed) in
    let e = cell_here scene g.task.place c.in_ok-at.at (follow_reference (here g.member g.task g.task.place) k.word) found in
    let mark = c.mark_under-mark.ensures scene g.task.place e.f e.offset e.bits e.cell in
    let at = e.cell.address in
    let low = offset_low c.args.cpu.now.core c.args.cpu.now.regs scene g.task.place c.in_ok-at.at e.f e.offset e.bits e.cell in
    omega (arith, mark, at, low)

pub returns : goal.returns
returns c = λ x plan s m t o h runs r arguments call q.
    (let there = c.in_ok-w.ensures x plan s m t o h runs in
    let k = top_followed x c.args.cpu.now plan s m t c.in_ok-w.w o runs there.1 in
    let scene = here_scene x c.args.cpu.now plan s m t o h runs in
    let found = c.in_ok-at.ensures scene q (here_shown x c.args.cpu.now plan s m t o h runs) k.followed.at k.followed.owner k.word (followed_stands x c.args.cpu.now plan s m t o h runs c.in_ok-w.w k.word k.followed) in
    let e = cell_here scene q c.in_ok-at.at (follow_reference (here m t q) k.word) found in
    let mark = c.mark_under-mark.ensures scene q e.f e.offset e.bits e.cell in
    let result : CellFound = record { at = c.in_ok-at.at; mark = c.mark_under-mark.result; offset = c.in_ok-at.at - c.mark_under-mark.result } in
    subst (λ (y : Answer End). FindsOperand plan m t c.args.cpu.now.core q (Ok result) y) (sym (end_is x plan m t r arguments call q c.in_ok-w.w there.0 k))
    (finds_cell x c.args.cpu.now plan s m t o h runs q c.in_ok-at.at c.mark_under-mark.result (follow_reference (here m t q) k.word) e mark))
