use Rattle.b67_model.specs.declared.operators.Op.TheVariants.{Plain}
use Rattle.b67_exec.specs.Operators.{store_code}
use Rattle.b67_exec.proofs.Calls.{met_each, entered_each, store_enters, store_row, store_due}
use Rattle.b67_exec.proofs.Fars.{stayed_by, entered_by}
use Rattle.b67_exec.proofs.Owns.{store_answers}
use Rattle.b67_exec.proofs.apart.makes_store_from.Goals as goal

pub enter-requires-clause-due : goal.enter-requires-clause-due
enter-requires-clause-due c = store_due c.args.cpu.now c.store_from.new.cpu c.args.next c.args.keeps 255 c.in-Err.ensures.row c.requires.runs

pub enter-requires-clause-cell : goal.enter-requires-clause-cell
enter-requires-clause-cell c = c.in-Err.ensures.comes

pub returns-in-Err : goal.returns-in-Err
returns-in-Err c =
    entered_by (Plain (store_code c.args.keeps)) c.args.next c.args.cpu.now c.enter.new.cpu c.requires.runs c.enter.result c.entered.result c.entered.new.why c.entered.ensures
    (store_answers c.args.next c.args.cpu.now c.enter.new.cpu c.args.keeps c.enter.result
    (entered_each c.args.cpu.now c.store_from.new.cpu (store_enters c.args.next) (store_row c.args.keeps c.args.next) 255 c.in-Err.ensures.row c.enter.result c.enter.new.cpu (λ x plan s m t ordered h runs due. c.enter.ensures.row x plan s m t ordered h runs c.args.next c.args.keeps due)))

pub returns-in-Ok : goal.returns-in-Ok
returns-in-Ok c =
    stayed_by (Plain (store_code c.args.keeps)) c.args.next c.args.cpu.now c.store_from.new.cpu c.requires.runs c.in-Ok.step c.stayed.result c.stayed.new.why c.stayed.ensures
    (store_answers c.args.next c.args.cpu.now c.store_from.new.cpu c.args.keeps c.in-Ok.step
    (met_each c.args.cpu.now c.store_from.new.cpu (store_enters c.args.next) (store_row c.args.keeps c.args.next) c.in-Ok.step c.in-Ok.ensures.comes c.in-Ok.ensures.row)) c.in-Ok.ensures.stays
