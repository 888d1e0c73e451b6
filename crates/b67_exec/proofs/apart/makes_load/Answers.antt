use Rattle.b67_model.specs.declared.operators.Op.TheVariants.{Plain}
use Rattle.b67_model.specs.declared.operators.Code.TheVariants as codes
use Rattle.b67_exec.proofs.Calls.{met_each, entered_each, load_enters, load_row, load_due}
use Rattle.b67_exec.proofs.Fars.{stayed_by, entered_by}
use Rattle.b67_exec.proofs.apart.makes_load.Goals as goal

pub enter_in_place-requires : goal.enter_in_place-requires
enter_in_place-requires c = load_due c.args.cpu.now c.load.new.cpu c.args.next c.in-Call.field-0 c.in-Call.ensures.row c.requires

pub returns-in-Call : goal.returns-in-Call
returns-in-Call c =
    entered_by (Plain codes.Load) c.args.next c.args.cpu.now c.enter_in_place.new.cpu c.requires c.enter_in_place.result c.entered.result c.entered.new.why c.entered.ensures
    (entered_each c.args.cpu.now c.load.new.cpu (load_enters c.args.next) (load_row c.args.next) c.in-Call.field-0 c.in-Call.ensures.row c.enter_in_place.result c.enter_in_place.new.cpu (λ x plan s m t ordered h runs due. c.enter_in_place.ensures.row x plan s m t ordered h runs c.args.next due))

pub returns-in_default : goal.returns-in_default
returns-in_default c =
    stayed_by (Plain codes.Load) c.args.next c.args.cpu.now c.load.new.cpu c.requires c.load.result c.stayed.result c.stayed.new.why c.stayed.ensures
    (met_each c.args.cpu.now c.load.new.cpu (load_enters c.args.next) (load_row c.args.next) c.load.result c.in_default.not-Call c.load.ensures.row) c.load.ensures.stays
