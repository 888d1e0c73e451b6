use Rattle.std.proofs.Common.{Some, sym, ◌∙◌, ap}
use Rattle.std.proofs.lemmas.Option.{same_Some}
use Rattle.b67_ctl.specs.declared.marks.Mscw.{Mscw}
use Rattle.b67_stack.specs.Stacks.{return_of}
use Rattle.b67_entry.proofs.Callers.{return_there, return_fits, regs_are}
use Rattle.b67_entry.proofs.leave.caller.Goals as goal

pub returns : goal.returns
returns c = λ a e.
    let cpu = c.args.cpu.now in
    let is = c.read-word.ensures (return_of (Some a.back) a.below) (return_fits cpu a) (same_Some _ _ (sym c.get.ensures ∙ return_there cpu a)) in
    regs_are cpu a c.read-word.result c.from.result is (c.from.ensures ∙ ap (λ (m : Mscw). m.back) e)
