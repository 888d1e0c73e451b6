use Rattle.std.proofs.Common.{◌≡◌, sym, ◌∙◌, ap}
use Rattle.std.specs.List.{slice_get}
use Rattle.std.proofs.lemmas.Option.{same_Some}
use Rattle.b67_ctl.specs.Layout.{toscw_word}
use Rattle.b67_ctl.specs.declared.marks.Toscw.{Toscw}
use Rattle.b67_stack.specs.Stacks.{toscw_of}
use Rattle.b67_task.proofs.TopWords.{waiting_word, waiting_top}
use Rattle.b67_task.proofs.Loading.{loaded_is, base_is}
use Rattle.b67_task.proofs.registers.registers.Goals as goal

pub returns : goal.returns
returns c = λ x p stack s w.
    let base = base_is c.args.regs.now p s.slots.regs c.from.result c.from-size.result c.args.turn.slot c.from.ensures c.from-size.ensures in
    let word : c.get.result ≡ toscw_word (toscw_of stack) = same_Some _ _ (sym c.get.ensures ∙ ap (slice_get c.args.core.now) base ∙ waiting_word x c.args.core.now c.args.regs.now p s c.args.turn.slot stack w) in
    let top : c.read-top.result ≡ toscw_of stack = c.read-top.ensures (toscw_of stack) (waiting_top x c.args.core.now c.args.regs.now p s c.args.turn.slot stack w) word in
    loaded_is c.args.regs.now p stack c.args.turn _ _ _ _ _ base (c.from-size.ensures ∙ s.slots.regs.size)
    (c.from-2.ensures ∙ ap (λ (z : Toscw). z.s) top) (c.from-3.ensures ∙ ap (λ (z : Toscw). z.f) top) (ap (λ (z : Toscw). z.level) top)
