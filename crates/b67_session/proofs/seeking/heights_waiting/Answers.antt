use Rattle.std.proofs.Common.{◌≡◌, sym, ◌∙◌, ap}
use Rattle.std.specs.List.{slice_get}
use Rattle.std.proofs.lemmas.Option.{same_Some}
use Rattle.b67_ctl.specs.Layout.{toscw_word}
use Rattle.b67_ctl.specs.declared.marks.Toscw.{Toscw}
use Rattle.b67_stack.specs.Stacks.{toscw_of}
use Rattle.b67_task.proofs.TopWords.{waiting_word, waiting_top}
use Rattle.b67_task.proofs.Loading.{base_is}
use Rattle.b67_session.proofs.seeking.heights_waiting.Goals as goal

pub returns : goal.returns
returns c = λ x p stack s w.
    let core = c.args.cpu.now.core in
    let regs = c.args.cpu.now.regs in
    let base = base_is regs p s.slots.regs c.from.result c.from-2.result c.args.slot c.from.ensures c.from-2.ensures in
    let word : c.get.result ≡ toscw_word (toscw_of stack) = same_Some _ _ (sym c.get.ensures ∙ ap (slice_get core) base ∙ waiting_word x core regs p s c.args.slot stack w) in
    let top : c.read-word.result ≡ toscw_of stack = c.read-word.ensures (toscw_of stack) (waiting_top x core regs p s c.args.slot stack w) word in
    (c.from-3.ensures ∙ ap (λ (z : Toscw). z.s) top, c.from-4.ensures ∙ ap (λ (z : Toscw). z.f) top)
