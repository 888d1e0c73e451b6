use Rattle.std.proofs.Common.{◌≡◌, sym, ◌∙◌}
use Rattle.std.proofs.lemmas.Option.{same_Some}
use Rattle.b67_stack.specs.Stacks.{top_mark}
use Rattle.b67_stack.proofs.Tops.{mark_at_f, mark_is}
use Rattle.b67_stack.proofs.Cpu.top_mark.Goals as goal

pub returns : goal.returns
returns c = λ x p stack s u.
    let r = c.args.self.now.regs in
    let k = r.slot in
    let w : c.get.result ≡ _ = same_Some _ _ (sym c.get.ensures ∙ mark_at_f x c.args.self.now.core r p k stack s u) in
    c.read.ensures (top_mark k stack) (mark_is x c.args.self.now.core r p k stack s u) w
