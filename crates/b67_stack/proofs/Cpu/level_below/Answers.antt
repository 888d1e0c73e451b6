use Rattle.std.proofs.Common.{sym, ◌∙◌, ap}
use Rattle.std.proofs.lemmas.Option.{same_Some, slice_get_within}
use Rattle.std.proofs.lemmas.Bool.{not-false, not-true}
use Rattle.b67_ctl.specs.declared.marks.Rcw.{Rcw}
use Rattle.b67_stack.proofs.Tops.{level_under}
use Rattle.b67_stack.proofs.Cpu.level_below.Goals as goal

pub returns-then-not-top_mark : goal.returns-then-not-top_mark
returns-then-not-top_mark c = λ x p stack s u.
    let r = c.args.self.now.regs in
    (level_under x c.args.self.now.core r p r.slot stack s u).0 (ap (λ m. m.entered) (sym (c.top_mark.ensures x p stack s u)) ∙ not-true _ c.if-not-top_mark.true)

pub get-requires : goal.get-requires
get-requires c =
    let x = c.requires.storage in let p = c.requires.machine_view in let stack = c.requires.stack in let s = c.requires.stands in let u = c.requires.runs in
    let r = c.args.self.now.regs in
    let l = (level_under x c.args.self.now.core r p r.slot stack s u).1 (ap (λ m. m.entered) (sym (c.top_mark.ensures x p stack s u)) ∙ not-false _ c.if-not-top_mark.false) in
    slice_get_within _ _ _ l.2

pub returns : goal.returns
returns c = λ x p stack s u.
    let r = c.args.self.now.regs in
    let l = (level_under x c.args.self.now.core r p r.slot stack s u).1 (ap (λ m. m.entered) (sym (c.top_mark.ensures x p stack s u)) ∙ not-false _ c.if-not-top_mark.false) in
    ap (λ (m : Rcw). m.level) (c.read.ensures l.0 l.1 (same_Some _ _ (sym c.get.ensures ∙ l.2))) ∙ l.3
