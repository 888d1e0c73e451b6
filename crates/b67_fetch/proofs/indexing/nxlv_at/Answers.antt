use Rattle.std.proofs.Common.{ℕ, List, [], ◌∷◌, Some, sym, subst, refl, arith}
use Rattle.b67_model.specs.Common.{Word, Operand, element, leaves_cells}
use Rattle.b67_model.specs.Rows as rows
use Rattle.b67_layout.specs.Meets.{here, Meets}
use Rattle.b67_stack.specs.declared.Step.TheVariants as step
use Rattle.b67_stack.specs.declared.What.TheVariants as what
use Rattle.b67_exec_cells.specs.Elements.{HasElement}
use Rattle.b67_exec_cells.proofs.Put.{room}
use Rattle.b67_fetch.proofs.Values.{absent_element, meets_touching}
use Rattle.b67_fetch.proofs.Items.{item_on_top, holds_item, row_at_item}
use Rattle.b67_fetch.proofs.indexing.nxlv_at.Goals as goal

pub element-requires : goal.element-requires
element-requires c =
    let q = c.requires.runs in
    holds_item c.args.cpu.now q c.args.next (c.args.original, c.args.index) (c.requires.item.item q.storage q.plan q.session q.member q.task q.ordered q.stands q.running c.args.next)

pub returns-in-Some-clause-row : goal.returns-in-Some-clause-row
returns-in-Some-clause-row c = λ x plan s m t o h runs.
    let old = c.args.cpu.now in
    let q = c.args.next in
    let found : ℕ × ℕ = (c.args.original, c.args.index) in
    let i = item_on_top plan m t q found (c.requires.item.item x plan s m t o h runs q) in
    let e = subst (HasElement m.progress.job i.item.0) (sym i.index) i.element in
    let F : ℕ × ℕ → List Word → _ = λ at rest. leaves_cells (here m t q) (Operand (element m.progress.job at.0 at.1) ∷ rest) (Some at.0) in
    let v = Operand (element m.progress.job i.item.0 c.args.index) in
    let g = c.in-Some.ensures x plan s m t o h runs i.item.0 i.home e in
    row_at_item plan m t q x s old c.put_over.new.cpu c.put_over.result (rows.nxlv (here m t q)) F found i (λ b a rest. refl)
    (subst (λ (k : ℕ). Meets x plan s m c.put_over.result old c.put_over.new.cpu (F (i.item.0, k) i.rest)) i.index
    (meets_touching x plan s m t old c.put_over.new.cpu q (v ∷ i.rest) i.item.0 (g.0, g.1) c.put_over.result
    (c.put_over.ensures.row x plan s m t o h runs (i.upper ∷ i.lower ∷ []) i.rest v i.is refl i.plain tt (g.2, λ z. omega (arith, z)))))

pub returns-in-None-clause-row : goal.returns-in-None-clause-row
returns-in-None-clause-row c = λ x plan s m t o h runs.
    let old = c.args.cpu.now in
    let q = c.args.next in
    let found : ℕ × ℕ = (c.args.original, c.args.index) in
    let i = item_on_top plan m t q found (c.requires.item.item x plan s m t o h runs q) in
    let e = subst (HasElement m.progress.job i.item.0) (sym i.index) i.element in
    let F : ℕ × ℕ → List Word → _ = λ at rest. leaves_cells (here m t q) (Operand (element m.progress.job at.0 at.1) ∷ rest) (Some at.0) in
    let r = step.Absent (what.Array c.args.original) in
    let g = room x old plan s m t o h runs in
    row_at_item plan m t q x s old old r (rows.nxlv (here m t q)) F found i (λ b a rest. refl)
    (subst (λ (k : ℕ). Meets x plan s m r old old (F (i.item.0, k) i.rest)) i.index (
      absent_element x old plan s m t o h runs 2 c.args.original q (i.upper ∷ i.lower ∷ []) i.rest i.item.0 (Operand (element m.progress.job i.item.0 c.args.index)) i.is refl c.requires.item.above
          (let a = c.requires.item.above in omega (arith, g.last, g.top, a)) i.home (c.in-None.ensures x plan s m t o h runs i.item.0 i.home e),
      refl,
    ))
