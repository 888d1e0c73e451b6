use Rattle.std.proofs.Common.{ℕ, ◌+◌, ◌-◌, List, [], ◌∷◌, None, sym, subst, refl}
use Rattle.b67_model.specs.Common.{Word, Element, leaves_cells}
use Rattle.b67_model.specs.Rows as rows
use Rattle.b67_layout.specs.Meets.{here}
use Rattle.b67_layout.specs.Tops.{IsWordOf}
use Rattle.b67_exec_cells.specs.Elements.{HasElement}
use Rattle.b67_fetch.proofs.Items.{item_on_top, holds_item, row_at_item}
use Rattle.b67_fetch.proofs.indexing.indx_at.Goals as goal

pub item_copy-copy-requires : goal.item_copy-copy-requires
item_copy-copy-requires c =
    let q = c.requires.runs in
    holds_item c.args.cpu.now q c.args.next (c.args.original, c.args.index) (c.requires.item.item q.storage q.plan q.session q.member q.task q.ordered q.stands q.running c.args.next)

pub returns-clause-row : goal.returns-clause-row
returns-clause-row c = λ x plan s m t o h runs.
    let old = c.args.cpu.now in
    let q = c.args.next in
    let found : ℕ × ℕ = (c.args.original, c.args.index) in
    let i = item_on_top plan m t q found (c.requires.item.item x plan s m t o h runs q) in
    let e = subst (HasElement m.progress.job i.item.0) (sym i.index) i.element in
    let fits = subst (λ (k : ℕ). IsWordOf x plan m t (Element i.item.0 k) (old.regs.s - 2 + 1) c.item_copy-copy.result) i.index (c.item_copy-copy.ensures x plan s m t o h runs i.item.0 (old.regs.s - 2 + 1) i.home e) in
    row_at_item plan m t q x s old c.put_over.new.cpu c.put_over.result (rows.indx (here m t q)) (λ (at : ℕ × ℕ) (rest : List Word). leaves_cells (here m t q) (Element at.0 at.1 ∷ rest) None) found i (λ b a rest. refl)
    (c.put_over.ensures.row x plan s m t o h runs (i.upper ∷ i.lower ∷ []) i.rest (Element i.item.0 i.item.1) i.is refl i.plain (record { item = e.item; live = e.live; named = e.named }) fits)
