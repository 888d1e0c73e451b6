use Rattle.std.proofs.Common.{ℕ, List, ◌∷◌, None, refl}
use Rattle.b67_model.specs.Common.{Word, Element, leaves_cells}
use Rattle.b67_model.specs.Rows as rows
use Rattle.b67_layout.specs.Meets.{here}
use Rattle.b67_fetch.proofs.Items.{no_item}
use Rattle.b67_fetch.proofs.indexing.indx.Goals as goal

pub indx_at-requires-clause-item : goal.indx_at-requires-clause-item
indx_at-requires-clause-item c = record { item = c.in-Ok.ensures.item; above = c.in-Ok.ensures.above }

pub returns-in-Ok-clause-row : goal.returns-in-Ok-clause-row
returns-in-Ok-clause-row c = c.indx_at.ensures.row

pub returns-in-Err-clause-row : goal.returns-in-Err-clause-row
returns-in-Err-clause-row c = λ x plan s m t o h runs.
    let q = c.args.next in
    (no_item plan m t q (rows.indx (here m t q)) (λ (at : ℕ × ℕ) (rest : List Word). leaves_cells (here m t q) (Element at.0 at.1 ∷ rest) None) c.in-Err.fault refl (λ b. refl) (λ b a rest. refl) (c.in-Err.ensures.item x plan s m t o h runs q), refl)
