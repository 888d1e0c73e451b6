use Rattle.std.proofs.Common.{ℕ, List, ◌∷◌, Some, refl}
use Rattle.b67_model.specs.Common.{Word, Operand, element, leaves_cells}
use Rattle.b67_model.specs.Rows as rows
use Rattle.b67_layout.specs.Meets.{here}
use Rattle.b67_fetch.proofs.Items.{no_item}
use Rattle.b67_fetch.proofs.indexing.nxlv.Goals as goal

pub nxlv_at-requires-clause-item : goal.nxlv_at-requires-clause-item
nxlv_at-requires-clause-item c = record { item = c.in-Ok.ensures.item; above = c.in-Ok.ensures.above }

pub returns-in-Ok-clause-row : goal.returns-in-Ok-clause-row
returns-in-Ok-clause-row c = c.nxlv_at.ensures.row

pub returns-in-Err-clause-row : goal.returns-in-Err-clause-row
returns-in-Err-clause-row c = λ x plan s m t o h runs.
    let q = c.args.next in
    (no_item plan m t q (rows.nxlv (here m t q)) (λ (at : ℕ × ℕ) (rest : List Word). leaves_cells (here m t q) (Operand (element m.progress.job at.0 at.1) ∷ rest) (Some at.0)) c.in-Err.fault refl (λ b. refl) (λ b a rest. refl) (c.in-Err.ensures.item x plan s m t o h runs q), refl)
