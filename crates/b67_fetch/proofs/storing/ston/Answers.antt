use Rattle.std.proofs.Common.{sym, ◌∙◌, subst, true}
use Rattle.b67_model.specs.Steps.{cells_of}
use Rattle.b67_model.specs.Rows as rows
use Rattle.b67_stack.specs.declared.Step.{Step}
use Rattle.b67_layout.specs.Meets.{here, ForEach}
use Rattle.b67_fetch.specs.Fetches.{enters_at, EntersOrMeets}
use Rattle.b67_fetch.specs.Stores.{store_end}
use Rattle.b67_fetch.proofs.storing.ston.Goals as goal

pub returns-clause-row : goal.returns-clause-row
returns-clause-row c =
    let P : Step → Type 0 = λ z. ForEach c.args.cpu.now (λ x plan s m t. let h = here m t c.args.next in EntersOrMeets x plan s m z c.args.cpu.now c.store-stored.new.cpu (enters_at (store_end h (cells_of h))) (rows.store true h (cells_of h))) in
    subst P (sym c.step_of.ensures) c.store-stored.ensures.row

pub returns-clause-stays : goal.returns-clause-stays
returns-clause-stays c = λ e. c.store-stored.ensures.stays (sym c.step_of.ensures ∙ e)
