use Rattle.std.proofs.Common.{◌≡◌, [], List, ℕ, Option, subst}
use Rattle.b67_model_text.specs.Asm as asm
use Rattle.b67_asm.specs.Names.{label_entries}
use Rattle.b67_asm.specs.Scope.{names_in}
use Rattle.b67_asm.specs.Putting.{CodePut, put_behind, code_count}
use Rattle.b67_asm.proofs.block.segment_code.Goals as goal

pub returns : goal.returns
returns c =
    let same : (λ (q : List ℕ). asm.meaning (label_entries c.in_ok-labels.labels.entries) q) ≡ (λ (q : List ℕ). asm.meaning (asm.labels 0 c.args.own.now) q) = λ j q. c.in_ok-labels.ensures q j in
    let scope : (List ℕ → Option ℕ) → asm.Scope = λ f. record { names = names_in c.args.names.now; segments = c.args.segments; level = c.args.level; labels = f } in
    subst (λ (f : List ℕ → Option ℕ). CodePut c.code_in.result (put_behind [] (asm.content_of (scope f) c.args.own.now)) (code_count c.args.own.now)) same c.code_in.ensures
