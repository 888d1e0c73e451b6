-- A run that has come so far goes one step further.
use Rattle.std.proofs.Common.{◌≡◌, ℕ, zero, suc, ◌+◌, List, [], ◌++◌, refl, sym, ap, ◌∙◌, subst, None, Option, Some, append_assoc, append-nil, arith}
use Rattle.std.proofs.lemmas.Option.{none-some}
use Rattle.b67_model.specs.Common.{Session, RunLine, StepResult, next, lines_from, lines, after_from, after}

-- a run of so many steps that leads to a session, and what it prints
pub record Came (first : Session) (steps : ℕ) (s : Session) (printed : List RunLine) : Type 0 where
  pub session : after steps first ≡ s
  pub lines_are : lines steps first ≡ printed

pub came-none : (s : Session) → Came s 0 s []
came-none s = record { session = refl; lines_are = refl }

more : (steps : ℕ) (first s : Session) (m : StepResult) → after steps first ≡ s → next s ≡ Some m
    → (after (suc steps) first ≡ m.session) × (lines (suc steps) first ≡ lines steps first ++ m.lines)
more zero first s m e n = grind (arith, append-nil)
more (suc steps) first s m e n = by (λ f at. more steps f s m at n) (next first) refl
  where
    by : ((f : Session) → after steps f ≡ s → (after (suc steps) f ≡ m.session) × (lines (suc steps) f ≡ lines steps f ++ m.lines))
        → (o : Option StepResult) → next first ≡ o → (after (suc (suc steps)) first ≡ m.session) × (lines (suc (suc steps)) first ≡ lines (suc steps) first ++ m.lines)
    by further None at =
        let stays : first ≡ s = sym (ap (after_from (suc steps) first) at) ∙ e in
        absurd (none-some m (sym at ∙ ap next stays ∙ n))
    by further (Some f) at =
        let there : after steps f.session ≡ s = sym (ap (after_from (suc steps) first) at) ∙ e in
        let later = further f.session there in (
          ap (after_from (suc (suc steps)) first) at ∙ later.0,
          ap (lines_from (suc (suc steps))) at ∙ ap (λ (ls : List RunLine). f.lines ++ ls) later.1 ∙ sym (append_assoc f.lines (lines steps f.session) m.lines)
              ∙ ap (λ (ls : List RunLine). ls ++ m.lines) (sym (ap (lines_from (suc steps)) at)),
        )

pub came-more : (first : Session) (steps : ℕ) (s : Session) (printed : List RunLine) (m : StepResult) → Came first steps s printed → next s ≡ Some m
    → Came first (steps + 1) m.session (printed ++ m.lines)
came-more first steps s printed m c n =
    let one = more steps first s m c.session n in
    let P : ℕ → Type 0 = λ k. Came first k m.session (printed ++ m.lines) in
    let up : suc steps ≡ steps + 1 = omega arith in
    subst P up (record { session = one.0; lines_are = one.1 ∙ ap (λ (ls : List RunLine). ls ++ m.lines) c.lines_are })
