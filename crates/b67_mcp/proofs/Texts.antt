-- The text of what a task prints.
use Rattle.std.proofs.Common.{◌≡◌, ℕ, ◌<◌, ◌≤◌, ℤ, List, [], ◌∷◌, ◌++◌, length, Option, arith, Some, Result, Ok, Err, sym, ◌∙◌, ap, subst, append-nil, length-append, ◌+◌, ◌-◌, drop}
use Rattle.std.specs.Prelude.{max}
use Rattle.std.specs.Result.{OnOk, OnErr}
use Rattle.std.specs.List.{slice_range}
use Rattle.std.proofs.lemmas.List.{take_all, length-take}
use Rattle.b67_word.specs.Tagged.{Tagged}
use Rattle.b67_word.specs.declared.faults.Failed.{Failed}
use Rattle.b67_io.specs.Line.{ended}
use Rattle.b67_io.specs.Told.{Continues}
use Rattle.b67_session_lines.specs.Parts.{TookRest, TookMore}
use Rattle.b67_model.specs.Common.{task_name, value_text, line_text, Task, SessionJob, Value, Values}
use Rattle.b67_mcp.specs.Texts.{values_of}
use Rattle.b67_task.specs.declared.tables.Machine.{Machine}
use Rattle.b67_mcp.specs.Called.{printed_text}
use Rattle.b67_mcp.specs.Running.{ForRuns}

pub value_printed : (m : SessionJob) (t : Task) (j n : ℕ) (v : ℤ) (line : List ℕ) → j ≡ m.constants.number → n ≡ t.number → line ≡ task_name j n ++ value_text v → ended line ≡ printed_text m t (Value v ∷ [])
value_printed m t j n v line ej en e = grind (arith, append-nil)

row_printed : (m : SessionJob) (t : Task) (j n : ℕ) (vs : List ℤ) → j ≡ m.constants.number → n ≡ t.number → line_text j (n, Values vs) ≡ printed_text m t (Values vs ∷ [])
row_printed m t j n vs ej en = ap (λ (i : ℕ). line_text i (n, Values vs)) ej ∙ ap (λ (i : ℕ). line_text m.constants.number (i, Values vs)) en ∙ sym (append-nil (line_text m.constants.number (t.number, Values vs)))

module _ {K : Type 0} (taken : K → Option (List ℕ)) (old new : K) (k : Machine) (done : Result (Unit {0}) Failed) (row words : List Tagged) (same : row ≡ words) (before after j n : ℕ)
    (ej : ForRuns k (λ x told plan s m t. j ≡ m.constants.number)) (en : ForRuns k (λ x told plan s m t. n ≡ t.number)) where
  pub whole_row : OnOk done ((vs : List ℤ) → values_of row ≡ Some vs → TookRest taken old new (line_text j (n, Values vs)) before)
      → OnOk done (ForRuns k (λ x told plan s m t. (vs : List ℤ) → values_of words ≡ Some vs → TookRest taken old new (printed_text m t (Values vs ∷ [])) before))
  whole_row h = by done h
    where
      by : (d : Result (Unit {0}) Failed) → OnOk d ((vs : List ℤ) → values_of row ≡ Some vs → TookRest taken old new (line_text j (n, Values vs)) before)
          → OnOk d (ForRuns k (λ x told plan s m t. (vs : List ℤ) → values_of words ≡ Some vs → TookRest taken old new (printed_text m t (Values vs ∷ [])) before))
      by (Ok z) h = λ x told plan s m t o stands runs code vs e.
          subst (λ (l : List ℕ). TookRest taken old new l before) (row_printed m t j n vs (ej x told plan s m t o stands runs code) (en x told plan s m t o stands runs code)) (h vs (ap values_of same ∙ e))
      by (Err z) h = tt

  pub part_row : OnErr done ((vs : List ℤ) → values_of row ≡ Some vs → TookMore taken old new (line_text j (n, Values vs)) before after)
      → OnErr done (ForRuns k (λ x told plan s m t. (vs : List ℤ) → values_of words ≡ Some vs → TookMore taken old new (printed_text m t (Values vs ∷ [])) before after))
  part_row h = by done h
    where
      by : (d : Result (Unit {0}) Failed) → OnErr d ((vs : List ℤ) → values_of row ≡ Some vs → TookMore taken old new (line_text j (n, Values vs)) before after)
          → OnErr d (ForRuns k (λ x told plan s m t. (vs : List ℤ) → values_of words ≡ Some vs → TookMore taken old new (printed_text m t (Values vs ∷ [])) before after))
      by (Ok z) h = tt
      by (Err z) h = λ x told plan s m t o stands runs code vs e.
          subst (λ (l : List ℕ). TookMore taken old new l before after) (row_printed m t j n vs (ej x told plan s m t o stands runs code) (en x told plan s m t o stands runs code)) (h vs (ap values_of same ∙ e))

-- the line of a value, as a text with nothing before it and behind
module _ {K : Type 0} (taken : K → Option (List ℕ)) (old new : K) (text whole : List ℕ) (before after : ℕ) (e : text ≡ whole) (goes : Continues taken old new (text ++ []) before after) where
  goes_on : Continues taken old new whole before after
  goes_on = subst (λ (l : List ℕ). Continues taken old new l before after) (append-nil text ∙ e) goes

  pub rest_of : length text ≤ after → TookRest taken old new whole before
  rest_of all = let q = goes_on in record { rest = q.printed; took = q.took; same = q.same ∙ take_all after whole (omega (arith, all, ap length e)) }

  pub more_of : before ≤ after → after < length text → TookMore taken old new whole before after
  more_of later low = record { continues = goes_on; later = later; proper = omega (arith, low, ap length e) }

-- the line of a value was put
module _ {K : Type 0} (taken : K → Option (List ℕ)) (old new : K) (k : Machine) (v : ℤ) (line : List ℕ) (before after : ℕ)
    (e : ForRuns k (λ x told plan s m t. ended line ≡ printed_text m t (Value v ∷ []))) (goes : Continues taken old new (ended line ++ []) before after) where
  pub whole_value : (done : Result (Unit {0}) Failed) → OnOk done (after ≡ max before (0 + (length line + 1))) → OnOk done (ForRuns k (λ x told plan s m t. TookRest taken old new (printed_text m t (Value v ∷ [])) before))
  whole_value (Ok z) most = λ x told plan s m t o stands runs code.
      rest_of taken old new (ended line) (printed_text m t (Value v ∷ [])) before after (e x told plan s m t o stands runs code) goes (omega (arith, most, length-append line (10 ∷ [])))
  whole_value (Err z) most = tt

  pub part_value : (done : Result (Unit {0}) Failed) → OnErr done ((before ≤ after) × (after < 0 + (length line + 1))) → OnErr done (ForRuns k (λ x told plan s m t. TookMore taken old new (printed_text m t (Value v ∷ [])) before after))
  part_value (Ok z) cut = tt
  part_value (Err z) cut = λ x told plan s m t o stands runs code.
      more_of taken old new (ended line) (printed_text m t (Value v ∷ [])) before after (e x told plan s m t o stands runs code) goes cut.0 (omega (arith, cut.1, length-append line (10 ∷ [])))

pub short_range : (words : List Tagged) (at count : ℕ) → length (slice_range words at (at + count)) ≤ count
short_range words at count = let l = length-take (at + count - at) (drop at words) in omega (arith, l)
