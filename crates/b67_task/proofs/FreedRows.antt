-- A row once tasks of a job have ended.
use Rattle.std.proofs.Common.{◌≡◌, ◌≢◌, ℕ, List, Bool, true, false, refl, sym, ◌∙◌, ap, not, arith}
use Rattle.std.proofs.lemmas.Bool.{eq-eqb, ne_eqb}
use Rattle.b67_model.specs.Endings.{among}
use Rattle.b67_task.specs.declared.tables.TaskRow.{TaskRow}
use Rattle.b67_task.specs.declared.tables.TaskState.{TaskState}
use Rattle.b67_task.specs.declared.tables.TaskState.TheVariants.{Ready, Awaits}
use Rattle.b67_task.specs.LeftRows.{freed_state, freed, row_is_kept}
use Rattle.b67_task.proofs.Remains.{freed_own}

pub stays_own : (j : ℕ) (numbers : List ℕ) (q : TaskRow) (b : Bool) → q.job ≡ j → b ≡ among numbers q.number → not b ≡ row_is_kept j numbers q
stays_own j numbers q b e is = rw (eq-eqb q.job j e) (ap not is)

pub stays_other : (j : ℕ) (numbers : List ℕ) (q : TaskRow) → q.job ≢ j → true ≡ row_is_kept j numbers q
stays_other j numbers q e = rw (ne_eqb q.job j e) refl

pub freed_awaits : (j : ℕ) (numbers : List ℕ) (q : TaskRow) (n : ℕ) → q.job ≡ j → Awaits n ≡ q.state → among numbers n ≡ true → record q { state = Ready } ≡ freed j numbers q
freed_awaits j numbers q n e is t = grind arith

pub freed_awaiting : (j : ℕ) (numbers : List ℕ) (q : TaskRow) (n : ℕ) → q.job ≡ j → Awaits n ≡ q.state → among numbers n ≡ false → q ≡ freed j numbers q
freed_awaiting j numbers q n e is t = grind arith

pub freed_same : (j : ℕ) (numbers : List ℕ) (q : TaskRow) (w : TaskState) → q.job ≡ j → w ≡ q.state → freed_state numbers w ≡ w → q ≡ freed j numbers q
freed_same j numbers q w e is fix = sym (freed_own j numbers q e ∙ ap (λ (v : TaskState). record q { state = v }) (ap (freed_state numbers) (sym is) ∙ fix ∙ is))
