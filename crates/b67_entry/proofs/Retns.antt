-- What RETN answers by the case of the top frame and of its word.
use Rattle.std.proofs.Common.{◌≡◌, ℕ, ◌+◌, ◌≤◌, List, [], ◌∷◌, Option, Some, None, Ok, Err, ◌∙◌, ap, arith, Bool, false, ◌⊎◌}
use Rattle.b67_word.specs.declared.couples.Place.{Place}
use Rattle.b67_word.specs.declared.faults.Fault.TheVariants.{StackUnderflow}
use Rattle.b67_model.specs.Common.{◌>>=◌, Word, Standing, Return, Frame, Task, OperatorContext, SessionJob, height, top, with_top_cells, with_task, Goes, top_of, is_critical, without_arrays_of, pushes, returnable, returned, leaves, retn_word, retn}
use Rattle.b67_model.specs.State as State
use Rattle.b67_layout.specs.Meets.{here}
use Rattle.b67_layout.proofs.Leaves.{task_at}
use Rattle.b67_entry.proofs.Exits.{job_left, leaves_inner}
use Rattle.b67_lemmas.proofs.Members.{change_twice}
use Rattle.b67_law.proofs.Maps.{IsOperand}

at_once : (h : OperatorContext) (v : Word) (value : Bool) → (value ≡ false) ⊎ IsOperand v → returned h v value ≡ pushes h v None
at_once h v value e = grind arith

module _ (m : SessionJob) (t : Task) (q : Place) where
  by_top : (s : Standing) (cells : List Word) → (top t.frames).standing ≡ s → (top t.frames).cells ≡ cells → retn (here m t q) ≡ retn_word (here m t q) s cells
  by_top s cells es ec = ap (λ (z : Standing). retn_word (here m t q) z (top t.frames).cells) es ∙ ap (retn_word (here m t q) s) ec

  on : (f : Frame) (below : List Frame) (s : Standing) → t.frames ≡ f ∷ below → f.standing ≡ s → (top t.frames).standing ≡ s
  on f below s e is = ap (λ (fs : List Frame). (top fs).standing) e ∙ is

  cells_on : (f : Frame) (below : List Frame) (cells : List Word) → t.frames ≡ f ∷ below → f.cells ≡ cells → (top t.frames).cells ≡ cells
  cells_on f below cells e is = ap (λ (fs : List Frame). (top fs).cells) e ∙ is

  module _ (f : Frame) (below : List Frame) (level environment : ℕ) (back : Option Return) (e : t.frames ≡ f ∷ below) (is : f.standing ≡ State.Entered level environment back) where
    pub retn_empty : f.cells ≡ [] → retn (here m t q) ≡ Err StackUnderflow
    retn_empty none = by_top (State.Entered level environment back) [] (on f below (State.Entered level environment back) e is) (cells_on f below [] e none)

    module _ (v : Word) (rest : List Word) (cells : f.cells ≡ v ∷ rest) where
      with_word : retn (here m t q) ≡ (returnable m.progress.job (top t.frames).identity v >>= λ u. leaves (here m t q) (State.Entered level environment back) (λ after value. returned after u value))
      with_word = by_top (State.Entered level environment back) (v ∷ rest) (on f below (State.Entered level environment back) e is) (cells_on f below (v ∷ rest) e cells)

      -- it is left with that word
      pub retn_passed : returnable m.progress.job (top t.frames).identity v ≡ Ok v → retn (here m t q) ≡ leaves (here m t q) (top_of (here m t q)).standing (λ after value. returned after v value)
      retn_passed passes = grind arith

  -- on the caller's frame
  module _ (f next : Frame) (more : List Frame) (level environment : ℕ) (back : Return) (e : t.frames ≡ f ∷ next ∷ more) (is : f.standing ≡ State.Entered level environment (Some back))
      (v : Word) (rest : List Word) (cells : f.cells ≡ v ∷ rest) (passes : returnable m.progress.job (top t.frames).identity v ≡ Ok v) (free : is_critical m.progress.job (top t.frames).identity ≡ false) where
    abbrev pub here_left : OperatorContext
    here_left = record { constants = m.constants; job = job_left m.progress.job t f (next ∷ more) back; task = task_at t (next ∷ more) back.segment back.place t.condition; at = t.place }

    pub retn_left : retn (here m t q) ≡ returned here_left v back.value
    retn_left = retn_passed f (next ∷ more) level environment (Some back) e is v rest cells passes ∙ leaves_inner m t q (λ after value. returned after v value) f (next ∷ more) level environment back e is free

    -- a word that is pushed there
    pub pushes_left : (u : Word) (touched : Option ℕ) → height (next ∷ more) + 1 ≤ m.constants.stack_size
        → pushes here_left u touched ≡ Ok (Goes (with_task (without_arrays_of f.identity m.progress.job) (task_at t (with_top_cells (next ∷ more) (u ∷ next.cells)) back.segment back.place t.condition)) [] touched)
    pushes_left u touched low = grind (arith, change_twice)

    pub retn_pushed : (back.value ≡ false) ⊎ IsOperand v → height (next ∷ more) + 1 ≤ m.constants.stack_size
        → retn (here m t q) ≡ Ok (Goes (with_task (without_arrays_of f.identity m.progress.job) (task_at t (with_top_cells (next ∷ more) (v ∷ next.cells)) back.segment back.place t.condition)) [] None)
    retn_pushed once low = retn_left ∙ at_once here_left v back.value once ∙ pushes_left v None low
