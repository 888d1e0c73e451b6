-- A whole step ends a task with INVALID OPERATOR exactly if it is the task that steps, and its operator faults so.
use Rattle.std.proofs.Common.{◌≡◌, ◌≢◌, ◌↔◌, ℕ, Bool, true, false, not, List, Some, Ok, Err, ap, ◌⊎◌, arith, [], ◌∷◌, sym, inl, inr}
use Rattle.std.specs.List.{list_all}
use Rattle.b67_word.specs.declared.faults.Fault.{Fault}
use Rattle.b67_word.specs.declared.faults.Fault.TheVariants.{InvalidOperator}
use Rattle.b67_word.specs.declared.faults.Ending.{Ending}
use Rattle.b67_word.specs.declared.faults.Ending.TheVariants.{Ended, Parent, Deadlock, Faulted}
use Rattle.b67_model.specs.Common.{Answer, Task, JobConstants, Job, JobProgress, Done, Goes, Leaves, Waits, step, Settled, is_ready, all_with, ends_task, ends_each_if, settles, stepped, step_of, deepest_first, descendants}
use Rattle.b67_model.specs.Keyed.{keyed}
use Rattle.b67_lemmas.specs.Lists.{Has}
use Rattle.b67_lemmas.proofs.Members.{has_append_cases, has_append_left, has_append_right, has_map_back}

abbrev pub FaultIn : List (ℕ × Ending) → ℕ → Type 0
FaultIn endings x = Has endings (x, Faulted InvalidOperator)

parent_ne : Parent ≢ Faulted InvalidOperator
parent_ne e = cc

deadlock_ne : Deadlock ≢ Faulted InvalidOperator
deadlock_ne e = cc

none_with : (ending : Ending) (numbers : List ℕ) (x : ℕ) → ending ≢ Faulted InvalidOperator → FaultIn (all_with ending numbers) x → ⊥
none_with ending numbers x ne h = grind (arith, has_map_back)

each_exact : (test : Bool) (ending : Ending) (s : Settled) (x : ℕ) → ending ≢ Faulted InvalidOperator → FaultIn (ends_each_if test ending s).endings x ↔ FaultIn s.endings x
each_exact true ending s x ne = (
  λ h. elim (has_append_cases s.endings (all_with ending (deepest_first s.job.tasks)) (x, Faulted InvalidOperator) h) [
    | inl old ↦ old
    | inr new ↦ absurd (none_with ending (deepest_first s.job.tasks) x ne new)
  ],
  λ h. has_append_left s.endings (all_with ending (deepest_first s.job.tasks)) (x, Faulted InvalidOperator) h,
)
each_exact false ending s x ne = (λ h. h, λ h. h)

task_exact : (job : Job) (number : ℕ) (ending : Ending) (x : ℕ) → FaultIn (ends_task job number ending).endings x ↔ ((x ≡ number) × (ending ≡ Faulted InvalidOperator))
task_exact job number ending x = (
  λ h. elim (has_append_cases parents own (x, Faulted InvalidOperator) h) [
    | inl above ↦ absurd (none_with Parent (deepest_first (descendants job number)) x parent_ne above)
    | inr last ↦ elim last [
      | inl is ↦ (sym (ap (λ (e : ℕ × Ending). e.0) is), ap (λ (e : ℕ × Ending). e.1) is)
      | inr none ↦ absurd none
    ]
  ],
  λ both. has_append_right parents own (x, Faulted InvalidOperator) (inl (λ i. (sym both.0 i, both.1 i))),
)
  where
    parents : List (ℕ × Ending)
    parents = all_with Parent (deepest_first (descendants job number))

    own : List (ℕ × Ending)
    own = (number, ending) ∷ []

-- the endings of a step before the last part of its end
settles_exact : (job : Job) (task : Task) (a : Answer Done) (x : ℕ) → FaultIn (settles job task a).settled.endings x ↔ ((x ≡ task.number) × (a ≡ Err InvalidOperator))
settles_exact job task (Ok (Goes after printed touched)) x = grind (arith, each_exact)
settles_exact job task (Ok (Waits condition)) x = grind (arith, each_exact)
settles_exact job task (Ok Leaves) x = (
  λ h.
      let both = (task_exact job task.number Ended x).0 ((each_exact (list_all (λ (t : Task). not (is_ready t)) (ends_task job task.number Ended).job.tasks) Deadlock (ends_task job task.number Ended) x deadlock_ne).0 h) in
      absurd (let is = both.1 in let z : ⊥ = cc in z),
  λ both. absurd (let is = both.1 in let z : ⊥ = cc in z),
)
settles_exact job task (Err fault) x = (
  λ h.
      let both = (task_exact job task.number (Faulted fault) x).0 ((each_exact (list_all (λ (t : Task). not (is_ready t)) ended.job.tasks) Deadlock ended x deadlock_ne).0 h) in
      let is = both.1 in
      let same : fault ≡ InvalidOperator = cc in
      (both.0, ap (λ (f : Fault). let a : Answer Done = Err f in a) same),
  λ both.
      let is = both.1 in
      let same : fault ≡ InvalidOperator = cc in
      (each_exact (list_all (λ (t : Task). not (is_ready t)) ended.job.tasks) Deadlock ended x deadlock_ne).1 ((task_exact job task.number (Faulted fault) x).1 (both.0, ap Faulted same)),
)
  where
    ended : Settled
    ended = ends_task job task.number (Faulted fault)

stepped_exact : (constants : JobConstants) (job : Job) (task : Task) (x : ℕ) → FaultIn (stepped constants job task).settled.endings x ↔ ((x ≡ task.number) × (step constants job task ≡ Err InvalidOperator))
unfolding stepped
stepped_exact constants job task x = settles_exact job task (step constants job task) x

-- who has ended so after a whole step
pub step_exact : (constants : JobConstants) (c : JobProgress) (number : ℕ) (task : Task) (x : ℕ) → keyed (λ t. t.number) number c.job.tasks ≡ Some task →
    FaultIn (step_of constants c number).progress.ended x ↔ (FaultIn c.ended x ⊎ ((x ≡ task.number) × (step constants c.job task ≡ Err InvalidOperator)))
unfolding step_of
step_exact constants c number task x live = grind (arith, has_append_cases, stepped_exact, each_exact, has_append_left, has_append_right)
