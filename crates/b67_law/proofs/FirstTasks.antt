-- All tasks of a job stand under its first one, and end with it.
use Rattle.std.proofs.Common.{◌≡◌, ◌≢◌, ℕ, Bool, true, false, not, List, [], ◌∷◌, ◌++◌, map, filter, refl, sym, ap, ◌∙◌, subst, inl, inr, arith}
use Rattle.std.specs.Prelude.{◌==◌}
use Rattle.std.proofs.lemmas.Bool.{eq-eqb, true≢false}
use Rattle.b67_word.specs.declared.faults.Ending.{Ending}
use Rattle.b67_word.specs.declared.faults.Ending.TheVariants.{Parent}
use Rattle.b67_lemmas.specs.Lists.{Has}
use Rattle.b67_lemmas.proofs.Members.{all_in, any_some, filter_none, has_append_right, has_filter, has_filter_in, has_map, has_map_back, keyed_has}
use Rattle.b67_model.specs.Common.{Array, Task, JobConstants, Job, among, released, is_owned_by, all_with, deepest_first, descendants, ends_all, ends_each_if, ends_task, unsettled, Starts, BirthInOrder, ParentInOrder, TaskInOrder, TasksInOrder}
use Rattle.b67_law.proofs.Deaths.{ends_task_good, all_among}

-- a task's line of parents ends with the job's first task
module _ (P : Starts) (constants : JobConstants) (job : Job) (g : TasksInOrder P constants job) where
  first_by : (parents : List ℕ) (t : Task) → Has job.tasks t → t.parents ≡ parents → (u : Task) × Has job.tasks u × (u.number ≡ 1)
  first_by [] t here line = grind (arith, all_in)
  first_by (p ∷ above) t here line =
      let birth : ParentInOrder job t p above = subst (BirthInOrder job t) line (all_in (TaskInOrder P constants job) job.tasks t g.tasks here).birth in
      first_by above birth.parent (keyed_has (λ (u : Task). u.number) p job.tasks birth.parent birth.found).0 birth.line

  -- where a task lives, the first one does
  pub first_lives : job.tasks ≢ [] → (u : Task) × Has job.tasks u × (u.number ≡ 1)
  first_lives some = by job.tasks refl
    where
      by : (ts : List Task) → job.tasks ≡ ts → (u : Task) × Has job.tasks u × (u.number ≡ 1)
      by [] e = absurd (some e)
      by (t ∷ ts) e = first_by t.parents t (subst (λ (us : List Task). Has us t) (sym e) (inl refl)) refl

-- ---- a job of which all tasks end

abbrev numbers_of : List (ℕ × Ending) → List ℕ
numbers_of endings = map (λ (e : ℕ × Ending). e.0) endings

abbrev AllAmong : Job → List (ℕ × Ending) → Type 0
AllAmong job endings = (t : Task) → Has job.tasks t → among (numbers_of endings) t.number ≡ true

abbrev pub emptied : Job → Job
emptied job = record job { tasks = []; arrays = filter (λ (a : Array). not (is_owned_by job.tasks a)) job.arrays }

filter_every : {A : Type 0} (p : A → Bool) (xs : List A) → ((x : A) → Has xs x → p x ≡ true) → filter p xs ≡ xs
filter_every p [] all = refl
filter_every p (x ∷ xs) all = rw (all x (inl refl)) (ap (λ ys. x ∷ ys) (filter_every p xs (λ y h. all y (inr h))))

all_end : (job : Job) (endings : List (ℕ × Ending)) → AllAmong job endings → (ends_all (unsettled job) endings).job ≡ emptied job
all_end job endings all =
    let numbers = numbers_of endings in
    let gone : filter (λ (t : Task). among numbers t.number) job.tasks ≡ job.tasks = filter_every (λ (t : Task). among numbers t.number) job.tasks all in
    let stay : filter (λ (t : Task). not (among numbers t.number)) job.tasks ≡ [] = filter_none (λ (t : Task). not (among numbers t.number)) job.tasks (λ t h. let e = all t h in rw e refl) in
    ap (λ (ts : List Task). record job {
      tasks = map (λ (t : Task). record t { condition = released numbers t.condition }) ts;
      arrays = filter (λ (a : Array). not (is_owned_by (filter (λ (t : Task). among numbers t.number) job.tasks) a)) job.arrays;
    }) stay
    ∙ ap (λ (ts : List Task). record job { tasks = []; arrays = filter (λ (a : Array). not (is_owned_by ts a)) job.arrays }) gone

module _ (P : Starts) (constants : JobConstants) (job : Job) (g : TasksInOrder P constants job) where
  -- by any ending of all
  pub each_emptied : (ending : Ending) → (ends_each_if true ending (unsettled job)).job ≡ emptied job
  each_emptied ending = all_end job (all_with ending (deepest_first job.tasks)) (all_among P constants job ending g)

  -- by the end of the first one
  module _ (ending : Ending) where
    abbrev endings : List (ℕ × Ending)
    endings = all_with Parent (deepest_first (descendants job 1)) ++ (1, ending) ∷ []

    one_among : among (numbers_of endings) 1 ≡ true
    one_among =
        any_some (λ (m : ℕ). m == 1) (numbers_of endings) 1
        (has_map (λ (e : ℕ × Ending). e.0) endings (1, ending) (has_append_right (all_with Parent (deepest_first (descendants job 1))) ((1, ending) ∷ []) (1, ending) (inl refl)))
        (eq-eqb 1 1 refl)

    -- the first one isn't left
    not_left : (u : Task) → Has (ends_task job 1 ending).job.tasks u → u.number ≡ 1 → ⊥
    not_left u h e =
        let back = has_map_back (λ (t : Task). record t { condition = released (numbers_of endings) t.condition }) (filter (λ (t : Task). not (among (numbers_of endings) t.number)) job.tasks) u h in
        let f = has_filter (λ (t : Task). not (among (numbers_of endings) t.number)) job.tasks back.item back.among in
        let number : back.item.number ≡ 1 = ap (λ (t : Task). t.number) back.is ∙ e in
        let test : not (among (numbers_of endings) 1) ≡ true = subst (λ (n : ℕ). not (among (numbers_of endings) n) ≡ true) number f.1 in
        let none : not true ≡ true = subst (λ (b : Bool). not b ≡ true) one_among test in
        absurd (true≢false (sym none))

    none_left : (ends_task job 1 ending).job.tasks ≡ []
    none_left = by (ends_task job 1 ending).job.tasks refl
      where
        by : (ts : List Task) → (ends_task job 1 ending).job.tasks ≡ ts → (ends_task job 1 ending).job.tasks ≡ []
        by [] e = e
        by (t ∷ ts) e =
            let (u, here, one) = first_lives P constants (ends_task job 1 ending).job (ends_task_good P constants job 1 ending g) (λ none. let both : t ∷ ts ≡ [] = sym e ∙ none in absurd cc) in
            absurd (not_left u here one)

    all_under : AllAmong job endings
    all_under t h = by (among (numbers_of endings) t.number) refl
      where
        by : (b : Bool) → among (numbers_of endings) t.number ≡ b → among (numbers_of endings) t.number ≡ true
        by true e = e
        by false e =
            let k = has_filter_in (λ (u : Task). not (among (numbers_of endings) u.number)) job.tasks t h (rw e refl) in
            let m = has_map (λ (u : Task). record u { condition = released (numbers_of endings) u.condition }) (filter (λ (u : Task). not (among (numbers_of endings) u.number)) job.tasks) t k in
            absurd (subst (λ (ts : List Task). Has ts (record t { condition = released (numbers_of endings) t.condition })) none_left m)

    pub first_emptied : (ends_task job 1 ending).job ≡ emptied job
    first_emptied = all_end job endings all_under
