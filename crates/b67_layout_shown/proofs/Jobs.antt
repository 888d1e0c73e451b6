-- A job keeps its order under names by place: frames.
use Rattle.std.proofs.Common.{◌≡◌, ℕ, ◌+◌, ◌^◌, ◌<◌, ◌≤◌, List, [], ◌∷◌, ◌++◌, map, Option, Some, refl, sym, subst, arith, inl, inr}
use Rattle.std.proofs.lemmas.Bool.{cases_eq}
use Rattle.b67_lemmas.specs.Lists.{Has, total, Falls}
use Rattle.b67_lemmas.proofs.Members.{all_in, falls_more, keyed_has}
use Rattle.b67_model.specs.Common.{Frame, Task, Job, JobConstants, height, Starts, Known, known_of, known_numbers, from_frame, frames_of_task, critical_of, outer_reach, outer_of, reach_of, frames_named, TaskInOrder, TasksInOrder, BirthInOrder}
use Rattle.b67_layout_shown.specs.Places.{named, name_among, frame_by, task_by}
use Rattle.b67_layout_shown.proofs.Frames.{Named}
use Rattle.b67_layout_shown.proofs.Names.{named_frames}
use Rattle.b67_layout_shown.proofs.Outer.{name_low, named_from, height_from}
use Rattle.b67_layout_shown.proofs.Reach.{known_by}

-- ---- numbers

first_number : (job : Job) (t : Task) (parents : List ℕ) → BirthInOrder job t parents → 1 ≤ t.number
first_number job t parents b = grind arith

pub task_number : (P : Starts) (constants : JobConstants) (job : Job) (t : Task) → TaskInOrder P constants job t → 1 ≤ t.number
task_number P constants job t own = first_number job t t.parents own.birth

-- ---- no two frames have one name

module _ (rename relabel : ℕ → ℕ) where
  record Counted (identity count low high : ℕ) : Type 0 where
    pub few : count ≤ 1
    pub inside : 1 ≤ count → (low ≤ identity) × (identity < high)

  count_frames : (identity number : ℕ) (fs : List Frame) → Named rename number fs → Counted identity (frames_named identity (map (frame_by rename relabel) fs)) (named number 0) (named number (height fs))
  count_frames identity number [] names = record { few = omega arith; inside = λ h. absurd (omega (arith, h)) }
  count_frames identity number (f ∷ below) names = grind (arith, count_frames identity number below names.1)

  count_tasks : (identity next : ℕ) (ts : List Task) → Falls next (map (λ (t : Task). t.number) ts) → ((t : Task) → Has ts t → Named rename t.number t.frames × (height t.frames < 2 ^ 14))
      → Counted identity (total (λ (t : Task). frames_named identity t.frames) (map (task_by rename relabel) ts)) 0 (named next 0)
  count_tasks identity next [] falls each = record { few = omega arith; inside = λ h. absurd (omega (arith, h)) }
  count_tasks identity next (t ∷ more) falls each =
      let own = each t (inl refl) in
      let a = count_frames identity t.number t.frames own.0 in
      let b = count_tasks identity t.number more falls.1 (λ u there. each u (inr there)) in
      let low = own.1 in
      let number = falls.0 in
      let fa = a.few in
      let fb = b.few in
      elim (cases_eq (frames_named identity (map (frame_by rename relabel) t.frames)) 0) [
        | inl z ↦ record { few = omega (arith, z, fb); inside = λ h. (omega arith, (let i = b.inside (omega (arith, h, z)) in omega (arith, i, number))) }
        | inr z ↦
            let i = a.inside (omega (arith, z)) in
            let none : total (λ (t : Task). frames_named identity t.frames) (map (task_by rename relabel) more) ≡ 0 = elim (cases_eq (total (λ (t : Task). frames_named identity t.frames) (map (task_by rename relabel) more)) 0) [
              | inl e ↦ e
              | inr e ↦ (let k = b.inside (omega (arith, e)) in absurd (omega (arith, k, i)))
            ] in
            record { few = omega (arith, none, fa); inside = λ h. (omega arith, omega (arith, i, low, number)) }
      ]

  -- ---- names fall along a reach

  pub falls_known : (number : ℕ) (fs : List Frame) (rest : List Known) → Named rename number fs → Falls (named number 1) (known_numbers (map (known_by rename) rest))
      → Falls (named number (height fs)) (known_numbers (map (known_by rename) (map known_of fs ++ rest)))
  falls_known number [] rest names h = h
  falls_known number (f ∷ below) rest names h = grind (arith, falls_known number below rest names.1 h)

module _ (P : Starts) (constants : JobConstants) (job : Job) (order : TasksInOrder P constants job) (relabel : ℕ → ℕ) (small : constants.stack_size < 2 ^ 14) where
  pub outer_falls : (parents : List ℕ) (t : Task) → BirthInOrder job t parents → Falls (named t.number 0) (known_numbers (map (known_by (name_among job.tasks)) (outer_reach job t.critical parents)))
  outer_falls [] t birth =
      let one = name_low P constants job order 1 (omega arith) in
      let nil = name_low P constants job order 0 (omega arith) in
      let number = birth.0 in
      (omega (arith, one, number), (omega (arith, one, nil), tt))
  outer_falls (parent ∷ above) t birth =
      let p = birth.parent in
      let found = keyed_has (λ (t : Task). t.number) parent job.tasks p birth.found in
      let own = all_in (TaskInOrder P constants job) job.tasks p order.tasks found.0 in
      let deeper = outer_falls above p (subst (BirthInOrder job p) birth.line own.birth) in
      let fs = from_frame t.critical p.frames in
      let names = named_from (name_among job.tasks) p.number t.critical p.frames (named_frames P constants job p order found.0) in
      let low = height_from t.critical p.frames in
      let high = own.not_higher in
      let older = birth.older in
      let number = found.1 in
      let G : Option Task → Type 0 = λ o. Falls (named t.number 0) (known_numbers (map (known_by (name_among job.tasks)) (map known_of (from_frame t.critical (frames_of_task o)) ++ outer_reach job (critical_of o) above))) in
      let here : G (Some p) = falls_more (named p.number (height fs)) (named t.number 0) (known_numbers (map (known_by (name_among job.tasks)) (map known_of fs ++ outer_reach job p.critical above)))
      (omega (arith, low, high, small, older, number))
      (falls_known (name_among job.tasks) relabel p.number fs (outer_reach job p.critical above) names
      (falls_more (named p.number 0) (named p.number 1) (known_numbers (map (known_by (name_among job.tasks)) (outer_reach job p.critical above))) (omega arith) deeper)) in
      subst G (sym birth.found) here

  pub reach_falls : (t : Task) → Has job.tasks t → t.number < job.next_task → Falls (named (job.next_task + 1) 0) (known_numbers (map (known_by (name_among job.tasks)) (reach_of job t)))
  reach_falls t there born =
      let own = all_in (TaskInOrder P constants job) job.tasks t order.tasks there in
      let high = own.not_higher in
      falls_more (named t.number (height t.frames)) (named (job.next_task + 1) 0) (known_numbers (map (known_by (name_among job.tasks)) (reach_of job t))) (omega (arith, high, small, born))
      (falls_known (name_among job.tasks) relabel t.number t.frames (outer_of job t) (named_frames P constants job t order there)
      (falls_more (named t.number 0) (named t.number 1) (known_numbers (map (known_by (name_among job.tasks)) (outer_of job t))) (omega arith) (outer_falls t.parents t own.birth)))

  pub frames_apart : (identity : ℕ) → total (λ (t : Task). frames_named identity t.frames) (map (task_by (name_among job.tasks) relabel) job.tasks) ≤ 1
  frames_apart identity = (count_tasks (name_among job.tasks) relabel identity job.next_task job.tasks order.numbers (λ t there.
      let own = all_in (TaskInOrder P constants job) job.tasks t order.tasks there in
      let high = own.not_higher in
      (named_frames P constants job t order there, omega (arith, high, small)))).few
